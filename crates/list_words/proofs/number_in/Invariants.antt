-- `number_in` meets its contract. The loop's invariant: the bytes so far are digits, and n is their number. Assumes nothing.
use Rattle.list_words.proofs.WordLaws.{Reading}
use Rattle.list_words.proofs.number_in.Given as goal

abbrev pub invariant-loop-byte : goal.invariant-loop-byte
invariant-loop-byte l =
    Reading l.word l.byte-index l.n
