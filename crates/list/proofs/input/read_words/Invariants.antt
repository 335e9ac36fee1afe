-- `input::read_words` meets its contract. The loop's invariant: the words so far lie within the text, which keeps its length. Assumes nothing.
use Rattle.std.proofs.Common.{◌≡◌, ◌≤◌, length}
use Rattle.list.proofs.input.read_words.Given as goal

abbrev pub invariant-loop-i : goal.invariant-loop-i
invariant-loop-i l =
    (l.size ≤ length l.text) × (length l.text ≡ length l.initial.text)
