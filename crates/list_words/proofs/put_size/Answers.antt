-- `put_size` meets its contract: the bytes of a size are std's. Assumes nothing.
use mathlib.Core.Path.{◌≡◌, ap, ◌∙◌}
use mathlib.Core.List.{◌++◌}
use native.Mathlib.Omega.{arith}
use lib.ListN.{length, take}
use Rattle.std.proofs.lemmas.Slice.{take-put_mid}
use Rattle.list_words.specs.Words.{size_bytes}
use Rattle.list_words.proofs.put_size.Goals as goal

pub returns : goal.returns
unfolding size_bytes
returns c =
    let e = c.copy_from_slice.ensures.after ∙ c.to_le_bytes.ensures in
    let n : length c.copy_from_slice.new.self ≡ 4 = ap length e in
    take-put_mid c.args.at _ c.args.sizes.now c.copy_from_slice.new.self _ (omega arith) (omega arith) ∙ ap (λ l. take c.args.at c.args.sizes.now ++ l) e
