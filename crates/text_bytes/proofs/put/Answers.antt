-- `text_bytes::put` meets its contract. Assumes nothing.
use mathlib.Core.Path.{refl}
use Rattle.text_bytes.proofs.Pieces.{put_part}
use Rattle.text_bytes.proofs.put.Goals as goal

pub returns : goal.returns
returns c =
    record { stored = put_part c.args.text.now c.args.word.now c.copy_from_slice.new.self c.args.from c.requires.fits c.copy_from_slice.ensures.after; past = refl }
