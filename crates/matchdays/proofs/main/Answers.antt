-- `main` is safe: its buffer has room for more than a file may have, and the text of every file has room in the other.
use mathlib.Core.Path.{sym}
use native.Mathlib.Omega.{arith}
use lib.Seq.{length-take-le}
use Rattle.matchday_text.proofs.CallLaws.{text_fits}
use Rattle.matchdays.proofs.main.Goals as goal

pub slice_bounds-text-end : goal.slice_bounds-text-end
slice_bounds-text-end c = omega (arith, text_fits _ _ c.text_of-length.ensures.answer)

pub slice_bounds-write_all-end : goal.slice_bounds-write_all-end
slice_bounds-write_all-end c = sym (length-take-le _ _ (omega (arith, c.text_of-length.auto.text, text_fits _ _ c.text_of-length.ensures.answer)))
