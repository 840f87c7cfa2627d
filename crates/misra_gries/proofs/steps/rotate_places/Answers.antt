-- `rotate_places` meets its contract: the new colours are read, then the fan's places take them.
use Rattle.misra_gries.proofs.StepLaws.{fan_rotated}
use Rattle.misra_gries.proofs.steps.rotate_places.Goals as goal

pub returns : goal.returns
returns c = record { rotated = fan_rotated _ _ _ _ _ _ c.requires _ _ c.shift_colors.ensures.out c.requires.fits _ _ c.repaint.ensures.state }
