-- `rotate_fan` meets its contract: a fan of one place takes d; any other has room for its colours in an array of 32 places, or of 512.
use Rattle.misra_gries.proofs.StepLaws.{fan_of_one}
use Rattle.misra_gries.proofs.steps.rotate_fan.Goals as goal

pub returns-then-fan-eq1 : goal.returns-then-fan-eq1
returns-then-fan-eq1 c = record { rotated = fan_of_one _ _ _ _ _ _ c.requires c.if-fan-eq1.true _ _ c.repaint.ensures.state }
