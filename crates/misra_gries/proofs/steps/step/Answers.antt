-- `step` meets its contract: the fan grown from the edges at the first end, then turned.
use Rattle.misra_gries.proofs.StepLaws.{fan_ready, step_turning, short_take}
use native.Mathlib.Omega.{arith}
use Rattle.misra_gries.proofs.steps.step.Goals as goal

pub grow-len-requires : goal.grow-len-requires
grow-len-requires c = record { fan_ready = fan_ready _ _ _ _ _ _ _ _ c.requires _ c.end_at-node.ensures.answer _ c.edges_at-near.ensures.contents; in_bounds = omega arith }

pub exchange_and_rotate-requires : goal.exchange_and_rotate-requires
exchange_and_rotate-requires c = step_turning _ _ _ _ _ _ _ _ c.requires _ c.end_at-node.ensures.answer _ _ c.end_at-far.ensures.answer c.grow-len.ensures.out (short_take _ _ _ c.grow-len.ensures.bound)
