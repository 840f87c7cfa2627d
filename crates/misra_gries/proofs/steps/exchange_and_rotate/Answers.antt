-- `exchange_and_rotate` meets its contract: c and d as the table has them, the path exchanged, the fan rotated up to w.
use native.Mathlib.Omega.{arith}
use Rattle.misra_gries.proofs.StepLaws.{turn_fan, turn_exchanging, turn_count, turn_rotating, turned_alone, turned_along}
use Rattle.misra_gries.proofs.steps.exchange_and_rotate.Goals as goal

pub overflow_sub-last : goal.overflow_sub-last
overflow_sub-last c = turn_fan _ _ _ _ _ _ _ _ c.requires

pub bounds-fan-last : goal.bounds-fan-last
bounds-fan-last c = omega (arith, turn_fan _ _ _ _ _ _ _ _ c.requires)

pub exchange_path-len-requires : goal.exchange_path-len-requires
exchange_path-len-requires c = turn_exchanging _ _ _ _ _ _ _ _ c.requires _ _ _ c.far_end-end.ensures.answer c.smallest_free-c.ensures.answer c.smallest_free-d.ensures.answer

pub slice_bounds-rotate_fan-end : goal.slice_bounds-rotate_fan-end
slice_bounds-rotate_fan-end c = turn_count _ _ _ _ _ _ _ _ c.requires _ _ _ c.far_end-end.ensures.answer c.smallest_free-c.ensures.answer c.smallest_free-d.ensures.answer _ _ _ c.exchange_path-len.ensures.exchanged _ c.places_to-count.ensures.answer

pub rotate_fan-requires : goal.rotate_fan-requires
rotate_fan-requires c = turn_rotating _ _ _ _ _ _ _ _ c.requires _ _ _ c.far_end-end.ensures.answer c.smallest_free-c.ensures.answer c.smallest_free-d.ensures.answer _ _ _ c.exchange_path-len.ensures.exchanged _ c.places_to-count.ensures.answer

pub returns-then-len-eq0 : goal.returns-then-len-eq0
returns-then-len-eq0 c = record { turned = turned_alone _ _ _ _ _ _ _ _ c.requires _ _ _ c.far_end-end.ensures.answer c.smallest_free-c.ensures.answer c.smallest_free-d.ensures.answer _ _ _ c.exchange_path-len.ensures.exchanged _ c.places_to-count.ensures.answer _ _ c.rotate_fan.ensures.rotated c.if-len-eq0.true }

pub returns-else-len-eq0 : goal.returns-else-len-eq0
returns-else-len-eq0 c = record { turned = turned_along _ _ _ _ _ _ _ _ c.requires _ _ _ c.far_end-end.ensures.answer c.smallest_free-c.ensures.answer c.smallest_free-d.ensures.answer _ _ _ c.exchange_path-len.ensures.exchanged _ c.places_to-count.ensures.answer _ _ c.rotate_fan.ensures.rotated c.if-len-eq0.false }
