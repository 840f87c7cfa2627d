use Rattle.std.proofs.Common.{arith}
use Rattle.fan.proofs.CandidateLaws.{passed_none, passed_skipped}
use Rattle.misra_gries.proofs.MarkedFanLaws.{growing_start, growing_few, growing_low, growing_passed, growing_stop, growing_more}
use Rattle.misra_gries.proofs.grow.grow.Goals as goal

pub loop-len-init : goal.loop-len-init
loop-len-init c = (growing_start _ _ _ _ _ _ _ _ _ c.requires.fan_ready _, passed_none _ _ _ _)

pub returns-in_default : goal.returns-in_default
returns-in_default c =
    let ready = c.requires.fan_ready in
    let l = c.loop-len in
    let passed = passed_skipped _ _ _ _ _ _ c.skip-lo.ensures.answer (growing_passed _ _ _ _ _ _ _ _ _ ready _ _ _ _ l.invariant.0 _ c.set_mark.ensures.marks _ l.invariant.1) in
    record {
      out = growing_stop _ _ _ _ _ _ _ _ _ ready _ _ _ _ l.invariant.0 _ c.set_mark.ensures.marks (omega arith) _ c.far_end-far.ensures.answer _ passed _ c.first_joining.ensures.answer c.in_default.is;
      bound = growing_few _ _ _ _ _ _ _ _ _ ready _ _ _ _ l.invariant.0;
      marks = growing_low _ _ _ _ _ _ _ _ _ ready _ _ _ _ l.invariant.0 _ c.set_mark.ensures.marks;
    }

pub loop-len-preserved : goal.loop-len-preserved
loop-len-preserved c =
    let ready = c.requires.fan_ready in
    let l = c.loop-len in
    let passed = passed_skipped _ _ _ _ _ _ c.skip-lo.ensures.answer (growing_passed _ _ _ _ _ _ _ _ _ ready _ _ _ _ l.invariant.0 _ c.set_mark.ensures.marks _ l.invariant.1) in
    (growing_more _ _ _ _ _ _ _ _ _ ready _ _ _ _ l.invariant.0 _ c.set_mark.ensures.marks (omega arith) _ c.far_end-far.ensures.answer _ passed _ c.first_joining.ensures.answer _ c.in-Some.is, passed)

-- There is room for the next edge.
pub returns : goal.returns
returns c = let z : ⊥ = omega (arith, growing_few _ _ _ _ _ _ _ _ _ c.requires.fan_ready _ _ _ _ c.loop-len.invariant.0) in absurd z
