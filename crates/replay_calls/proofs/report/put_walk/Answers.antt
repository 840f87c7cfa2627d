-- Each step of the walk goes on to the next edge.
use native.Mathlib.Omega.{arith}
use Rattle.edge_walk.proofs.WalkLaws.{step_edge}
use Rattle.replay_calls.proofs.report.put_walk.Goals as goal

pub loop-edge-smaller : goal.loop-edge-smaller
loop-edge-smaller g c =
    let edge = step_edge _ _ _ _ _ c.edge_at.ensures.answer c.in-Some.is in
    omega arith
