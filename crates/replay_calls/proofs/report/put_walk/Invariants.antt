-- The measure: the edges from the walk's place on.
use Rattle.std.proofs.Common.{length, ◌-◌}
use Rattle.graph.specs.Stretch.{stretch}
use Rattle.replay_calls.proofs.report.put_walk.Given as goal

abbrev pub decreases-loop-edge : goal.decreases-loop-edge
decreases-loop-edge g l = length (stretch l.starts l.entries l.node.0) - l.at
