-- The invariant: the lines of the edges passed are put.
use Rattle.matchday_text.specs.Text.{edge_lines}
use Rattle.matchday_text.specs.Put.{Put}
use Rattle.matchday_text.proofs.lines.put_edges.Given as goal

abbrev pub invariant-loop-k : goal.invariant-loop-k
invariant-loop-k l = Put l.initial.text l.at (edge_lines l.ends l.colors l.k) l.text l.next
