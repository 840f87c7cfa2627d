-- `color_nodes` meets its contract: all edges are taken in, and each node has the colour of its side, or one edge is inside one side.
use mathlib.Core.Path.{◌∙◌}
use mathlib.Core.Bool.{true≢false, false≢true}
use native.Mathlib.Omega.{arith}
use Rattle.two_color.proofs.ComponentsLaws.{joined_none, room_passed, taken_fine, taken_clash, colored_all}
use Rattle.two_color.proofs.components.color_nodes.Goals as goal

pub join_edges-requires : goal.join_edges-requires
join_edges-requires c = let size = c.start.auto.up ∙ c.requires.up_len.0 in record { passed = room_passed _ _ _ c.args.graph.passed size; joined = joined_none _ c.start.new.up _ (λ v h. c.start.ensures.up v (omega (arith, c.start.auto.up))) size c.requires.up_len.1 }

pub returns-then-not-join_edges : goal.returns-then-not-join_edges
returns-then-not-join_edges c = record {
  nodes_colored = record {
    even = λ e. absurd (false≢true e);
    sided = λ e. absurd (false≢true e);
    odd = λ e. taken_clash _ _ _ _ _ c.join_edges.ensures.taken c.if-not-join_edges.true;
  };
}

pub write_sides-requires : goal.write_sides-requires
write_sides-requires c = record { forest = (taken_fine _ _ _ _ _ c.join_edges.ensures.taken c.if-not-join_edges.false).1.forest; n_in_bounds = (omega (arith, c.args.graph.passed.nodes, c.requires.up_len.0, c.join_edges.auto.up, c.start.auto.up), omega (arith, c.args.graph.passed.nodes, c.requires.up_len.2)) }

pub returns : goal.returns
returns c = let t = taken_fine _ _ _ _ _ c.join_edges.ensures.taken c.if-not-join_edges.false in
    record {
      nodes_colored = record {
        even = λ e. t.0;
        sided = λ e. colored_all _ _ _ _ (c.write_sides.ensures.sides _ _ t.1) (omega (arith, c.args.graph.passed.nodes, c.requires.up_len.2, c.write_sides.auto.sides));
        odd = λ e. absurd (true≢false e);
      };
    }
