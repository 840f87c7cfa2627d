use Rattle.std.proofs.Common.{rules, tests, arith, ◌+◌, ◌*◌, refl, get_or}
use Rattle.std.proofs.lemmas.Iterator.{YieldsList-from_range}
use Rattle.std.proofs.lemmas.Iterator.Search.{any_from_yields_List}
use lib.Dec.{eqb}
use Rattle.graph.specs.Edges.{edge_count}
use Rattle.simple_graph.proofs.SimpleLaws.{loop_told}
use Rattle.simple_graph.proofs.has_loop.Goals as goal

pub returns : goal.returns
returns c =
    let ends = c.args.ends.now in
    record {
      answer = loop_told ends c.any.result (any_from_yields_List (λ k. eqb (get_or ends (2 * k) 0) (get_or ends (2 * k + 1) 0)) _ _ c.any.result c.any.ensures.ran
          (YieldsList-from_range 0 (edge_count ends) (edge_count ends) refl (omega arith)) (λ x b q k. search (rules, tests)));
    }
