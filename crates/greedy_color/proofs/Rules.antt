-- Each strategy's colours are greedy; and the call's answers, taken apart.
use Prim.Native.Nat.{ℕ, suc, ◌≤◌, ◌<◌}
use mathlib.Core.List.{List, [], map}
use mathlib.Core.Logic.{◌≢◌, inl, inr}
use mathlib.Core.Path.{◌≡◌, sym, ap, subst, ◌∙◌}
use native.Mathlib.Omega.{arith}
use lib.ListN.{length, length-map, take, replicate, length-replicate}
use lib.Seq.{length-take-le}
use Rattle.lists.specs.Member.{Mem}
use Rattle.lists.proofs.Tests.{dec_eq}
use Rattle.lists.proofs.MemberLaws.{mem_get_or, place_of_lem, mem_map, cover_bound}
use Rattle.graph.specs.Report.{Report, Accepted}
use Rattle.graph.specs.Color.{no_color, days_of}
use Rattle.graph.specs.Colored.{color_of}
use Rattle.graph.proofs.ColorLaws.{color_read}
use Rattle.days.proofs.DaysLaws.{days_gapless}
use Rattle.greedy.specs.Greedy.{Neighborhood, Greedy}
use Rattle.graph.specs.Edges.{edge_count}
use Rattle.graph.specs.Check.{Passed}
use Rattle.greedy.specs.Degree.{degree_order, degree_colors}
use Rattle.greedy.proofs.TurnLaws.{in_order_greedy}
use Rattle.greedy.specs.declared.ColoringStrategy.{ColoringStrategy}
use Rattle.greedy.specs.Call.{Rule, rule_of, greedy_nodes, greedy_nodes_plain, greedy_edges, greedy_edges_plain, PrecoloringKept, ProperNodeColoring, ProperEdgeColoring}
use Rattle.greedy.proofs.CallLaws.{GreedyRule, nodes_accept, edges_accept, precoloring_kept, proper_nodes, edge_precoloring_kept, proper_edges, nodes_plain_same, edges_plain_same, proper_nodes_without_presets, proper_edges_without_presets}
use Rattle.greedy.specs.IndependentSet.{independent_set_colors}
use Rattle.independent_set.proofs.IndependentSetLaws.{independent_set_greedy}
use Rattle.degree.proofs.OrderLaws.{order_member, member_order, order_nodup}

pub degree_greedy : GreedyRule degree_colors
unfolding degree_colors
degree_greedy nb n hood presets l = in_order_greedy nb n hood presets (degree_order nb n presets) l (order_nodup nb n presets) (order_member nb n presets) (member_order nb n presets)

pub independent_set_rule : GreedyRule independent_set_colors
independent_set_rule nb n hood presets l = independent_set_greedy nb n presets hood l

-- Without presets the colours have no gap: the days are the greatest colour plus one.
pub greedy_days : (nb : ℕ → List ℕ) (n : ℕ) (presets colors : List ℕ) → Neighborhood nb n → Greedy nb n presets colors → ((v : ℕ) → v < n → color_of presets v ≡ no_color)
    → (v : ℕ) → v < n → ((w : ℕ) → w < n → color_of colors w ≤ color_of colors v) → days_of colors ≡ suc (color_of colors v)
greedy_days nb n presets colors hood g bare v h greatest = days_gapless colors (suc (color_of colors v)) small below all
  where
    stands : (w : ℕ) → w < n → Mem (color_of colors w) colors
    stands w k = let i : w < length colors = omega (arith, g.size) in rw (color_read colors w 0 i) at (mem_get_or colors w 0 i)

    small : suc (color_of colors v) ≤ no_color
    small =
        let cover = cover_bound (color_of colors v) (map (color_of colors) (nb v)) (λ c k. let r = g.supported v h (bare v h) c k in rw r.3 at (mem_map (color_of colors) r.0 (nb v) r.1)) in
        omega (arith, cover, length-map (nb v) (color_of colors), hood.few v h)

    below : (c : ℕ) → Mem c colors → c ≢ no_color → c < suc (color_of colors v)
    below c p n =
        let r = place_of_lem c colors 0 p in
        omega (arith, r.2, color_read colors r.0 0 r.1, greatest r.0 (omega (arith, r.1, g.size)))

    all : (c : ℕ) → c < suc (color_of colors v) → Mem c colors
    all c k = elim (dec_eq c (color_of colors v)) [
      | inl e ↦ rw e (stands v h)
      | inr d ↦ let r = g.supported v h (bare v h) c (omega arith) in rw r.3 at (stands r.0 (hood.inside v r.0 h r.1))
    ]

-- ---- a call with presets

module _ (rule : Rule) (greedy : GreedyRule rule) (n : ℕ) (ends presets lent : List ℕ) (r : Report ℕ) (colors : List ℕ)
    (a : r ≡ (greedy_nodes rule n ends presets lent).report) (b : colors ≡ (greedy_nodes rule n ends presets lent).colors) where
  pub with_presets : (r ≡ (greedy_nodes rule n ends presets lent).report) × ((colors ≡ (greedy_nodes rule n ends presets lent).colors) × ((Passed n ends → length presets ≡ n → length lent ≡ n → Accepted r) × (PrecoloringKept n presets r colors × ProperNodeColoring n ends presets r colors)))
  with_presets = (a, (b, (nodes_accept rule greedy n ends presets lent r colors a b, (precoloring_kept rule greedy n ends presets lent r colors a b, proper_nodes rule greedy n ends presets lent r colors a b))))

-- ---- the calls without presets: as many empty presets as there are colours, or as there may be items at most

-- The lent part of a list of equal presets has the length asked for.
pub presets_part : (k most preset : ℕ) → k ≤ most → k ≡ length (take k (replicate most preset))
presets_part k most preset h = sym (length-take-le k (replicate most preset) (rw (length-replicate most preset) h))

module _ (n : ℕ) (ends : List ℕ) (k : ℕ) (lent : List ℕ) (r : Report ℕ) (colors : List ℕ) where
  module _ (presets : List ℕ) (e : presets ≡ replicate k no_color) where
    pub nodes_without_presets : (Passed n ends → length lent ≡ n → k ≡ n) → r ≡ (greedy_nodes degree_colors n ends presets lent).report → colors ≡ (greedy_nodes degree_colors n ends presets lent).colors
        → (r ≡ (greedy_nodes_plain degree_colors n ends lent).report) × ((colors ≡ (greedy_nodes_plain degree_colors n ends lent).colors) × ((Passed n ends → length lent ≡ n → Accepted r) × ProperNodeColoring n ends [] r colors))
    nodes_without_presets as_many a b =
        let p = nodes_plain_same degree_colors n ends presets lent (λ h l. e ∙ ap (λ (i : ℕ). replicate i no_color) (as_many h l)) in
        let sized : Passed n ends → length lent ≡ n → length presets ≡ n = λ h l. ap length e ∙ (length-replicate k no_color ∙ as_many h l) in (
          a ∙ p.0,
          (
            b ∙ p.1,
            (
              λ h l. nodes_accept degree_colors degree_greedy n ends presets lent r colors a b h (sized h l) l,
              proper_nodes_without_presets n ends r colors k (subst (λ (x : List ℕ). ProperNodeColoring n ends x r colors) e (proper_nodes degree_colors degree_greedy n ends presets lent r colors a b)),
            ),
          ),
        )

    pub edges_without_presets : (Passed n ends → length lent ≡ edge_count ends → k ≡ edge_count ends) → r ≡ (greedy_edges degree_colors n ends presets lent).report → colors ≡ (greedy_edges degree_colors n ends presets lent).colors
        → (r ≡ (greedy_edges_plain degree_colors n ends lent).report) × ((colors ≡ (greedy_edges_plain degree_colors n ends lent).colors) × ((Passed n ends → length lent ≡ edge_count ends → Accepted r) × ProperEdgeColoring ends [] r colors))
    edges_without_presets as_many a b =
        let p = edges_plain_same degree_colors n ends presets lent (λ h l. e ∙ ap (λ (i : ℕ). replicate i no_color) (as_many h l)) in
        let sized : Passed n ends → length lent ≡ edge_count ends → length presets ≡ edge_count ends = λ h l. ap length e ∙ (length-replicate k no_color ∙ as_many h l) in (
          a ∙ p.0,
          (
            b ∙ p.1,
            (
              λ h l. edges_accept degree_colors degree_greedy n ends presets lent r colors a b h (sized h l) l,
              proper_edges_without_presets ends r colors k (subst (λ (x : List ℕ). ProperEdgeColoring ends x r colors) e (proper_edges degree_colors degree_greedy n ends presets lent r colors a b)),
            ),
          ),
        )

-- ---- the calls by a strategy

-- A call by the strategy that the caller named.
pub by_strategy : (strategy known : ColoringStrategy) → strategy ≡ known → GreedyRule (rule_of known) → (n : ℕ) (ends presets lent : List ℕ) (r : Report ℕ) (colors : List ℕ)
    → r ≡ (greedy_nodes (rule_of known) n ends presets lent).report → colors ≡ (greedy_nodes (rule_of known) n ends presets lent).colors
    → (r ≡ (greedy_nodes (rule_of strategy) n ends presets lent).report) × ((colors ≡ (greedy_nodes (rule_of strategy) n ends presets lent).colors) × ((Passed n ends → length presets ≡ n → length lent ≡ n → Accepted r) × (PrecoloringKept n presets r colors × ProperNodeColoring n ends presets r colors)))
by_strategy strategy known e greedy n ends presets lent r colors a b = rw e (with_presets (rule_of known) greedy n ends presets lent r colors a b)

-- The same, by the names of the call's clauses.
pub clauses_by_strategy : (strategy known : ColoringStrategy) → strategy ≡ known → GreedyRule (rule_of known) → (n : ℕ) (ends presets lent : List ℕ) (r : Report ℕ) (found : List ℕ)
    → r ≡ (greedy_nodes (rule_of known) n ends presets lent).report → found ≡ (greedy_nodes (rule_of known) n ends presets lent).colors
    → record {
      report : r ≡ (greedy_nodes (rule_of strategy) n ends presets lent).report;
      colors : found ≡ (greedy_nodes (rule_of strategy) n ends presets lent).colors;
      accepts : Passed n ends → length presets ≡ n → length lent ≡ n → Accepted r;
      precoloring : PrecoloringKept n presets r found;
      proper : ProperNodeColoring n ends presets r found;
    }
clauses_by_strategy strategy known e greedy n ends presets lent r found a b =
    let p = by_strategy strategy known e greedy n ends presets lent r found a b in
    record { report = p.0; colors = p.1.0; accepts = p.1.1.0; precoloring = p.1.1.1.0; proper = p.1.1.1.1 }

pub edges_by_strategy : (strategy known : ColoringStrategy) → strategy ≡ known → GreedyRule (rule_of known) → (n : ℕ) (ends presets lent : List ℕ) (r : Report ℕ) (colors : List ℕ)
    → r ≡ (greedy_edges (rule_of known) n ends presets lent).report → colors ≡ (greedy_edges (rule_of known) n ends presets lent).colors
    → (r ≡ (greedy_edges (rule_of strategy) n ends presets lent).report) × ((colors ≡ (greedy_edges (rule_of strategy) n ends presets lent).colors) × ((Passed n ends → length presets ≡ edge_count ends → length lent ≡ edge_count ends → Accepted r) × (PrecoloringKept (edge_count ends) presets r colors × ProperEdgeColoring ends presets r colors)))
edges_by_strategy strategy known e greedy n ends presets lent r colors a b =
    rw e (a, (b, (edges_accept (rule_of known) greedy n ends presets lent r colors a b, (edge_precoloring_kept (rule_of known) greedy n ends presets lent r colors a b, proper_edges (rule_of known) greedy n ends presets lent r colors a b))))
