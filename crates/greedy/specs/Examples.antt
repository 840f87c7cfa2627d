-- Greedy colouring worked out: the proof sheet's cases and others, as rows that hold by computation.
use Rattle.std.specs.Prelude.{ℕ, Bool, true, false, not, ◌&&◌, List, [], ◌∷◌, ◌≡◌, refl}
use Rattle.std.proofs.Math.Bool.{xor}
use Rattle.lists.specs.Member.{elem}
use Rattle.lists.specs.Equal.{equal}
use Rattle.lists.specs.Different.{distinct, different}
use Rattle.lists.specs.Search.{all_below}
use Rattle.graph.specs.Report.{accepted}
use Rattle.graph.specs.Check.{first_refusal, answered, written, graph_checks}
use Rattle.graph.specs.Edges.{first_end, second_end, is_loop, far_end, second_at, first_edges, second_edges, edges_at, edge_count, neighbors}
use Rattle.graph.specs.Color.{colored, colors_in, days_of, smallest_free, smallest_from, no_color}
use Rattle.graph.specs.Colored.{color_of, is_colored, colored_among, smallest_free_at}
use Rattle.graph.specs.Rows.{Row, same_report, holds, all_hold}
use Rattle.line_list.specs.LineList.{pairs_with, pairs_of, line_pairs}
use Rattle.greedy.specs.Turn.{uncolored, color_item}
use Rattle.greedy.specs.Degree.{insert_by_degree, by_degree, color_in_order, degree_order, degree_colors}
use Rattle.greedy.specs.Saturation.{uncolored_among, saturation, uncolored_neighbors, greater, greatest, saturation_from, saturation_colors, none_greater, legal_turn, legal_run}
use Rattle.greedy.specs.IndependentSet.{place_of, take_out, put_off, put_off_all, put_off_presets, color_listed, round, rounds, independent_set_colors}
use Rattle.greedy.specs.Call.{item_checks, greedy_items, greedy_items_plain, greedy_nodes, greedy_nodes_plain, edge_neighbors, greedy_edges, greedy_edges_plain}

-- The edges (0,1),(1,2),(2,3).
abbrev path : List ℕ
path = 0 ∷ 1 ∷ 1 ∷ 2 ∷ 2 ∷ 3 ∷ []

abbrev no_presets : List ℕ
no_presets = no_color ∷ no_color ∷ no_color ∷ no_color ∷ []

abbrev lent : List ℕ
lent = 9 ∷ 9 ∷ 9 ∷ 9 ∷ []

unfoldable pub rows : List Row
rows =
    -- P6: Degree (0,1),(0,2): 0,1,1
    record { outcome = greedy_nodes_plain degree_colors 3 (0 ∷ 1 ∷ 0 ∷ 2 ∷ []) (9 ∷ 9 ∷ 9 ∷ []); report = accepted 2; colors = 0 ∷ 1 ∷ 1 ∷ [] }
    -- P7: node 0 preset 1: 1,0,0
    ∷ record { outcome = greedy_nodes degree_colors 3 (0 ∷ 1 ∷ 0 ∷ 2 ∷ []) (1 ∷ no_color ∷ no_color ∷ []) (9 ∷ 9 ∷ 9 ∷ []); report = accepted 2; colors = 1 ∷ 0 ∷ 0 ∷ [] }
    -- P8: (0,1) presets 4,4: 4,4, one day; sees a colour counted twice
    ∷ record { outcome = greedy_nodes degree_colors 2 (0 ∷ 1 ∷ []) (4 ∷ 4 ∷ []) (9 ∷ 9 ∷ []); report = accepted 1; colors = 4 ∷ 4 ∷ [] }
    -- Degree (0,1),(1,2),(2,3): 1,0,1,0; sees an unstable order, and degrees rising
    ∷ record { outcome = greedy_nodes_plain degree_colors 4 path lent; report = accepted 2; colors = 1 ∷ 0 ∷ 1 ∷ 0 ∷ [] }
    -- P9: Saturation (0,1),(1,2),(2,3): 1,0,1,0
    ∷ record { outcome = greedy_nodes saturation_colors 4 path no_presets lent; report = accepted 2; colors = 1 ∷ 0 ∷ 1 ∷ 0 ∷ [] }
    -- Saturation (0,1),(0,4),(1,3),(2,3),(2,4): 0,1,1,0,2; sees the two counts exchanged
    ∷ record {
      outcome = greedy_nodes saturation_colors 5 (0 ∷ 1 ∷ 0 ∷ 4 ∷ 1 ∷ 3 ∷ 2 ∷ 3 ∷ 2 ∷ 4 ∷ []) (no_color ∷ no_presets) (9 ∷ lent);
      report = accepted 3;
      colors = 0 ∷ 1 ∷ 1 ∷ 0 ∷ 2 ∷ [];
    }
    -- Saturation (0,1),(0,2),(1,2),(1,2): 1,0,2; sees a double edge counted once
    ∷ record {
      outcome = greedy_nodes saturation_colors 3 (0 ∷ 1 ∷ 0 ∷ 2 ∷ 1 ∷ 2 ∷ 1 ∷ 2 ∷ []) (no_color ∷ no_color ∷ no_color ∷ []) (9 ∷ 9 ∷ 9 ∷ []);
      report = accepted 3;
      colors = 1 ∷ 0 ∷ 2 ∷ [];
    }
    -- P10: IndependentSet (0,1),(1,2),(2,3): 0,1,2,0; sees a removal that keeps the order
    ∷ record { outcome = greedy_nodes independent_set_colors 4 path no_presets lent; report = accepted 3; colors = 0 ∷ 1 ∷ 2 ∷ 0 ∷ [] }
    -- IndependentSet (0,1),(0,2),(1,3), nodes 2 and 3 preset 0: 1,2,0,0; sees presets visited by falling number
    ∷ record {
      outcome = greedy_nodes independent_set_colors 4 (0 ∷ 1 ∷ 0 ∷ 2 ∷ 1 ∷ 3 ∷ []) (no_color ∷ no_color ∷ 0 ∷ 0 ∷ []) lent;
      report = accepted 3;
      colors = 1 ∷ 2 ∷ 0 ∷ 0 ∷ [];
    }
    -- P12: greedy_edge_color (0,1),(1,2),(0,2),(2,3): 2,0,1,2
    ∷ record { outcome = greedy_edges_plain degree_colors 4 (0 ∷ 1 ∷ 1 ∷ 2 ∷ 0 ∷ 2 ∷ 2 ∷ 3 ∷ []) lent; report = accepted 3; colors = 2 ∷ 0 ∷ 1 ∷ 2 ∷ [] }
    -- "A list with two matches, preset on days 9 and 0": two days (02, Point 4); sees the greatest colour plus one
    ∷ record { outcome = greedy_edges degree_colors 4 (0 ∷ 1 ∷ 2 ∷ 3 ∷ []) (9 ∷ 0 ∷ []) (8 ∷ 8 ∷ []); report = accepted 2; colors = 9 ∷ 0 ∷ [] }
    ∷ []

pub examples : all_hold rows ≡ true
unfolding all_hold rows holds same_report equal elem distinct different all_below first_refusal answered written graph_checks first_end second_end is_loop far_end second_at first_edges second_edges edges_at neighbors colored days_of colors_in smallest_free smallest_from color_of is_colored colored_among smallest_free_at pairs_with pairs_of line_pairs uncolored color_item insert_by_degree by_degree color_in_order degree_order degree_colors uncolored_among saturation uncolored_neighbors greater greatest saturation_from saturation_colors place_of take_out put_off put_off_all put_off_presets color_listed round rounds independent_set_colors item_checks greedy_items greedy_items_plain greedy_nodes greedy_nodes_plain edge_neighbors greedy_edges greedy_edges_plain
examples = refl

-- ---- runs of Saturation over the nodes of a graph

-- The presets, the nodes in the order of their turns, the colours afterwards, and whether such a run is legal.
pub record Run : Type 0 where
  pub n : ℕ
  pub ends : List ℕ
  pub presets : List ℕ
  pub order : List ℕ
  pub colors : List ℕ
  pub legal : Bool

unfoldable pub as_said : Run → Bool
as_said r = not (xor (legal_run (neighbors r.ends (edge_count r.ends)) r.n r.presets r.order r.colors) r.legal)

unfoldable pub all_as_said : List Run → Bool
all_as_said [] = true
all_as_said (r ∷ rs) = as_said r && all_as_said rs

unfoldable pub runs : List Run
runs =
    -- P9, its other half: 0,1,0,1 is legal too
    record { n = 4; ends = path; presets = no_presets; order = 2 ∷ 1 ∷ 0 ∷ 3 ∷ []; colors = 0 ∷ 1 ∷ 0 ∷ 1 ∷ []; legal = true }
    -- the first node has fewer uncoloured neighbours than another
    ∷ record { n = 4; ends = path; presets = no_presets; order = 3 ∷ 2 ∷ 1 ∷ 0 ∷ []; colors = 1 ∷ 0 ∷ 1 ∷ 0 ∷ []; legal = false }
    -- node 1 takes 2, which is not its smallest
    ∷ record { n = 4; ends = path; presets = no_presets; order = 2 ∷ 1 ∷ 0 ∷ 3 ∷ []; colors = 0 ∷ 2 ∷ 0 ∷ 1 ∷ []; legal = false }
    -- node 3 has no turn
    ∷ record { n = 4; ends = path; presets = no_presets; order = 2 ∷ 1 ∷ 0 ∷ []; colors = 0 ∷ 1 ∷ 0 ∷ no_color ∷ []; legal = false }
    -- a preset node has a turn
    ∷ record { n = 2; ends = []; presets = 4 ∷ no_color ∷ []; order = 0 ∷ 1 ∷ []; colors = 0 ∷ 0 ∷ []; legal = false }
    -- a preset node has another colour afterwards
    ∷ record { n = 2; ends = []; presets = 4 ∷ no_color ∷ []; order = 1 ∷ []; colors = 3 ∷ 0 ∷ []; legal = false }
    ∷ []

pub run_examples : all_as_said runs ≡ true
unfolding all_as_said runs as_said xor equal elem distinct different first_end second_end is_loop far_end second_at first_edges second_edges edges_at neighbors smallest_free smallest_from color_of is_colored colored_among smallest_free_at uncolored uncolored_among saturation uncolored_neighbors greater none_greater legal_turn legal_run
run_examples = refl
