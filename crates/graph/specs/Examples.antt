-- Incidence tables and days as rows, held against the definitions by computation.
use Rattle.std.specs.Prelude.{ℕ, Bool, true, ◌&&◌, List, [], ◌∷◌, ◌≡◌, refl, eqb}
use Rattle.lists.specs.Member.{elem}
use Rattle.lists.specs.Different.{distinct, different}
use Rattle.lists.specs.Equal.{equal}
use Rattle.lists.specs.Search.{all_below}
use Rattle.lists.specs.Tabulate.{tabulate}
use Rattle.graph.specs.Report.{Report, accepted}
use Rattle.graph.specs.Check.{first_refusal, answered, written, graph_checks}
use Rattle.graph.specs.Edges.{first_end, second_end, is_loop, second_at, first_edges, second_edges, edges_at}
use Rattle.graph.specs.Table.{IncidenceOutcome, entries_below, start_of, starts_below, incidence_checks, incidence_of}
use Rattle.graph.specs.Color.{no_color, colors_in, days_of}
use Rattle.graph.specs.Rows.{same_report}

-- A row: the outcome that the definition gives, and what is expected of its report and of both slices afterwards.
pub record IncidenceRow : Type 0 where
  pub outcome : IncidenceOutcome
  pub report : Report ℕ
  pub starts : List ℕ
  pub entries : List ℕ

unfoldable pub table_holds : IncidenceRow → Bool
table_holds r = same_report r.outcome.report r.report && equal r.outcome.starts r.starts && equal r.outcome.entries r.entries

unfoldable pub tables_hold : List IncidenceRow → Bool
tables_hold [] = true
tables_hold (r ∷ rs) = table_holds r && tables_hold rs

unfoldable pub tables : List IncidenceRow
tables =
    -- the list of P11, (0,1),(0,2),(1,2),(0,3): edges 3,1,0 at node 0, then 2,0, then 2,1, then 3; sees edges at a node oldest first
    record {
      outcome = incidence_of 4 (0 ∷ 1 ∷ 0 ∷ 2 ∷ 1 ∷ 2 ∷ 0 ∷ 3 ∷ []) (9 ∷ 9 ∷ 9 ∷ 9 ∷ 9 ∷ []) (9 ∷ 9 ∷ 9 ∷ 9 ∷ 9 ∷ 9 ∷ 9 ∷ 9 ∷ []);
      report = accepted 8;
      starts = 0 ∷ 3 ∷ 5 ∷ 7 ∷ 8 ∷ [];
      entries = 3 ∷ 1 ∷ 0 ∷ 2 ∷ 0 ∷ 2 ∷ 1 ∷ 3 ∷ [];
    }
    -- (0,1),(2,0): edges 0,1 at node 0; sees the two groups mixed into one, and second ends first
    ∷ record {
      outcome = incidence_of 3 (0 ∷ 1 ∷ 2 ∷ 0 ∷ []) (9 ∷ 9 ∷ 9 ∷ 9 ∷ []) (9 ∷ 9 ∷ 9 ∷ 9 ∷ []);
      report = accepted 4;
      starts = 0 ∷ 2 ∷ 3 ∷ 4 ∷ [];
      entries = 0 ∷ 1 ∷ 0 ∷ 1 ∷ [];
    }
    -- (0,0): one entry, and the last stays as lent; sees a loop that stands twice
    ∷ record {
      outcome = incidence_of 1 (0 ∷ 0 ∷ []) (9 ∷ 9 ∷ []) (9 ∷ 8 ∷ []);
      report = accepted 1;
      starts = 0 ∷ 1 ∷ [];
      entries = 0 ∷ 8 ∷ [];
    }
    ∷ []

pub examples : tables_hold tables ≡ true
unfolding tables_hold table_holds tables same_report equal incidence_of incidence_checks graph_checks first_refusal answered written all_below start_of starts_below tabulate entries_below edges_at first_edges second_edges second_at is_loop first_end second_end
examples = refl

-- A row: a list of colours, and its days.
pub record DaysRow : Type 0 where
  pub colors : List ℕ
  pub days : ℕ

unfoldable pub days_hold : List DaysRow → Bool
days_hold [] = true
days_hold (r ∷ rs) = eqb (days_of r.colors) r.days && days_hold rs

unfoldable pub days : List DaysRow
days =
    -- "A list with two matches, preset on days 9 and 0"; sees the greatest colour plus one
    record { colors = 9 ∷ 0 ∷ []; days = 2 }
    -- sees a colour counted twice
    ∷ record { colors = 1 ∷ 4 ∷ 1 ∷ 1 ∷ []; days = 2 }
    -- sees 65,535 counted
    ∷ record { colors = no_color ∷ 3 ∷ no_color ∷ []; days = 1 }
    ∷ record { colors = []; days = 0 }
    ∷ []

pub days_examples : days_hold days ≡ true
unfolding days_hold days days_of colors_in different distinct elem
days_examples = refl
