-- What the step of one edge asks and does, with its fan, its tally, and the run.
use Rattle.std.specs.Prelude.{ℕ, zero, suc, ◌≤◌, ◌<◌, ◌+◌, ◌-◌, ◌≡◌, ◌≢◌, List, length, get_or, drop, take, cond, eqb, ltb}
use Rattle.graph.specs.Edges.{first_end, edges_at, edge_count, second_end}
use Rattle.graph.specs.Color.{no_color, Outcome, colored}
use Rattle.vizing.specs.MisraGries.{is_free, fan_of, path, exchange, store, Found, find, step, greatest_color, Held, step_held}
use Rattle.edge_table.specs.EdgeTable.{is_empty, exchanged_colors, rotated_colors}
use Rattle.graph.specs.Stretch.{Table}
use Rattle.vizing.specs.Demand3.{Admitted, max_degree}
use Rattle.vizing.specs.Step.{Invariant}
use Rattle.vizing.specs.AddEdge.{stored_checks, stored_list}
use Rattle.repaint.specs.Repaint.{TableOf, Repaintable}
use Rattle.vizing.specs.MisraGries as definition
use Rattle.misra_gries.specs.declared.tally.Tally.{Tally}

-- ---- What the code grows the fan of an edge from: the marks and the edge table.

-- What the fan of edge k is grown from: its first end u, the edges at u, marks below the stamp s with a place for each edge, and a
-- table that says of every colour at every node whether it is free in l.
pub record FanReady (ends : List ℕ) (m : ℕ) (l T M : List ℕ) (s : ℕ) (near : List ℕ) (k u : ℕ) : Type 0 where
  pub edge : k < m
  pub node : u ≡ first_end ends k
  pub candidates : near ≡ edges_at ends m u
  pub few : length near ≤ 512
  pub size : m ≤ length M
  pub unmarked : (j : ℕ) → get_or M j 0 < s
  pub says_free : (x c : ℕ) → c ≢ no_color → is_empty T x c ≡ is_free l (edges_at ends m x) c

-- ---- What the step of one edge asks, and what it does.

-- The colours from 0 to D.
abbrev pub InRange : ℕ → List ℕ → ℕ → Type 0
InRange n ends c = c ≤ max_degree ends (edge_count ends) n

-- The list before edge k's step is one that the invariant allows, the table is its table, and no edge has the step's stamp, k + 1.
pub record Ready (n : ℕ) (ends starts entries work table marks : List ℕ) (k : ℕ) : Type 0 where
  pub admitted : Admitted n ends
  pub rows : Table ends n starts entries
  pub edge : k < edge_count ends
  pub kept : Invariant ends (edge_count ends) (InRange n ends) k work
  pub tabled : TableOf ends (edge_count ends) work table
  pub size : edge_count ends ≤ length marks
  pub unmarked : (j : ℕ) → get_or marks j 0 < k + 1

-- The greatest of the new colours that may be greater than all before: d if the path is empty, else c.
unfoldable pub top_color : Found → ℕ
top_color f = cond (eqb (length f.path) 0) f.d f.c

-- The working list is the definition's after step k, with its table.
pub record Stepped (n : ℕ) (ends starts entries work table marks : List ℕ) (k color : ℕ) (work' table' marks' : List ℕ) : Type 0 where
  pub list : work' ≡ step ends (edge_count ends) n work k
  pub tabled : TableOf ends (edge_count ends) work' table'
  pub top : color ≡ top_color (find ends (edge_count ends) n work k)
  pub size : length marks' ≡ length marks
  pub marked : (j : ℕ) → get_or marks' j 0 ≤ k + 1

-- ---- the parts of a step

-- What the exchange of the path from u along d, c asks: the table is right, the colours are colours, and the path's edges may take theirs exchanged.
pub record Exchanging (ends : List ℕ) (n : ℕ) (work table : List ℕ) (u c d : ℕ) : Type 0 where
  pub tabled : TableOf ends (edge_count ends) work table
  pub nodes : n ≤ 512
  pub c_color : c ≢ no_color
  pub d_color : d ≢ no_color
  pub allowed : Repaintable ends (edge_count ends) work (path ends (edge_count ends) n work u d c) (exchanged_colors work c d (path ends (edge_count ends) n work u d c))

-- What it does: the path's edges have their colours exchanged, the table is right again, and `count` is how many they are.
pub record Exchanged (n : ℕ) (ends work : List ℕ) (u c d count : ℕ) (work' table' : List ℕ) : Type 0 where
  pub count_is : count ≡ length (path ends (edge_count ends) n work u d c)
  pub list : work' ≡ exchange work c d (path ends (edge_count ends) n work u d c)
  pub tabled : TableOf ends (edge_count ends) work' table'

-- What the rotation of the fan's places asks: the table is right, the places may take their new colours, and there are some, at most `room`.
pub record Rotating (ends work table fan : List ℕ) (d room : ℕ) : Type 0 where
  pub tabled : TableOf ends (edge_count ends) work table
  pub allowed : Repaintable ends (edge_count ends) work fan (rotated_colors work (drop 1 fan) d)
  pub some : 1 ≤ length fan
  pub fits : length fan ≤ room

-- What it does: each place has the colour of the next, the last has d, and the table is right again.
pub record Rotated (ends work fan : List ℕ) (d : ℕ) (work' table' : List ℕ) : Type 0 where
  pub list : work' ≡ store work fan (rotated_colors work (drop 1 fan) d)
  pub tabled : TableOf ends (edge_count ends) work' table'

-- What steps 2 to 5 ask: the fan of edge k at u, its first end.
pub record Turning (n : ℕ) (ends work table fan : List ℕ) (k u v : ℕ) : Type 0 where
  pub admitted : Admitted n ends
  pub edge : k < edge_count ends
  pub kept : Invariant ends (edge_count ends) (InRange n ends) k work
  pub tabled : TableOf ends (edge_count ends) work table
  pub first : u ≡ first_end ends k
  pub second : v ≡ second_end ends k
  pub fan_of_lem : fan ≡ fan_of ends (edge_count ends) work k
  pub small : length fan ≤ 512

-- What they do.
pub record Turned (n : ℕ) (ends work : List ℕ) (k color : ℕ) (work' table' : List ℕ) : Type 0 where
  pub list : work' ≡ step ends (edge_count ends) n work k
  pub tabled : TableOf ends (edge_count ends) work' table'
  pub top : color ≡ top_color (find ends (edge_count ends) n work k)

-- ---- The tally that the code keeps, after one edge more.

-- The definition's tally with these two numbers.
abbrev pub tally_of : Tally → definition.Tally
tally_of t = record { edges = t.edges; greatest = t.greatest }

-- The days of colours without a gap.
abbrev pub tally_days : Tally → ℕ
tally_days t = cond (eqb t.edges 0) 0 (t.greatest + 1)

-- one edge more, of the colour c
abbrev pub noted_of : Tally → ℕ → Tally
noted_of t c = record {
  edges = t.edges + 1;
  greatest = cond (ltb t.greatest c) c t.greatest;
}

-- ---- The run: the working list, its table, the marks and the tally before edge k's turn.

-- The working list and the tally as the definition holds them.
abbrev pub held_of : List ℕ → Tally → Held
held_of work t = record { list = work; tally = tally_of t }

module _ (ends : List ℕ) (m n : ℕ) where
  -- What is held after the steps of `count` edges from k on.
  unfoldable pub steps_from : Held → ℕ → ℕ → Held
  steps_from h k zero = h
  steps_from h k (suc count) = steps_from (step_held ends m n h k) (suc k) count

-- The first k edges have colours from 0 to D, those sharing an end different ones, the others none; the table is theirs, the marks are older than
-- edge k's, and the tally counts them.
pub record Running (n : ℕ) (ends starts entries work table marks : List ℕ) (t : Tally) (k : ℕ) : Type 0 where
  pub admitted : Admitted n ends
  pub rows : Table ends n starts entries
  pub bound : k ≤ edge_count ends
  pub kept : Invariant ends (edge_count ends) (InRange n ends) k work
  pub tabled : TableOf ends (edge_count ends) work table
  pub size : edge_count ends ≤ length marks
  pub unmarked : (j : ℕ) → get_or marks j 0 < k + 1
  pub edges : t.edges ≡ k
  pub greatest : t.greatest ≡ greatest_color work

-- ---- All edges but those whose colours are stored

-- The stored colours, in a working list and tallied.
abbrev pub stored_held : List ℕ → Held
stored_held stored = record { list = stored_list stored; tally = record { edges = length stored; greatest = greatest_color stored } }

-- Refused by 11 if the stored colours are not proper, or else the colours after the steps of all edges from the first without one on.
unfoldable pub from_stored : ℕ → List ℕ → List ℕ → List ℕ → Outcome
from_stored n ends stored lent =
    let m = edge_count ends in
    colored (stored_checks n ends stored) lent (take m (steps_from ends m n (stored_held stored) (length stored) (m - length stored)).list)
