-- What each caller relies on, of a call's report and of its slice afterwards.
use Rattle.std.specs.Prelude.{ℕ, ◌-◌, ◌*◌, ◌≤◌, ◌<◌, ◌≡◌, ◌⊎◌, ◌≢◌, List, Bool, length, get_or, take}
use Rattle.graph.specs.Report.{Report, accepted, refused, Accepted}
use Rattle.graph.specs.Check.{Passed}
use Rattle.graph.specs.Edges.{edge_count, first_end, second_end, At}
use Rattle.graph.specs.Color.{no_color}
use Rattle.graph.specs.Colored.{color_of}
use Rattle.vizing.specs.Demand3.{max_degree, Admitted}
use Rattle.vizing.specs.MisraGries.{misra_gries}

-- ---- the date table

-- Clubs are nodes, matches are edges, days are colours.

-- Of the first m matches, two of one club have different days.
abbrev pub NoClubTwice : List ℕ → ℕ → List ℕ → Type 0
NoClubTwice ends m colors = (i j v : ℕ) → i < m → j < m → i ≢ j → At ends i v → At ends j v → color_of colors i ≢ color_of colors j

-- None of the first m matches has a day above D, the most matches that a club has in the whole list.
abbrev pub NoDayAboveD : ℕ → List ℕ → ℕ → List ℕ → Type 0
NoDayAboveD n ends m colors = (k : ℕ) → k < m → color_of colors k ≤ max_degree ends (edge_count ends) n

pub record EdgesProperlyColored (n : ℕ) (ends lent : List ℕ) (report : Report ℕ) (colors : List ℕ) : Type 0 where
  -- Every admitted list of matches is accepted;
  pub accepts : Admitted n ends → length lent ≡ edge_count ends → Accepted report
  -- then every match has a day,
  pub colored : (days : ℕ) → report ≡ accepted days → (k : ℕ) → k < edge_count ends → color_of colors k ≢ no_color
  -- and two matches of one club have different days.
  pub differ : (days : ℕ) → report ≡ accepted days → NoClubTwice ends (edge_count ends) colors

-- The last match comes late, when the others have their days.
pub record LateMatchProperlyColored (n : ℕ) (ends stored lent : List ℕ) (report : Report ℕ) (colors : List ℕ) : Type 0 where
  -- Every admitted list of matches is accepted, whatever days the others have, if none is above D and no club has two matches on one;
  pub accepts : Admitted n ends → length stored ≡ edge_count ends - 1 → length lent ≡ edge_count ends
      → NoDayAboveD n ends (length stored) stored → NoClubTwice ends (length stored) stored → Accepted report
  -- then every match has a day,
  pub colored : (days : ℕ) → report ≡ accepted days → (k : ℕ) → k < edge_count ends → color_of colors k ≢ no_color
  -- two matches of one club have different days,
  pub differ : (days : ℕ) → report ≡ accepted days → NoClubTwice ends (edge_count ends) colors
  -- and no day is above D.
  pub range : (days : ℕ) → report ≡ accepted days → NoDayAboveD n ends (edge_count ends) colors
  -- If the others have the days that misra_gries_edge_color gives them, all is as it gives the whole list.
  pub afresh : (places : List ℕ) → length places ≡ edge_count ends - 1 → stored ≡ (misra_gries n (take (2 * (edge_count ends - 1)) ends) places).colors
      → (report ≡ (misra_gries n ends lent).report) × (colors ≡ (misra_gries n ends lent).colors)

-- ---- the holiday lookup

-- Lent a place for each item, and a preset for each.
abbrev pub Lent : ℕ → List ℕ → Type 0
Lent items lent = length lent ≡ items

abbrev pub LentBoth : ℕ → List ℕ → List ℕ → Type 0
LentBoth items presets lent = (length presets ≡ items) × (length lent ≡ items)

-- Items are nodes or edges.
pub record NoPresetMoved (n : ℕ) (ends : List ℕ) (items : ℕ) (presets lent : List ℕ) (report : Report ℕ) (colors : List ℕ) : Type 0 where
  -- Whatever passes the checks is accepted,
  pub accepts : Passed n ends → LentBoth items presets lent → Accepted report
  -- and then an item that came with a colour has it still.
  pub kept : (days : ℕ) → report ≡ accepted days → (k : ℕ) → k < items → color_of presets k ≢ no_color → color_of colors k ≡ color_of presets k

-- ---- the page grid

-- Boxes are nodes: the two ends of an edge touch.
pub record AdjacentNodesDiffer (n : ℕ) (ends presets : List ℕ) (Sized : Type 0) (report : Report ℕ) (colors : List ℕ) : Type 0 where
  pub accepts : Passed n ends → Sized → Accepted report
  pub colored : (days : ℕ) → report ≡ accepted days → (v : ℕ) → v < n → color_of colors v ≢ no_color
  pub differ : (days : ℕ) → report ≡ accepted days → (k : ℕ) → k < edge_count ends → first_end ends k ≢ second_end ends k
      → (color_of presets (first_end ends k) ≡ no_color) ⊎ (color_of presets (second_end ends k) ≡ no_color) → color_of colors (first_end ends k) ≢ color_of colors (second_end ends k)

-- Boxes are edges: two edges touch that share an end.
pub record AdjacentEdgesDiffer (n : ℕ) (ends presets : List ℕ) (Sized : Type 0) (report : Report ℕ) (colors : List ℕ) : Type 0 where
  pub accepts : Passed n ends → Sized → Accepted report
  pub colored : (days : ℕ) → report ≡ accepted days → (k : ℕ) → k < edge_count ends → color_of colors k ≢ no_color
  pub differ : (days : ℕ) → report ≡ accepted days → (j k v : ℕ) → j < edge_count ends → k < edge_count ends → j ≢ k → At ends j v → At ends k v
      → (color_of presets j ≡ no_color) ⊎ (color_of presets k ≡ no_color) → color_of colors j ≢ color_of colors k

-- ---- the proof printer

-- An assignment of two values to the nodes that differs along every edge.
abbrev pub DiffersAlongEveryEdge : List ℕ → (ℕ → Bool) → Type 0
DiffersAlongEveryEdge ends value = (k : ℕ) → k < edge_count ends → value (first_end ends k) ≢ value (second_end ends k)

-- There is none.
abbrev pub NoAssignment : List ℕ → Type 0
NoAssignment ends = (value : ℕ → Bool) → DiffersAlongEveryEdge ends value → ⊥

pub record BipartitionOrNone (n : ℕ) (ends lent : List ℕ) (report : Report ℕ) (colors : List ℕ) : Type 0 where
  -- A no is said only where there is no assignment,
  pub no : report ≡ refused 8 → NoAssignment ends
  -- and of what passes the checks, wherever there is none;
  pub cannot : Passed n ends → length lent ≡ n → NoAssignment ends → report ≡ refused 8
  -- a yes is said wherever there is one,
  pub can : Passed n ends → length lent ≡ n → (value : ℕ → Bool) → DiffersAlongEveryEdge ends value → Accepted report
  -- and differs along every edge.
  pub yes : (days : ℕ) → report ≡ accepted days → (k : ℕ) → k < edge_count ends → get_or colors (first_end ends k) 0 ≢ get_or colors (second_end ends k) 0
