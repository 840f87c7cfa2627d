-- Demand 3 as one claim about a call and about what its run holds.
use Rattle.std.specs.Prelude.{ℕ, zero, suc, ◌*◌, ◌≤◌, ◌<◌, max, ◌≡◌, ◌≢◌, List, length, get_or, take}
use Rattle.graph.specs.Edges.{edge_count, first_end, second_end, degree}
use Rattle.graph.specs.Report.{Accepted}
use Rattle.graph.specs.Color.{Outcome, no_color}
use Rattle.graph.specs.Colored.{color_of}
use Rattle.vizing.specs.Simple.{Simple, Incident}

-- ---- D

-- "D is the greatest deg, 0 if there are no nodes."
unfoldable pub max_degree : List ℕ → ℕ → ℕ → ℕ
max_degree ends m zero = 0
max_degree ends m (suc v) = max (degree ends m v) (max_degree ends m v)

-- ---- the parts of the claim

-- "all graphs up to 512 nodes and 4,096 edges, without loops or double edges, whatever order the edges are listed in and whichever end comes first"
pub record Admitted (n : ℕ) (ends : List ℕ) : Type 0 where
  pub nodes : n ≤ 512
  pub even : length ends ≡ 2 * edge_count ends
  pub edges : edge_count ends ≤ 4096
  pub inside : (k : ℕ) → k < edge_count ends → (first_end ends k < n) × (second_end ends k < n)
  pub simple : Simple ends (edge_count ends)

-- The accuracy rule, of the colours of all edges. A place that is missing counts as 65,535.
pub record Accurate (n : ℕ) (ends : List ℕ) (colors : List ℕ) : Type 0 where
  -- "each edge gets one colour from 0 to D"
  pub range : (k : ℕ) → k < edge_count ends → color_of colors k ≤ max_degree ends (edge_count ends) n
  -- "edges sharing an end get different ones"
  pub sharing : (i j v : ℕ) → Incident ends (edge_count ends) i v → Incident ends (edge_count ends) j v → i ≢ j → color_of colors i ≢ color_of colors j
  -- "every node has one of these D + 1 colours left over": "no edge there has it in the answer"
  pub left_over : (v : ℕ) → v < n → (c : ℕ) × (c ≤ max_degree ends (edge_count ends) n) × ((k : ℕ) → Incident ends (edge_count ends) k v → color_of colors k ≢ c)

-- A call gives an outcome for a node count, an end list and the lent colour slice.
abbrev pub Call : Type 0
Call = ℕ → List ℕ → List ℕ → Outcome

-- What the run for a node count and an end list holds after its kth edge.
abbrev pub Run : Type 0
Run = ℕ → List ℕ → ℕ → List ℕ

-- "The first k edges alone are a call of their own with the same n, the first 2k ends and k colour places"
pub record FirstEdgesAlone (call : Call) (held : Run) (n : ℕ) (ends : List ℕ) (k : ℕ) : Type 0 where
  pub accepts : (places : List ℕ) → length places ≡ k → Accepted (call n (take (2 * k) ends) places).report
  -- "its answer equals, place by place, places 0 to k - 1 of what the whole run holds after its kth edge"
  pub same : (places : List ℕ) → length places ≡ k → (call n (take (2 * k) ends) places).colors ≡ take k (held n ends k)
  -- "places from k on then still hold 65,535"
  pub later : (j : ℕ) → k ≤ j → j < 4096 → get_or (held n ends k) j 0 ≡ no_color

-- What demand 3 asks of the call on one list, lent these colour places.
pub record Met (call : Call) (held : Run) (n : ℕ) (ends colors : List ℕ) : Type 0 where
  -- "refuses none"
  pub accepts : Accepted (call n ends colors).report
  pub accurate : Accurate n ends (call n ends colors).colors
  -- "for every k from 0 to the number of edges"
  pub first : (k : ℕ) → k ≤ edge_count ends → FirstEdgesAlone call held n ends k

-- ---- the claim

-- "a single claim about every edge list that it admits and every k", "if lent one colour place for each edge"
abbrev pub Demand3 : Call → Run → Type 0
Demand3 call held = (n : ℕ) (ends colors : List ℕ) → Admitted n ends → length colors ≡ edge_count ends → Met call held n ends colors
