-- The step as the theory goes through it: the fan's edges after its first, and the fan's places 1 to w, each built from the front, with the
-- far end of the edge before. It is the step of the definitions: `find`, `step` and `rotate` are opened here, and besides only where rows compute them.
use Prim.Native.Nat.{ℕ, zero, suc, ◌-◌}
use mathlib.Core.Path.{◌≡◌, refl, ap, ◌∙◌}
use mathlib.Core.List.{List, [], ◌∷◌, ◌++◌, map, append_assoc}
use mathlib.Core.Option.{none, some}
use mathlib.Core.Bool.{Bool, true, false, ◌||◌}
use mathlib.Core.Logic.{inl, inr}
use native.Mathlib.Omega.{arith}
use lib.ListN.{length, get_or, take, length-append}
use lib.Seq.{get_or-append_seam}
use lib.Dec.{eqb}
use Rattle.lists.proofs.Tests.{by-test}
use Rattle.lists.specs.Member.{elem}
use Rattle.lists.specs.Search.{first_place}
use Rattle.lists.proofs.SearchLaws.{first_that_same}
use Rattle.graph.specs.Edges.{first_end, second_end, far_end, edges_at}
use Rattle.graph.proofs.EdgeLaws.{far_first}
use Rattle.graph.specs.Colored.{color_of, smallest_free_at}
use Rattle.vizing.specs.MisraGries.{is_free, store, joins, first_joining, last_of, fan_from, fan_of, path, exchange, first_free_place, rotate, Found, find, step}
use Rattle.vizing.proofs.DefinitionLaws.{some_or_none}
-- No name of it is used: the rows are to be checked before the laws, so that a wrong definition is refused for what it gives.
use Rattle.vizing.specs.Answers

-- ---- the parts

module _ (ends : List ℕ) (m : ℕ) where
  -- The edges that join the fan at u after the edges of `fan`, whose last has far end x.
  unfoldable pub grow_fan : ℕ → List ℕ → ℕ → List ℕ → ℕ → List ℕ
  grow_fan zero l u fan x = []
  grow_fan (suc fuel) l u fan x =
      elim (first_joining l (edges_at ends m x) fan (edges_at ends m u)) [
        | none ↦ []
        | some k ↦ k ∷ grow_fan fuel l u (k ∷ fan) (far_end ends k u)
      ]

  -- The fan's places 1 to w: the edges after its first, up to the first place whose far end has d free. Place 0 has far end x.
  unfoldable pub places_to : List ℕ → ℕ → ℕ → ℕ → List ℕ → List ℕ
  places_to l d u x [] = []
  places_to l d u x (k ∷ ks) = elim (is_free l (edges_at ends m x) d) [ true ↦ [] | false ↦ k ∷ places_to l d u (far_end ends k u) ks ]

-- The far end at u of the last of these edges, or x if there is none.
unfoldable pub last_far_end : List ℕ → ℕ → ℕ → List ℕ → ℕ
last_far_end ends u x [] = x
last_far_end ends u x (k ∷ ks) = last_far_end ends u (far_end ends k u) ks

-- The rotation of the places k ∷ ks: each takes the colour of the next, the last takes d.
unfoldable pub rotate_places : List ℕ → ℕ → List ℕ → ℕ → List ℕ
rotate_places l k ks d = store l (k ∷ ks) (map (color_of l) ks ++ (d ∷ []))

-- What steps 1 to 4 find, by these: the fan after its first edge, c, d, the path, the list with the path exchanged, the fan's places 1 to w.
pub record StepParts : Type 0 where
  pub fan : List ℕ
  pub c : ℕ
  pub d : ℕ
  pub path : List ℕ
  pub exchanged : List ℕ
  pub places : List ℕ

module _ (ends : List ℕ) (m n : ℕ) where
  unfoldable pub step_parts : List ℕ → ℕ → StepParts
  step_parts l k =
      let u = first_end ends k in
      let v = second_end ends k in
      let F = grow_fan ends m 4096 l u (k ∷ []) v in
      let c = smallest_free_at l (edges_at ends m u) in
      let d = smallest_free_at l (edges_at ends m (last_far_end ends u v F)) in
      let P = path ends m n l u d c in
      let l' = exchange l c d P in
      record { fan = F; c = c; d = d; path = P; exchanged = l'; places = places_to ends m l' d u v F }

-- ---- the fan

-- Who joins depends only on which edges are in the fan.
module _ (l ks fan fan' : List ℕ) (same : (j : ℕ) → elem j fan ≡ elem j fan') where
  joins_same : (k : ℕ) → joins l ks fan k ≡ joins l ks fan' k
  unfolding joins
  joins_same k = rw (same k)

  first_joining_members : (candidates : List ℕ) → first_joining l ks fan candidates ≡ first_joining l ks fan' candidates
  unfolding first_joining
  first_joining_members candidates = first_that_same (joins l ks fan) (joins l ks fan') candidates (λ k p. joins_same k)

elem_last : (j k : ℕ) (fan : List ℕ) → elem j (fan ++ (k ∷ [])) ≡ eqb j k || elem j fan
unfolding elem
elem_last j k [] = refl
elem_last j k (x ∷ fan) = rw (elem_last j k fan) (by-test (eqb j x) (λ s. by-test (eqb j k) (λ t. rw (s, t)) (λ t. rw (s, t))) (λ s. rw s))

last_of_append : (fan : List ℕ) (e : ℕ) → last_of (fan ++ (e ∷ [])) ≡ e
unfolding last_of
last_of_append fan e =
    let n : length (fan ++ (e ∷ [])) - 1 ≡ length fan = rw (length-append fan (e ∷ [])) (omega arith) in
    ap (λ (i : ℕ). get_or (fan ++ (e ∷ [])) i 0) n ∙ get_or-append_seam fan e [] 0

module _ (ends : List ℕ) (m : ℕ) (l : List ℕ) (u : ℕ) where
  fan_from_lem : (fuel : ℕ) (fan fan' : List ℕ) (e : ℕ) → ((j : ℕ) → elem j (fan ++ (e ∷ [])) ≡ elem j fan')
      → fan_from ends m fuel l u (fan ++ (e ∷ [])) ≡ fan ++ (e ∷ grow_fan ends m fuel l u fan' (far_end ends e u))
  unfolding fan_from grow_fan elem
  fan_from_lem zero fan fan' e same = refl
  fan_from_lem (suc fuel) fan fan' e same =
      let x = far_end ends e u in
      let z : first_joining l (edges_at ends m (far_end ends (last_of (fan ++ (e ∷ []))) u)) (fan ++ (e ∷ [])) (edges_at ends m u) ≡ first_joining l (edges_at ends m x) fan' (edges_at ends m u)
      = rw (last_of_append fan e) (first_joining_members l (edges_at ends m x) (fan ++ (e ∷ [])) fan' same (edges_at ends m u)) in
      elim (some_or_none (first_joining l (edges_at ends m x) fan' (edges_at ends m u))) [
        | inl p ↦ rw (z, p, fan_from, grow_fan)
        | inr (k, p) ↦ rw (z, p, fan_from, grow_fan)
            (fan_from_lem fuel (fan ++ (e ∷ [])) (k ∷ fan') k (λ j. elem_last j k (fan ++ (e ∷ [])) ∙ ap (λ (b : Bool). eqb j k || b) (same j))
            ∙ append_assoc fan (e ∷ []) (k ∷ grow_fan ends m fuel l u (k ∷ fan') (far_end ends k u)))
      ]

module _ (ends : List ℕ) (m : ℕ) where
  pub fan_form : (l : List ℕ) (k : ℕ) → fan_of ends m l k ≡ k ∷ grow_fan ends m 4096 l (first_end ends k) (k ∷ []) (second_end ends k)
  unfolding fan_of
  fan_form l k = rw (← far_first ends k (first_end ends k) refl) (fan_from_lem ends m l (first_end ends k) 4096 [] (k ∷ []) k (λ j. refl))

-- ---- the last edge, and the places up to w

pub last_form : (ends : List ℕ) (u k : ℕ) (ks : List ℕ) → far_end ends (last_of (k ∷ ks)) u ≡ last_far_end ends u (far_end ends k u) ks
unfolding last_of last_far_end
last_form ends u k [] = let z : length (k ∷ []) - 1 ≡ 0 = omega arith in ap (λ (i : ℕ). far_end ends (get_or (k ∷ []) i 0) u) z
last_form ends u k (j ∷ ks) =
    let z : length (k ∷ j ∷ ks) - 1 ≡ suc (length (j ∷ ks) - 1) = omega arith in
    ap (λ (i : ℕ). far_end ends (get_or (k ∷ j ∷ ks) i 0) u) z ∙ last_form ends u j ks

module _ (ends : List ℕ) (m : ℕ) (l : List ℕ) (d u : ℕ) where
  places_form : (k : ℕ) (ks : List ℕ) → take (first_free_place ends m l d u (k ∷ ks)) ks ≡ places_to ends m l d u (far_end ends k u) ks
  unfolding first_free_place first_place places_to
  places_form k [] = by-test (is_free l (edges_at ends m (far_end ends k u)) d) (λ t. rw t) (λ t. rw t)
  places_form k (j ∷ ks) = by-test (is_free l (edges_at ends m (far_end ends k u)) d)
      (λ t. rw (t, places_to))
      (λ t. rw (t, places_to) (ap (λ (js : List ℕ). j ∷ js) (places_form j ks)))

-- ---- the step

-- What the step of edge k finds, and its parts.
pub record PartsOf (k : ℕ) (found : Found) (parts : StepParts) : Type 0 where
  pub fan : found.fan ≡ k ∷ parts.fan
  pub c : found.c ≡ parts.c
  pub d : found.d ≡ parts.d
  pub path : found.path ≡ parts.path
  pub exchanged : found.exchanged ≡ parts.exchanged
  pub places : take found.w parts.fan ≡ parts.places

module _ (ends : List ℕ) (m n : ℕ) (l : List ℕ) (k : ℕ) where
  pub find_form : PartsOf k (find ends m n l k) (step_parts ends m n l k)
  unfolding find step_parts
  find_form =
      let u = first_end ends k in
      let p = step_parts ends m n l k in
      let v = far_first ends k u refl in
      rw (fan_form ends m l k, last_form ends u k p.fan, v)
      (record { fan = refl; c = refl; d = refl; path = refl; exchanged = refl; places = rw v at (places_form ends m p.exchanged p.d u k p.fan) })

  -- The step rotates the places k and 1 to w in the list that the exchange leaves. Where no place has d free, w is the fan's length and all of the fan is rotated.
  pub step_form : let p = step_parts ends m n l k in step ends m n l k ≡ rotate_places p.exchanged k p.places p.d
  unfolding step rotate rotate_places
  step_form = let s = find_form in rw (s.fan, s.places, s.exchanged, s.d)
