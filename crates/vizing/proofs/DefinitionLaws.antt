-- Laws of the definitions: what each search and test over a node's edges tells, cited instead of the definitions' text.
use Prim.Native.Nat.{ℕ, suc}
use mathlib.Core.Path.{◌≡◌, refl, sym, ap, ◌∙◌}
use mathlib.Core.Logic.{◌⊎◌, inl, inr, ◌≢◌}
use mathlib.Core.List.{List, [], ◌∷◌}
use mathlib.Core.Option.{Option, none, some}
use mathlib.Core.Bool.{true, false, not, ◌&&◌, true≢false}
use lib.ListN.{length, set, length-set}
use lib.Dec.{eqb}
use borrow.Author.Tests.{eqb-true, eqb-false, not-true}
use Rattle.lists.proofs.Tests.{by-test, and_true, true_and}
use Rattle.lists.specs.Member.{Mem, elem}
use Rattle.lists.proofs.MemberLaws.{elem_false, not_mem_elem}
use Rattle.lists.proofs.SearchLaws.{first_that_some, first_that_none}
use Rattle.graph.proofs.ColorLaws.{NoneHas, color_set_other, is_colored_true, colored_true}
use Rattle.graph.specs.Color.{no_color}
use Rattle.graph.specs.Colored.{color_of, is_colored}
use Rattle.vizing.specs.MisraGries.{edge_of_color, is_free, store, joins, first_joining, greatest_color, step, Held, step_held}
-- No name of it is used: the rows are to be checked before the laws, so that a wrong definition is refused for what it gives.
use Rattle.vizing.specs.Answers

-- ---- options

pub some_or_none : (o : Option ℕ) → (o ≡ none) ⊎ ((k : ℕ) × (o ≡ some k))
some_or_none none = inl refl
some_or_none (some k) = inr (k, refl)

-- ---- the edge of a colour

pub edge_of_color_some : (l : List ℕ) (c : ℕ) (ks : List ℕ) (k : ℕ) → edge_of_color l c ks ≡ some k → Mem k ks × (color_of l k ≡ c)
unfolding edge_of_color
edge_of_color_some l c ks k e = let r = first_that_some (λ j. eqb (color_of l j) c) ks k e in (r.0, eqb-true (color_of l k) c r.1)

pub edge_of_color_none : (l : List ℕ) (c : ℕ) (ks : List ℕ) → edge_of_color l c ks ≡ none → NoneHas l ks c
unfolding edge_of_color
edge_of_color_none l c ks e k p = eqb-false (color_of l k) c (first_that_none (λ j. eqb (color_of l j) c) ks e k p)

pub none_has_none : (l : List ℕ) (c : ℕ) (ks : List ℕ) → NoneHas l ks c → edge_of_color l c ks ≡ none
none_has_none l c ks n = elim (some_or_none (edge_of_color l c ks)) [
  | inl p ↦ p
  | inr (k, p) ↦ let r = edge_of_color_some l c ks k p in absurd (n k r.0 r.1)
]

-- ---- free or not

pub is_free_true : (l ks : List ℕ) (c : ℕ) → is_free l ks c ≡ true → NoneHas l ks c
unfolding is_free
is_free_true l ks c e = elim (some_or_none (edge_of_color l c ks)) [
  | inl p ↦ edge_of_color_none l c ks p
  | inr (k, p) ↦ absurd (true≢false (cc))
]

pub is_free_false : (l ks : List ℕ) (c : ℕ) → is_free l ks c ≡ false → (k : ℕ) × Mem k ks × (color_of l k ≡ c)
unfolding is_free
is_free_false l ks c e = elim (some_or_none (edge_of_color l c ks)) [
  | inl p ↦ absurd (true≢false (cc))
  | inr (k, p) ↦ let r = edge_of_color_some l c ks k p in (k, r.0, r.1)
]

none_has_free : (l ks : List ℕ) (c : ℕ) → NoneHas l ks c → is_free l ks c ≡ true
none_has_free l ks c n = by-test (is_free l ks c) (λ t. t) (λ t. let r = is_free_false l ks c t in absurd (n r.0 r.1 r.2))

-- ---- joining the fan

-- What lets candidate k join: it is not in the fan, it is coloured, and none of ks has its colour.
abbrev pub Joins : List ℕ → List ℕ → List ℕ → ℕ → Type 0
Joins l ks fan k = (Mem k fan → ⊥) × (color_of l k ≢ no_color) × NoneHas l ks (color_of l k)

joins_true : (l ks fan : List ℕ) (k : ℕ) → joins l ks fan k ≡ true → Joins l ks fan k
unfolding joins
joins_true l ks fan k e =
    let a = and_true (not (elem k fan)) (is_colored l k && is_free l ks (color_of l k)) e in
    let b = and_true (is_colored l k) (is_free l ks (color_of l k)) a.1 in
    (elem_false k fan (not-true (elem k fan) a.0), is_colored_true l k b.0, is_free_true l ks (color_of l k) b.1)

true_joins : (l ks fan : List ℕ) (k : ℕ) → Joins l ks fan k → joins l ks fan k ≡ true
unfolding joins
true_joins l ks fan k (out, colored, none_has) =
    true_and (not (elem k fan)) (is_colored l k && is_free l ks (color_of l k)) (ap not (not_mem_elem k fan out))
    (true_and (is_colored l k) (is_free l ks (color_of l k)) (colored_true l k colored) (none_has_free l ks (color_of l k) none_has))

joins_false : (l ks fan : List ℕ) (k : ℕ) → joins l ks fan k ≡ false → Joins l ks fan k → ⊥
joins_false l ks fan k e j = true≢false (sym (true_joins l ks fan k j) ∙ e)

pub false_joins : (l ks fan : List ℕ) (k : ℕ) → (Joins l ks fan k → ⊥) → joins l ks fan k ≡ false
false_joins l ks fan k n = by-test (joins l ks fan k) (λ t. absurd (n (joins_true l ks fan k t))) (λ t. t)

pub first_joining_some : (l ks fan candidates : List ℕ) (k : ℕ) → first_joining l ks fan candidates ≡ some k → Mem k candidates × Joins l ks fan k
unfolding first_joining
first_joining_some l ks fan candidates k e = let r = first_that_some (joins l ks fan) candidates k e in (r.0, joins_true l ks fan k r.1)

pub first_joining_none : (l ks fan candidates : List ℕ) → first_joining l ks fan candidates ≡ none → (k : ℕ) → Mem k candidates → Joins l ks fan k → ⊥
unfolding first_joining
first_joining_none l ks fan candidates e k p = joins_false l ks fan k (first_that_none (joins l ks fan) candidates e k p)

-- ---- storing

pub length_store : (l ks cs : List ℕ) → length (store l ks cs) ≡ length l
unfolding store
length_store l [] cs = refl
length_store l (k ∷ ks) [] = refl
length_store l (k ∷ ks) (c ∷ cs) = length_store (set l k c) ks cs ∙ length-set l k c

-- A place that is not stored to keeps its colour.
pub color_store_other : (l ks cs : List ℕ) (j : ℕ) → (Mem j ks → ⊥) → color_of (store l ks cs) j ≡ color_of l j
unfolding store
color_store_other l [] cs j n = refl
color_store_other l (k ∷ ks) [] j n = refl
color_store_other l (k ∷ ks) (c ∷ cs) j n = color_store_other (set l k c) ks cs j (λ p. n (inr p)) ∙ color_set_other l k c j (λ p. n (inl p))

-- ---- what a step holds

module _ (ends : List ℕ) (m n : ℕ) (h : Held) (k : ℕ) where
  pub step_list : (step_held ends m n h k).list ≡ step ends m n h.list k
  unfolding step_held
  step_list = refl

  pub step_edges : (step_held ends m n h k).tally.edges ≡ suc h.tally.edges
  unfolding step_held
  step_edges = refl

  pub step_greatest : (step_held ends m n h k).tally.greatest ≡ greatest_color (step ends m n h.list k)
  unfolding step_held
  step_greatest = refl

  -- A step of another list of ends that leaves the same colours holds the same.
  pub step_same : (first : List ℕ) (K : ℕ) → step first K n h.list k ≡ step ends m n h.list k → step_held first K n h k ≡ step_held ends m n h k
  unfolding step_held
  step_same first K e = rw e
