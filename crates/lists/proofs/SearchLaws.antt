-- Laws of searches, of equal lists, and of a list made place by place.
use Prim.Native.Nat.{ℕ, zero, suc, ◌<◌, ◌+◌, ◌≤◌}
use mathlib.Core.Bool.{true, false≢true, Bool, false, ◌&&◌}
use mathlib.Core.List.{List, [], ◌∷◌, ◌++◌}
use mathlib.Core.Path.{◌≡◌, refl, sym, ap, ◌∙◌}
use lib.Dec.{eqb, ltb}
use borrow.Author.Tests.{eq-eqb, lt-ltb, le-ltb, ltb-true}
use mathlib.Core.Logic.{inl, inr}
use native.Mathlib.Omega.{arith}
use native.Mathlib.Nat.{not-suc-le-zero}
use lib.ListN.{length, get_or, length-append, get_or-append, take, drop, drop_of_length-le}
use lib.Seq.{get_or-append_seam, take_all, drop-cons}
use native.Mathlib.Numerals.{add-one}
use mathlib.Core.Option.{Option, none, some, none-ne-some, some-injective}
use Rattle.lists.proofs.Tests.{by-test, and_true, true_and, dec_eq, and_right, and_false, and_assoc, or_false}
use Rattle.lists.specs.Equal.{equal}
use Rattle.lists.specs.Tabulate.{tabulate}
use Rattle.lists.specs.Search.{all_below, any, first_that}
use Rattle.lists.specs.Member.{Mem}

pub equal_self : (xs : List ℕ) → equal xs xs ≡ true
unfolding equal
equal_self [] = refl
equal_self (x ∷ xs) = true_and (eqb x x) (equal xs xs) (eq-eqb x x refl) (equal_self xs)

pub length_tabulate : (f : ℕ → ℕ) (n : ℕ) → length (tabulate f n) ≡ n
unfolding tabulate
length_tabulate f zero = refl
length_tabulate f (suc n) = length-append (tabulate f n) (f n ∷ []) ∙ omega (arith, length_tabulate f n)

pub tabulate_at : (f : ℕ → ℕ) (n i : ℕ) → i < n → get_or (tabulate f n) i 0 ≡ f i
unfolding tabulate
tabulate_at f zero i h = absurd (not-suc-le-zero h)
tabulate_at f (suc n) i h = elim (dec_eq i n) [
  | inl p ↦ rw p (ap (λ (j : ℕ). get_or (tabulate f n ++ (f n ∷ [])) j 0) (sym (length_tabulate f n)) ∙ get_or-append_seam (tabulate f n) (f n) [] 0)
  | inr q ↦ get_or-append (tabulate f n) (f n ∷ []) 0 i (rw (length_tabulate f n) (omega arith)) ∙ tabulate_at f n i (omega arith)
]

pub all_below_at : (n : ℕ) (xs : List ℕ) → all_below n xs ≡ true → (i : ℕ) → i < length xs → get_or xs i 0 < n
unfolding all_below
all_below_at n [] e i h = absurd (not-suc-le-zero h)
all_below_at n (x ∷ xs) e zero h = ltb-true x n (and_true (ltb x n) (all_below n xs) e).0
all_below_at n (x ∷ xs) e (suc i) h = all_below_at n xs (and_true (ltb x n) (all_below n xs) e).1 i (omega arith)

pub below_all : (n : ℕ) (xs : List ℕ) → ((i : ℕ) → i < length xs → get_or xs i 0 < n) → all_below n xs ≡ true
unfolding all_below
below_all n [] h = refl
below_all n (x ∷ xs) h = true_and (ltb x n) (all_below n xs) (lt-ltb x n (h 0 (omega arith))) (below_all n xs (λ i b. h (suc i) (omega arith)))

pub all_below_cons : (n x : ℕ) (xs : List ℕ) → all_below n (x ∷ xs) ≡ true → (x < n) × (all_below n xs ≡ true)
unfolding all_below
all_below_cons n x xs e = let r = and_true (ltb x n) (all_below n xs) e in (ltb-true x n r.0, r.1)

pub all_below_append : (n : ℕ) (xs ys : List ℕ) → all_below n (xs ++ ys) ≡ true → (all_below n xs ≡ true) × (all_below n ys ≡ true)
unfolding all_below
all_below_append n [] ys e = (refl, e)
all_below_append n (x ∷ xs) ys e =
    let r = and_true (ltb x n) (all_below n (xs ++ ys)) e in
    let s = all_below_append n xs ys r.1 in
    (true_and (ltb x n) (all_below n xs) r.0 s.0, s.1)

-- One number more.
below_more : (n : ℕ) (s : List ℕ) (i : ℕ) → i < length s → all_below n (take (suc i) s) ≡ all_below n (take i s) && ltb (get_or s i 0) n
unfolding all_below
below_more n [] i h = absurd (not-suc-le-zero h)
below_more n (x ∷ s) zero h = and_right (ltb x n)
below_more n (x ∷ s) (suc i) h = ap (λ (b : Bool). ltb x n && b) (below_more n s i (omega arith)) ∙ and_assoc (ltb x n) (all_below n (take i s)) (ltb (get_or s i 0) n)

-- Number by number from the front, to the end: what was passed decides until one is n or more, and then that does.
pub all_below_kept : (n : ℕ) (s : List ℕ) (i : ℕ) (r : Bool) → r ≡ all_below n (take i s) → i < length s → get_or s i 0 < n → r ≡ all_below n (take (i + 1) s)
all_below_kept n s i r e h b = rw (add-one i, below_more n s i h, sym e, lt-ltb (get_or s i 0) n b) (sym (and_right r))

pub all_below_broken : (n : ℕ) (s : List ℕ) (i : ℕ) → i < length s → n ≤ get_or s i 0 → false ≡ all_below n (take (i + 1) s)
all_below_broken n s i h b = rw (add-one i, below_more n s i h, le-ltb (get_or s i 0) n b) (sym (and_false (all_below n (take i s)) false refl))

pub all_below_all : (n : ℕ) (s : List ℕ) (i : ℕ) (r : Bool) → r ≡ all_below n (take i s) → length s ≤ i → r ≡ all_below n s
all_below_all n s i r e h = e ∙ ap (all_below n) (take_all i s h)

pub any_false : (t : ℕ → Bool) (n : ℕ) → any t n ≡ false → (k : ℕ) → k < n → t k ≡ false
unfolding any
any_false t zero e k h = absurd (not-suc-le-zero h)
any_false t (suc n) e k h =
    let r = or_false (t n) (any t n) e in
    elim (dec_eq k n) [ inl p ↦ rw p r.0 | inr p ↦ any_false t n r.1 k (omega arith) ]

pub any_true : (t : ℕ → Bool) (n : ℕ) → any t n ≡ true → (k : ℕ) × (k < n) × (t k ≡ true)
unfolding any
any_true t zero e = absurd (false≢true e)
any_true t (suc n) e = go (any_true t n) (t n) refl
  where
    go : (any t n ≡ true → (k : ℕ) × (k < n) × (t k ≡ true)) → (b : Bool) → t n ≡ b → (k : ℕ) × (k < suc n) × (t k ≡ true)
    go rec true p = (n, omega arith, p)
    go rec false p = let r = rec (rw p at e) in (r.0, omega (arith, r.1), r.2)

-- ---- the first that passes a test

-- The search, as the code goes on with it.
module _ (t : ℕ → Bool) (ks : List ℕ) (i : ℕ) (o : Option ℕ) (e : first_that t (drop i ks) ≡ o) where
  pub first_here : (r : Bool) → i < length ks → r ≡ t (get_or ks i 0) → r ≡ true → some (get_or ks i 0) ≡ o
  unfolding first_that
  first_here r h p q = rw (drop-cons ks i 0 h, sym p ∙ q, first_that) at e

  pub first_next : (r : Bool) → i < length ks → r ≡ t (get_or ks i 0) → r ≡ false → first_that t (drop (i + 1) ks) ≡ o
  unfolding first_that
  first_next r h p q = rw (add-one i) (rw (drop-cons ks i 0 h, sym p ∙ q, first_that) at e)

  pub first_end_lem : length ks ≤ i → none ≡ o
  unfolding first_that
  first_end_lem h = rw (drop_of_length-le ks {i = i} h) at e

-- Where none of the numbers in front passes, the search may start behind them.
pub first_behind : (t : ℕ → Bool) (js ks : List ℕ) → ((k : ℕ) → Mem k js → t k ≡ false) → first_that t (js ++ ks) ≡ first_that t ks
unfolding first_that
first_behind t [] ks n = refl
first_behind t (j ∷ js) ks n = rw (n j (inl refl)) (first_behind t js ks (λ k p. n k (inr p)))

-- What is found passes, and stands among the numbers; where nothing is found, none passes.
pub first_that_some : (t : ℕ → Bool) (ks : List ℕ) (k : ℕ) → first_that t ks ≡ some k → Mem k ks × (t k ≡ true)
unfolding first_that
first_that_some t [] k e = absurd (none-ne-some k e)
first_that_some t (j ∷ ks) k e =
    by-test (t j)
    (λ p. let q = some-injective j k (rw (p, first_that) at e) in (inl (sym q), rw (← q) p))
    (λ p. let r = first_that_some t ks k (rw (p, first_that) at e) in (inr r.0, r.1))

pub first_that_none : (t : ℕ → Bool) (ks : List ℕ) → first_that t ks ≡ none → (k : ℕ) → Mem k ks → t k ≡ false
unfolding first_that
first_that_none t [] e k p = elim p [ ]
first_that_none t (j ∷ ks) e k p =
    by-test (t j)
    (λ q. absurd (none-ne-some j (sym (rw (q, first_that) at e))))
    (λ q. elim p [ inl z ↦ rw z q | inr z ↦ first_that_none t ks (rw (q, first_that) at e) k z ])

-- Two tests that agree on the numbers find the same.
pub first_that_same : (t s : ℕ → Bool) (ks : List ℕ) → ((k : ℕ) → Mem k ks → t k ≡ s k) → first_that t ks ≡ first_that s ks
unfolding first_that
first_that_same t s [] same = refl
first_that_same t s (k ∷ ks) same = by-test (s k)
    (λ p. rw (same k (inl refl) ∙ p, p, first_that))
    (λ p. rw (same k (inl refl) ∙ p, p, first_that) (first_that_same t s ks (λ j q. same j (inr q))))
