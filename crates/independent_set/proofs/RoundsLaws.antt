-- The rounds as the code runs them: what is known at each turn of its loops.
use Prim.Native.Nat.{ℕ, zero, suc, ◌+◌, ◌-◌, ◌≤◌, ◌<◌}
use mathlib.Core.Path.{◌≡◌, refl, sym, ap, ap₂, subst, ◌∙◌}
use mathlib.Core.Logic.{◌⊎◌, inl, inr}
use mathlib.Core.List.{List, [], ◌∷◌}
use native.Mathlib.Omega.{arith}
use native.Mathlib.Nat.{not-suc-le-zero, min-le_left}
use native.Mathlib.Numerals.{add-one}
use lib.ListN.{length, get_or, set, take, length-take, length-set}
use lib.Dec.{eqb}
use borrow.Author.Tests.{eq-eqb, ne_eqb}
use Rattle.lists.proofs.Tests.{by-test}
use Rattle.lists.specs.Member.{Mem, elem}
use Rattle.lists.proofs.MemberLaws.{elem_true, mem_append, mem_get_or, not_mem_elem}
use Rattle.graph.specs.Colored.{color_of}
use Rattle.graph.proofs.ColorLaws.{color_read}
use Rattle.greedy.specs.Turn.{uncolored}
use Rattle.greedy.proofs.TurnLaws.{uncolored_member}
use Rattle.greedy.specs.IndependentSet.{place_of, take_out, Lists, put_off, put_off_all, Round, put_off_presets, color_listed, round, rounds, independent_set_colors}
use Rattle.independent_set.specs.Rounds.{ListedBelow}
use Rattle.independent_set.proofs.ListingLaws.{put_off_yes, put_off_no}

-- ---- the presets of a colour

pub presets_none : (nb : ℕ → List ℕ) (presets : List ℕ) (r : ℕ) (s : Lists) → s ≡ put_off_presets nb presets r 0 s
unfolding put_off_presets
presets_none nb presets r s = refl

module _ (nb : ℕ → List ℕ) (presets : List ℕ) (v r : ℕ) (s t : Lists) (e : t ≡ put_off_presets nb presets r v s) (less : v < length presets) where
  pub presets_more : (u : Lists) → get_or presets v 0 ≡ r → u ≡ put_off_all t (nb v) → u ≡ put_off_presets nb presets r (v + 1) s
  unfolding put_off_presets
  presets_more u p q =
      let test = eq-eqb (color_of presets v) r (sym (color_read presets v 0 less) ∙ p) in
      rw (add-one v, put_off_presets, test, ← e) q

  pub presets_skip : (get_or presets v 0 ≡ r → ⊥) → t ≡ put_off_presets nb presets r (v + 1) s
  unfolding put_off_presets
  presets_skip d =
      let test = ne_eqb (color_of presets v) r (λ q. d (color_read presets v 0 less ∙ q)) in
      rw (add-one v, put_off_presets, test) e

-- ---- who is in the lists

-- Putting off brings no one in.
take_out_mem : (v k : ℕ) (l : List ℕ) → Mem k (take_out v l) → Mem k l
unfolding take_out
take_out_mem v k [] m = m
take_out_mem v k (x ∷ l) m = set_mem (x ∷ l) (place_of v (x ∷ l)) (take_mem (length (x ∷ l) - 1) _ m)
  where
    take_mem : (n : ℕ) (xs : List ℕ) → Mem k (take n xs) → Mem k xs
    take_mem zero xs p = absurd p
    take_mem (suc n) [] p = p
    take_mem (suc n) (y ∷ xs) (inl e) = inl e
    take_mem (suc n) (y ∷ xs) (inr p) = inr (take_mem n xs p)

    set_at : (xs : List ℕ) (i y : ℕ) → Mem k (set xs i y) → Mem k xs ⊎ (k ≡ y)
    set_at [] i y p = inl p
    set_at (z ∷ xs) zero y (inl e) = inr e
    set_at (z ∷ xs) zero y (inr p) = inl (inr p)
    set_at (z ∷ xs) (suc i) y (inl e) = inl (inl e)
    set_at (z ∷ xs) (suc i) y (inr p) = elim (set_at xs i y p) [ inl q ↦ inl (inr q) | inr e ↦ inr e ]

    set_mem : (xs : List ℕ) (i : ℕ) → Mem k (set xs i (get_or xs (length xs - 1) 0)) → Mem k xs
    set_mem [] i p = p
    set_mem (y ∷ xs) i p = elim (set_at (y ∷ xs) i (get_or (y ∷ xs) (length (y ∷ xs) - 1) 0) p) [
      | inl q ↦ q
      | inr e ↦ subst (λ (z : ℕ). Mem z (y ∷ xs)) (sym e) (mem_get_or (y ∷ xs) (length (y ∷ xs) - 1) 0 (omega arith))
    ]

put_off_below : (n : ℕ) (s : Lists) (k : ℕ) → ListedBelow n s → ListedBelow n (put_off s k)
put_off_below n s k b = by-test (elem k s.listed)
    (λ e. rw (put_off_yes s k e) (λ v m. elim m [
      | inl p ↦ b v (inl (take_out_mem k v s.listed p))
      | inr p ↦ elim (mem_append v s.next (k ∷ []) p) [
        | inl q ↦ b v (inr q)
        | inr q ↦ elim q [ inl z ↦ rw z (b k (inl (elem_true k s.listed e))) | inr z ↦ absurd z ]
      ]
    ]))
    (λ e. rw (put_off_no s k e) b)

put_off_all_below : (n : ℕ) (s : Lists) (ks : List ℕ) → ListedBelow n s → ListedBelow n (put_off_all s ks)
unfolding put_off_all
put_off_all_below n s [] b = b
put_off_all_below n s (k ∷ ks) b = put_off_all_below n (put_off s k) ks (put_off_below n s k b)

put_off_presets_below : (n : ℕ) (nb : ℕ → List ℕ) (presets : List ℕ) (r m : ℕ) (s : Lists) → ListedBelow n s → ListedBelow n (put_off_presets nb presets r m s)
unfolding put_off_presets
put_off_presets_below n nb presets r zero s b = b
put_off_presets_below n nb presets r (suc m) s b =
    let i = put_off_presets_below n nb presets r m s b in
    by-test (eqb (color_of presets m) r)
    (λ t. rw (t, put_off_presets) (put_off_all_below n (put_off_presets nb presets r m s) (nb m) i))
    (λ t. rw (t, put_off_presets) i)

out_below : (n v : ℕ) (s : Lists) → ListedBelow n s → ListedBelow n (record { listed = take_out v s.listed; next = s.next })
out_below n v s b u (inl p) = b u (inl (take_out_mem v u s.listed p))
out_below n v s b u (inr p) = b u (inr p)

-- ---- how many are listed

-- Putting off makes no list longer.
pub take_out_length : (v : ℕ) (l : List ℕ) → length (take_out v l) ≤ length l - 1
unfolding take_out
take_out_length v l = rw (length-take (length l - 1)) (min-le_left _ _)

put_off_one_length : (s : Lists) (k : ℕ) → length (put_off s k).listed ≤ length s.listed
put_off_one_length s k = by-test (elem k s.listed)
    (λ t. omega (arith, take_out_length k s.listed, ap (λ (x : Lists). length x.listed) (put_off_yes s k t)))
    (λ t. omega (arith, ap (λ (x : Lists). length x.listed) (put_off_no s k t)))

pub put_off_length : (s : Lists) (ks : List ℕ) → length (put_off_all s ks).listed ≤ length s.listed
unfolding put_off_all
put_off_length s [] = omega arith
put_off_length s (k ∷ ks) = omega (arith, put_off_length (put_off s k) ks, put_off_one_length s k)

-- ---- the listed items

pub color_front : (nb : ℕ → List ℕ) (r t : ℕ) (l vs next colors : List ℕ) (v : ℕ) → l ≡ v ∷ vs
    → color_listed nb r (suc t) (record { listed = l; next = next }) colors ≡ color_listed nb r t (put_off_all (record { listed = take_out v l; next = next }) (nb v)) (set colors v r)
unfolding color_listed
color_front nb r t l vs next colors v e = rw e

pub color_empty : (nb : ℕ → List ℕ) (r t : ℕ) (l next colors : List ℕ) → l ≡ [] → color_listed nb r t (record { listed = l; next = next }) colors ≡ record { next = next; colors = colors }
unfolding color_listed
color_empty nb r zero l next colors e = refl
color_empty nb r (suc t) l next colors e = rw e

pub list_empty : (l : List ℕ) → length l ≤ 0 → l ≡ []
list_empty [] h = refl
list_empty (x ∷ l) h = absurd (not-suc-le-zero h)

-- In the middle of a round: the turns that are left lead to what the round leaves.
pub record Turning (n : ℕ) (nb : ℕ → List ℕ) (r : ℕ) (s : Lists) (colors : List ℕ) (after : Round) : Type 0 where
  pub below : ListedBelow n s
  pub size : length colors ≡ n
  pub turns : ℕ
  pub enough : length s.listed ≤ turns
  pub same : color_listed nb r turns s colors ≡ after

pub turn_start : (n : ℕ) (nb : ℕ → List ℕ) (r : ℕ) (s : Lists) (colors : List ℕ) → ListedBelow n s → length colors ≡ n → Turning n nb r s colors (color_listed nb r (length s.listed) s colors)
turn_start n nb r s colors b e = record { below = b; size = e; turns = length s.listed; enough = omega arith; same = refl }

-- The front item, as the code takes it out.
front_split : (v : ℕ) (l : List ℕ) → take 1 l ≡ v ∷ [] → (vs : List ℕ) × (l ≡ v ∷ vs)
front_split v [] e = absurd (omega (arith, ap length e))
front_split v (x ∷ l) e = (l, ap (λ (y : List ℕ). get_or y 0 0 ∷ l) e)

module _ (n : ℕ) (nb : ℕ → List ℕ) (r : ℕ) (s : Lists) (colors : List ℕ) (after : Round) (turning : Turning n nb r s colors after) where
  pub turn_done : s.listed ≡ [] → (s ≡ record { listed = []; next = after.next }) × (colors ≡ after.colors)
  turn_done e =
      let same = sym (color_empty nb r turning.turns s.listed s.next colors e) ∙ turning.same in
      (ap₂ (λ (a b : List ℕ). record { listed = a; next = b }) e (ap (λ (a : Round). a.next) same), ap (λ (a : Round). a.colors) same)

  module _ (v : ℕ) (t : Lists) (taken : (take 1 s.listed ≡ v ∷ []) × (t ≡ record { listed = take_out v s.listed; next = s.next })) where
    split : (vs : List ℕ) × (s.listed ≡ v ∷ vs)
    split = front_split v s.listed taken.0

    pub front_below : v < n
    front_below = turning.below v (inl (rw split.1 (inl refl)))

    module _ (u : Lists) (e : u ≡ put_off_all t (nb v)) where
      -- The list falls.
      pub turn_less : length u.listed < length s.listed
      turn_less = omega (arith, ap (λ (x : Lists). length x.listed) e, put_off_length t (nb v), ap (λ (x : Lists). length x.listed) taken.1, take_out_length v s.listed, ap length split.1)

      pub turn_more : Turning n nb r u (set colors v r) after
      turn_more = go turning.turns turning.enough turning.same
        where
          go : (turns : ℕ) → length s.listed ≤ turns → color_listed nb r turns s colors ≡ after → Turning n nb r u (set colors v r) after
          go zero b p = let z : ⊥ = omega (arith, turn_less) in absurd z
          go (suc turns) b p = record {
            below = rw (e, taken.1) (put_off_all_below n (record { listed = take_out v s.listed; next = s.next }) (nb v) (out_below n v s turning.below));
            size = length-set colors v r ∙ turning.size;
            turns = turns;
            enough = omega (arith, turn_less);
            same = rw (e, taken.1) (sym (color_front nb r turns s.listed split.0 s.next colors v split.1) ∙ p);
          }

-- ---- one round after the other

-- Between rounds: the rounds that are left lead to the answer.
pub record Rounding (n : ℕ) (nb : ℕ → List ℕ) (presets : List ℕ) (s : Lists) (r : ℕ) (colors answer : List ℕ) : Type 0 where
  pub below : ListedBelow n s
  pub none : s.next ≡ []
  pub size : length colors ≡ n
  pub same : rounds nb n presets (n - r) r s.listed colors ≡ answer

pub rounds_start : (n : ℕ) (nb : ℕ → List ℕ) (presets : List ℕ) (s : Lists) (colors : List ℕ) → ListedBelow n s → s.next ≡ [] → length colors ≡ n → Rounding n nb presets s 0 colors (rounds nb n presets n 0 s.listed colors)
rounds_start n nb presets s colors b a e = record { below = b; none = a; size = e; same = let z : n - 0 ≡ n = omega arith in rw z }

-- A round with nothing listed changes nothing.
put_off_empty : (s : Lists) (ks : List ℕ) → s.listed ≡ [] → put_off_all s ks ≡ s
unfolding put_off_all
put_off_empty s [] e = refl
put_off_empty s (k ∷ ks) e = rw (put_off_no s k (not_mem_elem k s.listed (λ p. subst (Mem k) e p))) (put_off_empty s ks e)

presets_empty : (nb : ℕ → List ℕ) (presets : List ℕ) (r n : ℕ) (s : Lists) → s.listed ≡ [] → put_off_presets nb presets r n s ≡ s
unfolding put_off_presets
presets_empty nb presets r zero s e = refl
presets_empty nb presets r (suc n) s e =
    let i = presets_empty nb presets r n s e in
    by-test (eqb (color_of presets n) r) (λ t. rw (t, put_off_presets, i) (put_off_empty s (nb n) e)) (λ t. rw (t, put_off_presets, i))

round_empty : (nb : ℕ → List ℕ) (n : ℕ) (presets : List ℕ) (r : ℕ) (colors : List ℕ) → round nb n presets r [] colors ≡ record { next = []; colors = colors }
unfolding round
round_empty nb n presets r colors = rw (presets_empty nb presets r n (record { listed = []; next = [] }) refl) (color_empty nb r 0 [] [] colors refl)

rounds_empty : (nb : ℕ → List ℕ) (n : ℕ) (presets : List ℕ) (more r : ℕ) (colors : List ℕ) → rounds nb n presets more r [] colors ≡ colors
unfolding rounds
rounds_empty nb n presets zero r colors = refl
rounds_empty nb n presets (suc more) r colors = rw (round_empty nb n presets r colors) (rounds_empty nb n presets more (suc r) colors)

module _ (n : ℕ) (nb : ℕ → List ℕ) (presets : List ℕ) (s : Lists) (r : ℕ) (colors answer : List ℕ) (rounding : Rounding n nb presets s r colors answer) where
  pub rounds_over : s.listed ≡ [] → colors ≡ answer
  rounds_over e = sym (rounds_empty nb n presets (n - r) r colors) ∙ (ap (λ (x : List ℕ). rounds nb n presets (n - r) r x colors) (sym e) ∙ rounding.same)

  pub rounds_done : n ≤ r → colors ≡ answer
  unfolding rounds
  rounds_done h = let z : n - r ≡ 0 = omega arith in rw z at rounding.same

  module _ (t : Lists) (e : t ≡ put_off_presets nb presets r n s) where
    pub round_below : ListedBelow n t
    round_below = rw e (put_off_presets_below n nb presets r n s rounding.below)

    pub round_more : r < n → (u w : Lists) (colors' : List ℕ) → (u ≡ record { listed = []; next = (color_listed nb r (length t.listed) t colors).next }) × (colors' ≡ (color_listed nb r (length t.listed) t colors).colors)
        → ListedBelow n u → length colors' ≡ n → w ≡ record { listed = u.next; next = [] } → Rounding n nb presets w (r + 1) colors' answer
    unfolding rounds round
    round_more h u w colors' p b size q =
        let alone : s ≡ record { listed = s.listed; next = [] } = ap (λ (x : List ℕ). record { listed = s.listed; next = x }) rounding.none in
        let after : color_listed nb r (length t.listed) t colors ≡ round nb n presets r s.listed colors = ap (λ (x : Lists). color_listed nb r (length x.listed) x colors) (e ∙ ap (put_off_presets nb presets r n) alone) in
        let next : w.listed ≡ (round nb n presets r s.listed colors).next = ap (λ (x : Lists). x.listed) q ∙ (ap (λ (x : Lists). x.next) p.0 ∙ ap (λ (x : Round). x.next) after) in
        let f : n - r ≡ suc (n - (r + 1)) = omega arith in
        let step : rounds nb n presets (n - r) r s.listed colors ≡ rounds nb n presets (n - (r + 1)) (suc r) (round nb n presets r s.listed colors).next (round nb n presets r s.listed colors).colors = rw f in
        record {
          below = rw q (λ v m. elim m [ inl x ↦ b v (inr x) | inr z ↦ absurd z ]);
          none = ap (λ (x : Lists). x.next) q;
          size = size;
          same = rw (add-one r, next, p.1, after) (sym (rw (add-one r) at step) ∙ rounding.same);
        }

-- The answer of the whole call.
pub colors_answer : (n : ℕ) (nb : ℕ → List ℕ) (presets colors answer : List ℕ) (s : Lists) → length presets ≡ n → s ≡ record { listed = uncolored presets (length presets); next = [] } → colors ≡ presets → answer ≡ rounds nb n presets n 0 s.listed colors
    → answer ≡ independent_set_colors nb n presets
unfolding independent_set_colors
colors_answer n nb presets colors answer s e l p a = a ∙ ap₂ (λ (x y : List ℕ). rounds nb n presets n 0 x y) (ap (λ (x : Lists). x.listed) l ∙ ap (uncolored presets) e) p

pub uncolored_below : (n : ℕ) (presets : List ℕ) (s : Lists) → length presets ≡ n → s ≡ record { listed = uncolored presets (length presets); next = [] } → ListedBelow n s
uncolored_below n presets s e l = rw l (λ v m. elim m [ inl p ↦ omega (arith, (uncolored_member presets (length presets) v p).0) | inr z ↦ absurd z ])
