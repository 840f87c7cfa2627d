-- Laws of taking out and putting off: who is left in a list without repeats, and who is moved.
use Prim.Native.Nat.{ℕ, zero, suc, ◌-◌, ◌<◌}
use mathlib.Core.List.{List, [], ◌∷◌, ◌++◌}
use mathlib.Core.Logic.{◌⊎◌, inl, inr, ◌≢◌}
use mathlib.Core.Path.{◌≡◌, refl, sym, ap, subst, ◌∙◌}
use native.Mathlib.Nat.{not-suc-le-zero}
use native.Mathlib.Omega.{arith}
use lib.Dec.{eqb}
use lib.ListN.{length, get_or, set, length-set}
use lib.Seq.{get_or-set_same, get_or-set_other, get_or-take, length-take-le}
use borrow.Author.Tests.{eqb-true, eqb-false}
use Rattle.lists.proofs.Tests.{by-test, dec_eq}
use Rattle.lists.specs.Member.{Mem, Nodup, elem}
use Rattle.lists.proofs.MemberLaws.{elem_true, elem_false, mem_get_or, place_of_lem, mem_append, mem_append_left, mem_append_right, nodup_append}
use Rattle.graph.specs.Colored.{color_of}
use Rattle.greedy.specs.IndependentSet.{place_of, take_out, Lists, put_off, put_off_all, put_off_presets}
use Rattle.independent_set.proofs.ListingLaws.{place_found, put_off_yes, put_off_no}

-- ---- lists without repeats, by place

-- What stands at two places is equal only where the places are.
abbrev Once : List ℕ → Type 0
Once l = (i j : ℕ) → i < length l → j < length l → get_or l i 0 ≡ get_or l j 0 → i ≡ j

nodup_once : (l : List ℕ) → Nodup l → Once l
nodup_once [] u i j h k e = absurd (not-suc-le-zero h)
nodup_once (x ∷ l) u zero zero h k e = refl
nodup_once (x ∷ l) u zero (suc j) h k e = absurd (u.0 (subst (λ (y : ℕ). Mem y l) (sym e) (mem_get_or l j 0 (omega arith))))
nodup_once (x ∷ l) u (suc i) zero h k e = absurd (u.0 (subst (λ (y : ℕ). Mem y l) e (mem_get_or l i 0 (omega arith))))
nodup_once (x ∷ l) u (suc i) (suc j) h k e = ap suc (nodup_once l u.1 i j (omega arith) (omega arith) e)

once_nodup : (l : List ℕ) → Once l → Nodup l
once_nodup [] o = tt
once_nodup (x ∷ l) o = (
  λ p. let r = place_of_lem x l 0 p in omega (arith, o (suc r.0) 0 (omega (arith, r.1)) (omega arith) r.2),
  once_nodup l (λ i j h k e. omega (arith, o (suc i) (suc j) (omega arith) (omega arith) e)),
)

-- ---- taking out

module _ (v : ℕ) (l : List ℕ) (u : Nodup l) (m : Mem v l) where
  -- What stands last.
  abbrev last : ℕ
  last = get_or l (length l - 1) 0

  there : (place_of v l < length l) × (get_or l (place_of v l) 0 ≡ v)
  there = place_found v l m

  out_length : length (take_out v l) ≡ length l - 1
  unfolding take_out
  out_length = length-take-le (length l - 1) (set l (place_of v l) last) (rw (length-set l (place_of v l) last) (omega arith))

  -- In the hole stands the last, elsewhere what stood there.
  out_hole : place_of v l < length l - 1 → get_or (take_out v l) (place_of v l) 0 ≡ last
  unfolding take_out
  out_hole h = get_or-take (length l - 1) (set l (place_of v l) last) (place_of v l) 0 h ∙ get_or-set_same l (place_of v l) last 0 there.0

  out_other : (j : ℕ) → j < length l - 1 → j ≢ place_of v l → get_or (take_out v l) j 0 ≡ get_or l j 0
  unfolding take_out
  out_other j h d = get_or-take (length l - 1) (set l (place_of v l) last) j 0 h ∙ get_or-set_other l (place_of v l) j last 0 d

  -- Where what is left stood: another place than v's.
  came_from : (j : ℕ) → j < length l - 1 → (i : ℕ) × (i < length l) × (i ≢ place_of v l) × (get_or (take_out v l) j 0 ≡ get_or l i 0) × ((i ≡ j) ⊎ ((i ≡ length l - 1) × (j ≡ place_of v l)))
  came_from j h = elim (dec_eq j (place_of v l)) [
    | inl e ↦ (length l - 1, omega arith, λ q. omega arith, ap (λ (i : ℕ). get_or (take_out v l) i 0) e ∙ out_hole (omega arith), inr (refl, e))
    | inr d ↦ (j, omega arith, d, out_other j h d, inl refl)
  ]

  pub left_member : (k : ℕ) → Mem k (take_out v l) → Mem k l × (k ≢ v)
  left_member k p =
      let r = place_of_lem k (take_out v l) 0 p in
      let c = came_from r.0 (omega (arith, r.1, out_length)) in
      let e : get_or l c.0 0 ≡ k = sym c.3 ∙ r.2 in
      (subst (λ (x : ℕ). Mem x l) e (mem_get_or l c.0 0 c.1), λ q. c.2 (nodup_once l u c.0 (place_of v l) c.1 there.0 (e ∙ (q ∙ sym there.1))))

  pub member_left : (k : ℕ) → Mem k l → k ≢ v → Mem k (take_out v l)
  member_left k p d =
      let r = place_of_lem k l 0 p in
      let other : r.0 ≢ place_of v l = λ q. d (sym r.2 ∙ (ap (λ (i : ℕ). get_or l i 0) q ∙ there.1)) in
      elim (dec_eq r.0 (length l - 1)) [
        | inl e ↦
            let h : place_of v l < length l - 1 = omega (arith, there.0, other) in
            subst (λ (x : ℕ). Mem x (take_out v l)) (out_hole h ∙ (ap (λ (i : ℕ). get_or l i 0) (sym e) ∙ r.2)) (mem_get_or (take_out v l) (place_of v l) 0 (omega (arith, out_length)))
        | inr n ↦
            let h : r.0 < length l - 1 = omega (arith, r.1, n) in
            subst (λ (x : ℕ). Mem x (take_out v l)) (out_other r.0 h other ∙ r.2) (mem_get_or (take_out v l) r.0 0 (omega (arith, out_length)))
      ]

  pub left_nodup : Nodup (take_out v l)
  left_nodup = once_nodup (take_out v l) (λ i j h k e.
      let a = came_from i (omega (arith, h, out_length)) in
      let b = came_from j (omega (arith, k, out_length)) in
      let s : a.0 ≡ b.0 = nodup_once l u a.0 b.0 a.1 b.1 (sym a.3 ∙ (e ∙ b.3)) in
      elim a.4 [
        | inl p ↦ elim b.4 [ inl q ↦ sym p ∙ (s ∙ q) | inr (q, _) ↦ absurd (omega (arith, out_length)) ]
        | inr (p, x) ↦ elim b.4 [ inl q ↦ absurd (omega (arith, out_length)) | inr (q, y) ↦ x ∙ sym y ]
      ])

-- ---- putting off

-- No item stands twice, in one list or in both.
pub record Tidy (s : Lists) : Type 0 where
  pub listed : Nodup s.listed
  pub next : Nodup s.next
  pub apart : (v : ℕ) → Mem v s.listed → Mem v s.next → ⊥

-- Listed items for which P holds go to the next list, the others stay.
pub record Moved (s t : Lists) (P : ℕ → Type 0) : Type 0 where
  pub tidy : Tidy t
  pub stays : (v : ℕ) → Mem v t.listed → Mem v s.listed × (P v → ⊥)
  pub moved : (v : ℕ) → Mem v t.next → Mem v s.next ⊎ (Mem v s.listed × P v)
  pub all : (v : ℕ) → Mem v s.listed ⊎ Mem v s.next → Mem v t.listed ⊎ Mem v t.next

moved_none : (s : Lists) (P : ℕ → Type 0) → Tidy s → ((v : ℕ) → Mem v s.listed → P v → ⊥) → Moved s s P
moved_none s P t n = record { tidy = t; stays = λ v m. (m, n v m); moved = λ v m. inl m; all = λ v m. m }

moved_then : (s t u : Lists) (P Q : ℕ → Type 0) → Moved s t P → Moved t u Q → Moved s u (λ v. P v ⊎ Q v)
moved_then s t u P Q a b = record {
  tidy = b.tidy;
  stays = λ v m. let y = b.stays v m in let x = a.stays v y.0 in (x.0, λ r. elim r [ inl p ↦ x.1 p | inr q ↦ y.1 q ]);
  moved = λ v m. elim (b.moved v m) [
    | inl x ↦ elim (a.moved v x) [ inl y ↦ inl y | inr (y, p) ↦ inr (y, inl p) ]
    | inr (x, q) ↦ inr ((a.stays v x).0, inr q)
  ];
  all = λ v m. b.all v (a.all v m);
}

moved_as : (s t : Lists) (P Q : ℕ → Type 0) → ((v : ℕ) → P v → Q v) → ((v : ℕ) → Q v → P v) → Moved s t P → Moved s t Q
moved_as s t P Q f g m = record {
  tidy = m.tidy;
  stays = λ v p. let r = m.stays v p in (r.0, λ q. r.1 (g v q));
  moved = λ v p. elim (m.moved v p) [ inl x ↦ inl x | inr (x, q) ↦ inr (x, f v q) ];
  all = m.all;
}

-- The last of a list that another was appended to.
snoc_member : (v k : ℕ) (l : List ℕ) → Mem v (l ++ k ∷ []) → Mem v l ⊎ (v ≡ k)
snoc_member v k l p = elim (mem_append v l (k ∷ []) p) [ inl q ↦ inl q | inr q ↦ elim q [ inl e ↦ inr e | inr z ↦ absurd z ] ]

take_out_moved : (s : Lists) (k : ℕ) → Tidy s → Mem k s.listed → Moved s (record { listed = take_out k s.listed; next = s.next ++ k ∷ [] }) (λ v. v ≡ k)
take_out_moved s k t m = record {
  tidy = record {
    listed = left_nodup k s.listed t.listed m;
    next = nodup_append s.next (k ∷ []) t.next (λ z. z, tt) (λ v p q. elim q [ inl e ↦ t.apart k m (subst (λ (x : ℕ). Mem x s.next) e p) | inr z ↦ z ]);
    apart = λ v p q. let r = left_member k s.listed t.listed m v p in elim (snoc_member v k s.next q) [ inl x ↦ t.apart v r.0 x | inr e ↦ r.1 e ];
  };
  stays = λ v p. left_member k s.listed t.listed m v p;
  moved = λ v p. elim (snoc_member v k s.next p) [ inl x ↦ inl x | inr e ↦ inr (subst (λ (x : ℕ). Mem x s.listed) (sym e) m, e) ];
  all = λ v p. elim (dec_eq v k) [
    | inl e ↦ inr (mem_append_right v s.next (k ∷ []) (inl e))
    | inr d ↦ elim p [ inl x ↦ inl (member_left k s.listed t.listed m v x d) | inr x ↦ inr (mem_append_left v s.next (k ∷ []) x) ]
  ];
}

put_off_moved : (s : Lists) (k : ℕ) → Tidy s → Moved s (put_off s k) (λ v. v ≡ k)
put_off_moved s k t = by-test (elem k s.listed)
    (λ e. rw (put_off_yes s k e) (take_out_moved s k t (elem_true k s.listed e)))
    (λ e. rw (put_off_no s k e) (moved_none s (λ v. v ≡ k) t (λ v m q. elem_false k s.listed e (subst (λ (x : ℕ). Mem x s.listed) q m))))

pub put_off_all_moved : (s : Lists) (ks : List ℕ) → Tidy s → Moved s (put_off_all s ks) (λ v. Mem v ks)
unfolding put_off_all
put_off_all_moved s [] t = moved_none s (λ v. ⊥) t (λ v m z. z)
put_off_all_moved s (k ∷ ks) t =
    let a = put_off_moved s k t in
    moved_then s (put_off s k) (put_off_all (put_off s k) ks) (λ v. v ≡ k) (λ v. Mem v ks) a (put_off_all_moved (put_off s k) ks a.tidy)

-- v is a neighbour of a preset of colour r below n.
abbrev pub ByPreset : (ℕ → List ℕ) → List ℕ → ℕ → ℕ → ℕ → Type 0
ByPreset nb presets r n v = (w : ℕ) × (w < n) × (color_of presets w ≡ r) × Mem v (nb w)

pub put_off_presets_moved : (nb : ℕ → List ℕ) (presets : List ℕ) (r n : ℕ) (s : Lists) → Tidy s → Moved s (put_off_presets nb presets r n s) (ByPreset nb presets r n)
unfolding put_off_presets
put_off_presets_moved nb presets r zero s t = moved_none s (ByPreset nb presets r 0) t (λ v m p. not-suc-le-zero p.1)
put_off_presets_moved nb presets r (suc n) s t =
    let a = put_off_presets_moved nb presets r n s t in
    by-test (eqb (color_of presets n) r)
    (λ e. rw (e, put_off_presets) (moved_as s _ (λ v. ByPreset nb presets r n v ⊎ Mem v (nb n)) (ByPreset nb presets r (suc n))
    (λ v p. elim p [ inl x ↦ (x.0, omega (arith, x.1), x.2, x.3) | inr x ↦ (n, omega arith, eqb-true (color_of presets n) r e, x) ])
    (λ v p. elim (dec_eq p.0 n) [ inl q ↦ inr (subst (λ (w : ℕ). Mem v (nb w)) q p.3) | inr d ↦ inl (p.0, omega (arith, p.1, d), p.2, p.3) ])
    (moved_then s (put_off_presets nb presets r n s) (put_off_all (put_off_presets nb presets r n s) (nb n)) (ByPreset nb presets r n) (λ v. Mem v (nb n)) a (put_off_all_moved (put_off_presets nb presets r n s) (nb n) a.tidy))))
    (λ e. rw (e, put_off_presets) (moved_as s _ (ByPreset nb presets r n) (ByPreset nb presets r (suc n))
    (λ v x. (x.0, omega (arith, x.1), x.2, x.3))
    (λ v p. elim (dec_eq p.0 n) [ inl q ↦ absurd (eqb-false (color_of presets n) r e (ap (color_of presets) (sym q) ∙ p.2)) | inr d ↦ (p.0, omega (arith, p.1, d), p.2, p.3) ])
    a))
