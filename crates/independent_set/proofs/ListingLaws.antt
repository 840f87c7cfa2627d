-- The list of uncoloured items as the code holds it, and what taking out and putting off do to it.
use Prim.Native.Nat.{ℕ, zero, suc, ◌+◌, ◌-◌, ◌≤◌, ◌<◌}
use mathlib.Core.Path.{◌≡◌, refl, sym, ap, ap₂, subst, ◌∙◌}
use mathlib.Core.Logic.{inl, inr, ◌≢◌}
use mathlib.Core.List.{List, [], ◌∷◌, ◌++◌, append-nil}
use mathlib.Core.Bool.{true, false}
use native.Mathlib.Omega.{arith}
use native.Mathlib.Nat.{not-suc-le-zero}
use native.Mathlib.Numerals.{add-one}
use lib.ListN.{length, get_or, set, take, drop, length-append, length-drop, length-set, length-take}
use lib.Seq.{get_or-set_same, get_or-set_other, get_or-take, length-take-le, take_all, take-append_seam, take-set-lt, take-suc-set, take-take}
use lib.Dec.{eqb}
use borrow.Author.Tests.{eqb-true, eqb-false}
use Rattle.lists.proofs.Tests.{by-test, dec_eq}
use Rattle.lists.specs.Parts.{copied_over}
use Rattle.lists.specs.Member.{Mem, elem}
use Rattle.lists.proofs.MemberLaws.{elem_true, mem_elem, not_mem_elem, mem_get_or, place_of_lem}
use Rattle.graph.proofs.ColorLaws.{color_read, colored_true, uncolored_false}
use Rattle.greedy.specs.Turn.{uncolored}
use Rattle.greedy.specs.IndependentSet.{place_of, take_out, Lists, put_off}
use Rattle.independent_set.specs.Listing.{Listing, ListsHeld, lists_at}

-- ---- what the arrays hold

pub lists_held : (n : ℕ) (listed place next : List ℕ) (len end : ℕ) (s : Lists) → ListsHeld n listed place next len end s → lists_at listed next len end ≡ s
lists_held n listed place next len end s h = ap₂ (λ (a b : List ℕ). record { listed = a; next = b }) h.first.held h.second.held

pub held_at : (n : ℕ) (listed place next : List ℕ) (len end : ℕ) (s : Lists) → ListsHeld n listed place next len end s → ListsHeld n listed place next len end (lists_at listed next len end)
held_at n listed place next len end s h = rw (lists_held n listed place next len end s h) h

copied_front : (len : ℕ) (from to : List ℕ) → len ≤ length from → len ≤ length to → take len (copied_over (take len from) to) ≡ take len from
unfolding copied_over
copied_front len from to a b =
    let l = length-take-le len from a in
    rw (take_all (length to) (take len from) (omega arith), l) (ap (λ (i : ℕ). take i (take len from ++ drop len to)) (sym l) ∙ take-append_seam (take len from) (drop len to))

length-copied : (from to : List ℕ) → length (copied_over from to) ≡ length to
unfolding copied_over
length-copied from to = simp (length-append, length-take, length-drop) (omega arith)

-- ---- one list

length_items : (n : ℕ) (listed place : List ℕ) (len : ℕ) (items : List ℕ) → Listing n listed place len items → length items ≡ len
length_items n listed place len items l = ap length (sym l.held) ∙ length-take-le len listed (omega (arith, l.size, l.few, l.room))

item_at : (n : ℕ) (listed place : List ℕ) (len : ℕ) (items : List ℕ) → Listing n listed place len items → (j : ℕ) → j < len → get_or items j 0 ≡ get_or listed j 0
item_at n listed place len items l j h = ap (λ (x : List ℕ). get_or x j 0) (sym l.held) ∙ get_or-take len listed j 0 h

-- Where an item stands.
item_place : (n : ℕ) (listed place : List ℕ) (len : ℕ) (items : List ℕ) → Listing n listed place len items → (v : ℕ) → Mem v items → (get_or place v 0 < len) × (get_or listed (get_or place v 0) 0 ≡ v)
item_place n listed place len items l v p =
    let r = place_of_lem v items 0 p in
    let h : r.0 < len = omega (arith, r.1, length_items n listed place len items l) in
    let e : get_or listed r.0 0 ≡ v = sym (item_at n listed place len items l r.0 h) ∙ r.2 in
    let q : get_or place v 0 ≡ r.0 = ap (λ (x : ℕ). get_or place x 0) (sym e) ∙ l.placed r.0 h in
    (omega arith, ap (λ (i : ℕ). get_or listed i 0) q ∙ e)

-- What stands at a place is an item.
place_item : (n : ℕ) (listed place : List ℕ) (len : ℕ) (items : List ℕ) → Listing n listed place len items → (j : ℕ) → j < len → Mem (get_or listed j 0) items
place_item n listed place len items l j h = subst (λ (x : ℕ). Mem x items) (item_at n listed place len items l j h) (mem_get_or items j 0 (omega (arith, length_items n listed place len items l)))

-- The definition's place of a member.
pub place_found : (v : ℕ) (xs : List ℕ) → Mem v xs → (place_of v xs < length xs) × (get_or xs (place_of v xs) 0 ≡ v)
unfolding place_of
place_found v [] p = elim p [ ]
place_found v (x ∷ xs) p = by-test (eqb v x)
    (λ t. simp t (omega arith, sym (eqb-true v x t)))
    (λ t. let r = place_found v xs (elim p [ inl q ↦ absurd (eqb-false v x t q) | inr q ↦ q ]) in simp t (omega (arith, r.0), r.1))

-- The definition's place is the code's.
place_same : (n : ℕ) (listed place : List ℕ) (len : ℕ) (items : List ℕ) → Listing n listed place len items → (v : ℕ) → Mem v items → place_of v items ≡ get_or place v 0
place_same n listed place len items l v p =
    let r = place_found v items p in
    let h : place_of v items < len = omega (arith, r.0, length_items n listed place len items l) in
    let e : get_or listed (place_of v items) 0 ≡ v = sym (item_at n listed place len items l (place_of v items) h) ∙ r.1 in
    sym (ap (λ (x : ℕ). get_or place x 0) (sym e) ∙ l.placed (place_of v items) h)

-- ---- whether an item is listed

not_listed : (n : ℕ) (listed place : List ℕ) (len : ℕ) (items : List ℕ) (v : ℕ) → Listing n listed place len items → len ≤ get_or place v 0 → elem v items ≡ false
not_listed n listed place len items v l h = not_mem_elem v items (λ p. omega (arith, (item_place n listed place len items l v p).0))

not_there : (n : ℕ) (listed place : List ℕ) (len : ℕ) (items : List ℕ) (v : ℕ) → Listing n listed place len items → (get_or listed (get_or place v 0) 0 ≡ v → ⊥) → elem v items ≡ false
not_there n listed place len items v l d = not_mem_elem v items (λ p. d (item_place n listed place len items l v p).1)

listed_there : (n : ℕ) (listed place : List ℕ) (len : ℕ) (items : List ℕ) (v : ℕ) → Listing n listed place len items → get_or place v 0 < len → get_or listed (get_or place v 0) 0 ≡ v → elem v items ≡ true
listed_there n listed place len items v l h e = mem_elem v items (subst (λ (x : ℕ). Mem x items) e (place_item n listed place len items l (get_or place v 0) h))

-- ---- one item more

list_push : (n m : ℕ) (listed place : List ℕ) (len : ℕ) (items : List ℕ) (v : ℕ) → Listing n listed place len items → n ≤ m → m ≤ 4096 → v < m → len < m → ((j : ℕ) → j < len → get_or listed j 0 ≢ v)
    → Listing m (set listed len v) (set place v len) (len + 1) (items ++ v ∷ [])
list_push n m listed place len items v l nm bound less space new = record {
  few = bound;
  size = length-set listed len v ∙ l.size;
  places = length-set place v len ∙ l.places;
  room = omega arith;
  inside = λ j h. elim (dec_eq j len) [
    | inl e ↦ rw e (omega (arith, here))
    | inr e ↦ omega (arith, get_or-set_other listed len j v 0 e, l.inside j (omega arith))
  ];
  placed = λ j h. elim (dec_eq j len) [
    | inl e ↦ rw (e, here) (get_or-set_same place v len 0 (omega (arith, l.places)))
    | inr e ↦ rw (get_or-set_other listed len j v 0 e) (get_or-set_other place v (get_or listed j 0) len 0 (new j (omega arith)) ∙ l.placed j (omega arith))
  ];
  held = ap (λ (i : ℕ). take i (set listed len v)) (add-one len) ∙ (take-suc-set listed len v (omega (arith, l.size)) ∙ ap (λ (x : List ℕ). x ++ v ∷ []) l.held);
}
  where
    here : get_or (set listed len v) len 0 ≡ v
    here = get_or-set_same listed len v 0 (omega (arith, l.size))

-- ---- the items without a colour

none_held : (n : ℕ) (listed place : List ℕ) → n ≤ 4096 → length listed ≡ 4096 → length place ≡ 4096 → Listing n listed place 0 []
none_held n listed place few a b = record { few = few; size = a; places = b; room = omega arith; inside = λ j h. absurd (not-suc-le-zero h); placed = λ j h. absurd (not-suc-le-zero h); held = refl }

pub list_none : (listed place presets : List ℕ) → length listed ≡ 4096 → length place ≡ 4096 → Listing 0 listed place 0 (uncolored presets 0)
unfolding uncolored
list_none listed place presets a b = none_held 0 listed place (omega arith) a b

module _ (n v : ℕ) (presets listed place : List ℕ) (len : ℕ) (l : Listing v listed place len (uncolored presets v)) (few : n ≤ 4096) (size : length presets ≡ n) (less : v < n) where
  pub list_more : get_or presets v 0 ≡ 65535 → Listing (v + 1) (set listed len v) (set place v len) (len + 1) (uncolored presets (v + 1))
  unfolding uncolored
  list_more e =
      let t = uncolored_false presets v (sym (color_read presets v 0 (omega arith)) ∙ e) in
      rw (add-one v, uncolored, t) (list_push v (suc v) listed place len (uncolored presets v) v l (omega arith) (omega arith) (omega arith) (omega (arith, l.room)) (λ j h q. omega (arith, l.inside j h)))

  pub list_skip : (get_or presets v 0 ≡ 65535 → ⊥) → Listing (v + 1) listed place len (uncolored presets (v + 1))
  unfolding uncolored
  list_skip e =
      let t = colored_true presets v (λ q. e (color_read presets v 0 (omega arith) ∙ q)) in
      rw (add-one v, uncolored, t) (rw (append-nil (uncolored presets v)) (record { few = omega arith; size = l.size; places = l.places; room = omega (arith, l.room); inside = λ j h. omega (arith, l.inside j h); placed = l.placed; held = l.held }))

-- A list of items alone, none of them put off.
pub alone_held : (m n : ℕ) (listed place next : List ℕ) (len : ℕ) (items : List ℕ) → m ≤ n → n ≤ 4096 → length next ≡ 4096 → Listing m listed place len items → ListsHeld n listed place next len 0 (record { listed = items; next = [] })
alone_held m n listed place next len items b few spare l = record {
  first = record { few = few; size = l.size; places = l.places; room = omega (arith, l.room); inside = λ j h. omega (arith, l.inside j h); placed = l.placed; held = l.held };
  second = none_held n next place few spare l.places;
  apart = λ i j a h. absurd (not-suc-le-zero h);
  total = omega (arith, l.room);
}

-- ---- taking out

module _ (n : ℕ) (listed place next : List ℕ) (len end : ℕ) (s : Lists) (h : ListsHeld n listed place next len end s) (v : ℕ) (m : Mem v s.listed) where
  -- Where v stands, and what stands last.
  abbrev hole : ℕ
  hole = get_or place v 0

  abbrev last : ℕ
  last = get_or listed (len - 1) 0

  at : (get_or place v 0 < len) × (get_or listed (get_or place v 0) 0 ≡ v)
  at = item_place n listed place len s.listed h.first v m

  last_inside : last < n
  last_inside = h.first.inside (len - 1) (omega (arith, at.0))

  last_placed : get_or place last 0 ≡ len - 1
  last_placed = h.first.placed (len - 1) (omega (arith, at.0))

  -- No other place of the list has the last, or v.
  not_last : (j : ℕ) → j < len - 1 → get_or listed j 0 ≢ last
  not_last j b e = omega (arith, ap (λ (x : ℕ). get_or place x 0) e, last_placed, h.first.placed j (omega arith))

  not_hole : (j : ℕ) → j < len → j ≢ hole → get_or listed j 0 ≢ v
  not_hole j b q e = q (sym (h.first.placed j b) ∙ ap (λ (x : ℕ). get_or place x 0) e)

  moved : get_or (set listed hole last) hole 0 ≡ last
  moved = get_or-set_same listed hole last 0 (omega (arith, at.0, h.first.size, h.first.few, h.first.room))

  -- What a fact about the numbers of the list says of those that are left.
  left_at : (P : ℕ → Type 0) (j : ℕ) → j < len - 1 → (j ≡ hole → P last) → (j ≢ hole → P (get_or listed j 0)) → P (get_or (set listed hole last) j 0)
  left_at P j b f g = elim (dec_eq j hole) [
    | inl e ↦ subst P (sym (ap (λ (i : ℕ). get_or (set listed hole last) i 0) e ∙ moved)) (f e)
    | inr e ↦ subst P (sym (get_or-set_other listed hole j last 0 e)) (g e)
  ]

  -- The item taken out is not among those that are left.
  taken_gone : (j : ℕ) → j < len - 1 → get_or (set listed hole last) j 0 ≢ v
  taken_gone j b = left_at (λ (x : ℕ). x ≢ v) j b
      (λ e q. omega (arith, last_placed, ap (λ (x : ℕ). get_or place x 0) q))
      (λ e. not_hole j (omega arith) e)

  taken_items : take (len - 1) (set listed hole last) ≡ take_out v s.listed
  unfolding take_out
  taken_items =
      let l = length_items n listed place len s.listed h.first in
      let p = place_same n listed place len s.listed h.first v m in
      let e = item_at n listed place len s.listed h.first (len - 1) (omega (arith, at.0)) in
      rw (l, p, e) (sym (ap (λ (x : List ℕ). take (len - 1) (set x hole last)) (sym h.first.held) ∙ (ap (take (len - 1)) (sym (take-set-lt len listed hole last at.0)) ∙ take-take (len - 1) len (set listed hole last) (omega arith))))

  taken_out : (listed' place' : List ℕ) → listed' ≡ set listed hole last → place' ≡ set place last hole → ListsHeld n listed' place' next (len - 1) end (record { listed = take_out v s.listed; next = s.next })
  taken_out listed' place' p q = rw (p, q) (record {
    first = record {
      few = h.first.few;
      size = length-set listed hole last ∙ h.first.size;
      places = length-set place last hole ∙ h.first.places;
      room = omega (arith, h.first.room);
      inside = λ j b. left_at (λ (x : ℕ). x < n) j b (λ e. last_inside) (λ e. h.first.inside j (omega arith));
      placed = λ j b. left_at (λ (x : ℕ). get_or (set place last hole) x 0 ≡ j) j b
          (λ e. get_or-set_same place last hole 0 (omega (arith, last_inside, h.first.places, h.first.few)) ∙ sym e)
          (λ e. get_or-set_other place last (get_or listed j 0) hole 0 (not_last j b) ∙ h.first.placed j (omega arith));
      held = taken_items;
    };
    second = record {
      few = h.first.few;
      size = h.second.size;
      places = length-set place last hole ∙ h.first.places;
      room = h.second.room;
      inside = h.second.inside;
      placed = λ j b. get_or-set_other place last (get_or next j 0) hole 0 (λ e. h.apart (len - 1) j (omega (arith, at.0)) b (sym e)) ∙ h.second.placed j b;
      held = h.second.held;
    };
    apart = λ i j a b. left_at (λ (x : ℕ). x ≢ get_or next j 0) i a (λ e. h.apart (len - 1) j (omega arith) b) (λ e. h.apart i j (omega arith) b);
    total = omega (arith, h.total);
  })

  -- The item taken out goes to the end of the next list.
  put_off_taken : (listed' place' : List ℕ) → listed' ≡ set listed hole last → place' ≡ set place last hole
      → ListsHeld n listed' (set place' v end) (set next end v) (len - 1) (end + 1) (record { listed = take_out v s.listed; next = s.next ++ v ∷ [] })
  put_off_taken listed' place' p q =
      let t = taken_out listed' place' p q in
      let gone : (j : ℕ) → j < len - 1 → get_or listed' j 0 ≢ v = λ j b. rw p (taken_gone j b) in
      let inside : v < n = omega (arith, at.1, h.first.inside (get_or place v 0) at.0) in
      let new : (j : ℕ) → j < end → get_or next j 0 ≢ v = λ j b e. h.apart (get_or place v 0) j at.0 b (at.1 ∙ sym e) in
      record {
        first = record {
          few = t.first.few;
          size = t.first.size;
          places = length-set place' v end ∙ t.first.places;
          room = t.first.room;
          inside = t.first.inside;
          placed = λ j b. get_or-set_other place' v (get_or listed' j 0) end 0 (gone j b) ∙ t.first.placed j b;
          held = t.first.held;
        };
        second = list_push n n next place' end s.next v t.second (omega arith) t.first.few inside (omega (arith, h.total, at.0)) new;
        apart = λ i j a b. elim (dec_eq j end) [
          | inl e ↦ λ q. gone i a (q ∙ (ap (λ (k : ℕ). get_or (set next end v) k 0) e ∙ get_or-set_same next end v 0 (omega (arith, t.second.size, h.total, at.0, h.first.few))))
          | inr e ↦ λ q. t.apart i j a (omega arith) (q ∙ get_or-set_other next end j v 0 e)
        ];
        total = omega (arith, h.total, at.0);
      }

-- ---- putting off

pub put_off_yes : (s : Lists) (v : ℕ) → elem v s.listed ≡ true → put_off s v ≡ record { listed = take_out v s.listed; next = s.next ++ v ∷ [] }
unfolding put_off
put_off_yes s v e = rw e

pub put_off_no : (s : Lists) (v : ℕ) → elem v s.listed ≡ false → put_off s v ≡ s
unfolding put_off
put_off_no s v e = rw e

-- ---- what the arrays hold after each step

-- An item put off: it was not listed, or it was and is moved.
module _ (n : ℕ) (listed place next : List ℕ) (len end : ℕ) (h : ListsHeld n listed place next len end (lists_at listed next len end)) (v : ℕ) where
  pub put_off_unlisted : len ≤ get_or place v 0 → lists_at listed next len end ≡ put_off (lists_at listed next len end) v
  put_off_unlisted b = sym (put_off_no (lists_at listed next len end) v (not_listed n listed place len (take len listed) v h.first b))

  pub put_off_elsewhere : (get_or listed (get_or place v 0) 0 ≡ v → ⊥) → lists_at listed next len end ≡ put_off (lists_at listed next len end) v
  put_off_elsewhere d = sym (put_off_no (lists_at listed next len end) v (not_there n listed place len (take len listed) v h.first d))

  pub put_off_held : get_or place v 0 < len → get_or listed (get_or place v 0) 0 ≡ v → (listed' place' : List ℕ) → listed' ≡ set listed (get_or place v 0) (get_or listed (len - 1) 0) → place' ≡ set place (get_or listed (len - 1) 0) (get_or place v 0)
      → ListsHeld n listed' (set place' v end) (set next end v) (len - 1) (end + 1) (put_off (lists_at listed next len end) v)
  put_off_held b e listed' place' p q =
      let t = listed_there n listed place len (take len listed) v h.first b e in
      rw (put_off_yes (lists_at listed next len end) v t) (put_off_taken n listed place next len end (lists_at listed next len end) h v (elem_true v (take len listed) t) listed' place' p q)

-- The front item, and the lists without it.
pub front_first : (n : ℕ) (listed place : List ℕ) (len : ℕ) (items : List ℕ) → Listing n listed place len items → 0 < len → take 1 (take len listed) ≡ get_or listed 0 0 ∷ []
front_first n listed place len items l more = front listed len more (omega (arith, l.size))
  where
    front : (xs : List ℕ) (k : ℕ) → 0 < k → 0 < length xs → take 1 (take k xs) ≡ get_or xs 0 0 ∷ []
    front [] k a b = absurd (not-suc-le-zero b)
    front (x ∷ xs) zero a b = absurd (not-suc-le-zero a)
    front (x ∷ xs) (suc k) a b = refl

pub front_out : (n : ℕ) (listed place next : List ℕ) (len end : ℕ) → ListsHeld n listed place next len end (lists_at listed next len end) → 0 < len → (listed' place' : List ℕ)
    → listed' ≡ set listed (get_or place (get_or listed 0 0) 0) (get_or listed (len - 1) 0) → place' ≡ set place (get_or listed (len - 1) 0) (get_or place (get_or listed 0 0) 0)
    → ListsHeld n listed' place' next (len - 1) end (record { listed = take_out (get_or listed 0 0) (take len listed); next = take end next })
front_out n listed place next len end h more = taken_out n listed place next len end (lists_at listed next len end) h (get_or listed 0 0) (place_item n listed place len (take len listed) h.first 0 more)

-- The next list copied over the list.
pub turned : (n : ℕ) (listed place next : List ℕ) (len end : ℕ) (s : Lists) → ListsHeld n listed place next len end s → (copy : List ℕ) → copy ≡ copied_over (take end next) listed
    → ListsHeld n copy place next end 0 (record { listed = take end next; next = [] })
turned n listed place next len end s h copy e = record {
  first = record {
    few = l.few;
    size = ap length e ∙ (length-copied (take end next) listed ∙ h.first.size);
    places = l.places;
    room = l.room;
    inside = λ j b. rw (at j b) (l.inside j b);
    placed = λ j b. rw (at j b) (l.placed j b);
    held = same;
  };
  second = none_held n next place l.few l.size l.places;
  apart = λ i j a b. absurd (not-suc-le-zero b);
  total = omega (arith, l.room);
}
  where
    l : Listing n next place end s.next
    l = h.second

    same : take end copy ≡ take end next
    same = ap (take end) e ∙ copied_front end next listed (omega (arith, l.size, l.few, l.room)) (omega (arith, h.first.size, l.few, l.room))

    at : (j : ℕ) → j < end → get_or copy j 0 ≡ get_or next j 0
    at j b = sym (get_or-take end copy j 0 b) ∙ (ap (λ (x : List ℕ). get_or x j 0) same ∙ get_or-take end next j 0 b)
