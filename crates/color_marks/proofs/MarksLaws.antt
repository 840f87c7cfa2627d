-- Laws of the marks: the items around one, what is stored for them, and where a colour stands.
use Prim.Native.Nat.{ℕ, ◌+◌, ◌<◌, ◌≤◌, zero, suc}
use mathlib.Core.Path.{◌≡◌, refl, sym, ◌∙◌}
use mathlib.Core.List.{List, [], ◌∷◌, ◌++◌}
use native.Mathlib.Numerals.{add-one}
use lib.ListN.{length, get_or, take, set, length-set, replicate, length-replicate, get_or-replicate}
use lib.Seq.{take-suc, set_out, take-length, get_or-set_same, get_or-set_other}
use borrow.Author.Tests.{eq-eqb, ne_eqb, lt-ltb, ltb-true, eqb-true}
use mathlib.Core.Logic.{inl, inr}
use native.Mathlib.Omega.{arith}
use mathlib.Core.Bool.{Bool, true, false, ◌||◌, false≢true, cond}
use lib.Dec.{eqb, ltb}
use Rattle.lists.proofs.MemberLaws.{map_append, dec_mem}
use Rattle.items.specs.declared.Kind.{Kind}
use Rattle.std.specs.Bool.{MatchBool}
use Rattle.color_marks.specs.declared.Note.{Note}
use Rattle.color_marks.specs.declared.Note.TheVariants.{NotAsked, Absent, Stands}
use Rattle.items.specs.Items.{first_node, second_node, across_of}
use Rattle.color_marks.specs.Marks.{across_all, along, around, stored, has_color, stands_at, stands, mark_of, says_stands, Asked, used_marks}
use Rattle.lists.specs.Member.{Mem, elem}
use Rattle.lists.proofs.Tests.{by-test, and_true, or_true, true_or, dec_eq}
use Rattle.graph.specs.Colored.{color_of}
use Rattle.graph.proofs.ColorLaws.{color_read}
use Rattle.graph.specs.Stretch.{stretch}
use Rattle.graph.specs.Color.{no_color}

-- ---- the items around one

pub across_more : (kind : Kind) (ends : List ℕ) (w : ℕ) (ks : List ℕ) (i : ℕ) → i < length ks
    → across_all kind ends w (take (i + 1) ks) ≡ across_all kind ends w (take i ks) ++ across_of kind ends (get_or ks i 0) w ∷ []
unfolding across_all
across_more kind ends w ks i h = rw (add-one i, take-suc ks i 0 h) (map_append (λ (k : ℕ). across_of kind ends k w) (take i ks) (get_or ks i 0 ∷ []))

module _ (kind : Kind) (ends starts entries : List ℕ) where
  pub around_one : (v a b : ℕ) → a ≡ first_node kind ends v → b ≡ second_node kind ends v → a ≡ b → around kind ends starts entries v ≡ along kind ends starts entries a
  unfolding around
  around_one v a b p q e = rw (← p, ← q, eq-eqb a b e)

  pub around_two : (v a b : ℕ) → a ≡ first_node kind ends v → b ≡ second_node kind ends v → (a ≡ b → ⊥) → around kind ends starts entries v ≡ along kind ends starts entries a ++ along kind ends starts entries b
  unfolding around
  around_two v a b p q n = rw (← p, ← q, ne_eqb a b n)

-- ---- what is stored for them

module _ (f : ℕ → ℕ) where
  stored_append : (us ws marks : List ℕ) → stored f (us ++ ws) marks ≡ stored f ws (stored f us marks)
  unfolding stored
  stored_append [] ws marks = refl
  stored_append (u ∷ us) ws marks = stored_append us ws (set marks u (f u))

  stored_last : (us : List ℕ) (u : ℕ) (marks : List ℕ) → stored f (us ++ u ∷ []) marks ≡ set (stored f us marks) u (f u)
  unfolding stored
  stored_last us u marks = stored_append us (u ∷ []) marks

  -- ---- what stands there afterwards

  stored_other : (us marks : List ℕ) (u : ℕ) → (Mem u us → ⊥) → get_or (stored f us marks) u 0 ≡ get_or marks u 0
  unfolding stored
  stored_other [] marks u n = refl
  stored_other (x ∷ us) marks u n = stored_other us (set marks x (f x)) u (λ p. n (inr p)) ∙ get_or-set_other marks x u (f x) 0 (λ e. n (inl e))

  pub stored_here : (us marks : List ℕ) (u : ℕ) → Mem u us → u < length marks → get_or (stored f us marks) u 0 ≡ f u
  unfolding stored
  stored_here [] marks u p h = elim p [ ]
  stored_here (x ∷ us) marks u p h = elim (dec_mem u us) [
    | inl q ↦ stored_here us (set marks x (f x)) u q (omega (arith, length-set marks x (f x)))
    | inr n ↦ elim p [
      | inl e ↦ stored_other us (set marks x (f x)) u n ∙ rw e (get_or-set_same marks x (f x) 0 (omega arith))
      | inr q ↦ absurd (n q)
    ]
  ]

  -- ---- the items along these edges of node w, one edge after the other

  module _ (kind : Kind) (ends : List ℕ) (w : ℕ) (ks marks₀ : List ℕ) where
    pub along_none : marks₀ ≡ stored f (across_all kind ends w (take 0 ks)) marks₀
    unfolding stored across_all
    along_none = refl

    module _ (marks : List ℕ) (i : ℕ) (p : marks ≡ stored f (across_all kind ends w (take i ks)) marks₀) where
      pub along_more : i < length ks → (u x : ℕ) → u ≡ across_of kind ends (get_or ks i 0) w → x ≡ f u → set marks u x ≡ stored f (across_all kind ends w (take (i + 1) ks)) marks₀
      along_more h u x e q = rw (across_more kind ends w ks i h, stored_last (across_all kind ends w (take i ks)) (across_of kind ends (get_or ks i 0) w) marks₀, p, q, e)

      -- An item that has no place changes nothing.
      pub along_outside : i < length ks → (u : ℕ) → u ≡ across_of kind ends (get_or ks i 0) w → length marks ≤ u → marks ≡ stored f (across_all kind ends w (take (i + 1) ks)) marks₀
      along_outside h u e o = sym (set_out marks u (f u) o) ∙ along_more h u (f u) e refl

      pub along_all : i ≤ length ks → length ks ≤ i → marks ≡ stored f (across_all kind ends w ks) marks₀
      along_all h k = let e : i ≡ length ks = omega arith in p ∙ rw (e, take-length ks)

-- ---- where a colour stands

module _ (kind : Kind) (ends colors : List ℕ) (c w : ℕ) where
  -- ---- which item it is

  pub stands_item : (ks : List ℕ) → stands_at kind ends colors c w ks ≡ true → (k : ℕ) × Mem k ks × (across_of kind ends k w < length colors) × (color_of colors (across_of kind ends k w) ≡ c)
  unfolding stands_at has_color
  stands_item [] e = absurd (false≢true e)
  stands_item (k ∷ ks) e =
      let v = across_of kind ends k w in
      elim (or_true (has_color colors c v) (stands_at kind ends colors c w ks) e) [
        | inl t ↦
            let r = and_true (ltb v (length colors)) (eqb (get_or colors v 0) c) t in
            let h = ltb-true v (length colors) r.0 in
            (k, inl refl, h, sym (color_read colors v 0 h) ∙ eqb-true (get_or colors v 0) c r.1)
        | inr t ↦ let r = stands_item ks t in (r.0, inr r.1, r.2, r.3)
      ]

  pub item_stands : (ks : List ℕ) (k : ℕ) → Mem k ks → across_of kind ends k w < length colors → color_of colors (across_of kind ends k w) ≡ c → stands_at kind ends colors c w ks ≡ true
  unfolding stands_at has_color
  item_stands [] k x3 h e = elim x3 [ ]
  item_stands (j ∷ ks) k (inl p) h e =
      let v = across_of kind ends k w in
      rw (← p, lt-ltb v (length colors) h, eq-eqb (get_or colors v 0) c (color_read colors v 0 h ∙ e))
  item_stands (j ∷ ks) k (inr p) h e = true_or (has_color colors c (across_of kind ends j w)) (stands_at kind ends colors c w ks) (item_stands ks k p h e)

  -- ---- as the code finds it, by the places of the edges

  stands_found : (ks : List ℕ) (i : ℕ) → i < length ks → has_color colors c (across_of kind ends (get_or ks i 0) w) ≡ true → stands_at kind ends colors c w ks ≡ true
  unfolding stands_at
  stands_found [] i h t = let z : ⊥ = omega arith in absurd z
  stands_found (k ∷ ks) zero h t = rw t
  stands_found (k ∷ ks) (suc i) h t = true_or (has_color colors c (across_of kind ends k w)) (stands_at kind ends colors c w ks) (stands_found ks i (omega arith) t)

  stands_missed : (ks : List ℕ) → ((i : ℕ) → i < length ks → has_color colors c (across_of kind ends (get_or ks i 0) w) ≡ false) → stands_at kind ends colors c w ks ≡ false
  unfolding stands_at
  stands_missed [] f = refl
  stands_missed (k ∷ ks) f = let z : 0 < suc (length ks) = omega arith in rw (f 0 z) (stands_missed ks (λ i h. f (suc i) (omega arith)))

  pub stands_by : (ks edges : List ℕ) (r : Bool) → ks ≡ edges
      → MatchBool r ((i : ℕ) × (i < length ks) × (has_color colors c (across_of kind ends (get_or ks i 0) w) ≡ true)) ((i : ℕ) → i < length ks → has_color colors c (across_of kind ends (get_or ks i 0) w) ≡ false)
      → r ≡ stands_at kind ends colors c w edges
  stands_by ks edges true e found = rw (← e) (sym (stands_found ks found.0 found.1 found.2))
  stands_by ks edges false e missed = rw (← e) (sym (stands_missed ks missed))

module _ (kind : Kind) (ends starts entries colors : List ℕ) (c : ℕ) where
  -- ---- as the code asks

  pub asked_none : Asked kind ends starts entries colors c (replicate 512 NotAsked)
  asked_none = record { answer = λ w h n. absurd (n (get_or-replicate 512 w NotAsked NotAsked (rw (length-replicate {A = Note} 512 NotAsked) at h))) }

  asked_more : (at : List Note) (w : ℕ) (x : Note) → Asked kind ends starts entries colors c at → w < length at → says_stands x ≡ stands kind ends starts entries colors c w → Asked kind ends starts entries colors c (set at w x)
  asked_more at w x p h e = record {
    answer = λ u b n. elim (dec_eq u w) [
      | inl z ↦ rw (z, get_or-set_same at w x NotAsked h) e
      | inr z ↦ rw (get_or-set_other at w u x NotAsked z) (p.answer u (omega (arith, length-set at w x)) (rw (get_or-set_other at w u x NotAsked z) at n))
    ];
  }

  pub asked_outside : (at : List Note) (w : ℕ) → Asked kind ends starts entries colors c at → (r : Bool) → r ≡ stands_at kind ends colors c w (stretch starts entries w) → (r ≡ stands kind ends starts entries colors c w) × Asked kind ends starts entries colors c at
  unfolding stands
  asked_outside at w p r q = (q, p)

  module _ (at : List Note) (w : ℕ) (p : Asked kind ends starts entries colors c at) (h : w < length at) (r : Bool) (q : r ≡ stands_at kind ends colors c w (stretch starts entries w)) where
    pub asked_yes : r ≡ true → (r ≡ stands kind ends starts entries colors c w) × Asked kind ends starts entries colors c (set at w Stands)
    unfolding stands
    asked_yes t = (q, asked_more at w Stands p h (sym t ∙ q))

    pub asked_no : r ≡ false → (r ≡ stands kind ends starts entries colors c w) × Asked kind ends starts entries colors c (set at w Absent)
    unfolding stands
    asked_no t = (q, asked_more at w Absent p h (sym t ∙ q))

  module _ (v : ℕ) (r : Bool) (e : r ≡ has_color colors no_color v) where
    pub mark_colored : r ≡ false → 0 ≡ mark_of kind ends starts entries colors c v
    unfolding mark_of
    mark_colored t = rw (← e, t)

    module _ (bare : r ≡ true) where
      -- The mark of an item without a colour.
      mark_bare : mark_of kind ends starts entries colors c v ≡ cond (stands kind ends starts entries colors c (first_node kind ends v) || stands kind ends starts entries colors c (second_node kind ends v)) 1 0
      unfolding mark_of
      mark_bare = rw (← e, bare)

      -- The mark is 1 where the first node said that the colour stands there, and otherwise what the second said.
      module _ (m : ℕ) (said : Bool) (one : said ≡ true → m ≡ 1) (zero : said ≡ false → m ≡ 0) (a : ℕ) (p : a ≡ first_node kind ends v) (f : Bool) (x : f ≡ stands kind ends starts entries colors c a) where
        pub mark_first : said ≡ f → f ≡ true → m ≡ mark_of kind ends starts entries colors c v
        mark_first q t = one (q ∙ t) ∙ sym (mark_bare ∙ rw (← p, ← x, t))

        pub mark_second : f ≡ false → (b : ℕ) → b ≡ second_node kind ends v → (s : Bool) → s ≡ stands kind ends starts entries colors c b → said ≡ s → m ≡ mark_of kind ends starts entries colors c v
        mark_second t b y s z q = by-test s
            (λ u. one (q ∙ u) ∙ sym (mark_bare ∙ rw (← p, ← y, ← x, ← z, t, u)))
            (λ u. zero (q ∙ u) ∙ sym (mark_bare ∙ rw (← p, ← y, ← x, ← z, t, u)))

  pub bare_mark : (v : ℕ) → v < length colors → get_or colors v 0 ≡ no_color → mark_of kind ends starts entries colors c v ≡ cond (stands kind ends starts entries colors c (first_node kind ends v) || stands kind ends starts entries colors c (second_node kind ends v)) 1 0
  unfolding has_color
  bare_mark v inside bare = mark_bare v true (rw (lt-ltb v (length colors) inside, eq-eqb (get_or colors v 0) no_color bare)) refl

-- The items around item v get their marks, those along the edges at its first node and then at its second.
module _ (kind : Kind) (ends starts entries : List ℕ) (v a b : ℕ) (p : a ≡ first_node kind ends v) (q : b ≡ second_node kind ends v) where
  module _ (f : ℕ → ℕ) (edges : List ℕ) (x : edges ≡ stretch starts entries a) (marks₀ marks : List ℕ) (m : marks ≡ stored f (across_all kind ends a edges) marks₀) where
    pub around_stored : a ≡ b → marks ≡ stored f (around kind ends starts entries v) marks₀
    unfolding along
    around_stored e = rw (around_one kind ends starts entries v a b p q e, ← x) m

    pub both_stored : (a ≡ b → ⊥) → (others : List ℕ) → others ≡ stretch starts entries b → (marks' : List ℕ) → marks' ≡ stored f (across_all kind ends b others) marks → marks' ≡ stored f (around kind ends starts entries v) marks₀
    unfolding along
    both_stored n others y marks' m' = rw (around_two kind ends starts entries v a b p q n, ← x, ← y, stored_append f (across_all kind ends a edges) (across_all kind ends b others) marks₀, ← m) m'

-- ---- the marks of a colour that is used

module _ (kind : Kind) (ends starts entries colors : List ℕ) (c v : ℕ) (marks : List ℕ) where
  pub used_yes : elem c colors ≡ true → (used_marks kind ends starts entries colors c v marks) ≡ stored (mark_of kind ends starts entries colors c) (around kind ends starts entries v) marks
  unfolding used_marks
  used_yes t = rw t

  pub used_no : elem c colors ≡ false → (used_marks kind ends starts entries colors c v marks) ≡ marks
  unfolding used_marks
  used_no f = rw f

  -- As the code asks.
  pub used_marked : (after : List ℕ) → after ≡ stored (mark_of kind ends starts entries colors c) (around kind ends starts entries v) marks → (r : Bool) → r ≡ elem c colors → r ≡ true → after ≡ used_marks kind ends starts entries colors c v marks
  used_marked after e r p t = e ∙ sym (used_yes (sym p ∙ t))

  pub unused_kept : (r : Bool) → r ≡ elem c colors → r ≡ false → marks ≡ used_marks kind ends starts entries colors c v marks
  unused_kept r p f = sym (used_no (sym p ∙ f))
