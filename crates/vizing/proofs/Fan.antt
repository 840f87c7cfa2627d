-- The fan: what it is, how it grows, and its rotation.
use Prim.Native.Nat.{ℕ, zero, suc, ◌+◌, ◌≤◌}
use mathlib.Core.Path.{◌≡◌, refl, sym, subst, ap, ◌∙◌}
use mathlib.Core.Logic.{◌⊎◌, inl, inr, ◌≢◌}
use mathlib.Core.List.{List, [], ◌∷◌}
use native.Mathlib.Omega.{arith}
use lib.ListN.{length}
use mathlib.Core.Bool.{cond}
use lib.Dec.{eqb}
use borrow.Author.Tests.{eq-eqb, ne_eqb}
use Rattle.lists.proofs.Tests.{dec_eq, by-test}
use Rattle.lists.specs.Member.{Mem, Nodup}
use Rattle.graph.specs.Color.{no_color}
use Rattle.vizing.specs.Coloring.{Free, Proper}
use Rattle.vizing.proofs.AlternatingPath.{swap_other, Meets, Exchanged, ExchangedAt, UnchangedAt, starts_with_d, free_at_end, at_node, at_start, free_exchanged, free_unchanged, exchange_colored, Graph, Except, color_edge, uncolor_edge}
use Rattle.lists.proofs.MemberLaws.{dec_mem, pigeonhole}
use Rattle.graph.specs.Edges.{far_end, edges_at, degree}
use Rattle.graph.proofs.EdgeLaws.{edge_at, at_edge}
use Rattle.graph.specs.Colored.{color_of}
use Rattle.vizing.specs.MisraGries.{is_free, first_joining}
use Rattle.vizing.proofs.StepForm.{grow_fan, last_far_end, places_to}
use Rattle.graph.proofs.ColorLaws.{NoneHas}
use Rattle.vizing.proofs.DefinitionLaws.{some_or_none, is_free_true, is_free_false, first_joining_some, first_joining_none}
use Rattle.vizing.specs.Simple.{Incident}

-- ---- Fans at a node u: what the exchange leaves of a fan, and that afterwards d is free at the far end of some place

-- The last of these edges, or e if there is none.
unfoldable pub last_edge : ℕ → List ℕ → ℕ
last_edge e [] = e
last_edge e (k ∷ ks) = last_edge k ks

pub last_member : (e : ℕ) (ks : List ℕ) → Mem (last_edge e ks) (e ∷ ks)
unfolding last_edge
last_member e [] = inl refl
last_member e (k ∷ ks) = inr (last_member k ks)

module _ (At : ℕ → ℕ → Type 0) (far : ℕ → ℕ → ℕ) (u : ℕ) where
  -- The edges ks continue a fan at u after edge e: each is coloured, and its colour is free at the far end of the edge before it.
  pub data Fan (f : ℕ → ℕ) : ℕ → List ℕ → Type 0 where
    done : {e : ℕ} → Fan f e []
    next : {e : ℕ} {ks : List ℕ} (k : ℕ) → At k u → f k ≢ no_color → Free At f (far e u) (f k) → Fan f k ks → Fan f e (k ∷ ks)

  -- Of the places e ∷ ks the first whose far end has d free is the last of e ∷ js, and e ∷ js are the places up to it.
  pub data UpTo (g : ℕ → ℕ) (d : ℕ) : ℕ → List ℕ → List ℕ → Type 0 where
    here : {e : ℕ} {ks : List ℕ} → Free At g (far e u) d → UpTo g d e ks []
    further : {e k : ℕ} {ks js : List ℕ} → (Free At g (far e u) d → ⊥) → UpTo g d k ks js → UpTo g d e (k ∷ ks) (k ∷ js)

module _ {At : ℕ → ℕ → Type 0} {far : ℕ → ℕ → ℕ} {u : ℕ} where
  pub fan_edge : {f : ℕ → ℕ} {e : ℕ} {ks : List ℕ} → Fan At far u f e ks → (i : ℕ) → Mem i ks → At i u × (f i ≢ no_color)
  fan_edge {f = f} (done {e = e}) i x4 = elim x4 [ ]
  fan_edge (Fan.next k a colored free fan) i (inl z) = rw z (a, colored)
  fan_edge (Fan.next k a colored free fan) i (inr z) = fan_edge fan i z

  pub fan_at : {f : ℕ → ℕ} {e : ℕ} {ks : List ℕ} → Fan At far u f e ks → At e u → (i : ℕ) → Mem i (e ∷ ks) → At i u
  fan_at fan a i (inl z) = rw z a
  fan_at fan a i (inr z) = (fan_edge fan i z).0

  pub up_to_free : {g : ℕ → ℕ} {d e : ℕ} {ks js : List ℕ} → UpTo At far u g d e ks js → Free At g (far (last_edge e js) u) d
  unfolding last_edge
  up_to_free (UpTo.here free) = free
  up_to_free (UpTo.further h rest) = up_to_free rest

  pub up_to_member : {g : ℕ → ℕ} {d e : ℕ} {ks js : List ℕ} → UpTo At far u g d e ks js → (i : ℕ) → Mem i js → Mem i ks
  up_to_member {g = g} {d = d} (here {e = e} {ks = ks} _) i x6 = elim x6 [ ]
  up_to_member (UpTo.further h rest) i (inl z) = inl z
  up_to_member (UpTo.further h rest) i (inr z) = inr (up_to_member rest i z)

  pub up_to_nodup : {g : ℕ → ℕ} {d e : ℕ} {ks js : List ℕ} → UpTo At far u g d e ks js → Nodup (e ∷ ks) → Nodup (e ∷ js)
  up_to_nodup (UpTo.here free) nodup = (λ i. i, tt)
  up_to_nodup {e = e} (UpTo.further h rest) (out, nodup) = (λ i. out (up_to_member (UpTo.further h rest) e i), up_to_nodup rest nodup)

  -- The place before edge x of a fan: the colour of x is free at its far end, and it is not the last place.
  before : {f : ℕ → ℕ} {e : ℕ} {ks : List ℕ} → Fan At far u f e ks → Nodup (e ∷ ks) → (x : ℕ) → Mem x ks
      → (j : ℕ) × Mem j (e ∷ ks) × Free At f (far j u) (f x) × (j ≢ last_edge e ks)
  unfolding last_edge
  before {f = f} (done {e = e}) _ x x12 = elim x12 [ ]
  before {e = e} (Fan.next {ks = ks} k a colored free fan) (out, nodup) x (inl z) =
      (e, inl refl, rw z free, λ y. out (subst (λ (i : ℕ). Mem i (k ∷ ks)) (sym y) (last_member k ks)))
  before (Fan.next k a colored free fan) (out, nodup) x (inr z) = let r = before fan nodup x z in (r.0, inr r.1, r.2, r.3)

  module _ {f g : ℕ → ℕ} {c d : ℕ} {path : List ℕ} (E : Exchanged At far f g u c d path) where
    -- Up to the first place whose far end has d free, the fan is a fan after the exchange.
    pub fan_up_to : {e : ℕ} {ks js : List ℕ} → UpTo At far u g d e ks js → Fan At far u f e ks → Fan At far u g e js
    fan_up_to (UpTo.here free) fan = Fan.done
    fan_up_to {e} (UpTo.further h rest) (Fan.next k a colored free fan) = Fan.next k a (exchange_colored E k colored) (go (at_node E (far e u))) (fan_up_to rest fan)
      where
        go : (Meets At path (far e u) × ExchangedAt E (far e u)) ⊎ UnchangedAt E (far e u) → Free At g (far e u) (g k)
        go (inl (r, exchanged)) = rw (at_start E k a) (free_exchanged E (far e u) (f k) exchanged free)
        go (inr unchanged) = elim (dec_eq (f k) d) [
          | inl z ↦ absurd (h (free_unchanged E (far e u) d unchanged (subst (Free At f (far e u)) z free)))
          | inr z ↦ rw (at_start E k a, swap_other c d (f k) (E.free_c k a) z) (free_unchanged E (far e u) (f k) unchanged free)
        ]

    module _ (e : ℕ) (ks : List ℕ) (a : At e u) (fan : Fan At far u f e ks) (nodup : Nodup (e ∷ ks)) (free_last : Free At f (far (last_edge e ks) u) d) where
      -- Of two far ends where d is free before the exchange the path meets one at most: its end.
      one_met : (i j : ℕ) → Mem i (e ∷ ks) → Mem j (e ∷ ks) → i ≢ j → Free At f (far i u) d → Free At f (far j u) d
          → Meets At path (far i u) → Meets At path (far j u) → ⊥
      one_met i j p q n free-i free-j r s =
          let b = fan_at fan a i p in
          let b' = fan_at fan a j q in
          n (E.graph.no_double i j u b b'
          (cc (free_at_end E (far i u) r (E.graph.no_loop i u b) free-i, free_at_end E (far j u) s (E.graph.no_loop j u b') free-j)))

      -- Where the fan is maximal, d is free at the far end of some place after the exchange.
      pub some_free : ((x : ℕ) → At x u → f x ≢ no_color → Free At f (far (last_edge e ks) u) (f x) → Mem x ks) → (j : ℕ) × Mem j (e ∷ ks) × Free At g (far j u) d
      some_free maximal = go (at_node E (far (last_edge e ks) u))
        where
          Place : Type 0
          Place = (j : ℕ) × Mem j (e ∷ ks) × Free At g (far j u) d

          go : (Meets At path (far (last_edge e ks) u) × ExchangedAt E (far (last_edge e ks) u)) ⊎ UnchangedAt E (far (last_edge e ks) u) → Place
          go (inr unchanged) = (last_edge e ks, last_member e ks, free_unchanged E (far (last_edge e ks) u) d unchanged free_last)
          go (inl (r, exchanged)) = through (starts_with_d E (far (last_edge e ks) u) r)
            where
              through : (x : ℕ) × At x u × (f x ≡ d) → Place
              through (x, b, z) = previous (before fan nodup x (maximal x b (λ y. E.color_d (cc)) (rw z free_last)))
                where
                  previous : (j : ℕ) × Mem j (e ∷ ks) × Free At f (far j u) (f x) × (j ≢ last_edge e ks) → Place
                  previous (j, i, free, n) = elim (at_node E (far j u)) [
                    | inl (s, h) ↦ absurd (one_met j (last_edge e ks) i (last_member e ks) n (rw z at free) free_last s r)
                    | inr h ↦ (j, i, free_unchanged E (far j u) d h (rw z at free))
                  ]

-- The fan of the definitions is a fan without repeats that no further edge joins; its places up to w end where d is free.

-- ---- growing a fan

module _ (At : ℕ → ℕ → Type 0) (far : ℕ → ℕ → ℕ) (u : ℕ) (f : ℕ → ℕ) where
  -- Edge k can join the fan `fan` at u, whose last edge is e.
  abbrev CanJoin : List ℕ → ℕ → ℕ → Type 0
  CanJoin fan e k = At k u × (Mem k fan → ⊥) × (f k ≢ no_color) × Free At f (far e u) (f k)

  -- The edges ks have joined `fan`, whose last edge is e, one after the other, and no further edge can join.
  pub data Grown : List ℕ → ℕ → List ℕ → Type 0 where
    full : {fan : List ℕ} {e : ℕ} → ((k : ℕ) → CanJoin fan e k → ⊥) → Grown fan e []
    joined : {fan : List ℕ} {e : ℕ} {ks : List ℕ} (k : ℕ) → CanJoin fan e k → Grown (k ∷ fan) k ks → Grown fan e (k ∷ ks)

module _ {At : ℕ → ℕ → Type 0} {far : ℕ → ℕ → ℕ} {u : ℕ} {f : ℕ → ℕ} where
  pub grown_fan : {fan : List ℕ} {e : ℕ} {ks : List ℕ} → Grown At far u f fan e ks → Fan At far u f e ks
  grown_fan (Grown.full h) = Fan.done
  grown_fan (Grown.joined k (a, new, colored, free) rest) = Fan.next k a colored free (grown_fan rest)

  grown_new : {fan : List ℕ} {e : ℕ} {ks : List ℕ} → Grown At far u f fan e ks → (i : ℕ) → Mem i ks → Mem i fan → ⊥
  grown_new (full {fan = fan} {e = e} _) i x10 p = elim x10 [ ]
  grown_new {fan} (Grown.joined k (a, new, colored, free) rest) i (inl z) p = new (subst (λ (x : ℕ). Mem x fan) z p)
  grown_new (Grown.joined k joins rest) i (inr z) p = grown_new rest i z (inr p)

  grown_nodup : {fan : List ℕ} {e : ℕ} {ks : List ℕ} → Grown At far u f fan e ks → Nodup ks
  grown_nodup (Grown.full h) = tt
  grown_nodup (Grown.joined k joins rest) = (λ p. grown_new rest k p (inl refl), grown_nodup rest)

  -- The fan that has grown from edge k has no repeats.
  pub fan_nodup : {k : ℕ} {ks : List ℕ} → Grown At far u f (k ∷ []) k ks → Nodup (k ∷ ks)
  fan_nodup {k} grown = (λ p. grown_new grown k p (inl refl), grown_nodup grown)

  -- A coloured edge whose colour is free at the last far end is in the fan.
  pub grown_maximal : {fan : List ℕ} {e : ℕ} {ks : List ℕ} → Grown At far u f fan e ks → (x : ℕ) → At x u → f x ≢ no_color → Free At f (far (last_edge e ks) u) (f x)
      → Mem x fan ⊎ Mem x ks
  unfolding last_edge
  grown_maximal {fan} (Grown.full h) x a colored free = elim (dec_mem x fan) [ inl p ↦ inl p | inr new ↦ absurd (h x (a, new, colored, free)) ]
  grown_maximal (Grown.joined k joins rest) x a colored free = elim (grown_maximal rest x a colored free) [
    | inl p ↦ elim p [ inl z ↦ inr (inl z) | inr q ↦ inl q ]
    | inr p ↦ inr (inr p)
  ]

-- ---- the fan of the definitions

module _ (ends : List ℕ) (m : ℕ) (l : List ℕ) where
  -- A colour is free at a node if and only if none of the node's edges has it.
  none_has : (v c : ℕ) → Free (Incident ends m) (color_of l) v c → NoneHas l (edges_at ends m v) c
  none_has v c free k p = free k (edge_at ends m v k p)

  free : (v c : ℕ) → NoneHas l (edges_at ends m v) c → Free (Incident ends m) (color_of l) v c
  free v c none k a = none k (at_edge ends m v k a.0 a.1)

  -- Every edge at u joins once, so as many turns as u has edges are enough.
  pub fan_grown : (fuel u : ℕ) (fan : List ℕ) (e : ℕ) → Nodup fan → ((i : ℕ) → Mem i fan → Mem i (edges_at ends m u)) → length (edges_at ends m u) ≤ fuel + length fan
      → Grown (Incident ends m) (far_end ends) u (color_of l) fan e (grow_fan ends m fuel l u fan (far_end ends e u))
  unfolding grow_fan
  fan_grown zero u fan e nodup at enough = Grown.full all
    where
      all : (k : ℕ) → CanJoin (Incident ends m) (far_end ends) u (color_of l) fan e k → ⊥
      all k (a, new, colored, none) =
          omega (arith, pigeonhole (k ∷ fan) (edges_at ends m u) (new, nodup) (λ i p. elim p [ inl z ↦ rw z (at_edge ends m u k a.0 a.1) | inr q ↦ at i q ]))
  fan_grown (suc fuel) u fan e nodup at enough = elim (some_or_none (first_joining l (edges_at ends m (far_end ends e u)) fan (edges_at ends m u))) [
    | inl z ↦ rw (z, grow_fan) (Grown.full (λ k c. first_joining_none l (edges_at ends m (far_end ends e u)) fan (edges_at ends m u) z k
        (at_edge ends m u k c.0.0 c.0.1) (c.1, c.2, none_has (far_end ends e u) (color_of l k) c.3)))
    | inr (k, z) ↦
        let r = first_joining_some l (edges_at ends m (far_end ends e u)) fan (edges_at ends m u) k z in
        rw (z, grow_fan) (Grown.joined k (edge_at ends m u k r.0, r.1.0, r.1.1, free (far_end ends e u) (color_of l k) r.1.2)
        (fan_grown fuel u (k ∷ fan) k (r.1.0, nodup) (λ i p. elim p [ inl y ↦ rw y r.0 | inr q ↦ at i q ]) (omega arith)))
  ]

  -- Where d is free at the far end of some place, the places of the definitions are those up to the first of them.
  pub places_up_to : (d u e : ℕ) (ks : List ℕ) → (j : ℕ) × Mem j (e ∷ ks) × Free (Incident ends m) (color_of l) (far_end ends j u) d
      → UpTo (Incident ends m) (far_end ends) u (color_of l) d e ks (places_to ends m l d u (far_end ends e u) ks)
  unfolding places_to
  places_up_to d u e [] (j, inr x4, h) = elim x4 [ ]
  places_up_to d u e [] (j, inl z, h) = UpTo.here (rw z at h)
  places_up_to d u e (k ∷ ks) (j, p, h) =
      by-test (is_free l (edges_at ends m (far_end ends e u)) d)
      (λ t. rw (t, places_to) (UpTo.here (free (far_end ends e u) d (is_free_true l (edges_at ends m (far_end ends e u)) d t))))
      (λ t.
      let s = is_free_false l (edges_at ends m (far_end ends e u)) d t in
      let used : Free (Incident ends m) (color_of l) (far_end ends e u) d → ⊥ = λ none. none s.0 (edge_at ends m (far_end ends e u) s.0 s.1) s.2 in
      rw (t, places_to) (UpTo.further used (places_up_to d u k ks (elim p [ inl z ↦ absurd (used (rw z at h)) | inr q ↦ (j, q, h) ]))))

-- The last far end is the far end of the last edge.
pub last_far_end_lem : (ends : List ℕ) (u e : ℕ) (ks : List ℕ) → last_far_end ends u (far_end ends e u) ks ≡ far_end ends (last_edge e ks) u
unfolding last_far_end last_edge
last_far_end_lem ends u e [] = refl
last_far_end_lem ends u e (k ∷ ks) = last_far_end_lem ends u k ks

-- Different edges at u are at most as many as u has.
pub fan_length : (ends : List ℕ) (m u : ℕ) (ks : List ℕ) → Nodup ks → ((i : ℕ) → Mem i ks → Incident ends m i u) → length ks ≤ degree ends m u
unfolding degree
fan_length ends m u ks nodup at = pigeonhole ks (edges_at ends m u) nodup (λ i p. let a = at i p in at_edge ends m u i a.0 a.1)

-- ---- the rotation of a fan: each place takes the colour of the next, the last takes d. It keeps a proper colouring.

-- Edge k takes the colour of edge j, which loses it: from f to h.
pub record Moved (f h : ℕ → ℕ) (k j : ℕ) : Type 0 where
  pub taken : h k ≡ f j
  pub lost : h j ≡ no_color
  pub others : (i : ℕ) → i ≢ k → i ≢ j → h i ≡ f i

-- One place after the other of k ∷ ks takes the colour of the next, and the last takes d: from the colouring at hand to h.
pub data Rotated (h : ℕ → ℕ) (d : ℕ) : (ℕ → ℕ) → ℕ → List ℕ → Type 0 where
  last : {f : ℕ → ℕ} {k : ℕ} → h k ≡ d → Except k f h → Rotated h d f k []
  next : {f g : ℕ → ℕ} {k j : ℕ} {ks : List ℕ} → Moved f g k j → Rotated h d g j ks → Rotated h d f k (j ∷ ks)

-- ---- which colours the edges have afterwards

pub rotated_other : {h : ℕ → ℕ} {d : ℕ} {f : ℕ → ℕ} {k : ℕ} {ks : List ℕ} → Rotated h d f k ks → (i : ℕ) → (Mem i (k ∷ ks) → ⊥) → h i ≡ f i
rotated_other (Rotated.last t same) i n = same i (λ z. n (inl z))
rotated_other (Rotated.next M R) i n = rotated_other R i (λ z. n (inr z)) ∙ M.others i (λ z. n (inl z)) (λ z. n (inr (inl z)))

-- The last place has d.
pub rotated_last : {h : ℕ → ℕ} {d : ℕ} {f : ℕ → ℕ} {k : ℕ} {ks : List ℕ} → Rotated h d f k ks → h (last_edge k ks) ≡ d
unfolding last_edge
rotated_last (Rotated.last t same) = t
rotated_last (Rotated.next M R) = rotated_last R

-- A move changes no colour of the edges after the two.
kept : {f g : ℕ → ℕ} {k j : ℕ} (ks : List ℕ) → Moved f g k j → Nodup (k ∷ j ∷ ks) → (i : ℕ) → Mem i ks → g i ≡ f i
kept ks M (out, nodup) i p = M.others i (λ z. out (inr (subst (λ (x : ℕ). Mem x ks) z p))) (λ z. nodup.0 (subst (λ (x : ℕ). Mem x ks) z p))

-- Each rotated edge has d or the colour of an edge of ks.
pub rotated_from : {h : ℕ → ℕ} {d : ℕ} {f : ℕ → ℕ} {k : ℕ} {ks : List ℕ} → Rotated h d f k ks → Nodup (k ∷ ks) → (i : ℕ) → Mem i (k ∷ ks)
    → (h i ≡ d) ⊎ ((j : ℕ) × Mem j ks × (h i ≡ f j))
rotated_from {h = h} {d = d} (last {f = f} {k = k} t same) nodup i (inr p) = elim p [ ]
rotated_from {h} (Rotated.last t same) nodup i (inl z) = inl (ap h z ∙ t)
rotated_from {h} {k = k} (Rotated.next {j = j} M R) (out, nodup) i (inl z) = inr (j, inl refl, ap h z ∙ rotated_other R k out ∙ M.taken)
rotated_from (Rotated.next {ks = ks} M R) (out, nodup) i (inr p) = elim (rotated_from R nodup i p) [
  | inl t ↦ inl t
  | inr (j, q, t) ↦ inr (j, inr q, t ∙ kept ks M (out, nodup) j q)
]

-- The colour of each edge of ks stands on a rotated edge.
pub rotated_to : {h : ℕ → ℕ} {d : ℕ} {f : ℕ → ℕ} {k : ℕ} {ks : List ℕ} → Rotated h d f k ks → Nodup (k ∷ ks) → (j : ℕ) → Mem j ks → (i : ℕ) × (h i ≡ f j)
rotated_to {h = h} {d = d} (last {f = f} {k = k} _ _) _ j x12 = elim x12 [ ]
rotated_to {f = f} {k = k} (Rotated.next M R) (out, nodup) j (inl z) = (k, rotated_other R k out ∙ M.taken ∙ ap f (sym z))
rotated_to (Rotated.next {ks = ks} M R) (out, nodup) j (inr p) = let r = rotated_to R nodup j p in (r.0, r.1 ∙ kept ks M (out, nodup) j p)

-- ---- the colouring stays proper

-- f with the colour of edge j taken away.
unfoldable without : (ℕ → ℕ) → ℕ → ℕ → ℕ
without f j i = cond (eqb i j) no_color (f i)

without_same : (f : ℕ → ℕ) (j : ℕ) → without f j j ≡ no_color
unfolding without
without_same f j = rw (eq-eqb j j refl)

without_other : (f : ℕ → ℕ) (j : ℕ) → Except j f (without f j)
unfolding without
without_other f j i n = rw (ne_eqb i j n)

module _ {At : ℕ → ℕ → Type 0} {far : ℕ → ℕ → ℕ} (G : Graph At far) {u : ℕ} where
  module _ {f h : ℕ → ℕ} {k j : ℕ} (M : Moved f h k j) (ak : At k u) where
    -- k takes a colour that is free at its far end.
    moved_proper : Proper At f → At j u → f j ≢ no_color → Free At f (far k u) (f j) → Proper At h
    moved_proper proper aj colored free = color_edge (without f j) h k (uncolor_edge f (without f j) j proper (without_other f j) (without_same f j)) same free_k
      where
        same : Except k (without f j) h
        same i n = elim (dec_eq i j) [
          | inl z ↦ rw z (M.lost ∙ sym (without_same f j))
          | inr z ↦ M.others i n z ∙ sym (without_other f j i z)
        ]

        free_k : (v : ℕ) → At k v → Free At (without f j) v (h k)
        free_k v a i b t = go (dec_eq i j) (G.two_ends k u v ak a)
          where
            go : (i ≡ j) ⊎ (i ≢ j) → (v ≡ u) ⊎ (v ≡ far k u) → ⊥
            go (inl z) w = colored (cc (M.taken, without_same f j, ap (without f j) z))
            go (inr z) (inl w) = z (sym (proper j i u aj (subst (At i) w b) colored (cc (M.taken, without_other f j i z))))
            go (inr z) (inr w) = free i (subst (At i) w b) (cc (M.taken, without_other f j i z))

    -- A colour that is free at a node other than u and the far end of k stays free there.
    moved_free : (w x : ℕ) → w ≢ u → w ≢ far k u → x ≢ no_color → Free At f w x → Free At h w x
    moved_free w x not-u not-far color-x free i a t = go (dec_eq i k) (dec_eq i j)
      where
        go : (i ≡ k) ⊎ (i ≢ k) → (i ≡ j) ⊎ (i ≢ j) → ⊥
        go (inl y) z = elim (G.two_ends k u w ak (subst (λ (e : ℕ). At e w) y a)) [ inl r ↦ not-u r | inr r ↦ not-far r ]
        go (inr y) (inl z) = color-x (cc (M.lost, ap h z))
        go (inr y) (inr z) = free i a (cc (M.others i y z))

    -- A colour that is free at u stays free there.
    moved_free_u : (x : ℕ) → At j u → x ≢ no_color → Free At f u x → Free At h u x
    moved_free_u x aj color-x free i a t = go (dec_eq i k) (dec_eq i j)
      where
        go : (i ≡ k) ⊎ (i ≢ k) → (i ≡ j) ⊎ (i ≢ j) → ⊥
        go (inl y) z = free j aj (cc (M.taken, ap h y))
        go (inr y) (inl z) = color-x (cc (M.lost, ap h z))
        go (inr y) (inr z) = free i a (cc (M.others i y z))

    -- Another edge at u has another far end.
    far_apart : (e : ℕ) → At e u → e ≢ k → far e u ≢ far k u
    far_apart e a n z = n (G.no_double e k u a ak z)

    -- The fan after the two edges stays a fan.
    moved_fan : {e : ℕ} {ks : List ℕ} → Fan At far u f e ks → At e u → e ≢ k → (Mem k ks → ⊥) → (Mem j ks → ⊥) → Fan At far u h e ks
    moved_fan Fan.done a n out-k out-j = Fan.done
    moved_fan {e} (Fan.next i b colored free fan) a n out-k out-j =
        let differs : i ≢ k = λ z. out-k (inl (sym z)) in
        let same : h i ≡ f i = M.others i differs (λ z. out-j (inl (sym z))) in
        let free-i : Free At h (far e u) (h i) = rw same (moved_free (far e u) (f i) (G.no_loop e u a) (far_apart e a n) colored free) in
        Fan.next i b (λ z. colored (cc)) free-i (moved_fan fan b differs (λ p. out-k (inr p)) (λ p. out-j (inr p)))

  -- d is free at u and at the far end of the fan's last edge: the rotation keeps a proper colouring.
  pub rotation_proper : {h : ℕ → ℕ} {d : ℕ} {f : ℕ → ℕ} {k : ℕ} {ks : List ℕ} → Rotated h d f k ks → Proper At f → At k u → Fan At far u f k ks → Nodup (k ∷ ks)
      → d ≢ no_color → Free At f u d → Free At f (far (last_edge k ks) u) d → Proper At h
  unfolding last_edge
  rotation_proper {h} {d} {f} {k} (Rotated.last t same) proper a fan nodup color_d free-u free_last = color_edge f h k proper same free
    where
      free : (v : ℕ) → At k v → Free At f v (h k)
      free v b = rw t (elim (G.two_ends k u v a b) [ inl z ↦ rw z free-u | inr z ↦ rw z free_last ])
  rotation_proper {d = d} {k = k} (Rotated.next {ks = ks} M R) proper a (Fan.next j b colored free-j fan) (out, nodup) color_d free-u free_last =
      rotation_proper R (moved_proper M a proper b colored free-j) b (moved_fan M a fan b differ (λ p. out (inr p)) nodup.0) nodup color_d
      (moved_free_u M a d b color_d free-u)
      (moved_free M a (far (last_edge j ks) u) d (G.no_loop (last_edge j ks) u at_last) (far_apart M a (last_edge j ks) at_last last_differs) color_d free_last)
    where
      differ : j ≢ k
      differ z = out (inl (sym z))

      at_last : At (last_edge j ks) u
      at_last = fan_at fan b (last_edge j ks) (last_member j ks)

      last_differs : last_edge j ks ≢ k
      last_differs z = out (subst (λ (x : ℕ). Mem x (j ∷ ks)) z (last_member j ks))
