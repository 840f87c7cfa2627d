-- Proper colourings, and the path of two colours: exchanging them along it, and where it ends.
use Prim.Native.Nat.{ℕ, zero, suc, ◌+◌, ◌≤◌, ◌<◌}
use mathlib.Core.Path.{◌≡◌, ap, subst, refl, sym}
use mathlib.Core.Logic.{◌⊎◌, inl, inr, ◌≢◌}
use mathlib.Core.List.{List, [], ◌∷◌}
use borrow.Author.Tests.{eq-eqb, ne_eqb}
use native.Mathlib.Omega.{arith}
use lib.ListN.{length}
use Rattle.lists.proofs.Tests.{dec_eq}
use Rattle.graph.specs.Color.{no_color}
use Rattle.vizing.specs.Coloring.{Free, Proper}
use Rattle.lists.specs.Member.{Mem, Nodup}
use Rattle.lists.proofs.MemberLaws.{dec_mem, nodup_bound}
use Rattle.vizing.specs.MisraGries.{swap, edge_of_color, path}
use Rattle.graph.specs.Edges.{far_end, edges_at}
use Rattle.graph.proofs.EdgeLaws.{edge_at, at_edge}
use Rattle.graph.specs.Colored.{color_of}
use Rattle.vizing.proofs.DefinitionLaws.{some_or_none, edge_of_color_some, edge_of_color_none}
use Rattle.vizing.specs.Simple.{Incident}

-- A simple graph: `At k v` says that edge k stands at node v, `far k v` is the other end of edge k.
pub record Graph (At : ℕ → ℕ → Type 0) (far : ℕ → ℕ → ℕ) : Type 0 where
  pub far_at_lem : (k v : ℕ) → At k v → At k (far k v)
  pub far_far : (k v : ℕ) → At k v → far k (far k v) ≡ v
  pub two_ends : (k v w : ℕ) → At k v → At k w → (w ≡ v) ⊎ (w ≡ far k v)
  pub no_loop : (k v : ℕ) → At k v → far k v ≢ v
  pub no_double : (i j v : ℕ) → At i v → At j v → far i v ≡ far j v → i ≡ j
  pub dec_at : (k v : ℕ) → At k v ⊎ (At k v → ⊥)

-- h is f except at edge e.
abbrev pub Except : ℕ → (ℕ → ℕ) → (ℕ → ℕ) → Type 0
Except e f h = (k : ℕ) → k ≢ e → h k ≡ f k

module _ {At : ℕ → ℕ → Type 0} (f h : ℕ → ℕ) (e : ℕ) (proper : Proper At f) (same : Except e f h) where
  -- Two other edges are apart as before.
  others_apart : (i j v : ℕ) → i ≢ e → j ≢ e → At i v → At j v → h i ≢ no_color → h i ≡ h j → i ≡ j
  others_apart i j v p q a b colored eq = proper i j v a b (λ z. colored (cc (same i p))) (cc (same i p, same j q))

  -- An edge takes a colour that is free at its ends.
  pub color_edge : ((v : ℕ) → At e v → Free At f v (h e)) → Proper At h
  color_edge free i j v a b colored eq = go (dec_eq i e) (dec_eq j e)
    where
      go : (i ≡ e) ⊎ (i ≢ e) → (j ≡ e) ⊎ (j ≢ e) → i ≡ j
      go (inl p) (inl q) = cc
      go (inl p) (inr q) = absurd (free v (subst (λ (x : ℕ). At x v) p a) j b (cc (same j q, ap h p)))
      go (inr p) (inl q) = absurd (free v (subst (λ (x : ℕ). At x v) q b) i a (cc (same i p, ap h q)))
      go (inr p) (inr q) = others_apart i j v p q a b colored eq

  -- An edge loses its colour.
  pub uncolor_edge : h e ≡ no_color → Proper At h
  uncolor_edge bare i j v a b colored eq = go (dec_eq i e) (dec_eq j e)
    where
      go : (i ≡ e) ⊎ (i ≢ e) → (j ≡ e) ⊎ (j ≢ e) → i ≡ j
      go (inl p) q = absurd (colored (cc (ap h p)))
      go (inr p) (inl q) = absurd (colored (cc (ap h q)))
      go (inr p) (inr q) = others_apart i j v p q a b colored eq

-- Alternating paths, and what the exchange of the two colours along such a path does to a proper colouring.

-- ---- two colours exchanged

pub swap_left : (c d : ℕ) → swap c d c ≡ d
unfolding swap
swap_left c d = rw (eq-eqb c c refl)

pub swap_right : (c d : ℕ) → swap c d d ≡ c
unfolding swap
swap_right c d = elim (dec_eq d c) [ inl p ↦ rw (eq-eqb d c p) p | inr p ↦ rw (ne_eqb d c p, eq-eqb d d refl) ]

pub swap_other : (c d x : ℕ) → x ≢ c → x ≢ d → swap c d x ≡ x
unfolding swap
swap_other c d x p q = rw (ne_eqb x c p, ne_eqb x d q)

-- What holds at the two colours exchanged and at every other colour as it is holds of the exchange.
pub swap_cases : (Q : ℕ → ℕ → Type 0) (c d x : ℕ) → Q c d → Q d c → (x ≢ c → x ≢ d → Q x x) → Q x (swap c d x)
swap_cases Q c d x left right other = go (dec_eq x c) (dec_eq x d)
  where
    go : (x ≡ c) ⊎ (x ≢ c) → (x ≡ d) ⊎ (x ≢ d) → Q x (swap c d x)
    go (inl p) q = rw (p, swap_left c d) left
    go (inr p) (inl q) = rw (q, swap_right c d) right
    go (inr p) (inr q) = rw (swap_other c d x p q) (other p q)

swap_swap : (c d x : ℕ) → swap c d (swap c d x) ≡ x
swap_swap c d x = swap_cases (λ y z. swap c d z ≡ y) c d x (swap_right c d) (swap_left c d) (swap_other c d x)

swap_injective : (c d x y : ℕ) → swap c d x ≡ swap c d y → x ≡ y
swap_injective c d x y e = cc (swap_swap c d x, swap_swap c d y, ap (swap c d) e)

-- ---- the path

module _ (At : ℕ → ℕ → Type 0) (far : ℕ → ℕ → ℕ) (f : ℕ → ℕ) where
  -- These are the edges of the path from v along colours p, q, p and so on as far as it goes.
  pub data Alternating : ℕ → ℕ → ℕ → List ℕ → Type 0 where
    stops : {v p q : ℕ} → Free At f v p → Alternating v p q []
    follows : {v p q : ℕ} {ks : List ℕ} (k : ℕ) → At k v → f k ≡ p → Alternating (far k v) q p ks → Alternating v p q (k ∷ ks)

-- The node at which a path from v along these edges ends.
unfoldable pub path_end : (ℕ → ℕ → ℕ) → ℕ → List ℕ → ℕ
path_end far v [] = v
path_end far v (k ∷ ks) = path_end far (far k v) ks

-- Some edge of these stands at w.
abbrev pub Meets : (ℕ → ℕ → Type 0) → List ℕ → ℕ → Type 0
Meets At ks w = (e : ℕ) × Mem e ks × At e w

dec_meets : {At : ℕ → ℕ → Type 0} {far : ℕ → ℕ → ℕ} → Graph At far → (ks : List ℕ) (w : ℕ) → Meets At ks w ⊎ (Meets At ks w → ⊥)
dec_meets G [] w = inr (λ h. h.1)
dec_meets {At} G (k ∷ ks) w = go (G.dec_at k w) (dec_meets G ks w)
  where
    go : At k w ⊎ (At k w → ⊥) → Meets At ks w ⊎ (Meets At ks w → ⊥) → Meets At (k ∷ ks) w ⊎ (Meets At (k ∷ ks) w → ⊥)
    go (inl a) r = inl (k, inl refl, a)
    go (inr a) (inl (e, i, b)) = inl (e, inr i, b)
    go (inr a) (inr h) = inr (λ r. elim r.1 [ inl p ↦ a (subst (λ (x : ℕ). At x w) p r.2) | inr i ↦ h (r.0, i, r.2) ])

module _ {At : ℕ → ℕ → Type 0} {far : ℕ → ℕ → ℕ} {f : ℕ → ℕ} (G : Graph At far) (proper : Proper At f) where
  -- The path has the edge of its first colour at its start.
  first_edge : {v p q : ℕ} {ks : List ℕ} → Alternating At far f v p q ks → p ≢ no_color → (j : ℕ) → At j v → f j ≡ p → Mem j ks
  first_edge (stops free) color_p j b e = absurd (free j b e)
  first_edge {v} (follows k a t path) color_p j b e = inl (proper j k v b a (λ z. color_p (cc)) (cc))

  -- At each node that the path meets it has every edge of its two colours, except the edge of colour q at its start.
  closed : {v p q : ℕ} {ks : List ℕ} → Alternating At far f v p q ks → p ≢ no_color → q ≢ no_color → (e w j : ℕ) → Mem e ks → At e w → At j w
      → (f j ≡ p) ⊎ (f j ≡ q) → Mem j ks ⊎ ((w ≡ v) × (f j ≡ q))
  closed (stops {v = v} {p = p} {q = q} _) color_p color_q e w j x32 ae aj color = elim x32 [ ]
  closed {v} {p} {q} (follows {ks = ks} k a t path) color_p color_q e w j (inl i) ae aj color = go (G.two_ends k v w a ak) color
    where
      ak : At k w
      ak = subst (λ (x : ℕ). At x w) i ae

      go : (w ≡ v) ⊎ (w ≡ far k v) → (f j ≡ p) ⊎ (f j ≡ q) → Mem j (k ∷ ks) ⊎ ((w ≡ v) × (f j ≡ q))
      go (inl z) (inr s) = inr (z, s)
      go (inr z) (inr s) = inl (inr (first_edge path color_q j (subst (λ (x : ℕ). At j x) z aj) s))
      go z (inl s) = inl (inl (proper j k w aj ak (λ y. color_p (cc)) (cc)))
  closed {v} {p} {q} (follows {ks = ks} k a t path) color_p color_q e w j (inr i) ae aj color =
      go (closed path color_q color_p e w j i ae aj (elim color [ inl s ↦ inr s | inr s ↦ inl s ]))
    where
      go : Mem j ks ⊎ ((w ≡ far k v) × (f j ≡ p)) → Mem j (k ∷ ks) ⊎ ((w ≡ v) × (f j ≡ q))
      go (inl r) = inl (inr r)
      go (inr (z, s)) = inl (inl (proper j k w aj (subst (λ (x : ℕ). At k x) (sym z) (G.far_at_lem k v a)) (λ y. color_p (cc)) (cc)))

  -- w is the path's start or its end, or neither of its colours is free there.
  abbrev Place : ℕ → ℕ → ℕ → List ℕ → ℕ → Type 0
  Place v p q ks w = (w ≡ v) ⊎ ((w ≡ path_end far v ks) ⊎ ((Free At f w p → ⊥) × (Free At f w q → ⊥)))

  ends_or_goes : {v p q : ℕ} {ks : List ℕ} → Alternating At far f v p q ks → (v ≡ path_end far v ks) ⊎ (Free At f v p → ⊥)
  unfolding path_end
  ends_or_goes (stops free) = inl refl
  ends_or_goes (follows k a t path) = inr (λ free. free k a t)

  second_node_lem : {v p q : ℕ} {ks : List ℕ} (k : ℕ) → At k v → f k ≡ p → Alternating At far f (far k v) q p ks → (w : ℕ) → w ≡ far k v → Place v p q (k ∷ ks) w
  unfolding path_end
  second_node_lem {v} {p} {q} k a t path w z = elim (ends_or_goes path) [
    | inl s ↦ inr (inl (cc))
    | inr s ↦ inr (inr (λ free. free k (subst (λ (x : ℕ). At k x) (sym z) (G.far_at_lem k v a)) t, λ free. s (subst (λ (x : ℕ). Free At f x q) z free)))
  ]

  place : {v p q : ℕ} {ks : List ℕ} → Alternating At far f v p q ks → (w : ℕ) → Meets At ks w → Place v p q ks w
  unfolding path_end
  place (stops free) w (e, i, b) = absurd i
  place {v} (follows k a t path) w (e, inl i, b) = elim (G.two_ends k v w a (subst (λ (x : ℕ). At x w) i b)) [ inl z ↦ inl z | inr z ↦ second_node_lem k a t path w z ]
  place {v} (follows k a t path) w (e, inr i, b) = elim (place path w (e, i, b)) [
    | inl z ↦ second_node_lem k a t path w z
    | inr r ↦ elim r [ inl z ↦ inr (inl z) | inr s ↦ inr (inr (s.1, s.0)) ]
  ]

-- ---- the exchange

-- f is proper, c is free at u, and g is f with c and d exchanged along the path from u that follows d, c, d and so on.
pub record Exchanged (At : ℕ → ℕ → Type 0) (far : ℕ → ℕ → ℕ) (f g : ℕ → ℕ) (u c d : ℕ) (ks : List ℕ) : Type 0 where
  pub graph : Graph At far
  pub proper : Proper At f
  pub path : Alternating At far f u d c ks
  pub free_c : Free At f u c
  pub color_c : c ≢ no_color
  pub color_d : d ≢ no_color
  pub on_path : (k : ℕ) → Mem k ks → g k ≡ swap c d (f k)
  pub off_path : (k : ℕ) → (Mem k ks → ⊥) → g k ≡ f k

module _ {At : ℕ → ℕ → Type 0} {far : ℕ → ℕ → ℕ} {f g : ℕ → ℕ} {u c d : ℕ} {ks : List ℕ} (E : Exchanged At far f g u c d ks) where
  -- Every edge at w has c and d exchanged; none at w changes.
  abbrev pub ExchangedAt : ℕ → Type 0
  ExchangedAt w = (k : ℕ) → At k w → g k ≡ swap c d (f k)

  abbrev pub UnchangedAt : ℕ → Type 0
  UnchangedAt w = (k : ℕ) → At k w → g k ≡ f k

  -- The path has every edge of its two colours at a node that it meets.
  complete : (w j : ℕ) → Meets At ks w → At j w → (f j ≡ d) ⊎ (f j ≡ c) → Mem j ks
  complete w j (e, i, a) b color = elim (closed E.graph E.proper E.path E.color_d E.color_c e w j i a b color) [
    | inl r ↦ r
    | inr (z, s) ↦ absurd (E.free_c j (subst (λ (x : ℕ). At j x) z b) s)
  ]

  -- Where the path has an edge, u has one of colour d.
  pub starts_with_d : (w : ℕ) → Meets At ks w → (e : ℕ) × At e u × (f e ≡ d)
  starts_with_d w r = go E.path r
    where
      go : {js : List ℕ} → Alternating At far f u d c js → Meets At js w → (e : ℕ) × At e u × (f e ≡ d)
      go (stops free) (e, i, a) = absurd i
      go (follows k a t path) s = (k, a, t)

  -- A node other than u that the path meets and where d is free is the path's end.
  pub free_at_end : (w : ℕ) → Meets At ks w → w ≢ u → Free At f w d → w ≡ path_end far u ks
  free_at_end w r n free = elim (place E.graph E.proper E.path w r) [ inl z ↦ absurd (n z) | inr s ↦ elim s [ inl z ↦ z | inr h ↦ absurd (h.0 free) ] ]

  -- An edge is exchanged if it is on the path wherever it has one of the two colours.
  exchanged_edge : (k : ℕ) → ((f k ≡ d) ⊎ (f k ≡ c) → Mem k ks) → g k ≡ swap c d (f k)
  exchanged_edge k h = elim (dec_mem k ks) [ inl i ↦ E.on_path k i | inr n ↦ rw (swap_other c d (f k) (λ z. n (h (inr z))) (λ z. n (h (inl z)))) (E.off_path k n) ]

  -- Either the path meets w and every edge there is exchanged, or no edge there changes.
  pub at_node : (w : ℕ) → (Meets At ks w × ExchangedAt w) ⊎ UnchangedAt w
  at_node w = elim (dec_meets E.graph ks w) [ inl r ↦ inl (r, λ k a. exchanged_edge k (complete w k r a)) | inr h ↦ inr (λ k a. E.off_path k (λ i. h (k, i, a))) ]

  pub at_start : ExchangedAt u
  at_start k a = exchanged_edge k (λ color. elim color [ inl s ↦ first_edge E.graph E.proper E.path E.color_d k a s | inr s ↦ absurd (E.free_c k a s) ])

  swap_none : swap c d no_color ≡ no_color
  swap_none = swap_other c d no_color (λ z. E.color_c (sym z)) (λ z. E.color_d (sym z))

  pub exchange_proper : Proper At g
  exchange_proper i j v a b colored e = elim (at_node v) [
    | inl (r, h) ↦ E.proper i j v a b (λ z. colored (cc (h i a, swap_none))) (swap_injective c d (f i) (f j) (cc (h i a, h j b)))
    | inr h ↦ E.proper i j v a b (λ z. colored (cc (h i a))) (cc (h i a, h j b))
  ]

  -- A colour that is free at a node is free there afterwards, exchanged or unchanged as the edges there are.
  pub free_exchanged : (w x : ℕ) → ExchangedAt w → Free At f w x → Free At g w (swap c d x)
  free_exchanged w x h free k a z = free k a (swap_injective c d (f k) x (cc (h k a)))

  pub free_unchanged : (w x : ℕ) → UnchangedAt w → Free At f w x → Free At g w x
  free_unchanged w x h free k a z = free k a (cc (h k a))

  pub free_d : Free At g u d
  free_d = rw (swap_left c d) at (free_exchanged u c at_start E.free_c)

  -- The same edges are coloured before and after.
  pub exchange_uncolored : (k : ℕ) → f k ≡ no_color → g k ≡ no_color
  exchange_uncolored k e = elim (dec_mem k ks) [ inl i ↦ cc (E.on_path k i, swap_none) | inr n ↦ cc (E.off_path k n) ]

  pub exchange_colored : (k : ℕ) → f k ≢ no_color → g k ≢ no_color
  exchange_colored k h z = elim (dec_mem k ks) [
    | inl i ↦ h (swap_injective c d (f k) no_color (cc (E.on_path k i, swap_none)))
    | inr n ↦ h (cc (E.off_path k n))
  ]

-- Each edge of an alternating path stands at some node and has one of the two colours.
pub path_edge : {At : ℕ → ℕ → Type 0} {far : ℕ → ℕ → ℕ} {f : ℕ → ℕ} {v p q : ℕ} {ks : List ℕ} → Alternating At far f v p q ks
    → (k : ℕ) → Mem k ks → ((w : ℕ) × At k w) × ((f k ≡ p) ⊎ (f k ≡ q))
path_edge {At = At} {far = far} {f = f} (stops {v = v} {p = p} {q = q} _) k x7 = elim x7 [ ]
path_edge {v = v} (follows j a t path) k (inl z) = ((v, rw z a), inl (rw z t))
path_edge (follows j a t path) k (inr i) = let r = path_edge path k i in (r.0, elim r.1 [ inl s ↦ inr s | inr s ↦ inl s ])

-- ---- an alternating path never comes back to a node: it has no edge twice and fewer edges than there are nodes, and n turns find all of it

-- A path that alternates between p and q has passed the nodes `passed` and is at v, where it looks for an edge of colour p.
record Reached (At : ℕ → ℕ → Type 0) (far : ℕ → ℕ → ℕ) (f : ℕ → ℕ) (n : ℕ) (passed : List ℕ) (v p q : ℕ) : Type 0 where
  -- From a node passed an edge of either colour leads to another, or it is the edge of colour q to v.
  between : (w e : ℕ) → Mem w passed → At e w → (f e ≡ p) ⊎ (f e ≡ q) → Mem (far e w) passed ⊎ ((far e w ≡ v) × (f e ≡ q))
  -- An edge of colour q at v leads back.
  back : (e : ℕ) → At e v → f e ≡ q → Mem (far e v) passed
  nodup : Nodup (v ∷ passed)
  inside : (w : ℕ) → Mem w (v ∷ passed) → w < n
  -- Where the path goes on the two colours differ.
  differ : (e : ℕ) → At e v → f e ≡ p → p ≢ q
  color_p : p ≢ no_color
  color_q : q ≢ no_color

module _ {At : ℕ → ℕ → Type 0} {far : ℕ → ℕ → ℕ} {f : ℕ → ℕ} (n : ℕ) (G : Graph At far) (proper : Proper At f) (inside : (k v : ℕ) → At k v → v < n) where
  start_reached : (u c d : ℕ) → u < n → Free At f u c → c ≢ no_color → d ≢ no_color → Reached At far f n [] u d c
  start_reached u c d h free color_c color_d = record {
    between = λ w e i. absurd i;
    back = λ e a t. absurd (free e a t);
    nodup = (λ i. i, tt);
    inside = λ w i. elim i [ inl z ↦ rw z h | inr z ↦ absurd z ];
    differ = λ e a t z. free e a (cc);
    color_p = color_d;
    color_q = color_c;
  }

  next_reached : {passed : List ℕ} {v p q : ℕ} (k : ℕ) → Reached At far f n passed v p q → At k v → f k ≡ p → Reached At far f n (v ∷ passed) (far k v) q p
  next_reached {passed} {v} {p} {q} k R a t = record {
    between = leads;
    back = λ j b s. inl (cc (proper j k (far k v) b (G.far_at_lem k v a) (λ z. R.color_p (cc)) (cc), G.far_far k v a));
    nodup = (new, R.nodup);
    inside = λ w i. elim i [ inl z ↦ rw z (inside k (far k v) (G.far_at_lem k v a)) | inr z ↦ R.inside w z ];
    differ = λ e b s z. R.differ k a t (sym z);
    color_p = R.color_q;
    color_q = R.color_p;
  }
    where
      leads : (w j : ℕ) → Mem w (v ∷ passed) → At j w → (f j ≡ q) ⊎ (f j ≡ p) → Mem (far j w) (v ∷ passed) ⊎ ((far j w ≡ far k v) × (f j ≡ p))
      leads w j (inl z) b (inl s) = inl (inr (subst (λ (x : ℕ). Mem (far j x) passed) (sym z) (R.back j (subst (At j) z b) s)))
      leads w j (inl z) b (inr s) = inr (cc (proper j k v (subst (At j) z b) a (λ y. R.color_p (cc)) (cc)), s)
      leads w j (inr i) b color = elim (R.between w j i b (elim color [ inl s ↦ inr s | inr s ↦ inl s ])) [ inl r ↦ inl (inr r) | inr (z, s) ↦ inl (inl z) ]

      new : Mem (far k v) (v ∷ passed) → ⊥
      new (inl z) = G.no_loop k v a z
      new (inr i) = elim (R.between (far k v) k i (G.far_at_lem k v a) (inl t)) [
        | inl r ↦ R.nodup.0 (subst (λ (x : ℕ). Mem x passed) (G.far_far k v a) r)
        | inr (z, s) ↦ R.differ k a t (cc)
      ]

  -- The edges still to come stand at no node passed.
  apart : {passed : List ℕ} {v p q : ℕ} {ks : List ℕ} → Reached At far f n passed v p q → Alternating At far f v p q ks
      → (j w : ℕ) → Mem j ks → Mem w passed → At j w → ⊥
  apart {passed = passed} R (stops {v = v} {p = p} {q = q} _) j w x22 i b = elim x22 [ ]
  apart {passed} {v} R (Alternating.follows k a t rest) j w (inl z) i b = elim (G.two_ends k v w a (subst (λ (x : ℕ). At x w) z b)) [
    | inl y ↦ R.nodup.0 (subst (λ (x : ℕ). Mem x passed) y i)
    | inr y ↦ (next_reached k R a t).nodup.0 (inr (subst (λ (x : ℕ). Mem x passed) y i))
  ]
  apart {passed} {v} R (Alternating.follows k a t rest) j w (inr z) i b = apart {passed = v ∷ passed} (next_reached k R a t) rest j w z (inr i) b

  -- They do not repeat, and with the nodes passed they are fewer than n.
  rest_nodup : {passed : List ℕ} {v p q : ℕ} {ks : List ℕ} → Reached At far f n passed v p q → Alternating At far f v p q ks → Nodup ks
  rest_nodup R (Alternating.stops free) = tt
  rest_nodup {passed} {v} R (Alternating.follows k a t rest) = (λ i. apart (next_reached k R a t) rest k v i (inl refl) a, rest_nodup {passed = v ∷ passed} (next_reached k R a t) rest)

  rest_length : {passed : List ℕ} {v p q : ℕ} {ks : List ℕ} → Reached At far f n passed v p q → Alternating At far f v p q ks → length ks + length passed < n
  rest_length {passed} {v} R (Alternating.stops free) = omega (arith, nodup_bound n (v ∷ passed) R.nodup R.inside)
  rest_length {passed} {v} R (Alternating.follows k a t rest) = omega (arith, rest_length {passed = v ∷ passed} (next_reached k R a t) rest)

  -- The whole path from u.
  module _ {u c d : ℕ} {ks : List ℕ} (h : u < n) (free : Free At f u c) (color_c : c ≢ no_color) (color_d : d ≢ no_color) (alternating : Alternating At far f u d c ks) where
    pub alternating_nodup : Nodup ks
    alternating_nodup = rest_nodup (start_reached u c d h free color_c color_d) alternating

    pub alternating_length : length ks < n
    alternating_length = omega (arith, rest_length (start_reached u c d h free color_c color_d) alternating)

-- ---- the path of the definitions is the whole alternating path

module _ (ends : List ℕ) (m n : ℕ) (G : Graph (Incident ends m) (far_end ends)) (inside : (k v : ℕ) → Incident ends m k v → v < n)
    (l : List ℕ) (proper : Proper (Incident ends m) (color_of l)) where
  rest_alternating : (fuel : ℕ) (passed : List ℕ) (v p q : ℕ) → Reached (Incident ends m) (far_end ends) (color_of l) n passed v p q → n ≤ fuel + length passed
      → Alternating (Incident ends m) (far_end ends) (color_of l) v p q (path ends m fuel l v p q)
  unfolding path
  rest_alternating zero passed v p q R h = absurd (omega (arith, nodup_bound n (v ∷ passed) R.nodup R.inside))
  rest_alternating (suc fuel) passed v p q R h = elim (some_or_none (edge_of_color l p (edges_at ends m v))) [
    | inl e ↦ rw (e, path) (Alternating.stops (λ k a. edge_of_color_none l p (edges_at ends m v) e k (at_edge ends m v k a.0 a.1)))
    | inr (k, e) ↦
        let r = edge_of_color_some l p (edges_at ends m v) k e in
        let a = edge_at ends m v k r.0 in
        rw (e, path) (Alternating.follows k a r.1
        (rest_alternating fuel (v ∷ passed) (far_end ends k v) q p (next_reached n G proper inside k R a r.1) (omega arith)))
  ]

  pub path_alternating : (u c d : ℕ) → u < n → Free (Incident ends m) (color_of l) u c → c ≢ no_color → d ≢ no_color
      → Alternating (Incident ends m) (far_end ends) (color_of l) u d c (path ends m n l u d c)
  path_alternating u c d h free color_c color_d = rest_alternating n [] u d c (start_reached n G proper inside u c d h free color_c color_d) (omega arith)
