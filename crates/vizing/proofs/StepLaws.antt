-- What a step keeps, and so the run: the colouring stays proper, and its colours in the palette.
use Prim.Native.Nat.{ℕ, ◌≤◌, ◌<◌, suc, zero}
use mathlib.Core.Logic.{◌≢◌, inl, inr}
use mathlib.Core.List.{List, [], ◌∷◌, ◌++◌, map}
use native.Mathlib.Omega.{arith}
use mathlib.Core.Path.{◌≡◌, refl, sym, subst, ◌∙◌, ap}
use lib.ListN.{length, set, length-set, length-replicate}
use lib.Seq.{set-set}
use native.Mathlib.Decide.{dec_lt}
use native.Mathlib.Nat.{not-suc-le-zero}
use Rattle.graph.specs.Edges.{edges_at, degree, first_end, second_end, far_end}
use Rattle.graph.proofs.EdgeLaws.{at_edge, far_first}
use Rattle.graph.specs.Color.{no_color}
use Rattle.graph.specs.Colored.{color_of, smallest_free_at}
use Rattle.graph.proofs.ColorLaws.{smallest_free_bound, smallest_none_has, color_set_same, color_set_other, color_replicate}
use Rattle.vizing.specs.Coloring.{Free}
use Rattle.vizing.specs.Simple.{Incident, Simple}
use Rattle.lists.specs.Member.{Mem, Nodup}
use Rattle.lists.proofs.MemberLaws.{dec_mem}
use Rattle.vizing.specs.MisraGries.{store, swap, exchange, step, held_after}
use Rattle.vizing.proofs.StepForm.{rotate_places, grow_fan, last_far_end, places_to, StepParts, step_parts, step_form}
use Rattle.vizing.proofs.DefinitionLaws.{length_store, color_store_other, step_list}
use Rattle.vizing.proofs.Fan.{Moved, Rotated, last_edge, last_member, UpTo, fan_edge, fan_at, up_to_free, up_to_member, up_to_nodup, fan_up_to, some_free, Grown, grown_fan, fan_nodup, grown_maximal, fan_grown, places_up_to, last_far_end_lem, fan_length, rotated_other, rotated_from, rotation_proper}
use Rattle.graph.proofs.TableLaws.{degree_bound}
use Rattle.vizing.proofs.AlternatingPath.{Graph, swap_cases, Alternating, path_edge, Exchanged, exchange_proper, exchange_uncolored, free_d, path_alternating, alternating_nodup, alternating_length}
use Rattle.vizing.proofs.SimpleLaws.{simple_graph}
use Rattle.vizing.specs.Step.{Invariant}

-- ---- Which colours a step may use, and that the colours up to the greatest degree are enough

-- The allowed colours are colours, and the smallest free colour at a node below n is free there and allowed. Nothing else is used of it.
pub record Palette (ends : List ℕ) (m n : ℕ) (Ok : ℕ → Type 0) : Type 0 where
  pub marked : (c : ℕ) → Ok c → c ≢ no_color
  pub fresh : (l : List ℕ) (v : ℕ) → v < n → Free (Incident ends m) (color_of l) v (smallest_free_at l (edges_at ends m v))
  pub bound : (l : List ℕ) (v : ℕ) → v < n → Ok (smallest_free_at l (edges_at ends m v))

-- Where no degree exceeds D, the D + 1 colours from 0 to D.
pub degree_palette : (ends : List ℕ) (m n D : ℕ) → D < no_color → ((v : ℕ) → v < n → degree ends m v ≤ D) → Palette ends m n (λ c. c ≤ D)
unfolding degree
degree_palette ends m n D h degrees = record {
  marked = λ c b z. omega arith;
  fresh = λ l v b k a. smallest_none_has l (edges_at ends m v) (omega (arith, degrees v b)) k (at_edge ends m v k a.0 a.1);
  bound = λ l v b. omega (arith, smallest_free_bound l (edges_at ends m v), degrees v b);
}

-- ---- what stands at each place after the exchange and after the rotation; both also done place by place

-- Stored by a function of the place, each place has its own colour, also where a place comes twice.
color_store_map : (f : ℕ → ℕ) (l ks : List ℕ) (i : ℕ) → Mem i ks → i < length l → color_of (store l ks (map f ks)) i ≡ f i
unfolding store
color_store_map f l [] i p h = elim p [ ]
color_store_map f l (k ∷ ks) i p h = elim (dec_mem i ks) [
  | inl q ↦ color_store_map f (set l k (f k)) ks i q (rw (length-set l k (f k)) h)
  | inr n ↦ color_store_other (set l k (f k)) ks (map f ks) i n ∙ (elim p [ inl z ↦ rw z (color_set_same l k (f k) (rw z at h)) | inr q ↦ absurd (n q) ])
]

map_agree : (f g : ℕ → ℕ) (ks : List ℕ) → ((i : ℕ) → Mem i ks → f i ≡ g i) → map f ks ≡ map g ks
map_agree f g [] same = refl
map_agree f g (k ∷ ks) same = rw (same k (inl refl), map_agree f g ks (λ i p. same i (inr p)))

-- A store at a place that is not among these leaves their colours.
colors_set : (l : List ℕ) (k c : ℕ) (ks : List ℕ) → (Mem k ks → ⊥) → map (color_of (set l k c)) ks ≡ map (color_of l) ks
colors_set l k c ks n = map_agree (color_of (set l k c)) (color_of l) ks (λ i p. color_set_other l k c i (λ z. n (subst (λ (x : ℕ). Mem x ks) z p)))

-- ---- the exchange

length_exchange : (l : List ℕ) (c d : ℕ) (ks : List ℕ) → length (exchange l c d ks) ≡ length l
unfolding exchange
length_exchange l c d ks = length_store l ks (map (λ (k : ℕ). swap c d (color_of l k)) ks)

exchange_on : (l : List ℕ) (c d : ℕ) (ks : List ℕ) (i : ℕ) → i < length l → Mem i ks → color_of (exchange l c d ks) i ≡ swap c d (color_of l i)
unfolding exchange
exchange_on l c d ks i h p = color_store_map (λ (k : ℕ). swap c d (color_of l k)) l ks i p h

exchange_off : (l : List ℕ) (c d : ℕ) (ks : List ℕ) (i : ℕ) → (Mem i ks → ⊥) → color_of (exchange l c d ks) i ≡ color_of l i
unfolding exchange
exchange_off l c d ks i n = color_store_other l ks (map (λ (k : ℕ). swap c d (color_of l k)) ks) i n

pub exchange_none : (l : List ℕ) (c d : ℕ) → exchange l c d [] ≡ l
unfolding exchange store
exchange_none l c d = refl

-- ---- the rotation

length_rotate : (l : List ℕ) (k : ℕ) (ks : List ℕ) (d : ℕ) → length (rotate_places l k ks d) ≡ length l
unfolding rotate_places
length_rotate l k ks d = length_store l (k ∷ ks) (map (color_of l) ks ++ (d ∷ []))

rotate_last : (l : List ℕ) (k d : ℕ) → rotate_places l k [] d ≡ set l k d
unfolding rotate_places store
rotate_last l k d = refl

-- The first place, then the others: nothing of it is read again.
rotate_next : (l : List ℕ) (k j : ℕ) (ks : List ℕ) (d : ℕ) → (Mem k ks → ⊥) → rotate_places l k (j ∷ ks) d ≡ rotate_places (set l k (color_of l j)) j ks d
unfolding rotate_places store
rotate_next l k j ks d n = rw (colors_set l k (color_of l j) ks n)

-- The colour of the first place is not read.
rotate_first : (l : List ℕ) (k c : ℕ) (ks : List ℕ) (d : ℕ) → (Mem k ks → ⊥) → rotate_places (set l k c) k ks d ≡ rotate_places l k ks d
rotate_first l k c [] d n = rw (rotate_last (set l k c) k d, rotate_last l k d) (set-set l k c d)
rotate_first l k c (j ∷ ks) d n =
    rw (rotate_next (set l k c) k j ks d (λ p. n (inr p)), rotate_next l k j ks d (λ p. n (inr p)), color_set_other l k c j (λ z. n (inl (sym z))), set-set l k c (color_of l j))

rotate_rotated : (l : List ℕ) (k : ℕ) (ks : List ℕ) (d : ℕ) → Nodup (k ∷ ks) → ((i : ℕ) → Mem i (k ∷ ks) → i < length l)
    → Rotated (color_of (rotate_places l k ks d)) d (color_of l) k ks
rotate_rotated l k [] d nodup inside = rw (rotate_last l k d) (Rotated.last (color_set_same l k d (inside k (inl refl))) (λ i n. color_set_other l k d i n))
rotate_rotated l k (j ∷ ks) d (out, nodup) inside =
    Rotated.next moved (subst (λ (r : List ℕ). Rotated (color_of r) d (color_of l'') j ks) same
    (rotate_rotated l'' j ks d nodup (λ i p. rw (length-set l' j no_color, length-set l k (color_of l j)) (inside i (inr p)))))
  where
    -- Place k takes the colour of j, which then loses it.
    l' : List ℕ
    l' = set l k (color_of l j)

    l'' : List ℕ
    l'' = set l' j no_color

    same : rotate_places l'' j ks d ≡ rotate_places l k (j ∷ ks) d
    same = rotate_first l' j no_color ks d nodup.0 ∙ sym (rotate_next l k j ks d (λ p. out (inr p)))

    moved : Moved (color_of l) (color_of l'') k j
    moved = record {
      taken = color_set_other l' j no_color k (λ z. out (inl z)) ∙ color_set_same l k (color_of l j) (inside k (inl refl));
      lost = color_set_same l' j no_color (rw (length-set l k (color_of l j)) (inside j (inr (inl refl))));
      others = λ i n m. color_set_other l' j no_color i m ∙ color_set_other l k (color_of l j) i n;
    }

-- ---- One step from any list that meets the invariant: what its parts are, and that the next list meets the invariant

-- What is known of what the step of edge k finds in the list l, and of its exchange and its rotation.
pub record FoundLaws (ends : List ℕ) (m n : ℕ) (Ok : ℕ → Type 0) (l : List ℕ) (k : ℕ) (found : StepParts) : Type 0 where
  pub allowed_c : Ok found.c
  pub allowed_d : Ok found.d
  pub fan_nodup : Nodup (k ∷ found.fan)
  pub fan_edges : (j : ℕ) → Mem j found.fan → (j < k) × Incident ends m j (first_end ends k)
  pub fan_length : suc (length found.fan) ≤ degree ends m (first_end ends k)
  pub path_nodup : Nodup found.path
  pub path_length : length found.path < n
  pub path_edges : (j : ℕ) → Mem j found.path → j < k
  pub places_nodup : Nodup (k ∷ found.places)
  pub places_in_fan : (j : ℕ) → Mem j found.places → Mem j found.fan
  pub exchange : Exchanged (Incident ends m) (far_end ends) (color_of l) (color_of found.exchanged) (first_end ends k) found.c found.d found.path
  pub rotation : Rotated (color_of (step ends m n l k)) found.d (color_of found.exchanged) k found.places

module _ (ends : List ℕ) (m n : ℕ) (Ok : ℕ → Type 0) (S : Simple ends m) (inside : (k : ℕ) → k < m → (first_end ends k < n) × (second_end ends k < n)) (small : m ≤ 4096)
    (P : Palette ends m n Ok) where
  abbrev At : ℕ → ℕ → Type 0
  At = Incident ends m

  abbrev far : ℕ → ℕ → ℕ
  far = far_end ends

  G : Graph At far
  G = simple_graph ends m S

  node_inside : (k v : ℕ) → At k v → v < n
  node_inside k v (h, inl z) = rw z at (inside k h).0
  node_inside k v (h, inr z) = rw z at (inside k h).1

  module _ (l : List ℕ) (k : ℕ) (h : k < m) (I : Invariant ends m Ok k l) where
    abbrev u : ℕ
    u = first_end ends k

    abbrev found : StepParts
    found = step_parts ends m n l k

    at_u : At k u
    at_u = (h, inl refl)

    u_inside : u < n
    u_inside = (inside k h).0

    far_u : far k u ≡ second_end ends k
    far_u = far_first ends k u refl

    -- Coloured edges come before k.
    colored_before : (j : ℕ) → color_of l j ≢ no_color → j < k
    colored_before j colored = elim (dec_lt j k) [ yes b ↦ b | no b ↦ absurd (colored (I.rest j (omega arith))) ]

    -- ---- the fan

    grown : Grown At far u (color_of l) (k ∷ []) k found.fan
    unfolding step_parts degree
    grown = subst (λ (x : ℕ). Grown At far u (color_of l) (k ∷ []) k (grow_fan ends m 4096 l u (k ∷ []) x)) far_u
        (fan_grown ends m l 4096 u (k ∷ []) k (λ p. p, tt) (λ i p. elim p [ inl z ↦ rw z (at_edge ends m u k h (inl refl)) | inr q ↦ absurd q ])
        (omega (arith, degree_bound ends m u)))

    fan_edges : (j : ℕ) → Mem j found.fan → (j < k) × At j u
    fan_edges j p = let r = fan_edge (grown_fan grown) j p in (colored_before j r.1, r.0)

    maximal : (x : ℕ) → At x u → color_of l x ≢ no_color → Free At (color_of l) (far (last_edge k found.fan) u) (color_of l x) → Mem x found.fan
    maximal x a colored free = elim (grown_maximal grown x a colored free) [
      | inl p ↦ elim p [ inl z ↦ absurd (colored (rw z (I.rest k (omega arith)))) | inr q ↦ absurd q ]
      | inr p ↦ p
    ]

    last_far : last_far_end ends u (second_end ends k) found.fan ≡ far (last_edge k found.fan) u
    last_far = subst (λ (x : ℕ). last_far_end ends u x found.fan ≡ far (last_edge k found.fan) u) far_u (last_far_end_lem ends u k found.fan)

    last_inside : last_far_end ends u (second_end ends k) found.fan < n
    last_inside =
        let e = last_edge k found.fan in
        rw last_far (node_inside e (far e u) (G.far_at_lem e u (fan_at (grown_fan grown) at_u e (last_member k found.fan))))

    -- ---- the two colours

    allowed_c : Ok found.c
    unfolding step_parts
    allowed_c = P.bound l u u_inside

    allowed_d : Ok found.d
    unfolding step_parts
    allowed_d = P.bound l (last_far_end ends u (second_end ends k) found.fan) last_inside

    color_c : found.c ≢ no_color
    color_c = P.marked found.c allowed_c

    color_d : found.d ≢ no_color
    color_d = P.marked found.d allowed_d

    free_c : Free At (color_of l) u found.c
    unfolding step_parts
    free_c = P.fresh l u u_inside

    free_last : Free At (color_of l) (far (last_edge k found.fan) u) found.d
    unfolding step_parts
    free_last = subst (λ (x : ℕ). Free At (color_of l) x found.d) last_far (P.fresh l (last_far_end ends u (second_end ends k) found.fan) last_inside)

    -- ---- the path and the exchange

    alternating : Alternating At far (color_of l) u found.d found.c found.path
    unfolding step_parts
    alternating = path_alternating ends m n G node_inside l I.proper u found.c found.d u_inside free_c color_c color_d

    path_edges : (j : ℕ) → Mem j found.path → j < k
    path_edges j p = colored_before j (elim (path_edge alternating j p).1 [ inl z ↦ rw z color_d | inr z ↦ rw z color_c ])

    exchanged : Exchanged At far (color_of l) (color_of found.exchanged) u found.c found.d found.path
    unfolding step_parts
    exchanged = record {
      graph = G;
      proper = I.proper;
      path = alternating;
      free_c = free_c;
      color_c = color_c;
      color_d = color_d;
      on_path = λ j p. exchange_on l found.c found.d found.path j (omega (arith, path_edges j p, I.size)) p;
      off_path = exchange_off l found.c found.d found.path;
    }

    exchanged_size : length found.exchanged ≡ 4096
    unfolding step_parts
    exchanged_size = length_exchange l found.c found.d found.path ∙ I.size

    exchanged_done : (j : ℕ) → j < k → Ok (color_of found.exchanged j)
    exchanged_done j b = elim (dec_mem j found.path) [
      | inl p ↦ rw (exchanged.on_path j p) (swap_cases (λ x y. Ok y) found.c found.d (color_of l j) allowed_d allowed_c (λ other-c other-d. I.done j b))
      | inr p ↦ rw (exchanged.off_path j p) (I.done j b)
    ]

    -- ---- the places up to w and the rotation

    up_to : UpTo At far u (color_of found.exchanged) found.d k found.fan found.places
    unfolding step_parts
    up_to = subst (λ (x : ℕ). UpTo At far u (color_of found.exchanged) found.d k found.fan (places_to ends m found.exchanged found.d u x found.fan)) far_u
        (places_up_to ends m found.exchanged found.d u k found.fan (some_free exchanged k found.fan at_u (grown_fan grown) (fan_nodup grown) free_last maximal))

    places_nodup : Nodup (k ∷ found.places)
    places_nodup = up_to_nodup up_to (fan_nodup grown)

    places_before : (j : ℕ) → Mem j found.places → j < k
    places_before j p = (fan_edges j (up_to_member up_to j p)).0

    rotated : Rotated (color_of (step ends m n l k)) found.d (color_of found.exchanged) k found.places
    rotated = rw (step_form ends m n l k)
        (rotate_rotated found.exchanged k found.places found.d places_nodup
        (λ i p. elim p [ inl z ↦ omega (arith, exchanged_size) | inr q ↦ omega (arith, exchanged_size, places_before i q) ]))

    pub found_laws : FoundLaws ends m n Ok l k (step_parts ends m n l k)
    found_laws = record {
      allowed_c = allowed_c;
      allowed_d = allowed_d;
      fan_nodup = fan_nodup grown;
      fan_edges = fan_edges;
      fan_length = fan_length ends m u (k ∷ found.fan) (fan_nodup grown) (fan_at (grown_fan grown) at_u);
      path_nodup = alternating_nodup n G I.proper node_inside u_inside free_c color_c color_d alternating;
      path_length = alternating_length n G I.proper node_inside u_inside free_c color_c color_d alternating;
      path_edges = path_edges;
      places_nodup = places_nodup;
      places_in_fan = up_to_member up_to;
      exchange = exchanged;
      rotation = rotated;
    }

    pub step_keeps : Invariant ends m Ok (suc k) (step ends m n l k)
    step_keeps = record {
      size = ap length (step_form ends m n l k) ∙ length_rotate found.exchanged k found.places found.d ∙ exchanged_size;
      proper = rotation_proper G rotated (exchange_proper exchanged) at_u (fan_up_to exchanged up_to (grown_fan grown)) places_nodup color_d (free_d exchanged) (up_to_free up_to);
      done = λ j b. elim (dec_mem j (k ∷ found.places)) [
        | inl p ↦ elim (rotated_from rotated places_nodup j p) [ inl z ↦ rw z allowed_d | inr (i, q, z) ↦ rw z (exchanged_done i (places_before i q)) ]
        | inr p ↦ rw (rotated_other rotated j p) (exchanged_done j (let differs : j ≢ k = λ z. p (inl z) in omega arith))
      ];
      rest = λ j b. rotated_other rotated j (λ p. elim p [ inl z ↦ omega arith | inr q ↦ omega (arith, places_before j q) ])
          ∙ exchange_uncolored exchanged j (I.rest j (omega arith));
    }

-- ---- the list that the run holds meets the invariant after every edge

module _ (ends : List ℕ) (m n : ℕ) (Ok : ℕ → Type 0) (S : Simple ends m) (inside : (k : ℕ) → k < m → (first_end ends k < n) × (second_end ends k < n)) (small : m ≤ 4096)
    (P : Palette ends m n Ok) where
  pub run_keeps : (k : ℕ) → k ≤ m → Invariant ends m Ok k (held_after ends m n k).list
  unfolding held_after
  run_keeps zero h = record {
    size = length-replicate 4096 no_color;
    proper = λ i j v a b colored e. absurd (colored (color_replicate 4096 i));
    done = λ j b. absurd (not-suc-le-zero b);
    rest = λ j b. color_replicate 4096 j;
  }
  run_keeps (suc k) h = rw (step_list ends m n (held_after ends m n k) k) (step_keeps ends m n Ok S inside small P (held_after ends m n k).list k h (run_keeps k (omega arith)))
