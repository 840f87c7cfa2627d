-- Laws of a step: colours in range, the path exchanged, the fan rotated.
use Prim.Native.Nat.{ℕ, suc, ◌<◌, ◌+◌, ◌-◌, ◌*◌, ◌≤◌}
use mathlib.Core.List.{List, [], ◌∷◌, ◌++◌}
use native.Mathlib.Omega.{arith}
use mathlib.Core.Path.{◌≡◌, refl, sym, ap, subst, ◌∙◌}
use mathlib.Core.Bool.{Bool, true}
use native.Mathlib.Nat.{min-le_left}
use lib.ListN.{length, get_or, take, drop, length-append, length-take}
use lib.Seq.{length-take-le, take-append-le}
use borrow.Author.Tests.{eq-eqb, ne_eqb}
use Rattle.graph.specs.Edges.{edge_count, first_end, second_end, far_end, edges_at, degree}
use Rattle.vizing.proofs.Theorem.{admitted_palette}
use Rattle.vizing.proofs.StepLaws.{exchange_none, FoundLaws, found_laws, step_keeps}
use Rattle.vizing.proofs.SimpleLaws.{degree_below}
use Rattle.misra_gries.specs.Step.{InRange, Ready, Exchanging, Exchanged, Rotating, Rotated, Turning, Turned, top_color, FanReady}
use Rattle.graph.specs.Stretch.{stretch}
use Rattle.graph.proofs.EdgeLaws.{far_first}
use Rattle.graph.specs.Colored.{smallest_free_at}
use Rattle.vizing.specs.MisraGries.{last_of, fan_of, path, exchange, find, step}
use Rattle.vizing.proofs.StepForm.{last_far_end, rotate_places, StepParts, step_parts, fan_form, last_form, find_form, step_form}
use Rattle.vizing.specs.Step.{Invariant}
use Rattle.edge_table.specs.EdgeTable.{is_empty, smallest_empty, exchanged_colors, rotated_colors}
use Rattle.repaint.specs.Repaint.{state, repainted, Repaintable}
use Rattle.repaint.proofs.RepaintLaws.{max_degree_below, says_smallest, says_free, repaint_done, exchange_done, step_exchange, step_rotation}
use Rattle.recolor.specs.Front.{put_front}
use Rattle.recolor.specs.NewColors.{shifted_colors}
use Rattle.recolor.proofs.NewColorsLaws.{exchanged_front, shifted_front}
use Rattle.recolor.specs.TablePath.{table_path}
use Rattle.recolor.proofs.TablePathLaws.{path_none, path_ended, table_path_lem}
use Rattle.fan.specs.TablePlaces.{table_places}
use Rattle.fan.proofs.TablePlacesLaws.{table_places_lem, places_taken}

-- Laws of the step's parts, as the code has them: the path exchanged, the fan rotated, steps 2 to 5.

-- ---- the path exchanged

-- The path from u along d, c stands in the first len places of an array of `size` places.
pub record Followed (ends T : List ℕ) (n u d c size : ℕ) (edges : List ℕ) (len : ℕ) : Type 0 where
  pub path : take len edges ≡ table_path ends T n u d c
  pub inside : len ≤ length edges
  pub filled : len ≡ length (take len edges)
  pub short : len ≤ size

-- The first n places of the array A were lent to `follow`, and hold L afterwards.
pub path_lent : (ends T : List ℕ) (n u d c : ℕ) (A L : List ℕ) (len : ℕ) → n ≤ length A → length L ≡ length (take n A)
    → (take len L ≡ table_path ends T (length (take n A)) u d c) × ((len ≡ length (table_path ends T (length (take n A)) u d c)) × (len ≤ length (take n A)))
    → Followed ends T n u d c (length A) (L ++ drop n A) len
path_lent ends T n u d c A L len room kept e =
    let lent = length-take-le n A room in
    let inside : len ≤ length (L ++ drop n A) = rw (length-append L (drop n A)) (omega (arith, kept, e.1.1)) in
    record {
      path = take-append-le len L (drop n A) (omega (arith, kept, e.1.1)) ∙ (e.0 ∙ ap (λ (i : ℕ). table_path ends T i u d c) lent);
      inside = inside;
      filled = sym (length-take-le len (L ++ drop n A) inside);
      short = omega (arith, lent, e.1.1, room);
    }

-- The same of an array of 512 places.
pub path_followed : (ends T : List ℕ) (n u d c : ℕ) (A L : List ℕ) (len : ℕ) → n ≤ length A → length A ≡ 512 → length L ≡ length (take n A)
    → (take len L ≡ table_path ends T (length (take n A)) u d c) × ((len ≡ length (table_path ends T (length (take n A)) u d c)) × (len ≤ length (take n A)))
    → Followed ends T n u d c 512 (L ++ drop n A) len
path_followed ends T n u d c A L len room size kept e = subst (λ (s : ℕ). Followed ends T n u d c s (L ++ drop n A) len) size (path_lent ends T n u d c A L len room kept e)

-- An array of `size` places was lent, and holds L afterwards: the path ended before its last place.
pub path_few : (ends T : List ℕ) (n u d c size : ℕ) (L : List ℕ) (len : ℕ) → size ≤ n → (len ≡ size → ⊥) → length L ≡ size
    → (take len L ≡ table_path ends T size u d c) × ((len ≡ length (table_path ends T size u d c)) × (len ≤ size)) → Followed ends T n u d c size L len
path_few ends T n u d c size L len room ended kept e =
    let inside : len ≤ length L = omega (arith, e.1.1) in
    record {
      path = e.0 ∙ sym (path_ended ends T size n u d c (omega (arith, e.1.0, e.1.1, ended)) room);
      inside = inside;
      filled = sym (length-take-le len L inside);
      short = e.1.1;
    }

module _ (ends l T : List ℕ) (n u c d : ℕ) (E : Exchanging ends n l T u c d) where
  right_path : table_path ends T n u d c ≡ path ends (edge_count ends) n l u d c
  right_path = table_path_lem ends (edge_count ends) l T (λ v. Unit {0}) (λ k v h. tt) n u d c tt (λ v a. E.tabled.says v d E.d_color) (λ v a. E.tabled.says v c E.c_color)

  -- d is free at u: the path is empty, and nothing is exchanged.
  pub path_empty : (b : Bool) → b ≡ is_empty T u d → b ≡ true → Exchanged n ends l u c d 0 l T
  path_empty b e t =
      let p : path ends (edge_count ends) n l u d c ≡ [] = sym right_path ∙ path_none ends T n u d c (sym e ∙ t) in
      record { count_is = sym (ap length p); list = sym (ap (exchange l c d) p ∙ exchange_none l c d); tabled = E.tabled }

  pub path_exchanged : (es l' T' : List ℕ) (len : ℕ) → es ≡ table_path ends T n u d c → len ≡ length es → state l' T' ≡ repainted ends (state l T) es (exchanged_colors l c d es) → Exchanged n ends l u c d len l' T'
  path_exchanged es l' T' len p q s =
      let e = p ∙ right_path in
      let right = s ∙ ap (λ (ks : List ℕ). repainted ends (state l T) ks (exchanged_colors l c d ks)) e in
      let done = exchange_done ends (edge_count ends) l T E.tabled l' T' c d (path ends (edge_count ends) n l u d c) E.allowed right in
      record { count_is = q ∙ ap length e; list = done.0; tabled = done.1 }

-- The path's edges with their colours, which stand at the front of the lent slice.
pub edges_exchanged : (ends l T : List ℕ) (c d : ℕ) (es out₀ out l' T' : List ℕ) → length es ≤ length out₀ → out ≡ put_front (exchanged_colors l c d es) out₀ → state l' T' ≡ repainted ends (state l T) es (take (length es) out)
    → state l' T' ≡ repainted ends (state l T) es (exchanged_colors l c d es)
edges_exchanged ends l T c d es out₀ out l' T' h r s = s ∙ ap (repainted ends (state l T) es) (exchanged_front l c d es out₀ out r h)

-- ---- the fan rotated

module _ (ends l T fan : List ℕ) (d room : ℕ) (R : Rotating ends l T fan d room) where
  -- The colours that are given are the new ones.
  given : (colors l' T' : List ℕ) → colors ≡ rotated_colors l (drop 1 fan) d → state l' T' ≡ repainted ends (state l T) fan colors → Rotated ends l fan d l' T'
  given colors l' T' e s =
      let done = repaint_done ends (edge_count ends) l T fan (rotated_colors l (drop 1 fan) d) R.tabled R.allowed l' T' (s ∙ ap (repainted ends (state l T) fan) e) in
      record { list = done.0; tabled = done.1 }

  module _ (out₀ out : List ℕ) (e : out ≡ put_front (shifted_colors l fan d) out₀) (fits : length fan ≤ length out₀) where
    taken_colors : take (length fan) out ≡ rotated_colors l (drop 1 fan) d
    taken_colors = shifted_front l fan d out₀ out e R.some fits

    pub fan_rotated : (l' T' : List ℕ) → state l' T' ≡ repainted ends (state l T) fan (take (length fan) out) → Rotated ends l fan d l' T'
    fan_rotated l' T' = given (take (length fan) out) l' T' taken_colors

  -- A fan of one place takes d.
  pub fan_of_one : length fan ≡ 1 → (l' T' : List ℕ) → state l' T' ≡ repainted ends (state l T) fan (d ∷ []) → Rotated ends l fan d l' T'
  fan_of_one h l' T' = given (d ∷ []) l' T' (sym (alone fan h))
    where
      alone : (ks : List ℕ) → length ks ≡ 1 → rotated_colors l (drop 1 ks) d ≡ d ∷ []
      alone [] q = let z : ⊥ = omega arith in absurd z
      alone (k ∷ []) q = refl
      alone (k ∷ j ∷ ks) q = let z : ⊥ = omega arith in absurd z

-- ---- steps 2 to 5

module _ (n : ℕ) (ends l T fan : List ℕ) (k u v : ℕ) (G : Turning n ends l T fan k u v) where
  abbrev m : ℕ
  m = edge_count ends

  abbrev found : StepParts
  found = step_parts ends m n l k

  found_of : FoundLaws ends m n (InRange n ends) l k found
  found_of = let a = G.admitted in found_laws ends m n (InRange n ends) a.simple a.inside a.edges (admitted_palette n ends a) l k G.edge G.kept

  low : (c : ℕ) → InRange n ends c → c < 576
  low c h = omega (arith, h, max_degree_below n ends G.admitted)

  fan_is : fan ≡ k ∷ found.fan
  unfolding step_parts
  fan_is = G.fan_of_lem ∙ fan_form ends m l k

  pub turn_fan : 1 ≤ length fan
  turn_fan = rw fan_is (omega arith)

  module _ (e c d : ℕ) (pe : e ≡ far_end ends (get_or fan (length fan - 1) 0) u) (pc : c ≡ smallest_empty T u) (pd : d ≡ smallest_empty T e) where
    last_is : e ≡ last_far_end ends (first_end ends k) (second_end ends k) found.fan
    unfolding last_of
    last_is =
        let first = first_end ends k in
        pe ∙ (rw (fan_is, G.first) (last_form ends first k found.fan ∙ ap (λ (x : ℕ). last_far_end ends first x found.fan) (far_first ends k first refl)))

    c_is : c ≡ found.c
    unfolding step_parts
    c_is = pc ∙ (says_smallest ends m l T G.tabled u ∙ ap (λ (x : ℕ). smallest_free_at l (edges_at ends m x)) G.first)

    d_is : d ≡ found.d
    unfolding step_parts
    d_is = pd ∙ (says_smallest ends m l T G.tabled e ∙ ap (λ (x : ℕ). smallest_free_at l (edges_at ends m x)) last_is)

    exchanging_found : Exchanging ends n l T (first_end ends k) found.c found.d
    unfolding step_parts
    exchanging_found = record {
      tabled = G.tabled;
      nodes = G.admitted.nodes;
      c_color = λ z. omega (arith, low found.c found_of.allowed_c);
      d_color = λ z. omega (arith, low found.d found_of.allowed_d);
      allowed = step_exchange ends m n (InRange n ends) low l k G.edge found_of;
    }

    pub turn_exchanging : Exchanging ends n l T u c d
    turn_exchanging = rw (G.first, c_is, d_is) exchanging_found

    module _ (len : ℕ) (l' T' : List ℕ) (x : Exchanged n ends l u c d len l' T') where
      exchanged_is : l' ≡ found.exchanged
      unfolding step_parts
      exchanged_is = x.list ∙ rw (G.first, c_is, d_is) refl

      module _ (r : ℕ) (pr : r ≡ 1 + length (table_places ends T' d u v (drop 1 fan))) where
        places_are : table_places ends T' d u v found.fan ≡ found.places
        unfolding step_parts
        places_are =
            table_places_lem ends m l' T' (λ w. Unit {0}) d (λ w t. says_free ends m l' T' x.tabled w d (λ z. omega (arith, d_is, low found.d found_of.allowed_d))) u v found.fan tt (λ j p. tt)
            ∙ rw (exchanged_is, d_is, G.first, G.second) refl

        taken : (take r fan ≡ k ∷ found.places) × (r ≤ length fan)
        taken = let p = places_taken ends T' d u v k found.fan fan r fan_is pr in (p.0 ∙ ap (λ (ks : List ℕ). k ∷ ks) places_are, p.1)

        pub turn_count : r ≡ length (take r fan)
        turn_count = sym (length-take-le r fan taken.1)

        next_kept : Invariant ends m (InRange n ends) (suc k) (step ends m n l k)
        next_kept = let a = G.admitted in step_keeps ends m n (InRange n ends) a.simple a.inside a.edges (admitted_palette n ends a) l k G.edge G.kept

        rotating : Repaintable ends m l' (k ∷ found.places) (rotated_colors l' found.places d)
        rotating = rw (exchanged_is, d_is) (step_rotation ends m n (InRange n ends) low l k G.edge found_of T' (rw exchanged_is at x.tabled) G.kept next_kept)

        pub turn_rotating : Rotating ends l' T' (take r fan) d 512
        turn_rotating = record { tabled = x.tabled; allowed = rw taken.0 rotating; some = rw taken.0 (omega arith); fits = omega (arith, sym turn_count, taken.1, G.small) }

        module _ (l'' T'' : List ℕ) (s : Rotated ends l' (take r fan) d l'' T'') where
          turned : (color : ℕ) → color ≡ top_color (find ends m n l k) → Turned n ends l k color l'' T''
          unfolding rotate_places
          turned color t = record { list = s.list ∙ rw (taken.0, exchanged_is, d_is) (sym (step_form ends m n l k)); tabled = s.tabled; top = t }

          count_found : len ≡ length found.path
          unfolding step_parts
          count_found = x.count_is ∙ rw (G.first, c_is, d_is) refl

          -- The one new colour that may be the greatest.
          pub turned_alone : len ≡ 0 → Turned n ends l k d l'' T''
          unfolding top_color
          turned_alone z = let f = find_form ends m n l k in turned d (rw (f.path, f.c, f.d, eq-eqb (length found.path) 0 (sym count_found ∙ z)) d_is)

          pub turned_along : (len ≡ 0 → ⊥) → Turned n ends l k c l'' T''
          unfolding top_color
          turned_along z = let f = find_form ends m n l k in turned c (rw (f.path, f.c, f.d, ne_eqb (length found.path) 0 (λ q. z (count_found ∙ q))) c_is)

-- ---- the step

module _ (n : ℕ) (ends starts entries l T M : List ℕ) (k : ℕ) (R : Ready n ends starts entries l T M k) (u : ℕ) (pu : u ≡ get_or ends (2 * k) 0) where
  node_is : u ≡ first_end ends k
  unfolding first_end
  node_is = pu

  node_inside : u < n
  node_inside = rw node_is (R.admitted.inside k R.edge).0

  pub fan_ready : (near : List ℕ) → near ≡ stretch starts entries u → FanReady ends (edge_count ends) l T M (k + 1) near k u
  unfolding degree
  fan_ready near e =
      let m = edge_count ends in
      let a = R.admitted in
      let row = e ∙ R.rows.row u node_inside in
      record {
        edge = R.edge;
        node = node_is;
        candidates = row;
        few = rw row (omega (arith, degree_below ends m n a.simple a.inside u node_inside, a.nodes));
        size = R.size;
        unmarked = R.unmarked;
        says_free = says_free ends m l T R.tabled;
      }

  pub step_turning : (v : ℕ) (fan : List ℕ) → v ≡ get_or ends (2 * k + 1) 0 → fan ≡ fan_of ends (edge_count ends) l k → length fan ≤ 512 → Turning n ends l T fan k u v
  unfolding second_end
  step_turning v fan pv e h = record { admitted = R.admitted; edge = R.edge; kept = R.kept; tabled = R.tabled; first = node_is; second = pv; fan_of_lem = e; small = h }

pub short_take : (i b : ℕ) (xs : List ℕ) → i ≤ b → length (take i xs) ≤ b
short_take i b xs h = omega (arith, length-take i xs, min-le_left i (length xs))
