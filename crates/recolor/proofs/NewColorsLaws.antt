-- Laws of what specs/NewColors defines.
use Prim.Native.Nat.{ℕ, ◌+◌, ◌-◌, ◌≤◌, ◌<◌}
use mathlib.Core.Path.{◌≡◌, refl, sym, ap, ◌∙◌}
use mathlib.Core.List.{List, [], ◌∷◌}
use native.Mathlib.Omega.{arith}
use lib.ListN.{length, set, take, drop, length-map, length-append, length-drop, drop_of_length-le}
use lib.Seq.{take_all}
use Rattle.edge_table.specs.EdgeTable.{exchanged_colors, rotated_colors}
use Rattle.recolor.specs.Front.{put_front}
use Rattle.recolor.proofs.FrontLaws.{front_short, front_put, put_front_lem, Front, front_start, front_next, front_all}
use Rattle.recolor.specs.NewColors.{shifted_colors}

-- ---- as the code tests and writes them

pub exchanged_short : (l : List ℕ) (c d : ℕ) (ks out : List ℕ) → length out < length ks → out ≡ put_front (exchanged_colors l c d ks) out
exchanged_short l c d ks out h = front_short (exchanged_colors l c d ks) out (simp length-map h)

pub exchanged_end : (l : List ℕ) (c d : ℕ) (ks out₀ out : List ℕ) (i : ℕ) → Front (exchanged_colors l c d ks) out₀ out (exchanged_colors l c d (drop i ks)) i → length ks ≤ length out₀ → length ks ≤ i → out ≡ put_front (exchanged_colors l c d ks) out₀
exchanged_end l c d ks out₀ out i F h b =
    front_put (exchanged_colors l c d ks) out₀ out (simp length-map h) (front_all (exchanged_colors l c d ks) out₀ out i (rw (drop_of_length-le ks {i = i} b) at F)).0

-- What a caller reads.
pub exchanged_front : (l : List ℕ) (c d : ℕ) (ks out₀ out : List ℕ) → out ≡ put_front (exchanged_colors l c d ks) out₀ → length ks ≤ length out₀ → take (length ks) out ≡ exchanged_colors l c d ks
exchanged_front l c d ks out₀ out e h =
    let n : length (exchanged_colors l c d ks) ≡ length ks = simp length-map in
    ap (λ (i : ℕ). take i out) (sym n) ∙ put_front_lem (exchanged_colors l c d ks) out₀ out (omega (arith, n)) e

shifted_length : (l fan : List ℕ) (d : ℕ) → length (shifted_colors l fan d) ≡ length fan
unfolding shifted_colors
shifted_length l [] d = refl
shifted_length l (k ∷ ks) d = simp (length-append, length-map) (omega arith)

shifted_some : (l fan : List ℕ) (d : ℕ) → 1 ≤ length fan → shifted_colors l fan d ≡ rotated_colors l (drop 1 fan) d
unfolding shifted_colors
shifted_some l [] d h = let z : ⊥ = omega arith in absurd z
shifted_some l (k ∷ ks) d h = refl

pub shifted_none : (l fan : List ℕ) (d : ℕ) (out : List ℕ) → length fan ≡ 0 → out ≡ put_front (shifted_colors l fan d) out
unfolding shifted_colors
shifted_none l [] d out h = front_put [] out out (omega arith) refl
shifted_none l (k ∷ ks) d out h = let z : ⊥ = omega arith in absurd z

pub shifted_short : (l fan : List ℕ) (d : ℕ) (out : List ℕ) → length out < length fan → out ≡ put_front (shifted_colors l fan d) out
shifted_short l fan d out h = front_short (shifted_colors l fan d) out (omega (arith, shifted_length l fan d))

-- The places after the first, as the code takes them.
later_places : (fan : List ℕ) → take (length fan - 1) (drop 1 fan) ≡ drop 1 fan
later_places fan = take_all (length fan - 1) (drop 1 fan) (omega (arith, length-drop 1 fan))

module _ (l fan : List ℕ) (d : ℕ) (out₀ : List ℕ) (some : 1 ≤ length fan) (room : length fan ≤ length out₀) where
  abbrev later : List ℕ
  later = take (length fan - 1) (drop 1 fan)

  pub shifted_start : (length later < length out₀) × Front (shifted_colors l fan d) out₀ out₀ (rotated_colors l later d) 0
  shifted_start = rw (later_places fan, ← shifted_some l fan d some) (omega (arith, length-drop 1 fan), front_start (shifted_colors l fan d) out₀ (omega (arith, shifted_length l fan d)))

  pub shifted_end : (out : List ℕ) (i : ℕ) → Front (shifted_colors l fan d) out₀ out (rotated_colors l (drop i later) d) i → i ≡ length later → set out (length later) d ≡ put_front (shifted_colors l fan d) out₀
  shifted_end out i F e =
      let R = shifted_colors l fan d in
      let whole : Front R out₀ out (d ∷ []) i = rw (drop_of_length-le later {i = i} (omega arith)) at F in
      rw (← e) (front_put R out₀ (set out i d) (omega (arith, shifted_length l fan d)) (front_all R out₀ (set out i d) (i + 1) (front_next R out₀ out [] i d whole)).0)

-- What a caller reads.
pub shifted_front : (l fan : List ℕ) (d : ℕ) (out₀ out : List ℕ) → out ≡ put_front (shifted_colors l fan d) out₀ → 1 ≤ length fan → length fan ≤ length out₀ → take (length fan) out ≡ rotated_colors l (drop 1 fan) d
shifted_front l fan d out₀ out e h b =
    let n = shifted_length l fan d in
    ap (λ (i : ℕ). take i out) (sym n) ∙ (put_front_lem (shifted_colors l fan d) out₀ out (omega (arith, n)) e ∙ shifted_some l fan d h)
