-- Laws of what is put: one for each answer, stated as the code tests.
use Prim.Native.Nat.{ℕ, zero, suc, ◌+◌, ◌-◌, ◌*◌, ◌≤◌, ◌<◌, ◌%◌, ◌/◌}
use mathlib.Core.Path.{◌≡◌, refl, sym, ap, ◌∙◌}
use mathlib.Core.Bool.{Bool, true, false, true≢false}
use mathlib.Core.List.{List, [], ◌∷◌, ◌++◌, append-nil}
use native.Mathlib.Numerals.{add-one}
use native.Mathlib.Omega.{arith}
use lib.ListN.{length, get_or, take, drop, set, length-append}
use borrow.Rule.Slice.PartMut.{put_mid}
use Rattle.std.specs.Int.{w16, to_le_bytes}
use Rattle.lists.proofs.Tests.{by-test}
use Rattle.lists.specs.Parts.{overwrite}
use Rattle.lists.proofs.PartsLaws.{overwrite_append, overwrite_front, copied_room}
use Rattle.file_layout.specs.Fields.{bytes16, bytes_of, field_bytes, fields_bytes}
use Rattle.file_layout.specs.File.{has_tag, field_if, other_fields}
use Rattle.file_layout.proofs.FieldLaws.{length_bytes}

-- ---- bytes in place of a part

overwrite_behind : (l : List ℕ) (at y : ℕ) (s : List ℕ) → overwrite (y ∷ l) (suc at) s ≡ y ∷ overwrite l at s
unfolding overwrite
overwrite_behind l at y [] = refl
overwrite_behind l at y (x ∷ s) = overwrite_behind (set l at x) (suc at) y s

part_put : (l : List ℕ) (at : ℕ) (s : List ℕ) → at + length s ≤ length l → take at l ++ (s ++ drop (length s) (drop at l)) ≡ overwrite l at s
part_put l zero s h = sym (overwrite_front l s ∙ copied_room s l (omega arith))
part_put [] (suc at) s h = let z : ⊥ = omega arith in absurd z
part_put (y ∷ l) (suc at) s h = ap (λ (m : List ℕ). y ∷ m) (part_put l at s (omega arith)) ∙ sym (overwrite_behind l at y s)

pub number_put : (output : List ℕ) (at number : ℕ) (bytes : List ℕ) → at + 2 ≤ length output → number < 65536 → bytes ≡ to_le_bytes w16 number
    → put_mid at (at + 2 - at) output bytes ≡ overwrite output at (bytes16 number)
unfolding bytes16
number_put output at number bytes h k e =
    let n : at + 2 - at ≡ 2 = omega arith in
    let high : number / 256 % 256 ≡ number / 256 = omega arith in
    rw (n, e, high) (part_put output at (number % 256 ∷ number / 256 ∷ []) h)

pub header_put : (output : List ℕ) (at tag size : ℕ) (put : List ℕ) → put ≡ overwrite (set output at tag) (at + 1) (bytes16 size) → put ≡ overwrite output at (tag ∷ bytes16 size)
unfolding overwrite
header_put output at tag size put e = e ∙ ap (λ (i : ℕ). overwrite (set output at tag) i (bytes16 size)) (add-one at)

-- ---- numbers

bytes_next : (xs : List ℕ) (i : ℕ) → i < length xs → bytes_of (take (suc i) xs) ≡ bytes_of (take i xs) ++ bytes16 (get_or xs i 0)
unfolding bytes_of bytes16
bytes_next [] i h = let z : ⊥ = omega arith in absurd z
bytes_next (x ∷ xs) zero h = refl
bytes_next (x ∷ xs) (suc i) h = ap (λ (l : List ℕ). x % 256 ∷ x / 256 ∷ l) (bytes_next xs i (omega arith))

bytes_taken : (xs : List ℕ) (i : ℕ) → i ≤ length xs → length (bytes_of (take i xs)) ≡ 2 * i
unfolding bytes_of bytes16
bytes_taken xs zero h = refl
bytes_taken [] (suc i) h = let z : ⊥ = omega arith in absurd z
bytes_taken (x ∷ xs) (suc i) h = omega (arith, bytes_taken xs i (omega arith))

pub numbers_none : (output : List ℕ) (at : ℕ) (numbers : List ℕ) → output ≡ overwrite output at (bytes_of (take 0 numbers))
unfolding overwrite bytes_of
numbers_none output at numbers = refl

pub numbers_more : (output : List ℕ) (at : ℕ) (numbers : List ℕ) (i : ℕ) (before after : List ℕ) → i < length numbers
    → before ≡ overwrite output at (bytes_of (take i numbers)) → after ≡ overwrite before (at + 2 * i) (bytes16 (get_or numbers i 0))
    → after ≡ overwrite output at (bytes_of (take (i + 1) numbers))
numbers_more output at numbers i before after h p q =
    let front = bytes_of (take i numbers) in let next = bytes16 (get_or numbers i 0) in
    q
    ∙ ap (λ (l : List ℕ). overwrite l (at + 2 * i) next) p
    ∙ ap (λ (k : ℕ). overwrite (overwrite output at front) (at + k) next) (sym (bytes_taken numbers i (omega arith)))
    ∙ sym (overwrite_append output at front next)
    ∙ ap (overwrite output at) (sym (bytes_next numbers i h))
    ∙ ap (λ (k : ℕ). overwrite output at (bytes_of (take k numbers))) (sym (add-one i))

-- ---- fields

pub field_put : (output : List ℕ) (at tag : ℕ) (numbers header put : List ℕ)
    → header ≡ overwrite output at (tag ∷ bytes16 (2 * length numbers)) → put ≡ overwrite header (at + 3) (bytes_of numbers)
    → put ≡ overwrite output at (field_bytes (record { tag = tag; bytes = bytes_of numbers }))
unfolding field_bytes bytes16
field_put output at tag numbers header put p q =
    let bytes = bytes_of numbers in
    q
    ∙ ap (λ (l : List ℕ). overwrite l (at + 3) bytes) (p ∙ ap (λ (k : ℕ). overwrite output at (tag ∷ bytes16 k)) (sym (length_bytes numbers)))
    ∙ sym (overwrite_append output at (tag ∷ bytes16 (length bytes)) bytes)

pub method_put : (output : List ℕ) (at method : ℕ) (header : List ℕ) → header ≡ overwrite output at (4 ∷ bytes16 1)
    → set header (at + 3) method ≡ overwrite output at (field_bytes (record { tag = 4; bytes = method ∷ [] }))
unfolding field_bytes bytes16 overwrite
method_put output at method header p =
    ap (λ (l : List ℕ). overwrite l (at + 3) (method ∷ [])) p ∙ sym (overwrite_append output at (4 ∷ bytes16 1) (method ∷ []))

pub graph_put : (output : List ℕ) (n : ℕ) (ends header nodes put : List ℕ)
    → header ≡ overwrite output 0 (1 ∷ bytes16 2) → nodes ≡ overwrite header 3 (bytes16 n) → put ≡ overwrite nodes 5 (field_bytes (record { tag = 2; bytes = bytes_of ends }))
    → put ≡ overwrite output 0 (field_bytes (record { tag = 1; bytes = bytes16 n }) ++ field_bytes (record { tag = 2; bytes = bytes_of ends }))
unfolding field_bytes bytes16
graph_put output n ends header nodes put p q r =
    let second = field_bytes (record { tag = 2; bytes = bytes_of ends }) in
    r
    ∙ ap (λ (l : List ℕ). overwrite l 5 second)
    (q ∙ ap (λ (l : List ℕ). overwrite l 3 (bytes16 n)) p ∙ sym (overwrite_append output 0 (1 ∷ bytes16 2) (bytes16 n)))
    ∙ sym (overwrite_append output 0 (field_bytes (record { tag = 1; bytes = bytes16 n })) second)

-- ---- the fields that are told

abbrev told_bytes : List ℕ → ℕ → ℕ → List ℕ
told_bytes colors tags method = fields_bytes (other_fields colors tags method)

abbrev colors_field : List ℕ → List ℕ
colors_field colors = field_bytes (record { tag = 3; bytes = bytes_of colors })

abbrev method_field : ℕ → List ℕ
method_field method = field_bytes (record { tag = 4; bytes = method ∷ [] })

-- Neither, the first, both.
told_neither : (colors : List ℕ) (tags method : ℕ) → has_tag 3 tags ≡ false → has_tag 4 tags ≡ false → told_bytes colors tags method ≡ []
unfolding fields_bytes other_fields field_if
told_neither colors tags method p q = rw (p, q)

told_first : (colors : List ℕ) (tags method : ℕ) → has_tag 3 tags ≡ true → has_tag 4 tags ≡ false → told_bytes colors tags method ≡ colors_field colors
unfolding fields_bytes other_fields field_if
told_first colors tags method p q = rw (p, q) (append-nil (colors_field colors))

told_both : (colors : List ℕ) (tags method : ℕ) → has_tag 3 tags ≡ true → has_tag 4 tags ≡ true → told_bytes colors tags method ≡ colors_field colors ++ method_field method
unfolding fields_bytes other_fields field_if
told_both colors tags method p q = rw (p, q) (ap (λ (l : List ℕ). colors_field colors ++ l) (append-nil (method_field method)))

-- Without tag 3 tag 4 is not told either.
not_named : (tags : ℕ) → has_tag 3 tags ≡ false → (has_tag 4 tags ≡ true → has_tag 3 tags ≡ true) → has_tag 4 tags ≡ false
not_named tags e h = by-test (has_tag 4 tags) (λ t. absurd (true≢false (sym (h t) ∙ e))) (λ t. t)

colors_bytes : (colors : List ℕ) → length (colors_field colors) ≡ 3 + 2 * length colors
unfolding field_bytes bytes16
colors_bytes colors = omega (arith, length_bytes colors)

method_bytes : (method : ℕ) → length (method_field method) ≡ 4
unfolding field_bytes bytes16
method_bytes method = refl

module _ (output : List ℕ) (at : ℕ) (colors : List ℕ) (tags method : ℕ) (colored : Bool) (t : colored ≡ has_tag 3 tags) where
  pub told_none : colored ≡ false → (has_tag 4 tags ≡ true → has_tag 3 tags ≡ true) → output ≡ overwrite output at (told_bytes colors tags method)
  unfolding overwrite
  told_none e h =
      let p = sym t ∙ e in
      rw (told_neither colors tags method p (not_named tags p h))

  module _ (e : colored ≡ true) where
    pub colors_room : at + length (told_bytes colors tags method) ≤ length output → at + (3 + 2 * length colors) ≤ length output
    colors_room room = omega (arith, told_most, room, colors_bytes colors)
      where
        told_most : length (colors_field colors) ≤ length (told_bytes colors tags method)
        told_most =
            let p = sym t ∙ e in
            by-test (has_tag 4 tags)
            (λ q. rw (told_both colors tags method p q, length-append (colors_field colors) (method_field method)) (omega arith))
            (λ q. rw (told_first colors tags method p q) (omega arith))

    pub colors_most : (has_tag 3 tags ≡ true → length colors ≤ 8192) → length colors ≤ 8192
    colors_most h = h (sym t ∙ e)

    module _ (named : Bool) (u : named ≡ has_tag 4 tags) where
      pub told_colors : named ≡ false → (put : List ℕ) → put ≡ overwrite output at (colors_field colors) → put ≡ overwrite output at (told_bytes colors tags method)
      told_colors f put p = p ∙ ap (overwrite output at) (sym (told_first colors tags method (sym t ∙ e) (sym u ∙ f)))

      pub method_room : named ≡ true → at + length (told_bytes colors tags method) ≤ length output → at + (3 + 2 * length colors) + 4 ≤ length output
      method_room f room =
          let both = ap length (told_both colors tags method (sym t ∙ e) (sym u ∙ f)) in
          omega (arith, room, both, length-append (colors_field colors) (method_field method), colors_bytes colors, method_bytes method)

      pub told_all : named ≡ true → (first put : List ℕ) → first ≡ overwrite output at (colors_field colors)
          → put ≡ overwrite first (at + (3 + 2 * length colors)) (method_field method) → put ≡ overwrite output at (told_bytes colors tags method)
      told_all f first put p q =
          q
          ∙ ap (λ (l : List ℕ). overwrite l (at + (3 + 2 * length colors)) (method_field method)) p
          ∙ ap (λ (k : ℕ). overwrite (overwrite output at (colors_field colors)) (at + k) (method_field method)) (sym (colors_bytes colors))
          ∙ sym (overwrite_append output at (colors_field colors) (method_field method))
          ∙ ap (overwrite output at) (sym (told_both colors tags method (sym t ∙ e) (sym u ∙ f)))
