-- Laws of numbers of two bytes and of fields: each is read back from its bytes, and the bytes from it.
use Prim.Native.Nat.{ℕ, zero, suc, min, ◌+◌, ◌*◌, ◌≤◌, ◌<◌, ◌%◌, ◌/◌}
use mathlib.Core.Path.{◌≡◌, refl, sym, ap, ap₂, ◌∙◌}
use mathlib.Core.Bool.{Bool, true, ◌&&◌}
use mathlib.Core.List.{List, [], ◌∷◌, ◌++◌}
use native.Mathlib.Omega.{arith}
use lib.ListN.{length, get_or, take, drop, set, length-append, take-append-drop}
use lib.Seq.{length-take-le, take-append_seam, drop-append_seam}
use borrow.Author.Tests.{lt-ltb, le-ltb, ltb-false}
use mathlib.Core.Option.{Option, none, some, bind, none-ne-some}
use lib.Dec.{ltb}
use Rattle.lists.proofs.Tests.{true_and, by-test}
use Rattle.lists.specs.Search.{all_below}
use Rattle.lists.specs.Parts.{copied_over}
use Rattle.lists.proofs.PartsLaws.{copied_next, copied_count}
use Rattle.lists.proofs.SearchLaws.{all_below_cons, all_below_append}
use Rattle.file_layout.specs.Fields.{number16, numbers, bytes16, bytes_of, Field, first_field, fields_up_to, fields, field_bytes, fields_bytes}
use Rattle.file_layout.specs.File.{File}

-- ---- laws of numbers of two bytes: each is read back from its bytes, and bytes from their numbers

pub length_numbers : (bytes : List ℕ) → length (numbers bytes) ≡ length bytes / 2
unfolding numbers
length_numbers [] = refl
length_numbers (byte ∷ []) = refl
length_numbers (low ∷ high ∷ rest) = omega (arith, length_numbers rest)

numbers_at : (bytes : List ℕ) (i : ℕ) → 2 * i + 1 < length bytes → get_or (numbers bytes) i 0 ≡ number16 (get_or bytes (2 * i) 0) (get_or bytes (2 * i + 1) 0)
unfolding numbers
numbers_at [] i h = let z : ⊥ = omega arith in absurd z
numbers_at (byte ∷ []) i h = let z : ⊥ = omega arith in absurd z
numbers_at (low ∷ high ∷ rest) zero h = refl
numbers_at (low ∷ high ∷ rest) (suc i) h =
    let p : 2 * suc i ≡ suc (suc (2 * i)) = omega arith in
    let q : 2 * suc i + 1 ≡ suc (suc (2 * i + 1)) = omega arith in
    rw (q, p) (numbers_at rest i (omega arith))

pub length_bytes : (xs : List ℕ) → length (bytes_of xs) ≡ 2 * length xs
unfolding bytes_of bytes16
length_bytes [] = refl
length_bytes (x ∷ xs) = omega (arith, length_bytes xs)

pub number_of_bytes : (x : ℕ) → number16 (x % 256) (x / 256) ≡ x
unfolding number16
number_of_bytes x = omega arith

pub numbers_of_bytes : (xs : List ℕ) → numbers (bytes_of xs) ≡ xs
unfolding bytes_of bytes16 numbers
numbers_of_bytes [] = refl
numbers_of_bytes (x ∷ xs) = ap₂ (λ (a : ℕ) (l : List ℕ). a ∷ l) (number_of_bytes x) (numbers_of_bytes xs)

pub bytes_of_number : (low high : ℕ) → low < 256 → bytes16 (number16 low high) ≡ low ∷ high ∷ []
unfolding bytes16 number16
bytes_of_number low high h =
    let p : (low + 256 * high) % 256 ≡ low = omega arith in
    let q : (low + 256 * high) / 256 ≡ high = omega arith in
    rw (p, q)

pub number_below : (low high : ℕ) → low < 256 → high < 256 → number16 low high < 65536
unfolding number16
number_below low high p q = omega arith

-- Bytes in pairs are those of their numbers, which two bytes can hold.
pub bytes_of_numbers : (bytes : List ℕ) → length bytes % 2 ≡ 0 → all_below 256 bytes ≡ true → (bytes_of (numbers bytes) ≡ bytes) × (all_below 65536 (numbers bytes) ≡ true)
unfolding bytes_of numbers all_below
bytes_of_numbers [] h e = (refl, refl)
bytes_of_numbers (byte ∷ []) h e = let z : ⊥ = omega arith in absurd z
bytes_of_numbers (low ∷ high ∷ rest) h e =
    let r = all_below_cons 256 low (high ∷ rest) e in
    let s = all_below_cons 256 high rest r.1 in
    let t = bytes_of_numbers rest (omega arith) s.1 in
    (ap₂ ◌++◌ (bytes_of_number low high r.0) t.0, true_and _ _ (lt-ltb (number16 low high) 65536 (number_below low high r.0 s.0)) t.1)

-- ---- a copy number by number

module _ (bytes lent list : List ℕ) (i : ℕ) (e : list ≡ take i (numbers bytes) ++ drop i lent) where
  pub number_copied : (x : ℕ) → i < length bytes / 2 → i < length lent → x ≡ number16 (get_or bytes (2 * i) 0) (get_or bytes (2 * i + 1) 0)
      → set list i x ≡ take (i + 1) (numbers bytes) ++ drop (i + 1) lent
  number_copied x h k v =
      let n = length_numbers bytes in
      ap (set list i) (v ∙ sym (numbers_at bytes i (omega arith))) ∙ copied_next (numbers bytes) lent list i e (omega arith) k

  pub numbers_end : i ≡ min (length bytes / 2) (length lent) → list ≡ copied_over (numbers bytes) lent
  numbers_end h = e ∙ copied_count (numbers bytes) lent (take i (numbers bytes)) i (let n = length_numbers bytes in omega arith) refl

-- ---- laws of fields: where one stands in the bytes, and what follows from the first one

pub first_truncated : (tag low high : ℕ) (rest : List ℕ) → length rest < number16 low high → first_field (tag ∷ low ∷ high ∷ rest) ≡ none
unfolding first_field
first_truncated tag low high rest h = simp (lt-ltb _ _ h)

pub first_whole : (tag low high : ℕ) (rest : List ℕ) → number16 low high ≤ length rest
    → first_field (tag ∷ low ∷ high ∷ rest) ≡ some (record { tag = tag; bytes = take (number16 low high) rest }, drop (number16 low high) rest)
unfolding first_field
first_whole tag low high rest h = simp (le-ltb _ _ h)

pub header_short : (bytes : List ℕ) → length bytes < 3 → first_field bytes ≡ none
unfolding first_field
header_short [] h = refl
header_short (a ∷ []) h = refl
header_short (a ∷ b ∷ []) h = refl
header_short (a ∷ b ∷ d ∷ rest) h = let z : ⊥ = omega arith in absurd z

-- The first field with its header, as the bytes have them.
pub record Shape (bytes : List ℕ) (field : Field) (rest : List ℕ) : Type 0 where
  pub low : ℕ
  pub high : ℕ
  pub size : number16 low high ≡ length field.bytes
  pub same : bytes ≡ field.tag ∷ low ∷ high ∷ (field.bytes ++ rest)

abbrev Found : Type 0
Found = Field × List ℕ

field_shape : (bytes : List ℕ) (field : Field) (rest : List ℕ) → first_field bytes ≡ some (field, rest) → Shape bytes field rest
unfolding first_field
field_shape [] field rest e = absurd (none-ne-some _ e)
field_shape (a ∷ []) field rest e = absurd (none-ne-some _ e)
field_shape (a ∷ b ∷ []) field rest e = absurd (none-ne-some _ e)
field_shape (tag ∷ low ∷ high ∷ others) field rest e =
    by-test (ltb (length others) (number16 low high))
    (λ t. absurd (none-ne-some {A = Found} (field, rest) (simp t at e)))
    (λ t.
    let h = ltb-false _ _ t in
    let n = number16 low high in
    let found : Found = (record { tag = tag; bytes = take n others }, drop n others) in
    let there : Found = (field, rest) in
    let p : found ≡ there = cc (simp t at e) in
    let f = ap (λ (x : Found). x.0) p in
    let r = ap (λ (x : Found). x.1) p in
    record {
      low = low;
      high = high;
      size = sym (length-take-le n others h) ∙ ap (λ (x : Field). length x.bytes) f;
      same = ap (λ (l : List ℕ). tag ∷ low ∷ high ∷ l) (sym (take-append-drop n others)) ∙ ap₂ (λ (x : Field) (l : List ℕ). x.tag ∷ low ∷ high ∷ (x.bytes ++ l)) f r;
    })

rest_shorter : (bytes : List ℕ) (field : Field) (rest : List ℕ) → first_field bytes ≡ some (field, rest) → length rest < length bytes
rest_shorter bytes field rest e = let s = field_shape bytes field rest e in omega (arith, ap length s.same, length-append field.bytes rest)

-- As many fields as bytes are enough.
same_fields : (k j : ℕ) (bytes : List ℕ) → length bytes ≤ k → length bytes ≤ j → fields_up_to k bytes ≡ fields_up_to j bytes
unfolding fields_up_to bind
same_fields zero zero bytes h i = refl
same_fields zero (suc j) [] h i = refl
same_fields zero (suc j) (b ∷ bytes) h i = let z : ⊥ = omega arith in absurd z
same_fields (suc k) zero [] h i = refl
same_fields (suc k) zero (b ∷ bytes) h i = let z : ⊥ = omega arith in absurd z
same_fields (suc k) (suc j) [] h i = refl
same_fields (suc k) (suc j) (b ∷ bytes) h i = go (same_fields k j) (first_field (b ∷ bytes)) refl
  where
    go : ((l : List ℕ) → length l ≤ k → length l ≤ j → fields_up_to k l ≡ fields_up_to j l) → (o : Option Found) → first_field (b ∷ bytes) ≡ o
        → bind o (λ (found : Found). bind (fields_up_to k found.1) (λ (fs : List Field). some (found.0 ∷ fs))) ≡ bind o (λ (found : Found). bind (fields_up_to j found.1) (λ (fs : List Field). some (found.0 ∷ fs)))
    go ih none e = refl
    go ih (some (field, rest)) e = let s = rest_shorter (b ∷ bytes) field rest e in rw (ih rest (omega arith) (omega arith))

fields_next : (bytes : List ℕ) (field : Field) (rest : List ℕ) → first_field bytes ≡ some (field, rest) → fields bytes ≡ bind (fields rest) (λ (fs : List Field). some (field ∷ fs))
unfolding fields fields_up_to first_field bind
fields_next [] field rest e = absurd (none-ne-some _ e)
fields_next (b ∷ bytes) field rest e =
    let s = rest_shorter (b ∷ bytes) field rest e in
    rw (e, same_fields (length bytes) (length rest) rest (omega arith) (omega arith))

-- What is made of the fields, through the first one.
pub fields_then : (bytes : List ℕ) (field : Field) (rest : List ℕ) (made : List Field → Option File) → first_field bytes ≡ some (field, rest)
    → bind (fields bytes) made ≡ bind (fields rest) (λ (fs : List Field). made (field ∷ fs))
unfolding bind
fields_then bytes field rest made e = ap (λ (o : Option (List Field)). bind o made) (fields_next bytes field rest e) ∙ again (fields rest)
  where
    again : (o : Option (List Field)) → bind (bind o (λ (fs : List Field). some (field ∷ fs))) made ≡ bind o (λ (fs : List Field). made (field ∷ fs))
    again none = refl
    again (some fs) = refl

pub fields_truncated : (bytes : List ℕ) (made : List Field → Option File) → first_field bytes ≡ none → made [] ≡ none → bind (fields bytes) made ≡ none
unfolding fields fields_up_to bind
fields_truncated [] made e h = h
fields_truncated (b ∷ bytes) made e h = rw e

pub none_then : (o : Option (List Field)) (made : List Field → Option File) → ((fs : List Field) → made fs ≡ none) → bind o made ≡ none
unfolding bind
none_then none made h = refl
none_then (some fs) made h = h fs

-- No bytes have no fields; other bytes have a first one, or none are found.
pub fields_end : (bytes : List ℕ) (made : List Field → Option File) → length bytes ≡ 0 → bind (fields bytes) made ≡ made []
unfolding fields fields_up_to bind
fields_end [] made h = refl
fields_end (b ∷ bytes) made h = let z : ⊥ = omega arith in absurd z

pub fields_more : (bytes : List ℕ) (made : List Field → Option File) → 0 < length bytes → ((field : Field) (fs : List Field) → made (field ∷ fs) ≡ none) → bind (fields bytes) made ≡ none
unfolding fields fields_up_to bind
fields_more [] made h k = let z : ⊥ = omega arith in absurd z
fields_more (b ∷ bytes) made h k = go (first_field (b ∷ bytes))
  where
    go : (o : Option Found) → bind (bind o (λ (found : Found). bind (fields_up_to (length bytes) found.1) (λ (fs : List Field). some (found.0 ∷ fs)))) made ≡ none
    go none = refl
    go (some (field, rest)) = last (fields_up_to (length bytes) rest)
      where
        last : (o : Option (List Field)) → bind (bind o (λ (fs : List Field). some (field ∷ fs))) made ≡ none
        last none = refl
        last (some fs) = k field fs

-- Where bytes are left, one of them starts a field that is whole, or none are found.
pub fields_cut : (bytes : List ℕ) (made : List Field → Option File) → first_field bytes ≡ none → 0 < length bytes → bind (fields bytes) made ≡ none
unfolding fields fields_up_to bind
fields_cut [] made e h = let z : ⊥ = omega arith in absurd z
fields_cut (b ∷ bytes) made e h = rw e

-- ---- fields that are joined are found again

first_joined : (field : Field) (rest : List ℕ) → first_field (field_bytes field ++ rest) ≡ some (field, rest)
unfolding field_bytes bytes16
first_joined field rest =
    let n = number_of_bytes (length field.bytes) in
    first_whole field.tag (length field.bytes % 256) (length field.bytes / 256) (field.bytes ++ rest) (omega (arith, n, length-append field.bytes rest))
    ∙ rw (n, take-append_seam field.bytes rest, drop-append_seam field.bytes rest)

pub fields_joined : (fs : List Field) → fields (fields_bytes fs) ≡ some fs
unfolding fields_bytes fields fields_up_to bind
fields_joined [] = refl
fields_joined (field ∷ fs) = fields_next (field_bytes field ++ fields_bytes fs) field (fields_bytes fs) (first_joined field (fields_bytes fs)) ∙ rw (fields_joined fs)

-- ---- fields that are found join to the bytes

-- Whether every byte of every field is below 256.
unfoldable pub fields_below : List Field → Bool
fields_below [] = true
fields_below (field ∷ fs) = all_below 256 field.bytes && fields_below fs

-- The first field's bytes stand in front.
field_bytes_lem : (bytes : List ℕ) (field : Field) (rest : List ℕ) → first_field bytes ≡ some (field, rest) → all_below 256 bytes ≡ true
    → (bytes ≡ field_bytes field ++ rest) × (all_below 256 field.bytes ≡ true) × (all_below 256 rest ≡ true)
unfolding field_bytes
field_bytes_lem bytes field rest e b =
    let s = field_shape bytes field rest e in
    let r = all_below_cons 256 field.tag (s.low ∷ s.high ∷ (field.bytes ++ rest)) (ap (all_below 256) (sym s.same) ∙ b) in
    let l = all_below_cons 256 s.low (s.high ∷ (field.bytes ++ rest)) r.1 in
    let h = all_below_cons 256 s.high (field.bytes ++ rest) l.1 in
    let a = all_below_append 256 field.bytes rest h.1 in
    (s.same ∙ ap (λ (x : List ℕ). field.tag ∷ ((x ++ field.bytes) ++ rest)) (sym (ap bytes16 (sym s.size) ∙ bytes_of_number s.low s.high l.0)), a.0, a.1)

no_fields : (bytes : List ℕ) → fields bytes ≡ some [] → bytes ≡ []
unfolding fields fields_up_to bind
no_fields [] e = refl
no_fields (b ∷ bytes) e = go (first_field (b ∷ bytes)) e
  where
    go : (o : Option Found) → bind o (λ (found : Found). bind (fields_up_to (length bytes) found.1) (λ (fs : List Field). some (found.0 ∷ fs))) ≡ some [] → b ∷ bytes ≡ []
    go none q = absurd (none-ne-some _ q)
    go (some (field, rest)) q = last (fields_up_to (length bytes) rest) q
      where
        last : (o : Option (List Field)) → bind o (λ (fs : List Field). some (field ∷ fs)) ≡ some [] → b ∷ bytes ≡ []
        last none q = absurd (none-ne-some _ q)
        last (some fs) q = let z : ◌≡◌ {A = ℕ} 0 1 = cc in absurd (omega arith)

-- The first of the fields that are found, and the rest of them.
pub record FirstFound (bytes : List ℕ) (field : Field) (fs : List Field) : Type 0 where
  pub rest : List ℕ
  pub first : first_field bytes ≡ some (field, rest)
  pub others : fields rest ≡ some fs

first_found : (bytes : List ℕ) (field : Field) (fs : List Field) → fields bytes ≡ some (field ∷ fs) → FirstFound bytes field fs
unfolding fields fields_up_to bind
first_found [] field fs e = let z : ◌≡◌ {A = ℕ} 0 1 = cc in absurd (omega arith)
first_found (b ∷ bytes) field fs e = go (first_field (b ∷ bytes)) refl
  where
    go : (o : Option Found) → first_field (b ∷ bytes) ≡ o → FirstFound (b ∷ bytes) field fs
    go none q = absurd (none-ne-some (field ∷ fs) (sym (rw q) ∙ e))
    go (some (found, rest)) q = last (fields rest) refl (sym (fields_next (b ∷ bytes) found rest q) ∙ e)
      where
        last : (o : Option (List Field)) → fields rest ≡ o → bind (fields rest) (λ (gs : List Field). some (found ∷ gs)) ≡ some (field ∷ fs) → FirstFound (b ∷ bytes) field fs
        last none s t = absurd (none-ne-some (field ∷ fs) (rw s at t))
        last (some gs) s t =
            let u : some (found ∷ gs) ≡ some (field ∷ fs) = rw s at t in
            let f : found ≡ field = cc in
            let g : gs ≡ fs = cc in
            record { rest = rest; first = q ∙ ap (λ (x : Field). some (x, rest)) f; others = s ∙ ap some g }

pub joined_again : (fs : List Field) (bytes : List ℕ) → all_below 256 bytes ≡ true → fields bytes ≡ some fs → (bytes ≡ fields_bytes fs) × (fields_below fs ≡ true)
unfolding fields_bytes fields_below
joined_again [] bytes b e = (no_fields bytes e, refl)
joined_again (field ∷ fs) bytes b e =
    let u = first_found bytes field fs e in
    let x = field_bytes_lem bytes field u.rest u.first b in
    let y = joined_again fs u.rest x.2 u.others in
    (x.0 ∙ ap (λ (l : List ℕ). field_bytes field ++ l) y.0, true_and (all_below 256 field.bytes) (fields_below fs) x.1 y.1)
