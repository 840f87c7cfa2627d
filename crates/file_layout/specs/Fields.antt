-- Fields, and numbers of two bytes.
use Rattle.std.specs.Prelude.{ℕ, zero, suc, ◌+◌, ◌*◌, ◌%◌, ◌/◌, List, [], ◌∷◌, ◌++◌, cond, length, take, drop, ltb}
use Rattle.std.proofs.Math.Option.{Option, none, some, bind}

-- "numbers low byte first"
unfoldable pub number16 : ℕ → ℕ → ℕ
number16 low high = low + 256 * high

-- Two bytes at a time.
unfoldable pub numbers : List ℕ → List ℕ
numbers [] = []
numbers (byte ∷ []) = []
numbers (low ∷ high ∷ rest) = number16 low high ∷ numbers rest

-- The other way: the bytes of a number, and of several.
unfoldable pub bytes16 : ℕ → List ℕ
bytes16 x = x % 256 ∷ x / 256 ∷ []

unfoldable pub bytes_of : List ℕ → List ℕ
bytes_of [] = []
bytes_of (x ∷ xs) = bytes16 x ++ bytes_of xs

pub record Field : Type 0 where
  pub tag : ℕ
  pub bytes : List ℕ

-- "fields of a one-byte tag, a two-byte length, then that many bytes": the first one and what is behind it; none where the bytes end inside it.
unfoldable pub first_field : List ℕ → Option (Field × List ℕ)
first_field [] = none
first_field (tag ∷ []) = none
first_field (tag ∷ low ∷ []) = none
first_field (tag ∷ low ∷ high ∷ rest) =
    cond (ltb (length rest) (number16 low high)) none (some (record { tag = tag; bytes = take (number16 low high) rest }, drop (number16 low high) rest))

-- One field after another to the end of the bytes, at most this many; none where the bytes end inside one.
unfoldable pub fields_up_to : ℕ → List ℕ → Option (List Field)
fields_up_to zero [] = some []
fields_up_to zero (byte ∷ bytes) = none
fields_up_to (suc most) [] = some []
fields_up_to (suc most) (byte ∷ bytes) =
    bind (first_field (byte ∷ bytes)) (λ (found : Field × List ℕ). bind (fields_up_to most found.1) (λ (others : List Field). some (found.0 ∷ others)))

-- All fields: there are no more than bytes.
unfoldable pub fields : List ℕ → Option (List Field)
fields bytes = fields_up_to (length bytes) bytes

-- The other way: the bytes of a field, and of several.
unfoldable pub field_bytes : Field → List ℕ
field_bytes field = field.tag ∷ (bytes16 (length field.bytes) ++ field.bytes)

unfoldable pub fields_bytes : List Field → List ℕ
fields_bytes [] = []
fields_bytes (field ∷ others) = field_bytes field ++ fields_bytes others
