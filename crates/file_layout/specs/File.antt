-- What a file says, from its fields and back.
use Rattle.std.specs.Prelude.{ℕ, zero, suc, ◌+◌, ◌*◌, ◌%◌, ◌/◌, ◌≤◌, ◌<◌, ◌≡◌, ◌⊎◌, List, [], ◌∷◌, ◌++◌, Bool, true, not, ◌&&◌, cond, length, get_or, ltb, eqb}
use Rattle.std.proofs.Math.Option.{Option, none, some, bind}
use Rattle.lists.specs.Search.{all_below}
use Rattle.graph.specs.Edges.{edge_count}
use Rattle.file_layout.specs.Fields.{number16, numbers, bytes16, bytes_of, Field, fields, fields_bytes}

-- The node count, the ends, the colours (no numbers where tag 3 does not stand), which tags stood, and the method (`unnamed` where tag 4 does not stand).
pub record File : Type 0 where
  pub nodes : ℕ
  pub ends : List ℕ
  pub colors : List ℕ
  pub tags : ℕ
  pub method : ℕ

-- "A reading also reports which tags stood": bit t - 1 for tag t.
unfoldable pub tag_bit : ℕ → ℕ
tag_bit zero = 0
tag_bit (suc zero) = 1
tag_bit (suc (suc tag)) = 2 * tag_bit (suc tag)

-- Whether the bit of a tag is set.
unfoldable pub has_tag : ℕ → ℕ → Bool
has_tag tag tags = eqb (tags / tag_bit tag % 2) 1

-- The method that is reported where none is named.
abbrev pub unnamed : ℕ
unnamed = 255

-- ---- from the fields

-- A file whose fields say a graph and nothing more.
unfoldable pub graph_file : ℕ → List ℕ → File
graph_file n ends = record { nodes = n; ends = ends; colors = []; tags = tag_bit 1 + tag_bit 2; method = unnamed }

-- The colours, and the method, put beside it.
unfoldable pub with_colors : List ℕ → File → File
with_colors colors file = record { nodes = file.nodes; ends = file.ends; colors = colors; tags = file.tags + tag_bit 3; method = file.method }

unfoldable pub with_method : ℕ → File → File
with_method method file = record { nodes = file.nodes; ends = file.ends; colors = file.colors; tags = file.tags + tag_bit 4; method = method }

-- "tag 4, length 1, how it was coloured: 0 Degree, 1 Saturation, 2 IndependentSet, 3 Misra-Gries"; 10 covers "a tag 4 byte above 3"
unfoldable pub is_method : Field → Bool
is_method field = eqb field.tag 4 && (eqb (length field.bytes) 1 && ltb (get_or field.bytes 0 0) 4)

-- "After that may stand tag 4", and nothing behind it.
unfoldable pub after_colors : File → List Field → Option File
after_colors file [] = some file
after_colors file (field ∷ []) = cond (is_method field) (some (with_method (get_or field.bytes 0 0) file)) none
after_colors file (field ∷ other ∷ others) = none

-- "tag 3, length 2 times m, the colours as u16"
unfoldable pub is_colors : ℕ → Field → Bool
is_colors m field = eqb field.tag 3 && eqb (length field.bytes) (2 * m)

-- "After tag 2 may stand tag 3"; "a tag 4 without tag 3" has no such layout.
unfoldable pub after_ends : File → List Field → Option File
after_ends file [] = some file
after_ends file (field ∷ others) = cond (is_colors (edge_count file.ends) field) (after_colors (with_colors (numbers field.bytes) file) others) none

-- "Then tag 2, length 4 times m"; 10 covers "as before, m above 4,096"
abbrev pub most_edges : ℕ
most_edges = 4096

unfoldable pub is_ends : Field → Bool
is_ends field = eqb field.tag 2 && (eqb (length field.bytes % 4) 0 && not (ltb most_edges (length field.bytes / 4)))

-- "ends as u16"
unfoldable pub after_nodes : ℕ → List Field → Option File
after_nodes nodes [] = none
after_nodes nodes (field ∷ others) = cond (is_ends field) (after_ends (graph_file nodes (numbers field.bytes)) others) none

-- "Tag 1, length 2"
unfoldable pub is_nodes : Field → Bool
is_nodes field = eqb field.tag 1 && eqb (length field.bytes) 2

-- The number in the bytes of a field of length 2.
unfoldable pub number_of : List ℕ → ℕ
number_of bytes = number16 (get_or bytes 0 0) (get_or bytes 1 0)

-- "Tag 1, length 2: n", then the rest.
unfoldable pub saved_of : List Field → Option File
saved_of [] = none
saved_of (field ∷ others) = cond (is_nodes field) (after_nodes (number_of field.bytes) others) none

-- What the bytes say; none where they don't have the layout.
unfoldable pub file_of : List ℕ → Option File
file_of bytes = bind (fields bytes) saved_of

-- ---- to the fields

-- One field where the tag's bit is set.
unfoldable pub field_if : Bool → ℕ → List ℕ → List Field
field_if told tag bytes = cond told (record { tag = tag; bytes = bytes } ∷ []) []

-- "After tag 2 may stand tag 3"; "After that may stand tag 4"
unfoldable pub other_fields : List ℕ → ℕ → ℕ → List Field
other_fields colors tags method = field_if (has_tag 3 tags) 3 (bytes_of colors) ++ field_if (has_tag 4 tags) 4 (method ∷ [])

-- "Tag 1, length 2: n. Then tag 2, length 4 times m: ends as u16."
unfoldable pub file_fields : File → List Field
file_fields file =
    record { tag = 1; bytes = bytes16 file.nodes }
    ∷ record { tag = 2; bytes = bytes_of file.ends }
    ∷ other_fields file.colors file.tags file.method

unfoldable pub file_bytes : File → List ℕ
file_bytes file = fields_bytes (file_fields file)

-- ---- what a file is

-- What may stand after the ends: nothing,
pub record GraphAlone (file : File) : Type 0 where
  pub tags : file.tags ≡ 3
  pub colors : file.colors ≡ []
  pub method : file.method ≡ unnamed

-- the colours, "65,535 for a match without one",
pub record WithColors (file : File) : Type 0 where
  pub tags : file.tags ≡ 7
  pub colors : length file.colors ≡ edge_count file.ends
  pub below : all_below 65536 file.colors ≡ true
  pub method : file.method ≡ unnamed

-- or the colours and the method.
pub record WithMethod (file : File) : Type 0 where
  pub tags : file.tags ≡ 15
  pub colors : length file.colors ≡ edge_count file.ends
  pub below : all_below 65536 file.colors ≡ true
  pub method : file.method ≤ 3

-- What fields can say: numbers of two bytes, two ends for each edge, at most 4,096 edges.
pub record WellFormed (file : File) : Type 0 where
  pub nodes : file.nodes < 65536
  pub below : all_below 65536 file.ends ≡ true
  pub even : length file.ends ≡ 2 * edge_count file.ends
  pub edges : edge_count file.ends ≤ 4096
  pub others : GraphAlone file ⊎ (WithColors file ⊎ WithMethod file)

-- The bytes are those of this file.
pub record LaidOut (bytes : List ℕ) (file : File) : Type 0 where
  pub same : bytes ≡ file_bytes file
  pub formed : WellFormed file
