-- Files worked out: one match, 0 against 1, with each set of tags, and bytes that are no file.
use Rattle.std.specs.Prelude.{ℕ, ◌≡◌, refl, List, [], ◌∷◌, ◌++◌}
use Rattle.std.proofs.Math.Option.{none, some, bind}
use Rattle.file_layout.specs.Fields.{number16, numbers, bytes16, bytes_of, first_field, fields_up_to, fields, field_bytes, fields_bytes}
use Rattle.file_layout.specs.File.{tag_bit, has_tag, graph_file, with_colors, with_method, is_method, after_colors, is_colors, after_ends, is_ends, after_nodes, is_nodes, number_of, saved_of, file_of, field_if, other_fields, file_fields, file_bytes}

-- "Tag 1, length 2: n. Then tag 2, length 4 times m": n 2, and the ends 0 and 1.
abbrev front : List ℕ
front = 1 ∷ 2 ∷ 0 ∷ 2 ∷ 0 ∷ 2 ∷ 4 ∷ 0 ∷ 0 ∷ 0 ∷ 1 ∷ 0 ∷ []

-- "tag 3, length 2 times m": colour 258, which is 1 times 256 and 2; 65,535 for a match without one.
abbrev colored : List ℕ
colored = 3 ∷ 2 ∷ 0 ∷ 2 ∷ 1 ∷ []

abbrev uncolored : List ℕ
uncolored = 3 ∷ 2 ∷ 0 ∷ 255 ∷ 255 ∷ []

-- "tag 4, length 1": this way.
abbrev way : ℕ → List ℕ
way method = 4 ∷ 1 ∷ 0 ∷ method ∷ []

abbrev match : List ℕ
match = 0 ∷ 1 ∷ []

pub files :
    (file_of front ≡ some (record { nodes = 2; ends = match; colors = []; tags = 3; method = 255 }))
    × (file_of (front ++ colored) ≡ some (record { nodes = 2; ends = match; colors = 258 ∷ []; tags = 7; method = 255 }))
    × (file_of (front ++ uncolored) ≡ some (record { nodes = 2; ends = match; colors = 65535 ∷ []; tags = 7; method = 255 }))
    × (file_of (front ++ colored ++ way 0) ≡ some (record { nodes = 2; ends = match; colors = 258 ∷ []; tags = 15; method = 0 }))
    × (file_of (front ++ colored ++ way 3) ≡ some (record { nodes = 2; ends = match; colors = 258 ∷ []; tags = 15; method = 3 }))
unfolding number16 numbers first_field fields_up_to fields bind tag_bit graph_file with_colors with_method is_method after_colors is_colors after_ends is_ends after_nodes is_nodes number_of saved_of file_of
files = (refl, refl, refl, refl, refl)

-- An empty file; "a tag 4 byte above 3"; "a tag 4 without tag 3"; a field twice; fields out of order; too few colours, too many; a field cut short; a byte behind the last field.
pub no_files :
    (file_of [] ≡ none)
    × (file_of (front ++ colored ++ way 4) ≡ none)
    × (file_of (front ++ way 3) ≡ none)
    × (file_of (front ++ colored ++ colored) ≡ none)
    × (file_of (front ++ colored ++ way 3 ++ way 3) ≡ none)
    × (file_of (front ++ way 3 ++ colored) ≡ none)
    × (file_of (front ++ (3 ∷ 0 ∷ 0 ∷ [])) ≡ none)
    × (file_of (front ++ (3 ∷ 4 ∷ 0 ∷ 2 ∷ 1 ∷ 2 ∷ 1 ∷ [])) ≡ none)
    × (file_of (front ++ (3 ∷ 2 ∷ 0 ∷ 2 ∷ [])) ≡ none)
    × (file_of (front ++ (0 ∷ [])) ≡ none)
unfolding number16 numbers first_field fields_up_to fields bind tag_bit graph_file with_colors with_method is_method after_colors is_colors after_ends is_ends after_nodes is_nodes number_of saved_of file_of
no_files = (refl, refl, refl, refl, refl, refl, refl, refl, refl, refl)

-- The same files as bytes.
pub bytes :
    (file_bytes (record { nodes = 2; ends = match; colors = []; tags = 3; method = 255 }) ≡ front)
    × (file_bytes (record { nodes = 2; ends = match; colors = 258 ∷ []; tags = 7; method = 255 }) ≡ front ++ colored)
    × (file_bytes (record { nodes = 2; ends = match; colors = 258 ∷ []; tags = 15; method = 3 }) ≡ front ++ colored ++ way 3)
unfolding bytes16 bytes_of field_bytes fields_bytes tag_bit has_tag field_if other_fields file_fields file_bytes
bytes = (refl, refl, refl)
