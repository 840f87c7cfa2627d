-- Laws of files: what is laid out is read back, and what is read is laid out.
use Prim.Native.Nat.{ℕ, ◌+◌, ◌*◌, ◌≤◌, ◌<◌, ◌%◌, ◌/◌}
use mathlib.Core.Path.{◌≡◌, refl, sym, ap, ap₂, ◌∙◌}
use mathlib.Core.Logic.{◌⊎◌, inl, inr}
use mathlib.Core.Bool.{Bool, true, false, cond}
use mathlib.Core.List.{List, [], ◌∷◌, ◌++◌}
use mathlib.Core.Option.{Option, none, some, bind, none-ne-some}
use native.Mathlib.Omega.{arith}
use lib.ListN.{length, get_or, take, drop, length-append, length-drop}
use lib.Seq.{take-append_seam, drop-append_seam, drop-drop}
use lib.Dec.{ltb, eqb}
use borrow.Author.Tests.{lt-ltb, le-ltb, eq-eqb, eqb-true, ltb-true, ltb-false, not-true}
use Rattle.lists.proofs.Tests.{and_true}
use Rattle.lists.specs.Search.{all_below}
use Rattle.lists.proofs.SearchLaws.{all_below_cons}
use Rattle.graph.specs.Edges.{edge_count}
use Rattle.file_layout.specs.Fields.{numbers, bytes16, bytes_of, Field, fields, field_bytes, fields_bytes}
use Rattle.file_layout.specs.File.{File, tag_bit, has_tag, graph_file, with_colors, with_method, is_method, after_colors, is_colors, after_ends, most_edges, is_ends, after_nodes, is_nodes, number_of, saved_of, file_of, field_if, other_fields, file_fields, file_bytes, GraphAlone, WithColors, WithMethod, WellFormed, LaidOut}
use Rattle.file_layout.proofs.FieldLaws.{length_numbers, length_bytes, number_of_bytes, numbers_of_bytes, bytes_of_number, bytes_of_numbers, number_below, fields_joined, fields_below, joined_again}

-- A file is made of its parts.
pub file_of_parts : (file : File) (n : ℕ) (ends colors : List ℕ) (tags method : ℕ) → file.nodes ≡ n → file.ends ≡ ends → file.colors ≡ colors → file.tags ≡ tags → file.method ≡ method
    → record { nodes = n; ends = ends; colors = colors; tags = tags; method = method } ≡ file
file_of_parts file n ends colors tags method p q r s t = rw (sym p, sym q, sym r, sym s, sym t)

-- ---- what is laid out is read back

read_nodes : (n : ℕ) (fs : List Field) → saved_of (record { tag = 1; bytes = bytes16 n } ∷ fs) ≡ after_nodes n fs
unfolding saved_of is_nodes number_of bytes16
read_nodes n fs = ap (λ (x : ℕ). after_nodes x fs) (number_of_bytes n)

read_ends : (n : ℕ) (ends : List ℕ) (fs : List Field) → length ends ≡ 2 * edge_count ends → edge_count ends ≤ 4096
    → after_nodes n (record { tag = 2; bytes = bytes_of ends } ∷ fs) ≡ after_ends (graph_file n ends) fs
unfolding after_nodes is_ends
read_ends n ends fs e h =
    let b = length_bytes ends in
    let four : length (bytes_of ends) % 4 ≡ 0 = omega (arith, b) in
    let most : length (bytes_of ends) / 4 ≤ most_edges = omega (arith, b) in
    simp (eq-eqb (length (bytes_of ends) % 4) 0 four, le-ltb most_edges (length (bytes_of ends) / 4) most, numbers_of_bytes ends)

read_colors : (file : File) (colors : List ℕ) (fs : List Field) → length colors ≡ edge_count file.ends
    → after_ends file (record { tag = 3; bytes = bytes_of colors } ∷ fs) ≡ after_colors (with_colors colors file) fs
unfolding after_ends is_colors
read_colors file colors fs e =
    let b : length (bytes_of colors) ≡ 2 * edge_count file.ends = omega (arith, length_bytes colors) in
    simp (eq-eqb (length (bytes_of colors)) (2 * edge_count file.ends) b, numbers_of_bytes colors)

read_method : (file : File) (method : ℕ) → method ≤ 3 → after_colors file (record { tag = 4; bytes = method ∷ [] } ∷ []) ≡ some (with_method method file)
unfolding after_colors is_method
read_method file method h = let b : method < 4 = omega arith in simp (lt-ltb method 4 b)

-- The optional fields of each kind of file.
abbrev others : File → List Field
others file = other_fields file.colors file.tags file.method

graph_others : (file : File) → GraphAlone file → others file ≡ []
unfolding other_fields field_if has_tag tag_bit
graph_others file a = simp a.tags

colors_others : (file : File) → WithColors file → others file ≡ record { tag = 3; bytes = bytes_of file.colors } ∷ []
unfolding other_fields field_if has_tag tag_bit
colors_others file a = simp a.tags

method_others : (file : File) → WithMethod file → others file ≡ record { tag = 3; bytes = bytes_of file.colors } ∷ record { tag = 4; bytes = file.method ∷ [] } ∷ []
unfolding other_fields field_if has_tag tag_bit
method_others file a = simp a.tags

front_read : (file : File) → WellFormed file → saved_of (file_fields file) ≡ after_ends (graph_file file.nodes file.ends) (others file)
unfolding file_fields
front_read file w = read_nodes file.nodes _ ∙ read_ends file.nodes file.ends (others file) w.even w.edges

read_fields : (file : File) → WellFormed file → saved_of (file_fields file) ≡ some file
unfolding after_ends after_colors graph_file with_colors with_method tag_bit
read_fields file w =
    let graph = graph_file file.nodes file.ends in
    front_read file w ∙ elim w.others [
      | inl a ↦ ap (after_ends graph) (graph_others file a) ∙ ap some (file_of_parts file _ _ _ _ _ refl refl a.colors a.tags a.method)
      | inr (inl a) ↦
          ap (after_ends graph) (colors_others file a)
          ∙ read_colors graph file.colors [] a.colors
          ∙ ap some (file_of_parts file _ _ _ _ _ refl refl refl a.tags a.method)
      | inr (inr a) ↦
          ap (after_ends graph) (method_others file a)
          ∙ read_colors graph file.colors (record { tag = 4; bytes = file.method ∷ [] } ∷ []) a.colors
          ∙ read_method (with_colors file.colors graph) file.method a.method
          ∙ ap some (file_of_parts file _ _ _ _ _ refl refl refl a.tags refl)
    ]

pub read_bytes : (file : File) → WellFormed file → file_of (file_bytes file) ≡ some file
unfolding file_of file_bytes bind
read_bytes file w = rw (fields_joined (file_fields file)) (read_fields file w)

pub read_laid : (bytes : List ℕ) (file : File) → LaidOut bytes file → file_of bytes ≡ some file
read_laid bytes file l = ap file_of l.same ∙ read_bytes file l.formed

-- ---- what is read is laid out

-- A test in front that leaves something held.
held : (b : Bool) (o : Option File) (file : File) → cond b o none ≡ some file → (b ≡ true) × (o ≡ some file)
held true o file e = (refl, e)
held false o file e = absurd (none-ne-some file e)

field_of_parts : (field : Field) (tag : ℕ) (bytes : List ℕ) → field.tag ≡ tag → field.bytes ≡ bytes → field ≡ record { tag = tag; bytes = bytes }
field_of_parts field tag bytes p q = rw (sym p, sym q)

-- Two bytes are those of their number, which is below 65,536.
two_bytes : (bytes : List ℕ) → length bytes ≡ 2 → all_below 256 bytes ≡ true → (bytes16 (number_of bytes) ≡ bytes) × (number_of bytes < 65536)
unfolding number_of
two_bytes [] h b = let z : ⊥ = omega arith in absurd z
two_bytes (low ∷ []) h b = let z : ⊥ = omega arith in absurd z
two_bytes (low ∷ high ∷ []) h b =
    let r = all_below_cons 256 low (high ∷ []) b in
    (bytes_of_number low high r.0, number_below low high r.0 (all_below_cons 256 high [] r.1).0)
two_bytes (low ∷ high ∷ more ∷ rest) h b = let z : ⊥ = omega arith in absurd z

one_byte : (bytes : List ℕ) → length bytes ≡ 1 → get_or bytes 0 0 ∷ [] ≡ bytes
one_byte [] h = let z : ⊥ = omega arith in absurd z
one_byte (b ∷ []) h = refl
one_byte (a ∷ b ∷ rest) h = let z : ⊥ = omega arith in absurd z

-- The field of the node count,
nodes_field : (field : Field) → is_nodes field ≡ true → all_below 256 field.bytes ≡ true → (field ≡ record { tag = 1; bytes = bytes16 (number_of field.bytes) }) × (number_of field.bytes < 65536)
unfolding is_nodes
nodes_field field t b =
    let r = and_true (eqb field.tag 1) _ t in
    let two = two_bytes field.bytes (eqb-true (length field.bytes) 2 r.1) b in
    (field_of_parts field 1 _ (eqb-true field.tag 1 r.0) (sym two.0), two.1)

-- of the ends,
pub record EndsField (field : Field) : Type 0 where
  pub same : field ≡ record { tag = 2; bytes = bytes_of (numbers field.bytes) }
  pub below : all_below 65536 (numbers field.bytes) ≡ true
  pub even : length (numbers field.bytes) ≡ 2 * edge_count (numbers field.bytes)
  pub edges : edge_count (numbers field.bytes) ≤ 4096

ends_field : (field : Field) → is_ends field ≡ true → all_below 256 field.bytes ≡ true → EndsField field
unfolding is_ends
ends_field field t b =
    let r = and_true (eqb field.tag 2) _ t in
    let s = and_true (eqb (length field.bytes % 4) 0) _ r.1 in
    let four = eqb-true (length field.bytes % 4) 0 s.0 in
    let most = ltb-false most_edges (length field.bytes / 4) (not-true (ltb most_edges (length field.bytes / 4)) s.1) in
    let ns = bytes_of_numbers field.bytes (omega arith) b in
    let l = length_numbers field.bytes in
    record { same = field_of_parts field 2 _ (eqb-true field.tag 2 r.0) (sym ns.0); below = ns.1; even = omega (arith, l); edges = omega (arith, l) }

-- of the colours,
pub record ColorsField (m : ℕ) (field : Field) : Type 0 where
  pub same : field ≡ record { tag = 3; bytes = bytes_of (numbers field.bytes) }
  pub below : all_below 65536 (numbers field.bytes) ≡ true
  pub size : length (numbers field.bytes) ≡ m

colors_field_lem : (m : ℕ) (field : Field) → is_colors m field ≡ true → all_below 256 field.bytes ≡ true → ColorsField m field
unfolding is_colors
colors_field_lem m field t b =
    let r = and_true (eqb field.tag 3) _ t in
    let size = eqb-true (length field.bytes) (2 * m) r.1 in
    let ns = bytes_of_numbers field.bytes (omega arith) b in
    record { same = field_of_parts field 3 _ (eqb-true field.tag 3 r.0) (sym ns.0); below = ns.1; size = omega (arith, length_numbers field.bytes) }

-- and of the method.
method_field_lem : (field : Field) → is_method field ≡ true → (field ≡ record { tag = 4; bytes = get_or field.bytes 0 0 ∷ [] }) × (get_or field.bytes 0 0 ≤ 3)
unfolding is_method
method_field_lem field t =
    let r = and_true (eqb field.tag 4) _ t in
    let s = and_true (eqb (length field.bytes) 1) _ r.1 in
    let b = ltb-true (get_or field.bytes 0 0) 4 s.1 in
    (field_of_parts field 4 _ (eqb-true field.tag 4 r.0) (sym (one_byte field.bytes (eqb-true (length field.bytes) 1 s.0))), omega arith)

-- The fields that say a file are its fields.
abbrev Says : List Field → File → Type 0
Says fs file = (fs ≡ file_fields file) × WellFormed file

first_below : (field : Field) (fs : List Field) → fields_below (field ∷ fs) ≡ true → (all_below 256 field.bytes ≡ true) × (fields_below fs ≡ true)
unfolding fields_below
first_below field fs e = and_true (all_below 256 field.bytes) (fields_below fs) e

module _ (n : ℕ) (below : n < 65536) (second : Field) (e : EndsField second) where
  abbrev graph : File
  graph = graph_file n (numbers second.bytes)

  abbrev front : List Field → List Field
  front fs = record { tag = 1; bytes = bytes16 n } ∷ second ∷ fs

  formed : (file : File) → file.nodes ≡ n → file.ends ≡ numbers second.bytes → GraphAlone file ⊎ (WithColors file ⊎ WithMethod file) → WellFormed file
  formed file p q o = record {
    nodes = rw p below;
    below = rw q e.below;
    even = rw q e.even;
    edges = rw q e.edges;
    others = o;
  }

  says_graph : Says (front []) graph
  unfolding graph_file file_fields other_fields field_if has_tag tag_bit
  says_graph = (ap (λ (f : Field). front_of f) e.same, formed graph refl refl (inl (record { tags = refl; colors = refl; method = refl })))
    where
      front_of : Field → List Field
      front_of f = record { tag = 1; bytes = bytes16 n } ∷ f ∷ []

  module _ (third : Field) (d : ColorsField (edge_count (numbers second.bytes)) third) where
    abbrev colored : File
    colored = with_colors (numbers third.bytes) graph

    says_colored : Says (front (third ∷ [])) colored
    unfolding graph_file with_colors file_fields other_fields field_if has_tag tag_bit
    says_colored = (
      ap₂ (λ (f g : Field). record { tag = 1; bytes = bytes16 n } ∷ f ∷ g ∷ []) e.same d.same,
      formed colored refl refl (inr (inl (record { tags = refl; colors = d.size; below = d.below; method = refl }))),
    )

    says_method : (fourth : Field) → is_method fourth ≡ true → Says (front (third ∷ fourth ∷ [])) (with_method (get_or fourth.bytes 0 0) colored)
    unfolding graph_file with_colors with_method file_fields other_fields field_if has_tag tag_bit
    says_method fourth t =
        let m = method_field_lem fourth t in (
          ap₂ (λ (f g : Field). record { tag = 1; bytes = bytes16 n } ∷ f ∷ g ∷ fourth ∷ []) e.same d.same
              ∙ ap (λ (f : Field). record { tag = 1; bytes = bytes16 n } ∷ record { tag = 2; bytes = bytes_of (numbers second.bytes) } ∷ record { tag = 3; bytes = bytes_of (numbers third.bytes) } ∷ f ∷ []) m.0,
          formed (with_method (get_or fourth.bytes 0 0) colored) refl refl (inr (inr (record { tags = refl; colors = d.size; below = d.below; method = m.1 }))),
        )

    after_colors_lem : (fs : List Field) (file : File) → after_colors colored fs ≡ some file → Says (front (third ∷ fs)) file
    unfolding after_colors
    after_colors_lem [] file q = let s : colored ≡ file = cc in rw (sym s) says_colored
    after_colors_lem (fourth ∷ []) file q =
        let r = held (is_method fourth) (some (with_method (get_or fourth.bytes 0 0) colored)) file q in
        let u = r.1 in
        let s : with_method (get_or fourth.bytes 0 0) colored ≡ file = cc in
        rw (sym s) (says_method fourth r.0)
    after_colors_lem (fourth ∷ fifth ∷ fs) file q = absurd (none-ne-some file q)

  after_ends_lem : (fs : List Field) (file : File) → fields_below fs ≡ true → after_ends graph fs ≡ some file → Says (front fs) file
  unfolding after_ends graph_file
  after_ends_lem [] file b q = let s : graph ≡ file = cc in rw (sym s) says_graph
  after_ends_lem (third ∷ fs) file b q =
      let r = held (is_colors (edge_count (numbers second.bytes)) third) (after_colors (with_colors (numbers third.bytes) graph) fs) file q in
      after_colors_lem third (colors_field_lem (edge_count (numbers second.bytes)) third r.0 (first_below third fs b).0) fs file r.1

fields_say : (fs : List Field) (file : File) → fields_below fs ≡ true → saved_of fs ≡ some file → Says fs file
unfolding saved_of after_nodes
fields_say [] file b e = absurd (none-ne-some file e)
fields_say (first ∷ []) file b e = absurd (none-ne-some file (held (is_nodes first) none file e).1)
fields_say (first ∷ second ∷ fs) file b e =
    let x = first_below first (second ∷ fs) b in
    let y = first_below second fs x.1 in
    let r = held (is_nodes first) (after_nodes (number_of first.bytes) (second ∷ fs)) file e in
    let s = held (is_ends second) (after_ends (graph_file (number_of first.bytes) (numbers second.bytes)) fs) file r.1 in
    let u = nodes_field first r.0 x.0 in
    let v = after_ends_lem (number_of first.bytes) u.1 second (ends_field second s.0 y.0) fs file y.1 s.1 in
    (ap (λ (f : Field). f ∷ second ∷ fs) u.0 ∙ v.0, v.1)

pub laid_out : (bytes : List ℕ) (file : File) → all_below 256 bytes ≡ true → file_of bytes ≡ some file → LaidOut bytes file
unfolding file_of file_bytes bind
laid_out bytes file b e = go (fields bytes) refl
  where
    go : (o : Option (List Field)) → fields bytes ≡ o → LaidOut bytes file
    go none p = absurd (none-ne-some file (rw p at e))
    go (some fs) p =
        let j = joined_again fs bytes b p in
        let s = fields_say fs file j.1 (rw p at e) in
        record { same = j.0 ∙ ap fields_bytes s.0; formed = s.1 }

-- ---- where the ends and the colours stand, and how long a file is

ends_front : (file : File) → drop 8 (file_bytes file) ≡ bytes_of file.ends ++ fields_bytes (others file)
unfolding file_bytes file_fields fields_bytes field_bytes bytes16
ends_front file = refl

pub length_others : (file : File) → length (file_bytes file) ≡ 8 + 2 * length file.ends + length (fields_bytes (others file))
unfolding file_bytes file_fields fields_bytes field_bytes bytes16
length_others file = omega (arith, length-append (bytes_of file.ends) (fields_bytes (others file)), length_bytes file.ends)

pub ends_there : (bytes : List ℕ) (file : File) → LaidOut bytes file → let m = edge_count file.ends in (8 + 4 * m ≤ length bytes) × (numbers (take (4 * m) (drop 8 bytes)) ≡ file.ends)
ends_there bytes file l =
    let m = edge_count file.ends in
    let size : 4 * m ≡ length (bytes_of file.ends) = omega (arith, length_bytes file.ends, l.formed.even) in (
      omega (arith, ap length l.same, length_others file, l.formed.even),
      rw (l.same, ends_front file, size, take-append_seam (bytes_of file.ends) (fields_bytes (others file))) (numbers_of_bytes file.ends),
    )

-- ---- the colours

-- The colours stand behind the header of tag 3; where it does not stand there are none.
colors_field_there : (file : File) (rest : List Field) → others file ≡ record { tag = 3; bytes = bytes_of file.colors } ∷ rest
    → drop 3 (fields_bytes (others file)) ≡ bytes_of file.colors ++ fields_bytes rest
unfolding fields_bytes field_bytes bytes16
colors_field_there file rest e = rw e

pub length_header : (tag : ℕ) (bytes : List ℕ) (fs : List Field) → length (fields_bytes (record { tag = tag; bytes = bytes } ∷ fs)) ≡ 3 + length bytes + length (fields_bytes fs)
unfolding fields_bytes field_bytes bytes16
length_header tag bytes fs = omega (arith, length-append bytes (fields_bytes fs))

-- Where the colours of a file start, and their number.
abbrev pub colors_start : ℕ → ℕ → ℕ
colors_start tags m = cond (ltb 3 tags) (11 + 4 * m) 0

abbrev pub colors_count : ℕ → ℕ → ℕ
colors_count tags m = cond (ltb 3 tags) m 0

-- They stand there.
pub record ColorsThere (bytes colors : List ℕ) (start count : ℕ) : Type 0 where
  pub inside : start + 2 * count ≤ length bytes
  pub number : count ≡ length colors
  pub are : numbers (take (2 * count) (drop start bytes)) ≡ colors

module _ (bytes : List ℕ) (file : File) (l : LaidOut bytes file) where
  abbrev m : ℕ
  m = edge_count file.ends

  behind_ends : drop (8 + 4 * m) bytes ≡ fields_bytes (others file)
  behind_ends =
      let size : 4 * m ≡ length (bytes_of file.ends) = omega (arith, length_bytes file.ends, l.formed.even) in
      rw (size, sym (drop-drop (length (bytes_of file.ends)) 8 bytes), l.same, ends_front file, drop-append_seam (bytes_of file.ends) (fields_bytes (others file)))

  with_colors_lem : (rest : List Field) → others file ≡ record { tag = 3; bytes = bytes_of file.colors } ∷ rest → length file.colors ≡ m → ColorsThere bytes file.colors (11 + 4 * m) m
  with_colors_lem rest e k =
      let at : 11 + 4 * m ≡ 8 + 4 * m + 3 = omega arith in
      let size : 2 * m ≡ length (bytes_of file.colors) = omega (arith, length_bytes file.colors) in
      let there : drop (11 + 4 * m) bytes ≡ bytes_of file.colors ++ fields_bytes rest = rw (at, sym (drop-drop 3 (8 + 4 * m) bytes), behind_ends) (colors_field_there file rest e) in
      record {
        inside = omega (arith, ap length there, length-drop (11 + 4 * m) bytes, length-append (bytes_of file.colors) (fields_bytes rest), length_bytes file.colors, ap length behind_ends, length-drop (8 + 4 * m) bytes, ap (λ (fs : List Field). length (fields_bytes fs)) e, length_header 3 (bytes_of file.colors) rest);
        number = sym k;
        are = rw (there, size, take-append_seam (bytes_of file.colors) (fields_bytes rest)) (numbers_of_bytes file.colors);
      }

  pub colors_there : ColorsThere bytes file.colors (colors_start file.tags m) (colors_count file.tags m)
  unfolding numbers
  colors_there = elim l.formed.others [
    | inl a ↦ rw (a.tags, a.colors) (record { inside = omega arith; number = refl; are = refl })
    | inr (inl a) ↦ rw a.tags (with_colors_lem [] (colors_others file a) a.colors)
    | inr (inr a) ↦ rw a.tags (with_colors_lem (record { tag = 4; bytes = file.method ∷ [] } ∷ []) (method_others file a) a.colors)
  ]
