-- Laws of the code's answers: one field, and what may follow each.
use Prim.Native.Nat.{ℕ, suc, ◌+◌, ◌*◌, ◌-◌, ◌≤◌, ◌<◌, ◌%◌, ◌/◌}
use mathlib.Core.Path.{◌≡◌, refl, sym, ap, ◌∙◌}
use mathlib.Core.Logic.{inl, inr}
use mathlib.Core.Bool.{false}
use mathlib.Core.List.{List, [], ◌∷◌}
use mathlib.Core.Option.{none, some, bind, Option}
use native.Mathlib.Omega.{arith}
use lib.ListN.{length, get_or, take, drop, length-drop}
use lib.Seq.{drop-cons, drop-drop, length-take-le, get_or-take, get_or-drop}
use lib.Dec.{eqb}
use borrow.Author.Tests.{lt-ltb, le-ltb, eq-eqb, ne_eqb}
use Rattle.lists.proofs.Tests.{dec_eq, false_and, and_false}
use Rattle.graph.specs.Edges.{edge_count}
use Rattle.file_layout.specs.Fields.{number16, numbers, Field, first_field, fields}
use Rattle.file_layout.specs.File.{File, unnamed, graph_file, with_colors, with_method, is_method, after_colors, is_colors, after_ends, most_edges, is_ends, after_nodes, is_nodes, number_of, saved_of, file_of, tag_bit}
use Rattle.file_layout.specs.Outcomes.{Summary, summary}
use Rattle.file_fields.specs.Layout.{field_there, behind, shown_field, summary_of, shown_layout, SaysSoFar}
use Rattle.file_layout.proofs.FieldLaws.{first_truncated, first_whole, header_short, fields_then, fields_truncated, fields_cut, none_then, fields_end, fields_more, length_numbers}
use Rattle.file_fields.specs.declared.fields.FieldPlace.{FieldPlace}
use Rattle.file_fields.specs.declared.FileSummary.{FileSummary}
use Rattle.std.specs.Prelude.{Some, None, Result, Ok, Err}
use Rattle.std.specs.Result.{result_ok}
use Rattle.graph.specs.declared.Refusal.{Refusal}
use Rattle.file_fields.specs.declared.method.Method.{Method}
use Rattle.file_fields.specs.declared.method.Method.TheVariants.{Degree, Saturation, IndependentSet, MisraGries}
use Rattle.file_fields.specs.Method.{byte_of, NamedBy}
use Rattle.std.specs.Prelude.{Option as Answer}

-- ---- one field

-- A whole field stands inside the bytes.
abbrev FieldInside : List ℕ → Answer FieldPlace → Type 0
FieldInside bytes r = (p : FieldPlace) → r ≡ Some p → p.start + p.length ≤ length bytes

truncated_inside : (bytes : List ℕ) → FieldInside bytes None
truncated_inside bytes p e = let z : ◌≡◌ {A = ℕ} 0 1 = cc in absurd (omega arith)

pub header_truncated : (bytes : List ℕ) (at : ℕ) → length bytes - at < 3 → (shown_field bytes None ≡ first_field (drop at bytes)) × FieldInside bytes None
unfolding shown_field
header_truncated bytes at h = (sym (header_short (drop at bytes) (omega (arith, length-drop at bytes))), truncated_inside bytes)

module _ (bytes : List ℕ) (at : ℕ) (n : ℕ) (h : 3 ≤ length bytes - at) (e : n ≡ number16 (get_or bytes (at + 1) 0) (get_or bytes (at + 1 + 1) 0)) where
  header : drop at bytes ≡ get_or bytes at 0 ∷ get_or bytes (at + 1) 0 ∷ get_or bytes (at + 1 + 1) 0 ∷ drop (at + 3) bytes
  header =
      let p : at + 1 ≡ suc at = omega arith in
      let q : at + 1 + 1 ≡ suc (suc at) = omega arith in
      let r : at + 3 ≡ suc (suc (suc at)) = omega arith in
      rw (q, p, r, drop-cons bytes at 0 (omega arith), drop-cons bytes (suc at) 0 (omega arith), drop-cons bytes (suc (suc at)) 0 (omega arith))

  pub field_truncated : length bytes - (at + 3) < n → (shown_field bytes None ≡ first_field (drop at bytes)) × FieldInside bytes None
  unfolding shown_field
  field_truncated k =
      (sym (ap first_field header ∙ first_truncated _ _ _ (drop (at + 3) bytes) (omega (arith, length-drop (at + 3) bytes))), truncated_inside bytes)

  pub field_found : n ≤ length bytes - (at + 3)
      → (shown_field bytes (Some (record { tag = get_or bytes at 0; start = at + 3; length = n })) ≡ first_field (drop at bytes))
      × FieldInside bytes (Some (record { tag = get_or bytes at 0; start = at + 3; length = n }))
  unfolding shown_field field_there behind
  field_found k =
      let w = first_whole (get_or bytes at 0) (get_or bytes (at + 1) 0) (get_or bytes (at + 1 + 1) 0) (drop (at + 3) bytes) (omega (arith, length-drop (at + 3) bytes)) in (
        rw (header, w, sym e, drop-drop n (at + 3) bytes),
        λ p q. let z : ◌≡◌ {A = FieldPlace} (record { tag = get_or bytes at 0; start = at + 3; length = n }) p = cc in
            omega (arith, ap (λ (x : FieldPlace). x.start) z, ap (λ (x : FieldPlace). x.length) z),
      )

-- ---- what is made of the fields from a place on, by the first of them

field_size : (bytes : List ℕ) (p : FieldPlace) → p.start + p.length ≤ length bytes → length (take p.length (drop p.start bytes)) ≡ p.length
field_size bytes p h = length-take-le p.length (drop p.start bytes) (omega (arith, length-drop p.start bytes))

at_end : (bytes : List ℕ) (at : ℕ) (made : List Field → Option File) → at ≡ length bytes → bind (fields (drop at bytes)) made ≡ made []
at_end bytes at made h = fields_end (drop at bytes) made (omega (arith, length-drop at bytes))

module _ (bytes : List ℕ) (at : ℕ) (r : Answer FieldPlace) (e : shown_field bytes r ≡ first_field (drop at bytes)) where
  found : (p : FieldPlace) → r ≡ Some p → first_field (drop at bytes) ≡ some (field_there bytes p, behind bytes p)
  unfolding shown_field
  found p q = sym e ∙ ap (shown_field bytes) q

  truncated : r ≡ None → first_field (drop at bytes) ≡ none
  unfolding shown_field
  truncated q = sym e ∙ ap (shown_field bytes) q

  module _ (made : List Field → Option File) where
    abbrev from : Option File
    from = bind (fields (drop at bytes)) made

    cut : r ≡ None → (at ≡ length bytes → ⊥) → at ≤ length bytes → from ≡ none
    cut q h k = elim (dec_eq at (length bytes)) [ inl z ↦ absurd (h z) | inr z ↦ fields_cut (drop at bytes) made (truncated q) (omega (arith, length-drop at bytes)) ]

    module _ (p : FieldPlace) (q : r ≡ Some p) where
      first_then : from ≡ bind (fields (behind bytes p)) (λ (fs : List Field). made (field_there bytes p ∷ fs))
      first_then = fields_then (drop at bytes) _ _ made (found p q)

      wrong_first : ((fs : List Field) → made (field_there bytes p ∷ fs) ≡ none) → from ≡ none
      wrong_first h = first_then ∙ none_then (fields (behind bytes p)) _ h

      -- More behind the last field.
      more_behind : p.start + p.length ≤ length bytes → (p.start + p.length ≡ length bytes → ⊥) → ((field : Field) (fs : List Field) → made (field_there bytes p ∷ field ∷ fs) ≡ none) → from ≡ none
      unfolding behind
      more_behind k h n = elim (dec_eq (p.start + p.length) (length bytes)) [
        | inl z ↦ absurd (h z)
        | inr z ↦ first_then ∙ fields_more (drop (p.start + p.length) bytes) _ (rw (length-drop (p.start + p.length) bytes) (omega arith)) n
      ]

      last_field : p.start + p.length ≡ length bytes → from ≡ made (field_there bytes p ∷ [])
      unfolding behind
      last_field h = first_then ∙ fields_end (drop (p.start + p.length) bytes) _ (omega (arith, length-drop (p.start + p.length) bytes))

-- A file that is none has no summary.
no_summary : (o : Option File) → o ≡ none → shown_layout None ≡ summary_of o
unfolding summary_of bind
no_summary o e = rw e

summary_is : (o : Option File) (file : File) (values : Summary) → o ≡ some file → summary file ≡ values → some values ≡ summary_of o
unfolding summary_of bind
summary_is o file values e s = rw e (ap some (sym s))

-- ---- the byte of a method

byte_most : (way : Method) → byte_of way ≤ 3
byte_most Degree = omega arith
byte_most Saturation = omega arith
byte_most IndependentSet = omega arith
byte_most MisraGries = omega arith

pub byte_named : (byte : ℕ) (r : Result Method Refusal) (o : Answer Method) → NamedBy byte r → o ≡ result_ok r → (way : Method) → o ≡ Some way → byte ≡ byte_of way
byte_named byte (Ok x) o named e way q = let z : x ≡ way = cc in named ∙ ap byte_of z
byte_named byte (Err x) o named e way q = cc

pub unnamed_above : (byte : ℕ) (r : Result Method Refusal) (o : Answer Method) → NamedBy byte r → o ≡ result_ok r → o ≡ None → 3 < byte
unnamed_above byte (Ok x) o named e q = cc
unnamed_above byte (Err x) o named e q = named.1

-- ---- after the colours

not_method : (file : File) (field : Field) (fs : List Field) → is_method field ≡ false → after_colors file (field ∷ fs) ≡ none
unfolding after_colors
not_method file field [] e = rw e
not_method file field (other ∷ fs) e = refl

module _ (bytes : List ℕ) (at n m : ℕ) where
  abbrev ColorsAnswer : Answer FileSummary → Type 0
  ColorsAnswer a = (file : File) → SaysSoFar n m 7 file → shown_layout a ≡ summary_of (bind (fields (drop at bytes)) (after_colors file))

  pub colors_end : at ≡ length bytes → (a : Answer FileSummary) → shown_layout a ≡ some (n, m, 7, unnamed) → ColorsAnswer a
  unfolding after_colors
  colors_end h a e file s = e ∙ summary_is _ file (n, m, 7, unnamed) (at_end bytes at (after_colors file) h) s

  module _ (r : Answer FieldPlace) (e : shown_field bytes r ≡ first_field (drop at bytes)) where
    pub method_cut : r ≡ None → (at ≡ length bytes → ⊥) → at ≤ length bytes → ColorsAnswer None
    method_cut q h k file s = no_summary _ (cut bytes at r e (after_colors file) q h k)

    module _ (p : FieldPlace) (q : r ≡ Some p) where
      other_method : is_method (field_there bytes p) ≡ false → ColorsAnswer None
      other_method b file s = no_summary _ (wrong_first bytes at r e (after_colors file) p q (λ fs. not_method file (field_there bytes p) fs b))

      pub method_tag : (p.tag ≡ 4 → ⊥) → ColorsAnswer None
      unfolding is_method field_there
      method_tag h = other_method (false_and (eqb p.tag 4) _ (ne_eqb p.tag 4 h))

      module _ (inside : FieldInside bytes r) where
        abbrev byte : List ℕ
        byte = take p.length (drop p.start bytes)

        pub method_length : (p.length ≡ 1 → ⊥) → ColorsAnswer None
        unfolding is_method field_there
        method_length h = other_method (and_false (eqb p.tag 4) _ (false_and (eqb (length byte) 1) _ (ne_eqb (length byte) 1 (λ z. h (sym (field_size bytes p (inside p q)) ∙ z)))))

        the_byte : p.length ≡ 1 → get_or byte 0 0 ≡ get_or bytes p.start 0
        the_byte k = let z : p.start + 0 ≡ p.start = omega arith in rw (get_or-take p.length (drop p.start bytes) 0 0 (omega arith), get_or-drop p.start bytes 0 0, z)

        above : p.length ≡ 1 → 3 < get_or bytes p.start 0 → is_method (field_there bytes p) ≡ false
        unfolding is_method field_there
        above k h = and_false (eqb p.tag 4) _ (and_false (eqb (length byte) 1) _ (le-ltb (get_or byte 0 0) 4 (omega (arith, the_byte k))))

        pub method_above : p.length ≡ 1 → 3 < get_or bytes p.start 0 → ColorsAnswer None
        method_above k h = other_method (above k h)

        pub method_more : p.length ≡ 1 → (p.start + 1 ≡ length bytes → ⊥) → ColorsAnswer None
        unfolding after_colors
        method_more k h file s = no_summary _ (more_behind bytes at r e (after_colors file) p q (inside p q) (λ z. h (omega arith)) (λ field fs. refl))

        pub method_last : (way : Method) → p.tag ≡ 4 → p.length ≡ 1 → get_or bytes p.start 0 ≡ byte_of way → p.start + 1 ≡ length bytes
            → ColorsAnswer (Some (record { nodes = n; edges = m; tags = 15; method = Some way }))
        unfolding after_colors is_method field_there with_method summary tag_bit
        method_last way t k b h file s =
            let x = the_byte k in
            let four : get_or byte 0 0 < 4 = omega (arith, byte_most way) in
            let whole = last_field bytes at r e (after_colors file) p q (omega arith) in
            let is = simp (eq-eqb p.tag 4 t, eq-eqb (length byte) 1 (field_size bytes p (inside p q) ∙ k), lt-ltb (get_or byte 0 0) 4 four) at whole in
            summary_is _ (with_method (get_or byte 0 0) file) (n, m, 15, byte_of way) is
            (ap (λ (u : Summary). (u.0, u.1, u.2 + 8, get_or byte 0 0)) s ∙ ap (λ (u : ℕ). (n, m, 15, u)) (x ∙ b))

-- The same for each file.
pub byte_above : (bytes : List ℕ) (at : ℕ) (r : Answer FieldPlace) → shown_field bytes r ≡ first_field (drop at bytes) → (p : FieldPlace) → r ≡ Some p → FieldInside bytes r
    → p.length ≡ 1 → 3 < get_or bytes p.start 0 → (file : File) → none ≡ summary_of (bind (fields (drop at bytes)) (after_colors file))
byte_above bytes at r e p q inside k h file = no_summary _ (wrong_first bytes at r e (after_colors file) p q (λ fs. not_method file (field_there bytes p) fs (above bytes at 0 0 r e p q inside k h)))

-- ---- after the ends

not_colors : (file : File) (field : Field) (fs : List Field) → is_colors (edge_count file.ends) field ≡ false → after_ends file (field ∷ fs) ≡ none
unfolding after_ends
not_colors file field fs e = rw e

module _ (bytes : List ℕ) (at n m : ℕ) where
  abbrev EndsAnswer : Answer FileSummary → Type 0
  EndsAnswer a = (file : File) → SaysSoFar n m 3 file → shown_layout a ≡ summary_of (bind (fields (drop at bytes)) (after_ends file))

  pub ends_end : at ≡ length bytes → (a : Answer FileSummary) → shown_layout a ≡ some (n, m, 3, unnamed) → EndsAnswer a
  unfolding after_ends
  ends_end h a e file s = e ∙ summary_is _ file (n, m, 3, unnamed) (at_end bytes at (after_ends file) h) s

  module _ (r : Answer FieldPlace) (e : shown_field bytes r ≡ first_field (drop at bytes)) where
    pub colors_cut : r ≡ None → (at ≡ length bytes → ⊥) → at ≤ length bytes → EndsAnswer None
    colors_cut q h k file s = no_summary _ (cut bytes at r e (after_ends file) q h k)

    module _ (p : FieldPlace) (q : r ≡ Some p) where
      abbrev part : List ℕ
      part = take p.length (drop p.start bytes)

      edges_are : (file : File) → SaysSoFar n m 3 file → edge_count file.ends ≡ m
      unfolding summary
      edges_are file s = ap (λ (u : Summary). u.1) s

      other_colors : ((file : File) → SaysSoFar n m 3 file → is_colors (edge_count file.ends) (field_there bytes p) ≡ false) → EndsAnswer None
      other_colors b file s = no_summary _ (wrong_first bytes at r e (after_ends file) p q (λ fs. not_colors file (field_there bytes p) fs (b file s)))

      module _ (inside : FieldInside bytes r) where
        pub colors_length : (p.length ≡ 2 * m → ⊥) → EndsAnswer None
        unfolding is_colors field_there
        colors_length h = other_colors (λ file s.
            and_false (eqb p.tag 3) _ (ne_eqb (length part) (2 * edge_count file.ends) (λ z. h (sym (field_size bytes p (inside p q)) ∙ z ∙ ap (λ (x : ℕ). 2 * x) (edges_are file s)))))

        pub colors_read : p.tag ≡ 3 → p.length ≡ 2 * m → (a : Answer FileSummary) → ColorsAnswer bytes (p.start + p.length) n m a → EndsAnswer a
        unfolding after_ends is_colors field_there behind with_colors summary tag_bit
        colors_read t k a answer file s =
            let next = first_then bytes at r e (after_ends file) p q in
            let size : length part ≡ 2 * edge_count file.ends = field_size bytes p (inside p q) ∙ k ∙ ap (λ (x : ℕ). 2 * x) (sym (edges_are file s)) in
            let is = simp (eq-eqb p.tag 3 t, eq-eqb (length part) (2 * edge_count file.ends) size) at next in
            answer (with_colors (numbers part) file) (ap (λ (u : Summary). (u.0, u.1, u.2 + 4, u.3)) s) ∙ ap summary_of (sym is)

-- The same for each file.
pub other_tag : (bytes : List ℕ) (at : ℕ) (r : Answer FieldPlace) → shown_field bytes r ≡ first_field (drop at bytes) → (p : FieldPlace) → r ≡ Some p
    → (p.tag ≡ 3 → ⊥) → (file : File) → none ≡ summary_of (bind (fields (drop at bytes)) (after_ends file))
unfolding is_colors field_there
other_tag bytes at r e p q h file = no_summary _ (wrong_first bytes at r e (after_ends file) p q (λ fs. not_colors file (field_there bytes p) fs (false_and (eqb p.tag 3) _ (ne_eqb p.tag 3 h))))

-- ---- after the node count

not_ends : (n : ℕ) (field : Field) (fs : List Field) → is_ends field ≡ false → after_nodes n (field ∷ fs) ≡ none
unfolding after_nodes
not_ends n field fs e = rw e

module _ (bytes : List ℕ) (at n : ℕ) where
  abbrev NodesAnswer : Answer FileSummary → Type 0
  NodesAnswer a = shown_layout a ≡ summary_of (bind (fields (drop at bytes)) (after_nodes n))

  module _ (r : Answer FieldPlace) (e : shown_field bytes r ≡ first_field (drop at bytes)) where
    pub ends_cut : r ≡ None → NodesAnswer None
    unfolding after_nodes
    ends_cut q = no_summary _ (fields_truncated (drop at bytes) (after_nodes n) (truncated bytes at r e q) refl)

    module _ (p : FieldPlace) (q : r ≡ Some p) where
      abbrev ends : List ℕ
      ends = take p.length (drop p.start bytes)

      other_ends : is_ends (field_there bytes p) ≡ false → NodesAnswer None
      other_ends b = no_summary _ (wrong_first bytes at r e (after_nodes n) p q (λ fs. not_ends n (field_there bytes p) fs b))

      pub ends_tag : (p.tag ≡ 2 → ⊥) → NodesAnswer None
      unfolding is_ends field_there
      ends_tag h = other_ends (false_and (eqb p.tag 2) _ (ne_eqb p.tag 2 h))

      module _ (inside : FieldInside bytes r) where
        size : length ends ≡ p.length
        size = field_size bytes p (inside p q)

        pub ends_length : (p.length % 4 ≡ 0 → ⊥) → NodesAnswer None
        unfolding is_ends field_there
        ends_length h = other_ends (and_false (eqb p.tag 2) _ (false_and (eqb (length ends % 4) 0) _ (ne_eqb (length ends % 4) 0 (λ z. h (ap (λ (x : ℕ). x % 4) (sym size) ∙ z)))))

        pub ends_above : 4096 < p.length / 4 → NodesAnswer None
        unfolding is_ends field_there
        ends_above h = other_ends (and_false (eqb p.tag 2) _ (and_false (eqb (length ends % 4) 0) _ (let s = size in simp (lt-ltb most_edges (length ends / 4) (omega arith)))))

        pub ends_read : p.tag ≡ 2 → p.length % 4 ≡ 0 → p.length / 4 ≤ 4096 → (a : Answer FileSummary) → EndsAnswer bytes (p.start + p.length) n (p.length / 4) a → NodesAnswer a
        unfolding after_nodes is_ends field_there behind graph_file summary tag_bit
        ends_read t k h a answer =
            let s = size in
            let next = first_then bytes at r e (after_nodes n) p q in
            let four : length ends % 4 ≡ 0 = omega arith in
            let most : length ends / 4 ≤ most_edges = omega arith in
            let count : edge_count (numbers ends) ≡ p.length / 4 = omega (arith, length_numbers ends) in
            let is = simp (eq-eqb p.tag 2 t, eq-eqb (length ends % 4) 0 four, le-ltb most_edges (length ends / 4) most) at next in
            answer (graph_file n (numbers ends)) (ap (λ (x : ℕ). (n, x, 3, 255)) count) ∙ ap summary_of (sym is)

-- ---- the whole file

not_nodes : (field : Field) (fs : List Field) → is_nodes field ≡ false → saved_of (field ∷ fs) ≡ none
unfolding saved_of
not_nodes field fs e = rw e

module _ (bytes : List ℕ) where
  abbrev WholeAnswer : Answer FileSummary → Type 0
  WholeAnswer a = shown_layout a ≡ summary_of (file_of bytes)

  module _ (r : Answer FieldPlace) (e : shown_field bytes r ≡ first_field (drop 0 bytes)) where
    pub file_cut : r ≡ None → WholeAnswer None
    unfolding saved_of file_of
    file_cut q = no_summary _ (fields_truncated bytes saved_of (truncated bytes 0 r e q) refl)

    module _ (p : FieldPlace) (q : r ≡ Some p) where
      abbrev number : List ℕ
      number = take p.length (drop p.start bytes)

      wrong_field : is_nodes (field_there bytes p) ≡ false → WholeAnswer None
      unfolding file_of
      wrong_field b = no_summary _ (wrong_first bytes 0 r e saved_of p q (λ fs. not_nodes (field_there bytes p) fs b))

      pub nodes_tag : (p.tag ≡ 1 → ⊥) → WholeAnswer None
      unfolding is_nodes field_there
      nodes_tag k = wrong_field (false_and (eqb p.tag 1) _ (ne_eqb p.tag 1 k))

      module _ (inside : FieldInside bytes r) where
        pub nodes_length : (p.length ≡ 2 → ⊥) → WholeAnswer None
        unfolding is_nodes field_there
        nodes_length k = wrong_field (and_false (eqb p.tag 1) _ (ne_eqb (length number) 2 (λ z. k (sym (field_size bytes p (inside p q)) ∙ z))))

        nodes_number : p.length ≡ 2 → number_of number ≡ number16 (get_or bytes p.start 0) (get_or bytes (p.start + 1) 0)
        unfolding number_of
        nodes_number k = let z : p.start + 0 ≡ p.start = omega arith in rw (get_or-take p.length (drop p.start bytes) 0 0 (omega arith), get_or-take p.length (drop p.start bytes) 1 0 (omega arith), get_or-drop p.start bytes 0 0, get_or-drop p.start bytes 1 0, z)

        pub nodes_read : p.tag ≡ 1 → p.length ≡ 2 → (n : ℕ) → n ≡ number16 (get_or bytes p.start 0) (get_or bytes (p.start + 1) 0)
            → (a : Answer FileSummary) → NodesAnswer bytes (p.start + p.length) n a → WholeAnswer a
        unfolding is_nodes field_there behind saved_of file_of
        nodes_read k₁ k₂ n s a t =
            let next = first_then bytes 0 r e saved_of p q in
            t ∙ ap summary_of (sym (next ∙ simp (eq-eqb p.tag 1 k₁, eq-eqb (length number) 2 (field_size bytes p (inside p q) ∙ k₂), nodes_number k₂ ∙ sym s)))
