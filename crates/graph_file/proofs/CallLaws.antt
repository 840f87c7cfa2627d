-- Laws of the call: one for each answer of the code.
use Prim.Native.Nat.{ℕ, ◌+◌, ◌*◌, ◌-◌, ◌≤◌, ◌<◌}
use mathlib.Core.Path.{◌≡◌, refl, sym, ap, ap₂, ◌∙◌}
use mathlib.Core.Bool.{true}
use mathlib.Core.List.{List}
use mathlib.Core.Option.{Option, none, some, bind, none-ne-some}
use native.Mathlib.Omega.{arith}
use lib.ListN.{length, get_or, take, drop}
use mir.Syntax.{w8}
use mir.Val.{Fits}
use Rattle.lists.specs.Search.{all_below}
use Rattle.lists.specs.Parts.{copied_over}
use Rattle.lists.proofs.PartsLaws.{copied_room}
use Rattle.lists.proofs.SearchLaws.{below_all}
use Rattle.graph.specs.Report.{Report, accepted, refused, number}
use Rattle.graph.specs.Edges.{edge_count}
use Rattle.graph.specs.Table.{over}
use Rattle.file_layout.specs.Fields.{numbers}
use Rattle.file_layout.specs.File.{File, file_of, LaidOut}
use Rattle.file_layout.specs.Outcomes.{Summary, summary, ReadOutcome, read_file}
use Rattle.file_layout.specs.Reliance.{FileReader}
use Rattle.file_fields.specs.Layout.{summary_of, shown_layout}
use Rattle.file_layout.proofs.FileLaws.{laid_out, ends_there, colors_start, colors_count, ColorsThere, colors_there}
use Rattle.file_layout.proofs.OutcomeLaws.{read_bad, short_ends, short_colors, file_read, file_reader}
use Rattle.file_fields.specs.declared.FileSummary.{FileSummary}
use Rattle.file_fields.specs.Method.{method_byte}
use Rattle.std.specs.Prelude.{Some, None, Result, Ok, Err, ok_or}
use Rattle.std.specs.Prelude.{Option as Answer}
use Rattle.graph.specs.declared.Refusal.{Refusal}
use Rattle.graph.specs.declared.Refusal.TheVariants.{BadFile}

abbrev left : Report Summary → List ℕ → List ℕ → ReadOutcome
left report ends colors = record { report = report; ends = ends; colors = colors }

-- What is refused had no layout, and what is accepted had this one.
refused_none : (r : Answer FileSummary) (k : Refusal) → ok_or r BadFile ≡ Err k → (r ≡ None) × (k ≡ BadFile)
refused_none None k q = (refl, cc)
refused_none (Some s) k q = cc

accepted_some : (r : Answer FileSummary) (s : FileSummary) → ok_or r BadFile ≡ Ok s → r ≡ Some s
accepted_some None s q = cc
accepted_some (Some t) s q = cc

-- What the layout says of the file.
no_file : (o : Option File) → none ≡ summary_of o → o ≡ none
unfolding summary_of bind
no_file none e = refl
no_file (some file) e = absurd (none-ne-some (summary file) e)

some_file : (o : Option File) (values : Summary) → some values ≡ summary_of o → (file : File) × (o ≡ some file) × (summary file ≡ values)
unfolding summary_of bind
some_file none values e = absurd (none-ne-some values (sym e))
some_file (some file) values e = (file, refl, cc)

-- The colours stand where the code takes them to.
colors_placed : (bytes : List ℕ) (file : File) → LaidOut bytes file → (tags m start count : ℕ) → file.tags ≡ tags → edge_count file.ends ≡ m → start ≡ colors_start tags m → count ≡ colors_count tags m
    → ColorsThere bytes file.colors start count
colors_placed bytes file l tags m start count t e p q = rw (p, q, sym t, sym e) (colors_there bytes file l)

module _ (bytes ends₀ colors₀ : List ℕ) (fits : (i : ℕ) → Fits w8 (get_or bytes i 0)) where
  bytes_below : all_below 256 bytes ≡ true
  bytes_below = below_all 256 bytes (λ i h. omega (arith, fits i))

  -- The four promises of the call.
  abbrev Promised : Report Summary → List ℕ → List ℕ → Type 0
  Promised report ends colors =
      (report ≡ (read_file bytes ends₀ colors₀).report)
      × ((ends ≡ (read_file bytes ends₀ colors₀).ends) × ((colors ≡ (read_file bytes ends₀ colors₀).colors) × FileReader bytes ends₀ colors₀ report ends colors))

  promised : (report : Report Summary) (ends colors : List ℕ) → read_file bytes ends₀ colors₀ ≡ record { report = report; ends = ends; colors = colors } → Promised report ends colors
  promised report ends colors e =
      let p = ap (λ (o : ReadOutcome). o.report) (sym e) in
      let q = ap (λ (o : ReadOutcome). o.ends) (sym e) in
      let r = ap (λ (o : ReadOutcome). o.colors) (sym e) in
      (p, (q, (r, file_reader bytes ends₀ colors₀ bytes_below report ends colors p q r)))

  module _ (r : Answer FileSummary) (e : shown_layout r ≡ summary_of (file_of bytes)) (x : Result FileSummary Refusal) (v : x ≡ ok_or r BadFile) where
    pub answer_bad : (k : Refusal) → x ≡ Err k → Promised (refused (number k)) ends₀ colors₀
    answer_bad k q =
        let p = refused_none r k (sym v ∙ q) in
        rw p.1 (promised _ _ _ (read_bad bytes ends₀ colors₀ (no_file (file_of bytes) (ap shown_layout (sym p.0) ∙ e))))

    module _ (s : FileSummary) (q : x ≡ Ok s) where
      abbrev found : (file : File) × (file_of bytes ≡ some file) × (summary file ≡ (s.nodes, s.edges, s.tags, method_byte s.method))
      found = some_file (file_of bytes) (s.nodes, s.edges, s.tags, method_byte s.method) (ap shown_layout (sym (accepted_some r s (sym v ∙ q))) ∙ e)

      laid : LaidOut bytes found.0
      laid = laid_out bytes found.0 bytes_below found.1

      edges_are : edge_count found.0.ends ≡ s.edges
      unfolding summary
      edges_are = ap (λ (u : Summary). u.1) found.2

      tags_are : found.0.tags ≡ s.tags
      unfolding summary
      tags_are = ap (λ (u : Summary). u.2) found.2

      pub edges_most : s.edges ≤ 4096
      edges_most = omega (arith, laid.formed.edges, edges_are)

      pub ends_inside : 8 + 4 * s.edges ≤ length bytes
      ends_inside = omega (arith, (ends_there bytes found.0 laid).0, edges_are)

      pub answer_short_ends : length ends₀ < 2 * s.edges → Promised (refused 5) ends₀ colors₀
      answer_short_ends h = promised _ _ _ (short_ends bytes ends₀ colors₀ found.0 found.1 (omega (arith, edges_are)))

      module _ (start count : ℕ) (place : (start ≡ colors_start s.tags s.edges) × (count ≡ colors_count s.tags s.edges)) where
        colors_are : ColorsThere bytes found.0.colors start count
        colors_are = colors_placed bytes found.0 laid s.tags s.edges start count tags_are edges_are place.0 place.1

        pub colors_inside : start + 2 * count ≤ length bytes
        colors_inside = colors_are.inside

        pub answer_short_colors : length colors₀ < count → Promised (refused 5) ends₀ colors₀
        answer_short_colors h = promised _ _ _ (short_colors bytes ends₀ colors₀ found.0 found.1 (omega (arith, colors_are.number)))

        pub answer_read : 2 * s.edges ≤ length ends₀ → count ≤ length colors₀ → (ends colors : List ℕ)
            → ends ≡ copied_over (numbers (take (8 + 4 * s.edges - 8) (drop 8 bytes))) ends₀
            → colors ≡ copied_over (numbers (take (start + 2 * count - start) (drop start bytes))) colors₀
            → Promised (accepted (s.nodes, s.edges, s.tags, method_byte s.method)) ends colors
        answer_read h k ends colors p q =
            let m₁ : 8 + 4 * s.edges - 8 ≡ 4 * edge_count found.0.ends = omega (arith, edges_are) in
            let m₂ : start + 2 * count - start ≡ 2 * count = omega arith in
            let x = ap (λ (i : ℕ). numbers (take i (drop 8 bytes))) m₁ ∙ (ends_there bytes found.0 laid).1 in
            let y = ap (λ (i : ℕ). numbers (take i (drop start bytes))) m₂ ∙ colors_are.are in
            let i = copied_room found.0.ends ends₀ (omega (arith, laid.formed.even, edges_are)) in
            let j = copied_room found.0.colors colors₀ (omega (arith, colors_are.number)) in
            let done = file_read bytes ends₀ colors₀ found.0 found.1 (omega (arith, edges_are)) (omega (arith, colors_are.number)) in
            promised _ _ _ (done
            ∙ ap (λ (u : Summary). left (accepted u) (over found.0.ends ends₀) (over found.0.colors colors₀)) found.2
            ∙ ap₂ (left (accepted (s.nodes, s.edges, s.tags, method_byte s.method))) (sym (p ∙ ap (λ (l : List ℕ). copied_over l ends₀) x ∙ i)) (sym (q ∙ ap (λ (l : List ℕ). copied_over l colors₀) y ∙ j)))
