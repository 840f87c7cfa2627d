-- Laws of the call: one for each answer of the code.
use Prim.Native.Nat.{ℕ, ◌+◌, ◌*◌, ◌≤◌, ◌<◌}
use mathlib.Core.Path.{◌≡◌, sym, ap, ap₂, ◌∙◌}
use mathlib.Core.Bool.{Bool, true, false, not, ◌&&◌, ◌||◌, cond}
use mathlib.Core.List.{List, ◌++◌, append_assoc}
use mathlib.Core.Option.{none}
use native.Mathlib.Omega.{arith}
use lib.ListN.{length, get_or, length-append}
use mir.Syntax.{w16}
use mir.Val.{Fits}
use lib.Dec.{ltb, eqb}
use borrow.Author.Tests.{eqb-true, not-false}
use Rattle.lists.specs.Search.{all_below}
use Rattle.lists.specs.Parts.{overwrite}
use Rattle.lists.proofs.PartsLaws.{overwrite_append, overwrite_front, copied_room}
use Rattle.lists.proofs.SearchLaws.{below_all}
use Rattle.lists.proofs.Tests.{or_false}
use Rattle.graph.specs.Report.{Report, accepted, refused, number, report_of_checked}
use Rattle.graph.specs.Check.{first_refusal, graph_checks, check_graph, Passed}
use Rattle.graph.proofs.CheckLaws.{graph_refused, graph_accepted, passed}
use Rattle.graph.specs.Edges.{edge_count}
use Rattle.graph.specs.Table.{over}
use Rattle.graph.specs.declared.Refusal.{Refusal}
use Rattle.graph.specs.declared.Graph.{Graph}
use Rattle.std.specs.Prelude.{Result, Ok, Err}
use Rattle.file_layout.specs.Fields.{bytes16, bytes_of, Field, field_bytes, fields_bytes}
use Rattle.file_layout.specs.File.{has_tag, other_fields, file_fields, file_bytes}
use Rattle.file_layout.specs.Outcomes.{told_file, WriteOutcome, write_file}
use Rattle.file_layout.specs.Reliance.{FileWriter}
use Rattle.file_layout.proofs.FieldLaws.{length_bytes}
use Rattle.file_layout.proofs.OutcomeLaws.{length_told, told_fields, refused_graph, refused_misnamed, refused_colors, refused_short, accepted_writing, file_writer}

-- The fields of a graph, and those told behind them.
joined : (n : ℕ) (ends colors : List ℕ) (tags method : ℕ)
    → file_bytes (told_file n ends colors tags method) ≡ (field_bytes (record { tag = 1; bytes = bytes16 n }) ++ field_bytes (record { tag = 2; bytes = bytes_of ends })) ++ fields_bytes (other_fields colors tags method)
unfolding file_bytes file_fields told_file fields_bytes
joined n ends colors tags method =
    let first = field_bytes (record { tag = 1; bytes = bytes16 n }) in
    let second = field_bytes (record { tag = 2; bytes = bytes_of ends }) in
    ap (λ (fs : List Field). first ++ (second ++ fields_bytes fs)) (told_fields n ends colors tags method) ∙ sym (append_assoc first second (fields_bytes (other_fields colors tags method)))

-- The bytes of a graph alone.
graph_bytes : (n : ℕ) (ends : List ℕ) → length (field_bytes (record { tag = 1; bytes = bytes16 n }) ++ field_bytes (record { tag = 2; bytes = bytes_of ends })) ≡ 8 + 2 * length ends
unfolding field_bytes bytes16
graph_bytes n ends = omega (arith, length_bytes ends)

module _ (n : ℕ) (ends colors : List ℕ) (tags method : ℕ) (output₀ : List ℕ) (fits : (i : ℕ) → Fits w16 (get_or colors i 0)) where
  colors_below : all_below 65536 colors ≡ true
  colors_below = below_all 65536 colors (λ i h. omega (arith, fits i))

  -- The three promises of the call.
  abbrev Promised : Report ℕ → List ℕ → Type 0
  Promised report output =
      (report ≡ (write_file n ends colors tags method output₀).report)
      × ((output ≡ (write_file n ends colors tags method output₀).output) × FileWriter n ends colors tags method output₀ report output)

  promised : (report : Report ℕ) (output : List ℕ) → write_file n ends colors tags method output₀ ≡ record { report = report; output = output } → Promised report output
  promised report output e =
      let p = ap (λ (o : WriteOutcome). o.report) (sym e) in
      let q = ap (λ (o : WriteOutcome). o.output) (sym e) in
      (p, (q, file_writer n ends colors tags method output₀ colors_below report output p q))

  module _ (c : Result Graph Refusal) (e : report_of_checked c ≡ check_graph n ends) where
    pub answer_graph : (r : Refusal) → c ≡ Err r → Promised (refused (number r)) output₀
    answer_graph r q = promised _ _ (refused_graph n ends colors tags method output₀ (number r) (graph_refused n ends c r e q))

    module _ (g : Graph) (q : c ≡ Ok g) where
      passed_graph : first_refusal (graph_checks n ends) ≡ none
      passed_graph = (graph_accepted n ends c g e q).0

      edges_are : g.edges ≡ edge_count ends
      edges_are = (graph_accepted n ends c g e q).2

      graph_sizes : Passed n ends
      graph_sizes = passed n ends passed_graph

      pub edges_most : g.edges ≤ 4096
      edges_most = omega (arith, edges_are, graph_sizes.edges)

      module _ (x : Bool) (misnamed : x ≡ has_tag 4 tags && (ltb 3 method || not (has_tag 3 tags))) where
        pub answer_misnamed : x ≡ true → Promised (refused 10) output₀
        answer_misnamed t = promised _ _ (refused_misnamed n ends colors tags method output₀ passed_graph (sym misnamed ∙ t))

        module _ (t : x ≡ false) (y : Bool) (wrong : y ≡ has_tag 3 tags && not (eqb (length colors) g.edges)) where
          wrong_colors_lem : y ≡ has_tag 3 tags && not (eqb (length colors) (edge_count ends))
          wrong_colors_lem = wrong ∙ ap (λ (m : ℕ). has_tag 3 tags && not (eqb (length colors) m)) edges_are

          pub answer_colors : y ≡ true → Promised (refused 5) output₀
          answer_colors u = promised _ _ (refused_colors n ends colors tags method output₀ passed_graph (sym misnamed ∙ t) (sym wrong_colors_lem ∙ u))

          module _ (u : y ≡ false) (size : ℕ) (long : size ≡ 8 + 4 * g.edges + cond (has_tag 3 tags) (3 + 2 * g.edges) 0 + cond (has_tag 4 tags) 4 0) where
            colored : has_tag 3 tags ≡ true → length colors ≡ edge_count ends
            colored v = eqb-true (length colors) (edge_count ends) (not-false (eqb (length colors) (edge_count ends)) (simp v at (sym wrong_colors_lem ∙ u)))

            size_is : length (file_bytes (told_file n ends colors tags method)) ≡ size
            size_is = length_told n ends colors tags method graph_sizes.even colored ∙ rw (sym edges_are) (sym long)

            pub answer_short : length output₀ < size → Promised (refused 5) output₀
            answer_short h = promised _ _ (refused_short n ends colors tags method output₀ passed_graph (sym misnamed ∙ t) (sym wrong_colors_lem ∙ u) (omega (arith, size_is)))

            fields_length : 8 + 4 * g.edges + length (fields_bytes (other_fields colors tags method)) ≡ size
            fields_length =
                let front = field_bytes (record { tag = 1; bytes = bytes16 n }) ++ field_bytes (record { tag = 2; bytes = bytes_of ends }) in
                omega (arith, size_is, ap length (joined n ends colors tags method), length-append front (fields_bytes (other_fields colors tags method)), graph_bytes n ends, edges_are, graph_sizes.even)

            pub graph_room : size ≤ length output₀ → (8 + 2 * length ends ≤ length output₀) × (length ends ≤ 8192) × (n < 65536)
            graph_room h = (omega (arith, long, edges_are, graph_sizes.even), omega (arith, graph_sizes.even, graph_sizes.edges), omega (arith, graph_sizes.nodes))

            named : has_tag 4 tags ≡ true → has_tag 3 tags ≡ true
            named v =
                let w : ltb 3 method || not (has_tag 3 tags) ≡ false = simp v at (sym misnamed ∙ t) in
                not-false (has_tag 3 tags) (or_false (ltb 3 method) (not (has_tag 3 tags)) w).1

            pub told_room : size ≤ length output₀ → (middle : List ℕ) → length middle ≡ length output₀
                → (has_tag 4 tags ≡ true → has_tag 3 tags ≡ true) × (has_tag 3 tags ≡ true → length colors ≤ 8192) × (8 + 4 * g.edges + length (fields_bytes (other_fields colors tags method)) ≤ length middle)
            told_room h middle l = (named, λ v. omega (arith, colored v, graph_sizes.edges), omega (arith, fields_length))

            pub answer_written : size ≤ length output₀ → (middle output : List ℕ)
                → middle ≡ overwrite output₀ 0 (field_bytes (record { tag = 1; bytes = bytes16 n }) ++ field_bytes (record { tag = 2; bytes = bytes_of ends }))
                → output ≡ overwrite middle (8 + 4 * g.edges) (fields_bytes (other_fields colors tags method))
                → Promised (accepted size) output
            answer_written h middle output v w =
                let front = field_bytes (record { tag = 1; bytes = bytes16 n }) ++ field_bytes (record { tag = 2; bytes = bytes_of ends }) in
                let told = file_bytes (told_file n ends colors tags method) in
                let done = accepted_writing n ends colors tags method output₀ passed_graph (sym misnamed ∙ t) (sym wrong_colors_lem ∙ u) (omega (arith, size_is)) in
                let at : 8 + 4 * g.edges ≡ 0 + length front = front_length in
                let all : output ≡ over told output₀ =
                w ∙ ap₂ (λ (l : List ℕ) (i : ℕ). overwrite l i (fields_bytes (other_fields colors tags method))) v at
                ∙ sym (overwrite_append output₀ 0 front (fields_bytes (other_fields colors tags method)))
                ∙ ap (overwrite output₀ 0) (sym (joined n ends colors tags method))
                ∙ overwrite_front output₀ told ∙ copied_room told output₀ (omega (arith, size_is)) in
                promised _ _ (done ∙ ap₂ left size_is (sym all))
              where
                left : ℕ → List ℕ → WriteOutcome
                left length output = record { report = accepted length; output = output }

                front_length : 8 + 4 * g.edges ≡ 0 + length (field_bytes (record { tag = 1; bytes = bytes16 n }) ++ field_bytes (record { tag = 2; bytes = bytes_of ends }))
                front_length = omega (arith, graph_bytes n ends, edges_are, graph_sizes.even)
