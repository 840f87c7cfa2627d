-- Laws of the text: its greatest length, the text of a file, the call, the example.
use Prim.Native.Nat.{ℕ, zero, suc, ◌+◌, ◌*◌, ◌≤◌, ◌<◌, min}
use mathlib.Core.Path.{◌≡◌, refl, sym, ap, ap₂, ◌∙◌}
use mathlib.Core.Logic.{inl, inr, ◌⊎◌}
use mathlib.Core.List.{List, [], ◌∷◌, ◌++◌}
use mathlib.Core.Option.{none, some, Option, bind}
use native.Mathlib.Omega.{arith}
use lib.Dec.{ltb}
use lib.ListN.{length, get_or, take, replicate, length-append}
use mir.Syntax.{w8}
use mir.Val.{Fits}
use Rattle.lists.proofs.SearchLaws.{below_all}
use borrow.Author.Tests.{ltb-true}
use mathlib.Core.Bool.{true}
use native.Mathlib.Decide.{dec_lt}
use Rattle.lists.specs.Member.{elem}
use Rattle.lists.specs.Different.{distinct, different}
use Rattle.graph.specs.Check.{first_refusal, graph_checks, numbers_pass}
use Rattle.graph.proofs.CheckLaws.{refusal_passes, answered_accepted, answered_refused, passed, refused_first}
use Rattle.graph.specs.Edges.{edge_count, first_end, second_end}
use Rattle.graph.specs.Color.{colored, colors_in, days_of, no_color, Outcome}
use Rattle.days.proofs.DaysLaws.{days_at_most}
use Rattle.graph.specs.Colored.{color_of}
use Rattle.vizing.specs.MisraGries.{misra_gries, misra_gries_checks, held}
use Rattle.vizing.specs.Demand3.{Admitted}
use Rattle.vizing.proofs.Theorem.{max_degree_bound, passed_admitted, demand3, checks_pass}
use Rattle.vizing.proofs.DefinitionLaws.{some_or_none}
use Rattle.matchday_text.specs.Text.{followed, decimal, line, edge_line, edge_lines, days_text, refused_text, report_text, outcome_text, colored_text, days_word, refused_word, space, line_feed, file_text, PassesOver, digits}
use Rattle.matchday_text.proofs.PutLaws.{decimal_length, put_front_lem}
use Rattle.lists.specs.Parts.{copied_over}
use Rattle.lists.specs.Search.{all_below}
use Rattle.graph.specs.Report.{number, report_of}
use Rattle.graph.specs.Table.{over}
use Rattle.graph.specs.declared.Refusal.{Refusal}
use Rattle.file_layout.specs.Fields.{fields, fields_up_to}
use Rattle.file_layout.specs.File.{File, tag_bit, graph_file, file_of, saved_of, WellFormed, LaidOut}
use Rattle.file_layout.specs.Outcomes.{Summary, summary}
use Rattle.file_layout.specs.Reliance.{FileReader}
use Rattle.file_layout.proofs.FileLaws.{read_laid, laid_out, read_bytes}
use Rattle.file_layout.proofs.OutcomeLaws.{over_front}
use Rattle.graph_file.specs.Report.{report_of_file}
use Rattle.file_fields.specs.Method.{method_byte}
use Rattle.file_fields.specs.declared.FileSummary.{FileSummary}
use Rattle.matchday_text.specs.Put.{Put, Room}
use Rattle.lists.proofs.PartsLaws.{take_replicate}
use Rattle.std.specs.Prelude.{Result, Ok, Err}
use Rattle.vizing.specs.Clause.{VizingColoring}
use Rattle.vizing.specs.Demand3Examples.{list_p13}
use Rattle.vizing.proofs.ClauseLaws.{p13_admitted, p13_colors, runs}
use Rattle.matchday_text.specs.Examples.{example_file, example_text, example_file_lem, example_lines, ExamplePrinted, EmptyFileRefused}

-- How long a text can be: numbers below 100,000 have five digits, and there are at most 4,096 edges.

-- ---- lines

append_bound : (s t : List ℕ) (i j : ℕ) → length s ≤ i → length t ≤ j → length (s ++ t) ≤ i + j
append_bound s t i j p q = rw (length-append s t) (omega arith)

followed_length : (x byte : ℕ) → x < 100000 → length (followed x byte) ≤ 6
unfolding followed
followed_length x byte h = append_bound (decimal x) (byte ∷ []) 5 1 (decimal_length x h) (omega arith)

module _ (ends colors : List ℕ) where
  -- The numbers of the first m edges are below 100,000.
  pub record Small (m : ℕ) : Type 0 where
    pub number : m ≤ 100000
    pub inside : (k : ℕ) → k < m → (first_end ends k < 100000) × (second_end ends k < 100000)
    pub color : (k : ℕ) → k < m → color_of colors k < 100000

  line_length : (m k : ℕ) → Small m → k < m → length (edge_line ends colors k) ≤ 24
  unfolding edge_line line
  line_length m k s h =
      let a = followed k space in
      let b = followed (first_end ends k) space in
      let c = followed (second_end ends k) space in
      let d = followed (color_of colors k) line_feed in
      append_bound (a ++ b ++ c) d 18 6
      (append_bound (a ++ b) c 12 6
      (append_bound a b 6 6 (followed_length k space (omega (arith, s.number))) (followed_length (first_end ends k) space (s.inside k h).0))
      (followed_length (second_end ends k) space (s.inside k h).1))
      (followed_length (color_of colors k) line_feed (s.color k h))

  lines_length : (m k : ℕ) → Small m → k ≤ m → length (edge_lines ends colors k) ≤ 24 * k
  unfolding edge_lines
  lines_length m zero s h = omega arith
  lines_length m (suc k) s h =
      rw (length-append (edge_lines ends colors k) (edge_line ends colors k)) (omega (arith, lines_length m k s (omega arith), line_length m k s (omega arith)))

  -- ---- the two texts

  days_length : (days : ℕ) → days < 100000 → edge_count ends ≤ 4096 → Small (edge_count ends) → length (days_text days ends colors) ≤ 98330
  unfolding days_text
  days_length days h k s =
      let d = followed days line_feed in
      let l = edge_lines ends colors (edge_count ends) in
      append_bound (days_word ++ d) l 11 98319
      (append_bound days_word d 5 6 (omega arith) (followed_length days line_feed h))
      (omega (arith, lines_length (edge_count ends) (edge_count ends) s (omega arith)))

refused_length : (number : ℕ) → number < 100000 → length (refused_text number) ≤ 14
unfolding refused_text
refused_length number h = append_bound refused_word (followed number line_feed) 8 6 (omega arith) (followed_length number line_feed h)

-- ---- the numbers of the checks

refused_below : (n : ℕ) (ends lent : List ℕ) (k : ℕ) → first_refusal (misra_gries_checks n ends lent) ≡ some k → k < 8
unfolding misra_gries_checks graph_checks numbers_pass
refused_below n ends lent k e = ltb-true k 8 (refusal_passes (λ (j : ℕ). ltb j 8) (misra_gries_checks n ends lent) k refl e)

-- ---- the days

length_take_bound : (n : ℕ) (l : List ℕ) → length (take n l) ≤ n
length_take_bound zero l = omega arith
length_take_bound (suc n) [] = omega arith
length_take_bound (suc n) (x ∷ l) = omega (arith, length_take_bound n l)

-- ---- the text of a call

module _ (n : ℕ) (ends lent : List ℕ) where
  pub refuses : (k : ℕ) → first_refusal (misra_gries_checks n ends lent) ≡ some k → outcome_text ends (misra_gries n ends lent) ≡ refused_text k
  unfolding outcome_text misra_gries colored report_text
  refuses k e = rw (sym (answered_refused (misra_gries_checks n ends lent) k (days_of (take (edge_count ends) (held n ends (edge_count ends)))) e))

  pub accepts : first_refusal (misra_gries_checks n ends lent) ≡ none → outcome_text ends (misra_gries n ends lent) ≡ days_text (days_of (take (edge_count ends) (held n ends (edge_count ends)))) ends (misra_gries n ends lent).colors
  unfolding outcome_text misra_gries colored report_text
  accepts e = rw (sym (answered_accepted (misra_gries_checks n ends lent) (days_of (take (edge_count ends) (held n ends (edge_count ends)))) e))

  -- An accepted call's colours and days are small numbers: no colour is above D, which is at most m, and there are no more days than edges.
  colors_below : Admitted n ends → length lent ≡ edge_count ends → (k : ℕ) → k < edge_count ends → color_of (misra_gries n ends lent).colors k ≤ 4096
  colors_below a l k h = omega (arith, (demand3 n ends lent a l).accurate.range k h, max_degree_bound ends (edge_count ends) n, a.edges)

  days_small : Admitted n ends → days_of (take (edge_count ends) (held n ends (edge_count ends))) ≤ 4096
  days_small a =
      let m = edge_count ends in
      let l = held n ends m in
      omega (arith, days_at_most (take m l), length_take_bound m l, a.edges)

  -- The text of every call has this many bytes at most.
  outcome_bound : length (outcome_text ends (misra_gries n ends lent)) ≤ 98330
  outcome_bound = elim (some_or_none (first_refusal (misra_gries_checks n ends lent))) [
    | inl e ↦
        let p = passed_admitted n ends lent e in
        let a = p.0 in
        rw (accepts e) (days_length ends (misra_gries n ends lent).colors _ (omega (arith, days_small a)) a.edges
        (record {
          number = omega (arith, a.edges);
          inside = λ k h. let b = a.inside k h in (omega (arith, b.0, a.nodes), omega (arith, b.1, a.nodes));
          color = λ k h. omega (arith, colors_below a p.1 k h);
        }))
    | inr (k, e) ↦ rw (refuses k e) (omega (arith, refused_length k (omega (arith, refused_below n ends lent k e))))
  ]

colored_bound : (n : ℕ) (ends : List ℕ) → length (colored_text n ends) ≤ 98330
unfolding colored_text
colored_bound n ends = outcome_bound n ends (replicate (edge_count ends) no_color)

-- ---- laws of a file's text: what is read is the file's graph, and the text of every file has room in 98,330 bytes

file_or_none : (o : Option File) → (o ≡ none) ⊎ ((file : File) × (o ≡ some file))
file_or_none none = inl refl
file_or_none (some file) = inr (file, refl)

no_file_text : (bytes : List ℕ) → file_of bytes ≡ none → file_text bytes ≡ refused_text 10
unfolding file_text
no_file_text bytes e = rw (e, file_text)

file_text_lem : (bytes : List ℕ) (file : File) → file_of bytes ≡ some file → file_text bytes ≡ colored_text file.nodes file.ends
unfolding file_text
file_text_lem bytes file e = rw (e, file_text)

-- ---- the length

-- A buffer of 98,330 bytes has room for the text of every file.
pub text_bound : (bytes : List ℕ) → length (file_text bytes) ≤ 98330
text_bound bytes = elim (file_or_none (file_of bytes)) [
  | inl e ↦ rw (no_file_text bytes e) (omega (arith, refused_length 10 (omega arith)))
  | inr (file, e) ↦ rw (file_text_lem bytes file e) (colored_bound file.nodes file.ends)
]

pub text_fits : (bytes : List ℕ) (r : ℕ) → r ≡ length (file_text bytes) → r ≤ 98330
text_fits bytes r e = omega (arith, e, text_bound bytes)

-- ---- the promises of a file's text

-- What the code answers and writes is the file's text, whichever tags stand behind the graph.
abbrev Printed : List ℕ → List ℕ → ℕ → List ℕ → Type 0
Printed bytes before answer after = (answer ≡ length (file_text bytes)) × ((after ≡ copied_over (file_text bytes) before) × PassesOver bytes before answer after)

printed : (bytes before after : List ℕ) (answer : ℕ) → answer ≡ length (file_text bytes) → after ≡ copied_over (file_text bytes) before → Printed bytes before answer after
printed bytes before after answer p q =
    (p, (q, record { graph_text = λ file l. let e = file_text_lem bytes file (read_laid bytes file l) in (p ∙ ap length e, q ∙ ap (λ (t : List ℕ). copied_over t before) e) }))

module _ (bytes ends₀ colors₀ : List ℕ) (c : Result FileSummary Refusal) (ends colors : List ℕ) (room : length ends₀ ≡ 8192) (places : length colors₀ ≡ 4096)
    (reader : FileReader bytes ends₀ colors₀ (report_of_file c) ends colors) where
  -- ---- a refused reading

  module _ (r : Refusal) (p : c ≡ Err r) (x : ℕ) (q : x ≡ number r) (fits : (i : ℕ) → Fits w8 (get_or bytes i 0)) where
    below : all_below 256 bytes ≡ true
    below = below_all 256 bytes (λ i h. omega (arith, fits i))

    -- A file has no more colours than edges.
    colors_room : (file : File) → WellFormed file → length file.colors ≤ 4096
    colors_room file w = elim w.others [
      | inl a ↦ rw a.colors (omega arith)
      | inr (inl a) ↦ omega (arith, a.colors, w.edges)
      | inr (inr a) ↦ omega (arith, a.colors, w.edges)
    ]

    -- With room for the ends and colours of every file only bytes without the layout are refused.
    no_file : file_of bytes ≡ none
    no_file = elim (file_or_none (file_of bytes)) [
      | inl e ↦ e
      | inr (file, e) ↦
          let l = laid_out bytes file below e in
          let a = (reader.reads file l (omega (arith, l.formed.even, l.formed.edges)) (omega (arith, colors_room file l.formed))).0 in
          let b = ap report_of_file p in
          let z : ◌≡◌ {A = ℕ} 0 1 = cc in
          absurd (omega arith)
    ]

    ten : x ≡ 10
    ten =
        let a = reader.bad (λ file l. let b = read_laid bytes file l in let e = no_file in let z : ◌≡◌ {A = ℕ} 0 1 = cc in omega arith) in
        let b = ap report_of_file p in
        let i : number r ≡ 10 = cc in
        q ∙ i

    unread_whole : file_text bytes ≡ refused_text x
    unread_whole = no_file_text bytes no_file ∙ ap refused_text (sym ten)

    pub unread_room : Room 0 (refused_text x)
    unread_room = record { below = let b = refused_length x (omega (arith, ten)) in omega (arith, b) }

    pub unread_text : (before after : List ℕ) (end : ℕ) → Put before 0 (refused_text x) after end → Printed bytes before end after
    unread_text before after end put =
        let f = put_front_lem before (refused_text x) after end put in
        printed bytes before after end (f.0 ∙ ap length (sym unread_whole)) (f.1 ∙ ap (λ (t : List ℕ). copied_over t before) (sym unread_whole))

  -- ---- a file that was read

  module _ (s : FileSummary) (p : c ≡ Ok s) where
    abbrev found : (file : File) × LaidOut bytes file × (summary file ≡ (s.nodes, s.edges, s.tags, method_byte s.method)) × (ends ≡ over file.ends ends₀) × (colors ≡ over file.colors colors₀)
    found = reader.laid (s.nodes, s.edges, s.tags, method_byte s.method) (ap report_of_file p)

    edges_are : edge_count found.0.ends ≡ s.edges
    unfolding summary
    edges_are = ap (λ (u : Summary). u.1) found.2

    nodes_are : found.0.nodes ≡ s.nodes
    unfolding summary
    nodes_are = ap (λ (u : Summary). u.0) found.2

    pub read_edges : s.edges ≤ 4096
    read_edges = omega (arith, found.1.formed.edges, edges_are)

    -- The ends of the file are the first 2m numbers of the list.
    read_ends : file_text bytes ≡ colored_text s.nodes (take (2 * s.edges) ends)
    read_ends =
        let k : 2 * s.edges ≡ length found.0.ends = omega (arith, found.1.formed.even, edges_are) in
        let e : take (2 * s.edges) ends ≡ found.0.ends = ap (take (2 * s.edges)) found.3 ∙ over_front found.0.ends ends₀ (2 * s.edges) k in
        file_text_lem bytes found.0 (read_laid bytes found.0 found.1) ∙ ap₂ colored_text nodes_are (sym e)

    pub read_text : (before after : List ℕ) (end : ℕ) → end ≡ length (colored_text s.nodes (take (2 * s.edges) ends)) → after ≡ copied_over (colored_text s.nodes (take (2 * s.edges) ends)) before → Printed bytes before end after
    read_text before after end h k = printed bytes before after end (h ∙ ap length (sym read_ends)) (k ∙ ap (λ (t : List ℕ). copied_over t before) (sym read_ends))

-- Laws of a call's text: one for each answer, and the places that are lent.

-- ---- the answers of a call

refused_answer : (ends : List ℕ) (o : Outcome) (c : Result ℕ Refusal) (r : Refusal) → report_of c ≡ o.report → c ≡ Err r → outcome_text ends o ≡ refused_text (number r)
unfolding outcome_text report_text
refused_answer ends o c r e p = rw (sym e, p)

accepted_answer : (ends : List ℕ) (o : Outcome) (c : Result ℕ Refusal) (days : ℕ) (colors : List ℕ) → report_of c ≡ o.report → c ≡ Ok days → colors ≡ o.colors → outcome_text ends o ≡ days_text days ends colors
unfolding outcome_text report_text
accepted_answer ends o c days colors e p q = rw (sym e, p, q)

module _ (n : ℕ) (ends lent : List ℕ) where
  abbrev whole : List ℕ
  whole = outcome_text ends (misra_gries n ends lent)

  -- A text put from the front.
  done : (text before after : List ℕ) (end : ℕ) → whole ≡ text → Put before 0 text after end → (end ≡ length whole) × (after ≡ copied_over whole before)
  done text before after end e p = rw e (put_front_lem before text after end p)

  room : (text : List ℕ) → whole ≡ text → Room 0 text
  room text e = record { below = let b = rw e at (outcome_bound n ends lent) in omega (arith, b) }

  module _ (c : Result ℕ Refusal) (r : Refusal) (x : ℕ) (e : report_of c ≡ (misra_gries n ends lent).report) (p : c ≡ Err r) (q : x ≡ number r) where
    refused_whole : whole ≡ refused_text x
    refused_whole = rw q (refused_answer ends (misra_gries n ends lent) c r e p)

    pub refused_room : Room 0 (refused_text x)
    refused_room = room (refused_text x) refused_whole

    pub refused_text_lem : (before after : List ℕ) (end : ℕ) → Put before 0 (refused_text x) after end → (end ≡ length whole) × (after ≡ copied_over whole before)
    refused_text_lem before after end put = done (refused_text x) before after end refused_whole put

  module _ (c : Result ℕ Refusal) (days : ℕ) (colors : List ℕ) (e : report_of c ≡ (misra_gries n ends lent).report) (p : c ≡ Ok days) (q : colors ≡ (misra_gries n ends lent).colors) where
    accepted_whole : whole ≡ days_text days ends colors
    accepted_whole = accepted_answer ends (misra_gries n ends lent) c days colors e p q

    pub accepted_room : VizingColoring n ends lent (report_of c) colors → (edge_count ends ≤ 65535) × Room 0 (days_text days ends colors)
    accepted_room coloring = (omega (arith, (coloring.admits days (ap report_of p)).0.edges), room (days_text days ends colors) accepted_whole)

    pub accepted_text : (before after : List ℕ) (end : ℕ) → Put before 0 (days_text days ends colors) after end → (end ≡ length whole) × (after ≡ copied_over whole before)
    accepted_text before after end put = done (days_text days ends colors) before after end accepted_whole put

-- ---- the places lent

-- A list of more than 4,096 edges is refused before the colour slice is looked at.
pub lent_places : (n : ℕ) (ends : List ℕ) → outcome_text ends (misra_gries n ends (take (min (edge_count ends) 4096) (replicate 4096 no_color))) ≡ colored_text n ends
unfolding colored_text misra_gries_checks
lent_places n ends = elim (dec_lt 4096 (edge_count ends)) [
  | yes h ↦ elim (some_or_none (first_refusal (graph_checks n ends))) [
    | inl e ↦ let z : ⊥ = omega (arith, (passed n ends e).edges) in absurd z
    | inr (k, e) ↦ same k e
  ]
  | no h ↦ let q : min (edge_count ends) 4096 ≡ edge_count ends = omega arith in rw (q, take_replicate (edge_count ends) 4096 no_color (omega arith))
]
  where
    text : (k : ℕ) → first_refusal (graph_checks n ends) ≡ some k → (lent : List ℕ) → outcome_text ends (misra_gries n ends lent) ≡ refused_text k
    text k e lent = refuses n ends lent k (refused_first (graph_checks n ends) _ k e)

    same : (k : ℕ) → first_refusal (graph_checks n ends) ≡ some k → outcome_text ends (misra_gries n ends (take (min (edge_count ends) 4096) (replicate 4096 no_color))) ≡ outcome_text ends (misra_gries n ends (replicate (edge_count ends) no_color))
    same k e = text k e _ ∙ sym (text k e _)

pub graph_done : (n : ℕ) (ends : List ℕ) (m : ℕ) (before after : List ℕ) (end : ℕ) → m ≡ min (edge_count ends) 4096
    → end ≡ length (outcome_text ends (misra_gries n ends (take m (replicate 4096 no_color)))) → after ≡ copied_over (outcome_text ends (misra_gries n ends (take m (replicate 4096 no_color)))) before
    → (end ≡ length (colored_text n ends)) × (after ≡ copied_over (colored_text n ends) before)
graph_done n ends m before after end h p q =
    let e = ap (λ (i : ℕ). outcome_text ends (misra_gries n ends (take i (replicate 4096 no_color)))) h ∙ lent_places n ends in
    (p ∙ ap length e, q ∙ ap (λ (l : List ℕ). copied_over l before) e)

-- ---- the texts of the examples are those printed there

example_colored : colored_text 4 list_p13 ≡ example_text
unfolding colored_text days_of colors_in different distinct elem
example_colored =
    accepts 4 list_p13 (replicate 4 no_color) (checks_pass 4 list_p13 (replicate 4 no_color) p13_admitted refl)
    ∙ ap (days_text _ list_p13) p13_colors
    ∙ ap (λ (cs : List ℕ). days_text (days_of cs) list_p13 (2 ∷ 1 ∷ 0 ∷ 2 ∷ [])) runs.3
    ∙ example_lines

pub example : ExamplePrinted
unfolding graph_file tag_bit all_below
example = file_text_lem example_file (graph_file 4 list_p13) (ap file_of example_file_lem ∙ read_bytes (graph_file 4 list_p13) formed) ∙ example_colored
  where
    formed : WellFormed (graph_file 4 list_p13)
    formed = record { nodes = omega arith; below = refl; even = refl; edges = omega arith; others = inl (record { tags = refl; colors = refl; method = refl }) }

pub empty_file : EmptyFileRefused
unfolding bind file_of fields fields_up_to saved_of refused_text followed decimal digits
empty_file = no_file_text [] refl
