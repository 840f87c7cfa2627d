-- Laws of the outcomes: one for each answer of reading and of writing, and what is relied on.
use Prim.Native.Nat.{ℕ, ◌+◌, ◌*◌, ◌≤◌, ◌<◌}
use mathlib.Core.Path.{◌≡◌, refl, sym, ap, ap₂, ◌∙◌}
use mathlib.Core.Logic.{◌⊎◌, inl, inr}
use mathlib.Core.Bool.{Bool, true, false, not, ◌&&◌, ◌||◌, cond, true≢false, false≢true}
use mathlib.Core.List.{List, [], ◌∷◌, ◌++◌, append-nil}
use mathlib.Core.Option.{Option, none, some, none-ne-some}
use native.Mathlib.Omega.{arith}
use lib.ListN.{length, take, drop, replicate, length-replicate, get_or-replicate}
use lib.Seq.{take-append_seam, drop-append_seam}
use lib.Dec.{ltb, eqb}
use borrow.Author.Tests.{lt-ltb, le-ltb, eq-eqb, ne_eqb, eqb-true, ltb-true, ltb-false, not-false}
use Rattle.lists.specs.Search.{all_below}
use Rattle.lists.proofs.SearchLaws.{below_all}
use Rattle.lists.proofs.Tests.{by-test, or_false}
use Rattle.graph.specs.Report.{Report, accepted, refused}
use Rattle.graph.specs.Check.{Check, ◌gives◌, first_refusal, graph_checks, Passed}
use Rattle.graph.proofs.CheckLaws.{answered_refused, answered_accepted, written_refused, written_accepted, refused_first, passed_first, passed_both, passed_one, first_refuses, first_passes, all_passed, passed, passes}
use Rattle.graph.specs.Edges.{edge_count}
use Rattle.graph.specs.Table.{over}
use Rattle.file_layout.specs.Fields.{bytes_of, Field, fields_bytes}
use Rattle.file_layout.specs.File.{File, tag_bit, has_tag, unnamed, file_of, field_if, other_fields, file_bytes, GraphAlone, WithColors, WithMethod, WellFormed, LaidOut}
use Rattle.file_layout.specs.Outcomes.{is_none, or_empty, Summary, summary, read_checks, ReadOutcome, read_file, told_file, write_checks, WriteOutcome, write_file}
use Rattle.file_layout.specs.Reliance.{most_bytes, LongestFile, FileReader, Tells, FileWriter}
use Rattle.file_layout.proofs.FieldLaws.{length_bytes}
use Rattle.file_layout.proofs.FileLaws.{file_of_parts, read_bytes, read_laid, laid_out, length_others, length_header}

-- ---- reading

module _ (bytes ends₀ colors₀ : List ℕ) where
  abbrev outcome : ReadOutcome
  outcome = read_file bytes ends₀ colors₀

  abbrev Refused : ℕ → Type 0
  Refused k = outcome ≡ record { report = refused k; ends = ends₀; colors = colors₀ }

  abbrev Read : File → Type 0
  Read file = outcome ≡ record { report = accepted (summary file); ends = over file.ends ends₀; colors = over file.colors colors₀ }

  read_refused : (k : ℕ) → first_refusal (read_checks bytes ends₀ colors₀) ≡ some k → Refused k
  unfolding read_file
  read_refused k e = rw (
    sym (answered_refused (read_checks bytes ends₀ colors₀) k (summary (or_empty (file_of bytes))) e),
    sym (written_refused (read_checks bytes ends₀ colors₀) k ends₀ (over (or_empty (file_of bytes)).ends ends₀) e),
    sym (written_refused (read_checks bytes ends₀ colors₀) k colors₀ (over (or_empty (file_of bytes)).colors colors₀) e),
  )

  pub read_bad : file_of bytes ≡ none → Refused 10
  unfolding read_checks first_refusal is_none
  read_bad e = read_refused 10 (simp e)

  module _ (file : File) (e : file_of bytes ≡ some file) where
    pub short_ends : length ends₀ < 2 * edge_count file.ends → Refused 5
    unfolding read_checks first_refusal is_none or_empty
    short_ends h = read_refused 5 (simp (e, lt-ltb (length ends₀) (2 * edge_count file.ends) h))

    pub short_colors : length colors₀ < length file.colors → Refused 5
    unfolding read_checks first_refusal is_none or_empty
    short_colors h = by-test (ltb (length ends₀) (2 * edge_count file.ends))
        (λ t. read_refused 5 (simp (e, t)))
        (λ t. read_refused 5 (simp (e, t, lt-ltb (length colors₀) (length file.colors) h)))

    pub file_read : 2 * edge_count file.ends ≤ length ends₀ → length file.colors ≤ length colors₀ → Read file
    unfolding read_file read_checks first_refusal is_none or_empty
    file_read h k =
        let checks = read_checks bytes ends₀ colors₀ in
        let p : first_refusal checks ≡ none = simp (e, le-ltb (length ends₀) (2 * edge_count file.ends) h, le-ltb (length colors₀) (length file.colors) k) in
        let the : or_empty (file_of bytes) ≡ file = rw e in
        let a = answered_accepted checks (summary (or_empty (file_of bytes))) p in
        let b = written_accepted checks ends₀ (over (or_empty (file_of bytes)).ends ends₀) p in
        let d = written_accepted checks colors₀ (over (or_empty (file_of bytes)).colors colors₀) p in
        rw (sym a, sym b, sym d, the)

-- ---- the length of a file

length_some : (told : Bool) (tag : ℕ) (bytes : List ℕ) (fs : List Field) → length (fields_bytes (field_if told tag bytes ++ fs)) ≡ cond told (3 + length bytes) 0 + length (fields_bytes fs)
unfolding field_if
length_some true tag bytes fs = length_header tag bytes fs
length_some false tag bytes fs = omega arith

length_optional : (colors : List ℕ) (tags method : ℕ) → length (fields_bytes (other_fields colors tags method)) ≡ cond (has_tag 3 tags) (3 + 2 * length colors) 0 + cond (has_tag 4 tags) 4 0
unfolding other_fields fields_bytes
length_optional colors tags method =
    let method_field_lem = field_if (has_tag 4 tags) 4 (method ∷ []) in
    let a = length_some (has_tag 3 tags) 3 (bytes_of colors) method_field_lem in
    let b = ap (λ (fs : List Field). length (fields_bytes fs)) (append-nil method_field_lem) in
    let d = length_some (has_tag 4 tags) 4 (method ∷ []) [] in
    let e : length (fields_bytes method_field_lem) ≡ cond (has_tag 4 tags) 4 0 = omega arith in
    a ∙ rw (length_bytes colors, e)

length_file : (file : File) → length (file_bytes file) ≡ 8 + 2 * length file.ends + (cond (has_tag 3 file.tags) (3 + 2 * length file.colors) 0 + cond (has_tag 4 file.tags) 4 0)
length_file file = length_others file ∙ ap (λ (x : ℕ). 8 + 2 * length file.ends + x) (length_optional file.colors file.tags file.method)

-- "The longest file is now 24,591 bytes."
file_longest : (file : File) → WellFormed file → length (file_bytes file) ≤ most_bytes
unfolding has_tag tag_bit
file_longest file w =
    let e = length_file file in
    let told : (tags : ℕ) → file.tags ≡ tags → length (file_bytes file) ≡ 8 + 2 * length file.ends + (cond (has_tag 3 tags) (3 + 2 * length file.colors) 0 + cond (has_tag 4 tags) 4 0)
    = λ tags t. e ∙ ap (λ (x : ℕ). 8 + 2 * length file.ends + (cond (has_tag 3 x) (3 + 2 * length file.colors) 0 + cond (has_tag 4 x) 4 0)) t in
    elim w.others [
      | inl a ↦ let l : length (file_bytes file) ≡ 8 + 2 * length file.ends + (0 + 0) = told 3 a.tags in omega (arith, w.even, w.edges)
      | inr (inl a) ↦ let l : length (file_bytes file) ≡ 8 + 2 * length file.ends + (3 + 2 * length file.colors + 0) = told 7 a.tags in omega (arith, w.even, w.edges, a.colors)
      | inr (inr a) ↦ let l : length (file_bytes file) ≡ 8 + 2 * length file.ends + (3 + 2 * length file.colors + 4) = told 15 a.tags in omega (arith, w.even, w.edges, a.colors)
    ]

-- 4,096 edges, their colours and a method.
longest : File
longest = record { nodes = 512; ends = replicate 8192 0; colors = replicate 4096 0; tags = 15; method = 3 }

zeros_below : (k : ℕ) → all_below 65536 (replicate k 0) ≡ true
zeros_below k = below_all 65536 (replicate k 0) (λ i h. omega (arith, get_or-replicate {A = ℕ} k i 0 0 (rw (length-replicate {A = ℕ} k 0) at h)))

pub longest_file : LongestFile
unfolding longest has_tag tag_bit
longest_file =
    let e : length longest.ends ≡ 8192 = length-replicate {A = ℕ} 8192 0 in
    let c : length longest.colors ≡ 4096 = length-replicate {A = ℕ} 4096 0 in
    let l : length (file_bytes longest) ≡ 8 + 2 * length longest.ends + (3 + 2 * length longest.colors + 4) = length_file longest in (
      longest,
      record {
        nodes = omega arith;
        below = zeros_below 8192;
        even = omega arith;
        edges = omega arith;
        others = inr (inr (record { tags = refl; colors = omega arith; below = zeros_below 4096; method = omega arith }));
      },
      omega arith,
    )

-- ---- what is read is written again

-- The front of a list that another was written over.
pub over_front : (front before : List ℕ) (k : ℕ) → k ≡ length front → take k (over front before) ≡ front
over_front front before k h = rw h (take-append_seam front (drop (length front) before))

over_rest : (front before : List ℕ) (k : ℕ) → k ≡ length front → drop k (over front before) ≡ drop k before
over_rest front before k h = rw h (drop-append_seam front (drop (length front) before))

-- The file of a call that is handed what a file says.
told_again : (file : File) (given : List ℕ) → WellFormed file → (has_tag 3 file.tags ≡ true → given ≡ file.colors) → told_file file.nodes file.ends given file.tags file.method ≡ file
unfolding told_file has_tag tag_bit
told_again file given w h =
    let told : ℕ → List ℕ → File = λ tags colors. told_file file.nodes file.ends colors tags file.method in
    elim w.others [
      | inl a ↦ ap (λ (t : ℕ). told t given) a.tags ∙ file_of_parts file _ _ _ _ _ refl refl a.colors a.tags a.method
      | inr (inl a) ↦ ap₂ told a.tags (h (rw a.tags)) ∙ file_of_parts file _ _ _ _ _ refl refl refl a.tags a.method
      | inr (inr a) ↦ ap₂ told a.tags (h (rw a.tags)) ∙ file_of_parts file _ _ _ _ _ refl refl refl a.tags refl
    ]

-- ---- the fields and the length of what is told

-- The tags of what is told tell the same.
abbrev told_tags : Bool → Bool → ℕ
told_tags a b = tag_bit 1 + tag_bit 2 + cond a (tag_bit 3) 0 + cond b (tag_bit 4) 0

told_3 : (a b : Bool) → has_tag 3 (told_tags a b) ≡ a
unfolding has_tag tag_bit
told_3 true true = refl
told_3 true false = refl
told_3 false true = refl
told_3 false false = refl

told_4 : (a b : Bool) → has_tag 4 (told_tags a b) ≡ b
unfolding has_tag tag_bit
told_4 true true = refl
told_4 true false = refl
told_4 false true = refl
told_4 false false = refl

told_colors : (a : Bool) (colors : List ℕ) → field_if a 3 (bytes_of (cond a colors [])) ≡ field_if a 3 (bytes_of colors)
unfolding field_if
told_colors true colors = refl
told_colors false colors = refl

told_method : (b : Bool) (method : ℕ) → field_if b 4 (cond b method unnamed ∷ []) ≡ field_if b 4 (method ∷ [])
unfolding field_if
told_method true method = refl
told_method false method = refl

pub told_fields : (n : ℕ) (ends colors : List ℕ) (tags method : ℕ)
    → other_fields (told_file n ends colors tags method).colors (told_file n ends colors tags method).tags (told_file n ends colors tags method).method ≡ other_fields colors tags method
unfolding told_file other_fields
told_fields n ends colors tags method =
    let a = has_tag 3 tags in
    let b = has_tag 4 tags in
    ap₂ (λ (x y : Bool). field_if x 3 (bytes_of (cond a colors [])) ++ field_if y 4 (cond b method unnamed ∷ [])) (told_3 a b) (told_4 a b)
    ∙ ap₂ (λ (x y : List Field). x ++ y) (told_colors a colors) (told_method b method)

pub length_told : (n : ℕ) (ends colors : List ℕ) (tags method : ℕ) → length ends ≡ 2 * edge_count ends → (has_tag 3 tags ≡ true → length colors ≡ edge_count ends)
    → length (file_bytes (told_file n ends colors tags method)) ≡ 8 + 4 * edge_count ends + cond (has_tag 3 tags) (3 + 2 * edge_count ends) 0 + cond (has_tag 4 tags) 4 0
unfolding told_file
length_told n ends colors tags method e h =
    let l = length_others (told_file n ends colors tags method) in
    let f = ap (λ (fs : List Field). length (fields_bytes fs)) (told_fields n ends colors tags method) in
    let o = length_optional colors tags method in
    let d : cond (has_tag 3 tags) (3 + 2 * length colors) 0 ≡ cond (has_tag 3 tags) (3 + 2 * edge_count ends) 0 =
    by-test (has_tag 3 tags) (λ t. rw (t, h t)) (λ t. rw t) in
    omega arith

-- ---- writing

module _ (n : ℕ) (ends colors : List ℕ) (tags method : ℕ) (output₀ : List ℕ) where
  abbrev told : File
  told = told_file n ends colors tags method

  abbrev checks : List Check
  checks = write_checks n ends colors tags method output₀

  abbrev WriteRefused : ℕ → Type 0
  WriteRefused k = write_file n ends colors tags method output₀ ≡ record { report = refused k; output = output₀ }

  abbrev Written : Type 0
  Written = write_file n ends colors tags method output₀ ≡ record { report = accepted (length (file_bytes told)); output = over (file_bytes told) output₀ }

  write_refused : (k : ℕ) → first_refusal checks ≡ some k → WriteRefused k
  unfolding write_file
  write_refused k e = rw (sym (answered_refused checks k (length (file_bytes told)) e), sym (written_refused checks k output₀ (over (file_bytes told) output₀) e))

  write_accepted : first_refusal checks ≡ none → Written
  unfolding write_file
  write_accepted e = rw (sym (answered_accepted checks (length (file_bytes told)) e), sym (written_accepted checks output₀ (over (file_bytes told) output₀) e))

  pub refused_graph : (k : ℕ) → first_refusal (graph_checks n ends) ≡ some k → WriteRefused k
  unfolding write_checks
  refused_graph k e = write_refused k (refused_first (graph_checks n ends) _ k e)

  -- The two tests behind the graph checks.
  abbrev misnamed : Bool
  misnamed = has_tag 4 tags && (ltb 3 method || not (has_tag 3 tags))

  abbrev wrong_colors : Bool
  wrong_colors = has_tag 3 tags && not (eqb (length colors) (edge_count ends))

  abbrev short : Bool
  short = ltb (length output₀) (length (file_bytes told))

  module _ (p : first_refusal (graph_checks n ends) ≡ none) where
    after_graph_lem : first_refusal checks ≡ first_refusal ((misnamed gives 10) ∷ (wrong_colors || short gives 5) ∷ [])
    unfolding write_checks
    after_graph_lem = passed_first (graph_checks n ends) _ p

    pub refused_misnamed : misnamed ≡ true → WriteRefused 10
    refused_misnamed t = write_refused 10 (after_graph_lem ∙ first_refuses misnamed 10 _ t)

    module _ (t : misnamed ≡ false) where
      after_names : first_refusal checks ≡ first_refusal ((wrong_colors || short gives 5) ∷ [])
      after_names = after_graph_lem ∙ first_passes misnamed 10 _ t

      pub refused_colors : wrong_colors ≡ true → WriteRefused 5
      refused_colors u = write_refused 5 (after_names ∙ first_refuses (wrong_colors || short) 5 [] (simp u))

      module _ (u : wrong_colors ≡ false) where
        pub refused_short : length output₀ < length (file_bytes told) → WriteRefused 5
        refused_short h = write_refused 5 (after_names ∙ first_refuses (wrong_colors || short) 5 [] (simp (u, lt-ltb (length output₀) (length (file_bytes told)) h)))

        pub accepted_writing : length (file_bytes told) ≤ length output₀ → Written
        accepted_writing h = write_accepted (after_names ∙ first_passes (wrong_colors || short) 5 [] (simp (u, le-ltb (length output₀) (length (file_bytes told)) h)) ∙ all_passed)

  -- ---- what was told is a file

  passed_tells : first_refusal checks ≡ none → Tells n ends colors tags method × (length (file_bytes told) ≤ length output₀)
  unfolding write_checks
  passed_tells e =
      let b = passed_both (graph_checks n ends) ((misnamed gives 10) ∷ (wrong_colors || short gives 5) ∷ []) e in
      let x = passed_one misnamed 10 _ b.1 in
      let y = passed_one (wrong_colors || short) 5 [] x.1 in
      let z = or_false wrong_colors short y.0 in (
        record {
          graph = passed n ends b.0;
          named = λ t.
              let w : ltb 3 method || not (has_tag 3 tags) ≡ false = simp t at x.0 in
              let o = or_false (ltb 3 method) (not (has_tag 3 tags)) w in
              (not-false (has_tag 3 tags) o.1, ltb-false 3 method o.0);
          colored = λ t. eqb-true (length colors) (edge_count ends) (not-false (eqb (length colors) (edge_count ends)) (simp t at z.0));
        },
        ltb-false (length output₀) (length (file_bytes told)) z.1,
      )

  -- The tests of what is told right, and wrong.
  named_test : (has_tag 4 tags ≡ true → (has_tag 3 tags ≡ true) × (method ≤ 3)) → misnamed ≡ false
  named_test h = by-test (has_tag 4 tags) (λ t. let a = h t in simp (t, a.0, le-ltb 3 method a.1)) (λ t. simp t)

  misnamed_test : has_tag 4 tags ≡ true → (3 < method) ⊎ (has_tag 3 tags ≡ false) → misnamed ≡ true
  misnamed_test t (inl h) = simp (t, lt-ltb 3 method h)
  misnamed_test t (inr e) = by-test (ltb 3 method) (λ u. simp (t, u)) (λ u. simp (t, u, e))

  colored_test : (has_tag 3 tags ≡ true → length colors ≡ edge_count ends) → wrong_colors ≡ false
  colored_test h = by-test (has_tag 3 tags) (λ t. simp (t, eq-eqb (length colors) (edge_count ends) (h t))) (λ t. simp t)

  tells_passed : Tells n ends colors tags method → length (file_bytes told) ≤ length output₀ → Written
  tells_passed w h = accepted_writing (passes n ends w.graph) (named_test w.named) (colored_test w.colored) h

  module _ (b : all_below 65536 colors ≡ true) (w : Tells n ends colors tags method) where
    told_others : GraphAlone told ⊎ (WithColors told ⊎ WithMethod told)
    unfolding told_file tag_bit
    told_others = by-test (has_tag 3 tags)
        (λ t. by-test (has_tag 4 tags)
        (λ u. inr (inr (record { tags = rw (t, u); colors = rw t (w.colored t); below = rw t b; method = rw u (w.named u).1 })))
        (λ u. inr (inl (record { tags = rw (t, u); colors = rw t (w.colored t); below = rw t b; method = rw u }))))
        (λ t. by-test (has_tag 4 tags)
        (λ u. let z : true ≡ false = sym (w.named u).0 ∙ t in absurd (true≢false z))
        (λ u. inl (record { tags = rw (t, u); colors = rw t; method = rw u })))

    told_formed : WellFormed told
    unfolding told_file
    told_formed = record {
      nodes = omega (arith, w.graph.nodes);
      below = below_all 65536 ends (λ i h. omega (arith, w.graph.inside i h, w.graph.nodes));
      even = w.graph.even;
      edges = w.graph.edges;
      others = told_others;
    }

    when_written : length (file_bytes told) ≤ length output₀ → FileWriter n ends colors tags method output₀ (accepted (length (file_bytes told))) (over (file_bytes told) output₀)
    unfolding told_file
    when_written room =
        let bytes = file_bytes told in
        let size_is : (size : ℕ) → accepted (length bytes) ≡ accepted size → size ≡ length bytes = λ size p. cc in
        let front : (size : ℕ) → accepted (length bytes) ≡ accepted size → take size (over bytes output₀) ≡ bytes = λ size p. over_front bytes output₀ size (size_is size p) in
        record {
          laid = λ size p. record { same = front size p; formed = told_formed };
          back = λ size p ends₁ colors₁ h i. ap (λ (x : List ℕ). read_file x ends₁ colors₁) (front size p) ∙ file_read bytes ends₁ colors₁ told (read_bytes told told_formed) (omega (arith, w.graph.even)) i;
          beyond = λ size p. (omega (arith, size_is size p), over_rest bytes output₀ size (size_is size p));
          kept = λ k p. let z : ◌≡◌ {A = ℕ} 0 1 = cc in absurd (omega arith);
          longest = λ size p. omega (arith, size_is size p, file_longest told told_formed);
          writes = λ t h. refl;
          short = λ t h. let z : ⊥ = omega arith in absurd z;
          bad_graph = λ k e. let z : ◌≡◌ {A = ℕ} 0 1 = cc (sym (passes n ends w.graph) ∙ e) in absurd (omega arith);
          bad_method = λ p t o. let a = w.named t in elim o [ inl h ↦ let z : ⊥ = omega (arith, a.1) in absurd z | inr e ↦ absurd (true≢false (sym a.0 ∙ e)) ];
          bad_colors = λ p named t no. absurd (no (w.colored t));
        }

  module _ (b : all_below 65536 colors ≡ true) where
    -- One outcome has one number, and is not refused and accepted.
    same_number : (k j : ℕ) → first_refusal checks ≡ some k → WriteRefused j → ◌≡◌ {A = Report ℕ} (refused k) (refused j)
    same_number k j e r = ap (λ (o : WriteOutcome). o.report) (sym (write_refused k e) ∙ r)

    not_both : (k : ℕ) → first_refusal checks ≡ some k → Written → ⊥
    not_both k e w =
        let x = ap (λ (o : WriteOutcome). o.report) (sym (write_refused k e) ∙ w) in
        let z : ◌≡◌ {A = ℕ} 0 1 = cc in
        omega arith

    when_refused : (k : ℕ) → first_refusal checks ≡ some k → FileWriter n ends colors tags method output₀ (refused k) output₀
    when_refused k e = record {
      laid = λ size p. let z : ◌≡◌ {A = ℕ} 0 1 = cc in absurd (omega arith);
      back = λ size p ends₁ colors₁ h i. let z : ◌≡◌ {A = ℕ} 0 1 = cc in absurd (omega arith);
      beyond = λ size p. let z : ◌≡◌ {A = ℕ} 0 1 = cc in absurd (omega arith);
      kept = λ j p. refl;
      longest = λ size p. let z : ◌≡◌ {A = ℕ} 0 1 = cc in absurd (omega arith);
      writes = λ t h. absurd (not_both k e (tells_passed t h));
      short = λ t h. same_number k 5 e (refused_short (passes n ends t.graph) (named_test t.named) (colored_test t.colored) h);
      bad_graph = λ j f. same_number k j e (refused_graph j f);
      bad_method = λ p t o. same_number k 10 e (refused_misnamed (passes n ends p) (misnamed_test t o));
      bad_colors = λ p named t no. same_number k 5 e (refused_colors (passes n ends p) (named_test named) (simp (t, ne_eqb (length colors) (edge_count ends) no)));
    }

    pub file_writer : (report : Report ℕ) (output : List ℕ) → report ≡ (write_file n ends colors tags method output₀).report → output ≡ (write_file n ends colors tags method output₀).output
        → FileWriter n ends colors tags method output₀ report output
    file_writer report output p q = go (first_refusal checks) refl
      where
        carried : (r : Report ℕ) (l : List ℕ) → write_file n ends colors tags method output₀ ≡ record { report = r; output = l } → FileWriter n ends colors tags method output₀ r l → FileWriter n ends colors tags method output₀ report output
        carried r l e t = rw (p ∙ ap (λ (o : WriteOutcome). o.report) e, q ∙ ap (λ (o : WriteOutcome). o.output) e) t

        go : (o : Option ℕ) → first_refusal checks ≡ o → FileWriter n ends colors tags method output₀ report output
        go (some k) e = carried _ _ (write_refused k e) (when_refused k e)
        go none e = let w = passed_tells e in carried _ _ (write_accepted e) (when_written b w.0 w.1)

-- ---- what a reader relies on

-- A call that is handed what a file says writes the file.
module _ (file : File) (w : WellFormed file) (given : List ℕ) (same : has_tag 3 file.tags ≡ true → given ≡ file.colors) where
  again_tells : Passed file.nodes file.ends → Tells file.nodes file.ends given file.tags file.method
  unfolding has_tag tag_bit
  again_tells p = record {
    graph = p;
    named = λ t. elim w.others [
      | inl a ↦ let z : false ≡ true = rw a.tags at t in absurd (false≢true z)
      | inr (inl a) ↦ let z : false ≡ true = rw a.tags at t in absurd (false≢true z)
      | inr (inr a) ↦ (rw a.tags, a.method)
    ];
    colored = λ t. ap length (same t) ∙ elim w.others [
      | inl a ↦ let z : false ≡ true = rw a.tags at t in absurd (false≢true z)
      | inr (inl a) ↦ a.colors
      | inr (inr a) ↦ a.colors
    ];
  }

  written_again : Passed file.nodes file.ends → (output : List ℕ) → length (file_bytes file) ≤ length output
      → write_file file.nodes file.ends given file.tags file.method output ≡ record { report = accepted (length (file_bytes file)); output = over (file_bytes file) output }
  written_again p output h =
      let e = told_again file given w same in
      let l = ap (λ (f : File). length (file_bytes f)) e in
      tells_passed file.nodes file.ends given file.tags file.method output (again_tells p) (omega arith)
      ∙ ap written_file e
    where
      written_file : File → WriteOutcome
      written_file f = record { report = accepted (length (file_bytes f)); output = over (file_bytes f) output }

module _ (bytes ends₀ colors₀ : List ℕ) where
  when_bad : file_of bytes ≡ none → FileReader bytes ends₀ colors₀ (refused 10) ends₀ colors₀
  when_bad e =
      let no : (file : File) → LaidOut bytes file → ⊥ = λ file l. none-ne-some _ (sym e ∙ read_laid bytes file l) in
      record {
        laid = λ values p. let z : ◌≡◌ {A = ℕ} 0 1 = cc in absurd (omega arith);
        reads = λ file l h k. absurd (no file l);
        short_ends = λ file l h. absurd (no file l);
        short_colors = λ file l h. absurd (no file l);
        bad = λ h. refl;
        kept = λ k p. (refl, refl);
        longest = λ values p. let z : ◌≡◌ {A = ℕ} 0 1 = cc in absurd (omega arith);
        again = λ n m tags method p graph output h. let z : ◌≡◌ {A = ℕ} 0 1 = cc in absurd (omega arith);
      }

  module _ (b : all_below 256 bytes ≡ true) (file : File) (e : file_of bytes ≡ some file) where
    -- What is laid out is what was read.
    is_file : (other : File) → LaidOut bytes other → file ≡ other
    is_file other l = let p : some file ≡ some other = sym e ∙ read_laid bytes other l in cc

    there : LaidOut bytes file
    there = laid_out bytes file b e

    abbrev m : ℕ
    m = edge_count file.ends

    when_short : (length ends₀ < 2 * m) ⊎ (length colors₀ < length file.colors) → FileReader bytes ends₀ colors₀ (refused 5) ends₀ colors₀
    when_short h = record {
      laid = λ values p. let z : ◌≡◌ {A = ℕ} 0 1 = cc in absurd (omega arith);
      reads = λ other l i k.
          let s = is_file other l in
          let x = ap (λ (f : File). length f.ends) s in
          let y = ap (λ (f : File). length f.colors) s in
          elim h [ inl a ↦ let z : ⊥ = omega (arith, there.formed.even) in absurd z | inr a ↦ let z : ⊥ = omega arith in absurd z ];
      short_ends = λ other l i. refl;
      short_colors = λ other l i. refl;
      bad = λ no. absurd (no file there);
      kept = λ k p. (refl, refl);
      longest = λ values p. let z : ◌≡◌ {A = ℕ} 0 1 = cc in absurd (omega arith);
      again = λ n m tags method p graph output h. let z : ◌≡◌ {A = ℕ} 0 1 = cc in absurd (omega arith);
    }

    colors_front : has_tag 3 file.tags ≡ true → take m (over file.colors colors₀) ≡ file.colors
    unfolding has_tag tag_bit
    colors_front t = over_front file.colors colors₀ m (elim there.formed.others [
      | inl a ↦ let z : false ≡ true = rw a.tags at t in absurd (false≢true z)
      | inr (inl a) ↦ sym a.colors
      | inr (inr a) ↦ sym a.colors
    ])

    -- The clause of a file that is written again, in the report's words.
    again_read : (n k tags method : ℕ) → summary file ≡ (n, k, tags, method) → Passed n (take (2 * k) (over file.ends ends₀)) → (output : List ℕ) → length bytes ≤ length output
        → write_file n (take (2 * k) (over file.ends ends₀)) (take k (over file.colors colors₀)) tags method output ≡ record { report = accepted (length bytes); output = over bytes output }
    unfolding summary
    again_read n k tags method s graph output h =
        let p : file.nodes ≡ n = ap (λ (u : Summary). u.0) s in
        let q : m ≡ k = ap (λ (u : Summary). u.1) s in
        let t : file.tags ≡ tags = ap (λ (u : Summary). u.2) s in
        let u : file.method ≡ method = ap (λ (u : Summary). u.3) s in
        let front : take (2 * m) (over file.ends ends₀) ≡ file.ends = over_front file.ends ends₀ (2 * m) (sym there.formed.even) in
        let graph₁ : Passed file.nodes file.ends = rw front at (rw (sym p, sym q) at graph) in
        let bytes-are = there.same in
        let done = written_again file there.formed (take m (over file.colors colors₀)) colors_front graph₁ output (rw (sym bytes-are) h) in
        rw (sym p, sym q, sym t, sym u, front, bytes-are) done

    when_read : 2 * m ≤ length ends₀ → length file.colors ≤ length colors₀
        → FileReader bytes ends₀ colors₀ (accepted (summary file)) (over file.ends ends₀) (over file.colors colors₀)
    when_read h k = record {
      laid = λ values p. let s : summary file ≡ values = cc in (file, there, s, refl, refl);
      reads = λ other l i j. let s = is_file other l in
          (ap (λ (f : File). accepted (summary f)) s, ap (λ (f : File). over f.ends ends₀) s, ap (λ (f : File). over f.colors colors₀) s);
      short_ends = λ other l i. let x = ap (λ (f : File). length f.ends) (is_file other l) in let z : ⊥ = omega (arith, there.formed.even) in absurd z;
      short_colors = λ other l i. let x = ap (λ (f : File). length f.colors) (is_file other l) in let z : ⊥ = omega arith in absurd z;
      bad = λ no. absurd (no file there);
      kept = λ j p. let z : ◌≡◌ {A = ℕ} 0 1 = cc in absurd (omega arith);
      longest = λ values p. let x = ap length there.same in omega (arith, file_longest file there.formed);
      again = λ n k tags method p graph output i. let given : Summary = (n, k, tags, method) in let s : summary file ≡ given = cc in again_read n k tags method s graph output i;
    }

  pub file_reader : all_below 256 bytes ≡ true → (report : Report Summary) (ends colors : List ℕ)
      → report ≡ (read_file bytes ends₀ colors₀).report → ends ≡ (read_file bytes ends₀ colors₀).ends → colors ≡ (read_file bytes ends₀ colors₀).colors
      → FileReader bytes ends₀ colors₀ report ends colors
  file_reader b report ends colors p q r = go (file_of bytes) refl
    where
      carried : (x : Report Summary) (y z : List ℕ) → read_file bytes ends₀ colors₀ ≡ record { report = x; ends = y; colors = z } → FileReader bytes ends₀ colors₀ x y z → FileReader bytes ends₀ colors₀ report ends colors
      carried x y z e t = rw (p ∙ ap (λ (o : ReadOutcome). o.report) e, q ∙ ap (λ (o : ReadOutcome). o.ends) e, r ∙ ap (λ (o : ReadOutcome). o.colors) e) t

      go : (f : Option File) → file_of bytes ≡ f → FileReader bytes ends₀ colors₀ report ends colors
      go none e = carried _ _ _ (read_bad bytes ends₀ colors₀ e) (when_bad e)
      go (some file) e =
          by-test (ltb (length ends₀) (2 * edge_count file.ends))
          (λ t. let h = ltb-true (length ends₀) (2 * edge_count file.ends) t in carried _ _ _ (short_ends bytes ends₀ colors₀ file e h) (when_short b file e (inl h)))
          (λ t. by-test (ltb (length colors₀) (length file.colors))
          (λ u. let h = ltb-true (length colors₀) (length file.colors) u in carried _ _ _ (short_colors bytes ends₀ colors₀ file e h) (when_short b file e (inr h)))
          (λ u.
          let h = ltb-false (length ends₀) (2 * edge_count file.ends) t in
          let k = ltb-false (length colors₀) (length file.colors) u in
          carried _ _ _ (file_read bytes ends₀ colors₀ file e h k) (when_read b file e h k)))
