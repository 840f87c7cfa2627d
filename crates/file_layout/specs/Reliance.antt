-- What a reader and a writer of files rely on.
use Rattle.std.specs.Prelude.{ℕ, ◌*◌, ◌≤◌, ◌<◌, ◌≡◌, ◌⊎◌, true, false, List, length, take, drop}
use Rattle.std.proofs.Math.Option.{some}
use Rattle.graph.specs.Report.{Report, accepted, refused}
use Rattle.graph.specs.Check.{first_refusal, graph_checks, Passed}
use Rattle.graph.specs.Edges.{edge_count}
use Rattle.graph.specs.Table.{over}
use Rattle.file_layout.specs.File.{File, has_tag, file_bytes, WellFormed, LaidOut}
use Rattle.file_layout.specs.Outcomes.{Summary, summary, read_file, told_file, write_file}

-- "The longest file is now 24,591 bytes."
abbrev pub most_bytes : ℕ
most_bytes = 24591

-- There is one so long: proved as `longest_file`.
abbrev pub LongestFile : Type 0
LongestFile = (file : File) × WellFormed file × (length (file_bytes file) ≡ most_bytes)

-- Of a reading: the bytes and both lists lent, then the report and both lists as they are left.
pub record FileReader (bytes ends₀ colors₀ : List ℕ) (report : Report Summary) (ends colors : List ℕ) : Type 0 where
  -- What is accepted is laid out as a file and copied,
  pub laid : (values : Summary) → report ≡ accepted values
      → (file : File) × LaidOut bytes file × (summary file ≡ values) × (ends ≡ over file.ends ends₀) × (colors ≡ over file.colors colors₀)
  -- and whatever is laid out so is read back where the lent lists have room for it.
  pub reads : (file : File) → LaidOut bytes file → length file.ends ≤ length ends₀ → length file.colors ≤ length colors₀
      → (report ≡ accepted (summary file)) × (ends ≡ over file.ends ends₀) × (colors ≡ over file.colors colors₀)
  -- Too short a list is refused by 5,
  pub short_ends : (file : File) → LaidOut bytes file → length ends₀ < length file.ends → report ≡ refused 5
  pub short_colors : (file : File) → LaidOut bytes file → length colors₀ < length file.colors → report ≡ refused 5
  -- all other bytes by 10,
  pub bad : ((file : File) → LaidOut bytes file → ⊥) → report ≡ refused 10
  -- and what is refused leaves both lists.
  pub kept : (k : ℕ) → report ≡ refused k → (ends ≡ ends₀) × (colors ≡ colors₀)
  pub longest : (values : Summary) → report ≡ accepted values → length bytes ≤ most_bytes
  -- "an accepted file whose graph passes the graph checks is written again with the same bytes"
  pub again : (n m tags method : ℕ) → report ≡ accepted (n, m, tags, method) → Passed n (take (2 * m) ends) → (output : List ℕ) → length bytes ≤ length output
      → write_file n (take (2 * m) ends) (take m colors) tags method output ≡ record { report = accepted (length bytes); output = over bytes output }

-- What a call must be told to be written: "the graph checks", "tag 4 is told with a way above 3 or without tag 3", "tag 3 is told and the colours aren't m" all passed.
pub record Tells (n : ℕ) (ends colors : List ℕ) (tags method : ℕ) : Type 0 where
  pub graph : Passed n ends
  pub named : has_tag 4 tags ≡ true → (has_tag 3 tags ≡ true) × (method ≤ 3)
  pub colored : has_tag 3 tags ≡ true → length colors ≡ edge_count ends

-- Of a writing: what it is handed and lent, then the report and the output as it is left.
pub record FileWriter (n : ℕ) (ends colors : List ℕ) (tags method : ℕ) (output₀ : List ℕ) (report : Report ℕ) (output : List ℕ) : Type 0 where
  -- Whatever is told so is written where the output has room for it,
  pub writes : Tells n ends colors tags method → length (file_bytes (told_file n ends colors tags method)) ≤ length output₀ → report ≡ accepted (length (file_bytes (told_file n ends colors tags method)))
  -- and refused by 5 where it has not;
  pub short : Tells n ends colors tags method → length output₀ < length (file_bytes (told_file n ends colors tags method)) → report ≡ refused 5
  -- what is not told so is refused by the graph check's number, by 10, and by 5.
  pub bad_graph : (k : ℕ) → first_refusal (graph_checks n ends) ≡ some k → report ≡ refused k
  pub bad_method : Passed n ends → has_tag 4 tags ≡ true → (3 < method) ⊎ (has_tag 3 tags ≡ false) → report ≡ refused 10
  pub bad_colors : Passed n ends → (has_tag 4 tags ≡ true → (has_tag 3 tags ≡ true) × (method ≤ 3)) → has_tag 3 tags ≡ true → (length colors ≡ edge_count ends → ⊥) → report ≡ refused 5
  -- What was written is a file with all that was told,
  pub laid : (size : ℕ) → report ≡ accepted size → LaidOut (take size output) (told_file n ends colors tags method)
  -- "Reading a written file brings back the same list",
  pub back : (size : ℕ) → report ≡ accepted size → (ends₀ colors₀ : List ℕ) → length ends ≤ length ends₀ → length (told_file n ends colors tags method).colors ≤ length colors₀
      → read_file (take size output) ends₀ colors₀
      ≡ record { report = accepted (summary (told_file n ends colors tags method)); ends = over ends ends₀; colors = over (told_file n ends colors tags method).colors colors₀ }
  -- the output beyond it is unchanged,
  pub beyond : (size : ℕ) → report ≡ accepted size → (size ≤ length output₀) × (drop size output ≡ drop size output₀)
  -- and all of it on a refusal.
  pub kept : (k : ℕ) → report ≡ refused k → output ≡ output₀
  pub longest : (size : ℕ) → report ≡ accepted size → size ≤ most_bytes
