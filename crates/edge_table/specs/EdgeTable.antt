-- The edge table, and the new colours of an exchanged path and of a rotated fan.
use Rattle.std.specs.Prelude.{ℕ, zero, suc, ◌+◌, ◌*◌, List, [], ◌∷◌, ◌++◌, map, Some, None, Bool, true, false, cond, get_or, eqb, ltb}
use Rattle.std.proofs.Math.Option.{Option, none, some}
use Rattle.vizing.specs.MisraGries.{is_none, swap}
use Rattle.std.specs.Prelude as Prelude
use Rattle.graph.specs.declared.EdgeIndex.{EdgeIndex}
use Rattle.graph.specs.Colored.{color_of}

-- The edge table as a list: what stands at its places, and what each function answers. There is a row for each of 576 colours, and in it a place for each of 512 nodes: colour c's place for node v is c * 512 + v.

-- ---- entries

-- The entry of a place where no edge stands.
abbrev pub no_edge : ℕ
no_edge = 65535

unfoldable pub edge_of_entry : ℕ → Option ℕ
edge_of_entry x = cond (eqb x no_edge) none (some x)

-- The answer of `edge_of_color`.
abbrev pub option_of : Prelude.Option EdgeIndex → Option ℕ
option_of (Some k) = some k.0
option_of None = none

-- ---- what the table answers

-- The entry for colour c at node v. A node of 512 or more has no place, and there is no edge past the table's end.
unfoldable pub entry_at : List ℕ → ℕ → ℕ → ℕ
entry_at T v c = cond (ltb v 512) (get_or T (c * 512 + v) no_edge) no_edge

-- The edge of colour c at node v.
unfoldable pub table_edge : List ℕ → ℕ → ℕ → Option ℕ
table_edge T v c = edge_of_entry (entry_at T v c)

-- No edge of colour c stands at node v.
unfoldable pub is_empty : List ℕ → ℕ → ℕ → Bool
is_empty T v c = is_none (table_edge T v c)

-- The first colour from c on that no edge at v has, of the next `fuel`.
unfoldable pub empty_from : ℕ → List ℕ → ℕ → ℕ → ℕ
empty_from zero T v c = c
empty_from (suc fuel) T v c = elim (is_empty T v c) [ true ↦ c | false ↦ empty_from fuel T v (suc c) ]

-- The first colour that no edge at v has, 576 if each is there.
unfoldable pub smallest_empty : List ℕ → ℕ → ℕ
smallest_empty T v = empty_from 576 T v 0

-- ---- The new colours of an exchanged path and of a rotated fan.

-- The colours that the path's edges take.
abbrev pub exchanged_colors : List ℕ → ℕ → ℕ → List ℕ → List ℕ
exchanged_colors l c d ks = map (λ (k : ℕ). swap c d (color_of l k)) ks

-- The colours that the fan's places 0 to w take; ks are places 1 to w.
abbrev pub rotated_colors : List ℕ → List ℕ → ℕ → List ℕ
rotated_colors l ks d = map (color_of l) ks ++ (d ∷ [])
