-- Laws of a colour taken, from the start on: the counts stay those of the definition.
use Prim.Native.Nat.{ℕ, suc, ◌+◌, ◌≤◌, ◌<◌}
use mathlib.Core.Path.{◌≡◌, refl, sym, ap, subst, ◌∙◌}
use mathlib.Core.Logic.{inl, inr, ◌≢◌}
use mathlib.Core.List.{List, ◌∷◌, [], map}
use native.Mathlib.Omega.{arith}
use lib.ListN.{length, get_or, set, replicate, length-set, length-replicate, get_or-replicate, get_or-eq_default}
use lib.Seq.{set-get_or, get_or-set_same, get_or-set_other, ext_get_or}
use native.Mathlib.Nat.{not-suc-le-zero}
use native.Mathlib.Decide.{dec_lt}
use Rattle.lists.proofs.Tests.{by-test, dec_eq}
use Rattle.lists.specs.Member.{Mem}
use Rattle.lists.specs.Different.{different, count}
use Rattle.lists.proofs.MemberLaws.{count_none, different_none}
use Rattle.graph.specs.Color.{no_color}
use Rattle.graph.specs.Colored.{color_of, is_colored, colored_among}
use Rattle.graph.proofs.ColorLaws.{color_read, color_set_same, color_set_other, uncolored_false, color_outside}
use Rattle.greedy.specs.Greedy.{Neighborhood}
use Rattle.greedy.specs.Saturation.{saturation, uncolored_neighbors, uncolored_among}
use Rattle.items.specs.declared.table.Items.{Items}
use Rattle.items.specs.Items.{Tabled}
use Rattle.items.proofs.TableLaws.{sized_as, tabled_as}
use Rattle.items.proofs.ItemsLaws.{neighborhood, items_few}
use Rattle.saturation.specs.Counts.{BothCounted, Cleared, Noted, NotesRoom, neighbors_in, CountsReady, Started, Preset}
use Rattle.saturation.proofs.CountsLaws.{colors_among, count_mem, mem_count, different_few, uncolored_falls, different_stays, different_grows, Known, known_items}
use Rattle.saturation.proofs.NotesLaws.{none_noted, around_times}
use Rattle.color_marks.specs.Marks.{around, stored, mark_of}

-- ---- a colour taken

saturation_among : (nb : ℕ → List ℕ) (colors : List ℕ) (v : ℕ) → saturation nb colors v ≡ different (colors_among colors (nb v))
unfolding saturation colors_among
saturation_among nb colors v = refl

waiting_among : (nb : ℕ → List ℕ) (colors : List ℕ) (v : ℕ) → uncolored_neighbors nb colors v ≡ uncolored_among colors (nb v)
unfolding uncolored_neighbors
waiting_among nb colors v = refl

-- Where none of these items is without a colour, each has one.
uncolored_none : (colors us : List ℕ) → uncolored_among colors us ≡ 0 → (u : ℕ) → Mem u us → color_of colors u ≡ no_color → ⊥
unfolding uncolored_among
uncolored_none colors [] z u x3 e = elim x3 [ ]
uncolored_none colors (x ∷ us) z u (inl p) e = let w = rw (uncolored_false colors x (ap (color_of colors) (sym p) ∙ e)) at z in omega arith
uncolored_none colors (x ∷ us) z u (inr p) e = by-test (is_colored colors x)
    (λ t. uncolored_none colors us (rw t at z) u p e)
    (λ t. let w = rw t at z in omega arith)

-- The items us, with v perhaps more or less often, are the neighbours of v.
module _ (nb : ℕ → List ℕ) (n : ℕ) (hood : Neighborhood nb n) (colors s₀ w₀ us : List ℕ) (v c : ℕ) (size : length colors ≡ n) (counted : BothCounted nb n colors s₀ w₀)
    (inside : v < n) (bare : color_of colors v ≡ no_color) (real : c ≢ no_color) (around : (u : ℕ) → u ≢ v → count u us ≡ count u (nb v)) where
  within : v < length colors
  within = omega arith

  -- An item without a colour afterwards had none before, and is not v.
  still_bare : (u : ℕ) → color_of (set colors v c) u ≡ no_color → (u ≢ v) × (color_of colors u ≡ no_color)
  still_bare u e =
      let n : u ≢ v = λ p. real (sym (color_set_same colors v c within) ∙ (ap (color_of (set colors v c)) (sym p) ∙ e)) in
      (n, sym (color_set_other colors v c u n) ∙ e)

  times : (u : ℕ) → u < n → u ≢ v → count u us ≡ count v (nb u)
  times u h d = around u d ∙ hood.times v u inside h (λ e. d (sym e))

  fewer : (u : ℕ) → u < n → u ≢ v → uncolored_among (set colors v c) (nb u) + count u us ≡ uncolored_among colors (nb u)
  fewer u h d = ap (λ (x : ℕ). uncolored_among (set colors v c) (nb u) + x) (times u h d) ∙ uncolored_falls colors v c within bare real (nb u)

  taken_room : (m₀ : List ℕ) → NotesRoom (set colors v c) us s₀ w₀ m₀
  taken_room m₀ = record {
    at = λ u h e.
        let b : u < n = omega (arith, length-set colors v c) in
        let o = still_bare u e in (
          omega (arith, counted.waits u b o.1 ∙ waiting_among nb colors u, fewer u b o.0),
          λ z. omega (arith, counted.differs u b o.1 ∙ saturation_among nb colors u, different_few colors (nb u), hood.few u b),
        );
  }

  -- Where v waits for no neighbour, none without a colour is left to note it.
  idle_noted : get_or w₀ v 0 ≡ 0 → (m : List ℕ) → Noted (set colors v c) us s₀ w₀ m s₀ w₀ m
  idle_noted z m =
      let none = sym (counted.waits v inside bare ∙ waiting_among nb colors v) ∙ z in
      record {
        at = λ u h e.
            let o = still_bare u e in
            rw (around u o.0 ∙ count_none u (nb v) (λ p. uncolored_none colors (nb v) none u p o.1)) (none_noted _ _ _);
        kept = λ u n. (refl, refl);
      }

  module _ (m₀ s w m : List ℕ) (known : Known us nb colors c m₀) (noted : Noted (set colors v c) us s₀ w₀ m₀ s w m) where
    taken_counted : BothCounted nb n (set colors v c) s w
    taken_counted = record {
      waits = λ u b e.
          let o = still_bare u e in
          let t = noted.at u (omega (arith, length-set colors v c)) e in
          sym (waiting_among nb (set colors v c) u ∙ omega (arith, t.waits, counted.waits u b o.1 ∙ waiting_among nb colors u, fewer u b o.0));
      differs = λ u b e.
          let o = still_bare u e in
          let t = noted.at u (omega (arith, length-set colors v c)) e in
          let before = counted.differs u b o.1 ∙ saturation_among nb colors u in
          let same = times u b o.0 in
          let stays = different_stays colors v c within bare real (nb u) in
          sym (saturation_among nb (set colors v c) u ∙ elim (dec_eq (get_or m₀ u 0) 0) [
            | inl z ↦ elim (dec_eq (count u us) 0) [
              | inl k ↦ stays (λ p. absurd (omega (arith, mem_count v (nb u) p))) ∙ sym ((t.not_yet k).0 ∙ before)
              | inr k ↦ different_grows colors v c within bare real (nb u) (count_mem v (nb u) (omega arith)) (λ p. known.marked u (count_mem u us (omega arith)) (omega arith) o.1 p z) ∙ sym ((t.new z k).0 ∙ ap suc before)
            ]
            | inr z ↦ stays (λ p. known.old u (count_mem u us (omega (arith, mem_count v (nb u) p))) (omega arith) o.1 z) ∙ sym ((t.old z).0 ∙ before)
          ]);
    }

-- The counts of v, which has its colour, are cleared: the others' are still right,
clear_counted : (nb : ℕ → List ℕ) (n : ℕ) (colors s w : List ℕ) (v : ℕ) → BothCounted nb n colors s w → color_of colors v ≢ no_color → BothCounted nb n colors (set s v 0) (set w v 0)
clear_counted nb n colors s w v counted colored =
    let other : (u : ℕ) → color_of colors u ≡ no_color → u ≢ v = λ u e p. colored (ap (color_of colors) (sym p) ∙ e) in
    record {
      differs = λ u h e. get_or-set_other s v u 0 0 (other u e) ∙ counted.differs u h e;
      waits = λ u h e. get_or-set_other w v u 0 0 (other u e) ∙ counted.waits u h e;
    }

-- and each item with a colour has none.
clear_cleared : (colors us s₀ w₀ m₀ s w m : List ℕ) (v c : ℕ) → Cleared colors s₀ w₀ → Noted (set colors v c) us s₀ w₀ m₀ s w m → v < length s → v < length w → Cleared (set colors v c) (set s v 0) (set w v 0)
clear_cleared colors us s₀ w₀ m₀ s w m v c cleared noted h k = record {
  counts = λ u n. elim (dec_eq u v) [
    | inl e ↦ rw e (get_or-set_same s v 0 0 h, get_or-set_same w v 0 0 k)
    | inr e ↦
        let kept = noted.kept u n in
        let before = cleared.counts u (rw (color_set_other colors v c u e) at n) in
        (get_or-set_other s v u 0 0 e ∙ (kept.0 ∙ before.0), get_or-set_other w v u 0 0 e ∙ (kept.1 ∙ before.1))
  ];
}

-- The mark of no colour changes nothing.
pub none_taken : (colors : List ℕ) (v c : ℕ) → v < length colors → color_of colors v ≡ no_color → c ≡ no_color → colors ≡ set colors v c
none_taken colors v c h e p = let q : get_or colors v 0 ≡ c = color_read colors v 0 h ∙ (e ∙ sym p) in sym (ap (set colors v) (sym q) ∙ set-get_or colors v 0)

-- ---- the state between two turns

module _ (items : Items) (colors s₀ w₀ : List ℕ) (v c : ℕ) (ready : CountsReady items colors s₀ w₀) (inside : v < length colors) (bare : color_of colors v ≡ no_color)
    (real : c ≡ no_color → ⊥) where
  abbrev hood : Neighborhood (neighbors_in items) (length colors)
  hood = neighborhood items.kind items.table.nodes items.table.ends.now (length colors) (sized_as items (length colors) ready.size)

  abbrev us : List ℕ
  us = around items.kind items.table.ends.now items.table.starts.now items.table.entries.now v

  -- What noting the colour needs: a colour for each item, room in the counts, and lists that are long enough.
  pub take_size : length (set colors v c) ≡ items.count
  take_size = length-set colors v c ∙ ready.size

  tabled : Tabled items.kind items.table.nodes items.table.ends.now items.table.starts.now items.table.entries.now (length colors)
  tabled = tabled_as items (length colors) ready.size

  pub take_inside : v < length (set colors v c)
  take_inside = rw (length-set colors v c) inside

  pub take_room : (m₀ : List ℕ) → NotesRoom (set colors v c) us s₀ w₀ m₀
  take_room = taken_room (neighbors_in items) (length colors) hood colors s₀ w₀ us v c refl ready.counted inside bare real (λ u d. around_times items.kind items.table.nodes items.table.ends.now items.table.starts.now items.table.entries.now (length colors) tabled v u inside d)

  pub take_sizes : (m : List ℕ) → length colors ≤ length m → (length (set colors v c) ≤ length s₀) × (length (set colors v c) ≤ length w₀) × (length (set colors v c) ≤ length m)
  take_sizes m h = rw (length-set colors v c) (ready.saturations_room, ready.waiting_room, h)

  -- The counts afterwards, those of v cleared.
  pub take_ready : (m₀ s w m : List ℕ) → Known us (neighbors_in items) colors c m₀ → Noted (set colors v c) us s₀ w₀ m₀ s w m
      → length s ≡ length s₀ → length w ≡ length w₀ → CountsReady items (set colors v c) (set s v 0) (set w v 0)
  take_ready m₀ s w m known noted ls lw =
      let counts = taken_counted (neighbors_in items) (length colors) hood colors s₀ w₀ us v c refl ready.counted inside bare real (λ u d. around_times items.kind items.table.nodes items.table.ends.now items.table.starts.now items.table.entries.now (length colors) tabled v u inside d) m₀ s w m known noted in
      record {
        size = take_size;
        counted = rw (length-set colors v c) (clear_counted (neighbors_in items) (length colors) (set colors v c) s w v counts (λ e. real (sym (color_set_same colors v c inside) ∙ e)));
        cleared = clear_cleared colors us s₀ w₀ m₀ s w m v c ready.cleared noted (omega (arith, inside, ready.saturations_room)) (omega (arith, inside, ready.waiting_room));
        saturations_room = omega (arith, ready.saturations_room, length-set colors v c, length-set s v 0);
        waiting_room = omega (arith, ready.waiting_room, length-set colors v c, length-set w v 0);
      }

  -- The same where v waits for no neighbour: only its own counts are cleared.
  pub take_idle : get_or w₀ v 0 ≡ 0 → CountsReady items (set colors v c) (set s₀ v 0) w₀
  take_idle z =
      let m = stored (mark_of items.kind items.table.ends.now items.table.starts.now items.table.entries.now colors c) us (replicate 4096 0) in
      let noted = idle_noted (neighbors_in items) (length colors) hood colors s₀ w₀ us v c refl ready.counted inside bare real (λ u d. around_times items.kind items.table.nodes items.table.ends.now items.table.starts.now items.table.entries.now (length colors) tabled v u inside d) z m in
      let marks = known_items items colors c ready.size real us (replicate 4096 0) m (omega (arith, length-replicate {A = ℕ} 4096 0)) refl in
      subst (CountsReady items (set colors v c) (set s₀ v 0)) (ap (set w₀ v) (sym z) ∙ set-get_or w₀ v 0) (take_ready m s₀ w₀ m marks noted refl refl)

-- ---- the start

pub started_none : (nb : ℕ → List ℕ) (colors waiting : List ℕ) → Started nb 0 colors waiting
started_none nb colors waiting = record { bare = λ u h. absurd (not-suc-le-zero h); waits = λ u h. absurd (not-suc-le-zero h) }

pub started_more : (nb : ℕ → List ℕ) (colors waiting : List ℕ) (v x : ℕ) → Started nb v colors waiting → v < length colors → v < length waiting → x ≡ length (nb v) → Started nb (v + 1) (set colors v 65535) (set waiting v x)
started_more nb colors waiting v x p h k q = record {
  bare = λ u b. elim (dec_eq u v) [
    | inl z ↦ rw z (color_set_same colors v 65535 h)
    | inr z ↦ color_set_other colors v 65535 u z ∙ p.bare u (omega arith)
  ];
  waits = λ u b. elim (dec_eq u v) [
    | inl z ↦ rw z (get_or-set_same waiting v x 0 k ∙ q)
    | inr z ↦ get_or-set_other waiting v u x 0 z ∙ p.waits u (omega arith)
  ];
}

pub started_all : (nb : ℕ → List ℕ) (colors waiting : List ℕ) (v n : ℕ) → Started nb v colors waiting → v ≤ n → n ≤ v → Started nb n colors waiting
started_all nb colors waiting v n p h k = let e : v ≡ n = omega arith in rw e at p

pub started_as : (nb : ℕ → List ℕ) (colors waiting : List ℕ) (n m : ℕ) → Started nb n colors waiting → n ≡ m → Started nb m colors waiting
started_as nb colors waiting n m p e = rw e at p

none_colored : (colors us : List ℕ) → ((u : ℕ) → color_of colors u ≡ no_color) → colored_among colors us ≡ []
unfolding colored_among
none_colored colors [] bare = refl
none_colored colors (u ∷ us) bare = rw (uncolored_false colors u (bare u)) (none_colored colors us bare)

all_uncolored_lem : (colors us : List ℕ) → ((u : ℕ) → color_of colors u ≡ no_color) → uncolored_among colors us ≡ length us
unfolding uncolored_among
all_uncolored_lem colors [] bare = refl
all_uncolored_lem colors (u ∷ us) bare = rw (uncolored_false colors u (bare u)) (ap suc (all_uncolored_lem colors us bare))

-- No item has a colour.
started_bare : (nb : ℕ → List ℕ) (n : ℕ) (colors waiting : List ℕ) → length colors ≡ n → Started nb n colors waiting → (u : ℕ) → color_of colors u ≡ no_color
started_bare nb n colors waiting size p u = elim (dec_lt u n) [ yes h ↦ p.bare u h | no h ↦ color_outside colors u (omega arith) ]

started_counted : (nb : ℕ → List ℕ) (n : ℕ) (colors saturations waiting : List ℕ) → length colors ≡ n → Started nb n colors waiting → ((v : ℕ) → get_or saturations v 0 ≡ 0) → BothCounted nb n colors saturations waiting
unfolding colors_among
started_counted nb n colors saturations waiting size p zeros =
    let bare = started_bare nb n colors waiting size p in
    record {
      differs = λ v h e. sym (saturation_among nb colors v ∙ (ap (λ (l : List ℕ). different (map (color_of colors) l)) (none_colored colors (nb v) bare) ∙ (different_none ∙ sym (zeros v))));
      waits = λ v h e. sym (waiting_among nb colors v ∙ (all_uncolored_lem colors (nb v) bare ∙ sym (p.waits v h)));
    }

pub zero_at : (n v : ℕ) → ◌≡◌ {A = ℕ} (get_or (replicate n 0) v 0) 0
zero_at n v = elim (dec_lt v n) [ yes h ↦ get_or-replicate n v 0 0 h | no h ↦ get_or-eq_default (replicate n 0) 0 (rw (length-replicate {A = ℕ} n 0) (omega arith)) ]

-- The counts are ready for the presets.
pub started_ready : (items : Items) (colors saturations waiting : List ℕ) → length colors ≡ items.count → saturations ≡ replicate 4096 0 → length waiting ≡ 4096
    → Started (neighbors_in items) (length colors) colors waiting → CountsReady items colors saturations waiting
started_ready items colors saturations waiting size zeros room started =
    let few = items_few items.kind items.table.nodes items.table.ends.now (length colors) (sized_as items (length colors) size) in
    record {
      size = size;
      counted = started_counted (neighbors_in items) (length colors) colors saturations waiting refl started (λ v. ap (λ (l : List ℕ). get_or l v 0) zeros ∙ zero_at 4096 v);
      cleared = record { counts = λ v d. absurd (d (started_bare (neighbors_in items) (length colors) colors waiting refl started v)) };
      saturations_room = omega (arith, few, ap length zeros ∙ length-replicate {A = ℕ} 4096 0);
      waiting_room = omega (arith, few);
    }

-- ---- presets

pub preset_none : (nb : ℕ → List ℕ) (n : ℕ) (presets colors waiting : List ℕ) → length colors ≡ n → Started nb n colors waiting → Preset presets 0 colors
preset_none nb n presets colors waiting size p = record {
  done = λ u h. absurd (not-suc-le-zero h);
  bare = λ u h. started_bare nb n colors waiting size p u;
}

pub preset_more : (presets colors colors' : List ℕ) (v c : ℕ) → Preset presets v colors → v < length colors → v < length presets → c ≡ get_or presets v 0 → colors' ≡ set colors v c → Preset presets (v + 1) colors'
preset_more presets colors colors' v c p h k e q = rw q (record {
  done = λ u b. elim (dec_eq u v) [
    | inl z ↦ rw z (color_set_same colors v c h ∙ (e ∙ color_read presets v 0 k))
    | inr z ↦ color_set_other colors v c u z ∙ p.done u (omega arith)
  ];
  bare = λ u b. color_set_other colors v c u (λ z. omega arith) ∙ p.bare u (omega arith);
})

pub preset_all : (presets colors : List ℕ) (v : ℕ) → Preset presets v colors → length colors ≡ length presets → length presets ≤ v → colors ≡ presets
unfolding color_of
preset_all presets colors v p e h = ext_get_or no_color colors presets e (λ u b. p.done u (omega arith))
