-- Laws of a turn: what the counts choose is what the definition chooses.
use Prim.Native.Nat.{ℕ, zero, suc, ◌≤◌, ◌<◌, ◌+◌, ◌-◌}
use mathlib.Core.Path.{◌≡◌, refl, sym, ap, subst, ◌∙◌}
use mathlib.Core.Logic.{inl, inr, ◌≢◌}
use mathlib.Core.List.{List, [], ◌∷◌, ◌++◌, append-nil}
use mathlib.Core.Bool.{Bool, true, false, cond}
use native.Mathlib.Omega.{arith}
use native.Mathlib.Nat.{not-suc-le-zero}
use lib.ListN.{length, get_or, set}
use lib.Dec.{eqb, ltb}
use borrow.Author.Tests.{lt-ltb, le-ltb, eq-eqb, ne_eqb}
use Rattle.lists.proofs.Tests.{dec_eq, and_false, true_or}
use Rattle.lists.specs.Member.{Mem}
use Rattle.graph.specs.Color.{no_color}
use Rattle.graph.specs.Colored.{color_of, smallest_free_at}
use Rattle.graph.specs.declared.NodeIndex.{NodeIndex}
use Rattle.greedy.specs.Turn.{uncolored}
use Rattle.greedy.proofs.TurnLaws.{last_colored, last_uncolored, uncolored_member, color_item_lem}
use Rattle.greedy.specs.Saturation.{greater, greatest, saturation_from, saturation_colors}
use Rattle.greedy.proofs.SaturationLaws.{greatest_member}
use Rattle.std.specs.Prelude.{Option, Some, None}
use Rattle.choice.specs.Choice.{option_of, choice_of}
use Rattle.choice.proofs.ChoiceLaws.{Best, some_best, none_bare}
use Rattle.items.specs.declared.Kind.{Kind}
use Rattle.items.specs.declared.table.Items.{Items}
use Rattle.items.specs.Items.{neighbors_of, Tabled}
use Rattle.items.proofs.TableLaws.{tabled_as}
use Rattle.items.proofs.ItemsLaws.{items_few}
use Rattle.saturation.specs.Counts.{BothCounted, Cleared, neighbors_in, CountsReady, turn_of}

-- What the counts choose is what the definition chooses.

-- ---- the greatest of the items without a colour

module _ (nb : ℕ → List ℕ) (colors : List ℕ) where
  -- The greatest of the items below k that have no colour.
  pub record Leads (k best : ℕ) : Type 0 where
    pub inside : best < k
    pub bare : color_of colors best ≡ no_color
    pub first : ℕ
    pub rest : List ℕ
    pub candidates : uncolored colors k ≡ first ∷ rest
    pub best_is : best ≡ greatest nb colors first rest

  greatest_last : (v : ℕ) (us : List ℕ) (x : ℕ) → greatest nb colors v (us ++ x ∷ []) ≡ cond (greater nb colors x (greatest nb colors v us)) x (greatest nb colors v us)
  unfolding greatest
  greatest_last v [] x = refl
  greatest_last v (u ∷ us) x = greatest_last (cond (greater nb colors u v) u v) us x

-- An item without a colour that is greater than each lower one, where none is greater than it.
module _ (nb : ℕ → List ℕ) (colors : List ℕ) (best : ℕ) (bare : color_of colors best ≡ no_color) (lower : (u : ℕ) → u < best → color_of colors u ≡ no_color → greater nb colors best u ≡ true) where
  -- It leads the items up to itself.
  lead_here : (us : List ℕ) → uncolored colors best ≡ us → Leads nb colors (suc best) best
  unfolding greatest
  lead_here [] e = record { inside = omega arith; bare = bare; first = best; rest = []; candidates = last_uncolored colors best bare ∙ ap (λ (l : List ℕ). l ++ best ∷ []) e; best_is = refl }
  lead_here (v ∷ us) e =
      let m = uncolored_member colors best (greatest nb colors v us) (subst (λ (l : List ℕ). Mem (greatest nb colors v us) l) (sym e) (greatest_member nb colors v us)) in
      record {
        inside = omega arith;
        bare = bare;
        first = v;
        rest = us ++ best ∷ [];
        candidates = last_uncolored colors best bare ∙ ap (λ (l : List ℕ). l ++ best ∷ []) e;
        best_is = sym (greatest_last nb colors v us best ∙ ap (λ (b : Bool). cond b best (greatest nb colors v us)) (lower (greatest nb colors v us) m.0 m.1));
      }

  -- One item more, with or without a colour.
  lead_more : (k : ℕ) → Leads nb colors k best → (color_of colors k ≡ no_color → greater nb colors k best ≡ false) → Leads nb colors (suc k) best
  lead_more k l none = elim (dec_eq (color_of colors k) no_color) [
    | inl e ↦ record {
      inside = omega (arith, l.inside);
      bare = bare;
      first = l.first;
      rest = l.rest ++ k ∷ [];
      candidates = last_uncolored colors k e ∙ ap (λ (x : List ℕ). x ++ k ∷ []) l.candidates;
      best_is = sym (greatest_last nb colors l.first l.rest k ∙ (ap (λ (x : ℕ). cond (greater nb colors k x) k x) (sym l.best_is) ∙ ap (λ (b : Bool). cond b k best) (none e)));
    }
    | inr n ↦ record { inside = omega (arith, l.inside); bare = bare; first = l.first; rest = l.rest; candidates = last_colored colors k n ∙ (append-nil (uncolored colors k) ∙ l.candidates); best_is = l.best_is }
  ]

  lead_all : (n : ℕ) → best < n → ((u : ℕ) → u < n → color_of colors u ≡ no_color → greater nb colors u best ≡ false) → Leads nb colors n best
  lead_all zero h none = absurd (not-suc-le-zero h)
  lead_all (suc n) h none = elim (dec_eq best n) [
    | inl e ↦ subst (λ (x : ℕ). Leads nb colors (suc x) best) e (lead_here (uncolored colors best) refl)
    | inr d ↦ lead_more n (lead_all n (omega arith) (λ u b. none u (omega arith))) (none n (omega arith))
  ]

none_uncolored : (colors : List ℕ) (k : ℕ) → ((u : ℕ) → u < k → color_of colors u ≢ no_color) → uncolored colors k ≡ []
unfolding uncolored
none_uncolored colors zero all = refl
none_uncolored colors (suc k) all = last_colored colors k (all k (omega arith)) ∙ (append-nil (uncolored colors k) ∙ none_uncolored colors k (λ u h. all u (omega arith)))

-- ---- by the counts

module _ (nb : ℕ → List ℕ) (colors saturations waiting : List ℕ) (counted : BothCounted nb (length colors) colors saturations waiting) where
  -- `greater`, of items that have their counts.
  module _ (u v : ℕ) (hu : u < length colors) (bu : color_of colors u ≡ no_color) (hv : v < length colors) (bv : color_of colors v ≡ no_color) where
    more_greater : get_or saturations v 0 < get_or saturations u 0 → greater nb colors u v ≡ true
    unfolding greater
    more_greater h = rw (← counted.differs u hu bu, ← counted.differs v hv bv, lt-ltb (get_or saturations v 0) (get_or saturations u 0) h)

    waits_greater : get_or saturations v 0 ≡ get_or saturations u 0 → get_or waiting v 0 < get_or waiting u 0 → greater nb colors u v ≡ true
    unfolding greater
    waits_greater e h = rw (← counted.differs u hu bu, ← counted.differs v hv bv, ← counted.waits u hu bu, ← counted.waits v hv bv, eq-eqb (get_or saturations v 0) (get_or saturations u 0) e, lt-ltb (get_or waiting v 0) (get_or waiting u 0) h) (true_or (ltb (get_or saturations v 0) (get_or saturations u 0)) true refl)

    not_greater : get_or saturations u 0 ≤ get_or saturations v 0 → (get_or saturations u 0 ≡ get_or saturations v 0 → get_or waiting u 0 ≤ get_or waiting v 0) → greater nb colors u v ≡ false
    unfolding greater
    not_greater h w = elim (dec_eq (get_or saturations u 0) (get_or saturations v 0)) [
      | inl z ↦ rw (← counted.differs u hu bu, ← counted.differs v hv bv, ← counted.waits u hu bu, ← counted.waits v hv bv, le-ltb (get_or saturations v 0) (get_or saturations u 0) h, le-ltb (get_or waiting v 0) (get_or waiting u 0) (w z)) (and_false (eqb (get_or saturations v 0) (get_or saturations u 0)) false refl)
      | inr z ↦ rw (← counted.differs u hu bu, ← counted.differs v hv bv, le-ltb (get_or saturations v 0) (get_or saturations u 0) h, ne_eqb (get_or saturations v 0) (get_or saturations u 0) (λ y. z (sym y)))
    ]

  best_leads : (k : ℕ) → Best colors saturations waiting k → Leads nb colors (length colors) k
  best_leads k b = lead_all nb colors k b.bare lower (length colors) b.inside (λ u h bare. not_greater u k h bare b.inside b.bare (b.most u h) (b.longest u h))
    where
      lower : (u : ℕ) → u < k → color_of colors u ≡ no_color → greater nb colors k u ≡ true
      lower u h bare = elim (dec_eq (get_or saturations u 0) (get_or saturations k 0)) [
        | inl z ↦ waits_greater k u b.inside b.bare (omega (arith, b.inside)) bare z (b.lowest u h bare z)
        | inr z ↦ more_greater k u b.inside b.bare (omega (arith, b.inside)) bare (omega (arith, b.most u (omega (arith, b.inside)), z))
      ]

-- A graph that passed the checks, with its table, as lists, and the counts of its items.
pub record CountsReadyOf (kind : Kind) (n : ℕ) (ends starts entries colors saturations waiting : List ℕ) : Type 0 where
  pub tabled : Tabled kind n ends starts entries (length colors)
  pub counted : BothCounted (neighbors_of kind n ends) (length colors) colors saturations waiting
  pub cleared : Cleared colors saturations waiting
  pub saturations_room : length colors ≤ length saturations
  pub waiting_room : length colors ≤ length waiting

-- The choice between two turns.
module _ (kind : Kind) (n : ℕ) (ends starts entries colors saturations waiting : List ℕ) (ready : CountsReadyOf kind n ends starts entries colors saturations waiting)
    (choice : Option NodeIndex) (said : option_of choice ≡ choice_of colors saturations waiting) where
  few : length colors ≤ 4096
  few = items_few kind n ends (length colors) ready.tabled.sized

  pub chosen_none : choice ≡ None → uncolored colors (length colors) ≡ []
  chosen_none e = none_uncolored colors (length colors) (none_bare colors saturations waiting few ready.saturations_room ready.waiting_room ready.cleared.counts (sym (ap option_of e) ∙ said))

  pub chosen_next : (v : NodeIndex) → choice ≡ Some v → Leads (neighbors_of kind n ends) colors (length colors) v.0
  chosen_next v e = best_leads (neighbors_of kind n ends) colors saturations waiting ready.counted v.0 (some_best colors saturations waiting few ready.saturations_room ready.waiting_room v.0 (sym (ap option_of e) ∙ said))

-- The same of the items of a graph with its table.
module _ (items : Items) (colors saturations waiting : List ℕ) (ready : CountsReady items colors saturations waiting)
    (choice : Option NodeIndex) (said : option_of choice ≡ choice_of colors saturations waiting) where
  pub ready_of : CountsReadyOf items.kind items.table.nodes items.table.ends.now items.table.starts.now items.table.entries.now colors saturations waiting
  ready_of = record {
    tabled = tabled_as items (length colors) ready.size;
    counted = ready.counted;
    cleared = ready.cleared;
    saturations_room = ready.saturations_room;
    waiting_room = ready.waiting_room;
  }

  pub chosen_none_items : choice ≡ None → uncolored colors (length colors) ≡ []
  chosen_none_items = chosen_none items.kind items.table.nodes items.table.ends.now items.table.starts.now items.table.entries.now colors saturations waiting ready_of choice said

  pub chosen_next_items : (v : NodeIndex) → choice ≡ Some v → Leads (neighbors_in items) colors (length colors) v.0
  chosen_next_items = chosen_next items.kind items.table.nodes items.table.ends.now items.table.starts.now items.table.entries.now colors saturations waiting ready_of choice said

-- ---- the turns

module _ (nb : ℕ → List ℕ) (n : ℕ) where
  pub turn_none : (colors : List ℕ) → uncolored colors n ≡ [] → colors ≡ turn_of nb n colors
  unfolding turn_of
  turn_none colors e = rw (turn_of, e)

  pub turn_chosen : (colors colors' : List ℕ) (best c : ℕ) → Leads nb colors n best → c ≡ smallest_free_at colors (nb best)
      → colors' ≡ set colors best c → colors' ≡ turn_of nb n colors
  unfolding turn_of
  turn_chosen colors colors' best c l e p = p ∙ rw (turn_of, l.candidates, ← l.best_is, color_item_lem nb colors best, e)

  -- Where every item has a colour the run is over.
  over : (turns : ℕ) (colors : List ℕ) → uncolored colors n ≡ [] → saturation_from nb n turns colors ≡ colors
  unfolding saturation_from
  over zero colors e = refl
  over (suc turns) colors e = rw (saturation_from, e)

  -- A run that goes on from a turn has one turn more.
  from_turn : (turns : ℕ) (colors : List ℕ) → saturation_from nb n turns (turn_of nb n colors) ≡ saturation_from nb n (suc turns) colors
  unfolding saturation_from turn_of
  from_turn turns colors = go (uncolored colors n) refl
    where
      go : (us : List ℕ) → uncolored colors n ≡ us → saturation_from nb n turns (turn_of nb n colors) ≡ saturation_from nb n (suc turns) colors
      go [] e = rw (turn_of, saturation_from, e) (over turns colors e)
      go (u ∷ us) e = rw (turn_of, saturation_from, e)

  -- The turns that are left lead from the colours of now to the answer.
  pub turns_none : (presets : List ℕ) → saturation_from nb n (n - 0) presets ≡ saturation_colors nb n presets
  unfolding saturation_colors
  turns_none presets = let e : n - 0 ≡ n = omega arith in rw e

  pub turns_more : (presets colors colors' : List ℕ) (turns : ℕ) → saturation_from nb n (n - turns) colors ≡ saturation_colors nb n presets → turns < n → colors' ≡ turn_of nb n colors
      → saturation_from nb n (n - (turns + 1)) colors' ≡ saturation_colors nb n presets
  turns_more presets colors colors' turns e h p = let z : n - turns ≡ suc (n - (turns + 1)) = omega arith in rw p (from_turn (n - (turns + 1)) colors ∙ (rw z at e))

  pub turns_all : (presets colors : List ℕ) (turns : ℕ) → saturation_from nb n (n - turns) colors ≡ saturation_colors nb n presets → n ≤ turns → colors ≡ saturation_colors nb n presets
  unfolding saturation_from
  turns_all presets colors turns e h = let z : n - turns ≡ 0 = omega arith in rw z at e

-- The code has n as the length of the slice.
pub turn_size : (nb : ℕ → List ℕ) (k n : ℕ) (colors colors' : List ℕ) → colors' ≡ turn_of nb k colors → k ≡ n → colors' ≡ turn_of nb n colors
turn_size nb k n colors colors' p e = rw e at p

-- The turns start from the presets.
pub from_presets : (nb : ℕ → List ℕ) (k n : ℕ) (presets colors answer : List ℕ) → answer ≡ saturation_colors nb k colors → colors ≡ presets → k ≡ n → answer ≡ saturation_colors nb n presets
from_presets nb k n presets colors answer p e q = p ∙ (ap (saturation_colors nb k) e ∙ ap (λ (i : ℕ). saturation_colors nb i presets) q)
