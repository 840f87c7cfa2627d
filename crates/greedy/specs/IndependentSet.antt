-- Strategy IndependentSet.
use Rattle.std.specs.Prelude.{ℕ, zero, suc, ◌-◌, cond, List, [], ◌∷◌, ◌++◌, eqb, length, get_or, set, take}
use Rattle.lists.specs.Member.{elem}
use Rattle.graph.specs.Colored.{color_of}
use Rattle.greedy.specs.Turn.{uncolored}

-- The place of v in a list that has it.
unfoldable pub place_of : ℕ → List ℕ → ℕ
place_of v [] = 0
place_of v (x ∷ xs) = cond (eqb v x) 0 (suc (place_of v xs))

-- "Taking out puts the list's last node into the hole."
unfoldable pub take_out : ℕ → List ℕ → List ℕ
take_out v listed = take (length listed - 1) (set listed (place_of v listed) (get_or listed (length listed - 1) 0))

-- The items listed, and those put off to the next round.
pub record Lists : Type 0 where
  pub listed : List ℕ
  pub next : List ℕ

-- A listed item is "taken out" of its list "and appended to the next list".
unfoldable pub put_off : Lists → ℕ → Lists
put_off s v = cond (elem v s.listed) (record { listed = take_out v s.listed; next = s.next ++ v ∷ [] }) s

-- "its listed neighbours are taken out, in incidence order, and appended to the next list"
unfoldable pub put_off_all : Lists → List ℕ → Lists
put_off_all s [] = s
put_off_all s (v ∷ vs) = put_off_all (put_off s v) vs

-- What a round leaves: the next list, and the colours.
pub record Round : Type 0 where
  pub next : List ℕ
  pub colors : List ℕ

module _ (nb : ℕ → List ℕ) where
  -- "for each preset node of colour r, its listed neighbours are taken out"; of those below n, "visited by rising number".
  unfoldable pub put_off_presets : List ℕ → ℕ → ℕ → Lists → Lists
  put_off_presets presets r zero s = s
  put_off_presets presets r (suc n) s = let t = put_off_presets presets r n s in cond (eqb (color_of presets n) r) (put_off_all t (nb n)) t

  -- "Then the front node is coloured r and taken out, its listed neighbours are moved the same way, until the list is empty." Each turn takes one out.
  unfoldable pub color_listed : ℕ → ℕ → Lists → List ℕ → Round
  color_listed r zero s colors = record { next = s.next; colors = colors }
  color_listed r (suc turns) s colors =
      elim s.listed [
        | [] ↦ record { next = s.next; colors = colors }
        | v ∷ vs ↦ color_listed r turns (put_off_all (record { listed = take_out v (v ∷ vs); next = s.next }) (nb v)) (set colors v r)
      ]

  -- "the round of colour r"
  unfoldable pub round : ℕ → List ℕ → ℕ → List ℕ → List ℕ → Round
  round n presets r listed colors =
      let s = put_off_presets presets r n (record { listed = listed; next = [] }) in
      color_listed r (length s.listed) s colors

  -- "Then the next list takes the list's place and r grows by one, until there is no node left": each round colours an item or uses up a preset, so n rounds are enough.
  unfoldable pub rounds : ℕ → List ℕ → ℕ → ℕ → List ℕ → List ℕ → List ℕ
  rounds n presets zero r listed colors = colors
  rounds n presets (suc more) r listed colors =
      let after = round n presets r listed colors in
      rounds n presets more (suc r) after.next after.colors

  -- "A list of uncoloured nodes starts in rising order"; "the first r is 0".
  unfoldable pub independent_set_colors : ℕ → List ℕ → List ℕ
  independent_set_colors n presets = rounds n presets n 0 (uncolored presets n) presets
