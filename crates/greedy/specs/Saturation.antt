-- Strategy Saturation: the port's choice, and which runs are legal.
use Rattle.std.specs.Prelude.{ℕ, zero, suc, Bool, true, not, ◌&&◌, ◌||◌, cond, List, [], ◌∷◌, map, eqb, ltb, set}
use Rattle.lists.specs.Member.{elem}
use Rattle.lists.specs.Equal.{equal}
use Rattle.lists.specs.Different.{different}
use Rattle.graph.specs.Colored.{color_of, is_colored, colored_among, smallest_free_at}
use Rattle.greedy.specs.Turn.{uncolored, color_item}

-- How many of these items have no colour.
unfoldable pub uncolored_among : List ℕ → List ℕ → ℕ
uncolored_among colors [] = 0
uncolored_among colors (v ∷ vs) = cond (is_colored colors v) (uncolored_among colors vs) (suc (uncolored_among colors vs))

module _ (nb : ℕ → List ℕ) where
  -- the "number of different colours on its neighbours"
  unfoldable pub saturation : List ℕ → ℕ → ℕ
  saturation colors v = different (map (color_of colors) (colored_among colors (nb v)))

  -- the "uncoloured neighbours, a double edge counted twice, a loop on an uncoloured node once"
  unfoldable pub uncolored_neighbors : List ℕ → ℕ → ℕ
  uncolored_neighbors colors v = uncolored_among colors (nb v)

  -- Item u is greater than v: "the greatest number of different colours on its neighbours; among these the most uncoloured neighbours".
  unfoldable pub greater : List ℕ → ℕ → ℕ → Bool
  greater colors u v =
      ltb (saturation colors v) (saturation colors u)
      || (eqb (saturation colors v) (saturation colors u) && ltb (uncolored_neighbors colors v) (uncolored_neighbors colors u))

  -- The greatest of v and these, the first of several: in a rising list "the port takes the lowest node number".
  unfoldable pub greatest : List ℕ → ℕ → List ℕ → ℕ
  greatest colors v [] = v
  greatest colors v (u ∷ us) = greatest colors (cond (greater colors u v) u v) us

  -- Turns until no item is without a colour; n turns are enough.
  unfoldable pub saturation_from : ℕ → ℕ → List ℕ → List ℕ
  saturation_from n zero colors = colors
  saturation_from n (suc turns) colors =
      elim (uncolored colors n) [
        | [] ↦ colors
        | v ∷ vs ↦ saturation_from n turns (color_item nb colors (greatest colors v vs))
      ]

  -- The items in the order of their turns.
  unfoldable pub order_from : ℕ → ℕ → List ℕ → List ℕ
  order_from n zero colors = []
  order_from n (suc turns) colors =
      elim (uncolored colors n) [
        | [] ↦ []
        | v ∷ vs ↦ greatest colors v vs ∷ order_from n turns (color_item nb colors (greatest colors v vs))
      ]

  -- "Presets as above": the turns begin with the presets' colours.
  unfoldable pub saturation_colors : ℕ → List ℕ → List ℕ
  saturation_colors n presets = saturation_from n n presets

  -- ---- legal runs

  -- Whether none of these is greater than v.
  unfoldable pub none_greater : List ℕ → ℕ → List ℕ → Bool
  none_greater colors v [] = true
  none_greater colors v (u ∷ us) = not (greater colors u v) && none_greater colors v us

  -- A turn "takes some node that is greatest by these two counts and gives it its smallest colour".
  unfoldable pub legal_turn : ℕ → List ℕ → ℕ → ℕ → Bool
  legal_turn n colors v c = elem v (uncolored colors n) && (none_greater colors v (uncolored colors n) && eqb c (smallest_free_at colors (nb v)))

  -- "A run is legal if each turn" is: from these colours, the items of the order take their colours of the answer, and the answer is what then stands.
  unfoldable pub legal_run : ℕ → List ℕ → List ℕ → List ℕ → Bool
  legal_run n colors [] answer = equal colors answer && equal (uncolored colors n) []
  legal_run n colors (v ∷ order) answer = legal_turn n colors v (color_of answer v) && legal_run n (set colors v (color_of answer v)) order answer
