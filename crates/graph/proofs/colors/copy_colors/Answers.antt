-- `copy_colors` meets its contract: as many colours as both slices have were copied.
use mathlib.Core.Path.{◌≡◌, refl, ◌∙◌}
use native.Mathlib.Omega.{arith}
use Rattle.lists.proofs.PartsLaws.{copied_count}
use Rattle.graph.proofs.colors.copy_colors.Goals as goal

pub returns : goal.returns
returns c =
    let all : c.loop-place.place ≡ c.min-place-end.result = omega (arith, c.loop-place-test.false, c.loop-place.auto.place-end) in
    record { to = c.loop-place.invariant.1 ∙ copied_count _ _ _ _ (all ∙ c.min-place-end.ensures) refl }
