-- `part_at` meets its contract: the part at the higher end, or at the lower unless the edge is a loop.
use mathlib.Core.Path.{refl, sym, ◌∙◌}
use native.Mathlib.Omega.{arith}
use borrow.Author.Tests.{eqb-true, eqb-false}
use Rattle.line_parts.proofs.PartsLaws.{part_higher, part_lower, part_none}
use Rattle.line_parts.proofs.part_at.Goals as goal

pub returns-then-turn-eq0 : goal.returns-then-turn-eq0
returns-then-turn-eq0 c = let f = part_higher _ _ _ _ _ _ _ c.ends_of-both.ensures.answer.0 c.ends_of-both.ensures.answer.1 _ _ _ _ _ _ c.edges_at.ensures.contents c.edges_at.ensures.place.1 c.part_of.ensures.contents c.part_of.ensures.place.1 refl c.if-turn-eq0.true in record { contents = f.0; place = (c.part_of.ensures.place.0 ∙ c.edges_at.ensures.place.0, f.1) }

pub returns-then-eq : goal.returns-then-eq
returns-then-eq c = let f = part_none _ _ _ _ _ _ _ c.ends_of-both.ensures.answer.0 c.ends_of-both.ensures.answer.1 c.if-turn-eq0.false (eqb-true _ _ (sym c.eq.ensures ∙ c.if-eq.true)) in record { contents = f.0; place = (refl, omega (arith, f.1)) }

pub returns : goal.returns
returns c = let f = part_lower _ _ _ _ _ _ _ c.ends_of-both.ensures.answer.0 c.ends_of-both.ensures.answer.1 _ _ _ _ _ _ c.edges_at-2.ensures.contents c.edges_at-2.ensures.place.1 c.part_of-2.ensures.contents c.part_of-2.ensures.place.1 refl c.if-turn-eq0.false (eqb-false _ _ (sym c.eq.ensures ∙ c.if-eq.false)) in record { contents = f.0; place = (c.part_of-2.ensures.place.0 ∙ c.edges_at-2.ensures.place.0, f.1) }
