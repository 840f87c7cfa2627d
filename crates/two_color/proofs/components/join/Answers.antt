-- `join` meets its contract: the roots of both ends are the lowest nodes of their components.
use mathlib.Core.Path.{sym, ◌∙◌}
use borrow.Author.Tests.{eqb-true, eqb-false}
use Rattle.two_color.proofs.ComponentsLaws.{join_inside, join_apart_max}
use Rattle.two_color.proofs.components.join.Goals as goal

pub returns-then-eq : goal.returns-then-eq
returns-then-eq c = record { joins = join_inside _ _ _ _ _ _ _ _ _ _ c.root_of-a.ensures.finds c.root_of-b.ensures.finds (eqb-true _ _ (sym c.eq.ensures ∙ c.if-eq.true)) }

pub returns : goal.returns
returns c = record { joins = join_apart_max _ _ _ _ _ _ _ _ _ _ c.root_of-a.ensures.finds c.root_of-b.ensures.finds c.root_of-b.auto.up _ _ (eqb-false _ _ (sym c.eq.ensures ∙ c.if-eq.false)) c.min-low.ensures c.max-high.ensures }
