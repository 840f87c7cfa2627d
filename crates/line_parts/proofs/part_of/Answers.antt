-- `part_of` meets its contract: the edges are cut where the edge stands.
use mathlib.Core.Path.{refl}
use native.Mathlib.Omega.{arith}
use Rattle.line_parts.proofs.PartsLaws.{place_some, place_none, cut_after, cut_none, cut_before, cut_all, from_after, from_none, from_before}
use Rattle.line_parts.proofs.part_of.Goals as goal

pub returns-in-Some : goal.returns-in-Some
returns-in-Some c =
    let p = place_some _ _ _ c.in-Some.ensures.answer in
    record { contents = cut_after _ _ _ _ p.0 c.if-later.true; place = (refl, omega (arith, from_after _ _ _ _ p.0 c.if-later.true p.1)) }

pub returns-in-Some-2 : goal.returns-in-Some-2
returns-in-Some-2 c =
    let p = place_some _ _ _ c.in-Some.ensures.answer in
    record { contents = cut_before _ _ _ _ p.0 c.if-later.false; place = (refl, omega (arith, from_before _ _ _ _ p.0 c.if-later.false)) }

pub returns-in-None : goal.returns-in-None
returns-in-None c =
    let p = place_none _ _ c.in-None.ensures.answer in
    record { contents = cut_none _ _ _ _ refl c.if-later-2.true p; place = (refl, omega (arith, from_none _ _ _ _ refl c.if-later-2.true p)) }

pub returns-in-None-2 : goal.returns-in-None-2
returns-in-None-2 c =
    let p = place_none _ _ c.in-None.ensures.answer in
    record { contents = cut_all _ _ _ _ refl c.if-later-2.false p; place = (refl, omega (arith, from_before c.args.later c.args.edge.0 _ c.args.edges.now refl c.if-later-2.false)) }
