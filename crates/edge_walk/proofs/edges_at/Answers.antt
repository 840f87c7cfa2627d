-- `edges_at` meets its contract: at each return the tests on the way there decide the tests of `stretch` and `bounds`.
-- A start read from the table is a u16, which the slice's own typing says, so each cast keeps it.
use mathlib.Core.Path.{refl}
use borrow.Author.Tests.{lt-ltb, le-ltb, lt-leb, le-leb}
use native.Mathlib.Omega.{arith}
use Rattle.graph.specs.Stretch.{stretch, bounds}
use Rattle.edge_walk.proofs.edges_at.Goals as goal

-- there is no start for the next node
pub returns-then-starts-next : goal.returns-then-starts-next
unfolding stretch bounds
returns-then-starts-next c = let few = le-ltb _ _ c.if-starts-next.true in record { contents = simp few; place = (refl, simp few (omega arith)) }

-- the starts fall
pub returns-then-end-start : goal.returns-then-end-start
unfolding stretch bounds
returns-then-end-start c = let both = lt-ltb _ _ c.if-starts-next.false in
    let falls = lt-leb _ _ c.if-end-start.true in record { contents = simp (both, falls); place = (refl, simp (both, falls) (omega arith)) }

-- the starts pass the entries
pub returns-then-entries-end : goal.returns-then-entries-end
unfolding stretch bounds
returns-then-entries-end c = let both = lt-ltb _ _ c.if-starts-next.false in
    let rises = le-leb _ _ c.if-end-start.false in
    let passes = lt-leb _ _ c.if-entries-end.true in record { contents = simp (both, rises, passes); place = (refl, simp (both, rises, passes) (omega arith)) }

-- the stretch stands in the entries
pub returns : goal.returns
unfolding stretch bounds
returns c = let both = lt-ltb _ _ c.if-starts-next.false in
    let rises = le-leb _ _ c.if-end-start.false in
    let stands = le-leb _ _ c.if-entries-end.false in record { contents = simp (both, rises, stands); place = (refl, simp (both, rises, stands) (omega arith)) }
