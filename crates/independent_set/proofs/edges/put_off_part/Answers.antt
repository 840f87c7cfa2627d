use Rattle.std.proofs.Common.{◌∷◌, [], ◌∙◌, inl, refl}
use Rattle.lists.proofs.MemberLaws.{mem_append_left, mem_append_right}
use Rattle.independent_set.proofs.NeighborsLaws.{last_off, none_left}
use Rattle.independent_set.proofs.edges.put_off_part.Goals as goal

pub loop-edge-init : goal.loop-edge-init
loop-edge-init c = rw (c.into_iter-edge-iterator.ensures.into_iter_gives, c.rev-edge-items.ensures.source) (record { in_bounds = rw c.iter.ensures.rest c.requires.in_bounds; left = rw c.iter.ensures.rest })

pub put_off-requires : goal.put_off-requires
put_off-requires c = let e = c.in-Some.ensures.steps in
    rw c.node_of_edge.ensures.answer (c.loop-edge.invariant.in_bounds _ (rw e (mem_append_right _ c.next.new.self.iter.rest.now _ (inl refl))))

pub loop-edge-preserved : goal.loop-edge-preserved
loop-edge-preserved c = let e = c.in-Some.ensures.steps in
    record {
      in_bounds = λ j m. c.loop-edge.invariant.in_bounds j (rw e (mem_append_left j c.next.new.self.iter.rest.now (c.in-Some.edge.now ∷ []) m));
      left = last_off _ _ _ _ _ e (rw c.node_of_edge.ensures.answer at c.put_off.ensures.put_off) ∙ c.loop-edge.invariant.left;
    }

pub returns : goal.returns
returns c = record { put_off = none_left _ _ _ c.in-None.ensures.steps.0 c.loop-edge.invariant.left }
