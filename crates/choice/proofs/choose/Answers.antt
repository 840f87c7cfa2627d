use Rattle.choice.proofs.ChoiceLaws.{lowest_begin, lowest_next, other_saturation, other_waiting, has_color_lem, too_many, few_saturations, few_waiting, most_of_front, longest_of_front, choice_found, choice_none}
use Rattle.choice.proofs.choose.Goals as goal
use Rattle.choice.proofs.choose.Goals.{then-count-gt-MAX_EDGES-via-then-count-gt-MAX_EDGES, then-count-gt-MAX_EDGES-via-else-count-gt-MAX_EDGES+then-saturations-count, then-count-gt-MAX_EDGES-via-else-count-gt-MAX_EDGES+else-saturations-count+then-waiting-count, else-saturations-item-via-then-saturations-item+then-waiting-item+else-colors-item, else-saturations-item-via-then-saturations-item+else-waiting-item, else-saturations-item-via-else-saturations-item}

pub returns-then-count-gt-MAX_EDGES : goal.returns-then-count-gt-MAX_EDGES
returns-then-count-gt-MAX_EDGES c = record {
  answer = elim c.then-count-gt-MAX_EDGES.branch [
    | then-count-gt-MAX_EDGES-via-then-count-gt-MAX_EDGES w ↦ too_many _ _ _ w.if-count-gt-MAX_EDGES.true
    | then-count-gt-MAX_EDGES-via-else-count-gt-MAX_EDGES+then-saturations-count w ↦ few_saturations _ _ _ w.if-saturations-count.true
    | then-count-gt-MAX_EDGES-via-else-count-gt-MAX_EDGES+else-saturations-count+then-waiting-count w ↦ few_waiting _ _ _ w.if-waiting-count.true
  ];
}

pub loop-item-init : goal.loop-item-init
loop-item-init c = lowest_begin _

pub returns-then-colors-item : goal.returns-then-colors-item
returns-then-colors-item c =
    let room = c.if-saturations-count.false in
    record { answer = choice_found _ _ _ c.if-count-gt-MAX_EDGES.false room c.if-waiting-count.false _ _ (most_of_front _ c.args.waiting.now _ room _ c.greatest-most.ensures.greatest) (longest_of_front _ _ _ room _ _ c.greatest_among-longest.ensures.greatest) _ c.loop-item.invariant c.loop-item-test.true c.if-saturations-item.true c.if-waiting-item.true c.if-colors-item.true }

pub loop-item-preserved : goal.loop-item-preserved
loop-item-preserved c = lowest_next _ _ c.loop-item.invariant (elim c.else-saturations-item.branch [
  | else-saturations-item-via-then-saturations-item+then-waiting-item+else-colors-item w ↦ has_color_lem _ _ _ _ _ _ c.loop-item-test.true w.if-colors-item.false
  | else-saturations-item-via-then-saturations-item+else-waiting-item w ↦ other_waiting _ _ _ _ _ _ w.if-waiting-item.false
  | else-saturations-item-via-else-saturations-item w ↦ other_saturation _ _ _ _ _ _ w.if-saturations-item.false
])

pub returns : goal.returns
returns c =
    let room = c.if-saturations-count.false in
    record { answer = choice_none _ _ _ c.if-count-gt-MAX_EDGES.false room c.if-waiting-count.false _ _ (most_of_front _ c.args.waiting.now _ room _ c.greatest-most.ensures.greatest) (longest_of_front _ _ _ room _ _ c.greatest_among-longest.ensures.greatest) _ c.loop-item.invariant c.loop-item.auto.item-end c.loop-item-test.false }
