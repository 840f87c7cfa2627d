-- `put_line` meets its contract: four numbers, each with the byte that follows it.
use Rattle.matchday_text.proofs.PutLaws.{line_first, line_second, line_third, line_fourth, line_put}
use Rattle.matchday_text.proofs.lines.put_line.Goals as goal

pub put_number-a-requires : goal.put_number-a-requires
put_number-a-requires c = line_first c.args.text.now _ _ _ _ _ c.requires

pub put_number-b-requires : goal.put_number-b-requires
put_number-b-requires c = line_second _ _ _ _ _ _ c.requires _ _ c.put_number-a.ensures.put

pub put_number-c-requires : goal.put_number-c-requires
put_number-c-requires c = line_third _ _ _ _ _ _ c.requires _ _ c.put_number-a.ensures.put _ _ c.put_number-b.ensures.put

pub put_number-requires : goal.put_number-requires
put_number-requires c = line_fourth _ _ _ _ _ _ c.requires _ _ c.put_number-a.ensures.put _ _ c.put_number-b.ensures.put _ _ c.put_number-c.ensures.put

pub returns : goal.returns
returns c = record { put = line_put _ _ _ _ _ _ c.requires _ _ c.put_number-a.ensures.put _ _ c.put_number-b.ensures.put _ _ c.put_number-c.ensures.put _ _ c.put_number.ensures.put }
