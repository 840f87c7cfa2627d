-- `days_of` meets its contract: all colours are below `most`; the large ones, copied out, are those from 4,096 on.
use Rattle.std.proofs.Common.{arith, ◌∙◌}
use Rattle.graph.specs.Color.{no_color}
use Rattle.days.proofs.CountLaws.{within_days, within_bound, parted_days, copied_counted, window_below}
use Rattle.days.proofs.days_of.Goals as goal

pub returns-then-most-le64 : goal.returns-then-most-le64
returns-then-most-le64 c = record { answer = window_below _ _ _ c.count_window.ensures.answer ∙ within_days _ _ (omega arith, c.most_days-most.ensures.most) }

pub returns-then-most-le4096 : goal.returns-then-most-le4096
returns-then-most-le4096 c = record { answer = window_below _ _ _ c.count_window-then-most-le4096.ensures.answer ∙ within_days _ _ (omega arith, c.most_days-most.ensures.most) }

pub overflow_add-result : goal.overflow_add-result
overflow_add-result c =
    let colors = c.args.colors.now in
    let small = window_below 4096 c.count_window-in-Some.result colors c.count_window-in-Some.ensures.answer in
    let large = copied_counted 4096 no_color 64 c.in-Some.place _ colors c.copy_large.new.large c.copy_large.auto.large c.in-Some.ensures.copied.1 c.count_searched.ensures.answer in
    omega (arith, small, large, within_bound 0 4096 colors, within_bound 4096 no_color colors)

pub returns-in-Some : goal.returns-in-Some
returns-in-Some c =
    let colors = c.args.colors.now in
    let small = window_below 4096 c.count_window-in-Some.result colors c.count_window-in-Some.ensures.answer in
    let large = copied_counted 4096 no_color 64 c.in-Some.place _ colors c.copy_large.new.large c.copy_large.auto.large c.in-Some.ensures.copied.1 c.count_searched.ensures.answer in
    record { answer = omega (arith, small, large, parted_days 4096 c.most_days-most.result colors (omega arith) (omega arith, c.most_days-most.ensures.most)) }

pub returns : goal.returns
returns c = record { answer = c.count_many.ensures.answer ∙ within_days _ _ (omega arith, c.most_days-most.ensures.most) }
