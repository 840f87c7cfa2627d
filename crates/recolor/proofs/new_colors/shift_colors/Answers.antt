use Rattle.std.proofs.Common.{arith}
use Rattle.recolor.proofs.NewColorsLaws.{shifted_start, shifted_end}
use Rattle.recolor.proofs.new_colors.shift_colors.Goals as goal

pub loop-i-init : goal.loop-i-init
loop-i-init c = shifted_start _ _ _ _ (omega arith) (omega arith)

pub returns : goal.returns
returns c = record { out = shifted_end _ c.args.fan.now _ _ (omega arith) (omega arith) _ _ c.loop-i.invariant.1 (omega arith) }
