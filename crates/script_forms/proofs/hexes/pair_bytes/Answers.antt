use Rattle.std.proofs.Common.{arith, ◌∙◌}
use Rattle.script_forms.proofs.Pairs.{puts_byte}
use Rattle.script_forms.proofs.hexes.pair_bytes.Goals as goal

pub loop-at-preserved : goal.loop-at-preserved
loop-at-preserved c =
    puts_byte c.args.word.now c.loop-at.bytes.items c.push.new.self.items c.loop-at.at c.byte.result c.in-Some.byte (omega arith) c.byte.ensures c.in-Some.is c.in-Ok.ensures.items
    ∙ c.loop-at.invariant
