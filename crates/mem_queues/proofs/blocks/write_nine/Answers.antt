use Rattle.std.proofs.Common.{drop, arith, sym, ◌∙◌}
use Rattle.std.proofs.lemmas.List.{take_all, length-drop}
use Rattle.mem_queues.proofs.OneBlock.{overlay_in_two}
use Rattle.mem_queues.proofs.blocks.write_nine.Goals as goal

pub returns-clause-memory : goal.returns-clause-memory
returns-clause-memory g c =
    let m = g.M.HcMemory.mem c.args.mem.now in
    let ws = c.args.words.now in
    overlay_in_two m (g.M.HcMemory.mem c.write_five.new.mem) (g.M.HcMemory.mem c.write_four.new.mem) c.args.at c.block_after-second.result
    ws _
    c.requires.nine (sym c.write_five.ensures.written ∙ c.if-not-write_five.false)
    c.write_five.ensures.memory c.block_after-second.ensures.after
    (take_all _ (drop 5 ws) (omega (arith, length-drop 5 ws))) c.write_four.ensures.memory
