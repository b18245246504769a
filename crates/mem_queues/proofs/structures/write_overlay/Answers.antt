use Rattle.std.proofs.Common.{ap, ◌∙◌}
use Rattle.mem_queues.specs.Structures.{overlay_written}
use Rattle.mem_queues.proofs.OneBlock.{overlay_is}
use Rattle.mem_queues.proofs.structures.write_overlay.Goals as goal

pub returns-clause-memory : goal.returns-clause-memory
returns-clause-memory g c =
    c.write_nine.ensures.memory
    ∙ ap (overlay_written (g.M.HcMemory.mem c.args.mem.now) c.args.at)
    (overlay_is c.args.queue_head.now c.write-words.result c.write-words.ensures)
