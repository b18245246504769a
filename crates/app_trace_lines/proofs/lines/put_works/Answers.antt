use Rattle.std.proofs.Common.{arith}
use Rattle.app_trace_lines.specs.Lines.{work_text}
use Rattle.app_trace_lines.proofs.Joined.{piece_more}
use Rattle.app_trace_lines.proofs.lines.put_works.Goals as goal

pub loop-work-preserved : goal.loop-work-preserved
loop-work-preserved c =
    piece_more work_text c.args.text.now.items c.loop-work.text.items c.put_work.new.text.items c.args.works.now c.loop-work.work-index c.work-item.result (omega arith) c.work-item.is
    c.loop-work.invariant c.in_ok-put_work.ensures
