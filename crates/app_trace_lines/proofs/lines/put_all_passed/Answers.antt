use Rattle.std.proofs.Common.{arith}
use Rattle.app_trace_lines.specs.Lines.{passed_text}
use Rattle.app_trace_lines.proofs.Joined.{piece_more}
use Rattle.app_trace_lines.proofs.lines.put_all_passed.Goals as goal

pub loop-passed-preserved : goal.loop-passed-preserved
loop-passed-preserved c =
    piece_more passed_text c.args.text.now.items c.loop-passed.text.items c.put_passed.new.text.items c.args.all.now c.loop-passed.passed-index c.passed-item.result (omega arith) c.passed-item.is
    c.loop-passed.invariant c.in_ok-put_passed.ensures
