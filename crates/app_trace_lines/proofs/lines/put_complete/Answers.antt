use Rattle.std.proofs.Common.{codes}
use Rattle.app_trace_lines.specs.Words.{pid_word}
use Rattle.app_trace_lines.specs.Lines.{port_text, complete_text}
use Rattle.app_trace_lines.proofs.Joined.{last_of_three}
use Rattle.app_trace_lines.proofs.lines.put_complete.Goals as goal

pub returns : goal.returns
unfolding complete_text
returns c =
    last_of_three c.put-2.result c.args.text.now.items c.put.new.text.items c.put_port.new.text.items c.put-2.new.text.items (codes "complete-split ") (port_text c.args.hub c.args.port)
    (pid_word c.args.pid) c.pid_text.result.now c.in_ok-put.ensures c.in_ok-put_port.ensures c.pid_text.ensures c.put-2.ensures
