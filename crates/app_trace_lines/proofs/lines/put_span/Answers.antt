use Rattle.std.proofs.Common.{codes, refl}
use Rattle.std.specs.Fmt.{decimal}
use Rattle.app_trace_lines.specs.Lines.{end_text, span_text}
use Rattle.app_trace_lines.proofs.Joined.{last_of_three}
use Rattle.app_trace_lines.proofs.lines.put_span.Goals as goal

pub returns : goal.returns
unfolding span_text
returns c =
    last_of_three c.put_end.result c.args.text.now.items c.put.new.text.items c.put_number.new.text.items c.put_end.new.text.items (codes " packets from ") (decimal c.args.first)
    (end_text c.args.end c.args.unheard) (end_text c.args.end c.args.unheard) c.in_ok-put.ensures c.in_ok-put_number.ensures refl c.put_end.ensures
