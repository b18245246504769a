use Rattle.report_load.proofs.Told.{line_told}
use Rattle.report_load.proofs.printing.line_of.Goals as goal

pub returns : goal.returns
returns c =
    line_told c.args.n c.args.summary.now _ _ _ _ _ _ _ _ c.new-line.ensures c.put_count.ensures.text c.put_count-2.ensures.text c.put_count-3.ensures.text c.put_count-4.ensures.text
    c.put_count-5.ensures.text c.put_count-6.ensures.text c.put.ensures.text
