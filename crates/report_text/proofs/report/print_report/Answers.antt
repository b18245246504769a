use Rattle.std.proofs.Common.{arith, ap, ◌∙◌}
use Rattle.std.proofs.lemmas.Result.{err_from_is_err_and}
use Rattle.usb_base.specs.Outside.{one_more}
use Rattle.report_text.proofs.Reported.{appends_line, prefix_of_line}
use Rattle.report_text.proofs.report.print_report.Goals as goal

pub returns-in_err-print_one : goal.returns-in_err-print_one
returns-in_err-print_one g c =
    let p = err_from_is_err_and c.from_residual.result c.from_residual.ensures.1 in
    rw p.1 (record {
      ok = tt;
      err = prefix_of_line _ _ _ c.args.store.now c.args.reports.now c.loop-report.report-index c.report-item.result (omega arith) c.report-item.is
          c.loop-report.invariant.appended c.in_err-print_one.ensures.err;
      stays = tt;
      rises = c.in_err-print_one.ensures.rises ∙ ap one_more c.loop-report.invariant.same;
      counted = omega (arith, c.in_err-print_one.ensures.counted, c.loop-report.invariant.counted);
    })

pub loop-report-preserved : goal.loop-report-preserved
loop-report-preserved g c = record {
  appended = appends_line _ _ _ c.args.store.now c.args.reports.now c.loop-report.report-index c.report-item.result (omega arith) c.report-item.is
      c.loop-report.invariant.appended c.in_ok-print_one.ensures.ok;
  counted = omega (arith, c.in_ok-print_one.ensures.counted, c.loop-report.invariant.counted);
  same = c.in_ok-print_one.ensures.stays ∙ c.loop-report.invariant.same;
}
