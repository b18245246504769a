use Rattle.std.proofs.lemmas.Result.{err_from_is_err_and}
use Rattle.usb_base.proofs.Known.{prints_cut, prints_join}
use Rattle.report_text.proofs.report.print_line.Goals as goal

pub returns-in_err-write_all : goal.returns-in_err-write_all
returns-in_err-write_all g c =
    let p = err_from_is_err_and c.from_residual.result c.from_residual.ensures.1 in
    rw p.1 (prints_cut _ _ _ _ _ _ _ _ c.in_err-write_all.ensures)

pub returns-in_err-print_digits : goal.returns-in_err-print_digits
returns-in_err-print_digits g c =
    let p = err_from_is_err_and c.from_residual-in_err-print_digits.result c.from_residual-in_err-print_digits.ensures.1 in
    rw p.1 (prints_join _ _ _ _ _ _ _ _ _ c.in_ok-write_all.ensures (prints_cut _ _ _ _ _ _ _ _ c.in_err-print_digits.ensures))

pub returns : goal.returns
returns g c =
    prints_join _ _ _ _ _ _ _ _ _ c.in_ok-write_all.ensures (prints_join _ _ _ _ _ _ _ _ _ c.in_ok-print_digits.ensures c.write_all-2.ensures)
