use Rattle.std.proofs.lemmas.Result.{err_from_is_err_and}
use Rattle.usb_base.proofs.Known.{prints_cut, prints_join}
use Rattle.bus_world.proofs.world.World.print_opened.Goals as goal

pub returns-in_err-print_waiting : goal.returns-in_err-print_waiting
returns-in_err-print_waiting g c =
    let p = err_from_is_err_and c.from_residual.result c.from_residual.ensures.1 in
    rw p.1 (prints_cut _ _ _ _ _ _ _ _ c.in_err-print_waiting.ensures)

pub returns : goal.returns
returns g c = prints_join _ _ _ _ _ _ _ _ _ c.in_ok-print_waiting.ensures c.print_told.ensures
