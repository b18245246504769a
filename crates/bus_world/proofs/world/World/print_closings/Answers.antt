use Rattle.std.proofs.Common.{arith, ap, ◌∙◌}
use Rattle.std.proofs.lemmas.Result.{err_from_is_err_and}
use Rattle.usb_base.specs.Outside.{one_more}
use Rattle.bus_world.specs.ClosingAtWork.{closing_at_work}
use Rattle.bus_world.proofs.Printing.{appends_piece, prefix_of_piece}
use Rattle.bus_world.proofs.world.World.print_closings.Goals as goal

pub returns-in_err-print_closing : goal.returns-in_err-print_closing
returns-in_err-print_closing g c =
    let p = err_from_is_err_and c.from_residual.result c.from_residual.ensures.1 in
    rw p.1 (record {
      ok = tt;
      err = prefix_of_piece _ _ _ (closing_at_work c.args.self.now.work) c.args.seats.now c.loop-seat.seat-index c.seat-item.result (omega arith) c.seat-item.is
          c.loop-seat.invariant.appended c.in_err-print_closing.ensures.err;
      stays = tt;
      rises = c.in_err-print_closing.ensures.rises ∙ ap one_more c.loop-seat.invariant.same;
      counted = omega (arith, c.in_err-print_closing.ensures.counted, c.loop-seat.invariant.counted);
    })

pub loop-seat-preserved : goal.loop-seat-preserved
loop-seat-preserved g c = record {
  appended = appends_piece _ _ _ (closing_at_work c.args.self.now.work) c.args.seats.now c.loop-seat.seat-index c.seat-item.result (omega arith) c.seat-item.is
      c.loop-seat.invariant.appended c.in_ok-print_closing.ensures.ok;
  counted = omega (arith, c.in_ok-print_closing.ensures.counted, c.loop-seat.invariant.counted);
  same = c.in_ok-print_closing.ensures.stays ∙ c.loop-seat.invariant.same;
}
