use Rattle.std.proofs.Common.{ℕ, ◌+◌, drop, ap, sym, ◌∙◌, subst, arith}
use Rattle.std.proofs.lemmas.Result.{err_from_is_err_and}
use Rattle.usb_base.specs.Outside.{one_more}
use Rattle.bus_world.specs.ClosingAtWork.{taken_lines}
use Rattle.bus_world.proofs.Printing.{IsLeftOf, left_more, left_cut_more, prints_end}
use Rattle.bus_world.proofs.EpochTexts.{epoch_text, mark_at, last_epoch}
use Rattle.bus_world.proofs.epochs.print_epochs.Goals as goal

pub returns-in_err-from : goal.returns-in_err-from
returns-in_err-from g c =
    let p = err_from_is_err_and c.from_residual.result c.from_residual.ensures.1 in
    rw p.1 (record {
      ok = tt;
      err = left_cut_more _ _ _ _ _ _ _
          (mark_at c.args.marks.now c.loop-mark.mark-index c.mark-item.result c.args.name.now c.args.taken.now c.loop-mark.from (omega arith) c.mark-item.is)
          c.loop-mark.invariant.left c.in_err-from.ensures.printed.err;
      stays = tt;
      rises = c.in_err-from.ensures.printed.rises ∙ ap one_more c.loop-mark.invariant.same;
      counted = omega (arith, c.in_err-from.ensures.printed.counted, c.loop-mark.invariant.counted);
    })

pub loop-mark-preserved : goal.loop-mark-preserved
loop-mark-preserved g c = record {
  left =
      subst (λ (n : ℕ). IsLeftOf (g.K.Sink.written c.args.sink.now) (g.K.Sink.written c.print_epoch.new.sink)
      (taken_lines c.args.marks.now c.args.name.now c.args.taken.now)
      (epoch_text (drop (c.loop-mark.mark-index + 1) c.args.marks.now) c.args.name.now c.args.taken.now n)) (sym c.in_ok-from.ensures.next)
      (left_more _ _ _ _ _ _ _
      (mark_at c.args.marks.now c.loop-mark.mark-index c.mark-item.result c.args.name.now c.args.taken.now c.loop-mark.from (omega arith) c.mark-item.is)
      c.loop-mark.invariant.left c.in_ok-from.ensures.printed.ok);
  counted = omega (arith, c.in_ok-from.ensures.printed.counted, c.loop-mark.invariant.counted);
  same = c.in_ok-from.ensures.printed.stays ∙ c.loop-mark.invariant.same;
}

pub returns : goal.returns
returns g c =
    prints_end g.K.Sink.written g.K.Sink.faults c.args.sink.now c.loop-mark.sink c.print_taken.new.sink c.print_taken.result _ _
    (subst (IsLeftOf (g.K.Sink.written c.args.sink.now) (g.K.Sink.written c.loop-mark.sink)
    (taken_lines c.args.marks.now c.args.name.now c.args.taken.now))
    (last_epoch c.args.marks.now c.loop-mark.mark-index c.args.name.now c.args.taken.now c.behind.result.now c.loop-mark.from
    c.loop-mark-test.false c.behind.ensures)
    c.loop-mark.invariant.left)
    c.loop-mark.invariant.same c.print_taken.ensures
