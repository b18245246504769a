use Rattle.std.proofs.Common.{ℕ, ◌+◌, ◌≤◌, length, arith, refl, length-take, length-drop}
use Rattle.mem_bytes.proofs.Loads.{read_none, read_on}
use Rattle.mem_bytes.proofs.transfers.load.Goals as goal

pub loop-done-init : goal.loop-done-init
loop-done-init c = (omega arith, read_none c.args.mem.now c.args.pages.now c.args.from c.args.into.now)

pub loop-done-preserved : goal.loop-done-preserved
loop-done-preserved c =
    let m = c.args.mem.now in
    let more : c.loop-done.done + c.get-done.result ≤ length c.args.into.now =
    omega (arith, c.get-done.ensures.within, length-take {A = ℕ}, length-drop {A = ℕ})
    in
    (more, read_on m m c.args.pages.now c.args.from c.args.into.now c.loop-done.into _ c.loop-done.done c.get-done.result refl more (omega arith) c.loop-done.invariant.1 c.get-done.ensures.bytes)
