use Rattle.std.proofs.Common.{◌≡◌, ℕ, ◌∙◌, ap, true, min, arith}
use Rattle.bandwidth.specs.Placements.{has}
use Rattle.itd_sitd.specs.declared.slot.ItdSlot.{ItdSlot}
use Rattle.drv_periodic_table.specs.Descriptors.{moved_in}
use Rattle.drv_iso.proofs.Telling.{slot_taken}
use Rattle.drv_iso.proofs.reading.append_slot.Goals as goal

pub returns-clause-left : goal.returns-clause-left
returns-clause-left c =
    let on : has c.args.note.now.smask c.args.u ≡ true = grind (arith, c.has_bit.ensures, c.if-not-has_bit.false) in
    let moved = c.moved_bytes-moved.ensures.moved ∙ ap (λ (s : ItdSlot). moved_in c.args.note.now.slot s.length) c.slot_of_memory.ensures in
    let small : c.min-n.result ≡ min c.args.most _ = c.min-n.ensures ∙ ap (λ (n : ℕ). min c.args.most n) moved in
    (slot_taken c.args.note.now c.args.mem.now c.args.block c.args.u c.args.most c.min-n.result on small).left
