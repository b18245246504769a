use Rattle.std.proofs.Common.{◌+◌, ◌-◌, ◌<◌, ap, ◌∙◌, arith}
use Rattle.mem_runs.specs.Book.{Holding, holding}
use Rattle.drv_table.specs.declared.content.QtdNote.{QtdNote}
use Rattle.drv_table.specs.Releases.{free_qtd, free_qtds}
use Rattle.drv_harvests.proofs.Freed.{qtds_more}
use Rattle.drv_harvests.proofs.releases.free_qtds_from.Goals as goal

pub loop-qtd-preserved : goal.loop-qtd-preserved
loop-qtd-preserved c =
    let notes = c.args.notes.now in
    let h = holding c.loop-qtd.book c.loop-qtd.mem in
    let b = c.loop-qtd.block in
    let i = c.loop-qtd._qtd in
    let below : i < c.args.count = omega (arith, c.loop-qtd-test.true) in
    record {
      stands = c.free_one.ensures.stands;
      leads =
          ap (λ (g : Holding). free_qtds notes g c.note_of-note.result.next (c.args.count - (i + 1))) c.free_one.ensures.freed
          ∙ ap (λ (note : QtdNote). free_qtds notes (free_qtd h b note) note.next (c.args.count - (i + 1))) c.note_of-note.ensures
          ∙ qtds_more notes h b c.args.count i below
          ∙ c.loop-qtd.invariant.leads;
    }
