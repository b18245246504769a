use Rattle.std.proofs.Common.{ℕ, ap, sym, ◌∙◌, ◌∷◌}
use Rattle.std.proofs.lemmas.Result.{err_from_is_err_and}
use Rattle.mem_runs.specs.Book.{holding}
use Rattle.drv_table.specs.Words.{buffer_needs}
use Rattle.drv_table.specs.Accepting.{take_runs}
use Rattle.drv_table.specs.IsoOffers.{descriptor_blocks}
use Rattle.drv_iso.proofs.Taken.{one_missing}
use Rattle.drv_iso.proofs.runs.take_all.Goals as goal

pub returns-in_err-take_one_descriptor-clause-refused : goal.returns-in_err-take_one_descriptor-clause-refused
returns-in_err-take_one_descriptor-clause-refused c =
    let p = err_from_is_err_and c.from_residual.result c.from_residual.ensures.1 in
    let h = holding c.loop-descriptor.book c.loop-descriptor.mem in
    rw (p.1, p.2)
    (sym c.loop-descriptor.invariant.leads
    ∙ one_missing h c.in_err-take_one_descriptor.field-0.0 c.args.slots.now c.args.count c.loop-descriptor._descriptor c.loop-descriptor-test.true
    (ap (λ (n : ℕ). take_runs h (descriptor_blocks c.args.slots.now ∷ buffer_needs n)) (sym c.total_bytes-total.ensures.total) ∙ ap (λ (b : ℕ). take_runs h (b ∷ buffer_needs c.total_bytes-total.result)) (sym c.blocks_of-blocks.ensures.blocks) ∙ c.in_err-take_one_descriptor.ensures.refused))
