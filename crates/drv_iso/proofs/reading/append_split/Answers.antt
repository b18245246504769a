use Rattle.std.proofs.Common.{ℕ, List, ◌++◌, ◌∙◌, ap}
use Rattle.drv_iso.proofs.Telling.{split_taken}
use Rattle.drv_iso.proofs.reading.append_split.Goals as goal

pub returns-clause-items : goal.returns-clause-items
returns-clause-items c =
    c.append_bytes.ensures.items
    ∙ ap (λ (bytes : List ℕ). c.args.store.now.items ++ bytes)
    (split_taken c.args.note.now c.args.mem.now c.args.block c.args.most c.min-n.result c.moved_of_sitd.result c.moved_of_sitd.ensures.moved c.min-n.ensures)
