use Rattle.std.proofs.Common.{◌≡◌, ◌*◌, ◌≤◌, drop}
use Rattle.drv_table.specs.Offers.{note_stages}
use Rattle.drv_words.specs.Cuts.{stages_of}
use Rattle.drv_queues.proofs.notes.note_transfer.Given as goal

abbrev pub invariant-loop-k : goal.invariant-loop-k
invariant-loop-k l = record {
  few : l.from ≤ 5 * l.k;
  leads : note_stages l.notes (drop l.k (stages_of l.cut)) l.block (drop l.k l.qtds) (drop l.from l.runs) ≡ note_stages l.fn.notes (stages_of l.cut) l.first l.qtds l.runs;
}
