use Rattle.std.proofs.Common.{◌≡◌, drop}
use Rattle.mem_runs.specs.Book.{holding, Stands}
use Rattle.drv_table.specs.FrameChoice.{linked_descriptors}
use Rattle.drv_frames.proofs.framing.write_links.Given as goal

abbrev pub invariant-loop-transfer : goal.invariant-loop-transfer
invariant-loop-transfer l = record {
  stands : Stands (holding l.book l.mem);
  leads : linked_descriptors l.book l.periodic.periodic.list l.periodic.periodic.notes (drop l.transfer-index l.transfers) l.mem ≡ linked_descriptors l.book l.periodic.periodic.list l.periodic.periodic.notes l.transfers l.fn.mem;
}
