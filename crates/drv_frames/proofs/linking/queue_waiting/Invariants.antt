use Rattle.std.proofs.Common.{◌≡◌, ◌≤◌, ◌++◌, length, map, drop, filter}
use Rattle.drv_periodic_table.specs.Periodic.{descriptor_member}
use Rattle.drv_frames_content.specs.Part.{with_queued}
use Rattle.drv_table.specs.declared.content.Transfer.{Transfer}
use Rattle.drv_table.specs.DriverContent.{waits_for}
use Rattle.drv_frames.proofs.linking.queue_waiting.Given as goal

abbrev pub invariant-loop-transfer : goal.invariant-loop-transfer
invariant-loop-transfer l = record {
  leads : l.periodic.periodic.queued ++ map (λ (t : Transfer). descriptor_member l.fn.periodic.periodic.notes t.first) (filter (waits_for l.e) (drop l.transfer-index l.transfers)) ≡ map (λ (t : Transfer). descriptor_member l.fn.periodic.periodic.notes t.first) (filter (waits_for l.e) l.transfers);
  rest : l.periodic ≡ with_queued l.fn.periodic l.periodic.periodic.queued;
  short : length l.periodic.periodic.queued ≤ l.transfer-index;
}
