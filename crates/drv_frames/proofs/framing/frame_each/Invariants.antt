use Rattle.std.proofs.Common.{◌≡◌, drop}
use Rattle.drv_table.specs.FrameChoice.{with_frames}
use Rattle.drv_frames_content.specs.Part.{with_notes}
use Rattle.drv_frames.proofs.framing.frame_each.Given as goal

abbrev pub invariant-loop-transfer : goal.invariant-loop-transfer
invariant-loop-transfer l = record {
  leads : with_frames l.placement (drop l.transfer-index l.transfers) l.frame l.periodic.periodic.notes ≡ with_frames l.placement l.transfers l.first l.fn.periodic.periodic.notes;
  rest : l.periodic ≡ with_notes l.fn.periodic l.periodic.periodic.notes;
}
