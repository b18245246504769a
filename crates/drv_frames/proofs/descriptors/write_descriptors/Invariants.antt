use Rattle.std.proofs.Common.{◌≡◌, ◌+◌, ◌-◌, ◌*◌, drop, vec_len, vec_capacity}
use Rattle.mem_runs.specs.Book.{holding, Stands}
use Rattle.drv_table.specs.IsoOffers.{all_descriptors}
use Rattle.drv_frames_content.specs.Part.{with_notes}
use Rattle.drv_frames.proofs.descriptors.write_descriptors.Given as goal

abbrev pub invariant-loop-k : goal.invariant-loop-k
invariant-loop-k l = record {
  stands : Stands (holding l.book l.mem);
  leads : all_descriptors l.book l.e l.desc l.slots (l.count - l.k) l.first_byte (drop (l.each * l.k) l.runs) (record { notes = l.periodic.periodic.notes; transfers = l.transfers.items; memory = l.mem }) ≡ all_descriptors l.book l.e l.desc l.slots l.count l.seed l.runs (record { notes = l.fn.periodic.periodic.notes; transfers = l.fn.transfers.items; memory = l.fn.mem });
  rest : l.periodic ≡ with_notes l.fn.periodic l.periodic.periodic.notes;
  len : vec_len l.transfers ≡ vec_len l.fn.transfers + l.k;
  capacity : vec_capacity l.transfers ≡ vec_capacity l.fn.transfers;
}
