-- A driver of worked rows with one isochronous transfer: its iTD stands in blocks 2 and 3, its buffer of two bytes in block 6, both are lent, beside a queue
-- head in block 4.
--     transfer, view         the transfer, and what tells it and its runs
--     descs, parts           what the descriptor has, and what the queues have
use Rattle.std.specs.Prelude.{true, false, [], ◌∷◌, ◌==◌, if◌then◌else◌, Some, None}
use Rattle.mem_runs.specs.declared.slots.Slot.TheVariants.{Empty, Lends}
use Rattle.claims_driver.specs.Owners.{TransferRuns, Views}
use Rattle.law_structures.specs.lent_structures.Structures.{QueueHead, Buffer, Isochronous, StructureSets, put}
use Rattle.law_frames.specs.PartSamples.{itd, queue, bytes, pages, nothing}

abbrev pub transfer : TransferRuns
transfer = record { endpoint = 0; first = 2; qtds = 0; isochronous = true; released = false }

abbrev pub view : Views
view = record {
  slot = λ b. if b == 2 then Lends (record { first = 2; blocks = 2 }) else if b == 6 then Lends (record { first = 6; blocks = 1 }) else Empty;
  endpoint = λ e. None;
  transfer = λ t. if t == 0 then Some transfer else None;
  note = λ b. record { next = 0; buffer = [] };
  descriptor = λ b. record { split = false; buffer = 6 ∷ [] };
}

abbrev pub descs : StructureSets
descs = put (put nothing 64 64 (Isochronous itd)) 64 192 (Buffer pages 192 bytes)

abbrev pub parts : StructureSets
parts = put nothing 128 128 (QueueHead queue)
