-- Isochronous transfers that are offered: the descriptors of an isochronous endpoint (EHCI 1.0, 3.3, 3.4, 4.7 and 4.12.3).
use Rattle.std.specs.Prelude.{ℕ, zero, ◌+◌, ◌-◌, suc, ◌*◌, ◌%◌, Bool, ◌&&◌, not, false, ◌||◌, nat_lt, nat_le, [], List, ◌++◌, ◌∷◌, take, length, drop, Option, replicate, slice_set, slice_index, count_by, Result, Some, if◌then◌else◌, None, Ok, Err}
use Rattle.usb_base.specs.declared.endpoints.EndCause.{EndCause}
use Rattle.usb_base.specs.declared.endpoints.EpDesc.{EpDesc}
use Rattle.usb_base.specs.declared.reports.OfferError.{OfferError}
use Rattle.usb_base.specs.declared.reports.OfferError.TheVariants as errors
use Rattle.usb_base.specs.Limits.{most_descriptors}
use Rattle.word_mem.specs.Memory.{Mem}
use Rattle.mem_runs.specs.Book.{holding, Holding, Book, store_words}
use Rattle.bandwidth.specs.declared.placements.Placement.{Placement}
use Rattle.bandwidth.specs.Placements.{is_classic}
use Rattle.drv_periodic_table.specs.declared.content.DescriptorNote.{DescriptorNote}
use Rattle.drv_periodic_table.specs.Descriptors.{slots_in, slot_bytes, slot_limit, is_in, descriptor_words, write_seeded}
use Rattle.drv_table.specs.declared.content.Command.TheVariants as unfinished
use Rattle.drv_table.specs.declared.content.Endpoint.{Endpoint}
use Rattle.drv_table.specs.declared.content.Part.TheVariants as parts
use Rattle.drv_table.specs.declared.content.Reserve.{Reserve}
use Rattle.drv_table.specs.declared.content.Slots.{Slots}
use Rattle.drv_table.specs.declared.content.Sort.TheVariants as sorts
use Rattle.drv_table.specs.declared.content.Transfer.{Transfer}
use Rattle.drv_table.specs.Accepting.{Offered, first_waiting, new_runs, take_runs}
use Rattle.drv_table.specs.DriverContent.{DriverContent, waits_for}
use Rattle.drv_table.specs.Kinds.{is_iso}
use Rattle.drv_table.specs.Words.{buffer_needs, pieces}

-- ---- iso: descriptors of an isochronous endpoint (EHCI 1.0, 4.7 and 4.12.3)

-- the bytes of its buffer
abbrev pub total_of : Slots → ℕ
total_of s = if s.split then s.slot else slots_in s.smask * s.slot

-- how many runs its buffer has
abbrev pub slot_runs : Slots → ℕ
slot_runs s = length (buffer_needs (total_of s))

-- the S-mask of a placement (3.4.2 and 3.6.2); 0 where there is none
abbrev pub smask_of : Option Placement → ℕ
smask_of None = 0
smask_of (Some p) = p.smask

-- its C-mask
abbrev pub cmask_of : Option Placement → ℕ
cmask_of None = 0
cmask_of (Some p) = p.cmask

-- an endpoint that a translator serves has siTDs
abbrev pub slots_of : Endpoint → ℕ → Slots
slots_of x len = record {
  split = is_classic x.desc.speed;
  smask = smask_of x.placement;
  cmask = cmask_of x.placement;
  slot = slot_bytes x.desc len;
}

-- an iTD has sixteen words, a siTD seven
abbrev pub descriptor_blocks : Slots → ℕ
descriptor_blocks s = if s.split then 1 else 2

-- n descriptors, each with its buffer right behind it
abbrev pub iso_needs : Slots → ℕ → List ℕ
iso_needs s zero = []
iso_needs s (suc n) = descriptor_blocks s ∷ (buffer_needs (total_of s) ++ iso_needs s n)

-- what a descriptor is noted, listed and written in
pub record Descriptors : Type 0 where
  pub notes : List DescriptorNote
  pub transfers : List Transfer
  pub memory : Mem

-- what is noted of a new descriptor: its masks, the bytes of a slot, and the runs of its buffer, six at most; its frame is chosen later
abbrev pub descriptor_note : Slots → List ℕ → DescriptorNote
descriptor_note s runs = record {
  frame = 0;
  split = s.split;
  smask = s.smask;
  cmask = s.cmask;
  slot = s.slot;
  buffer = take 6 (take (slot_runs s) runs ++ replicate 6 0);
  runs = slot_runs s;
}

-- the transfer of one descriptor
abbrev pub descriptor_transfer : ℕ → Slots → ℕ → Transfer
descriptor_transfer e s b = record {
  endpoint = e;
  sort = sorts.Descriptor;
  first = b;
  qtds = 0;
  place = b;
  left = 0;
  most = total_of s;
  reported = false;
  released = false;
  part = parts.Own;
}

-- the words of the descriptor in block b, and of an OUT the bytes from `seed` on
abbrev pub written_descriptor : Book → Mem → EpDesc → DescriptorNote → ℕ → ℕ → ℕ → Mem
written_descriptor k m x note b seed total =
    let words = store_words k m b (32 * b) (descriptor_words x note) in
    if is_in x.name.way then words else write_seeded k words note.buffer seed total 0 (pieces total 4)

-- one more descriptor of a command, with its note, its transfer and its words
abbrev pub one_descriptor : Book → ℕ → EpDesc → Slots → ℕ → List ℕ → Descriptors → Descriptors
one_descriptor k e x s seed runs a =
    let b = slice_index runs 0 in
    let note = descriptor_note s (drop 1 runs) in
    record {
      notes = slice_set a.notes b note;
      transfers = a.transfers ++ descriptor_transfer e s b ∷ [];
      memory = written_descriptor k a.memory x note b seed (total_of s);
    }

-- n of them, one after the other; the bytes of an OUT go on from one to the next
unfoldable pub all_descriptors : Book → ℕ → EpDesc → Slots → ℕ → ℕ → List ℕ → Descriptors → Descriptors
all_descriptors k e x s zero seed runs a = a
all_descriptors k e x s (suc n) seed runs a =
    all_descriptors k e x s n ((seed + total_of s) % 256) (drop (suc (slot_runs s)) runs) (one_descriptor k e x s seed runs a)

-- the room that n descriptors leave
abbrev pub with_descriptors : Reserve → ℕ → ℕ → Reserve
with_descriptors r n most = record r { transfers = r.transfers - n; reports = r.reports - n; report_bytes = r.report_bytes - n * most }

-- the descriptors of a command once they are written: their frames are chosen by its next event (4.7)
abbrev pub entered_iso : DriverContent → ℕ → Endpoint → ℕ → ℕ → Book → Descriptors → Offered
entered_iso d e x n most book a = record {
  driver = record d {
    book = book;
    endpoints = slice_set d.endpoints e (record x { next = first_waiting x.next (length d.transfers) });
    transfers = a.transfers;
    command = Some (unfinished.Iso e (length d.transfers) n);
    made = 0;
    room = with_descriptors d.room n most;
    periodic = record d.periodic { notes = a.notes };
  };
  memory = a.memory;
}

-- .. where runs were found for them, else the refusal
abbrev pub taken_iso : DriverContent → ℕ → Endpoint → Slots → ℕ → ℕ → Result Holding OfferError → Result Offered OfferError
taken_iso d e x s n seed (Err why) = Err why
taken_iso d e x s n seed (Ok h) =
    Ok (entered_iso d e x n (total_of s) h.book
    (all_descriptors h.book e x.desc s n seed (new_runs d h) (record { notes = d.periodic.notes; transfers = d.transfers; memory = h.memory })))

-- At most eight descriptors of an endpoint are outstanding, and they span no more than the frame list has frames for. No slot has more
-- bytes than its packets can have, and what is written of the endpoint fits its fields.
abbrev pub spans_too_long : Endpoint → ℕ → Bool
spans_too_long x n = nat_lt most_descriptors n || nat_lt 8192 (n * x.desc.period)

-- the bytes of a slot and what is written of the endpoint fit their fields (3.3.2, 3.3.3 and 3.4.2)
abbrev pub has_slots : Endpoint → Slots → Bool
has_slots x s =
    nat_le s.slot (slot_limit s.split) && nat_le x.desc.max 1024 && nat_le 1 x.desc.multi && nat_le x.desc.multi 3 && nat_le x.desc.port 127

-- by whether the endpoint has ended, and whether the descriptors are too many or too long
abbrev pub open_iso : DriverContent → Mem → ℕ → Endpoint → Slots → ℕ → ℕ → Option EndCause → Result Offered OfferError
open_iso d m e x s n seed (Some cause) = Err (errors.Closed cause)
open_iso d m e x s n seed None =
    if spans_too_long x (n + count_by (waits_for e) d.transfers) || not (has_slots x s) then Err errors.TooLong
    else taken_iso d e x s n seed (take_runs (holding d.book m) (iso_needs s n))

-- by whether there is such an endpoint, and whether it is isochronous
abbrev pub offered_iso : DriverContent → Mem → ℕ → ℕ → ℕ → ℕ → Option Endpoint → Result Offered OfferError
offered_iso d m e n len seed None = Err errors.NoEndpoint
offered_iso d m e n len seed (Some x) =
    if is_iso x.desc.kind then open_iso d m e x (slots_of x len) n seed x.ended else Err errors.NoEndpoint
