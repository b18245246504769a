-- The frames of the isochronous descriptors of a command, and the links that they have before they are lent (EHCI 1.0, 3.3.1, 4.6 and 4.7).
use Rattle.std.specs.Prelude.{ℕ, ◌*◌, [], List, fold, ◌∷◌, take, slice_get, drop, map, Option, slice_set, Some, if◌then◌else◌, None, option_and_then, option_map}
use Rattle.word_mem.specs.Memory.{Mem}
use Rattle.mem_runs.specs.Book.{Book, store}
use Rattle.drv_periodic.specs.Periodic.{Periodic}
use Rattle.bandwidth.specs.declared.placements.Placement.{Placement}
use Rattle.drv_periodic_table.specs.declared.content.DescriptorNote.{DescriptorNote}
use Rattle.drv_periodic_table.specs.Frames.{first_frame, frames_from}
use Rattle.drv_periodic_table.specs.Linking.{new_link}
use Rattle.drv_periodic_table.specs.Periodic.{descriptor_member, note_at as periodic_note, read_again}
use Rattle.drv_table.specs.declared.content.Command.{Command}
use Rattle.drv_table.specs.declared.content.Command.TheVariants as unfinished
use Rattle.drv_table.specs.declared.content.Transfer.{Transfer}
use Rattle.drv_table.specs.Commands.{advance}
use Rattle.drv_table.specs.DriverContent.{DriverContent, waits_for}

-- ---- what stands after a command's event

-- The frames of the descriptors of these transfers: the first, and each one period after the one before.
unfoldable pub with_frames : Placement → List Transfer → ℕ → List DescriptorNote → List DescriptorNote
with_frames p [] f notes = notes
with_frames p (t ∷ ts) f notes =
    with_frames p ts (frames_from p f 1) (slice_set notes t.first (record (periodic_note notes t.first) { frame = f }))

-- the last of these transfers that waits at endpoint e
abbrev pub last_waiting : ℕ → List Transfer → Option Transfer
last_waiting e ts = fold (λ last t. if waits_for e t then Some t else last) None ts

-- the frame of the last descriptor, before transfer t, that still waits at the endpoint (4.7)
abbrev pub last_frame : DriverContent → ℕ → ℕ → Option ℕ
last_frame d e t = option_map (λ x. (periodic_note d.periodic.notes x.first).frame) (last_waiting e (take t d.transfers))

-- the notes of descriptors once those of a command have their frames, by the placement of their endpoint (4.7; USB 2.0, 5.11.3)
abbrev pub framed_notes : DriverContent → ℕ → ℕ → ℕ → ℕ → Option Placement → List DescriptorNote
framed_notes d n e t count None = d.periodic.notes
framed_notes d n e t count (Some p) = with_frames p (take count (drop t d.transfers)) (first_frame p n (last_frame d e t)) d.periodic.notes

-- with these notes the descriptors of the transfers are to be linked, and FRINDEX was read once more (2.3.4)
abbrev pub with_notes : DriverContent → ℕ → List Transfer → List DescriptorNote → DriverContent
with_notes d n ts notes =
    record d {
      periodic = record d.periodic {
        notes = notes;
        queued = map (λ t. descriptor_member notes t.first) ts;
        removals = read_again n d.periodic.removals;
      };
    }

-- the placement of an endpoint in the plan (USB 2.0, 5.11.3), if it has one
abbrev pub placement_at : DriverContent → ℕ → Option Placement
placement_at d e = option_and_then (λ x. x.placement) (slice_get d.endpoints e)

-- the descriptors of the unfinished command get their frames, behind FRINDEX as it was read (2.3.4 and 4.7)
abbrev pub framed_by : DriverContent → ℕ → Option Command → DriverContent
framed_by d n (Some (unfinished.Iso e t count)) =
    advance (with_notes d n (take count (drop t d.transfers)) (framed_notes d n e t count (placement_at d e)))
framed_by d n _ = d

-- Each descriptor leads to what stands first in its frame: no two of a command have one frame.
unfoldable pub linked_descriptors : Book → Periodic → List DescriptorNote → List Transfer → Mem → Mem
linked_descriptors k list notes [] m = m
linked_descriptors k list notes (t ∷ ts) m =
    linked_descriptors k list notes ts (store k m t.first (32 * t.first) (new_link list (descriptor_member notes t.first)))

-- the links of the descriptors of the unfinished command are written before they are lent (3.3.1)
abbrev pub linked_by : DriverContent → Mem → Option Command → Mem
linked_by d m (Some (unfinished.Iso e t count)) = linked_descriptors d.book d.periodic.list d.periodic.notes (take count (drop t d.transfers)) m
linked_by d m _ = m
