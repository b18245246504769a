-- What the slots of an isochronous descriptor tell (EHCI 1.0, 3.3.2, 3.4.2 and 3.4.3), as it is noted: an iTD has a slot for each
-- microframe of its S-mask, whose bytes stand in its buffer one after the other; a siTD has one, which is its buffer.
--     slot_of m b u         the slot of microframe u of the iTD in block b
--     split_of m b          the siTD in block b
--     is_done note m b      no slot is active any more
--     bad_slots note m b    how many of them have an error bit
--     bytes_of_slots ..     the bytes that were moved in them
use Rattle.std.specs.Prelude.{ℕ, ◌+◌, ◌-◌, ◌*◌, ◌/◌, ◌%◌, Bool, not, ◌||◌, nat_le, List, [], map, count_by, slice_index, if◌then◌else◌}
use Rattle.std.specs.List.{flat_map, list_any, range_with_len}
use Rattle.word_mem.specs.Memory.{Mem, word_at}
use Rattle.word_mem.specs.Views.{byte_at}
use Rattle.itd_sitd.specs.declared.slot.ItdSlot.{ItdSlot}
use Rattle.itd_sitd.specs.declared.sitd.Sitd.{Sitd}
use Rattle.itd_sitd.specs.Slot.{slot_at}
use Rattle.itd_sitd.specs.Sitd.{sitd_at}
use Rattle.bandwidth.specs.Placements.{has, below}
use Rattle.drv_periodic_table.specs.declared.content.DescriptorNote.{DescriptorNote}

abbrev pub slot_of : Mem → ℕ → ℕ → ItdSlot
slot_of m b u = slot_at (word_at m (32 * b + 4 + 4 * u))

abbrev pub split_of : Mem → ℕ → Sitd
split_of m b = sitd_at (map (λ i. word_at m (32 * b + 4 * i)) (below 7))

abbrev pub is_done : DescriptorNote → Mem → ℕ → Bool
is_done note m b = not (if note.split then (split_of m b).active else list_any (λ u. (slot_of m b u).active) (below 8))

-- ---- errors

abbrev pub is_bad_slot : ItdSlot → Bool
is_bad_slot s = s.xact_err || s.babble || s.buffer_error

-- at the translator, on the host's bus, or because a microframe was missed
abbrev pub is_bad_split : Sitd → Bool
is_bad_split v = v.missed || v.xact_err || v.babble || v.buffer_error || v.err

abbrev pub bad_slots : DescriptorNote → Mem → ℕ → ℕ
bad_slots note m b =
    if note.split then (if is_bad_split (split_of m b) then 1 else 0) else count_by (λ u. is_bad_slot (slot_of m b u)) (below 8)

-- ---- bytes

-- n bytes of a buffer from byte j on, which stands in pages of 4,096 bytes
abbrev pub bytes_behind : Mem → List ℕ → ℕ → ℕ → List ℕ
bytes_behind m blocks j n = map (λ i. byte_at m (32 * slice_index blocks ((j + i) / 4096) + (j + i) % 4096)) (range_with_len 0 n)

-- one that tells more than it has counts none: a slot tells how many bytes were moved, a siTD how many are left
abbrev pub moved_of : ℕ → ℕ → ℕ
moved_of long told = if nat_le told long then told else 0

abbrev pub left_of : ℕ → ℕ → ℕ
left_of long told = if nat_le told long then long - told else 0

abbrev pub bytes_of_slot : DescriptorNote → Mem → ℕ → ℕ → List ℕ
bytes_of_slot note m b u =
    if has note.smask u
    then bytes_behind m note.buffer (count_by (has note.smask) (below u) * note.slot) (moved_of note.slot (slot_of m b u).length)
    else []

abbrev pub bytes_of_slots : DescriptorNote → Mem → ℕ → List ℕ
bytes_of_slots note m b =
    if note.split then bytes_behind m note.buffer 0 (left_of note.slot (split_of m b).total)
    else flat_map (bytes_of_slot note m b) (below 8)
