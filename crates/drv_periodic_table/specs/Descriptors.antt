-- An isochronous descriptor of the driver: an iTD (EHCI 1.0, 3.3 and 4.7.1) with a slot for each microframe of the placement, whose bytes
-- stand in its buffer one after the other; for an endpoint behind a hub's translator a siTD (3.4 and 4.12.3), whose one slot is its buffer.
--     slots_before smask u      how many slots of an iTD stand before microframe u
--     slot_bytes x len          the bytes of a slot: of an IN as many as its packets can have, of an OUT as many as are sent
--     slot_limit split          the most bytes of a slot
--     buffer_address runs j     where byte j of a buffer stands: in its one run, or in its pages
--     new_itd x smask slot runs         the iTD, with link word 0
--     new_sitd x smask cmask slot runs  the siTD, with link word 0
--     descriptor_words x note   the words of the one that is noted so
--     is_served note m b        none of its slots is active any more
--     errors_in note m b        how many of them have an error bit
--     told_bytes note m b       the bytes that were moved in its slots, joined
--     write_seeded ..           n words of the bytes that count up from a first one
use Rattle.std.specs.Prelude.{ℕ, zero, suc, ◌+◌, ◌-◌, ◌*◌, ◌/◌, ◌%◌, max, Bool, true, false, not, ◌||◌, nat_le, nat_lt, if◌then◌else◌, List, [], ◌++◌, map, count_by, slice_index, unwrap_or}
use Rattle.std.specs.List.{range_with_len, list_any}
use Rattle.usb_base.specs.declared.endpoints.EpDesc.{EpDesc}
use Rattle.usb_base.specs.declared.packets.Way.{Way}
use Rattle.usb_base.specs.declared.packets.Way.TheVariants as ways
use Rattle.usb_base.specs.Limits.{byte_times_of_microframe}
use Rattle.word_mem.specs.Memory.{Mem, word_at}
use Rattle.word_mem.specs.Views.{byte_at}
use Rattle.mem_runs.specs.Book.{Book, store}
use Rattle.itd_sitd.specs.declared.slot.ItdSlot.{ItdSlot}
use Rattle.itd_sitd.specs.declared.itd.Itd.{Itd}
use Rattle.itd_sitd.specs.declared.sitd.Sitd.{Sitd}
use Rattle.itd_sitd.specs.Slot.{slot_at, no_slot}
use Rattle.itd_sitd.specs.Itd.{itd_words}
use Rattle.itd_sitd.specs.Sitd.{sitd_at, sitd_words}
use Rattle.bandwidth.specs.Placements.{has, below}
use Rattle.drv_periodic_table.specs.declared.content.DescriptorNote.{DescriptorNote}

-- ---- its size

unfoldable pub slots_before : ℕ → ℕ → ℕ
slots_before smask u = count_by (has smask) (below u)

abbrev pub slots_in : ℕ → ℕ
slots_in smask = slots_before smask 8

abbrev pub is_in : Way → Bool
is_in ways.In = true
is_in ways.Out = false
is_in ways.Ctl = false

abbrev pub slot_bytes : EpDesc → ℕ → ℕ
slot_bytes x len = if is_in x.name.way then x.max * x.multi else len

-- three packets of 1,024 bytes at high speed, one of 1,023 at full speed (USB 2.0, 5.6.3 and 5.9.2)
abbrev pub slot_limit : Bool → ℕ
slot_limit split = if split then 1023 else 3072

-- ---- the words of an iTD

abbrev pub buffer_address : List ℕ → ℕ → ℕ
buffer_address runs j = 32 * slice_index runs (j / 4096) + j % 4096

-- a slot whose first byte is byte j of the buffer
abbrev pub active_slot : ℕ → List ℕ → ℕ → ItdSlot
active_slot slot runs j = record no_slot {
  offset = buffer_address runs j % 4096;
  pg = j / 4096;
  length = slot;
  active = true;
}

abbrev pub new_slot : ℕ → ℕ → List ℕ → ℕ → ItdSlot
new_slot smask slot runs u = if has smask u then active_slot slot runs (slots_before smask u * slot) else no_slot

abbrev pub new_itd : EpDesc → ℕ → ℕ → List ℕ → Itd
new_itd x smask slot runs = record {
  link = record { t = false; typ = 0; address = 0 };
  slots = map (new_slot smask slot runs) (below 8);
  addr = x.name.addr;
  ep = x.name.num;
  page0 = slice_index runs 0 / 128;
  max = x.max;
  dir_in = is_in x.name.way;
  page1 = slice_index runs 1 / 128;
  multi = x.multi;
  page2 = slice_index runs 2 / 128;
  page3 = slice_index runs 3 / 128;
  page4 = slice_index runs 4 / 128;
  page5 = slice_index runs 5 / 128;
  page6 = 0;
}

-- ---- the words of a siTD

-- an OUT is sent in parts of 188 bytes, the last with the rest, and one of 0 bytes for none (USB 2.0, 11.18.4)
abbrev pub parts_of : ℕ → ℕ
parts_of n = max 1 ((n + (byte_times_of_microframe - 1)) / byte_times_of_microframe)

-- how many parts are to be sent, and where the first stands among them: 0 is all, 1 the beginning (3.4.4); both are 0 for an IN
abbrev pub part_count : EpDesc → ℕ → ℕ
part_count x slot = if is_in x.name.way then 0 else parts_of slot

abbrev pub part_position : ℕ → ℕ
part_position count = if nat_le count 1 then 0 else 1

-- its buffer stands in one page; it leads back to no other descriptor (3.4.5)
abbrev pub new_sitd : EpDesc → ℕ → ℕ → ℕ → List ℕ → Sitd
new_sitd x smask cmask slot runs = record {
  link = record { t = false; typ = 0; address = 0 };
  addr = x.name.addr;
  ep = x.name.num;
  hub = unwrap_or x.hub 0;
  port = x.port;
  dir_in = is_in x.name.way;
  smask = smask;
  cmask = cmask;
  split_state = false;
  missed = false;
  xact_err = false;
  babble = false;
  buffer_error = false;
  err = false;
  active = true;
  c_prog = 0;
  total = slot;
  page_select = false;
  ioc = false;
  offset = buffer_address runs 0 % 4096;
  page0 = slice_index runs 0 / 128;
  t_count = part_count x slot;
  tp = part_position (part_count x slot);
  page1 = 0;
  back = record { t = true; address = 0 };
}

abbrev pub descriptor_words : EpDesc → DescriptorNote → List ℕ
descriptor_words x note =
    if note.split then sitd_words (new_sitd x note.smask note.cmask note.slot note.buffer)
    else itd_words (new_itd x note.smask note.slot note.buffer)

-- ---- whether it was served, and with how many errors

abbrev pub slot_in : Mem → ℕ → ℕ → ItdSlot
slot_in m b u = slot_at (word_at m (32 * b + 4 + 4 * u))

abbrev pub sitd_in : Mem → ℕ → Sitd
sitd_in m b = sitd_at (map (λ i. word_at m (32 * b + 4 * i)) (below 7))

abbrev pub itd_is_active : Mem → ℕ → Bool
itd_is_active m b = list_any (λ u. (slot_in m b u).active) (below 8)

abbrev pub is_served : DescriptorNote → Mem → ℕ → Bool
is_served note m b = not (if note.split then (sitd_in m b).active else itd_is_active m b)

abbrev pub has_error : ItdSlot → Bool
has_error s = s.xact_err || s.babble || s.buffer_error

abbrev pub itd_errors : Mem → ℕ → ℕ
itd_errors m b = count_by (λ u. has_error (slot_in m b u)) (below 8)

-- its one transaction failed at the translator, on the host's bus, or because a microframe was missed (3.4.3)
abbrev pub split_failed : Sitd → Bool
split_failed v = v.missed || v.xact_err || v.babble || v.buffer_error || v.err

abbrev pub sitd_errors : Mem → ℕ → ℕ
sitd_errors m b = if split_failed (sitd_in m b) then 1 else 0

abbrev pub errors_in : DescriptorNote → Mem → ℕ → ℕ
errors_in note m b = if note.split then sitd_errors m b else itd_errors m b

-- ---- what was moved

-- a slot that tells more bytes than it has counts none
abbrev pub moved_in : ℕ → ℕ → ℕ
moved_in slot length = if nat_le length slot then length else 0

unfoldable pub bytes_from : Mem → List ℕ → ℕ → ℕ → List ℕ
bytes_from m runs j n = map (λ i. byte_at m (buffer_address runs (j + i))) (range_with_len 0 n)

abbrev pub slot_told : DescriptorNote → Mem → ℕ → ℕ → List ℕ
slot_told note m b u =
    if has note.smask u
    then bytes_from m note.buffer (slots_before note.smask u * note.slot) (moved_in note.slot (slot_in m b u).length)
    else []

-- those of n slots from microframe u on
unfoldable pub told_from : DescriptorNote → Mem → ℕ → ℕ → ℕ → List ℕ
told_from note m b u zero = []
told_from note m b u (suc n) = slot_told note m b u ++ told_from note m b (u + 1) n

-- a siTD tells how many of its bytes are left; one that tells more than it has counts none
abbrev pub moved_beside : ℕ → ℕ → ℕ
moved_beside slot left = if nat_le left slot then slot - left else 0

abbrev pub split_told : DescriptorNote → Mem → ℕ → List ℕ
split_told note m b = bytes_from m note.buffer 0 (moved_beside note.slot (sitd_in m b).total)

abbrev pub told_bytes : DescriptorNote → Mem → ℕ → List ℕ
told_bytes note m b = if note.split then split_told note m b else told_from note m b 0 8

-- ---- the bytes that it sends

abbrev pub seeded_byte : ℕ → ℕ → ℕ → ℕ
seeded_byte seed total i = if nat_lt i total then (seed + i) % 256 else 0

abbrev pub seeded_word : ℕ → ℕ → ℕ → ℕ
seeded_word seed total i =
    seeded_byte seed total i + 256 * seeded_byte seed total (i + 1) + 65536 * seeded_byte seed total (i + 2) + 16777216 * seeded_byte seed total (i + 3)

abbrev pub write_seeded : Book → Mem → List ℕ → ℕ → ℕ → ℕ → ℕ → Mem
write_seeded k m runs seed total i zero = m
write_seeded k m runs seed total i (suc n) =
    write_seeded k (store k m (slice_index runs (i / 4096)) (buffer_address runs i) (seeded_word seed total i)) runs seed total (i + 4) n
