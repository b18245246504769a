-- What a write-back of an isochronous descriptor writes and raises (EHCI 1.0, 4.7.1, 4.12.3.3 and 4.15.1): the received bytes, and then the
-- word of the microframe of an iTD, or words 3 to 5 of a siTD. The first word that the controller may not touch ends it.
use Rattle.std.specs.Prelude.{ℕ, Bool, true, false, not, ◌&&◌, ◌||◌, ◌+◌, ◌*◌, List, [], ◌∷◌}
use Rattle.usb_base.specs.declared.packets.Reply.{Reply}
use Rattle.usb_base.specs.declared.packets.Reply.TheVariants.{Bytes}
use Rattle.op_registers.specs.RegisterFile.{RegisterFile}
use Rattle.word_mem.specs.Memory.{Mem, reaches}
use Rattle.itd_sitd.specs.declared.itd.Itd.{Itd}
use Rattle.itd_sitd.specs.declared.slot.ItdSlot.{ItdSlot}
use Rattle.itd_sitd.specs.declared.sitd.Sitd.{Sitd}
use Rattle.mem_descriptors.specs.Descriptors.{slot_address, slot_written, state_words, state_written}
use Rattle.hc_copy.specs.Buffer.{Reading, Writing, bytes_read, bytes_written}
use Rattle.hc_copy.specs.WriteBack.{then_write}
use Rattle.hc_iso.specs.declared.held.HeldItd.{HeldItd}
use Rattle.hc_iso.specs.declared.held.IsoEnd.{IsoEnd}
use Rattle.hc_iso.specs.declared.held.IsoEnd.TheVariants as ends
use Rattle.hc_iso.specs.declared.held.IsoTransaction.{IsoTransaction}
use Rattle.hc_iso.specs.declared.held.SplitOutcome.{SplitOutcome}
use Rattle.hc_iso.specs.declared.held.SplitOutcome.TheVariants.{Moved, Failed}
use Rattle.hc_iso.specs.Sitd.{sitd_place, moved_sitd}

-- the USB interrupt where it ended and has IOC, the error interrupt where an error was recorded
unfoldable pub iso_raised : Bool → Bool → RegisterFile → RegisterFile
iso_raised ended failed r = record r { interrupt = ended || r.interrupt; error = failed || r.error }

-- ---- an iTD

abbrev pub itd_pages : Itd → List ℕ
itd_pages v = v.page0 ∷ v.page1 ∷ v.page2 ∷ v.page3 ∷ v.page4 ∷ v.page5 ∷ v.page6 ∷ []

-- the place of the microframe's first byte
abbrev pub slot_place : ItdSlot → ℕ
slot_place s = s.pg * 4096 + s.offset

-- the bytes that its next transaction sends
abbrev pub itd_sending : IsoTransaction → HeldItd → Mem → Reading
itd_sending t h m = bytes_read (itd_pages h.itd) (slot_place h.slot + h.moved) t.bytes m

-- the microframe is done, and tells how many bytes were moved
unfoldable pub done_slot : HeldItd → ItdSlot
done_slot h = record h.slot { active = false; length = h.moved }

abbrev pub slot_back : HeldItd → Mem → Writing
slot_back h m = record { memory = slot_written m h.at h.number (done_slot h); all = reaches m (slot_address h.at h.number) }

unfoldable pub itd_written : HeldItd → List ℕ → Mem → Writing
itd_written h got m = then_write (bytes_written (itd_pages h.itd) (slot_place h.slot) got m) (slot_back h)

abbrev pub is_failed : IsoEnd → Bool
is_failed ends.Whole = false
is_failed ends.Failed = true

abbrev pub itd_raised : HeldItd → IsoEnd → RegisterFile → RegisterFile
itd_raised h ended r = iso_raised h.slot.ioc (is_failed ended) r

-- ---- a siTD

abbrev pub sitd_pages : Sitd → List ℕ
sitd_pages v = v.page0 ∷ v.page1 ∷ []

abbrev pub sitd_sending : IsoTransaction → Sitd → Mem → Reading
sitd_sending t v m = bytes_read (sitd_pages v) (sitd_place v) t.bytes m

abbrev pub moved_by : SplitOutcome → ℕ
moved_by (Moved n) = n
moved_by _ = 0

-- the bytes that a complete-split received
abbrev pub bytes_of : Reply → List ℕ
bytes_of (Bytes pid bytes) = bytes
bytes_of _ = []

abbrev pub sitd_received : Bool → SplitOutcome → Reply → List ℕ
sitd_received true (Moved _) reply = bytes_of reply
sitd_received _ _ _ = []

abbrev pub state_back : ℕ → Sitd → Mem → Writing
state_back a v m = record { memory = state_written m a (state_words v); all = reaches m a }

unfoldable pub sitd_written : ℕ → Sitd → SplitOutcome → List ℕ → Mem → Writing
sitd_written a v outcome got m =
    then_write (bytes_written (sitd_pages v) (sitd_place v) got m) (state_back a (moved_sitd (moved_by outcome) v))

abbrev pub has_failed : SplitOutcome → Bool
has_failed Failed = true
has_failed _ = false

abbrev pub sitd_raised : Sitd → SplitOutcome → RegisterFile → RegisterFile
sitd_raised v outcome r = iso_raised (not v.active && v.ioc) (has_failed outcome) r
