-- The pages of isochronous descriptors, and the word of a microframe that is done.
use Rattle.std.proofs.Common.{[], arith}
use Rattle.link_words.specs.Layout.{IsWordInRange}
use Rattle.itd_sitd.specs.declared.itd.Itd.{Itd}
use Rattle.itd_sitd.specs.declared.sitd.Sitd.{Sitd}
use Rattle.itd_sitd.specs.Slot.{slot_rows}
use Rattle.itd_sitd.specs.Itd.{IsItdInRange}
use Rattle.itd_sitd.specs.Sitd.{IsSitdInRange}
use Rattle.mem_bytes.specs.Bytes.{ArePages}
use Rattle.mem_bytes.proofs.Frames.{pages_none, pages_more}
use Rattle.hc_iso.specs.declared.held.HeldItd.{HeldItd}
use Rattle.hc_iso.specs.Itd.{IsItdHeld}
use Rattle.hc_iso.specs.WriteBack.{itd_pages, sitd_pages, done_slot}

pub itd_are_pages : (v : Itd) → IsItdInRange v → ArePages (itd_pages v)
itd_are_pages v range =
    let later = range.fields.1.1.1.1.1.1.1.1.1 in
    pages_more v.page0 _ (omega (arith, later.0.0)) (omega arith)
    (pages_more v.page1 _ (omega (arith, later.1.0.0)) (omega arith)
    (pages_more v.page2 _ (omega (arith, later.1.1.0.0)) (omega arith)
    (pages_more v.page3 _ (omega (arith, later.1.1.1.0.0)) (omega arith)
    (pages_more v.page4 _ (omega (arith, later.1.1.1.1.0.0)) (omega arith)
    (pages_more v.page5 _ (omega (arith, later.1.1.1.1.1.0.0)) (omega arith)
    (pages_more v.page6 [] (omega (arith, later.1.1.1.1.1.1.0.0)) (omega arith) pages_none))))))

pub sitd_are_pages : (v : Sitd) → IsSitdInRange v → ArePages (sitd_pages v)
sitd_are_pages v (link, (endpoint, (masks, (state, ((page0, offset), ((page1, position), back)))))) =
    pages_more v.page0 _ (omega (arith, page0)) (omega arith) (pages_more v.page1 [] (omega (arith, page1)) (omega arith) pages_none)

pub done_in_range : (h : HeldItd) → IsItdHeld h → IsWordInRange slot_rows (done_slot h)
unfolding done_slot
done_in_range h held =
    let (length, (page, offset)) = held.slot in
    (omega (arith, length, held.within), (page, offset))
