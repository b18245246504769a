-- What is kept, told as a ring's laws tell it, and the bytes of descriptors.
use Rattle.std.proofs.Common.{◌≡◌, ℕ, ◌<◌, List, length, Option, Some, option_map, ap, refl, sym, subst, ◌∙◌, arith}
use Rattle.std.proofs.lemmas.Option.{same_Some}
use Rattle.mem_bytes.specs.Bytes.{place}
use Rattle.itd_sitd.specs.declared.slot.ItdSlot.{ItdSlot}
use Rattle.itd_sitd.specs.declared.itd.Itd.{Itd}
use Rattle.itd_sitd.specs.declared.sitd.Sitd.{Sitd}
use Rattle.itd_sitd.specs.Itd.{slot_of}
use Rattle.hc_iso.specs.Sitd.{sitd_place}
use Rattle.hc_iso.specs.WriteBack.{itd_pages, slot_place, sitd_pages}
use Rattle.law_structures.specs.lent_structures.Structures.{Structure, Table, Structures, StructureSets}
use Rattle.law_structures.specs.lent_structures.Alters.{HasBytes}
use Rattle.law_controller.specs.controlled_streams.Kept.{KeepsEach}
use Rattle.law_driver_ring.specs.Inventory.{OfTable, sort_of, SameSorts}
use Rattle.law_driver_ring.specs.Extents.{KeepExtents}
use Rattle.law_frames.specs.Met.{IsBuffered}
use Rattle.law_descriptors.specs.frame_keeps.Kept.{IsItdAfter, IsLeft, IsSitdAfter, KeepsPart, KeepsParts, HasSlots, HasBytesLeft}

pub queues_kept : (parts now : StructureSets) → KeepsParts parts now → KeepsEach parts now
queues_kept parts now keeps n = (keeps n).queues

pub sorts_kept : (parts now : StructureSets) → KeepsParts parts now → SameSorts parts now
sorts_kept parts now keeps n a = (keeps n).sorts a

-- ---- a structure of that kind is a table

record IsTable (o : Option Structure) : Type 0 where
  words : List ℕ
  here : o ≡ Some (Table words)

table_of : (o : Option Structure) → option_map sort_of o ≡ Some OfTable → IsTable o
table_of (Some (Table ws)) is = record { words = ws; here = refl }
table_of _ is = absurd cc

abbrev as_table : Structure → List ℕ → List ℕ
as_table (Table ws) other = ws
as_table s other = other

same_table : (o : Option Structure) (vs ws : List ℕ) → o ≡ Some (Table vs) → o ≡ Some (Table ws) → vs ≡ ws
same_table o vs ws one other = ap (λ (s : Structure). as_table s vs) (same_Some (Table vs) (Table ws) (sym one ∙ other))

pub extents_kept : (parts now : StructureSets) → KeepsParts parts now → KeepExtents parts now
extents_kept parts now keeps = record {
  buffers = λ n a pages k bs here. (keeps n).queues.alters.buffer_before a pages k bs here;
  tables = λ n a ws here.
      let t : IsTable (parts n a) = table_of (parts n a) (sym ((keeps n).sorts a) ∙ ap (option_map sort_of) here) in
      record { words = t.words; here = t.here; size = ap length (same_table (now n a) t.words ws ((keeps n).table a t.words t.here) here) };
}

-- ---- the bytes of descriptors

buffered_still : (part now : Structures) (pages : List ℕ) (from n : ℕ) → KeepsPart part now → IsBuffered part pages from n → IsBuffered now pages from n
buffered_still part now pages from n keeps b =
    let c : HasBytes now (place pages b.start) pages b.start (length b.bytes) = keeps.queues.alters.buffer (place pages b.start) pages b.start b.bytes b.here in
    let within = b.within in
    let size = c.size in
    record { start = b.start; bytes = c.bytes; here = c.here; after = b.after; within = omega (arith, within, size) }

pub slots_still : (part now : Structures) (v w : Itd) → KeepsPart part now → IsItdAfter v w → HasSlots part v → HasSlots now w
slots_still part now v w keeps after has u below on some =
    let s : slot_of u w ≡ slot_of u v = after.active u on in
    let pages : itd_pages w ≡ itd_pages v = ap itd_pages after.same in
    let b : IsBuffered part (itd_pages v) (slot_place (slot_of u v)) (slot_of u v).length =
    has u below (ap (λ (t : ItdSlot). t.active) (sym s) ∙ on) (subst (λ (t : ItdSlot). 0 < t.length) s some) in
    subst (λ (ps : List ℕ). IsBuffered now ps (slot_place (slot_of u w)) (slot_of u w).length) (sym pages)
    (subst (λ (t : ItdSlot). IsBuffered now (itd_pages v) (slot_place t) t.length) (sym s)
    (buffered_still part now (itd_pages v) (slot_place (slot_of u v)) (slot_of u v).length keeps b))

pub bytes_still : (part now : Structures) (v w : Sitd) → KeepsPart part now → IsSitdAfter v w → HasBytesLeft part v → HasBytesLeft now w
bytes_still part now v w keeps after has on some =
    let l : IsLeft v w = after.left on some in
    let from = l.from in
    let within = l.within in
    let pages : sitd_pages w ≡ sitd_pages v = ap sitd_pages after.same in
    let b : IsBuffered now (sitd_pages v) (sitd_place v) v.total =
    buffered_still part now (sitd_pages v) (sitd_place v) v.total keeps (has l.active (omega (arith, from, within, some))) in
    let start = b.after in
    let end = b.within in
    subst (λ (ps : List ℕ). IsBuffered now ps (sitd_place w) w.total) (sym pages)
    (record { start = b.start; bytes = b.bytes; here = b.here; after = omega (arith, start, from); within = omega (arith, end, within) })
