-- What an event of the walk of the frames keeps of each structure (EHCI 1.0, 3.1, 3.3 to 3.6, 4.6, 4.7.1, 4.10 and 4.12.3): there are the same structures, each
-- of its kind and in its place. Of a queue head all but its overlay stays, of a qTD all but its token, of a buffer all but its bytes, of an iTD all but its
-- microframes, of a siTD all but its transfer state and its place, and a table stays as it is.
--     slotless v, stateless v      the iTD without its microframes, the siTD without its transfer state and its place
--     IsItdAfter v w               the iTD w is v but for its microframes, and each that is active is as it was
--     IsLeft v w                   the siTD v was active, and the bytes that are left to w are among those that were left to it
--     IsSitdAfter v w              the siTD w is v but for those; where it is active, its bytes are left to it
--     KeepsPart part now           what one owner's structures keep
--     KeepsParts parts now         .. and those of each owner
--     HasSlots part v, HasBytesLeft part w
--                                  each microframe of an iTD that is active has its bytes in a buffer, and so has a siTD that is active
use Rattle.std.specs.Prelude.{◌≡◌, ℕ, ◌+◌, ◌<◌, ◌≤◌, true, false, List, [], Some, option_map}
use Rattle.itd_sitd.specs.declared.itd.Itd.{Itd}
use Rattle.itd_sitd.specs.declared.sitd.Sitd.{Sitd}
use Rattle.itd_sitd.specs.Itd.{slot_of}
use Rattle.hc_iso.specs.Sitd.{sitd_place}
use Rattle.hc_iso.specs.WriteBack.{itd_pages, slot_place, sitd_pages}
use Rattle.law_structures.specs.lent_structures.Structures.{Table, Isochronous, SplitIsochronous, Structures, StructureSets}
use Rattle.law_driver_ring.specs.Inventory.{sort_of}
use Rattle.law_controller.specs.controlled_streams.Kept.{Keeps}
use Rattle.law_frames.specs.Met.{IsBuffered}

-- ---- an iTD (3.3)

abbrev pub slotless : Itd → Itd
slotless v = record v { slots = [] }

pub record IsItdAfter (v w : Itd) : Type 0 where
  pub same : slotless w ≡ slotless v
  pub active : (u : ℕ) → (slot_of u w).active ≡ true → slot_of u w ≡ slot_of u v

-- ---- a siTD (3.4.3, 3.4.4)

abbrev pub stateless : Sitd → Sitd
stateless v = record v {
  split_state = false;
  missed = false;
  xact_err = false;
  babble = false;
  err = false;
  active = false;
  c_prog = 0;
  total = 0;
  page_select = false;
  offset = 0;
  t_count = 0;
  tp = 0;
}

pub record IsLeft (v w : Sitd) : Type 0 where
  pub active : v.active ≡ true
  pub from : sitd_place v ≤ sitd_place w
  pub within : sitd_place w + w.total ≤ sitd_place v + v.total

pub record IsSitdAfter (v w : Sitd) : Type 0 where
  pub same : stateless w ≡ stateless v
  pub left : w.active ≡ true → 0 < w.total → IsLeft v w

-- ---- all of them

pub record HasItdAfter (part : Structures) (a : ℕ) (v : Itd) : Type 0 where
  pub itd : Itd
  pub here : part a ≡ Some (Isochronous itd)
  pub after : IsItdAfter v itd

pub record HasSitdAfter (part : Structures) (a : ℕ) (v : Sitd) : Type 0 where
  pub sitd : Sitd
  pub here : part a ≡ Some (SplitIsochronous sitd)
  pub after : IsSitdAfter v sitd

pub record KeepsPart (part now : Structures) : Type 0 where
  pub queues : Keeps part now
  pub itd : (a : ℕ) (v : Itd) → part a ≡ Some (Isochronous v) → HasItdAfter now a v
  pub sitd : (a : ℕ) (v : Sitd) → part a ≡ Some (SplitIsochronous v) → HasSitdAfter now a v
  pub table : (a : ℕ) (ws : List ℕ) → part a ≡ Some (Table ws) → now a ≡ Some (Table ws)
  pub sorts : (a : ℕ) → option_map sort_of (now a) ≡ option_map sort_of (part a)

abbrev pub KeepsParts : StructureSets → StructureSets → Type 0
KeepsParts parts now = (n : ℕ) → KeepsPart (parts n) (now n)

-- ---- the bytes of descriptors

abbrev pub HasSlots : Structures → Itd → Type 0
HasSlots part v =
    (u : ℕ) → u < 8 → (slot_of u v).active ≡ true → 0 < (slot_of u v).length → IsBuffered part (itd_pages v) (slot_place (slot_of u v)) (slot_of u v).length

abbrev pub HasBytesLeft : Structures → Sitd → Type 0
HasBytesLeft part v = v.active ≡ true → 0 < v.total → IsBuffered part (sitd_pages v) (sitd_place v) v.total
