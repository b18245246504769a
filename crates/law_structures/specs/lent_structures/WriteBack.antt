-- What an advance and a write-back leave of the structures that tell memory (EHCI 1.0, 4.10.2, 4.10.4 to 4.10.6). The queue head c is a copy of
-- one that is q in memory now; its link may be an older one, which isn't written.
--     Received                     where received bytes are put: nowhere where there are none, else into a buffer from byte j of its bytes on
--     IsReceived part c got r      so these bytes of the copy's transaction are put
--     received_parts parts n got r the parts with them there
--     IsCopy parts n a q c         c is a copy of the queue head at a, in its ranges, with the characteristics and capabilities of q
--     CanBeWritten ..              c can be written back with these bytes: its current qTD and its buffer are told
--     qtd_after c t                the qTD t after it: its token is the copy's where that isn't active any more
--     parts_advanced ..            the parts once the overlay has the qTD
--     parts_back ..                the parts after the write-back
use Rattle.std.specs.Prelude.{◌≡◌, ℕ, ◌+◌, ◌<◌, ◌≤◌, List, [], length, take, slice_index, Some, if◌then◌else◌}
use Rattle.mem_bytes.specs.Bytes.{place}
use Rattle.qh_qtd.specs.declared.qtd.Qtd.{Qtd}
use Rattle.qh_qtd.specs.declared.queue_head.Qh.{Qh}
use Rattle.qh_qtd.specs.QueueHead.{qh_words, IsQhInRange}
use Rattle.hc_copy.specs.Overlay.{advanced, pages_of, buffer_place, moved}
use Rattle.law_structures.specs.lent_structures.Structures.{QueueHead, Element, Buffer, Structures, StructureSets, put}
use Rattle.law_structures.specs.lent_structures.Changes.{relinked, overwritten}

-- ---- the copy

pub record IsCopy (parts : StructureSets) (n a : ℕ) (q c : Qh) : Type 0 where
  pub head : parts n a ≡ Some (QueueHead q)
  pub range : IsQhInRange c
  pub front : take 3 (qh_words (relinked q c)) ≡ take 3 (qh_words q)

abbrev pub parts_advanced : StructureSets → ℕ → ℕ → Qh → Qh → ℕ → Qtd → StructureSets
parts_advanced parts n a q c e t = put parts n a (QueueHead (relinked q (advanced c e t)))

-- ---- received bytes

pub data Received : Type 0 where
  Nothing : Received
  Into : List ℕ → ℕ → List ℕ → ℕ → Received  -- the pages of the buffer, the place of its first byte in them, its bytes, and j

pub record IsInto (part : Structures) (c : Qh) (got : List ℕ) (pages : List ℕ) (k : ℕ) (bs : List ℕ) (j : ℕ) : Type 0 where
  pub buffer : part (place pages k) ≡ Some (Buffer pages k bs)
  pub pages_are : pages_of c ≡ pages
  pub place_is : buffer_place c ≡ k + j
  pub fits : j + length got ≤ length bs
  pub bytes : (i : ℕ) → slice_index got i < 256

abbrev pub IsReceived : Structures → Qh → List ℕ → Received → Type 0
IsReceived part c got Nothing = got ≡ []
IsReceived part c got (Into pages k bs j) = IsInto part c got pages k bs j

abbrev pub received_parts : StructureSets → ℕ → List ℕ → Received → StructureSets
received_parts parts n got Nothing = parts
received_parts parts n got (Into pages k bs j) = put parts n (place pages k) (Buffer pages k (overwritten bs j got))

-- ---- the write-back

pub record CanBeWritten (parts : StructureSets) (n a : ℕ) (q c : Qh) (got : List ℕ) (r : Received) (t : Qtd) : Type 0 where
  pub copy : IsCopy parts n a q c
  pub element : parts n c.current ≡ Some (Element t)
  pub received : IsReceived (parts n) c got r

abbrev pub qtd_after : Qh → Qtd → Qtd
qtd_after c t = if c.token.active then t else record t { token = c.token }

-- `count` bytes were moved, which are received ones or were sent
abbrev pub parts_back : StructureSets → ℕ → ℕ → Qh → Qh → ℕ → List ℕ → Received → Qtd → StructureSets
parts_back parts n a q c count got r t =
    put (put (received_parts parts n got r) n a (QueueHead (relinked q (moved c count)))) n c.current (Element (qtd_after (moved c count) t))
