-- What memory and the copy in hand tell of each endpoint of the ring (EHCI 1.0, 3.5.3, 3.6.3 and 4.10): the bytes that were moved of each qTD's
-- buffer, the toggle of the next transaction, and the endpoint itself. Between a transaction and its write-back the copy in hand tells what words
-- will tell.
--     works_on q e              the overlay works on the qTD at e
--     left_of q e t             the bytes that are left of the qTD t at e: the overlay counts them while it works on it, else the qTD
--     told_bytes q e t bs       the bytes moved of its buffer bs, as words tell
--     settled_bytes q t z bs    and as the write-back of this transaction will leave it
--     hand_bytes ..             the one or the other
--     Told hand parts n e xs    of the qTD at e of the queue head at n these bytes were moved
--     HasToggle hand parts n b  the next transaction of the queue head at n has this toggle, where it keeps its own (DTC = 0)
--     Endpoint                  what a queue head says of its endpoint, which no event changes
--     HasEndpoint parts n x     the queue head at n is that of this endpoint
--     SameTold ..               all of this is told as before
use Rattle.std.specs.Prelude.{◌≡◌, ℕ, ◌-◌, Bool, false, ◌&&◌, ◌==◌, List, length, take, Some, if◌then◌else◌}
use Rattle.qh_qtd.specs.declared.qtd.Qtd.{Qtd}
use Rattle.qh_qtd.specs.declared.queue_head.Qh.{Qh}
use Rattle.hc_copy.specs.Overlay.{buffer_place}
use Rattle.law_structures.specs.lent_structures.Structures.{QueueHead, Element, StructureSets}
use Rattle.law_structures.specs.lent_structures.Changes.{overwritten}
use Rattle.law_ring.specs.Hand.{Settlement, Hand, Empty, Copied, Settled, Stale}
use Rattle.law_ring.specs.Effects.{buffer_of}

-- ---- bytes

abbrev pub works_on : Qh → ℕ → Bool
works_on q e = q.token.active && q.current == e

abbrev pub left_of : Qh → ℕ → Qtd → ℕ
left_of q e t = if works_on q e then q.token.total else t.token.total

abbrev pub told_bytes : Qh → ℕ → Qtd → List ℕ → List ℕ
told_bytes q e t bs = take (length bs - left_of q e t) bs

abbrev pub settled_bytes : Qh → Qtd → Settlement → List ℕ → List ℕ
settled_bytes q t z bs = take (length bs - z.host.left) (overwritten bs (buffer_place q - t.offset) z.got)

abbrev pub hand_bytes : Hand → ℕ → Qh → ℕ → Qtd → List ℕ → List ℕ
hand_bytes Empty n q e t bs = told_bytes q e t bs
hand_bytes (Copied c) n q e t bs = told_bytes q e t bs
hand_bytes (Settled c z) n q e t bs = if c.at == n && works_on q e then settled_bytes q t z bs else told_bytes q e t bs
hand_bytes (Stale at old) n q e t bs = told_bytes q e t bs

pub record Told (hand : Hand) (parts : StructureSets) (n e : ℕ) (xs : List ℕ) : Type 0 where
  pub queue : Qh
  pub head : parts n n ≡ Some (QueueHead queue)
  pub qtd : Qtd
  pub here : parts n e ≡ Some (Element qtd)
  pub are : xs ≡ hand_bytes hand n queue e qtd (buffer_of (parts n) qtd)

-- ---- toggles

abbrev pub hand_toggle : Hand → ℕ → Qh → Bool
hand_toggle Empty n q = q.token.toggle
hand_toggle (Copied c) n q = q.token.toggle
hand_toggle (Settled c z) n q = if c.at == n then z.host.toggle else q.token.toggle
hand_toggle (Stale at old) n q = q.token.toggle

pub record HasToggle (hand : Hand) (parts : StructureSets) (n : ℕ) (b : Bool) : Type 0 where
  pub queue : Qh
  pub head : parts n n ≡ Some (QueueHead queue)
  pub own : queue.dtc ≡ false
  pub is : b ≡ hand_toggle hand n queue

-- ---- endpoints

pub record Endpoint : Type 0 where
  pub addr : ℕ
  pub ep : ℕ
  pub speed : ℕ
  pub max : ℕ
  pub dtc : Bool
  pub hub : ℕ
  pub port : ℕ

abbrev pub endpoint_of : Qh → Endpoint
endpoint_of q = record { addr = q.addr; ep = q.ep; speed = q.eps; max = q.max; dtc = q.dtc; hub = q.hub; port = q.port }

pub record HasEndpoint (parts : StructureSets) (n : ℕ) (x : Endpoint) : Type 0 where
  pub queue : Qh
  pub head : parts n n ≡ Some (QueueHead queue)
  pub is : x ≡ endpoint_of queue

-- ---- nothing is told otherwise

pub record SameTold (hand : Hand) (parts : StructureSets) (later : Hand) (now : StructureSets) : Type 0 where
  pub bytes : (n e : ℕ) (xs : List ℕ) → Told hand parts n e xs → Told later now n e xs
  pub toggle : (n : ℕ) (b : Bool) → HasToggle hand parts n b → HasToggle later now n b
  pub endpoint : (n : ℕ) (x : Endpoint) → HasEndpoint parts n x → HasEndpoint now n x
