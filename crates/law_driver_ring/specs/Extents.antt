-- How far the structures reach that memory has for a driver (EHCI 1.0, 3.1, 3.5.4 and 4.10): the frame list no further than its page, and the buffer
-- of each qTD no further than its runs.
--     InRuns slot cs k        block k is one of the runs that begin in these blocks
--     AreInRuns v parts       the frame list and each buffer of a transfer that wasn't given back reach no further
--     KeepExtents parts now   each buffer and each table that is there now was there, and reached as far
--     KeepRuns v w            what the driver has is told alike, and each run has its blocks still
--     ExtentsStay, WalkKeepsExtents   the laws
use Rattle.std.specs.Prelude.{◌≡◌, ℕ, ◌*◌, ◌≤◌, Bool, List, ◌∷◌, length, Some}
use Rattle.usb_base.specs.declared.packets.Ask.{Ask}
use Rattle.usb_base.specs.declared.packets.Reply.{Reply}
use Rattle.async_walk.specs.declared.state.WalkStep.{WalkStep}
use Rattle.mem_runs.specs.declared.slots.Slot.{Slot}
use Rattle.claims_driver.specs.Owners.{SlotHas, EndpointRuns, TransferRuns, Views, IsPieceOf, IsOneOf}
use Rattle.law_structures.specs.lent_structures.Structures.{Buffer, Table, Structures, StructureSets, Has}
use Rattle.law_structures.specs.lent_structures.Alters.{HasBytes}
use Rattle.law_ring.specs.Hand.{Hand}
use Rattle.law_ring.specs.Ring.{IsInHand}
use Rattle.law_ring.specs.Effects.{Effect}
use Rattle.law_driver_ring.specs.Inventory.{IsTransferIn}

pub record InRuns (slot : ℕ → Slot) (cs : List ℕ) (k : ℕ) : Type 0 where
  pub at : ℕ
  pub among : IsOneOf at cs
  pub has : SlotHas (slot at) k

pub record AreInRuns (v : Views) (parts : StructureSets) : Type 0 where
  pub list : (ws : List ℕ) → parts 0 0 ≡ Some (Table ws) → length ws ≤ 1024
  pub buffers : (t b c : ℕ) (cs : List ℕ) (y : TransferRuns) (x : EndpointRuns) (pages : List ℕ) (k : ℕ) (bs : List ℕ) → IsTransferIn v t y x → IsPieceOf v.note y.first y.qtds b
      → (v.note b).buffer ≡ c ∷ cs → parts (32 * x.queue) (32 * c) ≡ Some (Buffer pages k bs) → (j : ℕ) → Has (32 * c) (Buffer pages k bs) j → InRuns v.slot (c ∷ cs) j

-- ---- what an event leaves of them

-- a table of as many words
pub record HasWords (part : Structures) (a n : ℕ) : Type 0 where
  pub words : List ℕ
  pub here : part a ≡ Some (Table words)
  pub size : length words ≡ n

pub record KeepExtents (parts now : StructureSets) : Type 0 where
  pub buffers : (n a : ℕ) (pages : List ℕ) (k : ℕ) (bs : List ℕ) → now n a ≡ Some (Buffer pages k bs) → HasBytes (parts n) a pages k (length bs)
  pub tables : (n a : ℕ) (ws : List ℕ) → now n a ≡ Some (Table ws) → HasWords (parts n) a (length ws)

-- what the driver has is told alike, and no run is given back
pub record KeepRuns (v w : Views) : Type 0 where
  pub slots : (c k : ℕ) → SlotHas (v.slot c) k → SlotHas (w.slot c) k
  pub endpoints : (e : ℕ) → w.endpoint e ≡ v.endpoint e
  pub transfers : (t : ℕ) → w.transfer t ≡ v.transfer t
  pub notes : (b : ℕ) → w.note b ≡ v.note b

-- ---- the laws

abbrev pub ExtentsStay : Type 0
ExtentsStay = (v w : Views) (parts now : StructureSets) → KeepRuns v w → KeepExtents parts now → AreInRuns v parts → AreInRuns w now

abbrev pub WalkKeepsExtents : {W : Type 0} → (W → Ask → List ℕ → Reply → W → Type 0) → Type 0
WalkKeepsExtents {W} transacts = (member : ℕ → Bool) (parts : StructureSets) (hand : Hand) (reply : Reply) (wire after : W) (now : StructureSets) (later : Hand) (kind : WalkStep)
    → IsInHand member parts reply hand → Effect transacts parts hand wire after now later kind → KeepExtents parts now
