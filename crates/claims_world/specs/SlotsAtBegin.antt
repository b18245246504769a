-- What is due of isochronous transfer descriptors as their microframe begins is done in it (EHCI 1.0, 3.1, 3.3.2, 4.4, 4.6 and 4.7.1; USB
-- 2.0, 5.6.4): whatever the walk of the frames comes to before.
--     IsLinkedAs at w n          the structure at n is linked in the frame of the microframe: the links of that frame lead there, and as
--                                such a structure: ItdAt as an iTD
--     IsSlotDueAtBegin b n       the iTD at n is linked as the microframe begins that left the world b, and its slot of this microframe is
--                                active
--     IsDescriptorOfEndpoint d e n
--                                the descriptor at n is one of the isochronous endpoint e: that of a transfer which wasn't given back
--     StaysLinked at s k n       it is linked at each moment of the microframe of moment k, up to that moment
--     StaysDue at s k n          no cancel of the endpoint whose it was as the microframe began is accepted up to moment k; or it stays
--                                linked nevertheless
--     SlotsAtBeginAreDone s      at each moment of the run of a script at which the walk of the frames is over, in a microframe that isn't
--                                held: each slot that was due as the microframe began is written back, unless its endpoint was cancelled
--                                since, and its iTD unlinked; where no more than 4 microseconds went for complete-splits that were made
--                                again
use Rattle.std.specs.Prelude.{◌≡◌, ℕ, ◌*◌, ◌≤◌, true, false, slice_get, Some}
use Rattle.script_types.specs.declared.scripts.Script.{Script}
use Rattle.itd_sitd.specs.declared.itd.Itd.{Itd}
use Rattle.itd_sitd.specs.Itd.{slot_of}
use Rattle.mem_descriptors.specs.Descriptors.{itd_at_address}
use Rattle.drv_table.specs.declared.content.Transfer.{Transfer}
use Rattle.drv_table.specs.DriverContent.{DriverContent}
use Rattle.claims_driver.specs.Owners.{is_descriptor}
use Rattle.hc_interrupt.specs.Turns.{microframe_of}
use Rattle.bus_wire.specs.Bus.{fixed_of}
use Rattle.bus_world.specs.Budgets.{moment}
use Rattle.bus_world.specs.World.{World, controller_parts}
use Rattle.claims_world.specs.DueAtBegin.{begun, IsUncancelled}
use Rattle.claims_world.specs.Reach.{Reached, Reaches, ItdAt}
use Rattle.claims_world.specs.Slots.{slots}
use Rattle.claims_world.specs.Visits.{HasVisited, IsInChain, IsPastFrames, began, frame_in, is_held_now}
use Rattle.claims_world.specs.WithinLoad.{repeats}

pub record IsLinkedAs (at : ℕ → Reached) (w : World) (n : ℕ) : Type 0 where
  pub chain : IsInChain w (frame_in w.control.frame.index) n
  pub reached : Reaches (controller_parts w) (at n)

pub record IsSlotDueAtBegin (b : World) (n : ℕ) : Type 0 where
  pub linked : IsLinkedAs ItdAt b n
  pub itd : Itd
  pub read : itd_at_address b.memory n ≡ Some itd
  pub active : (slot_of (microframe_of b.control.frame.index) itd).active ≡ true

pub record IsDescriptorOfEndpoint (d : DriverContent) (e n : ℕ) : Type 0 where
  pub number : ℕ
  pub transfer : Transfer
  pub here : slice_get d.transfers number ≡ Some transfer
  pub sort : is_descriptor transfer.sort ≡ true
  pub held : transfer.released ≡ false
  pub at : n ≡ 32 * transfer.first
  pub endpoint : transfer.endpoint ≡ e

abbrev pub StaysLinked : (ℕ → Reached) → Script → ℕ → ℕ → Type 0
StaysLinked at s k n = (j : ℕ) → j ≤ k → began s j ≡ began s k → IsLinkedAs at (moment s j).world n

pub data StaysDue (at : ℕ → Reached) (s : Script) (k n : ℕ) : Type 0 where
  uncancelled : (e : ℕ) → IsDescriptorOfEndpoint (begun s k).driver e n → IsUncancelled (moment s k).world.driver e
      → StaysDue at s k n
  stays_linked : StaysLinked at s k n → StaysDue at s k n

abbrev pub SlotsAtBeginAreDone : Script → Type 0
SlotsAtBeginAreDone s = (k n : ℕ) → IsPastFrames (moment s k).world → is_held_now (fixed_of s) (moment s k).world ≡ false
    → repeats s k ≤ 4000000 → IsSlotDueAtBegin (begun s k) n → StaysDue ItdAt s k n → HasVisited n (slots s k).done
