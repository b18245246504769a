-- What is due of an isochronous endpoint, told by what was asked of its driver (EHCI 1.0, 3.3, 3.4, 4.6, 4.7.1 and 4.12.3; USB 2.0, 5.6).
--     IsStoredFor split d e n f
--                              the iTD at n, or the siTD where it is split, is one of endpoint e for frame f of the list: the command that
--                              took it on has no more to link of it, no store is under way that links or unlinks it, and nothing was told
--                              of it
--     StoredSlotsAreDue s      as each microframe of the run of a script begins: of an endpoint that isn't cancelled its slot is due where
--                              it is active in an iTD that is stored for the frame
--     StoredSitdsAreDue s      .. and a siTD is due that is stored for the frame, and of which a transaction comes in the microframe
--     TextsHaveStoredSlotsDue, TextsHaveStoredSitdsDue
--                              so it is of each script that a text spells
use Rattle.std.specs.Prelude.{◌≡◌, ◌≢◌, ℕ, ◌<◌, Bool, true, false, List, slice_get, Some}
use Rattle.script_types.specs.declared.scripts.Script.{Script}
use Rattle.script_text.specs.Faults.{Spells}
use Rattle.itd_sitd.specs.declared.itd.Itd.{Itd}
use Rattle.itd_sitd.specs.Itd.{slot_of}
use Rattle.itd_sitd.specs.declared.sitd.Sitd.{Sitd}
use Rattle.mem_descriptors.specs.Descriptors.{itd_at_address, sitd_at_address}
use Rattle.drv_periodic.specs.declared.work.Work.{Work as UnderWay}
use Rattle.drv_periodic_table.specs.Periodic.{note_at, descriptor_member}
use Rattle.drv_table.specs.declared.content.Command.TheVariants as unfinished
use Rattle.drv_table.specs.declared.content.Endpoint.{Endpoint}
use Rattle.drv_table.specs.DriverContent.{DriverContent}
use Rattle.hc_interrupt.specs.Turns.{microframe_of}
use Rattle.hc_iso.specs.declared.held.SitdTurn.TheVariants.{Work}
use Rattle.hc_iso.specs.Sitd.{sitd_turn}
use Rattle.claims_world.specs.DueAtBegin.{begun, IsUncancelled}
use Rattle.claims_world.specs.SitdsAtBegin.{IsSitdDueAtBegin}
use Rattle.claims_world.specs.SlotsAtBegin.{IsDescriptorOfEndpoint, IsSlotDueAtBegin}
use Rattle.claims_world.specs.Visits.{frame_in}

pub record IsStoredFor (split : Bool) (d : DriverContent) (e n f : ℕ) : Type 0 where
  pub endpoint : Endpoint
  pub here : slice_get d.endpoints e ≡ Some endpoint
  pub of : IsDescriptorOfEndpoint d e n
  pub sort : (note_at d.periodic.notes of.transfer.first).split ≡ split
  pub frame : (note_at d.periodic.notes of.transfer.first).frame ≡ f
  pub older : (i first count : ℕ) → d.command ≡ Some (unfinished.Iso i first count) → of.number < first
  pub idle : (v : UnderWay) → d.periodic.list.work ≡ Some v → v.member ≢ descriptor_member d.periodic.notes of.transfer.first
  pub untold : of.transfer.reported ≡ false

abbrev pub StoredSlotsAreDue : Script → Type 0
StoredSlotsAreDue s = (k e n : ℕ) (v : Itd) → IsUncancelled (begun s k).driver e
    → IsStoredFor false (begun s k).driver e n (frame_in (begun s k).control.frame.index) → itd_at_address (begun s k).memory n ≡ Some v
    → (slot_of (microframe_of (begun s k).control.frame.index) v).active ≡ true → IsSlotDueAtBegin (begun s k) n

abbrev pub StoredSitdsAreDue : Script → Type 0
StoredSitdsAreDue s = (k e n : ℕ) (v : Sitd) → IsUncancelled (begun s k).driver e
    → IsStoredFor true (begun s k).driver e n (frame_in (begun s k).control.frame.index) → sitd_at_address (begun s k).memory n ≡ Some v
    → sitd_turn (microframe_of (begun s k).control.frame.index) v ≡ Work → IsSitdDueAtBegin (begun s k) n

abbrev pub TextsHaveStoredSlotsDue : Type 0
TextsHaveStoredSlotsDue = (text : List ℕ) (s : Script) → Spells text s → StoredSlotsAreDue s

abbrev pub TextsHaveStoredSitdsDue : Type 0
TextsHaveStoredSitdsDue = (text : List ℕ) (s : Script) → Spells text s → StoredSitdsAreDue s
