-- Laws of what the visits of the walk of the frames cost along a run (USB 2.0, 5.9 and 5.11.3; EHCI 1.0, 3.3, 3.4, 3.6, 4.6, 4.7, 4.10.3
-- and 4.12).
--     HasPeriodics d          each periodic endpoint of the driver has at least one transaction; and one that left its frames has in memory
--                             descriptors of frames of its placement alone
--     IsOfIsochronous d now e an isochronous endpoint which isn't given back as long as FRINDEX has the frame number that it has now, with its placement in the plan
--     IsOwnedBy b d now f a x at byte address a stands the queue head of the endpoint that is placed as x; or as the microframe began a descriptor was active there, of such an
--                             isochronous endpoint in this frame
--     IsPayment b d now index entry     nothing was paid in this visit; or it was a visit to a placed endpoint, and cost no more than the placement
--     IsHandPaid .. hand ps   the copy in hand is that of the newest visit, to a placed endpoint, and so much was paid
--     IsIdle hand             the copy is that of a descriptor of which nothing is active in this microframe
--     IsPassing hand ps       .. or it is so, and nothing was paid
--     ArePaid b d now c ps    both are so
--     GoesOnInFrame w         where something is active of a descriptor to which the walk goes on, its frame is that of the microframe
--     IsWithin b w            as the microframe began of an endpoint and a frame at most one descriptor was active; and what is active of one to which the walk goes on was active then
--     ControllerKeepsPaying, DriverKeepsPaying, CommandKeepsPaying     each event and each command leaves them so
--     ScriptsPayWithinLoad    the law, of each script that fits, and that asks for no more bytes in a slot than its endpoint's packets can
--                             have
--     TextsPayWithinLoad      .. and so of each that a text spells, where nothing else takes time
use Rattle.std.specs.Prelude.{◌≡◌, ℕ, ◌/◌, ◌≤◌, ◌⊎◌, true, false, List, ◌∷◌, Option, Some, None, slice_get}
use Rattle.std.specs.List.{AllByRecursion}
use Rattle.usb_base.specs.declared.commands.Cmd.{Cmd}
use Rattle.usb_base.specs.declared.packets.EpKind.TheVariants.{Iso}
use Rattle.script_types.specs.declared.scripts.Script.{Script}
use Rattle.script_text.specs.Faults.{Spells}
use Rattle.script_fits.specs.Fits.{IsFit}
use Rattle.law_scripts.specs.byte_answers.Bytes.{IsByteScript}
use Rattle.bandwidth.specs.declared.placements.Placed.{Placed}
use Rattle.bandwidth.specs.declared.placements.Placement.{Placement}
use Rattle.bandwidth.specs.Sums.{is_active}
use Rattle.drv_periodic_table.specs.declared.content.Removal.{Removal}
use Rattle.drv_periodic_table.specs.declared.content.Removed.TheVariants as removed
use Rattle.drv_periodic_table.specs.Periodic.{is_periodic, note_at}
use Rattle.periodic_walk.specs.declared.state.Hand.{Hand}
use Rattle.periodic_walk.specs.declared.state.Hand.TheVariants as hands
use Rattle.periodic_walk.specs.Walk.{hand_address}
use Rattle.hc_core.specs.declared.controller.MicroframePart.TheVariants.{Periodic}
use Rattle.hc_core.specs.Controller.{Control}
use Rattle.drv_table.specs.declared.content.Endpoint.{Endpoint}
use Rattle.drv_table.specs.declared.content.Transfer.{Transfer}
use Rattle.drv_table.specs.DriverContent.{DriverContent}
use Rattle.claims_world.specs.FrameHeads.{AreAllowed}
use Rattle.claims_driver.specs.Owners.{is_descriptor}
use Rattle.claims_driver.specs.Unlinked.{IsOpenAt}
use Rattle.law_budgets.specs.visit_prices.Spent.{IsAmong, placed_as}
use Rattle.bus_wire.specs.Bus.{Fixed}
use Rattle.bus_world.specs.World.{World, controller_parts, controller_row, kind_next, driver_next, controller_next, commanded}
use Rattle.law_world.specs.memory.PlacedLaws.{FitsMixed}
use Rattle.claims_world.specs.Visits.{frame_in, visits_after}
use Rattle.law_microframes.specs.visits.Visited.{IsVisiting}
use Rattle.law_microframes.specs.visits.InFrames.{AreInTheirFrames}
use Rattle.law_microframes.specs.visits.Belonging.{placed_of, IsQueueAt, HeadsHaveFields}
use Rattle.law_microframes.specs.visits.DescriptorFields.{ItdsStand}
use Rattle.law_microframes.specs.visits.OneDescriptor.{IsActiveDescriptor, AreServed, IsMixedOnce}
use Rattle.law_microframes.specs.visits.Began.{began_at, IsAhead, GoesOnToOld}
use Rattle.law_microframes.specs.time.ChargeLoads.{IsPaidIn}
use Rattle.law_microframes.specs.time.DataQueues.{ReadsData}
use Rattle.law_microframes.specs.time.SplitCharges.{IsPaidFor}
use Rattle.bus_world.specs.Budgets.{moment}
use Rattle.claims_world.specs.WithinLoad.{payments_after, payments, microframe_in, IsWithinLoad, PaysWithinLoad}
use Rattle.law_microframes.specs.time.Payments.{names_in}
use Rattle.law_microframes.specs.time.SitdFields.{SitdsStand, SlotsFit}

-- ---- a moment

pub record HasPeriodics (d : DriverContent) : Type 0 where
  pub some : (e : ℕ) (x : Endpoint) → slice_get d.endpoints e ≡ Some x → is_periodic x.desc.kind ≡ true → 1 ≤ x.desc.multi
  pub outside : (t : ℕ) (y : Transfer) (x : Endpoint) (p : Placement) → slice_get d.transfers t ≡ Some y → is_descriptor y.sort ≡ true → y.released ≡ false → y.reported ≡ false
      → slice_get d.endpoints y.endpoint ≡ Some x → x.placement ≡ Some p → x.chained ≡ false → is_active p (note_at d.periodic.notes y.first).frame ≡ true

-- ---- what goes on

pub record IsOfIsochronous (d : DriverContent) (now e : ℕ) : Type 0 where
  pub endpoint : Endpoint
  pub placement : Placement
  pub here : slice_get d.endpoints e ≡ Some endpoint
  pub kind : endpoint.desc.kind ≡ Iso
  pub planned : IsAmong d.periodic.plan.placed (placed_as e endpoint.desc placement)
  pub still_open : (k : ℕ) (r : Removal) → slice_get d.periodic.removals k ≡ Some r → r.what ≡ removed.Endpoint e → IsOpenAt now r.boundary

pub data IsOwnedBy (b : World) (d : DriverContent) (now f a : ℕ) (x : Placed) : Type 0 where
  by_queue : (q : IsQueueAt d a) → placed_of q.belongs ≡ x → IsOwnedBy b d now f a x
  by_descriptor : (e : ℕ) (i : IsOfIsochronous d now e) → placed_as e i.endpoint.desc i.placement ≡ x → IsActiveDescriptor b.driver b.memory e f a → IsOwnedBy b d now f a x

pub record IsPaidAt (b : World) (d : DriverContent) (now index a paid : ℕ) : Type 0 where
  pub of : Placed
  pub owned : IsOwnedBy b d now (frame_in index) a of
  pub within : IsPaidIn (microframe_in index) (record { of = of; paid = paid })

abbrev pub IsPayment : World → DriverContent → ℕ → ℕ → ℕ × ℕ → Type 0
IsPayment b d now index entry = (entry.1 ≡ 0) ⊎ IsPaidAt b d now index entry.0 entry.1

pub record IsHandPaid (b : World) (d : DriverContent) (now index : ℕ) (hand : Hand) (ps : List (ℕ × ℕ)) : Type 0 where
  pub address : ℕ
  pub paid : ℕ
  pub rest : List (ℕ × ℕ)
  pub are : ps ≡ (address, paid) ∷ rest
  pub of : Placed
  pub owned : IsOwnedBy b d now (frame_in index) address of
  pub held : IsPaidFor of index hand paid
  pub at : hand_address hand ≡ address
  pub active : is_active of.placement (microframe_in index / 8) ≡ true

abbrev pub IsIdle : Hand → Type 0
IsIdle (hands.Queue h) = ⊥
IsIdle (hands.Itd h) = (h.ended ≡ None) × (h.slot.active ≡ false)
IsIdle (hands.Sitd h) = (h.settled ≡ None) × (h.sitd.active ≡ false)

pub record IsPassing (hand : Hand) (ps : List (ℕ × ℕ)) : Type 0 where
  pub idle : IsIdle hand
  pub address : ℕ
  pub rest : List (ℕ × ℕ)
  pub are : ps ≡ (address, 0) ∷ rest

abbrev pub ArePaidByHand : World → DriverContent → ℕ → ℕ → Option Hand → List (ℕ × ℕ) → Type 0
ArePaidByHand b d now index None ps = Unit {0}
ArePaidByHand b d now index (Some hand) ps = IsHandPaid b d now index hand ps ⊎ IsPassing hand ps

pub record ArePaid (b : World) (d : DriverContent) (now : ℕ) (c : Control) (ps : List (ℕ × ℕ)) : Type 0 where
  pub entries : AllByRecursion (IsPayment b d now c.frame.index) ps
  pub hand : c.part ≡ Periodic → ArePaidByHand b d now c.frame.index c.frame.hand ps

-- ---- each event and command

abbrev pub GoesOnInFrame : World → Type 0
GoesOnInFrame w = (e f n : ℕ) → IsAhead w n → IsActiveDescriptor w.driver w.memory e f n → f ≡ frame_in w.control.frame.index

pub record IsWithin (b w : World) : Type 0 where
  pub began : IsMixedOnce b
  pub old : GoesOnToOld b w
  pub in_frame : GoesOnInFrame w

pub record GoesOnPaying (b w : World) (ps : List (ℕ × ℕ)) : Type 0 where
  pub visiting : IsVisiting b w (names_in ps)
  pub heads : HeadsHaveFields w.driver w.memory
  pub itds : ItdsStand w.driver w.memory
  pub sitds : SitdsStand w.driver w.memory w.control
  pub served : AreServed w.driver w.memory
  pub periodics : HasPeriodics w.driver
  pub allowed : AreAllowed w.driver
  pub reads : ReadsData w
  pub within : IsWithin b w
  pub paid : ArePaid b w.driver w.registers.frame_index w.control ps

abbrev pub ControllerKeepsPaying : Type 0
ControllerKeepsPaying =
    (fixed : Fixed) (b w : World) (ps : List (ℕ × ℕ)) → GoesOnPaying b w ps
    → AreInTheirFrames (controller_next fixed w) (visits_after (controller_row w) (controller_parts w) (names_in ps))
    → ArePaid (began_at (controller_row w) w b) (controller_next fixed w).driver (controller_next fixed w).registers.frame_index (controller_next fixed w).control
    (payments_after (controller_row w) (kind_next w) (controller_parts w) ps)

abbrev pub DriverKeepsPaying : Type 0
DriverKeepsPaying = (b w : World) (ps : List (ℕ × ℕ)) → GoesOnPaying b w ps → ArePaid b (driver_next w).driver (driver_next w).registers.frame_index (driver_next w).control ps

abbrev pub CommandKeepsPaying : Type 0
CommandKeepsPaying = (b w : World) (line : ℕ) (cmd : Cmd) (ps : List (ℕ × ℕ)) → GoesOnPaying b w ps
    → ArePaid b (commanded w line cmd).driver (commanded w line cmd).registers.frame_index (commanded w line cmd).control ps

-- ---- a run

abbrev pub ScriptsPayWithinLoad : Type 0
ScriptsPayWithinLoad = (s : Script) → IsFit s → IsByteScript s → FitsMixed s → SlotsFit s → (k : ℕ)
    → IsWithinLoad (moment s k).world (payments s k)

abbrev pub TextsPayWithinLoad : Type 0
TextsPayWithinLoad = (text : List ℕ) (s : Script) → Spells text s → PaysWithinLoad s
