-- Whose key an entry has: an event of the driver and a command leave its endpoint in the plan, and so does a microframe that begins in the
-- frame.
use Rattle.std.proofs.Common.{◌≡◌, ℕ, ◌+◌, ◌/◌, ◌%◌, ◌<◌, Bool, true, false, Option, Result, Ok, Err, refl, ap, sym, subst, ◌∙◌, arith}
use Rattle.std.specs.Prelude.{nat_lt}
use Rattle.std.proofs.lemmas.Bool.{and_parts}
use Rattle.std.proofs.lemmas.Bool.Decides.{nat_tests}
use Rattle.usb_base.specs.declared.commands.Cmd.{Cmd}
use Rattle.usb_base.specs.declared.endpoints.EpDesc.{EpDesc}
use Rattle.usb_base.specs.declared.reports.OfferError.{OfferError}
use Rattle.op_registers.specs.Events.{next_index}
use Rattle.hub_keys.specs.declared.key.Key.{Key}
use Rattle.bandwidth.specs.declared.placements.Placed.{Placed}
use Rattle.drv_chains.specs.declared.boundary.Boundary.{Boundary}
use Rattle.drv_chains.specs.declared.boundary.Boundary.TheVariants.{Unread, Since, Seen as IsSeen}
use Rattle.drv_chains.specs.Boundary.{frame_number}
use Rattle.drv_periodic_table.specs.declared.content.Removed.TheVariants as removed
use Rattle.drv_table.specs.declared.content.Endpoint.{Endpoint}
use Rattle.drv_table.specs.DriverContent.{DriverContent}
use Rattle.drv_table.specs.Accepting.{Offered}
use Rattle.drv_table.specs.Offers.{offered}
use Rattle.drv_table.specs.Rows.{driver_row}
use Rattle.law_driver.proofs.lemmas.queued_drivers.CommandReasons.{reason_of}
use Rattle.law_driver.proofs.lemmas.run_owners.Commands.{each_command_has_its_reason}
use Rattle.law_driver.proofs.lemmas.run_owners.Reasons.{each_event_is_due}
use Rattle.law_descriptors.proofs.GivenRow.{row_gives_back_passed}
use Rattle.law_descriptors.proofs.Returning.{not_open}
use Rattle.law_budgets.specs.visit_prices.Spent.{placed_as, IsAmong}
use Rattle.bus_world.specs.World.{World, driver_parts, driver_next, name_in, commanded, commanded_by}
use Rattle.claims_driver.specs.Unlinked.{IsOpenAt}
use Rattle.claims_world.specs.Visits.{frame_in}
use Rattle.law_translator.specs.Plans.{Fits}
use Rattle.law_translator.specs.hub_plans.HubPlans.{AreKeysApart}
use Rattle.claims_world.specs.HubPlans.{is_below, placed_below, key_by, key_at, plan_at, no_plan, is_number, if_number, plans_now}
use Rattle.law_microframes.specs.plans.Plans.{HubPlansFitIn}
use Rattle.law_microframes.proofs.lemmas.visits.BelongSeen.{Seen, seen_in, IsSeenIn, seen_there, row_seen}
use Rattle.law_microframes.proofs.lemmas.visits.BelongPlan.{row_more}
use Rattle.law_microframes.proofs.lemmas.time.PaymentIsochronous.{accepted_sees, accepted_open}
use Rattle.law_microframes.proofs.lemmas.time.PaymentRemovals.{AreOpen, row_open}
use Rattle.law_microframes.specs.translators.Keeping.{IsOwned}
use Rattle.law_microframes.proofs.lemmas.translators.Placing.{IsPlannedAs, planned_as}

-- ---- it stays

pub record StaysOwned {d : DriverContent} {index hub port : ℕ} {k : Key} (o : IsOwned d index hub port k) (later : DriverContent)
    (next : ℕ) : Type 0 where
  pub still : IsOwned later next hub port k
  pub same : placed_as still.number still.desc still.placement ≡ placed_as o.number o.desc o.placement

owned_stays : (d later : DriverContent) (index next hub port : ℕ) (k : Key) (o : IsOwned d index hub port k)
    → seen_in later.endpoints o.number ≡ seen_in d.endpoints o.number
    → IsAmong later.periodic.plan.placed (placed_as o.number o.desc o.placement) → AreOpen next o.number later.periodic.removals
    → frame_in next ≡ frame_in index → StaysOwned o later next
owned_stays d later index next hub port k o same among all_open frame =
    let of : IsSeenIn later.endpoints o.number o.endpoint = seen_there d.endpoints later.endpoints o.number o.endpoint same o.here in
    record {
      still = record {
        number = o.number;
        endpoint = of.endpoint;
        desc = o.desc;
        placement = o.placement;
        here = of.here;
        described = ap (λ (z : Seen). z.desc) of.same ∙ o.described;
        planned = among;
        below = ap (λ (f : ℕ). is_below hub port f (placed_as o.number o.desc o.placement)) frame ∙ o.below;
        numbers = o.numbers;
        is = o.is;
        still_open = all_open;
      };
      same = refl;
    }

-- ---- an event of the driver

pub owned_driver : (w : World) (hub port : ℕ) (k : Key) (o : IsOwned w.driver w.registers.frame_index hub port k)
    → StaysOwned o (driver_next w).driver w.registers.frame_index
owned_driver w hub port k o =
    let parts = driver_parts w in
    let row = driver_row parts in
    owned_stays w.driver (driver_next w).driver w.registers.frame_index w.registers.frame_index hub port k o (row_seen o.number row parts)
    (row_more row parts (placed_as o.number o.desc o.placement)
    (λ given.
    let g = row_gives_back_passed parts (removed.Endpoint o.number) given in
    not_open w.registers.frame_index g.due.removal.boundary g.seen (o.still_open 0 g.due.removal g.due.first g.due.is)) o.planned)
    (row_open row parts o.number (each_event_is_due parts) o.still_open) refl

-- ---- a command

pub owned_command : (w : World) (line : ℕ) (cmd : Cmd) (hub port : ℕ) (k : Key) (o : IsOwned w.driver w.registers.frame_index hub port k)
    → StaysOwned o (commanded w line cmd).driver w.registers.frame_index
owned_command w line cmd hub port k o = by (offered w.driver w.memory cmd) refl
  where
    by : (r : Result Offered OfferError) → offered w.driver w.memory cmd ≡ r
        → StaysOwned o (commanded_by w line (name_in cmd) r).driver w.registers.frame_index
    by (Err why) is =
        owned_stays w.driver (commanded_by w line (name_in cmd) (Err why)).driver w.registers.frame_index w.registers.frame_index hub port
        k o refl o.planned o.still_open refl
    by (Ok f) is =
        let s = accepted_sees w f o.number o.endpoint (placed_as o.number o.desc o.placement) o.here o.planned cmd is
        (reason_of w.driver w.memory cmd f is) in
        owned_stays w.driver f.driver w.registers.frame_index w.registers.frame_index hub port k o s.seen_too s.placed_too
        (accepted_open w f w.registers.frame_index o.number (each_command_has_its_reason w.driver w.memory cmd f is) o.still_open) refl

-- ---- a microframe begins within the frame

-- 16,384 is a whole number of frames
pub same_frame : (index : ℕ) → (next_index index % 8 ≡ 0 → ⊥) → frame_in (next_index index) ≡ frame_in index
same_frame index within = by index (next_index index % 8) refl within
  where
    by : (index r : ℕ) → (index + 1) % 16384 % 8 ≡ r → (r ≡ 0 → ⊥) → (index + 1) % 16384 / 8 % 1024 ≡ index / 8 % 1024
    by index r is not = omega (arith, not)

same_number : (index : ℕ) → (next_index index % 8 ≡ 0 → ⊥) → frame_number (next_index index) ≡ frame_number index
same_number index within = by index (next_index index % 8) refl within
  where
    by : (index r : ℕ) → (index + 1) % 16384 % 8 ≡ r → (r ≡ 0 → ⊥) → (index + 1) % 16384 / 8 % 2048 ≡ index / 8 % 2048
    by index r is not = omega (arith, not)

pub next_now : (index : ℕ) → (next_index index % 8 ≡ 0 → ⊥) → next_index index % 8 ≡ index % 8 + 1
next_now index within = by index (next_index index % 8) refl within
  where
    by : (index r : ℕ) → (index + 1) % 16384 % 8 ≡ r → (r ≡ 0 → ⊥) → (index + 1) % 16384 % 8 ≡ index % 8 + 1
    by index r is not = omega (arith, not)

open_later : (index next : ℕ) (b : Boundary) → frame_number next ≡ frame_number index → IsOpenAt index b → IsOpenAt next b
open_later index next Unread same still = tt
open_later index next (Since first) same still = still ∙ sym same
open_later index next IsSeen same still = still

pub owned_begin : (d : DriverContent) (index hub port : ℕ) (k : Key) (o : IsOwned d index hub port k) → (next_index index % 8 ≡ 0 → ⊥)
    → StaysOwned o d (next_index index)
owned_begin d index hub port k o within =
    owned_stays d d index (next_index index) hub port k o refl o.planned
    (λ i r at what. open_later index (next_index index) r.boundary (same_number index within) (o.still_open i r at what))
    (same_frame index within)

-- ---- the plan has it

pub nothing_fits : Fits no_plan
nothing_fits u = omega arith

pub plans_fit : (d : DriverContent) → HubPlansFitIn d → (index hub port : ℕ) → Fits (plans_now d index hub port)
plans_fit d fit index hub port = by (is_number hub port) refl
  where
    low : (b : Bool) (n m : ℕ) → nat_lt n m ≡ true → n < m
    low b n m is = grind (arith, nat_tests)

    small : frame_in index < 1024
    small = omega arith

    by : (b : Bool) → is_number hub port ≡ b → Fits (if_number b (plan_at d hub port (frame_in index)))
    by true is =
        let p = and_parts (nat_lt hub 128) (nat_lt port 16) is in
        fit hub port (frame_in index) (low true hub 128 p.0) (low true port 16 p.1) small
    by false is = nothing_fits

abbrev key_by_desc : EpDesc → Placed → Key
key_by_desc x y = record { addr = x.name.addr; ep = x.name.num; dir = y.want.dir; kind = y.want.kind }

module _ (d : DriverContent) (apart : (hub port f : ℕ) → AreKeysApart (key_at d) (placed_below hub port f d.periodic.plan.placed)) where
  pub owned_planned : (index hub port : ℕ) (k : Key) (o : IsOwned d index hub port k)
      → IsPlannedAs (plans_now d index hub port) k (placed_as o.number o.desc o.placement)
  owned_planned index hub port k o =
      let y : Placed = placed_as o.number o.desc o.placement in
      let f : ℕ = frame_in index in
      let key : key_at d y ≡ k = ap (λ (z : Option Endpoint). key_by z y) o.here ∙ ap (λ (x : EpDesc). key_by_desc x y) o.described
      ∙ o.is in
      let p = planned_as (key_at d) hub port f d.periodic.plan.placed o.planned.place y (apart hub port f) o.planned.there o.below in
      subst (λ (b : Bool). IsPlannedAs (if_number b (plan_at d hub port f)) k y) (sym o.numbers)
      (subst (λ (j : Key). IsPlannedAs (plan_at d hub port f) j y) key p)
