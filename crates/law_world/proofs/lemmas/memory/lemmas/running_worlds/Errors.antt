-- While the controller runs, nothing sets Host System Error.
use Rattle.std.proofs.Common.{◌≡◌, ℕ, zero, suc, ◌==◌, Bool, true, false, List, [], ◌∷◌, Option, Some, None, Result, Ok, Err, slice_get, ap, sym, ◌∙◌, inl, inr, refl}
use Rattle.std.proofs.lemmas.Bool.{true≢false}
use Rattle.usb_base.specs.declared.endpoints.EpName.{EpName}
use Rattle.usb_base.specs.declared.reports.OfferError.{OfferError}
use Rattle.script_types.specs.declared.scripts.Event.{Event}
use Rattle.script_types.specs.declared.scripts.Event.TheVariants as events
use Rattle.op_registers.specs.RegisterFile.{RegisterFile}
use Rattle.op_registers.specs.Table.{one_if, after_write}
use Rattle.claims_base.specs.Controller.{GoesOn}
use Rattle.law_refusals.specs.Refusals.{GoesOnOrStops}
use Rattle.law_refusals.proofs.Events.{each_event_counts_once}
use Rattle.drv_table.specs.declared.content.Endpoint.{Endpoint}
use Rattle.drv_table.specs.declared.content.Transfer.{Transfer}
use Rattle.drv_periodic_table.specs.declared.content.Removed.{Removed}
use Rattle.drv_periodic_table.specs.declared.content.Removed.TheVariants as removed
use Rattle.drv_table.specs.declared.rows.DriverRow.{DriverRow}
use Rattle.drv_table.specs.declared.rows.DriverRow.TheVariants as rows
use Rattle.drv_table.specs.Accepting.{Offered}
use Rattle.drv_table.specs.Offers.{offered}
use Rattle.drv_table.specs.Parts.{Parts}
use Rattle.drv_table.specs.Rows.{driver_row, after_driver_row}
use Rattle.drv_table.specs.Releases.{after_transfer, after_endpoint, freed_by}
use Rattle.drv_table.specs.Removals.{after_unlink, after_removed, after_descriptor, after_placed}
use Rattle.mem_runs.specs.Book.{Holding, holding}
use Rattle.bus_wire.specs.Bus.{Fixed, fixed_of}
use Rattle.bus_world.specs.World.{World, driver_parts, controller_parts, controller_next, next, name_in, commanded_by}
use Rattle.bus_world.specs.Opening.{opening_world}
use Rattle.bus_world.specs.Orders.{Left, Events, Microframes, Answer, Command, OrderedWorld, at_place, orders_of, tick_by, tick_at, tick, ticks}
use Rattle.law_world.specs.steps.Streaming.{begins_by, transacts_by, wired}
use Rattle.law_world.proofs.lemmas.steps.StreamTurning.{world_has_row}
use Rattle.law_world.specs.memory.running_worlds.Running.{NoErrorWhileItRuns}

-- ---- an event of the controller

pub counts_once : (fixed : Fixed) (w : World) → GoesOnOrStops w.registers w.memory (controller_next fixed w).registers (controller_next fixed w).memory
counts_once fixed w =
    each_event_counts_once begins_by transacts_by (controller_parts w) (controller_parts (controller_next fixed w)) (wired fixed w) (wired fixed (controller_next fixed w)) (world_has_row fixed w)

module _ (fixed : Fixed) (w : World) where
  went_on : (controller_next fixed w).registers.run ≡ true → GoesOnOrStops w.registers w.memory (controller_next fixed w).registers (controller_next fixed w).memory
      → GoesOn w.registers w.memory (controller_next fixed w).registers (controller_next fixed w).memory
  went_on run (inl goes) = goes
  went_on run (inr stops) = absurd (true≢false (sym run ∙ stops.run))

  pub goes_on : (controller_next fixed w).registers.run ≡ true → GoesOn w.registers w.memory (controller_next fixed w).registers (controller_next fixed w).memory
  goes_on run = went_on run (counts_once fixed w)

-- ---- an event of the driver

abbrev Clear : RegisterFile → Type 0
Clear r = r.host_system_error ≡ false

-- a 0 written to a bit that a 1 clears leaves it
cleared_clear : (r : RegisterFile) → Clear r → Clear (after_write r 0x04 0x20)
cleared_clear r clear = ap (λ (b : Bool). one_if b == 1) clear

transfer_clear : (p : Parts) (t : ℕ) (o : Option Transfer) (h : Holding) → Clear p.registers → Clear (after_transfer p t o h).registers
transfer_clear p t None h clear = clear
transfer_clear p t (Some x) h clear = clear

endpoint_clear : (p : Parts) (e : ℕ) (o : Option Endpoint) → Clear p.registers → Clear (after_endpoint p e o).registers
endpoint_clear p e None clear = clear
endpoint_clear p e (Some x) clear = clear

unlink_clear : (p : Parts) (t : ℕ) (o : Option Transfer) → Clear p.registers → Clear (after_unlink p t o).registers
unlink_clear p t None clear = clear
unlink_clear p t (Some x) clear = clear

descriptor_clear : (p : Parts) (t : ℕ) (o : Option Transfer) → Clear p.registers → Clear (after_descriptor p t o).registers
descriptor_clear p t None clear = clear
descriptor_clear p t (Some x) clear = clear

placed_clear : (p : Parts) (e : ℕ) (o : Option Endpoint) → Clear p.registers → Clear (after_placed p e o).registers
placed_clear p e None clear = clear
placed_clear p e (Some x) clear = clear

removed_clear : (p : Parts) (what : Removed) → Clear p.registers → Clear (after_removed p what).registers
removed_clear p (removed.Descriptor t) clear = descriptor_clear p t (slice_get p.driver.transfers t) clear
removed_clear p (removed.Endpoint e) clear = placed_clear p e (slice_get p.driver.endpoints e) clear

row_clear : (row : DriverRow) (p : Parts) → Clear p.registers → Clear (after_driver_row row p).registers
row_clear (rows.ReleaseTransfer t) p clear =
    transfer_clear p t (slice_get p.driver.transfers t) (freed_by p.driver (holding p.driver.book p.memory) (slice_get p.driver.transfers t)) clear
row_clear (rows.ReleaseEndpoint e) p clear = endpoint_clear p e (slice_get p.driver.endpoints e) clear
row_clear rows.ClearAdvance p clear = cleared_clear p.registers clear
row_clear (rows.Unlink t) p clear = unlink_clear p t (slice_get p.driver.transfers t) clear
row_clear (rows.ReleaseRemoved what) p clear = removed_clear p what clear
row_clear _ p clear = clear

-- ---- a command

commanded_clear : (w : World) (n : ℕ) (name : EpName) (r : Result Offered OfferError) → Clear w.registers → Clear (commanded_by w n name r).registers
commanded_clear w n name (Ok o) clear = clear
commanded_clear w n name (Err why) clear = clear

-- ---- a run

Runs : OrderedWorld → Type 0
Runs p = p.world.registers.run ≡ true

IsClear : OrderedWorld → Type 0
IsClear p = Clear p.world.registers

next_clear : (fixed : Fixed) (w : World) (event : Event) → (next fixed w event).registers.run ≡ true → Clear w.registers → Clear (next fixed w event).registers
next_clear fixed w events.D run clear = row_clear (driver_row (driver_parts w)) (driver_parts w) clear
next_clear fixed w events.C run clear = (goes_on fixed w run).error ∙ clear

by_clear : (fixed : Fixed) (w : World) (x : Left) (rest : List Left) → Runs (tick_by fixed w x rest) → Clear w.registers → IsClear (tick_by fixed w x rest)
unfolding Runs IsClear
by_clear fixed w (Events event (suc n)) rest run clear = next_clear fixed w event run clear
by_clear fixed w (Microframes (suc n)) rest run clear = next_clear fixed w events.C run clear
by_clear fixed w (Answer ended n) rest run clear = next_clear fixed w events.D run clear
by_clear fixed w (Command n cmd) rest run clear = commanded_clear w n (name_in cmd) (offered w.driver w.memory cmd) clear
by_clear fixed w _ rest run clear = clear

at_clear : (fixed : Fixed) (w : World) (orders : List Left) → Runs (tick_at fixed w orders) → Clear w.registers → IsClear (tick_at fixed w orders)
unfolding IsClear
at_clear fixed w [] run clear = clear
at_clear fixed w (x ∷ rest) run clear = by_clear fixed w x rest run clear

all_clear : (fixed : Fixed) (p : OrderedWorld) (k : ℕ) → ((j : ℕ) → Runs (ticks fixed p j)) → IsClear p → IsClear (ticks fixed p k)
unfolding ticks IsClear
all_clear fixed p zero runs clear = clear
all_clear fixed p (suc k) runs clear = all_clear fixed (tick fixed p) k (λ j. runs (suc j)) (at_clear fixed p.world p.orders (runs 1) clear)

pub no_error : NoErrorWhileItRuns
unfolding Runs IsClear
no_error s runs k = all_clear (fixed_of s) (at_place (opening_world s) (orders_of s.lines)) k runs refl
