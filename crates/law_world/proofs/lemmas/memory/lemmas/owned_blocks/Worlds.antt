-- At each moment of the run of a script just the blocks that are still needed are Lent.
use Rattle.std.proofs.Common.{◌≡◌, ℕ, zero, suc, List, [], ◌∷◌, Result, Ok, Err, refl}
use Rattle.usb_base.specs.declared.commands.Cmd.{Cmd}
use Rattle.usb_base.specs.declared.endpoints.EpName.{EpName}
use Rattle.usb_base.specs.declared.reports.OfferError.{OfferError}
use Rattle.script_types.specs.declared.scripts.Event.{Event}
use Rattle.script_types.specs.declared.scripts.Event.TheVariants as events
use Rattle.script_types.specs.declared.scripts.Script.{Script}
use Rattle.script_fits.specs.Fits.{IsFit}
use Rattle.drv_table.specs.DriverContent.{DriverContent}
use Rattle.drv_table.specs.Accepting.{Offered}
use Rattle.drv_table.specs.Offers.{offered}
use Rattle.claims_driver.specs.Leaving.{HasOwners}
use Rattle.law_driver.proofs.lemmas.run_owners.Laws.{commands_keep_owners, events_keep_owners}
use Rattle.law_driver.proofs.lemmas.run_owners.Opened.{opening_has_owners}
use Rattle.bus_wire.specs.Bus.{Fixed, fixed_of}
use Rattle.bus_world.specs.World.{World, driver_parts, next, name_in, commanded, commanded_by, refused_line}
use Rattle.bus_world.specs.Opening.{opening_world}
use Rattle.bus_world.specs.Rooms.{room_of_script}
use Rattle.bus_world.specs.Orders.{Left, Events, Microframes, Answer, Command, OrderedWorld, at_place, orders_of, tick, tick_by, tick_at, ticks}
use Rattle.bus_world.specs.Budgets.{moment}
use Rattle.law_world.proofs.lemmas.memory.lemmas.worlds_keep_to_lent.Standing.{IsStanding, next_stands, commanded_stands, opening_stands}
use Rattle.law_world.specs.memory.owned_blocks.Owned.{OwnsAll}
use Rattle.claims_world.specs.Owned.{OwnsItsBlocks, OwnsItsBlocksThroughout}
use Rattle.law_world.proofs.lemmas.memory.lemmas.owned_blocks.Events.{event_owns_all}
use Rattle.law_world.proofs.lemmas.memory.lemmas.owned_blocks.Lent.{command_owns_all, new_driver_owns_all, lent_blocks_are_needed, needed_runs_are_lent}

pub record HasItsBlocks (w : World) : Type 0 where
  pub standing : IsStanding w
  pub owners : HasOwners w.driver
  pub owns : OwnsAll w.driver

-- ---- an event

event_has : (fixed : Fixed) (w : World) (event : Event) → HasItsBlocks w → HasItsBlocks (next fixed w event)
event_has fixed w events.C k = record {
  standing = next_stands fixed w events.C k.standing;
  owners = k.owners;
  owns = k.owns;
}
event_has fixed w events.D k = record {
  standing = next_stands fixed w events.D k.standing;
  owners = events_keep_owners (driver_parts w) k.owners;
  owns = event_owns_all (driver_parts w) k.owners k.standing.lent k.owns;
}

-- ---- a command

refused_owners : (d : DriverContent) (n : ℕ) (name : EpName) (why : OfferError) → HasOwners d → HasOwners (refused_line d n name why)
refused_owners d n name why old = record {
  owner = old.owner;
  owned = record { each = old.owned.each; sizes = old.owned.sizes; as_many = old.owned.as_many };
  orderly = old.orderly;
}

refused_owns : (d : DriverContent) (n : ℕ) (name : EpName) (why : OfferError) → OwnsAll d → OwnsAll (refused_line d n name why)
refused_owns d n name why old = record { all = old.all; queues = old.queues }

answered_has : (w : World) (n : ℕ) (name : EpName) (cmd : Cmd) (r : Result Offered OfferError) → HasItsBlocks w → offered w.driver w.memory cmd ≡ r → IsStanding (commanded_by w n name r) → HasItsBlocks (commanded_by w n name r)
answered_has w n name cmd (Ok o) k is standing = record {
  standing = standing;
  owners = commands_keep_owners w.driver w.memory cmd o k.standing.good.stands k.owners is;
  owns = command_owns_all w.driver w.memory cmd o k.standing.good.stands k.owners is k.owns;
}
answered_has w n name cmd (Err why) k is standing = record {
  standing = standing;
  owners = refused_owners w.driver n name why k.owners;
  owns = refused_owns w.driver n name why k.owns;
}

commanded_has : (w : World) (n : ℕ) (cmd : Cmd) → HasItsBlocks w → HasItsBlocks (commanded w n cmd)
commanded_has w n cmd k = answered_has w n (name_in cmd) cmd (offered w.driver w.memory cmd) k refl (commanded_stands w n cmd k.standing)

-- ---- the opening

opening_has : (s : Script) → IsFit s → HasItsBlocks (opening_world s)
opening_has s fit = record {
  standing = opening_stands s fit;
  owners = opening_has_owners s.words (room_of_script s) fit.least;
  owns = new_driver_owns_all s.words (room_of_script s) fit.least;
}

-- ---- along a run

by_has : (fixed : Fixed) (w : World) (x : Left) (rest : List Left) → HasItsBlocks w → HasItsBlocks (tick_by fixed w x rest).world
by_has fixed w (Events event (suc n)) rest k = event_has fixed w event k
by_has fixed w (Microframes (suc n)) rest k = event_has fixed w events.C k
by_has fixed w (Answer ended n) rest k = event_has fixed w events.D k
by_has fixed w (Command n cmd) rest k = commanded_has w n cmd k
by_has fixed w _ rest k = k

at_has : (fixed : Fixed) (w : World) (orders : List Left) → HasItsBlocks w → HasItsBlocks (tick_at fixed w orders).world
at_has fixed w [] k = k
at_has fixed w (x ∷ rest) k = by_has fixed w x rest k

all_have : (fixed : Fixed) (p : OrderedWorld) (n : ℕ) → HasItsBlocks p.world → HasItsBlocks (ticks fixed p n).world
unfolding ticks
all_have fixed p zero k = k
all_have fixed p (suc n) k = all_have fixed (tick fixed p) n (at_has fixed p.world p.orders k)

pub moment_has : (s : Script) (n : ℕ) → IsFit s → HasItsBlocks (moment s n).world
moment_has s n fit = all_have (fixed_of s) (at_place (opening_world s) (orders_of s.lines)) n (opening_has s fit)

-- ---- what that says

owns_its_blocks : (w : World) → HasItsBlocks w → OwnsItsBlocks w
owns_its_blocks w k = record {
  owners = k.owners;
  all = k.owns.all;
  stands = k.standing.good.stands;
  lent = k.standing.lent;
  needed = λ b is off. needed_runs_are_lent w.driver b k.owners k.standing.lent is off;
  blocks = lent_blocks_are_needed w.driver w.memory k.standing.good.stands k.owns.all;
}

pub each_moment_owns_its_blocks : (s : Script) → IsFit s → OwnsItsBlocksThroughout s
each_moment_owns_its_blocks s fit n = owns_its_blocks (moment s n).world (moment_has s n fit)
