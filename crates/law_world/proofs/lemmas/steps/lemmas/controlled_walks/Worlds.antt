-- A world's walk stands among the queue heads that it may reach, whatever event or command comes next.
use Rattle.std.proofs.Common.{◌≡◌, ℕ, Bool, Result, Ok, Err, refl}
use Rattle.usb_base.specs.declared.commands.Cmd.{Cmd}
use Rattle.usb_base.specs.declared.endpoints.EpName.{EpName}
use Rattle.usb_base.specs.declared.reports.OfferError.{OfferError}
use Rattle.drv_table.specs.DriverContent.{DriverContent}
use Rattle.drv_table.specs.Accepting.{Offered}
use Rattle.drv_table.specs.Offers.{offered}
use Rattle.claims_driver.specs.Walk.{IsReached, at_head, at_member, at_waiting, at_rung}
use Rattle.law_driver_ring.specs.walk_members.Reached.{OpensNumbered}
use Rattle.law_driver_ring.proofs.lemmas.walk_members.Walking.{opening_in}
use Rattle.law_driver_ring.proofs.lemmas.walk_members.Driving.{walk_mapped, the_driver_leaves_the_walk}
use Rattle.law_driver_ring.proofs.lemmas.walk_members.Offering.{commands_leave_the_walk}
use Rattle.law_driver_ring.proofs.lemmas.walk_members.Ringing.{bell_kept, the_driver_keeps_the_bell}
use Rattle.law_driver_ring.proofs.lemmas.walk_members.Descriptions.{numbered_endpoints_are_no_heads, commands_keep_the_numbers, events_keep_the_numbers}
use Rattle.bus_world.specs.Rooms.{room_of_script}
use Rattle.bus_world.specs.World.{World, controller_parts, driver_parts, controller_next, name_in, refused_line, commanded_by}
use Rattle.law_world.specs.steps.Streaming.{begins_by, transacts_by, wired}
use Rattle.law_world.proofs.lemmas.steps.StreamTurning.{world_has_row}
use Rattle.claims_world.specs.Memory.{IsWalking}
use Rattle.law_world.specs.steps.controlled_walks.Worlds.{NewWorldWalks, ControllerKeepsWalking, DriverKeepsWalking, CommandKeepsWalking}
use Rattle.law_world.proofs.lemmas.steps.lemmas.controlled_walks.Controlling.{control_walk, control_bell, opening_bell}
use Rattle.law_world.proofs.lemmas.steps.lemmas.controlled_walks.Offering.{command_keeps_bell}

pub new_world_walks : NewWorldWalks
new_world_walks s = record {
  numbered = λ e x here. absurd (cc);
  walk = opening_in s.words (room_of_script s);
  bell = opening_bell s.words (room_of_script s);
}

pub controller_keeps_walking : ControllerKeepsWalking
controller_keeps_walking fixed w place old =
    let new = controller_next fixed w in
    record {
      numbered = old.numbered;
      walk = control_walk begins_by transacts_by w.driver (controller_parts w) (wired fixed w) (controller_parts new) (wired fixed new) (world_has_row fixed w)
          place.sound.ring place.fixed (numbered_endpoints_are_no_heads w.driver old.numbered) old.walk;
      bell = control_bell begins_by transacts_by w.driver (controller_parts w) (wired fixed w) (controller_parts new) (wired fixed new) (world_has_row fixed w) old.bell;
    }

pub driver_keeps_walking : DriverKeepsWalking
driver_keeps_walking w old = record {
  numbered = events_keep_the_numbers (driver_parts w) old.numbered;
  walk = the_driver_leaves_the_walk (driver_parts w) w.control.walk old.bell old.walk;
  bell = the_driver_keeps_the_bell (driver_parts w) old.bell;
}

-- ---- a command

refused_reach : (d : DriverContent) (line : ℕ) (name : EpName) (why : OfferError) (rings : Bool) (b : ℕ) → IsReached d rings b → IsReached (refused_line d line name why) rings b
refused_reach d line name why rings b (at_head h) = at_head h
refused_reach d line name why rings b (at_member e at on) = at_member e at on
refused_reach d line name why rings b (at_waiting e at among) = at_waiting e at among
refused_reach d line name why rings b (at_rung e at among on) = at_rung e at among on

commanded_walks : (w : World) (line : ℕ) (cmd : Cmd) (r : Result Offered OfferError) → OpensNumbered cmd → IsWalking w → offered w.driver w.memory cmd ≡ r → IsWalking (commanded_by w line (name_in cmd) r)
commanded_walks w line cmd (Ok o) fits old is = record {
  numbered = commands_keep_the_numbers w.driver w.memory cmd o fits old.numbered is;
  walk = commands_leave_the_walk w.driver w.memory cmd o w.registers w.control.walk is old.walk;
  bell = command_keeps_bell w.driver w.memory cmd o w.registers is old.bell;
}
commanded_walks w line cmd (Err why) fits old is = record {
  numbered = old.numbered;
  walk = walk_mapped w.driver (refused_line w.driver line (name_in cmd) why) w.registers w.registers w.control.walk refl
      (refused_reach w.driver line (name_in cmd) why w.registers.doorbell) old.walk;
  bell = bell_kept w.driver (refused_line w.driver line (name_in cmd) why) w.registers (record { bell = refl; rung = refl }) old.bell;
}

pub command_keeps_walking : CommandKeepsWalking
command_keeps_walking w line cmd fits old = commanded_walks w line cmd (offered w.driver w.memory cmd) fits old refl
