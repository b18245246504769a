-- At each moment of each script queue heads go onward.
use Rattle.std.proofs.Common.{◌≡◌, ℕ, zero, suc, ◌*◌, [], slice_get, Some, option_map, ap, refl}
use Rattle.law_common.proofs.Lists.{nothing_at}
use Rattle.law_world.proofs.Common.{lines_can}
use Rattle.script_types.specs.declared.scripts.Script.{Script}
use Rattle.bus_wire.specs.Bus.{Fixed, fixed_of}
use Rattle.drv_table.specs.DriverContent.{DriverContent}
use Rattle.drv_table.specs.Words.{head_block}
use Rattle.claims_driver.specs.Owners.{views_of, runs_of_endpoint, runs_of_transfer}
use Rattle.bus_world.specs.Opening.{opening_world}
use Rattle.bus_world.specs.World.{World, driver_next, controller_next}
use Rattle.law_driver.specs.queued_drivers.Queued.{queued}
use Rattle.law_driver_ring.specs.Inventory.{Sort, sort_of, OfQueueHead, OfElement, IsDriverOwned, the_list, the_head, a_queue, a_dummy, a_piece, a_buffer}
use Rattle.law_driver_ring.specs.fed_queues.Places.{HasHead}
use Rattle.law_world.specs.steps.receiving_runs.Runs.{IsKeptBy}
use Rattle.law_world.proofs.lemmas.steps.lemmas.receiving_runs.Runs.{holds_throughout}
use Rattle.law_world.specs.memory.Mixed.{Standing, IsMixedAt}
use Rattle.law_world.specs.memory.Opens.{OpensMixed}
use Rattle.law_world.specs.memory.Steps.{IsMixedControlled, IsMixedNext, standing_then}
use Rattle.law_world.proofs.lemmas.memory.CommandKeeping.{command_keeps_standing}
use Rattle.law_world.proofs.lemmas.memory.Controller.{controller_tells_event}
use Rattle.law_world.proofs.lemmas.memory.Driving.{driver_tells_step}
use Rattle.law_world.proofs.lemmas.memory.HarvestKept.{driven_of}
use Rattle.law_world.proofs.lemmas.memory.Opening.{new_world_is_mixed}
use Rattle.law_reports.specs.queues.OnwardLaws.{GoOnward, IsOnwardWorld, NewWorldGoesOnward, ScriptsGoOnward}
use Rattle.law_reports.proofs.lemmas.queues.Controlled.{controller_keeps_onward}
use Rattle.law_reports.proofs.lemmas.queues.Places.{head_of}
use Rattle.law_reports.proofs.lemmas.queues.Quiet.{command_keeps_onward}
use Rattle.law_reports.proofs.lemmas.queues.Steps.{driver_keeps_onward}

-- ---- before the first line

nothing_in : {X Y : Type 0} (f : X → Y) (i : ℕ) (z : Y) → option_map f (slice_get [] i) ≡ Some z → ⊥
nothing_in f zero z is = cc
nothing_in f (suc i) z is = cc

module _ (s : Script) (t : Standing) (mixed : IsMixedAt t (opening_world s)) where
  abbrev d : DriverContent
  d = queued (opening_world s).driver

  no_element : (n a : ℕ) (k : Sort) → k ≡ OfElement → IsDriverOwned (views_of d) n a k → ⊥
  no_element _ _ _ is the_list = absurd (cc)
  no_element _ _ _ is the_head = absurd (cc)
  no_element _ _ _ is (a_queue e x queue lent) = absurd (cc)
  no_element _ _ _ is (a_dummy e x queue lent) = nothing_in runs_of_endpoint e x queue.here
  no_element _ _ _ is (a_piece u b y x transfer piece lent) = nothing_in runs_of_transfer u y transfer.here
  no_element _ _ _ is (a_buffer u b c cs y x transfer piece first lent) = absurd (cc)

  one_head : (n a : ℕ) (k : Sort) → k ≡ OfQueueHead → IsDriverOwned (views_of d) n a k → n ≡ 32 * head_block
  one_head _ _ _ is the_list = absurd (cc)
  one_head _ _ _ is the_head = refl
  one_head _ _ _ is (a_queue e x queue lent) = absurd (nothing_in runs_of_endpoint e x queue.here)
  one_head _ _ _ is (a_dummy e x queue lent) = absurd (cc)
  one_head _ _ _ is (a_piece u b y x transfer piece lent) = absurd (cc)
  one_head _ _ _ is (a_buffer u b c cs y x transfer piece first lent) = absurd (cc)

  new_onward : GoOnward t (queued (opening_world s).driver)
  new_onward = record {
    links = λ n other. record {
      next = λ a u here on.
          absurd (no_element n a OfElement refl ((driven_of t (opening_world s) mixed).only n a OfElement (ap (option_map sort_of) here)));
      rest = λ q here off idle.
          absurd (other (one_head n n OfQueueHead refl
          ((driven_of t (opening_world s) mixed).only n n OfQueueHead (ap (option_map sort_of) here))));
    };
    stand = λ n q on other pipe here off.
        let h : HasHead (queued (opening_world s).driver) n = head_of t (opening_world s) mixed n on other in
        absurd (nothing_at h.number h.endpoint h.here);
  }

pub new_world_goes_onward : NewWorldGoesOnward
new_world_goes_onward s fit bytes =
    let k = new_world_is_mixed s fit bytes in
    record { standing = k.standing; mixed = k.mixed; onward = new_onward s k.standing k.mixed }

-- ---- each moment

driver_onward : (w : World) → IsOnwardWorld w → IsOnwardWorld (driver_next w)
driver_onward w k =
    let n : IsMixedNext k.standing w (driver_next w) = driver_tells_step k.standing w k.mixed in
    record {
      standing = n.standing;
      mixed = n.mixed;
      onward = driver_keeps_onward k.standing w n.standing k.mixed n.step n.mixed k.onward;
    }

controller_onward : (fixed : Fixed) (w : World) → IsOnwardWorld w → IsOnwardWorld (controller_next fixed w)
controller_onward fixed w k =
    let c : IsMixedControlled fixed k.standing w = controller_tells_event fixed k.standing w k.mixed in
    record {
      standing = standing_then k.standing w c.event;
      mixed = c.mixed;
      onward = controller_keeps_onward fixed k.standing w k.mixed c.event k.onward;
    }

is_kept : (s : Script) → IsKeptBy (fixed_of s) OpensMixed IsOnwardWorld
is_kept s = record {
  driver = λ w k. driver_onward w k;
  controller = λ w k. controller_onward (fixed_of s) w k;
  command = λ w line cmd can room k. record {
    standing = k.standing;
    mixed = command_keeps_standing k.standing w line cmd can room k.mixed;
    onward = command_keeps_onward k.standing w line cmd k.onward;
  };
}

pub scripts_go_onward : ScriptsGoOnward
scripts_go_onward s fit bytes opens k =
    holds_throughout OpensMixed IsOnwardWorld s fit (lines_can s.lines opens) (new_world_goes_onward s fit bytes) (is_kept s) k
