-- The transfer that is given back, in a world whose endpoints are bulk and control ones.
use Rattle.std.proofs.Common.{◌≡◌, ℕ, ◌≤◌, Bool, true, false, slice_get, Option, Some, None, refl, subst, arith}
use Rattle.law_common.proofs.Lists.{there_at}
use Rattle.law_common.proofs.Booleans.{owed_by}
use Rattle.law_driver.proofs.Common.{times_of}
use Rattle.bus_wire.specs.Bus.{Fixed}
use Rattle.drv_table.specs.declared.content.Endpoint.{Endpoint}
use Rattle.drv_table.specs.declared.content.Transfer.{Transfer}
use Rattle.drv_table.specs.declared.rows.DriverRow.TheVariants as rows
use Rattle.drv_table.specs.Rows.{driver_row}
use Rattle.law_driver.specs.run_owners.Due.{IsDue, IsTransferDue}
use Rattle.claims_driver.specs.Leaving.{owes}
use Rattle.law_driver.proofs.lemmas.run_owners.Reasons.{each_event_is_due}
use Rattle.claims_base.specs.Controller.{opening_base}
use Rattle.law_driver.specs.endpoint_lives.Lives.{may_meet}
use Rattle.law_queues.specs.released_queues.Released.{IsReturning, ReleaseStands}
use Rattle.bus_world.specs.World.{World, driver_parts}
use Rattle.law_world.specs.steps.Streaming.{Streams, Standing}
use Rattle.law_world.specs.streams.Whole.{IsWhole}
use Rattle.law_world.proofs.lemmas.streams.Heads.{rising_there}

-- ---- what is owed

pub record IsOwed (o : Option Transfer) : Type 0 where
  pub transfer : Transfer
  pub here : o ≡ Some transfer
  pub reported : transfer.reported ≡ true
  pub held : transfer.released ≡ false

owed_one : (o : Option Transfer) → 1 ≤ owes o → IsOwed o
owed_one None some = absurd (omega (arith, some))
owed_one (Some y) some = let both = owed_by y.reported y.released some in record { transfer = y; here = refl; reported = both.0; held = both.1 }

-- ---- in a world

module _ (fixed : Fixed) (takes : ℕ → ℕ → Bool) (member : ℕ → Bool) (x : Streams) (s : Standing) (w : World) (t : ℕ) (row : driver_row (driver_parts w) ≡ rows.ReleaseTransfer t) (k : IsWhole fixed takes member x s w) where
  pub due : IsTransferDue (driver_parts w) t
  due = subst (IsDue (driver_parts w)) row (each_event_is_due (driver_parts w))

  pub owed : IsOwed (slice_get w.driver.transfers t)
  owed =
      let some = times_of w.driver.harvested 0 t due.first in
      let most = k.feeding.working.place.sound.owners.orderly.harvests t in
      owed_one (slice_get w.driver.transfers t) (omega (arith, some, most))

  abbrev pub transfer : Transfer
  transfer = owed.transfer

  pub its_endpoint : (z : Endpoint) × (slice_get w.driver.endpoints owed.transfer.endpoint ≡ Some z)
  its_endpoint = there_at w.driver.endpoints owed.transfer.endpoint (k.feeding.working.place.sound.owners.orderly.within t owed.transfer owed.here)

  abbrev pub endpoint : Endpoint
  endpoint = its_endpoint.0

  -- a walk may meet it still
  near : may_meet w.driver owed.transfer.endpoint endpoint ≡ true
  near = k.left.owed 0 t owed.transfer endpoint due.first owed.here its_endpoint.1

  pub returning : IsReturning w.driver t transfer endpoint
  returning = record { free = due.idle; first = due.first; here = owed.here; held = owed.held; reported = owed.reported; endpoint = its_endpoint.1; near = near }

  pub stand : ReleaseStands opening_base member s.parts s.hand w.control.walk (driver_parts w) s.order s.out
  stand =
      let f = k.feeding in
      record {
        drives = record { ring = f.working.streaming.controlled.ring; driven = f.working.driven };
        owners = f.working.place.sound.owners;
        stands = f.working.place.sound.stands;
        in_runs = k.runs;
        asynchronous = f.turns.asynchronous;
        chained = f.turns.chained;
        turns = f.turns.turns;
        fed = f.queues.fed;
        last = f.queues.last;
        still_out = f.queues.out_are;
        fronts = λ e z here meets. (k.tails e z here meets).stands;
        rise = rising_there fixed member x s w f;
        met = f.queues.met.each;
      }
