-- The next world is mixed, where its memory and its queues are so for some standing, to which its queues come by a step, and what its unfinished command has still to lend stands:
-- each event of the driver keeps the rest.
use Rattle.claims_driver.specs.Leaving.{HasOwners}
use Rattle.claims_base.specs.Controller.{opening_base}
use Rattle.law_driver_ring.specs.fed_queues.Places.{AreMet}
use Rattle.law_driver.specs.queued_drivers.Queued.{queued}
use Rattle.law_driver.proofs.lemmas.queued_drivers.RowTurns.{rows_keep_queues}
use Rattle.law_world.specs.memory.framed_memory.Now.{IsFramedNow}
use Rattle.law_world.proofs.lemmas.memory.lemmas.framed_memory.Awaiting.{events_keep_awaiting}
use Rattle.law_world.proofs.lemmas.memory.lemmas.framed_memory.Masking.{events_keep_masks}
use Rattle.law_world.proofs.lemmas.memory.lemmas.framed_memory.Numbering.{events_keep_numbered}
use Rattle.law_world.proofs.lemmas.steps.lemmas.controlled_walks.Worlds.{driver_keeps_walking}
use Rattle.drv_table.specs.Parts.{Parts}
use Rattle.bus_world.specs.World.{World, driver_parts, controller_parts, driver_next}
use Rattle.law_world.specs.memory.Mixed.{QueuesGoOn, IsUnderWay, Standing, IsMixedAt}
use Rattle.law_world.specs.memory.Steps.{QueueStep, IsMixedNext}
use Rattle.law_world.proofs.lemmas.memory.HarvestOwed.{row_owes}

module _ (s : Standing) (w : World) (k : IsMixedAt s w) where
  abbrev p : Parts
  p = driver_parts w

  owners : HasOwners w.driver
  owners = k.now.framed.place.sound.owners

  pub mixed_next : (new : Standing) → QueueStep s w (driver_next w) new → IsFramedNow opening_base new.member new.recent new.descs new.parts new.hand new.frame (controller_parts (driver_next w)) (driver_next w).driver
      → AreMet (driver_next w).driver new.member → QueuesGoOn (queued (driver_next w).driver) new.near new.streams new.ends new.parts new.order new.out
      → IsUnderWay (driver_next w).driver (driver_next w).memory new.member new.recent new.parts (driver_next w).driver.command → IsMixedNext s w (driver_next w)
  mixed_next new step now ring queues under = record {
    standing = new;
    step = step;
    mixed = record {
      now = now;
      turns = rows_keep_queues p owners k.turns;
      ring = ring;
      queues = queues;
      under_way = under;
      walking = driver_keeps_walking w k.walking;
      numbers = events_keep_numbered p k.numbers;
      masks = events_keep_masks p k.masks;
      awaiting = events_keep_awaiting p k.awaiting;
      owed = row_owes p owners k.turns k.owed;
      bytes = k.bytes;
    };
  }
