-- The harvest of a get of an interrupt endpoint, computed.
use Rattle.std.proofs.Common.{◌≡◌, ℕ, List, [], ◌∷◌, Some, ap, refl, sym, ◌∙◌}
use Rattle.std.proofs.lemmas.Bool.{false≢true}
use Rattle.qh_qtd.specs.Token.{token_at}
use Rattle.drv_table.specs.declared.rows.DriverRow.{DriverRow}
use Rattle.drv_table.specs.declared.rows.DriverRow.TheVariants as rows
use Rattle.drv_table.specs.declared.rows.Found.TheVariants as founds
use Rattle.law_driver.specs.run_owners.Due.{IsHarvestDue}
use Rattle.law_driver.specs.chained_transfers.Out.{out_now}
use Rattle.law_driver.specs.queued_drivers.Queued.{with_queue, queued}
use Rattle.law_driver.specs.queued_drivers.CommandsWorked.{second}
use Rattle.law_queues.specs.fed_harvests.Harvests.{Harvested}
use Rattle.bus_world.specs.World.{driver_next}
use Rattle.law_world.specs.memory.Mixed.{Standing}
use Rattle.law_world.specs.memory.Steps.{told_parts, harvested_by, IsToldRow, AreStill, passes, QueueStep, harvests}
use Rattle.law_world.specs.memory.StepSamples.{key_get, key_world, key_found, with_nothing}

pub key_row : IsToldRow key_world (driver_next key_world) (rows.Harvest 1 3 key_found)
unfolding token_at
key_row = record { next = refl; told = refl }

key_due : IsHarvestDue (told_parts key_world) 1 3 key_found
unfolding token_at
key_due = record {
  idle = refl;
  endpoint = with_queue (record second { next = Some 3 });
  transfer = key_get;
  here = refl;
  goes_on = refl;
  next = refl;
  there = refl;
  waits = refl;
  tells = refl;
}

key_harvested : Harvested (told_parts key_world).driver (harvested_by (told_parts key_world) 1 3 key_found) 1 3 key_get
key_harvested = record { before = []; behind = []; was = refl; now = refl; passed = λ p among. absurd among }

pub key_before : out_now (queued key_world.driver) 1 ≡ 4736 ∷ []
key_before = refl

pub key_after : out_now (queued (driver_next key_world).driver) 1 ≡ []
unfolding token_at
key_after = refl

pub key_beside : out_now (queued (driver_next key_world).driver) 0 ≡ 4224 ∷ []
unfolding token_at
key_beside = refl

pub key_step : (s : Standing) → QueueStep s key_world (driver_next key_world) (with_nothing s)
unfolding key_due key_harvested
key_step s = harvests 1 3 key_found key_due (with_nothing s).out key_row (passes (λ same. cc) (λ stall. false≢true stall.0) key_harvested)

pub key_moves : (s : Standing) → s.out 4352 ≡ 4736 ∷ [] → AreStill s (with_nothing s) → ⊥
key_moves s was still = never (ap (λ (out : ℕ → List ℕ). out 4352) still.out ∙ was)
  where
    never : ◌≡◌ {A = List ℕ} [] (4736 ∷ []) → ⊥
    never same = cc

pub key_no_other : IsToldRow key_world (driver_next key_world) (rows.Harvest 0 0 founds.Active) → ⊥
key_no_other told = never (sym key_row.next ∙ told.next)
  where
    never : ◌≡◌ {A = DriverRow} (rows.Harvest 1 3 key_found) (rows.Harvest 0 0 founds.Active) → ⊥
    never same = cc
