-- The fields of iTDs stand in memory at each moment of each script.
use Rattle.law_world.proofs.Common.{lines_can}
use Rattle.script_types.specs.declared.scripts.Script.{Script}
use Rattle.bus_wire.specs.Bus.{fixed_of}
use Rattle.law_world.specs.steps.receiving_runs.Runs.{IsKeptBy}
use Rattle.law_world.proofs.lemmas.steps.lemmas.receiving_runs.Runs.{holds_throughout}
use Rattle.bus_world.specs.World.{World}
use Rattle.law_world.specs.memory.Mixed.{IsMixedWorld}
use Rattle.law_world.specs.memory.Laws.{OpensMixed}
use Rattle.law_world.proofs.lemmas.memory.Opening.{new_world_is_mixed}
use Rattle.law_world.proofs.lemmas.memory.Controller.{controller_keeps_mixed}
use Rattle.law_world.proofs.lemmas.memory.Driving.{driver_keeps_mixed}
use Rattle.law_world.proofs.lemmas.memory.CommandKeeping.{command_keeps_mixed}
use Rattle.law_microframes.specs.visits.DescriptorFields.{ItdsStand, ScriptsKeepItds}
use Rattle.law_microframes.proofs.lemmas.visits.BelongItds.{new_itds_stand, controller_keeps_itds}
use Rattle.law_microframes.proofs.lemmas.visits.BelongServed.{driver_keeps_itds}
use Rattle.law_microframes.proofs.lemmas.visits.BelongItdAll.{command_keeps_itds}

record IsMixedWithItds (w : World) : Type 0 where
  mixed : IsMixedWorld w
  itds : ItdsStand w.driver w.memory

is_kept : (s : Script) → IsKeptBy (fixed_of s) OpensMixed IsMixedWithItds
is_kept s = record {
  driver = λ w k. record { mixed = driver_keeps_mixed w k.mixed; itds = driver_keeps_itds w k.mixed k.itds };
  controller = λ w k. record { mixed = controller_keeps_mixed (fixed_of s) w k.mixed; itds = controller_keeps_itds (fixed_of s) w k.mixed k.itds };
  command = λ w line cmd can room k. record { mixed = command_keeps_mixed w line cmd can room k.mixed; itds = command_keeps_itds w line cmd k.mixed k.itds };
}

pub scripts_keep_itds : ScriptsKeepItds
scripts_keep_itds s fits bytes opens k =
    (holds_throughout OpensMixed IsMixedWithItds s fits (lines_can s.lines opens) (record { mixed = new_world_is_mixed s fits bytes; itds = new_itds_stand s }) (is_kept s) k).itds
