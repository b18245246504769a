-- The fields of the queue heads of interrupt endpoints stand in memory at each moment of each script.
use Rattle.law_world.proofs.Common.{lines_can}
use Rattle.script_types.specs.declared.scripts.Script.{Script}
use Rattle.bus_wire.specs.Bus.{fixed_of}
use Rattle.law_world.specs.steps.receiving_runs.Runs.{IsKeptBy}
use Rattle.law_world.proofs.lemmas.steps.lemmas.receiving_runs.Runs.{holds_throughout}
use Rattle.bus_world.specs.World.{World}
use Rattle.law_world.specs.memory.Mixed.{IsMixedWorld}
use Rattle.law_world.specs.memory.Laws.{OpensMixed}
use Rattle.law_world.proofs.lemmas.memory.Opening.{new_world_is_mixed}
use Rattle.law_world.proofs.lemmas.memory.Controller.{controller_keeps_mixed}
use Rattle.law_world.proofs.lemmas.memory.Driving.{driver_keeps_mixed}
use Rattle.law_world.proofs.lemmas.memory.CommandKeeping.{command_keeps_mixed}
use Rattle.law_microframes.specs.visits.Belonging.{HeadsHaveFields, ScriptsKeepFields}
use Rattle.law_microframes.proofs.lemmas.visits.BelongFields.{new_heads_have_fields, controller_keeps_fields, driver_keeps_fields}
use Rattle.law_microframes.proofs.lemmas.visits.BelongCommands.{command_keeps_fields}

record IsMixedWithFields (w : World) : Type 0 where
  mixed : IsMixedWorld w
  fields : HeadsHaveFields w.driver w.memory

is_kept : (s : Script) → IsKeptBy (fixed_of s) OpensMixed IsMixedWithFields
is_kept s = record {
  driver = λ w k. record { mixed = driver_keeps_mixed w k.mixed; fields = driver_keeps_fields w k.mixed k.fields };
  controller = λ w k. record { mixed = controller_keeps_mixed (fixed_of s) w k.mixed; fields = controller_keeps_fields (fixed_of s) w k.mixed k.fields };
  command = λ w line cmd can room k. record { mixed = command_keeps_mixed w line cmd can room k.mixed; fields = command_keeps_fields w line cmd can room k.mixed k.fields };
}

pub scripts_keep_fields : ScriptsKeepFields
scripts_keep_fields s fits bytes opens k =
    (holds_throughout OpensMixed IsMixedWithFields s fits (lines_can s.lines opens) (record { mixed = new_world_is_mixed s fits bytes; fields = new_heads_have_fields s }) (is_kept s) k).fields
