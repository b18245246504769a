-- The queues of interrupt endpoints carry data alone at each moment of each script.
use Rattle.law_world.proofs.Common.{lines_can}
use Rattle.script_types.specs.declared.scripts.Script.{Script}
use Rattle.bus_wire.specs.Bus.{fixed_of}
use Rattle.law_world.specs.steps.receiving_runs.Runs.{IsKeptBy}
use Rattle.law_world.proofs.lemmas.steps.lemmas.receiving_runs.Runs.{holds_throughout}
use Rattle.bus_world.specs.World.{World}
use Rattle.law_world.specs.memory.Mixed.{IsMixedWorld}
use Rattle.law_world.specs.memory.Laws.{OpensMixed}
use Rattle.law_world.proofs.lemmas.memory.Opening.{new_world_is_mixed}
use Rattle.law_world.proofs.lemmas.memory.Controller.{controller_keeps_mixed}
use Rattle.law_world.proofs.lemmas.memory.Driving.{driver_keeps_mixed}
use Rattle.law_world.proofs.lemmas.memory.CommandKeeping.{command_keeps_mixed}
use Rattle.law_microframes.specs.time.DataQueues.{QueuesSendData, ScriptsSendData}
use Rattle.law_microframes.proofs.lemmas.time.DataControlled.{new_queues_send_data, controller_keeps_data}
use Rattle.law_microframes.proofs.lemmas.time.DataDriven.{driver_keeps_data}
use Rattle.law_microframes.proofs.lemmas.time.DataCommands.{command_keeps_data}

record IsMixedWithData (w : World) : Type 0 where
  mixed : IsMixedWorld w
  data_alone : QueuesSendData w.driver w.memory

is_kept : (s : Script) → IsKeptBy (fixed_of s) OpensMixed IsMixedWithData
is_kept s = record {
  driver = λ w k. record { mixed = driver_keeps_mixed w k.mixed; data_alone = driver_keeps_data w k.mixed k.data_alone };
  controller = λ w k. record { mixed = controller_keeps_mixed (fixed_of s) w k.mixed; data_alone = controller_keeps_data (fixed_of s) w k.mixed k.data_alone };
  command = λ w line cmd can room k. record { mixed = command_keeps_mixed w line cmd can room k.mixed; data_alone = command_keeps_data w line cmd can room k.mixed k.data_alone };
}

pub scripts_send_data : ScriptsSendData
scripts_send_data s fits bytes opens k =
    (holds_throughout OpensMixed IsMixedWithData s fits (lines_can s.lines opens) (record { mixed = new_world_is_mixed s fits bytes; data_alone = new_queues_send_data s }) (is_kept s) k).data_alone
