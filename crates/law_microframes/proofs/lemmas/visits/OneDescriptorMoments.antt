-- At each moment of a script's run, whatever endpoints it opens, of an endpoint and a frame at most one descriptor is active.
use Rattle.law_world.proofs.Common.{lines_can}
use Rattle.script_types.specs.declared.scripts.Script.{Script}
use Rattle.bus_wire.specs.Bus.{fixed_of}
use Rattle.law_world.specs.steps.receiving_runs.Runs.{IsKeptBy}
use Rattle.law_world.proofs.lemmas.steps.lemmas.receiving_runs.Runs.{holds_throughout}
use Rattle.law_world.specs.memory.Laws.{OpensMixed}
use Rattle.law_world.proofs.lemmas.memory.Opening.{new_world_is_mixed}
use Rattle.law_world.proofs.lemmas.memory.Controller.{controller_keeps_mixed}
use Rattle.law_world.proofs.lemmas.memory.Driving.{driver_keeps_mixed}
use Rattle.law_world.proofs.lemmas.memory.CommandKeeping.{command_keeps_mixed}
use Rattle.law_microframes.specs.visits.OneDescriptor.{IsMixedOnce, EachMomentHasOneActive}
use Rattle.law_microframes.proofs.lemmas.visits.OneDescriptorMet.{controller_keeps_one_active}
use Rattle.law_microframes.proofs.lemmas.visits.OneDescriptorWorlds.{new_has_one_active, driver_keeps_one_active}
use Rattle.law_microframes.proofs.lemmas.visits.OneDescriptorOffered.{command_keeps_one_active}

is_kept : (s : Script) → IsKeptBy (fixed_of s) OpensMixed IsMixedOnce
is_kept s = record {
  driver = λ w k. record { mixed = driver_keeps_mixed w k.mixed; one = driver_keeps_one_active w k.mixed k.one };
  controller = λ w k. record { mixed = controller_keeps_mixed (fixed_of s) w k.mixed; one = controller_keeps_one_active (fixed_of s) w k.mixed k.one };
  command = λ w line cmd can room k. record { mixed = command_keeps_mixed w line cmd can room k.mixed; one = command_keeps_one_active w line cmd can room k.mixed k.one };
}

pub each_moment_has_one_active : EachMomentHasOneActive
each_moment_has_one_active s fit bytes opens k =
    holds_throughout OpensMixed IsMixedOnce s fit (lines_can s.lines opens) (record { mixed = new_world_is_mixed s fit bytes; one = new_has_one_active s fit bytes }) (is_kept s) k
