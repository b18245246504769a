-- Each moment of the run of a script, whatever endpoints it opens.
use Rattle.law_world.proofs.Common.{lines_can}
use Rattle.script_types.specs.declared.scripts.Script.{Script}
use Rattle.bus_wire.specs.Bus.{fixed_of}
use Rattle.law_world.specs.steps.receiving_runs.Runs.{IsKeptBy}
use Rattle.law_world.proofs.lemmas.steps.lemmas.receiving_runs.Runs.{holds_throughout}
use Rattle.law_world.specs.memory.Mixed.{IsMixedWorld}
use Rattle.law_world.specs.memory.Laws.{OpensMixed, NewWorldIsMixed, ControllerKeepsMixed, DriverKeepsMixed, CommandKeepsMixed}
use Rattle.law_world.specs.memory.PlacedLaws.{ScriptsStayMixed}

-- all that is to be shown of the world's events
pub record StaysMixed : Type 0 where
  pub opening : NewWorldIsMixed
  pub controller : ControllerKeepsMixed
  pub driver : DriverKeepsMixed
  pub command : CommandKeepsMixed

is_kept : StaysMixed → (s : Script) → IsKeptBy (fixed_of s) OpensMixed IsMixedWorld
is_kept stays s = record {
  driver = λ w k. stays.driver w k;
  controller = λ w k. stays.controller (fixed_of s) w k;
  command = λ w line cmd can room k. stays.command w line cmd can room k;
}

pub stay_mixed : StaysMixed → ScriptsStayMixed
stay_mixed stays s fits bytes opens k = holds_throughout OpensMixed IsMixedWorld s fits (lines_can s.lines opens) (stays.opening s fits bytes) (is_kept stays s) k
