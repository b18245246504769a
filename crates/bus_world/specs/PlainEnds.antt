-- What the run of a script that clears no halt is beside that of any script: its driver is at no job, so that it is a run as Orders has it.
--     RunsPlain s              at each moment of the run of a script that clears no halt the world is that of a driver without jobs
--     IsPlainEnd s w           a world without a job, after all of the run of a script by a driver without jobs
--     IsRunCarriedOut s w      a world after the run of a script; where it clears no halt, every line was carried out
use Rattle.std.specs.Prelude.{◌≡◌, ℕ}
use Rattle.script_types.specs.declared.scripts.Script.{Script}
use Rattle.bus_world.specs.Runs.{IsWholeRunOf}
use Rattle.bus_world.specs.Budgets.{moment}
use Rattle.bus_world.specs.Plain.{IsPlain}
use Rattle.bus_world.specs.AtWork.{StandingAtWork, jobless}
use Rattle.bus_world.specs.RunsAtWork.{moment_at_work, jobless_place, IsRunOfAtWork}

abbrev pub RunsPlain : Script → Type 0
RunsPlain s = IsPlain s → (k : ℕ) → moment_at_work s k ≡ jobless_place (moment s k)

pub record IsPlainEnd (s : Script) (w : StandingAtWork) : Type 0 where
  pub work : w.work ≡ jobless w.work.world
  pub ran : IsWholeRunOf s (record { fixed = w.fixed; world = w.work.world })

pub record IsRunCarriedOut (s : Script) (w : StandingAtWork) : Type 0 where
  pub ran : IsRunOfAtWork s w
  pub plain : IsPlain s → IsPlainEnd s w
