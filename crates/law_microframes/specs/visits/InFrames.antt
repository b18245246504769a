-- The frames in which the queue heads of interrupt endpoints are visited (EHCI 1.0, 3.6, 4.6 and 4.12), in each script.
--     AreInTheirFrames w vs    the queue heads that were visited are of endpoints whose placements are active in the frame
--     GoesThroughFrames s      at each moment the visits go on, and are in their frames
--     ScriptsStayInFrames      the law: at each moment each queue head that was visited in the microframe is that of an endpoint whose placement is active in its frame
--     ScriptsGoThroughFrames   so the visits go on through their frames
use Rattle.std.specs.Prelude.{◌≡◌, ℕ, true, List}
use Rattle.std.specs.List.{AllByRecursion}
use Rattle.script_types.specs.declared.scripts.Script.{Script}
use Rattle.script_fits.specs.Fits.{IsFit}
use Rattle.law_scripts.specs.byte_answers.Bytes.{IsByteScript}
use Rattle.bandwidth.specs.Sums.{is_active}
use Rattle.bus_world.specs.World.{World}
use Rattle.bus_world.specs.Budgets.{moment}
use Rattle.law_world.specs.memory.PlacedLaws.{FitsMixed}
use Rattle.law_microframes.specs.visits.Belonging.{IsQueueAt}
use Rattle.law_microframes.specs.visits.Began.{began}
use Rattle.claims_world.specs.Visits.{frame_in, visited}
use Rattle.law_microframes.specs.visits.Visited.{IsVisiting}

abbrev pub AreInTheirFrames : World → List ℕ → Type 0
AreInTheirFrames w vs = AllByRecursion (λ v. (b : IsQueueAt w.driver v) → is_active b.belongs.placement (frame_in w.control.frame.index) ≡ true) vs

pub record GoesThroughFrames (s : Script) : Type 0 where
  pub visiting : (k : ℕ) → IsVisiting (began s k) (moment s k).world (visited s k)
  pub in_frames : (k : ℕ) → AreInTheirFrames (moment s k).world (visited s k)

abbrev pub ScriptsStayInFrames : Type 0
ScriptsStayInFrames = (s : Script) → IsFit s → IsByteScript s → FitsMixed s → (k : ℕ) → AreInTheirFrames (moment s k).world (visited s k)

abbrev pub ScriptsGoThroughFrames : Type 0
ScriptsGoThroughFrames = (s : Script) → IsFit s → IsByteScript s → FitsMixed s → GoesThroughFrames s
