-- Each queue head that was visited is that of an endpoint whose placement is active in the frame, at each moment of the run of each script.
use Rattle.std.proofs.Common.{ℕ, List, [], ◌∷◌}
use Rattle.std.specs.List.{AllByRecursion}
use Rattle.bandwidth.specs.Sums.{is_active}
use Rattle.drv_chains.specs.declared.members.Member.{Member}
use Rattle.drv_table.specs.DriverContent.{DriverContent}
use Rattle.law_frames.specs.Met.{Kind}
use Rattle.bus_world.specs.World.{World}
use Rattle.bus_world.specs.Budgets.{moment}
use Rattle.std.specs.Prelude.{◌≡◌, true, Option}
use Rattle.law_microframes.specs.visits.Belonging.{IsQueueAt}
use Rattle.law_microframes.specs.visits.Began.{began}
use Rattle.claims_world.specs.Visits.{frame_in, visited}
use Rattle.law_microframes.specs.visits.Visited.{WasVisited, IsActiveAs, IsVisiting}
use Rattle.law_microframes.specs.visits.InFrames.{AreInTheirFrames, ScriptsStayInFrames, ScriptsGoThroughFrames}
use Rattle.law_microframes.proofs.lemmas.visits.VisitsKept.{scripts_visit}

all_active : (d : DriverContent) (left : ℕ → Option Kind) (who : ℕ → Member) (frame : ℕ) (vs : List ℕ) → AllByRecursion (WasVisited d left who frame) vs → AllByRecursion (λ v. IsActiveAs d v (who v)) vs
    → AllByRecursion (λ v. (b : IsQueueAt d v) → is_active b.belongs.placement frame ≡ true) vs
all_active d left who frame [] were active = tt
all_active d left who frame (v ∷ vs) were active = (λ b. active.0 b frame were.0.stands, all_active d left who frame vs were.1 active.1)

pub in_their_frames : (start w : World) (vs : List ℕ) → IsVisiting start w vs → AreInTheirFrames w vs
in_their_frames start w vs h =
    let g = h.visits in
    all_active w.driver g.left g.who (frame_in w.control.frame.index) vs g.behind.were g.were_active

pub scripts_stay_in_frames : ScriptsStayInFrames
scripts_stay_in_frames s fit bytes opens k =
    in_their_frames (began s k) (moment s k).world (visited s k) (scripts_visit s fit bytes opens k)

pub scripts_go_through_frames : ScriptsGoThroughFrames
scripts_go_through_frames s fit bytes opens =
    record { visiting = scripts_visit s fit bytes opens; in_frames = scripts_stay_in_frames s fit bytes opens }
