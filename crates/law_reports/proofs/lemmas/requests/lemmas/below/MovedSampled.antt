-- The first request of a control endpoint below a hub is published, worked.
use Rattle.std.proofs.Common.{◌≡◌, false, refl, arith}
use Rattle.std.proofs.lemmas.Bool.{false≢true}
use Rattle.claims_world.specs.Requests.{no_windows}
use Rattle.law_below_hubs.proofs.WorkedRequests.{hub_rests_first}
use Rattle.law_below_hubs.specs.WorkedControl.{reading, unset}
use Rattle.law_below_hubs.specs.WorkedRequests.{first}
use Rattle.law_below_hubs.specs.WorkedWindows.{sent}
use Rattle.law_reports.specs.requests.CourseMoves.CourseMoves.{is_first}
use Rattle.law_reports.specs.requests.below.Moved.HubIsLeft.{by_none}
use Rattle.law_reports.specs.requests.below.MovedSamples.{empty, resting, asking, numbers, Before, Moves, MovedSo, After, ActedBreaks}
use Rattle.law_reports.proofs.lemmas.requests.lemmas.below.Moved.{moves_keep_course_below}

pub before : Before
before = record { max = refl; hub = by_none unset hub_rests_first; behind = λ j few. refl }

pub moves : Moves
moves = is_first empty 64 160 unset false reading sent.places refl refl refl refl

pub moved_so : MovedSo
moved_so = record {
  stays_ended = λ on. on;
  none = λ on. absurd (false≢true on);
  ahead = omega arith;
  within = omega arith;
  new = λ more. refl;
  request = λ q m l is. cc;
  opens = λ q m s is then. cc;
}

pub after : After
after = moves_keep_course_below false false 0 0 first no_windows resting numbers asking numbers moves moved_so before

pub acted_breaks : ActedBreaks
acted_breaks k = let none : _ ≡ _ = k.behind 0 (omega arith) in cc
