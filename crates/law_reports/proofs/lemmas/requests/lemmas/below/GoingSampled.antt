-- The queue of a control endpoint below a hub at rest, worked.
use Rattle.std.proofs.Common.{◌≡◌, ap, refl, sym, ◌∙◌, arith}
use Rattle.std.proofs.lemmas.Bool.{false≢true}
use Rattle.qh_qtd.specs.declared.queue_head.Qh.{Qh}
use Rattle.law_structures.proofs.lemmas.lent_structures.Altering.{found_queue}
use Rattle.law_ring.specs.Hand.{Empty}
use Rattle.law_below_hubs.specs.HostRequests.DeviceWorks.{rests}
use Rattle.law_below_hubs.proofs.RequestViews.{rest_is_at_rest}
use Rattle.law_below_hubs.proofs.WorkedMoves.{is_at_rest}
use Rattle.law_below_hubs.specs.WorkedControl.{own, unset}
use Rattle.law_below_hubs.specs.WorkedMoves.{idle_queue, rest_with}
use Rattle.law_below_hubs.specs.WorkedRequests.{first}
use Rattle.law_reports.specs.requests.below.GoingSamples.{working, Shown, Head, WorkingBreaks, Unsent}

pub shown : Shown
shown = record {
  line = record {
    requests = λ j few. absurd (omega (arith, few));
    whole = omega arith;
    places = λ j few. absurd (omega (arith, few));
    others = λ j k few less differs. absurd (omega (arith, few));
    chained = λ j few. absurd (omega (arith, few));
    last = λ j is. absurd (omega (arith, is));
  };
  rest = (rest_is_at_rest own 0 0 64 32 first unset Empty (rest_with idle_queue) is_at_rest.before).0;
  wait = λ some. absurd (omega (arith, some));
  behind = λ j few. absurd (omega (arith, few));
}

pub head : Head
head = (rest_is_at_rest own 0 0 64 32 first unset Empty (rest_with idle_queue) is_at_rest.before).1

pub working_breaks : WorkingBreaks
working_breaks k =
    let same : k.rest.queue ≡ working = found_queue (rest_with working 32 32) k.rest.queue working k.rest.head refl in
    false≢true (sym k.rest.idle ∙ ap (λ (q : Qh). q.token.active) same)

pub unsent : Unsent
unsent = record { before = unset; leaves = unset; was = is_at_rest.before.rests.device; is = is_at_rest.after.rests.device; works = rests }
