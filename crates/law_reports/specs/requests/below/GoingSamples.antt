-- The queue of a control endpoint below a hub at rest, as memory shows it, worked (EHCI 1.0, 3.6 and 4.10; USB 2.0, 8.5.3 and 11.17).
--     Shown, Head       memory shows it so, and its queue head is below the hub
--     WorkingBreaks     not with a queue head that works
--     Unsent            what its device acts on where nothing is asked of its hub: in the microframe that begins nothing
use Rattle.std.specs.Prelude.{[], true}
use Rattle.qh_qtd.specs.declared.queue_head.Qh.{Qh}
use Rattle.law_ring.specs.Hand.{Empty}
use Rattle.law_below_hubs.specs.RequestMoves.{DeviceMoves}
use Rattle.law_below_hubs.specs.RequestViews.{IsHeadBelow}
use Rattle.law_below_hubs.specs.WorkedControl.{own}
use Rattle.law_below_hubs.specs.WorkedMoves.{idle_queue, rest_with, first_begun}
use Rattle.law_below_hubs.specs.WorkedRequests.{queue, first}
use Rattle.law_reports.specs.requests.below.Going.{IsShownBelow}
use Rattle.law_reports.specs.requests.below.MovedSamples.{resting}

abbrev pub working : Qh
working = record idle_queue { token = record queue.token { active = true } }

abbrev pub Shown : Type 0
Shown = IsShownBelow Empty (rest_with idle_queue) 32 resting

abbrev pub Head : Type 0
Head = IsHeadBelow 0 0 first (rest_with idle_queue) 32

abbrev pub WorkingBreaks : Type 0
WorkingBreaks = IsShownBelow Empty (rest_with working) 32 resting → ⊥

abbrev pub Unsent : Type 0
Unsent = DeviceMoves own first first_begun []
