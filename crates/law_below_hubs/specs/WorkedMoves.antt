-- The read of `WorkedWindows` in the microframe after the hub's lost ACK, and its endpoint before it.
--     MovesOn          it goes on
--     IsAtRest         before it nothing is asked, and its queue head leads to the inactive qTD; so it is in the microframe after
--     WorkingBreaks    not with a queue head that works
--     Opens            once its SETUP is stored at the end of that queue its window opens
--     AskedAlike       memory shows the read as that of any queue head; `NotHigh`: it isn't one of high speed
use Rattle.std.specs.Prelude.{◌==◌, true, false, []}
use Rattle.qh_qtd.specs.declared.queue_head.Qh.{Qh}
use Rattle.qh_qtd.specs.Blank.{blank_qtd}
use Rattle.bus_wire.specs.Bus.{Wired}
use Rattle.bus_wire.specs.Samples.{Begins, stepped}
use Rattle.law_structures.specs.lent_structures.Structures.{QueueHead, Element, StructureSets, put}
use Rattle.law_ring.specs.Hand.{Empty}
use Rattle.law_devices.specs.ring_requests.Resting.{IsFirstStore}
use Rattle.law_devices.specs.ring_requests.Samples.{leads_to, nothing, setup as setup_qtd}
use Rattle.law_devices.specs.ring_requests.Windows.{lines_at, IsQueue, AreHigh}
use Rattle.law_below_hubs.specs.RequestMoves.{QueueMoves, IsRestBelow}
use Rattle.law_below_hubs.specs.RequestQueues.{IsQueueBelow}
use Rattle.law_below_hubs.specs.RequestViews.{heard}
use Rattle.law_below_hubs.specs.WorkedControl.{own, unset}
use Rattle.law_below_hubs.specs.WorkedRequests.{queue, first, answer_lost, begun, erred}
use Rattle.law_below_hubs.specs.WorkedWindows.{erred_queue, parts_with, one_request, at_line}

abbrev pub MovesOn : Type 0
MovesOn = QueueMoves one_request 0 0 answer_lost begun (at_line 0) [] Empty (parts_with erred_queue) 32

-- ---- before it

abbrev pub idle_queue : Qh
idle_queue = record queue { next = leads_to 64; token = record queue.token { active = false } }

abbrev pub rest_with : Qh → StructureSets
rest_with q = put (put nothing 32 32 (QueueHead q)) 32 64 (Element blank_qtd)

abbrev pub first_begun : Wired
first_begun = stepped first (Begins 1)

pub record IsAtRest : Type 0 where
  pub before : IsRestBelow own 0 0 first unset 64 Empty (rest_with idle_queue) 32
  pub after : IsRestBelow own 0 0 first_begun unset 64 Empty (rest_with idle_queue) 32

abbrev pub WorkingBreaks : Type 0
WorkingBreaks =
    IsRestBelow own 0 0 first unset 64 Empty (rest_with (record idle_queue { token = record queue.token { active = true } })) 32 → ⊥

-- ---- its window opens

-- with its other qTDs and their buffers
abbrev pub laid : StructureSets
laid = put (parts_with idle_queue) 32 64 (Element blank_qtd)

abbrev pub stored : StructureSets
stored = put laid 32 64 (Element setup_qtd)

pub record Opens : Type 0 where
  pub rests : IsRestBelow own 0 0 first unset 64 Empty laid 32
  pub store : IsFirstStore one_request 64 (stored 32)
  pub begun : IsQueueBelow one_request 0 0 first (lines_at one_request false unset) [] Empty stored 32

-- ---- as any queue head

abbrev pub AskedAlike : Type 0
AskedAlike = IsQueue one_request (at_line 0) Empty (parts_with erred_queue) 32 (heard own erred.device)

abbrev pub NotHigh : Type 0
NotHigh = AreHigh (λ n. n == 32) (parts_with erred_queue) → ⊥
