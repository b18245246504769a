-- The read of `WorkedRequests` as memory has it, once the hub's ACK to its first start-split was lost and the error is written back.
--     WindowStands     its qTDs show the request's host, and host, hub and device stand as they must
--     HighBreaks       not with a queue head that tells high speed
--     RequestsStand    so it is as the only one of its endpoint; `NoneLeftBreaks`: none is under way behind it
use Rattle.std.specs.Prelude.{ℕ, true, [], ◌∷◌, None}
use Rattle.qh_qtd.specs.declared.qtd.Qtd.{Qtd}
use Rattle.qh_qtd.specs.declared.queue_head.Qh.{Qh}
use Rattle.law_structures.specs.lent_structures.Structures.{QueueHead, Element, Buffer, StructureSets, put}
use Rattle.law_ring.specs.Hand.{Empty}
use Rattle.law_devices.specs.ring_requests.Samples.{leads_to, pages_at, nothing, setup as setup_qtd, read as read_qtd, status as status_qtd}
use Rattle.law_devices.specs.ring_requests.Windows.{Sent, Queue, Lines}
use Rattle.law_below_hubs.specs.RequestQueues.{AreOneByOne, IsQueueBelow}
use Rattle.law_below_hubs.specs.RequestWindows.{IsWindowBelow}
use Rattle.law_below_hubs.specs.WorkedControl.{own, reading, setup}
use Rattle.law_below_hubs.specs.WorkedRequests.{queue, answer_lost, erred}

abbrev pub sent : Sent
sent = record { endpoint = own; request = reading; places = record { setup = 64; data_at = 96; status = 128; behind = None } }

-- its overlay works on the SETUP, and has counted one error
abbrev pub erred_queue : Qh
erred_queue = record queue {
  current = 64;
  next = leads_to 96;
  token = record queue.token { cerr = 2; xact_err = true };
}

abbrev pub three_bytes : Qtd
three_bytes = record read_qtd { token = record read_qtd.token { total = 3 } }

abbrev pub parts_with : Qh → StructureSets
parts_with q =
    put (put (put (put (put (put nothing 32 32 (QueueHead q)) 32 64 (Element setup_qtd)) 32 96 (Element three_bytes)) 32 128
    (Element status_qtd))
    32 0 (Buffer (pages_at 0) 0 setup)) 32 4096 (Buffer (pages_at 1) 0 (0 ∷ 0 ∷ 0 ∷ []))

abbrev pub WindowStands : Type 0
WindowStands = IsWindowBelow sent 0 0 answer_lost erred [] Empty (parts_with erred_queue) 32

abbrev pub HighBreaks : Type 0
HighBreaks = IsWindowBelow sent 0 0 answer_lost erred [] Empty (parts_with (record erred_queue { eps = 2 })) 32 → ⊥

-- ---- the requests of its endpoint

abbrev pub one_request : Queue
one_request = record { endpoint = own; count = 1; requests = λ j. reading; places = λ j. sent.places }

abbrev pub at_line : ℕ → Lines
at_line under = record { under = under; line = λ j. erred }

pub record RequestsStand : Type 0 where
  pub fixed : AreOneByOne one_request
  pub stand : IsQueueBelow one_request 0 0 answer_lost (at_line 0) [] Empty (parts_with erred_queue) 32

abbrev pub NoneLeftBreaks : Type 0
NoneLeftBreaks = IsQueueBelow one_request 0 0 answer_lost (at_line 1) [] Empty (parts_with erred_queue) 32 → ⊥
