-- The requests of a control endpoint below a hub as those of a queue head of whatever speed, and back.
use Rattle.std.proofs.Common.{◌≡◌, ◌==◌, refl, subst, ap, sym, ◌∙◌, ℕ, Option, Some}
use Rattle.bus_wire.specs.Bus.{Wired}
use Rattle.qh_qtd.specs.declared.queue_head.Qh.{Qh}
use Rattle.claims_report.specs.ControlSides.{Device}
use Rattle.dev_control.specs.Stages.{Stages}
use Rattle.law_structures.specs.lent_structures.Structures.{QueueHead, StructureSets}
use Rattle.law_structures.proofs.lemmas.lent_structures.Altering.{found_queue}
use Rattle.law_ring.specs.Hand.{Hand}
use Rattle.law_request.specs.Host.{Endpoint}
use Rattle.law_devices.specs.request_calls.Stages.{IsEndpoint}
use Rattle.law_devices.specs.ring_requests.Resting.{IsAtRest}
use Rattle.law_below_hubs.specs.RequestMoves.{IsIdleHead}
use Rattle.law_below_hubs.specs.RequestViews.{IsHeadBelow, BelowIsAsked, AskedIsBelow, RestIsAtRest, AtRestIsBelow, AtRestIsLeft}
use Rattle.law_below_hubs.specs.RequestWindows.{IsControlBelow}
use Rattle.law_below_hubs.specs.Splits.{IsAtHub}

endpoint_of_any : (e : Endpoint) (q : Qh) → IsControlBelow e q → IsEndpoint e q
endpoint_of_any e q k = record { toggles = k.toggles; address = k.address; number = k.number; packets = k.packets }

pub below_is_asked : BelowIsAsked
below_is_asked v i place n wire l acts hand parts w = (
  record {
    within = w.within;
    window = record {
      queue = w.window.queue;
      head = w.window.head;
      control = endpoint_of_any v.endpoint w.window.queue w.window.control;
      shown = w.window.shown;
      among = w.window.among;
      moved = w.window.moved;
      device = refl;
      stands = w.window.request.stands;
    };
    finished = w.finished;
    behind = w.behind;
    tail = w.tail;
  },
  record { queue = w.window.queue; head = w.window.head; below = w.window.control.below; hub = w.window.hub },
)

-- the queue head that memory has there
module _ (i place n : ℕ) (wire : Wired) (parts : StructureSets) (h : IsHeadBelow i place wire parts n) (q : Qh)
    (head : parts n n ≡ Some (QueueHead q)) where
  same : h.queue ≡ q
  same = found_queue (parts n n) h.queue q h.head head

  control_of_it : (e : Endpoint) → IsEndpoint e q → IsControlBelow e q
  control_of_it e k = record {
    toggles = k.toggles;
    below = ap (λ (x : Qh). x.eps == 2) (sym same) ∙ h.below;
    address = k.address;
    number = k.number;
    packets = k.packets;
  }

  hub_of_it : IsAtHub wire.bus.hubs q.hub q.port i place
  hub_of_it = subst (λ (x : Qh). IsAtHub wire.bus.hubs x.hub x.port i place) same h.hub

pub asked_is_below : AskedIsBelow
asked_is_below v i place n wire l acts hand parts o h request w = record {
  within = w.within;
  window = record {
    queue = w.window.queue;
    head = w.window.head;
    control = control_of_it i place n wire parts h w.window.queue w.window.head v.endpoint w.window.control;
    hub = hub_of_it i place n wire parts h w.window.queue w.window.head;
    shown = w.window.shown;
    among = w.window.among;
    moved = w.window.moved;
    request = request;
  };
  finished = w.finished;
  behind = w.behind;
  tail = w.tail;
}

-- ---- at rest

pub rest_is_at_rest : RestIsAtRest
rest_is_at_rest e i place b n wire c hand parts o = (
  record {
    queue = o.head.queue;
    head = o.head.head;
    control = endpoint_of_any e o.head.queue o.head.control;
    idle = o.head.idle;
    unsettled = o.head.unsettled;
    leads = o.head.leads;
    tail = o.head.tail;
    max = o.rests.max;
    device = refl;
  },
  record { queue = o.head.queue; head = o.head.head; below = o.head.control.below; hub = o.head.hub },
)

idle_head : (e : Endpoint) (i place b n : ℕ) (wire : Wired) (c : Stages) (hand : Hand) (parts : StructureSets) (o : Option Device)
    → IsHeadBelow i place wire parts n → IsAtRest e c b hand parts n o → IsIdleHead e i place wire b hand parts n
idle_head e i place b n wire c hand parts o h k = record {
  queue = k.queue;
  head = k.head;
  control = control_of_it i place n wire parts h k.queue k.head e k.control;
  hub = hub_of_it i place n wire parts h k.queue k.head;
  idle = k.idle;
  unsettled = k.unsettled;
  leads = k.leads;
  tail = k.tail;
}

pub at_rest_is_below : AtRestIsBelow
at_rest_is_below e i place b n wire c left hand parts o h rests k =
    record { head = idle_head e i place b n wire c hand parts o h k; rests = rests }

pub at_rest_is_left : AtRestIsLeft
at_rest_is_left e r i place b n wire c l acts hand parts o h ended request k =
    record { head = idle_head e i place b n wire c hand parts o h k; ended = ended; request = request }
