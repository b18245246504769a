-- Each event of the controller leaves a queue at rest at rest.
use Rattle.std.proofs.Common.{ℕ, Bool, List, Option, ap, sym, subst}
use Rattle.usb_base.specs.declared.packets.Ask.{Ask}
use Rattle.usb_base.specs.declared.packets.Reply.{Reply}
use Rattle.hc_core.specs.Controller.{Content, walk_place}
use Rattle.law_structures.specs.lent_structures.Structures.{StructureSets}
use Rattle.dev_control.specs.Stages.{Stages}
use Rattle.law_request.specs.Host.{Endpoint}
use Rattle.claims_report.specs.ControlSides.{Device}
use Rattle.law_devices.specs.request_calls.Bus.{device_of, IsControlBus, KeepsDevices}
use Rattle.law_ring.specs.Hand.{Hand}
use Rattle.claims_base.specs.Controller.{Base}
use Rattle.law_ring.specs.Ring.{IsRing}
use Rattle.law_controller.specs.controlled_streams.Control.{IsControlled, BeginsMicroframe, ControlEffect, a_microframe, a_step}
use Rattle.law_devices.specs.ring_requests.Resting.{IsAtRest, IsAlone, RestStays}
use Rattle.law_devices.proofs.lemmas.ring_requests.Resting.{a_queue_at_rest_stays_so}
use Rattle.law_devices.specs.control_requests.Rests.{ControlRestStays, ControlKeepsRest}

module _ {W : Type 0} (begins : W → ℕ → Bool → W → Type 0) (transacts : W → Ask → List ℕ → Reply → W → Type 0) (device : W → ℕ → ℕ → Option Device) (base : Base) (member : ℕ → Bool) (e : Endpoint) (c : Stages) (b n : ℕ) (parts : StructureSets) (hand : Hand) (content : Content) (wire after : W) (now : StructureSets) (later : Hand) (bus : IsControlBus transacts device) (keeps : KeepsDevices begins device) (controlled : IsControlled base member parts hand content) (alone : IsAlone member e parts n) (rest : IsAtRest e c b hand parts n (device wire e.addr e.num)) where
  -- the device isn't told more than that a microframe began
  begun : BeginsMicroframe begins parts hand wire after now later → IsAtRest e c b hand parts n (device after e.addr e.num)
  begun k = record {
    queue = rest.queue;
    head = rest.head;
    control = rest.control;
    idle = rest.idle;
    unsettled = rest.unsettled;
    leads = rest.leads;
    tail = rest.tail;
    max = rest.max;
    device = keeps wire k.index k.allowed after e.addr e.num (device_of e c) k.asked rest.device;
  }

  stays : (effect : ControlEffect begins transacts parts hand wire after now later) → ControlRestStays device member e c b n effect
  stays (a_microframe k) = record {
    rest = subst (λ (h : Hand). IsAtRest e c b h now n (device after e.addr e.num)) (sym k.hand_stays)
        (subst (λ (ps : StructureSets). IsAtRest e c b hand ps n (device after e.addr e.num)) (sym k.parts_stay) (begun k));
    alone = subst (λ (ps : StructureSets). IsAlone member e ps n) (sym k.parts_stay) alone;
    same = ap (λ (ps : StructureSets). ps n) k.parts_stay;
    beside = tt;
  }
  stays (a_step k) =
      let ring : IsRing base member parts hand (walk_place content) = controlled.ring in
      let r : RestStays device member e c b n k.effect = a_queue_at_rest_stays_so transacts device member e c b n parts hand (walk_place content).walk.reply wire after now later k.kind k.effect bus ring.members ring.in_hand alone rest in
      record { rest = r.rest; alone = r.alone; same = r.same; beside = r.beside }

pub an_event_leaves_a_queue_at_rest : {W : Type 0} (begins : W → ℕ → Bool → W → Type 0) (transacts : W → Ask → List ℕ → Reply → W → Type 0) (device : W → ℕ → ℕ → Option Device) → ControlKeepsRest begins transacts device
an_event_leaves_a_queue_at_rest begins transacts device base member e c b n parts hand content wire after now later effect bus keeps
    controlled alone rest =
    stays begins transacts device base member e c b n parts hand content wire after now later bus keeps controlled alone rest effect
