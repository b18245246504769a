-- Each event of the walk leaves a queue at rest at rest, and asks nothing of it.
use Rattle.std.proofs.Common.{◌≡◌, ◌≢◌, ℕ, Bool, true, false, List, Option, Some, ap, sym, subst, ◌∙◌}
use Rattle.std.proofs.lemmas.Bool.{false≢true}
use Rattle.usb_base.specs.declared.packets.Ask.{Ask}
use Rattle.usb_base.specs.declared.packets.Reply.{Reply}
use Rattle.link_words.specs.Links.{qtd_link_of}
use Rattle.qh_qtd.specs.declared.qtd.Qtd.{Qtd}
use Rattle.qh_qtd.specs.declared.queue_head.Qh.{Qh}
use Rattle.hc_copy.specs.Overlay.{advanced}
use Rattle.hc_copy.specs.Planning.{host_in}
use Rattle.hc_copy.specs.Transacting.{call_in}
use Rattle.hc_copy.specs.Visits.{next_pointer}
use Rattle.async_walk.specs.declared.state.WalkStep.{WalkStep}
use Rattle.async_walk.specs.Naks.{planned}
use Rattle.law_structures.specs.lent_structures.Structures.{QueueHead, Structures, StructureSets}
use Rattle.law_structures.proofs.lemmas.lent_structures.Names.{put_beside}
use Rattle.law_structures.proofs.lemmas.lent_structures.Found.{back_beside}
use Rattle.law_structures.proofs.lemmas.lent_structures.Altering.{found_queue, found_element}
use Rattle.dev_control.specs.Stages.{Stages}
use Rattle.law_request.specs.Host.{Endpoint}
use Rattle.claims_report.specs.ControlSides.{Device}
use Rattle.law_devices.specs.request_calls.Bus.{device_of, IsAskFor, IsControlBus}
use Rattle.law_ring.specs.Hand.{Copy, settled_queue_of, Hand}
use Rattle.law_ring.specs.Ring.{IsCopied, IsSettled, IsInHand}
use Rattle.law_ring.specs.Effects.{received_into, settlement, counted, taken, Takes, Effect}
use Rattle.law_ring.specs.Effects.Effect.{reads, passes, ends, takes, makes, writes_back}
use Rattle.law_ring.specs.Told.{endpoint_of, SameTold}
use Rattle.law_ring.specs.Streams.{AreMembers}
use Rattle.law_ring.proofs.Keeping.{IsUnsettled, empty_unsettled, copied_unsettled, same_kept, taking_tells_the_same}
use Rattle.law_ring.proofs.Written.{writing_tells_the_same}
use Rattle.law_devices.specs.ring_requests.Laid.{IsIdle}
use Rattle.law_devices.specs.ring_requests.Shown.{hand_side}
use Rattle.law_devices.specs.ring_requests.Resting.{IsAtRest, IsOtherEndpoint, IsAlone, RestStays, EffectKeepsRest}
use Rattle.law_devices.proofs.lemmas.ring_requests.Stages.{to_same}
use Rattle.law_devices.proofs.lemmas.ring_requests.Windows.{side_unsettled, side_beside}

module _ {W : Type 0} (transacts : W → Ask → List ℕ → Reply → W → Type 0) (device : W → ℕ → ℕ → Option Device) (bus : IsControlBus transacts device) (member : ℕ → Bool) (e : Endpoint) (c : Stages) (b n : ℕ) (parts : StructureSets) (hand : Hand) (reply : Reply) (wire after : W) (now : StructureSets) (later : Hand) (members : AreMembers member parts) (in_hand : IsInHand member parts reply hand) (alone : IsAlone member e parts n) (rest : IsAtRest e c b hand parts n (device wire e.addr e.num)) where
  rest_after : now n ≡ parts n → ((q : Qh) → hand_side later n q ≡ host_in q) → device after e.addr e.num ≡ Some (device_of e c) → IsAtRest e c b later now n (device after e.addr e.num)
  rest_after same sides is = record {
    queue = rest.queue;
    head = ap (λ (part : Structures). part n) same ∙ rest.head;
    control = rest.control;
    idle = rest.idle;
    unsettled = sides rest.queue;
    leads = rest.leads;
    tail = subst (λ (part : Structures). IsIdle part b) (sym same) rest.tail;
    max = rest.max;
    device = is;
  }

  quiet_device : after ≡ wire → device after e.addr e.num ≡ Some (device_of e c)
  quiet_device quiet = ap (λ (w : W). device w e.addr e.num) quiet ∙ rest.device

  alone_after : SameTold hand parts later now → IsAlone member e now n
  alone_after same k on differs = let o : IsOtherEndpoint e parts k = alone k on differs in record { own = o.own; has = same.endpoint k o.own o.has; other = o.other }

  -- the copy in hand is that of another queue head where it is active
  mine : (d : Copy) → IsCopied member parts d → d.at ≡ n → d.queue ≡ rest.queue
  mine d copied at = found_queue (parts n n) d.queue rest.queue (ap (λ (i : ℕ). parts i i) (sym at) ∙ copied.here) rest.head

  active_beside : (d : Copy) → IsCopied member parts d → d.queue.token.active ≡ true → d.at ≢ n
  active_beside d copied on at = false≢true (sym rest.idle ∙ ap (λ (q : Qh). q.token.active) (sym (mine d copied at)) ∙ on)

  -- and where it goes on
  taken_beside : (k : Takes parts hand now later) → IsCopied member parts k.copy → k.copy.at ≢ n
  taken_beside k copied at =
      let same : k.copy.queue ≡ rest.queue = mine k.copy copied at in
      let to = rest.leads (ap (λ (q : Qh). q.token.halted) (sym same) ∙ k.goes_on) in
      let place : k.element ≡ b = to_same k.element b (sym k.leads ∙ ap (λ (q : Qh). qtd_link_of (next_pointer q)) same ∙ to) in
      let is : k.qtd ≡ rest.tail.qtd = found_element (parts n b) k.qtd rest.tail.qtd (ap (parts n) (sym place) ∙ ap (λ (i : ℕ). parts i k.element) (sym at) ∙ k.here) rest.tail.here in
      false≢true (sym rest.tail.idle ∙ ap (λ (t : Qtd). t.token.active) (sym is) ∙ k.published)

  stays : (kind : WalkStep) (effect : Effect transacts parts hand wire after now later kind) → RestStays device member e c b n effect
  stays kind (reads k same quiet) =
      let un : IsUnsettled later = copied_unsettled later k.copy k.in_hand in
      record {
        rest = rest_after (ap (λ (ps : StructureSets). ps n) same) (λ q. side_unsettled later n q un) (quiet_device quiet);
        alone = alone_after (same_kept hand later parts now same (empty_unsettled hand k.nothing) un);
        same = ap (λ (ps : StructureSets). ps n) same;
        beside = tt;
      }
  stays kind (passes k same quiet) =
      let un : IsUnsettled later = empty_unsettled later k.nothing in
      record {
        rest = rest_after (ap (λ (ps : StructureSets). ps n) same) (λ q. side_unsettled later n q un) (quiet_device quiet);
        alone = alone_after (same_kept hand later parts now same k.unsettled un);
        same = ap (λ (ps : StructureSets). ps n) same;
        beside = tt;
      }
  stays kind (ends k same quiet) =
      let un : IsUnsettled later = empty_unsettled later k.nothing in
      record {
        rest = rest_after (ap (λ (ps : StructureSets). ps n) same) (λ q. side_unsettled later n q un) (quiet_device quiet);
        alone = alone_after (same_kept hand later parts now same k.unsettled un);
        same = ap (λ (ps : StructureSets). ps n) same;
        beside = tt;
      }
  stays kind (takes k quiet) =
      let copied : IsCopied member parts k.copy = subst (IsInHand member parts reply) k.in_hand in_hand in
      let un : IsUnsettled later = copied_unsettled later (taken k.copy k.element k.qtd) k.later_is in
      let differs : k.copy.at ≢ n = taken_beside k copied in
      let same : now n ≡ parts n = ap (λ (ps : StructureSets). ps n) k.now_is ∙ put_beside parts k.copy.at k.copy.at (QueueHead (advanced k.copy.queue k.element k.qtd)) n (λ is. differs (sym is)) in
      record {
        rest = rest_after same (λ q. side_unsettled later n q un) (quiet_device quiet);
        alone = alone_after (taking_tells_the_same parts hand now later k copied.here);
        same = same;
        beside = differs;
      }
  stays kind (makes m all) =
      let copied : IsCopied member parts m.copy = subst (IsInHand member parts reply) m.in_hand in_hand in
      let differs : m.copy.at ≢ n = active_beside m.copy copied m.works in
      let o : IsOtherEndpoint e parts m.copy.at = alone m.copy.at copied.on differs in
      let is_own : o.own ≡ endpoint_of m.copy.queue = o.has.is ∙ ap endpoint_of (found_queue (parts m.copy.at m.copy.at) o.has.queue m.copy.queue o.has.head copied.here) in
      let not_for : IsAskFor e.addr e.num (call_in (planned m.copy.queue) m.out false).ask → ⊥ = λ for. o.other (for.address ∙ sym (ap (λ x. x.addr) is_own)) (for.number ∙ sym (ap (λ x. x.ep) is_own)) in
      record {
        rest = rest_after (ap (λ (ps : StructureSets). ps n) all) (λ q. side_beside later (counted m.copy m.out m.reply) (settlement m.copy.queue m.out m.reply) n q m.later_is differs)
            (bus.others wire (call_in (planned m.copy.queue) m.out false).ask (call_in (planned m.copy.queue) m.out false).out m.reply after e.addr e.num (device_of e c) m.made rest.device not_for);
        alone = subst (λ (ps : StructureSets). IsAlone member e ps n) (sym all) alone;
        same = ap (λ (ps : StructureSets). ps n) all;
        beside = differs;
      }
  stays kind (writes_back k quiet) =
      let both : IsCopied member parts k.copy × IsSettled k.copy.queue reply k.settled = subst (IsInHand member parts reply) k.in_hand in_hand in
      let un : IsUnsettled later = empty_unsettled later k.nothing in
      let differs : k.copy.at ≢ n = active_beside k.copy both.0 both.1.works in
      let same : now n ≡ parts n = ap (λ (ps : StructureSets). ps n) k.now_is ∙ back_beside parts k.copy.at k.copy.at k.copy.queue (settled_queue_of k.copy k.settled) _ k.settled.got (received_into (parts k.copy.at) k.copy.queue k.element k.settled.got) k.element n (λ is. differs (sym is)) in
      record {
        rest = rest_after same (λ q. side_unsettled later n q un) (quiet_device quiet);
        alone = alone_after (writing_tells_the_same member parts hand now later k reply both.0 both.1 (members k.copy.at both.0.on).own);
        same = same;
        beside = differs;
      }

pub a_queue_at_rest_stays_so : {W : Type 0} (transacts : W → Ask → List ℕ → Reply → W → Type 0) (device : W → ℕ → ℕ → Option Device) → EffectKeepsRest transacts device
a_queue_at_rest_stays_so transacts device member e c b n parts hand reply wire after now later kind effect bus members in_hand alone rest =
    stays transacts device bus member e c b n parts hand reply wire after now later members in_hand alone rest kind effect
