-- What is sent of an OUT endpoint whose queue head isn't halted begins what was put to it, whatever its device is.
use Rattle.std.proofs.Common.{◌≡◌, ℕ, ◌*◌, false, List, slice_get, Option, Some, None, ap, refl, sym, subst, ◌∙◌}
use Rattle.std.specs.List.{concat}
use Rattle.law_world.proofs.Common.{tail_at}
use Rattle.law_driver.proofs.Common.{get_queued}
use Rattle.usb_base.specs.declared.endpoints.EndCause.{EndCause}
use Rattle.usb_base.specs.declared.endpoints.EpName.{EpName}
use Rattle.usb_base.specs.declared.packets.Way.TheVariants as ways
use Rattle.bus_wire.specs.Bus.{Fixed}
use Rattle.claims_base.specs.Controller.{opening_base}
use Rattle.claims_base.specs.Prefix.{IsPrefix}
use Rattle.claims_driver.specs.Scripts.{receives}
use Rattle.drv_table.specs.declared.content.Endpoint.{Endpoint}
use Rattle.drv_table.specs.DriverContent.{DriverContent}
use Rattle.law_driver.specs.endpoint_lives.Lives.{told_end}
use Rattle.law_driver.specs.queued_drivers.Queued.{queued_endpoint, queued}
use Rattle.law_driver.specs.chained_transfers.Out.{out_now}
use Rattle.law_driver.proofs.lemmas.queued_drivers.CommandFields.{name_same}
use Rattle.law_driver_ring.specs.fed_queues.Places.{IsMet}
use Rattle.law_structures.specs.lent_structures.Structures.{QueueHead}
use Rattle.law_ring.specs.Told.{Endpoint as Told}
use Rattle.law_ring.specs.OutBus.{Taker}
use Rattle.law_ring.specs.OutPipes.{IsOutPipe}
use Rattle.law_ring.specs.QueueParts.{IsQueuePart}
use Rattle.law_controller.specs.controlled_streams.Reported.{IsReported}
use Rattle.law_descriptors.specs.Both.{both}
use Rattle.law_descriptors.specs.Meeting.{met}
use Rattle.law_descriptors.proofs.Standing.{both_off}
use Rattle.law_descriptors.proofs.Telling.{queue_off}
use Rattle.law_queues.specs.whole_sends.Whole.{AreSentWhole}
use Rattle.law_queues.specs.whole_sends.Laws.{IsStopped}
use Rattle.law_queues.specs.standing_fronts.Reaching.{Reaches}
use Rattle.law_world.specs.memory.Mixed.{Standing}
use Rattle.law_world.proofs.lemmas.memory.HarvestKept.{describes, tells_of}
use Rattle.law_world.specs.streams.put_laws.Buffers.{IsPublishingTo}
use Rattle.law_world.specs.streams.put_laws.TakenPuts.{puts_of}
use Rattle.law_world.proofs.lemmas.streams.lemmas.put_laws.BufferBytes.{buffers_are_rest, buffers_before_lend, buffers_around}
use Rattle.law_world.proofs.lemmas.streams.lemmas.put_laws.TakenBegins.{known_so}
use Rattle.law_reports.specs.lines.Lined.{in_hand, Lines}
use Rattle.bus_world.specs.World.{World, controller_parts}
use Rattle.law_reports.specs.pipes.Declared.{Sides}
use Rattle.law_reports.specs.pipes.Piped.{Heads, IsPiped}
use Rattle.law_reports.proofs.lemmas.pipes.Names.{queue_same}
use Rattle.law_reports.specs.pipes.puts.Paid.{IsSentOut, Pays}
use Rattle.law_reports.proofs.lemmas.pipes.lemmas.puts.Steps.{IsThereOut, reported_at, part_at}
use Rattle.law_reports.proofs.lemmas.pipes.lemmas.puts.Turns.{both_told_in_turn}

module _ (fixed : Fixed) (x : Sides) (s : Standing) (m : Lines) (h : Heads) (puts : ℕ → List ℕ) (w : World)
    (k : IsPiped fixed x s m h w) (pays : Pays fixed x s m puts w) (e : ℕ) (y : Endpoint)
    (real : slice_get w.driver.endpoints e ≡ Some y) (is_met : IsMet (queued w.driver) e (queued_endpoint y))
    (way : y.desc.name.way ≡ ways.Out) where
  abbrev d : DriverContent
  d = queued w.driver

  abbrev z : Endpoint
  z = queued_endpoint y

  abbrev n : ℕ
  n = 32 * (queued_endpoint y).queue

  here : slice_get (queued w.driver).endpoints e ≡ Some (queued_endpoint y)
  here = get_queued w.driver.endpoints e y real

  queue_is : 32 * (queued_endpoint y).queue ≡ 32 * y.queue
  queue_is = ap (λ (q : ℕ). 32 * q) (queue_same y)

  sends : receives (queued_endpoint y).desc.name.way ≡ false
  sends = ap (λ (name : EpName). receives name.way) (name_same y) ∙ ap receives way

  out : IsThereOut w.driver (32 * (queued_endpoint y).queue)
  out = record { number = e; endpoint = y; here = real; there = is_met.there; way_is = way; at = queue_is }

  part : IsQueuePart (32 * (queued_endpoint y).queue) (s.parts (32 * (queued_endpoint y).queue))
  part = part_at s m w k.mixed k.telling n out

  module _ (o : Option Taker) (t : Told) where
    abbrev Goal : ℕ → Type 0
    Goal i = (p : IsOutPipe o (concat (m.acc i)) s.parts (in_hand s) i t) → (IsStopped s.parts i → ⊥)
        → IsPrefix p.taker.taken (concat (puts_of (queued w.driver) puts e))

    goes_begin : Goal (32 * (queued_endpoint y).queue)
    goes_begin p goes_on =
        let out_is : s.out n ≡ out_now d e = k.mixed.queues.queues.out_are e z here is_met.there in
        let rep : IsReported (s.order n) (out_now d e) (in_hand s) s.parts n (m.acc n) (m.reported n) =
        subst (λ (es : List ℕ). IsReported (s.order n) es (in_hand s) s.parts n (m.acc n) (m.reported n)) out_is
        (reported_at s m w k.mixed k.telling n out) in
        let whole : AreSentWhole (s.order n) (out_now d e) (in_hand s) n (s.parts n) =
        subst (λ (es : List ℕ). AreSentWhole (s.order n) es (in_hand s) n (s.parts n)) out_is
        (subst (IsSentOut s) (sym queue_is) (pays.outs e y real is_met.there way)).whole in
        known_so buffers_are_rest buffers_before_lend buffers_around s.parts (in_hand s) s.order (m.acc n) d w.memory puts
        m.reported e z o t k.mixed.turns.turns
        (tells_of s w k.mixed)
        k.mixed.queues.queues.fed k.mixed.queues.queues.last pays.owes here is_met sends going rep whole
        (λ b publishing. subst (λ (es : List ℕ). Reaches d (s.parts n) (s.order n) es e z (32 * b)) out_is (reaches b publishing))
        (both_told_in_turn opening_base s.member (met w.driver s.recent) (both s.descs s.parts)
        s.parts s.hand s.frame
        (controller_parts w) k.mixed.now.framed.runs n
        (both_off s.descs s.parts n
        (queue_off w.driver s.descs s.parts (describes s w k.mixed) n n (QueueHead part.queue) part.here)) part goes_on
        o t (s.order n) rep.place rep.told (m.reported n)) p
      where
        going : told_end (queued_endpoint y) ≡ None
        going = by (told_end (queued_endpoint y)) refl
          where
            by : (c : Option EndCause) → told_end (queued_endpoint y) ≡ c → c ≡ None
            by None so = refl
            by (Some cause) so = absurd (goes_on (pays.ended e z cause here is_met.there.kept sends so))

        reaches : (b : ℕ) → IsPublishingTo (queued w.driver) e b
            → Reaches (queued w.driver) (s.parts (32 * (queued_endpoint y).queue)) (s.order (32 * (queued_endpoint y).queue))
            (s.out (32 * (queued_endpoint y).queue)) e (queued_endpoint y) (32 * b)
        reaches b publishing =
            subst (λ (a : ℕ). Reaches d (s.parts n) (s.order n) (s.out n) e z a) (tail_at d e b z publishing)
            (k.mixed.queues.tails e z here is_met)

    pub going_begins : Goal (32 * y.queue)
    going_begins = subst Goal queue_is goes_begin
