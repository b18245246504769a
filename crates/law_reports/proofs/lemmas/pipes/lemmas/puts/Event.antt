-- After each event of the controller what was taken of each OUT endpoint at high speed begins its puts, and what is to be sent stands.
use Rattle.std.proofs.Common.{◌≡◌, ℕ, ◌*◌, Bool, true, false, List, slice_get, Option, Some, None, ap, refl, sym, subst, ◌∙◌}
use Rattle.std.proofs.Common.{if◌then◌else◌, ⊎_elim, inl, inr}
use Rattle.std.specs.Prelude.{◌⊎◌}
use Rattle.std.specs.List.{concat}
use Rattle.std.proofs.lemmas.Bool.{true≢false, false≢true}
use Rattle.std.proofs.lemmas.Option.{same_Some}
use Rattle.law_world.proofs.Common.{tail_at}
use Rattle.law_driver.proofs.Common.{out_way, get_queued}
use Rattle.usb_base.specs.declared.endpoints.EndCause.{EndCause}
use Rattle.usb_base.specs.declared.endpoints.EpName.{EpName}
use Rattle.usb_base.specs.declared.packets.Way.TheVariants as ways
use Rattle.qh_qtd.specs.declared.queue_head.Qh.{Qh}
use Rattle.bus_wire.specs.Bus.{Fixed}
use Rattle.claims_base.specs.Controller.{opening_base}
use Rattle.claims_base.specs.Prefix.{IsPrefix}
use Rattle.claims_driver.specs.Scripts.{receives}
use Rattle.drv_table.specs.declared.content.Command.TheVariants as unfinished
use Rattle.drv_table.specs.declared.content.Endpoint.{Endpoint}
use Rattle.drv_table.specs.DriverContent.{DriverContent}
use Rattle.law_driver.specs.endpoint_lives.Lives.{told_end, may_meet}
use Rattle.law_driver.specs.queued_drivers.Queued.{queued_endpoint, queued}
use Rattle.law_driver.specs.chained_transfers.Out.{out_now}
use Rattle.law_driver.proofs.lemmas.queued_drivers.CommandFields.{name_same}
use Rattle.law_driver_ring.specs.fed_queues.Places.{IsThere, IsMet}
use Rattle.law_structures.specs.lent_structures.Structures.{QueueHead, Structures, StructureSets}
use Rattle.law_structures.proofs.lemmas.lent_structures.Altering.{found_queue}
use Rattle.law_ring.specs.Told.{Endpoint as Told}
use Rattle.law_ring.specs.OutBus.{Taker}
use Rattle.law_ring.specs.OutPipes.{IsOutPipe}
use Rattle.law_ring.specs.QueueParts.{IsQueuePart}
use Rattle.law_ring.proofs.Transporting.{out_still}
use Rattle.law_controller.specs.controlled_streams.Reported.{IsReported}
use Rattle.law_descriptors.specs.Both.{both, parts_now}
use Rattle.law_descriptors.specs.Meeting.{met}
use Rattle.law_descriptors.proofs.Standing.{both_off}
use Rattle.law_descriptors.proofs.Telling.{queue_off}
use Rattle.law_descriptors.proofs.lemmas.queue_events.Events.{both_keeps_structures, both_leaves_halted}
use Rattle.law_descriptors.proofs.lemmas.queue_events.Sending.{events_send_whole}
use Rattle.law_devices.specs.scripted_takers.Takers.{taker_of}
use Rattle.law_queues.specs.whole_sends.Whole.{AreSentWhole}
use Rattle.law_queues.specs.whole_sends.Laws.{IsStopped}
use Rattle.law_queues.specs.standing_fronts.Reaching.{Reaches}
use Rattle.law_world.specs.steps.Streaming.{begins_by, transacts_by, wired}
use Rattle.law_world.specs.memory.Mixed.{Standing}
use Rattle.law_world.specs.memory.Steps.{IsMixedControlled, standing_then}
use Rattle.law_world.proofs.lemmas.memory.HarvestKept.{describes, tells_of}
use Rattle.law_world.specs.streams.put_laws.Buffers.{IsPublishingTo}
use Rattle.law_world.specs.streams.put_laws.HeldPuts.{HoldsPuts}
use Rattle.law_world.specs.streams.put_laws.Owed.{Owes}
use Rattle.law_world.specs.streams.put_laws.OwedTaken.{TakenBegin, EndedAreStopped}
use Rattle.law_world.specs.streams.put_laws.TakenPuts.{puts_of}
use Rattle.law_world.specs.streams.sending_worlds.ReportLaws.{HasNamedTaker}
use Rattle.law_world.proofs.lemmas.streams.lemmas.put_laws.BufferBytes.{buffers_are_rest, buffers_before_lend, buffers_around}
use Rattle.law_world.proofs.lemmas.streams.lemmas.put_laws.Same.{there_or, alike_owes}
use Rattle.law_world.proofs.lemmas.streams.lemmas.put_laws.TakenBegins.{known_so}
use Rattle.law_reports.specs.lines.Lined.{in_hand, Lines}
use Rattle.bus_world.specs.World.{World, controller_parts, controller_next}
use Rattle.law_reports.specs.pipes.Declared.{Sides}
use Rattle.law_reports.specs.pipes.Piped.{Heads, asked_as, IsPiped}
use Rattle.law_reports.proofs.lemmas.pipes.Begun.{on_outs}
use Rattle.law_reports.proofs.lemmas.pipes.Controlled.{c, goes, controlled, outs_unasked, taker_stays, idle_taker_stays, alone}
use Rattle.law_reports.proofs.lemmas.pipes.Controlled.{taker_or_parts_stay}
use Rattle.law_reports.proofs.lemmas.pipes.Names.{WasQueued, was_queued, queue_same}
use Rattle.law_reports.specs.pipes.puts.Paid.{IsSentOut, AreOutsWhole, watched, HaveTakers, Pays}
use Rattle.law_reports.proofs.lemmas.pipes.lemmas.puts.HeldEvents.{controlled_holds}
use Rattle.law_reports.proofs.lemmas.pipes.lemmas.puts.Steps.{IsThereOut, reported_at, part_at}
use Rattle.law_reports.proofs.lemmas.pipes.lemmas.puts.Turns.{both_told_in_turn}

-- ---- whether the queue head is halted

pub stopped_or : (parts : StructureSets) (n : ℕ) → IsQueuePart n (parts n) → IsStopped parts n ⊎ (IsStopped parts n → ⊥)
stopped_or parts n part = by part.queue.token.active part.queue.token.halted refl refl
  where
    its : (k : IsStopped parts n) → k.0 ≡ part.queue
    its k = found_queue (parts n n) k.0 part.queue k.1 part.here

    by : (a h : Bool) → part.queue.token.active ≡ a → part.queue.token.halted ≡ h → IsStopped parts n ⊎ (IsStopped parts n → ⊥)
    by false true off on = inl (part.queue, part.here, off, on)
    by true h off on = inr (λ k. true≢false (sym off ∙ ap (λ (q : Qh). q.token.active) (sym (its k)) ∙ k.2))
    by false false off on = inr (λ k. false≢true (sym on ∙ ap (λ (q : Qh). q.token.halted) (sym (its k)) ∙ k.3))

-- ---- who takes at high speed

pub record IsWatched (o : Option Taker) (on : Bool) (u : Taker) : Type 0 where
  pub at_high : on ≡ true
  pub is : o ≡ Some u

none_taker : (u : Taker) → ◌≡◌ {A = Option Taker} None (Some u) → ⊥
none_taker u is = cc

pub watched_is : (o : Option Taker) (on : Bool) (u : Taker) → (if on then o else None) ≡ Some u → IsWatched o on u
watched_is o true u is = record { at_high = refl; is = is }
watched_is o false u is = absurd (none_taker u is)

pub is_watched : (o : Option Taker) (on : Bool) (u : Taker) → on ≡ true → o ≡ Some u → (if on then o else None) ≡ Some u
is_watched o true u at_high is = is
is_watched o false u at_high is = absurd (false≢true at_high)

-- ---- one endpoint

module _ (fixed : Fixed) (x : Sides) (s : Standing) (m : Lines) (h : Heads) (puts : ℕ → List ℕ) (w : World)
    (k : IsPiped fixed x s m h w) (pays : Pays fixed x s m puts w) where
  abbrev d : DriverContent
  d = queued w.driver

  abbrev new : World
  new = controller_next fixed w

  abbrev event : IsMixedControlled fixed s w
  event = c fixed x s m h w k

  abbrev after : Standing
  after = standing_then s w (c fixed x s m h w k).event

  abbrev lines : Lines
  lines = record { acc = (goes fixed x s m h w k).moved; reported = m.reported }

  now : IsPiped fixed x (standing_then s w (c fixed x s m h w k).event) (record
      { acc = (goes fixed x s m h w k).moved; reported = m.reported }) h (controller_next fixed w)
  now = controlled fixed x s m h w k

  -- ---- its qTDs

  outs_then : AreOutsWhole (standing_then s w (c fixed x s m h w k).event) w.driver
  outs_then e y here there way =
      let n : ℕ = 32 * y.queue in
      let o : IsThereOut w.driver n =
      record { number = e; endpoint = y; here = here; there = there; way_is = way; at = refl } in
      let f = k.mixed.now.framed in
      let was : IsSentOut s n = pays.outs e y here there way in
      let r = reported_at s m w k.mixed k.telling n o in
      record {
        outs = out_still (s.parts n) (parts_now s.descs s.parts event.event.now n)
            (both_keeps_structures begins_by transacts_by opening_base s.member (met w.driver s.recent) s.descs s.parts s.hand s.frame
            (controller_parts w) (wired fixed w) (wired fixed new) event.event.now event.event.later event.event.frame_later f.runs
            event.event.effect n).alters was.outs;
        whole = events_send_whole begins_by transacts_by opening_base s.member (met w.driver s.recent) w.driver s.descs s.parts s.hand
            s.frame
            (controller_parts w) (wired fixed w) (wired fixed new) event.event.now event.event.later event.event.frame_later
            (describes s w k.mixed) f.runs event.event.effect (s.order n) r.place (s.out n) n r.told
            (part_at s m w k.mixed k.telling n o) was.outs r.accounts was.whole;
      }

  halted_then : (n : ℕ) → IsStopped s.parts n → IsStopped (parts_now s.descs s.parts (c fixed x s m h w k).event.now) n
  halted_then n stopped =
      let same : parts_now s.descs s.parts event.event.now n ≡ s.parts n =
      both_leaves_halted begins_by transacts_by opening_base s.member (met w.driver s.recent) s.descs s.parts s.hand s.frame
      (controller_parts w) (wired fixed w) (wired fixed new) event.event.now event.event.later event.event.frame_later
      k.mixed.now.framed.runs event.event.effect n stopped.0 stopped.1 stopped.3 in
      (stopped.0, ap (λ (p : Structures). p n) same ∙ stopped.1, stopped.2, stopped.3)

  ended_then : EndedAreStopped (queued w.driver) (parts_now s.descs s.parts (c fixed x s m h w k).event.now)
  ended_then e z cause here alive sends over = halted_then (32 * z.queue) (pays.ended e z cause here alive sends over)

  held_then : HoldsPuts (queued w.driver) (controller_next fixed w).memory puts
  held_then = controlled_holds fixed x s m h puts w k pays

  owes_then : Owes (queued w.driver) (controller_next fixed w).memory puts m.reported
  owes_then =
      alike_owes d d w.memory new.memory puts puts m.reported k.mixed.turns.turns
      (record { endpoints = refl; transfers = refl; notes = refl }) (λ z there. there) (λ z is. is) (λ t low. refl) pays.held held_then
      pays.owes

  -- ---- what its device took

  module _ (e : ℕ) (z : Endpoint) (here : slice_get (queued w.driver).endpoints e ≡ Some z)
      (sends : receives z.desc.name.way ≡ false) (on : x.takes z.desc.name.addr z.desc.name.num ≡ true) where
    abbrev addr : ℕ
    addr = z.desc.name.addr

    abbrev num : ℕ
    num = z.desc.name.num

    abbrev all : List ℕ
    all = concat (puts_of (queued w.driver) puts e)

    v : WasQueued w.driver.endpoints e z
    v = was_queued w.driver.endpoints e z here

    name_is : z.desc.name ≡ v.endpoint.desc.name
    name_is = ap (λ (y : Endpoint). y.desc.name) v.is ∙ name_same v.endpoint

    way : v.endpoint.desc.name.way ≡ ways.Out
    way = ap (λ (name : EpName). name.way) (sym name_is) ∙ out_way z.desc.name.way sends

    on_real : x.takes v.endpoint.desc.name.addr v.endpoint.desc.name.num ≡ true
    on_real = ap (λ (name : EpName). x.takes name.addr name.num) (sym name_is) ∙ on

    queue_is : z.queue ≡ v.endpoint.queue
    queue_is = ap (λ (y : Endpoint). y.queue) v.is ∙ queue_same v.endpoint

    before : HasNamedTaker fixed w v.endpoint.desc.name
    before = pays.takers e v.endpoint v.here way on_real

    before_is : taker_of (wired fixed w) z.desc.name.addr z.desc.name.num ≡ Some before.taker
    before_is = ap (λ (name : EpName). taker_of (wired fixed w) name.addr name.num) name_is ∙ before.is

    -- ---- it isn't met

    module _ (unmet : IsMet (queued w.driver) e (queued_endpoint v.endpoint) → ⊥) where
      stays_unmet : taker_of (wired fixed (controller_next fixed w)) z.desc.name.addr z.desc.name.num ≡ Some before.taker
      stays_unmet =
          taker_stays fixed x s m h w k addr num on
          (outs_unasked fixed x s m h w k addr num
          (λ f u there its same also is_met.
          alone fixed x s m h w k e v.endpoint v.here unmet f u there (its ∙ sym way)
          (same ∙ ap (λ (name : EpName). name.addr) name_is) (also ∙ ap (λ (name : EpName). name.num) name_is) is_met))
          before.taker before_is

    -- ---- it is met

    module _ (is_met : IsMet (queued w.driver) e (queued_endpoint v.endpoint)) where
      abbrev n : ℕ
      n = 32 * z.queue

      met_so : IsMet (queued w.driver) e z
      met_so = subst (IsMet (queued w.driver) e) (sym v.is) is_met

      out : IsThereOut w.driver (32 * z.queue)
      out = record {
        number = e;
        endpoint = v.endpoint;
        here = v.here;
        there = is_met.there;
        way_is = way;
        at = ap (λ (q : ℕ). 32 * q) queue_is;
      }

      on_out : h.outs (32 * z.queue) ≡ true
      on_out = ap (λ (q : ℕ). h.outs (32 * q)) queue_is ∙ on_outs fixed x s m h w k e v.endpoint v.here is_met way on_real

      end_is : h.ends (32 * z.queue) ≡ asked_as v.endpoint.desc
      end_is = ap (λ (q : ℕ). h.ends (32 * q)) queue_is ∙ k.named e v.endpoint v.here is_met

      end_addr : (h.ends (32 * z.queue)).addr ≡ z.desc.name.addr
      end_addr = ap (λ (t : Told). t.addr) end_is ∙ ap (λ (name : EpName). name.addr) (sym name_is)

      end_num : (h.ends (32 * z.queue)).ep ≡ z.desc.name.num
      end_num = ap (λ (t : Told). t.ep) end_is ∙ ap (λ (name : EpName). name.num) (sym name_is)

      pipe : IsOutPipe (taker_of (wired fixed (controller_next fixed w)) (h.ends (32 * z.queue)).addr (h.ends (32 * z.queue)).ep)
          (concat ((goes fixed x s m h w k).moved (32 * z.queue))) (parts_now s.descs s.parts (c fixed x s m h w k).event.now)
          (in_hand (standing_then s w (c fixed x s m h w k).event)) (32 * z.queue) (h.ends (32 * z.queue))
      pipe = now.pipes.out_pipes.pipes n on_out

      pipe_is : taker_of (wired fixed (controller_next fixed w)) z.desc.name.addr z.desc.name.num ≡ Some pipe.taker
      pipe_is =
          ap (λ (a : ℕ). taker_of (wired fixed new) a num) (sym end_addr)
          ∙ ap (λ (a : ℕ). taker_of (wired fixed new) (h.ends n).addr a) (sym end_num) ∙ pipe.is

      -- while it goes on
      goes_begin : (IsStopped (parts_now s.descs s.parts (c fixed x s m h w k).event.now) (32 * z.queue) → ⊥)
          → IsPrefix pipe.taker.taken (concat (puts_of (queued w.driver) puts e))
      goes_begin goes_on =
          let out_is : s.out n ≡ out_now d e = now.mixed.queues.queues.out_are e z here met_so.there in
          let rep : IsReported (s.order n) (out_now d e) (in_hand after) after.parts n (lines.acc n) (m.reported n) =
          subst (λ (es : List ℕ). IsReported (s.order n) es (in_hand after) after.parts n (lines.acc n) (m.reported n)) out_is
          (reported_at after lines new now.mixed now.telling n out) in
          let whole : AreSentWhole (s.order n) (out_now d e) (in_hand after) n (after.parts n) =
          subst (λ (es : List ℕ). AreSentWhole (s.order n) es (in_hand after) n (after.parts n)) out_is
          (subst (λ (q : ℕ). IsSentOut after (32 * q)) (sym queue_is) (outs_then e v.endpoint v.here is_met.there way)).whole in
          known_so buffers_are_rest buffers_before_lend buffers_around after.parts (in_hand after) s.order (lines.acc n) d new.memory puts
          m.reported e z (taker_of (wired fixed new) (h.ends n).addr (h.ends n).ep) (h.ends n) now.mixed.turns.turns
          (tells_of after new now.mixed)
          now.mixed.queues.queues.fed now.mixed.queues.queues.last owes_then here met_so sends going rep whole
          (λ b publishing. subst (λ (es : List ℕ). Reaches d (after.parts n) (s.order n) es e z (32 * b)) out_is (reaches b publishing))
          (both_told_in_turn opening_base s.member (met w.driver after.recent) (both after.descs after.parts)
          after.parts after.hand after.frame
          (controller_parts new) now.mixed.now.framed.runs n
          (both_off after.descs after.parts n
          (queue_off w.driver after.descs after.parts (describes after new now.mixed) n n (QueueHead part.queue) part.here)) part goes_on
          (taker_of (wired fixed new) (h.ends n).addr (h.ends n).ep) (h.ends n) (s.order n) rep.place rep.told (m.reported n)) pipe
        where
          part : IsQueuePart (32 * z.queue) (parts_now s.descs s.parts (c fixed x s m h w k).event.now (32 * z.queue))
          part = part_at after lines new now.mixed now.telling n out

          going : told_end z ≡ None
          going = by (told_end z) refl
            where
              by : (o : Option EndCause) → told_end z ≡ o → o ≡ None
              by None so = refl
              by (Some cause) so = absurd (goes_on (ended_then e z cause here met_so.there.kept sends so))

          reaches : (b : ℕ) → IsPublishingTo (queued w.driver) e b
              → Reaches (queued w.driver) (parts_now s.descs s.parts (c fixed x s m h w k).event.now (32 * z.queue))
              (s.order (32 * z.queue))
              (s.out (32 * z.queue)) e z (32 * b)
          reaches b publishing =
              subst (λ (a : ℕ). Reaches d (after.parts n) (s.order n) (s.out n) e z a) (tail_at d e b z publishing)
              (now.mixed.queues.tails e z here met_so)

      -- it was halted, or is now
      stopped_begin : IsStopped (parts_now s.descs s.parts (c fixed x s m h w k).event.now) (32 * z.queue)
          → taker_of (wired fixed (controller_next fixed w)) z.desc.name.addr z.desc.name.num ≡ Some before.taker
      stopped_begin stopped =
          ⊎_elim
          (λ (was : IsStopped s.parts n).
          idle_taker_stays fixed x s m h w k addr num on before.taker before_is n was.0 was.1 was.2
          (λ i also same again.
          k.pipes.out_ends.apart i n also on_out (same ∙ sym end_addr) (again ∙ sym end_num)))
          (λ (worked : IsStopped s.parts n → ⊥).
          ⊎_elim
          (λ (stays : taker_of (wired fixed new) addr num ≡ Some before.taker). stays)
          (λ (same : parts_now s.descs s.parts event.event.now ≡ s.parts).
          absurd (worked (subst (λ (ps : StructureSets). IsStopped ps n) same stopped)))
          (taker_or_parts_stay fixed x s m h w k addr num on before.taker before_is))
          (stopped_or s.parts n (part_at s m w k.mixed k.telling n out))

      -- the taker after it
      after_met : (u : Taker) → taker_of (wired fixed (controller_next fixed w)) z.desc.name.addr z.desc.name.num ≡ Some u
          → ((taker_of (wired fixed (controller_next fixed w)) z.desc.name.addr z.desc.name.num ≡ Some before.taker)
          → IsPrefix u.taken (concat (puts_of (queued w.driver) puts e)))
          → IsPrefix u.taken (concat (puts_of (queued w.driver) puts e))
      after_met u is old =
          ⊎_elim (λ (stopped : IsStopped after.parts n). old (stopped_begin stopped))
          (λ (goes_on : IsStopped after.parts n → ⊥).
          subst (λ (t : Taker). IsPrefix t.taken all) (same_Some pipe.taker u (sym pipe_is ∙ is)) (goes_begin goes_on))
          (stopped_or after.parts n (part_at after lines new now.mixed now.telling n out))

    -- ---- either

    met_or : (IsMet (queued w.driver) e (queued_endpoint v.endpoint)) ⊎ (IsMet (queued w.driver) e (queued_endpoint v.endpoint) → ⊥)
        → (u : Taker) → (z.gone ≡ true) ⊎ IsThere (queued w.driver) z
        → taker_of (wired fixed (controller_next fixed w)) z.desc.name.addr z.desc.name.num ≡ Some u
        → IsPrefix u.taken (concat (puts_of (queued w.driver) puts e))
    met_or which u life is =
        let old : (taker_of (wired fixed new) addr num ≡ Some before.taker) → IsPrefix u.taken all =
        (λ same.
        subst (λ (t : Taker). IsPrefix t.taken all) (same_Some before.taker u (sym same ∙ is))
        (pays.begin e z before.taker here life sends
        (is_watched (taker_of (wired fixed w) addr num) (x.takes addr num) before.taker on before_is))) in
        ⊎_elim (λ (is_met : IsMet (queued w.driver) e (queued_endpoint v.endpoint)). after_met is_met u is old)
        (λ (unmet : IsMet (queued w.driver) e (queued_endpoint v.endpoint) → ⊥). old (stays_unmet unmet)) which

    taker_then : (IsMet (queued w.driver) e (queued_endpoint v.endpoint))
        ⊎ (IsMet (queued w.driver) e (queued_endpoint v.endpoint) → ⊥) → HasNamedTaker fixed (controller_next fixed w) z.desc.name
    taker_then which =
        ⊎_elim
        (λ (is_met : IsMet (queued w.driver) e (queued_endpoint v.endpoint)).
        record { taker = (pipe is_met).taker; is = pipe_is is_met })
        (λ (unmet : IsMet (queued w.driver) e (queued_endpoint v.endpoint) → ⊥).
        record { taker = before.taker; is = stays_unmet unmet }) which

  -- ---- all of them

  met_or_not : (e : ℕ) (y : Endpoint) → (IsMet (queued w.driver) e (queued_endpoint y))
      ⊎ (IsMet (queued w.driver) e (queued_endpoint y) → ⊥)
  met_or_not e y = by (queued_endpoint y).gone refl (may_meet (queued w.driver) e (queued_endpoint y)) refl
    where
      by : (g : Bool) → (queued_endpoint y).gone ≡ g → (b : Bool) → may_meet (queued w.driver) e (queued_endpoint y) ≡ b
          → (IsMet (queued w.driver) e (queued_endpoint y)) ⊎ (IsMet (queued w.driver) e (queued_endpoint y) → ⊥)
      by true gone b is = inr (λ is_met. true≢false (sym gone ∙ is_met.there.kept))
      by false kept false off = inr (λ is_met. true≢false (sym is_met.near ∙ off))
      by false kept true near =
          ⊎_elim
          (λ (opens : (queued w.driver).command ≡ Some (unfinished.Open (queued_endpoint y).queue)).
          inr (λ is_met. is_met.there.linked opens))
          (λ (there : IsThere (queued w.driver) (queued_endpoint y)). inl (record { there = there; near = near }))
          (there_or (queued w.driver) (queued_endpoint y) kept)

  begin_then : TakenBegin (watched x) (queued w.driver) puts (wired fixed (controller_next fixed w))
  begin_then e z u here life sends is =
      let a : IsWatched (taker_of (wired fixed new) z.desc.name.addr z.desc.name.num) (x.takes z.desc.name.addr z.desc.name.num) u =
      watched_is (taker_of (wired fixed new) z.desc.name.addr z.desc.name.num) (x.takes z.desc.name.addr z.desc.name.num) u is in
      met_or e z here sends a.at_high (met_or_not e (v e z here sends a.at_high).endpoint) u life a.is

  takers_then : HaveTakers fixed x (controller_next fixed w)
  takers_then e y here way on =
      let z : Endpoint = queued_endpoint y in
      let there : slice_get d.endpoints e ≡ Some z = get_queued w.driver.endpoints e y here in
      let sends : receives z.desc.name.way ≡ false = ap (λ (name : EpName). receives name.way) (name_same y) ∙ ap receives way in
      let at_high : x.takes z.desc.name.addr z.desc.name.num ≡ true =
      ap (λ (name : EpName). x.takes name.addr name.num) (name_same y) ∙ on in
      subst (HasNamedTaker fixed new) (name_same y)
      (taker_then e z there sends at_high (met_or_not e (v e z there sends at_high).endpoint))

  pub controlled_pays : Pays fixed x (standing_then s w (c fixed x s m h w k).event) (record
      { acc = (goes fixed x s m h w k).moved; reported = m.reported }) puts (controller_next fixed w)
  controlled_pays = record {
    outs = outs_then;
    ended = ended_then;
    held = held_then;
    owes = owes_then;
    begin = begin_then;
    takers = takers_then;
  }
