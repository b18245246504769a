-- What the device of an OUT endpoint took begins the endpoint's puts, at each moment and with each event of the controller.
use Rattle.std.proofs.Common.{◌≡◌, ◌≢◌, ℕ, zero, suc, ◌+◌, ◌*◌, ◌<◌, ◌≤◌, Bool, true, false, List, ◌∷◌, ◌++◌, length, slice_get, Option, Some, None, ap, refl, sym, subst, ◌∙◌, ⊎_elim, inl, inr, arith}
use Rattle.std.specs.Prelude.{◌⊎◌}
use Rattle.std.specs.List.{concat}
use Rattle.std.proofs.lemmas.Bool.{cases_eq, false≢true, true≢false}
use Rattle.std.proofs.lemmas.List.{append_assoc}
use Rattle.std.proofs.lemmas.Option.{same_Some}
use Rattle.law_queues.proofs.Common.{behind_less}
use Rattle.law_world.proofs.Common.{times_one}
use Rattle.law_queues.proofs.Common.{last_one}
use Rattle.claims_base.specs.Prefix.{IsPrefix}
use Rattle.usb_base.specs.declared.endpoints.EndCause.{EndCause}
use Rattle.usb_base.specs.declared.packets.Ask.{Ask}
use Rattle.usb_base.specs.declared.packets.Reply.{Reply}
use Rattle.word_mem.specs.Memory.{Mem}
use Rattle.qh_qtd.specs.declared.queue_head.Qh.{Qh}
use Rattle.async_walk.specs.declared.state.WalkStep.{WalkStep}
use Rattle.drv_table.specs.declared.content.Command.{Command}
use Rattle.drv_table.specs.declared.content.Command.TheVariants as unfinished
use Rattle.drv_table.specs.declared.content.Endpoint.{Endpoint}
use Rattle.drv_table.specs.declared.content.Transfer.{Transfer}
use Rattle.drv_table.specs.DriverContent.{DriverContent}
use Rattle.drv_table.specs.Harvests.{note_at, buffer_bytes}
use Rattle.law_driver.specs.endpoint_lives.Lives.{told_end, may_meet, is_one_of}
use Rattle.law_driver.proofs.lemmas.endpoint_lives.Lives.{past_unmet}
use Rattle.claims_driver.specs.Leaving.{HasOwners, times}
use Rattle.law_driver.proofs.lemmas.run_owners.Orders.{IsLeft, has_left}
use Rattle.claims_driver.specs.Scripts.{receives}
use Rattle.law_driver.specs.chained_transfers.AsynchronousTurns.{AsynchronousTakesTurns}
use Rattle.law_driver.specs.chained_transfers.Out.{out_now, out_all}
use Rattle.law_structures.specs.lent_structures.Structures.{StructureSets, Tells}
use Rattle.law_structures.specs.lent_structures.Sound.{IsMember}
use Rattle.law_structures.proofs.lemmas.lent_structures.Altering.{found_queue}
use Rattle.law_ring.specs.Hand.{Hand}
use Rattle.claims_base.specs.Controller.{Base}
use Rattle.law_ring.specs.Ring.{IsInHand}
use Rattle.law_ring.specs.Effects.{Effect}
use Rattle.law_ring.specs.Effects.Effect.{reads, passes, ends, takes, makes, writes_back}
use Rattle.law_ring.specs.Order.{IsSorted, IsAmong, Accounts}
use Rattle.law_ring.specs.Front.{HasFront, HasTail}
use Rattle.law_ring.specs.Told.{Endpoint as Told}
use Rattle.law_ring.specs.Pipes.{AreEndpoints}
use Rattle.law_ring.specs.OutBus.{Taker, IsOutBus, KeepsTakers}
use Rattle.law_ring.specs.OutPipes.{IsOutPipe}
use Rattle.hc_core.specs.Controller.{Content, walk_place}
use Rattle.law_controller.specs.controlled_streams.Control.{IsControlled, ControlEffect, WalksRing, a_microframe, a_step}
use Rattle.law_controller.specs.controlled_streams.Reported.{IsReported}
use Rattle.law_driver_ring.specs.fed_queues.Fed.{AreFed, IsPublished}
use Rattle.law_driver_ring.specs.fed_queues.Places.{IsThere, IsMet, AreLast}
use Rattle.law_queues.specs.standing_fronts.Reaching.{Reaches}
use Rattle.law_world.specs.steps.Outs.{AreOutPiped}
use Rattle.law_world.proofs.lemmas.steps.Joining.{only_at}
use Rattle.law_queues.specs.whole_sends.Whole.{AreSentWhole, buffers_of}
use Rattle.law_queues.specs.whole_sends.Laws.{IsStopped, AreFresh}
use Rattle.law_queues.proofs.lemmas.whole_sends.Takers.{idle_takes_nothing, taken_is_in_order, taken_is_ahead}
use Rattle.law_world.specs.streams.put_laws.Held.{held_bytes}
use Rattle.law_world.specs.streams.put_laws.TakenPuts.{puts_of}
use Rattle.law_world.specs.streams.put_laws.Owed.{rest_of, Owes}
use Rattle.law_world.specs.streams.put_laws.Buffers.{IsPublishingTo, BuffersAreRest, BuffersBeforeLend, IsRestAround, BuffersAround}
use Rattle.law_world.specs.streams.put_laws.OwedTaken.{TakenBegin, EndedAreStopped, IsOutHead, OutsStand, TakenBeginsPuts, EventKeepsTaken}
use Rattle.law_world.proofs.lemmas.streams.lemmas.put_laws.Rests.{prefix_to}
use Rattle.law_world.proofs.lemmas.streams.lemmas.put_laws.TakenFresh.{out_fresh}

-- ---- whether something is published to the endpoint

pub record Publishes (d : DriverContent) (e : ℕ) : Type 0 where
  pub block : ℕ
  pub is : IsPublishingTo d e block

pub same_newest : (d : DriverContent) (t u : ℕ) (y z : Transfer) → suc t ≡ length d.transfers → suc u ≡ length d.transfers → slice_get d.transfers t ≡ Some y → slice_get d.transfers u ≡ Some z → y ≡ z
same_newest d t u y z first second there here =
    let same : t ≡ u = omega (arith, first, second) in
    same_Some y z (sym there ∙ ap (slice_get d.transfers) same ∙ here)

not_published : (d : DriverContent) (e : ℕ) (o : Option Command) → d.command ≡ o → ((b : ℕ) (words : List ℕ) → o ≢ Some (unfinished.Publish b words)) → (b : ℕ) → IsPublishingTo d e b → ⊥
not_published d e o is differs b k = differs b k.words (sym is ∙ k.command)

pub publishes_or : (d : DriverContent) (parts : StructureSets) (e : ℕ) → AreFed d parts → Publishes d e ⊎ ((b : ℕ) → IsPublishingTo d e b → ⊥)
publishes_or d parts e fed = by d.command refl
  where
    by : (o : Option Command) → d.command ≡ o → Publishes d e ⊎ ((b : ℕ) → IsPublishingTo d e b → ⊥)
    by None is = inr (not_published d e None is (λ b words same. cc))
    by (Some (unfinished.Open queue)) is = inr (not_published d e (Some (unfinished.Open queue)) is (λ b words same. cc))
    by (Some (unfinished.Unlink i b link)) is = inr (not_published d e (Some (unfinished.Unlink i b link)) is (λ c words same. cc))
    by (Some unfinished.Chain) is = inr (not_published d e (Some unfinished.Chain) is (λ b words same. cc))
    by (Some (unfinished.Iso i t count)) is = inr (not_published d e (Some (unfinished.Iso i t count)) is (λ b words same. cc))
    by (Some (unfinished.Unchain i)) is = inr (not_published d e (Some (unfinished.Unchain i)) is (λ b words same. cc))
    by (Some (unfinished.Publish b words)) is =
        let g : IsPublished d parts b words = fed.publishes b words is in
        ⊎_elim (λ (same : g.transfer.endpoint ≡ e).
        inl (record { block = b; is = record { words = words; command = is; number = g.number; transfer = g.transfer; newest = g.newest; there = g.there; its_endpoint = same } }))
        (λ (differs : g.transfer.endpoint ≢ e).
        inr (λ c k. differs (ap (λ (y : Transfer). y.endpoint) (same_newest d g.number k.number g.transfer k.transfer g.newest k.newest g.there k.there) ∙ k.its_endpoint))) (cases_eq g.transfer.endpoint e)

-- ---- whether the queue head is halted

pub stopped_or : (member : ℕ → Bool) (parts : StructureSets) (n : ℕ) → IsMember member n (parts n) → IsStopped parts n ⊎ (IsStopped parts n → ⊥)
stopped_or member parts n mem = by mem.queue.token.active mem.queue.token.halted refl refl
  where
    its : (k : IsStopped parts n) → k.0 ≡ mem.queue
    its k = found_queue (parts n n) k.0 mem.queue k.1 mem.here

    by : (a h : Bool) → mem.queue.token.active ≡ a → mem.queue.token.halted ≡ h → IsStopped parts n ⊎ (IsStopped parts n → ⊥)
    by false true off on = inl (mem.queue, mem.here, off, on)
    by true h off on = inr (λ k. true≢false (sym off ∙ ap (λ (q : Qh). q.token.active) (sym (its k)) ∙ k.2))
    by false false off on = inr (λ k. false≢true (sym on ∙ ap (λ (q : Qh). q.token.halted) (sym (its k)) ∙ k.3))

-- ---- an endpoint that was given back isn't met any more

-- what has left and isn't given back wasn't given back
not_listed : (d : DriverContent) (e : ℕ) (x : Endpoint) (es : List ℕ) (owners : HasOwners d) → times e es ≤ times e d.waiting + times e d.rung → slice_get d.endpoints e ≡ Some x → x.gone ≡ true → is_one_of e es ≡ false
not_listed d e x es owners few here gone = by (is_one_of e es) refl
  where
    by : (b : Bool) → is_one_of e es ≡ b → b ≡ false
    by false is = refl
    by true is =
        let some = times_one e es is in
        let most = owners.orderly.leaving e in
        let left : IsLeft d.endpoints e = has_left d.endpoints e (slice_get d.endpoints e) refl (omega (arith, some, few, most)) in
        absurd (true≢false (sym gone ∙ ap (λ (z : Endpoint). z.gone) (same_Some x left.endpoint (sym here ∙ left.here)) ∙ left.gone))

gone_unmet : (d : DriverContent) (e : ℕ) (x : Endpoint) → HasOwners d → AsynchronousTakesTurns d → slice_get d.endpoints e ≡ Some x → x.gone ≡ true → may_meet d e x ≡ false
gone_unmet d e x owners turns here gone =
    past_unmet d e x (record {
      unlinked = (turns.asynchronous.endpoints e x here).gone gone;
      waits = not_listed d e x d.waiting owners (omega arith) here gone;
      rung = not_listed d e x d.rung owners (omega arith) here gone;
    })

-- ---- what was sent, in turn

-- of a queue head that isn't halted: what its device took begins the bytes that were harvested and those of the qTDs that are out; while
-- the one at e is published, of those ahead of it
pub record IsToldInTurn (o : Option Taker) (z : Told) (parts : StructureSets) (hand : Hand) (n : ℕ) (order : ℕ → ℕ) (place : ℕ)
    (told harvested : List ℕ) : Type 0 where
  pub ordered : (out : List ℕ) → Accounts order place out hand parts n told → AreFresh out (parts n) → AreSentWhole order out hand n (parts n)
      → (p : IsOutPipe o (harvested ++ told) parts hand n z) → IsPrefix p.taker.taken (harvested ++ buffers_of (parts n) out)
  pub around : (front e : ℕ) (ahead behind : List ℕ) → Accounts order place (ahead ++ behind) hand parts n told
      → HasFront order front (ahead ++ behind) n (parts n) → HasTail order e front n (parts n)
      → ((c : ℕ) → IsAmong c behind → order e < order c) → AreSentWhole order (ahead ++ behind) hand n (parts n)
      → (p : IsOutPipe o (harvested ++ told) parts hand n z) → IsPrefix p.taker.taken (harvested ++ buffers_of (parts n) ahead)

pub told_in_turn : (member : ℕ → Bool) (parts : StructureSets) (hand : Hand) (reply : Reply) (n : ℕ) (order : ℕ → ℕ) (place : ℕ)
    (told harvested : List ℕ) (o : Option Taker) (z : Told) → IsMember member n (parts n) → IsInHand member parts reply hand
    → (IsStopped parts n → ⊥) → IsToldInTurn o z parts hand n order place told harvested
told_in_turn member parts hand reply n order place told harvested o z mem in_hand goes_on = record {
  ordered = λ out accounts fresh whole p.
      taken_is_in_order member parts hand reply order place out n told harvested o z mem in_hand accounts fresh whole p
      (λ stopped. absurd (goes_on stopped));
  around = λ front e ahead behind accounts fronts tail below whole p.
      taken_is_ahead member parts hand reply order place front ahead behind n e told harvested o z mem in_hand accounts fronts tail below whole p
      (λ stopped. absurd (goes_on stopped));
}

-- ---- at a moment

module _ (rest : BuffersAreRest) (before : BuffersBeforeLend) (around : BuffersAround) where
  -- however the bytes that were sent are told, they begin those of the qTDs that are out
  module _ (parts : StructureSets) (hand : Hand) (order : ℕ → ℕ → ℕ) (acc : List (List ℕ)) (d : DriverContent) (m : Mem) (puts reported : ℕ → List ℕ) (e : ℕ) (x : Endpoint) (o : Option Taker) (z : Told) (turns : AsynchronousTakesTurns d) (tells : Tells m parts) (fed : AreFed d parts) (last : AreLast d parts order) (owes : Owes d m puts reported) (here : slice_get d.endpoints e ≡ Some x) (meets : IsMet d e x) (sends : receives x.desc.name.way ≡ false) (goes : told_end x ≡ None)
      (rep : IsReported (order (32 * x.queue)) (out_now d e) hand parts (32 * x.queue) acc (reported (32 * x.queue)))
      (whole : AreSentWhole (order (32 * x.queue)) (out_now d e) hand (32 * x.queue) (parts (32 * x.queue)))
      (reaches : (b : ℕ) → IsPublishingTo d e b → Reaches d (parts (32 * x.queue)) (order (32 * x.queue)) (out_now d e) e x (32 * b))
      (told : IsToldInTurn o z parts hand (32 * x.queue) (order (32 * x.queue)) rep.place rep.told (reported (32 * x.queue))) where
    abbrev n : ℕ
    n = 32 * x.queue

    abbrev all : List ℕ
    all = concat (puts_of d puts e)

    all_are : reported n ++ rest_of d m e ≡ all
    all_are = owes.going e x here meets.there sends goes

    -- those that are out
    in_order : AreFresh (out_now d e) (parts n) → (p : IsOutPipe o (reported n ++ rep.told) parts hand n z) → IsPrefix p.taker.taken (reported n ++ buffers_of (parts n) (out_now d e))
    in_order fresh p =
        told.ordered (out_now d e) rep.accounts fresh whole p

    at_rest : ((b : ℕ) → IsPublishingTo d e b → ⊥) → (p : IsOutPipe o (reported n ++ rep.told) parts hand n z) → IsPrefix p.taker.taken all
    at_rest none p =
        prefix_to p.taker.taken (reported n ++ buffers_of (parts n) (out_now d e)) all
        (ap (λ (bs : List ℕ). reported n ++ bs) (sym (rest d m parts e x turns tells fed owes.last here sends goes none)) ∙ all_are)
        (in_order (out_fresh d parts e x turns fed here none) p)

    -- of these bytes all begin so, and more stand behind them
    behind_them : (ahead more taken : List ℕ) → rest_of d m e ≡ ahead ++ more → IsPrefix taken (reported n ++ ahead) → IsPrefix taken all
    behind_them ahead more taken is begins =
        prefix_to taken ((reported n ++ ahead) ++ more) all (append_assoc (reported n) ahead more ∙ ap (λ (bs : List ℕ). reported n ++ bs) (sym is) ∙ all_are)
        (last_one taken (reported n ++ ahead) more begins)

    module _ (b : ℕ) (k : IsPublishingTo d e b) where
      reach : Reaches d (parts n) (order n) (out_now d e) e x (32 * b)
      reach = reaches b k

      to_be_lent : d.made ≡ 0 → (p : IsOutPipe o (reported n ++ rep.told) parts hand n z) → IsPrefix p.taker.taken all
      to_be_lent none p =
          behind_them (buffers_of (parts n) (out_now d e)) (held_bytes m d.notes b k.transfer.qtds) p.taker.taken
          (before d m parts e b x turns tells fed owes.last here sends goes k none) (in_order reach.stands.has.fresh p)

      first_is : k.transfer.first ≡ b
      first_is =
          let g : IsPublished d parts b k.words = fed.publishes b k.words k.command in
          ap (λ (y : Transfer). y.first) (same_newest d k.number g.number k.transfer g.transfer k.newest g.newest k.there g.there) ∙ g.place.0

      is_lent : 1 ≤ d.made → (p : IsOutPipe o (reported n ++ rep.told) parts hand n z) → IsPrefix p.taker.taken all
      is_lent made p =
          let r : IsRestAround d m parts e n b = around d m parts e b x turns tells fed owes.last here sends goes k made in
          let sorted : IsSorted (order n) (out_all d k.transfer.endpoint) = last.sorted b k.words k.number k.transfer x k.command made k.newest k.there first_is (ap (slice_get d.endpoints) k.its_endpoint ∙ here) in
          let sorted_so : IsSorted (order n) (r.ahead ++ 32 * b ∷ r.behind) = subst (IsSorted (order n)) (ap (out_all d) k.its_endpoint ∙ r.all_are) sorted in
          let accounts : Accounts (order n) rep.place (r.ahead ++ r.behind) hand parts n rep.told = subst (λ (xs : List ℕ). Accounts (order n) rep.place xs hand parts n rep.told) r.out_are rep.accounts in
          let fronts : HasFront (order n) reach.stands.front (r.ahead ++ r.behind) n (parts n) = subst (λ (xs : List ℕ). HasFront (order n) reach.stands.front xs n (parts n)) r.out_are reach.stands.has in
          let sent : AreSentWhole (order n) (r.ahead ++ r.behind) hand n (parts n) = subst (λ (xs : List ℕ). AreSentWhole (order n) xs hand n (parts n)) r.out_are whole in
          behind_them (buffers_of (parts n) r.ahead) (buffer_bytes m (note_at d.notes b) (note_at d.notes b).told ++ buffers_of (parts n) r.behind) p.taker.taken r.rest_is
          (told.around reach.stands.front (32 * b) r.ahead r.behind accounts fronts reach.tail
          (λ c among. behind_less (order n) (32 * b) c r.ahead r.behind sorted_so among) sent p)

      by_made : (made : ℕ) → d.made ≡ made → (p : IsOutPipe o (reported n ++ rep.told) parts hand n z) → IsPrefix p.taker.taken all
      by_made zero is p = to_be_lent is p
      by_made (suc made) is p = is_lent (omega (arith, is)) p

    told_so : (p : IsOutPipe o (reported n ++ rep.told) parts hand n z) → IsPrefix p.taker.taken all
    told_so p =
        ⊎_elim (λ (k : Publishes d e). by_made k.block k.is d.made refl p) (λ (none : (b : ℕ) → IsPublishingTo d e b → ⊥). at_rest none p) (publishes_or d parts e fed)

    pub known_so : (p : IsOutPipe o (concat acc) parts hand n z) → IsPrefix p.taker.taken all
    known_so = subst (λ (xs : List ℕ). (p : IsOutPipe o xs parts hand n z) → IsPrefix p.taker.taken all) rep.sum told_so

  pub taken_begins : TakenBeginsPuts
  taken_begins member parts hand reply order acc d m puts reported e x o z turns tells fed last owes here meets sends goes mem in_hand rep whole reaches p stopped =
      ⊎_elim (λ (is : IsStopped parts (32 * x.queue)). stopped is)
      (λ (goes_on : IsStopped parts (32 * x.queue) → ⊥).
      known_so parts hand order acc d m puts reported e x o z turns tells fed last owes here meets sends goes rep whole reaches
      (told_in_turn member parts hand reply (32 * x.queue) (order (32 * x.queue)) rep.place rep.told (reported (32 * x.queue)) o z mem in_hand goes_on)
      p) (stopped_or member parts (32 * x.queue) mem)

  -- ---- an event of the controller

  module _ {W : Type 0} (begins : W → ℕ → Bool → W → Type 0) (transacts : W → Ask → List ℕ → Reply → W → Type 0) (stream : ℕ → ℕ → Bool) (taker : W → ℕ → ℕ → Option Taker) (base : Base) (member outs heads : ℕ → Bool) (ends_are : ℕ → Told) (parts : StructureSets) (hand : Hand) (c new : Content) (wire after : W) (now : StructureSets) (later : Hand) (known : ℕ → List ℕ) (d : DriverContent) (order : ℕ → ℕ → ℕ) (out : ℕ → List ℕ) (acc : ℕ → List (List ℕ)) (puts reported : ℕ → List ℕ) (bus : IsOutBus transacts stream taker) (keeps : KeepsTakers begins stream taker) (endpoints : AreEndpoints stream member outs ends_are) (controlled : IsControlled base member parts hand c) (controlled_now : IsControlled base member now later new) (piped : AreOutPiped stream taker member outs ends_are known parts hand wire) (ended : EndedAreStopped d parts) (stand : OutsStand stream taker member outs heads ends_are d new.memory now later order out acc puts reported after) (was : TakenBegin taker d puts wire) (e : ℕ) (x : Endpoint) (s : Taker) (here : slice_get d.endpoints e ≡ Some x) (meets : IsMet d e x) (sends : receives x.desc.name.way ≡ false) (is : taker after x.desc.name.addr x.desc.name.num ≡ Some s) where
    abbrev k : ℕ
    k = 32 * x.queue

    head : IsOutHead d outs heads ends_are x
    head = stand.heads_are e x here meets sends

    old : IsOutPipe (taker wire (ends_are k).addr (ends_are k).ep) (known k) parts hand k (ends_are k)
    old = piped.pipes k head.out

    addressed : ((ends_are k).addr ≡ x.desc.name.addr) × ((ends_are k).ep ≡ x.desc.name.num)
    addressed = (ap (λ (r : Told). r.addr) head.named, ap (λ (r : Told). r.ep) head.named)

    old_is : taker wire x.desc.name.addr x.desc.name.num ≡ Some old.taker
    old_is = ap (λ (a : ℕ). taker wire a x.desc.name.num) (sym addressed.0) ∙ ap (taker wire (ends_are k).addr) (sym addressed.1) ∙ old.is

    -- where the taker stays
    stays : taker after (ends_are k).addr (ends_are k).ep ≡ Some old.taker → IsPrefix s.taken (concat (puts_of d puts e))
    stays same =
        let after_is : taker after x.desc.name.addr x.desc.name.num ≡ Some old.taker = ap (λ (a : ℕ). taker after a x.desc.name.num) (sym addressed.0) ∙ ap (taker after (ends_are k).addr) (sym addressed.1) ∙ same in
        subst (λ (t : Taker). IsPrefix t.taken (concat (puts_of d puts e))) (same_Some old.taker s (sym after_is ∙ is)) (was e x old.taker here (inr meets.there) sends old_is)

    quiet : after ≡ wire → IsPrefix s.taken (concat (puts_of d puts e))
    quiet same = stays (ap (λ (w : W). taker w (ends_are k).addr (ends_are k).ep) same ∙ old.is)

    member_was : IsMember member k (parts k)
    member_was = controlled.ring.members k (endpoints.members k head.out)

    -- the queue head was halted
    halted : WalksRing transacts parts hand wire after now later → IsStopped parts k → IsPrefix s.taken (concat (puts_of d puts e))
    halted w stopped =
        stays
        (idle_takes_nothing transacts stream taker member parts hand (walk_place c).walk.reply wire after now later k (ends_are k) old.taker stopped.0 bus controlled.ring.members controlled.ring.in_hand w.streams
        (only_at stream member outs ends_are parts endpoints (λ i also. (piped.pipes i also).named) piped.others k head.out) old.is stopped.1 stopped.2).0

    -- or it wasn't, and nothing but the wire changes
    worked : now ≡ parts → (IsStopped parts k → ⊥) → IsPrefix s.taken (concat (puts_of d puts e))
    worked unchanged goes_on =
        let p = stand.piped.pipes k head.out in
        let out_is : out k ≡ out_now d e = stand.out_are e x here meets.there in
        let p_is : taker after x.desc.name.addr x.desc.name.num ≡ Some p.taker = ap (λ (a : ℕ). taker after a x.desc.name.num) (sym addressed.0) ∙ ap (taker after (ends_are k).addr) (sym addressed.1) ∙ p.is in
        let rep : IsReported (order k) (out_now d e) later now k (acc k) (reported k) =
        subst (λ (xs : List ℕ). IsReported (order k) xs later now k (acc k) (reported k)) out_is (stand.reports k head.counted) in
        subst (λ (t : Taker). IsPrefix t.taken (concat (puts_of d puts e))) (same_Some p.taker s (sym p_is ∙ is))
        (known_so now later order (acc k) d new.memory puts reported e x (taker after (ends_are k).addr (ends_are k).ep) (ends_are k) stand.turns controlled_now.ring.tells stand.fed stand.last stand.owes here meets sends goes rep
        (subst (λ (xs : List ℕ). AreSentWhole (order k) xs later k (now k)) out_is (stand.sent e x here meets sends))
        (λ b publishing. subst (λ (xs : List ℕ). Reaches d (now k) (order k) xs e x (32 * b)) out_is (stand.tails e b x here meets sends publishing))
        (told_in_turn member now later (walk_place new).walk.reply k (order k) rep.place rep.told (reported k) (taker after (ends_are k).addr (ends_are k).ep) (ends_are k)
        (controlled_now.ring.members k (endpoints.members k head.out)) controlled_now.ring.in_hand
        (λ stopped. goes_on (subst (λ (ps : StructureSets). IsStopped ps k) unchanged stopped))) p)
      where
        goes : told_end x ≡ None
        goes = by (told_end x) refl
          where
            by : (o : Option EndCause) → told_end x ≡ o → o ≡ None
            by None so = refl
            by (Some cause) so = absurd (goes_on (ended e x cause here meets.there.kept sends so))

    by_kind : (w : WalksRing transacts parts hand wire after now later) (kind : WalkStep) → Effect transacts parts hand wire after now later kind → IsPrefix s.taken (concat (puts_of d puts e))
    by_kind w kind (reads r unchanged same) = quiet same
    by_kind w kind (passes r unchanged same) = quiet same
    by_kind w kind (ends r unchanged same) = quiet same
    by_kind w kind (takes t same) = quiet same
    by_kind w kind (writes_back b same) = quiet same
    by_kind w kind (makes m unchanged) =
        ⊎_elim (λ (stopped : IsStopped parts k). halted w stopped) (λ (goes_on : IsStopped parts k → ⊥). worked unchanged goes_on) (stopped_or member parts k member_was)

    pub still_begins : ControlEffect begins transacts parts hand wire after now later → IsPrefix s.taken (concat (puts_of d puts e))
    still_begins (a_microframe b) = stays (keeps wire b.index b.allowed after (ends_are k).addr (ends_are k).ep old.taker b.asked (endpoints.on k head.out) old.is)
    still_begins (a_step w) = by_kind w w.kind w.effect

  pub event_taken : {W : Type 0} (begins : W → ℕ → Bool → W → Type 0) (transacts : W → Ask → List ℕ → Reply → W → Type 0) → EventKeepsTaken begins transacts
  event_taken begins transacts stream taker base member outs heads ends_are parts hand c new wire after now later known d order out acc puts reported bus keeps endpoints controlled controlled_now effect owners piped ended stand leave was e x s here life sends is =
      by (may_meet d e x) refl
    where
      by : (b : Bool) → may_meet d e x ≡ b → IsPrefix s.taken (concat (puts_of d puts e))
      by false off = was e x s here life sends (sym (leave e x here sends off) ∙ is)
      by true near =
          ⊎_elim (λ (gone : x.gone ≡ true). absurd (false≢true (sym (gone_unmet d e x owners stand.turns here gone) ∙ near)))
          (λ (there : IsThere d x).
          still_begins begins transacts stream taker base member outs heads ends_are parts hand c new wire after now later known d order out acc puts reported bus keeps endpoints controlled controlled_now piped ended stand was e x s here (record { there = there; near = near }) sends is effect)
          life
