-- An event of the walk of the frames leaves in hand a siTD whose transaction isn't written back yet, or none (EHCI 1.0, 4.6 and 4.12.3).
use Rattle.std.proofs.Common.{◌≡◌, ◌≢◌, ℕ, ◌-◌, ◌≤◌, Bool, true, false, if◌then◌else◌, List, ◌∷◌, length, Option, Some, None, ap, refl}
use Rattle.std.proofs.Common.{sym, subst, ◌∙◌, arith}
use Rattle.std.specs.Prelude.{not, ◌&&◌, nat_le, nat_lt}
use Rattle.std.proofs.lemmas.Bool.{false≢true, le-leb}
use Rattle.usb_base.specs.declared.packets.Ask.{Ask}
use Rattle.usb_base.specs.declared.packets.Pid.TheVariants.{Mdata, Data0, Nyet}
use Rattle.usb_base.specs.declared.packets.Reply.{Reply}
use Rattle.usb_base.specs.declared.packets.Reply.TheVariants as replies
use Rattle.itd_sitd.specs.declared.sitd.Sitd.{Sitd}
use Rattle.toggle_error.specs.declared.host.Outcome.{Outcome}
use Rattle.mem_queues.specs.Structures.{reaches_queue_head}
use Rattle.hc_copy.specs.Buffer.{Writing, sending}
use Rattle.hc_masks.specs.Masks.{is_last, with_bit}
use Rattle.hc_interrupt.specs.Copies.{goes_on}
use Rattle.hc_interrupt.specs.Turns.{microframe_of}
use Rattle.hc_iso.specs.declared.held.HeldItd.{HeldItd}
use Rattle.hc_iso.specs.declared.held.HeldSitd.{HeldSitd}
use Rattle.hc_iso.specs.declared.held.IsoEnd.{IsoEnd}
use Rattle.hc_iso.specs.declared.held.IsoTransaction.{IsoTransaction}
use Rattle.hc_iso.specs.declared.held.SitdTurn.{SitdTurn}
use Rattle.hc_iso.specs.declared.held.SitdTurn.TheVariants as turns
use Rattle.hc_iso.specs.declared.held.SplitHeard.{SplitHeard}
use Rattle.hc_iso.specs.declared.held.SplitHeard.TheVariants as heards
use Rattle.hc_iso.specs.declared.held.SplitOutcome.{SplitOutcome}
use Rattle.hc_iso.specs.declared.held.SplitOutcome.TheVariants.{Failed}
use Rattle.hc_iso.specs.Itd.{fetched_itd}
use Rattle.hc_iso.specs.Sitd.{sitd_turn, sitd_transaction, sitd_after, in_after, after_part, after_start}
use Rattle.hc_iso.specs.Sitd.{after_complete, after_split_heard, heard_by, heard_nyet, missed_copy}
use Rattle.hc_iso.specs.WriteBack.{itd_sending, itd_written, sitd_sending}
use Rattle.async_walk.specs.declared.state.WalkStep.{WalkStep}
use Rattle.async_walk.specs.declared.state.WalkStep.TheVariants as walks
use Rattle.periodic_walk.specs.declared.chain.ChainRow.{ChainRow}
use Rattle.periodic_walk.specs.declared.chain.ChainRow.TheVariants as chains
use Rattle.periodic_walk.specs.declared.itd.ItdRow.{ItdRow}
use Rattle.periodic_walk.specs.declared.itd.ItdRow.TheVariants as itds
use Rattle.periodic_walk.specs.declared.queue.QueueRow.{QueueRow}
use Rattle.periodic_walk.specs.declared.queue.QueueRow.TheVariants as queues
use Rattle.periodic_walk.specs.declared.sitd.SitdRow.{SitdRow}
use Rattle.periodic_walk.specs.declared.sitd.SitdRow.TheVariants as rows
use Rattle.periodic_walk.specs.declared.state.Hand.{Hand}
use Rattle.periodic_walk.specs.declared.state.Hand.TheVariants as hands
use Rattle.periodic_walk.specs.declared.state.HeldQueue.{HeldQueue}
use Rattle.periodic_walk.specs.Chain.{chain_row, chain_read, chain_after, chain_step}
use Rattle.periodic_walk.specs.Itd.{itd_row, itd_effect, wrote_at as itd_wrote_at}
use Rattle.periodic_walk.specs.Place.{FramePlace, reading, Effect, sent}
use Rattle.periodic_walk.specs.Queue.{queue_row, queue_read, queue_effect, missed, miss_outcome}
use Rattle.periodic_walk.specs.Queue.{writing as queue_writing, wrote_at as queue_wrote_at}
use Rattle.periodic_walk.specs.Rows.{step_at, effect_at}
use Rattle.periodic_walk.specs.Sitd.{settled_row, turn_row, sitd_step, sitd_effect, sitd_left_by, writing, wrote_at}
use Rattle.periodic_walk.specs.Walk.{Walk}
use Rattle.hc_core.specs.declared.controller.MicroframePart.{MicroframePart}
use Rattle.hc_core.specs.declared.controller.MicroframePart.TheVariants.{Periodic, Asynchronous, Over}
use Rattle.hc_core.specs.Controller.{part_after, hc_step}
use Rattle.claims_world.specs.InTime.{is_late_sitd, is_late_split, is_late_at}
use Rattle.claims_world.specs.Sitds.{SitdMade, came_as, came_by, came_at, made_as, made_in, IsPartMade, HasTaken, IsCompleteMade, IsServed}
use Rattle.claims_world.specs.Sitds.{AreServed}
use Rattle.law_microframes.proofs.lemmas.due.lemmas.slots.Events.{AllPlaces, map_all}

-- ---- what isn't written back yet

-- of those that came, the one in hand, of which this is to be done; and the others
pub record IsAtHand (u : ℕ) (h : HeldSitd) (cs : List (ℕ × Sitd)) (ms : List SitdMade) : Type 0 where
  pub rest : List (ℕ × Sitd)
  pub is : cs ≡ (h.at, h.sitd) ∷ rest
  pub served : AreServed u rest ms

abbrev pub WithTurn : ℕ → SitdTurn → HeldSitd → List (ℕ × Sitd) → List SitdMade → Type 0
WithTurn u turns.Work h cs ms = IsAtHand u h cs ms
WithTurn u turns.Rest h cs ms = AreServed u cs ms
WithTurn u turns.Miss h cs ms = AreServed u cs ms

abbrev pub made_of : HeldSitd → Reply → SitdMade
made_of h r = record { at = h.at; sitd = h.sitd; heard = r }

-- .. in whose transaction the host heard r
pub record IsMadeAtHand (u : ℕ) (h : HeldSitd) (r : Reply) (cs : List (ℕ × Sitd)) (ms : List SitdMade) : Type 0 where
  pub rest : List (ℕ × Sitd)
  pub sitd : Sitd
  pub is : cs ≡ (h.at, sitd) ∷ rest
  pub one : IsServed u sitd (made_of h r)
  pub served : AreServed u rest ms

abbrev pub WithSitd : ℕ → Option SplitOutcome → HeldSitd → Reply → List (ℕ × Sitd) → List SitdMade → Type 0
WithSitd u None h r cs ms = WithTurn u (sitd_turn u h.sitd) h cs ms
WithSitd u (Some outcome) h r cs ms = IsMadeAtHand u h r cs ms

abbrev pub WithHand : ℕ → Option Hand → Reply → List (ℕ × Sitd) → List SitdMade → Type 0
WithHand u None r cs ms = AreServed u cs ms
WithHand u (Some (hands.Queue h)) r cs ms = AreServed u cs ms
WithHand u (Some (hands.Itd h)) r cs ms = AreServed u cs ms
WithHand u (Some (hands.Sitd h)) r cs ms = WithSitd u h.settled h r cs ms

-- outside the periodic part nothing is in hand
abbrev pub WithPart : ℕ → MicroframePart → Option Hand → Reply → List (ℕ × Sitd) → List SitdMade → Type 0
WithPart u Periodic hand r cs ms = WithHand u hand r cs ms
WithPart u Asynchronous hand r cs ms = AreServed u cs ms
WithPart u Over hand r cs ms = AreServed u cs ms

-- ---- no siTD in hand

abbrev NoSitd : Option Hand → Type 0
NoSitd None = Unit {0}
NoSitd (Some (hands.Queue h)) = Unit {0}
NoSitd (Some (hands.Itd h)) = Unit {0}
NoSitd (Some (hands.Sitd h)) = ⊥

no_sitd : (u : ℕ) (part : MicroframePart) (hand : Option Hand) (r : Reply) (cs : List (ℕ × Sitd)) (ms : List SitdMade) → NoSitd hand
    → AreServed u cs ms → WithPart u part hand r cs ms
no_sitd u Periodic None r cs ms k served = served
no_sitd u Periodic (Some (hands.Queue h)) r cs ms k served = served
no_sitd u Periodic (Some (hands.Itd h)) r cs ms k served = served
no_sitd u Periodic (Some (hands.Sitd h)) r cs ms k served = absurd k
no_sitd u Asynchronous hand r cs ms k served = served
no_sitd u Over hand r cs ms k served = served

abbrev Off : FramePlace → Type 0
Off q = NoSitd q.walk.hand

either_place : (b : Bool) (x y : FramePlace) → Off x → Off y → Off (if b then x else y)
either_place true x y one other = one
either_place false x y one other = other

either_walk : (b : Bool) (x y : Walk) → NoSitd x.hand → NoSitd y.hand → NoSitd (if b then x else y).hand
either_walk true x y one other = one
either_walk false x y one other = other

sent_off : (b : Bool) (ask : Ask) (out : List ℕ) (left_by : Reply → FramePlace) (p : FramePlace)
    → ((reply : Reply) → Off (left_by reply)) → AllPlaces Off (sent b ask out left_by p)
sent_off true ask out left_by p off = off
sent_off false ask out left_by p off = tt

queue_wrote : (b : Bool) (h : HeldQueue) (outcome : Outcome) (p : FramePlace) → Off (queue_wrote_at b h outcome p)
queue_wrote true h outcome p = either_walk (goes_on h.made h.copy.queue_head outcome) _ _ tt tt
queue_wrote false h outcome p = tt

queue_off : (row : QueueRow) (h : HeldQueue) (p : FramePlace) → AllPlaces Off (queue_effect row h p)
queue_off queues.Fault h p = tt
queue_off queues.Skip h p = tt
queue_off (queues.Advance a t) h p = either_place (reaches_queue_head p.memory h.copy.at) _ _ tt tt
queue_off (queues.Transact t) h p =
    sent_off (sending t h.copy.queue_head p.memory).all _ _ _ (record p { memory = (sending t h.copy.queue_head p.memory).memory })
    (λ reply. tt)
queue_off queues.Miss h p =
    let w : Writing = queue_writing (missed h).copy miss_outcome p.walk.reply p.memory in
    queue_wrote w.all (missed h) miss_outcome (record p { memory = w.memory })
queue_off (queues.WriteBack outcome) h p =
    let w : Writing = queue_writing h.copy outcome p.walk.reply p.memory in
    queue_wrote w.all h outcome (record p { memory = w.memory })

itd_wrote : (b : Bool) (h : HeldItd) (ended : IsoEnd) (p : FramePlace) → Off (itd_wrote_at b h ended p)
itd_wrote true h ended p = tt
itd_wrote false h ended p = tt

itd_off : (row : ItdRow) (h : HeldItd) (p : FramePlace) → AllPlaces Off (itd_effect row h p)
itd_off itds.Skip h p = tt
itd_off (itds.Transact t) h p =
    sent_off (itd_sending t h p.memory).all _ _ _ (record p { memory = (itd_sending t h p.memory).memory }) (λ reply. tt)
itd_off (itds.WriteBack ended) h p =
    let w : Writing = itd_written h p.walk.got p.memory in
    itd_wrote w.all h ended (record p { memory = w.memory })

-- ---- what came is what was made, and what is in hand

abbrev pub Serves : ℕ → List (ℕ × Sitd) → List SitdMade → WalkStep → FramePlace → Type 0
Serves u cs ms step q = WithPart u (part_after Periodic step) q.walk.hand q.walk.reply cs ms

off_serves : (u : ℕ) (cs : List (ℕ × Sitd)) (ms : List SitdMade) (step : WalkStep) (e : Effect) → AreServed u cs ms → AllPlaces Off e
    → AllPlaces (Serves u cs ms step) e
off_serves u cs ms step e served all =
    map_all Off (Serves u cs ms step) e (λ q off. no_sitd u (part_after Periodic step) q.walk.hand q.walk.reply cs ms off served) all

-- ---- nothing in hand

fetched : (turn : SitdTurn) (u : ℕ) (h : HeldSitd) (cs : List (ℕ × Sitd)) (ms : List SitdMade) → AreServed u cs ms
    → WithTurn u turn h (came_as turn h.at h.sitd cs) ms
fetched turns.Work u h cs ms served = record { rest = cs; is = refl; served = served }
fetched turns.Rest u h cs ms served = served
fetched turns.Miss u h cs ms served = served

chain_serves : (row : ChainRow) (p : FramePlace) (cs : List (ℕ × Sitd)) (ms : List SitdMade) → AreServed (microframe_of p.walk.index) cs ms
    → Serves (microframe_of p.walk.index) (came_by (microframe_of p.walk.index) row cs) ms (chain_step row) (chain_after row p)
unfolding fetched_itd
chain_serves chains.Fault p cs ms served = served
chain_serves chains.Ends p cs ms served = served
chain_serves (chains.Queue a q) p cs ms served = served
chain_serves (chains.Itd a v) p cs ms served = served
chain_serves (chains.Sitd a v) p cs ms served =
    fetched (sitd_turn (microframe_of p.walk.index) v) (microframe_of p.walk.index) (record { at = a; sitd = v; settled = None }) cs ms
    served

-- ---- its transaction

out_made : (u : ℕ) (v : Sitd) → IsPartMade u v (after_part u v)
unfolding after_part
out_made u v = record { parts = refl; bytes = refl; marked = refl; active = refl }

in_started : (v : Sitd) → (after_start v).split_state ≡ true
unfolding after_start
in_started v = refl

heard_marks : (u : ℕ) (heard : SplitHeard) (v : Sitd) → (after_split_heard heard v).c_prog ≡ v.c_prog
heard_marks u (heards.Data last n) v = refl
heard_marks u heards.Later v = refl
heard_marks u heards.TooLong v = refl
heard_marks u heards.Error v = refl
heard_marks u heards.Wrong v = refl

completed_marks : (u : ℕ) (heard : SplitHeard) (v : Sitd) → (after_complete u heard v).c_prog ≡ with_bit v.c_prog u
unfolding after_complete
completed_marks u heard v = ap (λ (n : ℕ). with_bit n u) (heard_marks u heard v)

and_true : (b : Bool) → (b && not false) ≡ b
and_true true = refl
and_true false = refl

and_false : (b : Bool) → (b && not true) ≡ false
and_false true = refl
and_false false = refl

less_none : (n : ℕ) → n ≡ n - 0
less_none n = omega arith

-- what it heard tells what a complete-split leaves
room_for : (n total : ℕ) (a b : SplitHeard) → n ≤ total → (if nat_le n total then a else b) ≡ a
room_for n total a b fits = ap (λ (c : Bool). if c then a else b) (le-leb n total fits)

module _ (u : ℕ) (v : Sitd) where
  abbrev Left : SplitHeard → Sitd
  Left heard = after_complete u heard v

  taken : (last : Bool) (n : ℕ) → HasTaken v (after_complete u (heards.Data last n) v) n
  unfolding after_complete
  taken last n = record { bytes = refl; err = refl; babble = refl; transaction = refl; missed = refl }

  goes_on_active : (n : ℕ) → (after_complete u (heards.Data false n) v).active ≡ v.active
  unfolding after_complete
  goes_on_active n = and_true v.active

  ends_active : (n : ℕ) → (after_complete u (heards.Data true n) v).active ≡ false
  unfolding after_complete
  ends_active n = and_false v.active

  waits_on : HasTaken v (after_complete u heards.Later v) 0 × ((after_complete u heards.Later v).active ≡ v.active)
  unfolding after_complete
  waits_on = (record { bytes = less_none v.total; err = refl; babble = refl; transaction = refl; missed = refl }, refl)

  heard_more : (bytes : List ℕ) (reply : Reply) → reply ≡ replies.Bytes Mdata bytes → length bytes ≤ v.total
      → heard_by u v reply ≡ heards.Data false (length bytes)
  heard_more bytes reply is fits =
      ap (heard_by u v) is ∙ room_for (length bytes) v.total (heards.Data false (length bytes)) heards.TooLong fits

  heard_last : (bytes : List ℕ) (reply : Reply) → reply ≡ replies.Bytes Data0 bytes → length bytes ≤ v.total
      → heard_by u v reply ≡ heards.Data true (length bytes)
  heard_last bytes reply is fits =
      ap (heard_by u v) is ∙ room_for (length bytes) v.total (heards.Data true (length bytes)) heards.TooLong fits

  heard_later : (reply : Reply) → reply ≡ replies.Hand Nyet → is_last v.cmask u ≡ false → heard_by u v reply ≡ heards.Later
  heard_later reply is more = ap (heard_by u v) is ∙ ap heard_nyet more

  complete_made : (a : ℕ) (reply : Reply)
      → IsCompleteMade u v (record { at = a; sitd = after_complete u (heard_by u v reply) v; heard = reply })
  complete_made a reply = record {
    marked = completed_marks u (heard_by u v reply) v;
    more = λ bytes is fits.
        subst (λ (h : SplitHeard). HasTaken v (Left h) (length bytes) × ((Left h).active ≡ v.active)) (sym (heard_more bytes reply is fits))
        (taken false (length bytes), goes_on_active (length bytes));
    last = λ bytes is fits.
        subst (λ (h : SplitHeard). HasTaken v (Left h) (length bytes) × ((Left h).active ≡ false)) (sym (heard_last bytes reply is fits))
        (taken true (length bytes), ends_active (length bytes));
    not_yet = λ is later.
        subst (λ (h : SplitHeard). HasTaken v (Left h) 0 × ((Left h).active ≡ v.active)) (sym (heard_later reply is later)) waits_on;
  }

pub one_served : (u a : ℕ) (reply : Reply) (v : Sitd) → IsServed u v (record { at = a; sitd = sitd_after u reply v; heard = reply })
one_served u a reply v = record {
  part = λ out.
      subst (λ (b : Bool). IsPartMade u v (if b then in_after u reply v else after_part u v)) (sym out) (out_made u v);
  started = λ inward idle.
      ap (λ (b : Bool). (if b then in_after u reply v else after_part u v).split_state) inward
      ∙ ap (λ (b : Bool). (if b then after_complete u (heard_by u v reply) v else after_start v).split_state) idle ∙ in_started v;
  completed = λ inward waiting.
      subst (λ (b : Bool). IsCompleteMade u v (record { at = a; sitd = if b then in_after u reply v else after_part u v; heard = reply }))
      (sym inward)
      (subst (λ (b : Bool). IsCompleteMade u v (record {
        at = a;
        sitd = if b then after_complete u (heard_by u v reply) v else after_start v;
        heard = reply;
      })) (sym waiting) (complete_made u v a reply));
}

-- ---- a siTD in hand

module _ (h : HeldSitd) (p : FramePlace) (cs : List (ℕ × Sitd)) (ms : List SitdMade) where
  abbrev u : ℕ
  u = microframe_of p.walk.index

  abbrev Then : SitdRow → Type 0
  Then row =
      AllPlaces (Serves u cs (made_in (Some (hands.Sitd h)) p.walk.reply (hc_step (sitd_step row h p)) ms) (sitd_step row h p))
      (sitd_effect row h p)

  -- a transaction
  sent_serves : (t : IsoTransaction) (b : Bool) → (sitd_sending t h.sitd p.memory).all ≡ b → (sitd_step (rows.Transact t) h p ≢ walks.Fault)
      → IsAtHand (microframe_of p.walk.index) h cs ms → Then (rows.Transact t)
  sent_serves t true all sound is =
      subst (λ (b : Bool). AllPlaces (Serves u cs (made_in (Some (hands.Sitd h)) p.walk.reply
      (hc_step (if b then walks.Transact else walks.Fault)) ms)
      (if b then walks.Transact else walks.Fault)) (sent b t.ask (sitd_sending t h.sitd p.memory).bytes
      (sitd_left_by t h (record p { memory = (sitd_sending t h.sitd p.memory).memory }))
      (record p { memory = (sitd_sending t h.sitd p.memory).memory })))
      (sym all)
      (λ reply. record { rest = is.rest; sitd = h.sitd; is = is.is; one = one_served u h.at reply h.sitd; served = is.served })
  sent_serves t false all sound is = absurd (sound (ap (λ (b : Bool). if b then walks.Transact else walks.Fault) all))

  timed_serves : (late : Bool) (t : IsoTransaction) → late ≡ false
      → (sitd_step (if late then rows.Skip else rows.Transact t) h p ≢ walks.Fault) → IsAtHand (microframe_of p.walk.index) h cs ms
      → Then (if late then rows.Skip else rows.Transact t)
  timed_serves true t in_time sound is = absurd (false≢true (sym in_time))
  timed_serves false t in_time sound is = sent_serves t (sitd_sending t h.sitd p.memory).all refl sound is

  -- a microframe of it was missed: it is written back, with no transaction
  missed_serves : (b : Bool) → (writing (missed_copy h) Failed p.walk.reply p.memory).all ≡ b → h.settled ≡ None
      → (sitd_step rows.Miss h p ≢ walks.Fault) → AreServed (microframe_of p.walk.index) cs ms → Then rows.Miss
  missed_serves true all fresh sound served =
      subst (λ (b : Bool). Serves u cs (made_in (Some (hands.Sitd h)) p.walk.reply
      (hc_step (if b then walks.WriteBack else walks.Fault)) ms)
      (if b then walks.WriteBack else walks.Fault)
      (wrote_at b (missed_copy h) Failed (record p { memory = (writing (missed_copy h) Failed p.walk.reply p.memory).memory }))) (sym all)
      (subst (λ (o : Option SplitOutcome). AreServed u cs (made_as o h.at h.sitd p.walk.reply ms)) (sym fresh) served)
  missed_serves false all fresh sound served = absurd (sound (ap (λ (b : Bool). if b then walks.WriteBack else walks.Fault) all))

  turned_serves : (turn : SitdTurn) → is_late_split p.walk.left h.sitd turn ≡ false → h.settled ≡ None
      → (sitd_step (turn_row p.walk.left h.sitd turn) h p ≢ walks.Fault) → WithTurn (microframe_of p.walk.index) turn h cs ms
      → Then (turn_row p.walk.left h.sitd turn)
  turned_serves turns.Rest in_time fresh sound is = is
  turned_serves turns.Miss in_time fresh sound is =
      missed_serves (writing (missed_copy h) Failed p.walk.reply p.memory).all refl fresh sound is
  turned_serves turns.Work in_time fresh sound is =
      timed_serves (nat_lt p.walk.left (sitd_transaction h.sitd).price.0) (sitd_transaction h.sitd) in_time sound is

  -- its write-back
  wrote_serves : (outcome : SplitOutcome) (b : Bool) → (writing h outcome p.walk.reply p.memory).all ≡ b → h.settled ≡ Some outcome
      → (sitd_step (rows.WriteBack outcome) h p ≢ walks.Fault) → IsMadeAtHand (microframe_of p.walk.index) h p.walk.reply cs ms
      → Then (rows.WriteBack outcome)
  wrote_serves outcome true all settled sound is =
      subst (λ (b : Bool). Serves u cs (made_in (Some (hands.Sitd h)) p.walk.reply
      (hc_step (if b then walks.WriteBack else walks.Fault)) ms)
      (if b then walks.WriteBack else walks.Fault)
      (wrote_at b h outcome (record p { memory = (writing h outcome p.walk.reply p.memory).memory }))) (sym all)
      (subst (λ (o : Option SplitOutcome). AreServed u cs (made_as o h.at h.sitd p.walk.reply ms)) (sym settled)
      (subst (λ (xs : List (ℕ × Sitd)). AreServed u xs (made_of h p.walk.reply ∷ ms)) (sym is.is) (refl, (is.one, is.served))))
  wrote_serves outcome false all settled sound is = absurd (sound (ap (λ (b : Bool). if b then walks.WriteBack else walks.Fault) all))

  sitd_serves : (o : Option SplitOutcome) → h.settled ≡ o → is_late_sitd p.walk.left (microframe_of p.walk.index) h.sitd o ≡ false
      → (sitd_step (settled_row p.walk.left (microframe_of p.walk.index) h.sitd o) h p ≢ walks.Fault)
      → WithSitd (microframe_of p.walk.index) o h p.walk.reply cs ms → Then (settled_row p.walk.left (microframe_of p.walk.index) h.sitd o)
  sitd_serves None settled in_time sound is =
      turned_serves (sitd_turn (microframe_of p.walk.index) h.sitd) in_time settled sound is
  sitd_serves (Some outcome) settled in_time sound is =
      wrote_serves outcome (writing h outcome p.walk.reply p.memory).all refl settled sound is

-- ---- any event

pub hand_serves : (p : FramePlace) (hand : Option Hand) (cs : List (ℕ × Sitd)) (ms : List SitdMade) → step_at p hand ≢ walks.Fault
    → is_late_at p hand ≡ false → WithHand (microframe_of p.walk.index) hand p.walk.reply cs ms
    → AllPlaces (Serves (microframe_of p.walk.index)
    (came_at hand (microframe_of p.walk.index) (chain_row p.memory p.walk.cursor) cs)
    (made_in hand p.walk.reply (hc_step (step_at p hand)) ms) (step_at p hand)) (effect_at p hand)
hand_serves p None cs ms sound in_time is =
    chain_serves (chain_row p.memory p.walk.cursor) (reading (chain_read p.memory p.walk.cursor) p) cs ms is
hand_serves p (Some (hands.Queue h)) cs ms sound in_time is =
    off_serves (microframe_of p.walk.index) cs ms (step_at p (Some (hands.Queue h))) (effect_at p (Some (hands.Queue h))) is
    (queue_off (queue_row p h) h (reading (queue_read p h) p))
hand_serves p (Some (hands.Itd h)) cs ms sound in_time is =
    off_serves (microframe_of p.walk.index) cs ms (step_at p (Some (hands.Itd h))) (effect_at p (Some (hands.Itd h))) is
    (itd_off (itd_row p.walk.left h) h p)
hand_serves p (Some (hands.Sitd h)) cs ms sound in_time is = sitd_serves h p cs ms h.settled refl in_time sound is
