-- An event with a copy in hand takes of the time just the price of its transaction, or nothing where it makes none (EHCI 1.0, 4.7, 4.10.3 and 4.12; USB 2.0, 5.11.3).
use Rattle.std.proofs.Common.{◌≡◌, ℕ, ◌+◌, ◌-◌, ◌≤◌, ◌⊎◌, inl, inr, Bool, true, false, List, Option, Some, None, refl, ap, sym, subst, ◌∙◌, arith, eqb-true}
use Rattle.std.specs.Prelude.{nat_lt, ◌==◌, if◌then◌else◌}
use Rattle.law_budgets.proofs.Common.{visit_left}
use Rattle.law_common.proofs.Numbers.{not_less}
use Rattle.usb_base.specs.Cost.{bus_time}
use Rattle.usb_base.specs.declared.packets.Ask.{Ask}
use Rattle.usb_base.specs.declared.packets.Dir.TheVariants as ways
use Rattle.usb_base.specs.declared.packets.EpKind.TheVariants.{Interrupt, Iso}
use Rattle.usb_base.specs.declared.packets.Reply.{Reply}
use Rattle.usb_base.specs.declared.packets.Speed.TheVariants.{High}
use Rattle.qh_qtd.specs.declared.queue_head.Qh.{Qh}
use Rattle.itd_sitd.specs.declared.sitd.Sitd.{Sitd}
use Rattle.toggle_error.specs.declared.host.Outcome.{Outcome}
use Rattle.mem_queues.specs.Structures.{reaches_queue_head}
use Rattle.hc_copy.specs.declared.held.Transaction.{Transaction}
use Rattle.hc_copy.specs.Overlay.{advanced}
use Rattle.hc_copy.specs.Transacting.{call_in}
use Rattle.hc_copy.specs.WriteBack.{overlay_after}
use Rattle.hc_copy.specs.Buffer.{sending}
use Rattle.hc_interrupt.specs.Turns.{microframe_of, planned, is_last_of}
use Rattle.hc_interrupt.specs.Copies.{goes_on}
use Rattle.hc_iso.specs.declared.held.HeldItd.{HeldItd}
use Rattle.hc_iso.specs.declared.held.HeldSitd.{HeldSitd}
use Rattle.hc_iso.specs.declared.held.IsoEnd.{IsoEnd}
use Rattle.hc_iso.specs.declared.held.SplitOutcome.{SplitOutcome}
use Rattle.hc_iso.specs.declared.held.SplitOutcome.TheVariants.{Failed}
use Rattle.hc_iso.specs.declared.held.SitdTurn.{SitdTurn}
use Rattle.hc_iso.specs.declared.held.SitdTurn.TheVariants as turns
use Rattle.hc_iso.specs.Itd.{itd_transaction}
use Rattle.hc_iso.specs.Sitd.{sitd_turn, sitd_transaction, missed_copy}
use Rattle.hc_iso.specs.WriteBack.{itd_sending, itd_written, sitd_sending}
use Rattle.async_walk.specs.declared.state.WalkStep.TheVariants as steps
use Rattle.periodic_walk.specs.declared.itd.ItdRow.TheVariants as itds
use Rattle.periodic_walk.specs.declared.queue.QueueRow.{QueueRow}
use Rattle.periodic_walk.specs.declared.queue.QueueRow.TheVariants as rows
use Rattle.periodic_walk.specs.declared.sitd.SitdRow.TheVariants as sitds
use Rattle.periodic_walk.specs.declared.state.HeldQueue.{HeldQueue}
use Rattle.periodic_walk.specs.declared.state.Hand.{Hand}
use Rattle.periodic_walk.specs.declared.state.Hand.TheVariants as hands
use Rattle.periodic_walk.specs.Place.{FramePlace, Effect, reading, holding, faulted, sent, HasEffect}
use Rattle.periodic_walk.specs.Place.Effect.{Leaves, Asks}
use Rattle.periodic_walk.specs.Queue.{queue_row, queue_read, queue_step, queue_effect, queue_left_by, with_queue, wrote_at, writing, missed, miss_outcome}
use Rattle.periodic_walk.specs.Itd.{timed_row, ended_row, itd_step, itd_effect, itd_left_by}
use Rattle.periodic_walk.specs.Itd as of_itd
use Rattle.periodic_walk.specs.Sitd.{sitd_step, sitd_effect, sitd_left_by}
use Rattle.periodic_walk.specs.Sitd as of_sitd
use Rattle.periodic_walk.specs.Rows.{step_at, step_of, effect_at, effect_of, Leads}
use Rattle.hc_core.specs.Controller.{hc_step}
use Rattle.claims_world.specs.Prices.{queue_bytes, itd_bytes, sitd_bytes, price_of, cost_of}
use Rattle.law_microframes.proofs.lemmas.time.ChainQueues.{IsReady, Fits, settled_fits}

-- ---- the prices

-- of an OUT or an IN, whose PID code is this
coded : (q : Qh) (high split ping : Bool) (code : ℕ) → (code ≡ 0) ⊎ (code ≡ 1) → (q.eps == 2) ≡ high → q.token.split_state ≡ split
    → q.token.ping ≡ ping → q.token.pid ≡ code
    → (planned q).price.0 ≡ bus_time High Interrupt ways.In (queue_bytes q)
coded q true split true code (inl e) high is pings pid = let two : q.eps ≡ 2 = eqb-true q.eps 2 high in rw (two, pings, pid, e) refl
coded q true split false code (inl e) high is pings pid = let two : q.eps ≡ 2 = eqb-true q.eps 2 high in rw (two, pings, pid, e) refl
coded q true split ping code (inr e) high is pings pid = let two : q.eps ≡ 2 = eqb-true q.eps 2 high in rw (two, pid, e) refl
coded q false true ping code (inl e) high is pings pid = rw (high, is, pid, e) refl
coded q false true ping code (inr e) high is pings pid = rw (high, is, pid, e) refl
coded q false false ping code (inl e) high is pings pid = rw (high, is, pid, e) refl
coded q false false ping code (inr e) high is pings pid = rw (high, is, pid, e) refl

-- of another token
other : (q : Qh) (high split : Bool) → (q.eps == 2) ≡ high → q.token.split_state ≡ split → (q.token.pid == 0) ≡ false
    → (q.token.pid == 1) ≡ false
    → (planned q).price.0 ≡ bus_time High Interrupt ways.In (queue_bytes q)
other q true split high is none one = let two : q.eps ≡ 2 = eqb-true q.eps 2 high in rw (two, none, one) refl
other q false true high is none one = rw (high, is, none, one) refl
other q false false high is none one = rw (high, is, none, one) refl

queue_price_by : (q : Qh) (none one : Bool) → (q.token.pid == 0) ≡ none → (q.token.pid == 1) ≡ one
    → (planned q).price.0 ≡ bus_time High Interrupt ways.In (queue_bytes q)
queue_price_by q true one is same = coded q (q.eps == 2) q.token.split_state q.token.ping 0 (inl refl) refl refl refl
    (eqb-true q.token.pid 0 is)
queue_price_by q false true is same = coded q (q.eps == 2) q.token.split_state q.token.ping 1 (inr refl) refl refl refl
    (eqb-true q.token.pid 1 same)
queue_price_by q false false is same = other q (q.eps == 2) q.token.split_state refl refl is same

pub queue_price : (q : Qh) → (planned q).price.0 ≡ bus_time High Interrupt ways.In (queue_bytes q)
queue_price q = queue_price_by q (q.token.pid == 0) (q.token.pid == 1) refl refl

itd_price_by : (h : HeldItd) (b : Bool) → h.itd.dir_in ≡ b → (itd_transaction h).price.0 ≡ bus_time High Iso ways.In (itd_bytes h)
itd_price_by h true is = rw is refl
itd_price_by h false is = rw is refl

itd_price : (h : HeldItd) → (itd_transaction h).price.0 ≡ bus_time High Iso ways.In (itd_bytes h)
itd_price h = itd_price_by h h.itd.dir_in refl

sitd_price_by : (v : Sitd) (b c : Bool) → v.dir_in ≡ b → v.split_state ≡ c
    → (sitd_transaction v).price.0 ≡ bus_time High Iso ways.In (sitd_bytes v)
sitd_price_by v true true is splits = rw (is, splits) refl
sitd_price_by v true false is splits = rw (is, splits) refl
sitd_price_by v false c is splits = rw is refl

pub sitd_price : (v : Sitd) → (sitd_transaction v).price.0 ≡ bus_time High Iso ways.In (sitd_bytes v)
sitd_price v = sitd_price_by v v.dir_in v.split_state refl refl

-- ---- what an event takes

-- whatever the bus replies
abbrev Takes : ℕ → FramePlace → Effect → Type 0
Takes n p (Leaves q) = q.walk.left + n ≡ p.walk.left
Takes n p (Asks ask out by) = (reply : Reply) → (by reply).walk.left + n ≡ p.walk.left

nothing : (new old : ℕ) → new ≡ old → new + 0 ≡ old
nothing new old same = omega (arith, same)

just : (left now price cost : ℕ) → now ≡ left → price ≡ cost → price ≤ left → now - price + cost ≡ left
just left now price cost same is enough = omega (arith, same, is, enough)

-- ---- a queue head

took_takes : (p written : FramePlace) (h : HeldQueue) (new : Qh) (b : Bool) → written.walk.left ≡ p.walk.left
    → Takes (cost_of (hc_step (if b then steps.Advance else steps.Fault)) (hands.Queue h)) p
    (Leaves (if b then record written { walk = holding (hands.Queue (with_queue h new)) p.walk } else faulted written))
took_takes p written h new true same = nothing p.walk.left p.walk.left refl
took_takes p written h new false same = nothing written.walk.left p.walk.left same

wrote_takes : (p there : FramePlace) (all : Bool) (h k : HeldQueue) (outcome : Outcome) → there.walk.left ≡ p.walk.left
    → Takes (cost_of (hc_step (if all then steps.WriteBack else steps.Fault)) (hands.Queue h)) p (Leaves (wrote_at all k outcome there))
wrote_takes p there true h k outcome same =
    nothing (wrote_at true k outcome there).walk.left p.walk.left
    (visit_left k outcome there.walk (goes_on k.made k.copy.queue_head outcome) ∙ same)
wrote_takes p there false h k outcome same = nothing there.walk.left p.walk.left same

sent_takes : (p there : FramePlace) (h : HeldQueue) (t : Transaction) (all : Bool) (ask : Ask) (asked out : List ℕ)
    → there.walk.left ≡ p.walk.left → IsReady h p.walk.left t
    → Takes (cost_of (hc_step (if all then steps.Transact else steps.Fault)) (hands.Queue h)) p
    (sent all ask asked (queue_left_by t out h there) there)
sent_takes p there h t true ask asked out same ready = λ reply.
    just p.walk.left there.walk.left t.price.0 (price_of (hands.Queue h)) same
    (ap (λ (x : Transaction). x.price.0) ready.plan ∙ queue_price h.copy.queue_head) ready.enough
sent_takes p there h t false ask asked out same ready = nothing there.walk.left p.walk.left same

row_takes : (p : FramePlace) (h : HeldQueue) (row : QueueRow) → Fits h p.walk.left row
    → Takes (cost_of (hc_step (queue_step row h p)) (hands.Queue h)) p (queue_effect row h p)
row_takes p h rows.Fault fits = nothing p.walk.left p.walk.left refl
row_takes p h rows.Skip fits = nothing p.walk.left p.walk.left refl
row_takes p h (rows.Advance a t) fits =
    took_takes p (record p { memory = overlay_after p.memory h.copy.at (advanced h.copy.queue_head a t) }) h
    (advanced h.copy.queue_head a t) (reaches_queue_head p.memory h.copy.at) refl
row_takes p h (rows.Transact t) fits =
    sent_takes p (record p { memory = (sending t h.copy.queue_head p.memory).memory }) h t (sending t h.copy.queue_head p.memory).all
    (call_in t (sending t h.copy.queue_head p.memory).bytes (is_last_of p.walk.index h.copy.queue_head)).ask
    (call_in t (sending t h.copy.queue_head p.memory).bytes (is_last_of p.walk.index h.copy.queue_head)).out
    (sending t h.copy.queue_head p.memory).bytes refl fits
row_takes p h rows.Miss fits =
    wrote_takes p (record p { memory = (writing (missed h).copy miss_outcome p.walk.reply p.memory).memory })
    (writing (missed h).copy miss_outcome p.walk.reply p.memory).all h (missed h)
    miss_outcome refl
row_takes p h (rows.WriteBack outcome) fits =
    wrote_takes p (record p { memory = (writing h.copy outcome p.walk.reply p.memory).memory })
    (writing h.copy outcome p.walk.reply p.memory).all h h outcome refl

queue_takes : (p : FramePlace) (h : HeldQueue)
    → Takes (cost_of (hc_step (step_at p (Some (hands.Queue h)))) (hands.Queue h)) p (effect_at p (Some (hands.Queue h)))
queue_takes p h = row_takes (reading (queue_read p h) p) h (queue_row p h)
    (settled_fits h p.memory p.walk.left p.walk.index h.copy.settled refl)

-- ---- an iTD

itd_sent_takes : (p there : FramePlace) (h : HeldItd) (all : Bool) (ask : Ask) (out : List ℕ) → there.walk.left ≡ p.walk.left
    → (itd_transaction h).price.0 ≤ p.walk.left
    → Takes (cost_of (hc_step (if all then steps.Transact else steps.Fault)) (hands.Itd h)) p
    (sent all ask out (itd_left_by (itd_transaction h) h there) there)
itd_sent_takes p there h true ask out same enough = λ reply.
    just p.walk.left there.walk.left (itd_transaction h).price.0 (price_of (hands.Itd h)) same (itd_price h) enough
itd_sent_takes p there h false ask out same enough = nothing there.walk.left p.walk.left same

itd_timed_takes : (p : FramePlace) (h : HeldItd) (late : Bool) → nat_lt p.walk.left (itd_transaction h).price.0 ≡ late
    → Takes (cost_of (hc_step (itd_step (if late then itds.Skip else itds.Transact (itd_transaction h)) h p)) (hands.Itd h)) p
    (itd_effect (if late then itds.Skip else itds.Transact (itd_transaction h)) h p)
itd_timed_takes p h true is = nothing p.walk.left p.walk.left refl
itd_timed_takes p h false is =
    itd_sent_takes p (record p { memory = (itd_sending (itd_transaction h) h p.memory).memory }) h
    (itd_sending (itd_transaction h) h p.memory).all (itd_transaction h).ask
    (itd_sending (itd_transaction h) h p.memory).bytes refl (not_less p.walk.left (itd_transaction h).price.0 is)

itd_open_takes : (p : FramePlace) (h : HeldItd) (works : Bool)
    → Takes (cost_of (hc_step (itd_step (if works then timed_row p.walk.left (itd_transaction h) else itds.Skip) h p)) (hands.Itd h)) p
    (itd_effect (if works then timed_row p.walk.left (itd_transaction h) else itds.Skip) h p)
itd_open_takes p h true = itd_timed_takes p h (nat_lt p.walk.left (itd_transaction h).price.0) refl
itd_open_takes p h false = nothing p.walk.left p.walk.left refl

itd_wrote_takes : (p there : FramePlace) (all : Bool) (h : HeldItd) (ended : IsoEnd) → there.walk.left ≡ p.walk.left
    → Takes (cost_of (hc_step (if all then steps.WriteBack else steps.Fault)) (hands.Itd h)) p (Leaves (of_itd.wrote_at all h ended there))
itd_wrote_takes p there true h ended same = nothing there.walk.left p.walk.left same
itd_wrote_takes p there false h ended same = nothing there.walk.left p.walk.left same

itd_ended_takes : (p : FramePlace) (h : HeldItd) (o : Option IsoEnd)
    → Takes (cost_of (hc_step (itd_step (ended_row p.walk.left h o) h p)) (hands.Itd h)) p (itd_effect (ended_row p.walk.left h o) h p)
itd_ended_takes p h None = itd_open_takes p h h.slot.active
itd_ended_takes p h (Some ended) =
    itd_wrote_takes p (record p { memory = (itd_written h p.walk.got p.memory).memory }) (itd_written h p.walk.got p.memory).all h ended
    refl

-- ---- a siTD

sitd_sent_takes : (p there : FramePlace) (h : HeldSitd) (all : Bool) (ask : Ask) (out : List ℕ) → there.walk.left ≡ p.walk.left
    → (sitd_transaction h.sitd).price.0 ≤ p.walk.left
    → Takes (cost_of (hc_step (if all then steps.Transact else steps.Fault)) (hands.Sitd h)) p
    (sent all ask out (sitd_left_by (sitd_transaction h.sitd) h there) there)
sitd_sent_takes p there h true ask out same enough = λ reply.
    just p.walk.left there.walk.left (sitd_transaction h.sitd).price.0 (price_of (hands.Sitd h)) same (sitd_price h.sitd) enough
sitd_sent_takes p there h false ask out same enough = nothing there.walk.left p.walk.left same

sitd_timed_takes : (p : FramePlace) (h : HeldSitd) (late : Bool) → nat_lt p.walk.left (sitd_transaction h.sitd).price.0 ≡ late
    → Takes (cost_of (hc_step (sitd_step (if late then sitds.Skip else sitds.Transact (sitd_transaction h.sitd)) h p)) (hands.Sitd h)) p
    (sitd_effect (if late then sitds.Skip else sitds.Transact (sitd_transaction h.sitd)) h p)
sitd_timed_takes p h true is = nothing p.walk.left p.walk.left refl
sitd_timed_takes p h false is =
    sitd_sent_takes p (record p { memory = (sitd_sending (sitd_transaction h.sitd) h.sitd p.memory).memory }) h
    (sitd_sending (sitd_transaction h.sitd) h.sitd p.memory).all
    (sitd_transaction h.sitd).ask (sitd_sending (sitd_transaction h.sitd) h.sitd p.memory).bytes refl
    (not_less p.walk.left (sitd_transaction h.sitd).price.0 is)

sitd_wrote_takes : (p there : FramePlace) (all : Bool) (h k : HeldSitd) (outcome : SplitOutcome) → there.walk.left ≡ p.walk.left
    → Takes (cost_of (hc_step (if all then steps.WriteBack else steps.Fault)) (hands.Sitd h)) p
    (Leaves (of_sitd.wrote_at all k outcome there))
sitd_wrote_takes p there true h k outcome same = nothing there.walk.left p.walk.left same
sitd_wrote_takes p there false h k outcome same = nothing there.walk.left p.walk.left same

sitd_written_takes : (p : FramePlace) (h k : HeldSitd) (outcome : SplitOutcome)
    → Takes (cost_of (hc_step (of_sitd.wrote_step k outcome p)) (hands.Sitd h)) p (Leaves (of_sitd.wrote k outcome p))
sitd_written_takes p h k outcome =
    sitd_wrote_takes p (record p { memory = (of_sitd.writing k outcome p.walk.reply p.memory).memory })
    (of_sitd.writing k outcome p.walk.reply p.memory).all h k outcome refl

sitd_turn_takes : (p : FramePlace) (h : HeldSitd) (turn : SitdTurn)
    → Takes (cost_of (hc_step (sitd_step (of_sitd.turn_row p.walk.left h.sitd turn) h p)) (hands.Sitd h)) p
    (sitd_effect (of_sitd.turn_row p.walk.left h.sitd turn) h p)
sitd_turn_takes p h turns.Rest = nothing p.walk.left p.walk.left refl
sitd_turn_takes p h turns.Work = sitd_timed_takes p h (nat_lt p.walk.left (sitd_transaction h.sitd).price.0) refl
sitd_turn_takes p h turns.Miss = sitd_written_takes p h (missed_copy h) Failed

sitd_settled_takes : (p : FramePlace) (h : HeldSitd) (o : Option SplitOutcome)
    → Takes (cost_of (hc_step (sitd_step (of_sitd.settled_row p.walk.left (microframe_of p.walk.index) h.sitd o) h p)) (hands.Sitd h)) p
    (sitd_effect (of_sitd.settled_row p.walk.left (microframe_of p.walk.index) h.sitd o) h p)
sitd_settled_takes p h None = sitd_turn_takes p h (sitd_turn (microframe_of p.walk.index) h.sitd)
sitd_settled_takes p h (Some outcome) = sitd_written_takes p h h outcome

-- ---- any copy

hand_takes : (p : FramePlace) (hand : Hand) → Takes (cost_of (hc_step (step_at p (Some hand))) hand) p (effect_at p (Some hand))
hand_takes p (hands.Queue h) = queue_takes p h
hand_takes p (hands.Itd h) = itd_ended_takes p h h.ended
hand_takes p (hands.Sitd h) = sitd_settled_takes p h h.settled

event_takes : (p : FramePlace) (hand : Hand) → p.walk.hand ≡ Some hand → Takes (cost_of (hc_step (step_of p)) hand) p (effect_of p)
event_takes p hand e = subst (λ (o : Option Hand). Takes (cost_of (hc_step (step_at p o)) hand) p (effect_at p o)) (sym e)
    (hand_takes p hand)

has_taken : {W : Type 0} (transacts : W → Ask → List ℕ → Reply → W → Type 0) (n : ℕ) (p q : FramePlace) (before later : W) (e : Effect)
    → Takes n p e → HasEffect transacts e before q later
    → q.walk.left + n ≡ p.walk.left
has_taken transacts n p q before later (Leaves new) takes has = subst (λ (x : FramePlace). x.walk.left + n ≡ p.walk.left) (sym has.0) takes
has_taken transacts n p q before later (Asks ask out by) takes has =
    subst (λ (x : FramePlace). x.walk.left + n ≡ p.walk.left) (sym has.place) (takes has.reply)

pub leads_taken : {W : Type 0} (transacts : W → Ask → List ℕ → Reply → W → Type 0) (p q : FramePlace) (before later : W) (hand : Hand)
    → p.walk.hand ≡ Some hand → Leads transacts p before q later
    → q.walk.left + cost_of (hc_step (step_of p)) hand ≡ p.walk.left
leads_taken transacts p q before later hand e leads =
    has_taken transacts (cost_of (hc_step (step_of p)) hand) p q before later (effect_of p) (event_takes p hand e) leads

pub leads_cost : {W : Type 0} (transacts : W → Ask → List ℕ → Reply → W → Type 0) (p q : FramePlace) (before later : W) (hand : Hand)
    → p.walk.hand ≡ Some hand → Leads transacts p before q later
    → p.walk.left - q.walk.left ≡ cost_of (hc_step (step_of p)) hand
leads_cost transacts p q before later hand e leads = let taken = leads_taken transacts p q before later hand e leads in omega (arith, taken)
