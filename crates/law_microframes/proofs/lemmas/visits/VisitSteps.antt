-- An event with a copy in hand leaves the link by which the walk goes on, and FRINDEX of its microframe (EHCI 1.0, 4.6, 4.7.1, 4.10 and 4.12).
use Rattle.std.proofs.Common.{◌≡◌, ℕ, Bool, true, false, if◌then◌else◌, List, Some, ap, refl, sym, subst}
use Rattle.law_controller.proofs.Common.{over_not_periodic, split_heard_same}
use Rattle.usb_base.specs.declared.packets.Ask.{Ask}
use Rattle.usb_base.specs.declared.packets.Reply.{Reply}
use Rattle.usb_base.specs.declared.packets.Split.{Split}
use Rattle.usb_base.specs.declared.packets.Split.TheVariants.{Plain}
use Rattle.link_words.specs.declared.kinds.Link.{Link}
use Rattle.link_words.specs.Links.{link_of}
use Rattle.qh_qtd.specs.declared.qtd.Qtd.{Qtd}
use Rattle.qh_qtd.specs.declared.queue_head.Qh.{Qh}
use Rattle.itd_sitd.specs.declared.sitd.Sitd.{Sitd}
use Rattle.toggle_error.specs.declared.host.Outcome.{Outcome}
use Rattle.mem_queues.specs.Structures.{reaches_queue_head}
use Rattle.hc_copy.specs.declared.held.Transaction.{Transaction}
use Rattle.hc_copy.specs.Buffer.{sending}
use Rattle.hc_copy.specs.Overlay.{advanced, settled_queue, moved}
use Rattle.hc_copy.specs.WriteBack.{overlay_after}
use Rattle.hc_interrupt.specs.Copies.{with_split, missed_queue, goes_on, again_copy}
use Rattle.hc_iso.specs.declared.held.HeldItd.{HeldItd}
use Rattle.hc_iso.specs.declared.held.HeldSitd.{HeldSitd}
use Rattle.hc_iso.specs.declared.held.Heard.{Heard}
use Rattle.hc_iso.specs.declared.held.Heard.TheVariants.{Packet}
use Rattle.hc_iso.specs.declared.held.SplitHeard.{SplitHeard}
use Rattle.hc_iso.specs.declared.held.IsoEnd.{IsoEnd}
use Rattle.hc_iso.specs.declared.held.SplitOutcome.{SplitOutcome}
use Rattle.hc_iso.specs.declared.held.SplitOutcome.TheVariants.{Failed}
use Rattle.hc_iso.specs.Itd.{heard_in, after_heard, after_in, after_out}
use Rattle.hc_iso.specs.Sitd.{missed_copy, missed_sitd, after_complete, after_start, after_part, heard_by, in_after}
use Rattle.hc_iso.specs.WriteBack.{itd_sending, itd_written, sitd_sending}
use Rattle.hc_interrupt.specs.Turns.{microframe_of}
use Rattle.async_walk.specs.declared.state.WalkStep.{WalkStep}
use Rattle.async_walk.specs.declared.state.WalkStep.TheVariants as steps
use Rattle.hc_core.specs.declared.controller.MicroframePart.TheVariants.{Periodic}
use Rattle.hc_core.specs.Controller.{part_after}
use Rattle.periodic_walk.specs.declared.state.Hand.{Hand}
use Rattle.periodic_walk.specs.declared.state.Hand.TheVariants as hands
use Rattle.periodic_walk.specs.declared.state.HeldQueue.{HeldQueue}
use Rattle.periodic_walk.specs.declared.queue.QueueRow.{QueueRow}
use Rattle.periodic_walk.specs.declared.queue.QueueRow.TheVariants as queues
use Rattle.periodic_walk.specs.declared.itd.ItdRow.{ItdRow}
use Rattle.periodic_walk.specs.declared.itd.ItdRow.TheVariants as itds
use Rattle.periodic_walk.specs.declared.sitd.SitdRow.{SitdRow}
use Rattle.periodic_walk.specs.declared.sitd.SitdRow.TheVariants as sitds
use Rattle.periodic_walk.specs.Walk.{Walk}
use Rattle.periodic_walk.specs.Place.{FramePlace, reading, holding, passed, Effect, sent, HasEffect}
use Rattle.periodic_walk.specs.Place.Effect.{Leaves, Asks}
use Rattle.periodic_walk.specs.Place as of_place
use Rattle.periodic_walk.specs.Queue.{queue_row, queue_read, queue_step, queue_effect, missed, miss_outcome, transacted}
use Rattle.periodic_walk.specs.Queue as of_queue
use Rattle.periodic_walk.specs.Itd.{itd_row, itd_step, itd_effect}
use Rattle.periodic_walk.specs.Itd as of_itd
use Rattle.periodic_walk.specs.Sitd.{sitd_row, sitd_step, sitd_effect}
use Rattle.periodic_walk.specs.Sitd as of_sitd
use Rattle.periodic_walk.specs.Rows.{step_at, effect_at}
use Rattle.law_microframes.specs.visits.Visited.{link_held, link_ahead}

-- ---- what an event leaves, where it isn't the fault

-- after an event of this kind, where the walk would go on by the link l, in the microframe of this FRINDEX
pub record Goes (l : Link) (index : ℕ) (kind : WalkStep) (q : FramePlace) : Type 0 where
  pub index_stays : q.walk.index ≡ index
  pub ahead : part_after Periodic kind ≡ Periodic → link_ahead q.walk.hand q.walk.cursor ≡ l

abbrev pub Going : Link → ℕ → WalkStep → Effect → Type 0
Going l index kind (Leaves q) = Goes l index kind q
Going l index kind (Asks ask out left_by) = (reply : Reply) → Goes l index kind (left_by reply)

faults : (l : Link) (index : ℕ) (q : FramePlace) → q.walk.index ≡ index → Goes l index steps.Fault q
faults l index q same = record { index_stays = same; ahead = λ on. absurd (over_not_periodic on) }

goes : (l : Link) (index : ℕ) (kind : WalkStep) (q : FramePlace) → q.walk.index ≡ index → link_ahead q.walk.hand q.walk.cursor ≡ l → Goes l index kind q
goes l index kind q same is = record { index_stays = same; ahead = λ on. is }

either_goes : (b : Bool) (l : Link) (index : ℕ) (kind : WalkStep) (x y : FramePlace) → Goes l index kind x → Goes l index steps.Fault y
    → Goes l index (if b then kind else steps.Fault) (if b then x else y)
either_goes true l index kind x y one other = one
either_goes false l index kind x y one other = other

sent_goes : (b : Bool) (l : Link) (index : ℕ) (ask : Ask) (out : List ℕ) (left_by : Reply → FramePlace) (there : FramePlace) → there.walk.index ≡ index
    → ((reply : Reply) → link_ahead (left_by reply).walk.hand (left_by reply).walk.cursor ≡ l) → ((reply : Reply) → (left_by reply).walk.index ≡ index)
    → Going l index (if b then steps.Transact else steps.Fault) (sent b ask out left_by there)
sent_goes true l index ask out left_by there same is each = λ reply. goes l index steps.Transact (left_by reply) (each reply) (is reply)
sent_goes false l index ask out left_by there same is each = faults l index _ same

-- ---- a queue head

split_link : (f : ℕ) (s : Split) (q : Qh) → (with_split f s q).link ≡ q.link
unfolding with_split
split_link f Plain q = refl
split_link f _ q = refl

transacted_link : (f : ℕ) (t : Transaction) (out : List ℕ) (reply : Reply) (h : HeldQueue) → link_of (transacted f t out reply h).copy.queue_head.link ≡ link_of h.copy.queue_head.link
unfolding settled_queue
transacted_link f t out reply h = ap link_of (split_link f t.split _)

abbrev next_by : Bool → HeldQueue → Outcome → Walk → Walk
next_by b h o w = if b then holding (hands.Queue (record h { copy = again_copy o h.copy })) w else passed h.copy.queue_head.link w

visit_link : (b : Bool) (h : HeldQueue) (o : Outcome) (w : Walk) → link_ahead (next_by b h o w).hand (next_by b h o w).cursor ≡ link_of h.copy.queue_head.link
unfolding moved
visit_link true h o w = refl
visit_link false h o w = refl

visit_index : (b : Bool) (h : HeldQueue) (o : Outcome) (w : Walk) → (next_by b h o w).index ≡ w.index
visit_index true h o w = refl
visit_index false h o w = refl

queue_wrote : (b : Bool) (h : HeldQueue) (o : Outcome) (p : FramePlace)
    → Goes (link_of h.copy.queue_head.link) p.walk.index (if b then steps.WriteBack else steps.Fault) (of_queue.wrote_at b h o p)
queue_wrote true h o p =
    goes (link_of h.copy.queue_head.link) p.walk.index steps.WriteBack _ (visit_index (goes_on h.made h.copy.queue_head o) h o p.walk)
    (visit_link (goes_on h.made h.copy.queue_head o) h o p.walk)
queue_wrote false h o p = faults (link_of h.copy.queue_head.link) p.walk.index _ refl

missed_link : (h : HeldQueue) → link_of (missed h).copy.queue_head.link ≡ link_of h.copy.queue_head.link
unfolding missed_queue
missed_link h = refl

took_goes : (b : Bool) (h : HeldQueue) (a : ℕ) (t : Qtd) (w : FramePlace) → Goes (link_of h.copy.queue_head.link) w.walk.index (if b then steps.Advance else steps.Fault)
    (if b then record w { walk = holding (hands.Queue (of_queue.with_queue h (advanced h.copy.queue_head a t))) w.walk } else of_place.faulted w)
unfolding advanced
took_goes true h a t w = goes (link_of h.copy.queue_head.link) w.walk.index steps.Advance _ refl refl
took_goes false h a t w = faults (link_of h.copy.queue_head.link) w.walk.index _ refl

queue_goes : (row : QueueRow) (h : HeldQueue) (p : FramePlace) → Going (link_of h.copy.queue_head.link) p.walk.index (queue_step row h p) (queue_effect row h p)
queue_goes queues.Fault h p = faults (link_of h.copy.queue_head.link) p.walk.index _ refl
queue_goes queues.Skip h p = goes (link_of h.copy.queue_head.link) p.walk.index steps.Skip _ refl refl
queue_goes (queues.Advance a t) h p = took_goes (reaches_queue_head p.memory h.copy.at) h a t (record p { memory = overlay_after p.memory h.copy.at (advanced h.copy.queue_head a t) })
queue_goes (queues.Transact t) h p =
    sent_goes (sending t h.copy.queue_head p.memory).all (link_of h.copy.queue_head.link) p.walk.index _ _ _ _ refl (λ reply. transacted_link p.walk.index t _ reply h) (λ reply. refl)
queue_goes queues.Miss h p =
    let m = of_queue.writing (missed h).copy miss_outcome p.walk.reply p.memory in
    subst (λ (l : Link). Goes l p.walk.index (queue_step queues.Miss h p) (of_queue.wrote (missed h) miss_outcome p)) (missed_link h)
    (queue_wrote m.all (missed h) miss_outcome (record p { memory = m.memory }))
queue_goes (queues.WriteBack o) h p =
    let m = of_queue.writing h.copy o p.walk.reply p.memory in
    queue_wrote m.all h o (record p { memory = m.memory })

-- ---- an iTD

heard_itd : (h : HeldItd) (x : Heard) → (after_heard h x).itd ≡ h.itd
heard_itd h (Packet k n) = refl
heard_itd h _ = refl

in_itd : (h : HeldItd) (reply : Reply) → (after_in h reply).itd ≡ h.itd
unfolding after_in
in_itd h reply = heard_itd h (heard_in h reply)

out_itd : (h : HeldItd) → (after_out h).itd ≡ h.itd
unfolding after_out
out_itd h = refl

either_itd : (b : Bool) (h : HeldItd) (reply : Reply) → (if b then after_in h reply else after_out h).itd ≡ h.itd
either_itd true h reply = in_itd h reply
either_itd false h reply = out_itd h

itd_wrote : (b : Bool) (h : HeldItd) (o : IsoEnd) (p : FramePlace) → Goes (link_of h.itd.link) p.walk.index (if b then steps.WriteBack else steps.Fault) (of_itd.wrote_at b h o p)
itd_wrote true h o p = goes (link_of h.itd.link) p.walk.index steps.WriteBack _ refl refl
itd_wrote false h o p = faults (link_of h.itd.link) p.walk.index _ refl

itd_goes : (row : ItdRow) (h : HeldItd) (p : FramePlace) → Going (link_of h.itd.link) p.walk.index (itd_step row h p) (itd_effect row h p)
itd_goes itds.Skip h p = goes (link_of h.itd.link) p.walk.index steps.Skip _ refl refl
itd_goes (itds.Transact t) h p =
    sent_goes (itd_sending t h p.memory).all (link_of h.itd.link) p.walk.index _ _ _ _ refl (λ reply. ap (λ v. link_of v.link) (either_itd h.itd.dir_in h reply)) (λ reply. refl)
itd_goes (itds.WriteBack o) h p =
    let m = itd_written h p.walk.got p.memory in
    itd_wrote m.all h o (record p { memory = m.memory })

-- ---- a siTD

complete_sitd : (u : ℕ) (x : SplitHeard) (v : Sitd) → (after_complete u x v).link ≡ v.link
unfolding after_complete
complete_sitd u x v = split_heard_same x v

start_sitd : (v : Sitd) → (after_start v).link ≡ v.link
unfolding after_start
start_sitd v = refl

part_sitd : (u : ℕ) (v : Sitd) → (after_part u v).link ≡ v.link
unfolding after_part
part_sitd u v = refl

in_sitd : (b : Bool) (u : ℕ) (reply : Reply) (v : Sitd) → (if b then after_complete u (heard_by u v reply) v else after_start v).link ≡ v.link
in_sitd true u reply v = complete_sitd u (heard_by u v reply) v
in_sitd false u reply v = start_sitd v

either_sitd : (b : Bool) (u : ℕ) (reply : Reply) (v : Sitd) → (if b then in_after u reply v else after_part u v).link ≡ v.link
either_sitd true u reply v = in_sitd v.split_state u reply v
either_sitd false u reply v = part_sitd u v

missed_sitd_link : (h : HeldSitd) → link_of (missed_copy h).sitd.link ≡ link_of h.sitd.link
unfolding missed_sitd
missed_sitd_link h = refl

sitd_wrote : (b : Bool) (h : HeldSitd) (o : SplitOutcome) (p : FramePlace) → Goes (link_of h.sitd.link) p.walk.index (if b then steps.WriteBack else steps.Fault) (of_sitd.wrote_at b h o p)
sitd_wrote true h o p = goes (link_of h.sitd.link) p.walk.index steps.WriteBack _ refl refl
sitd_wrote false h o p = faults (link_of h.sitd.link) p.walk.index _ refl

sitd_goes : (row : SitdRow) (h : HeldSitd) (p : FramePlace) → Going (link_of h.sitd.link) p.walk.index (sitd_step row h p) (sitd_effect row h p)
sitd_goes sitds.Skip h p = goes (link_of h.sitd.link) p.walk.index steps.Skip _ refl refl
sitd_goes (sitds.Transact t) h p =
    sent_goes (sitd_sending t h.sitd p.memory).all (link_of h.sitd.link) p.walk.index _ _ _ _ refl
    (λ reply. ap link_of (either_sitd h.sitd.dir_in (microframe_of p.walk.index) reply h.sitd)) (λ reply. refl)
sitd_goes sitds.Miss h p =
    let m = of_sitd.writing (missed_copy h) Failed p.walk.reply p.memory in
    subst (λ (l : Link). Goes l p.walk.index (sitd_step sitds.Miss h p) (of_sitd.wrote (missed_copy h) Failed p)) (missed_sitd_link h)
    (sitd_wrote m.all (missed_copy h) Failed (record p { memory = m.memory }))
sitd_goes (sitds.WriteBack o) h p =
    let m = of_sitd.writing h o p.walk.reply p.memory in
    sitd_wrote m.all h o (record p { memory = m.memory })

-- ---- whatever is in hand

pub hand_goes : (p : FramePlace) (hand : Hand) → Going (link_held hand) p.walk.index (step_at p (Some hand)) (effect_at p (Some hand))
hand_goes p (hands.Queue h) = queue_goes (queue_row p h) h (reading (queue_read p h) p)
hand_goes p (hands.Itd h) = itd_goes (itd_row p.walk.left h) h p
hand_goes p (hands.Sitd h) = sitd_goes (sitd_row p h) h p

pub led_on : {W : Type 0} (transacts : W → Ask → List ℕ → Reply → W → Type 0) (l : Link) (index : ℕ) (kind : WalkStep) (e : Effect) (before : W) (new : FramePlace) (after : W)
    → Going l index kind e → HasEffect transacts e before new after → Goes l index kind new
led_on transacts l index kind (Leaves q) before new after going made = subst (Goes l index kind) (sym made.0) going
led_on transacts l index kind (Asks ask out left_by) before new after going made = subst (Goes l index kind) (sym made.place) (going made.reply)
