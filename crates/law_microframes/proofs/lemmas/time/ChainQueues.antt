-- An event of the walk of the frames with a queue head in hand leaves fewer events of the visit, or takes its time (EHCI 1.0, 4.10, 4.10.2, 4.10.3 and 4.12.2).
use Rattle.std.proofs.Common.{◌≡◌, ℕ, ◌-◌, ◌≤◌, Bool, true, false, List, Option, Some, None, refl, ap, sym, subst, ◌∙◌, arith}
use Rattle.std.specs.Prelude.{nat_lt, ◌&&◌, ◌==◌, if◌then◌else◌}
use Rattle.std.proofs.lemmas.Bool.{and_parts}
use Rattle.law_common.proofs.Numbers.{not_less}
use Rattle.usb_base.specs.declared.packets.Ask.{Ask}
use Rattle.word_mem.specs.Memory.{Mem}
use Rattle.link_words.specs.declared.kinds.QtdLink.{QtdLink}
use Rattle.link_words.specs.declared.kinds.QtdLink.TheVariants as qtd_links
use Rattle.link_words.specs.Links.{qtd_link_of}
use Rattle.qh_qtd.specs.declared.qtd.Qtd.{Qtd}
use Rattle.qh_qtd.specs.declared.queue_head.Qh.{Qh}
use Rattle.toggle_error.specs.declared.host.Outcome.{Outcome}
use Rattle.mem_queues.specs.Structures.{qtd_at_address, reaches_queue_head}
use Rattle.hc_copy.specs.declared.held.Transaction.{Transaction}
use Rattle.hc_copy.specs.Visits.{visit_at, next_pointer}
use Rattle.hc_copy.specs.Overlay.{advanced, moved}
use Rattle.hc_copy.specs.Transacting.{call_in}
use Rattle.hc_copy.specs.WriteBack.{moved_by, overlay_after}
use Rattle.hc_copy.specs.Buffer.{sending}
use Rattle.hc_masks.specs.Masks.{has}
use Rattle.hc_interrupt.specs.Turns.{microframe_of, waits, is_missed, complete_turn, start_turn, planned, is_last_of}
use Rattle.hc_interrupt.specs.Copies.{missed_queue, goes_on, again_copy, most_of, is_full, failed}
use Rattle.periodic_walk.specs.declared.queue.QueueRow.{QueueRow}
use Rattle.periodic_walk.specs.declared.queue.QueueRow.TheVariants as rows
use Rattle.periodic_walk.specs.declared.state.HeldQueue.{HeldQueue}
use Rattle.periodic_walk.specs.declared.state.Hand.TheVariants as hands
use Rattle.periodic_walk.specs.Walk.{Walk}
use Rattle.periodic_walk.specs.Place.{FramePlace, reading, holding, faulted, passed, sent}
use Rattle.periodic_walk.specs.Queue.{turn_row, take_row, taken_row, settled_row, queue_row, queue_read, queue_effect, queue_left_by, with_queue, wrote_at, visit_after, writing, missed, miss_outcome}
use Rattle.claims_world.specs.Microframes.{least_in_frames}
use Rattle.law_microframes.specs.time.ChainEvents.{queue_rest}
use Rattle.law_microframes.proofs.lemmas.time.ChainPrices.{IsUnder, Falls, under, none_under, paid, queue_is_dear}

-- ---- numbers

some_rest : (active : Bool) (o : Option Outcome) → 2 ≤ queue_rest active o
some_rest true None = omega arith
some_rest false None = omega arith
some_rest true (Some outcome) = omega arith
some_rest false (Some outcome) = omega arith

abbrev rest_of : HeldQueue → ℕ
rest_of h = queue_rest h.copy.queue_head.token.active h.copy.settled

ends_under : (h : HeldQueue) (left : ℕ) (q : FramePlace) → q.walk.hand ≡ None → q.walk.left ≡ left → IsUnder (rest_of h) left q
ends_under h left q none same =
    let some = some_rest h.copy.queue_head.token.active h.copy.settled in
    none_under (rest_of h) left q (omega (arith, some)) none same

-- ---- what stays of a queue head

advanced_active : (q : Qh) (a : ℕ) (t : Qtd) → (advanced q a t).token.active ≡ t.token.active
unfolding advanced
advanced_active q a t = refl

pub moved_active : (q : Qh) (n : ℕ) → (moved q n).token.active ≡ q.token.active
unfolding moved
moved_active q n = refl

missed_active : (q : Qh) → (missed_queue q).token.active ≡ false
unfolding missed_queue
missed_active q = refl

-- ---- what a row needs

pub record IsReady (h : HeldQueue) (left : ℕ) (t : Transaction) : Type 0 where
  pub plan : t ≡ planned h.copy.queue_head
  pub enough : t.price.0 ≤ left
  pub unsettled : h.copy.settled ≡ None

pub record IsDone (h : HeldQueue) (t : Qtd) : Type 0 where
  pub unsettled : h.copy.settled ≡ None
  pub active : h.copy.queue_head.token.active ≡ false
  pub taken : t.token.active ≡ true

abbrev pub Fits : HeldQueue → ℕ → QueueRow → Type 0
Fits h left rows.Fault = Unit {0}
Fits h left rows.Skip = Unit {0}
Fits h left (rows.Advance a t) = IsDone h t
Fits h left (rows.Transact t) = IsReady h left t
Fits h left rows.Miss = Unit {0}
Fits h left (rows.WriteBack outcome) = h.copy.settled ≡ Some outcome

late_fits : (h : HeldQueue) (left : ℕ) (late : Bool) → nat_lt left (planned h.copy.queue_head).price.0 ≡ late → h.copy.settled ≡ None
    → Fits h left (if late then rows.Skip else rows.Transact (planned h.copy.queue_head))
late_fits h left true is none = tt
late_fits h left false is none = record { plan = refl; enough = not_less left (planned h.copy.queue_head).price.0 is; unsettled = none }

active_fits : (h : HeldQueue) (left a : ℕ) (t : Qtd) (b : Bool) → t.token.active ≡ b → h.copy.queue_head.token.active ≡ false → h.copy.settled ≡ None
    → Fits h left (if b then rows.Advance a t else rows.Skip)
active_fits h left a t true e off none = record { unsettled = none; active = off; taken = e }
active_fits h left a t false e off none = tt

taken_fits : (h : HeldQueue) (left a : ℕ) (o : Option Qtd) → h.copy.queue_head.token.active ≡ false → h.copy.settled ≡ None → Fits h left (taken_row a o)
taken_fits h left a None off none = tt
taken_fits h left a (Some t) off none = active_fits h left a t t.token.active refl off none

take_fits : (h : HeldQueue) (m : Mem) (left : ℕ) (link : QtdLink) → h.copy.queue_head.token.active ≡ false → h.copy.settled ≡ None → Fits h left (take_row m link)
take_fits h m left qtd_links.End off none = tt
take_fits h m left (qtd_links.To a) off none = taken_fits h left a (qtd_at_address m a) off none

visit_fits : (h : HeldQueue) (m : Mem) (left : ℕ) (may halted active : Bool) (link : QtdLink) → h.copy.queue_head.token.active ≡ active → h.copy.settled ≡ None
    → Fits h left (turn_row m left h.copy.queue_head (start_turn (visit_at may halted active link)))
visit_fits h m left false halted active link is none = tt
visit_fits h m left true true active link is none = tt
visit_fits h m left true false true link is none = late_fits h left (nat_lt left (planned h.copy.queue_head).price.0) refl none
visit_fits h m left true false false link is none = take_fits h m left link is none

complete_fits : (h : HeldQueue) (m : Mem) (left : ℕ) (gone own : Bool) → h.copy.settled ≡ None → Fits h left (turn_row m left h.copy.queue_head (complete_turn gone own))
complete_fits h m left true own none = tt
complete_fits h m left false true none = late_fits h left (nat_lt left (planned h.copy.queue_head).price.0) refl none
complete_fits h m left false false none = tt

turn_fits : (h : HeldQueue) (m : Mem) (left f : ℕ) (b : Bool) → h.copy.settled ≡ None
    → Fits h left (turn_row m left h.copy.queue_head
    (if b then complete_turn (is_missed f h.copy.queue_head) (has h.copy.queue_head.cmask (microframe_of f))
    else start_turn (visit_at (has h.copy.queue_head.smask (microframe_of f)) h.copy.queue_head.token.halted h.copy.queue_head.token.active (qtd_link_of (next_pointer h.copy.queue_head)))))
turn_fits h m left f true none = complete_fits h m left (is_missed f h.copy.queue_head) (has h.copy.queue_head.cmask (microframe_of f)) none
turn_fits h m left f false none =
    visit_fits h m left (has h.copy.queue_head.smask (microframe_of f)) h.copy.queue_head.token.halted h.copy.queue_head.token.active (qtd_link_of (next_pointer h.copy.queue_head)) refl none

pub settled_fits : (h : HeldQueue) (m : Mem) (left f : ℕ) (o : Option Outcome) → h.copy.settled ≡ o
    → Fits h left (settled_row m left f h.copy.queue_head o)
settled_fits h m left f None e = turn_fits h m left f (waits h.copy.queue_head) e
settled_fits h m left f (Some outcome) e = e

-- ---- a qTD is taken

on_rest : (active : Bool) (o : Option Outcome) → active ≡ true → o ≡ None → queue_rest active o ≡ 2
on_rest active o on none = rw (none, on) refl

off_rest : (active : Bool) (o : Option Outcome) → active ≡ false → o ≡ None → queue_rest active o ≡ 3
off_rest active o off none = rw (none, off) refl

settled_rest : (active : Bool) (o : Option Outcome) (outcome : Outcome) → o ≡ Some outcome → queue_rest active o ≡ 3
settled_rest active o outcome is = rw is refl

took_falls : (p written : FramePlace) (h : HeldQueue) (a : ℕ) (t : Qtd) (b : Bool) → written.walk.left ≡ p.walk.left → IsDone h t
    → IsUnder (rest_of h) p.walk.left (if b then record written { walk = holding (hands.Queue (with_queue h (advanced h.copy.queue_head a t))) p.walk } else faulted written)
took_falls p written h a t true same done =
    let q : Qh = h.copy.queue_head in
    let new = on_rest (advanced q a t).token.active h.copy.settled (advanced_active q a t ∙ done.taken) done.unsettled in
    let old = off_rest q.token.active h.copy.settled done.active done.unsettled in
    under (rest_of h) p.walk.left (record written { walk = holding (hands.Queue (with_queue h (advanced h.copy.queue_head a t))) p.walk }) (omega (arith, new, old)) refl
took_falls p written h a t false same done = ends_under h p.walk.left (faulted written) refl same

-- ---- a write-back

visited : (h k : HeldQueue) (outcome : Outcome) (p there : FramePlace) (b : Bool) → there.walk.left ≡ p.walk.left → goes_on k.made k.copy.queue_head outcome ≡ b → (b ≡ true → rest_of h ≡ 3)
    → IsUnder (rest_of h) p.walk.left (record there {
      walk = if b then holding (hands.Queue (record k { copy = again_copy outcome k.copy })) there.walk else passed k.copy.queue_head.link there.walk;
    })
visited h k outcome p there true same e three =
    let q : Qh = k.copy.queue_head in
    let n = moved_by outcome in
    let on : q.token.active ≡ true = (and_parts q.token.active (if q.eps == 2 then is_full q outcome && nat_lt k.made (most_of q) else q.token.split_state && failed outcome) e).0 in
    let old = three refl in
    let new = on_rest (moved q n).token.active None (moved_active q n ∙ on) refl in
    under (rest_of h) p.walk.left (record there { walk = holding (hands.Queue (record k { copy = again_copy outcome k.copy })) there.walk }) (omega (arith, old, new)) same
visited h k outcome p there false same e three = ends_under h p.walk.left (record there { walk = passed k.copy.queue_head.link there.walk }) refl same

wrote_falls : (p there : FramePlace) (all : Bool) (h : HeldQueue) (outcome : Outcome) → there.walk.left ≡ p.walk.left → h.copy.settled ≡ Some outcome
    → IsUnder (rest_of h) p.walk.left (wrote_at all h outcome there)
wrote_falls p there true h outcome same settled =
    visited h h outcome p there (goes_on h.made h.copy.queue_head outcome) same refl (λ on. settled_rest h.copy.queue_head.token.active h.copy.settled outcome settled)
wrote_falls p there false h outcome same settled = ends_under h p.walk.left (faulted there) refl same

-- ---- a miss

rests : (made : ℕ) (q : Qh) (outcome : Outcome) → q.token.active ≡ false → goes_on made q outcome ≡ false
rests made q outcome off = rw off refl

missed_none : (h : HeldQueue) (w : Walk) → (visit_after (missed h) miss_outcome w).hand ≡ None
missed_none h w =
    subst (λ (b : Bool). (if b then holding (hands.Queue (record (missed h) { copy = again_copy miss_outcome (missed h).copy })) w else passed (missed h).copy.queue_head.link w).hand ≡ None)
    (sym (rests h.made (missed_queue h.copy.queue_head) miss_outcome (missed_active h.copy.queue_head))) refl

missed_left : (h : HeldQueue) (w : Walk) → (visit_after (missed h) miss_outcome w).left ≡ w.left
missed_left h w =
    subst (λ (b : Bool). (if b then holding (hands.Queue (record (missed h) { copy = again_copy miss_outcome (missed h).copy })) w else passed (missed h).copy.queue_head.link w).left ≡ w.left)
    (sym (rests h.made (missed_queue h.copy.queue_head) miss_outcome (missed_active h.copy.queue_head))) refl

missed_falls : (p there : FramePlace) (all : Bool) (h : HeldQueue) → there.walk.left ≡ p.walk.left → IsUnder (rest_of h) p.walk.left (wrote_at all (missed h) miss_outcome there)
missed_falls p there true h same = ends_under h p.walk.left (wrote_at true (missed h) miss_outcome there) (missed_none h there.walk) (missed_left h there.walk ∙ same)
missed_falls p there false h same = ends_under h p.walk.left (faulted there) refl same

-- ---- a transaction

sent_falls : (p there : FramePlace) (h : HeldQueue) (t : Transaction) (all : Bool) (ask : Ask) (asked out : List ℕ) → there.walk.left ≡ p.walk.left → IsReady h p.walk.left t
    → Falls (rest_of h) p.walk.left (sent all ask asked (queue_left_by t out h there) there)
sent_falls p there h t true ask asked out same ready = λ reply.
    (let some = some_rest h.copy.queue_head.token.active h.copy.settled in
    let dear : least_in_frames ≤ t.price.0 = subst (λ (x : Transaction). least_in_frames ≤ x.price.0) (sym ready.plan) (queue_is_dear h.copy.queue_head) in
    paid (rest_of h) p.walk.left t.price.0 (queue_left_by t out h there reply) (omega (arith, some)) (ap (λ n. n - t.price.0) same) dear ready.enough)
sent_falls p there h t false ask asked out same ready = ends_under h p.walk.left (faulted there) refl same

-- ---- any event

row_falls : (p : FramePlace) (h : HeldQueue) (row : QueueRow) → Fits h p.walk.left row → Falls (rest_of h) p.walk.left (queue_effect row h p)
row_falls p h rows.Fault fits = ends_under h p.walk.left (faulted p) refl refl
row_falls p h rows.Skip fits = ends_under h p.walk.left (record p { walk = passed h.copy.queue_head.link p.walk }) refl refl
row_falls p h (rows.Advance a t) fits =
    took_falls p (record p { memory = overlay_after p.memory h.copy.at (advanced h.copy.queue_head a t) }) h a t (reaches_queue_head p.memory h.copy.at) refl fits
row_falls p h (rows.Transact t) fits =
    sent_falls p (record p { memory = (sending t h.copy.queue_head p.memory).memory }) h t (sending t h.copy.queue_head p.memory).all
    (call_in t (sending t h.copy.queue_head p.memory).bytes (is_last_of p.walk.index h.copy.queue_head)).ask
    (call_in t (sending t h.copy.queue_head p.memory).bytes (is_last_of p.walk.index h.copy.queue_head)).out
    (sending t h.copy.queue_head p.memory).bytes refl fits
row_falls p h rows.Miss fits =
    missed_falls p (record p { memory = (writing (missed h).copy miss_outcome p.walk.reply p.memory).memory }) (writing (missed h).copy miss_outcome p.walk.reply p.memory).all h refl
row_falls p h (rows.WriteBack outcome) fits =
    wrote_falls p (record p { memory = (writing h.copy outcome p.walk.reply p.memory).memory }) (writing h.copy outcome p.walk.reply p.memory).all h outcome refl fits

pub queue_falls : (p : FramePlace) (h : HeldQueue) → Falls (queue_rest h.copy.queue_head.token.active h.copy.settled) p.walk.left (queue_effect (queue_row p h) h (reading (queue_read p h) p))
queue_falls p h = row_falls (reading (queue_read p h) p) h (queue_row p h) (settled_fits h p.memory p.walk.left p.walk.index h.copy.settled refl)
