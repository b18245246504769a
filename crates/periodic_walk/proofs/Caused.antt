-- Each cause has its event.
use Rattle.std.proofs.Common.{◌≡◌, ℕ, Bool, true, false, Option, Some, None, if◌then◌else◌, refl, ap, ◌∙◌}
use Rattle.std.specs.Prelude.{nat_lt}
use Rattle.std.proofs.lemmas.Bool.{le-ltb, lt-ltb}
use Rattle.word_mem.specs.Memory.{Mem}
use Rattle.link_words.specs.declared.kinds.Link.{Link}
use Rattle.link_words.specs.declared.kinds.Link.TheVariants as links
use Rattle.link_words.specs.declared.kinds.QtdLink.TheVariants as qtd_links
use Rattle.qh_qtd.specs.declared.qtd.Qtd.{Qtd}
use Rattle.qh_qtd.specs.declared.queue_head.Qh.{Qh}
use Rattle.itd_sitd.specs.declared.itd.Itd.{Itd}
use Rattle.itd_sitd.specs.declared.sitd.Sitd.{Sitd}
use Rattle.toggle_error.specs.declared.host.Outcome.{Outcome}
use Rattle.mem_queues.specs.Structures.{qtd_at_address, qtd_was_read, queue_head_at_address, reaches_queue_head}
use Rattle.mem_descriptors.specs.Descriptors.{itd_at_address, sitd_at_address}
use Rattle.hc_interrupt.specs.declared.turns.Turn.{Turn}
use Rattle.hc_interrupt.specs.declared.turns.Turn.TheVariants as turns
use Rattle.hc_interrupt.specs.Turns.{planned}
use Rattle.hc_iso.specs.declared.held.HeldItd.{HeldItd}
use Rattle.hc_iso.specs.declared.held.HeldSitd.{HeldSitd}
use Rattle.hc_iso.specs.declared.held.IsoEnd.{IsoEnd}
use Rattle.hc_iso.specs.declared.held.SitdTurn.{SitdTurn}
use Rattle.hc_iso.specs.declared.held.SitdTurn.TheVariants as sitd_turns
use Rattle.hc_iso.specs.declared.held.SplitOutcome.{SplitOutcome}
use Rattle.hc_iso.specs.Itd.{itd_transaction}
use Rattle.hc_iso.specs.Sitd.{sitd_transaction}
use Rattle.async_walk.specs.declared.state.WalkStep.TheVariants as steps
use Rattle.periodic_walk.specs.declared.state.Hand.TheVariants as hands
use Rattle.periodic_walk.specs.declared.state.HeldQueue.{HeldQueue}
use Rattle.periodic_walk.specs.declared.queue.QueueRow.TheVariants as queue_rows
use Rattle.periodic_walk.specs.declared.itd.ItdRow.TheVariants as itd_rows
use Rattle.periodic_walk.specs.declared.sitd.SitdRow.TheVariants as sitd_rows
use Rattle.periodic_walk.specs.Place.{FramePlace, reading}
use Rattle.periodic_walk.specs.Chain.{queue_fetch, itd_fetch, sitd_fetch, chain_row, chain_step}
use Rattle.periodic_walk.specs.Queue.{taken_row, queue_step}
use Rattle.periodic_walk.specs.Itd.{open_row, ended_row, itd_step}
use Rattle.periodic_walk.specs.Sitd.{sitd_step}
use Rattle.periodic_walk.specs.Rows.{step_at, step_of}
use Rattle.periodic_walk.specs.Causes.{ChainEnds, IsUnread, IsVisited, IsGoing, IsTurned, HasNothing, IsStuck}
use Rattle.periodic_walk.specs.Causes.HasNothing.{queue_rests, queue_is_late, queue_ends, qtd_is_done, itd_rests, itd_is_late, sitd_rests, sitd_is_late}
use Rattle.periodic_walk.specs.Causes.IsStuck.{chain_is_broken, queue_is_broken, overlay_is_foreign, queue_bytes_are_foreign, miss_is_foreign, queue_words_are_foreign, itd_bytes_are_foreign, itd_words_are_foreign, sitd_bytes_are_foreign, sitd_miss_is_foreign, sitd_words_are_foreign}
use Rattle.periodic_walk.proofs.Causing.{queue_turned, queue_at, sitd_turned, sitd_at, read_same}

-- ---- the event of a copy in hand

pub queue_here : (p : FramePlace) (h : HeldQueue) (s : Option Outcome) → p.walk.hand ≡ Some (hands.Queue h) → h.copy.settled ≡ s → step_of p ≡ queue_at p h s
queue_here p h s in_hand settled = ap (step_at p) in_hand ∙ ap (queue_at p h) settled

visited_here : (p : FramePlace) (h : HeldQueue) (t : Turn) → IsVisited p h t → step_of p ≡ queue_turned p h t
visited_here p h t v = queue_here p h None v.in_hand v.not_settled ∙ ap (queue_turned p h) v.turns

itd_here : (p : FramePlace) (h : HeldItd) (o : Option IsoEnd) → p.walk.hand ≡ Some (hands.Itd h) → h.ended ≡ o → step_of p ≡ itd_step (ended_row p.walk.left h o) h p
itd_here p h o in_hand ended = ap (step_at p) in_hand ∙ ap (λ (x : Option IsoEnd). itd_step (ended_row p.walk.left h x) h p) ended

pub going_here : (p : FramePlace) (h : HeldItd) → IsGoing p h → step_of p ≡ itd_step (open_row p.walk.left h) h p
going_here p h g = itd_here p h None g.in_hand g.not_ended

pub sitd_here : (p : FramePlace) (h : HeldSitd) (s : Option SplitOutcome) → p.walk.hand ≡ Some (hands.Sitd h) → h.settled ≡ s → step_of p ≡ sitd_at p h s
sitd_here p h s in_hand settled = ap (step_at p) in_hand ∙ ap (sitd_at p h) settled

turned_here : (p : FramePlace) (h : HeldSitd) (t : SitdTurn) → IsTurned p h t → step_of p ≡ sitd_turned p h t
turned_here p h t v = sitd_here p h None v.in_hand v.not_settled ∙ ap (sitd_turned p h) v.turns

-- ---- a choice by the time

late_queue : (p : FramePlace) (h : HeldQueue) (b : Bool) → nat_lt p.walk.left (planned h.copy.queue_head).price.0 ≡ b → queue_turned p h turns.Work ≡ queue_step (if b then queue_rows.Skip else queue_rows.Transact (planned h.copy.queue_head)) h p
late_queue p h b is = ap (λ (x : Bool). queue_step (if x then queue_rows.Skip else queue_rows.Transact (planned h.copy.queue_head)) h p) is

late_itd : (p : FramePlace) (h : HeldItd) (b : Bool) → h.slot.active ≡ true → nat_lt p.walk.left (itd_transaction h).price.0 ≡ b → itd_step (open_row p.walk.left h) h p ≡ itd_step (if b then itd_rows.Skip else itd_rows.Transact (itd_transaction h)) h p
late_itd p h b active is =
    ap (λ (x : Bool). itd_step (if x then (if nat_lt p.walk.left (itd_transaction h).price.0 then itd_rows.Skip else itd_rows.Transact (itd_transaction h)) else itd_rows.Skip) h p) active
    ∙ ap (λ (x : Bool). itd_step (if x then itd_rows.Skip else itd_rows.Transact (itd_transaction h)) h p) is

late_sitd : (p : FramePlace) (h : HeldSitd) (b : Bool) → nat_lt p.walk.left (sitd_transaction h.sitd).price.0 ≡ b → sitd_turned p h sitd_turns.Work ≡ sitd_step (if b then sitd_rows.Skip else sitd_rows.Transact (sitd_transaction h.sitd)) h p
late_sitd p h b is = ap (λ (x : Bool). sitd_step (if x then sitd_rows.Skip else sitd_rows.Transact (sitd_transaction h.sitd)) h p) is

-- ---- a qTD that comes next

takes_here : (p : FramePlace) (h : HeldQueue) (a : ℕ) (o : Option Qtd) → IsVisited p h (turns.Take (qtd_links.To a)) → qtd_at_address p.memory a ≡ o → step_of p ≡ queue_step (taken_row a o) h (reading (qtd_was_read p.memory a) p)
takes_here p h a o v is =
    visited_here p h (turns.Take (qtd_links.To a)) v
    ∙ ap (λ (x : Option Qtd). queue_step (taken_row a x) h (reading (qtd_was_read p.memory a) p)) is

found_here : (p : FramePlace) (h : HeldQueue) (a : ℕ) (t : Qtd) (b : Bool) → IsVisited p h (turns.Take (qtd_links.To a)) → qtd_at_address p.memory a ≡ Some t → t.token.active ≡ b → step_of p ≡ queue_step (if b then queue_rows.Advance a t else queue_rows.Skip) h (reading (qtd_was_read p.memory a) p)
found_here p h a t b v there active =
    takes_here p h a (Some t) v there
    ∙ ap (λ (x : Bool). queue_step (if x then queue_rows.Advance a t else queue_rows.Skip) h (reading (qtd_was_read p.memory a) p)) active

-- ---- a chain

queue_unread : (a : ℕ) (o : Option Qh) → o ≡ None → chain_step (queue_fetch a o) ≡ steps.Fault
queue_unread a o is = ap (λ (x : Option Qh). chain_step (queue_fetch a x)) is

itd_unread : (a : ℕ) (o : Option Itd) → o ≡ None → chain_step (itd_fetch a o) ≡ steps.Fault
itd_unread a o is = ap (λ (x : Option Itd). chain_step (itd_fetch a x)) is

sitd_unread : (a : ℕ) (o : Option Sitd) → o ≡ None → chain_step (sitd_fetch a o) ≡ steps.Fault
sitd_unread a o is = ap (λ (x : Option Sitd). chain_step (sitd_fetch a x)) is

chain_unread : (m : Mem) (link : Link) → IsUnread m link → chain_step (chain_row m link) ≡ steps.Fault
chain_unread m links.End is = elim is [ ]
chain_unread m (links.Itd a) is = itd_unread a (itd_at_address m a) is
chain_unread m (links.Qh a) is = queue_unread a (queue_head_at_address m a) is
chain_unread m (links.Sitd a) is = sitd_unread a (sitd_at_address m a) is
chain_unread m (links.Fstn a) is = refl

-- ---- each cause

pub ends_for_each_reason : (p : FramePlace) → ChainEnds p → step_of p ≡ steps.Ended
ends_for_each_reason p c = ap (step_at p) c.no_copy ∙ ap (λ (link : Link). chain_step (chain_row p.memory link)) c.at_end

pub skips_for_each_reason : (p : FramePlace) → HasNothing p → step_of p ≡ steps.Skip
skips_for_each_reason p (queue_rests c) = visited_here p c.held turns.Rest c.visited
skips_for_each_reason p (queue_is_late c) = visited_here p c.held turns.Work c.visited ∙ late_queue p c.held true (lt-ltb _ _ c.late)
skips_for_each_reason p (queue_ends c) = visited_here p c.held (turns.Take qtd_links.End) c.visited
skips_for_each_reason p (qtd_is_done c) = found_here p c.held c.at c.qtd false c.visited c.stands_there c.inactive
skips_for_each_reason p (itd_rests c) =
    going_here p c.held c.going
    ∙ ap (λ (x : Bool). itd_step (if x then (if nat_lt p.walk.left (itd_transaction c.held).price.0 then itd_rows.Skip else itd_rows.Transact (itd_transaction c.held)) else itd_rows.Skip) c.held p) c.inactive
skips_for_each_reason p (itd_is_late c) = going_here p c.held c.going ∙ late_itd p c.held true c.active (lt-ltb _ _ c.late)
skips_for_each_reason p (sitd_rests c) = turned_here p c.held sitd_turns.Rest c.turned
skips_for_each_reason p (sitd_is_late c) = turned_here p c.held sitd_turns.Work c.turned ∙ late_sitd p c.held true (lt-ltb _ _ c.late)

pub faults_for_each_reason : (p : FramePlace) → IsStuck p → step_of p ≡ steps.Fault
faults_for_each_reason p (chain_is_broken c) = ap (step_at p) c.no_copy ∙ chain_unread p.memory p.walk.cursor c.unread
faults_for_each_reason p (queue_is_broken c) = takes_here p c.held c.at None c.visited c.nothing_there
faults_for_each_reason p (overlay_is_foreign c) =
    found_here p c.held c.at c.qtd true c.visited c.stands_there c.active
    ∙ ap (λ (m : Mem). if reaches_queue_head m c.held.copy.at then steps.Advance else steps.Fault) (read_same p.memory c.at c.qtd c.stands_there)
    ∙ ap (λ (b : Bool). if b then steps.Advance else steps.Fault) c.refused
faults_for_each_reason p (queue_bytes_are_foreign c) =
    visited_here p c.held turns.Work c.visited ∙ late_queue p c.held false (le-ltb _ _ c.in_time)
    ∙ ap (λ (b : Bool). if b then steps.Transact else steps.Fault) c.refused
faults_for_each_reason p (miss_is_foreign c) =
    visited_here p c.held turns.Miss c.visited ∙ ap (λ (b : Bool). if b then steps.WriteBack else steps.Fault) c.refused
faults_for_each_reason p (queue_words_are_foreign c) =
    queue_here p c.held (Some c.outcome) c.in_hand c.settled ∙ ap (λ (b : Bool). if b then steps.WriteBack else steps.Fault) c.refused
faults_for_each_reason p (itd_bytes_are_foreign c) =
    going_here p c.held c.going ∙ late_itd p c.held false c.active (le-ltb _ _ c.in_time)
    ∙ ap (λ (b : Bool). if b then steps.Transact else steps.Fault) c.refused
faults_for_each_reason p (itd_words_are_foreign c) =
    itd_here p c.held (Some c.ended) c.in_hand c.has_ended ∙ ap (λ (b : Bool). if b then steps.WriteBack else steps.Fault) c.refused
faults_for_each_reason p (sitd_bytes_are_foreign c) =
    turned_here p c.held sitd_turns.Work c.turned ∙ late_sitd p c.held false (le-ltb _ _ c.in_time)
    ∙ ap (λ (b : Bool). if b then steps.Transact else steps.Fault) c.refused
faults_for_each_reason p (sitd_miss_is_foreign c) =
    turned_here p c.held sitd_turns.Miss c.turned ∙ ap (λ (b : Bool). if b then steps.WriteBack else steps.Fault) c.refused
faults_for_each_reason p (sitd_words_are_foreign c) =
    sitd_here p c.held (Some c.outcome) c.in_hand c.settled ∙ ap (λ (b : Bool). if b then steps.WriteBack else steps.Fault) c.refused
