-- Each event has its cause.
use Rattle.std.proofs.Common.{◌≡◌, ℕ, ◌≤◌, Bool, true, false, Option, Some, None, if◌then◌else◌, refl, sym, subst}
use Rattle.std.specs.Prelude.{nat_lt}
use Rattle.std.proofs.lemmas.Bool.{ltb-true, ltb-false}
use Rattle.std.specs.Result.{result_ok}
use Rattle.word_mem.specs.Memory.{Mem, reaches, refused}
use Rattle.word_mem.specs.Views.{words_at}
use Rattle.qh_qtd.specs.Qtd.{qtd_read}
use Rattle.link_words.specs.declared.kinds.Link.{Link}
use Rattle.link_words.specs.declared.kinds.Link.TheVariants as links
use Rattle.link_words.specs.declared.kinds.QtdLink.TheVariants as qtd_links
use Rattle.qh_qtd.specs.declared.qtd.Qtd.{Qtd}
use Rattle.qh_qtd.specs.declared.queue_head.Qh.{Qh}
use Rattle.itd_sitd.specs.declared.itd.Itd.{Itd}
use Rattle.itd_sitd.specs.declared.sitd.Sitd.{Sitd}
use Rattle.toggle_error.specs.declared.host.Outcome.{Outcome}
use Rattle.mem_queues.specs.Structures.{qtd_at_address, qtd_was_read, queue_head_at_address, reaches_queue_head}
use Rattle.mem_descriptors.specs.Descriptors.{itd_at_address, sitd_at_address}
use Rattle.hc_copy.specs.Buffer.{sending}
use Rattle.hc_interrupt.specs.declared.turns.Turn.{Turn}
use Rattle.hc_interrupt.specs.declared.turns.Turn.TheVariants as turns
use Rattle.hc_interrupt.specs.Turns.{microframe_of, turn_of, planned}
use Rattle.hc_iso.specs.declared.held.HeldItd.{HeldItd}
use Rattle.hc_iso.specs.declared.held.HeldSitd.{HeldSitd}
use Rattle.hc_iso.specs.declared.held.IsoEnd.{IsoEnd}
use Rattle.hc_iso.specs.declared.held.SitdTurn.{SitdTurn}
use Rattle.hc_iso.specs.declared.held.SitdTurn.TheVariants as sitd_turns
use Rattle.hc_iso.specs.declared.held.SplitOutcome.{SplitOutcome}
use Rattle.hc_iso.specs.declared.held.SplitOutcome.TheVariants.{Failed}
use Rattle.hc_iso.specs.Itd.{itd_transaction}
use Rattle.hc_iso.specs.Sitd.{sitd_turn, sitd_transaction, missed_copy}
use Rattle.hc_iso.specs.WriteBack.{itd_sending, itd_written, sitd_sending}
use Rattle.async_walk.specs.declared.state.WalkStep.{WalkStep}
use Rattle.async_walk.specs.declared.state.WalkStep.TheVariants as steps
use Rattle.periodic_walk.specs.declared.state.Hand.{Hand}
use Rattle.periodic_walk.specs.declared.state.Hand.TheVariants as hands
use Rattle.periodic_walk.specs.declared.state.HeldQueue.{HeldQueue}
use Rattle.periodic_walk.specs.declared.queue.QueueRow.TheVariants as queue_rows
use Rattle.periodic_walk.specs.declared.itd.ItdRow.TheVariants as itd_rows
use Rattle.periodic_walk.specs.declared.sitd.SitdRow.TheVariants as sitd_rows
use Rattle.periodic_walk.specs.Place.{FramePlace, reading}
use Rattle.periodic_walk.specs.Chain.{queue_fetch, itd_fetch, sitd_fetch, chain_row, chain_step}
use Rattle.periodic_walk.specs.Queue.{taken_row, turn_row, turn_read, settled_row, settled_read, queue_step, writing, missed, miss_outcome}
use Rattle.periodic_walk.specs.Itd.{timed_row as itd_timed}
use Rattle.periodic_walk.specs.Itd.{ended_row, itd_step}
use Rattle.periodic_walk.specs.Sitd.{turn_row as sitd_turn_row}
use Rattle.periodic_walk.specs.Sitd.{settled_row as sitd_settled_row, sitd_step, writing as sitd_writing}
use Rattle.periodic_walk.specs.Rows.{step_at, step_of}
use Rattle.periodic_walk.specs.Causes.{ChainEnds, IsUnread, IsVisited, IsGoing, IsTurned, HasNothing, IsStuck, Cause}
use Rattle.periodic_walk.specs.Causes.HasNothing.{queue_rests, queue_is_late, queue_ends, qtd_is_done, itd_rests, itd_is_late, sitd_rests, sitd_is_late}
use Rattle.periodic_walk.specs.Causes.IsStuck.{chain_is_broken, queue_is_broken, overlay_is_foreign, queue_bytes_are_foreign, miss_is_foreign, queue_words_are_foreign, itd_bytes_are_foreign, itd_words_are_foreign, sitd_bytes_are_foreign, sitd_miss_is_foreign, sitd_words_are_foreign}
use Rattle.periodic_walk.specs.Causes.Cause.{ends, fetches, advances, transacts, writes, skips, faults}

-- ---- what an event is at each step of its choice

abbrev pub queue_turned : FramePlace → HeldQueue → Turn → WalkStep
queue_turned p h t = queue_step (turn_row p.memory p.walk.left h.copy.queue_head t) h (reading (turn_read p.memory t) p)

abbrev pub queue_at : FramePlace → HeldQueue → Option Outcome → WalkStep
queue_at p h s = queue_step (settled_row p.memory p.walk.left p.walk.index h.copy.queue_head s) h (reading (settled_read p.memory p.walk.index h.copy.queue_head s) p)

abbrev pub sitd_turned : FramePlace → HeldSitd → SitdTurn → WalkStep
sitd_turned p h t = sitd_step (sitd_turn_row p.walk.left h.sitd t) h p

abbrev pub sitd_at : FramePlace → HeldSitd → Option SplitOutcome → WalkStep
sitd_at p h s = sitd_step (sitd_settled_row p.walk.left (microframe_of p.walk.index) h.sitd s) h p

-- a qTD that was read leaves memory as it was
read_at : (m : Mem) (b : Bool) (o : Option Qtd) (t : Qtd) → (if b then o else None) ≡ Some t → (if b then m else refused m) ≡ m
read_at m true o t is = refl
read_at m false o t is = absurd (cc)

pub read_same : (m : Mem) (a : ℕ) (t : Qtd) → qtd_at_address m a ≡ Some t → qtd_was_read m a ≡ m
read_same m a t is = read_at m (reaches m a) (result_ok (qtd_read (words_at m a 8))) t is

-- ---- each event has its cause: no copy is in hand

module _ (p : FramePlace) (none : p.walk.hand ≡ None) where
  queue_fetched : (a : ℕ) → p.walk.cursor ≡ links.Qh a → (o : Option Qh) → queue_head_at_address p.memory a ≡ o → Cause p (chain_step (queue_fetch a o))
  queue_fetched a link None is = faults (chain_is_broken (record { no_copy = none; unread = subst (IsUnread p.memory) (sym link) is }))
  queue_fetched a link (Some q) is = fetches

  itd_fetched : (a : ℕ) → p.walk.cursor ≡ links.Itd a → (o : Option Itd) → itd_at_address p.memory a ≡ o → Cause p (chain_step (itd_fetch a o))
  itd_fetched a link None is = faults (chain_is_broken (record { no_copy = none; unread = subst (IsUnread p.memory) (sym link) is }))
  itd_fetched a link (Some v) is = fetches

  sitd_fetched : (a : ℕ) → p.walk.cursor ≡ links.Sitd a → (o : Option Sitd) → sitd_at_address p.memory a ≡ o → Cause p (chain_step (sitd_fetch a o))
  sitd_fetched a link None is = faults (chain_is_broken (record { no_copy = none; unread = subst (IsUnread p.memory) (sym link) is }))
  sitd_fetched a link (Some v) is = fetches

  chain_cause : (link : Link) → p.walk.cursor ≡ link → Cause p (chain_step (chain_row p.memory link))
  chain_cause links.End is = ends (record { no_copy = none; at_end = is })
  chain_cause (links.Itd a) is = itd_fetched a is (itd_at_address p.memory a) refl
  chain_cause (links.Qh a) is = queue_fetched a is (queue_head_at_address p.memory a) refl
  chain_cause (links.Sitd a) is = sitd_fetched a is (sitd_at_address p.memory a) refl
  chain_cause (links.Fstn a) is = faults (chain_is_broken (record { no_copy = none; unread = subst (IsUnread p.memory) (sym is) tt }))

-- ---- a queue head is in hand

module _ (p : FramePlace) (h : HeldQueue) (in_hand : p.walk.hand ≡ Some (hands.Queue h)) where
  queue_wrote : (outcome : Outcome) → h.copy.settled ≡ Some outcome → (b : Bool) → (writing h.copy outcome p.walk.reply p.memory).all ≡ b → Cause p (if b then steps.WriteBack else steps.Fault)
  queue_wrote outcome settled true is = writes
  queue_wrote outcome settled false is = faults (queue_words_are_foreign (record { held = h; outcome = outcome; in_hand = in_hand; settled = settled; refused = is }))

  module _ (not_settled : h.copy.settled ≡ None) where
    visiting : (t : Turn) → turn_of p.walk.index h.copy.queue_head ≡ t → IsVisited p h t
    visiting t is = record { in_hand = in_hand; not_settled = not_settled; turns = is }

    miss_wrote : turn_of p.walk.index h.copy.queue_head ≡ turns.Miss → (b : Bool) → (writing (missed h).copy miss_outcome p.walk.reply p.memory).all ≡ b → Cause p (if b then steps.WriteBack else steps.Fault)
    miss_wrote is true written = writes
    miss_wrote is false written = faults (miss_is_foreign (record { held = h; visited = visiting turns.Miss is; refused = written }))

    queue_sent : IsVisited p h turns.Work → (planned h.copy.queue_head).price.0 ≤ p.walk.left → (b : Bool) → (sending (planned h.copy.queue_head) h.copy.queue_head p.memory).all ≡ b → Cause p (if b then steps.Transact else steps.Fault)
    queue_sent v timely true is = transacts
    queue_sent v timely false is = faults (queue_bytes_are_foreign (record { held = h; visited = v; in_time = timely; refused = is }))

    queue_works : IsVisited p h turns.Work → (late : Bool) → nat_lt p.walk.left (planned h.copy.queue_head).price.0 ≡ late → Cause p (queue_step (if late then queue_rows.Skip else queue_rows.Transact (planned h.copy.queue_head)) h p)
    queue_works v true late = skips (queue_is_late (record { held = h; visited = v; late = ltb-true _ _ late }))
    queue_works v false late = queue_sent v (ltb-false _ _ late) (sending (planned h.copy.queue_head) h.copy.queue_head p.memory).all refl

    queue_took : (a : ℕ) (t : Qtd) → IsVisited p h (turns.Take (qtd_links.To a)) → qtd_at_address p.memory a ≡ Some t → t.token.active ≡ true → (b : Bool) → reaches_queue_head p.memory h.copy.at ≡ b → Cause p (if b then steps.Advance else steps.Fault)
    queue_took a t v there active true is = advances
    queue_took a t v there active false is = faults (overlay_is_foreign (record { held = h; at = a; qtd = t; visited = v; stands_there = there; active = active; refused = is }))

    -- the qTD was read, which leaves memory as it was
    queue_found : (a : ℕ) (t : Qtd) (m : Mem) → m ≡ p.memory → IsVisited p h (turns.Take (qtd_links.To a)) → qtd_at_address p.memory a ≡ Some t → (active : Bool) → t.token.active ≡ active → Cause p (queue_step (if active then queue_rows.Advance a t else queue_rows.Skip) h (reading m p))
    queue_found a t m same v there true is =
        subst (λ (x : Mem). Cause p (if reaches_queue_head x h.copy.at then steps.Advance else steps.Fault)) (sym same)
        (queue_took a t v there is (reaches_queue_head p.memory h.copy.at) refl)
    queue_found a t m same v there false is = skips (qtd_is_done (record { held = h; at = a; qtd = t; visited = v; stands_there = there; inactive = is }))

    queue_takes : (a : ℕ) → IsVisited p h (turns.Take (qtd_links.To a)) → (o : Option Qtd) → qtd_at_address p.memory a ≡ o → Cause p (queue_step (taken_row a o) h (reading (qtd_was_read p.memory a) p))
    queue_takes a v None is = faults (queue_is_broken (record { held = h; at = a; visited = v; nothing_there = is }))
    queue_takes a v (Some t) is = queue_found a t (qtd_was_read p.memory a) (read_same p.memory a t is) v is t.token.active refl

    turn_cause : (t : Turn) → turn_of p.walk.index h.copy.queue_head ≡ t → Cause p (queue_turned p h t)
    turn_cause turns.Rest is = skips (queue_rests (record { held = h; visited = visiting turns.Rest is }))
    turn_cause turns.Work is = queue_works (visiting turns.Work is) (nat_lt p.walk.left (planned h.copy.queue_head).price.0) refl
    turn_cause turns.Miss is = miss_wrote is (writing (missed h).copy miss_outcome p.walk.reply p.memory).all refl
    turn_cause (turns.Take qtd_links.End) is = skips (queue_ends (record { held = h; visited = visiting (turns.Take qtd_links.End) is }))
    turn_cause (turns.Take (qtd_links.To a)) is = queue_takes a (visiting (turns.Take (qtd_links.To a)) is) (qtd_at_address p.memory a) refl

  queue_cause : (s : Option Outcome) → h.copy.settled ≡ s → Cause p (queue_at p h s)
  queue_cause None is = turn_cause is (turn_of p.walk.index h.copy.queue_head) refl
  queue_cause (Some outcome) is = queue_wrote outcome is (writing h.copy outcome p.walk.reply p.memory).all refl

-- ---- an iTD is in hand

module _ (p : FramePlace) (h : HeldItd) (in_hand : p.walk.hand ≡ Some (hands.Itd h)) where
  itd_wrote : (ended : IsoEnd) → h.ended ≡ Some ended → (b : Bool) → (itd_written h p.walk.got p.memory).all ≡ b → Cause p (if b then steps.WriteBack else steps.Fault)
  itd_wrote ended has true is = writes
  itd_wrote ended has false is = faults (itd_words_are_foreign (record { held = h; ended = ended; in_hand = in_hand; has_ended = has; refused = is }))

  itd_sent : IsGoing p h → h.slot.active ≡ true → (itd_transaction h).price.0 ≤ p.walk.left → (b : Bool) → (itd_sending (itd_transaction h) h p.memory).all ≡ b → Cause p (if b then steps.Transact else steps.Fault)
  itd_sent g active timely true is = transacts
  itd_sent g active timely false is = faults (itd_bytes_are_foreign (record { held = h; going = g; active = active; in_time = timely; refused = is }))

  itd_works : IsGoing p h → h.slot.active ≡ true → (late : Bool) → nat_lt p.walk.left (itd_transaction h).price.0 ≡ late → Cause p (itd_step (if late then itd_rows.Skip else itd_rows.Transact (itd_transaction h)) h p)
  itd_works g active true late = skips (itd_is_late (record { held = h; going = g; active = active; late = ltb-true _ _ late }))
  itd_works g active false late = itd_sent g active (ltb-false _ _ late) (itd_sending (itd_transaction h) h p.memory).all refl

  itd_open : IsGoing p h → (active : Bool) → h.slot.active ≡ active → Cause p (itd_step (if active then itd_timed p.walk.left (itd_transaction h) else itd_rows.Skip) h p)
  itd_open g true is = itd_works g is (nat_lt p.walk.left (itd_transaction h).price.0) refl
  itd_open g false is = skips (itd_rests (record { held = h; going = g; inactive = is }))

  itd_cause : (o : Option IsoEnd) → h.ended ≡ o → Cause p (itd_step (ended_row p.walk.left h o) h p)
  itd_cause None is = itd_open (record { in_hand = in_hand; not_ended = is }) h.slot.active refl
  itd_cause (Some ended) is = itd_wrote ended is (itd_written h p.walk.got p.memory).all refl

-- ---- a siTD is in hand

module _ (p : FramePlace) (h : HeldSitd) (in_hand : p.walk.hand ≡ Some (hands.Sitd h)) where
  sitd_wrote : (outcome : SplitOutcome) → h.settled ≡ Some outcome → (b : Bool) → (sitd_writing h outcome p.walk.reply p.memory).all ≡ b → Cause p (if b then steps.WriteBack else steps.Fault)
  sitd_wrote outcome settled true is = writes
  sitd_wrote outcome settled false is = faults (sitd_words_are_foreign (record { held = h; outcome = outcome; in_hand = in_hand; settled = settled; refused = is }))

  sitd_missed : IsTurned p h sitd_turns.Miss → (b : Bool) → (sitd_writing (missed_copy h) Failed p.walk.reply p.memory).all ≡ b → Cause p (if b then steps.WriteBack else steps.Fault)
  sitd_missed t true is = writes
  sitd_missed t false is = faults (sitd_miss_is_foreign (record { held = h; turned = t; refused = is }))

  sitd_sent : IsTurned p h sitd_turns.Work → (sitd_transaction h.sitd).price.0 ≤ p.walk.left → (b : Bool) → (sitd_sending (sitd_transaction h.sitd) h.sitd p.memory).all ≡ b → Cause p (if b then steps.Transact else steps.Fault)
  sitd_sent t timely true is = transacts
  sitd_sent t timely false is = faults (sitd_bytes_are_foreign (record { held = h; turned = t; in_time = timely; refused = is }))

  sitd_works : IsTurned p h sitd_turns.Work → (late : Bool) → nat_lt p.walk.left (sitd_transaction h.sitd).price.0 ≡ late → Cause p (sitd_step (if late then sitd_rows.Skip else sitd_rows.Transact (sitd_transaction h.sitd)) h p)
  sitd_works t true late = skips (sitd_is_late (record { held = h; turned = t; late = ltb-true _ _ late }))
  sitd_works t false late = sitd_sent t (ltb-false _ _ late) (sitd_sending (sitd_transaction h.sitd) h.sitd p.memory).all refl

  sitd_turn_cause : h.settled ≡ None → (t : SitdTurn) → sitd_turn (microframe_of p.walk.index) h.sitd ≡ t → Cause p (sitd_turned p h t)
  sitd_turn_cause fresh sitd_turns.Rest is = skips (sitd_rests (record { held = h; turned = record { in_hand = in_hand; not_settled = fresh; turns = is } }))
  sitd_turn_cause fresh sitd_turns.Work is = sitd_works (record { in_hand = in_hand; not_settled = fresh; turns = is }) (nat_lt p.walk.left (sitd_transaction h.sitd).price.0) refl
  sitd_turn_cause fresh sitd_turns.Miss is = sitd_missed (record { in_hand = in_hand; not_settled = fresh; turns = is }) (sitd_writing (missed_copy h) Failed p.walk.reply p.memory).all refl

  sitd_cause : (s : Option SplitOutcome) → h.settled ≡ s → Cause p (sitd_at p h s)
  sitd_cause None is = sitd_turn_cause is (sitd_turn (microframe_of p.walk.index) h.sitd) refl
  sitd_cause (Some outcome) is = sitd_wrote outcome is (sitd_writing h outcome p.walk.reply p.memory).all refl

-- ---- each event

hand_cause : (p : FramePlace) (hand : Option Hand) → p.walk.hand ≡ hand → Cause p (step_at p hand)
hand_cause p None is = chain_cause p is p.walk.cursor refl
hand_cause p (Some (hands.Queue h)) is = queue_cause p h is h.copy.settled refl
hand_cause p (Some (hands.Itd h)) is = itd_cause p h is h.ended refl
hand_cause p (Some (hands.Sitd h)) is = sitd_cause p h is h.settled refl

pub each_event_has_its_cause : (p : FramePlace) → Cause p (step_of p)
each_event_has_its_cause p = hand_cause p p.walk.hand refl

ends_of : (p : FramePlace) (step : WalkStep) → Cause p step → step ≡ steps.Ended → ChainEnds p
ends_of p _ (ends c) is = c
ends_of p _ fetches is = absurd cc
ends_of p _ advances is = absurd cc
ends_of p _ transacts is = absurd cc
ends_of p _ writes is = absurd cc
ends_of p _ (skips c) is = absurd cc
ends_of p _ (faults c) is = absurd cc

skips_of : (p : FramePlace) (step : WalkStep) → Cause p step → step ≡ steps.Skip → HasNothing p
skips_of p _ (ends c) is = absurd cc
skips_of p _ fetches is = absurd cc
skips_of p _ advances is = absurd cc
skips_of p _ transacts is = absurd cc
skips_of p _ writes is = absurd cc
skips_of p _ (skips c) is = c
skips_of p _ (faults c) is = absurd cc

faults_of : (p : FramePlace) (step : WalkStep) → Cause p step → step ≡ steps.Fault → IsStuck p
faults_of p _ (ends c) is = absurd cc
faults_of p _ fetches is = absurd cc
faults_of p _ advances is = absurd cc
faults_of p _ transacts is = absurd cc
faults_of p _ writes is = absurd cc
faults_of p _ (skips c) is = absurd cc
faults_of p _ (faults c) is = c

pub ends_for_a_reason : (p : FramePlace) → step_of p ≡ steps.Ended → ChainEnds p
ends_for_a_reason p is = ends_of p (step_of p) (each_event_has_its_cause p) is

pub skips_for_a_reason : (p : FramePlace) → step_of p ≡ steps.Skip → HasNothing p
skips_for_a_reason p is = skips_of p (step_of p) (each_event_has_its_cause p) is

pub faults_for_a_reason : (p : FramePlace) → step_of p ≡ steps.Fault → IsStuck p
faults_for_a_reason p is = faults_of p (step_of p) (each_event_has_its_cause p) is
