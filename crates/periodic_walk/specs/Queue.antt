-- An event at the queue head in hand (EHCI 1.0, 4.10 and 4.12.2).
use Rattle.std.specs.Prelude.{◌≡◌, ℕ, ◌+◌, ◌-◌, ◌%◌, min, Bool, true, false, nat_lt, List, Option, None, Some, if◌then◌else◌}
use Rattle.usb_base.specs.declared.endpoints.EndCause.TheVariants as causes
use Rattle.usb_base.specs.declared.packets.Reply.{Reply}
use Rattle.word_mem.specs.Memory.{Mem}
use Rattle.link_words.specs.declared.kinds.QtdLink.{QtdLink}
use Rattle.link_words.specs.declared.kinds.QtdLink.TheVariants as qtd_links
use Rattle.qh_qtd.specs.declared.qtd.Qtd.{Qtd}
use Rattle.qh_qtd.specs.declared.queue_head.Qh.{Qh}
use Rattle.qh_qtd.specs.Qtd.{IsQtdInRange}
use Rattle.toggle_error.specs.declared.host.Outcome.{Outcome}
use Rattle.toggle_error.specs.declared.host.Outcome.TheVariants as outcomes
use Rattle.mem_queues.specs.Structures.{qtd_at_address, qtd_was_read, reaches_queue_head}
use Rattle.hc_copy.specs.declared.held.Held.{Held}
use Rattle.hc_copy.specs.declared.held.Transaction.{Transaction}
use Rattle.hc_copy.specs.Planning.{CanBeMade}
use Rattle.hc_copy.specs.Overlay.{advanced}
use Rattle.hc_copy.specs.Buffer.{Reading, Writing, sending}
use Rattle.hc_copy.specs.Transacting.{call_in}
use Rattle.hc_copy.specs.WriteBack.{received, written_back, raised, overlay_after}
use Rattle.hc_interrupt.specs.declared.turns.Turn.{Turn}
use Rattle.hc_interrupt.specs.declared.turns.Turn.TheVariants as turns
use Rattle.hc_interrupt.specs.Turns.{turn_of, planned, is_last_of}
use Rattle.hc_interrupt.specs.Copies.{interrupt_copy, missed_copy, goes_on, again_copy}
use Rattle.async_walk.specs.declared.state.WalkStep.{WalkStep}
use Rattle.async_walk.specs.declared.state.WalkStep.TheVariants as steps
use Rattle.periodic_walk.specs.declared.queue.QueueRow.{QueueRow}
use Rattle.periodic_walk.specs.declared.queue.QueueRow.TheVariants as rows
use Rattle.periodic_walk.specs.declared.state.HeldQueue.{HeldQueue}
use Rattle.periodic_walk.specs.declared.state.Hand.TheVariants as hands
use Rattle.periodic_walk.specs.Walk.{Walk}
use Rattle.periodic_walk.specs.Place.{FramePlace, faulted, holding, passed, passing, Effect, sent}
use Rattle.periodic_walk.specs.Place.Effect.{Leaves}

-- ---- which row it is

-- a periodic transaction whose price passes the time left is skipped (4.10.3)
abbrev pub timed_row : ℕ → Transaction → QueueRow
timed_row left t = if nat_lt left t.price.0 then rows.Skip else rows.Transact t

abbrev pub taken_row : ℕ → Option Qtd → QueueRow
taken_row a None = rows.Fault
taken_row a (Some t) = if t.token.active then rows.Advance a t else rows.Skip

abbrev pub take_row : Mem → QtdLink → QueueRow
take_row m qtd_links.End = rows.Skip
take_row m (qtd_links.To a) = taken_row a (qtd_at_address m a)

abbrev pub turn_row : Mem → ℕ → Qh → Turn → QueueRow
turn_row m left q turns.Rest = rows.Skip
turn_row m left q turns.Work = timed_row left (planned q)
turn_row m left q turns.Miss = rows.Miss
turn_row m left q (turns.Take link) = take_row m link

abbrev pub settled_row : Mem → ℕ → ℕ → Qh → Option Outcome → QueueRow
settled_row m left f q None = turn_row m left q (turn_of f q)
settled_row m left f q (Some outcome) = rows.WriteBack outcome

abbrev pub queue_row : FramePlace → HeldQueue → QueueRow
queue_row p h = settled_row p.memory p.walk.left p.walk.index h.copy.queue_head h.copy.settled

-- what was read is in its range, and the transaction can be made
abbrev pub IsSound : QueueRow → Type 0
IsSound rows.Fault = Unit {0}
IsSound rows.Skip = Unit {0}
IsSound (rows.Advance a t) = (a % 32 ≡ 0) × IsQtdInRange t
IsSound (rows.Transact t) = CanBeMade t
IsSound rows.Miss = Unit {0}
IsSound (rows.WriteBack outcome) = Unit {0}

-- what reading leaves of memory
abbrev pub take_read : Mem → QtdLink → Mem
take_read m qtd_links.End = m
take_read m (qtd_links.To a) = qtd_was_read m a

abbrev pub turn_read : Mem → Turn → Mem
turn_read m turns.Rest = m
turn_read m turns.Work = m
turn_read m turns.Miss = m
turn_read m (turns.Take link) = take_read m link

abbrev pub settled_read : Mem → ℕ → Qh → Option Outcome → Mem
settled_read m f q None = turn_read m (turn_of f q)
settled_read m f q (Some outcome) = m

abbrev pub queue_read : FramePlace → HeldQueue → Mem
queue_read p h = settled_read p.memory p.walk.index h.copy.queue_head h.copy.settled

-- ---- what stands after it

-- a qTD is taken and the overlay written; where the queue head isn't wholly Lent that is the fault
abbrev pub with_queue : HeldQueue → Qh → HeldQueue
with_queue h q = record h { copy = record h.copy { queue_head = q } }

abbrev pub took : HeldQueue → ℕ → Qtd → FramePlace → FramePlace
took h a t p =
    let new : Qh = advanced h.copy.queue_head a t in
    let written : FramePlace = record p { memory = overlay_after p.memory h.copy.at new } in
    if reaches_queue_head p.memory h.copy.at then record written { walk = holding (hands.Queue (with_queue h new)) p.walk } else faulted written

abbrev pub took_step : HeldQueue → Mem → WalkStep
took_step h m = if reaches_queue_head m h.copy.at then steps.Advance else steps.Fault

-- the write-back of a copy whose transaction came to this; or the fault
abbrev pub writing : Held → Outcome → Reply → Mem → Writing
writing copy outcome reply m = written_back copy.at copy.queue_head outcome (received copy.queue_head outcome reply) m

-- the visit goes on with a further transaction, or is over
abbrev pub visit_after : HeldQueue → Outcome → Walk → Walk
visit_after h outcome w =
    if goes_on h.made h.copy.queue_head outcome then holding (hands.Queue (record h { copy = again_copy outcome h.copy })) w
    else passed h.copy.queue_head.link w

abbrev pub wrote_at : Bool → HeldQueue → Outcome → FramePlace → FramePlace
wrote_at true h outcome p = record p { walk = visit_after h outcome p.walk; registers = raised h.copy.queue_head outcome p.registers }
wrote_at false h outcome p = faulted p

abbrev pub wrote : HeldQueue → Outcome → FramePlace → FramePlace
wrote h outcome p =
    let w : Writing = writing h.copy outcome p.walk.reply p.memory in
    wrote_at w.all h outcome (record p { memory = w.memory })

abbrev pub wrote_step : HeldQueue → Outcome → FramePlace → WalkStep
wrote_step h outcome p = if (writing h.copy outcome p.walk.reply p.memory).all then steps.WriteBack else steps.Fault

-- a miss is written back at once, with no transaction (4.12.2.4.1)
abbrev pub missed : HeldQueue → HeldQueue
missed h = record h { copy = missed_copy h.copy }

abbrev pub miss_outcome : Outcome
miss_outcome = outcomes.Halt causes.Miss

abbrev pub sent_step : Transaction → HeldQueue → Mem → WalkStep
sent_step t h m = if (sending t h.copy.queue_head m).all then steps.Transact else steps.Fault

abbrev pub queue_step : QueueRow → HeldQueue → FramePlace → WalkStep
queue_step rows.Fault h p = steps.Fault
queue_step rows.Skip h p = steps.Skip
queue_step (rows.Advance a t) h p = took_step h p.memory
queue_step (rows.Transact t) h p = sent_step t h p.memory
queue_step rows.Miss h p = wrote_step (missed h) miss_outcome p
queue_step (rows.WriteBack outcome) h p = wrote_step h outcome p

-- ---- a transaction

-- one more was made in the visit
abbrev pub transacted : ℕ → Transaction → List ℕ → Reply → HeldQueue → HeldQueue
transacted f t out reply h = record { copy = interrupt_copy f t out reply h.copy; made = min (h.made + 1) 255 }

abbrev pub queue_left_by : Transaction → List ℕ → HeldQueue → FramePlace → Reply → FramePlace
queue_left_by t out h p reply = record p {
  walk = record p.walk {
    hand = Some (hands.Queue (transacted p.walk.index t out reply h));
    reply = reply;
    left = p.walk.left - t.price.0;
  };
}

abbrev pub queue_sent : Transaction → HeldQueue → FramePlace → Effect
queue_sent t h p =
    let read : Reading = sending t h.copy.queue_head p.memory in
    let last : Bool = is_last_of p.walk.index h.copy.queue_head in
    let there : FramePlace = record p { memory = read.memory } in
    sent read.all (call_in t read.bytes last).ask (call_in t read.bytes last).out (queue_left_by t read.bytes h there) there

-- ---- what an event does

abbrev pub queue_effect : QueueRow → HeldQueue → FramePlace → Effect
queue_effect rows.Fault h p = Leaves (faulted p)
queue_effect rows.Skip h p = Leaves (passing h.copy.queue_head.link p)
queue_effect (rows.Advance a t) h p = Leaves (took h a t p)
queue_effect (rows.Transact t) h p = queue_sent t h p
queue_effect rows.Miss h p = Leaves (wrote (missed h) miss_outcome p)
queue_effect (rows.WriteBack outcome) h p = Leaves (wrote h outcome p)
