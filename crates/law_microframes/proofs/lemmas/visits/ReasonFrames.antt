-- The walk of the frames with no time left asks nothing.
use Rattle.std.proofs.Common.{◌≡◌, ◌≢◌, ℕ, ◌<◌, Bool, true, false, if◌then◌else◌, Option, Some, None, refl, arith}
use Rattle.std.specs.Prelude.{nat_lt}
use Rattle.std.proofs.lemmas.Bool.{ltb-false}
use Rattle.word_mem.specs.Memory.{Mem}
use Rattle.link_words.specs.declared.kinds.QtdLink.{QtdLink}
use Rattle.link_words.specs.declared.kinds.QtdLink.TheVariants as qtd_links
use Rattle.qh_qtd.specs.declared.qtd.Qtd.{Qtd}
use Rattle.qh_qtd.specs.declared.queue_head.Qh.{Qh}
use Rattle.itd_sitd.specs.declared.sitd.Sitd.{Sitd}
use Rattle.toggle_error.specs.declared.host.Outcome.{Outcome}
use Rattle.mem_queues.specs.Structures.{qtd_at_address, reaches_queue_head}
use Rattle.hc_copy.specs.declared.held.Transaction.{Transaction}
use Rattle.hc_interrupt.specs.declared.turns.Turn.{Turn}
use Rattle.hc_interrupt.specs.declared.turns.Turn.TheVariants as turns
use Rattle.hc_interrupt.specs.Turns.{microframe_of, turn_of, planned}
use Rattle.hc_interrupt.specs.Copies.{goes_on, again_copy}
use Rattle.hc_iso.specs.declared.held.HeldItd.{HeldItd}
use Rattle.hc_iso.specs.declared.held.HeldSitd.{HeldSitd}
use Rattle.hc_iso.specs.declared.held.IsoEnd.{IsoEnd}
use Rattle.hc_iso.specs.declared.held.IsoTransaction.{IsoTransaction}
use Rattle.hc_iso.specs.declared.held.SitdTurn.{SitdTurn}
use Rattle.hc_iso.specs.declared.held.SitdTurn.TheVariants as sitd_turns
use Rattle.hc_iso.specs.declared.held.SplitOutcome.{SplitOutcome}
use Rattle.hc_iso.specs.declared.held.SplitOutcome.TheVariants.{Failed}
use Rattle.hc_iso.specs.Itd.{itd_in, itd_out, itd_transaction}
use Rattle.hc_iso.specs.Sitd.{sitd_turn, sitd_in, sitd_out, sitd_transaction, missed_copy}
use Rattle.hc_iso.specs.WriteBack.{itd_written}
use Rattle.async_walk.specs.declared.state.WalkStep.TheVariants as steps
use Rattle.async_walk.proofs.Times.{costs_something}
use Rattle.law_microframes.proofs.lemmas.visits.ReasonRings.{either_step, either_written}
use Rattle.periodic_walk.specs.declared.chain.ChainRow.{ChainRow}
use Rattle.periodic_walk.specs.declared.chain.ChainRow.TheVariants as chain_rows
use Rattle.periodic_walk.specs.declared.queue.QueueRow.{QueueRow}
use Rattle.periodic_walk.specs.declared.queue.QueueRow.TheVariants as queue_rows
use Rattle.periodic_walk.specs.declared.itd.ItdRow.{ItdRow}
use Rattle.periodic_walk.specs.declared.itd.ItdRow.TheVariants as itd_rows
use Rattle.periodic_walk.specs.declared.sitd.SitdRow.{SitdRow}
use Rattle.periodic_walk.specs.declared.sitd.SitdRow.TheVariants as sitd_rows
use Rattle.periodic_walk.specs.declared.state.HeldQueue.{HeldQueue}
use Rattle.periodic_walk.specs.declared.state.Hand.{Hand}
use Rattle.periodic_walk.specs.declared.state.Hand.TheVariants as hands
use Rattle.periodic_walk.specs.Walk.{Walk}
use Rattle.periodic_walk.specs.Place.{FramePlace, reading, holding, passed, Effect}
use Rattle.periodic_walk.specs.Place.Effect.{Leaves, Asks}
use Rattle.periodic_walk.specs.Chain.{chain_row, chain_read, chain_after, chain_step}
use Rattle.periodic_walk.specs.Queue.{taken_row, take_row, turn_row as queue_turn_row, settled_row as queue_settled, queue_row, queue_read, writing as queue_writing, missed, miss_outcome, wrote_at as queue_wrote_at, queue_step, queue_effect}
use Rattle.periodic_walk.specs.Itd.{timed_row as itd_timed, ended_row, itd_row, wrote_at as itd_wrote_at, itd_step, itd_effect}
use Rattle.periodic_walk.specs.Sitd.{turn_row as sitd_turn_row, settled_row as sitd_settled, sitd_row, writing as sitd_writing, wrote_at as sitd_wrote_at, sitd_step, sitd_effect}
use Rattle.periodic_walk.specs.Rows.{step_at, step_of, effect_at, effect_of}

-- nothing is asked, and no time is left
abbrev pub IsQuiet : Effect → Type 0
IsQuiet (Leaves q) = q.walk.left ≡ 0
IsQuiet (Asks ask out by) = ⊥

pub record IsStill (p : FramePlace) : Type 0 where
  pub effect : IsQuiet (effect_of p)
  pub step : step_of p ≢ steps.Transact

record IsAtStill (p : FramePlace) (hand : Option Hand) : Type 0 where
  effect : IsQuiet (effect_at p hand)
  step : step_at p hand ≢ steps.Transact

-- ---- each transaction costs something

queue_costs : (q : Qh) → 0 < (planned q).price.0
queue_costs q = costs_something (planned q).split (planned q).pipe (planned q).host (planned q).bytes

either_costs : (b : Bool) (t u : IsoTransaction) → 0 < t.price.0 → 0 < u.price.0 → 0 < (if b then t else u).price.0
either_costs true t u one other = one
either_costs false t u one other = other

itd_costs : (h : HeldItd) → 0 < (itd_transaction h).price.0
itd_costs h = either_costs h.itd.dir_in (itd_in h) (itd_out h) (omega arith) (omega arith)

sitd_costs : (v : Sitd) → 0 < (sitd_transaction v).price.0
sitd_costs v = either_costs v.dir_in (sitd_in v) (sitd_out v) (either_costs v.split_state _ _ (omega arith) (omega arith)) (omega arith)

-- the price passes the time left
too_late : (left price : ℕ) → left ≡ 0 → 0 < price → nat_lt left price ≡ false → ⊥
too_late left price none costs in_time = let most = ltb-false left price in_time in omega (arith, none, costs, most)

-- ---- which step it is

either_left : (b : Bool) (p q : FramePlace) → p.walk.left ≡ 0 → q.walk.left ≡ 0 → (if b then p else q).walk.left ≡ 0
either_left true p q one other = one
either_left false p q one other = other

-- ---- no copy is in hand

chain_left : (row : ChainRow) (p : FramePlace) → p.walk.left ≡ 0 → (chain_after row p).walk.left ≡ 0
chain_left chain_rows.Fault p none = none
chain_left _ p none = none

chain_no_transaction : (row : ChainRow) → chain_step row ≢ steps.Transact
chain_no_transaction chain_rows.Fault same = cc
chain_no_transaction _ same = cc

-- ---- a queue head is in hand

abbrev AsksNothing : QueueRow → Type 0
AsksNothing (queue_rows.Transact t) = ⊥
AsksNothing _ = Unit {0}

queue_late : (late : Bool) (left : ℕ) (t : Transaction) → left ≡ 0 → 0 < t.price.0 → nat_lt left t.price.0 ≡ late → AsksNothing (if late then queue_rows.Skip else queue_rows.Transact t)
queue_late true left t none costs is = tt
queue_late false left t none costs is = too_late left t.price.0 none costs is

either_active : (b : Bool) (a : ℕ) (t : Qtd) → AsksNothing (if b then queue_rows.Advance a t else queue_rows.Skip)
either_active true a t = tt
either_active false a t = tt

taken_quiet : (a : ℕ) (o : Option Qtd) → AsksNothing (taken_row a o)
taken_quiet a None = tt
taken_quiet a (Some t) = either_active t.token.active a t

take_quiet : (m : Mem) (link : QtdLink) → AsksNothing (take_row m link)
take_quiet m qtd_links.End = tt
take_quiet m (qtd_links.To a) = taken_quiet a (qtd_at_address m a)

queue_turn_quiet : (m : Mem) (left : ℕ) (q : Qh) (t : Turn) → left ≡ 0 → AsksNothing (queue_turn_row m left q t)
queue_turn_quiet m left q turns.Work none = queue_late (nat_lt left (planned q).price.0) left (planned q) none (queue_costs q) refl
queue_turn_quiet m left q (turns.Take link) none = take_quiet m link
queue_turn_quiet m left q _ none = tt

queue_quiet : (m : Mem) (left f : ℕ) (q : Qh) (o : Option Outcome) → left ≡ 0 → AsksNothing (queue_settled m left f q o)
queue_quiet m left f q None none = queue_turn_quiet m left q (turn_of f q) none
queue_quiet m left f q (Some outcome) none = tt

visit_left : (h : HeldQueue) (outcome : Outcome) (w : Walk) (b : Bool) → w.left ≡ 0
    → (if b then holding (hands.Queue (record h { copy = again_copy outcome h.copy })) w else passed h.copy.queue_head.link w).left ≡ 0
visit_left h outcome w true none = none
visit_left h outcome w false none = none

queue_wrote_left : (all : Bool) (h : HeldQueue) (outcome : Outcome) (p : FramePlace) → p.walk.left ≡ 0 → (queue_wrote_at all h outcome p).walk.left ≡ 0
queue_wrote_left true h outcome p none = visit_left h outcome p.walk (goes_on h.made h.copy.queue_head outcome) none
queue_wrote_left false h outcome p none = none

queue_effect_quiet : (row : QueueRow) (h : HeldQueue) (p : FramePlace) → AsksNothing row → p.walk.left ≡ 0 → IsQuiet (queue_effect row h p)
queue_effect_quiet (queue_rows.Advance a t) h p quiet none = either_left (reaches_queue_head p.memory h.copy.at) _ _ none none
queue_effect_quiet (queue_rows.Transact t) h p quiet none = absurd quiet
queue_effect_quiet queue_rows.Miss h p quiet none =
    queue_wrote_left (queue_writing (missed h).copy miss_outcome p.walk.reply p.memory).all (missed h) miss_outcome
    (record p { memory = (queue_writing (missed h).copy miss_outcome p.walk.reply p.memory).memory }) none
queue_effect_quiet (queue_rows.WriteBack outcome) h p quiet none =
    queue_wrote_left (queue_writing h.copy outcome p.walk.reply p.memory).all h outcome (record p { memory = (queue_writing h.copy outcome p.walk.reply p.memory).memory }) none
queue_effect_quiet _ h p quiet none = none

queue_no_transaction : (row : QueueRow) (h : HeldQueue) (p : FramePlace) → AsksNothing row → queue_step row h p ≢ steps.Transact
queue_no_transaction (queue_rows.Advance a t) h p quiet same = either_step (reaches_queue_head p.memory h.copy.at) same
queue_no_transaction (queue_rows.Transact t) h p quiet same = quiet
queue_no_transaction queue_rows.Miss h p quiet same = either_written (queue_writing (missed h).copy miss_outcome p.walk.reply p.memory).all same
queue_no_transaction (queue_rows.WriteBack outcome) h p quiet same = either_written (queue_writing h.copy outcome p.walk.reply p.memory).all same
queue_no_transaction _ h p quiet same = cc

-- ---- an iTD is in hand

abbrev AsksNothingItd : ItdRow → Type 0
AsksNothingItd (itd_rows.Transact t) = ⊥
AsksNothingItd _ = Unit {0}

itd_late : (late : Bool) (left : ℕ) (t : IsoTransaction) → left ≡ 0 → 0 < t.price.0 → nat_lt left t.price.0 ≡ late → AsksNothingItd (if late then itd_rows.Skip else itd_rows.Transact t)
itd_late true left t none costs is = tt
itd_late false left t none costs is = too_late left t.price.0 none costs is

either_open : (b : Bool) (row : ItdRow) → AsksNothingItd row → AsksNothingItd (if b then row else itd_rows.Skip)
either_open true row quiet = quiet
either_open false row quiet = tt

itd_quiet : (left : ℕ) (h : HeldItd) (o : Option IsoEnd) → left ≡ 0 → AsksNothingItd (ended_row left h o)
itd_quiet left h None none =
    either_open h.slot.active (itd_timed left (itd_transaction h)) (itd_late (nat_lt left (itd_transaction h).price.0) left (itd_transaction h) none (itd_costs h) refl)
itd_quiet left h (Some ended) none = tt

itd_wrote_left : (all : Bool) (h : HeldItd) (ended : IsoEnd) (p : FramePlace) → p.walk.left ≡ 0 → (itd_wrote_at all h ended p).walk.left ≡ 0
itd_wrote_left true h ended p none = none
itd_wrote_left false h ended p none = none

itd_effect_quiet : (row : ItdRow) (h : HeldItd) (p : FramePlace) → AsksNothingItd row → p.walk.left ≡ 0 → IsQuiet (itd_effect row h p)
itd_effect_quiet itd_rows.Skip h p quiet none = none
itd_effect_quiet (itd_rows.Transact t) h p quiet none = absurd quiet
itd_effect_quiet (itd_rows.WriteBack ended) h p quiet none =
    itd_wrote_left (itd_written h p.walk.got p.memory).all h ended (record p { memory = (itd_written h p.walk.got p.memory).memory }) none

itd_no_transaction : (row : ItdRow) (h : HeldItd) (p : FramePlace) → AsksNothingItd row → itd_step row h p ≢ steps.Transact
itd_no_transaction itd_rows.Skip h p quiet same = cc
itd_no_transaction (itd_rows.Transact t) h p quiet same = quiet
itd_no_transaction (itd_rows.WriteBack ended) h p quiet same = either_written (itd_written h p.walk.got p.memory).all same

-- ---- a siTD is in hand

abbrev AsksNothingSitd : SitdRow → Type 0
AsksNothingSitd (sitd_rows.Transact t) = ⊥
AsksNothingSitd _ = Unit {0}

sitd_late : (late : Bool) (left : ℕ) (t : IsoTransaction) → left ≡ 0 → 0 < t.price.0 → nat_lt left t.price.0 ≡ late → AsksNothingSitd (if late then sitd_rows.Skip else sitd_rows.Transact t)
sitd_late true left t none costs is = tt
sitd_late false left t none costs is = too_late left t.price.0 none costs is

sitd_turn_quiet : (left : ℕ) (v : Sitd) (t : SitdTurn) → left ≡ 0 → AsksNothingSitd (sitd_turn_row left v t)
sitd_turn_quiet left v sitd_turns.Work none = sitd_late (nat_lt left (sitd_transaction v).price.0) left (sitd_transaction v) none (sitd_costs v) refl
sitd_turn_quiet left v _ none = tt

sitd_quiet : (left u : ℕ) (v : Sitd) (o : Option SplitOutcome) → left ≡ 0 → AsksNothingSitd (sitd_settled left u v o)
sitd_quiet left u v None none = sitd_turn_quiet left v (sitd_turn u v) none
sitd_quiet left u v (Some outcome) none = tt

sitd_wrote_left : (all : Bool) (h : HeldSitd) (outcome : SplitOutcome) (p : FramePlace) → p.walk.left ≡ 0 → (sitd_wrote_at all h outcome p).walk.left ≡ 0
sitd_wrote_left true h outcome p none = none
sitd_wrote_left false h outcome p none = none

sitd_effect_quiet : (row : SitdRow) (h : HeldSitd) (p : FramePlace) → AsksNothingSitd row → p.walk.left ≡ 0 → IsQuiet (sitd_effect row h p)
sitd_effect_quiet sitd_rows.Skip h p quiet none = none
sitd_effect_quiet (sitd_rows.Transact t) h p quiet none = absurd quiet
sitd_effect_quiet sitd_rows.Miss h p quiet none =
    sitd_wrote_left (sitd_writing (missed_copy h) Failed p.walk.reply p.memory).all (missed_copy h) Failed
    (record p { memory = (sitd_writing (missed_copy h) Failed p.walk.reply p.memory).memory }) none
sitd_effect_quiet (sitd_rows.WriteBack outcome) h p quiet none =
    sitd_wrote_left (sitd_writing h outcome p.walk.reply p.memory).all h outcome (record p { memory = (sitd_writing h outcome p.walk.reply p.memory).memory }) none

sitd_no_transaction : (row : SitdRow) (h : HeldSitd) (p : FramePlace) → AsksNothingSitd row → sitd_step row h p ≢ steps.Transact
sitd_no_transaction sitd_rows.Skip h p quiet same = cc
sitd_no_transaction (sitd_rows.Transact t) h p quiet same = quiet
sitd_no_transaction sitd_rows.Miss h p quiet same = either_written (sitd_writing (missed_copy h) Failed p.walk.reply p.memory).all same
sitd_no_transaction (sitd_rows.WriteBack outcome) h p quiet same = either_written (sitd_writing h outcome p.walk.reply p.memory).all same

-- ---- an event

hand_still : (p : FramePlace) (hand : Option Hand) → p.walk.left ≡ 0 → IsAtStill p hand
hand_still p None none = record {
  effect = chain_left (chain_row p.memory p.walk.cursor) (reading (chain_read p.memory p.walk.cursor) p) none;
  step = chain_no_transaction (chain_row p.memory p.walk.cursor);
}
hand_still p (Some (hands.Queue h)) none =
    let quiet = queue_quiet p.memory p.walk.left p.walk.index h.copy.queue_head h.copy.settled none in
    record {
      effect = queue_effect_quiet (queue_row p h) h (reading (queue_read p h) p) quiet none;
      step = queue_no_transaction (queue_row p h) h (reading (queue_read p h) p) quiet;
    }
hand_still p (Some (hands.Itd h)) none =
    let quiet = itd_quiet p.walk.left h h.ended none in
    record { effect = itd_effect_quiet (itd_row p.walk.left h) h p quiet none; step = itd_no_transaction (itd_row p.walk.left h) h p quiet }
hand_still p (Some (hands.Sitd h)) none =
    let quiet = sitd_quiet p.walk.left (microframe_of p.walk.index) h.sitd h.settled none in
    record { effect = sitd_effect_quiet (sitd_row p h) h p quiet none; step = sitd_no_transaction (sitd_row p h) h p quiet }

pub frame_still : (p : FramePlace) → p.walk.left ≡ 0 → IsStill p
frame_still p none = let still = hand_still p p.walk.hand none in record { effect = still.effect; step = still.step }
