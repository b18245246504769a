-- An event of the walk of the frames at the copy of a queue head in hand: a qTD is taken, a transaction is made, or it is written back
-- (EHCI 1.0, 4.10, 4.10.2 to 4.10.4).
use Rattle.std.proofs.Common.{◌≡◌, ◌≢◌, ℕ, Bool, true, false, if◌then◌else◌, Option, Some, None, ap, refl, ◌∙◌}
use Rattle.std.specs.Prelude.{nat_lt}
use Rattle.word_mem.specs.Memory.{Mem}
use Rattle.link_words.specs.declared.kinds.QtdLink.TheVariants as qtd_links
use Rattle.link_words.specs.Links.{qtd_link_of}
use Rattle.qh_qtd.specs.declared.qtd.Qtd.{Qtd}
use Rattle.qh_qtd.specs.declared.queue_head.Qh.{Qh}
use Rattle.toggle_error.specs.declared.host.Outcome.{Outcome}
use Rattle.transactions.specs.Calls.{Call}
use Rattle.mem_queues.specs.Structures.{qtd_at_address, qtd_was_read, reaches_queue_head}
use Rattle.hc_copy.specs.Buffer.{Reading, sending}
use Rattle.hc_copy.specs.Overlay.{advanced}
use Rattle.hc_copy.specs.Transacting.{call_in}
use Rattle.hc_copy.specs.Visits.{next_pointer, visit_at}
use Rattle.hc_copy.specs.WriteBack.{overlay_after}
use Rattle.hc_masks.specs.Masks.{has}
use Rattle.hc_interrupt.specs.declared.turns.Turn.{Turn}
use Rattle.hc_interrupt.specs.declared.turns.Turn.TheVariants as turns
use Rattle.hc_interrupt.specs.Turns.{microframe_of, start_turn, turn_of, planned, is_last_of}
use Rattle.async_walk.specs.declared.state.WalkStep.{WalkStep}
use Rattle.async_walk.specs.declared.state.WalkStep.TheVariants as walks
use Rattle.periodic_walk.specs.declared.queue.QueueRow.TheVariants as rows
use Rattle.periodic_walk.specs.declared.state.HeldQueue.{HeldQueue}
use Rattle.periodic_walk.specs.declared.state.Hand.TheVariants as hands
use Rattle.periodic_walk.specs.Place.{FramePlace, reading, holding, faulted, Effect, sent}
use Rattle.periodic_walk.specs.Place.Effect.{Leaves, Asks}
use Rattle.periodic_walk.specs.Queue.{taken_row, turn_row, turn_read, settled_row, settled_read, queue_row, with_queue, took, writing}
use Rattle.periodic_walk.specs.Queue.{queue_left_by, queue_step, queue_effect}
use Rattle.periodic_walk.specs.Rows.{step_of, effect_at, effect_of}
use Rattle.periodic_walk.proofs.Causing.{queue_turned, read_same}
use Rattle.periodic_walk.proofs.Caused.{queue_here}

-- ---- which turn it is

high_turn : (f : ℕ) (q : Qh) → q.eps ≡ 2
    → turn_of f q ≡ start_turn (visit_at (has q.smask (microframe_of f)) q.token.halted q.token.active (qtd_link_of (next_pointer q)))
high_turn f q high = rw high refl

pub turn_is : (f : ℕ) (q : Qh) (active : Bool) → q.eps ≡ 2 → has q.smask (microframe_of f) ≡ true → q.token.halted ≡ false
    → q.token.active ≡ active → turn_of f q ≡ start_turn (visit_at true false active (qtd_link_of (next_pointer q)))
turn_is f q active high bit unhalted is =
    high_turn f q high
    ∙ ap (λ (b : Bool). start_turn (visit_at b q.token.halted q.token.active (qtd_link_of (next_pointer q)))) bit
    ∙ ap (λ (b : Bool). start_turn (visit_at true b q.token.active (qtd_link_of (next_pointer q)))) unhalted
    ∙ ap (λ (b : Bool). start_turn (visit_at true false b (qtd_link_of (next_pointer q)))) is

either_step : (b : Bool) (k : WalkStep) → ((if b then k else walks.Fault) ≢ walks.Fault) → b ≡ true
either_step true k sound = refl
either_step false k sound = absurd (sound refl)

-- the row of a qTD that is taken
pub takes_row : (p : FramePlace) (h : HeldQueue) (a : ℕ) (t : Qtd) → h.copy.settled ≡ None
    → turn_of p.walk.index h.copy.queue_head ≡ turns.Take (qtd_links.To a) → qtd_at_address p.memory a ≡ Some t → t.token.active ≡ true
    → queue_row p h ≡ rows.Advance a t
takes_row p h a t fresh turn here active =
    ap (settled_row p.memory p.walk.left p.walk.index h.copy.queue_head) fresh
    ∙ ap (turn_row p.memory p.walk.left h.copy.queue_head) turn
    ∙ ap (taken_row a) here
    ∙ ap (λ (b : Bool). if b then rows.Advance a t else rows.Skip) active

module _ (p : FramePlace) (h : HeldQueue) (in_hand : p.walk.hand ≡ Some (hands.Queue h)) (sound : step_of p ≢ walks.Fault) where
  effect_here : (s : Option Outcome) → h.copy.settled ≡ s
      → effect_of p ≡ queue_effect (settled_row p.memory p.walk.left p.walk.index h.copy.queue_head s) h
      (reading (settled_read p.memory p.walk.index h.copy.queue_head s) p)
  effect_here s settled =
      ap (effect_at p) in_hand
      ∙ ap (λ (o : Option Outcome). queue_effect (settled_row p.memory p.walk.left p.walk.index h.copy.queue_head o) h
      (reading (settled_read p.memory p.walk.index h.copy.queue_head o) p)) settled

  abbrev effect_turned : Turn → Effect
  effect_turned t = queue_effect (turn_row p.memory p.walk.left h.copy.queue_head t) h (reading (turn_read p.memory t) p)

  -- ---- its transaction

  module _ (fresh : h.copy.settled ≡ None) (turn : turn_of p.walk.index h.copy.queue_head ≡ turns.Work)
      (timely : nat_lt p.walk.left (planned h.copy.queue_head).price.0 ≡ false) where
    abbrev pub bytes_read : Reading
    bytes_read = sending (planned h.copy.queue_head) h.copy.queue_head p.memory

    abbrev pub call_made : Call
    call_made = call_in (planned h.copy.queue_head) (sending (planned h.copy.queue_head) h.copy.queue_head p.memory).bytes
        (is_last_of p.walk.index h.copy.queue_head)

    sent_is : step_of p ≡ (if (sending (planned h.copy.queue_head) h.copy.queue_head p.memory).all then walks.Transact else walks.Fault)
    sent_is =
        queue_here p h None in_hand fresh ∙ ap (queue_turned p h) turn
        ∙ ap (λ (late : Bool). queue_step (if late then rows.Skip else rows.Transact (planned h.copy.queue_head)) h p) timely

    all_read : (sending (planned h.copy.queue_head) h.copy.queue_head p.memory).all ≡ true
    all_read =
        either_step (sending (planned h.copy.queue_head) h.copy.queue_head p.memory).all walks.Transact (λ fault. sound (sent_is ∙ fault))

    pub transacts : step_of p ≡ walks.Transact
    transacts = sent_is ∙ ap (λ (b : Bool). if b then walks.Transact else walks.Fault) all_read

    pub asks : effect_of p
        ≡ Asks call_made.ask call_made.out
        (queue_left_by (planned h.copy.queue_head) bytes_read.bytes h (record p { memory = bytes_read.memory }))
    asks =
        effect_here None fresh ∙ ap effect_turned turn
        ∙ ap (λ (late : Bool). queue_effect (if late then rows.Skip else rows.Transact (planned h.copy.queue_head)) h p) timely
        ∙ ap (λ (b : Bool). sent b call_made.ask call_made.out
        (queue_left_by (planned h.copy.queue_head) bytes_read.bytes h (record p { memory = bytes_read.memory }))
        (record p { memory = bytes_read.memory })) all_read

  -- ---- a qTD is taken

  module _ (fresh : h.copy.settled ≡ None) (a : ℕ) (turn : turn_of p.walk.index h.copy.queue_head ≡ turns.Take (qtd_links.To a)) where
    taken_is : (o : Option Qtd) → qtd_at_address p.memory a ≡ o
        → step_of p ≡ queue_step (taken_row a o) h (reading (qtd_was_read p.memory a) p)
    taken_is o here =
        queue_here p h None in_hand fresh ∙ ap (queue_turned p h) turn
        ∙ ap (λ (x : Option Qtd). queue_step (taken_row a x) h (reading (qtd_was_read p.memory a) p)) here

    -- the qTD is there
    pub record IsThere : Type 0 where
      pub qtd : Qtd
      pub here : qtd_at_address p.memory a ≡ Some qtd

    there_by : (o : Option Qtd) → qtd_at_address p.memory a ≡ o → IsThere
    there_by None here = absurd (sound (taken_is None here))
    there_by (Some t) here = record { qtd = t; here = here }

    pub is_there : IsThere
    is_there = there_by (qtd_at_address p.memory a) refl

    module _ (t : Qtd) (here : qtd_at_address p.memory a ≡ Some t) (active : t.token.active ≡ true) where
      took_is : step_of p ≡ (if reaches_queue_head p.memory h.copy.at then walks.Advance else walks.Fault)
      took_is =
          taken_is (Some t) here
          ∙ ap (λ (b : Bool). queue_step (if b then rows.Advance a t else rows.Skip) h (reading (qtd_was_read p.memory a) p)) active
          ∙ ap (λ (m : Mem). if reaches_queue_head m h.copy.at then walks.Advance else walks.Fault) (read_same p.memory a t here)

      is_lent : reaches_queue_head p.memory h.copy.at ≡ true
      is_lent = either_step (reaches_queue_head p.memory h.copy.at) walks.Advance (λ fault. sound (took_is ∙ fault))

      pub advances : step_of p ≡ walks.Advance
      advances = took_is ∙ ap (λ (b : Bool). if b then walks.Advance else walks.Fault) is_lent

      leaves : effect_of p ≡ Leaves (took h a t p)
      leaves =
          effect_here None fresh ∙ ap effect_turned turn
          ∙ ap (λ (x : Option Qtd). queue_effect (taken_row a x) h (reading (qtd_was_read p.memory a) p)) here
          ∙ ap (λ (b : Bool). queue_effect (if b then rows.Advance a t else rows.Skip) h (reading (qtd_was_read p.memory a) p)) active
          ∙ ap (λ (m : Mem). Leaves (took h a t (reading m p))) (read_same p.memory a t here)

      abbrev written : FramePlace
      written = record p { memory = overlay_after p.memory h.copy.at (advanced h.copy.queue_head a t) }

      abbrev took_by : Bool → FramePlace
      took_by b = if b then record written
          { walk = holding (hands.Queue (with_queue h (advanced h.copy.queue_head a t))) p.walk } else faulted written

      pub record IsTaken : Type 0 where
        pub place : FramePlace
        pub effect : effect_of p ≡ Leaves place
        pub hand : place.walk.hand ≡ Some (hands.Queue (with_queue h (advanced h.copy.queue_head a t)))
        pub index : place.walk.index ≡ p.walk.index

      pub is_taken : IsTaken
      is_taken = record {
        place = took h a t p;
        effect = leaves;
        hand = ap (λ (b : Bool). (took_by b).walk.hand) is_lent;
        index = ap (λ (b : Bool). (took_by b).walk.index) is_lent;
      }

  -- ---- it is written back

  wrote_is : (outcome : Outcome) → h.copy.settled ≡ Some outcome
      → step_of p ≡ (if (writing h.copy outcome p.walk.reply p.memory).all then walks.WriteBack else walks.Fault)
  wrote_is outcome settled = queue_here p h (Some outcome) in_hand settled

  pub writes : (outcome : Outcome) → h.copy.settled ≡ Some outcome → step_of p ≡ walks.WriteBack
  writes outcome settled =
      wrote_is outcome settled
      ∙ ap (λ (b : Bool). if b then walks.WriteBack else walks.Fault)
      (either_step (writing h.copy outcome p.walk.reply p.memory).all walks.WriteBack (λ fault. sound (wrote_is outcome settled ∙ fault)))
