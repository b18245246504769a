-- Each event of the walk of a frame's chain is the same over memories that are the same in Lent blocks.
use Rattle.std.proofs.Common.{◌≡◌, ℕ, ◌+◌, Bool, true, false, if◌then◌else◌, List, Option, None, Some, ap, refl, sym, subst, ◌∙◌}
use Rattle.std.specs.Prelude.{IfSome}
use Rattle.law_common.proofs.Booleans.{either}
use Rattle.usb_base.specs.declared.packets.Ask.{Ask}
use Rattle.usb_base.specs.declared.packets.Reply.{Reply}
use Rattle.word_mem.specs.Memory.{Mem}
use Rattle.link_words.specs.declared.kinds.Link.{Link}
use Rattle.link_words.specs.declared.kinds.Link.TheVariants as links
use Rattle.link_words.specs.declared.kinds.QtdLink.{QtdLink}
use Rattle.link_words.specs.declared.kinds.QtdLink.TheVariants as qtd_links
use Rattle.link_words.specs.Links.{IsAligned, IsQtdAligned, qtd_link_of}
use Rattle.qh_qtd.specs.declared.qtd.Qtd.{Qtd}
use Rattle.qh_qtd.specs.declared.queue_head.Qh.{Qh}
use Rattle.op_registers.specs.Events.{after_fault}
use Rattle.toggle_error.specs.declared.host.Outcome.{Outcome}
use Rattle.mem_queues.specs.Structures.{reaches_queue_head}
use Rattle.hc_masks.specs.Masks.{has}
use Rattle.hc_copy.specs.declared.held.Transaction.{Transaction}
use Rattle.hc_copy.specs.Visits.{next_pointer, visit_at}
use Rattle.hc_copy.specs.Overlay.{advanced, pages_of, buffer_place}
use Rattle.hc_copy.specs.Buffer.{Reading, Writing, sending}
use Rattle.hc_copy.specs.WriteBack.{received}
use Rattle.hc_copy.specs.Transacting.{call_in}
use Rattle.hc_interrupt.specs.declared.turns.Turn.{Turn}
use Rattle.hc_interrupt.specs.declared.turns.Turn.TheVariants as turns
use Rattle.hc_interrupt.specs.Turns.{microframe_of, waits, is_missed, complete_turn, start_turn, turn_of, is_last_of}
use Rattle.hc_iso.specs.declared.held.HeldItd.{HeldItd}
use Rattle.hc_iso.specs.declared.held.HeldSitd.{HeldSitd}
use Rattle.hc_iso.specs.declared.held.IsoEnd.{IsoEnd}
use Rattle.hc_iso.specs.declared.held.SplitOutcome.{SplitOutcome}
use Rattle.hc_iso.specs.declared.held.SplitOutcome.TheVariants.{Failed}
use Rattle.hc_iso.specs.Sitd.{missed_copy, sitd_place}
use Rattle.hc_iso.specs.WriteBack.{itd_pages, slot_place, itd_sending, itd_written, sitd_pages, sitd_sending, sitd_received}
use Rattle.async_walk.specs.declared.state.WalkStep.TheVariants as steps
use Rattle.periodic_walk.specs.declared.chain.ChainRow.{ChainRow}
use Rattle.periodic_walk.specs.declared.queue.QueueRow.{QueueRow}
use Rattle.periodic_walk.specs.declared.queue.QueueRow.TheVariants as queue_rows
use Rattle.periodic_walk.specs.declared.itd.ItdRow.{ItdRow}
use Rattle.periodic_walk.specs.declared.itd.ItdRow.TheVariants as itd_rows
use Rattle.periodic_walk.specs.declared.sitd.SitdRow.{SitdRow}
use Rattle.periodic_walk.specs.declared.sitd.SitdRow.TheVariants as sitd_rows
use Rattle.periodic_walk.specs.declared.state.HeldQueue.{HeldQueue}
use Rattle.periodic_walk.specs.declared.state.Hand.{Hand}
use Rattle.periodic_walk.specs.declared.state.Hand.TheVariants as hands
use Rattle.periodic_walk.specs.Walk.{stopped}
use Rattle.periodic_walk.specs.Place.{FramePlace, reading, Effect, HasEffect, sent}
use Rattle.periodic_walk.specs.Place.Effect.{Leaves, Asks}
use Rattle.periodic_walk.specs.Chain.{chain_row, chain_read, chain_after, chain_step, queue_fetch, itd_fetch, sitd_fetch}
use Rattle.periodic_walk.specs.Queue.{taken_row, take_row, turn_row, settled_row, queue_row, take_read, turn_read, settled_read, queue_read, queue_effect, queue_left_by, took, missed, miss_outcome, wrote, wrote_at, writing, took_step, sent_step, wrote_step, queue_step}
use Rattle.periodic_walk.specs.Itd.{itd_row, itd_effect, itd_step, wrote_at as itd_wrote_at}
use Rattle.periodic_walk.specs.Sitd.{sitd_row, sitd_effect, sitd_step, wrote_step as sitd_wrote_step, wrote_at as sitd_wrote_at, wrote as sitd_wrote, writing as sitd_writing}
use Rattle.periodic_walk.specs.Rows.{step_at, step_of, effect_at, effect_of, Leads}
use Rattle.law_controller.specs.aligned_copies.Aligned.{IsQueueAligned, IsHandAligned, IsFrameAligned}
use Rattle.law_controller.proofs.lemmas.aligned_copies.Reading.{pointer_aligned}
use Rattle.claims_base.specs.Controller.{IsSameWhereLent}
use Rattle.law_controller.proofs.lemmas.lent_reads.Same.{same_both, read_same, AreSameRead, AreSameWritten}
use Rattle.law_controller.proofs.lemmas.lent_reads.Structures.{head_same, element_same, itd_same, sitd_same, head_was_same, element_was_same, itd_was_same, sitd_was_same, overlay_after_same, back_same, itd_back_same, sitd_back_same}

pub record AreAlike (p q : FramePlace) : Type 0 where
  pub walk : q.walk ≡ p.walk
  pub registers : q.registers ≡ p.registers
  pub memory : IsSameWhereLent p.memory q.memory

-- the same is asked, and by each reply it leaves the same
abbrev AskAlike : Ask → List ℕ → (Reply → FramePlace) → Ask → List ℕ → (Reply → FramePlace) → Type 0
AskAlike ask out left_by ask_other out_other left_other = (ask_other ≡ ask) × (out_other ≡ out) × ((reply : Reply) → AreAlike (left_by reply) (left_other reply))

abbrev EffectAlike : Effect → Effect → Type 0
EffectAlike (Leaves p) (Leaves q) = AreAlike p q
EffectAlike (Asks ask out left_by) (Asks ask_other out_other left_other) = AskAlike ask out left_by ask_other out_other left_other
EffectAlike (Leaves p) (Asks ask out left_by) = ⊥
EffectAlike (Asks ask out left_by) (Leaves p) = ⊥

abbrev over : FramePlace → Mem → FramePlace
over p n = record p { memory = n }

alike_if : (x y z v : FramePlace) (a b : Bool) → b ≡ a → AreAlike x y → AreAlike z v → AreAlike (if a then x else z) (if b then y else v)
alike_if x y z v a b is one other = subst (λ (t : Bool). AreAlike (if a then x else z) (if t then y else v)) (sym is) (by a)
  where
    by : (t : Bool) → AreAlike (if t then x else z) (if t then y else v)
    by true = one
    by false = other

sent_by : (b : Bool) (ask ask_other : Ask) (out out_other : List ℕ) (left_by left_other : Reply → FramePlace) (p q : FramePlace) → (b ≡ true → AskAlike ask out left_by ask_other out_other left_other)
    → AreAlike p q → EffectAlike (sent b ask out left_by p) (sent b ask_other out_other left_other q)
sent_by true ask ask_other out out_other left_by left_other p q asked stuck = asked refl
sent_by false ask ask_other out out_other left_by left_other p q asked stuck = record {
  walk = ap stopped stuck.walk;
  registers = ap after_fault stuck.registers;
  memory = stuck.memory;
}

sent_alike : (a b : Bool) (ask ask_other : Ask) (out out_other : List ℕ) (left_by left_other : Reply → FramePlace) (p q : FramePlace) → b ≡ a → (a ≡ true → AskAlike ask out left_by ask_other out_other left_other)
    → AreAlike p q → EffectAlike (sent a ask out left_by p) (sent b ask_other out_other left_other q)
sent_alike a b ask ask_other out out_other left_by left_other p q is asked stuck =
    subst (λ (t : Bool). EffectAlike (sent a ask out left_by p) (sent t ask_other out_other left_other q)) (sym is) (sent_by a ask ask_other out out_other left_by left_other p q asked stuck)

-- ---- the chain is read

chain_row_same : (m n : Mem) (l : Link) → IsSameWhereLent m n → IsAligned l → chain_row n l ≡ chain_row m l
chain_row_same m n (links.Itd a) k is = ap (itd_fetch a) (itd_same m n a k is)
chain_row_same m n (links.Qh a) k is = ap (queue_fetch a) (head_same m n a k is)
chain_row_same m n (links.Sitd a) k is = ap (sitd_fetch a) (sitd_same m n a k is)
chain_row_same m n _ k is = refl

chain_read_same : (m n : Mem) (l : Link) → IsSameWhereLent m n → IsSameWhereLent (chain_read m l) (chain_read n l)
chain_read_same m n (links.Itd a) k = itd_was_same m n a k
chain_read_same m n (links.Qh a) k = head_was_same m n a k
chain_read_same m n (links.Sitd a) k = sitd_was_same m n a k
chain_read_same m n _ k = k

chain_alike : (p : FramePlace) (n : Mem) → IsSameWhereLent p.memory n → IsAligned p.walk.cursor
    → AreAlike (chain_after (chain_row p.memory p.walk.cursor) (reading (chain_read p.memory p.walk.cursor) p)) (chain_after (chain_row n p.walk.cursor) (reading (chain_read n p.walk.cursor) (over p n)))
chain_alike p n k is =
    subst (λ (row : ChainRow). AreAlike (chain_after (chain_row p.memory p.walk.cursor) (reading (chain_read p.memory p.walk.cursor) p)) (chain_after row (reading (chain_read n p.walk.cursor) (over p n))))
    (sym (chain_row_same p.memory n p.walk.cursor k is))
    (record { walk = refl; registers = refl; memory = chain_read_same p.memory n p.walk.cursor k })

-- ---- a queue head

take_row_same : (m n : Mem) (l : QtdLink) → IsSameWhereLent m n → IsQtdAligned l → take_row n l ≡ take_row m l
take_row_same m n qtd_links.End k is = refl
take_row_same m n (qtd_links.To a) k is = ap (taken_row a) (element_same m n a k is)

abbrev TurnAligned : Turn → Type 0
TurnAligned turns.Rest = Unit {0}
TurnAligned turns.Work = Unit {0}
TurnAligned turns.Miss = Unit {0}
TurnAligned (turns.Take l) = IsQtdAligned l

complete_aligned : (missed works : Bool) → TurnAligned (complete_turn missed works)
complete_aligned true works = tt
complete_aligned false true = tt
complete_aligned false false = tt

start_aligned : (may halted active : Bool) (l : QtdLink) → IsQtdAligned l → TurnAligned (start_turn (visit_at may halted active l))
start_aligned false halted active l is = tt
start_aligned true true active l is = tt
start_aligned true false true l is = tt
start_aligned true false false l is = is

turn_aligned : (f : ℕ) (q : Qh) → IsQueueAligned q → TurnAligned (turn_of f q)
turn_aligned f q is =
    either TurnAligned (waits q) (complete_turn (is_missed f q) (has q.cmask (microframe_of f))) _
    (complete_aligned (is_missed f q) (has q.cmask (microframe_of f)))
    (start_aligned (has q.smask (microframe_of f)) q.token.halted q.token.active (qtd_link_of (next_pointer q)) (pointer_aligned q is))

turn_row_same : (m n : Mem) (left : ℕ) (q : Qh) (turn : Turn) → IsSameWhereLent m n → TurnAligned turn → turn_row n left q turn ≡ turn_row m left q turn
turn_row_same m n left q (turns.Take l) k is = take_row_same m n l k is
turn_row_same m n left q _ k is = refl

settled_row_same : (m n : Mem) (left f : ℕ) (q : Qh) (o : Option Outcome) → IsSameWhereLent m n → IsQueueAligned q → settled_row n left f q o ≡ settled_row m left f q o
settled_row_same m n left f q None k is = turn_row_same m n left q (turn_of f q) k (turn_aligned f q is)
settled_row_same m n left f q (Some outcome) k is = refl

take_read_same : (m n : Mem) (l : QtdLink) → IsSameWhereLent m n → IsSameWhereLent (take_read m l) (take_read n l)
take_read_same m n qtd_links.End k = k
take_read_same m n (qtd_links.To a) k = element_was_same m n a k

turn_read_same : (m n : Mem) (turn : Turn) → IsSameWhereLent m n → IsSameWhereLent (turn_read m turn) (turn_read n turn)
turn_read_same m n (turns.Take l) k = take_read_same m n l k
turn_read_same m n _ k = k

settled_read_same : (m n : Mem) (f : ℕ) (q : Qh) (o : Option Outcome) → IsSameWhereLent m n → IsSameWhereLent (settled_read m f q o) (settled_read n f q o)
settled_read_same m n f q None k = turn_read_same m n (turn_of f q) k
settled_read_same m n f q (Some outcome) k = k

took_alike : (h : HeldQueue) (a : ℕ) (t : Qtd) (p : FramePlace) (n : Mem) → IsSameWhereLent p.memory n → AreAlike (took h a t p) (took h a t (over p n))
took_alike h a t p n k =
    let writes = overlay_after_same p.memory n h.copy.at (advanced h.copy.queue_head a t) k in
    alike_if _ _ _ _ (reaches_queue_head p.memory h.copy.at) (reaches_queue_head n h.copy.at) (same_both p.memory n h.copy.at (h.copy.at + 32) k)
    (record { walk = refl; registers = refl; memory = writes }) (record { walk = refl; registers = refl; memory = writes })

wrote_by : (b : Bool) (h : HeldQueue) (outcome : Outcome) (p : FramePlace) (m n : Mem) → IsSameWhereLent m n → AreAlike (wrote_at b h outcome (over p m)) (wrote_at b h outcome (over p n))
wrote_by true h outcome p m n k = record { walk = refl; registers = refl; memory = k }
wrote_by false h outcome p m n k = record { walk = refl; registers = refl; memory = k }

wrote_alike : (h : HeldQueue) (outcome : Outcome) (p : FramePlace) (n : Mem) → IsSameWhereLent p.memory n → AreAlike (wrote h outcome p) (wrote h outcome (over p n))
wrote_alike h outcome p n k =
    let w : Writing = writing h.copy outcome p.walk.reply p.memory in
    let v : Writing = writing h.copy outcome p.walk.reply n in
    let same : AreSameWritten w v = back_same h.copy.at h.copy.queue_head outcome (received h.copy.queue_head outcome p.walk.reply) p.memory n k in
    subst (λ (b : Bool). AreAlike (wrote_at w.all h outcome (over p w.memory)) (wrote_at b h outcome (over p v.memory))) (sym same.all) (wrote_by w.all h outcome p w.memory v.memory same.memory)

queue_alike : (row : QueueRow) (h : HeldQueue) (p : FramePlace) (n : Mem) → IsSameWhereLent p.memory n → EffectAlike (queue_effect row h p) (queue_effect row h (over p n))
queue_alike (queue_rows.Advance a t) h p n k = took_alike h a t p n k
queue_alike (queue_rows.Transact t) h p n k =
    let x : Reading = sending t h.copy.queue_head p.memory in
    let y : Reading = sending t h.copy.queue_head n in
    let last : Bool = is_last_of p.walk.index h.copy.queue_head in
    let read : AreSameRead x y = read_same p.memory n (pages_of h.copy.queue_head) (buffer_place h.copy.queue_head) t.bytes k in
    sent_alike x.all y.all _ _ _ _ _ _ (over p x.memory) (over p y.memory) read.all
    (λ all. (
      ap (λ (out : List ℕ). (call_in t out last).ask) (read.bytes all),
      ap (λ (out : List ℕ). (call_in t out last).out) (read.bytes all),
      λ reply. subst (λ (out : List ℕ). AreAlike (queue_left_by t x.bytes h (over p x.memory) reply) (queue_left_by t out h (over p y.memory) reply)) (sym (read.bytes all))
          (record { walk = refl; registers = refl; memory = read.memory }),
    ))
    (record { walk = refl; registers = refl; memory = read.memory })
queue_alike queue_rows.Miss h p n k = wrote_alike (missed h) miss_outcome p n k
queue_alike (queue_rows.WriteBack outcome) h p n k = wrote_alike h outcome p n k
queue_alike _ h p n k = record { walk = refl; registers = refl; memory = k }

queue_event : (h : HeldQueue) (p : FramePlace) (n : Mem) → IsSameWhereLent p.memory n → IsQueueAligned h.copy.queue_head
    → EffectAlike (queue_effect (queue_row p h) h (reading (queue_read p h) p)) (queue_effect (queue_row (over p n) h) h (reading (queue_read (over p n) h) (over p n)))
queue_event h p n k is =
    subst (λ (row : QueueRow). EffectAlike (queue_effect (queue_row p h) h (reading (queue_read p h) p)) (queue_effect row h (reading (queue_read (over p n) h) (over p n))))
    (sym (settled_row_same p.memory n p.walk.left p.walk.index h.copy.queue_head h.copy.settled k is))
    (queue_alike (queue_row p h) h (reading (queue_read p h) p) (queue_read (over p n) h) (settled_read_same p.memory n p.walk.index h.copy.queue_head h.copy.settled k))

-- ---- an iTD

itd_wrote_by : (b : Bool) (h : HeldItd) (ended : IsoEnd) (p : FramePlace) (m n : Mem) → IsSameWhereLent m n → AreAlike (itd_wrote_at b h ended (over p m)) (itd_wrote_at b h ended (over p n))
itd_wrote_by true h ended p m n k = record { walk = refl; registers = refl; memory = k }
itd_wrote_by false h ended p m n k = record { walk = refl; registers = refl; memory = k }

itd_alike : (row : ItdRow) (h : HeldItd) (p : FramePlace) (n : Mem) → IsSameWhereLent p.memory n → EffectAlike (itd_effect row h p) (itd_effect row h (over p n))
itd_alike itd_rows.Skip h p n k = record { walk = refl; registers = refl; memory = k }
itd_alike (itd_rows.Transact t) h p n k =
    let x : Reading = itd_sending t h p.memory in
    let y : Reading = itd_sending t h n in
    let read : AreSameRead x y = read_same p.memory n (itd_pages h.itd) (slot_place h.slot + h.moved) t.bytes k in
    sent_alike x.all y.all _ _ _ _ _ _ (over p x.memory) (over p y.memory) read.all
    (λ all. (refl, read.bytes all, λ reply. record { walk = refl; registers = refl; memory = read.memory }))
    (record { walk = refl; registers = refl; memory = read.memory })
itd_alike (itd_rows.WriteBack ended) h p n k =
    let w : Writing = itd_written h p.walk.got p.memory in
    let v : Writing = itd_written h p.walk.got n in
    let same : AreSameWritten w v = itd_back_same h p.walk.got p.memory n k in
    subst (λ (b : Bool). AreAlike (itd_wrote_at w.all h ended (over p w.memory)) (itd_wrote_at b h ended (over p v.memory))) (sym same.all) (itd_wrote_by w.all h ended p w.memory v.memory same.memory)

-- ---- a siTD

sitd_wrote_by : (b : Bool) (h : HeldSitd) (outcome : SplitOutcome) (p : FramePlace) (m n : Mem) → IsSameWhereLent m n → AreAlike (sitd_wrote_at b h outcome (over p m)) (sitd_wrote_at b h outcome (over p n))
sitd_wrote_by true h outcome p m n k = record { walk = refl; registers = refl; memory = k }
sitd_wrote_by false h outcome p m n k = record { walk = refl; registers = refl; memory = k }

sitd_wrote_alike : (h : HeldSitd) (outcome : SplitOutcome) (p : FramePlace) (n : Mem) → IsSameWhereLent p.memory n → AreAlike (sitd_wrote h outcome p) (sitd_wrote h outcome (over p n))
sitd_wrote_alike h outcome p n k =
    let w : Writing = sitd_writing h outcome p.walk.reply p.memory in
    let v : Writing = sitd_writing h outcome p.walk.reply n in
    let same : AreSameWritten w v = sitd_back_same h.at h.sitd outcome (sitd_received h.sitd.dir_in outcome p.walk.reply) p.memory n k in
    subst (λ (b : Bool). AreAlike (sitd_wrote_at w.all h outcome (over p w.memory)) (sitd_wrote_at b h outcome (over p v.memory))) (sym same.all) (sitd_wrote_by w.all h outcome p w.memory v.memory same.memory)

sitd_alike : (row : SitdRow) (h : HeldSitd) (p : FramePlace) (n : Mem) → IsSameWhereLent p.memory n → EffectAlike (sitd_effect row h p) (sitd_effect row h (over p n))
sitd_alike sitd_rows.Skip h p n k = record { walk = refl; registers = refl; memory = k }
sitd_alike (sitd_rows.Transact t) h p n k =
    let x : Reading = sitd_sending t h.sitd p.memory in
    let y : Reading = sitd_sending t h.sitd n in
    let read : AreSameRead x y = read_same p.memory n (sitd_pages h.sitd) (sitd_place h.sitd) t.bytes k in
    sent_alike x.all y.all _ _ _ _ _ _ (over p x.memory) (over p y.memory) read.all
    (λ all. (refl, read.bytes all, λ reply. record { walk = refl; registers = refl; memory = read.memory }))
    (record { walk = refl; registers = refl; memory = read.memory })
sitd_alike sitd_rows.Miss h p n k = sitd_wrote_alike (missed_copy h) Failed p n k
sitd_alike (sitd_rows.WriteBack outcome) h p n k = sitd_wrote_alike h outcome p n k

-- ---- what it answers

took_step_same : (h : HeldQueue) (m n : Mem) → IsSameWhereLent m n → took_step h n ≡ took_step h m
took_step_same h m n k = ap (λ (b : Bool). if b then steps.Advance else steps.Fault) (same_both m n h.copy.at (h.copy.at + 32) k)

sent_step_same : (t : Transaction) (h : HeldQueue) (m n : Mem) → IsSameWhereLent m n → sent_step t h n ≡ sent_step t h m
sent_step_same t h m n k =
    ap (λ (b : Bool). if b then steps.Transact else steps.Fault) (read_same m n (pages_of h.copy.queue_head) (buffer_place h.copy.queue_head) t.bytes k).all

wrote_step_same : (h : HeldQueue) (outcome : Outcome) (p : FramePlace) (n : Mem) → IsSameWhereLent p.memory n → wrote_step h outcome (over p n) ≡ wrote_step h outcome p
wrote_step_same h outcome p n k =
    ap (λ (b : Bool). if b then steps.WriteBack else steps.Fault) (back_same h.copy.at h.copy.queue_head outcome (received h.copy.queue_head outcome p.walk.reply) p.memory n k).all

queue_step_same : (row : QueueRow) (h : HeldQueue) (p : FramePlace) (n : Mem) → IsSameWhereLent p.memory n → queue_step row h (over p n) ≡ queue_step row h p
queue_step_same (queue_rows.Advance a t) h p n k = took_step_same h p.memory n k
queue_step_same (queue_rows.Transact t) h p n k = sent_step_same t h p.memory n k
queue_step_same queue_rows.Miss h p n k = wrote_step_same (missed h) miss_outcome p n k
queue_step_same (queue_rows.WriteBack outcome) h p n k = wrote_step_same h outcome p n k
queue_step_same _ h p n k = refl

itd_step_same : (row : ItdRow) (h : HeldItd) (p : FramePlace) (n : Mem) → IsSameWhereLent p.memory n → itd_step row h (over p n) ≡ itd_step row h p
itd_step_same itd_rows.Skip h p n k = refl
itd_step_same (itd_rows.Transact t) h p n k =
    ap (λ (b : Bool). if b then steps.Transact else steps.Fault) (read_same p.memory n (itd_pages h.itd) (slot_place h.slot + h.moved) t.bytes k).all
itd_step_same (itd_rows.WriteBack ended) h p n k = ap (λ (b : Bool). if b then steps.WriteBack else steps.Fault) (itd_back_same h p.walk.got p.memory n k).all

sitd_wrote_step_same : (h : HeldSitd) (outcome : SplitOutcome) (p : FramePlace) (n : Mem) → IsSameWhereLent p.memory n → sitd_wrote_step h outcome (over p n) ≡ sitd_wrote_step h outcome p
sitd_wrote_step_same h outcome p n k =
    ap (λ (b : Bool). if b then steps.WriteBack else steps.Fault) (sitd_back_same h.at h.sitd outcome (sitd_received h.sitd.dir_in outcome p.walk.reply) p.memory n k).all

sitd_step_same : (row : SitdRow) (h : HeldSitd) (p : FramePlace) (n : Mem) → IsSameWhereLent p.memory n → sitd_step row h (over p n) ≡ sitd_step row h p
sitd_step_same sitd_rows.Skip h p n k = refl
sitd_step_same (sitd_rows.Transact t) h p n k =
    ap (λ (b : Bool). if b then steps.Transact else steps.Fault) (read_same p.memory n (sitd_pages h.sitd) (sitd_place h.sitd) t.bytes k).all
sitd_step_same sitd_rows.Miss h p n k = sitd_wrote_step_same (missed_copy h) Failed p n k
sitd_step_same (sitd_rows.WriteBack outcome) h p n k = sitd_wrote_step_same h outcome p n k

hand_step_same : (p : FramePlace) (n : Mem) (o : Option Hand) → IsSameWhereLent p.memory n → IsAligned p.walk.cursor → IfSome o IsHandAligned → step_at (over p n) o ≡ step_at p o
hand_step_same p n None k cursor is = ap chain_step (chain_row_same p.memory n p.walk.cursor k cursor)
hand_step_same p n (Some (hands.Queue h)) k cursor is =
    ap (λ (row : QueueRow). queue_step row h (reading (queue_read (over p n) h) (over p n))) (settled_row_same p.memory n p.walk.left p.walk.index h.copy.queue_head h.copy.settled k is.queue)
    ∙ queue_step_same (queue_row p h) h (reading (queue_read p h) p) (queue_read (over p n) h) (settled_read_same p.memory n p.walk.index h.copy.queue_head h.copy.settled k)
hand_step_same p n (Some (hands.Itd h)) k cursor is = itd_step_same (itd_row p.walk.left h) h p n k
hand_step_same p n (Some (hands.Sitd h)) k cursor is = sitd_step_same (sitd_row p h) h p n k

pub frame_step_same : (p : FramePlace) (n : Mem) → IsSameWhereLent p.memory n → IsFrameAligned p.walk → step_of (record p { memory = n }) ≡ step_of p
frame_step_same p n k is = hand_step_same p n p.walk.hand k is.cursor is.hand

-- ---- an event

hand_alike : (p : FramePlace) (n : Mem) (o : Option Hand) → IsSameWhereLent p.memory n → IsAligned p.walk.cursor → IfSome o IsHandAligned → EffectAlike (effect_at p o) (effect_at (over p n) o)
hand_alike p n None k cursor is = chain_alike p n k cursor
hand_alike p n (Some (hands.Queue h)) k cursor is = queue_event h p n k is.queue
hand_alike p n (Some (hands.Itd h)) k cursor is = itd_alike (itd_row p.walk.left h) h p n k
hand_alike p n (Some (hands.Sitd h)) k cursor is = sitd_alike (sitd_row p h) h p n k

pub record FrameAlike {W : Type 0} (transacts : W → Ask → List ℕ → Reply → W → Type 0) (e : Effect) (before : W) (new : FramePlace) (after : W) : Type 0 where
  pub other : FramePlace
  pub made : HasEffect transacts e before other after
  pub same : AreAlike new other

effect_alike : {W : Type 0} (transacts : W → Ask → List ℕ → Reply → W → Type 0) (e f : Effect) (before : W) (new : FramePlace) (after : W) → EffectAlike e f → HasEffect transacts e before new after → FrameAlike transacts f before new after
effect_alike transacts (Leaves p) (Leaves q) before new after same has = record { other = q; made = (refl, has.1); same = subst (λ (x : FramePlace). AreAlike x q) (sym has.0) same }
effect_alike transacts (Asks ask out left_by) (Asks ask_other out_other left_other) before new after same has = record {
  other = left_other has.reply;
  made = record {
    reply = has.reply;
    made = subst (λ (a : Ask). transacts before a out_other has.reply after) (sym same.0) (subst (λ (bs : List ℕ). transacts before ask bs has.reply after) (sym same.1) has.made);
    place = refl;
  };
  same = subst (λ (x : FramePlace). AreAlike x (left_other has.reply)) (sym has.place) (same.2 has.reply);
}
effect_alike transacts (Leaves p) (Asks ask out left_by) before new after same has = absurd same
effect_alike transacts (Asks ask out left_by) (Leaves p) before new after same has = absurd same

pub frame_alike : {W : Type 0} (transacts : W → Ask → List ℕ → Reply → W → Type 0) (p : FramePlace) (n : Mem) (before : W) (new : FramePlace) (after : W) → IsSameWhereLent p.memory n → IsFrameAligned p.walk → Leads transacts p before new after
    → FrameAlike transacts (effect_of (record p { memory = n })) before new after
frame_alike transacts p n before new after k is leads = effect_alike transacts (effect_of p) (effect_of (over p n)) before new after (hand_alike p n p.walk.hand k is.cursor is.hand) leads
