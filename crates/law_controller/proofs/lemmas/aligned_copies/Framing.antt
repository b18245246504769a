-- Each event of the walk of a frame's chain leaves its addresses multiples of 32.
use Rattle.std.proofs.Common.{◌≡◌, ℕ, ◌%◌, ◌<◌, Bool, true, false, List, Option, None, Some, ap, refl, sym, subst, ◌∙◌, arith}
use Rattle.std.specs.Prelude.{IfSome, nat_lt}
use Rattle.law_controller.proofs.Common.{split_heard_same}
use Rattle.law_common.proofs.Booleans.{either}
use Rattle.usb_base.specs.declared.packets.Ask.{Ask}
use Rattle.usb_base.specs.declared.packets.Reply.{Reply}
use Rattle.usb_base.specs.declared.packets.Split.{Split}
use Rattle.usb_base.specs.declared.packets.Split.TheVariants.{Plain}
use Rattle.word_mem.specs.Memory.{Mem}
use Rattle.link_words.specs.declared.fields.LinkBits.{LinkBits}
use Rattle.link_words.specs.declared.kinds.Link.{Link}
use Rattle.link_words.specs.declared.kinds.Link.TheVariants as links
use Rattle.link_words.specs.declared.kinds.QtdLink.{QtdLink}
use Rattle.link_words.specs.declared.kinds.QtdLink.TheVariants as qtd_links
use Rattle.link_words.specs.Links.{IsAligned, IsQtdAligned, qtd_link_of}
use Rattle.qh_qtd.specs.declared.qtd.Qtd.{Qtd}
use Rattle.qh_qtd.specs.declared.queue_head.Qh.{Qh}
use Rattle.itd_sitd.specs.declared.itd.Itd.{Itd}
use Rattle.itd_sitd.specs.declared.sitd.Sitd.{Sitd}
use Rattle.op_registers.specs.RegisterFile.{RegisterFile}
use Rattle.toggle_error.specs.declared.host.Outcome.{Outcome}
use Rattle.mem_queues.specs.Structures.{qtd_at_address, queue_head_at_address, reaches_queue_head}
use Rattle.mem_descriptors.specs.Descriptors.{itd_at_address, sitd_at_address}
use Rattle.hc_masks.specs.Masks.{has}
use Rattle.hc_copy.specs.declared.held.Held.{Held}
use Rattle.hc_copy.specs.declared.held.Transaction.{Transaction}
use Rattle.hc_copy.specs.Visits.{next_pointer, visit_at}
use Rattle.hc_copy.specs.Overlay.{moved}
use Rattle.hc_copy.specs.Buffer.{Writing, sending}
use Rattle.hc_copy.specs.WriteBack.{moved_by, raised}
use Rattle.hc_interrupt.specs.declared.turns.Turn.{Turn}
use Rattle.hc_interrupt.specs.declared.turns.Turn.TheVariants as turns
use Rattle.hc_interrupt.specs.Turns.{microframe_of, waits, is_missed, complete_turn, start_turn, turn_of, planned}
use Rattle.hc_interrupt.specs.Copies.{with_split, interrupt_copy, missed_queue, goes_on}
use Rattle.hc_iso.specs.declared.held.HeldItd.{HeldItd}
use Rattle.hc_iso.specs.declared.held.Heard.{Heard}
use Rattle.hc_iso.specs.declared.held.Heard.TheVariants as heards
use Rattle.hc_iso.specs.declared.held.HeldSitd.{HeldSitd}
use Rattle.hc_iso.specs.declared.held.IsoEnd.{IsoEnd}
use Rattle.hc_iso.specs.declared.held.SplitHeard.{SplitHeard}
use Rattle.hc_iso.specs.declared.held.SplitOutcome.{SplitOutcome}
use Rattle.hc_iso.specs.declared.held.SplitOutcome.TheVariants.{Failed}
use Rattle.hc_iso.specs.Itd.{fetched_itd, after_heard, after_in, after_out, heard_in, itd_after}
use Rattle.hc_iso.specs.Sitd.{missed_copy, missed_sitd, after_complete, after_start, after_part, heard_by, in_after, sitd_after}
use Rattle.hc_iso.specs.WriteBack.{iso_raised, itd_sending, itd_written, sitd_sending}
use Rattle.periodic_walk.specs.declared.chain.ChainRow.{ChainRow}
use Rattle.periodic_walk.specs.declared.chain.ChainRow.TheVariants as chain_rows
use Rattle.periodic_walk.specs.declared.queue.QueueRow.{QueueRow}
use Rattle.periodic_walk.specs.declared.queue.QueueRow.TheVariants as queue_rows
use Rattle.periodic_walk.specs.declared.itd.ItdRow.{ItdRow}
use Rattle.periodic_walk.specs.declared.itd.ItdRow.TheVariants as itd_rows
use Rattle.periodic_walk.specs.declared.sitd.SitdRow.{SitdRow}
use Rattle.periodic_walk.specs.declared.sitd.SitdRow.TheVariants as sitd_rows
use Rattle.periodic_walk.specs.declared.state.HeldQueue.{HeldQueue}
use Rattle.periodic_walk.specs.declared.state.Hand.{Hand}
use Rattle.periodic_walk.specs.declared.state.Hand.TheVariants as hands
use Rattle.periodic_walk.specs.Walk.{Walk}
use Rattle.periodic_walk.specs.Place.{FramePlace, reading, passing, Effect, HasEffect, sent}
use Rattle.periodic_walk.specs.Place.Effect.{Leaves, Asks}
use Rattle.periodic_walk.specs.Chain.{chain_row, chain_read, chain_after, queue_fetch, itd_fetch, sitd_fetch}
use Rattle.periodic_walk.specs.Queue.{timed_row, taken_row, take_row, turn_row, settled_row, queue_row, queue_read, queue_effect, took, missed, miss_outcome, wrote, wrote_at, writing, visit_after}
use Rattle.periodic_walk.specs.Itd.{itd_row, itd_effect, wrote_at as itd_wrote_at}
use Rattle.periodic_walk.specs.Sitd.{sitd_row, sitd_effect, wrote_at as sitd_wrote_at, wrote as sitd_wrote, writing as sitd_writing}
use Rattle.periodic_walk.specs.Rows.{effect_at, effect_of, Leads}
use Rattle.law_controller.specs.aligned_copies.Aligned.{IsQueueAligned, IsElementAligned, IsCopyAligned, IsItdAligned, IsHandAligned, IsFrameAligned}
use Rattle.law_controller.proofs.lemmas.aligned_copies.Reading.{link_aligned, pointer_aligned, heads_aligned, elements_aligned, itds_aligned, sitds_aligned}
use Rattle.law_controller.proofs.lemmas.aligned_copies.Ringing.{advanced_aligned, settled_aligned}

-- the walk's addresses are so, and the ring begins where it began
pub record Keeps (start : ℕ) (new : FramePlace) : Type 0 where
  pub walk : IsFrameAligned new.walk
  pub begins : new.registers.async_list_address ≡ start

abbrev EffectKeeps : ℕ → Effect → Type 0
EffectKeeps start (Leaves p) = Keeps start p
EffectKeeps start (Asks ask out left_by) = (reply : Reply) → Keeps start (left_by reply)

abbrev FromKeeps : FramePlace → FramePlace → Type 0
FromKeeps p new = Keeps p.registers.async_list_address new

abbrev FromEffect : FramePlace → Effect → Type 0
FromEffect p e = EffectKeeps p.registers.async_list_address e

sent_keeps : (start : ℕ) (b : Bool) (ask : Ask) (out : List ℕ) (left_by : Reply → FramePlace) (p : FramePlace) → ((reply : Reply) → Keeps start (left_by reply))
    → IsFrameAligned p.walk → p.registers.async_list_address ≡ start → EffectKeeps start (sent b ask out left_by p)
sent_keeps start true ask out left_by p asked is same = asked
sent_keeps start false ask out left_by p asked is same = record { walk = record { cursor = is.cursor; hand = tt }; begins = same }

passed_keeps : (l : LinkBits) (p : FramePlace) → l.address % 32 ≡ 0 → FromKeeps p (passing l p)
passed_keeps l p is = record { walk = record { cursor = link_aligned l is; hand = tt }; begins = refl }

-- ---- the chain is read

abbrev ChainAligned : ChainRow → Type 0
ChainAligned chain_rows.Fault = Unit {0}
ChainAligned chain_rows.Ends = Unit {0}
ChainAligned (chain_rows.Queue a q) = (a % 32 ≡ 0) × IsQueueAligned q
ChainAligned (chain_rows.Itd a v) = (a % 32 ≡ 0) × (v.link.address % 32 ≡ 0)
ChainAligned (chain_rows.Sitd a v) = (a % 32 ≡ 0) × (v.link.address % 32 ≡ 0)

queue_fetched : (a : ℕ) (o : Option Qh) → a % 32 ≡ 0 → IfSome o IsQueueAligned → ChainAligned (queue_fetch a o)
queue_fetched a None at is = tt
queue_fetched a (Some q) at is = (at, is)

itd_fetched : (a : ℕ) (o : Option Itd) → a % 32 ≡ 0 → IfSome o (λ v. v.link.address % 32 ≡ 0) → ChainAligned (itd_fetch a o)
itd_fetched a None at is = tt
itd_fetched a (Some v) at is = (at, is)

sitd_fetched : (a : ℕ) (o : Option Sitd) → a % 32 ≡ 0 → IfSome o (λ v. v.link.address % 32 ≡ 0) → ChainAligned (sitd_fetch a o)
sitd_fetched a None at is = tt
sitd_fetched a (Some v) at is = (at, is)

chain_aligned : (m : Mem) (l : Link) → IsAligned l → ChainAligned (chain_row m l)
chain_aligned m (links.Itd a) is = itd_fetched a (itd_at_address m a) is (itds_aligned m a)
chain_aligned m (links.Qh a) is = queue_fetched a (queue_head_at_address m a) is (heads_aligned m a)
chain_aligned m (links.Sitd a) is = sitd_fetched a (sitd_at_address m a) is (sitds_aligned m a)
chain_aligned m _ is = tt

itd_copy_aligned : (a f : ℕ) (v : Itd) → a % 32 ≡ 0 → v.link.address % 32 ≡ 0 → IsItdAligned (fetched_itd a (microframe_of f) v)
unfolding fetched_itd
itd_copy_aligned a f v at link = record { at = at; link = link; number = omega arith }

chain_keeps : (row : ChainRow) (p : FramePlace) → ChainAligned row → IsFrameAligned p.walk → FromKeeps p (chain_after row p)
chain_keeps (chain_rows.Queue a q) p row is = record { walk = record { cursor = row.0; hand = record { at = row.0; queue = row.1 } }; begins = refl }
chain_keeps (chain_rows.Itd a v) p row is = record { walk = record { cursor = row.0; hand = itd_copy_aligned a p.walk.index v row.0 row.1 }; begins = refl }
chain_keeps (chain_rows.Sitd a v) p row is = record { walk = record { cursor = row.0; hand = (row.0, row.1) }; begins = refl }
chain_keeps _ p row is = record { walk = record { cursor = is.cursor; hand = tt }; begins = refl }

-- ---- a queue head

abbrev QueueRowAligned : QueueRow → Type 0
QueueRowAligned queue_rows.Fault = Unit {0}
QueueRowAligned queue_rows.Skip = Unit {0}
QueueRowAligned (queue_rows.Advance a t) = (a % 32 ≡ 0) × IsElementAligned t
QueueRowAligned (queue_rows.Transact t) = Unit {0}
QueueRowAligned queue_rows.Miss = Unit {0}
QueueRowAligned (queue_rows.WriteBack outcome) = Unit {0}

taken_aligned : (a : ℕ) (o : Option Qtd) → a % 32 ≡ 0 → IfSome o IsElementAligned → QueueRowAligned (taken_row a o)
taken_aligned a None at is = tt
taken_aligned a (Some t) at is = either QueueRowAligned t.token.active (queue_rows.Advance a t) queue_rows.Skip (at, is) tt

take_aligned : (m : Mem) (l : QtdLink) → IsQtdAligned l → QueueRowAligned (take_row m l)
take_aligned m qtd_links.End is = tt
take_aligned m (qtd_links.To a) is = taken_aligned a (qtd_at_address m a) is (elements_aligned m a)

abbrev TurnAligned : Turn → Type 0
TurnAligned turns.Rest = Unit {0}
TurnAligned turns.Work = Unit {0}
TurnAligned turns.Miss = Unit {0}
TurnAligned (turns.Take l) = IsQtdAligned l

complete_aligned : (missed works : Bool) → TurnAligned (complete_turn missed works)
complete_aligned true works = tt
complete_aligned false true = tt
complete_aligned false false = tt

start_aligned : (may halted active : Bool) (l : QtdLink) → IsQtdAligned l → TurnAligned (start_turn (visit_at may halted active l))
start_aligned false halted active l is = tt
start_aligned true true active l is = tt
start_aligned true false true l is = tt
start_aligned true false false l is = is

turn_aligned : (f : ℕ) (q : Qh) → IsQueueAligned q → TurnAligned (turn_of f q)
turn_aligned f q is =
    either TurnAligned (waits q) (complete_turn (is_missed f q) (has q.cmask (microframe_of f))) _
    (complete_aligned (is_missed f q) (has q.cmask (microframe_of f)))
    (start_aligned (has q.smask (microframe_of f)) q.token.halted q.token.active (qtd_link_of (next_pointer q)) (pointer_aligned q is))

timed_aligned : (left : ℕ) (t : Transaction) → QueueRowAligned (timed_row left t)
timed_aligned left t = either QueueRowAligned (nat_lt left t.price.0) queue_rows.Skip (queue_rows.Transact t) tt tt

turn_row_aligned : (m : Mem) (left : ℕ) (q : Qh) (turn : Turn) → TurnAligned turn → QueueRowAligned (turn_row m left q turn)
turn_row_aligned m left q turns.Work is = timed_aligned left (planned q)
turn_row_aligned m left q (turns.Take l) is = take_aligned m l is
turn_row_aligned m left q _ is = tt

settled_row_aligned : (m : Mem) (left f : ℕ) (q : Qh) (o : Option Outcome) → IsQueueAligned q → QueueRowAligned (settled_row m left f q o)
settled_row_aligned m left f q None is = turn_row_aligned m left q (turn_of f q) (turn_aligned f q is)
settled_row_aligned m left f q (Some outcome) is = tt

split_aligned : (f : ℕ) (s : Split) (q : Qh) → IsQueueAligned q → IsQueueAligned (with_split f s q)
unfolding with_split
split_aligned f Plain q is = is
split_aligned f _ q is = record { link = is.link; current = is.current; next = is.next; alternate = is.alternate }

missed_aligned : (q : Qh) → IsQueueAligned q → IsQueueAligned (missed_queue q)
unfolding missed_queue
missed_aligned q is = record { link = is.link; current = is.current; next = is.next; alternate = is.alternate }

moved_aligned : (q : Qh) (n : ℕ) → IsQueueAligned q → IsQueueAligned (moved q n)
unfolding moved
moved_aligned q n is = record { link = is.link; current = is.current; next = is.next; alternate = is.alternate }

interrupt_aligned : (f : ℕ) (t : Transaction) (out : List ℕ) (reply : Reply) (h : Held) → IsCopyAligned h → IsCopyAligned (interrupt_copy f t out reply h)
interrupt_aligned f t out reply h is = record { at = is.at; queue = split_aligned f t.split _ (settled_aligned _ h.queue_head is.queue) }

raised_start : (q : Qh) (outcome : Outcome) (r : RegisterFile) → (raised q outcome r).async_list_address ≡ r.async_list_address
unfolding raised
raised_start q outcome r = refl

took_keeps : (h : HeldQueue) (a : ℕ) (t : Qtd) (p : FramePlace) → IsFrameAligned p.walk → IsCopyAligned h.copy → (a % 32 ≡ 0) × IsElementAligned t → FromKeeps p (took h a t p)
took_keeps h a t p is held row =
    either (FromKeeps p) (reaches_queue_head p.memory h.copy.at) _ _
    (record { walk = record { cursor = is.cursor; hand = record { at = held.at; queue = advanced_aligned h.copy.queue_head a t held.queue row.0 row.1 } }; begins = refl })
    (record { walk = record { cursor = is.cursor; hand = tt }; begins = refl })

visit_aligned : (h : HeldQueue) (outcome : Outcome) (w : Walk) → IsFrameAligned w → IsCopyAligned h.copy → IsFrameAligned (visit_after h outcome w)
visit_aligned h outcome w is held =
    either IsFrameAligned (goes_on h.made h.copy.queue_head outcome) _ _
    (record { cursor = is.cursor; hand = record { at = held.at; queue = moved_aligned h.copy.queue_head (moved_by outcome) held.queue } })
    (record { cursor = link_aligned h.copy.queue_head.link held.queue.link; hand = tt })

wrote_by : (b : Bool) (h : HeldQueue) (outcome : Outcome) (p : FramePlace) (m : Mem) → IsFrameAligned p.walk → IsCopyAligned h.copy → FromKeeps p (wrote_at b h outcome (record p { memory = m }))
wrote_by true h outcome p m is held = record { walk = visit_aligned h outcome p.walk is held; begins = raised_start h.copy.queue_head outcome p.registers }
wrote_by false h outcome p m is held = record { walk = record { cursor = is.cursor; hand = tt }; begins = refl }

wrote_keeps : (h : HeldQueue) (outcome : Outcome) (p : FramePlace) → IsFrameAligned p.walk → IsCopyAligned h.copy → FromKeeps p (wrote h outcome p)
wrote_keeps h outcome p is held =
    let w : Writing = writing h.copy outcome p.walk.reply p.memory in
    wrote_by w.all h outcome p w.memory is held

queue_keeps : (row : QueueRow) (h : HeldQueue) (p : FramePlace) → QueueRowAligned row → IsFrameAligned p.walk → IsCopyAligned h.copy → FromEffect p (queue_effect row h p)
queue_keeps queue_rows.Fault h p row is held = record { walk = record { cursor = is.cursor; hand = tt }; begins = refl }
queue_keeps queue_rows.Skip h p row is held = passed_keeps h.copy.queue_head.link p held.queue.link
queue_keeps (queue_rows.Advance a t) h p row is held = took_keeps h a t p is held row
queue_keeps (queue_rows.Transact t) h p row is held =
    sent_keeps p.registers.async_list_address (sending t h.copy.queue_head p.memory).all _ _ _ _
    (λ reply. record { walk = record { cursor = is.cursor; hand = interrupt_aligned p.walk.index t (sending t h.copy.queue_head p.memory).bytes reply h.copy held }; begins = refl }) is refl
queue_keeps queue_rows.Miss h p row is held = wrote_keeps (missed h) miss_outcome p is (record { at = held.at; queue = missed_aligned h.copy.queue_head held.queue })
queue_keeps (queue_rows.WriteBack outcome) h p row is held = wrote_keeps h outcome p is held

-- ---- an iTD

iso_start : (ended failed : Bool) (r : RegisterFile) → (iso_raised ended failed r).async_list_address ≡ r.async_list_address
unfolding iso_raised
iso_start ended failed r = refl

-- where it was read, what it is and its microframe stay
record IsSameItd (x h : HeldItd) : Type 0 where
  at : x.at ≡ h.at
  itd : x.itd ≡ h.itd
  number : x.number ≡ h.number

heard_same : (h : HeldItd) (heard : Heard) → IsSameItd (after_heard h heard) h
heard_same h (heards.Packet k n) = record { at = refl; itd = refl; number = refl }
heard_same h _ = record { at = refl; itd = refl; number = refl }

in_same : (h : HeldItd) (reply : Reply) → IsSameItd (after_in h reply) h
unfolding after_in
in_same h reply = heard_same h (heard_in h reply)

out_same : (h : HeldItd) → IsSameItd (after_out h) h
unfolding after_out
out_same h = record { at = refl; itd = refl; number = refl }

itd_same : (h : HeldItd) (reply : Reply) → IsSameItd (itd_after reply h) h
itd_same h reply = either (λ (x : HeldItd). IsSameItd x h) h.itd.dir_in (after_in h reply) (after_out h) (in_same h reply) (out_same h)

itd_aligned : (h : HeldItd) (reply : Reply) → IsItdAligned h → IsItdAligned (itd_after reply h)
itd_aligned h reply is =
    let same = itd_same h reply in
    record {
      at = ap (λ (n : ℕ). n % 32) same.at ∙ is.at;
      link = ap (λ (v : Itd). v.link.address % 32) same.itd ∙ is.link;
      number = subst (λ (n : ℕ). n < 8) (sym same.number) is.number;
    }

itd_wrote : (b : Bool) (h : HeldItd) (ended : IsoEnd) (p : FramePlace) (m : Mem) → IsFrameAligned p.walk → IsItdAligned h → FromKeeps p (itd_wrote_at b h ended (record p { memory = m }))
itd_wrote true h ended p m is held = record { walk = record { cursor = link_aligned h.itd.link held.link; hand = tt }; begins = iso_start _ _ p.registers }
itd_wrote false h ended p m is held = record { walk = record { cursor = is.cursor; hand = tt }; begins = refl }

itd_keeps : (row : ItdRow) (h : HeldItd) (p : FramePlace) → IsFrameAligned p.walk → IsItdAligned h → FromEffect p (itd_effect row h p)
itd_keeps itd_rows.Skip h p is held = passed_keeps h.itd.link p held.link
itd_keeps (itd_rows.Transact t) h p is held =
    sent_keeps p.registers.async_list_address (itd_sending t h p.memory).all _ _ _ _ (λ reply. record { walk = record { cursor = is.cursor; hand = itd_aligned h reply held }; begins = refl }) is refl
itd_keeps (itd_rows.WriteBack ended) h p is held =
    let w : Writing = itd_written h p.walk.got p.memory in
    itd_wrote w.all h ended p w.memory is held

-- ---- a siTD

complete_same : (u : ℕ) (heard : SplitHeard) (v : Sitd) → (after_complete u heard v).link ≡ v.link
unfolding after_complete
complete_same u heard v = split_heard_same heard v

start_same : (v : Sitd) → (after_start v).link ≡ v.link
unfolding after_start
start_same v = refl

part_same : (u : ℕ) (v : Sitd) → (after_part u v).link ≡ v.link
unfolding after_part
part_same u v = refl

in_after_same : (u : ℕ) (reply : Reply) (v : Sitd) → (in_after u reply v).link ≡ v.link
in_after_same u reply v = either (λ (x : Sitd). x.link ≡ v.link) v.split_state _ _ (complete_same u (heard_by u v reply) v) (start_same v)

sitd_same : (u : ℕ) (reply : Reply) (v : Sitd) → (sitd_after u reply v).link ≡ v.link
sitd_same u reply v = either (λ (x : Sitd). x.link ≡ v.link) v.dir_in _ _ (in_after_same u reply v) (part_same u v)

missed_same : (v : Sitd) → (missed_sitd v).link ≡ v.link
unfolding missed_sitd
missed_same v = refl

abbrev IsSitdAligned : HeldSitd → Type 0
IsSitdAligned h = (h.at % 32 ≡ 0) × (h.sitd.link.address % 32 ≡ 0)

sitd_wrote_by : (b : Bool) (h : HeldSitd) (outcome : SplitOutcome) (p : FramePlace) (m : Mem) → IsFrameAligned p.walk → IsSitdAligned h → FromKeeps p (sitd_wrote_at b h outcome (record p { memory = m }))
sitd_wrote_by true h outcome p m is held = record { walk = record { cursor = link_aligned h.sitd.link held.1; hand = tt }; begins = iso_start _ _ p.registers }
sitd_wrote_by false h outcome p m is held = record { walk = record { cursor = is.cursor; hand = tt }; begins = refl }

sitd_wrote_keeps : (h : HeldSitd) (outcome : SplitOutcome) (p : FramePlace) → IsFrameAligned p.walk → IsSitdAligned h → FromKeeps p (sitd_wrote h outcome p)
sitd_wrote_keeps h outcome p is held =
    let w : Writing = sitd_writing h outcome p.walk.reply p.memory in
    sitd_wrote_by w.all h outcome p w.memory is held

sitd_keeps : (row : SitdRow) (h : HeldSitd) (p : FramePlace) → IsFrameAligned p.walk → IsSitdAligned h → FromEffect p (sitd_effect row h p)
sitd_keeps sitd_rows.Skip h p is held = passed_keeps h.sitd.link p held.1
sitd_keeps (sitd_rows.Transact t) h p is held =
    sent_keeps p.registers.async_list_address (sitd_sending t h.sitd p.memory).all _ _ _ _
    (λ reply. record { walk = record { cursor = is.cursor; hand = (held.0, ap (λ (l : LinkBits). l.address % 32) (sitd_same (microframe_of p.walk.index) reply h.sitd) ∙ held.1) }; begins = refl }) is refl
sitd_keeps sitd_rows.Miss h p is held = sitd_wrote_keeps (missed_copy h) Failed p is (held.0, ap (λ (l : LinkBits). l.address % 32) (missed_same h.sitd) ∙ held.1)
sitd_keeps (sitd_rows.WriteBack outcome) h p is held = sitd_wrote_keeps h outcome p is held

-- ---- an event

hand_keeps : (p : FramePlace) (o : Option Hand) → IsFrameAligned p.walk → IfSome o IsHandAligned → FromEffect p (effect_at p o)
hand_keeps p None is held = chain_keeps (chain_row p.memory p.walk.cursor) (reading (chain_read p.memory p.walk.cursor) p) (chain_aligned p.memory p.walk.cursor is.cursor) is
hand_keeps p (Some (hands.Queue h)) is held =
    queue_keeps (queue_row p h) h (reading (queue_read p h) p) (settled_row_aligned p.memory p.walk.left p.walk.index h.copy.queue_head h.copy.settled held.queue) is held
hand_keeps p (Some (hands.Itd h)) is held = itd_keeps (itd_row p.walk.left h) h p is held
hand_keeps p (Some (hands.Sitd h)) is held = sitd_keeps (sitd_row p h) h p is held

effect_keeps : {W : Type 0} (transacts : W → Ask → List ℕ → Reply → W → Type 0) (start : ℕ) (e : Effect) (before : W) (new : FramePlace) (after : W) → EffectKeeps start e → HasEffect transacts e before new after → Keeps start new
effect_keeps transacts start (Leaves p) before new after keeps has = subst (Keeps start) (sym has.0) keeps
effect_keeps transacts start (Asks ask out left_by) before new after keeps has = subst (Keeps start) (sym has.place) (keeps has.reply)

pub frame_keeps : {W : Type 0} (transacts : W → Ask → List ℕ → Reply → W → Type 0) (p : FramePlace) (before : W) (new : FramePlace) (after : W) → IsFrameAligned p.walk → Leads transacts p before new after
    → Keeps p.registers.async_list_address new
frame_keeps transacts p before new after is leads = effect_keeps transacts p.registers.async_list_address (effect_of p) before new after (hand_keeps p p.walk.hand is is.hand) leads
