-- Where the controller was refused a word, it doesn't run any more.
use Rattle.std.proofs.Common.{◌≡◌, ◌≢◌, ℕ, ◌+◌, Bool, true, false, List, length, Option, Some, None, if◌then◌else◌, refl, ap, sym, subst, ◌∙◌}
use Rattle.std.specs.Prelude.{nat_le, nat_lt}
use Rattle.std.specs.Result.{result_ok}
use Rattle.usb_base.specs.declared.packets.Ask.{Ask}
use Rattle.usb_base.specs.declared.packets.Reply.{Reply}
use Rattle.word_mem.specs.Memory.{Mem, reaches, refused, with_word}
use Rattle.word_mem.specs.Views.{words_at, with_words}
use Rattle.mem_bytes.specs.Bytes.{all_reached}
use Rattle.link_words.specs.declared.kinds.Link.{Link}
use Rattle.link_words.specs.declared.kinds.Link.TheVariants as links
use Rattle.link_words.specs.declared.kinds.QtdLink.TheVariants as qtd_links
use Rattle.qh_qtd.specs.declared.qtd.Qtd.{Qtd}
use Rattle.qh_qtd.specs.declared.queue_head.Qh.{Qh}
use Rattle.qh_qtd.specs.Qtd.{qtd_read}
use Rattle.itd_sitd.specs.declared.itd.Itd.{Itd}
use Rattle.itd_sitd.specs.declared.sitd.Sitd.{Sitd}
use Rattle.itd_sitd.specs.Slot.{slot_word}
use Rattle.toggle_error.specs.declared.host.Outcome.{Outcome}
use Rattle.mem_queues.specs.Structures.{reaches_queue_head}
use Rattle.mem_descriptors.specs.Descriptors.{reaches_itd, slot_address, state_words}
use Rattle.hc_copy.specs.declared.held.Transaction.{Transaction}
use Rattle.hc_copy.specs.Overlay.{advanced}
use Rattle.hc_copy.specs.Buffer.{Writing, size_of, placed, bytes_read, bytes_written, sending}
use Rattle.hc_copy.specs.WriteBack.{received}
use Rattle.hc_interrupt.specs.declared.turns.Turn.{Turn}
use Rattle.hc_interrupt.specs.declared.turns.Turn.TheVariants as turns
use Rattle.hc_interrupt.specs.Turns.{microframe_of, turn_of, planned}
use Rattle.hc_iso.specs.declared.held.HeldItd.{HeldItd}
use Rattle.hc_iso.specs.declared.held.HeldSitd.{HeldSitd}
use Rattle.hc_iso.specs.declared.held.IsoEnd.{IsoEnd}
use Rattle.hc_iso.specs.declared.held.IsoTransaction.{IsoTransaction}
use Rattle.hc_iso.specs.declared.held.SitdTurn.{SitdTurn}
use Rattle.hc_iso.specs.declared.held.SitdTurn.TheVariants as sitd_turns
use Rattle.hc_iso.specs.declared.held.SplitOutcome.{SplitOutcome}
use Rattle.hc_iso.specs.declared.held.SplitOutcome.TheVariants.{Failed}
use Rattle.hc_iso.specs.Itd.{itd_transaction}
use Rattle.hc_iso.specs.Sitd.{sitd_turn, sitd_transaction, sitd_place, missed_copy, moved_sitd}
use Rattle.hc_iso.specs.WriteBack.{moved_by, itd_pages, slot_place, itd_sending, done_slot, slot_back, itd_written, sitd_pages, sitd_sending, sitd_received, state_back, sitd_written}
use Rattle.async_walk.specs.Causes.{AreRefusalsFaults}
use Rattle.async_walk.proofs.Refusals.{both_true, first_of, overlay_counts, stored_counts, then_counts, written_counts, reading_counts, sending_counts}
use Rattle.periodic_walk.specs.declared.chain.ChainRow.{ChainRow}
use Rattle.periodic_walk.specs.declared.chain.ChainRow.TheVariants as chain_rows
use Rattle.periodic_walk.specs.declared.queue.QueueRow.TheVariants as queue_rows
use Rattle.periodic_walk.specs.declared.itd.ItdRow.TheVariants as itd_rows
use Rattle.periodic_walk.specs.declared.sitd.SitdRow.TheVariants as sitd_rows
use Rattle.periodic_walk.specs.declared.state.Hand.{Hand}
use Rattle.periodic_walk.specs.declared.state.Hand.TheVariants as hands
use Rattle.periodic_walk.specs.declared.state.HeldQueue.{HeldQueue}
use Rattle.periodic_walk.specs.Place.{FramePlace, reading, faulted, passing, sent, HasEffect}
use Rattle.periodic_walk.specs.Chain.{queue_fetch, itd_fetch, sitd_fetch, chain_row, chain_read, chain_after}
use Rattle.periodic_walk.specs.Queue.{taken_row, turn_row, turn_read, settled_row, settled_read, took, writing, missed, miss_outcome, queue_effect, wrote_at as queue_wrote_at}
use Rattle.periodic_walk.specs.Itd.{ended_row, wrote_at as itd_wrote_at, itd_effect}
use Rattle.periodic_walk.specs.Sitd.{turn_row as sitd_turn_row, settled_row as sitd_settled_row, writing as sitd_writing, wrote_at as sitd_wrote_at, sitd_effect}
use Rattle.periodic_walk.specs.Rows.{effect_at, Leads}

-- ---- reads and writes that were all made count no refusal

read_counts : (pages : List ℕ) (from n : ℕ) (m : Mem) → (bytes_read pages from n m).all ≡ true → (bytes_read pages from n m).memory.foreign ≡ m.foreign
read_counts pages from n m all = reading_counts (nat_le (from + n) (size_of pages)) (all_reached m pages from n) m all

bytes_count : (pages : List ℕ) (from : ℕ) (got : List ℕ) (m : Mem) → (bytes_written pages from got m).all ≡ true → (bytes_written pages from got m).memory.foreign ≡ m.foreign
bytes_count pages from got m all =
    stored_counts m pages from (placed pages from got)
    (both_true (all_reached m pages from (length (placed pages from got))) (nat_le (from + length got) (size_of pages)) all).0

slot_counts : (h : HeldItd) (m : Mem) → (slot_back h m).all ≡ true → (slot_back h m).memory.foreign ≡ m.foreign
slot_counts h m all =
    ap (λ (x : Mem). x.foreign) (first_of (reaches m (slot_address h.at h.number)) (with_word m (slot_address h.at h.number) (slot_word (done_slot h))) (refused m) all)

itd_counts : (h : HeldItd) (got : List ℕ) (m : Mem) → (itd_written h got m).all ≡ true → (itd_written h got m).memory.foreign ≡ m.foreign
unfolding itd_written
itd_counts h got m all =
    let bytes : Writing = bytes_written (itd_pages h.itd) (slot_place h.slot) got m in
    then_counts bytes.memory bytes.all (slot_back h) m.foreign
    (λ made. bytes_count (itd_pages h.itd) (slot_place h.slot) got m made) (λ w reach. slot_counts h w reach) all

state_counts : (a : ℕ) (v : Sitd) (m : Mem) → (state_back a v m).all ≡ true → (state_back a v m).memory.foreign ≡ m.foreign
state_counts a v m all = ap (λ (x : Mem). x.foreign) (first_of (reaches m a) (with_words m (a + 12) (state_words v)) (refused m) all)

sitd_counts : (a : ℕ) (v : Sitd) (outcome : SplitOutcome) (got : List ℕ) (m : Mem) → (sitd_written a v outcome got m).all ≡ true → (sitd_written a v outcome got m).memory.foreign ≡ m.foreign
unfolding sitd_written
sitd_counts a v outcome got m all =
    let bytes : Writing = bytes_written (sitd_pages v) (sitd_place v) got m in
    then_counts bytes.memory bytes.all (state_back a (moved_sitd (moved_by outcome) v)) m.foreign
    (λ made. bytes_count (sitd_pages v) (sitd_place v) got m made) (λ w reach. state_counts a (moved_sitd (moved_by outcome) v) w reach) all

-- ---- a place

-- the registers don't run, or no refusal was counted
abbrev Halts : FramePlace → ℕ → Type 0
Halts new foreign = new.memory.foreign ≢ foreign → new.registers.run ≡ false

same_halts : (new : FramePlace) (foreign : ℕ) → new.memory.foreign ≡ foreign → Halts new foreign
same_halts new foreign same = λ other. absurd (other same)

off_halts : (new : FramePlace) (foreign : ℕ) → new.registers.run ≡ false → Halts new foreign
off_halts new foreign off = λ other. off

stays_halts : {W : Type 0} (expected new : FramePlace) (before after : W) (foreign : ℕ) → (new ≡ expected) × (after ≡ before) → Halts expected foreign → Halts new foreign
stays_halts expected new before after foreign stays halts = subst (λ (p : FramePlace). Halts p foreign) (sym stays.0) halts

-- by whether all of it was done: else it is the fault
took_halts : (b : Bool) (done stuck : FramePlace) (foreign : ℕ) → (b ≡ true → done.memory.foreign ≡ foreign) → stuck.registers.run ≡ false → Halts (if b then done else stuck) foreign
took_halts true done stuck foreign same off = same_halts done foreign (same refl)
took_halts false done stuck foreign same off = λ other. off

queue_wrote_halts : (b : Bool) (h : HeldQueue) (outcome : Outcome) (p : FramePlace) (foreign : ℕ) → (b ≡ true → p.memory.foreign ≡ foreign) → Halts (queue_wrote_at b h outcome p) foreign
queue_wrote_halts true h outcome p foreign same = same_halts (queue_wrote_at true h outcome p) foreign (same refl)
queue_wrote_halts false h outcome p foreign same = λ other. refl

itd_wrote_halts : (b : Bool) (h : HeldItd) (ended : IsoEnd) (p : FramePlace) (foreign : ℕ) → (b ≡ true → p.memory.foreign ≡ foreign) → Halts (itd_wrote_at b h ended p) foreign
itd_wrote_halts true h ended p foreign same = same_halts (itd_wrote_at true h ended p) foreign (same refl)
itd_wrote_halts false h ended p foreign same = λ other. refl

sitd_wrote_halts : (b : Bool) (h : HeldSitd) (outcome : SplitOutcome) (p : FramePlace) (foreign : ℕ) → (b ≡ true → p.memory.foreign ≡ foreign) → Halts (sitd_wrote_at b h outcome p) foreign
sitd_wrote_halts true h outcome p foreign same = same_halts (sitd_wrote_at true h outcome p) foreign (same refl)
sitd_wrote_halts false h outcome p foreign same = λ other. refl

-- what was read of a chain: else it is the fault
fetch_halts : {A : Type 0} (b : Bool) (o : Option A) (row : Option A → ChainRow) (p : FramePlace) → (chain_after (row None) (reading (refused p.memory) p)).registers.run ≡ false → Halts (chain_after (row (if b then o else None)) (reading (if b then p.memory else refused p.memory) p)) p.memory.foreign
fetch_halts true o row p off = same_halts (chain_after (row o) (reading p.memory p)) p.memory.foreign refl
fetch_halts false o row p off = λ other. off

chain_halts : (p : FramePlace) (link : Link) → Halts (chain_after (chain_row p.memory link) (reading (chain_read p.memory link) p)) p.memory.foreign
chain_halts p links.End = same_halts (chain_after chain_rows.Ends (reading p.memory p)) p.memory.foreign refl
chain_halts p (links.Itd a) = fetch_halts (reaches_itd p.memory a) _ (itd_fetch a) p refl
chain_halts p (links.Qh a) = fetch_halts (reaches_queue_head p.memory a) _ (queue_fetch a) p refl
chain_halts p (links.Sitd a) = fetch_halts (reaches p.memory a) _ (sitd_fetch a) p refl
chain_halts p (links.Fstn a) = λ other. refl

-- ---- an event

module _ {W : Type 0} (transacts : W → Ask → List ℕ → Reply → W → Type 0) (p new : FramePlace) (before after : W) where
  sent_halts : (b : Bool) (ask : Ask) (out : List ℕ) (left_by : Reply → FramePlace) (there : FramePlace) → (b ≡ true → (r : Reply) → (left_by r).memory.foreign ≡ p.memory.foreign) → HasEffect transacts (sent b ask out left_by there) before new after → Halts new p.memory.foreign
  sent_halts true ask out left_by there same asked = same_halts new p.memory.foreign (ap (λ (x : FramePlace). x.memory.foreign) asked.place ∙ same refl asked.reply)
  sent_halts false ask out left_by there same stays = stays_halts (faulted there) new before after p.memory.foreign stays (λ other. refl)

  skip_halts : (link : FramePlace) → link.memory.foreign ≡ p.memory.foreign → (new ≡ link) × (after ≡ before) → Halts new p.memory.foreign
  skip_halts link same stays = stays_halts link new before after p.memory.foreign stays (same_halts link p.memory.foreign same)

  -- a queue head
  queue_timed : (h : HeldQueue) (late : Bool) → HasEffect transacts (queue_effect (if late then queue_rows.Skip else queue_rows.Transact (planned h.copy.queue_head)) h p) before new after → Halts new p.memory.foreign
  queue_timed h true leads = skip_halts (passing h.copy.queue_head.link p) refl leads
  queue_timed h false leads =
      let t : Transaction = planned h.copy.queue_head in
      sent_halts (sending t h.copy.queue_head p.memory).all _ _ _ (record p { memory = (sending t h.copy.queue_head p.memory).memory })
      (λ all r. sending_counts t h.copy.queue_head p.memory all) leads

  queue_active : (h : HeldQueue) (a : ℕ) (t : Qtd) (active : Bool) → HasEffect transacts (queue_effect (if active then queue_rows.Advance a t else queue_rows.Skip) h (reading p.memory p)) before new after → Halts new p.memory.foreign
  queue_active h a t true leads =
      stays_halts (took h a t p) new before after p.memory.foreign leads
      (took_halts (reaches_queue_head p.memory h.copy.at) _ _ p.memory.foreign
      (λ reach. overlay_counts p.memory h.copy.at (advanced h.copy.queue_head a t) reach) refl)
  queue_active h a t false leads = skip_halts (passing h.copy.queue_head.link p) refl leads

  queue_found : (h : HeldQueue) (a : ℕ) (o : Option Qtd) → HasEffect transacts (queue_effect (taken_row a o) h (reading p.memory p)) before new after → Halts new p.memory.foreign
  queue_found h a None leads = stays_halts (faulted (reading p.memory p)) new before after p.memory.foreign leads (λ other. refl)
  queue_found h a (Some t) leads = queue_active h a t t.token.active leads

  queue_read : (h : HeldQueue) (a : ℕ) (b : Bool) (o : Option Qtd) → HasEffect transacts (queue_effect (taken_row a (if b then o else None)) h (reading (if b then p.memory else refused p.memory) p)) before new after → Halts new p.memory.foreign
  queue_read h a true o leads = queue_found h a o leads
  queue_read h a false o leads = stays_halts (faulted (reading (refused p.memory) p)) new before after p.memory.foreign leads (λ other. refl)

  queue_wrote : (h : HeldQueue) (outcome : Outcome) → HasEffect transacts (queue_effect (queue_rows.WriteBack outcome) h p) before new after → Halts new p.memory.foreign
  queue_wrote h outcome leads =
      let w : Writing = writing h.copy outcome p.walk.reply p.memory in
      stays_halts (queue_wrote_at w.all h outcome (record p { memory = w.memory })) new before after p.memory.foreign leads
      (queue_wrote_halts w.all h outcome (record p { memory = w.memory }) p.memory.foreign
      (λ all. written_counts h.copy.at h.copy.queue_head outcome (received h.copy.queue_head outcome p.walk.reply) p.memory all))

  queue_turn : (h : HeldQueue) (t : Turn) → HasEffect transacts (queue_effect (turn_row p.memory p.walk.left h.copy.queue_head t) h (reading (turn_read p.memory t) p)) before new after → Halts new p.memory.foreign
  queue_turn h turns.Work leads = queue_timed h (nat_lt p.walk.left (planned h.copy.queue_head).price.0) leads
  queue_turn h turns.Miss leads = queue_wrote (missed h) miss_outcome leads
  queue_turn h (turns.Take (qtd_links.To a)) leads = queue_read h a (reaches p.memory a) (result_ok (qtd_read (words_at p.memory a 8))) leads
  queue_turn h _ leads = skip_halts (passing h.copy.queue_head.link p) refl leads

  queue_halts : (h : HeldQueue) (s : Option Outcome) → HasEffect transacts (queue_effect (settled_row p.memory p.walk.left p.walk.index h.copy.queue_head s) h (reading (settled_read p.memory p.walk.index h.copy.queue_head s) p)) before new after → Halts new p.memory.foreign
  queue_halts h None leads = queue_turn h (turn_of p.walk.index h.copy.queue_head) leads
  queue_halts h (Some outcome) leads = queue_wrote h outcome leads

  -- an iTD
  itd_timed : (h : HeldItd) (late : Bool) → HasEffect transacts (itd_effect (if late then itd_rows.Skip else itd_rows.Transact (itd_transaction h)) h p) before new after → Halts new p.memory.foreign
  itd_timed h true leads = skip_halts (passing h.itd.link p) refl leads
  itd_timed h false leads =
      let t : IsoTransaction = itd_transaction h in
      sent_halts (itd_sending t h p.memory).all _ _ _ (record p { memory = (itd_sending t h p.memory).memory })
      (λ all r. read_counts (itd_pages h.itd) (slot_place h.slot + h.moved) t.bytes p.memory all) leads

  itd_open : (h : HeldItd) (active : Bool) → HasEffect transacts (itd_effect (if active then (if nat_lt p.walk.left (itd_transaction h).price.0 then itd_rows.Skip else itd_rows.Transact (itd_transaction h)) else itd_rows.Skip) h p) before new after → Halts new p.memory.foreign
  itd_open h true leads = itd_timed h (nat_lt p.walk.left (itd_transaction h).price.0) leads
  itd_open h false leads = skip_halts (passing h.itd.link p) refl leads

  itd_halts : (h : HeldItd) (o : Option IsoEnd) → HasEffect transacts (itd_effect (ended_row p.walk.left h o) h p) before new after → Halts new p.memory.foreign
  itd_halts h None leads = itd_open h h.slot.active leads
  itd_halts h (Some ended) leads =
      let w : Writing = itd_written h p.walk.got p.memory in
      stays_halts (itd_wrote_at w.all h ended (record p { memory = w.memory })) new before after p.memory.foreign leads
      (itd_wrote_halts w.all h ended (record p { memory = w.memory }) p.memory.foreign (λ all. itd_counts h p.walk.got p.memory all))

  -- a siTD
  sitd_timed : (h : HeldSitd) (late : Bool) → HasEffect transacts (sitd_effect (if late then sitd_rows.Skip else sitd_rows.Transact (sitd_transaction h.sitd)) h p) before new after → Halts new p.memory.foreign
  sitd_timed h true leads = skip_halts (passing h.sitd.link p) refl leads
  sitd_timed h false leads =
      let t : IsoTransaction = sitd_transaction h.sitd in
      sent_halts (sitd_sending t h.sitd p.memory).all _ _ _ (record p { memory = (sitd_sending t h.sitd p.memory).memory })
      (λ all r. read_counts (sitd_pages h.sitd) (sitd_place h.sitd) t.bytes p.memory all) leads

  sitd_wrote : (h : HeldSitd) (outcome : SplitOutcome) → HasEffect transacts (sitd_effect (sitd_rows.WriteBack outcome) h p) before new after → Halts new p.memory.foreign
  sitd_wrote h outcome leads =
      let w : Writing = sitd_writing h outcome p.walk.reply p.memory in
      stays_halts (sitd_wrote_at w.all h outcome (record p { memory = w.memory })) new before after p.memory.foreign leads
      (sitd_wrote_halts w.all h outcome (record p { memory = w.memory }) p.memory.foreign
      (λ all. sitd_counts h.at h.sitd outcome (sitd_received h.sitd.dir_in outcome p.walk.reply) p.memory all))

  sitd_turned : (h : HeldSitd) (t : SitdTurn) → HasEffect transacts (sitd_effect (sitd_turn_row p.walk.left h.sitd t) h p) before new after → Halts new p.memory.foreign
  sitd_turned h sitd_turns.Rest leads = skip_halts (passing h.sitd.link p) refl leads
  sitd_turned h sitd_turns.Work leads = sitd_timed h (nat_lt p.walk.left (sitd_transaction h.sitd).price.0) leads
  sitd_turned h sitd_turns.Miss leads = sitd_wrote (missed_copy h) Failed leads

  sitd_halts : (h : HeldSitd) (s : Option SplitOutcome) → HasEffect transacts (sitd_effect (sitd_settled_row p.walk.left (microframe_of p.walk.index) h.sitd s) h p) before new after → Halts new p.memory.foreign
  sitd_halts h None leads = sitd_turned h (sitd_turn (microframe_of p.walk.index) h.sitd) leads
  sitd_halts h (Some outcome) leads = sitd_wrote h outcome leads

  hand_halts : (hand : Option Hand) → HasEffect transacts (effect_at p hand) before new after → Halts new p.memory.foreign
  hand_halts None leads = stays_halts _ new before after p.memory.foreign leads (chain_halts p p.walk.cursor)
  hand_halts (Some (hands.Queue h)) leads = queue_halts h h.copy.settled leads
  hand_halts (Some (hands.Itd h)) leads = itd_halts h h.ended leads
  hand_halts (Some (hands.Sitd h)) leads = sitd_halts h h.settled leads

pub refusals_are_faults : {W : Type 0} (transacts : W → Ask → List ℕ → Reply → W → Type 0) (p new : FramePlace) (before after : W) → Leads transacts p before new after → AreRefusalsFaults p.memory new.memory new.registers
refusals_are_faults transacts p new before after leads = hand_halts transacts p new before after p.walk.hand leads
