-- An event of the walk of a frame's chain goes on, or stops with at most one refusal counted more.
use Rattle.std.proofs.Common.{◌≡◌, ℕ, ◌+◌, Bool, true, false, List, Option, Some, None, if◌then◌else◌, refl, ap, sym, subst, inl, inr}
use Rattle.std.specs.Prelude.{nat_lt}
use Rattle.std.specs.Result.{result_ok}
use Rattle.usb_base.specs.declared.packets.Ask.{Ask}
use Rattle.usb_base.specs.declared.packets.Reply.{Reply}
use Rattle.word_mem.specs.Memory.{Mem, reaches, refused, with_word}
use Rattle.word_mem.specs.Views.{words_at, with_words}
use Rattle.link_words.specs.declared.kinds.Link.{Link}
use Rattle.link_words.specs.declared.kinds.Link.TheVariants as links
use Rattle.link_words.specs.declared.kinds.QtdLink.TheVariants as qtd_links
use Rattle.qh_qtd.specs.declared.qtd.Qtd.{Qtd}
use Rattle.qh_qtd.specs.declared.queue_head.Qh.{Qh}
use Rattle.qh_qtd.specs.Qtd.{qtd_read}
use Rattle.itd_sitd.specs.declared.sitd.Sitd.{Sitd}
use Rattle.itd_sitd.specs.Slot.{slot_word}
use Rattle.op_registers.specs.RegisterFile.{RegisterFile}
use Rattle.toggle_error.specs.declared.host.Outcome.{Outcome}
use Rattle.mem_queues.specs.Structures.{reaches_queue_head}
use Rattle.mem_descriptors.specs.Descriptors.{reaches_itd, slot_address, state_words}
use Rattle.hc_copy.specs.declared.held.Transaction.{Transaction}
use Rattle.hc_copy.specs.Overlay.{pages_of, buffer_place, advanced}
use Rattle.hc_copy.specs.Buffer.{Writing, bytes_written, sending}
use Rattle.hc_copy.specs.WriteBack.{received, overlay_after}
use Rattle.hc_interrupt.specs.declared.turns.Turn.{Turn}
use Rattle.hc_interrupt.specs.declared.turns.Turn.TheVariants as turns
use Rattle.hc_interrupt.specs.Turns.{microframe_of, turn_of, planned}
use Rattle.hc_iso.specs.declared.held.HeldItd.{HeldItd}
use Rattle.hc_iso.specs.declared.held.HeldSitd.{HeldSitd}
use Rattle.hc_iso.specs.declared.held.IsoEnd.{IsoEnd}
use Rattle.hc_iso.specs.declared.held.IsoTransaction.{IsoTransaction}
use Rattle.hc_iso.specs.declared.held.SitdTurn.{SitdTurn}
use Rattle.hc_iso.specs.declared.held.SitdTurn.TheVariants as sitd_turns
use Rattle.hc_iso.specs.declared.held.SplitOutcome.{SplitOutcome}
use Rattle.hc_iso.specs.declared.held.SplitOutcome.TheVariants.{Failed}
use Rattle.hc_iso.specs.Itd.{itd_transaction}
use Rattle.hc_iso.specs.Sitd.{sitd_turn, sitd_transaction, sitd_place, missed_copy, moved_sitd}
use Rattle.hc_iso.specs.WriteBack.{moved_by, itd_pages, slot_place, itd_sending, done_slot, slot_back, itd_written, sitd_pages, sitd_sending, sitd_received, state_back, sitd_written, iso_raised}
use Rattle.async_walk.proofs.Refusals.{overlay_counts}
use Rattle.periodic_walk.specs.declared.chain.ChainRow.{ChainRow}
use Rattle.periodic_walk.specs.declared.chain.ChainRow.TheVariants as chain_rows
use Rattle.periodic_walk.specs.declared.queue.QueueRow.TheVariants as queue_rows
use Rattle.periodic_walk.specs.declared.itd.ItdRow.TheVariants as itd_rows
use Rattle.periodic_walk.specs.declared.sitd.SitdRow.TheVariants as sitd_rows
use Rattle.periodic_walk.specs.declared.state.Hand.{Hand}
use Rattle.periodic_walk.specs.declared.state.Hand.TheVariants as hands
use Rattle.periodic_walk.specs.declared.state.HeldQueue.{HeldQueue}
use Rattle.periodic_walk.specs.Place.{FramePlace, reading, faulted, passing, sent, HasEffect}
use Rattle.periodic_walk.specs.Chain.{queue_fetch, itd_fetch, sitd_fetch, chain_row, chain_read, chain_after}
use Rattle.periodic_walk.specs.Queue.{taken_row, turn_row, turn_read, settled_row, settled_read, took, writing, missed, miss_outcome, queue_effect, wrote_at as queue_wrote_at}
use Rattle.periodic_walk.specs.Itd.{ended_row, wrote_at as itd_wrote_at, itd_effect}
use Rattle.periodic_walk.specs.Sitd.{turn_row as sitd_turn_row, settled_row as sitd_settled_row, writing as sitd_writing, wrote_at as sitd_wrote_at, sitd_effect}
use Rattle.periodic_walk.specs.Rows.{effect_at, Leads}
use Rattle.law_refusals.specs.Refusals.{IsOnce, GoesOnOrStops}
use Rattle.law_refusals.proofs.Counting.{IsCounted, overlay_once, sent_once, sent_same, write_counted, then_counted, bytes_counted, written_counted, goes_on, stops}
use Rattle.law_refusals.proofs.Ring.{raised_run, raised_error}

-- ---- what is written back

slot_counted : (h : HeldItd) (m : Mem) → IsCounted m (slot_back h m)
slot_counted h m = write_counted (reaches m (slot_address h.at h.number)) m (with_word m (slot_address h.at h.number) (slot_word (done_slot h))) refl

itd_counted : (h : HeldItd) (got : List ℕ) (m : Mem) → IsCounted m (itd_written h got m)
unfolding itd_written
itd_counted h got m =
    let bytes : Writing = bytes_written (itd_pages h.itd) (slot_place h.slot) got m in
    then_counted m bytes.memory bytes.all (slot_back h) (bytes_counted (itd_pages h.itd) (slot_place h.slot) got m) (slot_counted h)

state_counted : (a : ℕ) (v : Sitd) (m : Mem) → IsCounted m (state_back a v m)
state_counted a v m = write_counted (reaches m a) m (with_words m (a + 12) (state_words v)) refl

sitd_counted : (a : ℕ) (v : Sitd) (outcome : SplitOutcome) (got : List ℕ) (m : Mem) → IsCounted m (sitd_written a v outcome got m)
unfolding sitd_written
sitd_counted a v outcome got m =
    let bytes : Writing = bytes_written (sitd_pages v) (sitd_place v) got m in
    let new : Sitd = moved_sitd (moved_by outcome) v in
    then_counted m bytes.memory bytes.all (state_back a new) (bytes_counted (sitd_pages v) (sitd_place v) got m) (state_counted a new)

iso_run : (ended failed : Bool) (r : RegisterFile) → (iso_raised ended failed r).run ≡ r.run
unfolding iso_raised
iso_run ended failed r = refl

iso_error : (ended failed : Bool) (r : RegisterFile) → (iso_raised ended failed r).host_system_error ≡ r.host_system_error
unfolding iso_raised
iso_error ended failed r = refl

-- ---- a place

-- what an event leaves of a place
abbrev Counts : FramePlace → FramePlace → Type 0
Counts p new = GoesOnOrStops p.registers p.memory new.registers new.memory

-- it went on
still : (p new : FramePlace) → new.registers.run ≡ p.registers.run → new.registers.host_system_error ≡ p.registers.host_system_error → new.memory.foreign ≡ p.memory.foreign → Counts p new
still p new run error count = goes_on p.registers new.registers p.memory new.memory run error count

-- it was the fault, over memory that some reads or writes left
stuck : (p from : FramePlace) → IsOnce p.memory.foreign from.memory.foreign → Counts p (faulted from)
stuck p from once = stops p.registers (faulted from).registers p.memory from.memory refl refl once

stays : {W : Type 0} (p expected new : FramePlace) (before after : W) → (new ≡ expected) × (after ≡ before) → Counts p expected → Counts p new
stays p expected new before after is counts = subst (λ (x : FramePlace). Counts p x) (sym is.0) counts

-- by whether all of it was done: else it is the fault
if_counts : (b : Bool) (p done failed : FramePlace) → (b ≡ true → Counts p done) → Counts p failed → Counts p (if b then done else failed)
if_counts true p done failed goes fails = goes refl
if_counts false p done failed goes fails = fails

queue_wrote : (b : Bool) (h : HeldQueue) (outcome : Outcome) (p : FramePlace) (m : Mem) → IsCounted p.memory (record { memory = m; all = b }) → Counts p (queue_wrote_at b h outcome (record p { memory = m }))
queue_wrote true h outcome p m counted =
    still p (queue_wrote_at true h outcome (record p { memory = m })) (raised_run h.copy.queue_head outcome p.registers) (raised_error h.copy.queue_head outcome p.registers) (counted.same refl)
queue_wrote false h outcome p m counted = stuck p (record p { memory = m }) counted.once

itd_wrote : (b : Bool) (h : HeldItd) (ended : IsoEnd) (p : FramePlace) (m : Mem) → IsCounted p.memory (record { memory = m; all = b }) → Counts p (itd_wrote_at b h ended (record p { memory = m }))
itd_wrote true h ended p m counted = still p (itd_wrote_at true h ended (record p { memory = m })) (iso_run _ _ p.registers) (iso_error _ _ p.registers) (counted.same refl)
itd_wrote false h ended p m counted = stuck p (record p { memory = m }) counted.once

sitd_wrote : (b : Bool) (h : HeldSitd) (outcome : SplitOutcome) (p : FramePlace) (m : Mem) → IsCounted p.memory (record { memory = m; all = b }) → Counts p (sitd_wrote_at b h outcome (record p { memory = m }))
sitd_wrote true h outcome p m counted = still p (sitd_wrote_at true h outcome (record p { memory = m })) (iso_run _ _ p.registers) (iso_error _ _ p.registers) (counted.same refl)
sitd_wrote false h outcome p m counted = stuck p (record p { memory = m }) counted.once

-- ---- the chain

-- what was read of it
chain_here : (row : ChainRow) (p : FramePlace) (m : Mem) → m.foreign ≡ p.memory.foreign → Counts p (chain_after row (reading m p))
chain_here chain_rows.Fault p m same = stuck p (reading m p) (inl same)
chain_here chain_rows.Ends p m same = still p (chain_after chain_rows.Ends (reading m p)) refl refl same
chain_here (chain_rows.Queue a q) p m same = still p (chain_after (chain_rows.Queue a q) (reading m p)) refl refl same
chain_here (chain_rows.Itd a v) p m same = still p (chain_after (chain_rows.Itd a v) (reading m p)) refl refl same
chain_here (chain_rows.Sitd a v) p m same = still p (chain_after (chain_rows.Sitd a v) (reading m p)) refl refl same

-- a structure that isn't wholly Lent is the fault
fetch_counts : {A : Type 0} (b : Bool) (o : Option A) (row : Option A → ChainRow) (p : FramePlace) → row None ≡ chain_rows.Fault → Counts p (chain_after (row (if b then o else None)) (reading (if b then p.memory else refused p.memory) p))
fetch_counts true o row p fault = chain_here (row o) p p.memory refl
fetch_counts false o row p fault =
    subst (λ (x : ChainRow). Counts p (chain_after x (reading (refused p.memory) p))) (sym fault) (stuck p (reading (refused p.memory) p) (inr refl))

chain_counts : (p : FramePlace) (link : Link) → Counts p (chain_after (chain_row p.memory link) (reading (chain_read p.memory link) p))
chain_counts p links.End = chain_here chain_rows.Ends p p.memory refl
chain_counts p (links.Itd a) = fetch_counts (reaches_itd p.memory a) _ (itd_fetch a) p refl
chain_counts p (links.Qh a) = fetch_counts (reaches_queue_head p.memory a) _ (queue_fetch a) p refl
chain_counts p (links.Sitd a) = fetch_counts (reaches p.memory a) _ (sitd_fetch a) p refl
chain_counts p (links.Fstn a) = chain_here chain_rows.Fault p p.memory refl

-- ---- an event

module _ {W : Type 0} (transacts : W → Ask → List ℕ → Reply → W → Type 0) (p new : FramePlace) (before after : W) where
  sent_counts : (b : Bool) (ask : Ask) (out : List ℕ) (left_by : Reply → FramePlace) (m : Mem) → (b ≡ true → (r : Reply) → Counts p (left_by r)) → IsOnce p.memory.foreign m.foreign → HasEffect transacts (sent b ask out left_by (record p { memory = m })) before new after → Counts p new
  sent_counts true ask out left_by m goes once asked = subst (λ (x : FramePlace). Counts p x) (sym asked.place) (goes refl asked.reply)
  sent_counts false ask out left_by m goes once leads = stays p (faulted (record p { memory = m })) new before after leads (stuck p (record p { memory = m }) once)

  skips : (there : FramePlace) → there.registers ≡ p.registers → there.memory ≡ p.memory → (new ≡ there) × (after ≡ before) → Counts p new
  skips there registers memory leads =
      stays p there new before after leads
      (still p there (ap (λ (r : RegisterFile). r.run) registers) (ap (λ (r : RegisterFile). r.host_system_error) registers) (ap (λ (m : Mem). m.foreign) memory))

  -- a queue head
  queue_timed : (h : HeldQueue) (late : Bool) → HasEffect transacts (queue_effect (if late then queue_rows.Skip else queue_rows.Transact (planned h.copy.queue_head)) h p) before new after → Counts p new
  queue_timed h true leads = skips (passing h.copy.queue_head.link p) refl refl leads
  queue_timed h false leads =
      let t : Transaction = planned h.copy.queue_head in
      let q : Qh = h.copy.queue_head in
      sent_counts (sending t q p.memory).all _ _ _ (sending t q p.memory).memory
      (λ all r. goes_on p.registers _ p.memory _ refl refl (sent_same (pages_of q) (buffer_place q) t.bytes p.memory all)) (sent_once (pages_of q) (buffer_place q) t.bytes p.memory) leads

  queue_active : (h : HeldQueue) (a : ℕ) (t : Qtd) (active : Bool) → HasEffect transacts (queue_effect (if active then queue_rows.Advance a t else queue_rows.Skip) h (reading p.memory p)) before new after → Counts p new
  queue_active h a t true leads =
      let q : Qh = advanced h.copy.queue_head a t in
      stays p (took h a t p) new before after leads
      (if_counts (reaches_queue_head p.memory h.copy.at) p _ _ (λ reach. goes_on p.registers _ p.memory _ refl refl (overlay_counts p.memory h.copy.at q reach))
      (stuck p (record p { memory = overlay_after p.memory h.copy.at q }) (overlay_once p.memory h.copy.at q)))
  queue_active h a t false leads = skips (passing h.copy.queue_head.link p) refl refl leads

  queue_found : (h : HeldQueue) (a : ℕ) (o : Option Qtd) → HasEffect transacts (queue_effect (taken_row a o) h (reading p.memory p)) before new after → Counts p new
  queue_found h a None leads = stays p (faulted (reading p.memory p)) new before after leads (stuck p (reading p.memory p) (inl refl))
  queue_found h a (Some t) leads = queue_active h a t t.token.active leads

  queue_read : (h : HeldQueue) (a : ℕ) (b : Bool) (o : Option Qtd) → HasEffect transacts (queue_effect (taken_row a (if b then o else None)) h (reading (if b then p.memory else refused p.memory) p)) before new after → Counts p new
  queue_read h a true o leads = queue_found h a o leads
  queue_read h a false o leads = stays p (faulted (reading (refused p.memory) p)) new before after leads (stuck p (reading (refused p.memory) p) (inr refl))

  queue_written : (h : HeldQueue) (outcome : Outcome) → HasEffect transacts (queue_effect (queue_rows.WriteBack outcome) h p) before new after → Counts p new
  queue_written h outcome leads =
      let w : Writing = writing h.copy outcome p.walk.reply p.memory in
      stays p (queue_wrote_at w.all h outcome (record p { memory = w.memory })) new before after leads
      (queue_wrote w.all h outcome p w.memory
      (written_counted h.copy.at h.copy.queue_head outcome (received h.copy.queue_head outcome p.walk.reply) p.memory))

  queue_turn : (h : HeldQueue) (t : Turn) → HasEffect transacts (queue_effect (turn_row p.memory p.walk.left h.copy.queue_head t) h (reading (turn_read p.memory t) p)) before new after → Counts p new
  queue_turn h turns.Work leads = queue_timed h (nat_lt p.walk.left (planned h.copy.queue_head).price.0) leads
  queue_turn h turns.Miss leads = queue_written (missed h) miss_outcome leads
  queue_turn h (turns.Take (qtd_links.To a)) leads = queue_read h a (reaches p.memory a) (result_ok (qtd_read (words_at p.memory a 8))) leads
  queue_turn h _ leads = skips (passing h.copy.queue_head.link p) refl refl leads

  queue_counts : (h : HeldQueue) (s : Option Outcome) → HasEffect transacts (queue_effect (settled_row p.memory p.walk.left p.walk.index h.copy.queue_head s) h (reading (settled_read p.memory p.walk.index h.copy.queue_head s) p)) before new after → Counts p new
  queue_counts h None leads = queue_turn h (turn_of p.walk.index h.copy.queue_head) leads
  queue_counts h (Some outcome) leads = queue_written h outcome leads

  -- an iTD
  itd_timed : (h : HeldItd) (late : Bool) → HasEffect transacts (itd_effect (if late then itd_rows.Skip else itd_rows.Transact (itd_transaction h)) h p) before new after → Counts p new
  itd_timed h true leads = skips (passing h.itd.link p) refl refl leads
  itd_timed h false leads =
      let t : IsoTransaction = itd_transaction h in
      sent_counts (itd_sending t h p.memory).all _ _ _ (itd_sending t h p.memory).memory
      (λ all r. goes_on p.registers _ p.memory _ refl refl (sent_same (itd_pages h.itd) (slot_place h.slot + h.moved) t.bytes p.memory all))
      (sent_once (itd_pages h.itd) (slot_place h.slot + h.moved) t.bytes p.memory) leads

  itd_open : (h : HeldItd) (active : Bool) → HasEffect transacts (itd_effect (if active then (if nat_lt p.walk.left (itd_transaction h).price.0 then itd_rows.Skip else itd_rows.Transact (itd_transaction h)) else itd_rows.Skip) h p) before new after → Counts p new
  itd_open h true leads = itd_timed h (nat_lt p.walk.left (itd_transaction h).price.0) leads
  itd_open h false leads = skips (passing h.itd.link p) refl refl leads

  itd_counts : (h : HeldItd) (o : Option IsoEnd) → HasEffect transacts (itd_effect (ended_row p.walk.left h o) h p) before new after → Counts p new
  itd_counts h None leads = itd_open h h.slot.active leads
  itd_counts h (Some ended) leads =
      let w : Writing = itd_written h p.walk.got p.memory in
      stays p (itd_wrote_at w.all h ended (record p { memory = w.memory })) new before after leads
      (itd_wrote w.all h ended p w.memory (itd_counted h p.walk.got p.memory))

  -- a siTD
  sitd_timed : (h : HeldSitd) (late : Bool) → HasEffect transacts (sitd_effect (if late then sitd_rows.Skip else sitd_rows.Transact (sitd_transaction h.sitd)) h p) before new after → Counts p new
  sitd_timed h true leads = skips (passing h.sitd.link p) refl refl leads
  sitd_timed h false leads =
      let t : IsoTransaction = sitd_transaction h.sitd in
      sent_counts (sitd_sending t h.sitd p.memory).all _ _ _ (sitd_sending t h.sitd p.memory).memory
      (λ all r. goes_on p.registers _ p.memory _ refl refl (sent_same (sitd_pages h.sitd) (sitd_place h.sitd) t.bytes p.memory all))
      (sent_once (sitd_pages h.sitd) (sitd_place h.sitd) t.bytes p.memory) leads

  sitd_back : (h : HeldSitd) (outcome : SplitOutcome) → HasEffect transacts (sitd_effect (sitd_rows.WriteBack outcome) h p) before new after → Counts p new
  sitd_back h outcome leads =
      let w : Writing = sitd_writing h outcome p.walk.reply p.memory in
      stays p (sitd_wrote_at w.all h outcome (record p { memory = w.memory })) new before after leads
      (sitd_wrote w.all h outcome p w.memory (sitd_counted h.at h.sitd outcome (sitd_received h.sitd.dir_in outcome p.walk.reply) p.memory))

  sitd_turned : (h : HeldSitd) (t : SitdTurn) → HasEffect transacts (sitd_effect (sitd_turn_row p.walk.left h.sitd t) h p) before new after → Counts p new
  sitd_turned h sitd_turns.Rest leads = skips (passing h.sitd.link p) refl refl leads
  sitd_turned h sitd_turns.Work leads = sitd_timed h (nat_lt p.walk.left (sitd_transaction h.sitd).price.0) leads
  sitd_turned h sitd_turns.Miss leads = sitd_back (missed_copy h) Failed leads

  sitd_counts : (h : HeldSitd) (s : Option SplitOutcome) → HasEffect transacts (sitd_effect (sitd_settled_row p.walk.left (microframe_of p.walk.index) h.sitd s) h p) before new after → Counts p new
  sitd_counts h None leads = sitd_turned h (sitd_turn (microframe_of p.walk.index) h.sitd) leads
  sitd_counts h (Some outcome) leads = sitd_back h outcome leads

  hand_counts : (hand : Option Hand) → HasEffect transacts (effect_at p hand) before new after → Counts p new
  hand_counts None leads = stays p _ new before after leads (chain_counts p p.walk.cursor)
  hand_counts (Some (hands.Queue h)) leads = queue_counts h h.copy.settled leads
  hand_counts (Some (hands.Itd h)) leads = itd_counts h h.ended leads
  hand_counts (Some (hands.Sitd h)) leads = sitd_counts h h.settled leads

pub frame_counts : {W : Type 0} (transacts : W → Ask → List ℕ → Reply → W → Type 0) (p new : FramePlace) (before after : W) → Leads transacts p before new after → GoesOnOrStops p.registers p.memory new.registers new.memory
frame_counts transacts p new before after leads = hand_counts transacts p new before after p.walk.hand leads
