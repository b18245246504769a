-- Where the controller was refused a word, it doesn't run any more.
use Rattle.std.proofs.Common.{◌≡◌, ◌≢◌, ℕ, ◌+◌, Bool, true, false, ◌&&◌, List, length, Option, Some, if◌then◌else◌, refl, ap, sym, subst, ◌∙◌, ⊎_elim}
use Rattle.std.specs.Prelude.{nat_le}
use Rattle.usb_base.specs.declared.packets.Ask.{Ask}
use Rattle.usb_base.specs.declared.packets.Reply.{Reply}
use Rattle.word_mem.specs.Memory.{Mem, reaches, refused, with_word}
use Rattle.word_mem.specs.Views.{with_words}
use Rattle.mem_bytes.specs.Bytes.{all_reached, stored, with_bytes}
use Rattle.qh_qtd.specs.declared.queue_head.Qh.{Qh}
use Rattle.qh_qtd.specs.Token.{token_word}
use Rattle.toggle_error.specs.declared.host.Outcome.{Outcome}
use Rattle.mem_queues.specs.Structures.{reaches_queue_head, overlay_words}
use Rattle.hc_copy.specs.declared.held.Held.{Held}
use Rattle.hc_copy.specs.declared.held.Transaction.{Transaction}
use Rattle.hc_copy.specs.Overlay.{pages_of, buffer_place, advanced, moved}
use Rattle.hc_copy.specs.Buffer.{Reading, Writing, size_of, placed, bytes_written, sending}
use Rattle.hc_copy.specs.WriteBack.{moved_by, then_write, overlay_after, overlay_back, token_back, written_back}
use Rattle.async_walk.specs.declared.rows.WalkRow.{WalkRow}
use Rattle.async_walk.specs.declared.rows.WalkRow.TheVariants as rows
use Rattle.async_walk.specs.Naks.{planned}
use Rattle.async_walk.specs.Rows.{WalkPlace, faulted, took, wrote, wrote_place, wrote_settled, writing, SentAt, Sends, Leads, walk_row, was_read, started, at_event, event_row}
use Rattle.async_walk.specs.Causes.{Cause, AreRefusalsFaults}
use Rattle.async_walk.specs.Causes.Cause.{ring_is_broken, head_is_quiet, leads_to, is_resting, queue_ends, qtd_is_done, queue_is_broken, takes_qtd, is_out_of_time, has_time, is_settled}
use Rattle.async_walk.proofs.Causes.{each_row_has_its_cause}
use Rattle.async_walk.proofs.Steps.{reads_here}

-- ---- writes that were all made count no refusal

pub both_true : (b c : Bool) → (b && c) ≡ true → (b ≡ true) × (c ≡ true)
both_true true c is = (refl, is)
both_true false c is = absurd cc

pub first_of : (b : Bool) (x y : Mem) → b ≡ true → (if b then x else y) ≡ x
first_of true x y is = refl
first_of false x y is = absurd cc

pub overlay_counts : (m : Mem) (a : ℕ) (q : Qh) → reaches_queue_head m a ≡ true → (overlay_after m a q).foreign ≡ m.foreign
unfolding overlay_after
overlay_counts m a q is =
    let both : (reaches m a ≡ true) × (reaches m (a + 32) ≡ true) = both_true (reaches m a) (reaches m (a + 32)) is in
    ap (λ (x : Mem). x.foreign) (first_of (reaches m a) _ (refused m) both.0)
    ∙ ap (λ (x : Mem). x.foreign) (first_of (reaches m (a + 32)) (with_words m (a + 12) (overlay_words q)) _ both.1)

pub stored_counts : (m : Mem) (pages : List ℕ) (k : ℕ) (bs : List ℕ) → all_reached m pages k (length bs) ≡ true → (stored m pages k bs).foreign ≡ m.foreign
unfolding stored
stored_counts m pages k bs is = ap (λ (x : Mem). x.foreign) (first_of (all_reached m pages k (length bs)) (with_bytes m pages k bs) _ is)

-- by whether the qTD goes on, and whether its token may be touched
abbrev token_writing : Bool → Bool → Mem → Mem → Mem → Writing
token_writing active reach m new old = if active then record { memory = m; all = true } else record { memory = if reach then new else old; all = reach }

token_at : (active reach : Bool) (m new old : Mem) → new.foreign ≡ m.foreign → (token_writing active reach m new old).all ≡ true → (token_writing active reach m new old).memory.foreign ≡ m.foreign
token_at true reach m new old same all = refl
token_at false true m new old same all = same
token_at false false m new old same all = absurd cc

token_counts : (q : Qh) (m : Mem) → (token_back q m).all ≡ true → (token_back q m).memory.foreign ≡ m.foreign
token_counts q m all = token_at q.token.active (reaches m q.current) m (with_word m (q.current + 8) (token_word q.token)) (refused m) refl all

-- writes one after the other
pub then_counts : (first : Mem) (b : Bool) (next : Mem → Writing) (foreign : ℕ) → (b ≡ true → first.foreign ≡ foreign) → ((m : Mem) → (next m).all ≡ true → (next m).memory.foreign ≡ m.foreign) → (then_write (record { memory = first; all = b }) next).all ≡ true → (then_write (record { memory = first; all = b }) next).memory.foreign ≡ foreign
then_counts first true next foreign before after all = after first all ∙ before refl
then_counts first false next foreign before after all = absurd cc

pub written_counts : (a : ℕ) (q : Qh) (outcome : Outcome) (got : List ℕ) (m : Mem) → (written_back a q outcome got m).all ≡ true → (written_back a q outcome got m).memory.foreign ≡ m.foreign
unfolding written_back
written_counts a q outcome got m all =
    let new : Qh = moved q (moved_by outcome) in
    let bytes : Writing = bytes_written (pages_of q) (buffer_place q) got m in
    let both : Writing = then_write bytes (overlay_back a new) in
    then_counts both.memory both.all (token_back new) m.foreign
    (λ made. then_counts bytes.memory bytes.all (overlay_back a new) m.foreign
    (λ placed_all. stored_counts m (pages_of q) (buffer_place q) (placed (pages_of q) (buffer_place q) got)
    (both_true (all_reached m (pages_of q) (buffer_place q) (length (placed (pages_of q) (buffer_place q) got))) (nat_le (buffer_place q + length got) (size_of (pages_of q))) placed_all).0)
    (λ w reach. overlay_counts w a new reach) made)
    (λ w reach. token_counts new w reach) all

-- by whether the bytes have places, and whether the controller may touch these
abbrev pub reading_memory : Bool → Bool → Mem → Mem
reading_memory inside reach m = if inside then (if reach then m else refused m) else m

pub reading_counts : (inside reach : Bool) (m : Mem) → (inside && reach) ≡ true → (reading_memory inside reach m).foreign ≡ m.foreign
reading_counts true true m all = refl
reading_counts true false m all = absurd cc
reading_counts false reach m all = absurd cc

pub sending_counts : (t : Transaction) (q : Qh) (m : Mem) → (sending t q m).all ≡ true → (sending t q m).memory.foreign ≡ m.foreign
sending_counts t q m all =
    reading_counts (nat_le (buffer_place q + t.bytes) (size_of (pages_of q))) (all_reached m (pages_of q) (buffer_place q) t.bytes) m all

-- ---- each row

-- the registers don't run, or no refusal was counted
abbrev Halts : WalkPlace → ℕ → Type 0
Halts new foreign = new.memory.foreign ≢ foreign → new.registers.run ≡ false

same_halts : (new : WalkPlace) (foreign : ℕ) → new.memory.foreign ≡ foreign → Halts new foreign
same_halts new foreign same = λ other. absurd (other same)

halts_if : (new expected : WalkPlace) (foreign : ℕ) → new ≡ expected → Halts expected foreign → Halts new foreign
halts_if new expected foreign is halts = subst (λ (p : WalkPlace). Halts p foreign) (sym is) halts

-- by whether all of it was done: else it is the fault
took_halts : (b : Bool) (done stuck : WalkPlace) (foreign : ℕ) → (b ≡ true → done.memory.foreign ≡ foreign) → stuck.registers.run ≡ false → Halts (if b then done else stuck) foreign
took_halts true done stuck foreign same off = same_halts done foreign (same refl)
took_halts false done stuck foreign same off = λ other. off

wrote_halts : (b : Bool) (q : Qh) (outcome : Outcome) (p : WalkPlace) (foreign : ℕ) → (b ≡ true → p.memory.foreign ≡ foreign) → Halts (wrote_place b q outcome p) foreign
wrote_halts true q outcome p foreign same = same_halts (wrote_place true q outcome p) foreign (same refl)
wrote_halts false q outcome p foreign same = λ other. refl

module _ {W : Type 0} (transacts : W → Ask → List ℕ → Reply → W → Type 0) (p new : WalkPlace) (before after : W) where
  sent_halts : (b : Bool) (t : Transaction) (h : Held) (read : Reading) → (b ≡ true → read.memory.foreign ≡ p.memory.foreign) → SentAt transacts b t h read p before new after → Halts new p.memory.foreign
  sent_halts true t h read same sent = same_halts new p.memory.foreign (ap (λ (x : WalkPlace). x.memory.foreign) sent.place ∙ same refl)
  sent_halts false t h read same sent = halts_if new (faulted (record p { memory = read.memory })) p.memory.foreign sent.0 (λ other. refl)

  row_halts : (row : WalkRow) → Cause p row → Leads transacts row p before new after → Halts new p.memory.foreign
  row_halts _ (ring_is_broken c) leads = halts_if new (faulted p) p.memory.foreign leads.0 (λ other. refl)
  row_halts _ (head_is_quiet c) leads = same_halts new p.memory.foreign (ap (λ (x : WalkPlace). x.memory.foreign) leads.0)
  row_halts _ (leads_to at q c) leads = same_halts new p.memory.foreign (ap (λ (x : WalkPlace). x.memory.foreign) leads.0)
  row_halts _ (is_resting c) leads = same_halts new p.memory.foreign (ap (λ (x : WalkPlace). x.memory.foreign) leads.0)
  row_halts _ (queue_ends c) leads = same_halts new p.memory.foreign (ap (λ (x : WalkPlace). x.memory.foreign) leads.0)
  row_halts _ (qtd_is_done c) leads = same_halts new p.memory.foreign (ap (λ (x : WalkPlace). x.memory.foreign) leads.0)
  row_halts _ (queue_is_broken c) leads = halts_if new (faulted p) p.memory.foreign leads.0 (λ other. refl)
  row_halts _ (takes_qtd at qtd c) leads =
      halts_if new (took at qtd p (Some c.copy)) p.memory.foreign (leads.0 ∙ ap (took at qtd p) c.comes.visited.in_hand)
      (took_halts (reaches_queue_head p.memory c.copy.at) _ _ p.memory.foreign (λ reach. overlay_counts p.memory c.copy.at (advanced c.copy.queue_head at qtd) reach) refl)
  row_halts _ (is_out_of_time c) leads = same_halts new p.memory.foreign (ap (λ (x : WalkPlace). x.memory.foreign) leads.0)
  row_halts _ (has_time copy c) leads =
      let t : Transaction = planned copy.queue_head in
      sent_halts (sending t copy.queue_head p.memory).all t copy (sending t copy.queue_head p.memory) (λ all. sending_counts t copy.queue_head p.memory all)
      (subst (λ (o : Option Held). Sends transacts t p o before new after) c.visited.in_hand leads)
  row_halts _ (is_settled copy outcome c) leads =
      halts_if new (wrote_settled p copy (Some outcome)) p.memory.foreign (leads.0 ∙ ap (wrote p) c.in_hand ∙ ap (wrote_settled p copy) c.settled)
      (wrote_halts (writing copy outcome p.walk.reply p.memory).all copy.queue_head outcome _ p.memory.foreign
      (λ all. written_counts copy.at copy.queue_head outcome _ p.memory all))

-- what was read is read before, and only the fault is refused then
read_halts : {W : Type 0} (transacts : W → Ask → List ℕ → Reply → W → Type 0) (p new : WalkPlace) (before after : W) → Leads transacts (walk_row p) (was_read p) before new after → Halts new p.memory.foreign
read_halts transacts p new before after leads =
    ⊎_elim (λ (fault : walk_row p ≡ rows.Fault).
    let stays : Leads transacts rows.Fault (was_read p) before new after = subst (λ (row : WalkRow). Leads transacts row (was_read p) before new after) fault leads in
    halts_if new (faulted (was_read p)) p.memory.foreign stays.0 (λ other. refl))
    (λ (same : was_read p ≡ p).
    row_halts transacts p new before after (walk_row p) (each_row_has_its_cause p)
    (subst (λ (x : WalkPlace). Leads transacts (walk_row p) x before new after) same leads))
    (reads_here p (walk_row p) (each_row_has_its_cause p))

-- ---- of an event

pub refusals_are_faults : {W : Type 0} (transacts : W → Ask → List ℕ → Reply → W → Type 0) (p new : WalkPlace) (before after : W) → Leads transacts (event_row p) (at_event p) before new after → AreRefusalsFaults p.memory new.memory new.registers
refusals_are_faults transacts p new before after leads = read_halts transacts (started p) new before after leads
