-- No command counts a refusal.
use Rattle.std.proofs.Common.{◌≡◌, ℕ, zero, suc, ◌+◌, ◌-◌, ◌*◌, ◌/◌, ◌%◌, List, [], ◌∷◌, length, take, drop, slice_index, Option, Some, None, Result, Ok, Err, option_map, ap, sym, ◌∙◌, refl}
use Rattle.law_driver.proofs.Common.{ok_same}
use Rattle.usb_base.specs.declared.commands.Cmd.{Cmd}
use Rattle.usb_base.specs.declared.endpoints.EpDesc.{EpDesc}
use Rattle.usb_base.specs.declared.reports.OfferError.{OfferError}
use Rattle.usb_base.specs.declared.reports.OfferError.TheVariants as errors
use Rattle.word_mem.specs.Runs.{Run}
use Rattle.word_mem.specs.Memory.{Mem}
use Rattle.word_mem.specs.Free.{lowest_run, longest_run}
use Rattle.mem_runs.specs.Book.{Book, Holding, holding, with_run, store, store_words}
use Rattle.qh_qtd.specs.Qtd.{qtd_words}
use Rattle.drv_periodic_table.specs.declared.content.DescriptorNote.{DescriptorNote}
use Rattle.drv_periodic_table.specs.Descriptors.{buffer_address as seeded_address, is_in, seeded_word, descriptor_words, write_seeded}
use Rattle.drv_table.specs.declared.content.QtdNote.{QtdNote}
use Rattle.drv_table.specs.declared.content.Stage.{Stage}
use Rattle.drv_table.specs.declared.content.Slots.{Slots}
use Rattle.drv_table.specs.DriverContent.{DriverContent}
use Rattle.drv_table.specs.Harvests.{note_at, buffer_address}
use Rattle.drv_table.specs.Words.{dummy_qtd, pieces, needs}
use Rattle.drv_table.specs.Accepting.{Offered, take_runs, new_runs}
use Rattle.drv_table.specs.IsoOffers.{Descriptors, iso_needs, written_descriptor, descriptor_note, slot_runs, total_of, one_descriptor, all_descriptors}
use Rattle.drv_table.specs.Offers.{note_stages, is_last, stage_words, write_stages, word_from, write_bytes, sends, send_stages, offered}
use Rattle.law_driver.specs.run_owners.Accepts.{Accepts, opens, chains, places, transfers, describes, cancels, unchains}
use Rattle.law_driver.proofs.lemmas.run_owners.Commands.{each_command_has_its_reason}
use Rattle.law_world.proofs.lemmas.memory.lemmas.running_worlds.UnrefusedRows.{cond_same, store_same, words_same}

-- ---- runs taken

abbrev then_runs : Holding → ℕ → List ℕ → Option Holding → Result Holding OfferError
then_runs h n ns o = elim o [ None ↦ Err (errors.NoBlocks n (longest_run h.memory.states)) | Some more ↦ take_runs more ns ]

taken_at : (h after : Holding) (n : ℕ) (ns : List ℕ) (o : Option Run) → ((x : Holding) → take_runs x ns ≡ Ok after → after.memory.foreign ≡ x.memory.foreign)
    → then_runs h n ns (option_map (with_run h) o) ≡ Ok after → after.memory.foreign ≡ h.memory.foreign
taken_at h after n ns None rest is = absurd (cc)
taken_at h after n ns (Some r) rest is = rest (with_run h r) is

taken_same : (h after : Holding) (ns : List ℕ) → take_runs h ns ≡ Ok after → after.memory.foreign ≡ h.memory.foreign
taken_same h after [] is = ap (λ (x : Holding). x.memory.foreign) (sym (ok_same h after is))
taken_same h after (n ∷ ns) is = taken_at h after n ns (lowest_run h.memory.states n) (λ x rest. taken_same x after ns rest) is

-- ---- words written

stages_same : (k : Book) (m : Mem) (notes : List QtdNote) (dummy : ℕ) (ss : List Stage) (b : ℕ) → (write_stages k m notes dummy ss b).foreign ≡ m.foreign
stages_same k m notes dummy [] b = refl
stages_same k m notes dummy (s ∷ ss) b =
    stages_same k (store_words k m b (32 * b) (stage_words notes s b dummy (is_last ss))) notes dummy ss (note_at notes b).next ∙ words_same k m b (32 * b) (stage_words notes s b dummy (is_last ss))

bytes_same : (k : Book) (m : Mem) (note : QtdNote) (bytes : List ℕ) (i n : ℕ) → (write_bytes k m note bytes i n).foreign ≡ m.foreign
bytes_same k m note bytes i zero = refl
bytes_same k m note bytes i (suc n) =
    bytes_same k (store k m (slice_index note.buffer (i / 4096)) (buffer_address note i) (word_from bytes i)) note bytes (i + 4) n
    ∙ store_same k m (slice_index note.buffer (i / 4096)) (buffer_address note i) (word_from bytes i)

sent_same : (k : Book) (m : Mem) (notes : List QtdNote) (ss : List Stage) (b : ℕ) (bytes : List ℕ) → (send_stages k m notes ss b bytes).foreign ≡ m.foreign
sent_same k m notes [] b bytes = refl
sent_same k m notes (s ∷ ss) b bytes =
    sent_same k (write_bytes k m (note_at notes b) (take (sends s) bytes) 0 (pieces (sends s) 4)) notes ss (note_at notes b).next (drop (sends s) bytes)
    ∙ bytes_same k m (note_at notes b) (take (sends s) bytes) 0 (pieces (sends s) 4)

heads_same : (k : Book) (m : Mem) (queue dummy at other : ℕ) (one two : List ℕ) → (store_words k (store_words k m queue at one) dummy other two).foreign ≡ m.foreign
heads_same k m queue dummy at other one two = words_same k (store_words k m queue at one) dummy other two ∙ words_same k m queue at one

-- ---- descriptors

seeded_same : (k : Book) (m : Mem) (runs : List ℕ) (seed total i n : ℕ) → (write_seeded k m runs seed total i n).foreign ≡ m.foreign
seeded_same k m runs seed total i zero = refl
seeded_same k m runs seed total i (suc n) =
    seeded_same k (store k m (slice_index runs (i / 4096)) (seeded_address runs i) (seeded_word seed total i)) runs seed total (i + 4) n
    ∙ store_same k m (slice_index runs (i / 4096)) (seeded_address runs i) (seeded_word seed total i)

written_same : (k : Book) (m : Mem) (x : EpDesc) (note : DescriptorNote) (b seed total : ℕ) → (written_descriptor k m x note b seed total).foreign ≡ m.foreign
written_same k m x note b seed total =
    let words : Mem = store_words k m b (32 * b) (descriptor_words x note) in
    let same : words.foreign ≡ m.foreign = words_same k m b (32 * b) (descriptor_words x note) in
    cond_same (is_in x.name.way) words (write_seeded k words note.buffer seed total 0 (pieces total 4)) m.foreign same (seeded_same k words note.buffer seed total 0 (pieces total 4) ∙ same)

descriptors_same : (k : Book) (e : ℕ) (x : EpDesc) (s : Slots) (n seed : ℕ) (runs : List ℕ) (a : Descriptors) → (all_descriptors k e x s n seed runs a).memory.foreign ≡ a.memory.foreign
unfolding all_descriptors
descriptors_same k e x s zero seed runs a = refl
descriptors_same k e x s (suc n) seed runs a =
    descriptors_same k e x s n ((seed + total_of s) % 256) (drop (suc (slot_runs s)) runs) (one_descriptor k e x s seed runs a)
    ∙ written_same k a.memory x (descriptor_note s (drop 1 runs)) (slice_index runs 0) seed (total_of s)

-- ---- a command that is accepted

Same : Mem → Offered → Type 0
Same m o = o.memory.foreign ≡ m.foreign

accepted_same : (d : DriverContent) (m : Mem) (o : Offered) → Accepts d m o → Same m o
unfolding Same
accepted_same d m o (opens k) = ap (λ (x : Offered). x.memory.foreign) k.is ∙ heads_same _ _ _ _ _ _ _ _ ∙ taken_same (holding d.book m) k.holding_after (2 ∷ 1 ∷ []) k.runs
accepted_same d m o (chains k) = ap (λ (x : Offered). x.memory.foreign) k.is ∙ heads_same _ _ _ _ _ _ _ _ ∙ taken_same (holding d.book m) k.holding_after (2 ∷ 1 ∷ []) k.runs
accepted_same d m o (places k) = ap (λ (x : Offered). x.memory.foreign) k.is
accepted_same d m o (transfers k) =
    let h = k.holding_after in
    let blocks = take (length k.asked.stages) (new_runs d h) in
    let dummy = slice_index blocks (length k.asked.stages - 1) in
    let notes = note_stages d.notes k.asked.stages k.endpoint.dummy blocks (drop (length k.asked.stages) (new_runs d h)) in
    let written : Mem = write_stages h.book h.memory notes dummy (drop 1 k.asked.stages) (note_at notes k.endpoint.dummy).next in
    ap (λ (x : Offered). x.memory.foreign) k.is
    ∙ sent_same h.book (store_words h.book written dummy (32 * dummy) (qtd_words dummy_qtd)) notes k.asked.stages k.endpoint.dummy k.asked.bytes
    ∙ words_same h.book written dummy (32 * dummy) (qtd_words dummy_qtd)
    ∙ stages_same h.book h.memory notes dummy (drop 1 k.asked.stages) (note_at notes k.endpoint.dummy).next
    ∙ taken_same (holding d.book m) h (needs k.asked.stages) k.runs
accepted_same d m o (describes k) =
    ap (λ (x : Offered). x.memory.foreign) k.is
    ∙ descriptors_same k.holding_after.book k.number k.endpoint.desc k.slots k.count k.seed (new_runs d k.holding_after) (record { notes = d.periodic.notes; transfers = d.transfers; memory = k.holding_after.memory })
    ∙ taken_same (holding d.book m) k.holding_after (iso_needs k.slots k.count) k.runs
accepted_same d m o (cancels k) = ap (λ (x : Offered). x.memory.foreign) k.is
accepted_same d m o (unchains k) = ap (λ (x : Offered). x.memory.foreign) k.is

pub command_same : (d : DriverContent) (m : Mem) (cmd : Cmd) (o : Offered) → offered d m cmd ≡ Ok o → o.memory.foreign ≡ m.foreign
unfolding Same
command_same d m cmd o is = accepted_same d m o (each_command_has_its_reason d m cmd o is)
