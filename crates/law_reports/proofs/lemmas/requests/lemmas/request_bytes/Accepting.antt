-- Once a request was accepted, its buffers hold its bytes, and what isn't lent stays (EHCI 1.0, 3.5 and 4.10).
use Rattle.std.proofs.Common.{◌≡◌, ℕ, suc, ◌-◌, ◌*◌, ◌/◌, ◌<◌, ◌≤◌, true, false, List, [], ◌∷◌, ◌++◌, length, take, drop, get_or, ap, refl, sym, subst, ◌∙◌, ⊎_elim, arith}
use Rattle.std.specs.List.{AllByRecursion}
use Rattle.std.proofs.lemmas.Bool.{true≢false}
use Rattle.law_world.proofs.Common.{taken_good}
use Rattle.word_mem.specs.Memory.{Mem, IsShaped, word_at, is_lent, reaches}
use Rattle.qh_qtd.specs.Qtd.{qtd_words}
use Rattle.mem_runs.specs.Book.{Holding, holding, slot_of, store_words, Stands}
use Rattle.mem_runs.proofs.Standing.{keeps_all}
use Rattle.drv_table.specs.declared.content.QtdNote.{QtdNote}
use Rattle.drv_table.specs.declared.content.Stage.{Stage}
use Rattle.drv_table.specs.DriverContent.{DriverContent}
use Rattle.drv_table.specs.Words.{dummy_qtd, needs, asks_in, request_length, setup_stage, data_stage, request_stages}
use Rattle.drv_table.specs.Harvests.{note_at, buffer_address, buffer_bytes}
use Rattle.drv_table.specs.Accepting.{Offered, new_runs}
use Rattle.drv_table.specs.Offers.{note_stages, write_stages, new_transfer, with_queued}
use Rattle.claims_driver.specs.Owners.{runs_of_endpoint, runs_of_transfer}
use Rattle.law_driver.specs.run_owners.Accepts.{AreShort, Transfers}
use Rattle.claims_driver.specs.Leaving.{HasOwners}
use Rattle.claims_driver.specs.LentRuns.{AreLent}
use Rattle.law_driver.specs.in_place.InPlace.{IsGood}
use Rattle.law_driver.proofs.lemmas.in_place.Good.{words_good, stages_good}
use Rattle.law_driver_ring.specs.Written.{AreAllApart, AreNoted, IsStageNoted, next_blocks, buffer_blocks, AwaitsLend}
use Rattle.law_driver_ring.proofs.Lists.{apart_right}
use Rattle.law_driver_ring.proofs.TransferAccepting.{accepted_awaits_lend}
use Rattle.law_world.proofs.lemmas.streams.lemmas.put_laws.Words.{bytes_same}
use Rattle.law_world.proofs.lemmas.streams.lemmas.put_laws.Buffers.{StandsIn, stands_in}
use Rattle.claims_report.specs.Requests.{Request}
use Rattle.law_request.specs.Host.{has_data}
use Rattle.law_reports.specs.requests.request_bytes.Held.{RequestIsHeld, AcceptedRequestIsHeld, HeldRequestStays}
use Rattle.law_reports.proofs.lemmas.requests.lemmas.request_bytes.Sending.{AreGiven, AreSentFrom, sent_held}
use Rattle.law_reports.proofs.lemmas.requests.lemmas.request_bytes.Requests.{no_data, with_data, request_case, request_pids, request_given, request_held}

-- ---- acceptance

module _ (d : DriverContent) (m : Mem) (o : Offered) (why : Transfers d m o) where
  abbrev g : Holding
  g = why.holding_after

  abbrev ss : List Stage
  ss = why.asked.stages

  abbrev first : ℕ
  first = why.endpoint.dummy

  abbrev qtds : List ℕ
  qtds = take (length ss) (new_runs d g)

  abbrev dummy : ℕ
  dummy = get_or qtds (length ss - 1) 0

  abbrev notes : List QtdNote
  notes = note_stages d.notes ss first qtds (drop (length ss) (new_runs d g))

  abbrev written : Mem
  written = store_words g.book (write_stages g.book g.memory notes dummy (drop 1 ss) (note_at notes first).next) dummy (32 * dummy) (qtd_words dummy_qtd)

  written_good : Stands (holding d.book m) → IsShaped m → IsGood g.book written
  written_good stands shape =
      words_good g.book (write_stages g.book g.memory notes dummy (drop 1 ss) (note_at notes first).next) dummy (32 * dummy) (qtd_words dummy_qtd)
      (stages_good g.book notes dummy (drop 1 ss) g.memory (note_at notes first).next (taken_good (holding d.book m) g (needs ss) (record { stands = stands; shape = shape }) why.runs))

  sent_by : (s : Stage) (rest : List Stage) → ss ≡ s ∷ rest → AreGiven ss why.asked.bytes → AllByRecursion (λ b. b < 256) why.asked.bytes → AllByRecursion (λ r. r.pid ≤ 2) ss → HasOwners d → AreLent d
      → Stands (holding d.book m) → IsShaped m → AreSentFrom o.memory o.driver.notes ss first why.asked.bytes
  sent_by s rest are given small pids has lent stands shape =
      let y = runs_of_transfer (new_transfer why.number why.asked first) in
      let z = runs_of_endpoint (with_queued why.endpoint (get_or (take (suc (length rest)) (new_runs d g)) (length rest) 0) (length d.transfers)) in
      let awaits = subst (λ (f : Offered). AwaitsLend f.driver f.memory (length d.transfers) y z s rest) why.is (accepted_awaits_lend d m o why s rest are pids has lent stands shape) in
      let noted : AreNoted (slot_of g.book.slots) notes ss first = subst (λ (rs : List Stage). AreNoted (slot_of g.book.slots) notes rs first) (sym are) awaits.noted in
      let apart : AreAllApart (buffer_blocks notes ss first) =
      subst (λ (rs : List Stage). AreAllApart (buffer_blocks notes rs first)) (sym are)
      (apart_right (next_blocks notes (s ∷ rest) first) (buffer_blocks notes (s ∷ rest) first) (subst AreAllApart awaits.taken awaits.apart)) in
      subst (λ (f : Offered). AreSentFrom f.memory f.driver.notes ss first why.asked.bytes) (sym why.is)
      (sent_held g.book written notes ss first why.asked.bytes (written_good stands shape) noted apart why.short given small)

  by_stages : (rs : List Stage) → ss ≡ rs → AreGiven ss why.asked.bytes → AllByRecursion (λ b. b < 256) why.asked.bytes → AllByRecursion (λ r. r.pid ≤ 2) ss → HasOwners d → AreLent d
      → Stands (holding d.book m) → IsShaped m → AreSentFrom o.memory o.driver.notes ss first why.asked.bytes
  by_stages [] are given small pids has lent stands shape = let some = why.some in let none : length ss ≡ 0 = ap length are in absurd (omega (arith, some, none))
  by_stages (s ∷ rest) are given small pids has lent stands shape = sent_by s rest are given small pids has lent stands shape

pub accepted_request_is_held : AcceptedRequestIsHeld
accepted_request_is_held d m o why r is stages bytes small has lent stands shape =
    let given : AreGiven why.asked.stages why.asked.bytes =
    subst (λ (ss : List Stage). AreGiven ss why.asked.bytes) (sym stages) (subst (AreGiven (request_stages r.setup)) (sym bytes) (request_given r is)) in
    let pids : AllByRecursion (λ s. s.pid ≤ 2) why.asked.stages = subst (λ (ss : List Stage). AllByRecursion (λ s. s.pid ≤ 2) ss) (sym stages) (request_pids r) in
    let sent : AreSentFrom o.memory o.driver.notes why.asked.stages why.endpoint.dummy why.asked.bytes = by_stages d m o why why.asked.stages refl given small pids has lent stands shape in
    request_held o.memory o.driver.notes why.endpoint.dummy r is
    (subst (λ (ss : List Stage). AreSentFrom o.memory o.driver.notes ss why.endpoint.dummy (r.setup ++ r.bytes)) stages
    (subst (AreSentFrom o.memory o.driver.notes why.asked.stages why.endpoint.dummy) bytes sent))

-- ---- what isn't lent stays

-- the words of a kept run stay
kept_same : (h : Holding) (new : Mem) (cs : List ℕ) (a : ℕ) → Stands h → ((at : ℕ) → reaches h.memory at ≡ false → word_at new at ≡ word_at h.memory at) → StandsIn (slot_of h.book.slots) cs a
    → word_at new a ≡ word_at h.memory a
kept_same h new cs a stands same k =
    let from = k.inside.from in
    let below = k.inside.below in
    same a (ap is_lent (keeps_all h k.block k.run stands k.is (a / 32) (omega (arith, from)) (omega (arith, below))))

-- those of a stage's buffer
stage_same : (h : Holding) (new : Mem) (note : QtdNote) (s : Stage) → Stands h → ((at : ℕ) → reaches h.memory at ≡ false → word_at new at ≡ word_at h.memory at)
    → IsStageNoted (slot_of h.book.slots) note s → s.long ≤ 20480 → buffer_bytes new note s.long ≡ buffer_bytes h.memory note s.long
stage_same h new note s stands same noted short =
    bytes_same h.memory new note s.long (λ j below. kept_same h new (take note.runs note.buffer) (buffer_address note j) stands same (stands_in h note s j stands noted short below))

with_data_stays : (h : Holding) (new : Mem) (notes : List QtdNote) (b : ℕ) (r : Request) → Stands h → ((at : ℕ) → reaches h.memory at ≡ false → word_at new at ≡ word_at h.memory at)
    → AreNoted (slot_of h.book.slots) notes (with_data r.setup) b → AreShort (with_data r.setup) → RequestIsHeld h.memory notes b r → RequestIsHeld new notes b r
with_data_stays h new notes b r stands same noted short held = record {
  setup = stage_same h new (note_at notes b) setup_stage stands same noted.0 short.0 ∙ held.setup;
  sent = λ some out. stage_same h new (note_at notes (note_at notes b).next) (data_stage (asks_in r.setup) (request_length r.setup)) stands same noted.1.0 short.1.0 ∙ held.sent some out;
}

no_data_stays : (h : Holding) (new : Mem) (notes : List QtdNote) (b : ℕ) (r : Request) → Stands h → ((at : ℕ) → reaches h.memory at ≡ false → word_at new at ≡ word_at h.memory at)
    → has_data r ≡ false → AreNoted (slot_of h.book.slots) notes no_data b → AreShort no_data → RequestIsHeld h.memory notes b r → RequestIsHeld new notes b r
no_data_stays h new notes b r stands same none noted short held = record {
  setup = stage_same h new (note_at notes b) setup_stage stands same noted.0 short.0 ∙ held.setup;
  sent = λ some out. absurd (true≢false (sym some ∙ none));
}

pub held_request_stays : HeldRequestStays
held_request_stays d m new t y x s rest r k are stands same held =
    let h = holding d.book m in
    let slot = slot_of d.book.slots in
    ⊎_elim
    (λ (none : (has_data r ≡ false) × (request_stages r.setup ≡ no_data)).
    no_data_stays h new d.notes y.first r stands same none.0 (subst (λ (rs : List Stage). AreNoted slot d.notes rs y.first) (are ∙ none.1) k.noted) (subst AreShort (are ∙ none.1) k.short) held)
    (λ (some : (has_data r ≡ true) × (request_stages r.setup ≡ with_data r.setup)).
    with_data_stays h new d.notes y.first r stands same (subst (λ (rs : List Stage). AreNoted slot d.notes rs y.first) (are ∙ some.1) k.noted) (subst AreShort (are ∙ some.1) k.short) held)
    (request_case r)
