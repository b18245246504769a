-- Once a put was accepted, its buffers hold its bytes, and the controller leaves them (EHCI 1.0, 3.5.4 and 4.10).
use Rattle.std.proofs.Common.{◌≡◌, ℕ, suc, ◌-◌, ◌*◌, ◌/◌, ◌<◌, ◌≤◌, false, List, [], ◌∷◌, ◌++◌, length, take, drop, get_or, ap, refl, sym, subst, ◌∙◌, arith}
use Rattle.std.specs.List.{AllByRecursion}
use Rattle.law_world.proofs.Common.{taken_good}
use Rattle.word_mem.specs.Memory.{Mem, IsShaped, word_at, is_lent, reaches}
use Rattle.qh_qtd.specs.Qtd.{qtd_words}
use Rattle.mem_runs.specs.Book.{Holding, holding, slot_of, store_words, Stands}
use Rattle.mem_runs.proofs.Standing.{keeps_all}
use Rattle.drv_table.specs.declared.content.QtdNote.{QtdNote}
use Rattle.drv_table.specs.declared.content.Stage.{Stage}
use Rattle.drv_table.specs.DriverContent.{DriverContent}
use Rattle.drv_table.specs.Words.{dummy_qtd, needs}
use Rattle.drv_table.specs.Harvests.{note_at, buffer_address, buffer_bytes}
use Rattle.drv_table.specs.Accepting.{Offered, new_runs}
use Rattle.drv_table.specs.Offers.{note_stages, write_stages, new_transfer, with_queued, accepted_transfer}
use Rattle.claims_driver.specs.Owners.{runs_of_endpoint, runs_of_transfer}
use Rattle.law_driver.specs.run_owners.Accepts.{AreShort, Transfers}
use Rattle.claims_driver.specs.Leaving.{HasOwners}
use Rattle.claims_driver.specs.LentRuns.{AreLent}
use Rattle.law_driver.specs.in_place.InPlace.{IsGood}
use Rattle.law_driver.proofs.lemmas.in_place.Good.{words_good, stages_good}
use Rattle.law_driver_ring.specs.Written.{AreAllApart, AreNoted, next_blocks, buffer_blocks, AwaitsLend}
use Rattle.law_driver_ring.proofs.Lists.{apart_right}
use Rattle.law_driver_ring.proofs.TransferAccepting.{accepted_awaits_lend}
use Rattle.law_world.specs.streams.put_laws.Held.{held_bytes, AreFilled, PutIsHeld, HeldStays}
use Rattle.law_world.proofs.lemmas.streams.lemmas.put_laws.Words.{bytes_same}
use Rattle.law_world.proofs.lemmas.streams.lemmas.put_laws.Buffers.{StandsIn, stands_in}
use Rattle.law_world.proofs.lemmas.streams.lemmas.put_laws.Sending.{sent_held}

-- ---- acceptance

module _ (d : DriverContent) (m : Mem) (o : Offered) (why : Transfers d m o) where
  abbrev g : Holding
  g = why.holding_after

  abbrev ss : List Stage
  ss = why.asked.stages

  abbrev first : ℕ
  first = why.endpoint.dummy

  abbrev qtds : List ℕ
  qtds = take (length ss) (new_runs d g)

  abbrev dummy : ℕ
  dummy = get_or qtds (length ss - 1) 0

  abbrev notes : List QtdNote
  notes = note_stages d.notes ss first qtds (drop (length ss) (new_runs d g))

  abbrev accepted : Offered
  accepted = accepted_transfer d why.number why.endpoint why.asked g dummy notes

  abbrev written : Mem
  written = store_words g.book (write_stages g.book g.memory notes dummy (drop 1 ss) (note_at notes first).next) dummy (32 * dummy) (qtd_words dummy_qtd)

  written_good : Stands (holding d.book m) → IsShaped m → IsGood g.book written
  written_good stands shape =
      words_good g.book (write_stages g.book g.memory notes dummy (drop 1 ss) (note_at notes first).next) dummy (32 * dummy) (qtd_words dummy_qtd)
      (stages_good g.book notes dummy (drop 1 ss) g.memory (note_at notes first).next (taken_good (holding d.book m) g (needs ss) (record { stands = stands; shape = shape }) why.runs))

  held_by : (s : Stage) (rest : List Stage) → ss ≡ s ∷ rest → AreFilled ss why.asked.bytes → AllByRecursion (λ b. b < 256) why.asked.bytes → AllByRecursion (λ r. r.pid ≤ 2) ss → HasOwners d → AreLent d
      → Stands (holding d.book m) → IsShaped m → held_bytes o.memory o.driver.notes first (length ss) ≡ why.asked.bytes
  held_by s rest are filled small pids has lent stands shape =
      let y = runs_of_transfer (new_transfer why.number why.asked first) in
      let z = runs_of_endpoint (with_queued why.endpoint (get_or (take (suc (length rest)) (new_runs d g)) (length rest) 0) (length d.transfers)) in
      let awaits = subst (λ (f : Offered). AwaitsLend f.driver f.memory (length d.transfers) y z s rest) why.is (accepted_awaits_lend d m o why s rest are pids has lent stands shape) in
      let noted : AreNoted (slot_of g.book.slots) notes ss first = subst (λ (rs : List Stage). AreNoted (slot_of g.book.slots) notes rs first) (sym are) awaits.noted in
      let apart : AreAllApart (buffer_blocks notes ss first) =
      subst (λ (rs : List Stage). AreAllApart (buffer_blocks notes rs first)) (sym are)
      (apart_right (next_blocks notes (s ∷ rest) first) (buffer_blocks notes (s ∷ rest) first) (subst AreAllApart awaits.taken awaits.apart)) in
      subst (λ (f : Offered). held_bytes f.memory f.driver.notes first (length ss) ≡ why.asked.bytes) (sym why.is)
      (sent_held g.book written notes ss first why.asked.bytes (written_good stands shape) noted apart why.short filled small)

  by_stages : (rs : List Stage) → ss ≡ rs → AreFilled ss why.asked.bytes → AllByRecursion (λ b. b < 256) why.asked.bytes → AllByRecursion (λ r. r.pid ≤ 2) ss → HasOwners d → AreLent d
      → Stands (holding d.book m) → IsShaped m → held_bytes o.memory o.driver.notes first (length ss) ≡ why.asked.bytes
  by_stages [] are filled small pids has lent stands shape = let some = why.some in let none : length ss ≡ 0 = ap length are in absurd (omega (arith, some, none))
  by_stages (s ∷ rest) are filled small pids has lent stands shape = held_by s rest are filled small pids has lent stands shape

pub put_is_held : PutIsHeld
put_is_held d m o why filled small pids has lent stands shape = by_stages d m o why why.asked.stages refl filled small pids has lent stands shape

-- ---- the controller

-- the words of a kept run stay
kept_same : (h : Holding) (new : Mem) (cs : List ℕ) (a : ℕ) → Stands h → ((at : ℕ) → reaches h.memory at ≡ false → word_at new at ≡ word_at h.memory at) → StandsIn (slot_of h.book.slots) cs a
    → word_at new a ≡ word_at h.memory a
kept_same h new cs a stands same k =
    let from = k.inside.from in
    let below = k.inside.below in
    same a (ap is_lent (keeps_all h k.block k.run stands k.is (a / 32) (omega (arith, from)) (omega (arith, below))))

stays_held : (h : Holding) (new : Mem) (notes : List QtdNote) (ss : List Stage) (b : ℕ) → Stands h → ((at : ℕ) → reaches h.memory at ≡ false → word_at new at ≡ word_at h.memory at)
    → AreNoted (slot_of h.book.slots) notes ss b → AreShort ss → AllByRecursion (λ r. r.told ≡ r.long) ss → held_bytes new notes b (length ss) ≡ held_bytes h.memory notes b (length ss)
unfolding held_bytes
stays_held h new notes [] b stands same noted short whole = refl
stays_held h new notes (s ∷ ss) b stands same noted short whole =
    let note = note_at notes b in
    let told : note.told ≡ s.long = noted.0.told ∙ whole.0 in
    let here : buffer_bytes new note note.told ≡ buffer_bytes h.memory note note.told =
    bytes_same h.memory new note note.told
    (λ j below. kept_same h new (take note.runs note.buffer) (buffer_address note j) stands same (stands_in h note s j stands noted.0 short.0 (omega (arith, below, told)))) in
    ap (λ (xs : List ℕ). xs ++ held_bytes new notes note.next (length ss)) here
    ∙ ap (λ (xs : List ℕ). buffer_bytes h.memory note note.told ++ xs) (stays_held h new notes ss note.next stands same noted.1 short.1 whole.1)

pub held_stays : HeldStays
held_stays d m new t y x s ss k stands whole same = stays_held (holding d.book m) new d.notes (s ∷ ss) y.first stands same k.noted k.short whole
