-- Buffers stay in their runs, once a transfer is lent.
use Rattle.std.proofs.Common.{◌≡◌, ◌≢◌, ℕ, zero, suc, ◌+◌, ◌*◌, ◌%◌, ◌<◌, ◌≤◌, ◌||◌, ◌==◌, Bool, true, false, List, [], ◌∷◌, length, take, get_or, Some, option_map, ap, refl, sym, subst, ◌∙◌, ⊎_elim, inl, inr, arith}
use Rattle.std.proofs.lemmas.Bool.{cases_Bool, cases_eq, eqb-true, false≢true}
use Rattle.std.proofs.lemmas.Option.{same_Some}
use Rattle.law_queues.proofs.Common.{piece_told, one_buffer, piece_placed}
use Rattle.word_mem.specs.Memory.{Mem}
use Rattle.mem_bytes.specs.Bytes.{place}
use Rattle.qh_qtd.specs.declared.qtd.Qtd.{Qtd}
use Rattle.mem_runs.specs.declared.slots.Slot.{Slot}
use Rattle.mem_runs.specs.declared.slots.Slot.TheVariants.{Empty, Keeps, Lends}
use Rattle.mem_runs.specs.Book.{Holding, holding, slot_of, Stands}
use Rattle.drv_table.specs.declared.content.QtdNote.{QtdNote}
use Rattle.drv_table.specs.declared.content.Stage.{Stage}
use Rattle.drv_table.specs.DriverContent.{DriverContent}
use Rattle.drv_table.specs.Words.{buffer_needs}
use Rattle.drv_table.specs.Harvests.{note_at}
use Rattle.drv_table.specs.Offers.{is_last}
use Rattle.claims_driver.specs.Owners.{FrameList, QueueHead, Element as ElementOwner, Dummy, Buffer as BufferOwner, SlotHas, HasRun, EndpointRuns, TransferRuns, runs_of_endpoint, note_in, views_of, IsPieceOf, IsOneOf as IsOneRun}
use Rattle.law_driver.proofs.lemmas.run_owners.Runs.{placed_run}
use Rattle.claims_driver.specs.LentRuns.{AreLent, begins_in}
use Rattle.law_structures.specs.lent_structures.Structures.{Buffer, Structures, StructureSets, Has}
use Rattle.law_structures.specs.lent_structures.Sound.{element_pages, buffer_name, HasBuffer}
use Rattle.law_driver_ring.specs.Inventory.{sort_of, sorts_of, OfBuffer, IsLent, IsTransferIn, IsDriven}
use Rattle.law_driver_ring.specs.Extents.{InRuns, AreInRuns}
use Rattle.law_driver.specs.run_owners.Accepts.{AreShort}
use Rattle.law_driver_ring.specs.Written.{AreRuns, IsStageNoted, AreNoted}
use Rattle.law_driver_ring.specs.Pieces.{stage_qtd, AreBuffered}
use Rattle.law_driver_ring.specs.TransferLaws.{lent_driver}
use Rattle.law_driver_ring.proofs.Lists.{IsOneOf, one_or_not}
use Rattle.law_driver_ring.proofs.Buffers.{take_same, name_at, pages_from, LiesIn, lies_in}
use Rattle.law_driver_ring.proofs.TransferSlots.{taken_lent, others_stay}
use Rattle.law_driver_ring.proofs.Holding.{buffer_kept}
use Rattle.law_driver_ring.proofs.TransferOwning.{not_taken}
use Rattle.law_driver_ring.proofs.TransferLending.{taken_keep, lent_on_views}
use Rattle.law_queues.specs.fed_lends.ToLend.{lent_now}
use Rattle.law_queues.proofs.lemmas.fed_lends.Fed.{y_of, x_of, IsLending, bare_is, its_alive}
use Rattle.law_queues.proofs.lemmas.fed_lends.Names.{mapped}

-- ---- the same runs

as_run : (c : ℕ) (cs : List ℕ) → IsOneOf c cs → IsOneRun c cs
as_run c [] one = one
as_run c (b ∷ bs) (inl is) = inl is
as_run c (b ∷ bs) (inr is) = inr (as_run c bs is)

-- a run has its blocks still, lent or not
slot_still : {d : DriverContent} {m : Mem} {b : ℕ} {words : List ℕ} {parts now : StructureSets} → IsLending d m b words parts now → (c j : ℕ) → SlotHas (slot_of d.book.slots c) j → SlotHas (slot_of (lent_driver d m).book.slots c) j
slot_still {d = d} {m = m} l c j has =
    let k = l.ready in
    let h = holding d.book m in
    ⊎_elim
    (λ (one : IsOneOf c d.book.taken).
    let r = taken_keep d m k.number (y_of k) (x_of k) k.stage k.further c k.awaits one in
    let kept : SlotHas (Keeps r.run) j = subst (λ (s : Slot). SlotHas s j) r.is has in
    subst (λ (s : Slot). SlotHas s j) (sym (taken_lent h c r.run l.stands l.shape one r.is).slot) kept)
    (λ (none : IsOneOf c d.book.taken → ⊥). subst (λ (s : Slot). SlotHas s j) (sym (others_stay h c none)) has)
    (one_or_not c d.book.taken)

runs_still : {d : DriverContent} {m : Mem} {b : ℕ} {words : List ℕ} {parts now : StructureSets} → IsLending d m b words parts now → (cs : List ℕ) (j : ℕ) → InRuns (slot_of d.book.slots) cs j → InRuns (slot_of (lent_driver d m).book.slots) cs j
runs_still l cs j r = record { at = r.at; among = r.among; has = slot_still l r.at j r.has }

-- ---- a new buffer

stage_in_runs : (h : Holding) (part : Structures) (note : QtdNote) (s : Stage) (t : Qtd) (c : ℕ) (cs pages bs : List ℕ) (k j : ℕ) → Stands h → IsStageNoted (slot_of h.book.slots) note s → s.long ≤ 20480 → element_pages t ≡ pages_from note.buffer → t.offset ≡ 32 * (get_or note.buffer 0 0 % 128) → (0 < s.long → HasBuffer part t s.long) → take note.runs note.buffer ≡ c ∷ cs → part (32 * c) ≡ Some (Buffer pages k bs) → Has (32 * c) (Buffer pages k bs) j
    → InRuns (slot_of h.book.slots) (c ∷ cs) j
stage_in_runs h part note s t c cs pages bs k j stands noted short pages_are offset_is has runs here inside =
    let slot = slot_of h.book.slots in
    let ks = take note.runs note.buffer in
    let some_runs : 0 < length ks = subst (λ (xs : List ℕ). 0 < length xs) (sym runs) (omega arith) in
    let some = some_bytes slot s.long ks noted.runs some_runs in
    let first : get_or note.buffer 0 0 ≡ c = sym (take_same note.runs note.buffer 0 some_runs) ∙ ap (λ (xs : List ℕ). get_or xs 0 0) runs in
    let name : buffer_name t ≡ 32 * c = ap (λ (ps : List ℕ). place ps t.offset) pages_are ∙ ap (place (pages_from note.buffer)) offset_is ∙ name_at note.buffer ∙ ap (λ (i : ℕ). 32 * i) first in
    let b = has some in
    let same = one_buffer pages (element_pages t) k t.offset bs b.bytes (sym here ∙ ap part (sym name) ∙ b.here) in
    let at : place (element_pages t) t.offset ≡ 32 * c = name in
    let lies : (i : ℕ) → i < s.long → LiesIn slot ks (element_pages t) (t.offset + i) = λ i below.
    subst (λ (ps : List ℕ). LiesIn slot ks ps (t.offset + i)) (sym pages_are) (subst (λ (q : ℕ). LiesIn slot ks (pages_from note.buffer) (q + i)) (sym offset_is) (lies_in h note s i stands noted short below)) in
    let there : Has (place (element_pages t) t.offset) (Buffer (element_pages t) t.offset b.bytes) j =
    subst (λ (ps : List ℕ). Has (place (element_pages t) t.offset) (Buffer ps t.offset b.bytes) j) same.0
    (subst (λ (q : ℕ). Has (place (element_pages t) t.offset) (Buffer pages q b.bytes) j) same.1
    (subst (λ (xs : List ℕ). Has (place (element_pages t) t.offset) (Buffer pages k xs) j) same.2 inside)) in
    let kept = buffer_kept h ks (element_pages t) t.offset s.long j b.bytes b.size lies there in
    record { at = kept.at; among = as_run kept.at (c ∷ cs) (subst (IsOneOf kept.at) runs kept.one); has = kept.has }
  where
    some_bytes : (slot : ℕ → Slot) (n : ℕ) (xs : List ℕ) → AreRuns slot (buffer_needs n) xs → 0 < length xs → 0 < n
    some_bytes slot zero [] are some = absurd (omega (arith, some))
    some_bytes slot zero (x ∷ xs) are some = absurd are
    some_bytes slot (suc n) xs are some = omega arith

chain_in_runs : (h : Holding) (part : Structures) (notes : List QtdNote) (dummy : ℕ) (ss : List Stage) (b e c : ℕ) (cs pages bs : List ℕ) (k j : ℕ) → Stands h → AreNoted (slot_of h.book.slots) notes ss b → AreShort ss → AreBuffered part notes dummy ss b → IsPieceOf (note_in notes) b (length ss) e → take (note_at notes e).runs (note_at notes e).buffer ≡ c ∷ cs → part (32 * c) ≡ Some (Buffer pages k bs) → Has (32 * c) (Buffer pages k bs) j
    → InRuns (slot_of h.book.slots) (c ∷ cs) j
chain_in_runs h part notes dummy [] b e c cs pages bs k j stands noted short buffered piece runs here inside = absurd piece
chain_in_runs h part notes dummy (s ∷ ss) b e c cs pages bs k j stands noted short buffered (inl is) runs here inside =
    stage_in_runs h part (note_at notes b) s (stage_qtd notes s b dummy (is_last ss)) c cs pages bs k j stands noted.0 short.0 refl refl buffered.0 (ap (λ (i : ℕ). take (note_at notes i).runs (note_at notes i).buffer) (sym is) ∙ runs) here inside
chain_in_runs h part notes dummy (s ∷ ss) b e c cs pages bs k j stands noted short buffered (inr more) runs here inside =
    chain_in_runs h part notes dummy ss (note_at notes b).next e c cs pages bs k j stands noted.1 short.1 buffered.1 more runs here inside

-- ---- an old buffer

begins_one : (c : ℕ) (bs : List ℕ) → begins_in c bs ≡ true → IsOneOf c bs
begins_one c [] is = absurd (false≢true is)
begins_one c (b ∷ bs) is =
    ⊎_elim (λ (at : (b == c) ≡ true). inl (sym (eqb-true b c at)))
    (λ (off : (b == c) ≡ false). inr (begins_one c bs (sym (ap (λ (t : Bool). t || begins_in c bs) off) ∙ is))) (cases_Bool (b == c))

-- a run that isn't to be lent is lent
pub lent_already : {d : DriverContent} → AreLent d → (c : ℕ) (s : Slot) → slot_of d.book.slots c ≡ s → HasRun s → (IsOneOf c d.book.taken → ⊥) → IsLent s
lent_already lent c Empty is run none = run
lent_already {d = d} lent c (Keeps r) is run none = absurd (none (begins_one c d.book.taken (lent.kept c r is)))
lent_already lent c (Lends r) is run none = tt

old_in_runs : {d : DriverContent} {m : Mem} {b : ℕ} {words : List ℕ} {parts now : StructureSets} → (l : IsLending d m b words parts now) → AreLent d → IsDriven (views_of d) (sorts_of parts) → AreInRuns (views_of d) parts → (t e c : ℕ) (cs : List ℕ) (y : TransferRuns) (x : EndpointRuns) (pages : List ℕ) (k : ℕ) (bs : List ℕ) → IsTransferIn (views_of d) t y x → t ≢ l.ready.number → IsPieceOf (note_in d.notes) y.first y.qtds e
    → (note_in d.notes e).buffer ≡ c ∷ cs → now (32 * x.queue) (32 * c) ≡ Some (Buffer pages k bs) → (j : ℕ) → Has (32 * c) (Buffer pages k bs) j → InRuns (slot_of (lent_driver d m).book.slots) (c ∷ cs) j
old_in_runs {d = d} {m = m} {b = b} {words = words} {parts = parts} {now = now} l lent driven old t e c cs y x pages k bs is differs piece runs here j inside =
    let g = l.ready in
    let v = views_of d in
    let on = lent_on_views d m g.number (y_of g) (x_of g) g.stage g.further g.awaits l.has l.stands l.shape in
    let placed = piece_placed v.slot l.has.owner v.note t y.first y.qtds e c cs (l.has.owned.each.pieces t y is.here is.held) piece runs in
    let none : IsOneOf c d.book.taken → ⊥ =
    not_taken v (views_of (lent_driver d m)) l.has.owner g.number (y_of g) (x_of g) d.book.taken c (BufferOwner t) on placed (λ same. no_element t g.number same) (λ same. no_dummy t g.transfer.endpoint same) (λ same. differs (one_owner t g.number same)) in
    let lent_there = lent_already {d = d} lent c (v.slot c) refl (placed_run c (BufferOwner t) placed) none in
    let told = piece_told v (sorts_of parts (32 * x.queue)) y.first y.qtds e c cs (driven.pieces t y x is) piece runs lent_there in
    let u = mapped sort_of (parts (32 * x.queue) (32 * c)) OfBuffer told in
    let same : u.value ≡ Buffer pages k bs = same_Some u.value (Buffer pages k bs) (sym (l.pieces.still (32 * x.queue) (32 * c) u.value u.here) ∙ here) in
    runs_still l (c ∷ cs) j (old.buffers t e c cs y x pages k bs is piece runs (u.here ∙ ap Some same) j inside)
  where
    no_element : (t i : ℕ) → BufferOwner t ≡ ElementOwner i → ⊥
    no_element t i same = cc

    no_dummy : (t i : ℕ) → BufferOwner t ≡ Dummy i → ⊥
    no_dummy t i same = cc

    one_owner : (t i : ℕ) → BufferOwner t ≡ BufferOwner i → t ≡ i
    one_owner t i same = cc

-- ---- all of them

pub runs_lent : {d : DriverContent} {m : Mem} {b : ℕ} {words : List ℕ} {parts now : StructureSets} → IsLending d m b words parts now → AreLent d → IsDriven (views_of d) (sorts_of parts) → AreInRuns (views_of d) parts → AreInRuns (views_of (lent_now d m)) now
runs_lent {d = d} {m = m} {b = b} {words = words} {parts = parts} {now = now} l lent driven old =
    let g = l.ready in
    let n = 32 * g.endpoint.queue in
    let r = g.awaits in
    record {
      list = λ ws here.
          let queue = (l.has.owned.each.queue g.transfer.endpoint (runs_of_endpoint g.endpoint) (ap (option_map runs_of_endpoint) g.here) (bare_is d g.transfer.endpoint g.endpoint l.asynchronous g.here (its_alive d m b words l.asynchronous g))).owned in
          let differs : 0 ≢ n = λ same. no_list (sym l.has.owned.each.list.owned ∙ ap l.has.owner (let e : 0 ≡ g.endpoint.queue = omega (arith, same) in e) ∙ queue) in
          old.list ws (ap (λ (part : Structures). part 0) (sym (l.pieces.beside 0 differs)) ∙ here);
      buffers = λ t e c cs y x pages k bs is piece runs here j inside.
          let was : IsTransferIn (views_of d) t y x = record { here = is.here; held = is.held; qtds = is.qtds; queue = record { here = is.queue.here; queued = is.queue.queued } } in
          ⊎_elim
          (λ (same : t ≡ g.number).
          let is_y : y ≡ y_of g = same_Some y (y_of g) (sym was.here ∙ ap (views_of d).transfer same ∙ r.here.here) in
          let is_x : x ≡ x_of g = same_Some x (x_of g) (sym was.queue.here ∙ ap (λ (z : TransferRuns). (views_of d).endpoint z.endpoint) is_y ∙ r.here.queue.here) in
          let there : now n (32 * c) ≡ Some (Buffer pages k bs) = ap (λ (z : EndpointRuns). now (32 * z.queue) (32 * c)) (sym is_x) ∙ here in
          let mine : IsPieceOf (note_in d.notes) g.transfer.first (suc (length g.further)) e =
          subst (λ (i : ℕ). IsPieceOf (note_in d.notes) g.transfer.first i e) r.qtds (subst (λ (z : TransferRuns). IsPieceOf (note_in d.notes) z.first z.qtds e) is_y piece) in
          runs_still l (c ∷ cs) j
          (chain_in_runs (holding d.book m) (now n) d.notes g.endpoint.dummy (g.stage ∷ g.further) g.transfer.first e c cs pages bs k j l.stands r.noted r.short l.pieces.buffered mine runs there inside))
          (λ (differs : t ≢ g.number). old_in_runs l lent driven old t e c cs y x pages k bs was differs piece runs here j inside)
          (cases_eq t g.number);
    }
  where
    no_list : {e : ℕ} → FrameList ≡ QueueHead e → ⊥
    no_list same = cc
