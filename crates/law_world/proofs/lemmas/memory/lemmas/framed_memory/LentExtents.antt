-- Buffers stay in their runs, once a transfer is lent.
use Rattle.std.proofs.Common.{◌≡◌, ◌≢◌, ℕ, zero, suc, ◌+◌, ◌*◌, ◌%◌, ◌<◌, ◌≤◌, ◌||◌, ◌==◌, Bool, true, false, List, [], ◌∷◌, length, take, get_or, Option, Some, None, option_map, ap, refl, sym, subst, ◌∙◌, ⊎_elim, inl, inr, arith}
use Rattle.std.proofs.lemmas.Bool.{cases_Bool, cases_eq, eqb-true, false≢true}
use Rattle.std.proofs.lemmas.Option.{same_Some}
use Rattle.law_queues.proofs.Common.{piece_told, one_buffer, piece_placed}
use Rattle.law_world.proofs.Common2.{no_list}
use Rattle.word_mem.specs.Memory.{Mem, IsShaped}
use Rattle.mem_bytes.specs.Bytes.{place}
use Rattle.qh_qtd.specs.declared.qtd.Qtd.{Qtd}
use Rattle.mem_runs.specs.declared.slots.Slot.{Slot}
use Rattle.mem_runs.specs.declared.slots.Slot.TheVariants.{Empty, Keeps, Lends}
use Rattle.mem_runs.specs.Book.{Holding, holding, slot_of, Stands}
use Rattle.drv_table.specs.declared.content.QtdNote.{QtdNote}
use Rattle.drv_table.specs.declared.content.Stage.{Stage}
use Rattle.drv_table.specs.DriverContent.{DriverContent}
use Rattle.drv_table.specs.Words.{buffer_needs}
use Rattle.drv_table.specs.Harvests.{note_at}
use Rattle.drv_table.specs.Offers.{is_last}
use Rattle.claims_driver.specs.Owners.{Element as ElementOwner, Dummy, Buffer as BufferOwner, SlotHas, HasRun, EndpointRuns, TransferRuns, note_in, views_of, IsPieceOf, IsOneOf as IsOneRun}
use Rattle.claims_driver.specs.Leaving.{HasOwners}
use Rattle.law_driver.proofs.lemmas.run_owners.Runs.{placed_run}
use Rattle.claims_driver.specs.LentRuns.{AreLent, begins_in}
use Rattle.law_structures.specs.lent_structures.Structures.{Structure, Buffer, Structures, StructureSets, Has}
use Rattle.law_structures.specs.lent_structures.Sound.{element_pages, buffer_name, HasBuffer}
use Rattle.law_driver_ring.specs.Inventory.{Sort, sort_of, sorts_of, OfBuffer, IsLent, IsTransferIn, IsDriven}
use Rattle.law_driver_ring.specs.Extents.{InRuns, AreInRuns}
use Rattle.law_driver.specs.run_owners.Accepts.{AreShort}
use Rattle.law_driver_ring.specs.Written.{AreRuns, IsStageNoted, AreNoted, AwaitsLend}
use Rattle.law_driver_ring.specs.Pieces.{stage_qtd, AreBuffered}
use Rattle.law_driver_ring.specs.TransferLaws.{lent_driver, HasPieces}
use Rattle.law_driver_ring.proofs.Lists.{IsOneOf, one_or_not}
use Rattle.law_driver_ring.proofs.Buffers.{take_same, name_at, pages_from, LiesIn, lies_in}
use Rattle.law_driver_ring.proofs.TransferSlots.{taken_lent, others_stay}
use Rattle.law_driver_ring.proofs.Holding.{buffer_kept}
use Rattle.law_driver_ring.proofs.TransferOwning.{not_taken}
use Rattle.law_driver_ring.proofs.TransferLending.{taken_keep, lent_on_views}

as_run : (c : ℕ) (cs : List ℕ) → IsOneOf c cs → IsOneRun c cs
as_run c [] one = one
as_run c (b ∷ bs) (inl is) = inl is
as_run c (b ∷ bs) (inr is) = inr (as_run c bs is)

-- ---- a new buffer

stage_in_runs : (h : Holding) (part : Structures) (note : QtdNote) (s : Stage) (t : Qtd) (c : ℕ) (cs pages bs : List ℕ) (k j : ℕ) → Stands h → IsStageNoted (slot_of h.book.slots) note s → s.long ≤ 20480 → element_pages t ≡ pages_from note.buffer → t.offset ≡ 32 * (get_or note.buffer 0 0 % 128) → (0 < s.long → HasBuffer part t s.long) → take note.runs note.buffer ≡ c ∷ cs → part (32 * c) ≡ Some (Buffer pages k bs) → Has (32 * c) (Buffer pages k bs) j
    → InRuns (slot_of h.book.slots) (c ∷ cs) j
stage_in_runs h part note s t c cs pages bs k j stands noted short pages_are offset_is has runs here inside =
    let slot = slot_of h.book.slots in
    let ks = take note.runs note.buffer in
    let some_runs : 0 < length ks = subst (λ (xs : List ℕ). 0 < length xs) (sym runs) (omega arith) in
    let some = some_bytes slot s.long ks noted.runs some_runs in
    let first : get_or note.buffer 0 0 ≡ c = sym (take_same note.runs note.buffer 0 some_runs) ∙ ap (λ (xs : List ℕ). get_or xs 0 0) runs in
    let name : buffer_name t ≡ 32 * c = ap (λ (ps : List ℕ). place ps t.offset) pages_are ∙ ap (place (pages_from note.buffer)) offset_is ∙ name_at note.buffer ∙ ap (λ (i : ℕ). 32 * i) first in
    let b = has some in
    let same = one_buffer pages (element_pages t) k t.offset bs b.bytes (sym here ∙ ap part (sym name) ∙ b.here) in
    let at : place (element_pages t) t.offset ≡ 32 * c = name in
    let lies : (i : ℕ) → i < s.long → LiesIn slot ks (element_pages t) (t.offset + i) = λ i below.
    subst (λ (ps : List ℕ). LiesIn slot ks ps (t.offset + i)) (sym pages_are) (subst (λ (q : ℕ). LiesIn slot ks (pages_from note.buffer) (q + i)) (sym offset_is) (lies_in h note s i stands noted short below)) in
    let there : Has (place (element_pages t) t.offset) (Buffer (element_pages t) t.offset b.bytes) j =
    subst (λ (ps : List ℕ). Has (place (element_pages t) t.offset) (Buffer ps t.offset b.bytes) j) same.0
    (subst (λ (q : ℕ). Has (place (element_pages t) t.offset) (Buffer pages q b.bytes) j) same.1
    (subst (λ (xs : List ℕ). Has (place (element_pages t) t.offset) (Buffer pages k xs) j) same.2 inside)) in
    let kept = buffer_kept h ks (element_pages t) t.offset s.long j b.bytes b.size lies there in
    record { at = kept.at; among = as_run kept.at (c ∷ cs) (subst (IsOneOf kept.at) runs kept.one); has = kept.has }
  where
    some_bytes : (slot : ℕ → Slot) (n : ℕ) (xs : List ℕ) → AreRuns slot (buffer_needs n) xs → 0 < length xs → 0 < n
    some_bytes slot zero [] are some = absurd (omega (arith, some))
    some_bytes slot zero (x ∷ xs) are some = absurd are
    some_bytes slot (suc n) xs are some = omega arith

chain_in_runs : (h : Holding) (part : Structures) (notes : List QtdNote) (dummy : ℕ) (ss : List Stage) (b e c : ℕ) (cs pages bs : List ℕ) (k j : ℕ) → Stands h → AreNoted (slot_of h.book.slots) notes ss b → AreShort ss → AreBuffered part notes dummy ss b → IsPieceOf (note_in notes) b (length ss) e → take (note_at notes e).runs (note_at notes e).buffer ≡ c ∷ cs → part (32 * c) ≡ Some (Buffer pages k bs) → Has (32 * c) (Buffer pages k bs) j
    → InRuns (slot_of h.book.slots) (c ∷ cs) j
chain_in_runs h part notes dummy [] b e c cs pages bs k j stands noted short buffered piece runs here inside = absurd piece
chain_in_runs h part notes dummy (s ∷ ss) b e c cs pages bs k j stands noted short buffered (inl is) runs here inside =
    stage_in_runs h part (note_at notes b) s (stage_qtd notes s b dummy (is_last ss)) c cs pages bs k j stands noted.0 short.0 refl refl buffered.0 (ap (λ (i : ℕ). take (note_at notes i).runs (note_at notes i).buffer) (sym is) ∙ runs) here inside
chain_in_runs h part notes dummy (s ∷ ss) b e c cs pages bs k j stands noted short buffered (inr more) runs here inside =
    chain_in_runs h part notes dummy ss (note_at notes b).next e c cs pages bs k j stands noted.1 short.1 buffered.1 more runs here inside

-- ---- an old buffer

pub begins_one : (c : ℕ) (bs : List ℕ) → begins_in c bs ≡ true → IsOneOf c bs
begins_one c [] is = absurd (false≢true is)
begins_one c (b ∷ bs) is =
    ⊎_elim (λ (at : (b == c) ≡ true). inl (sym (eqb-true b c at)))
    (λ (off : (b == c) ≡ false). inr (begins_one c bs (sym (ap (λ (t : Bool). t || begins_in c bs) off) ∙ is))) (cases_Bool (b == c))

-- a run that isn't to be lent is lent
lent_already : {d : DriverContent} → AreLent d → (c : ℕ) (s : Slot) → slot_of d.book.slots c ≡ s → HasRun s → (IsOneOf c d.book.taken → ⊥) → IsLent s
lent_already lent c Empty is run none = run
lent_already {d = d} lent c (Keeps r) is run none = absurd (none (begins_one c d.book.taken (lent.kept c r is)))
lent_already lent c (Lends r) is run none = tt

record IsThere (o : Option Structure) : Type 0 where
  value : Structure
  here : o ≡ Some value

told_there : (o : Option Structure) (k : Sort) → option_map sort_of o ≡ Some k → IsThere o
told_there None k is = absurd (cc)
told_there (Some s) k is = record { value = s; here = refl }

no_element : (t i : ℕ) → BufferOwner t ≡ ElementOwner i → ⊥
no_element t i same = cc

no_dummy : (t i : ℕ) → BufferOwner t ≡ Dummy i → ⊥
no_dummy t i same = cc

one_owner : (t i : ℕ) → BufferOwner t ≡ BufferOwner i → t ≡ i
one_owner t i same = cc

-- ---- all of them

module _ (d : DriverContent) (m : Mem) (t : ℕ) (y : TransferRuns) (x : EndpointRuns) (s : Stage) (ss : List Stage) (k : AwaitsLend d m t y x s ss) (has : HasOwners d) (stands : Stands (holding d.book m)) (shape : IsShaped m) (parts now : StructureSets) (pieces : HasPieces d (slot_of (lent_driver d m).book.slots) parts now y x s ss) (lent : AreLent d) (driven : IsDriven (views_of d) (sorts_of parts)) (old : AreInRuns (views_of d) parts) where
  -- a run has its blocks still, lent or not
  slot_still : (c j : ℕ) → SlotHas (slot_of d.book.slots c) j → SlotHas (slot_of (lent_driver d m).book.slots c) j
  slot_still c j inside =
      let h = holding d.book m in
      ⊎_elim
      (λ (one : IsOneOf c d.book.taken).
      let r = taken_keep d m t y x s ss c k one in
      let kept : SlotHas (Keeps r.run) j = subst (λ (u : Slot). SlotHas u j) r.is inside in
      subst (λ (u : Slot). SlotHas u j) (sym (taken_lent h c r.run stands shape one r.is).slot) kept)
      (λ (none : IsOneOf c d.book.taken → ⊥). subst (λ (u : Slot). SlotHas u j) (sym (others_stay h c none)) inside)
      (one_or_not c d.book.taken)

  runs_still : (cs : List ℕ) (j : ℕ) → InRuns (slot_of d.book.slots) cs j → InRuns (slot_of (lent_driver d m).book.slots) cs j
  runs_still cs j r = record { at = r.at; among = r.among; has = slot_still r.at j r.has }

  old_in_runs : (u e c : ℕ) (cs : List ℕ) (z : TransferRuns) (q : EndpointRuns) (pages : List ℕ) (i : ℕ) (bs : List ℕ) → IsTransferIn (views_of d) u z q → u ≢ t → IsPieceOf (note_in d.notes) z.first z.qtds e
      → (note_in d.notes e).buffer ≡ c ∷ cs → now (32 * q.queue) (32 * c) ≡ Some (Buffer pages i bs) → (j : ℕ) → Has (32 * c) (Buffer pages i bs) j → InRuns (slot_of (lent_driver d m).book.slots) (c ∷ cs) j
  old_in_runs u e c cs z q pages i bs is differs piece runs here j inside =
      let v = views_of d in
      let on = lent_on_views d m t y x s ss k has stands shape in
      let placed = piece_placed v.slot has.owner v.note u z.first z.qtds e c cs (has.owned.each.pieces u z is.here is.held) piece runs in
      let none : IsOneOf c d.book.taken → ⊥ =
      not_taken v (views_of (lent_driver d m)) has.owner t y x d.book.taken c (BufferOwner u) on placed (λ same. no_element u t same) (λ same. no_dummy u y.endpoint same) (λ same. differs (one_owner u t same)) in
      let lent_there = lent_already {d = d} lent c (v.slot c) refl (placed_run c (BufferOwner u) placed) none in
      let told = piece_told v (sorts_of parts (32 * q.queue)) z.first z.qtds e c cs (driven.pieces u z q is) piece runs lent_there in
      let w = told_there (parts (32 * q.queue) (32 * c)) OfBuffer told in
      let same : w.value ≡ Buffer pages i bs = same_Some w.value (Buffer pages i bs) (sym (pieces.still (32 * q.queue) (32 * c) w.value w.here) ∙ here) in
      runs_still (c ∷ cs) j (old.buffers u e c cs z q pages i bs is piece runs (w.here ∙ ap Some same) j inside)

  pub runs_lent : AreInRuns (views_of (lent_driver d m)) now
  runs_lent = record {
    list = λ ws here.
        let queue = (has.owned.each.queue y.endpoint x k.here.queue.here k.here.queue.queued).owned in
        let differs : 0 ≢ 32 * x.queue = λ same. no_list y.endpoint (sym has.owned.each.list.owned ∙ ap has.owner (let e : 0 ≡ x.queue = omega (arith, same) in e) ∙ queue) in
        old.list ws (ap (λ (part : Structures). part 0) (sym (pieces.beside 0 differs)) ∙ here);
    buffers = λ u e c cs z q pages i bs is piece runs here j inside.
        let was : IsTransferIn (views_of d) u z q = record { here = is.here; held = is.held; qtds = is.qtds; queue = record { here = is.queue.here; queued = is.queue.queued } } in
        ⊎_elim
        (λ (same : u ≡ t).
        let is_y : z ≡ y = same_Some z y (sym was.here ∙ ap (views_of d).transfer same ∙ k.here.here) in
        let is_x : q ≡ x = same_Some q x (sym was.queue.here ∙ ap (λ (r : TransferRuns). (views_of d).endpoint r.endpoint) is_y ∙ k.here.queue.here) in
        let there : now (32 * x.queue) (32 * c) ≡ Some (Buffer pages i bs) = ap (λ (r : EndpointRuns). now (32 * r.queue) (32 * c)) (sym is_x) ∙ here in
        let mine : IsPieceOf (note_in d.notes) y.first (suc (length ss)) e =
        subst (λ (n : ℕ). IsPieceOf (note_in d.notes) y.first n e) k.qtds (subst (λ (r : TransferRuns). IsPieceOf (note_in d.notes) r.first r.qtds e) is_y piece) in
        runs_still (c ∷ cs) j
        (chain_in_runs (holding d.book m) (now (32 * x.queue)) d.notes x.dummy (s ∷ ss) y.first e c cs pages bs i j stands k.noted k.short pieces.buffered mine runs there inside))
        (λ (differs : u ≢ t). old_in_runs u e c cs z q pages i bs was differs piece runs here j inside)
        (cases_eq u t);
  }
