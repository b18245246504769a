-- All that was taken for a transfer is lent.
use Rattle.std.proofs.Common.{◌≡◌, ℕ, suc, ◌⊎◌, List, [], ◌∷◌, length, take, ap, refl, sym, subst, ◌∙◌, ⊎_elim, inl, inr}
use Rattle.std.specs.List.{AllByRecursion}
use Rattle.word_mem.specs.Memory.{Mem, IsShaped}
use Rattle.mem_runs.specs.declared.slots.Slot.{Slot}
use Rattle.mem_runs.specs.Book.{holding, slot_of, Stands}
use Rattle.drv_table.specs.declared.content.QtdNote.{QtdNote}
use Rattle.drv_table.specs.declared.content.Stage.{Stage}
use Rattle.drv_table.specs.DriverContent.{DriverContent}
use Rattle.drv_table.specs.Words.{buffer_needs}
use Rattle.drv_table.specs.Harvests.{note_at}
use Rattle.claims_driver.specs.Owners.{Owner, Element, Buffer, IsPlaced, ArePieces, EndpointRuns, TransferRuns, note_in, views_of}
use Rattle.claims_driver.specs.Leaving.{HasOwners}
use Rattle.law_driver.proofs.lemmas.ring_members.Freed.{lent_words}
use Rattle.law_driver_ring.specs.Inventory.{IsLent}
use Rattle.law_driver_ring.specs.Written.{IsPageRun, AreAllApart, next_blocks, buffer_blocks, last_block, AreNoted, AwaitsLend}
use Rattle.law_driver_ring.specs.TransferLaws.{lent_memory, lent_driver, items_of}
use Rattle.law_driver_ring.proofs.Lists.{IsOneOf, one_either, each_of}
use Rattle.law_driver_ring.proofs.Buffers.{KeepsAt, runs_keep}
use Rattle.law_driver_ring.proofs.TransferSlots.{taken_lent, others_stay}
use Rattle.law_driver_ring.proofs.Holding.{LendsRuns}
use Rattle.law_driver_ring.proofs.Lots.{Lot, items, all_runs, IsLot}
use Rattle.law_driver_ring.proofs.Chain.{lent_lots, items_are, runs_are, lots_are}
use Rattle.law_driver_ring.proofs.TransferOwning.{IsOwnedBy, as_element, as_dummy, as_buffer, IsLentOn}

-- ---- each run that was taken is kept

buffers_keep : (slot : ℕ → Slot) (notes : List QtdNote) (ss : List Stage) (b c : ℕ) → AreNoted slot notes ss b → IsOneOf c (buffer_blocks notes ss b) → KeepsAt slot c
buffers_keep slot notes [] b c noted one = absurd one
buffers_keep slot notes (s ∷ ss) b c noted one =
    let note = note_at notes b in
    let cs = take note.runs note.buffer in
    ⊎_elim (λ (mine : IsOneOf c cs). runs_keep slot (buffer_needs s.long) cs c noted.0.runs mine) (λ (rest : IsOneOf c (buffer_blocks notes ss note.next)). buffers_keep slot notes ss note.next c noted.1 rest)
    (one_either c cs (buffer_blocks notes ss note.next) one)

pub taken_keep : (d : DriverContent) (m : Mem) (t : ℕ) (y : TransferRuns) (x : EndpointRuns) (s : Stage) (ss : List Stage) (c : ℕ) → AwaitsLend d m t y x s ss → IsOneOf c d.book.taken → KeepsAt (slot_of d.book.slots) c
taken_keep d m t y x s ss c k one =
    let slot = slot_of d.book.slots in
    let qtds = next_blocks d.notes (s ∷ ss) y.first in
    let rest = buffer_blocks d.notes (s ∷ ss) y.first in
    ⊎_elim (λ (qtd : IsOneOf c qtds). let r = each_of (λ i. IsPageRun (slot i) 1) c qtds k.qtds_kept qtd in record { run = r.run; is = r.is })
    (λ (buffer : IsOneOf c rest). buffers_keep slot d.notes (s ∷ ss) y.first c k.noted buffer)
    (one_either c qtds rest (subst (IsOneOf c) k.taken one))

kept_no_lent : (s : Slot) (slot : ℕ → Slot) (c : ℕ) → KeepsAt slot c → IsLent (slot c) → ⊥
kept_no_lent s slot c k lent = subst IsLent k.is lent

-- ---- whose they are

-- each qTD but the last is the transfer's
qtd_owner : (slot : ℕ → Slot) (owner : ℕ → Owner) (notes : List QtdNote) (t : ℕ) (s : Stage) (ss : List Stage) (b c : ℕ) → ArePieces slot owner (note_in notes) t b (suc (length ss)) → IsOneOf c (next_blocks notes (s ∷ ss) b) → (owner c ≡ Element t) ⊎ (c ≡ last_block notes (s ∷ ss) b)
qtd_owner slot owner notes t s [] b c pieces (inl is) = inr is
qtd_owner slot owner notes t s [] b c pieces (inr none) = absurd none
qtd_owner slot owner notes t s (r ∷ ss) b c pieces (inl is) = inl (ap owner is ∙ pieces.1.0.element.owned)
qtd_owner slot owner notes t s (r ∷ ss) b c pieces (inr there) = qtd_owner slot owner notes t r ss (note_at notes b).next c pieces.1 there

buffer_owner : (slot : ℕ → Slot) (owner : ℕ → Owner) (notes : List QtdNote) (t : ℕ) (ss : List Stage) (b c : ℕ) → ArePieces slot owner (note_in notes) t b (length ss) → IsOneOf c (buffer_blocks notes ss b) → owner c ≡ Buffer t
buffer_owner slot owner notes t [] b c pieces one = absurd one
buffer_owner slot owner notes t (s ∷ ss) b c pieces one =
    let note = note_at notes b in
    let cs = take note.runs note.buffer in
    ⊎_elim (λ (mine : IsOneOf c cs). (each_of (λ i. IsPlaced slot owner i (Buffer t)) c cs pieces.0.buffers mine).owned)
    (λ (rest : IsOneOf c (buffer_blocks notes ss note.next)). buffer_owner slot owner notes t ss note.next c pieces.1 rest)
    (one_either c cs (buffer_blocks notes ss note.next) one)

pub taken_owner : (d : DriverContent) (m : Mem) (t : ℕ) (y : TransferRuns) (x : EndpointRuns) (s : Stage) (ss : List Stage) (c : ℕ) → AwaitsLend d m t y x s ss → (has : HasOwners d) → IsOneOf c d.book.taken → IsOwnedBy has.owner t y.endpoint c
taken_owner d m t y x s ss c k has one =
    let slot = slot_of d.book.slots in
    let qtds = next_blocks d.notes (s ∷ ss) y.first in
    let rest = buffer_blocks d.notes (s ∷ ss) y.first in
    let pieces : ArePieces slot has.owner (note_in d.notes) t y.first (suc (length ss)) = subst (ArePieces slot has.owner (note_in d.notes) t y.first) k.qtds (has.owned.each.pieces t y k.here.here k.here.held) in
    let end = has.owned.each.dummy y.endpoint x k.here.queue.here k.here.queue.queued in
    ⊎_elim
    (λ (qtd : IsOneOf c qtds).
    ⊎_elim (λ (is : has.owner c ≡ Element t). as_element is) (λ (last : c ≡ last_block d.notes (s ∷ ss) y.first). as_dummy (ap has.owner (last ∙ k.ends) ∙ end.owned))
    (qtd_owner slot has.owner d.notes t s ss y.first c pieces qtd))
    (λ (buffer : IsOneOf c rest). as_buffer (buffer_owner slot has.owner d.notes t (s ∷ ss) y.first c pieces buffer))
    (one_either c qtds rest (subst (IsOneOf c) k.taken one))

-- ---- views after the lend

pub lent_on_views : (d : DriverContent) (m : Mem) (t : ℕ) (y : TransferRuns) (x : EndpointRuns) (s : Stage) (ss : List Stage) → AwaitsLend d m t y x s ss → (has : HasOwners d) → Stands (holding d.book m) → IsShaped m → IsLentOn (views_of d) (views_of (lent_driver d m)) has.owner t y x d.book.taken
lent_on_views d m t y x s ss k has stands shape =
    let h = holding d.book m in
    record {
      owned = has.owned.each;
      here = k.here;
      kept = λ c one lent. kept_no_lent (slot_of d.book.slots c) (slot_of d.book.slots) c (taken_keep d m t y x s ss c k one) lent;
      lent = λ c one. let r = taken_keep d m t y x s ss c k one in subst IsLent (sym (taken_lent h c r.run stands shape one r.is).slot) tt;
      others = λ c none. others_stay h c none;
      owners = λ c one. taken_owner d m t y x s ss c k has one;
      endpoints = λ i. refl;
      transfers = λ i. refl;
      notes = λ b. refl;
    }

-- ---- the lots

pub lots_of : DriverContent → Mem → TransferRuns → EndpointRuns → Stage → List Stage → List Lot
lots_of d m y x s ss = lent_lots (lent_memory d m) d.notes x.dummy s ss y.first

pub record AreLots (d : DriverContent) (m : Mem) (y : TransferRuns) (x : EndpointRuns) (s : Stage) (ss : List Stage) (ls : List Lot) : Type 0 where
  pub items : items ls ≡ items_of d m y x s ss
  pub runs : all_runs ls ≡ d.book.taken
  pub each : AllByRecursion (IsLot (slot_of d.book.slots) (lent_memory d m)) ls

pub lots_there : (d : DriverContent) (m : Mem) (t : ℕ) (y : TransferRuns) (x : EndpointRuns) (s : Stage) (ss : List Stage) → AwaitsLend d m t y x s ss → Stands (holding d.book m) → IsShaped m → AreLots d m y x s ss (lots_of d m y x s ss)
unfolding lots_of
lots_there d m t y x s ss k stands shape =
    let h = holding d.book m in
    let slot = slot_of d.book.slots in
    let after = lent_memory d m in
    let lends : LendsRuns slot d.book.taken after = λ c r one is. (taken_lent h c r stands shape one is).blocks in
    record {
      items = items_are after d.notes x.dummy s ss y.first;
      runs = runs_are slot after d.notes x.dummy s ss y.first k.noted ∙ sym k.taken;
      each = lots_are h after d.notes x.dummy s ss y.first (record { stands = stands; shape = shape; words = lent_words h }) (subst (λ (cs : List ℕ). LendsRuns slot cs after) k.taken lends)
          (subst AreAllApart k.taken k.apart) k.qtds_kept k.noted k.short k.pids k.words;
    }
