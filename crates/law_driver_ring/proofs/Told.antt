-- The inventory tells the structures of a transfer that was lent.
use Rattle.std.proofs.Common.{◌≡◌, ◌≢◌, ℕ, zero, suc, ◌*◌, ◌<◌, ◌⊎◌, Bool, List, [], ◌∷◌, ◌++◌, length, take, get_or, Some, option_map, ap, refl, sym, subst, ◌∙◌, ⊎_elim, inl, inr, arith}
use Rattle.mem_runs.specs.declared.slots.Slot.{Slot}
use Rattle.drv_table.specs.declared.content.QtdNote.{QtdNote}
use Rattle.drv_table.specs.declared.content.Stage.{Stage}
use Rattle.drv_table.specs.Words.{buffer_needs}
use Rattle.drv_table.specs.Harvests.{note_at}
use Rattle.drv_table.specs.Offers.{is_last}
use Rattle.word_mem.specs.Memory.{Mem}
use Rattle.claims_driver.specs.Owners.{EndpointRuns, TransferRuns, NoteRuns, Views, note_in, IsPieceOf}
use Rattle.law_structures.specs.lent_structures.Structures.{Structure, Structures, StructureSets}
use Rattle.law_structures.specs.lent_structures.Sound.{HasBuffer, buffer_name}
use Rattle.law_ring.specs.Together.{Item}
use Rattle.law_driver_ring.specs.Inventory.{sort_of, sorts_of, OfElement, IsLent, IsBufferTold, AreTold, IsTransferIn, IsDriverOwned, a_dummy, a_piece, a_buffer}
use Rattle.law_driver_ring.specs.Written.{AreRuns, next_blocks, buffer_blocks, last_block, AreNoted}
use Rattle.law_driver_ring.specs.Pieces.{stage_qtd, with_buffer, qtd_items, buffer_items, AreStanding, AreBuffered}
use Rattle.law_driver_ring.proofs.Lists.{IsOneOf, one_left, one_right}
use Rattle.law_driver_ring.proofs.Buffers.{take_same, first_run, name_at}
use Rattle.law_driver_ring.proofs.Lots.{IsItem}

-- ---- a qTD and its buffer are told

buffer_told : (slot w : ℕ → Slot) (part : Structures) (notes : List QtdNote) (s : Stage) (b dummy : ℕ) (last : Bool) (cs : List ℕ) → cs ≡ take (note_at notes b).runs (note_at notes b).buffer → AreRuns slot (buffer_needs s.long) cs → (0 < s.long → HasBuffer part (stage_qtd notes s b dummy last) s.long) → (length cs ≢ 0 → 0 < s.long) → IsBufferTold w (λ a. option_map sort_of (part a)) cs
buffer_told slot w part notes s b dummy last [] is are has some = tt
buffer_told slot w part notes s b dummy last (c ∷ cs) is are has some = λ lent.
    let note = note_at notes b in
    let h = has (some (λ none. cc)) in
    let first : get_or note.buffer 0 0 ≡ c = sym (take_same note.runs note.buffer 0 (subst (λ (ks : List ℕ). 0 < length ks) is (omega arith))) ∙ ap (λ (ks : List ℕ). get_or ks 0 0) (sym is) in
    let name : buffer_name (stage_qtd notes s b dummy last) ≡ 32 * c = name_at note.buffer ∙ ap (λ (k : ℕ). 32 * k) first in
    ap (λ (a : ℕ). option_map sort_of (part a)) (sym name) ∙ ap (option_map sort_of) h.here

-- a qTD without bytes has no runs
some_bytes : (slot : ℕ → Slot) (n : ℕ) (cs : List ℕ) → AreRuns slot (buffer_needs n) cs → length cs ≢ 0 → 0 < n
some_bytes slot zero [] are some = absurd (some refl)
some_bytes slot zero (c ∷ cs) are some = absurd are
some_bytes slot (suc n) cs are some = omega arith

pub pieces_told : (v w : Views) (parts : StructureSets) (k : ℕ) (notes : List QtdNote) (dummy : ℕ) (ss : List Stage) (b : ℕ) → ((c : ℕ) → w.note c ≡ note_in notes c) → AreNoted v.slot notes ss b → AreStanding (parts k) notes dummy ss b → AreBuffered (parts k) notes dummy ss b → AreTold w (sorts_of parts k) b (length ss)
pieces_told v w parts k notes dummy [] b same noted stand buffered = tt
pieces_told v w parts k notes dummy (s ∷ ss) b same noted stand buffered =
    let note = note_at notes b in
    let cs = take note.runs note.buffer in (
      record {
        element = λ lent. ap (option_map sort_of) stand.0;
        buffer = subst (λ (r : NoteRuns). IsBufferTold w.slot (sorts_of parts k) r.buffer) (sym (same b))
            (buffer_told v.slot w.slot (parts k) notes s b dummy (is_last ss) cs refl noted.0.runs buffered.0 (λ some. some_bytes v.slot s.long cs noted.0.runs some));
      },
      subst (λ (r : NoteRuns). AreTold w (sorts_of parts k) r.next (length ss)) (sym (same b)) (pieces_told v w parts k notes dummy ss note.next same noted.1 stand.1 buffered.1),
    )

-- the first qTD was told before, and its buffer is now
pub first_told : (v w : Views) (parts : StructureSets) (k : ℕ) (notes : List QtdNote) (dummy : ℕ) (s : Stage) (ss : List Stage) (b : ℕ) → ((c : ℕ) → w.note c ≡ note_in notes c) → AreNoted v.slot notes (s ∷ ss) b → sorts_of parts k (32 * b) ≡ Some OfElement → AreStanding (parts k) notes dummy ss (note_at notes b).next → AreBuffered (parts k) notes dummy (s ∷ ss) b → AreTold w (sorts_of parts k) b (suc (length ss))
first_told v w parts k notes dummy s ss b same noted first stand buffered =
    let note = note_at notes b in
    let cs = take note.runs note.buffer in (
      record {
        element = λ lent. first;
        buffer = subst (λ (r : NoteRuns). IsBufferTold w.slot (sorts_of parts k) r.buffer) (sym (same b))
            (buffer_told v.slot w.slot (parts k) notes s b dummy (is_last ss) cs refl noted.0.runs buffered.0 (λ some. some_bytes v.slot s.long cs noted.0.runs some));
      },
      subst (λ (r : NoteRuns). AreTold w (sorts_of parts k) r.next (length ss)) (sym (same b)) (pieces_told v w parts k notes dummy ss note.next same noted.1 stand buffered.1),
    )

-- ---- each is the driver's

qtd_owned : (w : Views) (t : ℕ) (y : TransferRuns) (x : EndpointRuns) (notes : List QtdNote) (dummy : ℕ) (ss : List Stage) (b a : ℕ) (u : Structure) → IsTransferIn w t y x → ((c : ℕ) → w.note c ≡ note_in notes c) → ((c : ℕ) → IsOneOf c (b ∷ next_blocks notes ss b) → IsLent (w.slot c)) → ((c : ℕ) → IsPieceOf w.note b (length ss) c → IsPieceOf w.note y.first y.qtds c) → last_block notes ss b ≡ x.dummy → IsItem (qtd_items notes dummy ss b) a u → IsDriverOwned w (32 * x.queue) a (sort_of u)
qtd_owned w t y x notes dummy [] b a u is same lent pieces ends (inl here) =
    subst (λ (i : ℕ). IsDriverOwned w (32 * x.queue) i (sort_of u)) (sym (here.0 ∙ ap (λ (c : ℕ). 32 * c) ends))
    (subst (λ (z : Structure). IsDriverOwned w (32 * x.queue) (32 * x.dummy) (sort_of z)) (sym here.1) (a_dummy y.endpoint x is.queue (subst (λ (c : ℕ). IsLent (w.slot c)) ends (lent b (inl refl)))))
qtd_owned w t y x notes dummy [] b a u is same lent pieces ends (inr none) = absurd none
qtd_owned w t y x notes dummy (s ∷ ss) b a u is same lent pieces ends (inl here) =
    subst (λ (i : ℕ). IsDriverOwned w (32 * x.queue) i (sort_of u)) (sym here.0)
    (subst (λ (z : Structure). IsDriverOwned w (32 * x.queue) (32 * b) (sort_of z)) (sym here.1) (a_piece t b y x is (pieces b (inl refl)) (lent b (inl refl))))
qtd_owned w t y x notes dummy (s ∷ ss) b a u is same lent pieces ends (inr there) =
    qtd_owned w t y x notes dummy ss (note_at notes b).next a u is same (λ c one. lent c (inr one))
    (λ c one. pieces c (inr (subst (λ (r : NoteRuns). IsPieceOf w.note r.next (length ss) c) (sym (same b)) one))) ends there

its_owned : (w : Views) (t : ℕ) (y : TransferRuns) (x : EndpointRuns) (slot : ℕ → Slot) (m : Mem) (notes : List QtdNote) (s : Stage) (b dummy : ℕ) (last : Bool) (n : ℕ) (is : List Item) (a : ℕ) (u : Structure) (cs : List ℕ) → IsTransferIn w t y x → ((c : ℕ) → w.note c ≡ note_in notes c) → cs ≡ take (note_at notes b).runs (note_at notes b).buffer → AreRuns slot (buffer_needs s.long) cs → s.long ≡ n → ((c : ℕ) → IsOneOf c cs → IsLent (w.slot c)) → IsPieceOf w.note y.first y.qtds b → (IsItem is a u → IsDriverOwned w (32 * x.queue) a (sort_of u)) → IsItem (with_buffer m (stage_qtd notes s b dummy last) n is) a u → IsDriverOwned w (32 * x.queue) a (sort_of u)
its_owned w t y x slot m notes s b dummy last zero is a u cs in_w same runs are long lent piece rest there = rest there
its_owned w t y x slot m notes s b dummy last (suc n) is a u [] in_w same runs are long lent piece rest (inl here) = absurd (omega (arith, first_run slot s.long [] are (omega (arith, long))))
its_owned w t y x slot m notes s b dummy last (suc n) is a u (c ∷ cs) in_w same runs are long lent piece rest (inl here) =
    let note = note_at notes b in
    let first : get_or note.buffer 0 0 ≡ c = sym (take_same note.runs note.buffer 0 (subst (λ (ks : List ℕ). 0 < length ks) runs (omega arith))) ∙ ap (λ (ks : List ℕ). get_or ks 0 0) (sym runs) in
    let name : buffer_name (stage_qtd notes s b dummy last) ≡ 32 * c = name_at note.buffer ∙ ap (λ (k : ℕ). 32 * k) first in
    subst (λ (i : ℕ). IsDriverOwned w (32 * x.queue) i (sort_of u)) (sym (here.0 ∙ name))
    (subst (λ (z : Structure). IsDriverOwned w (32 * x.queue) (32 * c) (sort_of z)) (sym here.1) (a_buffer t b c cs y x in_w piece (ap (λ (r : NoteRuns). r.buffer) (same b) ∙ sym runs) (lent c (inl refl))))
its_owned w t y x slot m notes s b dummy last (suc n) is a u cs in_w same runs are long lent piece rest (inr there) = rest there

buffer_owned : (w : Views) (t : ℕ) (y : TransferRuns) (x : EndpointRuns) (slot : ℕ → Slot) (m : Mem) (notes : List QtdNote) (dummy : ℕ) (ss : List Stage) (b a : ℕ) (u : Structure) → IsTransferIn w t y x → ((c : ℕ) → w.note c ≡ note_in notes c) → AreNoted slot notes ss b → ((c : ℕ) → IsOneOf c (buffer_blocks notes ss b) → IsLent (w.slot c)) → ((c : ℕ) → IsPieceOf w.note b (length ss) c → IsPieceOf w.note y.first y.qtds c) → IsItem (buffer_items m notes dummy ss b) a u → IsDriverOwned w (32 * x.queue) a (sort_of u)
buffer_owned w t y x slot m notes dummy [] b a u is same noted lent pieces there = absurd there
buffer_owned w t y x slot m notes dummy (s ∷ ss) b a u is same noted lent pieces there =
    let note = note_at notes b in
    let cs = take note.runs note.buffer in
    let rest = buffer_blocks notes ss note.next in
    its_owned w t y x slot m notes s b dummy (is_last ss) s.long (buffer_items m notes dummy ss note.next) a u cs is same refl noted.0.runs refl (λ c one. lent c (one_left c cs rest one)) (pieces b (inl refl))
    (λ more. buffer_owned w t y x slot m notes dummy ss note.next a u is same noted.1 (λ c one. lent c (one_right c cs rest one))
    (λ c one. pieces c (inr (subst (λ (r : NoteRuns). IsPieceOf w.note r.next (length ss) c) (sym (same b)) one))) more)
    there

pub item_owned : (w : Views) (t : ℕ) (y : TransferRuns) (x : EndpointRuns) (slot : ℕ → Slot) (m : Mem) (notes : List QtdNote) (dummy : ℕ) (s : Stage) (ss : List Stage) (a : ℕ) (u : Structure) → IsTransferIn w t y x → y.qtds ≡ suc (length ss) → ((c : ℕ) → w.note c ≡ note_in notes c) → AreNoted slot notes (s ∷ ss) y.first → ((c : ℕ) → IsOneOf c (next_blocks notes (s ∷ ss) y.first ++ buffer_blocks notes (s ∷ ss) y.first) → IsLent (w.slot c)) → last_block notes (s ∷ ss) y.first ≡ x.dummy
    → IsItem (qtd_items notes dummy ss (note_at notes y.first).next) a u ⊎ IsItem (buffer_items m notes dummy (s ∷ ss) y.first) a u → IsDriverOwned w (32 * x.queue) a (sort_of u)
item_owned w t y x slot m notes dummy s ss a u is many same noted lent ends there =
    let b = (note_at notes y.first).next in
    let qtds = next_blocks notes (s ∷ ss) y.first in
    let rest = buffer_blocks notes (s ∷ ss) y.first in
    let all : (c : ℕ) → IsPieceOf w.note y.first (suc (length ss)) c → IsPieceOf w.note y.first y.qtds c = λ c piece. subst (λ (n : ℕ). IsPieceOf w.note y.first n c) (sym many) piece in
    ⊎_elim
    (λ (qtd : IsItem (qtd_items notes dummy ss b) a u).
    qtd_owned w t y x notes dummy ss b a u is same (λ c one. lent c (one_left c qtds rest one))
    (λ c piece. all c (inr (subst (λ (r : NoteRuns). IsPieceOf w.note r.next (length ss) c) (sym (same y.first)) piece))) ends qtd)
    (λ (buffer : IsItem (buffer_items m notes dummy (s ∷ ss) y.first) a u). buffer_owned w t y x slot m notes dummy (s ∷ ss) y.first a u is same noted (λ c one. lent c (one_right c qtds rest one)) all buffer)
    there
