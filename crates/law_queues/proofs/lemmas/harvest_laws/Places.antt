-- Places along the qTDs of a transfer, and notes of some of them.
use Rattle.std.proofs.Common.{◌≡◌, ◌≢◌, ℕ, zero, suc, ◌+◌, ◌*◌, ◌≤◌, ◌<◌, List, [], ◌∷◌, ◌++◌, ap, refl, sym, subst, ◌∙◌, ⊎_elim, inl, inr, arith}
use Rattle.std.proofs.lemmas.Bool.{cases_eq}
use Rattle.law_controller.proofs.Common.{lower_one}
use Rattle.law_queues.proofs.Common.{among_left}
use Rattle.mem_runs.specs.declared.slots.Slot.{Slot}
use Rattle.law_structures.specs.lent_structures.Structures.{Structures}
use Rattle.drv_table.specs.declared.content.QtdNote.{QtdNote}
use Rattle.drv_table.specs.Harvests.{note_at}
use Rattle.claims_driver.specs.Owners.{Owner, Element, ArePieces, note_in, runs_of_note}
use Rattle.law_ring.specs.Order.{IsSorted, IsAmong}
use Rattle.law_driver.specs.chained_transfers.Chains.{piece_at}
use Rattle.law_driver.specs.chained_transfers.Out.{pieces_from}
use Rattle.law_driver_ring.specs.told_harvests.Held.{AreUnmoved, told_of, IsOneFrom, IsRead, AreRead, NotesMoved}
use Rattle.law_driver_ring.proofs.lemmas.told_harvests.Holding.{next_same}

-- ---- one of some qTDs

pub one_sooner : (note : ℕ → QtdNote) (b i j c : ℕ) → i ≤ j → IsOneFrom note b i c → IsOneFrom note b j c
one_sooner note b zero j c less k = absurd k
one_sooner note b (suc i) zero c less k = absurd (omega (arith, less))
one_sooner note b (suc i) (suc j) c less (inl is) = inl is
one_sooner note b (suc i) (suc j) c less (inr k) = inr (one_sooner note (note b).next i j c (omega (arith, less)) k)

pub one_later : (notes : List QtdNote) (b i j n c : ℕ) → n ≡ i + j → IsOneFrom (note_at notes) (piece_at (note_in notes) b i) j c → IsOneFrom (note_at notes) b n c
one_later notes b zero j n c is k = subst (λ (u : ℕ). IsOneFrom (note_at notes) b u c) (let e : j ≡ n = omega (arith, is) in e) k
one_later notes b (suc i) j zero c is k = absurd (omega (arith, is))
one_later notes b (suc i) j (suc n) c is k = inr (one_later notes (note_at notes b).next i j n c (omega (arith, is)) k)

-- its owner is the transfer's
pub owner_is : (slot : ℕ → Slot) (owner : ℕ → Owner) (notes : List QtdNote) (t b n c : ℕ) → ArePieces slot owner (note_in notes) t b n → IsOneFrom (note_at notes) b n c → owner c ≡ Element t
owner_is slot owner notes t b zero c k one = absurd one
owner_is slot owner notes t b (suc n) c k (inl is) = ap owner is ∙ k.0.element.owned
owner_is slot owner notes t b (suc n) c k (inr one) = owner_is slot owner notes t (note_at notes b).next n c k.1 one

-- it is among their addresses
pub among_pieces : (notes : List QtdNote) (b i c : ℕ) → IsOneFrom (note_at notes) b i c → IsAmong (32 * c) (pieces_from (note_in notes) b i)
among_pieces notes b zero c k = k
among_pieces notes b (suc i) c (inl is) = inl (ap (λ (j : ℕ). 32 * j) is)
among_pieces notes b (suc i) c (inr k) = inr (among_pieces notes (note_at notes b).next i c k)

sorted_from : (order : ℕ → ℕ) (xs ys : List ℕ) → IsSorted order (xs ++ ys) → IsSorted order ys
sorted_from order [] ys k = k
sorted_from order (x ∷ xs) ys k = sorted_from order xs ys k.1

-- where qTDs are sorted none stands twice
pub not_again : (order : ℕ → ℕ) (passed rest : List ℕ) (notes : List QtdNote) (c b i : ℕ) → IsSorted order (passed ++ 32 * c ∷ (pieces_from (note_in notes) b i ++ rest)) → IsOneFrom (note_at notes) b i c → ⊥
not_again order passed rest notes c b i sorted one =
    let less = lower_one order (32 * c) (32 * c) (pieces_from (note_in notes) b i ++ rest)
    (sorted_from order passed (32 * c ∷ (pieces_from (note_in notes) b i ++ rest)) sorted).0
    (among_left (32 * c) (pieces_from (note_in notes) b i) rest (among_pieces notes b i c one)) in
    omega (arith, less)

-- ---- notes of other blocks

pub unmoved_noted : (note now : ℕ → QtdNote) (b i : ℕ) → ((a : ℕ) → IsOneFrom note b i a → now a ≡ note a) → AreUnmoved note b i → AreUnmoved now b i
unmoved_noted note now b zero same k = tt
unmoved_noted note now b (suc i) same k =
    let here : now b ≡ note b = same b (inl refl) in (
      ap (λ (z : QtdNote). z.moved) here ∙ k.0,
      subst (λ (a : ℕ). AreUnmoved now a i) (ap (λ (z : QtdNote). z.next) (sym here)) (unmoved_noted note now (note b).next i (λ a one. same a (inr one)) k.1),
    )

-- ---- notes of bytes moved

told_same : (note now : ℕ → QtdNote) (c k : ℕ) → NotesMoved note now c k → (b : ℕ) → (now b).told ≡ (note b).told
told_same note now c k noted b =
    ⊎_elim (λ (is : b ≡ c). ap (λ (i : ℕ). (now i).told) is ∙ ap (λ (z : QtdNote). z.told) noted.here ∙ ap (λ (i : ℕ). (note i).told) (sym is))
    (λ (differs : b ≢ c). ap (λ (z : QtdNote). z.told) (noted.beside b differs)) (cases_eq b c)

pub told_noted : (note now : ℕ → QtdNote) (c k : ℕ) → NotesMoved note now c k → (b i : ℕ) → told_of now b i ≡ told_of note b i
told_noted note now c k noted b zero = refl
told_noted note now c k noted b (suc i) =
    let one : (now b).told ≡ (note b).told = told_same note now c k noted b in
    let rest : told_of now (now b).next i ≡ told_of note (note b).next i = ap (λ (a : ℕ). told_of now a i) (next_same note now c k noted b) ∙ told_noted note now c k noted (note b).next i in
    omega (arith, one, rest)

-- their blocks stay
pub runs_noted : (notes now : List QtdNote) (c k : ℕ) → NotesMoved (note_at notes) (note_at now) c k → (b : ℕ) → note_in now b ≡ note_in notes b
runs_noted notes now c k moved b =
    ⊎_elim (λ (is : b ≡ c). ap (λ (i : ℕ). runs_of_note (note_at now i)) is ∙ ap runs_of_note moved.here ∙ ap (λ (i : ℕ). runs_of_note (note_at notes i)) (sym is))
    (λ (differs : b ≢ c). ap runs_of_note (moved.beside b differs)) (cases_eq b c)

is_read_still : (part : Structures) (note now : ℕ → QtdNote) (c k : ℕ) → NotesMoved note now c k → (b : ℕ) → IsRead part (note b) b → IsRead part (now b) b
is_read_still part note now c k noted b r =
    ⊎_elim (λ (is : b ≡ c).
    subst (λ (z : QtdNote). IsRead part z b) (ap (λ (i : ℕ). record (note i) { moved = k }) is ∙ sym noted.here ∙ ap now (sym is))
    (record { qtd = r.qtd; here = r.here; long = r.long; buffer = r.buffer; places = r.places }))
    (λ (differs : b ≢ c). subst (λ (z : QtdNote). IsRead part z b) (sym (noted.beside b differs)) r) (cases_eq b c)

pub read_noted : (part : Structures) (note now : ℕ → QtdNote) (c k : ℕ) → NotesMoved note now c k → (b i : ℕ) → AreRead part note b i → AreRead part now b i
read_noted part note now c k noted b zero r = tt
read_noted part note now c k noted b (suc i) r = (
  is_read_still part note now c k noted b r.0,
  subst (λ (a : ℕ). AreRead part now a i) (sym (next_same note now c k noted b)) (read_noted part note now c k noted (note b).next i r.1),
)

pub read_fewer : (part : Structures) (note : ℕ → QtdNote) (b i j : ℕ) → i ≤ j → AreRead part note b j → AreRead part note b i
read_fewer part note b zero j less r = tt
read_fewer part note b (suc i) zero less r = absurd (omega (arith, less))
read_fewer part note b (suc i) (suc j) less r = (r.0, read_fewer part note (note b).next i j (omega (arith, less)) r.1)

pub read_at : (part : Structures) (notes : List QtdNote) (b i j : ℕ) → i < j → AreRead part (note_at notes) b j → IsRead part (note_at notes (piece_at (note_in notes) b i)) (piece_at (note_in notes) b i)
read_at part notes b zero zero less r = absurd (omega (arith, less))
read_at part notes b zero (suc j) less r = r.0
read_at part notes b (suc i) zero less r = absurd (omega (arith, less))
read_at part notes b (suc i) (suc j) less r = read_at part notes (note_at notes b).next i j (omega (arith, less)) r.1
