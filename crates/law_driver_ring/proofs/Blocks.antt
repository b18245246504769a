-- The blocks of a transfer, and whose they are.
use Rattle.std.proofs.Common.{◌≡◌, ◌≢◌, ℕ, zero, suc, ◌*◌, ◌==◌, ◌||◌, Bool, true, false, List, [], ◌∷◌, ap, refl, sym, subst, ◌∙◌, inl, inr, arith}
use Rattle.std.specs.List.{AllByRecursion}
use Rattle.std.proofs.lemmas.Bool.{true≢false, eq-eqb}
use Rattle.law_common.proofs.Booleans.{right_or}
use Rattle.law_common.proofs.Numbers.{same_number, other_number}
use Rattle.law_driver_ring.proofs.Common.{runs_joined, one_left, one_right}
use Rattle.law_common.proofs.Lists.{all_joined}
use Rattle.mem_runs.specs.Book.{Holding, release_run}
use Rattle.mem_runs.specs.declared.slots.Slot.{Slot}
use Rattle.drv_table.specs.declared.content.QtdNote.{QtdNote}
use Rattle.drv_table.specs.Harvests.{note_at}
use Rattle.drv_table.specs.Releases.{free_runs, free_qtd, free_qtds}
use Rattle.claims_driver.specs.Owners.{Owner, Element, Buffer, IsPlaced, ArePieces, NoteRuns, note_in, IsPieceOf, IsOneOf}
use Rattle.law_driver_ring.specs.Released.{blocks_of, names_one}

-- ---- lists of blocks

pub all_one : (P : ℕ → Type 0) (cs : List ℕ) (c : ℕ) → AllByRecursion P cs → IsOneOf c cs → P c
all_one P [] c all among = absurd among
all_one P (d ∷ ds) c all (inl same) = subst P (sym same) all.0
all_one P (d ∷ ds) c all (inr among) = all_one P ds c all.1 among

all_still : (P Q : ℕ → Type 0) (cs : List ℕ) → ((c : ℕ) → P c → Q c) → AllByRecursion P cs → AllByRecursion Q cs
all_still P Q [] each all = tt
all_still P Q (c ∷ cs) each all = (each c all.0, all_still P Q cs each all.1)

-- ---- names

pub is_named : (cs : List ℕ) (c : ℕ) → IsOneOf c cs → names_one cs (32 * c) ≡ true
is_named [] c among = absurd among
is_named (d ∷ ds) c (inl same) = ap (λ (b : Bool). b || names_one ds (32 * c)) (eq-eqb (32 * c) (32 * d) (ap (λ (i : ℕ). 32 * i) same))
is_named (d ∷ ds) c (inr among) = right_or (32 * c == 32 * d) (names_one ds (32 * c)) (is_named ds c among)

pub is_not_named : (cs : List ℕ) (c : ℕ) → AllByRecursion (λ b. c ≢ b) cs → names_one cs (32 * c) ≡ false
is_not_named [] c differ = refl
is_not_named (d ∷ ds) c differ =
    ap (λ (b : Bool). b || names_one ds (32 * c)) (other_number (32 * c) (32 * d) (λ same. differ.0 (let e : c ≡ d = omega (arith, same) in e))) ∙ is_not_named ds c differ.1

-- ---- whose they are

abbrev pub mine : ℕ → Owner → Bool
mine t (Element u) = u == t
mine t (Buffer u) = u == t
mine t _ = false

pub all_mine : (slot : ℕ → Slot) (owner : ℕ → Owner) (note : ℕ → NoteRuns) (t b n : ℕ) → ArePieces slot owner note t b n → AllByRecursion (λ c. mine t (owner c) ≡ true) (blocks_of note b n)
all_mine slot owner note t b zero pieces = tt
all_mine slot owner note t b (suc n) pieces = (
  ap (mine t) pieces.0.element.owned ∙ same_number t,
  all_joined (λ c. mine t (owner c) ≡ true) (note b).buffer (blocks_of note (note b).next n)
      (all_still (λ c. IsPlaced slot owner c (Buffer t)) (λ c. mine t (owner c) ≡ true) (note b).buffer (λ c is. ap (mine t) is.owned ∙ same_number t) pieces.0.buffers)
      (all_mine slot owner note t (note b).next n pieces.1),
)

-- a block of another owner is none of them
pub none_mine : (owner : ℕ → Owner) (t c : ℕ) (cs : List ℕ) → mine t (owner c) ≡ false → AllByRecursion (λ b. mine t (owner b) ≡ true) cs → AllByRecursion (λ b. c ≢ b) cs
none_mine owner t c cs off all = all_still (λ b. mine t (owner b) ≡ true) (λ b. c ≢ b) cs (λ b on same. true≢false (sym on ∙ ap (λ (i : ℕ). mine t (owner i)) (sym same) ∙ off)) all

first_among : (c : ℕ) (cs ds : List ℕ) → ds ≡ c ∷ cs → IsOneOf c ds
first_among c cs ds is = subst (IsOneOf c) (sym is) (inl refl)

pub buffer_among : (note : ℕ → NoteRuns) (b n d c : ℕ) (cs : List ℕ) → IsPieceOf note b n d → (note d).buffer ≡ c ∷ cs → IsOneOf c (blocks_of note b n)
buffer_among note b zero d c cs is first = absurd is
buffer_among note b (suc n) d c cs (inl same) first =
    inr (one_left c (note b).buffer (blocks_of note (note b).next n) (first_among c cs (note b).buffer (ap (λ (i : ℕ). (note i).buffer) (sym same) ∙ first)))
buffer_among note b (suc n) d c cs (inr is) first =
    inr (one_right c (note b).buffer (blocks_of note (note b).next n) (buffer_among note (note b).next n d c cs is first))

-- the first run of a buffer of another transfer
pub placed_buffer : (slot : ℕ → Slot) (owner : ℕ → Owner) (note : ℕ → NoteRuns) (t b n d : ℕ) → ArePieces slot owner note t b n → IsPieceOf note b n d → IsPlaced slot owner d (Element t) × AllByRecursion (λ c. IsPlaced slot owner c (Buffer t)) (note d).buffer
placed_buffer slot owner note t b zero d pieces is = absurd is
placed_buffer slot owner note t b (suc n) d pieces (inl same) =
    subst (λ (i : ℕ). IsPlaced slot owner i (Element t) × AllByRecursion (λ c. IsPlaced slot owner c (Buffer t)) (note i).buffer) (sym same) (pieces.0.element, pieces.0.buffers)
placed_buffer slot owner note t b (suc n) d pieces (inr is) = placed_buffer slot owner note t (note b).next n d pieces.1 is

-- ---- all runs of a transfer are given back

pub qtds_are_runs : (notes : List QtdNote) (h : Holding) (b n : ℕ) → free_qtds notes h b n ≡ free_runs h (blocks_of (note_in notes) b n)
unfolding free_qtds
qtds_are_runs notes h b zero = refl
qtds_are_runs notes h b (suc n) =
    qtds_are_runs notes (free_qtd h b (note_at notes b)) (note_at notes b).next n
    ∙ sym (runs_joined (release_run h b) (note_in notes b).buffer (blocks_of (note_in notes) (note_at notes b).next n))
