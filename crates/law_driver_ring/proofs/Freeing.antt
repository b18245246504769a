-- Runs are given back one after the other: what memory has besides is told as before.
use Rattle.std.proofs.Common.{◌≡◌, ◌≢◌, ℕ, ◌⊎◌, List, [], ◌∷◌, set, Some, ap, refl, sym, ◌∙◌, ⊎_elim, inl, inr}
use Rattle.std.proofs.lemmas.Bool.{cases_eq}
use Rattle.std.proofs.lemmas.List.{get_or-set_same, get_or-set_other}
use Rattle.word_mem.specs.Runs.{Run, HasBlock}
use Rattle.mem_runs.specs.Book.{Holding, slot_of, slot_at, release_slot, release_run, Stands}
use Rattle.mem_runs.specs.declared.slots.Slot.{Slot}
use Rattle.mem_runs.specs.declared.slots.Slot.TheVariants.{Empty, Keeps, Lends}
use Rattle.mem_runs.proofs.Standing.{lends_within, stands_released, within_lent}
use Rattle.drv_table.specs.Releases.{free_runs}
use Rattle.law_structures.specs.lent_structures.Structures.{Structure, StructureSets, Has, Tells}
use Rattle.law_ring.proofs.Returning.{freed_is_told}
use Rattle.claims_driver.specs.Owners.{IsOneOf}

-- ---- slots

-- a slot stays, or has nothing any more
abbrev pub IsLess : Slot → Slot → Type 0
IsLess now s = (now ≡ s) ⊎ (now ≡ Empty)

slot_less : (h : Holding) (b c : ℕ) (s : Slot) → slot_at h b ≡ s → IsLess (slot_of (release_slot h b s).book.slots c) (slot_of h.book.slots c)
slot_less h b c Empty is = inl refl
slot_less h b c (Keeps r) is = inl refl
slot_less h b c (Lends r) is =
    ⊎_elim (λ (same : c ≡ b). inr (ap (slot_of (set h.book.slots b Empty)) same ∙ get_or-set_same h.book.slots b Empty Empty (lends_within h.book.slots b r is)))
    (λ (differs : c ≢ b). inl (get_or-set_other h.book.slots b c Empty Empty differs)) (cases_eq c b)

empty_less : (now s t : Slot) → IsLess now s → IsLess s t → IsLess now t
empty_less now s t (inl one) (inl other) = inl (one ∙ other)
empty_less now s t (inl one) (inr other) = inr (one ∙ other)
empty_less now s t (inr one) other = inr one

pub runs_less : (h : Holding) (bs : List ℕ) (c : ℕ) → IsLess (slot_of (free_runs h bs).book.slots c) (slot_of h.book.slots c)
runs_less h [] c = inl refl
runs_less h (b ∷ bs) c =
    empty_less (slot_of (free_runs (release_run h b) bs).book.slots c) (slot_of (release_run h b).book.slots c) (slot_of h.book.slots c) (runs_less (release_run h b) bs c)
    (slot_less h b c (slot_at h b) refl)

-- ---- memory

-- no structure that is told has a block of a run that begins in one of these blocks
abbrev pub HaveNone : Holding → StructureSets → List ℕ → Type 0
HaveNone h parts bs = (c : ℕ) (r : Run) → IsOneOf c bs → slot_of h.book.slots c ≡ Lends r → (n a : ℕ) (u : Structure) (k : ℕ) → parts n a ≡ Some u → Has a u k → HasBlock r k → ⊥

lends_same : (s : Slot) (t : Slot) (r : Run) → IsLess t s → t ≡ Lends r → s ≡ Lends r
lends_same s t r (inl same) is = sym same ∙ is
lends_same s t r (inr empty) is = absurd (let e : Empty ≡ Lends r = sym empty ∙ is in cc)

none_after : (h : Holding) (parts : StructureSets) (b : ℕ) (bs : List ℕ) → HaveNone h parts (b ∷ bs) → HaveNone (release_run h b) parts bs
none_after h parts b bs none c r among is =
    none c r (inr among) (lends_same (slot_of h.book.slots c) (slot_of (release_run h b).book.slots c) r (slot_less h b c (slot_at h b) refl) is)

pub record StandsTold (h : Holding) (parts : StructureSets) : Type 0 where
  pub stands : Stands h
  pub told : Tells h.memory parts

one_told : (h : Holding) (parts : StructureSets) (b : ℕ) (s : Slot) → slot_at h b ≡ s → ((r : Run) → s ≡ Lends r → (n a : ℕ) (u : Structure) (k : ℕ) → parts n a ≡ Some u → Has a u k → HasBlock r k → ⊥) → StandsTold h parts → StandsTold (release_slot h b s) parts
one_told h parts b Empty is none k = k
one_told h parts b (Keeps r) is none k = k
one_told h parts b (Lends r) is none k = record {
  stands = stands_released h b r k.told.shape k.stands is;
  told = freed_is_told h.memory parts r k.told (within_lent h b r k.stands is) (none r refl);
}

pub all_told : (h : Holding) (parts : StructureSets) (bs : List ℕ) → HaveNone h parts bs → StandsTold h parts → StandsTold (free_runs h bs) parts
all_told h parts [] none k = k
all_told h parts (b ∷ bs) none k =
    all_told (release_run h b) parts bs (none_after h parts b bs none) (one_told h parts b (slot_at h b) refl (λ r is. none b r (inl refl) is) k)
