-- Each of the structures joins those that are told.
use Rattle.std.proofs.Common.{◌≡◌, ◌≢◌, ℕ, List, [], ◌∷◌, Some, ap, refl, sym, subst, ◌∙◌, ⊎_elim}
use Rattle.std.specs.List.{AllByRecursion}
use Rattle.std.proofs.lemmas.Bool.{cases_eq}
use Rattle.word_mem.specs.Memory.{Mem}
use Rattle.law_structures.specs.lent_structures.Structures.{Structure, Structures, StructureSets, Has, Tells}
use Rattle.law_structures.specs.lent_structures.Changes.{Leaves}
use Rattle.law_structures.proofs.lemmas.lent_structures.Names.{put_else, put_beside, put_found}
use Rattle.law_structures.proofs.lemmas.lent_structures.Telling.{told_lent, rest_is_told, another_is_told}
use Rattle.law_structures.specs.lent_structures.Sound.{IsMember}
use Rattle.law_ring.proofs.Driving.{other_parts_leave_ring}
use Rattle.law_ring.specs.Together.{Item, put_all, ShareNoBlock, AreNew, LendsLeaveRing}

-- ---- other names

pub all_beside : (parts : StructureSets) (n : ℕ) (is : List Item) (k : ℕ) → k ≢ n → put_all parts n is k ≡ parts k
all_beside parts n [] k differs = refl
all_beside parts n (i ∷ is) k differs = put_beside (put_all parts n is) n i.name i.structure k differs ∙ all_beside parts n is k differs

pub all_else : (parts : StructureSets) (n : ℕ) (is : List Item) (b : ℕ) → AllByRecursion (λ i. i.name ≢ b) is → put_all parts n is n b ≡ parts n b
all_else parts n [] b differ = refl
all_else parts n (i ∷ is) b differ = put_else (put_all parts n is) n i.name i.structure b (λ same. differ.0 (sym same)) ∙ all_else parts n is b differ.1

-- ---- memory is told

-- what is told already shares no block with one more
apart_all : (parts : StructureSets) (n : ℕ) (i : Item) (is : List Item) (b k c : ℕ) (u : Structure) → AllByRecursion (ShareNoBlock i) is → (parts k c ≡ Some u → ⊥) → Has i.name i.structure b → Has c u b → put_all parts n is k c ≡ Some u → ⊥
apart_all parts n i [] b k c u apart old has also found = old found
apart_all parts n i (j ∷ js) b k c u apart old has also found =
    ⊎_elim (λ (new : (k ≡ n) × (c ≡ j.name) × (u ≡ j.structure)). apart.0 b has (subst (λ (a : ℕ). Has a j.structure b) new.1 (subst (λ (s : Structure). Has c s b) new.2 also)))
    (λ (before : put_all parts n js k c ≡ Some u). apart_all parts n i js b k c u apart.1 old has also before)
    (put_found (put_all parts n js) n j.name j.structure k c u found)

told_all : (m after : Mem) (parts : StructureSets) (n : ℕ) (is : List Item) → Tells m parts → Leaves m after → AreNew m after is → Tells after (put_all parts n is)
told_all m after parts n [] told left new = rest_is_told m after parts left told
told_all m after parts n (i ∷ is) told left (one, apart, rest) =
    another_is_told after (put_all parts n is) n i.name i.structure (told_all m after parts n is told left rest) one.holds
    (λ b k c u has found also. apart_all parts n i is b k c u apart (λ old. one.fresh b has (told_lent m parts k c u b told old also)) has also found)

-- ---- the ring

pub lends_leave_ring : LendsLeaveRing
lends_leave_ring base member parts hand p n is after ring left new beside owes =
    other_parts_leave_ring base member parts (put_all parts n is) hand p after ring (told_all p.memory after parts n is ring.tells left new)
    (λ k on.
    ⊎_elim (λ (same : k ≡ n). subst (λ (j : ℕ). IsMember member j (put_all parts n is j)) (sym same) (owes (ap member (sym same) ∙ on)))
    (λ (differs : k ≢ n). subst (IsMember member k) (sym (all_beside parts n is k differs)) (ring.members k on)) (cases_eq k n))
    (λ k q here.
    ⊎_elim (λ (same : k ≡ n). ap (λ (j : ℕ). put_all parts n is j j) same ∙ all_else parts n is n beside ∙ sym (ap (λ (j : ℕ). parts j j) same) ∙ here)
    (λ (differs : k ≢ n). ap (λ (part : Structures). part k) (all_beside parts n is k differs) ∙ here) (cases_eq k n))
