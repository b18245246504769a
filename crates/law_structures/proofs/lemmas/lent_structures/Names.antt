-- What a part has at a name once a structure is put there, or taken away.
use Rattle.std.proofs.Common.{◌≡◌, ◌≢◌, ℕ, ◌⊎◌, Bool, true, false, ◌==◌, Option, Some, None, if◌then◌else◌, ap, refl, sym, ◌∙◌, ⊎_elim, inl, inr}
use Rattle.std.proofs.lemmas.Bool.{eq-eqb, eqb-true, cases_eq}
use Rattle.std.proofs.lemmas.Option.{same_Some}
use Rattle.law_common.proofs.Numbers.{other_number}
use Rattle.law_structures.specs.lent_structures.Structures.{Structure, Structures, StructureSets, with_structure, put, without_structure, without}

-- ---- two names

differ_test : (x : Bool) (a b : ℕ) → a ≢ b → (a == b) ≡ x → x ≡ false
differ_test false a b differs is = refl
differ_test true a b differs is = absurd (differs (eqb-true a b is))

-- structures that differ have names that differ
pub names_differ : (part : Structures) (a b : ℕ) (s t : Structure) → part a ≡ Some s → part b ≡ Some t → s ≢ t → a ≢ b
names_differ part a b s t one other differs same = differs (same_Some s t (sym one ∙ ap part same ∙ other))

-- ---- a part

pub with_here : (part : Structures) (a : ℕ) (s : Structure) → with_structure part a s a ≡ Some s
with_here part a s = ap (λ (x : Bool). if x then Some s else part a) (eq-eqb a a refl)

pub with_there : (part : Structures) (a : ℕ) (s : Structure) (b : ℕ) → b ≢ a → with_structure part a s b ≡ part b
with_there part a s b differs = ap (λ (x : Bool). if x then Some s else part b) (other_number b a differs)

-- ---- the parts of all owners

pub put_here : (parts : StructureSets) (n a : ℕ) (s : Structure) → put parts n a s n ≡ with_structure (parts n) a s
put_here parts n a s = ap (λ (x : Bool). if x then with_structure (parts n) a s else parts n) (eq-eqb n n refl)

pub put_beside : (parts : StructureSets) (n a : ℕ) (s : Structure) (k : ℕ) → k ≢ n → put parts n a s k ≡ parts k
put_beside parts n a s k differs = ap (λ (x : Bool). if x then with_structure (parts n) a s else parts k) (other_number k n differs)

-- the structure put, and every other one
pub put_same : (parts : StructureSets) (n a : ℕ) (s : Structure) → put parts n a s n a ≡ Some s
put_same parts n a s = ap (λ (part : Structures). part a) (put_here parts n a s) ∙ with_here (parts n) a s

pub put_else : (parts : StructureSets) (n a : ℕ) (s : Structure) (b : ℕ) → b ≢ a → put parts n a s n b ≡ parts n b
put_else parts n a s b differs = ap (λ (part : Structures). part b) (put_here parts n a s) ∙ with_there (parts n) a s b differs

-- what has a name is what was put, or what was there
pub put_found : (parts : StructureSets) (n a : ℕ) (s : Structure) (k b : ℕ) (t : Structure) → put parts n a s k b ≡ Some t → ((k ≡ n) × (b ≡ a) × (t ≡ s)) ⊎ (parts k b ≡ Some t)
put_found parts n a s k b t found =
    ⊎_elim (λ (owner : k ≡ n).
    ⊎_elim (λ (name : b ≡ a). inl (owner, name, same_Some t s (sym found ∙ ap (λ (i : ℕ). put parts n a s i b) owner ∙ ap (put parts n a s n) name ∙ put_same parts n a s)))
    (λ (differs : b ≢ a). inr (ap (λ (i : ℕ). parts i b) owner ∙ sym (ap (λ (i : ℕ). put parts n a s i b) owner ∙ put_else parts n a s b differs) ∙ found)) (cases_eq b a))
    (λ (differs : k ≢ n). inr (sym (ap (λ (part : Structures). part b) (put_beside parts n a s k differs)) ∙ found)) (cases_eq k n)

-- ---- a name is taken away

pub gone_here : (part : Structures) (a : ℕ) → without_structure part a a ≡ None
gone_here part a = ap (λ (x : Bool). if x then None else part a) (eq-eqb a a refl)

pub gone_there : (part : Structures) (a b : ℕ) → b ≢ a → without_structure part a b ≡ part b
gone_there part a b differs = ap (λ (x : Bool). if x then None else part b) (other_number b a differs)

pub without_here : (parts : StructureSets) (n a : ℕ) → without parts n a n ≡ without_structure (parts n) a
without_here parts n a = ap (λ (x : Bool). if x then without_structure (parts n) a else parts n) (eq-eqb n n refl)

pub without_beside : (parts : StructureSets) (n a k : ℕ) → k ≢ n → without parts n a k ≡ parts k
without_beside parts n a k differs = ap (λ (x : Bool). if x then without_structure (parts n) a else parts k) (other_number k n differs)

pub without_same : (parts : StructureSets) (n a : ℕ) → without parts n a n a ≡ None
without_same parts n a = ap (λ (part : Structures). part a) (without_here parts n a) ∙ gone_here (parts n) a

pub without_else : (parts : StructureSets) (n a b : ℕ) → b ≢ a → without parts n a n b ≡ parts n b
without_else parts n a b differs = ap (λ (part : Structures). part b) (without_here parts n a) ∙ gone_there (parts n) a b differs

nothing_found : (t : Structure) (o : Option Structure) → o ≡ None → o ≡ Some t → ⊥
nothing_found t o none some = cc

pub without_found : (parts : StructureSets) (n a k b : ℕ) (t : Structure) → without parts n a k b ≡ Some t → parts k b ≡ Some t
without_found parts n a k b t found =
    ⊎_elim (λ (owner : k ≡ n).
    ⊎_elim (λ (name : b ≡ a). absurd (nothing_found t (without parts n a k b) (ap (λ (i : ℕ). without parts n a i b) owner ∙ ap (without parts n a n) name ∙ without_same parts n a) found))
    (λ (differs : b ≢ a). ap (λ (i : ℕ). parts i b) owner ∙ sym (ap (λ (i : ℕ). without parts n a i b) owner ∙ without_else parts n a b differs) ∙ found) (cases_eq b a))
    (λ (differs : k ≢ n). sym (ap (λ (part : Structures). part b) (without_beside parts n a k differs)) ∙ found) (cases_eq k n)
