-- A descriptor has one word before it: it is unlinked by one store.
use Rattle.std.proofs.Common.{◌≡◌, ℕ, ◌+◌, ◌≤◌, Bool, true, false, cond, nat_lt, List, [], ◌∷◌, length, ap, sym, subst, ◌∙◌, refl, arith, length-append}
use Rattle.std.specs.Prelude.{filter, nat_eq}
use Rattle.std.specs.List.{AllByRecursion, flat_map}
use Rattle.std.proofs.lemmas.Bool.{eqb-true}
use Rattle.std.proofs.lemmas.Bool.Decides.{nat_tests}
use Rattle.law_common.proofs.Lists.{all_more}
use Rattle.drv_chains.specs.declared.members.Descriptor.{Descriptor}
use Rattle.drv_chains.specs.declared.members.Member.{Member}
use Rattle.drv_chains.specs.declared.members.Member.TheVariants.{Once}
use Rattle.drv_chains.specs.Order.{ComesFirst, AreInOrder, frames}
use Rattle.drv_chains.specs.Chains.{Schedule, stands_in, predecessor, first_frame, word_met, predecessors}
use Rattle.drv_chains.proofs.Orders.{in_order, comes_once}
use Rattle.drv_members.proofs.Sorted.{none_pass}
use Rattle.drv_periodic.specs.Periodic.{begun, is_more}

none_again : (c f : ℕ) (fs : List ℕ) → nat_eq c f ≡ true → AllByRecursion (ComesFirst f) fs → filter (λ g. nat_eq c g) fs ≡ []
none_again c f fs same first =
    none_pass (λ g. nat_eq c g) fs (all_more (ComesFirst f) (λ g. nat_eq c g ≡ false) fs (λ g before. other g before (nat_eq c g) refl) first)
  where
    other : (g : ℕ) → ComesFirst f g → (b : Bool) → nat_eq c g ≡ b → b ≡ false
    other g before false off = refl
    other g before true on =
        let same_g : f ≡ g = sym (eqb-true c f same) ∙ eqb-true c g on in
        absurd (comes_once g (subst (λ h. ComesFirst h g) same_g before))

once_among : (c : ℕ) (fs : List ℕ) → AreInOrder fs → length (filter (λ f. nat_eq c f) fs) ≤ 1
unfolding AreInOrder
once_among c [] order = omega arith
once_among c (f ∷ fs) order = at (nat_eq c f) refl (once_among c fs order.1)
  where
    at : (b : Bool) → nat_eq c f ≡ b → length (filter (λ g. nat_eq c g) fs) ≤ 1 → length (cond b (f ∷ filter (λ g. nat_eq c g) fs) (filter (λ g. nat_eq c g) fs)) ≤ 1
    at true on few = let none = ap (λ (gs : List ℕ). length gs) (none_again c f fs on order.0) in omega (arith, none)
    at false off few = few

met_few : (s : Schedule) (m : Member) (f : ℕ) → length (word_met s m f) ≤ 1
met_few s m f = at (nat_eq (first_frame (predecessor s m f)) f)
  where
    at : (b : Bool) → length (cond b (predecessor s m f ∷ []) []) ≤ 1
    at true = omega arith
    at false = omega arith

all_met_few : (s : Schedule) (m : Member) (fs : List ℕ) → length fs ≤ 1 → length (flat_map (word_met s m) fs) ≤ 1
all_met_few s m [] few = omega arith
all_met_few s m (f ∷ []) few = let a = length-append (word_met s m f) [] in let b = met_few s m f in omega (arith, a, b)
all_met_few s m (f ∷ (g ∷ fs)) few = absurd (omega (arith, few))

few_words : (s : Schedule) (k : Descriptor) → length (predecessors s (Once k) (frames 10)) ≤ 1
unfolding predecessors
few_words s k = all_met_few s (Once k) (filter (λ f. stands_in f (Once k)) (frames 10)) (once_among k.frame (frames 10) (in_order 10))

not_more : (n : ℕ) (b : Bool) → nat_lt (0 + 1) n ≡ b → n ≤ 1 → b ≡ false
not_more n false off few = refl
not_more n true on few = grind (arith, nat_tests)

pub one_word : (s : Schedule) (k : Descriptor) (removes : Bool) → is_more s (begun (Once k) removes) ≡ false
one_word s k removes = not_more (length (predecessors s (Once k) (frames 10))) (nat_lt (0 + 1) (length (predecessors s (Once k) (frames 10)))) refl (few_words s k)
