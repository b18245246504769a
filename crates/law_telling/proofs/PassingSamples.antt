-- The worked rows of what a driver notes.
use Rattle.std.proofs.Common.{◌≡◌, ◌≢◌, ℕ, zero, suc, ◌-◌, true, false, [], ◌∷◌, slice_get, Some, refl, ap, sym, subst, ◌∙◌, arith}
use Rattle.std.proofs.lemmas.Bool.{false≢true}
use Rattle.std.proofs.lemmas.Option.{same_Some}
use Rattle.qh_qtd.specs.Token.{token_at}
use Rattle.drv_table.specs.declared.content.QtdNote.{QtdNote}
use Rattle.drv_table.specs.declared.content.Reserve.{Reserve}
use Rattle.drv_table.specs.declared.content.Transfer.{Transfer}
use Rattle.drv_table.specs.Harvests.{note_at}
use Rattle.drv_table.specs.Parts.{Parts}
use Rattle.claims_answers.specs.Passing.{IsLater, Stays, NotesOne, passes, nothing, ends, serves, ReadsTokens}
use Rattle.claims_answers.specs.Telling.{token_of, less}
use Rattle.law_telling.specs.Passing.{of_two, notes_with, reads_first, passed_with, reads, AGetIsPassed, NothingNotedIsWrong, LeftUnreadIsWrong}

abbrev now : Transfer
now = record of_two { place = 1; left = 1 }

-- the only element of a list of one
only : {X : Type 0} (R : ℕ → X → Type 0) (x : X) (i : ℕ) (y : X) → slice_get (x ∷ []) i ≡ Some y → R 0 x → R i y
only R x zero y there r = subst (R 0) (same_Some x y there) r
only R x (suc i) y there r = absurd (cc)

pairs : (R : Transfer → Transfer → Type 0) (a b : Transfer) (t : ℕ) (y z : Transfer) → slice_get (a ∷ []) t ≡ Some y
    → slice_get (b ∷ []) t ≡ Some z → R a b → R y z
pairs R a b zero y z here there r = subst (λ (v : Transfer). R v z) (same_Some a y here) (subst (R a) (same_Some b z there) r)
pairs R a b (suc t) y z here there r = absurd (cc)

other_note : (n c : ℕ) → c ≢ 0 → note_at (notes_with n) c ≡ note_at (notes_with 0) c
other_note n zero other = absurd (other refl)
other_note n (suc c) other = refl

pub a_get_is_passed : AGetIsPassed
unfolding token_at
a_get_is_passed p room = record {
  many = refl;
  later = λ t y z here there. pairs IsLater of_two now t y z here there
      (record { endpoint = refl; sort = refl; first = refl; qtds = refl; most = refl; told = λ r. r; returned = λ r. r });
  tokens = passes (record {
    number = 0;
    transfer = of_two;
    there = refl;
    noted = record { done = refl; moved = λ within. refl; others = other_note 412 };
    whole = refl;
    next = λ z there. only (λ i (v : Transfer). v.place ≡ 1) now 0 z there refl;
    left = λ z there. only (λ i (v : Transfer). v.left ≡ 1) now 0 z there refl;
    stay = λ t y z here there other. only (λ i (v : Transfer). i ≢ 0 → Stays v z) of_two t y here (λ no. absurd (no refl)) other;
  });
}

-- transfer 0 is the only one
first_is : (t : ℕ) (y : Transfer) → slice_get (of_two ∷ []) t ≡ Some y → of_two ≡ y
first_is t y there = only (λ i (v : Transfer). of_two ≡ v) of_two t y there refl

number_is : (t : ℕ) (y : Transfer) → slice_get (of_two ∷ []) t ≡ Some y → t ≡ 0
number_is t y there = only (λ i (v : Transfer). i ≡ 0) of_two t y there refl

pub nothing_noted_is_wrong : NothingNotedIsWrong
unfolding token_at
nothing_noted_is_wrong p room keeps = by keeps.tokens
  where
    by : ReadsTokens reads (reads_first p room) (passed_with room 0) → ⊥
    by (nothing k) = let same : 1 ≡ 0 = (k.stay 0 of_two now refl refl).place in omega (arith, same)
    by (passes k) =
        let at = ap (λ (y : Transfer). y.place) (first_is k.number k.transfer k.there) in
        let moved : 0 ≡ 412 = ap (λ (v : QtdNote). v.moved)
        ((subst (NotesOne (reads_first p room) (passed_with room 0)) (sym at) k.noted).moved (omega arith)) in
        omega (arith, moved)
    by (ends k) = false≢true (k.told now (ap (slice_get (now ∷ [])) (number_is k.number k.transfer k.there)))
    by (serves k) = false≢true (k.told now (ap (slice_get (now ∷ [])) (number_is k.number k.transfer k.there)))

pub left_unread_is_wrong : LeftUnreadIsWrong
unfolding token_at
left_unread_is_wrong p room keeps = by keeps.tokens
  where
    by : ReadsTokens reads (reads_first p room) (reads_first p room).driver → ⊥
    by (nothing k) = false≢true ((k.active 0 0 _ of_two refl refl).token refl)
    by (passes k) =
        let left : 2 ≡ 1 = k.left of_two (ap (slice_get (of_two ∷ [])) (number_is k.number k.transfer k.there))
        ∙ ap (λ (y : Transfer). y.left - 1) (sym (first_is k.number k.transfer k.there)) in
        omega (arith, left)
    by (ends k) = false≢true (k.told of_two (ap (slice_get (of_two ∷ [])) (number_is k.number k.transfer k.there)))
    by (serves k) = false≢true (k.told of_two (ap (slice_get (of_two ∷ [])) (number_is k.number k.transfer k.there)))
