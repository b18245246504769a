-- The same OUT endpoints and the same bytes, told by other functions.
use Rattle.std.proofs.Common.{◌≡◌, ℕ, Bool, true, false, if◌then◌else◌, List, [], ◌==◌, Option, ap, refl, sym, subst, ◌∙◌}
use Rattle.std.specs.List.{concat}
use Rattle.std.proofs.lemmas.Bool.{false≢true}
use Rattle.law_structures.specs.lent_structures.Structures.{StructureSets}
use Rattle.law_ring.specs.Hand.{Hand}
use Rattle.law_ring.specs.Told.{Endpoint}
use Rattle.law_ring.specs.OutBus.{Taker}
use Rattle.law_ring.specs.OutPipes.{IsOutPipe}
use Rattle.law_controller.specs.controlled_streams.Opened.{with_none}
use Rattle.law_world.specs.steps.Outs.{AreOutPiped, AreUntaken}
use Rattle.law_world.specs.streams.Feeding.{heads_of}
use Rattle.law_world.specs.streams.Taking.{outs_of}

-- ---- which these are

pub out_on : (member streams : ℕ → Bool) (ends : ℕ → Endpoint) (n : ℕ) → outs_of member streams ends n ≡ true → (streams n ≡ false) × (heads_of member ends n ≡ true)
out_on member streams ends n on = by_test (streams n) refl on
  where
    by_test : (b : Bool) → streams n ≡ b → (if b then false else heads_of member ends n) ≡ true → (streams n ≡ false) × (heads_of member ends n ≡ true)
    by_test true is head = absurd (false≢true head)
    by_test false is head = (is, head)

pub outs_on : (member streams : ℕ → Bool) (ends : ℕ → Endpoint) (n : ℕ) → streams n ≡ false → heads_of member ends n ≡ true → outs_of member streams ends n ≡ true
outs_on member streams ends n off head = ap (λ (b : Bool). if b then false else heads_of member ends n) off ∙ head

-- ---- the same ones

module _ (outs others : ℕ → Bool) (alike : (n : ℕ) → others n ≡ outs n) where
  pub alike_out_pipes : {W : Type 0} (taker : W → ℕ → ℕ → Option Taker) (stream : ℕ → ℕ → Bool) (member : ℕ → Bool) (ends : ℕ → Endpoint) (known : ℕ → List ℕ) (parts : StructureSets) (hand : Hand) (wire : W)
      → AreOutPiped stream taker member outs ends known parts hand wire → AreOutPiped stream taker member others ends known parts hand wire
  alike_out_pipes taker stream member ends known parts hand wire k = record {
    pipes = λ n on. k.pipes n (sym (alike n) ∙ on);
    others = λ n met off. k.others n met (sym (alike n) ∙ off);
  }

  pub alike_untaken : {W : Type 0} (taker : W → ℕ → ℕ → Option Taker) (stream : ℕ → ℕ → Bool) (ends : ℕ → Endpoint) (wire : W) → AreUntaken stream taker outs ends wire → AreUntaken stream taker others ends wire
  alike_untaken taker stream ends wire k addr ep on unopened = k addr ep on (λ n one. unopened n (alike n ∙ one))

-- ---- the same bytes

pub alike_known : {W : Type 0} (taker : W → ℕ → ℕ → Option Taker) (stream : ℕ → ℕ → Bool) (member outs : ℕ → Bool) (ends : ℕ → Endpoint) (known now_known : ℕ → List ℕ) (parts : StructureSets) (hand : Hand) (wire : W)
    → ((n : ℕ) → outs n ≡ true → now_known n ≡ known n) → AreOutPiped stream taker member outs ends known parts hand wire → AreOutPiped stream taker member outs ends now_known parts hand wire
alike_known taker stream member outs ends known now_known parts hand wire same k = record {
  pipes = λ n on. subst (λ (xs : List ℕ). IsOutPipe (taker wire (ends n).addr (ends n).ep) xs parts hand n (ends n)) (sym (same n on)) (k.pipes n on);
  others = k.others;
}

pub none_concat : (acc : ℕ → List (List ℕ)) (n m : ℕ) → concat (with_none acc n m) ≡ with_none (λ i. concat (acc i)) n m
none_concat acc n m = by_test (m == n)
  where
    by_test : (b : Bool) → concat (if b then [] else acc m) ≡ (if b then [] else concat (acc m))
    by_test true = refl
    by_test false = refl
