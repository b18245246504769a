-- The same queue heads with streams, told by another function.
use Rattle.std.proofs.Common.{◌≡◌, ℕ, Bool, List, Option, sym, ◌∙◌}
use Rattle.law_structures.specs.lent_structures.Structures.{StructureSets}
use Rattle.law_ring.specs.Hand.{Hand}
use Rattle.law_ring.specs.Told.{Endpoint}
use Rattle.law_ring.specs.Bus.{Sender}
use Rattle.law_ring.specs.Pipes.{AreEndpoints, ArePiped}
use Rattle.law_controller.specs.controlled_streams.Unopened.{AreUnopened}

module _ (streams others : ℕ → Bool) (alike : (n : ℕ) → others n ≡ streams n) where
  pub alike_ends : (stream : ℕ → ℕ → Bool) (member : ℕ → Bool) (endpoint : ℕ → Endpoint) → AreEndpoints stream member streams endpoint → AreEndpoints stream member others endpoint
  alike_ends stream member endpoint k = record {
    members = λ n on. k.members n (sym (alike n) ∙ on);
    on = λ n on. k.on n (sym (alike n) ∙ on);
    high = λ n on. k.high n (sym (alike n) ∙ on);
    apart = λ n m first second. k.apart n m (sym (alike n) ∙ first) (sym (alike m) ∙ second);
  }

  pub alike_pipes : {W : Type 0} (sender : W → ℕ → ℕ → Option Sender) (stream : ℕ → ℕ → Bool) (packets : ℕ → ℕ → List (List ℕ)) (member : ℕ → Bool) (endpoint : ℕ → Endpoint) (acc : ℕ → List (List ℕ)) (parts : StructureSets) (hand : Hand) (wire : W)
      → ArePiped stream packets sender member streams endpoint acc parts hand wire → ArePiped stream packets sender member others endpoint acc parts hand wire
  alike_pipes sender stream packets member endpoint acc parts hand wire k = record {
    pipes = λ n on. k.pipes n (sym (alike n) ∙ on);
    others = λ n met off. k.others n met (sym (alike n) ∙ off);
  }

  pub alike_unopened : {W : Type 0} (sender : W → ℕ → ℕ → Option Sender) (stream : ℕ → ℕ → Bool) (packets : ℕ → ℕ → List (List ℕ)) (endpoint : ℕ → Endpoint) (wire : W)
      → AreUnopened stream packets sender streams endpoint wire → AreUnopened stream packets sender others endpoint wire
  alike_unopened sender stream packets endpoint wire k addr ep on unopened = k addr ep on (λ n streamed. unopened n (alike n ∙ streamed))
