-- The streams of OUT endpoints beside qTDs and buffers that are given back.
use Rattle.std.proofs.Common.{◌≡◌, ◌≢◌, ℕ, ◌==◌, Bool, false, List, [], ◌∷◌, ◌++◌, Option, sym, subst, ⊎_elim, inl, inr}
use Rattle.std.proofs.lemmas.Bool.{cases_eq}
use Rattle.law_common.proofs.Numbers.{same_number}
use Rattle.law_controller.proofs.Common.{same_hand}
use Rattle.law_structures.specs.lent_structures.Structures.{Element, StructureSets}
use Rattle.law_ring.specs.Hand.{Hand}
use Rattle.law_ring.specs.Told.{Endpoint}
use Rattle.law_ring.proofs.SparedSparing.{spared_endpoint}
use Rattle.law_ring.specs.Fewer.{without_those}
use Rattle.law_ring.proofs.Returning.{those_found, those_beside}
use Rattle.law_ring.specs.OutBus.{Taker}
use Rattle.law_ring.specs.OutPipes.{IsOutPipe}
use Rattle.law_ring.specs.OutPipeLaws.{SendsNone}
use Rattle.law_controller.specs.controlled_streams.Reported.{IsReported}
use Rattle.law_controller.specs.controlled_streams.Returned.{staying_of, KeepsBuffers}
use Rattle.law_controller.proofs.lemmas.controlled_streams.Returning.{spares_head, spares_element, reported_are_returned}
use Rattle.law_world.specs.steps.Outs.{IsAside, AreAside}
use Rattle.law_world.specs.steps.Spared.{SparesWork}
use Rattle.law_world.specs.steps.Returns.{KeepsWork, ReturnLeavesOutPipes, ReturnLeavesOuts}
use Rattle.law_world.proofs.lemmas.steps.Joining.{at_one, reported_in, streams_all}
use Rattle.law_world.proofs.lemmas.steps.Spared.{spared_pipe, work_stays}

module _ (parts : StructureSets) (n : ℕ) (goes : ℕ → Bool) (off : goes n ≡ false) where
  abbrev now : StructureSets
  now = without_those parts n goes

  asides_stay : (stream : ℕ → ℕ → Bool) (member outs : ℕ → Bool) (ends : ℕ → Endpoint) → AreAside stream member outs ends parts → AreAside stream member outs ends now
  asides_stay stream member outs ends all m met none =
      let was : IsAside stream parts m (ends m) = all m met none in (
        spared_endpoint parts now m (ends m) (spares_head parts n goes off m) was.0,
        ⊎_elim (λ (elsewhere : stream (ends m).addr (ends m).ep ≡ false). inl elsewhere)
            (λ (sends : SendsNone (parts m)). inr (λ a t found on. sends a t (those_found parts n goes m a (Element t) found) on)) was.1,
      )

  module _ (keep : KeepsBuffers goes (parts n)) (works : KeepsWork goes n (parts n)) where
    work_kept : (m : ℕ) → SparesWork parts now m
    work_kept m =
        ⊎_elim
        (λ (same : m ≡ n). subst (SparesWork parts now) (sym same) (record { head = spares_head parts n goes off n; work = λ q here on. spares_element parts n goes off keep q.current (works q here on) }))
        (λ (differs : m ≢ n). work_stays parts now m (those_beside parts n goes m differs)) (cases_eq m n)

    pipe_kept : (m : ℕ) (x : Endpoint) (o : Option Taker) (known : List ℕ) (hand : Hand) → IsOutPipe o known parts hand m x → IsOutPipe o known now hand m x
    pipe_kept m x o known hand pipe =
        spared_pipe hand hand parts now m x o known (same_hand hand) (λ un. un) (work_kept m) (λ a t found on. pipe.outs a t (those_found parts n goes m a (Element t) found) on) pipe

pub return_pipes : {W : Type 0} (taker : W → ℕ → ℕ → Option Taker) → ReturnLeavesOutPipes taker
return_pipes taker stream member outs ends known parts hand wire n goes off keep works k = record {
  pipes = λ m on. pipe_kept parts n goes off keep works m (ends m) (taker wire (ends m).addr (ends m).ep) (known m) hand (k.pipes m on);
  others = asides_stay parts n goes off stream member outs ends k.others;
}

pub return_streams : {W : Type 0} (taker : W → ℕ → ℕ → Option Taker) → ReturnLeavesOuts taker
return_streams taker stream member outs ends order out harvested parts hand wire n goes off keep works untold ends_are k =
    streams_all taker stream member outs ends order (staying_of n goes out) harvested (without_those parts n goes) hand wire ends_are
    (λ m on.
    let was = k.streams m on in
    let o : Option Taker = taker wire (ends m).addr (ends m).ep in
    let known : List ℕ = harvested m ++ was.told in
    record {
      known = known;
      reported = reported_are_returned (λ i. i == m) order out hand parts (λ i. known ∷ []) (λ i. harvested m) n goes off keep untold
          (at_one (λ (i : ℕ). IsReported (order i) (out i) hand parts i (known ∷ []) (harvested m)) m (reported_in stream o member (order m) (out m) parts hand m (ends m) (harvested m) was)) m (same_number m);
      pipe = pipe_kept parts n goes off keep works m (ends m) o known hand was.pipe;
    })
    (asides_stay parts n goes off stream member outs ends k.others)
