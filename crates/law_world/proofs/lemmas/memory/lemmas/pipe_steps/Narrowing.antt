-- The pipes of the queue heads that are still met.
use Rattle.std.proofs.Common.{◌≡◌, ℕ, ◌&&◌, Bool, true, false, List, Option, refl, sym, ◌∙◌}
use Rattle.std.proofs.lemmas.Bool.{false≢true}
use Rattle.law_common.proofs.Booleans.{and_both}
use Rattle.law_structures.specs.lent_structures.Structures.{StructureSets}
use Rattle.law_ring.specs.Hand.{Hand}
use Rattle.law_ring.specs.Stores.{IsWider}
use Rattle.law_ring.specs.Told.{Endpoint as Told}
use Rattle.law_ring.specs.Bus.{Sender}
use Rattle.law_ring.specs.Pipes.{AreEndpoints}
use Rattle.law_ring.specs.OutBus.{Taker}
use Rattle.law_world.specs.memory.pipe_steps.Pipes.{PipesStand, AreStillMet}

one_off : (a b : Bool) → (a && b) ≡ false → b ≡ true → a ≡ false
one_off false b off on = refl
one_off true true off on = absurd (false≢true (sym off))
one_off true false off on = absurd (false≢true on)

module _ (near narrow those left : ℕ → Bool) (still : AreStillMet narrow those left) where
  was_one : (n : ℕ) → left n ≡ true → (those n ≡ true) × (narrow n ≡ true)
  was_one n on = and_both (those n) (narrow n) (sym (still n) ∙ on)

  was_none : (n : ℕ) → narrow n ≡ true → left n ≡ false → those n ≡ false
  was_none n met off = one_off (those n) (narrow n) (sym (still n) ∙ off) met

  ends_still : (stream : ℕ → ℕ → Bool) (ends : ℕ → Told) → AreEndpoints stream near those ends → AreEndpoints stream narrow left ends
  ends_still stream ends k = record {
    members = λ n on. (was_one n on).1;
    on = λ n on. k.on n (was_one n on).0;
    high = λ n on. k.high n (was_one n on).0;
    apart = λ n m on also. k.apart n m (was_one n on).0 (was_one m also).0;
  }

pub narrowed : {W : Type 0} (sends takes : ℕ → ℕ → Bool) (packets : ℕ → ℕ → List (List ℕ)) (sender : W → ℕ → ℕ → Option Sender)
    (taker : W → ℕ → ℕ → Option Taker) (near narrow ins outs ins_then outs_then : ℕ → Bool) (ends : ℕ → Told) (acc : ℕ → List (List ℕ))
    (parts : StructureSets) (hand : Hand) (wire : W) → IsWider narrow near → AreStillMet narrow ins ins_then
    → AreStillMet narrow outs outs_then → PipesStand sends takes packets sender taker near ins outs ends acc parts hand wire
    → PipesStand sends takes packets sender taker narrow ins_then outs_then ends acc parts hand wire
narrowed sends takes packets sender taker near narrow ins outs ins_then outs_then ends acc parts hand wire fewer ins_are outs_are k =
    record {
      in_ends = ends_still near narrow ins ins_then ins_are sends ends k.in_ends;
      in_pipes = record {
        pipes = λ n on. k.in_pipes.pipes n (was_one near narrow ins ins_then ins_are n on).0;
        others = λ n met off. k.in_pipes.others n (fewer n met) (was_none near narrow ins ins_then ins_are n met off);
      };
      out_ends = ends_still near narrow outs outs_then outs_are takes ends k.out_ends;
      out_pipes = record {
        pipes = λ n on. k.out_pipes.pipes n (was_one near narrow outs outs_then outs_are n on).0;
        others = λ n met off. k.out_pipes.others n (fewer n met) (was_none near narrow outs outs_then outs_are n met off);
      };
    }
