-- The packets that moved, told otherwise: they are the same ones.
use Rattle.std.proofs.Common.{◌≡◌, ◌≢◌, ℕ, ◌==◌, Bool, true, false, if◌then◌else◌, List, [], Option, ap, refl, sym, subst, ◌∙◌}
use Rattle.std.proofs.lemmas.Bool.{eqb-true, eq-eqb, true≢false}
use Rattle.std.specs.List.{concat}
use Rattle.law_structures.specs.lent_structures.Structures.{StructureSets}
use Rattle.law_ring.specs.Hand.{Hand}
use Rattle.law_ring.specs.Told.{Endpoint as Told}
use Rattle.law_ring.specs.Bus.{Sender}
use Rattle.law_ring.specs.Pipes.{IsPipe}
use Rattle.law_ring.specs.OutBus.{Taker}
use Rattle.law_ring.specs.OutPipes.{IsOutPipe}
use Rattle.law_controller.specs.controlled_streams.Opened.{with_none}
use Rattle.law_world.specs.memory.pipe_steps.Pipes.{PipesStand}

pub same_packets : {W : Type 0} (sends takes : ℕ → ℕ → Bool) (packets : ℕ → ℕ → List (List ℕ)) (sender : W → ℕ → ℕ → Option Sender)
    (taker : W → ℕ → ℕ → Option Taker) (near ins outs : ℕ → Bool) (ends : ℕ → Told) (acc other : ℕ → List (List ℕ)) (parts : StructureSets)
    (hand : Hand) (wire : W) → ((n : ℕ) → acc n ≡ other n)
    → PipesStand sends takes packets sender taker near ins outs ends acc parts hand wire
    → PipesStand sends takes packets sender taker near ins outs ends other parts hand wire
same_packets sends takes packets sender taker near ins outs ends acc other parts hand wire same z = record {
  in_ends = z.in_ends;
  in_pipes = record {
    pipes = λ n on. subst (λ (x : List (List ℕ)). IsPipe (packets (ends n).addr (ends n).ep) (sender wire (ends n).addr (ends n).ep) x
        parts hand n (ends n)) (same n) (z.in_pipes.pipes n on);
    others = z.in_pipes.others;
  };
  out_ends = z.out_ends;
  out_pipes = record {
    pipes = λ n on. subst (λ (x : List (List ℕ)). IsOutPipe (taker wire (ends n).addr (ends n).ep) (concat x) parts hand n (ends n))
        (same n) (z.out_pipes.pipes n on);
    others = z.out_pipes.others;
  };
}

-- none of one, and all others'
pub none_and_others : (acc other : ℕ → List (List ℕ)) (n : ℕ) → other n ≡ [] → ((k : ℕ) → k ≢ n → other k ≡ acc k)
    → (k : ℕ) → with_none acc n k ≡ other k
none_and_others acc other n none rest k = by (k == n) refl
  where
    by : (b : Bool) → (k == n) ≡ b → (if b then [] else acc k) ≡ other k
    by true is = sym (ap other (eqb-true k n is) ∙ none)
    by false is = sym (rest k (λ same. true≢false (sym (eq-eqb k n same) ∙ is)))
