-- Steps that spare the queue heads with OUT streams.
use Rattle.std.proofs.Common.{◌≡◌, ℕ, ◌∙◌, Bool, true, false, List, Option, sym, subst, inl, inr}
use Rattle.std.proofs.lemmas.Bool.{false≢true}
use Rattle.law_controller.proofs.Common.{heads_stay, elements_stay}
use Rattle.qh_qtd.specs.declared.qtd.Qtd.{Qtd}
use Rattle.law_structures.specs.lent_structures.Structures.{StructureSets}
use Rattle.law_ring.specs.Hand.{Hand}
use Rattle.law_ring.specs.Told.{Endpoint}
use Rattle.law_ring.specs.Sparing.{SameHand}
use Rattle.law_ring.specs.OutBus.{Taker}
use Rattle.law_ring.specs.OutPipes.{IsOut, IsUnmoved, IsOutPipe}
use Rattle.law_controller.proofs.lemmas.controlled_streams.Outs.{out_is_spared}
use Rattle.law_world.specs.steps.Outs.{GoesAs}
use Rattle.law_world.specs.steps.Spared.{SparesWork, OutPipesAreSpared}

pub spared_pipe : (hand later : Hand) (parts now : StructureSets) (n : ℕ) (x : Endpoint) (o : Option Taker) (known : List ℕ) → SameHand hand later → (IsUnmoved hand n → IsUnmoved later n) → SparesWork parts now n → IsOut (now n) → IsOutPipe o known parts hand n x → IsOutPipe o known now later n x
spared_pipe hand later parts now n x o known hands un works outs pipe = out_is_spared hand later parts now n x o known hands un works.head works.work outs pipe

pub work_stays : (parts now : StructureSets) (n : ℕ) → now n ≡ parts n → SparesWork parts now n
work_stays parts now n same = record { head = heads_stay parts now n same; work = λ q here on. elements_stay parts now n q.current same }

pub pipe_stays : (hand later : Hand) (parts now : StructureSets) (n : ℕ) (x : Endpoint) (o : Option Taker) (known : List ℕ) → SameHand hand later → (IsUnmoved hand n → IsUnmoved later n) → now n ≡ parts n → IsOutPipe o known parts hand n x → IsOutPipe o known now later n x
pipe_stays hand later parts now n x o known hands un same pipe = spared_pipe hand later parts now n x o known hands un (work_stays parts now n same) (subst IsOut (sym same) pipe.outs) pipe

pub spared_out_pipes_agree : {W : Type 0} (taker : W → ℕ → ℕ → Option Taker) → OutPipesAreSpared taker
spared_out_pipes_agree taker stream member wider outs ends ends_now known hand later parts now wire hands un works goes same others k =
    record {
      pipes = λ n on.
          subst (λ (x : Endpoint). IsOutPipe (taker wire x.addr x.ep) (known n) now later n x) (sym (same n on))
          (spared_pipe hand later parts now n (ends n) (taker wire (ends n).addr (ends n).ep) (known n) hands (un n on) (works n on) (goes n on) (k.pipes n on));
      others = others;
    }

-- ---- the way of a qTD

pub out_goes : (outs : ℕ → Bool) (n : ℕ) (t : Qtd) → outs n ≡ true → GoesAs outs n t → t.token.pid ≡ 0
out_goes outs n t on (inl goes) = goes.1
out_goes outs n t on (inr goes) = absurd (false≢true (sym goes.0 ∙ on))

pub none_goes : (outs : ℕ → Bool) (n : ℕ) (t : Qtd) → outs n ≡ false → GoesAs outs n t → t.token.pid ≡ 0 → ⊥
none_goes outs n t off (inl goes) zero = false≢true (sym off ∙ goes.0)
none_goes outs n t off (inr goes) zero = goes.1 zero
