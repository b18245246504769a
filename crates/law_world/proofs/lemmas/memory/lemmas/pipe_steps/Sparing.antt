-- What a step of one queue leaves of all pipes, where it spares the queue heads with streams and what they work on, and each qTD that it
-- brings asks the way of its endpoint.
use Rattle.std.proofs.Common.{◌≡◌, ◌≢◌, ℕ, Bool, true, false, List, Option, Some, refl, sym, ◌∙◌, ⊎_elim, inl, inr, arith}
use Rattle.std.specs.Prelude.{◌⊎◌}
use Rattle.std.specs.List.{concat}
use Rattle.std.proofs.lemmas.Bool.{false≢true}
use Rattle.usb_base.specs.declared.packets.Way.{Way}
use Rattle.usb_base.specs.declared.packets.Way.TheVariants as ways
use Rattle.qh_qtd.specs.declared.qtd.Qtd.{Qtd}
use Rattle.qh_qtd.specs.declared.queue_head.Qh.{Qh}
use Rattle.law_driver.specs.chained_transfers.Bulk.{IsDataWay, pid_by}
use Rattle.law_structures.specs.lent_structures.Structures.{QueueHead, Element, StructureSets}
use Rattle.law_ring.specs.Hand.{Hand}
use Rattle.law_ring.specs.Told.{Endpoint as Told, HasEndpoint}
use Rattle.law_ring.specs.Sparing.{SameHand, SparesHead, SparesElement}
use Rattle.law_ring.specs.Bus.{Sender}
use Rattle.law_ring.specs.Pipes.{IsIn, IsNotIn, IsElsewhere}
use Rattle.law_ring.proofs.SparedSparing.{spared_pipes_agree}
use Rattle.law_ring.specs.OutBus.{Taker}
use Rattle.law_ring.specs.OutPipes.{IsOut, IsUnmoved}
use Rattle.law_ring.specs.OutPipeLaws.{SendsNone}
use Rattle.law_world.specs.steps.Outs.{IsAside}
use Rattle.law_world.proofs.lemmas.steps.Spared.{spared_out_pipes_agree}
use Rattle.law_world.specs.memory.pipe_steps.Pipes.{PipesStand, AsksTheWay}

-- ---- what a qTD asks

-- the streams of its queue head alone
pub record AsksRight (sends takes : ℕ → ℕ → Bool) (ins outs : ℕ → Bool) (ends : ℕ → Told) (n : ℕ) (pid : ℕ) : Type 0 where
  pub in_one : ins n ≡ true → pid ≡ 1
  pub in_other : ins n ≡ false → sends (ends n).addr (ends n).ep ≡ true → pid ≢ 1
  pub out_one : outs n ≡ true → pid ≡ 0
  pub out_other : outs n ≡ false → takes (ends n).addr (ends n).ep ≡ true → pid ≢ 0

both_ways : {A : Type 0} (b : Bool) → b ≡ false → b ≡ true → A
both_ways b off on = absurd (false≢true (sym off ∙ on))

-- one that has a stream, or whose endpoint is none of these
one_or_none : {A : Type 0} (b c : Bool) → (b ≡ true) ⊎ (c ≡ false) → b ≡ false → c ≡ true → A
one_or_none b c (inl on) off named = both_ways b off on
one_or_none b c (inr none) off named = both_ways c none named

pub asks_right : (sends takes : ℕ → ℕ → Bool) (ins outs : ℕ → Bool) (ends : ℕ → Told) (n : ℕ) (way : Way) (pid : ℕ)
    → AsksTheWay sends takes ins outs ends n way → (IsDataWay way → pid ≡ pid_by way) → AsksRight sends takes ins outs ends n pid
asks_right sends takes ins outs ends n ways.In pid fits is = record {
  in_one = λ on. is tt;
  in_other = one_or_none (ins n) (sends (ends n).addr (ends n).ep) fits.1;
  out_one = both_ways (outs n) fits.0;
  out_other = λ off named zero. let one : pid ≡ 1 = is tt in omega (arith, one, zero);
}
asks_right sends takes ins outs ends n ways.Out pid fits is = record {
  in_one = both_ways (ins n) fits.0;
  in_other = λ off named one. let zero : pid ≡ 0 = is tt in omega (arith, one, zero);
  out_one = λ on. is tt;
  out_other = one_or_none (outs n) (takes (ends n).addr (ends n).ep) fits.1;
}
asks_right sends takes ins outs ends n ways.Ctl pid fits is = record {
  in_one = both_ways (ins n) fits.0;
  in_other = λ off named. both_ways (sends (ends n).addr (ends n).ep) fits.2 named;
  out_one = both_ways (outs n) fits.1;
  out_other = λ off named. both_ways (takes (ends n).addr (ends n).ep) fits.3 named;
}

-- ---- the step

module _ (sends takes : ℕ → ℕ → Bool) (near ins outs : ℕ → Bool) (ends : ℕ → Told) (parts now : StructureSets) (hand later : Hand) where
  pub record Spares : Type 0 where
    pub hands : SameHand hand later
    pub unmoved : (n : ℕ) → outs n ≡ true → IsUnmoved hand n → IsUnmoved later n
    pub named : (n : ℕ) (x : Told) → near n ≡ true → HasEndpoint parts n x → HasEndpoint now n x
    pub heads : (n : ℕ) → near n ≡ true → (ins n ≡ true) ⊎ (outs n ≡ true) → SparesHead parts now n
    pub work : (n : ℕ) (q : Qh) → near n ≡ true → outs n ≡ true → parts n n ≡ Some (QueueHead q) → q.token.active ≡ true
        → SparesElement parts now n q.current
    pub asks : (n a : ℕ) (t : Qtd) → near n ≡ true → now n a ≡ Some (Element t) → t.token.active ≡ true
        → (parts n a ≡ Some (Element t)) ⊎ AsksRight sends takes ins outs ends n t.token.pid

  module _ (k : Spares) where
    in_still : (n : ℕ) → near n ≡ true → ins n ≡ true → IsIn (parts n) → IsIn (now n)
    in_still n met on were a t here active =
        ⊎_elim (λ (was : parts n a ≡ Some (Element t)). were a t was active)
        (λ (right : AsksRight sends takes ins outs ends n t.token.pid). right.in_one on) (k.asks n a t met here active)

    out_still : (n : ℕ) → near n ≡ true → outs n ≡ true → IsOut (parts n) → IsOut (now n)
    out_still n met on were a t here active =
        ⊎_elim (λ (was : parts n a ≡ Some (Element t)). were a t was active)
        (λ (right : AsksRight sends takes ins outs ends n t.token.pid). right.out_one on) (k.asks n a t met here active)

    none_in : (n : ℕ) → near n ≡ true → ins n ≡ false → sends (ends n).addr (ends n).ep ≡ true → IsNotIn (parts n) → IsNotIn (now n)
    none_in n met off named were a t here active =
        ⊎_elim {C = t.token.pid ≢ 1} (λ (was : parts n a ≡ Some (Element t)). were a t was active)
        (λ (right : AsksRight sends takes ins outs ends n t.token.pid). right.in_other off named) (k.asks n a t met here active)

    none_out : (n : ℕ) → near n ≡ true → outs n ≡ false → takes (ends n).addr (ends n).ep ≡ true → SendsNone (parts n) → SendsNone (now n)
    none_out n met off named were a t here active =
        ⊎_elim {C = t.token.pid ≢ 0} (λ (was : parts n a ≡ Some (Element t)). were a t was active)
        (λ (right : AsksRight sends takes ins outs ends n t.token.pid). right.out_other off named) (k.asks n a t met here active)

    elsewhere : (n : ℕ) → near n ≡ true → ins n ≡ false → IsElsewhere sends parts n (ends n) → IsElsewhere sends now n (ends n)
    elsewhere n met off was = (k.named n (ends n) met was.0, by (sends (ends n).addr (ends n).ep) refl was.1)
      where
        by : (b : Bool) → sends (ends n).addr (ends n).ep ≡ b → (sends (ends n).addr (ends n).ep ≡ false) ⊎ IsNotIn (parts n)
            → (sends (ends n).addr (ends n).ep ≡ false) ⊎ IsNotIn (now n)
        by false none old = inl none
        by true named (inl none) = inl none
        by true named (inr were) = inr (none_in n met off named were)

    aside_still : (n : ℕ) → near n ≡ true → outs n ≡ false → IsAside takes parts n (ends n) → IsAside takes now n (ends n)
    aside_still n met off was = (k.named n (ends n) met was.0, by (takes (ends n).addr (ends n).ep) refl was.1)
      where
        by : (b : Bool) → takes (ends n).addr (ends n).ep ≡ b → (takes (ends n).addr (ends n).ep ≡ false) ⊎ SendsNone (parts n)
            → (takes (ends n).addr (ends n).ep ≡ false) ⊎ SendsNone (now n)
        by false none old = inl none
        by true named (inl none) = inl none
        by true named (inr were) = inr (none_out n met off named were)

    pub spared : {W : Type 0} (packets : ℕ → ℕ → List (List ℕ)) (sender : W → ℕ → ℕ → Option Sender) (taker : W → ℕ → ℕ → Option Taker)
        (acc : ℕ → List (List ℕ)) (wire : W) → PipesStand sends takes packets sender taker near ins outs ends acc parts hand wire
        → PipesStand sends takes packets sender taker near ins outs ends acc now later wire
    spared packets sender taker acc wire s = record {
      in_ends = s.in_ends;
      in_pipes =
          spared_pipes_agree sender sends packets near near ins ends acc hand later parts now wire k.hands
          (λ n on. k.heads n (s.in_ends.members n on) (inl on))
          (λ n on. in_still n (s.in_ends.members n on) on (s.in_pipes.pipes n on).ins)
          (λ n met off. elsewhere n met off (s.in_pipes.others n met off)) s.in_pipes;
      out_ends = s.out_ends;
      out_pipes =
          spared_out_pipes_agree taker takes near near outs ends ends (λ n. concat (acc n)) hand later parts now wire k.hands k.unmoved
          (λ n on. record {
            head = k.heads n (s.out_ends.members n on) (inr on);
            work = λ q here active. k.work n q (s.out_ends.members n on) on here active;
          })
          (λ n on. out_still n (s.out_ends.members n on) on (s.out_pipes.pipes n on).outs) (λ n on. refl)
          (λ n met off. aside_still n met off (s.out_pipes.others n met off)) s.out_pipes;
    }
