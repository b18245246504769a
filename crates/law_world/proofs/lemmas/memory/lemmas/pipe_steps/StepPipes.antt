-- Each step of a queue keeps both sides of each pipe agreed.
use Rattle.std.proofs.Common.{◌≡◌, ℕ, ◌*◌, ◌&&◌, ◌==◌, not, Bool, false, List, Option, ap, refl, sym, subst, ◌∙◌}
use Rattle.std.proofs.lemmas.Bool.{eq-eqb}
use Rattle.law_structures.specs.lent_structures.Structures.{StructureSets}
use Rattle.law_ring.specs.Hand.{Hand}
use Rattle.law_ring.specs.Stores.{IsWider}
use Rattle.law_ring.specs.Told.{Endpoint as Told}
use Rattle.law_ring.specs.Bus.{Sender}
use Rattle.law_ring.specs.OutBus.{Taker}
use Rattle.law_controller.specs.frame_control.Joined.{joined}
use Rattle.law_driver.specs.queued_drivers.Queued.{queued}
use Rattle.law_frames.specs.FrameHand.{FrameHand}
use Rattle.law_world.specs.steps.endpoint_releases.Released.{without_queue}
use Rattle.law_world.proofs.lemmas.steps.lemmas.endpoint_releases.Beside.{pipes_stay, out_pipes_stay}
use Rattle.std.specs.List.{concat}
use Rattle.law_common.proofs.Booleans.{and_false, first_of_both}
use Rattle.bus_world.specs.World.{World}
use Rattle.law_world.specs.memory.Mixed.{Standing, IsMixedAt}
use Rattle.law_world.specs.memory.Steps.{IsWithout, QueueStep, stays, harvests, returns, lends, stores, mends, begins, opens, unlinks, narrows, goes}
use Rattle.law_world.specs.memory.pipe_steps.Pipes.{PipesStand, AreByWay, AreStillMet}
use Rattle.law_world.specs.memory.pipe_steps.Laws.{IsNoOpening, StepKeepsPipes}
use Rattle.law_world.proofs.lemmas.memory.lemmas.pipe_steps.Sparing.{Spares, spared}
use Rattle.law_world.proofs.lemmas.memory.lemmas.pipe_steps.Stays.{stays_spares, unlink_spares}
use Rattle.law_world.proofs.lemmas.memory.lemmas.pipe_steps.Returns.{returned}
use Rattle.law_world.proofs.lemmas.memory.lemmas.pipe_steps.Lends.{lend_spares}
use Rattle.law_world.proofs.lemmas.memory.lemmas.pipe_steps.Stores.{store_spares}
use Rattle.law_world.proofs.lemmas.memory.lemmas.pipe_steps.Mends.{mend_spares}
use Rattle.law_world.proofs.lemmas.memory.lemmas.pipe_steps.Begins.{open_spares}
use Rattle.law_world.proofs.lemmas.memory.lemmas.pipe_steps.Narrowing.{narrowed}

module _ {W : Type 0} (sends takes : ℕ → ℕ → Bool) (packets : ℕ → ℕ → List (List ℕ)) (sender : W → ℕ → ℕ → Option Sender)
    (taker : W → ℕ → ℕ → Option Taker) (ins outs ins_then outs_then : ℕ → Bool) (ends : ℕ → Told) (acc : ℕ → List (List ℕ)) (wire : W)
  where
    abbrev Stand : (ℕ → Bool) → (ℕ → Bool) → (ℕ → Bool) → StructureSets → Hand → Type 0
    Stand near those others parts hand = PipesStand sends takes packets sender taker near those others ends acc parts hand wire

    -- the same queue heads are met
    as_met : (near : ℕ → Bool) (parts : StructureSets) (hand : Hand) → AreStillMet near ins ins_then → AreStillMet near outs outs_then
        → Stand near ins outs parts hand → Stand near ins_then outs_then parts hand
    as_met near parts hand ins_are outs_are k =
        narrowed sends takes packets sender taker near near ins outs ins_then outs_then ends acc parts hand wire (λ n on. on) ins_are
        outs_are k

    -- nothing is told any more of one
    module _ (s t : Standing) (n : ℕ) (is : IsWithout s t n) (ins_are : AreStillMet t.near ins ins_then)
        (outs_are : AreStillMet t.near outs outs_then) where
      gone : t.near n ≡ false
      gone = is.near n ∙ ap (λ (b : Bool). s.near n && not b) (eq-eqb n n refl) ∙ and_false (s.near n)

      fewer : IsWider t.near s.near
      fewer m on = first_of_both (s.near m) (not (m == n)) (sym (is.near m) ∙ on)

      none_of : (those rest : ℕ → Bool) → AreStillMet t.near those rest → rest n ≡ false
      none_of those rest are = are n ∙ ap (λ (b : Bool). those n && b) gone ∙ and_false (those n)

      without : Stand s.near ins outs s.parts (joined s.hand s.frame) → Stand t.near ins_then outs_then t.parts (joined t.hand t.frame)
      without before =
          let k : Stand t.near ins_then outs_then s.parts (joined s.hand s.frame) =
          narrowed sends takes packets sender taker s.near t.near ins outs ins_then outs_then ends acc s.parts (joined s.hand s.frame) wire
          fewer ins_are outs_are before in
          let left : Stand t.near ins_then outs_then (without_queue s.parts n) (joined s.hand s.frame) = record {
            in_ends = k.in_ends;
            in_pipes = pipes_stay sender sends packets t.near ins_then ends acc s.parts (joined s.hand s.frame) wire n gone
                (none_of ins ins_then ins_are) k.in_pipes;
            out_ends = k.out_ends;
            out_pipes = out_pipes_stay taker takes t.near outs_then ends (λ i. concat (acc i)) s.parts (joined s.hand s.frame) wire n gone
                (none_of outs outs_then outs_are) k.out_pipes;
          } in
          subst (λ (parts : StructureSets). Stand t.near ins_then outs_then parts (joined t.hand t.frame)) (sym is.parts)
          (subst (λ (hand : Hand). Stand t.near ins_then outs_then (without_queue s.parts n) (joined hand t.frame)) (sym is.hand)
          (subst (λ (frame : FrameHand). Stand t.near ins_then outs_then (without_queue s.parts n) (joined s.hand frame)) (sym is.frame)
          left))

    module _ (s : Standing) (w new : World) (mixed : IsMixedAt s w) (by_way : AreByWay (queued w.driver) sends takes ins outs ends)
        (before : PipesStand sends takes packets sender taker s.near ins outs ends acc s.parts (joined s.hand s.frame) wire) where
      spared_so : (parts : StructureSets) (hand : Hand)
          → Spares sends takes s.near ins outs ends s.parts parts (joined s.hand s.frame) hand → Stand s.near ins outs parts hand
      spared_so parts hand k =
          spared sends takes s.near ins outs ends s.parts parts (joined s.hand s.frame) hand k packets sender taker acc wire before

      pub kept : (t : Standing) (step : QueueStep s w new t) → IsNoOpening step → AreStillMet t.near ins ins_then
          → AreStillMet t.near outs outs_then → PipesStand sends takes packets sender taker t.near ins_then outs_then ends acc t.parts
          (joined t.hand t.frame) wire
      kept _ (stays t none still) other ins_are outs_are =
          as_met t.near t.parts (joined t.hand t.frame) ins_are outs_are
          (subst (λ (near : ℕ → Bool). Stand near ins outs t.parts (joined t.hand t.frame)) (sym still.near)
          (spared_so t.parts (joined t.hand t.frame) (stays_spares sends takes ins outs ends s t still.told)))
      kept _ (harvests e t found due later row out) other ins_are outs_are =
          as_met s.near s.parts (joined s.hand s.frame) ins_are outs_are before
      kept _ (returns t y x row r) other ins_are outs_are =
          as_met s.near _ (joined s.hand s.frame) ins_are outs_are
          (returned s w mixed t y x r sends takes packets sender taker ins outs ends acc (joined s.hand s.frame) wire before)
      kept _ (lends b words get order out row behind) other ins_are outs_are =
          as_met s.near _ (joined s.hand s.frame) ins_are outs_are
          (spared_so _ (joined s.hand s.frame)
          (lend_spares s w mixed b words get sends takes ins outs ends by_way order out behind s.near (joined s.hand s.frame)))
      kept _ (stores b words g next) other ins_are outs_are =
          as_met s.near _ (joined s.hand s.frame) ins_are outs_are
          (spared_so _ (joined s.hand s.frame)
          (store_spares s w new mixed b words g next sends takes ins outs ends by_way s.near (joined s.hand s.frame)))
      kept _ (mends k row) other ins_are outs_are =
          as_met s.near _ _ ins_are outs_are (spared_so _ _ (mend_spares s w mixed k sends takes ins outs ends by_way))
      kept _ (begins k row alike) other ins_are outs_are =
          as_met s.near _ (joined s.hand s.frame) ins_are outs_are
          (spared_so _ (joined s.hand s.frame) (open_spares s w mixed k sends takes ins outs ends (joined s.hand s.frame)))
      kept _ (opens k t alike opened) other ins_are outs_are = absurd other
      kept _ (unlinks k row) other ins_are outs_are =
          as_met s.near _ _ ins_are outs_are
          (spared_so _ _ (unlink_spares (queued w.driver) s.near s.parts k sends takes ins outs ends s.hand s.frame))
      kept _ (narrows member near row are fewer) other ins_are outs_are =
          narrowed sends takes packets sender taker s.near near ins outs ins_then outs_then ends acc s.parts (joined s.hand s.frame) wire
          fewer ins_are outs_are before
      kept _ (goes e x d t back is) other ins_are outs_are = without s t (32 * x.queue) is ins_are outs_are before

pub each_step_keeps_pipes : {W : Type 0} (sender : W → ℕ → ℕ → Option Sender) (taker : W → ℕ → ℕ → Option Taker)
    → StepKeepsPipes sender taker
each_step_keeps_pipes sender taker sends takes packets ins outs ins_then outs_then ends acc wire s t w new mixed step other by_way ins_are
    outs_are before =
    kept sends takes packets sender taker ins outs ins_then outs_then ends acc wire s w new mixed by_way before t step other ins_are
    outs_are
