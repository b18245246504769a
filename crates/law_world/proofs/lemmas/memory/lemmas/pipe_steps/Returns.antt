-- A harvested transfer's blocks are given back: no queue head works on them.
use Rattle.std.proofs.Common.{◌≡◌, ℕ, ◌*◌, Bool, false, List, Option, sym, ◌∙◌}
use Rattle.std.specs.List.{concat}
use Rattle.law_world.proofs.Common.{none_some}
use Rattle.qh_qtd.specs.declared.queue_head.Qh.{Qh}
use Rattle.drv_table.specs.declared.content.Command.TheVariants as unfinished
use Rattle.drv_table.specs.declared.content.Endpoint.{Endpoint}
use Rattle.drv_table.specs.declared.content.Transfer.{Transfer}
use Rattle.law_driver.proofs.lemmas.chained_transfers.Holding.{held_alive}
use Rattle.law_driver.specs.queued_drivers.Queued.{queued, queued_parts}
use Rattle.law_ring.specs.Fewer.{without_those}
use Rattle.law_ring.specs.QueueParts.{IsQueuePart}
use Rattle.law_ring.specs.Told.{Endpoint as Told}
use Rattle.law_ring.specs.Hand.{Hand}
use Rattle.law_ring.specs.Bus.{Sender}
use Rattle.law_ring.specs.OutBus.{Taker}
use Rattle.law_controller.proofs.lemmas.controlled_streams.Returning.{pipes_stay}
use Rattle.law_driver_ring.specs.Released.{goes_of}
use Rattle.law_driver_ring.specs.fed_queues.Places.{IsMet}
use Rattle.law_queues.specs.released_queues.Released.{IsReturning}
use Rattle.law_queues.specs.released_queues.Staying.{QueuesAreTold}
use Rattle.law_queues.proofs.lemmas.released_queues.StayingParts.{head_stays, buffers_stay, may_go}
use Rattle.law_world.proofs.lemmas.steps.Returning.{return_pipes}
use Rattle.bus_world.specs.World.{World, driver_parts}
use Rattle.law_world.specs.memory.Mixed.{Standing, IsMixedAt}
use Rattle.law_world.specs.memory.pipe_steps.Pipes.{PipesStand}
use Rattle.law_world.proofs.lemmas.memory.HarvestKept.{owners_of, driven_of, runs_of, fronts_of}

module _ (s : Standing) (w : World) (mixed : IsMixedAt s w) (t : ℕ) (y : Transfer) (x : Endpoint)
    (r : IsReturning (queued w.driver) t y x) where
  abbrev n : ℕ
  n = 32 * x.queue

  met : IsMet (queued w.driver) y.endpoint x
  met = record {
    there = record {
      linked = λ is. none_some (unfinished.Open x.queue) (sym r.free ∙ is);
      kept = held_alive (queued w.driver) t y x mixed.turns.turns.turns r.here r.held r.endpoint;
    };
    near = r.near;
  }

  part : IsQueuePart (32 * x.queue) (s.parts (32 * x.queue))
  part = mixed.queues.sound y.endpoint x r.endpoint met

  told : QueuesAreTold s.parts (queued_parts (driver_parts w)) s.order s.out
  told = record {
    driven = driven_of s w mixed;
    owners = owners_of s w mixed;
    in_runs = runs_of s w mixed;
    asynchronous = mixed.turns.turns.asynchronous;
    chained = mixed.turns.turns.chained;
    turns = mixed.turns.turns.turns;
    fed = mixed.queues.queues.fed;
    last = mixed.queues.queues.last;
    still_out = mixed.queues.queues.out_are;
    fronts = fronts_of s w mixed;
    rise = mixed.queues.controls.rises;
  }

  pub returned : {W : Type 0} (sends takes : ℕ → ℕ → Bool) (packets : ℕ → ℕ → List (List ℕ)) (sender : W → ℕ → ℕ → Option Sender)
      (taker : W → ℕ → ℕ → Option Taker) (ins outs : ℕ → Bool) (ends : ℕ → Told) (acc : ℕ → List (List ℕ)) (hand : Hand) (wire : W)
      → PipesStand sends takes packets sender taker s.near ins outs ends acc s.parts hand wire
      → PipesStand sends takes packets sender taker s.near ins outs ends acc
      (without_those s.parts (32 * x.queue) (goes_of w.driver y)) hand wire
  returned sends takes packets sender taker ins outs ends acc hand wire k =
      let q = queued_parts (driver_parts w) in
      let head : goes_of w.driver y (32 * x.queue) ≡ false = head_stays s.parts q s.order s.out t y x told r part in
      record {
        in_ends = k.in_ends;
        in_pipes = pipes_stay sender sends packets s.near ins ends acc s.parts hand wire (32 * x.queue) (goes_of w.driver y) head
            k.in_pipes;
        out_ends = k.out_ends;
        out_pipes =
            return_pipes taker takes s.near outs ends (λ i. concat (acc i)) s.parts hand wire (32 * x.queue) (goes_of w.driver y) head
            (buffers_stay s.parts q s.order s.out t y x told r part)
            (λ (h : Qh) here on. (may_go s.parts q s.order s.out t y x told r part h here).work on) k.out_pipes;
      }
