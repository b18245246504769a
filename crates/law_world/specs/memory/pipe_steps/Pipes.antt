-- The streams of the endpoints at high speed of a driver with endpoints of every kind, beside all others (EHCI 1.0, 4.6, 4.8 and 4.10; USB
-- 2.0, 5.7, 5.8 and 8.6). What a walk has in hand is one hand, whichever walk it is.
--     PipesStand ..      the queue heads `ins` are those of IN endpoints with a stream, `outs` those of OUT endpoints with one; both
--                        sides of the pipe of each agree, where `acc` are the packets that moved; no other queue head that is met asks
--                        one of these endpoints, or sends to one
--     AsksTheWay ..      an endpoint whose queue head is at n has a stream of its way, or the streams of that way aren't its; a control
--                        endpoint has none
--     AreByWay d ..      so it is of each endpoint that is met, and the head of the ring has none
--     AreStillMet near those left      those of these queue heads that are still met
use Rattle.std.specs.Prelude.{◌≡◌, ℕ, ◌*◌, ◌&&◌, ◌⊎◌, Bool, true, false, List, slice_get, Option, Some}
use Rattle.std.specs.List.{concat}
use Rattle.usb_base.specs.declared.packets.Way.{Way}
use Rattle.usb_base.specs.declared.packets.Way.TheVariants as ways
use Rattle.drv_table.specs.declared.content.Endpoint.{Endpoint}
use Rattle.drv_table.specs.DriverContent.{DriverContent}
use Rattle.drv_table.specs.Words.{head_block}
use Rattle.law_structures.specs.lent_structures.Structures.{StructureSets}
use Rattle.law_ring.specs.Hand.{Hand}
use Rattle.law_ring.specs.Told.{Endpoint as Told}
use Rattle.law_ring.specs.Bus.{Sender}
use Rattle.law_ring.specs.Pipes.{AreEndpoints, ArePiped}
use Rattle.law_ring.specs.OutBus.{Taker}
use Rattle.law_driver_ring.specs.fed_queues.Places.{IsMet}
use Rattle.law_world.specs.steps.Outs.{AreOutPiped}

pub record PipesStand {W : Type 0} (sends takes : ℕ → ℕ → Bool) (packets : ℕ → ℕ → List (List ℕ)) (sender : W → ℕ → ℕ → Option Sender)
    (taker : W → ℕ → ℕ → Option Taker) (near ins outs : ℕ → Bool) (ends : ℕ → Told) (acc : ℕ → List (List ℕ)) (parts : StructureSets)
    (hand : Hand) (wire : W) : Type 0 where
  pub in_ends : AreEndpoints sends near ins ends
  pub in_pipes : ArePiped sends packets sender near ins ends acc parts hand wire
  pub out_ends : AreEndpoints takes near outs ends
  pub out_pipes : AreOutPiped takes taker near outs ends (λ n. concat (acc n)) parts hand wire

-- ---- which endpoints have one

abbrev pub AsksTheWay : (ℕ → ℕ → Bool) → (ℕ → ℕ → Bool) → (ℕ → Bool) → (ℕ → Bool) → (ℕ → Told) → ℕ → Way → Type 0
AsksTheWay sends takes ins outs ends n ways.In = (outs n ≡ false) × ((ins n ≡ true) ⊎ (sends (ends n).addr (ends n).ep ≡ false))
AsksTheWay sends takes ins outs ends n ways.Out = (ins n ≡ false) × ((outs n ≡ true) ⊎ (takes (ends n).addr (ends n).ep ≡ false))
AsksTheWay sends takes ins outs ends n ways.Ctl = (ins n ≡ false) × (outs n ≡ false)
    × (sends (ends n).addr (ends n).ep ≡ false) × (takes (ends n).addr (ends n).ep ≡ false)

pub record AreByWay (d : DriverContent) (sends takes : ℕ → ℕ → Bool) (ins outs : ℕ → Bool) (ends : ℕ → Told) : Type 0 where
  pub each : (e : ℕ) (x : Endpoint) → slice_get d.endpoints e ≡ Some x → IsMet d e x
      → AsksTheWay sends takes ins outs ends (32 * x.queue) x.desc.name.way
  pub head : (ins (32 * head_block) ≡ false) × (outs (32 * head_block) ≡ false)

abbrev pub AreStillMet : (ℕ → Bool) → (ℕ → Bool) → (ℕ → Bool) → Type 0
AreStillMet near those left = (n : ℕ) → left n ≡ (those n && near n)
