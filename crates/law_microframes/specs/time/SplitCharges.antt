-- What one event of the walk of a frame's chain costs below a hub, told by the copy in hand (EHCI 1.0, 3.6.2, 4.10, 4.12.2 and 4.12.2.4; USB 2.0, 5.11.3 and 11.18): a start-split or a
-- complete-split costs no more than the placement has for its microframe; one that is made again at once counts apart.
--     IsSplitHeadOf x q           the queue head of a placed interrupt endpoint below a hub
--     IsSplitInHand x h u paid    its copy is in hand in microframe u, and so much was paid: nothing before its transaction, and no more than the placement has for it
--     IsPaidFor x u hand paid     so it is, or the copy is that of a placed high-speed endpoint, or of a siTD of a placed isochronous one
--     TakesWay x p hand           a qTD that the event takes is of the endpoint's way
--     added step hand             what an event of this kind adds to what was paid: nothing, where the transaction is made again
--     IsPaidStill x u hand n o    what is in hand, if anything is, is a copy of the same structure, and so much was paid
--     GoesOnPaid x u hand paid more q    an event leaves q, and added so much; where the visit is over, nothing
--     PaysBy .. e                 so it is whatever the bus replies
--     SplitsArePriced             the law
use Rattle.std.specs.Prelude.{◌≡◌, ℕ, ◌+◌, ◌%◌, ◌≤◌, ◌==◌, true, false, Option, Some, None, if◌then◌else◌}
use Rattle.usb_base.specs.declared.packets.EpKind.TheVariants.{Interrupt}
use Rattle.usb_base.specs.declared.packets.Reply.{Reply}
use Rattle.qh_qtd.specs.declared.qtd.Qtd.{Qtd}
use Rattle.qh_qtd.specs.declared.queue_head.Qh.{Qh}
use Rattle.hc_iso.specs.declared.held.HeldSitd.{HeldSitd}
use Rattle.bandwidth.specs.declared.placements.Placed.{Placed}
use Rattle.bandwidth.specs.Placements.{is_classic}
use Rattle.bandwidth.specs.Sums.{cost_in}
use Rattle.periodic_walk.specs.declared.queue.QueueRow.TheVariants as queue_rows
use Rattle.periodic_walk.specs.declared.state.HeldQueue.{HeldQueue}
use Rattle.periodic_walk.specs.declared.state.Hand.{Hand}
use Rattle.periodic_walk.specs.declared.state.Hand.TheVariants as hands
use Rattle.periodic_walk.specs.Walk.{hand_address}
use Rattle.periodic_walk.specs.Place.{FramePlace, Effect}
use Rattle.periodic_walk.specs.Place.Effect.{Leaves, Asks}
use Rattle.periodic_walk.specs.Queue.{queue_row}
use Rattle.periodic_walk.specs.Rows.{step_of, effect_of}
use Rattle.hc_core.specs.declared.controller.HcStep.{HcStep}
use Rattle.hc_core.specs.Controller.{hc_step}
use Rattle.claims_world.specs.Prices.{cost_of}
use Rattle.claims_world.specs.WithinLoad.{is_again}
use Rattle.law_microframes.specs.time.Charges.{IsHeldFor}
use Rattle.law_microframes.specs.time.DataQueues.{pid_of}
use Rattle.law_microframes.specs.time.SitdParts.{IsSitdInHand}
use Rattle.law_microframes.specs.time.SplitMasks.{HasSplitMasks}

-- ---- what is in hand

pub record IsSplitHeadOf (x : Placed) (q : Qh) : Type 0 where
  pub classic : is_classic x.want.speed ≡ true
  pub kind : x.want.kind ≡ Interrupt
  pub some : 1 ≤ x.want.multi
  pub masks : HasSplitMasks x.placement
  pub below : (q.eps == 2) ≡ false
  pub max : q.max ≡ x.want.max
  pub smask : q.smask ≡ x.placement.smask
  pub cmask : q.cmask ≡ x.placement.cmask

pub record IsSplitInHand (x : Placed) (h : HeldQueue) (u paid : ℕ) : Type 0 where
  pub head : IsSplitHeadOf x h.copy.queue_head
  pub pid : h.copy.queue_head.token.active ≡ true → h.copy.queue_head.token.pid ≡ pid_of x.want.dir
  pub none : h.made ≡ 0 → paid ≡ 0
  pub one : paid ≤ cost_in x.want x.placement (u % 8)

pub data IsPaidFor (x : Placed) (u : ℕ) (hand : Hand) (paid : ℕ) : Type 0 where
  at_high : IsHeldFor x u hand paid → IsPaidFor x u hand paid
  at_split : (h : HeldQueue) → hand ≡ hands.Queue h → IsSplitInHand x h u paid → IsPaidFor x u hand paid
  at_sitd : (h : HeldSitd) → hand ≡ hands.Sitd h → IsSitdInHand x h u paid → IsPaidFor x u hand paid

abbrev pub TakesWay : Placed → FramePlace → Hand → Type 0
TakesWay x p (hands.Queue h) = (a : ℕ) (t : Qtd) → queue_row p h ≡ queue_rows.Advance a t → t.token.pid ≡ pid_of x.want.dir
TakesWay x p (hands.Itd h) = Unit {0}
TakesWay x p (hands.Sitd h) = Unit {0}

-- ---- an event

abbrev pub added : HcStep → Hand → ℕ
added step hand = if is_again hand then 0 else cost_of step hand

abbrev pub IsPaidStill : Placed → ℕ → Hand → ℕ → Option Hand → Type 0
IsPaidStill x u hand n None = Unit {0}
IsPaidStill x u hand n (Some k) = IsPaidFor x u k n × (hand_address k ≡ hand_address hand)

pub record GoesOnPaid (x : Placed) (u : ℕ) (hand : Hand) (paid more : ℕ) (q : FramePlace) : Type 0 where
  pub index : q.walk.index ≡ u
  pub held : IsPaidStill x u hand (paid + more) q.walk.hand
  pub ends : q.walk.hand ≡ None → more ≡ 0

abbrev pub PaysBy : Placed → FramePlace → Hand → ℕ → ℕ → Effect → Type 0
PaysBy x p hand paid more (Leaves q) = GoesOnPaid x p.walk.index hand paid more q
PaysBy x p hand paid more (Asks ask out by) = (reply : Reply) → GoesOnPaid x p.walk.index hand paid more (by reply)

-- ---- the law

-- each event adds its price, whatever the bus replies
abbrev pub SplitsArePriced : Type 0
SplitsArePriced = (x : Placed) (p : FramePlace) (h : HeldQueue) (paid : ℕ) → p.walk.hand ≡ Some (hands.Queue h)
    → IsSplitInHand x h p.walk.index paid → TakesWay x p (hands.Queue h)
    → PaysBy x p (hands.Queue h) paid (added (hc_step (step_of p)) (hands.Queue h)) (effect_of p)
