-- What one event of the walk of a frame's chain costs, told by the copy in hand, at high speed (EHCI 1.0, 4.7, 4.10 and 4.10.3; USB 2.0, 5.9 and 5.11.3). An event is told from the place
-- where it begins, whatever memory and registers are there, so that charges can be summed along a run in which memory is written between the events.
--     charge p new                 what an event that leads from p to new takes of the time that is left
--     HasRoom most made o          before a transaction fewer than so many were made in the visit, and after it no more than that
--     IsHeadInHand x h u           h is a copy of the queue head of the placed high-speed interrupt endpoint x, in a visit of microframe u
--     HasPackets rest o            while a descriptor isn't ended a packet is to come
--     IsItdInHand x h u            h is a copy of a descriptor of the placed high-speed isochronous endpoint x, in a visit of microframe u
--     IsInHandOf x u hand          the copy in hand is one of these two; none of split transactions is
--     made_of hand                 how many transactions were made in the visit
--     rest_of hand                 how many packets of a descriptor are to come, at most
--     TakesData p hand             a qTD that the event takes is of an IN or an OUT, whose PID code is at most 1: a SETUP, which has eight bytes, may be dearer than the largest packet
--     GoesOn x u hand n k          the visit goes on at the same structure: k is in hand then, with n transactions made
--     GoesOnOrEnds x u hand o      so the visit goes on with as many made as before, or it is over and nothing is in hand
--     RestsAt x p old q            an event that asks nothing leaves q: it costs nothing, and the visit goes on or is over
--     UsesSlot u old k             a descriptor's slot of this microframe is active, and fewer packets are to come with k in hand
--     WorksAt x p old q            an event with a transaction leaves q: it costs at most one of the largest packet
--     IsPriced x p hand e          what an event does is one of the two, and the latter where it asks, whatever the reply
--     IsCharging x p hand q        an event leaves q, by one of the two
--     IsFree p e                   what an event does asks nothing and costs nothing
--     IsCharged x hand paid        what was paid in the visit is no more than its transactions may cost
--     IsHeldFor x u hand paid      the copy is in hand, and so much was paid
--     IsHeldStill x u paid o       so it is of what is in hand, if anything is
--     IsSummed x p paid q          so it is with the event's charge, and where the visit is over that is 0
--     BeginsHead x p a q           the next event fetches the queue head q at the address a, of the endpoint x
--     BeginsItd x p a v            the same of a descriptor
--     Begins x p copy q            a visit begins, with this in hand and nothing paid
use Rattle.std.specs.Prelude.{◌≡◌, ℕ, ◌+◌, ◌-◌, ◌*◌, ◌/◌, ◌%◌, ◌<◌, ◌≤◌, ◌⊎◌, true, false, List, Option, Some, None}
use Rattle.usb_base.specs.declared.packets.Ask.{Ask}
use Rattle.usb_base.specs.declared.packets.Reply.{Reply}
use Rattle.qh_qtd.specs.declared.qtd.Qtd.{Qtd}
use Rattle.qh_qtd.specs.declared.queue_head.Qh.{Qh}
use Rattle.itd_sitd.specs.declared.itd.Itd.{Itd}
use Rattle.itd_sitd.specs.Itd.{slot_of}
use Rattle.toggle_error.specs.declared.host.Outcome.{Outcome}
use Rattle.hc_iso.specs.declared.held.HeldItd.{HeldItd}
use Rattle.hc_iso.specs.declared.held.IsoEnd.{IsoEnd}
use Rattle.bandwidth.specs.declared.placements.Placed.{Placed}
use Rattle.bandwidth.specs.Placements.{has}
use Rattle.bandwidth.specs.Sums.{is_active}
use Rattle.periodic_walk.specs.declared.chain.ChainRow.TheVariants as chain_rows
use Rattle.periodic_walk.specs.declared.queue.QueueRow.TheVariants as queue_rows
use Rattle.periodic_walk.specs.declared.state.HeldQueue.{HeldQueue}
use Rattle.periodic_walk.specs.declared.state.Hand.{Hand}
use Rattle.periodic_walk.specs.declared.state.Hand.TheVariants as hands
use Rattle.periodic_walk.specs.Walk.{hand_address}
use Rattle.periodic_walk.specs.Place.{FramePlace, Effect}
use Rattle.periodic_walk.specs.Place.Effect.{Leaves, Asks}
use Rattle.periodic_walk.specs.Chain.{chain_row}
use Rattle.periodic_walk.specs.Queue.{queue_row}
use Rattle.periodic_walk.specs.Rows.{effect_of, Leads}
use Rattle.law_budgets.specs.visit_prices.Prices.{after}
use Rattle.claims_world.specs.InTime.{is_late}
use Rattle.law_budgets.specs.visit_prices.Spent.{IsHeadOf, IsItdOf, largest, most_in}
use Rattle.law_budgets.specs.visit_prices.Fetched.{queue_copy, itd_copy}

abbrev pub charge : FramePlace → FramePlace → ℕ
charge p new = p.walk.left - new.walk.left

-- ---- what is in hand

abbrev pub HasRoom : ℕ → ℕ → Option Outcome → Type 0
HasRoom most made None = made < most
HasRoom most made (Some outcome) = made ≤ most

-- transactions are made in the microframes of its S-mask alone
pub record IsHeadInHand (x : Placed) (h : HeldQueue) (u : ℕ) : Type 0 where
  pub head : IsHeadOf x h.copy.queue_head
  pub few : x.want.multi ≤ 3
  pub pid : h.copy.queue_head.token.active ≡ true → h.copy.queue_head.token.pid ≤ 1
  pub room : HasRoom x.want.multi h.made h.copy.settled
  pub own : 1 ≤ h.made → has x.placement.smask (u % 8) ≡ true

abbrev pub HasPackets : ℕ → Option IsoEnd → Type 0
HasPackets rest None = 1 ≤ rest
HasPackets rest (Some ended) = Unit {0}

-- its slots are active in the microframes of its placement alone
pub record IsItdInHand (x : Placed) (h : HeldItd) (u : ℕ) : Type 0 where
  pub descriptor : IsItdOf x h.itd
  pub packets : h.rest + h.made ≤ x.want.multi
  pub room : HasPackets h.rest h.ended
  pub slot : h.slot.active ≡ (slot_of (u % 8) h.itd).active
  pub placed : (slot_of (u % 8) h.itd).active ≡ true → has x.placement.smask (u % 8) ≡ true
  pub own : 1 ≤ h.made → has x.placement.smask (u % 8) ≡ true

abbrev pub IsInHandOf : Placed → ℕ → Hand → Type 0
IsInHandOf x u (hands.Queue h) = IsHeadInHand x h u
IsInHandOf x u (hands.Itd h) = IsItdInHand x h u
IsInHandOf x u (hands.Sitd h) = ⊥

abbrev pub made_of : Hand → ℕ
made_of (hands.Queue h) = h.made
made_of (hands.Itd h) = h.made
made_of (hands.Sitd h) = 0

abbrev pub rest_of : Hand → ℕ
rest_of (hands.Queue h) = 0
rest_of (hands.Itd h) = h.rest
rest_of (hands.Sitd h) = 0

abbrev pub TakesData : FramePlace → Hand → Type 0
TakesData p (hands.Queue h) = (a : ℕ) (t : Qtd) → queue_row p h ≡ queue_rows.Advance a t → t.token.pid ≤ 1
TakesData p (hands.Itd h) = Unit {0}
TakesData p (hands.Sitd h) = Unit {0}

-- ---- an event

pub record GoesOn (x : Placed) (u : ℕ) (hand : Hand) (n : ℕ) (k : Hand) : Type 0 where
  pub of : IsInHandOf x u k
  pub made : made_of k ≡ n
  pub address : hand_address k ≡ hand_address hand

abbrev pub GoesOnOrEnds : Placed → ℕ → Hand → Option Hand → Type 0
GoesOnOrEnds x u hand None = Unit {0}
GoesOnOrEnds x u hand (Some k) = GoesOn x u hand (made_of hand) k

pub record RestsAt (x : Placed) (p : FramePlace) (old : Hand) (q : FramePlace) : Type 0 where
  pub left : q.walk.left ≡ p.walk.left
  pub index : q.walk.index ≡ p.walk.index
  pub hand : GoesOnOrEnds x p.walk.index old q.walk.hand

abbrev pub UsesSlot : ℕ → Hand → Hand → Type 0
UsesSlot u (hands.Queue h) k = Unit {0}
UsesSlot u (hands.Itd h) k = ((slot_of (u % 8) h.itd).active ≡ true) × (rest_of k < h.rest)
UsesSlot u (hands.Sitd h) k = ⊥

pub record WorksAt (x : Placed) (p : FramePlace) (old : Hand) (q : FramePlace) : Type 0 where
  pub own : has x.placement.smask (p.walk.index % 8) ≡ true
  pub most : charge p q ≤ largest x.want
  pub left : q.walk.left ≤ p.walk.left
  pub index : q.walk.index ≡ p.walk.index
  pub copy : Hand
  pub hand : q.walk.hand ≡ Some copy
  pub going : GoesOn x p.walk.index old (made_of old + 1) copy
  pub slot : UsesSlot p.walk.index old copy

abbrev pub IsPriced : Placed → FramePlace → Hand → Effect → Type 0
IsPriced x p hand (Leaves q) = RestsAt x p hand q
IsPriced x p hand (Asks ask out by) = (reply : Reply) → WorksAt x p hand (by reply)

abbrev pub IsCharging : Placed → FramePlace → Hand → FramePlace → Type 0
IsCharging x p hand q = RestsAt x p hand q ⊎ WorksAt x p hand q

abbrev pub IsFree : FramePlace → Effect → Type 0
IsFree p (Leaves q) = (q.walk.left ≡ p.walk.left) × (q.walk.index ≡ p.walk.index)
IsFree p (Asks ask out by) = ⊥

-- ---- what was paid in a visit

abbrev pub IsCharged : Placed → Hand → ℕ → Type 0
IsCharged x hand paid = paid ≤ made_of hand * largest x.want

pub record IsHeldFor (x : Placed) (u : ℕ) (hand : Hand) (paid : ℕ) : Type 0 where
  pub of : IsInHandOf x u hand
  pub charged : IsCharged x hand paid

abbrev pub IsHeldStill : Placed → ℕ → ℕ → Option Hand → Type 0
IsHeldStill x u paid None = Unit {0}
IsHeldStill x u paid (Some k) = IsHeldFor x u k paid

pub record IsSummed (x : Placed) (p : FramePlace) (paid : ℕ) (q : FramePlace) : Type 0 where
  pub index : q.walk.index ≡ p.walk.index
  pub left : q.walk.left + charge p q ≡ p.walk.left
  pub held : IsHeldStill x p.walk.index (paid + charge p q) q.walk.hand
  pub ends : q.walk.hand ≡ None → charge p q ≡ 0

-- ---- a visit begins

pub record BeginsHead (x : Placed) (p : FramePlace) (a : ℕ) (q : Qh) : Type 0 where
  pub free : p.walk.hand ≡ None
  pub row : chain_row p.memory p.walk.cursor ≡ chain_rows.Queue a q
  pub head : IsHeadOf x q
  pub few : x.want.multi ≤ 3
  pub pid : q.token.active ≡ true → q.token.pid ≤ 1

pub record BeginsItd (x : Placed) (p : FramePlace) (a : ℕ) (v : Itd) : Type 0 where
  pub free : p.walk.hand ≡ None
  pub row : chain_row p.memory p.walk.cursor ≡ chain_rows.Itd a v
  pub descriptor : IsItdOf x v
  pub some : 1 ≤ v.multi
  pub multi : v.multi ≤ x.want.multi
  pub placed : (slot_of (p.walk.index % 8) v).active ≡ true → has x.placement.smask (p.walk.index % 8) ≡ true

pub record Begins (x : Placed) (p : FramePlace) (copy : Hand) (q : FramePlace) : Type 0 where
  pub left : q.walk.left ≡ p.walk.left
  pub index : q.walk.index ≡ p.walk.index
  pub hand : q.walk.hand ≡ Some copy
  pub held : IsHeldFor x p.walk.index copy 0

-- ---- the laws

-- while such a copy is in hand an event asks nothing and costs nothing, or makes one transaction and costs at most one of the largest packet
abbrev pub EventsArePriced : Type 0
EventsArePriced = (x : Placed) (p : FramePlace) (hand : Hand) → p.walk.hand ≡ Some hand → IsInHandOf x p.walk.index hand → TakesData p hand → IsPriced x p hand (effect_of p)

-- so it is of what it leaves, whatever the bus replies
abbrev pub EventsAreCharged : Type 0
EventsAreCharged = (x : Placed) (p : FramePlace) (hand : Hand) (r : Reply) → p.walk.hand ≡ Some hand → IsInHandOf x p.walk.index hand → TakesData p hand → IsCharging x p hand (after p r)

-- and over a wire of which only a relation is known
abbrev pub LeadsAreCharged : {W : Type 0} → (W → Ask → List ℕ → Reply → W → Type 0) → Type 0
LeadsAreCharged {W} transacts = (x : Placed) (p q : FramePlace) (before later : W) (hand : Hand) → p.walk.hand ≡ Some hand → IsInHandOf x p.walk.index hand
    → TakesData p hand → Leads transacts p before q later → IsCharging x p hand q

-- with nothing in hand an event asks nothing and costs nothing
abbrev pub ChainsAreFree : Type 0
ChainsAreFree = (p : FramePlace) → p.walk.hand ≡ None → IsFree p (effect_of p)

abbrev pub ChainsCostNothing : {W : Type 0} → (W → Ask → List ℕ → Reply → W → Type 0) → Type 0
ChainsCostNothing {W} transacts = (p q : FramePlace) (before later : W) → p.walk.hand ≡ None → Leads transacts p before q later → charge p q ≡ 0

-- where there is time for one transaction of the largest packet, none is skipped for want of it
abbrev pub EnoughTimeSkipsNothing : Type 0
EnoughTimeSkipsNothing = (x : Placed) (p : FramePlace) (hand : Hand) → p.walk.hand ≡ Some hand → IsInHandOf x p.walk.index hand → largest x.want ≤ p.walk.left → is_late p ≡ false

-- a fetch begins a visit, of which nothing is paid
abbrev pub HeadFetchesBeginCharges : Type 0
HeadFetchesBeginCharges = (x : Placed) (p : FramePlace) (a : ℕ) (q : Qh) (r : Reply) → BeginsHead x p a q → Begins x p (hands.Queue (queue_copy a q)) (after p r)

abbrev pub DescriptorFetchesBeginCharges : Type 0
DescriptorFetchesBeginCharges = (x : Placed) (p : FramePlace) (a : ℕ) (v : Itd) (r : Reply) → BeginsItd x p a v → Begins x p (hands.Itd (itd_copy p a v)) (after p r)

-- each event adds its charge
abbrev pub ChargesAreSummed : Type 0
ChargesAreSummed = (x : Placed) (p q : FramePlace) (hand : Hand) (paid : ℕ) → IsHeldFor x p.walk.index hand paid → IsCharging x p hand q → IsSummed x p paid q

-- no visit costs more than all transactions that the endpoint may have in a microframe, and in a frame of the placement than those of this one
abbrev pub ChargesAreBounded : Type 0
ChargesAreBounded = (x : Placed) (u : ℕ) (hand : Hand) (paid : ℕ) → IsHeldFor x u hand paid → paid ≤ x.want.multi * largest x.want

abbrev pub ChargesArePlaced : Type 0
ChargesArePlaced = (x : Placed) (u : ℕ) (hand : Hand) (paid : ℕ) → IsHeldFor x u hand paid → is_active x.placement (u / 8) ≡ true → paid ≤ most_in x u * largest x.want
