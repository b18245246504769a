-- What the visits of one microframe cost together, at high speed (USB 2.0, 5.11.3; EHCI 1.0, 4.7, 4.10.3 and 4.12).
--     IsHeadOf x q       the queue head of a placed high-speed interrupt endpoint
--     IsItdOf x v        the descriptor of a placed high-speed isochronous endpoint
--     IsBegun, IsItdBegun     its copy in hand was just fetched
--     MeetsHead, MeetsDescriptor     a visit to it begins, in a frame or microframe of its placement
--     Visit, IsVisit     a visit to a placed endpoint: at most as many transactions as it may have in this microframe, none dearer than one
--                        of its largest packet
--     AreOfPlaced        the visits are of placed endpoints, no two of one
--     spent vs           all that these visits cost
--     ComesAfter         a visit that begins comes after these, and they took of the microframe what they cost
use Rattle.std.specs.Prelude.{◌≡◌, ◌≢◌, ℕ, ◌+◌, ◌/◌, ◌%◌, ◌<◌, ◌≤◌, true, ◌&&◌, List, [], ◌∷◌, sum_by, Some, None, slice_get, if◌then◌else◌}
use Rattle.std.specs.List.{AllByRecursion}
use Rattle.usb_base.specs.Cost.{bus_time}
use Rattle.usb_base.specs.declared.packets.EpKind.TheVariants.{Interrupt, Iso}
use Rattle.usb_base.specs.declared.packets.Speed.TheVariants.{High}
use Rattle.hc_iso.specs.declared.held.HeldItd.{HeldItd}
use Rattle.periodic_walk.specs.declared.state.HeldQueue.{HeldQueue}
use Rattle.usb_base.specs.declared.endpoints.EpDesc.{EpDesc}
use Rattle.drv_periodic_table.specs.Periodic.{want_of}
use Rattle.qh_qtd.specs.declared.queue_head.Qh.{Qh}
use Rattle.itd_sitd.specs.declared.itd.Itd.{Itd}
use Rattle.hc_interrupt.specs.Copies.{most_of}
use Rattle.bandwidth.specs.declared.placements.Want.{Want}
use Rattle.bandwidth.specs.declared.placements.Placement.{Placement}
use Rattle.bandwidth.specs.declared.placements.Placed.{Placed}
use Rattle.bandwidth.specs.Placements.{has}
use Rattle.bandwidth.specs.Sums.{Fits, is_active}
use Rattle.usb_base.specs.declared.packets.Reply.{Reply}
use Rattle.periodic_walk.specs.declared.state.Hand.TheVariants as hands
use Rattle.periodic_walk.specs.Place.{FramePlace}
use Rattle.law_budgets.specs.visit_prices.Prices.{prices, Costs}

pub record IsHeadOf (x : Placed) (q : Qh) : Type 0 where
  pub speed : x.want.speed ≡ High
  pub kind : x.want.kind ≡ Interrupt
  pub high : q.eps ≡ 2
  pub max : q.max ≡ x.want.max
  pub multi : most_of q ≡ x.want.multi
  pub smask : q.smask ≡ x.placement.smask

pub record IsItdOf (x : Placed) (v : Itd) : Type 0 where
  pub speed : x.want.speed ≡ High
  pub kind : x.want.kind ≡ Iso
  pub max : v.max ≡ x.want.max

-- its copy was just fetched, its overlay active: not with a SETUP, which no interrupt endpoint has
pub record IsBegun (h : HeldQueue) : Type 0 where
  pub unsettled : h.copy.settled ≡ None
  pub none : h.made ≡ 0
  pub active : h.copy.queue_head.token.active ≡ true
  pub pid : h.copy.queue_head.token.pid ≤ 1
  pub few : most_of h.copy.queue_head ≤ 3

-- its copy was just fetched, with no more packets to come than the endpoint may have
pub record IsItdBegun (x : Placed) (h : HeldItd) : Type 0 where
  pub going : h.ended ≡ None
  pub some : 1 ≤ h.rest
  pub few : h.rest ≤ x.want.multi

-- the endpoint e of the driver, so described, at this placement
abbrev pub placed_as : ℕ → EpDesc → Placement → Placed
placed_as e x p = record { want = want_of e x; placement = p }

-- how many transactions it may have in microframe u
abbrev pub most_in : Placed → ℕ → ℕ
most_in x u = if is_active x.placement (u / 8) && has x.placement.smask (u % 8) then x.want.multi else 0

-- the price of a transaction of its largest packet
abbrev pub largest : Want → ℕ
largest w = bus_time High w.kind w.dir w.max

pub record Visit : Type 0 where
  pub of : Placed
  pub prices : List ℕ

-- from this place on, over these replies
abbrev pub visit_from : Placed → FramePlace → List Reply → Visit
visit_from x p rs = record { of = x; prices = prices p rs }

-- its queue head was just fetched, in a frame of its placement
pub record MeetsHead (x : Placed) (p : FramePlace) (h : HeldQueue) : Type 0 where
  pub hand : p.walk.hand ≡ Some (hands.Queue h)
  pub head : IsHeadOf x h.copy.queue_head
  pub begun : IsBegun h
  pub frame : is_active x.placement (p.walk.index / 8) ≡ true

-- its descriptor was just fetched, in a microframe of its placement
pub record MeetsDescriptor (x : Placed) (p : FramePlace) (h : HeldItd) : Type 0 where
  pub hand : p.walk.hand ≡ Some (hands.Itd h)
  pub descriptor : IsItdOf x h.itd
  pub begun : IsItdBegun x h
  pub frame : is_active x.placement (p.walk.index / 8) ≡ true
  pub own : has x.placement.smask (p.walk.index % 8) ≡ true

pub record IsVisit (u : ℕ) (v : Visit) : Type 0 where
  pub speed : v.of.want.speed ≡ High
  pub costs : Costs (most_in v.of u) (largest v.of.want) v.prices

pub record IsAmong (placed : List Placed) (x : Placed) : Type 0 where
  pub place : ℕ
  pub there : slice_get placed place ≡ Some x

abbrev pub AreApart : List Visit → Type 0
AreApart [] = Unit {0}
AreApart (v ∷ vs) = AllByRecursion (λ w. w.of.want.id ≢ v.of.want.id) vs × AreApart vs

pub record AreOfPlaced (placed : List Placed) (vs : List Visit) : Type 0 where
  pub among : AllByRecursion (λ v. IsAmong placed v.of) vs
  pub apart : AreApart vs

abbrev pub total : List ℕ → ℕ
total ps = sum_by (λ price. price) ps

abbrev pub spent : List Visit → ℕ
spent vs = sum_by (λ v. total v.prices) vs

-- a visit that begins at p comes after these visits of its microframe, of whose 125 microseconds they took what they cost
pub record ComesAfter (placed : List Placed) (vs : List Visit) (x : Placed) (p : FramePlace) (rs : List Reply) : Type 0 where
  pub fits : Fits placed
  pub small : p.walk.index < 8192
  pub of : AreOfPlaced placed (visit_from x p rs ∷ vs)
  pub visits : AllByRecursion (IsVisit p.walk.index) vs
  pub left : p.walk.left + spent vs ≡ 125000000
