-- The siTD of a placed isochronous endpoint below a hub, and what its transactions cost (EHCI 1.0, 3.4, 4.12.3 and 4.12.3.3; USB 2.0,
-- 5.11.3 and 11.18.4): no part is dearer than the placement has for its microframe.
--     marks c               how many microframes of a progress mask are marked
--     IsInParts v most      while the siTD is active its bytes are no more than so many; of an OUT as many parts are left as they need,
--                           and with 188 more for each that is marked they are no more either; its position is that of the next part
--     IsSitdOf x v          it is one of the endpoint
--     IsSitdInHand x h u paid   its copy is in hand in microframe u, and so much was paid
--     IsSitdStill x u h n o     what is in hand, if anything is, is a copy of the same siTD, and so much was paid
--     GoesOnInParts x u h paid more q   an event leaves q, and cost so much; where the visit is over, nothing
--     PartsBy .. e              so it is whatever the bus replies
--     PartsStay                 a transaction leaves it so
--     PartsAreWithin            .. and costs no more than the placement has for its microframe
--     SitdsArePriced            each event costs its price, and the visit stays within the placement, whatever the bus replies
use Rattle.std.specs.Prelude.{◌≡◌, ℕ, ◌+◌, ◌*◌, ◌/◌, ◌%◌, ◌<◌, ◌≤◌, ◌==◌, nat_le, if◌then◌else◌, Bool, true, false, Option, Some, None}
use Rattle.usb_base.specs.declared.packets.Dir.{Dir}
use Rattle.usb_base.specs.declared.packets.Dir.TheVariants as ways
use Rattle.usb_base.specs.declared.packets.EpKind.TheVariants.{Iso}
use Rattle.usb_base.specs.declared.packets.Reply.{Reply}
use Rattle.itd_sitd.specs.declared.sitd.Sitd.{Sitd}
use Rattle.hc_iso.specs.declared.held.HeldSitd.{HeldSitd}
use Rattle.hc_iso.specs.declared.held.SitdTurn.TheVariants.{Work}
use Rattle.hc_iso.specs.Sitd.{sitd_turn, sitd_after}
use Rattle.bandwidth.specs.declared.placements.Placed.{Placed}
use Rattle.bandwidth.specs.Placements.{is_classic}
use Rattle.bandwidth.specs.Sums.{cost_in}
use Rattle.drv_periodic_table.specs.Descriptors.{parts_of}
use Rattle.periodic_walk.specs.declared.state.Hand.{Hand}
use Rattle.periodic_walk.specs.declared.state.Hand.TheVariants as hands
use Rattle.periodic_walk.specs.Place.{FramePlace, Effect}
use Rattle.periodic_walk.specs.Place.Effect.{Leaves, Asks}
use Rattle.periodic_walk.specs.Rows.{step_of, effect_of}
use Rattle.hc_core.specs.Controller.{hc_step}
use Rattle.claims_world.specs.Prices.{price_of, cost_of}
use Rattle.law_microframes.specs.time.SplitMasks.{HasSplitMasks}

abbrev pub marks : ℕ → ℕ
marks c = c % 2 + (c / 2 % 2 + (c / 4 % 2 + (c / 8 % 2 + (c / 16 % 2 + (c / 32 % 2 + (c / 64 % 2 + c / 128 % 2))))))

-- 0 is all, 1 the beginning, 2 the middle, 3 the end (3.4.4): by whether none was sent, and how many are left
abbrev pub position_of : Bool → ℕ → ℕ
position_of true left = if nat_le left 1 then 0 else 1
position_of false left = if nat_le left 1 then 3 else 2

pub record IsInParts (v : Sitd) (most : ℕ) : Type 0 where
  pub fits : v.active ≡ true → v.total ≤ most
  pub count : v.active ≡ true → v.dir_in ≡ false → v.t_count ≡ parts_of v.total
  pub within : v.active ≡ true → v.dir_in ≡ false → v.total + 188 * marks v.c_prog ≤ most
  pub position : v.active ≡ true → v.dir_in ≡ false → v.tp ≡ position_of (v.c_prog == 0) v.t_count

abbrev pub is_in : Dir → Bool
is_in ways.In = true
is_in ways.Out = false

pub record IsSitdOf (x : Placed) (v : Sitd) : Type 0 where
  pub classic : is_classic x.want.speed ≡ true
  pub kind : x.want.kind ≡ Iso
  pub some : 1 ≤ x.want.multi
  pub masks : HasSplitMasks x.placement
  pub way : v.dir_in ≡ is_in x.want.dir
  pub smask : v.smask ≡ x.placement.smask
  pub cmask : v.cmask ≡ x.placement.cmask
  pub prog : v.c_prog < 256

pub record IsSitdInHand (x : Placed) (h : HeldSitd) (u paid : ℕ) : Type 0 where
  pub descriptor : IsSitdOf x h.sitd
  pub parts : IsInParts h.sitd x.want.max
  pub none : h.settled ≡ None → paid ≡ 0
  pub one : paid ≤ cost_in x.want x.placement (u % 8)

abbrev pub IsSitdStill : Placed → ℕ → HeldSitd → ℕ → Option Hand → Type 0
IsSitdStill x u h n None = Unit {0}
IsSitdStill x u h n (Some (hands.Sitd k)) = IsSitdInHand x k u n × (k.at ≡ h.at)
IsSitdStill x u h n (Some (hands.Queue k)) = ⊥
IsSitdStill x u h n (Some (hands.Itd k)) = ⊥

pub record GoesOnInParts (x : Placed) (u : ℕ) (h : HeldSitd) (paid more : ℕ) (q : FramePlace) : Type 0 where
  pub index : q.walk.index ≡ u
  pub held : IsSitdStill x u h (paid + more) q.walk.hand
  pub ends : q.walk.hand ≡ None → more ≡ 0

abbrev pub PartsBy : Placed → FramePlace → HeldSitd → ℕ → ℕ → Effect → Type 0
PartsBy x p h paid more (Leaves q) = GoesOnInParts x p.walk.index h paid more q
PartsBy x p h paid more (Asks ask out by) = (reply : Reply) → GoesOnInParts x p.walk.index h paid more (by reply)

-- ---- the laws

abbrev pub PartsStay : Type 0
PartsStay = (v : Sitd) (most u : ℕ) (reply : Reply) → IsInParts v most → v.c_prog < 256 → u < 8 → sitd_turn u v ≡ Work
    → IsInParts (sitd_after u reply v) most

abbrev pub PartsAreWithin : Type 0
PartsAreWithin = (x : Placed) (h : HeldSitd) (u : ℕ) → IsSitdOf x h.sitd → IsInParts h.sitd x.want.max → u < 8 → sitd_turn u h.sitd ≡ Work
    → price_of (hands.Sitd h) ≤ cost_in x.want x.placement u

abbrev pub SitdsArePriced : Type 0
SitdsArePriced = (x : Placed) (p : FramePlace) (h : HeldSitd) (paid : ℕ) → p.walk.hand ≡ Some (hands.Sitd h)
    → IsSitdInHand x h p.walk.index paid
    → PartsBy x p h paid (cost_of (hc_step (step_of p)) (hands.Sitd h)) (effect_of p)
