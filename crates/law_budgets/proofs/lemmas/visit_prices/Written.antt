-- What the driver writes for a placed high-speed endpoint is its queue head, or its descriptor.
use Rattle.std.proofs.Common.{◌≡◌, ℕ, ◌≤◌, List, refl, ap, arith}
use Rattle.std.specs.Prelude.{max}
use Rattle.usb_base.specs.declared.endpoints.EpDesc.{EpDesc}
use Rattle.usb_base.specs.declared.packets.EpKind.TheVariants.{Interrupt, Iso}
use Rattle.usb_base.specs.declared.packets.Speed.TheVariants.{High}
use Rattle.bandwidth.specs.declared.placements.Placement.{Placement}
use Rattle.drv_periodic_table.specs.Periodic.{want_of}
use Rattle.drv_periodic_table.specs.Descriptors.{new_itd}
use Rattle.drv_table.specs.Words.{speed_field, interrupt_head}
use Rattle.law_budgets.specs.visit_prices.Spent.{IsHeadOf, IsItdOf}

pub written_heads_are_of_their_placement : (e link dummy : ℕ) (x : EpDesc) (p : Placement) → x.speed ≡ High → x.kind ≡ Interrupt
    → 1 ≤ x.multi
    → IsHeadOf (record { want = want_of e x; placement = p }) (interrupt_head x p.smask p.cmask link dummy)
written_heads_are_of_their_placement e link dummy x p speed kind some = record {
  speed = speed;
  kind = kind;
  high = ap speed_field speed;
  max = refl;
  multi = let least : max 1 x.multi ≡ x.multi = omega (arith, some) in least;
  smask = refl;
}

pub written_descriptors_are_of_their_placement : (e slot : ℕ) (runs : List ℕ) (x : EpDesc) (p : Placement) → x.speed ≡ High → x.kind ≡ Iso
    → IsItdOf (record { want = want_of e x; placement = p }) (new_itd x p.smask slot runs)
written_descriptors_are_of_their_placement e slot runs x p speed kind = record { speed = speed; kind = kind; max = refl }
