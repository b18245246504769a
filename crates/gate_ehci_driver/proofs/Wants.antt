-- What can be asked of a plan: an endpoint of the frame list at high speed, and one behind a hub.
use Rattle.std.proofs.Common.{◌≡◌, ℕ, ◌≤◌, true, false, sym, subst, ◌∙◌, ap, arith}
use Rattle.std.specs.Prelude.{is_some}
use Rattle.usb_base.specs.declared.packets.Speed.{Speed}
use Rattle.usb_base.specs.declared.packets.Speed.TheVariants.{High, Full}
use Rattle.usb_base.specs.declared.packets.EpKind.{EpKind}
use Rattle.usb_base.specs.declared.packets.EpKind.TheVariants as kinds
use Rattle.usb_base.specs.declared.endpoints.EpDesc.{EpDesc}
use Rattle.bandwidth.specs.Placements.{is_period, least_period, most_bytes, most_multi, is_classic}
use Rattle.drv_periodic_table.specs.Periodic.{is_periodic}
use Rattle.drv_table.specs.Offers.{IsOpened}

most : (k : EpKind) (n : ℕ) → is_periodic k ≡ true → n ≤ 1024 → n ≤ most_bytes High k
most kinds.Bulk n p h = cc
most kinds.Control n p h = cc
most _ n p h = h

-- one of the ring is asked of no plan
pub in_ring : (x : EpDesc) → is_periodic x.kind ≡ false → IsOpened x
in_ring x e = λ p. absurd (cc)

pub wanted : (x : EpDesc) → x.speed ≡ High → is_some x.hub ≡ false → x.tt ≡ 0 → is_period x.period ≡ true → 1 ≤ x.period → 1 ≤ x.max → x.max ≤ 1024 → 1 ≤ x.multi → x.multi ≤ 3 → IsOpened x
wanted x speed hub port period some a b c d = λ p. record {
  period = period;
  frames = subst (λ (s : Speed). least_period s ≤ x.period) (sym speed) some;
  some_bytes = a;
  bytes = subst (λ (s : Speed). x.max ≤ most_bytes s x.kind) (sym speed) (most x.kind x.max p b);
  some_multi = c;
  multi = subst (λ (s : Speed). x.multi ≤ most_multi s) (sym speed) d;
  hub = hub ∙ sym (ap (λ (s : Speed). is_classic s) speed);
  tt = omega (arith, port);
}

pub wanted_behind : (x : EpDesc) (n : ℕ) → x.speed ≡ Full → n ≤ most_bytes Full x.kind → is_some x.hub ≡ true → x.tt ≡ 0 → is_period x.period ≡ true → 8 ≤ x.period → 1 ≤ x.max → x.max ≤ n → 1 ≤ x.multi → x.multi ≤ 1 → IsOpened x
wanted_behind x n speed most hub port period some a b c d = λ p. record {
  period = period;
  frames = subst (λ (s : Speed). least_period s ≤ x.period) (sym speed) some;
  some_bytes = a;
  bytes = subst (λ (s : Speed). x.max ≤ most_bytes s x.kind) (sym speed) (omega (arith, b, most));
  some_multi = c;
  multi = subst (λ (s : Speed). x.multi ≤ most_multi s) (sym speed) d;
  hub = hub ∙ sym (ap (λ (s : Speed). is_classic s) speed);
  tt = omega (arith, port);
}
