-- Ticks one after the other: they join.
use Rattle.std.proofs.Common.{◌≡◌, ℕ, zero, suc, ◌+◌, ap, ◌∙◌, zero-add, arith}
use Rattle.bus_wire.specs.Bus.{Fixed}
use Rattle.bus_world.specs.Orders.{OrderedWorld, tick, ticks}

pub ticks_more : (fixed : Fixed) (p : OrderedWorld) (a b : ℕ) → ticks fixed p (a + b) ≡ ticks fixed (ticks fixed p a) b
unfolding ticks
ticks_more fixed p zero b = ap (λ n. ticks fixed p n) (zero-add b)
ticks_more fixed p (suc a) b =
    let e : suc a + b ≡ suc (a + b) = omega arith in
    ap (λ n. ticks fixed p n) e ∙ ticks_more fixed (tick fixed p) a b
