-- Each transaction of the ring costs the least price or more, and is made where that much time is left.
use Rattle.std.proofs.Common.{◌≡◌, ℕ, suc, ◌-◌, ◌/◌, ◌≤◌, Bool, true, false, [], ◌∷◌, length, ap, arith}
use Rattle.usb_base.specs.Cost.{bus_time}
use Rattle.usb_base.specs.declared.packets.Speed.{Speed}
use Rattle.usb_base.specs.declared.packets.Speed.TheVariants.{Low, Full, High}
use Rattle.usb_base.specs.declared.packets.EpKind.TheVariants.{Control, Bulk}
use Rattle.usb_base.specs.declared.packets.Dir.{Dir}
use Rattle.usb_base.specs.declared.packets.Dir.TheVariants.{In, Out}
use Rattle.hc_copy.specs.declared.held.Transaction.{Transaction}
use Rattle.async_walk.specs.declared.rows.WalkRow.{WalkRow}
use Rattle.async_walk.specs.declared.rows.WalkRow.TheVariants as rows
use Rattle.async_walk.specs.Naks.{kind_at, planned}
use Rattle.async_walk.specs.Rows.{WalkPlace, started, event_row}
use Rattle.async_walk.specs.Causes.{Cause}
use Rattle.async_walk.specs.Causes.Cause.{ring_is_broken, head_is_quiet, leads_to, is_resting, queue_ends, qtd_is_done, queue_is_broken, takes_qtd, is_out_of_time, has_time, is_settled}
use Rattle.async_walk.proofs.Causes.{each_row_has_its_cause}
use Rattle.async_walk.proofs.Times.{transactions_fit}
use Rattle.claims_world.specs.Microframes.{least_price}
use Rattle.law_microframes.specs.time.Counts.{PricesAreAtLeast, IsPaidWhereMade, AreMadeFew}

bulk_costs : (speed : Speed) (dir : Dir) (n : ℕ) → least_price ≤ bus_time speed Bulk dir n
bulk_costs High dir n = omega arith
bulk_costs Full In n = omega arith
bulk_costs Full Out n = omega arith
bulk_costs Low In n = omega arith
bulk_costs Low Out n = omega arith

control_costs : (speed : Speed) (dir : Dir) (n : ℕ) → least_price ≤ bus_time speed Control dir n
control_costs High dir n = omega arith
control_costs Full In n = omega arith
control_costs Full Out n = omega arith
control_costs Low In n = omega arith
control_costs Low Out n = omega arith

kind_costs : (control : Bool) (speed : Speed) (dir : Dir) (n : ℕ) → least_price ≤ bus_time speed (kind_at control) dir n
kind_costs true speed dir n = control_costs speed dir n
kind_costs false speed dir n = bulk_costs speed dir n

pub prices_are_at_least : PricesAreAtLeast
prices_are_at_least q = kind_costs q.dtc _ _ _

dear_of : (p : WalkPlace) (row : WalkRow) (t : Transaction) → Cause p row → row ≡ rows.Transact t → least_price ≤ t.price.0
dear_of p _ t (ring_is_broken c) is = absurd cc
dear_of p _ t (head_is_quiet c) is = absurd cc
dear_of p _ t (leads_to at q c) is = absurd cc
dear_of p _ t (is_resting c) is = absurd cc
dear_of p _ t (queue_ends c) is = absurd cc
dear_of p _ t (qtd_is_done c) is = absurd cc
dear_of p _ t (queue_is_broken c) is = absurd cc
dear_of p _ t (takes_qtd at qtd c) is = absurd cc
dear_of p _ t (is_out_of_time c) is = absurd cc
dear_of p _ t (has_time copy c) is =
    let same : planned copy.queue_head ≡ t = cc in
    let price : (planned copy.queue_head).price.0 ≡ t.price.0 = ap (λ (x : Transaction). x.price.0) same in
    omega (arith, price, prices_are_at_least copy.queue_head)
dear_of p _ t (is_settled copy outcome c) is = absurd cc

pub is_paid_where_made : IsPaidWhereMade
is_paid_where_made p t is = record { dear = dear_of (started p) (event_row p) t (each_row_has_its_cause (started p)) is; enough = transactions_fit p t is }

-- ---- one after the other

one_more : (n price left : ℕ) → least_price ≤ price → price ≤ left → n ≤ (left - price) / least_price → suc n ≤ left / least_price
one_more n price left dear enough few = omega (arith, dear, enough, few)

pub are_made_few : AreMadeFew
are_made_few [] left made = omega arith
are_made_few (price ∷ prices) left made = one_more (length prices) price left made.0 made.1.0 (are_made_few prices (left - price) made.1.1)
