-- The time of a microframe: what a transaction costs fits in what is left, and costs something.
use Rattle.std.proofs.Common.{◌≡◌, ℕ, ◌<◌, ◌≤◌, true, ap, arith}
use Rattle.usb_base.specs.Cost.{bus_time}
use Rattle.usb_base.specs.declared.packets.Speed.{Speed}
use Rattle.usb_base.specs.declared.packets.Speed.TheVariants.{Low, Full, High}
use Rattle.usb_base.specs.declared.packets.EpKind.{EpKind}
use Rattle.usb_base.specs.declared.packets.EpKind.TheVariants.{Control, Iso, Bulk, Interrupt}
use Rattle.usb_base.specs.declared.packets.Dir.{Dir}
use Rattle.usb_base.specs.declared.packets.Dir.TheVariants.{In, Out}
use Rattle.usb_base.specs.declared.packets.Split.{Split}
use Rattle.toggle_error.specs.declared.host.HostSide.{HostSide}
use Rattle.transactions.specs.declared.pipe.Pipe.{Pipe}
use Rattle.transactions.specs.Prices.{priced_speed, price_at}
use Rattle.word_mem.specs.Memory.{Mem}
use Rattle.op_registers.specs.RegisterFile.{RegisterFile}
use Rattle.qh_qtd.specs.declared.queue_head.Qh.{Qh}
use Rattle.hc_copy.specs.declared.held.Transaction.{Transaction}
use Rattle.async_walk.specs.declared.rows.WalkRow.{WalkRow}
use Rattle.async_walk.specs.declared.rows.WalkRow.TheVariants as rows
use Rattle.async_walk.specs.Walk.{begun}
use Rattle.async_walk.specs.Naks.{planned}
use Rattle.async_walk.specs.Rows.{WalkPlace, place, ring_row, cursor_link, started, at_event, event_row, after_walk_row}
use Rattle.async_walk.specs.Causes.{Cause}
use Rattle.async_walk.specs.Causes.Cause.{ring_is_broken, head_is_quiet, leads_to, is_resting, queue_ends, qtd_is_done, queue_is_broken, takes_qtd, is_out_of_time, has_time, is_settled}
use Rattle.async_walk.proofs.Causes.{each_row_has_its_cause}

-- ---- each transaction costs something

bus_time_above : (speed : Speed) (kind : EpKind) (dir : Dir) (n : ℕ) → 0 < bus_time speed kind dir n
bus_time_above High Control dir n = omega arith
bus_time_above High Iso dir n = omega arith
bus_time_above High Bulk dir n = omega arith
bus_time_above High Interrupt dir n = omega arith
bus_time_above Full Control In n = omega arith
bus_time_above Full Control Out n = omega arith
bus_time_above Full Iso In n = omega arith
bus_time_above Full Iso Out n = omega arith
bus_time_above Full Bulk In n = omega arith
bus_time_above Full Bulk Out n = omega arith
bus_time_above Full Interrupt In n = omega arith
bus_time_above Full Interrupt Out n = omega arith
bus_time_above Low kind In n = omega arith
bus_time_above Low kind Out n = omega arith

pub costs_something : (split : Split) (pipe : Pipe) (host : HostSide) (n : ℕ) → 0 < price_at split pipe host n
costs_something split pipe host n = bus_time_above (priced_speed split pipe.speed) pipe.kind _ _

pub planned_costs : (q : Qh) → 0 < (planned q).price.0
planned_costs q = costs_something (planned q).split (planned q).pipe (planned q).host (planned q).bytes

-- ---- what is made fits

fits_of : (p : WalkPlace) (row : WalkRow) (t : Transaction) → Cause p row → row ≡ rows.Transact t → (0 < t.price.0) × (t.price.0 ≤ p.walk.left)
fits_of p _ t (ring_is_broken c) is = absurd cc
fits_of p _ t (head_is_quiet c) is = absurd cc
fits_of p _ t (leads_to at q c) is = absurd cc
fits_of p _ t (is_resting c) is = absurd cc
fits_of p _ t (queue_ends c) is = absurd cc
fits_of p _ t (qtd_is_done c) is = absurd cc
fits_of p _ t (queue_is_broken c) is = absurd cc
fits_of p _ t (takes_qtd at qtd c) is = absurd cc
fits_of p _ t (is_out_of_time c) is = absurd cc
fits_of p _ t (has_time copy c) is =
    let same : planned copy.queue_head ≡ t = cc in
    let price : (planned copy.queue_head).price.0 ≡ t.price.0 = ap (λ (x : Transaction). x.price.0) same in
    (omega (arith, price, planned_costs copy.queue_head), omega (arith, price, c.in_time))
fits_of p _ t (is_settled copy outcome c) is = absurd cc

both_of : (p : WalkPlace) (t : Transaction) → event_row p ≡ rows.Transact t → (0 < t.price.0) × (t.price.0 ≤ p.walk.left)
both_of p t is = fits_of (started p) (event_row p) t (each_row_has_its_cause (started p)) is

pub transactions_cost : (p : WalkPlace) (t : Transaction) → event_row p ≡ rows.Transact t → 0 < t.price.0
transactions_cost p t is = (both_of p t is).0

pub transactions_fit : (p : WalkPlace) (t : Transaction) → event_row p ≡ rows.Transact t → t.price.0 ≤ p.walk.left
transactions_fit p t is = (both_of p t is).1

pub none_without_time : (p : WalkPlace) (t : Transaction) → p.walk.left ≡ 0 → event_row p ≡ rows.Transact t → ⊥
none_without_time p t none is = omega (arith, transactions_fit p t is, transactions_cost p t is)

-- ---- after the time is over

pub cursor_stays : (p : WalkPlace) → event_row p ≡ rows.OutOfTime → (after_walk_row (event_row p) (at_event p)).walk.cursor ≡ p.walk.cursor
cursor_stays p is = ap (λ (row : WalkRow). (after_walk_row row (at_event p)).walk.cursor) is

pub reads_there : (p : WalkPlace) (left : ℕ) (r : RegisterFile) (m : Mem) → event_row p ≡ rows.OutOfTime → event_row (place (begun (after_walk_row (event_row p) (at_event p)).walk left) r m) ≡ ring_row m true (cursor_link r p.walk.cursor)
reads_there p left r m is = ap (λ (row : WalkRow). event_row (place (begun (after_walk_row row (at_event p)).walk left) r m)) is
