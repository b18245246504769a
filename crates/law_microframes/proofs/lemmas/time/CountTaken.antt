-- Each event of the walk of the ring that makes a transaction leaves less time by the least price or more, and no event leaves more.
use Rattle.std.proofs.Common.{◌≡◌, ℕ, ◌+◌, ◌-◌, ◌*◌, ◌≤◌, Bool, true, false, List, Option, Some, None, if◌then◌else◌, refl, arith}
use Rattle.qh_qtd.specs.declared.qtd.Qtd.{Qtd}
use Rattle.qh_qtd.specs.declared.queue_head.Qh.{Qh}
use Rattle.toggle_error.specs.declared.host.Outcome.{Outcome}
use Rattle.mem_queues.specs.Structures.{reaches_queue_head}
use Rattle.hc_copy.specs.declared.held.Held.{Held}
use Rattle.hc_copy.specs.declared.held.Transaction.{Transaction}
use Rattle.hc_copy.specs.Buffer.{Reading, sending}
use Rattle.async_walk.specs.declared.rows.WalkRow.{WalkRow}
use Rattle.async_walk.specs.declared.state.WalkStep.TheVariants as steps
use Rattle.async_walk.specs.Naks.{planned}
use Rattle.async_walk.specs.Rows.{WalkPlace, started, was_read, event_row, step_of, took, took_step, sent_step, wrote, wrote_step, wrote_settled, wrote_step_settled, wrote_place, writing}
use Rattle.async_walk.specs.Causes.{Cause}
use Rattle.async_walk.specs.Causes.Cause.{ring_is_broken, head_is_quiet, leads_to, is_resting, queue_ends, qtd_is_done, queue_is_broken, takes_qtd, is_out_of_time, has_time, is_settled}
use Rattle.async_walk.proofs.Causes.{each_row_has_its_cause}
use Rattle.bus_wire.specs.Bus.{Bus, Fixed}
use Rattle.bus_world.specs.World.{sent_by, sends_by, walk_by}
use Rattle.law_microframes.proofs.lemmas.visits.ReasonRings.{passed_left}
use Rattle.claims_world.specs.Microframes.{least_price}
use Rattle.law_microframes.specs.time.Taken.{Takes, EventsTakeTime}
use Rattle.law_microframes.proofs.lemmas.time.CountPrices.{prices_are_at_least}

kept : (new old : ℕ) → new ≡ old → 0 * least_price + new ≤ old
kept new old is = omega (arith, is)

took_if : (b : Bool) (x y : WalkPlace) (n : ℕ) → x.walk.left ≡ n → y.walk.left ≡ n → Takes (if b then steps.Advance else steps.Fault) (if b then x else y).walk.left n
took_if true x y n one two = kept x.walk.left n one
took_if false x y n one two = kept y.walk.left n two

took_takes : (a : ℕ) (t : Qtd) (q : WalkPlace) (o : Option Held) → Takes (took_step q.memory o) (took a t q o).walk.left q.walk.left
took_takes a t q None = kept q.walk.left q.walk.left refl
took_takes a t q (Some h) = took_if (reaches_queue_head q.memory h.at) _ _ q.walk.left refl refl

wrote_if : (b : Bool) (queue : Qh) (outcome : Outcome) (q : WalkPlace) → Takes (if b then steps.WriteBack else steps.Fault) (wrote_place b queue outcome q).walk.left q.walk.left
wrote_if true queue outcome q = kept _ q.walk.left (passed_left q.walk q.walk.held)
wrote_if false queue outcome q = kept q.walk.left q.walk.left refl

settled_takes : (q : WalkPlace) (h : Held) (o : Option Outcome) → Takes (wrote_step_settled q h o) (wrote_settled q h o).walk.left q.walk.left
settled_takes q h None = kept q.walk.left q.walk.left refl
settled_takes q h (Some outcome) = wrote_if (writing h outcome q.walk.reply q.memory).all h.queue_head outcome (record q { memory = (writing h outcome q.walk.reply q.memory).memory })

wrote_takes : (q : WalkPlace) (o : Option Held) → Takes (wrote_step q o) (wrote q o).walk.left q.walk.left
wrote_takes q None = kept q.walk.left q.walk.left refl
wrote_takes q (Some h) = settled_takes q h h.settled

paid_once : (price left : ℕ) → least_price ≤ price → price ≤ left → 1 * least_price + (left - price) ≤ left
paid_once price left dear enough = omega (arith, dear, enough)

by_sent : (fixed : Fixed) (all : Bool) (t : Transaction) (h : Held) (bytes : List ℕ) (q : WalkPlace) (b : Bus) → least_price ≤ t.price.0 → t.price.0 ≤ q.walk.left
    → Takes (if all then steps.Transact else steps.Fault) (sent_by fixed all t h bytes q b).place.walk.left q.walk.left
by_sent fixed true t h bytes q b dear enough = paid_once t.price.0 q.walk.left dear enough
by_sent fixed false t h bytes q b dear enough = kept q.walk.left q.walk.left refl

sent_takes : (fixed : Fixed) (t : Transaction) (q : WalkPlace) (o : Option Held) (b : Bus) (h : Held) → o ≡ Some h → least_price ≤ t.price.0 → t.price.0 ≤ q.walk.left
    → Takes (sent_step t q.memory o) (sends_by fixed t q o b).place.walk.left q.walk.left
sent_takes fixed t q None b h is dear enough = absurd cc
sent_takes fixed t q (Some g) b h is dear enough =
    let read : Reading = sending t g.queue_head q.memory in
    by_sent fixed read.all t g read.bytes (record q { memory = read.memory }) b dear enough

row_takes : (fixed : Fixed) (p : WalkPlace) (b : Bus) (row : WalkRow) → Cause p row → Takes (step_of row (was_read p)) (walk_by fixed row (was_read p) b).place.walk.left p.walk.left
row_takes fixed p b _ (ring_is_broken c) = kept p.walk.left p.walk.left refl
row_takes fixed p b _ (head_is_quiet c) = kept p.walk.left p.walk.left refl
row_takes fixed p b _ (leads_to at q c) = kept p.walk.left p.walk.left refl
row_takes fixed p b _ (is_resting c) = kept _ p.walk.left (passed_left p.walk p.walk.held)
row_takes fixed p b _ (queue_ends c) = kept _ p.walk.left (passed_left p.walk p.walk.held)
row_takes fixed p b _ (qtd_is_done c) = kept _ p.walk.left (passed_left p.walk p.walk.held)
row_takes fixed p b _ (queue_is_broken c) = kept p.walk.left p.walk.left refl
row_takes fixed p b _ (takes_qtd at qtd c) = took_takes at qtd (was_read p) p.walk.held
row_takes fixed p b _ (is_out_of_time c) = kept p.walk.left p.walk.left refl
row_takes fixed p b _ (has_time copy c) =
    sent_takes fixed (planned copy.queue_head) (was_read p) p.walk.held b copy c.visited.in_hand (prices_are_at_least copy.queue_head) c.in_time
row_takes fixed p b _ (is_settled copy outcome c) = wrote_takes (was_read p) p.walk.held

pub events_take_time : EventsTakeTime
events_take_time fixed p b = row_takes fixed (started p) b (event_row p) (each_row_has_its_cause (started p))
