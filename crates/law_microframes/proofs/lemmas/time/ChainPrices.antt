-- Each transaction of the walk of the frames costs the least price or more, and so leaves fewer events by two.
use Rattle.std.proofs.Common.{◌≡◌, ℕ, ◌+◌, ◌-◌, ◌*◌, ◌/◌, ◌<◌, ◌≤◌, Bool, true, false, None, sym, subst, arith}
use Rattle.std.specs.Prelude.{if◌then◌else◌}
use Rattle.usb_base.specs.Cost.{bus_time}
use Rattle.usb_base.specs.declared.packets.Dir.{Dir}
use Rattle.usb_base.specs.declared.packets.Dir.TheVariants.{In, Out}
use Rattle.usb_base.specs.declared.packets.EpKind.TheVariants.{Interrupt, Iso}
use Rattle.usb_base.specs.declared.packets.Reply.{Reply}
use Rattle.usb_base.specs.declared.packets.Speed.{Speed}
use Rattle.usb_base.specs.declared.packets.Speed.TheVariants.{Low, Full, High}
use Rattle.qh_qtd.specs.declared.queue_head.Qh.{Qh}
use Rattle.itd_sitd.specs.declared.sitd.Sitd.{Sitd}
use Rattle.hc_interrupt.specs.Turns.{planned}
use Rattle.hc_iso.specs.declared.held.HeldItd.{HeldItd}
use Rattle.hc_iso.specs.Itd.{limit_of, itd_in, itd_out, itd_transaction}
use Rattle.hc_iso.specs.declared.held.IsoTransaction.{IsoTransaction}
use Rattle.hc_iso.specs.Sitd.{part_bytes, sitd_in, sitd_out, sitd_transaction}
use Rattle.periodic_walk.specs.Place.{FramePlace, Effect}
use Rattle.periodic_walk.specs.Place.Effect.{Leaves, Asks}
use Rattle.claims_world.specs.Microframes.{least_in_frames}
use Rattle.law_microframes.specs.time.ChainEvents.{visit_rest}

-- ---- prices

interrupt_costs : (speed : Speed) (dir : Dir) (n : ℕ) → least_in_frames ≤ bus_time speed Interrupt dir n
interrupt_costs High dir n = omega arith
interrupt_costs Full In n = omega arith
interrupt_costs Full Out n = omega arith
interrupt_costs Low In n = omega arith
interrupt_costs Low Out n = omega arith

iso_costs : (dir : Dir) (n : ℕ) → least_in_frames ≤ bus_time High Iso dir n
iso_costs dir n = omega arith

pub queue_is_dear : (q : Qh) → least_in_frames ≤ (planned q).price.0
queue_is_dear q = interrupt_costs _ _ _

either_is_dear : (b : Bool) (x y : IsoTransaction) → least_in_frames ≤ x.price.0 → least_in_frames ≤ y.price.0 → least_in_frames ≤ (if b then x else y).price.0
either_is_dear true x y one two = one
either_is_dear false x y one two = two

pub itd_is_dear : (h : HeldItd) → least_in_frames ≤ (itd_transaction h).price.0
itd_is_dear h = either_is_dear h.itd.dir_in (itd_in h) (itd_out h) (iso_costs In h.itd.max) (iso_costs Out (limit_of h))

in_is_dear : (v : Sitd) → least_in_frames ≤ (sitd_in v).price.0
in_is_dear v = either_is_dear v.split_state _ _ (iso_costs In (part_bytes v)) (iso_costs In 0)

pub sitd_is_dear : (v : Sitd) → least_in_frames ≤ (sitd_transaction v).price.0
sitd_is_dear v = either_is_dear v.dir_in (sitd_in v) (sitd_out v) (in_is_dear v) (iso_costs Out (part_bytes v))

-- ---- what an event leaves of the events of the visit: n of them came before its next transaction, with so much time left

abbrev pub IsUnder : ℕ → ℕ → FramePlace → Type 0
IsUnder n left q = (visit_rest q.walk.hand + 2 * (q.walk.left / least_in_frames) < n + 2 * (left / least_in_frames)) × (q.walk.left ≤ left)

abbrev pub Falls : ℕ → ℕ → Effect → Type 0
Falls n left (Leaves q) = IsUnder n left q
Falls n left (Asks ask out left_by) = (reply : Reply) → IsUnder n left (left_by reply)

less_rest : (rest n k : ℕ) → rest < n → rest + k < n + k
less_rest rest n k fewer = omega (arith, fewer)

pub under : (n left : ℕ) (q : FramePlace) → visit_rest q.walk.hand < n → q.walk.left ≡ left → IsUnder n left q
under n left q fewer same = (
  subst (λ (k : ℕ). visit_rest q.walk.hand + 2 * (k / least_in_frames) < n + 2 * (left / least_in_frames)) (sym same)
      (less_rest (visit_rest q.walk.hand) n (2 * (left / least_in_frames)) fewer),
  omega (arith, same),
)

-- with nothing in hand no event is left
pub none_under : (n left : ℕ) (q : FramePlace) → 1 ≤ n → q.walk.hand ≡ None → q.walk.left ≡ left → IsUnder n left q
none_under n left q some none same = under n left q (subst (λ o. visit_rest o < n) (sym none) (omega (arith, some))) same

fewer_paid : (left price : ℕ) → least_in_frames ≤ price → price ≤ left → (left - price) / least_in_frames + 1 ≤ left / least_in_frames
fewer_paid left price dear enough = omega (arith, dear, enough)

more_paid : (rest n new old : ℕ) → rest ≤ n + 1 → new + 1 ≤ old → rest + 2 * new < n + 2 * old
more_paid rest n new old few fewer = omega (arith, few, fewer)

-- a transaction leaves at most one event more before the next
pub paid : (n left price : ℕ) (q : FramePlace) → visit_rest q.walk.hand ≤ n + 1 → q.walk.left ≡ left - price → least_in_frames ≤ price → price ≤ left → IsUnder n left q
paid n left price q few same dear enough = (
  subst (λ (k : ℕ). visit_rest q.walk.hand + 2 * (k / least_in_frames) < n + 2 * (left / least_in_frames)) (sym same)
      (more_paid (visit_rest q.walk.hand) n ((left - price) / least_in_frames) (left / least_in_frames) few (fewer_paid left price dear enough)),
  omega (arith, same),
)
