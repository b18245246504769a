-- A visit to the descriptor of a high-speed isochronous endpoint: the packets of this microframe, each of at most its largest.
use Rattle.std.proofs.Common.{◌≡◌, ℕ, ◌-◌, ◌*◌, ◌<◌, ◌≤◌, Bool, true, false, List, length, Option, Some, None, refl, ap, sym, subst, arith}
use Rattle.std.specs.Prelude.{nat_lt, nat_le, ◌==◌, if◌then◌else◌}
use Rattle.std.proofs.lemmas.Bool.Decides.{nat_tests}
use Rattle.law_common.proofs.Booleans.{both_not}
use Rattle.law_budgets.proofs.Common.{by_way}
use Rattle.law_common.proofs.Numbers.{in_order, not_below}
use Rattle.usb_base.specs.Cost.{bus_time}
use Rattle.usb_base.specs.declared.packets.Ask.{Ask}
use Rattle.usb_base.specs.declared.packets.Dir.{Dir}
use Rattle.usb_base.specs.declared.packets.Dir.TheVariants as directions
use Rattle.usb_base.specs.declared.packets.EpKind.TheVariants.{Iso}
use Rattle.usb_base.specs.declared.packets.Reply.{Reply}
use Rattle.usb_base.specs.declared.packets.Reply.TheVariants.{Bytes}
use Rattle.usb_base.specs.declared.packets.Speed.TheVariants.{High}
use Rattle.hc_iso.specs.declared.held.HeldItd.{HeldItd}
use Rattle.hc_iso.specs.declared.held.IsoEnd.{IsoEnd}
use Rattle.hc_iso.specs.declared.held.IsoEnd.TheVariants.{Whole}
use Rattle.hc_iso.specs.declared.held.Heard.{Heard}
use Rattle.hc_iso.specs.declared.held.Heard.TheVariants.{Packet, TooLong, Wrong}
use Rattle.hc_iso.specs.Itd.{limit_of, itd_transaction, number_of, is_in_order, heard_numbered, heard_in, with_packet, after_heard, after_in, after_out}
use Rattle.hc_iso.specs.WriteBack.{itd_sending, itd_written}
use Rattle.periodic_walk.specs.declared.itd.ItdRow.TheVariants as rows
use Rattle.periodic_walk.specs.declared.state.Hand.{Hand}
use Rattle.periodic_walk.specs.declared.state.Hand.TheVariants as hands
use Rattle.periodic_walk.specs.Walk.{Walk}
use Rattle.periodic_walk.specs.Place.{FramePlace, sent}
use Rattle.periodic_walk.specs.Rows.{effect_at, effect_of}
use Rattle.periodic_walk.specs.Itd.{timed_row, ended_row, itd_effect, itd_left_by, wrote_at}
use Rattle.law_budgets.specs.visit_prices.Prices.{prices, Costs}
use Rattle.claims_world.specs.InTime.{is_late, is_late_at, is_late_itd}
use Rattle.law_budgets.proofs.lemmas.visit_prices.Visits.{Goes, along}
use Rattle.law_budgets.proofs.lemmas.visit_prices.Times.{IsHighHand, Keeps, Prompt}
use Rattle.law_budgets.proofs.lemmas.visit_prices.Queues.{enough_one}

-- ---- the price of its transaction

pub same_iso : (d : Dir) (n : ℕ) → bus_time High Iso d n ≡ bus_time High Iso directions.In n
same_iso directions.In n = refl
same_iso directions.Out n = refl

itd_price : (size : ℕ) (h : HeldItd) → h.itd.max ≡ size → (itd_transaction h).price.0 ≤ bus_time High Iso directions.In size
itd_price size h e = subst (λ n. (itd_transaction h).price.0 ≤ bus_time High Iso directions.In n) e (by_way h.itd.dir_in h)

-- ---- what was heard comes next in the count

abbrev IsFewer : HeldItd → Heard → Type 0
IsFewer h (Packet k n) = k < h.rest
IsFewer h TooLong = Unit {0}
IsFewer h Wrong = Unit {0}

fitting : (h : HeldItd) (b : Bool) (k n : ℕ) → k < h.rest → IsFewer h (if b then Packet k n else TooLong)
fitting h true k n less = less
fitting h false k n less = tt

ordered : (h : HeldItd) (b : Bool) (k n : ℕ) → is_in_order h k ≡ b → IsFewer h (if b then (if nat_le n (limit_of h) then Packet k n else TooLong) else Wrong)
ordered h true k n e = fitting h (nat_le n (limit_of h)) k n (in_order (h.made == 0) k h.rest e)
ordered h false k n e = tt

numbered : (h : HeldItd) (n : ℕ) (o : Option ℕ) → IsFewer h (heard_numbered h n o)
numbered h n None = tt
numbered h n (Some k) = ordered h (is_in_order h k) k n refl

heard_fewer : (h : HeldItd) (reply : Reply) → IsFewer h (heard_in h reply)
heard_fewer h (Bytes pid bytes) = numbered h (length bytes) (number_of pid)
heard_fewer h _ = tt

-- ---- under way

-- while it isn't ended a packet is to come, and no more than so many
abbrev pub Next : ℕ → ℕ → Option IsoEnd → Type 0
Next n rest None = (1 ≤ rest) × (rest ≤ n)
Next n rest (Some ended) = Unit {0}

pub record IsUnderWay (size n : ℕ) (h : HeldItd) : Type 0 where
  pub max : h.itd.max ≡ size
  pub next : Next n h.rest h.ended

abbrev pub InHand : ℕ → ℕ → Option Hand → Type 0
InHand size n None = Unit {0}
InHand size n (Some (hands.Queue h)) = ⊥
InHand size n (Some (hands.Itd h)) = IsUnderWay size n h
InHand size n (Some (hands.Sitd h)) = ⊥

pub record ItdVisit (size n : ℕ) (p : FramePlace) : Type 0 where
  pub hand : InHand size n p.walk.hand

-- ---- a transaction

counted : (n k : ℕ) (b : Bool) → k == 0 ≡ b → k ≤ n → Next n k (if b then Some Whole else None)
counted n k true e h = tt
counted n k false e h = (grind (arith, nat_tests, e), h)

packet : (size n m k len : ℕ) (h : HeldItd) → h.itd.max ≡ size → Next n h.rest None → m ≡ n - 1 → k < h.rest → IsUnderWay size m (with_packet h k len)
packet size n m k len h e next is less = record { max = e; next = counted m k (k == 0) refl (omega (arith, next.1, is, less)) }

heard_way : (size n : ℕ) (h : HeldItd) (heard : Heard) → h.itd.max ≡ size → Next n h.rest None → IsFewer h heard → IsUnderWay size (n - 1) (after_heard h heard)
heard_way size n h (Packet k len) e next less = packet size n (n - 1) k len h e next refl less
heard_way size n h _ e next less = record { max = e; next = tt }

in_way : (size n : ℕ) (h : HeldItd) (reply : Reply) → h.itd.max ≡ size → Next n h.rest None → IsUnderWay size (n - 1) (after_in h reply)
unfolding after_in
in_way size n h reply e next = heard_way size n h (heard_in h reply) e next (heard_fewer h reply)

out_way : (size n : ℕ) (h : HeldItd) → h.itd.max ≡ size → Next n h.rest None → IsUnderWay size (n - 1) (after_out h)
unfolding after_out
out_way size n h e next = packet size n (n - 1) (h.rest - 1) (limit_of h) h e next refl (omega (arith, next.0))

way : (size n : ℕ) (b : Bool) (h : HeldItd) (reply : Reply) → h.itd.max ≡ size → Next n h.rest None → IsUnderWay size (n - 1) (if b then after_in h reply else after_out h)
way size n true h reply e next = in_way size n h reply e next
way size n false h reply e next = out_way size n h e next

sent_goes : (size n : ℕ) (all : Bool) (ask : Ask) (out : List ℕ) (h : HeldItd) (p there : FramePlace) → there.walk ≡ p.walk → h.itd.max ≡ size → Next n h.rest None
    → Goes (ItdVisit size) (bus_time High Iso directions.In size) n p (sent all ask out (itd_left_by (itd_transaction h) h there) there)
sent_goes size n true ask out h p there same e next = (
  omega (arith, next.0, next.1),
  λ r. (omega (arith, itd_price size h e, ap (λ (w : Walk). w.left) same), record { hand = way size n h.itd.dir_in h r e next }),
)
sent_goes size n false ask out h p there same e next = record { hand = tt }

timed_goes : (size n : ℕ) (late : Bool) (h : HeldItd) (p : FramePlace) → h.itd.max ≡ size → Next n h.rest None
    → Goes (ItdVisit size) (bus_time High Iso directions.In size) n p (itd_effect (if late then rows.Skip else rows.Transact (itd_transaction h)) h p)
timed_goes size n true h p e next = record { hand = tt }
timed_goes size n false h p e next =
    sent_goes size n (itd_sending (itd_transaction h) h p.memory).all (itd_transaction h).ask (itd_sending (itd_transaction h) h p.memory).bytes h p
    (record p { memory = (itd_sending (itd_transaction h) h p.memory).memory }) refl e next

open_goes : (size n : ℕ) (works : Bool) (h : HeldItd) (p : FramePlace) → h.itd.max ≡ size → Next n h.rest None
    → Goes (ItdVisit size) (bus_time High Iso directions.In size) n p (itd_effect (if works then timed_row p.walk.left (itd_transaction h) else rows.Skip) h p)
open_goes size n true h p e next = timed_goes size n (nat_lt p.walk.left (itd_transaction h).price.0) h p e next
open_goes size n false h p e next = record { hand = tt }

wrote_visit : (size n : ℕ) (all : Bool) (h : HeldItd) (ended : IsoEnd) (p : FramePlace) → ItdVisit size n (wrote_at all h ended p)
wrote_visit size n true h ended p = record { hand = tt }
wrote_visit size n false h ended p = record { hand = tt }

ended_goes : (size n : ℕ) (p : FramePlace) (h : HeldItd) (o : Option IsoEnd) → h.itd.max ≡ size → Next n h.rest o
    → Goes (ItdVisit size) (bus_time High Iso directions.In size) n p (itd_effect (ended_row p.walk.left h o) h p)
ended_goes size n p h (Some ended) e next = wrote_visit size n (itd_written h p.walk.got p.memory).all h ended (record p { memory = (itd_written h p.walk.got p.memory).memory })
ended_goes size n p h None e next = open_goes size n h.slot.active h p e next

hand_goes : (size n : ℕ) (p : FramePlace) (hand : Hand) → p.walk.hand ≡ Some hand → ItdVisit size n p → Goes (ItdVisit size) (bus_time High Iso directions.In size) n p (effect_of p)
hand_goes size n p (hands.Itd h) e v =
    let under : IsUnderWay size n h = subst (InHand size n) e v.hand in
    subst (λ (o : Option Hand). Goes (ItdVisit size) (bus_time High Iso directions.In size) n p (effect_at p o)) (sym e) (ended_goes size n p h h.ended under.max under.next)
hand_goes size n p _ e v = absurd (subst (InHand size n) e v.hand)

-- ---- a visit

itd_high : (size n : ℕ) (p : FramePlace) (hand : Hand) → p.walk.hand ≡ Some hand → ItdVisit size n p → IsHighHand hand
itd_high size n p (hands.Itd h) e v = tt
itd_high size n p _ e v = absurd (subst (InHand size n) e v.hand)

pub itd_keeps : (size : ℕ) → Keeps (ItdVisit size) (bus_time High Iso directions.In size)
itd_keeps size = record { high = λ n p hand e v. itd_high size n p hand e v; goes = λ n p hand e v. hand_goes size n p hand e v }

ended_prompt : (size n : ℕ) (p : FramePlace) (h : HeldItd) (o : Option IsoEnd) → h.itd.max ≡ size → Next n h.rest o → n * bus_time High Iso directions.In size ≤ p.walk.left → is_late_itd p.walk.left h o ≡ false
ended_prompt size n p h (Some ended) e next enough = refl
ended_prompt size n p h None e next enough =
    both_not h.slot.active (nat_lt p.walk.left (itd_transaction h).price.0)
    (not_below p.walk.left (itd_transaction h).price.0
    (enough_one n (bus_time High Iso directions.In size) p.walk.left (itd_transaction h).price.0 (omega (arith, next.0, next.1)) enough (itd_price size h e)))

hand_prompt : (size n : ℕ) (p : FramePlace) (hand : Hand) → p.walk.hand ≡ Some hand → ItdVisit size n p → n * bus_time High Iso directions.In size ≤ p.walk.left → is_late p ≡ false
hand_prompt size n p (hands.Itd h) e v enough =
    let under : IsUnderWay size n h = subst (InHand size n) e v.hand in
    subst (λ (o : Option Hand). is_late_at p o ≡ false) (sym e) (ended_prompt size n p h h.ended under.max under.next enough)
hand_prompt size n p _ e v enough = absurd (subst (InHand size n) e v.hand)

pub itd_prompt : (size : ℕ) → Prompt (ItdVisit size) (bus_time High Iso directions.In size)
itd_prompt size = record { keeps = itd_keeps size; prompt = λ n p hand e v enough. hand_prompt size n p hand e v enough }

-- a visit begins
pub itd_begins : (size n : ℕ) (p : FramePlace) (h : HeldItd) → p.walk.hand ≡ Some (hands.Itd h) → h.itd.max ≡ size → h.ended ≡ None → 1 ≤ h.rest → h.rest ≤ n → ItdVisit size n p
itd_begins size n p h e max going some few =
    record { hand = subst (InHand size n) (sym e) (record { max = max; next = subst (Next n h.rest) (sym going) (some, few) }) }

-- it costs at most so many packets of the largest size
pub itd_costs : (size n : ℕ) (p : FramePlace) (rs : List Reply) → ItdVisit size n p → Costs n (bus_time High Iso directions.In size) (prices p rs)
itd_costs size n p rs v = along (ItdVisit size) (bus_time High Iso directions.In size) (λ m q hand. hand_goes size m q hand) n p rs v
