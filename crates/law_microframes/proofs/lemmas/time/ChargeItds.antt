-- An event at the descriptor of a high-speed isochronous endpoint in hand asks nothing and costs nothing, or makes one transaction, of at most its largest packet (EHCI 1.0, 4.7.1;
-- USB 2.0, 5.9.2 and 5.11.3).
use Rattle.std.proofs.Common.{◌≡◌, ℕ, ◌+◌, ◌-◌, ◌%◌, ◌<◌, ◌≤◌, Bool, true, false, List, length, Option, Some, None, refl, ap, sym, subst, ◌∙◌, arith}
use Rattle.std.specs.Prelude.{nat_lt, nat_le, ◌==◌, if◌then◌else◌}
use Rattle.std.proofs.lemmas.Bool.Decides.{nat_tests}
use Rattle.law_common.proofs.Booleans.{both_not}
use Rattle.law_budgets.proofs.Common.{by_way}
use Rattle.law_common.proofs.Numbers.{in_order, not_below}
use Rattle.usb_base.specs.Cost.{bus_time}
use Rattle.usb_base.specs.declared.packets.Ask.{Ask}
use Rattle.usb_base.specs.declared.packets.Dir.TheVariants as directions
use Rattle.usb_base.specs.declared.packets.EpKind.{EpKind}
use Rattle.usb_base.specs.declared.packets.EpKind.TheVariants.{Iso}
use Rattle.usb_base.specs.declared.packets.Reply.{Reply}
use Rattle.usb_base.specs.declared.packets.Reply.TheVariants.{Bytes}
use Rattle.usb_base.specs.declared.packets.Speed.TheVariants.{High}
use Rattle.itd_sitd.specs.declared.slot.ItdSlot.{ItdSlot}
use Rattle.itd_sitd.specs.declared.itd.Itd.{Itd}
use Rattle.itd_sitd.specs.Itd.{slot_of}
use Rattle.hc_iso.specs.declared.held.HeldItd.{HeldItd}
use Rattle.hc_iso.specs.declared.held.IsoEnd.{IsoEnd}
use Rattle.hc_iso.specs.declared.held.IsoEnd.TheVariants.{Whole}
use Rattle.hc_iso.specs.declared.held.Heard.{Heard}
use Rattle.hc_iso.specs.declared.held.Heard.TheVariants.{Packet, TooLong, Wrong}
use Rattle.hc_iso.specs.Itd.{limit_of, itd_transaction, number_of, is_in_order, heard_numbered, heard_in, with_packet, with_slot, after_heard, after_in, after_out, itd_after}
use Rattle.hc_iso.specs.WriteBack.{itd_sending, itd_written}
use Rattle.bandwidth.specs.declared.placements.Placed.{Placed}
use Rattle.periodic_walk.specs.declared.itd.ItdRow.TheVariants as rows
use Rattle.periodic_walk.specs.declared.state.Hand.TheVariants as hands
use Rattle.periodic_walk.specs.Walk.{Walk}
use Rattle.periodic_walk.specs.Place.{FramePlace, sent}
use Rattle.periodic_walk.specs.Itd.{timed_row, ended_row, itd_row, itd_effect, itd_left_by, wrote_at}
use Rattle.law_budgets.specs.visit_prices.Spent.{IsItdOf, largest}
use Rattle.claims_world.specs.InTime.{is_late_at, is_late_itd}
use Rattle.law_budgets.proofs.lemmas.visit_prices.Itds.{same_iso}
use Rattle.law_microframes.specs.time.Charges.{IsItdInHand, HasPackets, RestsAt, WorksAt, IsPriced}

-- ---- the price of its transaction

largest_is : (x : Placed) (h : HeldItd) → IsItdOf x h.itd → bus_time High Iso directions.In h.itd.max ≡ largest x.want
largest_is x h of =
    ap (λ n. bus_time High Iso directions.In n) of.max ∙ (sym (same_iso x.want.dir x.want.max) ∙ ap (λ (k : EpKind). bus_time High k x.want.dir x.want.max) (sym of.kind))

most_price : (x : Placed) (h : HeldItd) → IsItdOf x h.itd → (itd_transaction h).price.0 ≤ largest x.want
most_price x h of = subst (λ n. (itd_transaction h).price.0 ≤ n) (largest_is x h of) (by_way h.itd.dir_in h)

-- ---- what was heard comes next in the count

abbrev IsFewer : HeldItd → Heard → Type 0
IsFewer h (Packet k n) = k < h.rest
IsFewer h TooLong = Unit {0}
IsFewer h Wrong = Unit {0}

fitting : (h : HeldItd) (b : Bool) (k n : ℕ) → k < h.rest → IsFewer h (if b then Packet k n else TooLong)
fitting h true k n less = less
fitting h false k n less = tt

ordered : (h : HeldItd) (b : Bool) (k n : ℕ) → is_in_order h k ≡ b → IsFewer h (if b then (if nat_le n (limit_of h) then Packet k n else TooLong) else Wrong)
ordered h true k n e = fitting h (nat_le n (limit_of h)) k n (in_order (h.made == 0) k h.rest e)
ordered h false k n e = tt

numbered : (h : HeldItd) (n : ℕ) (o : Option ℕ) → IsFewer h (heard_numbered h n o)
numbered h n None = tt
numbered h n (Some k) = ordered h (is_in_order h k) k n refl

heard_fewer : (h : HeldItd) (reply : Reply) → IsFewer h (heard_in h reply)
heard_fewer h (Bytes pid bytes) = numbered h (length bytes) (number_of pid)
heard_fewer h _ = tt

-- ---- a transaction

-- the copy after it
record IsNext (h k : HeldItd) : Type 0 where
  itd : k.itd ≡ h.itd
  slot : k.slot.active ≡ h.slot.active
  made : k.made ≡ h.made + 1
  rest : k.rest + 1 ≤ h.rest
  room : HasPackets k.rest k.ended
  address : k.at ≡ h.at

counted : (k : ℕ) (b : Bool) → k == 0 ≡ b → HasPackets k (if b then Some Whole else None)
counted k true e = tt
counted k false e = grind (arith, nat_tests, e)

packet : (h : HeldItd) (k len : ℕ) → k < h.rest → IsNext h (with_packet h k len)
packet h k len less = record { itd = refl; slot = refl; made = refl; rest = omega (arith, less); room = counted k (k == 0) refl; address = refl }

failing : (h : HeldItd) (s : ItdSlot) → s.active ≡ h.slot.active → 1 ≤ h.rest → IsNext h (with_slot h s)
failing h s same some = record { itd = refl; slot = same; made = refl; rest = omega (arith, some); room = tt; address = refl }

heard_next : (h : HeldItd) (heard : Heard) → 1 ≤ h.rest → IsFewer h heard → IsNext h (after_heard h heard)
heard_next h (Packet k len) some less = packet h k len less
heard_next h _ some less = failing h _ refl some

in_next : (h : HeldItd) (reply : Reply) → 1 ≤ h.rest → IsNext h (after_in h reply)
unfolding after_in
in_next h reply some = heard_next h (heard_in h reply) some (heard_fewer h reply)

out_next : (h : HeldItd) → 1 ≤ h.rest → IsNext h (after_out h)
unfolding after_out
out_next h some = packet h (h.rest - 1) (limit_of h) (omega (arith, some))

next : (b : Bool) (h : HeldItd) (reply : Reply) → 1 ≤ h.rest → IsNext h (if b then after_in h reply else after_out h)
next true h reply some = in_next h reply some
next false h reply some = out_next h some

kept : (x : Placed) (u : ℕ) (h k : HeldItd) → IsItdInHand x h u → h.slot.active ≡ true → IsNext h k → IsItdInHand x k u
kept x u h k held active is =
    let own = held.placed (sym held.slot ∙ active) in
    record {
      descriptor = record {
        speed = held.descriptor.speed;
        kind = held.descriptor.kind;
        max = ap (λ (v : Itd). v.max) is.itd ∙ held.descriptor.max;
      };
      packets = omega (arith, held.packets, is.made, is.rest);
      room = is.room;
      slot = is.slot ∙ (held.slot ∙ ap (λ (v : Itd). (slot_of (u % 8) v).active) (sym is.itd));
      placed = λ e. own;
      own = λ some. own;
    }

works : (x : Placed) (p there : FramePlace) (h : HeldItd) (reply : Reply) → there.walk ≡ p.walk → IsItdInHand x h p.walk.index → 1 ≤ h.rest → h.slot.active ≡ true
    → WorksAt x p (hands.Itd h) (itd_left_by (itd_transaction h) h there reply)
works x p there h reply same held some active =
    let left = ap (λ (w : Walk). w.left) same in
    let is = next h.itd.dir_in h reply some in
    let price = most_price x h held.descriptor in
    let slot = sym held.slot ∙ active in
    record {
      own = held.placed slot;
      most = omega (arith, price, left);
      left = omega (arith, left);
      index = ap (λ (w : Walk). w.index) same;
      copy = hands.Itd (itd_after reply h);
      hand = refl;
      going = record { of = kept x p.walk.index h (itd_after reply h) held active is; made = is.made; address = is.address };
      slot = (slot, omega (arith, is.rest));
    }

sent_priced : (x : Placed) (p there : FramePlace) (h : HeldItd) (all : Bool) (ask : Ask) (out : List ℕ) → there.walk ≡ p.walk → IsItdInHand x h p.walk.index → 1 ≤ h.rest → h.slot.active ≡ true
    → IsPriced x p (hands.Itd h) (sent all ask out (itd_left_by (itd_transaction h) h there) there)
sent_priced x p there h true ask out same held some active = λ reply. works x p there h reply same held some active
sent_priced x p there h false ask out same held some active = record { left = ap (λ (w : Walk). w.left) same; index = ap (λ (w : Walk). w.index) same; hand = tt }

-- ---- any event

timed_priced : (x : Placed) (p : FramePlace) (h : HeldItd) (late : Bool) → IsItdInHand x h p.walk.index → 1 ≤ h.rest → h.slot.active ≡ true
    → IsPriced x p (hands.Itd h) (itd_effect (if late then rows.Skip else rows.Transact (itd_transaction h)) h p)
timed_priced x p h true held some active = record { left = refl; index = refl; hand = tt }
timed_priced x p h false held some active =
    sent_priced x p (record p { memory = (itd_sending (itd_transaction h) h p.memory).memory }) h (itd_sending (itd_transaction h) h p.memory).all (itd_transaction h).ask
    (itd_sending (itd_transaction h) h p.memory).bytes refl held some active

open_priced : (x : Placed) (p : FramePlace) (h : HeldItd) (works : Bool) → h.slot.active ≡ works → IsItdInHand x h p.walk.index → 1 ≤ h.rest
    → IsPriced x p (hands.Itd h) (itd_effect (if works then timed_row p.walk.left (itd_transaction h) else rows.Skip) h p)
open_priced x p h true active held some = timed_priced x p h (nat_lt p.walk.left (itd_transaction h).price.0) held some active
open_priced x p h false active held some = record { left = refl; index = refl; hand = tt }

wrote_priced : (x : Placed) (p there : FramePlace) (all : Bool) (h : HeldItd) (ended : IsoEnd) → there.walk ≡ p.walk → RestsAt x p (hands.Itd h) (wrote_at all h ended there)
wrote_priced x p there true h ended same = record { left = ap (λ (w : Walk). w.left) same; index = ap (λ (w : Walk). w.index) same; hand = tt }
wrote_priced x p there false h ended same = record { left = ap (λ (w : Walk). w.left) same; index = ap (λ (w : Walk). w.index) same; hand = tt }

ended_priced : (x : Placed) (p : FramePlace) (h : HeldItd) (o : Option IsoEnd) → IsItdInHand x h p.walk.index → HasPackets h.rest o → IsPriced x p (hands.Itd h) (itd_effect (ended_row p.walk.left h o) h p)
ended_priced x p h (Some ended) held room =
    wrote_priced x p (record p { memory = (itd_written h p.walk.got p.memory).memory }) (itd_written h p.walk.got p.memory).all h ended refl
ended_priced x p h None held room = open_priced x p h h.slot.active refl held room

pub itd_priced : (x : Placed) (p : FramePlace) (h : HeldItd) → IsItdInHand x h p.walk.index → IsPriced x p (hands.Itd h) (itd_effect (itd_row p.walk.left h) h p)
itd_priced x p h held = ended_priced x p h h.ended held held.room

-- ---- in time

late_ended : (x : Placed) (left : ℕ) (h : HeldItd) (o : Option IsoEnd) → IsItdOf x h.itd → largest x.want ≤ left → is_late_itd left h o ≡ false
late_ended x left h (Some ended) of enough = refl
late_ended x left h None of enough =
    let price = most_price x h of in
    both_not h.slot.active (nat_lt left (itd_transaction h).price.0) (not_below left (itd_transaction h).price.0 (omega (arith, price, enough)))

pub itd_in_time : (x : Placed) (p : FramePlace) (h : HeldItd) → IsItdInHand x h p.walk.index → largest x.want ≤ p.walk.left → is_late_at p (Some (hands.Itd h)) ≡ false
itd_in_time x p h held enough = late_ended x p.walk.left h h.ended held.descriptor enough
