-- The copies of isochronous descriptors stay in their ranges, whatever their transactions come to.
use Rattle.std.proofs.Common.{◌≡◌, ℕ, zero, suc, ◌+◌, ◌-◌, ◌%◌, ◌<◌, ◌≤◌, min, max, Bool, true, false, ◌==◌, Option, Some, None, length, if◌then◌else◌, arith, refl}
use Rattle.std.specs.Prelude.{nat_le, nat_lt}
use Rattle.std.proofs.lemmas.Bool.{ltb-true, eqb-true, leb-true}
use Rattle.usb_base.specs.declared.packets.Reply.{Reply}
use Rattle.usb_base.specs.declared.packets.Reply.TheVariants.{Bytes}
use Rattle.link_words.specs.Layout.{IsWordInRange}
use Rattle.itd_sitd.specs.declared.itd.Itd.{Itd}
use Rattle.itd_sitd.specs.declared.slot.ItdSlot.{ItdSlot}
use Rattle.itd_sitd.specs.declared.sitd.Sitd.{Sitd}
use Rattle.itd_sitd.specs.Slot.{slot_rows}
use Rattle.itd_sitd.specs.Itd.{IsItdInRange, slot_of}
use Rattle.itd_sitd.specs.Sitd.{IsSitdInRange}
use Rattle.itd_sitd.proofs.ItdLaws.{slot_in_range}
use Rattle.hc_masks.proofs.Room.{with_bit_small}
use Rattle.hc_iso.specs.declared.held.HeldItd.{HeldItd}
use Rattle.hc_iso.specs.declared.held.IsoEnd.TheVariants.{Whole}
use Rattle.hc_iso.specs.declared.held.Heard.{Heard}
use Rattle.hc_iso.specs.declared.held.Heard.TheVariants.{Packet, TooLong, Wrong}
use Rattle.hc_iso.specs.declared.held.SplitHeard.{SplitHeard}
use Rattle.hc_iso.specs.declared.held.SplitHeard.TheVariants as heards
use Rattle.hc_iso.specs.Itd.{packets_for, packets_of, fetched_itd, IsItdHeld, limit_of, number_of, is_in_order, heard_numbered, heard_in, with_packet, with_slot, after_heard, after_in, after_out}
use Rattle.hc_iso.specs.Sitd.{after_split_heard, marked, after_complete, after_start, after_part, moved_sitd}

-- ---- an iTD

pub max_small : (v : Itd) → IsItdInRange v → v.max ≤ 1024
max_small v range = omega (arith, range.fields.1.1.1.1.1.1.1.1.1.1.0.1.0)

pub addr_small : (v : Itd) → IsItdInRange v → v.addr ≤ 127
addr_small v range = omega (arith, range.fields.1.1.1.1.1.1.1.1.1.0.1.1.0)

pub ep_small : (v : Itd) → IsItdInRange v → v.ep ≤ 15
ep_small v range = omega (arith, range.fields.1.1.1.1.1.1.1.1.1.0.1.0)

pub multi_most : (v : Itd) → IsItdInRange v → v.multi ≤ 3
multi_most v range = omega (arith, range.fields.1.1.1.1.1.1.1.1.1.1.1.0.1.0)

pub multi_least : (v : Itd) → IsItdInRange v → 1 ≤ v.multi
multi_least v range = omega (arith, range.fields.1.1.1.1.1.1.1.1.1.1.1.0.1.0)

packets_at : (b : Bool) (multi n : ℕ) → 1 ≤ multi → multi ≤ 3 → (1 ≤ (if b then multi else max 1 (min multi n))) × ((if b then multi else max 1 (min multi n)) ≤ 3)
packets_at true multi n least most = (least, most)
packets_at false multi n least most = (omega arith, omega arith)

packets_few : (v : Itd) (s : ItdSlot) → IsItdInRange v → (1 ≤ packets_of v s) × (packets_of v s ≤ 3)
packets_few v s range = packets_at v.dir_in v.multi (packets_for s.length v.max) (multi_least v range) (multi_most v range)

pub fetched_held : (a u : ℕ) (v : Itd) → a % 32 ≡ 0 → u < 8 → IsItdInRange v → IsItdHeld (fetched_itd a u v)
unfolding fetched_itd
fetched_held a u v aligned low range =
    let few = packets_few v (slot_of u v) range in
    record {
      aligned = aligned;
      range = range;
      number = low;
      slot = slot_in_range v u range low;
      packets = omega (arith, few.1);
      going = λ e. few.0;
      bytes = omega arith;
      within = omega arith;
    }

-- a packet in order is one of those that are to come
order_at : (k rest : ℕ) (b : Bool) → (if b then nat_lt k rest else k + 1 == rest) ≡ true → k + 1 ≤ rest
order_at k rest true is = omega (arith, ltb-true k rest is)
order_at k rest false is = omega (arith, eqb-true (k + 1) rest is)

order_rest : (h : HeldItd) (k : ℕ) → is_in_order h k ≡ true → k + 1 ≤ h.rest
order_rest h k is = order_at k h.rest (h.made == 0) is

pub record Fits (h : HeldItd) (k n : ℕ) : Type 0 where
  pub comes : k + 1 ≤ h.rest
  pub bytes : n ≤ limit_of h

numbered_at : (h : HeldItd) (n j k m : ℕ) (b c : Bool) → is_in_order h j ≡ b → nat_le n (limit_of h) ≡ c → (if b then (if c then Packet j n else TooLong) else Wrong) ≡ Packet k m → Fits h k m
numbered_at h n j k m true true order le e =
    let place : j ≡ k = cc in
    let count : n ≡ m = cc in
    record { comes = omega (arith, place, order_rest h j order); bytes = omega (arith, count, leb-true n (limit_of h) le) }
numbered_at h n j k m true false order le e = absurd cc
numbered_at h n j k m false c order le e = absurd cc

numbered : (h : HeldItd) (n : ℕ) (o : Option ℕ) (k m : ℕ) → heard_numbered h n o ≡ Packet k m → Fits h k m
numbered h n None k m e = absurd cc
numbered h n (Some j) k m e = numbered_at h n j k m (is_in_order h j) (nat_le n (limit_of h)) refl refl e

heard_fits : (h : HeldItd) (reply : Reply) (k m : ℕ) → heard_in h reply ≡ Packet k m → Fits h k m
heard_fits h (Bytes pid bytes) k m e = numbered h (length bytes) (number_of pid) k m e
heard_fits h _ k m e = absurd cc

open_at : (k : ℕ) → (if k == 0 then Some Whole else None) ≡ None → 1 ≤ k
open_at zero e = absurd cc
open_at (suc k) e = omega arith

packet_held : (h : HeldItd) (k n : ℕ) → IsItdHeld h → k + 1 ≤ h.rest → n ≤ limit_of h → IsItdHeld (with_packet h k n)
packet_held h k n held comes bytes =
    let small = max_small h.itd held.range in
    record {
      aligned = held.aligned;
      range = held.range;
      number = held.number;
      slot = held.slot;
      packets = omega (arith, held.packets, comes);
      going = open_at k;
      bytes = omega (arith, held.bytes, bytes, small);
      within = omega (arith, held.within, bytes);
    }

error_held : (h : HeldItd) (s : ItdSlot) → IsItdHeld h → h.ended ≡ None → IsWordInRange slot_rows s → h.moved ≤ s.length → IsItdHeld (with_slot h s)
error_held h s held going range within =
    record {
      aligned = held.aligned;
      range = held.range;
      number = held.number;
      slot = range;
      packets = omega (arith, held.packets, held.going going);
      going = λ e. absurd cc;
      bytes = omega (arith, held.bytes);
      within = within;
    }

heard_held : (h : HeldItd) (heard : Heard) → IsItdHeld h → h.ended ≡ None → ((k n : ℕ) → heard ≡ Packet k n → Fits h k n) → IsItdHeld (after_heard h heard)
heard_held h (Packet k n) held going fits = packet_held h k n held (fits k n refl).comes (fits k n refl).bytes
heard_held h TooLong held going fits = error_held h (record h.slot { babble = true }) held going held.slot held.within
heard_held h Wrong held going fits = error_held h (record h.slot { xact_err = true }) held going held.slot held.within

pub in_held : (h : HeldItd) (reply : Reply) → IsItdHeld h → h.ended ≡ None → IsItdHeld (after_in h reply)
unfolding after_in
in_held h reply held going = heard_held h (heard_in h reply) held going (heard_fits h reply)

pub out_held : (h : HeldItd) → IsItdHeld h → h.ended ≡ None → IsItdHeld (after_out h)
unfolding after_out
out_held h held going = packet_held h (h.rest - 1) (limit_of h) held (omega (arith, held.going going)) (omega arith)

-- ---- a siTD

heard_in_range : (heard : SplitHeard) (v : Sitd) → IsSitdInRange v → IsSitdInRange (after_split_heard heard v)
heard_in_range (heards.Data last n) v (link, (endpoint, (masks, ((total, rest), later)))) = (link, (endpoint, (masks, ((omega (arith, total), rest), later))))
heard_in_range _ v range = range

marked_in_range : (u : ℕ) (v : Sitd) → u < 8 → IsSitdInRange v → IsSitdInRange (marked u v)
marked_in_range u v low (link, (endpoint, (masks, ((total, (prog, rest)), later)))) =
    (link, (endpoint, (masks, ((total, (with_bit_small v.c_prog u (omega (arith, prog)) low, rest)), later))))

position_at : (tp t : ℕ) (b c : Bool) → tp < 4 → (if b then tp else if c then 3 else 2) < 4
position_at tp t true c small = small
position_at tp t false true small = omega arith
position_at tp t false false small = omega arith

pub part_in_range : (u : ℕ) (v : Sitd) → u < 8 → IsSitdInRange v → IsSitdInRange (after_part u v)
unfolding after_part
part_in_range u v low (link, (endpoint, (masks, ((total, (prog, rest)), (place, ((page1, (tp, (count, none))), back)))))) =
    (link, (endpoint, (masks, ((omega (arith, total), (with_bit_small v.c_prog u (omega (arith, prog)) low, rest)), (place, ((page1, (position_at v.tp v.t_count (nat_le v.t_count 1) (v.t_count == 2) (omega (arith, tp)), (omega (arith, count), none))), back))))))

pub complete_in_range : (u : ℕ) (heard : SplitHeard) (v : Sitd) → u < 8 → IsSitdInRange v → IsSitdInRange (after_complete u heard v)
unfolding after_complete
complete_in_range u heard v low range = marked_in_range u (after_split_heard heard v) low (heard_in_range heard v range)

pub start_in_range : (v : Sitd) → IsSitdInRange v → IsSitdInRange (after_start v)
unfolding after_start
start_in_range v range = range

pub moved_in_range : (n : ℕ) (v : Sitd) → IsSitdInRange v → IsSitdInRange (moved_sitd n v)
unfolding moved_sitd
moved_in_range n v (link, (endpoint, (masks, (state, ((page0, (offset, rest)), later))))) = (link, (endpoint, (masks, (state, ((page0, (omega arith, rest)), later)))))
