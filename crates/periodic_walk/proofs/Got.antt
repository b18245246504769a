-- The bytes that an iTD in hand received: no more than it moved, and room for a packet while one is to come.
use Rattle.std.proofs.Common.{◌≡◌, ℕ, ◌≤◌, Bool, true, false, List, Option, Some, None, length, if◌then◌else◌, arith, refl}
use Rattle.std.specs.Prelude.{nat_le}
use Rattle.std.proofs.lemmas.List.{length-append}
use Rattle.usb_base.specs.declared.packets.Reply.{Reply}
use Rattle.usb_base.specs.declared.packets.Reply.TheVariants.{Bytes}
use Rattle.hc_iso.specs.declared.held.HeldItd.{HeldItd}
use Rattle.hc_iso.specs.declared.held.Heard.{Heard}
use Rattle.hc_iso.specs.declared.held.Heard.TheVariants.{Packet, TooLong, Wrong}
use Rattle.hc_iso.specs.Itd.{IsItdHeld, limit_of, number_of, is_in_order, heard_numbered, heard_in, after_heard, after_in, after_out, itd_after}
use Rattle.hc_iso.specs.WriteBack.{bytes_of}
use Rattle.periodic_walk.specs.Itd.{with_heard, got_after}

pub room_for_packet : (h : HeldItd) (got : List ℕ) → IsItdHeld h → h.ended ≡ None → length got ≤ h.moved → length got ≤ 2048
room_for_packet h got held going kept = omega (arith, held.bytes, held.packets, held.going going, kept)

-- a packet in order has the bytes of its reply
numbered_at : (h : HeldItd) (n j k m : ℕ) (b c : Bool) → (if b then (if c then Packet j n else TooLong) else Wrong) ≡ Packet k m → n ≡ m
numbered_at h n j k m true true e = cc
numbered_at h n j k m true false e = absurd cc
numbered_at h n j k m false c e = absurd cc

numbered : (h : HeldItd) (n : ℕ) (o : Option ℕ) (k m : ℕ) → heard_numbered h n o ≡ Packet k m → n ≡ m
numbered h n None k m e = absurd cc
numbered h n (Some j) k m e = numbered_at h n j k m (is_in_order h j) (nat_le n (limit_of h)) e

heard_bytes : (h : HeldItd) (reply : Reply) (k m : ℕ) → heard_in h reply ≡ Packet k m → length (bytes_of reply) ≡ m
heard_bytes h (Bytes pid bytes) k m e = numbered h (length bytes) (number_of pid) k m e
heard_bytes h _ k m e = absurd cc

kept_at : (h : HeldItd) (reply : Reply) (got : List ℕ) (heard : Heard) → length got ≤ h.moved → ((k m : ℕ) → heard ≡ Packet k m → length (bytes_of reply) ≡ m) → length (with_heard heard reply got) ≤ (after_heard h heard).moved
kept_at h reply got (Packet k n) kept bytes = omega (arith, length-append got (bytes_of reply), bytes k n refl, kept)
kept_at h reply got _ kept bytes = kept

in_kept : (h : HeldItd) (reply : Reply) (got : List ℕ) → length got ≤ h.moved → length (with_heard (heard_in h reply) reply got) ≤ (after_in h reply).moved
unfolding after_in
in_kept h reply got kept = kept_at h reply got (heard_in h reply) kept (heard_bytes h reply)

out_kept : (h : HeldItd) (got : List ℕ) → length got ≤ h.moved → length got ≤ (after_out h).moved
unfolding after_out
out_kept h got kept = omega (arith, kept)

bounded_at : (h : HeldItd) (reply : Reply) (got : List ℕ) (b : Bool) → length got ≤ h.moved → length (if b then with_heard (heard_in h reply) reply got else got) ≤ (if b then after_in h reply else after_out h).moved
bounded_at h reply got true kept = in_kept h reply got kept
bounded_at h reply got false kept = out_kept h got kept

pub got_bounded : (h : HeldItd) (reply : Reply) (got : List ℕ) → length got ≤ h.moved → length (got_after h reply got) ≤ (itd_after reply h).moved
got_bounded h reply got kept = bounded_at h reply got h.itd.dir_in kept
