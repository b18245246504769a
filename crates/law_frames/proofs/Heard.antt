-- What an iTD in hand is once a transaction was made.
use Rattle.std.proofs.Common.{◌≡◌, ℕ, zero, suc, Bool, true, false, nat_le, List, [], ◌∷◌, ◌++◌, length, if◌then◌else◌, Option, Some, None, ap, refl, sym, ◌∙◌, ◌+◌, arith}
use Rattle.std.proofs.lemmas.List.{length-append}
use Rattle.usb_base.specs.declared.packets.Reply.{Reply}
use Rattle.usb_base.specs.declared.packets.Reply.TheVariants as replies
use Rattle.hc_iso.specs.declared.held.HeldItd.{HeldItd}
use Rattle.hc_iso.specs.declared.held.Heard.{Heard}
use Rattle.hc_iso.specs.declared.held.Heard.TheVariants as heards
use Rattle.hc_iso.specs.Itd.{IsItdHeld, limit_of, number_of, is_in_order, heard_numbered, heard_in, after_heard, after_in, after_out, itd_after}
use Rattle.hc_iso.specs.WriteBack.{bytes_of}
use Rattle.hc_iso.proofs.Ranges.{in_held, out_held}
use Rattle.periodic_walk.specs.Itd.{with_heard, got_after}
use Rattle.law_structures.specs.lent_structures.Structures.{StructureSets}
use Rattle.law_frames.specs.Met.{Kind}
use Rattle.law_frames.specs.FrameHand.{ItdCopy}
use Rattle.law_frames.specs.Frame.{received_of, IsCopiedItd}
use Rattle.law_frames.specs.ItdSteps.{AreBytes}

-- ---- bytes

are_appended : (xs ys : List ℕ) → AreBytes xs → AreBytes ys → AreBytes (xs ++ ys)
are_appended [] ys one other i = other i
are_appended (x ∷ xs) ys one other zero = one zero
are_appended (x ∷ xs) ys one other (suc i) = are_appended xs ys (λ k. one (suc k)) other i

-- ---- a packet that was heard has as many bytes as are counted

numbered_at : (h : HeldItd) (n j k m : ℕ) (b c : Bool) → (if b then (if c then heards.Packet j n else heards.TooLong) else heards.Wrong) ≡ heards.Packet k m → n ≡ m
numbered_at h n j k m true true e = cc
numbered_at h n j k m true false e = absurd cc
numbered_at h n j k m false c e = absurd cc

numbered : (h : HeldItd) (n : ℕ) (o : Option ℕ) (k m : ℕ) → heard_numbered h n o ≡ heards.Packet k m → n ≡ m
numbered h n None k m e = absurd cc
numbered h n (Some j) k m e = numbered_at h n j k m (is_in_order h j) (nat_le n (limit_of h)) e

heard_length : (h : HeldItd) (reply : Reply) (k n : ℕ) → heard_in h reply ≡ heards.Packet k n → length (bytes_of reply) ≡ n
heard_length h (replies.Bytes pid bytes) k n e = numbered h (length bytes) (number_of pid) k n e
heard_length h _ k n e = absurd cc

-- ---- the copy

module _ (met : ℕ → Option Kind) (parts : StructureSets) (got : List ℕ) (reply : Reply) (c : ItdCopy) (copied : IsCopiedItd met parts got c) (active : c.held.slot.active ≡ true) (small : AreBytes (bytes_of reply)) where
  heard_copied : c.held.itd.dir_in ≡ true → (heard : Heard) → ((k n : ℕ) → heard ≡ heards.Packet k n → length (bytes_of reply) ≡ n) → IsItdHeld (after_heard c.held heard) → IsCopiedItd met parts (with_heard heard reply got) (record c { held = after_heard c.held heard })
  heard_copied into (heards.Packet k n) count held =
      let before : length got ≡ c.held.moved = copied.count ∙ ap (λ (b : Bool). received_of b c.held.moved) into in
      let both = length-append got (bytes_of reply) in
      let more = count k n refl in
      let all : length (got ++ bytes_of reply) ≡ c.held.moved + n = omega (arith, before, both, more) in
      record {
        on = copied.on;
        here = copied.here;
        link = copied.link;
        same = copied.same;
        held = held;
        slot = copied.slot;
        count = all ∙ ap (λ (b : Bool). received_of b (c.held.moved + n)) (sym into);
        small = are_appended got (bytes_of reply) copied.small small;
        begun = λ some. active;
      }
  heard_copied into heards.TooLong count held = record {
    on = copied.on;
    here = copied.here;
    link = copied.link;
    same = copied.same;
    held = held;
    slot = record { page = copied.slot.page; offset = copied.slot.offset; length = copied.slot.length; active = copied.slot.active };
    count = copied.count;
    small = copied.small;
    begun = copied.begun;
  }
  heard_copied into heards.Wrong count held = record {
    on = copied.on;
    here = copied.here;
    link = copied.link;
    same = copied.same;
    held = held;
    slot = record { page = copied.slot.page; offset = copied.slot.offset; length = copied.slot.length; active = copied.slot.active };
    count = copied.count;
    small = copied.small;
    begun = copied.begun;
  }

  in_copied : c.held.itd.dir_in ≡ true → IsItdHeld (after_in c.held reply) → IsCopiedItd met parts (with_heard (heard_in c.held reply) reply got) (record c { held = after_in c.held reply })
  unfolding after_in
  in_copied into held = heard_copied into (heard_in c.held reply) (heard_length c.held reply) held

  out_copied : c.held.itd.dir_in ≡ false → IsItdHeld (after_out c.held) → IsCopiedItd met parts got (record c { held = after_out c.held })
  unfolding after_out
  out_copied out held = record {
    on = copied.on;
    here = copied.here;
    link = copied.link;
    same = copied.same;
    held = held;
    slot = copied.slot;
    count = copied.count ∙ ap (λ (b : Bool). received_of b c.held.moved) out ∙ sym (ap (λ (b : Bool). received_of b (c.held.moved + limit_of c.held)) out);
    small = copied.small;
    begun = λ some. active;
  }

  way_copied : (b : Bool) → c.held.itd.dir_in ≡ b → c.held.ended ≡ None → IsCopiedItd met parts (if b then with_heard (heard_in c.held reply) reply got else got) (record c { held = if b then after_in c.held reply else after_out c.held })
  way_copied true way going = in_copied way (in_held c.held reply copied.held going)
  way_copied false way going = out_copied way (out_held c.held copied.held going)

pub heard_keeps_copy : (met : ℕ → Option Kind) (parts : StructureSets) (got : List ℕ) (reply : Reply) (c : ItdCopy) → IsCopiedItd met parts got c → c.held.ended ≡ None → c.held.slot.active ≡ true → AreBytes (bytes_of reply) → IsCopiedItd met parts (got_after c.held reply got) (record c { held = itd_after reply c.held })
heard_keeps_copy met parts got reply c copied going active small = way_copied met parts got reply c copied active small c.held.itd.dir_in refl going
