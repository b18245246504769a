-- Worked hosts below a hub.
use Rattle.std.proofs.Common.{◌≡◌, ◌≢◌, ◌⊎◌, inl, inr, ℕ, zero, suc, ◌+◌, ◌==◌, Bool, true, false, List, [], ◌∷◌, length, take, Option, Some, None, if◌then◌else◌}
use Rattle.std.proofs.Common.{refl, sym, ◌∙◌, ap, subst, arith, ⊎_elim}
use Rattle.std.specs.List.{concat}
use Rattle.std.proofs.lemmas.Bool.{false≢true}
use Rattle.usb_base.specs.declared.packets.Pid.TheVariants as Packets
use Rattle.usb_base.specs.declared.packets.Reply.TheVariants.{Hand}
use Rattle.bus_wire.specs.Samples.{opened}
use Rattle.qh_qtd.specs.declared.qtd.Qtd.{Qtd}
use Rattle.law_structures.specs.lent_structures.Structures.{QueueHead, Element}
use Rattle.law_ring.specs.Bus.{Sender}
use Rattle.law_ring.specs.OutPipes.{level}
use Rattle.law_translated.specs.Lift.{Buffered, Piped, Wait, Idle, Waits, Late, Empty, Asked, There, At}
use Rattle.law_translated.specs.InPipes.{Line, Counts, IsNear, in_halves, in_claims}
use Rattle.law_translated.specs.KeyEvents.{mapped}
use Rattle.law_translated.specs.KeySlots.{KeySlot}
use Rattle.law_translated.specs.OutPipes.{out_opening}
use Rattle.law_below_hubs.specs.HostIns.{IsWait, starts, completes, too_late, InSide}
use Rattle.law_below_hubs.specs.HostOuts.{OutAt, out_slot}
use Rattle.law_below_hubs.specs.InWork.{in_asked, in_answer, sender_of_line}
use Rattle.law_below_hubs.specs.Seated.{sender_at}
use Rattle.law_below_hubs.specs.WorkedBelow as inward
use Rattle.law_below_hubs.specs.WorkedHosts.{Opens, Starts, ResultComes, UnsentBreaks, ReadStarts, NoStreamBreaks, queue_at, part_of}
use Rattle.law_below_hubs.specs.WorkedHosts.{IsBelow, HighBreaks, periodic_key, three_packets, LostWaits, LateBreaks, GivenUpBreaks}
use Rattle.law_below_hubs.specs.WorkedPut.{one_byte, before, after, taken}
use Rattle.law_below_hubs.proofs.WorkedBelow as read
use Rattle.law_below_hubs.proofs.WorkedPut.{start_is_taken, result_is_there}

pub opens : Opens
opens = record {
  line = out_opening;
  slot = Empty;
  knows = refl;
  sends = refl;
  rest = refl;
  has = (
    (
      record {
        slot = record { is_told = false; packet = []; is = refl };
        keyed = record { once = inl refl; entries = tt; none = refl };
      },
      tt,
    ),
    tt,
  );
  right = ((record { first = tt; second = tt; entries = tt }, tt), tt);
  taker = refl;
  holds = record { near = inl refl; sends_parity = refl; expects_parity = refl };
}

pub starts_so : Starts
starts_so = record {
  line = before;
  slot = Asked taken;
  knows = refl;
  sends = refl;
  rest = refl;
  has = start_is_taken.has;
  right = start_is_taken.right;
  taker = refl;
  holds = (
    record { parity = refl; later = []; rest = refl },
    record { near = inl refl; sends_parity = refl; expects_parity = refl },
  );
}

pub result_comes : ResultComes
result_comes = record {
  line = after;
  slot = There taken (Hand Packets.Ack);
  knows = refl;
  sends = refl;
  rest = refl;
  has = result_is_there.has;
  right = ((record { first = tt; second = tt; entries = tt }, tt), tt);
  taker = refl;
  holds = record {
    is = record { parity = refl; later = []; rest = refl };
    agrees = record {
      near = inr (record { next = one_byte; later = []; rest = refl; taken = refl });
      sends_parity = refl;
      expects_parity = refl;
    };
    ahead = record { next = one_byte; later = []; rest = refl; taken = refl };
  };
}

pub unsent_breaks : UnsentBreaks
unsent_breaks o = by o.slot (sym o.has.0.0.slot.is) o.holds
  where
    by : (s : KeySlot) → s ≡ Asked taken → OutAt (out_slot s) true o.line → ⊥
    by s is at =
        let both : OutAt (out_slot (Asked taken)) true o.line = subst (λ (x : KeySlot). OutAt (out_slot x) true o.line) is at in
        let e : one_byte ∷ both.0.later ≡ [] = sym both.0.rest ∙ o.rest in
        cc

pub read_starts : ReadStarts
read_starts = record {
  line = inward.before;
  wait = Waits;
  slot = Asked inward.taken;
  is_wait = completes;
  knows = refl;
  expects = refl;
  in_time = λ one on late. cc;
  goes = λ on. refl;
  has = read.start_is_taken.has;
  right = read.start_is_taken.right;
  sender = refl;
  holds = record {
    at = (
      tt,
      record {
        known = 0;
        count = refl;
        left = refl;
        sends_parity = refl;
        expects_parity = refl;
        in_order = refl;
        stand = λ on. inl refl;
      },
    );
    aside = tt;
  };
}

abbrev left_of : Option Sender → List (List ℕ)
left_of None = []
left_of (Some s) = s.left

pub no_stream_breaks : NoStreamBreaks
no_stream_breaks o = by o.wait o.slot o.is_wait (sym o.has.0.0.slot.is) o.holds.at
  where
    left : o.line.left ≡ inward.three_bytes ∷ []
    left = ap (λ (s : Option Sender). left_of s) (sym o.sender)

    by : (u : Wait) (s : KeySlot) → IsWait true u → s ≡ Asked inward.taken
        → At in_halves (in_claims []) Buffered (mapped in_asked in_answer s) u o.line → ⊥
    by u s is at h = asked u is (subst (λ (x : KeySlot). At in_halves (in_claims []) Buffered (mapped in_asked in_answer x) u o.line) at h)
      where
        asked : (v : Wait) → IsWait true v → At in_halves (in_claims []) Buffered
            (mapped in_asked in_answer (Asked inward.taken)) v o.line → ⊥
        asked _ completes both =
            let count : both.1.known + length o.line.left ≡ 0 = both.1.count in
            let one : length o.line.left ≡ 1 = ap length left in
            omega (arith, count, one)
        asked _ too_late none = none

-- ---- an interrupt IN

-- the device knows that two packets were taken, and the host took one
abbrev lost : Line
lost = record { left = inward.three_bytes ∷ []; sends = false; accepted = (7 ∷ []) ∷ []; expects = true; going = true }

pub lost_waits : LostWaits
lost_waits = record {
  line = lost;
  wait = Late;
  slot = Empty;
  is_wait = too_late;
  in_time = λ one on. absurd (false≢true on);
  knows = refl;
  expects = refl;
  goes = λ on. refl;
  has = (
    (
      record {
        slot = record { is_told = false; packet = []; is = refl };
        keyed = record { once = tt; entries = tt; first = refl; second = refl };
      },
      tt,
    ),
    tt,
  );
  right = ((record { first = tt; second = tt; entries = tt }, tt), tt);
  sender = refl;
  holds = record {
    at = record {
      known = 2;
      count = refl;
      left = refl;
      sends_parity = refl;
      expects_parity = refl;
      in_order = refl;
      stand = λ on. inr (inr refl);
    };
    aside = tt;
  };
}

-- nothing is on its way, so what one side counts is near to what the other does
near_breaks : (l : Line) → Counts three_packets IsNear l → l.going ≡ true → concat l.accepted ≡ 7 ∷ [] → length l.left ≡ 1 → ⊥
near_breaks l c going knows one = by (length l.accepted) refl
  where
    few : l.accepted ≡ take (length l.accepted) three_packets
    few = c.in_order

    two : c.known ≡ 2
    two = let count : c.known + length l.left ≡ 3 = c.count in omega (arith, count, one)

    with_size : (n : ℕ) → length l.accepted ≡ n → concat (take n three_packets) ≡ 7 ∷ []
    with_size n is = ap (λ (m : ℕ). concat (take m three_packets)) (sym is) ∙ sym (ap concat few) ∙ knows

    near : (n : ℕ) → length l.accepted ≡ n → (c.known ≡ n) ⊎ (c.known + 1 ≡ n)
    near n is = subst (λ (m : ℕ). (c.known ≡ m) ⊎ (c.known + 1 ≡ m)) is (c.stand going)

    by : (n : ℕ) → length l.accepted ≡ n → ⊥
    by zero is = let e = with_size 0 is in cc
    by (suc zero) is = ⊎_elim (λ (e : c.known ≡ 1). omega (arith, e, two)) (λ (e : c.known + 1 ≡ 1). omega (arith, e, two)) (near 1 is)
    by (suc (suc n)) is = let e = with_size (suc (suc n)) is in cc

still_has : (o : Option Sender) (x : Sender) → o ≡ Some x → length (left_of o) ≡ length x.left
still_has o x is = ap (λ (y : Option Sender). length (left_of y)) is

module _ (waiting timely : Bool) (o : InSide three_packets periodic_key 0 0 (opened []) true waiting true timely (7 ∷ [])) where
  -- nothing of the key is in the hub
  empty_at : (u : Wait) → o.wait ≡ u → At in_halves (in_claims three_packets) Piped Empty u o.line
  empty_at u is =
      subst (λ (x : KeySlot). At in_halves (in_claims three_packets) Piped (mapped in_asked in_answer x) u o.line) (sym o.has.0.0.slot.is)
      (subst (λ (x : Wait). At in_halves (in_claims three_packets) Piped (mapped in_asked in_answer o.slot) x o.line) is o.holds.at)

  breaks : Counts three_packets IsNear o.line → ⊥
  breaks c =
      near_breaks o.line c (o.goes refl) o.knows (sym (still_has (sender_at (opened []) 3 1) (sender_of_line o.line) o.sender))

pub late_breaks : LateBreaks
late_breaks o = breaks true true o (empty_at true true o Waits (by o.wait o.is_wait (o.in_time refl refl)))
  where
    by : (u : Wait) → IsWait true u → u ≢ Late → u ≡ Waits
    by _ completes never = refl
    by _ too_late never = absurd (never refl)

pub given_up_breaks : GivenUpBreaks
given_up_breaks timely o = breaks false timely o (empty_at false timely o Idle (by o.wait o.is_wait))
  where
    by : (u : Wait) → IsWait false u → u ≡ Idle
    by _ starts = refl

none_there : (a : ℕ) (t : Qtd) → part_of 0 a ≡ Some (Element t) → ⊥
none_there a t is = by (a == 64) is
  where
    by : (b : Bool) → (if b then Some (QueueHead (queue_at 0)) else None) ≡ Some (Element t) → ⊥
    by true e = cc
    by false e = cc

pub is_below : IsBelow
is_below = record {
  queue = queue_at 0;
  head = refl;
  is = refl;
  below = refl;
  own = refl;
  outs = λ a t here on. absurd (none_there a t here);
  first = λ a t here on. absurd (none_there a t here);
  rests = λ off going. refl;
  hub = record { found = refl; content = _; there = refl; place_is = refl };
  host = record { next = None; side = opens; agrees = level refl refl };
}

pub high_breaks : HighBreaks
high_breaks k = let e : true ≡ false = k.below in cc
