-- The worked request is laid out, and so are both; memory shows the second where the first is done, and once it is begun.
use Rattle.std.proofs.Common.{◌≡◌, ◌≢◌, ℕ, zero, suc, ◌<◌, ◌≤◌, ◌==◌, true, false, Some, None, refl, inl, inr, ap, sym, ◌∙◌, subst, arith}
use Rattle.std.proofs.lemmas.Bool.{eqb-true, false≢true}
use Rattle.law_devices.proofs.Common.{first_low}
use Rattle.link_words.specs.Links.{no_qtd}
use Rattle.hc_copy.specs.Overlay.{advanced}
use Rattle.qh_qtd.specs.declared.queue_head.Qh.{Qh}
use Rattle.law_structures.specs.lent_structures.Structures.{Element, Buffer, Structures}
use Rattle.law_structures.proofs.lemmas.lent_structures.Altering.{found_queue}
use Rattle.law_request.specs.Host.{Stage, Setup, Data, Status, Done}
use Rattle.law_request.specs.Line.{Line}
use Rattle.law_request.specs.Samples.{described, get_device, get_configuration}
use Rattle.law_request.specs.Standing.{sight_of, IsDone, StandsAt, Stands}
use Rattle.law_request.specs.Windows.{IsRequest}
use Rattle.law_request.proofs.Steps.{window_opens}
use Rattle.law_devices.specs.request_calls.Stages.{IsEndpoint}
use Rattle.law_ring.specs.Hand.{Empty}
use Rattle.law_devices.specs.ring_requests.Laid.{place_at, AreApart, AreOthers, comes, IsUnpublished, IsIdle, LeadBehind, IsFresh}
use Rattle.law_devices.specs.ring_requests.Shown.Shows.{works, ends}
use Rattle.law_devices.specs.ring_requests.Windows.{sent_at, IsFinished, IsBehind, IsLaid, HasTail, IsQueue, AreLaid, AreChained, AreSent, AreHigh}
use Rattle.law_devices.specs.ring_requests.Samples.{queue, setup, read, status, pages_at, parts, request, first_status, second_setup, second_read, both_parts, asked, stand_at, requests, after, first_done, then_begun, done_queue, done_qtd, done_parts, next_queue, next_parts, device_in, is_only, is_both}

none_leads : (part : Structures) → IsUnpublished part no_qtd
none_leads part a t leads here = absurd cc

ends_here : LeadBehind (parts 32) None status
ends_here = record { next = none_leads (parts 32); alternate = inl refl }

fresh_at : (s : Stage) → comes request.request Setup s ≡ true → IsFresh request.endpoint request.request request.places (parts 32) s
fresh_at Setup on = record { stage = record { qtd = setup; here = refl; pid = refl; leads = record { next = refl; alternate = inl refl }; bytes = refl }; begins = λ ping. refl }
fresh_at Data on = record { stage = record { qtd = read; here = refl; pid = refl; leads = record { next = refl; alternate = inr refl }; bytes = λ off. absurd (false≢true (sym off)) }; begins = λ ping. refl }
fresh_at Status on = record { stage = record { qtd = status; here = refl; pid = refl; leads = ends_here; bytes = tt }; begins = λ ping. refl }
fresh_at _ on = absurd (false≢true on)

pub request_laid : IsLaid request Empty parts 32 queue
request_laid = record {
  head = refl;
  control = record { toggles = refl; address = refl; number = refl; packets = refl };
  idle = refl;
  nothing_made = refl;
  leads = refl;
  fresh = fresh_at;
  none_told = λ some. record { queue = queue; head = refl; qtd = read; here = refl; are = refl };
}

pub its_is_high : AreHigh (λ n. n == 32) parts
its_is_high n q on here =
    let is : n ≡ 32 = eqb-true n 32 on in
    let same : queue ≡ q = found_queue (parts 32 32) queue q refl (ap (λ (k : ℕ). parts k k) (sym is) ∙ here) in
    ap (λ (z : Qh). z.eps) (sym same)

-- ---- both

first_fresh : (s : Stage) → comes (asked 0) Setup s ≡ true → IsFresh described (asked 0) (stand_at 0) (both_parts 32) s
first_fresh Setup on = record { stage = record { qtd = setup; here = refl; pid = refl; leads = record { next = refl; alternate = inl refl }; bytes = refl }; begins = λ ping. refl }
first_fresh Data on = record { stage = record { qtd = read; here = refl; pid = refl; leads = record { next = refl; alternate = inr refl }; bytes = λ off. absurd (false≢true (sym off)) }; begins = λ ping. refl }
first_fresh Status on = record { stage = record { qtd = first_status; here = refl; pid = refl; leads = record { next = refl; alternate = inl refl }; bytes = tt }; begins = λ ping. refl }
first_fresh _ on = absurd (false≢true on)

-- the structures of the second request
record HasSecond (part : Structures) : Type 0 where
  setup_there : part 160 ≡ Some (Element second_setup)
  read_there : part 192 ≡ Some (Element second_read)
  status_there : part 224 ≡ Some (Element status)
  bytes_there : part 8192 ≡ Some (Buffer (pages_at 2) 0 get_configuration.setup)

second_fresh : (part : Structures) → HasSecond part → (s : Stage) → comes (asked 1) Setup s ≡ true → IsFresh described (asked 1) (stand_at 1) part s
second_fresh part k Setup on = record { stage = record { qtd = second_setup; here = k.setup_there; pid = refl; leads = record { next = refl; alternate = inl refl }; bytes = k.bytes_there }; begins = λ ping. refl }
second_fresh part k Data on = record {
  stage = record { qtd = second_read; here = k.read_there; pid = refl; leads = record { next = refl; alternate = inr refl }; bytes = λ off. absurd (false≢true (sym off)) };
  begins = λ ping. refl;
}
second_fresh part k Status on = record { stage = record { qtd = status; here = k.status_there; pid = refl; leads = record { next = none_leads part; alternate = inl refl }; bytes = tt }; begins = λ ping. refl }
second_fresh part k _ on = absurd (false≢true on)

second_behind : IsBehind (sent_at requests 1) Empty both_parts 32
second_behind = record { fresh = second_fresh (both_parts 32) (record { setup_there = refl; read_there = refl; status_there = refl; bytes_there = refl }); none_told = λ some. record { queue = queue; head = refl; qtd = second_read; here = refl; are = refl } }

-- the last of them has no tail
no_tail : (part : Structures) → HasTail requests part
no_tail part i a one is = by (subst (λ (i : ℕ). (stand_at i).behind ≡ Some a) (let last : i ≡ 1 = omega (arith, one) in last) is)
  where
    by : None ≡ Some a → IsIdle part a
    by e = absurd cc

pub both_laid : AreLaid requests Empty both_parts 32 queue
both_laid = record {
  some = omega (arith);
  first = record {
    head = refl;
    control = record { toggles = refl; address = refl; number = refl; packets = refl };
    idle = refl;
    nothing_made = refl;
    leads = refl;
    fresh = first_fresh;
    none_told = λ some. record { queue = queue; head = refl; qtd = read; here = refl; are = refl };
  };
  behind = λ i more few. subst (λ (i : ℕ). IsBehind (sent_at requests i) Empty both_parts 32) (let one : 1 ≡ i = omega (arith, more, few) in one) second_behind;
  tail = no_tail (both_parts 32);
}

-- ---- what is fixed of them

both_chained : AreChained requests
both_chained i few = subst (λ (i : ℕ). (stand_at i).behind ≡ Some (stand_at (suc i)).setup) (let none : 0 ≡ i = omega (arith, few) in none) refl

below_two : (P : ℕ → Type 0) (i : ℕ) → P 0 → P 1 → i < 2 → P i
below_two P zero first second few = first
below_two P (suc zero) first second few = second
below_two P (suc (suc i)) first second few = absurd (omega (arith, few))

second_high : (s : Stage) → 160 ≤ place_at (stand_at 1) s
second_high Setup = omega (arith)
second_high _ = omega (arith)

first_second : AreOthers (stand_at 0) (stand_at 1)
first_second s t same = let low = first_low s in let high = second_high t in omega (arith, same, low, high)

second_first : AreOthers (stand_at 1) (stand_at 0)
second_first s t same = first_second t s (sym same)

are_others : (i k : ℕ) → i < 2 → k < 2 → i ≢ k → AreOthers (stand_at i) (stand_at k)
are_others i k few fewer differs =
    below_two (λ (i : ℕ). (k : ℕ) → k < 2 → i ≢ k → AreOthers (stand_at i) (stand_at k)) i
    (λ k fewer. below_two (λ (k : ℕ). 0 ≢ k → AreOthers (stand_at 0) (stand_at k)) k (λ differs. absurd (differs refl)) (λ differs. first_second) fewer)
    (λ k fewer. below_two (λ (k : ℕ). 1 ≢ k → AreOthers (stand_at 1) (stand_at k)) k (λ differs. second_first) (λ differs. absurd (differs refl)) fewer) few k fewer differs

pub both_sent : AreSent is_only is_only is_both
both_sent = record {
  members = λ n on. on;
  requests = λ n i on few. below_two (λ (i : ℕ). IsRequest (asked i)) i (record { setup = refl; bytes = λ off. absurd (false≢true (sym off)) }) (record { setup = refl; bytes = λ off. absurd (false≢true (sym off)) }) few;
  whole = λ n on. omega (arith);
  places = λ n i on few.
      below_two (λ (i : ℕ). AreApart (stand_at i)) i (record { setup_data = λ is. omega (arith, is); setup_status = λ is. omega (arith, is); data_status = λ is. omega (arith, is) })
      (record { setup_data = λ is. omega (arith, is); setup_status = λ is. omega (arith, is); data_status = λ is. omega (arith, is) }) few;
  others = λ n i k on few fewer differs. are_others i k few fewer differs;
  chained = λ n on. both_chained;
  apart = λ n k on one same same_too. eqb-true n 32 on ∙ sym (eqb-true k 32 one);
}

-- ---- what memory shows once the first is done

done_first : (l : Line) → IsDone described get_device (sight_of l) → l.host.stage ≡ Done → l.host.side.max ≡ 64 → l.device.max ≡ 64 → Stands described get_device l
done_first l done is host device = record { host_max = host; device_max = device; stage = subst (λ (s : Stage). StandsAt described get_device s (sight_of l)) (sym is) done }

first_stands : Stands described get_device ((after first_done).line 0)
first_stands = done_first ((after first_done).line 0) (record { moved = refl; acts = refl }) refl refl refl

is_control : IsEndpoint described done_queue
is_control = record { toggles = refl; address = refl; number = refl; packets = refl }

pub first_shown : IsQueue requests (after first_done) Empty done_parts 32 (device_in 0 (after first_done))
first_shown = record {
  within = omega (arith);
  window = record {
    queue = done_queue;
    head = refl;
    control = is_control;
    shown = ends (record { done = refl; idle = refl; ping = refl; behind = refl; worked = λ on. absurd (false≢true on) });
    among = λ on. absurd (false≢true on);
    moved = λ some. record { queue = done_queue; head = refl; qtd = done_qtd read; here = refl; are = refl };
    device = refl;
    stands = first_stands;
  };
  finished = λ i less. absurd (omega (arith, less));
  behind = λ i more few. subst (λ (i : ℕ). IsBehind (sent_at requests i) Empty done_parts 32) (let one : 1 ≡ i = omega (arith, more, few) in one) (record {
    fresh = second_fresh (done_parts 32) (record { setup_there = refl; read_there = refl; status_there = refl; bytes_there = refl });
    none_told = λ some. record { queue = done_queue; head = refl; qtd = second_read; here = refl; are = refl };
  });
  tail = no_tail (done_parts 32);
}

-- ---- and once the second is begun

pub queue_advanced : next_queue ≡ advanced done_queue 160 second_setup
unfolding advanced
queue_advanced = refl

second_begun : (s : Stage) → comes (asked 1) Setup s ≡ true → IsFresh described (asked 1) (stand_at 1) (next_parts 32) s
second_begun = second_fresh (next_parts 32) (record { setup_there = refl; read_there = refl; status_there = refl; bytes_there = refl })

second_later : (s : Stage) → comes (asked 1) Data s ≡ true → IsFresh described (asked 1) (stand_at 1) (next_parts 32) s
second_later Data on = second_begun Data refl
second_later Status on = second_begun Status refl
second_later _ on = absurd (false≢true on)

pub second_shown : IsQueue requests (after then_begun) Empty next_parts 32 (device_in 1 (after then_begun))
second_shown = record {
  within = omega (arith);
  window = record {
    queue = next_queue;
    head = refl;
    control = record { toggles = refl; address = refl; number = refl; packets = refl };
    shown = works (record {
      goes_on = refl;
      active = refl;
      side_is = refl;
      current = refl;
      stage = record { qtd = second_setup; here = refl; pid = refl; leads = record { next = refl; alternate = inl refl }; bytes = refl };
      pid = refl;
      next = refl;
      alternate = refl;
      later = second_later;
    });
    among = λ on. record { stage = Setup; is = refl };
    moved = λ some. record { queue = next_queue; head = refl; qtd = second_read; here = refl; are = refl };
    device = refl;
    stands = window_opens described get_configuration false ((after first_done).line 0).device refl;
  };
  finished = λ i less.
      subst (λ (i : ℕ). IsFinished (sent_at requests i) ((after then_begun).line i) Empty next_parts 32) (let none : 0 ≡ i = omega (arith, less) in none)
      (record { done = refl; moved = λ some. record { queue = next_queue; head = refl; qtd = done_qtd read; here = refl; are = refl }; stands = first_stands });
  behind = λ i more few. absurd (omega (arith, more, few));
  tail = no_tail (next_parts 32);
}
