-- The worked publication: the first request has a tail, the second one's further structures are lent, and its SETUP is stored into the tail.
use Rattle.std.proofs.Common.{◌≡◌, ◌≢◌, ℕ, ◌<◌, ◌≤◌, true, Some, None, refl, inl, inr, ap, sym, ◌∙◌, subst, ⊎_elim, arith}
use Rattle.std.specs.Prelude.{◌⊎◌, List, replicate}
use Rattle.std.proofs.lemmas.Bool.{cases_eq, false≢true}
use Rattle.law_devices.proofs.Common.{first_low}
use Rattle.law_structures.proofs.Common.{element_is}
use Rattle.qh_qtd.specs.Blank.{blank_qtd}
use Rattle.qh_qtd.specs.declared.qtd.Qtd.{Qtd}
use Rattle.qh_qtd.specs.declared.queue_head.Qh.{Qh}
use Rattle.law_structures.specs.lent_structures.Structures.{Structure, QueueHead, Element, Buffer, Structures, StructureSets, put}
use Rattle.law_structures.proofs.lemmas.lent_structures.Names.{put_else, put_beside, put_found}
use Rattle.law_structures.specs.lent_structures.Sound.{buffer_name, HasBuffer}
use Rattle.law_structures.proofs.lemmas.lent_structures.Altering.{found_element}
use Rattle.law_request.specs.Host.{Stage, Setup, Data, Status}
use Rattle.law_request.specs.Samples.{described, get_device, get_configuration}
use Rattle.law_ring.specs.Hand.{Empty}
use Rattle.law_devices.specs.ring_requests.Laid.{place_at, AreOthers, comes, IsIdle, IsFresh}
use Rattle.law_devices.specs.ring_requests.Windows.{sent_at, IsBehind, AreLaid}
use Rattle.law_devices.specs.ring_requests.Samples.{queue, setup, read, status, pages_at, parts, qtds, nothing, first_status, second_setup, second_read, stand_at, is_only}
use Rattle.law_devices.specs.request_stores.Published.{IsAside, IsLend, IsNextRequest}
use Rattle.law_devices.specs.request_stores.Samples.{first_only, firsts, one_parts, last_status, with_read, with_status, with_tail, with_setup, lent_parts, both_now, second_places, both}

-- ---- the first with its tail

pub record HasFirst (part : Structures) : Type 0 where
  pub setup_there : part 64 ≡ Some (Element setup)
  pub read_there : part 96 ≡ Some (Element read)
  pub status_there : part 128 ≡ Some (Element first_status)
  pub bytes_there : part 0 ≡ Some (Buffer (pages_at 0) 0 get_device.setup)

pub first_fresh : (part : Structures) → HasFirst part → (s : Stage) → comes get_device Setup s ≡ true → IsFresh described get_device (stand_at 0) part s
first_fresh part k Setup on = record { stage = record { qtd = setup; here = k.setup_there; pid = refl; leads = record { next = refl; alternate = inl refl }; bytes = k.bytes_there }; begins = λ ping. refl }
first_fresh part k Data on = record { stage = record { qtd = read; here = k.read_there; pid = refl; leads = record { next = refl; alternate = inr refl }; bytes = λ off. absurd (false≢true (sym off)) }; begins = λ ping. refl }
first_fresh part k Status on = record { stage = record { qtd = first_status; here = k.status_there; pid = refl; leads = record { next = refl; alternate = inl refl }; bytes = tt }; begins = λ ping. refl }
first_fresh part k _ on = absurd (false≢true on)

some_number : ℕ → {a b : ℕ} → Some a ≡ Some b → a ≡ b
some_number n e = cc

pub tail_at : (part : Structures) (b : ℕ) → part b ≡ Some (Element blank_qtd) → (a : ℕ) → Some b ≡ Some a → IsIdle part a
tail_at part b there a is = subst (IsIdle part) (some_number 0 is) (record { qtd = blank_qtd; here = there; idle = refl })

pub one_laid : AreLaid first_only Empty one_parts 32 queue
one_laid = record {
  some = omega (arith);
  first = record {
    head = refl;
    control = record { toggles = refl; address = refl; number = refl; packets = refl };
    idle = refl;
    nothing_made = refl;
    leads = refl;
    fresh = first_fresh (one_parts 32) (record { setup_there = refl; read_there = refl; status_there = refl; bytes_there = refl });
    none_told = λ some. record { queue = queue; head = refl; qtd = read; here = refl; are = refl };
  };
  behind = λ i more few. absurd (omega (arith, more, few));
  tail = λ i a last is. tail_at (one_parts 32) 160 refl a is;
}

-- ---- more is lent

put_still : (ps : StructureSets) (a : ℕ) (s : Structure) → ps 32 a ≡ None → (b : ℕ) (u : Structure) → ps 32 b ≡ Some u → put ps 32 a s 32 b ≡ Some u
put_still ps a s none b u there =
    ⊎_elim {C = put ps 32 a s 32 b ≡ Some u} (λ (at : b ≡ a). absurd (by (sym none ∙ ap (ps 32) (sym at) ∙ there))) (λ (differs : b ≢ a). put_else ps 32 a s b differs ∙ there) (cases_eq b a)
  where
    by : None ≡ Some u → ⊥
    by e = cc

all_still : (b : ℕ) (u : Structure) → one_parts 32 b ≡ Some u → lent_parts 32 b ≡ Some u
all_still b u there =
    put_still with_setup 12288 (Buffer (pages_at 3) 0 (replicate 9 0)) refl b u
    (put_still with_tail 8192 (Buffer (pages_at 2) 0 get_configuration.setup) refl b u
    (put_still with_status 256 (Element blank_qtd) refl b u (put_still with_read 224 (Element last_status) refl b u (put_still one_parts 192 (Element second_read) refl b u there))))

all_beside : (k : ℕ) → k ≢ 32 → lent_parts k ≡ one_parts k
all_beside k differs =
    put_beside with_setup 32 12288 (Buffer (pages_at 3) 0 (replicate 9 0)) k differs
    ∙ put_beside with_tail 32 8192 (Buffer (pages_at 2) 0 get_configuration.setup) k differs
    ∙ put_beside with_status 32 256 (Element blank_qtd) k differs
    ∙ put_beside with_read 32 224 (Element last_status) k differs
    ∙ put_beside one_parts 32 192 (Element second_read) k differs

-- what is found is what was put, or was there before
found_else : (C : Type 0) (ps : StructureSets) (a : ℕ) (s : Structure) (b : ℕ) (t : Qtd) → put ps 32 a s 32 b ≡ Some (Element t) → (b ≡ a → Element t ≡ s → C) → (ps 32 b ≡ Some (Element t) → C) → C
found_else C ps a s b t found one other = ⊎_elim {C = C} (λ (k : (32 ≡ 32) × (b ≡ a) × (Element t ≡ s)). one k.1 k.2) other (put_found ps 32 a s 32 b (Element t) found)

abbrev IsKept : Qtd → Type 0
IsKept t = lent_parts 32 (buffer_name t) ≡ one_parts 32 (buffer_name t)

kept_as : (t u : Qtd) → Element t ≡ Element u → IsKept u → IsKept t
kept_as t u same kept = subst IsKept (sym (element_is t u same)) kept

no_buffer : {t : Qtd} {pages : List ℕ} {k : ℕ} {bs : List ℕ} → Element t ≡ Buffer pages k bs → ⊥
no_buffer e = cc

no_head : {t : Qtd} {q : Qh} → Element t ≡ QueueHead q → ⊥
no_head e = cc

nothing_there : {t : Qtd} (b : ℕ) → nothing 32 b ≡ Some (Element t) → ⊥
nothing_there b e = cc

buffers_still : (b : ℕ) (t : Qtd) → one_parts 32 b ≡ Some (Element t) → lent_parts 32 (buffer_name t) ≡ one_parts 32 (buffer_name t)
buffers_still b t found =
    found_else (IsKept t) (put parts 32 128 (Element first_status)) 160 (Element blank_qtd) b t found (λ at same. kept_as t blank_qtd same refl) (λ found.
    found_else (IsKept t) parts 128 (Element first_status) b t found (λ at same. kept_as t first_status same refl) (λ found.
    found_else (IsKept t) (put qtds 32 0 (Buffer (pages_at 0) 0 get_device.setup)) 4096 (Buffer (pages_at 1) 0 (replicate 18 0)) b t found (λ at same. absurd (no_buffer same)) (λ found.
    found_else (IsKept t) qtds 0 (Buffer (pages_at 0) 0 get_device.setup) b t found (λ at same. absurd (no_buffer same)) (λ found.
    found_else (IsKept t) (put (put (put nothing 32 32 (QueueHead queue)) 32 64 (Element setup)) 32 96 (Element read)) 128 (Element status) b t found (λ at same. kept_as t status same refl) (λ found.
    found_else (IsKept t) (put (put nothing 32 32 (QueueHead queue)) 32 64 (Element setup)) 96 (Element read) b t found (λ at same. kept_as t read same refl) (λ found.
    found_else (IsKept t) (put nothing 32 32 (QueueHead queue)) 64 (Element setup) b t found (λ at same. kept_as t setup same refl) (λ found.
    found_else (IsKept t) nothing 32 (QueueHead queue) b t found (λ at same. absurd (no_head same)) (λ found. absurd (nothing_there b found)))))))))

-- higher than the first request's, which has a tail
aside : (a b : ℕ) (t : Qtd) → a ≡ b → 128 < b → IsAside first_only (one_parts 32) a t
aside a b t at high = record { places = λ i s few same. let low = first_low s in omega (arith, same, low, at, high); unled = λ i few none. absurd cc }

abbrev IsOldOrAside : ℕ → Qtd → Type 0
IsOldOrAside a t = (one_parts 32 a ≡ Some (Element t)) ⊎ IsAside first_only (one_parts 32) a t

found_now : (a : ℕ) (t : Qtd) → lent_parts 32 a ≡ Some (Element t) → (one_parts 32 a ≡ Some (Element t)) ⊎ IsAside first_only (one_parts 32) a t
found_now a t found =
    found_else (IsOldOrAside a t) with_setup 12288 (Buffer (pages_at 3) 0 (replicate 9 0)) a t found (λ at same. absurd (no_buffer same)) (λ found.
    found_else (IsOldOrAside a t) with_tail 8192 (Buffer (pages_at 2) 0 get_configuration.setup) a t found (λ at same. absurd (no_buffer same)) (λ found.
    found_else (IsOldOrAside a t) with_status 256 (Element blank_qtd) a t found (λ at same. inr (aside a 256 t at (omega (arith)))) (λ found.
    found_else (IsOldOrAside a t) with_read 224 (Element last_status) a t found (λ at same. inr (aside a 224 t at (omega (arith)))) (λ found.
    found_else (IsOldOrAside a t) one_parts 192 (Element second_read) a t found (λ at same. inr (aside a 192 t at (omega (arith)))) (λ found. inl found)))))

pub more_lent : IsLend is_only firsts one_parts lent_parts 32
more_lent = record { beside = all_beside; still = all_still; buffers = buffers_still; elements = λ on. found_now }

-- ---- the second is published

second_fresh : (s : Stage) → comes get_configuration Setup s ≡ true → IsFresh described get_configuration second_places (both_now 32) s
second_fresh Setup on = record { stage = record { qtd = second_setup; here = refl; pid = refl; leads = record { next = refl; alternate = inl refl }; bytes = refl }; begins = λ ping. refl }
second_fresh Data on = record { stage = record { qtd = second_read; here = refl; pid = refl; leads = record { next = refl; alternate = inr refl }; bytes = λ off. absurd (false≢true (sym off)) }; begins = λ ping. refl }
second_fresh Status on = record { stage = record { qtd = last_status; here = refl; pid = refl; leads = record { next = refl; alternate = inl refl }; bytes = tt }; begins = λ ping. refl }
second_fresh _ on = absurd (false≢true on)

second_high : (s : Stage) → 160 ≤ place_at second_places s
second_high Setup = omega (arith)
second_high _ = omega (arith)

first_second : AreOthers (stand_at 0) second_places
first_second s t same = let low = first_low s in let high = second_high t in omega (arith, same, low, high)

read_buffer : HasBuffer (both_now 32) second_read second_read.token.total
read_buffer = record { bytes = replicate 9 0; here = refl; size = refl }

pub second_next : IsNextRequest first_only get_configuration second_places (both_now 32)
second_next = record {
  request = record { setup = refl; bytes = λ off. absurd (false≢true (sym off)) };
  apart = record { setup_data = λ is. omega (arith, is); setup_status = λ is. omega (arith, is); data_status = λ is. omega (arith, is) };
  others = λ i few. first_second;
  behind = λ i last. refl;
  fresh = second_fresh;
  buffer = λ some t there. subst (λ (u : Qtd). HasBuffer (both_now 32) u u.token.total) (found_element (both_now 32 192) second_read t refl there) read_buffer;
  tail = λ a is. tail_at (both_now 32) 256 refl a is;
}

second_behind : IsBehind (sent_at both 1) Empty both_now 32
second_behind = record { fresh = second_fresh; none_told = λ some. record { queue = queue; head = refl; qtd = second_read; here = refl; are = refl } }

pub both_laid : AreLaid both Empty both_now 32 queue
both_laid = record {
  some = omega (arith);
  first = record {
    head = refl;
    control = record { toggles = refl; address = refl; number = refl; packets = refl };
    idle = refl;
    nothing_made = refl;
    leads = refl;
    fresh = first_fresh (both_now 32) (record { setup_there = refl; read_there = refl; status_there = refl; bytes_there = refl });
    none_told = λ some. record { queue = queue; head = refl; qtd = read; here = refl; are = refl };
  };
  behind = λ i more few. subst (λ (i : ℕ). IsBehind (sent_at both i) Empty both_now 32) (let one : 1 ≡ i = omega (arith, more, few) in one) second_behind;
  tail = λ i a last is. both_tail a (subst (λ (i : ℕ). (both.places i).behind ≡ Some a) (let one : i ≡ 1 = omega (arith, last) in one) is);
}
  where
    both_tail : (a : ℕ) → Some 256 ≡ Some a → IsIdle (both_now 32) a
    both_tail a is = tail_at (both_now 32) 256 refl a is
