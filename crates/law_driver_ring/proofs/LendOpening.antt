-- A new endpoint's queue head and inactive qTD are lent.
use Rattle.std.proofs.Common.{◌≡◌, ◌≢◌, ℕ, ◌+◌, ◌*◌, ◌/◌, ◌≤◌, ◌⊎◌, Bool, List, Option, Some, None, ap, refl, sym, subst, ◌∙◌, ⊎_elim, inl, inr, arith}
use Rattle.law_structures.proofs.Common.{kept_no_lent}
use Rattle.law_common.proofs.Booleans.{both_true}
use Rattle.word_mem.specs.Runs.{Run, AreApart}
use Rattle.word_mem.specs.Memory.{Mem, IsShaped, AreAll, state_at, reaches}
use Rattle.word_mem.specs.Views.{words_in}
use Rattle.word_mem.specs.declared.blocks.BlockState.TheVariants.{Kept, Lent}
use Rattle.op_registers.specs.RegisterFile.{RegisterFile}
use Rattle.qh_qtd.specs.declared.queue_head.Qh.{Qh}
use Rattle.qh_qtd.specs.Qtd.{IsQtdInRange}
use Rattle.async_walk.specs.Walk.{Walk}
use Rattle.async_walk.specs.Rows.{place}
use Rattle.mem_runs.specs.Book.{holding, lend_taken, Stands}
use Rattle.mem_runs.proofs.Standing.{keeps_at, keeps_all}
use Rattle.drv_table.specs.DriverContent.{DriverContent}
use Rattle.drv_table.specs.Words.{dummy_qtd}
use Rattle.drv_table.specs.Commands.{advance}
use Rattle.claims_driver.specs.Owners.{EndpointRuns, HasBlocks, views_of}
use Rattle.claims_driver.specs.Leaving.{HasOwners}
use Rattle.law_driver.proofs.lemmas.ring_members.Freed.{lent_words}
use Rattle.law_structures.specs.lent_structures.Structures.{Structure, QueueHead, Element, HoldsQueueHead, HoldsElement, StructureSets, put, Has}
use Rattle.law_structures.proofs.lemmas.lent_structures.Names.{put_else, put_found}
use Rattle.law_structures.proofs.lemmas.lent_structures.Standing.{reaches_if}
use Rattle.law_structures.proofs.lemmas.lent_structures.Telling.{told_lent}
use Rattle.law_structures.specs.lent_structures.Sound.{IsMember}
use Rattle.law_ring.specs.Hand.{Hand}
use Rattle.claims_base.specs.Controller.{Base}
use Rattle.law_ring.specs.Ring.{IsRing}
use Rattle.law_ring.proofs.Driving.{lend_leaves_ring, another_leaves_ring}
use Rattle.law_driver_ring.specs.Inventory.{sorts_of, IsLent}
use Rattle.law_driver_ring.specs.Driven.{DrivesRing}
use Rattle.law_driver_ring.proofs.Lent.{lend_taken_leaves}
use Rattle.law_driver_ring.proofs.Viewing.{advance_views, driven_views}
use Rattle.law_driver_ring.specs.LendOpened.{IsOpened, opened_parts, LendOpensDrives}
use Rattle.law_driver_ring.proofs.LendLending.{other_slot, kept_apart, AreBothLent, both_lent, both_lend}
use Rattle.law_driver_ring.proofs.LendOwning.{TwoLent, queue_no_dummy, none_there, driven_two}

-- ---- the driver's content

pub lent_content : DriverContent → Mem → DriverContent
lent_content d m = record d { book = (lend_taken (holding d.book m)).book }

differ : (d : DriverContent) (m : Mem) (e : ℕ) (x : EndpointRuns) (q : Qh) → IsOpened d m e x q → HasOwners d → x.queue ≢ x.dummy
differ d m e x q opened has = queue_no_dummy (views_of d) has.owner e e x x has.owned.each opened.here opened.here

pub two_lent : (d : DriverContent) (m : Mem) (e : ℕ) (x : EndpointRuns) (q : Qh) → IsOpened d m e x q → (has : HasOwners d) → TwoLent (views_of d) (views_of (lent_content d m)) has.owner e x
unfolding lent_content
two_lent d m e x q opened has =
    let h = holding d.book m in
    let both = both_lend h x.queue x.dummy opened.queue_kept.run opened.dummy_kept.run (differ d m e x q opened has) opened.taken opened.queue_kept.is opened.dummy_kept.is in
    record {
      owned = has.owned.each;
      here = opened.here;
      queue_kept = λ lent. subst IsLent opened.queue_kept.is lent;
      dummy_kept = λ lent. subst IsLent opened.dummy_kept.is lent;
      queue_lent = subst IsLent (sym both.first) tt;
      dummy_lent = subst IsLent (sym both.second) tt;
      others = λ c first second. other_slot h x.queue x.dummy c opened.taken first second;
      endpoints = λ i. refl;
      transfers = λ t. refl;
      notes = λ b. refl;
      no_transfer = opened.no_transfer;
    }

-- ---- the two runs

pub record TwoRuns (m : Mem) (x : EndpointRuns) (r s : Run) : Type 0 where
  pub first : r.first ≡ x.queue
  pub two : r.blocks ≡ 2
  pub second : s.first ≡ x.dummy
  pub one : s.blocks ≡ 1
  pub queue_kept : AreAll m Kept r
  pub dummy_kept : AreAll m Kept s
  pub apart : AreApart s r

pub two_runs : (d : DriverContent) (m : Mem) (e : ℕ) (x : EndpointRuns) (q : Qh) → (opened : IsOpened d m e x q) → HasOwners d → Stands (holding d.book m) → TwoRuns m x opened.queue_kept.run opened.dummy_kept.run
two_runs d m e x q opened has stands =
    let h = holding d.book m in
    let r = opened.queue_kept.run in
    let s = opened.dummy_kept.run in
    record {
      first = (keeps_at h x.queue r stands opened.queue_kept.is).0;
      two = subst (HasBlocks 2) opened.queue_kept.is (has.owned.each.queue e x opened.here.here opened.here.queued).run;
      second = (keeps_at h x.dummy s stands opened.dummy_kept.is).0;
      one = subst (HasBlocks 1) opened.dummy_kept.is (has.owned.each.dummy e x opened.here.here opened.here.queued).run;
      queue_kept = keeps_all h x.queue r stands opened.queue_kept.is;
      dummy_kept = keeps_all h x.dummy s stands opened.dummy_kept.is;
      apart = kept_apart h x.queue x.dummy r s stands (differ d m e x q opened has) opened.queue_kept.is opened.dummy_kept.is;
    }

-- ---- both stand in memory

pub dummy_range : IsQtdInRange dummy_qtd
dummy_range =
    ((refl, tt), ((refl, tt), ((omega arith, (omega arith, (omega arith, (omega arith, tt)))), ((omega arith, (omega arith, tt)), ((omega arith, tt), ((omega arith, tt), ((omega arith, tt), ((omega arith, tt), tt))))))))

lent_memory : DriverContent → Mem → Mem
lent_memory d m = (lend_taken (holding d.book m)).memory

states_lent : (d : DriverContent) (m : Mem) (e : ℕ) (x : EndpointRuns) (q : Qh) → (opened : IsOpened d m e x q) → HasOwners d → Stands (holding d.book m) → IsShaped m → AreBothLent (lent_memory d m) opened.queue_kept.run opened.dummy_kept.run
unfolding lent_memory
states_lent d m e x q opened has stands shape =
    both_lent (holding d.book m) x.queue x.dummy opened.queue_kept.run opened.dummy_kept.run stands shape (differ d m e x q opened has) opened.taken opened.queue_kept.is opened.dummy_kept.is

queue_holds : (d : DriverContent) (m : Mem) (e : ℕ) (x : EndpointRuns) (q : Qh) → IsOpened d m e x q → HasOwners d → Stands (holding d.book m) → IsShaped m → HoldsQueueHead (lent_memory d m) (32 * x.queue) q
unfolding lent_memory
queue_holds d m e x q opened has stands shape =
    let runs = two_runs d m e x q opened has stands in
    let states = states_lent d m e x q opened has stands shape in
    let a = runs.first in
    let n = runs.two in
    record {
      aligned = omega arith;
      lent = both_true (reaches (lent_memory d m) (32 * x.queue)) (reaches (lent_memory d m) (32 * x.queue + 32))
          (reaches_if (lent_memory d m) (32 * x.queue) (states.first (32 * x.queue / 32) (omega (arith, a)) (omega (arith, a, n))))
          (reaches_if (lent_memory d m) (32 * x.queue + 32) (states.first ((32 * x.queue + 32) / 32) (omega (arith, a)) (omega (arith, a, n))));
      words = ap (λ (ws : List ℕ). words_in ws (32 * x.queue) 12) (lent_words (holding d.book m)) ∙ opened.queue_words;
      range = opened.range;
    }

dummy_holds : (d : DriverContent) (m : Mem) (e : ℕ) (x : EndpointRuns) (q : Qh) → IsOpened d m e x q → HasOwners d → Stands (holding d.book m) → IsShaped m → HoldsElement (lent_memory d m) (32 * x.dummy) dummy_qtd
unfolding lent_memory
dummy_holds d m e x q opened has stands shape =
    let runs = two_runs d m e x q opened has stands in
    let states = states_lent d m e x q opened has stands shape in
    let a = runs.second in
    let n = runs.one in
    record {
      aligned = omega arith;
      lent = reaches_if (lent_memory d m) (32 * x.dummy) (states.second (32 * x.dummy / 32) (omega (arith, a)) (omega (arith, a, n)));
      words = ap (λ (ws : List ℕ). words_in ws (32 * x.dummy) 8) (lent_words (holding d.book m)) ∙ opened.dummy_words;
      range = dummy_range;
    }

-- ---- in blocks that weren't Lent

in_queue : (x : EndpointRuns) (q : Qh) (b : ℕ) → Has (32 * x.queue) (QueueHead q) b → (b ≡ x.queue) ⊎ (b ≡ x.queue + 1)
in_queue x q b (inl is) = inl (omega (arith, is))
in_queue x q b (inr is) = inr (omega (arith, is))

queue_fresh : (m : Mem) (x : EndpointRuns) (q : Qh) (r s : Run) (b : ℕ) → TwoRuns m x r s → Has (32 * x.queue) (QueueHead q) b → state_at m b ≡ Some Lent → ⊥
queue_fresh m x q r s b runs has lent =
    let a = runs.first in
    let n = runs.two in
    ⊎_elim (λ (is : b ≡ x.queue). kept_no_lent (state_at m b) (runs.queue_kept b (omega (arith, is, a)) (omega (arith, is, a, n))) lent)
    (λ (is : b ≡ x.queue + 1). kept_no_lent (state_at m b) (runs.queue_kept b (omega (arith, is, a)) (omega (arith, is, a, n))) lent) (in_queue x q b has)

dummy_fresh : (m : Mem) (x : EndpointRuns) (r s : Run) (b : ℕ) → TwoRuns m x r s → b ≡ 32 * x.dummy / 32 → state_at m b ≡ Some Lent → ⊥
dummy_fresh m x r s b runs has lent =
    let a = runs.second in
    let n = runs.one in
    kept_no_lent (state_at m b) (runs.dummy_kept b (omega (arith, has, a)) (omega (arith, has, a, n))) lent

never_both : (m : Mem) (x : EndpointRuns) (q : Qh) (r s : Run) (b : ℕ) → TwoRuns m x r s → b ≡ 32 * x.dummy / 32 → Has (32 * x.queue) (QueueHead q) b → ⊥
never_both m x q r s b runs at has =
    let a = runs.first in
    let n = runs.two in
    let c = runs.second in
    let k = runs.one in
    let there = in_queue x q b has in
    let apart = runs.apart in
    ⊎_elim (λ (low : s.first + s.blocks ≤ r.first).
    ⊎_elim (λ (is : b ≡ x.queue). absurd (omega (arith, low, is, at, a, n, c, k))) (λ (is : b ≡ x.queue + 1). absurd (omega (arith, low, is, at, a, n, c, k))) there)
    (λ (high : r.first + r.blocks ≤ s.first).
    ⊎_elim (λ (is : b ≡ x.queue). absurd (omega (arith, high, is, at, a, n, c, k))) (λ (is : b ≡ x.queue + 1). absurd (omega (arith, high, is, at, a, n, c, k))) there) apart

-- ---- the ring

pub no_member : {X : Type 0} (member : ℕ → Bool) (n : ℕ) (parts : StructureSets) → parts n n ≡ None → IsMember member n (parts n) → X
no_member member n parts none is = absurd (some_none (parts n n) (QueueHead is.queue) none is.here)
  where
    some_none : (o : Option Structure) (s : Structure) → o ≡ None → o ≡ Some s → ⊥
    some_none o s none some = cc

ring_opened : (base : Base) (member : ℕ → Bool) (parts : StructureSets) (hand : Hand) (w : Walk) (r : RegisterFile) (m : Mem) (d : DriverContent) (e : ℕ) (x : EndpointRuns) (q : Qh)
    → IsOpened d m e x q → HasOwners d → Stands (holding d.book m) → DrivesRing base member parts hand (place w r m) d → IsRing base member (opened_parts parts x q) hand (place w r (lent_memory d m))
unfolding lent_memory
ring_opened base member parts hand w r m d e x q opened has stands k =
    let n = 32 * x.queue in
    let shape = k.ring.tells.shape in
    let runs = two_runs d m e x q opened has stands in
    let first = opened.queue_kept.run in
    let second = opened.dummy_kept.run in
    let two = two_lent d m e x q opened has in
    let none : (b : ℕ) → parts n b ≡ None = λ b. none_there (views_of d) (views_of (lent_content d m)) has.owner e x parts b two k.driven in
    let one = put parts n n (QueueHead q) in
    let lent = lend_leaves_ring base member parts hand (place w r m) n n (QueueHead q) (lent_memory d m) k.ring (lend_taken_leaves (holding d.book m) stands shape)
    (record { holds = queue_holds d m e x q opened has stands shape; fresh = λ b there. queue_fresh m x q first second b runs there }) (none n) (λ on. no_member member n parts (none n) (k.ring.members n on)) in
    another_leaves_ring base member one hand (place w r (lent_memory d m)) n (32 * x.dummy) (Element dummy_qtd) lent (dummy_holds d m e x q opened has stands shape)
    (λ b i c u at found there.
    ⊎_elim (λ (new : (i ≡ n) × (c ≡ n) × (u ≡ QueueHead q)).
    never_both m x q first second b runs at (subst (λ (j : ℕ). Has j (QueueHead q) b) new.1 (subst (λ (v : Structure). Has c v b) new.2 there)))
    (λ (old : parts i c ≡ Some u). dummy_fresh m x first second b runs at (told_lent m parts i c u b k.ring.tells old there))
    (put_found parts n n (QueueHead q) i c u found))
    (put_else parts n n (QueueHead q) (32 * x.dummy) (λ same. differ d m e x q opened has (omega (arith, same))) ∙ none (32 * x.dummy))
    (λ on. no_member member n parts (none n) (k.ring.members n on))

-- ---- the whole

pub lend_opens_drives : LendOpensDrives
unfolding lent_memory lent_content
lend_opens_drives base member parts hand w r m d e x q opened has stands k =
    let lent = lent_content d m in
    record {
      ring = ring_opened base member parts hand w r m d e x q opened has stands k;
      driven = driven_views (views_of lent) (views_of (advance lent)) (sorts_of (opened_parts parts x q)) (advance_views lent)
          (driven_two (views_of d) (views_of lent) has.owner e x parts q (two_lent d m e x q opened has) k.driven);
    }
