-- A transfer that waits for its lend has one chain of qTDs, whatever its stages are taken to be.
use Rattle.std.proofs.Common.{◌≡◌, ◌≢◌, ℕ, ◌*◌, ◌≤◌, ◌⊎◌, Bool, true, false, List, [], ◌∷◌, ◌++◌, length, if◌then◌else◌, Some, ap, refl, sym, subst, ◌∙◌, ⊎_elim, inl, inr, arith}
use Rattle.std.specs.List.{AllByRecursion}
use Rattle.std.proofs.lemmas.Option.{same_Some}
use Rattle.law_queues.proofs.Common.{one_qtd}
use Rattle.word_mem.specs.Memory.{Mem, IsShaped}
use Rattle.qh_qtd.specs.declared.qtd.Qtd.{Qtd}
use Rattle.qh_qtd.specs.Qtd.{IsQtdInRange}
use Rattle.mem_runs.specs.declared.slots.Slot.{Slot}
use Rattle.mem_runs.specs.Book.{holding, slot_of, Stands}
use Rattle.drv_table.specs.declared.content.QtdNote.{QtdNote}
use Rattle.drv_table.specs.declared.content.Stage.{Stage}
use Rattle.drv_table.specs.DriverContent.{DriverContent}
use Rattle.drv_table.specs.Harvests.{note_at}
use Rattle.drv_table.specs.Offers.{is_last}
use Rattle.drv_table.specs.Words.{request_stages}
use Rattle.law_driver.specs.run_owners.Accepts.{AreShort}
use Rattle.claims_driver.specs.Owners.{EndpointRuns, TransferRuns, views_of}
use Rattle.law_structures.specs.lent_structures.Structures.{Element, Structures, StructureSets}
use Rattle.law_structures.specs.lent_structures.Sound.{HasBuffer}
use Rattle.law_driver_ring.specs.Inventory.{IsLent}
use Rattle.law_driver_ring.specs.Pieces.{stage_qtd, IsNewQtd, AreStanding, AreBuffered}
use Rattle.law_driver_ring.specs.Published.{IsPublishable}
use Rattle.law_driver_ring.specs.TransferLaws.{HasPieces}
use Rattle.law_driver_ring.specs.Written.{IsPageRun, AreAllApart, next_blocks, buffer_blocks, IsStageNoted, AreNoted, AreWritten, AwaitsLend}
use Rattle.law_driver_ring.proofs.Holding.{qtd_range, blocks_low}
use Rattle.claims_report.specs.Requests.{Request}
use Rattle.law_request.specs.Host.{has_data}
use Rattle.law_devices.specs.ring_requests.Laid.{Places, AreApart}
use Rattle.law_reports.specs.requests.request_bytes.Fresh.{data_places, other_places, next_of, request_places}
use Rattle.law_reports.proofs.lemmas.requests.lemmas.request_bytes.Requests.{no_data, with_data, request_case}

-- ---- one chain of qTDs

module _ (d : DriverContent) (m : Mem) (stands : Stands (holding d.book m)) (shape : IsShaped m) where
  -- the qTDs from block b on are the same
  abbrev SameQtds : ℕ → List Stage → List Stage → ℕ → Type 0
  SameQtds dummy [] [] b = Unit {0}
  SameQtds dummy [] (z ∷ zs) b = ⊥
  SameQtds dummy (s ∷ ss) [] b = ⊥
  SameQtds dummy (s ∷ ss) (z ∷ zs) b = (stage_qtd d.notes s b dummy (is_last ss) ≡ stage_qtd d.notes z b dummy (is_last zs)) × SameQtds dummy ss zs (note_at d.notes b).next

  record IsChain (dummy : ℕ) (ss : List Stage) (b : ℕ) : Type 0 where
    words : AreWritten m d.notes dummy ss b
    noted : AreNoted (slot_of d.book.slots) d.notes ss b
    short : AreShort ss
    pids : AllByRecursion (λ r. r.pid ≤ 2) ss

  pub ranged : (s : Stage) (b dummy : ℕ) (last : Bool) → s.pid ≤ 2 → s.long ≤ 20480 → IsStageNoted (slot_of d.book.slots) (note_at d.notes b) s → IsQtdInRange (stage_qtd d.notes s b dummy last)
  ranged s b dummy last pid long noted = qtd_range s (note_at d.notes b).next dummy (note_at d.notes b).buffer last pid long (blocks_low (holding d.book m) (note_at d.notes b) s stands shape noted)

  same_qtds : (dummy : ℕ) (ss zs : List Stage) (b : ℕ) → length ss ≡ length zs → IsChain dummy ss b → IsChain dummy zs b → SameQtds dummy ss zs b
  same_qtds dummy [] [] b long f g = tt
  same_qtds dummy [] (z ∷ zs) b long f g = omega (arith, long)
  same_qtds dummy (s ∷ ss) [] b long f g = omega (arith, long)
  same_qtds dummy (s ∷ ss) (z ∷ zs) b long f g = (
    one_qtd (stage_qtd d.notes s b dummy (is_last ss)) (stage_qtd d.notes z b dummy (is_last zs))
        (ranged s b dummy (is_last ss) f.pids.0 f.short.0 f.noted.0) (ranged z b dummy (is_last zs) g.pids.0 g.short.0 g.noted.0) (sym f.words.0 ∙ g.words.0),
    same_qtds dummy ss zs (note_at d.notes b).next (omega (arith, long))
        (record { words = f.words.1; noted = f.noted.1; short = f.short.1; pids = f.pids.1 }) (record { words = g.words.1; noted = g.noted.1; short = g.short.1; pids = g.pids.1 }),
  )

  standing_as : (part : Structures) (dummy : ℕ) (ss zs : List Stage) (b : ℕ) → SameQtds dummy ss zs b → AreStanding part d.notes dummy zs b → AreStanding part d.notes dummy ss b
  standing_as part dummy [] [] b same k = k
  standing_as part dummy [] (z ∷ zs) b same k = absurd same
  standing_as part dummy (s ∷ ss) [] b same k = absurd same
  standing_as part dummy (s ∷ ss) (z ∷ zs) b same k = (k.0 ∙ ap (λ (t : Qtd). Some (Element t)) (sym same.0), standing_as part dummy ss zs (note_at d.notes b).next same.1 k.1)

  buffered_as : (part : Structures) (dummy : ℕ) (ss zs : List Stage) (b : ℕ) → SameQtds dummy ss zs b → AreBuffered part d.notes dummy zs b → AreBuffered part d.notes dummy ss b
  buffered_as part dummy [] [] b same k = tt
  buffered_as part dummy [] (z ∷ zs) b same k = absurd same
  buffered_as part dummy (s ∷ ss) [] b same k = absurd same
  buffered_as part dummy (s ∷ ss) (z ∷ zs) b same k =
      let long : s.long ≡ z.long = ap (λ (t : Qtd). t.token.total) same.0 in
      (λ some. subst (λ (t : Qtd). HasBuffer part t t.token.total) (sym same.0) (k.0 (omega (arith, some, long))), buffered_as part dummy ss zs (note_at d.notes b).next same.1 k.1)

  new_as : (dummy : ℕ) (ss zs : List Stage) (b a : ℕ) (u : Qtd) → SameQtds dummy ss zs b → IsNewQtd d.notes dummy ss b a u → IsNewQtd d.notes dummy zs b a u
  new_as dummy [] [] b a u same new = new
  new_as dummy [] (z ∷ zs) b a u same new = absurd same
  new_as dummy (s ∷ ss) [] b a u same new = absurd same
  new_as dummy (s ∷ ss) (z ∷ zs) b a u same (inl new) = inl (new.0, new.1 ∙ same.0)
  new_as dummy (s ∷ ss) (z ∷ zs) b a u same (inr new) = inr (new_as dummy ss zs (note_at d.notes b).next a u same.1 new)

  same_back : (dummy : ℕ) (ss zs : List Stage) (b : ℕ) → SameQtds dummy ss zs b → SameQtds dummy zs ss b
  same_back dummy [] [] b same = tt
  same_back dummy [] (z ∷ zs) b same = absurd same
  same_back dummy (s ∷ ss) [] b same = absurd same
  same_back dummy (s ∷ ss) (z ∷ zs) b same = (sym same.0, same_back dummy ss zs (note_at d.notes b).next same.1)

  -- ---- what is lent of it

  pieces_by : (t : ℕ) (y : TransferRuns) (x : EndpointRuns) (s z : Stage) (ss zs : List Stage) (slot : ℕ → Slot) (parts now : StructureSets) → AwaitsLend d m t y x s ss → AwaitsLend d m t y x z zs
      → IsPublishable (now (32 * x.queue)) (32 * y.first) (stage_qtd d.notes s y.first x.dummy (is_last ss)) → HasPieces d slot parts now y x z zs → HasPieces d slot parts now y x s ss
  pieces_by t y x s z ss zs slot parts now k g may p =
      let next = (note_at d.notes y.first).next in
      let mine = k.qtds in
      let other = g.qtds in
      let same : SameQtds x.dummy ss zs next =
      same_qtds x.dummy ss zs next (omega (arith, mine, other)) (record { words = k.words; noted = k.noted.1; short = k.short.1; pids = k.pids.1 }) (record { words = g.words; noted = g.noted.1; short = g.short.1; pids = g.pids.1 }) in
      record {
        still = p.still;
        beside = p.beside;
        standing = standing_as (now (32 * x.queue)) x.dummy ss zs next same p.standing;
        buffered = ((may.sound.work refl).buffer, buffered_as (now (32 * x.queue)) x.dummy ss zs next same p.buffered.1);
        first = may;
        names = p.names;
        elements = λ a u here. ⊎_elim {C = (parts (32 * x.queue) a ≡ Some (Element u)) ⊎ IsNewQtd d.notes x.dummy ss next a u} (λ was. inl was) (λ new. inr (new_as x.dummy zs ss next a u (same_back x.dummy ss zs next same) new)) (p.elements a u here);
        none_before = λ a u new. p.none_before a u (new_as x.dummy ss zs next a u same new);
        old_buffers = p.old_buffers;
        none_at_zero = p.none_at_zero;
      }

  -- of the newest transfer
  pub pieces_as : (t l : ℕ) (y z : TransferRuns) (x e : EndpointRuns) (s r : Stage) (ss rs : List Stage) (slot : ℕ → Slot) (parts now : StructureSets) → t ≡ l → AwaitsLend d m t y x s ss → AwaitsLend d m l z e r rs
      → IsPublishable (now (32 * x.queue)) (32 * y.first) (stage_qtd d.notes s y.first x.dummy (is_last ss)) → HasPieces d slot parts now z e r rs → HasPieces d slot parts now y x s ss
  pieces_as t l y z x e s r ss rs slot parts now number k g may p =
      let transfer : z ≡ y = same_Some z y (sym g.here.here ∙ ap (views_of d).transfer (sym number) ∙ k.here.here) in
      let endpoint : e ≡ x = same_Some e x (sym g.here.queue.here ∙ ap (λ (u : TransferRuns). (views_of d).endpoint u.endpoint) transfer ∙ k.here.queue.here) in
      pieces_by t y x s r ss rs slot parts now k
      (subst (λ (i : ℕ). AwaitsLend d m i y x r rs) (sym number) (subst (λ (u : EndpointRuns). AwaitsLend d m l y u r rs) endpoint (subst (λ (u : TransferRuns). AwaitsLend d m l u e r rs) transfer g)))
      may (subst (λ (u : EndpointRuns). HasPieces d slot parts now y u r rs) endpoint (subst (λ (u : TransferRuns). HasPieces d slot parts now u e r rs) transfer p))

-- ---- a request's qTDs are apart

lent_kept : (slot : Slot) → IsLent slot → IsPageRun slot 1 → ⊥
lent_kept slot lent kept = subst IsLent kept.is lent

abbrev places_by : List QtdNote → ℕ → Bool → Places
places_by notes b some =
    if some then data_places b (next_of notes b) (next_of notes (next_of notes b)) (next_of notes (next_of notes (next_of notes b)))
    else other_places b (next_of notes b) (next_of notes (next_of notes b))

module _ (d : DriverContent) (m : Mem) (t : ℕ) (y : TransferRuns) (x : EndpointRuns) (s : Stage) (ss : List Stage) (r : Request) (k : AwaitsLend d m t y x s ss) where
  abbrev b : ℕ
  b = y.first

  abbrev AllApart : List Stage → Type 0
  AllApart q = AreAllApart (next_blocks d.notes q b ++ buffer_blocks d.notes q b)

  abbrev AllKept : List Stage → Type 0
  AllKept q = AllByRecursion (λ c. IsPageRun (slot_of d.book.slots c) 1) (next_blocks d.notes q b)

  not_first : (c : ℕ) → IsPageRun (slot_of d.book.slots c) 1 → b ≢ c
  not_first c kept same = lent_kept (slot_of d.book.slots c) (subst (λ (i : ℕ). IsLent (slot_of d.book.slots i)) same k.first) kept

  without : AllKept no_data → AreApart (places_by d.notes b false)
  without kept = record {
    setup_data = λ same. omega (arith, same);
    setup_status = λ same. not_first (next_of d.notes b) kept.0 (omega (arith, same));
    data_status = λ same. omega (arith, same);
  }

  with_some : AllKept (with_data r.setup) → AllApart (with_data r.setup) → AreApart (places_by d.notes b true)
  with_some kept apart = record {
    setup_data = λ same. not_first (next_of d.notes b) kept.0 (omega (arith, same));
    setup_status = λ same. not_first (next_of d.notes (next_of d.notes b)) kept.1.0 (omega (arith, same));
    data_status = λ same. apart.0.0 (omega (arith, same));
  }

  pub apart_awaits : s ∷ ss ≡ request_stages r.setup → AreApart (request_places d.notes b r)
  apart_awaits are =
      let apart : AllApart (s ∷ ss) = subst AreAllApart k.taken k.apart in
      ⊎_elim {C = AreApart (request_places d.notes b r)}
      (λ (none : (has_data r ≡ false) × (request_stages r.setup ≡ no_data)).
      subst (λ (z : Bool). AreApart (places_by d.notes b z)) (sym none.0) (without (subst AllKept (are ∙ none.1) k.qtds_kept)))
      (λ (some : (has_data r ≡ true) × (request_stages r.setup ≡ with_data r.setup)).
      subst (λ (z : Bool). AreApart (places_by d.notes b z)) (sym some.0) (with_some (subst AllKept (are ∙ some.1) k.qtds_kept) (subst AllApart (are ∙ some.1) apart)))
      (request_case r)
