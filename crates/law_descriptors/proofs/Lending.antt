-- Descriptors are lent beside the queues.
use Rattle.std.proofs.Common.{◌≡◌, ℕ, ◌+◌, Bool, List, ◌∷◌, drop, Some, None, if◌then◌else◌, ap, refl, sym, subst, ◌∙◌}
use Rattle.std.specs.List.{AllByRecursion}
use Rattle.law_common.proofs.Options.{number_is_none}
use Rattle.usb_base.specs.declared.endpoints.EpDesc.{EpDesc}
use Rattle.word_mem.specs.Memory.{Mem}
use Rattle.mem_runs.specs.declared.slots.Slot.{Slot}
use Rattle.mem_runs.specs.Book.{holding, lend_taken}
use Rattle.drv_table.specs.DriverContent.{DriverContent}
use Rattle.drv_table.specs.Parts.{Parts}
use Rattle.drv_table.specs.Commands.{advance}
use Rattle.claims_driver.specs.Owners.{Owner, Buffer, SlotHas, IsPlaced, EndpointRuns, TransferRuns, Views, views_of, IsPieceOf}
use Rattle.law_structures.specs.lent_structures.Structures.{StructureSets}
use Rattle.law_driver_ring.specs.Inventory.{sorts_of, IsLent, IsTransferIn, IsDriven}
use Rattle.law_driver_ring.proofs.Viewing.{SameViews, advance_views}
use Rattle.law_driver_ring.specs.Extents.{AreInRuns}
use Rattle.law_driver_ring.proofs.Blocks.{placed_buffer}
use Rattle.law_descriptors.specs.Described.{AreHeld}
use Rattle.law_descriptors.proofs.Owned.{descriptor_owner, is_described}
use Rattle.law_driver_ring.proofs.Lists.{IsOneOf}
use Rattle.law_descriptors.specs.Written.{runs_of}
use Rattle.law_descriptors.specs.Lent.{after_lend, IsLending}
use Rattle.law_descriptors.proofs.Lends.{held, mid_is}
use Rattle.law_descriptors.proofs.Sets.{IsRunOf, run_of}
use Rattle.law_descriptors.proofs.Told.{others, same_run, run_owner, lend_describes}
use Rattle.law_descriptors.specs.Told.{IsToldBy}
use Rattle.law_descriptors.specs.CommandLaws.{LendTold}
use Rattle.law_descriptors.proofs.CommandQueues.{AreLentAlike, QueuesStay, driven_stays, extents_stay}

-- ---- the same views

same_alike : (s t : Slot) → t ≡ s → AreLentAlike s t
same_alike s t same = record { on = λ lent. subst IsLent (sym same) lent; back = λ lent. subst IsLent same lent }

pub views_queues : (v w : Views) → SameViews v w → QueuesStay v w
views_queues v w same = record {
  runs = λ c j has. subst (λ (s : Slot). SlotHas s j) (sym (same.slot c)) has;
  endpoints = same.endpoint;
  notes = same.note;
  here = λ t y qtds there. same.transfer t ∙ there;
  was = λ t y qtds there. sym (same.transfer t) ∙ there;
  queue = λ e x is. same_alike (v.slot x.queue) (w.slot x.queue) (same.slot x.queue);
  dummy = λ e x is. same_alike (v.slot x.dummy) (w.slot x.dummy) (same.slot x.dummy);
  piece = λ t b y x is piece. same_alike (v.slot b) (w.slot b) (same.slot b);
  buffer = λ t b c cs y x is piece first. same_alike (v.slot c) (w.slot c) (same.slot c);
}

module _ (p : Parts) (t : ℕ) (x : EpDesc) (k : IsLending p t x) (descs parts : StructureSets) (stood : AreHeld p.memory descs) (told : IsToldBy (views_of p.driver) descs parts) where
  abbrev v : Views
  v = views_of p.driver

  abbrev owner : ℕ → Owner
  owner = k.owners.owner

  abbrev lent : DriverContent
  lent = record p.driver { book = (lend_taken (held p t x k)).book }

  abbrev u : Views
  u = views_of lent

  abbrev runs : List ℕ
  runs = runs_of p.driver.periodic.notes (drop t p.driver.transfers)

  -- a run of a queue isn't one that was taken
  not_taken : (c : ℕ) (o : Owner) → owner c ≡ o → descriptor_owner v.transfer o ≡ None → IsOneOf c runs → ⊥
  not_taken c o is none one =
      let r : IsRunOf p.driver.periodic.notes (drop t p.driver.transfers) c = run_of p.driver.periodic.notes (drop t p.driver.transfers) c one in
      number_is_none (t + r.index)
      (sym (run_owner p t x k descs told.described stood r.index c r.transfer r.here r.one) ∙ ap (descriptor_owner v.transfer) is ∙ none)

  alike : (c : ℕ) (o : Owner) → owner c ≡ o → descriptor_owner v.transfer o ≡ None → AreLentAlike (v.slot c) (u.slot c)
  alike c o is none = same_alike (v.slot c) (u.slot c) (others p t x k descs told.described stood c (not_taken c o is none))

  buffer_alike : (i b c : ℕ) (cs : List ℕ) (y : TransferRuns) (e : EndpointRuns) → IsTransferIn v i y e → IsPieceOf v.note y.first y.qtds b → (v.note b).buffer ≡ c ∷ cs → AreLentAlike (v.slot c) (u.slot c)
  buffer_alike i b c cs y e is piece first =
      let all = (placed_buffer v.slot owner v.note i y.first y.qtds b (k.owners.owned.each.pieces i y is.here is.held) piece).1 in
      let placed : AllByRecursion (λ j. IsPlaced v.slot owner j (Buffer i)) (c ∷ cs) = subst (AllByRecursion (λ j. IsPlaced v.slot owner j (Buffer i))) first all in
      alike c (Buffer i) placed.0.owned (ap (λ (b : Bool). if b then Some i else None) (ap is_described is.here ∙ is.qtds))

  lent_queues : QueuesStay v u
  lent_queues = record {
    runs = λ c j has. same_run p t x k descs told.described stood c j (v.slot c) refl has;
    endpoints = λ e. refl;
    notes = λ b. refl;
    here = λ i y qtds there. there;
    was = λ i y qtds there. there;
    queue = λ e z is. alike z.queue _ (k.owners.owned.each.queue e z is.here is.queued).owned refl;
    dummy = λ e z is. alike z.dummy _ (k.owners.owned.each.dummy e z is.here is.queued).owned refl;
    piece = λ i b y e is piece. alike b _ (placed_buffer v.slot owner v.note i y.first y.qtds b (k.owners.owned.each.pieces i y is.here is.held) piece).0.owned refl;
    buffer = buffer_alike;
  }

  -- what an inventory is over
  pub record AreQueuesTold (w : Views) : Type 0 where
    pub driven : IsDriven w (sorts_of parts)
    pub extents : AreInRuns w parts

  pub queues_lent : AreQueuesTold (views_of (advance lent))
  queues_lent =
      let one : IsDriven u (sorts_of parts) = driven_stays v u lent_queues (sorts_of parts) told.driven in
      let same = views_queues u (views_of (advance lent)) (advance_views lent) in
      let two : IsDriven (views_of (advance lent)) (sorts_of parts) = driven_stays u (views_of (advance lent)) same (sorts_of parts) one in
      record { driven = two; extents = extents_stay u (views_of (advance lent)) same parts two (extents_stay v u lent_queues parts one told.extents) }

  pub queues_after : AreQueuesTold (views_of (after_lend p).driver)
  queues_after = subst (λ (m : Mem). AreQueuesTold (views_of (advance (record p.driver { book = (lend_taken (holding p.driver.book m)).book })))) (sym (mid_is p t x k)) queues_lent

pub lend_told : LendTold
lend_told p t x descs parts k stood told =
    let queues = queues_after p t x k descs parts stood told in
    record { driven = queues.driven; extents = queues.extents; described = (lend_describes p t x descs k told.described stood).0 }
