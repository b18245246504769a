-- Descriptors are lent in a world with endpoints of every kind: each inactive qTD of a queue was lent before, for what the command took are runs of its descriptors.
use Rattle.std.proofs.Common.{◌≡◌, ℕ, zero, suc, ◌+◌, ◌*◌, ◌==◌, Bool, true, false, ◌||◌, List, [], ◌∷◌, ◌++◌, take, drop, slice_get, Option, Some, None, ap, refl, sym, subst, ◌∙◌, ⊎_elim, inl, inr, arith}
use Rattle.std.specs.Prelude.{◌⊎◌, option_map, slice_index}
use Rattle.std.specs.List.{AllByRecursion}
use Rattle.std.proofs.lemmas.Bool.{or_right, false≢true, true≢false, eqb-true}
use Rattle.std.proofs.lemmas.Option.{slice_get-map}
use Rattle.law_common.proofs.Booleans.{either_one}
use Rattle.law_driver.proofs.Common.{of_queue, of_none}
use Rattle.word_mem.specs.Memory.{Mem}
use Rattle.mem_runs.specs.Book.{holding, lend_taken, slot_of}
use Rattle.mem_runs.specs.declared.slots.Slot.{Slot}
use Rattle.mem_runs.specs.declared.slots.Slot.TheVariants as slots
use Rattle.drv_periodic_table.specs.Periodic.{note_at}
use Rattle.drv_table.specs.declared.content.Endpoint.{Endpoint}
use Rattle.drv_table.specs.declared.content.Transfer.{Transfer}
use Rattle.drv_table.specs.declared.content.Command.{Command}
use Rattle.drv_table.specs.declared.content.Command.TheVariants as unfinished
use Rattle.drv_table.specs.declared.rows.DriverRow.{DriverRow}
use Rattle.drv_table.specs.declared.rows.DriverRow.TheVariants as rows
use Rattle.drv_table.specs.DriverContent.{DriverContent}
use Rattle.drv_table.specs.Kinds.{is_iso}
use Rattle.drv_table.specs.Parts.{Parts}
use Rattle.drv_table.specs.Commands.{store_order, events_of}
use Rattle.drv_table.specs.FrameChoice.{linked_by}
use Rattle.drv_table.specs.Rows.{driver_row, after_driver_row}
use Rattle.claims_driver.specs.Owners.{HasBlocks, Owner, Dummy, Described, Buffer, IsPlaced, IsDescribed, runs_of_endpoint, runs_of_transfer, descriptor_in}
use Rattle.law_driver.specs.run_owners.Due.{IsDue, IsNextOf}
use Rattle.claims_driver.specs.Leaving.{HasOwners}
use Rattle.law_driver.proofs.lemmas.run_owners.Reasons.{each_event_is_due}
use Rattle.claims_driver.specs.LentRuns.{begins_in, AreLent}
use Rattle.claims_base.specs.Controller.{opening_base}
use Rattle.law_driver_ring.specs.Inventory.{IsLent}
use Rattle.law_driver.proofs.lemmas.iso_frames.Harvested.{get_dropped}
use Rattle.law_driver.specs.queued_drivers.Queued.{queued, queued_endpoint}
use Rattle.law_driver.specs.queued_drivers.Rows.{IsOfFrames}
use Rattle.law_driver.proofs.lemmas.queued_drivers.RowLists.{IsMapped, mapped}
use Rattle.law_descriptors.specs.Written.{runs_of}
use Rattle.law_world.specs.memory.framed_memory.Isochronous.{IsFramesCommand, AwaitsLend}
use Rattle.law_world.proofs.lemmas.memory.lemmas.framed_memory.Lending.{lend_keeps_now}
use Rattle.bus_world.specs.World.{driver_parts, controller_parts, driver_next}
use Rattle.law_world.specs.memory.Laws.{RowKeepsMixed}
use Rattle.law_world.proofs.lemmas.memory.Stepping.{told_same}
use Rattle.law_world.proofs.lemmas.memory.Alike.{DummiesWereLent}
use Rattle.law_world.proofs.lemmas.memory.FrameNext.{EndsStay, its_owners, frames_mixed}
use Rattle.law_world.proofs.lemmas.memory.FrameEnds.{advance_ends}

-- ---- runs that begin in a block

begins_either : (b : ℕ) (xs ys : List ℕ) → begins_in b (xs ++ ys) ≡ true → (begins_in b xs ≡ true) ⊎ (begins_in b ys ≡ true)
begins_either b [] ys on = inr on
begins_either b (x ∷ xs) ys on =
    ⊎_elim {C = (begins_in b (x ∷ xs) ≡ true) ⊎ (begins_in b ys ≡ true)} (λ (first : (x == b) ≡ true). inl (ap (λ (t : Bool). t || begins_in b xs) first))
    (λ (later : begins_in b (xs ++ ys) ≡ true).
    ⊎_elim {C = (begins_in b (x ∷ xs) ≡ true) ⊎ (begins_in b ys ≡ true)} (λ (one : begins_in b xs ≡ true). inl (ap (λ (t : Bool). (x == b) || t) one ∙ or_right (x == b) true refl))
    (λ (other : begins_in b ys ≡ true). inr other) (begins_either b xs ys later)) (either_one (x == b) (begins_in b (xs ++ ys)) on)

-- ---- what a command with descriptors took

module _ (d : DriverContent) (m : Mem) (e t : ℕ) (has : HasOwners d) (lent : AreLent d) (awaits : AwaitsLend d m e t) where
  record HasRuns (y : Transfer) : Type 0 where
    number : ℕ
    described : IsDescribed (slot_of d.book.slots) has.owner (descriptor_in d.periodic.notes y.first) number y.first

  has_runs : (i : ℕ) (y : Transfer) → slice_get (drop t d.transfers) i ≡ Some y → HasRuns y
  has_runs i y at =
      let to = awaits.await.each i y at in
      record {
        number = t + i;
        described = has.owned.each.described (t + i) (runs_of_transfer y) (ap (option_map runs_of_transfer) (sym (get_dropped t d.transfers i) ∙ at)) to.sort to.held;
      }

  buffer_owned : (b u : ℕ) (cs : List ℕ) → AllByRecursion (λ c. IsPlaced (slot_of d.book.slots) has.owner c (Buffer u)) cs → begins_in b cs ≡ true → has.owner b ≡ Buffer u
  buffer_owned b u [] all on = absurd (false≢true on)
  buffer_owned b u (c ∷ cs) all on =
      ⊎_elim (λ (first : (c == b) ≡ true). ap has.owner (sym (eqb-true c b first)) ∙ all.0.owned) (λ (later : begins_in b cs ≡ true). buffer_owned b u cs all.1 later)
      (either_one (c == b) (begins_in b cs) on)

  no_buffer : (k u : ℕ) → ◌≡◌ {A = Owner} (Dummy k) (Buffer u) → ⊥
  no_buffer k u bad = cc

  no_descriptor : (k u : ℕ) (split : Bool) → ◌≡◌ {A = Owner} (Dummy k) (Described split u) → ⊥
  no_descriptor k u split bad = cc

  -- none of them is that of an inactive qTD
  none_dummy : (ys : List Transfer) → ((i : ℕ) (y : Transfer) → slice_get ys i ≡ Some y → HasRuns y) → (b k : ℕ) → has.owner b ≡ Dummy k → begins_in b (runs_of d.periodic.notes ys) ≡ true → ⊥
  none_dummy [] own b k its on = false≢true on
  none_dummy (y ∷ ys) own b k its on =
      let h : HasRuns y = own 0 y refl in
      let bs : List ℕ = take (note_at d.periodic.notes y.first).runs (note_at d.periodic.notes y.first).buffer in
      ⊎_elim
      (λ (first : (y.first == b) ≡ true). no_descriptor k h.number _ (sym its ∙ ap has.owner (sym (eqb-true y.first b first)) ∙ h.described.descriptor.owned))
      (λ (later : begins_in b (bs ++ runs_of d.periodic.notes ys) ≡ true).
      ⊎_elim (λ (buffer : begins_in b bs ≡ true). no_buffer k h.number (sym its ∙ buffer_owned b h.number bs h.described.buffers buffer))
      (λ (other : begins_in b (runs_of d.periodic.notes ys) ≡ true). none_dummy ys (λ i z at. own (suc i) z at) b k its other)
      (begins_either b bs (runs_of d.periodic.notes ys) later))
      (either_one (y.first == b) (begins_in b (bs ++ runs_of d.periodic.notes ys)) on)

  dummy_lent : (k : ℕ) (x : Endpoint) → slice_get d.endpoints k ≡ Some x → (is_iso x.desc.kind || x.gone) ≡ false → IsLent (slot_of d.book.slots x.dummy)
  dummy_lent k x here bare = by (slot_of d.book.slots x.dummy) refl placed.run
    where
      placed : IsPlaced (slot_of d.book.slots) has.owner x.dummy (Dummy k)
      placed = has.owned.each.dummy k (runs_of_endpoint x) (ap (option_map runs_of_endpoint) here) bare

      by : (s : Slot) → slot_of d.book.slots x.dummy ≡ s → HasBlocks 1 s → IsLent s
      by slots.Empty is run = run
      by (slots.Keeps r) is run =
          absurd (none_dummy (drop t d.transfers) has_runs x.dummy k placed.owned (ap (begins_in x.dummy) (sym awaits.await.taken) ∙ lent.kept x.dummy r is))
      by (slots.Lends r) is run = tt

  -- a queue that isn't given back is one of the driver
  real_queue : (y : Endpoint) → (queued_endpoint y).gone ≡ false → ((is_iso y.desc.kind || y.gone) ≡ false) × ((queued_endpoint y).dummy ≡ y.dummy)
  real_queue y kept = by (is_iso y.desc.kind) refl
    where
      by : (b : Bool) → is_iso y.desc.kind ≡ b → ((is_iso y.desc.kind || y.gone) ≡ false) × ((queued_endpoint y).dummy ≡ y.dummy)
      by true iso = absurd (true≢false (sym (ap (λ (z : Endpoint). z.gone) (of_none y iso)) ∙ kept))
      by false off =
          let is = of_queue y off in
          (ap (λ (b : Bool). b || y.gone) off ∙ sym (ap (λ (z : Endpoint). z.gone) is) ∙ kept, ap (λ (z : Endpoint). z.dummy) is)

  pub lent_dummies : (f : DriverContent) → DummiesWereLent (queued d) f
  lent_dummies f k x here kept was =
      let w : IsMapped queued_endpoint d.endpoints k x = mapped queued_endpoint d.endpoints k x here in
      let q = real_queue w.one (ap (λ (z : Endpoint). z.gone) w.is ∙ kept) in
      subst (λ (b : ℕ). IsLent (slot_of d.book.slots b)) (sym q.1 ∙ ap (λ (z : Endpoint). z.dummy) w.is) (dummy_lent k w.one w.here q.0)

-- ---- the row is that of a command with descriptors

pub record IsIsoLend (c : Command) (made : ℕ) : Type 0 where
  pub endpoint : ℕ
  pub first : ℕ
  pub count : ℕ
  pub is : c ≡ unfinished.Iso endpoint first count
  pub at : made ≡ 1

stores_only : (b : ℕ) (words : List ℕ) (o : Option ℕ) → option_map (λ i. rows.Store b (32 * b + 4 * i) (slice_index words i)) o ≡ Some rows.LendDescriptors → ⊥
stores_only b words None is = cc
stores_only b words (Some i) is = cc

pub lends_iso : (c : Command) (made : ℕ) → slice_get (events_of c) made ≡ Some rows.LendDescriptors → IsIsoLend c made
lends_iso (unfinished.Open queue) zero is = absurd (cc)
lends_iso (unfinished.Open queue) (suc zero) is = absurd (cc)
lends_iso (unfinished.Open queue) (suc (suc n)) is = absurd (cc)
lends_iso (unfinished.Publish b words) zero is = absurd (cc)
lends_iso (unfinished.Publish b words) (suc n) is = absurd (stores_only b words (slice_get store_order n) (sym (slice_get-map _ store_order n) ∙ is))
lends_iso (unfinished.Unlink e b link) zero is = absurd (cc)
lends_iso (unfinished.Unlink e b link) (suc n) is = absurd (cc)
lends_iso unfinished.Chain zero is = absurd (cc)
lends_iso unfinished.Chain (suc n) is = absurd (cc)
lends_iso (unfinished.Iso e t count) zero is = absurd (cc)
lends_iso (unfinished.Iso e t count) (suc zero) is = record { endpoint = e; first = t; count = count; is = refl; at = refl }
lends_iso (unfinished.Iso e t count) (suc (suc n)) is = absurd (cc)
lends_iso (unfinished.Unchain e) made is = absurd (cc)

pub descriptors_lent_mixed : RowKeepsMixed rows.LendDescriptors
descriptors_lent_mixed s w k is =
    let p : Parts = driver_parts w in
    let of : IsOfFrames p (driver_row p) = subst (IsOfFrames p) (sym is) tt in
    let due : IsNextOf p rows.LendDescriptors = subst (IsDue p) is (each_event_is_due p) in
    let iso = lends_iso due.command w.driver.made due.next in
    let command : w.driver.command ≡ Some (unfinished.Iso iso.endpoint iso.first iso.count) = due.unfinished ∙ ap (λ (c : Command). Some c) iso.is in
    let frames : IsFramesCommand w.driver.command = subst IsFramesCommand (sym command) tt in
    let at = iso.at in
    let awaits : AwaitsLend w.driver w.memory iso.endpoint iso.first = k.awaiting iso.endpoint iso.first iso.count command (omega (arith, at)) in
    let l = lend_keeps_now opening_base s.member s.recent s.descs s.parts s.hand s.frame (controller_parts w) w.driver k.now k.awaiting is
    in
    frames_mixed s w k _ _ _ s.hand s.frame l.framed of frames
    (subst (λ (r : DriverRow). EndsStay w.driver.endpoints (after_driver_row r p).driver.endpoints) (sym is)
    (advance_ends (record w.driver { book = (lend_taken (holding w.driver.book (linked_by w.driver w.memory w.driver.command))).book }) frames))
    (lent_dummies w.driver w.memory iso.endpoint iso.first (its_owners s w k) k.now.framed.place.lent awaits (queued (driver_next w).driver)) k.queues
    (told_same s _ _)
