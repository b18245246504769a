-- Where the first block of a structure that stands aside is Lent, it stays so until it is given back, and the structure is told;
-- so neither the controller nor a command writes its link.
use Rattle.std.proofs.Common.{◌≡◌, ◌≢◌, ℕ, ◌*◌, ◌%◌, Bool, true, false, cond, List, slice_get, Option, Some, None, Result, Ok, Err}
use Rattle.std.proofs.Common.{ap, refl, sym, subst, ◌∙◌, arith, ⊎_elim}
use Rattle.std.specs.Prelude.{◌||◌, option_map}
use Rattle.std.proofs.lemmas.Bool.{cases_eq}
use Rattle.usb_base.specs.declared.commands.Cmd.{Cmd}
use Rattle.usb_base.specs.declared.reports.OfferError.{OfferError}
use Rattle.word_mem.specs.declared.blocks.BlockState.TheVariants.{Lent}
use Rattle.word_mem.specs.Memory.{Mem, word_at, with_word, state_at}
use Rattle.mem_runs.specs.declared.slots.Slot.{Slot}
use Rattle.mem_runs.specs.declared.slots.Slot.TheVariants.{Empty, Keeps, Lends}
use Rattle.mem_runs.specs.Book.{Holding, holding, Stands, slot_of, can_store, store}
use Rattle.drv_periodic.specs.declared.work.Store.{Store}
use Rattle.drv_periodic.specs.Periodic.{next_store}
use Rattle.drv_table.specs.declared.content.Endpoint.{Endpoint}
use Rattle.drv_table.specs.declared.content.Transfer.{Transfer}
use Rattle.drv_table.specs.declared.rows.DriverRow.{DriverRow}
use Rattle.drv_table.specs.declared.rows.DriverRow.TheVariants as rows
use Rattle.drv_table.specs.DriverContent.{DriverContent}
use Rattle.drv_table.specs.Accepting.{Offered}
use Rattle.drv_table.specs.Kinds.{is_iso}
use Rattle.drv_table.specs.Offers.{offered}
use Rattle.drv_table.specs.Parts.{Parts}
use Rattle.drv_table.specs.Removals.{after_unlink, descriptor_leaving, stored_link}
use Rattle.drv_table.specs.Rows.{driver_row, after_driver_row}
use Rattle.bus_wire.specs.Bus.{Fixed}
use Rattle.bus_world.specs.World.{World, driver_parts, controller_parts, driver_next, controller_next, commanded_by, name_in}
use Rattle.claims_base.specs.Controller.{opening_base}
use Rattle.claims_driver.specs.Owners.{HasRun, SlotHas, is_descriptor, runs_of_endpoint, runs_of_transfer, views_of}
use Rattle.claims_driver.specs.Ring.{link_in}
use Rattle.claims_world.specs.Owners.{IsControllers}
use Rattle.law_structures.specs.lent_structures.Changes.{Leaves}
use Rattle.law_structures.specs.lent_structures.Structures.{Structure, QueueHead, Element, Buffer, Table, Isochronous, SplitIsochronous}
use Rattle.law_structures.specs.lent_structures.Structures.{Tells}
use Rattle.law_ring.specs.walk_writes.Writes.{WritesLent}
use Rattle.law_controller.proofs.lemmas.aligned_copies.Controlling.{aligned_placed}
use Rattle.law_controller.proofs.lemmas.lent_writes.Controlling.{each_event_of_the_controller_writes_lent_words}
use Rattle.law_driver.proofs.lemmas.lent_runs.Laws.{all_are_lent_between_commands}
use Rattle.law_driver.proofs.lemmas.ring_members.Placed.{has_first}
use Rattle.law_driver.proofs.lemmas.run_owners.Apart.{runs_apart}
use Rattle.law_driver.proofs.lemmas.run_owners.Commands.{each_command_has_its_reason}
use Rattle.law_driver.proofs.lemmas.run_owners.Reasons.{each_event_is_due}
use Rattle.law_driver.specs.run_owners.Due.{IsDue}
use Rattle.law_driver_ring.proofs.Lent.{lend_taken_leaves}
use Rattle.law_driver_ring.proofs.PartSlots.{HasLent, found_lent, lent_has, slot_lent}
use Rattle.law_driver_ring.specs.Inventory.{IsLent, sort_of, OfQueueHead}
use Rattle.law_footprints.proofs.Fields.{command_stays}
use Rattle.law_footprints.specs.Footprint.{footprint}
use Rattle.law_descriptors.proofs.Telling.{queue_found, descriptor_found}
use Rattle.law_descriptors.specs.Both.{both}
use Rattle.law_descriptors.specs.Described.{HasDescriptor}
use Rattle.law_descriptors.specs.Meeting.{met}
use Rattle.law_descriptors.specs.PartLaws.{IsDescribing}
use Rattle.law_descriptors.specs.Told.{IsToldBy}
use Rattle.law_world.specs.steps.Streaming.{begins_by, transacts_by, wired}
use Rattle.law_world.proofs.lemmas.steps.StreamTurning.{world_has_row}
use Rattle.law_world.specs.memory.Aside.{HasLinkAt, DriverLeavesLent, CommandLeavesAside, ControllerLeavesAside}
use Rattle.law_world.specs.memory.Mixed.{Standing, IsMixedAt, IsMixedWorld}
use Rattle.law_world.specs.memory.Owners.{EndsActive, IsToldOwn}
use Rattle.law_world.proofs.lemmas.memory.Driving.{driver_keeps_mixed}
use Rattle.law_world.proofs.lemmas.memory.LeavesLent.{leaves_lent}
use Rattle.law_world.proofs.lemmas.memory.LinkWords.{descriptors_leave, reached}
use Rattle.law_world.proofs.lemmas.memory.OwnMoments.{controller_writes}
use Rattle.law_world.proofs.lemmas.memory.OwnStores.{told_elsewhere, link_store}
use Rattle.law_world.proofs.lemmas.memory.OwnTold.{runs_tell_owners}
use Rattle.law_world.proofs.lemmas.memory.lemmas.framed_memory.Now.{told_now}

-- ---- slots

lends_by : (slots : List Slot) (c : ℕ) (s : Slot) → slot_of slots c ≡ s → IsLent s → SlotHas s c → HasLent slots c
lends_by slots c Empty is lent has = absurd lent
lends_by slots c (Keeps r) is lent has = absurd lent
lends_by slots c (Lends r) is lent has = record { at = c; run = r; is = is; has = has }

lends_run : (h : Holding) (c : ℕ) → Stands h → HasRun (slot_of h.book.slots c) → state_at h.memory c ≡ Some Lent
    → IsLent (slot_of h.book.slots c)
lends_run h c stands run lent =
    let l : HasLent h.book.slots c = found_lent h c stands lent in
    ⊎_elim
    (λ (same : l.at ≡ c). subst IsLent (sym (ap (slot_of h.book.slots) (sym same) ∙ l.is)) tt)
    (λ (differs : l.at ≢ c). absurd (runs_apart h c l.at c stands differs (has_first h c stands run) (lent_has h.book.slots c l)))
    (cases_eq l.at c)

-- ---- a store changes no state

stored_states : (m : Mem) (b : Bool) (st v : ℕ) → (cond b (with_word m st v) m).states ≡ m.states
stored_states m true st v = refl
stored_states m false st v = refl

module _ (s : Standing) (w : World) (k : IsMixedAt s w) where
  abbrev p : Parts
  p = driver_parts w

  abbrev d : DriverContent
  d = w.driver

  abbrev m : Mem
  m = w.memory

  -- ---- told

  told : IsToldBy (views_of w.driver) s.descs s.parts
  told = told_now opening_base s.member s.recent s.descs s.parts s.hand s.frame (controller_parts w) w.driver k.now

  describing : IsDescribing w.driver s.descs s.parts
  describing = record { owners = k.now.framed.place.sound.owners; driven = told.driven; described = told.described }

  by_head : (n : ℕ) (o : Option Structure) → s.parts n n ≡ o → option_map sort_of o ≡ Some OfQueueHead → HasLinkAt (both s.descs s.parts) n
  by_head n (Some (QueueHead q)) here is =
      record { owner = n; structure = QueueHead q; here = queue_found d s.descs s.parts describing n n (QueueHead q) here; link = tt }
  by_head n (Some (Element t)) here is = absurd (cc is)
  by_head n (Some (Buffer pages j bs)) here is = absurd (cc is)
  by_head n (Some (Table ws)) here is = absurd (cc is)
  by_head n (Some (Isochronous v)) here is = absurd (cc is)
  by_head n (Some (SplitIsochronous v)) here is = absurd (cc is)
  by_head n None here is = absurd (cc is)

  pub queue_told : (e : ℕ) (x : Endpoint) → slice_get w.driver.endpoints e ≡ Some x → is_iso x.desc.kind || x.gone ≡ false
      → HasRun (slot_of w.driver.book.slots x.queue) → state_at w.memory x.queue ≡ Some Lent
      → HasLinkAt (both s.descs s.parts) (32 * x.queue)
  queue_told e x here queued run lent =
      by_head (32 * x.queue) (s.parts (32 * x.queue) (32 * x.queue)) refl
      (told.driven.queue e (runs_of_endpoint x) (record { here = ap (option_map runs_of_endpoint) here; queued = queued })
      (lends_run (holding d.book m) x.queue k.now.framed.place.sound.stands run lent))

  by_split : (n : ℕ) (split : Bool) → HasDescriptor split (s.descs n) n → HasLinkAt (both s.descs s.parts) n
  by_split n true h = record {
    owner = n;
    structure = SplitIsochronous h.sitd;
    here = descriptor_found d s.descs s.parts describing n n (SplitIsochronous h.sitd) h.here;
    link = tt;
  }
  by_split n false h = record {
    owner = n;
    structure = Isochronous h.itd;
    here = descriptor_found d s.descs s.parts describing n n (Isochronous h.itd) h.here;
    link = tt;
  }

  pub descriptor_told : (t : ℕ) (y : Transfer) → slice_get w.driver.transfers t ≡ Some y → is_descriptor y.sort ≡ true → y.released ≡ false
      → HasRun (slot_of w.driver.book.slots y.first) → state_at w.memory y.first ≡ Some Lent
      → HasLinkAt (both s.descs s.parts) (32 * y.first)
  descriptor_told t y here sort held run lent =
      by_split (32 * y.first) ((views_of d).descriptor y.first).split
      (told.described.descriptors t (runs_of_transfer y)
      (record {
        here = ap (option_map runs_of_transfer) here;
        held = held;
        isochronous = sort;
        lent = lends_run (holding d.book m) y.first k.now.framed.place.sound.stands run lent;
      }))

  -- ---- an event of the driver

  module _ (c : ℕ) (lent : state_at w.memory c ≡ Some Lent) where
    abbrev StaysLent : DriverRow → Type 0
    StaysLent row = HasRun (slot_of (after_driver_row row (driver_parts w)).driver.book.slots c)
        → state_at (after_driver_row row (driver_parts w)).memory c ≡ Some Lent

    stored : (b st v : ℕ) → state_at (store w.driver.book w.memory b st v) c ≡ Some Lent
    stored b st v = ap (λ ss. slice_get ss c) (stored_states m (can_store (slot_of d.book.slots b) st) st v) ∙ lent

    stored_by : (o : Option Store) → state_at (stored_link w.driver.book w.memory o) c ≡ Some Lent
    stored_by None = lent
    stored_by (Some st) = stored st.block st.at st.value

    unlinked : (t : ℕ) (o : Option Transfer) → state_at (after_unlink (driver_parts w) t o).memory c ≡ Some Lent
    unlinked t None = lent
    unlinked t (Some y) = stored_by (next_store (descriptor_leaving d y))

    -- while no command is unfinished all runs are Lent
    idle_after : (row : DriverRow) → driver_row (driver_parts w) ≡ row → w.driver.command ≡ None
        → (footprint row w.driver.command).command ≡ false → StaysLent row
    idle_after row is idle misses =
        subst (λ (r : DriverRow). (after_driver_row r p).driver.command ≡ None → StaysLent r) is idle_next
        (command_stays row p d.command refl misses ∙ idle)
      where
        idle_next : (driver_next w).driver.command ≡ None → StaysLent (driver_row (driver_parts w))
        idle_next none run =
            let new : IsMixedWorld (driver_next w) = driver_keeps_mixed w (record { standing = s; mixed = k }) in
            let place = new.mixed.now.framed.place in
            let h : Holding = holding (driver_next w).driver.book (driver_next w).memory in
            let stands : Stands h = place.sound.stands in
            slot_lent h c stands
            (lends_by h.book.slots c (slot_of h.book.slots c) refl
            (all_are_lent_between_commands (driver_next w).driver c none place.lent run)
            (has_first h c stands run))

    by_row : (row : DriverRow) → driver_row (driver_parts w) ≡ row → IsDue (driver_parts w) row → StaysLent row
    by_row rows.Lend is due run =
        (lend_taken_leaves (holding d.book m) k.now.framed.place.sound.stands k.now.framed.place.sound.shape).lent c lent
    by_row (rows.Store b at v) is due run = stored b at v
    by_row (rows.Mend x) is due run = stored x.queue x.at x.value
    by_row rows.LendDescriptors is due run = (descriptors_leave s w k is).lent c lent
    by_row (rows.Unlink t) is due run = unlinked t (slice_get d.transfers t)
    by_row (rows.ReleaseTransfer t) is due run = idle_after (rows.ReleaseTransfer t) is due.idle refl run
    by_row (rows.ReleaseEndpoint e) is due run = idle_after (rows.ReleaseEndpoint e) is due.idle refl run
    by_row (rows.ReleaseRemoved what) is due run = idle_after (rows.ReleaseRemoved what) is due.idle refl run
    by_row row is due run = lent

    row_leaves : (row : DriverRow) → driver_row (driver_parts w) ≡ row → StaysLent (driver_row (driver_parts w))
    row_leaves row is = subst (λ (r : DriverRow). StaysLent r) (sym is) (by_row row is (subst (IsDue p) is (each_event_is_due p)))

  -- ---- a command

  module _ (c : ℕ) (lent : state_at w.memory c ≡ Some Lent) where
    answered : (line : ℕ) (cmd : Cmd) (r : Result Offered OfferError) → offered w.driver w.memory cmd ≡ r
        → (link_in (commanded_by w line (name_in cmd) r).memory c ≡ link_in w.memory c)
        × (state_at (commanded_by w line (name_in cmd) r).memory c ≡ Some Lent)
    answered line cmd (Ok o) is =
        let leaves : Leaves m o.memory = leaves_lent d m o (each_command_has_its_reason d m cmd o is) k.now.framed.place in
        (leaves.words (32 * c) (reached s w k m c lent), leaves.lent c lent)
    answered line cmd (Err why) is = (refl, lent)

  -- ---- an event of the controller

  tells : Tells w.memory (both s.descs s.parts)
  tells = k.now.framed.runs.ring.tells

  writes : (fixed : Fixed) → WritesLent w.memory (controller_next fixed w).memory
  writes fixed =
      each_event_of_the_controller_writes_lent_words begins_by transacts_by (controller_parts w) (wired fixed w)
      (controller_parts (controller_next fixed w))
      (wired fixed (controller_next fixed w)) (aligned_placed (controller_parts w) k.now.framed.aligned) (world_has_row fixed w)

  link_stays : (fixed : Fixed) → EndsActive w.control → (c : ℕ) → HasLinkAt (both s.descs s.parts) (32 * c)
      → link_in (controller_next fixed w).memory c ≡ link_in w.memory c
  link_stays fixed ends c l =
      ⊎_elim (λ (same : word_at (controller_next fixed w).memory (32 * c) ≡ word_at m (32 * c)). same)
      (λ (differs : word_at (controller_next fixed w).memory (32 * c) ≢ word_at m (32 * c)).
      let low : 32 * c % 4 ≡ 0 = omega arith in
      let own : IsControllers (controller_parts w) (32 * c)
      = controller_writes fixed w (record { standing = s; mixed = k }) ends (32 * c) low differs in
      let one : IsToldOwn (both s.descs s.parts) (32 * c)
      = runs_tell_owners opening_base s.member (met d s.recent) (both s.descs s.parts) s.hand s.frame (controller_parts w) k.now.framed.runs
      (32 * c) own in
      absurd (told_elsewhere m (both s.descs s.parts) (32 * c) tells
      (link_store m (both s.descs s.parts) l.owner (32 * c) l.structure tells l.here l.link) low one))
      (cases_eq (word_at (controller_next fixed w).memory (32 * c)) (word_at m (32 * c)))

pub driver_leaves_lent : DriverLeavesLent
driver_leaves_lent = λ s w k c lent. row_leaves s w k c lent (driver_row (driver_parts w)) refl

pub command_leaves_aside : CommandLeavesAside
command_leaves_aside = λ s w k line cmd c lent. answered s w k c lent line cmd (offered w.driver w.memory cmd) refl

pub controller_leaves_aside : ControllerLeavesAside
controller_leaves_aside = λ fixed s w k ends c l. (link_stays s w k fixed ends c l, (writes s w k fixed).states)
