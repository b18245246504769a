-- The descriptors of a command are lent: they have their structures from then on, and nothing more is met or recent yet.
use Rattle.std.proofs.Common.{◌≡◌, ℕ, zero, suc, ◌+◌, ◌*◌, ◌/◌, Bool, true, false, cond, List, [], ◌∷◌, slice_get, Option, Some, None, inl, ⊎_elim, ap, refl, sym, subst, ◌∙◌, arith}
use Rattle.std.specs.Prelude.{is_none, option_map, slice_index}
use Rattle.std.specs.List.{list_any}
use Rattle.std.proofs.lemmas.Option.{slice_get-map}
use Rattle.law_world.proofs.Common2.{linking_led}
use Rattle.law_common.proofs.Booleans.{not_on, either_if}
use Rattle.law_frames.proofs.Common.{none_some}
use Rattle.law_world.proofs.Common.{met_alike}
use Rattle.usb_base.specs.declared.endpoints.EpDesc.{EpDesc}
use Rattle.mem_runs.specs.Book.{Book, holding, lend_taken}
use Rattle.drv_chains.specs.declared.members.Member.{Member}
use Rattle.drv_chains.specs.Chains.{Schedule}
use Rattle.drv_members.specs.Members.{IsKept}
use Rattle.drv_periodic_table.specs.declared.content.DescriptorNote.{DescriptorNote}
use Rattle.drv_periodic_table.specs.declared.content.Removal.{Removal}
use Rattle.drv_periodic_table.specs.Periodic.{PeriodicContent, note_at}
use Rattle.drv_periodic_table.specs.Linking.{with_first, begun_next}
use Rattle.drv_table.specs.declared.content.Command.{Command}
use Rattle.drv_table.specs.declared.content.Command.TheVariants as unfinished
use Rattle.drv_table.specs.declared.rows.DriverRow.{DriverRow}
use Rattle.drv_table.specs.declared.rows.DriverRow.TheVariants as rows
use Rattle.drv_table.specs.DriverContent.{DriverContent}
use Rattle.drv_table.specs.Parts.{Parts}
use Rattle.drv_table.specs.Commands.{events_of, store_order, no_command, or_finished}
use Rattle.drv_table.specs.Rows.{driver_row, after_driver_row}
use Rattle.drv_table.specs.FrameChoice.{linked_by}
use Rattle.claims_driver.specs.Owners.{views_of}
use Rattle.law_driver.specs.run_owners.Due.{IsDue, IsNextOf}
use Rattle.law_driver.proofs.lemmas.run_owners.Reasons.{each_event_is_due}
use Rattle.hc_core.specs.Controller.{Content}
use Rattle.law_structures.specs.lent_structures.Structures.{StructureSets}
use Rattle.law_ring.specs.Hand.{Hand}
use Rattle.claims_base.specs.Controller.{Base}
use Rattle.law_driver.specs.in_place.InPlace.{IsInPlace}
use Rattle.law_driver.proofs.lemmas.in_place.Laws.{events_keep_all_in_place}
use Rattle.law_frame_list.proofs.lemmas.list_queued.Lent.{goes_on}
use Rattle.law_queues.specs.shared_memory.Shared.{parts_of}
use Rattle.law_frames.specs.Met.{Kind}
use Rattle.law_frames.specs.FrameHand.{FrameHand}
use Rattle.law_controller.specs.frame_control.Both.{RunsBoth}
use Rattle.law_controller.proofs.lemmas.frame_stores.Beside.{more_are_met_beside_ring}
use Rattle.law_descriptors.specs.Described.{AreHeld}
use Rattle.law_descriptors.specs.Both.{both}
use Rattle.law_descriptors.specs.PartLaws.{IsDescribing}
use Rattle.law_descriptors.specs.Told.{IsToldBy, with_memory}
use Rattle.law_descriptors.specs.Lent.{descs_after, IsLending}
use Rattle.law_descriptors.specs.Meeting.{kind_of_descriptor, queue_begins, descriptor_begins, kind_by, kind_at, standing_in, standing, met}
use Rattle.claims_driver.specs.Unlinked.{led_in}
use Rattle.law_descriptors.specs.Removed.{IsRemovedSince, IsUnchainedNow}
use Rattle.law_descriptors.specs.Recent.{AreRecent}
use Rattle.law_descriptors.proofs.Telling.{each_is_told}
use Rattle.law_descriptors.proofs.Lending.{lend_told}
use Rattle.law_descriptors.proofs.Both.{lend_runs_both}
use Rattle.law_descriptors.proofs.lemmas.descriptor_links.Links.{descriptors_are_given_links}
use Rattle.law_world.specs.memory.framed_memory.Now.{IsFramedNow}
use Rattle.law_world.specs.memory.framed_memory.Isochronous.{AwaitsLend}
use Rattle.law_world.specs.memory.framed_memory.IsochronousLaws.{LendKeepsNow}
use Rattle.law_world.proofs.lemmas.memory.lemmas.framed_memory.Now.{RowLeaves, next_now, told_now}

-- ---- the row is that of a command with descriptors

record IsIsoLend (c : Command) (made : ℕ) : Type 0 where
  endpoint : ℕ
  first : ℕ
  count : ℕ
  is : c ≡ unfinished.Iso endpoint first count
  at : made ≡ 1

stores_only : (b : ℕ) (words : List ℕ) (o : Option ℕ) → option_map (λ i. rows.Store b (32 * b + 4 * i) (slice_index words i)) o ≡ Some rows.LendDescriptors → ⊥
stores_only b words None is = cc
stores_only b words (Some i) is = cc

lends_iso : (c : Command) (made : ℕ) → slice_get (events_of c) made ≡ Some rows.LendDescriptors → IsIsoLend c made
lends_iso (unfinished.Open queue) zero is = absurd (cc)
lends_iso (unfinished.Open queue) (suc zero) is = absurd (cc)
lends_iso (unfinished.Open queue) (suc (suc n)) is = absurd (cc)
lends_iso (unfinished.Publish b words) zero is = absurd (cc)
lends_iso (unfinished.Publish b words) (suc n) is = absurd (stores_only b words (slice_get store_order n) (sym (slice_get-map _ store_order n) ∙ is))
lends_iso (unfinished.Unlink e b link) zero is = absurd (cc)
lends_iso (unfinished.Unlink e b link) (suc n) is = absurd (cc)
lends_iso unfinished.Chain zero is = absurd (cc)
lends_iso unfinished.Chain (suc n) is = absurd (cc)
lends_iso (unfinished.Iso e t count) zero is = absurd (cc)
lends_iso (unfinished.Iso e t count) (suc zero) is = record { endpoint = e; first = t; count = count; is = refl; at = refl }
lends_iso (unfinished.Iso e t count) (suc (suc n)) is = absurd (cc)
lends_iso (unfinished.Unchain e) made is = absurd (cc)

-- ---- one that begins to be linked has no store yet

-- what is told of the members to which a word may lead
record StaysLed (q new : PeriodicContent) : Type 0 where
  led : led_in new.list ≡ led_in q.list
  notes : new.notes ≡ q.notes
  removals : new.removals ≡ q.removals

first_led : (q : PeriodicContent) (xs : List Member) → IsKept q.list.members.schedule → StaysLed q (with_first false q xs)
first_led q [] kept = record { led = refl; notes = refl; removals = refl }
first_led q (x ∷ xs) kept = record { led = linking_led q.list x kept; notes = refl; removals = refl }

next_led : (q : PeriodicContent) → IsKept q.list.members.schedule → StaysLed q (begun_next false q)
next_led q kept =
    either_if (StaysLed q) (is_none q.list.work) (with_first false q q.queued) q (λ e. first_led q q.queued kept) (λ e. record { led = refl; notes = refl; removals = refl })

still_stands : (q new : PeriodicContent) (n : ℕ) → StaysLed q new → standing_in new n ≡ standing_in q n
still_stands q new n k =
    ap (λ (s : Schedule). kind_at new s n) k.led
    ∙ ap (λ (notes : List DescriptorNote). kind_by (list_any (queue_begins n) (led_in q.list).queues) (list_any (descriptor_begins n) (led_in q.list).descriptors) (kind_of_descriptor (note_at notes (n / 32)).split)) k.notes

-- ---- the driver once they are lent

-- whom the walk meets, and what is recent
record StaysMet (recent : ℕ → Option Kind) (index : ℕ) (d new : DriverContent) : Type 0 where
  stands : (n : ℕ) → standing new n ≡ standing d n
  recent_are : AreRecent new index recent

iso_unchain : (e t count i : ℕ) → ◌≡◌ {A = Option Command} (Some (unfinished.Iso e t count)) (Some (unfinished.Unchain i)) → ⊥
iso_unchain e t count i is = cc

lent_then : (recent : ℕ → Option Kind) (index : ℕ) (d : DriverContent) (k : Book) (e t count : ℕ) → d.command ≡ Some (unfinished.Iso e t count) → IsKept d.periodic.list.members.schedule → AreRecent d index recent
    → StaysMet recent index d (or_finished (record d { book = k; made = 2; periodic = begun_next false d.periodic }) (unfinished.Iso e t count))
lent_then recent index d k e t count is kept are = by (is_none g.periodic.list.work)
  where
    g : DriverContent
    g = record d { book = k; made = 2; periodic = begun_next false d.periodic }

    led : StaysLed d.periodic (begun_next false d.periodic)
    led = next_led d.periodic kept

    since : (n : ℕ) (kind : Kind) → recent n ≡ Some kind → IsRemovedSince d.endpoints d.transfers (begun_next false d.periodic).removals index n
    since n kind on =
        ⊎_elim (λ (before : IsRemovedSince d.endpoints d.transfers d.periodic.removals index n). subst (λ (rs : List Removal). IsRemovedSince d.endpoints d.transfers rs index n) (sym led.removals) before)
        (λ (now : IsUnchainedNow d.endpoints d.transfers d.command n). absurd (iso_unchain e t count now.endpoint (sym is ∙ now.command))) (are n kind on)

    by : (b : Bool) → StaysMet recent index d (cond b (no_command g) g)
    by true = record { stands = λ n. still_stands d.periodic (begun_next false d.periodic) n led; recent_are = λ n kind on. inl (since n kind on) }
    by false = record { stands = λ n. still_stands d.periodic (begun_next false d.periodic) n led; recent_are = λ n kind on. inl (since n kind on) }

-- ---- the same are met

pub runs_alike : (base : Base) (member : ℕ → Bool) (one other : ℕ → Option Kind) (parts : StructureSets) (hand : Hand) (frame : FrameHand) (c : Content) → ((n : ℕ) → other n ≡ one n)
    → RunsBoth base member one parts hand frame c → RunsBoth base member other parts hand frame c
runs_alike base member one other parts hand frame c same runs =
    more_are_met_beside_ring base member one other parts hand frame c runs (λ n kind on. same n ∙ on) (λ n kind on not_on. absurd (none_some kind (sym not_on ∙ sym (same n) ∙ on)))

-- ---- the row

module _ (base : Base) (member : ℕ → Bool) (recent : ℕ → Option Kind) (descs parts : StructureSets) (hand : Hand) (frame : FrameHand) (c : Content) (d : DriverContent) (e t count : ℕ) (k : IsFramedNow base member recent descs parts hand frame c d) (a : AwaitsLend d c.memory e t) (command : d.command ≡ Some (unfinished.Iso e t count)) (made : d.made ≡ 1) (is : driver_row (parts_of c d) ≡ rows.LendDescriptors) where
  abbrev p : Parts
  p = parts_of c d

  abbrev x : EpDesc
  x = a.endpoint.desc

  abbrev now : Parts
  now = after_driver_row rows.LendDescriptors p

  abbrev lent : StructureSets
  lent = descs_after p t x descs

  pub lending : IsLending p t x
  lending = record {
    await = a.await;
    links = descriptors_are_given_links d k.framed.place.sound.listed k.framed.list.list.order;
    owners = k.framed.place.sound.owners;
    stands = k.framed.place.sound.stands;
    shape = k.framed.place.sound.shape;
  }

  told : IsToldBy (views_of d) descs parts
  told = told_now base member recent descs parts hand frame c d k

  describing : IsDescribing d descs parts
  describing = record { owners = k.framed.place.sound.owners; driven = told.driven; described = told.described }

  held : AreHeld c.memory descs
  held = (each_is_told d c.memory descs parts describing k.framed.runs.ring.tells).1

  placed : IsInPlace now.memory now.driver
  placed = subst (λ (r : DriverRow). IsInPlace (after_driver_row r p).memory (after_driver_row r p).driver) is (events_keep_all_in_place p k.framed.place)

  stays : StaysMet recent c.registers.frame_index d now.driver
  stays =
      let book : Book = (lend_taken (holding d.book (linked_by d c.memory d.command))).book in
      subst (StaysMet recent c.registers.frame_index d) (sym (goes_on d book e t count command made))
      (lent_then recent c.registers.frame_index d book e t count command k.framed.list.list.order.kept k.recent_are)

  leaves : RowLeaves base member recent lent parts hand frame c d rows.LendDescriptors
  leaves = record {
    runs = runs_alike base member (met d recent) (met now.driver recent) (both lent parts) hand frame (with_memory c now.memory) (met_alike d now.driver recent stays.stands)
        (lend_runs_both base member (met d recent) descs parts hand frame c d t x lending told placed.sound.owners placed.sound.stands k.framed.runs);
    told = lend_told p t x descs parts lending held told;
    recent_are = stays.recent_are;
    apart = λ n kind on. stays.stands n ∙ k.apart n kind on;
  }

pub lend_keeps_now : LendKeepsNow
lend_keeps_now base member recent descs parts hand frame c d k await is =
    let p : Parts = parts_of c d in
    let due : IsNextOf p rows.LendDescriptors = subst (IsDue p) is (each_event_is_due p) in
    let i : IsIsoLend due.command d.made = lends_iso due.command d.made due.next in
    let command : d.command ≡ Some (unfinished.Iso i.endpoint i.first i.count) = due.unfinished ∙ ap Some i.is in
    let made : d.made ≡ 1 = i.at in
    let a : AwaitsLend d c.memory i.endpoint i.first = await i.endpoint i.first i.count command (omega (arith, made)) in
    let lent : StructureSets = descs_after p i.first a.endpoint.desc descs in
    record {
      first = i.first;
      desc = a.endpoint.desc;
      framed = next_now base member recent recent descs parts lent parts hand hand frame frame c d k
          (subst (RowLeaves base member recent lent parts hand frame c d) (sym is)
          (leaves base member recent descs parts hand frame c d i.endpoint i.first i.count k a command made is));
    }
