-- Each event leaves what the words of descriptors tell of their endpoints' names.
use Rattle.std.proofs.Common.{◌≡◌, ◌≢◌, ℕ, ◌+◌, ◌*◌, ◌/◌, ◌<◌, ◌≤◌, Bool, true, false, slice_get, Some, option_map, ap, refl, sym, subst}
use Rattle.std.proofs.Common.{◌∙◌, ⊎_elim, arith, if◌then◌else◌}
use Rattle.std.specs.Prelude.{is_some}
use Rattle.law_microframes.proofs.Common.{words_are}
use Rattle.usb_base.specs.declared.endpoints.EpDesc.{EpDesc}
use Rattle.bus_wire.specs.Bus.{Fixed}
use Rattle.word_mem.specs.Memory.{is_lent, word_at}
use Rattle.word_mem.specs.Views.{words_at}
use Rattle.word_mem.specs.Runs.{Run}
use Rattle.mem_runs.specs.declared.slots.Slot.{Slot}
use Rattle.mem_runs.specs.declared.slots.Slot.TheVariants as slots
use Rattle.mem_runs.specs.Book.{holding, slot_of}
use Rattle.mem_runs.proofs.Standing.{keeps_at, keeps_all}
use Rattle.itd_sitd.specs.declared.itd.Itd.{Itd}
use Rattle.itd_sitd.specs.declared.sitd.Sitd.{Sitd}
use Rattle.claims_base.specs.Controller.{opening_base}
use Rattle.law_driver.specs.in_place.InPlace.{IsInPlace}
use Rattle.claims_driver.specs.Owners.{HasBlocks, SlotHas, is_descriptor, runs_of_transfer, views_of}
use Rattle.drv_periodic_table.specs.Periodic.{note_at}
use Rattle.drv_table.specs.declared.content.Endpoint.{Endpoint}
use Rattle.drv_table.specs.declared.content.Mend.{Mend}
use Rattle.drv_table.specs.declared.content.Transfer.{Transfer}
use Rattle.drv_table.specs.declared.rows.DriverRow.TheVariants as rows
use Rattle.drv_table.specs.DriverContent.{DriverContent}
use Rattle.drv_table.specs.Parts.{Parts}
use Rattle.drv_table.specs.Rows.{driver_row}
use Rattle.law_driver.proofs.lemmas.in_place.Laws.{events_keep_all_in_place}
use Rattle.law_driver.proofs.lemmas.ring_members.Aside.{list_apart}
use Rattle.law_driver.proofs.lemmas.ring_members.Placed.{has_first}
use Rattle.law_driver.proofs.lemmas.run_owners.Reasons.{each_event_is_due}
use Rattle.law_driver.proofs.lemmas.run_owners.Runs.{placed_run}
use Rattle.law_structures.specs.lent_structures.Structures.{Isochronous, SplitIsochronous, Structures, HoldsIsochronous}
use Rattle.law_structures.specs.lent_structures.Structures.{HoldsSplitIsochronous}
use Rattle.law_ring.specs.walk_writes.Writes.{WritesLent}
use Rattle.law_controller.proofs.lemmas.lent_writes.Controlling.{each_event_of_the_controller_writes_lent_words}
use Rattle.law_controller.proofs.lemmas.aligned_copies.Controlling.{aligned_placed}
use Rattle.law_driver_ring.specs.Inventory.{IsLent}
use Rattle.law_descriptors.specs.Described.{IsDescriptorLent, HasDescriptor, HasItd, HasSitd}
use Rattle.law_descriptors.specs.Both.{owns, both}
use Rattle.law_descriptors.specs.Meeting.{met}
use Rattle.law_descriptors.proofs.Standing.{both_on}
use Rattle.law_descriptors.specs.frame_keeps.Kept.{HasItdAfter, HasSitdAfter, KeepsParts}
use Rattle.law_descriptors.proofs.lemmas.kept_frames.Both.{events_keep_both}
use Rattle.law_world.specs.steps.Streaming.{begins_by, transacts_by, wired}
use Rattle.law_world.proofs.lemmas.steps.StreamTurning.{world_has_row}
use Rattle.law_world.specs.memory.Mixed.{Standing, IsMixedAt}
use Rattle.law_microframes.specs.visits.DescriptorFields.{IsMendedAt}
use Rattle.law_microframes.proofs.lemmas.visits.BelongFields.{event_of}
use Rattle.law_microframes.proofs.lemmas.visits.BelongItdRows.{not_mended}
use Rattle.law_microframes.proofs.lemmas.visits.BelongItds.{told_is}
use Rattle.law_microframes.proofs.lemmas.visits.BelongRows.{itd_words_stay, row_leaves}
use Rattle.law_microframes.proofs.lemmas.visits.BelongSeen.{Seen, IsSeenIn, seen_there, row_seen}
use Rattle.law_microframes.proofs.lemmas.visits.OneDescriptorDriven.{Follows, row_follows}
use Rattle.law_microframes.proofs.lemmas.visits.OneDescriptorRows.{From}
use Rattle.bus_world.specs.World.{World, driver_parts, driver_next, controller_parts, controller_next}
use Rattle.law_reports.specs.pipes.DescriptorNames.{TellsName, TellsBy, AreDescriptorsNamed, ControllerKeepsNames, DriverKeepsNames}
use Rattle.law_reports.specs.pipes.DescriptorNames.{NewDescriptorsNamed}
use Rattle.law_reports.proofs.lemmas.pipes.NameWords.{ItdTells, SitdTells, itd_still, sitd_still, sitd_words_tell, words_sitd_tell}

pub new_descriptors_named : NewDescriptorsNamed
new_descriptors_named s t y x there sort held here = absurd (cc)

-- ---- the controller

abbrev NamesItd : Itd → EpDesc → Type 0
NamesItd v x = TellsName v.addr v.ep v.dir_in x

abbrev NamesSitd : Sitd → EpDesc → Type 0
NamesSitd v x = TellsName v.addr v.ep v.dir_in x

module _ (fixed : Fixed) (w : World) (s : Standing) (k : IsMixedAt s w) (x : EpDesc) where
  abbrev new : World
  new = controller_next fixed w

  abbrev d : DriverContent
  d = w.driver

  writes : WritesLent w.memory (controller_next fixed w).memory
  writes =
      each_event_of_the_controller_writes_lent_words begins_by transacts_by (controller_parts w) (wired fixed w) (controller_parts new)
      (wired fixed new)
      (aligned_placed (controller_parts w) k.now.framed.aligned) (world_has_row fixed w)

  -- in a run that isn't lent
  kept_words : (b n : ℕ) (r : Run) → slot_of w.driver.book.slots b ≡ slots.Keeps r → r.blocks ≡ n → (i : ℕ) → i < 8 * n
      → word_at (controller_next fixed w).memory (32 * b + 4 * i) ≡ word_at w.memory (32 * b + 4 * i)
  kept_words b n r is blocks i small =
      let h = holding d.book w.memory in
      let stands = k.now.framed.place.sound.stands in
      let first = (keeps_at h b r stands is).0 in
      writes.words (32 * b + 4 * i)
      (ap is_lent (keeps_all h b r stands is ((32 * b + 4 * i) / 32) (omega (arith, first)) (omega (arith, first, blocks, small))))

  keeps : KeepsParts (both s.descs s.parts) (event_of fixed w s k).now
  keeps =
      let e = event_of fixed w s k in
      events_keep_both begins_by transacts_by opening_base s.member (met d s.recent) (both s.descs s.parts) s.hand s.frame
      (controller_parts w)
      (wired fixed w) (wired fixed new) e.now e.later e.frame_later k.now.framed.runs e.effect

  itd_lent : (n : ℕ) (v : Itd) → both s.descs s.parts n n ≡ Some (Isochronous v) → ItdTells (words_at w.memory n 16) x
      → ItdTells (words_at (controller_next fixed w).memory n 16) x
  itd_lent n v here h =
      let e = event_of fixed w s k in
      let a : HasItdAfter (e.now n) n v = (keeps n).itd n v here in
      let before : HoldsIsochronous w.memory n v = k.now.framed.runs.ring.tells.each n n (Isochronous v) here in
      let after : HoldsIsochronous new.memory n a.itd = e.runs.ring.tells.each n n (Isochronous a.itd) a.here in
      let was : NamesItd v x = subst (λ (u : Itd). NamesItd u x) (told_is w.memory n v before) h in
      let is : NamesItd a.itd x = record {
        address = ap (λ (u : Itd). u.addr) a.after.same ∙ was.address;
        number = ap (λ (u : Itd). u.ep) a.after.same ∙ was.number;
        way = ap (λ (u : Itd). u.dir_in) a.after.same ∙ was.way;
      } in
      subst (λ (u : Itd). NamesItd u x) (sym (told_is new.memory n a.itd after)) is

  sitd_lent : (n : ℕ) (v : Sitd) → both s.descs s.parts n n ≡ Some (SplitIsochronous v) → SitdTells (words_at w.memory n 7) x
      → SitdTells (words_at (controller_next fixed w).memory n 7) x
  sitd_lent n v here h =
      let e = event_of fixed w s k in
      let a : HasSitdAfter (e.now n) n v = (keeps n).sitd n v here in
      let before : HoldsSplitIsochronous w.memory n v = k.now.framed.runs.ring.tells.each n n (SplitIsochronous v) here in
      let after : HoldsSplitIsochronous new.memory n a.sitd = e.runs.ring.tells.each n n (SplitIsochronous a.sitd) a.here in
      let was : NamesSitd v x = subst (λ (u : Sitd). NamesSitd u x) (words_are w.memory n v before) h in
      let is : NamesSitd a.sitd x = record {
        address = ap (λ (u : Sitd). u.addr) a.after.same ∙ was.address;
        number = ap (λ (u : Sitd). u.ep) a.after.same ∙ was.number;
        way = ap (λ (u : Sitd). u.dir_in) a.after.same ∙ was.way;
      } in
      subst (λ (u : Sitd). NamesSitd u x) (sym (words_are new.memory n a.sitd after)) is

  module _ (t : ℕ) (y : Transfer) (there : slice_get w.driver.transfers t ≡ Some y) (sort : is_descriptor y.sort ≡ true)
      (held : y.released ≡ false) where
    run : HasBlocks (if (note_at w.driver.periodic.notes y.first).split then 1 else 2) (slot_of w.driver.book.slots y.first)
    run = (k.now.framed.place.sound.owners.owned.each.described t (runs_of_transfer y) (ap (option_map runs_of_transfer) there) sort
        held).descriptor.run

    lent_at : (r : Run) → slot_of w.driver.book.slots y.first ≡ slots.Lends r
        → IsDescriptorLent (views_of w.driver) t (runs_of_transfer y)
    lent_at r is = record {
      here = ap (option_map runs_of_transfer) there;
      held = held;
      isochronous = sort;
      lent = subst IsLent (sym is) tt;
    }

    by_split : (split : Bool) → (note_at w.driver.periodic.notes y.first).split ≡ split → (c : Slot)
        → slot_of w.driver.book.slots y.first ≡ c → TellsBy split w.memory y.first x
        → TellsBy split (controller_next fixed w).memory y.first x
    by_split split its slots.Empty is h = absurd (subst (HasBlocks _) is run)
    by_split false its (slots.Keeps r) is h =
        let blocks : r.blocks ≡ 2 =
        subst (HasBlocks 2) is (subst (λ (c : Bool). HasBlocks (if c then 1 else 2) (slot_of d.book.slots y.first)) its run) in
        itd_still w.memory new.memory y.first x (λ i some small. kept_words y.first 2 r is blocks i small) h
    by_split true its (slots.Keeps r) is h =
        let blocks : r.blocks ≡ 1 =
        subst (HasBlocks 1) is (subst (λ (c : Bool). HasBlocks (if c then 1 else 2) (slot_of d.book.slots y.first)) its run) in
        sitd_still w.memory new.memory y.first x (λ i some small. kept_words y.first 1 r is blocks i (omega (arith, small))) h
    by_split false its (slots.Lends r) is h =
        let i : HasItd (s.descs (32 * y.first)) (32 * y.first) =
        subst (λ (c : Bool). HasDescriptor c (s.descs (32 * y.first)) (32 * y.first)) its
        (k.now.framed.described.descriptors t (runs_of_transfer y) (lent_at r is)) in
        let on : owns s.descs (32 * y.first) ≡ true = ap is_some i.here in
        itd_lent (32 * y.first) i.itd
        (ap (λ (part : Structures). part (32 * y.first)) (both_on s.descs s.parts (32 * y.first) on) ∙ i.here) h
    by_split true its (slots.Lends r) is h =
        let i : HasSitd (s.descs (32 * y.first)) (32 * y.first) =
        subst (λ (c : Bool). HasDescriptor c (s.descs (32 * y.first)) (32 * y.first)) its
        (k.now.framed.described.descriptors t (runs_of_transfer y) (lent_at r is)) in
        let on : owns s.descs (32 * y.first) ≡ true = ap is_some i.here in
        sitd_words_tell new.memory y.first x
        (sitd_lent (32 * y.first) i.sitd
        (ap (λ (part : Structures). part (32 * y.first)) (both_on s.descs s.parts (32 * y.first) on) ∙ i.here)
        (words_sitd_tell w.memory y.first x h))

    pub controlled_tells : TellsBy (note_at w.driver.periodic.notes y.first).split w.memory y.first x
        → TellsBy (note_at w.driver.periodic.notes y.first).split (controller_next fixed w).memory y.first x
    controlled_tells h = by_split (note_at d.periodic.notes y.first).split refl (slot_of d.book.slots y.first) refl h

pub controller_keeps_names : ControllerKeepsNames
controller_keeps_names fixed s w k old t y x there sort held here =
    controlled_tells fixed w s k x.desc t y there sort held (old t y x there sort held here)

-- ---- the driver

module _ (s : Standing) (w : World) (k : IsMixedAt s w) (old : AreDescriptorsNamed w.driver w.memory) (t : ℕ) (z : Transfer) (v : Endpoint)
    (there : slice_get (driver_next w).driver.transfers t ≡ Some z) (sort : is_descriptor z.sort ≡ true) (held : z.released ≡ false)
    (here : slice_get (driver_next w).driver.endpoints z.endpoint ≡ Some v) where
  abbrev e : DriverContent
  e = w.driver

  abbrev p : Parts
  p = driver_parts w

  place : IsInPlace w.memory w.driver
  place = k.now.framed.place

  later : IsInPlace (driver_next w).memory (driver_next w).driver
  later = events_keep_all_in_place p place

  follows : Follows w.driver w.memory (driver_next w).driver
  follows = row_follows (driver_row p) p (each_event_is_due p) place.sound

  from : From w.driver w.memory t z
  from = follows.back t z there sort held

  of : IsSeenIn w.driver.endpoints z.endpoint v
  of = seen_there (driver_next w).driver.endpoints e.endpoints z.endpoint v (sym (row_seen z.endpoint (driver_row p) p)) here

  abbrev b : ℕ
  b = from.transfer.first

  its_split : (note_at (driver_next w).driver.periodic.notes z.first).split ≡ (note_at w.driver.periodic.notes from.transfer.first).split
  its_split = follows.split z.first ∙ ap (λ (i : ℕ). (note_at e.periodic.notes i).split) (sym from.first)

  own_block : (i : ℕ) → i < 7 → (32 * b + 4 * i) / 32 ≡ b
  own_block i small = omega (arith, small)

  inside : (i : ℕ) → i < 7 → SlotHas (slot_of w.driver.book.slots b) ((32 * b + 4 * i) / 32)
  inside i small =
      let run = placed_run b _ (place.sound.owners.owned.each.described t (runs_of_transfer from.transfer)
      (ap (option_map runs_of_transfer) from.here) from.descriptor from.held).descriptor in
      subst (SlotHas (slot_of e.book.slots b)) (sym (own_block i small)) (has_first (holding e.book w.memory) b place.sound.stands run)

  inside_then : (i : ℕ) → i < 7 → SlotHas (slot_of (driver_next w).driver.book.slots b) ((32 * b + 4 * i) / 32)
  inside_then i small =
      let run = placed_run z.first _
      (later.sound.owners.owned.each.described t (runs_of_transfer z) (ap (option_map runs_of_transfer) there) sort held).descriptor in
      subst (SlotHas (slot_of (driver_next w).driver.book.slots b)) (sym (own_block i small))
      (subst (λ (c : ℕ). SlotHas (slot_of (driver_next w).driver.book.slots c) c) (sym from.first)
      (has_first (holding (driver_next w).driver.book (driver_next w).memory) z.first later.sound.stands run))

  no_mend : (m : Mend) → driver_row (driver_parts w) ≡ rows.Mend m → m.queue ≢ b
  no_mend m is same =
      not_mended s w k t from.transfer from.here from.descriptor from.held (record { mend = m; row = is; queue = same })

  sitd_word : (i : ℕ) → 1 ≤ i → i < 7 → word_at (driver_next w).memory (32 * b + 4 * i) ≡ word_at w.memory (32 * b + 4 * i)
  sitd_word i some small =
      let sound = place.sound in
      let o = sound.owners.owned.each.described t (runs_of_transfer from.transfer) (ap (option_map runs_of_transfer) from.here)
      from.descriptor from.held in
      row_leaves p b t i ((views_of w.driver).descriptor b).split sound.stands sound.shape sound.owners sound.ring
      (list_apart w.driver w.memory sound.stands sound.shape sound.owners sound.listed) o.descriptor (inside i small) some (driver_row p)
      (each_event_is_due p) no_mend (inside_then i small)

  itd_word : (note_at w.driver.periodic.notes b).split ≡ false → (i : ℕ) → 1 ≤ i → i < 16
      → word_at (driver_next w).memory (32 * b + 4 * i) ≡ word_at w.memory (32 * b + 4 * i)
  itd_word split i some small =
      ⊎_elim (λ (same : word_at (driver_next w).memory (32 * b + 4 * i) ≡ word_at w.memory (32 * b + 4 * i)). same)
      (λ (at : IsMendedAt p b). absurd (not_mended s w k t from.transfer from.here from.descriptor from.held at))
      (itd_words_stay p t i from.transfer z place from.here from.descriptor from.held split there sort held (sym from.first)
      (its_split ∙ split) some small)

  its_words : (split : Bool) → (note_at w.driver.periodic.notes b).split ≡ split → TellsBy split w.memory b of.endpoint.desc
      → TellsBy split (driver_next w).memory b of.endpoint.desc
  its_words false is h = itd_still w.memory (driver_next w).memory b of.endpoint.desc (itd_word is) h
  its_words true is h = sitd_still w.memory (driver_next w).memory b of.endpoint.desc sitd_word h

  pub driven_tells : TellsBy (note_at (driver_next w).driver.periodic.notes z.first).split (driver_next w).memory z.first v.desc
  driven_tells =
      let was : TellsBy (note_at e.periodic.notes b).split w.memory b of.endpoint.desc =
      old t from.transfer of.endpoint from.here from.descriptor from.held (ap (slice_get e.endpoints) from.endpoint ∙ of.here) in
      let now : TellsBy (note_at e.periodic.notes b).split (driver_next w).memory b of.endpoint.desc =
      its_words (note_at e.periodic.notes b).split refl was in
      subst (λ (c : Bool). TellsBy c (driver_next w).memory z.first v.desc) (sym its_split)
      (subst (λ (c : EpDesc). TellsBy (note_at e.periodic.notes b).split (driver_next w).memory z.first c)
      (ap (λ (u : Seen). u.desc) of.same)
      (subst (λ (c : ℕ). TellsBy (note_at e.periodic.notes b).split (driver_next w).memory c of.endpoint.desc) from.first now))

pub driver_keeps_names : DriverKeepsNames
driver_keeps_names s w k old t z v there sort held here = driven_tells s w k old t z v there sort held here
