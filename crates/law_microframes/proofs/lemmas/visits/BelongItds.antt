-- What is read of a descriptor has the fields that stand in memory, and each event of the controller leaves them.
use Rattle.std.proofs.Common.{◌≡◌, ℕ, ◌+◌, ◌*◌, ◌/◌, ◌<◌, Bool, true, false, slice_get, Some, None, Ok, option_map, ap, refl, sym, subst, ◌∙◌, arith, if◌then◌else◌}
use Rattle.std.specs.Prelude.{is_some}
use Rattle.std.specs.Result.{result_ok}
use Rattle.std.proofs.lemmas.Bool.{false≢true, false_from_ne_true}
use Rattle.std.proofs.lemmas.Option.{same_Some}
use Rattle.law_driver.proofs.Common.{waits_is}
use Rattle.law_common.proofs.Numbers.{same_blocks}
use Rattle.law_microframes.proofs.Common.{ok_is}
use Rattle.bus_wire.specs.Bus.{Fixed}
use Rattle.word_mem.specs.Memory.{Mem, is_lent, reaches}
use Rattle.word_mem.specs.Views.{words_at}
use Rattle.word_mem.specs.Runs.{Run}
use Rattle.word_mem.proofs.Words.{words_in_same}
use Rattle.mem_runs.specs.declared.slots.Slot.{Slot}
use Rattle.mem_runs.specs.declared.slots.Slot.TheVariants as slots
use Rattle.mem_runs.specs.Book.{holding, slot_of}
use Rattle.mem_runs.proofs.Standing.{keeps_at, keeps_all}
use Rattle.itd_sitd.specs.declared.itd.Itd.{Itd}
use Rattle.itd_sitd.specs.Itd.{slot_of as microframe_of, itd_at, itd_read, itd_words}
use Rattle.itd_sitd.proofs.ItdLaws.{itd_read-words, itd_read-is}
use Rattle.mem_descriptors.specs.Descriptors.{reaches_itd, itd_at_address}
use Rattle.drv_periodic_table.specs.Periodic.{note_at}
use Rattle.drv_table.specs.declared.content.Transfer.{Transfer}
use Rattle.drv_table.specs.DriverContent.{DriverContent}
use Rattle.claims_driver.specs.Owners.{HasBlocks, TransferRuns, is_descriptor, runs_of_transfer, views_of}
use Rattle.claims_driver.specs.Leaving.{HasOwners}
use Rattle.claims_base.specs.Controller.{opening_base}
use Rattle.law_driver_ring.specs.Inventory.{OfIsochronous, sort_of, IsLent, sorts_of, IsDriven}
use Rattle.law_structures.specs.lent_structures.Structures.{Isochronous, SplitIsochronous, Structures, StructureSets, HoldsIsochronous}
use Rattle.law_ring.specs.walk_writes.Writes.{WritesLent}
use Rattle.law_controller.proofs.lemmas.lent_writes.Controlling.{each_event_of_the_controller_writes_lent_words}
use Rattle.law_controller.proofs.lemmas.aligned_copies.Controlling.{aligned_placed}
use Rattle.law_frames.specs.Met.{AnItd}
use Rattle.law_descriptors.specs.Described.{IsDescriptorLent, HasDescriptor, HasItd, AreDescribed}
use Rattle.law_descriptors.specs.Both.{owns, both}
use Rattle.law_descriptors.specs.Meeting.{met}
use Rattle.law_descriptors.proofs.Standing.{both_on, both_off, IsAtOwner, on_owner}
use Rattle.law_descriptors.specs.frame_keeps.Kept.{IsItdAfter, HasItdAfter, KeepsParts}
use Rattle.law_descriptors.proofs.lemmas.kept_frames.Both.{events_keep_both}
use Rattle.law_world.specs.steps.Streaming.{begins_by, transacts_by, wired}
use Rattle.law_world.proofs.lemmas.steps.StreamTurning.{world_has_row}
use Rattle.bus_world.specs.World.{World, controller_parts, controller_next}
use Rattle.law_world.specs.memory.Mixed.{Standing, IsMixedAt}
use Rattle.law_microframes.specs.visits.DescriptorFields.{itd_in, ItdIsRead, HarvestedIsRead, NewItdsStand, ControllerKeepsItds}
use Rattle.law_microframes.proofs.lemmas.visits.BelongDescriptors.{not_driven}
use Rattle.law_microframes.proofs.lemmas.visits.BelongFields.{event_of}

-- ---- what is read

read_ok : (m : Mem) (a : ℕ) (v : Itd) (b : Bool) → (if b then result_ok (itd_read (words_at m a 16)) else None) ≡ Some v → itd_read (words_at m a 16) ≡ Ok v
read_ok m a v true is = ok_is (itd_read (words_at m a 16)) v is
read_ok m a v false is = absurd (cc)

-- the itd that is read at an address is what its words are
pub read_is : (m : Mem) (a : ℕ) (v : Itd) → itd_at_address m a ≡ Some v → v ≡ itd_at (words_at m a 16)
read_is m a v is = itd_read-is (words_at m a 16) v (read_ok m a v (reaches_itd m a) is)

-- one that is told is what its words are
pub told_is : (m : Mem) (a : ℕ) (v : Itd) → HoldsIsochronous m a v → itd_at (words_at m a 16) ≡ v
told_is m a v h = ap itd_at h.words ∙ sym (itd_read-is (itd_words v) v (itd_read-words v h.range))

-- ---- an iTD stands there, and no siTD

split_itd : (split : Bool) (part : Structures) (n : ℕ) (v : Itd) → part n ≡ Some (Isochronous v) → HasDescriptor split part n → split ≡ false
split_itd false part n v here h = refl
split_itd true part n v here h = absurd (let e : Isochronous v ≡ SplitIsochronous h.sitd = same_Some (Isochronous v) (SplitIsochronous h.sitd) (sym here ∙ h.here) in cc)

module _ (d : DriverContent) (has : HasOwners d) (descs parts : StructureSets) (driven : IsDriven (views_of d) (sorts_of parts)) (described : AreDescribed (views_of d) descs) where
  not_split : (n b : ℕ) (v : Itd) → both descs parts n n ≡ Some (Isochronous v) → n ≡ 32 * b → (note_at d.periodic.notes b).split ≡ false
  not_split n b v here at = by (owns descs n) refl
    where
      by : (c : Bool) → owns descs n ≡ c → (note_at d.periodic.notes b).split ≡ false
      by true on =
          let a : IsAtOwner (views_of d) n = on_owner (views_of d) descs n described on in
          let first : a.transfer.first ≡ b = same_blocks a.transfer.first b (sym a.name ∙ at) in
          let h = described.descriptors a.number a.transfer a.lent in
          ap (λ (i : ℕ). (note_at d.periodic.notes i).split) (sym first)
          ∙ split_itd ((views_of d).descriptor a.transfer.first).split (descs n) n v (ap (λ (part : Structures). part n) (sym (both_on descs parts n on)) ∙ here)
          (subst (λ (i : ℕ). HasDescriptor ((views_of d).descriptor a.transfer.first).split (descs i) i) (sym a.name) h)
      by false off =
          absurd (not_driven d has descs parts driven described n n OfIsochronous
          (driven.only n n OfIsochronous (ap (λ (part : Structures). option_map sort_of (part n)) (sym (both_off descs parts n off)) ∙ ap (option_map sort_of) here)) refl)

module _ (s : Standing) (w : World) (n : ℕ) (k : IsMixedAt s w) (is : met w.driver s.recent n ≡ Some AnItd) where
  noted : (b : ℕ) → n ≡ 32 * b → (note_at w.driver.periodic.notes b).split ≡ false
  noted b at =
      let f = k.now.framed in
      let m = f.runs.members n AnItd is in
      not_split w.driver f.place.sound.owners s.descs s.parts f.driven f.described n b m.itd m.here at

  read_in : (b : ℕ) (v : Itd) → n ≡ 32 * b → itd_at_address w.memory n ≡ Some v → v ≡ itd_in w.memory b
  read_in b v at reads = read_is w.memory n v reads ∙ ap (λ (a : ℕ). itd_at (words_at w.memory a 16)) at

pub itd_is_read : ItdIsRead
itd_is_read s w n v b k is have reads =
    let y = b.transfer in
    let x = b.belongs.endpoint in
    let of = waits_is b.belongs.number y b.waits in
    let h = have b.number y x b.belongs.placement b.there b.sort b.held (noted s w n k is y.first b.name) (ap (slice_get w.driver.endpoints) of.0 ∙ b.belongs.here) b.belongs.placed in
    let same : v ≡ itd_in w.memory y.first = read_in s w n k is y.first v b.name reads in
    record {
      of = record { speed = h.speed; kind = b.kind; max = ap (λ (z : Itd). z.max) same ∙ h.longest };
      multi = ap (λ (z : Itd). z.multi) same ∙ h.multi;
      own = λ u small on. h.own u small (ap (λ (z : Itd). (microframe_of u z).active) (sym same) ∙ on);
    }

pub harvested_is_read : HarvestedIsRead
harvested_is_read s w n v b k is served reads u small =
    ap (λ (z : Itd). (microframe_of u z).active) (read_in s w n k is b.transfer.first v b.name reads)
    ∙ served b.number b.transfer b.there b.sort b.reported b.held (noted s w n k is b.transfer.first b.name) u small

-- ---- before the first line there is none

pub new_itds_stand : NewItdsStand
new_itds_stand s = record { fields = λ t y x p there sort held split here placed. absurd (cc); served = λ t y there sort told held split u small. absurd (cc) }

-- ---- the controller

-- what may become of one: its microframes are as they were, or aren't active any more
pub record IsStill (v w : Itd) : Type 0 where
  pub longest : w.max ≡ v.max
  pub multi : w.multi ≡ v.multi
  pub active : (u : ℕ) → (microframe_of u w).active ≡ true → (microframe_of u v).active ≡ true

same_still : (v w : Itd) → w ≡ v → IsStill v w
same_still v w same = record {
  longest = ap (λ (z : Itd). z.max) same;
  multi = ap (λ (z : Itd). z.multi) same;
  active = λ u on. ap (λ (z : Itd). (microframe_of u z).active) (sym same) ∙ on;
}

after_still : (v w : Itd) → IsItdAfter v w → IsStill v w
after_still v w k = record {
  longest = ap (λ (z : Itd). z.max) k.same;
  multi = ap (λ (z : Itd). z.multi) k.same;
  active = λ u on. ap (λ z. z.active) (sym (k.active u on)) ∙ on;
}

module _ (fixed : Fixed) (w : World) (s : Standing) (k : IsMixedAt s w) where
  abbrev new : World
  new = controller_next fixed w

  abbrev d : DriverContent
  d = w.driver

  writes : WritesLent w.memory (controller_next fixed w).memory
  writes =
      each_event_of_the_controller_writes_lent_words begins_by transacts_by (controller_parts w) (wired fixed w) (controller_parts new)
      (wired fixed new)
      (aligned_placed (controller_parts w) k.now.framed.aligned) (world_has_row fixed w)

  -- ---- in a run that isn't lent

  kept_stays : (b : ℕ) (r : Run) → slot_of w.driver.book.slots b ≡ slots.Keeps r → r.blocks ≡ 2 → IsStill (itd_in w.memory b) (itd_in (controller_next fixed w).memory b)
  kept_stays b r is two =
      let h = holding d.book w.memory in
      let stands = k.now.framed.place.sound.stands in
      let at = keeps_at h b r stands is in
      let first = at.0 in
      let off : (i : ℕ) → i < 16 → reaches w.memory (32 * b + 4 * i) ≡ false = λ i small.
      ap is_lent (keeps_all h b r stands is ((32 * b + 4 * i) / 32) (omega (arith, first)) (omega (arith, first, two, small))) in
      same_still (itd_in w.memory b) (itd_in new.memory b) (ap itd_at (words_in_same w.memory.words new.memory.words (32 * b) 16 (λ i small. writes.words (32 * b + 4 * i) (off i small))))

  -- ---- in one that is

  lent_stays : (n : ℕ) (v : Itd) → both s.descs s.parts n n ≡ Some (Isochronous v) → IsStill (itd_at (words_at w.memory n 16)) (itd_at (words_at (controller_next fixed w).memory n 16))
  lent_stays n v here =
      let f = k.now.framed in
      let e = event_of fixed w s k in
      let keeps : KeepsParts (both s.descs s.parts) e.now =
      events_keep_both begins_by transacts_by opening_base s.member (met d s.recent) (both s.descs s.parts) s.hand s.frame (controller_parts w) (wired fixed w) (wired fixed new) e.now e.later e.frame_later f.runs
      e.effect in
      let a : HasItdAfter (e.now n) n v = (keeps n).itd n v here in
      let before : HoldsIsochronous w.memory n v = f.runs.ring.tells.each n n (Isochronous v) here in
      let told_then : HoldsIsochronous new.memory n a.itd = e.runs.ring.tells.each n n (Isochronous a.itd) a.here in
      subst (λ (z : Itd). IsStill z (itd_at (words_at new.memory n 16))) (sym (told_is w.memory n v before))
      (subst (λ (z : Itd). IsStill v z) (sym (told_is new.memory n a.itd told_then)) (after_still v a.itd a.after))

  itd_there : (n t : ℕ) (y : TransferRuns) → IsDescriptorLent (views_of w.driver) t y → ((views_of w.driver).descriptor y.first).split ≡ false → n ≡ 32 * y.first → HasItd (s.descs n) n
  itd_there n t y lent split at =
      subst (λ (i : ℕ). HasItd (s.descs i) i) (sym at)
      (subst (λ (c : Bool). HasDescriptor c (s.descs (32 * y.first)) (32 * y.first)) split (k.now.framed.described.descriptors t y lent))

  stays : (t : ℕ) (y : Transfer) → slice_get w.driver.transfers t ≡ Some y → is_descriptor y.sort ≡ true → y.released ≡ false → (note_at w.driver.periodic.notes y.first).split ≡ false
      → IsStill (itd_in w.memory y.first) (itd_in (controller_next fixed w).memory y.first)
  stays t y there sort held split = by (slot_of d.book.slots y.first) refl
    where
      run : HasBlocks 2 (slot_of w.driver.book.slots y.first)
      run = subst (λ (c : Bool). HasBlocks (if c then 1 else 2) (slot_of w.driver.book.slots y.first)) split
          (k.now.framed.place.sound.owners.owned.each.described t (runs_of_transfer y) (ap (option_map runs_of_transfer) there) sort held).descriptor.run

      by : (c : Slot) → slot_of w.driver.book.slots y.first ≡ c → IsStill (itd_in w.memory y.first) (itd_in (controller_next fixed w).memory y.first)
      by slots.Empty is = absurd (subst (HasBlocks 2) is run)
      by (slots.Keeps r) is = kept_stays y.first r is (subst (HasBlocks 2) is run)
      by (slots.Lends r) is =
          let lent : IsDescriptorLent (views_of d) t (runs_of_transfer y) = record { here = ap (option_map runs_of_transfer) there; held = held; isochronous = sort; lent = subst IsLent (sym is) tt } in
          let i : HasItd (s.descs (32 * y.first)) (32 * y.first) = itd_there (32 * y.first) t (runs_of_transfer y) lent split refl in
          let on : owns s.descs (32 * y.first) ≡ true = ap is_some i.here in
          lent_stays (32 * y.first) i.itd (ap (λ (part : Structures). part (32 * y.first)) (both_on s.descs s.parts (32 * y.first) on) ∙ i.here)

pub off_still : (v w : Itd) (u : ℕ) → IsStill v w → (microframe_of u v).active ≡ false → (microframe_of u w).active ≡ false
off_still v w u k off = false_from_ne_true (microframe_of u w).active (λ on. false≢true (sym off ∙ k.active u on))

pub controller_keeps_itds : ControllerKeepsItds
controller_keeps_itds fixed w k old =
    let s = k.standing in
    record {
      fields = λ t y x p there sort held split here placed.
          let h = old.fields t y x p there sort held split here placed in
          let still = stays fixed w s k.mixed t y there sort held split in
          record { speed = h.speed; longest = still.longest ∙ h.longest; multi = still.multi ∙ h.multi; own = λ u small on. h.own u small (still.active u on) };
      served = λ t y there sort told held split u small. off_still _ _ u (stays fixed w s k.mixed t y there sort held split) (old.served t y there sort told held split u small);
    }
