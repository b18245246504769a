-- Each descriptor in memory of which something is active is one of a transfer; and an event of the controller sets none active.
use Rattle.std.proofs.Common.{◌≡◌, ℕ, ◌+◌, ◌*◌, ◌/◌, ◌<◌, Bool, true, false, not, if◌then◌else◌, List, slice_get, Option, Some, None, option_map, refl, ap, sym, subst, ◌∙◌, arith}
use Rattle.std.proofs.lemmas.Bool.{true≢false}
use Rattle.std.proofs.lemmas.Option.{same_Some}
use Rattle.law_driver_ring.proofs.Common.{not_reached}
use Rattle.word_mem.specs.Runs.{Run}
use Rattle.mem_runs.specs.declared.slots.Slot.{Slot}
use Rattle.mem_runs.specs.declared.slots.Slot.TheVariants.{Empty, Keeps, Lends}
use Rattle.mem_runs.specs.Book.{holding, slot_of}
use Rattle.mem_runs.proofs.Standing.{keeps_at, keeps_all}
use Rattle.itd_sitd.specs.declared.itd.Itd.{Itd}
use Rattle.itd_sitd.specs.declared.sitd.Sitd.{Sitd}
use Rattle.itd_sitd.specs.Itd.{slot_of as slot_in}
use Rattle.drv_periodic_table.specs.declared.content.DescriptorNote.{DescriptorNote}
use Rattle.drv_periodic_table.specs.Periodic.{note_at}
use Rattle.drv_periodic_table.specs.Descriptors.{is_served, itd_is_active}
use Rattle.drv_table.specs.declared.content.Transfer.{Transfer}
use Rattle.drv_table.specs.DriverContent.{DriverContent}
use Rattle.claims_driver.specs.Owners.{is_descriptor, TransferRuns, runs_of_transfer, transfer_in, Views, views_of, HasBlocks}
use Rattle.claims_driver.specs.Leaving.{HasOwners}
use Rattle.law_driver_ring.specs.Inventory.{Sort, OfIsochronous, OfSplitIsochronous, sort_of, IsLent, IsDriverOwned, the_list, the_head, a_queue, a_dummy, a_piece, a_buffer}
use Rattle.claims_base.specs.Controller.{opening_base}
use Rattle.law_structures.specs.lent_structures.Structures.{Structure, Structures, Isochronous, SplitIsochronous, Holds, HoldsIsochronous, HoldsSplitIsochronous}
use Rattle.law_ring.specs.walk_writes.Writes.{WritesLent}
use Rattle.law_controller.proofs.lemmas.lent_writes.Controlling.{each_event_of_the_controller_writes_lent_words}
use Rattle.law_controller.proofs.lemmas.aligned_copies.Controlling.{aligned_placed}
use Rattle.bus_wire.specs.Bus.{Fixed}
use Rattle.bus_world.specs.World.{World, controller_parts, controller_row, controller_next}
use Rattle.law_world.specs.steps.Streaming.{begins_by, transacts_by, wired}
use Rattle.law_world.proofs.lemmas.steps.StreamTurning.{world_has_row}
use Rattle.law_world.proofs.lemmas.steps.lemmas.world_bytes.Hearing.{a_bus_of_bytes_is_heard_as_bytes}
use Rattle.law_controller.specs.frame_control.Both.{RunsBoth}
use Rattle.law_descriptors.specs.Described.{IsDescriptorLent, HasDescriptor}
use Rattle.law_descriptors.specs.Both.{owns, both, descs_now, parts_now}
use Rattle.law_descriptors.specs.Meeting.{met}
use Rattle.law_descriptors.proofs.Standing.{both_on, both_off, stands_some, on_owner}
use Rattle.law_world.specs.memory.framed_memory.Now.{recent_then, FramedNowAfter}
use Rattle.law_world.proofs.lemmas.memory.lemmas.framed_memory.NowControlled.{controller_keeps_now}
use Rattle.law_world.specs.memory.Mixed.{Standing, IsMixedAt}
use Rattle.law_microframes.specs.visits.OneDescriptor.{IsActiveSome, MetIsActive, MetSplitIsActive, ControllerKeepsOneActive}
use Rattle.law_microframes.proofs.lemmas.visits.OneDescriptorWords.{same, itd_quiet, quiet_itd, sitd_held, served_split, served_itd, served_off, split_off, stays_served}
use Rattle.law_microframes.proofs.lemmas.visits.OneDescriptorControlled.{itd_off, sitd_off}

-- ---- a transfer as its runs tell it

pub record IsThere (ts : List Transfer) (t : ℕ) (z : TransferRuns) : Type 0 where
  pub transfer : Transfer
  pub here : slice_get ts t ≡ Some transfer
  pub is : runs_of_transfer transfer ≡ z

pub there : (ts : List Transfer) (t : ℕ) (z : TransferRuns) → transfer_in ts t ≡ Some z → IsThere ts t z
there ts t z is = by (slice_get ts t) refl is
  where
    by : (o : Option Transfer) → slice_get ts t ≡ o → option_map runs_of_transfer o ≡ Some z → IsThere ts t z
    by None here e = absurd (cc)
    by (Some y) here e = record { transfer = y; here = here; is = same_Some (runs_of_transfer y) z e }

-- ---- what is told of queues is no descriptor

no_itd : (v : Views) (n a : ℕ) (k : Sort) → IsDriverOwned v n a k → k ≡ OfIsochronous → ⊥
no_itd v _ _ _ the_list e = cc
no_itd v _ _ _ the_head e = cc
no_itd v _ _ _ (a_queue i x q l) e = cc
no_itd v _ _ _ (a_dummy i x q l) e = cc
no_itd v _ _ _ (a_piece t c y x i p l) e = cc
no_itd v _ _ _ (a_buffer t c b bs y x i p f l) e = cc

no_sitd : (v : Views) (n a : ℕ) (k : Sort) → IsDriverOwned v n a k → k ≡ OfSplitIsochronous → ⊥
no_sitd v _ _ _ the_list e = cc
no_sitd v _ _ _ the_head e = cc
no_sitd v _ _ _ (a_queue i x q l) e = cc
no_sitd v _ _ _ (a_dummy i x q l) e = cc
no_sitd v _ _ _ (a_piece t c y x i p l) e = cc
no_sitd v _ _ _ (a_buffer t c b bs y x i p f l) e = cc

-- ---- each that is active is one of a transfer

module _ (s : Standing) (w : World) (n : ℕ) (k : IsMixedAt s w) where
  abbrev d : DriverContent
  d = w.driver

  of_owner : owns s.descs n ≡ true → ((b : ℕ) → n ≡ 32 * b → HasDescriptor (note_at w.driver.periodic.notes b).split (s.descs n) n → is_served (note_at w.driver.periodic.notes b) w.memory b ≡ false)
      → IsActiveSome w.driver w.memory n
  of_owner on active =
      let a = on_owner (views_of d) s.descs n k.now.framed.described on in
      let y = there d.transfers a.number a.transfer a.lent.here in
      let first : y.transfer.first ≡ a.transfer.first = ap (λ (r : TransferRuns). r.first) y.is in
      let at : n ≡ 32 * y.transfer.first = a.name ∙ sym (ap (λ (b : ℕ). 32 * b) first) in
      let has : HasDescriptor (note_at d.periodic.notes a.transfer.first).split (s.descs (32 * a.transfer.first)) (32 * a.transfer.first) = k.now.framed.described.descriptors a.number a.transfer a.lent in
      let its : HasDescriptor (note_at d.periodic.notes y.transfer.first).split (s.descs n) n =
      subst (λ (b : ℕ). HasDescriptor (note_at d.periodic.notes b).split (s.descs n) n) (sym first)
      (subst (λ (i : ℕ). HasDescriptor (note_at d.periodic.notes a.transfer.first).split (s.descs i) i) (sym a.name) has) in
      record {
        endpoint = y.transfer.endpoint;
        frame = (note_at d.periodic.notes y.transfer.first).frame;
        is = record {
          number = a.number;
          transfer = y.transfer;
          here = y.here;
          descriptor = ap (λ (r : TransferRuns). r.isochronous) y.is ∙ a.lent.isochronous;
          held = ap (λ (r : TransferRuns). r.released) y.is ∙ a.lent.held;
          lent = subst (λ (b : ℕ). IsLent (slot_of d.book.slots b)) (sym first) a.lent.lent;
          endpoint = refl;
          frame = refl;
          at = at;
          active = active y.transfer.first at its;
        };
      }

  holds : (x : Structure) → both s.descs s.parts n n ≡ Some x → Holds w.memory n x
  holds x here = k.now.framed.runs.ring.tells.each n n x here

  not_sitd : (v : Itd) (b : Bool) → both s.descs s.parts n n ≡ Some (Isochronous v) → owns s.descs n ≡ true → HasDescriptor b (s.descs n) n → b ≡ false
  not_sitd v true here on has = absurd (let e : Some (Isochronous v) ≡ Some (SplitIsochronous has.sitd) = sym here ∙ ap (λ (part : Structures). part n) (both_on s.descs s.parts n on) ∙ has.here in cc)
  not_sitd v false here on has = refl

  not_itd : (v : Sitd) (b : Bool) → both s.descs s.parts n n ≡ Some (SplitIsochronous v) → owns s.descs n ≡ true → HasDescriptor b (s.descs n) n → b ≡ true
  not_itd v true here on has = refl
  not_itd v false here on has = absurd (let e : Some (SplitIsochronous v) ≡ Some (Isochronous has.itd) = sym here ∙ ap (λ (part : Structures). part n) (both_on s.descs s.parts n on) ∙ has.here in cc)

  itd_active : (u b : ℕ) (v : Itd) → both s.descs s.parts n n ≡ Some (Isochronous v) → owns s.descs n ≡ true → u < 8 → (slot_in u v).active ≡ true → n ≡ 32 * b
      → HasDescriptor (note_at w.driver.periodic.notes b).split (s.descs n) n → is_served (note_at w.driver.periodic.notes b) w.memory b ≡ false
  itd_active u b v here on few active at has = served_itd note w.memory b (not_sitd v note.split here on has) ∙ ap not (by (itd_is_active w.memory b) refl)
    where
      note : DescriptorNote
      note = note_at d.periodic.notes b

      by : (c : Bool) → itd_is_active w.memory b ≡ c → itd_is_active w.memory b ≡ true
      by true is = is
      by false is = absurd (true≢false (sym active ∙ itd_quiet w.memory b v (subst (λ (i : ℕ). HoldsIsochronous w.memory i v) at (holds (Isochronous v) here)) is u few))

  sitd_active : (b : ℕ) (v : Sitd) → both s.descs s.parts n n ≡ Some (SplitIsochronous v) → owns s.descs n ≡ true → v.active ≡ true → n ≡ 32 * b
      → HasDescriptor (note_at w.driver.periodic.notes b).split (s.descs n) n → is_served (note_at w.driver.periodic.notes b) w.memory b ≡ false
  sitd_active b v here on active at has =
      served_split (note_at d.periodic.notes b) w.memory b (not_itd v (note_at d.periodic.notes b).split here on has)
      ∙ ap not (sitd_held w.memory b v (subst (λ (i : ℕ). HoldsSplitIsochronous w.memory i v) at (holds (SplitIsochronous v) here)) ∙ active)

  itd_owned : (v : Itd) (b : Bool) → both s.descs s.parts n n ≡ Some (Isochronous v) → owns s.descs n ≡ b → owns s.descs n ≡ true
  itd_owned v true here is = is
  itd_owned v false here is =
      absurd (no_itd (views_of d) n n OfIsochronous
      (k.now.framed.driven.only n n OfIsochronous (ap (option_map sort_of) (ap (λ (part : Structures). part n) (sym (both_off s.descs s.parts n is)) ∙ here))) refl)

  sitd_owned : (v : Sitd) (b : Bool) → both s.descs s.parts n n ≡ Some (SplitIsochronous v) → owns s.descs n ≡ b → owns s.descs n ≡ true
  sitd_owned v true here is = is
  sitd_owned v false here is =
      absurd (no_sitd (views_of d) n n OfSplitIsochronous
      (k.now.framed.driven.only n n OfSplitIsochronous (ap (option_map sort_of) (ap (λ (part : Structures). part n) (sym (both_off s.descs s.parts n is)) ∙ here))) refl)

pub met_is_active : MetIsActive
met_is_active s w n u v k here few active =
    let on = itd_owned s w n k v (owns s.descs n) here refl in
    of_owner s w n k on (λ b at has. itd_active s w n k u b v here on few active at has)

pub met_split_is_active : MetSplitIsActive
met_split_is_active s w n v k here active =
    let on = sitd_owned s w n k v (owns s.descs n) here refl in
    of_owner s w n k on (λ b at has. sitd_active s w n k b v here on active at has)

-- ---- the controller

module _ (fixed : Fixed) (s : Standing) (w : World) (k : IsMixedAt s w) where
  abbrev new : World
  new = controller_next fixed w

  abbrev After : Type 0
  After =
      FramedNowAfter begins_by transacts_by opening_base s.member (recent_then (controller_row w) s.recent) s.descs s.parts s.hand s.frame (controller_parts w) w.driver (wired fixed w)
      (wired fixed (controller_next fixed w)) (controller_parts (controller_next fixed w))

  after_event : After
  after_event =
      controller_keeps_now begins_by transacts_by opening_base s.member s.recent s.descs s.parts s.hand s.frame (controller_parts w) w.driver (wired fixed w) (controller_parts new) (wired fixed new) k.now
      (a_bus_of_bytes_is_heard_as_bytes fixed w k.bytes (wired fixed new)) (world_has_row fixed w)

  writes : WritesLent w.memory (controller_next fixed w).memory
  writes =
      each_event_of_the_controller_writes_lent_words begins_by transacts_by (controller_parts w) (wired fixed w) (controller_parts new)
      (wired fixed new)
      (aligned_placed (controller_parts w) k.now.framed.aligned) (world_has_row fixed w)

  module _ (t : ℕ) (y : Transfer) (here : slice_get w.driver.transfers t ≡ Some y) (sort : is_descriptor y.sort ≡ true) (held : y.released ≡ false) (was : is_served (note_at w.driver.periodic.notes y.first) w.memory y.first ≡ true) where
    abbrev note : DescriptorNote
    note = note_at w.driver.periodic.notes y.first

    -- its run is kept: the controller leaves it
    kept_on : (r : Run) → slot_of w.driver.book.slots y.first ≡ Keeps r → HasBlocks (if note.split then 1 else 2) (Keeps r) → is_served note (controller_next fixed w).memory y.first ≡ true
    kept_on r is blocks =
        let h = holding w.driver.book w.memory in
        let stands = k.now.framed.place.sound.stands in
        let first = (keeps_at h y.first r stands is).0 in
        let all = keeps_all h y.first r stands is in
        stays_served note note w.memory new.memory y.first refl
        (record {
          slots = λ split u few.
              let two : r.blocks ≡ 2 = blocks ∙ ap (λ (b : Bool). if b then 1 else 2) split in
              same (writes.words (32 * y.first + 4 + 4 * u) (not_reached w.memory (32 * y.first + 4 + 4 * u) (all ((32 * y.first + 4 + 4 * u) / 32) (omega (arith, first)) (omega (arith, first, two, few)))));
          state = λ split.
              let one : r.blocks ≡ 1 = blocks ∙ ap (λ (b : Bool). if b then 1 else 2) split in
              same (writes.words (32 * y.first + 12) (not_reached w.memory (32 * y.first + 12) (all ((32 * y.first + 12) / 32) (omega (arith, first)) (omega (arith, first, one)))));
        })
        was

    -- it is lent
    module _ (lent : IsDescriptorLent (views_of w.driver) t (runs_of_transfer y)) (a : After) where
      abbrev n : ℕ
      n = 32 * y.first

      has : HasDescriptor (note_at w.driver.periodic.notes y.first).split (s.descs (32 * y.first)) (32 * y.first)
      has = k.now.framed.described.descriptors t (runs_of_transfer y) lent

      on : owns s.descs (32 * y.first) ≡ true
      on = stands_some note.split (s.descs n) n has

      at_old : both s.descs s.parts (32 * y.first) ≡ s.descs (32 * y.first)
      at_old = both_on s.descs s.parts n on

      at_now : descs_now s.descs a.now (32 * y.first) ≡ a.now (32 * y.first)
      at_now = ap (λ (b : Bool). if b then a.now n else s.descs n) on

      has_then : HasDescriptor (note_at w.driver.periodic.notes y.first).split (a.now (32 * y.first)) (32 * y.first)
      has_then = subst (λ (part : Structures). HasDescriptor note.split part n) at_now (a.framed.framed.described.descriptors t (runs_of_transfer y) lent)

      at_then : both (descs_now s.descs a.now) (parts_now s.descs s.parts a.now) (32 * y.first) ≡ a.now (32 * y.first)
      at_then = both_on (descs_now s.descs a.now) (parts_now s.descs s.parts a.now) n (stands_some note.split (descs_now s.descs a.now n) n (subst (λ (part : Structures). HasDescriptor note.split part n) (sym at_now) has_then)) ∙ at_now

      runs : RunsBoth opening_base s.member (met w.driver s.recent) (both s.descs s.parts) s.hand s.frame (controller_parts w)
      runs = k.now.framed.runs

      by_split : (b : Bool) → note.split ≡ b → HasDescriptor b (s.descs (32 * y.first)) (32 * y.first) → HasDescriptor b (a.now (32 * y.first)) (32 * y.first) → is_served note (controller_next fixed w).memory y.first ≡ true
      by_split false is one two =
          let there_old : both s.descs s.parts n n ≡ Some (Isochronous one.itd) = ap (λ (part : Structures). part n) at_old ∙ one.here in
          let held_old = k.now.framed.runs.ring.tells.each n n (Isochronous one.itd) there_old in
          let held_new = a.framed.framed.runs.ring.tells.each n n (Isochronous two.itd) (ap (λ (part : Structures). part n) at_then ∙ two.here) in
          let quiet = itd_quiet w.memory y.first one.itd held_old (served_off note w.memory y.first is was) in
          served_itd note new.memory y.first is
          ∙ ap not
          (quiet_itd new.memory y.first two.itd held_new
          (λ u few. itd_off begins_by transacts_by opening_base s.member (met w.driver s.recent) (both s.descs s.parts) s.hand s.frame (controller_parts w) (wired fixed w) (wired fixed new) a.now a.later a.frame_later runs n one.itd two.itd u
          there_old a.effect two.here (quiet u few)))
      by_split true is one two =
          let there_old : both s.descs s.parts n n ≡ Some (SplitIsochronous one.sitd) = ap (λ (part : Structures). part n) at_old ∙ one.here in
          let held_old = k.now.framed.runs.ring.tells.each n n (SplitIsochronous one.sitd) there_old in
          let held_new = a.framed.framed.runs.ring.tells.each n n (SplitIsochronous two.sitd) (ap (λ (part : Structures). part n) at_then ∙ two.here) in
          let off : one.sitd.active ≡ false = sym (sitd_held w.memory y.first one.sitd held_old) ∙ split_off note w.memory y.first is was in
          served_split note new.memory y.first is
          ∙ ap not
          (sitd_held new.memory y.first two.sitd held_new
          ∙ sitd_off begins_by transacts_by opening_base s.member (met w.driver s.recent) (both s.descs s.parts) s.hand s.frame (controller_parts w) (wired fixed w) (wired fixed new) a.now a.later a.frame_later runs n one.sitd two.sitd
          there_old a.effect two.here off)

      lent_on : is_served (note_at w.driver.periodic.notes y.first) (controller_next fixed w).memory y.first ≡ true
      lent_on = by_split note.split refl has has_then

    by_slot : (x : Slot) → slot_of w.driver.book.slots y.first ≡ x → HasBlocks (if note.split then 1 else 2) x → is_served (note_at w.driver.periodic.notes y.first) (controller_next fixed w).memory y.first ≡ true
    by_slot Empty is blocks = absurd blocks
    by_slot (Keeps r) is blocks = kept_on r is blocks
    by_slot (Lends r) is blocks =
        lent_on (record { here = ap (option_map runs_of_transfer) here; held = held; isochronous = sort; lent = subst (λ (x : Slot). IsLent x) (sym is) tt }) after_event

    pub still : is_served (note_at w.driver.periodic.notes y.first) (controller_next fixed w).memory y.first ≡ true
    still =
        let owners : HasOwners w.driver = k.now.framed.place.sound.owners in
        let placed = (owners.owned.each.described t (runs_of_transfer y) (ap (option_map runs_of_transfer) here) sort held).descriptor in
        by_slot (slot_of w.driver.book.slots y.first) refl placed.run

pub controller_keeps_one_active : ControllerKeepsOneActive
controller_keeps_one_active fixed w mixed k =
    record { served = λ t y here sort reported held. still fixed mixed.standing w mixed.mixed t y here sort held (k.served t y here sort reported held); apart = k.apart }
