-- Each event of the controller leaves the fields of the driver's siTDs, in memory and in hand (EHCI 1.0, 3.4, 4.6 and 4.12.3).
use Rattle.std.proofs.Common.{◌≡◌, ◌≢◌, ℕ, ◌+◌, ◌*◌, ◌/◌, ◌<◌, ◌⊎◌, Bool, true, false, Option, Some, None, option_map, refl, ap, sym, subst, ◌∙◌, ⊎_elim, inl, inr, arith, if◌then◌else◌}
use Rattle.std.specs.Prelude.{is_some}
use Rattle.std.proofs.lemmas.Option.{same_Some}
use Rattle.word_mem.specs.Memory.{is_lent, reaches}
use Rattle.word_mem.specs.Runs.{Run}
use Rattle.mem_runs.specs.declared.slots.Slot.{Slot}
use Rattle.mem_runs.specs.declared.slots.Slot.TheVariants as slots
use Rattle.mem_runs.specs.Book.{holding, slot_of}
use Rattle.mem_runs.proofs.Standing.{keeps_at, keeps_all}
use Rattle.itd_sitd.specs.declared.sitd.Sitd.{Sitd}
use Rattle.hc_iso.specs.declared.held.HeldSitd.{HeldSitd}
use Rattle.drv_periodic_table.specs.Descriptors.{sitd_in}
use Rattle.periodic_walk.specs.declared.state.Hand.TheVariants as hands
use Rattle.hc_core.specs.declared.controller.MicroframePart.{MicroframePart}
use Rattle.hc_core.specs.declared.controller.MicroframePart.TheVariants as parts
use Rattle.hc_core.specs.Controller.{frame_place}
use Rattle.claims_driver.specs.Owners.{HasBlocks, runs_of_transfer, views_of}
use Rattle.claims_base.specs.Controller.{opening_base}
use Rattle.law_structures.specs.lent_structures.Structures.{Structure, SplitIsochronous, Structures, StructureSets}
use Rattle.law_driver_ring.specs.Inventory.{IsLent, sort_of}
use Rattle.law_ring.specs.walk_writes.Writes.{WritesLent}
use Rattle.law_controller.proofs.lemmas.lent_writes.Controlling.{each_event_of_the_controller_writes_lent_words}
use Rattle.law_controller.proofs.lemmas.aligned_copies.Controlling.{aligned_placed}
use Rattle.law_frames.specs.FrameHand.{SitdCopy, FrameHand, Nothing, OfQueue, OfSettled, OfItd, OfSitd, frame_held}
use Rattle.law_frames.specs.Frame.{IsFrameWalk, IsCopiedSitd, IsInFrame}
use Rattle.law_descriptors.specs.Described.{IsDescriptorLent, HasDescriptor, HasSitd}
use Rattle.law_descriptors.specs.Both.{owns, both}
use Rattle.law_descriptors.specs.Meeting.{met}
use Rattle.law_descriptors.specs.frame_keeps.Kept.{HasSitdAfter, KeepsParts}
use Rattle.law_descriptors.proofs.Standing.{both_on}
use Rattle.law_descriptors.proofs.lemmas.kept_frames.Both.{events_keep_both}
use Rattle.law_world.specs.steps.Streaming.{begins_by, transacts_by, wired}
use Rattle.law_world.proofs.lemmas.steps.StreamTurning.{world_has_row}
use Rattle.bus_wire.specs.Bus.{Fixed}
use Rattle.bus_world.specs.World.{World, controller_parts, controller_next}
use Rattle.law_world.specs.memory.Mixed.{Standing, IsMixedAt}
use Rattle.law_microframes.proofs.lemmas.visits.BelongFields.{event_of}
use Rattle.law_microframes.specs.time.SitdFields.{sitd_name, IsSitdAs, HaveSitdFields, SplitTransfer, SitdsStand, ControllerKeepsSitds}
use Rattle.law_microframes.proofs.lemmas.time.SitdWords.{words_stay, structure_as, as_structure}
use Rattle.law_microframes.proofs.lemmas.time.SitdEvents.{AreSitdsAs, event_as}

-- ---- what is in hand

pub record IsSitdFrame (f : FrameHand) (h : HeldSitd) : Type 0 where
  pub copy : SitdCopy
  pub is : f ≡ OfSitd copy
  pub held : copy.held ≡ h

pub sitd_in_hand : (f : FrameHand) (h : HeldSitd) → frame_held f ≡ Some (hands.Sitd h) → IsSitdFrame f h
sitd_in_hand Nothing h is = absurd (cc)
sitd_in_hand (OfQueue c made) h is = absurd (cc)
sitd_in_hand (OfSettled c s made) h is = absurd (cc)
sitd_in_hand (OfItd c) h is = absurd (cc)
sitd_in_hand (OfSitd c) h is = record {
  copy = c;
  is = refl;
  held = let e : hands.Sitd c.held ≡ hands.Sitd h =
      same_Some (hands.Sitd c.held) (hands.Sitd h) is in cc;
}

pub either_part : (p : MicroframePart) → (p ≡ parts.Periodic) ⊎ (p ≢ parts.Periodic)
either_part parts.Periodic = inl refl
either_part parts.Over = inr (λ same. cc)
either_part parts.Asynchronous = inr (λ same. cc)

-- what has the kind of a siTD is one
pub record IsSitd (o : Option Structure) : Type 0 where
  pub sitd : Sitd
  pub is : o ≡ Some (SplitIsochronous sitd)

pub was_sitd : (o : Option Structure) (v : Sitd) → option_map sort_of o ≡ option_map sort_of (Some (SplitIsochronous v)) → IsSitd o
was_sitd None v same = absurd (cc)
was_sitd (Some (SplitIsochronous x)) v same = record { sitd = x; is = refl }
was_sitd (Some _) v same = absurd (cc)

module _ (fixed : Fixed) (w : World) (s : Standing) (k : IsMixedAt s w) (old : SitdsStand w.driver w.memory w.control)
    (i : SplitTransfer w.driver) where
  abbrev new : World
  new = controller_next fixed w

  abbrev b : ℕ
  b = i.transfer.first

  abbrev n : ℕ
  n = 32 * i.transfer.first

  abbrev As : Sitd → Type 0
  As v = IsSitdAs (sitd_name i.endpoint.desc) i.placement.smask i.placement.cmask i.endpoint.desc.max v

  abbrev AreAs : StructureSets → FrameHand → Type 0
  AreAs ps f = AreSitdsAs (sitd_name i.endpoint.desc) i.placement.smask i.placement.cmask i.endpoint.desc.max
      (32 * i.transfer.first) ps f

  abbrev all : StructureSets
  all = both s.descs s.parts

  before : HaveSitdFields (sitd_in w.memory i.transfer.first) i.endpoint.desc i.placement
  before = old.fields i

  walking : w.control.part ≡ parts.Periodic
      → IsFrameWalk (met w.driver s.recent) (both s.descs s.parts) s.frame (frame_place (controller_parts w))
  walking on = k.now.framed.runs.walk on

  held_before : (j : SitdCopy) → s.frame ≡ OfSitd j → j.held.at ≡ 32 * i.transfer.first → As j.held.sitd
  held_before j is at =
      ⊎_elim {C = As j.held.sitd}
      (λ (on : w.control.part ≡ parts.Periodic). (old.hand i j.held on ((walking on).held ∙ ap frame_held is) at).has)
      (λ (off : w.control.part ≢ parts.Periodic).
      let none : s.frame ≡ Nothing = k.now.framed.runs.outside (inl off) in
      absurd (let e : Nothing ≡ OfSitd j = sym none ∙ is in cc)) (either_part w.control.part)

  are_before : AreAs (both s.descs s.parts) s.frame
  are_before = record {
    there = λ v here. structure_as _ _ _ _ w.memory b v (k.now.framed.runs.ring.tells.each n n (SplitIsochronous v) here) before.has;
    held = held_before;
  }

  keeps : KeepsParts (both s.descs s.parts) (event_of fixed w s k).now
  keeps =
      let e = event_of fixed w s k in
      events_keep_both begins_by transacts_by opening_base s.member (met w.driver s.recent) all s.hand s.frame (controller_parts w)
      (wired fixed w) (wired fixed new) e.now e.later e.frame_later
      k.now.framed.runs e.effect

  -- the event, where a siTD stood there
  after_one : (v : Sitd) → both s.descs s.parts (32 * i.transfer.first) (32 * i.transfer.first) ≡ Some (SplitIsochronous v)
      → AreAs (event_of fixed w s k).now (event_of fixed w s k).frame_later
  after_one v here =
      let e = event_of fixed w s k in
      event_as (sitd_name i.endpoint.desc) i.placement.smask i.placement.cmask i.endpoint.desc.max n begins_by transacts_by
      (met w.driver s.recent) opening_base s.member all e.now s.hand e.later s.frame e.frame_later (controller_parts w) (wired fixed w)
      (wired fixed new) v k.now.framed.runs e.effect here are_before

  one_before : (v : Sitd) → (event_of fixed w s k).now (32 * i.transfer.first) (32 * i.transfer.first) ≡ Some (SplitIsochronous v)
      → IsSitd (both s.descs s.parts (32 * i.transfer.first) (32 * i.transfer.first))
  one_before v here = was_sitd (all n n) v (sym ((keeps n).sorts n) ∙ ap (option_map sort_of) here)

  there_after : (v : Sitd) → (event_of fixed w s k).now (32 * i.transfer.first) (32 * i.transfer.first) ≡ Some (SplitIsochronous v) → As v
  there_after v here = let one = one_before v here in (after_one one.sitd one.is).there v here

  held_after : (h : HeldSitd) → (controller_next fixed w).control.part ≡ parts.Periodic
      → (controller_next fixed w).control.frame.hand ≡ Some (hands.Sitd h)
      → h.at ≡ 32 * i.transfer.first → As h.sitd
  held_after h on is at =
      let e = event_of fixed w s k in
      let walk = e.runs.walk on in
      let f : IsSitdFrame e.frame_later h = sitd_in_hand e.frame_later h (sym walk.held ∙ is) in
      let copied : IsCopiedSitd (met w.driver s.recent) e.now new.control.frame.reply f.copy
      = subst (IsInFrame (met w.driver s.recent) e.now new.control.frame.got new.control.frame.reply) f.is walk.in_hand in
      let name : f.copy.held.at ≡ n = ap (λ (x : HeldSitd). x.at) f.held ∙ at in
      let one = one_before f.copy.sitd (ap (λ (a : ℕ). e.now a a) (sym name) ∙ copied.here) in
      subst (λ (x : HeldSitd). As x.sitd) f.held ((after_one one.sitd one.is).held f.copy f.is name)

  -- ---- in memory

  writes : WritesLent w.memory (controller_next fixed w).memory
  writes =
      each_event_of_the_controller_writes_lent_words begins_by transacts_by (controller_parts w) (wired fixed w) (controller_parts new)
      (wired fixed new)
      (aligned_placed (controller_parts w) k.now.framed.aligned) (world_has_row fixed w)

  kept_stays : (r : Run) → slot_of w.driver.book.slots i.transfer.first ≡ slots.Keeps r → r.blocks ≡ 1
      → As (sitd_in (controller_next fixed w).memory i.transfer.first)
  kept_stays r is one =
      let h = holding w.driver.book w.memory in
      let stands = k.now.framed.place.sound.stands in
      let first = (keeps_at h b r stands is).0 in
      let off : (j : ℕ) → j < 7 → reaches w.memory (32 * b + 4 * j) ≡ false = λ j small.
      ap is_lent (keeps_all h b r stands is ((32 * b + 4 * j) / 32) (omega (arith, first)) (omega (arith, first, one, small))) in
      words_stay _ _ _ _ w.memory new.memory b (λ j later small. writes.words (32 * b + 4 * j) (off j small)) before.has

  lent_stays : IsLent (slot_of w.driver.book.slots i.transfer.first) → As (sitd_in (controller_next fixed w).memory i.transfer.first)
  lent_stays lent =
      let e = event_of fixed w s k in
      let l : IsDescriptorLent (views_of w.driver) i.number (runs_of_transfer i.transfer)
      = record { here = ap (option_map runs_of_transfer) i.there; held = i.held; isochronous = i.sort; lent = lent } in
      let has : HasSitd (s.descs n) n
      = subst (λ (c : Bool). HasDescriptor c (s.descs (32 * i.transfer.first)) (32 * i.transfer.first)) i.split
      (k.now.framed.described.descriptors i.number (runs_of_transfer i.transfer) l) in
      let on : owns s.descs n ≡ true = ap is_some has.here in
      let here : all n n ≡ Some (SplitIsochronous has.sitd) = ap (λ (part : Structures). part n) (both_on s.descs s.parts n on)
      ∙ has.here in
      let a : HasSitdAfter (e.now n) n has.sitd = (keeps n).sitd n has.sitd here in
      as_structure _ _ _ _ new.memory b a.sitd (e.runs.ring.tells.each n n (SplitIsochronous a.sitd) a.here) (there_after a.sitd a.here)

  in_memory : As (sitd_in (controller_next fixed w).memory i.transfer.first)
  in_memory = by (slot_of w.driver.book.slots b) refl
    where
      run : HasBlocks 1 (slot_of w.driver.book.slots i.transfer.first)
      run = subst (λ (c : Bool). HasBlocks (if c then 1 else 2) (slot_of w.driver.book.slots i.transfer.first)) i.split
          (k.now.framed.place.sound.owners.owned.each.described i.number (runs_of_transfer i.transfer)
          (ap (option_map runs_of_transfer) i.there) i.sort i.held).descriptor.run

      by : (c : Slot) → slot_of w.driver.book.slots i.transfer.first ≡ c → As (sitd_in (controller_next fixed w).memory i.transfer.first)
      by slots.Empty is = absurd (subst (HasBlocks 1) is run)
      by (slots.Keeps r) is = kept_stays r is (subst (HasBlocks 1) is run)
      by (slots.Lends r) is = lent_stays (subst IsLent (sym is) tt)

pub controller_keeps_sitds : ControllerKeepsSitds
controller_keeps_sitds fixed w mixed old =
    let s = mixed.standing in
    let k = mixed.mixed in
    record {
      fields = λ i. record { classic = (old.fields i).classic; has = in_memory fixed w s k old i };
      hand = λ i h on is at. record { classic = (old.fields i).classic; has = held_after fixed w s k old i h on is at };
    }
