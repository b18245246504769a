-- What an event of the controller leaves of the words of a driver's siTD: after it one of which no copy is in hand means the same entries as
-- before, or as the copy that was in hand (EHCI 1.0, 3.4, 4.6 and 4.12.3).
use Rattle.std.proofs.Common.{◌≡◌, ◌≢◌, ℕ, ◌+◌, ◌*◌, ◌/◌, ◌<◌, ◌⊎◌, Bool, true, false, List, slice_index, Some, option_map, refl, ap, sym, subst, ◌∙◌, ⊎_elim, inl, arith, if◌then◌else◌}
use Rattle.std.specs.Prelude.{◌==◌, is_some}
use Rattle.std.proofs.lemmas.Bool.{true≢false}
use Rattle.law_microframes.proofs.Common.{words_are}
use Rattle.hub_keys.specs.Keys.{key_of}
use Rattle.hub_keys.specs.declared.key.Key.{Key}
use Rattle.usb_base.specs.declared.packets.Dir.TheVariants.{Out}
use Rattle.usb_base.specs.declared.packets.EpKind.TheVariants.{Iso}
use Rattle.word_mem.specs.Memory.{Mem, is_lent, reaches, word_at}
use Rattle.word_mem.specs.Runs.{Run}
use Rattle.word_mem.specs.Views.{words_at}
use Rattle.word_mem.proofs.Words.{get_or-words_in}
use Rattle.mem_runs.specs.declared.slots.Slot.{Slot}
use Rattle.mem_runs.specs.declared.slots.Slot.TheVariants as slots
use Rattle.mem_runs.specs.Book.{holding, slot_of}
use Rattle.mem_runs.proofs.Standing.{keeps_at, keeps_all}
use Rattle.link_words.specs.Layout.{bits, is_set}
use Rattle.itd_sitd.specs.declared.sitd.Sitd.{Sitd}
use Rattle.itd_sitd.specs.Sitd.{sitd_at}
use Rattle.hc_iso.specs.declared.held.HeldSitd.{HeldSitd}
use Rattle.hc_iso.specs.declared.held.IsoTransaction.{IsoTransaction}
use Rattle.hc_iso.specs.Sitd.{moved_sitd, missed_sitd}
use Rattle.drv_periodic_table.specs.Descriptors.{sitd_in}
use Rattle.periodic_walk.specs.declared.state.Hand.TheVariants as hands
use Rattle.hc_core.specs.declared.controller.MicroframePart.TheVariants as parts
use Rattle.hc_core.specs.Controller.{frame_place}
use Rattle.tt_pipeline.specs.declared.entry.Entry.{Entry}
use Rattle.hub_class.specs.HubContent.{HubContent}
use Rattle.claims_driver.specs.Owners.{HasBlocks, runs_of_transfer, views_of}
use Rattle.claims_base.specs.Controller.{opening_base}
use Rattle.law_structures.specs.lent_structures.Structures.{SplitIsochronous, Structures, StructureSets, HoldsSplitIsochronous}
use Rattle.law_driver_ring.specs.Inventory.{IsLent, sort_of}
use Rattle.law_ring.specs.walk_writes.Writes.{WritesLent}
use Rattle.law_controller.proofs.lemmas.lent_writes.Controlling.{each_event_of_the_controller_writes_lent_words}
use Rattle.law_controller.proofs.lemmas.aligned_copies.Controlling.{aligned_placed}
use Rattle.law_frames.specs.FrameHand.{SitdCopy, Nothing, OfSitd, frame_held}
use Rattle.law_frames.specs.Frame.{IsFrameWalk, IsCopiedSitd, IsInFrame}
use Rattle.law_descriptors.specs.Described.{IsDescriptorLent, HasDescriptor, HasSitd}
use Rattle.law_descriptors.specs.Both.{owns, both}
use Rattle.law_descriptors.specs.Meeting.{met}
use Rattle.law_descriptors.specs.frame_keeps.Kept.{HasSitdAfter, KeepsParts}
use Rattle.law_descriptors.proofs.Standing.{both_on}
use Rattle.law_descriptors.proofs.lemmas.kept_frames.Both.{events_keep_both}
use Rattle.law_world.specs.steps.Streaming.{begins_by, transacts_by, wired}
use Rattle.law_world.proofs.lemmas.steps.StreamTurning.{world_has_row}
use Rattle.bus_wire.specs.Bus.{Fixed}
use Rattle.bus_world.specs.World.{World, controller_parts, controller_next}
use Rattle.law_world.specs.memory.Mixed.{Standing, IsMixedAt}
use Rattle.law_microframes.specs.time.SitdFields.{SplitTransfer}
use Rattle.law_microframes.specs.translators.Parts.{EachOf, key_asked}
use Rattle.law_microframes.specs.translators.Turns.{pipeline_for, EntriesAre, IsInHand}
use Rattle.law_microframes.proofs.lemmas.visits.BelongFields.{event_of}
use Rattle.law_microframes.proofs.lemmas.time.SitdWorlds.{either_part, IsSitd, was_sitd, IsSitdFrame, sitd_in_hand}
use Rattle.law_microframes.proofs.lemmas.translators.SitdStarts.{out_transaction}
use Rattle.law_microframes.proofs.lemmas.translators.TurnsWords.{IsOut, IsSteady, StandsSo, event_stands}

-- ---- what a siTD means to translators

pub record Outline : Type 0 where
  pub active : Bool
  pub dir_in : Bool
  pub c_prog : ℕ
  pub addr : ℕ
  pub ep : ℕ
  pub hub : ℕ
  pub port : ℕ

abbrev pub outline : Sitd → Outline
outline v = record {
  active = v.active;
  dir_in = v.dir_in;
  c_prog = v.c_prog;
  addr = v.addr;
  ep = v.ep;
  hub = v.hub;
  port = v.port;
}

-- it is as x, if it is active
abbrev pub IsKin : Sitd → Sitd → Type 0
IsKin x v = v.active ≡ true → outline v ≡ outline x

-- the key of an OUT
abbrev out_key : Outline → Key
out_key o = record { addr = o.addr; ep = o.ep; dir = Out; kind = Iso }

abbrev EntriesBy : (Entry → Type 0) → List HubContent → Outline → Type 0
EntriesBy P hs o =
    o.active ≡ true → o.dir_in ≡ false → (o.c_prog == 0) ≡ false → EachOf P (out_key o) (pipeline_for hs o.hub o.port)

its_key : (v : Sitd) → v.dir_in ≡ false → key_asked v ≡ out_key (outline v)
its_key v way = ap (λ (z : IsoTransaction). key_of z.ask) (out_transaction v way)

to_outline : (P : Entry → Type 0) (hs : List HubContent) (v : Sitd) → EntriesAre P hs v → EntriesBy P hs (outline v)
to_outline P hs v k on way some = subst (λ (j : Key). EachOf P j (pipeline_for hs v.hub v.port)) (its_key v way) (k on way some)

of_outline : (P : Entry → Type 0) (hs : List HubContent) (v : Sitd) → EntriesBy P hs (outline v) → EntriesAre P hs v
of_outline P hs v k on way some = subst (λ (j : Key). EachOf P j (pipeline_for hs v.hub v.port)) (sym (its_key v way)) (k on way some)

pub kin_entries : (P : Entry → Type 0) (hs : List HubContent) (x v : Sitd) → IsKin x v → EntriesAre P hs x → EntriesAre P hs v
kin_entries P hs x v kin k on =
    of_outline P hs v (subst (EntriesBy P hs) (sym (kin on)) (to_outline P hs x k)) on

-- ---- what stays

kin_moved : (x v : Sitd) (m : ℕ) → IsKin x v → IsKin x (moved_sitd m v)
unfolding moved_sitd
kin_moved x v m k = k

kin_missed : (x v : Sitd) → IsKin x v → IsKin x (missed_sitd v)
unfolding missed_sitd
kin_missed x v k on = absurd (true≢false (sym on))

pub kin_steady : (x : Sitd) → IsSteady (IsKin x)
kin_steady x = record {
  linked = λ v link k. k;
  moved = λ v m k. kin_moved x v m k;
  missed = λ v k. kin_missed x v k;
}

-- ---- words

by_words : ℕ → ℕ → Outline
by_words a b = record {
  active = is_set 7 b;
  dir_in = is_set 31 a;
  c_prog = bits 15 8 b;
  addr = bits 6 0 a;
  ep = bits 11 8 a;
  hub = bits 22 16 a;
  port = bits 30 24 a;
}

of_list : (ws : List ℕ) → outline (sitd_at ws) ≡ by_words (slice_index ws 1) (slice_index ws 3)
unfolding sitd_at by_words
of_list ws = refl

of_memory : (m : Mem) (b : ℕ) → outline (sitd_in m b) ≡ by_words (word_at m (32 * b + 4)) (word_at m (32 * b + 12))
of_memory m b = of_list _

pub holds_kin : (m : Mem) (b : ℕ) (v : Sitd) → HoldsSplitIsochronous m (32 * b) v → outline (sitd_in m b) ≡ outline v
holds_kin m b v h =
    of_memory m b
    ∙ ap (λ (i : ℕ). by_words i (word_at m (32 * b + 12))) (sym (get_or-words_in m.words (32 * b) 7 1 (omega arith)))
    ∙ ap (by_words (slice_index (words_at m (32 * b) 7) 1)) (sym (get_or-words_in m.words (32 * b) 7 3 (omega arith)))
    ∙ sym (of_list (words_at m (32 * b) 7)) ∙ ap outline (words_are m (32 * b) v h)

same_words : (m new : Mem) (b : ℕ) → word_at new (32 * b + 4) ≡ word_at m (32 * b + 4) → word_at new (32 * b + 12) ≡ word_at m (32 * b + 12)
    → outline (sitd_in new b) ≡ outline (sitd_in m b)
same_words m new b one three =
    of_memory new b ∙ ap (λ (i : ℕ). by_words i (word_at new (32 * b + 12))) one
    ∙ ap (by_words (word_at m (32 * b + 4))) three ∙ sym (of_memory m b)

-- what is of the same outline is kin to the same
pub kin_by : (x v z : Sitd) → outline z ≡ outline v → IsKin x v → IsKin x z
kin_by x v z same k on = same ∙ k (ap (λ (o : Outline). o.active) (sym same) ∙ on)

-- ---- a world

module _ (fixed : Fixed) (s : Standing) (w : World) (k : IsMixedAt s w) (i : SplitTransfer w.driver) (x : Sitd)
    (there : (IsInHand w.control (32 * i.transfer.first) → ⊥) → IsKin x (sitd_in w.memory i.transfer.first))
    (held : (h : IsInHand w.control (32 * i.transfer.first)) → IsKin x h.copy.sitd)
    (out : IsInHand (controller_next fixed w).control (32 * i.transfer.first) → ⊥) where
  abbrev new : World
  new = controller_next fixed w

  abbrev b : ℕ
  b = i.transfer.first

  abbrev n : ℕ
  n = 32 * i.transfer.first

  abbrev all : StructureSets
  all = both s.descs s.parts

  walking : w.control.part ≡ parts.Periodic
      → IsFrameWalk (met w.driver s.recent) (both s.descs s.parts) s.frame (frame_place (controller_parts w))
  walking on = k.now.framed.runs.walk on

  not_held : IsOut (32 * i.transfer.first) s.frame → IsInHand w.control (32 * i.transfer.first) → ⊥
  not_held none h =
      let f : IsSitdFrame s.frame h.copy = sitd_in_hand s.frame h.copy (sym (walking h.part).held ∙ h.held) in
      none f.copy f.is (ap (λ (z : HeldSitd). z.at) f.held ∙ h.at)

  in_hand : (j : SitdCopy) → s.frame ≡ OfSitd j → j.held.at ≡ 32 * i.transfer.first → IsKin x j.held.sitd
  in_hand j is at =
      ⊎_elim {C = IsKin x j.held.sitd}
      (λ (on : w.control.part ≡ parts.Periodic).
      held (record { copy = j.held; part = on; held = (walking on).held ∙ ap frame_held is; at = at }))
      (λ (off : w.control.part ≢ parts.Periodic).
      let none : s.frame ≡ Nothing = k.now.framed.runs.outside (inl off) in
      absurd (let e : Nothing ≡ OfSitd j = sym none ∙ is in cc)) (either_part w.control.part)

  stands : StandsSo (32 * i.transfer.first) (IsKin x) (kin_steady x) (both s.descs s.parts) s.frame
  stands = record {
    there = λ none v here.
        kin_by x (sitd_in w.memory b) v (sym (holds_kin w.memory b v (k.now.framed.runs.ring.tells.each n n (SplitIsochronous v) here)))
        (there (not_held none));
    held = in_hand;
  }

  out_later : IsOut (32 * i.transfer.first) (event_of fixed w s k).frame_later
  out_later j is at =
      let e = event_of fixed w s k in
      ⊎_elim {C = ⊥}
      (λ (on : new.control.part ≡ parts.Periodic).
      out (record { copy = j.held; part = on; held = (e.runs.walk on).held ∙ ap frame_held is; at = at }))
      (λ (off : new.control.part ≢ parts.Periodic).
      let none : e.frame_later ≡ Nothing = e.runs.outside (inl off) in
      let f : Nothing ≡ OfSitd j = sym none ∙ is in cc) (either_part new.control.part)

  keeps : KeepsParts (both s.descs s.parts) (event_of fixed w s k).now
  keeps =
      let e = event_of fixed w s k in
      events_keep_both begins_by transacts_by opening_base s.member (met w.driver s.recent) all s.hand s.frame (controller_parts w)
      (wired fixed w) (wired fixed new) e.now e.later e.frame_later
      k.now.framed.runs e.effect

  one_before : (v : Sitd) → (event_of fixed w s k).now (32 * i.transfer.first) (32 * i.transfer.first) ≡ Some (SplitIsochronous v)
      → IsSitd (both s.descs s.parts (32 * i.transfer.first) (32 * i.transfer.first))
  one_before v here = was_sitd (all n n) v (sym ((keeps n).sorts n) ∙ ap (option_map sort_of) here)

  there_after : (v : Sitd) → (event_of fixed w s k).now (32 * i.transfer.first) (32 * i.transfer.first) ≡ Some (SplitIsochronous v)
      → IsKin x v
  there_after v here =
      let one = one_before v here in
      let e = event_of fixed w s k in
      event_stands n (IsKin x) (kin_steady x) begins_by transacts_by (met w.driver s.recent) opening_base s.member all e.now s.hand e.later
      s.frame e.frame_later (controller_parts w) (wired fixed w) (wired fixed new) one.sitd k.now.framed.runs e.effect one.is stands
      out_later v here

  -- ---- in memory

  writes : WritesLent w.memory (controller_next fixed w).memory
  writes =
      each_event_of_the_controller_writes_lent_words begins_by transacts_by (controller_parts w) (wired fixed w) (controller_parts new)
      (wired fixed new)
      (aligned_placed (controller_parts w) k.now.framed.aligned) (world_has_row fixed w)

  kept_stays : (r : Run) → slot_of w.driver.book.slots i.transfer.first ≡ slots.Keeps r → r.blocks ≡ 1
      → IsKin x (sitd_in (controller_next fixed w).memory i.transfer.first)
  kept_stays r is one =
      let h = holding w.driver.book w.memory in
      let standing = k.now.framed.place.sound.stands in
      let first = (keeps_at h b r standing is).0 in
      let off : (j : ℕ) → j < 7 → reaches w.memory (32 * b + 4 * j) ≡ false = λ j small.
      ap is_lent (keeps_all h b r standing is ((32 * b + 4 * j) / 32) (omega (arith, first)) (omega (arith, first, one, small))) in
      let none : IsOut n s.frame = λ j at_j at.
      absurd (none_kept j at_j at (off 0 (omega arith))) in
      kin_by x (sitd_in w.memory b) (sitd_in new.memory b)
      (same_words w.memory new.memory b (writes.words (32 * b + 4 * 1) (off 1 (omega arith)))
      (writes.words (32 * b + 4 * 3) (off 3 (omega arith)))) (there (not_held none))
    where
      -- what is in hand is lent
      none_kept : (j : SitdCopy) → s.frame ≡ OfSitd j → j.held.at ≡ 32 * i.transfer.first
          → reaches w.memory (32 * i.transfer.first + 4 * 0) ≡ false → ⊥
      none_kept j is at off =
          ⊎_elim {C = ⊥}
          (λ (on : w.control.part ≡ parts.Periodic).
          let copied : IsCopiedSitd (met w.driver s.recent) all w.control.frame.reply j
          = subst (IsInFrame (met w.driver s.recent) all w.control.frame.got w.control.frame.reply) is (walking on).in_hand in
          let holds : HoldsSplitIsochronous w.memory j.held.at j.sitd =
          k.now.framed.runs.ring.tells.each j.held.at j.held.at (SplitIsochronous j.sitd) copied.here in
          let same : j.held.at ≡ 32 * b + 4 * 0 = omega (arith, at) in
          true≢false (sym holds.lent ∙ ap (reaches w.memory) same ∙ off))
          (λ (off : w.control.part ≢ parts.Periodic).
          let none : s.frame ≡ Nothing = k.now.framed.runs.outside (inl off) in
          let e : Nothing ≡ OfSitd j = sym none ∙ is in cc) (either_part w.control.part)

  lent_stays : IsLent (slot_of w.driver.book.slots i.transfer.first) → IsKin x (sitd_in (controller_next fixed w).memory i.transfer.first)
  lent_stays lent =
      let e = event_of fixed w s k in
      let l : IsDescriptorLent (views_of w.driver) i.number (runs_of_transfer i.transfer)
      = record { here = ap (option_map runs_of_transfer) i.there; held = i.held; isochronous = i.sort; lent = lent } in
      let has : HasSitd (s.descs n) n
      = subst (λ (c : Bool). HasDescriptor c (s.descs (32 * i.transfer.first)) (32 * i.transfer.first)) i.split
      (k.now.framed.described.descriptors i.number (runs_of_transfer i.transfer) l) in
      let on : owns s.descs n ≡ true = ap is_some has.here in
      let here : all n n ≡ Some (SplitIsochronous has.sitd) = ap (λ (part : Structures). part n) (both_on s.descs s.parts n on)
      ∙ has.here in
      let a : HasSitdAfter (e.now n) n has.sitd = (keeps n).sitd n has.sitd here in
      kin_by x a.sitd (sitd_in new.memory b)
      (holds_kin new.memory b a.sitd (e.runs.ring.tells.each n n (SplitIsochronous a.sitd) a.here)) (there_after a.sitd a.here)

  pub memory_kin : IsKin x (sitd_in (controller_next fixed w).memory i.transfer.first)
  memory_kin = by (slot_of w.driver.book.slots b) refl
    where
      run : HasBlocks 1 (slot_of w.driver.book.slots i.transfer.first)
      run = subst (λ (c : Bool). HasBlocks (if c then 1 else 2) (slot_of w.driver.book.slots i.transfer.first)) i.split
          (k.now.framed.place.sound.owners.owned.each.described i.number (runs_of_transfer i.transfer)
          (ap (option_map runs_of_transfer) i.there) i.sort i.held).descriptor.run

      by : (c : Slot) → slot_of w.driver.book.slots i.transfer.first ≡ c
          → IsKin x (sitd_in (controller_next fixed w).memory i.transfer.first)
      by slots.Empty is = absurd (subst (HasBlocks 1) is run)
      by (slots.Keeps r) is = kept_stays r is (subst (HasBlocks 1) is run)
      by (slots.Lends r) is = lent_stays (subst IsLent (sym is) tt)
