-- The copy of an active siTD in hand that waits for its transaction is one of a descriptor that isn't given back, and has the fields of its
-- endpoint (EHCI 1.0, 3.4, 4.6 and 4.12.3).
use Rattle.std.proofs.Common.{◌≡◌, ℕ, Bool, true, false, slice_get, Some, None, refl, sym, ap, subst, ◌∙◌, ⊎_elim}
use Rattle.std.proofs.lemmas.Bool.{true≢false}
use Rattle.law_microframes.proofs.Common.{out_dir}
use Rattle.law_driver.proofs.Common.{waits_is}
use Rattle.law_common.proofs.Numbers.{same_blocks}
use Rattle.usb_base.specs.declared.endpoints.EpDesc.{EpDesc}
use Rattle.usb_base.specs.declared.packets.Dir.{Dir}
use Rattle.usb_base.specs.declared.packets.Dir.TheVariants as dirs
use Rattle.usb_base.specs.declared.packets.EpKind.{EpKind}
use Rattle.usb_base.specs.declared.packets.EpKind.TheVariants as kinds
use Rattle.usb_base.specs.declared.packets.Way.{Way}
use Rattle.usb_base.specs.declared.packets.Way.TheVariants as ways
use Rattle.hub_keys.specs.Keys.{key_of}
use Rattle.hub_keys.specs.declared.key.Key.{Key}
use Rattle.itd_sitd.specs.declared.sitd.Sitd.{Sitd}
use Rattle.hc_iso.specs.declared.held.HeldSitd.{HeldSitd}
use Rattle.hc_iso.specs.declared.held.IsoTransaction.{IsoTransaction}
use Rattle.drv_periodic_table.specs.Descriptors.{is_served}
use Rattle.drv_periodic_table.specs.Periodic.{dir_of, note_at}
use Rattle.periodic_walk.specs.declared.state.Hand.TheVariants as hands
use Rattle.hc_core.specs.declared.controller.MicroframePart.TheVariants.{Periodic}
use Rattle.hc_core.specs.Controller.{frame_place}
use Rattle.drv_table.specs.DriverContent.{DriverContent}
use Rattle.bandwidth.specs.declared.placements.Placement.{Placement}
use Rattle.bus_world.specs.World.{World, controller_parts}
use Rattle.law_driver.specs.queued_drivers.Queued.{IsOfWay, FitsKind}
use Rattle.law_structures.specs.lent_structures.Structures.{SplitIsochronous}
use Rattle.law_frames.specs.Met.{ASitd}
use Rattle.law_frames.specs.FrameHand.{SitdCopy}
use Rattle.law_frames.specs.Frame.{IsCopiedSitd, IsTurned, IsFrameWalk, IsInFrame}
use Rattle.law_descriptors.specs.Both.{both}
use Rattle.law_descriptors.specs.Meeting.{met}
use Rattle.law_world.specs.memory.Mixed.{Standing, IsMixedAt}
use Rattle.law_microframes.specs.time.SitdFields.{HaveSitdFields, SplitTransfer, SitdsStand}
use Rattle.law_microframes.specs.translators.Keeping.{key_for}
use Rattle.law_microframes.specs.translators.Parts.{key_asked}
use Rattle.law_microframes.specs.visits.Belonging.{IsDescriptorAt, IsHarvestedAt}
use Rattle.law_microframes.specs.visits.OneDescriptor.{IsActiveSome, AreServed}
use Rattle.law_microframes.proofs.lemmas.visits.BelongDescriptors.{descriptor_belongs}
use Rattle.law_microframes.proofs.lemmas.visits.OneDescriptorMet.{met_split_is_active}
use Rattle.law_microframes.proofs.lemmas.time.PaymentReading.{not_whole}
use Rattle.law_microframes.proofs.lemmas.time.SitdWorlds.{IsSitdFrame, sitd_in_hand}
use Rattle.law_microframes.proofs.lemmas.translators.SitdStarts.{out_transaction}

-- a descriptor of the driver, where its endpoint is below a hub
abbrev pub split_at : (d : DriverContent) (n : ℕ) (q : IsDescriptorAt d n)
    → (note_at d.periodic.notes q.transfer.first).split ≡ true → SplitTransfer d
split_at d n q split = record {
  number = q.number;
  transfer = q.transfer;
  endpoint = q.belongs.endpoint;
  placement = q.belongs.placement;
  there = q.there;
  sort = q.sort;
  held = q.held;
  split = split;
  here = ap (slice_get d.endpoints) (waits_is q.belongs.number q.transfer q.waits).0 ∙ q.belongs.here;
  placed = q.belongs.placed;
}

pub record IsCopyOf (st : Standing) (w : World) (h : HeldSitd) : Type 0 where
  pub copy : SitdCopy
  pub same : copy.held ≡ h
  pub copied : IsCopiedSitd (met w.driver st.recent) (both st.descs st.parts) w.control.frame.reply copy
  pub is_met : met w.driver st.recent h.at ≡ Some ASitd
  pub one : IsActiveSome w.driver w.memory h.at
  pub at : IsDescriptorAt w.driver h.at
  pub split : (note_at w.driver.periodic.notes at.transfer.first).split ≡ true
  pub fields : HaveSitdFields h.sitd at.belongs.endpoint.desc at.belongs.placement

module _ (st : Standing) (w : World) (k : IsMixedAt st w) (sitds : SitdsStand w.driver w.memory w.control)
    (served : AreServed w.driver w.memory) (periodic : w.control.part ≡ Periodic) (h : HeldSitd)
    (held : w.control.frame.hand ≡ Some (hands.Sitd h)) (unset : h.settled ≡ None) (active : h.sitd.active ≡ true) where
  walk : IsFrameWalk (met w.driver st.recent) (both st.descs st.parts) st.frame (frame_place (controller_parts w))
  walk = k.now.framed.runs.walk periodic

  f : IsSitdFrame st.frame h
  f = sitd_in_hand st.frame h (sym walk.held ∙ held)

  copied : IsCopiedSitd (met w.driver st.recent) (both st.descs st.parts) w.control.frame.reply f.copy
  copied =
      subst (IsInFrame (met w.driver st.recent) (both st.descs st.parts) w.control.frame.got w.control.frame.reply) f.is walk.in_hand

  is_met : met w.driver st.recent h.at ≡ Some ASitd
  is_met = subst (λ (z : HeldSitd). met w.driver st.recent z.at ≡ Some ASitd) f.held copied.on

  stands_there : both st.descs st.parts h.at h.at ≡ Some (SplitIsochronous f.copy.sitd)
  stands_there = subst (λ (z : HeldSitd). both st.descs st.parts z.at z.at ≡ Some (SplitIsochronous f.copy.sitd)) f.held copied.here

  turned : IsTurned f.copy w.control.frame.reply None
  turned =
      subst (IsTurned f.copy w.control.frame.reply) (ap (λ (z : HeldSitd). z.settled) f.held ∙ unset) copied.turn

  on : f.copy.sitd.active ≡ true
  on = ap (λ (z : Sitd). z.active) (sym turned) ∙ ap (λ (z : HeldSitd). z.sitd.active) f.held ∙ active

  one : IsActiveSome w.driver w.memory h.at
  one = met_split_is_active st w h.at f.copy.sitd k stands_there on

  q : IsDescriptorAt w.driver h.at
  q =
      ⊎_elim {C = IsDescriptorAt w.driver h.at} (λ (d : IsDescriptorAt w.driver h.at). d)
      (λ (z : IsHarvestedAt w.driver h.at).
      let i = one.is in
      let same : i.transfer.first ≡ z.transfer.first = same_blocks i.transfer.first z.transfer.first (sym i.at ∙ z.name) in
      absurd (true≢false (sym (served z.number z.transfer z.there z.sort z.reported z.held)
      ∙ ap (λ (n : ℕ). is_served (note_at w.driver.periodic.notes n) w.memory n) (sym same) ∙ i.active)))
      (descriptor_belongs st w h.at ASitd k is_met (λ same. cc))

  noted : (c : Bool) → (note_at w.driver.periodic.notes q.transfer.first).split ≡ c
      → (note_at w.driver.periodic.notes q.transfer.first).split ≡ true
  noted true is = is
  noted false whole =
      let g = k.now.framed in
      absurd (not_whole w.driver g.place.sound.owners st.descs st.parts g.driven g.described h.at q.transfer.first f.copy.sitd stands_there
      q.name whole)

  pub copy_of : IsCopyOf st w h
  copy_of = record {
    copy = f.copy;
    same = f.held;
    copied = copied;
    is_met = is_met;
    one = one;
    at = q;
    split = noted (note_at w.driver.periodic.notes q.transfer.first).split refl;
    fields =
        sitds.hand (split_at w.driver h.at q (noted (note_at w.driver.periodic.notes q.transfer.first).split refl)) h periodic held q.name;
  }

-- ---- an OUT of an isochronous endpoint is of its key

out_way : (w : Way) (k : EpKind) → IsOfWay w k → k ≡ kinds.Iso → dir_of w ≡ dirs.Out → w ≡ ways.Out
out_way ways.In k fits iso out = absurd (cc)
out_way ways.Out k fits iso out = refl
out_way ways.Ctl k fits iso out = absurd (let e = sym fits ∙ iso in cc)

make : ℕ → ℕ → Dir → EpKind → Key
make addr ep dir kind = record { addr = addr; ep = ep; dir = dir; kind = kind }

pub out_named : (x : EpDesc) (p : Placement) (v : Sitd) → HaveSitdFields v x p → FitsKind x → x.kind ≡ kinds.Iso → v.dir_in ≡ false
    → (x.name.way ≡ ways.Out) × (key_for x ≡ key_asked v)
unfolding make
out_named x p v fields fits iso way =
    let dir : dir_of x.name.way ≡ dirs.Out = out_dir (dir_of x.name.way) (sym fields.has.way ∙ way) in
    let named = fields.has.named in
    let key : key_for x ≡ make v.addr v.ep dirs.Out kinds.Iso =
    ap (make x.name.addr x.name.num (dir_of x.name.way)) iso ∙ ap (λ (d : Dir). make x.name.addr x.name.num d kinds.Iso) dir
    ∙ ap (λ (n : ℕ). make n x.name.num dirs.Out kinds.Iso) (sym named.0) ∙ ap (λ (n : ℕ). make v.addr n dirs.Out kinds.Iso) (sym named.1.0) in
    (out_way x.name.way x.kind fits iso dir, key ∙ sym (ap (λ (z : IsoTransaction). key_of z.ask) (out_transaction v way)))
