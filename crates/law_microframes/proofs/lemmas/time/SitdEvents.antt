-- An event of the controller leaves the siTDs in memory and the copy in hand of their endpoints (EHCI 1.0, 4.6 and 4.12.3): it reads one,
-- makes a transaction of it, or writes it back, and of the others it changes nothing.
use Rattle.std.proofs.Common.{◌≡◌, ◌≢◌, ℕ, ◌<◌, Bool, true, false, List, Option, Some, refl, ap, sym, subst, ◌∙◌, ⊎_elim, arith, if◌then◌else◌}
use Rattle.std.proofs.lemmas.Bool.{true≢false, cases_eq}
use Rattle.std.proofs.lemmas.Option.{same_Some}
use Rattle.usb_base.specs.declared.packets.Ask.{Ask}
use Rattle.usb_base.specs.declared.packets.Reply.{Reply}
use Rattle.qh_qtd.specs.declared.queue_head.Qh.{Qh}
use Rattle.itd_sitd.specs.declared.itd.Itd.{Itd}
use Rattle.itd_sitd.specs.declared.sitd.Sitd.{Sitd}
use Rattle.hc_copy.specs.Overlay.{advanced}
use Rattle.hc_copy.specs.WriteBack.{moved_by}
use Rattle.hc_interrupt.specs.Turns.{microframe_of}
use Rattle.hc_interrupt.specs.Copies.{goes_on}
use Rattle.hc_iso.specs.WriteBack.{sitd_received, moved_by as sitd_moved_by}
use Rattle.async_walk.specs.declared.state.WalkStep.{WalkStep}
use Rattle.periodic_walk.specs.Walk.{Walk}
use Rattle.hc_core.specs.Controller.{Content, walk_place}
use Rattle.law_structures.specs.lent_structures.Structures.{QueueHead, Isochronous, SplitIsochronous, Structures, StructureSets}
use Rattle.law_structures.specs.lent_structures.WriteBack.{received_parts}
use Rattle.law_structures.proofs.lemmas.lent_structures.Names.{put_beside, put_same}
use Rattle.law_structures.proofs.lemmas.lent_structures.Found.{received_beside, back_beside}
use Rattle.claims_base.specs.Controller.{Base}
use Rattle.law_ring.specs.Hand.{Copy, Hand as RingHand, Empty, Copied, Settled, Stale}
use Rattle.law_ring.specs.Effects.{received_into}
use Rattle.law_controller.specs.controlled_streams.Control.{ControlEffect, a_microframe, a_step}
use Rattle.law_controller.specs.frame_control.Both.{RunsBoth, BothEffect, of_ring, of_frame}
use Rattle.law_controller.proofs.lemmas.frame_control.Staying.{ring_leaves}
use Rattle.law_frames.specs.Met.{Kind}
use Rattle.law_frames.specs.FrameHand.{settled_in, SitdCopy, FrameHand, Nothing, OfQueue, OfSettled, OfItd, OfSitd, fetched_sitd_copy}
use Rattle.law_frames.specs.Frame.{IsCopiedQueue, IsCopiedItd, IsInFrame}
use Rattle.law_frames.specs.FrameEffects.{Fetches, MakesOne, TakesOne, itd_back, sitd_back, WritesQueue, WritesItd, WritesSitd, IsWrittenFrom, made as was_made, missed as was_missed, WritesOne, FrameEffect, fetches, passes, ends, takes, makes, writes}
use Rattle.law_frames.proofs.QueueBacks.{hand_is_settled}
use Rattle.law_microframes.specs.time.SitdFields.{SitdName, IsSitdAs}
use Rattle.law_microframes.proofs.lemmas.time.SitdStable.{sitds_are_stable}

-- ---- what is in hand

abbrev pub is_sitd : FrameHand → Bool
is_sitd Nothing = false
is_sitd (OfQueue c made) = false
is_sitd (OfSettled c s made) = false
is_sitd (OfItd c) = false
is_sitd (OfSitd c) = true

pub not_sitd : (hand : FrameHand) (k : SitdCopy) → is_sitd hand ≡ false → hand ≡ OfSitd k → ⊥
not_sitd hand k off is = true≢false (sym (ap is_sitd is) ∙ off)

pub back_off : (goes : Bool) (c : Copy) (made : ℕ) → is_sitd (if goes then OfQueue c made else Nothing) ≡ false
back_off true c made = refl
back_off false c made = refl

pub same_sitd : (i j : SitdCopy) → OfSitd i ≡ OfSitd j → i ≡ j
same_sitd i j e = cc

-- where a copy was read
abbrev pub address : RingHand → ℕ
address Empty = 0
address (Copied c) = c.at
address (Settled c s) = c.at
address (Stale n q) = n

-- ---- one siTD

-- what is no siTD stands beside one
module _ (n : ℕ) (parts : StructureSets) (a : ℕ) where
  pub queue_beside : (q : Qh) (v : Sitd) → parts a a ≡ Some (QueueHead q)
      → parts n n ≡ Some (SplitIsochronous v) → n ≢ a
  queue_beside q v one here same =
      let e : QueueHead q ≡ SplitIsochronous v =
      same_Some (QueueHead q) (SplitIsochronous v) (sym one ∙ ap (λ (i : ℕ). parts i i) (sym same) ∙ here) in cc

  pub itd_beside : (q : Itd) (v : Sitd) → parts a a ≡ Some (Isochronous q)
      → parts n n ≡ Some (SplitIsochronous v) → n ≢ a
  itd_beside q v one here same =
      let e : Isochronous q ≡ SplitIsochronous v =
      same_Some (Isochronous q) (SplitIsochronous v) (sym one ∙ ap (λ (i : ℕ). parts i i) (sym same) ∙ here) in cc

module _ (n : ℕ) {W : Type 0} (begins : W → ℕ → Bool → W → Type 0) (transacts : W → Ask → List ℕ → Reply → W → Type 0)
    (met : ℕ → Option Kind) where
  -- an event of the ring's walk
  pub ring_stays : (base : Base) (member : ℕ → Bool) (parts now : StructureSets) (hand later : RingHand) (frame : FrameHand) (o : Content)
      (wire after : W) (v : Sitd)
      → RunsBoth base member met parts hand frame o → ControlEffect begins transacts parts hand wire after now later
      → parts n n ≡ Some (SplitIsochronous v) → now n ≡ parts n
  ring_stays base member parts now hand later frame o wire after v runs (a_microframe b) here =
      ap (λ (x : StructureSets). x n) b.parts_stay
  ring_stays base member parts now hand later frame o wire after v runs (a_step r) here =
      ring_leaves transacts base member parts hand (walk_place o) wire after now later r.kind n runs.ring r.effect
      (λ a on same. let m = runs.ring.members a on in queue_beside n parts a m.queue v m.here here same)

module _ (way : SitdName) (s c most n : ℕ) where
  -- what stands at n, and a copy of it in hand
  pub record AreSitdsAs (parts : StructureSets) (hand : FrameHand) : Type 0 where
    pub there : (v : Sitd) → parts n n ≡ Some (SplitIsochronous v) → IsSitdAs way s c most v
    pub held : (k : SitdCopy) → hand ≡ OfSitd k → k.held.at ≡ n → IsSitdAs way s c most k.held.sitd

  module _ (parts now : StructureSets) (hand later : FrameHand) (k : AreSitdsAs parts hand) where
    -- nothing is written at n
    same_there : now n ≡ parts n → (v : Sitd) → now n n ≡ Some (SplitIsochronous v) → IsSitdAs way s c most v
    same_there same v here = k.there v (ap (λ (part : Structures). part n) (sym same) ∙ here)

    -- .. and no copy of one is in hand
    quiet : now n ≡ parts n → is_sitd later ≡ false → AreSitdsAs now later
    quiet same off = record { there = same_there same; held = λ j is at. absurd (not_sitd later j off is) }

    at_n : now ≡ parts → now n ≡ parts n
    at_n same = ap (λ (x : StructureSets). x n) same

    fetched : (w : Walk) → now ≡ parts → Fetches parts w later → AreSitdsAs now later
    fetched w same (Fetches.of_queue f) = quiet (at_n same) (ap is_sitd f.in_hand)
    fetched w same (Fetches.of_itd f) = quiet (at_n same) (ap is_sitd f.in_hand)
    fetched w same (Fetches.of_sitd f) = record {
      there = same_there (at_n same);
      held = λ j is at.
          let copied : fetched_sitd_copy f.at f.sitd ≡ j = same_sitd (fetched_sitd_copy f.at f.sitd) j (sym f.in_hand ∙ is) in
          let name : n ≡ f.at = sym (ap (λ (i : SitdCopy). i.held.at) copied ∙ at) in
          subst (λ (i : SitdCopy). IsSitdAs way s c most i.held.sitd) copied (k.there f.sitd (ap (λ (i : ℕ). parts i i) name ∙ f.here));
    }

    made : {W : Type 0} (transacts : W → Ask → List ℕ → Reply → W → Type 0) (w : Walk) (wire after : W) → now ≡ parts
        → MakesOne transacts parts w hand wire after later → AreSitdsAs now later
    made transacts w wire after same (MakesOne.of_queue m) = quiet (at_n same) (ap is_sitd m.later_is)
    made transacts w wire after same (MakesOne.of_itd m) = quiet (at_n same) (ap is_sitd m.later_is)
    made transacts w wire after same (MakesOne.of_sitd m) = record {
      there = same_there (at_n same);
      held = λ j is at.
          let copied = same_sitd _ j (sym m.later_is ∙ is) in
          let low : microframe_of w.index < 8 = omega arith in
          subst (λ (i : SitdCopy). IsSitdAs way s c most i.held.sitd) copied
          ((sitds_are_stable way s c most).worked m.copy.held.sitd (microframe_of w.index) m.reply
          (k.held m.copy m.in_hand (ap (λ (i : SitdCopy). i.held.at) copied ∙ at)) low m.works);
    }

    module _ (met : ℕ → Option Kind) (w : Walk) (in_hand : IsInFrame met parts w.got w.reply hand) (v : Sitd)
        (here : parts n n ≡ Some (SplitIsochronous v)) where
      took : TakesOne parts hand now later → AreSitdsAs now later
      took r =
          let copied : IsCopiedQueue met parts r.copy = subst (IsInFrame met parts w.got w.reply) r.in_hand in_hand in
          let differs : n ≢ r.takes.copy.at = subst (λ (a : ℕ). n ≢ a) (ap address r.takes.in_hand)
          (queue_beside n parts r.copy.at r.copy.queue v copied.here here) in
          quiet
          (ap (λ (x : StructureSets). x n) r.takes.now_is
          ∙ put_beside parts r.takes.copy.at r.takes.copy.at
          (QueueHead (advanced r.takes.copy.queue r.takes.element r.takes.qtd)) n differs)
          (ap is_sitd r.later_is)

      wrote_queue : WritesQueue parts w hand now later → AreSitdsAs now later
      wrote_queue r =
          let copied : IsCopiedQueue met parts r.copy = (hand_is_settled met parts w hand r.copy r.settled r.made in_hand r.from).0 in
          let differs : n ≢ r.copy.at = queue_beside n parts r.copy.at r.copy.queue v copied.here here in
          quiet
          (ap (λ (x : StructureSets). x n) r.now_is
          ∙ back_beside parts r.copy.at r.copy.at r.copy.queue (settled_in r.copy r.settled) (moved_by r.settled.outcome) r.settled.got
          (received_into (parts r.copy.at) r.copy.queue r.element r.settled.got) r.element n differs)
          (ap is_sitd r.later_is ∙ back_off (goes_on r.made (settled_in r.copy r.settled) r.settled.outcome) _ r.made)

      wrote_itd : WritesItd parts w hand now later → AreSitdsAs now later
      wrote_itd r =
          let copied : IsCopiedItd met parts w.got r.copy = subst (IsInFrame met parts w.got w.reply) r.in_hand in_hand in
          let differs : n ≢ r.copy.held.at = itd_beside n parts r.copy.held.at r.copy.itd v copied.here here in
          quiet
          (ap (λ (x : StructureSets). x n) r.now_is
          ∙ put_beside (received_parts parts r.copy.held.at w.got r.into) r.copy.held.at r.copy.held.at
          (Isochronous (itd_back r.copy)) n differs
          ∙ received_beside parts r.copy.held.at w.got r.into n differs)
          (ap is_sitd r.nothing)

      back_as : (copy back : SitdCopy) → hand ≡ OfSitd copy → IsWrittenFrom w copy back → back.held.at ≡ n
          → IsSitdAs way s c most back.held.sitd
      back_as copy back is (was_made same) at =
          subst (λ (i : SitdCopy). IsSitdAs way s c most i.held.sitd) (sym same)
          (k.held copy is (ap (λ (i : SitdCopy). i.held.at) (sym same) ∙ at))
      back_as copy back is (was_missed unsettled turn same) at =
          subst (λ (i : SitdCopy). IsSitdAs way s c most i.held.sitd) (sym same)
          ((sitds_are_stable way s c most).missed copy.held.sitd (k.held copy is (ap (λ (i : SitdCopy). i.held.at) (sym same) ∙ at)))

      wrote_sitd : WritesSitd parts w hand now later → AreSitdsAs now later
      wrote_sitd r =
          let got = sitd_received r.back.held.sitd.dir_in r.outcome w.reply in
          let a = r.back.held.at in
          let new : Sitd = sitd_back r.back (sitd_moved_by r.outcome) in
          ⊎_elim {C = AreSitdsAs now later}
          (λ (own : n ≡ r.back.held.at).
          let stable = sitds_are_stable way s c most in
          let has : IsSitdAs way s c most new =
          stable.linked _ r.back.sitd.link (stable.moved r.back.held.sitd (sitd_moved_by r.outcome)
          (back_as r.copy r.back r.in_hand r.written (sym own))) in
          record {
            there = λ z is.
                let found : SplitIsochronous new ≡ SplitIsochronous z =
                same_Some (SplitIsochronous new) (SplitIsochronous z)
                (sym (put_same (received_parts parts a got r.into) a a (SplitIsochronous new))
                ∙ ap (λ (x : StructureSets). x a a) (sym r.now_is) ∙ ap (λ (i : ℕ). now i i) (sym own) ∙ is) in
                let same : new ≡ z = cc in
                subst (IsSitdAs way s c most) same has;
            held = λ j is at. absurd (not_sitd later j (ap is_sitd r.nothing) is);
          })
          (λ (differs : n ≢ r.back.held.at).
          quiet
          (ap (λ (x : StructureSets). x n) r.now_is
          ∙ put_beside (received_parts parts a got r.into) a a (SplitIsochronous new) n differs
          ∙ received_beside parts a got r.into n differs)
          (ap is_sitd r.nothing)) (cases_eq n r.back.held.at)

      wrote : WritesOne parts w hand now later → AreSitdsAs now later
      wrote (WritesOne.of_queue r) = wrote_queue r
      wrote (WritesOne.of_itd r) = wrote_itd r
      wrote (WritesOne.of_sitd r) = wrote_sitd r

  module _ {W : Type 0} (begins : W → ℕ → Bool → W → Type 0) (transacts : W → Ask → List ℕ → Reply → W → Type 0)
      (met : ℕ → Option Kind) where
    -- an event of the walk of the frames, where a siTD stands at n
    walked : (parts now : StructureSets) (hand later : FrameHand) (w : Walk) (wire after : W) (kind : WalkStep) (v : Sitd)
        → IsInFrame met parts w.got w.reply hand
        → FrameEffect transacts parts w hand wire after now later kind → parts n n ≡ Some (SplitIsochronous v) → AreSitdsAs parts hand
        → AreSitdsAs now later
    walked parts now hand later w wire after _ v in_hand (fetches none r same over) here k = fetched parts now hand later k w same r
    walked parts now hand later w wire after _ v in_hand (passes unsettled nothing same over) here k =
        quiet parts now hand later k (at_n parts now hand later k same) (ap is_sitd nothing)
    walked parts now hand later w wire after _ v in_hand (ends none nothing same over) here k =
        quiet parts now hand later k (at_n parts now hand later k same) (ap is_sitd nothing)
    walked parts now hand later w wire after _ v in_hand (takes r over) here k = took parts now hand later k met w in_hand v here r
    walked parts now hand later w wire after _ v in_hand (makes r same) here k = made parts now hand later k transacts w wire after same r
    walked parts now hand later w wire after _ v in_hand (writes r over) here k = wrote parts now hand later k met w in_hand v here r

    -- of any walk
    pub event_as : (base : Base) (member : ℕ → Bool) (parts now : StructureSets) (hand later : RingHand) (frame frame_later : FrameHand)
        (o : Content) (wire after : W) (v : Sitd)
        → RunsBoth base member met parts hand frame o
        → BothEffect begins transacts parts o.control hand frame wire after now later frame_later
        → parts n n ≡ Some (SplitIsochronous v) → AreSitdsAs parts frame → AreSitdsAs now frame_later
    event_as base member parts now hand later frame frame_later o wire after v runs (of_ring effect nothing) here k =
        quiet parts now frame frame_later k (ring_stays n begins transacts met base member parts now hand later frame o wire after v runs effect here)
        (ap is_sitd nothing.1)
    event_as base member parts now hand later frame frame_later o wire after v runs (of_frame w) here k =
        walked parts now frame frame_later o.control.frame wire after w.kind v (runs.walk w.part).in_hand w.effect here k
