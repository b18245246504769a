-- What an event of the controller leaves of a siTD in memory (EHCI 1.0, 4.6 and 4.12.3): one of which no copy is in hand is as it was, or
-- as the copy was that isn't in hand any more, but for its link and its place in the buffer; one of which a microframe was missed isn't
-- active.
use Rattle.std.proofs.Common.{◌≡◌, ◌≢◌, ℕ, Bool, false, List, Option, Some, None, refl, ap, sym, subst, ◌∙◌, ⊎_elim}
use Rattle.std.proofs.lemmas.Bool.{cases_eq}
use Rattle.std.proofs.lemmas.Option.{same_Some}
use Rattle.usb_base.specs.declared.packets.Ask.{Ask}
use Rattle.usb_base.specs.declared.packets.Reply.{Reply}
use Rattle.link_words.specs.declared.fields.LinkBits.{LinkBits}
use Rattle.itd_sitd.specs.declared.sitd.Sitd.{Sitd}
use Rattle.hc_copy.specs.Overlay.{advanced}
use Rattle.hc_copy.specs.WriteBack.{moved_by}
use Rattle.hc_iso.specs.declared.held.SplitOutcome.{SplitOutcome}
use Rattle.hc_iso.specs.Sitd.{moved_sitd, missed_sitd}
use Rattle.hc_iso.specs.WriteBack.{sitd_received, moved_by as sitd_moved_by}
use Rattle.async_walk.specs.declared.state.WalkStep.{WalkStep}
use Rattle.periodic_walk.specs.Walk.{Walk}
use Rattle.hc_core.specs.Controller.{Content}
use Rattle.law_structures.specs.lent_structures.Structures.{QueueHead, Isochronous, SplitIsochronous, Structures, StructureSets}
use Rattle.law_structures.specs.lent_structures.WriteBack.{received_parts}
use Rattle.law_structures.proofs.lemmas.lent_structures.Names.{put_beside, put_same}
use Rattle.law_structures.proofs.lemmas.lent_structures.Found.{received_beside, back_beside}
use Rattle.claims_base.specs.Controller.{Base}
use Rattle.law_ring.specs.Hand.{Hand as RingHand}
use Rattle.law_ring.specs.Effects.{received_into}
use Rattle.law_controller.specs.frame_control.Both.{RunsBoth, BothEffect, of_ring, of_frame}
use Rattle.law_frames.specs.Met.{Kind}
use Rattle.law_frames.specs.FrameHand.{settled_in, SitdCopy, FrameHand, Nothing, OfQueue, OfSettled, OfItd, OfSitd}
use Rattle.law_frames.specs.Frame.{IsCopiedQueue, IsCopiedItd, IsCopiedSitd, IsTurned, IsInFrame}
use Rattle.law_frames.specs.FrameEffects.{IsUnsettled, MakesOne, TakesOne, itd_back, sitd_back, IsSettledFrom, was_worked, was_missed as queue_missed, WritesQueue, WritesItd, WritesSitd, IsWrittenFrom, made as was_made, missed as was_missed, WritesOne, FrameEffect, fetches, passes, ends, takes, makes, writes}
use Rattle.law_frames.proofs.QueueBacks.{hand_is_settled}
use Rattle.law_microframes.proofs.lemmas.time.SitdEvents.{is_sitd, not_sitd, same_sitd, address, queue_beside, itd_beside, ring_stays}

-- no copy of the siTD at n is in hand
abbrev pub IsOut : ℕ → FrameHand → Type 0
IsOut n hand = (k : SitdCopy) → hand ≡ OfSitd k → k.held.at ≡ n → ⊥

out_by : (n : ℕ) (hand : FrameHand) → is_sitd hand ≡ false → IsOut n hand
out_by n hand off k is at = not_sitd hand k off is

-- what stays as the link, the place in the buffer and a missed microframe change
pub record IsSteady (P : Sitd → Type 0) : Type 0 where
  pub linked : (v : Sitd) (link : LinkBits) → P v → P (record v { link = link })
  pub moved : (v : Sitd) (m : ℕ) → P v → P (moved_sitd m v)
  pub missed : (v : Sitd) → P v → P (missed_sitd v)

module _ (n : ℕ) (P : Sitd → Type 0) (steady : IsSteady P) where
  pub record StandsSo (parts : StructureSets) (hand : FrameHand) : Type 0 where
    pub there : IsOut n hand → (v : Sitd) → parts n n ≡ Some (SplitIsochronous v) → P v
    pub held : (k : SitdCopy) → hand ≡ OfSitd k → k.held.at ≡ n → P k.held.sitd

  abbrev pub StandsThen : StructureSets → FrameHand → Type 0
  StandsThen now later = IsOut n later → (v : Sitd) → now n n ≡ Some (SplitIsochronous v) → P v

  module _ (parts now : StructureSets) (hand later : FrameHand) (k : StandsSo parts hand) where
    -- nothing is written at n, and no copy of it was in hand
    quiet : now n ≡ parts n → IsOut n hand → StandsThen now later
    quiet same out _ v here = k.there out v (ap (λ (part : Structures). part n) (sym same) ∙ here)

    at_n : now ≡ parts → now n ≡ parts n
    at_n same = ap (λ (x : StructureSets). x n) same

    nothing : hand ≡ Nothing → IsOut n hand
    nothing none = out_by n hand (ap is_sitd none)

    made : {W : Type 0} (transacts : W → Ask → List ℕ → Reply → W → Type 0) (w : Walk) (wire after : W) → now ≡ parts
        → MakesOne transacts parts w hand wire after later → StandsThen now later
    made transacts w wire after same (MakesOne.of_queue m) = quiet (at_n same) (out_by n hand (ap is_sitd m.in_hand))
    made transacts w wire after same (MakesOne.of_itd m) = quiet (at_n same) (out_by n hand (ap is_sitd m.in_hand))
    made transacts w wire after same (MakesOne.of_sitd m) =
        λ (out : IsOut n later).
        quiet (at_n same)
        (λ j is at. out _ m.later_is (ap (λ (i : SitdCopy). i.held.at) (same_sitd m.copy j (sym m.in_hand ∙ is)) ∙ at)) out

    module _ (met : ℕ → Option Kind) (w : Walk) (in_hand : IsInFrame met parts w.got w.reply hand) (v : Sitd)
        (here : parts n n ≡ Some (SplitIsochronous v)) where
      took : TakesOne parts hand now later → StandsThen now later
      took r =
          let copied : IsCopiedQueue met parts r.copy = subst (IsInFrame met parts w.got w.reply) r.in_hand in_hand in
          let differs : n ≢ r.takes.copy.at = subst (λ (a : ℕ). n ≢ a) (ap address r.takes.in_hand)
          (queue_beside n parts r.copy.at r.copy.queue v copied.here here) in
          quiet
          (ap (λ (x : StructureSets). x n) r.takes.now_is
          ∙ put_beside parts r.takes.copy.at r.takes.copy.at
          (QueueHead (advanced r.takes.copy.queue r.takes.element r.takes.qtd)) n differs)
          (out_by n hand (ap is_sitd r.in_hand))

      no_sitd_settled : (r : WritesQueue parts w hand now later) → IsSettledFrom w hand r.copy r.settled r.made → is_sitd hand ≡ false
      no_sitd_settled r (was_worked is) = ap is_sitd is
      no_sitd_settled r (queue_missed is turn same) = ap is_sitd is

      wrote_queue : WritesQueue parts w hand now later → StandsThen now later
      wrote_queue r =
          let copied : IsCopiedQueue met parts r.copy = (hand_is_settled met parts w hand r.copy r.settled r.made in_hand r.from).0 in
          let differs : n ≢ r.copy.at = queue_beside n parts r.copy.at r.copy.queue v copied.here here in
          quiet
          (ap (λ (x : StructureSets). x n) r.now_is
          ∙ back_beside parts r.copy.at r.copy.at r.copy.queue (settled_in r.copy r.settled) (moved_by r.settled.outcome) r.settled.got
          (received_into (parts r.copy.at) r.copy.queue r.element r.settled.got) r.element n differs)
          (out_by n hand (no_sitd_settled r r.from))

      wrote_itd : WritesItd parts w hand now later → StandsThen now later
      wrote_itd r =
          let copied : IsCopiedItd met parts w.got r.copy = subst (IsInFrame met parts w.got w.reply) r.in_hand in_hand in
          let differs : n ≢ r.copy.held.at = itd_beside n parts r.copy.held.at r.copy.itd v copied.here here in
          quiet
          (ap (λ (x : StructureSets). x n) r.now_is
          ∙ put_beside (received_parts parts r.copy.held.at w.got r.into) r.copy.held.at r.copy.held.at
          (Isochronous (itd_back r.copy)) n differs
          ∙ received_beside parts r.copy.held.at w.got r.into n differs)
          (out_by n hand (ap is_sitd r.in_hand))

      back_at : (copy back : SitdCopy) → IsWrittenFrom w copy back → back.held.at ≡ copy.held.at
      back_at copy back (was_made same) = ap (λ (i : SitdCopy). i.held.at) same
      back_at copy back (was_missed unsettled turn same) = ap (λ (i : SitdCopy). i.held.at) same

      back_so : (copy back : SitdCopy) → hand ≡ OfSitd copy → IsWrittenFrom w copy back → copy.held.at ≡ n → P back.held.sitd
      back_so copy back is (was_made same) at = subst (λ (i : SitdCopy). P i.held.sitd) (sym same) (k.held copy is at)
      back_so copy back is (was_missed unsettled turn same) at =
          subst (λ (i : SitdCopy). P i.held.sitd) (sym same) (steady.missed copy.held.sitd (k.held copy is at))

      wrote_sitd : WritesSitd parts w hand now later → StandsThen now later
      wrote_sitd r =
          let got = sitd_received r.back.held.sitd.dir_in r.outcome w.reply in
          let a = r.back.held.at in
          let new : Sitd = sitd_back r.back (sitd_moved_by r.outcome) in
          let same_at = back_at r.copy r.back r.written in
          ⊎_elim {C = StandsThen now later}
          (λ (own : n ≡ r.back.held.at).
          let has : P new = steady.linked _ r.back.sitd.link (steady.moved r.back.held.sitd (sitd_moved_by r.outcome)
          (back_so r.copy r.back r.in_hand r.written (sym (own ∙ same_at)))) in
          λ (_ : IsOut n later) (z : Sitd) (is : now n n ≡ Some (SplitIsochronous z)).
          let found : SplitIsochronous new ≡ SplitIsochronous z =
          same_Some (SplitIsochronous new) (SplitIsochronous z)
          (sym (put_same (received_parts parts a got r.into) a a (SplitIsochronous new))
          ∙ ap (λ (x : StructureSets). x a a) (sym r.now_is) ∙ ap (λ (i : ℕ). now i i) (sym own) ∙ is) in
          let same : new ≡ z = cc in
          subst P same has)
          (λ (differs : n ≢ r.back.held.at).
          quiet
          (ap (λ (x : StructureSets). x n) r.now_is
          ∙ put_beside (received_parts parts a got r.into) a a (SplitIsochronous new) n differs
          ∙ received_beside parts a got r.into n differs)
          (λ j is at. differs (sym at ∙ ap (λ (i : SitdCopy). i.held.at) (sym (same_sitd r.copy j (sym r.in_hand ∙ is))) ∙ sym same_at)))
          (cases_eq n r.back.held.at)

      wrote : WritesOne parts w hand now later → StandsThen now later
      wrote (WritesOne.of_queue r) = wrote_queue r
      wrote (WritesOne.of_itd r) = wrote_itd r
      wrote (WritesOne.of_sitd r) = wrote_sitd r

      -- the visit is over: what stands in memory is as the copy, but for its link
      turned_so : (copy : SitdCopy) (o : Option SplitOutcome) → o ≡ None → IsTurned copy w.reply o
          → record copy.held.sitd { link = copy.sitd.link } ≡ copy.sitd
      turned_so copy None unset turned = turned
      turned_so copy (Some outcome) unset turned = absurd (cc)

      passed_own : (copy : SitdCopy) → hand ≡ OfSitd copy → copy.held.settled ≡ None → now ≡ parts → copy.held.at ≡ n → StandsThen now later
      passed_own copy is unset same at _ z there =
          let copied : IsCopiedSitd met parts w.reply copy = subst (IsInFrame met parts w.got w.reply) is in_hand in
          let turned = turned_so copy copy.held.settled unset copied.turn in
          let found : SplitIsochronous copy.sitd ≡ SplitIsochronous z =
          same_Some (SplitIsochronous copy.sitd) (SplitIsochronous z)
          (sym copied.here ∙ ap (λ (i : ℕ). parts i i) at ∙ ap (λ (x : StructureSets). x n n) (sym same) ∙ there) in
          let one : copy.sitd ≡ z = cc in
          subst P (turned ∙ one) (steady.linked copy.held.sitd copy.sitd.link (k.held copy is at))

      passed : (h : FrameHand) → hand ≡ h → IsUnsettled h → now ≡ parts → StandsThen now later
      passed Nothing is unsettled same = absurd unsettled
      passed (OfQueue c m) is unsettled same = quiet (at_n same) (out_by n hand (ap is_sitd is))
      passed (OfSettled c s m) is unsettled same = absurd unsettled
      passed (OfItd c) is unsettled same = quiet (at_n same) (out_by n hand (ap is_sitd is))
      passed (OfSitd c) is unsettled same =
          ⊎_elim {C = StandsThen now later} (λ (own : c.held.at ≡ n). passed_own c is unsettled same own)
          (λ (differs : c.held.at ≢ n).
          quiet (at_n same) (λ j at_j at. differs (ap (λ (i : SitdCopy). i.held.at) (same_sitd c j (sym is ∙ at_j)) ∙ at)))
          (cases_eq c.held.at n)

  module _ {W : Type 0} (begins : W → ℕ → Bool → W → Type 0) (transacts : W → Ask → List ℕ → Reply → W → Type 0)
      (met : ℕ → Option Kind) where
    -- an event of the walk of the frames, where a siTD stands at n
    walked : (parts now : StructureSets) (hand later : FrameHand) (w : Walk) (wire after : W) (kind : WalkStep) (v : Sitd)
        → IsInFrame met parts w.got w.reply hand
        → FrameEffect transacts parts w hand wire after now later kind → parts n n ≡ Some (SplitIsochronous v) → StandsSo parts hand
        → StandsThen now later
    walked parts now hand later w wire after _ v in_hand (fetches none r same over) here k =
        quiet parts now hand later k (at_n parts now hand later k same) (nothing parts now hand later k none)
    walked parts now hand later w wire after _ v in_hand (passes unsettled gone same over) here k =
        passed parts now hand later k met w in_hand v here hand refl unsettled same
    walked parts now hand later w wire after _ v in_hand (ends none gone same over) here k =
        quiet parts now hand later k (at_n parts now hand later k same) (nothing parts now hand later k none)
    walked parts now hand later w wire after _ v in_hand (takes r over) here k = took parts now hand later k met w in_hand v here r
    walked parts now hand later w wire after _ v in_hand (makes r same) here k = made parts now hand later k transacts w wire after same r
    walked parts now hand later w wire after _ v in_hand (writes r over) here k = wrote parts now hand later k met w in_hand v here r

    -- of any walk
    pub event_stands : (base : Base) (member : ℕ → Bool) (parts now : StructureSets) (hand later : RingHand) (frame frame_later : FrameHand)
        (o : Content) (wire after : W) (v : Sitd)
        → RunsBoth base member met parts hand frame o
        → BothEffect begins transacts parts o.control hand frame wire after now later frame_later
        → parts n n ≡ Some (SplitIsochronous v) → StandsSo parts frame → StandsThen now frame_later
    event_stands base member parts now hand later frame frame_later o wire after v runs (of_ring effect none) here k =
        quiet parts now frame frame_later k
        (ring_stays n begins transacts met base member parts now hand later frame o wire after v runs effect here)
        (nothing parts now frame frame_later k none.0)
    event_stands base member parts now hand later frame frame_later o wire after v runs (of_frame w) here k =
        walked parts now frame frame_later o.control.frame wire after w.kind v (runs.walk w.part).in_hand w.effect here k
