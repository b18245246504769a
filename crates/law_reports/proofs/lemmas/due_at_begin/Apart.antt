-- An event of the walk of the frames changes the structures of the one in hand alone, and goes on with that one, or with none (EHCI 1.0,
-- 4.6, 4.7.1, 4.10 and 4.12.3).
use Rattle.std.proofs.Common.{◌≡◌, ◌≢◌, ℕ, Bool, true, false, if◌then◌else◌, List, Some, None, ap, refl, sym, subst, ◌∙◌}
use Rattle.std.proofs.lemmas.Option.{same_Some}
use Rattle.law_common.proofs.Options.{none_some}
use Rattle.law_frames.proofs.Common.{written_from}
use Rattle.law_microframes.proofs.Common.{heard_at}
use Rattle.usb_base.specs.declared.packets.Ask.{Ask}
use Rattle.usb_base.specs.declared.packets.Reply.{Reply}
use Rattle.hc_copy.specs.Overlay.{advanced}
use Rattle.hc_copy.specs.WriteBack.{moved_by}
use Rattle.hc_interrupt.specs.Copies.{goes_on}
use Rattle.hc_iso.specs.declared.held.HeldItd.{HeldItd}
use Rattle.hc_iso.specs.Itd.{heard_in, after_in, after_out, itd_after}
use Rattle.hc_iso.specs.WriteBack.{sitd_received, moved_by as sitd_moved_by}
use Rattle.async_walk.specs.declared.state.WalkStep.{WalkStep}
use Rattle.async_walk.specs.declared.state.WalkStep.TheVariants as steps
use Rattle.periodic_walk.specs.Walk.{Walk, held_address}
use Rattle.law_structures.specs.lent_structures.Structures.{QueueHead, Isochronous, SplitIsochronous, StructureSets}
use Rattle.law_structures.specs.lent_structures.WriteBack.{received_parts}
use Rattle.law_structures.proofs.lemmas.lent_structures.Found.{received_beside, back_beside}
use Rattle.law_structures.proofs.lemmas.lent_structures.Names.{put_beside}
use Rattle.law_ring.specs.Hand.{Copy, Hand as RingHand, Empty, Copied, Settled, Stale}
use Rattle.law_ring.specs.Effects.{received_into}
use Rattle.law_frames.specs.FrameHand.{QueueSettlement, settled_in, ItdCopy, SitdCopy, FrameHand, Nothing, OfQueue, OfSettled, OfItd}
use Rattle.law_frames.specs.FrameHand.{OfSitd}
use Rattle.law_frames.specs.FrameHand.{frame_held}
use Rattle.law_frames.specs.FrameEffects.{IsSettledFrom, was_worked, was_missed, itd_back, sitd_back}
use Rattle.law_frames.specs.FrameEffects.{MakesOne, WritesOne, of_queue, of_itd, of_sitd, FrameEffect, fetches, passes, ends, takes, makes}
use Rattle.law_frames.specs.FrameEffects.{writes}

-- ---- where it is

at_queue : (hand : FrameHand) (c : Copy) (m : ℕ) → hand ≡ OfQueue c m → held_address (frame_held hand) ≡ Some c.at
at_queue hand c m is = ap (λ (h : FrameHand). held_address (frame_held h)) is

at_settled : (hand : FrameHand) (c : Copy) (z : QueueSettlement) (m : ℕ) → hand ≡ OfSettled c z m
    → held_address (frame_held hand) ≡ Some c.at
at_settled hand c z m is = ap (λ (h : FrameHand). held_address (frame_held h)) is

at_itd : (hand : FrameHand) (c : ItdCopy) → hand ≡ OfItd c → held_address (frame_held hand) ≡ Some c.held.at
at_itd hand c is = ap (λ (h : FrameHand). held_address (frame_held h)) is

at_sitd : (hand : FrameHand) (c : SitdCopy) → hand ≡ OfSitd c → held_address (frame_held hand) ≡ Some c.held.at
at_sitd hand c is = ap (λ (h : FrameHand). held_address (frame_held h)) is

at_nothing : (hand : FrameHand) → hand ≡ Nothing → held_address (frame_held hand) ≡ None
at_nothing hand is = ap (λ (h : FrameHand). held_address (frame_held h)) is

-- where a copy of the ring's kind was read
abbrev address : RingHand → ℕ
address Empty = 0
address (Copied c) = c.at
address (Settled c s) = c.at
address (Stale n q) = n

settled_from : (w : Walk) (hand : FrameHand) (c : Copy) (z : QueueSettlement) (m : ℕ) → IsSettledFrom w hand c z m
    → held_address (frame_held hand) ≡ Some c.at
settled_from w hand c z m (was_worked is) = at_settled hand c z m is
settled_from w hand c z m (was_missed is turn same) = at_queue hand c m is

asked_at : (h : HeldItd) (reply : Reply) (b : Bool) → (if b then after_in h reply else after_out h).at ≡ h.at
unfolding after_in after_out
asked_at h reply true = heard_at h (heard_in h reply)
asked_at h reply false = refl

back_at : (b : Bool) (c : Copy) (m : ℕ) (a : ℕ) → held_address (frame_held (if b then OfQueue c m else Nothing)) ≡ Some a → c.at ≡ a
back_at true c m a is = same_Some c.at a is
back_at false c m a is = absurd (none_some a is)

-- ---- the others

module _ {W : Type 0} (transacts : W → Ask → List ℕ → Reply → W → Type 0) (parts : StructureSets) (w : Walk) (hand : FrameHand)
    (wire after : W) (now : StructureSets) (later : FrameHand) (n : ℕ)
    (apart : (a : ℕ) → held_address (frame_held hand) ≡ Some a → n ≢ a) where
  written_leaves : WritesOne parts w hand now later → now n ≡ parts n
  written_leaves (of_queue r) =
      ap (λ (x : StructureSets). x n) r.now_is
      ∙ back_beside parts r.copy.at r.copy.at r.copy.queue (settled_in r.copy r.settled) (moved_by r.settled.outcome) r.settled.got
      (received_into (parts r.copy.at) r.copy.queue r.element r.settled.got) r.element n
      (apart r.copy.at (settled_from w hand r.copy r.settled r.made r.from))
  written_leaves (of_itd r) =
      let differs : n ≢ r.copy.held.at = apart r.copy.held.at (at_itd hand r.copy r.in_hand) in
      ap (λ (x : StructureSets). x n) r.now_is
      ∙ put_beside (received_parts parts r.copy.held.at w.got r.into) r.copy.held.at r.copy.held.at
      (Isochronous (itd_back r.copy)) n differs
      ∙ received_beside parts r.copy.held.at w.got r.into n differs
  written_leaves (of_sitd r) =
      let differs : n ≢ r.back.held.at =
      subst (λ (a : ℕ). n ≢ a) (sym (written_from w r.copy r.back r.written)) (apart r.copy.held.at (at_sitd hand r.copy r.in_hand)) in
      let got = sitd_received r.back.held.sitd.dir_in r.outcome w.reply in
      ap (λ (x : StructureSets). x n) r.now_is
      ∙ put_beside (received_parts parts r.back.held.at got r.into) r.back.held.at r.back.held.at
      (SplitIsochronous (sitd_back r.back (sitd_moved_by r.outcome))) n differs
      ∙ received_beside parts r.back.held.at got r.into n differs

  pub effect_leaves : (kind : WalkStep) → FrameEffect transacts parts w hand wire after now later kind → now n ≡ parts n
  effect_leaves _ (fetches none r same quiet) = ap (λ (x : StructureSets). x n) same
  effect_leaves _ (passes r nothing same quiet) = ap (λ (x : StructureSets). x n) same
  effect_leaves _ (ends none nothing same quiet) = ap (λ (x : StructureSets). x n) same
  effect_leaves _ (makes r same) = ap (λ (x : StructureSets). x n) same
  effect_leaves _ (takes r quiet) =
      let differs : n ≢ r.takes.copy.at =
      subst (λ (a : ℕ). n ≢ a) (ap address r.takes.in_hand) (apart r.copy.at (at_queue hand r.copy r.made r.in_hand)) in
      ap (λ (x : StructureSets). x n) r.takes.now_is
      ∙ put_beside parts r.takes.copy.at r.takes.copy.at (QueueHead (advanced r.takes.copy.queue r.takes.element r.takes.qtd)) n differs
  effect_leaves _ (writes r quiet) = written_leaves r

  -- ---- where the copy is that it leaves in hand

  off : (a b : ℕ) → a ≡ b → n ≢ a → n ≢ b
  off a b same differs = subst (λ (i : ℕ). n ≢ i) same differs

  made_leaves : MakesOne transacts parts w hand wire after later → (a : ℕ) → held_address (frame_held later) ≡ Some a → n ≢ a
  made_leaves (of_queue r) a is =
      off r.copy.at a (same_Some r.copy.at a (sym (at_settled later r.copy _ _ r.later_is) ∙ is))
      (apart r.copy.at (at_queue hand r.copy r.made r.in_hand))
  made_leaves (of_itd r) a is =
      let new : ItdCopy = record r.copy { held = itd_after r.reply r.copy.held } in
      off r.copy.held.at a
      (sym (asked_at r.copy.held r.reply r.copy.held.itd.dir_in) ∙ same_Some new.held.at a (sym (at_itd later new r.later_is) ∙ is))
      (apart r.copy.held.at (at_itd hand r.copy r.in_hand))
  made_leaves (of_sitd r) a is =
      off r.copy.held.at a (same_Some r.copy.held.at a (sym (at_sitd later _ r.later_is) ∙ is))
      (apart r.copy.held.at (at_sitd hand r.copy r.in_hand))

  wrote_leaves : WritesOne parts w hand now later → (a : ℕ) → held_address (frame_held later) ≡ Some a → n ≢ a
  wrote_leaves (of_queue r) a is =
      off r.copy.at a
      (back_at (goes_on r.made (settled_in r.copy r.settled) r.settled.outcome) _ r.made a
      (sym (ap (λ (h : FrameHand). held_address (frame_held h)) r.later_is) ∙ is))
      (apart r.copy.at (settled_from w hand r.copy r.settled r.made r.from))
  wrote_leaves (of_itd r) a is = absurd (none_some a (sym (at_nothing later r.nothing) ∙ is))
  wrote_leaves (of_sitd r) a is = absurd (none_some a (sym (at_nothing later r.nothing) ∙ is))

  pub effect_goes : (kind : WalkStep) → FrameEffect transacts parts w hand wire after now later kind → kind ≢ steps.Fetch → (a : ℕ)
      → held_address (frame_held later) ≡ Some a → n ≢ a
  effect_goes _ (fetches none r same quiet) other a is = absurd (other refl)
  effect_goes _ (passes r nothing same quiet) other a is = absurd (none_some a (sym (at_nothing later nothing) ∙ is))
  effect_goes _ (ends none nothing same quiet) other a is = absurd (none_some a (sym (at_nothing later nothing) ∙ is))
  effect_goes _ (makes r same) other a is = made_leaves r a is
  effect_goes _ (takes r quiet) other a is =
      let one : r.takes.copy.at ≡ r.copy.at = sym (ap address r.takes.in_hand) in
      let two : r.new.at ≡ r.takes.copy.at = ap address r.takes.later_is in
      off r.copy.at a (sym (two ∙ one) ∙ same_Some r.new.at a (sym (at_queue later r.new r.made r.later_is) ∙ is))
      (apart r.copy.at (at_queue hand r.copy r.made r.in_hand))
  effect_goes _ (writes r quiet) other a is = wrote_leaves r a is
