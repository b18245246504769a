-- An event of the controller that begins no microframe goes on to where its links led (EHCI 1.0, 4.6, 4.7 and 4.12).
use Rattle.std.proofs.Common.{◌≡◌, ℕ, Bool, true, List, Option, Some, None, ap, refl, sym, subst, ◌∙◌}
use Rattle.law_controller.proofs.Common.{over_not_periodic}
use Rattle.usb_base.specs.declared.packets.Ask.{Ask}
use Rattle.usb_base.specs.declared.packets.Reply.{Reply}
use Rattle.link_words.specs.declared.kinds.Link.{Link}
use Rattle.link_words.specs.Links.{link_of}
use Rattle.hc_iso.specs.Itd.{fetched_itd}
use Rattle.periodic_walk.specs.declared.state.Hand.{Hand}
use Rattle.periodic_walk.specs.declared.chain.ChainRow.{ChainRow}
use Rattle.periodic_walk.specs.declared.chain.ChainRow.TheVariants as chains
use Rattle.periodic_walk.specs.Walk.{Walk as FrameWalk}
use Rattle.periodic_walk.specs.Place.{FramePlace, HasEffect}
use Rattle.periodic_walk.specs.Chain.{chain_row, chain_walk, chain_step}
use Rattle.periodic_walk.specs.Rows.{step_at, effect_at}
use Rattle.hc_core.specs.declared.controller.MicroframePart.TheVariants.{Periodic}
use Rattle.hc_core.specs.declared.controller.ControllerRow.{ControllerRow}
use Rattle.hc_core.specs.declared.controller.ControllerRow.TheVariants as rows
use Rattle.hc_core.specs.Controller.{Control, Content, ended, entered, frame_place, walk_step, part_after, Walks, HasRow}
use Rattle.law_microframes.specs.visits.Ranks.{name_of, next_of}
use Rattle.law_microframes.specs.visits.Visited.{link_held, link_ahead}
use Rattle.law_microframes.proofs.lemmas.visits.VisitSteps.{Goes, hand_goes, led_on}
use Rattle.law_microframes.proofs.lemmas.visits.VisitLinks.{IsReadAt, queue_is_read, itd_is_read, sitd_is_read}
use Rattle.law_microframes.proofs.lemmas.visits.VisitWalking.{async_no}

abbrev pub GoesTo : (ℕ → Bool) → Control → Type 0
GoesTo ahead to = (k : ℕ) → to.part ≡ Periodic → name_of (link_ahead to.frame.hand to.frame.cursor) ≡ Some k → ahead k ≡ true

module _ {W : Type 0} (begins_with : W → ℕ → Bool → W → Type 0) (transacts : W → Ask → List ℕ → Reply → W → Type 0) (ahead : ℕ → Bool) (c : Content) (wire : W) (n : Content) (after : W)
    (closed : (a k : ℕ) → ahead a ≡ true → next_of c.memory a ≡ Some k → ahead k ≡ true) (next : GoesTo ahead c.control) where
  over : (to : Control) → (to.part ≡ Periodic → ⊥) → GoesTo ahead to
  over to out k part is = absurd (out part)

  -- a structure is fetched
  fetched : (a : ℕ) (link : Link) → c.control.part ≡ Periodic → c.control.frame.hand ≡ None → IsReadAt c.memory c.control.frame.cursor a link
      → link_ahead n.control.frame.hand n.control.frame.cursor ≡ link → GoesTo ahead n.control
  fetched a link periodic held read leads k part is =
      closed a k (next a periodic (ap (λ (o : Option Hand). name_of (link_ahead o c.control.frame.cursor)) held ∙ read.name)) (ap name_of (sym read.next) ∙ (ap name_of (sym leads) ∙ is))

  by_chain : (r : ChainRow) → chain_row c.memory c.control.frame.cursor ≡ r → c.control.part ≡ Periodic → c.control.frame.hand ≡ None → n.control.frame ≡ chain_walk r c.control.frame
      → n.control.part ≡ part_after Periodic (chain_step r) → GoesTo ahead n.control
  unfolding fetched_itd
  by_chain (chains.Queue a q) is periodic held walk part =
      fetched a (link_of q.link) periodic held (queue_is_read c.memory c.control.frame.cursor a q is) (ap (λ (x : FrameWalk). link_ahead x.hand x.cursor) walk)
  by_chain (chains.Itd a v) is periodic held walk part =
      fetched a (link_of v.link) periodic held (itd_is_read c.memory c.control.frame.cursor a v is) (ap (λ (x : FrameWalk). link_ahead x.hand x.cursor) walk)
  by_chain (chains.Sitd a v) is periodic held walk part =
      fetched a (link_of v.link) periodic held (sitd_is_read c.memory c.control.frame.cursor a v is) (ap (λ (x : FrameWalk). link_ahead x.hand x.cursor) walk)
  by_chain _ is periodic held walk part = over n.control (λ on. over_not_periodic (sym part ∙ on))

  by_hand : (o : Option Hand) → c.control.frame.hand ≡ o → c.control.part ≡ Periodic → n.control.part ≡ part_after Periodic (step_at (frame_place c) o)
      → HasEffect transacts (effect_at (frame_place c) o) wire (frame_place n) after → GoesTo ahead n.control
  by_hand None held periodic part made =
      by_chain (chain_row c.memory c.control.frame.cursor) refl periodic held (ap (λ (p : FramePlace). p.walk) made.0) part
  by_hand (Some hand) held periodic part made =
      let go : Goes (link_held hand) c.control.frame.index (step_at (frame_place c) (Some hand)) (frame_place n)
      = led_on transacts (link_held hand) c.control.frame.index (step_at (frame_place c) (Some hand)) (effect_at (frame_place c) (Some hand)) wire (frame_place n) after
      (hand_goes (frame_place c) hand) made in
      λ k on is. next k periodic (ap (λ (o : Option Hand). name_of (link_ahead o c.control.frame.cursor)) held ∙ (ap name_of (sym (go.ahead (sym part ∙ on))) ∙ is))

  walked : (old : Content) → Walks transacts old wire n after → GoesTo ahead n.control
  walked old row = over n.control (λ on. async_no (walk_step old) (sym row.part ∙ on))

  pub goes_to : (r : ControllerRow) → (r ≡ rows.Begin → ⊥) → (r ≡ rows.Frame → c.control.part ≡ Periodic) → HasRow begins_with transacts r c wire n after → GoesTo ahead n.control
  goes_to rows.Idle other frame_there row = subst (λ (x : Content). GoesTo ahead x.control) (sym row.0) next
  goes_to rows.Begin other frame_there row = absurd (other refl)
  goes_to rows.Frame other frame_there row = by_hand c.control.frame.hand refl (frame_there refl) row.part row.walked
  goes_to rows.Enter other frame_there row = walked (entered c) row
  goes_to rows.Go other frame_there row = walked c row
  goes_to rows.End other frame_there row =
      subst (λ (x : Content). GoesTo ahead x.control) (sym row.0) (over (ended c.control) over_not_periodic)
