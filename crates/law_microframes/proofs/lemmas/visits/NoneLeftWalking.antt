-- An event of the controller that begins no microframe goes on to what is to come, or visits it (EHCI 1.0, 4.6, 4.7, 4.10 and 4.12).
use Rattle.std.proofs.Common.{◌≡◌, ◌≢◌, ℕ, ◌⊎◌, Bool, true, false, inl, inr, if◌then◌else◌, List, ◌∷◌, Option, Some, None, ⊎_elim, ap, refl, sym, subst, ◌∙◌}
use Rattle.law_microframes.proofs.Common.{no_queue_end, no_itd_end, no_sitd_end}
use Rattle.usb_base.specs.declared.packets.Ask.{Ask}
use Rattle.usb_base.specs.declared.packets.Reply.{Reply}
use Rattle.word_mem.specs.Memory.{Mem}
use Rattle.link_words.specs.declared.kinds.Link.{Link}
use Rattle.link_words.specs.declared.kinds.Link.TheVariants as links
use Rattle.link_words.specs.Links.{link_of}
use Rattle.mem_queues.specs.Structures.{reaches_queue_head, queue_head_at_address}
use Rattle.mem_descriptors.specs.Descriptors.{itd_at_address, sitd_at_address}
use Rattle.hc_copy.specs.Buffer.{sending}
use Rattle.hc_iso.specs.Itd.{fetched_itd}
use Rattle.hc_iso.specs.Sitd.{missed_copy}
use Rattle.hc_iso.specs.WriteBack.{itd_sending, itd_written, sitd_sending}
use Rattle.hc_iso.specs.declared.held.HeldItd.{HeldItd}
use Rattle.hc_iso.specs.declared.held.HeldSitd.{HeldSitd}
use Rattle.hc_iso.specs.declared.held.SplitOutcome.TheVariants.{Failed}
use Rattle.async_walk.specs.declared.state.WalkStep.{WalkStep}
use Rattle.async_walk.specs.declared.state.WalkStep.TheVariants as steps
use Rattle.periodic_walk.specs.declared.state.Hand.{Hand}
use Rattle.periodic_walk.specs.declared.state.Hand.TheVariants as hands
use Rattle.periodic_walk.specs.declared.state.HeldQueue.{HeldQueue}
use Rattle.periodic_walk.specs.declared.queue.QueueRow.{QueueRow}
use Rattle.periodic_walk.specs.declared.queue.QueueRow.TheVariants as queues
use Rattle.periodic_walk.specs.declared.itd.ItdRow.{ItdRow}
use Rattle.periodic_walk.specs.declared.itd.ItdRow.TheVariants as itds
use Rattle.periodic_walk.specs.declared.sitd.SitdRow.{SitdRow}
use Rattle.periodic_walk.specs.declared.sitd.SitdRow.TheVariants as sitds
use Rattle.periodic_walk.specs.declared.chain.ChainRow.{ChainRow}
use Rattle.periodic_walk.specs.declared.chain.ChainRow.TheVariants as chains
use Rattle.periodic_walk.specs.Walk.{Walk as FrameWalk, is_over}
use Rattle.periodic_walk.specs.Place.{FramePlace, HasEffect, reading}
use Rattle.periodic_walk.specs.Chain.{chain_row, chain_walk, chain_step}
use Rattle.periodic_walk.specs.Queue.{queue_row, queue_read, queue_step, missed, miss_outcome, writing}
use Rattle.periodic_walk.specs.Itd.{itd_row, itd_step}
use Rattle.periodic_walk.specs.Sitd.{sitd_row, sitd_step, writing as sitd_writing}
use Rattle.periodic_walk.specs.Rows.{step_at, effect_at}
use Rattle.hc_core.specs.declared.controller.MicroframePart.{MicroframePart}
use Rattle.hc_core.specs.declared.controller.MicroframePart.TheVariants.{Periodic, Asynchronous}
use Rattle.hc_core.specs.declared.controller.ControllerRow.{ControllerRow}
use Rattle.hc_core.specs.declared.controller.ControllerRow.TheVariants as rows
use Rattle.hc_core.specs.Controller.{Control, Content, ended, entered, frame_place, frame_step, walk_step, part_after, Walks, HasRow}
use Rattle.claims_world.specs.Visits.{name_of, next_of, IsLedTo, fetched_by, visited_too, visits_at, visits_after, HasVisited}
use Rattle.law_microframes.specs.visits.Visited.{link_held, link_ahead, IsToCome}
use Rattle.law_microframes.proofs.lemmas.visits.NoneLeft.{way_on, no_way, none_to_come}
use Rattle.law_microframes.proofs.lemmas.visits.VisitSteps.{Goes, hand_goes, led_on}
use Rattle.law_microframes.proofs.lemmas.visits.VisitLinks.{IsReadAt, queue_is_read, itd_is_read, sitd_is_read}

-- ---- with a copy in hand the chain doesn't end

abbrev IsOfVisit : WalkStep → Type 0
IsOfVisit steps.Ended = ⊥
IsOfVisit _ = Unit {0}

or_fault : (b : Bool) (kind : WalkStep) → IsOfVisit kind → IsOfVisit (if b then kind else steps.Fault)
or_fault true kind is = is
or_fault false kind is = tt

queue_kind : (row : QueueRow) (h : HeldQueue) (p : FramePlace) → IsOfVisit (queue_step row h p)
queue_kind queues.Fault h p = tt
queue_kind queues.Skip h p = tt
queue_kind (queues.Advance a t) h p = or_fault (reaches_queue_head p.memory h.copy.at) steps.Advance tt
queue_kind (queues.Transact t) h p = or_fault (sending t h.copy.queue_head p.memory).all steps.Transact tt
queue_kind queues.Miss h p = or_fault (writing (missed h).copy miss_outcome p.walk.reply p.memory).all steps.WriteBack tt
queue_kind (queues.WriteBack o) h p = or_fault (writing h.copy o p.walk.reply p.memory).all steps.WriteBack tt

itd_kind : (row : ItdRow) (h : HeldItd) (p : FramePlace) → IsOfVisit (itd_step row h p)
itd_kind itds.Skip h p = tt
itd_kind (itds.Transact t) h p = or_fault (itd_sending t h p.memory).all steps.Transact tt
itd_kind (itds.WriteBack o) h p = or_fault (itd_written h p.walk.got p.memory).all steps.WriteBack tt

sitd_kind : (row : SitdRow) (h : HeldSitd) (p : FramePlace) → IsOfVisit (sitd_step row h p)
sitd_kind sitds.Skip h p = tt
sitd_kind (sitds.Transact t) h p = or_fault (sitd_sending t h.sitd p.memory).all steps.Transact tt
sitd_kind sitds.Miss h p = or_fault (sitd_writing (missed_copy h) Failed p.walk.reply p.memory).all steps.WriteBack tt
sitd_kind (sitds.WriteBack o) h p = or_fault (sitd_writing h o p.walk.reply p.memory).all steps.WriteBack tt

hand_kind : (p : FramePlace) (hand : Hand) → IsOfVisit (step_at p (Some hand))
hand_kind p (hands.Queue h) = queue_kind (queue_row p h) h (reading (queue_read p h) p)
hand_kind p (hands.Itd h) = itd_kind (itd_row p.walk.left h) h p
hand_kind p (hands.Sitd h) = sitd_kind (sitd_row p h) h p

still_periodic : (kind : WalkStep) → IsOfVisit kind → kind ≢ steps.Fault → part_after Periodic kind ≡ Periodic
still_periodic steps.Fetch is other = refl
still_periodic steps.Advance is other = refl
still_periodic steps.Transact is other = refl
still_periodic steps.WriteBack is other = refl
still_periodic steps.Skip is other = refl
still_periodic steps.Ended is other = absurd is
still_periodic steps.Fault is other = absurd (other refl)

-- ---- where the chain ends nothing is ahead

ends_there : (m : Mem) (cursor : Link) → chain_row m cursor ≡ chains.Ends → name_of cursor ≡ None
ends_there m links.End is = refl
ends_there m (links.Itd a) is = absurd (no_itd_end a (itd_at_address m a) is)
ends_there m (links.Qh a) is = absurd (no_queue_end a (queue_head_at_address m a) is)
ends_there m (links.Sitd a) is = absurd (no_sitd_end a (sitd_at_address m a) is)
ends_there m (links.Fstn a) is = absurd (cc)

-- ---- an event

-- such a row comes only where the walk of the frames is over
abbrev pub IsPast : ControllerRow → Type 0
IsPast rows.Enter = Unit {0}
IsPast rows.Go = Unit {0}
IsPast rows.End = Unit {0}
IsPast _ = ⊥

module _ {W : Type 0} (begins_with : W → ℕ → Bool → W → Type 0) (transacts : W → Ask → List ℕ → Reply → W → Type 0) (c : Content) (wire : W)
    (n : Content) (after : W) where
  index_by_chain : (r : ChainRow) → n.control.frame ≡ chain_walk r c.control.frame → n.control.frame.index ≡ c.control.frame.index
  unfolding fetched_itd
  index_by_chain chains.Fault walk = ap (λ (x : FrameWalk). x.index) walk
  index_by_chain chains.Ends walk = ap (λ (x : FrameWalk). x.index) walk
  index_by_chain (chains.Queue a q) walk = ap (λ (x : FrameWalk). x.index) walk
  index_by_chain (chains.Itd a v) walk = ap (λ (x : FrameWalk). x.index) walk
  index_by_chain (chains.Sitd a v) walk = ap (λ (x : FrameWalk). x.index) walk

  goes_by : (hand : Hand) → HasEffect transacts (effect_at (frame_place c) (Some hand)) wire (frame_place n) after
      → Goes (link_held hand) c.control.frame.index (step_at (frame_place c) (Some hand)) (frame_place n)
  goes_by hand made =
      led_on transacts (link_held hand) c.control.frame.index (step_at (frame_place c) (Some hand))
      (effect_at (frame_place c) (Some hand)) wire (frame_place n) after
      (hand_goes (frame_place c) hand) made

  index_by_hand : (o : Option Hand) → HasEffect transacts (effect_at (frame_place c) o) wire (frame_place n) after
      → n.control.frame.index ≡ c.control.frame.index
  index_by_hand None made = index_by_chain (chain_row c.memory c.control.frame.cursor) (ap (λ (p : FramePlace). p.walk) made.0)
  index_by_hand (Some hand) made = (goes_by hand made).index_stays

  -- FRINDEX of the microframe stays
  pub index_stays : (r : ControllerRow) → (r ≡ rows.Begin → ⊥) → HasRow begins_with transacts r c wire n after
      → n.control.frame.index ≡ c.control.frame.index
  index_stays rows.Idle other row = ap (λ (x : Content). x.control.frame.index) row.0
  index_stays rows.Begin other row = absurd (other refl)
  index_stays rows.Frame other row = index_by_hand c.control.frame.hand row.walked
  index_stays rows.Enter other row = ap (λ (x : FrameWalk). x.index) row.frame
  index_stays rows.Go other row = ap (λ (x : FrameWalk). x.index) row.frame
  index_stays rows.End other row = ap (λ (x : Content). x.control.frame.index) row.0

  -- ---- what is to come is visited, or is to come

  module _ (vs : List ℕ) (x : ℕ) (was : HasVisited x vs ⊎ IsToCome c.memory c.control x) where
    abbrev Then : List ℕ → Type 0
    Then us = HasVisited x us ⊎ IsToCome c.memory n.control x

    fetched : (a : ℕ) (link : Link) → c.control.frame.hand ≡ None → IsReadAt c.memory c.control.frame.cursor a link
        → n.control.part ≡ Periodic
        → link_ahead n.control.frame.hand n.control.frame.cursor ≡ link → Then (a ∷ vs)
    fetched a link held read part ahead =
        ⊎_elim {C = HasVisited x (a ∷ vs) ⊎ IsToCome c.memory n.control x} (λ (seen : HasVisited x vs). inl (inr seen))
        (λ (t : IsToCome c.memory c.control x).
        ⊎_elim {C = HasVisited x (a ∷ vs) ⊎ IsToCome c.memory n.control x} (λ (it : x ≡ a). inl (inl it))
        (λ (more : IsLedTo c.memory x (next_of c.memory a)).
        inr (record { periodic = part; leads = subst (IsLedTo c.memory x) (sym (ap name_of (ahead ∙ read.next))) more }))
        (way_on c.memory x a (name_of (link_ahead c.control.frame.hand c.control.frame.cursor))
        (ap (λ (o : Option Hand). name_of (link_ahead o c.control.frame.cursor)) held ∙ read.name) t.leads)) was

    ends_here : c.control.frame.hand ≡ None → chain_row c.memory c.control.frame.cursor ≡ chains.Ends → Then vs
    ends_here held is =
        ⊎_elim {C = HasVisited x vs ⊎ IsToCome c.memory n.control x} (λ (seen : HasVisited x vs). inl seen)
        (λ (t : IsToCome c.memory c.control x).
        absurd (no_way c.memory x (name_of (link_ahead c.control.frame.hand c.control.frame.cursor))
        (ap (λ (o : Option Hand). name_of (link_ahead o c.control.frame.cursor)) held ∙ ends_there c.memory c.control.frame.cursor is)
        t.leads)) was

    by_chain : (r : ChainRow) → chain_row c.memory c.control.frame.cursor ≡ r → chain_step r ≢ steps.Fault → c.control.frame.hand ≡ None
        → n.control.frame ≡ chain_walk r c.control.frame
        → n.control.part ≡ part_after Periodic (chain_step r) → Then (visited_too (fetched_by r) vs)
    unfolding fetched_itd
    by_chain chains.Fault is other held walk part = absurd (other refl)
    by_chain chains.Ends is other held walk part = ends_here held is
    by_chain (chains.Queue a q) is other held walk part =
        fetched a (link_of q.link) held (queue_is_read c.memory c.control.frame.cursor a q is) part
        (ap (λ (y : FrameWalk). link_ahead y.hand y.cursor) walk)
    by_chain (chains.Itd a v) is other held walk part =
        fetched a (link_of v.link) held (itd_is_read c.memory c.control.frame.cursor a v is) part
        (ap (λ (y : FrameWalk). link_ahead y.hand y.cursor) walk)
    by_chain (chains.Sitd a v) is other held walk part =
        fetched a (link_of v.link) held (sitd_is_read c.memory c.control.frame.cursor a v is) part
        (ap (λ (y : FrameWalk). link_ahead y.hand y.cursor) walk)

    by_hand : (o : Option Hand) → c.control.frame.hand ≡ o → step_at (frame_place c) o ≢ steps.Fault
        → n.control.part ≡ part_after Periodic (step_at (frame_place c) o)
        → HasEffect transacts (effect_at (frame_place c) o) wire (frame_place n) after
        → Then (visits_at o (chain_row c.memory c.control.frame.cursor) vs)
    by_hand None held other part made =
        by_chain (chain_row c.memory c.control.frame.cursor) refl other held (ap (λ (p : FramePlace). p.walk) made.0) part
    by_hand (Some hand) held other part made =
        let go = goes_by hand made in
        let on : part_after Periodic (step_at (frame_place c) (Some hand)) ≡ Periodic = still_periodic (step_at (frame_place c) (Some hand))
        (hand_kind (frame_place c) hand) other in
        ⊎_elim {C = HasVisited x vs ⊎ IsToCome c.memory n.control x} (λ (seen : HasVisited x vs). inl seen)
        (λ (t : IsToCome c.memory c.control x).
        inr (record {
          periodic = part ∙ on;
          leads = subst (IsLedTo c.memory x)
              (ap (λ (o : Option Hand). name_of (link_ahead o c.control.frame.cursor)) held ∙ ap name_of (sym (go.ahead on))) t.leads;
        })) was

    past : (c.control.part ≡ Periodic → is_over c.control.frame ≡ true) → Then vs
    past over =
        ⊎_elim {C = HasVisited x vs ⊎ IsToCome c.memory n.control x} (λ (seen : HasVisited x vs). inl seen)
        (λ (t : IsToCome c.memory c.control x). absurd (none_to_come c.memory c.control x (over t.periodic) t)) was

    pub comes_next : (r : ControllerRow) → (r ≡ rows.Begin → ⊥) → (r ≡ rows.Frame → frame_step c ≢ steps.Fault)
        → (IsPast r → c.control.part ≡ Periodic → is_over c.control.frame ≡ true)
        → HasRow begins_with transacts r c wire n after → Then (visits_after r c vs)
    comes_next rows.Idle other no_fault over row = subst (λ (y : Content). HasVisited x vs ⊎ IsToCome c.memory y.control x) (sym row.0) was
    comes_next rows.Begin other no_fault over row = absurd (other refl)
    comes_next rows.Frame other no_fault over row = by_hand c.control.frame.hand refl (no_fault refl) row.part row.walked
    comes_next rows.Enter other no_fault over row = past (over tt)
    comes_next rows.Go other no_fault over row = past (over tt)
    comes_next rows.End other no_fault over row = past (over tt)
