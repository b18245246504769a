-- A queue head in hand of the walk of the frames is passed for a reason, and each event at it is one of a few.
use Rattle.std.proofs.Common.{◌≡◌, ◌≢◌, ℕ, ◌≤◌, Bool, true, false, not, ◌&&◌, if◌then◌else◌, inl, inr, Option, Some, None, ap, sym, subst, ◌∙◌, refl}
use Rattle.std.specs.Prelude.{nat_lt, ◌⊎◌}
use Rattle.std.proofs.lemmas.Bool.{ltb-true, ltb-false, true≢false, and_left, and_right, not-true, and_parts}
use Rattle.law_world.proofs.Common.{skipped}
use Rattle.word_mem.specs.Memory.{Mem}
use Rattle.link_words.specs.declared.kinds.QtdLink.{QtdLink}
use Rattle.link_words.specs.declared.kinds.QtdLink.TheVariants as qtd_links
use Rattle.link_words.specs.Links.{qtd_link_of}
use Rattle.qh_qtd.specs.declared.qtd.Qtd.{Qtd}
use Rattle.qh_qtd.specs.declared.queue_head.Qh.{Qh}
use Rattle.toggle_error.specs.declared.host.Outcome.{Outcome}
use Rattle.mem_queues.specs.Structures.{qtd_at_address, qtd_was_read, reaches_queue_head}
use Rattle.hc_copy.specs.Visits.{next_pointer, visit_at}
use Rattle.hc_copy.specs.Buffer.{sending}
use Rattle.hc_masks.specs.Masks.{has}
use Rattle.hc_interrupt.specs.declared.turns.Turn.{Turn}
use Rattle.hc_interrupt.specs.declared.turns.Turn.TheVariants as turns
use Rattle.hc_iso.specs.Sitd.{sitd_missed, comes}
use Rattle.hc_interrupt.specs.Turns.{microframe_of, waits, is_missed, complete_turn, start_turn, turn_of, planned}
use Rattle.async_walk.specs.declared.state.WalkStep.{WalkStep}
use Rattle.async_walk.specs.declared.state.WalkStep.TheVariants as walks
use Rattle.periodic_walk.specs.declared.queue.QueueRow.TheVariants as queue_rows
use Rattle.periodic_walk.specs.declared.state.HeldQueue.{HeldQueue}
use Rattle.periodic_walk.specs.declared.state.Hand.TheVariants as hands
use Rattle.periodic_walk.specs.Place.{FramePlace, reading}
use Rattle.periodic_walk.specs.Queue.{taken_row, writing, missed, miss_outcome, queue_step}
use Rattle.periodic_walk.specs.Rows.{step_of}
use Rattle.periodic_walk.specs.Causes.{IsVisited, HasNothing}
use Rattle.periodic_walk.specs.Causes.HasNothing.{queue_rests, queue_is_late, queue_ends as its_queue_ends, qtd_is_done as its_qtd_is_done, itd_rests, itd_is_late, sitd_rests, sitd_is_late}
use Rattle.periodic_walk.proofs.Causing.{queue_turned, skips_for_a_reason}
use Rattle.periodic_walk.proofs.Caused.{queue_here, skips_for_each_reason}
use Rattle.hc_core.specs.declared.controller.HcStep.{HcStep}
use Rattle.hc_core.specs.declared.controller.HcStep.TheVariants as steps
use Rattle.hc_core.specs.declared.controller.ControllerRow.{ControllerRow}
use Rattle.hc_core.specs.declared.controller.ControllerRow.TheVariants as rows
use Rattle.hc_core.specs.Controller.{hc_step, kind_of, frame_place, frame_step}
use Rattle.bus_world.specs.World.{World, controller_parts, controller_row, kind_next}
use Rattle.claims_world.specs.Visits.{GoesToLink, HasItsTurn, QueueHasNothing, QueueVisited, HandHasNothing, of_queue, of_itd, of_sitd, ItdVisited, SitdVisited, VisitsInFrames}
use Rattle.claims_world.specs.Visits.QueueHasNothing.{is_halted, not_in_its_s_mask, not_in_its_c_mask, has_no_time, queue_ends, qtd_is_done}
use Rattle.claims_world.specs.Visits.QueueVisited.{transacts, advances, passes, misses}
use Rattle.claims_world.specs.Visits.ItdHasNothing.{is_inactive as itd_inactive, has_no_time as itd_has_no_time}
use Rattle.claims_world.specs.Visits.SitdHasNothing.{has_no_time as sitd_has_no_time}
use Rattle.law_microframes.specs.visits.FrameReasons.{WorldsPassInFrames}
use Rattle.law_microframes.proofs.lemmas.visits.ReasonIso.{itd_visited, sitd_visited, sitd_resting, sitd_active}

-- ---- which turn it is, and why

data TurnIs (p : FramePlace) (h : HeldQueue) : Turn → Type 0 where
  rests : QueueHasNothing p h → TurnIs p h turns.Rest
  works : HasItsTurn p h → TurnIs p h turns.Work
  is_miss : waits h.copy.queue_head ≡ true → is_missed p.walk.index h.copy.queue_head ≡ true → TurnIs p h turns.Miss
  takes : (link : QtdLink) → qtd_link_of (next_pointer h.copy.queue_head) ≡ link → GoesToLink p h → TurnIs p h (turns.Take link)

module _ (p : FramePlace) (h : HeldQueue) where
  abbrev q : Qh
  q = h.copy.queue_head

  not_both : {A : Type 0} (b : Bool) → b ≡ true → b ≡ false → A
  not_both b one other = absurd (true≢false (sym one ∙ other))

  waiting_is : waits h.copy.queue_head ≡ true → (h.copy.queue_head.token.active ≡ true) × (h.copy.queue_head.token.halted ≡ false)
  waiting_is is =
      let rest = (and_parts _ _ is).1 in
      let last = (and_parts _ _ rest).1 in
      let both = and_parts _ _ last in
      (both.0, not-true _ both.1)

  completed : (lost now : Bool) → waits h.copy.queue_head ≡ true → is_missed p.walk.index h.copy.queue_head ≡ lost → has h.copy.queue_head.cmask (microframe_of p.walk.index) ≡ now
      → TurnIs p h (complete_turn lost now)
  completed true now waiting lost comes = is_miss waiting lost
  completed false true waiting lost comes =
      let is = waiting_is waiting in
      works (record {
        active = is.0;
        unhalted = is.1;
        starts = λ other. not_both (waits h.copy.queue_head) waiting other;
        completes = λ again. comes;
        none_missed = λ again. lost;
      })
  completed false false waiting lost comes = rests (not_in_its_c_mask waiting lost comes)

  started : (may halted active : Bool) → waits h.copy.queue_head ≡ false → has h.copy.queue_head.smask (microframe_of p.walk.index) ≡ may → h.copy.queue_head.token.halted ≡ halted
      → h.copy.queue_head.token.active ≡ active → TurnIs p h (start_turn (visit_at may halted active (qtd_link_of (next_pointer h.copy.queue_head))))
  started false halted active waiting may is on = rests (not_in_its_s_mask waiting may)
  started true true active waiting may is on = rests (is_halted is)
  started true false true waiting may is on =
      works (record {
        active = on;
        unhalted = is;
        starts = λ again. may;
        completes = λ other. not_both (waits h.copy.queue_head) other waiting;
        none_missed = λ other. not_both (waits h.copy.queue_head) other waiting;
      })
  started true false false waiting may is on =
      takes (qtd_link_of (next_pointer h.copy.queue_head)) refl (record { done = on; unhalted = is; in_its_s_mask = may })

  turned : (waiting : Bool) → waits h.copy.queue_head ≡ waiting
      → TurnIs p h (if waiting then complete_turn (is_missed p.walk.index h.copy.queue_head) (has h.copy.queue_head.cmask (microframe_of p.walk.index))
      else start_turn (visit_at (has h.copy.queue_head.smask (microframe_of p.walk.index)) h.copy.queue_head.token.halted h.copy.queue_head.token.active (qtd_link_of (next_pointer h.copy.queue_head))))
  turned true is = completed (is_missed p.walk.index h.copy.queue_head) (has h.copy.queue_head.cmask (microframe_of p.walk.index)) is refl refl
  turned false is =
      started (has h.copy.queue_head.smask (microframe_of p.walk.index)) h.copy.queue_head.token.halted h.copy.queue_head.token.active is refl refl refl

  turn_is : TurnIs p h (turn_of p.walk.index h.copy.queue_head)
  turn_is = turned (waits h.copy.queue_head) refl

  -- ---- each event but the fault

  abbrev Visited : WalkStep → Type 0
  Visited k = k ≢ walks.Fault → QueueVisited p h (hc_step k)

  sent : HasItsTurn p h → (planned h.copy.queue_head).price.0 ≤ p.walk.left → (all : Bool) → Visited (if all then walks.Transact else walks.Fault)
  sent turn fits true sound = transacts turn fits
  sent turn fits false sound = absurd (sound refl)

  worked : HasItsTurn p h → (late : Bool) → nat_lt p.walk.left (planned h.copy.queue_head).price.0 ≡ late
      → Visited (queue_step (if late then queue_rows.Skip else queue_rows.Transact (planned h.copy.queue_head)) h p)
  worked turn true late sound = passes (has_no_time turn (ltb-true _ _ late))
  worked turn false late sound = sent turn (ltb-false _ _ late) (sending (planned h.copy.queue_head) h.copy.queue_head p.memory).all sound

  written : waits h.copy.queue_head ≡ true → is_missed p.walk.index h.copy.queue_head ≡ true → (all : Bool) → Visited (if all then walks.WriteBack else walks.Fault)
  written waiting lost true sound = misses waiting lost
  written waiting lost false sound = absurd (sound refl)

  module _ (at : ℕ) (leads : qtd_link_of (next_pointer h.copy.queue_head) ≡ qtd_links.To at) (goes : GoesToLink p h) where
    took : (t : Qtd) → qtd_at_address p.memory at ≡ Some t → t.token.active ≡ true → (all : Bool) → Visited (if all then walks.Advance else walks.Fault)
    took t there active true sound = advances at t goes leads there active
    took t there active false sound = absurd (sound refl)

    found : (t : Qtd) (m : Mem) → qtd_at_address p.memory at ≡ Some t → (active : Bool) → t.token.active ≡ active
        → Visited (queue_step (if active then queue_rows.Advance at t else queue_rows.Skip) h (reading m p))
    found t m there true is sound = took t there is (reaches_queue_head m h.copy.at) sound
    found t m there false is sound = passes (qtd_is_done at t goes leads there is)

    taken : (o : Option Qtd) → qtd_at_address p.memory at ≡ o → Visited (queue_step (taken_row at o) h (reading (qtd_was_read p.memory at) p))
    taken None is sound = absurd (sound refl)
    taken (Some t) is sound = found t (qtd_was_read p.memory at) is t.token.active refl sound

  turn_visited : (t : Turn) → TurnIs p h t → Visited (queue_turned p h t)
  turn_visited _ (rests k) sound = passes k
  turn_visited _ (works k) sound = worked k (nat_lt p.walk.left (planned h.copy.queue_head).price.0) refl sound
  turn_visited _ (is_miss waiting lost) sound = written waiting lost (writing (missed h).copy miss_outcome p.walk.reply p.memory).all sound
  turn_visited _ (takes qtd_links.End is goes) sound = passes (queue_ends goes is)
  turn_visited _ (takes (qtd_links.To at) is goes) sound = taken at is goes (qtd_at_address p.memory at) refl sound

  event_visited : p.walk.hand ≡ Some (hands.Queue h) → h.copy.settled ≡ None → Visited (step_of p)
  event_visited in_hand fresh = subst Visited (sym (queue_here p h None in_hand fresh)) (turn_visited (turn_of p.walk.index h.copy.queue_head) turn_is)

  -- ---- one that is passed

  either_kept : (b : Bool) → (if b then walks.WriteBack else walks.Fault) ≡ walks.Skip → ⊥
  either_kept true is = cc
  either_kept false is = cc

  fresh_by : (o : Option Outcome) → p.walk.hand ≡ Some (hands.Queue h) → h.copy.settled ≡ o → step_of p ≡ walks.Skip → h.copy.settled ≡ None
  fresh_by None in_hand is skip = is
  fresh_by (Some outcome) in_hand is skip =
      absurd (either_kept (writing h.copy outcome p.walk.reply p.memory).all (sym (queue_here p h (Some outcome) in_hand is) ∙ skip))

  passed_by : (k : HcStep) → QueueVisited p h k → k ≡ steps.Skip → QueueHasNothing p h
  passed_by _ (transacts turn fits) is = absurd cc
  passed_by _ (advances at t goes leads there active) is = absurd cc
  passed_by _ (passes k) is = k
  passed_by _ (misses waiting lost) is = absurd cc

  skip_sound : step_of p ≡ walks.Skip → step_of p ≢ walks.Fault
  skip_sound skip fault = let same : walks.Skip ≡ walks.Fault = sym skip ∙ fault in cc

  pub passed_for_a_reason : p.walk.hand ≡ Some (hands.Queue h) → step_of p ≡ walks.Skip → QueueHasNothing p h
  passed_for_a_reason in_hand skip =
      passed_by (hc_step (step_of p)) (event_visited in_hand (fresh_by h.copy.settled in_hand refl skip) (skip_sound skip)) (ap hc_step skip)

-- ---- each reason passes it

four : (a b c d : Bool) → (c ≡ false) ⊎ (d ≡ false) → (a && (b && (c && d))) ≡ false
four a b c d (inl off) = and_right a _ (and_right b _ (and_left c d off))
four a b c d (inr off) = and_right a _ (and_right b _ (and_right c d off))

module _ (p : FramePlace) (h : HeldQueue) (in_hand : p.walk.hand ≡ Some (hands.Queue h)) (fresh : h.copy.settled ≡ None) where
  abbrev turn_with : Bool → Bool → Bool → Bool → Bool → Bool → QtdLink → Turn
  turn_with waiting lost now may halted active link = if waiting then complete_turn lost now else start_turn (visit_at may halted active link)

  abbrev lost_is : Bool
  lost_is = is_missed p.walk.index h.copy.queue_head

  abbrev now_is : Bool
  now_is = has h.copy.queue_head.cmask (microframe_of p.walk.index)

  abbrev may_is : Bool
  may_is = has h.copy.queue_head.smask (microframe_of p.walk.index)

  abbrev link_is : QtdLink
  link_is = qtd_link_of (next_pointer h.copy.queue_head)

  abbrev halts : Bool
  halts = h.copy.queue_head.token.halted

  abbrev works_on : Bool
  works_on = h.copy.queue_head.token.active

  abbrev TurnsTo : Turn → Type 0
  TurnsTo t = turn_of p.walk.index h.copy.queue_head ≡ t

  not_waiting : (works_on ≡ false) ⊎ (not halts ≡ false) → waits h.copy.queue_head ≡ false
  not_waiting off = four _ _ _ _ off

  started_with : waits h.copy.queue_head ≡ false → TurnsTo (start_turn (visit_at may_is halts works_on link_is))
  started_with none = ap (λ (b : Bool). turn_with b lost_is now_is may_is halts works_on link_is) none

  completed_with : waits h.copy.queue_head ≡ true → TurnsTo (complete_turn lost_is now_is)
  completed_with on = ap (λ (b : Bool). turn_with b lost_is now_is may_is halts works_on link_is) on

  halted_rests : (may active : Bool) (link : QtdLink) → start_turn (visit_at may true active link) ≡ turns.Rest
  halted_rests true active link = refl
  halted_rests false active link = refl

  rests_halted : halts ≡ true → TurnsTo turns.Rest
  rests_halted on =
      started_with (not_waiting (inr (ap not on))) ∙ ap (λ (b : Bool). start_turn (visit_at may_is b works_on link_is)) on ∙ halted_rests may_is works_on link_is

  rests_s : waits h.copy.queue_head ≡ false → may_is ≡ false → TurnsTo turns.Rest
  rests_s none off = started_with none ∙ ap (λ (b : Bool). start_turn (visit_at b halts works_on link_is)) off

  rests_c : waits h.copy.queue_head ≡ true → lost_is ≡ false → now_is ≡ false → TurnsTo turns.Rest
  rests_c on kept off = completed_with on ∙ ap (λ (b : Bool). complete_turn b now_is) kept ∙ ap (λ (b : Bool). complete_turn false b) off

  works_by : (waiting : Bool) → waits h.copy.queue_head ≡ waiting → HasItsTurn p h → TurnsTo turns.Work
  works_by true is turn = completed_with is ∙ ap (λ (b : Bool). complete_turn b now_is) (turn.none_missed is) ∙ ap (λ (b : Bool). complete_turn false b) (turn.completes is)
  works_by false is turn =
      started_with is ∙ ap (λ (b : Bool). start_turn (visit_at b halts works_on link_is)) (turn.starts is)
      ∙ ap (λ (b : Bool). start_turn (visit_at true b works_on link_is)) turn.unhalted ∙ ap (λ (b : Bool). start_turn (visit_at true false b link_is)) turn.active

  takes_by : (link : QtdLink) → link_is ≡ link → GoesToLink p h → TurnsTo (turns.Take link)
  takes_by link is goes =
      started_with (not_waiting (inl goes.done)) ∙ ap (λ (b : Bool). start_turn (visit_at b halts works_on link_is)) goes.in_its_s_mask
      ∙ ap (λ (b : Bool). start_turn (visit_at true b works_on link_is)) goes.unhalted ∙ ap (λ (b : Bool). start_turn (visit_at true false b link_is)) goes.done
      ∙ ap (λ (x : QtdLink). turns.Take x) is

  visited_as : (t : Turn) → TurnsTo t → IsVisited p h t
  visited_as t is = record { in_hand = in_hand; not_settled = fresh; turns = is }

  nothing_of : QueueHasNothing p h → HasNothing p
  nothing_of (is_halted on) = queue_rests (record { held = h; visited = visited_as turns.Rest (rests_halted on) })
  nothing_of (not_in_its_s_mask none off) = queue_rests (record { held = h; visited = visited_as turns.Rest (rests_s none off) })
  nothing_of (not_in_its_c_mask on kept off) = queue_rests (record { held = h; visited = visited_as turns.Rest (rests_c on kept off) })
  nothing_of (has_no_time turn late) =
      queue_is_late (record { held = h; visited = visited_as turns.Work (works_by (waits h.copy.queue_head) refl turn); late = late })
  nothing_of (queue_ends goes is) = its_queue_ends (record { held = h; visited = visited_as (turns.Take qtd_links.End) (takes_by qtd_links.End is goes) })
  nothing_of (qtd_is_done at t goes is there off) =
      its_qtd_is_done (record { held = h; at = at; qtd = t; visited = visited_as (turns.Take (qtd_links.To at)) (takes_by (qtd_links.To at) is goes); stands_there = there; inactive = off })

  pub passed_for_each_reason : QueueHasNothing p h → step_of p ≡ walks.Skip
  passed_for_each_reason k = skips_for_each_reason p (nothing_of k)

-- ---- of a world

kind_is : (w : World) → controller_row w ≡ rows.Frame → kind_next w ≡ hc_step (frame_step (controller_parts w))
kind_is w is = ap (λ (row : ControllerRow). kind_of row (controller_parts w)) is

step_is : (w : World) → controller_row w ≡ rows.Frame → kind_next w ≡ steps.Skip → frame_step (controller_parts w) ≡ walks.Skip
step_is w is skip = skipped (frame_step (controller_parts w)) (sym (kind_is w is) ∙ skip)

-- ---- any structure that is passed

hand_passed : (p : FramePlace) → step_of p ≡ walks.Skip → HasNothing p → HandHasNothing p
hand_passed p skip (queue_rests c) = of_queue c.held c.visited.in_hand (passed_for_a_reason p c.held c.visited.in_hand skip)
hand_passed p skip (queue_is_late c) = of_queue c.held c.visited.in_hand (passed_for_a_reason p c.held c.visited.in_hand skip)
hand_passed p skip (its_queue_ends c) = of_queue c.held c.visited.in_hand (passed_for_a_reason p c.held c.visited.in_hand skip)
hand_passed p skip (its_qtd_is_done c) = of_queue c.held c.visited.in_hand (passed_for_a_reason p c.held c.visited.in_hand skip)
hand_passed p skip (itd_rests c) = of_itd c.held c.going.in_hand (itd_inactive c.inactive)
hand_passed p skip (itd_is_late c) = of_itd c.held c.going.in_hand (itd_has_no_time c.active c.late)
hand_passed p skip (sitd_rests c) =
    of_sitd c.held c.turned.in_hand
    (sitd_resting p c.held c.held.sitd.active (sitd_missed (microframe_of p.walk.index) c.held.sitd)
    (comes (microframe_of p.walk.index) c.held.sitd) refl refl c.turned.turns)
hand_passed p skip (sitd_is_late c) =
    of_sitd c.held c.turned.in_hand
    (sitd_has_no_time
    (sitd_active p c.held c.held.sitd.active (sitd_missed (microframe_of p.walk.index) c.held.sitd)
    (comes (microframe_of p.walk.index) c.held.sitd) c.turned.turns) c.late)

pub worlds_pass_in_frames : WorldsPassInFrames
worlds_pass_in_frames w = record {
  queue = λ h is skip in_hand. passed_for_a_reason (frame_place (controller_parts w)) h in_hand (step_is w is skip);
  each = λ h is in_hand fresh k.
      kind_is w is ∙ ap hc_step (passed_for_each_reason (frame_place (controller_parts w)) h in_hand fresh k);
  any = λ is skip.
      hand_passed (frame_place (controller_parts w)) (step_is w is skip)
      (skips_for_a_reason (frame_place (controller_parts w)) (step_is w is skip));
}

pub visits_in_frames : (w : World) → (controller_row w ≡ rows.Frame → frame_step (controller_parts w) ≢ walks.Fault) → VisitsInFrames w
visits_in_frames w sound = record {
  queue = λ h is in_hand fresh.
      subst (QueueVisited (frame_place (controller_parts w)) h) (sym (kind_is w is))
      (event_visited (frame_place (controller_parts w)) h in_hand fresh (sound is));
  itd = λ h is in_hand going.
      subst (ItdVisited (frame_place (controller_parts w)) h) (sym (kind_is w is))
      (itd_visited (frame_place (controller_parts w)) h in_hand going (sound is));
  sitd = λ h is in_hand fresh.
      subst (SitdVisited (frame_place (controller_parts w)) h) (sym (kind_is w is))
      (sitd_visited (frame_place (controller_parts w)) h in_hand fresh (sound is));
}
