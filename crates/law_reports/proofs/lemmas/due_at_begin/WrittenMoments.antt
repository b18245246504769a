-- Along a run a queue head that waits for its next complete-split after a transaction of the microframe stands in memory as it was written
-- back, and the walk of the frames doesn't come to it again in the microframe (EHCI 1.0, 4.10.3 and 4.12.2.4).
use Rattle.std.proofs.Common.{◌≡◌, ◌≢◌, ℕ, zero, suc, ◌*◌, ◌≤◌, true, List, [], ◌∷◌, slice_get, Option, Some, None, ap, refl, sym}
use Rattle.std.proofs.Common.{subst, ◌∙◌, ⊎_elim, inl, inr, ◌⊎◌}
use Rattle.std.proofs.lemmas.Bool.{cases_eq}
use Rattle.std.proofs.lemmas.Option.{same_Some}
use Rattle.law_common.proofs.Options.{none_some}
use Rattle.law_controller.proofs.Common.{over_not_periodic}
use Rattle.law_microframes.proofs.Common.{in_list}
use Rattle.usb_base.specs.declared.commands.Cmd.{Cmd}
use Rattle.script_types.specs.declared.scripts.Event.TheVariants as events
use Rattle.script_types.specs.declared.scripts.Script.{Script}
use Rattle.script_text.specs.Faults.{Spells}
use Rattle.qh_qtd.specs.declared.queue_head.Qh.{Qh}
use Rattle.qh_qtd.specs.declared.token.Token.{Token}
use Rattle.toggle_error.specs.declared.host.Outcome.{Outcome}
use Rattle.toggle_error.specs.declared.host.Outcome.TheVariants.{Wait}
use Rattle.bandwidth.specs.declared.placements.Placement.{Placement}
use Rattle.bandwidth.specs.Sums.{is_active}
use Rattle.mem_queues.specs.Structures.{queue_head_at_address}
use Rattle.drv_table.specs.declared.content.Endpoint.{Endpoint}
use Rattle.hc_interrupt.specs.Turns.{waits}
use Rattle.periodic_walk.specs.declared.chain.ChainRow.{ChainRow}
use Rattle.periodic_walk.specs.declared.state.Hand.{Hand}
use Rattle.periodic_walk.specs.declared.state.Hand.TheVariants as hands
use Rattle.periodic_walk.specs.declared.state.HeldQueue.{HeldQueue}
use Rattle.periodic_walk.specs.Chain.{chain_row}
use Rattle.periodic_walk.specs.Walk.{held_address}
use Rattle.hc_core.specs.declared.controller.ControllerRow.{ControllerRow}
use Rattle.hc_core.specs.declared.controller.ControllerRow.TheVariants as rows
use Rattle.hc_core.specs.declared.controller.HcStep.{HcStep}
use Rattle.hc_core.specs.declared.controller.HcStep.TheVariants as steps
use Rattle.hc_core.specs.declared.controller.MicroframePart.TheVariants.{Periodic}
use Rattle.hc_core.specs.Controller.{Control, entered, walk_step, HasRow}
use Rattle.bus_wire.specs.Bus.{Fixed, fixed_of}
use Rattle.bus_world.specs.Budgets.{moment}
use Rattle.bus_world.specs.Opening.{opening_world}
use Rattle.bus_world.specs.Orders.{Left, Events, Microframes, Answer, Command, Plugs, OrderedWorld, tick_at, ticks}
use Rattle.bus_world.specs.World.{World, controller_parts, controller_row, controller_next, driver_next, commanded, kind_next}
use Rattle.claims_base.specs.Controller.{Base}
use Rattle.claims_world.specs.Carried.{carried_from, carried_in}
use Rattle.claims_world.specs.Coming.{IsInItsFrames}
use Rattle.claims_world.specs.DueAtBegin.{begun, IsUncancelled}
use Rattle.claims_world.specs.Memory.{IsNone, AreOnce}
use Rattle.claims_world.specs.Owners.{LeavesControllers, is_controllers, KeepsToOwners}
use Rattle.claims_world.specs.QueuesMade.{QueueMade, made_as, made_at, made_after, made_next, queues_made, HasMade}
use Rattle.claims_world.specs.SoFar.{SoFar, so_far}
use Rattle.claims_world.specs.Visits.{began_at, began_by, began, frame_in, fetched_by, visited_too, visits_at, visits_after}
use Rattle.claims_world.specs.Visits.{visits_next, visited, HasVisited}
use Rattle.law_world.specs.memory.Mixed.{IsMixedWorld}
use Rattle.law_world.specs.steps.Streaming.{begins_by, transacts_by, wired}
use Rattle.law_world.proofs.lemmas.memory.Carrying.{carried_then}
use Rattle.law_world.proofs.lemmas.memory.LetGo.{moment_then}
use Rattle.law_world.proofs.lemmas.steps.StreamTurning.{world_has_row}
use Rattle.law_microframes.specs.visits.Belonging.{HeadsHaveFields}
use Rattle.law_microframes.proofs.lemmas.due.Aside.{IsAside}
use Rattle.law_microframes.proofs.lemmas.due.Turning.{in_periodic}
use Rattle.law_microframes.proofs.lemmas.visits.NoneLeftWalking.{index_stays}
use Rattle.law_microframes.proofs.lemmas.visits.ReasonParts.{command_control, command_bus}
use Rattle.law_microframes.proofs.lemmas.visits.VisitsKept.{texts_visit_each_once}
use Rattle.law_reports.specs.due_at_begin.SplitsFollow.{IsOutOfHand}
use Rattle.law_reports.specs.pipes.Declared.{Sides, sides_of}
use Rattle.law_reports.proofs.lemmas.due_at_begin.Aside.{aside_work}
use Rattle.law_reports.proofs.lemmas.due_at_begin.EventLeaves.{event_reads}
use Rattle.law_reports.proofs.lemmas.due_at_begin.InFrames.{IsStillIn, driver_uncancelled, driver_in_frames, command_uncancelled}
use Rattle.law_reports.proofs.lemmas.due_at_begin.InFrames.{command_in_frames}
use Rattle.law_reports.proofs.lemmas.due_at_begin.Moments.{IsKnown, known_at, mixed_then, heads_then_at, owned_at}
use Rattle.law_reports.proofs.lemmas.due_at_begin.Resting.{StandsAs, work_of, stands_of, never_idle, not_periodic}
use Rattle.law_reports.proofs.lemmas.due_at_begin.SplitTurns.{itself_as_due, waits_same, waiting_split}
use Rattle.law_reports.proofs.lemmas.due_at_begin.Stages.{begins_walk}
use Rattle.law_reports.proofs.lemmas.due_at_begin.Walked.{apart_then}
use Rattle.law_reports.proofs.lemmas.due_at_begin.Written.{GoesOnAs, written_stands}

-- ---- what was visited

seen_too : (o : Option ℕ) (n : ℕ) (vs : List ℕ) → HasVisited n vs → HasVisited n (visited_too o vs)
seen_too None n vs was = was
seen_too (Some a) n vs was = inr was

seen_more : (hand : Option Hand) (row : ChainRow) (n : ℕ) (vs : List ℕ) → HasVisited n vs → HasVisited n (visits_at hand row vs)
seen_more None row n vs was = seen_too (fetched_by row) n vs was
seen_more (Some h) row n vs was = was

new_seen : (hand : Option Hand) (row : ChainRow) (n : ℕ) (vs : List ℕ) → hand ≡ None → fetched_by row ≡ Some n
    → visits_at hand row vs ≡ n ∷ vs
new_seen hand row n vs none is =
    ap (λ (h : Option Hand). visits_at h row vs) none ∙ ap (λ (o : Option ℕ). visited_too o vs) is

none_visited : (n : ℕ) (vs : List ℕ) → IsNone n vs → HasVisited n vs → ⊥
none_visited n [] none was = was
none_visited n (v ∷ vs) none (inl same) = none.0 same
none_visited n (v ∷ vs) none (inr was) = none_visited n vs none.1 was

-- ---- what is carried

-- a transaction of the queue head at n, after which it is x, and waits
pub record LeavesWaiting (n : ℕ) (x : Qh) (m : QueueMade) : Type 0 where
  pub at : m.at ≡ n
  pub queue : m.queue ≡ x
  pub waiting : waits x ≡ true
  pub wait : m.outcome ≡ Wait

pub record HasLeft (w : World) (n : ℕ) (x : Qh) (vs : List ℕ) : Type 0 where
  pub queue : Qh
  pub read : queue_head_at_address w.memory n ≡ Some queue
  pub waiting : waits x ≡ true
  pub goes : GoesOnAs x queue
  pub out : IsOutOfHand w n
  pub seen : HasVisited n vs

pub record IsSince (b w : World) (ms : List QueueMade) (vs : List ℕ) (e q : ℕ) (p : Placement) : Type 0 where
  pub frames : IsInItsFrames w.driver e q p
  pub same : (y : Endpoint) → slice_get b.driver.endpoints e ≡ Some y → frames.endpoint.desc ≡ y.desc
  pub index : w.control.frame.index ≡ b.control.frame.index
  pub seen : w.control.part ≡ Periodic → held_address w.control.frame.hand ≡ Some (32 * q) → HasVisited (32 * q) vs
  pub left : (x : Qh) → HasMade (LeavesWaiting (32 * q) x) ms → HasLeft w (32 * q) x vs

abbrev pub AreSince : Fixed → World → World → List QueueMade → List ℕ → Type 0
AreSince fixed b w ms vs =
    (e q : ℕ) (p : Placement) → IsInItsFrames (controller_next fixed b).driver e q p
    → is_active p (frame_in (controller_next fixed b).control.frame.index) ≡ true → IsUncancelled w.driver e
    → IsSince (controller_next fixed b) w ms vs e q p

-- ---- an event of the walk of the frames

module _ (fixed : Fixed) (x : Sides) (b w : World) (t : SoFar) (k : IsKnown fixed x b w t) where
  abbrev new : World
  new = controller_next fixed w

  index_on : controller_row w ≢ rows.Begin → (controller_next fixed w).control.frame.index ≡ w.control.frame.index
  index_on other =
      index_stays begins_by transacts_by (controller_parts w) (wired fixed w) (controller_parts new) (wired fixed new) (controller_row w)
      other
      (world_has_row fixed w)

  module _ (row : controller_row w ≡ rows.Frame) (ms : List QueueMade) (vs : List ℕ) (start : World) (e q : ℕ) (p : Placement)
      (o : IsSince start w ms vs e q p)
      (once : AreOnce (visits_at w.control.frame.hand (chain_row w.memory w.control.frame.cursor) vs)) where
    abbrev chain : ChainRow
    chain = chain_row w.memory w.control.frame.cursor

    abbrev seen_now : List ℕ
    seen_now = visits_at w.control.frame.hand (chain_row w.memory w.control.frame.cursor) vs

    -- it was in hand, or it is fetched
    abbrev Came : Type 0
    Came = (held_address w.control.frame.hand ≡ Some (32 * q))
        ⊎ ((w.control.frame.hand ≡ None) × (fetched_by (chain_row w.memory w.control.frame.cursor) ≡ Some (32 * q)))

    module _ (is : held_address (controller_next fixed w).control.frame.hand ≡ Some (32 * q)) where
      never_apart : ((a : ℕ) → held_address w.control.frame.hand ≡ Some a → 32 * q ≢ a)
          → (w.control.frame.hand ≡ None → fetched_by (chain_row w.memory w.control.frame.cursor) ≡ Some (32 * q) → ⊥) → Came
      never_apart apart off =
          let g = k.followed in
          absurd (apart_then fixed x g.standing g.lines g.heads w g.followed.piped k.heads k.sends row e q p o.frames apart off (32 * q)
          is refl)

      some_none : (h : Hand) → ◌≡◌ {A = Option Hand} (Some h) None → ⊥
      some_none h same = cc

      by_fetch : w.control.frame.hand ≡ None → (c : Option ℕ) → fetched_by (chain_row w.memory w.control.frame.cursor) ≡ c → Came
      by_fetch none None fetched =
          never_apart (λ a held. absurd (none_some a (sym (ap held_address none) ∙ held)))
          (λ hand named. none_some (32 * q) (sym fetched ∙ named))
      by_fetch none (Some a) fetched =
          ⊎_elim {C = Came}
          (λ (here : a ≡ 32 * q). inr (none, fetched ∙ ap Some here))
          (λ (off : a ≢ 32 * q).
          never_apart (λ c held. absurd (none_some c (sym (ap held_address none) ∙ held)))
          (λ hand named. off (same_Some a (32 * q) (sym fetched ∙ named))))
          (cases_eq a (32 * q))

      by_address : (h : Hand) → w.control.frame.hand ≡ Some h → (c : Option ℕ) → held_address w.control.frame.hand ≡ c → Came
      by_address h held None at =
          never_apart (λ a there. absurd (none_some a (sym at ∙ there))) (λ none named. some_none h (sym held ∙ none))
      by_address h held (Some a) at =
          ⊎_elim {C = Came}
          (λ (here : a ≡ 32 * q). inl (at ∙ ap Some here))
          (λ (off : a ≢ 32 * q).
          never_apart (λ c there same. off (same_Some a c (sym at ∙ there) ∙ sym same)) (λ none named. some_none h (sym held ∙ none)))
          (cases_eq a (32 * q))

      by_hand : (hand : Option Hand) → w.control.frame.hand ≡ hand → Came
      by_hand None none = by_fetch none (fetched_by (chain_row w.memory w.control.frame.cursor)) refl
      by_hand (Some h) held = by_address h held (held_address w.control.frame.hand) refl

      came : Came
      came = by_hand w.control.frame.hand refl

    seen_then : held_address (controller_next fixed w).control.frame.hand ≡ Some (32 * q)
        → HasVisited (32 * q) (visits_at w.control.frame.hand (chain_row w.memory w.control.frame.cursor) vs)
    seen_then is =
        ⊎_elim {C = HasVisited (32 * q) seen_now}
        (λ (was : held_address w.control.frame.hand ≡ Some (32 * q)).
        seen_more w.control.frame.hand chain (32 * q) vs (o.seen (in_periodic fixed w row) was))
        (λ (f : (w.control.frame.hand ≡ None) × (fetched_by (chain_row w.memory w.control.frame.cursor) ≡ Some (32 * q))).
        subst (HasVisited (32 * q)) (sym (new_seen w.control.frame.hand chain (32 * q) vs f.0 f.1)) (inl refl))
        (came is)

    keeps : (z : Qh) → HasLeft w (32 * q) z vs
        → HasLeft (controller_next fixed w) (32 * q) z (visits_at w.control.frame.hand (chain_row w.memory w.control.frame.cursor) vs)
    keeps z l = record {
      queue = l.queue;
      read = event_reads fixed w k.mixed e q p o.frames (λ a on is same. l.out on (is ∙ ap Some (sym same))) l.queue l.read;
      waiting = l.waiting;
      goes = l.goes;
      out = λ on is.
          ⊎_elim {C = ⊥}
          (λ (was : held_address w.control.frame.hand ≡ Some (32 * q)). l.out (in_periodic fixed w row) was)
          (λ (f : (w.control.frame.hand ≡ None) × (fetched_by (chain_row w.memory w.control.frame.cursor) ≡ Some (32 * q))).
          let both : AreOnce (32 * q ∷ vs) = subst AreOnce (new_seen w.control.frame.hand chain (32 * q) vs f.0 f.1) once in
          none_visited (32 * q) vs both.0 l.seen)
          (came is);
      seen = seen_more w.control.frame.hand chain (32 * q) vs l.seen;
    }

    module _ (y : Qh) where
      abbrev Then : Type 0
      Then = HasLeft (controller_next fixed w) (32 * q) y
          (visits_at w.control.frame.hand (chain_row w.memory w.control.frame.cursor) vs)

      written : (h : HeldQueue) → w.control.frame.hand ≡ Some (hands.Queue h) → (outcome : Outcome) → h.copy.settled ≡ Some outcome
          → LeavesWaiting (32 * q) y
          (record { at = h.copy.at; queue = h.copy.queue_head; heard = w.control.frame.reply; outcome = outcome }) → Then
      written h is outcome settled m =
          let g = k.followed in
          let z = written_stands fixed x g.standing g.lines g.heads w g.followed.piped k.heads k.sends row h is outcome settled in
          record {
            queue = z.stands.queue;
            read = ap (queue_head_at_address new.memory) (sym m.at) ∙ z.stands.read;
            waiting = m.waiting;
            goes = subst (λ (u : Qh). GoesOnAs u z.stands.queue) m.queue z.stands.goes;
            out = λ on there. none_some (32 * q) (sym (ap held_address (z.over m.wait)) ∙ there);
            seen = seen_more w.control.frame.hand chain (32 * q) vs
                (o.seen (in_periodic fixed w row) (ap held_address is ∙ ap Some m.at));
          }

      by_settled : (h : HeldQueue) → w.control.frame.hand ≡ Some (hands.Queue h) → (s : Option Outcome) → h.copy.settled ≡ s
          → HasMade (LeavesWaiting (32 * q) y) (made_as s h.copy.at h.copy.queue_head w.control.frame.reply ms) → Then
      by_settled h is None settled m = keeps y (o.left y m)
      by_settled h is (Some outcome) settled (inl m) = written h is outcome settled m
      by_settled h is (Some outcome) settled (inr m) = keeps y (o.left y m)

      by_made : (hand : Option Hand) → w.control.frame.hand ≡ hand → (step : HcStep)
          → HasMade (LeavesWaiting (32 * q) y) (made_at hand w.control.frame.reply step ms) → Then
      by_made (Some (hands.Queue h)) is steps.WriteBack m = by_settled h is h.copy.settled refl m
      by_made _ is _ m = keeps y (o.left y m)

    pub frame_since : IsSince start (controller_next fixed w) (made_at w.control.frame.hand w.control.frame.reply (kind_next w) ms)
        (visits_at w.control.frame.hand (chain_row w.memory w.control.frame.cursor) vs) e q p
    frame_since = record {
      frames = o.frames;
      same = o.same;
      index = index_on (λ is. let never : rows.Frame ≡ rows.Begin = sym row ∙ is in cc never) ∙ o.index;
      seen = λ on is. seen_then is;
      left = λ y m. by_made y w.control.frame.hand refl (kind_next w) m;
    }

  -- ---- another event of the controller

  pub part_then : (r : ControllerRow) → controller_row w ≡ r
      → HasRow begins_by transacts_by r (controller_parts w) (wired fixed w) (controller_parts (controller_next fixed w))
      (wired fixed (controller_next fixed w)) → r ≢ rows.Frame → r ≢ rows.Begin → (controller_next fixed w).control.part ≢ Periodic
  part_then rows.Begin is has other off on = off refl
  part_then rows.Frame is has other off on = other refl
  part_then rows.Idle is has other off on =
      never_idle w.registers.run w.registers w.control.frame w.control.part
      (ap (λ (u : Base). u.run) k.mixed.mixed.now.framed.runs.ring.registers) is
  part_then rows.Enter is has other off on = not_periodic (walk_step (entered (controller_parts w))) (sym has.part ∙ on)
  part_then rows.Go is has other off on = not_periodic (walk_step (controller_parts w)) (sym has.part ∙ on)
  part_then rows.End is has other off on = over_not_periodic (sym (ap (λ u. u.control.part) has.0) ∙ on)

  past_since : controller_row w ≢ rows.Frame → controller_row w ≢ rows.Begin → (ms : List QueueMade) (vs : List ℕ) (start : World)
      (e q : ℕ) (p : Placement) → IsSince start w ms vs e q p → IsSince start (controller_next fixed w) ms vs e q p
  past_since off_frames off_begin ms vs start e q p o =
      let over = part_then (controller_row w) refl (world_has_row fixed w) off_frames off_begin in
      record {
        frames = o.frames;
        same = o.same;
        index = index_on off_begin ∙ o.index;
        seen = λ on is. absurd (over on);
        left = λ y m. let l = o.left y m in record {
          queue = l.queue;
          read = event_reads fixed w k.mixed e q p o.frames (λ a on is same. l.out on (is ∙ ap Some (sym same))) l.queue l.read;
          waiting = l.waiting;
          goes = l.goes;
          out = λ on is. over on;
          seen = l.seen;
        };
      }

  -- ---- of all

  module _ (ms : List QueueMade) (vs : List ℕ) (all : AreSince fixed b w ms vs) where
    begins_since : controller_row w ≡ rows.Begin → IsMixedWorld (controller_next fixed w) → AreSince fixed w (controller_next fixed w) [] []
    begins_since row l e q p i active off = record {
      frames = i;
      same = λ y here. ap (λ (z : Endpoint). z.desc) (same_Some i.endpoint y (sym i.here ∙ here));
      index = refl;
      seen = λ on is. absurd (none_some (32 * q) (sym (ap held_address (begins_walk fixed w row l).nothing) ∙ is));
      left = λ y m. absurd m;
    }

    by_row : (r : ControllerRow) → controller_row w ≡ r → IsMixedWorld (controller_next fixed w)
        → AreOnce (visits_after r (controller_parts w) vs)
        → AreSince fixed (began_at r w b) (controller_next fixed w) (made_after r w ms) (visits_after r (controller_parts w) vs)
    by_row rows.Begin is l once = begins_since is l
    by_row rows.Frame is l once = λ e q p i active off.
        frame_since is ms vs (controller_next fixed b) e q p (all e q p i active off) once
    by_row rows.Idle is l once = λ e q p i active off.
        past_since (λ row. let never : rows.Idle ≡ rows.Frame = sym is ∙ row in cc never)
        (λ row. let never : rows.Idle ≡ rows.Begin = sym is ∙ row in cc never) ms vs (controller_next fixed b) e q p
        (all e q p i active off)
    by_row rows.Enter is l once = λ e q p i active off.
        past_since (λ row. let never : rows.Enter ≡ rows.Frame = sym is ∙ row in cc never)
        (λ row. let never : rows.Enter ≡ rows.Begin = sym is ∙ row in cc never) ms vs (controller_next fixed b) e q p
        (all e q p i active off)
    by_row rows.Go is l once = λ e q p i active off.
        past_since (λ row. let never : rows.Go ≡ rows.Frame = sym is ∙ row in cc never)
        (λ row. let never : rows.Go ≡ rows.Begin = sym is ∙ row in cc never) ms vs (controller_next fixed b) e q p
        (all e q p i active off)
    by_row rows.End is l once = λ e q p i active off.
        past_since (λ row. let never : rows.End ≡ rows.Frame = sym is ∙ row in cc never)
        (λ row. let never : rows.End ≡ rows.Begin = sym is ∙ row in cc never) ms vs (controller_next fixed b) e q p
        (all e q p i active off)

    by_controller : IsMixedWorld (controller_next fixed w) → AreOnce (visits_next fixed w vs)
        → AreSince fixed (began_by fixed w b) (controller_next fixed w) (made_next fixed w ms) (visits_next fixed w vs)
    by_controller l once = by_row (controller_row w) refl l once

    -- ---- the driver

    module _ (later : World) (l : IsMixedWorld later) (heads_then : HeadsHaveFields later.driver later.memory) (aside : IsAside w later)
        (back : (e : ℕ) → IsUncancelled later.driver e → IsUncancelled w.driver e)
        (still : (e q : ℕ) (p : Placement) (i : IsInItsFrames w.driver e q p) → IsUncancelled later.driver e
        → IsStillIn later e q p i.endpoint.desc) where
      left_aside : (e q f : ℕ) (p : Placement) (i : IsInItsFrames w.driver e q p) (j : IsInItsFrames later.driver e q p)
          → j.endpoint.desc ≡ i.endpoint.desc → is_active p (frame_in f) ≡ true → (z : Qh) → HasLeft w (32 * q) z vs
          → HasLeft later (32 * q) z vs
      left_aside e q f p i j same active z h =
          let had : StandsAs w.memory (32 * q) h.queue = record { queue = h.queue; read = h.read; due = itself_as_due h.queue } in
          let has : StandsAs later.memory (32 * q) h.queue = stands_of later.memory (32 * q) h.queue
          (aside_work fixed w later k.mixed l aside k.heads heads_then e q p i j same (frame_in f) (in_list f) active h.queue true
          (work_of w.memory (32 * q) h.queue (waiting_split h.queue (h.goes.waiting ∙ h.waiting)).work had)) in
          record {
            queue = has.queue;
            read = has.read;
            waiting = h.waiting;
            goes = record {
              waiting = waits_same h.queue has.queue has.due ∙ h.goes.waiting;
              smask = has.due.smask ∙ h.goes.smask;
              cmask = has.due.cmask ∙ h.goes.cmask;
              progress = has.due.progress ∙ h.goes.progress;
              tag = has.due.tag ∙ h.goes.tag;
              far = record {
                toggle = ap (λ (t : Token). t.toggle) has.due.token ∙ h.goes.far.toggle;
                left = ap (λ (t : Token). t.total) has.due.token ∙ h.goes.far.left;
              };
            };
            out = λ on is.
                h.out (ap (λ (c : Control). c.part) (sym aside.control) ∙ on)
                (ap (λ (c : Control). held_address c.frame.hand) (sym aside.control) ∙ is);
            seen = h.seen;
          }

      aside_since : AreSince fixed b later ms vs
      aside_since e q p i active off =
          let o = all e q p i active (back e off) in
          let s = still e q p o.frames off in
          record {
            frames = s.frames;
            same = λ y here. s.same ∙ o.same y here;
            index = ap (λ (c : Control). c.frame.index) aside.control ∙ o.index;
            seen = λ on is.
                o.seen (ap (λ (c : Control). c.part) (sym aside.control) ∙ on)
                (ap (λ (c : Control). held_address c.frame.hand) (sym aside.control) ∙ is);
            left = λ z m.
                left_aside e q (controller_next fixed b).control.frame.index p o.frames s.frames s.same active z (o.left z m);
          }

    by_driver : IsMixedWorld (driver_next w) → HeadsHaveFields (driver_next w).driver (driver_next w).memory
        → LeavesControllers (controller_parts w) (driver_next w).memory → AreSince fixed b (driver_next w) ms vs
    by_driver l heads_then leaves =
        aside_since (driver_next w) l heads_then (record { control = refl; bus = refl; leaves = leaves })
        (λ e off. driver_uncancelled w e off)
        (λ e q p i off. driver_in_frames w k.mixed e q p l i off)

    by_command : (n : ℕ) (cmd : Cmd) → IsMixedWorld (commanded w n cmd)
        → HeadsHaveFields (commanded w n cmd).driver (commanded w n cmd).memory
        → LeavesControllers (controller_parts w) (commanded w n cmd).memory → AreSince fixed b (commanded w n cmd) ms vs
    by_command n cmd l heads_then leaves =
        aside_since (commanded w n cmd) l heads_then
        (record { control = command_control w n cmd; bus = command_bus w n cmd; leaves = leaves })
        (λ e off. command_uncancelled w n cmd e off)
        (λ e q p i off. command_in_frames w k.mixed n cmd e q p l i off)

    pub since_then : (orders : List Left) → IsMixedWorld (tick_at fixed w orders).world
        → HeadsHaveFields (tick_at fixed w orders).world.driver (tick_at fixed w orders).world.memory
        → KeepsToOwners (is_controllers orders) (controller_parts w) (tick_at fixed w orders).world.memory
        → AreOnce (carried_in visits_next fixed w orders vs)
        → AreSince fixed (carried_in began_by fixed w orders b) (tick_at fixed w orders).world (carried_in made_next fixed w orders ms)
        (carried_in visits_next fixed w orders vs)
    since_then [] l heads_then owns once = all
    since_then (Events event zero ∷ rest) l heads_then owns once = all
    since_then (Events events.C (suc n) ∷ rest) l heads_then owns once = by_controller l once
    since_then (Events events.D (suc n) ∷ rest) l heads_then owns once = by_driver l heads_then owns
    since_then (Microframes zero ∷ rest) l heads_then owns once = all
    since_then (Microframes (suc n) ∷ rest) l heads_then owns once = by_controller l once
    since_then (Answer ended n ∷ rest) l heads_then owns once = by_driver l heads_then owns
    since_then (Command n cmd ∷ rest) l heads_then owns once = by_command n cmd l heads_then owns
    since_then (Plugs there port ∷ rest) l heads_then owns once = all

-- ---- a run

module _ (text : List ℕ) (s : Script) (spelled : Spells text s) where
  abbrev then_world : ℕ → World
  then_world k = (tick_at (fixed_of s) (moment s k).world (moment s k).orders).world

  pub since_at : (k : ℕ) → AreSince (fixed_of s) (began s k) (moment s k).world (queues_made s k) (visited s k)
  unfolding ticks carried_from
  since_at zero = λ e q p i active off. absurd (cc i.here)
  since_at (suc k) =
      subst (λ (o : OrderedWorld). AreSince (fixed_of s) (began s (suc k)) o.world (queues_made s (suc k)) (visited s (suc k)))
      (sym (moment_then s k))
      (subst (λ (ms : List QueueMade). AreSince (fixed_of s) (began s (suc k)) (then_world k) ms (visited s (suc k)))
      (sym (carried_then made_next s [] k))
      (subst (λ (vs : List ℕ). AreSince (fixed_of s) (began s (suc k)) (then_world k)
      (carried_in made_next (fixed_of s) (moment s k).world (moment s k).orders (queues_made s k)) vs)
      (sym (carried_then visits_next s [] k))
      (subst (λ (b : World). AreSince (fixed_of s) b (then_world k)
      (carried_in made_next (fixed_of s) (moment s k).world (moment s k).orders (queues_made s k))
      (carried_in visits_next (fixed_of s) (moment s k).world (moment s k).orders (visited s k)))
      (sym (carried_then began_by s (opening_world s) k))
      (since_then (fixed_of s) (sides_of s) (began s k) (moment s k).world (so_far s k) (known_at text s spelled k) (queues_made s k)
      (visited s k) (since_at k) (moment s k).orders (mixed_then text s spelled k) (heads_then_at text s spelled k)
      (owned_at text s spelled k) (subst AreOnce (carried_then visits_next s [] k) (texts_visit_each_once text s spelled (suc k)).once)))))
