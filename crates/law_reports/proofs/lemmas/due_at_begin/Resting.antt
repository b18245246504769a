-- A queue head of the frames that waits for its complete-splits stands as it did while none of them comes, event by event (EHCI 1.0, 4.10
-- and 4.12.2.4).
use Rattle.std.proofs.Common.{◌≡◌, ◌≢◌, ℕ, ◌*◌, ◌<◌, Bool, true, false, if◌then◌else◌, Option, Some, None, ap, refl}
use Rattle.std.proofs.Common.{sym, subst, ◌∙◌, ⊎_elim}
use Rattle.std.specs.Prelude.{◌&&◌, not}
use Rattle.std.proofs.lemmas.Bool.{cases_eq, false≢true}
use Rattle.std.proofs.lemmas.Option.{same_Some}
use Rattle.law_common.proofs.Options.{none_some}
use Rattle.law_controller.proofs.Common.{over_not_periodic, asynchronous_not_periodic}
use Rattle.law_microframes.proofs.Common.{frame_row}
use Rattle.word_mem.specs.Memory.{Mem}
use Rattle.qh_qtd.specs.declared.queue_head.Qh.{Qh}
use Rattle.toggle_error.specs.declared.host.Outcome.{Outcome}
use Rattle.bandwidth.specs.declared.placements.Placement.{Placement}
use Rattle.bandwidth.specs.Sums.{is_active}
use Rattle.mem_queues.specs.Structures.{queue_head_at_address}
use Rattle.hc_interrupt.specs.declared.turns.Turn.{Turn}
use Rattle.hc_interrupt.specs.declared.turns.Turn.TheVariants as turns
use Rattle.hc_interrupt.specs.Turns.{turn_of}
use Rattle.async_walk.specs.declared.state.WalkStep.{WalkStep}
use Rattle.async_walk.specs.declared.state.WalkStep.TheVariants as walks
use Rattle.periodic_walk.specs.declared.state.Hand.{Hand}
use Rattle.periodic_walk.specs.declared.state.Hand.TheVariants as hands
use Rattle.periodic_walk.specs.declared.state.HeldQueue.{HeldQueue}
use Rattle.periodic_walk.specs.Chain.{chain_row}
use Rattle.periodic_walk.specs.Place.{FramePlace, Effect, passing, reading}
use Rattle.periodic_walk.specs.Place.Effect.{Leaves}
use Rattle.periodic_walk.specs.Queue.{settled_row, settled_read, turn_row, turn_read, queue_effect}
use Rattle.periodic_walk.specs.Rows.{effect_at, effect_of}
use Rattle.periodic_walk.specs.Walk.{Walk, held_address, is_over}
use Rattle.hc_core.specs.declared.controller.ControllerRow.{ControllerRow}
use Rattle.hc_core.specs.declared.controller.ControllerRow.TheVariants as rows
use Rattle.hc_core.specs.declared.controller.MicroframePart.{MicroframePart}
use Rattle.hc_core.specs.declared.controller.MicroframePart.TheVariants.{Over, Periodic, Asynchronous}
use Rattle.hc_core.specs.Controller.{Control, part_after, enter_row, ring_row, part_row, entered, walk_step, frame_place, HasRow}
use Rattle.op_registers.specs.RegisterFile.{RegisterFile}
use Rattle.claims_base.specs.Controller.{Base}
use Rattle.bus_wire.specs.Bus.{Fixed}
use Rattle.bus_world.specs.World.{World, FrameWalked, frame_by, framed, controller_parts, with_turned, controller_row, controller_next}
use Rattle.claims_world.specs.Coming.{IsInItsFrames}
use Rattle.claims_world.specs.Due.{IsActiveToken, ComesTo, goes_on, takes}
use Rattle.claims_world.specs.SoFar.{SoFar}
use Rattle.claims_world.specs.Visits.{fetched_by}
use Rattle.law_world.specs.steps.Streaming.{begins_by, transacts_by, wired}
use Rattle.law_world.specs.memory.Mixed.{IsMixedWorld}
use Rattle.law_world.proofs.lemmas.steps.StreamTurning.{world_has_row}
use Rattle.law_microframes.specs.visits.Belonging.{HeadsHaveFields}
use Rattle.law_microframes.proofs.lemmas.due.Aside.{IsAside}
use Rattle.law_microframes.proofs.lemmas.due.Fetched.{HasFetched, has_fetched}
use Rattle.law_microframes.proofs.lemmas.due.FetchedKinds.{fetched_queue}
use Rattle.law_microframes.proofs.lemmas.due.Turning.{in_periodic, walked_to}
use Rattle.law_reports.specs.pipes.Declared.{Sides}
use Rattle.law_reports.proofs.lemmas.due_at_begin.Ahead.{HasWork}
use Rattle.law_reports.proofs.lemmas.due_at_begin.Aside.{aside_work}
use Rattle.law_reports.proofs.lemmas.due_at_begin.EventLeaves.{event_reads}
use Rattle.law_reports.proofs.lemmas.due_at_begin.Moments.{IsKnown}
use Rattle.law_reports.proofs.lemmas.due_at_begin.SplitTurns.{IsAsDue, same_turn}
use Rattle.law_reports.proofs.lemmas.due_at_begin.Stages.{begins_walk}
use Rattle.law_reports.proofs.lemmas.due_at_begin.Walked.{apart_then}

-- ---- the queue head in memory

pub record StandsAs (m : Mem) (n : ℕ) (v : Qh) : Type 0 where
  pub queue : Qh
  pub read : queue_head_at_address m n ≡ Some queue
  pub due : IsAsDue v queue

active_as : (v q : Qh) → IsAsDue v q → IsActiveToken v.token → IsActiveToken q.token
active_as v q k work = record {
  active = ap (λ t. t.active) k.token ∙ work.active;
  unhalted = ap (λ t. t.halted) k.token ∙ work.unhalted;
}

itself : (m : Mem) (q x : Qh) → ComesTo m q x → q.token.active ≡ true → x ≡ q
itself m q _ (goes_on work) on = refl
itself m q _ (takes a t idle unhalted leads here work) on = absurd (false≢true (sym idle ∙ on))

pub work_of : (m : Mem) (n : ℕ) (v : Qh) → IsActiveToken v.token → StandsAs m n v → HasWork m n v true
work_of m n v work x = record {
  queue = x.queue;
  read = x.read;
  works = x.queue;
  next = goes_on (active_as v x.queue x.due work);
  due = x.due;
  overlay = (active_as v x.queue x.due work).active;
}

pub stands_of : (m : Mem) (n : ℕ) (v : Qh) → HasWork m n v true → StandsAs m n v
stands_of m n v y = record {
  queue = y.queue;
  read = y.read;
  due = subst (IsAsDue v) (itself m y.queue y.works y.next y.overlay) y.due;
}

-- ---- it rests

pub record IsCopied (w : World) (n : ℕ) (v : Qh) : Type 0 where
  pub periodic : w.control.part ≡ Periodic
  pub held : HeldQueue
  pub hand : w.control.frame.hand ≡ Some (hands.Queue held)
  pub at : held.copy.at ≡ n
  pub fresh : held.copy.settled ≡ None
  pub due : IsAsDue v held.copy.queue_head

pub data HandRests (w : World) (n : ℕ) (v : Qh) : Type 0 where
  is_apart : ((a : ℕ) → w.control.part ≡ Periodic → held_address w.control.frame.hand ≡ Some a → n ≢ a) → HandRests w n v
  is_copied : IsCopied w n v → HandRests w n v

pub record IsResting (w : World) (e q : ℕ) (p : Placement) (v : Qh) : Type 0 where
  pub frames : IsInItsFrames w.driver e q p
  pub stands : StandsAs w.memory (32 * q) v
  pub hand : HandRests w (32 * q) v

pub none_apart : (w : World) (n : ℕ) → w.control.frame.hand ≡ None → (a : ℕ) → w.control.part ≡ Periodic
    → held_address w.control.frame.hand ≡ Some a → n ≢ a
none_apart w n none a on is = absurd (none_some a (sym (ap held_address none) ∙ is))

-- ---- an event of the controller

pub not_periodic : (step : WalkStep) → part_after Asynchronous step ≢ Periodic
not_periodic walks.Fetch is = asynchronous_not_periodic is
not_periodic walks.Advance is = asynchronous_not_periodic is
not_periodic walks.Transact is = asynchronous_not_periodic is
not_periodic walks.WriteBack is = asynchronous_not_periodic is
not_periodic walks.Skip is = asynchronous_not_periodic is
not_periodic walks.Ended is = over_not_periodic is
not_periodic walks.Fault is = over_not_periodic is

enter_idle : (b : Bool) → enter_row b ≡ rows.Idle → ⊥
enter_idle true is = cc
enter_idle false is = cc

ring_idle : (b : Bool) → ring_row b ≡ rows.Idle → ⊥
ring_idle true is = cc
ring_idle false is = cc

frame_idle : (goes b : Bool) → (if goes then rows.Frame else enter_row b) ≡ rows.Idle → ⊥
frame_idle true b is = cc
frame_idle false b is = enter_idle b is

part_idle : (r : RegisterFile) (f : Walk) (part : MicroframePart) → part_row r f part ≡ rows.Idle → ⊥
part_idle r f Over is = cc
part_idle r f Periodic is = frame_idle (r.periodic_enable && not (is_over f)) r.async_enable is
part_idle r f Asynchronous is = ring_idle r.async_enable is

pub never_idle : (run : Bool) (r : RegisterFile) (f : Walk) (part : MicroframePart) → run ≡ true
    → (if run then part_row r f part else rows.Idle) ≡ rows.Idle → ⊥
never_idle true r f part on is = part_idle r f part is
never_idle false r f part on is = false≢true on

module _ (fixed : Fixed) (x : Sides) (b w : World) (t : SoFar) (k : IsKnown fixed x b w t) (l : IsMixedWorld (controller_next fixed w))
    (e q : ℕ) (p : Placement) (v : Qh) (work : IsActiveToken v.token)
    (rests : w.control.part ≡ Periodic → held_address w.control.frame.hand ≡ Some (32 * q) → turn_of w.control.frame.index v ≡ turns.Rest)
  where
    abbrev new : World
    new = controller_next fixed w

    -- at its copy there is nothing to do
    module _ (c : IsCopied w (32 * q) v) where
      abbrev place : FramePlace
      place = frame_place (controller_parts w)

      abbrev z : Qh
      z = c.held.copy.queue_head

      row : controller_row w ≡ rows.Frame
      row = frame_row w (hands.Queue c.held) k.mixed c.periodic c.hand

      turn : turn_of w.control.frame.index c.held.copy.queue_head ≡ turns.Rest
      turn = same_turn w.control.frame.index v z c.due (active_as v z c.due work) work
          ∙ rests c.periodic (ap held_address c.hand ∙ ap Some c.at)

      effect_here : (o : Option Outcome) → c.held.copy.settled ≡ o → effect_of (frame_place (controller_parts w))
          ≡ queue_effect
          (settled_row w.memory w.control.frame.left w.control.frame.index c.held.copy.queue_head o) c.held
          (reading (settled_read w.memory w.control.frame.index c.held.copy.queue_head o) (frame_place (controller_parts w)))
      effect_here o settled =
          ap (effect_at place) c.hand
          ∙ ap (λ (u : Option Outcome). queue_effect (settled_row w.memory w.control.frame.left w.control.frame.index z u) c.held
          (reading (settled_read w.memory w.control.frame.index z u) place)) settled

      passes_on : effect_of (frame_place (controller_parts w))
          ≡ Leaves (passing c.held.copy.queue_head.link (frame_place (controller_parts w)))
      passes_on =
          effect_here None c.fresh
          ∙ ap (λ (u : Turn). queue_effect (turn_row w.memory w.control.frame.left z u) c.held (reading (turn_read w.memory u) place)) turn

      abbrev left : FrameWalked
      left = record { place = passing c.held.copy.queue_head.link (frame_place (controller_parts w)); bus = w.bus }

      next_is : controller_next fixed w ≡ with_turned w (framed (controller_parts w) left)
      next_is = walked_to fixed w row left (ap (λ (u : Effect). frame_by fixed u w.bus) passes_on)

      skipped_memory : (controller_next fixed w).memory ≡ w.memory
      skipped_memory = ap (λ (u : World). u.memory) next_is

      skipped_hand : (controller_next fixed w).control.frame.hand ≡ None
      skipped_hand = ap (λ (u : World). u.control.frame.hand) next_is

    -- .. or it isn't in hand
    module _ (i : IsInItsFrames w.driver e q p) (st : StandsAs w.memory (32 * q) v)
        (apart : (a : ℕ) → w.control.part ≡ Periodic → held_address w.control.frame.hand ≡ Some a → 32 * q ≢ a) where
      stands_then : StandsAs (controller_next fixed w).memory (32 * q) v
      stands_then = record { queue = st.queue; read = event_reads fixed w k.mixed e q p i apart st.queue st.read; due = st.due }

      Then : Type 0
      Then = HandRests (controller_next fixed w) (32 * q) v

      module _ (row : controller_row w ≡ rows.Frame) where
        apart_now : (a : ℕ) → held_address w.control.frame.hand ≡ Some a → 32 * q ≢ a
        apart_now a is = apart a (in_periodic fixed w row) is

        goes_apart : (w.control.frame.hand ≡ None → fetched_by (chain_row w.memory w.control.frame.cursor) ≡ Some (32 * q) → ⊥)
            → HandRests (controller_next fixed w) (32 * q) v
        goes_apart off =
            let g = k.followed in
            is_apart (λ a on is.
            apart_then fixed x g.standing g.lines g.heads w g.followed.piped k.heads k.sends row e q p i apart_now off a is)

        come_to : w.control.frame.hand ≡ None → (a : ℕ) → fetched_by (chain_row w.memory w.control.frame.cursor) ≡ Some a → a ≡ 32 * q
            → IsCopied (controller_next fixed w) (32 * q) v
        come_to none a is at =
            let c = fetched_queue w k.mixed (in_periodic fixed w row) e q p i a is at in
            let g : HasFetched w (controller_next fixed w) a c.head = has_fetched fixed w row none a c.head c.is in
            let same : st.queue ≡ c.head =
            same_Some st.queue c.head (sym st.read ∙ ap (queue_head_at_address w.memory) (sym at) ∙ g.read) in
            record {
              periodic = g.part;
              held = record { copy = record { at = a; queue_head = c.head; settled = None }; made = 0 };
              hand = g.hand;
              at = at;
              fresh = refl;
              due = subst (IsAsDue v) same st.due;
            }

        some_none : (a : Hand) → ◌≡◌ {A = Option Hand} (Some a) None → ⊥
        some_none a is = cc

        by_fetch : w.control.frame.hand ≡ None → (c : Option ℕ) → fetched_by (chain_row w.memory w.control.frame.cursor) ≡ c
            → HandRests (controller_next fixed w) (32 * q) v
        by_fetch none None is = goes_apart (λ held fetched. none_some (32 * q) (sym is ∙ fetched))
        by_fetch none (Some a) is =
            ⊎_elim {C = HandRests (controller_next fixed w) (32 * q) v}
            (λ (here : a ≡ 32 * q). is_copied (come_to none a is here))
            (λ (off : a ≢ 32 * q). goes_apart (λ held fetched. off (same_Some a (32 * q) (sym is ∙ fetched))))
            (cases_eq a (32 * q))

        by_hand : (hand : Option Hand) → w.control.frame.hand ≡ hand → HandRests (controller_next fixed w) (32 * q) v
        by_hand None is = by_fetch is (fetched_by (chain_row w.memory w.control.frame.cursor)) refl
        by_hand (Some a) is = goes_apart (λ none fetched. some_none a (sym is ∙ none))

      runs : w.registers.run ≡ true
      runs = ap (λ (u : Base). u.run) k.mixed.mixed.now.framed.runs.ring.registers

      outside : (controller_next fixed w).control.part ≢ Periodic → HandRests (controller_next fixed w) (32 * q) v
      outside off = is_apart (λ a on is. absurd (off on))

      by_row : (r : ControllerRow) → controller_row w ≡ r
          → HasRow begins_by transacts_by r (controller_parts w) (wired fixed w) (controller_parts (controller_next fixed w))
          (wired fixed (controller_next fixed w)) → HandRests (controller_next fixed w) (32 * q) v
      by_row rows.Begin is has = is_apart (none_apart new (32 * q) (begins_walk fixed w is l).nothing)
      by_row rows.Frame is has = by_hand is w.control.frame.hand refl
      by_row rows.Idle is has = absurd (never_idle w.registers.run w.registers w.control.frame w.control.part runs is)
      by_row rows.Enter is has = outside (λ on. not_periodic (walk_step (entered (controller_parts w))) (sym has.part ∙ on))
      by_row rows.Go is has = outside (λ on. not_periodic (walk_step (controller_parts w)) (sym has.part ∙ on))
      by_row rows.End is has = outside (λ on. over_not_periodic (sym (ap (λ u. u.control.part) has.0) ∙ on))

      hand_then : HandRests (controller_next fixed w) (32 * q) v
      hand_then = by_row (controller_row w) refl (world_has_row fixed w)

    by_stage : (i : IsInItsFrames w.driver e q p) → StandsAs w.memory (32 * q) v → HandRests w (32 * q) v
        → IsResting (controller_next fixed w) e q p v
    by_stage i st (is_apart a) = record { frames = i; stands = stands_then i st a; hand = hand_then i st a }
    by_stage i st (is_copied c) = record {
      frames = i;
      stands = subst (λ (m : Mem). StandsAs m (32 * q) v) (sym (skipped_memory c)) st;
      hand = is_apart (none_apart new (32 * q) (skipped_hand c));
    }

    pub controller_rests : IsResting w e q p v → IsResting (controller_next fixed w) e q p v
    controller_rests r = by_stage r.frames r.stands r.hand

-- ---- an event of the driver, or a command

module _ (fixed : Fixed) (w later : World) (k : IsMixedWorld w) (l : IsMixedWorld later) (aside : IsAside w later)
    (heads : HeadsHaveFields w.driver w.memory) (heads_then : HeadsHaveFields later.driver later.memory) (e q : ℕ) (p : Placement) (v : Qh)
    (work : IsActiveToken v.token) (f : ℕ) (low : f < 1024) (active : is_active p f ≡ true) (r : IsResting w e q p v)
    (j : IsInItsFrames later.driver e q p) (same : j.endpoint.desc ≡ r.frames.endpoint.desc) where
  hand_aside : HandRests w (32 * q) v → HandRests later (32 * q) v
  hand_aside (is_apart a) =
      is_apart (λ n on is.
      a n (ap (λ (c : Control). c.part) (sym aside.control) ∙ on)
      (ap (λ (c : Control). held_address c.frame.hand) (sym aside.control) ∙ is))
  hand_aside (is_copied c) = is_copied (record {
    periodic = ap (λ (u : Control). u.part) aside.control ∙ c.periodic;
    held = c.held;
    hand = ap (λ (u : Control). u.frame.hand) aside.control ∙ c.hand;
    at = c.at;
    fresh = c.fresh;
    due = c.due;
  })

  pub aside_rests : IsResting later e q p v
  aside_rests = record {
    frames = j;
    stands = stands_of later.memory (32 * q) v
        (aside_work fixed w later k l aside heads heads_then e q p r.frames j same f low active v true
        (work_of w.memory (32 * q) v work r.stands));
    hand = hand_aside r.hand;
  }
