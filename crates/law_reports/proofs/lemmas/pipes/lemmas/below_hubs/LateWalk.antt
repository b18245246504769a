-- A host that waits too long, at an event of the controller within a microframe: the walk comes to its queue head, or has it in hand, only
-- where it came to it, or had it, before (EHCI 1.0, 4.4, 4.6 and 4.10).
use Rattle.std.proofs.Common.{◌≡◌, ◌≢◌, ℕ, ◌⊎◌, Bool, true, false, inl, inr, List, Option, Some, None, ⊎_elim, ap, refl, sym, subst, ◌∙◌}
use Rattle.std.proofs.lemmas.Bool.{cases_eq}
use Rattle.std.proofs.lemmas.Option.{same_Some}
use Rattle.law_common.proofs.Options.{none_some}
use Rattle.link_words.specs.declared.kinds.Link.{Link}
use Rattle.link_words.specs.Links.{link_of}
use Rattle.async_walk.specs.declared.state.WalkStep.{WalkStep}
use Rattle.async_walk.specs.declared.state.WalkStep.TheVariants as steps
use Rattle.periodic_walk.specs.declared.chain.ChainRow.{ChainRow}
use Rattle.periodic_walk.specs.declared.chain.ChainRow.TheVariants as chains
use Rattle.periodic_walk.specs.declared.state.Hand.{Hand}
use Rattle.periodic_walk.specs.Walk.{Walk as FrameWalk, hand_address, held_address}
use Rattle.periodic_walk.specs.Place.{FramePlace, HasEffect}
use Rattle.periodic_walk.specs.Chain.{chain_row, chain_walk, chain_step}
use Rattle.periodic_walk.specs.Rows.{step_of, step_at, effect_at}
use Rattle.hc_iso.specs.Itd.{fetched_itd}
use Rattle.hc_core.specs.declared.controller.MicroframePart.{MicroframePart}
use Rattle.hc_core.specs.declared.controller.MicroframePart.TheVariants.{Over, Periodic, Asynchronous}
use Rattle.hc_core.specs.declared.controller.ControllerRow.{ControllerRow}
use Rattle.hc_core.specs.declared.controller.ControllerRow.TheVariants as rows
use Rattle.hc_core.specs.Controller.{Control, Content, frame_place, frame_step, part_after, HasRow, WalksFrame}
use Rattle.bus_wire.specs.Bus.{Fixed}
use Rattle.claims_base.specs.Controller.{opening_base}
use Rattle.bus_world.specs.World.{World, controller_parts, controller_row, controller_next}
use Rattle.claims_world.specs.Visits.{name_of, next_of, IsLedTo, is_there, leads_on, fetched_by}
use Rattle.law_frames.specs.FrameEffects.{FrameEffect, fetches, passes, ends, takes, makes, writes}
use Rattle.law_frames.specs.FrameHand.{FrameHand, Nothing, frame_held}
use Rattle.law_frames.proofs.Walking.{event_happens}
use Rattle.law_structures.specs.lent_structures.Structures.{StructureSets}
use Rattle.law_controller.specs.frame_control.Both.{ControlsBoth}
use Rattle.law_controller.proofs.lemmas.frame_control.Running.{each_event_of_the_controller_over_both}
use Rattle.law_descriptors.specs.frame_keeps.Leaving.{LeavesStructures}
use Rattle.law_descriptors.proofs.lemmas.kept_frames.Both.{events_leave_words}
use Rattle.law_descriptors.specs.Both.{both}
use Rattle.law_descriptors.specs.Meeting.{met}
use Rattle.law_world.specs.steps.Streaming.{begins_by, transacts_by, wired}
use Rattle.law_world.specs.memory.Mixed.{Standing}
use Rattle.law_world.proofs.lemmas.steps.StreamTurning.{world_has_row}
use Rattle.law_world.proofs.lemmas.steps.lemmas.world_bytes.Hearing.{a_bus_of_bytes_is_heard_as_bytes}
use Rattle.law_microframes.specs.time.DataQueues.{QueuesSendData}
use Rattle.law_microframes.specs.visits.Belonging.{HeadsHaveFields}
use Rattle.law_microframes.specs.visits.Visited.{link_ahead, link_held, IsToCome, VisitsGoOnAt}
use Rattle.law_microframes.proofs.lemmas.due.Turning.{in_periodic}
use Rattle.law_microframes.proofs.lemmas.visits.NoneLeft.{way_stays}
use Rattle.law_microframes.proofs.lemmas.visits.VisitSteps.{hand_goes, led_on}
use Rattle.law_microframes.proofs.lemmas.visits.VisitLinks.{IsReadAt, next_stays, queue_is_read, itd_is_read, sitd_is_read}
use Rattle.law_reports.specs.lines.Lined.{Lines}
use Rattle.law_reports.specs.pipes.Declared.{Sides}
use Rattle.law_reports.specs.pipes.Piped.{Heads, IsPiped}
use Rattle.law_reports.proofs.lemmas.due_at_begin.Apart.{effect_goes}
use Rattle.law_reports.proofs.lemmas.due_at_begin.Asking.{happens, walk, walks}
use Rattle.law_reports.proofs.lemmas.due_at_begin.Walked.{fetched_hand}

-- the walk of the frames has it in hand
pub record HasInHand (w : World) (n : ℕ) : Type 0 where
  pub part : w.control.part ≡ Periodic
  pub held : held_address w.control.frame.hand ≡ Some n

over_off : (kind : WalkStep) → part_after Asynchronous kind ≡ Periodic → ⊥
over_off steps.Fetch is = cc
over_off steps.Advance is = cc
over_off steps.Transact is = cc
over_off steps.WriteBack is = cc
over_off steps.Skip is = cc
over_off steps.Ended is = cc
over_off steps.Fault is = cc

ended_off : Over ≡ Periodic → ⊥
ended_off is = cc

module _ (fixed : Fixed) (x : Sides) (s : Standing) (m : Lines) (h : Heads) (start w : World) (vs : List ℕ) (k : IsPiped fixed x s m h w)
    (heads : HeadsHaveFields w.driver w.memory) (sends : QueuesSendData w.driver w.memory) (g : VisitsGoOnAt s start w vs) (n : ℕ) where
  abbrev new : World
  new = controller_next fixed w

  abbrev Events : Type 0
  Events = ControlsBoth begins_by transacts_by opening_base s.member (met w.driver s.recent) (both s.descs s.parts) s.hand s.frame w.control
      (wired fixed w) (wired fixed (controller_next fixed w)) (controller_parts (controller_next fixed w))

  event : Events
  event =
      each_event_of_the_controller_over_both begins_by transacts_by opening_base s.member (met w.driver s.recent) (both s.descs s.parts)
      s.hand s.frame (controller_parts w) (wired fixed w) (controller_parts (controller_next fixed w)) (wired fixed (controller_next fixed w))
      (event_happens transacts_by (met w.driver s.recent) (both s.descs s.parts) s.frame) k.mixed.now.framed.runs
      (record { run = k.mixed.now.framed.operating.run; async_enable = k.mixed.now.framed.operating.async_enable })
      (a_bus_of_bytes_is_heard_as_bytes fixed w k.mixed.bytes (wired fixed (controller_next fixed w))) (world_has_row fixed w)

  leaves : LeavesStructures (both s.descs s.parts) w.memory (controller_next fixed w).memory
  leaves =
      events_leave_words begins_by transacts_by opening_base s.member (met w.driver s.recent) (both s.descs s.parts) s.hand s.frame
      (controller_parts w) (wired fixed w) (controller_parts (controller_next fixed w)) (wired fixed (controller_next fixed w))
      k.mixed.now.framed.runs k.mixed.now.framed.aligned (world_has_row fixed w) event

  link_stays : (a : ℕ) → g.visits.kept a ≡ true → next_of (controller_next fixed w).memory a ≡ next_of w.memory a
  link_stays a on =
      let here = g.within a on in
      next_stays (met w.driver s.recent) w.memory (controller_next fixed w).memory (both s.descs s.parts) a here.0 leaves
      k.mixed.now.framed.runs.members here.1

  abbrev Before : Type 0
  Before = IsToCome w.memory w.control n ⊎ HasInHand w n

  -- ---- with nothing in hand

  module _ (row : controller_row w ≡ rows.Frame) (part : w.control.part ≡ Periodic) (none : w.control.frame.hand ≡ None) where
    made : HasEffect transacts_by (effect_at (frame_place (controller_parts w)) None) (wired fixed w)
        (frame_place (controller_parts (controller_next fixed w))) (wired fixed (controller_next fixed w))
    made =
        subst (λ (o : Option Hand). HasEffect transacts_by (effect_at (frame_place (controller_parts w)) o) (wired fixed w)
        (frame_place (controller_parts (controller_next fixed w))) (wired fixed (controller_next fixed w))) none
        (walks fixed x s m h w k heads sends row).walked

    walk_is : (controller_next fixed w).control.frame ≡ chain_walk (chain_row w.memory w.control.frame.cursor) w.control.frame
    walk_is = ap (λ (v : FramePlace). v.walk) made.0

    part_is : (controller_next fixed w).control.part ≡ part_after Periodic (chain_step (chain_row w.memory w.control.frame.cursor))
    part_is =
        (walks fixed x s m h w k heads sends row).part
        ∙ ap (λ (o : Option Hand). part_after Periodic (step_at (frame_place (controller_parts w)) o)) none

    cursor_is : name_of (link_ahead w.control.frame.hand w.control.frame.cursor) ≡ name_of w.control.frame.cursor
    cursor_is = ap (λ (o : Option Hand). name_of (link_ahead o w.control.frame.cursor)) none

    comes_by : IsLedTo w.memory n (name_of w.control.frame.cursor) → Before
    comes_by led = inl (record { periodic = part; leads = subst (IsLedTo w.memory n) (sym cursor_is) led })

    read_on : (a : ℕ) (link : Link) → IsReadAt w.memory w.control.frame.cursor a link
        → IsLedTo (controller_next fixed w).memory n (name_of link) → Before
    read_on a link read led =
        let on : g.visits.kept a ≡ true = (g.visits.behind.next a part (cursor_is ∙ read.name)).is_kept in
        let was : IsLedTo w.memory n (name_of link) =
        way_stays (controller_next fixed w).memory w.memory g.visits.kept n (name_of link)
        (λ b c on is. g.visits.ranked.closed b c on (sym (link_stays b on) ∙ is)) (λ b on. sym (link_stays b on))
        (λ b is. g.visits.ranked.closed a b on (sym (ap name_of read.next) ∙ is)) led in
        comes_by (subst (IsLedTo w.memory n) (sym read.name) (leads_on a (subst (IsLedTo w.memory n) (ap name_of read.next) was)))

    read_here : (a : ℕ) (link : Link) → IsReadAt w.memory w.control.frame.cursor a link → a ≡ n → Before
    read_here a link read same =
        comes_by (subst (IsLedTo w.memory n) (sym read.name) (subst (λ (i : ℕ). IsLedTo w.memory n (Some i)) (sym same) is_there))

    fetched_come : (r : ChainRow) → chain_row w.memory w.control.frame.cursor ≡ r → part_after Periodic (chain_step r) ≡ Periodic
        → IsLedTo (controller_next fixed w).memory n
        (name_of (link_ahead (chain_walk r w.control.frame).hand (chain_walk r w.control.frame).cursor)) → Before
    unfolding fetched_itd
    fetched_come chains.Fault is on led = absurd cc
    fetched_come chains.Ends is on led = absurd cc
    fetched_come (chains.Queue a q) is on led = read_on a (link_of q.link) (queue_is_read w.memory w.control.frame.cursor a q is) led
    fetched_come (chains.Itd a v) is on led = read_on a (link_of v.link) (itd_is_read w.memory w.control.frame.cursor a v is) led
    fetched_come (chains.Sitd a v) is on led = read_on a (link_of v.link) (sitd_is_read w.memory w.control.frame.cursor a v is) led

    fetched_held : (r : ChainRow) → chain_row w.memory w.control.frame.cursor ≡ r → fetched_by r ≡ Some n → Before
    fetched_held chains.Fault is at = absurd (none_some n at)
    fetched_held chains.Ends is at = absurd (none_some n at)
    fetched_held (chains.Queue a q) is at =
        read_here a (link_of q.link) (queue_is_read w.memory w.control.frame.cursor a q is) (same_Some a n at)
    fetched_held (chains.Itd a v) is at =
        read_here a (link_of v.link) (itd_is_read w.memory w.control.frame.cursor a v is) (same_Some a n at)
    fetched_held (chains.Sitd a v) is at =
        read_here a (link_of v.link) (sitd_is_read w.memory w.control.frame.cursor a v is) (same_Some a n at)

    none_came : IsToCome (controller_next fixed w).memory (controller_next fixed w).control n → Before
    none_came t =
        fetched_come (chain_row w.memory w.control.frame.cursor) refl (sym part_is ∙ t.periodic)
        (subst (λ (f : FrameWalk). IsLedTo (controller_next fixed w).memory n (name_of (link_ahead f.hand f.cursor))) walk_is t.leads)

    none_held : HasInHand (controller_next fixed w) n → Before
    none_held t =
        fetched_held (chain_row w.memory w.control.frame.cursor) refl
        (sym (fetched_hand (chain_row w.memory w.control.frame.cursor) w.control.frame)
        ∙ sym (ap (λ (f : FrameWalk). held_address f.hand) walk_is) ∙ t.held)

  -- ---- at a copy

  module _ (row : controller_row w ≡ rows.Frame) (part : w.control.part ≡ Periodic) (hand : Hand)
      (some : w.control.frame.hand ≡ Some hand) where
    ahead : (controller_next fixed w).control.part ≡ Periodic
        → link_ahead (controller_next fixed w).control.frame.hand (controller_next fixed w).control.frame.cursor ≡ link_held hand
    ahead on =
        let made : HasEffect transacts_by (effect_at (frame_place (controller_parts w)) (Some hand)) (wired fixed w)
        (frame_place (controller_parts (controller_next fixed w))) (wired fixed (controller_next fixed w)) =
        subst (λ (o : Option Hand). HasEffect transacts_by (effect_at (frame_place (controller_parts w)) o) (wired fixed w)
        (frame_place (controller_parts (controller_next fixed w))) (wired fixed (controller_next fixed w))) some
        (walks fixed x s m h w k heads sends row).walked in
        (led_on transacts_by (link_held hand) w.control.frame.index (step_at (frame_place (controller_parts w)) (Some hand))
        (effect_at (frame_place (controller_parts w)) (Some hand)) (wired fixed w) (frame_place (controller_parts (controller_next fixed w)))
        (wired fixed (controller_next fixed w)) (hand_goes (frame_place (controller_parts w)) hand) made).ahead
        (sym (ap (λ (o : Option Hand). part_after Periodic (step_at (frame_place (controller_parts w)) o)) some)
        ∙ sym (walks fixed x s m h w k heads sends row).part ∙ on)

    link_is : link_held hand ≡ link_ahead w.control.frame.hand w.control.frame.cursor
    link_is = sym (ap (λ (o : Option Hand). link_ahead o w.control.frame.cursor) some)

    some_came : IsToCome (controller_next fixed w).memory (controller_next fixed w).control n → Before
    some_came t =
        inl (record {
          periodic = part;
          leads = way_stays (controller_next fixed w).memory w.memory g.visits.kept n
              (name_of (link_ahead w.control.frame.hand w.control.frame.cursor))
              (λ a c on is. g.visits.ranked.closed a c on (sym (link_stays a on) ∙ is)) (λ a on. sym (link_stays a on))
              (λ a is. (g.visits.behind.next a part is).is_kept)
              (subst (λ (l : Link). IsLedTo (controller_next fixed w).memory n (name_of l)) (ahead t.periodic ∙ link_is) t.leads);
        })

    hand_none : (o : Hand) → Some o ≡ None → ⊥
    hand_none o is = cc

    no_fetch : (kind : WalkStep)
        → FrameEffect transacts_by (both s.descs s.parts) w.control.frame s.frame (wired fixed w) (wired fixed (controller_next fixed w))
        (happens fixed x s m h w k heads sends row).now (happens fixed x s m h w k heads sends row).later kind → kind ≢ steps.Fetch
    no_fetch _ (fetches none r same quiet) =
        absurd (hand_none hand (sym some ∙ (walk fixed x s m h w k heads sends row).held ∙ ap frame_held none))
    no_fetch _ (passes r nothing same quiet) = λ never. cc never
    no_fetch _ (ends none nothing same quiet) = λ never. cc never
    no_fetch _ (takes r quiet) = λ never. cc never
    no_fetch _ (makes r same) = λ never. cc never
    no_fetch _ (writes r quiet) = λ never. cc never

    goes_apart : (kind : WalkStep)
        → FrameEffect transacts_by (both s.descs s.parts) w.control.frame s.frame (wired fixed w) (wired fixed (controller_next fixed w))
        (happens fixed x s m h w k heads sends row).now (happens fixed x s m h w k heads sends row).later kind
        → ((a : ℕ) → held_address (frame_held s.frame) ≡ Some a → n ≢ a) → (a : ℕ)
        → held_address (frame_held (happens fixed x s m h w k heads sends row).later) ≡ Some a → n ≢ a
    goes_apart kind effect off a is =
        effect_goes transacts_by (both s.descs s.parts) w.control.frame s.frame (wired fixed w) (wired fixed (controller_next fixed w))
        (happens fixed x s m h w k heads sends row).now (happens fixed x s m h w k heads sends row).later n off kind effect
        (no_fetch kind effect) a is

    some_held : HasInHand (controller_next fixed w) n → Before
    some_held t =
        ⊎_elim {C = Before} (λ (same : n ≡ hand_address hand).
        inr (record { part = part; held = ap held_address some ∙ ap (λ (i : ℕ). Some i) (sym same) }))
        (λ (differs : n ≢ hand_address hand).
        absurd (goes_apart (step_of (frame_place (controller_parts w))) (happens fixed x s m h w k heads sends row).effect
        (λ a at same. differs (same ∙ same_Some a (hand_address hand)
        (sym at ∙ sym (ap held_address (walk fixed x s m h w k heads sends row).held) ∙ ap held_address some))) n
        (sym (ap held_address (happens fixed x s m h w k heads sends row).frame.walk.held) ∙ t.held) refl))
        (cases_eq n (hand_address hand))

  -- ---- by the row

  frame_by : (row : controller_row w ≡ rows.Frame) → w.control.part ≡ Periodic → (o : Option Hand) → w.control.frame.hand ≡ o
      → IsToCome (controller_next fixed w).memory (controller_next fixed w).control n ⊎ HasInHand (controller_next fixed w) n → Before
  frame_by row part None none =
      ⊎_elim (λ (t : IsToCome (controller_next fixed w).memory (controller_next fixed w).control n). none_came row part none t)
      (λ (t : HasInHand (controller_next fixed w) n). none_held row part none t)
  frame_by row part (Some hand) some =
      ⊎_elim (λ (t : IsToCome (controller_next fixed w).memory (controller_next fixed w).control n). some_came row part hand some t)
      (λ (t : HasInHand (controller_next fixed w) n). some_held row part hand some t)

  -- in another row the part isn't that of the frames after it, or nothing changes
  off_part : (controller_next fixed w).control.part ≢ Periodic
      → IsToCome (controller_next fixed w).memory (controller_next fixed w).control n ⊎ HasInHand (controller_next fixed w) n → Before
  off_part off =
      ⊎_elim (λ (t : IsToCome (controller_next fixed w).memory (controller_next fixed w).control n). absurd (off t.periodic))
      (λ (t : HasInHand (controller_next fixed w) n). absurd (off t.part))

  by_row : (r : ControllerRow) → controller_row w ≡ r → r ≢ rows.Begin
      → HasRow begins_by transacts_by r (controller_parts w) (wired fixed w) (controller_parts (controller_next fixed w))
      (wired fixed (controller_next fixed w))
      → IsToCome (controller_next fixed w).memory (controller_next fixed w).control n ⊎ HasInHand (controller_next fixed w) n → Before
  by_row rows.Begin is other row = absurd (other refl)
  by_row rows.Idle is other row =
      ⊎_elim {C = Before} (λ (t : IsToCome (controller_next fixed w).memory (controller_next fixed w).control n).
      inl (subst (λ (c : Content). IsToCome c.memory c.control n) row.0 t))
      (λ (t : HasInHand (controller_next fixed w) n).
      inr (record {
        part = sym (ap (λ (c : Content). c.control.part) row.0) ∙ t.part;
        held = sym (ap (λ (c : Content). held_address c.control.frame.hand) row.0) ∙ t.held;
      }))
  by_row rows.Frame is other row = frame_by is (in_periodic fixed w is) w.control.frame.hand refl
  by_row rows.Enter is other row = off_part (λ on. over_off _ (sym row.part ∙ on))
  by_row rows.Go is other row = off_part (λ on. over_off _ (sym row.part ∙ on))
  by_row rows.End is other row = off_part (λ on. ended_off (sym (ap (λ (c : Content). c.control.part) row.0) ∙ on))

  pub comes_back : controller_row w ≢ rows.Begin
      → IsToCome (controller_next fixed w).memory (controller_next fixed w).control n ⊎ HasInHand (controller_next fixed w) n
      → IsToCome w.memory w.control n ⊎ HasInHand w n
  comes_back other = by_row (controller_row w) refl other (world_has_row fixed w)
