-- In a mixed world the asynchronous part ends for a reason, and so is a queue head skipped.
use Rattle.std.proofs.Common.{◌≡◌, ◌≢◌, ℕ, ◌⊎◌, Bool, true, false, not, ◌&&◌, if◌then◌else◌, List, Some, None, ⊎_elim, ap, sym, subst, ◌∙◌, refl}
use Rattle.std.specs.Prelude.{◌==◌, ◌||◌}
use Rattle.std.proofs.lemmas.Bool.{eqb-true, eqb-false}
use Rattle.law_world.proofs.Common.{skipped}
use Rattle.usb_base.specs.declared.packets.Ask.{Ask}
use Rattle.usb_base.specs.declared.packets.Reply.{Reply}
use Rattle.link_words.specs.declared.kinds.QtdLink.{QtdLink}
use Rattle.link_words.specs.declared.kinds.QtdLink.TheVariants as qtd_links
use Rattle.link_words.specs.Links.{qtd_link_of}
use Rattle.qh_qtd.specs.declared.queue_head.Qh.{Qh}
use Rattle.async_walk.specs.declared.state.WalkStep.{WalkStep}
use Rattle.async_walk.specs.declared.state.WalkStep.TheVariants as walks
use Rattle.hc_copy.specs.declared.held.Held.{Held}
use Rattle.hc_copy.specs.declared.held.Visit.TheVariants as visits
use Rattle.hc_copy.specs.Visits.{next_pointer, visit_at}
use Rattle.async_walk.specs.Causes.{IsVisited, IsResting, QueueEnds, QtdIsDone, HasNothing, NaksAreUsedUp, Worked}
use Rattle.async_walk.specs.Causes.Worked.{transacts as its_transaction, naks_used_up as its_naks, halted as its_halt, out_of_time as its_time, bytes_foreign as its_bytes}
use Rattle.async_walk.specs.Naks.{may_work}
use Rattle.async_walk.specs.Rows.{WalkPlace, started, at_event, event_row, step_of, Leads}
use Rattle.async_walk.proofs.Steps.{ends_for_a_reason, skips_for_a_reason}
use Rattle.async_walk.proofs.Works.{works}
use Rattle.op_registers.specs.RegisterFile.{RegisterFile}
use Rattle.periodic_walk.specs.Walk.{Walk as FrameWalk, is_over}
use Rattle.hc_core.specs.declared.controller.ControllerRow.{ControllerRow}
use Rattle.hc_core.specs.declared.controller.ControllerRow.TheVariants as rows
use Rattle.hc_core.specs.declared.controller.HcStep.TheVariants as steps
use Rattle.hc_core.specs.declared.controller.MicroframePart.{MicroframePart}
use Rattle.hc_core.specs.declared.controller.MicroframePart.TheVariants.{Over, Periodic, Asynchronous}
use Rattle.hc_core.specs.Controller.{Content, part_row, enter_row, ring_row, hc_step, kind_of, walk_place, walk_step, entered, HasRow}
use Rattle.law_structures.specs.lent_structures.Structures.{StructureSets}
use Rattle.law_ring.specs.Hand.{Hand, Empty}
use Rattle.claims_base.specs.Controller.{Base, base_of, opening_base}
use Rattle.law_ring.specs.Ring.{IsRing}
use Rattle.law_ring.specs.Effects.{Effect, reads, passes, ends, takes, makes, writes_back, AreBytesHeard}
use Rattle.law_ring.proofs.Ringing.{ring_at, cursor_same}
use Rattle.law_ring.proofs.Stepping.{each_event}
use Rattle.law_descriptors.specs.Both.{both}
use Rattle.law_world.specs.steps.Streaming.{begins_by, transacts_by, wired}
use Rattle.law_world.proofs.lemmas.steps.StreamTurning.{world_has_row}
use Rattle.law_world.proofs.lemmas.steps.lemmas.world_bytes.Hearing.{a_bus_of_bytes_is_heard_as_bytes}
use Rattle.bus_wire.specs.Bus.{Fixed, fixed_of}
use Rattle.bus_world.specs.World.{World, controller_parts, controller_row, controller_next, kind_next}
use Rattle.bus_world.specs.Budgets.{moment}
use Rattle.law_world.specs.memory.Mixed.{IsMixedWorld}
use Rattle.claims_world.specs.Visits.{EndsForAReason, RingHasNothing, IsPassedInRing, PassesForAReason, IsWorkedInRing, WorksInRing}
use Rattle.claims_world.specs.Visits.RingHasNothing.{is_halted, naks_are_used_up, queue_ends, qtd_is_done}
use Rattle.claims_world.specs.Visits.IsWorkedInRing.{transacts as by_transaction, is_halted as by_halt, naks_are_used_up as by_naks, has_no_time as by_time}
use Rattle.law_world.specs.memory.Reasons.{MixedHasReasons, TextsKeepReasons}
use Rattle.law_world.proofs.lemmas.memory.Together.{texts_stay_mixed}

-- ---- which step it is

no_fault : {W : Type 0} (transacts : W → Ask → List ℕ → Reply → W → Type 0) (parts : StructureSets) (hand : Hand) (wire after : W) (now : StructureSets) (later : Hand) (kind : WalkStep)
    → Effect transacts parts hand wire after now later kind → kind ≡ walks.Fault → ⊥
no_fault transacts parts hand wire after now later _ (reads a b c) same = cc
no_fault transacts parts hand wire after now later _ (passes a b c) same = cc
no_fault transacts parts hand wire after now later _ (ends a b c) same = cc
no_fault transacts parts hand wire after now later _ (takes a b) same = cc
no_fault transacts parts hand wire after now later _ (makes a b) same = cc
no_fault transacts parts hand wire after now later _ (writes_back a b) same = cc

ended : (k : WalkStep) → hc_step k ≡ steps.End → (k ≡ walks.Fault → ⊥) → k ≡ walks.Ended
ended walks.Ended is none = refl
ended walks.Fault is none = absurd (none refl)
ended _ is none = absurd (cc)

-- ---- a queue head that is skipped

used_up_at : (q : Qh) (uncounted none_left : Bool) → (q.rl == 0) ≡ uncounted → (q.nak_cnt == 0) ≡ none_left
    → (uncounted || not none_left) ≡ false → NaksAreUsedUp q
used_up_at q true none_left rl naks is = absurd cc
used_up_at q false false rl naks is = absurd cc
used_up_at q false true rl naks is = record { counted = λ e. eqb-false q.rl 0 rl e; none_left = eqb-true q.nak_cnt 0 naks }

used_up : (q : Qh) → may_work q ≡ false → NaksAreUsedUp q
used_up q is = used_up_at q (q.rl == 0) (q.nak_cnt == 0) refl refl is

rest_by : (p : WalkPlace) (h : Held) (may halted active : Bool) (link : QtdLink) → may_work h.queue_head ≡ may
    → h.queue_head.token.halted ≡ halted → visit_at may halted active link ≡ visits.Rest
    → RingHasNothing p h
rest_by p h false halted active link may halts is = naks_are_used_up (used_up h.queue_head may)
rest_by p h true true active link may halts is = is_halted halts
rest_by p h true false true link may halts is = absurd cc
rest_by p h true false false link may halts is = absurd cc

-- it goes by the link of its overlay
record Taken (active halted : Bool) (link to : QtdLink) : Type 0 where
  done : active ≡ false
  unhalted : halted ≡ false
  same : link ≡ to

take_by : (may halted active : Bool) (link to : QtdLink) → visit_at may halted active link ≡ visits.Take to → Taken active halted link to
take_by false halted active link to is = absurd cc
take_by true true active link to is = absurd cc
take_by true false true link to is = absurd cc
take_by true false false link to is = record { done = refl; unhalted = refl; same = cc }

taken : (p : WalkPlace) (h : Held) (to : QtdLink) → IsVisited p h (visits.Take to)
    → Taken h.queue_head.token.active h.queue_head.token.halted (qtd_link_of (next_pointer h.queue_head)) to
taken p h to v = take_by (may_work h.queue_head) h.queue_head.token.halted h.queue_head.token.active
    (qtd_link_of (next_pointer h.queue_head)) to v.visits

resting : (p : WalkPlace) → IsResting p → IsPassedInRing p
resting p r = record {
  held = r.copy;
  in_hand = r.visited.in_hand;
  unsettled = r.visited.not_settled;
  reason = rest_by p r.copy (may_work r.copy.queue_head) r.copy.queue_head.token.halted r.copy.queue_head.token.active
      (qtd_link_of (next_pointer r.copy.queue_head)) refl refl r.visited.visits;
}

ending : (p : WalkPlace) → QueueEnds p → IsPassedInRing p
ending p e =
    let t = taken p e.copy qtd_links.End e.visited in
    record {
      held = e.copy;
      in_hand = e.visited.in_hand;
      unsettled = e.visited.not_settled;
      reason = queue_ends (record { done = t.done; unhalted = t.unhalted }) t.same;
    }

being_done : (p : WalkPlace) → QtdIsDone p → IsPassedInRing p
being_done p e =
    let t = taken p e.copy (qtd_links.To e.at) e.comes.visited in
    record {
      held = e.copy;
      in_hand = e.comes.visited.in_hand;
      unsettled = e.comes.visited.not_settled;
      reason = qtd_is_done e.at e.qtd (record { done = t.done; unhalted = t.unhalted }) t.same e.comes.stands_there e.inactive;
    }

passed_at : (p : WalkPlace) → HasNothing p → IsPassedInRing p
passed_at p why =
    ⊎_elim (λ (r : IsResting p). resting p r)
    (λ (other : QueueEnds p ⊎ QtdIsDone p). ⊎_elim (λ (e : QueueEnds p). ending p e) (λ (d : QtdIsDone p). being_done p d) other) why

-- the first event of a microframe begins with the same copy and memory
same_reason : (p : WalkPlace) (h : Held) → RingHasNothing (started p) h → RingHasNothing p h
same_reason p h (is_halted on) = is_halted on
same_reason p h (naks_are_used_up none) = naks_are_used_up none
same_reason p h (queue_ends done is) = queue_ends done is
same_reason p h (qtd_is_done at qtd done is there off) = qtd_is_done at qtd done is there off

passed_there : (p : WalkPlace) → IsPassedInRing (started p) → IsPassedInRing p
passed_there p k = record { held = k.held; in_hand = k.in_hand; unsettled = k.unsettled; reason = same_reason p k.held k.reason }

none_passed : (p : WalkPlace) → p.walk.held ≡ None → IsPassedInRing p → ⊥
none_passed p none at = let same : None ≡ Some at.held = sym none ∙ at.in_hand in cc

-- ---- one whose overlay is active

worked_by : (p : WalkPlace) (h : Held) (k : WalkStep) → (k ≡ walks.Fault → ⊥) → Worked p.walk.left p.memory h.queue_head k
    → IsWorkedInRing p h (hc_step k)
worked_by p h _ sound its_transaction = by_transaction
worked_by p h _ sound (its_naks none) = by_naks none
worked_by p h _ sound (its_halt on) = by_halt on
worked_by p h _ sound (its_time late) = by_time late
worked_by p h _ sound (its_bytes foreign) = absurd (sound refl)

-- ---- the part is enabled

enters : enter_row true ≢ rows.End
enters same = cc

frames_or_enters : (a : Bool) → (if a then rows.Frame else enter_row true) ≢ rows.End
frames_or_enters true same = cc
frames_or_enters false same = cc

part_enabled : (r : RegisterFile) (frame : FrameWalk) (part : MicroframePart) → r.async_enable ≡ true → part_row r frame part ≢ rows.End
part_enabled r frame Over on same = cc
part_enabled r frame Periodic on same =
    frames_or_enters (r.periodic_enable && not (is_over frame)) (sym (ap (λ (b : Bool). if r.periodic_enable && not (is_over frame) then rows.Frame else enter_row b) on) ∙ same)
part_enabled r frame Asynchronous on same = let no : ring_row true ≡ rows.End = sym (ap ring_row on) ∙ same in cc

module _ (fixed : Fixed) (w : World) (k : IsMixedWorld w) where
  abbrev c : Content
  c = controller_parts w

  abbrev structures : StructureSets
  structures = both k.standing.descs k.standing.parts

  on : base_of w.registers ≡ opening_base
  on = k.mixed.now.framed.runs.ring.registers

  enabled : controller_row w ≢ rows.End
  enabled same =
      part_enabled w.registers w.control.frame w.control.part (ap (λ (b : Base). b.async_enable) on)
      (sym (ap (λ (b : Bool). if b then part_row w.registers w.control.frame w.control.part else rows.Idle) (ap (λ (b : Base). b.run) on)) ∙ same)

  heard : AreBytesHeard transacts_by (wired fixed w) (wired fixed (controller_next fixed w))
  heard = a_bus_of_bytes_is_heard_as_bytes fixed w k.mixed.bytes (wired fixed (controller_next fixed w))

  at_row : (row : ControllerRow) → controller_row w ≡ row → HasRow begins_by transacts_by row (controller_parts w) (wired fixed w) (controller_parts (controller_next fixed w)) (wired fixed (controller_next fixed w))
  at_row row is = subst (λ (r : ControllerRow). HasRow begins_by transacts_by r c (wired fixed w) (controller_parts (controller_next fixed w)) (wired fixed (controller_next fixed w))) is (world_has_row fixed w)

  sound : (hand : Hand) (p : WalkPlace) → IsRing opening_base k.standing.member structures hand p → (new : WalkPlace) → Leads transacts_by (event_row p) (at_event p) (wired fixed w) new (wired fixed (controller_next fixed w))
      → step_of (event_row p) (at_event p) ≡ walks.Fault → ⊥
  sound hand p ring new leads =
      let h = each_event transacts_by opening_base k.standing.member structures hand p (wired fixed w) new (wired fixed (controller_next fixed w)) ring heard leads in
      no_fault transacts_by structures hand (wired fixed w) (wired fixed (controller_next fixed w)) h.now h.later (step_of (event_row p) (at_event p)) h.effect

  its_ring : IsRing opening_base k.standing.member structures k.standing.hand (walk_place c)
  its_ring = k.mixed.now.framed.runs.ring

  entered_ring : IsRing opening_base k.standing.member structures Empty (walk_place (entered c))
  entered_ring =
      ring_at opening_base k.standing.member structures k.standing.hand Empty (walk_place c) (walk_place (entered c)) its_ring refl refl
      (cursor_same k.standing.member (walk_place c) (walk_place (entered c)) refl refl its_ring.cursor) refl tt

  kind_is : (row : ControllerRow) → controller_row w ≡ row → kind_next w ≡ kind_of row c
  kind_is row is = ap (λ (r : ControllerRow). kind_of r c) is

  ends_for : EndsForAReason w
  ends_for = record {
    enabled = enabled;
    going = λ is end.
        ends_for_a_reason (walk_place c)
        (ended (walk_step c) (sym (kind_is rows.Go is) ∙ end) (sound k.standing.hand (walk_place c) its_ring (walk_place (controller_parts (controller_next fixed w))) (at_row rows.Go is).walked));
    beginning = λ is end.
        ends_for_a_reason (walk_place (entered c))
        (ended (walk_step (entered c)) (sym (kind_is rows.Enter is) ∙ end)
        (sound Empty (walk_place (entered c)) entered_ring (walk_place (controller_parts (controller_next fixed w))) (at_row rows.Enter is).walked));
  }

  passes_for : PassesForAReason w
  passes_for = record {
    going = λ is skip.
        passed_there (walk_place c)
        (passed_at (started (walk_place c)) (skips_for_a_reason (walk_place c) (skipped (walk_step c) (sym (kind_is rows.Go is) ∙ skip))));
    beginning = λ is skip.
        none_passed (started (walk_place (entered c))) refl
        (passed_at (started (walk_place (entered c)))
        (skips_for_a_reason (walk_place (entered c)) (skipped (walk_step (entered c)) (sym (kind_is rows.Enter is) ∙ skip))));
  }

  works_in_ring : WorksInRing w
  works_in_ring h is in_hand fresh active =
      subst (IsWorkedInRing (walk_place c) h) (sym (kind_is rows.Go is))
      (worked_by (walk_place c) h (walk_step c)
      (sound k.standing.hand (walk_place c) its_ring (walk_place (controller_parts (controller_next fixed w))) (at_row rows.Go is).walked)
      (works (walk_place c) h in_hand fresh active))

pub mixed_has_reasons : MixedHasReasons
mixed_has_reasons fixed w k = record { ends = ends_for fixed w k; passes = passes_for fixed w k; works = works_in_ring fixed w k }

pub texts_keep_reasons : TextsKeepReasons
texts_keep_reasons text s spelled k = mixed_has_reasons (fixed_of s) (moment s k).world (texts_stay_mixed text s spelled k)
