-- At each moment of each script no token at high speed tells a missed microframe.
use Rattle.std.proofs.Common.{◌≡◌, ℕ, Bool, true, false, Some, ap, refl, sym, subst, ◌∙◌, ⊎_elim}
use Rattle.std.proofs.lemmas.Bool.{false≢true}
use Rattle.script_types.specs.declared.scripts.Script.{Script}
use Rattle.script_fits.proofs.Texts.{spelled_fits}
use Rattle.bus_wire.specs.Bus.{Fixed, Wired, fixed_of}
use Rattle.qh_qtd.specs.declared.qtd.Qtd.{Qtd}
use Rattle.qh_qtd.specs.declared.queue_head.Qh.{Qh}
use Rattle.hc_copy.specs.Planning.{host_in}
use Rattle.hc_interrupt.specs.Turns.{planned, is_last_of}
use Rattle.async_walk.specs.Naks.{planned as ring_planned}
use Rattle.hc_copy.specs.Transacting.{call_in}
use Rattle.hc_core.specs.Controller.{walk_place}
use Rattle.drv_table.specs.Words.{opening_head}
use Rattle.claims_base.specs.Controller.{opening_base}
use Rattle.claims_driver.specs.Owners.{views_of}
use Rattle.law_structures.specs.lent_structures.Structures.{QueueHead, Element, Table, Structures, StructureSets}
use Rattle.law_ring.specs.Hand.{Hand, Empty}
use Rattle.law_ring.specs.Effects.{settlement, Makes}
use Rattle.law_frames.specs.Frame.{IsCopiedQueue}
use Rattle.law_frames.specs.FrameHand.{FrameHand}
use Rattle.law_frames.specs.FrameHand.FrameHand.{Nothing as NoneHeld}
use Rattle.law_frames.specs.FrameEffects.{frame_settlement, MakesOfQueue}
use Rattle.law_controller.specs.controlled_streams.Control.{a_microframe, a_step}
use Rattle.law_controller.specs.frame_control.Both.{RunsBoth, BothEffect, of_ring, of_frame}
use Rattle.law_controller.specs.frame_control.Joined.{joined}
use Rattle.law_descriptors.specs.Both.{both}
use Rattle.law_descriptors.specs.Meeting.{met}
use Rattle.law_descriptors.proofs.Rings.{other_off}
use Rattle.law_descriptors.proofs.Standing.{both_off}
use Rattle.law_descriptors.proofs.lemmas.queue_events.Beside.{beside}
use Rattle.law_driver_ring.specs.PartOpened.{empty_list, no_parts, list_parts, opening_parts}
use Rattle.law_structures.proofs.lemmas.lent_structures.Altering.{same_queue}
use Rattle.law_structures.proofs.lemmas.lent_structures.Names.{put_found}
use Rattle.law_scripts.proofs.lemmas.script_bytes.Texts.{a_text_spells_bytes}
use Rattle.bus_world.specs.World.{World, controller_parts, driver_next, controller_next}
use Rattle.law_world.specs.steps.Streaming.{begins_by, transacts_by, wired}
use Rattle.law_world.specs.steps.receiving_runs.Runs.{IsKeptBy}
use Rattle.law_world.proofs.lemmas.steps.lemmas.receiving_runs.Runs.{holds_throughout}
use Rattle.law_world.specs.memory.Mixed.{Standing, IsMixedAt}
use Rattle.law_world.specs.memory.Opens.{OpensMixed}
use Rattle.law_world.specs.memory.Steps.{IsEventOf, IsMixedControlled, IsMixedNext, standing_then}
use Rattle.law_world.proofs.lemmas.memory.CommandKeeping.{command_keeps_standing}
use Rattle.law_world.proofs.lemmas.memory.Controller.{controller_tells_event}
use Rattle.law_world.proofs.lemmas.memory.Driving.{driver_tells_step}
use Rattle.law_world.proofs.lemmas.memory.FittingTexts.{texts_open_fitting}
use Rattle.law_world.proofs.lemmas.memory.HarvestKept.{describes}
use Rattle.law_world.proofs.Common.{lines_can}
use Rattle.law_world.proofs.lemmas.memory.Texts.{texts_fit}
use Rattle.law_world.proofs.lemmas.memory.Together.{lines_fit}
use Rattle.law_reports.specs.quiet.Errors.{Key, key_of, TokenHasLeft, HostHasLeft, PartHasLeft, HandHasLeft}
use Rattle.law_reports.specs.quiet.Laws.{HasErrorsLeft, DriverLeavesErrors, none, IsUnmissedWorld, NewWorldMissesNone, ControllerMissesNone}
use Rattle.law_reports.specs.quiet.Laws.{DriverMissesNone, CommandMissesNone, ScriptsMissNone, TextsMissNone}
use Rattle.law_reports.proofs.lemmas.pipes.Opening.{new_standing, new_mixed}
use Rattle.law_reports.proofs.lemmas.quiet.Events.{ring_parts, ring_hand, frame_parts, frame_hand}
use Rattle.law_reports.proofs.lemmas.quiet.Rows.{answers_count_none}
use Rattle.law_reports.proofs.lemmas.quiet.Steps.{step_parts, step_hand, driver_publishes, command_publishes}

-- ---- the driver

pub driver_leaves_errors : DriverLeavesErrors
driver_leaves_errors Q s w t mixed step k = record {
  parts = step_parts Q s w mixed k.parts (driver_next w) t k.first step;
  in_hand = step_hand Q s w mixed k.parts (driver_next w) t step k.in_hand;
  first = driver_publishes s w mixed k.first;
}

-- ---- the controller

-- where each transaction that it makes leaves errors
module _ (Q : Key → Bool) (fixed : Fixed) (s : Standing) (w : World) (mixed : IsMixedAt s w)
    (a : IsEventOf fixed s w) (k : HasErrorsLeft Q s w) where
  abbrev parts : StructureSets
  parts = both s.descs s.parts

  abbrev wire : Wired
  wire = wired fixed w

  abbrev after : Wired
  after = wired fixed (controller_next fixed w)

  runs : RunsBoth opening_base s.member (met w.driver s.recent) (both s.descs s.parts) s.hand s.frame (controller_parts w)
  runs = mixed.now.framed.runs

  pub off : (n : ℕ) (q : Qh) → both s.descs s.parts n n ≡ Some (QueueHead q) → both s.descs s.parts n ≡ s.parts n
  off n q here =
      both_off s.descs s.parts n (other_off (views_of w.driver) s.descs s.parts n (QueueHead q) (describes s w mixed).described refl here)

  pub both_left : (n : ℕ) → PartHasLeft Q n (both s.descs s.parts n)
  both_left n = record {
    head = λ q here. (k.parts n).head q (ap (λ (part : Structures). part n) (sym (off n q here)) ∙ here);
    elements = λ q b t here there.
        (k.parts n).elements q b t (ap (λ (part : Structures). part n) (sym (off n q here)) ∙ here)
        (ap (λ (part : Structures). part b) (sym (off n q here)) ∙ there);
  }

  module _ (rings : s.frame ≡ NoneHeld
      → (m : Makes transacts_by (both s.descs s.parts) s.hand (wired fixed w) (wired fixed (controller_next fixed w)) a.later)
      → both s.descs s.parts m.copy.at m.copy.at ≡ Some (QueueHead m.copy.queue)
      → HostHasLeft Q (key_of m.copy.queue) m.copy.queue.token.pid (settlement m.copy.queue m.out m.reply).host)
      (frames : s.hand ≡ Empty → (m : MakesOfQueue transacts_by (both s.descs s.parts) w.control.frame s.frame (wired fixed w) (wired fixed
      (controller_next fixed w)) a.frame_later)
      → IsCopiedQueue (met w.driver s.recent) (both s.descs s.parts) m.copy
      → HostHasLeft Q (key_of m.copy.queue) m.copy.queue.token.pid
      (frame_settlement w.control.frame.index m.copy.queue m.out m.reply).host) where
    had_ring : s.frame ≡ NoneHeld → HandHasLeft Q s.hand
    had_ring none = subst (λ (f : FrameHand). HandHasLeft Q (joined s.hand f)) none k.in_hand

    had_frame : s.hand ≡ Empty → HandHasLeft Q (joined Empty s.frame)
    had_frame none = subst (λ (h : Hand). HandHasLeft Q (joined h s.frame)) none k.in_hand

    then_parts : BothEffect begins_by transacts_by (both s.descs s.parts) w.control s.hand s.frame (wired fixed w)
        (wired fixed (controller_next fixed w)) a.now a.later a.frame_later → (n : ℕ) → PartHasLeft Q n (a.now n)
    then_parts (of_ring (a_microframe b) nothing) n = subst (λ (ps : StructureSets). PartHasLeft Q n (ps n)) (sym b.parts_stay)
        (both_left n)
    then_parts (of_ring (a_step v) nothing) n =
        ring_parts Q transacts_by s.member (both s.descs s.parts) s.hand (wired fixed w) (wired fixed
        (controller_next fixed w)) a.now a.later
        (walk_place (controller_parts w)).walk.reply runs.ring.in_hand (rings nothing.0) v.kind v.effect (had_ring nothing.0) both_left n
    then_parts (of_frame v) n =
        frame_parts Q transacts_by (met w.driver s.recent) (both s.descs s.parts) w.control.frame s.frame (wired fixed w)
        (wired fixed (controller_next fixed w)) a.now a.frame_later (runs.walk v.part).in_hand (frames v.nothing) v.kind v.effect
        (had_frame v.nothing) both_left n

    then_hand : BothEffect begins_by transacts_by (both s.descs s.parts) w.control s.hand s.frame (wired fixed w)
        (wired fixed (controller_next fixed w)) a.now a.later a.frame_later → HandHasLeft Q (joined a.later a.frame_later)
    then_hand (of_ring (a_microframe b) nothing) =
        subst (λ (f : FrameHand). HandHasLeft Q (joined a.later f)) (sym nothing.1) (subst (HandHasLeft Q) (sym b.hand_stays)
        (had_ring nothing.0))
    then_hand (of_ring (a_step v) nothing) =
        subst (λ (f : FrameHand). HandHasLeft Q (joined a.later f)) (sym nothing.1)
        (ring_hand Q transacts_by s.member (both s.descs s.parts) s.hand (wired fixed w) (wired fixed
        (controller_next fixed w)) a.now a.later
        (walk_place (controller_parts w)).walk.reply runs.ring.in_hand (rings nothing.0) v.kind v.effect)
    then_hand (of_frame v) =
        subst (λ (h : Hand). HandHasLeft Q (joined h a.frame_later)) (sym (v.hand_stays ∙ v.nothing))
        (frame_hand Q transacts_by (met w.driver s.recent) (both s.descs s.parts) w.control.frame s.frame (wired fixed w)
        (wired fixed (controller_next fixed w)) a.now a.frame_later (runs.walk v.part).in_hand (frames v.nothing) v.kind v.effect)

    pub event_leaves_errors : HasErrorsLeft Q (standing_then s w a) (controller_next fixed w)
    event_leaves_errors = record {
      parts = λ n. beside s.descs s.parts a.now (λ part now. PartHasLeft Q n part → PartHasLeft Q n now) n (λ old. old)
          (λ same old. then_parts a.effect n) (k.parts n);
      in_hand = then_hand a.effect;
      first = k.first;
    }

-- ---- a missed microframe

module _ (fixed : Fixed) (s : Standing) (w : World) (mixed : IsMixedAt s w) (a : IsEventOf fixed s w) (k : HasErrorsLeft none s w) where
  rings_none : (m : Makes transacts_by (both s.descs s.parts) s.hand (wired fixed w) (wired fixed (controller_next fixed w)) a.later)
      → both s.descs s.parts m.copy.at m.copy.at ≡ Some (QueueHead m.copy.queue)
      → HostHasLeft none (key_of m.copy.queue) m.copy.queue.token.pid (settlement m.copy.queue m.out m.reply).host
  rings_none m here =
      let q = m.copy.queue in
      let token : TokenHasLeft none (key_of q) q.token = (both_left none fixed s w mixed a k m.copy.at).head q here in
      answers_count_none none (key_of q) q.token.pid (call_in (ring_planned q) m.out false).ask
      (call_in (ring_planned q) m.out false).sent false m.reply
      (host_in q) token.met (λ on. absurd (false≢true on)) (λ on. absurd (false≢true on)) (λ on. absurd (false≢true on))

  frames_none : (m : MakesOfQueue transacts_by (both s.descs s.parts) w.control.frame s.frame (wired fixed w) (wired fixed
      (controller_next fixed w)) a.frame_later)
      → IsCopiedQueue (met w.driver s.recent) (both s.descs s.parts) m.copy
      → HostHasLeft none (key_of m.copy.queue) m.copy.queue.token.pid
      (frame_settlement w.control.frame.index m.copy.queue m.out m.reply).host
  frames_none m copied =
      let q = m.copy.queue in
      let token : TokenHasLeft none (key_of q) q.token = (both_left none fixed s w mixed a k m.copy.at).head q copied.here in
      answers_count_none none (key_of q) q.token.pid (call_in (planned q) m.out (is_last_of w.control.frame.index q)).ask
      (call_in (planned q) m.out (is_last_of w.control.frame.index q)).sent (is_last_of w.control.frame.index q) m.reply
      (host_in q) token.met (λ on. absurd (false≢true on)) (λ on. absurd (false≢true on)) (λ on. absurd (false≢true on))

  pub event_misses_none : HasErrorsLeft none (standing_then s w a) (controller_next fixed w)
  event_misses_none = event_leaves_errors none fixed s w mixed a k (λ empty. rings_none)
      (λ empty. frames_none)

pub controller_misses_none : ControllerMissesNone
controller_misses_none fixed w k =
    let c : IsMixedControlled fixed k.standing w = controller_tells_event fixed k.standing w k.mixed in
    record {
      standing = standing_then k.standing w c.event;
      mixed = c.mixed;
      left = event_misses_none fixed k.standing w k.mixed c.event
          k.left;
    }

pub driver_misses_none : DriverMissesNone
driver_misses_none w k =
    let n : IsMixedNext k.standing w (driver_next w) = driver_tells_step k.standing w k.mixed in
    record { standing = n.standing; mixed = n.mixed; left = driver_leaves_errors none k.standing w n.standing k.mixed n.step k.left }

pub command_misses_none : CommandMissesNone
command_misses_none w line cmd can room k = record {
  standing = k.standing;
  mixed = command_keeps_standing k.standing w line cmd can room k.mixed;
  left = record { parts = k.left.parts; in_hand = k.left.in_hand; first = command_publishes w line cmd k.left.first };
}

-- ---- each moment

no_list_head : (n : ℕ) (q : Qh) → list_parts n n ≡ Some (QueueHead q) → ⊥
no_list_head n q here =
    ⊎_elim (λ (is : (n ≡ 0) × (n ≡ 0) × (QueueHead q ≡ Table empty_list)). apart is.2) (λ (was : no_parts n n ≡ Some
    (QueueHead q)). nothing was)
    (put_found no_parts 0 0 (Table empty_list) n n (QueueHead q) here)
  where
    apart : QueueHead q ≡ Table empty_list → ⊥
    apart e = cc

    nothing : no_parts n n ≡ Some (QueueHead q) → ⊥
    nothing e = cc

no_list_qtd : (n a : ℕ) (t : Qtd) → list_parts n a ≡ Some (Element t) → ⊥
no_list_qtd n a t here =
    ⊎_elim (λ (is : (n ≡ 0) × (a ≡ 0) × (Element t ≡ Table empty_list)). apart is.2) (λ (was : no_parts n a ≡ Some
    (Element t)). nothing was)
    (put_found no_parts 0 0 (Table empty_list) n a (Element t) here)
  where
    apart : Element t ≡ Table empty_list → ⊥
    apart e = cc

    nothing : no_parts n a ≡ Some (Element t) → ⊥
    nothing e = cc

opening_head_alone : (n : ℕ) (q : Qh) → opening_parts n n ≡ Some (QueueHead q) → q ≡ opening_head
opening_head_alone n q here =
    ⊎_elim (λ (is : (n ≡ 4096) × (n ≡ 4096) × (QueueHead q ≡ QueueHead opening_head)). same_queue q opening_head is.2)
    (λ (was : list_parts n n ≡ Some (QueueHead q)). absurd (no_list_head n q was)) (put_found list_parts 4096 4096
    (QueueHead opening_head) n n (QueueHead q) here)

no_qtd : (n a : ℕ) (t : Qtd) → opening_parts n a ≡ Some (Element t) → ⊥
no_qtd n a t here =
    ⊎_elim (λ (is : (n ≡ 4096) × (a ≡ 4096) × (Element t ≡ QueueHead opening_head)). apart t is.2)
    (λ (was : list_parts n a ≡ Some (Element t)). no_list_qtd n a t was) (put_found list_parts 4096 4096 (QueueHead opening_head) n a
    (Element t) here)
  where
    apart : (u : Qtd) → Element u ≡ QueueHead opening_head → ⊥
    apart u e = cc

pub head_alone : (Q : Key → Bool) → Q (key_of opening_head) ≡ false → (n : ℕ) → PartHasLeft Q n (opening_parts n)
head_alone Q off n = record {
  head = λ q here. by q (opening_head_alone n q here);
  elements = λ q a t here there. absurd (no_qtd n a t there);
}
  where
    by : (q : Qh) → q ≡ opening_head → TokenHasLeft Q (key_of q) q.token
    by q is = subst (λ (r : Qh). TokenHasLeft Q (key_of r) r.token) (sym is)
        (record {
          met = λ high. refl;
          going = λ on. absurd (false≢true (sym off ∙ on));
          stopped = λ on. absurd (false≢true (sym off ∙ on));
          setup = λ on. absurd (false≢true (sym off ∙ on));
        })

pub new_world_misses_none : NewWorldMissesNone
new_world_misses_none s fit bytes =
    record {
      standing = new_standing;
      mixed = new_mixed s fit bytes;
      left = record { parts = head_alone none refl; in_hand = tt; first = tt };
    }

is_kept : (s : Script) → IsKeptBy (fixed_of s) OpensMixed IsUnmissedWorld
is_kept s = record {
  driver = λ w k. driver_misses_none w k;
  controller = λ w k. controller_misses_none (fixed_of s) w k;
  command = λ w line cmd can room k. command_misses_none w line cmd can room k;
}

pub scripts_miss_none : ScriptsMissNone
scripts_miss_none s fit bytes opens k =
    holds_throughout OpensMixed IsUnmissedWorld s fit (lines_can s.lines opens) (new_world_misses_none s fit bytes) (is_kept s) k

pub texts_miss_none : TextsMissNone
texts_miss_none text s spelled =
    scripts_miss_none s (spelled_fits text s spelled) (a_text_spells_bytes text s spelled)
    (lines_fit s.lines (texts_fit text s spelled) (texts_open_fitting text s spelled))
