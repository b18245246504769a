-- Along a frame the complete-splits of an interrupt endpoint below a hub follow its start-split until one is answered: each is due as its
-- microframe begins (EHCI 1.0, 4.12.2.1 and 4.12.2.4).
use Rattle.std.proofs.Common.{◌≡◌, ◌≢◌, ℕ, zero, suc, ◌+◌, ◌*◌, ◌/◌, ◌%◌, ◌≤◌, ◌<◌, Bool, true, false, not, if◌then◌else◌, List, Some, ap}
use Rattle.std.proofs.Common.{refl}
use Rattle.std.proofs.Common.{sym, subst, ◌∙◌, arith, ⊎_elim, inl, inr, ◌⊎◌}
use Rattle.std.specs.Prelude.{◌==◌}
use Rattle.std.proofs.lemmas.Bool.{cases_Bool, cases_eq, true≢false}
use Rattle.script_types.specs.declared.scripts.Script.{Script}
use Rattle.script_text.specs.Faults.{Spells}
use Rattle.script_fits.proofs.Texts.{spelled_fits}
use Rattle.word_mem.specs.Memory.{word_at}
use Rattle.qh_qtd.specs.declared.queue_head.Qh.{Qh}
use Rattle.bandwidth.specs.declared.placements.Placement.{Placement}
use Rattle.bandwidth.specs.Placements.{is_classic}
use Rattle.bandwidth.specs.Sums.{is_active}
use Rattle.mem_queues.specs.Structures.{queue_head_at_address}
use Rattle.hc_copy.specs.Visits.{visit_of}
use Rattle.hc_masks.specs.Masks.{has, is_last, lacks, with_bit}
use Rattle.hc_interrupt.specs.declared.turns.Turn.TheVariants as turns
use Rattle.hc_interrupt.specs.Turns.{microframe_of, tag_of, waits, is_missed, complete_turn, start_turn, turn_of}
use Rattle.hc_core.specs.declared.controller.ControllerRow.TheVariants as rows
use Rattle.hc_core.specs.declared.controller.MicroframePart.TheVariants.{Periodic}
use Rattle.bus_wire.specs.Bus.{Fixed, fixed_of}
use Rattle.bus_world.specs.Budgets.{moment}
use Rattle.bus_world.specs.World.{World, controller_row, controller_next}
use Rattle.claims_world.specs.Coming.{IsInItsFrames}
use Rattle.claims_world.specs.DueAtBegin.{begun, IsUncancelled}
use Rattle.claims_world.specs.FrameHeads.{AreAllowed}
use Rattle.claims_world.specs.QueuesMade.{QueueMade, queues_made, HasMade}
use Rattle.claims_world.specs.SoFar.{so_far}
use Rattle.claims_world.specs.SplitsAtBegin.{IsStartDue, IsCompleteDue}
use Rattle.claims_world.specs.Visits.{IsPastFrames, began, frame_in, visited}
use Rattle.claims_world.specs.WithinLoad.{repeats}
use Rattle.law_world.specs.memory.Mixed.{IsMixedWorld}
use Rattle.law_world.proofs.lemmas.memory.Together.{texts_stay_mixed}
use Rattle.law_microframes.specs.visits.Belonging.{HeadsHaveFields}
use Rattle.law_microframes.proofs.lemmas.time.SplitMasked.{scripts_keep_allowed}
use Rattle.law_microframes.proofs.lemmas.translators.FrameIndex.{HasFrameIndex}
use Rattle.law_microframes.proofs.lemmas.visits.BelongReads.{HasReadFields, read_fields}
use Rattle.claims_world.specs.SplitFrames.{IsOneFrame, IsAnswer, IsNotYet, WasAnswered, SplitsFollowInFrame, CompletesAreAnswered}
use Rattle.claims_world.specs.SplitFrames.{IsAsFar}
use Rattle.law_reports.specs.pipes.Declared.{sides_of}
use Rattle.law_reports.proofs.lemmas.due_at_begin.Aside.{its_words}
use Rattle.law_reports.proofs.lemmas.due_at_begin.BegunMoments.{so_as_begun, BeginsNow, begun_then}
use Rattle.law_reports.proofs.lemmas.due_at_begin.FrameIndex.{begins_index, has_index, shows_index, HasStayed, stays_then, next_in_frame}
use Rattle.law_reports.proofs.lemmas.due_at_begin.FrameMasks.{none_over, rest_lacks, done_lacks, none_lacks, IsOnTime, is_on_time}
use Rattle.law_reports.proofs.lemmas.due_at_begin.FrameMasks.{none_missed, IsNextOf, next_on_time, started_on_time}
use Rattle.law_reports.proofs.lemmas.due_at_begin.HeadMasks.{HasPlaced, MasksHold, masks_hold, PacketsHold, packets_hold}
use Rattle.law_reports.proofs.lemmas.due_at_begin.Moments.{known_at, heads_at}
use Rattle.law_reports.proofs.lemmas.due_at_begin.NotYet.{GoesOn, is_answered, was_last, is_left, completes_go_on}
use Rattle.law_reports.proofs.lemmas.due_at_begin.Resting.{IsResting, is_apart, controller_rests}
use Rattle.law_reports.proofs.lemmas.due_at_begin.RestingMicroframes.{RestsFrom, before_then, rest_at}
use Rattle.law_reports.proofs.lemmas.due_at_begin.RestingMoments.{classic, out_apart, begin_part}
use Rattle.law_reports.proofs.lemmas.due_at_begin.SplitOrder.{StartsFirst, starts_first}
use Rattle.law_reports.proofs.lemmas.due_at_begin.SplitTurns.{itself_as_due, waits_same, missed_same, waiting_split}
use Rattle.law_reports.proofs.lemmas.due_at_begin.SplitTurns.{as_far_as, far_as_due}
use Rattle.law_reports.proofs.lemmas.due_at_begin.StartedMoments.{StartLeft, start_left}
use Rattle.law_reports.proofs.lemmas.due_at_begin.WrittenMoments.{HasLeft, IsSince, since_at}

-- ---- its complete-splits come after its start-split

abbrev pub OrderHolds : World → Type 0
OrderHolds w = (e q : ℕ) (p : Placement) (i : IsInItsFrames w.driver e q p) → is_classic i.endpoint.desc.speed ≡ true → StartsFirst p

-- ---- it waits as a microframe begins, none was missed, and it is as far as v

pub record IsWaitingAt (b : World) (e q : ℕ) (p : Placement) (v : Qh) : Type 0 where
  pub there : IsInItsFrames b.driver e q p
  pub active : is_active p (frame_in b.control.frame.index) ≡ true
  pub classic : is_classic there.endpoint.desc.speed ≡ true
  pub queue : Qh
  pub read : queue_head_at_address b.memory (32 * q) ≡ Some queue
  pub waiting : waits queue ≡ true
  pub unmissed : is_missed b.control.frame.index queue ≡ false
  pub far : IsAsFar v queue

-- where A tells of a moment that an answer was heard
pub data Story (s : Script) (A : ℕ → Type 0) (i k e q : ℕ) (p : Placement) (v : Qh) : Type 0 where
  in_start : begun s k ≡ begun s i → Story s A i k e q p v
  is_waiting : IsWaitingAt (begun s k) e q p v → Story s A i k e q p v
  has_answer : (at : ℕ) → i ≤ at → at < k → A at → Story s A i k e q p v
  is_over : (u : ℕ) → is_last p.cmask u ≡ true → u < microframe_of (begun s k).control.frame.index → Story s A i k e q p v

complete_rests : (f : ℕ) (v : Qh) → waits v ≡ true → is_missed f v ≡ false → has v.cmask (microframe_of f) ≡ false → turn_of f v ≡ turns.Rest
complete_rests f v waiting unmissed off =
    ap (λ (b : Bool). if b then complete_turn (is_missed f v) (has v.cmask (microframe_of f))
    else start_turn (visit_of (has v.smask (microframe_of f)) v)) waiting
    ∙ ap (λ (b : Bool). complete_turn b (has v.cmask (microframe_of f))) unmissed ∙ ap (complete_turn false) off

module _ (text : List ℕ) (s : Script) (spelled : Spells text s) where
  masks_begun : (k : ℕ) → MasksHold (begun s k)
  masks_begun k =
      so_as_begun MasksHold s (λ e q p i v is. let none = i.here in cc)
      (λ j. masks_hold (moment s j).world (texts_stay_mixed text s spelled j) (heads_at text s spelled j)) k

  pub packets_begun : (k : ℕ) → PacketsHold (begun s k)
  packets_begun k =
      so_as_begun PacketsHold s (λ e q p i v is. let none = i.here in cc)
      (λ j. packets_hold (moment s j).world (texts_stay_mixed text s spelled j) (heads_at text s spelled j)) k

  pub order_begun : (k : ℕ) → OrderHolds (begun s k)
  order_begun k =
      so_as_begun OrderHolds s (λ e q p i slow. let none = i.here in cc)
      (λ j. starts_first (moment s j).world (texts_stay_mixed text s spelled j) (scripts_keep_allowed s (spelled_fits text s spelled) j)) k

  -- ---- the next microframe begins

  module _ (A : ℕ → Type 0) (i k e q : ℕ) (r : Placement) (first : Qh) (n : BeginsNow s k) (less : i ≤ k) (one : IsOneFrame s i (suc k))
      (off : IsUncancelled (moment s k).world.driver e)
      (resolves : IsPastFrames (moment s k).world → (c : IsCompleteDue (fixed_of s) (begun s k) e q) → IsAsFar first c.split.queue
      → has r.cmask (microframe_of (begun s k).control.frame.index) ≡ true → GoesOn (A k) c.split.queue (32 * q) (begun s k).control.frame.index (queues_made s k)) where
    abbrev w : World
    w = (moment s k).world

    abbrev new : World
    new = controller_next (fixed_of s) (moment s k).world

    mixed_new : IsMixedWorld (controller_next (fixed_of s) (moment s k).world)
    mixed_new = subst IsMixedWorld n.world (texts_stay_mixed text s spelled (suc k))

    heads_new : HeadsHaveFields (controller_next (fixed_of s) (moment s k).world).driver
        (controller_next (fixed_of s) (moment s k).world).memory
    heads_new = subst (λ (u : World). HeadsHaveFields u.driver u.memory) n.world (heads_at text s spelled (suc k))

    frame_then : (controller_next (fixed_of s) (moment s k).world).control.frame.index / 8 ≡ (moment s k).world.control.frame.index / 8
    frame_then =
        ap (λ (u : World). u.control.frame.index / 8) (sym n.world) ∙ one.same (suc k) (omega (arith, less)) (omega arith)
        ∙ sym (one.same k less (omega arith))

    next : IsNextOf (moment s k).world.control.frame.index (controller_next (fixed_of s) (moment s k).world).control.frame.index
    next =
        let x = next_in_frame w.control.frame.index new.control.frame.index
        (begins_index (fixed_of s) w (shows_index text s spelled k) n.row mixed_new
        (subst HasFrameIndex n.world (has_index text s spelled (suc k)))) frame_then in
        record { low = x.0; next = x.1; frame = ap (λ (m : ℕ). m % 32) frame_then }

    never_periodic : (moment s k).world.control.part ≢ Periodic
    never_periodic on = begin_part w.registers.run w.registers w.control.frame w.control.part n.row on

    past : IsPastFrames (moment s k).world
    past on = absurd (never_periodic on)

    few : repeats s k ≤ 4000000
    few = one.few k less (omega arith)

    waits_new : (p : Placement) (v u : Qh) → IsAsFar u v → waits v ≡ true
        → IsOnTime (controller_next (fixed_of s) (moment s k).world).control.frame.index v
        → is_active p (frame_in (moment s k).world.control.frame.index) ≡ true → IsResting (moment s k).world e q p v
        → IsWaitingAt (controller_next (fixed_of s) (moment s k).world) e q p u
    waits_new p v u far waiting time active r =
        let b : IsResting (controller_next (fixed_of s) (moment s k).world) e q p v =
        controller_rests (fixed_of s) (sides_of s) (began s k) w (so_far s k) (known_at text s spelled k) mixed_new e q p v
        (waiting_split v waiting).work (λ on is. absurd (never_periodic on)) r in
        let h : Qh = b.stands.queue in
        let read : HasReadFields (word_at new.memory (32 * q + 4)) (word_at new.memory (32 * q + 8)) h =
        read_fields new.memory (32 * q) h b.stands.read in
        let fields = its_words new mixed_new heads_new e q p b.frames in
        record {
          there = b.frames;
          active = ap (λ (j : ℕ). is_active p (j % 1024)) frame_then ∙ active;
          classic = classic b.frames.endpoint.desc.speed
              (ap (λ (m : ℕ). m == 2) (sym (read.eps ∙ fields.speed)) ∙ ap (λ (m : ℕ). m == 2) b.stands.due.eps
              ∙ (waiting_split v waiting).low);
          queue = h;
          read = b.stands.read;
          waiting = waits_same v h b.stands.due ∙ waiting;
          unmissed = missed_same new.control.frame.index v h b.stands.due ∙ none_missed new.control.frame.index v time;
          far = as_far_as u v h far (far_as_due v h b.stands.due);
        }

    -- its start-split was made in this microframe
    start_now : (d : IsStartDue (fixed_of s) (begun s k) e q)
        → IsWaitingAt (controller_next (fixed_of s) (moment s k).world) e q d.split.placement d.works
    start_now d =
        let p : Placement = d.split.placement in
        let l : StartLeft (moment s k).world e q d.split.placement (begun s k).control.frame.index d.works =
        start_left text s spelled k e q past few d off in
        let v : Qh = l.queue in
        let u : ℕ = microframe_of w.control.frame.index in
        let m : HasPlaced p v =
        masks_hold w (texts_stay_mixed text s spelled k) (heads_at text s spelled k) e q p l.frames v l.read in
        let o : StartsFirst d.split.placement = order_begun k e q d.split.placement d.split.there d.split.classic in
        let bit : has p.smask u ≡ true = ap (λ (j : ℕ). has p.smask (microframe_of j)) l.index ∙ d.bit in
        waits_new p v d.works l.far l.waiting
        (started_on_time w.control.frame.index new.control.frame.index v next (l.tag ∙ ap tag_of (sym l.index))
        (ap (λ (mask : ℕ). has mask u) m.smask ∙ bit)
        (ap (λ (mask : ℕ). lacks mask v.c_prog (suc u)) m.cmask
        ∙ none_lacks p.cmask v.c_prog (suc u) (λ j below. o.none u j next.low bit (omega (arith, below)))))
        (ap (λ (j : ℕ). is_active p (frame_in j)) l.index ∙ d.split.active)
        (record {
          frames = l.frames;
          stands = record { queue = v; read = l.read; due = itself_as_due v };
          hand = is_apart (out_apart w (32 * q) l.out);
        })

    -- it waits
    module _ (x : IsWaitingAt (begun s k) e q r first) where
      abbrev p : Placement
      p = r

      since : IsSince (begun s k) (moment s k).world (queues_made s k) (visited s k) e q p
      since = since_at text s spelled k e q p x.there x.active off

      m : HasPlaced p x.queue
      m = masks_begun k e q p x.there x.queue x.read

      time_now : IsOnTime (moment s k).world.control.frame.index x.queue
      time_now =
          subst (λ (j : ℕ). IsOnTime j x.queue) (sym since.index) (is_on_time (begun s k).control.frame.index x.queue x.unmissed)

      active : is_active p (frame_in (moment s k).world.control.frame.index) ≡ true
      active = ap (λ (j : ℕ). is_active p (frame_in j)) since.index ∙ x.active

      waits_then : IsWaitingAt (controller_next (fixed_of s) (moment s k).world) e q p first → Story s A i (suc k) e q p first
      waits_then y = is_waiting (subst (λ (b : World). IsWaitingAt b e q p first) (sym n.begun) y)

      -- with nothing to do
      rests_on : has p.cmask (microframe_of (moment s k).world.control.frame.index) ≡ false → Story s A i (suc k) e q p first
      rests_on bit =
          let v : Qh = x.queue in
          let u : ℕ = microframe_of w.control.frame.index in
          let bit_now : has v.cmask u ≡ false = ap (λ (mask : ℕ). has mask u) m.cmask ∙ bit in
          let bit_then : has v.cmask (microframe_of (begun s k).control.frame.index) ≡ false =
          ap (λ (j : ℕ). has v.cmask (microframe_of j)) (sym since.index) ∙ bit_now in
          let from : RestsFrom (begun s k) e q p x.queue = record {
            frames = x.there;
            active = x.active;
            read = x.read;
            waiting = x.waiting;
            rests = complete_rests (begun s k).control.frame.index x.queue x.waiting x.unmissed bit_then;
          } in
          waits_then (waits_new p v first x.far x.waiting
          (next_on_time w.control.frame.index new.control.frame.index v v next (record { smask = refl; cmask = refl; tag = refl }) time_now
          (rest_lacks v.cmask v.c_prog u time_now.all bit_now)) active
          (rest_at text s spelled e q p v k from off))

      -- with its complete-split
      left_on : (z : Qh) → HasLeft (moment s k).world (32 * q) z (visited s k)
          → z.c_prog ≡ with_bit x.queue.c_prog (microframe_of (begun s k).control.frame.index)
          → z.frame_tag ≡ tag_of (begun s k).control.frame.index → IsAsFar x.queue z → Story s A i (suc k) e q p first
      left_on z l progress tag far =
          let v : Qh = x.queue in
          let y : Qh = l.queue in
          let u : ℕ = microframe_of w.control.frame.index in
          let has_masks : HasPlaced p y =
          masks_hold w (texts_stay_mixed text s spelled k) (heads_at text s spelled k) e q p since.frames y l.read in
          let done : y.c_prog ≡ with_bit v.c_prog u =
          l.goes.progress ∙ progress ∙ ap (λ (j : ℕ). with_bit v.c_prog (microframe_of j)) (sym since.index) in
          waits_then (waits_new p y first
          (as_far_as first x.queue y x.far (as_far_as x.queue z y far l.goes.far)) (l.goes.waiting ∙ l.waiting)
          (next_on_time w.control.frame.index new.control.frame.index v y next
          (record {
            smask = has_masks.smask ∙ sym m.smask;
            cmask = has_masks.cmask ∙ sym m.cmask;
            tag = l.goes.tag ∙ tag ∙ sym (is_on_time (begun s k).control.frame.index x.queue x.unmissed).tag;
          }) time_now
          (ap (λ (c : ℕ). lacks v.cmask c (suc u)) done ∙ done_lacks v.cmask v.c_prog u next.low time_now.all)) active
          (record {
            frames = since.frames;
            stands = record { queue = y; read = l.read; due = itself_as_due y };
            hand = is_apart (out_apart w (32 * q) l.out);
          }))

      asks_on : GoesOn (A k) x.queue (32 * q) (begun s k).control.frame.index (queues_made s k) → Story s A i (suc k) e q p first
      asks_on (is_answered a) = has_answer k less (omega arith) a
      asks_on (was_last last a) =
          let f : ℕ = (begun s k).control.frame.index in
          let same : microframe_of (begun s (suc k)).control.frame.index ≡ suc (microframe_of f) =
          ap (λ (b : World). microframe_of b.control.frame.index) n.begun ∙ next.next
          ∙ ap (λ (j : ℕ). suc (microframe_of j)) since.index in
          is_over (microframe_of f) (ap (λ (mask : ℕ). is_last mask (microframe_of f)) (sym m.cmask) ∙ last)
          (omega (arith, same))
      asks_on (is_left z left a progress tag far) = left_on z (since.left z left) progress tag far

      due_now : has p.cmask (microframe_of (begun s k).control.frame.index) ≡ true → IsCompleteDue (fixed_of s) (begun s k) e q
      due_now bit = record {
        split = record {
          placement = p;
          there = x.there;
          active = x.active;
          classic = x.classic;
          free = one.free k less (omega arith);
          queue = x.queue;
          read = x.read;
        };
        waiting = x.waiting;
        unmissed = x.unmissed;
        bit = bit;
      }

      asks : has p.cmask (microframe_of (moment s k).world.control.frame.index) ≡ true → Story s A i (suc k) e q p first
      unfolding due_now
      asks bit =
          let bit_then : has p.cmask (microframe_of (begun s k).control.frame.index) ≡ true =
          ap (λ (j : ℕ). has p.cmask (microframe_of j)) (sym since.index) ∙ bit in
          asks_on (resolves past (due_now bit_then) x.far bit_then)

      waits_on : Story s A i (suc k) e q p first
      waits_on =
          ⊎_elim {C = Story s A i (suc k) e q p first} asks rests_on
          (cases_Bool (has p.cmask (microframe_of (moment s k).world.control.frame.index)))

    -- ---- each

    over_on : (u : ℕ) → u < microframe_of (begun s k).control.frame.index → HasStayed s k
        → u < microframe_of (begun s (suc k)).control.frame.index
    over_on u below stayed =
        let same : microframe_of (begun s (suc k)).control.frame.index ≡ suc (microframe_of (begun s k).control.frame.index) =
        ap (λ (b : World). microframe_of b.control.frame.index) n.begun ∙ next.next ∙ ap (λ (j : ℕ). suc (microframe_of j)) stayed in
        omega (arith, same, below)

  module _ (A : ℕ → Type 0) (i k e q : ℕ) (d : IsStartDue (fixed_of s) (begun s i) e q) (n : BeginsNow s k) (less : i ≤ k)
      (one : IsOneFrame s i (suc k)) (off : IsUncancelled (moment s k).world.driver e)
      (resolves : IsPastFrames (moment s k).world → (c : IsCompleteDue (fixed_of s) (begun s k) e q) → IsAsFar d.works c.split.queue
      → has d.split.placement.cmask (microframe_of (begun s k).control.frame.index) ≡ true
      → GoesOn (A k) c.split.queue (32 * q) (begun s k).control.frame.index (queues_made s k)) where
    begins_on : HasStayed s k → Story s A i k e q d.split.placement d.works → Story s A i (suc k) e q d.split.placement d.works
    begins_on stayed (in_start same) =
        is_waiting (subst (λ (b : World). IsWaitingAt b e q d.split.placement d.works) (sym n.begun)
        (subst (λ (b : World). (c : IsStartDue (fixed_of s) b e q)
        → IsWaitingAt (controller_next (fixed_of s) (moment s k).world) e q c.split.placement c.works) same
        (start_now A i k e q d.split.placement d.works n less one off resolves) d))
    begins_on stayed (is_waiting x) = waits_on A i k e q d.split.placement d.works n less one off resolves x
    begins_on stayed (has_answer at from before a) = has_answer at from (omega (arith, before)) a
    begins_on stayed (is_over u last below) =
        is_over u last (over_on A i k e q d.split.placement d.works n less one off resolves u below stayed)

  -- ---- the microframe goes on

  module _ (A : ℕ → Type 0) where
    same_on : (i k e q : ℕ) (p : Placement) (v : Qh) → begun s (suc k) ≡ begun s k → Story s A i k e q p v
        → Story s A i (suc k) e q p v
    same_on i k e q p v same (in_start was) = in_start (same ∙ was)
    same_on i k e q p v same (is_waiting x) = is_waiting (subst (λ (b : World). IsWaitingAt b e q p v) (sym same) x)
    same_on i k e q p v same (has_answer at from before a) = has_answer at from (omega (arith, before)) a
    same_on i k e q p v same (is_over u last below) =
        is_over u last (subst (λ (b : World). u < microframe_of b.control.frame.index) (sym same) below)

    -- ---- along the frame

    pub record IsTold (i k e q : ℕ) (p : Placement) (v : Qh) : Type 0 where
      pub stayed : HasStayed s k
      pub story : Story s A i k e q p v

    module _ (i e q end : ℕ) (d : IsStartDue (fixed_of s) (begun s i) e q)
        (resolves : (k : ℕ) → i ≤ k → k < end → IsOneFrame s i (suc k) → IsUncancelled (moment s k).world.driver e
        → IsPastFrames (moment s k).world → (c : IsCompleteDue (fixed_of s) (begun s k) e q) → IsAsFar d.works c.split.queue
        → has d.split.placement.cmask (microframe_of (begun s k).control.frame.index) ≡ true
        → GoesOn (A k) c.split.queue (32 * q) (begun s k).control.frame.index (queues_made s k)) where
      one_more : (k : ℕ) → i ≤ k → k < end → IsOneFrame s i (suc k) → IsUncancelled (moment s k).world.driver e
          → IsTold i k e q d.split.placement d.works → IsTold i (suc k) e q d.split.placement d.works
      one_more k less under one off t = record {
        stayed = stays_then s k t.stayed;
        story = ⊎_elim {C = Story s A i (suc k) e q d.split.placement d.works}
            (λ (same : begun s (suc k) ≡ begun s k). same_on i k e q d.split.placement d.works same t.story)
            (λ (n : BeginsNow s k).
            begins_on A i k e q d n less one off (λ past c far bit. resolves k less under one off past c far bit) t.stayed t.story)
            (begun_then s k);
      }

      shorter : (k : ℕ) → IsOneFrame s i (suc k) → IsOneFrame s i k
      shorter k one = record {
        same = λ j from up. one.same j from (omega (arith, up));
        free = λ j from up. one.free j from (omega (arith, up));
        few = λ j from up. one.few j from (omega (arith, up));
      }

      starts : (k : ℕ) → i ≡ k → IsUncancelled (moment s k).world.driver e → IsTold i k e q d.split.placement d.works
      starts k here off =
          subst (λ (j : ℕ). IsUncancelled (moment s j).world.driver e → IsTold i j e q d.split.placement d.works) here
          (λ on. record {
            stayed = (since_at text s spelled i e q d.split.placement d.split.there d.split.active on).index;
            story = in_start refl;
          }) off

      pub told : (k : ℕ) → i ≤ k → k ≤ end → IsOneFrame s i k → IsUncancelled (moment s k).world.driver e
          → IsTold i k e q d.split.placement d.works
      told zero less under one off = starts zero (omega (arith, less)) off
      told (suc k) less under one off =
          ⊎_elim {C = IsTold i (suc k) e q d.split.placement d.works}
          (λ (here : i ≡ suc k). starts (suc k) here off)
          (λ (apart : i ≢ suc k).
          let before : IsUncancelled (moment s k).world.driver e =
          before_then text s spelled e q d.split.placement d.split.queue k off in
          one_more k (below k less apart) (omega (arith, under)) one before
          (told k (below k less apart) (omega (arith, under)) (shorter k one) before))
          (cases_eq i (suc k))
        where
          below : (k : ℕ) → i ≤ suc k → i ≢ suc k → i ≤ k
          below k less apart = omega (arith, less, apart)

  -- ---- the law

  module _ (i e q : ℕ) (d : IsStartDue (fixed_of s) (begun s i) e q) where
    abbrev its_place : Placement
    its_place = d.split.placement

    pub no_bit_yet : (k : ℕ) → begun s k ≡ begun s i
        → has d.split.placement.cmask (microframe_of (begun s k).control.frame.index) ≡ true → ⊥
    no_bit_yet k same bit =
        let f : ℕ = (begun s i).control.frame.index in
        let bit_then : has its_place.cmask (microframe_of f) ≡ true =
        ap (λ (b : World). has its_place.cmask (microframe_of b.control.frame.index)) (sym same) ∙ bit in
        let none = (order_begun i e q its_place d.split.there d.split.classic).none (microframe_of f) (microframe_of f) (omega arith) d.bit
        (omega arith) in
        true≢false (sym bit_then ∙ none)

    -- an answer was heard, or it waits
    pub data Follows (A : ℕ → Type 0) (k : ℕ) : Type 0 where
      had_answer : (at : ℕ) → i ≤ at → at < k → A at → Follows A k
      is_due : IsWaitingAt (begun s k) e q d.split.placement d.works → Follows A k

    pub follows : (A : ℕ → Type 0) (k : ℕ) → has d.split.placement.cmask (microframe_of (begun s k).control.frame.index) ≡ true
        → Story s A i k e q d.split.placement d.works → Follows A k
    follows A k bit (in_start same) = absurd (no_bit_yet k same bit)
    follows A k bit (is_waiting x) = is_due x
    follows A k bit (has_answer at from before a) = had_answer at from before a
    follows A k bit (is_over u last below) =
        absurd (true≢false (sym bit ∙ none_over its_place.cmask u (microframe_of (begun s k).control.frame.index) last below (omega arith)))

    abbrev pub its_complete : (k : ℕ) → i ≤ k → IsOneFrame s i k
        → has d.split.placement.cmask (microframe_of (begun s k).control.frame.index) ≡ true
        → IsWaitingAt (begun s k) e q d.split.placement d.works → IsCompleteDue (fixed_of s) (begun s k) e q
    its_complete k less one bit x = record {
      split = record {
        placement = d.split.placement;
        there = x.there;
        active = x.active;
        classic = x.classic;
        free = one.free k less (omega arith);
        queue = x.queue;
        read = x.read;
      };
      waiting = x.waiting;
      unmissed = x.unmissed;
      bit = bit;
    }

-- ---- it follows

abbrev Heard : Script → ℕ → ℕ → Type 0
Heard s n k = HasMade (IsAnswer n) (queues_made s k)

pub completes_follow : (text : List ℕ) (s : Script) → Spells text s → SplitsFollowInFrame s
completes_follow text s spelled i k e q less d one off bit =
    by (follows text s spelled i e q d (Heard s (32 * q)) k bit
    (told text s spelled (Heard s (32 * q)) i e q k d
    (λ j from under one off past c far bit. completes_go_on text s spelled j e q past (one.few j from (omega arith)) c off) k less
    (omega arith) one off).story)
  where
    by : Follows text s spelled i e q d (Heard s (32 * q)) k → WasAnswered s i k (32 * q) ⊎ IsCompleteDue (fixed_of s) (begun s k) e q
    by (had_answer at from before a) = inl (record { at = at; from = from; before = before; made = a })
    by (is_due x) = inr (its_complete text s spelled i e q d k less one bit x)

answered_by : (s : Script) (i k n : ℕ) (v : Qh) (f : ℕ) → i ≤ k → GoesOn (Heard s n k) v n f (queues_made s k)
    → WasAnswered s i (suc k) n ⊎ HasMade (IsNotYet n) (queues_made s k)
answered_by s i k n v f less (is_answered a) = inl (record { at = k; from = less; before = omega arith; made = a })
answered_by s i k n v f less (was_last last a) = inr a
answered_by s i k n v f less (is_left z left a progress tag far) = inr a

pub completes_are_answered : (text : List ℕ) (s : Script) → Spells text s → CompletesAreAnswered s
completes_are_answered text s spelled i k e q less d one off bit past =
    ⊎_elim {C = WasAnswered s i (suc k) (32 * q) ⊎ HasMade (IsNotYet (32 * q)) (queues_made s k)}
    (λ (a : WasAnswered s i k (32 * q)).
    let before = a.before in inl (record { at = a.at; from = a.from; before = omega (arith, before); made = a.made }))
    (λ (c : IsCompleteDue (fixed_of s) (begun s k) e q).
    answered_by s i k (32 * q) c.split.queue (begun s k).control.frame.index less
    (completes_go_on text s spelled k e q past (one.few k less (omega arith)) c off))
    (completes_follow text s spelled i k e q less d one off bit)
