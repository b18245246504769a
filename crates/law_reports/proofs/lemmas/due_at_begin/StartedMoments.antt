-- Along a run the start-split of an interrupt endpoint that was due leaves its queue head waiting in memory, and the walk of the frames
-- doesn't come to it again in the microframe (EHCI 1.0, 4.10.3 and 4.12.2.4).
use Rattle.std.proofs.Common.{◌≡◌, ℕ, ◌*◌, ◌≤◌, true, List, [], ◌∷◌, Some, ap, refl, sym, ◌∙◌, inl, inr}
use Rattle.script_types.specs.declared.scripts.Script.{Script}
use Rattle.script_text.specs.Faults.{Spells}
use Rattle.qh_qtd.specs.declared.queue_head.Qh.{Qh}
use Rattle.bandwidth.specs.declared.placements.Placement.{Placement}
use Rattle.bandwidth.specs.Sums.{is_active}
use Rattle.mem_queues.specs.Structures.{queue_head_at_address}
use Rattle.hc_interrupt.specs.Turns.{tag_of, waits}
use Rattle.bus_wire.specs.Bus.{fixed_of}
use Rattle.bus_world.specs.Budgets.{moment}
use Rattle.bus_world.specs.World.{World}
use Rattle.claims_world.specs.Coming.{IsInItsFrames}
use Rattle.claims_world.specs.DueAtBegin.{begun, IsUncancelled}
use Rattle.claims_world.specs.QueuesMade.{QueueMade, queues_made, HasMade}
use Rattle.claims_world.specs.SplitsAtBegin.{IsStartDue}
use Rattle.claims_world.specs.Visits.{IsPastFrames, frame_in}
use Rattle.claims_world.specs.WithinLoad.{repeats}
use Rattle.law_reports.specs.due_at_begin.SplitsFollow.{IsOutOfHand, StartsWait}
use Rattle.claims_world.specs.SplitFrames.{IsAsFar}
use Rattle.law_reports.proofs.lemmas.due_at_begin.SplitDue.{Anything, IsStartedWaiting, start_waits_due}
use Rattle.law_reports.proofs.lemmas.due_at_begin.SplitRuns.{splits_are_made}
use Rattle.law_reports.proofs.lemmas.due_at_begin.SplitTurns.{as_far_as}
use Rattle.law_reports.proofs.lemmas.due_at_begin.WrittenMoments.{LeavesWaiting, since_at}

-- ---- the start-split that was made

pub record FoundStarted (v : Qh) (n f : ℕ) (ms : List QueueMade) : Type 0 where
  pub queue : Qh
  pub left : HasMade (LeavesWaiting n queue) ms
  pub none : queue.c_prog ≡ 0
  pub tag : queue.frame_tag ≡ tag_of f
  pub far : IsAsFar v queue

pub found_started : (v : Qh) (n f : ℕ) (ms : List QueueMade) → HasMade (IsStartedWaiting v n f) ms → FoundStarted v n f ms
found_started v n f [] was = absurd was
found_started v n f (m ∷ ms) (inl x) = record {
  queue = m.queue;
  left = inl (record { at = x.started.at; queue = refl; waiting = x.started.waiting; wait = x.wait });
  none = x.started.none;
  tag = x.started.frame;
  far = x.far;
}
found_started v n f (m ∷ ms) (inr was) =
    let g = found_started v n f ms was in record { queue = g.queue; left = inr g.left; none = g.none; tag = g.tag; far = g.far }

-- ---- what it left

pub record StartLeft (w : World) (e q : ℕ) (p : Placement) (f : ℕ) (v : Qh) : Type 0 where
  pub frames : IsInItsFrames w.driver e q p
  pub index : w.control.frame.index ≡ f
  pub queue : Qh
  pub read : queue_head_at_address w.memory (32 * q) ≡ Some queue
  pub waiting : waits queue ≡ true
  pub none : queue.c_prog ≡ 0
  pub tag : queue.frame_tag ≡ tag_of f
  pub out : IsOutOfHand w (32 * q)
  pub far : IsAsFar v queue

module _ (text : List ℕ) (s : Script) (spelled : Spells text s) where
  starts_are_waiting : (k e q : ℕ) → IsPastFrames (moment s k).world → repeats s k ≤ 4000000
      → (d : IsStartDue (fixed_of s) (begun s k) e q) → IsUncancelled (moment s k).world.driver e
      → HasMade (IsStartedWaiting d.works (32 * q) (begun s k).control.frame.index) (queues_made s k)
  starts_are_waiting k e q past few d off =
      splits_are_made text s spelled (IsStartDue (fixed_of s)) (λ b x y due. due.split.there.endpoint.desc) (λ b x y due. Anything)
      (λ b x y due. IsStartedWaiting due.works (32 * y) b.control.frame.index)
      (λ b mixed heads sends x y due. start_waits_due (fixed_of s) b mixed heads x y due)
      (λ sides at lines hs w piped named b x y due z here kind same c goes had. tt) (λ x y due. cc due.split.there.here) k e q past few d
      off

  pub start_left : (k e q : ℕ) → IsPastFrames (moment s k).world → repeats s k ≤ 4000000 → (d : IsStartDue (fixed_of s) (begun s k) e q)
      → IsUncancelled (moment s k).world.driver e
      → StartLeft (moment s k).world e q d.split.placement (begun s k).control.frame.index d.works
  start_left k e q past few d off =
      let o = since_at text s spelled k e q d.split.placement d.split.there d.split.active off in
      let g = found_started d.works (32 * q) (begun s k).control.frame.index (queues_made s k) (starts_are_waiting k e q past few d off) in
      let l = o.left g.queue g.left in
      record {
        frames = o.frames;
        index = o.index;
        queue = l.queue;
        read = l.read;
        waiting = l.goes.waiting ∙ l.waiting;
        none = l.goes.progress ∙ g.none;
        tag = l.goes.tag ∙ g.tag;
        out = l.out;
        far = as_far_as d.works g.queue l.queue g.far l.goes.far;
      }

  pub starts_wait : StartsWait s
  starts_wait k e q past few d off =
      let l = start_left k e q past few d off in
      record {
        queue = l.queue;
        waiting = record {
          placement = d.split.placement;
          there = l.frames;
          active = ap (λ (i : ℕ). is_active d.split.placement (frame_in i)) l.index ∙ d.split.active;
          read = l.read;
          waiting = l.waiting;
        };
        out = l.out;
        none = l.none;
        frame = l.tag ∙ ap tag_of (sym l.index);
      }
