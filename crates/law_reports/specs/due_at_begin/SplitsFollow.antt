-- What a start-split left of an interrupt endpoint below a hub stands until a complete-split of it comes; so that one is due as its
-- microframe begins (EHCI 1.0, 4.12.2.4).
--     IsWaitingIn w e q v       endpoint e, an interrupt endpoint whose queue head begins in block q, is in the frame list, its placement
--                               has the frame, and its queue head waits for complete-splits, as v has it
--     WaitsAs w e q p v         it is in the frame list with the placement p, and its queue head waits with the token of v, after as many
--                               complete-splits, since the same frame
--     IsOutOfHand w n           the walk of the frames has no copy in hand of what begins at byte address n
--     RestsAtVisits s i n q v   wherever in the n moments from moment i on the walk of the frames has the queue head of block q in hand
--                               there is nothing to do for v in the microframe: no complete-split comes, and none was missed
--     IsItsTurn fixed b p v     a complete-split of v comes in the microframe that began with the world b, none before it was missed, and
--                               the bus may be used
--     WaitingHeadsStay s        a queue head that waits, and isn't in hand, waits so while none of its complete-splits comes, unless the
--                               endpoint is cancelled
--     CompletesFollow s         so the next complete-split of it is due as its microframe begins
--     IsLeftWaiting w e q       it waits, no complete-split was made since its start-split in this frame, and it isn't in hand
--     StartsWait s              at each moment of the run of a script at which the walk of the frames is over, so it is of each endpoint of
--                               which a start-split was due as the microframe began, unless it was cancelled since, where no more than 4
--                               microseconds went for complete-splits that were made again
--     FollowsStarts s           all of this
use Rattle.std.specs.Prelude.{◌≡◌, ◌≢◌, ℕ, List, ◌+◌, ◌*◌, ◌≤◌, ◌<◌, true, false, Some}
use Rattle.script_types.specs.declared.scripts.Script.{Script}
use Rattle.script_text.specs.Faults.{Spells}
use Rattle.qh_qtd.specs.declared.queue_head.Qh.{Qh}
use Rattle.bandwidth.specs.declared.placements.Placement.{Placement}
use Rattle.bandwidth.specs.Placements.{has}
use Rattle.bandwidth.specs.Sums.{is_active}
use Rattle.mem_queues.specs.Structures.{queue_head_at_address}
use Rattle.hc_interrupt.specs.declared.turns.Turn.TheVariants.{Rest}
use Rattle.hc_interrupt.specs.Turns.{microframe_of, tag_of, waits, is_missed, turn_of}
use Rattle.periodic_walk.specs.Walk.{held_address}
use Rattle.hc_core.specs.declared.controller.ControllerRow.TheVariants.{Begin}
use Rattle.hc_core.specs.declared.controller.MicroframePart.TheVariants.{Periodic}
use Rattle.bus_wire.specs.Bus.{Fixed, fixed_of}
use Rattle.bus_world.specs.Budgets.{moment}
use Rattle.bus_world.specs.World.{World, controller_row, controller_next}
use Rattle.claims_world.specs.Coming.{IsInItsFrames}
use Rattle.claims_world.specs.DueAtBegin.{begun, IsUncancelled}
use Rattle.claims_world.specs.SplitsAtBegin.{IsStartDue, IsCompleteDue}
use Rattle.claims_world.specs.Visits.{IsPastFrames, frame_in, is_held_now}
use Rattle.claims_world.specs.WithinLoad.{repeats}

pub record IsWaitingIn (w : World) (e q : ℕ) (v : Qh) : Type 0 where
  pub placement : Placement
  pub there : IsInItsFrames w.driver e q placement
  pub active : is_active placement (frame_in w.control.frame.index) ≡ true
  pub read : queue_head_at_address w.memory (32 * q) ≡ Some v
  pub waiting : waits v ≡ true

pub record WaitsAs (w : World) (e q : ℕ) (p : Placement) (v : Qh) : Type 0 where
  pub there : IsInItsFrames w.driver e q p
  pub queue : Qh
  pub read : queue_head_at_address w.memory (32 * q) ≡ Some queue
  pub waiting : waits queue ≡ true
  pub token : queue.token ≡ v.token
  pub progress : queue.c_prog ≡ v.c_prog
  pub frame : queue.frame_tag ≡ v.frame_tag

abbrev pub IsOutOfHand : World → ℕ → Type 0
IsOutOfHand w n = w.control.part ≡ Periodic → held_address w.control.frame.hand ≢ Some n

abbrev pub RestsAtVisits : Script → ℕ → ℕ → ℕ → Qh → Type 0
RestsAtVisits s i n q v = (j : ℕ) → j < n → (moment s (i + j)).world.control.part ≡ Periodic
    → held_address (moment s (i + j)).world.control.frame.hand ≡ Some (32 * q)
    → turn_of (moment s (i + j)).world.control.frame.index v ≡ Rest

pub record IsItsTurn (fixed : Fixed) (b : World) (p : Placement) (v : Qh) : Type 0 where
  pub active : is_active p (frame_in b.control.frame.index) ≡ true
  pub bit : has p.cmask (microframe_of b.control.frame.index) ≡ true
  pub unmissed : is_missed b.control.frame.index v ≡ false
  pub free : is_held_now fixed b ≡ false

abbrev pub WaitingHeadsStay : Script → Type 0
WaitingHeadsStay s = (i n e q : ℕ) (v : Qh) → IsOutOfHand (moment s i).world (32 * q) → (x : IsWaitingIn (moment s i).world e q v)
    → RestsAtVisits s i n q v → IsUncancelled (moment s (i + n)).world.driver e → WaitsAs (moment s (i + n)).world e q x.placement v

abbrev pub CompletesFollow : Script → Type 0
CompletesFollow s = (i n e q : ℕ) (v : Qh) → IsOutOfHand (moment s i).world (32 * q) → (x : IsWaitingIn (moment s i).world e q v)
    → RestsAtVisits s i n q v → IsUncancelled (moment s (i + n)).world.driver e → controller_row (moment s (i + n)).world ≡ Begin
    → IsItsTurn (fixed_of s) (controller_next (fixed_of s) (moment s (i + n)).world) x.placement v
    → IsCompleteDue (fixed_of s) (controller_next (fixed_of s) (moment s (i + n)).world) e q

pub record IsLeftWaiting (w : World) (e q : ℕ) : Type 0 where
  pub queue : Qh
  pub waiting : IsWaitingIn w e q queue
  pub out : IsOutOfHand w (32 * q)
  pub none : queue.c_prog ≡ 0
  pub frame : queue.frame_tag ≡ tag_of w.control.frame.index

abbrev pub StartsWait : Script → Type 0
StartsWait s = (k e q : ℕ) → IsPastFrames (moment s k).world → repeats s k ≤ 4000000 → IsStartDue (fixed_of s) (begun s k) e q
    → IsUncancelled (moment s k).world.driver e → IsLeftWaiting (moment s k).world e q

pub record FollowsStarts (s : Script) : Type 0 where
  pub starts : StartsWait s
  pub stay : WaitingHeadsStay s
  pub follow : CompletesFollow s

abbrev pub TextsFollowStarts : Type 0
TextsFollowStarts = (text : List ℕ) (s : Script) → Spells text s → FollowsStarts s
