-- The split transactions of interrupt endpoints below hubs: what is due of them as a microframe begins is done in it (EHCI 1.0, 3.6.2, 4.4,
-- 4.6, 4.7, 4.10, 4.12.2.4; USB 2.0, 5.7.4 and 11.20).
--     IsSplitAtBegin fixed b e q    endpoint e, an interrupt endpoint below a hub, whose queue head begins in block q, is in the frame list
--                                   as the microframe begins that left the world b, its placement has the frame, and the bus may be used
--     IsStartDue fixed b e q        its start-split is due then: its S-mask has the microframe, its queue head comes to work on something,
--                                   and no split transaction of it is under way
--     IsStarted n f m               the transaction m is a start-split of the queue head at n in the frame of FRINDEX f: it waits for its
--                                   complete-splits, of which none was made
--     IsCompleteDue fixed b e q     a complete-split of it is due: it waits, its C-mask has the microframe, and none was missed
--     IsCompleted q n f m           m is a complete-split of the queue head q, which stands at n, in the microframe of FRINDEX f: that one
--                                   is done besides those before, and it waits further where the translator has nothing for it yet and
--                                   a later one comes
--     StartsAreMade s, CompletesAreMade s
--                                   at each moment of the run of a script at which the walk of the frames is over: a start-split, or a
--                                   complete-split, that was due as the microframe began was made in it and written back, unless the
--                                   endpoint was cancelled since, where no more than 4 microseconds went for complete-splits that were
--                                   made again
--     KeepsSplits s                 both
use Rattle.std.specs.Prelude.{◌≡◌, ℕ, ◌*◌, ◌≤◌, true, false, Some}
use Rattle.usb_base.specs.declared.packets.Pid.TheVariants.{Nyet}
use Rattle.usb_base.specs.declared.packets.Reply.TheVariants.{Hand}
use Rattle.script_types.specs.declared.scripts.Script.{Script}
use Rattle.qh_qtd.specs.declared.queue_head.Qh.{Qh}
use Rattle.bandwidth.specs.declared.placements.Placement.{Placement}
use Rattle.bandwidth.specs.Placements.{has, is_classic}
use Rattle.bandwidth.specs.Sums.{is_active}
use Rattle.mem_queues.specs.Structures.{queue_head_at_address}
use Rattle.hc_masks.specs.Masks.{is_last, with_bit}
use Rattle.hc_interrupt.specs.Turns.{microframe_of, tag_of, waits, is_missed}
use Rattle.bus_wire.specs.Bus.{Fixed, fixed_of}
use Rattle.bus_world.specs.Budgets.{moment}
use Rattle.bus_world.specs.World.{World}
use Rattle.claims_world.specs.Coming.{IsInItsFrames}
use Rattle.claims_world.specs.Due.{ComesTo}
use Rattle.claims_world.specs.DueAtBegin.{begun, IsUncancelled}
use Rattle.claims_world.specs.QueuesMade.{QueueMade, queues_made, HasMade}
use Rattle.claims_world.specs.Visits.{IsPastFrames, frame_in, is_held_now}
use Rattle.claims_world.specs.WithinLoad.{repeats}

pub record IsSplitAtBegin (fixed : Fixed) (b : World) (e q : ℕ) : Type 0 where
  pub placement : Placement
  pub there : IsInItsFrames b.driver e q placement
  pub active : is_active placement (frame_in b.control.frame.index) ≡ true
  pub classic : is_classic there.endpoint.desc.speed ≡ true
  pub free : is_held_now fixed b ≡ false
  pub queue : Qh
  pub read : queue_head_at_address b.memory (32 * q) ≡ Some queue

-- ---- start-splits (4.12.2.4, Do-Start)

pub record IsStartDue (fixed : Fixed) (b : World) (e q : ℕ) : Type 0 where
  pub split : IsSplitAtBegin fixed b e q
  pub bit : has split.placement.smask (microframe_of b.control.frame.index) ≡ true
  pub works : Qh
  pub next : ComesTo b.memory split.queue works
  pub unsplit : works.token.split_state ≡ false

pub record IsStarted (n f : ℕ) (m : QueueMade) : Type 0 where
  pub at : m.at ≡ n
  pub waiting : waits m.queue ≡ true
  pub frame : m.queue.frame_tag ≡ tag_of f
  pub none : m.queue.c_prog ≡ 0

abbrev pub StartsAreMade : Script → Type 0
StartsAreMade s = (k e q : ℕ) → IsPastFrames (moment s k).world → repeats s k ≤ 4000000 → IsStartDue (fixed_of s) (begun s k) e q
    → IsUncancelled (moment s k).world.driver e → HasMade (IsStarted (32 * q) (begun s k).control.frame.index) (queues_made s k)

-- ---- complete-splits (4.12.2.4, Do-Complete)

pub record IsCompleteDue (fixed : Fixed) (b : World) (e q : ℕ) : Type 0 where
  pub split : IsSplitAtBegin fixed b e q
  pub waiting : waits split.queue ≡ true
  pub unmissed : is_missed b.control.frame.index split.queue ≡ false
  pub bit : has split.placement.cmask (microframe_of b.control.frame.index) ≡ true

pub record IsCompleted (q : Qh) (n f : ℕ) (m : QueueMade) : Type 0 where
  pub at : m.at ≡ n
  pub progress : m.queue.c_prog ≡ with_bit q.c_prog (microframe_of f)
  pub frame : m.queue.frame_tag ≡ tag_of f
  pub goes_on : m.heard ≡ Hand Nyet → is_last q.cmask (microframe_of f) ≡ false → waits m.queue ≡ true

abbrev pub CompletesAreMade : Script → Type 0
CompletesAreMade s = (k e q : ℕ) → IsPastFrames (moment s k).world → repeats s k ≤ 4000000
    → (due : IsCompleteDue (fixed_of s) (begun s k) e q) → IsUncancelled (moment s k).world.driver e
    → HasMade (IsCompleted due.split.queue (32 * q) (begun s k).control.frame.index) (queues_made s k)

-- ---- both

pub record KeepsSplits (s : Script) : Type 0 where
  pub starts : StartsAreMade s
  pub completes : CompletesAreMade s
