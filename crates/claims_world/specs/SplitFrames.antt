-- The complete-splits of an interrupt endpoint below a hub follow its start-split in the frame, until one is answered (EHCI 1.0, 4.12.2.1
-- and 4.12.2.4; USB 2.0, 11.18 and 11.20).
--     IsOneFrame s i k           from moment i to moment k of the run of a script it is one frame, in each microframe of which the bus may
--                                be used; and no more than 4 microseconds of one went for complete-splits that were made again
--     IsAnswer n m               the transaction m is that of the queue head at n, in which the host heard something other than NYET
--     IsNotYet n m               .. in which it heard NYET
--     WasAnswered s i k n        so the queue head at n had an answer in the walk of the frames of a microframe, from moment i on and
--                                before moment k
--     SplitsFollowInFrame s      where a start-split was due as a microframe began, and the endpoint isn't cancelled: in each later
--                                microframe of the frame that stands in its C-mask it had an answer before, or a complete-split of it is
--                                due as that microframe begins
--     CompletesAreAnswered s     .. and once the walk of the frames is over in that microframe it had an answer, or is to ask again
--     IsEntryOf b x entry        this is the entry of endpoint x in the pipeline of its translator
--     HasCome b x                .. and the whole start-split has come
--     IsHeardThroughout s i k x  from moment i to moment k the hub of endpoint x has never heard last to clear a buffer or to reset a
--                                translator, and in each microframe neither the next complete-split of it is lost, nor its answer
--     HasTold s i k n x          in a complete-split from moment i on and before moment k the host heard what the device answered
--     DevicesAreHeard s          where a start-split was due as a microframe began, and has come once the walk of the frames is over in it,
--                                so it is by the end of the walk of the frames in the last microframe of its C-mask in the frame
--     IsHeardFromBegin s i k x   so its hub and its packets are from moment i to moment k, and its hub in the whole microframe of moment i
--     IsDoneBy b n x ms          of the transactions ms of the microframe that began with the world b, in one of the queue head at n the
--                                host heard what the device answered; and where that is data with the queue head's toggle for which it has
--                                room, or the acknowledgement of what it sent, these bytes moved, and it was written back so
--     WasDone s i k n x          so it is in a microframe, from moment i on and before moment k
--     StartsAreDone s            where a start-split was due as a microframe began, and neither it nor a complete-split of it nor its
--                                answer is lost: so it is by the end of the walk of the frames in the last microframe of its C-mask in the
--                                frame, unless the endpoint is cancelled
--     IsAsFar v q                the queue head q is as far as v: it has the same toggle, and as many bytes are left
--     IsDoneOf v b n x ms        so it is done, and the queue head was as far as v, with packets as large, as the microframe began; and
--                                where the answer is data with the toggle of v for which v has room, or the acknowledgement of what v
--                                sent, these bytes of v moved, and it was written back so
--     WasDoneOf v s i k n x      so it is in a microframe, from moment i on and before moment k
--     StartsAreTaken s           where a start-split was due as a microframe began, and none of these is lost: so it is of what its queue
--                                head came to then, by the same end
--     KeepsSplitFrames s         all of this
use Rattle.std.specs.Prelude.{◌≡◌, ◌≢◌, ℕ, suc, ◌/◌, ◌*◌, ◌≤◌, ◌<◌, ◌⊎◌, true, false, List, Some}
use Rattle.std.specs.List.{find}
use Rattle.usb_base.specs.declared.endpoints.EpDesc.{EpDesc}
use Rattle.usb_base.specs.declared.packets.EpKind.TheVariants.{Interrupt}
use Rattle.usb_base.specs.declared.packets.Pid.TheVariants.{Nyet}
use Rattle.usb_base.specs.declared.packets.Reply.{Reply}
use Rattle.usb_base.specs.declared.packets.Reply.TheVariants.{Hand}
use Rattle.script_types.specs.declared.scripts.Script.{Script}
use Rattle.bandwidth.specs.Placements.{has}
use Rattle.qh_qtd.specs.declared.queue_head.Qh.{Qh}
use Rattle.mem_queues.specs.Structures.{queue_head_at_address}
use Rattle.hc_interrupt.specs.Turns.{microframe_of}
use Rattle.tt_pipeline.specs.declared.entry.Entry.{Entry}
use Rattle.tt_pipeline.specs.declared.entry.Exchange.TheVariants.{Made}
use Rattle.tt_pipeline.specs.Answers.{result_of}
use Rattle.tt_pipeline.specs.Starting.{has_key}
use Rattle.bus_wire.specs.Bus.{Bus, fixed_of}
use Rattle.bus_world.specs.Budgets.{moment}
use Rattle.bus_world.specs.World.{World}
use Rattle.claims_world.specs.Behind.{key_for, pipeline_for}
use Rattle.claims_world.specs.BelowStreams.{IsSparedAt}
use Rattle.claims_world.specs.DueAtBegin.{begun, IsUncancelled}
use Rattle.claims_world.specs.QueuesMade.{QueueMade, queues_made, HasMade}
use Rattle.claims_world.specs.Results.{IsNextHeard, IsLastIn, IsToldBy, MovesBy, IsTaken}
use Rattle.claims_world.specs.SplitsAtBegin.{IsStartDue, IsCompleteDue}
use Rattle.claims_world.specs.Visits.{IsPastFrames, is_held_now}
use Rattle.claims_world.specs.WithinLoad.{repeats}

pub record IsOneFrame (s : Script) (i k : ℕ) : Type 0 where
  pub same : (j : ℕ) → i ≤ j → j ≤ k → (moment s j).world.control.frame.index / 8 ≡ (moment s i).world.control.frame.index / 8
  pub free : (j : ℕ) → i ≤ j → j ≤ k → is_held_now (fixed_of s) (begun s j) ≡ false
  pub few : (j : ℕ) → i ≤ j → j ≤ k → repeats s j ≤ 4000000

-- ---- what is heard

pub record IsAnswer (n : ℕ) (m : QueueMade) : Type 0 where
  pub at : m.at ≡ n
  pub told : m.heard ≢ Hand Nyet

pub record IsNotYet (n : ℕ) (m : QueueMade) : Type 0 where
  pub at : m.at ≡ n
  pub told : m.heard ≡ Hand Nyet

pub record WasAnswered (s : Script) (i k n : ℕ) : Type 0 where
  pub at : ℕ
  pub from : i ≤ at
  pub before : at < k
  pub made : HasMade (IsAnswer n) (queues_made s at)

-- ---- of a run

abbrev pub SplitsFollowInFrame : Script → Type 0
SplitsFollowInFrame s = (i k e q : ℕ) → i ≤ k → (d : IsStartDue (fixed_of s) (begun s i) e q) → IsOneFrame s i k
    → IsUncancelled (moment s k).world.driver e → has d.split.placement.cmask (microframe_of (begun s k).control.frame.index) ≡ true
    → WasAnswered s i k (32 * q) ⊎ IsCompleteDue (fixed_of s) (begun s k) e q

abbrev pub CompletesAreAnswered : Script → Type 0
CompletesAreAnswered s = (i k e q : ℕ) → i ≤ k → (d : IsStartDue (fixed_of s) (begun s i) e q) → IsOneFrame s i k
    → IsUncancelled (moment s k).world.driver e → has d.split.placement.cmask (microframe_of (begun s k).control.frame.index) ≡ true
    → IsPastFrames (moment s k).world
    → WasAnswered s i (suc k) (32 * q) ⊎ HasMade (IsNotYet (32 * q)) (queues_made s k)

-- ---- what the device answered

pub record IsEntryOf (b : Bus) (x : EpDesc) (entry : Entry) : Type 0 where
  pub hub : ℕ
  pub behind : x.hub ≡ Some hub
  pub there : find (has_key (key_for x)) (pipeline_for b.hubs hub x.port) ≡ Some entry

pub record HasCome (b : Bus) (x : EpDesc) : Type 0 where
  pub entry : Entry
  pub is : IsEntryOf b x entry
  pub kind : entry.ask.kind ≡ Interrupt
  pub whole : entry.came.whole ≡ true

pub record IsHeardThroughout (s : Script) (i k : ℕ) (x : EpDesc) : Type 0 where
  pub spared : (j : ℕ) → i ≤ j → j ≤ k → IsSparedAt s x j
  pub heard : (j : ℕ) → i ≤ j → j ≤ k → IsNextHeard (fixed_of s) (begun s j).bus x

pub record HasTold (s : Script) (i k n : ℕ) (x : EpDesc) : Type 0 where
  pub at : ℕ
  pub from : i ≤ at
  pub before : at < k
  pub entry : Entry
  pub is : IsEntryOf (begun s at).bus x entry
  pub made : HasMade (IsToldBy n entry) (queues_made s at)

abbrev pub DevicesAreHeard : Script → Type 0
DevicesAreHeard s = (i k e q : ℕ) → i ≤ k → IsPastFrames (moment s i).world → (d : IsStartDue (fixed_of s) (begun s i) e q)
    → HasCome (moment s i).world.bus d.split.there.endpoint.desc → IsOneFrame s i k → IsHeardThroughout s i k d.split.there.endpoint.desc
    → IsUncancelled (moment s k).world.driver e → IsLastIn d.split.placement.cmask (microframe_of (begun s k).control.frame.index)
    → IsPastFrames (moment s k).world → HasTold s i (suc k) (32 * q) d.split.there.endpoint.desc

-- ---- from the Begin of the start-split on

pub record IsHeardFromBegin (s : Script) (i k : ℕ) (x : EpDesc) : Type 0 where
  pub begins : (j : ℕ) → begun s j ≡ begun s i → IsSparedAt s x j
  pub through : IsHeardThroughout s i k x

pub record IsDoneBy (b : World) (n : ℕ) (x : EpDesc) (ms : List QueueMade) : Type 0 where
  pub entry : Entry
  pub is : IsEntryOf b.bus x entry
  pub told : HasMade (IsToldBy n entry) ms
  pub queue : Qh
  pub read : queue_head_at_address b.memory n ≡ Some queue
  pub taken : (reply : Reply) (bytes : ℕ) → entry.exchange ≡ Made reply → MovesBy queue x.name.way (result_of reply) bytes
      → HasMade (IsTaken queue n bytes) ms

pub record WasDone (s : Script) (i k n : ℕ) (x : EpDesc) : Type 0 where
  pub at : ℕ
  pub from : i ≤ at
  pub before : at < k
  pub done : IsDoneBy (begun s at) n x (queues_made s at)

abbrev pub StartsAreDone : Script → Type 0
StartsAreDone s = (i k e q : ℕ) → i ≤ k → (d : IsStartDue (fixed_of s) (begun s i) e q) → IsOneFrame s i k
    → IsHeardFromBegin s i k d.split.there.endpoint.desc → IsUncancelled (moment s k).world.driver e
    → IsLastIn d.split.placement.cmask (microframe_of (begun s k).control.frame.index) → IsPastFrames (moment s k).world
    → WasDone s i (suc k) (32 * q) d.split.there.endpoint.desc

-- ---- of what the queue head came to as its start-split was due

pub record IsAsFar (v q : Qh) : Type 0 where
  pub toggle : q.token.toggle ≡ v.token.toggle
  pub left : q.token.total ≡ v.token.total

pub record IsDoneOf (v : Qh) (b : World) (n : ℕ) (x : EpDesc) (ms : List QueueMade) : Type 0 where
  pub done : IsDoneBy b n x ms
  pub far : IsAsFar v done.queue
  pub packets : done.queue.max ≡ v.max
  pub taken : (reply : Reply) (bytes : ℕ) → done.entry.exchange ≡ Made reply → MovesBy v x.name.way (result_of reply) bytes
      → HasMade (IsTaken v n bytes) ms

pub record WasDoneOf (v : Qh) (s : Script) (i k n : ℕ) (x : EpDesc) : Type 0 where
  pub at : ℕ
  pub from : i ≤ at
  pub before : at < k
  pub of : IsDoneOf v (begun s at) n x (queues_made s at)

abbrev pub StartsAreTaken : Script → Type 0
StartsAreTaken s = (i k e q : ℕ) → i ≤ k → (d : IsStartDue (fixed_of s) (begun s i) e q) → IsOneFrame s i k
    → IsHeardFromBegin s i k d.split.there.endpoint.desc → IsUncancelled (moment s k).world.driver e
    → IsLastIn d.split.placement.cmask (microframe_of (begun s k).control.frame.index) → IsPastFrames (moment s k).world
    → WasDoneOf d.works s i (suc k) (32 * q) d.split.there.endpoint.desc

pub record KeepsSplitFrames (s : Script) : Type 0 where
  pub follow : SplitsFollowInFrame s
  pub answered : CompletesAreAnswered s
  pub told : DevicesAreHeard s
  pub done : StartsAreDone s
  pub taken : StartsAreTaken s
