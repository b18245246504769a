-- What is due in a frame (EHCI 1.0, 4.6 and 4.7; USB 2.0, 5.11.3): the queue heads of interrupt endpoints in it, each once, and of each
-- isochronous endpoint at most one descriptor that waits.
--     IsPlannedAt d e x p     the plan has the placement p of endpoint e
--     IsPlacedQueue d q       q is the queue head of an endpoint whose placement counts in the plan, and stands in the frames in which that
--                             placement is active
--     queues_of s f           the queue heads of the chain of frame f, which stand in it behind its descriptors
--     IsDueIn d f q           q is the queue head of a placed endpoint whose placement is active in frame f
--     AreDue d f              the chain of frame f has queue heads that are due in it alone, and no name twice
--     HasAllDue d f           and each that is due in it, of endpoints in their frames, as they are until cancelled
--     framed_to c made n      how many transfers of n have their frames: all, but those of an unfinished command whose frames aren't chosen
--     IsWaitingFor d k e      k is the descriptor of a transfer of endpoint e that waits for its harvest, and has its frame
--     IsDueDescriptor d f k   .. of an endpoint whose placement counts in the plan and is active in frame f
--     IsHarvested d k         k is the descriptor of a transfer that was harvested, and is still to be unlinked
--     AreDueDescriptors d f   each descriptor that is linked in frame f is one or the other
--     HasOneEach d            no endpoint has two that wait in one frame
use Rattle.std.specs.List.{flat_map, AllByRecursion, list_any}
use Rattle.std.specs.Prelude.{◌≡◌, ℕ, zero, ◌<◌, ◌≤◌, ◌⊎◌, true, false, List, length, slice_get, Option, count_by, Some}
use Rattle.drv_chains.specs.declared.members.Descriptor.{Descriptor}
use Rattle.drv_chains.specs.declared.members.Member.TheVariants.{Once, Each}
use Rattle.drv_chains.specs.declared.members.QueueHead.{QueueHead}
use Rattle.drv_chains.specs.Chains.{Schedule, is_active as stands_in, descriptors_in, periods, queues_in}
use Rattle.drv_members.specs.Members.{is_this}
use Rattle.drv_members.specs.Ranks.{is_named}
use Rattle.bandwidth.specs.declared.placements.Placement.{Placement}
use Rattle.bandwidth.specs.Sums.{is_active}
use Rattle.drv_periodic_table.specs.Periodic.{queue_name, want_of, queue_member}
use Rattle.drv_table.specs.declared.content.Command.{Command}
use Rattle.drv_table.specs.declared.content.Command.TheVariants as unfinished
use Rattle.drv_table.specs.declared.content.Endpoint.{Endpoint}
use Rattle.drv_table.specs.DriverContent.{DriverContent}
use Rattle.drv_table.specs.Kinds.{is_iso}
use Rattle.claims_driver.specs.FrameListMembers.{Placed, is_among, member_of, placed_in}

pub record IsPlannedAt (d : DriverContent) (e : ℕ) (x : Endpoint) (p : Placement) : Type 0 where
  pub place : ℕ
  pub there : slice_get d.periodic.plan.placed place ≡ Some (record { want = want_of e x.desc; placement = p })

pub record IsPlacedQueue (d : DriverContent) (q : QueueHead) : Type 0 where
  pub number : ℕ
  pub endpoint : Endpoint
  pub placement : Placement
  pub here : slice_get d.endpoints number ≡ Some endpoint
  pub placed : endpoint.placement ≡ Some placement
  pub counts : IsPlannedAt d number endpoint placement
  pub member : Each q ≡ queue_member endpoint.queue placement
  pub frames : (f : ℕ) → stands_in f q ≡ is_active placement f

abbrev pub queues_of : Schedule → ℕ → List QueueHead
queues_of s f = flat_map (queues_in s f) periods

pub record IsDueIn (d : DriverContent) (f : ℕ) (q : QueueHead) : Type 0 where
  pub queue : IsPlacedQueue d q
  pub active : is_active queue.placement f ≡ true

pub record AreDue (d : DriverContent) (f : ℕ) : Type 0 where
  pub each : AllByRecursion (IsDueIn d f) (queues_of d.periodic.list.members.schedule f)
  pub once : (id : ℕ) → count_by (is_named id) (queues_of d.periodic.list.members.schedule f) ≤ 1

-- the queue head of each endpoint that is in its frames, and whose placement is active in frame f, stands in its chain
abbrev pub HasAllDue : DriverContent → ℕ → Type 0
HasAllDue d f =
    (e : ℕ) (x : Endpoint) (p : Placement) → slice_get d.endpoints e ≡ Some x → x.chained ≡ true → is_iso x.desc.kind ≡ false → x.placement ≡ Some p → is_active p f ≡ true
    → list_any (is_this (record { id = queue_name x.queue; period = p.period; phase = p.phase })) (queues_of d.periodic.list.members.schedule f) ≡ true

abbrev pub framed_to : Option Command → ℕ → ℕ → ℕ
framed_to (Some (unfinished.Iso e t count)) zero n = t
framed_to _ made n = n

pub record IsWaitingFor (d : DriverContent) (k : Descriptor) (e : ℕ) : Type 0 where
  pub number : ℕ
  pub placed : Placed
  pub here : placed_in d.endpoints d.transfers number ≡ Some placed
  pub framed : number < framed_to d.command d.made (length d.transfers)
  pub endpoint : placed.endpoint ≡ e
  pub waits : placed.waits ≡ true
  pub is : member_of d.periodic placed ≡ Once k

pub record IsDueDescriptor (d : DriverContent) (f : ℕ) (k : Descriptor) : Type 0 where
  pub number : ℕ
  pub endpoint : Endpoint
  pub placement : Placement
  pub waiting : IsWaitingFor d k number
  pub frame : k.frame ≡ f
  pub here : slice_get d.endpoints number ≡ Some endpoint
  pub isochronous : is_iso endpoint.desc.kind ≡ true
  pub placed : endpoint.placement ≡ Some placement
  pub counts : IsPlannedAt d number endpoint placement
  pub active : is_active placement f ≡ true

pub record IsHarvested (d : DriverContent) (k : Descriptor) : Type 0 where
  pub number : ℕ
  pub placed : Placed
  pub here : placed_in d.endpoints d.transfers number ≡ Some placed
  pub among : is_among number d.periodic.unlinks ≡ true
  pub is : member_of d.periodic placed ≡ Once k

abbrev pub AreDueDescriptors : DriverContent → ℕ → Type 0
AreDueDescriptors d f = AllByRecursion (λ k. IsDueDescriptor d f k ⊎ IsHarvested d k) (descriptors_in d.periodic.list.members.schedule f)

abbrev pub HasOneEach : DriverContent → Type 0
HasOneEach d = (e : ℕ) (k l : Descriptor) → IsWaitingFor d k e → IsWaitingFor d l e → k.frame ≡ l.frame → k ≡ l
