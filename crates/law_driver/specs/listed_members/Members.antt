-- What stands in the frame list (EHCI 1.0, 4.6 and 4.7), told by the driver's endpoints and transfers: queue heads of interrupt endpoints
-- that are in their frames, and of isochronous endpoints each descriptor that waits in its frame, or was harvested and isn't unlinked yet;
-- while a command links or unlinks them, as far as it has come.
--     is_in_names id ms        one of these members has this name
--     AreOnce ms               no two of them have one name
--     HasMembers Q S s         the schedule s has queue heads that are Q alone, and of descriptors exactly those that are S
--     is_linked_by c n q t y   the unfinished command c, of which n events were made, has linked the descriptor y of transfer t, or hasn't
--                              unlinked it yet
--     IsStanding d m           m is the descriptor of a transfer that stands in its frame
--     IsQueueOf d q            q is the queue head of an interrupt endpoint that is in its frames
--     IsUnderWay d c           what the unfinished command has still to link or to unlink
--     IsListed d               the frame list has these members, and there is room for those that are still to be linked
use Rattle.std.specs.List.{AllByRecursion, list_any}
use Rattle.std.specs.Prelude.{◌≡◌, ℕ, ◌+◌, ◌<◌, ◌≤◌, ◌⊎◌, Bool, ◌==◌, true, ◌&&◌, not, false, ◌||◌, nat_lt, nat_eq, nat_le}
use Rattle.std.specs.Prelude.{List, [], ◌++◌, ◌∷◌, length, slice_get, Option, Some, if◌then◌else◌, None}
use Rattle.drv_chains.specs.declared.members.Member.{Member}
use Rattle.drv_chains.specs.declared.members.Member.TheVariants.{Once, Each}
use Rattle.drv_chains.specs.declared.members.QueueHead.{QueueHead as Queue}
use Rattle.drv_chains.specs.Chains.{Schedule, id_of}
use Rattle.drv_members.specs.Members.{is_linked}
use Rattle.drv_members.specs.Ranks.{is_queue}
use Rattle.drv_periodic.specs.declared.work.Work.{Work}
use Rattle.bandwidth.specs.declared.placements.Placement.{Placement}
use Rattle.drv_periodic_table.specs.Periodic.{PeriodicContent, is_periodic, note_at, queue_member}
use Rattle.drv_table.specs.declared.content.Command.{Command}
use Rattle.drv_table.specs.declared.content.Command.TheVariants as unfinished
use Rattle.drv_table.specs.declared.content.Endpoint.{Endpoint}
use Rattle.drv_table.specs.DriverContent.{DriverContent}
use Rattle.claims_driver.specs.FrameListMembers.{Framed, framed_in, Placed, placed_in, is_among, member_of}

abbrev pub is_in_names : ℕ → List Member → Bool
is_in_names id ms = list_any (λ m. nat_eq (id_of m) id) ms

abbrev pub AreOnce : List Member → Type 0
AreOnce [] = Unit {0}
AreOnce (m ∷ ms) = (is_in_names (id_of m) ms ≡ false) × AreOnce ms

pub record HasMembers (Q : Queue → Type 0) (S : Member → Type 0) (s : Schedule) : Type 0 where
  pub queues : AllByRecursion Q s.queues
  pub descriptors : AllByRecursion (λ k. S (Once k)) s.descriptors
  pub each : (m : Member) → S m → is_linked s m ≡ true

-- ---- which descriptors stand there

abbrev pub under_way : Option Work → List Member
under_way None = []
under_way (Some w) = w.member ∷ []

abbrev pub is_linked_by : Option Command → ℕ → PeriodicContent → ℕ → Placed → Bool
is_linked_by None made q t y = true
is_linked_by (Some (unfinished.Open queue)) made q t y = true
is_linked_by (Some (unfinished.Publish b words)) made q t y = true
is_linked_by (Some (unfinished.Unlink e b link)) made q t y = true
is_linked_by (Some unfinished.Chain) made q t y = true
is_linked_by (Some (unfinished.Iso e first count)) made q t y =
    nat_lt t first || (nat_le 1 made && not (is_in_names (id_of (member_of q y)) q.queued))
is_linked_by (Some (unfinished.Unchain e)) made q t y =
    not (y.endpoint == e) || is_in_names (id_of (member_of q y)) (under_way q.list.work ++ q.queued)

-- it was harvested and is to be unlinked, or it waits there
abbrev pub StandsAs : DriverContent → ℕ → Placed → Type 0
StandsAs d t y =
    (is_among t d.periodic.unlinks ≡ true) ⊎ ((y.waits ≡ true) × (is_linked_by d.command d.made d.periodic t y ≡ true))

pub record IsStanding (d : DriverContent) (m : Member) : Type 0 where
  pub number : ℕ
  pub placed : Placed
  pub here : placed_in d.endpoints d.transfers number ≡ Some placed
  pub stands : StandsAs d number placed
  pub is : member_of d.periodic placed ≡ m

pub record IsQueueOf (d : DriverContent) (q : Queue) : Type 0 where
  pub number : ℕ
  pub framed : Framed
  pub here : framed_in d.endpoints number ≡ Some framed
  pub chained : framed.chained ≡ true
  pub queued : framed.isochronous ≡ false
  pub place : Placement
  pub placed : framed.placement ≡ Some place
  pub is : Each q ≡ queue_member framed.queue place
  pub valid : is_queue q ≡ true

-- ---- the unfinished command

-- nothing is linked or unlinked
pub record IsIdle (q : PeriodicContent) : Type 0 where
  pub work : q.list.work ≡ None
  pub queued : q.queued ≡ []

abbrev pub Links : PeriodicContent → Type 0
Links q = (w : Work) → q.list.work ≡ Some w → w.removes ≡ false

-- the descriptor of a transfer of endpoint e, from this one on, that waits in its frame
pub record IsWaitingOf (d : DriverContent) (e first : ℕ) (m : Member) : Type 0 where
  pub number : ℕ
  pub placed : Placed
  pub here : placed_in d.endpoints d.transfers number ≡ Some placed
  pub later : first ≤ number
  pub endpoint : placed.endpoint ≡ e
  pub waits : placed.waits ≡ true
  pub is : member_of d.periodic placed ≡ m

-- so many descriptors of endpoint e, the last transfers, are linked, each once
pub record IsDescribing (d : DriverContent) (e first count : ℕ) : Type 0 where
  pub links : Links d.periodic
  pub all : length d.transfers ≡ first + count
  pub each :
      (t : ℕ) → first ≤ t → t < length d.transfers
      → (y : Placed) × ((placed_in d.endpoints d.transfers t ≡ Some y) × ((y.endpoint ≡ e) × (y.waits ≡ true)))
  pub members : AllByRecursion (IsWaitingOf d e first) d.periodic.queued
  pub once : AreOnce d.periodic.queued

-- what is still to be unlinked of an endpoint: its queue head, or its descriptors that wait, each once
pub record AreLeaving (d : DriverContent) (e : ℕ) (x : Framed) (ms : List Member) : Type 0 where
  pub descriptors : x.isochronous ≡ true → AllByRecursion (IsWaitingOf d e 0) ms × AreOnce ms
  pub queue : x.isochronous ≡ false → (p : Placement) × ((x.placement ≡ Some p) × (ms ≡ queue_member x.queue p ∷ []))

pub record IsUnchaining (d : DriverContent) (e : ℕ) : Type 0 where
  pub work : Work
  pub begun : d.periodic.list.work ≡ Some work
  pub removes : work.removes ≡ true
  pub endpoint : Endpoint
  pub here : slice_get d.endpoints e ≡ Some endpoint
  pub cancelled : endpoint.cancelled ≡ true
  pub framed : Framed
  pub at : framed_in d.endpoints e ≡ Some framed
  pub leaving : AreLeaving d e framed (work.member ∷ d.periodic.queued)

abbrev pub IsUnderWay : DriverContent → Option Command → Type 0
IsUnderWay d None = IsIdle d.periodic
IsUnderWay d (Some (unfinished.Open queue)) = IsIdle d.periodic
IsUnderWay d (Some (unfinished.Publish b words)) = IsIdle d.periodic
IsUnderWay d (Some (unfinished.Unlink e b link)) = IsIdle d.periodic
IsUnderWay d (Some unfinished.Chain) = Links d.periodic × (d.periodic.queued ≡ [])
IsUnderWay d (Some (unfinished.Iso e first count)) = IsDescribing d e first count
IsUnderWay d (Some (unfinished.Unchain e)) = IsUnchaining d e

-- how many descriptors are still to be linked
abbrev pub to_come : Option Command → ℕ → List Member → ℕ
to_come None made queued = 0
to_come (Some (unfinished.Open queue)) made queued = 0
to_come (Some (unfinished.Publish b words)) made queued = 0
to_come (Some (unfinished.Unlink e b link)) made queued = 0
to_come (Some unfinished.Chain) made queued = 0
to_come (Some (unfinished.Iso e first count)) made queued = if nat_eq made 0 then count else length queued
to_come (Some (unfinished.Unchain e)) made queued = 0

-- ---- the whole

-- a periodic endpoint that wasn't cancelled is in its frames
abbrev pub AreKept : List Endpoint → Type 0
AreKept xs = (e : ℕ) (x : Endpoint) → slice_get xs e ≡ Some x → is_periodic x.desc.kind ≡ true → x.cancelled ≡ false → x.chained ≡ true

pub record HasList (d : DriverContent) : Type 0 where
  pub list : d.periodic.list.list ≡ 0
  pub members : HasMembers (IsQueueOf d) (IsStanding d) d.periodic.list.members.schedule
  pub frames : (b : ℕ) → (note_at d.periodic.notes b).frame < 1024
  pub many : length d.periodic.list.members.schedule.descriptors + to_come d.command d.made d.periodic.queued ≤ length d.transfers
  pub room : length d.transfers + d.room.transfers ≤ d.periodic.list.members.descriptor_room
  pub kept : AreKept d.endpoints

pub record IsListed (d : DriverContent) : Type 0 where
  pub list : HasList d
  pub way : IsUnderWay d d.command
