-- Where the links of structures lead, as memory has them (EHCI 1.0, 3.1, 3.6.1, 4.6, 4.8 and 4.8.2): those of live structures to live ones;
-- those of queue heads that left the ring to the head, to a live one, or to one that left later; those of queue heads and isochronous
-- descriptors that left the frame list to the end of a frame, to a live member, or to one that left later; and for whom the doorbell was
-- rung.
--     IsLive d b              in block b begins the head of the ring, or the queue head of an endpoint in the ring; one whose open is
--                             unfinished is in it only from its last store on
--     LeadsTo P v             the link word v is that to a queue head, in a block that is so (3.6.1)
--     IsLiveOrLater d es b    in block b begins a live queue head, or that of one of these endpoints
--     HasLeftBefore m d es e  endpoint e has left the ring, these left later, and its link leads to a live queue head or to one of these
--     AreLeft m d es          so it is of these endpoints, in this order
--     left_ring d             those that left the ring and aren't given back, in the order in which they left: Async Advance was cleared
--                             for the first of them, then come those that are rung, and those that wait
--     EndsOrLeads d v         the link word v is the end of a frame, or leads to a member of the driver's list that is live: a store has
--                             led to it, and the last one that unlinks it wasn't made (3.1)
--     HoldsLinks m d          all links in the words of memory are so: of the ring, of what left it, of the frame list, and of its members
--     IsUnlinkedBy s j x      event j of the run unlinks member x: before it a word may lead to x, and after it none does
--     IsUnlinkedWithin s j k x
--                             an event of the run unlinks member x that is behind event j and before event k
--     EndsOrLeadsLater d L v  the link word v is the end of a frame, or leads to a member that is live, or to one that left later, as L
--                             tells
--     LeadsOnUntilGone s j q  so does the link of queue head q after event j, until its endpoint is given back
--     IsDescriptorOf ts t b   transfer t of these has an isochronous descriptor, an iTD or a siTD, which begins in block b (3.3, 3.4)
--     LeadsOnUntilReleased s j c
--                             .. that of descriptor c, until its transfer is given back
--     LeavesFramesLeading s   so it is of each queue head and of each descriptor that leaves the frame list
--     LeftWithin s from n e   endpoint e left the ring at an event of the run, from this one on and before event n
--     IsOneBatch s k d        before event k the doorbell was rung for all that is rung, which left before; and what waits left since
--     IsPending w             the doorbell is pending, or its Async Advance isn't cleared yet (2.3.1, 2.3.2)
--     KeepsLinks s            so it is at each moment of the run of a script: the links hold, and meanwhile one batch is rung; and so it
--                             is of the links of what leaves the frame list
use Rattle.std.specs.List.{AllByRecursion}
use Rattle.std.specs.Prelude.{◌≡◌, ◌≢◌, ℕ, suc, ◌/◌, ◌<◌, ◌≤◌, ◌⊎◌, true, false, List, [], ◌++◌, ◌∷◌, slice_get, Some}
use Rattle.script_types.specs.declared.scripts.Script.{Script}
use Rattle.word_mem.specs.Memory.{Mem, word_at}
use Rattle.drv_chains.specs.declared.members.Descriptor.{Descriptor}
use Rattle.drv_chains.specs.declared.members.Member.{Member}
use Rattle.drv_chains.specs.declared.members.Member.TheVariants.{Once, Each}
use Rattle.drv_chains.specs.declared.members.QueueHead.{QueueHead as Queue}
use Rattle.drv_chains.specs.declared.members.Predecessor.TheVariants.{Element, After}
use Rattle.drv_chains.specs.Chains.{id_of}
use Rattle.drv_members.specs.Members.{is_linked}
use Rattle.drv_periodic.specs.Periodic.{address_of}
use Rattle.drv_table.specs.declared.content.Endpoint.{Endpoint}
use Rattle.drv_table.specs.declared.content.Transfer.{Transfer}
use Rattle.drv_table.specs.declared.rows.DriverRow.TheVariants as rows
use Rattle.drv_table.specs.DriverContent.{DriverContent}
use Rattle.drv_table.specs.Words.{head_block, queue_head_link}
use Rattle.bus_world.specs.Budgets.{moment}
use Rattle.bus_world.specs.World.{World}
use Rattle.claims_driver.specs.Owners.{is_descriptor}
use Rattle.claims_driver.specs.Ring.{IsAmong, IsQueueOf, link_in}
use Rattle.claims_driver.specs.Unlinked.{led}
use Rattle.claims_world.specs.Memory.{linked_to}
use Rattle.claims_world.specs.Releases.{Does, LeavesRing}

-- ---- the ring (4.8)

pub data IsLive (d : DriverContent) (b : ℕ) : Type 0 where
  the_head : b ≡ head_block → IsLive d b
  a_queue : (e : ℕ) (x : Endpoint) → slice_get (linked_to d.command d.endpoints) e ≡ Some x → x.linked ≡ true → b ≡ x.queue → IsLive d b

pub record LeadsTo (P : ℕ → Type 0) (v : ℕ) : Type 0 where
  pub block : ℕ
  pub link : v ≡ queue_head_link block
  pub is : P block

pub data IsLiveOrLater (d : DriverContent) (es : List ℕ) (b : ℕ) : Type 0 where
  live : IsLive d b → IsLiveOrLater d es b
  left_later : (e : ℕ) → IsAmong e es → IsQueueOf d.endpoints e b → IsLiveOrLater d es b

-- endpoint e has left, and these left later
pub record HasLeftBefore (m : Mem) (d : DriverContent) (es : List ℕ) (e : ℕ) : Type 0 where
  pub endpoint : Endpoint
  pub here : slice_get d.endpoints e ≡ Some endpoint
  pub out : endpoint.linked ≡ false
  pub leads : LeadsTo (IsLiveOrLater d es) (link_in m endpoint.queue)

abbrev pub AreLeft : Mem → DriverContent → List ℕ → Type 0
AreLeft m d [] = Unit {0}
AreLeft m d (e ∷ es) = HasLeftBefore m d es e × AreLeft m d es

-- until they are given back (4.8.2)
abbrev pub left_ring : DriverContent → List ℕ
left_ring d = d.cleared ++ (d.rung ++ d.waiting)

-- ---- the frame list (4.6)

pub data EndsOrLeads (d : DriverContent) (v : ℕ) : Type 0 where
  ends : v ≡ 1 → EndsOrLeads d v
  leads : (x : Member) → is_linked (led d) x ≡ true → v ≡ id_of x → EndsOrLeads d v

-- ---- all links

pub record HoldsLinks (m : Mem) (d : DriverContent) : Type 0 where
  pub ring : (b : ℕ) → IsLive d b → LeadsTo (IsLive d) (link_in m b)
  pub left : AreLeft m d (left_ring d)
  pub elements : (f : ℕ) → f < 1024 → EndsOrLeads d (word_at m (address_of d.periodic.list.list (Element f)))
  pub members : (x : Member) → is_linked (led d) x ≡ true → EndsOrLeads d (word_at m (address_of d.periodic.list.list (After x)))

-- ---- what left the frame list (4.6)

pub record IsUnlinkedBy (s : Script) (j : ℕ) (x : Member) : Type 0 where
  pub before : is_linked (led (moment s j).world.driver) x ≡ true
  pub after : is_linked (led (moment s (suc j)).world.driver) x ≡ false

pub record IsUnlinkedWithin (s : Script) (j k : ℕ) (x : Member) : Type 0 where
  pub event : ℕ
  pub behind : j < event
  pub earlier : event < k
  pub unlinked : IsUnlinkedBy s event x

pub data EndsOrLeadsLater (d : DriverContent) (Later : Member → Type 0) (v : ℕ) : Type 0 where
  now : EndsOrLeads d v → EndsOrLeadsLater d Later v
  unlinked_later : (x : Member) → Later x → v ≡ id_of x → EndsOrLeadsLater d Later v

pub record LeadsOnUntilGone (s : Script) (j : ℕ) (q : Queue) : Type 0 where
  pub endpoint : ℕ
  pub queue : IsQueueOf (moment s j).world.driver.endpoints endpoint (q.id / 32)
  pub stands : queue.endpoint.chained ≡ true
  pub leads :
      (k : ℕ) (x : Endpoint) → j < k → slice_get (moment s k).world.driver.endpoints endpoint ≡ Some x → x.gone ≡ false
      → EndsOrLeadsLater (moment s k).world.driver (IsUnlinkedWithin s j k) (link_in (moment s k).world.memory (q.id / 32))

pub record IsDescriptorOf (ts : List Transfer) (t b : ℕ) : Type 0 where
  pub transfer : Transfer
  pub here : slice_get ts t ≡ Some transfer
  pub sort : is_descriptor transfer.sort ≡ true
  pub block : transfer.first ≡ b

pub record LeadsOnUntilReleased (s : Script) (j : ℕ) (c : Descriptor) : Type 0 where
  pub number : ℕ
  pub descriptor : IsDescriptorOf (moment s j).world.driver.transfers number (c.id / 32)
  pub held : descriptor.transfer.released ≡ false
  pub leads :
      (k : ℕ) (y : Transfer) → j < k → slice_get (moment s k).world.driver.transfers number ≡ Some y → y.released ≡ false
      → EndsOrLeadsLater (moment s k).world.driver (IsUnlinkedWithin s j k) (link_in (moment s k).world.memory (c.id / 32))

pub record LeavesFramesLeading (s : Script) : Type 0 where
  pub queues : (j : ℕ) (q : Queue) → IsUnlinkedBy s j (Each q) → LeadsOnUntilGone s j q
  pub descriptors : (j : ℕ) (c : Descriptor) → IsUnlinkedBy s j (Once c) → LeadsOnUntilReleased s j c

-- ---- the doorbell (4.8.2)

pub record LeftWithin (s : Script) (from n e : ℕ) : Type 0 where
  pub unlinking : ℕ
  pub left : LeavesRing (moment s unlinking).world.driver.endpoints (moment s (suc unlinking)).world.driver.endpoints e
  pub since : from ≤ unlinking
  pub before : unlinking < n

pub record IsOneBatch (s : Script) (k : ℕ) (d : DriverContent) : Type 0 where
  pub ringing : ℕ
  pub rang : Does s ringing rows.RingBell
  pub past : ringing < k
  pub some : d.rung ≢ []
  pub rung : AllByRecursion (LeftWithin s 0 ringing) d.rung
  pub waiting : AllByRecursion (LeftWithin s ringing k) d.waiting

abbrev pub IsPending : World → Type 0
IsPending w = (w.registers.doorbell ≡ true) ⊎ (w.registers.async_advance ≡ true)

-- ---- the whole

pub record LinksAreKept (s : Script) (k : ℕ) (w : World) : Type 0 where
  pub links : HoldsLinks w.memory w.driver
  pub batch : IsPending w → IsOneBatch s k w.driver

pub record KeepsLinks (s : Script) : Type 0 where
  pub moments : (k : ℕ) → LinksAreKept s k (moment s k).world
  pub left_frames : LeavesFramesLeading s
