-- The requests of control endpoints, of all of a world or of some (EHCI 1.0, 3.5 and 4.10; USB 2.0, 8.5.3): the queue of each one of these that the walk may meet,
-- what the run recorded of its requests, what the lines tell of them, and what its device counts.
--     Sides                      what a script has for these control endpoints: which they are, and at which speeds, the devices' sides before they are opened, each endpoint with its
--                                replies, and the bytes of the data of each request
--     IsGiven g x                the device of a control endpoint is so, and has had no request
--     Asking                     where the queue of each queue head stands, and which transfers its requests are
--     has_left g d e             one of them that the walk can't meet any more
--     is_next_of d e             the newest transfer is of endpoint e, and is being published
--     HasCourse g d e x c a      the queue and the transfers of endpoint e, which is x: the newest transfer, until it is published, isn't in the queue
--     IsHeldRequest .., IsPublishing ..
--                                of the request that is being published: its buffers hold its bytes, and once it is lent it is coming
--     IsReadTo ..                what is noted of a request that is harvested: nothing of its SETUP and of what isn't read yet; of its data all that was moved
--     IsCounted ..               its device is on the bus, and counts the acts of the windows
--     HasTelling ..              the lines tell of the requests that are reported, and those that wait are the queue's; where the endpoint ended by an error
--                                those behind it are closed, and no line tells of them
--     IsUnopened d addr num      no endpoint of the driver has this address and number, but one that is being opened
--     IsUnheard d name           .. or has this name
--     AsksIn ..                  so it is of a driver over memory and a bus
--     HasAsks ..                 .. for some queues
--     IsAskingWorld ..           the world is so
use Rattle.std.specs.Prelude.{◌≡◌, ℕ, zero, suc, ◌-◌, ◌*◌, ◌≤◌, ◌==◌, ◌&&◌, not, Bool, true, false, List, [], ◌∷◌, ◌++◌, length, slice_get, Option, Some, None, if◌then◌else◌}
use Rattle.usb_base.specs.declared.endpoints.EndCause.{EndCause}
use Rattle.usb_base.specs.declared.endpoints.EpDesc.{EpDesc}
use Rattle.usb_base.specs.declared.endpoints.EpName.{EpName}
use Rattle.usb_base.specs.declared.packets.Speed.{Speed}
use Rattle.word_mem.specs.Memory.{Mem}
use Rattle.qh_qtd.specs.declared.qtd.Qtd.{Qtd}
use Rattle.qh_qtd.specs.Qtd.{qtd_words, IsQtdInRange}
use Rattle.dev_control.specs.Stages.{Stages}
use Rattle.bus_wire.specs.Bus.{Fixed, Wired}
use Rattle.drv_table.specs.declared.content.Command.{Command}
use Rattle.drv_table.specs.declared.content.Command.TheVariants as unfinished
use Rattle.drv_table.specs.declared.content.Endpoint.{Endpoint as DriverEndpoint}
use Rattle.drv_table.specs.declared.content.Mend.{Mend}
use Rattle.drv_table.specs.declared.content.QtdNote.{QtdNote}
use Rattle.drv_table.specs.declared.content.Transfer.{Transfer}
use Rattle.drv_table.specs.DriverContent.{DriverContent}
use Rattle.drv_table.specs.Harvests.{note_at}
use Rattle.drv_table.specs.Words.{is_control, request_stages}
use Rattle.law_driver.specs.endpoint_lives.Lives.{told_end, may_meet}
use Rattle.law_driver_ring.specs.fed_queues.Places.{IsMet}
use Rattle.law_queues.specs.fed_lends.ToLend.{IsToBeLent}
use Rattle.law_driver_ring.specs.told_harvests.Held.{IsDone, AreUnmoved}
use Rattle.law_structures.specs.lent_structures.Structures.{Structures, StructureSets}
use Rattle.law_queues.specs.told_endpoints.Telling.{lines_in}
use Rattle.claims_report.specs.Requests.{Request}
use Rattle.law_request.specs.Host.{Endpoint, has_data}
use Rattle.law_request.specs.Windows.{IsRequest, data_of}
use Rattle.claims_report.specs.ControlSides.{Device}
use Rattle.law_devices.specs.request_calls.Bus.{device_of}
use Rattle.law_reports.specs.requests.request_bytes.Held.{RequestIsHeld}
use Rattle.law_ring.specs.Hand.{Hand}
use Rattle.law_devices.specs.ring_requests.Runs.{first_of}
use Rattle.law_devices.specs.Controls.{control_of}
use Rattle.bus_world.specs.World.{World}
use Rattle.law_world.specs.steps.Streaming.{Standing}
use Rattle.claims_world.specs.Requests.{wired, Windows, numbers_of, is_opening}
use Rattle.law_reports.specs.requests.Courses.{Course, has_queue, is_asking, queue_in, tail_in, have_queues, CoursesStand}
use Rattle.law_reports.specs.requests.Coming.{IsComing}
use Rattle.law_reports.specs.requests.Records.{Numbers, AreRecords}
use Rattle.law_reports.specs.requests.Counts.{counted_all}
use Rattle.law_reports.specs.requests.Telling.{IsTelling, IsUncancelled}
use Rattle.law_queues.specs.standing_fronts.Tails.{tail_of}
use Rattle.law_reports.specs.requests.Missed.{MissNone}

-- ---- what the script has for its control endpoints

pub record Sides : Type 0 where
  -- which endpoints these are: control endpoints
  pub asks : EpDesc → Bool
  pub controls : (x : EpDesc) → asks x ≡ true → is_control x.kind ≡ true
  pub speeds : Speed → Bool
  pub first : ℕ → ℕ → Option Device
  pub endpoint : EpDesc → Endpoint
  pub whole : EpName → Request → List ℕ

pub record IsGiven (g : Sides) (x : EpDesc) : Type 0 where
  pub stages : Stages
  pub first : g.first x.name.addr x.name.num ≡ Some (device_of (g.endpoint x) stages)
  pub address : (g.endpoint x).addr ≡ x.name.addr
  pub number : (g.endpoint x).num ≡ x.name.num
  pub max : (g.endpoint x).max ≡ x.max
  pub least : 8 ≤ x.max
  pub addressed : 1 ≤ x.name.addr
  pub same : stages.max ≡ x.max
  pub none : stages.acted ≡ 0
  pub replies : (r : Request) → g.whole x.name r ≡ data_of (g.endpoint x) r

-- ---- one endpoint

-- chosen at each moment, by the places of queue heads
pub record Asking : Type 0 where
  pub courses : ℕ → Course
  pub numbers : ℕ → Numbers

abbrev pub left_with : Sides → DriverContent → ℕ → Option DriverEndpoint → Bool
left_with g d e None = false
left_with g d e (Some x) = g.asks x.desc && not (may_meet d e x)

abbrev pub has_left : Sides → DriverContent → ℕ → Bool
has_left g d e = left_with g d e (slice_get d.endpoints e)

abbrev pub is_publishing : Option Command → Option Transfer → ℕ → Bool
is_publishing (Some (unfinished.Publish b words)) (Some y) e = y.endpoint == e
is_publishing _ _ e = false

abbrev pub is_next_of : DriverContent → ℕ → Bool
is_next_of d e = is_publishing d.command (slice_get d.transfers (length d.transfers - 1)) e

abbrev pub next_with : ℕ → ℕ → Option ℕ
next_with zero t = None
next_with (suc k) t = Some t

-- the first of its requests that isn't closed
abbrev pub next_in : Numbers → Option ℕ
next_in a = next_with a.requests.count (a.number 0)

pub record HasCourse (g : Sides) (d : DriverContent) (e : ℕ) (x : DriverEndpoint) (c : Course) (a : Numbers) : Type 0 where
  pub queue : has_queue c ≡ true
  pub endpoint : (queue_in c).endpoint ≡ g.endpoint x.desc
  pub number : a.endpoint ≡ e
  pub tail : tail_in c ≡ tail_of d e x
  pub count : a.requests.count ≡ (if is_next_of d e then suc (queue_in c).count else (queue_in c).count)
  pub newest : is_next_of d e ≡ true → suc (a.number (queue_in c).count) ≡ length d.transfers
  pub next : told_end x ≡ None → x.next ≡ next_in a
  pub ended : (cause : EndCause) → told_end x ≡ Some cause → (a.requests.count ≡ 0) × (is_asking c ≡ false)
  -- a queue head that is owed stores isn't asked
  pub owed : (i : ℕ) (m : Mend) → slice_get d.mends i ≡ Some m → m.queue ≡ x.queue → is_asking c ≡ false

-- ---- the request that is being published

pub record IsWritten (d : DriverContent) (x : DriverEndpoint) (part : Structures) (c : Course) (a : Numbers) (words : List ℕ) : Type 0 where
  pub setup : Qtd
  pub words_are : words ≡ qtd_words setup
  pub range : IsQtdInRange setup
  pub coming : IsComing (queue_in c) (a.requests.requests (queue_in c).count) (a.requests.places (queue_in c).count) (tail_in c) (32 * x.dummy) setup part

-- until it is lent its bytes stand in the buffers that the driver took for it
pub record IsHeldRequest (d : DriverContent) (m : Mem) (b : ℕ) (words : List ℕ) (r : Request) : Type 0 where
  pub lends : IsToBeLent d m b words
  pub stages : lends.stage ∷ lends.further ≡ request_stages r.setup
  pub held : RequestIsHeld m d.notes b r

-- its SETUP is the qTD of block b, with these words
pub record IsPublishingAt (d : DriverContent) (m : Mem) (x : DriverEndpoint) (part : Structures) (c : Course) (a : Numbers) (b : ℕ) (words : List ℕ) : Type 0 where
  pub request : IsRequest (a.requests.requests (queue_in c).count)
  pub held : d.made ≡ 0 → IsHeldRequest d m b words (a.requests.requests (queue_in c).count)
  pub written : 1 ≤ d.made → IsWritten d x part c a words

abbrev pub IsPublishingBy : DriverContent → Mem → DriverEndpoint → Structures → Course → Numbers → Option Command → Type 0
IsPublishingBy d m x part c a (Some (unfinished.Publish b words)) = IsPublishingAt d m x part c a b words
IsPublishingBy d m x part c a _ = Unit {0}

abbrev pub IsPublishing : DriverContent → Mem → DriverEndpoint → Structures → Course → Numbers → Type 0
IsPublishing d m x part c a = IsPublishingBy d m x part c a d.command

-- ---- what is harvested of the next request

pub record DataIsRead (hand : Hand) (parts : StructureSets) (n b : ℕ) (note : QtdNote) : Type 0 where
  pub bytes : List ℕ
  pub done : IsDone hand parts n b note.moved bytes

-- once its status alone is left, its data are read
pub record IsReadTo (hand : Hand) (parts : StructureSets) (n : ℕ) (note : ℕ → QtdNote) (y : Transfer) (r : Request) : Type 0 where
  pub setup : (note y.first).moved ≡ 0
  pub data_at : has_data r ≡ true → y.left ≡ 1 → DataIsRead hand parts n (note y.first).next (note (note y.first).next)
  pub rest : AreUnmoved note y.place y.left

-- ---- what the lines tell

pub record HasTelling (d : DriverContent) (asks : ℕ → Request) (e : ℕ) (x : DriverEndpoint) (whole : EpName → Request → List ℕ) (v : Windows) (a : Numbers) : Type 0 where
  pub reported : List ℕ
  pub untold : List ℕ
  pub closed : a.closed ≡ reported ++ untold
  pub going : told_end x ≡ None → untold ≡ []
  pub uncancelled : IsUncancelled x.desc.name d
  pub telling : IsTelling d asks e x.desc.name (whole x.desc.name) v reported (untold ++ first_of a.number a.requests.count)

-- ---- what its device counts

-- one for each act in the windows of its transfers, up to the last value of 32 bits
pub record IsCountedOn (wire : Wired) (d : DriverContent) (v : Windows) (e : ℕ) (x : DriverEndpoint) : Type 0 where
  pub device : Device
  pub is : control_of wire x.desc.name.addr x.desc.name.num ≡ Some device
  pub acted : device.stages.acted ≡ counted_all v (numbers_of d e) 0

abbrev pub IsCounted : Fixed → World → Windows → ℕ → DriverEndpoint → Type 0
IsCounted fixed w v e x = IsCountedOn (wired fixed w) w.driver v e x

-- ---- all of them

abbrev pub IsUnopened : DriverContent → ℕ → ℕ → Type 0
IsUnopened d addr num = (e : ℕ) (z : DriverEndpoint) → slice_get d.endpoints e ≡ Some z → z.desc.name.addr ≡ addr → z.desc.name.num ≡ num → is_opening d z ≡ true

abbrev pub IsUnheard : DriverContent → EpName → Type 0
IsUnheard d name = (e : ℕ) (z : DriverEndpoint) → slice_get d.endpoints e ≡ Some z → z.desc.name ≡ name → is_opening d z ≡ true

pub record IsControlOf (g : Sides) (d : DriverContent) (e : ℕ) (x : DriverEndpoint) : Type 0 where
  pub here : slice_get d.endpoints e ≡ Some x
  pub control : g.asks x.desc ≡ true

pub record IsMetControl (g : Sides) (d : DriverContent) (e : ℕ) (x : DriverEndpoint) : Type 0 where
  pub is : IsControlOf g d e x
  pub met : IsMet d e x

-- over what a driver has, and what its memory and a bus have
pub record AsksIn (g : Sides) (member : ℕ → Bool) (parts : StructureSets) (hand : Hand) (a : Asking) (v : Windows) (asks : ℕ → Request) (d : DriverContent) (m : Mem) (wire : Wired) : Type 0 where
  pub stand : CoursesStand control_of member a.courses parts hand wire
  pub records : AreRecords d asks a.courses a.numbers (has_left g d) v
  pub each : (e : ℕ) (x : DriverEndpoint) → IsMetControl g d e x → HasCourse g d e x (a.courses (32 * x.queue)) (a.numbers (32 * x.queue))
  -- the endpoint of a queue is one of these
  pub asked : (n : ℕ) (x : DriverEndpoint) → have_queues a.courses n ≡ true → slice_get d.endpoints (a.numbers n).endpoint ≡ Some x
      → g.asks x.desc ≡ true
  pub publishing : (e : ℕ) (x : DriverEndpoint) → IsMetControl g d e x → is_next_of d e ≡ true
      → IsPublishing d m x (parts (32 * x.queue)) (a.courses (32 * x.queue)) (a.numbers (32 * x.queue))
  pub read : (e t : ℕ) (x : DriverEndpoint) (y : Transfer) → IsMetControl g d e x → told_end x ≡ None → x.next ≡ Some t
      → slice_get d.transfers t ≡ Some y
      → IsReadTo hand parts (32 * x.queue) (note_at d.notes) y ((a.numbers (32 * x.queue)).requests.requests 0)
  pub telling : (e : ℕ) (x : DriverEndpoint) → IsMetControl g d e x
      → HasTelling d asks e x g.whole v (a.numbers (32 * x.queue))
  -- of those that are being opened, too
  pub given : (e : ℕ) (x : DriverEndpoint) → IsControlOf g d e x → IsGiven g x.desc
  -- .. and of those that were given back
  pub counts : (e : ℕ) (x : DriverEndpoint) → IsControlOf g d e x → is_opening d x ≡ false → IsCountedOn wire d v e x
  pub unopened : (addr num : ℕ) (c : Device) → 1 ≤ addr → IsUnopened d addr num → g.first addr num ≡ Some c
      → control_of wire addr num ≡ Some c
  -- no line tells of an endpoint that wasn't opened, or is being opened
  pub untold : (name : EpName) → IsUnheard d name → lines_in name d.reports ≡ []
  -- no token of these queues tells a missed microframe: that bit is of split transactions (EHCI 1.0, 3.5.3)
  pub unmissed : MissNone (have_queues a.courses) d parts hand

-- .. for some queues
pub record HasAsks (g : Sides) (member : ℕ → Bool) (parts : StructureSets) (hand : Hand) (v : Windows) (asks : ℕ → Request) (d : DriverContent) (m : Mem) (wire : Wired) : Type 0 where
  pub asking : Asking
  pub world : AsksIn g member parts hand asking v asks d m wire

abbrev pub IsAskingWorld : Sides → Fixed → (ℕ → Bool) → Standing → Asking → Windows → (ℕ → Request) → World → Type 0
IsAskingWorld g fixed member s a v asks w = AsksIn g member s.parts s.hand a v asks w.driver w.memory (wired fixed w)
