-- The requests of all control endpoints of a ring at once (EHCI 1.0, 4.10; USB 2.0, 8.5.3): each has a queue of them, one behind the other. One is
-- under way and shown by its qTDs, those before it are done, and those behind it are laid out and not begun.
--     Sent                       a request with its endpoint, and where its qTDs stand
--     Queue, sent_at v i         the requests of an endpoint in order
--     Lines                      which of them is under way, and the windows of those that were begun
--     IsWindow ..                its host is shown by memory and the copy in hand, its device is that on the bus, and both stand as they must
--     IsFinished, IsBehind ..    a request that is done, one that isn't begun
--     HasTail v part             the last of an endpoint's requests leads to its tail, or to nothing that is published
--     IsQueueOf window ..        the queue of an endpoint is so, where this is said of the request under way
--     IsQueue ..                 .. at high speed
--     IsLaid, AreLaid ..         a request, a queue is laid out, and not begun
--     HasEnded ..                what memory alone tells of a request that is done
--     IsActedOnce ..             the device acted on it exactly once, and all its data are told
--     AreSent ..                 these queue heads have requests, each of an endpoint of its own
--     AreWindows ..              the queue of each of them is so, and no other queue head asks one of the endpoints
--     AreHigh windows parts      these queue heads are of high speed (EHCI 1.0, 3.6.2)
--     Step, stepped              one transaction of one of the requests, or the advance of one of the queue heads to its next request
--     WindowsGoOn ..             an event of the walk: at most one such step, and none of an endpoint whose request halted
use Rattle.std.specs.Prelude.{◌≡◌, ◌≢◌, ℕ, suc, ◌<◌, ◌≤◌, Bool, true, false, ◌&&◌, ◌==◌, ◌⊎◌, List, [], ◌∷◌, Option, Some, None, if◌then◌else◌}
use Rattle.usb_base.specs.declared.endpoints.EndCause.{EndCause}
use Rattle.usb_base.specs.declared.packets.Ask.{Ask}
use Rattle.usb_base.specs.declared.packets.Reply.{Reply}
use Rattle.link_words.specs.declared.kinds.QtdLink.TheVariants.{To}
use Rattle.link_words.specs.Links.{qtd_link_of}
use Rattle.qh_qtd.specs.declared.qtd.Qtd.{Qtd}
use Rattle.qh_qtd.specs.declared.queue_head.Qh.{Qh}
use Rattle.hc_copy.specs.Planning.{host_in}
use Rattle.hc_copy.specs.Visits.{next_pointer}
use Rattle.async_walk.specs.declared.state.WalkStep.{WalkStep}
use Rattle.async_walk.specs.Rows.{WalkPlace}
use Rattle.law_structures.specs.lent_structures.Structures.{QueueHead, Element, Structures, StructureSets}
use Rattle.dev_control.specs.Stages.{Stages}
use Rattle.bus_wire.specs.declared.asked.Losses.{Losses}
use Rattle.claims_report.specs.Requests.{Request}
use Rattle.law_request.specs.Host.{Endpoint, Stage, Setup, Done, Halted, has_data}
use Rattle.law_request.specs.Line.{Line, line_at, transacted}
use Rattle.law_request.specs.Windows.{IsRequest, data_of}
use Rattle.law_request.specs.Standing.{Stands}
use Rattle.claims_report.specs.ControlSides.{Device}
use Rattle.law_devices.specs.request_calls.Bus.{device_of}
use Rattle.law_devices.specs.request_calls.Stages.{IsEndpoint}
use Rattle.law_ring.specs.Hand.{Hand}
use Rattle.claims_base.specs.Controller.{Base}
use Rattle.law_ring.specs.Effects.{Effect, Happens}
use Rattle.law_ring.specs.Effects.Effect.{takes, makes}
use Rattle.law_ring.specs.Told.{Told, HasEndpoint, Endpoint as Characteristics}
use Rattle.law_devices.specs.ring_requests.Laid.{Places, AreApart, AreOthers, IsIdle}
use Rattle.law_devices.specs.ring_requests.Shown.{hand_side, AreFresh, Shows, IsAmong}

pub record Sent : Type 0 where
  pub endpoint : Endpoint
  pub request : Request
  pub places : Places

-- so many requests, each with its places
pub record Queue : Type 0 where
  pub endpoint : Endpoint
  pub count : ℕ
  pub requests : ℕ → Request
  pub places : ℕ → Places

abbrev pub sent_at : Queue → ℕ → Sent
sent_at v i = record { endpoint = v.endpoint; request = v.requests i; places = v.places i }

pub record Lines : Type 0 where
  pub under : ℕ
  pub line : ℕ → Line

-- ---- a request

pub record IsWindow (v : Sent) (l : Line) (hand : Hand) (parts : StructureSets) (n : ℕ) (o : Option Device) : Type 0 where
  pub queue : Qh
  pub head : parts n n ≡ Some (QueueHead queue)
  pub control : IsEndpoint v.endpoint queue
  pub shown : Shows v.endpoint v.request v.places (parts n) (hand_side hand n queue) queue l.host
  pub among : IsAmong v.places queue
  pub moved : has_data v.request ≡ true → Told hand parts n v.places.data_at l.host.moved
  pub device : o ≡ Some (device_of v.endpoint l.device)
  pub stands : Stands v.endpoint v.request l

pub record IsFinished (v : Sent) (l : Line) (hand : Hand) (parts : StructureSets) (n : ℕ) : Type 0 where
  pub done : l.host.stage ≡ Done
  pub moved : has_data v.request ≡ true → Told hand parts n v.places.data_at l.host.moved
  pub stands : Stands v.endpoint v.request l

pub record IsBehind (v : Sent) (hand : Hand) (parts : StructureSets) (n : ℕ) : Type 0 where
  pub fresh : AreFresh v.endpoint v.request v.places (parts n) Setup
  pub none_told : has_data v.request ≡ true → Told hand parts n v.places.data_at []

-- a request that is laid out and not begun: the overlay has ended, and leads to its SETUP
pub record IsLaid (v : Sent) (hand : Hand) (parts : StructureSets) (n : ℕ) (q : Qh) : Type 0 where
  pub head : parts n n ≡ Some (QueueHead q)
  pub control : IsEndpoint v.endpoint q
  pub idle : q.token.active ≡ false
  pub nothing_made : hand_side hand n q ≡ host_in q
  pub leads : qtd_link_of (next_pointer q) ≡ To v.places.setup
  pub fresh : AreFresh v.endpoint v.request v.places (parts n) Setup
  pub none_told : has_data v.request ≡ true → Told hand parts n v.places.data_at []

pub record IsGoing (parts : StructureSets) (n : ℕ) : Type 0 where
  pub queue : Qh
  pub head : parts n n ≡ Some (QueueHead queue)
  pub goes_on : queue.token.halted ≡ false

-- what memory alone tells of a request that is done: the qTD of its status has ended, and it or the queue head isn't halted
pub record HasEnded (v : Sent) (parts : StructureSets) (n : ℕ) : Type 0 where
  pub qtd : Qtd
  pub here : parts n v.places.status ≡ Some (Element qtd)
  pub ended : qtd.token.active ≡ false
  pub goes_on : (qtd.token.halted ≡ false) ⊎ IsGoing parts n

-- the device acted on it exactly once, and all its data are told
pub record IsActedOnce (v : Sent) (l : Line) (hand : Hand) (parts : StructureSets) (n : ℕ) : Type 0 where
  pub acts : l.acts ≡ v.request.setup ∷ []
  pub told : has_data v.request ≡ true → Told hand parts n v.places.data_at (data_of v.endpoint v.request)

-- ---- the requests of an endpoint

-- where the status of the last one leads no qTD is active
abbrev pub HasTail : Queue → Structures → Type 0
HasTail v part = (i a : ℕ) → suc i ≡ v.count → (v.places i).behind ≡ Some a → IsIdle part a

-- with the request under way as this says, before it and behind it whatever it is
pub record IsQueueOf (window_is : Sent → Line → Type 0) (v : Queue) (l : Lines) (hand : Hand) (parts : StructureSets) (n : ℕ) : Type 0 where
  pub within : l.under < v.count
  pub window : window_is (sent_at v l.under) (l.line l.under)
  pub finished : (i : ℕ) → i < l.under → IsFinished (sent_at v i) (l.line i) hand parts n
  pub behind : (i : ℕ) → l.under < i → i < v.count → IsBehind (sent_at v i) hand parts n
  pub tail : HasTail v (parts n)

abbrev pub IsQueue : Queue → Lines → Hand → StructureSets → ℕ → Option Device → Type 0
IsQueue v l hand parts n o = IsQueueOf (λ s x. IsWindow s x hand parts n o) v l hand parts n

pub record AreLaid (v : Queue) (hand : Hand) (parts : StructureSets) (n : ℕ) (q : Qh) : Type 0 where
  pub some : 0 < v.count
  pub first : IsLaid (sent_at v 0) hand parts n q
  pub behind : (i : ℕ) → 0 < i → i < v.count → IsBehind (sent_at v i) hand parts n
  pub tail : HasTail v (parts n)

-- none of them is begun; the first is before its first transaction, whatever the device was left as
abbrev pub lines_at : Queue → Bool → Stages → Lines
lines_at v ping c = record { under = 0; line = λ i. line_at v.endpoint (v.requests i) ping c }

-- ---- all of them

-- the status of each leads to the SETUP of the next one
abbrev pub AreChained : Queue → Type 0
AreChained v = (i : ℕ) → suc i < v.count → (v.places i).behind ≡ Some (v.places (suc i)).setup

pub record AreSent (member windows : ℕ → Bool) (sent : ℕ → Queue) : Type 0 where
  pub members : (n : ℕ) → windows n ≡ true → member n ≡ true
  pub requests : (n i : ℕ) → windows n ≡ true → i < (sent n).count → IsRequest ((sent n).requests i)
  pub whole : (n : ℕ) → windows n ≡ true → 8 ≤ (sent n).endpoint.max
  pub places : (n i : ℕ) → windows n ≡ true → i < (sent n).count → AreApart ((sent n).places i)
  pub others : (n i k : ℕ) → windows n ≡ true → i < (sent n).count → k < (sent n).count → i ≢ k → AreOthers ((sent n).places i) ((sent n).places k)
  pub chained : (n : ℕ) → windows n ≡ true → AreChained (sent n)
  pub apart : (n k : ℕ) → windows n ≡ true → windows k ≡ true → (sent n).endpoint.addr ≡ (sent k).endpoint.addr → (sent n).endpoint.num ≡ (sent k).endpoint.num → n ≡ k

-- a queue head of another endpoint
pub record IsElsewhere (windows : ℕ → Bool) (sent : ℕ → Queue) (parts : StructureSets) (n : ℕ) : Type 0 where
  pub own : Characteristics
  pub has : HasEndpoint parts n own
  pub other : (k : ℕ) → windows k ≡ true → (sent k).endpoint.addr ≡ own.addr → (sent k).endpoint.num ≡ own.ep → ⊥

pub record AreWindows {W : Type 0} (device : W → ℕ → ℕ → Option Device) (member windows : ℕ → Bool) (sent : ℕ → Queue) (lines : ℕ → Lines) (parts : StructureSets) (hand : Hand) (wire : W) : Type 0 where
  pub each : (n : ℕ) → windows n ≡ true → IsQueue (sent n) (lines n) hand parts n (device wire (sent n).endpoint.addr (sent n).endpoint.num)
  pub others : (n : ℕ) → member n ≡ true → windows n ≡ false → IsElsewhere windows sent parts n

abbrev pub AreHigh : (ℕ → Bool) → StructureSets → Type 0
AreHigh windows parts = (n : ℕ) (q : Qh) → windows n ≡ true → parts n n ≡ Some (QueueHead q) → q.eps ≡ 2

-- ---- an event

-- a transaction of the request under way, or the next one is begun
pub data Progress : Type 0 where
  Transaction : Losses → Progress
  Advance : Progress

pub record Step : Type 0 where
  pub at : ℕ
  pub is : Progress

-- the window of the next request opens: the ping state stays, and so does the device
abbrev pub opened : Queue → ℕ → Line → Line
opened v i l = line_at v.endpoint (v.requests i) l.host.side.ping l.device

abbrev pub progressed : Queue → Progress → Lines → Lines
progressed v (Transaction losses) l = record { under = l.under; line = λ i. if i == l.under then transacted v.endpoint (v.requests i) losses (l.line i) else l.line i }
progressed v Advance l = record { under = suc l.under; line = λ i. if i == suc l.under then opened v i (l.line l.under) else l.line i }

abbrev pub stepped : (ℕ → Queue) → Option Step → (ℕ → Lines) → ℕ → Lines
stepped sent None lines n = lines n
stepped sent (Some s) lines n = if n == s.at then progressed (sent n) s.is (lines n) else lines n

abbrev pub stage_of : Lines → Stage
stage_of l = (l.line l.under).host.stage

abbrev pub is_done : Stage → Bool
is_done Done = true
is_done _ = false

pub record IsTransactionAt (at : ℕ) (o : Option Step) : Type 0 where
  pub losses : Losses
  pub is : o ≡ Some (record { at = at; is = Transaction losses })

-- a queue head whose request is done goes on to the next one
abbrev pub advance_at : (ℕ → Bool) → (ℕ → Lines) → ℕ → Option Step
advance_at windows lines n = if windows n && is_done (stage_of (lines n)) then Some (record { at = n; is = Advance }) else None

-- each transaction of one of these queue heads is one of its request under way, and nothing else is
abbrev pub IsStepOf : {W : Type 0} {transacts : W → Ask → List ℕ → Reply → W → Type 0} {parts : StructureSets} {hand : Hand} {wire after : W} {now : StructureSets} {later : Hand} {kind : WalkStep}
    → (ℕ → Bool) → (ℕ → Lines) → Option Step → Effect transacts parts hand wire after now later kind → Type 0
IsStepOf windows lines o (makes m all) = (windows m.copy.at ≡ true → IsTransactionAt m.copy.at o) × (windows m.copy.at ≡ false → o ≡ None)
IsStepOf windows lines o (takes k quiet) = o ≡ advance_at windows lines k.copy.at
IsStepOf windows lines o _ = o ≡ None

-- no step of an endpoint whose request under way halted: the requests behind it are never begun
abbrev pub HaltedStay : (ℕ → Bool) → (ℕ → Lines) → Option Step → Type 0
HaltedStay windows lines o = (n : ℕ) (cause : EndCause) → windows n ≡ true → stage_of (lines n) ≡ Halted cause → (s : Step) → o ≡ Some s → n ≢ s.at

pub record WindowsGoOn {W : Type 0} (transacts : W → Ask → List ℕ → Reply → W → Type 0) (device : W → ℕ → ℕ → Option Device) (base : Base) (member windows : ℕ → Bool) (sent : ℕ → Queue)
    (lines : ℕ → Lines) (parts : StructureSets) (hand : Hand) (wire after : W) (new : WalkPlace) (kind : WalkStep) : Type 0 where
  pub event : Happens transacts base member parts hand wire after new kind
  pub step : Option Step
  pub all : AreWindows device member windows sent (stepped sent step lines) event.now event.later after
  pub is : IsStepOf windows lines step event.effect
  pub halted : HaltedStay windows lines step
