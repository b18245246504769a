-- What changes the queue of a control endpoint (EHCI 1.0, 3.5, 4.8 and 4.10; USB 2.0, 8.5.3): a request is published, is done, or halts; a halted queue head is
-- mended; and the endpoint comes or goes. All other queues stand as they did.
--     without_requests v         the endpoint, and no request
--     lines_behind v l           the windows of the requests behind the first: where the first is under way yet the next one's opens, on the device as it is left
--     FirstEnds                  the law of a queue: where memory shows that the first request of several has ended, it was acted on exactly once, and the others go on
--     IsPublishedAt ..           after the store over the qTD at the end of a queue that is the SETUP of a further request, and the new end
--     AskedStore, RestStore, HaltedStore
--                                the laws: it is one more of those that are asked, it is the first and its window opens, or it waits until the queue head is mended
--     FirstGoes, LastGoes        .. of a request that has ended, where others are behind it, and where none is
--     RequestHalts               .. of a queue head that is halted: none of the requests is asked any more
--     first_in v b               where the first request stands, or the end of the queue
--     MendStands, MendGoesOn     .. of a store over a halted queue head that leaves it halted, and of the one by which it goes on
--     CourseBegins, CourseLeaves, MembersChange
--                                .. of an endpoint that is met from now on, of one of which nothing more is told, and of other queue heads that come or go
use Rattle.std.specs.Prelude.{◌≡◌, ◌≢◌, ◌⊎◌, ℕ, zero, suc, ◌<◌, ◌≤◌, Bool, true, false, Option, Some}
use Rattle.usb_base.specs.declared.packets.Reply.{Reply}
use Rattle.link_words.specs.declared.kinds.QtdLink.TheVariants.{To}
use Rattle.link_words.specs.Links.{qtd_link_of}
use Rattle.qh_qtd.specs.declared.qtd.Qtd.{Qtd}
use Rattle.qh_qtd.specs.declared.queue_head.Qh.{Qh}
use Rattle.hc_copy.specs.Visits.{next_pointer}
use Rattle.law_structures.specs.lent_structures.Structures.{QueueHead, Element, StructureSets, put}
use Rattle.law_structures.specs.lent_structures.Sound.{IsMember}
use Rattle.dev_control.specs.Stages.{Stages}
use Rattle.claims_report.specs.Requests.{Request}
use Rattle.law_request.specs.Line.{Line}
use Rattle.claims_report.specs.ControlSides.{Device}
use Rattle.law_ring.specs.Hand.{Hand}
use Rattle.law_ring.specs.Ring.{IsInHand}
use Rattle.law_ring.specs.Stores.{hand_stale}
use Rattle.law_ring.specs.Told.{HasEndpoint, endpoint_of, Endpoint as Characteristics}
use Rattle.law_devices.specs.ring_requests.Laid.{Places}
use Rattle.law_devices.specs.ring_requests.Windows.{Queue, sent_at, Lines, lines_at, opened, HasEnded, IsActedOnce, IsQueue, IsElsewhere}
use Rattle.law_devices.specs.ring_requests.Resting.{IsAtRest, IsStopped}
use Rattle.law_devices.specs.request_stores.Published.{IsNextRequest, with_request, without_first}
use Rattle.law_reports.specs.requests.Courses.{Course, NoQueue, Asks, Rests, AreInLine, have_queues, queues, CoursesStand, with_course}

abbrev pub without_requests : Queue → Queue
without_requests v = record v { count = 0 }

-- ---- the first request goes

abbrev pub lines_from : Queue → ℕ → (ℕ → Line) → Lines
lines_from v zero line = record { under = 0; line = λ i. opened v (suc i) (line 0) }
lines_from v (suc u) line = record { under = u; line = λ i. line (suc i) }

abbrev pub lines_behind : Queue → Lines → Lines
lines_behind v l = lines_from v l.under l.line

pub record IsFirstDone (v : Queue) (l : Lines) (hand : Hand) (parts : StructureSets) (n : ℕ) (o : Option Device) : Type 0 where
  pub once : IsActedOnce (sent_at v 0) (l.line 0) hand parts n
  pub queue : IsQueue (without_first v) (lines_behind v l) hand parts n o

abbrev pub FirstEnds : Type 0
FirstEnds = (member : ℕ → Bool) (parts : StructureSets) (hand : Hand) (reply : Reply) (n b : ℕ) (v : Queue) (l : Lines) (o : Option Device)
    → IsMember member n (parts n) → IsInHand member parts reply hand → AreInLine v b → IsQueue v l hand parts n o → 1 < v.count → HasEnded (sent_at v 0) parts n → IsFirstDone v l hand parts n o

pub record FirstHasGone {W : Type 0} (device : W → ℕ → ℕ → Option Device) (member : ℕ → Bool) (courses : ℕ → Course) (parts : StructureSets) (hand : Hand) (wire : W) (n : ℕ) (v : Queue) (l : Lines)
    (course : Course) : Type 0 where
  pub once : IsActedOnce (sent_at v 0) (l.line 0) hand parts n
  pub stand : CoursesStand device member (with_course courses n course) parts hand wire

abbrev pub FirstGoes : {W : Type 0} → (W → ℕ → ℕ → Option Device) → Type 0
FirstGoes {W} device = (member : ℕ → Bool) (courses : ℕ → Course) (parts : StructureSets) (hand : Hand) (reply : Reply) (wire : W) (n b : ℕ) (v : Queue) (l : Lines)
    → courses n ≡ Asks v b l → 1 < v.count → IsMember member n (parts n) → IsInHand member parts reply hand → HasEnded (sent_at v 0) parts n
    → CoursesStand device member courses parts hand wire → FirstHasGone device member courses parts hand wire n v l (Asks (without_first v) b (lines_behind v l))

abbrev pub LastGoes : {W : Type 0} → (W → ℕ → ℕ → Option Device) → Type 0
LastGoes {W} device = (member : ℕ → Bool) (courses : ℕ → Course) (parts : StructureSets) (hand : Hand) (reply : Reply) (wire : W) (n b : ℕ) (v : Queue) (l : Lines)
    → courses n ≡ Asks v b l → v.count ≡ 1 → IsMember member n (parts n) → IsInHand member parts reply hand → HasEnded (sent_at v 0) parts n
    → CoursesStand device member courses parts hand wire → FirstHasGone device member courses parts hand wire n v l (Rests (without_first v) b (l.line 0).device)

-- ---- the queue head is halted

abbrev pub RequestHalts : {W : Type 0} → (W → ℕ → ℕ → Option Device) → Type 0
RequestHalts {W} device = (member : ℕ → Bool) (courses : ℕ → Course) (parts : StructureSets) (hand : Hand) (reply : Reply) (wire : W) (n b : ℕ) (v : Queue) (l : Lines)
    → courses n ≡ Asks v b l → IsMember member n (parts n) → IsInHand member parts reply hand → IsStopped parts n
    → CoursesStand device member courses parts hand wire → CoursesStand device member (with_course courses n (Rests (without_requests v) b (l.line l.under).device)) parts hand wire

-- ---- a request is published

-- over the qTD at b; the queue ends at d then
pub record IsPublishedAt (v : Queue) (r : Request) (x : Places) (b d : ℕ) (parts : StructureSets) (n : ℕ) (new : Qtd) : Type 0 where
  pub setup : x.setup ≡ b
  pub behind : x.behind ≡ Some d
  pub next : IsNextRequest v r x (put parts n b (Element new) n)

abbrev pub AskedStore : {W : Type 0} → (W → ℕ → ℕ → Option Device) → Type 0
AskedStore {W} device = (member : ℕ → Bool) (courses : ℕ → Course) (parts : StructureSets) (hand : Hand) (wire : W) (n b d : ℕ) (v : Queue) (l : Lines) (r : Request) (x : Places) (new : Qtd)
    → courses n ≡ Asks v b l → IsPublishedAt v r x b d parts n new → CoursesStand device member courses parts hand wire
    → CoursesStand device member (with_course courses n (Asks (with_request v r x) d l)) (put parts n b (Element new)) hand wire

abbrev pub RestStore : {W : Type 0} → (W → ℕ → ℕ → Option Device) → Type 0
RestStore {W} device = (member : ℕ → Bool) (courses : ℕ → Course) (parts : StructureSets) (hand : Hand) (wire : W) (n b d : ℕ) (v : Queue) (c : Stages) (q : Qh) (r : Request) (x : Places) (new : Qtd)
    → courses n ≡ Rests v b c → v.count ≡ 0 → parts n n ≡ Some (QueueHead q) → q.token.halted ≡ false → IsPublishedAt v r x b d parts n new → CoursesStand device member courses parts hand wire
    → CoursesStand device member (with_course courses n (Asks (with_request v r x) d (lines_at (with_request v r x) q.token.ping c))) (put parts n b (Element new)) hand wire

abbrev pub HaltedStore : {W : Type 0} → (W → ℕ → ℕ → Option Device) → Type 0
HaltedStore {W} device = (member : ℕ → Bool) (courses : ℕ → Course) (parts : StructureSets) (hand : Hand) (wire : W) (n b d : ℕ) (v : Queue) (c : Stages) (r : Request) (x : Places) (new : Qtd)
    → courses n ≡ Rests v b c → IsStopped parts n → IsPublishedAt v r x b d parts n new → CoursesStand device member courses parts hand wire
    → CoursesStand device member (with_course courses n (Rests (with_request v r x) d c)) (put parts n b (Element new)) hand wire

-- ---- a halted queue head is mended

abbrev pub first_from : ℕ → Queue → ℕ → ℕ
first_from zero v b = b
first_from (suc k) v b = (v.places 0).setup

abbrev pub first_in : Queue → ℕ → ℕ
first_in v b = first_from v.count v b

-- where some wait, the window of the first one opens
abbrev pub mended_from : ℕ → Queue → ℕ → Bool → Stages → Course
mended_from zero v b ping c = Rests v b c
mended_from (suc k) v b ping c = Asks v b (lines_at v ping c)

abbrev pub mended_course : Queue → ℕ → Bool → Stages → Course
mended_course v b ping c = mended_from v.count v b ping c

-- it is stored over, and isn't active
pub record IsMendedTo (parts : StructureSets) (n : ℕ) (q new : Qh) : Type 0 where
  pub here : parts n n ≡ Some (QueueHead q)
  pub endpoint : endpoint_of new ≡ endpoint_of q
  pub idle : new.token.active ≡ false

abbrev pub MendStands : {W : Type 0} → (W → ℕ → ℕ → Option Device) → Type 0
MendStands {W} device = (member : ℕ → Bool) (courses : ℕ → Course) (parts : StructureSets) (hand : Hand) (reply : Reply) (wire : W) (n b : ℕ) (v : Queue) (c : Stages) (q new : Qh)
    → courses n ≡ Rests v b c → IsInHand member parts reply hand → IsMendedTo parts n q new → new.token.halted ≡ true
    → CoursesStand device member courses parts hand wire → CoursesStand device member courses (put parts n n (QueueHead new)) (hand_stale n hand) wire

abbrev pub MendGoesOn : {W : Type 0} → (W → ℕ → ℕ → Option Device) → Type 0
MendGoesOn {W} device = (member : ℕ → Bool) (courses : ℕ → Course) (parts : StructureSets) (hand : Hand) (reply : Reply) (wire : W) (n b : ℕ) (v : Queue) (c : Stages) (q new : Qh)
    → courses n ≡ Rests v b c → IsInHand member parts reply hand → IsMendedTo parts n q new → new.token.halted ≡ false → qtd_link_of (next_pointer new) ≡ To (first_in v b)
    → CoursesStand device member courses parts hand wire
    → CoursesStand device member (with_course courses n (mended_course v b new.token.ping c)) (put parts n n (QueueHead new)) (hand_stale n hand) wire

-- ---- endpoints come and go

-- its endpoint is no other queue head's
pub record IsNewCourse {W : Type 0} (device : W → ℕ → ℕ → Option Device) (member : ℕ → Bool) (courses : ℕ → Course) (parts : StructureSets) (hand : Hand) (wire : W) (n b : ℕ) (v : Queue) (c : Stages) : Type 0 where
  pub met : member n ≡ true
  pub new : courses n ≡ NoQueue
  pub none : v.count ≡ 0
  pub whole : 8 ≤ v.endpoint.max
  pub rest : IsAtRest v.endpoint c b hand parts n (device wire v.endpoint.addr v.endpoint.num)
  pub other : (k : ℕ) (own : Characteristics) → k ≢ n → member k ≡ true → HasEndpoint parts k own → v.endpoint.addr ≡ own.addr → v.endpoint.num ≡ own.ep → ⊥

abbrev pub CourseBegins : {W : Type 0} → (W → ℕ → ℕ → Option Device) → Type 0
CourseBegins {W} device = (member : ℕ → Bool) (courses : ℕ → Course) (parts : StructureSets) (hand : Hand) (wire : W) (n b : ℕ) (v : Queue) (c : Stages)
    → IsNewCourse device member courses parts hand wire n b v c → CoursesStand device member courses parts hand wire → CoursesStand device member (with_course courses n (Rests v b c)) parts hand wire

abbrev pub CourseLeaves : {W : Type 0} → (W → ℕ → ℕ → Option Device) → Type 0
CourseLeaves {W} device = (member : ℕ → Bool) (courses : ℕ → Course) (parts : StructureSets) (hand : Hand) (wire : W) (n : ℕ) → CoursesStand device member courses parts hand wire
    → CoursesStand device member (with_course courses n NoQueue) parts hand wire

-- those that come are of other endpoints, and those that go have no such queue
abbrev pub MembersChange : {W : Type 0} → (W → ℕ → ℕ → Option Device) → Type 0
MembersChange {W} device = (member met : ℕ → Bool) (courses : ℕ → Course) (parts : StructureSets) (hand : Hand) (wire : W)
    → ((k : ℕ) → have_queues courses k ≡ true → met k ≡ true) → ((k : ℕ) → met k ≡ true → (member k ≡ true) ⊎ IsElsewhere (have_queues courses) (queues courses) parts k)
    → CoursesStand device member courses parts hand wire → CoursesStand device met courses parts hand wire
