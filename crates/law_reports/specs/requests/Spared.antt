-- What is written beside the requests of control endpoints leaves their queues as they stand (EHCI 1.0, 3.5, 4.8 and 4.10; USB 2.0, 8.5.3).
--     KeepsBuffer part now t     the buffer of a qTD stays
--     KeepsQtds v part now       the qTDs of these requests stay with their buffers
--     KeepsQueue v b ..          the queue head at n keeps its overlay and its endpoint, whatever its link, and so do these requests their qTDs; the qTD at b isn't active
--     CoursesAreSpared           the law: where so it is of each queue, all stand as they did
--     StoreSparesCourses, LendSparesCourses, ReleaseSparesCourses, LinkSparesCourses
--                                the laws of a store over a qTD that is no request's, that isn't active where it ends the queue, of a lend, of structures that are given back, and of a link that is stored in a
--                                queue head
use Rattle.std.specs.Prelude.{◌≡◌, ◌≢◌, ◌⊎◌, ℕ, ◌<◌, Bool, true, false, List, Option, Some}
use Rattle.link_words.specs.declared.fields.LinkBits.{LinkBits}
use Rattle.qh_qtd.specs.declared.qtd.Qtd.{Qtd}
use Rattle.qh_qtd.specs.declared.queue_head.Qh.{Qh}
use Rattle.law_structures.specs.lent_structures.Structures.{Structure, QueueHead, Element, Buffer, Structures, StructureSets, put}
use Rattle.law_structures.specs.lent_structures.Sound.{buffer_name}
use Rattle.law_request.specs.Host.{Stage}
use Rattle.claims_report.specs.ControlSides.{Device}
use Rattle.law_ring.specs.Hand.{Hand}
use Rattle.law_ring.specs.Effects.{buffer_of}
use Rattle.law_ring.specs.Fewer.{without_those}
use Rattle.law_ring.specs.Sparing.{SameHand, SparesHead}
use Rattle.law_ring.specs.Stores.{hand_linked}
use Rattle.law_ring.specs.Told.{HasEndpoint, Endpoint as Characteristics}
use Rattle.law_devices.specs.ring_requests.Laid.{place_at, IsIdle}
use Rattle.law_devices.specs.ring_requests.Windows.{Queue}
use Rattle.law_devices.specs.ring_requests.Resting.{HeadStays, SameSide}
use Rattle.law_reports.specs.requests.Courses.{Course, tail_in, have_queues, queues, CoursesStand}

-- the buffer of a qTD, if it has one
pub record KeepsBuffer (part now : Structures) (t : Qtd) : Type 0 where
  pub here : (pages : List ℕ) (k : ℕ) (bytes : List ℕ) → part (buffer_name t) ≡ Some (Buffer pages k bytes) → now (buffer_name t) ≡ Some (Buffer pages k bytes)
  pub bytes : buffer_of now t ≡ buffer_of part t

pub record KeepsQtds (v : Queue) (part now : Structures) : Type 0 where
  pub place : (i : ℕ) (s : Stage) (t : Qtd) → i < v.count → part (place_at (v.places i) s) ≡ Some (Element t) → now (place_at (v.places i) s) ≡ Some (Element t)
  pub before : (i : ℕ) (s : Stage) (t : Qtd) → i < v.count → now (place_at (v.places i) s) ≡ Some (Element t) → part (place_at (v.places i) s) ≡ Some (Element t)
  pub buffer : (i : ℕ) (s : Stage) (t : Qtd) → i < v.count → part (place_at (v.places i) s) ≡ Some (Element t) → KeepsBuffer part now t

pub record KeepsQueue (v : Queue) (b : ℕ) (hand later : Hand) (parts now : StructureSets) (n : ℕ) : Type 0 where
  pub side : SameSide hand later n
  pub same : SameHand hand later
  pub head : HeadStays (parts n) (now n) n
  pub overlay : SparesHead parts now n
  pub qtds : KeepsQtds v (parts n) (now n)
  pub tail : IsIdle (now n) b

abbrev pub KeepsEndpoints : (ℕ → Bool) → StructureSets → StructureSets → Type 0
KeepsEndpoints member parts now = (k : ℕ) (own : Characteristics) → member k ≡ true → HasEndpoint parts k own → HasEndpoint now k own

abbrev pub CoursesAreSpared : {W : Type 0} → (W → ℕ → ℕ → Option Device) → Type 0
CoursesAreSpared {W} device = (member : ℕ → Bool) (courses : ℕ → Course) (parts now : StructureSets) (hand later : Hand) (wire : W)
    → ((n : ℕ) → have_queues courses n ≡ true → KeepsQueue (queues courses n) (tail_in (courses n)) hand later parts now n) → KeepsEndpoints member parts now
    → CoursesStand device member courses parts hand wire → CoursesStand device member courses now later wire

-- ---- what is written

-- none of the requests of the queue at k has a qTD at a
abbrev pub IsNoRequests : (ℕ → Course) → ℕ → ℕ → Type 0
IsNoRequests courses k a = (i : ℕ) (s : Stage) → have_queues courses k ≡ true → i < (queues courses k).count → place_at ((queues courses k).places i) s ≢ a

-- it isn't active after it, where it is the qTD at the end of its queue
abbrev pub StoreSparesCourses : {W : Type 0} → (W → ℕ → ℕ → Option Device) → Type 0
StoreSparesCourses {W} device = (member : ℕ → Bool) (courses : ℕ → Course) (parts : StructureSets) (hand : Hand) (wire : W) (k a : ℕ) (old new : Qtd)
    → parts k a ≡ Some (Element old) → IsNoRequests courses k a → (have_queues courses k ≡ true → tail_in (courses k) ≡ a → new.token.active ≡ false)
    → CoursesStand device member courses parts hand wire → CoursesStand device member courses (put parts k a (Element new)) hand wire

-- further structures stand beside those that were there, none of them in the place of a request's
pub record IsLentBeside (courses : ℕ → Course) (parts now : StructureSets) : Type 0 where
  pub still : (k a : ℕ) (s : Structure) → parts k a ≡ Some s → now k a ≡ Some s
  pub buffers : (k a : ℕ) (t : Qtd) → parts k a ≡ Some (Element t) → buffer_of (now k) t ≡ buffer_of (parts k) t
  pub elements : (k a : ℕ) (t : Qtd) → now k a ≡ Some (Element t) → (parts k a ≡ Some (Element t)) ⊎ IsNoRequests courses k a

abbrev pub LendSparesCourses : {W : Type 0} → (W → ℕ → ℕ → Option Device) → Type 0
LendSparesCourses {W} device = (member : ℕ → Bool) (courses : ℕ → Course) (parts now : StructureSets) (hand : Hand) (wire : W) → IsLentBeside courses parts now
    → CoursesStand device member courses parts hand wire → CoursesStand device member courses now hand wire

-- of the queue head at k, and not itself; where it has such a queue neither the qTDs of its requests and their buffers nor the one at its end
pub record GoBeside (courses : ℕ → Course) (parts : StructureSets) (k : ℕ) (goes : ℕ → Bool) : Type 0 where
  pub head : goes k ≡ false
  pub place : (i : ℕ) (s : Stage) (t : Qtd) → have_queues courses k ≡ true → i < (queues courses k).count → parts k (place_at ((queues courses k).places i) s) ≡ Some (Element t)
      → (goes (place_at ((queues courses k).places i) s) ≡ false) × ((pages : List ℕ) (j : ℕ) (bytes : List ℕ) → parts k (buffer_name t) ≡ Some (Buffer pages j bytes) → goes (buffer_name t) ≡ false)
  pub tail : have_queues courses k ≡ true → goes (tail_in (courses k)) ≡ false

abbrev pub ReleaseSparesCourses : {W : Type 0} → (W → ℕ → ℕ → Option Device) → Type 0
ReleaseSparesCourses {W} device = (member : ℕ → Bool) (courses : ℕ → Course) (parts : StructureSets) (hand : Hand) (wire : W) (k : ℕ) (goes : ℕ → Bool) → GoBeside courses parts k goes
    → CoursesStand device member courses parts hand wire → CoursesStand device member courses (without_those parts k goes) hand wire

abbrev pub LinkSparesCourses : {W : Type 0} → (W → ℕ → ℕ → Option Device) → Type 0
LinkSparesCourses {W} device = (member : ℕ → Bool) (courses : ℕ → Course) (parts : StructureSets) (hand : Hand) (wire : W) (k : ℕ) (q : Qh) (l : LinkBits) → parts k k ≡ Some (QueueHead q)
    → CoursesStand device member courses parts hand wire → CoursesStand device member courses (put parts k k (QueueHead (record q { link = l }))) (hand_linked k l hand) wire
