-- A request whose qTDs and buffers are lent, and whose SETUP is being stored over the qTD at the end of its queue, the token last (EHCI 1.0, 3.5 and 4.10.2).
--     IsSetup e r x s            the qTD s is the SETUP of the request
--     IsComing v r x b d s part  the qTD s is to stand at b, where the requests of v end; its data and its status are fresh, and the queue ends at d with them
--     LentIsComing               the law of the lend: so it is where the request would be fresh with its SETUP
--     StoreKeepsComing           the laws of a store over the qTD at b
--     EventKeepsComing           .. and of an event of the controller
--     ComingIsPublished          by the last store it is published
use Rattle.std.specs.Prelude.{◌≡◌, ◌≢◌, ℕ, ◌<◌, Bool, true, List, Option, Some}
use Rattle.usb_base.specs.declared.packets.Ask.{Ask}
use Rattle.usb_base.specs.declared.packets.Reply.{Reply}
use Rattle.qh_qtd.specs.declared.qtd.Qtd.{Qtd}
use Rattle.hc_host_side.specs.HostToken.{host_at}
use Rattle.hc_copy.specs.Planning.{pid_at}
use Rattle.hc_core.specs.Controller.{Content}
use Rattle.law_structures.specs.lent_structures.Structures.{Element, Structures, StructureSets, put}
use Rattle.law_structures.specs.lent_structures.Sound.{HasBuffer}
use Rattle.claims_report.specs.Requests.{Request}
use Rattle.law_request.specs.Host.{Endpoint, Setup, has_data, token_at, side_at, next_stage}
use Rattle.law_request.specs.Windows.{IsRequest}
use Rattle.claims_report.specs.ControlSides.{Device}
use Rattle.law_devices.specs.request_calls.Bus.{IsControlBus, KeepsDevices}
use Rattle.law_ring.specs.Hand.{Hand}
use Rattle.claims_base.specs.Controller.{Base}
use Rattle.law_ring.specs.Stores.{IsUnnamed}
use Rattle.law_controller.specs.controlled_streams.Control.{IsControlled, ControlEffect}
use Rattle.law_devices.specs.ring_requests.Laid.{Places, place_at, AreApart, AreOthers, LeadTo, IsBuffer, IsIdle}
use Rattle.law_devices.specs.ring_requests.Shown.{AreFresh}
use Rattle.law_devices.specs.ring_requests.Windows.{Queue}
use Rattle.law_reports.specs.requests.Courses.{Course, AreInLine, tail_in, queues, have_queues, CoursesStand}
use Rattle.law_reports.specs.requests.QueueChanges.{IsPublishedAt}

-- its links, its token and the buffer that it names; the ping state is that of the queue head
pub record IsSetup (e : Endpoint) (r : Request) (x : Places) (s : Qtd) : Type 0 where
  pub pid : pid_at s.token.pid ≡ token_at r Setup
  pub leads : LeadTo s (place_at x (next_stage r Setup))
  pub begins : (ping : Bool) → host_at (record s.token { ping = ping }) e.max ≡ side_at r e.max ping Setup

pub record IsComing (v : Queue) (r : Request) (x : Places) (b d : ℕ) (s : Qtd) (part : Structures) : Type 0 where
  pub request : IsRequest r
  pub setup : x.setup ≡ b
  pub behind : x.behind ≡ Some d
  pub apart : AreApart x
  pub others : (i : ℕ) → i < v.count → AreOthers (v.places i) x
  pub beside : d ≢ b
  pub first : IsSetup v.endpoint r x s
  pub later : AreFresh v.endpoint r x part (next_stage r Setup)
  pub buffer : has_data r ≡ true → (t : Qtd) → part x.data_at ≡ Some (Element t) → HasBuffer part t t.token.total
  -- the setup bytes, which no other qTD names
  pub bytes : IsBuffer part s r.setup
  pub unnamed : IsUnnamed part b s
  pub tail : IsIdle part d

-- `part` is `now` with the SETUP at b
pub record IsLentRequest (v : Queue) (r : Request) (x : Places) (b d : ℕ) (s : Qtd) (part now : Structures) : Type 0 where
  pub request : IsRequest r
  pub setup : x.setup ≡ b
  pub behind : x.behind ≡ Some d
  pub apart : AreApart x
  pub others : (i : ℕ) → i < v.count → AreOthers (v.places i) x
  pub beside : d ≢ b
  pub here : part b ≡ Some (Element s)
  pub same : (a : ℕ) → a ≢ b → part a ≡ now a
  pub fresh : AreFresh v.endpoint r x part Setup
  pub buffer : has_data r ≡ true → (t : Qtd) → now x.data_at ≡ Some (Element t) → HasBuffer now t t.token.total
  pub unnamed : IsUnnamed now b s
  pub tail : IsIdle now d

abbrev pub LentIsComing : Type 0
LentIsComing = (v : Queue) (r : Request) (x : Places) (b d : ℕ) (s : Qtd) (part now : Structures) → IsLentRequest v r x b d s part now → IsComing v r x b d s now

abbrev pub StoreKeepsComing : Type 0
StoreKeepsComing = (v : Queue) (r : Request) (x : Places) (b d n : ℕ) (s old new : Qtd) (parts : StructureSets) → parts n b ≡ Some (Element old) → IsComing v r x b d s (parts n)
    → IsComing v r x b d s (put parts n b (Element new) n)

abbrev pub EventKeepsComing : {W : Type 0} → (W → ℕ → Bool → W → Type 0) → (W → Ask → List ℕ → Reply → W → Type 0) → (W → ℕ → ℕ → Option Device) → Type 0
EventKeepsComing {W} begins transacts device = (base : Base) (member : ℕ → Bool) (courses : ℕ → Course) (parts : StructureSets) (hand : Hand) (content : Content) (wire after : W)
    (now : StructureSets) (later : Hand) (effect : ControlEffect begins transacts parts hand wire after now later) (n d : ℕ) (r : Request) (x : Places) (s : Qtd)
    → IsControlBus transacts device → KeepsDevices begins device → IsControlled base member parts hand content → CoursesStand device member courses parts hand wire → have_queues courses n ≡ true
    → IsComing (queues courses n) r x (tail_in (courses n)) d s (parts n) → IsComing (queues courses n) r x (tail_in (courses n)) d s (now n)

abbrev pub ComingIsPublished : Type 0
ComingIsPublished = (v : Queue) (r : Request) (x : Places) (b d n : ℕ) (s : Qtd) (parts : StructureSets) → AreInLine v b → IsIdle (parts n) b → IsComing v r x b d s (parts n)
    → IsPublishedAt v r x b d parts n s
