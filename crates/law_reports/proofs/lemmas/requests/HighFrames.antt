-- An event of the frames, in a world with endpoints of every kind: it leaves the queues of control endpoints, their devices and their
-- windows as they are.
use Rattle.std.proofs.Common.{◌≡◌, ℕ, ◌*◌, ◌<◌, ◌≤◌, Bool, true, false, List, [], slice_get, Option, Some, None, ap, refl}
use Rattle.std.proofs.Common.{sym, subst, ◌∙◌, if◌then◌else◌, arith}
use Rattle.std.specs.List.{AllByRecursion}
use Rattle.std.proofs.lemmas.Bool.{false≢true, true≢false}
use Rattle.std.proofs.lemmas.Option.{same_Some}
use Rattle.law_reports.proofs.Common.{of_transfer}
use Rattle.bus_wire.specs.Bus.{Wired, Fixed}
use Rattle.hc_copy.specs.declared.held.Held.{Held}
use Rattle.claims_base.specs.Controller.{opening_base}
use Rattle.drv_table.specs.declared.content.Endpoint.{Endpoint}
use Rattle.drv_table.specs.Words.{head_block, opening_head}
use Rattle.law_driver.specs.queued_drivers.Queued.{queued}
use Rattle.law_driver_ring.specs.told_harvests.Held.{IsDone}
use Rattle.law_structures.specs.lent_structures.Structures.{Structures, StructureSets}
use Rattle.law_ring.specs.Hand.{Copy, Hand, Copied, held_of}
use Rattle.law_ring.specs.Effects.{buffer_of}
use Rattle.law_ring.specs.Sparing.{SameHand}
use Rattle.law_ring.specs.Told.{Told, hand_bytes, hand_toggle, HasEndpoint, Endpoint as Characteristics, endpoint_of}
use Rattle.law_frames.specs.Met.{AQueue}
use Rattle.law_frames.specs.FrameHand.{FrameHand, Nothing, OfQueue, OfSettled, OfItd, OfSitd}
use Rattle.law_frames.specs.Frame.{IsCopiedQueue, IsInFrame}
use Rattle.law_frames.proofs.Leaving.{frame_leaves}
use Rattle.law_controller.specs.frame_control.Both.{RunsBoth, WalksFrames}
use Rattle.law_controller.specs.frame_control.Joined.{joined}
use Rattle.law_descriptors.specs.Both.{owns, both}
use Rattle.law_descriptors.specs.Meeting.{met}
use Rattle.law_descriptors.proofs.Standing.{both_off}
use Rattle.law_devices.specs.ring_requests.Windows.{Queue, IsElsewhere}
use Rattle.law_devices.specs.ring_requests.Resting.{SameSide}
use Rattle.law_devices.specs.ring_requests.Shown.{hand_side}
use Rattle.law_devices.specs.scripted_requests.Controls.{transacts_by}
use Rattle.law_microframes.proofs.lemmas.visits.AskedHeads.{asked_is_near}
use Rattle.law_request.specs.Host.{Endpoint as Asked}
use Rattle.claims_report.specs.Acts.{IsOnce}
use Rattle.claims_report.specs.ControlSides.{Device}
use Rattle.law_devices.specs.Controls.{control_of}
use Rattle.claims_report.specs.Requests.{Request}
use Rattle.claims_world.specs.Requests.{wired, endpoint_of as owner_of_transfer, Windows, side_of, acted_with, opened_by, begun_by}
use Rattle.claims_world.specs.Requests.{acted_by, after_event, numbers_of}
use Rattle.bus_world.specs.World.{World, controller_parts, controller_next}
use Rattle.law_world.specs.memory.Mixed.{Standing}
use Rattle.law_reports.specs.lines.Lined.{Lines as Told_lines}
use Rattle.law_reports.specs.pipes.Declared.{Sides as Pipes}
use Rattle.law_reports.specs.pipes.Piped.{Heads, IsPiped}
use Rattle.law_reports.proofs.lemmas.pipes.Controlled.{c}
use Rattle.law_reports.specs.requests.Asking.{Sides, IsGiven, Asking, has_left}
use Rattle.law_reports.specs.requests.Coming.{IsComing}
use Rattle.law_reports.specs.requests.Counts.{counted_all, Counts, side_at}
use Rattle.law_reports.specs.requests.Courses.{Course, NoQueue, Asks as AskedCourse, Rests, has_queue, queue_in, IsAsking, IsResting}
use Rattle.law_reports.specs.requests.Courses.{IsCourse, queues, have_queues}
use Rattle.law_reports.specs.requests.Footing.{IsFooting}
use Rattle.law_reports.specs.requests.HighAsking.{told_world, told_standing, told_streams, AreSuited, AsksAt}
use Rattle.law_reports.specs.requests.Missed.{NoneMissed, MissesNone}
use Rattle.law_reports.specs.requests.QueueEvents.{courses_after, course_after}
use Rattle.law_reports.specs.requests.Records.{Numbers, IsOnceAt, IsClosed, IsRecord, AreRecords}
use Rattle.law_reports.specs.requests.TransferEvents.{ClosedStay}
use Rattle.law_reports.proofs.lemmas.requests.lemmas.world_requests.Begun.{begun_between, kind_begins}
use Rattle.law_reports.proofs.lemmas.requests.lemmas.world_requests.Queues.{quiet_acts, recorded_stays}
use Rattle.law_reports.specs.requests.TransferEvents.{IsLeftAlone}
use Rattle.law_reports.proofs.lemmas.requests.Assembled.{course_device, RequestsGoOn}
use Rattle.law_reports.proofs.lemmas.requests.Beside.{HasOwner, owner_of}
use Rattle.law_reports.proofs.lemmas.requests.Counts.{counted_same}
use Rattle.law_reports.proofs.lemmas.requests.HighDevices.{NoneIsIso, device_waits, device_unopened, control_no_iso, left_waits}
use Rattle.law_reports.proofs.lemmas.requests.HighFooting.{ring_of}
use Rattle.law_reports.proofs.lemmas.requests.HighRing.{now, later, member_of, all_stand, lent_words}
use Rattle.law_reports.proofs.lemmas.requests.Lists.{all_map, all_both, numbers_are}
use Rattle.law_reports.proofs.lemmas.requests.Names.{one_endpoint}
use Rattle.law_reports.proofs.lemmas.requests.TransferEvents.{none_acts}
use Rattle.law_reports.proofs.lemmas.requests.Writing.{same_kept}

-- ---- what is in hand

at_of : Hand → ℕ
at_of (Copied c) = c.at
at_of _ = 0

same_at : (one other : Copy) → Copied one ≡ Copied other → one.at ≡ other.at
unfolding at_of
same_at one other same = ap at_of same

module _ (g : Sides) (fixed : Fixed) (x : Pipes) (s : Standing) (m : Told_lines) (h : Heads) (w : World) (k : IsPiped fixed x s m h w)
    (f : IsFooting s.near (told_streams s) (told_standing s m) (told_world w)) (head : h.ends (32 * head_block) ≡ endpoint_of opening_head)
    (suited : AreSuited g w.driver) (a : Asking) (v : Windows) (asks : ℕ → Request) (q : AsksAt g fixed s a v asks w)
    (e : WalksFrames transacts_by (both s.descs s.parts) w.control s.hand s.frame (wired fixed w) (wired fixed (controller_next fixed w))
    (c fixed x s m h w k).event.now (c fixed x s m h w k).event.later (c fixed x s m h w k).event.frame_later) where
  abbrev u : World
  u = told_world w

  abbrev nu : World
  nu = controller_next fixed (told_world w)

  abbrev wire : Wired
  wire = wired fixed w

  abbrev after : Wired
  after = wired fixed (controller_next fixed w)

  abbrev now_parts : StructureSets
  now_parts = now g fixed x s m h w k f head suited a v asks q

  abbrev next : Hand
  next = later g fixed x s m h w k f head suited a v asks q

  abbrev passed : Windows
  passed = after_event fixed (told_world w) v

  runs : RunsBoth opening_base s.member (met w.driver s.recent) (both s.descs s.parts) s.hand s.frame (controller_parts w)
  runs = k.mixed.now.framed.runs

  member : (n : ℕ) → have_queues a.courses n ≡ true → s.member n ≡ true
  member n has = member_of g fixed x s m h w k f head suited a v asks q n has

  -- ---- the structures

  owned_stays : (n : ℕ) → s.member n ≡ true → (b : Bool) → owns s.descs n ≡ b
      → (if b then s.parts n else (c fixed x s m h w k).event.now n) ≡ s.parts n
  owned_stays n on true is = refl
  owned_stays n on false is =
      frame_leaves transacts_by (met w.driver s.recent) (both s.descs s.parts) w.control.frame s.frame wire after
      (c fixed x s m h w k).event.now (c fixed x s m h w k).event.frame_later e.kind n (runs.walk e.part).in_hand e.effect
      (λ i kind is_met same. true≢false (sym on ∙ ap s.member same ∙ runs.apart i kind is_met))
      ∙ both_off s.descs s.parts n is

  part_stays : (n : ℕ) → s.member n ≡ true → now_parts n ≡ s.parts n
  part_stays n on =
      ap (λ (b : Bool). if b then s.parts n else (c fixed x s m h w k).event.now n) refl ∙ owned_stays n on (owns s.descs n) refl

  queue_stays : (n : ℕ) → have_queues a.courses n ≡ true → now_parts n ≡ s.parts n
  queue_stays n has = part_stays n (member n has)

  told_stays : (n i : ℕ) (xs : List ℕ) → now_parts n ≡ s.parts n → Told s.hand s.parts n i xs → Told next now_parts n i xs
  told_stays n i xs same t = record {
    queue = t.queue;
    head = ap (λ (part : Structures). part n) same ∙ t.head;
    qtd = t.qtd;
    here = ap (λ (part : Structures). part i) same ∙ t.here;
    are = t.are ∙ ap (λ (y : Hand). hand_bytes y n t.queue i t.qtd (buffer_of (s.parts n) t.qtd)) (sym e.hand_stays)
        ∙ ap (λ (part : Structures). hand_bytes next n t.queue i t.qtd (buffer_of part t.qtd)) (sym same);
  }

  done_stays : (n b i : ℕ) (xs : List ℕ) → have_queues a.courses n ≡ true → IsDone s.hand s.parts n b i xs → IsDone next now_parts n b i xs
  done_stays n b i xs has d = record {
    qtd = d.qtd;
    here = ap (λ (part : Structures). part (32 * b)) (queue_stays n has) ∙ d.here;
    off = d.off;
    told = told_stays n (32 * b) xs (queue_stays n has) d.told;
    count = d.count;
  }

  -- ---- who is asked

  in_frames : (frame : FrameHand) → s.frame ≡ frame → (copy : Copy) → joined s.hand frame ≡ Copied copy → s.member copy.at ≡ false
  in_frames Nothing is copy same = absurd (let both : _ ≡ _ = sym e.nothing ∙ same in cc)
  in_frames (OfQueue d made) is copy same =
      let there : IsCopiedQueue (met w.driver s.recent) (both s.descs s.parts) d =
      subst (IsInFrame (met w.driver s.recent) (both s.descs s.parts) w.control.frame.got w.control.frame.reply) is
      (runs.walk e.part).in_hand in
      ap s.member (sym (same_at d copy same)) ∙ runs.apart d.at AQueue there.on
  in_frames (OfSettled d z made) is copy same = absurd (cc)
  in_frames (OfItd d) is copy same = absurd (let both : _ ≡ _ = sym e.nothing ∙ same in cc)
  in_frames (OfSitd d) is copy same = absurd (let both : _ ≡ _ = sym e.nothing ∙ same in cc)

  -- no queue of control requests
  unasked : (n : ℕ) → have_queues a.courses n ≡ true → (copy : Copy) → joined s.hand s.frame ≡ Copied copy → s.near copy.at ≡ true
      → HasEndpoint s.parts copy.at (endpoint_of copy.queue)
      → (queue_in (a.courses n)).endpoint.addr ≡ (endpoint_of copy.queue).addr
      → (queue_in (a.courses n)).endpoint.num ≡ (endpoint_of copy.queue).ep → ⊥
  unasked n has copy in_hand near named address number = by (have_queues a.courses copy.at) refl
    where
      by : (b : Bool) → have_queues a.courses copy.at ≡ b → ⊥
      by true on = false≢true (sym (in_frames s.frame refl copy in_hand) ∙ member copy.at on)
      by false none =
          let o : IsElsewhere (have_queues a.courses) (queues a.courses) s.parts copy.at = q.stand.others copy.at near none in
          let is : o.own ≡ endpoint_of copy.queue = one_endpoint s.parts copy.at o.own (endpoint_of copy.queue) o.has named in
          o.other n has (address ∙ ap (λ (y : Characteristics). y.addr) (sym is)) (number ∙ ap (λ (y : Characteristics). y.ep) (sym is))

  -- ---- the device of a queue

  module _ (n : ℕ) (has : have_queues a.courses n ≡ true) where
    abbrev queue : Queue
    queue = queue_in (a.courses n)

    owner : HasOwner g (told_world w) a n
    owner = owner_of g fixed s.near (told_streams s) (told_standing s m) a v asks (told_world w) f q n has

    given : IsGiven g owner.endpoint.desc
    given = q.given owner.number owner.endpoint owner.control.is

    its : (queue_in (a.courses n)).endpoint ≡ g.endpoint owner.endpoint.desc
    its = ap (λ (i : ℕ). (queue_in (a.courses i)).endpoint) owner.at ∙ (q.each owner.number owner.endpoint owner.control).endpoint

    address_is : (queue_in (a.courses n)).endpoint.addr ≡ owner.endpoint.desc.name.addr
    address_is = ap (λ (y : Asked). y.addr) its ∙ given.address

    number_is : (queue_in (a.courses n)).endpoint.num ≡ owner.endpoint.desc.name.num
    number_is = ap (λ (y : Asked). y.num) its ∙ given.number

    no_iso : NoneIsIso w.driver (queue_in (a.courses n)).endpoint.addr (queue_in (a.courses n)).endpoint.num
    no_iso =
        subst (λ (i : ℕ). NoneIsIso w.driver i (queue_in (a.courses n)).endpoint.num) (sym address_is)
        (subst (NoneIsIso w.driver owner.endpoint.desc.name.addr) (sym number_is)
        (control_no_iso fixed x s m h w k f g a v asks head suited q owner.number owner.endpoint owner.control.is.here
        (g.controls owner.endpoint.desc owner.control.is.control)))

    device_stays : (d : Device) → control_of wire (queue_in (a.courses n)).endpoint.addr (queue_in (a.courses n)).endpoint.num ≡ Some d
        → control_of after (queue_in (a.courses n)).endpoint.addr (queue_in (a.courses n)).endpoint.num ≡ Some d
    device_stays d is =
        device_waits fixed x s m h w k queue.endpoint.addr queue.endpoint.num d no_iso
        (λ p address number.
        unasked n has p.copy p.in_hand (asked_is_near s w k.mixed p.copy p.in_hand p.here p.works)
        (record { queue = p.copy.queue; head = p.here; is = refl }) address number) is

    device_same : control_of after (queue_in (a.courses n)).endpoint.addr (queue_in (a.courses n)).endpoint.num
        ≡ control_of wire (queue_in (a.courses n)).endpoint.addr (queue_in (a.courses n)).endpoint.num
    device_same =
        let d = course_device fixed w s.parts s.hand n (a.courses n) has (q.stand.each n) in
        device_stays d.0 d.1 ∙ sym d.1

    own_device : (v : Wired) (d : Device) → control_of v (queue_in (a.courses n)).endpoint.addr (queue_in (a.courses n)).endpoint.num ≡ Some d
        → control_of v owner.endpoint.desc.name.addr owner.endpoint.desc.name.num ≡ Some d
    own_device v d is =
        subst (λ (i : ℕ). control_of v i owner.endpoint.desc.name.num ≡ Some d) address_is
        (subst (λ (i : ℕ). control_of v queue.endpoint.addr i ≡ Some d) number_is is)

    own_alone : IsLeftAlone fixed (told_world w) (controller_next fixed (told_world w)) owner.endpoint
    own_alone =
        let d = course_device fixed w s.parts s.hand n (a.courses n) has (q.stand.each n) in
        record { device = d.0; before = own_device wire d.0 d.1; after = own_device after d.0 (device_stays d.0 d.1) }

  -- ---- the queues

  side : (n : ℕ) → SameSide s.hand next n
  side n y = ap (λ (z : Hand). hand_side z n y) e.hand_stays

  hands : SameHand s.hand next
  hands = record {
    bytes = λ n y i t bs. ap (λ (z : Hand). hand_bytes z n y i t bs) e.hand_stays;
    toggle = λ n y. ap (λ (z : Hand). hand_toggle z n y) e.hand_stays;
  }

  stays_by : (n : ℕ) (y : Course) → a.courses n ≡ y → IsCourse control_of now_parts next after n (course_after None n y)
  stays_by n NoQueue is = tt
  stays_by n (AskedCourse b t l) is =
      let has : have_queues a.courses n ≡ true = ap has_queue is in
      let kept : IsAsking b t l next now_parts n (control_of wire b.endpoint.addr b.endpoint.num) =
      same_kept control_of s.parts now_parts s.hand next wire n (side n) hands (queue_stays n has) (AskedCourse b t l)
      (subst (IsCourse control_of s.parts s.hand wire n) is (q.stand.each n)) in
      subst (IsAsking b t l next now_parts n)
      (sym (subst (λ (y : Course). control_of after (queue_in y).endpoint.addr (queue_in y).endpoint.num
      ≡ control_of wire (queue_in y).endpoint.addr (queue_in y).endpoint.num) is (device_same n has))) kept
  stays_by n (Rests b t d) is =
      let has : have_queues a.courses n ≡ true = ap has_queue is in
      let kept : IsResting b t d next now_parts n (control_of wire b.endpoint.addr b.endpoint.num) =
      same_kept control_of s.parts now_parts s.hand next wire n (side n) hands (queue_stays n has) (Rests b t d)
      (subst (IsCourse control_of s.parts s.hand wire n) is (q.stand.each n)) in
      subst (IsResting b t d next now_parts n)
      (sym (subst (λ (y : Course). control_of after (queue_in y).endpoint.addr (queue_in y).endpoint.num
      ≡ control_of wire (queue_in y).endpoint.addr (queue_in y).endpoint.num) is (device_same n has))) kept

  -- ---- what is recorded

  nothing_held : w.control.walk.held ≡ None
  nothing_held = (ring_of s w k.mixed).held ∙ ap held_of e.nothing

  none_begun : begun_by (told_world w) ≡ None
  none_begun =
      kind_begins fixed u (λ other. nothing_held)
      ∙ ap (λ (o : Option Held). begun_between (queued w.driver) o nu.control.walk.held) nothing_held

  acted_none : (i : ℕ) (y : Endpoint) → slice_get (queued w.driver).endpoints i ≡ Some y → IsLeftAlone fixed u nu y
      → acted_by fixed (told_world w) (controller_next fixed (told_world w)) i ≡ []
  acted_none i y here alone =
      ap (λ (o : Option Endpoint). acted_with (side_of fixed u o) (side_of fixed nu o)) here ∙ none_acts fixed u nu y alone

  quiet_at : (i : ℕ) → acted_by fixed (told_world w) (controller_next fixed (told_world w)) i ≡ [] → (t : ℕ)
      → owner_of_transfer (queued w.driver) t ≡ Some i → passed.acts t ≡ v.acts t
  quiet_at i none t of =
      quiet_acts (queued w.driver) (begun_by u) (acted_by fixed u nu) v t
      (λ j is. ap (acted_by fixed u nu) (sym (same_Some i j (sym of ∙ is))) ∙ none)

  module _ (n : ℕ) (has : have_queues a.courses n ≡ true) where
    abbrev b : Numbers
    b = a.numbers n

    none_here : acted_by fixed (told_world w) (controller_next fixed (told_world w)) (a.numbers n).endpoint ≡ []
    none_here =
        ap (acted_by fixed u nu) (owner n has).is
        ∙ acted_none (owner n has).number (owner n has).endpoint (owner n has).control.is.here (own_alone n has)

    quiet_here : (t : ℕ) → owner_of_transfer (queued w.driver) t ≡ Some (a.numbers n).endpoint → passed.acts t ≡ v.acts t
    quiet_here t of = quiet_at b.endpoint none_here t of

    closed_then : AllByRecursion (IsClosed (queued w.driver) asks (a.numbers n) v) (a.numbers n).closed
        → AllByRecursion (IsClosed (queued w.driver) asks (a.numbers n) passed) (a.numbers n).closed
    closed_then old =
        all_map (IsClosed (queued w.driver) asks b v) (IsClosed (queued w.driver) asks b passed)
        (λ t z. record { of = z.of; beside = z.beside; once = subst (IsOnce (asks t).setup) (sym (quiet_here t z.of)) z.once }) b.closed old

    all_stay : AllByRecursion (λ t. passed.acts t ≡ v.acts t) (numbers_of (queued w.driver) (a.numbers n).endpoint)
    all_stay =
        all_map (λ t. owner_of_transfer (queued w.driver) t ≡ Some b.endpoint) (λ t. passed.acts t ≡ v.acts t) quiet_here
        (numbers_of (queued w.driver) b.endpoint) (numbers_are (queued w.driver) b.endpoint)

  record_by : (n : ℕ) (y : Course) → a.courses n ≡ y → has_queue (course_after None n y) ≡ true
      → IsRecord (queued w.driver) asks n (course_after None n y) (a.numbers n) passed
  record_by n NoQueue is has = absurd (false≢true has)
  record_by n (AskedCourse b t l) is has =
      let on : have_queues a.courses n ≡ true = ap has_queue is in
      let r : IsRecord (queued w.driver) asks n (AskedCourse b t l) (a.numbers n) v =
      subst (λ (y : Course). IsRecord (queued w.driver) asks n y (a.numbers n) v) is (q.records.each n on) in
      let asking : IsAsking b t l s.hand s.parts n (control_of wire b.endpoint.addr b.endpoint.num) =
      subst (IsCourse control_of s.parts s.hand wire n) is (q.stand.each n) in
      let within : l.under < b.count = asking.queue.within in
      let few : b.count ≤ (a.numbers n).requests.count = r.numbered.ahead.few in
      record {
        numbered = record { own = r.numbered.own; order = r.numbered.order; ahead = r.numbered.ahead };
        acts = recorded_stays (queued w.driver) (a.numbers n).requests (a.numbers n).endpoint (a.numbers n).number
            (opened_by (queued w.driver) (begun_by u) v.opened) (acted_by fixed u nu) v.acts
            (λ i less. of_transfer (queued w.driver) (a.numbers n).endpoint ((a.numbers n).number i) (r.numbered.own.transfers i less))
            (v.opened (a.numbers n).endpoint) l (omega (arith, within, few))
            (ap (λ (o : Option ℕ). opened_by (queued w.driver) o v.opened (a.numbers n).endpoint) none_begun) (none_here n on) r.acts;
        closed = closed_then n on r.closed;
      }
  record_by n (Rests b t d) is has =
      let on : have_queues a.courses n ≡ true = ap has_queue is in
      let r : IsRecord (queued w.driver) asks n (Rests b t d) (a.numbers n) v =
      subst (λ (y : Course). IsRecord (queued w.driver) asks n y (a.numbers n) v) is (q.records.each n on) in
      record {
        numbered = record { own = r.numbered.own; order = r.numbered.order; ahead = r.numbered.ahead };
        acts = λ i few.
            quiet_here n on ((a.numbers n).number i)
            (of_transfer (queued w.driver) (a.numbers n).endpoint ((a.numbers n).number i) (r.numbered.own.transfers i few))
            ∙ r.acts i few;
        closed = closed_then n on r.closed;
      }

  left_none : (i : ℕ) → has_left g (queued w.driver) i ≡ true → acted_by fixed (told_world w) (controller_next fixed (told_world w)) i ≡ []
  left_none i out = by (slice_get (queued w.driver).endpoints i) refl
    where
      by : (o : Option Endpoint) → slice_get (queued w.driver).endpoints i ≡ o
          → acted_by fixed (told_world w) (controller_next fixed (told_world w)) i ≡ []
      by None here = ap (λ (o : Option Endpoint). acted_with (side_of fixed u o) (side_of fixed nu o)) here
      by (Some y) here = acted_none i y here (left_waits fixed x s m h w k f g a v asks head suited q i y out here)

  left_stay : (i : ℕ) → has_left g (queued w.driver) i ≡ true
      → AllByRecursion (λ t. passed.acts t ≡ v.acts t) (numbers_of (queued w.driver) i)
  left_stay i out =
      all_map (λ t. owner_of_transfer (queued w.driver) t ≡ Some i) (λ t. passed.acts t ≡ v.acts t) (quiet_at i (left_none i out))
      (numbers_of (queued w.driver) i) (numbers_are (queued w.driver) i)

  records_then : AreRecords (queued w.driver) asks (courses_after None a.courses) a.numbers (has_left g (queued w.driver)) passed
  records_then = record {
    each = λ n has. record_by n (a.courses n) refl has;
    left = λ i out.
        all_both (λ t. owner_of_transfer (queued w.driver) t ≡ Some i) (IsOnceAt asks v) (IsOnceAt asks passed)
        (λ t of once. subst (IsOnce (asks t).setup) (sym (quiet_at i (left_none i out) t of)) once) (numbers_of (queued w.driver) i)
        (numbers_are (queued w.driver) i) (q.records.left i out);
    none = λ t none.
        quiet_acts (queued w.driver) (begun_by u) (acted_by fixed u nu) v t
        (λ j is. absurd (let both : None ≡ Some j = sym none ∙ is in cc)) ∙ q.records.none t none;
  }

  closed_stay : ClosedStay (queued w.driver) a.courses a.numbers (has_left g (queued w.driver)) v passed
  closed_stay = record {
    each = λ n has.
        all_map (IsClosed (queued w.driver) asks (a.numbers n) v) (λ t. passed.acts t ≡ v.acts t) (λ t z. quiet_here n has t z.of)
        (a.numbers n).closed (q.records.each n has).closed;
    rests = λ n b t d is. all_stay n (ap has_queue is);
    left = left_stay;
  }

  counts_then : (n : ℕ) → have_queues a.courses n ≡ true
      → Counts (side_at fixed (told_world w) (a.courses n)) (counted_all v (numbers_of (queued w.driver) (a.numbers n).endpoint) 0)
      → Counts (side_at fixed (controller_next fixed (told_world w)) (a.courses n))
      (counted_all passed (numbers_of (queued w.driver) (a.numbers n).endpoint) 0)
  counts_then n has old d is =
      old d (sym (device_same n has) ∙ is)
      ∙ sym (counted_same v passed (numbers_of (queued w.driver) (a.numbers n).endpoint) 0 (all_stay n has))

  -- ---- the whole

  unmissed_then : NoneMissed (have_queues a.courses) now_parts
  unmissed_then = record {
    heads = λ n y on here. q.unmissed.structures.heads n y on (ap (λ (part : Structures). part n) (sym (queue_stays n on)) ∙ here);
    elements = λ n i t on here.
        q.unmissed.structures.elements n i t on (ap (λ (part : Structures). part i) (sym (queue_stays n on)) ∙ here);
  }

  pub frame_goes_on : RequestsGoOn g fixed s.near s.parts s.hand a v asks (told_world w) now_parts next
  frame_goes_on = record {
    step = None;
    stand = all_stand g fixed x s m h w k f head suited a v asks q None (λ n. stays_by n (a.courses n) refl);
    records = records_then;
    closed = closed_stay;
    coming = λ n b r places setup has here. subst (IsComing _ r places _ b setup) (sym (queue_stays n has)) here;
    done = done_stays;
    counts = counts_then;
    left = λ i y out here. left_waits fixed x s m h w k f g a v asks head suited q i y out here;
    unopened = λ addr num d least none is. device_unopened fixed x s m h w k f addr num d least none is;
    words = (lent_words g fixed x s m h w k f head suited a v asks q).words;
    unmissed = (unmissed_then, subst (MissesNone (have_queues a.courses)) (sym e.hand_stays) q.unmissed.in_hand);
  }
