-- What a run records of a control endpoint below a hub at an event of the controller.
use Rattle.std.proofs.Common.{◌≡◌, ◌≢◌, ◌<◌, ◌≤◌, ◌⊎◌, ℕ, suc, Bool, List, [], ◌∷◌, ◌++◌, Option, Some, if◌then◌else◌}
use Rattle.std.proofs.Common.{ap, refl, sym, subst, ◌∙◌, ⊎_elim, inl, inr, arith}
use Rattle.std.proofs.lemmas.Bool.{cases_eq, eq-eqb}
use Rattle.law_common.proofs.Lists.{none_more}
use Rattle.law_common.proofs.Numbers.{other_number}
use Rattle.dev_control.specs.Stages.{Stages}
use Rattle.bus_wire.specs.Bus.{Wired, Fixed}
use Rattle.bus_world.specs.World.{World, controller_next}
use Rattle.claims_report.specs.Controls.{is_at}
use Rattle.claims_world.specs.Requests.{wired, endpoint_of, Windows, stages_at, side_of, acted_with, acted_between, acts_in, begun_by}
use Rattle.claims_world.specs.Requests.{opened_by, acted_by, after_event}
use Rattle.law_structures.specs.lent_structures.Structures.{StructureSets}
use Rattle.law_ring.specs.Hand.{Hand}
use Rattle.law_request.specs.Host.{Endpoint, Done}
use Rattle.law_request.specs.Line.{Line as Window}
use Rattle.law_request.proofs.Steps.{window_is_right}
use Rattle.law_devices.specs.request_calls.Bus.{device_of}
use Rattle.law_devices.specs.ring_requests.Windows.{Queue, Lines}
use Rattle.law_below_hubs.specs.HostRequests.{RequestBelow}
use Rattle.law_below_hubs.specs.RequestMoves.{DeviceMoves, WindowsMove, QueueMoves}
use Rattle.law_reports.specs.requests.world_requests.Recording.{IsOpened}
use Rattle.law_reports.specs.requests.Records.{Numbers}
use Rattle.law_reports.specs.requests.below.Moved.{IsAskedBelow}
use Rattle.law_reports.specs.requests.below.Moved.HubIsLeft.{by_none, by_errors}
use Rattle.law_reports.specs.requests.below.Recorded.{AreTransfersOf, AskedIsRecordedBelow, RestIsRecordedBelow, LeftIsRecordedBelow}
use Rattle.law_reports.proofs.lemmas.requests.lemmas.below.Controlled.{moves_are_recorded}
use Rattle.law_reports.proofs.lemmas.requests.lemmas.world_requests.Acting.{none_acted}
use Rattle.law_reports.proofs.lemmas.requests.Seats.{stages_below}

module _ (fixed : Fixed) (w : World) (v : Windows) (x : Endpoint) (a : Numbers) (k : AreTransfersOf w.driver x a) where
  abbrev wire : Wired
  wire = wired fixed w

  abbrev after : Wired
  after = wired fixed (controller_next fixed w)

  abbrev latest : ℕ → Option ℕ
  latest = opened_by w.driver (begun_by w) v.opened

  abbrev now : Windows
  now = after_event fixed w v

  -- ---- what its device acts on

  acted_from : (c z : Stages) → stages_at (wired fixed w) x.addr x.num ≡ Some c
      → stages_at (wired fixed (controller_next fixed w)) x.addr x.num ≡ Some z
      → acted_by fixed w (controller_next fixed w) a.endpoint ≡ acted_between c z
  acted_from c z was is =
      ap (λ o. acted_with (side_of fixed w o) (side_of fixed (controller_next fixed w) o)) k.named.here
      ∙ ap (λ (n : ℕ). acted_with (stages_at wire n k.named.own.desc.name.num) (stages_at after n k.named.own.desc.name.num))
      k.named.address
      ∙ ap (λ (n : ℕ). acted_with (stages_at wire x.addr n) (stages_at after x.addr n)) k.named.number
      ∙ ap (λ (o : Option Stages). acted_with o (stages_at after x.addr x.num)) was
      ∙ ap (acted_with (Some c)) is

  acted_in : (acted : List (List ℕ)) → DeviceMoves x (wired fixed w) (wired fixed (controller_next fixed w)) acted
      → acted_by fixed w (controller_next fixed w) a.endpoint ≡ acted
  acted_in acted d =
      acted_from d.before d.leaves (stages_below wire x.addr x.num (device_of x d.before) d.was)
      (stages_below after x.addr x.num (device_of x d.leaves) d.is)
      ∙ moves_are_recorded x wire after acted d

  -- ---- what is recorded of a transfer of it

  module _ (acted : List (List ℕ)) (acted_is : acted_by fixed w (controller_next fixed w) a.endpoint ≡ acted) (t : ℕ)
      (of : endpoint_of w.driver t ≡ Some a.endpoint) where
    acts_now : (after_event fixed w v).acts t
        ≡ (if is_at t (opened_by w.driver (begun_by w) v.opened a.endpoint) then acted ++ v.acts t else v.acts t)
    acts_now =
        ap (acts_in latest (acted_by fixed w (controller_next fixed w)) t (v.acts t)) of
        ∙ ap (λ (xs : List (List ℕ)). if is_at t (latest a.endpoint) then xs ++ v.acts t else v.acts t) acted_is

    acts_open : opened_by w.driver (begun_by w) v.opened a.endpoint ≡ Some t → (after_event fixed w v).acts t ≡ acted ++ v.acts t
    acts_open open_now =
        acts_now ∙ ap (λ (o : Option ℕ). if is_at t o then acted ++ v.acts t else v.acts t) open_now
        ∙ ap (λ (b : Bool). if b then acted ++ v.acts t else v.acts t) (eq-eqb t t refl)

    acts_other : (u : ℕ) → opened_by w.driver (begun_by w) v.opened a.endpoint ≡ Some u → t ≢ u → (after_event fixed w v).acts t ≡ v.acts t
    acts_other u open_now differs =
        acts_now ∙ ap (λ (o : Option ℕ). if is_at t o then acted ++ v.acts t else v.acts t) open_now
        ∙ ap (λ (b : Bool). if b then acted ++ v.acts t else v.acts t) (other_number t u differs)

    acts_none : acted ≡ [] → (after_event fixed w v).acts t ≡ v.acts t
    acts_none none =
        acts_now ∙ ap (λ (xs : List (List ℕ)). if is_at t (latest a.endpoint) then xs ++ v.acts t else v.acts t) none
        ∙ none_more (is_at t (latest a.endpoint)) (v.acts t)

-- ---- while its requests are asked

module _ (fixed : Fixed) (w : World) (i place n : ℕ) (v : Windows) (q : Queue) (l : Lines) (a : Numbers) (hand : Hand)
    (parts : StructureSets) (k : AreTransfersOf w.driver q.endpoint a) (few : q.count ≤ a.requests.count)
    (m : QueueMoves q i place (wired fixed w) (wired fixed (controller_next fixed w)) l (v.acts (a.number l.under)) hand parts n)
    (opened : IsOpened ((after_event fixed w v).opened a.endpoint) (a.number m.lines.under) m.lines)
    (open_or_none : ((after_event fixed w v).opened a.endpoint ≡ Some (a.number m.lines.under)) ⊎ (m.acted ≡ []))
    (o : IsAskedBelow i place (wired fixed w) v q l a) where
  abbrev acted : List (List ℕ)
  acted = m.acted

  acted_is : acted_by fixed w (controller_next fixed w) a.endpoint ≡ m.acted
  acted_is = acted_in fixed w v q.endpoint a k m.acted m.device

  within_now : m.lines.under < q.count
  within_now = m.queue.within

  in_all : (j : ℕ) → j < q.count → j < a.requests.count
  in_all j less = omega (arith, less, few)

  quiet : m.acted ≡ [] → (j : ℕ) → j < a.requests.count → (after_event fixed w v).acts (a.number j) ≡ v.acts (a.number j)
  quiet none j less = acts_none fixed w v q.endpoint a k m.acted acted_is (a.number j) (k.are j less) none

  request_now : RequestBelow q.endpoint (q.requests m.lines.under) i place (wired fixed (controller_next fixed w))
      (m.lines.line m.lines.under) m.acts_now
  request_now = m.queue.window.request

  with_acts : m.acts_now ≡ (after_event fixed w v).acts (a.number m.lines.under)
      → ((j : ℕ) → j < m.lines.under → (after_event fixed w v).acts (a.number j) ≡ (q.requests j).setup ∷ [])
      → ((j : ℕ) → m.lines.under < j → j < a.requests.count → (after_event fixed w v).acts (a.number j) ≡ [])
      → IsAskedBelow i place (wired fixed (controller_next fixed w)) (after_event fixed w v) q m.lines a
  with_acts is earlier behind = record {
    within = within_now;
    request = subst (λ (acts : List (List ℕ)). RequestBelow q.endpoint (q.requests m.lines.under) i place
        (wired fixed (controller_next fixed w)) (m.lines.line m.lines.under) acts) is request_now;
    latest = opened;
    earlier = earlier;
    behind = behind;
  }

  -- ---- the same one is under way

  module _ (same : m.lines.under ≡ l.under) (acts_are : m.acts_now ≡ m.acted ++ v.acts (a.number l.under)) where
    with_none : m.acted ≡ [] → IsAskedBelow i place (wired fixed (controller_next fixed w)) (after_event fixed w v) q m.lines a
    with_none none =
        with_acts
        (acts_are ∙ ap (λ (xs : List (List ℕ)). xs ++ v.acts (a.number l.under)) none ∙ ap (λ (j : ℕ). v.acts (a.number j)) (sym same)
        ∙ sym (quiet none m.lines.under (in_all m.lines.under within_now)))
        (λ j less. quiet none j (in_all j (omega (arith, less, within_now))) ∙ o.earlier j (omega (arith, less, same)))
        (λ j after_it less. quiet none j less ∙ o.behind j (omega (arith, after_it, same)) less)

    with_open : opened_by w.driver (begun_by w) v.opened a.endpoint ≡ Some (a.number m.lines.under)
        → IsAskedBelow i place (wired fixed (controller_next fixed w)) (after_event fixed w v) q m.lines a
    with_open open_now =
        with_acts
        (acts_are ∙ ap (λ (j : ℕ). m.acted ++ v.acts (a.number j)) (sym same)
        ∙ sym (acts_open fixed w v q.endpoint a k m.acted acted_is (a.number m.lines.under)
        (k.are m.lines.under (in_all m.lines.under within_now)) open_now))
        (λ j less.
        beside j (in_all j (omega (arith, less, within_now))) (λ is. let z : ⊥ = omega (arith, less, is) in absurd z)
        ∙ o.earlier j (omega (arith, less, same)))
        (λ j after_it less.
        beside j less (λ is. let z : ⊥ = omega (arith, after_it, is) in absurd z) ∙ o.behind j (omega (arith, after_it, same)) less)
      where
        beside : (j : ℕ) → j < a.requests.count → j ≢ m.lines.under → (after_event fixed w v).acts (a.number j) ≡ v.acts (a.number j)
        beside j less differs =
            acts_other fixed w v q.endpoint a k m.acted acted_is (a.number j) (k.are j less) (a.number m.lines.under) open_now
            (λ is. differs (k.own j m.lines.under less (in_all m.lines.under within_now) is))

    goes_on : IsAskedBelow i place (wired fixed (controller_next fixed w)) (after_event fixed w v) q m.lines a
    goes_on = ⊎_elim with_open with_none open_or_none

  -- ---- the next one is begun

  module _ (next : m.lines.under ≡ suc l.under) (acts_are : m.acts_now ≡ []) (none : m.acted ≡ []) where
    -- the one before it is done
    was_done : v.acts (a.number l.under) ≡ (q.requests l.under).setup ∷ []
    was_done =
        let less : l.under < m.lines.under = omega (arith, next) in
        let done : (l.line l.under).host.stage ≡ Done =
        ap (λ (x : Window). x.host.stage) (sym (m.earlier l.under less)) ∙ (m.queue.finished l.under less).done in
        let once : (l.line l.under).acts ≡ (q.requests l.under).setup ∷ [] =
        (window_is_right q.endpoint (q.requests l.under) (l.line l.under) o.request.stands).done_once done in
        ⊎_elim {C = v.acts (a.number l.under) ≡ (q.requests l.under).setup ∷ []}
        (λ (empty : (l.line l.under).acts ≡ []). absurd (let both : [] ≡ (q.requests l.under).setup ∷ [] = sym empty ∙ once in cc))
        (λ (one : v.acts (a.number l.under) ≡ (q.requests l.under).setup ∷ []). one) o.request.within

    advances : IsAskedBelow i place (wired fixed (controller_next fixed w)) (after_event fixed w v) q m.lines a
    advances =
        with_acts
        (acts_are
        ∙ sym (quiet none m.lines.under (in_all m.lines.under within_now)
        ∙ o.behind m.lines.under (omega (arith, next)) (in_all m.lines.under within_now)))
        (λ j less. quiet none j (in_all j (omega (arith, less, within_now))) ∙ earlier_then j less)
        (λ j after_it less. quiet none j less ∙ o.behind j (omega (arith, after_it, next)) less)
      where
        earlier_then : (j : ℕ) → j < m.lines.under → v.acts (a.number j) ≡ (q.requests j).setup ∷ []
        earlier_then j less =
            ⊎_elim {C = v.acts (a.number j) ≡ (q.requests j).setup ∷ []}
            (λ (is : j ≡ l.under). subst (λ (u : ℕ). v.acts (a.number u) ≡ (q.requests u).setup ∷ []) (sym is) was_done)
            (λ (differs : j ≢ l.under). o.earlier j (omega (arith, less, next, differs))) (cases_eq j l.under)

  asked_recorded : WindowsMove l.under (v.acts (a.number l.under)) m.acted m.lines.under m.acts_now
      → IsAskedBelow i place (wired fixed (controller_next fixed w)) (after_event fixed w v) q m.lines a
  asked_recorded (inl z) = goes_on z.0 z.1
  asked_recorded (inr z) = advances z.0 z.1.0 z.1.1

pub asked_is_recorded_below : AskedIsRecordedBelow
asked_is_recorded_below fixed w i place n v q l a hand parts k few m opened open_or_none o =
    asked_recorded fixed w i place n v q l a hand parts k few m opened open_or_none o m.under

-- ---- between two

pub rest_is_recorded_below : RestIsRecordedBelow
rest_is_recorded_below fixed w ended i place v q s c a k was is o =
    let none : acted_by fixed w (controller_next fixed w) a.endpoint ≡ [] =
    acted_from fixed w v q.endpoint a k c c
    (stages_below (wired fixed w) q.endpoint.addr q.endpoint.num (device_of q.endpoint c) was.device)
    (stages_below (wired fixed (controller_next fixed w)) q.endpoint.addr q.endpoint.num (device_of q.endpoint c) is.device)
    ∙ none_acted c in
    record {
      max = o.max;
      hub = by_none c is;
      behind = λ j less. acts_none fixed w v q.endpoint a k [] none (a.number j) (k.are j less) refl ∙ o.behind j less;
    }

-- ---- after errors

pub left_is_recorded_below : LeftIsRecordedBelow
left_is_recorded_below fixed w ended i place b n t v q s r l a hand parts request k on empty of open_now m o = record {
  max = o.max;
  hub = by_errors t r l on request open_now m.left.ended
      (subst (λ (acts : List (List ℕ)). RequestBelow q.endpoint r i place (wired fixed (controller_next fixed w)) l acts)
      (sym (acts_open fixed w v q.endpoint a k m.acted (acted_in fixed w v q.endpoint a k m.acted m.device) t of open_now))
      m.left.request);
  behind = λ j less. absurd (omega (arith, less, empty));
}
