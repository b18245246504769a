-- An endpoint that is given back, of the ring or of frames, leaves the requests of control endpoints at high speed as they must stand.
use Rattle.std.proofs.Common.{◌≡◌, ◌≢◌, ℕ, ◌*◌, ◌&&◌, ◌||◌, not, Bool, true, false, ◌++◌, map, slice_get, Option}
use Rattle.std.proofs.Common.{Some, None, ap, refl, sym, subst, ◌∙◌, ⊎_elim, inl, inr, arith}
use Rattle.std.specs.Prelude.{◌⊎◌, ◌==◌}
use Rattle.std.proofs.lemmas.Bool.{false≢true, true≢false, and_parts, and_from, eq-eqb, cases_eq}
use Rattle.std.proofs.lemmas.Option.{same_Some}
use Rattle.law_common.proofs.Lists.{set_here, set_there}
use Rattle.law_common.proofs.Numbers.{same_blocks, other_number}
use Rattle.law_descriptors.proofs.Returning.{none_some}
use Rattle.law_driver.proofs.Common.{same_control}
use Rattle.law_reports.proofs.Common.{regone}
use Rattle.usb_base.specs.declared.endpoints.EpDesc.{EpDesc}
use Rattle.usb_base.specs.declared.packets.EpKind.{EpKind}
use Rattle.usb_base.specs.declared.packets.EpKind.TheVariants as kinds
use Rattle.bus_wire.specs.Bus.{Fixed}
use Rattle.claims_driver.specs.Leaving.{leaves_frames}
use Rattle.drv_periodic_table.specs.Periodic.{is_periodic}
use Rattle.drv_periodic_table.specs.declared.content.Removed.TheVariants as removed
use Rattle.drv_table.specs.declared.content.Command.{Command}
use Rattle.drv_table.specs.declared.content.Command.TheVariants as unfinished
use Rattle.drv_table.specs.declared.content.Endpoint.{Endpoint}
use Rattle.drv_table.specs.declared.rows.DriverRow.TheVariants as rows
use Rattle.drv_table.specs.DriverContent.{DriverContent}
use Rattle.drv_table.specs.Harvests.{note_at}
use Rattle.drv_table.specs.Rows.{after_driver_row}
use Rattle.drv_table.specs.Words.{is_control, head_block}
use Rattle.law_driver.specs.run_owners.Due.{IsRemovalDue}
use Rattle.law_driver.specs.endpoint_lives.Lives.{may_meet, told_end, is_one_of}
use Rattle.law_driver.specs.queued_drivers.Queued.{queued_endpoint, queued}
use Rattle.law_driver.specs.queued_drivers.Rows.{out_by}
use Rattle.law_driver_ring.specs.fed_queues.Places.{IsMet, HasHead, AreMet}
use Rattle.law_structures.specs.lent_structures.Structures.{StructureSets}
use Rattle.law_devices.specs.Controls.{control_of}
use Rattle.claims_report.specs.Requests.{Request}
use Rattle.law_ring.specs.Hand.{Hand}
use Rattle.claims_world.specs.Requests.{wired, Windows, opens, is_opening, numbers_of, window_at}
use Rattle.bus_world.specs.World.{World, driver_parts, driver_next}
use Rattle.law_world.specs.steps.endpoint_releases.Released.{without_queue, IsToLeave}
use Rattle.law_world.specs.memory.Mixed.{Standing, IsMixedAt}
use Rattle.law_world.specs.memory.Steps.{told_parts, IsGivenBack, IsWithout, LeftBy, left_the_ring, left_its_frames, given_by}
use Rattle.law_world.proofs.lemmas.memory.RingBasis.{due_is}
use Rattle.law_world.proofs.lemmas.memory.HarvestKept.{owners_of}
use Rattle.law_world.proofs.lemmas.streams.Heads.{not_head}
use Rattle.law_reports.specs.lines.Lined.{Lines}
use Rattle.law_reports.proofs.lemmas.lines.ToldGoes.{IsKnown, known}
use Rattle.law_reports.proofs.lemmas.pipes.Names.{WasQueued, was_queued}
use Rattle.law_reports.specs.requests.Asking.{Sides, Asking, left_with, has_left, IsReadTo, HasAsks, AsksIn}
use Rattle.law_reports.specs.requests.Courses.{have_queues, CoursesStand}
use Rattle.law_reports.specs.requests.Footing.{IsFooting}
use Rattle.law_reports.specs.requests.HighAsking.{told_world, told_standing, told_streams, AsksAt}
use Rattle.law_reports.specs.requests.request_bytes.Fresh.{next_of}
use Rattle.law_reports.specs.requests.driver_requests.Rows.{KeepsRequests}
use Rattle.law_reports.proofs.lemmas.requests.Beside.{HasOwner, one_queue, owner_of}
use Rattle.law_world.proofs.lemmas.steps.lemmas.left_queues.Unmet.{cleared_is, cleared_unmet}
use Rattle.law_queues.proofs.lemmas.publish_laws.Apart.{queue_placed, queues_same}
use Rattle.law_queues.specs.told_endpoints.Telling.{lines_in}
use Rattle.law_reports.specs.requests.told_requests.Told.{AreToldTo}
use Rattle.law_reports.specs.requests.told_requests.Waiting.{waiting}
use Rattle.law_reports.proofs.lemmas.requests.GivenBack.{given_back_asks}
use Rattle.law_reports.proofs.lemmas.requests.HighLeft.{first_removed, periodic_by, released_idle, told_control}
use Rattle.law_reports.proofs.lemmas.requests.HighOpens.{carried_asks}
use Rattle.law_reports.proofs.lemmas.requests.QueueChanging.{members_change}
use Rattle.law_reports.proofs.lemmas.requests.Leaving.{idle_quiet, WasEndpoint, IsEndpointStill, RowLeaves, was_met, each_still, world_left}
use Rattle.law_reports.proofs.lemmas.requests.Rows.{accepted_keeps_records}

-- ---- one endpoint is told to be out of the ring

module _ (g : Sides) (fixed : Fixed) (s : Standing) (m : Lines) (w : World) (k : IsMixedAt s w)
    (f : IsFooting s.near (told_streams s) (told_standing s m) (told_world w))
    (a : Asking) (v : Windows) (asks : ℕ → Request) (q : AsksAt g fixed s a v asks w)
    (e : ℕ) (x : Endpoint) (d : DriverContent) (t : Standing)
    (b : IsGivenBack w (driver_next w) e x d) (without : IsWithout s t (32 * x.queue)) where
  abbrev n : ℕ
  n = 32 * x.queue

  abbrev before : DriverContent
  before = queued w.driver

  what : IsKnown w e x d
  what = known s w k e x d b.left b.leaves

  command_is : (queued w.driver).command ≡ d.command
  command_is = by d b.left
    where
      out_same : (o : Option Endpoint) → (queued w.driver).command ≡ (out_by e (queued w.driver) o).command
      out_same None = refl
      out_same (Some z) = refl

      by : (d : DriverContent) → LeftBy w e d → (queued w.driver).command ≡ d.command
      by _ (left_the_ring row) = refl
      by _ (left_its_frames row) = out_same (slice_get (queued w.driver).endpoints e)

  idle : (queued w.driver).command ≡ None
  idle = command_is ∙ what.idle

  -- how it was told
  pub record IsOut (c : DriverContent) : Type 0 where
    own : Endpoint
    here : slice_get (queued w.driver).endpoints e ≡ Some own
    now : Endpoint
    there : slice_get c.endpoints e ≡ Some now
    same : now ≡ record own { linked = now.linked }
    others : (i : ℕ) → i ≢ e → slice_get c.endpoints i ≡ slice_get (queued w.driver).endpoints i
    less : now.linked ≡ true → own.linked ≡ true
    asked : (s.near (32 * x.queue) ≡ false) ⊎ (g.asks own.desc ≡ false)
    content : c ≡ record (queued w.driver) { endpoints = c.endpoints; cleared = c.cleared }

  is_out : IsOut d
  is_out = by d b.left b.leaves
    where
      by : (c : DriverContent) → LeftBy w e c → IsToLeave c e x → IsOut c
      by _ (left_the_ring row) leaves = record {
        own = x;
        here = leaves.here;
        now = x;
        there = leaves.here;
        same = refl;
        others = λ i differs. refl;
        less = λ on. on;
        asked = inl (cleared_unmet (queued w.driver) s.near 0 e x (owners_of s w k) k.turns.turns k.queues.queues.met leaves.first
            leaves.here);
        content = refl;
      }
      by _ (left_its_frames row) leaves = frames (slice_get (queued w.driver).endpoints e) refl leaves
        where
          due : IsRemovalDue (driver_parts w) (removed.Endpoint e)
          due = due_is s w k (rows.ReleaseRemoved (removed.Endpoint e)) row

          -- an interrupt endpoint asks no requests
          unasked : (y : Endpoint) → slice_get (queued w.driver).endpoints e ≡ Some y → g.asks y.desc ≡ false
          unasked y at = off (g.asks y.desc) refl
            where
              u : WasQueued w.driver.endpoints e y
              u = was_queued w.driver.endpoints e y at

              periodic : is_periodic u.endpoint.desc.kind ≡ true
              periodic =
                  let some = first_removed w.driver.periodic.removals due.removal e due.first due.is in
                  let most = k.now.framed.place.sound.owners.orderly.removed e in
                  let place = ap leaves_frames u.here in
                  periodic_by u.endpoint.chained u.endpoint.gone (is_periodic u.endpoint.desc.kind) (omega (arith, some, most, place))

              no_control : (kind : EpKind) → is_periodic kind ≡ true → is_control kind ≡ false
              no_control kinds.Control on = absurd (false≢true on)
              no_control kinds.Bulk on = refl
              no_control kinds.Interrupt on = refl
              no_control kinds.Iso on = refl

              told_kind : is_control (queued_endpoint u.endpoint).desc.kind ≡ is_control u.endpoint.desc.kind
              told_kind = told_control u.endpoint
                  ∙ same_control u.endpoint.desc.name.way u.endpoint.desc.kind (k.turns.kinds_fit e u.endpoint u.here)

              off : (c : Bool) → g.asks y.desc ≡ c → g.asks y.desc ≡ false
              off false is = is
              off true is =
                  absurd (false≢true (sym
                  (ap (λ (z : Endpoint). is_control z.desc.kind) u.is ∙ told_kind ∙ no_control u.endpoint.desc.kind periodic)
                  ∙ g.controls y.desc is))

          frames : (o : Option Endpoint) → slice_get (queued w.driver).endpoints e ≡ o → IsToLeave (out_by e (queued w.driver) o) e x
              → IsOut (out_by e (queued w.driver) o)
          frames None at leaves = absurd (none_some x (sym at ∙ leaves.here))
          frames (Some y) at leaves = record {
            own = y;
            here = at;
            now = record y { linked = false };
            there = set_here (queued w.driver).endpoints e y (record y { linked = false }) at;
            same = refl;
            others = λ i differs. set_there (queued w.driver).endpoints e i (record y { linked = false }) differs;
            less = λ on. absurd (false≢true on);
            asked = inr (unasked y at);
            content = refl;
          }

  abbrev out : IsOut d
  out = is_out

  now_is : is_out.now ≡ x
  now_is = same_Some is_out.now x (sym is_out.there ∙ b.leaves.here)

  field : {X : Type 0} (h : DriverContent → X)
      → h (record (queued w.driver) { endpoints = d.endpoints; cleared = d.cleared }) ≡ h (queued w.driver) → h d ≡ h (queued w.driver)
  field h same = ap h is_out.content ∙ same

  near_is : (i : ℕ) (y : Endpoint) → may_meet d i y ≡ may_meet (queued w.driver) i y
  near_is i y = field (λ (c : DriverContent). may_meet c i y) refl

  -- each endpoint is as before, but for that
  was_one : (i : ℕ) (y : Endpoint) → slice_get d.endpoints i ≡ Some y → WasEndpoint (queued w.driver) i y
  was_one i y at =
      ⊎_elim
      (λ (own : i ≡ e).
      let is : is_out.now ≡ y = same_Some is_out.now y (sym is_out.there ∙ ap (slice_get d.endpoints) (sym own) ∙ at) in
      let all : record is_out.own { linked = is_out.now.linked } ≡ y = sym is_out.same ∙ is in
      record {
        was = is_out.own;
        here = ap (slice_get (queued w.driver).endpoints) own ∙ is_out.here;
        desc = ap (λ (z : Endpoint). z.desc) all;
        queue = ap (λ (z : Endpoint). z.queue) all;
        dummy = ap (λ (z : Endpoint). z.dummy) all;
        next = ap (λ (z : Endpoint). z.next) all;
        cancelled = ap (λ (z : Endpoint). z.cancelled) all;
        ended = λ held. ap told_end all;
        kept = λ held. ap (λ (z : Endpoint). z.gone) all ∙ held;
      })
      (λ (differs : i ≢ e). record {
        was = y;
        here = sym (is_out.others i differs) ∙ at;
        desc = refl;
        queue = refl;
        dummy = refl;
        next = refl;
        cancelled = refl;
        ended = λ held. refl;
        kept = λ held. held;
      }) (cases_eq i e)

  still_one : (i : ℕ) (y : Endpoint) → slice_get (queued w.driver).endpoints i ≡ Some y → IsEndpointStill d i y
  still_one i y at =
      ⊎_elim
      (λ (own : i ≡ e).
      let is : is_out.own ≡ y = same_Some is_out.own y (sym is_out.here ∙ ap (slice_get (queued w.driver).endpoints) (sym own) ∙ at) in
      record {
        now = is_out.now;
        here = ap (slice_get d.endpoints) own ∙ is_out.there;
        desc = ap (λ (z : Endpoint). z.desc) is_out.same ∙ ap (λ (z : Endpoint). z.desc) is;
        queue = ap (λ (z : Endpoint). z.queue) is_out.same ∙ ap (λ (z : Endpoint). z.queue) is;
      })
      (λ (differs : i ≢ e). record { now = y; here = is_out.others i differs ∙ at; desc = refl; queue = refl }) (cases_eq i e)

  not_opening : (c : DriverContent) (y : Endpoint) → c.command ≡ None → is_opening c y ≡ false
  not_opening c y none = ap (λ (o : Option Command). opens o y.queue && not y.gone) none

  linked_was : (i : ℕ) (y : Endpoint) (at : slice_get d.endpoints i ≡ Some y) → y.linked ≡ true → (was_one i y at).was.linked ≡ true
  linked_was i y at on = by (cases_eq i e)
    where
      same_was : (z : Endpoint) → slice_get (queued w.driver).endpoints i ≡ Some z → (was_one i y at).was ≡ z
      same_was z there = same_Some (was_one i y at).was z (sym (was_one i y at).here ∙ there)

      by : (i ≡ e) ⊎ (i ≢ e) → (was_one i y at).was.linked ≡ true
      by (inl own) =
          let is : is_out.now ≡ y = same_Some is_out.now y (sym is_out.there ∙ ap (slice_get d.endpoints) (sym own) ∙ at) in
          ap (λ (z : Endpoint). z.linked) (same_was is_out.own (ap (slice_get (queued w.driver).endpoints) own ∙ is_out.here))
          ∙ is_out.less (ap (λ (z : Endpoint). z.linked) is ∙ on)
      by (inr differs) = ap (λ (z : Endpoint). z.linked) (same_was y (sym (is_out.others i differs) ∙ at)) ∙ on

  near_was : (i : ℕ) (y : Endpoint) (at : slice_get d.endpoints i ≡ Some y) → may_meet d i y ≡ true
      → may_meet (queued w.driver) i (was_one i y at).was ≡ true
  near_was i y at on = by y.linked refl
    where
      waits : Bool
      waits = is_one_of i (queued w.driver).waiting || is_one_of i (queued w.driver).rung

      told : (y.linked || waits) ≡ true
      told = sym (near_is i y) ∙ on

      by : (c : Bool) → y.linked ≡ c → ((was_one i y at).was.linked || waits) ≡ true
      by true is = ap (λ (c : Bool). c || waits) (linked_was i y at is)
      by false is = right ((was_one i y at).was.linked) waits (sym (ap (λ (c : Bool). c || waits) is) ∙ told)
        where
          right : (c r : Bool) → r ≡ true → (c || r) ≡ true
          right true r is = refl
          right false r is = is

  leaves : RowLeaves (queued w.driver) d
  leaves = record {
    quiet = idle_quiet (queued w.driver) idle;
    quiet_now = idle_quiet d what.idle;
    was = was_one;
    still = still_one;
    opening = λ i y at. not_opening d y what.idle ∙ sym (not_opening (queued w.driver) (was_one i y at).was idle);
    linked = λ c other is. other (sym command_is ∙ is);
    near = near_was;
    mends = λ i u at. (i, sym (ap (λ (ms : _). slice_get ms i) (field (λ (c : DriverContent). c.mends) refl)) ∙ at);
    numbers = λ i. field (λ (c : DriverContent). numbers_of c i) refl;
  }

  -- ---- the queue heads that are met then

  unmet : t.near (32 * x.queue) ≡ false
  unmet = without.near n ∙ ap (λ (c : Bool). s.near n && not c) (eq-eqb n n refl) ∙ and_false (s.near n)
    where
      and_false : (c : Bool) → (c && false) ≡ false
      and_false true = refl
      and_false false = refl

  fewer : (j : ℕ) → t.near j ≡ true → s.near j ≡ true
  fewer j on = (and_parts (s.near j) (not (j == n)) (sym (without.near j) ∙ on)).0

  stays : (j : ℕ) → s.near j ≡ true → j ≢ n → t.near j ≡ true
  stays j on differs = without.near j ∙ and_from (s.near j) (not (j == n)) on (ap not (other_number j n differs))

  -- it has no queue of requests that is told
  none_here : (j : ℕ) → have_queues a.courses j ≡ true → j ≢ 32 * x.queue
  none_here j has same =
      ⊎_elim (λ (off : s.near (32 * x.queue) ≡ false). false≢true (sym off ∙ ap s.near (sym same) ∙ q.stand.members j has))
      (λ (off : g.asks is_out.own.desc ≡ false).
      let o : HasOwner g (told_world w) a j =
      owner_of g fixed s.near (told_streams s) (told_standing s m) a v asks (told_world w) f q j has in
      let one : o.number ≡ e =
      one_queue g fixed s.near (told_streams s) (told_standing s m) a v asks (told_world w) f q o.number e o.endpoint is_out.own
      o.control.is.here is_out.here o.control.met.there.kept
      (sym (ap (λ (z : Endpoint). z.gone) is_out.same) ∙ ap (λ (z : Endpoint). z.gone) now_is ∙ b.leaves.held)
      (same_blocks o.endpoint.queue is_out.own.queue
      (sym o.at ∙ same ∙ ap (λ (z : Endpoint). 32 * z.queue) (sym now_is ∙ is_out.same))) in
      let is : o.endpoint ≡ is_out.own =
      same_Some o.endpoint is_out.own (sym o.control.is.here ∙ ap (slice_get (queued w.driver).endpoints) one ∙ is_out.here) in
      false≢true (sym off ∙ ap (λ (z : Endpoint). g.asks z.desc) (sym is) ∙ o.control.is.control)) is_out.asked

  stand : CoursesStand control_of t.near a.courses s.parts s.hand (wired fixed w)
  stand =
      members_change control_of s.near t.near a.courses s.parts s.hand (wired fixed w)
      (λ j has. stays j (q.stand.members j has) (none_here j has)) (λ j on. inl (fewer j on)) q.stand

  keeps : (i : ℕ) → KeepsRequests None (queued w.driver) d i
  keeps i = record {
    endpoint = λ y at. let z = still_one i y at in
        record { own = z.now; here = z.here; desc = z.desc; queue = z.queue; gone = gone_same i y at z.now z.here };
    transfers = λ u y at of. record {
      own = y;
      here = field (λ (c : DriverContent). slice_get c.transfers u) refl ∙ at;
      endpoint = refl;
      sort = refl;
      first = refl;
      qtds = refl;
      held = λ other. refl;
    };
    notes = λ u c y at of held piece. field (λ (c2 : DriverContent). next_of c2.notes c) refl;
  }
    where
      gone_same : (i : ℕ) (y : Endpoint) → slice_get (queued w.driver).endpoints i ≡ Some y → (z : Endpoint)
          → slice_get d.endpoints i ≡ Some z → z.gone ≡ y.gone
      gone_same i y at z there =
          ⊎_elim
          (λ (own : i ≡ e).
          let is : is_out.own ≡ y = same_Some is_out.own y (sym is_out.here ∙ ap (slice_get (queued w.driver).endpoints) (sym own) ∙ at) in
          let now : is_out.now ≡ z = same_Some is_out.now z (sym is_out.there ∙ ap (slice_get d.endpoints) (sym own) ∙ there) in
          ap (λ (c : Endpoint). c.gone) (sym now) ∙ ap (λ (c : Endpoint). c.gone) is_out.same ∙ ap (λ (c : Endpoint). c.gone) is)
          (λ (differs : i ≢ e). ap (λ (c : Endpoint). c.gone) (same_Some z y (sym there ∙ is_out.others i differs ∙ at))) (cases_eq i e)

  left_by : (i : ℕ) (o : Option Endpoint) → slice_get d.endpoints i ≡ o → left_with g d i o ≡ true → has_left g (queued w.driver) i ≡ true
  left_by i None at on = absurd (false≢true on)
  left_by i (Some y) at on =
      let u = was_one i y at in
      let both = and_parts (g.asks y.desc) (not (may_meet d i y)) on in
      ap (left_with g (queued w.driver) i) u.here
      ∙ and_from (g.asks u.was.desc) (not (may_meet (queued w.driver) i u.was)) (ap (λ (c : EpDesc). g.asks c) u.desc ∙ both.0)
      (still_left i y at (ap (λ (c : EpDesc). g.asks c) u.desc ∙ both.0) both.1)
    where
      still_left : (i : ℕ) (y : Endpoint) (at : slice_get d.endpoints i ≡ Some y) → g.asks (was_one i y at).was.desc ≡ true
          → not (may_meet d i y) ≡ true
          → not (may_meet (queued w.driver) i (was_one i y at).was) ≡ true
      still_left i y at asks off = by (cases_eq i e)
        where
          same_was : (z : Endpoint) → slice_get (queued w.driver).endpoints i ≡ Some z → (was_one i y at).was ≡ z
          same_was z there = same_Some (was_one i y at).was z (sym (was_one i y at).here ∙ there)

          false_by : (c : Bool) → (c ≡ true → ⊥) → c ≡ false
          false_by true never = absurd (never refl)
          false_by false never = refl

          by : (i ≡ e) ⊎ (i ≢ e) → not (may_meet (queued w.driver) i (was_one i y at).was) ≡ true
          by (inl own) =
              let was : (was_one i y at).was ≡ is_out.own =
              same_was is_out.own (ap (slice_get (queued w.driver).endpoints) own ∙ is_out.here) in
              ⊎_elim
              (λ (unmet_there : s.near (32 * x.queue) ≡ false).
              ap not (false_by (may_meet (queued w.driver) i (was_one i y at).was)
              (λ near.
              let met : IsMet (queued w.driver) e is_out.own = record {
                there = record {
                  linked = λ opens. none_some (unfinished.Open is_out.own.queue) (sym idle ∙ opens);
                  kept = sym (ap (λ (z : Endpoint). z.gone) is_out.same) ∙ ap (λ (z : Endpoint). z.gone) now_is ∙ b.leaves.held;
                };
                near = subst (λ (j : ℕ). may_meet (queued w.driver) j is_out.own ≡ true) own
                    (subst (λ (z : Endpoint). may_meet (queued w.driver) i z ≡ true) was near);
              } in
              false≢true (sym unmet_there ∙ ap (λ (z : Endpoint). s.near (32 * z.queue)) (sym now_is ∙ is_out.same)
              ∙ k.queues.queues.met.each e is_out.own is_out.here met))))
              (λ (unasked : g.asks is_out.own.desc ≡ false). absurd
              (false≢true (sym unasked ∙ ap (λ (z : Endpoint). g.asks z.desc) (sym was) ∙ asks))) is_out.asked
          by (inr differs) =
              ap (λ (z : Endpoint). not (may_meet (queued w.driver) i z)) (same_was y (sym (is_out.others i differs) ∙ at))
              ∙ ap not (sym (near_is i y)) ∙ off

  out_asks : AsksIn g t.near s.parts s.hand (record { courses = a.courses; numbers = a.numbers }) v asks d w.memory (wired fixed w)
  unfolding was_one leaves
  out_asks =
      world_left g fixed s.near (told_standing s m) a v asks (told_world w)
      (record { driver = d; registers = w.registers; memory = w.memory }) leaves q
      (λ i y is. record {
        lines = ap (lines_in y.desc.name) (field (λ (c : DriverContent). c.reports) refl);
        telling = λ reported waits z. record {
          numbers = field (λ (c : DriverContent). numbers_of c i) refl ∙ z.numbers;
          told = subst (λ (c : DriverContent). AreToldTo c.reports c.store y.desc.name (g.whole y.desc.name)
              (map (window_at asks v) reported ++ map (window_at asks v) waits) (map (window_at asks v) waits))
              (sym is_out.content) z.told;
          wait = z.wait ∙ sym (field (λ (c : DriverContent). waiting c i) refl);
        };
      })
      (λ name none. ap (lines_in name) (field (λ (c : DriverContent). c.reports) refl))
      t.near (told_standing s m) a.courses (λ j has. has) q.unmissed.structures q.unmissed.in_hand stand
      (regone d asks a.courses a.numbers (has_left g (queued w.driver)) (has_left g d) v
      (λ i on. left_by i (slice_get d.endpoints i) refl on)
      (accepted_keeps_records (queued w.driver) d asks a.courses a.numbers (has_left g (queued w.driver)) v keeps
      (field (λ (c : DriverContent). c.transfers) refl) q.records))
      (each_still g fixed s.near (told_standing s m) a v asks (told_world w)
      (record { driver = d; registers = w.registers; memory = w.memory }) leaves q)
      (λ i u y r is going next there.
      let z = was_one i y is.is.here in
      subst (λ (ns : _). IsReadTo s.hand s.parts (32 * y.queue) (note_at ns) r ((a.numbers (32 * y.queue)).requests.requests 0))
      (sym (field (λ (c : DriverContent). c.notes) refl))
      (subst (λ (p : ℕ). IsReadTo s.hand s.parts (32 * p) (note_at w.driver.notes) r ((a.numbers (32 * p)).requests.requests 0)) z.queue
      (q.read i u z.was r (was_met g (queued w.driver) d leaves i y is) (z.ended is.met.there.kept ∙ going) (z.next ∙ next)
      (sym (field (λ (c : DriverContent). slice_get c.transfers u) refl) ∙ there))))

  -- ---- it is given back

  met_then : AreMet d t.near
  met_then = record {
    head = without.near (32 * head_block)
        ∙ and_from (s.near (32 * head_block)) (not (32 * head_block == n)) k.queues.queues.met.head
        (ap not (other_number (32 * head_block) n
        (λ same. not_head d e x what.owners what.turns.asynchronous b.leaves.here b.leaves.held (sym same))));
    each = λ i y at met.
        let u = was_one i y at in
        let was : IsMet (queued w.driver) i u.was = record {
          there = record { linked = λ opens. none_some (unfinished.Open u.was.queue) (sym idle ∙ opens); kept = u.kept met.there.kept };
          near = near_was i y at met.near;
        } in
        let near : s.near (32 * y.queue) ≡ true = ap (λ (c : ℕ). s.near (32 * c)) (sym u.queue)
        ∙ k.queues.queues.met.each i u.was u.here was in
        stays (32 * y.queue) near
        (λ same.
        let one : i ≡ e = queues_same y.queue x.queue i e (same_blocks y.queue x.queue same)
        (queue_placed d what.owners i y at (what.turns.asynchronous.endpoints i y at) met.there.kept)
        (queue_placed d what.owners e x b.leaves.here (what.turns.asynchronous.endpoints e x b.leaves.here) b.leaves.held) in
        let is : y ≡ x = same_Some y x (sym at ∙ ap (slice_get d.endpoints) one ∙ b.leaves.here) in
        false≢true (sym (cleared_is d 0 e x what.owners.orderly b.leaves.first b.leaves.here).near
        ∙ subst (λ (c : ℕ). may_meet d c x ≡ true) one (subst (λ (z : Endpoint). may_meet d i z ≡ true) is met.near)));
    only = λ j on.
        ⊎_elim {C = (j ≡ 32 * head_block) ⊎ HasHead d j} (λ (head : j ≡ 32 * head_block). inl head)
        (λ (h : HasHead (queued w.driver) j).
        let differs : j ≢ n = λ same. true≢false (sym on ∙ ap t.near same ∙ unmet) in
        let other : h.number ≢ e = λ same.
        let is : h.endpoint ≡ is_out.own =
        same_Some h.endpoint is_out.own (sym h.here ∙ ap (slice_get (queued w.driver).endpoints) same ∙ is_out.here) in
        differs (h.at ∙ ap (λ (z : Endpoint). 32 * z.queue) is ∙ ap (λ (z : Endpoint). 32 * z.queue) (sym is_out.same ∙ now_is)) in
        inr (record {
          number = h.number;
          endpoint = h.endpoint;
          here = is_out.others h.number other ∙ h.here;
          met = record {
            there = record {
              linked = λ opens. none_some (unfinished.Open h.endpoint.queue) (sym what.idle ∙ opens);
              kept =
                  h.met.there.kept;
            };
            near = near_is h.number h.endpoint ∙ h.met.near;
          };
          at = h.at;
        })) (k.queues.queues.met.only j (fewer j on));
  }

  pub gone_then : HasAsks g t.near t.parts t.hand v asks (queued (driver_next w).driver) (driver_next w).memory (wired fixed w)
  gone_then =
      let given : World = record (told_world w) { driver = d } in
      let z = given_back_asks g fixed t.near (told_standing s m) (record { courses = a.courses; numbers = a.numbers }) v asks
      (record (told_world w) { driver = d })
      (record { owners = what.owners; only = what.turns.asynchronous; met = met_then; apart = apart_then })
      out_asks e x b.leaves.here what.idle unmet in
      record {
        asking = _;
        world =
            subst (λ (hand : Hand). AsksIn g t.near t.parts hand (record { courses = a.courses; numbers = a.numbers }) v asks
            (queued (driver_next w).driver) (driver_next w).memory (wired fixed w)) (sym without.hand)
            (subst (λ (parts : StructureSets). AsksIn g t.near parts s.hand (record { courses = a.courses; numbers = a.numbers }) v asks
            (queued (driver_next w).driver) (driver_next w).memory (wired fixed w)) (sym without.parts)
            (carried_asks g t.near (without_queue s.parts (32 * x.queue)) s.hand (record { courses = a.courses; numbers = a.numbers }) v
            asks (given_by (told_parts w) e d)
            (after_driver_row (rows.ReleaseEndpoint e) (record (told_parts w) { driver = d })).memory (wired fixed w) z
            (queued (driver_next w).driver) (driver_next w).memory b.told what.tells
            (idle_quiet (given_by (told_parts w) e d) given_idle)));
      }
    where
      apart_then : (i j : ℕ) (u y : Endpoint) → slice_get d.endpoints i ≡ Some u → is_control u.desc.kind ≡ true
          → slice_get d.endpoints j ≡ Some y → y.desc.name.addr ≡ u.desc.name.addr → y.desc.name.num ≡ u.desc.name.num → i ≡ j
      apart_then i j u y at on there address number =
          let c = was_one i u at in
          let o = was_one j y there in
          f.apart i j c.was o.was c.here (ap (λ (r : EpDesc). is_control r.kind) c.desc ∙ on) o.here
          (ap (λ (r : EpDesc). r.name.addr) o.desc ∙ address ∙ ap (λ (r : EpDesc). r.name.addr) (sym c.desc))
          (ap (λ (r : EpDesc). r.name.num) o.desc ∙ number ∙ ap (λ (r : EpDesc). r.name.num) (sym c.desc))

      given_idle : (given_by (told_parts w) e d).command ≡ None
      given_idle = released_idle (record (told_parts w) { driver = d }) e x b.leaves.here ∙ what.idle
