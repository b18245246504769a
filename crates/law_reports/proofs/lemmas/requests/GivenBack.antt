-- The row that gives back an endpoint that has left the ring leaves the queues of the other control endpoints as they stand: nothing was told of its own queue any more.
use Rattle.std.proofs.Common.{◌≡◌, ◌≢◌, ℕ, ◌*◌, ◌||◌, ◌&&◌, not, Bool, true, false, if◌then◌else◌, List, length, map, slice_get, slice_set, Option, Some, None, ap, refl, sym, subst, ◌∙◌, ⊎_elim, inl}
use Rattle.std.proofs.lemmas.Bool.{cases_eq, false≢true, true≢false}
use Rattle.std.proofs.lemmas.Option.{same_Some}
use Rattle.law_world.proofs.Common.{kept_by}
use Rattle.law_controller.proofs.Common.{heads_stay, elements_stay, same_hand}
use Rattle.law_reports.proofs.Common.{regone}
use Rattle.usb_base.specs.declared.endpoints.EpDesc.{EpDesc}
use Rattle.usb_base.specs.declared.endpoints.EpName.{EpName}
use Rattle.bus_wire.specs.Bus.{Fixed}
use Rattle.bus_wire.specs.Fates.{is_same_name}
use Rattle.drv_table.specs.declared.content.Command.{Command}
use Rattle.drv_table.specs.declared.content.Endpoint.{Endpoint}
use Rattle.drv_table.specs.declared.content.Mend.{Mend}
use Rattle.drv_table.specs.declared.content.Transfer.{Transfer}
use Rattle.drv_table.specs.declared.content.QtdNote.{QtdNote}
use Rattle.drv_table.specs.DriverContent.{DriverContent}
use Rattle.drv_table.specs.Harvests.{note_at, reported as with_line}
use Rattle.drv_table.specs.Parts.{Parts}
use Rattle.drv_table.specs.Rows.{after_driver_row}
use Rattle.drv_table.specs.Releases.{after_endpoint, cancel_told, cancelled_bytes, is_told, let_go}
use Rattle.law_driver.specs.endpoint_lives.Lives.{is_one_of, told_end, may_meet}
use Rattle.law_driver.proofs.lemmas.chained_transfers.Chained.{gone_from}
use Rattle.law_structures.specs.lent_structures.Structures.{StructureSets}
use Rattle.law_world.specs.steps.endpoint_releases.Released.{without_queue}
use Rattle.law_world.proofs.lemmas.steps.lemmas.endpoint_releases.Owning.{queue_beside}
use Rattle.claims_report.specs.Requests.{Request}
use Rattle.law_devices.specs.Controls.{control_of}
use Rattle.law_devices.proofs.Places.{set_here, set_beside}
use Rattle.law_queues.specs.told_endpoints.Telling.{lines_in}
use Rattle.law_queues.proofs.lemmas.told_endpoints.Lines.{line_of_other}
use Rattle.law_queues.proofs.lemmas.told_endpoints.Names.{same_name_is}
use Rattle.law_driver_ring.proofs.lemmas.told_harvests.Keeping.{spared_is_done}
use Rattle.bus_world.specs.World.{World, driver_parts}
use Rattle.law_world.specs.steps.Streaming.{Standing}
use Rattle.claims_world.specs.Requests.{wired, Windows, numbers_of, opens, is_opening}
use Rattle.law_reports.proofs.lemmas.requests.lemmas.driver_requests.RowOrder.{row_numbers}
use Rattle.law_reports.specs.requests.Courses.{have_queues, CoursesStand}
use Rattle.law_reports.proofs.lemmas.requests.Writing.{same_side}
use Rattle.law_reports.specs.requests.Records.{AreRecords}
use Rattle.law_reports.proofs.lemmas.requests.Rows.{row_keeps_records}
use Rattle.law_reports.specs.requests.Telling.{IsTelling}
use Rattle.law_reports.proofs.lemmas.requests.Telling.{other_returns_keep_telling}
use Rattle.law_reports.specs.requests.Asking.{Sides, Asking, left_with, has_left, IsUnheard, IsMetControl, IsReadTo, IsAskingWorld, AsksIn}
use Rattle.law_reports.proofs.lemmas.requests.Leaving.{idle_quiet, WasEndpoint, IsEndpointStill, RowLeaves, LinesLeave, each_still, world_left}
use Rattle.law_reports.proofs.lemmas.requests.Beside.{IsSeated, owner_seated, stand_beside}
use Rattle.law_reports.proofs.lemmas.requests.Releasing.{next_is}
use Rattle.law_reports.proofs.lemmas.requests.Missed.{release_misses_none}
use Rattle.usb_base.specs.declared.reports.What.TheVariants as lines
use Rattle.drv_table.specs.declared.rows.DriverRow.TheVariants as rows

-- whether a line of the report tells it, the rest of the content is the same
told_same : {X : Type 0} (f : DriverContent → X) (g d : DriverContent) (b : Bool) → f g ≡ f d → f (if b then g else d) ≡ f d
told_same f g d true same = same
told_same f g d false same = refl

module _ (g : Sides) (fixed : Fixed) (member : ℕ → Bool) (s : Standing) (a : Asking) (v : Windows) (asks : ℕ → Request)
    (w : World) (k : IsSeated member w) (z : IsAskingWorld g fixed member s a v asks w)
    (f : ℕ) (own : Endpoint) (own_here : slice_get w.driver.endpoints f ≡ Some own) (idle : w.driver.command ≡ None) (unmet : member (32 * own.queue) ≡ false) where
  abbrev d : DriverContent
  d = w.driver

  abbrev n : ℕ
  n = 32 * own.queue

  abbrev now : StructureSets
  now = without_queue s.parts n

  abbrev after : Parts
  after = after_endpoint (driver_parts w) f (Some own)

  abbrev gone_own : Endpoint
  gone_own = record own { gone = true }

  row_is : after_driver_row (rows.ReleaseEndpoint f) (driver_parts w) ≡ after
  row_is = ap (after_endpoint (driver_parts w) f) own_here

  -- ---- what the row changes

  abbrev lined : DriverContent
  lined = with_line w.driver lines.Cancel own.desc.name (cancelled_bytes w.driver.notes w.memory f own.queue w.driver.transfers)

  keeps : {X : Type 0} (h : DriverContent → X) → h lined ≡ h w.driver → h (cancel_told w.driver w.memory f own) ≡ h w.driver
  keeps h same = told_same h lined w.driver (is_told own) same

  command_is : after.driver.command ≡ w.driver.command
  command_is = keeps (λ (c : DriverContent). c.command) refl

  idle_now : after.driver.command ≡ None
  idle_now = command_is ∙ idle

  endpoints_are : after.driver.endpoints ≡ slice_set w.driver.endpoints f gone_own
  endpoints_are = ap (λ (xs : List Endpoint). slice_set xs f gone_own) (keeps (λ (c : DriverContent). c.endpoints) refl)

  transfers_are : after.driver.transfers ≡ map (let_go f (is_told own)) w.driver.transfers
  transfers_are = ap (λ (ts : List Transfer). map (let_go f (is_told own)) ts) (keeps (λ (c : DriverContent). c.transfers) refl)

  notes_are : after.driver.notes ≡ w.driver.notes
  notes_are = keeps (λ (c : DriverContent). c.notes) refl

  mends_are : after.driver.mends ≡ w.driver.mends
  mends_are = keeps (λ (c : DriverContent). c.mends) refl

  meets_are : (e : ℕ) (y : Endpoint) → may_meet after.driver e y ≡ may_meet w.driver e y
  meets_are e y = keeps (λ (c : DriverContent). may_meet c e y) refl

  left_now : slice_get after.driver.endpoints f ≡ Some gone_own
  left_now = ap (λ (xs : List Endpoint). slice_get xs f) endpoints_are ∙ set_here w.driver.endpoints f own gone_own own_here

  others_now : (e : ℕ) → e ≢ f → slice_get after.driver.endpoints e ≡ slice_get w.driver.endpoints e
  others_now e differs = ap (λ (xs : List Endpoint). slice_get xs e) endpoints_are ∙ set_beside w.driver.endpoints f e gone_own differs

  is_gone : (e : ℕ) (y : Endpoint) → slice_get after.driver.endpoints e ≡ Some y → e ≡ f → gone_own ≡ y
  is_gone e y here same = same_Some gone_own y (sym left_now ∙ ap (slice_get after.driver.endpoints) (sym same) ∙ here)

  was_one : (e : ℕ) (y : Endpoint) → slice_get after.driver.endpoints e ≡ Some y → WasEndpoint w.driver e y
  was_one e y here =
      ⊎_elim {C = WasEndpoint w.driver e y}
      (λ (same : e ≡ f).
      let is : gone_own ≡ y = is_gone e y here same in
      let gone : y.gone ≡ true = ap (λ (t : Endpoint). t.gone) (sym is) in
      record {
        was = own;
        here = ap (slice_get w.driver.endpoints) same ∙ own_here;
        desc = ap (λ (t : Endpoint). t.desc) is;
        queue = ap (λ (t : Endpoint). t.queue) is;
        dummy = ap (λ (t : Endpoint). t.dummy) is;
        next = ap (λ (t : Endpoint). t.next) is;
        cancelled = ap (λ (t : Endpoint). t.cancelled) is;
        ended = λ held. absurd (true≢false (sym gone ∙ held));
        kept = λ held. absurd (true≢false (sym gone ∙ held));
      })
      (λ (differs : e ≢ f).
      record { was = y; here = sym (others_now e differs) ∙ here; desc = refl; queue = refl; dummy = refl; next = refl; cancelled = refl; ended = λ held. refl; kept = λ held. held })
      (cases_eq e f)

  still_one : (e : ℕ) (y : Endpoint) → slice_get w.driver.endpoints e ≡ Some y → IsEndpointStill after.driver e y
  still_one e y here =
      ⊎_elim {C = IsEndpointStill after.driver e y}
      (λ (same : e ≡ f).
      let is : own ≡ y = same_Some own y (sym own_here ∙ ap (slice_get w.driver.endpoints) (sym same) ∙ here) in
      record { now = gone_own; here = ap (slice_get after.driver.endpoints) same ∙ left_now; desc = ap (λ (t : Endpoint). t.desc) is; queue = ap (λ (t : Endpoint). t.queue) is })
      (λ (differs : e ≢ f). record { now = y; here = others_now e differs ∙ here; desc = refl; queue = refl }) (cases_eq e f)

  near_same : (e : ℕ) (y t : Endpoint) → slice_get after.driver.endpoints e ≡ Some y → slice_get w.driver.endpoints e ≡ Some t
      → may_meet after.driver e y ≡ may_meet w.driver e t
  near_same e y t here there =
      meets_are e y
      ∙ ap (λ (b : Bool). b || (is_one_of e w.driver.waiting || is_one_of e w.driver.rung))
      (⊎_elim {C = y.linked ≡ t.linked}
      (λ (same : e ≡ f).
      ap (λ (u : Endpoint). u.linked) (sym (is_gone e y here same)) ∙ ap (λ (u : Endpoint). u.linked) (same_Some own t (sym own_here ∙ ap (slice_get w.driver.endpoints) (sym same) ∙ there)))
      (λ (differs : e ≢ f). ap (λ (u : Endpoint). u.linked) (same_Some y t (sym here ∙ others_now e differs ∙ there))) (cases_eq e f))

  -- none is being opened
  not_opening : (c : DriverContent) (y : Endpoint) → c.command ≡ None → is_opening c y ≡ false
  not_opening c y none = ap (λ (o : Option Command). opens o y.queue && not y.gone) none

  leaves : RowLeaves w.driver after.driver
  leaves = record {
    quiet = idle_quiet w.driver idle;
    quiet_now = idle_quiet after.driver idle_now;
    was = was_one;
    still = still_one;
    opening = λ e y here. not_opening after.driver y idle_now ∙ sym (not_opening w.driver (was_one e y here).was idle);
    linked = λ b other is. other (command_is ∙ is);
    near = λ e y here on. sym (near_same e y (was_one e y here).was here (was_one e y here).here) ∙ on;
    mends = λ i m at. (i, ap (λ (ms : List Mend). slice_get ms i) (sym mends_are) ∙ at);
    numbers = λ e. sym (ap (λ (q : Parts). numbers_of q.driver e) row_is) ∙ row_numbers (driver_parts w) (rows.ReleaseEndpoint f) e;
  }

  -- ---- the others

  is_other : (e : ℕ) (y : Endpoint) → slice_get after.driver.endpoints e ≡ Some y → y.gone ≡ false → e ≢ f
  is_other e y here held same = true≢false (ap (λ (t : Endpoint). t.gone) (is_gone e y here same) ∙ held)

  stays_at : (j : ℕ) → member j ≡ true → now j ≡ s.parts j
  stays_at j met = queue_beside s.parts n j (λ same. false≢true (sym unmet ∙ ap member (sym same) ∙ met))

  stand : CoursesStand control_of member a.courses now s.hand (wired fixed w)
  stand =
      stand_beside control_of s.parts now s.hand s.hand (wired fixed w) (same_side s.hand) (same_hand s.hand) member a.courses (λ j has. stays_at j (z.stand.members j has))
      (λ j own_of met has. record { queue = has.queue; head = ap (λ part. part j) (stays_at j met) ∙ has.head; is = has.is }) z.stand

  -- ---- what is recorded

  left_by : (e : ℕ) (o : Option Endpoint) → slice_get after.driver.endpoints e ≡ o → left_with g after.driver e o ≡ true
      → has_left g w.driver e ≡ true
  left_by e None is on = absurd (false≢true on)
  left_by e (Some y) is on =
      let t = was_one e y is in
      ap (left_with g w.driver e) t.here
      ∙ ap (λ (b : Bool). b && not (may_meet w.driver e t.was)) (ap (λ (i : EpDesc). g.asks i) t.desc) ∙ ap (λ (b : Bool). g.asks y.desc && not b) (sym (near_same e y t.was is t.here)) ∙ on

  -- a queue of which something is told is another endpoint's
  other_queue : (j : ℕ) → have_queues a.courses j ≡ true → (a.numbers j).endpoint ≢ f
  other_queue j has same =
      let o = owner_seated g fixed member s a v asks w k z j has in
      let one : own ≡ o.endpoint = same_Some own o.endpoint (sym own_here ∙ ap (slice_get w.driver.endpoints) (sym same ∙ o.is) ∙ o.control.is.here) in
      false≢true (sym unmet ∙ ap (λ (t : Endpoint). member (32 * t.queue)) one ∙ ap member (sym o.at) ∙ z.stand.members j has)

  recorded : AreRecords after.driver asks a.courses a.numbers (has_left g after.driver) v
  recorded =
      regone after.driver asks a.courses a.numbers (has_left g w.driver) (has_left g after.driver) v (λ e on. left_by e (slice_get after.driver.endpoints e) refl on)
      (subst (λ (q : Parts). AreRecords q.driver asks a.courses a.numbers (has_left g w.driver) v) row_is
      (row_keeps_records (driver_parts w) (rows.ReleaseEndpoint f) asks a.courses a.numbers (has_left g w.driver) v other_queue
      (λ j i has few given. let never : ◌≡◌ {A = Option ℕ} None (Some ((a.numbers j).number i)) = given in cc) z.records))

  -- ---- what is read

  reads : (e u : ℕ) (i : Endpoint) (r : Transfer) → IsMetControl g after.driver e i → told_end i ≡ None → i.next ≡ Some u
      → slice_get after.driver.transfers u ≡ Some r
      → IsReadTo s.hand now (32 * i.queue) (note_at after.driver.notes) r ((a.numbers (32 * i.queue)).requests.requests 0)
  reads e u i r m going next there =
      let differs : e ≢ f = is_other e i m.is.here m.met.there.kept in
      let here : slice_get w.driver.endpoints e ≡ Some i = sym (others_now e differs) ∙ m.is.here in
      let m_was : IsMetControl g w.driver e i = record {
        is = record { here = here; control = m.is.control };
        met = record { there = record { linked = λ is. m.met.there.linked (command_is ∙ is); kept = m.met.there.kept }; near = sym (meets_are e i) ∙ m.met.near };
      } in
      let c = z.each e i m_was in
      let first = next_is (a.numbers (32 * i.queue)).requests.count ((a.numbers (32 * i.queue)).number 0) u (sym (c.next going) ∙ next) in
      let of = (z.records.each (32 * i.queue) c.queue).numbered.own.transfers 0 first.0 in
      let before = gone_from f (is_told own) w.driver.transfers u r (ap (λ (ts : List Transfer). slice_get ts u) (sym transfers_are) ∙ there) in
      let one : before.0 ≡ of.own = same_Some before.0 of.own (sym before.1 ∙ ap (slice_get w.driver.transfers) (sym first.1) ∙ of.here) in
      let its : before.0.endpoint ≡ e = ap (λ (t : Transfer). t.endpoint) one ∙ of.endpoint ∙ c.number in
      let same : before.0 ≡ r = sym (kept_by f (is_told own) before.0 (λ own_of. differs (sym its ∙ own_of))) ∙ before.2 in
      let was : slice_get w.driver.transfers u ≡ Some r = before.1 ∙ ap Some same in
      let read : IsReadTo s.hand s.parts (32 * i.queue) (note_at w.driver.notes) r ((a.numbers (32 * i.queue)).requests.requests 0) = z.read e u i r m_was going next was in
      let stays : now (32 * i.queue) ≡ s.parts (32 * i.queue) = stays_at (32 * i.queue) (k.met.each e i here m_was.met) in
      let read_now : IsReadTo s.hand now (32 * i.queue) (note_at w.driver.notes) r ((a.numbers (32 * i.queue)).requests.requests 0) = record {
        setup = read.setup;
        data_at = λ has one_left.
            let t = read.data_at has one_left in
            record {
              bytes = t.bytes;
              done = spared_is_done s.hand s.hand s.parts now (32 * i.queue) _ _ t.bytes (same_hand s.hand) (heads_stay s.parts now (32 * i.queue) stays) (elements_stay s.parts now (32 * i.queue) _ stays) t.done;
            };
        rest = read.rest;
      } in
      subst (λ (ns : List QtdNote). IsReadTo s.hand now (32 * i.queue) (note_at ns) r ((a.numbers (32 * i.queue)).requests.requests 0)) (sym notes_are) read_now

  -- ---- what is told

  other_lines : (name : EpName) → is_same_name own.desc.name name ≡ false
      → lines_in name after.driver.reports ≡ lines_in name w.driver.reports
  other_lines name other =
      keeps (λ (c : DriverContent). lines_in name c.reports)
      (line_of_other name w.driver.reports (record { name = own.desc.name; what = lines.Cancel; from = length w.driver.store; len = length (cancelled_bytes w.driver.notes w.memory f own.queue w.driver.transfers) })
      (ap (λ (b : Bool). b && true) other))

  by_name : (a b : EpName) (t : Bool) → is_same_name a b ≡ t → (a ≡ b → ⊥) → is_same_name a b ≡ false
  by_name a b false is differs = is
  by_name a b true is differs = absurd (differs (same_name_is a b is))

  names_apart : (e : ℕ) (i : Endpoint) → IsMetControl g after.driver e i → is_same_name own.desc.name i.desc.name ≡ false
  names_apart e i m =
      let differs : e ≢ f = is_other e i m.is.here m.met.there.kept in
      by_name own.desc.name i.desc.name (is_same_name own.desc.name i.desc.name) refl
      (λ same. differs (k.apart e f i own (sym (others_now e differs) ∙ m.is.here) (g.controls i.desc m.is.control) own_here (ap (λ (t : EpName). t.addr) same) (ap (λ (t : EpName). t.num) same)))

  tells : (e : ℕ) (i : Endpoint) → IsMetControl g after.driver e i
      → LinesLeave w.driver after.driver asks v e i.desc.name (g.whole i.desc.name)
  tells e i m = record {
    lines = other_lines i.desc.name (names_apart e i m);
    telling = λ reported waits told.
        subst (λ (q : Parts). IsTelling q.driver asks e i.desc.name (g.whole i.desc.name) v reported waits) row_is
        (other_returns_keep_telling (driver_parts w) f asks e i.desc.name (g.whole i.desc.name) v reported waits (λ same. is_other e i m.is.here m.met.there.kept (sym same))
        (λ y here. inl (ap (λ (t : Endpoint). is_same_name t.desc.name i.desc.name) (same_Some y own (sym here ∙ own_here)) ∙ names_apart e i m)) told);
  }

  unheard : (name : EpName) → IsUnheard after.driver name → lines_in name after.driver.reports ≡ lines_in name w.driver.reports
  unheard name u =
      other_lines name
      (by_name own.desc.name name (is_same_name own.desc.name name) refl (λ same. false≢true (sym (not_opening after.driver gone_own idle_now) ∙ u f gone_own left_now same)))

  -- ---- the world

  abbrev later : Standing
  later = record s { parts = now }

  world : AsksIn g member now s.hand (record { courses = a.courses; numbers = a.numbers }) v asks after.driver after.memory (wired fixed w)
  world =
      world_left g fixed member s a v asks w after leaves z tells unheard member later a.courses (λ j has. has) (release_misses_none (have_queues a.courses) s.parts (32 * own.queue) (λ i. true) z.unmissed.structures) z.unmissed.in_hand stand
      recorded (each_still g fixed member s a v asks w after leaves z) reads

  pub given_back_asks : AsksIn g member now s.hand (record { courses = a.courses; numbers = a.numbers }) v asks (after_driver_row (rows.ReleaseEndpoint f) (driver_parts w)).driver (after_driver_row (rows.ReleaseEndpoint f) (driver_parts w)).memory
      (wired fixed w)
  given_back_asks = subst (λ (q : Parts). AsksIn g member now s.hand (record { courses = a.courses; numbers = a.numbers }) v asks q.driver q.memory (wired fixed w)) (sym row_is) world
