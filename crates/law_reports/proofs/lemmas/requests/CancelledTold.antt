-- Each event leaves what the lines of a cancelled control endpoint tell, but for the one of its cancel.
use Rattle.std.proofs.Common.{◌≡◌, ◌≢◌, ℕ, ◌&&◌, not, Bool, true, false, List, [], ◌∷◌, ◌++◌, length, map, slice_get}
use Rattle.std.proofs.Common.{Option, Some, None, ap, refl, sym, subst, ◌∙◌, ⊎_elim, ◌+◌}
use Rattle.std.specs.List.{AllByRecursion}
use Rattle.std.proofs.lemmas.Bool.{false≢true, true≢false, eq-eqb}
use Rattle.std.proofs.lemmas.Option.{same_Some}
use Rattle.std.proofs.lemmas.List.{append-nil}
use Rattle.law_queues.proofs.Common.{set_which}
use Rattle.law_common.proofs.Booleans.{left_or}
use Rattle.usb_base.specs.declared.endpoints.EpName.{EpName}
use Rattle.usb_base.specs.declared.reports.Report.{Report}
use Rattle.bus_wire.specs.Bus.{Fixed}
use Rattle.report_text.specs.ReportText.{AreStored}
use Rattle.law_devices.specs.Controls.{control_of}
use Rattle.claims_report.specs.Reports.{is_line_of}
use Rattle.claims_report.specs.Requests.{Request, Window, AreTold}
use Rattle.claims_world.specs.Pending.{is_cancel}
use Rattle.law_reports.specs.requests.CancelledTold.{before_cancel}
use Rattle.claims_world.specs.Requests.{wired, Windows, numbers_of, window_at, windows_of, opens, is_opening, side_of, acted_with}
use Rattle.claims_world.specs.Requests.{acted_by}
use Rattle.claims_world.specs.Requests.{after_event, begun_by}
use Rattle.drv_table.specs.declared.content.Command.{Command}
use Rattle.drv_table.specs.declared.content.Command.TheVariants as unfinished
use Rattle.drv_table.specs.declared.content.Endpoint.{Endpoint}
use Rattle.drv_table.specs.DriverContent.{DriverContent}
use Rattle.drv_table.specs.Rows.{driver_row}
use Rattle.drv_table.specs.Words.{is_control}
use Rattle.law_driver.specs.endpoint_lives.Lives.{may_meet}
use Rattle.law_driver.specs.queued_drivers.Queued.{queued_desc, with_queue, queued_endpoint, queued}
use Rattle.law_driver.proofs.Common.{get_queued}
use Rattle.law_driver.proofs.lemmas.queued_drivers.CommandFields.{name_same}
use Rattle.law_driver.proofs.lemmas.run_owners.Reasons.{each_event_is_due}
use Rattle.law_footprints.specs.Changes.{EndpointChange, off_ring, off_frames, let_go, over, onward, EndpointsStep, same, one}
use Rattle.law_queues.specs.told_endpoints.Telling.{lines_in}
use Rattle.law_queues.proofs.lemmas.leaving_drivers.Unmet.{gone_are_unmet}
use Rattle.law_queues.proofs.lemmas.told_endpoints.Lines.{stored_filtered}
use Rattle.bus_world.specs.World.{World, driver_parts, driver_next, controller_next}
use Rattle.law_reports.specs.lines.Lined.{in_hand}
use Rattle.law_reports.proofs.lemmas.lines.IsoGoing.{AreApart, told_apart}
use Rattle.law_reports.specs.pipes.Declared.{Sides as Pipes}
use Rattle.law_reports.proofs.lemmas.pipes.Across.{row_ends}
use Rattle.law_reports.specs.requests.Asking.{Sides, has_left, left_with, IsUnheard, IsMetControl}
use Rattle.law_reports.specs.requests.Footing.{IsFooting}
use Rattle.law_reports.specs.requests.TransferEvents.{IsLeftAlone}
use Rattle.law_reports.specs.requests.HighAsking.{told_world, told_standing, told_streams, HasHighAsks}
use Rattle.law_reports.specs.requests.Telling.{IsUncancelled}
use Rattle.law_reports.specs.requests.told_requests.Told.{has_cancel}
use Rattle.law_reports.specs.requests.CancelledTold.{IsToldBefore, CancelledAreTold}
use Rattle.law_reports.specs.requests.CancelledTold.{DriverKeepsCancelled, ControllerKeepsCancelled}
use Rattle.law_reports.proofs.lemmas.requests.lemmas.told_requests.Growing.{event_keeps_windows}
use Rattle.law_reports.proofs.lemmas.requests.lemmas.told_requests.Lines.{still_told}
use Rattle.law_reports.proofs.lemmas.requests.lemmas.world_requests.Queues.{quiet_acts}
use Rattle.law_reports.proofs.lemmas.requests.CancelledLines.{all_before, LinesStayBefore, row_leaves_lines}
use Rattle.law_reports.proofs.lemmas.requests.HighDevices.{left_waits}
use Rattle.law_reports.proofs.lemmas.requests.HighFooting.{high_footing}
use Rattle.law_reports.proofs.lemmas.requests.HighOpened.{told_as}
use Rattle.law_reports.proofs.lemmas.requests.HighWindows.{numbers_told}
use Rattle.law_reports.proofs.lemmas.requests.Lists.{all_map, numbers_are}
use Rattle.law_reports.proofs.lemmas.requests.Telling.{telling_is_told}
use Rattle.law_reports.proofs.lemmas.requests.TransferEvents.{none_acts}

-- ---- a control endpoint that the walk may meet

module _ (g : Sides) (fixed : Fixed) (p : Pipes) (v : Windows) (asks : ℕ → Request) (w : World) (h : HasHighAsks g fixed p v asks w) where
  pub foot : IsFooting h.standing.near (told_streams h.standing) (told_standing h.standing h.lines) (told_world w)
  foot = high_footing g fixed p h.standing h.lines h.heads w h.piped h.head h.suited

  pub names_apart : AreApart w.driver
  names_apart = told_apart w.driver (in_hand h.standing) h.standing.parts h.lines.reported h.piped.telling.told

  pub all_stored : AreStored w.driver.reports (length w.driver.store)
  all_stored = h.piped.telling.told.tells.stored

  module _ (e : ℕ) (x : Endpoint) (here : slice_get w.driver.endpoints e ≡ Some x) (control : is_control x.desc.kind ≡ true)
      (on : g.asks (queued_desc x.desc) ≡ true) where
    abbrev d : DriverContent
    d = queued w.driver

    abbrev y : Endpoint
    y = queued_endpoint x

    at : slice_get (queued w.driver).endpoints e ≡ Some (queued_endpoint x)
    at = get_queued w.driver.endpoints e x here

    pub told : queued_endpoint x ≡ with_queue x
    told = told_as h.standing w h.piped.mixed e x here control

    asked_so : g.asks (queued_endpoint x).desc ≡ true
    asked_so = ap (λ (z : Endpoint). g.asks z.desc) told ∙ on

    name : (queued_endpoint x).desc.name ≡ x.desc.name
    name = name_same x

    pub has_ended : x.cancelled ≡ true → x.ended ≢ None
    has_ended off none =
        (foot.turns.asynchronous.endpoints e y at).ended (ap (λ (z : Endpoint). z.cancelled) told ∙ off)
        (ap (λ (z : Endpoint). z.ended) told ∙ none)

    -- nothing is told of it while it is being opened
    unheard : is_opening (queued w.driver) (queued_endpoint x) ≡ true → IsUnheard (queued w.driver) (queued_endpoint x).desc.name
    unheard opens i z there named =
        let own : e ≡ i = foot.apart e i y z at (g.controls y.desc asked_so) there (ap (λ (n : EpName). n.addr) named)
        (ap (λ (n : EpName). n.num) named) in
        let is : y ≡ z = same_Some y z (sym at ∙ ap (slice_get (queued w.driver).endpoints) own ∙ there) in
        ap (is_opening (queued w.driver)) (sym is) ∙ opens

    abbrev IsTold : EpName → List ℕ → Type 0
    IsTold n ts = AreTold (g.whole n) w.driver.store (map (window_at asks v) ts) (before_cancel (lines_in n w.driver.reports))

    -- as the queues tell it
    as_real : IsTold y.desc.name (numbers_of d e) → IsToldBefore w.driver asks v g.whole e x
    as_real told_so =
        subst (λ (n : EpName). IsTold n (numbers_of w.driver e)) name
        (subst (IsTold y.desc.name) (numbers_told w.driver e) told_so)

    opening_is_told : is_opening (queued w.driver) (queued_endpoint x) ≡ true → IsToldBefore w.driver asks v g.whole e x
    opening_is_told opens =
        let none : lines_in y.desc.name w.driver.reports ≡ [] = h.world.untold y.desc.name (unheard opens) in
        as_real
        (subst
        (λ (ls : List Report). AreTold (g.whole y.desc.name) w.driver.store (map (window_at asks v) (numbers_of d e)) (before_cancel ls))
        (sym none) tt)

    pub not_opening : is_opening (queued w.driver) (queued_endpoint x) ≡ false → y.gone ≡ false → d.command ≢ Some (unfinished.Open y.queue)
    not_opening off kept is =
        false≢true (sym off ∙ ap (λ (c : Option Command). opens c y.queue && not y.gone) is
        ∙ ap (λ (b : Bool). b && not y.gone) (eq-eqb y.queue y.queue refl) ∙ ap not kept)

    held : may_meet d e y ≡ true → (b : Bool) → y.gone ≡ b → y.gone ≡ false
    held near true is = absurd (true≢false (sym near ∙ gone_are_unmet d e y foot.owners at is))
    held near false is = is

    open_is_told : is_opening (queued w.driver) (queued_endpoint x) ≡ false → may_meet d e y ≡ true
        → IsToldBefore w.driver asks v g.whole e x
    open_is_told off near =
        let kept : y.gone ≡ false = held near y.gone refl in
        let m : IsMetControl g d e y = record {
          is = record { here = at; control = asked_so };
          met = record { there = record { linked = not_opening off kept; kept = kept }; near = near };
        } in
        let t = h.world.telling e y m in
        let r = telling_is_told d asks e y.desc.name (g.whole y.desc.name) v t.reported _ t.telling in
        as_real
        (subst (λ (ls : List Report). AreTold (g.whole y.desc.name) w.driver.store (map (window_at asks v) (numbers_of d e)) ls)
        (sym (all_before (lines_in y.desc.name w.driver.reports) t.uncancelled)) r.told)

    by_opening : (b : Bool) → is_opening (queued w.driver) (queued_endpoint x) ≡ b → may_meet d e y ≡ true
        → IsToldBefore w.driver asks v g.whole e x
    by_opening true is near = opening_is_told is
    by_opening false is near = open_is_told is near

    pub met_is_told : may_meet (queued w.driver) e (queued_endpoint x) ≡ true → IsToldBefore w.driver asks v g.whole e x
    met_is_told near = by_opening (is_opening (queued w.driver) (queued_endpoint x)) refl near

    pub new_is_told : is_opening (queued w.driver) (queued_endpoint x) ≡ true → IsToldBefore w.driver asks v g.whole e x
    new_is_told = opening_is_told

    -- one that isn't cancelled is in the ring
    linked : y.cancelled ≡ false → (b : Bool) → y.linked ≡ b → y.linked ≡ true
    linked stays true is = is
    linked stays false is = absurd (true≢false (sym ((foot.turns.asynchronous.endpoints e y at).unlinked is) ∙ stays))

    -- no line tells of its cancel
    pub opening_uncancelled : is_opening (queued w.driver) (queued_endpoint x) ≡ true → IsUncancelled x.desc.name w.driver
    opening_uncancelled opens =
        subst (λ (n : EpName). IsUncancelled n w.driver) name (ap has_cancel (h.world.untold y.desc.name (unheard opens)))

    pub met_uncancelled : is_opening (queued w.driver) (queued_endpoint x) ≡ false
        → may_meet (queued w.driver) e (queued_endpoint x) ≡ true → IsUncancelled x.desc.name w.driver
    met_uncancelled off near =
        let kept : y.gone ≡ false = held near y.gone refl in
        subst (λ (n : EpName). IsUncancelled n w.driver) name
        (h.world.telling e y
        (record {
          is = record { here = at; control = asked_so };
          met = record { there = record { linked = not_opening off kept; kept = kept }; near = near };
        })).uncancelled

    -- ---- each of them

    each_by : CancelledAreTold g w v asks → (b : Bool) → x.cancelled ≡ b → IsToldBefore w.driver asks v g.whole e x
    each_by k true off = k.each e x here control on off
    each_by k false going = met_is_told (left_or y.linked _ (linked (ap (λ (z : Endpoint). z.cancelled) told ∙ going) y.linked refl))

    pub each_is_told : CancelledAreTold g w v asks → IsToldBefore w.driver asks v g.whole e x
    each_is_told k = each_by k x.cancelled refl

-- ---- where lines and windows stay

pub lines_stay : (d f : DriverContent) (asks now : ℕ → Request) (v new : Windows) (whole : EpName → Request → List ℕ) (e : ℕ)
    (y z : Endpoint) → AreStored d.reports (length d.store) → z.desc ≡ y.desc → windows_of f now new e ≡ windows_of d asks v e
    → LinesStayBefore d f z.desc.name → IsToldBefore d asks v whole e y → IsToldBefore f now new whole e z
lines_stay d f asks now v new whole e y z stored desc windows k told =
    let n : EpName = z.desc.name in
    let was : AreTold (whole n) d.store (windows_of d asks v e) (before_cancel (lines_in n d.reports)) =
    subst (λ (m : EpName). AreTold (whole m) d.store (windows_of d asks v e) (before_cancel (lines_in m d.reports)))
    (sym (ap (λ c. c.name) desc)) told in
    subst (λ (bs : List ℕ). AreTold (whole n) bs (windows_of f now new e) (before_cancel (lines_in n f.reports))) (sym k.store)
    (subst (λ (ls : List Report). AreTold (whole n) (d.store ++ k.bytes) (windows_of f now new e) ls) (sym k.lines)
    (subst (λ (ws : List Window). AreTold (whole n) (d.store ++ k.bytes) ws (before_cancel (lines_in n d.reports))) (sym windows)
    (still_told (whole n) d.store k.bytes (before_cancel (lines_in n d.reports)) (windows_of d asks v e)
    (stored_filtered (λ line. not (is_cancel line.what)) (lines_in n d.reports) (length d.store)
    (stored_filtered (is_line_of n) d.reports (length d.store) stored)) was)))

-- ---- an event of the driver

changed : (y z : Endpoint) → EndpointChange y z → (z.desc ≡ y.desc) × (z.cancelled ≡ y.cancelled)
changed y _ off_ring = (refl, refl)
changed y _ off_frames = (refl, refl)
changed y _ let_go = (refl, refl)
changed y _ (over cause) = (refl, refl)
changed y _ (onward t) = (refl, refl)

record WasBefore (old : List Endpoint) (e : ℕ) (z : Endpoint) : Type 0 where
  was : Endpoint
  here : slice_get old e ≡ Some was
  desc : z.desc ≡ was.desc
  cancelled : z.cancelled ≡ was.cancelled

was_before : (old new : List Endpoint) → EndpointsStep old new → (i : ℕ) (z : Endpoint) → slice_get new i ≡ Some z → WasBefore old i z
was_before old _ same i z here = record { was = z; here = here; desc = refl; cancelled = refl }
was_before old _ (one e x y at change) i z here =
    ⊎_elim
    (λ (own : (i ≡ e) × (z ≡ y)).
    let c = changed x y change in
    record {
      was = x;
      here = ap (slice_get old) own.0 ∙ at;
      desc = ap (λ (u : Endpoint). u.desc) own.1 ∙ c.0;
      cancelled = ap (λ (u : Endpoint). u.cancelled) own.1 ∙ c.1;
    })
    (λ (other : (i ≢ e) × (slice_get old i ≡ Some z)). record { was = z; here = other.1; desc = refl; cancelled = refl })
    (set_which old e i x y z at here)

pub driver_keeps_cancelled : DriverKeepsCancelled
driver_keeps_cancelled g fixed p v asks w h k = record {
  each = λ i z here control on off.
      let b : WasBefore w.driver.endpoints i z = was_before w.driver.endpoints (driver_next w).driver.endpoints
      (row_ends (driver_row (driver_parts w)) (driver_parts w)) i z here in
      let is_control_was : is_control b.was.desc.kind ≡ true = ap (λ c. is_control c.kind) (sym b.desc) ∙ control in
      let on_was : g.asks (queued_desc b.was.desc) ≡ true = ap (λ c. g.asks (queued_desc c)) (sym b.desc) ∙ on in
      let l : LinesStayBefore w.driver (driver_next w).driver b.was.desc.name =
      row_leaves_lines (driver_parts w) i b.was b.here
      (has_ended g fixed p v asks w h i b.was b.here is_control_was on_was (sym b.cancelled ∙ off))
      (names_apart g fixed p v asks w h) (driver_row (driver_parts w)) h.piped.mixed.now.framed.place.sound.owners h.piped.mixed.turns
      (each_event_is_due (driver_parts w)) in
      lines_stay w.driver (driver_next w).driver asks asks v v g.whole i b.was z (all_stored g fixed p v asks w h) b.desc
      (event_keeps_windows (driver_parts w) asks v i)
      (subst (λ c. LinesStayBefore w.driver (driver_next w).driver c.name) (sym b.desc) l)
      (k.each i b.was b.here is_control_was on_was (sym b.cancelled ∙ off));
}

-- ---- an event of the controller

same_acts : (asks : ℕ → Request) (v u : Windows) (ts : List ℕ) → AllByRecursion (λ t. u.acts t ≡ v.acts t) ts
    → map (window_at asks u) ts ≡ map (window_at asks v) ts
same_acts asks v u [] all = refl
same_acts asks v u (t ∷ ts) all =
    ap (λ (acts : List (List ℕ)). record { request = asks t; acts = acts } ∷ map (window_at asks u) ts) all.0
    ∙ ap (λ (ws : List Window). window_at asks v t ∷ ws) (same_acts asks v u ts all.1)

module _ (g : Sides) (fixed : Fixed) (p : Pipes) (v : Windows) (asks : ℕ → Request) (w : World) (h : HasHighAsks g fixed p v asks w)
    (new : HasHighAsks g fixed p (after_event fixed w v) asks (controller_next fixed w)) (k : CancelledAreTold g w v asks) where
  module _ (i : ℕ) (z : Endpoint) (here : slice_get w.driver.endpoints i ≡ Some z) (control : is_control z.desc.kind ≡ true)
      (on : g.asks (queued_desc z.desc) ≡ true) (off : z.cancelled ≡ true) where
    abbrev u : Endpoint
    u = queued_endpoint z

    told_here : slice_get (queued w.driver).endpoints i ≡ Some (queued_endpoint z)
    told_here = get_queued w.driver.endpoints i z here

    still_asked : g.asks (queued_endpoint z).desc ≡ true
    still_asked = ap (λ (u : Endpoint). g.asks u.desc) (told g fixed p v asks w h i z here control on) ∙ on

    quiet : IsLeftAlone fixed (told_world w) (controller_next fixed (told_world w)) (queued_endpoint z)
        → acted_by fixed w (controller_next fixed w) i ≡ []
    quiet waits =
        ap (λ (o : Option Endpoint). acted_with (side_of fixed w o) (side_of fixed (controller_next fixed w) o)) here
        ∙ none_acts fixed w (controller_next fixed w) z
        (record {
          device = waits.device;
          before = subst (λ (n : EpName). control_of (wired fixed w) n.addr n.num ≡ Some waits.device) (name_same z) waits.before;
          after = subst (λ (n : EpName). control_of (wired fixed (controller_next fixed w)) n.addr n.num ≡ Some waits.device) (name_same z)
              waits.after;
        })

    -- the device of one that left stays as it is
    left : may_meet (queued w.driver) i (queued_endpoint z) ≡ false → IsToldBefore w.driver asks (after_event fixed w v) g.whole i z
    left unmet =
        let gone : has_left g (queued w.driver) i ≡ true =
        ap (left_with g (queued w.driver) i) told_here ∙ ap (λ (b : Bool). b && not (may_meet (queued w.driver) i u)) still_asked
        ∙ ap not unmet in
        let waits = left_waits fixed p h.standing h.lines h.heads w h.piped (foot g fixed p v asks w h) g h.asking v asks h.head h.suited
        h.world i u gone told_here in
        let none : acted_by fixed w (controller_next fixed w) i ≡ [] = quiet waits in
        lines_stay w.driver w.driver asks asks v (after_event fixed w v) g.whole i z z (all_stored g fixed p v asks w h) refl
        (same_acts asks v (after_event fixed w v) (numbers_of w.driver i)
        (all_map _ _ (λ t of. quiet_acts w.driver (begun_by w) (acted_by fixed w (controller_next fixed w)) v t
        (λ e is. ap (acted_by fixed w (controller_next fixed w)) (same_Some e i (sym is ∙ of)) ∙ none))
        (numbers_of w.driver i) (numbers_are w.driver i)))
        (record { lines = refl; bytes = []; store = sym (append-nil w.driver.store) })
        (k.each i z here control on off)

    by_walk : (b : Bool) → may_meet (queued w.driver) i (queued_endpoint z) ≡ b
        → IsToldBefore w.driver asks (after_event fixed w v) g.whole i z
    by_walk true near = met_is_told g fixed p (after_event fixed w v) asks (controller_next fixed w) new i z here control on near
    by_walk false unmet = left unmet

  pub controlled : CancelledAreTold g (controller_next fixed w) (after_event fixed w v) asks
  controlled = record {
    each = λ i z here control on off. by_walk i z here control on off (may_meet (queued w.driver) i (queued_endpoint z)) refl;
  }

pub controller_keeps_cancelled : ControllerKeepsCancelled
controller_keeps_cancelled g fixed p v asks w h new k = controlled g fixed p v asks w h new k
