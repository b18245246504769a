-- A command leaves what is told of control endpoints that left the ring, and of those that were given back.
use Rattle.std.proofs.Common.{◌≡◌, ◌≢◌, ℕ, zero, suc, ◌+◌, ◌*◌, ◌<◌, ◌&&◌, Bool, true, false, if◌then◌else◌, List, [], ◌∷◌, ◌++◌, length}
use Rattle.std.proofs.Common.{map}
use Rattle.std.proofs.Common.{slice_get, Some, None, Result, Ok, Err, ap, refl, sym, subst, ◌∙◌, ⊎_elim, arith}
use Rattle.std.specs.Prelude.{replicate}
use Rattle.std.specs.List.{AllByRecursion}
use Rattle.std.proofs.lemmas.Bool.{true≢false}
use Rattle.std.proofs.lemmas.Option.{same_Some}
use Rattle.std.proofs.lemmas.List.{append-nil, map-append, length-map}
use Rattle.law_common.proofs.Booleans.{off_by}
use Rattle.law_common.proofs.Lists.{push_which, all_alike}
use Rattle.law_common.proofs.Numbers.{other_number}
use Rattle.law_descriptors.proofs.Returning.{none_some}
use Rattle.law_driver.proofs.Common.{get_queued}
use Rattle.law_microframes.proofs.Common.{idle_by}
use Rattle.law_queues.proofs.Common.{set_which}
use Rattle.law_reports.proofs.Common.{queue_open}
use Rattle.usb_base.specs.declared.commands.Cmd.{Cmd}
use Rattle.usb_base.specs.declared.commands.Cmd.TheVariants as commands
use Rattle.usb_base.specs.declared.endpoints.EpDesc.{EpDesc}
use Rattle.usb_base.specs.declared.endpoints.EpName.{EpName}
use Rattle.usb_base.specs.declared.reports.OfferError.{OfferError}
use Rattle.usb_base.specs.declared.reports.What.TheVariants.{Refused}
use Rattle.bus_wire.specs.Bus.{Fixed}
use Rattle.bus_wire.specs.Fates.{is_same_name}
use Rattle.claims_report.specs.Requests.{Request}
use Rattle.claims_world.specs.Requests.{Windows, numbers_of, numbers_from, asks_then}
use Rattle.drv_table.specs.declared.content.Command.TheVariants as unfinished
use Rattle.drv_table.specs.declared.content.Endpoint.{Endpoint}
use Rattle.drv_table.specs.declared.content.Transfer.{Transfer}
use Rattle.drv_table.specs.Accepting.{Offered, new_runs}
use Rattle.drv_table.specs.DriverContent.{DriverContent}
use Rattle.drv_table.specs.Kinds.{is_iso}
use Rattle.drv_table.specs.Offers.{offered, Asked}
use Rattle.drv_table.specs.Words.{is_control}
use Rattle.law_driver.specs.endpoint_lives.Lives.{may_meet}
use Rattle.law_driver.specs.queued_drivers.Queued.{queued_desc, with_queue, queued_endpoint, queued}
use Rattle.law_driver.specs.queued_drivers.Rows.{TellsAlike}
use Rattle.law_driver.proofs.lemmas.queued_drivers.CommandLeaves.{unchained}
use Rattle.law_driver.proofs.lemmas.queued_drivers.CommandReasons.{in_ring, in_frames, bare, IsTakenOn, from_ring, from_frames}
use Rattle.law_driver.proofs.lemmas.queued_drivers.CommandReasons.{IsReasonOf, reason_of}
use Rattle.law_driver.proofs.lemmas.queued_drivers.RowEvents.{idle_told}
use Rattle.law_driver.proofs.lemmas.run_owners.Commands.{each_command_has_its_reason}
use Rattle.law_queues.proofs.lemmas.told_endpoints.Lines.{line_of_other}
use Rattle.law_driver_ring.specs.fed_queues.Places.{IsThere}
use Rattle.law_world.specs.memory.Mixed.{Standing, IsMixedAt}
use Rattle.law_world.proofs.lemmas.streams.lemmas.put_laws.Stays.{owner_at, owners_in}
use Rattle.bus_world.specs.World.{World, refused_line, name_in, commanded_by}
use Rattle.law_reports.specs.lines.Lined.{in_hand}
use Rattle.law_reports.specs.pipes.Declared.{Sides as Pipes}
use Rattle.law_reports.proofs.lemmas.pipes.Accepted.{EndsThen, one_more, one_anew, ends_then}
use Rattle.law_reports.specs.requests.Asking.{Sides}
use Rattle.law_reports.specs.requests.HighAsking.{HasHighAsks}
use Rattle.law_reports.specs.requests.LeftStays.{HasLeft}
use Rattle.law_reports.proofs.lemmas.requests.CancelledTold.{told as told_as}
use Rattle.law_reports.proofs.lemmas.requests.HighDevices.{control_iso}
use Rattle.law_reports.proofs.lemmas.requests.Lists.{all_map}
use Rattle.law_reports.proofs.lemmas.requests.lemmas.told_requests.Adding.{descriptors_owned}
use Rattle.law_reports.proofs.lemmas.requests.lemmas.told_requests.Agreeing.{numbers_in, by_owners, numbers_join, numbers_none}
use Rattle.law_reports.proofs.lemmas.requests.lemmas.told_requests.Agreeing.{requests_alike}
use Rattle.law_reports.specs.requests.LeftTold.{RequestHasBegun, WaitHasBegun, IsLeftToTell, AreLeftToTell, AreCancelsTold}
use Rattle.law_reports.proofs.lemmas.requests.LeftCancels.{IsToldOrNot, stays_told}
use Rattle.law_reports.proofs.lemmas.requests.LeftCommands.{command_leaves}
use Rattle.law_reports.proofs.lemmas.requests.LeftKept.{still_to_tell}
use Rattle.law_reports.proofs.lemmas.requests.LeftLines.{LinesStay, same_lines}
use Rattle.law_reports.proofs.lemmas.requests.LeftWas.{far_of}

ok_is : {p q : Offered} → ◌≡◌ {A = Result Offered OfferError} (Ok p) (Ok q) → q ≡ p
ok_is e = cc

-- ---- the requests of transfers that are there

below_length : (ts : List Transfer) (u : ℕ) (y : Transfer) → slice_get ts u ≡ Some y → u < length ts
below_length [] u y here = absurd cc
below_length (t ∷ ts) zero y here = omega arith
below_length (t ∷ ts) (suc u) y here = let less = below_length ts u y here in omega (arith, less)

pub asked_as_before : (d : DriverContent) (cmd : Cmd) (asks : ℕ → Request) (u : ℕ) → u < length d.transfers
    → asks_then d cmd asks u ≡ asks u
asked_as_before d (commands.Control name setup bytes) asks u less =
    ap (λ (b : Bool). if b then record { setup = setup; bytes = bytes } else asks u)
    (other_number u (length d.transfers) (λ same. let is = same in omega (arith, less, is)))
asked_as_before d (commands.OpenEp x) asks u less = refl
asked_as_before d (commands.Get name len by) asks u less = refl
asked_as_before d (commands.Put name bytes by) asks u less = refl
asked_as_before d (commands.Iso name count len seed) asks u less = refl
asked_as_before d (commands.Cancel name) asks u less = refl
asked_as_before d _ asks u less = refl

-- ---- the lines of a refusal are nobody's

no_line : (b : Bool) → (b && false) ≡ false
no_line true = refl
no_line false = refl

pub refused_lines : (d : DriverContent) (line : ℕ) (given name : EpName) (why : OfferError)
    → LinesStay d (refused_line d line given why) name
refused_lines d line given name why = record {
  lines = line_of_other name d.reports (record { name = given; what = Refused line why; from = length d.store; len = 0 })
      (no_line (is_same_name given name));
  bytes = [];
  store = sym (append-nil d.store);
}

-- ---- one that left

module _ (g : Sides) (fixed : Fixed) (p : Pipes) (v : Windows) (asks : ℕ → Request) (w : World) (h : HasHighAsks g fixed p v asks w)
    (line : ℕ) (cmd : Cmd) where
  abbrev s : Standing
  s = h.standing

  k : IsMixedAt h.standing w
  k = h.piped.mixed

  abbrev now : ℕ → Request
  now = asks_then w.driver cmd asks

  many : length (queued w.driver).transfers ≡ length w.driver.transfers
  many = length-map w.driver.transfers _

  asked_now : (i : ℕ) (x : Endpoint) → IsLeftToTell g h.standing asks (queued w.driver) i x
      → IsLeftToTell g h.standing now (queued w.driver) i x
  asked_now i x told = record {
    uncancelled = told.uncancelled;
    owed = told.owed;
    rest = λ going.
        let r = told.rest going in
        record {
          reported = r.reported;
          waits = r.waits;
          numbers = r.numbers;
          many = r.many;
          wait = r.wait;
          each = all_map (WaitHasBegun (queued w.driver) (in_hand s) s.parts (32 * x.queue) i (g.whole x.desc.name) asks)
              (WaitHasBegun (queued w.driver) (in_hand s) s.parts (32 * x.queue) i (g.whole x.desc.name) now)
              (λ u b. record {
                own = b.own;
                waits = b.waits;
                begun = subst (RequestHasBegun (in_hand s) s.parts (32 * x.queue) w.driver.notes (g.whole x.desc.name) b.own)
                    (sym (asked_as_before w.driver cmd asks u
                    (let less = below_length (queued w.driver).transfers u b.own b.waits.here in let same = many in omega
                    (arith, less, same))))
                    b.begun;
              }) r.waits r.each;
        };
  }

  module _ (to : AreLeftToTell g h.standing asks w) (r : Result Offered OfferError) (is : offered w.driver w.memory cmd ≡ r)
      (later : IsMixedAt h.standing (commanded_by w line (name_in cmd) r)) where
    lines_by : (q : Result Offered OfferError) → offered w.driver w.memory cmd ≡ q → (name : EpName)
        → LinesStay w.driver (commanded_by w line (name_in cmd) q).driver name
    lines_by (Err why) same name = refused_lines w.driver line (name_in cmd) name why
    lines_by (Ok o) same name =
        let t = tells_of (ends_then w.driver w.memory o cmd (reason_of w.driver w.memory cmd o same)) in
        same_lines w.driver o.driver name t.reports t.store
      where
        tells_of : EndsThen w.driver o.driver cmd → TellsAlike w.driver o.driver
        tells_of (one_more x asked ends kept newest tells) = tells
        tells_of (one_anew e y x at ends comes kept never tells) = tells

    closed_by : (q : Result Offered OfferError) → offered w.driver w.memory cmd ≡ q → (i : ℕ) (z : Endpoint)
        → HasLeft (queued (commanded_by w line (name_in cmd) q).driver) i z
        → (x : Endpoint) → z.queue ≡ x.queue → (queued w.driver).command ≡ Some (unfinished.Open x.queue) → ⊥
    closed_by (Err why) same i z left x queue opening = left.there.linked (opening ∙ queue_open x.queue z.queue (sym queue))
    closed_by (Ok o) same i z left x queue opening =
        none_some (unfinished.Open x.queue)
        (sym (idle_told w.driver (idle_by w.driver w.memory o (each_command_has_its_reason w.driver w.memory cmd o same))) ∙ opening)

    pub left_commanded : AreLeftToTell g h.standing now (commanded_by w line (name_in cmd) r)
    left_commanded = record {
      each = λ i z left on.
          let l = command_leaves s w k i z line cmd r is left in
          let x : Endpoint = l.was.endpoint in
          let there : IsThere (queued w.driver) x = record {
            linked = closed_by r is i z left x l.was.queue;
            kept = sym l.was.gone
                ∙ left.there.kept;
          } in
          let far : s.near (32 * z.queue) ≡ false = far_of s (commanded_by w line (name_in cmd) r) later i z left in
          let before : HasLeft (queued w.driver) i x = record {
            here = l.was.here;
            there = there;
            unmet = off_by (may_meet (queued w.driver) i x) (λ near.
                true≢false (sym (k.queues.queues.met.each i x l.was.here (record { there = there; near = near }))
                ∙ ap (λ (q : ℕ). s.near (32 * q)) (sym l.was.queue) ∙ far));
          } in
          still_to_tell g s s now (queued w.driver) (queued (commanded_by w line (name_in cmd) r).driver) i z l
          (lines_by r is z.desc.name).lines (λ u b y waits one xs told. told)
          (asked_now i x (to.each i x before (ap g.asks (sym l.was.desc) ∙ on)));
    }

  -- ---- one that was given back

  module _ (told : AreCancelsTold g asks w) where
    numbers_added : (f : DriverContent) (more : List ℕ) (e : ℕ) → owners_in f ≡ owners_in w.driver ++ more
        → AllByRecursion (λ u. u ≢ e) more → numbers_of f e ≡ numbers_of w.driver e
    numbers_added f more e are others =
        by_owners e 0 f.transfers ∙ ap (numbers_in e 0) are ∙ numbers_join e 0 (owners_in w.driver) more
        ∙ ap (λ (ns : List ℕ). numbers_in e 0 (owners_in w.driver) ++ ns) (numbers_none e (0 + length (owners_in w.driver)) more others)
        ∙ append-nil (numbers_in e 0 (owners_in w.driver)) ∙ sym (by_owners e 0 w.driver.transfers)

    same_asks : (e : ℕ) → map now (numbers_of w.driver e) ≡ map asks (numbers_of w.driver e)
    same_asks e =
        ap (map now) (by_owners e 0 w.driver.transfers)
        ∙ requests_alike asks now e 0 (owners_in w.driver)
        (λ t less. asked_as_before w.driver cmd asks t
        (let long = length-map w.driver.transfers owner_at in omega (arith, less, long)))
        ∙ sym (ap (map asks) (by_owners e 0 w.driver.transfers))

    module _ (e : ℕ) (y z : Endpoint) (here : slice_get w.driver.endpoints e ≡ Some y) (desc : z.desc ≡ y.desc)
        (gone : y.gone ≡ true) (control : is_control z.desc.kind ≡ true) (on : g.asks (queued_desc z.desc) ≡ true) where
      still_told : (f : DriverContent) → LinesStay w.driver f z.desc.name → numbers_of f e ≡ numbers_of w.driver e
          → IsToldOrNot f now e z.desc.name (g.whole z.desc.name)
      still_told f lines numbers =
          stays_told w.driver f asks now e z.desc.name (g.whole z.desc.name) lines numbers (same_asks e)
          (subst (λ (c : EpDesc). IsToldOrNot w.driver asks e c.name (g.whole c.name)) (sym desc)
          (told.each e y here (ap (λ (c : EpDesc). is_control c.kind) (sym desc) ∙ control)
          (ap (λ (c : EpDesc). g.asks (queued_desc c)) (sym desc) ∙ on) gone))

      over : y.ended ≢ None
      over none =
          let as_queue : queued_endpoint y ≡ with_queue y = told_as g fixed p v asks w h e y here (ap
          (λ (c : EpDesc). is_control c.kind) (sym desc) ∙ control)
          (ap (λ (c : EpDesc). g.asks (queued_desc c)) (sym desc) ∙ on) in
          let stands = k.turns.turns.asynchronous.endpoints e (queued_endpoint y) (get_queued w.driver.endpoints e y here) in
          stands.ended (stands.unlinked (stands.gone (ap (λ (x : Endpoint). x.gone) as_queue ∙ gone)))
          (ap (λ (x : Endpoint). x.ended) as_queue ∙ none)

      -- no transfer more is one of it
      module _ (o : Offered) where
        none_more : o.driver.transfers ≡ w.driver.transfers → numbers_of o.driver e ≡ numbers_of w.driver e
        none_more same = ap (numbers_from e 0) same

        taken : (name : EpName) (takes : Endpoint → Bool) (a : Asked) → IsTakenOn w.driver w.memory o name takes a
            → numbers_of o.driver e ≡ numbers_of w.driver e
        taken name takes a r =
            let is = ok_is r.is in
            numbers_added o.driver (r.number ∷ []) e
            (ap (λ (q : Offered). owners_in q.driver) is ∙ map-append owner_at w.driver.transfers _) (
              (λ own. over (ap (λ (x : Endpoint). x.ended) (same_Some y r.endpoint (sym here
                  ∙ ap (slice_get w.driver.endpoints) (sym own) ∙ r.here))
                  ∙ r.goes_on)),
              tt,
            )

        numbers_by : (c : Cmd) → IsReasonOf w.driver w.memory o c → numbers_of o.driver e ≡ numbers_of w.driver e
        numbers_by (commands.OpenEp x) (in_ring r same) = none_more (ap (λ (q : Offered). q.driver.transfers) r.is)
        numbers_by (commands.OpenEp x) (in_frames r same) = none_more (ap (λ (q : Offered). q.driver.transfers) r.is)
        numbers_by (commands.OpenEp x) (bare r same) = none_more (ap (λ (q : Offered). q.driver.transfers) r.is)
        numbers_by (commands.Get name len by) r = taken _ _ _ r
        numbers_by (commands.Put name bytes by) r = taken _ _ _ r
        numbers_by (commands.Control name setup bytes) r = taken _ _ _ r
        numbers_by (commands.Iso name count len seed) r =
            numbers_added o.driver (replicate r.count r.number) e
            (ap (λ (q : Offered). owners_in q.driver) r.is
            ∙ descriptors_owned r.holding_after.book r.number r.endpoint.desc r.slots r.count r.seed (new_runs w.driver r.holding_after) _)
            (all_map (λ u. u ≡ r.number) (λ u. u ≢ e)
            (λ u same own.
            control_iso z.desc.kind control
            (ap (λ (c : EpDesc). is_iso c.kind)
            (desc ∙ ap (λ (x : Endpoint). x.desc) (same_Some y r.endpoint (sym here ∙ ap (slice_get w.driver.endpoints) (sym own
            ∙ same) ∙ r.here)))
            ∙ r.isochronous)) (replicate r.count r.number) (all_alike (λ u. u ≡ r.number) r.count r.number refl))
        numbers_by (commands.Cancel name) (from_ring r same) = none_more (ap (λ (q : Offered). q.driver.transfers) r.is)
        numbers_by (commands.Cancel name) (from_frames r same) =
            none_more (ap (λ (d : DriverContent). d.transfers) (unchained w.driver w.memory o r).is)
        numbers_by _ r = absurd r

        accepted_told : TellsAlike w.driver o.driver → IsReasonOf w.driver w.memory o cmd
            → IsToldOrNot o.driver now e z.desc.name (g.whole z.desc.name)
        accepted_told tells reason =
            still_told o.driver (same_lines w.driver o.driver z.desc.name tells.reports tells.store) (numbers_by cmd reason)

    accepted : (o : Offered) → EndsThen w.driver o.driver cmd → IsReasonOf w.driver w.memory o cmd → (e : ℕ) (z : Endpoint)
        → slice_get o.driver.endpoints e ≡ Some z → is_control z.desc.kind ≡ true → g.asks (queued_desc z.desc) ≡ true → z.gone ≡ true
        → IsToldOrNot o.driver now e z.desc.name (g.whole z.desc.name)
    accepted o (one_more x asked ends kept newest tells) reason e z there control on gone =
        ⊎_elim {C = IsToldOrNot o.driver now e z.desc.name (g.whole z.desc.name)}
        (λ (at : slice_get w.driver.endpoints e ≡ Some z). accepted_told e z z at refl gone control on o tells reason)
        (λ (own : (e ≡ length w.driver.endpoints) × (z ≡ x)).
        absurd (true≢false (sym gone ∙ ap (λ (u : Endpoint). u.gone) own.1 ∙ kept)))
        (push_which w.driver.endpoints x e z (ap (λ (xs : List Endpoint). slice_get xs e) (sym ends) ∙ there))
    accepted o (one_anew i y x at ends comes kept never tells) reason e z there control on gone =
        ⊎_elim {C = IsToldOrNot o.driver now e z.desc.name (g.whole z.desc.name)}
        (λ (own : (e ≡ i) × (z ≡ x)).
        accepted_told e y z (ap (slice_get w.driver.endpoints) own.0 ∙ at) (ap (λ (u : Endpoint). u.desc) own.1 ∙ comes.desc)
        (sym kept ∙ ap (λ (u : Endpoint). u.gone) (sym own.1) ∙ gone) control on o tells reason)
        (λ (other : (e ≢ i) × (slice_get w.driver.endpoints e ≡ Some z)). accepted_told e z z other.1 refl gone control on o tells reason)
        (set_which w.driver.endpoints i e y x z at (ap (λ (xs : List Endpoint). slice_get xs e) (sym ends) ∙ there))

    pub cancels_commanded : (r : Result Offered OfferError) → offered w.driver w.memory cmd ≡ r
        → AreCancelsTold g now (commanded_by w line (name_in cmd) r)
    cancels_commanded (Ok o) is = record {
      each = λ e z there control on gone.
          let reason = reason_of w.driver w.memory cmd o is in
          accepted o (ends_then w.driver w.memory o cmd reason) reason e z there control on gone;
    }
    cancels_commanded (Err why) is = record {
      each = λ e z there control on gone.
          still_told e z z there refl gone control on (refused_line w.driver line (name_in cmd) why)
          (refused_lines w.driver line (name_in cmd) z.desc.name why) refl;
    }
