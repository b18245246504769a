-- What moved of each endpoint that left began its stream, after each event of the driver; and so does what is told of one that was given
-- back.
use Rattle.std.proofs.Common.{◌≡◌, ◌≢◌, ℕ, ◌*◌, Bool, true, false, List, [], ◌++◌, slice_get, Some, option_map, ap, refl, sym, subst}
use Rattle.std.proofs.Common.{◌∙◌, ⊎_elim}
use Rattle.std.specs.List.{concat}
use Rattle.std.proofs.lemmas.Bool.{cases_Bool, cases_eq, true≢false}
use Rattle.std.proofs.lemmas.Option.{same_Some}
use Rattle.law_reports.proofs.Common.{one_way, no_iso, queue_open}
use Rattle.law_driver.proofs.Common.{of_queue, get_queued}
use Rattle.law_queues.proofs.Common.{not_open}
use Rattle.law_common.proofs.Numbers.{same_blocks}
use Rattle.law_world.proofs.Common.{same_queue, begins_both}
use Rattle.usb_base.specs.declared.endpoints.EpDesc.{EpDesc}
use Rattle.usb_base.specs.declared.endpoints.EpName.{EpName}
use Rattle.usb_base.specs.declared.packets.Way.{Way}
use Rattle.usb_base.specs.declared.packets.Way.TheVariants as ways
use Rattle.usb_base.specs.declared.reports.Report.{Report}
use Rattle.bus_wire.specs.Bus.{Fixed}
use Rattle.claims_base.specs.Prefix.{IsPrefix}
use Rattle.claims_report.specs.Streams.{told_in, has_stream}
use Rattle.drv_table.specs.declared.content.Command.TheVariants as unfinished
use Rattle.drv_table.specs.declared.content.Endpoint.{Endpoint}
use Rattle.drv_table.specs.DriverContent.{DriverContent}
use Rattle.drv_table.specs.Kinds.{is_iso}
use Rattle.drv_table.specs.Releases.{is_told}
use Rattle.drv_table.specs.Rows.{driver_row}
use Rattle.law_controller.specs.controlled_streams.Reported.{IsReported}
use Rattle.law_driver.specs.queued_drivers.Queued.{queued_endpoint, queued}
use Rattle.law_driver.specs.queued_drivers.Rows.{TellsAlike}
use Rattle.law_driver.proofs.lemmas.queued_drivers.CommandFields.{desc_same, name_same}
use Rattle.law_driver.proofs.lemmas.run_owners.Reasons.{each_event_is_due}
use Rattle.law_driver_ring.specs.fed_queues.Places.{IsThere}
use Rattle.law_queues.specs.leaving_drivers.Before.{WasSame, IsAsBefore}
use Rattle.law_queues.specs.leaving_drivers.Told.{told_to}
use Rattle.law_queues.specs.open_laws.Queues.{IsOpenThere}
use Rattle.law_queues.specs.told_endpoints.Telling.{named_of, lines_in, IsToldTo}
use Rattle.law_world.specs.streams.Feeding.{there_of}
use Rattle.law_world.specs.streams.left_reports.Leaver.{IsToldGone}
use Rattle.law_world.proofs.lemmas.streams.Told.{there_on}
use Rattle.law_world.specs.memory.Mixed.{Standing, IsMixedAt}
use Rattle.law_world.specs.memory.Steps.{told_parts, IsGivenBack, given_by, IsWithout}
use Rattle.law_world.specs.memory.Steps.{QueueStep}
use Rattle.law_world.specs.memory.pipe_steps.Laws.{IsNoOpening}
use Rattle.law_world.proofs.lemmas.memory.RingReleasing.{was}
use Rattle.law_reports.specs.lines.Lined.{in_hand, Lines}
use Rattle.law_reports.specs.lines.TellingLaws.{LinesAfter, IsNewlyTold}
use Rattle.law_reports.proofs.lemmas.lines.IsoGoing.{AreApart, told_apart}
use Rattle.law_reports.proofs.lemmas.lines.ToldGoes.{gone_told, gone_tells, gone_before}
use Rattle.bus_world.specs.World.{World, driver_parts, driver_next}
use Rattle.law_reports.specs.pipes.Declared.{Sides}
use Rattle.law_reports.specs.pipes.Piped.{Heads, IsOpening, AreLeft, IsPiped}
use Rattle.law_reports.proofs.lemmas.pipes.Across.{WasIn}
use Rattle.law_reports.proofs.lemmas.pipes.Driven.{was_end}
use Rattle.law_reports.proofs.lemmas.pipes.DrivenSteps.{none_more}
use Rattle.law_reports.proofs.lemmas.pipes.GoneLines.{gone_lines, row_tells}
use Rattle.law_reports.proofs.lemmas.pipes.Leaving.{IsNoReturn, step_keeps, step_opens}
use Rattle.law_reports.proofs.lemmas.pipes.Names.{queue_same, kept_as}

-- ---- kinds

module _ (fixed : Fixed) (x : Sides) (s : Standing) (m : Lines) (h : Heads) (w : World) (k : IsPiped fixed x s m h w) where
  -- ---- what is told of one that is there begins what moved of it

  module _ (e : ℕ) (y : Endpoint) (here : slice_get w.driver.endpoints e ≡ Some y) (stream : has_stream y.desc.kind ≡ true)
      (other : y.desc.name.way ≢ ways.Ctl) (there : IsThere (queued w.driver) (queued_endpoint y)) where
    at : slice_get (queued w.driver).endpoints e ≡ Some (queued_endpoint y)
    at = get_queued w.driver.endpoints e y here

    streams : has_stream (queued_endpoint y).desc.kind ≡ true
    streams = ap (λ (c : EpDesc). has_stream c.kind) (desc_same y) ∙ one_way y.desc.name.way other

    to : IsToldTo w.driver.reports w.driver.store (named_of (queued_endpoint y)) (k.telling.told.held e) (k.telling.told.told e)
    to = k.telling.told.tells.each e (named_of (queued_endpoint y)) (ap (option_map named_of) at) streams

    moved : IsPrefix (k.telling.told.told e) (concat (m.acc (32 * y.queue)))
    moved =
        let n : ℕ = 32 * y.queue in
        let r : IsReported (s.order (32 * y.queue)) (s.out (32 * y.queue)) (in_hand s) s.parts (32 * y.queue) (m.acc (32 * y.queue))
        (m.reported (32 * y.queue)) =
        k.telling.moved n (ap (λ (b : ℕ). there_of (queued w.driver) (32 * b)) (sym (queue_same y))
        ∙ there_on (queued w.driver) e (queued_endpoint y) at there streams) in
        subst (λ (xs : List ℕ). IsPrefix xs (concat (m.acc (32 * y.queue))))
        (sym (k.telling.told.met e (queued_endpoint y) at there ∙ ap (λ (b : ℕ). m.reported (32 * b)) (queue_same y))) (r.told, r.sum)

    pub told_first : IsPrefix (told_to w.driver y.desc.name) (concat (m.acc (32 * y.queue)))
    told_first =
        begins_both (told_to w.driver y.desc.name) (k.telling.told.told e) (concat (m.acc (32 * y.queue))) (
          k.telling.told.held e,
          ap (λ (n : EpName). told_to w.driver n ++ k.telling.told.held e) (sym (name_same y)) ∙ to.sum,
        ) moved

  -- ---- the lines of those that were given back stay

  apart : AreApart w.driver
  apart = told_apart w.driver (in_hand s) s.parts m.reported k.telling.told

  stays_told : (i : ℕ) (y : Endpoint) → slice_get w.driver.endpoints i ≡ Some y → y.gone ≡ true
      → told_to (driver_next w).driver y.desc.name ≡ told_to w.driver y.desc.name
  stays_told =
      gone_lines w.driver (driver_next w).driver apart k.telling.told.tells.stored
      (row_tells (driver_parts w) (driver_row (driver_parts w)) k.mixed.now.framed.place.sound.owners k.mixed.turns
      (each_event_is_due (driver_parts w)))

  -- ---- an endpoint that is there was so, or its open ends

  pub there_by : (e : ℕ) (z : Endpoint) (v : WasIn w.driver.endpoints e z) → (queued_endpoint z).gone ≡ false
      → ((queued w.driver).command ≡ Some (unfinished.Open v.endpoint.queue) → ⊥) → IsThere (queued w.driver) (queued_endpoint v.endpoint)
  there_by e z v kept never =
      let its = kept_as z kept in
      let iso : is_iso v.endpoint.desc.kind ≡ false = ap (λ (c : EpDesc). is_iso c.kind) (sym v.comes.desc) ∙ its.1 in
      record {
        linked = λ is. never (is ∙ queue_open (queued_endpoint v.endpoint).queue v.endpoint.queue (queue_same v.endpoint));
        kept = ap (λ (u : Endpoint). u.gone) (of_queue v.endpoint iso) ∙ v.comes.alive its.0;
      }

  -- ---- one way

  module _ (way : Way) (has : ℕ → ℕ → Bool) (P : ℕ → ℕ → List ℕ → Type 0) (one_is : way ≢ ways.Ctl)
      (less : (addr ep : ℕ) (bytes more : List ℕ) → IsPrefix bytes more → P addr ep more → P addr ep bytes)
      (streams_are : (e : ℕ) (y : Endpoint) → slice_get w.driver.endpoints e ≡ Some y → y.desc.name.way ≡ way
      → has y.desc.name.addr y.desc.name.num ≡ true → has_stream y.desc.kind ≡ true)
      (begun : (e : ℕ) (y : Endpoint) → slice_get w.driver.endpoints e ≡ Some y → y.desc.name.way ≡ way
      → has y.desc.name.addr y.desc.name.num ≡ true → IsThere (queued w.driver) (queued_endpoint y)
      → P y.desc.name.addr y.desc.name.num (concat (m.acc (32 * y.queue))))
      (new_begins : (e : ℕ) (y : Endpoint) → slice_get w.driver.endpoints e ≡ Some y → y.desc.name.way ≡ way
      → has y.desc.name.addr y.desc.name.num ≡ true → IsOpening w.driver y → P y.desc.name.addr y.desc.name.num [])
      (left : AreLeft w.driver m.acc way has P) (t : Standing) (step : QueueStep s w (driver_next w) t) where
    abbrev new : DriverContent
    new = (driver_next w).driver

    record IsOf (e : ℕ) (z : Endpoint) : Type 0 where
      v : WasIn w.driver.endpoints e z
      its_way : v.endpoint.desc.name.way ≡ way
      on : has v.endpoint.desc.name.addr v.endpoint.desc.name.num ≡ true

    of_it : (e : ℕ) (z : Endpoint) → slice_get (driver_next w).driver.endpoints e ≡ Some z → z.desc.name.way ≡ way
        → has z.desc.name.addr z.desc.name.num ≡ true → IsOf e z
    of_it e z here is on =
        let v = was_end fixed x s m h w k e z here in
        record {
          v = v;
          its_way = ap (λ (c : EpDesc). c.name.way) (sym v.comes.desc) ∙ is;
          on = ap (λ (c : EpDesc). has c.name.addr c.name.num) (sym v.comes.desc) ∙ on;
        }

    back_at : (e : ℕ) (z : Endpoint) (v : WasIn w.driver.endpoints e z) (bytes : ℕ → List ℕ)
        → P v.endpoint.desc.name.addr v.endpoint.desc.name.num (bytes v.endpoint.queue) → P z.desc.name.addr z.desc.name.num (bytes z.queue)
    back_at e z v bytes p =
        subst (λ (c : EpDesc). P c.name.addr c.name.num (bytes z.queue)) (sym v.comes.desc)
        (subst (λ (q : ℕ). P v.endpoint.desc.name.addr v.endpoint.desc.name.num (bytes q)) (sym v.comes.queue) p)

    -- ---- it left the ring

    pub unmet_then : (l : Lines) → LinesAfter step m l → IsNoOpening step → (e : ℕ) (z : Endpoint)
        → slice_get (driver_next w).driver.endpoints e ≡ Some z → z.desc.name.way ≡ way → has z.desc.name.addr z.desc.name.num ≡ true
        → IsThere (queued (driver_next w).driver) (queued_endpoint z)
        → P z.desc.name.addr z.desc.name.num (concat (l.acc (32 * z.queue)))
    unmet_then l after other e z here is on there =
        let o : IsOf e z = of_it e z here is on in
        let v : WasIn w.driver.endpoints e z = o.v in
        let was_there : IsThere (queued w.driver) (queued_endpoint v.endpoint) =
        there_by e z v there.kept (λ opening.
        there.linked (step_opens s w k.mixed t step other v.endpoint.queue opening
        ∙ queue_open v.endpoint.queue (queued_endpoint z).queue (sym v.comes.queue ∙ sym (queue_same z)))) in
        back_at e z v (λ q. concat (l.acc (32 * q)))
        (subst (λ (acc : ℕ → List (List ℕ)). P v.endpoint.desc.name.addr v.endpoint.desc.name.num (concat (acc (32 * v.endpoint.queue))))
        (sym (none_more s w (driver_next w) t step other m l after)) (begun e v.endpoint v.here o.its_way o.on was_there))

    -- ---- it was given back

    pub gone_still : (e : ℕ) (z : Endpoint) (v : WasIn w.driver.endpoints e z) → v.endpoint.desc.name.way ≡ way
        → has v.endpoint.desc.name.addr v.endpoint.desc.name.num ≡ true → v.endpoint.gone ≡ true
        → P z.desc.name.addr z.desc.name.num (told_to (driver_next w).driver z.desc.name)
    gone_still e z v is on gone =
        subst (λ (c : EpDesc). P c.name.addr c.name.num (told_to new c.name)) (sym v.comes.desc)
        (subst (P v.endpoint.desc.name.addr v.endpoint.desc.name.num) (sym (stays_told e v.endpoint v.here gone))
        (left.gone e v.endpoint v.here is on gone))

    pub gone_then : IsNoReturn step → (e : ℕ) (z : Endpoint) → slice_get (driver_next w).driver.endpoints e ≡ Some z
        → z.desc.name.way ≡ way → has z.desc.name.addr z.desc.name.num ≡ true → z.gone ≡ true
        → P z.desc.name.addr z.desc.name.num (told_to (driver_next w).driver z.desc.name)
    gone_then other e z here is on gone =
        let o : IsOf e z = of_it e z here is on in
        let v : WasIn w.driver.endpoints e z = o.v in
        let iso : is_iso v.endpoint.desc.kind ≡ false =
        no_iso v.endpoint.desc.kind (streams_are e v.endpoint v.here o.its_way o.on) in
        gone_still e z v o.its_way o.on
        (step_keeps s w k.mixed t step other e v.endpoint z v.here here iso (ap (λ (c : EpDesc). is_iso c.kind) v.comes.desc ∙ iso) gone)

    -- ---- the end of an open

    -- nothing moved of the one that was opened
    pub unmet_opened : (l : Lines) (at : IsOpenThere (queued w.driver) s.parts) → IsNewlyTold (32 * at.endpoint.queue) m l → (e : ℕ)
        (z : Endpoint) → slice_get (driver_next w).driver.endpoints e ≡ Some z → z.desc.name.way ≡ way
        → has z.desc.name.addr z.desc.name.num ≡ true → IsThere (queued (driver_next w).driver) (queued_endpoint z)
        → P z.desc.name.addr z.desc.name.num (concat (l.acc (32 * z.queue)))
    unmet_opened l at told e z here is on there = ⊎_elim itself another (cases_eq (32 * v.endpoint.queue) (32 * at.endpoint.queue))
      where
        o : IsOf e z
        o = of_it e z here is on

        v : WasIn w.driver.endpoints e z
        v = o.v

        itself : 32 * v.endpoint.queue ≡ 32 * at.endpoint.queue → P z.desc.name.addr z.desc.name.num (concat (l.acc (32 * z.queue)))
        itself same =
            let its = kept_as z there.kept in
            let opening : IsOpening w.driver v.endpoint = record {
              kept = v.comes.alive its.0;
              queue = ap (λ (c : EpDesc). is_iso c.kind) (sym v.comes.desc) ∙ its.1;
              command = at.command ∙ queue_open at.endpoint.queue v.endpoint.queue
                  (sym (same_blocks v.endpoint.queue at.endpoint.queue same));
            } in
            back_at e z v (λ q. concat (l.acc (32 * q)))
            (subst (λ (xs : List (List ℕ)). P v.endpoint.desc.name.addr v.endpoint.desc.name.num (concat xs))
            (sym (ap l.acc same ∙ told.none)) (new_begins e v.endpoint v.here o.its_way o.on opening))

        another : 32 * v.endpoint.queue ≢ 32 * at.endpoint.queue → P z.desc.name.addr z.desc.name.num (concat (l.acc (32 * z.queue)))
        another differs =
            let was_there : IsThere (queued w.driver) (queued_endpoint v.endpoint) =
            there_by e z v there.kept (λ opening.
            differs (ap (λ (q : ℕ). 32 * q) (same_queue v.endpoint.queue at.endpoint.queue (sym opening ∙ at.command)))) in
            back_at e z v (λ q. concat (l.acc (32 * q)))
            (subst (λ (xs : List (List ℕ)). P v.endpoint.desc.name.addr v.endpoint.desc.name.num (concat xs))
            (sym (told.moved (32 * v.endpoint.queue) differs)) (begun e v.endpoint v.here o.its_way o.on was_there))

    -- ---- an endpoint is given back

    module _ (e0 : ℕ) (x0 : Endpoint) (d0 : DriverContent) (back : IsGivenBack w (driver_next w) e0 x0 d0)
        (without : IsWithout s t (32 * x0.queue)) (mixed : IsMixedAt t (driver_next w)) where
      before : IsAsBefore (queued w.driver) d0
      before = gone_before s m w k.mixed k.telling e0 x0 d0 t back without mixed

      told_gone : IsToldGone d0 (given_by (told_parts w) e0 d0) e0 x0 (m.acc (32 * x0.queue))
      told_gone = gone_told s m w k.mixed k.telling e0 x0 d0 t back without mixed

      tells : TellsAlike (given_by (told_parts w) e0 d0) (queued (driver_next w).driver)
      tells = gone_tells s m w k.mixed k.telling e0 x0 d0 t back without mixed

      abbrev given : DriverContent
      given = given_by (told_parts w) e0 d0

      -- the one that is given back was there
      module _ (e : ℕ) (v : Endpoint) (here : slice_get w.driver.endpoints e ≡ Some v) (is : v.desc.name.way ≡ way)
          (on : has v.desc.name.addr v.desc.name.num ≡ true) (kept : v.gone ≡ false) (own : e ≡ e0) where
        stream : has_stream v.desc.kind ≡ true
        stream = streams_are e v here is on

        iso : is_iso v.desc.kind ≡ false
        iso = no_iso v.desc.kind stream

        other : v.desc.name.way ≢ ways.Ctl
        other its = one_is (sym is ∙ its)

        was_there : IsThere (queued w.driver) (queued_endpoint v)
        was_there = record {
          linked = not_open (queued w.driver).command (queued_endpoint v).queue before.idle;
          kept = ap (λ (u : Endpoint). u.gone) (of_queue v iso) ∙ kept;
        }

        its_old : WasSame (queued w.driver) e0 x0
        its_old = before.ends e0 x0 back.leaves.here

        it_is : its_old.endpoint ≡ queued_endpoint v
        it_is =
            same_Some its_old.endpoint (queued_endpoint v)
            (sym its_old.here ∙ ap (slice_get (queued w.driver).endpoints) (sym own) ∙ get_queued w.driver.endpoints e v here)

        desc_is : x0.desc ≡ (queued_endpoint v).desc
        desc_is = its_old.desc ∙ ap (λ (u : Endpoint). u.desc) it_is

        name_is : x0.desc.name ≡ v.desc.name
        name_is = ap (λ (c : EpDesc). c.name) desc_is ∙ name_same v

        queue_is : x0.queue ≡ v.queue
        queue_is = its_old.queue ∙ ap (λ (u : Endpoint). u.queue) it_is ∙ queue_same v

        x0_streams : has_stream x0.desc.kind ≡ true
        x0_streams = ap (λ (c : EpDesc). has_stream c.kind) (desc_is ∙ desc_same v) ∙ one_way v.desc.name.way other

        its_begun : P v.desc.name.addr v.desc.name.num (concat (m.acc (32 * v.queue)))
        its_begun = begun e v here is on was_there

        told_now : (b : Bool) → is_told x0 ≡ b → P v.desc.name.addr v.desc.name.num (told_to (given_by (told_parts w) e0 d0) x0.desc.name)
        told_now true told =
            subst (P v.desc.name.addr v.desc.name.num)
            (sym (told_gone.told x0_streams told ∙ ap (λ (q : ℕ). concat (m.acc (32 * q))) queue_is)) its_begun
        told_now false untold =
            subst (P v.desc.name.addr v.desc.name.num)
            (sym (told_gone.before untold ∙ ap (λ (n : EpName). told_to d0 n) name_is
            ∙ ap (λ (rs : List Report). told_in d0.store (lines_in v.desc.name rs)) before.reports
            ∙ ap (λ (bytes : List ℕ). told_in bytes (lines_in v.desc.name w.driver.reports)) before.store))
            (less v.desc.name.addr v.desc.name.num (told_to w.driver v.desc.name) (concat (m.acc (32 * v.queue)))
            (told_first e v here stream other was_there) its_begun)

        pub returned : P v.desc.name.addr v.desc.name.num (told_to (driver_next w).driver v.desc.name)
        returned =
            subst (P v.desc.name.addr v.desc.name.num)
            (sym (ap (λ (rs : List Report). told_in new.store (lines_in v.desc.name rs)) tells.reports
            ∙ ap (λ (bytes : List ℕ). told_in bytes (lines_in v.desc.name given.reports)) tells.store
            ∙ ap (λ (n : EpName). told_to given n) (sym name_is)))
            (told_now (is_told x0) refl)

      -- another one was so before
      another_was : (e : ℕ) (v z : Endpoint) → slice_get w.driver.endpoints e ≡ Some v
          → slice_get (driver_next w).driver.endpoints e ≡ Some z
          → is_iso v.desc.kind ≡ false → is_iso z.desc.kind ≡ false → e ≢ e0 → z.gone ≡ true → v.gone ≡ true
      another_was e v z here there iso also differs gone =
          let at_given : slice_get given.endpoints e ≡ Some (queued_endpoint z) =
          ap (λ (es : List Endpoint). slice_get es e) (sym back.told.endpoints) ∙ get_queued (driver_next w).driver.endpoints e z there in
          let at_d0 : slice_get d0.endpoints e ≡ Some (queued_endpoint z) =
          was (record (told_parts w) { driver = d0 }) e0 x0 back.leaves.here e (queued_endpoint z) at_given differs in
          let old : WasSame (queued w.driver) e (queued_endpoint z) = before.ends e (queued_endpoint z) at_d0 in
          let it_is : old.endpoint ≡ queued_endpoint v =
          same_Some old.endpoint (queued_endpoint v) (sym old.here ∙ get_queued w.driver.endpoints e v here) in
          ap (λ (u : Endpoint). u.gone) (sym (of_queue v iso)) ∙ ap (λ (u : Endpoint). u.gone) (sym it_is) ∙ sym old.gone
          ∙ ap (λ (u : Endpoint). u.gone) (of_queue z also) ∙ gone

      pub gone_returned : (e : ℕ) (z : Endpoint) → slice_get (driver_next w).driver.endpoints e ≡ Some z → z.desc.name.way ≡ way
          → has z.desc.name.addr z.desc.name.num ≡ true → z.gone ≡ true
          → P z.desc.name.addr z.desc.name.num (told_to (driver_next w).driver z.desc.name)
      gone_returned e z here is on gone =
          let o : IsOf e z = of_it e z here is on in
          let v : WasIn w.driver.endpoints e z = o.v in
          let iso : is_iso v.endpoint.desc.kind ≡ false =
          no_iso v.endpoint.desc.kind (streams_are e v.endpoint v.here o.its_way o.on) in
          ⊎_elim (λ (gone_before : v.endpoint.gone ≡ true). gone_still e z v o.its_way o.on gone_before)
          (λ (kept : v.endpoint.gone ≡ false).
          ⊎_elim
          (λ (own : e ≡ e0).
          subst (λ (c : EpDesc). P c.name.addr c.name.num (told_to new c.name)) (sym v.comes.desc)
          (returned e v.endpoint v.here o.its_way o.on kept own))
          (λ (differs : e ≢ e0).
          absurd (true≢false (sym
          (another_was e v.endpoint z v.here here iso (ap (λ (c : EpDesc). is_iso c.kind) v.comes.desc ∙ iso) differs gone)
          ∙ kept))) (cases_eq e e0))
          (cases_Bool v.endpoint.gone)
