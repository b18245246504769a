-- What the lines of a bulk or interrupt endpoint tell, by where the endpoint is: it was given back, it is being opened, or its queue is
-- there.
use Rattle.std.proofs.Common.{◌≡◌, ◌≢◌, ℕ, ◌*◌, true, false, List, [], ◌++◌, slice_get, Option, Some, None, option_map, ap, refl, sym}
use Rattle.std.proofs.Common.{subst, ◌∙◌, ⊎_elim}
use Rattle.std.specs.List.{concat}
use Rattle.std.proofs.lemmas.Bool.{cases_Bool}
use Rattle.std.proofs.lemmas.Option.{slice_get-map, same_Some}
use Rattle.law_reports.proofs.Common.{one_way, no_iso}
use Rattle.law_driver.proofs.Common.{of_queue, get_queued}
use Rattle.law_world.proofs.Common.{met_or_not}
use Rattle.usb_base.specs.declared.endpoints.EpDesc.{EpDesc}
use Rattle.usb_base.specs.declared.endpoints.EpName.{EpName}
use Rattle.usb_base.specs.declared.packets.Way.TheVariants as ways
use Rattle.claims_base.specs.Prefix.{IsPrefix}
use Rattle.bus_wire.specs.Fates.{is_same_name}
use Rattle.claims_report.specs.Streams.{told_in, has_stream}
use Rattle.drv_table.specs.declared.content.Endpoint.{Endpoint}
use Rattle.drv_table.specs.declared.content.Command.TheVariants as unfinished
use Rattle.drv_table.specs.DriverContent.{DriverContent}
use Rattle.law_controller.specs.controlled_streams.Reported.{IsReported}
use Rattle.law_driver.specs.queued_drivers.Queued.{queued_endpoint, queued}
use Rattle.law_driver.proofs.lemmas.queued_drivers.CommandFields.{desc_same, name_same}
use Rattle.law_driver_ring.specs.fed_queues.Places.{IsThere}
use Rattle.law_queues.specs.told_endpoints.Telling.{Named, named_of, named_in, lines_in, IsToldTo}
use Rattle.law_world.specs.streams.Feeding.{there_of}
use Rattle.law_world.proofs.lemmas.streams.Told.{there_on}
use Rattle.law_world.proofs.lemmas.streams.lemmas.right_reports.Named.{NoneNamed}
use Rattle.law_world.proofs.lemmas.streams.lemmas.right_reports.Right.{gone_told}
use Rattle.law_reports.specs.lines.Lined.{in_hand}
use Rattle.law_reports.specs.lines.TellingLaws.{IsToldWorld}
use Rattle.bus_world.specs.World.{World}

-- ---- one endpoint

module _ (w : World) (k : IsToldWorld w) where
  abbrev d : DriverContent
  d = queued w.driver

  -- by what is told of the endpoint e, which is x
  pub data IsTold (e : ℕ) (x : Endpoint) : Type 0 where
    told_then : x.gone ≡ true → k.telling.told.told e ≡ told_in w.driver.store (lines_in x.desc.name w.driver.reports) → IsTold e x
    told_none : k.telling.told.told e ≡ [] → IsTold e x
    told_there : IsThere (queued w.driver) (queued_endpoint x) → IsPrefix (k.telling.told.told e) (concat (k.lines.acc (32 * x.queue)))
        → IsTold e x

  module _ (e : ℕ) (x : Endpoint) (here : slice_get w.driver.endpoints e ≡ Some x) (stream : has_stream x.desc.kind ≡ true)
      (other : x.desc.name.way ≢ ways.Ctl) where
    abbrev q : Endpoint
    q = queued_endpoint x

    at : slice_get (queued w.driver).endpoints e ≡ Some (queued_endpoint x)
    at = get_queued w.driver.endpoints e x here

    streams : has_stream (queued_endpoint x).desc.kind ≡ true
    streams = ap (λ (c : EpDesc). has_stream c.kind) (desc_same x) ∙ one_way x.desc.name.way other

    same_gone : (queued_endpoint x).gone ≡ x.gone
    same_gone = ap (λ (z : Endpoint). z.gone) (of_queue x (no_iso x.desc.kind stream))

    same_queue : (queued_endpoint x).queue ≡ x.queue
    same_queue = ap (λ (z : Endpoint). z.queue) (of_queue x (no_iso x.desc.kind stream))

    to : IsToldTo w.driver.reports w.driver.store (named_of (queued_endpoint x)) (k.telling.told.held e) (k.telling.told.told e)
    to = k.telling.told.tells.each e (named_of (queued_endpoint x)) (ap (option_map named_of) at) streams

    -- its lines, and behind them what is held back
    pub lines_told : told_in w.driver.store (lines_in x.desc.name w.driver.reports) ++ k.telling.told.held e ≡ k.telling.told.told e
    lines_told =
        ap (λ (n : EpName). told_in w.driver.store (lines_in n w.driver.reports) ++ k.telling.told.held e) (sym (name_same x)) ∙ to.sum

    given_back : x.gone ≡ true → k.telling.told.told e ≡ told_in w.driver.store (lines_in x.desc.name w.driver.reports)
    given_back gone =
        gone_told (queued w.driver) k.telling.told.held k.telling.told.told e (queued_endpoint x) k.mixed.turns.turns.asynchronous streams
        k.telling.told.tells at (same_gone ∙ gone)
        ∙ ap (λ (n : EpName). told_in w.driver.store (lines_in n w.driver.reports)) (name_same x)

    while_there : IsThere (queued w.driver) (queued_endpoint x)
        → IsPrefix (k.telling.told.told e) (concat (k.lines.acc (32 * x.queue)))
    while_there there =
        let n : ℕ = 32 * x.queue in
        let r : IsReported (k.standing.order (32 * x.queue)) (k.standing.out (32 * x.queue)) (in_hand k.standing) k.standing.parts
        (32 * x.queue)
        (k.lines.acc (32 * x.queue)) (k.lines.reported (32 * x.queue)) =
        k.telling.moved n (ap (λ (b : ℕ). there_of (queued w.driver) (32 * b)) (sym same_queue)
        ∙ there_on (queued w.driver) e (queued_endpoint x) at there streams) in
        subst (λ (xs : List ℕ). IsPrefix xs (concat (k.lines.acc (32 * x.queue))))
        (sym (k.telling.told.met e (queued_endpoint x) at there ∙ ap (λ (b : ℕ). k.lines.reported (32 * b)) same_queue)) (r.told, r.sum)

    pub is_told : IsTold e x
    is_told =
        ⊎_elim (λ (gone : x.gone ≡ true). told_then gone (given_back gone))
        (λ (kept : x.gone ≡ false).
        ⊎_elim (λ (opens : (queued w.driver).command ≡ Some (unfinished.Open (queued_endpoint x).queue)).
        told_none (k.telling.told.opening e (queued_endpoint x) at (same_gone ∙ kept) opens))
        (λ (linked : (queued w.driver).command ≢ Some (unfinished.Open (queued_endpoint x).queue)).
        let there : IsThere (queued w.driver) (queued_endpoint x) = record { linked = linked; kept = same_gone ∙ kept } in
        told_there there (while_there there)) (met_or_not (queued w.driver).command (queued_endpoint x).queue)) (cases_Bool x.gone)

  -- ---- a name that no endpoint has

  none_queued : (name : EpName) → NoneNamed w.driver.endpoints name → (e : ℕ) (y : Named) → named_in (queued w.driver).endpoints e ≡ Some y
      → is_same_name y.name name ≡ false
  none_queued name none e y here = by (slice_get w.driver.endpoints e) refl
    where
      none_some : None ≡ Some y → ⊥
      none_some is = cc

      by : (o : Option Endpoint) → slice_get w.driver.endpoints e ≡ o → is_same_name y.name name ≡ false
      by None is =
          absurd (none_some (sym (ap (option_map named_of) (slice_get-map queued_endpoint w.driver.endpoints e
          ∙ ap (option_map queued_endpoint) is)) ∙ here))
      by (Some x) is =
          let same : named_of (queued_endpoint x) ≡ y =
          same_Some (named_of (queued_endpoint x)) y (sym (ap (option_map named_of) (get_queued w.driver.endpoints e x is)) ∙ here) in
          ap (λ (n : Named). is_same_name n.name name) (sym same) ∙ ap (λ (n : EpName). is_same_name n name) (name_same x)
          ∙ none e (named_of x) (ap (option_map named_of) is)

  pub nothing_told : (name : EpName) → NoneNamed w.driver.endpoints name → lines_in name w.driver.reports ≡ []
  nothing_told name none = k.telling.told.tells.only name (none_queued name none)
