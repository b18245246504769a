-- Each command leaves what the lines of a cancelled control endpoint tell, but for the one of its cancel.
use Rattle.std.proofs.Common.{◌≡◌, ◌≢◌, ℕ, ◌&&◌, not, Bool, true, false, List, [], ◌∷◌, ◌++◌, length, map, set, slice_get}
use Rattle.std.proofs.Common.{Option, Some, None, Result, Ok, Err, ap, refl, sym, subst, ◌∙◌, ⊎_elim, replicate, ◌+◌}
use Rattle.std.specs.List.{AllByRecursion}
use Rattle.std.proofs.lemmas.Bool.{eq-eqb}
use Rattle.std.proofs.lemmas.List.{append-nil, map-append}
use Rattle.law_queues.proofs.Common.{set_which}
use Rattle.law_common.proofs.Lists.{push_which, all_alike}
use Rattle.usb_base.specs.declared.commands.Cmd.{Cmd}
use Rattle.usb_base.specs.declared.commands.Cmd.TheVariants as commands
use Rattle.usb_base.specs.declared.endpoints.EpDesc.{EpDesc}
use Rattle.usb_base.specs.declared.endpoints.EpName.{EpName}
use Rattle.usb_base.specs.declared.reports.OfferError.{OfferError}
use Rattle.usb_base.specs.declared.reports.What.TheVariants.{Refused}
use Rattle.bus_wire.specs.Bus.{Fixed}
use Rattle.bus_wire.specs.Fates.{is_same_name}
use Rattle.claims_report.specs.Requests.{Request}
use Rattle.claims_world.specs.Requests.{Windows, windows_of, opens, is_opening, asks_then}
use Rattle.drv_table.specs.declared.content.Command.{Command}
use Rattle.drv_table.specs.declared.content.Endpoint.{Endpoint}
use Rattle.drv_table.specs.declared.content.Transfer.{Transfer}
use Rattle.drv_table.specs.Accepting.{Offered, new_runs}
use Rattle.drv_table.specs.DriverContent.{DriverContent}
use Rattle.drv_table.specs.Kinds.{is_iso}
use Rattle.drv_table.specs.Offers.{Asked, offered}
use Rattle.drv_table.specs.Words.{is_control}
use Rattle.law_driver.specs.queued_drivers.Queued.{queued_desc, queued_endpoint, queued}
use Rattle.law_driver.proofs.Common.{of_queue}
use Rattle.law_driver.specs.queued_drivers.Rows.{TellsAlike}
use Rattle.law_driver.proofs.lemmas.queued_drivers.CommandLeaves.{unchained}
use Rattle.law_driver.proofs.lemmas.queued_drivers.CommandReasons.{in_ring, in_frames, bare, IsTakenOn, from_ring, from_frames}
use Rattle.law_driver.proofs.lemmas.queued_drivers.CommandReasons.{IsReasonOf}
use Rattle.law_driver.proofs.lemmas.queued_drivers.CommandReasons.{reason_of}
use Rattle.law_queues.proofs.lemmas.told_endpoints.Lines.{line_of_other}
use Rattle.bus_world.specs.World.{World, name_in, refused_line, commanded_by}
use Rattle.law_world.proofs.lemmas.streams.lemmas.put_laws.Stays.{owner_at, owners_in}
use Rattle.law_reports.specs.requests.CancelledTold.{before_cancel}
use Rattle.law_reports.specs.pipes.Declared.{Sides as Pipes}
use Rattle.law_reports.proofs.lemmas.pipes.Accepted as news
use Rattle.law_reports.proofs.lemmas.pipes.Accepted.{IsNewest, EndsThen, ends_then}
use Rattle.law_reports.specs.requests.Asking.{Sides}
use Rattle.law_reports.specs.requests.HighAsking.{HasHighAsks}
use Rattle.law_reports.specs.requests.CancelledTold.{IsToldBefore, CancelledAreTold}
use Rattle.law_reports.specs.requests.CancelledTold.{CommandKeepsCancelled}
use Rattle.law_reports.proofs.lemmas.requests.lemmas.told_requests.Adding.{descriptors_owned}
use Rattle.law_reports.proofs.lemmas.requests.lemmas.told_requests.Agreeing.{numbers_none}
use Rattle.law_reports.proofs.lemmas.requests.lemmas.told_requests.Growing.{none_added}
use Rattle.law_reports.proofs.lemmas.requests.CancelledLines.{LinesStayBefore, same_lines}
use Rattle.law_reports.proofs.lemmas.requests.HighDevices.{control_iso}
use Rattle.law_reports.proofs.lemmas.requests.Lists.{all_map}
use Rattle.law_reports.proofs.lemmas.requests.CancelledTold.{all_stored, has_ended, new_is_told, each_is_told, lines_stay}

ok_is : {p q : Offered} → ◌≡◌ {A = Result Offered OfferError} (Ok p) (Ok q) → q ≡ p
ok_is e = cc

module _ (g : Sides) (fixed : Fixed) (p : Pipes) (v : Windows) (asks : ℕ → Request) (w : World) (h : HasHighAsks g fixed p v asks w)
    (line : ℕ) (cmd : Cmd) (k : CancelledAreTold g w v asks) where
  abbrev now : ℕ → Request
  now = asks_then w.driver cmd asks

  -- of this endpoint it is as before: it was there, and the command adds no transfer of it
  record IsAsBefore (f : DriverContent) (i : ℕ) (z : Endpoint) : Type 0 where
    was : Endpoint
    here : slice_get w.driver.endpoints i ≡ Some was
    desc : z.desc ≡ was.desc
    windows : windows_of f now v i ≡ windows_of w.driver asks v i

  as_before : (f : DriverContent) (i : ℕ) (z : Endpoint) → is_control z.desc.kind ≡ true → g.asks (queued_desc z.desc) ≡ true
      → LinesStayBefore w.driver f z.desc.name → IsAsBefore f i z → IsToldBefore f now v g.whole i z
  as_before f i z control on l b =
      lines_stay w.driver f asks now v v g.whole i b.was z (all_stored g fixed p v asks w h) b.desc b.windows l
      (each_is_told g fixed p v asks w h i b.was b.here (ap (λ (c : EpDesc). is_control c.kind) (sym b.desc) ∙ control)
      (ap (λ (c : EpDesc). g.asks (queued_desc c)) (sym b.desc) ∙ on) k)

  -- the transfers stay
  none_more : (f : DriverContent) (i : ℕ) → f.transfers ≡ w.driver.transfers → windows_of f now v i ≡ windows_of w.driver asks v i
  none_more f i same =
      none_added w.driver cmd asks v i f [] (ap (map owner_at) same ∙ sym (append-nil (owners_in w.driver)))
      (numbers_none i (0 + length (owners_in w.driver)) [] tt)

  -- one transfer more, of another endpoint
  one_of_other : (f : DriverContent) (i number : ℕ) (y : Transfer) → f.transfers ≡ w.driver.transfers ++ y ∷ [] → y.endpoint ≢ i
      → windows_of f now v i ≡ windows_of w.driver asks v i
  one_of_other f i number y more differs =
      none_added w.driver cmd asks v i f (y.endpoint ∷ []) (ap (map owner_at) more ∙ map-append owner_at w.driver.transfers (y ∷ []))
      (numbers_none i (0 + length (owners_in w.driver)) (y.endpoint ∷ []) (differs, tt))

  refused : (name : EpName) (why : OfferError) → CancelledAreTold g (record w { driver = refused_line w.driver line name why }) v now
  refused name why = record {
    each = λ i z here control on off.
        as_before (refused_line w.driver line name why) i z control on
        (record {
          lines = ap before_cancel
              (line_of_other z.desc.name w.driver.reports
              (record { name = name; what = Refused line why; from = length w.driver.store; len = 0 })
              (no_line (is_same_name name z.desc.name)));
          bytes = [];
          store = sym (append-nil w.driver.store);
        })
        (record { was = z; here = here; desc = refl; windows = none_more (refused_line w.driver line name why) i refl });
  }
    where
      no_line : (b : Bool) → (b && false) ≡ false
      no_line true = refl
      no_line false = refl

  module _ (o : Offered) (new : HasHighAsks g fixed p v (asks_then w.driver cmd asks) (record w { driver = o.driver; memory = o.memory }))
      (tells : TellsAlike w.driver o.driver) where
    abbrev f : DriverContent
    f = o.driver

    abbrev later : World
    later = record w { driver = o.driver; memory = o.memory }

    still : (i : ℕ) (z : Endpoint) → is_control z.desc.kind ≡ true → g.asks (queued_desc z.desc) ≡ true → IsAsBefore o.driver i z
        → IsToldBefore o.driver now v g.whole i z
    still i z control on b = as_before o.driver i z control on (same_lines w.driver o.driver z.desc.name tells.reports tells.store) b

    -- an endpoint more
    one_more : (x : Endpoint) → o.driver.endpoints ≡ w.driver.endpoints ++ x ∷ [] → IsNewest o.driver x → x.gone ≡ false
        → o.driver.transfers ≡ w.driver.transfers → CancelledAreTold g later v now
    one_more x ends newest kept same = record {
      each = λ i z here control on off.
          ⊎_elim {C = IsToldBefore o.driver now v g.whole i z}
          (λ (there : slice_get w.driver.endpoints i ≡ Some z).
          still i z control on (record { was = z; here = there; desc = refl; windows = none_more o.driver i same }))
          (λ (own : (i ≡ length w.driver.endpoints) × (z ≡ x)).
          new_is_told g fixed p v now later new i z here control on
          (opens_it newest z own.1 control))
          (push_which w.driver.endpoints x i z (ap (λ (xs : List Endpoint). slice_get xs i) (sym ends) ∙ here));
    }
      where
        opens_it : IsNewest o.driver x → (z : Endpoint) → z ≡ x → is_control z.desc.kind ≡ true
            → is_opening (queued o.driver) (queued_endpoint z) ≡ true
        opens_it (news.is_opening queue command made) z is control =
            subst (λ (u : Endpoint). opens (queued o.driver).command u.queue && not u.gone ≡ true)
            (sym (of_queue z (ap (λ (u : Endpoint). is_iso u.desc.kind) is ∙ queue)))
            (ap (λ (c : Option Command). opens c z.queue && not z.gone) command
            ∙ ap (λ (b : Bool). b && not z.gone) (eq-eqb x.queue z.queue (ap (λ (u : Endpoint). u.queue) (sym is)))
            ∙ ap (λ (u : Endpoint). not u.gone) is ∙ ap not kept)
        opens_it (news.is_bare iso none) z is control =
            absurd (control_iso z.desc.kind control (ap (λ (u : Endpoint). is_iso u.desc.kind) is ∙ iso))

    -- an endpoint that is another one, and none of its transfers is new
    one_anew : (e : ℕ) (y x : Endpoint) → slice_get w.driver.endpoints e ≡ Some y → o.driver.endpoints ≡ set w.driver.endpoints e x
        → x.desc ≡ y.desc → o.driver.transfers ≡ w.driver.transfers → CancelledAreTold g later v now
    one_anew e y x at ends desc same = record {
      each = λ i z here control on off.
          still i z control on
          (⊎_elim {C = IsAsBefore o.driver i z}
          (λ (own : (i ≡ e) × (z ≡ x)).
          record {
            was = y;
            here = ap (slice_get w.driver.endpoints) own.0 ∙ at;
            desc = ap (λ (u : Endpoint). u.desc) own.1 ∙ desc;
            windows = none_more o.driver i same;
          })
          (λ (other : (i ≢ e) × (slice_get w.driver.endpoints i ≡ Some z)).
          record { was = z; here = other.1; desc = refl; windows = none_more o.driver i same })
          (set_which w.driver.endpoints e i y x z at (ap (λ (xs : List Endpoint). slice_get xs i) (sym ends) ∙ here)));
    }

    -- a transfer more, of an endpoint that hasn't ended
    taken_on : (e : ℕ) (y x : Endpoint) (t : Transfer) → slice_get w.driver.endpoints e ≡ Some y
        → o.driver.endpoints ≡ set w.driver.endpoints e x → (x.desc ≡ y.desc) × (x.cancelled ≡ y.cancelled) → y.ended ≡ None
        → o.driver.transfers ≡ w.driver.transfers ++ t ∷ [] → t.endpoint ≡ e → CancelledAreTold g later v now
    taken_on e y x t at ends alike goes more of = record {
      each = λ i z here control on off.
          still i z control on
          (⊎_elim {C = IsAsBefore o.driver i z}
          (λ (own : (i ≡ e) × (z ≡ x)).
          let desc : z.desc ≡ y.desc = ap (λ (u : Endpoint). u.desc) own.1 ∙ alike.0 in
          absurd
          (has_ended g fixed p v asks w h e y at (ap (λ (c : EpDesc). is_control c.kind) (sym desc) ∙ control)
          (ap (λ (c : EpDesc). g.asks (queued_desc c)) (sym desc) ∙ on)
          (sym alike.1 ∙ ap (λ (u : Endpoint). u.cancelled) (sym own.1) ∙ off) goes))
          (λ (other : (i ≢ e) × (slice_get w.driver.endpoints i ≡ Some z)).
          record {
            was = z;
            here = other.1;
            desc = refl;
            windows = one_of_other o.driver i e t more (λ same. other.0 (sym same ∙ of));
          })
          (set_which w.driver.endpoints e i y x z at (ap (λ (xs : List Endpoint). slice_get xs i) (sym ends) ∙ here)));
    }

    -- transfers more, of an isochronous endpoint
    described : (e : ℕ) (y x : Endpoint) → slice_get w.driver.endpoints e ≡ Some y → o.driver.endpoints ≡ set w.driver.endpoints e x
        → x.desc ≡ y.desc → is_iso y.desc.kind ≡ true → (more : List ℕ)
        → owners_in o.driver ≡ owners_in w.driver ++ more
        → AllByRecursion (λ u. u ≡ e) more → CancelledAreTold g later v now
    described e y x at ends desc iso more owners all = record {
      each = λ i z here control on off.
          still i z control on
          (⊎_elim {C = IsAsBefore o.driver i z}
          (λ (own : (i ≡ e) × (z ≡ x)).
          absurd
          (control_iso z.desc.kind control (ap (λ (u : Endpoint). is_iso u.desc.kind) own.1 ∙ ap (λ (c : EpDesc). is_iso c.kind) desc ∙ iso)))
          (λ (other : (i ≢ e) × (slice_get w.driver.endpoints i ≡ Some z)).
          record {
            was = z;
            here = other.1;
            desc = refl;
            windows = none_added w.driver cmd asks v i o.driver more owners
                (numbers_none i (0 + length (owners_in w.driver)) more
                (all_map (λ u. u ≡ e) (λ u. u ≢ i) (λ u is same. other.0 (sym same ∙ is)) more all));
          })
          (set_which w.driver.endpoints e i y x z at (ap (λ (xs : List Endpoint). slice_get xs i) (sym ends) ∙ here)));
    }

    opened : (c : Cmd) → EndsThen w.driver o.driver c → o.driver.transfers ≡ w.driver.transfers → CancelledAreTold g later v now
    opened c (news.one_more x asked ends kept newest tells) same = one_more x ends newest kept same
    opened c (news.one_anew e y x at ends comes kept never tells) same = one_anew e y x at ends comes.desc same

    taken : (name : EpName) (takes : Endpoint → Bool) (a : Asked) → IsTakenOn w.driver w.memory o name takes a
        → CancelledAreTold g later v now
    taken name takes a r =
        let is = ok_is r.is in
        taken_on r.number r.endpoint _ _ r.here (ap (λ (q : Offered). q.driver.endpoints) is) (refl, refl) r.goes_on
        (ap (λ (q : Offered). q.driver.transfers) is) refl

    by_reason : (c : Cmd) → IsReasonOf w.driver w.memory o c → CancelledAreTold g later v now
    by_reason (commands.OpenEp x) (in_ring r same) =
        opened _ (ends_then w.driver w.memory o (commands.OpenEp x) (in_ring r same)) (ap (λ (q : Offered). q.driver.transfers) r.is)
    by_reason (commands.OpenEp x) (in_frames r same) =
        opened _ (ends_then w.driver w.memory o (commands.OpenEp x) (in_frames r same)) (ap (λ (q : Offered). q.driver.transfers) r.is)
    by_reason (commands.OpenEp x) (bare r same) =
        opened _ (ends_then w.driver w.memory o (commands.OpenEp x) (bare r same)) (ap (λ (q : Offered). q.driver.transfers) r.is)
    by_reason (commands.Get name len by) r = taken _ _ _ r
    by_reason (commands.Put name bytes by) r = taken _ _ _ r
    by_reason (commands.Control name setup bytes) r = taken _ _ _ r
    by_reason (commands.Iso name count len seed) r =
        described r.number r.endpoint _ r.here (ap (λ (q : Offered). q.driver.endpoints) r.is) refl r.isochronous
        (replicate r.count r.number)
        (ap (λ (q : Offered). owners_in q.driver) r.is
        ∙ descriptors_owned r.holding_after.book r.number r.endpoint.desc r.slots r.count r.seed (new_runs w.driver r.holding_after) _)
        (all_alike (λ u. u ≡ r.number) r.count r.number refl)
    by_reason (commands.Cancel name) (from_ring r same) =
        opened _ (ends_then w.driver w.memory o (commands.Cancel name) (from_ring r same)) (ap (λ (q : Offered). q.driver.transfers) r.is)
    by_reason (commands.Cancel name) (from_frames r same) =
        opened _ (ends_then w.driver w.memory o (commands.Cancel name) (from_frames r same))
        (ap (λ (d : DriverContent). d.transfers) (unchained w.driver w.memory o r).is)
    by_reason _ r = absurd r

  tells_of : (f : DriverContent) → EndsThen w.driver f cmd → TellsAlike w.driver f
  tells_of f (news.one_more x asked ends kept newest tells) = tells
  tells_of f (news.one_anew e y x at ends comes kept never tells) = tells

  answered : (r : Result Offered OfferError) → offered w.driver w.memory cmd ≡ r
      → HasHighAsks g fixed p v (asks_then w.driver cmd asks) (commanded_by w line (name_in cmd) r)
      → CancelledAreTold g (commanded_by w line (name_in cmd) r) v (asks_then w.driver cmd asks)
  answered (Err why) is new = refused (name_in cmd) why
  answered (Ok o) is new =
      let reason = reason_of w.driver w.memory cmd o is in
      by_reason o new (tells_of o.driver (ends_then w.driver w.memory o cmd reason)) cmd reason

pub command_keeps_cancelled : CommandKeepsCancelled
command_keeps_cancelled g fixed p v asks w line cmd h new k =
    answered g fixed p v asks w h line cmd k (offered w.driver w.memory cmd) refl new
