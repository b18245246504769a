-- A command that is refused leaves the requests of a world as they must stand: its line tells of no transfer.
use Rattle.std.proofs.Common.{[], ◌≡◌, ℕ, ◌<◌, ◌*◌, Bool, true, List, ◌∷◌, ◌++◌, length, map, slice_get, Option, Some, None, option_map, ap, refl, sym, subst, ◌∙◌, inl, inr}
use Rattle.std.specs.Prelude.{◌⊎◌, ◌≤◌}
use Rattle.std.specs.List.{AllByRecursion}
use Rattle.std.proofs.lemmas.Bool.{cases_lt}
use Rattle.std.proofs.lemmas.Option.{slice_get_past}
use Rattle.law_common.proofs.Booleans.{refused_by}
use Rattle.usb_base.specs.declared.endpoints.EpName.{EpName}
use Rattle.usb_base.specs.declared.reports.OfferError.{OfferError}
use Rattle.usb_base.specs.declared.reports.What.TheVariants.{Refused}
use Rattle.bus_wire.specs.Bus.{Fixed}
use Rattle.bus_wire.specs.Fates.{is_same_name}
use Rattle.claims_report.specs.Acts.{IsOnce}
use Rattle.drv_table.specs.declared.content.Command.{Command}
use Rattle.drv_table.specs.declared.content.Endpoint.{Endpoint as DriverEndpoint}
use Rattle.drv_table.specs.declared.content.Transfer.{Transfer}
use Rattle.drv_table.specs.DriverContent.{DriverContent}
use Rattle.law_structures.specs.lent_structures.Structures.{Structures}
use Rattle.claims_report.specs.Requests.{Request, Window}
use Rattle.law_queues.specs.told_endpoints.Telling.{lines_in}
use Rattle.law_queues.proofs.lemmas.told_endpoints.Lines.{line_of_other}
use Rattle.law_reports.specs.requests.told_requests.Told.{has_cancel, AreToldTo}
use Rattle.law_reports.proofs.lemmas.requests.lemmas.told_requests.Driver.{refusal_stays}
use Rattle.law_reports.specs.requests.driver_requests.Rows.{KeepsRequests}
use Rattle.bus_world.specs.World.{World, refused_line}
use Rattle.law_world.specs.steps.Streaming.{Standing}
use Rattle.claims_world.specs.Requests.{Windows, endpoint_of as transfers_endpoint, numbers_of, window_at}
use Rattle.law_reports.specs.requests.Courses.{Course}
use Rattle.law_reports.specs.requests.Records.{Numbers, IsOnceAt, IsClosed, IsRecord, AreRecords}
use Rattle.law_reports.proofs.lemmas.requests.Lists.{all_map, all_both, numbers_are}
use Rattle.law_reports.proofs.lemmas.requests.Rows.{accepted_keeps_records}
use Rattle.law_reports.specs.requests.Telling.{IsTelling}
use Rattle.law_reports.proofs.lemmas.requests.Telling.{split}
use Rattle.law_reports.specs.requests.Asking.{Sides, Asking, has_left, IsPublishingBy, IsMetControl, IsAskingWorld}
use Rattle.drv_table.specs.declared.content.Command.TheVariants as unfinished

-- ---- requests of transfers that aren't there

module _ (d : DriverContent) (asks now : ℕ → Request) (v : Windows)
    (same : (t e : ℕ) → transfers_endpoint d t ≡ Some e → now t ≡ asks t) where
  windows_now : (ts : List ℕ) → AllByRecursion (λ t. now t ≡ asks t) ts → map (window_at now v) ts ≡ map (window_at asks v) ts
  windows_now [] all = refl
  windows_now (t ∷ ts) all =
      ap (λ (r : Request). record { request = r; acts = v.acts t } ∷ map (window_at now v) ts) all.0 ∙ ap (λ (ws : List Window). window_at asks v t ∷ ws) (windows_now ts all.1)

  pub records_asked : (courses : ℕ → Course) (numbers : ℕ → Numbers) (gone : ℕ → Bool) → AreRecords d asks courses numbers gone v
      → AreRecords d now courses numbers gone v
  records_asked courses numbers gone rec = record {
    each = λ n has.
        let k : IsRecord d asks n (courses n) (numbers n) v = rec.each n has in
        let a : Numbers = numbers n in
        record {
          numbered = record {
            own = k.numbered.own;
            order = record {
              numbers = k.numbered.order.numbers;
              requests = λ i low.
                  let t = k.numbered.own.transfers i low in
                  same (a.number i) a.endpoint (ap (option_map (λ (y : Transfer). y.endpoint)) t.here ∙ ap (λ (e : ℕ). Some e) t.endpoint) ∙ k.numbered.order.requests i low;
            };
            ahead = k.numbered.ahead;
          };
          acts = k.acts;
          closed = all_map (IsClosed d asks a v) (IsClosed d now a v)
              (λ t z. record { of = z.of; beside = z.beside; once = subst (λ (r : Request). IsOnce r.setup (v.acts t)) (sym (same t a.endpoint z.of)) z.once }) a.closed k.closed;
        };
    left = λ e left.
        all_both (λ t. transfers_endpoint d t ≡ Some e) (IsOnceAt asks v) (IsOnceAt now v) (λ t of once. subst (λ (r : Request). IsOnce r.setup (v.acts t)) (sym (same t e of)) once) (numbers_of d e)
        (numbers_are d e) (rec.left e left);
    none = rec.none;
  }

  pub telling_asked : (e : ℕ) (name : EpName) (whole : Request → List ℕ) (reported waits : List ℕ)
      → IsTelling d asks e name whole v reported waits → IsTelling d now e name whole v reported waits
  telling_asked e name whole reported waits k =
      let all = split (λ t. now t ≡ asks t) reported waits
      (subst (AllByRecursion (λ t. now t ≡ asks t)) k.numbers (all_map (λ t. transfers_endpoint d t ≡ Some e) (λ t. now t ≡ asks t) (λ t of. same t e of) (numbers_of d e) (numbers_are d e))) in
      let one = windows_now reported all.0 in
      let other = windows_now waits all.1 in
      record {
        numbers = k.numbers;
        told = subst (λ (ws : List Window). AreToldTo d.reports d.store name whole (map (window_at now v) reported ++ ws) ws) (sym other)
            (subst (λ (ws : List Window). AreToldTo d.reports d.store name whole (ws ++ map (window_at asks v) waits) (map (window_at asks v) waits)) (sym one) k.told);
        wait = k.wait;
      }

-- ---- the line

lines_same : (d : DriverContent) (n : ℕ) (other name : EpName) (why : OfferError)
    → lines_in name (refused_line d n other why).reports ≡ lines_in name d.reports
lines_same d n other name why =
    line_of_other name d.reports (record { name = other; what = Refused n why; from = length d.store; len = 0 }) (refused_by (is_same_name other name) true refl)

module _ (g : Sides) (fixed : Fixed) (member : ℕ → Bool) (s : Standing) (a : Asking) (v : Windows) (asks now : ℕ → Request) (w : World)
    (line : ℕ) (name : EpName) (why : OfferError) (same : (t e : ℕ) → transfers_endpoint w.driver t ≡ Some e → now t ≡ asks t)
    (q : IsAskingWorld g fixed member s a v asks w) where
  abbrev d : DriverContent
  d = w.driver

  abbrev f : DriverContent
  f = refused_line w.driver line name why

  was_met : (e : ℕ) (z : DriverEndpoint) → IsMetControl g (refused_line w.driver line name why) e z → IsMetControl g w.driver e z
  was_met e z is = record {
    is = record { here = is.is.here; control = is.is.control };
    met = record { there = record { linked = is.met.there.linked; kept = is.met.there.kept }; near = is.met.near };
  }

  keeps : (i : ℕ) → KeepsRequests None w.driver (refused_line w.driver line name why) i
  keeps i = record {
    endpoint = λ z here. record { own = z; here = here; desc = refl; queue = refl; gone = refl };
    transfers = λ t y here of. record { own = y; here = here; endpoint = refl; sort = refl; first = refl; qtds = refl; held = λ none. refl };
    notes = λ t b y here of held piece. refl;
  }

  publishing_then : (z : DriverEndpoint) (part : Structures) (c : Course) (b : Numbers) (o : Option Command)
      → IsPublishingBy w.driver w.memory z part c b o → IsPublishingBy (refused_line w.driver line name why) w.memory z part c b o
  publishing_then z part c b None h = tt
  publishing_then z part c b (Some (unfinished.Open queue)) h = tt
  publishing_then z part c b (Some (unfinished.Publish at words)) h = record {
    request = h.request;
    held = λ none.
        let h = h.held none in
        let k = h.lends in
        let r = k.awaits in
        record {
          lends = record {
            number = k.number;
            transfer = k.transfer;
            endpoint = k.endpoint;
            stage = k.stage;
            further = k.further;
            command = k.command;
            made = k.made;
            newest = k.newest;
            there = k.there;
            here = k.here;
            going = k.going;
            first = k.first;
            place = k.place;
            left = k.left;
            fresh = k.fresh;
            awaits = record {
              here = r.here;
              qtds = r.qtds;
              first = r.first;
              taken = r.taken;
              apart = r.apart;
              ends = r.ends;
              qtds_kept = r.qtds_kept;
              noted = r.noted;
              words = r.words;
              short = r.short;
              pids = r.pids;
            };
            stages = k.stages;
            sort = k.sort;
            are = k.are;
          };
          stages = h.stages;
          held = h.held;
        };
    written = λ some. let y = h.written some in record { setup = y.setup; words_are = y.words_are; range = y.range; coming = y.coming };
  }
  publishing_then z part c b (Some (unfinished.Unlink e at link)) h = tt
  publishing_then z part c b (Some unfinished.Chain) h = tt
  publishing_then z part c b (Some (unfinished.Iso e t count)) h = tt
  publishing_then z part c b (Some (unfinished.Unchain e)) h = tt

  pub asking_refused : IsAskingWorld g fixed member s a v now (record w { driver = refused_line w.driver line name why })
  asking_refused = record {
    stand = q.stand;
    records = accepted_keeps_records d f now a.courses a.numbers (has_left g d) v keeps refl (records_asked d asks now v same a.courses a.numbers (has_left g d) q.records);
    each = λ e z is.
        let h = q.each e z (was_met e z is) in
        record { queue = h.queue; endpoint = h.endpoint; number = h.number; tail = h.tail; count = h.count; newest = h.newest; next = h.next; ended = h.ended; owed = h.owed };
    asked = q.asked;
    publishing = λ e z is on. publishing_then z (s.parts (32 * z.queue)) (a.courses (32 * z.queue)) (a.numbers (32 * z.queue)) w.driver.command (q.publishing e z (was_met e z is) on);
    read = λ e t z y is going next here. q.read e t z y (was_met e z is) going next here;
    telling = λ e z is.
        let h = q.telling e z (was_met e z is) in
        let k = telling_asked d asks now v same e z.desc.name (g.whole z.desc.name) h.reported _ h.telling in
        record {
          reported = h.reported;
          untold = h.untold;
          closed = h.closed;
          going = h.going;
          uncancelled = ap has_cancel (lines_same d line name z.desc.name why) ∙ h.uncancelled;
          telling = record { numbers = k.numbers; told = refusal_stays d line name z.desc.name why (g.whole z.desc.name) _ _ k.told; wait = k.wait };
        };
    given = λ e z is. q.given e z (record { here = is.here; control = is.control });
    counts = λ e z is off.
        let h = q.counts e z (record { here = is.here; control = is.control }) off in
        record { device = h.device; is = h.is; acted = h.acted };
    unopened = q.unopened;
    untold = λ other unnamed. lines_same d line name other why ∙ q.untold other unnamed;
    unmissed = record { structures = q.unmissed.structures; in_hand = q.unmissed.in_hand; first = q.unmissed.first };
  }

pub there : (t e : ℕ) (ts : List Transfer) → option_map (λ (y : Transfer). y.endpoint) (slice_get ts t) ≡ Some e → t < length ts
there t e ts is = by (cases_lt t (length ts))
  where
    by : (t < length ts) ⊎ (length ts ≤ t) → t < length ts
    by (inl low) = low
    by (inr past) = absurd (nothing (ap (option_map (λ (y : Transfer). y.endpoint)) (sym (slice_get_past ts t past)) ∙ is))
      where
        nothing : ◌≡◌ {A = Option ℕ} None (Some e) → ⊥
        nothing is = cc
