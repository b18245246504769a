-- Where a control endpoint that left the ring is given back, the line of its cancel tells beginnings of the data of all its requests that
-- wait.
use Rattle.std.proofs.Common.{◌≡◌, ℕ, suc, ◌+◌, ◌*◌, Bool, true, false, if◌then◌else◌, List, [], ◌∷◌, ◌++◌}
use Rattle.std.proofs.Common.{length, drop, map, slice_get, Some, None, ap, refl, sym, subst, ◌∙◌, ⊎_elim, arith}
use Rattle.std.specs.Prelude.{◌&&◌}
use Rattle.std.specs.List.{AllByRecursion}
use Rattle.std.proofs.lemmas.Bool.{false≢true, true≢false}
use Rattle.std.proofs.lemmas.Option.{same_Some}
use Rattle.std.proofs.lemmas.List.{length-append}
use Rattle.usb_base.specs.declared.endpoints.EpName.{EpName}
use Rattle.usb_base.specs.declared.reports.Report.{Report}
use Rattle.usb_base.specs.declared.reports.What.TheVariants as lines
use Rattle.report_text.specs.ReportText.{bytes_of}
use Rattle.claims_report.specs.Requests.{Request, Window, AreBegun}
use Rattle.claims_world.specs.Requests.{numbers_of, window_at, no_windows}
use Rattle.drv_table.specs.declared.content.Endpoint.{Endpoint}
use Rattle.drv_table.specs.declared.content.Transfer.{Transfer}
use Rattle.drv_table.specs.DriverContent.{DriverContent, waits_for}
use Rattle.drv_table.specs.Harvests.{note_at}
use Rattle.drv_table.specs.Releases.{cancelled_bytes}
use Rattle.drv_table.specs.Words.{request_stages}
use Rattle.law_driver.specs.queued_drivers.Queued.{queued}
use Rattle.law_driver_ring.specs.told_harvests.Held.{IsRead}
use Rattle.law_queues.proofs.Common.{none_unpublished}
use Rattle.law_queues.proofs.lemmas.told_endpoints.Lines.{line_of_it, bytes_stored}
use Rattle.law_queues.proofs.lemmas.told_endpoints.Names.{name_is_same}
use Rattle.law_queues.specs.cancelled_bytes.Cancelled.{SettlesElsewhere}
use Rattle.law_queues.specs.told_endpoints.Telling.{lines_in}
use Rattle.law_request.specs.Host.{has_data}
use Rattle.law_world.specs.memory.Mixed.{Standing, IsMixedAt}
use Rattle.law_world.proofs.lemmas.memory.HarvestKept.{tells_of}
use Rattle.bus_world.specs.World.{World}
use Rattle.law_reports.specs.lines.Lined.{in_hand, Lines, IsTelling}
use Rattle.law_reports.specs.requests.CancelLine.{IsDataTold, IsCounted, waiting_from, HasBegun, HaveBegun}
use Rattle.law_reports.specs.requests.Reading.{AreSilent}
use Rattle.law_reports.specs.requests.Telling.{IsUncancelled}
use Rattle.law_reports.specs.requests.request_bytes.Fresh.{next_of}
use Rattle.law_reports.proofs.lemmas.requests.CancelLine.{cancel_is_begun}
use Rattle.law_reports.proofs.lemmas.requests.lemmas.driver_requests.Owning.{qtds_case}
use Rattle.law_reports.proofs.lemmas.requests.CancelWaits.{waits_left}
use Rattle.law_reports.specs.requests.LeftTold.{WaitHasBegun, RestHasBegun, IsCancelTold}

-- ---- lists

fused : (whole : Request → List ℕ) (asks : ℕ → Request) (ts : List ℕ)
    → map (λ (w : Window). whole w.request) (map (window_at asks no_windows) ts) ≡ map (λ t. whole (asks t)) ts
fused whole asks [] = refl
fused whole asks (t ∷ ts) = ap (λ (xss : List (List ℕ)). whole (asks t) ∷ xss) (fused whole asks ts)

drop_all : (xs ys : List ℕ) (n : ℕ) → n ≡ length xs → drop n (xs ++ ys) ≡ ys
drop_all xs ys n is = ap (λ (m : ℕ). drop m (xs ++ ys)) is ∙ by xs
  where
    by : (us : List ℕ) → drop (length us) (us ++ ys) ≡ ys
    by [] = refl
    by (u ∷ us) = by us

-- ---- each that waits is counted

module _ (s : Standing) (m : Lines) (w : World) (k : IsMixedAt s w) (tells : IsTelling s m w) (silent : AreSilent (queued w.driver))
    (asks : ℕ → Request) (whole : Request → List ℕ) (e : ℕ) (x : Endpoint) (here : slice_get (queued w.driver).endpoints e ≡ Some x)
    (idle : (queued w.driver).command ≡ None) where
  abbrev d : DriverContent
  d = queued w.driver

  abbrev n : ℕ
  n = 32 * x.queue

  module _ (u : ℕ) (b : WaitHasBegun (queued w.driver) (in_hand s) s.parts (32 * x.queue) e whole asks u) where
    abbrev own : Transfer
    own = b.own

    abbrev its_data : ℕ
    its_data = next_of w.driver.notes b.own.first

    its_end : slice_get (queued w.driver).endpoints b.own.endpoint ≡ Some x
    its_end = ap (slice_get (queued w.driver).endpoints) b.waits.endpoint ∙ here

    read : has_data (asks u) ≡ true → IsRead (s.parts (32 * x.queue)) (note_at w.driver.notes its_data) its_data
    read carries =
        let three : b.own.qtds ≡ 3 = b.begun.qtds
        ∙ ⊎_elim {C = length (request_stages (asks u).setup) ≡ 3} (λ none. absurd (false≢true (sym none.0 ∙ carries))) (λ more. more.1)
        (qtds_case (asks u)) in
        let none = none_unpublished d u own idle in
        let piece = k.queues.queues.fed.pieces u 1 own x b.waits.here b.waits.released its_end (omega (arith, none)) (omega
        (arith, three)) in
        record { qtd = piece.qtd; here = piece.here; long = piece.long; buffer = piece.buffer; places = piece.places }

    counted : (bytes : List ℕ)
        → (has_data (asks u) ≡ true → IsDataTold (in_hand s) s.parts (32 * x.queue) w.driver.notes
        (next_of w.driver.notes b.own.first) b.own.left bytes)
        → (has_data (asks u) ≡ false → bytes ≡ [])
        → IsCounted (in_hand s) s.parts (32 * x.queue) w.driver.notes b.own (asks u) bytes
    counted bytes told none = record {
      qtds = b.begun.qtds;
      silent = silent u own b.waits.here b.begun.sort b.waits.released;
      left = (k.turns.turns.turns.places u own b.waits.here b.waits.released).some;
      setup = λ less. b.begun.setup;
      within = tells.told.holds.within u own b.waits.here b.waits.released;
      told = told;
      none = none;
    }

    has_begun : HasBegun (in_hand s) s.parts (32 * x.queue) w.driver.notes whole b.own (asks u)
    has_begun = by (has_data (asks u)) refl
      where
        by : (c : Bool) → has_data (asks u) ≡ c → HasBegun (in_hand s) s.parts (32 * x.queue) w.driver.notes whole b.own (asks u)
        by true carries =
            let data_begun = b.begun.data_at carries in
            record {
              bytes = data_begun.bytes;
              counted = counted data_begun.bytes
                  (λ on. record { read = read carries; told = data_begun.told; done = data_begun.done })
                  (λ off. absurd (true≢false (sym carries ∙ off)));
              begins = data_begun.begins;
            }
        by false bare = record {
          bytes = [];
          counted = counted [] (λ on. absurd (true≢false (sym on ∙ bare))) (λ off. refl);
          begins = (whole (asks u), refl);
        }

  -- ---- all of them

  abbrev Begun : ℕ → Type 0
  Begun u = WaitHasBegun (queued w.driver) (in_hand s) s.parts (32 * x.queue) e whole asks u

  one_begun : (u : ℕ) (y : Transfer) → slice_get (queued w.driver).transfers u ≡ Some y → Begun u
      → HasBegun (in_hand s) s.parts (32 * x.queue) w.driver.notes whole y (asks u)
  one_begun u y at b =
      subst (λ (z : Transfer). HasBegun (in_hand s) s.parts (32 * x.queue) w.driver.notes whole z (asks u))
      (same_Some b.own y (sym b.waits.here ∙ at)) (has_begun u b)

  split : (u : ℕ) (rest : List ℕ) (on : Bool) → AllByRecursion (λ (t : ℕ). Begun t) (if on then u ∷ rest else rest)
      → (on ≡ true → Begun u) × AllByRecursion (λ (t : ℕ). Begun t) rest
  split u rest true all = (λ is. all.0, all.1)
  split u rest false all = (λ is. absurd (false≢true is), all)

  all_begun : (j : ℕ) (ts : List Transfer)
      → ((i : ℕ) (y : Transfer) → slice_get ts i ≡ Some y → slice_get (queued w.driver).transfers (j + i) ≡ Some y)
      → AllByRecursion (λ (t : ℕ). Begun t) (waiting_from e j ts)
      → HaveBegun (in_hand s) s.parts (32 * x.queue) w.driver.notes whole asks e j ts
  all_begun j [] at all = tt
  all_begun j (y ∷ ys) at all =
      let both = split j (waiting_from e (suc j) ys) (waits_for e y) all in (
        λ on. one_begun j y (let same : j + 0 ≡ j = omega arith in subst
            (λ (t : ℕ). slice_get (queued w.driver).transfers t ≡ Some y) same (at 0 y refl)) (both.0 on),
        all_begun (suc j) ys
            (λ i z there. let same : j + suc i ≡ suc j + i = omega arith in
            subst (λ (t : ℕ). slice_get (queued w.driver).transfers t ≡ Some z) same (at (suc i) z there)) both.1,
      )

  pub bytes_begun : (settled : SettlesElsewhere (in_hand s) (32 * x.queue))
      → (r : RestHasBegun (queued w.driver) (in_hand s) s.parts e x whole asks)
      → AreBegun (cancelled_bytes w.driver.notes w.memory e x.queue (queued w.driver).transfers) (map (λ t. whole (asks t)) r.waits)
  bytes_begun settled r =
      let are : r.waits ≡ waiting_from e 0 d.transfers = waits_left d e r.reported r.waits k.turns.turns.turns r.numbers r.wait in
      subst (λ (xss : List (List ℕ)). AreBegun (cancelled_bytes w.driver.notes w.memory e x.queue (queued w.driver).transfers) xss)
      (fused whole asks (waiting_from e 0 d.transfers) ∙ ap (map (λ t. whole (asks t))) (sym are))
      (cancel_is_begun w.memory (in_hand s) s.parts x.queue w.driver.notes whole asks no_windows e 0 d.transfers (tells_of s w k) settled
      (all_begun 0 d.transfers (λ i y there. let same : 0 + i ≡ i = omega arith in
      subst (λ (t : ℕ). slice_get (queued w.driver).transfers t ≡ Some y) (sym same) there)
      (subst (AllByRecursion (λ (t : ℕ). Begun t)) are r.each)))

-- ---- the line

module _ (d f : DriverContent) (asks : ℕ → Request) (e : ℕ) (name : EpName) (whole : Request → List ℕ) (bytes reported waits : List ℕ)
    (uncancelled : IsUncancelled name d) (many : length reported ≡ length (lines_in name d.reports))
    (begun : AreBegun bytes (map (λ t. whole (asks t)) waits)) where
  abbrev line : Report
  line = record { name = name; what = lines.Cancel; from = length d.store; len = length bytes }

  pub line_told : f.reports ≡ d.reports ++ (record { name = name; what = lines.Cancel; from = length d.store; len = length bytes }) ∷ []
      → f.store ≡ d.store ++ bytes → numbers_of f e ≡ reported ++ waits → IsCancelTold f asks e name whole
  line_told reports store numbers = record {
    before = lines_in name d.reports;
    line = line;
    lines = ap (lines_in name) reports ∙ line_of_it name d.reports line (ap (λ (b : Bool). b && true) (name_is_same name));
    none = uncancelled;
    is = refl;
    stored = let same = ap (λ (bs : List ℕ). length bs) store in let long = length-append d.store bytes in omega (arith, same, long);
    begun = subst (λ (bs : List ℕ). AreBegun bs (map (λ t. whole (asks t)) (drop (length (lines_in name d.reports)) (numbers_of f e))))
        (sym (ap (bytes_of line) store ∙ bytes_stored d.store bytes))
        (subst (λ (ts : List ℕ). AreBegun bytes (map (λ t. whole (asks t)) ts))
        (sym (ap (drop (length (lines_in name d.reports))) numbers
        ∙ drop_all reported waits (length (lines_in name d.reports)) (sym many))) begun);
  }
