-- What is told where an endpoint is given back.
use Rattle.std.proofs.Common.{◌≡◌, ◌≢◌, ◌⊎◌, ℕ, ◌*◌, ◌≤◌, ◌==◌, ◌||◌, Bool, true, false, if◌then◌else◌, List, [], ◌++◌, map, length, slice_get, slice_set, Option, Some, None, option_map, ap, refl, sym, subst, ◌∙◌, ⊎_elim, inl, inr}
use Rattle.std.proofs.lemmas.Bool.{cases_eq, false≢true}
use Rattle.std.proofs.lemmas.Option.{same_Some}
use Rattle.std.proofs.lemmas.List.{append-nil}
use Rattle.law_common.proofs.Lists.{set_here, set_there}
use Rattle.law_common.proofs.Numbers.{same_number, other_number}
use Rattle.law_controller.proofs.Common.{same_hand, heads_stay, elements_stay}
use Rattle.usb_base.specs.declared.endpoints.EndCause.{EndCause}
use Rattle.usb_base.specs.declared.reports.Report.{Report}
use Rattle.usb_base.specs.declared.reports.What.TheVariants as lines
use Rattle.law_structures.specs.lent_structures.Structures.{StructureSets}
use Rattle.law_ring.specs.Hand.{Hand}
use Rattle.mem_runs.specs.Book.{Book, holding}
use Rattle.claims_report.specs.Streams.{has_stream}
use Rattle.drv_table.specs.declared.content.Endpoint.{Endpoint}
use Rattle.drv_table.specs.declared.content.Transfer.{Transfer}
use Rattle.drv_table.specs.declared.content.QtdNote.{QtdNote}
use Rattle.drv_table.specs.declared.content.Command.TheVariants as unfinished
use Rattle.drv_table.specs.DriverContent.{DriverContent}
use Rattle.drv_table.specs.Harvests.{note_at, reported as with_line}
use Rattle.drv_table.specs.Parts.{Parts}
use Rattle.drv_table.specs.Releases.{is_told, cancelled_bytes, let_go, gone_with, free_endpoint, after_endpoint}
use Rattle.drv_table.specs.Rows.{after_driver_row}
use Rattle.law_driver.specs.endpoint_lives.Lives.{told_end}
use Rattle.law_driver.proofs.lemmas.endpoint_lives.Lives.{untold_same, told_gone}
use Rattle.claims_driver.specs.Owners.{runs_of_endpoint, views_of, IsQueueIn}
use Rattle.claims_driver.specs.Leaving.{HasOwners}
use Rattle.law_driver.specs.chained_transfers.Asynchronous.{OnlyAsynchronous, StandsAsynchronous}
use Rattle.law_driver.specs.chained_transfers.Turns.{AreInTurn}
use Rattle.law_driver.specs.chained_transfers.Out.{out_now}
use Rattle.law_driver.proofs.lemmas.chained_transfers.Chained.{gone_from}
use Rattle.law_driver.proofs.lemmas.chained_transfers.BulkAndControl.{not_iso}
use Rattle.law_driver.proofs.lemmas.chained_transfers.Staying.{told_stands_alive}
use Rattle.law_queues.specs.told_endpoints.Telling.{named_of, named_in, IsToldTo, TellsEach}
use Rattle.law_queues.specs.told_endpoints.Steps.{Grows, Clears, NamesAt}
use Rattle.law_queues.proofs.lemmas.told_endpoints.Tellings.{keeps_names, adds_bytes, requests_add_no_stream}
use Rattle.law_driver_ring.specs.told_harvests.Held.{told_of}
use Rattle.law_driver_ring.proofs.lemmas.told_harvests.Keeping.{spared_is_done}
use Rattle.law_queues.specs.harvest_laws.Holds.{IsUnderWay, IsToCome, IsNextOf, HoldsEach}
use Rattle.law_queues.proofs.lemmas.harvest_laws.RowRows.{grown_at, cleared_at}
use Rattle.law_queues.proofs.lemmas.harvest_laws.RowHarvesting.{holds_still}
use Rattle.law_controller.specs.controlled_streams.Reported.{IsReported}
use Rattle.law_driver_ring.specs.fed_queues.Places.{IsThere}
use Rattle.law_queues.specs.harvest_laws.Told.{ToldStands}
use Rattle.law_queues.specs.leaving_drivers.Told.{told_to}
use Rattle.law_queues.proofs.lemmas.cancelled_bytes.Cancelling.{cancel_tells}
use Rattle.law_world.specs.steps.endpoint_releases.Released.{without_queue, endpoint_row}
use Rattle.law_world.proofs.lemmas.steps.lemmas.endpoint_releases.Owning.{queue_beside}
use Rattle.law_world.proofs.lemmas.steps.lemmas.endpoint_releases.Releasing.{queues_differ}
use Rattle.law_world.specs.streams.left_reports.Leaver.{IsLeaver, IsToldGone}
use Rattle.law_world.proofs.lemmas.streams.lemmas.left_reports.Leaver.{next_waits, goes_untold, leaver_can_be_told}

-- ---- the driver's content

abbrev gone_of : Endpoint → Endpoint
gone_of x = record x { gone = true }

record IsGivenBack (d new : DriverContent) (e : ℕ) (x : Endpoint) (cut : Bool) : Type 0 where
  here : slice_get d.endpoints e ≡ Some x
  over : x.ended ≢ None
  only : OnlyAsynchronous d
  turns : AreInTurn d
  endpoints : new.endpoints ≡ slice_set d.endpoints e (gone_of x)
  transfers : new.transfers ≡ map (let_go e cut) d.transfers
  notes : new.notes ≡ d.notes
  command : new.command ≡ d.command

goes_as : (e : ℕ) (cut : Bool) (y : Transfer) (b : Bool) → (y.endpoint == e) ≡ b → let_go e cut y ≡ (if b then record y { reported = y.reported || cut; released = true } else y)
goes_as e cut y b is = ap (λ (c : Bool). if c then record y { reported = y.reported || cut; released = true } else y) is

module _ (d new : DriverContent) (e : ℕ) (x : Endpoint) (cut : Bool) (g : IsGivenBack d new e x cut) where
  which : (i : ℕ) (z : Endpoint) → slice_get new.endpoints i ≡ Some z → ((i ≡ e) × (z ≡ gone_of x)) ⊎ ((i ≢ e) × (slice_get d.endpoints i ≡ Some z))
  which i z there =
      let now : slice_get (slice_set d.endpoints e (gone_of x)) i ≡ Some z = ap (λ (xs : List Endpoint). slice_get xs i) (sym g.endpoints) ∙ there in
      ⊎_elim (λ (is : i ≡ e). inl (is, same_Some z (gone_of x) (sym now ∙ ap (slice_get (slice_set d.endpoints e (gone_of x))) is ∙ set_here d.endpoints e x (gone_of x) g.here)))
      (λ (differs : i ≢ e). inr (differs, sym (set_there d.endpoints e i (gone_of x) differs) ∙ now)) (cases_eq i e)

  now_gone : slice_get new.endpoints e ≡ Some (gone_of x)
  now_gone = ap (λ (xs : List Endpoint). slice_get xs e) g.endpoints ∙ set_here d.endpoints e x (gone_of x) g.here

  still_here : (i : ℕ) → i ≢ e → slice_get new.endpoints i ≡ slice_get d.endpoints i
  still_here i differs = ap (λ (xs : List Endpoint). slice_get xs i) g.endpoints ∙ set_there d.endpoints e i (gone_of x) differs

  before : (t : ℕ) (y : Transfer) → slice_get new.transfers t ≡ Some y → (z : Transfer) × (slice_get d.transfers t ≡ Some z) × (let_go e cut z ≡ y)
  before t y there = gone_from e cut d.transfers t y (ap (λ (ts : List Transfer). slice_get ts t) (sym g.transfers) ∙ there)

  -- what isn't given back is another endpoint's, as before
  kept_before : (t : ℕ) (y : Transfer) → slice_get new.transfers t ≡ Some y → y.released ≡ false → (y.endpoint ≢ e) × (slice_get d.transfers t ≡ Some y)
  kept_before t y there kept = by (z.0.endpoint == e) refl
    where
      z : (z : Transfer) × (slice_get d.transfers t ≡ Some z) × (let_go e cut z ≡ y)
      z = before t y there

      by : (b : Bool) → (z.0.endpoint == e) ≡ b → (y.endpoint ≢ e) × (slice_get d.transfers t ≡ Some y)
      by true on = absurd (false≢true (sym kept ∙ ap (λ (r : Transfer). r.released) (sym z.2 ∙ goes_as e cut z.0 true on)))
      by false off =
          let same : z.0 ≡ y = sym (goes_as e cut z.0 false off) ∙ z.2 in
          (λ own. false≢true (sym off ∙ ap (λ (n : ℕ). n == e) (ap (λ (r : Transfer). r.endpoint) same ∙ own) ∙ same_number e), z.1 ∙ ap Some same)

  no_end : told_end (gone_of x) ≡ None → ⊥
  no_end goes = g.over (sym (told_gone (gone_of x) refl) ∙ goes)

  -- ---- what is held back

  record WasNext (i t : ℕ) (z : Endpoint) (y : Transfer) : Type 0 where
    next : IsNextOf d i t z y
    differs : i ≢ e

  was_next : (i t : ℕ) (z : Endpoint) (y : Transfer) → IsNextOf new i t z y → WasNext i t z y
  was_next i t z y is =
      ⊎_elim (λ (own : (i ≡ e) × (z ≡ gone_of x)). absurd (no_end (ap told_end (sym own.1) ∙ is.going)))
      (λ (other : (i ≢ e) × (slice_get d.endpoints i ≡ Some z)).
      let u = before t y is.transfer in
      let was : IsNextOf d i t z u.0 = record { endpoint = other.1; going = is.going; next = is.next; transfer = u.1 } in
      let off : (u.0.endpoint == e) ≡ false = other_number u.0.endpoint e (λ own. other.0 (sym (next_waits d g.turns i t z u.0 was).0 ∙ own)) in
      let same : u.0 ≡ y = sym (goes_as e cut u.0 false off) ∙ u.2 in
      record { next = subst (IsNextOf d i t z) same was; differs = other.0 })
      (which i z is.endpoint)

  gone_holds : (hand : Hand) (parts : StructureSets) (held later : ℕ → List ℕ) → ((i : ℕ) → i ≢ e → later i ≡ held i) → (has_stream x.desc.kind ≡ true → later e ≡ []) → HoldsEach d hand parts held → HoldsEach new hand parts later
  gone_holds hand parts held later others none_held k = record {
    next = λ i t z y is on.
        let was = was_next i t z y is in
        subst (λ (ns : List QtdNote). IsUnderWay hand parts (32 * z.queue) (note_at ns) y (later i)) (sym g.notes)
        (subst (IsUnderWay hand parts (32 * z.queue) (note_at d.notes) y) (sym (others i was.differs)) (k.next i t z y was.next on));
    none = λ i z here last on.
        ⊎_elim (λ (own : (i ≡ e) × (z ≡ gone_of x)). ap later own.0 ∙ none_held (ap (λ (r : Endpoint). has_stream r.desc.kind) (sym own.1) ∙ on))
        (λ (other : (i ≢ e) × (slice_get d.endpoints i ≡ Some z)). others i other.0 ∙ k.none i z other.1 last on) (which i z here);
    to_come = λ t y here waits kept other.
        let was = kept_before t y here kept in
        subst (λ (ns : List QtdNote). IsToCome (note_at ns) y) (sym g.notes) (k.to_come t y was.1 waits kept (λ z there is. other z (still_here y.endpoint was.0 ∙ there) is));
    within = λ t y here kept. subst (λ (ns : List QtdNote). told_of (note_at ns) y.first y.qtds ≤ y.most) (sym g.notes) (k.within t y (kept_before t y here kept).1 kept);
  }

  queue_in : (i : ℕ) (z : Endpoint) → slice_get d.endpoints i ≡ Some z → z.gone ≡ false → IsQueueIn (views_of d) i (runs_of_endpoint z)
  queue_in i z here kept = record {
    here = ap (option_map runs_of_endpoint) here;
    queued = ap (λ (k : Bool). k || z.gone) (not_iso z.desc (g.only.endpoints i z here).asynchronous) ∙ kept;
  }

  -- nothing of the queue head is told any more
  gone_still : (hand : Hand) (parts : StructureSets) (later : ℕ → List ℕ) → HasOwners d → x.gone ≡ false → HoldsEach new hand parts later → HoldsEach new hand (without_queue parts (32 * x.queue)) later
  gone_still hand parts later owners kept k =
      holds_still new hand hand parts (without_queue parts (32 * x.queue)) later
      (λ i t z y a n bytes is on one done.
      let was = was_next i t z y is in
      let alive : z.gone ≡ false = told_stands_alive z (g.only.endpoints i z was.next.endpoint) is.going in
      let same : without_queue parts (32 * x.queue) (32 * z.queue) ≡ parts (32 * z.queue) = queue_beside parts (32 * x.queue) (32 * z.queue)
      (queues_differ d e i (runs_of_endpoint x) (runs_of_endpoint z) owners (queue_in e x g.here kept) (queue_in i z was.next.endpoint alive) was.differs) in
      spared_is_done hand hand parts (without_queue parts (32 * x.queue)) (32 * z.queue) a n bytes (same_hand hand) (heads_stay parts (without_queue parts (32 * x.queue)) (32 * z.queue) same)
      (elements_stay parts (without_queue parts (32 * x.queue)) (32 * z.queue) (32 * a) same) done) k

  -- ---- names

  names_now : NamesAt e (named_of (gone_of x)) (named_in d.endpoints) (named_in new.endpoints)
  names_now = record { here = ap (option_map named_of) now_gone; beside = λ i differs. ap (option_map named_of) (still_here i differs) }

  -- one that had ended otherwise is named as before
  names_same : is_told x ≡ false → (i : ℕ) → named_in new.endpoints i ≡ named_in d.endpoints i
  names_same untold i =
      ⊎_elim (λ (is : i ≡ e).
      ap (named_in new.endpoints) is ∙ names_now.here ∙ ap (λ (c : Option EndCause). Some (record { name = x.desc.name; stream = has_stream x.desc.kind; ended = c })) (told_gone (gone_of x) refl ∙ sym (untold_same x untold))
      ∙ sym (ap (option_map named_of) g.here) ∙ ap (named_in d.endpoints) (sym is))
      (λ (differs : i ≢ e). names_now.beside i differs) (cases_eq i e)

  -- ---- all together

  gone_stands : (hand : Hand) (parts : StructureSets) (reported held later told now : ℕ → List ℕ) → HasOwners d → x.gone ≡ false → d.command ≡ None → ((i : ℕ) → i ≢ e → later i ≡ held i) → (has_stream x.desc.kind ≡ true → later e ≡ []) → ((i : ℕ) → i ≢ e → now i ≡ told i) → HoldsEach d hand parts held
      → ((i : ℕ) (z : Endpoint) → slice_get d.endpoints i ≡ Some z → IsThere d z → told i ≡ reported (32 * z.queue)) → TellsEach new.reports new.store (named_in new.endpoints) later now
      → ToldStands new hand (without_queue parts (32 * x.queue)) reported
  gone_stands hand parts reported held later told now owners kept idle others none_held beside holds met tells = record {
    held = later;
    told = now;
    holds = gone_still hand parts later owners kept (gone_holds hand parts held later others none_held holds);
    tells = tells;
    met = λ i z here there.
        ⊎_elim (λ (own : (i ≡ e) × (z ≡ gone_of x)). absurd (false≢true (sym there.kept ∙ ap (λ (r : Endpoint). r.gone) own.1)))
        (λ (other : (i ≢ e) × (slice_get d.endpoints i ≡ Some z)). beside i other.0 ∙ met i z other.1 (record { linked = λ is. there.linked (g.command ∙ is); kept = there.kept })) (which i z here);
    opening = λ i z here alive opens. absurd (no_command z.queue (sym idle ∙ (sym g.command ∙ opens)));
  }
    where
      no_command : (b : ℕ) → None ≡ Some (unfinished.Open b) → ⊥
      no_command b is = cc

-- ---- the row

module _ (order : ℕ → ℕ) (parts : StructureSets) (hand : Hand) (p : Parts) (e : ℕ) (x : Endpoint) (acc : List (List ℕ)) (reported : ℕ → List ℕ) (l : IsLeaver parts hand p e x) (reports_it : has_stream x.desc.kind ≡ true → IsReported order (out_now p.driver e) hand parts (32 * x.queue) acc (reported (32 * x.queue))) (k : ToldStands p.driver hand parts reported) where
  abbrev d : DriverContent
  d = p.driver

  abbrev bytes : List ℕ
  bytes = cancelled_bytes d.notes p.memory e x.queue d.transfers

  abbrev lined : Bool → DriverContent
  lined b = if b then with_line d lines.Cancel x.desc.name bytes else d

  abbrev after : Bool → Book → DriverContent
  after b book = gone_with (lined b) e x b book

  abbrev Stands : DriverContent → Type 0
  Stands new = ToldStands new hand (without_queue parts (32 * x.queue)) reported × IsToldGone d new e x acc

  is_standing : StandsAsynchronous x
  is_standing = l.turns.asynchronous.endpoints e x l.leaves.here

  over : x.ended ≢ None
  over = is_standing.ended (is_standing.unlinked l.unlinked)

  its_name : named_in d.endpoints e ≡ Some (named_of x)
  its_name = ap (option_map named_of) l.leaves.here

  there : IsThere d x
  there = record { linked = λ is. no_command x.queue (sym l.idle ∙ is); kept = l.leaves.held }
    where
      no_command : (b : ℕ) → None ≡ Some (unfinished.Open b) → ⊥
      no_command b is = cc

  abbrev later : ℕ → List ℕ
  later i = if i == e then [] else k.held i

  abbrev line : Report
  line = record { name = x.desc.name; what = lines.Cancel; from = length d.store; len = length bytes }

  given_back : (book : Book) (b : Bool) → (after b book).endpoints ≡ slice_set d.endpoints e (gone_of x) → (after b book).transfers ≡ map (let_go e b) d.transfers → (after b book).notes ≡ d.notes → (after b book).command ≡ d.command
      → IsGivenBack d (after b book) e x b
  given_back book b endpoints transfers notes command = record {
    here = l.leaves.here;
    over = over;
    only = l.turns.asynchronous;
    turns = l.turns.turns;
    endpoints = endpoints;
    transfers = transfers;
    notes = notes;
    command = command;
  }

  -- its cancel is told
  told_stands : (book : Book) → has_stream x.desc.kind ≡ true → is_told x ≡ true → Stands (after true book)
  told_stands book on told = (
    gone_stands d (after true book) e x true g hand parts reported k.held later k.told now l.owners l.leaves.held l.idle clears.beside (λ _. clears.here) grows.beside k.holds k.met tells,
    record {
      gone = now_gone d (after true book) e x true g;
      told = λ _ _. sym (append-nil (told_to (after true book) x.desc.name)) ∙ ap (λ (xs : List ℕ). told_to (after true book) x.desc.name ++ xs) (sym clears.here) ∙ one.sum ∙ grows.here
          ∙ ap (λ (xs : List ℕ). xs ++ r.told) (k.met e x l.leaves.here there) ∙ r.sum;
      before = λ untold. absurd (false≢true (sym untold ∙ told));
    },
  )
    where
      g : IsGivenBack d (after true book) e x true
      g = given_back book true refl refl refl refl

      r : IsReported order (out_now p.driver e) hand parts (32 * x.queue) acc (reported (32 * x.queue))
      r = reports_it on

      now : ℕ → List ℕ
      now i = if i == e then k.told i ++ (reports_it on).told else k.told i

      clears : Clears e k.held later
      clears = cleared_at e k.held

      grows : Grows e r.told k.told now
      grows = grown_at e r.told k.told

      tells : TellsEach (after true book).reports (after true book).store (named_in (after true book).endpoints) later now
      tells = adds_bytes d.reports d.store bytes r.told (named_in d.endpoints) (named_in (after true book).endpoints) k.held later k.told now e (named_of x) (named_of (gone_of x)) line its_name (names_now d (after true book) e x true g)
          (record {
            going = goes_untold x told;
            named = refl;
            alike = refl;
            line_named = refl;
            tells = refl;
            goes_on = λ goes. absurd (no_end d (after true book) e x true g goes);
            from = refl;
            long = refl;
            bytes_are = cancel_tells order r.place d p.memory parts hand e x (k.held e) r.told (leaver_can_be_told parts hand p e x reported l on told k) r.accounts;
          }) clears grows k.tells

      one : IsToldTo (after true book).reports (after true book).store (named_of (gone_of x)) (later e) (now e)
      one = tells.each e (named_of (gone_of x)) (names_now d (after true book) e x true g).here on

  -- so is that of one without a stream
  other_stands : (book : Book) → has_stream x.desc.kind ≡ false → is_told x ≡ true → Stands (after true book)
  other_stands book silent told = (
    gone_stands d (after true book) e x true g hand parts reported k.held k.held k.told k.told l.owners l.leaves.held l.idle (λ i differs. refl) (λ on. absurd (false≢true (sym silent ∙ on))) (λ i differs. refl) k.holds k.met
        (requests_add_no_stream d.reports d.store bytes (named_in d.endpoints) (named_in (after true book).endpoints) k.held k.told e (named_of x) (named_of (gone_of x)) line its_name (names_now d (after true book) e x true g)
        (record { named = refl; none = silent; line_named = refl; tells = refl; from = refl; long = refl }) k.tells),
    record { gone = now_gone d (after true book) e x true g; told = λ on _. absurd (false≢true (sym silent ∙ on)); before = λ untold. absurd (false≢true (sym untold ∙ told)) },
  )
    where
      g : IsGivenBack d (after true book) e x true
      g = given_back book true refl refl refl refl

  -- it had ended by an error
  untold_stands : (book : Book) → is_told x ≡ false → Stands (after false book)
  untold_stands book untold = (
    gone_stands d (after false book) e x false g hand parts reported k.held k.held k.told k.told l.owners l.leaves.held l.idle (λ i differs. refl) (λ on. none_held on x.ended refl) (λ i differs. refl) k.holds k.met
        (keeps_names d.reports d.store (named_in d.endpoints) (named_in (after false book).endpoints) k.held k.told (names_same d (after false book) e x false g untold) k.tells),
    record { gone = now_gone d (after false book) e x false g; told = λ on told. absurd (false≢true (sym untold ∙ told)); before = λ _. refl },
  )
    where
      g : IsGivenBack d (after false book) e x false
      g = given_back book false refl refl refl refl

      none_held : has_stream x.desc.kind ≡ true → (o : Option EndCause) → x.ended ≡ o → k.held e ≡ []
      none_held on None is = absurd (over is)
      none_held on (Some c) is = ((k.tells.each e (named_of x) its_name on).over c (untold_same x untold ∙ is)).0

  gone_by : (book : Book) (b : Bool) → is_told x ≡ b → Stands (after b book)
  gone_by book true told = by_stream (has_stream x.desc.kind) refl
    where
      by_stream : (b : Bool) → has_stream x.desc.kind ≡ b → Stands (after true book)
      by_stream true on = told_stands book on told
      by_stream false silent = other_stands book silent told
  gone_by book false untold = untold_stands book untold

  pub release_is_told : Stands (after_driver_row (endpoint_row e) p).driver
  release_is_told = subst (λ (o : Option Endpoint). Stands (after_endpoint p e o).driver) (sym l.leaves.here) (gone_by (free_endpoint d e x (holding d.book p.memory)).book (is_told x) refl)
