-- An endpoint is opened: the requests of all others stand as they did, and until its queue head is in the ring nothing is told or counted of it.
use Rattle.std.proofs.Common.{[], ◌≡◌, ◌≢◌, ℕ, suc, ◌-◌, ◌*◌, ◌==◌, ◌&&◌, ◌||◌, not, Bool, true, false, List, ◌∷◌, length, drop, get_or, slice_get, if◌then◌else◌, Option, Some, None, option_map, ap, refl, sym, subst, ◌∙◌, ⊎_elim, arith}
use Rattle.std.specs.Prelude.{◌⊎◌}
use Rattle.std.proofs.lemmas.Bool.{false≢true, and_parts, eqb-true}
use Rattle.law_queues.proofs.Common.{none_open}
use Rattle.law_common.proofs.Booleans.{not_on}
use Rattle.law_common.proofs.Lists.{drop_first, push_which, still_there}
use Rattle.law_reports.proofs.Common.{regone}
use Rattle.law_world.proofs.Common2.{opens_is}
use Rattle.usb_base.specs.declared.endpoints.EpDesc.{EpDesc}
use Rattle.word_mem.specs.Memory.{Mem}
use Rattle.mem_runs.specs.Book.{Holding, holding}
use Rattle.bus_wire.specs.Bus.{Fixed, Wired}
use Rattle.drv_table.specs.declared.content.Command.{Command}
use Rattle.drv_table.specs.declared.content.Endpoint.{Endpoint}
use Rattle.drv_table.specs.DriverContent.{DriverContent}
use Rattle.drv_table.specs.Accepting.{Offered, new_runs}
use Rattle.drv_table.specs.Offers.{new_endpoint, accepted_open}
use Rattle.drv_table.specs.Kinds.{is_iso}
use Rattle.claims_driver.specs.Owners.{QueueHead, runs_of_endpoint}
use Rattle.law_driver.proofs.lemmas.run_owners.Runs.{placed_run}
use Rattle.law_driver.proofs.lemmas.run_owners.Taking.{runs_taken}
use Rattle.law_driver.proofs.lemmas.run_owners.Accepted.{fresh_differs}
use Rattle.law_driver.specs.chained_transfers.Asynchronous.{IsOpenedAsynchronous}
use Rattle.law_driver.proofs.lemmas.chained_transfers.BulkAndControl.{not_iso}
use Rattle.law_structures.specs.lent_structures.Structures.{StructureSets}
use Rattle.claims_report.specs.Requests.{Request}
use Rattle.law_ring.specs.Hand.{Hand}
use Rattle.bus_world.specs.World.{World}
use Rattle.law_world.specs.steps.Streaming.{Streams, Standing}
use Rattle.claims_world.specs.Requests.{Windows, wired, opens, is_opening}
use Rattle.law_reports.specs.requests.driver_requests.Rows.{KeepsRequests}
use Rattle.law_reports.specs.requests.Courses.{queue_in}
use Rattle.law_reports.proofs.lemmas.requests.Rows.{accepted_keeps_records}
use Rattle.law_queues.specs.standing_fronts.Tails.{tail_block}
use Rattle.law_reports.specs.requests.Asking.{Sides, IsGiven, Asking, left_with, has_left, is_publishing, IsMetControl, IsAskingWorld, AsksIn}
use Rattle.law_reports.specs.requests.Footing.{IsFooting}
use Rattle.std.proofs.lemmas.Option.{same_Some}
use Rattle.drv_table.specs.declared.content.Command.TheVariants as unfinished

module _ (sides : Sides) (member : ℕ → Bool) (parts : StructureSets) (hand : Hand) (a : Asking) (v : Windows) (asks : ℕ → Request)
    (d : DriverContent) (m : Mem) (wire : Wired) (world : AsksIn sides member parts hand a v asks d m wire)
    (idle : d.command ≡ None) (desc : EpDesc) (h : Holding) (queue dummy : ℕ) (apart : (i : ℕ) (z : Endpoint) → slice_get d.endpoints i ≡ Some z → z.gone ≡ false → queue ≢ z.queue)
    (given : sides.asks desc ≡ true → IsGiven sides desc) where
  abbrev new : Endpoint
  new = new_endpoint desc queue dummy

  abbrev more : DriverContent
  more = (accepted_open d desc h queue dummy).driver

  which : (i : ℕ) (u : Endpoint) → slice_get (accepted_open d desc h queue dummy).driver.endpoints i ≡ Some u
      → (slice_get d.endpoints i ≡ Some u) ⊎ ((i ≡ length d.endpoints) × (u ≡ new))
  which i u there = push_which d.endpoints new i u there

  -- one that the walk may meet was there
  met_was : (i : ℕ) (u : Endpoint) → IsMetControl sides (accepted_open d desc h queue dummy).driver i u → IsMetControl sides d i u
  met_was i u is =
      let was : slice_get d.endpoints i ≡ Some u =
      ⊎_elim {C = slice_get d.endpoints i ≡ Some u} (λ (old : slice_get d.endpoints i ≡ Some u). old)
      (λ (own : (i ≡ length d.endpoints) × (u ≡ new)). absurd (is.met.there.linked (ap (λ (z : Endpoint). Some (unfinished.Open z.queue)) (sym own.1)))) (which i u is.is.here) in
      record {
        is = record { here = was; control = is.is.control };
        met = record { there = record { linked = λ opening. none_open u.queue (sym idle ∙ opening); kept = is.met.there.kept }; near = is.met.near };
      }

  -- no other one stands in its block
  not_opening : (i : ℕ) (z : Endpoint) → slice_get d.endpoints i ≡ Some z → is_opening (accepted_open d desc h queue dummy).driver z ≡ true
      → ⊥
  not_opening i z there on =
      let both = and_parts (queue == z.queue) (not z.gone) on in
      apart i z there (not_on z.gone both.1) (eqb-true queue z.queue both.0)

  keeps : (i : ℕ) → KeepsRequests None d (accepted_open d desc h queue dummy).driver i
  keeps i = record {
    endpoint = λ u at. record { own = u; here = still_there d.endpoints (new ∷ []) i u at; desc = refl; queue = refl; gone = refl };
    transfers = λ t y there of. record { own = y; here = there; endpoint = refl; sort = refl; first = refl; qtds = refl; held = λ other. refl };
    notes = λ t b y there of held piece. refl;
  }

  left_before : (i : ℕ) → has_left sides (accepted_open d desc h queue dummy).driver i ≡ true → has_left sides d i ≡ true
  left_before i on = by (slice_get more.endpoints i) refl
    where
      by : (o : Option Endpoint) → slice_get more.endpoints i ≡ o → has_left sides d i ≡ true
      by None is = absurd (false≢true (sym (ap (left_with sides more i) is) ∙ on))
      by (Some u) is =
          ⊎_elim {C = has_left sides d i ≡ true} (λ (old : slice_get d.endpoints i ≡ Some u). ap (left_with sides d i) old ∙ sym (ap (left_with sides more i) is) ∙ on)
          (λ (own : (i ≡ length d.endpoints) × (u ≡ new)).
          absurd (false≢true (and_parts (sides.asks desc) false (sym (ap (left_with sides more i) is ∙ ap (λ (z : Endpoint). left_with sides more i (Some z)) own.1) ∙ on)).1)) (which i u is)

  pub opened_asks : (now : Mem) → AsksIn sides member parts hand a v asks (accepted_open d desc h queue dummy).driver now wire
  opened_asks now = record {
    stand = world.stand;
    records = regone more asks a.courses a.numbers (has_left sides d) (has_left sides more) v left_before (accepted_keeps_records d more asks a.courses a.numbers (has_left sides d) v keeps refl world.records);
    each = λ i u is.
        let f = world.each i u (met_was i u is) in
        record {
          queue = f.queue;
          endpoint = f.endpoint;
          number = f.number;
          tail = f.tail ∙ ap (λ (z : Option Command). 32 * tail_block z (slice_get d.transfers (length d.transfers - 1)) i u.dummy) idle;
          count = f.count
              ∙ ap (λ (z : Bool). if z then suc (queue_in (a.courses (32 * u.queue))).count else (queue_in (a.courses (32 * u.queue))).count) (ap (λ (z : Option Command). is_publishing z (slice_get d.transfers (length d.transfers - 1)) i) idle);
          newest = λ next. absurd (false≢true next);
          next = f.next;
          ended = f.ended;
          owed = f.owed;
        };
    asked = λ n u has there.
        let end = (world.records.each n has).numbered.own.endpoint in
        let own : end.own ≡ u = same_Some end.own u (sym (still_there d.endpoints (new ∷ []) (a.numbers n).endpoint end.own end.here) ∙ there) in
        ap (λ (z : Endpoint). sides.asks z.desc) (sym own) ∙ world.asked n end.own has end.here;
    publishing = λ i u is next. absurd (false≢true next);
    read = λ i t u y is going next there. world.read i t u y (met_was i u is) going next there;
    telling = λ i u is.
        let f = world.telling i u (met_was i u is) in
        record { reported = f.reported; untold = f.untold; closed = f.closed; going = f.going; uncancelled = f.uncancelled; telling = record { numbers = f.telling.numbers; told = f.telling.told; wait = f.telling.wait } };
    given = λ i u is.
        ⊎_elim {C = IsGiven sides u.desc} (λ (old : slice_get d.endpoints i ≡ Some u). world.given i u (record { here = old; control = is.control }))
        (λ (own : (i ≡ length d.endpoints) × (u ≡ new)).
        subst (λ (z : Endpoint). IsGiven sides z.desc) (sym own.1) (given (ap (λ (z : Endpoint). sides.asks z.desc) (sym own.1) ∙ is.control))) (which i u is.here);
    counts = λ i u is off.
        let was : slice_get d.endpoints i ≡ Some u =
        ⊎_elim {C = slice_get d.endpoints i ≡ Some u} (λ (old : slice_get d.endpoints i ≡ Some u). old)
        (λ (own : (i ≡ length d.endpoints) × (u ≡ new)).
        absurd (false≢true (sym off ∙ ap (λ (z : Endpoint). is_opening more z) own.1 ∙ ap (λ (b : Bool). b && true) (opens_is (Some (unfinished.Open queue)) queue refl)))) (which i u is.here) in
        let f = world.counts i u (record { here = was; control = is.control }) (ap (λ (z : Option Command). opens z u.queue && not u.gone) idle) in
        record { device = f.device; is = f.is; acted = f.acted };
    unopened = λ addr num c least none first. world.unopened addr num c least (λ i z there one two. absurd (not_opening i z there (none i z (still_there d.endpoints (new ∷ []) i z there) one two))) first;
    untold = λ name unheard. world.untold name (λ i z there named. absurd (not_opening i z there (unheard i z (still_there d.endpoints (new ∷ []) i z there) named)));
    unmissed = record { structures = world.unmissed.structures; in_hand = world.unmissed.in_hand; first = tt };
  }

module _ (g : Sides) (fixed : Fixed) (member : ℕ → Bool) (x : Streams) (s : Standing) (a : Asking) (v : Windows) (asks : ℕ → Request)
    (w : World) (o : Offered) (k : IsFooting member x s w)
    (world : IsAskingWorld g fixed member s a v asks w) (opened : IsOpenedAsynchronous w.driver w.memory o) where
  abbrev d : DriverContent
  d = w.driver

  -- the new queue head has blocks of its own
  apart : (e : ℕ) (z : Endpoint) → slice_get d.endpoints e ≡ Some z → z.gone ≡ false
      → get_or (new_runs d opened.opens.holding_after) 0 0 ≢ z.queue
  apart e z there kept is =
      let why = opened.opens in
      let standing = k.turns.asynchronous.endpoints e z there in
      let all = runs_taken (holding d.book w.memory) why.holding_after (2 ∷ 1 ∷ []) k.stands why.runs in
      let bs = all.blocks in
      let two : length bs ≡ 2 = all.are.long in
      let runs : new_runs d why.holding_after ≡ bs = ap (drop (length d.book.taken)) all.are.taken ∙ drop_first d.book.taken bs in
      let alive : is_iso z.desc.kind || z.gone ≡ false = ap (λ (b : Bool). b || z.gone) (not_iso z.desc standing.asynchronous) ∙ kept in
      fresh_differs 0 z.queue all.are (omega (arith, two))
      (placed_run z.queue (QueueHead e) (k.owners.owned.each.queue e (runs_of_endpoint z) (ap (option_map runs_of_endpoint) there) alive))
      (ap (λ (rs : List ℕ). get_or rs 0 0) (sym runs) ∙ is)

  pub opened_in : (g.asks opened.opens.desc ≡ true → IsGiven g opened.opens.desc)
      → AsksIn g member s.parts s.hand a v asks o.driver o.memory (wired fixed w)
  opened_in given =
      let h : Holding = opened.opens.holding_after in
      subst (λ (f : Offered). AsksIn g member s.parts s.hand a v asks f.driver f.memory (wired fixed w)) (sym opened.opens.is)
      (opened_asks g member s.parts s.hand a v asks w.driver w.memory (wired fixed w) world opened.opens.idle opened.opens.desc h (get_or (new_runs d h) 0 0) (get_or (new_runs d h) 1 0) apart given
      (accepted_open d opened.opens.desc h (get_or (new_runs d h) 0 0) (get_or (new_runs d h) 1 0)).memory)
