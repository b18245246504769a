-- A get, a put or a request is accepted: the requests of the other control endpoints stand as they did.
use Rattle.std.proofs.Common.{◌≡◌, ◌≢◌, ℕ, zero, suc, ◌-◌, ◌*◌, ◌<◌, ◌≤◌, ◌&&◌, not, Bool, true, false, List, [], ◌∷◌, ◌++◌, length, nat_eq, slice_get, if◌then◌else◌, Option, Some, None, ap, refl, sym, subst, ◌∙◌, ⊎_elim, inl, inr, arith}
use Rattle.std.specs.Prelude.{◌⊎◌}
use Rattle.std.proofs.lemmas.Bool.{cases_eq, false≢true}
use Rattle.std.proofs.lemmas.Option.{same_Some, slice_get_within}
use Rattle.law_queues.proofs.Common.{none_open}
use Rattle.law_common.proofs.Numbers.{other_number}
use Rattle.law_common.proofs.Lists.{set_here, set_there, push_which}
use Rattle.law_world.proofs.Common.{newest_there}
use Rattle.word_mem.specs.Memory.{Mem}
use Rattle.mem_runs.specs.Book.{Holding}
use Rattle.bus_wire.specs.Bus.{Wired}
use Rattle.drv_table.specs.declared.content.Command.{Command}
use Rattle.drv_table.specs.declared.content.Endpoint.{Endpoint}
use Rattle.drv_table.specs.declared.content.QtdNote.{QtdNote}
use Rattle.drv_table.specs.declared.content.Transfer.{Transfer}
use Rattle.drv_table.specs.DriverContent.{DriverContent}
use Rattle.drv_table.specs.Harvests.{note_at}
use Rattle.drv_table.specs.Offers.{Asked, first_of, stage_words, new_transfer, with_queued, accepted_transfer}
use Rattle.claims_driver.specs.Owners.{note_in}
use Rattle.law_driver.specs.endpoint_lives.Lives.{told_end}
use Rattle.law_driver.specs.chained_transfers.Turns.{IsAtPlace, AreAtPlaces}
use Rattle.law_queues.proofs.lemmas.fed_lends.Asked.{set_which}
use Rattle.law_driver_ring.specs.told_harvests.Held.{IsOneFrom}
use Rattle.law_queues.proofs.lemmas.harvest_laws.Places.{one_later, unmoved_noted}
use Rattle.law_structures.specs.lent_structures.Structures.{StructureSets}
use Rattle.claims_report.specs.Requests.{Request}
use Rattle.law_ring.specs.Hand.{Hand}
use Rattle.claims_world.specs.Requests.{Windows, opens}
use Rattle.law_reports.proofs.lemmas.requests.lemmas.driver_requests.Ordering.{numbers_still}
use Rattle.law_reports.proofs.lemmas.requests.lemmas.driver_requests.Owning.{qtds_case}
use Rattle.law_reports.specs.requests.Courses.{Course, queue_in}
use Rattle.law_reports.specs.requests.Counts.{counted_all}
use Rattle.law_reports.specs.requests.Records.{Numbers, AreRecords}
use Rattle.law_reports.specs.requests.Telling.{AddsTransfer}
use Rattle.law_reports.proofs.lemmas.requests.Telling.{other_accepted_keeps_telling}
use Rattle.law_queues.specs.standing_fronts.Tails.{tail_block}
use Rattle.law_reports.specs.requests.Asking.{Sides, IsGiven, Asking, has_left, is_publishing, is_next_of, HasCourse, IsPublishing, DataIsRead, IsReadTo, HasTelling, IsControlOf, IsMetControl, IsCountedOn, AsksIn}
use Rattle.law_reports.proofs.lemmas.requests.Noting.{NotesStay}
use Rattle.law_reports.proofs.lemmas.requests.Storing.{next_first}
use Rattle.drv_table.specs.declared.content.Command.TheVariants as unfinished

module _ (sides : Sides) (member : ℕ → Bool) (parts : StructureSets) (hand : Hand) (a : Asking) (v : Windows) (asks : ℕ → Request)
    (d : DriverContent) (m : Mem) (wire : Wired) (world : AsksIn sides member parts hand a v asks d m wire)
    (number : ℕ) (x : Endpoint) (q : Asked) (h : Holding) (dummy : ℕ) (notes : List QtdNote) (idle : d.command ≡ None) (here : slice_get d.endpoints number ≡ Some x) (places : AreAtPlaces (note_in d.notes) d.transfers)
    (noted : NotesStay d x.dummy (length q.stages) notes) (later : ℕ → Numbers) (now : ℕ → Request) (asked : (t : ℕ) → t < length d.transfers → now t ≡ asks t) where
  abbrev new : Transfer
  new = new_transfer number q x.dummy

  abbrev end : Endpoint
  end = with_queued x dummy (length d.transfers)

  abbrev pub taken : DriverContent
  taken = (accepted_transfer d number x q h dummy notes).driver

  abbrev words : List ℕ
  words = stage_words notes (first_of q.stages) x.dummy dummy (nat_eq (length q.stages) 1)

  which : (i : ℕ) (u : Endpoint) → slice_get (accepted_transfer d number x q h dummy notes).driver.endpoints i ≡ Some u
      → ((i ≡ number) × (u ≡ with_queued x dummy (length d.transfers))) ⊎ ((i ≢ number) × (slice_get d.endpoints i ≡ Some u))
  which i u there = set_which d.endpoints number i x end u here there

  control_before : (i : ℕ) (u : Endpoint) → IsControlOf sides (accepted_transfer d number x q h dummy notes).driver i u → i ≢ number
      → IsControlOf sides d i u
  control_before i u is differs =
      ⊎_elim {C = IsControlOf sides d i u} (λ (own : (i ≡ number) × (u ≡ end)). absurd (differs own.0)) (λ (other : (i ≢ number) × (slice_get d.endpoints i ≡ Some u)). record { here = other.1; control = is.control }) (which i u is.here)

  met_before : (i : ℕ) (u : Endpoint) → IsMetControl sides (accepted_transfer d number x q h dummy notes).driver i u → i ≢ number
      → IsMetControl sides d i u
  met_before i u is differs = record {
    is = control_before i u is.is differs;
    met = record { there = record { linked = λ opens. none_open u.queue (sym idle ∙ opens); kept = is.met.there.kept }; near = is.met.near };
  }

  none_next : (i : ℕ) → is_next_of d i ≡ false
  none_next i = ap (λ (c : Option Command). is_publishing c (slice_get d.transfers (length d.transfers - 1)) i) idle

  not_next : (i : ℕ) → i ≢ number → is_next_of (accepted_transfer d number x q h dummy notes).driver i ≡ false
  not_next i differs =
      ap (λ (o : Option Transfer). is_publishing (Some (unfinished.Publish x.dummy words)) o i) (newest_there d.transfers new) ∙ other_number number i (λ same. differs (sym same))

  pub tail_before : (i : ℕ) (u : Endpoint) → tail_block d.command (slice_get d.transfers (length d.transfers - 1)) i u.dummy ≡ u.dummy
  tail_before i u = ap (λ (c : Option Command). tail_block c (slice_get d.transfers (length d.transfers - 1)) i u.dummy) idle

  tail_then : (i : ℕ) (u : Endpoint) → i ≢ number
      → tail_block (accepted_transfer d number x q h dummy notes).driver.command (slice_get (d.transfers ++ new ∷ []) (length (d.transfers ++ new ∷ []) - 1)) i u.dummy ≡ u.dummy
  tail_then i u differs =
      ap (λ (o : Option Transfer). tail_block (Some (unfinished.Publish x.dummy words)) o i u.dummy) (newest_there d.transfers new)
      ∙ ap (λ (z : Bool). if z then x.dummy else u.dummy) (other_number number i (λ same. differs (sym same)))

  course_beside : (i : ℕ) (u : Endpoint) (c : Course) (k : Numbers) → i ≢ number → HasCourse sides d i u c k
      → HasCourse sides (accepted_transfer d number x q h dummy notes).driver i u c k
  course_beside i u c k differs f = record {
    queue = f.queue;
    endpoint = f.endpoint;
    number = f.number;
    tail = f.tail ∙ ap (λ (j : ℕ). 32 * j) (tail_before i u ∙ sym (tail_then i u differs));
    count = f.count ∙ ap (λ (z : Bool). if z then suc (queue_in c).count else (queue_in c).count) (none_next i ∙ sym (not_next i differs));
    newest = λ next. absurd (false≢true (sym (not_next i differs) ∙ next));
    next = f.next;
    ended = f.ended;
    owed = f.owed;
  }

  pub adds : AddsTransfer d (accepted_transfer d number x q h dummy notes).driver (new_transfer number q x.dummy) asks now
  adds = record { transfers = refl; fresh = refl; reports = refl; store = refl; asked = asked }

  telling_beside : (i : ℕ) (u : Endpoint) (k : Numbers) → i ≢ number → HasTelling d asks i u sides.whole v k
      → HasTelling (accepted_transfer d number x q h dummy notes).driver now i u sides.whole v k
  telling_beside i u k differs f = record {
    reported = f.reported;
    untold = f.untold;
    closed = f.closed;
    going = f.going;
    uncancelled = f.uncancelled;
    telling = other_accepted_keeps_telling d taken new asks now i u.desc.name (sides.whole u.desc.name) v f.reported _ adds f.uncancelled (λ same. differs (sym same)) f.telling;
  }

  -- ---- what was read

  pub read_stays : (t n : ℕ) (y : Transfer) (r : Request) → slice_get d.transfers t ≡ Some y → y.released ≡ false → 2 ≤ y.qtds
      → IsReadTo hand parts n (note_at d.notes) y r → IsReadTo hand parts n (note_at notes) y r
  read_stays t n y r there kept some k =
      let p : IsAtPlace (note_in d.notes) y = places t y there kept in
      let most = p.most in
      let first : note_at notes y.first ≡ note_at d.notes y.first = noted.same t y y.first there kept (one_of y.first y.qtds (omega (arith, some))) in
      let j = (note_at d.notes y.first).next in
      let second : note_at notes j ≡ note_at d.notes j = noted.same t y j there kept (two_of y.first y.qtds some) in
      record {
        setup = ap (λ (z : QtdNote). z.moved) first ∙ k.setup;
        data_at = λ has one. subst (λ (z : QtdNote). DataIsRead hand parts n z.next (note_at notes z.next)) (sym first) (subst (λ (z : QtdNote). DataIsRead hand parts n j z) (sym second) (k.data_at has one));
        rest = unmoved_noted (note_at d.notes) (note_at notes) y.place y.left
            (λ c one. noted.same t y c there kept (one_later d.notes y.first (y.qtds - y.left) y.left y.qtds c (omega (arith, most)) (subst (λ (b : ℕ). IsOneFrom (note_at d.notes) b y.left c) p.place one))) k.rest;
      }
    where
      one_of : (b i : ℕ) → 1 ≤ i → IsOneFrom (note_at d.notes) b i b
      one_of b zero most = absurd (omega (arith, most))
      one_of b (suc i) most = inl refl

      two_of : (b i : ℕ) → 2 ≤ i → IsOneFrom (note_at d.notes) b i (note_at d.notes b).next
      two_of b zero most = absurd (omega (arith, most))
      two_of b (suc i) most = inr (one_of (note_at d.notes b).next i (omega (arith, most)))

  -- the first request of an endpoint, where it has one
  pub read_first : (i t : ℕ) (u : Endpoint) (y : Transfer) → IsMetControl sides d i u → told_end u ≡ None → u.next ≡ Some t
      → slice_get (d.transfers ++ new_transfer number q x.dummy ∷ []) t ≡ Some y
      → IsReadTo hand parts (32 * u.queue) (note_at notes) y ((a.numbers (32 * u.queue)).requests.requests 0)
  read_first i t u y is going next there =
      let n = 32 * u.queue in
      let r = (a.numbers n).requests.requests 0 in
      let course = world.each i u is in
      let first = next_first (a.numbers n).requests.count ((a.numbers n).number 0) t (sym next ∙ course.next going) in
      let laid = (world.records.each n course.queue).numbered.own.laid 0 (omega arith) first.0 in
      let at : slice_get d.transfers t ≡ Some laid.own = sym (ap (slice_get d.transfers) first.1) ∙ laid.here in
      let same : y ≡ laid.own = ⊎_elim {C = y ≡ laid.own} (λ (was : slice_get d.transfers t ≡ Some y). same_Some y laid.own (sym was ∙ at))
      (λ (late : (t ≡ length d.transfers) × (y ≡ new)). let low = slice_get_within d.transfers t laid.own at in let top = late.0 in absurd (omega (arith, low, top))) (push_which d.transfers new t y there) in
      let many = laid.qtds in
      let some : 2 ≤ laid.own.qtds = ⊎_elim {C = 2 ≤ laid.own.qtds} (λ none. let two = none.1 in omega (arith, many, two)) (λ has. let three = has.1 in omega (arith, many, three)) (qtds_case r) in
      subst (λ (z : Transfer). IsReadTo hand parts n (note_at notes) z r) (sym same) (read_stays t n laid.own r at laid.held some (world.read i t u laid.own is going next at))

  -- ---- the whole

  -- of its own endpoint, where that is a control endpoint
  pub record OwnAsks : Type 0 where
    pub course : HasCourse sides (accepted_transfer d number x q h dummy notes).driver number (with_queued x dummy (length d.transfers)) (a.courses (32 * x.queue)) (later (32 * x.queue))
    pub publishing : IsPublishing (accepted_transfer d number x q h dummy notes).driver (accepted_transfer d number x q h dummy notes).memory (with_queued x dummy (length d.transfers)) (parts (32 * x.queue)) (a.courses (32 * x.queue)) (later (32 * x.queue))
    pub read : (t : ℕ) (y : Transfer) → told_end (with_queued x dummy (length d.transfers)) ≡ None
        → (with_queued x dummy (length d.transfers)).next ≡ Some t
        → slice_get (d.transfers ++ new_transfer number q x.dummy ∷ []) t ≡ Some y
        → IsReadTo hand parts (32 * x.queue) (note_at notes) y ((later (32 * x.queue)).requests.requests 0)
    pub telling : HasTelling (accepted_transfer d number x q h dummy notes).driver now number (with_queued x dummy (length d.transfers)) sides.whole v (later (32 * x.queue))
    pub counted : IsCountedOn wire (accepted_transfer d number x q h dummy notes).driver v number (with_queued x dummy (length d.transfers))

  pub accepted_asks : AreRecords (accepted_transfer d number x q h dummy notes).driver now a.courses later (has_left sides (accepted_transfer d number x q h dummy notes).driver) v
      → ((i : ℕ) (u : Endpoint) → IsMetControl sides d i u → i ≢ number → later (32 * u.queue) ≡ a.numbers (32 * u.queue))
      → ((n : ℕ) → (later n).endpoint ≡ (a.numbers n).endpoint) → (sides.asks x.desc ≡ true → OwnAsks)
      → AsksIn sides member parts hand (record { courses = a.courses; numbers = later }) v now (accepted_transfer d number x q h dummy notes).driver (accepted_transfer d number x q h dummy notes).memory wire
  accepted_asks records same fields own = record {
    stand = world.stand;
    records = records;
    each = λ i u is.
        by i u is.is (λ (j : ℕ) (z : Endpoint). HasCourse sides taken j z (a.courses (32 * z.queue)) (later (32 * z.queue))) (λ control. (own control).course)
        (λ differs.
        let met = met_before i u is differs in
        subst (λ (k : Numbers). HasCourse sides taken i u (a.courses (32 * u.queue)) k) (sym (same i u met differs)) (course_beside i u (a.courses (32 * u.queue)) (a.numbers (32 * u.queue)) differs (world.each i u met)));
    asked = λ n u has there.
        let at : slice_get taken.endpoints (a.numbers n).endpoint ≡ Some u = ap (slice_get taken.endpoints) (sym (fields n)) ∙ there in
        ⊎_elim {C = sides.asks u.desc ≡ true}
        (λ (is_own : ((a.numbers n).endpoint ≡ number) × (u ≡ end)).
        ap (λ (z : Endpoint). sides.asks z.desc) is_own.1 ∙ world.asked n x has (ap (slice_get d.endpoints) is_own.0 ∙ here))
        (λ (is_other : ((a.numbers n).endpoint ≢ number) × (slice_get d.endpoints (a.numbers n).endpoint ≡ Some u)). world.asked n u has is_other.1) (which (a.numbers n).endpoint u at);
    publishing = λ i u is next.
        by i u is.is (λ (j : ℕ) (z : Endpoint). IsPublishing taken (accepted_transfer d number x q h dummy notes).memory z (parts (32 * z.queue)) (a.courses (32 * z.queue)) (later (32 * z.queue))) (λ control. (own control).publishing)
        (λ differs. absurd (false≢true (sym (not_next i differs) ∙ next)));
    read = λ i t u y is going next there.
        by i u is.is
        (λ (j : ℕ) (z : Endpoint). told_end z ≡ None → z.next ≡ Some t → IsReadTo hand parts (32 * z.queue) (note_at notes) y ((later (32 * z.queue)).requests.requests 0))
        (λ control live first. (own control).read t y live first there)
        (λ differs live first.
        let met = met_before i u is differs in
        subst (λ (k : Numbers). IsReadTo hand parts (32 * u.queue) (note_at notes) y (k.requests.requests 0)) (sym (same i u met differs)) (read_first i t u y met live first there)) going next;
    telling = λ i u is.
        by i u is.is (λ (j : ℕ) (z : Endpoint). HasTelling taken now j z sides.whole v (later (32 * z.queue))) (λ control. (own control).telling)
        (λ differs.
        let met = met_before i u is differs in
        subst (λ (k : Numbers). HasTelling taken now i u sides.whole v k) (sym (same i u met differs)) (telling_beside i u (a.numbers (32 * u.queue)) differs (world.telling i u met)));
    given = λ i u is.
        ⊎_elim (λ (is_own : (i ≡ number) × (u ≡ end)). subst (λ (z : Endpoint). IsGiven sides z.desc) (sym is_own.1) (world.given number x (record { here = here; control = sym (ap (λ (z : Endpoint). sides.asks z.desc) is_own.1) ∙ is.control })))
        (λ (other : (i ≢ number) × (slice_get d.endpoints i ≡ Some u)). world.given i u (record { here = other.1; control = is.control })) (which i u is.here);
    counts = λ i u is off.
        by i u is (λ (j : ℕ) (z : Endpoint). IsCountedOn wire taken v j z) (λ control. (own control).counted)
        (λ differs.
        let f = world.counts i u (control_before i u is differs) (ap (λ (c : Option Command). opens c u.queue && not u.gone) idle) in
        record { device = f.device; is = f.is; acted = f.acted ∙ ap (λ (ts : List ℕ). counted_all v ts 0) (sym (numbers_still d taken i new refl (λ of. differs (sym of)))) });
    unopened = λ addr num c least none first.
        world.unopened addr num c least
        (λ i z there one two.
        absurd (false≢true
        (⊎_elim {C = false ≡ true} (λ (at : i ≡ number).
        let is : z ≡ x = same_Some z x (sym there ∙ ap (slice_get d.endpoints) at ∙ here) in
        none number end (set_here d.endpoints number x end here) (ap (λ (w : Endpoint). w.desc.name.addr) (sym is) ∙ one) (ap (λ (w : Endpoint). w.desc.name.num) (sym is) ∙ two))
        (λ (differs : i ≢ number). none i z (set_there d.endpoints number i end differs ∙ there) one two) (cases_eq i number)))) first;
    untold = λ name unnamed.
        world.untold name
        (λ i z there named.
        absurd (false≢true
        (⊎_elim {C = false ≡ true} (λ (at : i ≡ number).
        let is : z ≡ x = same_Some z x (sym there ∙ ap (slice_get d.endpoints) at ∙ here) in
        unnamed number end (set_here d.endpoints number x end here) (ap (λ (w : Endpoint). w.desc.name) (sym is) ∙ named))
        (λ (differs : i ≢ number). unnamed i z (set_there d.endpoints number i end differs ∙ there) named) (cases_eq i number))));
    unmissed = record { structures = world.unmissed.structures; in_hand = world.unmissed.in_hand; first = λ some t is range. absurd (omega (arith, some)) };
  }
    where
      by : (i : ℕ) (u : Endpoint) → IsControlOf sides taken i u → (P : ℕ → Endpoint → Type 0) → (sides.asks x.desc ≡ true → P number end)
          → (i ≢ number → P i u) → P i u
      by i u is P mine other =
          ⊎_elim {C = P i u}
          (λ (is_own : (i ≡ number) × (u ≡ end)).
          subst (λ (j : ℕ). P j u) (sym is_own.0) (subst (P number) (sym is_own.1) (mine (sym (ap (λ (z : Endpoint). sides.asks z.desc) is_own.1) ∙ is.control))))
          (λ (is_other : (i ≢ number) × (slice_get d.endpoints i ≡ Some u)). other is_other.0) (which i u is.here)
