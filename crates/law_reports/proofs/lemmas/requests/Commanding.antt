-- A get, a put or a request is accepted: the requests of all control endpoints stand as they must.
use Rattle.std.proofs.Common.{◌≡◌, ◌≢◌, ℕ, zero, suc, ◌-◌, ◌*◌, ◌<◌, ◌≤◌, ◌&&◌, not, Bool, true, false, List, [], ◌∷◌, ◌++◌, length, nat_eq, slice_get, if◌then◌else◌, Option, Some, None, option_map, ap, refl, sym, subst, ◌∙◌, ⊎_elim, arith, length-append, append_assoc, ◌==◌}
use Rattle.std.specs.List.{AllByRecursion}
use Rattle.std.proofs.lemmas.Bool.{cases_eq, eq-eqb, false≢true, eqb-true}
use Rattle.std.proofs.lemmas.Option.{same_Some, slice_get_past}
use Rattle.law_reports.proofs.Common.{asked_before}
use Rattle.law_queues.proofs.Common.{none_open}
use Rattle.law_driver.proofs.Common.{control_way}
use Rattle.law_reports.proofs.Common.{regone}
use Rattle.law_common.proofs.Lists.{set_here, set_there}
use Rattle.law_common.proofs.Numbers.{other_number}
use Rattle.law_world.proofs.Common.{newest_there}
use Rattle.usb_base.specs.declared.endpoints.EpName.{EpName}
use Rattle.usb_base.specs.declared.packets.EpKind.{EpKind}
use Rattle.usb_base.specs.declared.packets.Way.{Way}
use Rattle.word_mem.specs.Memory.{Mem, IsShaped}
use Rattle.mem_runs.specs.Book.{Holding, holding, Stands}
use Rattle.bus_wire.specs.Bus.{Wired}
use Rattle.drv_table.specs.declared.content.Command.{Command}
use Rattle.drv_table.specs.declared.content.Endpoint.{Endpoint}
use Rattle.drv_table.specs.declared.content.QtdNote.{QtdNote}
use Rattle.drv_table.specs.declared.content.Transfer.{Transfer}
use Rattle.drv_table.specs.DriverContent.{DriverContent}
use Rattle.drv_table.specs.Harvests.{note_at}
use Rattle.drv_table.specs.Accepting.{Offered, new_runs, first_waiting}
use Rattle.drv_table.specs.Offers.{Asked, first_of as first_stage, stage_words, new_transfer, with_queued, accepted_transfer}
use Rattle.drv_table.specs.Words.{is_control}
use Rattle.law_driver.specs.run_owners.Accepts.{Transfers}
use Rattle.claims_driver.specs.Leaving.{HasOwners}
use Rattle.claims_driver.specs.Owners.{note_in}
use Rattle.claims_driver.specs.LentRuns.{AreLent}
use Rattle.law_driver.specs.endpoint_lives.Lives.{told_end, may_meet}
use Rattle.law_driver.proofs.lemmas.endpoint_lives.Lives.{told_some}
use Rattle.law_driver.specs.chained_transfers.Accepted.{IsAsked}
use Rattle.law_driver.specs.chained_transfers.Bulk.{IsDataWay}
use Rattle.law_driver.specs.AsynchronousScripts.{IsKindOf}
use Rattle.law_driver.specs.chained_transfers.Asynchronous.{OnlyAsynchronous}
use Rattle.law_driver.specs.chained_transfers.Turns.{AreAtPlaces}
use Rattle.law_driver_ring.specs.told_harvests.Held.{AreUnmoved}
use Rattle.law_queues.proofs.lemmas.fed_lends.Asked.{dummy_in, notes_in}
use Rattle.law_driver_ring.proofs.lemmas.fed_queues.Places.{stands_met}
use Rattle.law_structures.specs.lent_structures.Structures.{StructureSets}
use Rattle.law_device.specs.Acts.{counted}
use Rattle.claims_report.specs.Requests.{Request}
use Rattle.law_request.specs.Windows.{IsRequest}
use Rattle.law_ring.specs.Hand.{Hand}
use Rattle.law_devices.specs.ring_requests.Runs.{first_of}
use Rattle.law_devices.specs.ring_requests.Windows.{Queue, Lines}
use Rattle.law_reports.specs.requests.request_bytes.Fresh.{request_places}
use Rattle.law_reports.specs.requests.request_bytes.Held.{RequestIsHeld}
use Rattle.law_reports.proofs.lemmas.requests.lemmas.request_bytes.Accepting.{accepted_request_is_held}
use Rattle.law_devices.specs.Controls.{control_of}
use Rattle.claims_world.specs.Requests.{Windows, asks_then, numbers_of, opens}
use Rattle.law_reports.specs.requests.driver_requests.Rows.{number_with}
use Rattle.law_reports.proofs.lemmas.requests.lemmas.driver_requests.Ordering.{numbers_more, first_more}
use Rattle.law_reports.proofs.lemmas.requests.lemmas.driver_requests.Owning.{qtds_case}
use Rattle.law_reports.specs.requests.Courses.{Course, Asks, queue_in, have_queues, IsCourse, IsAsking}
use Rattle.law_reports.specs.requests.TransferChanges.{with_numbers, accepted_in}
use Rattle.law_reports.specs.requests.Counts.{counted_all}
use Rattle.law_reports.specs.requests.Records.{Numbers, AreRecords}
use Rattle.law_reports.proofs.lemmas.requests.Counts.{counted_more}
use Rattle.law_reports.proofs.lemmas.requests.Rows.{other_is_accepted, request_is_accepted}
use Rattle.law_reports.specs.requests.Telling.{IsTelling}
use Rattle.law_reports.proofs.lemmas.requests.Telling.{accepted_keeps_telling}
use Rattle.law_queues.specs.standing_fronts.Tails.{tail_block}
use Rattle.law_reports.specs.requests.Asking.{Sides, Asking, left_with, has_left, is_publishing, is_next_of, next_with, HasCourse, IsHeldRequest, IsPublishingAt, IsPublishing, IsReadTo, HasTelling, IsMetControl, AsksIn, IsCountedOn}
use Rattle.law_reports.proofs.lemmas.requests.Accepting.{adds, read_first, OwnAsks, accepted_asks}
use Rattle.law_reports.proofs.lemmas.requests.Noting.{NotesStay, notes_stay, LendsBy, WillBeLent, request_lends}
use Rattle.law_reports.proofs.lemmas.requests.Requested.{TakesRequest}
use Rattle.law_reports.proofs.lemmas.requests.Storing.{next_first}
use Rattle.usb_base.specs.declared.commands.Cmd.{Cmd}
use Rattle.usb_base.specs.declared.endpoints.EpDesc.{EpDesc}
use Rattle.usb_base.specs.declared.commands.Cmd.TheVariants as commands
use Rattle.usb_base.specs.declared.packets.Way.TheVariants as ways
use Rattle.drv_table.specs.declared.content.Command.TheVariants as unfinished

none_some : {X : Type 0} (x : X) → ◌≡◌ {A = Option X} None (Some x) → ⊥
none_some x is = cc

data_kind : (way : Way) (k : EpKind) → IsDataWay way → IsKindOf way k → is_control k ≡ false
data_kind ways.Ctl k data_way kind = absurd data_way
data_kind _ k data_way kind = ap is_control kind

left_before : (sides : Sides) (d : DriverContent) (number : ℕ) (x : Endpoint) (q : Asked) (h : Holding) (dummy : ℕ) (notes : List QtdNote)
    → slice_get d.endpoints number ≡ Some x → (i : ℕ) → has_left sides (accepted_transfer d number x q h dummy notes).driver i ≡ true
    → has_left sides d i ≡ true
left_before sides d number x q h dummy notes here i on =
    let end : Endpoint = with_queued x dummy (length d.transfers) in
    let taken : DriverContent = (accepted_transfer d number x q h dummy notes).driver in
    ⊎_elim {C = has_left sides d i ≡ true}
    (λ (same : i ≡ number).
    subst (λ (j : ℕ). has_left sides d j ≡ true) (sym same)
    (ap (left_with sides d number) here ∙ sym (ap (left_with sides taken number) (set_here d.endpoints number x end here)) ∙ subst (λ (j : ℕ). has_left sides taken j ≡ true) same on))
    (λ (differs : i ≢ number). ap (left_with sides d i) (sym (set_there d.endpoints number i end differs)) ∙ on) (cases_eq i number)

-- the first of an endpoint's requests, once there is one more
next_more : (count t : ℕ) (f : ℕ → ℕ) (o : Option ℕ) → o ≡ next_with count (f 0)
    → first_waiting o t ≡ next_with (suc count) (number_with count f t 0)
next_more zero t f o is = ap (λ (z : Option ℕ). first_waiting z t) is
next_more (suc count) t f o is =
    ap (λ (z : Option ℕ). first_waiting z t) is ∙ sym (ap (λ (z : Bool). Some (if z then t else f 0)) (other_number 0 (suc count) (λ same. omega (arith, same))))

module _ (sides : Sides) (member : ℕ → Bool) (parts : StructureSets) (hand : Hand) (a : Asking) (v : Windows) (asks : ℕ → Request)
    (d : DriverContent) (m : Mem) (wire : Wired) (world : AsksIn sides member parts hand a v asks d m wire)
    (has : HasOwners d) (stands : Stands (holding d.book m)) (only : OnlyAsynchronous d) (places : AreAtPlaces (note_in d.notes) d.transfers) (o : Offered) where
  -- ---- a transfer of another endpoint

  unasked : (z : EpDesc) → is_control z.kind ≡ false → sides.asks z ≡ false
  unasked z off = by (sides.asks z) refl
    where
      by : (b : Bool) → sides.asks z ≡ b → sides.asks z ≡ false
      by true on = absurd (false≢true (sym off ∙ sides.controls z on))
      by false is = is

  pub other_asks : (cmd : Cmd) (why : Transfers d m o) → sides.asks why.endpoint.desc ≡ false
      → AsksIn sides member parts hand a v (asks_then d cmd asks) o.driver o.memory wire
  other_asks cmd why off =
      let x = why.endpoint in
      let now : ℕ → Request = asks_then d cmd asks in
      let differs : (n : ℕ) → have_queues a.courses n ≡ true → (a.numbers n).endpoint ≢ why.number = λ n on same.
      false≢true (sym off ∙ world.asked n x on (ap (slice_get d.endpoints) same ∙ why.here)) in
      let still : has_left sides d why.number ≡ false = ap (left_with sides d why.number) why.here ∙ ap (λ (z : Bool). z && not (may_meet d why.number x)) off in
      let records = other_is_accepted d m o why cmd asks a.courses a.numbers (has_left sides d) v has stands differs still world.records in
      let noted = notes_stay d m o why stands has in
      let taken : DriverContent =
      (accepted_transfer d why.number x why.asked why.holding_after (dummy_in (length why.asked.stages) (new_runs d why.holding_after)) (notes_in d why.asked x (new_runs d why.holding_after))).driver in
      subst (λ (f : Offered). AsksIn sides member parts hand a v now f.driver f.memory wire) (sym why.is)
      (accepted_asks sides member parts hand a v asks d m wire world why.number x why.asked why.holding_after (dummy_in (length why.asked.stages) (new_runs d why.holding_after)) (notes_in d why.asked x (new_runs d why.holding_after)) why.idle why.here places
      (subst (λ (f : Offered). NotesStay d x.dummy (length why.asked.stages) f.driver.notes) why.is noted) a.numbers now (λ t low. asked_before d cmd asks t low)
      (regone taken now a.courses a.numbers (has_left sides d) (has_left sides taken) v
      (left_before sides d why.number x why.asked why.holding_after (dummy_in (length why.asked.stages) (new_runs d why.holding_after)) (notes_in d why.asked x (new_runs d why.holding_after)) why.here)
      (subst (λ (f : Offered). AreRecords f.driver now a.courses a.numbers (has_left sides d) v) why.is records))
      (λ i u is other. refl) (λ n. refl) (λ control. absurd (false≢true (sym off ∙ control))))

  -- a get or a put
  pub moved_asks : (name : EpName) → IsAsked d m o → AsksIn sides member parts hand a v asks o.driver o.memory wire
  moved_asks name k =
      let why = k.transfers in
      let x = why.endpoint in
      other_asks (commands.Cancel name) why (unasked x.desc (data_kind x.desc.name.way x.desc.kind k.way (only.endpoints why.number x why.here).asynchronous.kind))

  -- ---- a request

  module _ (name : EpName) (setup bytes : List ℕ) (lent : AreLent d) (shape : IsShaped m)
      (whole : IsRequest (record { setup = setup; bytes = bytes })) (are_bytes : AllByRecursion (λ b. b < 256) (setup ++ bytes))
      (k : TakesRequest d m o setup bytes)
      (on : sides.asks k.transfers.endpoint.desc ≡ true) where
    abbrev why : Transfers d m o
    why = k.transfers

    abbrev x : Endpoint
    x = k.transfers.endpoint

    abbrev number : ℕ
    number = k.transfers.number

    abbrev n : ℕ
    n = 32 * k.transfers.endpoint.queue

    abbrev r : Request
    r = record { setup = setup; bytes = bytes }

    abbrev u : Numbers
    u = a.numbers (32 * k.transfers.endpoint.queue)

    abbrev c : Course
    c = a.courses (32 * k.transfers.endpoint.queue)

    abbrev pub more : Numbers
    more = accepted_in u (length d.transfers) r (request_places o.driver.notes k.transfers.endpoint.dummy r)

    abbrev pub later : ℕ → Numbers
    later = with_numbers a.numbers n more

    abbrev now : ℕ → Request
    now = asks_then d (commands.Control name setup bytes) asks

    is_met : IsMetControl sides d k.transfers.number k.transfers.endpoint
    is_met = record { is = record { here = why.here; control = on }; met = stands_met d number x (only.endpoints number x why.here) why.goes_on (λ opening. none_open x.queue (sym why.idle ∙ opening)) }

    course : HasCourse sides d k.transfers.number k.transfers.endpoint c u
    course = world.each number x is_met

    count_is : u.requests.count ≡ (queue_in c).count
    count_is = course.count ∙ ap (λ (z : Bool). if z then suc (queue_in c).count else (queue_in c).count) (ap (λ (z : Option Command). is_publishing z (slice_get d.transfers (length d.transfers - 1)) number) why.idle)

    later_here : later n ≡ more
    later_here = ap (λ (z : Bool). if z then more else a.numbers n) (eq-eqb n n refl)

    still : has_left sides d k.transfers.number ≡ false
    still = ap (left_with sides d number) why.here ∙ ap (λ (z : Bool). sides.asks x.desc && not z) is_met.met.near ∙ ap (λ (z : Bool). z && false) on

    within : (q : Queue) (b : ℕ) (l : Lines) → a.courses n ≡ Asks q b l → l.under < q.count
    within q b l is = let asking : IsAsking q b l hand parts n (control_of wire q.endpoint.addr q.endpoint.num) = subst (IsCourse control_of parts hand wire n) is (world.stand.each n) in asking.queue.within

    recorded : AreRecords o.driver now a.courses later (has_left sides d) v
    recorded =
        request_is_accepted d m o why name setup bytes asks a.courses a.numbers (has_left sides d) v n
        (record { sort = ap (λ (z : Asked). z.sort) k.asked; stages = ap (λ (z : Asked). z.stages) k.asked; owners = has; book = stands; has = course.queue; endpoint = course.number; published = count_is; here = still; within = within }) world.records

    lends_by : WillBeLent o k.transfers.asked.stages
    lends_by = request_lends d m o (record { setup = setup; bytes = bytes; transfers = why; way = control_way x.desc.name.way x.desc.kind (only.endpoints number x why.here).asynchronous.kind k.control; asked = k.asked }) has lent stands shape

    held : RequestIsHeld o.memory o.driver.notes k.transfers.endpoint.dummy r
    held = accepted_request_is_held d m o why r whole (ap (λ (z : Asked). z.stages) k.asked) (ap (λ (z : Asked). z.bytes) k.asked)
        (subst (AllByRecursion (λ b. b < 256)) (sym (ap (λ (z : Asked). z.bytes) k.asked)) are_bytes) has lent stands shape

    -- once it is accepted
    module _ (h : Holding) (dummy : ℕ) (notes : List QtdNote)
        (is : o ≡ accepted_transfer d k.transfers.number k.transfers.endpoint k.transfers.asked h dummy notes) where
      abbrev taken : Offered
      taken = accepted_transfer d k.transfers.number k.transfers.endpoint k.transfers.asked h dummy notes

      abbrev end : Endpoint
      end = with_queued k.transfers.endpoint dummy (length d.transfers)

      abbrev new : Transfer
      new = new_transfer k.transfers.number k.transfers.asked k.transfers.endpoint.dummy

      abbrev words : List ℕ
      words = stage_words notes (first_stage k.transfers.asked.stages) k.transfers.endpoint.dummy dummy (nat_eq (length k.transfers.asked.stages) 1)

      noted : NotesStay d k.transfers.endpoint.dummy (length k.transfers.asked.stages) notes
      noted = subst (λ (f : Offered). NotesStay d x.dummy (length why.asked.stages) f.driver.notes) is (notes_stay d m o why stands has)

      asked_old : (t : ℕ) → t < length d.transfers → now t ≡ asks t
      asked_old t low = ap (λ (z : Bool). if z then r else asks t) (other_number t (length d.transfers) (λ same. omega (arith, same, low)))

      own_next : is_next_of (accepted_transfer d k.transfers.number k.transfers.endpoint k.transfers.asked h dummy notes).driver k.transfers.number ≡ true
      own_next = ap (λ (z : Option Transfer). is_publishing (Some (unfinished.Publish x.dummy words)) z number) (newest_there d.transfers new) ∙ eq-eqb number number refl

      own_tail : tail_block (Some (unfinished.Publish k.transfers.endpoint.dummy words)) (slice_get (d.transfers ++ new ∷ []) (length (d.transfers ++ new ∷ []) - 1)) k.transfers.number dummy ≡ k.transfers.endpoint.dummy
      own_tail = ap (λ (z : Option Transfer). tail_block (Some (unfinished.Publish x.dummy words)) z number dummy) (newest_there d.transfers new) ∙ ap (λ (z : Bool). if z then x.dummy else dummy) (eq-eqb number number refl)

      own_course : HasCourse sides (accepted_transfer d k.transfers.number k.transfers.endpoint k.transfers.asked h dummy notes).driver k.transfers.number (with_queued k.transfers.endpoint dummy (length d.transfers)) c more
      own_course = record {
        queue = course.queue;
        endpoint = course.endpoint;
        number = course.number;
        tail = course.tail ∙ ap (λ (z : Option Command). 32 * tail_block z (slice_get d.transfers (length d.transfers - 1)) number x.dummy) why.idle ∙ ap (λ (j : ℕ). 32 * j) (sym own_tail);
        count = ap suc count_is ∙ sym (ap (λ (z : Bool). if z then suc (queue_in c).count else (queue_in c).count) own_next);
        newest = λ next.
            let at : number_with u.requests.count u.number (length d.transfers) (queue_in c).count ≡ length d.transfers =
            ap (λ (z : Bool). if z then length d.transfers else u.number (queue_in c).count) (eq-eqb (queue_in c).count u.requests.count (sym count_is)) in
            let long = length-append d.transfers (new ∷ []) in
            omega (arith, at, long);
        next = λ going. next_more u.requests.count (length d.transfers) u.number x.next (course.next going);
        ended = λ cause told. absurd (none_some cause (sym why.goes_on ∙ (told_some end cause told).ended));
        owed = course.owed;
      }

      request_is : more.requests.requests (queue_in c).count ≡ r
      request_is = ap (λ (z : Bool). if z then r else u.requests.requests (queue_in c).count) (eq-eqb (queue_in c).count u.requests.count (sym count_is))

      own_publishing : IsPublishingAt (accepted_transfer d k.transfers.number k.transfers.endpoint k.transfers.asked h dummy notes).driver (accepted_transfer d k.transfers.number k.transfers.endpoint k.transfers.asked h dummy notes).memory
          (with_queued k.transfers.endpoint dummy (length d.transfers)) (parts n) c more k.transfers.endpoint.dummy words
      own_publishing = record {
        request = subst IsRequest (sym request_is) whole;
        held = λ none.
            let l : LendsBy taken why.asked.stages x.dummy words = (subst (λ (f : Offered). WillBeLent f why.asked.stages) is lends_by) x.dummy words refl in
            subst (IsHeldRequest taken.driver taken.memory x.dummy words) (sym request_is)
            (record {
              lends = l.lends;
              stages = l.stages ∙ ap (λ (z : Asked). z.stages) k.asked;
              held = subst (λ (f : Offered). RequestIsHeld f.memory f.driver.notes x.dummy r) is held;
            });
        written = λ some. absurd (omega (arith, some));
      }

      some_stages : 2 ≤ length k.transfers.asked.stages
      some_stages =
          let long = ap (λ (z : Asked). length z.stages) k.asked in
          ⊎_elim {C = 2 ≤ length why.asked.stages} (λ none. let two = none.1 in omega (arith, long, two)) (λ some. let three = some.1 in omega (arith, long, three)) (qtds_case r)

      -- nothing of it is read
      fresh_read : IsReadTo hand parts n (note_at notes) new r
      fresh_read = record {
        setup = first_of_all (length why.asked.stages) x.dummy some_stages noted.unmoved;
        data_at = λ some one. absurd (let least = some_stages in omega (arith, least, one));
        rest = noted.unmoved;
      }
        where
          first_of_all : (i b : ℕ) → 2 ≤ i → AreUnmoved (note_at notes) b i → (note_at notes b).moved ≡ 0
          first_of_all zero b some all = absurd (omega (arith, some))
          first_of_all (suc i) b some all = all.0

      own_read : (q : Option ℕ) → x.next ≡ q → (t : ℕ) (y : Transfer) → told_end x ≡ None → first_waiting q (length d.transfers) ≡ Some t
          → slice_get (d.transfers ++ new ∷ []) t ≡ Some y
          → IsReadTo hand parts n (note_at notes) y (more.requests.requests 0)
      own_read None at t y going first there =
          let top : length d.transfers ≡ t = same_Some (length d.transfers) t first in
          let is_new : new ≡ y = same_Some new y (sym (last_there d.transfers new) ∙ ap (slice_get (d.transfers ++ new ∷ [])) top ∙ there) in
          let none : u.requests.count ≡ 0 = none_next u.requests.count (u.number 0) (sym at ∙ course.next going) in
          subst (λ (z : Transfer). IsReadTo hand parts n (note_at notes) z (more.requests.requests 0)) is_new
          (subst (IsReadTo hand parts n (note_at notes) new) (sym (ap (λ (z : Bool). if z then r else u.requests.requests 0) (eq-eqb 0 u.requests.count (sym none)))) fresh_read)
        where
          last_there : (ts : List Transfer) (z : Transfer) → slice_get (ts ++ z ∷ []) (length ts) ≡ Some z
          last_there [] z = refl
          last_there (w ∷ ts) z = last_there ts z

          none_next : (count f : ℕ) → None ≡ next_with count f → count ≡ 0
          none_next zero f is = refl
          none_next (suc count) f is = absurd (none_some f is)
      own_read (Some i) at t y going first there =
          let same : i ≡ t = same_Some i t first in
          let some = next_first u.requests.count (u.number 0) i (sym at ∙ course.next going) in
          subst (IsReadTo hand parts n (note_at notes) y) (sym (ap (λ (z : Bool). if z then r else u.requests.requests 0) (other_number 0 u.requests.count (λ none. let few = some.0 in omega (arith, none, few)))))
          (read_first sides member parts hand a v asks d m wire world number x why.asked h dummy notes why.idle why.here places noted later now asked_old number t x y is_met going (at ∙ ap Some same) there)

      own_telling : HasTelling (accepted_transfer d k.transfers.number k.transfers.endpoint k.transfers.asked h dummy notes).driver now k.transfers.number (with_queued k.transfers.endpoint dummy (length d.transfers)) sides.whole v more
      own_telling =
          let f = world.telling number x is_met in
          record {
            reported = f.reported;
            untold = f.untold;
            closed = f.closed;
            going = f.going;
            uncancelled = f.uncancelled;
            telling = subst (λ (ts : List ℕ). IsTelling taken.driver now number x.desc.name (sides.whole x.desc.name) v f.reported ts)
                (append_assoc f.untold (first_of u.number u.requests.count) (length d.transfers ∷ []) ∙ ap (λ (ts : List ℕ). f.untold ++ ts) (first_more u.number u.requests.count (length d.transfers)))
                (accepted_keeps_telling d taken.driver new asks now number x.desc.name (sides.whole x.desc.name) v f.reported (f.untold ++ first_of u.number u.requests.count)
                (adds sides member parts hand a v asks d m wire world number x why.asked h dummy notes why.idle why.here places noted later now asked_old) f.uncancelled refl f.telling);
          }

      own_counted : IsCountedOn wire (accepted_transfer d k.transfers.number k.transfers.endpoint k.transfers.asked h dummy notes).driver v k.transfers.number (with_queued k.transfers.endpoint dummy (length d.transfers))
      own_counted =
          let f = world.counts number x is_met.is (ap (λ (z : Option Command). opens z x.queue && not x.gone) why.idle) in
          let none : v.acts (length d.transfers) ≡ [] = world.records.none (length d.transfers) (ap (option_map (λ (y : Transfer). y.endpoint)) (slice_get_past d.transfers (length d.transfers) (omega arith))) in
          record {
            device = f.device;
            is = f.is;
            acted = f.acted
                ∙ sym (ap (λ (ts : List ℕ). counted_all v ts 0) (numbers_more d taken.driver number new refl refl) ∙ counted_more v (numbers_of d number) (length d.transfers ∷ []) 0
                ∙ ap (λ (acts : List (List ℕ)). counted acts (counted_all v (numbers_of d number) 0)) none);
          }

      own_asks : OwnAsks sides member parts hand a v asks d m wire world k.transfers.number k.transfers.endpoint k.transfers.asked h dummy notes k.transfers.idle k.transfers.here places noted later now asked_old
      own_asks = record {
        course = subst (HasCourse sides taken.driver number end c) (sym later_here) own_course;
        publishing = subst (λ (z : Numbers). IsPublishing taken.driver taken.memory end (parts n) c z) (sym later_here) own_publishing;
        read = λ t y going first there. subst (λ (z : Numbers). IsReadTo hand parts n (note_at notes) y (z.requests.requests 0)) (sym later_here) (own_read x.next refl t y going first there);
        telling = subst (λ (z : Numbers). HasTelling taken.driver now number end sides.whole v z) (sym later_here) own_telling;
        counted = own_counted;
      }

      others_same : (i : ℕ) (w : Endpoint) → IsMetControl sides d i w → i ≢ k.transfers.number
          → later (32 * w.queue) ≡ a.numbers (32 * w.queue)
      others_same i w met differs =
          ap (λ (z : Bool). if z then more else a.numbers (32 * w.queue))
          (other_number (32 * w.queue) n (λ same. differs (sym (world.each i w met).number ∙ ap (λ (j : ℕ). (a.numbers j).endpoint) same ∙ course.number)))

      fields : (j : ℕ) → (later j).endpoint ≡ (a.numbers j).endpoint
      fields j = by (j == n) refl
        where
          by : (b : Bool) → j == n ≡ b → (if b then more else a.numbers j).endpoint ≡ (a.numbers j).endpoint
          by true is = ap (λ (i : ℕ). (a.numbers i).endpoint) (sym (eqb-true j n is))
          by false is = refl

      asks_more : AsksIn sides member parts hand (record { courses = a.courses; numbers = later }) v now (accepted_transfer d k.transfers.number k.transfers.endpoint k.transfers.asked h dummy notes).driver
          (accepted_transfer d k.transfers.number k.transfers.endpoint k.transfers.asked h dummy notes).memory wire
      asks_more =
          accepted_asks sides member parts hand a v asks d m wire world number x why.asked h dummy notes why.idle why.here places noted later now asked_old
          (regone taken.driver now a.courses later (has_left sides d) (has_left sides taken.driver) v (left_before sides d number x why.asked h dummy notes why.here) (subst (λ (f : Offered). AreRecords f.driver now a.courses later (has_left sides d) v) is recorded))
          others_same fields (λ control. own_asks)

    pub requested_asks : AsksIn sides member parts hand (record { courses = a.courses; numbers = later }) v now o.driver o.memory wire
    requested_asks =
        subst (λ (f : Offered). AsksIn sides member parts hand (record { courses = a.courses; numbers = later }) v now f.driver f.memory wire) (sym why.is) (asks_more why.holding_after _ _ why.is)
