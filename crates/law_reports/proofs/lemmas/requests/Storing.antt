-- The driver of a world stores the first qTD of its newest transfer: its requests stand as they did, until it is one that is published by the last store.
use Rattle.std.proofs.Common.{◌≡◌, ◌≢◌, ℕ, zero, suc, ◌-◌, ◌*◌, ◌<◌, ◌≤◌, ◌||◌, ◌&&◌, not, Bool, true, false, List, [], ◌∷◌, ◌++◌, drop, length, slice_get, if◌then◌else◌, Option, Some, None, option_map, ap, refl, sym, subst, ◌∙◌, ⊎_elim, inl, inr, arith}
use Rattle.std.specs.Prelude.{◌⊎◌}
use Rattle.std.specs.List.{AllByRecursion}
use Rattle.std.proofs.lemmas.Bool.{cases_eq, cases_Bool, eq-eqb, false≢true}
use Rattle.std.proofs.lemmas.Option.{same_Some}
use Rattle.law_world.proofs.Common.{no_open}
use Rattle.law_driver.proofs.Common.{same_endpoint}
use Rattle.law_driver_ring.proofs.Common.{partly_idle}
use Rattle.law_common.proofs.Numbers.{other_number}
use Rattle.law_controller.proofs.Common.{same_hand}
use Rattle.law_queues.proofs.Common.{one_qtd}
use Rattle.word_mem.specs.Memory.{Mem}
use Rattle.qh_qtd.specs.declared.qtd.Qtd.{Qtd}
use Rattle.qh_qtd.specs.declared.queue_head.Qh.{Qh}
use Rattle.bus_wire.specs.Bus.{Fixed}
use Rattle.drv_table.specs.declared.content.Command.{Command}
use Rattle.drv_table.specs.declared.content.Endpoint.{Endpoint}
use Rattle.drv_table.specs.declared.content.Mend.{Mend}
use Rattle.drv_table.specs.declared.content.Transfer.{Transfer}
use Rattle.drv_table.specs.DriverContent.{DriverContent}
use Rattle.drv_table.specs.Harvests.{note_at}
use Rattle.drv_table.specs.Kinds.{is_iso}
use Rattle.claims_driver.specs.Owners.{Owner, QueueHead as QueueOwner, Element as ElementOwner, runs_of_endpoint, note_in, runs_of_transfer}
use Rattle.claims_driver.specs.Leaving.{HasOwners}
use Rattle.law_driver.specs.chained_transfers.Asynchronous.{OnlyAsynchronous}
use Rattle.law_driver.proofs.lemmas.chained_transfers.BulkAndControl.{not_iso}
use Rattle.law_driver.proofs.lemmas.chained_transfers.Staying.{stands_alive}
use Rattle.law_driver.specs.endpoint_lives.Lives.{told_end}
use Rattle.law_driver.proofs.lemmas.endpoint_lives.Lives.{told_some}
use Rattle.law_driver_ring.specs.fed_queues.Fed.{IsPublished}
use Rattle.law_structures.specs.lent_structures.Structures.{QueueHead, Element, StructureSets, put}
use Rattle.law_structures.proofs.lemmas.lent_structures.Altering.{found_queue}
use Rattle.law_controller.proofs.lemmas.controlled_streams.Storing.{spares_head, spares_element}
use Rattle.law_driver_ring.specs.Published.{partly}
use Rattle.law_queues.specs.mended_heads.Owed.{StalledQueue, mends_at, left_of, all_left}
use Rattle.law_queues.specs.mended_heads.Waiting.{Waits}
use Rattle.law_queues.specs.publish_laws.Stores.{parts_then}
use Rattle.law_driver_ring.proofs.lemmas.told_harvests.Keeping.{spared_is_done}
use Rattle.claims_report.specs.Requests.{Request}
use Rattle.law_request.specs.Host.{has_data}
use Rattle.law_devices.specs.ring_requests.Laid.{Places, IsIdle}
use Rattle.law_devices.specs.ring_requests.Resting.{IsStopped}
use Rattle.law_devices.specs.ring_requests.Windows.{Queue, Lines, lines_at}
use Rattle.law_devices.specs.Controls.{control_of}
use Rattle.bus_world.specs.World.{World}
use Rattle.law_world.specs.steps.Streaming.{Streams, Standing}
use Rattle.claims_world.specs.Requests.{Windows, wired, opens}
use Rattle.law_reports.proofs.lemmas.requests.lemmas.driver_requests.Owning.{qtds_case, second_piece, element_of, owned_piece, first_piece}
use Rattle.law_reports.specs.requests.Coming.{IsComing}
use Rattle.law_reports.specs.requests.Courses.{Course, NoQueue, Asks, Rests, has_queue, is_asking, queue_in, tail_in, have_queues, IsCourse, CoursesStand, with_course}
use Rattle.law_reports.specs.requests.QueueChanges.{IsPublishedAt}
use Rattle.law_reports.specs.requests.Spared.{IsNoRequests}
use Rattle.law_reports.proofs.lemmas.requests.Coming.{store_keeps_coming, coming_is_published}
use Rattle.law_reports.proofs.lemmas.requests.QueuePublishing.{asked_store, rest_store, halted_store}
use Rattle.law_reports.proofs.lemmas.requests.Writing.{store_spares}
use Rattle.law_reports.specs.requests.Records.{Numbers, IsRecord, AreRecords}
use Rattle.law_reports.specs.requests.TransferChanges.{with_numbers, next_request}
use Rattle.law_reports.proofs.lemmas.requests.TransferChanging.{course_is_recorded, behind_is_published, first_is_published, halted_is_published}
use Rattle.law_reports.proofs.lemmas.requests.Rows.{accepted_keeps_records}
use Rattle.law_queues.specs.standing_fronts.Tails.{tail_block}
use Rattle.law_reports.specs.requests.Asking.{Sides, Asking, has_left, is_publishing, is_next_of, next_with, HasCourse, IsWritten, IsPublishingAt, IsPublishingBy, IsPublishing, IsReadTo, HasTelling, IsMetControl, IsAskingWorld, HasAsks, AsksIn}
use Rattle.law_reports.proofs.lemmas.requests.Inside.{same_requests, goes_on}
use Rattle.law_reports.proofs.lemmas.requests.Lending.{next_is}
use Rattle.law_reports.proofs.lemmas.requests.Newest.{tail_next, laid_at, owner_at, its_next, its_control, not_asked}
use Rattle.law_reports.specs.requests.Missed.{NoneMissed, PublishesNoneBy}
use Rattle.law_reports.proofs.lemmas.requests.Missed.{writing_misses_none, partly_unmissed, narrow_unmissed, narrow_misses}
use Rattle.qh_qtd.specs.Qtd.{qtd_words, IsQtdInRange}
use Rattle.law_reports.specs.requests.Footing.{IsFooting}
use Rattle.law_reports.proofs.lemmas.requests.Courses.{has_with}
use Rattle.drv_table.specs.declared.content.Command.TheVariants as unfinished

-- ---- stores that are owed

all_drop : (P : Mend → Type 0) (i : ℕ) (ms : List Mend) → AllByRecursion P ms → AllByRecursion P (drop i ms)
all_drop P zero ms all = all
all_drop P (suc i) [] all = tt
all_drop P (suc i) (m ∷ ms) all = all_drop P i ms all.1

none_some : {X : Type 0} (x : X) → ◌≡◌ {A = Option X} None (Some x) → ⊥
none_some x is = cc

all_get : (P : Mend → Type 0) (ms : List Mend) (i : ℕ) (m : Mend) → AllByRecursion P ms → slice_get ms i ≡ Some m → P m
all_get P [] i m all is = absurd (none_some m is)
all_get P (n ∷ ms) zero m all is = subst P (same_Some n m is) all.0
all_get P (n ∷ ms) (suc i) m all is = all_get P ms i m all.1 is

record IsBehind (ms : List Mend) (m : Mend) : Type 0 where
  place : ℕ
  is : slice_get ms place ≡ Some m

mend_in : (ms ns : List Mend) (i : ℕ) (m : Mend) → slice_get (ms ++ ns) i ≡ Some m → IsBehind ms m ⊎ IsBehind ns m
mend_in [] ns i m is = inr (record { place = i; is = is })
mend_in (n ∷ ms) ns zero m is = inl (record { place = 0; is = is })
mend_in (n ∷ ms) ns (suc i) m is =
    ⊎_elim {C = IsBehind (n ∷ ms) m ⊎ IsBehind ns m} (λ (one : IsBehind ms m). inl (record { place = suc one.place; is = one.is })) (λ (other : IsBehind ns m). inr other) (mend_in ms ns i m is)

-- the queue head of one is halted
owed_halted : (parts : StructureSets) (out : ℕ → List ℕ) (ss : List StalledQueue) (i : ℕ) (m : Mend)
    → AllByRecursion (λ s. Waits s parts out) ss → slice_get (all_left ss) i ≡ Some m → IsStopped parts (32 * m.queue)
owed_halted parts out [] i m waits is = absurd (none_some m is)
owed_halted parts out (s ∷ ss) i m waits is =
    ⊎_elim {C = IsStopped parts (32 * m.queue)}
    (λ (here : IsBehind (left_of s) m).
    let queue : m.queue ≡ s.queue =
    all_get (λ (n : Mend). n.queue ≡ s.queue) (left_of s) here.place m (all_drop (λ (n : Mend). n.queue ≡ s.queue) s.made (mends_at s.queue s.onward) (refl, (refl, (refl, tt)))) here.is in
    subst (λ (j : ℕ). IsStopped parts (32 * j)) (sym queue) (record { queue = waits.0.stands.head; head = waits.0.stands.here; halted = waits.0.stands.halted }))
    (λ (later : IsBehind (all_left ss) m). owed_halted parts out ss later.place m waits.1 later.is)
    (mend_in (left_of s) (all_left ss) i m is)

-- ---- numbers

pub next_first : (count f t : ℕ) → Some t ≡ next_with count f → (0 < count) × (f ≡ t)
next_first zero f t is = absurd (none_some t (sym is))
next_first (suc count) f t is = (omega arith, sym (same_Some t f is))

queue_of : Owner → ℕ
queue_of (QueueOwner e) = e
queue_of _ = 0

-- at one queue head, and at the others
changed_each : (courses : ℕ → Course) (numbers : ℕ → Numbers) (n : ℕ) (c : Course) (u : Numbers) (P : ℕ → Course → Numbers → Type 0) (k : ℕ)
    → (k ≡ n → P n c u) → (k ≢ n → P k (courses k) (numbers k)) → P k (with_course courses n c k) (with_numbers numbers n u k)
changed_each courses numbers n c u P k mine others =
    ⊎_elim {C = P k (with_course courses n c k) (with_numbers numbers n u k)}
    (λ (at : k ≡ n). subst (λ (z : Bool). P k (if z then c else courses k) (if z then u else numbers k)) (sym (eq-eqb k n at)) (subst (λ (j : ℕ). P j c u) (sym at) (mine at)))
    (λ (differs : k ≢ n). subst (λ (z : Bool). P k (if z then c else courses k) (if z then u else numbers k)) (sym (other_number k n differs)) (others differs)) (cases_eq k n)

module _ (sides : Sides) (fixed : Fixed) (member : ℕ → Bool) (x : Streams) (s : Standing) (a : Asking) (v : Windows) (asks : ℕ → Request)
    (w : World) (k : IsFooting member x s w)
    (q : IsAskingWorld sides fixed member s a v asks w) (b : ℕ) (words : List ℕ) (command : w.driver.command ≡ Some (unfinished.Publish b words)) (made : 1 ≤ w.driver.made) (p : IsPublished w.driver s.parts b words) where
  abbrev d : DriverContent
  d = w.driver

  abbrev m : Mem
  m = w.memory

  abbrev e : ℕ
  e = p.transfer.endpoint

  abbrev z : Endpoint
  z = p.endpoint

  abbrev n : ℕ
  n = 32 * p.endpoint.queue

  abbrev old : Qtd
  old = partly p.qtd (w.driver.made - 1)

  abbrev new : Qtd
  new = partly p.qtd w.driver.made

  abbrev now : StructureSets
  now = parts_then p

  abbrev has : HasOwners w.driver
  has = k.owners

  abbrev only : OnlyAsynchronous w.driver
  only = k.turns.asynchronous

  -- ---- whose its block is

  its_owner : has.owner b ≡ ElementOwner p.number
  its_owner =
      let some = k.turns.chained.some p.number (runs_of_transfer p.transfer) (ap (option_map runs_of_transfer) p.there) p.fresh.1 in
      subst (λ (j : ℕ). has.owner j ≡ ElementOwner p.number) p.place.0
      (owned_piece d has p.number p.transfer.first p.transfer p.there p.fresh.1 (first_piece (note_in d.notes) p.transfer.first p.transfer.qtds some))

  no_requests : IsNoRequests a.courses n (32 * b)
  no_requests i stage on few same =
      let own = owner_at sides member s.parts s.hand a v asks d m (wired fixed w) q has n i b stage on few same in
      not_asked sides member s.parts s.hand a v asks d m (wired fixed w) q has p.number b words p.transfer p.endpoint only command p.newest p.there p.here p.going n i on few (ap element_of (sym own ∙ its_owner))

  queue_owner : (i : ℕ) (u : Endpoint) → slice_get w.driver.endpoints i ≡ Some u → u.gone ≡ false → has.owner u.queue ≡ QueueOwner i
  queue_owner i u here kept =
      let alive : is_iso u.desc.kind || u.gone ≡ false = ap (λ (z : Bool). z || u.gone) (not_iso u.desc (only.endpoints i u here).asynchronous) ∙ kept in
      (has.owned.each.queue i (runs_of_endpoint u) (ap (option_map runs_of_endpoint) here) alive).owned

  its_kept : p.endpoint.gone ≡ false
  its_kept = stands_alive p.endpoint (only.endpoints p.transfer.endpoint p.endpoint p.here) p.going

  -- the queue head of another endpoint is another one
  queue_apart : (i : ℕ) (u : Endpoint) → slice_get w.driver.endpoints i ≡ Some u → u.gone ≡ false → i ≢ p.transfer.endpoint
      → 32 * u.queue ≢ 32 * p.endpoint.queue
  queue_apart i u here kept differs same =
      let one : u.queue ≡ p.endpoint.queue = omega (arith, same) in
      differs (same_endpoint i e (sym (queue_owner i u here kept) ∙ ap has.owner one ∙ queue_owner e p.endpoint p.here its_kept))

  same_end : (i : ℕ) (u : Endpoint) → slice_get w.driver.endpoints i ≡ Some u → i ≡ p.transfer.endpoint → u ≡ p.endpoint
  same_end i u here same = same_Some u p.endpoint (sym here ∙ ap (slice_get d.endpoints) same ∙ p.here)

  last_is : slice_get w.driver.transfers (length w.driver.transfers - 1) ≡ Some p.transfer
  last_is = let newest = p.newest in let same : length d.transfers - 1 ≡ p.number = omega (arith, newest) in ap (slice_get d.transfers) same ∙ p.there

  next_end : (i : ℕ) → is_next_of w.driver i ≡ true → p.transfer.endpoint ≡ i
  next_end i next = next_is (slice_get d.transfers (length d.transfers - 1)) p.transfer i b words last_is (sym (ap (λ (c : Option Command). is_publishing c (slice_get d.transfers (length d.transfers - 1)) i) command) ∙ next)

  -- ---- what was read

  data_apart : (i t : ℕ) (u : Endpoint) (y : Transfer) → IsMetControl sides w.driver i u → told_end u ≡ None → u.next ≡ Some t
      → slice_get w.driver.transfers t ≡ Some y
      → has_data ((a.numbers (32 * u.queue)).requests.requests 0) ≡ true → y.left ≡ 1 → (note_at w.driver.notes y.first).next ≢ b
  data_apart i t u y is going next there some one same =
      let h = 32 * u.queue in
      let r = (a.numbers h).requests.requests 0 in
      let course = q.each i u is in
      let first = next_first (a.numbers h).requests.count ((a.numbers h).number 0) t (sym next ∙ course.next going) in
      let laid = laid_at sides member s.parts s.hand a v asks d m (wired fixed w) q has h 0 course.queue first.0 in
      let own : laid.own ≡ y = same_Some laid.own y (sym laid.here ∙ ap (slice_get d.transfers) first.1 ∙ there) in
      let many : y.qtds ≡ 3 = sym (ap (λ (j : Transfer). j.qtds) own) ∙ laid.qtds
      ∙ ⊎_elim {C = _} (λ none. absurd (false≢true (sym none.0 ∙ some))) (λ has_some. has_some.1) (qtds_case r) in
      let kept : y.released ≡ false = sym (ap (λ (j : Transfer). j.released) own) ∙ laid.held in
      let owner : has.owner (note_at d.notes y.first).next ≡ ElementOwner t = owned_piece d has t (note_at d.notes y.first).next y there kept (second_piece (note_in d.notes) y.first y.qtds (omega (arith, many))) in
      let number : t ≡ p.number = ap element_of (sym owner ∙ ap has.owner same ∙ its_owner) in
      let it : y ≡ p.transfer = same_Some y p.transfer (sym there ∙ ap (slice_get d.transfers) number ∙ p.there) in
      let left : y.left ≡ y.qtds = ap (λ (j : Transfer). j.left) it ∙ p.place.2 ∙ sym (ap (λ (j : Transfer). j.qtds) it) in
      omega (arith, left, many, one)

  read_then : (i t : ℕ) (u : Endpoint) (y : Transfer) → IsMetControl sides w.driver i u → told_end u ≡ None → u.next ≡ Some t
      → slice_get w.driver.transfers t ≡ Some y
      → IsReadTo s.hand now (32 * u.queue) (note_at w.driver.notes) y ((a.numbers (32 * u.queue)).requests.requests 0)
  read_then i t u y is going next there =
      let r = q.read i t u y is going next there in
      let j = (note_at d.notes y.first).next in
      record {
        setup = r.setup;
        data_at = λ some one.
            let was = r.data_at some one in
            record {
              bytes = was.bytes;
              done = spared_is_done s.hand s.hand s.parts now (32 * u.queue) j (note_at d.notes j).moved was.bytes (same_hand s.hand) (spares_head s.parts n (32 * b) old new p.stored (32 * u.queue))
                  (spares_element s.parts n (32 * b) old new p.stored (32 * u.queue) (32 * j)
                  (λ name owner. data_apart i t u y is going next there some one (let same : j ≡ b = omega (arith, name) in same)))
                  was.done;
            };
        rest = r.rest;
      }

  -- ---- the one that is being published

  module _ (i : ℕ) (u : Endpoint) (is : IsMetControl sides w.driver i u) (next : is_next_of w.driver i ≡ true) where
    abbrev c : Course
    c = a.courses (32 * u.queue)

    abbrev has_numbers : Numbers
    has_numbers = a.numbers (32 * u.queue)

    abbrev r : Request
    r = (a.numbers (32 * u.queue)).requests.requests (queue_in (a.courses (32 * u.queue))).count

    abbrev y : Places
    y = (a.numbers (32 * u.queue)).requests.places (queue_in (a.courses (32 * u.queue))).count

    course : HasCourse sides w.driver i u (a.courses (32 * u.queue)) (a.numbers (32 * u.queue))
    course = q.each i u is

    publishing_at : IsPublishingAt w.driver w.memory u (s.parts (32 * u.queue)) (a.courses (32 * u.queue)) (a.numbers (32 * u.queue)) b words
    publishing_at = subst (λ (o : Option Command). IsPublishingBy d m u (s.parts (32 * u.queue)) c has_numbers o) command (q.publishing i u is next)

    was : IsWritten w.driver u (s.parts (32 * u.queue)) (a.courses (32 * u.queue)) (a.numbers (32 * u.queue)) words
    was = publishing_at.written made

    end_is : u ≡ p.endpoint
    end_is = same_end i u is.is.here (sym (next_end i next))

    tail_is : tail_in (a.courses (32 * u.queue)) ≡ 32 * b
    tail_is = course.tail ∙ ap (λ (j : ℕ). 32 * j) (tail_next d.command (slice_get d.transfers (length d.transfers - 1)) i u.dummy b words command next)

    stored_here : s.parts (32 * u.queue) (tail_in (a.courses (32 * u.queue))) ≡ Some (Element old)
    stored_here = ap (s.parts (32 * u.queue)) tail_is ∙ ap (λ (j : Endpoint). s.parts (32 * j.queue) (32 * b)) end_is ∙ p.stored

    setup_is : was.setup ≡ p.qtd
    setup_is = one_qtd was.setup p.qtd was.range p.range (sym was.words_are ∙ p.are)

    coming_then : IsComing (queue_in (a.courses (32 * u.queue))) r y (tail_in (a.courses (32 * u.queue))) (32 * u.dummy) was.setup (now (32 * u.queue))
    coming_then =
        subst (λ (j : Endpoint). IsComing (queue_in c) r y (tail_in c) (32 * u.dummy) was.setup (put s.parts (32 * j.queue) (32 * b) (Element new) (32 * u.queue))) end_is
        (subst (λ (j : ℕ). IsComing (queue_in c) r y (tail_in c) (32 * u.dummy) was.setup (put s.parts (32 * u.queue) j (Element new) (32 * u.queue))) tail_is
        (store_keeps_coming (queue_in c) r y (tail_in c) (32 * u.dummy) (32 * u.queue) was.setup old new s.parts stored_here was.coming))

    publishing_then : (more : Mem)
        → IsPublishing (record w.driver { made = suc w.driver.made }) more u (now (32 * u.queue)) (a.courses (32 * u.queue)) (a.numbers (32 * u.queue))
    publishing_then more =
        subst (λ (o : Option Command). IsPublishingBy (record d { made = suc d.made }) more u (now (32 * u.queue)) c has_numbers o) (sym command)
        (record {
          request = publishing_at.request;
          held = λ none. absurd (omega (arith, none));
          written = λ some. record { setup = was.setup; words_are = was.words_are; range = was.range; coming = coming_then };
        })

  -- ---- no microframe is missed

  first_unmissed : (t : Qtd) → words ≡ qtd_words t → IsQtdInRange t → t.token.missed ≡ false
  first_unmissed = (subst (PublishesNoneBy w.driver.made) command q.unmissed.first) made

  unmissed_then : NoneMissed (have_queues a.courses) now
  unmissed_then = writing_misses_none (have_queues a.courses) s.parts n (32 * b) (Element new) (λ on. partly_unmissed p.qtd d.made (λ whole. first_unmissed p.qtd p.are p.range)) q.unmissed.structures

  -- ---- before the last store

  stand_low : w.driver.made < 8 → CoursesStand control_of member a.courses now s.hand (wired fixed w)
  stand_low low = store_spares control_of member a.courses s.parts s.hand (wired fixed w) n (32 * b) old new p.stored no_requests (λ on at. partly_idle p.qtd d.made low) q.stand

  pub low_asking : (more : Mem) → w.driver.made < 8
      → AsksIn sides member now s.hand a v asks (record w.driver { made = suc w.driver.made }) more (wired fixed w)
  low_asking more low =
      goes_on sides member s.parts now s.hand a v asks d m more (wired fixed w) d.book (suc d.made) q
      (record { structures = unmissed_then; in_hand = q.unmissed.in_hand; first = subst (PublishesNoneBy (suc d.made)) (sym command) (λ some. first_unmissed) }) (stand_low low) (λ i u is next. publishing_then i u is next more) read_then

  -- ---- the last store

  abbrev finished : DriverContent
  finished = record w.driver { command = None; made = 0 }

  met_done : (i : ℕ) (u : Endpoint) → IsMetControl sides finished i u → IsMetControl sides w.driver i u
  met_done i u is = record {
    is = record { here = is.is.here; control = is.is.control };
    met = record { there = record { linked = λ opens. no_open b u.queue words (sym command ∙ opens); kept = is.met.there.kept }; near = is.met.near };
  }

  not_next : (i : ℕ) → i ≢ p.transfer.endpoint → is_next_of w.driver i ≡ false
  not_next i differs =
      ap (λ (c : Option Command). is_publishing c (slice_get d.transfers (length d.transfers - 1)) i) command
      ∙ ap (λ (o : Option Transfer). is_publishing (Some (unfinished.Publish b words)) o i) last_is ∙ other_number p.transfer.endpoint i (λ same. differs (sym same))

  tail_done : (i : ℕ) (u : Endpoint) → i ≢ p.transfer.endpoint
      → tail_block w.driver.command (slice_get w.driver.transfers (length w.driver.transfers - 1)) i u.dummy ≡ u.dummy
  tail_done i u differs =
      ap (λ (c : Option Command). tail_block c (slice_get d.transfers (length d.transfers - 1)) i u.dummy) command
      ∙ ap (λ (o : Option Transfer). tail_block (Some (unfinished.Publish b words)) o i u.dummy) last_is
      ∙ ap (λ (t : Bool). if t then b else u.dummy) (other_number p.transfer.endpoint i (λ same. differs (sym same)))

  course_beside : (i : ℕ) (u : Endpoint) (c : Course) (h : Numbers) → i ≢ p.transfer.endpoint → HasCourse sides w.driver i u c h
      → HasCourse sides finished i u c h
  course_beside i u c h differs f = record {
    queue = f.queue;
    endpoint = f.endpoint;
    number = f.number;
    tail = f.tail ∙ ap (λ (j : ℕ). 32 * j) (tail_done i u differs);
    count = f.count ∙ ap (λ (t : Bool). if t then suc (queue_in c).count else (queue_in c).count) (not_next i differs);
    newest = λ next. absurd (false≢true next);
    next = f.next;
    ended = f.ended;
    owed = f.owed;
  }

  telling_done : (i : ℕ) (u : Endpoint) (h : Numbers) → HasTelling w.driver asks i u sides.whole v h
      → HasTelling finished asks i u sides.whole v h
  telling_done i u h f = record {
    reported = f.reported;
    untold = f.untold;
    closed = f.closed;
    going = f.going;
    uncancelled = f.uncancelled;
    telling = record { numbers = f.telling.numbers; told = f.telling.told; wait = f.telling.wait };
  }

  -- with these queues
  finishes : (later : Asking) (more : Mem) → ((j : ℕ) → have_queues later.courses j ≡ true → have_queues a.courses j ≡ true)
      → CoursesStand control_of member later.courses now s.hand (wired fixed w)
      → AreRecords w.driver asks later.courses later.numbers (has_left sides w.driver) v
      → ((i : ℕ) (u : Endpoint) → IsMetControl sides w.driver i u → HasCourse sides finished i u (later.courses (32 * u.queue)) (later.numbers (32 * u.queue)))
      → ((h : ℕ) → later.numbers h ≡ a.numbers h) → AsksIn sides member now s.hand later v asks finished more (wired fixed w)
  finishes later more had stand records each same = record {
    stand = stand;
    records = accepted_keeps_records d finished asks later.courses later.numbers (has_left sides d) v (same_requests d d.book 0 None) refl
        records;
    each = λ i u is. each i u (met_done i u is);
    asked = λ j u on there. q.asked j u (had j on) (subst (λ (h : Numbers). slice_get d.endpoints h.endpoint ≡ Some u) (same j) there);
    publishing = λ i u is next. absurd (false≢true next);
    read = λ i t u y is going next there.
        subst (λ (h : Numbers). IsReadTo s.hand now (32 * u.queue) (note_at d.notes) y (h.requests.requests 0)) (sym (same (32 * u.queue))) (read_then i t u y (met_done i u is) going next there);
    telling = λ i u is. subst (λ (h : Numbers). HasTelling finished asks i u sides.whole v h) (sym (same (32 * u.queue))) (telling_done i u (a.numbers (32 * u.queue)) (q.telling i u (met_done i u is)));
    given = λ i u is. q.given i u (record { here = is.here; control = is.control });
    counts = λ i u is off.
        let f = q.counts i u (record { here = is.here; control = is.control }) (ap (λ (c : Option Command). opens c u.queue && not u.gone) command) in
        record { device = f.device; is = f.is; acted = f.acted };
    unopened = λ addr num c least none first. q.unopened addr num c least (λ i u here one two. absurd (false≢true (none i u here one two))) first;
    untold = λ name none. q.untold name (λ i u here same. absurd (false≢true (none i u here same)));
    unmissed = record {
      structures = narrow_unmissed (have_queues a.courses) (have_queues later.courses) now had unmissed_then;
      in_hand = narrow_misses (have_queues a.courses) (have_queues later.courses) s.hand had q.unmissed.in_hand;
      first = tt;
    };
  }

  -- of an endpoint that is no control endpoint
  have_none : sides.asks p.endpoint.desc ≡ false → have_queues a.courses n ≡ true → ⊥
  have_none off on =
      let end = (q.records.each n on).numbered.own.endpoint in
      let i = (a.numbers n).endpoint in
      ⊎_elim {C = ⊥}
      (λ (same : i ≡ e). false≢true (sym off ∙ sym (ap (λ (u : Endpoint). sides.asks u.desc) (same_end i end.own end.here same)) ∙ q.asked n end.own on end.here))
      (λ (differs : i ≢ e). queue_apart i end.own end.here end.held differs (sym end.queue)) (cases_eq i e)

  other_asking : (more : Mem) → sides.asks p.endpoint.desc ≡ false → AsksIn sides member now s.hand a v asks finished more (wired fixed w)
  other_asking more off =
      finishes a more (λ j has. has) (store_spares control_of member a.courses s.parts s.hand (wired fixed w) n (32 * b) old new p.stored no_requests (λ on at. absurd (have_none off on)) q.stand) q.records
      (λ i u is.
      course_beside i u (a.courses (32 * u.queue)) (a.numbers (32 * u.queue))
      (λ same. false≢true (sym off ∙ sym (ap (λ (j : Endpoint). sides.asks j.desc) (same_end i u is.is.here same)) ∙ is.is.control)) (q.each i u is))
      (λ h. refl)

  -- ---- it is a request

  record IsStored : Type 0 where
    course : Course
    queued : has_queue course ≡ true
    stand : CoursesStand control_of member (with_course a.courses n course) (put s.parts n (32 * b) (Element p.qtd)) s.hand (wired fixed w)
    recorded : IsRecord w.driver asks n course (a.numbers n) v
    queue : queue_in course ≡ next_request (a.numbers n) (queue_in (a.courses n))
    tail : tail_in course ≡ 32 * p.endpoint.dummy
    owed : (i : ℕ) (g : Mend) → slice_get w.driver.mends i ≡ Some g → g.queue ≡ p.endpoint.queue → is_asking course ≡ false

  idle_at : (j : ℕ) → j ≡ 32 * b → IsIdle (s.parts n) j
  idle_at j same = record { qtd = old; here = ap (s.parts n) same ∙ p.stored; idle = partly_idle p.qtd (d.made - 1) (let few = p.few in omega (arith, few, made)) }

  abbrev next_of : Queue → Request
  next_of u = (a.numbers n).requests.requests u.count

  abbrev places_of : Queue → Places
  places_of u = (a.numbers n).requests.places u.count

  -- where the queue head isn't halted it is owed no stores
  none_owed : (h : Qh) (i : ℕ) (g : Mend) → s.parts n n ≡ Some (QueueHead h) → h.token.halted ≡ false → slice_get w.driver.mends i ≡ Some g
      → g.queue ≡ p.endpoint.queue → ⊥
  none_owed h i g head goes_on there queue =
      let owes = k.controls.mends in
      let stopped : IsStopped s.parts n = subst (λ (j : ℕ). IsStopped s.parts (32 * j)) queue
      (owed_halted s.parts s.out owes.queues i g owes.are.wait (sym (ap (λ (ms : List Mend). slice_get ms i) owes.are.mends) ∙ there)) in
      false≢true (sym goes_on ∙ sym (ap (λ (j : Qh). j.token.halted) (found_queue (s.parts n n) stopped.queue h stopped.head head)) ∙ stopped.halted)

  stored_by : (c : Course) → a.courses n ≡ c → IsCourse control_of s.parts s.hand (wired fixed w) n c → has_queue c ≡ true
      → tail_in c ≡ 32 * b
      → IsComing (queue_in c) (next_of (queue_in c)) (places_of (queue_in c)) (tail_in c) (32 * p.endpoint.dummy) p.qtd (s.parts n)
      → IsRecord w.driver asks n c (a.numbers n) v
      → (queue_in c).count < (a.numbers n).requests.count
      → ((i : ℕ) (g : Mend) → slice_get w.driver.mends i ≡ Some g → g.queue ≡ p.endpoint.queue → is_asking c ≡ false) → IsStored
  stored_by NoQueue is stands on tail coming rec few owed = absurd (false≢true on)
  stored_by (Asks u t l) is stands on tail coming rec few owed =
      let dummy = 32 * p.endpoint.dummy in
      let at_it : IsPublishedAt u (next_of u) (places_of u) t dummy s.parts n p.qtd = coming_is_published u (next_of u) (places_of u) t dummy n p.qtd s.parts stands.line (idle_at t tail) coming in
      record {
        course = Asks (next_request (a.numbers n) u) dummy l;
        queued = refl;
        stand = subst (λ (j : ℕ). CoursesStand control_of member (with_course a.courses n (Asks (next_request (a.numbers n) u) dummy l)) (put s.parts n j (Element p.qtd)) s.hand (wired fixed w)) tail
            (asked_store control_of member a.courses s.parts s.hand (wired fixed w) n t dummy u l (next_of u) (places_of u) p.qtd is at_it q.stand);
        recorded = behind_is_published d asks n t dummy u l (a.numbers n) v few rec;
        queue = ap (λ (c : Course). next_request (a.numbers n) (queue_in c)) (sym is);
        tail = refl;
        owed = owed;
      }
  stored_by (Rests u t o) is stands on tail coming rec few owed =
      let dummy = 32 * p.endpoint.dummy in
      let h : Qh = stands.rest.queue in
      let at_it : IsPublishedAt u (next_of u) (places_of u) t dummy s.parts n p.qtd = coming_is_published u (next_of u) (places_of u) t dummy n p.qtd s.parts stands.line (idle_at t tail) coming in
      ⊎_elim {C = IsStored}
      (λ (halts : h.token.halted ≡ true). record {
        course = Rests (next_request (a.numbers n) u) dummy o;
        queued = refl;
        stand = subst (λ (j : ℕ). CoursesStand control_of member (with_course a.courses n (Rests (next_request (a.numbers n) u) dummy o)) (put s.parts n j (Element p.qtd)) s.hand (wired fixed w)) tail
            (halted_store control_of member a.courses s.parts s.hand (wired fixed w) n t dummy u o (next_of u) (places_of u) p.qtd is (record { queue = h; head = stands.rest.head; halted = halts }) at_it q.stand);
        recorded = halted_is_published d asks n t dummy u o (a.numbers n) v few rec;
        queue = ap (λ (c : Course). next_request (a.numbers n) (queue_in c)) (sym is);
        tail = refl;
        owed = λ i g there queue. refl;
      })
      (λ (goes_on : h.token.halted ≡ false).
      let none : u.count ≡ 0 = ⊎_elim {C = u.count ≡ 0} (λ (same : u.count ≡ 0). same) (λ (some : u.count ≢ 0). absurd (false≢true (sym goes_on ∙ stands.wait (omega (arith, some))))) (cases_eq u.count 0) in
      let lines : Lines = lines_at (next_request (a.numbers n) u) h.token.ping o in
      record {
        course = Asks (next_request (a.numbers n) u) dummy lines;
        queued = refl;
        stand = subst (λ (j : ℕ). CoursesStand control_of member (with_course a.courses n (Asks (next_request (a.numbers n) u) dummy lines)) (put s.parts n j (Element p.qtd)) s.hand (wired fixed w)) tail
            (rest_store control_of member a.courses s.parts s.hand (wired fixed w) n t dummy u o h (next_of u) (places_of u) p.qtd is none stands.rest.head goes_on at_it q.stand);
        recorded = first_is_published d asks n t dummy u o h.token.ping (a.numbers n) v few rec;
        queue = ap (λ (c : Course). next_request (a.numbers n) (queue_in c)) (sym is);
        tail = refl;
        owed = λ i g there queue. absurd (none_owed h i g stands.rest.head goes_on there queue);
      })
      (cases_Bool h.token.halted)

  module _ (control : sides.asks p.endpoint.desc ≡ true) where
    its_is : IsMetControl sides w.driver p.transfer.endpoint p.endpoint
    its_is = its_control sides member s.parts s.hand a v asks d m (wired fixed w) q has p.number b words p.transfer p.endpoint only command p.newest p.there p.here p.going control

    next : is_next_of w.driver p.transfer.endpoint ≡ true
    next = its_next sides member s.parts s.hand a v asks d m (wired fixed w) q has p.number b words p.transfer p.endpoint only command p.newest p.there p.here p.going

    its : HasCourse sides w.driver p.transfer.endpoint p.endpoint (a.courses n) (a.numbers n)
    its = q.each e p.endpoint its_is

    stored_now : IsStored
    stored_now =
        stored_by (a.courses n) refl (q.stand.each n) its.queue (tail_is e p.endpoint its_is next)
        (subst (λ (t : Qtd). IsComing (queue_in (a.courses n)) (next_of (queue_in (a.courses n))) (places_of (queue_in (a.courses n))) (tail_in (a.courses n)) (32 * p.endpoint.dummy) t (s.parts n))
        (setup_is e p.endpoint its_is next) (was e p.endpoint its_is next).coming)
        (q.records.each n its.queue) (let many = its.count ∙ ap (λ (t : Bool). if t then suc (queue_in (a.courses n)).count else (queue_in (a.courses n)).count) next in omega (arith, many)) its.owed

    abbrev later : Asking
    later = record { courses = with_course a.courses n stored_now.course; numbers = with_numbers a.numbers n (a.numbers n) }

    same_numbers : (h : ℕ) → with_numbers a.numbers n (a.numbers n) h ≡ a.numbers h
    same_numbers h =
        changed_each a.courses a.numbers n (a.courses n) (a.numbers n) (λ (j : ℕ) (c : Course) (u : Numbers). u ≡ a.numbers h) h (λ at. ap a.numbers (sym at)) (λ differs. refl)

    own_course : HasCourse sides finished p.transfer.endpoint p.endpoint stored_now.course (a.numbers n)
    own_course = record {
      queue = stored_now.queued;
      endpoint = ap (λ (u : Queue). u.endpoint) stored_now.queue ∙ its.endpoint;
      number = its.number;
      tail = stored_now.tail;
      count = its.count ∙ ap (λ (t : Bool). if t then suc (queue_in (a.courses n)).count else (queue_in (a.courses n)).count) next ∙ sym (ap (λ (u : Queue). u.count) stored_now.queue);
      newest = λ none. absurd (false≢true none);
      next = its.next;
      ended = λ cause told. absurd (none_some cause (sym p.going ∙ (told_some p.endpoint cause told).ended));
      owed = stored_now.owed;
    }

    each_course : (i : ℕ) (u : Endpoint) → IsMetControl sides w.driver i u
        → HasCourse sides finished i u (later.courses (32 * u.queue)) (later.numbers (32 * u.queue))
    each_course i u is =
        changed_each a.courses a.numbers n stored_now.course (a.numbers n) (λ (j : ℕ) (c : Course) (h : Numbers). HasCourse sides finished i u c h) (32 * u.queue)
        (λ at.
        ⊎_elim {C = HasCourse sides finished i u stored_now.course (a.numbers n)}
        (λ (same : i ≡ e).
        subst (λ (j : ℕ). HasCourse sides finished j u stored_now.course (a.numbers n)) (sym same)
        (subst (λ (j : Endpoint). HasCourse sides finished e j stored_now.course (a.numbers n)) (sym (same_end i u is.is.here same)) own_course))
        (λ (differs : i ≢ e). absurd (queue_apart i u is.is.here is.met.there.kept differs at)) (cases_eq i e))
        (λ differs. course_beside i u (a.courses (32 * u.queue)) (a.numbers (32 * u.queue)) (λ same. differs (ap (λ (j : Endpoint). 32 * j.queue) (same_end i u is.is.here same))) (q.each i u is))

    request_asking : (more : Mem) → w.driver.made ≡ 8 → AsksIn sides member now s.hand later v asks finished more (wired fixed w)
    request_asking more eighth =
        finishes later more (has_with a.courses n stored_now.course its.queue)
        (subst (λ (j : ℕ). CoursesStand control_of member later.courses (put s.parts n (32 * b) (Element (partly p.qtd j))) s.hand (wired fixed w)) (sym eighth) stored_now.stand)
        (course_is_recorded d asks a.courses a.numbers (has_left sides d) v n stored_now.course (a.numbers n) stored_now.recorded q.records) each_course same_numbers

  -- ---- the whole

  last_asks : (more : Mem) → w.driver.made ≡ 8 → HasAsks sides member now s.hand v asks finished more (wired fixed w)
  last_asks more eighth =
      ⊎_elim {C = HasAsks sides member now s.hand v asks finished more (wired fixed w)} (λ (on : sides.asks p.endpoint.desc ≡ true). record { asking = later on; world = request_asking on more eighth })
      (λ (off : sides.asks p.endpoint.desc ≡ false). record { asking = a; world = other_asking more off }) (cases_Bool (sides.asks p.endpoint.desc))

  -- the driver's content is this one after it, or that
  abbrev pub IsStoredTo : DriverContent → Type 1
  IsStoredTo c = (P : DriverContent → Type 0) → (w.driver.made < 8 → P (record w.driver { made = suc w.driver.made })) → (w.driver.made ≡ 8 → P (record w.driver { command = None; made = 0 })) → P c

  pub stored_asks : (more : Mem) (c : DriverContent) → IsStoredTo c
      → HasAsks sides member (parts_then p) s.hand v asks c more (wired fixed w)
  stored_asks more c by = by (λ (f : DriverContent). HasAsks sides member now s.hand v asks f more (wired fixed w)) (λ low. record { asking = a; world = low_asking more low }) (λ eighth. last_asks more eighth)
