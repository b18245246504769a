-- The driver of a world lends a transfer: its requests stand as they did, and where it is one it is coming.
use Rattle.std.proofs.Common.{◌≡◌, ◌≢◌, ℕ, suc, ◌-◌, ◌*◌, ◌<◌, Bool, true, false, List, [], ◌∷◌, length, slice_get, if◌then◌else◌, Option, Some, None, option_map, ap, refl, sym, subst, ◌∙◌, ⊎_elim, inl, inr, arith}
use Rattle.std.specs.Prelude.{◌⊎◌}
use Rattle.std.proofs.lemmas.Bool.{cases_eq}
use Rattle.std.proofs.lemmas.Option.{same_Some}
use Rattle.law_reports.proofs.Common.{one_head}
use Rattle.law_controller.proofs.Common.{same_hand}
use Rattle.law_queues.proofs.Common.{one_qtd}
use Rattle.word_mem.specs.Memory.{Mem, IsShaped}
use Rattle.qh_qtd.specs.declared.qtd.Qtd.{Qtd}
use Rattle.qh_qtd.specs.Qtd.{qtd_words, IsQtdInRange}
use Rattle.mem_runs.specs.declared.slots.Slot.{Slot}
use Rattle.mem_runs.specs.Book.{lend_taken, holding, slot_of, Stands}
use Rattle.bus_wire.specs.Bus.{Fixed}
use Rattle.drv_table.specs.declared.content.Command.{Command}
use Rattle.drv_table.specs.declared.content.Endpoint.{Endpoint}
use Rattle.drv_table.specs.declared.content.Stage.{Stage}
use Rattle.drv_table.specs.declared.content.Transfer.{Transfer}
use Rattle.drv_table.specs.DriverContent.{DriverContent}
use Rattle.drv_table.specs.Harvests.{note_at}
use Rattle.drv_table.specs.Offers.{is_last}
use Rattle.drv_table.specs.Words.{dummy_qtd}
use Rattle.claims_driver.specs.Owners.{Owner, Dummy, Element as ElementOwner, EndpointRuns, TransferRuns, runs_of_endpoint, runs_of_transfer, note_in, views_of, IsPieceOf}
use Rattle.claims_driver.specs.Leaving.{HasOwners}
use Rattle.law_driver.proofs.lemmas.run_owners.Released.{same_by_test}
use Rattle.law_driver.specs.chained_transfers.Asynchronous.{OnlyAsynchronous}
use Rattle.law_driver.proofs.lemmas.chained_transfers.Staying.{stands_alive}
use Rattle.law_driver.specs.endpoint_lives.Lives.{told_end}
use Rattle.law_driver_ring.specs.fed_queues.Fed.{IsPublished, AreFed}
use Rattle.law_queues.specs.fed_lends.ToLend.{IsToBeLent, lent_now}
use Rattle.law_queues.proofs.lemmas.publish_laws.Apart.{dummy_placed}
use Rattle.law_structures.specs.lent_structures.Structures.{Element, StructureSets, Tells, Structure, Structures, QueueHead}
use Rattle.law_driver_ring.specs.Pieces.{stage_qtd, IsNewQtd}
use Rattle.law_driver_ring.specs.Published.{partly, IsPublishable}
use Rattle.law_driver_ring.specs.TransferLaws.{HasPieces, lent_driver, lent_memory}
use Rattle.law_driver_ring.specs.Written.{last_block, AwaitsLend}
use Rattle.law_driver_ring.proofs.lemmas.told_harvests.Keeping.{spared_is_done}
use Rattle.claims_report.specs.Requests.{Request}
use Rattle.law_devices.specs.ring_requests.Laid.{Places, AreOthers}
use Rattle.law_reports.specs.requests.request_bytes.Fresh.{request_places}
use Rattle.law_reports.specs.requests.request_bytes.Held.{RequestIsHeld}
use Rattle.law_devices.specs.Controls.{control_of}
use Rattle.bus_world.specs.World.{World}
use Rattle.law_world.specs.steps.Streaming.{Streams, Standing}
use Rattle.claims_world.specs.Requests.{Windows, wired}
use Rattle.law_reports.proofs.lemmas.requests.lemmas.driver_requests.Owning.{element_of, owned_piece}
use Rattle.law_reports.specs.requests.Coming.{IsComing}
use Rattle.law_reports.specs.requests.Courses.{Course, queue_in, tail_in, CoursesStand, have_queues}
use Rattle.law_reports.specs.requests.Spared.{IsNoRequests, IsLentBeside}
use Rattle.law_reports.proofs.lemmas.requests.Writing.{lend_spares}
use Rattle.law_reports.specs.requests.Records.{Numbers}
use Rattle.law_reports.proofs.lemmas.requests.Apart.{laid_are_others}
use Rattle.law_reports.proofs.lemmas.requests.Lent.{request_is_lent}
use Rattle.law_reports.specs.requests.Asking.{Sides, Asking, is_publishing, is_next_of, HasCourse, IsWritten, IsHeldRequest, IsPublishingAt, IsPublishingBy, IsPublishing, IsReadTo, IsMetControl, IsAskingWorld, AsksIn}
use Rattle.law_reports.proofs.lemmas.requests.Awaited.{ranged, pieces_as, apart_awaits}
use Rattle.law_reports.proofs.lemmas.requests.Inside.{goes_on}
use Rattle.law_reports.proofs.lemmas.requests.Newest.{tail_next, fewer, same_places, laid_at, owner_at, not_asked}
use Rattle.law_reports.specs.requests.Missed.{NoneMissed, PublishesNoneBy}
use Rattle.qh_qtd.specs.declared.queue_head.Qh.{Qh}
use Rattle.drv_table.specs.declared.content.QtdNote.{QtdNote}
use Rattle.law_reports.proofs.lemmas.requests.Courses.{HasHead, head_of}
use Rattle.law_queues.specs.lent_fronts.Whole.{IsLentBehind}
use Rattle.law_ring.specs.Sparing.{SparesHead, SparesElement}
use Rattle.law_reports.specs.requests.Footing.{IsFooting}
use Rattle.drv_table.specs.declared.content.Command.TheVariants as unfinished

-- ---- whose the new qTDs are

record IsNewAt (owner : ℕ → Owner) (t e a : ℕ) : Type 0 where
  block : ℕ
  at : a ≡ 32 * block
  owned : (owner block ≡ ElementOwner t) ⊎ (owner block ≡ Dummy e)

new_at : (d : DriverContent) (owner : ℕ → Owner) (t e dummy : ℕ) (ss : List Stage) (b a : ℕ) (u : Qtd)
    → ((p : ℕ) → IsPieceOf (note_in d.notes) b (length ss) p → owner p ≡ ElementOwner t) → owner (last_block d.notes ss b) ≡ Dummy e
    → IsNewQtd d.notes dummy ss b a u → IsNewAt owner t e a
new_at d owner t e dummy [] b a u pieces ends new = record { block = b; at = new.0; owned = inr ends }
new_at d owner t e dummy (s ∷ ss) b a u pieces ends (inl new) = record { block = b; at = new.0; owned = inl (pieces b (inl refl)) }
new_at d owner t e dummy (s ∷ ss) b a u pieces ends (inr new) = new_at d owner t e dummy ss (note_at d.notes b).next a u (λ p piece. pieces p (inr piece)) ends new

no_dummy : (t e : ℕ) → ElementOwner t ≡ Dummy e → ⊥
no_dummy t e same = cc

-- the newest transfer is of this endpoint
pub next_is : (o : Option Transfer) (y : Transfer) (e b : ℕ) (words : List ℕ) → o ≡ Some y
    → is_publishing (Some (unfinished.Publish b words)) o e ≡ true → y.endpoint ≡ e
next_is o y e b words there is = same_by_test y.endpoint e (sym (ap (λ (z : Option Transfer). is_publishing (Some (unfinished.Publish b words)) z e) there) ∙ is)

-- ---- what is lent tells no missed microframe

new_unmissed : (notes : List QtdNote) (dummy : ℕ) (ss : List Stage) (b c : ℕ) (t : Qtd) → IsNewQtd notes dummy ss b c t
    → t.token.missed ≡ false
new_unmissed notes dummy [] b c t new = ap (λ (u : Qtd). u.token.missed) new.1
new_unmissed notes dummy (s ∷ ss) b c t (inl new) = ap (λ (u : Qtd). u.token.missed) new.1
new_unmissed notes dummy (s ∷ ss) b c t (inr new) = new_unmissed notes dummy ss (note_at notes b).next c t new

module _ (g : Sides) (fixed : Fixed) (member : ℕ → Bool) (x : Streams) (s : Standing) (a : Asking) (v : Windows) (asks : ℕ → Request)
    (w : World) (k : IsFooting member x s w) (q : IsAskingWorld g fixed member s a v asks w)
    (b : ℕ) (words : List ℕ) (get : IsToBeLent w.driver w.memory b words) (now : StructureSets) (order : ℕ → ℕ → ℕ) (out : ℕ → List ℕ) (behind : IsLentBehind w.driver w.memory s.parts now s.order order s.out out)
    (still : (n a : ℕ) (u : Structure) → s.parts n a ≡ Some u → now n a ≡ Some u) (heads : (n : ℕ) → SparesHead s.parts now n)
    (spared : (n a : ℕ) (u : Qtd) → s.parts n a ≡ Some (Element u) → SparesElement s.parts now n a) (fed : AreFed (lent_now w.driver w.memory) now) (tells : Tells (lent_memory w.driver w.memory) now) where
  abbrev d : DriverContent
  d = w.driver

  abbrev m : Mem
  m = w.memory

  has : HasOwners w.driver
  has = k.owners

  stands : Stands (holding w.driver.book w.memory)
  stands = k.stands

  shape : IsShaped w.memory
  shape = k.tells.shape

  only : OnlyAsynchronous w.driver
  only = k.turns.asynchronous

  abbrev slot : ℕ → Slot
  slot = slot_of (lent_driver w.driver w.memory).book.slots

  first : IsPublished (lent_now w.driver w.memory) now b words
  first = fed.publishes b words get.command

  -- what is lent, by these stages
  pieces_for : (t : ℕ) (y : TransferRuns) (z : EndpointRuns) (r : Stage) (rs : List Stage) → suc t ≡ length w.driver.transfers
      → AwaitsLend w.driver w.memory t y z r rs
      → words ≡ qtd_words (stage_qtd w.driver.notes r y.first z.dummy (is_last rs))
      → HasPieces w.driver (slot_of (lent_driver w.driver w.memory).book.slots) s.parts now y z r rs
  pieces_for t y z r rs newest waits are =
      let u : Qtd = stage_qtd d.notes r y.first z.dummy (is_last rs) in
      let last = first.newest in
      let other = behind.newest in
      let number : t ≡ first.number = omega (arith, newest, last) in
      let transfer : y ≡ runs_of_transfer first.transfer = same_Some y (runs_of_transfer first.transfer) (sym waits.here.here ∙ ap (views_of d).transfer number ∙ ap (option_map runs_of_transfer) first.there) in
      let end : z ≡ runs_of_endpoint first.endpoint =
      same_Some z (runs_of_endpoint first.endpoint) (sym waits.here.queue.here ∙ ap (λ (i : TransferRuns). (views_of d).endpoint i.endpoint) transfer ∙ ap (option_map runs_of_endpoint) first.here) in
      let qtd : first.qtd ≡ u = one_qtd first.qtd u first.range (ranged d m stands shape r y.first z.dummy (is_last rs) waits.pids.0 waits.short.0 waits.noted.0) (sym first.are ∙ are) in
      let may : IsPublishable (now (32 * first.endpoint.queue)) (32 * b) first.qtd = first.may (omega arith) in
      let block : y.first ≡ b = ap (λ (i : TransferRuns). i.first) transfer ∙ first.place.0 in
      let it : IsPublishable (now (32 * z.queue)) (32 * y.first) u =
      subst (λ (i : EndpointRuns). IsPublishable (now (32 * i.queue)) (32 * y.first) u) (sym end)
      (subst (λ (j : ℕ). IsPublishable (now (32 * first.endpoint.queue)) (32 * j) u) (sym block) (subst (IsPublishable (now (32 * first.endpoint.queue)) (32 * b)) qtd may)) in
      pieces_as d m stands shape t behind.number y behind.transfer z behind.endpoint r behind.stage rs behind.further slot s.parts now (omega (arith, newest, other)) waits behind.awaits it behind.pieces

  its : HasPieces w.driver (slot_of (lent_driver w.driver w.memory).book.slots) s.parts now (runs_of_transfer get.transfer) (runs_of_endpoint get.endpoint) get.stage get.further
  its = pieces_for get.number (runs_of_transfer get.transfer) (runs_of_endpoint get.endpoint) get.stage get.further get.newest get.awaits get.are

  -- ---- they stand beside all requests

  is_new : (c : ℕ) (u : Qtd) → IsNewQtd w.driver.notes get.endpoint.dummy get.further (note_at w.driver.notes get.transfer.first).next c u
      → IsNewAt has.owner get.number get.transfer.endpoint c
  is_new c u new =
      let note = note_in d.notes in
      let qtds = get.awaits.qtds in
      let kept = stands_alive get.endpoint (only.endpoints get.transfer.endpoint get.endpoint get.here) get.going in
      new_at d has.owner get.number get.transfer.endpoint get.endpoint.dummy get.further (note_at d.notes get.transfer.first).next c u
      (λ p piece.
      owned_piece d has get.number p get.transfer get.there get.awaits.here.held (subst (λ (i : ℕ). IsPieceOf note get.transfer.first i p) (sym qtds) (inr piece)))
      (ap has.owner get.awaits.ends ∙ (dummy_placed d has get.transfer.endpoint get.endpoint get.here (only.endpoints get.transfer.endpoint get.endpoint get.here) kept).owned)
      new

  is_none : (n c : ℕ) (u : Qtd)
      → IsNewQtd w.driver.notes get.endpoint.dummy get.further (note_at w.driver.notes get.transfer.first).next c u
      → IsNoRequests a.courses n c
  is_none n c u new i stage on few same =
      let z = is_new c u new in
      let own = owner_at g member s.parts s.hand a v asks d m (wired fixed w) q has n i z.block stage on few (same ∙ z.at) in
      ⊎_elim (λ (newest : has.owner z.block ≡ ElementOwner get.number).
      not_asked g member s.parts s.hand a v asks d m (wired fixed w) q has get.number b words get.transfer get.endpoint only get.command get.newest get.there get.here get.going n i on few (ap element_of (sym own ∙ newest)))
      (λ (dummy : has.owner z.block ≡ Dummy get.transfer.endpoint). no_dummy ((a.numbers n).number i) get.transfer.endpoint (sym own ∙ dummy)) z.owned

  beside : IsLentBeside a.courses s.parts now
  beside = record {
    still = still;
    buffers = λ n c t here. (spared n c t here).bytes t here;
    elements = λ n c t here.
        ⊎_elim {C = (s.parts n c ≡ Some (Element t)) ⊎ IsNoRequests a.courses n c}
        (λ (same : n ≡ 32 * get.endpoint.queue).
        ⊎_elim {C = (s.parts n c ≡ Some (Element t)) ⊎ IsNoRequests a.courses n c}
        (λ (was : s.parts (32 * get.endpoint.queue) c ≡ Some (Element t)). inl (ap (λ (i : ℕ). s.parts i c) same ∙ was))
        (λ (new : IsNewQtd d.notes get.endpoint.dummy get.further (note_at d.notes get.transfer.first).next c t). inr (is_none n c t new))
        (its.elements c t (sym (ap (λ (i : ℕ). now i c) same) ∙ here)))
        (λ (differs : n ≢ 32 * get.endpoint.queue). inl (sym (ap (λ (part : _). part c) (its.beside n differs)) ∙ here))
        (cases_eq n (32 * get.endpoint.queue));
  }

  stand_then : CoursesStand control_of member a.courses now s.hand (wired fixed w)
  stand_then = lend_spares control_of member a.courses s.parts now s.hand (wired fixed w) beside q.stand

  -- ---- a request is coming

  module _ (e : ℕ) (z : Endpoint) (is : IsMetControl g w.driver e z) (next : is_next_of w.driver e ≡ true) where
    abbrev n : ℕ
    n = 32 * z.queue

    abbrev c : Course
    c = a.courses (32 * z.queue)

    abbrev u : Numbers
    u = a.numbers (32 * z.queue)

    abbrev count : ℕ
    count = (queue_in (a.courses (32 * z.queue))).count

    abbrev r : Request
    r = (a.numbers (32 * z.queue)).requests.requests (queue_in (a.courses (32 * z.queue))).count

    abbrev y : Places
    y = (a.numbers (32 * z.queue)).requests.places (queue_in (a.courses (32 * z.queue))).count

    course : HasCourse g w.driver e z (a.courses (32 * z.queue)) (a.numbers (32 * z.queue))
    course = q.each e z is

    at : IsPublishingAt w.driver w.memory z (s.parts (32 * z.queue)) (a.courses (32 * z.queue)) (a.numbers (32 * z.queue)) b words
    at = subst (λ (i : Option Command). IsPublishingBy d m z (s.parts n) c u i) get.command (q.publishing e z is next)

    held : IsHeldRequest w.driver w.memory b words ((a.numbers (32 * z.queue)).requests.requests (queue_in (a.courses (32 * z.queue))).count)
    held = at.held get.made

    abbrev h : IsToBeLent w.driver w.memory b words
    h = held.lends

    last_is : slice_get w.driver.transfers (length w.driver.transfers - 1) ≡ Some h.transfer
    last_is = let newest = h.newest in let same : length d.transfers - 1 ≡ h.number = omega (arith, newest) in ap (slice_get d.transfers) same ∙ h.there

    end_is : h.endpoint ≡ z
    end_is =
        let of : h.transfer.endpoint ≡ e = next_is (slice_get d.transfers (length d.transfers - 1)) h.transfer e b words last_is (sym (ap (λ (i : Option Command). is_publishing i (slice_get d.transfers (length d.transfers - 1)) e) h.command) ∙ next) in
        same_Some h.endpoint z (sym h.here ∙ ap (slice_get d.endpoints) of ∙ is.is.here)

    number_is : (a.numbers (32 * z.queue)).number (queue_in (a.courses (32 * z.queue))).count ≡ h.number
    number_is = let one = course.newest next in let two = h.newest in omega (arith, one, two)

    within : (queue_in (a.courses (32 * z.queue))).count < (a.numbers (32 * z.queue)).requests.count
    within = let many = course.count ∙ ap (λ (i : Bool). if i then suc count else count) next in omega (arith, many)

    places_are : (a.numbers (32 * z.queue)).requests.places (queue_in (a.courses (32 * z.queue))).count ≡ request_places w.driver.notes h.transfer.first r
    places_are =
        let o = laid_at g member s.parts s.hand a v asks d m (wired fixed w) q has n count course.queue within in
        let own : o.own ≡ h.transfer = same_Some o.own h.transfer (sym o.here ∙ ap (slice_get d.transfers) number_is ∙ h.there) in
        o.places ∙ ap (λ (i : Transfer). request_places d.notes i.first r) own

    others : (i : ℕ) → i < (queue_in (a.courses (32 * z.queue))).count
        → AreOthers ((queue_in (a.courses (32 * z.queue))).places i) (request_places w.driver.notes h.transfer.first r)
    others i few =
        let less = (q.records.each n course.queue).numbered.own.rising i count few within in
        subst (AreOthers ((queue_in c).places i)) places_are
        (subst (λ (p : Places). AreOthers p y) (same_places g member s.parts s.hand a v asks d m (wired fixed w) q has n i course.queue few)
        (laid_are_others d (u.number i) (u.number count) (u.requests.requests i) r (u.requests.places i) y has
        (laid_at g member s.parts s.hand a v asks d m (wired fixed w) q has n i course.queue (fewer g member s.parts s.hand a v asks d m (wired fixed w) q has n i course.queue few))
        (laid_at g member s.parts s.hand a v asks d m (wired fixed w) q has n count course.queue within) (λ same. omega (arith, same, less))))

    -- its first qTD is still the inactive one
    inactive : s.parts (32 * h.endpoint.queue) (32 * h.transfer.first) ≡ Some (Element dummy_qtd)
    inactive =
        let p : IsPublished d s.parts b words = k.queues.fed.publishes b words get.command in
        let one = p.newest in
        let two = h.newest in
        let number : p.number ≡ h.number = omega (arith, one, two) in
        let transfer : p.transfer ≡ h.transfer = same_Some p.transfer h.transfer (sym p.there ∙ ap (slice_get d.transfers) number ∙ h.there) in
        let end : p.endpoint ≡ h.endpoint = same_Some p.endpoint h.endpoint (sym p.here ∙ ap (λ (i : Transfer). slice_get d.endpoints i.endpoint) transfer ∙ h.here) in
        let none : d.made - 1 ≡ 0 = (let made = get.made in omega (arith, made)) in
        ap (λ (i : ℕ). s.parts (32 * h.endpoint.queue) (32 * i)) h.first ∙ ap (λ (i : Endpoint). s.parts (32 * i.queue) (32 * b)) (sym end) ∙ p.stored ∙ ap (λ (i : ℕ). Some (Element (partly p.qtd i))) none

    coming : IsComing (queue_in (a.courses (32 * z.queue))) r (request_places w.driver.notes h.transfer.first r) (32 * h.transfer.first) (32 * h.endpoint.dummy)
        (stage_qtd w.driver.notes h.stage h.transfer.first h.endpoint.dummy (is_last h.further)) (now (32 * h.endpoint.queue))
    coming =
        request_is_lent d m h.number (runs_of_transfer h.transfer) (runs_of_endpoint h.endpoint) h.stage h.further slot s.parts now (queue_in c) r h.awaits held.stages stands
        (subst (λ (i : ℕ). RequestIsHeld m d.notes i r) (sym h.first) held.held) (pieces_for h.number (runs_of_transfer h.transfer) (runs_of_endpoint h.endpoint) h.stage h.further h.newest h.awaits h.are)
        tells inactive at.request (apart_awaits d m h.number (runs_of_transfer h.transfer) (runs_of_endpoint h.endpoint) h.stage h.further r h.awaits held.stages) others

    tail_is : tail_in (a.courses (32 * z.queue)) ≡ 32 * h.transfer.first
    tail_is = course.tail ∙ ap (λ (i : ℕ). 32 * i) (tail_next d.command (slice_get d.transfers (length d.transfers - 1)) e z.dummy b words get.command next ∙ sym h.first)

    written : IsWritten (lent_now w.driver w.memory) z (now (32 * z.queue)) (a.courses (32 * z.queue)) (a.numbers (32 * z.queue)) words
    written =
        let setup : Qtd = stage_qtd d.notes h.stage h.transfer.first h.endpoint.dummy (is_last h.further) in
        record {
          setup = setup;
          words_are = h.are;
          range = ranged d m stands shape h.stage h.transfer.first h.endpoint.dummy (is_last h.further) h.awaits.pids.0 h.awaits.short.0 h.awaits.noted.0;
          coming = subst (λ (i : Endpoint). IsComing (queue_in c) r y (tail_in c) (32 * i.dummy) setup (now (32 * i.queue))) end_is
              (subst (λ (p : Places). IsComing (queue_in c) r p (tail_in c) (32 * h.endpoint.dummy) setup (now (32 * h.endpoint.queue))) (sym places_are)
              (subst (λ (i : ℕ). IsComing (queue_in c) r (request_places d.notes h.transfer.first r) i (32 * h.endpoint.dummy) setup (now (32 * h.endpoint.queue))) (sym tail_is) coming));
        }

    publishing_then : (new : Mem)
        → IsPublishing (lent_now w.driver w.memory) new z (now (32 * z.queue)) (a.courses (32 * z.queue)) (a.numbers (32 * z.queue))
    publishing_then new =
        subst (λ (i : Option Command). IsPublishingBy (lent_now d m) new z (now n) c u i) (sym get.command)
        (record { request = at.request; held = λ none. absurd (omega (arith, none)); written = λ some. written })

  -- ---- what was read

  read_then : (e t : ℕ) (z : Endpoint) (y : Transfer) → IsMetControl g w.driver e z → told_end z ≡ None → z.next ≡ Some t
      → slice_get w.driver.transfers t ≡ Some y
      → IsReadTo s.hand now (32 * z.queue) (note_at w.driver.notes) y ((a.numbers (32 * z.queue)).requests.requests 0)
  read_then e t z y is going next there =
      let k = q.read e t z y is going next there in
      let i = (note_at d.notes y.first).next in
      record {
        setup = k.setup;
        data_at = λ some one.
            let r = k.data_at some one in
            record {
              bytes = r.bytes;
              done = spared_is_done s.hand s.hand s.parts now (32 * z.queue) i (note_at d.notes i).moved r.bytes (same_hand s.hand) (heads (32 * z.queue)) (spared (32 * z.queue) (32 * i) r.done.qtd r.done.here) r.done;
            };
        rest = k.rest;
      }

  -- ---- no microframe is missed

  -- no queue head is new, and each new qTD is so
  unmissed_then : NoneMissed (have_queues a.courses) now
  unmissed_then = record {
    heads = λ n h on here.
        let was : HasHead s.parts n (queue_in (a.courses n)) = head_of control_of s.parts s.hand (wired fixed w) n (a.courses n) on (q.stand.each n) in
        ap (λ (i : Qh). i.token.missed) (sym (one_head was.queue h (sym (still n n (QueueHead was.queue) was.head) ∙ here))) ∙ q.unmissed.structures.heads n was.queue on was.head;
    elements = λ n c t on here.
        ⊎_elim {C = t.token.missed ≡ false}
        (λ (same : n ≡ 32 * get.endpoint.queue).
        ⊎_elim {C = t.token.missed ≡ false} (λ (was : s.parts (32 * get.endpoint.queue) c ≡ Some (Element t)). q.unmissed.structures.elements n c t on (ap (λ (i : ℕ). s.parts i c) same ∙ was))
        (λ (new : IsNewQtd d.notes get.endpoint.dummy get.further (note_at d.notes get.transfer.first).next c t). new_unmissed d.notes get.endpoint.dummy get.further (note_at d.notes get.transfer.first).next c t new)
        (its.elements c t (sym (ap (λ (i : ℕ). now i c) same) ∙ here)))
        (λ (differs : n ≢ 32 * get.endpoint.queue). q.unmissed.structures.elements n c t on (sym (ap (λ (part : Structures). part c) (its.beside n differs)) ∙ here)) (cases_eq n (32 * get.endpoint.queue));
  }

  first_then : (t : Qtd) → words ≡ qtd_words t → IsQtdInRange t → t.token.missed ≡ false
  first_then t is range =
      let setup : Qtd = stage_qtd d.notes get.stage get.transfer.first get.endpoint.dummy (is_last get.further) in
      ap (λ (u : Qtd). u.token.missed)
      (one_qtd t setup range (ranged d m stands shape get.stage get.transfer.first get.endpoint.dummy (is_last get.further) get.awaits.pids.0 get.awaits.short.0 get.awaits.noted.0) (sym is ∙ get.are))

  -- ---- the whole

  pub lent_asks : (more : Mem) → AsksIn g member now s.hand a v asks (lent_now w.driver w.memory) more (wired fixed w)
  lent_asks more =
      goes_on g member s.parts now s.hand a v asks d m more (wired fixed w) (lend_taken (holding d.book m)).book 1 q
      (record { structures = unmissed_then; in_hand = q.unmissed.in_hand; first = subst (PublishesNoneBy 1) (sym get.command) (λ some. first_then) }) stand_then (λ e z is next. publishing_then e z is next more) read_then
