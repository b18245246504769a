-- What the row leaves.
use Rattle.std.proofs.Common.{◌≡◌, ◌≢◌, ℕ, suc, ◌+◌, ◌-◌, ◌*◌, ◌<◌, ◌≤◌, Bool, true, false, if◌then◌else◌, List, length, set, slice_get, Option, Some, None, option_map, ap, refl, sym, subst, ◌∙◌, ⊎_elim, inl, inr, arith}
use Rattle.std.specs.Prelude.{nat_eq}
use Rattle.std.proofs.lemmas.Bool.{cases_eq, true≢false, eq-eqb}
use Rattle.std.proofs.lemmas.Option.{same_Some}
use Rattle.law_common.proofs.Lists.{drop_one, set_here, set_there}
use Rattle.law_common.proofs.Numbers.{other_number}
use Rattle.law_ring.proofs.Common.{those_here}
use Rattle.law_queues.proofs.Common.{piece_more}
use Rattle.qh_qtd.specs.declared.qtd.Qtd.{Qtd}
use Rattle.mem_runs.specs.Book.{Holding, holding, slot_of}
use Rattle.drv_table.specs.declared.content.Command.{Command}
use Rattle.drv_table.specs.declared.content.Command.TheVariants as unfinished
use Rattle.drv_table.specs.declared.content.Endpoint.{Endpoint}
use Rattle.drv_table.specs.declared.content.Transfer.{Transfer}
use Rattle.drv_table.specs.declared.content.QtdNote.{QtdNote}
use Rattle.drv_table.specs.declared.content.Sort.{Sort}
use Rattle.drv_table.specs.DriverContent.{DriverContent}
use Rattle.drv_table.specs.Parts.{Parts as DriverParts}
use Rattle.drv_table.specs.Releases.{freed_by, free_runs, free_qtds, after_transfer}
use Rattle.drv_table.specs.Rows.{after_driver_row}
use Rattle.drv_table.specs.Harvests.{note_at}
use Rattle.claims_driver.specs.Owners.{TransferRuns, NoteRuns, runs_of_endpoint, runs_of_transfer, transfer_in, note_in, views_of}
use Rattle.law_driver.specs.chained_transfers.Chains.{piece_at}
use Rattle.law_driver.specs.chained_transfers.Turns.{IsAtPlace}
use Rattle.law_driver.specs.chained_transfers.Out.{passed, out_of_transfer, out_now}
use Rattle.law_structures.specs.lent_structures.Structures.{Element as ElementOf, Structures, StructureSets}
use Rattle.law_structures.specs.lent_structures.Sound.{element_pages, buffer_name}
use Rattle.law_structures.proofs.lemmas.lent_structures.Altering.{found_element}
use Rattle.law_ring.specs.Hand.{Hand}
use Rattle.law_ring.specs.Effects.{buffer_of}
use Rattle.law_ring.specs.Order.{IsAmong}
use Rattle.law_ring.specs.Fewer.{without_those}
use Rattle.law_ring.proofs.Returning.{those_found, those_else, those_beside}
use Rattle.law_ring.specs.Front.{IsPassed, LinksRise, HasFront}
use Rattle.law_controller.specs.controlled_streams.Returned.{staying, staying_of, GoUntold}
use Rattle.law_controller.proofs.lemmas.controlled_streams.Returning.{front_is_returned, passed_has_none, spares_element}
use Rattle.law_driver_ring.specs.Inventory.{sorts_of, IsLent, IsDriven}
use Rattle.law_driver_ring.specs.Released.{blocks_of, goes_of, release_row}
use Rattle.law_driver_ring.proofs.Blocks.{mine, all_mine, none_mine, qtds_are_runs}
use Rattle.law_driver_ring.proofs.Freeing.{IsLess, runs_less}
use Rattle.law_driver_ring.specs.fed_queues.Fed.{IsPieceFed, unpublished_of, AreFed, sized}
use Rattle.law_driver_ring.specs.fed_queues.Places.{IsMet, AreLast, AreStillOut, IsThere}
use Rattle.law_queues.specs.released_queues.Fronts.{piece_address, StandsAt, FrontsStand}
use Rattle.law_queues.proofs.lemmas.released_queues.Outs.{out_is, IsDropped, out_of_one, out_in, gone, plain_gone, plain_other}
use Rattle.law_frames.specs.Met.{IsQueuePart}
use Rattle.law_queues.specs.released_queues.Released.{IsReturning}
use Rattle.law_queues.specs.released_queues.Staying.{QueuesAreTold, ReleaseStays}
use Rattle.law_queues.proofs.lemmas.released_queues.Links.{mapped, none_yet}
use Rattle.law_queues.proofs.lemmas.released_queues.StayingQueues.{goes_off, goes_on, one_queue, queue_of, pieces_of, piece_off, dummy_off, to_go, met as its_met}
use Rattle.law_queues.proofs.lemmas.released_queues.StayingParts.{stand, buffers_stay, head_stays, may_go}
use Rattle.law_driver.proofs.lemmas.run_owners.Freeing.{runs_freed}
use Rattle.law_driver_ring.specs.Extents.{AreInRuns}
use Rattle.law_driver_ring.proofs.ReleaseOwning.{TransferGoes, driven_without, extents_without}
use Rattle.law_queues.proofs.lemmas.released_queues.Fewer.{fewer_rise, part_fewer}

lent_was : (h : Holding) (notes : List QtdNote) (b m c : ℕ) → IsLent (slot_of (free_qtds notes h b m).book.slots c) → IsLent (slot_of h.book.slots c)
lent_was h notes b m c lent =
    by_less (runs_less h (blocks_of (note_in notes) b m) c) (subst (λ (g : Holding). IsLent (slot_of g.book.slots c)) (qtds_are_runs notes h b m) lent)
  where
    by_less : IsLess (slot_of (free_runs h (blocks_of (note_in notes) b m)).book.slots c) (slot_of h.book.slots c) → IsLent (slot_of (free_runs h (blocks_of (note_in notes) b m)).book.slots c) → IsLent (slot_of h.book.slots c)
    by_less (inl same) now = subst IsLent same now
    by_less (inr empty) now = absurd (subst IsLent empty now)

module _ (parts : StructureSets) (p : DriverParts) (order : ℕ → ℕ → ℕ) (out : ℕ → List ℕ) (t : ℕ) (y : Transfer) (x : Endpoint) (s : QueuesAreTold parts p order out) (k : IsReturning p.driver t y x) (whole : IsQueuePart (32 * x.queue) (parts (32 * x.queue))) where
  abbrev d : DriverContent
  d = p.driver

  abbrev n : ℕ
  n = 32 * x.queue

  abbrev note : ℕ → NoteRuns
  note = note_in d.notes

  abbrev goes : ℕ → Bool
  goes = goes_of d y

  abbrev now : StructureSets
  now = without_those parts n goes

  abbrev freed : Holding
  freed = free_qtds d.notes (holding d.book p.memory) y.first y.qtds

  abbrev after : DriverParts
  after = after_transfer p t (Some y) freed

  abbrev e : DriverContent
  e = after.driver

  off : (c : ℕ) → mine t (s.owners.owner c) ≡ false → goes (32 * c) ≡ false
  off = goes_off parts p order out t y x s k

  off_piece : (u i : ℕ) (z : Transfer) → slice_get d.transfers u ≡ Some z → z.released ≡ false → i < z.qtds → u ≢ t → goes (piece_address d z i) ≡ false
  off_piece u i z here held below differs = off (piece_at note z.first i) (piece_off parts p order out t y x s k u i z here held below differs)

  same_transfer : (u : ℕ) (z : Transfer) → slice_get d.transfers u ≡ Some z → u ≡ t → z ≡ y
  same_transfer u z here same = same_Some z y (sym here ∙ ap (slice_get d.transfers) same ∙ k.here)

  -- a transfer that still waits was one before
  was_there : (u : ℕ) (z : Transfer) → slice_get (set d.transfers t (gone y)) u ≡ Some z → z.released ≡ false → (u ≢ t) × (slice_get d.transfers u ≡ Some z)
  was_there u z here held =
      ⊎_elim (λ (same : u ≡ t).
      let is : gone y ≡ z = same_Some (gone y) z (sym (set_here d.transfers t y (gone y) k.here) ∙ ap (slice_get (set d.transfers t (gone y))) (sym same) ∙ here) in
      absurd (true≢false (ap (λ (r : Transfer). r.released) is ∙ held)))
      (λ (differs : u ≢ t). (differs, sym (set_there d.transfers t u (gone y) differs) ∙ here)) (cases_eq u t)

  -- two endpoints with one queue
  same_queue : (i : ℕ) (z : Endpoint) → slice_get d.endpoints i ≡ Some z → z.gone ≡ false → 32 * z.queue ≡ n → (i ≡ y.endpoint) × (z ≡ x)
  same_queue i z here kept at =
      let one = one_queue parts p order out t y x s k i (runs_of_endpoint z) (queue_of parts p order out t y x s k i z here kept) (let same : z.queue ≡ x.queue = omega (arith, at) in same) in
      (one.0, same_Some z x (sym here ∙ ap (slice_get d.endpoints) one.0 ∙ k.endpoint))

  there_before : (z : Endpoint) → IsThere e z → IsThere d z
  there_before z is = record { linked = is.linked; kept = is.kept }

  met_before : (i : ℕ) (z : Endpoint) → IsMet e i z → IsMet d i z
  met_before i z is = record { there = there_before z is.there; near = is.near }

  no_command : (c : Command) → e.command ≡ Some c → ⊥
  no_command c is = none_some c (sym k.free ∙ is)
    where
      none_some : (c : Command) → None ≡ Some c → ⊥
      none_some c bad = cc

  -- ---- what is fed

  piece_still : (sort : Sort) (m : ℕ) (a : ℕ) (note_of : QtdNote) (b end : ℕ) → a ≡ 32 * b → goes a ≡ false → IsPieceFed sort (parts m) note_of b end → IsPieceFed sort (now m) note_of b end
  piece_still sort m a note_of b end is stay f =
      let there : parts m a ≡ Some (ElementOf f.qtd) = ap (parts m) is ∙ f.here in
      record {
        qtd = f.qtd;
        here = ap (now m) (sym is) ∙ those_else parts n goes m a stay ∙ there;
        noted = f.noted;
        long = ap length (⊎_elim (λ (same : m ≡ n).
            subst (λ (i : ℕ). buffer_of (now i) f.qtd ≡ buffer_of (parts i) f.qtd) (sym same)
            ((spares_element parts n goes (head_stays parts p order out t y x s k whole) (buffers_stay parts p order out t y x s k whole) a stay).bytes f.qtd (ap (λ (i : ℕ). parts i a) (sym same) ∙ there)))
            (λ (differs : m ≢ n). ap (λ (part : Structures). buffer_of part f.qtd) (those_beside parts n goes m differs)) (cases_eq m n)) ∙ f.long;
        places = f.places;
        fresh = f.fresh;
        blank = f.blank;
        buffer = λ some.
            let has = f.buffer some in
            record {
              bytes = has.bytes;
              here = ⊎_elim (λ (same : m ≡ n).
                  let name_stays : goes (buffer_name f.qtd) ≡ false = buffers_stay parts p order out t y x s k whole a f.qtd (ap (λ (i : ℕ). parts i a) (sym same) ∙ there) stay
                  (record { pages = element_pages f.qtd; start = f.qtd.offset; bytes = has.bytes; here = ap (λ (i : ℕ). parts i (buffer_name f.qtd)) (sym same) ∙ has.here }) in
                  those_else parts n goes m (buffer_name f.qtd) name_stays ∙ has.here)
                  (λ (differs : m ≢ n). ap (λ (part : Structures). part (buffer_name f.qtd)) (those_beside parts n goes m differs) ∙ has.here) (cases_eq m n);
              size = has.size;
            };
      }

  fed_now : AreFed e now
  fed_now = record {
    dummies = λ i z here kept lent.
        those_else parts n goes (32 * z.queue) (32 * z.dummy) (off z.dummy (dummy_off parts p order out t y x s k i z here kept))
        ∙ s.fed.dummies i z here kept (lent_was (holding d.book p.memory) d.notes y.first y.qtds z.dummy lent);
    pieces = λ u i z c here held at from below.
        let was = was_there u z here held in
        let none : unpublished_of d u z ≡ 0 = none_yet d.command d.made z.qtds (nat_eq (suc u) (length d.transfers)) k.free in
        piece_still z.sort (32 * c.queue) (piece_address d z i) (sized z.sort i (note_at d.notes (piece_at note z.first i))) (piece_at note z.first i) (piece_at note z.first z.qtds) refl (off_piece u i z was.1 held below was.0)
        (s.fed.pieces u i z c was.1 held at (omega (arith, none)) below);
    publishes = λ b words is. absurd (no_command (unfinished.Publish b words) is);
  }

  last_now : AreLast e now order
  last_now = record {
    dummies = λ i z here kept lent b q found differs.
        s.last.dummies i z here kept (lent_was (holding d.book p.memory) d.notes y.first y.qtds z.dummy lent) b q (those_found parts n goes (32 * z.queue) b (ElementOf q) found) differs;
    taken = λ b words u z c is made newest here first at. absurd (no_command (unfinished.Publish b words) is);
    sorted = λ b words u z c is made newest here first at. absurd (no_command (unfinished.Publish b words) is);
  }

  -- ---- what is out

  -- which piece one that is out is
  piece_out : (u : ℕ) (z : Transfer) (a : ℕ) → slice_get d.transfers u ≡ Some z → z.released ≡ false → IsDropped note z.place (0 + passed z.reported) z.left a → (i : ℕ) × (a ≡ piece_address d z i) × (z.qtds - z.left + passed z.reported ≤ i) × (i < z.qtds)
  piece_out u z a here held dropped =
      let at : IsAtPlace note z = s.turns.places u z here held in
      let most = at.most in
      let from = dropped.from in
      let below = dropped.below in
      let i : ℕ = z.qtds - z.left + dropped.number in (
        i,
        dropped.at ∙ ap (λ (c : ℕ). 32 * piece_at note c dropped.number) at.place ∙ ap (λ (c : ℕ). 32 * c) (piece_more note z.first (z.qtds - z.left) dropped.number),
        omega (arith, from),
        omega (arith, most, below),
      )

  out_goes : (a : ℕ) → IsAmong a (out_of_transfer note y.endpoint 0 y) → goes a ≡ true
  out_goes a among =
      let is = out_of_one note y.endpoint y a among in
      let place = piece_out t y a k.here k.held is.dropped in
      ap goes place.1 ∙ goes_on parts p order out t y x s k place.0 place.3

  out_stays : (u a : ℕ) (z : Transfer) (c : ℕ) → u ≢ t → slice_get d.transfers u ≡ Some z → IsAmong a (out_of_transfer note c 0 z) → goes a ≡ false
  out_stays u a z c differs here among =
      let is = out_of_one note c z a among in
      let place = piece_out u z a here is.held is.dropped in
      ap goes place.1 ∙ off_piece u place.0 z here is.held place.3 differs

  out_here : staying goes (out_now d y.endpoint) ≡ out_now e y.endpoint
  out_here =
      ap (staying goes) (out_is d y.endpoint k.free) ∙ plain_gone goes note y.endpoint d.transfers t y k.here out_goes (λ u a z differs here among. out_stays u a z y.endpoint differs here among)
      ∙ sym (out_is e y.endpoint k.free)

  out_beside : (c : ℕ) → y.endpoint ≢ c → out_now d c ≡ out_now e c
  out_beside c differs = out_is d c k.free ∙ sym (plain_other note c d.transfers t y k.here differs) ∙ sym (out_is e c k.free)

  still_out_now : AreStillOut e (staying_of n goes out)
  still_out_now i z here is =
      ⊎_elim (λ (same : 32 * z.queue ≡ n).
      let one = same_queue i z here is.kept same in
      ap (λ (b : Bool). if b then staying goes (out (32 * z.queue)) else out (32 * z.queue)) (eq-eqb (32 * z.queue) n same)
      ∙ ap (staying goes) (s.still_out i z here (there_before z is) ∙ ap (out_now d) one.0) ∙ out_here ∙ ap (out_now e) (sym one.0))
      (λ (differs : 32 * z.queue ≢ n).
      ap (λ (b : Bool). if b then staying goes (out (32 * z.queue)) else out (32 * z.queue)) (other_number (32 * z.queue) n differs)
      ∙ s.still_out i z here (there_before z is) ∙ out_beside i (λ one. differs (ap (λ (c : Endpoint). 32 * c.queue) (same_Some z x (sym here ∙ ap (slice_get d.endpoints) (sym one) ∙ k.endpoint))))) (cases_eq (32 * z.queue) n)

  untold_now : (hand : Hand) → GoUntold goes (out n) hand parts n
  untold_now hand a xs among goes_now told =
      let front_here = stand parts p order out t y x s k whole in
      let met : IsMet d y.endpoint x = its_met parts p order out t y x s k in
      let place = out_in note y.endpoint d.transfers a (subst (IsAmong a) (s.still_out y.endpoint x k.endpoint met.there ∙ out_is d y.endpoint k.free) among) in
      let piece = piece_out place.number place.transfer a place.here place.is.held place.is.dropped in
      ⊎_elim (λ (same : place.number ≡ t).
      let is : place.transfer ≡ y = same_transfer place.number place.transfer place.here same in
      let from : y.qtds - y.left + passed y.reported ≤ piece.0 = subst (λ (r : Transfer). r.qtds - r.left + passed r.reported ≤ piece.0) is piece.2 in
      let below : piece.0 < y.qtds = subst (λ (r : Transfer). piece.0 < r.qtds) is piece.3 in
      let one : passed y.reported ≡ 1 = ap passed k.reported in
      let over : IsPassed (order n) front_here.front (parts n) (piece_address d y piece.0) = front_here.passed 0 t piece.0 y k.first k.here k.held refl (omega (arith, from, one)) below in
      let at : a ≡ piece_address d y piece.0 = piece.1 ∙ ap (λ (r : Transfer). piece_address d r piece.0) is in
      passed_has_none (order n) front_here.front (out n) hand parts n a xs front_here.has among (subst (λ (c : ℕ). order n c < front_here.front) (sym at) over.before) told
      (ap (λ (q : Qtd). q.token.active) (found_element (parts n a) told.qtd over.qtd told.here (ap (parts n) at ∙ over.here)) ∙ over.published))
      (λ (differs : place.number ≢ t).
      absurd (true≢false (sym goes_now ∙ ap goes piece.1 ∙ off_piece place.number piece.0 place.transfer place.here place.is.held piece.3 differs))) (cases_eq place.number t)

  -- ---- fronts

  -- the front of the queue head at m stays
  front_now : (m f : ℕ) → HasFront (order m) f (out m) m (parts m) → HasFront (order m) f (staying_of n goes out m) m (now m)
  front_now m f has =
      ⊎_elim (λ (same : m ≡ n).
      subst (λ (b : Bool). HasFront (order m) f (if b then staying goes (out m) else out m) m (now m)) (sym (eq-eqb m n same))
      (subst (λ (i : ℕ). HasFront (order i) f (staying goes (out i)) i (now i)) (sym same)
      (front_is_returned (order n) f (out n) parts n goes (head_stays parts p order out t y x s k whole) (buffers_stay parts p order out t y x s k whole)
      (subst (λ (i : ℕ). HasFront (order i) f (out i) i (parts i)) same has))))
      (λ (differs : m ≢ n).
      subst (λ (b : Bool). HasFront (order m) f (if b then staying goes (out m) else out m) m (now m)) (sym (other_number m n differs))
      (subst (HasFront (order m) f (out m) m) (sym (those_beside parts n goes m differs)) has)) (cases_eq m n)

  stands_now : (i : ℕ) (z : Endpoint) → StandsAt d (parts (32 * z.queue)) (order (32 * z.queue)) (out (32 * z.queue)) i z → StandsAt e (now (32 * z.queue)) (order (32 * z.queue)) (staying_of n goes out (32 * z.queue)) i z
  stands_now i z f = record {
    front = f.front;
    has = front_now (32 * z.queue) f.front f.has;
    ended = λ h u c at there held same. let was = was_there u c there held in f.ended (suc h) u c (drop_one d.harvested h u at) was.1 held same;
    passed = λ h u j c at there held same from below.
        let was = was_there u c there held in
        let over = f.passed (suc h) u j c (drop_one d.harvested h u at) was.1 held same from below in
        record { qtd = over.qtd; here = those_else parts n goes (32 * z.queue) (piece_address d c j) (off_piece u j c was.1 held below was.0) ∙ over.here; published = over.published; before = over.before };
  }

  -- .. in its place
  pub stands_there : (i : ℕ) (z : Endpoint) → (f : StandsAt d (parts (32 * z.queue)) (order (32 * z.queue)) (out (32 * z.queue)) i z)
      → (g : StandsAt e (now (32 * z.queue)) (order (32 * z.queue)) (staying_of n goes out (32 * z.queue)) i z) × (g.front ≡ f.front)
  unfolding stands_now
  stands_there i z f = (stands_now i z f, refl)

  fronts_now : FrontsStand e now order (staying_of n goes out)
  fronts_now i z here is = stands_now i z (s.fronts i z here (met_before i z is))

  -- ---- whose the structures are

  blocks : List ℕ
  blocks = blocks_of note y.first y.qtds

  kept_slot : (c : ℕ) → mine t (s.owners.owner c) ≡ false → slot_of freed.book.slots c ≡ slot_of d.book.slots c
  unfolding blocks
  kept_slot c off =
      ap (λ (g : Holding). slot_of g.book.slots c) (qtds_are_runs d.notes (holding d.book p.memory) y.first y.qtds)
      ∙ runs_freed (holding d.book p.memory) blocks c (none_mine s.owners.owner t c blocks off (all_mine (slot_of d.book.slots) s.owners.owner note t y.first y.qtds (pieces_of parts p order out t y x s k t y k.here k.held)))

  run_was : (u : ℕ) (z : TransferRuns) → transfer_in (set d.transfers t (gone y)) u ≡ Some z → z.released ≡ false → (u ≢ t) × (transfer_in d.transfers u ≡ Some z)
  run_was u z there held =
      let m = mapped runs_of_transfer (slice_get (set d.transfers t (gone y)) u) z there in
      let was = was_there u m.0 m.1 (ap (λ (r : TransferRuns). r.released) (sym m.2) ∙ held) in
      (was.0, ap (option_map runs_of_transfer) was.1 ∙ ap (λ (r : TransferRuns). Some r) (sym m.2))

  views_go : TransferGoes (views_of d) (views_of e) s.owners.owner t (runs_of_transfer y) (runs_of_endpoint x)
  views_go =
      let go = to_go parts p order out t y x s k in
      record {
        owned = s.owners.owned.each;
        here = record { here = ap (option_map runs_of_transfer) k.here; held = k.held; qtds = go.qtds; queue = go.queue };
        slots = λ c lent. lent_was (holding d.book p.memory) d.notes y.first y.qtds c lent;
        kept = kept_slot;
        endpoints = λ i. refl;
        notes = λ b. refl;
        gone = run_was;
        others = λ u differs. ap (option_map runs_of_transfer) (set_there d.transfers t u (gone y) differs);
      }

  driven_now : IsDriven (views_of e) (sorts_of now)
  driven_now = driven_without (views_of d) (views_of e) s.owners.owner t (runs_of_transfer y) (runs_of_endpoint x) views_go parts s.driven

  in_runs_now : AreInRuns (views_of e) now
  in_runs_now = extents_without (views_of d) (views_of e) s.owners.owner t (runs_of_transfer y) (runs_of_endpoint x) views_go parts s.in_runs

  -- ---- links and parts

  rise_now : (i : ℕ) (z : Endpoint) → slice_get e.endpoints i ≡ Some z → IsThere e z → LinksRise (order (32 * z.queue)) (now (32 * z.queue))
  rise_now i z here is = fewer_rise parts n goes (order (32 * z.queue)) (32 * z.queue) (s.rise i z here (there_before z is))

  part_now : (m : ℕ) → IsQueuePart m (parts m) → IsQueuePart m (now m)
  part_now m sound =
      ⊎_elim (λ (same : m ≡ n).
      subst (λ (i : ℕ). IsQueuePart i (now i)) (sym same)
      (subst (IsQueuePart n) (sym (those_here parts n goes)) (part_fewer n (parts n) goes whole (may_go parts p order out t y x s k whole whole.queue whole.here))))
      (λ (differs : m ≢ n). subst (IsQueuePart m) (sym (those_beside parts n goes m differs)) sound) (cases_eq m n)

pub after_is : (p : DriverParts) (t : ℕ) (y : Transfer) (x : Endpoint) → IsReturning p.driver t y x
    → after_driver_row (release_row t) p ≡ after_transfer p t (Some y) (free_qtds p.driver.notes (holding p.driver.book p.memory) y.first y.qtds)
after_is p t y x k = ap (λ (o : Option Transfer). after_transfer p t o (freed_by p.driver (holding p.driver.book p.memory) o)) k.here

pub release_stays : ReleaseStays
release_stays parts p order out t y x s k whole =
    let is = sym (after_is p t y x k) in
    let n = 32 * x.queue in
    let goes = goes_of p.driver y in
    let now = without_those parts n goes in
    record {
      to_go = to_go parts p order out t y x s k;
      may_go = may_go parts p order out t y x s k whole;
      driven = subst (λ (q : DriverParts). IsDriven (views_of q.driver) (sorts_of now)) is (driven_now parts p order out t y x s k whole);
      in_runs = subst (λ (q : DriverParts). AreInRuns (views_of q.driver) now) is (in_runs_now parts p order out t y x s k whole);
      fed = subst (λ (q : DriverParts). AreFed q.driver now) is (fed_now parts p order out t y x s k whole);
      last = subst (λ (q : DriverParts). AreLast q.driver now order) is (last_now parts p order out t y x s k whole);
      still_out = subst (λ (q : DriverParts). AreStillOut q.driver (staying_of n goes out)) is (still_out_now parts p order out t y x s k whole);
      fronts = subst (λ (q : DriverParts). FrontsStand q.driver now order (staying_of n goes out)) is (fronts_now parts p order out t y x s k whole);
      rise = subst (λ (q : DriverParts). (i : ℕ) (z : Endpoint) → slice_get q.driver.endpoints i ≡ Some z → IsThere q.driver z → LinksRise (order (32 * z.queue)) (now (32 * z.queue))) is
          (rise_now parts p order out t y x s k whole);
      part = part_now parts p order out t y x s k whole;
      head = head_stays parts p order out t y x s k whole;
      buffers = buffers_stay parts p order out t y x s k whole;
      untold = untold_now parts p order out t y x s k whole;
    }
