-- The blocks of a transfer are given back: the buffers of other puts stay.
use Rattle.std.proofs.Common.{◌≡◌, ◌≢◌, ℕ, ◌*◌, ◌<◌, Bool, true, false, List, set, slice_get, Option, Some, ap, sym, ◌∙◌, ⊎_elim, arith}
use Rattle.std.proofs.lemmas.Bool.{cases_eq, true≢false}
use Rattle.std.proofs.lemmas.Option.{same_Some}
use Rattle.law_common.proofs.Lists.{set_here, set_there}
use Rattle.law_queues.proofs.Common.{none_unpublished}
use Rattle.async_walk.specs.Walk.{Walk}
use Rattle.mem_runs.specs.Book.{holding}
use Rattle.drv_table.specs.declared.content.Endpoint.{Endpoint}
use Rattle.drv_table.specs.declared.content.Sort.TheVariants as sorts
use Rattle.drv_table.specs.declared.content.Transfer.{Transfer}
use Rattle.drv_table.specs.Harvests.{note_at}
use Rattle.drv_table.specs.Parts.{Parts as DriverParts}
use Rattle.drv_table.specs.Releases.{freed_by, after_transfer}
use Rattle.drv_table.specs.Rows.{after_driver_row}
use Rattle.claims_driver.specs.Owners.{note_in}
use Rattle.law_driver.specs.chained_transfers.Bulk.{MovesAs}
use Rattle.law_driver.specs.chained_transfers.Asynchronous.{OnlyAsynchronous}
use Rattle.law_driver.specs.chained_transfers.Chains.{piece_at}
use Rattle.law_structures.specs.lent_structures.Structures.{Buffer, Structures, StructureSets}
use Rattle.law_structures.specs.lent_structures.Sound.{element_pages, buffer_name, HasBuffer}
use Rattle.law_ring.specs.Hand.{Hand}
use Rattle.claims_base.specs.Controller.{Base}
use Rattle.law_ring.specs.Stores.{IsBuffer}
use Rattle.law_ring.specs.Fewer.{without_those}
use Rattle.law_ring.proofs.Returning.{those_beside, those_else}
use Rattle.law_driver_ring.specs.Released.{goes_of, release_row}
use Rattle.law_driver_ring.specs.fed_queues.Fed.{is_request, IsPieceFed}
use Rattle.law_driver_ring.proofs.lemmas.fed_queues.Sized.{told_fed}
use Rattle.law_queues.specs.released_queues.Released.{IsReturning, ReleaseStands, IsReleased}
use Rattle.law_queues.proofs.lemmas.released_queues.Queues.{goes_off, piece_off}
use Rattle.law_queues.proofs.lemmas.released_queues.Releasing.{release_feeds}
use Rattle.law_world.specs.streams.put_laws.HeldPuts.{HoldsPuts}
use Rattle.law_world.proofs.lemmas.streams.lemmas.put_laws.HeldAlike.{note_is, SameBytes, was_itself, puts_stay}
use Rattle.law_world.proofs.lemmas.streams.lemmas.put_laws.Stored.{fed_stored, buffer_stays, either_way}

module _ (base : Base) (member : ℕ → Bool) (parts : StructureSets) (hand : Hand) (w : Walk) (p : DriverParts) (order : ℕ → ℕ → ℕ) (out : ℕ → List ℕ) (t : ℕ) (y : Transfer) (x : Endpoint) (s : ReleaseStands base member parts hand w p order out) (k : IsReturning p.driver t y x) (bulk : OnlyAsynchronous p.driver) where
  r : IsReleased base member parts hand w p order out t (32 * x.queue) (goes_of p.driver y)
  r = release_feeds base member parts hand w p order out t y x s k

  row_is : after_driver_row (release_row t) p ≡ after_transfer p t (Some y) (freed_by p.driver (holding p.driver.book p.memory) (Some y))
  row_is = ap (λ (o : Option Transfer). after_transfer p t o (freed_by p.driver (holding p.driver.book p.memory) o)) k.here

  -- a transfer that isn't given back was there, and is another one
  was_there : (u : ℕ) (z : Transfer) → slice_get (after_driver_row (release_row t) p).driver.transfers u ≡ Some z → z.released ≡ false → (u ≢ t) × (slice_get p.driver.transfers u ≡ Some z)
  was_there u z here held =
      let there : slice_get (set p.driver.transfers t (record y { released = true })) u ≡ Some z = sym (ap (λ (q : DriverParts). slice_get q.driver.transfers u) row_is) ∙ here in
      ⊎_elim
      (λ (own : u ≡ t).
      let is : record y { released = true } ≡ z =
      same_Some (record y { released = true }) z (sym (set_here p.driver.transfers t y (record y { released = true }) k.here) ∙ ap (slice_get (set p.driver.transfers t (record y { released = true }))) (sym own) ∙ there) in
      absurd (true≢false (ap (λ (q : Transfer). q.released) is ∙ held)))
      (λ (other : u ≢ t). (other, sym (set_there p.driver.transfers t u (record y { released = true }) other) ∙ there)) (cases_eq u t)

  -- the buffer of a qTD of another transfer
  buffer_there : (u i : ℕ) (z : Transfer) (e : Endpoint) → slice_get p.driver.transfers u ≡ Some z → z.released ≡ false → u ≢ t → i < z.qtds
      → (f : IsPieceFed z.sort (parts (32 * e.queue)) (note_at p.driver.notes (piece_at (note_in p.driver.notes) z.first i)) (piece_at (note_in p.driver.notes) z.first i) (piece_at (note_in p.driver.notes) z.first z.qtds))
      → (bytes : List ℕ) → parts (32 * e.queue) (buffer_name f.qtd) ≡ Some (Buffer (element_pages f.qtd) f.qtd.offset bytes)
      → without_those parts (32 * x.queue) (goes_of p.driver y) (32 * e.queue) (buffer_name f.qtd) ≡ Some (Buffer (element_pages f.qtd) f.qtd.offset bytes)
  buffer_there u i z e there held differs below f bytes here =
      let c = piece_at (note_in p.driver.notes) z.first i in
      ⊎_elim
      (λ (same : 32 * e.queue ≡ 32 * x.queue).
      let off : goes_of p.driver y (32 * c) ≡ false =
      goes_off base member parts hand w p order out t y x s k c (piece_off base member parts hand w p order out t y x s k u i z there held below differs) in
      let buffer : IsBuffer (parts (32 * x.queue)) (buffer_name f.qtd) = record {
        pages = element_pages f.qtd;
        start = f.qtd.offset;
        bytes = bytes;
        here = ap (λ (m : ℕ). parts m (buffer_name f.qtd)) (sym same) ∙ here;
      } in
      let stays : goes_of p.driver y (buffer_name f.qtd) ≡ false = r.buffers (32 * c) f.qtd (ap (λ (m : ℕ). parts m (32 * c)) (sym same) ∙ f.here) off buffer in
      those_else parts (32 * x.queue) (goes_of p.driver y) (32 * e.queue) (buffer_name f.qtd) stays ∙ here)
      (λ (apart : 32 * e.queue ≢ 32 * x.queue).
      ap (λ (part : Structures). part (buffer_name f.qtd)) (those_beside parts (32 * x.queue) (goes_of p.driver y) (32 * e.queue) apart) ∙ here)
      (cases_eq (32 * e.queue) (32 * x.queue))

  bytes_stay : (u i : ℕ) (z : Transfer) → slice_get p.driver.transfers u ≡ Some z → z.sort ≡ sorts.Put → z.released ≡ false → u ≢ t → i < z.qtds
      → SameBytes p.memory (after_driver_row (release_row t) p).memory (note_at p.driver.notes (piece_at (note_in p.driver.notes) z.first i))
  bytes_stay u i z there put held differs below =
      let moves : MovesAs p.driver z = bulk.moves u z there in
      let e : Endpoint = moves.endpoint in
      let c = piece_at (note_in p.driver.notes) z.first i in
      let note = note_at p.driver.notes c in
      let none = none_unpublished p.driver u z k.free in
      let f : IsPieceFed z.sort (parts (32 * e.queue)) note c (piece_at (note_in p.driver.notes) z.first z.qtds) = told_fed z.sort (parts (32 * e.queue)) i note c (piece_at (note_in p.driver.notes) z.first z.qtds) (ap is_request put) (s.fed.pieces u i z e there held moves.here (omega (arith, none)) below) in
      either_way p.memory (after_driver_row (release_row t) p).memory note
      (λ some.
      let has : HasBuffer (parts (32 * e.queue)) f.qtd note.told = f.buffer some in
      buffer_stays p.memory (after_driver_row (release_row t) p).memory parts (without_those parts (32 * x.queue) (goes_of p.driver y)) (32 * e.queue) note s.drives.ring.tells r.drives.ring.tells
      (fed_stored z.sort (parts (32 * e.queue)) note c (piece_at (note_in p.driver.notes) z.first z.qtds) f some)
      (buffer_there u i z e there held differs below f has.bytes has.here))

  pub release_holds : (puts : ℕ → List ℕ) → HoldsPuts p.driver p.memory puts → HoldsPuts (after_driver_row (release_row t) p).driver (after_driver_row (release_row t) p).memory puts
  release_holds puts held =
      puts_stay p.driver (after_driver_row (release_row t) p).driver p.memory (after_driver_row (release_row t) p).memory puts
      (λ u z here put still.
      let was = was_there u z here still in
      record {
        was = was_itself p.driver.transfers u z was.1;
        notes = λ i below.
            let c = piece_at (note_in p.driver.notes) z.first i in
            note_is (note_at p.driver.notes c) (note_at (after_driver_row (release_row t) p).driver.notes c) (ap (λ (q : DriverParts). note_at q.driver.notes c) row_is);
        bytes = λ i below. bytes_stay u i z was.1 put still was.0 below;
      }) held
