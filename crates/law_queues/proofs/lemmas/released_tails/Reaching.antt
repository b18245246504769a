-- The row leaves fronts and tails.
use Rattle.std.proofs.Common.{◌≡◌, ◌≢◌, ℕ, suc, ◌*◌, ◌<◌, Bool, false, if◌then◌else◌, List, set, slice_get, Option, Some, ap, sym, subst, ◌∙◌, ⊎_elim}
use Rattle.std.proofs.lemmas.Bool.{cases_eq, true≢false, eq-eqb}
use Rattle.std.proofs.lemmas.Option.{same_Some}
use Rattle.law_queues.proofs.Common2.{fewer_within}
use Rattle.law_common.proofs.Lists.{drop_one, set_here, set_there}
use Rattle.law_queues.proofs.Common.{fewer_tail}
use Rattle.law_common.proofs.Numbers.{other_number}
use Rattle.async_walk.specs.Walk.{Walk}
use Rattle.mem_runs.specs.Book.{holding}
use Rattle.drv_table.specs.declared.content.Endpoint.{Endpoint}
use Rattle.drv_table.specs.declared.content.Transfer.{Transfer}
use Rattle.drv_table.specs.DriverContent.{DriverContent}
use Rattle.drv_table.specs.Parts.{Parts as DriverParts}
use Rattle.drv_table.specs.Releases.{freed_by, free_qtds, after_transfer}
use Rattle.drv_table.specs.Rows.{after_driver_row}
use Rattle.claims_driver.specs.Owners.{NoteRuns, note_in}
use Rattle.law_driver.specs.chained_transfers.Chains.{piece_at}
use Rattle.law_structures.specs.lent_structures.Structures.{StructureSets}
use Rattle.law_ring.specs.Hand.{Hand}
use Rattle.claims_base.specs.Controller.{Base}
use Rattle.law_ring.specs.Fewer.{without_those}
use Rattle.law_ring.proofs.Returning.{those_else, those_beside}
use Rattle.law_ring.specs.Front.{HasFront}
use Rattle.law_controller.specs.controlled_streams.Returned.{staying, staying_of}
use Rattle.law_controller.proofs.lemmas.controlled_streams.Returning.{front_is_returned}
use Rattle.law_driver_ring.specs.Released.{goes_of, release_row}
use Rattle.law_queues.specs.released_queues.Fronts.{piece_address, StandsAt}
use Rattle.law_queues.specs.released_queues.Released.{IsReturning, ReleaseStands}
use Rattle.law_queues.proofs.lemmas.released_queues.Queues.{goes_off, piece_off}
use Rattle.law_queues.proofs.lemmas.released_queues.Going.{buffers_stay, head_stays}
use Rattle.law_queues.proofs.lemmas.released_queues.Outs.{gone}
use Rattle.law_queues.specs.standing_fronts.Reaching.{Reaches}
use Rattle.law_queues.specs.released_tails.Tails.{ReleaseKeepsReaches}

module _ (base : Base) (member : ℕ → Bool) (parts : StructureSets) (hand : Hand) (w : Walk) (p : DriverParts) (order : ℕ → ℕ → ℕ) (out : ℕ → List ℕ) (t : ℕ) (y : Transfer) (x : Endpoint) (s : ReleaseStands base member parts hand w p order out) (k : IsReturning p.driver t y x) where
  abbrev d : DriverContent
  d = p.driver

  abbrev n : ℕ
  n = 32 * x.queue

  abbrev note : ℕ → NoteRuns
  note = note_in d.notes

  abbrev goes : ℕ → Bool
  goes = goes_of d y

  abbrev now : StructureSets
  now = without_those parts n goes

  abbrev after : DriverParts
  after = after_transfer p t (Some y) (free_qtds d.notes (holding d.book p.memory) y.first y.qtds)

  abbrev e : DriverContent
  e = after.driver

  off_piece : (u i : ℕ) (z : Transfer) → slice_get d.transfers u ≡ Some z → z.released ≡ false → i < z.qtds → u ≢ t → goes (piece_address d z i) ≡ false
  off_piece u i z here held below differs =
      goes_off base member parts hand w p order out t y x s k (piece_at note z.first i) (piece_off base member parts hand w p order out t y x s k u i z here held below differs)

  -- a transfer that still waits was one before
  was_there : (u : ℕ) (z : Transfer) → slice_get (set d.transfers t (gone y)) u ≡ Some z → z.released ≡ false → (u ≢ t) × (slice_get d.transfers u ≡ Some z)
  was_there u z here held =
      ⊎_elim (λ (same : u ≡ t).
      let is : gone y ≡ z = same_Some (gone y) z (sym (set_here d.transfers t y (gone y) k.here) ∙ ap (slice_get (set d.transfers t (gone y))) (sym same) ∙ here) in
      absurd (true≢false (ap (λ (r : Transfer). r.released) is ∙ held)))
      (λ (differs : u ≢ t). (differs, sym (set_there d.transfers t u (gone y) differs) ∙ here)) (cases_eq u t)

  -- the front of the queue head at m stays
  front_now : (m f : ℕ) → HasFront (order m) f (out m) m (parts m) → HasFront (order m) f (staying_of n goes out m) m (now m)
  front_now m f has =
      ⊎_elim (λ (same : m ≡ n).
      subst (λ (b : Bool). HasFront (order m) f (if b then staying goes (out m) else out m) m (now m)) (sym (eq-eqb m n same))
      (subst (λ (i : ℕ). HasFront (order i) f (staying goes (out i)) i (now i)) (sym same)
      (front_is_returned (order n) f (out n) parts n goes (head_stays base member parts hand w p order out t y x s k) (buffers_stay base member parts hand w p order out t y x s k)
      (subst (λ (i : ℕ). HasFront (order i) f (out i) i (parts i)) same has))))
      (λ (differs : m ≢ n).
      subst (λ (b : Bool). HasFront (order m) f (if b then staying goes (out m) else out m) m (now m)) (sym (other_number m n differs))
      (subst (HasFront (order m) f (out m) m) (sym (those_beside parts n goes m differs)) has)) (cases_eq m n)

  stands_now : (i : ℕ) (z : Endpoint) → (f : StandsAt d (parts (32 * z.queue)) (order (32 * z.queue)) (out (32 * z.queue)) i z)
      → HasFront (order (32 * z.queue)) f.front (staying_of n goes out (32 * z.queue)) (32 * z.queue) (now (32 * z.queue)) → StandsAt e (now (32 * z.queue)) (order (32 * z.queue)) (staying_of n goes out (32 * z.queue)) i z
  stands_now i z f has = record {
    front = f.front;
    has = has;
    ended = λ h u c at there held same. let was = was_there u c there held in f.ended (suc h) u c (drop_one d.harvested h u at) was.1 held same;
    passed = λ h u j c at there held same from below.
        let was = was_there u c there held in
        let over = f.passed (suc h) u j c (drop_one d.harvested h u at) was.1 held same from below in
        record { qtd = over.qtd; here = those_else parts n goes (32 * z.queue) (piece_address d c j) (off_piece u j c was.1 held below was.0) ∙ over.here; published = over.published; before = over.before };
  }

  pub reaches_now : (i : ℕ) (z : Endpoint) (c : ℕ) → Reaches d (parts (32 * z.queue)) (order (32 * z.queue)) (out (32 * z.queue)) i z c → Reaches e (now (32 * z.queue)) (order (32 * z.queue)) (staying_of n goes out (32 * z.queue)) i z c
  unfolding stands_now
  reaches_now i z c r = record {
    stands = stands_now i z r.stands (front_now (32 * z.queue) r.stands.front r.stands.has);
    within = fewer_within parts n goes (order (32 * z.queue)) (32 * z.queue) c r.within;
    tail = fewer_tail parts n goes (order (32 * z.queue)) (32 * z.queue) c r.stands.front r.tail;
  }

pub release_keeps_reaches : ReleaseKeepsReaches
release_keeps_reaches base member parts hand w p order out t y x s k i z c r =
    let row_is : after_driver_row (release_row t) p ≡ after_transfer p t (Some y) (free_qtds p.driver.notes (holding p.driver.book p.memory) y.first y.qtds) = ap (λ (o : Option Transfer). after_transfer p t o (freed_by p.driver (holding p.driver.book p.memory) o)) k.here in
    subst (λ (q : DriverParts). Reaches q.driver (without_those parts (32 * x.queue) (goes_of p.driver y) (32 * z.queue)) (order (32 * z.queue)) (staying_of (32 * x.queue) (goes_of p.driver y) out (32 * z.queue)) i z c) (sym row_is)
    (reaches_now base member parts hand w p order out t y x s k i z c r)
