-- A transfer is accepted: the inventory stays, in which the inactive qTD at the end of the queue is the transfer's first now.
use Rattle.std.proofs.Common.{◌≡◌, ◌≢◌, ℕ, zero, suc, ◌*◌, ◌≤◌, ◌⊎◌, false, Option, Some, ap, refl, sym, subst, ◌∙◌, ⊎_elim, inl, inr, arith}
use Rattle.std.proofs.lemmas.Bool.{cases_eq}
use Rattle.std.proofs.lemmas.Option.{same_Some}
use Rattle.claims_driver.specs.Owners.{Owner, Element, IsPlaced, ArePieces, EndpointRuns, TransferRuns, NoteRuns, Views, AreOwned, IsPieceOf, IsQueueIn}
use Rattle.law_driver_ring.specs.Inventory.{Sort, OfQueueHead, OfElement, OfBuffer, Inventory, IsLent, IsBufferTold, AreTold, IsTransferIn, IsDriverOwned, the_list, the_head, a_queue, a_dummy, a_piece, a_buffer, IsDriven}
use Rattle.law_driver_ring.proofs.Taken.{TakesOn}
use Rattle.law_driver_ring.proofs.Opens.{buffer_on}

-- ---- views with a transfer more

-- the queue's end moves on
abbrev pub moved_end : EndpointRuns → ℕ → EndpointRuns
moved_end x dummy = record x { dummy = dummy }

abbrev pub one_transfer : ℕ → ℕ → ℕ → TransferRuns
one_transfer number first n = record { endpoint = number; first = first; qtds = n; isochronous = false; released = false }

pub record OneTransfer (v w : Views) (owner : ℕ → Owner) (number : ℕ) (x : EndpointRuns) (dummy count n : ℕ) : Type 0 where
  pub takes : TakesOn v.slot w.slot
  pub owned : AreOwned v owner
  pub here : v.endpoint number ≡ Some x
  pub alive : x.bare ≡ false
  pub now : w.endpoint number ≡ Some (moved_end x dummy)
  pub others : (e : ℕ) → e ≢ number → w.endpoint e ≡ v.endpoint e
  pub dummy_new : IsLent (w.slot dummy) → ⊥
  pub old : (t : ℕ) (z : TransferRuns) → v.transfer t ≡ Some z → w.transfer t ≡ Some z
  pub transfers : (t : ℕ) (z : TransferRuns) → w.transfer t ≡ Some z → (v.transfer t ≡ Some z) ⊎ ((t ≡ count) × (z ≡ one_transfer number x.dummy n))
  pub newest : w.transfer count ≡ Some (one_transfer number x.dummy n)
  pub some : 1 ≤ n
  pub notes : (b t : ℕ) → IsPlaced v.slot owner b (Element t) → w.note b ≡ v.note b
  pub new_pieces : (sorts : ℕ → Option Sort) → (IsLent (w.slot x.dummy) → sorts (32 * x.dummy) ≡ Some OfElement) → AreTold w sorts x.dummy n

-- ---- endpoints

-- the endpoint before, which has the same queue head
pub record WasQueue (v : Views) (e : ℕ) (z : EndpointRuns) : Type 0 where
  pub runs : EndpointRuns
  pub is : IsQueueIn v e runs
  pub queue : runs.queue ≡ z.queue

endpoint_case : (v w : Views) (owner : ℕ → Owner) (number : ℕ) (x : EndpointRuns) (dummy count n e : ℕ) (z : EndpointRuns) → OneTransfer v w owner number x dummy count n → w.endpoint e ≡ Some z → ((e ≡ number) × (z ≡ moved_end x dummy)) ⊎ (v.endpoint e ≡ Some z)
endpoint_case v w owner number x dummy count n e z one there =
    ⊎_elim (λ (same : e ≡ number). inl (same, same_Some z (moved_end x dummy) (sym there ∙ ap w.endpoint same ∙ one.now)))
    (λ (differs : e ≢ number). inr (sym (one.others e differs) ∙ there)) (cases_eq e number)

queue_back : (v w : Views) (owner : ℕ → Owner) (number : ℕ) (x : EndpointRuns) (dummy count n e : ℕ) (z : EndpointRuns) → OneTransfer v w owner number x dummy count n → IsQueueIn w e z → WasQueue v e z
queue_back v w owner number x dummy count n e z one is =
    ⊎_elim (λ (at : (e ≡ number) × (z ≡ moved_end x dummy)). record {
      runs = x;
      is = record { here = ap v.endpoint at.0 ∙ one.here; queued = one.alive };
      queue = ap (λ (r : EndpointRuns). r.queue) (sym at.1);
    })
    (λ (old : v.endpoint e ≡ Some z). record { runs = z; is = record { here = old; queued = is.queued }; queue = refl })
    (endpoint_case v w owner number x dummy count n e z one is.here)

queue_on : (v w : Views) (owner : ℕ → Owner) (number : ℕ) (x : EndpointRuns) (dummy count n e : ℕ) (z : EndpointRuns) → OneTransfer v w owner number x dummy count n → IsQueueIn v e z → WasQueue w e z
queue_on v w owner number x dummy count n e z one is =
    ⊎_elim (λ (same : e ≡ number).
    let is_x : z ≡ x = same_Some z x (sym is.here ∙ ap v.endpoint same ∙ one.here) in
    record {
      runs = moved_end x dummy;
      is = record { here = ap w.endpoint same ∙ one.now; queued = one.alive };
      queue = ap (λ (r : EndpointRuns). r.queue) (sym is_x);
    })
    (λ (differs : e ≢ number). record { runs = z; is = record { here = one.others e differs ∙ is.here; queued = is.queued }; queue = refl }) (cases_eq e number)

-- ---- the pieces of older transfers

told_kept : (v w : Views) (owner : ℕ → Owner) (sorts : ℕ → Option Sort) (t b n : ℕ) → TakesOn v.slot w.slot → ((c : ℕ) → IsPlaced v.slot owner c (Element t) → w.note c ≡ v.note c) → ArePieces v.slot owner v.note t b n → AreTold v sorts b n → AreTold w sorts b n
told_kept v w owner sorts t b zero takes notes pieces told = tt
told_kept v w owner sorts t b (suc n) takes notes pieces told =
    let same = notes b pieces.0.element in (
      record {
        element = λ lent. told.0.element (subst IsLent (takes.before b lent) lent);
        buffer = subst (λ (r : NoteRuns). IsBufferTold w.slot sorts r.buffer) (sym same) (buffer_on v.slot w.slot sorts (v.note b).buffer takes told.0.buffer);
      },
      subst (λ (r : NoteRuns). AreTold w sorts r.next n) (sym same) (told_kept v w owner sorts t (v.note b).next n takes notes pieces.1 told.1),
    )

-- one of them is one still, and its note stays
pub record StaysPiece (v w : Views) (b n c : ℕ) : Type 0 where
  pub is : IsPieceOf w.note b n c
  pub note : w.note c ≡ v.note c

piece_kept : (v w : Views) (owner : ℕ → Owner) (t b n c : ℕ) → ((k : ℕ) → IsPlaced v.slot owner k (Element t) → w.note k ≡ v.note k) → ArePieces v.slot owner v.note t b n → IsPieceOf v.note b n c → StaysPiece v w b n c
piece_kept v w owner t b zero c notes pieces is = absurd is
piece_kept v w owner t b (suc n) c notes pieces (inl is) = record { is = inl is; note = ap w.note is ∙ notes b pieces.0.element ∙ sym (ap v.note is) }
piece_kept v w owner t b (suc n) c notes pieces (inr is) =
    let rest = piece_kept v w owner t (v.note b).next n c notes pieces.1 is in
    record { is = inr (subst (λ (k : ℕ). IsPieceOf w.note k n c) (ap (λ (r : NoteRuns). r.next) (sym (notes b pieces.0.element))) rest.is); note = rest.note }

first_piece : (note : ℕ → NoteRuns) (b n : ℕ) → 1 ≤ n → IsPieceOf note b n b
first_piece note b zero some = absurd (omega (arith, some))
first_piece note b (suc n) some = inl refl

-- ---- the inventory

lent_on : (v w : Views) (c : ℕ) → TakesOn v.slot w.slot → IsLent (v.slot c) → IsLent (w.slot c)
lent_on v w c takes lent = subst IsLent (sym (takes.after c lent)) lent

lent_back : (v w : Views) (c : ℕ) → TakesOn v.slot w.slot → IsLent (w.slot c) → IsLent (v.slot c)
lent_back v w c takes lent = subst IsLent (takes.before c lent) lent

-- the transfer in the new views, with the same queue head
transfer_on : (v w : Views) (owner : ℕ → Owner) (number : ℕ) (x : EndpointRuns) (dummy count n t : ℕ) (y : TransferRuns) (z : EndpointRuns) → OneTransfer v w owner number x dummy count n → (is : IsTransferIn v t y z) → (q : WasQueue w y.endpoint z) → IsTransferIn w t y q.runs
transfer_on v w owner number x dummy count n t y z one is q = record { here = one.old t y is.here; held = is.held; qtds = is.qtds; queue = q.is }

owned_on : (v w : Views) (owner : ℕ → Owner) (number : ℕ) (x : EndpointRuns) (dummy count n a b : ℕ) (k : Sort) → OneTransfer v w owner number x dummy count n → IsDriverOwned v a b k → IsDriverOwned w a b k
owned_on v w owner number x dummy count n _ _ _ one the_list = the_list
owned_on v w owner number x dummy count n _ _ _ one the_head = the_head
owned_on v w owner number x dummy count n _ _ _ one (a_queue e z is lent) =
    let q = queue_on v w owner number x dummy count n e z one is in
    subst (λ (i : ℕ). IsDriverOwned w (32 * i) (32 * i) OfQueueHead) q.queue
    (a_queue e q.runs q.is (subst (λ (i : ℕ). IsLent (w.slot i)) (sym q.queue) (lent_on v w z.queue one.takes lent)))
owned_on v w owner number x dummy count n _ _ _ one (a_dummy e z is lent) =
    ⊎_elim (λ (same : e ≡ number).
    let is_x : z ≡ x = same_Some z x (sym is.here ∙ ap v.endpoint same ∙ one.here) in
    subst (λ (r : EndpointRuns). IsDriverOwned w (32 * r.queue) (32 * r.dummy) OfElement) (sym is_x)
    (a_piece count x.dummy (one_transfer number x.dummy n) (moved_end x dummy)
    (record { here = one.newest; held = refl; qtds = refl; queue = record { here = one.now; queued = one.alive } }) (first_piece w.note x.dummy n one.some)
    (subst (λ (r : EndpointRuns). IsLent (w.slot r.dummy)) is_x (lent_on v w z.dummy one.takes lent))))
    (λ (differs : e ≢ number). a_dummy e z (record { here = one.others e differs ∙ is.here; queued = is.queued }) (lent_on v w z.dummy one.takes lent)) (cases_eq e number)
owned_on v w owner number x dummy count n _ _ _ one (a_piece t b y z is piece lent) =
    let q = queue_on v w owner number x dummy count n y.endpoint z one is.queue in
    let p = piece_kept v w owner t y.first y.qtds b (λ c at. one.notes c t at) (one.owned.pieces t y is.here is.held) piece in
    subst (λ (i : ℕ). IsDriverOwned w (32 * i) (32 * b) OfElement) q.queue
    (a_piece t b y q.runs (transfer_on v w owner number x dummy count n t y z one is q) p.is (lent_on v w b one.takes lent))
owned_on v w owner number x dummy count n _ _ _ one (a_buffer t b c cs y z is piece first lent) =
    let q = queue_on v w owner number x dummy count n y.endpoint z one is.queue in
    let p = piece_kept v w owner t y.first y.qtds b (λ k at. one.notes k t at) (one.owned.pieces t y is.here is.held) piece in
    subst (λ (i : ℕ). IsDriverOwned w (32 * i) (32 * c) OfBuffer) q.queue
    (a_buffer t b c cs y q.runs (transfer_on v w owner number x dummy count n t y z one is q) p.is (ap (λ (r : NoteRuns). r.buffer) p.note ∙ first) (lent_on v w c one.takes lent))

-- the new transfer's endpoint
new_queue : (v w : Views) (owner : ℕ → Owner) (number : ℕ) (x : EndpointRuns) (dummy count n : ℕ) (y : TransferRuns) (z : EndpointRuns) → OneTransfer v w owner number x dummy count n → y ≡ one_transfer number x.dummy n → IsQueueIn w y.endpoint z → x.queue ≡ z.queue
new_queue v w owner number x dummy count n y z one is there =
    let at : y.endpoint ≡ number = ap (λ (r : TransferRuns). r.endpoint) is in
    let same : z ≡ moved_end x dummy = same_Some z (moved_end x dummy) (sym there.here ∙ ap w.endpoint at ∙ one.now) in
    ap (λ (r : EndpointRuns). r.queue) (sym same)

pub driven_transfer : (v w : Views) (owner : ℕ → Owner) (number : ℕ) (x : EndpointRuns) (dummy count n : ℕ) (sorts : Inventory) → OneTransfer v w owner number x dummy count n → IsDriven v sorts → IsDriven w sorts
driven_transfer v w owner number x dummy count n sorts one k = record {
  list = k.list;
  head = k.head;
  queue = λ e z is lent.
      let q = queue_back v w owner number x dummy count n e z one is in
      subst (λ (i : ℕ). sorts (32 * i) (32 * i) ≡ Some OfQueueHead) q.queue (k.queue e q.runs q.is (subst (λ (i : ℕ). IsLent (v.slot i)) (sym q.queue) (lent_back v w z.queue one.takes lent)));
  dummy = λ e z is lent.
      ⊎_elim (λ (at : (e ≡ number) × (z ≡ moved_end x dummy)). absurd (one.dummy_new (subst (λ (r : EndpointRuns). IsLent (w.slot r.dummy)) at.1 lent)))
      (λ (old : v.endpoint e ≡ Some z). k.dummy e z (record { here = old; queued = is.queued }) (lent_back v w z.dummy one.takes lent))
      (endpoint_case v w owner number x dummy count n e z one is.here);
  pieces = λ t y z is.
      let q = queue_back v w owner number x dummy count n y.endpoint z one is.queue in
      ⊎_elim (λ (old : v.transfer t ≡ Some y).
      told_kept v w owner (sorts (32 * z.queue)) t y.first y.qtds one.takes (λ c at. one.notes c t at) (one.owned.pieces t y old is.held)
      (subst (λ (i : ℕ). AreTold v (sorts (32 * i)) y.first y.qtds) q.queue (k.pieces t y q.runs (record { here = old; held = is.held; qtds = is.qtds; queue = q.is }))))
      (λ (new : (t ≡ count) × (y ≡ one_transfer number x.dummy n)).
      let queue : x.queue ≡ z.queue = new_queue v w owner number x dummy count n y z one new.1 is.queue in
      subst (λ (r : TransferRuns). AreTold w (sorts (32 * z.queue)) r.first r.qtds) (sym new.1)
      (one.new_pieces (sorts (32 * z.queue)) (λ lent.
      subst (λ (i : ℕ). sorts (32 * i) (32 * x.dummy) ≡ Some OfElement) queue (k.dummy number x (record { here = one.here; queued = one.alive }) (lent_back v w x.dummy one.takes lent)))))
      (one.transfers t y is.here);
  only = λ a b s there. owned_on v w owner number x dummy count n a b s one (k.only a b s there);
}
