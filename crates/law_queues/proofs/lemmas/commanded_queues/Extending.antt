-- Buffers stay in their runs along accepted commands.
use Rattle.std.proofs.Common.{◌≡◌, ◌≢◌, ℕ, zero, suc, ◌-◌, ◌*◌, List, [], ◌∷◌, length, take, drop, get_or, Option, Some, option_map, ap, refl, sym, subst, ◌∙◌, ⊎_elim, inl, inr}
use Rattle.std.proofs.lemmas.Bool.{cases_eq}
use Rattle.std.proofs.lemmas.Option.{same_Some}
use Rattle.law_queues.proofs.Common.{piece_told}
use Rattle.law_driver_ring.proofs.Common.{lent_of}
use Rattle.law_common.proofs.Lists.{drop_first}
use Rattle.mem_runs.specs.declared.slots.Slot.{Slot}
use Rattle.mem_runs.specs.declared.slots.Slot.TheVariants.{Empty}
use Rattle.mem_runs.specs.Book.{Holding, holding, slot_of}
use Rattle.drv_table.specs.Words.{needs}
use Rattle.drv_table.specs.Accepting.{Offered, new_runs}
use Rattle.drv_table.specs.Offers.{note_stages, new_endpoint, accepted_open, accepted_transfer}
use Rattle.claims_driver.specs.Owners.{Owner, Element, HasRun, SlotHas, IsPlaced, ArePieces, EndpointRuns, TransferRuns, NoteRuns, Views, runs_of_endpoint, views_of, IsPieceOf}
use Rattle.law_driver.proofs.lemmas.run_owners.Taking.{AreTaken, runs_taken}
use Rattle.law_driver.proofs.lemmas.run_owners.Transferred.{goes_on_alive}
use Rattle.law_driver.proofs.lemmas.ring_members.Placed.{has_queue}
use Rattle.law_structures.specs.lent_structures.Structures.{StructureSets}
use Rattle.law_driver_ring.specs.Inventory.{Sort, OfElement, OfBuffer, sort_of, sorts_of, IsLent, IsTransferIn, IsDriven}
use Rattle.law_driver_ring.proofs.Opens.{open_one_more}
use Rattle.law_driver_ring.proofs.Transfers.{moved_end, one_transfer, OneTransfer}
use Rattle.law_driver_ring.proofs.AcceptNoted.{transfer_one}
use Rattle.law_driver_ring.specs.Extents.{AreInRuns}
use Rattle.law_queues.specs.commanded_queues.Accepted.{ExtentsOpen, ExtentsAsked}

-- ---- where each lent buffer was one before

-- of an endpoint with the same queue head
record HadBuffer (v : Views) (t b c : ℕ) (cs : List ℕ) (y : TransferRuns) (x : EndpointRuns) : Type 0 where
  endpoint : EndpointRuns
  transfer : IsTransferIn v t y endpoint
  piece : IsPieceOf v.note y.first y.qtds b
  first : (v.note b).buffer ≡ c ∷ cs
  queue : endpoint.queue ≡ x.queue

extents_by : (v w : Views) (parts : StructureSets) → ((c k : ℕ) → SlotHas (v.slot c) k → SlotHas (w.slot c) k)
    → ((t b c : ℕ) (cs : List ℕ) (y : TransferRuns) (x : EndpointRuns) → IsTransferIn w t y x → IsPieceOf w.note y.first y.qtds b → (w.note b).buffer ≡ c ∷ cs → IsLent (w.slot c) → HadBuffer v t b c cs y x)
    → IsDriven w (sorts_of parts) → AreInRuns v parts → AreInRuns w parts
extents_by v w parts slots had driven lies = record {
  list = lies.list;
  buffers = λ t b c cs y x pages k bs is piece first here j has.
      let lent = lent_of w (32 * x.queue) (32 * c) OfBuffer c refl refl (driven.only (32 * x.queue) (32 * c) OfBuffer (ap (option_map sort_of) here)) in
      let was = had t b c cs y x is piece first lent in
      let inside = lies.buffers t b c cs y was.endpoint pages k bs was.transfer was.piece was.first (ap (λ (q : ℕ). parts (32 * q) (32 * c)) was.queue ∙ here) j has in
      record { at = inside.at; among = inside.among; has = slots inside.at j inside.has };
}

-- ---- what a command takes

has_run : (s : Slot) (k : ℕ) → SlotHas s k → HasRun s
has_run Empty k has = has
has_run _ k has = tt

slots_still : (h g : Holding) (ns bs : List ℕ) → AreTaken h g ns bs → (c k : ℕ) → SlotHas (slot_of h.book.slots c) k → SlotHas (slot_of g.book.slots c) k
slots_still h g ns bs taken c k has = subst (λ (s : Slot). SlotHas s k) (sym (taken.old c (has_run (slot_of h.book.slots c) k has))) has

-- ---- an open

pub extents_open : ExtentsOpen
extents_open d m o parts why stands owners driven lies =
    let g = why.holding_after in
    let all = runs_taken (holding d.book m) g (2 ∷ 1 ∷ []) stands why.runs in
    let bs = all.blocks in
    let new : new_runs d g ≡ bs = ap (drop (length d.book.taken)) all.are.taken ∙ drop_first d.book.taken bs in
    let is : o ≡ accepted_open d why.desc g (get_or bs 0 0) (get_or bs 1 0) = why.is ∙ ap (λ (rs : List ℕ). accepted_open d why.desc g (get_or rs 0 0) (get_or rs 1 0)) new in
    let more = open_one_more d m why.desc g bs owners why.runs all.are in
    let v = views_of d in
    let w = views_of (accepted_open d why.desc g (get_or bs 0 0) (get_or bs 1 0)).driver in
    let y = runs_of_endpoint (new_endpoint why.desc (get_or bs 0 0) (get_or bs 1 0)) in
    subst (λ (f : Offered). AreInRuns (views_of f.driver) parts) (sym is)
    (extents_by v w parts (slots_still (holding d.book m) g (2 ∷ 1 ∷ []) bs all.are)
    (λ t b c cs z x at piece first lent. record {
      endpoint = x;
      transfer = record {
        here = at.here;
        held = at.held;
        qtds = at.qtds;
        queue = record {
          here = ⊎_elim (λ (old : v.endpoint z.endpoint ≡ Some x). old) (λ (fresh : (z.endpoint ≡ length d.endpoints) × (x ≡ y)). absurd (more.within t z at.here fresh.0)) (more.endpoints z.endpoint x at.queue.here);
          queued = at.queue.queued;
        };
      };
      piece = piece;
      first = first;
      queue = refl;
    }) (subst (λ (f : Offered). IsDriven (views_of f.driver) (sorts_of parts)) is driven) lies)

-- ---- a get, a put or a request

-- one of a transfer's qTDs was one before, and its note stays
record WasPiece (note other : ℕ → NoteRuns) (b n c : ℕ) : Type 0 where
  is : IsPieceOf note b n c
  same : other c ≡ note c

piece_back : (slot : ℕ → Slot) (owner : ℕ → Owner) (note other : ℕ → NoteRuns) (t b n c : ℕ) → ((k : ℕ) → IsPlaced slot owner k (Element t) → other k ≡ note k) → ArePieces slot owner note t b n → IsPieceOf other b n c → WasPiece note other b n c
piece_back slot owner note other t b zero c same pieces is = absurd is
piece_back slot owner note other t b (suc n) c same pieces (inl is) = record { is = inl is; same = ap other is ∙ same b pieces.0.element ∙ sym (ap note is) }
piece_back slot owner note other t b (suc n) c same pieces (inr is) =
    let rest = piece_back slot owner note other t (note b).next n c same pieces.1 (subst (λ (k : ℕ). IsPieceOf other k n c) (ap (λ (r : NoteRuns). r.next) (same b pieces.0.element)) is) in
    record { is = inr rest.is; same = rest.same }

module _ (v w : Views) (owner : ℕ → Owner) (number : ℕ) (x : EndpointRuns) (dummy count n : ℕ) (one : OneTransfer v w owner number x dummy count n) where
  -- nothing of the new transfer is lent yet but its first qTD
  new_not_lent : (b c : ℕ) (cs : List ℕ) → IsPieceOf w.note x.dummy n b → (w.note b).buffer ≡ c ∷ cs → IsLent (w.slot c) → ⊥
  new_not_lent b c cs piece first lent =
      let none : ◌≡◌ {A = Option Sort} (Some OfElement) (Some OfBuffer) = piece_told w (λ a. Some OfElement) x.dummy n b c cs (one.new_pieces (λ a. Some OfElement) (λ on. refl)) piece first lent in
      cc

  had_buffer : (t b c : ℕ) (cs : List ℕ) (y : TransferRuns) (z : EndpointRuns) → IsTransferIn w t y z → IsPieceOf w.note y.first y.qtds b → (w.note b).buffer ≡ c ∷ cs → IsLent (w.slot c) → HadBuffer v t b c cs y z
  had_buffer t b c cs y z is piece first lent =
      ⊎_elim
      (λ (old : v.transfer t ≡ Some y).
      let p = piece_back v.slot owner v.note w.note t y.first y.qtds b (λ k at. one.notes k t at) (one.owned.pieces t y old is.held) piece in
      let same : (v.note b).buffer ≡ c ∷ cs = ap (λ (r : NoteRuns). r.buffer) (sym p.same) ∙ first in
      ⊎_elim
      (λ (own : y.endpoint ≡ number).
      let now : z ≡ moved_end x dummy = same_Some z (moved_end x dummy) (sym is.queue.here ∙ ap w.endpoint own ∙ one.now) in
      let was : HadBuffer v t b c cs y z = record {
        endpoint = x;
        transfer = record { here = old; held = is.held; qtds = is.qtds; queue = record { here = ap v.endpoint own ∙ one.here; queued = one.alive } };
        piece = p.is;
        first = same;
        queue = ap (λ (r : EndpointRuns). r.queue) (sym now);
      } in was)
      (λ (other : y.endpoint ≢ number).
      let was : HadBuffer v t b c cs y z = record {
        endpoint = z;
        transfer = record { here = old; held = is.held; qtds = is.qtds; queue = record { here = sym (one.others y.endpoint other) ∙ is.queue.here; queued = is.queue.queued } };
        piece = p.is;
        first = same;
        queue = refl;
      } in was)
      (cases_eq y.endpoint number))
      (λ (new : (t ≡ count) × (y ≡ one_transfer number x.dummy n)). absurd (new_not_lent b c cs (subst (λ (r : TransferRuns). IsPieceOf w.note r.first r.qtds b) new.1 piece) first lent))
      (one.transfers t y is.here)

pub extents_asked : ExtentsAsked
extents_asked d m o parts why stands owners driven lies =
    let g = why.holding_after in
    let a = why.asked in
    let n = length a.stages in
    let x = why.endpoint in
    let all = runs_taken (holding d.book m) g (needs a.stages) stands why.runs in
    let bs = all.blocks in
    let new : new_runs d g ≡ bs = ap (drop (length d.book.taken)) all.are.taken ∙ drop_first d.book.taken bs in
    let alive = has_queue x why.queued (goes_on_alive x why.goes_on (owners.orderly.steady why.number x why.here)) in
    let dummy = get_or (take n bs) (n - 1) 0 in
    let notes = note_stages d.notes a.stages x.dummy (take n bs) (drop n bs) in
    let is : o ≡ accepted_transfer d why.number x a g dummy notes =
    why.is ∙ ap (λ (rs : List ℕ). accepted_transfer d why.number x a g (get_or (take n rs) (n - 1) 0) (note_stages d.notes a.stages x.dummy (take n rs) (drop n rs))) new in
    let w = views_of (accepted_transfer d why.number x a g dummy notes).driver in
    let one = transfer_one d m why.number x a g bs owners why.runs all.are why.some why.here alive why.sort in
    subst (λ (f : Offered). AreInRuns (views_of f.driver) parts) (sym is)
    (extents_by (views_of d) w parts (slots_still (holding d.book m) g (needs a.stages) bs all.are)
    (had_buffer (views_of d) w owners.owner why.number (runs_of_endpoint x) dummy (length d.transfers) n one)
    (subst (λ (f : Offered). IsDriven (views_of f.driver) (sorts_of parts)) is driven) lies)
