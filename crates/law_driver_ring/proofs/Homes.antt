-- Each structure that stays lies in runs of which none is given back.
use Rattle.std.proofs.Common.{◌≡◌, ◌≢◌, ℕ, ◌==◌, ◌+◌, ◌*◌, ◌<◌, ◌≤◌, false, ◌∷◌, Some, option_map, ap, refl, sym, subst, ◌∙◌, ⊎_elim, inl, inr, arith}
use Rattle.std.specs.List.{AllByRecursion}
use Rattle.std.proofs.lemmas.Bool.{cases_eq, true≢false}
use Rattle.std.proofs.lemmas.Option.{same_Some}
use Rattle.law_common.proofs.Numbers.{other_number as not_same}
use Rattle.law_driver_ring.proofs.Common.{piece_among}
use Rattle.word_mem.proofs.Holders.{has_block_from}
use Rattle.mem_runs.specs.Book.{Holding, slot_of, IsAt, Stands}
use Rattle.mem_runs.specs.declared.slots.Slot.{Slot}
use Rattle.mem_runs.specs.declared.slots.Slot.TheVariants.{Empty, Keeps, Lends}
use Rattle.drv_table.specs.Words.{head_block}
use Rattle.claims_driver.specs.Owners.{Owner, Buffer, SlotHas, HasBlocks, IsPlaced, EndpointRuns, TransferRuns, Views, AreOwned, IsPieceOf}
use Rattle.law_structures.specs.lent_structures.Structures.{Structure, QueueHead, Element as ElementOf, Buffer as BufferOf, Table, StructureSets, Has}
use Rattle.law_ring.specs.Fewer.{without_those}
use Rattle.law_ring.proofs.Returning.{those_found, those_stay}
use Rattle.law_driver_ring.specs.Inventory.{Sort, sort_of, sorts_of, OfTable, OfQueueHead, OfElement, OfBuffer, IsTransferIn, IsDriverOwned, the_list, the_head, a_queue, a_dummy, a_piece, a_buffer, IsDriven}
use Rattle.law_driver_ring.specs.Extents.{AreInRuns}
use Rattle.law_driver_ring.specs.Released.{blocks_of, names_one}
use Rattle.law_driver_ring.proofs.Blocks.{all_one, mine, placed_buffer, is_named, buffer_among}

-- ---- the blocks of a slot's run

pub slot_some : (n b k : ℕ) (s : Slot) → HasBlocks n s → IsAt b s → b ≤ k → k < b + n → SlotHas s k
slot_some n b k Empty run at from below = absurd run
slot_some n b k (Keeps r) run at from below = let first = at.0 in has_block_from r k (omega (arith, first, from)) (omega (arith, run, first, below))
slot_some n b k (Lends r) run at from below = let first = at.0 in has_block_from r k (omega (arith, first, from)) (omega (arith, run, first, below))

-- ---- the blocks of a structure of its kind

pub head_has : (b k : ℕ) (u : Structure) → sort_of u ≡ OfQueueHead → Has (32 * b) u k → (b ≤ k) × (k < b + 2)
head_has b k (QueueHead q) is (inl has) = (omega (arith, has), omega (arith, has))
head_has b k (QueueHead q) is (inr has) = (omega (arith, has), omega (arith, has))
head_has b k _ is has = absurd (cc)

pub element_has : (b k : ℕ) (u : Structure) → sort_of u ≡ OfElement → Has (32 * b) u k → (b ≤ k) × (k < b + 1)
element_has b k (ElementOf t) is has = (omega (arith, has), omega (arith, has))
element_has b k _ is has = absurd (cc)

pub list_has : (parts : StructureSets) (v : Views) (k : ℕ) (u : Structure) → AreInRuns v parts → parts 0 0 ≡ Some u → sort_of u ≡ OfTable → Has 0 u k → (0 ≤ k) × (k < 0 + 128)
list_has parts v k (Table ws) lies here is (i, below, at) = let most = lies.list ws here in (omega arith, omega (arith, most, below, at))
list_has parts v k _ lies here is has = absurd (cc)

-- ---- where a structure lies

-- a run that isn't one of transfer t's
pub record HasHome (slot : ℕ → Slot) (owner : ℕ → Owner) (t k : ℕ) : Type 0 where
  pub at : ℕ
  pub other : mine t (owner at) ≡ false
  pub has : SlotHas (slot at) k

module _ (h : Holding) (v : Views) (owner : ℕ → Owner) (parts : StructureSets) (t : ℕ) (y : TransferRuns) (x : EndpointRuns) (slots : (c : ℕ) → v.slot c ≡ slot_of h.book.slots c) (stands : Stands h) (owned : AreOwned v owner) (lies : AreInRuns v parts) (to_go : IsTransferIn v t y x) where
  at_home : (c k : ℕ) (o : Owner) (n : ℕ) → IsPlaced v.slot owner c o → mine t o ≡ false → HasBlocks n (v.slot c) → (c ≤ k) × (k < c + n) → HasHome v.slot owner t k
  at_home c k o n is off run within = record {
    at = c;
    other = ap (mine t) is.owned ∙ off;
    has = slot_some n c k (v.slot c) run (subst (IsAt c) (sym (slots c)) (stands.placed c)) within.0 within.1;
  }

  other_number : (u : ℕ) → u ≢ t → (u == t) ≡ false
  other_number u differs = not_same u t differs

  -- the transfer of a name that doesn't go
  same_endpoint : (u : ℕ) (z : TransferRuns) (e : EndpointRuns) → IsTransferIn v u z e → u ≡ t → (z ≡ y) × (e ≡ x)
  same_endpoint u z e is same =
      let one : z ≡ y = same_Some z y (sym is.here ∙ ap v.transfer same ∙ to_go.here) in
      (one, same_Some e x (sym is.queue.here ∙ ap (λ (r : TransferRuns). v.endpoint r.endpoint) one ∙ to_go.queue.here))

  home_of : (n a : ℕ) (u : Structure) (s : Sort) (k : ℕ) → parts n a ≡ Some u → sort_of u ≡ s → IsDriverOwned v n a s → (n ≡ 32 * x.queue → names_one (blocks_of v.note y.first y.qtds) a ≡ false) → Has a u k → HasHome v.slot owner t k
  home_of _ _ u _ k here is the_list stays has = at_home 0 k _ 128 owned.list refl owned.list.run (list_has parts v k u lies here is has)
  home_of _ _ u _ k here is the_head stays has = at_home head_block k _ 2 owned.head refl owned.head.run (head_has head_block k u is has)
  home_of _ _ u _ k here is (a_queue e z queued lent) stays has =
      let placed = owned.queue e z queued.here queued.queued in at_home z.queue k _ 2 placed refl placed.run (head_has z.queue k u is has)
  home_of _ _ u _ k here is (a_dummy e z queued lent) stays has =
      let placed = owned.dummy e z queued.here queued.queued in at_home z.dummy k _ 1 placed refl placed.run (element_has z.dummy k u is has)
  home_of _ _ u _ k here is (a_piece w b z e transfer piece lent) stays has =
      ⊎_elim (λ (same : w ≡ t).
      let both = same_endpoint w z e transfer same in
      let among : IsPieceOf v.note y.first y.qtds b = subst (λ (r : TransferRuns). IsPieceOf v.note r.first r.qtds b) both.0 piece in
      absurd (true≢false (sym (is_named (blocks_of v.note y.first y.qtds) b (piece_among v.note y.first y.qtds b among)) ∙ stays (ap (λ (r : EndpointRuns). 32 * r.queue) both.1))))
      (λ (differs : w ≢ t).
      let placed = (placed_buffer v.slot owner v.note w z.first z.qtds b (owned.pieces w z transfer.here transfer.held) piece).0 in
      at_home b k _ 1 placed (other_number w differs) placed.run (element_has b k u is has)) (cases_eq w t)
  home_of _ _ u _ k here is (a_buffer w b c cs z e transfer piece first lent) stays has =
      ⊎_elim (λ (same : w ≡ t).
      let both = same_endpoint w z e transfer same in
      let among : IsPieceOf v.note y.first y.qtds b = subst (λ (r : TransferRuns). IsPieceOf v.note r.first r.qtds b) both.0 piece in
      absurd (true≢false (sym (is_named (blocks_of v.note y.first y.qtds) c (buffer_among v.note y.first y.qtds b c cs among first)) ∙ stays (ap (λ (r : EndpointRuns). 32 * r.queue) both.1))))
      (λ (differs : w ≢ t). by_kind u here is has differs) (cases_eq w t)
    where
      placed : AllByRecursion (λ i. IsPlaced v.slot owner i (Buffer w)) (c ∷ cs)
      placed = subst (AllByRecursion (λ i. IsPlaced v.slot owner i (Buffer w))) first (placed_buffer v.slot owner v.note w z.first z.qtds b (owned.pieces w z transfer.here transfer.held) piece).1

      by_kind : (u : Structure) → parts (32 * e.queue) (32 * c) ≡ Some u → sort_of u ≡ OfBuffer → Has (32 * c) u k → w ≢ t → HasHome v.slot owner t k
      by_kind (BufferOf pages j bs) here is has differs =
          let inside = lies.buffers w b c cs z e pages j bs transfer piece first here k has in
          record { at = inside.at; other = ap (mine t) (all_one (λ i. IsPlaced v.slot owner i (Buffer w)) (c ∷ cs) inside.at placed inside.among).owned ∙ other_number w differs; has = inside.has }
      by_kind _ here is has differs = absurd (cc)

  -- what stays is told by the driver's content
  pub home : (n a : ℕ) (u : Structure) (k : ℕ) → IsDriven v (sorts_of parts) → without_those parts (32 * x.queue) (names_one (blocks_of v.note y.first y.qtds)) n a ≡ Some u → Has a u k → HasHome v.slot owner t k
  home n a u k driven found has =
      let goes = names_one (blocks_of v.note y.first y.qtds) in
      let here : parts n a ≡ Some u = those_found parts (32 * x.queue) goes n a u found in
      home_of n a u (sort_of u) k here refl (driven.only n a (sort_of u) (ap (option_map sort_of) here))
      (λ same. those_stay parts (32 * x.queue) goes a u (ap (λ (i : ℕ). without_those parts (32 * x.queue) goes i a) (sym same) ∙ found)) has
