-- Each structure that stays lies in runs of which none is given back.
use Rattle.std.proofs.Common.{◌≡◌, ◌≢◌, ℕ, ◌+◌, ◌*◌, ◌<◌, ◌≤◌, Bool, false, ◌∷◌, Some, option_map, ap, refl, sym, subst, ◌∙◌, inl, inr, arith}
use Rattle.std.specs.List.{AllByRecursion}
use Rattle.law_common.proofs.Numbers.{other_number as not_same}
use Rattle.word_mem.proofs.Holders.{has_block_from}
use Rattle.mem_runs.specs.Book.{Holding, slot_of, IsAt, Stands}
use Rattle.mem_runs.specs.declared.slots.Slot.{Slot}
use Rattle.mem_runs.specs.declared.slots.Slot.TheVariants.{Empty, Keeps, Lends}
use Rattle.drv_table.specs.Words.{head_block}
use Rattle.claims_driver.specs.Owners.{Owner, Buffer, SlotHas, HasBlocks, IsPlaced, EndpointRuns, Views}
use Rattle.law_structures.specs.lent_structures.Structures.{Structure, Buffer as BufferOf, StructureSets, Has}
use Rattle.law_driver_ring.specs.Inventory.{Sort, sort_of, sorts_of, OfTable, OfQueueHead, OfElement, OfBuffer, IsDriverOwned, the_list, the_head, a_queue, a_dummy, a_piece, a_buffer, IsDriven}
use Rattle.law_driver_ring.specs.Extents.{AreInRuns}
use Rattle.law_driver_ring.proofs.Blocks.{all_one, placed_buffer}
use Rattle.law_driver_ring.proofs.Homes.{slot_some, head_has, element_has, list_has}
use Rattle.law_world.specs.steps.endpoint_releases.Released.{without_queue}
use Rattle.law_world.proofs.lemmas.steps.lemmas.endpoint_releases.Blocks.{goes_with}
use Rattle.law_world.proofs.lemmas.steps.lemmas.endpoint_releases.Owning.{EndpointGoes, queue_found, other_number}

-- ---- where a structure lies

-- a run that isn't the endpoint's or one of its transfers'
pub record HasHome (slot : ℕ → Slot) (owner : ℕ → Owner) (e : ℕ) (held : ℕ → Bool) (k : ℕ) : Type 0 where
  pub at : ℕ
  pub other : goes_with e held (owner at) ≡ false
  pub has : SlotHas (slot at) k

module _ (h : Holding) (v w : Views) (owner : ℕ → Owner) (parts : StructureSets) (e : ℕ) (x : EndpointRuns) (held : ℕ → Bool) (slots : (c : ℕ) → v.slot c ≡ slot_of h.book.slots c) (stands : Stands h) (lies : AreInRuns v parts) (k : EndpointGoes v w owner e x held) where
  at_home : (c j : ℕ) (o : Owner) (n : ℕ) → IsPlaced v.slot owner c o → goes_with e held o ≡ false → HasBlocks n (v.slot c) → (c ≤ j) × (j < c + n) → HasHome v.slot owner e held j
  at_home c j o n is off run within = record {
    at = c;
    other = ap (goes_with e held) is.owned ∙ off;
    has = slot_some n c j (v.slot c) run (subst (IsAt c) (sym (slots c)) (stands.placed c)) within.0 within.1;
  }

  other_one : (u : ℕ) (z : EndpointRuns) → v.endpoint u ≡ Some z → z.bare ≡ false → 32 * z.queue ≢ 32 * x.queue → u ≢ e
  other_one u z here queued differs = other_number v w owner e x held k parts u z (record { here = here; queued = queued }) differs

  home_of : (n a : ℕ) (u : Structure) (s : Sort) (j : ℕ) → parts n a ≡ Some u → sort_of u ≡ s → IsDriverOwned v n a s → n ≢ 32 * x.queue → Has a u j → HasHome v.slot owner e held j
  home_of _ _ u _ j here is the_list differs has = at_home 0 j _ 128 k.owned.list refl k.owned.list.run (list_has parts v j u lies here is has)
  home_of _ _ u _ j here is the_head differs has = at_home head_block j _ 2 k.owned.head refl k.owned.head.run (head_has head_block j u is has)
  home_of _ _ u _ j here is (a_queue i z queued lent) differs has =
      let placed = k.owned.queue i z queued.here queued.queued in at_home z.queue j _ 2 placed (not_same i e (other_one i z queued.here queued.queued differs)) placed.run (head_has z.queue j u is has)
  home_of _ _ u _ j here is (a_dummy i z queued lent) differs has =
      let placed = k.owned.dummy i z queued.here queued.queued in at_home z.dummy j _ 1 placed (not_same i e (other_one i z queued.here queued.queued differs)) placed.run (element_has z.dummy j u is has)
  home_of _ _ u _ j here is (a_piece t b z r transfer piece lent) differs has =
      let placed = (placed_buffer v.slot owner v.note t z.first z.qtds b (k.owned.pieces t z transfer.here transfer.held) piece).0 in
      at_home b j _ 1 placed (k.transfer_on t z transfer.here (other_one z.endpoint r transfer.queue.here transfer.queue.queued differs)).0 placed.run (element_has b j u is has)
  home_of _ _ u _ j here is (a_buffer t b c cs z r transfer piece first lent) differs has = by_kind u here is has
    where
      placed : AllByRecursion (λ i. IsPlaced v.slot owner i (Buffer t)) (c ∷ cs)
      placed = subst (AllByRecursion (λ i. IsPlaced v.slot owner i (Buffer t))) first (placed_buffer v.slot owner v.note t z.first z.qtds b (k.owned.pieces t z transfer.here transfer.held) piece).1

      by_kind : (u : Structure) → parts (32 * r.queue) (32 * c) ≡ Some u → sort_of u ≡ OfBuffer → Has (32 * c) u j → HasHome v.slot owner e held j
      by_kind (BufferOf pages g bs) here is has =
          let inside = lies.buffers t b c cs z r pages g bs transfer piece first here j has in
          record {
            at = inside.at;
            other = ap (goes_with e held) (all_one (λ i. IsPlaced v.slot owner i (Buffer t)) (c ∷ cs) inside.at placed inside.among).owned
                ∙ (k.transfer_on t z transfer.here (other_one z.endpoint r transfer.queue.here transfer.queue.queued differs)).0;
            has = inside.has;
          }
      by_kind _ here is has = absurd (cc)

  -- what stays is told by the driver's content
  pub home : (n a : ℕ) (u : Structure) (j : ℕ) → IsDriven v (sorts_of parts) → without_queue parts (32 * x.queue) n a ≡ Some u → Has a u j → HasHome v.slot owner e held j
  home n a u j driven found has =
      let was = queue_found parts (32 * x.queue) n a u found in
      home_of n a u (sort_of u) j was.1 refl (driven.only n a (sort_of u) (ap (option_map sort_of) was.1)) was.0 has
