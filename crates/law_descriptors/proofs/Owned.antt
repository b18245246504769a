-- In which runs a structure lies, and whose they are: those of descriptors and those of queues are others.
use Rattle.std.proofs.Common.{◌≡◌, ◌≢◌, ℕ, ◌+◌, ◌*◌, ◌<◌, ◌≤◌, Bool, true, false, List, ◌∷◌, Option, Some, None, if◌then◌else◌, option_map, ap, refl, sym, subst, ◌∙◌, ⊎_elim, inl, inr, arith}
use Rattle.std.specs.List.{AllByRecursion}
use Rattle.std.proofs.lemmas.Bool.{cases_eq}
use Rattle.std.proofs.lemmas.Option.{same_Some}
use Rattle.mem_runs.specs.Book.{Holding, slot_of, IsAt, Stands}
use Rattle.mem_runs.specs.declared.slots.Slot.{Slot}
use Rattle.drv_table.specs.Words.{head_block}
use Rattle.claims_driver.specs.Owners.{Owner, FrameList, Head, QueueHead, Dummy, Element, Described, Buffer, SlotHas, HasBlocks, IsPlaced, TransferRuns, Views, AreOwned}
use Rattle.law_driver.proofs.lemmas.run_owners.Apart.{runs_apart}
use Rattle.law_structures.specs.lent_structures.Structures.{Structure, Buffer as BufferOf, Isochronous, SplitIsochronous, StructureSets, Has}
use Rattle.law_driver_ring.specs.Inventory.{Sort, sort_of, sorts_of, OfBuffer, IsDriverOwned, the_list, the_head, a_queue, a_dummy, a_piece, a_buffer, IsDriven}
use Rattle.law_driver_ring.specs.Extents.{AreInRuns}
use Rattle.law_driver_ring.proofs.Blocks.{all_one, placed_buffer}
use Rattle.law_driver_ring.proofs.Homes.{slot_some, head_has, element_has, list_has}
use Rattle.law_descriptors.specs.Described.{IsDescriptorLent, HasDescriptor, HasBufferIn, HasItsBuffer, IsOfDescriptor, a_descriptor, a_buffer as a_buffer_of, AreDescribed}

-- ---- whose a run is

abbrev pub is_described : Option TransferRuns → Bool
is_described None = false
is_described (Some y) = y.isochronous

-- the transfer whose descriptor has the run, if there is one
abbrev pub descriptor_owner : (ℕ → Option TransferRuns) → Owner → Option ℕ
descriptor_owner transfer (Described split t) = Some t
descriptor_owner transfer (Buffer t) = if is_described (transfer t) then Some t else None
descriptor_owner transfer _ = None

-- block k lies in a run of this owner
pub record IsIn (v : Views) (owner : ℕ → Owner) (o : Owner) (k : ℕ) : Type 0 where
  pub at : ℕ
  pub owned : owner at ≡ o
  pub has : SlotHas (v.slot at) k

module _ (h : Holding) (v : Views) (owner : ℕ → Owner) (slots : (c : ℕ) → v.slot c ≡ slot_of h.book.slots c) (stands : Stands h) (owned : AreOwned v owner) where
  in_run : (c k n : ℕ) (o : Owner) → IsPlaced v.slot owner c o → HasBlocks n (v.slot c) → (c ≤ k) × (k < c + n) → IsIn v owner o k
  in_run c k n o is run within = record {
    at = c;
    owned = is.owned;
    has = slot_some n c k (v.slot c) run (subst (IsAt c) (sym (slots c)) (stands.placed c)) within.0 within.1;
  }

  -- two runs with a block in common are one
  pub one_owner : (o p : Owner) (k : ℕ) → IsIn v owner o k → IsIn v owner p k → o ≡ p
  one_owner o p k one other = ⊎_elim (λ (same : other.at ≡ one.at). sym one.owned ∙ ap owner (sym same) ∙ other.owned)
      (λ (differs : other.at ≢ one.at).
      absurd (runs_apart h one.at other.at k stands differs (subst (λ (s : Slot). SlotHas s k) (slots one.at) one.has) (subst (λ (s : Slot). SlotHas s k) (slots other.at) other.has)))
      (cases_eq other.at one.at)

  -- ---- a structure of the queues

  pub record IsOfQueues (k : ℕ) : Type 0 where
    pub whose : Owner
    pub none : descriptor_owner v.transfer whose ≡ None
    pub inside : IsIn v owner whose k

  module _ (parts : StructureSets) (lies : AreInRuns v parts) where
    of_queues : (n a : ℕ) (u : Structure) (s : Sort) (k : ℕ) → parts n a ≡ Some u → sort_of u ≡ s → IsDriverOwned v n a s → Has a u k → IsOfQueues k
    of_queues _ _ u _ k here is the_list has =
        record { whose = FrameList; none = refl; inside = in_run 0 k 128 FrameList owned.list owned.list.run (list_has parts v k u lies here is has) }
    of_queues _ _ u _ k here is the_head has =
        record { whose = Head; none = refl; inside = in_run head_block k 2 Head owned.head owned.head.run (head_has head_block k u is has) }
    of_queues _ _ u _ k here is (a_queue e z queued lent) has =
        let placed = owned.queue e z queued.here queued.queued in
        record { whose = QueueHead e; none = refl; inside = in_run z.queue k 2 (QueueHead e) placed placed.run (head_has z.queue k u is has) }
    of_queues _ _ u _ k here is (a_dummy e z queued lent) has =
        let placed = owned.dummy e z queued.here queued.queued in
        record { whose = Dummy e; none = refl; inside = in_run z.dummy k 1 (Dummy e) placed placed.run (element_has z.dummy k u is has) }
    of_queues _ _ u _ k here is (a_piece w b z e transfer piece lent) has =
        let placed = (placed_buffer v.slot owner v.note w z.first z.qtds b (owned.pieces w z transfer.here transfer.held) piece).0 in
        record { whose = Element w; none = refl; inside = in_run b k 1 (Element w) placed placed.run (element_has b k u is has) }
    of_queues _ _ u _ k here is (a_buffer w b c cs z e transfer piece first lent) has = by_kind u here is has
      where
        placed : AllByRecursion (λ i. IsPlaced v.slot owner i (Buffer w)) (c ∷ cs)
        placed = subst (AllByRecursion (λ i. IsPlaced v.slot owner i (Buffer w))) first (placed_buffer v.slot owner v.note w z.first z.qtds b (owned.pieces w z transfer.here transfer.held) piece).1

        of_queue : descriptor_owner v.transfer (Buffer w) ≡ None
        of_queue = ap (λ (x : Bool). if x then Some w else None) (ap is_described transfer.here ∙ transfer.qtds)

        by_kind : (u : Structure) → parts (32 * e.queue) (32 * c) ≡ Some u → sort_of u ≡ OfBuffer → Has (32 * c) u k → IsOfQueues k
        by_kind (BufferOf pages j bs) here is has =
            let inside = lies.buffers w b c cs z e pages j bs transfer piece first here k has in
            record { whose = Buffer w; none = of_queue; inside = record { at = inside.at; owned = (all_one (λ i. IsPlaced v.slot owner i (Buffer w)) (c ∷ cs) inside.at placed inside.among).owned; has = inside.has } }
        by_kind _ here is has = absurd (cc)

    pub queue_lies : IsDriven v (sorts_of parts) → (n a : ℕ) (u : Structure) (k : ℕ) → parts n a ≡ Some u → Has a u k → IsOfQueues k
    queue_lies driven n a u k here has = of_queues n a u (sort_of u) k here refl (driven.only n a (sort_of u) (ap (option_map sort_of) here)) has

  -- ---- a structure of the descriptors

  -- a descriptor, or its buffer: that of transfer t, which is y
  pub data IsPieceAt (t : ℕ) (y : TransferRuns) (a : ℕ) : Owner → Type 0 where
    itself : a ≡ 32 * y.first → IsPieceAt t y a (Described (v.descriptor y.first).split t)
    its_buffer : (c : ℕ) (cs : List ℕ) → (v.descriptor y.first).buffer ≡ c ∷ cs → a ≡ 32 * c → IsPieceAt t y a (Buffer t)

  pub record IsOfDescriptors (n a k : ℕ) : Type 0 where
    pub number : ℕ
    pub transfer : TransferRuns
    pub lent : IsDescriptorLent v number transfer
    pub name : n ≡ 32 * transfer.first
    pub whose : Owner
    pub piece : IsPieceAt number transfer a whose
    pub inside : IsIn v owner whose k

  abbrev descriptor_blocks : Bool → ℕ
  descriptor_blocks split = if split then 1 else 2

  -- the blocks of a descriptor
  its_blocks : (split : Bool) (part : ℕ → Option Structure) (b k : ℕ) (u : Structure) → HasDescriptor split part (32 * b) → part (32 * b) ≡ Some u → Has (32 * b) u k → (b ≤ k) × (k < b + descriptor_blocks split)
  its_blocks true part b k u has here inside =
      let is : Has (32 * b) (SplitIsochronous has.sitd) k = subst (λ (s : Structure). Has (32 * b) s k) (same_Some u (SplitIsochronous has.sitd) (sym here ∙ has.here)) inside in
      (omega (arith, is), omega (arith, is))
  its_blocks false part b k u has here inside = two (subst (λ (s : Structure). Has (32 * b) s k) (same_Some u (Isochronous has.itd) (sym here ∙ has.here)) inside)
    where
      two : Has (32 * b) (Isochronous has.itd) k → (b ≤ k) × (k < b + 2)
      two (inl is) = (omega (arith, is), omega (arith, is))
      two (inr is) = (omega (arith, is), omega (arith, is))

  module _ (descs : StructureSets) (described : AreDescribed v descs) where
    in_buffer : (n t c k : ℕ) (cs : List ℕ) (u : Structure) → HasBufferIn v.slot (descs n) c cs → AllByRecursion (λ i. IsPlaced v.slot owner i (Buffer t)) (c ∷ cs) → descs n (32 * c) ≡ Some u → Has (32 * c) u k → IsIn v owner (Buffer t) k
    in_buffer n t c k cs u has placed here inside =
        let run = has.runs k (subst (λ (s : Structure). Has (32 * c) s k) (same_Some u (BufferOf has.pages has.start has.bytes) (sym here ∙ has.here)) inside) in
        record { at = run.at; owned = (all_one (λ i. IsPlaced v.slot owner i (Buffer t)) (c ∷ cs) run.at placed run.among).owned; has = run.has }

    of_descriptors : (n a : ℕ) (u : Structure) (k : ℕ) → descs n a ≡ Some u → IsOfDescriptor v n a → Has a u k → IsOfDescriptors n a k
    of_descriptors _ _ u k here (a_descriptor t y is) has =
        let placed = (owned.described t y is.here is.isochronous is.held).descriptor in
        record {
          number = t;
          transfer = y;
          lent = is;
          name = refl;
          whose = Described (v.descriptor y.first).split t;
          piece = itself refl;
          inside = in_run y.first k (descriptor_blocks (v.descriptor y.first).split) (Described (v.descriptor y.first).split t) placed placed.run
              (its_blocks (v.descriptor y.first).split (descs (32 * y.first)) y.first k u (described.descriptors t y is) here has);
        }
    of_descriptors _ _ u k here (a_buffer_of t c cs y is first) has =
        let placed = (owned.described t y is.here is.isochronous is.held).buffers in
        record {
          number = t;
          transfer = y;
          lent = is;
          name = refl;
          whose = Buffer t;
          piece = its_buffer c cs first refl;
          inside = in_buffer (32 * y.first) t c k cs u (subst (HasItsBuffer v.slot (descs (32 * y.first))) first (described.buffers t y is)) (subst (AllByRecursion (λ i. IsPlaced v.slot owner i (Buffer t))) first placed) here has;
        }

    pub descriptor_lies : (n a : ℕ) (u : Structure) (k : ℕ) → descs n a ≡ Some u → Has a u k → IsOfDescriptors n a k
    descriptor_lies n a u k here has = of_descriptors n a u k here (described.only n a u here) has
