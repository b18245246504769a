-- Memory is told by both, where it is told by each, and the other way.
use Rattle.std.proofs.Common.{◌≡◌, ℕ, ◌*◌, Bool, true, false, List, [], ◌∷◌, Option, Some, None, if◌then◌else◌, option_map, ap, refl, sym, subst, ◌∙◌, arith}
use Rattle.std.proofs.lemmas.Option.{same_Some}
use Rattle.law_common.proofs.Options.{number_is_none}
use Rattle.word_mem.specs.Memory.{Mem}
use Rattle.mem_runs.specs.Book.{holding, slot_of, Stands}
use Rattle.drv_table.specs.Words.{head_block}
use Rattle.drv_table.specs.DriverContent.{DriverContent}
use Rattle.claims_driver.specs.Owners.{Owner, Described, Buffer, EndpointRuns, TransferRuns, Views, views_of, AreOwned, IsQueueIn}
use Rattle.law_structures.specs.lent_structures.Structures.{Structure, StructureSets, Holds, Has, Tells}
use Rattle.law_driver_ring.specs.Inventory.{Sort, sort_of, IsDriverOwned, the_list, the_head, a_queue, a_dummy, a_piece, a_buffer}
use Rattle.law_driver_ring.specs.Extents.{AreInRuns}
use Rattle.law_descriptors.specs.Described.{IsDescriptorLent, AreHeld}
use Rattle.law_descriptors.specs.Both.{owns, both}
use Rattle.law_descriptors.specs.PartLaws.{IsDescribing, QueuesApart, DescriptorsApart, BothAreTold, EachIsTold}
use Rattle.law_descriptors.proofs.Standing.{both_on, both_off, found_on, nothing_off, IsAtOwner, on_owner}
use Rattle.law_descriptors.proofs.Owned.{descriptor_owner, is_described, one_owner, IsOfQueues, queue_lies, IsPieceAt, itself, its_buffer, IsOfDescriptors, descriptor_lies}

-- ---- an owner of the one isn't one of the other

-- a queue's owner is the address of a block that no descriptor has
pub record HasQueueBlock (v : Views) (owner : ℕ → Owner) (n : ℕ) : Type 0 where
  pub block : ℕ
  pub name : n ≡ 32 * block
  pub none : descriptor_owner v.transfer (owner block) ≡ None

queue_block : (v : Views) (owner : ℕ → Owner) → AreOwned v owner → (e : ℕ) (x : EndpointRuns) → IsQueueIn v e x → HasQueueBlock v owner (32 * x.queue)
queue_block v owner owned e x is = record { block = x.queue; name = refl; none = ap (descriptor_owner v.transfer) (owned.queue e x is.here is.queued).owned }

owner_block : (v : Views) (owner : ℕ → Owner) → AreOwned v owner → (n a : ℕ) (s : Sort) → IsDriverOwned v n a s → HasQueueBlock v owner n
owner_block v owner owned _ _ _ the_list = record { block = 0; name = refl; none = ap (descriptor_owner v.transfer) owned.list.owned }
owner_block v owner owned _ _ _ the_head = record { block = head_block; name = refl; none = ap (descriptor_owner v.transfer) owned.head.owned }
owner_block v owner owned _ _ _ (a_queue e x is lent) = queue_block v owner owned e x is
owner_block v owner owned _ _ _ (a_dummy e x is lent) = queue_block v owner owned e x is
owner_block v owner owned _ _ _ (a_piece t b y x is piece lent) = queue_block v owner owned y.endpoint x is.queue
owner_block v owner owned _ _ _ (a_buffer t b c cs y x is piece first lent) = queue_block v owner owned y.endpoint x is.queue

none_there : (d : DriverContent) (descs parts : StructureSets) → IsDescribing d descs parts → (n a : ℕ) (s : Structure) → owns descs n ≡ true → parts n a ≡ Some s → ⊥
none_there d descs parts k n a s on here =
    let v : Views = views_of d in
    let owned : AreOwned v k.owners.owner = k.owners.owned.each in
    let at : IsAtOwner v n = on_owner v descs n k.described on in
    let queue : HasQueueBlock v k.owners.owner n = owner_block v k.owners.owner owned n a (sort_of s) (k.driven.only n a (sort_of s) (ap (option_map sort_of) here)) in
    let names : 32 * at.transfer.first ≡ 32 * queue.block = sym at.name ∙ queue.name in
    let same : at.transfer.first ≡ queue.block = omega (arith, names) in
    let of_descriptor : descriptor_owner v.transfer (k.owners.owner at.transfer.first) ≡ Some at.number =
    ap (descriptor_owner v.transfer) (owned.described at.number at.transfer at.lent.here at.lent.isochronous at.lent.held).descriptor.owned in
    number_is_none at.number (sym of_descriptor ∙ ap (λ (b : ℕ). descriptor_owner v.transfer (k.owners.owner b)) same ∙ queue.none)

pub descriptors_apart : DescriptorsApart
descriptors_apart d descs parts k n a on = by_case (parts n a) refl
  where
    by_case : (o : Option Structure) → parts n a ≡ o → parts n a ≡ None
    by_case None is = is
    by_case (Some s) is = absurd (none_there d descs parts k n a s on is)

pub queues_apart : QueuesApart
queues_apart d descs parts k n a off = nothing_off (views_of d) descs n a k.described off

-- ---- what each has, both have

pub queue_off : (d : DriverContent) (descs parts : StructureSets) → IsDescribing d descs parts → (n a : ℕ) (s : Structure) → parts n a ≡ Some s → owns descs n ≡ false
queue_off d descs parts k n a s here = by_case (owns descs n) refl
  where
    by_case : (b : Bool) → owns descs n ≡ b → owns descs n ≡ false
    by_case true is = absurd (none_there d descs parts k n a s is here)
    by_case false is = is

pub queue_found : (d : DriverContent) (descs parts : StructureSets) → IsDescribing d descs parts → (n a : ℕ) (s : Structure) → parts n a ≡ Some s → both descs parts n a ≡ Some s
queue_found d descs parts k n a s here = ap (λ (part : ℕ → Option Structure). part a) (both_off descs parts n (queue_off d descs parts k n a s here)) ∙ here

pub descriptor_found : (d : DriverContent) (descs parts : StructureSets) → IsDescribing d descs parts → (n a : ℕ) (s : Structure) → descs n a ≡ Some s → both descs parts n a ≡ Some s
descriptor_found d descs parts k n a s here = ap (λ (part : ℕ → Option Structure). part a) (both_on descs parts n (found_on (views_of d) descs n a s k.described here)) ∙ here

pub each_is_told : EachIsTold
each_is_told d m descs parts k told = (
  record {
    shape = told.shape;
    each = λ n a s here. told.each n a s (queue_found d descs parts k n a s here);
    alone = λ n a i c s t b one other in_one in_other.
        told.alone n a i c s t b (queue_found d descs parts k n a s one) (queue_found d descs parts k i c t other) in_one in_other;
  },
  λ n a s here. told.each n a s (descriptor_found d descs parts k n a s here),
)

-- ---- no two lie in one block

abbrev first_of : List ℕ → ℕ
first_of [] = 0
first_of (c ∷ cs) = c

module _ (d : DriverContent) (m : Mem) (descs parts : StructureSets) (k : IsDescribing d descs parts) (lies : AreInRuns (views_of d) parts) (stands : Stands (holding d.book m)) where
  abbrev v : Views
  v = views_of d

  abbrev owner : ℕ → Owner
  owner = k.owners.owner

  abbrev owned : AreOwned v owner
  owned = k.owners.owned.each

  abbrev slots : (c : ℕ) → v.slot c ≡ slot_of d.book.slots c
  slots c = refl

  abbrev InDescriptors : ℕ → ℕ → ℕ → Type 0
  InDescriptors n a b = IsOfDescriptors (holding d.book m) v owner slots stands owned n a b

  abbrev InQueues : ℕ → Type 0
  InQueues b = IsOfQueues (holding d.book m) v owner slots stands owned b

  abbrev IsPiece : ℕ → TransferRuns → ℕ → Owner → Type 0
  IsPiece t y a o = IsPieceAt (holding d.book m) v owner slots stands owned t y a o

  pub piece_owner : (t : ℕ) (y : TransferRuns) (a : ℕ) (o : Owner) → IsDescriptorLent v t y → IsPiece t y a o → descriptor_owner v.transfer o ≡ Some t
  piece_owner t y a _ lent (itself name) = refl
  piece_owner t y a _ lent (its_buffer c cs first name) = ap (λ (x : Bool). if x then Some t else None) (ap is_described lent.here ∙ lent.isochronous)

  described_is_no_buffer : (split : Bool) (t u : ℕ) → Described split t ≡ Buffer u → ⊥
  described_is_no_buffer split t u e = cc

  same_piece : (t : ℕ) (y : TransferRuns) (a c : ℕ) (o p : Owner) → IsPiece t y a o → IsPiece t y c p → o ≡ p → c ≡ a
  same_piece t y a c _ _ (itself one) (itself other) same = other ∙ sym one
  same_piece t y a c _ _ (itself one) (its_buffer e es first other) same = absurd (described_is_no_buffer (v.descriptor y.first).split t t same)
  same_piece t y a c _ _ (its_buffer e es first one) (itself other) same = absurd (described_is_no_buffer (v.descriptor y.first).split t t (sym same))
  same_piece t y a c _ _ (its_buffer e es first one) (its_buffer f fs second other) same =
      let blocks : f ≡ e = ap first_of (sym second ∙ first) in other ∙ ap (λ (i : ℕ). 32 * i) blocks ∙ sym one

  two_descriptors : (n a i c b : ℕ) → InDescriptors n a b → InDescriptors i c b → (i ≡ n) × (c ≡ a)
  two_descriptors n a i c b one other =
      let same : one.whose ≡ other.whose = one_owner (holding d.book m) v owner slots stands owned one.whose other.whose b one.inside other.inside in
      let number : other.number ≡ one.number =
      same_Some other.number one.number
      (sym (piece_owner other.number other.transfer c other.whose other.lent other.piece) ∙ ap (descriptor_owner v.transfer) (sym same) ∙ piece_owner one.number one.transfer a one.whose one.lent one.piece) in
      let transfer : other.transfer ≡ one.transfer = same_Some other.transfer one.transfer (sym other.lent.here ∙ ap v.transfer number ∙ one.lent.here) in
      let moved : IsPiece one.number one.transfer c other.whose =
      subst (λ (t : ℕ). IsPiece t one.transfer c other.whose) number (subst (λ (y : TransferRuns). IsPiece other.number y c other.whose) transfer other.piece) in
      (other.name ∙ ap (λ (y : TransferRuns). 32 * y.first) transfer ∙ sym one.name, same_piece one.number one.transfer a c one.whose other.whose one.piece moved same)

  one_of_each : (n a b : ℕ) → InDescriptors n a b → InQueues b → ⊥
  one_of_each n a b one other =
      let same : one.whose ≡ other.whose = one_owner (holding d.book m) v owner slots stands owned one.whose other.whose b one.inside other.inside in
      number_is_none one.number (sym (piece_owner one.number one.transfer a one.whose one.lent one.piece) ∙ ap (descriptor_owner v.transfer) same ∙ other.none)

  module _ (told : Tells m parts) (held : AreHeld m descs) where
    in_descs : (n a : ℕ) (s : Structure) → owns descs n ≡ true → both descs parts n a ≡ Some s → descs n a ≡ Some s
    in_descs n a s on here = ap (λ (part : ℕ → Option Structure). part a) (sym (both_on descs parts n on)) ∙ here

    in_parts : (n a : ℕ) (s : Structure) → owns descs n ≡ false → both descs parts n a ≡ Some s → parts n a ≡ Some s
    in_parts n a s off here = ap (λ (part : ℕ → Option Structure). part a) (sym (both_off descs parts n off)) ∙ here

    all_hold : (n a : ℕ) (s : Structure) → both descs parts n a ≡ Some s → Holds m a s
    all_hold n a s here = by_case (owns descs n) refl
      where
        by_case : (x : Bool) → owns descs n ≡ x → Holds m a s
        by_case true on = held n a s (in_descs n a s on here)
        by_case false off = told.each n a s (in_parts n a s off here)

    lies_in_descs : (n a b : ℕ) (s : Structure) → owns descs n ≡ true → both descs parts n a ≡ Some s → Has a s b → InDescriptors n a b
    lies_in_descs n a b s on here has = descriptor_lies (holding d.book m) v owner slots stands owned descs k.described n a s b (in_descs n a s on here) has

    lies_in_queues : (n a b : ℕ) (s : Structure) → owns descs n ≡ false → both descs parts n a ≡ Some s → Has a s b → InQueues b
    lies_in_queues n a b s off here has = queue_lies (holding d.book m) v owner slots stands owned parts lies k.driven n a s b (in_parts n a s off here) has

    all_alone : (n a i c : ℕ) (s t : Structure) (b : ℕ) → both descs parts n a ≡ Some s → both descs parts i c ≡ Some t → Has a s b → Has c t b → (i ≡ n) × (c ≡ a)
    all_alone n a i c s t b one other in_one in_other = by_case (owns descs n) (owns descs i) refl refl
      where
        by_case : (x y : Bool) → owns descs n ≡ x → owns descs i ≡ y → (i ≡ n) × (c ≡ a)
        by_case true true first second = two_descriptors n a i c b (lies_in_descs n a b s first one in_one) (lies_in_descs i c b t second other in_other)
        by_case true false first second = absurd (one_of_each n a b (lies_in_descs n a b s first one in_one) (lies_in_queues i c b t second other in_other))
        by_case false true first second = absurd (one_of_each i c b (lies_in_descs i c b t second other in_other) (lies_in_queues n a b s first one in_one))
        by_case false false first second = told.alone n a i c s t b (in_parts n a s first one) (in_parts i c t second other) in_one in_other

    pub told_by_both : Tells m (both descs parts)
    told_by_both = record { shape = told.shape; each = all_hold; alone = all_alone }

pub both_are_told : BothAreTold
both_are_told d m descs parts k lies stands told held = told_by_both d m descs parts k lies stands told held
