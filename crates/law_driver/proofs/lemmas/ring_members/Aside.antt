-- The frame list beside the ring (EHCI 1.0, 4.6 and 4.8): what its stores link is none of the ring's queue heads, since each member begins a
-- run of its own endpoint or transfer.
--     IsOffRing d b         no queue head of the ring begins in block b: not the head, nor that of a bulk or control endpoint
--     IsMemberApart d id    the member of this name begins a run of the driver's, off the ring
--     IsListApart d         the frame list is the first run, and each of its members is apart
use Rattle.std.proofs.Common.{◌≡◌, ◌≢◌, ℕ, ◌/◌, ◌<◌, Bool, true, false, slice_get, Some, ap, sym, ◌∙◌, arith}
use Rattle.std.proofs.lemmas.Bool.{false≢true}
use Rattle.std.proofs.lemmas.Option.{same_Some}
use Rattle.std.specs.List.{AllByRecursion}
use Rattle.law_driver.proofs.Common.{ring_queue, same_endpoint}
use Rattle.law_common.proofs.Lists.{all_more}
use Rattle.drv_chains.specs.declared.members.Descriptor.{Descriptor}
use Rattle.drv_chains.specs.declared.members.QueueHead.{QueueHead as Queue}
use Rattle.drv_chains.specs.Chains.{Schedule}
use Rattle.word_mem.specs.Memory.{Mem, IsShaped}
use Rattle.mem_runs.specs.Book.{holding, Stands, slot_of}
use Rattle.drv_periodic_table.specs.Periodic.{is_periodic}
use Rattle.drv_table.specs.declared.content.Endpoint.{Endpoint}
use Rattle.drv_table.specs.DriverContent.{DriverContent}
use Rattle.drv_table.specs.Words.{head_block}
use Rattle.claims_driver.specs.Owners.{Owner, Head, QueueHead, Described, HasRun, IsPlaced}
use Rattle.claims_driver.specs.Leaving.{HasOwners}
use Rattle.law_driver.proofs.lemmas.run_owners.Apart.{has_within}
use Rattle.law_driver.proofs.lemmas.run_owners.Runs.{placed_run}
use Rattle.drv_chains.specs.declared.members.Member.TheVariants.{Once}
use Rattle.claims_driver.specs.FrameListMembers.{Framed}
use Rattle.law_driver.specs.listed_members.Members.{IsStanding, IsQueueOf, IsListed}
use Rattle.law_driver.proofs.lemmas.listed_members.Standing.{framed}
use Rattle.law_driver.proofs.lemmas.listed_members.Owned.{descriptor_owned, queue_owned}
use Rattle.law_driver.proofs.lemmas.ring_members.Placed.{has_queue, queue_placed, has_first}

pub record IsOffRing (d : DriverContent) (b : ℕ) : Type 0 where
  pub head : head_block ≢ b
  pub endpoints : (e : ℕ) (x : Endpoint) → slice_get d.endpoints e ≡ Some x → is_periodic x.desc.kind ≡ false → x.gone ≡ false → x.queue ≢ b

-- the name of a member is the word of a link to it, and the numbers of blocks have 16 bits
pub record IsMemberApart (d : DriverContent) (id : ℕ) : Type 0 where
  pub run : HasRun (slot_of d.book.slots (id / 32))
  pub small : id / 32 < 65536
  pub off : IsOffRing d (id / 32)

pub record AreApart (d : DriverContent) (s : Schedule) : Type 0 where
  pub queues : AllByRecursion (λ q. IsMemberApart d q.id) s.queues
  pub descriptors : AllByRecursion (λ x. IsMemberApart d x.id) s.descriptors

pub record IsListApart (d : DriverContent) : Type 0 where
  pub list : d.periodic.list.list ≡ 0
  pub members : AreApart d d.periodic.list.members.schedule

-- ---- the list of a run

-- an owner that is no queue head of the ring
abbrev OffRing : DriverContent → Owner → Type 0
OffRing d o = (o ≢ Head) × ((e : ℕ) (x : Endpoint) → slice_get d.endpoints e ≡ Some x → is_periodic x.desc.kind ≡ false → o ≢ QueueHead e)

one_apart : (d : DriverContent) (m : Mem) (id : ℕ) (o : Owner) → Stands (holding d.book m) → IsShaped m → (has : HasOwners d) → IsPlaced (slot_of d.book.slots) has.owner (id / 32) o → OffRing d o → IsMemberApart d id
one_apart d m id o stands shape has placed off =
    let run = placed_run (id / 32) o placed in
    record {
      run = run;
      small = let w = has_within (holding d.book m) (id / 32) (id / 32) stands (has_first (holding d.book m) (id / 32) stands run) in omega (arith, w, shape.at_most, shape.eight_each);
      off = record {
        head = λ same. off.0 (sym placed.owned ∙ ap has.owner (sym same) ∙ has.owned.each.head.owned);
        endpoints = λ e x here ring alive same.
            off.1 e x here ring (sym placed.owned ∙ ap has.owner (sym same) ∙ (queue_placed d e x has here (has_queue x (ring_queue x.desc.kind ring) alive)).owned);
      };
    }

described_off : (d : DriverContent) (split : Bool) (t : ℕ) → OffRing d (Described split t)
described_off d split t = ((λ same. absurd (cc)), (λ e x here ring same. absurd (cc)))

-- the queue head of a periodic endpoint
frames_off : (d : DriverContent) (q : Queue) → HasOwners d → (s : IsQueueOf d q) → OffRing d (QueueHead s.number)
frames_off d q has s = ((λ same. absurd (cc)), (λ e x here ring same. off e x here ring (same_endpoint s.number e same)))
  where
    off : (e : ℕ) (x : Endpoint) → slice_get d.endpoints e ≡ Some x → is_periodic x.desc.kind ≡ false → s.number ≡ e → ⊥
    off e x here ring same =
        let f = framed d.endpoints s.number s.framed s.here in
        let one : f.endpoint ≡ x = same_Some f.endpoint x (sym f.here ∙ ap (slice_get d.endpoints) same ∙ here) in
        let chained : x.chained ≡ true = ap (λ (z : Endpoint). z.chained) (sym one) ∙ ap (λ (z : Framed). z.chained) (sym f.is) ∙ s.chained in
        false≢true (sym ring ∙ (has.orderly.steady e x here).frames chained)

pub list_apart : (d : DriverContent) (m : Mem) → Stands (holding d.book m) → IsShaped m → HasOwners d → IsListed d → IsListApart d
list_apart d m stands shape has listed = record {
  list = listed.list.list;
  members = record {
    queues = all_more (IsQueueOf d) (λ q. IsMemberApart d q.id) s.queues (λ q of. one_apart d m q.id (QueueHead of.number) stands shape has (queue_owned d q has of) (frames_off d q has of)) listed.list.members.queues;
    descriptors = all_more (λ (k : Descriptor). IsStanding d (Once k)) (λ k. IsMemberApart d k.id) s.descriptors
        (λ k of. let p = descriptor_owned d k has of in one_apart d m k.id (Described p.0 p.1.0) stands shape has p.1.1 (described_off d p.0 p.1.0)) listed.list.members.descriptors;
  };
}
  where
    s : Schedule
    s = d.periodic.list.members.schedule
