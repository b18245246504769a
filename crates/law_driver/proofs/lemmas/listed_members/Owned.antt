-- Each member begins a run of its own endpoint or transfer; and a descriptor that waits is one.
use Rattle.std.proofs.Common.{ℕ, ◌/◌, Bool, not, ◌&&◌, ap, sym, subst, ◌∙◌, inr, refl}
use Rattle.law_common.proofs.Lists.{all_more}
use Rattle.drv_chains.specs.declared.members.Descriptor.{Descriptor}
use Rattle.drv_chains.specs.declared.members.QueueHead.{QueueHead as Queue}
use Rattle.drv_chains.specs.declared.members.Member.{Member}
use Rattle.drv_chains.specs.declared.members.Member.TheVariants.{Once}
use Rattle.drv_chains.specs.Chains.{id_of}
use Rattle.drv_periodic_table.specs.Periodic.{note_at, descriptor_member}
use Rattle.drv_table.specs.DriverContent.{DriverContent}
use Rattle.mem_runs.specs.Book.{slot_of}
use Rattle.claims_driver.specs.Owners.{QueueHead, Described, IsPlaced}
use Rattle.claims_driver.specs.Leaving.{HasOwners}
use Rattle.claims_driver.specs.FrameListMembers.{framed_in, is_chained, LinksWaiting}
use Rattle.law_driver.specs.listed_members.Members.{IsStanding, IsQueueOf, IsListed}
use Rattle.law_driver.specs.listed_members.Listed.{IsOwnedAs, HaveRuns}
use Rattle.law_driver.proofs.lemmas.listed_members.Standing.{descriptor_placed, frames_placed, standing_block, queue_block, why_stands}
use Rattle.law_driver.proofs.lemmas.listed_members.Stays.{is_still, still_linked}
use Rattle.law_driver.proofs.lemmas.listed_members.Unlinks.{placed_here, told_waits}

pub descriptor_owned : (d : DriverContent) (k : Descriptor) → (has : HasOwners d) → IsStanding d (Once k) → (split : Bool) × ((t : ℕ) × IsOwnedAs d has.owner k.id (Described split t))
descriptor_owned d k has s =
    let split = (note_at d.periodic.notes s.placed.block).split in
    (split, (s.number, subst (λ b. IsPlaced (slot_of d.book.slots) has.owner b (Described split s.number)) (sym (standing_block d (Once k) s)) (descriptor_placed d s.number s.placed has s.here (why_stands d (Once k) s))))

pub queue_owned : (d : DriverContent) (q : Queue) → (has : HasOwners d) → (s : IsQueueOf d q) → IsOwnedAs d has.owner q.id (QueueHead s.number)
queue_owned d q has s =
    subst (λ b. IsPlaced (slot_of d.book.slots) has.owner b (QueueHead s.number)) (sym (ap (λ (x : Member). id_of x / 32) s.is ∙ queue_block s.framed.queue s.place)) (frames_placed d s.number s.framed has s.here s.chained s.queued)

pub members_have_runs : (d : DriverContent) → (has : HasOwners d) → IsListed d → HaveRuns d has.owner
members_have_runs d has listed = record {
  queues = all_more (IsQueueOf d) (λ q. (e : ℕ) × IsOwnedAs d has.owner q.id (QueueHead e)) d.periodic.list.members.schedule.queues (λ q s. (s.number, queue_owned d q has s)) listed.list.members.queues;
  descriptors = all_more (λ (k : Descriptor). IsStanding d (Once k)) (λ k. (split : Bool) × ((t : ℕ) × IsOwnedAs d has.owner k.id (Described split t))) d.periodic.list.members.schedule.descriptors
      (λ k s. descriptor_owned d k has s) listed.list.members.descriptors;
}

-- where no command is unfinished
pub waiting_descriptors_are_linked : (d : DriverContent) → IsListed d → LinksWaiting d
waiting_descriptors_are_linked d listed t x y idle there sort here on off =
    listed.list.members.each (descriptor_member d.periodic.notes y.first)
    (record {
      number = t;
      placed = record { endpoint = y.endpoint; block = y.first; waits = not y.reported && is_chained (framed_in d.endpoints y.endpoint) };
      here = placed_here d.endpoints d.transfers t y there sort;
      stands = inr (
        told_waits d.endpoints y.endpoint x y here on refl off,
        still_linked d.command d.made d.periodic t (record { endpoint = y.endpoint; block = y.first; waits = not y.reported && is_chained (framed_in d.endpoints y.endpoint) }) (ap is_still idle),
      );
      is = refl;
    })
