-- What stands first in a frame has a link word for a name.
use Rattle.std.proofs.Common.{◌≡◌, ℕ, ◌+◌, ◌*◌, ◌%◌, ◌<◌, Bool, true, false, Option, Some, None, if◌then◌else◌, ap, sym, subst, arith}
use Rattle.law_frame_list.proofs.Common.{first_next}
use Rattle.drv_chains.specs.declared.members.Descriptor.{Descriptor}
use Rattle.drv_chains.specs.declared.members.Member.{Member}
use Rattle.drv_chains.specs.declared.members.Member.TheVariants.{Once, Each}
use Rattle.drv_chains.specs.Chains.{Schedule, id_of, chain, first_of, successor}
use Rattle.drv_members.specs.Members.{with_member}
use Rattle.claims_driver.specs.FrameWords.{IsInOrder}
use Rattle.drv_periodic.specs.Periodic.{link_to}
use Rattle.drv_periodic_table.specs.declared.content.DescriptorNote.{DescriptorNote}
use Rattle.drv_periodic_table.specs.Periodic.{note_at, descriptor_name}
use Rattle.drv_periodic_table.specs.Linking.{may_link}
use Rattle.drv_table.specs.DriverContent.{DriverContent}
use Rattle.law_driver.specs.listed_members.Members.{IsListed, IsQueueOf, IsStanding}
use Rattle.law_frame_list.proofs.lemmas.list_spread.Spreading.{queue_there, standing_there}
use Rattle.law_frame_list.specs.list_closed.Closed.{IsNext}
use Rattle.law_frame_list.proofs.lemmas.list_closed.Chained.{chain_in_frame}
use Rattle.law_frame_list.proofs.lemmas.list_queued.Leading.{new_next}
use Rattle.law_descriptors.specs.Written.{AreLinks}

named_small : (split : Bool) (b n : ℕ) → n ≡ (if split then 32 * b + 4 else 32 * b) → n % 32 < 8
named_small true b n is = omega (arith, is)
named_small false b n is = omega (arith, is)

next_small : (d : DriverContent) (f : ℕ) (o : Option Member) → IsListed d → IsNext d.periodic.list.members.schedule f o → link_to o % 32 < 8
next_small d f None listed next = omega arith
next_small d f (Some (Each q)) listed next =
    let s : IsQueueOf d q = queue_there d q listed next.0 in let is : q.id ≡ 32 * s.framed.queue + 2 = ap id_of s.is in omega (arith, is)
next_small d f (Some (Once k)) listed next =
    let s : IsStanding d (Once k) = standing_there d k listed next.0 in
    named_small (note_at d.periodic.notes s.placed.block).split s.placed.block k.id (ap id_of (sym s.is))

given_small : (b : Bool) (n : ℕ) → n % 32 < 8 → (if b then n else 1) % 32 < 8
given_small true n small = small
given_small false n small = omega arith

pub descriptors_are_given_links : (d : DriverContent) → IsListed d → IsInOrder d.periodic.list → AreLinks d
descriptors_are_given_links d listed order b =
    let s : Schedule = d.periodic.list.members.schedule in
    let note : DescriptorNote = note_at d.periodic.notes b in
    let k : Descriptor = record { id = descriptor_name note b; frame = note.frame } in
    given_small (may_link d.periodic.list (Once k)) (link_to (successor (with_member s (Once k)) (Once k) k.frame))
    (subst (λ (o : Option Member). link_to o % 32 < 8) (sym (new_next s k)) (next_small d k.frame (first_of (chain s k.frame)) listed (first_next s k.frame (chain s k.frame) (chain_in_frame s k.frame order.kept))))
