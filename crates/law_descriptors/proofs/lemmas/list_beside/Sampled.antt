-- The worked list has its links.
use Rattle.std.proofs.Common.{◌≡◌, ℕ, ◌*◌, ◌/◌, true, false, inl, inr, refl, subst}
use Rattle.std.specs.Prelude.{◌&&◌, ◌||◌, nat_eq}
use Rattle.std.proofs.lemmas.Bool.{false≢true, and_parts, or_cases, eqb-true}
use Rattle.std.proofs.lemmas.List.{length-replicate}
use Rattle.word_mem.specs.Memory.{Mem}
use Rattle.drv_chains.specs.declared.members.QueueHead.{QueueHead as Queue}
use Rattle.drv_chains.specs.declared.members.Member.{Member}
use Rattle.drv_chains.specs.declared.members.Member.TheVariants.{Once, Each}
use Rattle.drv_chains.specs.declared.members.Predecessor.TheVariants.{After}
use Rattle.drv_members.specs.Members.{is_this, is_linked}
use Rattle.drv_periodic.specs.Periodic.{address_of}
use Rattle.drv_table.specs.Words.{opening_head}
use Rattle.law_driver_ring.specs.PartOpened.{empty_list, opening_parts}
use Rattle.law_descriptors.specs.list_beside.Links.{IsLinkAt, of_queue, HasItsLinks}
use Rattle.law_descriptors.specs.list_beside.Samples.{queue, list}

one_of : (q : Queue) → (is_this q queue || false) ≡ true → is_this q queue ≡ true
one_of q on = elim (or_cases (is_this q queue) false on) [
  | inl here ↦ here
  | inr later ↦ absurd (false≢true later)
]

member_link : (m : Mem) (x : Member) → is_linked list.members.schedule x ≡ true → IsLinkAt m opening_parts (address_of 0 (After x))
member_link m (Once k) on = absurd (false≢true on)
member_link m (Each q) on =
    let both = and_parts (nat_eq queue.id q.id) (nat_eq queue.period q.period && nat_eq queue.phase q.phase) (one_of q on) in
    let same : queue.id ≡ q.id = eqb-true queue.id q.id both.0 in
    subst (λ (i : ℕ). IsLinkAt m opening_parts (i / 32 * 32)) same (of_queue 4096 opening_head refl)

pub sample_links : (m : Mem) → HasItsLinks m opening_parts list
sample_links m = record { owner = 0; words = empty_list; list = refl; size = length-replicate {A = ℕ} 1024 1; members = member_link m }
