-- A word that leads to a member of a driver's frame list, read as a link, tells the structure that begins there.
use Rattle.std.proofs.Common.{◌≡◌, ℕ, ◌+◌, ◌*◌, ◌/◌, ◌%◌, Bool, true, false, Option, Some, None, if◌then◌else◌, ap, refl, sym, ◌∙◌, arith}
use Rattle.drv_chains.specs.declared.members.Member.{Member}
use Rattle.drv_chains.specs.declared.members.Member.TheVariants.{Once, Each}
use Rattle.drv_chains.specs.Chains.{id_of}
use Rattle.drv_periodic.specs.Periodic.{link_to}
use Rattle.link_words.specs.declared.kinds.Link.TheVariants as kinds
use Rattle.link_words.specs.Links.{link_read, link_word}
use Rattle.link_words.proofs.LinkLaws.{link_read-word}
use Rattle.drv_periodic_table.specs.Periodic.{note_at}
use Rattle.drv_table.specs.DriverContent.{DriverContent}
use Rattle.law_driver.specs.listed_members.Members.{IsListed, IsQueueOf, IsStanding}
use Rattle.law_driver.proofs.lemmas.listed_members.Standing.{standing_block}
use Rattle.law_frame_list.proofs.lemmas.list_spread.Spreading.{queue_there, standing_there}
use Rattle.law_frame_list.specs.list_closed.Closed.{IsNext, structure, TellStructures}

aligned : (b : ℕ) → 32 * b % 32 ≡ 0
aligned b = omega arith

queue_word : (b : ℕ) → link_word (kinds.Qh (32 * b)) ≡ 32 * b + 2
unfolding link_word
queue_word b = omega arith

itd_word : (b : ℕ) → link_word (kinds.Itd (32 * b)) ≡ 32 * b
unfolding link_word
itd_word b = omega arith

sitd_word : (b : ℕ) → link_word (kinds.Sitd (32 * b)) ≡ 32 * b + 4
unfolding link_word
sitd_word b = omega arith

end_read : link_read 1 ≡ kinds.End
unfolding link_read
end_read = refl

queue_read : (id b : ℕ) → id ≡ 32 * b + 2 → link_read id ≡ kinds.Qh (32 * (id / 32))
queue_read id b is =
    let block : b ≡ id / 32 = omega (arith, is) in
    ap link_read (is ∙ sym (queue_word b)) ∙ link_read-word (kinds.Qh (32 * b)) (aligned b) ∙ ap (λ (n : ℕ). kinds.Qh (32 * n)) block

descriptor_read : (id b : ℕ) (split : Bool) → id ≡ (if split then 32 * b + 4 else 32 * b) → link_read id ≡ (if split then kinds.Sitd (32 * b) else kinds.Itd (32 * b))
descriptor_read id b true is = ap link_read (is ∙ sym (sitd_word b)) ∙ link_read-word (kinds.Sitd (32 * b)) (aligned b)
descriptor_read id b false is = ap link_read (is ∙ sym (itd_word b)) ∙ link_read-word (kinds.Itd (32 * b)) (aligned b)

next_read : (d : DriverContent) (f : ℕ) (o : Option Member) → IsListed d → IsNext d.periodic.list.members.schedule f o → link_read (link_to o) ≡ structure d.periodic o
next_read d f None listed next = end_read
next_read d f (Some (Each q)) listed next =
    let s : IsQueueOf d q = queue_there d q listed next.0 in
    queue_read q.id s.framed.queue (ap id_of s.is)
next_read d f (Some (Once k)) listed next =
    let s : IsStanding d (Once k) = standing_there d k listed next.0 in
    let b : ℕ = s.placed.block in
    let block : b ≡ k.id / 32 = sym (standing_block d (Once k) s) in
    descriptor_read k.id b (note_at d.periodic.notes b).split (ap id_of (sym s.is))
    ∙ ap (λ (n : ℕ). if (note_at d.periodic.notes n).split then kinds.Sitd (32 * n) else kinds.Itd (32 * n)) block

pub links_tell_structures : (d : DriverContent) → IsListed d → TellStructures d
links_tell_structures d listed f n leads = ap link_read leads.word ∙ next_read d f leads.next listed leads.stands
