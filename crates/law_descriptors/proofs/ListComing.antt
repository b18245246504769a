-- A lent descriptor has its structure, and none of the ring is there.
use Rattle.std.proofs.Common.{◌≡◌, ℕ, ◌*◌, Bool, true, false, Option, Some, refl, sym, subst}
use Rattle.drv_periodic_table.specs.Periodic.{note_at}
use Rattle.qh_qtd.specs.declared.queue_head.Qh.{Qh}
use Rattle.itd_sitd.specs.declared.itd.Itd.{Itd}
use Rattle.itd_sitd.specs.declared.sitd.Sitd.{Sitd}
use Rattle.law_structures.specs.lent_structures.Structures.{Structure, QueueHead, Isochronous, SplitIsochronous, Structures}
use Rattle.law_structures.specs.lent_structures.Sound.{IsMember}
use Rattle.law_descriptors.specs.Described.{HasDescriptor}
use Rattle.law_descriptors.specs.Both.{both}
use Rattle.law_descriptors.specs.Meeting.{kind_of_descriptor}
use Rattle.law_descriptors.specs.ListRows.{HasPart, LentComes}
use Rattle.law_descriptors.proofs.Standing.{both_on, stands_some}

itd_no_head : (o : Option Structure) (v : Itd) (q : Qh) → o ≡ Some (Isochronous v) → o ≡ Some (QueueHead q) → ⊥
itd_no_head o v q one two = cc

sitd_no_head : (o : Option Structure) (v : Sitd) (q : Qh) → o ≡ Some (SplitIsochronous v) → o ≡ Some (QueueHead q) → ⊥
sitd_no_head o v q one two = cc

no_head : (part : Structures) (n : ℕ) (split : Bool) (q : Qh) → HasDescriptor split part n → part n ≡ Some (QueueHead q) → ⊥
no_head part n true q k head = sitd_no_head (part n) k.sitd q k.here head
no_head part n false q k head = itd_no_head (part n) k.itd q k.here head

off_ring : (member : ℕ → Bool) (part : Structures) (n : ℕ) (split b : Bool) → HasDescriptor split part n → (member n ≡ true → IsMember member n part) → member n ≡ b → b ≡ false
off_ring member part n split false k members is = refl
off_ring member part n split true k members is = let m : IsMember member n part = members is in absurd (no_head part n split m.queue k m.here)

descriptor_part : (part : Structures) (n : ℕ) (split : Bool) → HasDescriptor split part n → HasPart n part (kind_of_descriptor split)
descriptor_part part n true k = k
descriptor_part part n false k = k

pub lent_comes : LentComes
lent_comes base member met recent descs parts hand frame c d t y runs described lent fresh =
    let n : ℕ = 32 * y.first in
    let split : Bool = (note_at d.periodic.notes y.first).split in
    let own : HasDescriptor split (descs n) n = described.descriptors t y lent in
    let here : HasDescriptor split (both descs parts n) n
    = subst (λ (part : Structures). HasDescriptor split part n) (sym (both_on descs parts n (stands_some split (descs n) n own))) own in
    record {
      off = off_ring member (both descs parts n) n split (member n) here (λ on. runs.ring.members n on) refl;
      fresh = fresh;
      part = descriptor_part (both descs parts n) n split here;
    }
