-- The ring and the frame list have no descriptor among them.
use Rattle.std.proofs.Common.{◌≡◌, ℕ, Bool, true, false, Some, ap, refl, sym, subst, ◌∙◌}
use Rattle.std.proofs.lemmas.Option.{same_Some}
use Rattle.usb_base.specs.declared.packets.Reply.{Reply}
use Rattle.claims_driver.specs.Owners.{Views, views_of}
use Rattle.law_structures.specs.lent_structures.Structures.{Structure, QueueHead, Table, Isochronous, SplitIsochronous, Structures, StructureSets}
use Rattle.law_structures.specs.lent_structures.Sound.{IsMember}
use Rattle.law_ring.specs.Hand.{Hand, Empty, Copied, Settled, Stale, Copy}
use Rattle.law_ring.specs.Ring.{IsCopied, IsInHand}
use Rattle.law_descriptors.specs.Described.{HasDescriptor, AreDescribed}
use Rattle.law_descriptors.specs.Both.{owns, both}
use Rattle.law_descriptors.specs.PartLaws.{RingIsOfQueues, RingIsOfBoth, ListIsOfQueues, ItdCanBeMet, SitdCanBeMet}
use Rattle.law_descriptors.proofs.Standing.{both_on, both_off, IsAtOwner, on_owner}
use Rattle.law_descriptors.proofs.Telling.{each_is_told, queue_off, queue_found}

abbrev pub is_descriptor : Structure → Bool
is_descriptor (Isochronous v) = true
is_descriptor (SplitIsochronous v) = true
is_descriptor _ = false

stands_descriptor : (split : Bool) (part : Structures) (n : ℕ) (s : Structure) → HasDescriptor split part n → part n ≡ Some s → is_descriptor s ≡ true
stands_descriptor true part n s k here = ap is_descriptor (same_Some s (SplitIsochronous k.sitd) (sym here ∙ k.here))
stands_descriptor false part n s k here = ap is_descriptor (same_Some s (Isochronous k.itd) (sym here ∙ k.here))

-- what stands at an owner's address, and is no descriptor, is of the queues
pub other_off : (v : Views) (descs parts : StructureSets) (n : ℕ) (s : Structure) → AreDescribed v descs → is_descriptor s ≡ false → both descs parts n n ≡ Some s → owns descs n ≡ false
other_off v descs parts n s k other here = by_case (owns descs n) refl
  where
    false_is_true : false ≡ true → ⊥
    false_is_true e = cc

    by_case : (b : Bool) → owns descs n ≡ b → owns descs n ≡ false
    by_case false is = is
    by_case true is =
        let at : IsAtOwner v n = on_owner v descs n k is in
        let there : HasDescriptor (v.descriptor at.transfer.first).split (descs n) n =
        subst (λ (i : ℕ). HasDescriptor (v.descriptor at.transfer.first).split (descs i) i) (sym at.name) (k.descriptors at.number at.transfer at.lent) in
        absurd (false_is_true (sym other ∙ stands_descriptor (v.descriptor at.transfer.first).split (descs n) n s there (ap (λ (part : Structures). part n) (sym (both_on descs parts n is)) ∙ here)))

part_off : (descs parts : StructureSets) (n a : ℕ) (s : Structure) → owns descs n ≡ false → both descs parts n a ≡ Some s → parts n a ≡ Some s
part_off descs parts n a s off here = ap (λ (part : Structures). part a) (sym (both_off descs parts n off)) ∙ here

-- ---- the copy in hand

hand_in : (member : ℕ → Bool) (one other : StructureSets) (reply : Reply) (hand : Hand) → ((c : Copy) → IsCopied member one c → IsCopied member other c) → IsInHand member one reply hand → IsInHand member other reply hand
hand_in member one other reply Empty each is = tt
hand_in member one other reply (Copied c) each is = each c is
hand_in member one other reply (Settled c s) each is = (each c is.0, is.1)
hand_in member one other reply (Stale n q) each is = is

-- ---- the ring

pub ring_is_of_queues : RingIsOfQueues
ring_is_of_queues d descs parts base member hand p k ring = record {
  tells = (each_is_told d p.memory descs parts k ring.tells).0;
  members = λ n on.
      let was : IsMember member n (both descs parts n) = ring.members n on in
      subst (IsMember member n) (both_off descs parts n (other_off (views_of d) descs parts n (QueueHead was.queue) k.described refl was.here)) was;
  registers = ring.registers;
  start = ring.start;
  cursor = ring.cursor;
  held = ring.held;
  in_hand = hand_in member (both descs parts) parts p.walk.reply hand (λ c is.
      record {
        on = is.on;
        here = part_off descs parts c.at c.at (QueueHead c.queue) (other_off (views_of d) descs parts c.at (QueueHead c.queue) k.described refl is.here) is.here;
        link = is.link;
        range = is.range;
      }) ring.in_hand;
}

pub ring_is_of_both : RingIsOfBoth
ring_is_of_both d descs parts base member hand p k told ring = record {
  tells = told;
  members = λ n on.
      let was : IsMember member n (parts n) = ring.members n on in
      subst (IsMember member n) (sym (both_off descs parts n (queue_off d descs parts k n n (QueueHead was.queue) was.here))) was;
  registers = ring.registers;
  start = ring.start;
  cursor = ring.cursor;
  held = ring.held;
  in_hand = hand_in member parts (both descs parts) p.walk.reply hand (λ c is.
      record { on = is.on; here = queue_found d descs parts k c.at c.at (QueueHead c.queue) is.here; link = is.link; range = is.range }) ring.in_hand;
}

pub list_is_of_queues : ListIsOfQueues
list_is_of_queues d descs parts base k = (
  λ list.
      record {
        words = list.words;
        here = part_off descs parts base.periodic_list_base base.periodic_list_base (Table list.words)
            (other_off (views_of d) descs parts base.periodic_list_base (Table list.words) k.described refl list.here) list.here;
        size = list.size;
      },
  λ list.
      record { words = list.words; here = queue_found d descs parts k base.periodic_list_base base.periodic_list_base (Table list.words) list.here; size = list.size },
)

-- ---- a descriptor that is met

pub itd_can_be_met : ItdCanBeMet
itd_can_be_met met d n k leads = record { itd = k.itd; here = k.here; link = leads; slots = k.slots }

pub sitd_can_be_met : SitdCanBeMet
sitd_can_be_met met d n k leads = record { sitd = k.sitd; here = k.here; link = leads; bytes = k.bytes }
