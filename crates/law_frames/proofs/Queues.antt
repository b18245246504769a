-- What stays of the part of a queue head where it is altered, and that a member of a ring is such a part with its link.
use Rattle.std.proofs.Common.{◌≡◌, ℕ, Bool, Some, ap, sym, ◌∙◌}
use Rattle.qh_qtd.specs.declared.queue_head.Qh.{Qh}
use Rattle.law_structures.specs.lent_structures.Structures.{QueueHead, Structures}
use Rattle.law_structures.specs.lent_structures.Sound.{buffer_name, IsSoundQueue, AreOwn, IsMember}
use Rattle.law_structures.specs.lent_structures.Alters.{Alters}
use Rattle.law_structures.proofs.lemmas.lent_structures.Members.{element_still, name_after}
use Rattle.law_ring.proofs.QueueParts.{member_part}
use Rattle.law_frames.specs.Met.{IsQueuePart, IsLinkedPart}

own_still : (part now : Structures) → Alters part now → AreOwn part → AreOwn now
own_still part now alters own a b t u pages k bs one other same there =
    let first = alters.element_before a t one in
    let second = alters.element_before b u other in
    let name = name_after first.qtd t first.after in
    let buffer = alters.buffer_before (buffer_name t) pages k bs there in
    own a b first.qtd second.qtd pages k buffer.bytes first.here second.here (sym name ∙ same ∙ name_after second.qtd u second.after) (ap part (sym name) ∙ buffer.here)

pub an_altered_queue_part_is_sound : (n : ℕ) (part now : Structures) (new : Qh) → IsQueuePart n part → Alters part now → now n ≡ Some (QueueHead new) → IsSoundQueue now new → IsQueuePart n now
an_altered_queue_part_is_sound n part now new old alters here sound = record {
  queue = new;
  here = here;
  sound = sound;
  elements = λ a u there. let before = alters.element_before a u there in element_still part now before.qtd u alters before.after (old.elements a before.qtd before.here);
  own = own_still part now alters old.own;
}

pub a_members_part_is_linked : (member : ℕ → Bool) (n : ℕ) (part : Structures) → IsMember member n part → IsLinkedPart member n part
unfolding member_part
a_members_part_is_linked member n part k = record {
  part_is = member_part member n part k;
  link = k.link;
}

pub a_linked_part_is_a_members : (member : ℕ → Bool) (n : ℕ) (part : Structures) → IsLinkedPart member n part → IsMember member n part
a_linked_part_is_a_members member n part k = record {
  queue = k.part_is.queue;
  here = k.part_is.here;
  link = k.link;
  sound = k.part_is.sound;
  elements = k.part_is.elements;
  own = k.part_is.own;
}
