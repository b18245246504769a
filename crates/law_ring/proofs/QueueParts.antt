-- A member of a ring has the part of a queue head, and its link.
use Rattle.std.proofs.Common.{ℕ, Bool}
use Rattle.law_structures.specs.lent_structures.Structures.{Structures}
use Rattle.law_structures.specs.lent_structures.Sound.{IsMember}
use Rattle.law_ring.specs.QueueParts.{IsQueuePart}

unfoldable pub member_part : (member : ℕ → Bool) (n : ℕ) (part : Structures) → IsMember member n part → IsQueuePart n part
member_part member n part k = record { queue = k.queue; here = k.here; sound = k.sound; elements = k.elements; own = k.own }
