-- The tail of a queue, past which the walk doesn't go (EHCI 1.0, 4.10.2): the inactive qTD at its end, or one that is being published.
--     TailStays        links lead no further than the tail, whatever the walk alters
--     LastIsTail       the last qTD of a queue is a tail, where it isn't published
--     TailMoves        a later one is a tail too
use Rattle.std.specs.Prelude.{◌≡◌, ◌≢◌, ℕ, ◌<◌, ◌≤◌, Bool, false, Some}
use Rattle.qh_qtd.specs.declared.qtd.Qtd.{Qtd}
use Rattle.law_structures.specs.lent_structures.Structures.{Element, Structures}
use Rattle.law_structures.specs.lent_structures.Sound.{IsMember}
use Rattle.law_structures.specs.lent_structures.Alters.{Alters}
use Rattle.law_ring.specs.Front.{LinksWithin, HasTail}

abbrev pub TailStays : Type 0
TailStays = (order : ℕ → ℕ) (c : ℕ) (part now : Structures) → Alters part now → LinksWithin order c part → LinksWithin order c now

abbrev pub LastIsTail : Type 0
LastIsTail = (member : ℕ → Bool) (order : ℕ → ℕ) (c n : ℕ) (part : Structures) (d : Qtd) → IsMember member n part → part c ≡ Some (Element d) → d.token.active ≡ false
    → ((b : ℕ) (t : Qtd) → part b ≡ Some (Element t) → b ≢ c → order b < order c) → LinksWithin order c part

abbrev pub TailMoves : Type 0
TailMoves = (order : ℕ → ℕ) (c later front n : ℕ) (part : Structures) → order c ≤ order later → HasTail order c front n part → HasTail order later front n part
