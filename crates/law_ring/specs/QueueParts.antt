-- The structures of one queue head, whichever walk meets it (EHCI 1.0, 3.5, 3.6 and 4.10).
--     IsQueuePart n part        the queue head at n stands in its part, which is sound; its link may lead anywhere
use Rattle.std.specs.Prelude.{◌≡◌, ℕ, Some}
use Rattle.qh_qtd.specs.declared.qtd.Qtd.{Qtd}
use Rattle.qh_qtd.specs.declared.queue_head.Qh.{Qh}
use Rattle.law_structures.specs.lent_structures.Structures.{QueueHead, Element, Structures}
use Rattle.law_structures.specs.lent_structures.Sound.{IsSoundElement, IsSoundQueue, AreOwn}

pub record IsQueuePart (n : ℕ) (part : Structures) : Type 0 where
  pub queue : Qh
  pub here : part n ≡ Some (QueueHead queue)
  pub sound : IsSoundQueue part queue
  pub elements : (a : ℕ) (t : Qtd) → part a ≡ Some (Element t) → IsSoundElement part t
  pub own : AreOwn part
