-- A done qTD of a queue head, whichever walk meets that: the overlay doesn't work on it, so its words tell what was moved of it.
use Rattle.std.proofs.Common.{◌≡◌, ◌≢◌, ℕ, ◌-◌, true, false, List, length, take, Some, ap, refl, sym, subst, ◌∙◌}
use Rattle.std.proofs.lemmas.Bool.{false≢true}
use Rattle.qh_qtd.specs.declared.qtd.Qtd.{Qtd}
use Rattle.qh_qtd.specs.declared.queue_head.Qh.{Qh}
use Rattle.law_structures.specs.lent_structures.Structures.{QueueHead, Element, Structures, StructureSets}
use Rattle.law_structures.specs.lent_structures.Sound.{IsWorking, IsSoundQueue}
use Rattle.law_structures.proofs.lemmas.lent_structures.Altering.{found_queue, found_element}
use Rattle.law_ring.specs.Hand.{Hand}
use Rattle.law_ring.specs.Effects.{buffer_of}
use Rattle.law_ring.specs.QueueParts.{IsQueuePart}
use Rattle.law_ring.specs.Told.{Told}
use Rattle.law_ring.proofs.Ordering.{works_by, not_worked}

pub apart_from_done : (n : ℕ) (part : Structures) (q : Qh) (e : ℕ) (t : Qtd) → IsQueuePart n part → part n ≡ Some (QueueHead q)
    → part e ≡ Some (Element t) → t.token.active ≡ false → q.token.active ≡ true → q.current ≢ e
apart_from_done n part q e t m head here off on same =
    let is : m.queue ≡ q = found_queue (part n) m.queue q m.here head in
    let sound : IsSoundQueue part q = subst (IsSoundQueue part) is m.sound in
    let w : IsWorking part q = sound.work on in
    false≢true (sym off ∙ ap (λ (x : Qtd). x.token.active) (found_element (part e) t w.element here (ap part (sym same) ∙ w.here))
    ∙ w.published)

pub done_in_part : (parts : StructureSets) (hand : Hand) (n e : ℕ) (t : Qtd) (x : List ℕ) → IsQueuePart n (parts n)
    → parts n e ≡ Some (Element t) → t.token.active ≡ false → Told hand parts n e x
    → x ≡ take (length (buffer_of (parts n) t) - t.token.total) (buffer_of (parts n) t)
done_in_part parts hand n e t x m here off told =
    let same : told.qtd ≡ t = found_element (parts n e) told.qtd t told.here here in
    told.are
    ∙ not_worked hand n told.queue e told.qtd (buffer_of (parts n) told.qtd)
    (works_by told.queue e told.queue.token.active refl (λ on. apart_from_done n (parts n) told.queue e t m told.head here off on))
    ∙ ap (λ (z : Qtd). take (length (buffer_of (parts n) z) - z.token.total) (buffer_of (parts n) z)) same
