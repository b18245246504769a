-- Links lead to later qTDs, once a transfer is lent.
use Rattle.std.proofs.Common.{◌≡◌, ◌≢◌, ℕ, ◌*◌, ◌<◌, List, Some, sym, subst, ⊎_elim, arith}
use Rattle.std.proofs.lemmas.Bool.{cases_eq}
use Rattle.word_mem.specs.Memory.{Mem}
use Rattle.qh_qtd.specs.declared.qtd.Qtd.{Qtd}
use Rattle.mem_runs.specs.Book.{slot_of}
use Rattle.mem_runs.specs.declared.slots.Slot.{Slot}
use Rattle.drv_table.specs.declared.content.Stage.{Stage}
use Rattle.drv_table.specs.DriverContent.{DriverContent}
use Rattle.claims_driver.specs.Owners.{EndpointRuns, TransferRuns}
use Rattle.law_structures.specs.lent_structures.Structures.{Structure, Element, StructureSets}
use Rattle.law_structures.specs.lent_structures.Sound.{IsElement, LeadsOn}
use Rattle.law_ring.specs.Front.{LinksRise}
use Rattle.law_driver_ring.specs.Pieces.{IsNewQtd}
use Rattle.law_driver_ring.specs.TransferLaws.{lent_driver, HasPieces}
use Rattle.law_driver_ring.specs.Written.{AwaitsLend}
use Rattle.law_queues.specs.standing_fronts.Along.{LinksOfQueuesRise}
use Rattle.law_queues.specs.fed_lends.Streams.{second, new_order}
use Rattle.law_queues.specs.fed_lends.ToLend.{lent_now}
use Rattle.law_queues.proofs.lemmas.fed_lends.Fed.{y_of, x_of}
use Rattle.law_queues.proofs.lemmas.fed_lends.Numbering.{AreNumbered, next_rises, alternate_rises}
use Rattle.law_queues.proofs.lemmas.fed_lends.Order.{at_here, at_else}
use Rattle.law_queues.proofs.lemmas.fed_lends.Reporting.{numbers, old_number}
use Rattle.law_queues.proofs.lemmas.fed_lends.Reports.{IsOrdering, is_there, queue_order, order_lent}
use Rattle.law_frames.specs.Met.{IsQueuePart}

module _ (d : DriverContent) (m : Mem) (t : ℕ) (y : TransferRuns) (x : EndpointRuns) (s : Stage) (ss : List Stage) (slot : ℕ → Slot) (parts now : StructureSets) (from : ℕ) (order : ℕ → ℕ) (awaits : AwaitsLend d m t y x s ss) (pieces : HasPieces d slot parts now y x s ss) (head : IsQueuePart (32 * x.queue) (parts (32 * x.queue))) where
  abbrev n : ℕ
  n = 32 * x.queue

  abbrev g : ℕ → ℕ
  g = new_order d y ss from order

  are : AreNumbered g d.notes ss (second d y) from
  are = numbers d m t y x s ss from order awaits

  old_is : (a : ℕ) (u : Structure) → parts n a ≡ Some u → g a ≡ order a
  old_is a u there = old_number d y x s ss slot parts now from order a u pieces there

  led : (a : ℕ) (u : Qtd) (e : ℕ) → parts n a ≡ Some (Element u) → IsElement (parts n) e → order a < order e → g a < g e
  led a u e was to less = let one = old_is a (Element u) was in let two = old_is e (Element to.qtd) to.here in omega (arith, one, two, less)

  pub rises_lent : LinksRise order (parts n) → LinksRise g (now n)
  rises_lent r = record {
    next = λ a u e found leads.
        ⊎_elim (λ (was : parts n a ≡ Some (Element u)). led a u e was (subst (LeadsOn (parts n)) leads (head.elements a u was).next) (r.next a u e was leads))
        (λ (new : IsNewQtd d.notes x.dummy ss (second d y) a u). next_rises g d.notes x.dummy ss (second d y) from a u e are new leads) (pieces.elements a u found);
    alternate = λ a u e found leads.
        ⊎_elim (λ (was : parts n a ≡ Some (Element u)). led a u e was (subst (LeadsOn (parts n)) leads (head.elements a u was).alternate) (r.alternate a u e was leads))
        (λ (new : IsNewQtd d.notes x.dummy ss (second d y) a u). alternate_rises g d.notes x.dummy ss (second d y) from a u e are awaits.ends new leads) (pieces.elements a u found);
  }

pub queues_rise : {d : DriverContent} {m : Mem} {b : ℕ} {words : List ℕ} {parts now : StructureSets} {order : ℕ → ℕ → ℕ} {out : ℕ → List ℕ} → (o : IsOrdering d m b words parts now order out) → IsQueuePart (32 * o.lending.ready.endpoint.queue) (parts (32 * o.lending.ready.endpoint.queue)) → LinksOfQueuesRise d parts order
    → LinksOfQueuesRise (lent_now d m) now (order_lent o.lending.ready o.from order)
queues_rise {d = d} {m = m} {b = b} {words = words} {parts = parts} {now = now} {order = order} o head old e x here met =
    let l = o.lending in
    let k = l.ready in
    let n = 32 * k.endpoint.queue in
    let q = 32 * x.queue in
    let f = queue_order k o.from order in
    let was = old e x here (record { there = is_there d m b words x k met.there.kept; near = met.near }) in
    ⊎_elim
    (λ (same : q ≡ n).
    subst (λ (j : ℕ). LinksRise (order_lent k o.from order j) (now j)) (sym same)
    (subst (λ (g : ℕ → ℕ). LinksRise g (now n)) (sym (at_here order n f))
    (rises_lent d m k.number (y_of k) (x_of k) k.stage k.further (slot_of (lent_driver d m).book.slots) parts now o.from (order n) k.awaits l.pieces head (subst (λ (j : ℕ). LinksRise (order j) (parts j)) same was))))
    (λ (differs : q ≢ n).
    subst (λ (g : ℕ → ℕ). LinksRise g (now q)) (sym (at_else order n f q differs)) (subst (LinksRise (order q)) (sym (l.pieces.beside q differs)) was))
    (cases_eq q n)
