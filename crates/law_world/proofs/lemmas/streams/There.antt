-- The next transfer of an endpoint that goes on, as far as its report has it, is there: it isn't reported, and wasn't given back.
use Rattle.std.proofs.Common.{◌≡◌, ℕ, false, slice_get, Option, Some, None, option_map, ap, refl, sym, subst, ◌∙◌}
use Rattle.std.proofs.lemmas.Option.{same_Some}
use Rattle.drv_table.specs.declared.content.Endpoint.{Endpoint}
use Rattle.drv_table.specs.declared.content.Transfer.{Transfer}
use Rattle.drv_table.specs.DriverContent.{DriverContent}
use Rattle.law_driver.specs.endpoint_lives.Lives.{told_end}
use Rattle.law_driver.specs.chained_transfers.AsynchronousTurns.{AsynchronousTakesTurns}
use Rattle.law_driver.specs.chained_transfers.Turns.{Turn, turn_of, turn_in, IsNext, AreReportedTo}
use Rattle.law_driver.proofs.lemmas.chained_transfers.Holding.{stands_unreleased}
use Rattle.law_queues.specs.harvest_laws.Holds.{IsNextOf}
use Rattle.law_queues.specs.harvest_laws.HeldLaws.{AreThere}

module _ (d : DriverContent) (k : AsynchronousTakesTurns d) where
  found : (e t : ℕ) (x : Endpoint) (r : Turn) (o : Option Transfer) → slice_get d.endpoints e ≡ Some x → told_end x ≡ None → slice_get d.transfers t ≡ o → option_map turn_of o ≡ Some r → r.endpoint ≡ e → r.reported ≡ false
      → (y : Transfer) × (slice_get d.transfers t ≡ Some y) × (y.reported ≡ false) × (y.released ≡ false)
  found e t x r None here goes there is own waits = absurd (cc)
  found e t x r (Some y) here goes there is own waits =
      let same : turn_of y ≡ r = same_Some (turn_of y) r is in
      let at : slice_get d.endpoints y.endpoint ≡ Some x = ap (λ (u : Turn). slice_get d.endpoints u.endpoint) same ∙ ap (slice_get d.endpoints) own ∙ here in
      let unread : y.reported ≡ false = ap (λ (u : Turn). u.reported) same ∙ waits in
      (y, there, unread, stands_unreleased d t y x (k.asynchronous.endpoints y.endpoint x at) k.turns there at goes unread)

pub there_now : (d : DriverContent) → AsynchronousTakesTurns d → AreThere d
there_now d k e t x here goes next =
    let is : IsNext (turn_in d.transfers) e t = subst (AreReportedTo (turn_in d.transfers) e) next (k.turns.turns.next e x here goes) in
    found d k e t x is.transfer (slice_get d.transfers t) here goes refl is.here is.endpoint is.waits

pub next_waits : (d : DriverContent) (e t : ℕ) (x : Endpoint) (y : Transfer) → AsynchronousTakesTurns d → IsNextOf d e t x y → (y.reported ≡ false) × (y.released ≡ false)
next_waits d e t x y k is =
    let w = there_now d k e t x is.endpoint is.going is.next in
    let same : w.0 ≡ y = same_Some w.0 y (sym w.1 ∙ is.transfer) in
    (ap (λ (q : Transfer). q.reported) (sym same) ∙ w.2, ap (λ (q : Transfer). q.released) (sym same) ∙ w.3)
