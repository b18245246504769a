-- What a harvest finds of a control request (EHCI 1.0, 3.5.3 and 4.10; USB 2.0, 8.5.3).
--     DoneIsEnded                the law: where it finds the request done, memory shows that its status has ended
use Rattle.std.specs.Prelude.{◌≡◌, ℕ, ◌*◌, Some}
use Rattle.usb_base.specs.declared.reports.What.TheVariants.{Done}
use Rattle.qh_qtd.specs.declared.qtd.Qtd.{Qtd}
use Rattle.drv_table.specs.declared.content.Sort.TheVariants as sorts
use Rattle.drv_table.specs.declared.rows.Found.TheVariants as founds
use Rattle.drv_table.specs.Parts.{Parts}
use Rattle.law_driver.specs.run_owners.Due.{IsHarvestDue}
use Rattle.claims_driver.specs.Owners.{note_in}
use Rattle.law_driver.specs.chained_transfers.Turns.{IsAtPlace}
use Rattle.law_structures.specs.lent_structures.Structures.{Element, StructureSets, Tells}
use Rattle.claims_report.specs.Requests.{Request}
use Rattle.law_request.specs.Host.{Endpoint}
use Rattle.law_devices.specs.ring_requests.Laid.{Places}
use Rattle.law_devices.specs.ring_requests.Windows.{HasEnded}
use Rattle.law_reports.specs.requests.driver_requests.Requests.{IsLaidOut}

abbrev pub DoneIsEnded : Type 0
DoneIsEnded = (p : Parts) (e t n : ℕ) (parts : StructureSets) (v : Endpoint) (r : Request) (x : Places) (u : Qtd) → (due : IsHarvestDue p e t (founds.Ended n Done)) → IsLaidOut p.driver t r x
    → due.transfer.sort ≡ sorts.Request → IsAtPlace (note_in p.driver.notes) due.transfer → Tells p.memory parts → parts (32 * due.endpoint.queue) x.status ≡ Some (Element u)
    → HasEnded (record { endpoint = v; request = r; places = x }) parts (32 * due.endpoint.queue)
