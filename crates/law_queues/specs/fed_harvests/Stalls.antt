-- A STALL of a control endpoint (USB 2.0, 8.5.3.4; EHCI 1.0, 4.10.3) leaves what is fed. Its request and all that wait behind it are reported, so that the first
-- qTD of each that no harvest read is out no more; the others of their qTDs stay out until their blocks are given back.
--     out_told note e ts     what is out of endpoint e where all its transfers are reported
--     Stalled d f e t y      which were out before the qTD that was halted, and behind it, and which of those behind it are out yet
--     StallStands            the law
use Rattle.std.specs.Prelude.{◌≡◌, ℕ, ◌*◌, Bool, true, List, [], ◌∷◌, ◌++◌}
use Rattle.drv_table.specs.declared.content.Transfer.{Transfer}
use Rattle.drv_table.specs.declared.rows.Found.{Found}
use Rattle.drv_table.specs.declared.rows.DriverRow.TheVariants as rows
use Rattle.drv_table.specs.DriverContent.{DriverContent}
use Rattle.drv_table.specs.Parts.{Parts}
use Rattle.drv_table.specs.Rows.{after_driver_row}
use Rattle.law_driver.specs.run_owners.Due.{IsHarvestDue}
use Rattle.claims_driver.specs.Leaving.{HasOwners}
use Rattle.claims_driver.specs.Owners.{NoteRuns, note_in}
use Rattle.law_structures.specs.lent_structures.Structures.{StructureSets}
use Rattle.law_ring.specs.Order.{IsAmong}
use Rattle.law_ring.specs.Told.{Endpoint as Told}
use Rattle.law_driver.specs.chained_transfers.Out.{out_of_transfer, out_now}
use Rattle.law_driver.specs.chained_transfers.AsynchronousTurns.{AsynchronousTakesTurns}
use Rattle.law_queues.specs.mended_heads.Stalling.{IsStall}
use Rattle.law_queues.specs.fed_lends.Commands.{QueuesStand}
use Rattle.law_queues.specs.fed_harvests.Harvests.{IsPassed, with_out}

abbrev pub out_told : (ℕ → NoteRuns) → ℕ → List Transfer → List ℕ
out_told note e [] = []
out_told note e (y ∷ ys) = out_of_transfer note e 0 (record y { reported = true }) ++ out_told note e ys

pub record Stalled (d f : DriverContent) (e t : ℕ) (y : Transfer) : Type 0 where
  pub before : List ℕ
  pub behind : List ℕ
  pub later : List ℕ
  pub was : out_now d e ≡ before ++ 32 * y.place ∷ behind
  pub now : out_now f e ≡ before ++ later
  pub told : out_now f e ≡ out_told (note_in d.notes) e d.transfers
  pub passed : (p : ℕ) → IsAmong p before → IsPassed d e t p
  pub fewer : (p : ℕ) → IsAmong p later → IsAmong p behind

pub record StallLeaves (p : Parts) (e t : ℕ) (found : Found) (due : IsHarvestDue p e t found) (member streams : ℕ → Bool) (ends : ℕ → Told) (parts : StructureSets) (order : ℕ → ℕ → ℕ)
    (out : ℕ → List ℕ) : Type 0 where
  pub stalled : Stalled p.driver (after_driver_row (rows.Harvest e t found) p).driver e t due.transfer
  pub stand : QueuesStand (after_driver_row (rows.Harvest e t found) p).driver member streams ends parts order (with_out out (32 * due.endpoint.queue) (stalled.before ++ stalled.later))

abbrev pub StallStands : Type 0
StallStands = (p : Parts) (e t : ℕ) (found : Found) (member streams : ℕ → Bool) (ends : ℕ → Told) (parts : StructureSets) (order : ℕ → ℕ → ℕ) (out : ℕ → List ℕ)
    → (due : IsHarvestDue p e t found) → IsStall due.endpoint.desc.kind found → HasOwners p.driver → AsynchronousTakesTurns p.driver
    → QueuesStand p.driver member streams ends parts order out → StallLeaves p e t found due member streams ends parts order out
