-- That a driver goes on with what is left to be done (EHCI 1.0, 4.6 to 4.8 and 4.10): what can be given back now is, and what has no line
-- is read, at every second event at the latest.
--     owed d                how much can be done now of what leaves: stores that stalled endpoints are owed, what is to be unlinked, and
--                           what is to be given back
--     IsUntold d            a transfer of an endpoint that hasn't ended has no line
--     TakesTurns row p new  an event of this row does one thing of what is owed, or the next one is to; and it reads a transfer that has no
--                           line, or the next one is to
use Rattle.std.specs.Prelude.{◌≡◌, ℕ, suc, ◌+◌, ◌≤◌, ◌⊎◌, true, false, List, [], ◌∷◌, length, None, if◌then◌else◌}
use Rattle.drv_chains.specs.Boundary.{is_seen}
use Rattle.drv_periodic_table.specs.declared.content.Removal.{Removal}
use Rattle.drv_table.specs.declared.content.Transfer.{Transfer}
use Rattle.drv_table.specs.declared.content.Turn.TheVariants as turns
use Rattle.drv_table.specs.declared.rows.DriverRow.{DriverRow}
use Rattle.drv_table.specs.declared.rows.DriverRow.TheVariants.{Harvest}
use Rattle.drv_table.specs.DriverContent.{DriverContent}
use Rattle.drv_table.specs.Parts.{Parts}
use Rattle.claims_answers.specs.Resting.{IsOfGoing}

-- what left the frame list is given back once two readings of FRINDEX differ, the first of it first
abbrev pub seen_first : List Removal → ℕ
seen_first [] = 0
seen_first (r ∷ rs) = if is_seen r.boundary then suc (seen_first rs) else 0

abbrev pub owed : DriverContent → ℕ
owed d = length d.mends + length d.harvested + length d.periodic.unlinks + length d.cleared + seen_first d.periodic.removals

pub record IsUntold (d : DriverContent) : Type 0 where
  pub number : ℕ
  pub transfer : Transfer
  pub of : IsOfGoing d number transfer
  pub untold : transfer.reported ≡ false

abbrev pub IsHarvest : DriverRow → Type 0
IsHarvest (Harvest e t found) = Unit {0}
IsHarvest _ = ⊥

pub record TakesTurns (row : DriverRow) (p : Parts) (new : DriverContent) : Type 0 where
  pub leaving :
      p.driver.command ≡ None → 1 ≤ owed p.driver
      → (suc (owed new) ≡ owed p.driver) ⊎ ((p.driver.turn ≡ turns.Harvest) × (new.turn ≡ turns.Leaving))
  pub harvest :
      p.driver.command ≡ None → IsUntold p.driver → IsHarvest row ⊎ ((p.driver.turn ≡ turns.Leaving) × (new.turn ≡ turns.Harvest))
