-- What is found of a descriptor that waits for its harvest: it isn't served yet, or it is (EHCI 1.0, 3.3.2 and 3.4.3).
use Rattle.std.proofs.Common.{◌≡◌, ℕ, Bool, true, false, cond, slice_get, Option, Some, ap, refl, sym, ◌∙◌}
use Rattle.std.proofs.lemmas.Bool.{false≢true}
use Rattle.law_telling.proofs.Common.{none_ended}
use Rattle.usb_base.specs.declared.reports.What.{What}
use Rattle.word_mem.specs.Memory.{Mem}
use Rattle.claims_driver.specs.Owners.{is_descriptor}
use Rattle.drv_periodic_table.specs.Periodic.{note_at as periodic_note}
use Rattle.drv_periodic_table.specs.Descriptors.{is_served, errors_in}
use Rattle.drv_table.specs.declared.content.Endpoint.{Endpoint}
use Rattle.drv_table.specs.declared.content.Transfer.{Transfer}
use Rattle.drv_table.specs.declared.content.Sort.{Sort}
use Rattle.drv_table.specs.declared.content.Sort.TheVariants as sorts
use Rattle.drv_table.specs.declared.rows.DriverRow.TheVariants as rows
use Rattle.drv_table.specs.declared.rows.Found.{Found}
use Rattle.drv_table.specs.declared.rows.Found.TheVariants as founds
use Rattle.drv_table.specs.DriverContent.{DriverContent}
use Rattle.drv_table.specs.Harvesting.{found_of, descriptor_found, harvested_as, after_harvest, served}
use Rattle.drv_table.specs.Parts.{Parts}
use Rattle.drv_table.specs.Rows.{after_driver_row}
use Rattle.law_driver.specs.run_owners.Due.{IsHarvestDue}

found_as : (d : DriverContent) (m : Mem) (y : Transfer) (sort : Sort) → is_descriptor sort ≡ true
    → found_of d m y sort ≡ descriptor_found (periodic_note d.periodic.notes y.first) m y.first
found_as d m y sorts.Descriptor is = refl
found_as d m y sorts.Get is = absurd (false≢true is)
found_as d m y sorts.Put is = absurd (false≢true is)
found_as d m y sorts.Request is = absurd (false≢true is)

none_moved : (b : Bool) (n k : ℕ) → cond b (founds.Served n) founds.Active ≡ founds.Moved k → ⊥
none_moved true n k is = cc
none_moved false n k is = cc

module _ (p : Parts) (e t : ℕ) (found : Found) (due : IsHarvestDue p e t found) where
  pub read_is : (z : Found) → found ≡ z
      → (after_driver_row (rows.Harvest e t found) p).driver ≡ served (harvested_as p.driver p.memory e t due.endpoint due.transfer z) e
  read_is z is =
      ap (λ (o : Option Endpoint). after_harvest p.driver p.memory e t found o (slice_get p.driver.transfers t)) due.here
      ∙ ap (λ (o : Option Transfer). after_harvest p.driver p.memory e t found (Some due.endpoint) o) due.there
      ∙ ap (λ (b : Bool). cond b (served (harvested_as p.driver p.memory e t due.endpoint due.transfer found) e) p.driver) due.waits
      ∙ ap (λ (c : Found). served (harvested_as p.driver p.memory e t due.endpoint due.transfer c) e) is

  module _ (descriptor : is_descriptor due.transfer.sort ≡ true) where
    found_is : found ≡ descriptor_found (periodic_note p.driver.periodic.notes due.transfer.first) p.memory due.transfer.first
    found_is = due.tells ∙ found_as p.driver p.memory due.transfer due.transfer.sort descriptor

    pub never_moved : (n : ℕ) → found ≡ founds.Moved n → ⊥
    never_moved n is =
        none_moved (is_served (periodic_note p.driver.periodic.notes due.transfer.first) p.memory due.transfer.first)
        (errors_in (periodic_note p.driver.periodic.notes due.transfer.first) p.memory due.transfer.first) n (sym found_is ∙ is)

    pub never_ended : (n : ℕ) (what : What) → found ≡ founds.Ended n what → ⊥
    never_ended n what is =
        none_ended (is_served (periodic_note p.driver.periodic.notes due.transfer.first) p.memory due.transfer.first)
        (errors_in (periodic_note p.driver.periodic.notes due.transfer.first) p.memory due.transfer.first) n what (sym found_is ∙ is)
