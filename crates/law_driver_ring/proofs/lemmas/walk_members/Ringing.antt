-- The doorbell is answered once: each event keeps what content and registers say of it.
use Rattle.std.proofs.Common.{◌≡◌, Bool, true, false, sym, subst, ◌∙◌, refl}
use Rattle.std.proofs.lemmas.Bool.{false≢true}
use Rattle.op_registers.specs.RegisterFile.{RegisterFile}
use Rattle.op_registers.specs.Table.{after_write}
use Rattle.op_registers.proofs.StatusBits.{has_async_advance}
use Rattle.drv_table.specs.declared.content.Bell.TheVariants as bells
use Rattle.drv_table.specs.declared.rows.DriverRow.{DriverRow}
use Rattle.drv_table.specs.declared.rows.DriverRow.TheVariants as rows
use Rattle.drv_table.specs.DriverContent.{DriverContent}
use Rattle.drv_table.specs.Parts.{Parts}
use Rattle.drv_table.specs.Rows.{driver_row, after_driver_row}
use Rattle.drv_table.specs.Leaving.{doorbell_command}
use Rattle.law_footprints.proofs.Frame.{frame}
use Rattle.law_driver.specs.run_owners.Due.{IsDue}
use Rattle.law_driver.proofs.lemmas.run_owners.Reasons.{each_event_is_due}
use Rattle.claims_driver.specs.Walk.{IsBellIn}

-- ---- the bell is left

pub record SameBell (d e : DriverContent) : Type 0 where
  pub bell : e.bell ≡ d.bell
  pub rung : e.rung ≡ d.rung

pub bell_kept : (d e : DriverContent) (r : RegisterFile) → SameBell d e → IsBellIn d r → IsBellIn e r
bell_kept d e r s old = record {
  quiet = λ is. let q = old.quiet (sym s.bell ∙ is) in (s.rung ∙ q.0, q.1, q.2);
  answered = old.answered;
  heard = λ is. old.heard (sym s.bell ∙ is);
}

-- ---- each event; none but three touches it

-- setting the doorbell leaves Async Advance
advance_stays : (r : RegisterFile) → r.async_advance ≡ (after_write r 0x00 doorbell_command).async_advance
advance_stays r = refl

read_by : (p : Parts) (heard : Bool) → (heard ≡ true → p.registers.doorbell ≡ false) → p.driver.bell ≡ bells.Rung → IsBellIn p.driver p.registers → IsBellIn (after_driver_row (rows.ReadStatus heard) p).driver p.registers
read_by p true off is old = record { quiet = λ e. absurd (cc); answered = old.answered; heard = λ e. off refl }
read_by p false off is old = record { quiet = λ e. absurd (cc); answered = old.answered; heard = λ e. absurd (cc) }

pub row_bell : (row : DriverRow) (p : Parts) → IsDue p row → IsBellIn p.driver p.registers → IsBellIn (after_driver_row row p).driver (after_driver_row row p).registers
row_bell rows.ClearAdvance p due old = record {
  quiet = λ is. (refl, refl, old.heard due.1);
  answered = λ on. old.heard due.1;
  heard = λ is. old.heard due.1;
}
row_bell rows.RingBell p due old = record {
  quiet = λ is. absurd (cc);
  answered = λ on. absurd (false≢true (sym (old.quiet due.1).1 ∙ advance_stays p.registers ∙ on));
  heard = λ is. absurd (cc);
}
row_bell (rows.ReadStatus heard) p due old =
    read_by p heard (λ on. old.answered (sym (has_async_advance p.registers) ∙ sym due.2 ∙ on)) due.1 old
row_bell row p due old =
    subst (λ (q : Parts). IsBellIn q.driver q.registers) (sym (frame row p p.driver.command refl))
    (record { quiet = old.quiet; answered = old.answered; heard = old.heard })

pub the_driver_keeps_the_bell : (p : Parts) → IsBellIn p.driver p.registers → IsBellIn (after_driver_row (driver_row p) p).driver (after_driver_row (driver_row p) p).registers
the_driver_keeps_the_bell p old = row_bell (driver_row p) p (each_event_is_due p) old
