use Rattle.std.proofs.Common.{subst, sym}
use Rattle.word_mem.specs.Memory.{Mem}
use Rattle.drv_table.specs.declared.rows.DriverRow.{DriverRow}
use Rattle.drv_table.specs.Parts.{Parts}
use Rattle.ehci_driver.specs.Makes.{CanMake}
use Rattle.ehci_driver.proofs.Makes.{row_can}
use Rattle.ehci_driver.specs.Written.{OnlyStores}
use Rattle.ehci_driver.proofs.Written.{row_words}
use Rattle.ehci_driver.proofs.driver.Driver.step.Goals as goal

pub returns-clause-words : goal.returns-clause-words
returns-clause-words c =
    let p : Parts = record { driver = c.args.self.now; registers = c.args.regs.now; memory = c.args.mem.now } in
    let row = c.row-row.result in
    subst (λ (r : DriverRow). OnlyStores p.driver r p.memory c.make.new.mem) c.row-row.ensures
    (subst (λ (m : Mem). OnlyStores p.driver row p.memory m) (sym c.make.ensures.memory) (row_words row p c.requires c.words-words.ensures.shape))

pub make-requires-clause-can : goal.make-requires-clause-can
make-requires-clause-can c =
    let p : Parts = record { driver = c.args.self.now; registers = c.args.regs.now; memory = c.args.mem.now } in
    subst (λ (r : DriverRow). CanMake p.driver r) (sym c.row-row.ensures) (row_can p)
