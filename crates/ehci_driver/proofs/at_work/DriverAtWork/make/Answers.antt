use Rattle.std.proofs.Common.{◌≡◌, ◌≤◌, ap, subst, sym, ◌∙◌}
use Rattle.drv_table.specs.declared.content.Reserve.{Reserve}
use Rattle.drv_table.specs.DriverContent.{DriverContent}
use Rattle.drv_jobs.specs.declared.jobs.JobRow.{JobRow}
use Rattle.drv_jobs.specs.AtWork.{PartsAtWork, at_work, owed_lines}
use Rattle.drv_jobs.specs.Jobs.{after_job_row}
use Rattle.ehci_driver.specs.Turns.{parts}
use Rattle.ehci_driver.proofs.Kept.{row_room}
use Rattle.ehci_driver.proofs.at_work.DriverAtWork.make.Goals as goal

pub invariant_of-self : goal.invariant_of-self
invariant_of-self c =
    let room : c.make.new.self.room ≡ c.self.inside.driver.room =
    ap (λ (d : DriverContent). d.room) c.make.ensures.driver
    ∙ row_room c.in-Plain.own (parts c.self.inside.driver c.args.regs.now c.args.mem.now) in
    subst (λ (r : Reserve). owed_lines c.self.inside.job ≤ r.reports) (sym room) c.self.invariant

pub returns-in-ReadsFrame-clause-work : goal.returns-in-ReadsFrame-clause-work
returns-in-ReadsFrame-clause-work c =
    let p : PartsAtWork = at_work c.args.self.now c.args.regs.now c.args.mem.now in
    c.read_frame.ensures.work c.args.regs.now c.args.mem.now
    ∙ sym (ap (λ (row : JobRow). after_job_row row p) c.in-ReadsFrame.is)

pub returns-in-Mends-clause-work : goal.returns-in-Mends-clause-work
returns-in-Mends-clause-work c =
    let p : PartsAtWork = at_work c.args.self.now c.args.regs.now c.args.mem.now in
    c.store_overlay.ensures.work c.args.regs.now
    ∙ sym (ap (λ (row : JobRow). after_job_row row p) c.in-Mends.is)
