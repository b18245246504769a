use Rattle.std.proofs.Common.{ap, subst, sym, ◌∙◌}
use Rattle.word_mem.specs.Memory.{Mem}
use Rattle.drv_jobs.specs.declared.jobs.JobRow.{JobRow}
use Rattle.drv_jobs.specs.AtWork.{PartsAtWork}
use Rattle.drv_jobs.specs.Jobs.{after_job_row}
use Rattle.ehci_driver.specs.JobEvents.{CanWork}
use Rattle.ehci_driver.specs.Written.{OnlyStoresWithJob}
use Rattle.ehci_driver.proofs.JobRows.{work_can, work_room, room_of}
use Rattle.ehci_driver.proofs.WrittenWithJob.{job_row_words}
use Rattle.ehci_driver.proofs.at_work.DriverAtWork.step.Goals as goal

pub make-requires-clause-can : goal.make-requires-clause-can
make-requires-clause-can c =
    let p : PartsAtWork = record {
      parts = record {
        driver = c.args.self.now.driver;
        registers = c.args.regs.now;
        memory =
            c.args.mem.now;
      };
      job = c.args.self.now.job;
    } in
    subst (λ (r : JobRow). CanWork c.args.self.now r) (sym c.row-row.ensures) (work_can p)

pub returns-clause-room : goal.returns-clause-room
returns-clause-room c =
    let p : PartsAtWork = record {
      parts = record {
        driver = c.args.self.now.driver;
        registers = c.args.regs.now;
        memory =
            c.args.mem.now;
      };
      job = c.args.self.now.job;
    } in
    ap room_of (c.make.ensures.work ∙ ap (λ (r : JobRow). after_job_row r p) c.row-row.ensures) ∙ work_room p

pub returns-clause-words : goal.returns-clause-words
returns-clause-words c =
    let p : PartsAtWork = record {
      parts = record {
        driver = c.args.self.now.driver;
        registers = c.args.regs.now;
        memory =
            c.args.mem.now;
      };
      job = c.args.self.now.job;
    } in
    let row = c.row-row.result in
    subst (λ (r : JobRow). OnlyStoresWithJob p.parts.driver r p.parts.memory c.make.new.mem) c.row-row.ensures
    (subst (λ (m : Mem). OnlyStoresWithJob p.parts.driver row p.parts.memory m)
    (sym (ap (λ (q : PartsAtWork). q.parts.memory) c.make.ensures.work))
    (job_row_words row p c.requires c.words-words.ensures.shape))
