use Rattle.std.proofs.Common.{◌≡◌, ◌-◌, length}
use Rattle.op_registers.specs.RegisterFile.{RegisterFile}
use Rattle.mem_runs.specs.Book.{holding, Stands}
use Rattle.drv_jobs.specs.Clearing.{released_from}
use Rattle.ehci_driver.specs.Turns.{parts}
use Rattle.ehci_driver.proofs.driver.Driver.give_back.Given as goal

abbrev pub invariant-loop-t : goal.invariant-loop-t
invariant-loop-t l = record {
  leads : (r : RegisterFile) → released_from (parts l.self r l.mem) l.e l.t (l.count - l.t) ≡ released_from (parts l.fn.self r
      l.fn.mem) l.e 0 l.count;
  count : length l.self.transfers ≡ l.count;
  endpoints : l.self.endpoints ≡ l.fn.self.endpoints;
  room : l.self.room ≡ l.fn.self.room;
  stands : Stands (holding l.self.book l.mem);
}
