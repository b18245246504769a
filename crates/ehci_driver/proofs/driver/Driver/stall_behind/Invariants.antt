use Rattle.std.proofs.Common.{◌≡◌, ◌-◌, length}
use Rattle.drv_table.specs.Harvesting.{behind}
use Rattle.ehci_driver.proofs.driver.Driver.stall_behind.Given as goal

abbrev pub invariant-loop-k : goal.invariant-loop-k
invariant-loop-k l = record {
  leads : behind l.self l.e l.name l.k (l.count - l.k) ≡ behind l.fn.self l.e l.name l.first (l.count - l.first);
  count : length l.self.transfers ≡ l.count;
  book : l.self.book ≡ l.fn.self.book;
}
