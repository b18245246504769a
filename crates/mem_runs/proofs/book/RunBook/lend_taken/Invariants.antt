use Rattle.std.proofs.Common.{◌≡◌, length}
use Rattle.mem_runs.specs.Book.{holding, Stands, lend_taken}
use Rattle.mem_runs.proofs.book.RunBook.lend_taken.Given as goal

abbrev pub invariant-loop-first : goal.invariant-loop-first
invariant-loop-first l = record {
  stands : Stands (holding l.self l.mem);
  leads : lend_taken (holding l.self l.mem) ≡ lend_taken (holding l.fn.self l.fn.mem);
}

abbrev pub decreases-loop-first : goal.decreases-loop-first
decreases-loop-first l = length l.self.taken
