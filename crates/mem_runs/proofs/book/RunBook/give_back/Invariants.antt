use Rattle.std.proofs.Common.{◌≡◌, length}
use Rattle.mem_runs.specs.Book.{Holding, holding, Stands, IsTakenFrom}
use Rattle.mem_runs.proofs.book.RunBook.give_back.Given as goal

abbrev pub invariant-loop-first : goal.invariant-loop-first
invariant-loop-first l = record {
  stands : Stands (holding l.self l.mem);
  from : (before : Holding) → length before.book.taken ≡ l.keep → IsTakenFrom before (holding l.fn.self l.fn.mem) → IsTakenFrom before (holding l.self l.mem);
}

abbrev pub decreases-loop-first : goal.decreases-loop-first
decreases-loop-first l = length l.self.taken
