use Rattle.std.proofs.Common.{◌≡◌, ◌+◌, ◌*◌, drop}
use Rattle.mem_runs.specs.Book.{holding, Stands, store_words}
use Rattle.mem_runs.proofs.book.RunBook.store_words.Given as goal

abbrev pub invariant-loop-i : goal.invariant-loop-i
invariant-loop-i l = record {
  stands : Stands (holding l.self l.mem);
  leads : store_words l.self l.mem l.first (l.at + 4 * l.i) (drop l.i l.words) ≡ store_words l.self l.fn.mem l.first l.at l.words;
}
