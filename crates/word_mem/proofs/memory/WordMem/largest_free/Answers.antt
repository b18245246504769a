use Rattle.word_mem.proofs.Search.{longest_is}
use Rattle.word_mem.proofs.memory.WordMem.largest_free.Goals as goal

pub returns-clause-found : goal.returns-clause-found
returns-clause-found c =
    rw (← c.self.view_is, ← c.deref.ensures.value) (longest_is c.deref.result.now c.longest_free_run.result c.longest_free_run.ensures)
