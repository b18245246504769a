use Rattle.std.proofs.Common.{sym}
use Rattle.word_mem.proofs.Search.{lowest_is, lowest_none}
use Rattle.word_mem.proofs.memory.WordMem.take.Goals as goal

pub returns-in_default-clause-found : goal.returns-in_default-clause-found
returns-in_default-clause-found c =
    let none = lowest_none c.deref.result.now c.args.n c.in_default.ensures.place in
    rw (← c.self.view_is, ← c.deref.ensures.value) (sym none)

pub returns-clause-found : goal.returns-clause-found
returns-clause-found c =
    let low = lowest_is c.deref.result.now c.args.n c.in-Some.first c.in-Some.ensures.place in
    rw (← c.self.view_is, ← c.deref.ensures.value, c.new.ensures) (sym low)
