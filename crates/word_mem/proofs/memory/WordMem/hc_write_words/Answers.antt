use Rattle.std.proofs.Common.{rules}
use Rattle.word_mem.proofs.ByController.{by_words}
use Rattle.word_mem.proofs.memory.WordMem.hc_write_words.Goals as goal

pub returns-in-Some-clause-only_lent : goal.returns-in-Some-clause-only_lent
returns-in-Some-clause-only_lent c =
    rw c.put_words.ensures (by_words c.args.self.now c.args.at c.args.words.now c.requires.aligned c.requires.one_block (search rules) (search rules))
