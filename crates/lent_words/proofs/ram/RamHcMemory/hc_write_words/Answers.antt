use Rattle.std.proofs.Common.{rules}
use Rattle.word_mem.proofs.ByController.{by_words}
use Rattle.lent_words.specs.Lent.{lent_mem}
use Rattle.lent_words.proofs.ram.RamHcMemory.hc_write_words.Goals as goal

pub returns-in-Some-clause-only_lent : goal.returns-in-Some-clause-only_lent
returns-in-Some-clause-only_lent g c =
    rw c.put_words.ensures (by_words (lent_mem c.args.self.now.words.now c.args.self.now.foreign) c.args.at c.args.words.now
    c.requires.aligned c.requires.one_block (search rules) (search rules))
