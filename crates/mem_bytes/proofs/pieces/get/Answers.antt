use Rattle.std.proofs.Common.{◌++◌, ◌%◌, take, drop, ap, ◌∙◌}
use Rattle.mem_bytes.specs.Bytes.{bytes_of}
use Rattle.mem_bytes.proofs.Loads.{bytes_at_word}
use Rattle.mem_bytes.proofs.pieces.get.Goals as goal

pub returns-clause-bytes : goal.returns-clause-bytes
returns-clause-bytes c =
    c.spread.ensures.bytes
    ∙ ap (λ xs. xs ++ drop c.spread.result c.args.into.now)
    (ap (λ w. take c.spread.result (drop (c.address-at.result % 4) (bytes_of w))) c.word.ensures
    ∙ bytes_at_word c.args.mem.now c.args.pages.now c.args.k c.address-at.result c.spread.result c.address-at.ensures c.spread.ensures.one_word)
