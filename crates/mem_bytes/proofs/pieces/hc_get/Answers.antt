use Rattle.std.proofs.Common.{◌++◌, ◌%◌, take, drop, ap, ◌∙◌}
use Rattle.mem_bytes.specs.Bytes.{bytes_of}
use Rattle.mem_bytes.proofs.Loads.{bytes_at_word, found_is}
use Rattle.mem_bytes.proofs.pieces.hc_get.Goals as goal

pub returns-in-Some-clause-bytes : goal.returns-in-Some-clause-bytes
returns-in-Some-clause-bytes g c =
    c.spread.ensures.bytes
    ∙ ap (λ xs. xs ++ drop c.spread.result c.args.into.now)
    (ap (λ w. take c.spread.result (drop (c.address-at.result % 4) (bytes_of w))) (found_is _ _ _ c.in-Some.ensures.word)
    ∙ bytes_at_word (g.M.HcMemory.mem c.args.mem.now) c.args.pages.now c.args.k c.address-at.result c.spread.result c.address-at.ensures
    c.spread.ensures.one_word)
