use Rattle.std.proofs.Common.{◌∙◌, arith}
use Rattle.mem_bytes.proofs.Reach.{with_bytes_whole, with_bytes_one, chosen}
use Rattle.mem_bytes.proofs.pieces.hc_put.Goals as goal

pub returns-then-hc_put_word-clause-memory : goal.returns-then-hc_put_word-clause-memory
returns-then-hc_put_word-clause-memory g c =
    c.hc_put_word.ensures.memory ∙ chosen _ _ _ c.if-hc_put_word.ensures.written
    ∙ with_bytes_whole (g.M.HcMemory.mem c.args.mem.now) c.args.pages.now c.args.k c.args.bytes.now c.address-at.result
    c.from_le_bytes-word.result (omega arith)
    c.address-at.ensures (omega arith) (λ i. omega (arith, c.type_inv.bytes i)) c.from_le_bytes-word.ensures

pub returns-then-hc_put_byte-clause-memory : goal.returns-then-hc_put_byte-clause-memory
returns-then-hc_put_byte-clause-memory g c =
    c.hc_put_byte.ensures.memory ∙ chosen _ _ _ c.if-hc_put_byte.ensures.put
    ∙ with_bytes_one (g.M.HcMemory.mem c.args.mem.now) c.args.pages.now c.args.k c.args.bytes.now c.address-at.result (omega arith)
    c.address-at.ensures
