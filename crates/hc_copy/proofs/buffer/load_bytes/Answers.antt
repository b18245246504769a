use Rattle.std.proofs.Common.{sym, ◌∙◌}
use Rattle.hc_copy.proofs.Loading.{loaded_whole}
use Rattle.hc_copy.proofs.buffer.load_bytes.Goals as goal

pub returns-clause-bytes : goal.returns-clause-bytes
returns-clause-bytes g c = λ all. c.hc_load.ensures.bytes ∙ loaded_whole (g.M.HcMemory.mem c.args.mem.now) c.args.pages.now c.args.from
    c.args.into.now (sym c.hc_load.ensures.all ∙ all)
