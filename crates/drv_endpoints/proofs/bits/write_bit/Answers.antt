use Rattle.std.proofs.Common.{◌∙◌}
use Rattle.std.proofs.lemmas.Grind.{get_or_default_zero}
use Rattle.drv_endpoints.proofs.Words.{written_is}
use Rattle.drv_endpoints.proofs.bits.write_bit.Goals as goal

pub returns-clause-bits : goal.returns-clause-bits
returns-clause-bits c =
    written_is c.args.words.now.items c.args.e _ c.with_bit-word.result _ c.requires (c.index.ensures ∙ get_or_default_zero _ _ _ c.requires) c.with_bit-word.ensures
