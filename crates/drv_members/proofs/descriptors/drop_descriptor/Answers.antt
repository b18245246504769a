use Rattle.std.proofs.Common.{rules}
use Rattle.std.specs.Prelude.{not}
use Rattle.std.proofs.lemmas.Fn.{filter_same}
use Rattle.drv_members.specs.Ranks.{is_called}
use Rattle.drv_members.proofs.descriptors.drop_descriptor.Goals as goal

pub returns-clause-items : goal.returns-clause-items
returns-clause-items c = filter_same _ (λ d. not (is_called c.args.id d)) _ (λ x b f' k. search rules) _ _ c.retain.ensures.filtered
