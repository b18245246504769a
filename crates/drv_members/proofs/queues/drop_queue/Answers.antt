use Rattle.std.proofs.Common.{rules}
use Rattle.std.specs.Prelude.{not}
use Rattle.std.proofs.lemmas.Fn.{filter_same}
use Rattle.drv_members.specs.Ranks.{is_named}
use Rattle.drv_members.proofs.queues.drop_queue.Goals as goal

pub returns-clause-items : goal.returns-clause-items
returns-clause-items c = filter_same _ (λ q. not (is_named c.args.id q)) _ (λ x b f' k. search rules) _ _ c.retain.ensures.filtered
