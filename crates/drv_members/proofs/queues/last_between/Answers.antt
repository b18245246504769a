use Rattle.std.proofs.Common.{leb, ap, ◌∙◌, None}
use Rattle.std.specs.Prelude.{filter}
use Rattle.std.specs.List.{last_or}
use Rattle.drv_members.specs.Ranks.{rank_of}
use Rattle.drv_members.specs.Members.{is_up_to}
use Rattle.drv_members.proofs.Sorted.{filter_twice}
use Rattle.drv_members.proofs.queues.last_between.Goals as goal

pub returns : goal.returns
returns c =
    c.last_of.ensures ∙ ap (λ qs. last_or None (filter (λ q. leb c.args.low (rank_of q)) qs)) c.up_to.ensures.front
    ∙ ap (λ qs. last_or None qs) (filter_twice (λ q. leb c.args.low (rank_of q)) (is_up_to c.args.high) c.args.queues.now)
