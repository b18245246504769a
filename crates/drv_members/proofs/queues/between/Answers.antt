use Rattle.std.proofs.Common.{leb, sym, ap, ◌∙◌, subst}
use Rattle.std.specs.Prelude.{filter}
use Rattle.drv_members.specs.Ranks.{rank_of}
use Rattle.drv_members.specs.Members.{IsRising, is_up_to}
use Rattle.drv_members.proofs.Merge.{rising_kept}
use Rattle.drv_members.proofs.Sorted.{filter_twice}
use Rattle.drv_members.proofs.queues.between.Goals as goal

pub from_rank-requires : goal.from_rank-requires
from_rank-requires c = subst (λ qs. IsRising rank_of qs) (sym c.up_to.ensures.front) (rising_kept rank_of (is_up_to c.args.high) c.args.queues.now c.requires)

pub returns : goal.returns
returns c =
    c.from_rank.ensures ∙ ap (λ qs. filter (λ q. leb c.args.low (rank_of q)) qs) c.up_to.ensures.front
    ∙ filter_twice (λ q. leb c.args.low (rank_of q)) (is_up_to c.args.high) c.args.queues.now
