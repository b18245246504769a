use Rattle.std.proofs.Common.{rules}
use Rattle.std.proofs.lemmas.List.Sorted.{IsPartitionPoint-from_clause, IsPartitionedBy-leb}
use Rattle.drv_members.specs.Ranks.{rank_of}
use Rattle.drv_members.specs.Members.{is_up_to}
use Rattle.drv_members.proofs.Sorted.{parted_front, parted_back, rises}
use Rattle.drv_members.proofs.queues.up_to.Goals as goal

pub returns-clause-front : goal.returns-clause-front
returns-clause-front c =
    parted_front (is_up_to c.args.rank) c.args.queues.now c.partition_point.result c.partition_point.ensures.bound
    (IsPartitionPoint-from_clause (is_up_to c.args.rank) _ _ c.partition_point.ensures.partitioned (IsPartitionedBy-leb rank_of _ c.args.rank (rises rank_of c.args.queues.now c.requires)) (λ a r q k. search rules))

pub returns-clause-back : goal.returns-clause-back
returns-clause-back c =
    parted_back (is_up_to c.args.rank) c.args.queues.now c.partition_point.result c.partition_point.ensures.bound
    (IsPartitionPoint-from_clause (is_up_to c.args.rank) _ _ c.partition_point.ensures.partitioned (IsPartitionedBy-leb rank_of _ c.args.rank (rises rank_of c.args.queues.now c.requires)) (λ a r q k. search rules))
