use Rattle.std.proofs.Common.{rules}
use Rattle.std.proofs.lemmas.List.Sorted.{IsPartitionPoint-from_clause, IsPartitionedBy-ltb}
use Rattle.drv_members.specs.Members.{is_below, frame_in}
use Rattle.drv_members.proofs.Sorted.{parted_front, parted_back, rises}
use Rattle.drv_members.proofs.descriptors.below.Goals as goal

pub returns-clause-front : goal.returns-clause-front
returns-clause-front c =
    parted_front (is_below c.args.frame) c.args.descriptors.now c.partition_point.result c.partition_point.ensures.bound
    (IsPartitionPoint-from_clause (is_below c.args.frame) _ _ c.partition_point.ensures.partitioned (IsPartitionedBy-ltb frame_in _ c.args.frame (rises frame_in c.args.descriptors.now c.requires)) (λ a r q k. search rules))

pub returns-clause-back : goal.returns-clause-back
returns-clause-back c =
    parted_back (is_below c.args.frame) c.args.descriptors.now c.partition_point.result c.partition_point.ensures.bound
    (IsPartitionPoint-from_clause (is_below c.args.frame) _ _ c.partition_point.ensures.partitioned (IsPartitionedBy-ltb frame_in _ c.args.frame (rises frame_in c.args.descriptors.now c.requires)) (λ a r q k. search rules))
