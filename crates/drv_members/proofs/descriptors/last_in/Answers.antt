use Rattle.std.proofs.Common.{◌+◌, leb, ap, ◌∙◌, None}
use Rattle.std.specs.Prelude.{filter}
use Rattle.std.specs.List.{last_or}
use Rattle.drv_chains.specs.declared.members.Descriptor.{Descriptor}
use Rattle.drv_members.specs.Members.{is_below}
use Rattle.drv_members.proofs.Sorted.{filter_twice, exactly}
use Rattle.drv_members.proofs.descriptors.last_in.Goals as goal

pub returns : goal.returns
returns c =
    c.last_of.ensures ∙ ap (λ ds. last_or None (filter (λ (d : Descriptor). leb c.args.frame d.frame) ds)) c.below.ensures.front
    ∙ ap (λ ds. last_or None ds) (filter_twice (λ (d : Descriptor). leb c.args.frame d.frame) (is_below (c.args.frame + 1)) c.args.descriptors.now)
    ∙ ap (λ ds. last_or None ds) (exactly (λ (d : Descriptor). d.frame) c.args.frame c.args.descriptors.now)
