use Rattle.std.proofs.Common.{◌≡◌, ◌+◌, ◌-◌, ◌*◌, ◌∙◌, take, drop, ap, arith}
use Rattle.bulk_only.proofs.blocks.Blocks.block.Goals as goal

pub returns-clause-value : goal.returns-clause-value
returns-clause-value c =
    let n : 512 * c.args.lba + 512 - 512 * c.args.lba ≡ 512 = omega arith in
    ap (λ k. take k (drop (512 * c.args.lba) c.deref.result.now)) n
    ∙ ap (λ bs. take 512 (drop (512 * c.args.lba) bs)) (c.deref.ensures.value ∙ c.self.view_is)
