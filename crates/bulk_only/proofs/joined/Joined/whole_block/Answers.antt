use Rattle.std.proofs.Common.{◌≡◌, ◌-◌, ◌∙◌, ap, sym, length, drop, length-drop}
use Rattle.bulk_only.specs.Commands.{block_of, with_room}
use Rattle.bulk_only.proofs.Allowed.{block_of_head}
use Rattle.bulk_only.proofs.joined.Joined.whole_block.Goals as goal

pub returns-clause-block : goal.returns-clause-block
returns-clause-block c =
    let bs = drop c.args.at c.args.self.now in
    let n : c.len.result - c.args.at ≡ length bs = ap (λ m. m - c.args.at) c.len.ensures ∙ sym (length-drop c.args.at c.args.self.now) in
    let o : c.read-block.result ≡ block_of bs = c.read-block.ensures ∙ ap block_of (c.as_slice.ensures.value ∙ c.head-head.ensures) ∙ block_of_head bs in
    c.with_room.ensures ∙ ap (λ m. with_room m c.read-block.result) n ∙ ap (with_room (length bs)) o
