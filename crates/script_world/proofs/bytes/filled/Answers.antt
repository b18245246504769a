use Rattle.std.proofs.Common.{◌≡◌, ◌+◌, ◌-◌, ◌%◌, [], ◌∷◌, ◌++◌, map, arith, ap, ◌∙◌}
use Rattle.std.specs.List.{range_with_len}
use Rattle.script_world.specs.Draft.{filled}
use Rattle.script_world.proofs.Fills.{range_more, put_one}
use Rattle.script_world.proofs.bytes.filled.Goals as goal

pub loop-i-preserved : goal.loop-i-preserved
loop-i-preserved c =
    let n = c.args.len in
    let i = c.loop-i.i in
    let same : (c.args.seed % 256 + i % 256) % 256 ≡ (c.args.seed + i) % 256 = omega arith in
    put_one c.loop-i.bytes.items c.push.new.items.items (map (λ k. (c.args.seed + k) % 256) (range_with_len i (n - i))) (map (λ k. (c.args.seed + k) % 256) (range_with_len (i + 1) (n - (i + 1)))) (filled n c.args.seed) ((c.args.seed + i) % 256)
    (c.in_ok-push.ensures ∙ ap (λ x. c.loop-i.bytes.items ++ x ∷ []) same)
    (ap (map (λ k. (c.args.seed + k) % 256)) (range_more i n (omega arith)))
    c.loop-i.invariant
