use Rattle.std.proofs.Common.{◌≡◌, ◌+◌, ◌-◌, ◌++◌, ◌∙◌, true, length, drop, ap, sym, arith, length-drop, length-append}
use Rattle.std.proofs.lemmas.Bool.{and_parts}
use Rattle.bulk_only.specs.Commands.{could_go_on, rest_of}
use Rattle.bulk_only.proofs.Parsing.{rest_is_short}
use Rattle.bulk_only.proofs.disk.Disk.take.Goals as goal

pub keep_from-requires-clause-room : goal.keep_from-requires-clause-room
keep_from-requires-clause-room c =
    let all = c.of-all.result in
    let at = c.obey_all-at.result in
    let goes : could_go_on all ≡ true = (and_parts (could_go_on all) _ (sym c.if-not-can_obey.ensures)).0 in
    let short = rest_is_short all goes in
    let rest : length (drop at all) ≡ length (rest_of all) = ap length c.obey_all-at.ensures.rest in
    let left : length (drop at all) ≡ length all - at = length-drop at all in
    let size : length all ≡ length c.self.inside.begun.items + length c.args.bytes.now
    = ap length (c.of-all.ensures ∙ ap (λ t. t ++ c.args.bytes.now) c.as_slice.ensures.value)
    ∙ length-append c.self.inside.begun.items c.args.bytes.now in
    omega (arith, short, rest, left, size, c.self.invariant)
