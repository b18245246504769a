use Rattle.std.proofs.Common.{rules, ◌≡◌, ◌+◌, ◌/◌, [], length, replicate, ap, ◌∙◌, arith}
use Rattle.std.proofs.lemmas.List.{length-replicate}
use Rattle.drv_endpoints.proofs.Workers.{no_work}
use Rattle.drv_endpoints.proofs.endpoints.Endpoints.build.Goals as goal

pub invariant_of-result : goal.invariant_of-result
invariant_of-result c =
    let zeros : c.in_ok-working.working.items ≡ replicate (c.capacity.result / 64 + 1) 0 = search rules in
    let none : c.in_ok-all.all.items ≡ [] = c.in_ok-all.ensures.items in
    let long : length c.in_ok-working.working.items ≡ c.capacity.result / 64 + 1 = ap length zeros ∙ length-replicate (c.capacity.result / 64 + 1) 0 in
    (rw (none, zeros) (no_work (c.capacity.result / 64 + 1)), rw none (omega arith), omega (arith, long, c.capacity.ensures), omega (arith, long, c.capacity.ensures))
