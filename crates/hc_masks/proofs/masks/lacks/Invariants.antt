use Rattle.std.proofs.Common.{◌≡◌}
use Rattle.hc_masks.specs.Masks.{lacks}
use Rattle.hc_masks.proofs.masks.lacks.Given as goal

abbrev pub invariant-loop-earlier : goal.invariant-loop-earlier
invariant-loop-earlier l = l.open ≡ lacks l.mask l.done l.earlier
