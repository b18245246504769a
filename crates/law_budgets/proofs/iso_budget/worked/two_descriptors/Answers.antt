use Rattle.std.proofs.Common.{ap, arith}
use Rattle.drv_chains.specs.declared.members.Descriptor.{Descriptor}
use Rattle.law_budgets.proofs.iso_budget.worked.two_descriptors.Goals as goal

pub returns : goal.returns
returns c = (((λ e. let x = ap (λ (k : Descriptor). k.id) e in omega (arith, x)), tt), (tt, tt))
