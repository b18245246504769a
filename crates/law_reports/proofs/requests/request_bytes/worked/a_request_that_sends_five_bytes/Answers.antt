use Rattle.std.proofs.Common.{refl}
use Rattle.drv_table.specs.Harvests.{buffer_bytes}
use Rattle.law_reports.proofs.requests.request_bytes.worked.a_request_that_sends_five_bytes.Goals as goal

pub returns-clause-is : goal.returns-clause-is
returns-clause-is c = record { setup = refl; bytes = λ out. refl }

pub returns-clause-stages : goal.returns-clause-stages
returns-clause-stages c = refl

pub returns-clause-places : goal.returns-clause-places
returns-clause-places c = refl

pub returns-clause-held : goal.returns-clause-held
unfolding buffer_bytes
returns-clause-held c = record { setup = refl; sent = λ some out. refl }
