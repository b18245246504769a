-- Lemmas that several files need.
use Rattle.std.proofs.Common.{Bool, ◌≡◌, true, refl, false, Option, List, ℕ, None, Some, ap, take, []}
use Rattle.dev_control.specs.Stages.{sequence_of, wanted_of}
use Rattle.dev_control.specs.declared.rows.Sequence.TheVariants.{Next}
use Rattle.claims_report.specs.Requests.{Request, read_with}
use Rattle.toggle_error.specs.Columns.{expected_pid}

pub expected_next : (turn : Bool) → sequence_of turn (expected_pid turn) ≡ Next
expected_next true = refl
expected_next false = refl

pub nothing_sent : (r : Request) (known : Option (List ℕ)) → wanted_of r.setup ≡ 0 → read_with r.setup known ≡ []
nothing_sent r None h = refl
nothing_sent r (Some reply) h = ap (λ n. take n reply) h
