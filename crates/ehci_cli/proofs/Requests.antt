-- The requests of control endpoints at high speed stand as they must at each moment of the run of a script.
use Rattle.std.proofs.Common.{ℕ, List, Option}
use Rattle.claims_world.specs.Requests.{KeepsRequests}
use Rattle.law_reports.proofs.lemmas.requests.Kept.{texts_keep_requests}
use Rattle.app_forms.specs.Scripts.{OfEachPlainScript}
use Rattle.ehci_cli.proofs.Each.{of_each_plain}

pub source_keeps_requests : (words : List (List ℕ)) (left : Option (List ℕ)) → OfEachPlainScript KeepsRequests words left
source_keeps_requests = of_each_plain KeepsRequests texts_keep_requests
