-- Each script that an input spells keeps its budgets and its frames throughout, and its controller keeps to Lent blocks.
use Rattle.std.proofs.Common.{ℕ, List, Option}
use Rattle.script_fits.proofs.Texts.{spelled_fits}
use Rattle.bus_world.specs.BudgetsAtWork.{AdmitsAtWork}
use Rattle.bus_world.proofs.BudgetedAtWork.{scripts_admit_at_work}
use Rattle.claims_world.specs.Lent.{KeepsToLentThroughout}
use Rattle.law_reports.proofs.HandedOn.{each_moment_keeps_to_lent_blocks, each_moment_owns_its_blocks, script_scheduled}
use Rattle.claims_world.specs.Owned.{OwnsItsBlocksThroughout}
use Rattle.claims_world.specs.Schedule.{KeepsScheduleThroughout}
use Rattle.app_forms.specs.Scripts.{OfEachScript, OfEachPlainScript}
use Rattle.ehci_cli.proofs.Each.{of_each, of_each_plain}

pub source_admits : (words : List (List ℕ)) (left : Option (List ℕ)) → OfEachScript AdmitsAtWork words left
source_admits = of_each AdmitsAtWork (λ text s spelled. scripts_admit_at_work s (spelled_fits text s spelled))

pub source_keeps_to_lent : (words : List (List ℕ)) (left : Option (List ℕ)) → OfEachPlainScript KeepsToLentThroughout words left
source_keeps_to_lent = of_each_plain KeepsToLentThroughout (λ text s spelled. each_moment_keeps_to_lent_blocks s (spelled_fits text s spelled))

pub source_owns : (words : List (List ℕ)) (left : Option (List ℕ)) → OfEachPlainScript OwnsItsBlocksThroughout words left
source_owns = of_each_plain OwnsItsBlocksThroughout (λ text s spelled. each_moment_owns_its_blocks s (spelled_fits text s spelled))

pub source_keeps_schedule : (words : List (List ℕ)) (left : Option (List ℕ)) → OfEachPlainScript KeepsScheduleThroughout words left
source_keeps_schedule = of_each_plain KeepsScheduleThroughout (λ text s spelled. script_scheduled s (spelled_fits text s spelled))
