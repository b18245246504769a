-- The report after a script's run is that of the moment with no order left.
use Rattle.std.proofs.Common.{◌≡◌, ℕ, List, [], Option, ap, sym, subst, refl}
use Rattle.script_types.specs.declared.scripts.Script.{Script}
use Rattle.claims_world.specs.Streams.{report_of}
use Rattle.claims_report.specs.Reports.{WholeReport}
use Rattle.bus_wire.specs.Bus.{fixed_of}
use Rattle.bus_world.specs.World.{Standing}
use Rattle.bus_world.specs.Opening.{opening_world}
use Rattle.bus_world.specs.Orders.{OrderedWorld, Leads, at_place, orders_of}
use Rattle.bus_world.specs.Budgets.{moment}
use Rattle.claims_world.specs.BelowStreams.{KeepsStreams}
use Rattle.law_reports.proofs.lemmas.pipes.lemmas.below_hubs.BelowKept.{texts_keep_streams}
use Rattle.bus_world.specs.Runs.{IsWholeRunOf}
use Rattle.claims_world.specs.Misses.{MissesAreBelowThroughout}
use Rattle.claims_world.specs.Quiet.{KeepsErrors}
use Rattle.claims_world.specs.Ends.{IsEndedOnce, EndsOnceThroughout, EndsOnce}
use Rattle.app_forms.specs.Scripts.{OfEachPlainScript}
use Rattle.ehci_cli.proofs.Each.{of_each_plain}
use Rattle.law_reports.proofs.lemmas.lines.Ended.{texts_end_once}
use Rattle.law_reports.proofs.lemmas.quiet.AwaitedLines.{texts_spare_buffered}
use Rattle.law_reports.proofs.lemmas.quiet.Lines.{texts_miss_below, texts_fail_below}

-- what is so of the report of each moment with no order left is so of that after the run
module _ (so : WholeReport → Type 0) where
  at_end : (s : Script) → ((k : ℕ) → (moment s k).orders ≡ [] → so (report_of (fixed_of s) (moment s k).world)) → (w : Standing) → IsWholeRunOf s w → so (report_of w.fixed w.world)
  at_end s each w ran =
      let led = subst (λ f. Leads f (at_place (opening_world s) (orders_of s.lines)) (at_place w.world [])) refl ran.led in
      subst (λ f. so (report_of f w.world)) (sym ran.fixed)
      (subst (λ v. so (report_of (fixed_of s) v)) (ap (λ (p : OrderedWorld). p.world) led.there) (each led.count (ap (λ (p : OrderedWorld). p.orders) led.there)))

-- no line follows an end, whatever the script opens
ends : (s : Script) → EndsOnceThroughout s → EndsOnce s
ends s k = record { throughout = k; after = λ w ran name other. at_end (λ r. IsEndedOnce r name) s (λ j none. k j name other) w ran }

pub source_ends_once : (words : List (List ℕ)) (left : Option (List ℕ)) → OfEachPlainScript EndsOnce words left
source_ends_once = of_each_plain EndsOnce (λ text s spelled. ends s (texts_end_once text s spelled))

pub source_misses_below : (words : List (List ℕ)) (left : Option (List ℕ)) → OfEachPlainScript MissesAreBelowThroughout words left
source_misses_below = of_each_plain MissesAreBelowThroughout texts_miss_below

pub source_keeps_errors : (words : List (List ℕ)) (left : Option (List ℕ)) → OfEachPlainScript KeepsErrors words left
source_keeps_errors =
    of_each_plain KeepsErrors
    (λ text s spelled. record { above = texts_fail_below text s spelled; below = texts_spare_buffered text s spelled })

pub source_keeps_streams : (words : List (List ℕ)) (left : Option (List ℕ)) → OfEachPlainScript KeepsStreams words left
source_keeps_streams = of_each_plain KeepsStreams texts_keep_streams
