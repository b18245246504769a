-- The report after a script's run is that of the moment with no order left.
use Rattle.std.proofs.Common.{◌≡◌, ℕ, [], ap, sym, subst, refl}
use Rattle.script_types.specs.declared.scripts.Script.{Script}
use Rattle.bus_wire.specs.Bus.{fixed_of}
use Rattle.bus_world.specs.Budgets.{moment}
use Rattle.bus_world.specs.Opening.{opening_world}
use Rattle.bus_world.specs.Orders.{OrderedWorld, Leads, at_place, orders_of}
use Rattle.bus_world.specs.Runs.{IsWholeRunOf}
use Rattle.bus_world.specs.World.{Standing}
use Rattle.claims_report.specs.Reports.{WholeReport}
use Rattle.claims_world.specs.Streams.{report_of}
use Rattle.claims_world.specs.HighStreams.{AreHighInStreams, AreHighTakenStreams, KeepsHighThroughout, KeepsHighStreams}
use Rattle.law_world.proofs.lemmas.streams.lemmas.right_reports.Printed.{report_is_printed}
use Rattle.law_reports.specs.pipes.high_streams.Keeping.{TextsKeepHighStreams}
use Rattle.law_reports.proofs.lemmas.pipes.lemmas.high_streams.Joining.{texts_keep_high}

-- what is so of the report of each moment is so of that after the run
module _ (so : WholeReport → Type 0) where
  pub after_run : (s : Script) → ((k : ℕ) → so (report_of (fixed_of s) (moment s k).world)) → (w : Standing) → IsWholeRunOf s w
      → so (report_of w.fixed w.world)
  after_run s each w ran =
      let led = subst (λ f. Leads f (at_place (opening_world s) (orders_of s.lines)) (at_place w.world [])) refl ran.led in
      subst (λ f. so (report_of f w.world)) (sym ran.fixed)
      (subst (λ v. so (report_of (fixed_of s) v)) (ap (λ (p : OrderedWorld). p.world) led.there) (each led.count))

-- .. and so is what is so of that with no order left
module _ (so : WholeReport → Type 0) where
  pub at_end : (s : Script) → ((k : ℕ) → (moment s k).orders ≡ [] → so (report_of (fixed_of s) (moment s k).world)) → (w : Standing)
      → IsWholeRunOf s w → so (report_of w.fixed w.world)
  at_end s each w ran =
      let led = subst (λ f. Leads f (at_place (opening_world s) (orders_of s.lines)) (at_place w.world [])) refl ran.led in
      subst (λ f. so (report_of f w.world)) (sym ran.fixed)
      (subst (λ v. so (report_of (fixed_of s) v)) (ap (λ (p : OrderedWorld). p.world) led.there)
      (each led.count (ap (λ (p : OrderedWorld). p.orders) led.there)))

pub keeps_after : (s : Script) → KeepsHighThroughout s → KeepsHighStreams s
keeps_after s k = record {
  throughout = k;
  ins = after_run (AreHighInStreams s) s k.ins;
  taken = after_run (AreHighTakenStreams s) s k.taken;
  printed = λ w. report_is_printed w.fixed w.world;
}

pub texts_keep_high_streams : TextsKeepHighStreams
texts_keep_high_streams text s spelled = keeps_after s (texts_keep_high text s spelled)
