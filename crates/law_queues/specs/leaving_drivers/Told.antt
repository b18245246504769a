-- What the report tells of an endpoint that was given back stays as it was: no later line is its own (EHCI 1.0, 4.8.2; USB 2.0, 8.6).
--     told_to d name            the bytes that the report tells of the endpoint of this name, up to its end
--     AreNamedOnce d            the bytes of each line are stored, and no two endpoints have one name
--     IsGoneIn d i z bytes      endpoint i, which was opened as z was, is given back in d, and these bytes are told of it
--     EventsLeaveTold, EventsOnlyTell, CommandsLeaveTold, CommandsOnlyTell, RefusalsTellNothing     the laws
use Rattle.std.specs.Prelude.{◌≡◌, ◌≢◌, ℕ, true, List, [], ◌∷◌, ◌++◌, length, slice_get, Some, Ok}
use Rattle.usb_base.specs.declared.endpoints.EpName.{EpName}
use Rattle.usb_base.specs.declared.commands.Cmd.{Cmd}
use Rattle.usb_base.specs.declared.reports.Report.{Report}
use Rattle.word_mem.specs.Memory.{Mem}
use Rattle.report_text.specs.ReportText.{AreStored}
use Rattle.bus_wire.specs.Fates.{is_same_name}
use Rattle.claims_report.specs.Reports.{is_refusal}
use Rattle.claims_report.specs.Streams.{told_in}
use Rattle.law_queues.specs.told_endpoints.Telling.{Named, named_in, lines_in}
use Rattle.drv_table.specs.declared.content.Endpoint.{Endpoint}
use Rattle.drv_table.specs.declared.rows.DriverRow.TheVariants as rows
use Rattle.drv_table.specs.DriverContent.{DriverContent}
use Rattle.drv_table.specs.Accepting.{Offered}
use Rattle.drv_table.specs.Offers.{offered}
use Rattle.drv_table.specs.Parts.{Parts}
use Rattle.drv_table.specs.Rows.{driver_row, after_driver_row}
use Rattle.claims_driver.specs.Leaving.{HasOwners}
use Rattle.law_driver.specs.AsynchronousScripts.{OpensAsynchronous}
use Rattle.law_driver.specs.chained_transfers.AsynchronousTurns.{AsynchronousTakesTurns}

abbrev pub told_to : DriverContent → EpName → List ℕ
told_to d name = told_in d.store (lines_in name d.reports)

pub record AreNamedOnce (d : DriverContent) : Type 0 where
  pub stored : AreStored d.reports (length d.store)
  pub apart : (e k : ℕ) (x y : Named) → named_in d.endpoints e ≡ Some x → named_in d.endpoints k ≡ Some y → is_same_name x.name y.name ≡ true → e ≡ k

pub record IsGoneIn (d : DriverContent) (i : ℕ) (z : Endpoint) (bytes : List ℕ) : Type 0 where
  pub endpoint : Endpoint
  pub here : slice_get d.endpoints i ≡ Some endpoint
  pub gone : endpoint.gone ≡ true
  pub desc : endpoint.desc ≡ z.desc
  pub told : told_to d endpoint.desc.name ≡ bytes

-- ---- events

-- what was given back stays so, with what was told of it
abbrev pub EventsLeaveTold : Type 0
EventsLeaveTold = (p : Parts) → HasOwners p.driver → AsynchronousTakesTurns p.driver → AreNamedOnce p.driver → (i : ℕ) (x : Endpoint) → slice_get p.driver.endpoints i ≡ Some x → x.gone ≡ true
    → IsGoneIn (after_driver_row (driver_row p) p).driver i x (told_to p.driver x.desc.name)

-- .. and what is given back was so before, but for the one that the event gives back
abbrev pub EventsOnlyTell : Type 0
EventsOnlyTell = (p : Parts) → HasOwners p.driver → AsynchronousTakesTurns p.driver → AreNamedOnce p.driver → (i : ℕ) (z : Endpoint) → slice_get (after_driver_row (driver_row p) p).driver.endpoints i ≡ Some z
    → z.gone ≡ true → driver_row p ≢ rows.ReleaseEndpoint i → IsGoneIn p.driver i z (told_to (after_driver_row (driver_row p) p).driver z.desc.name)

-- ---- commands

abbrev pub CommandsLeaveTold : Type 0
CommandsLeaveTold = (d : DriverContent) (m : Mem) (cmd : Cmd) (o : Offered) → AsynchronousTakesTurns d → OpensAsynchronous cmd → offered d m cmd ≡ Ok o
    → (i : ℕ) (x : Endpoint) → slice_get d.endpoints i ≡ Some x → x.gone ≡ true → IsGoneIn o.driver i x (told_to d x.desc.name)

abbrev pub CommandsOnlyTell : Type 0
CommandsOnlyTell = (d : DriverContent) (m : Mem) (cmd : Cmd) (o : Offered) → AsynchronousTakesTurns d → OpensAsynchronous cmd → offered d m cmd ≡ Ok o
    → (i : ℕ) (z : Endpoint) → slice_get o.driver.endpoints i ≡ Some z → z.gone ≡ true → IsGoneIn d i z (told_to o.driver z.desc.name)

-- the line of a command that is refused tells of no endpoint
abbrev pub RefusalsTellNothing : Type 0
RefusalsTellNothing = (d f : DriverContent) (line : Report) → is_refusal line.what ≡ true → f.reports ≡ d.reports ++ line ∷ [] → f.store ≡ d.store → (name : EpName) → told_to f name ≡ told_to d name
