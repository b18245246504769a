-- Which events are left out, and what is told of the others.
use Rattle.std.specs.Prelude.{ℕ, Bool, true, false, not, ◌&&◌, nat_le, List, [], Option, Some, None, if◌then◌else◌}
use Rattle.std.specs.List.{list_any}
use Rattle.usb_base.specs.declared.endpoints.EpName.{EpName}
use Rattle.bus_wire.specs.Fates.{is_same_name}
use Rattle.hc_core.specs.declared.controller.HcStep.{HcStep}
use Rattle.hc_core.specs.declared.controller.HcStep.TheVariants as steps
use Rattle.drv_table.specs.declared.rows.DriverRow.{DriverRow}
use Rattle.drv_table.specs.declared.rows.DriverRow.TheVariants as rows
use Rattle.drv_table.specs.declared.rows.Found.{Found}
use Rattle.drv_table.specs.declared.rows.Found.TheVariants as founds
use Rattle.drv_jobs.specs.declared.jobs.JobRow.{JobRow}
use Rattle.drv_jobs.specs.declared.jobs.JobRow.TheVariants as works
use Rattle.bus_packets.specs.declared.exchanges.Exchange.{Exchange}
use Rattle.app_trace_lines.specs.declared.entries.Entry.{Entry}
use Rattle.app_trace_lines.specs.declared.entries.Work.{Work}
use Rattle.app_trace_lines.specs.declared.entries.Happening.{Happening}
use Rattle.app_trace_lines.specs.declared.entries.Happening.TheVariants.{Began, Controller, Driver, Offered}
use Rattle.app_trace_lines.specs.Lines.{entry_line}
use Rattle.bus_capture.specs.Capture.{file_header}
use Rattle.app_trace.specs.declared.choice.Choice.{Choice}
use Rattle.app_trace.specs.declared.choice.Form.{Form}
use Rattle.app_trace.specs.declared.choice.Form.TheVariants.{Lines, Capture, Schedule}
use Rattle.app_trace.specs.Captured.{entry_packets}
use Rattle.app_trace.specs.Watched.{Told}

-- an event of the controller that moves nothing
abbrev pub is_idle : HcStep → Bool
is_idle steps.Begin = true
is_idle steps.Fetch = true
is_idle steps.Advance = false
is_idle steps.Transact = false
is_idle steps.WriteBack = false
is_idle steps.Skip = true
is_idle steps.End = true
is_idle steps.Idle = true

-- the token tells that its qTD isn't done
abbrev pub is_active : Found → Bool
is_active founds.Active = true
is_active (founds.Moved n) = false
is_active (founds.Ended n what) = false
is_active (founds.Served errors) = false

-- an event of the driver that neither hands blocks over nor finds anything done: a store, an access of a register, the read of an active
-- token
abbrev pub is_rest : DriverRow → Bool
is_rest rows.Lend = false
is_rest (rows.Store b at v) = true
is_rest (rows.Mend w) = true
is_rest rows.Frames = true
is_rest rows.LendDescriptors = false
is_rest (rows.Unlink t) = true
is_rest (rows.ReleaseRemoved what) = false
is_rest (rows.ReleaseTransfer t) = false
is_rest (rows.ReleaseEndpoint e) = false
is_rest rows.ClearAdvance = true
is_rest rows.RingBell = true
is_rest (rows.ReadStatus heard) = true
is_rest (rows.ReadFrame n) = true
is_rest (rows.Harvest e t found) = is_active found
is_rest rows.Rest = true

-- .. with its job: the reset of an endpoint is told, and the end of a clear
abbrev pub is_still : JobRow → Bool
is_still (works.Plain row) = is_rest row
is_still (works.EndsRequest h t n what) = false
is_still (works.ReadsFrame n) = true
is_still (works.Resets name) = false
is_still (works.Mends w) = true
is_still (works.Reopens e) = false

-- it is left out where only what moves something is wanted
abbrev pub is_quiet : Happening → List Work → Bool
is_quiet (Began allowed) [] = allowed
is_quiet (Began allowed) works = false
is_quiet (Controller step at exchange price left) works = is_idle step
is_quiet (Driver row stored) works = is_still row
is_quiet (Offered line refused) works = false

abbrev pub is_exchange_of : EpName → Option Exchange → Bool
is_exchange_of name None = false
is_exchange_of name (Some x) = is_same_name x.told.asked.name name

-- work of this endpoint
unfoldable pub is_work_of : EpName → Work → Bool
is_work_of name w = is_same_name w.name name

-- a transaction of this endpoint, or a Begin after which there is work of it below
abbrev pub is_about : EpName → Happening → List Work → Bool
is_about name (Began allowed) works = list_any (is_work_of name) works
is_about name (Controller step at exchange price left) works = is_exchange_of name exchange
is_about name (Driver row stored) works = false
is_about name (Offered line refused) works = false

abbrev pub is_wanted : Option EpName → Happening → List Work → Bool
is_wanted None h works = true
is_wanted (Some name) h works = is_about name h works

abbrev pub is_chosen : Choice → Entry → List Work → Bool
is_chosen c e works =
    nat_le c.from e.microframe && (nat_le e.microframe c.to
    && (is_wanted c.endpoint e.happening works && not (c.quiet && is_quiet e.happening works)))

-- what is told of it: a line, its packets, or nothing
abbrev pub told_as : Form → Told → List ℕ
told_as Lines t = entry_line t.entry t.works t.passed
told_as Capture t = entry_packets t.entry t.passed t.sent t.got
told_as Schedule t = []

-- the same, if it isn't left out
abbrev pub chosen_line : Choice → Told → List ℕ
chosen_line c t = if is_chosen c t.entry t.works then told_as c.form t else []

-- what stands before it all
abbrev pub head_of : Form → List ℕ
head_of Lines = []
head_of Capture = file_header
head_of Schedule = []
