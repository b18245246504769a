-- In a run each line that the driver writes leaves one transfer less of its endpoint without a line, and the line of a cancel leaves none;
-- after it `pending` tells how many are left (EHCI 1.0, 4.8.2 and 4.10; USB 2.0, 8.5.3).
--     without_line d e        how many transfers of endpoint e have no line
--     IsOf d e line           the line is of endpoint e
--     IsFewer d new e lines   one less for each of these lines, which are of transfers; or none is left where one tells the cancel, and the
--                             endpoint is given back
--     IsCountedDown d new     an event between these wrote lines of one endpoint, and left so many less; and of each other as many
--     TellsAllPending ..      `pending` is told just of each endpoint that hasn't ended and has transfers without a line, with their number
--     AddsUp d                of each endpoint of which no line tells a cancel, each accepted transfer has one line, or none yet
--     PendingIsCounted s      so it is counted at each event of the driver in the run of a script, adds up at each moment, and is told
--                             after it
use Rattle.std.specs.List.{AllByRecursion, list_any}
use Rattle.std.specs.Prelude.{◌≡◌, ◌≢◌, ℕ, suc, ◌+◌, ◌≤◌, Bool, true, false, ◌&&◌, ◌==◌, nat_eq, List, [], ◌∷◌, ◌++◌, length, count_by}
use Rattle.std.specs.Prelude.{slice_get, Some, None}
use Rattle.usb_base.specs.declared.endpoints.EpName.{EpName}
use Rattle.usb_base.specs.declared.reports.Report.{Report}
use Rattle.usb_base.specs.declared.reports.What.{What}
use Rattle.usb_base.specs.declared.reports.What.TheVariants.{Done, Miss, Halt, Iso, Cancel}
use Rattle.script_types.specs.declared.scripts.Script.{Script}
use Rattle.drv_table.specs.declared.content.Endpoint.{Endpoint}
use Rattle.drv_table.specs.DriverContent.{DriverContent, waits_for, endpoint_of, ended}
use Rattle.bus_wire.specs.declared.seats.Seat.{Seat}
use Rattle.bus_wire.specs.Bus.{Fixed}
use Rattle.bus_wire.specs.Fates.{is_same_name}
use Rattle.bus_world.specs.Budgets.{moment}
use Rattle.bus_world.specs.Runs.{IsWholeRunOf}
use Rattle.bus_world.specs.World.{World, Standing}
use Rattle.claims_report.specs.Reports.{Closing, Pending}
use Rattle.claims_world.specs.Releases.{is_drivers}
use Rattle.claims_world.specs.Streams.{closings_of}

abbrev pub without_line : DriverContent → ℕ → ℕ
without_line d e = count_by (waits_for e) d.transfers

pub record IsOf (d : DriverContent) (e : ℕ) (line : Report) : Type 0 where
  pub endpoint : Endpoint
  pub here : slice_get d.endpoints e ≡ Some endpoint
  pub name : line.name ≡ endpoint.desc.name

-- a line of a transfer, and not of a refusal, a cancel, a clear, a port or a disk
abbrev pub is_of_transfer : What → Bool
is_of_transfer Done = true
is_of_transfer Miss = true
is_of_transfer (Halt cause) = true
is_of_transfer (Iso errors) = true
is_of_transfer _ = false

abbrev pub IsGivenBack : DriverContent → ℕ → Type 0
IsGivenBack d e = (x : Endpoint) → slice_get d.endpoints e ≡ Some x → x.gone ≡ true

pub data IsFewer (d new : DriverContent) (e : ℕ) (lines : List Report) : Type 0 where
  one_each : without_line new e + length lines ≡ without_line d e
      → AllByRecursion (λ line. is_of_transfer line.what ≡ true) lines → IsFewer d new e lines
  cancelled : (line : Report) → lines ≡ line ∷ [] → line.what ≡ Cancel → without_line new e ≡ 0 → IsGivenBack new e
      → IsFewer d new e lines

pub record IsCountedDown (d new : DriverContent) : Type 0 where
  pub number : ℕ
  pub lines : List Report
  pub are : new.reports ≡ d.reports ++ lines
  pub of : AllByRecursion (IsOf d number) lines
  pub fewer : IsFewer d new number lines
  pub others : (e : ℕ) → number ≢ e → without_line new e ≡ without_line d e

-- so many transfers of the endpoint with this name have no line, one at least, and it hasn't ended
pub record IsPendingNow (d : DriverContent) (name : EpName) (n : ℕ) : Type 0 where
  pub number : ℕ
  pub named : endpoint_of d name ≡ Some number
  pub going : ended d name ≡ None
  pub many : n ≡ without_line d number
  pub some : 1 ≤ n

abbrev pub TellsPending : DriverContent → Closing → Type 0
TellsPending d (Pending name n) = IsPendingNow d name n
TellsPending d _ = Unit {0}

abbrev pub is_told_pending : EpName → ℕ → Closing → Bool
is_told_pending name n (Pending of k) = is_same_name of name && nat_eq k n
is_told_pending name n _ = false

pub record TellsAllPending (fixed : Fixed) (w : World) : Type 0 where
  pub each : AllByRecursion (TellsPending w.driver) (closings_of fixed w)
  pub all : (i n : ℕ) (seat : Seat) → slice_get fixed.seats i ≡ Some seat → IsPendingNow w.driver seat.name n
      → list_any (is_told_pending seat.name n) (closings_of fixed w) ≡ true

-- ---- what was accepted

abbrev pub is_cancel : What → Bool
is_cancel Cancel = true
is_cancel _ = false

-- a line of the endpoint of this name, of a transfer or of its cancel
abbrev pub tells_of : EpName → Report → Bool
tells_of name line = is_same_name line.name name && is_of_transfer line.what

abbrev pub cancels_of : EpName → Report → Bool
cancels_of name line = is_same_name line.name name && is_cancel line.what

abbrev pub accepted_for : DriverContent → ℕ → ℕ
accepted_for d e = count_by (λ y. y.endpoint == e) d.transfers

abbrev pub AddsUp : DriverContent → Type 0
AddsUp d = (e : ℕ) (x : Endpoint) → slice_get d.endpoints e ≡ Some x → list_any (cancels_of x.desc.name) d.reports ≡ false
    → count_by (tells_of x.desc.name) d.reports + without_line d e ≡ accepted_for d e

pub record PendingIsCounted (s : Script) : Type 0 where
  pub adds_up : (k : ℕ) → AddsUp (moment s k).world.driver
  pub counted : (k : ℕ) → is_drivers (moment s k).orders ≡ true → IsCountedDown (moment s k).world.driver (moment s (suc k)).world.driver
  pub told : (w : Standing) → IsWholeRunOf s w → TellsAllPending w.fixed w.world
