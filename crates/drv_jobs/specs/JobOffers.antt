-- What becomes of any command (EHCI 1.0, 4.8 and 4.10; USB 2.0, 9.4.5): while a job is under way it is refused, and with none it is as
-- `offered` says, but for a clear.
--     offered_any w m cmd         the refusal, or driver and memory afterwards. That of a clear is the first of these that there is: busy,
--                                 no endpoint, closed by a cancel, not ended, hub closed, no blocks
--     IsOfferedAny room cmd       what the caller sees to: a clear may take a transfer, and its line beside that
use Rattle.std.specs.Prelude.{ℕ, Bool, true, false, ◌||◌, nat_lt, ◌≤◌, [], length, Option, Some, None, is_some, unwrap_or, Result, Ok, Err, if◌then◌else◌}
use Rattle.usb_base.specs.declared.endpoints.EndCause.{EndCause}
use Rattle.usb_base.specs.declared.endpoints.EndCause.TheVariants as causes
use Rattle.usb_base.specs.declared.endpoints.EpName.{EpName}
use Rattle.usb_base.specs.declared.packets.EpKind.{EpKind}
use Rattle.usb_base.specs.declared.packets.EpKind.TheVariants as kinds
use Rattle.usb_base.specs.declared.commands.Cmd.{Cmd}
use Rattle.usb_base.specs.declared.commands.Cmd.TheVariants as commands
use Rattle.usb_base.specs.declared.reports.OfferError.{OfferError}
use Rattle.usb_base.specs.declared.reports.OfferError.TheVariants as errors
use Rattle.word_mem.specs.Memory.{Mem}
use Rattle.drv_chains.specs.declared.boundary.Boundary.TheVariants.{Unread}
use Rattle.drv_table.specs.declared.content.Endpoint.{Endpoint}
use Rattle.drv_table.specs.declared.content.Reserve.{Reserve}
use Rattle.drv_table.specs.DriverContent.{DriverContent, busy, endpoint_of, endpoint_named, pending_of}
use Rattle.drv_table.specs.Kinds.{is_iso}
use Rattle.drv_table.specs.Accepting.{Offered}
use Rattle.drv_table.specs.Offers.{offered_next, IsOffered}
use Rattle.drv_table.specs.Words.{is_high}
use Rattle.drv_jobs.specs.declared.jobs.Job.{Job}
use Rattle.drv_jobs.specs.declared.jobs.Job.TheVariants as jobs
use Rattle.drv_jobs.specs.AtWork.{DriverAtWork}
use Rattle.drv_jobs.specs.HubRequests.{hub_zero, clear_setup}

-- an accepted command
pub record OfferedAny : Type 0 where
  pub driver : DriverAtWork
  pub memory : Mem

-- one that the driver takes, and no job
abbrev pub without_job : Result Offered OfferError → Result OfferedAny OfferError
without_job (Ok o) = Ok (record { driver = record { driver = o.driver; job = None }; memory = o.memory })
without_job (Err why) = Err why

-- the job of a clear that asks no hub
abbrev pub begins : DriverContent → Mem → Job → Result OfferedAny OfferError
begins d m job = Ok (record { driver = record { driver = d; job = Some job }; memory = m })

-- the request to the hub was taken, or runs weren't found for it
abbrev pub asked_by : ℕ → ℕ → Result Offered OfferError → Result OfferedAny OfferError
asked_by e t (Ok o) = Ok (record { driver = record { driver = o.driver; job = Some (jobs.Asks e t) }; memory = o.memory })
asked_by e t (Err why) = Err why

-- the hub's endpoint 0 isn't open, has ended, or has a request without a line
abbrev pub is_shut : DriverContent → Option Endpoint → Option ℕ → Bool
is_shut d None h = true
is_shut d (Some y) h = is_some y.ended || nat_lt 0 (pending_of d h)

-- the hub is asked to empty the buffer of endpoint x (USB 2.0, 11.17.5)
abbrev pub asked_hub : DriverContent → Mem → ℕ → Endpoint → Result OfferedAny OfferError
asked_hub d m e x =
    let name : EpName = hub_zero x.desc in
    if is_shut d (endpoint_named d name) (endpoint_of d name) then Err errors.HubClosed
    else asked_by e (length d.transfers) (offered_next d m (commands.Control name (clear_setup x.desc) []))

-- the first stage of a clear: an endpoint at high speed is reset at once; behind a hub the translator first forgets it
abbrev pub begun_by : DriverContent → Mem → ℕ → Endpoint → Bool → EpKind → Result OfferedAny OfferError
begun_by d m e x true kind = begins d m (jobs.Resets e)
begun_by d m e x false kinds.Interrupt = begins d m (jobs.Reads e Unread)
begun_by d m e x false kind = asked_hub d m e x

abbrev pub cleared_by : DriverContent → Mem → ℕ → Endpoint → Option EndCause → Result OfferedAny OfferError
cleared_by d m e x None = Err errors.NotEnded
cleared_by d m e x (Some cause) = begun_by d m e x (is_high x.desc.speed) x.desc.kind

abbrev pub offered_clear : DriverContent → Mem → ℕ → Option Endpoint → Result OfferedAny OfferError
offered_clear d m e None = Err errors.NoEndpoint
offered_clear d m e (Some x) =
    if is_iso x.desc.kind then Err errors.NoEndpoint
    else if x.cancelled then Err (errors.Closed causes.Cancel)
    else cleared_by d m e x x.ended

abbrev pub offered_whole : DriverContent → Mem → Cmd → Result OfferedAny OfferError
offered_whole d m (commands.Clear name) = offered_clear d m (unwrap_or (endpoint_of d name) 0) (endpoint_named d name)
offered_whole d m cmd = without_job (offered_next d m cmd)

-- a command or a job is under way
abbrev pub busy_any : DriverAtWork → Bool
busy_any w = busy w.driver || is_some w.job

abbrev pub offered_any : DriverAtWork → Mem → Cmd → Result OfferedAny OfferError
offered_any w m cmd = if busy_any w then Err errors.Busy else offered_whole w.driver m cmd

abbrev pub IsOfferedAny : Reserve → Cmd → Type 0
IsOfferedAny room (commands.Clear name) = (1 ≤ room.transfers) × (2 ≤ room.reports)
IsOfferedAny room cmd = IsOffered room cmd
