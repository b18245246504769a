-- A command offered to a driver at work uses at most the room that it needs, accepted or refused.
use Rattle.std.proofs.Common.{ℕ, ◌≤◌, Bool, true, false, [], Option, Some, None, Result, Ok, Err, arith}
use Rattle.std.specs.Prelude.{if◌then◌else◌, unwrap_or, length}
use Rattle.usb_base.specs.declared.commands.Cmd.{Cmd}
use Rattle.usb_base.specs.declared.commands.Cmd.TheVariants as commands
use Rattle.usb_base.specs.declared.endpoints.EndCause.{EndCause}
use Rattle.usb_base.specs.declared.endpoints.EndCause.TheVariants as causes
use Rattle.usb_base.specs.declared.endpoints.EpName.{EpName}
use Rattle.usb_base.specs.declared.packets.EpKind.{EpKind}
use Rattle.usb_base.specs.declared.packets.EpKind.TheVariants as kinds
use Rattle.usb_base.specs.declared.reports.OfferError.{OfferError}
use Rattle.usb_base.specs.declared.reports.OfferError.TheVariants as errors
use Rattle.word_mem.specs.Memory.{Mem}
use Rattle.drv_chains.specs.declared.boundary.Boundary.TheVariants.{Unread}
use Rattle.drv_table.specs.declared.content.Endpoint.{Endpoint}
use Rattle.drv_table.specs.declared.content.Reserve.{Reserve}
use Rattle.drv_table.specs.DriverContent.{DriverContent, endpoint_of, endpoint_named}
use Rattle.drv_table.specs.Kinds.{is_iso}
use Rattle.drv_table.specs.Words.{is_high}
use Rattle.drv_table.specs.Accepting.{Offered}
use Rattle.drv_table.specs.Offers.{offered_next}
use Rattle.drv_jobs.specs.declared.jobs.Job.{Job}
use Rattle.drv_jobs.specs.declared.jobs.Job.TheVariants as jobs
use Rattle.drv_jobs.specs.AtWork.{DriverAtWork, free_room, owed_lines}
use Rattle.drv_jobs.specs.HubRequests.{hub_zero, clear_setup}
use Rattle.drv_jobs.specs.JobOffers.{OfferedAny, IsOfferedAny, without_job, begins, asked_by, is_shut, asked_hub, begun_by, cleared_by}
use Rattle.drv_jobs.specs.JobOffers.{offered_clear, offered_whole, busy_any, offered_any}
use Rattle.script_fits.specs.Fits.{IsFitCommand}
use Rattle.bus_world.specs.Rooms.{needs, no_room, transfer_room, with_room, HasRoomFor}
use Rattle.bus_world.specs.AtWork.{WorldAtWork, driver_of, answered_at_work, commanded_at_work}
use Rattle.bus_world.specs.World.{name_in}
use Rattle.bus_world.proofs.Rooming.{Leaves, next_leaves, one_line, can_offer}

-- an accepted command leaves this room, and that of the job's line
abbrev pub LeavesWork : Reserve → Result OfferedAny OfferError → Type 0
LeavesWork r (Ok o) = HasRoomFor (free_room o.driver) r × (owed_lines o.driver.job ≤ o.driver.driver.room.reports)
LeavesWork r (Err why) = Unit {0}

work_if : (r : Reserve) (b : Bool) (x y : Result OfferedAny OfferError) → LeavesWork r x → LeavesWork r y
    → LeavesWork r (if b then x else y)
work_if r true x y h k = h
work_if r false x y h k = k

without_leaves : (r : Reserve) (x : Result Offered OfferError) → Leaves r x → LeavesWork r (without_job x)
without_leaves r (Ok o) h = (
  record {
    endpoints = h.endpoints;
    transfers = h.transfers;
    reports = omega (arith, h.reports);
    report_bytes = h.report_bytes;
  },
  omega arith,
)
without_leaves r (Err why) h = tt

-- ---- clears

abbrev pub HasClearRoom : DriverContent → Reserve → Type 0
HasClearRoom d r = HasRoomFor d.room (with_room (record no_room { transfers = 1; reports = 2 }) r)

begun_leaves : (d : DriverContent) (m : Mem) (job : Job) (r : Reserve) → HasClearRoom d r → LeavesWork r (begins d m job)
begun_leaves d m job r room = (
  record {
    endpoints = omega (arith, room.endpoints);
    transfers = omega (arith, room.transfers);
    reports = omega (arith, room.reports);
    report_bytes = omega (arith, room.report_bytes);
  },
  omega (arith, room.reports),
)

asked_leaves : (e t : ℕ) (r : Reserve) (x : Result Offered OfferError) → Leaves (with_room (record no_room { reports = 1 }) r) x
    → LeavesWork r (asked_by e t x)
asked_leaves e t r (Ok o) h = (
  record {
    endpoints = omega (arith, h.endpoints);
    transfers = omega (arith, h.transfers);
    reports = omega (arith, h.reports);
    report_bytes = omega (arith, h.report_bytes);
  },
  omega (arith, h.reports),
)
asked_leaves e t r (Err why) h = tt

-- what the request needs, and a line beside it
request_room : (d : DriverContent) (r : Reserve) → HasClearRoom d r
    → HasRoomFor d.room (with_room (transfer_room 0) (with_room (record no_room { reports = 1 }) r))
request_room d r room = record {
  endpoints = omega (arith, room.endpoints);
  transfers = omega (arith, room.transfers);
  reports = omega (arith, room.reports);
  report_bytes = omega (arith, room.report_bytes);
}

hub_leaves : (d : DriverContent) (m : Mem) (e : ℕ) (x : Endpoint) (r : Reserve) → HasClearRoom d r → LeavesWork r (asked_hub d m e x)
hub_leaves d m e x r room =
    work_if r (is_shut d (endpoint_named d (hub_zero x.desc)) (endpoint_of d (hub_zero x.desc))) (Err errors.HubClosed)
    (asked_by e (length d.transfers) (offered_next d m (commands.Control (hub_zero x.desc) (clear_setup x.desc) []))) tt
    (asked_leaves e (length d.transfers) r _
    (next_leaves d m (commands.Control (hub_zero x.desc) (clear_setup x.desc) []) (with_room (record no_room { reports = 1 }) r)
    (request_room d r room)))

kind_leaves : (d : DriverContent) (m : Mem) (e : ℕ) (x : Endpoint) (r : Reserve) (high : Bool) (kind : EpKind) → HasClearRoom d r
    → LeavesWork r (begun_by d m e x high kind)
kind_leaves d m e x r true kind room = begun_leaves d m (jobs.Resets e) r room
kind_leaves d m e x r false kinds.Interrupt room = begun_leaves d m (jobs.Reads e Unread) r room
kind_leaves d m e x r false kinds.Control room = hub_leaves d m e x r room
kind_leaves d m e x r false kinds.Bulk room = hub_leaves d m e x r room
kind_leaves d m e x r false kinds.Iso room = hub_leaves d m e x r room

cleared_leaves : (d : DriverContent) (m : Mem) (e : ℕ) (x : Endpoint) (r : Reserve) (cause : Option EndCause) → HasClearRoom d r
    → LeavesWork r (cleared_by d m e x cause)
cleared_leaves d m e x r None room = tt
cleared_leaves d m e x r (Some cause) room = kind_leaves d m e x r (is_high x.desc.speed) x.desc.kind room

pub clear_leaves : (d : DriverContent) (m : Mem) (e : ℕ) (r : Reserve) (x : Option Endpoint) → HasClearRoom d r
    → LeavesWork r (offered_clear d m e x)
clear_leaves d m e r None room = tt
clear_leaves d m e r (Some x) room =
    work_if r (is_iso x.desc.kind) (Err errors.NoEndpoint) _ tt
    (work_if r x.cancelled (Err (errors.Closed causes.Cancel)) _ tt (cleared_leaves d m e x r x.ended room))

-- ---- any command

whole_leaves : (d : DriverContent) (m : Mem) (cmd : Cmd) (r : Reserve) → HasRoomFor d.room (with_room (needs cmd) r)
    → LeavesWork r (offered_whole d m cmd)
whole_leaves d m (commands.Clear name) r room = clear_leaves d m (unwrap_or (endpoint_of d name) 0) r (endpoint_named d name) room
whole_leaves d m (commands.OpenEp x) r room = without_leaves r _ (next_leaves d m (commands.OpenEp x) r room)
whole_leaves d m (commands.Get name len by) r room = without_leaves r _ (next_leaves d m (commands.Get name len by) r room)
whole_leaves d m (commands.Put name bytes by) r room = without_leaves r _ (next_leaves d m (commands.Put name bytes by) r room)
whole_leaves d m (commands.Control name setup bytes) r room =
    without_leaves r _ (next_leaves d m (commands.Control name setup bytes) r room)
whole_leaves d m (commands.Iso name count len seed) r room = without_leaves r _ (next_leaves d m (commands.Iso name count len seed) r room)
whole_leaves d m (commands.Cancel name) r room = without_leaves r _ (next_leaves d m (commands.Cancel name) r room)
whole_leaves d m (commands.Reset port) r room = tt
whole_leaves d m (commands.Give port) r room = tt
whole_leaves d m (commands.DiskRead addr lba count) r room = tt
whole_leaves d m (commands.DiskWrite addr lba bytes) r room = tt
whole_leaves d m (commands.Revive addr) r room = tt

-- what isn't free is less than all
all_room : (w : DriverAtWork) (r : Reserve) → HasRoomFor (free_room w) r → HasRoomFor w.driver.room r
all_room w r h =
    record { endpoints = h.endpoints; transfers = h.transfers; reports = omega (arith, h.reports); report_bytes = h.report_bytes }

pub any_leaves : (w : DriverAtWork) (m : Mem) (cmd : Cmd) (r : Reserve) → HasRoomFor (free_room w) (with_room (needs cmd) r)
    → LeavesWork r (offered_any w m cmd)
any_leaves w m cmd r room =
    work_if r (busy_any w) (Err errors.Busy) (offered_whole w.driver m cmd) tt
    (whole_leaves w.driver m cmd r (all_room w (with_room (needs cmd) r) room))

answered_leaves : (w : WorldAtWork) (n : ℕ) (name : EpName) (cmd : Cmd) (r : Reserve) (x : Result OfferedAny OfferError)
    → 1 ≤ (needs cmd).reports
    → HasRoomFor (free_room (driver_of w)) (with_room (needs cmd) r) → LeavesWork r x
    → HasRoomFor (free_room (driver_of (answered_at_work w n name x))) r
answered_leaves w n name cmd r (Ok o) one room h = h.0
answered_leaves w n name cmd r (Err why) one room h = record {
  endpoints = omega (arith, room.endpoints);
  transfers = omega (arith, room.transfers);
  reports = omega (arith, room.reports, one);
  report_bytes = omega (arith, room.report_bytes);
}

pub work_leaves : (w : WorldAtWork) (n : ℕ) (cmd : Cmd) (r : Reserve) → IsFitCommand cmd
    → HasRoomFor (free_room (driver_of w)) (with_room (needs cmd) r)
    → HasRoomFor (free_room (driver_of (commanded_at_work w n cmd))) r
work_leaves w n cmd r fit room =
    answered_leaves w n (name_in cmd) cmd r (offered_any (driver_of w) w.world.memory cmd) (one_line cmd fit) room
    (any_leaves (driver_of w) w.world.memory cmd r room)

-- ---- what an offer asks

pub can_offer_any : (room : Reserve) (cmd : Cmd) → IsFitCommand cmd → HasRoomFor room (needs cmd) → IsOfferedAny room cmd
can_offer_any room (commands.Clear name) fit has = (has.transfers, has.reports)
can_offer_any room (commands.OpenEp x) fit has = can_offer room (commands.OpenEp x) fit has
can_offer_any room (commands.Get name len by) fit has = can_offer room (commands.Get name len by) fit has
can_offer_any room (commands.Put name bytes by) fit has = can_offer room (commands.Put name bytes by) fit has
can_offer_any room (commands.Control name setup bytes) fit has = can_offer room (commands.Control name setup bytes) fit has
can_offer_any room (commands.Iso name count len seed) fit has = can_offer room (commands.Iso name count len seed) fit has
can_offer_any room (commands.Cancel name) fit has = can_offer room (commands.Cancel name) fit has
can_offer_any room (commands.Reset port) fit has = can_offer room (commands.Reset port) fit has
can_offer_any room (commands.Give port) fit has = can_offer room (commands.Give port) fit has
can_offer_any room (commands.DiskRead addr lba count) fit has = can_offer room (commands.DiskRead addr lba count) fit has
can_offer_any room (commands.DiskWrite addr lba bytes) fit has = can_offer room (commands.DiskWrite addr lba bytes) fit has
can_offer_any room (commands.Revive addr) fit has = can_offer room (commands.Revive addr) fit has
