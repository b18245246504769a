-- A world whose driver may be at a job (EHCI 1.0, 3.6.3 and 4.8 to 4.10; USB 2.0, 5.8.5 and 9.4.5), and what one event or command leaves of
-- it. The reset of an endpoint is the bus's as well: it begins the endpoint's next epoch.
--     WorldAtWork                    a world, the job of its driver, and what the endpoints that were reset had taken by then
--     next_at_work fixed w event     what one event leaves
--     commanded_at_work w n cmd      what a command on line n leaves
--     room_in w                      what of the driver's reserve isn't used, nor to be used by its job
--     jobless w                      a world with no job, where no endpoint was reset
use Rattle.std.specs.Prelude.{ℕ, List, [], ◌∷◌, ◌++◌, ◌==◌, length, find, Option, Some, None, Result, Ok, Err}
use Rattle.std.specs.Option.{option_map_or}
use Rattle.usb_base.specs.declared.commands.Cmd.{Cmd}
use Rattle.usb_base.specs.declared.endpoints.EpName.{EpName}
use Rattle.usb_base.specs.declared.reports.OfferError.{OfferError}
use Rattle.script_types.specs.declared.scripts.Event.{Event}
use Rattle.script_types.specs.declared.scripts.Event.TheVariants as events
use Rattle.endpoint_script.specs.Device.{taken_of}
use Rattle.bus_wire.specs.Bus.{Bus, Fixed}
use Rattle.bus_wire.specs.Resets.{bus_reset}
use Rattle.drv_jobs.specs.declared.jobs.Job.{Job}
use Rattle.drv_jobs.specs.declared.jobs.JobRow.{JobRow}
use Rattle.drv_jobs.specs.declared.jobs.JobRow.TheVariants as rows
use Rattle.drv_table.specs.declared.content.Reserve.{Reserve}
use Rattle.drv_table.specs.declared.rows.DriverStep.{DriverStep}
use Rattle.drv_table.specs.declared.rows.DriverStep.TheVariants as steps
use Rattle.drv_jobs.specs.AtWork.{DriverAtWork, PartsAtWork, free_room}
use Rattle.drv_jobs.specs.Jobs.{job_row, after_job_row}
use Rattle.drv_jobs.specs.JobOffers.{OfferedAny, offered_any}
use Rattle.bus_world.specs.declared.marks.Mark.{Mark}
use Rattle.bus_world.specs.World.{World, driver_parts, with_parts, controller_next, name_in, refused_line}

pub record WorldAtWork : Type 0 where
  pub world : World
  pub job : Option Job
  pub marks : List Mark  -- in the order of the resets

-- a world with what is fixed of its bus
pub record StandingAtWork : Type 0 where
  pub fixed : Fixed
  pub work : WorldAtWork

abbrev pub jobless : World → WorldAtWork
jobless w = record { world = w; job = None; marks = [] }

-- ---- an event

abbrev pub parts_of : WorldAtWork → PartsAtWork
parts_of w = record { parts = driver_parts w.world; job = w.job }

abbrev pub with_work : WorldAtWork → PartsAtWork → WorldAtWork
with_work w p = record w { world = with_parts w.world p.parts; job = p.job }

-- how many bytes the device of an endpoint took there
abbrev pub taken_at : Bus → EpName → ℕ
taken_at b name = option_map_or (λ d. length (taken_of d name)) (find (λ d. d.address == name.addr) b.devices) 0

abbrev pub marked : WorldAtWork → EpName → WorldAtWork
marked w name = record w {
  world = record w.world { bus = bus_reset name w.world.bus };
  marks = w.marks ++ record { name = name; taken = taken_at w.world.bus name } ∷ [];
}

-- the endpoint that an event of this kind resets
abbrev pub reset_in : DriverStep → Option EpName
reset_in (steps.Reset name) = Some name
reset_in step = None

-- the reset of an endpoint is its device's or hub's; no other row is
abbrev pub reset_by : JobRow → WorldAtWork → WorldAtWork
reset_by (rows.Resets name) w = marked w name
reset_by row w = w

abbrev pub driver_next_by : JobRow → WorldAtWork → WorldAtWork
driver_next_by row w = reset_by row (with_work w (after_job_row row (parts_of w)))

abbrev pub driver_next_at_work : WorldAtWork → WorldAtWork
driver_next_at_work w = driver_next_by (job_row (parts_of w)) w

-- the controller knows nothing of jobs
abbrev pub next_at_work : Fixed → WorldAtWork → Event → WorldAtWork
next_at_work fixed w events.D = driver_next_at_work w
next_at_work fixed w events.C = record w { world = controller_next fixed w.world }

-- ---- a command: it is accepted, or its refusal is a line of the report

abbrev pub driver_of : WorldAtWork → DriverAtWork
driver_of w = record { driver = w.world.driver; job = w.job }

abbrev pub room_in : WorldAtWork → Reserve
room_in w = free_room (driver_of w)

abbrev pub answered_at_work : WorldAtWork → ℕ → EpName → Result OfferedAny OfferError → WorldAtWork
answered_at_work w n name (Ok o) = record w { world = record w.world { driver = o.driver.driver; memory = o.memory }; job = o.driver.job }
answered_at_work w n name (Err why) = record w { world = record w.world { driver = refused_line w.world.driver n name why } }

abbrev pub commanded_at_work : WorldAtWork → ℕ → Cmd → WorldAtWork
commanded_at_work w n cmd = answered_at_work w n (name_in cmd) (offered_any (driver_of w) w.world.memory cmd)
