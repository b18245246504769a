-- A host whose wire is recorded, and its events with what is told of them.
--     Watched               the host
--     IsEvent m t n         one event or command leads from m to n, and t is told of it
use Rattle.std.specs.Prelude.{◌≡◌, ℕ, ◌-◌, ◌⊎◌, Bool, true, false, List, [], Option, Some, None, Result, Ok, Err, IfSome}
use Rattle.usb_base.specs.declared.commands.Cmd.{Cmd}
use Rattle.usb_base.specs.declared.endpoints.EpName.{EpName}
use Rattle.usb_base.specs.declared.reports.OfferError.{OfferError}
use Rattle.word_mem.specs.Memory.{Mem, word_at}
use Rattle.op_registers.specs.RegisterFile.{RegisterFile}
use Rattle.hc_core.specs.declared.controller.HcStep.{HcStep}
use Rattle.hc_core.specs.declared.controller.HcStep.TheVariants as steps
use Rattle.hc_core.specs.Controller.{Control, Content, content, microframe_row, kind_of, HasRow, address_in_hand, either_address, time_left, new_control}
use Rattle.drv_table.specs.declared.rows.DriverRow.TheVariants as rows
use Rattle.drv_table.specs.declared.rows.DriverStep.{DriverStep}
use Rattle.drv_table.specs.declared.rows.DriverStep.TheVariants as turns
use Rattle.drv_table.specs.DriverContent.{DriverContent}
use Rattle.drv_table.specs.declared.content.Reserve.{Reserve}
use Rattle.drv_table.specs.Opening.{opening}
use Rattle.script_types.specs.declared.scripts.Script.{Script}
use Rattle.bus_wire.specs.Bus.{opening_wired}
use Rattle.drv_table.specs.Parts.{Parts}
use Rattle.drv_jobs.specs.declared.jobs.Job.{Job}
use Rattle.drv_jobs.specs.declared.jobs.JobRow.{JobRow}
use Rattle.drv_jobs.specs.declared.jobs.JobRow.TheVariants as works
use Rattle.drv_jobs.specs.AtWork.{DriverAtWork, PartsAtWork, free_room}
use Rattle.drv_jobs.specs.Jobs.{job_row, after_job_row, step_of_job}
use Rattle.drv_jobs.specs.JobOffers.{OfferedAny, offered_any}
use Rattle.bus_recorder.specs.Recorded.{Recorded, BeginsIn, TransactsIn, forgotten, reset_recorded}
use Rattle.bus_packets.specs.declared.exchanges.Exchange.{Exchange}
use Rattle.bus_packets.specs.declared.exchanges.Passed.{Passed}
use Rattle.app_trace_lines.specs.declared.entries.Entry.{Entry}
use Rattle.app_trace_lines.specs.declared.entries.Work.{Work}
use Rattle.app_trace_lines.specs.declared.entries.Happening.{Happening}
use Rattle.app_trace_lines.specs.declared.entries.Happening.TheVariants.{Began, Controller, Driver, Offered as Commanded}

pub record Watched : Type 0 where
  pub registers : RegisterFile
  pub memory : Mem
  pub control : Control
  pub driver : DriverContent
  pub job : Option Job
  pub recorded : Recorded

-- what is told of an event or command: its entry, the packets of endpoints and the transactions below translators, and the bytes of the
-- data that went in a transaction
pub record Told : Type 0 where
  pub entry : Entry
  pub works : List Work
  pub passed : List Passed
  pub sent : List ℕ
  pub got : List ℕ

-- the bytes are those that were recorded
pub record HasBytes (t : Told) (n : Watched) : Type 0 where
  pub sent : t.sent ≡ n.recorded.sent
  pub got : t.got ≡ n.recorded.got

-- ---- the controller

abbrev pub content_of : Watched → Content
content_of m = content m.control m.registers m.memory

-- the structure that an event is about, by those in hand before and after it
abbrev pub told_address : HcStep → Option ℕ → Option ℕ → Option ℕ
told_address steps.Begin before after = None
told_address steps.Fetch before after = either_address after before
told_address steps.Advance before after = either_address before after
told_address steps.Transact before after = either_address before after
told_address steps.WriteBack before after = either_address before after
told_address steps.Skip before after = either_address before after
told_address steps.End before after = None
told_address steps.Idle before after = None

-- a transaction has cost what is gone of the time since
abbrev pub price_in : Option Exchange → ℕ → ℕ → ℕ
price_in None left later = 0
price_in (Some x) left later = left - later

-- what an event is told with that isn't a Begin, by the structure in hand and the time left before it
abbrev pub told_with : HcStep → Option ℕ → ℕ → Watched → Happening
told_with step before left n =
    Controller step (told_address step before (address_in_hand n.control)) n.recorded.exchange
    (price_in n.recorded.exchange left (time_left n.control)) (time_left n.control)

abbrev pub is_begin : HcStep → Bool
is_begin steps.Begin = true
is_begin steps.Fetch = false
is_begin steps.Advance = false
is_begin steps.Transact = false
is_begin steps.WriteBack = false
is_begin steps.Skip = false
is_begin steps.End = false
is_begin steps.Idle = false

-- A Begin is told with whether the bus may be used, any other event with the structure that it is about, its transaction and the time.
pub record Tells (step : HcStep) (before : Option ℕ) (left : ℕ) (n : Watched) (h : Happening) : Type 0 where
  pub begin : is_begin step ≡ true → h ≡ Began n.recorded.allowed
  pub other : is_begin step ≡ false → h ≡ told_with step before left n

-- the row of the controller's next event, over the recorded wire
abbrev pub Steps : Watched → Watched → Type 0
Steps m n = HasRow BeginsIn TransactsIn (microframe_row m.registers m.control) (content_of m) (forgotten m.recorded) (content_of n) n.recorded

abbrev pub step_next : Watched → HcStep
step_next m = kind_of (microframe_row m.registers m.control) (content_of m)

-- an event of the controller, by its row, over the recorded wire
pub record IsControlled (m : Watched) (e : Entry) (n : Watched) : Type 0 where
  pub row : Steps m n
  pub driver : n.driver ≡ m.driver
  pub job : n.job ≡ m.job
  pub tells : Tells (step_next m) (address_in_hand m.control) (time_left m.control) n e.happening
  pub index : e.frame_index ≡ n.registers.frame_index

-- ---- the driver

abbrev pub parts_of : Watched → Parts
parts_of m = record { driver = m.driver; registers = m.registers; memory = m.memory }

abbrev pub work_of : Watched → PartsAtWork
work_of m = record { parts = parts_of m; job = m.job }

-- with the parts of the driver
abbrev pub with_work : Watched → PartsAtWork → Watched
with_work m p = record m { driver = p.parts.driver; registers = p.parts.registers; memory = p.parts.memory; job = p.job }

-- the endpoint that an event of this kind resets
abbrev pub reset_in : DriverStep → Option EpName
reset_in (turns.Reset name) = Some name
reset_in step = None

-- the reset of an endpoint is its device's or hub's
abbrev pub reset_if : Option EpName → Watched → Watched
reset_if None m = m
reset_if (Some name) m = record m { recorded = reset_recorded name m.recorded }

-- what the driver's next event leaves
unfoldable pub driven : Watched → Watched
driven m = reset_if (reset_in (step_of_job (job_row (work_of m)))) (with_work m (after_job_row (job_row (work_of m)) (work_of m)))

-- The word that a store writes, with its address. That of an unlinking is the first that changed.
abbrev pub IsStored : JobRow → Option (ℕ × ℕ) → Watched → Type 0
IsStored (works.Plain (rows.Store b at v)) stored n = stored ≡ Some (at, v)
IsStored (works.Plain (rows.Mend w)) stored n = stored ≡ Some (w.at, w.value)
IsStored (works.Plain (rows.Unlink t)) stored n = IfSome stored (λ s. s.1 ≡ word_at n.memory s.0)
IsStored (works.Mends w) stored n = stored ≡ Some (w.at, w.value)
IsStored _ stored n = stored ≡ None

-- an event of the driver, by its row
pub record IsDriven (m : Watched) (e : Entry) (n : Watched) : Type 0 where
  pub next : n ≡ driven m
  pub stored : Option (ℕ × ℕ)
  pub is : e.happening ≡ Driver (job_row (work_of m)) stored
  pub word : IsStored (job_row (work_of m)) stored n
  pub index : e.frame_index ≡ n.registers.frame_index

-- ---- a command

abbrev pub driver_of : Watched → DriverAtWork
driver_of m = record { driver = m.driver; job = m.job }

-- what of the driver's reserve isn't used, nor to be used by its job
abbrev pub room_in : Watched → Reserve
room_in m = free_room (driver_of m)

-- what the driver answers to a command
unfoldable pub answer_to : Watched → Cmd → Result OfferedAny OfferError
answer_to m cmd = offered_any (driver_of m) m.memory cmd

abbrev pub refusal_of : Result OfferedAny OfferError → Option OfferError
refusal_of (Ok o) = None
refusal_of (Err why) = Some why

abbrev pub with_offered : Watched → Result OfferedAny OfferError → Watched
with_offered m (Ok o) = record m { driver = o.driver.driver; job = o.driver.job; memory = o.memory }
with_offered m (Err why) = m

-- a command on a line is accepted or refused
pub record IsCommanded (m : Watched) (e : Entry) (n : Watched) : Type 0 where
  pub line : ℕ
  pub cmd : Cmd
  pub next : n ≡ with_offered m (answer_to m cmd)
  pub is : e.happening ≡ Commanded line (refusal_of (answer_to m cmd))

-- ---- the opening

-- a host of this script before its first line: driver and memory were opened with some reserve
pub record IsOpening (s : Script) (m : Watched) : Type 0 where
  pub reserve : Reserve
  pub parts : parts_of m ≡ opening s.words reserve
  pub job : m.job ≡ None
  pub control : m.control ≡ new_control
  pub recorded : m.recorded ≡ record { wired = opening_wired s; exchange = None; sent = []; got = []; allowed = true }

abbrev pub IsEvent : Watched → Entry → Watched → Type 0
IsEvent m e n = IsControlled m e n ⊎ (IsDriven m e n ⊎ IsCommanded m e n)
