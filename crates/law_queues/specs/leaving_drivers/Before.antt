-- What an endpoint's leave changes in the driver's content, and what stays (EHCI 1.0, 4.8.2): its cancel is accepted, one store unlinks it, the doorbell is
-- rung and listened for, and Async Advance is cleared.
--     WasSame d i z             endpoint i was in d what z is: its structures, its next transfer, and why it has ended as far as its report has it
--     UnlinksAtMost command     no command is unfinished, or one that unlinks an endpoint
--     IsAsBefore d f            runs, transfers and report are as they were, and so is each endpoint, but for its place in the ring
--     NearSame, NearFewer       a walk may meet the same endpoints, or those and no others
--     CancelIsAsBefore .. ClearIsAsBefore     the laws
use Rattle.std.specs.Prelude.{◌≡◌, ℕ, Bool, true, slice_get, Option, Some, None}
use Rattle.word_mem.specs.Memory.{Mem}
use Rattle.drv_table.specs.declared.content.Endpoint.{Endpoint}
use Rattle.drv_table.specs.declared.content.Command.{Command}
use Rattle.drv_table.specs.declared.content.Command.TheVariants as unfinished
use Rattle.drv_table.specs.declared.rows.DriverRow.TheVariants as rows
use Rattle.drv_table.specs.DriverContent.{DriverContent}
use Rattle.drv_table.specs.Accepting.{Offered}
use Rattle.drv_table.specs.Parts.{Parts}
use Rattle.drv_table.specs.Rows.{after_driver_row}
use Rattle.law_driver.specs.endpoint_lives.Lives.{told_end, may_meet}
use Rattle.law_driver.specs.run_owners.Accepts.{Cancels}
use Rattle.law_driver.specs.chained_transfers.AsynchronousTurns.{AsynchronousTakesTurns}

pub record WasSame (d : DriverContent) (i : ℕ) (z : Endpoint) : Type 0 where
  pub endpoint : Endpoint
  pub here : slice_get d.endpoints i ≡ Some endpoint
  pub queue : z.queue ≡ endpoint.queue
  pub dummy : z.dummy ≡ endpoint.dummy
  pub desc : z.desc ≡ endpoint.desc
  pub next : z.next ≡ endpoint.next
  pub gone : z.gone ≡ endpoint.gone
  pub ends : told_end z ≡ told_end endpoint

abbrev pub UnlinksAtMost : Option Command → Type 0
UnlinksAtMost None = Unit {0}
UnlinksAtMost (Some (unfinished.Unlink e b link)) = Unit {0}
UnlinksAtMost _ = ⊥

pub record IsAsBefore (d f : DriverContent) : Type 0 where
  pub book : f.book ≡ d.book
  pub notes : f.notes ≡ d.notes
  pub transfers : f.transfers ≡ d.transfers
  pub harvested : f.harvested ≡ d.harvested
  pub reports : f.reports ≡ d.reports
  pub store : f.store ≡ d.store
  pub idle : UnlinksAtMost d.command
  pub idle_now : UnlinksAtMost f.command
  pub ends : (i : ℕ) (z : Endpoint) → slice_get f.endpoints i ≡ Some z → WasSame d i z
  pub ends_now : (i : ℕ) (x : Endpoint) → slice_get d.endpoints i ≡ Some x → WasSame f i x

abbrev pub NearSame : DriverContent → DriverContent → Type 0
NearSame d f = (e : ℕ) (x z : Endpoint) → slice_get d.endpoints e ≡ Some x → slice_get f.endpoints e ≡ Some z → may_meet f e z ≡ may_meet d e x

abbrev pub NearFewer : DriverContent → DriverContent → Type 0
NearFewer d f = (e : ℕ) (x z : Endpoint) → slice_get d.endpoints e ≡ Some x → slice_get f.endpoints e ≡ Some z → may_meet f e z ≡ true → may_meet d e x ≡ true

-- ---- the laws

abbrev pub CancelIsAsBefore : Type 0
CancelIsAsBefore = (d : DriverContent) (m : Mem) (o : Offered) → AsynchronousTakesTurns d → Cancels d m o → IsAsBefore d o.driver × NearSame d o.driver

-- the store that unlinks the endpoint is the whole command
abbrev pub UnlinkIsAsBefore : Type 0
UnlinkIsAsBefore = (p : Parts) (e b link c at v : ℕ) → p.driver.command ≡ Some (unfinished.Unlink e b link)
    → IsAsBefore p.driver (after_driver_row (rows.Store c at v) p).driver × NearSame p.driver (after_driver_row (rows.Store c at v) p).driver

abbrev pub BellIsAsBefore : Type 0
BellIsAsBefore = (p : Parts) → p.driver.command ≡ None → IsAsBefore p.driver (after_driver_row rows.RingBell p).driver × NearSame p.driver (after_driver_row rows.RingBell p).driver

abbrev pub StatusIsAsBefore : Type 0
StatusIsAsBefore = (p : Parts) (heard : Bool) → p.driver.command ≡ None
    → IsAsBefore p.driver (after_driver_row (rows.ReadStatus heard) p).driver × NearSame p.driver (after_driver_row (rows.ReadStatus heard) p).driver

abbrev pub FrameIsAsBefore : Type 0
FrameIsAsBefore = (p : Parts) (n : ℕ) → p.driver.command ≡ None
    → IsAsBefore p.driver (after_driver_row (rows.ReadFrame n) p).driver × NearSame p.driver (after_driver_row (rows.ReadFrame n) p).driver

-- a walk doesn't meet any more those that had left when the doorbell was rung
abbrev pub ClearIsAsBefore : Type 0
ClearIsAsBefore = (p : Parts) → p.driver.command ≡ None → IsAsBefore p.driver (after_driver_row rows.ClearAdvance p).driver × NearFewer p.driver (after_driver_row rows.ClearAdvance p).driver
