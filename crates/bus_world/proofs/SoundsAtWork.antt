-- What holds of a world at work at each moment holds after each event.
use Rattle.std.proofs.Common.{◌≡◌, ℕ, ◌+◌, ◌≤◌, ◌<◌, List, [], ◌∷◌, ◌++◌, length, Option, Some, None, refl, ap, sym, ◌∙◌, subst, arith, length-append}
use Rattle.std.specs.List.{AllByRecursion}
use Rattle.usb_base.specs.declared.endpoints.EpName.{EpName}
use Rattle.word_mem.specs.Memory.{Mem}
use Rattle.op_registers.specs.RegisterFile.{RegisterFile}
use Rattle.mem_runs.specs.Book.{holding, Stands}
use Rattle.drv_table.specs.declared.rows.DriverRow.{DriverRow}
use Rattle.drv_table.specs.declared.rows.DriverRow.TheVariants as plain
use Rattle.drv_table.specs.declared.rows.DriverStep.{DriverStep}
use Rattle.drv_table.specs.Rows.{step_of}
use Rattle.drv_table.specs.DriverContent.{DriverContent}
use Rattle.bus_wire.specs.Bus.{Bus}
use Rattle.bus_wire.specs.Resets.{bus_reset}
use Rattle.drv_jobs.specs.declared.jobs.Job.{Job}
use Rattle.drv_jobs.specs.declared.jobs.Job.TheVariants as jobs
use Rattle.drv_jobs.specs.declared.jobs.JobRow.{JobRow}
use Rattle.drv_jobs.specs.declared.jobs.JobRow.TheVariants as rows
use Rattle.drv_jobs.specs.AtWork.{DriverAtWork, at_work, owed_lines}
use Rattle.drv_jobs.specs.Jobs.{job_row, after_job_row, step_of_job}
use Rattle.bus_world.specs.declared.marks.Mark.{Mark}
use Rattle.bus_world.specs.World.{Standing}
use Rattle.bus_world.specs.AtWork.{StandingAtWork, reset_in}
use Rattle.bus_world.specs.Sound.{IsSound, IsSoundAtWork, IsRoomyDevice, line_to_come}
use Rattle.bus_world.proofs.Roomy.{reset_roomy}
use Rattle.bus_world.proofs.KeptAtWork.{KeepsWork, work_keeps, resets}

-- ---- which event resets an endpoint

no_reset : (row : DriverRow) → reset_in (step_of row) ≡ None
no_reset plain.Lend = refl
no_reset (plain.Store b at v) = refl
no_reset (plain.Mend w) = refl
no_reset plain.Frames = refl
no_reset plain.LendDescriptors = refl
no_reset (plain.Unlink t) = refl
no_reset (plain.ReleaseRemoved what) = refl
no_reset (plain.ReleaseTransfer t) = refl
no_reset (plain.ReleaseEndpoint e) = refl
no_reset plain.ClearAdvance = refl
no_reset plain.RingBell = refl
no_reset (plain.ReadStatus heard) = refl
no_reset (plain.ReadFrame n) = refl
no_reset (plain.Harvest e t found) = refl
no_reset plain.Rest = refl

-- the endpoint that a row resets is one
abbrev count : Option EpName → ℕ
count None = 0
count (Some name) = 1

reset_count : (row : JobRow) → resets row ≡ count (reset_in (step_of_job row))
reset_count (rows.Plain row) = ap count (sym (no_reset row))
reset_count (rows.EndsRequest h t n what) = refl
reset_count (rows.ReadsFrame n) = refl
reset_count (rows.Resets name) = refl
reset_count (rows.Mends m) = refl
reset_count (rows.Reopens e) = refl

-- ---- an event of the driver

-- what stands of its soundness after it, with the reset still to be made
pub record IsSoundBut (w : DriverAtWork) (m : Mem) (b : Bus) (marks capacity : ℕ) (o : Option EpName) : Type 0 where
  pub sound : IsSound w.driver m b
  pub owed : owed_lines w.job ≤ w.driver.room.reports
  pub fits : marks + count o + w.driver.room.reports ≤ capacity + line_to_come w.job

pub driver_sound_but : (d e : DriverAtWork) (r s : RegisterFile) (m n : Mem) (b : Bus) (marks capacity : ℕ) (step : DriverStep) (o : Option EpName)
    → step ≡ step_of_job (job_row (at_work d r m)) → at_work e s n ≡ after_job_row (job_row (at_work d r m)) (at_work d r m)
    → reset_in step ≡ o → Stands (holding e.driver.book n) → IsSoundAtWork d m b marks capacity → IsSoundBut e n b marks capacity o
driver_sound_but d e r s m n b marks capacity step o kind work is stands h =
    let row : JobRow = job_row (at_work d r m) in
    let k : KeepsWork row (at_work d r m) (at_work e s n) = subst (KeepsWork row (at_work d r m)) (sym work) (work_keeps (at_work d r m)) in
    let one : resets row ≡ count o = reset_count row ∙ ap count (sym (ap reset_in kind) ∙ is) in
    record {
      sound = record { stands = stands; stored = k.stored h.sound.stored; roomy = h.sound.roomy; budgets = k.budgets h.sound.budgets };
      owed = k.owed h.owed;
      fits = let room = k.marks marks capacity h.owed h.marks in omega (arith, room, one);
    }

-- a mark has its room
line_owed : (job : Option Job) → line_to_come job ≤ owed_lines job
line_owed None = omega arith
line_owed (Some (jobs.Asks e t)) = omega arith
line_owed (Some (jobs.Reads e boundary)) = omega arith
line_owed (Some (jobs.Resets e)) = omega arith
line_owed (Some (jobs.Mends e word)) = omega arith
line_owed (Some (jobs.Reopens e)) = omega arith

pub mark_fits : (w : DriverAtWork) (m : Mem) (b : Bus) (marks capacity : ℕ) (name : EpName) → IsSoundBut w m b marks capacity (Some name)
    → marks < capacity
mark_fits w m b marks capacity name h = let owed = line_owed w.job in omega (arith, h.fits, h.owed, owed)

pub not_reset_sound : (w : DriverAtWork) (m : Mem) (b : Bus) (marks capacity : ℕ) → IsSoundBut w m b marks capacity None
    → IsSoundAtWork w m b marks capacity
not_reset_sound w m b marks capacity h = record { sound = h.sound; owed = h.owed; marks = omega (arith, h.fits) }

pub reset_sound : (w : DriverAtWork) (m : Mem) (b c : Bus) (marks more : List Mark) (mark : Mark) (capacity full : ℕ) (name : EpName)
    → IsSoundBut w m b (length marks) capacity (Some name) → c ≡ bus_reset name b → more ≡ marks ++ mark ∷ [] → full ≡ capacity
    → IsSoundAtWork w m c (length more) full
reset_sound w m b c marks more mark capacity full name h bus is same =
    let long : length more ≡ length marks + 1 = ap length is ∙ length-append marks (mark ∷ []) in
    record {
      sound = record {
        stands = h.sound.stands;
        stored = h.sound.stored;
        roomy = subst (λ (x : Bus). AllByRecursion IsRoomyDevice x.devices) (sym bus) (reset_roomy name b h.sound.roomy);
        budgets = h.sound.budgets;
      };
      owed = h.owed;
      marks = omega (arith, h.fits, long, same);
    }

-- ---- an event of the controller

pub controller_keeps : (w : DriverAtWork) (m n : Mem) (b c : Bus) (marks capacity : ℕ) → IsSound w.driver n c → IsSoundAtWork w m b marks capacity
    → IsSoundAtWork w n c marks capacity
controller_keeps w m n b c marks capacity sound h = record { sound = sound; owed = h.owed; marks = h.marks }

-- what it leaves beside the job and the marks
abbrev pub standing_with : Standing → Option Job → List Mark → StandingAtWork
standing_with s job marks = record { fixed = s.fixed; work = record { world = s.world; job = job; marks = marks } }

-- ---- the opening

pub opening_at_work_sound : (d : DriverContent) (w : DriverAtWork) (m : Mem) (b : Bus) (marks : List Mark) (capacity : ℕ) → IsSound d m b
    → w ≡ record { driver = d; job = None } → marks ≡ [] → d.room.reports ≤ capacity → IsSoundAtWork w m b (length marks) capacity
opening_at_work_sound d w m b marks capacity sound is none room =
    let long : length marks ≡ 0 = ap length none in
    subst (λ (x : DriverAtWork). IsSoundAtWork x m b (length marks) capacity) (sym is)
    (record { sound = sound; owed = omega arith; marks = omega (arith, room, long) })
