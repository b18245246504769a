-- What a command that a driver at work accepts leaves: no line is written, the budgets are kept, and there is room for the job's line.
use Rattle.std.proofs.Common.{◌≡◌, ℕ, ◌-◌, ◌≤◌, Bool, true, false, [], length, Option, Some, None, Result, Ok, Err, refl, ap}
use Rattle.std.proofs.Common.{subst, arith, inl, inr}
use Rattle.std.specs.Prelude.{if◌then◌else◌, unwrap_or, is_some, ◌||◌}
use Rattle.std.proofs.lemmas.Bool.{cases_Bool}
use Rattle.usb_base.specs.declared.commands.Cmd.{Cmd}
use Rattle.usb_base.specs.declared.commands.Cmd.TheVariants as commands
use Rattle.usb_base.specs.declared.endpoints.EndCause.{EndCause}
use Rattle.usb_base.specs.declared.endpoints.EndCause.TheVariants as causes
use Rattle.usb_base.specs.declared.endpoints.EpName.{EpName}
use Rattle.usb_base.specs.declared.packets.EpKind.{EpKind}
use Rattle.usb_base.specs.declared.packets.EpKind.TheVariants as kinds
use Rattle.usb_base.specs.declared.reports.OfferError.{OfferError}
use Rattle.usb_base.specs.declared.reports.OfferError.TheVariants as errors
use Rattle.report_text.specs.ReportText.{AreStored}
use Rattle.word_mem.specs.Memory.{Mem}
use Rattle.mem_runs.specs.Book.{holding, Stands}
use Rattle.drv_chains.specs.declared.boundary.Boundary.TheVariants.{Unread}
use Rattle.drv_table.specs.declared.content.Endpoint.{Endpoint}
use Rattle.drv_table.specs.declared.content.Reserve.{Reserve}
use Rattle.drv_table.specs.DriverContent.{DriverContent, busy, endpoint_of, endpoint_named}
use Rattle.drv_table.specs.Kinds.{is_iso}
use Rattle.drv_table.specs.Words.{is_high}
use Rattle.drv_table.specs.Accepting.{Offered}
use Rattle.drv_table.specs.Offers.{offered, offered_next, IsOffered}
use Rattle.drv_jobs.specs.declared.jobs.Job.{Job}
use Rattle.drv_jobs.specs.declared.jobs.Job.TheVariants as jobs
use Rattle.drv_jobs.specs.AtWork.{DriverAtWork, free_room, owed_lines}
use Rattle.drv_jobs.specs.HubRequests.{hub_zero, clear_setup}
use Rattle.drv_jobs.specs.JobOffers.{OfferedAny, IsOfferedAny, without_job, begins, asked_by, is_shut, asked_hub, begun_by, cleared_by}
use Rattle.drv_jobs.specs.JobOffers.{offered_clear, offered_whole, busy_any, offered_any}
use Rattle.law_admission.specs.Budgets.{account_of, KeepsBudgets}
use Rattle.law_admission.proofs.Budgets.{commands_keep_budgets, command_rules}
use Rattle.bus_wire.specs.Bus.{Bus}
use Rattle.bus_world.specs.Rooms.{no_room}
use Rattle.bus_world.specs.Sound.{IsSoundAtWork, line_to_come}
use Rattle.bus_world.specs.World.{refused_line}
use Rattle.bus_world.proofs.Kept.{line_stored}
use Rattle.bus_world.proofs.Offering.{Lines, SameLines, next_lines}
use Rattle.bus_world.proofs.RoomsAtWork.{LeavesWork, HasClearRoom, clear_leaves}

same_stored : (d e : DriverContent) → SameLines d e → AreStored d.reports (length d.store) → AreStored e.reports (length e.store)
same_stored d e same h = rw (same.reports, same.store) h

pub record IsWell (d : DriverContent) (o : OfferedAny) : Type 0 where
  pub lines : SameLines d o.driver.driver
  pub budgets : KeepsBudgets (account_of d) → KeepsBudgets (account_of o.driver.driver)
  pub line : line_to_come o.driver.job ≡ 0
  pub rules : o.driver.driver.periodic.plan.rules ≡ d.periodic.plan.rules

abbrev Well : DriverContent → Result OfferedAny OfferError → Type 0
Well d (Ok o) = IsWell d o
Well d (Err why) = Unit {0}

well_if : (d : DriverContent) (b : Bool) (x y : Result OfferedAny OfferError) → Well d x → Well d y → Well d (if b then x else y)
well_if d true x y h k = h
well_if d false x y h k = k

idle_offer : (d : DriverContent) (m : Mem) (cmd : Cmd) (x : Result Offered OfferError) → busy d ≡ false → offered_next d m cmd ≡ x
    → offered d m cmd ≡ x
idle_offer d m cmd x idle is = rw idle is

-- ---- commands without a job

taken_well : (d : DriverContent) (m : Mem) (cmd : Cmd) (x : Result Offered OfferError) → IsOffered d.room cmd → busy d ≡ false
    → offered_next d m cmd ≡ x → Well d (without_job x)
taken_well d m cmd (Ok o) ok idle is = record {
  lines = subst (Lines d) is (next_lines d m cmd);
  budgets = λ h. commands_keep_budgets d m cmd o ok h (idle_offer d m cmd (Ok o) idle is);
  line = refl;
  rules = command_rules d m cmd o (idle_offer d m cmd (Ok o) idle is);
}
taken_well d m cmd (Err why) ok idle is = tt

next_well : (d : DriverContent) (m : Mem) (cmd : Cmd) → IsOffered d.room cmd → busy d ≡ false → Well d (without_job (offered_next d m cmd))
next_well d m cmd ok idle = taken_well d m cmd (offered_next d m cmd) ok idle refl

-- ---- clears

resets_well : (d : DriverContent) (m : Mem) (e : ℕ) → Well d (begins d m (jobs.Resets e))
resets_well d m e =
    record { lines = record { reports = refl; store = refl; fewer = omega arith }; budgets = λ h. h; line = refl; rules = refl }

reads_well : (d : DriverContent) (m : Mem) (e : ℕ) → Well d (begins d m (jobs.Reads e Unread))
reads_well d m e =
    record { lines = record { reports = refl; store = refl; fewer = omega arith }; budgets = λ h. h; line = refl; rules = refl }

asked_well : (d : DriverContent) (m : Mem) (e t : ℕ) (cmd : Cmd) (x : Result Offered OfferError) → IsOffered d.room cmd → busy d ≡ false
    → offered_next d m cmd ≡ x → Well d (asked_by e t x)
asked_well d m e t cmd (Ok o) ok idle is = record {
  lines = subst (Lines d) is (next_lines d m cmd);
  budgets = λ h. commands_keep_budgets d m cmd o ok h (idle_offer d m cmd (Ok o) idle is);
  line = refl;
  rules = command_rules d m cmd o (idle_offer d m cmd (Ok o) idle is);
}
asked_well d m e t cmd (Err why) ok idle is = tt

request_offered : (d : DriverContent) (x : Endpoint) → HasClearRoom d no_room
    → IsOffered d.room (commands.Control (hub_zero x.desc) (clear_setup x.desc) [])
request_offered d x room = (omega (arith, room.transfers), omega (arith, room.reports), λ le. omega arith)

hub_well : (d : DriverContent) (m : Mem) (e : ℕ) (x : Endpoint) → HasClearRoom d no_room → busy d ≡ false → Well d (asked_hub d m e x)
hub_well d m e x room idle =
    well_if d (is_shut d (endpoint_named d (hub_zero x.desc)) (endpoint_of d (hub_zero x.desc))) (Err errors.HubClosed)
    (asked_by e (length d.transfers) (offered_next d m (commands.Control (hub_zero x.desc) (clear_setup x.desc) []))) tt
    (asked_well d m e (length d.transfers) (commands.Control (hub_zero x.desc) (clear_setup x.desc) []) _
    (request_offered d x room) idle refl)

kind_well : (d : DriverContent) (m : Mem) (e : ℕ) (x : Endpoint) (high : Bool) (kind : EpKind) → HasClearRoom d no_room → busy d ≡ false
    → Well d (begun_by d m e x high kind)
kind_well d m e x true kind room idle = resets_well d m e
kind_well d m e x false kinds.Interrupt room idle = reads_well d m e
kind_well d m e x false kinds.Control room idle = hub_well d m e x room idle
kind_well d m e x false kinds.Bulk room idle = hub_well d m e x room idle
kind_well d m e x false kinds.Iso room idle = hub_well d m e x room idle

cleared_well : (d : DriverContent) (m : Mem) (e : ℕ) (x : Endpoint) (cause : Option EndCause) → HasClearRoom d no_room → busy d ≡ false
    → Well d (cleared_by d m e x cause)
cleared_well d m e x None room idle = tt
cleared_well d m e x (Some cause) room idle = kind_well d m e x (is_high x.desc.speed) x.desc.kind room idle

clear_well : (d : DriverContent) (m : Mem) (e : ℕ) (x : Option Endpoint) → HasClearRoom d no_room → busy d ≡ false
    → Well d (offered_clear d m e x)
clear_well d m e None room idle = tt
clear_well d m e (Some x) room idle =
    well_if d (is_iso x.desc.kind) (Err errors.NoEndpoint) _ tt
    (well_if d x.cancelled (Err (errors.Closed causes.Cancel)) _ tt (cleared_well d m e x x.ended room idle))

-- ---- any command

clear_room : (room : Reserve) (d : DriverContent) (name : EpName) → d.room ≡ room → IsOfferedAny room (commands.Clear name)
    → HasClearRoom d no_room
clear_room room d name is ok =
    rw is (record { endpoints = omega arith; transfers = omega (arith, ok.0); reports = omega (arith, ok.1); report_bytes = omega arith })

whole_well : (d : DriverContent) (m : Mem) (cmd : Cmd) → IsOfferedAny d.room cmd → busy d ≡ false → Well d (offered_whole d m cmd)
whole_well d m (commands.Clear name) ok idle =
    clear_well d m (unwrap_or (endpoint_of d name) 0) (endpoint_named d name) (clear_room d.room d name refl ok) idle
whole_well d m (commands.OpenEp x) ok idle = next_well d m (commands.OpenEp x) ok idle
whole_well d m (commands.Get name len by) ok idle = next_well d m (commands.Get name len by) ok idle
whole_well d m (commands.Put name bytes by) ok idle = next_well d m (commands.Put name bytes by) ok idle
whole_well d m (commands.Control name setup bytes) ok idle = next_well d m (commands.Control name setup bytes) ok idle
whole_well d m (commands.Iso name count len seed) ok idle = next_well d m (commands.Iso name count len seed) ok idle
whole_well d m (commands.Cancel name) ok idle = next_well d m (commands.Cancel name) ok idle
whole_well d m (commands.Reset port) ok idle = tt
whole_well d m (commands.Give port) ok idle = tt
whole_well d m (commands.DiskRead addr lba count) ok idle = tt
whole_well d m (commands.DiskWrite addr lba bytes) ok idle = tt
whole_well d m (commands.Revive addr) ok idle = tt

-- ---- the job that a command leaves has room for its line

abbrev Owes : Result OfferedAny OfferError → Type 0
Owes (Ok o) = owed_lines o.driver.job ≤ o.driver.driver.room.reports
Owes (Err why) = Unit {0}

left_owes : (r : Reserve) (x : Result OfferedAny OfferError) → LeavesWork r x → Owes x
left_owes r (Ok o) h = h.1
left_owes r (Err why) h = tt

jobless_owes : (x : Result Offered OfferError) → Owes (without_job x)
jobless_owes (Ok o) = omega arith
jobless_owes (Err why) = tt

whole_owes : (d : DriverContent) (m : Mem) (cmd : Cmd) → IsOfferedAny d.room cmd → Owes (offered_whole d m cmd)
whole_owes d m (commands.Clear name) ok =
    left_owes no_room _
    (clear_leaves d m (unwrap_or (endpoint_of d name) 0) no_room (endpoint_named d name) (clear_room d.room d name refl ok))
whole_owes d m (commands.OpenEp x) ok = jobless_owes (offered_next d m (commands.OpenEp x))
whole_owes d m (commands.Get name len by) ok = jobless_owes (offered_next d m (commands.Get name len by))
whole_owes d m (commands.Put name bytes by) ok = jobless_owes (offered_next d m (commands.Put name bytes by))
whole_owes d m (commands.Control name setup bytes) ok = jobless_owes (offered_next d m (commands.Control name setup bytes))
whole_owes d m (commands.Iso name count len seed) ok = jobless_owes (offered_next d m (commands.Iso name count len seed))
whole_owes d m (commands.Cancel name) ok = jobless_owes (offered_next d m (commands.Cancel name))
whole_owes d m (commands.Reset port) ok = tt
whole_owes d m (commands.Give port) ok = tt
whole_owes d m (commands.DiskRead addr lba count) ok = tt
whole_owes d m (commands.DiskWrite addr lba bytes) ok = tt
whole_owes d m (commands.Revive addr) ok = tt

-- ---- no command and no job is under way

none_of : (b : Bool) (job : Option Job) → (b || is_some job) ≡ false → (b ≡ false) × (job ≡ None)
none_of true job e = absurd cc
none_of false None e = (refl, refl)
none_of false (Some job) e = absurd cc

free_is : (w : DriverAtWork) → w.job ≡ None → free_room w ≡ w.driver.room
free_is w none =
    let z : owed_lines w.job ≡ 0 = ap owed_lines none in
    let e : w.driver.room.reports - owed_lines w.job ≡ w.driver.room.reports = omega (arith, z) in
    ap (λ n. record w.driver.room { reports = n }) e

-- an accepted command, with no command and no job under way before
record IsTaken (w : DriverAtWork) (o : OfferedAny) : Type 0 where
  well : IsWell w.driver o
  owes : owed_lines o.driver.job ≤ o.driver.driver.room.reports
  line : line_to_come w.job ≡ 0

idle_taken : (w : DriverAtWork) (m : Mem) (cmd : Cmd) (o : OfferedAny) → IsOfferedAny (free_room w) cmd
    → offered_whole w.driver m cmd ≡ Ok o
    → busy w.driver ≡ false → w.job ≡ None → IsTaken w o
idle_taken w m cmd o ok e idle none =
    let may : IsOfferedAny w.driver.room cmd = subst (λ (r : Reserve). IsOfferedAny r cmd) (free_is w none) ok in
    record {
      well = subst (Well w.driver) e (whole_well w.driver m cmd may idle);
      owes = subst Owes e (whole_owes w.driver m cmd may);
      line = ap line_to_come none;
    }

taken : (w : DriverAtWork) (m : Mem) (cmd : Cmd) (o : OfferedAny) → IsOfferedAny (free_room w) cmd → offered_any w m cmd ≡ Ok o
    → IsTaken w o
taken w m cmd o ok e = elim (cases_Bool (busy_any w)) [
  | inl t ↦ absurd (let k : Err errors.Busy ≡ Ok o = rw t at e in cc)
  | inr f ↦ let n = none_of (busy w.driver) w.job f in idle_taken w m cmd o ok (rw f at e) n.0 n.1
]

pub offer_well : (w : DriverAtWork) (m : Mem) (cmd : Cmd) (o : OfferedAny) → IsOfferedAny (free_room w) cmd → offered_any w m cmd ≡ Ok o
    → IsWell w.driver o
offer_well w m cmd o ok e = (taken w m cmd o ok e).well

pub accepted_work_sound : (w : DriverAtWork) (m : Mem) (b : Bus) (cmd : Cmd) (o : OfferedAny) (marked capacity : ℕ)
    → IsOfferedAny (free_room w) cmd
    → IsSoundAtWork w m b marked capacity → offered_any w m cmd ≡ Ok o → Stands (holding o.driver.driver.book o.memory)
    → IsSoundAtWork o.driver o.memory b marked capacity
accepted_work_sound w m b cmd o marked capacity ok h e stands =
    let t : IsTaken w o = taken w m cmd o ok e in
    record {
      sound = record {
        stands = stands;
        stored = same_stored w.driver o.driver.driver t.well.lines h.sound.stored;
        roomy = h.sound.roomy;
        budgets = t.well.budgets h.sound.budgets;
      };
      owed = t.owes;
      marks = omega (arith, h.marks, t.line, t.well.line, t.well.lines.fewer);
    }

-- ---- a refusal

pub refused_work_sound : (w : DriverAtWork) (m : Mem) (b : Bus) (n : ℕ) (name : EpName) (why : OfferError) (marked capacity : ℕ)
    → 1 ≤ (free_room w).reports → IsSoundAtWork w m b marked capacity
    → IsSoundAtWork (record w { driver = refused_line w.driver n name why }) m b marked capacity
refused_work_sound w m b n name why marked capacity free h = record {
  sound = record {
    stands = h.sound.stands;
    stored = line_stored w.driver.reports _ (length w.driver.store) h.sound.stored (omega arith);
    roomy = h.sound.roomy;
    budgets = record { fits = h.sound.budgets.fits; room = h.sound.budgets.room };
  };
  owed = omega (arith, free, h.owed);
  marks = omega (arith, h.marks);
}
