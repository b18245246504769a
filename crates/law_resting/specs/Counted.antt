-- Nothing that a driver is to do is forgotten (EHCI 1.0, 4.6 to 4.8 and 4.10), at each command and event: what is to be given back stands
-- in one of its
-- lists, and the next transfer of each endpoint is known.
--     IsNextIn ts e o       o is the first transfer of endpoint e that has no line, and there is none where it is None
--     AreCounted r ts xs l  what is owed stands in the lists: the transfers of endpoints that haven't ended, who left the ring, and who
--                           left the frame
--                           list; who is cancelled is out of both, or leaves now
--     IsOfItsKind d         who leaves the ring is in it, and who leaves the frame list is periodic
--     HasSome cmd           a command for isochronous descriptors has one at least
--     IsCounted d           all this of its content; and while the doorbell is quiet nothing waits for its answer
--     NewDriverIsCounted, EventsKeepCounts, CommandsKeepCounts      the laws
use Rattle.std.specs.Prelude.{◌≡◌, ℕ, ◌+◌, ◌<◌, ◌≤◌, true, false, ◌||◌, List, [], slice_get, Option, Some, None, Ok}
use Rattle.usb_base.specs.declared.commands.Cmd.{Cmd}
use Rattle.usb_base.specs.declared.commands.Cmd.TheVariants as commands
use Rattle.word_mem.specs.Memory.{Mem}
use Rattle.drv_periodic_table.specs.Periodic.{is_periodic}
use Rattle.drv_table.specs.declared.content.Bell.TheVariants as bells
use Rattle.drv_table.specs.declared.content.Command.{Command}
use Rattle.drv_table.specs.declared.content.Command.TheVariants as unfinished
use Rattle.drv_table.specs.declared.content.Endpoint.{Endpoint}
use Rattle.drv_table.specs.declared.content.Reserve.{Reserve}
use Rattle.drv_table.specs.declared.content.Transfer.{Transfer}
use Rattle.drv_table.specs.Accepting.{Offered}
use Rattle.drv_table.specs.DriverContent.{DriverContent}
use Rattle.drv_table.specs.Offers.{offered}
use Rattle.drv_table.specs.Opening.{opening}
use Rattle.drv_table.specs.Parts.{Parts}
use Rattle.drv_table.specs.Rows.{driver_row, after_driver_row}
use Rattle.claims_driver.specs.Leaving.{times, transfers_in, endpoints_in, owes, leaves_ring, leaves_frames, leaver, Returns, returns_of, IsOrderly}

-- ---- the next transfer of an endpoint

pub record IsFirstUntold (ts : List Transfer) (e t : ℕ) : Type 0 where
  pub transfer : Transfer
  pub here : slice_get ts t ≡ Some transfer
  pub endpoint : transfer.endpoint ≡ e
  pub untold : transfer.reported ≡ false
  pub before : (u : ℕ) (z : Transfer) → u < t → slice_get ts u ≡ Some z → z.endpoint ≡ e → z.reported ≡ true

abbrev pub IsNextIn : List Transfer → ℕ → Option ℕ → Type 0
IsNextIn ts e (Some t) = IsFirstUntold ts e t
IsNextIn ts e None = (u : ℕ) (z : Transfer) → slice_get ts u ≡ Some z → z.endpoint ≡ e → z.reported ≡ true

-- ---- what is to be given back

abbrev pub counted : Returns → ℕ → ℕ
counted r t = times t r.harvested + times t r.unlinks + times t (transfers_in r.removals)

pub record AreCounted (r : Returns) (ts : List Transfer) (xs : List Endpoint) (l : Option ℕ) : Type 0 where
  pub harvests : (t : ℕ) (y : Transfer) (x : Endpoint) → slice_get ts t ≡ Some y → slice_get xs y.endpoint ≡ Some x → x.ended ≡ None
      → owes (Some y) ≤ counted r t
  pub leaving : (e : ℕ) → leaves_ring (slice_get xs e) ≤ times e r.waiting + times e r.rung + times e r.cleared
  pub removed : (e : ℕ) → leaves_frames (slice_get xs e) ≤ times e (endpoints_in r.removals)
  pub cancelled : (e : ℕ) (x : Endpoint) → slice_get xs e ≡ Some x → x.cancelled ≡ true → (x.linked || x.chained) ≡ true → l ≡ Some e
  pub next : (e : ℕ) (x : Endpoint) → slice_get xs e ≡ Some x → x.ended ≡ None → IsNextIn ts e x.next

abbrev pub HasKind : Option Command → Endpoint → Type 0
HasKind (Some (unfinished.Unlink e b link)) x = is_periodic x.desc.kind ≡ false
HasKind (Some (unfinished.Unchain e)) x = is_periodic x.desc.kind ≡ true
HasKind _ x = Unit {0}

abbrev pub IsOfItsKind : DriverContent → Type 0
IsOfItsKind d = (e : ℕ) (x : Endpoint) → leaver d.command ≡ Some e → slice_get d.endpoints e ≡ Some x → HasKind d.command x

pub record IsCounted (d : DriverContent) : Type 0 where
  pub counts : AreCounted (returns_of d) d.transfers d.endpoints (leaver d.command)
  pub kinds : IsOfItsKind d
  pub bell : d.bell ≡ bells.Quiet → d.rung ≡ []

-- a command for isochronous descriptors has one at least
abbrev pub HasSome : Cmd → Type 0
HasSome (commands.Iso name count len seed) = 1 ≤ count
HasSome _ = Unit {0}

abbrev pub HasSomeIn : Option Command → Type 0
HasSomeIn (Some (unfinished.Iso e t count)) = 1 ≤ count
HasSomeIn _ = Unit {0}

-- ---- the laws

abbrev pub NewDriverIsCounted : Type 0
NewDriverIsCounted = (n : ℕ) (room : Reserve) → IsCounted (opening n room).driver

abbrev pub EventsKeepCounts : Type 0
EventsKeepCounts = (p : Parts) → IsOrderly p.driver → IsCounted p.driver → IsCounted (after_driver_row (driver_row p) p).driver

abbrev pub CommandsKeepCounts : Type 0
CommandsKeepCounts = (d : DriverContent) (m : Mem) (cmd : Cmd) (o : Offered) → IsOrderly d → IsCounted d → HasSome cmd → offered d m cmd ≡
    Ok o → IsCounted o.driver
