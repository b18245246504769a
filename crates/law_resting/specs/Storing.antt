-- Of an unfinished command that links or unlinks in the frame list a store is left (EHCI 1.0, 3.3.1 and 4.6).
--     IsWorking p     what is under way in the list was just begun, or a word of it is still to be stored
--     IsStoring d     behind the events of such a command something is under way in the list
--     LinkedHasWords  a member of the list has a word that leads to it
--     NewDriverIsStoring, EventsKeepStoring, CommandsKeepStoring, WorkHasStore      the laws
use Rattle.std.specs.Prelude.{◌≡◌, ◌≢◌, ℕ, ◌⊎◌, ◌<◌, true, false, length, is_none, Option, Some, None, Ok}
use Rattle.usb_base.specs.declared.commands.Cmd.{Cmd}
use Rattle.word_mem.specs.Memory.{Mem}
use Rattle.drv_chains.specs.declared.members.Member.{Member}
use Rattle.drv_chains.specs.Chains.{Schedule, predecessors}
use Rattle.drv_chains.specs.Order.{frames}
use Rattle.drv_members.specs.Members.{IsKept, IsMember, is_linked}
use Rattle.drv_periodic.specs.declared.work.Work.{Work}
use Rattle.drv_periodic.specs.Periodic.{Periodic, words_of, next_store}
use Rattle.drv_table.specs.declared.content.Command.{Command}
use Rattle.drv_table.specs.declared.content.Reserve.{Reserve}
use Rattle.drv_table.specs.Accepting.{Offered}
use Rattle.drv_table.specs.Commands.{events_of, links}
use Rattle.drv_table.specs.DriverContent.{DriverContent}
use Rattle.drv_table.specs.Offers.{offered}
use Rattle.drv_table.specs.Opening.{opening}
use Rattle.drv_table.specs.Parts.{Parts}
use Rattle.drv_table.specs.Rows.{driver_row, after_driver_row}
use Rattle.claims_driver.specs.FrameWords.{IsInOrder}

abbrev pub IsLeft : Schedule → Work → Type 0
IsLeft s w = (w.made ≡ 0) ⊎ (w.made < length (words_of s w))

abbrev pub IsWorking : Periodic → Type 0
IsWorking p = (w : Work) → p.work ≡ Some w → IsLeft p.members.schedule w

abbrev pub IsLinkingAt : Option Command → ℕ → Option Work → Type 0
IsLinkingAt o made work = (c : Command) → o ≡ Some c → links c ≡ true → (made < length (events_of c)) ⊎ (is_none work ≡ false)

abbrev pub IsStoringAt : Option Command → ℕ → Periodic → Type 0
IsStoringAt o made p = IsLinkingAt o made p.work × IsWorking p

abbrev pub IsStoring : DriverContent → Type 0
IsStoring d = IsStoringAt d.command d.made d.periodic.list

abbrev pub NewDriverIsStoring : Type 0
NewDriverIsStoring = (n : ℕ) (room : Reserve) → IsStoring (opening n room).driver

abbrev pub EventsKeepStoring : Type 0
EventsKeepStoring = (p : Parts) → IsStoring p.driver → IsStoring (after_driver_row (driver_row p) p).driver

abbrev pub CommandsKeepStoring : Type 0
CommandsKeepStoring = (d : DriverContent) (m : Mem) (cmd : Cmd) (o : Offered) → IsStoring d → offered d m cmd ≡ Ok o → IsStoring o.driver

abbrev pub LinkedHasWords : Type 0
LinkedHasWords = (s : Schedule) (m : Member) → IsKept s → IsMember m → is_linked s m ≡ true → 0 < length (predecessors s m (frames 10))

-- so it has a next store
abbrev pub WorkHasStore : Type 0
WorkHasStore = (p : Periodic) → IsInOrder p → IsWorking p → is_none p.work ≡ false → next_store p ≢ None
