-- The events of the unfinished command, and what stands after each (EHCI 1.0, 4.8.1, 4.8.2 and 4.10.2): runs are lent, words are stored,
-- and members of the frame list are linked or unlinked; after the last event no command is unfinished.
--     events_of c   the events of a command
use Rattle.std.specs.Prelude.{ℕ, ◌+◌, suc, ◌*◌, Bool, true, ◌&&◌, false, nat_lt, nat_le, [], List, ◌++◌, ◌∷◌, length, slice_get, is_none, map, Option, slice_set, slice_index, Some, if◌then◌else◌, None, unwrap_or}
use Rattle.mem_runs.specs.Book.{Holding}
use Rattle.drv_chains.specs.declared.boundary.Boundary.TheVariants.{Unread}
use Rattle.drv_periodic.specs.declared.work.Store.{Store}
use Rattle.drv_periodic.specs.Periodic.{Periodic, next_store, after_store}
use Rattle.drv_periodic_table.specs.declared.content.Removal.{Removal}
use Rattle.drv_periodic_table.specs.declared.content.Removed.{Removed}
use Rattle.drv_periodic_table.specs.declared.content.Removed.TheVariants as removed
use Rattle.drv_periodic_table.specs.Linking.{begun_next}
use Rattle.drv_table.specs.declared.content.Command.{Command}
use Rattle.drv_table.specs.declared.content.Command.TheVariants as unfinished
use Rattle.drv_table.specs.declared.content.Endpoint.{Endpoint}
use Rattle.drv_table.specs.declared.rows.DriverRow.{DriverRow}
use Rattle.drv_table.specs.declared.rows.DriverRow.TheVariants as rows
use Rattle.drv_table.specs.DriverContent.{DriverContent}
use Rattle.drv_table.specs.Parts.{Parts}
use Rattle.drv_table.specs.Words.{head_block, queue_head_link}

-- ---- the unfinished command

-- The words of a qTD in the order of their stores: its token, which sets Active, comes last (4.10.2).
abbrev pub store_order : List ℕ
store_order = 0 ∷ 1 ∷ 3 ∷ 4 ∷ 5 ∷ 6 ∷ 7 ∷ 2 ∷ []

-- The link of a queue head is its word 0. The stores that link or unlink members of the frame list come behind these.
abbrev pub events_of : Command → List DriverRow
events_of (unfinished.Open queue) = rows.Lend ∷ rows.Store head_block (32 * head_block) (queue_head_link queue) ∷ []
events_of (unfinished.Publish b words) = rows.Lend ∷ map (λ i. rows.Store b (32 * b + 4 * i) (slice_index words i)) store_order
events_of (unfinished.Unlink e b link) = rows.Store b (32 * b) link ∷ []
events_of unfinished.Chain = rows.Lend ∷ []
events_of (unfinished.Iso e t count) = rows.Frames ∷ rows.LendDescriptors ∷ []
events_of (unfinished.Unchain e) = []

-- it links or unlinks members of the frame list
abbrev pub links : Command → Bool
links (unfinished.Open queue) = false
links (unfinished.Publish b words) = false
links (unfinished.Unlink e b link) = false
links unfinished.Chain = true
links (unfinished.Iso e t count) = true
links (unfinished.Unchain e) = true

-- a cancel takes members out of the frame list (4.6)
abbrev pub removes_members : Command → Bool
removes_members (unfinished.Unchain e) = true
removes_members _ = false

-- the event of the command of which so many were made; past the last one there is none
abbrev pub command_row : Command → ℕ → DriverRow
command_row c made = unwrap_or (slice_get (events_of c) made) rows.Rest

-- the next store of what is being linked or unlinked in the frame list (3.3.1), if there is one
abbrev pub link_row : Option Store → DriverRow
link_row None = rows.Rest
link_row (Some s) = rows.Store s.block s.at s.value

-- the events of the command, and then the stores of the frame list
abbrev pub next_row : DriverContent → Command → DriverRow
next_row d c =
    if links c && nat_le (length (events_of c)) d.made then link_row (next_store d.periodic.list) else command_row c d.made

-- ---- what stands after a command's event

-- the endpoint of this number leaves the ring
abbrev pub leave_ring : DriverContent → ℕ → Option Endpoint → DriverContent
leave_ring d e None = d
leave_ring d e (Some x) =
    if x.linked then record d { waiting = d.waiting ++ e ∷ []; endpoints = slice_set d.endpoints e (record x { linked = false }) } else d

-- no command is unfinished, so the driver may be offered the next one
abbrev pub no_command : DriverContent → DriverContent
no_command d = record d { command = None; made = 0 }

-- what has left the frame list last
abbrev pub removal_of : Removed → Removal
removal_of what = record { what = what; boundary = Unread }

-- the endpoint of this number has left its frames
abbrev pub leave_frames : DriverContent → ℕ → Option Endpoint → DriverContent
leave_frames d e None = d
leave_frames d e (Some x) =
    if x.chained then
    record d {
      endpoints = slice_set d.endpoints e (record x { chained = false });
      periodic = record d.periodic { removals = d.periodic.removals ++ removal_of (removed.Endpoint e) ∷ [] };
    }
    else d

-- what the last event of a command leaves: a queue head that was unlinked has left the ring (4.8.2), and a periodic endpoint its frames
-- (4.6)
abbrev pub finished : DriverContent → Command → DriverContent
finished d (unfinished.Open queue) = no_command d
finished d (unfinished.Publish b words) = no_command d
finished d (unfinished.Unlink e b link) = leave_ring (no_command d) e (slice_get d.endpoints e)
finished d unfinished.Chain = no_command d
finished d (unfinished.Iso e t count) = no_command d
finished d (unfinished.Unchain e) = leave_frames (no_command d) e (slice_get d.endpoints e)

-- the frame list after the last of the command's own events, or after a store of the list
abbrev pub list_after : DriverContent → Command → Periodic
list_after d c = if nat_lt d.made (length (events_of c)) then d.periodic.list else after_store d.periodic.list

-- a command that links or unlinks is finished once nothing is under way
abbrev pub or_finished : DriverContent → Command → DriverContent
or_finished d c = if is_none d.periodic.list.work then finished d c else d

-- what follows the last of the command's own events, or a store of the frame list (4.6): the next member's turn, or the end of the command
abbrev pub linked_on : DriverContent → Command → DriverContent
linked_on d c =
    or_finished (record d { made = length (events_of c); periodic = begun_next (removes_members c) (record d.periodic { list = list_after d c }) }) c

-- one more event of the command was made
abbrev pub advanced_by : DriverContent → Option Command → DriverContent
advanced_by d None = d
advanced_by d (Some c) =
    if nat_lt (suc d.made) (length (events_of c)) then record d { made = suc d.made }
    else (if links c then linked_on d c else finished d c)

-- one more event of the unfinished command was made
abbrev pub advance : DriverContent → DriverContent
advance d = advanced_by d d.command

-- the runs that the command took are Lent: the controller may read and write them (3)
abbrev pub after_lend : Parts → Holding → Parts
after_lend p h = record p { driver = advance (record p.driver { book = h.book }); memory = h.memory }
