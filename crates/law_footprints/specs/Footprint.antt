-- What each event of the driver may change, field by field: its rows (EHCI 1.0, 4.6 to 4.10), and commands once they are accepted.
--     Footprint             of each field whether it may change; `descriptors` are the notes of isochronous descriptors
--     footprint row o       what the row may change while o is the unfinished command
--     offer_footprint cmd   what the command may change at its acceptance
--     merged f old new      the fields of `new` that f names, and all others of `old`
--     Stays f old new       `new` differs from `old` in fields that f names alone
use Rattle.std.specs.Prelude.{◌≡◌, Bool, true, false, ◌||◌, Option, Some, None, if◌then◌else◌}
use Rattle.usb_base.specs.declared.commands.Cmd.{Cmd}
use Rattle.usb_base.specs.declared.commands.Cmd.TheVariants as commands
use Rattle.usb_base.specs.declared.packets.EpKind.{EpKind}
use Rattle.usb_base.specs.declared.packets.EpKind.TheVariants as kinds
use Rattle.drv_periodic_table.specs.declared.content.Removed.{Removed}
use Rattle.drv_periodic_table.specs.declared.content.Removed.TheVariants as removed
use Rattle.drv_periodic_table.specs.Periodic.{PeriodicContent, is_periodic}
use Rattle.drv_table.specs.declared.content.Command.{Command}
use Rattle.drv_table.specs.declared.content.Command.TheVariants as unfinished
use Rattle.drv_table.specs.declared.rows.DriverRow.{DriverRow}
use Rattle.drv_table.specs.declared.rows.DriverRow.TheVariants as rows
use Rattle.drv_table.specs.declared.rows.Found.{Found}
use Rattle.drv_table.specs.declared.rows.Found.TheVariants as founds
use Rattle.drv_table.specs.Commands.{links}
use Rattle.drv_table.specs.DriverContent.{DriverContent}
use Rattle.drv_table.specs.Parts.{Parts}

pub record Footprint : Type 0 where
  pub book : Bool
  pub endpoints : Bool
  pub transfers : Bool
  pub notes : Bool
  pub command : Bool
  pub made : Bool
  pub turn : Bool
  pub place : Bool
  pub mends : Bool
  pub harvested : Bool
  pub waiting : Bool
  pub rung : Bool
  pub cleared : Bool
  pub bell : Bool
  pub reports : Bool
  pub store : Bool
  pub room : Bool
  pub plan : Bool
  pub list : Bool
  pub queued : Bool
  pub descriptors : Bool
  pub unlinks : Bool
  pub removals : Bool
  pub status_next : Bool
  pub registers : Bool
  pub memory : Bool

-- each field, or none
abbrev pub each_as : Bool → Footprint
each_as b = record {
  book = b;
  endpoints = b;
  transfers = b;
  notes = b;
  command = b;
  made = b;
  turn = b;
  place = b;
  mends = b;
  harvested = b;
  waiting = b;
  rung = b;
  cleared = b;
  bell = b;
  reports = b;
  store = b;
  room = b;
  plan = b;
  list = b;
  queued = b;
  descriptors = b;
  unlinks = b;
  removals = b;
  status_next = b;
  registers = b;
  memory = b;
}

abbrev pub nothing : Footprint
nothing = each_as false

abbrev pub everything : Footprint
everything = each_as true

abbrev pub merged_periodic : Footprint → PeriodicContent → PeriodicContent → PeriodicContent
merged_periodic f old new = record {
  plan = if f.plan then new.plan else old.plan;
  list = if f.list then new.list else old.list;
  queued = if f.queued then new.queued else old.queued;
  notes = if f.descriptors then new.notes else old.notes;
  unlinks = if f.unlinks then new.unlinks else old.unlinks;
  removals = if f.removals then new.removals else old.removals;
  status_next = if f.status_next then new.status_next else old.status_next;
}

abbrev pub merged_driver : Footprint → DriverContent → DriverContent → DriverContent
merged_driver f old new = record {
  book = if f.book then new.book else old.book;
  endpoints = if f.endpoints then new.endpoints else old.endpoints;
  transfers = if f.transfers then new.transfers else old.transfers;
  notes = if f.notes then new.notes else old.notes;
  command = if f.command then new.command else old.command;
  made = if f.made then new.made else old.made;
  turn = if f.turn then new.turn else old.turn;
  place = if f.place then new.place else old.place;
  mends = if f.mends then new.mends else old.mends;
  harvested = if f.harvested then new.harvested else old.harvested;
  waiting = if f.waiting then new.waiting else old.waiting;
  rung = if f.rung then new.rung else old.rung;
  cleared = if f.cleared then new.cleared else old.cleared;
  bell = if f.bell then new.bell else old.bell;
  reports = if f.reports then new.reports else old.reports;
  store = if f.store then new.store else old.store;
  room = if f.room then new.room else old.room;
  periodic = merged_periodic f old.periodic new.periodic;
}

abbrev pub merged : Footprint → Parts → Parts → Parts
merged f old new = record {
  driver = merged_driver f old.driver new.driver;
  registers = if f.registers then new.registers else old.registers;
  memory = if f.memory then new.memory else old.memory;
}

abbrev pub DriverStays : Footprint → DriverContent → DriverContent → Type 0
DriverStays f old new = new ≡ merged_driver f old new

abbrev pub Stays : Footprint → Parts → Parts → Type 0
Stays f old new = new ≡ merged f old new

-- ---- rows. Conditions stand inside the record, so that a field which no command touches computes for any command

abbrev pub leaves_ring : Option Command → Bool
leaves_ring (Some (unfinished.Unlink e b link)) = true
leaves_ring _ = false

abbrev pub leaves_frames : Option Command → Bool
leaves_frames (Some (unfinished.Unchain e)) = true
leaves_frames _ = false

-- the command links or unlinks members of the frame list
abbrev pub uses_list : Option Command → Bool
uses_list None = false
uses_list (Some c) = links c

abbrev pub is_of_descriptors : Option Command → Bool
is_of_descriptors (Some (unfinished.Iso e t count)) = true
is_of_descriptors _ = false

-- one more event of the command
abbrev pub command_footprint : Option Command → Footprint
command_footprint o = record nothing {
  command = true;
  made = true;
  waiting = leaves_ring o;
  endpoints = leaves_ring o || leaves_frames o;
  list = uses_list o;
  queued = uses_list o;
  removals = leaves_frames o;
}

-- the command's descriptors get their frames
abbrev pub framed_footprint : Option Command → Footprint
framed_footprint o = record nothing {
  command = is_of_descriptors o;
  made = is_of_descriptors o;
  list = is_of_descriptors o;
  queued = is_of_descriptors o;
  descriptors = is_of_descriptors o;
  removals = is_of_descriptors o;
}

-- after leaving work it is harvest's turn
abbrev pub leaving : Footprint
leaving = record nothing { turn = true }

abbrev pub is_moved : Found → Bool
is_moved (founds.Moved n) = true
is_moved _ = false

abbrev pub is_served : Found → Bool
is_served (founds.Served errors) = true
is_served _ = false

abbrev pub is_ended : Found → Bool
is_ended (founds.Ended n what) = true
is_ended _ = false

abbrev pub harvest_footprint : Found → Footprint
harvest_footprint found = record nothing {
  turn = true;
  place = true;
  notes = is_moved found || is_ended found;
  transfers = is_moved found || is_ended found || is_served found;
  reports = is_ended found || is_served found;
  store = is_ended found || is_served found;
  endpoints = is_ended found || is_served found;
  harvested = is_ended found;
  mends = is_ended found;
  unlinks = is_served found;
}

abbrev pub is_endpoint : Removed → Bool
is_endpoint (removed.Descriptor t) = false
is_endpoint (removed.Endpoint e) = true

abbrev pub removed_footprint : Removed → Footprint
removed_footprint what = record leaving {
  book = true;
  transfers = true;
  removals = true;
  memory = true;
  endpoints = is_endpoint what;
  reports = is_endpoint what;
  store = is_endpoint what;
  plan = is_endpoint what;
}

abbrev pub footprint : DriverRow → Option Command → Footprint
footprint rows.Lend o = record (command_footprint o) { book = true; memory = true }
footprint (rows.Store b at v) o = record (command_footprint o) { memory = true }
footprint (rows.Mend w) o = record leaving { mends = true; memory = true }
footprint rows.Frames o = framed_footprint o
footprint rows.LendDescriptors o = record (command_footprint o) { book = true; memory = true }
footprint (rows.Unlink t) o = record leaving { list = true; unlinks = true; removals = true; memory = true }
footprint (rows.ReleaseRemoved what) o = removed_footprint what
footprint (rows.ReleaseTransfer t) o = record leaving { book = true; transfers = true; harvested = true; memory = true }
footprint (rows.ReleaseEndpoint e) o =
    record leaving { book = true; endpoints = true; transfers = true; reports = true; store = true; cleared = true; memory = true }
footprint rows.ClearAdvance o = record leaving { cleared = true; rung = true; bell = true; registers = true }
footprint rows.RingBell o = record leaving { waiting = true; rung = true; bell = true; registers = true }
footprint (rows.ReadStatus heard) o = record leaving { bell = true; status_next = true }
footprint (rows.ReadFrame n) o = record leaving { status_next = true; removals = true }
footprint (rows.Harvest e t found) o = harvest_footprint found
footprint rows.Rest o = nothing

-- ---- commands once they are accepted

-- bulk, control and interrupt endpoints have a queue head; that of an interrupt endpoint is linked in the frame list
abbrev pub has_queue : EpKind → Bool
has_queue kinds.Iso = false
has_queue _ = true

abbrev pub is_interrupt : EpKind → Bool
is_interrupt kinds.Interrupt = true
is_interrupt _ = false

abbrev pub open_footprint : EpKind → Footprint
open_footprint kind = record nothing {
  endpoints = true;
  room = true;
  book = has_queue kind;
  command = has_queue kind;
  made = has_queue kind;
  plan = is_periodic kind;
  list = is_interrupt kind;
}

abbrev pub transfer_footprint : Footprint
transfer_footprint =
    record nothing { book = true; endpoints = true; transfers = true; notes = true; command = true; made = true; room = true }

abbrev pub iso_footprint : Footprint
iso_footprint =
    record nothing { book = true; endpoints = true; transfers = true; descriptors = true; command = true; made = true; room = true }

abbrev pub cancel_footprint : Footprint
cancel_footprint =
    record nothing { endpoints = true; command = true; made = true; list = true; queued = true; removals = true; room = true }

abbrev pub offer_footprint : Cmd → Footprint
offer_footprint (commands.OpenEp x) = open_footprint x.kind
offer_footprint (commands.Get name len by) = transfer_footprint
offer_footprint (commands.Put name bytes by) = transfer_footprint
offer_footprint (commands.Control name setup bytes) = transfer_footprint
offer_footprint (commands.Iso name count len seed) = iso_footprint
offer_footprint (commands.Cancel name) = cancel_footprint
offer_footprint _ = nothing
