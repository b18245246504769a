-- The request by which a clear empties the buffer of a hub's translator (USB 2.0, 11.17.5 and 11.24.2.3): it is one of the hub's endpoint
-- 0, and has no line of its own.
--     hub_zero x                    endpoint 0 of the hub of an endpoint
--     clear_setup x                 the setup bytes for an endpoint
--     request_done d h t n x y      transfer y of number t, of the hub's endpoint x, is done
--     request_failed d e h t n ..   it ended otherwise: the hub's endpoint ends with it, and a line of endpoint e tells it
use Rattle.std.specs.Prelude.{ℕ, ◌+◌, ◌-◌, ◌*◌, ◌/◌, ◌%◌, max, true, List, [], ◌∷◌, slice_get, slice_set, Some, option_map, unwrap_or}
use Rattle.usb_base.specs.declared.endpoints.EndCause.{EndCause}
use Rattle.usb_base.specs.declared.endpoints.EndCause.TheVariants as causes
use Rattle.usb_base.specs.declared.endpoints.EpDesc.{EpDesc}
use Rattle.usb_base.specs.declared.endpoints.EpName.{EpName}
use Rattle.usb_base.specs.declared.packets.EpKind.{EpKind}
use Rattle.usb_base.specs.declared.packets.EpKind.TheVariants as kinds
use Rattle.usb_base.specs.declared.packets.Way.{Way}
use Rattle.usb_base.specs.declared.packets.Way.TheVariants as ways
use Rattle.usb_base.specs.declared.reports.What.{What}
use Rattle.usb_base.specs.declared.reports.What.TheVariants as lines
use Rattle.drv_table.specs.declared.content.Endpoint.{Endpoint}
use Rattle.drv_table.specs.declared.content.Transfer.{Transfer}
use Rattle.drv_table.specs.DriverContent.{DriverContent}
use Rattle.drv_table.specs.Harvesting.{goes_on, served}
use Rattle.drv_table.specs.Harvests.{noted, reported}

abbrev pub hub_zero : EpDesc → EpName
hub_zero x = record { addr = unwrap_or x.hub 0; num = 0; way = ways.Ctl }

-- the type of the endpoint, in bits 12:11 of wValue
abbrev pub type_bits : EpKind → ℕ
type_bits kinds.Control = 0
type_bits kinds.Iso = 1
type_bits kinds.Bulk = 2
type_bits kinds.Interrupt = 3

-- bit 15 of wValue: the endpoint is an IN
abbrev pub way_bit : Way → ℕ
way_bit ways.In = 1
way_bit ways.Out = 0
way_bit ways.Ctl = 0

-- wValue of CLEAR_TT_BUFFER: bits 3:0 endpoint, 10:4 address, 12:11 type, 15 IN
abbrev pub clear_value : EpDesc → ℕ
clear_value x = x.name.num + 16 * x.name.addr + 2048 * type_bits x.kind + 32768 * way_bit x.name.way

-- wIndex is the port where the hub has a translator for each, else 1
abbrev pub clear_setup : EpDesc → List ℕ
clear_setup x = 0x23 ∷ 8 ∷ clear_value x % 256 ∷ clear_value x / 256 ∷ max 1 x.tt ∷ 0 ∷ 0 ∷ 0 ∷ []

-- ---- its end

-- its last qTD was read, and no line is made
abbrev pub untold : DriverContent → ℕ → ℕ → Transfer → DriverContent
untold d t n y = record d { notes = noted d.notes y.place n; transfers = slice_set d.transfers t (record y { reported = true }) }

abbrev pub request_done : DriverContent → ℕ → ℕ → ℕ → Endpoint → Transfer → DriverContent
request_done d h t n x y = served (goes_on (untold d t n y) h t x) h

-- the cause of an end that isn't Done; a hub knows the request, so that it answers no STALL
abbrev pub cause_of : What → EndCause
cause_of (lines.Halt cause) = cause
cause_of lines.Miss = causes.Miss
cause_of _ = causes.Error

-- the name of the endpoint of this number
abbrev pub name_at : DriverContent → ℕ → EpName
name_at d e = unwrap_or (option_map (λ x. x.desc.name) (slice_get d.endpoints e)) (record { addr = 0; num = 0; way = ways.Ctl })

abbrev pub failed_with : DriverContent → ℕ → ℕ → Endpoint → EndCause → DriverContent
failed_with d e h x cause =
    record (reported d (lines.ClearFailed cause) (name_at d e) []) {
      endpoints = slice_set d.endpoints h (record x { ended = Some cause });
      room = record d.room { reports = d.room.reports - 1 };
    }

abbrev pub request_failed : DriverContent → ℕ → ℕ → ℕ → ℕ → Endpoint → Transfer → EndCause → DriverContent
request_failed d e h t n x y cause = served (failed_with (untold d t n y) e h x cause) h
