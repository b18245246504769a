-- The endpoints of a bus, whose each is, and which of them an ask is for.
use Rattle.std.specs.Prelude.{ℕ, ◌+◌, ◌/◌, ◌%◌, ◌==◌, ◌&&◌, ◌≡◌, ◌<◌, length, slice_get, Some, None, Bool, true, false, List, [], ◌++◌, ◌∷◌, map, Option, position, find, filter_map, if◌then◌else◌}
use Rattle.usb_base.specs.declared.endpoints.EpName.{EpName}
use Rattle.usb_base.specs.declared.packets.EpKind.TheVariants.{Control}
use Rattle.usb_base.specs.declared.packets.Pid.{Pid}
use Rattle.usb_base.specs.declared.packets.Pid.TheVariants as Pids
use Rattle.usb_base.specs.declared.packets.Way.{Way}
use Rattle.usb_base.specs.declared.packets.Way.TheVariants as Ways
use Rattle.script_types.specs.declared.devices.DeviceText.{DeviceText}
use Rattle.script_types.specs.declared.devices.EpText.{EpText}
use Rattle.script_types.specs.declared.devices.HubText.{HubText}
use Rattle.script_types.specs.declared.scripts.Script.{Script}
use Rattle.bus_wire.specs.declared.seats.Owner.{Owner}
use Rattle.bus_wire.specs.declared.seats.Owner.TheVariants.{Hub, High, Below}
use Rattle.bus_wire.specs.declared.seats.Seat.{Seat}
use Rattle.bus_wire.specs.Fates.{is_same_name}
use Rattle.bus_wire.specs.declared.seats.TokenKind.{TokenKind}
use Rattle.bus_wire.specs.declared.seats.TokenKind.TheVariants.{In, Out, Setup, Other}

-- the token of an ask; a PING asks an OUT endpoint for its room (USB 2.0, 8.5.1)
abbrev pub token_kind : Pid → TokenKind
token_kind Pids.In = In
token_kind Pids.Out = Out
token_kind Pids.Ping = Out
token_kind Pids.Setup = Setup
token_kind _ = Other

-- which tokens an endpoint is asked by (8.4.1): a control endpoint has both directions
abbrev pub takes_token : Way → TokenKind → Bool
takes_token Ways.In In = true
takes_token Ways.Out Out = true
takes_token Ways.Ctl In = true
takes_token Ways.Ctl Out = true
takes_token Ways.Ctl Setup = true
takes_token _ _ = false

-- the endpoint has this address and number, and is asked by this token
abbrev pub suits : EpName → ℕ → ℕ → TokenKind → Bool
suits name addr num kind = name.addr == addr && (name.num == num && takes_token name.way kind)

-- the place of the first endpoint that suits
abbrev pub place_for : List Seat → ℕ → ℕ → TokenKind → Option ℕ
place_for seats addr num kind = position (λ s. suits s.name addr num kind) seats

-- ---- whose each endpoint is

-- the device at place n, on the high-speed bus or below the hub that its endpoint names (11.1), where stuffed bits count
abbrev pub owner_at : ℕ → Option ℕ → ℕ → ℕ → Owner
owner_at n None port stuff = High n
owner_at n (Some hub) port stuff = Below n hub port stuff

-- an endpoint of the device at place n
abbrev pub seat_at : ℕ → EpText → Seat
seat_at n e = record { name = e.desc.name; kind = e.desc.kind; owner = owner_at n e.desc.hub e.desc.port e.stuff }

-- the endpoints of the devices from place n on, in the order of the devices and of the lines of each
abbrev pub seats_from : ℕ → List DeviceText → List Seat
seats_from n [] = []
seats_from n (d ∷ ds) = map (seat_at n) d.eps ++ seats_from (n + 1) ds

-- endpoint 0 of a hub, by the hub's address
abbrev pub hub_name : ℕ → EpName
hub_name addr = record { addr = addr; num = 0; way = Ways.Ctl }

-- endpoint 0 of the hub at place n
abbrev pub hub_seat : ℕ → HubText → Seat
hub_seat n h = record { name = hub_name h.addr; kind = Control; owner = Hub n }

-- those of the hubs from place n on
abbrev pub hub_seats_from : ℕ → List HubText → List Seat
hub_seats_from n [] = []
hub_seats_from n (h ∷ hs) = hub_seat n h ∷ hub_seats_from (n + 1) hs

-- the endpoint with this name
abbrev pub seat_named : List Seat → EpName → Option Seat
seat_named seats name = find (λ s. is_same_name s.name name) seats

-- the endpoints of the devices in the order of their lines, whichever the device of each is
abbrev pub device_seats : Script → List Seat
device_seats s = filter_map (seat_named (seats_from 0 s.devices)) s.endpoints

-- endpoint 0 of each hub first, then those of the devices
abbrev pub seats_of : Script → List Seat
seats_of s = hub_seats_from 0 s.hubs ++ device_seats s

-- ---- places by number: a table of 64 places an address, four a number

abbrev pub column_of : TokenKind → ℕ
column_of In = 0
column_of Out = 1
column_of Setup = 2
column_of Other = 3

abbrev pub token_kind_at : ℕ → TokenKind
token_kind_at column = if column == 0 then In else (if column == 1 then Out else (if column == 2 then Setup else Other))

abbrev pub place_at : List Seat → ℕ → Option ℕ
place_at seats key = place_for seats (key / 64) (key / 4 % 16) (token_kind_at (key % 4))

-- the table has the place for each number
pub record IsTable (seats : List Seat) (table : List (Option ℕ)) : Type 0 where
  pub size : length table ≡ 8192
  pub each : (key : ℕ) → key < 8192 → slice_get table key ≡ Some (place_at seats key)
