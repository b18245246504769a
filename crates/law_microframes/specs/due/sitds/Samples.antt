-- Sounds behind a hub, for worked rows (EHCI 1.0, 3.4 and 4.12.3; USB 2.0, 5.6 and 11.18): a full-speed speaker takes 400 bytes a frame, in
-- three parts, and a full-speed microphone sends up to 300, for which two complete-splits bring bytes.
--     speaker, microphone     the endpoints, of device 3 behind port 1 of hub 9
--     with_sound x n          the script that opens one of them, and asks for one descriptor, of n bytes where it is an OUT
--     sound_from x n p        its world with that endpoint placed so, once the descriptor is stored, as its frame comes, with nine events
--     sound_at x n p k        its world k of them later: the microframe begins, the descriptor is fetched, its transaction is made, and it
--                             is written back
--     sounds x n p k          what the walk came to by then, and what is made
--     speaker_place, microphone_place     placements that they may have
--     said k                  the siTD of an OUT of 400 bytes from microframe 1 on, after k of its parts
--     asked, heard            the siTD of an IN after its start-split, and after a complete-split in microframe 2 that brings 188 bytes;
--                             and last: after one in microframe 3 that brings the last 12
--     made_so v r             a transaction that leaves v, which stands at byte address 64, and in which the host heard r
--     nothing_heard, first_bytes, last_bytes     what it heard: of an OUT nothing that counts; 188 bytes; the last 12
use Rattle.std.specs.Prelude.{ℕ, zero, suc, false, List, [], ◌∷◌, Some, replicate}
use Rattle.usb_base.specs.declared.commands.Cmd.TheVariants as commands
use Rattle.usb_base.specs.declared.endpoints.EpDesc.{EpDesc}
use Rattle.usb_base.specs.declared.packets.Pid.TheVariants as pids
use Rattle.usb_base.specs.declared.packets.Reply.{Reply}
use Rattle.usb_base.specs.declared.packets.Reply.TheVariants.{Bytes}
use Rattle.usb_base.specs.declared.packets.Speed.TheVariants as speeds
use Rattle.usb_base.specs.declared.packets.Way.TheVariants as ways
use Rattle.script_types.specs.declared.scripts.Event.TheVariants as events
use Rattle.script_types.specs.declared.scripts.Line.{Line}
use Rattle.script_types.specs.declared.scripts.Line.TheVariants as lines
use Rattle.script_types.specs.declared.scripts.Script.{Script}
use Rattle.itd_sitd.specs.declared.sitd.Sitd.{Sitd}
use Rattle.bandwidth.specs.declared.placements.Placement.{Placement}
use Rattle.drv_periodic_table.specs.Samples.{behind_a_hub}
use Rattle.drv_table.specs.Offers.{accepted_iso}
use Rattle.hc_iso.specs.Sitd.{sitd_after}
use Rattle.hc_iso.specs.Samples.{split_in, split_out}
use Rattle.bus_wire.specs.Bus.{fixed_of}
use Rattle.bus_world.specs.Opening.{opening_world}
use Rattle.bus_world.specs.Orders.{Events, OrderedWorld, at_place, orders_of, ticks}
use Rattle.bus_world.specs.World.{World}
use Rattle.claims_world.specs.Carried.{carried_from}
use Rattle.claims_world.specs.Sitds.{SitdMade, Sitds, no_sitds, sitds_next}

abbrev pub speaker : EpDesc
speaker = behind_a_hub 2 ways.Out 400

abbrev pub microphone : EpDesc
microphone = behind_a_hub 3 ways.In 300

abbrev pub speaker_place : Placement
speaker_place = record { period = 8; phase = 0; smask = 7; cmask = 0 }

abbrev pub microphone_place : Placement
microphone_place = record { period = 8; phase = 0; smask = 1; cmask = 60 }

abbrev pub asked_for : EpDesc → ℕ → List (ℕ × Line)
asked_for x n = (6, lines.Command (commands.Iso x.name 1 n 0)) ∷ (7, lines.Order events.D 3) ∷ []

abbrev pub with_sound : EpDesc → ℕ → Script
with_sound x n = record {
  words = 2048;
  hubs = record { addr = 9; ports = 1; attached = Some speeds.Full ∷ []; multi = false } ∷ [];
  devices = record { addr = 3; speed = speeds.Full; eps = record { desc = x; items = []; room = 0; stuff = 0; clears = 0 } ∷ [] } ∷ [];
  endpoints = x.name ∷ [];
  fates = [];
  holds = [];
  lines = (5, lines.Command (commands.OpenEp x)) ∷ asked_for x n;
  version = 1;
  frames = 1024;
  park = 0;
  roots = [];
  classics = [];
  disks = [];
}

abbrev pub stored : EpDesc → ℕ → Placement → World
stored x n p =
    (ticks (fixed_of (with_sound x n))
    (at_place (record (opening_world (with_sound x n)) { driver = accepted_iso (opening_world (with_sound x n)).driver x p })
    (orders_of (asked_for x n))) 4).world

abbrev pub sound_from : EpDesc → ℕ → Placement → OrderedWorld
sound_from x n p =
    at_place (record (stored x n p) { registers = record (stored x n p).registers { frame_index = 15 } }) (Events events.C 9 ∷ [])

abbrev pub sound_at : EpDesc → ℕ → Placement → ℕ → World
sound_at x n p k = (ticks (fixed_of (with_sound x n)) (sound_from x n p) k).world

abbrev pub sounds : EpDesc → ℕ → Placement → ℕ → Sitds
sounds x n p k = carried_from sitds_next (fixed_of (with_sound x n)) (sound_from x n p) no_sitds k

-- ---- part by part

abbrev pub said : ℕ → Sitd
said zero = split_out 400 3 1
said (suc k) = sitd_after (suc k) (Bytes pids.Data0 []) (said k)

abbrev pub asked : Sitd
asked = sitd_after 0 (Bytes pids.Data0 []) (split_in false 200)

abbrev pub heard : Sitd
heard = sitd_after 2 (Bytes pids.Mdata (replicate 188 0)) asked

abbrev pub last : Sitd
last = sitd_after 3 (Bytes pids.Data0 (replicate 12 0)) heard

-- it stands at byte address 64, and the host heard this
abbrev pub made_so : Sitd → Reply → SitdMade
made_so v r = record { at = 64; sitd = v; heard = r }

abbrev pub nothing_heard : Reply
nothing_heard = Bytes pids.Data0 []

abbrev pub first_bytes : Reply
first_bytes = Bytes pids.Mdata (replicate 188 0)

abbrev pub last_bytes : Reply
last_bytes = Bytes pids.Data0 (replicate 12 0)
