-- Laws of bulk and interrupt OUT endpoints below hubs, whatever else is open (EHCI 1.0, 4.6 to 4.12; USB 2.0, 8.6, 11.14 and 11.17).
--     OpensSpot o cmd          an endpoint that the command opens is at its spot
--     WorldFindsNoneTold       where the walk of the frames comes to a start-split, the pipeline of its hub has nothing of its key that was
--                              told
--     ControllerKeepsBehind, DriverKeepsBehind, CommandKeepsBehind
--                              each event and each command leaves them as they must stand
--     spots_of s               the spots of a script: where its lines open such endpoints
--     OpensSpots s             each endpoint that a line of the script opens is at its spot
--     OpensUnsent s            before the first line no hub has anything of them, and nothing was sent
--     TextsFindNoneTold        no start-split of a script that a text spells finds what was told
--     TextsOpenSpots           so it is in each script that a text spells
--     NewWorldIsBehind         so they stand before the first line
--     ScriptsAreBehind, TextsAreBehind      .. and at each moment of each script
use Rattle.std.specs.Prelude.{◌≡◌, ℕ, ◌-◌, ◌==◌, ◌&&◌, Bool, true, false, List, find, position, is_some, Option, Some, None}
use Rattle.std.specs.Prelude.{if◌then◌else◌}
use Rattle.std.specs.List.{AllByRecursion}
use Rattle.std.specs.Option.{option_map_or}
use Rattle.usb_base.specs.declared.commands.Cmd.{Cmd}
use Rattle.usb_base.specs.declared.commands.Cmd.TheVariants as commands
use Rattle.usb_base.specs.declared.endpoints.EpDesc.{EpDesc}
use Rattle.script_types.specs.declared.devices.HubText.{HubText}
use Rattle.script_types.specs.declared.scripts.Line.{Line}
use Rattle.script_types.specs.declared.scripts.Line.TheVariants as lines
use Rattle.script_types.specs.declared.scripts.Script.{Script}
use Rattle.script_fits.specs.Fits.{IsFit}
use Rattle.script_text.specs.Faults.{Spells}
use Rattle.bus_wire.specs.Bus.{Fixed, Wired, fixed_of, opening_bus, opening_wired}
use Rattle.claims_world.specs.BelowStreams.{is_claimed_below}
use Rattle.drv_periodic_table.specs.Periodic.{is_periodic}
use Rattle.drv_table.specs.Offers.{IsOffered}
use Rattle.periodic_walk.specs.declared.state.HeldQueue.{HeldQueue}
use Rattle.law_scripts.specs.byte_answers.Bytes.{IsByteScript, IsByteCommand}
use Rattle.law_below_hubs.specs.HostOuts.{FindsNoneTold}
use Rattle.law_below_hubs.specs.Splits.{IsAtHub}
use Rattle.law_microframes.specs.translators.Fresh.{IsStarting, key_started}
use Rattle.law_world.specs.steps.Streaming.{wired}
use Rattle.law_world.specs.steps.receiving_runs.Runs.{KindOfLine}
use Rattle.law_world.specs.streams.put_laws.HeldPuts.{puts_then}
use Rattle.law_world.specs.streams.put_laws.TakenPuts.{no_puts, puts_at}
use Rattle.law_world.specs.memory.Opens.{OpensMixed}
use Rattle.law_world.specs.memory.PlacedLaws.{FitsMixed}
use Rattle.bus_world.specs.Budgets.{moment}
use Rattle.bus_world.specs.Opening.{opening_world}
use Rattle.bus_world.specs.World.{World, driver_next, controller_next, commanded}
use Rattle.law_reports.specs.pipes.Declared.{Sides, sides_of}
use Rattle.law_reports.specs.pipes.PipedLaws.{OpensDeclared, DeclaresOpens}
use Rattle.law_reports.specs.pipes.below_hubs.Behind.{Spots, IsSpot, IsUnsent, HasBehind}

abbrev pub OpensSpot : Spots → Cmd → Type 0
OpensSpot o (commands.OpenEp d) = IsSpot o d
OpensSpot o _ = Unit {0}

abbrev pub WorldFindsNoneTold : Wired → World → Type 0
WorldFindsNoneTold wire w = (h : HeldQueue) → IsStarting w h → (i place : ℕ)
    → IsAtHub wire.bus.hubs h.copy.queue_head.hub h.copy.queue_head.port i place
    → FindsNoneTold (key_started h.copy.queue_head) i place wire

abbrev pub ControllerKeepsBehind : Type 0
ControllerKeepsBehind = (fixed : Fixed) (x : Sides) (o : Spots) (puts : ℕ → List ℕ) (w : World) → WorldFindsNoneTold (wired fixed w) w
    → HasBehind fixed x o puts w → HasBehind fixed x o puts (controller_next fixed w)

abbrev pub DriverKeepsBehind : Type 0
DriverKeepsBehind = (fixed : Fixed) (x : Sides) (o : Spots) (puts : ℕ → List ℕ) (w : World) → HasBehind fixed x o puts w
    → HasBehind fixed x o puts (driver_next w)

abbrev pub CommandKeepsBehind : Type 0
CommandKeepsBehind = (fixed : Fixed) (x : Sides) (o : Spots) (puts : ℕ → List ℕ) (w : World) (line : ℕ) (cmd : Cmd) → OpensMixed cmd
    → OpensDeclared x cmd → OpensSpot o cmd → IsByteCommand cmd → IsOffered w.driver.room cmd → HasBehind fixed x o puts w
    → HasBehind fixed x o (puts_then w.driver cmd puts) (commanded w line cmd)

-- ---- a script

-- it opens an OUT endpoint with a stream below a hub that has this address and number
abbrev pub opens_below : Script → ℕ → ℕ → Line → Bool
opens_below s addr ep (lines.Command (commands.OpenEp d)) = is_claimed_below s d && (d.name.addr == addr && d.name.num == ep)
opens_below s addr ep _ = false

abbrev pub desc_in : Option (ℕ × Line) → Option EpDesc
desc_in (Some (n, lines.Command (commands.OpenEp d))) = Some d
desc_in _ = None

abbrev pub desc_below : Script → ℕ → ℕ → Option EpDesc
desc_below s addr ep = desc_in (find (λ l. opens_below s addr ep l.1) s.lines)

abbrev pub hub_of : Script → Option ℕ → ℕ
hub_of s None = 0
hub_of s (Some hub) = option_map_or (λ i. i) (position (λ h. h.address == hub) (opening_bus s).hubs) 0

-- one translator for all ports, or one for each (11.14)
abbrev pub translator_of : ℕ → HubText → ℕ
translator_of port h = if h.multi then port - 1 else 0

abbrev pub place_of : Script → Option ℕ → ℕ → ℕ
place_of s None port = 0
place_of s (Some hub) port = option_map_or (translator_of port) (find (λ h. h.addr == hub) s.hubs) 0

abbrev pub spots_of : Script → Spots
spots_of s = record {
  has = λ addr ep. is_some (desc_below s addr ep);
  periodic = λ addr ep. option_map_or (λ d. is_periodic d.kind) (desc_below s addr ep) false;
  hub = λ addr ep. option_map_or (λ d. hub_of s d.hub) (desc_below s addr ep) 0;
  place = λ addr ep. option_map_or (λ d. place_of s d.hub d.port) (desc_below s addr ep) 0;
  hubs = (opening_bus s).hubs;
}

abbrev pub OpensSpots : Script → Type 0
OpensSpots s = AllByRecursion (λ line. KindOfLine (OpensSpot (spots_of s)) line.1) s.lines

abbrev pub OpensUnsent : Script → Type 0
OpensUnsent s = (addr ep : ℕ) → (spots_of s).has addr ep ≡ true → IsUnsent (spots_of s) (opening_wired s) addr ep

abbrev pub TextsOpenSpots : Type 0
TextsOpenSpots = (text : List ℕ) (s : Script) → Spells text s → OpensSpots s × OpensUnsent s

abbrev pub NewWorldIsBehind : Type 0
NewWorldIsBehind = (s : Script) → IsFit s → IsByteScript s → OpensUnsent s
    → HasBehind (fixed_of s) (sides_of s) (spots_of s) no_puts (opening_world s)

-- so it is at each moment of each script that a text spells
abbrev pub TextsFindNoneTold : Type 0
TextsFindNoneTold = (text : List ℕ) (s : Script) → Spells text s → (k : ℕ)
    → WorldFindsNoneTold (wired (fixed_of s) (moment s k).world) (moment s k).world

abbrev pub ScriptsAreBehind : Type 0
ScriptsAreBehind = (s : Script) → IsFit s → IsByteScript s → FitsMixed s → DeclaresOpens s → OpensSpots s → OpensUnsent s
    → ((k : ℕ) → WorldFindsNoneTold (wired (fixed_of s) (moment s k).world) (moment s k).world) → (k : ℕ)
    → HasBehind (fixed_of s) (sides_of s) (spots_of s) (puts_at s k) (moment s k).world

abbrev pub TextsAreBehind : Type 0
TextsAreBehind = (text : List ℕ) (s : Script) → Spells text s → (k : ℕ)
    → HasBehind (fixed_of s) (sides_of s) (spots_of s) (puts_at s k) (moment s k).world
