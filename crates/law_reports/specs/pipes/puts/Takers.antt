-- The devices of the OUT endpoints at high speed, and what they took (EHCI 1.0, 4.10; USB 2.0, 5.8 and 8.5): each endpoint that was opened
-- has its taker on the bus, and where what each took begins what was put, the streams are right.
--     HaveHighTakers s w       each OUT endpoint at high speed of the world w has its taker on the bus
--     TakenBeginsPuts s        what each of these took begins what was put to its endpoint so far, at each moment of the script
--     FollowedHaveTakers       a world whose streams agree has its takers, also those of endpoints that left or are being opened
--     TextsHaveTakers          so it is at each moment of each script
--     TakenBeginsStreams       where what was taken begins what was put, it begins the streams at each moment of a script
--     TakenEndsRight           .. and once no line is left to do, all streams at high speed are right
use Rattle.std.specs.Prelude.{◌≡◌, ℕ, false, List, slice_get, Some}
use Rattle.std.specs.List.{concat}
use Rattle.script_types.specs.declared.scripts.Script.{Script}
use Rattle.script_text.specs.Faults.{Spells}
use Rattle.bus_wire.specs.Bus.{fixed_of}
use Rattle.claims_base.specs.Prefix.{IsPrefix}
use Rattle.claims_driver.specs.Scripts.{receives}
use Rattle.drv_table.specs.declared.content.Endpoint.{Endpoint}
use Rattle.law_ring.specs.OutBus.{Taker}
use Rattle.law_devices.specs.scripted_takers.Takers.{taker_of}
use Rattle.law_world.specs.steps.Streaming.{wired}
use Rattle.law_world.specs.streams.put_laws.TakenPuts.{puts_of, puts_at}
use Rattle.law_world.specs.streams.sending_worlds.ReportLaws.{HasNamedTaker}
use Rattle.bus_world.specs.Budgets.{moment}
use Rattle.bus_world.specs.World.{World}
use Rattle.law_reports.specs.pipes.Declared.{sides_of}
use Rattle.law_reports.specs.pipes.Piped.{HasFollowed}
use Rattle.law_reports.specs.pipes.high_streams.Reports.{IsHigh}
use Rattle.claims_world.specs.HighStreams.{HighOutsAreSent, HighStreamsEndRight}

abbrev pub HaveHighTakers : Script → World → Type 0
HaveHighTakers s w = (e : ℕ) (x : Endpoint) → slice_get w.driver.endpoints e ≡ Some x → IsHigh s x.desc → receives x.desc.name.way ≡ false
    → HasNamedTaker (fixed_of s) w x.desc.name

abbrev pub TakenBeginsPuts : Script → Type 0
TakenBeginsPuts s = (k e : ℕ) (x : Endpoint) (t : Taker) → slice_get (moment s k).world.driver.endpoints e ≡ Some x → IsHigh s x.desc
    → receives x.desc.name.way ≡ false
    → taker_of (wired (fixed_of s) (moment s k).world) x.desc.name.addr x.desc.name.num ≡ Some t
    → IsPrefix t.taken (concat (puts_of (moment s k).world.driver (puts_at s k) e))

abbrev pub FollowedHaveTakers : Type 0
FollowedHaveTakers = (s : Script) (w : World) → HasFollowed (fixed_of s) (sides_of s) w → HaveHighTakers s w

abbrev pub TextsHaveTakers : Type 0
TextsHaveTakers = (text : List ℕ) (s : Script) → Spells text s → (k : ℕ) → HaveHighTakers s (moment s k).world

abbrev pub TakenBeginsStreams : Type 0
TakenBeginsStreams = (text : List ℕ) (s : Script) → Spells text s → TakenBeginsPuts s → HighOutsAreSent s

abbrev pub TakenEndsRight : Type 0
TakenEndsRight = (text : List ℕ) (s : Script) → Spells text s → TakenBeginsPuts s → HighStreamsEndRight s
