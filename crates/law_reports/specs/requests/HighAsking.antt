-- The requests of control endpoints in a world with endpoints of every kind (EHCI 1.0, 3.5, 4.6 to 4.12; USB 2.0, 5.5 and 8.5.3): what
-- stands of them in a ring alone
-- stands beside interrupt and isochronous endpoints too, by what the queues tell of the driver.
--     told_world w                the world, with its driver as its queues tell it
--     told_standing s m           what is told of the queues, as that of a ring; in hand is what the walk of the ring has
--     told_streams s              which of them have data that come in, and their endpoints
--     IsSuited g x                the endpoint has a name of its kind, stands behind a hub where it isn't of high speed, and is given as
--     the script has it, where its
--                                 requests are asked of
--     AsksHigh g                  these requests are asked of endpoints at high speed alone
--     AreSuited g d               so are all endpoints of a driver
--     SuitsCommand g cmd          so is the endpoint that the command opens, if any; and the request that it makes, if any, is whole
--     HasHighAsks g fixed x v asks w
--                                 the world has its streams, and the requests of these control endpoints stand as they must
use Rattle.std.specs.Prelude.{◌≡◌, ℕ, ◌*◌, true, false, not, [], slice_get, is_some, Some}
use Rattle.usb_base.specs.declared.commands.Cmd.{Cmd}
use Rattle.usb_base.specs.declared.commands.Cmd.TheVariants as commands
use Rattle.usb_base.specs.declared.endpoints.EpDesc.{EpDesc}
use Rattle.usb_base.specs.declared.packets.Speed.{Speed}
use Rattle.bus_wire.specs.Bus.{Fixed}
use Rattle.claims_report.specs.Requests.{Request}
use Rattle.drv_table.specs.declared.content.Endpoint.{Endpoint}
use Rattle.drv_table.specs.DriverContent.{DriverContent}
use Rattle.drv_table.specs.Words.{head_block, opening_head, is_high}
use Rattle.law_devices.specs.declared_controls.Names.{IsNameOf}
use Rattle.law_devices.specs.declared_controls.Requests.{AsksCommand}
use Rattle.law_driver.specs.queued_drivers.Queued.{queued, queued_desc}
use Rattle.law_ring.specs.Told.{endpoint_of}
use Rattle.law_world.specs.memory.Mixed.{Standing}
use Rattle.law_world.specs.steps.Streaming.{Streams, Standing as RingStanding}
use Rattle.claims_world.specs.Requests.{wired, Windows}
use Rattle.law_reports.specs.lines.Lined.{Lines}
use Rattle.law_reports.specs.pipes.Declared.{Sides as Pipes}
use Rattle.law_reports.specs.pipes.Piped.{Heads, IsPiped}
use Rattle.law_reports.specs.requests.Asking.{Sides, IsGiven, Asking, AsksIn}
use Rattle.law_reports.specs.requests.Reading.{AreSilent}
use Rattle.bus_world.specs.World.{World}

-- ---- as the queues tell it

abbrev pub told_world : World → World
told_world w = record w { driver = queued w.driver }

abbrev pub told_standing : Standing → Lines → RingStanding
told_standing s m = record { parts = s.parts; hand = s.hand; acc = m.acc; order = s.order; out = s.out; reported = m.reported }

abbrev pub told_streams : Standing → Streams
told_streams s = record { stream = λ addr ep. false; packets = λ addr ep. []; streams = s.streams; endpoint = s.ends }

-- ---- the endpoints

pub record IsSuited (g : Sides) (x : EpDesc) : Type 0 where
  pub name : IsNameOf x.kind x.name
  pub below : is_some x.hub ≡ not (is_high x.speed)
  pub speed : g.asks (queued_desc x) ≡ true → g.speeds x.speed ≡ true
  pub given : g.asks (queued_desc x) ≡ true → IsGiven g (queued_desc x)

-- those whose requests are asked of are of high speed
abbrev pub AsksHigh : Sides → Type 0
AsksHigh g = (speed : Speed) → g.speeds speed ≡ true → is_high speed ≡ true

abbrev pub AreSuited : Sides → DriverContent → Type 0
AreSuited g d = (e : ℕ) (x : Endpoint) → slice_get d.endpoints e ≡ Some x → IsSuited g x.desc

-- ---- commands

abbrev pub SuitsOpened : Sides → Cmd → Type 0
SuitsOpened g (commands.OpenEp x) = IsSuited g x
SuitsOpened g _ = Unit {0}

pub record SuitsCommand (g : Sides) (cmd : Cmd) : Type 0 where
  pub opened : SuitsOpened g cmd
  pub asks : AsksCommand cmd

-- ---- the world

abbrev pub AsksAt : Sides → Fixed → Standing → Asking → Windows → (ℕ → Request) → World → Type 0
AsksAt g fixed s a v asks w = AsksIn g s.near s.parts s.hand a v asks (queued w.driver) w.memory (wired fixed w)

pub record HasHighAsks (g : Sides) (fixed : Fixed) (x : Pipes) (v : Windows) (asks : ℕ → Request) (w : World) : Type 0 where
  pub standing : Standing
  pub lines : Lines
  pub heads : Heads
  pub piped : IsPiped fixed x standing lines heads w
  -- the head of the ring is no device's (EHCI 1.0, 3.6.2)
  pub head : heads.ends (32 * head_block) ≡ endpoint_of opening_head
  pub suited : AreSuited g w.driver
  -- bytes are told of the data of a request alone
  pub silent : AreSilent (queued w.driver)
  pub asking : Asking
  pub world : AsksAt g fixed standing asking v asks w
