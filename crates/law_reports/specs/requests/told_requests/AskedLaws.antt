-- Laws of the requests of a driver's transfers along a run (EHCI 1.0, 4.8 and 4.10; USB 2.0, 8.5.3).
--     EventKeepsRequests        an event of the driver or of the controller leaves what was asked
--     CommandTakesRequests      a command with a later number is one more of the lines: accepted, or refused
--     TickTakesRequests         so each event and command of a run takes the requests along
--     MomentsTakeRequests       so it is at each moment of a script whose numbers rise
--     MomentsAsk                at each moment the requests of a driver's transfers begin those of the script by the report, and at the end are all of them
--     AsksStay                  no event or command changes the request of a transfer
use Rattle.std.specs.Prelude.{◌≡◌, ℕ, ◌<◌, List, [], ◌∷◌, ◌++◌, length}
use Rattle.std.specs.List.{AllByRecursion}
use Rattle.usb_base.specs.declared.commands.Cmd.{Cmd}
use Rattle.script_types.specs.declared.scripts.Event.{Event}
use Rattle.script_types.specs.declared.scripts.Line.{Line}
use Rattle.script_types.specs.declared.scripts.Line.TheVariants as lines
use Rattle.script_types.specs.declared.scripts.Script.{Script}
use Rattle.bus_wire.specs.Bus.{Fixed, fixed_of}
use Rattle.claims_report.specs.Requests.{Request}
use Rattle.bus_world.specs.World.{World, next, commanded}
use Rattle.bus_world.specs.Orders.{OrderedWorld, tick}
use Rattle.bus_world.specs.Budgets.{moment}
use Rattle.claims_world.specs.Streams.{report_of}
use Rattle.law_world.specs.streams.put_laws.TakenLines.{NumbersRise}
use Rattle.law_world.specs.streams.put_laws.TakenPuts.{PutsAreTaken, puts_tick, puts_at}
use Rattle.claims_world.specs.Requests.{asks_then, asks_next, asks_at}
use Rattle.law_reports.specs.requests.told_requests.Asked.{RequestsAreTaken, HasAsked, RequestsAreAsked}

abbrev pub EventKeepsRequests : Type 0
EventKeepsRequests = (fixed : Fixed) (w : World) (event : Event) (taken : List (ℕ × Line)) (asks : ℕ → Request) → RequestsAreTaken w.driver (report_of fixed w) taken asks
    → RequestsAreTaken (next fixed w event).driver (report_of fixed (next fixed w event)) taken asks

abbrev pub CommandTakesRequests : Type 0
CommandTakesRequests = (fixed : Fixed) (w : World) (n : ℕ) (cmd : Cmd) (taken : List (ℕ × Line)) (puts : ℕ → List ℕ) (asks : ℕ → Request) → AllByRecursion (λ line. line.0 < n) taken
    → PutsAreTaken w.driver (report_of fixed w) taken puts → RequestsAreTaken w.driver (report_of fixed w) taken asks
    → RequestsAreTaken (commanded w n cmd).driver (report_of fixed (commanded w n cmd)) (taken ++ (n, lines.Command cmd) ∷ []) (asks_then w.driver cmd asks)

abbrev pub TickTakesRequests : Type 0
TickTakesRequests = (s : Script) (p : OrderedWorld) (puts : ℕ → List ℕ) (asks : ℕ → Request) → NumbersRise s → HasAsked s p puts asks
    → HasAsked s (tick (fixed_of s) p) (puts_tick p puts) (asks_next p.world p.orders asks)

abbrev pub MomentsTakeRequests : Type 0
MomentsTakeRequests = (s : Script) → NumbersRise s → (k : ℕ) → HasAsked s (moment s k) (puts_at s k) (asks_at s k)

abbrev pub MomentsAsk : Type 0
MomentsAsk = (s : Script) → NumbersRise s → (k : ℕ) → RequestsAreAsked s (moment s k) (asks_at s k)

abbrev pub AsksStay : Type 0
AsksStay = (p : OrderedWorld) (asks : ℕ → Request) (t : ℕ) → t < length p.world.driver.transfers → asks_next p.world p.orders asks t ≡ asks t
