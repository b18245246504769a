-- Laws of the lines that a run takes, and of the puts of its driver (EHCI 1.0, 4.8 and 4.10; USB 2.0, 5.8 and 8.6).
--     EventKeepsPuts        an event of the driver or of the controller leaves what was put
--     CommandTakesPuts      a command with a later number is one more of the lines: accepted, or refused
--     TickTakesPuts         so each event and command of a run takes the puts along
--     PutsStay              .. and changes none of those that the driver has
--     MomentsTakePuts       so it is at each moment of a script whose numbers rise
--     TextsRise             as do those of each script that a text spells
--     AllAreTaken           once no order is left, all lines were taken
--     StreamsArePuts s p puts      the puts of an OUT endpoint begin its stream in the report, and are all of it at the end of the run
--     StreamsAreOfPuts      so it is at each moment
--     IsKeptWithPuts, HoldsWithPuts     what each event and command keeps of worlds and puts holds at each moment of them
--     IsKeptWhile, HoldsWhile     .. where an event of the controller keeps it in some worlds alone, at each moment before which all were
--                                 such
use Rattle.std.specs.Prelude.{◌≡◌, ℕ, ◌<◌, true, false, List, [], ◌∷◌, ◌++◌, length, slice_get, Some}
use Rattle.std.specs.List.{AllByRecursion, concat}
use Rattle.usb_base.specs.declared.commands.Cmd.{Cmd}
use Rattle.script_types.specs.declared.scripts.Event.{Event}
use Rattle.script_types.specs.declared.scripts.Line.{Line}
use Rattle.script_types.specs.declared.scripts.Line.TheVariants as lines
use Rattle.script_types.specs.declared.scripts.Script.{Script}
use Rattle.script_text.specs.Faults.{Spells}
use Rattle.script_fits.specs.Fits.{IsFit}
use Rattle.bus_wire.specs.Bus.{Fixed, fixed_of}
use Rattle.drv_table.specs.declared.content.Endpoint.{Endpoint}
use Rattle.drv_table.specs.Offers.{IsOffered}
use Rattle.claims_base.specs.Prefix.{IsPrefix}
use Rattle.claims_report.specs.Streams.{opened, stream, has_stream}
use Rattle.claims_driver.specs.Scripts.{receives}
use Rattle.bus_world.specs.World.{World, next, driver_next, controller_next, commanded}
use Rattle.bus_world.specs.Opening.{opening_world}
use Rattle.bus_world.specs.Orders.{OrderedWorld, tick}
use Rattle.bus_world.specs.Budgets.{moment}
use Rattle.law_world.specs.steps.receiving_runs.Runs.{KindOfLine}
use Rattle.claims_world.specs.Streams.{report_of}
use Rattle.law_world.specs.streams.put_laws.TakenLines.{NumbersRise, AreTaken}
use Rattle.law_world.specs.streams.put_laws.HeldPuts.{puts_then}
use Rattle.law_world.specs.streams.put_laws.TakenPuts.{puts_of, IsOpen, PutsAreTaken, no_puts, puts_tick, puts_at, HasTaken}

abbrev pub EventKeepsPuts : Type 0
EventKeepsPuts = (fixed : Fixed) (w : World) (event : Event) (taken : List (ℕ × Line)) (puts : ℕ → List ℕ) → PutsAreTaken w.driver (report_of fixed w) taken puts
    → PutsAreTaken (next fixed w event).driver (report_of fixed (next fixed w event)) taken puts

abbrev pub CommandTakesPuts : Type 0
CommandTakesPuts = (fixed : Fixed) (w : World) (n : ℕ) (cmd : Cmd) (taken : List (ℕ × Line)) (puts : ℕ → List ℕ) → AllByRecursion (λ line. line.0 < n) taken
    → PutsAreTaken w.driver (report_of fixed w) taken puts
    → PutsAreTaken (commanded w n cmd).driver (report_of fixed (commanded w n cmd)) (taken ++ (n, lines.Command cmd) ∷ []) (puts_then w.driver cmd puts)

abbrev pub TickTakesPuts : Type 0
TickTakesPuts = (s : Script) (p : OrderedWorld) (puts : ℕ → List ℕ) → NumbersRise s → HasTaken s p puts → HasTaken s (tick (fixed_of s) p) (puts_tick p puts)

abbrev pub PutsStay : Type 0
PutsStay = (fixed : Fixed) (p : OrderedWorld) (puts : ℕ → List ℕ) (t : ℕ) → t < length p.world.driver.transfers
    → (t < length (tick fixed p).world.driver.transfers) × (puts_tick p puts t ≡ puts t)

abbrev pub MomentsTakePuts : Type 0
MomentsTakePuts = (s : Script) → NumbersRise s → (k : ℕ) → HasTaken s (moment s k) (puts_at s k)

abbrev pub TextsRise : Type 0
TextsRise = (text : List ℕ) (s : Script) → Spells text s → NumbersRise s

-- ---- streams

abbrev pub AllAreTaken : Type 0
AllAreTaken = (s : Script) (p : OrderedWorld) (taken left : List (ℕ × Line)) → AreTaken s p taken left → p.orders ≡ [] → (left ≡ []) × (taken ≡ s.lines)

pub record StreamsArePuts (s : Script) (p : OrderedWorld) (puts : ℕ → List ℕ) : Type 0 where
  pub begin : (e : ℕ) (x : Endpoint) → slice_get p.world.driver.endpoints e ≡ Some x → has_stream x.desc.kind ≡ true → receives x.desc.name.way ≡ false
      → IsPrefix (concat (puts_of p.world.driver puts e)) (stream s (report_of (fixed_of s) p.world) x.desc.name)
  -- once no order is left
  pub all : p.orders ≡ [] → (e : ℕ) (x : Endpoint) → slice_get p.world.driver.endpoints e ≡ Some x → has_stream x.desc.kind ≡ true → receives x.desc.name.way ≡ false
      → stream s (report_of (fixed_of s) p.world) x.desc.name ≡ concat (puts_of p.world.driver puts e)
  pub opened : p.orders ≡ [] → AllByRecursion (IsOpen p.world.driver) (opened s (report_of (fixed_of s) p.world))

abbrev pub StreamsAreOfPuts : Type 0
StreamsAreOfPuts = (s : Script) → NumbersRise s → (k : ℕ) → StreamsArePuts s (moment s k) (puts_at s k)

-- ---- what goes along with the puts

pub record IsKeptWithPuts (fixed : Fixed) (can : Cmd → Type 0) (holds : World → (ℕ → List ℕ) → Type 0) : Type 0 where
  pub driver : (w : World) (puts : ℕ → List ℕ) → holds w puts → holds (driver_next w) puts
  pub controller : (w : World) (puts : ℕ → List ℕ) → holds w puts → holds (controller_next fixed w) puts
  pub command : (w : World) (line : ℕ) (cmd : Cmd) (puts : ℕ → List ℕ) → can cmd → IsOffered w.driver.room cmd → holds w puts
      → holds (commanded w line cmd) (puts_then w.driver cmd puts)

abbrev pub HoldsWithPuts : (Cmd → Type 0) → (World → (ℕ → List ℕ) → Type 0) → Type 0
HoldsWithPuts can holds = (s : Script) → IsFit s → AllByRecursion (λ line. KindOfLine can line.1) s.lines → holds (opening_world s) no_puts → IsKeptWithPuts (fixed_of s) can holds
    → (k : ℕ) → holds (moment s k).world (puts_at s k)

pub record IsKeptWhile (fixed : Fixed) (can : Cmd → Type 0) (ok : World → Type 0) (holds : World → (ℕ → List ℕ) → Type 0) : Type 0 where
  pub driver : (w : World) (puts : ℕ → List ℕ) → holds w puts → holds (driver_next w) puts
  pub controller : (w : World) (puts : ℕ → List ℕ) → ok w → holds w puts → holds (controller_next fixed w) puts
  pub command : (w : World) (line : ℕ) (cmd : Cmd) (puts : ℕ → List ℕ) → can cmd → IsOffered w.driver.room cmd → holds w puts
      → holds (commanded w line cmd) (puts_then w.driver cmd puts)

abbrev pub HoldsWhile : (Cmd → Type 0) → (World → Type 0) → (World → (ℕ → List ℕ) → Type 0) → Type 0
HoldsWhile can ok holds = (s : Script) → IsFit s → AllByRecursion (λ line. KindOfLine can line.1) s.lines → holds (opening_world s) no_puts
    → IsKeptWhile (fixed_of s) can ok holds → (k : ℕ) → ((j : ℕ) → j < k → ok (moment s j).world) → holds (moment s k).world (puts_at s k)
