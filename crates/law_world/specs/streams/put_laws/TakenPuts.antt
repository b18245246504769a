-- The puts of a driver's transfers, and those of the lines that were taken (EHCI 1.0, 4.10; USB 2.0, 5.8).
--     puts_of d puts e            the puts of the transfers of endpoint e, in their order; `puts` tells their bytes by the number of the transfer
--     puts_to r taken name        the bytes of the puts to an endpoint among these lines, but of those that the report refuses
--     opened_in r taken           the endpoints that these lines opened, but for the opens that the report refuses
--     PutsAreTaken d r taken puts the puts of each OUT endpoint of the driver are those of the lines that were taken, and each refusal of the report is of
--                                 a command among them
--     puts_tick p puts            the puts after one event or command of a run: a put that is offered has the number of the next transfer
--     puts_at s k                 .. at a moment of the run of a script
use Rattle.std.specs.Prelude.{◌≡◌, ◌≢◌, ℕ, zero, suc, ◌<◌, ◌==◌, true, false, List, [], ◌∷◌, length, filter_map, slice_get, Some, if◌then◌else◌}
use Rattle.std.specs.List.{AllByRecursion, concat}
use Rattle.usb_base.specs.declared.commands.Cmd.{Cmd}
use Rattle.usb_base.specs.declared.endpoints.EpDesc.{EpDesc}
use Rattle.usb_base.specs.declared.endpoints.EpName.{EpName}
use Rattle.script_types.specs.declared.scripts.Line.{Line}
use Rattle.script_types.specs.declared.scripts.Line.TheVariants as lines
use Rattle.script_types.specs.declared.scripts.Script.{Script}
use Rattle.drv_table.specs.declared.content.Endpoint.{Endpoint}
use Rattle.drv_table.specs.declared.content.Transfer.{Transfer}
use Rattle.drv_table.specs.DriverContent.{DriverContent}
use Rattle.claims_report.specs.Reports.{WholeReport}
use Rattle.claims_report.specs.Streams.{is_refused, accepted_in, open_in, put_in, has_stream}
use Rattle.bus_wire.specs.Bus.{fixed_of}
use Rattle.claims_driver.specs.Scripts.{receives}
use Rattle.bus_world.specs.World.{World}
use Rattle.bus_world.specs.Orders.{Left, Command, OrderedWorld}
use Rattle.bus_world.specs.Budgets.{moment}
use Rattle.claims_world.specs.Streams.{report_of}
use Rattle.law_world.specs.streams.put_laws.HeldPuts.{puts_then}
use Rattle.law_world.specs.streams.put_laws.TakenLines.{AreTaken}

-- ---- the puts of transfers

-- of these transfers, whose first has number n
abbrev pub puts_from : (ℕ → List ℕ) → ℕ → ℕ → List Transfer → List (List ℕ)
puts_from puts e n [] = []
puts_from puts e n (y ∷ ys) = if y.endpoint == e then puts n ∷ puts_from puts e (suc n) ys else puts_from puts e (suc n) ys

abbrev pub puts_of : DriverContent → (ℕ → List ℕ) → ℕ → List (List ℕ)
puts_of d puts e = puts_from puts e 0 d.transfers

-- ---- the puts of lines

abbrev pub puts_to : WholeReport → List (ℕ × Line) → EpName → List ℕ
puts_to r taken name = concat (filter_map (put_in name) (filter_map (accepted_in r) taken))

abbrev pub opened_in : WholeReport → List (ℕ × Line) → List EpDesc
opened_in r taken = filter_map open_in (filter_map (accepted_in r) taken)

-- ---- both

-- the driver has this endpoint
pub record IsOpen (d : DriverContent) (desc : EpDesc) : Type 0 where
  pub number : ℕ
  pub endpoint : Endpoint
  pub here : slice_get d.endpoints number ≡ Some endpoint
  pub same : endpoint.desc ≡ desc

abbrev pub IsUnnamed : DriverContent → EpName → Type 0
IsUnnamed d name = (e : ℕ) (x : Endpoint) → slice_get d.endpoints e ≡ Some x → x.desc.name ≢ name

-- a command has this number
pub record IsCommandAmong (taken : List (ℕ × Line)) (n : ℕ) : Type 0 where
  pub at : ℕ
  pub cmd : Cmd
  pub here : slice_get taken at ≡ Some (n, lines.Command cmd)

pub record PutsAreTaken (d : DriverContent) (r : WholeReport) (taken : List (ℕ × Line)) (puts : ℕ → List ℕ) : Type 0 where
  -- of each OUT endpoint with a stream
  pub each : (e : ℕ) (x : Endpoint) → slice_get d.endpoints e ≡ Some x → has_stream x.desc.kind ≡ true → receives x.desc.name.way ≡ false
      → concat (puts_of d puts e) ≡ puts_to r taken x.desc.name
  -- of no endpoint that isn't open
  pub others : (name : EpName) → IsUnnamed d name → puts_to r taken name ≡ []
  pub opened : AllByRecursion (IsOpen d) (opened_in r taken)
  pub refused : (n : ℕ) → is_refused r n ≡ true → IsCommandAmong taken n
  -- endpoints have names of their own, and transfers are of endpoints
  pub apart : (e k : ℕ) (x y : Endpoint) → slice_get d.endpoints e ≡ Some x → slice_get d.endpoints k ≡ Some y → x.desc.name ≡ y.desc.name → e ≡ k
  pub within : (t : ℕ) (y : Transfer) → slice_get d.transfers t ≡ Some y → y.endpoint < length d.endpoints

-- ---- along a run

abbrev pub no_puts : ℕ → List ℕ
no_puts t = []

abbrev pub puts_by : World → Left → (ℕ → List ℕ) → ℕ → List ℕ
puts_by w (Command n cmd) puts = puts_then w.driver cmd puts
puts_by w _ puts = puts

abbrev pub puts_next : World → List Left → (ℕ → List ℕ) → ℕ → List ℕ
puts_next w [] puts = puts
puts_next w (x ∷ rest) puts = puts_by w x puts

abbrev pub puts_tick : OrderedWorld → (ℕ → List ℕ) → ℕ → List ℕ
puts_tick p puts = puts_next p.world p.orders puts

unfoldable pub puts_at : Script → ℕ → ℕ → List ℕ
puts_at s zero = no_puts
puts_at s (suc k) = puts_tick (moment s k) (puts_at s k)

-- at this place of a run of the script some of its lines were taken, and their puts are those of the driver's transfers
pub record HasTaken (s : Script) (p : OrderedWorld) (puts : ℕ → List ℕ) : Type 0 where
  pub taken : List (ℕ × Line)
  pub left : List (ℕ × Line)
  pub lines : AreTaken s p taken left
  pub sent : PutsAreTaken p.world.driver (report_of (fixed_of s) p.world) taken puts
