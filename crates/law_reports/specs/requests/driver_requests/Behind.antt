-- The order of an endpoint's requests once earlier ones were given back (EHCI 1.0, 4.10; USB 2.0, 8.5.3): the transfers of the endpoint are the earlier ones,
-- then the requests of the queue.
--     AreBehind ..          so they are, and these requests were asked
--     NoneEarlier           the law: where none is earlier, they are the requests of the queue in their order
--     FirstGoes             .. and the first of the queue goes to the earlier ones
--     RowsLeaveBehind, AcceptedBehind, AcceptedBeside
--                           the laws of the driver's rows, and of what is accepted of this endpoint, and of another one
--     ToldBehind            the law of what is told: the windows of the earlier ones, then those of the queue's requests
use Rattle.std.specs.Prelude.{◌≡◌, ◌≢◌, ℕ, suc, ◌<◌, List, [], ◌∷◌, ◌++◌, length, map, Option}
use Rattle.usb_base.specs.declared.commands.Cmd.{Cmd}
use Rattle.usb_base.specs.declared.commands.Cmd.TheVariants as commands
use Rattle.usb_base.specs.declared.endpoints.EpName.{EpName}
use Rattle.word_mem.specs.Memory.{Mem}
use Rattle.drv_table.specs.declared.rows.DriverRow.{DriverRow}
use Rattle.drv_table.specs.DriverContent.{DriverContent}
use Rattle.drv_table.specs.Accepting.{Offered}
use Rattle.drv_table.specs.Parts.{Parts}
use Rattle.drv_table.specs.Rows.{after_driver_row}
use Rattle.law_driver.specs.run_owners.Accepts.{Transfers}
use Rattle.claims_report.specs.Requests.{Request}
use Rattle.law_devices.specs.ring_requests.Laid.{Places}
use Rattle.law_devices.specs.ring_requests.Windows.{Queue, Lines}
use Rattle.law_devices.specs.ring_requests.Runs.{first_of}
use Rattle.law_devices.specs.request_stores.Published.{with_request, without_first}
use Rattle.claims_world.specs.Requests.{Windows, asks_then, numbers_of, window_at, windows_of}
use Rattle.law_reports.specs.requests.world_requests.Recording.{AreRecorded, AreInOrder, told_at}
use Rattle.law_reports.specs.requests.driver_requests.Requests.{AreOfEndpoint}
use Rattle.law_reports.specs.requests.driver_requests.Rows.{number_with}

pub record AreBehind (d : DriverContent) (asks : ℕ → Request) (e : ℕ) (earlier : List ℕ) (v : Queue) (number : ℕ → ℕ) : Type 0 where
  pub numbers : numbers_of d e ≡ earlier ++ first_of number v.count
  pub requests : (i : ℕ) → i < v.count → asks (number i) ≡ v.requests i

abbrev pub NoneEarlier : Type 0
NoneEarlier = (d : DriverContent) (asks : ℕ → Request) (e : ℕ) (v : Queue) (number : ℕ → ℕ) → AreInOrder d asks e v number → AreBehind d asks e [] v number

abbrev pub FirstGoes : Type 0
FirstGoes = (d : DriverContent) (asks : ℕ → Request) (e : ℕ) (earlier : List ℕ) (v : Queue) (number : ℕ → ℕ) → 0 < v.count → AreBehind d asks e earlier v number
    → AreBehind d asks e (earlier ++ number 0 ∷ []) (without_first v) (λ k. number (suc k))

abbrev pub RowsLeaveBehind : Type 0
RowsLeaveBehind = (p : Parts) (row : DriverRow) (asks : ℕ → Request) (i : ℕ) (earlier : List ℕ) (v : Queue) (number : ℕ → ℕ) → AreBehind p.driver asks i earlier v number
    → AreBehind (after_driver_row row p).driver asks i earlier v number

abbrev pub AcceptedBehind : Type 0
AcceptedBehind = (d : DriverContent) (m : Mem) (o : Offered) (why : Transfers d m o) (name : EpName) (setup bytes : List ℕ) (asks : ℕ → Request) (earlier : List ℕ) (v : Queue) (under n : ℕ) (number : ℕ → ℕ) (x : Places)
    → AreOfEndpoint d v under n why.number number → AreBehind d asks why.number earlier v number
    → AreBehind o.driver (asks_then d (commands.Control name setup bytes) asks) why.number earlier (with_request v (record { setup = setup; bytes = bytes }) x) (number_with v.count number (length d.transfers))

abbrev pub AcceptedBeside : Type 0
AcceptedBeside = (d : DriverContent) (m : Mem) (o : Offered) (why : Transfers d m o) (cmd : Cmd) (asks : ℕ → Request) (earlier : List ℕ) (v : Queue) (under n i : ℕ) (number : ℕ → ℕ) → i ≢ why.number
    → AreOfEndpoint d v under n i number → AreBehind d asks i earlier v number → AreBehind o.driver (asks_then d cmd asks) i earlier v number

abbrev pub ToldBehind : Type 0
ToldBehind = (d : DriverContent) (asks : ℕ → Request) (w : Windows) (e : ℕ) (earlier : List ℕ) (v : Queue) (number : ℕ → ℕ) (latest : Option ℕ) (l : Lines) → AreBehind d asks e earlier v number
    → AreRecorded v number latest w.acts l → windows_of d asks w e ≡ map (window_at asks w) earlier ++ first_of (told_at v l) v.count
