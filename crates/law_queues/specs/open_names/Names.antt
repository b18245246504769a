-- No two endpoints of the asynchronous schedule have one address, one number and one way (EHCI 1.0, 3.6.2; USB 2.0, 8.3.2), at each command and event.
--     NamesStayApart, AcceptedNamesAreApart, NewNamesAreApart     the laws
use Rattle.std.specs.Prelude.{ℕ, ◌⊎◌}
use Rattle.word_mem.specs.Memory.{Mem}
use Rattle.drv_table.specs.declared.content.Reserve.{Reserve}
use Rattle.drv_table.specs.DriverContent.{DriverContent}
use Rattle.drv_table.specs.Accepting.{Offered}
use Rattle.drv_table.specs.Opening.{opening}
use Rattle.drv_table.specs.Parts.{Parts}
use Rattle.drv_table.specs.Rows.{driver_row, after_driver_row}
use Rattle.law_driver.specs.run_owners.Accepts.{Opens, Transfers}
use Rattle.law_queues.specs.open_laws.Opens.{AreNamesApart}

abbrev pub NamesStayApart : Type 0
NamesStayApart = (p : Parts) → AreNamesApart p.driver → AreNamesApart (after_driver_row (driver_row p) p).driver

-- an endpoint is opened, or a get, a put or a request is taken on
abbrev pub AcceptedNamesAreApart : Type 0
AcceptedNamesAreApart = (d : DriverContent) (m : Mem) (o : Offered) → Opens d m o ⊎ Transfers d m o → AreNamesApart d → AreNamesApart o.driver

abbrev pub NewNamesAreApart : Type 0
NewNamesAreApart = (n : ℕ) (room : Reserve) → AreNamesApart (opening n room).driver
