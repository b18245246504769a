-- What the report of a run counts, and the line that tells it.
--     summary_of fixed w     the counts of a world
--     summary_line n s       the line of the load script of n
use Rattle.std.specs.Prelude.{ℕ, Bool, true, false, List, [], ◌∷◌, if◌then◌else◌, sum_by, count_by, codes}
use Rattle.std.specs.Fmt.{decimal}
use Rattle.usb_base.specs.declared.reports.What.{What}
use Rattle.usb_base.specs.declared.reports.What.TheVariants.{Done, Halt, Miss, Refused}
use Rattle.usb_base.specs.declared.reports.Report.{Report}
use Rattle.report_text.specs.ReportText.{line_text}
use Rattle.drv_table.specs.DriverContent.{DriverContent}
use Rattle.bus_wire.specs.declared.seats.Seat.{Seat}
use Rattle.bus_wire.specs.Bus.{Fixed}
use Rattle.bus_world.specs.World.{World}
use Rattle.bus_world.specs.Closing.{waiting}
use Rattle.report_load.specs.declared.summary.Summary.{Summary}

abbrev pub is_refused : What → Bool
is_refused (Refused line why) = true
is_refused _ = false

abbrev pub is_done : What → Bool
is_done Done = true
is_done _ = false

-- halted, or a complete-split was missed
abbrev pub is_halted : What → Bool
is_halted (Halt cause) = true
is_halted Miss = true
is_halted _ = false

-- how many lines of the report are of such a kind
abbrev pub lines_of : (What → Bool) → List Report → ℕ
lines_of kind reports = count_by (λ r. kind r.what) reports

-- the bytes of a line that tells of something done
abbrev pub done_bytes : Report → ℕ
done_bytes r = if is_done r.what then r.len else 0

-- how much waits at an endpoint
abbrev pub waiting_at : DriverContent → Seat → ℕ
waiting_at d seat = waiting d seat.name

abbrev pub summary_of : Fixed → World → Summary
summary_of fixed w = record {
  refused = lines_of is_refused w.driver.reports;
  done = lines_of is_done w.driver.reports;
  halted = lines_of is_halted w.driver.reports;
  pending = sum_by (waiting_at w.driver) fixed.seats;
  bytes = sum_by done_bytes w.driver.reports;
}

-- a word and a number
abbrev pub counted : List ℕ → ℕ → List (List ℕ) → List (List ℕ)
counted word n more = word ∷ decimal n ∷ more

-- `load <n> endpoints 40 refused <r> done <d> halted <h> pending <p> bytes <b>`; the script has forty endpoints
abbrev pub summary_line : ℕ → Summary → List ℕ
summary_line n s =
    line_text
    (counted (codes "load") n
    (codes "endpoints" ∷ codes "40"
    ∷ counted (codes "refused") s.refused
    (counted (codes "done") s.done
    (counted (codes "halted") s.halted
    (counted (codes "pending") s.pending
    (counted (codes "bytes") s.bytes []))))))
