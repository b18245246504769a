-- What the worked rows compute.
use Rattle.std.proofs.Common.{◌≡◌, ℕ, zero, suc, [], ◌∷◌, length, slice_get, Some, refl, arith}
use Rattle.std.specs.Prelude.{count_by, take, drop}
use Rattle.usb_base.specs.declared.commands.Cmd.TheVariants.{OpenEp}
use Rattle.usb_base.specs.declared.endpoints.EndCause.TheVariants.{Stall}
use Rattle.usb_base.specs.declared.reports.OfferError.TheVariants.{Busy}
use Rattle.usb_base.specs.declared.reports.What.TheVariants.{Refused, Halt}
use Rattle.script_types.specs.declared.scripts.Event.TheVariants.{D}
use Rattle.script_types.specs.declared.scripts.Line.TheVariants.{Order}
use Rattle.word_mem.specs.Memory.{filled}
use Rattle.word_mem.specs.Views.{with_words_in}
use Rattle.word_mem.specs.Free.{lowest_run}
use Rattle.qh_qtd.specs.Qtd.{qtd_words}
use Rattle.qh_qtd.specs.QueueHead.{qh_words}
use Rattle.mem_runs.specs.Book.{lend_runs, store_words}
use Rattle.endpoint_script.specs.Device.{Device}
use Rattle.endpoint_script.specs.Controlling.{controlling_at}
use Rattle.bus_wire.specs.Bus.{fixed_of}
use Rattle.drv_table.specs.DriverContent.{waits_for}
use Rattle.drv_table.specs.Harvesting.{behind}
use Rattle.claims_report.specs.Controls.{side_in}
use Rattle.claims_report.specs.Reports.{acted}
use Rattle.claims_report.specs.Requests.{data_of, requests}
use Rattle.claims_report.specs.Samples.{two_requests, two_lines, control, read_two, read_unknown, window, line_of, commanded}
use Rattle.bus_world.specs.Orders.{ticks}
use Rattle.law_world.specs.streams.taken_reports.Seats.{AreApart}
use Rattle.claims_world.specs.Requests.{no_windows, asks_at, windows_of}
use Rattle.law_reports.specs.requests.told_requests.Told.{AreToldTo}
use Rattle.law_reports.specs.requests.told_requests.Asked.{requests_of, requests_to}
use Rattle.law_reports.specs.requests.told_requests.Claims.{CountsActs}
use Rattle.law_reports.specs.requests.told_requests.Samples.{two_windows, later_windows, first_line, stalled_driver, described, known, first, asking, after, report_after, asked}

-- ---- lines

pub none_yet : AreToldTo [] [] control (data_of two_requests control) two_windows two_windows
none_yet = record { told = tt; rest = refl; stored = tt }

pub one_line : AreToldTo first_line (18 ∷ 1 ∷ []) control (data_of two_requests control) two_windows (window read_unknown [] ∷ [])
one_line = record { told = ((refl, refl), tt); rest = refl; stored = (omega arith, tt) }

pub both_lines : AreToldTo (two_lines 1).lines (18 ∷ 1 ∷ []) control (data_of two_requests control) two_windows []
both_lines = record { told = ((refl, refl), (([], refl), tt)); rest = refl; stored = (omega arith, (omega arith, tt)) }

pub grown : AreToldTo first_line (18 ∷ 1 ∷ []) control (data_of two_requests control) (window read_two (read_two ∷ []) ∷ later_windows) later_windows
grown = record { told = ((refl, refl), tt); rest = refl; stored = (omega arith, tt) }

pub never_acted : AreToldTo first_line (18 ∷ 1 ∷ []) control (data_of two_requests control) (window read_two [] ∷ []) [] → ⊥
never_acted k = let acts : [] ≡ read_two ∷ [] = k.told.0.0 in cc

-- ---- behind a stalled one

pub both_wait :
    (count_by (waits_for 0) (take 2 (drop 1 stalled_driver.transfers)) ≡ 2)
    × ((behind stalled_driver 0 control 1 2).reports ≡ line_of control (Halt Stall) 0 0 ∷ line_of control (Halt Stall) 0 0 ∷ [])
    × (count_by (waits_for 0) (behind stalled_driver 0 control 1 2).transfers ≡ 0)
unfolding behind
both_wait = (refl, refl, refl)

-- ---- a run

pub accepted :
    (length (after 5).world.driver.transfers ≡ 1)
    × (requests_of (after 5).world.driver (asks_at asking 5) 0 ≡ asked read_two ∷ [])
    × (windows_of (after 5).world.driver (asks_at asking 5) no_windows 0 ≡ window read_two [] ∷ [])
    × (requests_to (report_after 5) (commanded 5 (OpenEp described) ∷ (6, Order D 2) ∷ first ∷ []) control ≡ asked read_two ∷ [])
    × (requests asking (report_after 5) control ≡ asked read_two ∷ asked read_unknown ∷ [])
unfolding ticks asks_at lowest_run filled with_words_in store_words lend_runs qh_words qtd_words
accepted = (refl, refl, refl, refl, refl)

pub refused :
    ((after 6).orders ≡ [])
    × (length (after 6).world.driver.transfers ≡ 1)
    × ((after 6).world.driver.reports ≡ line_of control (Refused 8 Busy) 0 0 ∷ [])
    × (requests_of (after 6).world.driver (asks_at asking 6) 0 ≡ asked read_two ∷ [])
    × (requests asking (report_after 6) control ≡ asked read_two ∷ [])
unfolding ticks asks_at lowest_run filled with_words_in store_words lend_runs qh_words qtd_words
refused = (refl, refl, refl, refl, refl)

-- ---- the closing line

none_at : {X : Type 0} (k : ℕ) (x : X) → slice_get [] k ≡ Some x → ⊥
none_at zero x is = cc
none_at (suc k) x is = cc

one_apart : (x : Device) → AreApart (x ∷ [])
one_apart x zero zero d e here there same = refl
one_apart x zero (suc j) d e here there same = absurd (none_at j e there)
one_apart x (suc i) j d e here there same = absurd (none_at i d here)

pub none_acted : acted (report_after 6) control ≡ Some 0
unfolding ticks lowest_run filled with_words_in store_words lend_runs qh_words qtd_words
none_acted = refl

pub counts : CountsActs (fixed_of asking) (after 6).world described (window read_two [] ∷ [])
unfolding ticks lowest_run filled with_words_in store_words lend_runs qh_words qtd_words
counts = record {
  way = refl;
  seat = record { place = 0; seat = _; here = refl; name = refl; kind = refl };
  apart = one_apart _;
  is_open = refl;
  device = side_in (controlling_at 2 known);
  is = refl;
  counts = refl;
  few = omega arith;
}
