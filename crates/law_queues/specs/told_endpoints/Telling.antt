-- What the lines of a report tell of each endpoint of a driver (EHCI 1.0, 4.10; USB 2.0, 8.6): the bytes of a transfer of which not all qTDs are harvested
-- are held back, and come behind those of its lines.
--     Named, named_of x          an endpoint's name, whether it has a stream of data one way (bulk, interrupt), and why it ended
--     named_in xs e              those of the endpoint of number e
--     lines_in name reports      the lines of an endpoint that tell of a transfer or of its end
--     has_end lines              one of these lines ends the endpoint
--     IsToldTo ..                its lines, and behind them the bytes that are held back, are these bytes; it is told to end once, where it has
--     TellsEach ..               the same of each endpoint that has a stream, and no line but a refusal names what is no endpoint of these
--     SameNames ..               endpoints are named as before
use Rattle.std.specs.Prelude.{◌≡◌, ℕ, Bool, true, false, List, [], ◌++◌, length, filter, slice_get, Option, Some, None, option_map}
use Rattle.std.specs.List.{list_any}
use Rattle.usb_base.specs.declared.endpoints.EpName.{EpName}
use Rattle.usb_base.specs.declared.endpoints.EndCause.{EndCause}
use Rattle.usb_base.specs.declared.reports.Report.{Report}
use Rattle.report_text.specs.ReportText.{AreStored}
use Rattle.bus_wire.specs.Fates.{is_same_name}
use Rattle.claims_report.specs.Reports.{is_end, is_line_of}
use Rattle.claims_report.specs.Streams.{told_in, ends_once, has_stream}
use Rattle.drv_table.specs.declared.content.Endpoint.{Endpoint}
use Rattle.law_driver.specs.endpoint_lives.Lives.{told_end}

pub record Named : Type 0 where
  pub name : EpName
  pub stream : Bool
  pub ended : Option EndCause

abbrev pub named_of : Endpoint → Named
named_of x = record { name = x.desc.name; stream = has_stream x.desc.kind; ended = told_end x }

abbrev pub named_in : List Endpoint → ℕ → Option Named
named_in xs e = option_map named_of (slice_get xs e)

-- ---- lines

abbrev pub lines_in : EpName → List Report → List Report
lines_in name reports = filter (is_line_of name) reports

abbrev pub has_end : List Report → Bool
has_end lines = list_any (λ line. is_end line.what) lines

-- ---- one endpoint

pub record IsToldTo (reports : List Report) (store : List ℕ) (x : Named) (held told : List ℕ) : Type 0 where
  pub sum : told_in store (lines_in x.name reports) ++ held ≡ told
  pub going : x.ended ≡ None → has_end (lines_in x.name reports) ≡ false
  pub over : (cause : EndCause) → x.ended ≡ Some cause → (held ≡ []) × (ends_once (lines_in x.name reports) ≡ true)

-- ---- all of them

pub record TellsEach (reports : List Report) (store : List ℕ) (named : ℕ → Option Named) (held told : ℕ → List ℕ) : Type 0 where
  pub stored : AreStored reports (length store)
  pub each : (e : ℕ) (x : Named) → named e ≡ Some x → x.stream ≡ true → IsToldTo reports store x (held e) (told e)
  pub only : (name : EpName) → ((e : ℕ) (x : Named) → named e ≡ Some x → is_same_name x.name name ≡ false) → lines_in name reports ≡ []
  pub apart : (e k : ℕ) (x y : Named) → named e ≡ Some x → named k ≡ Some y → is_same_name x.name y.name ≡ true → e ≡ k

abbrev pub SameNames : (ℕ → Option Named) → (ℕ → Option Named) → Type 0
SameNames named now = (e : ℕ) → now e ≡ named e
