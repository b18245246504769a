-- The requests of a script's control endpoints, and when those of a report are right: in the window of each the device acts at most once,
-- and on nothing else (USB 2.0, 8.5.3).
--     requests s r name        the accepted requests of an endpoint, in order
--     data_of s name q         the bytes of a request's data stage
--     Window                   a request with the acts of its window, which the run tells
--     AreRightRequests s r name windows      the requests of an endpoint are right
use Rattle.std.specs.Prelude.{◌≡◌, ⊤, ℕ, Bool, true, false, List, [], ◌∷◌, ◌++◌, length, map, filter, filter_map, Option, Some, None, if◌then◌else◌}
use Rattle.std.specs.List.{AllByRecursion}
use Rattle.usb_base.specs.declared.commands.Cmd.{Cmd}
use Rattle.usb_base.specs.declared.commands.Cmd.TheVariants as commands
use Rattle.usb_base.specs.declared.endpoints.EpName.{EpName}
use Rattle.usb_base.specs.declared.reports.Report.{Report}
use Rattle.usb_base.specs.declared.reports.What.{What}
use Rattle.usb_base.specs.declared.reports.What.TheVariants.{Done, Halt, Cancel}
use Rattle.script_types.specs.declared.scripts.Script.{Script}
use Rattle.dev_control.specs.Stages.{is_read, sent_of}
use Rattle.endpoint_script.specs.Controlling.{place_in, reply_at}
use Rattle.endpoint_script.specs.Items.{requests_of}
use Rattle.claims_report.specs.Acts.{IsOnce}
use Rattle.claims_base.specs.Prefix.{IsPrefix}
use Rattle.report_text.specs.ReportText.{bytes_of}
use Rattle.bus_wire.specs.Fates.{is_same_name}
use Rattle.claims_report.specs.Reports.{WholeReport, lines_of, acted}
use Rattle.claims_report.specs.Streams.{accepted, items_of}

pub record Request : Type 0 where
  pub setup : List ℕ  -- the eight setup bytes
  pub bytes : List ℕ  -- the bytes that it submits, where its data stage is an OUT

abbrev pub request_in : EpName → Cmd → Option Request
request_in name (commands.Control to setup bytes) = if is_same_name to name then Some (record { setup = setup; bytes = bytes }) else None
request_in name _ = None

abbrev pub requests : Script → WholeReport → EpName → List Request
requests s r name = filter_map (request_in name) (accepted s r)

-- ---- its data

-- the device's reply to a request, if it has one
abbrev pub reply_to : Script → EpName → List ℕ → Option (List ℕ)
reply_to s name setup = reply_at (requests_of (items_of s name)) (place_in (requests_of (items_of s name)) setup)

-- what a read brings: the reply, cut at wLength; where there is none, nothing
abbrev pub read_with : List ℕ → Option (List ℕ) → List ℕ
read_with setup None = []
read_with setup (Some reply) = sent_of setup reply

-- the bytes of its data stage, whichever way it goes
abbrev pub data_with : Option (List ℕ) → Request → List ℕ
data_with reply q = if is_read q.setup then read_with q.setup reply else q.bytes

abbrev pub data_of : Script → EpName → Request → List ℕ
data_of s name q = data_with (reply_to s name q.setup) q

-- ---- windows: from the first transaction that sends the SETUP of a request up to the first that sends that of a later one, or to the end

pub record Window : Type 0 where
  pub request : Request
  pub acts : List (List ℕ)  -- the setup bytes on which the device acted in it, in order

abbrev pub is_some_act : List (List ℕ) → Bool
is_some_act [] = false
is_some_act _ = true

abbrev pub has_acted : Window → Bool
has_acted w = is_some_act w.acts

-- ---- right requests

-- a list that is put together of a beginning of each of these
abbrev pub AreBegun : List ℕ → List (List ℕ) → Type 0
AreBegun bytes [] = bytes ≡ []
AreBegun bytes (x ∷ xs) = (begun rest : List ℕ) × (bytes ≡ begun ++ rest) × IsPrefix begun x × AreBegun rest xs

-- What a line tells of the requests that weren't reported before: the first is done, was acted on once, and its bytes are all its data;
-- it halted, and its bytes begin its data; or the endpoint was cancelled, and the bytes are such beginnings of all of them, joined.
abbrev pub IsTold : (Request → List ℕ) → What → List ℕ → List Window → Type 0
IsTold whole Done bytes (w ∷ ws) = (w.acts ≡ w.request.setup ∷ []) × (bytes ≡ whole w.request)
IsTold whole (Halt cause) bytes (w ∷ ws) = IsPrefix bytes (whole w.request)
IsTold whole Cancel bytes ws = AreBegun bytes (map (λ w. whole w.request) ws)
IsTold whole _ bytes ws = ⊥

-- the requests that aren't reported after it
abbrev pub left_by : What → List Window → List Window
left_by Cancel ws = []
left_by _ [] = []
left_by _ (w ∷ ws) = ws

abbrev pub AreTold : (Request → List ℕ) → List ℕ → List Window → List Report → Type 0
AreTold whole store ws [] = ⊤
AreTold whole store ws (line ∷ rest) = IsTold whole line.what (bytes_of line store) ws × AreTold whole store (left_by line.what ws) rest

pub record AreRightRequests (s : Script) (r : WholeReport) (name : EpName) (windows : List Window) : Type 0 where
  pub numbered : map (λ w. w.request) windows ≡ requests s r name
  pub once : AllByRecursion (λ w. IsOnce w.request.setup w.acts) windows
  pub lines_told : AreTold (data_of s name) r.store windows (lines_of r name)
  pub counted : acted r name ≡ Some (length (filter has_acted windows))
