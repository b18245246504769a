-- The windows of a run, one for each request that is sent: from its first transaction to the one before the next request's, or to the end.
--     window_of e t c            the window of a request, on a device that was left so
--     windows e ts c             the windows of several requests, one after the other
--     IsRight e r l              the law of requests for one window
use Rattle.std.specs.Prelude.{◌≡◌, ⊤, ℕ, Bool, false, List, [], ◌∷◌, length}
use Rattle.std.specs.List.{AllByRecursion}
use Rattle.dev_control.specs.Stages.{Stages, is_read, wanted_of}
use Rattle.claims_report.specs.Acts.{IsOnce}
use Rattle.law_device.specs.Acts.{counted}
use Rattle.claims_base.specs.Prefix.{IsPrefix}
use Rattle.bus_wire.specs.declared.asked.Losses.{Losses}
use Rattle.claims_report.specs.Requests.{Request, Window, data_with}
use Rattle.law_request.specs.Host.{Endpoint, Done}
use Rattle.law_request.specs.Line.{Line, line_at, transacted}

-- a request, the ping state that it finds, and which packets of its transactions are lost, in order
pub record Turn : Type 0 where
  pub request : Request
  pub ping : Bool
  pub losses : List Losses

abbrev pub after_all : Endpoint → Request → List Losses → Line → Line
after_all e r [] l = l
after_all e r (x ∷ xs) l = after_all e r xs (transacted e r x l)

abbrev pub window_of : Endpoint → Turn → Stages → Line
window_of e t c = after_all e t.request t.losses (line_at e t.request t.ping c)

abbrev pub windows : Endpoint → List Turn → Stages → List Line
windows e [] c = []
windows e (t ∷ ts) c = window_of e t c ∷ windows e ts (window_of e t c).device

-- the device after them
abbrev pub left_after : Endpoint → List Turn → Stages → Stages
left_after e [] c = c
left_after e (t ∷ ts) c = left_after e ts (window_of e t c).device

-- the data of a request: the device's reply cut at wLength, or the submitted bytes
abbrev pub data_of : Endpoint → Request → List ℕ
data_of e r = data_with (e.known r.setup) r

-- eight setup bytes, and the bytes of a write as many as they announce
pub record IsRequest (r : Request) : Type 0 where
  pub setup : length r.setup ≡ 8
  pub bytes : is_read r.setup ≡ false → length r.bytes ≡ wanted_of r.setup

abbrev pub AreRequests : List Turn → Type 0
AreRequests ts = AllByRecursion (λ t. IsRequest t.request) ts

-- The device acts at most once, and on nothing but the setup bytes. A done request was acted on once, and all its data moved. Until then,
-- and where it halts, the bytes that moved begin its data.
pub record IsRight (e : Endpoint) (r : Request) (l : Line) : Type 0 where
  pub once : IsOnce r.setup l.acts
  pub done_once : l.host.stage ≡ Done → l.acts ≡ r.setup ∷ []
  pub done_whole : l.host.stage ≡ Done → l.host.moved ≡ data_of e r
  pub begins : IsPrefix l.host.moved (data_of e r)

-- ---- what a report tells of windows

abbrev pub told_window : Request → Line → Window
told_window r l = record { request = r; acts = l.acts }

-- the windows of several requests, as those of a report
abbrev pub told_windows : Endpoint → List Turn → Stages → List Window
told_windows e [] c = []
told_windows e (t ∷ ts) c = told_window t.request (window_of e t c) ∷ told_windows e ts (window_of e t c).device

-- ---- all windows

-- each of the windows is right
abbrev pub AreRight : Endpoint → List Turn → Stages → Type 0
AreRight e [] c = ⊤
AreRight e (t ∷ ts) c = IsRight e t.request (window_of e t c) × AreRight e ts (window_of e t c).device

-- the device's count after the acts of these windows
abbrev pub counted_in : List Line → ℕ → ℕ
counted_in [] n = n
counted_in (l ∷ ls) n = counted_in ls (counted l.acts n)
