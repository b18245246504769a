-- Each transaction transaction_keeps how host and device stand, and so each window is window_is_right.
use Rattle.std.proofs.Common.{◌≡◌, ℕ, ◌==◌, ◌&&◌, Bool, true, false, not, List, [], ◌∷◌, refl, ap}
use Rattle.std.proofs.Math.Bool.{false≢true}
use Rattle.dev_control.specs.Stages.{Stages, is_read, wanted_of}
use Rattle.toggle_error.specs.declared.host.HostSide.{HostSide}
use Rattle.transactions.specs.Calls.{high_call}
use Rattle.bus_wire.specs.declared.asked.Losses.{Losses}
use Rattle.claims_report.specs.Requests.{Request}
use Rattle.law_request.specs.Host.{Endpoint, Stage, Setup, Data, Status, Done, has_data, data_token, status_token, data_bytes, endpoint_pipe}
use Rattle.law_request.specs.Line.{Line, line_at, made, transacted}
use Rattle.law_request.specs.Windows.{Turn, IsRequest, IsRight, AreRight, AreRequests, after_all, window_of, data_of}
use Rattle.law_request.specs.Standing.{Sight, sight_of, Moves, IsEnded, IsAtStatus, StandsAt, Stands}
use Rattle.law_request.proofs.Hearing.{line, ends}
use Rattle.law_request.proofs.Beginning.{setup_keeps}
use Rattle.law_request.proofs.Reading.{data_host, read_keeps}
use Rattle.law_request.proofs.Writing.{write_keeps}
use Rattle.law_request.proofs.Confirming.{status_host, status_out_keeps, status_in_keeps}

-- ---- a transaction

data_keeps : (e : Endpoint) (r : Request) (losses : Losses) (side : HostSide) (moved : List ℕ) (c : Stages) (a : List (List ℕ)) (read : Bool) → is_read r.setup ≡ read → (wanted_of r.setup == 0) ≡ false
    → Moves read e r (sight_of (line (data_host side moved) c a)) → Stands e r (line (data_host side moved) c a)
    → Stands e r (made e r losses (high_call (endpoint_pipe e (data_token read)) side (data_bytes read r (data_host side moved))) (line (data_host side moved) c a))
data_keeps e r losses side moved c a true i w x s = read_keeps e r losses side moved c a i w x s
data_keeps e r losses side moved c a false i w x s = write_keeps e r losses side moved c a side.ping i w x s

has_both : (empty read : Bool) → (not empty && read) ≡ true → (read ≡ true) × (empty ≡ false)
has_both true read h = absurd (false≢true h)
has_both false read h = (h, refl)

status_keeps : (e : Endpoint) (r : Request) (losses : Losses) (side : HostSide) (moved : List ℕ) (c : Stages) (a : List (List ℕ)) (out : Bool) → (has_data r && is_read r.setup) ≡ out
    → IsAtStatus e r (sight_of (line (status_host side moved) c a)) → Stands e r (line (status_host side moved) c a)
    → Stands e r (made e r losses (high_call (endpoint_pipe e (status_token out)) side []) (line (status_host side moved) c a))
status_keeps e r losses side moved c a true n x s =
    let b : (is_read r.setup ≡ true) × ((wanted_of r.setup == 0) ≡ false) = has_both (wanted_of r.setup == 0) (is_read r.setup) n in
    status_out_keeps e r losses side moved c a side.ping b.0 b.1 x s
status_keeps e r losses side moved c a false n x s = status_in_keeps e r losses side moved c a n x s

keeps_at : (e : Endpoint) (r : Request) (losses : Losses) (stage : Stage) (side : HostSide) (moved : List ℕ) (c : Stages) (a : List (List ℕ)) → IsRequest r
    → Stands e r (line (record { stage = stage; side = side; moved = moved }) c a)
    → Stands e r (transacted e r losses (line (record { stage = stage; side = side; moved = moved }) c a))
keeps_at e r losses Setup side moved c a q s = setup_keeps e r losses side moved c a q s
keeps_at e r losses Data side moved c a q s = data_keeps e r losses side moved c a (is_read r.setup) refl s.stage.wanted s.stage.way s
keeps_at e r losses Status side moved c a q s = status_keeps e r losses side moved c a (has_data r && is_read r.setup) refl s.stage s
keeps_at e r losses _ side moved c a q s = s

pub transaction_keeps : (e : Endpoint) (r : Request) (losses : Losses) (l : Line) → IsRequest r → Stands e r l
    → Stands e r (transacted e r losses l)
transaction_keeps e r losses l q s = keeps_at e r losses l.host.stage l.host.side l.host.moved l.device l.acts q s

pub keeps_all : (e : Endpoint) (r : Request) (losses : List Losses) (l : Line) → IsRequest r → Stands e r l → Stands e r (after_all e r losses l)
keeps_all e r [] l q s = s
keeps_all e r (x ∷ xs) l q s = keeps_all e r xs (transacted e r x l) q (transaction_keeps e r x l q s)

-- ---- before and after

pub window_opens : (e : Endpoint) (r : Request) (ping : Bool) (c : Stages) → c.max ≡ e.max → Stands e r (line_at e r ping c)
window_opens e r ping c m = record { host_max = refl; device_max = m; stage = record { moved = refl; left = refl; acts = refl } }

abbrev is_done : Stage → Bool
is_done Done = true
is_done _ = false

done_acts : (e : Endpoint) (r : Request) (stage : Stage) (v : Sight) → StandsAt e r stage v → stage ≡ Done → (v.acts ≡ r.setup ∷ []) × (v.moved ≡ data_of e r)
done_acts e r Done v s h = (s.acts, s.moved)
done_acts e r _ v s h = absurd (false≢true (ap is_done h))

pub window_is_right : (e : Endpoint) (r : Request) (l : Line) → Stands e r l → IsRight e r l
window_is_right e r l s =
    let x : IsEnded e r (sight_of l) = ends e r l.host.stage (sight_of l) s.stage in
    record {
      once = x.once;
      done_once = λ h. (done_acts e r l.host.stage (sight_of l) s.stage h).0;
      done_whole = λ h. (done_acts e r l.host.stage (sight_of l) s.stage h).1;
      begins = x.begins;
    }

pub window_stands : (e : Endpoint) (t : Turn) (c : Stages) → IsRequest t.request → c.max ≡ e.max → Stands e t.request (window_of e t c)
window_stands e t c q m = keeps_all e t.request t.losses (line_at e t.request t.ping c) q (window_opens e t.request t.ping c m)

pub windows_are_right : (e : Endpoint) (ts : List Turn) (c : Stages) → AreRequests ts → c.max ≡ e.max → AreRight e ts c
windows_are_right e [] c q m = tt
windows_are_right e (t ∷ ts) c q m =
    let s : Stands e t.request (window_of e t c) = window_stands e t c q.0 m in
    (window_is_right e t.request (window_of e t c) s, windows_are_right e ts (window_of e t c).device q.1 s.device_max)
