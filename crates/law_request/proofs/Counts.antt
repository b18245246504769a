-- The device's count is the number of its acts.
use Rattle.std.proofs.Common.{◌≡◌, ℕ, Bool, true, false, List, [], ◌∷◌, ◌++◌, if◌then◌else◌, refl, sym, ap, ◌∙◌}
use Rattle.dev_control.specs.Stages.{Stages, one_more_act}
use Rattle.law_device.specs.Acts.{Asks, Acks, counted}
use Rattle.law_device.proofs.Once.{acts_are_counted}
use Rattle.transactions.specs.Calls.{Call}
use Rattle.bus_wire.specs.declared.asked.Losses.{Losses}
use Rattle.bus_wire.specs.declared.who_heard.WhoHeard.{WhoHeard}
use Rattle.bus_wire.specs.declared.who_heard.WhoHeard.TheVariants.{SentUnheard, AckHeard}
use Rattle.usb_base.specs.declared.packets.Ask.{Ask}
use Rattle.claims_report.specs.Requests.{Request}
use Rattle.law_request.specs.Host.{Endpoint, is_over, call_at}
use Rattle.law_request.specs.Line.{Line, line_at, reply_under, answered, acked, device_after, acts_by, row_at, made, transacted}
use Rattle.law_request.specs.Windows.{Turn, after_all, window_of, windows, left_after, counted_in}

-- one more is counted first or last
counted_more : (acts : List (List ℕ)) (n : ℕ) → counted acts (one_more_act n) ≡ one_more_act (counted acts n)
counted_more [] n = refl
counted_more (x ∷ xs) n = counted_more xs (one_more_act n)

counted_joined : (acts more : List (List ℕ)) (n : ℕ) → counted (acts ++ more) n ≡ counted acts (counted more n)
counted_joined [] more n = refl
counted_joined (x ∷ xs) more n = counted_joined xs more (one_more_act n) ∙ ap (counted xs) (counted_more more n)

acked_counts : (e : Endpoint) (c : Stages) → (acked e c).acted ≡ c.acted
acked_counts e c = acts_are_counted c (Acks (reply_under e.known c.request))

row_counts : (e : Endpoint) (row : WhoHeard) (ask : Ask) (out : List ℕ) (c : Stages) → (device_after e row ask out c).acted ≡ counted (acts_by e row ask out c) c.acted
row_counts e SentUnheard ask out c = refl
row_counts e AckHeard ask out c = acked_counts e (answered e ask out c) ∙ acts_are_counted c (Asks (reply_under e.known c.request) ask out)
row_counts e _ ask out c = acts_are_counted c (Asks (reply_under e.known c.request) ask out)

-- the device's count stands at that of the window's acts, from n on
pub made_counts : (e : Endpoint) (r : Request) (losses : Losses) (call : Call) (l : Line) (n : ℕ) → l.device.acted ≡ counted l.acts n
    → (made e r losses call l).device.acted ≡ counted (made e r losses call l).acts n
made_counts e r losses call l n h =
    row_counts e (row_at e losses call l.device) call.ask call.out l.device
    ∙ ap (counted (acts_by e (row_at e losses call l.device) call.ask call.out l.device)) h
    ∙ sym (counted_joined (acts_by e (row_at e losses call l.device) call.ask call.out l.device) l.acts n)

counts_if : (e : Endpoint) (r : Request) (losses : Losses) (l : Line) (n : ℕ) (over : Bool) → l.device.acted ≡ counted l.acts n
    → (if over then l else made e r losses (call_at e r l.host) l).device.acted ≡ counted (if over then l else made e r losses (call_at e r l.host) l).acts n
counts_if e r losses l n true h = h
counts_if e r losses l n false h = made_counts e r losses (call_at e r l.host) l n h

pub transacted_counts : (e : Endpoint) (r : Request) (losses : Losses) (l : Line) (n : ℕ) → l.device.acted ≡ counted l.acts n
    → (transacted e r losses l).device.acted ≡ counted (transacted e r losses l).acts n
transacted_counts e r losses l n h = counts_if e r losses l n (is_over l.host.stage) h

all_counts : (e : Endpoint) (r : Request) (losses : List Losses) (l : Line) (n : ℕ) → l.device.acted ≡ counted l.acts n
    → (after_all e r losses l).device.acted ≡ counted (after_all e r losses l).acts n
all_counts e r [] l n h = h
all_counts e r (x ∷ xs) l n h = all_counts e r xs (transacted e r x l) n (transacted_counts e r x l n h)

pub window_counts : (e : Endpoint) (t : Turn) (c : Stages) → (window_of e t c).device.acted ≡ counted (window_of e t c).acts c.acted
window_counts e t c = all_counts e t.request t.losses (line_at e t.request t.ping c) c.acted refl

pub windows_count : (e : Endpoint) (ts : List Turn) (c : Stages) → (left_after e ts c).acted ≡ counted_in (windows e ts c) c.acted
windows_count e [] c = refl
windows_count e (t ∷ ts) c = windows_count e ts (window_of e t c).device ∙ ap (counted_in (windows e ts (window_of e t c).device)) (window_counts e t c)
