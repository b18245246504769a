-- Who heard what, and what leaves host and device as they stand.
use Rattle.std.proofs.Common.{◌≡◌, ℕ, ◌-◌, ◌&&◌, ◌||◌, Bool, true, false, not, if◌then◌else◌, List, [], ◌++◌, inl, inr, Some, refl, sym, ap, ◌∙◌, subst}
use Rattle.std.proofs.Math.Bool.{false≢true}
use Rattle.std.proofs.lemmas.List.{append-nil}
use Rattle.usb_base.specs.Acknowledgement.{acknowledges}
use Rattle.usb_base.specs.declared.endpoints.EndCause.{EndCause}
use Rattle.usb_base.specs.declared.endpoints.EndCause.TheVariants as Ends
use Rattle.usb_base.specs.declared.packets.Ask.{Ask}
use Rattle.usb_base.specs.declared.packets.Reply.{Reply}
use Rattle.usb_base.specs.declared.packets.Reply.TheVariants.{Silent}
use Rattle.dev_control.specs.declared.rows.StageRow.{StageRow}
use Rattle.dev_control.specs.Stages.{Stages, is_read, sent_of, stage_row, row_reply, after_stage_row}
use Rattle.law_device.specs.Acts.{Asks, acts_at, is_status_row}
use Rattle.claims_report.specs.Acts.{acts_if}
use Rattle.toggle_error.specs.declared.host.HostSide.{HostSide}
use Rattle.toggle_error.specs.declared.host.Outcome.TheVariants.{Error, Halt}
use Rattle.toggle_error.specs.declared.rows.PlainRow.{PlainRow}
use Rattle.toggle_error.specs.declared.rows.PlainRow.TheVariants.{Received, Repeated, Babbled, Sent, SentLast, Refused, RefusedPinged, Room, NoRoom, Stalled, Failed, FailedPinged}
use Rattle.toggle_error.specs.PlainRows.{is_last_error, plain_outcome, after_plain}
use Rattle.transactions.specs.Calls.{Call}
use Rattle.bus_wire.specs.declared.asked.Losses.{Losses}
use Rattle.bus_wire.specs.WhoHeard.{who_heard, asker_hears, is_answer}
use Rattle.claims_report.specs.Requests.{Request, read_with}
use Rattle.law_request.specs.Host.{Endpoint, Stage, Setup, Data, Status, Done, Halted, Host, settled_by, heard_by}
use Rattle.law_request.specs.Line.{Line, reply_under, answer_of, answered, acked, device_after, acts_by, made}
use Rattle.law_request.specs.Windows.{data_of}
use Rattle.law_request.specs.Standing.{Sight, sight_of, Moves, IsEnded, StandsAt, Stands}

pub true_not_false : {A : Type 0} → true ≡ false → A
true_not_false h = absurd (false≢true (sym h))

-- ---- who heard what, row by row

abbrev pub acts_heard : Endpoint → Ask → List ℕ → Stages → List (List ℕ)
acts_heard e ask out c = acts_at c (Asks (reply_under e.known c.request) ask out)

who_by : (e : Endpoint) (ask : Ask) (out : List ℕ) (c : Stages) (answer : Reply) (P : Reply → Stages → List (List ℕ) → Type 0) (s a u k v : Bool)
    → P Silent c [] → P Silent (answered e ask out c) (acts_heard e ask out c) → P answer (answered e ask out c) (acts_heard e ask out c)
    → (k ≡ true → P answer (acked e (answered e ask out c)) (acts_heard e ask out c))
    → P (asker_hears (who_heard s a u k v) answer) (device_after e (who_heard s a u k v) ask out c) (acts_by e (who_heard s a u k v) ask out c)
who_by e ask out c answer P true a u k v lost unheard heard told = lost
who_by e ask out c answer P false false u k v lost unheard heard told = unheard
who_by e ask out c answer P false true true k v lost unheard heard told = unheard
who_by e ask out c answer P false true false false v lost unheard heard told = heard
who_by e ask out c answer P false true false true true lost unheard heard told = heard
who_by e ask out c answer P false true false true false lost unheard heard told = told refl

abbrev pub line : Host → Stages → List (List ℕ) → Line
line h c a = record { host = h; device = c; acts = a }

-- what a row of the device leaves, whether its answer is heard or not
pub record IsKept (e : Endpoint) (r : Request) (call : Call) (h : Host) (c : Stages) (a : List (List ℕ)) (row : StageRow) : Type 0 where
  pub unheard : Stands e r (line (heard_by r call Silent h) (after_stage_row row c) (acts_if (is_status_row row) c.request ++ a))
  pub heard : Stands e r (line (heard_by r call (row_reply row (reply_under e.known c.request) c) h) (after_stage_row row c) (acts_if (is_status_row row) c.request ++ a))
  pub told : acknowledges call.ask (row_reply row (reply_under e.known c.request) c) ≡ true
      → Stands e r (line (heard_by r call (row_reply row (reply_under e.known c.request) c) h) (acked e (after_stage_row row c)) (acts_if (is_status_row row) c.request ++ a))

pub made_stands : (e : Endpoint) (r : Request) (losses : Losses) (call : Call) (h : Host) (c : Stages) (a : List (List ℕ))
    → Stands e r (line (heard_by r call Silent h) c a) → IsKept e r call h c a (stage_row (reply_under e.known c.request) c call.ask call.out)
    → Stands e r (made e r losses call (line h c a))
made_stands e r losses call h c a lost k =
    who_by e call.ask call.out c (answer_of e call.ask call.out c) (λ reply d acts. Stands e r (line (heard_by r call reply h) d (acts ++ a)))
    losses.sent (is_answer (answer_of e call.ask call.out c)) losses.answer (acknowledges call.ask (answer_of e call.ask call.out c)) losses.acknowledgement
    lost k.unheard k.heard k.told

-- ---- a row of the host that moves nothing

pub data IsQuiet (h : Host) : Host → Type 0 where
  Same : (side : HostSide) → side.toggle ≡ h.side.toggle → side.left ≡ h.side.left → side.active ≡ h.side.active → side.max ≡ h.side.max
      → IsQuiet h (record { stage = h.stage; side = side; moved = h.moved })
  Halts : (cause : EndCause) (side : HostSide) → side.max ≡ h.side.max → IsQuiet h (record { stage = Halted cause; side = side; moved = h.moved })

abbrev pub moves : PlainRow → Bool
moves (Received n) = true
moves (Sent n) = true
moves (SentLast n) = true
moves _ = false

abbrev pub row_host : Request → PlainRow → List ℕ → Host → Host
row_host r row got h = settled_by r (plain_outcome row h.side) (after_plain row h.side) got h

abbrev failed_side : Bool → Bool → HostSide → HostSide
failed_side last ping side = record side { xact_err = true; cerr = side.cerr - 1; halted = last || side.halted; active = not last && side.active; ping = ping }

failed : (r : Request) (got : List ℕ) (h : Host) (last ping : Bool) → IsQuiet h (settled_by r (if last then Halt Ends.Error else Error) (failed_side last ping h.side) got h)
failed r got h true ping = Halts Ends.Error (failed_side true ping h.side) refl
failed r got h false ping = Same (failed_side false ping h.side) refl refl refl refl

pub quiet_row : (r : Request) (row : PlainRow) (got : List ℕ) (h : Host) → moves row ≡ false → IsQuiet h (row_host r row got h)
quiet_row r Repeated got h k = Same h.side refl refl refl refl
quiet_row r Babbled got h k = Halts Ends.Babble (record h.side { babble = true; halted = true; active = false }) refl
quiet_row r Refused got h k = Same h.side refl refl refl refl
quiet_row r RefusedPinged got h k = Same (record h.side { ping = true }) refl refl refl refl
quiet_row r Room got h k = Same (record h.side { ping = false }) refl refl refl refl
quiet_row r NoRoom got h k = Same h.side refl refl refl refl
quiet_row r Stalled got h k = Halts Ends.Stall (record h.side { halted = true; active = false }) refl
quiet_row r Failed got h k = failed r got h (is_last_error h.side) h.side.ping
quiet_row r FailedPinged got h k = failed r got h (is_last_error h.side) true
quiet_row r _ got h k = true_not_false k

-- ---- what stands may end

pub bytes_are_data : (e : Endpoint) (r : Request) → is_read r.setup ≡ false → data_of e r ≡ r.bytes
bytes_are_data e r h = ap (λ b. if b then read_with r.setup (e.known r.setup) else r.bytes) h

pub reply_is_data : (e : Endpoint) (r : Request) (reply : List ℕ) → is_read r.setup ≡ true → e.known r.setup ≡ Some reply → sent_of r.setup reply ≡ data_of e r
reply_is_data e r reply h k = sym (ap (λ b. if b then read_with r.setup (e.known r.setup) else r.bytes) h ∙ ap (λ known. read_with r.setup known) k)

moving_ends : (e : Endpoint) (r : Request) (v : Sight) (read : Bool) → is_read r.setup ≡ read → Moves read e r v → IsEnded e r v
moving_ends e r v true h m = record { begins = (m.later, m.whole); once = inl m.acts }
moving_ends e r v false h m = record { begins = (m.later, m.whole ∙ sym (bytes_are_data e r h)); once = inl m.acts }

pub ends : (e : Endpoint) (r : Request) (stage : Stage) (v : Sight) → StandsAt e r stage v → IsEnded e r v
ends e r Setup v s = record { begins = (data_of e r, ap (λ m. m ++ data_of e r) s.moved); once = inl s.acts }
ends e r Data v s = moving_ends e r v (is_read r.setup) refl s.way
ends e r Status v s = record {
  begins = ([], append-nil v.moved ∙ s.moved);
  once = elim s.acts [ inl h ↦ inl h.1 | inr h ↦ inr h.1 ];
}
ends e r Done v s = record { begins = ([], append-nil v.moved ∙ s.moved); once = inr s.acts }
ends e r (Halted cause) v s = s

-- the host halts
pub halted_stands : (e : Endpoint) (r : Request) (h : Host) (cause : EndCause) (side : HostSide) (c d : Stages) (a : List (List ℕ)) → side.max ≡ h.side.max → d.max ≡ e.max
    → Stands e r (line h c a) → Stands e r (line (record { stage = Halted cause; side = side; moved = h.moved }) d a)
halted_stands e r h cause side c d a em ed s =
    let x : IsEnded e r (sight_of (line h c a)) = ends e r h.stage (sight_of (line h c a)) s.stage in
    record { host_max = em ∙ s.host_max; device_max = ed; stage = record { begins = x.begins; once = x.once } }

pub stands_quiet : (e : Endpoint) (r : Request) (h g : Host) (c : Stages) (a : List (List ℕ)) → IsQuiet h g → Stands e r (line h c a) → Stands e r (line g c a)
stands_quiet e r h _ c a (Halts cause side em) s = halted_stands e r h cause side c c a em s.device_max s
stands_quiet e r h _ c a (Same side et el ea em) s = record {
  host_max = em ∙ s.host_max;
  device_max = s.device_max;
  stage =
      subst (λ x. StandsAt e r h.stage (record { moved = h.moved; toggle = x; left = side.left; active = side.active; request = c.request; acts = a })) (sym et)
      (subst (λ x. StandsAt e r h.stage (record { moved = h.moved; toggle = h.side.toggle; left = x; active = side.active; request = c.request; acts = a })) (sym el)
      (subst (λ x. StandsAt e r h.stage (record { moved = h.moved; toggle = h.side.toggle; left = h.side.left; active = x; request = c.request; acts = a })) (sym ea) s.stage));
}
