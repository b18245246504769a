-- Each half of a transaction of a window keeps how host and device stand.
use Rattle.std.proofs.Common.{◌≡◌, ℕ, ◌++◌, Bool, true, false, if◌then◌else◌, List, [], length, take, drop, ◌⊎◌, inl, inr, refl, sym, subst, ap, ◌∙◌}
use Rattle.std.proofs.Math.Bool.{false≢true}
use Rattle.usb_base.specs.Acknowledgement.{acknowledges}
use Rattle.usb_base.specs.declared.packets.Ask.{Ask}
use Rattle.usb_base.specs.declared.packets.EpKind.TheVariants.{Control}
use Rattle.usb_base.specs.declared.packets.Pid.{Pid}
use Rattle.usb_base.specs.declared.packets.Pid.TheVariants as Pids
use Rattle.usb_base.specs.declared.packets.Reply.{Reply}
use Rattle.usb_base.specs.declared.packets.Reply.TheVariants.{Silent, Bytes, Hand}
use Rattle.std.specs.Prelude.{min}
use Rattle.dev_control.specs.Stages.{Stages, is_read}
use Rattle.toggle_error.specs.declared.host.HostSide.{HostSide}
use Rattle.toggle_error.specs.declared.rows.AskToken.TheVariants.{PingedOut}
use Rattle.toggle_error.specs.declared.rows.Heard.TheVariants as Heards
use Rattle.toggle_error.specs.declared.rows.PlainRow.{PlainRow}
use Rattle.toggle_error.specs.declared.rows.PlainRow.TheVariants.{Stalled, Failed, FailedPinged}
use Rattle.toggle_error.specs.Columns.{token_at, limit_of}
use Rattle.toggle_error.specs.PlainRows.{plain_row}
use Rattle.transactions.specs.declared.pipe.Pipe.{Pipe}
use Rattle.transactions.specs.Asks.{pinged, token_pid}
use Rattle.transactions.specs.Calls.{Call, high_call}
use Rattle.usb_base.specs.declared.packets.Split.TheVariants.{Plain}
use Rattle.bus_wire.specs.declared.asked.Losses.{Losses as Lost}
use Rattle.bus_wire.specs.declared.who_heard.WhoHeard.{WhoHeard}
use Rattle.bus_wire.specs.WhoHeard.{who_heard, asker_hears, is_answer}
use Rattle.claims_report.specs.Requests.{Request}
use Rattle.law_request.specs.Host.{Endpoint, Stage, Setup, Data, Status, Done, Halted, Host, is_over, endpoint_pipe, token_at as token_of_stage, call_at, heard_by, bytes_at, data_bytes}
use Rattle.law_request.specs.Line.{Line as Window, line_at, answer_of, answered, acked, device_after, acts_by, row_at, made}
use Rattle.law_request.specs.Standing.{sight_of, IsEnded, Stands}
use Rattle.law_request.specs.Windows.{IsRequest, IsRight}
use Rattle.law_request.proofs.Hearing.{line, acts_heard, IsQuiet, row_host, Same, quiet_row, stands_quiet, ends as ends_at}
use Rattle.law_request.proofs.Steps.{transaction_keeps, window_opens, window_is_right}
use Rattle.law_translated.specs.Lift.{Way, Buffered, Piped, at_rest, Keeps, Step}
use Rattle.law_translated.specs.Lift.Step.{plain}
use Rattle.law_translated.specs.Windows.{Line, goes_on, IsAlike, alike, Alone, Is, worked, Works, Quiet, Hears, settles, is_data, dead, window_halves, Answered, window_claims, KeepsWindow, WindowIsRight, TransactionIsAnEvent}
use Rattle.law_translated.specs.Windows.Alone.{counts, ends}
use Rattle.law_translated.proofs.Lifting.{step_keeps, run_keeps, holds_gone}

-- ---- a host that is alike

alike_itself : (h : Host) → IsAlike h h
alike_itself h = alike h.side refl refl refl refl

alike_again : (h g k : Host) → IsAlike h g → IsAlike g k → IsAlike h k
alike_again h _ _ (alike a t l m v) (alike b t2 l2 m2 v2) = alike b (t2 ∙ t) (l2 ∙ l) (m2 ∙ m) (v2 ∙ v)

alike_stands : (e : Endpoint) (r : Request) (h g : Host) (c : Stages) (a : List (List ℕ)) → IsAlike h g → Stands e r (line h c a)
    → Stands e r (line g c a)
alike_stands e r h _ c a (alike side t l m v) s = stands_quiet e r h (record h { side = side }) c a (Same side t l v m) s

-- the call depends on toggle, ping state and limit alone
abbrev seen : HostSide → Bool → Bool → ℕ → ℕ → HostSide
seen side ping toggle left max = record side { ping = ping; toggle = toggle; left = left; max = max }

same_data : (r : Request) (h g : Host) (reads : Bool) → limit_of g.side ≡ limit_of h.side → g.moved ≡ h.moved
    → data_bytes reads r g ≡ data_bytes reads r h
same_data r h g true l m = refl
same_data r h g false l m =
    ap (λ n. take n (drop (length g.moved) r.bytes)) l ∙ ap (λ moved. take (limit_of h.side) (drop (length moved) r.bytes)) m

same_bytes : (r : Request) (stage : Stage) (h g : Host) → limit_of g.side ≡ limit_of h.side → g.moved ≡ h.moved
    → bytes_at r stage g ≡ bytes_at r stage h
same_bytes r Setup h g l m = refl
same_bytes r Data h g l m = same_data r h g (is_read r.setup) l m
same_bytes r Status h g l m = refl
same_bytes r Done h g l m = refl
same_bytes r (Halted cause) h g l m = refl

alike_call : (e : Endpoint) (r : Request) (h g : Host) → IsAlike h g → g.side.ping ≡ h.side.ping → call_at e r g ≡ call_at e r h
alike_call e r h _ (alike side t l m v) p =
    let pipe : Pipe = endpoint_pipe e (token_of_stage r h.stage) in
    let out : List ℕ = bytes_at r h.stage h in
    let limit : limit_of side ≡ limit_of h.side = ap (λ n. min n side.left) m ∙ ap (λ n. min h.side.max n) l in
    ap (λ bytes. high_call pipe side bytes) (same_bytes r h.stage h (record h { side = side }) limit refl)
    ∙ ap (λ x. high_call pipe (seen h.side x side.toggle side.left side.max) out) p
    ∙ ap (λ x. high_call pipe (seen h.side h.side.ping x side.left side.max) out) t
    ∙ ap (λ x. high_call pipe (seen h.side h.side.ping h.side.toggle x side.max) out) l
    ∙ ap (λ x. high_call pipe (seen h.side h.side.ping h.side.toggle h.side.left x) out) m

alike_over : (h g : Host) → IsAlike h g → g.stage ≡ h.stage
alike_over h _ (alike side t l m v) = refl

alike_moved : (h g : Host) → IsAlike h g → g.moved ≡ h.moved
alike_moved h _ (alike side t l m v) = refl

-- ---- rows that move nothing

abbrev nothing_row : Pid → ℕ → PlainRow
nothing_row pid sent = plain_row (token_at pid PingedOut) Heards.Nothing sent

silent_row : (pid : Pid) (sent : ℕ)
    → (nothing_row pid sent ≡ Failed) ⊎ (nothing_row pid sent ≡ FailedPinged)
silent_row Pids.Out sent = inr refl
silent_row Pids.In sent = inl refl
silent_row Pids.Sof sent = inl refl
silent_row Pids.Setup sent = inl refl
silent_row Pids.Data0 sent = inl refl
silent_row Pids.Data1 sent = inl refl
silent_row Pids.Data2 sent = inl refl
silent_row Pids.Mdata sent = inl refl
silent_row Pids.Ack sent = inl refl
silent_row Pids.Nak sent = inl refl
silent_row Pids.Stall sent = inl refl
silent_row Pids.Nyet sent = inl refl
silent_row Pids.Err sent = inl refl
silent_row Pids.Split sent = inl refl
silent_row Pids.Ping sent = inr refl

stall_row : (pid : Pid) (sent : ℕ) → plain_row (token_at pid PingedOut) Heards.Stall sent ≡ Stalled
stall_row Pids.Out sent = refl
stall_row Pids.In sent = refl
stall_row Pids.Sof sent = refl
stall_row Pids.Setup sent = refl
stall_row Pids.Data0 sent = refl
stall_row Pids.Data1 sent = refl
stall_row Pids.Data2 sent = refl
stall_row Pids.Mdata sent = refl
stall_row Pids.Ack sent = refl
stall_row Pids.Nak sent = refl
stall_row Pids.Stall sent = refl
stall_row Pids.Nyet sent = refl
stall_row Pids.Err sent = refl
stall_row Pids.Split sent = refl
stall_row Pids.Ping sent = refl

-- a host that has errors left stands after a silence as before it
abbrev patient : Host → Host
patient h = record h { side = record h.side { cerr = 3 } }

abbrev sent_pid : Pid → Host → Pid
sent_pid token h = token_pid Plain token (pinged Control h.side.ping)

failed_back : (e : Endpoint) (r : Request) (h : Host) (got : List ℕ) (c : Stages) (a : List (List ℕ))
    → Stands e r (line (row_host r Failed got (patient h)) c a) → Stands e r (line h c a)
failed_back e r h got c a s = record { host_max = s.host_max; device_max = s.device_max; stage = s.stage }

pinged_back : (e : Endpoint) (r : Request) (h : Host) (got : List ℕ) (c : Stages) (a : List (List ℕ))
    → Stands e r (line (row_host r FailedPinged got (patient h)) c a) → Stands e r (line h c a)
pinged_back e r h got c a s = record { host_max = s.host_max; device_max = s.device_max; stage = s.stage }

silent_back : (e : Endpoint) (r : Request) (h : Host) (token : Pid) (out : List ℕ) (c : Stages) (a : List (List ℕ))
    → Stands e r (line (heard_by r (high_call (endpoint_pipe e token) h.side out) Silent (patient h)) c a) → Stands e r (line h c a)
silent_back e r h token out c a s =
    let call : Call = high_call (endpoint_pipe e token) h.side out in
    elim (silent_row (sent_pid token h) call.sent) [
      | inl k ↦ failed_back e r h call.out c a (subst (λ row. Stands e r (line (row_host r row call.out (patient h)) c a)) k s)
      | inr k ↦ pinged_back e r h call.out c a (subst (λ row. Stands e r (line (row_host r row call.out (patient h)) c a)) k s)
    ]

silent_quiet : (e : Endpoint) (r : Request) (h : Host) (token : Pid) (out : List ℕ)
    → IsQuiet h (heard_by r (high_call (endpoint_pipe e token) h.side out) Silent h)
silent_quiet e r h token out =
    let call : Call = high_call (endpoint_pipe e token) h.side out in
    elim (silent_row (sent_pid token h) call.sent) [
      | inl k ↦ subst (λ row. IsQuiet h (row_host r row call.out h)) (sym k) (quiet_row r Failed call.out h refl)
      | inr k ↦ subst (λ row. IsQuiet h (row_host r row call.out h)) (sym k) (quiet_row r FailedPinged call.out h refl)
    ]

stall_quiet : (e : Endpoint) (r : Request) (h : Host) (token : Pid) (out : List ℕ)
    → IsQuiet h (heard_by r (high_call (endpoint_pipe e token) h.side out) (Hand Pids.Stall) h)
stall_quiet e r h token out =
    let call : Call = high_call (endpoint_pipe e token) h.side out in
    subst (λ row. IsQuiet h (row_host r row call.out h)) (sym (stall_row (sent_pid token h) call.sent))
    (quiet_row r Stalled call.out h refl)

module _ (e : Endpoint) (r : Request) where
  -- ---- the host by itself

  alone_is : (s t : Line) (call : Call) → Alone s t → Is e r s call → Is e r t call
  alone_is s _ call (counts h k p) i = record {
    on = ap is_over (alike_over s.window.host h k) ∙ i.on;
    asks = i.asks ∙ sym (alike_call e r s.window.host h k p);
  }
  alone_is s _ call ends i = record { on = i.on; asks = i.asks }

  alone_stands : (s t : Line) → Alone s t → Stands e r s.window → Stands e r t.window
  alone_stands s _ (counts h k p) n = alike_stands e r s.window.host h s.window.device s.window.acts k n
  alone_stands s _ ends n = n

  ended_alike : (l : Window) (h : Host) → h.moved ≡ l.host.moved → IsEnded e r (sight_of l) → IsEnded e r (sight_of (record l { host = h }))
  ended_alike l h m n = record { begins = (n.begins.0, ap (λ x. x ++ n.begins.0) m ∙ n.begins.1); once = n.once }

  alone_answered : (s t : Line) (call : Call) (reply : Reply) → Alone s t → Answered e r s call reply → Answered e r t call reply
  alone_answered s _ call reply (counts h k p) n = record {
    is = alone_is s (record s { window = record s.window { host = h } }) call (counts h k p) n.is;
    ended = ended_alike s.window h (alike_moved s.window.host h k) n.ended;
    spared = λ d. alike_stands e r s.window.host h s.window.device s.window.acts k (n.spared d);
    heard = λ g k2 p2. n.heard g (alike_again s.window.host h g k k2) (p2 ∙ p);
  }
  alone_answered s _ call reply ends n =
      record { is = record { on = n.is.on; asks = n.is.asks }; ended = n.ended; spared = n.spared; heard = n.heard }

  alone_right : (s t : Line) → Alone s t → IsRight e r s.window → IsRight e r t.window
  alone_right s _ (counts h k p) n = record {
    once = n.once;
    done_once = λ d. n.done_once (sym (alike_over s.window.host h k) ∙ d);
    done_whole = λ d. alike_moved s.window.host h k ∙ n.done_whole (sym (alike_over s.window.host h k) ∙ d);
    begins = (n.begins.0, ap (λ x. x ++ n.begins.0) (alike_moved s.window.host h k) ∙ n.begins.1);
  }
  alone_right s _ ends n = n

  -- ---- the device's half

  made_stands : IsRequest r → (losses : Lost) (l : Window) → is_over l.host.stage ≡ false → Stands e r l
      → Stands e r (made e r losses (call_at e r l.host) l)
  made_stands q losses l over n =
      subst (λ b. Stands e r (if b then l else made e r losses (call_at e r l.host) l)) over (transaction_keeps e r losses l q n)

  abbrev row_of : Line → Call → Lost → WhoHeard
  row_of s call losses = row_at e losses call s.window.device

  abbrev reply_of : Line → Call → Lost → Reply
  reply_of s call losses = asker_hears (row_of s call losses) (answer_of e call.ask call.out s.window.device)

  -- however the host of this line hears the answer
  heard_stands : IsRequest r → (losses : Lost) (s : Line) (call : Call) (h : Host) → Is e r s call → Stands e r s.window
      → IsAlike s.window.host h
      → h.side.ping ≡ s.window.host.side.ping
      → Stands e r (record (worked e (row_of s call losses) call s).window { host = heard_by r call (reply_of s call losses) h })
  heard_stands q losses s call h i n k p =
      let l : Window = line h s.window.device s.window.acts in
      let stands : Stands e r l = alike_stands e r s.window.host h s.window.device s.window.acts k n in
      let same : call_at e r h ≡ call = alike_call e r s.window.host h k p ∙ sym i.asks in
      subst (λ x. Stands e r (made e r losses x l)) same (made_stands q losses l (ap is_over (alike_over s.window.host h k) ∙ i.on) stands)

  -- an answer that the asker doesn't hear leaves them as they stand
  silent_stands : IsRequest r → (losses : Lost) (s : Line) (call : Call) → Is e r s call → Stands e r s.window
      → reply_of s call losses ≡ Silent
      → Stands e r (worked e (row_of s call losses) call s).window
  silent_stands q losses s call i n silent =
      let h : Host = s.window.host in
      let after : Line = worked e (row_of s call losses) call s in
      let heard : Stands e r (record after.window { host = heard_by r call Silent (patient h) }) =
      subst (λ reply. Stands e r (record after.window { host = heard_by r call reply (patient h) })) silent
      (heard_stands q losses s call (patient h) i n (alike (patient h).side refl refl refl refl) refl) in
      let named : Stands e r (record after.window { host = heard_by r (call_at e r h) Silent (patient h) }) =
      subst (λ x. Stands e r (record after.window { host = heard_by r x Silent (patient h) })) i.asks heard in
      silent_back e r h (token_of_stage r h.stage) (bytes_at r h.stage h) after.window.device after.window.acts named

  -- the same, where it isn't data that the device may know to be taken
  spared_by : (ask : Ask) (out : List ℕ) (c : Stages) (answer : Reply) (P : Stages → List (List ℕ) → Type 0) (s a u k v : Bool) → P c []
      → P (answered e ask out c) (acts_heard e ask out c)
      → (k ≡ true → is_data answer ≡ false → P (acked e (answered e ask out c)) (acts_heard e ask out c))
      → is_data (asker_hears (who_heard s a u k v) answer) ≡ false
      → P (device_after e (who_heard s a u k v) ask out c) (acts_by e (who_heard s a u k v) ask out c)
  spared_by ask out c answer P true a u k v lost unheard told d = lost
  spared_by ask out c answer P false false u k v lost unheard told d = unheard
  spared_by ask out c answer P false true true k v lost unheard told d = unheard
  spared_by ask out c answer P false true false false v lost unheard told d = unheard
  spared_by ask out c answer P false true false true true lost unheard told d = unheard
  spared_by ask out c answer P false true false true false lost unheard told d = told refl d

  no_data : {P : Type 0} (ask : Ask) (answer : Reply) → acknowledges ask answer ≡ true → is_data answer ≡ false → P
  no_data ask Silent h d = absurd (false≢true h)
  no_data ask (Bytes pid bytes) h d = absurd (false≢true (sym d))
  no_data ask (Hand pid) h d = absurd (false≢true h)

  abbrev answer_lost : Lost
  answer_lost = record { sent = false; answer = true; acknowledgement = false }

  unheard_silent : (b k : Bool) (answer : Reply) → asker_hears (who_heard false b true k false) answer ≡ Silent
  unheard_silent true k answer = refl
  unheard_silent false k answer = refl

  unheard_by : (ask : Ask) (out : List ℕ) (c : Stages) (P : Stages → List (List ℕ) → Type 0) (b k : Bool)
      → P (device_after e (who_heard false b true k false) ask out c) (acts_by e (who_heard false b true k false) ask out c)
      → P (answered e ask out c) (acts_heard e ask out c)
  unheard_by ask out c P true k h = h
  unheard_by ask out c P false k h = h

  unheard_stands : IsRequest r → (s : Line) (call : Call) → Is e r s call → Stands e r s.window
      → Stands e r (line s.window.host (answered e call.ask call.out s.window.device)
      (acts_heard e call.ask call.out s.window.device ++ s.window.acts))
  unheard_stands q s call i n =
      let c : Stages = s.window.device in
      let answer : Reply = answer_of e call.ask call.out c in
      unheard_by call.ask call.out c (λ d acts. Stands e r (line s.window.host d (acts ++ s.window.acts))) (is_answer answer)
      (acknowledges call.ask answer)
      (silent_stands q answer_lost s call i n (unheard_silent (is_answer answer) (acknowledges call.ask answer) answer))

  spared_stands : IsRequest r → (losses : Lost) (s : Line) (call : Call) → Is e r s call → Stands e r s.window
      → is_data (reply_of s call losses) ≡ false
      → Stands e r (worked e (row_of s call losses) call s).window
  spared_stands q losses s call i n d =
      let c : Stages = s.window.device in
      let answer : Reply = answer_of e call.ask call.out c in
      spared_by call.ask call.out c answer (λ d2 acts. Stands e r (line s.window.host d2 (acts ++ s.window.acts)))
      losses.sent (is_answer answer) losses.answer (acknowledges call.ask answer) losses.acknowledgement
      n (unheard_stands q s call i n) (λ k no. no_data call.ask answer k no) d

  -- ..

  worked_is : (s : Line) (call : Call) (row : WhoHeard) → Is e r s call → Is e r (worked e row call s) call
  worked_is s call row i = record { on = i.on; asks = i.asks }

  worked_answered : IsRequest r → (losses : Lost) (s : Line) (call : Call) → Is e r s call → Stands e r s.window
      → Answered e r (worked e (row_of s call losses) call s) call (reply_of s call losses)
  worked_answered q losses s call i n =
      let h : Host = s.window.host in
      let after : Line = worked e (row_of s call losses) call s in
      let settled : Window = record after.window { host = heard_by r call (reply_of s call losses) h } in
      let heard : Stands e r settled = heard_stands q losses s call h i n (alike_itself h) refl in
      let before : IsEnded e r (sight_of s.window) = ends_at e r h.stage (sight_of s.window) n.stage in
      let later : IsEnded e r (sight_of settled) = ends_at e r settled.host.stage (sight_of settled) heard.stage in
      record {
        is = worked_is s call (row_of s call losses) i;
        ended = record { begins = before.begins; once = later.once };
        spared = λ d. spared_stands q losses s call i n d;
        heard = λ g k p. heard_stands q losses s call g i n k p;
      }

  works : IsRequest r → (s t : Line) (call : Call) (reply : Reply) → Is e r s call → Stands e r s.window → Works e r s call reply t
      → Answered e r t call reply
  works q s t call reply i n w =
      subst (λ x. Answered e r x call reply) (sym w.after)
      (subst (λ y. Answered e r (worked e (row_of s call w.losses) call s) call y) (sym w.heard) (worked_answered q w.losses s call i n))

  quiet : IsRequest r → (s t : Line) (call : Call) → Is e r s call → Stands e r s.window → Quiet e r s call t → Stands e r t.window
  quiet q s t call i n w = subst (λ (x : Line). Stands e r x.window) (sym w.after) (silent_stands q w.losses s call i n (sym w.heard))

  quiet_is : (s t : Line) (call : Call) → Is e r s call → Quiet e r s call t → Is e r t call
  quiet_is s t call i w = subst (λ x. Is e r x call) (sym w.after) (worked_is s call (row_of s call w.losses) i)

  -- the translator's own answer
  moves_nothing : (reply : Reply) → is_data reply ≡ false
      → ((h : Host) (token : Pid) (out : List ℕ) → IsQuiet h (heard_by r (high_call (endpoint_pipe e token) h.side out) reply h))
      → (s : Line) (call : Call) → Is e r s call → Stands e r s.window → Answered e r s call reply
  moves_nothing reply d quietly s call i n = record {
    is = i;
    ended = ends_at e r s.window.host.stage (sight_of s.window) n.stage;
    spared = λ no. n;
    heard = λ h k p.
        let same : call_at e r h ≡ call = alike_call e r s.window.host h k p ∙ sym i.asks in
        let l : Window = line h s.window.device s.window.acts in
        let stands : Stands e r l = alike_stands e r s.window.host h s.window.device s.window.acts k n in
        subst (λ x. Stands e r (line (heard_by r x reply h) s.window.device s.window.acts)) same
        (stands_quiet e r h (heard_by r (call_at e r h) reply h) s.window.device s.window.acts
        (quietly h (token_of_stage r h.stage) (bytes_at r h.stage h)) stands);
  }

  dead_answered : (way : Way) (s : Line) (call : Call) → Is e r s call → Stands e r s.window → Answered e r s call (dead way)
  dead_answered Buffered s call i n = moves_nothing (Hand Pids.Stall) refl (stall_quiet e r) s call i n
  dead_answered Piped s call i n = moves_nothing Silent refl (silent_quiet e r) s call i n

  -- ---- the host's half

  hears : (s t : Line) (call : Call) (reply : Reply) → Answered e r s call reply → Hears e r s call reply t → Stands e r t.window
  hears s _ call reply n (settles h k) =
      alike_stands e r (heard_by r call reply s.window.host) h s.window.device s.window.acts k
      (n.heard s.window.host (alike_itself s.window.host) refl)

  not_done : {P : Type 0} (stage : Stage) → is_over stage ≡ false → stage ≡ Done → P
  not_done stage on d = absurd (false≢true (sym on ∙ ap is_over d))

  lost : (s : Line) (call : Call) (reply : Reply) → Answered e r s call reply → IsRight e r s.window
  lost s call reply n = record {
    once = n.ended.once;
    done_once = λ d. not_done s.window.host.stage n.is.on d;
    done_whole = λ d. not_done s.window.host.stage n.is.on d;
    begins = n.ended.begins;
  }

  pub window_keeps : IsRequest r → Keeps (window_halves e r) (window_claims e r)
  window_keeps q = record {
    alone_is = alone_is;
    alone_stands = alone_stands;
    alone_answered = alone_answered;
    alone_gone = alone_right;
    works = works q;
    quiet = quiet q;
    quiet_is = quiet_is;
    dead = dead_answered;
    hears = hears;
    spared = λ s call reply p n. n.spared p;
    lost = lost;
    none = λ s n. window_is_right e r s.window n;
  }

  pub window_kept : KeepsWindow e r
  window_kept q = step_keeps (window_halves e r) (window_claims e r) (window_keeps q)

  pub window_right : WindowIsRight e r
  window_right q way ping c x m run =
      holds_gone (window_halves e r) (window_claims e r) (window_keeps q) way x
      (run_keeps (window_halves e r) (window_claims e r) (window_keeps q) way (at_rest (goes_on (line_at e r ping c))) x run
      (record { at = window_opens e r ping c m; aside = tt }))

  pub transaction_is_an_event : TransactionIsAnEvent e r
  transaction_is_an_event way losses l over =
      let call : Call = call_at e r l.host in
      let s : Line = goes_on l in
      let after : Line = worked e (row_of s call losses) call s in
      let reply : Reply = reply_of s call losses in
      let settled : Host = heard_by r call reply l.host in
      subst (λ b. Step (window_halves e r) way (at_rest (goes_on l)) (at_rest (goes_on (if b then l else made e r losses call l))))
      (sym over)
      (plain call reply after (record after { window = record after.window { host = settled } }) refl refl
      (record { on = over; asks = refl }) (record { losses = losses; heard = refl; after = refl }) (settles settled (alike_itself settled)))
