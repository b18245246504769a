-- The status stage: the device acts at its first answer, and a repeated status is answered alike.
use Rattle.std.proofs.Common.{◌≡◌, ℕ, ◌-◌, ◌==◌, ◌&&◌, ◌⊎◌, Bool, true, false, not, if◌then◌else◌, List, [], ◌∷◌, ◌++◌, inl, inr, Option, Some, None, refl, sym, ap, ◌∙◌, subst, arith}
use Rattle.std.proofs.Math.Bool.{false≢true}
use Rattle.std.proofs.lemmas.Bool.{le-leb}
use Rattle.std.specs.Prelude.{nat_le}
use Rattle.usb_base.specs.declared.packets.EpKind.TheVariants.{Control}
use Rattle.usb_base.specs.declared.packets.Pid.TheVariants as Pids
use Rattle.usb_base.specs.declared.packets.Reply.TheVariants.{Bytes}
use Rattle.dev_control.specs.declared.control.Request.{Request as UnderWay}
use Rattle.dev_control.specs.declared.rows.Sequence.{Sequence}
use Rattle.dev_control.specs.declared.rows.Stage.{Stage as DeviceStage}
use Rattle.dev_control.specs.declared.rows.StageRow.TheVariants.{Acknowledges, Confirms, Stalls}
use Rattle.dev_control.specs.Stages.{Stages, is_read, wanted_of, stage_of, sequence_of, is_status, far_with, in_row, out_row, out_row_at, acted_at, acted_with, acted_on}
use Rattle.claims_report.specs.Acts.{acts_if}
use Rattle.toggle_error.specs.declared.host.HostSide.{HostSide}
use Rattle.toggle_error.specs.declared.rows.AskToken.TheVariants as Tokens
use Rattle.toggle_error.specs.declared.rows.Heard.TheVariants as Heards
use Rattle.toggle_error.specs.declared.rows.PlainRow.TheVariants.{Refused, RefusedPinged, Stalled, Failed, FailedPinged}
use Rattle.toggle_error.specs.Columns.{expected_pid, limit_of, heard_data, fitting}
use Rattle.toggle_error.specs.PlainRows.{plain_row, moved_in, moved_out}
use Rattle.transactions.specs.Asks.{pinged}
use Rattle.transactions.specs.Calls.{Call, high_call}
use Rattle.bus_wire.specs.declared.asked.Losses.{Losses}
use Rattle.claims_report.specs.Requests.{Request}
use Rattle.law_request.specs.Host.{Endpoint, Status, Host, has_data, endpoint_pipe, goes_on, heard_by}
use Rattle.law_request.specs.Line.{reply_under, acked, made}
use Rattle.law_request.specs.Standing.{sight_of, IsAtStatus, Stands, under_way}
use Rattle.law_request.proofs.Hearing.{line, IsKept, row_host, made_stands, quiet_row, stands_quiet, true_not_false}
use Rattle.law_request.proofs.Rows.{IsStage, IsRefusing, IsNoData, IsReading, IsAllRead, IsWriting, IsAllWritten, device_stage, naks_kept, stalls_kept, unless_kept, acked_max}
use Rattle.law_request.proofs.Writing.{out_call, ping_keeps}

abbrev pub status_host : HostSide → List ℕ → Host
status_host side moved = record { stage = Status; side = side; moved = moved }

-- ---- acting

acted_request_at : (r : Request) (c : Stages) (at : ℕ) (turn done : Bool) → c.request ≡ under_way r at turn done
    → (acted_at done (record { setup = r.setup; moved = at; toggle = turn; done = done }) c).request ≡ under_way r at turn true
acted_request_at r c at turn true under = under
acted_request_at r c at turn false under = refl

acted_request : (r : Request) (c : Stages) (at : ℕ) (turn done : Bool) → c.request ≡ under_way r at turn done → (acted_on c).request ≡ under_way r at turn true
acted_request r c at turn done under = ap (λ q. (acted_with q c).request) under ∙ acted_request_at r c at turn done under

acted_max_at : (done : Bool) (u : UnderWay) (c : Stages) → (acted_at done u c).max ≡ c.max
acted_max_at true u c = refl
acted_max_at false u c = refl

acted_max_with : (q : Option UnderWay) (c : Stages) → (acted_with q c).max ≡ c.max
acted_max_with None c = refl
acted_max_with (Some u) c = acted_max_at u.done u c

acts_done : (r : Request) (at : ℕ) (turn done : Bool) (a : List (List ℕ)) → ((done ≡ false) × (a ≡ [])) ⊎ ((done ≡ true) × (a ≡ r.setup ∷ []))
    → acts_if true (under_way r at turn done) ++ a ≡ r.setup ∷ []
acts_done r at turn true a h = elim h [ inl k ↦ true_not_false k.0 | inr k ↦ k.1 ]
acts_done r at turn false a h = elim h [ inl k ↦ ap (λ x. r.setup ∷ x) k.1 | inr k ↦ absurd (false≢true k.0) ]

-- the acts of the window, once the status was answered
acts_then : (e : Endpoint) (r : Request) (side : HostSide) (moved : List ℕ) (c : Stages) (a : List (List ℕ)) (x : IsAtStatus e r (sight_of (line (status_host side moved) c a)))
    → acts_if true c.request ++ a ≡ r.setup ∷ []
acts_then e r side moved c a x = ap (λ q. acts_if true q ++ a) x.under ∙ acts_done r x.at x.turn x.done a x.acts

-- where the host hears nothing of it, it is at its status still
acted_stands : (e : Endpoint) (r : Request) (side : HostSide) (moved : List ℕ) (c : Stages) (a : List (List ℕ)) (x : IsAtStatus e r (sight_of (line (status_host side moved) c a)))
    → Stands e r (line (status_host side moved) c a) → Stands e r (line (status_host side moved) (acted_on c) (acts_if true c.request ++ a))
acted_stands e r side moved c a x s = record {
  host_max = s.host_max;
  device_max = acted_max_with c.request c ∙ s.device_max;
  stage = record {
    at = x.at;
    turn = x.turn;
    done = true;
    under = acted_request r c x.at x.turn x.done x.under;
    moved = x.moved;
    toggle = x.toggle;
    left = x.left;
    acts = inr (refl, acts_then e r side moved c a x);
  };
}

-- where it hears it, the request is done
ended : (e : Endpoint) (r : Request) (side : HostSide) (moved : List ℕ) (c d : Stages) (a : List (List ℕ)) (x : IsAtStatus e r (sight_of (line (status_host side moved) c a)))
    (after : HostSide) (b : Bool) → b ≡ false → after.max ≡ e.max → d.max ≡ e.max
    → Stands e r (line (goes_on r b after moved (status_host side moved)) d (acts_if true c.request ++ a))
ended e r side moved c d a x after true h am dm = absurd (false≢true (sym h))
ended e r side moved c d a x after false h am dm = record {
  host_max = am;
  device_max = dm;
  stage = record { moved = x.moved; acts = acts_then e r side moved c a x };
}

none_left : (left : ℕ) (active : Bool) → left ≡ 0 → (not (left - 0 == 0) && active) ≡ false
none_left left active h = ap (λ n. not (n - 0 == 0) && active) h

none_more : (full active : Bool) (left : ℕ) → left ≡ 0 → (full && not (left - 0 == 0) && active) ≡ false
none_more true active left h = ap (λ n. not (n - 0 == 0) && active) h
none_more false active left h = refl

-- ---- an OUT as the status of a read

abbrev status_out : Endpoint → HostSide → Call
status_out e side = out_call e Pids.Out side []

acknowledges_kept : (e : Endpoint) (r : Request) (side : HostSide) (moved : List ℕ) (c : Stages) (a : List (List ℕ)) → IsAtStatus e r (sight_of (line (status_host side moved) c a))
    → Stands e r (line (status_host side moved) c a) → IsKept e r (status_out e side) (status_host side moved) c a Acknowledges
acknowledges_kept e r side moved c a x s = record {
  unheard = stands_quiet e r (status_host side moved) _ (acted_on c) (acts_if true c.request ++ a) (quiet_row r FailedPinged _ (status_host side moved) refl) (acted_stands e r side moved c a x s);
  heard = ended e r side moved c (acted_on c) a x (moved_out 0 false side) (moved_out 0 false side).active (none_left side.left side.active x.left) s.host_max (acted_max_with c.request c ∙ s.device_max);
  told = λ k. absurd (false≢true k);
}

out_stalls : (e : Endpoint) (r : Request) (side : HostSide) (moved : List ℕ) (c : Stages) (a : List (List ℕ)) → Stands e r (line (status_host side moved) c a)
    → IsKept e r (status_out e side) (status_host side moved) c a Stalls
out_stalls e r side moved c a s = stalls_kept e r (status_out e side) (status_host side moved) c a s (quiet_row r FailedPinged _ (status_host side moved) refl) (quiet_row r Stalled [] (status_host side moved) refl)

out_row_kept : (e : Endpoint) (r : Request) (side : HostSide) (moved : List ℕ) (c : Stages) (a : List (List ℕ)) (stage : DeviceStage) (sequence : Sequence) (far : Option ℕ)
    → IsStage (e.known r.setup) (wanted_of r.setup == 0) (is_read r.setup) stage → is_read r.setup ≡ true → (wanted_of r.setup == 0) ≡ false
    → IsAtStatus e r (sight_of (line (status_host side moved) c a)) → Stands e r (line (status_host side moved) c a)
    → IsKept e r (status_out e side) (status_host side moved) c a (out_row stage sequence true far)
out_row_kept e r side moved c a _ sequence far IsRefusing i w x s = out_stalls e r side moved c a s
out_row_kept e r side moved c a _ sequence far (IsNoData h) i w x s = true_not_false (sym h ∙ w)
out_row_kept e r side moved c a _ sequence far (IsReading reply k h j) i w x s = acknowledges_kept e r side moved c a x s
out_row_kept e r side moved c a _ sequence far (IsAllRead h j) i w x s = acknowledges_kept e r side moved c a x s
out_row_kept e r side moved c a _ sequence far (IsWriting h j) i w x s = true_not_false (sym i ∙ j)
out_row_kept e r side moved c a _ sequence far (IsAllWritten h j) i w x s = true_not_false (sym i ∙ j)

out_keeps : (e : Endpoint) (r : Request) (losses : Losses) (side : HostSide) (moved : List ℕ) (c : Stages) (a : List (List ℕ)) → is_read r.setup ≡ true → (wanted_of r.setup == 0) ≡ false
    → IsAtStatus e r (sight_of (line (status_host side moved) c a)) → Stands e r (line (status_host side moved) c a)
    → Stands e r (made e r losses (status_out e side) (line (status_host side moved) c a))
out_keeps e r losses side moved c a i w x s =
    let stage : DeviceStage = stage_of (reply_under e.known c.request) c in
    let u : UnderWay = record { setup = r.setup; moved = x.at; toggle = x.turn; done = x.done } in
    made_stands e r losses (status_out e side) (status_host side moved) c a
    (stands_quiet e r (status_host side moved) _ c a (quiet_row r FailedPinged _ (status_host side moved) refl) s)
    (unless_kept e r (status_out e side) (status_host side moved) c a (c.naks == 0) (out_row_at stage c.request (expected_pid side.toggle) 0)
    (naks_kept e r (status_out e side) (status_host side moved) c a s (quiet_row r FailedPinged _ (status_host side moved) refl) (quiet_row r RefusedPinged [] (status_host side moved) refl))
    (subst (λ q. IsKept e r (status_out e side) (status_host side moved) c a (out_row_at stage q (expected_pid side.toggle) 0)) (sym x.under)
    (subst (λ b. IsKept e r (status_out e side) (status_host side moved) c a (out_row stage (sequence_of x.turn (expected_pid side.toggle)) b (far_with u 0)))
    (sym (ap (λ b. is_status (expected_pid b) 0) x.toggle))
    (out_row_kept e r side moved c a stage (sequence_of x.turn (expected_pid side.toggle)) (far_with u 0) (device_stage e r c x.at x.turn x.done x.under) i w x s))))

pub status_out_keeps : (e : Endpoint) (r : Request) (losses : Losses) (side : HostSide) (moved : List ℕ) (c : Stages) (a : List (List ℕ)) (ping : Bool) → is_read r.setup ≡ true → (wanted_of r.setup == 0) ≡ false
    → IsAtStatus e r (sight_of (line (status_host side moved) c a)) → Stands e r (line (status_host side moved) c a)
    → Stands e r (made e r losses (out_call e (pinged Control ping) side []) (line (status_host side moved) c a))
status_out_keeps e r losses side moved c a true i w x s = ping_keeps e r losses (status_host side moved) [] c a s
status_out_keeps e r losses side moved c a false i w x s = out_keeps e r losses side moved c a i w x s

-- ---- an IN as the status of a write, or of a request with no data

abbrev status_in : Endpoint → HostSide → Call
status_in e side = high_call (endpoint_pipe e Pids.In) side []

fits_none : (n : ℕ) → fitting 0 n ≡ Heards.Fitting 0
fits_none n = ap (λ b. if b then Heards.Fitting 0 else Heards.TooLong) (le-leb 0 n (omega arith))

confirm_heard : (e : Endpoint) (r : Request) (side : HostSide) (moved : List ℕ) (c d : Stages) (a : List (List ℕ)) → IsAtStatus e r (sight_of (line (status_host side moved) c a))
    → Stands e r (line (status_host side moved) c a) → d.max ≡ e.max
    → Stands e r (line (heard_by r (status_in e side) (Bytes Pids.Data1 []) (status_host side moved)) d (acts_if true c.request ++ a))
confirm_heard e r side moved c d a x s dm =
    subst (λ heard. Stands e r (line (row_host r (plain_row Tokens.In heard 0) [] (status_host side moved)) d (acts_if true c.request ++ a)))
    (sym (ap (λ b. heard_data b Pids.Data1 (fitting 0 (limit_of side))) x.toggle ∙ fits_none (limit_of side)))
    (ended e r side moved c d a x (moved_in 0 side) (moved_in 0 side).active (none_more (nat_le side.max 0) side.active side.left x.left) s.host_max dm)

confirms_kept : (e : Endpoint) (r : Request) (side : HostSide) (moved : List ℕ) (c : Stages) (a : List (List ℕ)) → IsAtStatus e r (sight_of (line (status_host side moved) c a))
    → Stands e r (line (status_host side moved) c a) → IsKept e r (status_in e side) (status_host side moved) c a Confirms
confirms_kept e r side moved c a x s = record {
  unheard = stands_quiet e r (status_host side moved) _ (acted_on c) (acts_if true c.request ++ a) (quiet_row r Failed _ (status_host side moved) refl) (acted_stands e r side moved c a x s);
  heard = confirm_heard e r side moved c (acted_on c) a x s (acted_max_with c.request c ∙ s.device_max);
  told = λ acknowledged. confirm_heard e r side moved c (acked e (acted_on c)) a x s (acked_max e (acted_on c) ∙ (acted_max_with c.request c ∙ s.device_max));
}

in_stalls : (e : Endpoint) (r : Request) (side : HostSide) (moved : List ℕ) (c : Stages) (a : List (List ℕ)) → Stands e r (line (status_host side moved) c a)
    → IsKept e r (status_in e side) (status_host side moved) c a Stalls
in_stalls e r side moved c a s = stalls_kept e r (status_in e side) (status_host side moved) c a s (quiet_row r Failed _ (status_host side moved) refl) (quiet_row r Stalled [] (status_host side moved) refl)

-- not a read with data
no_read : (empty read : Bool) → (not empty && read) ≡ false → empty ≡ false → read ≡ true → true ≡ false
no_read true read h k i = k
no_read false true h k i = h
no_read false false h k i = sym i

in_row_kept : (e : Endpoint) (r : Request) (side : HostSide) (moved : List ℕ) (c : Stages) (a : List (List ℕ)) (stage : DeviceStage)
    → IsStage (e.known r.setup) (wanted_of r.setup == 0) (is_read r.setup) stage → (has_data r && is_read r.setup) ≡ false
    → IsAtStatus e r (sight_of (line (status_host side moved) c a)) → Stands e r (line (status_host side moved) c a)
    → IsKept e r (status_in e side) (status_host side moved) c a (in_row stage)
in_row_kept e r side moved c a _ IsRefusing n x s = in_stalls e r side moved c a s
in_row_kept e r side moved c a _ (IsNoData h) n x s = confirms_kept e r side moved c a x s
in_row_kept e r side moved c a _ (IsReading reply k h j) n x s = true_not_false (no_read (wanted_of r.setup == 0) (is_read r.setup) n h j)
in_row_kept e r side moved c a _ (IsAllRead h j) n x s = true_not_false (no_read (wanted_of r.setup == 0) (is_read r.setup) n h j)
in_row_kept e r side moved c a _ (IsWriting h j) n x s = in_stalls e r side moved c a s
in_row_kept e r side moved c a _ (IsAllWritten h j) n x s = confirms_kept e r side moved c a x s

pub status_in_keeps : (e : Endpoint) (r : Request) (losses : Losses) (side : HostSide) (moved : List ℕ) (c : Stages) (a : List (List ℕ)) → (has_data r && is_read r.setup) ≡ false
    → IsAtStatus e r (sight_of (line (status_host side moved) c a)) → Stands e r (line (status_host side moved) c a)
    → Stands e r (made e r losses (status_in e side) (line (status_host side moved) c a))
status_in_keeps e r losses side moved c a n x s =
    let stage : DeviceStage = stage_of (reply_under e.known c.request) c in
    made_stands e r losses (status_in e side) (status_host side moved) c a
    (stands_quiet e r (status_host side moved) _ c a (quiet_row r Failed _ (status_host side moved) refl) s)
    (unless_kept e r (status_in e side) (status_host side moved) c a (c.naks == 0) (in_row stage)
    (naks_kept e r (status_in e side) (status_host side moved) c a s (quiet_row r Failed _ (status_host side moved) refl) (quiet_row r Refused [] (status_host side moved) refl))
    (in_row_kept e r side moved c a stage (device_stage e r c x.at x.turn x.done x.under) n x s))
