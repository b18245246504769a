-- What a split transaction of a control endpoint comes to for the host of a request, by what it heard (EHCI 1.0, 4.12).
use Rattle.std.proofs.Common.{◌≡◌, ◌≢◌, ℕ, ◌-◌, ◌&&◌, ◌||◌, ◌==◌, Bool, true, false, not, if◌then◌else◌, List, refl}
use Rattle.std.specs.Prelude.{nat_le}
use Rattle.usb_base.specs.declared.endpoints.EndCause.TheVariants as Causes
use Rattle.usb_base.specs.declared.packets.EpKind.TheVariants as Kinds
use Rattle.dev_control.specs.Stages.{Stages}
use Rattle.toggle_error.specs.declared.host.HostSide.{HostSide}
use Rattle.toggle_error.specs.declared.host.Outcome.{Outcome}
use Rattle.toggle_error.specs.declared.host.Outcome.TheVariants.{Moved, Error, Halt}
use Rattle.toggle_error.specs.declared.rows.AskToken.{AskToken}
use Rattle.toggle_error.specs.declared.rows.AskToken.TheVariants as tokens
use Rattle.toggle_error.specs.declared.rows.Heard.{Heard}
use Rattle.toggle_error.specs.declared.rows.Heard.TheVariants as Heards
use Rattle.toggle_error.specs.declared.rows.PlainRow.{PlainRow}
use Rattle.toggle_error.specs.declared.rows.PlainRow.TheVariants as Rows
use Rattle.toggle_error.specs.PlainRows.{plain_row, is_last_error, erred, error_outcome, moved_out, plain_outcome, after_plain}
use Rattle.toggle_error.specs.SplitRows.{start_row, start_outcome, after_start, complete_row, complete_outcome, after_complete}
use Rattle.claims_report.specs.Requests.{Request}
use Rattle.law_request.specs.Host.{Endpoint, Host, Stage, Setup, Data, Status, Done, Halted, side_at, host_in, next_stage, moved_at}
use Rattle.law_request.specs.Host.{goes_on as goes, settled_by}
use Rattle.law_request.specs.Standing.{Stands}
use Rattle.law_request.proofs.Hearing.{line, Same, Halts, stands_quiet}
use Rattle.law_translated.specs.Windows.{IsAlike, alike}
use Rattle.law_below_hubs.specs.HostRequests.{unpinged}
use Rattle.law_below_hubs.proofs.HostSettles.{is_taken}

-- ---- nothing moved

-- the host is where it was, and waits or not; or errors ended it
pub data Stays (b : Bool) (h : Host) : Host → Type 0 where
  still : (side : HostSide) → side.toggle ≡ h.side.toggle → side.left ≡ h.side.left → side.active ≡ h.side.active → side.max ≡ h.side.max
      → side.waiting ≡ b → Stays b h (record { stage = h.stage; side = side; moved = h.moved })
  halts : (side : HostSide) → side.max ≡ h.side.max → side.waiting ≡ b
      → Stays b h (record { stage = Halted Causes.Error; side = side; moved = h.moved })

pub stays_stands : (e : Endpoint) (r : Request) (b : Bool) (h g : Host) (c : Stages) (a : List (List ℕ)) → Stays b h g
    → Stands e r (line h c a) → Stands e r (line g c a)
stays_stands e r b h _ c a (still side t l v m is) s =
    stands_quiet e r h (record { stage = h.stage; side = side; moved = h.moved }) c a (Same side t l v m) s
stays_stands e r b h _ c a (halts side m is) s =
    stands_quiet e r h (record { stage = Halted Causes.Error; side = side; moved = h.moved }) c a (Halts Causes.Error side m) s

abbrev failed_side : Bool → HostSide → HostSide
failed_side last side = record side {
  xact_err = true;
  cerr = side.cerr - 1;
  halted = last || side.halted;
  active = not last && side.active;
}

error_stays : (r : Request) (b : Bool) (h : Host) (moved : List ℕ) → h.side.waiting ≡ b
    → Stays b h (settled_by r (error_outcome h.side) (erred h.side) moved h)
error_stays r b h moved is = by (is_last_error h.side)
  where
    by : (last : Bool) → Stays b h (settled_by r (if last then Halt Causes.Error else Error) (failed_side last h.side) moved h)
    by true = halts (failed_side true h.side) refl is
    by false = still (failed_side false h.side) refl refl refl refl is

pub start_stays : (r : Request) (heard : Heard) (h : Host) (moved : List ℕ) → h.side.waiting ≡ false
    → Stays (is_taken Kinds.Control heard) h
    (settled_by r (start_outcome (start_row Kinds.Control heard) h.side) (after_start (start_row Kinds.Control heard) h.side) moved h)
start_stays r Heards.Ack h moved off = still (record h.side { waiting = true }) refl refl refl refl refl
start_stays r Heards.Nak h moved off = still h.side refl refl refl refl off
start_stays r _ h moved off = error_stays r false h moved off

-- ---- a complete-split

-- the token's column of the settle table, of a split transaction and of a plain one
pub data IsColumn : AskToken → AskToken → Type 0 where
  ins : IsColumn tokens.In tokens.In
  outs : IsColumn tokens.Out tokens.PingedOut
  pings : IsColumn tokens.PingedOut tokens.PingedOut
  setups : IsColumn tokens.Setup tokens.Setup

abbrev pub below_outcome : AskToken → Heard → ℕ → HostSide → Outcome
below_outcome token heard n side = complete_outcome (complete_row Kinds.Control false heard (plain_row token heard n)) side

abbrev pub below_side : AskToken → Heard → ℕ → HostSide → HostSide
below_side token heard n side = after_complete (complete_row Kinds.Control false heard (plain_row token heard n)) side

abbrev pub below_host : Request → AskToken → Heard → ℕ → List ℕ → Host → Host
below_host r token heard n got h = settled_by r (below_outcome token heard n h.side) (below_side token heard n h.side) got h

abbrev pub row_host : Request → PlainRow → List ℕ → Host → Host
row_host r row got h = settled_by r (plain_outcome row h.side) (after_plain row h.side) got h

-- the device's answer, which is settled as that of the plain ask
pub record IsAnswer (r : Request) (token plain : AskToken) (n : ℕ) (heard : Heard) (h : Host) : Type 0 where
  pub answers : heard ≢ Heards.Nothing
  pub ends : heard ≢ Heards.Nyet
  pub outcome : plain_outcome (plain_row plain heard n) (unpinged h).side ≡ below_outcome token heard n h.side
  pub alike_is : (got : List ℕ) → IsAlike (row_host r (plain_row plain heard n) got (unpinged h))
      (unpinged (below_host r token heard n got h))
  pub waits : (got : List ℕ) → (below_host r token heard n got h).side.waiting ≡ false

pub data Completes (r : Request) (token plain : AskToken) (n : ℕ) (heard : Heard) (h : Host) : Type 0 where
  waits_on : ((got : List ℕ) → Stays true h (below_host r token heard n got h)) → Completes r token plain n heard h
  answered : IsAnswer r token plain n heard h → Completes r token plain n heard h

-- ---- rows that end it

begun_alike : (r : Request) (stage : Stage) (m : ℕ) (p : Bool) (moved : List ℕ)
    → IsAlike (host_in r m false stage moved) (unpinged (host_in r m p stage moved))
begun_alike r Setup m p moved = alike (side_at r m false Setup) refl refl refl refl
begun_alike r Data m p moved = alike (side_at r m false Data) refl refl refl refl
begun_alike r Status m p moved = alike (side_at r m false Status) refl refl refl refl
begun_alike r Done m p moved = alike (side_at r m false Done) refl refl refl refl
begun_alike r (Halted cause) m p moved = alike (side_at r m false (Halted cause)) refl refl refl refl

begun_waits : (r : Request) (stage : Stage) (m : ℕ) (p : Bool) → (side_at r m p stage).waiting ≡ false
begun_waits r Setup m p = refl
begun_waits r Data m p = refl
begun_waits r Status m p = refl
begun_waits r Done m p = refl
begun_waits r (Halted cause) m p = refl

-- the qTD goes on or not, alike
abbrev moved_side : Bool → ℕ → HostSide → HostSide
moved_side active n side = record side { toggle = not side.toggle; left = side.left - n; active = active }

goes_alike : (r : Request) (b : Bool) (n : ℕ) (moved : List ℕ) (h : Host) (p : Bool)
    → IsAlike (goes r b (record (moved_side b n h.side) { ping = false }) moved (unpinged h))
    (unpinged (goes r b (record (moved_side b n h.side) { ping = p; waiting = false }) moved h))
goes_alike r true n moved h p = alike (record (moved_side true n h.side) { ping = false; waiting = false }) refl refl refl refl
goes_alike r false n moved h p = begun_alike r (next_stage r h.stage) h.side.max p moved

goes_waits : (r : Request) (b : Bool) (n : ℕ) (moved : List ℕ) (h : Host) (p : Bool)
    → (goes r b (record (moved_side b n h.side) { ping = p; waiting = false }) moved h).side.waiting ≡ false
goes_waits r true n moved h p = refl
goes_waits r false n moved h p = begun_waits r (next_stage r h.stage) h.side.max p

module _ (r : Request) (n : ℕ) (h : Host) where
  received : (k : ℕ) → IsAnswer r tokens.In tokens.In n (Heards.Fitting k) h
  received k = record {
    answers = λ e. cc;
    ends = λ e. cc;
    outcome = refl;
    alike_is = λ got. goes_alike r (nat_le h.side.max k && not (h.side.left - k == 0) && h.side.active) k (moved_at h.stage h.moved got) h
        h.side.ping;
    waits = λ got. goes_waits r (nat_le h.side.max k && not (h.side.left - k == 0) && h.side.active) k (moved_at h.stage h.moved got) h
        h.side.ping;
  }

  sent_alike : (got : List ℕ) → IsAlike (row_host r (Rows.Sent n) got (unpinged h))
      (unpinged (settled_by r (Moved n) (record (moved_out n false h.side) { waiting = false }) got h))
  sent_alike got = goes_alike r (not (h.side.left - n == 0) && h.side.active) n (moved_at h.stage h.moved got) h false

  sent_waits : (got : List ℕ) → (settled_by r (Moved n) (record (moved_out n false h.side) { waiting = false }) got h).side.waiting ≡ false
  sent_waits got = goes_waits r (not (h.side.left - n == 0) && h.side.active) n (moved_at h.stage h.moved got) h false

  sent_out : IsAnswer r tokens.Out tokens.PingedOut n Heards.Ack h
  sent_out = record { answers = λ e. cc; ends = λ e. cc; outcome = refl; alike_is = sent_alike; waits = sent_waits }

  sent_pinged : IsAnswer r tokens.PingedOut tokens.PingedOut n Heards.Ack h
  sent_pinged = record { answers = λ e. cc; ends = λ e. cc; outcome = refl; alike_is = sent_alike; waits = sent_waits }

  sent_setup : IsAnswer r tokens.Setup tokens.Setup n Heards.Ack h
  sent_setup = record { answers = λ e. cc; ends = λ e. cc; outcome = refl; alike_is = sent_alike; waits = sent_waits }

  abbrev quiet_side : HostSide
  quiet_side = record h.side { ping = false; waiting = false }

  abbrev stalled_side : HostSide
  stalled_side = record h.side { ping = false; waiting = false; halted = true; active = false }

  abbrev babbled_side : HostSide
  babbled_side = record h.side { ping = false; waiting = false; babble = true; halted = true; active = false }

  pub completes : (token plain : AskToken) (heard : Heard) → IsColumn token plain → h.side.waiting ≡ true
      → Completes r token plain n heard h
  completes _ _ (Heards.Fitting k) ins on = answered (received k)
  completes _ _ Heards.Repeat ins on =
      answered (record {
        answers = λ e. cc;
        ends = λ e. cc;
        outcome = refl;
        alike_is = λ got. alike quiet_side refl refl refl refl;
        waits =
            λ got. refl;
      })
  completes _ _ Heards.TooLong ins on =
      answered (record {
        answers = λ e. cc;
        ends = λ e. cc;
        outcome = refl;
        alike_is =
            λ got. alike babbled_side refl refl refl refl;
        waits = λ got. refl;
      })
  completes _ _ Heards.Nak ins on =
      answered (record {
        answers = λ e. cc;
        ends = λ e. cc;
        outcome = refl;
        alike_is = λ got. alike quiet_side refl refl refl refl;
        waits =
            λ got. refl;
      })
  completes _ _ Heards.Stall ins on =
      answered (record {
        answers = λ e. cc;
        ends = λ e. cc;
        outcome = refl;
        alike_is =
            λ got. alike stalled_side refl refl refl refl;
        waits = λ got. refl;
      })
  completes _ _ Heards.Nyet ins on = waits_on (λ got. still h.side refl refl refl refl on)
  completes _ _ _ ins on = waits_on (λ got. error_stays r true h got on)
  completes _ _ Heards.Ack outs on = answered sent_out
  completes _ _ Heards.Nak outs on =
      answered (record {
        answers = λ e. cc;
        ends = λ e. cc;
        outcome = refl;
        alike_is = λ got. alike quiet_side refl refl refl refl;
        waits =
            λ got. refl;
      })
  completes _ _ Heards.Stall outs on =
      answered (record {
        answers = λ e. cc;
        ends = λ e. cc;
        outcome = refl;
        alike_is =
            λ got. alike stalled_side refl refl refl refl;
        waits = λ got. refl;
      })
  completes _ _ Heards.Nyet outs on = waits_on (λ got. still h.side refl refl refl refl on)
  completes _ _ _ outs on = waits_on (λ got. error_stays r true h got on)
  completes _ _ Heards.Ack pings on = answered sent_pinged
  completes _ _ Heards.Nak pings on =
      answered (record {
        answers = λ e. cc;
        ends = λ e. cc;
        outcome = refl;
        alike_is = λ got. alike quiet_side refl refl refl refl;
        waits =
            λ got. refl;
      })
  completes _ _ Heards.Stall pings on =
      answered (record {
        answers = λ e. cc;
        ends = λ e. cc;
        outcome = refl;
        alike_is =
            λ got. alike stalled_side refl refl refl refl;
        waits = λ got. refl;
      })
  completes _ _ Heards.Nyet pings on = waits_on (λ got. still h.side refl refl refl refl on)
  completes _ _ _ pings on = waits_on (λ got. error_stays r true h got on)
  completes _ _ Heards.Ack setups on = answered sent_setup
  completes _ _ Heards.Stall setups on =
      answered (record {
        answers = λ e. cc;
        ends = λ e. cc;
        outcome = refl;
        alike_is =
            λ got. alike stalled_side refl refl refl refl;
        waits = λ got. refl;
      })
  completes _ _ Heards.Nyet setups on = waits_on (λ got. still h.side refl refl refl refl on)
  completes _ _ _ setups on = waits_on (λ got. error_stays r true h got on)
