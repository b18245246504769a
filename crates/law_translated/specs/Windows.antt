-- A control request to a scripted device, with a translator between it and the host or without (USB 2.0, 8.5.3, 11.17): the
-- transactions of `law_request`, each cut in the device's half and the host's.
--     Line                    a window's host, device and acts, and whether the host goes on
--     window_halves e r       what host and device do in the two halves
--     window_claims e r       how they stand
use Rattle.std.specs.Prelude.{◌≡◌, Bool, true, false, ◌++◌}
use Rattle.usb_base.specs.declared.packets.Reply.{Reply}
use Rattle.usb_base.specs.declared.packets.Reply.TheVariants.{Silent, Bytes, Hand}
use Rattle.usb_base.specs.declared.packets.Pid.TheVariants as Pids
use Rattle.dev_control.specs.Stages.{Stages}
use Rattle.toggle_error.specs.declared.host.HostSide.{HostSide}
use Rattle.transactions.specs.Calls.{Call}
use Rattle.bus_wire.specs.declared.asked.Losses.{Losses as Lost}
use Rattle.bus_wire.specs.declared.who_heard.WhoHeard.{WhoHeard}
use Rattle.bus_wire.specs.WhoHeard.{asker_hears}
use Rattle.claims_report.specs.Requests.{Request}
use Rattle.law_request.specs.Host.{Endpoint, Host, is_over, call_at, heard_by}
use Rattle.law_request.specs.Line.{Line as Window, line_at, answer_of, device_after, acts_by, row_at, transacted}
use Rattle.law_request.specs.Standing.{sight_of, IsEnded, Stands}
use Rattle.law_request.specs.Windows.{IsRequest, IsRight}
use Rattle.law_translated.specs.Lift.{Way, Buffered, Piped, Split, at_rest, Halves, Step, Run, Claims, Holds}

pub record Line : Type 0 where
  pub window : Window  -- its host stays at the qTD at which it ended by itself
  pub going : Bool  -- it hasn't

abbrev pub goes_on : Window → Line
goes_on l = record { window = l; going = true }

-- ---- the host by itself

-- The host is at the same place of the same qTD, with the same toggle. It may have counted errors, wait for a translator or not, and be in
-- another ping state.
pub data IsAlike (h : Host) : Host → Type 0 where
  alike : (side : HostSide) → side.toggle ≡ h.side.toggle → side.left ≡ h.side.left → side.max ≡ h.side.max → side.active ≡ h.side.active
      → IsAlike h (record h { side = side })

pub data Alone (s : Line) : Line → Type 0 where
  counts : (h : Host) → IsAlike s.window.host h → h.side.ping ≡ s.window.host.side.ping
      → Alone s (record s { window = record s.window { host = h } })
  ends : Alone s (record s { going = false })

-- ---- the two halves

abbrev pub worked : Endpoint → WhoHeard → Call → Line → Line
worked e row call s = record s {
  window = record s.window {
    device = device_after e row call.ask call.out s.window.device;
    acts = acts_by e row call.ask call.out s.window.device ++ s.window.acts;
  };
}

abbrev pub is_data : Reply → Bool
is_data Silent = false
is_data (Bytes pid bytes) = true
is_data (Hand pid) = false

-- no answer matters but data, which the device may know to be taken
abbrev pub Spared : Call → Reply → Type 0
Spared call reply = is_data reply ≡ false

abbrev pub dead : Way → Reply
dead Buffered = Hand Pids.Stall
dead Piped = Silent

-- the endpoint and the request
module _ (e : Endpoint) (r : Request) where
  -- the next transaction of a host that isn't over
  pub record Is (s : Line) (call : Call) : Type 0 where
    pub on : is_over s.window.host.stage ≡ false
    pub asks : call ≡ call_at e r s.window.host

  -- the device's half: who heard what, what the asker hears of the device's answer, and what the device is left as
  pub record Works (s : Line) (call : Call) (reply : Reply) (t : Line) : Type 0 where
    pub losses : Lost
    pub heard : reply ≡ asker_hears (row_at e losses call s.window.device) (answer_of e call.ask call.out s.window.device)
    pub after : t ≡ worked e (row_at e losses call s.window.device) call s

  abbrev pub Quiet : Line → Call → Line → Type 0
  Quiet s call t = Works s call Silent t

  -- the host's half: it settles what it heard
  pub data Hears (s : Line) (call : Call) (reply : Reply) : Line → Type 0 where
    settles : (h : Host) → IsAlike (heard_by r call reply s.window.host) h
        → Hears s call reply (record s { window = record s.window { host = h } })

  abbrev pub window_halves : Halves Line Call Reply
  window_halves = record { Is = Is; Alone = Alone; Works = Works; Quiet = Quiet; Hears = Hears; Spared = Spared; dead = dead }

  -- ---- how they stand

  -- With this answer on the way they stand to each other as soon as the host heard it. The window is right before, and where the answer
  -- isn't
  -- data they stand before too.
  pub record Answered (s : Line) (call : Call) (reply : Reply) : Type 0 where
    pub is : Is s call
    pub ended : IsEnded e r (sight_of s.window)
    pub spared : is_data reply ≡ false → Stands e r s.window
    pub heard : (h : Host) → IsAlike s.window.host h → h.side.ping ≡ s.window.host.side.ping
        → Stands e r (record s.window { host = heard_by r call reply h })

  abbrev pub window_claims : Claims Line Call Reply
  window_claims = record { Stands = λ s. Stands e r s.window; Answered = Answered; Gone = λ s. IsRight e r s.window }

  -- ---- what is said of a window

  abbrev pub KeepsWindow : Type 0
  KeepsWindow =
      IsRequest r → (way : Way) (x y : Split Line Call Reply) → Step window_halves way x y → Holds window_halves window_claims way x
      → Holds window_halves window_claims way y

  -- whatever happens between host and device, and whatever the device was left as
  abbrev pub WindowIsRight : Type 0
  WindowIsRight = IsRequest r → (way : Way) (ping : Bool) (c : Stages) (x : Split Line Call Reply) → c.max ≡ e.max
      → Run window_halves way (at_rest (goes_on (line_at e r ping c))) x → IsRight e r x.line.window

  -- at high speed each transaction is one event of this machine
  abbrev pub TransactionIsAnEvent : Type 0
  TransactionIsAnEvent = (way : Way) (losses : Lost) (l : Window) → is_over l.host.stage ≡ false
      → Step window_halves way (at_rest (goes_on l)) (at_rest (goes_on (transacted e r losses l)))
