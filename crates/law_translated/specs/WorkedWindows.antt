-- Worked windows of requests to a device of `law_request`, through the buffers of a translator.
use Rattle.std.specs.Prelude.{◌≡◌, false, [], ◌∷◌}
use Rattle.usb_base.specs.declared.packets.Reply.{Reply}
use Rattle.dev_control.specs.Stages.{opened}
use Rattle.dev_control.specs.Worked.{read_of, write_of}
use Rattle.transactions.specs.Calls.{Call}
use Rattle.bus_wire.specs.declared.asked.Losses.{Losses as Lost}
use Rattle.bus_wire.specs.WhoHeard.{asker_hears}
use Rattle.claims_report.specs.Requests.{Request}
use Rattle.law_request.specs.Host.{Done, call_at, heard_by}
use Rattle.law_request.specs.Line.{Line as Window, line_at, answer_of, row_at}
use Rattle.law_request.specs.Samples.{endpoint, device, read, write, good, answer_lost, turn, told, tells}
use Rattle.law_request.specs.Windows.{IsRequest, IsRight, window_of}
use Rattle.law_translated.specs.Lift.{Buffered, Idle, Waits, Asked, There, Told, Split, at_rest, Passes}
use Rattle.law_translated.specs.Windows.{Line, goes_on, worked, window_halves}

abbrev pub WindowSplit : Type 0
WindowSplit = Split Line Call Reply

-- ---- what an event leaves

-- a start-split of the host's next transaction
abbrev pub asked : Request → WindowSplit → WindowSplit
asked r x = record x { here = Asked (call_at endpoint r x.line.window.host); wait = Waits }

-- the transaction below, where these packets are lost; the translator hears its answer or nothing
abbrev pub below : Lost → Call → WindowSplit → WindowSplit
below losses call x = record x { line = worked endpoint (row_at endpoint losses call x.line.window.device) call x.line }

abbrev pub reply_below : Lost → Call → WindowSplit → Reply
reply_below losses call x =
    asker_hears (row_at endpoint losses call x.line.window.device) (answer_of endpoint call.ask call.out x.line.window.device)

abbrev pub made : Lost → Call → WindowSplit → WindowSplit
made losses call x = record (below losses call x) { here = There call (reply_below losses call x) }

-- a complete-split whose answer is heard
abbrev pub heard : Request → Call → Reply → WindowSplit → WindowSplit
heard r call reply x = record x {
  line = record x.line { window = record x.line.window { host = heard_by r call reply x.line.window.host } };
  wait = Idle;
  here = Told call reply;
}

abbrev pub turned : WindowSplit → WindowSplit
turned x = record x { here = x.aside; aside = x.here }

-- ---- a request without data, whose status is answered twice

abbrev pub no_data : Request
no_data = write 0 []

abbrev pub opening : WindowSplit
opening = at_rest (goes_on (line_at endpoint no_data false device))

abbrev pub setup_call : Call
setup_call = call_at endpoint no_data opening.line.window.host

abbrev pub setup_asked : WindowSplit
setup_asked = asked no_data opening

abbrev pub setup_made : WindowSplit
setup_made = made good setup_call setup_asked

abbrev pub setup_heard : WindowSplit
setup_heard = heard no_data setup_call (reply_below good setup_call setup_asked) setup_made

abbrev pub status_next : WindowSplit
status_next = turned setup_heard

abbrev pub status_call : Call
status_call = call_at endpoint no_data status_next.line.window.host

abbrev pub status_asked : WindowSplit
status_asked = asked no_data status_next

-- the translator doesn't hear the device's answer, which acted
abbrev pub status_lost : WindowSplit
status_lost = below answer_lost status_call status_asked

abbrev pub status_made : WindowSplit
status_made = made good status_call status_lost

abbrev pub status_heard : WindowSplit
status_heard = heard no_data status_call (reply_below good status_call status_lost) status_made

pub record WindowComesTrue : Type 0 where
  pub request : IsRequest no_data
  pub size : device.max ≡ endpoint.max
  pub passes : Passes (window_halves endpoint no_data) Buffered opening
      (setup_asked ∷ setup_made ∷ setup_heard ∷ status_next ∷ status_asked ∷ status_lost ∷ status_made ∷ status_heard ∷ [])
  pub once : told status_heard.line.window ≡ tells Done [] (write_of 0 ∷ [])

-- ---- a device whose packets are shorter than the host's maximum: its first one ends the read, which isn't whole

abbrev pub cut_window : Window
cut_window = window_of endpoint (turn (read 8) (good ∷ good ∷ good ∷ [])) (opened 2 0)

pub record OtherSizeBreaks : Type 0 where
  pub size : (opened 2 0).max ≡ endpoint.max → ⊥
  pub cut : told cut_window ≡ tells Done (1 ∷ 2 ∷ []) (read_of 8 ∷ [])
  pub wrong : IsRight endpoint (read 8) cut_window → ⊥
