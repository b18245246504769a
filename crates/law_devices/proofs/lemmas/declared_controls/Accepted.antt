-- The requests of a script that a report doesn't refuse.
use Rattle.std.proofs.Common.{ℕ, Some, None}
use Rattle.std.proofs.lemmas.Bool.{cond_both}
use Rattle.usb_base.specs.declared.commands.Cmd.{Cmd}
use Rattle.usb_base.specs.declared.commands.Cmd.TheVariants as cmd
use Rattle.usb_base.specs.declared.endpoints.EpName.{EpName}
use Rattle.script_types.specs.declared.scripts.Line.{Line}
use Rattle.script_types.specs.declared.scripts.Line.TheVariants as line
use Rattle.law_scripts.proofs.lemmas.byte_answers.Lists.{Holds, all_kept}
use Rattle.bus_wire.specs.Fates.{is_same_name}
use Rattle.claims_report.specs.Reports.{WholeReport}
use Rattle.claims_report.specs.Streams.{is_refused, command_in, accepted_in, accepted}
use Rattle.claims_report.specs.Requests.{request_in}
use Rattle.law_request.specs.Windows.{IsRequest}
use Rattle.law_devices.specs.declared_controls.Requests.{AsksCommand, AsksLine}
use Rattle.law_devices.specs.declared_controls.Laws.{AcceptedAreRequests}

in_line : (l : Line) → AsksLine l → Holds AsksCommand (command_in l)
in_line (line.Command c) h = h
in_line _ h = tt

not_refused : (r : WholeReport) (l : ℕ × Line) → AsksLine l.1 → Holds AsksCommand (accepted_in r l)
not_refused r l h = cond_both (is_refused r l.0) None (command_in l.1) (Holds AsksCommand) (λ _. tt) (λ _. in_line l.1 h)

in_command : (name : EpName) (c : Cmd) → AsksCommand c → Holds IsRequest (request_in name c)
in_command name (cmd.Control to setup bytes) h = cond_both (is_same_name to name) (Some (record { setup = setup; bytes = bytes })) None (Holds IsRequest) (λ _. h.whole.request) (λ _. tt)
in_command name _ h = tt

pub accepted_are_requests : AcceptedAreRequests
accepted_are_requests s r name h =
    all_kept AsksCommand IsRequest (request_in name) (accepted s r) (in_command name) (all_kept (λ l. AsksLine l.1) AsksCommand (accepted_in r) s.lines (not_refused r) h)
