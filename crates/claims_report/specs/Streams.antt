-- The streams of a script, and when those of a report are right: the bytes that are told of a bulk or interrupt endpoint begin its stream,
-- each once and in order (USB 2.0, 5.7.3, 5.8.3 and 8.6).
--     accepted s r             the commands of the script that the report doesn't refuse, in order
--     stream s r name          the bytes that an endpoint has to move
--     told r name              the bytes that the report tells of it, up to its end
use Rattle.std.specs.Prelude.{◌≡◌, ⊤, ℕ, ◌==◌, ◌&&◌, not, Bool, true, false, List, [], ◌∷◌, ◌++◌, filter_map, find, Option, Some, None, if◌then◌else◌}
use Rattle.std.specs.List.{concat, flat_map, list_any}
use Rattle.usb_base.specs.declared.commands.Cmd.{Cmd}
use Rattle.usb_base.specs.declared.commands.Cmd.TheVariants as commands
use Rattle.usb_base.specs.declared.endpoints.EpDesc.{EpDesc}
use Rattle.usb_base.specs.declared.endpoints.EpName.{EpName}
use Rattle.usb_base.specs.declared.packets.EpKind.{EpKind}
use Rattle.usb_base.specs.declared.packets.EpKind.TheVariants.{Bulk, Interrupt}
use Rattle.usb_base.specs.declared.packets.Way.{Way}
use Rattle.usb_base.specs.declared.packets.Way.TheVariants as Ways
use Rattle.usb_base.specs.declared.reports.Report.{Report}
use Rattle.usb_base.specs.declared.reports.What.{What}
use Rattle.usb_base.specs.declared.reports.What.TheVariants.{Refused}
use Rattle.script_types.specs.declared.devices.EpText.{EpText}
use Rattle.script_types.specs.declared.devices.Item.{Item}
use Rattle.script_types.specs.declared.scripts.Line.{Line}
use Rattle.script_types.specs.declared.scripts.Line.TheVariants as lines
use Rattle.script_types.specs.declared.scripts.Script.{Script}
use Rattle.endpoint_script.specs.Items.{packets_of}
use Rattle.claims_base.specs.Prefix.{IsPrefix}
use Rattle.report_text.specs.ReportText.{bytes_of}
use Rattle.bus_wire.specs.Fates.{is_same_name}
use Rattle.claims_report.specs.Reports.{WholeReport, is_end, is_pending, lines_of, taken}

-- ---- the commands that were accepted

abbrev pub refuses_in : ℕ → What → Bool
refuses_in n (Refused line why) = line == n
refuses_in n _ = false

-- the command on line n is refused
abbrev pub is_refused : WholeReport → ℕ → Bool
is_refused r n = list_any (λ line. refuses_in n line.what) r.lines

abbrev pub command_in : Line → Option Cmd
command_in (lines.Command cmd) = Some cmd
command_in _ = None

abbrev pub accepted_in : WholeReport → (ℕ × Line) → Option Cmd
accepted_in r line = if is_refused r line.0 then None else command_in line.1

abbrev pub accepted : Script → WholeReport → List Cmd
accepted s r = filter_map (accepted_in r) s.lines

abbrev pub open_in : Cmd → Option EpDesc
open_in (commands.OpenEp desc) = Some desc
open_in _ = None

-- the endpoints that were opened, in order
abbrev pub opened : Script → WholeReport → List EpDesc
opened s r = filter_map open_in (accepted s r)

-- ---- the stream

abbrev pub items_in : Option EpText → List Item
items_in None = []
items_in (Some text) = text.items

-- what the script says of an endpoint
abbrev pub items_of : Script → EpName → List Item
items_of s name = items_in (find (λ text. is_same_name text.desc.name name) (flat_map (λ device. device.eps) s.devices))

abbrev pub put_in : EpName → Cmd → Option (List ℕ)
put_in name (commands.Put to bytes by) = if is_same_name to name then Some bytes else None
put_in name _ = None

-- of an IN endpoint its scripted packets, of an OUT endpoint the bytes of its accepted puts, joined in order
abbrev pub stream_by : Way → Script → WholeReport → EpName → List ℕ
stream_by Ways.In s r name = concat (packets_of (items_of s name))
stream_by Ways.Out s r name = concat (filter_map (put_in name) (accepted s r))
stream_by Ways.Ctl s r name = []

abbrev pub stream : Script → WholeReport → EpName → List ℕ
stream s r name = stream_by name.way s r name

-- ---- what is told of it

-- the bytes of an endpoint's lines, up to and with its first end
abbrev pub told_in : List ℕ → List Report → List ℕ
told_in store [] = []
told_in store (line ∷ rest) = bytes_of line store ++ (if is_end line.what then [] else told_in store rest)

abbrev pub told : WholeReport → EpName → List ℕ
told r name = told_in r.store (lines_of r name)

-- no line follows the first end
abbrev pub ends_once : List Report → Bool
ends_once [] = true
ends_once (line ∷ []) = true
ends_once (line ∷ rest) = not (is_end line.what) && ends_once rest

-- nothing is pending at an endpoint that ended
abbrev pub ends_whole : WholeReport → EpName → Bool
ends_whole r name = not (list_any (λ line. is_end line.what) (lines_of r name) && list_any (is_pending name) r.closings)

-- ---- right streams

-- what was told of an OUT was taken, and what was taken begins the stream
abbrev pub IsRightOut : List ℕ → Option (List ℕ) → List ℕ → Type 0
IsRightOut told None stream = ⊥
IsRightOut told (Some taken) stream = IsPrefix told taken × IsPrefix taken stream

abbrev pub AreBytesRight : Way → Script → WholeReport → EpName → Type 0
AreBytesRight Ways.In s r name = IsPrefix (told r name) (stream s r name)
AreBytesRight Ways.Out s r name = IsRightOut (told r name) (taken r name) (stream s r name)
AreBytesRight Ways.Ctl s r name = ⊤

pub record IsRightStream (s : Script) (r : WholeReport) (name : EpName) : Type 0 where
  pub bytes : AreBytesRight name.way s r name
  pub once : ends_once (lines_of r name) ≡ true
  pub whole : ends_whole r name ≡ true

-- the endpoint has a stream
abbrev pub has_stream : EpKind → Bool
has_stream Bulk = true
has_stream Interrupt = true
has_stream _ = false
