-- What a script keeps that a host carries out: sizes and lengths that hardware and driver can have.
--     IsFitCommand cmd      the ranges of a command (EHCI 1.0, 3.5; USB 2.0, 5.5 to 5.8)
--     IsFit script          the ranges of a whole script
use Rattle.std.specs.Prelude.{◌≡◌, ℕ, ◌≤◌, ◌%◌, true, not, is_some, IsTrue}
use Rattle.std.specs.List.{list_all, AllByRecursion}
use Rattle.usb_base.specs.declared.endpoints.EpDesc.{EpDesc}
use Rattle.usb_base.specs.declared.commands.Cmd.{Cmd}
use Rattle.usb_base.specs.declared.commands.Cmd.TheVariants as commands
use Rattle.usb_base.specs.Limits.{longest_qtd, most_memory}
use Rattle.script_types.specs.declared.devices.EpText.{EpText}
use Rattle.script_types.specs.declared.scripts.Line.{Line}
use Rattle.script_types.specs.declared.scripts.Line.TheVariants as lines
use Rattle.script_types.specs.declared.scripts.Script.{Script}
use Rattle.endpoint_script.specs.Device.{is_scripted}
use Rattle.hub_class.specs.HubContent.{has_few_ports}
use Rattle.drv_table.specs.Words.{is_high}
use Rattle.script_world.specs.Ranges.{is_size, is_paced}

-- a qTD has 1 to 20,480 bytes of a transfer
abbrev pub IsPiece : ℕ → Type 0
IsPiece by = (1 ≤ by) × (by ≤ longest_qtd)

-- an endpoint has the packets and the pace of its speed, and stands behind a hub exactly where it isn't a high-speed one (USB 2.0, 5.5 to 5.8)
pub record IsSuited (x : EpDesc) : Type 0 where
  pub size : is_size x.kind x.speed x.max ≡ true
  pub pace : is_paced x.kind x.speed x.period x.multi ≡ true
  pub below : is_some x.hub ≡ not (is_high x.speed)
  pub translator : x.tt ≤ 15  -- the number of a port where the hub has a translator for each (11.14), else 0

abbrev pub IsFitCommand : Cmd → Type 0
IsFitCommand (commands.OpenEp x) = (x.max ≤ 1024) × (x.port ≤ 127) × IsSuited x
IsFitCommand (commands.Get name len by) = IsPiece by
IsFitCommand (commands.Put name bytes by) = IsPiece by
IsFitCommand (commands.Control name setup bytes) = Unit {0}
IsFitCommand (commands.Iso name count len seed) = 1 ≤ count
IsFitCommand (commands.Cancel name) = Unit {0}
IsFitCommand _ = Unit {0}

abbrev pub IsFitLine : Line → Type 0
IsFitLine (lines.Command cmd) = IsFitCommand cmd
IsFitLine (lines.Order event n) = Unit {0}
IsFitLine (lines.Micro n) = Unit {0}
IsFitLine (lines.Plug n) = Unit {0}
IsFitLine (lines.Unplug n) = Unit {0}

-- room that a count of 32 bits can tell
abbrev pub IsFitRoom : EpText → Type 0
IsFitRoom e = e.room ≤ 4294967295

pub record IsFit (s : Script) : Type 0 where
  pub least : 2048 ≤ s.words
  pub most : s.words ≤ most_memory
  pub whole_pages : s.words % 1024 ≡ 0
  pub devices : IsTrue (list_all is_scripted s.devices)
  pub hubs : IsTrue (list_all has_few_ports s.hubs)
  pub rooms : AllByRecursion (λ d. AllByRecursion IsFitRoom d.eps) s.devices
  pub lines : AllByRecursion (λ x. IsFitLine x.1) s.lines
