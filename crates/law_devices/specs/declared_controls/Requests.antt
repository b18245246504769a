-- The requests that a script makes (USB 2.0, 8.5.3 and 9.3).
--     IsWhole setup bytes   eight setup bytes; a write submits as many bytes as its wLength says, a read none; and each is a byte
--     IsAsked ..            it is of endpoint 0 and whole
--     AsksCommand, AsksLine where a command or a line makes a request, it is so
--     AsksRequests s        so is each that the script makes
use Rattle.std.specs.Prelude.{◌≡◌, ℕ, true, List, []}
use Rattle.std.specs.List.{AllByRecursion}
use Rattle.usb_base.specs.declared.commands.Cmd.{Cmd}
use Rattle.usb_base.specs.declared.commands.Cmd.TheVariants as commands
use Rattle.usb_base.specs.declared.endpoints.EpName.{EpName}
use Rattle.dev_control.specs.Stages.{is_read}
use Rattle.script_types.specs.declared.scripts.Line.{Line}
use Rattle.script_types.specs.declared.scripts.Line.TheVariants as lines
use Rattle.script_types.specs.declared.scripts.Script.{Script}
use Rattle.law_scripts.specs.script_spelling.Spelling.{AreBytes}
use Rattle.law_request.specs.Windows.{IsRequest}
use Rattle.law_devices.specs.declared_controls.Names.{IsZero}

pub record IsWhole (setup bytes : List ℕ) : Type 0 where
  pub request : IsRequest (record { setup = setup; bytes = bytes })
  pub read : is_read setup ≡ true → bytes ≡ []
  pub setup_bytes : AreBytes setup
  pub data_bytes : AreBytes bytes

pub record IsAsked (name : EpName) (setup bytes : List ℕ) : Type 0 where
  pub zero : IsZero name
  pub whole : IsWhole setup bytes

abbrev pub AsksCommand : Cmd → Type 0
AsksCommand (commands.Control name setup bytes) = IsAsked name setup bytes
AsksCommand _ = Unit {0}

abbrev pub AsksLine : Line → Type 0
AsksLine (lines.Command cmd) = AsksCommand cmd
AsksLine _ = Unit {0}

abbrev pub AsksRequests : Script → Type 0
AsksRequests s = AllByRecursion (λ line. AsksLine line.1) s.lines
