-- The endpoints that the lines of a script open (USB 2.0, 5.5 and 9.6.6).
--     IsOpened s x                     a line of the script opens the endpoint x
--     OpensOnce s                      two endpoints of one name that lines of the script open are one, where their data go one way
--     OpensFit s                       each that is opened has the way of its kind
--     TextsOpenOnce, TextsOpenFit      so it is of each script that a text spells
use Rattle.std.specs.Prelude.{◌≡◌, ◌≢◌, ℕ, List, slice_get, Some}
use Rattle.usb_base.specs.declared.commands.Cmd.TheVariants as commands
use Rattle.usb_base.specs.declared.endpoints.EpDesc.{EpDesc}
use Rattle.usb_base.specs.declared.packets.Way.TheVariants as ways
use Rattle.script_types.specs.declared.scripts.Line.TheVariants as lines
use Rattle.script_types.specs.declared.scripts.Script.{Script}
use Rattle.script_text.specs.Faults.{Spells}
use Rattle.law_driver.specs.queued_drivers.Queued.{FitsKind}

pub record IsOpened (s : Script) (x : EpDesc) : Type 0 where
  pub place : ℕ
  pub number : ℕ
  pub here : slice_get s.lines place ≡ Some (number, lines.Command (commands.OpenEp x))

abbrev pub OpensOnce : Script → Type 0
OpensOnce s = (x y : EpDesc) → IsOpened s x → IsOpened s y → x.name ≡ y.name → x.name.way ≢ ways.Ctl → x ≡ y

abbrev pub OpensFit : Script → Type 0
OpensFit s = (x : EpDesc) → IsOpened s x → FitsKind x

abbrev pub TextsOpenOnce : Type 0
TextsOpenOnce = (text : List ℕ) (s : Script) → Spells text s → OpensOnce s

abbrev pub TextsOpenFit : Type 0
TextsOpenFit = (text : List ℕ) (s : Script) → Spells text s → OpensFit s
