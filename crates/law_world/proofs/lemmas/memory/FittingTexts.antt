-- What the script of a text opens has a name of its kind, and so the way of its kind.
use Rattle.std.proofs.Common.{◌≢◌, ℕ, List, [], ◌∷◌, refl, sym, subst}
use Rattle.std.specs.List.{AllByRecursion}
use Rattle.usb_base.specs.declared.commands.Cmd.TheVariants as commands
use Rattle.usb_base.specs.declared.endpoints.EpName.{EpName}
use Rattle.usb_base.specs.declared.packets.EpKind.{EpKind}
use Rattle.usb_base.specs.declared.packets.EpKind.TheVariants as kinds
use Rattle.usb_base.specs.declared.packets.Way.{Way}
use Rattle.usb_base.specs.declared.packets.Way.TheVariants as ways
use Rattle.script_types.specs.declared.scripts.Line.{Line}
use Rattle.script_types.specs.declared.scripts.Line.TheVariants as lines
use Rattle.law_devices.specs.declared_controls.Names.{IsNameOf, NamesLine}
use Rattle.law_devices.proofs.lemmas.declared_controls.Controls.{texts_name_endpoints}
use Rattle.law_driver.specs.queued_drivers.Queued.{IsOfWay}
use Rattle.law_world.specs.memory.Scripts.{FittingLine, TextsOpenFitting}

one_way : (way : Way) → way ≢ ways.Ctl → (IsOfWay way kinds.Bulk × IsOfWay way kinds.Interrupt × IsOfWay way kinds.Iso)
one_way ways.Ctl other = absurd (other refl)
one_way _ other = (tt, tt, tt)

kind_fits : (kind : EpKind) (name : EpName) → IsNameOf kind name → IsOfWay name.way kind
kind_fits kinds.Control name is = subst (λ (way : Way). IsOfWay way kinds.Control) (sym is.way) refl
kind_fits kinds.Bulk name is = (one_way name.way is.way).0
kind_fits kinds.Interrupt name is = (one_way name.way is.way).1
kind_fits kinds.Iso name is = (one_way name.way is.way).2

line_fitting : (l : Line) → NamesLine l → FittingLine l
line_fitting (lines.Command (commands.OpenEp x)) is = kind_fits x.kind x.name is.name
line_fitting _ is = tt

lines_fitting : (xs : List (ℕ × Line)) → AllByRecursion (λ x. NamesLine x.1) xs → AllByRecursion (λ x. FittingLine x.1) xs
lines_fitting [] all = tt
lines_fitting (x ∷ xs) all = (line_fitting x.1 all.0, lines_fitting xs all.1)

pub texts_open_fitting : TextsOpenFitting
texts_open_fitting text s spelled = lines_fitting s.lines (texts_name_endpoints text s spelled).opened
