-- The endpoints that a script opens are so described as its devices have them.
use Rattle.std.proofs.Common.{◌≡◌, ℕ, zero, suc, List, [], ◌∷◌, Some, refl, ap}
use Rattle.std.specs.Prelude.{slice_get}
use Rattle.std.specs.List.{AllByRecursion}
use Rattle.usb_base.specs.declared.packets.Way.{Way}
use Rattle.usb_base.specs.declared.packets.Way.TheVariants as way
use Rattle.usb_base.specs.declared.endpoints.EpDesc.{EpDesc}
use Rattle.usb_base.specs.declared.commands.Cmd.TheVariants as cmd
use Rattle.script_types.specs.declared.scripts.Line.{Line}
use Rattle.script_types.specs.declared.scripts.Line.TheVariants as line
use Rattle.script_types.specs.declared.scripts.Script.{Script}
use Rattle.law_opened.specs.Declared.{HasItsStream}
use Rattle.law_opened.proofs.Declared.{texts_declare_streams}
use Rattle.law_world.specs.steps.receiving_runs.Runs.{KindOfLine}
use Rattle.law_reports.specs.pipes.Declared.{Sides, sides_of, IsDeclaredBy, IsDeclared}
use Rattle.law_reports.specs.pipes.PipedLaws.{OpensDeclared, TextsDeclare}

declared_by : (s : Script) (x : EpDesc) (v : Way) → HasItsStream s x v → IsDeclaredBy (sides_of s) x v
declared_by s x way.In k = k
declared_by s x way.Out k = k
declared_by s x way.Ctl k = k

module _ (x : Sides) where
  line_declared : (l : Line) → ((y : EpDesc) → l ≡ line.Command (cmd.OpenEp y) → IsDeclared x y) → KindOfLine (OpensDeclared x) l
  line_declared (line.Command (cmd.OpenEp y)) each = each y refl
  line_declared (line.Command (cmd.Get name len by)) each = tt
  line_declared (line.Command (cmd.Put name bytes by)) each = tt
  line_declared (line.Command (cmd.Control name setup bytes)) each = tt
  line_declared (line.Command (cmd.Iso name count len seed)) each = tt
  line_declared (line.Command (cmd.Cancel name)) each = tt
  line_declared (line.Command _) each = tt
  line_declared _ each = tt

  lines_declared : (ls : List (ℕ × Line))
      → ((p n : ℕ) (y : EpDesc) → slice_get ls p ≡ Some (n, line.Command (cmd.OpenEp y)) → IsDeclared x y)
      → AllByRecursion (λ l. KindOfLine (OpensDeclared x) l.1) ls
  lines_declared [] each = tt
  lines_declared (l ∷ ls) each = (
    line_declared l.1 (λ y is. each zero l.0 y (ap (λ (z : Line). Some (l.0, z)) is)),
    lines_declared ls (λ p. each (suc p)),
  )

-- ---- a script

pub texts_declare : TextsDeclare
texts_declare text s e =
    lines_declared (sides_of s) s.lines
    (λ p n x here. declared_by s x x.name.way (texts_declare_streams text s e x (record { place = p; number = n; here = here })))
