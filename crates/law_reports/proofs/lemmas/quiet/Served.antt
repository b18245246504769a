-- Each endpoint that a text opens has a number of its kind, and a control endpoint at high speed stands on the bus, of a hub or a device.
use Rattle.std.proofs.Common.{◌≡◌, ℕ, zero, suc, ◌≤◌, ◌==◌, Bool, true, false, not, ◌||◌, List, [], ◌∷◌, slice_get, Some, ap, refl}
use Rattle.std.proofs.Common.{inl, inr, arith}
use Rattle.std.specs.Prelude.{is_some, ◌⊎◌}
use Rattle.std.specs.List.{AllByRecursion}
use Rattle.std.proofs.lemmas.Bool.{cases_Bool, false≢true, eqb-true}
use Rattle.law_common.proofs.Lists.{nth_all}
use Rattle.usb_base.specs.declared.commands.Cmd.{Cmd}
use Rattle.usb_base.specs.declared.commands.Cmd.TheVariants as commands
use Rattle.usb_base.specs.declared.endpoints.EpDesc.{EpDesc}
use Rattle.usb_base.specs.declared.endpoints.EpName.{EpName}
use Rattle.usb_base.specs.declared.packets.EpKind.{EpKind}
use Rattle.usb_base.specs.declared.packets.EpKind.TheVariants as kinds
use Rattle.usb_base.specs.declared.packets.Speed.{Speed}
use Rattle.usb_base.specs.declared.packets.Speed.TheVariants as speeds
use Rattle.script_types.specs.declared.scripts.Line.{Line}
use Rattle.script_types.specs.declared.scripts.Line.TheVariants as lines
use Rattle.script_types.specs.declared.scripts.Script.{Script}
use Rattle.script_text.specs.Faults.{Spells}
use Rattle.bus_wire.specs.Bus.{opening_wired}
use Rattle.claims_report.specs.Controls.{is_of_hub}
use Rattle.law_devices.specs.Controls.{control_of}
use Rattle.drv_table.specs.Words.{is_control, is_high}
use Rattle.law_devices.specs.declared_controls.Names.{HasItsName, IsNameOf, NamesLine}
use Rattle.law_devices.specs.declared_controls.Opened.{HasItsControl, OpensItsControl}
use Rattle.law_devices.proofs.lemmas.declared_controls.Controls.{texts_name_endpoints, texts_open_controls}
use Rattle.law_devices.proofs.lemmas.declared_controls.Names.{control_zero}
use Rattle.law_opened.specs.Opened.{IsOpened}
use Rattle.law_world.specs.steps.receiving_runs.Runs.{KindOfLine}
use Rattle.law_reports.specs.quiet.Heard.{IsServed}

pub kind_is : (kind : EpKind) → is_control kind ≡ true → kind ≡ kinds.Control
kind_is kinds.Control is = refl
kind_is kinds.Iso is = absurd (false≢true is)
kind_is kinds.Bulk is = absurd (false≢true is)
kind_is kinds.Interrupt is = absurd (false≢true is)

pub speed_is : (v : Speed) → is_high v ≡ true → v ≡ speeds.High
speed_is speeds.High is = refl
speed_is speeds.Full is = absurd (false≢true is)
speed_is speeds.Low is = absurd (false≢true is)

not_zero : (n : ℕ) → 1 ≤ n → not (n == 0) ≡ true
not_zero n some =
    elim (cases_Bool (n == 0)) [
      | inl on ↦ absurd (omega (arith, some, eqb-true n 0 on))
      | inr off ↦ ap not off
    ]

-- a control endpoint, or one of another number than 0
named_by : (kind : EpKind) (name : EpName) → IsNameOf kind name → (is_control kind || not (name.num == 0)) ≡ true
named_by kinds.Control name k = refl
named_by kinds.Bulk name k = not_zero name.num k.least
named_by kinds.Interrupt name k = not_zero name.num k.least
named_by kinds.Iso name k = not_zero name.num k.least

module _ (text : List ℕ) (s : Script) (spelled : Spells text s) (x : EpDesc) (o : IsOpened s x) where
  pub its_name : HasItsName x
  its_name = nth_all (λ l. NamesLine l.1) s.lines o.place (o.number, lines.Command (commands.OpenEp x))
      (texts_name_endpoints text s spelled).opened o.here

  its_control : HasItsControl s x
  its_control = nth_all (λ l. OpensItsControl s l.1) s.lines o.place (o.number, lines.Command (commands.OpenEp x))
      (texts_open_controls text s spelled) o.here

  of_by : is_control x.kind ≡ true → is_high x.speed ≡ true → (b : Bool) → is_of_hub s x.name.addr ≡ b
      → (is_of_hub s x.name.addr ≡ true) ⊎ (is_some (control_of (opening_wired s) x.name.addr x.name.num) ≡ true)
  of_by control high true is = inl is
  of_by control high false is = inr (ap is_some (its_control (kind_is x.kind control) (speed_is x.speed high) is))

  pub is_served : IsServed s x
  is_served = record {
    opened = o;
    named = named_by x.kind x.name its_name.name;
    control = λ control high. record {
      zero = (control_zero x its_name (kind_is x.kind control)).number;
      most = its_name.high (kind_is x.kind control) (speed_is x.speed high);
      of = of_by control high (is_of_hub s x.name.addr) refl;
    };
  }

-- ---- the lines

abbrev pub OpensServed : Script → Cmd → Type 0
OpensServed s (commands.OpenEp x) = IsServed s x
OpensServed s _ = Unit {0}

line_served : (s : Script) (l : Line) → ((x : EpDesc) → l ≡ lines.Command (commands.OpenEp x) → IsServed s x) → KindOfLine (OpensServed s) l
line_served s (lines.Command (commands.OpenEp x)) each = each x refl
line_served s (lines.Command (commands.Get name len by)) each = tt
line_served s (lines.Command (commands.Put name bytes by)) each = tt
line_served s (lines.Command (commands.Control name setup bytes)) each = tt
line_served s (lines.Command (commands.Iso name count len seed)) each = tt
line_served s (lines.Command (commands.Cancel name)) each = tt
line_served s (lines.Command _) each = tt
line_served s _ each = tt

lines_served : (s : Script) (ls : List (ℕ × Line))
    → ((p n : ℕ) (x : EpDesc) → slice_get ls p ≡ Some (n, lines.Command (commands.OpenEp x)) → IsServed s x)
    → AllByRecursion (λ l. KindOfLine (OpensServed s) l.1) ls
lines_served s [] each = tt
lines_served s (l ∷ ls) each = (
  line_served s l.1 (λ x is. each zero l.0 x (ap (λ (z : Line). Some (l.0, z)) is)),
  lines_served s ls (λ p. each (suc p)),
)

pub texts_serve : (text : List ℕ) (s : Script) → Spells text s → AllByRecursion (λ l. KindOfLine (OpensServed s) l.1) s.lines
texts_serve text s spelled = lines_served s s.lines
    (λ p n x here. is_served text s spelled x (record { place = p; number = n; here = here }))
