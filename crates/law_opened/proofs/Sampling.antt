-- What a script opens: a name of it is that of one endpoint.
use Rattle.std.proofs.Common.{◌≡◌, ℕ, Bool, false, slice_get, Some, ap, refl, sym, ◌∙◌}
use Rattle.std.specs.Prelude.{◌==◌, ◌&&◌, if◌then◌else◌}
use Rattle.std.specs.List.{AllByRecursion}
use Rattle.std.proofs.lemmas.Bool.{false≢true, true≢false, eq-eqb}
use Rattle.law_common.proofs.Lists.{nth_all}
use Rattle.usb_base.specs.declared.commands.Cmd.TheVariants as commands
use Rattle.usb_base.specs.declared.endpoints.EpDesc.{EpDesc}
use Rattle.usb_base.specs.declared.endpoints.EpName.{EpName}
use Rattle.usb_base.specs.declared.packets.Speed.TheVariants.{High}
use Rattle.usb_base.specs.declared.packets.Way.TheVariants as ways
use Rattle.script_types.specs.declared.scripts.Line.{Line}
use Rattle.script_types.specs.declared.scripts.Line.TheVariants as lines
use Rattle.drv_table.specs.Words.{is_high}
use Rattle.law_driver.specs.queued_drivers.Queued.{FitsKind}
use Rattle.law_opened.specs.Opened.{IsOpened, OpensOnce, OpensFit}
use Rattle.law_opened.specs.Samples.{key, sink, board, beside_split, opened_twice}

-- ---- the keyboard at high speed

abbrev opens_high : Line → Bool
opens_high (lines.Command (commands.OpenEp x)) = x.name.addr == 3 && is_high x.speed
opens_high _ = false

none_high : AllByRecursion (λ l. opens_high l.1 ≡ false) beside_split.lines
none_high = (refl, (refl, (refl, (refl, (refl, (refl, (refl, tt)))))))

pub not_opened : (place number : ℕ)
    → slice_get beside_split.lines place ≡ Some (number, lines.Command (commands.OpenEp (record board { speed = High }))) → ⊥
not_opened place number here =
    true≢false
    (nth_all (λ l. opens_high l.1 ≡ false) beside_split.lines place
    (number, lines.Command (commands.OpenEp (record board { speed = High })))
    none_high here)

-- ---- each endpoint by its name

abbrev by_name : EpName → EpDesc
by_name n = if n.addr == 3 then board else (if n.num == 1 then key else sink)

abbrev ItsOwn : EpDesc → Type 0
ItsOwn x = (x ≡ by_name x.name) × FitsKind x

abbrev OpensOwn : Line → Type 0
OpensOwn (lines.Command (commands.OpenEp x)) = ItsOwn x
OpensOwn _ = Unit {0}

each_own : AllByRecursion (λ l. OpensOwn l.1) beside_split.lines
each_own = ((refl, tt), ((refl, tt), ((refl, tt), (tt, (tt, (tt, (tt, tt)))))))

own_of : (x : EpDesc) → IsOpened beside_split x → ItsOwn x
own_of x o = nth_all (λ l. OpensOwn l.1) beside_split.lines o.place (o.number, lines.Command (commands.OpenEp x)) each_own o.here

pub opens_once : OpensOnce beside_split
opens_once x y ox oy same other = (own_of x ox).0 ∙ ap by_name same ∙ sym (own_of y oy).0

pub opens_fit : OpensFit beside_split
opens_fit x o = (own_of x o).1

-- ---- one name, two endpoints

in_is_ctl : ways.In ≡ ways.Ctl → ⊥
in_is_ctl is = cc

pub not_once : OpensOnce opened_twice → ⊥
not_once once =
    false≢true
    (eq-eqb 2 4
    (ap (λ (x : EpDesc). x.max)
    (once key (record key { max = 4 }) (record { place = 0; number = 5; here = refl }) (record { place = 1; number = 6; here = refl }) refl
    in_is_ctl)))
