-- Each script that a text spells has for its control endpoints what its commands ask of them.
use Rattle.std.proofs.Common.{◌≡◌, ℕ, ◌≤◌, true, false, List, length, Option, Some, None, refl, sym, ap, subst, ◌∙◌, inl, inr, ◌⊎◌, arith, not}
use Rattle.std.specs.Prelude.{◌==◌, find}
use Rattle.std.specs.List.{AllByRecursion}
use Rattle.std.specs.Option.{option_map, option_and_then}
use Rattle.std.proofs.lemmas.Bool.{true≢false, and_parts}
use Rattle.std.proofs.lemmas.Option.{same_Some}
use Rattle.law_common.proofs.Booleans.{not_on}
use Rattle.law_world.proofs.Common.{control_kind}
use Rattle.law_common.proofs.Lists.{all_more}
use Rattle.usb_base.specs.declared.endpoints.EpDesc.{EpDesc}
use Rattle.usb_base.specs.declared.endpoints.EpName.{EpName}
use Rattle.usb_base.specs.declared.packets.Speed.TheVariants as speeds
use Rattle.script_types.specs.declared.scripts.Line.{Line}
use Rattle.script_types.specs.declared.scripts.Script.{Script}
use Rattle.script_types.specs.declared.devices.EpText.{EpText}
use Rattle.script_forms.specs.declared.statements.Name.{Name}
use Rattle.script_forms.specs.declared.statements.Statement.{Statement}
use Rattle.script_world.specs.Draft.{Draft, Placed, empty, device_of, ep_of, is_named, script_of}
use Rattle.script_world.specs.Rows.{cause_of, after}
use Rattle.script_text.specs.Faults.{Spells}
use Rattle.drv_table.specs.Words.{is_control}
use Rattle.claims_report.specs.Reports.{WholeReport}
use Rattle.claims_report.specs.Requests.{requests}
use Rattle.law_driver.specs.AsynchronousScripts.{AsynchronousLine}
use Rattle.law_devices.proofs.Lists.{Holds, all_find}
use Rattle.law_devices.proofs.Drafts.{IsEpOf, HasOwn, IsNamedIn, IsDeclaredDraft}
use Rattle.law_devices.proofs.Texts.{IsScriptOf}
use Rattle.law_devices.proofs.Senders.{IsDeclaredAt, empty_declared, second_declared, line_declares}
use Rattle.law_devices.specs.declared_controls.Opened.{stages_of, HasItsControl, OpensItsControl}
use Rattle.claims_report.specs.Controls.{is_of_hub}
use Rattle.law_devices.specs.declared_controls.Names.{HasItsName, NamesLine}
use Rattle.law_devices.specs.declared_controls.Requests.{AsksLine}
use Rattle.law_devices.proofs.lemmas.declared_controls.Drafts.{has_hub, IsToldLine, IsToldDraft, after_told}
use Rattle.law_devices.proofs.lemmas.declared_controls.Requests.{IsEight, form_eight}
use Rattle.law_devices.proofs.lemmas.declared_controls.Texts.{is_ranged, spelled_kept}
use Rattle.law_reports.specs.requests.Asking.{IsGiven}
use Rattle.law_reports.specs.requests.Given.{sides_of, is_of_device}
use Rattle.law_reports.proofs.lemmas.requests.Scripts.{IsAddressed, IsCounted, commands_in, empty_counted, after_counted, asked_few}
use Rattle.usb_base.specs.declared.commands.Cmd.TheVariants as cmd
use Rattle.script_types.specs.declared.scripts.Line.TheVariants as line

-- ---- a script

record IsKnown (w : Draft) : Type 0 where
  declared : IsDeclaredDraft w
  told : IsToldDraft w
  counted : IsCounted w

line_known : (w : Draft) (n : ℕ) (s : Statement) → cause_of w s ≡ None → IsEight s → IsKnown w → IsKnown (after w n s)
line_known w n s new eight h = record {
  declared = line_declares w n s new h.declared;
  told = after_told w n s (is_ranged w s new) eight h.told;
  counted = after_counted w n s new h.counted;
}

empty_known : IsKnown empty
empty_known = record { declared = empty_declared; told = record { devices = tt; lines = tt }; counted = empty_counted }

second_known : (w : Draft) → IsKnown w → IsKnown (record w { version = 2 })
second_known w h = record {
  declared = second_declared w h.declared;
  told = record { devices = h.told.devices; lines = h.told.lines };
  counted = record { addressed = h.counted.addressed; commands = h.counted.commands; few = h.counted.few };
}

spelled_known : (text : List ℕ) (s : Script) → Spells text s → IsScriptOf IsKnown s
spelled_known text s e = spelled_kept IsKnown IsEight form_eight empty_known second_known line_known text s e

-- ---- addresses

abbrev pub Addressed : Script → Line → Type 0
Addressed s (line.Command (cmd.OpenEp x)) = is_of_hub s x.name.addr ≡ false → 1 ≤ x.name.addr
Addressed s _ = Unit {0}

text_by : (ds : List Placed) (name : Name) (x : EpDesc) (d : Placed) (o : Option EpText) → device_of ds name.addr ≡ Some d
    → find (is_named name) d.eps ≡ o → option_map (λ (e : EpText). e.desc) o ≡ Some x → IsDeclaredAt ds name x
text_by ds name x d None here is e = cc
text_by ds name x d (Some t) here is e = record { device = d; device_is = here; text = t; text_is = is; desc = same_Some t.desc x e }

device_by : (ds : List Placed) (name : Name) (x : EpDesc) (o : Option Placed) → device_of ds name.addr ≡ o
    → option_and_then (λ d. ep_of d.eps name) o ≡ Some x → IsDeclaredAt ds name x
device_by ds name x None is e = cc
device_by ds name x (Some d) is e = text_by ds name x d (find (is_named name) d.eps) is refl e

-- an endpoint has the address of its device
declared_address : (w : Draft) (name : Name) (x : EpDesc) → IsDeclaredDraft w → IsCounted w → IsDeclaredAt w.devices name x
    → 1 ≤ x.name.addr
declared_address w name x h c k =
    let own : HasOwn w.endpoints k.device = subst (Holds (HasOwn w.endpoints)) k.device_is (all_find (HasOwn w.endpoints) (λ d. d.addr == name.addr) w.devices h.own) in
    let text : IsEpOf w.endpoints k.device.addr k.device.hub k.text =
    subst (Holds (IsEpOf w.endpoints k.device.addr k.device.hub)) k.text_is (all_find (IsEpOf w.endpoints k.device.addr k.device.hub) (is_named name) k.device.eps own) in
    let low : IsAddressed k.device = subst (Holds IsAddressed) k.device_is (all_find IsAddressed (λ d. d.addr == name.addr) w.devices c.addressed) in
    subst (λ (d : EpDesc). 1 ≤ d.name.addr) k.desc (subst (λ (a : ℕ). 1 ≤ a) (sym text.address) low)

from_address : (w : Draft) (x : EpDesc) → IsKnown w → is_of_hub (script_of w) x.name.addr ≡ false
    → (has_hub w.hubs x.name.addr ≡ true) ⊎ IsNamedIn w.devices x → 1 ≤ x.name.addr
from_address w x h off (inl hub) = absurd (true≢false (sym hub ∙ off))
from_address w x h off (inr n) = declared_address w n.name x h.declared h.counted (device_by w.devices n.name x (device_of w.devices n.name.addr) refl n.here)

line_addressed : (w : Draft) (l : Line) → IsKnown w → IsToldLine w.hubs w.devices l → Addressed (script_of w) l
line_addressed w (line.Command (cmd.OpenEp x)) h told = λ off. from_address w x h off told.from
line_addressed w _ h told = tt

pub spelled_addressed : (text : List ℕ) (s : Script) → Spells text s → AllByRecursion (λ l. Addressed s l.1) s.lines
spelled_addressed text s e =
    let k = spelled_known text s e in
    subst (λ (z : Script). AllByRecursion (λ l. Addressed z l.1) z.lines) k.is
    (all_more (λ l. IsToldLine k.draft.hubs k.draft.devices l.1) (λ l. Addressed (script_of k.draft) l.1) k.draft.lines (λ l told. line_addressed k.draft l.1 k.holds told) k.holds.told.lines)

-- ---- requests

-- an endpoint has at most as many as the script has commands
pub requests_few : (text : List ℕ) (s : Script) (r : WholeReport) (name : EpName) → Spells text s → length (requests s r name) ≤ 4096
requests_few text s r name e =
    let k = spelled_known text s e in
    let most = asked_few r name s.lines in
    let same = ap (λ (z : Script). commands_in z.lines) k.is in
    let commands = k.holds.counted.commands in
    let few = k.holds.counted.few in
    omega (arith, most, same, commands, few)

-- ---- a line

pub open_given : (s : Script) (x : EpDesc) → x.speed ≡ speeds.High → HasItsControl s x → HasItsName x
    → (is_of_hub s x.name.addr ≡ false → 1 ≤ x.name.addr)
    → is_of_device s x ≡ true → IsGiven (sides_of s) x
open_given s x speed control named addressed on =
    let both = and_parts (is_control x.kind) (not (is_of_hub s x.name.addr)) on in
    let kind = control_kind x.kind both.0 in
    let device : is_of_hub s x.name.addr ≡ false = not_on (is_of_hub s x.name.addr) both.1 in
    let size = named.high kind speed in
    record {
      stages = stages_of s x;
      first = control kind speed device;
      address = refl;
      number = refl;
      max = refl;
      least = omega (arith, size);
      addressed = addressed device;
      same = refl;
      none = refl;
      replies = λ r. refl;
    }

record IsDeclaredLine (s : Script) (l : Line) : Type 0 where
  only : AsynchronousLine l
  control : OpensItsControl s l
  named : NamesLine l
  asks : AsksLine l
  addressed : Addressed s l
