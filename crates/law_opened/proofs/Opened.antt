-- A name that is opened is that of one declared endpoint, and has the way of its kind.
use Rattle.std.proofs.Common.{◌≡◌, ◌≢◌, ℕ, true, List, Option, Some, None, refl, sym, ap, subst, ◌∙◌, inl, inr}
use Rattle.std.specs.Prelude.{◌==◌, find, option_map, option_and_then}
use Rattle.std.proofs.lemmas.Bool.{and_parts, eqb-true}
use Rattle.std.proofs.lemmas.Option.{same_Some}
use Rattle.law_devices.proofs.Common.{ways_equal}
use Rattle.law_common.proofs.Lists.{nth_all}
use Rattle.usb_base.specs.declared.commands.Cmd.TheVariants as commands
use Rattle.usb_base.specs.declared.endpoints.EpDesc.{EpDesc}
use Rattle.usb_base.specs.declared.endpoints.EpName.{EpName}
use Rattle.usb_base.specs.declared.packets.Way.{Way}
use Rattle.usb_base.specs.declared.packets.Way.TheVariants as ways
use Rattle.script_types.specs.declared.devices.EpText.{EpText}
use Rattle.script_types.specs.declared.scripts.Line.TheVariants as lines
use Rattle.script_forms.specs.declared.statements.Name.{Name}
use Rattle.script_world.specs.Draft.{Draft, Placed, device_of, ep_of, is_named, same_way, script_of}
use Rattle.law_devices.proofs.Drafts.{IsEpOf, HasOwn, ep_in, IsNamedIn, IsKnownDesc, IsKnownLine, IsDeclaredDraft}
use Rattle.law_devices.proofs.Lists.{Holds, all_find, found_passes}
use Rattle.law_devices.proofs.Senders.{IsDeclaredAt, empty_declared, second_declared, line_declares}
use Rattle.law_devices.proofs.Texts.{IsScriptOf, spelled_kept}
use Rattle.usb_base.specs.declared.packets.EpKind.{EpKind}
use Rattle.usb_base.specs.declared.packets.EpKind.TheVariants as kinds
use Rattle.law_driver.specs.queued_drivers.Queued.{IsOfWay}
use Rattle.law_devices.specs.declared_controls.Names.{IsNameOf, NamesLine}
use Rattle.law_devices.proofs.lemmas.declared_controls.Controls.{texts_name_endpoints}
use Rattle.law_opened.specs.Opened.{IsOpened, OpensOnce, TextsOpenFit, TextsOpenOnce}

-- ---- one name, one endpoint

text_by : (ds : List Placed) (name : Name) (x : EpDesc) (d : Placed) (o : Option EpText) → device_of ds name.addr ≡ Some d
    → find (is_named name) d.eps ≡ o → option_map (λ (e : EpText). e.desc) o ≡ Some x → IsDeclaredAt ds name x
text_by ds name x d None here is same = absurd cc
text_by ds name x d (Some t) here is same =
    record { device = d; device_is = here; text = t; text_is = is; desc = same_Some t.desc x same }

pub declared_by : (ds : List Placed) (name : Name) (x : EpDesc) (o : Option Placed) → device_of ds name.addr ≡ o
    → option_and_then (λ d. ep_of d.eps name) o ≡ Some x → IsDeclaredAt ds name x
declared_by ds name x None is same = absurd cc
declared_by ds name x (Some d) is same = text_by ds name x d (find (is_named name) d.eps) is refl same

abbrev name_of : EpName → Name
name_of n = record { addr = n.addr; num = n.num; way = n.way }

module _ (w : Draft) (h : IsDeclaredDraft w) (name : Name) (x : EpDesc) (k : IsDeclaredAt w.devices name x) where
  own : HasOwn w.endpoints k.device
  own = subst (Holds (HasOwn w.endpoints)) k.device_is (all_find (HasOwn w.endpoints) (λ d. d.addr == name.addr) w.devices h.own)

  pub text : IsEpOf w.endpoints k.device.addr k.device.hub k.text
  text = subst (Holds (IsEpOf w.endpoints k.device.addr k.device.hub)) k.text_is
      (all_find (IsEpOf w.endpoints k.device.addr k.device.hub) (is_named name) k.device.eps own)

  pub address : k.device.addr ≡ name.addr
  address = eqb-true k.device.addr name.addr (found_passes (λ (d : Placed). d.addr == name.addr) w.devices k.device k.device_is)

  both : ((k.text.desc.name.num == name.num) ≡ true) × (same_way k.text.desc.name.way name.way ≡ true)
  both = and_parts (k.text.desc.name.num == name.num) (same_way k.text.desc.name.way name.way)
      (found_passes (is_named name) k.device.eps k.text k.text_is)

  text_name : name ≡ name_of k.text.desc.name
  text_name =
      ap (λ (a : ℕ). record name { addr = a }) (sym (text.address ∙ address))
      ∙ ap (λ (n : ℕ). record name { addr = k.text.desc.name.addr; num = n }) (sym (eqb-true k.text.desc.name.num name.num both.0))
      ∙ ap (λ (v : Way). record { addr = k.text.desc.name.addr; num = k.text.desc.name.num; way = v })
      (sym (ways_equal k.text.desc.name.way name.way both.1))

  pub its_name : name ≡ name_of x.name
  its_name = text_name ∙ ap (λ (d : EpDesc). name_of d.name) k.desc

named_as : (w : Draft) (h : IsDeclaredDraft w) (x : EpDesc) (k : IsNamedIn w.devices x) → k.name ≡ name_of x.name
named_as w h x k = its_name w h k.name x (declared_by w.devices k.name x (device_of w.devices k.name.addr) refl k.here)

one_desc : (w : Draft) (h : IsDeclaredDraft w) (x y : EpDesc) → IsKnownDesc w.devices x → IsKnownDesc w.devices y → x.name ≡ y.name
    → x.name.way ≢ ways.Ctl → x ≡ y
one_desc w h x y (inl control) ky same other = absurd (other control)
one_desc w h x y (inr kx) (inl control) same other = absurd (other (ap (λ (n : EpName). n.way) same ∙ control))
one_desc w h x y (inr kx) (inr ky) same other =
    let names : kx.name ≡ ky.name = named_as w h x kx ∙ ap (λ (n : EpName). name_of n) same ∙ sym (named_as w h y ky) in
    same_Some x y (sym kx.here ∙ ap (λ (n : Name). ep_in w.devices n) names ∙ ky.here)

pub known : (w : Draft) (h : IsDeclaredDraft w) (x : EpDesc) → IsOpened (script_of w) x → IsKnownDesc w.devices x
known w h x o = nth_all (λ l. IsKnownLine w.devices l.1) w.lines o.place (o.number, lines.Command (commands.OpenEp x)) h.opened o.here

draft_opens_once : (w : Draft) → IsDeclaredDraft w → OpensOnce (script_of w)
draft_opens_once w h x y ox oy same other = one_desc w h x y (known w h x ox) (known w h y oy) same other

pub texts_open_once : TextsOpenOnce
texts_open_once text s spelled =
    let k : IsScriptOf IsDeclaredDraft s = spelled_kept IsDeclaredDraft empty_declared second_declared line_declares text s spelled in
    subst OpensOnce k.is (draft_opens_once k.draft k.holds)

-- ---- its way

bulk_fits : (v : Way) → v ≢ ways.Ctl → IsOfWay v kinds.Bulk
bulk_fits ways.In one = tt
bulk_fits ways.Out one = tt
bulk_fits ways.Ctl one = absurd (one refl)

interrupt_fits : (v : Way) → v ≢ ways.Ctl → IsOfWay v kinds.Interrupt
interrupt_fits ways.In one = tt
interrupt_fits ways.Out one = tt
interrupt_fits ways.Ctl one = absurd (one refl)

iso_fits : (v : Way) → v ≢ ways.Ctl → IsOfWay v kinds.Iso
iso_fits ways.In one = tt
iso_fits ways.Out one = tt
iso_fits ways.Ctl one = absurd (one refl)

name_fits : (kind : EpKind) (name : EpName) → IsNameOf kind name → IsOfWay name.way kind
name_fits kinds.Control name k = subst (λ (v : Way). IsOfWay v kinds.Control) (sym k.way) refl
name_fits kinds.Bulk name k = bulk_fits name.way k.way
name_fits kinds.Interrupt name k = interrupt_fits name.way k.way
name_fits kinds.Iso name k = iso_fits name.way k.way

pub texts_open_fit : TextsOpenFit
texts_open_fit text s spelled x o =
    name_fits x.kind x.name
    (nth_all (λ l. NamesLine l.1) s.lines o.place (o.number, lines.Command (commands.OpenEp x))
    (texts_name_endpoints text s spelled).opened o.here).name
