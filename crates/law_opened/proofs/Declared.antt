-- Each endpoint that a text opens has its sender or its taker on the bus just where it is a bulk or interrupt one at high speed.
use Rattle.std.proofs.Common.{◌≡◌, ℕ, Bool, true, false, List, Option, Some, None, refl, sym, ap, subst, ◌∙◌, inl, inr}
use Rattle.std.specs.Prelude.{not, is_some}
use Rattle.std.specs.List.{AllByRecursion}
use Rattle.law_common.proofs.Booleans.{both_not, and_on, not_high}
use Rattle.law_common.proofs.Lists.{nth_all}
use Rattle.usb_base.specs.declared.commands.Cmd.TheVariants as commands
use Rattle.usb_base.specs.declared.endpoints.EpDesc.{EpDesc}
use Rattle.usb_base.specs.declared.packets.EpKind.{EpKind}
use Rattle.usb_base.specs.declared.packets.EpKind.TheVariants as kinds
use Rattle.usb_base.specs.declared.packets.Way.{Way}
use Rattle.usb_base.specs.declared.packets.Way.TheVariants as ways
use Rattle.script_types.specs.declared.devices.EpText.{EpText}
use Rattle.script_types.specs.declared.scripts.Line.TheVariants as lines
use Rattle.script_types.specs.declared.scripts.Script.{Script}
use Rattle.script_forms.specs.declared.statements.Name.{Name}
use Rattle.script_world.specs.Draft.{Draft, device_of, script_of}
use Rattle.script_text.specs.Faults.{Spells}
use Rattle.script_fits.specs.Fits.{IsFitLine}
use Rattle.script_fits.proofs.Texts.{spelled_fits}
use Rattle.endpoint_script.specs.Device.{opened_part}
use Rattle.bus_wire.specs.Bus.{opening_wired}
use Rattle.bus_wire.specs.Seats.{seats_of}
use Rattle.claims_report.specs.Streams.{has_stream}
use Rattle.drv_table.specs.Words.{is_high}
use Rattle.law_driver.specs.queued_drivers.Queued.{IsOfWay, FitsKind}
use Rattle.law_devices.specs.Senders.{sender_of_part}
use Rattle.law_devices.specs.declared_controls.Names.{HasItsName, NamesLine}
use Rattle.law_devices.specs.declared_controls.Zero.{IsNoStream}
use Rattle.law_devices.specs.scripted_takers.Takers.{taker_of_part}
use Rattle.law_devices.proofs.Drafts.{IsKnownDesc, IsDeclaredDraft}
use Rattle.law_devices.proofs.Senders.{IsDeclaredAt, empty_declared, second_declared, line_declares, sender_is, rooted}
use Rattle.law_devices.proofs.Texts.{IsScriptOf, spelled_kept}
use Rattle.law_devices.proofs.lemmas.declared_controls.Alone.{zero_is_no_stream}
use Rattle.law_devices.proofs.lemmas.declared_controls.Controls.{texts_name_endpoints, texts_leave_zero_alone}
use Rattle.law_devices.proofs.lemmas.declared_controls.Names.{control_zero}
use Rattle.law_opened.specs.Opened.{IsOpened}
use Rattle.law_opened.specs.Declared.{HasItsStream, TextsDeclareStreams}
use Rattle.law_opened.proofs.Opened.{text, address, declared_by, known, texts_open_fit}
use Rattle.law_opened.proofs.Below.{IsNotHigh, behind_not, no_sender, no_taker}
use Rattle.law_opened.proofs.RootTakers.{taker_is}

-- ---- what a part of each kind is

sends_by : (kind : EpKind) (t : EpText) → IsOfWay ways.In kind → is_some (sender_of_part (opened_part ways.In kind t)) ≡ has_stream kind
sends_by kinds.Bulk t fits = refl
sends_by kinds.Interrupt t fits = refl
sends_by kinds.Iso t fits = refl
sends_by kinds.Control t fits = absurd fits

takes_by : (kind : EpKind) (t : EpText) → IsOfWay ways.Out kind → is_some (taker_of_part (opened_part ways.Out kind t)) ≡ has_stream kind
takes_by kinds.Bulk t fits = refl
takes_by kinds.Interrupt t fits = refl
takes_by kinds.Iso t fits = refl
takes_by kinds.Control t fits = absurd fits

no_hub_high : (b : Bool) → false ≡ not b → b ≡ true
no_hub_high true is = refl
no_hub_high false is = cc

-- ---- an endpoint that was declared

module _ (w : Draft) (h : IsDeclaredDraft w) (name : Name) (x : EpDesc) (k : IsDeclaredAt w.devices name x) where
  abbrev y : EpDesc
  y = k.text.desc

  behind : (hub : ℕ) → y.hub ≡ Some hub → AllByRecursion (IsNotHigh y.name.addr) (seats_of (script_of w))
  behind hub is =
      subst (λ (a : ℕ). AllByRecursion (IsNotHigh a) (seats_of (script_of w))) (sym ((text w h name x k).address ∙ address w h name x k))
      (behind_not w name.addr hub k.device h k.device_is (sym (text w h name x k).behind ∙ is))

  module _ (below : is_some y.hub ≡ not (is_high y.speed)) where
    in_by : (o : Option ℕ) → y.hub ≡ o → y.name.way ≡ ways.In → IsOfWay ways.In y.kind → HasItsStream (script_of w) y ways.In
    in_by None is way fits =
        ap is_some (sender_is w h name x k way (rooted w h name x k way is))
        ∙ ap (λ (v : Way). is_some (sender_of_part (opened_part v y.kind k.text))) way ∙ sends_by y.kind k.text fits
        ∙ sym (and_on (has_stream y.kind) (is_high y.speed) (no_hub_high (is_high y.speed)
        (sym (ap (λ (o : Option ℕ). is_some o) is) ∙ below)))
    in_by (Some hub) is way fits =
        ap is_some (no_sender (opening_wired (script_of w)) y.name.addr y.name.num (behind hub is))
        ∙ sym (both_not (has_stream y.kind) (is_high y.speed) (not_high (is_high y.speed)
        (sym (ap (λ (o : Option ℕ). is_some o) is) ∙ below)))

    out_by : (o : Option ℕ) → y.hub ≡ o → y.name.way ≡ ways.Out → IsOfWay ways.Out y.kind → HasItsStream (script_of w) y ways.Out
    out_by None is way fits =
        ap is_some (taker_is w h name x k way is)
        ∙ ap (λ (v : Way). is_some (taker_of_part (opened_part v y.kind k.text))) way ∙ takes_by y.kind k.text fits
        ∙ sym (and_on (has_stream y.kind) (is_high y.speed) (no_hub_high (is_high y.speed)
        (sym (ap (λ (o : Option ℕ). is_some o) is) ∙ below)))
    out_by (Some hub) is way fits =
        ap is_some (no_taker (opening_wired (script_of w)) y.name.addr y.name.num (behind hub is))
        ∙ sym (both_not (has_stream y.kind) (is_high y.speed) (not_high (is_high y.speed)
        (sym (ap (λ (o : Option ℕ). is_some o) is) ∙ below)))

-- ---- an endpoint that is opened

abbrev IsBelowWhenSlow : EpDesc → Type 0
IsBelowWhenSlow y = is_some y.hub ≡ not (is_high y.speed)

declared_in : (w : Draft) (x : EpDesc) → IsDeclaredDraft w → IsKnownDesc w.devices x → IsBelowWhenSlow x → x.name.way ≡ ways.In
    → IsOfWay ways.In x.kind → HasItsStream (script_of w) x ways.In
declared_in w x h (inl control) below way fits = absurd (other (sym way ∙ control))
  where
    other : ways.In ≡ ways.Ctl → ⊥
    other is = cc
declared_in w x h (inr n) below way fits =
    let k = declared_by w.devices n.name x (device_of w.devices n.name.addr) refl n.here in
    subst (λ (d : EpDesc). IsBelowWhenSlow d → d.name.way ≡ ways.In → IsOfWay ways.In d.kind → HasItsStream (script_of w) d ways.In) k.desc
    (λ slow. in_by w h n.name x k slow k.text.desc.hub refl) below way fits

declared_out : (w : Draft) (x : EpDesc) → IsDeclaredDraft w → IsKnownDesc w.devices x → IsBelowWhenSlow x → x.name.way ≡ ways.Out
    → IsOfWay ways.Out x.kind → HasItsStream (script_of w) x ways.Out
declared_out w x h (inl control) below way fits = absurd (other (sym way ∙ control))
  where
    other : ways.Out ≡ ways.Ctl → ⊥
    other is = cc
declared_out w x h (inr n) below way fits =
    let k = declared_by w.devices n.name x (device_of w.devices n.name.addr) refl n.here in
    subst (λ (d : EpDesc). IsBelowWhenSlow d → d.name.way ≡ ways.Out → IsOfWay ways.Out d.kind → HasItsStream (script_of w) d ways.Out)
    k.desc
    (λ slow. out_by w h n.name x k slow k.text.desc.hub refl) below way fits

-- ---- of a text

module _ (script : List ℕ) (s : Script) (spelled : Spells script s) (x : EpDesc) (o : IsOpened s x) where
  fits : FitsKind x
  fits = texts_open_fit script s spelled x o

  slow : IsBelowWhenSlow x
  slow =
      (nth_all (λ l. IsFitLine l.1) s.lines o.place (o.number, lines.Command (commands.OpenEp x))
      (spelled_fits script s spelled).lines o.here).2.below

  drafted : IsScriptOf IsDeclaredDraft s
  drafted = spelled_kept IsDeclaredDraft empty_declared second_declared line_declares script s spelled

  known_in : IsKnownDesc drafted.draft.devices x
  known_in = known drafted.draft drafted.holds x (subst (λ (z : Script). IsOpened z x) (sym drafted.is) o)

  of_in : x.name.way ≡ ways.In → HasItsStream s x ways.In
  of_in way =
      subst (λ (z : Script). HasItsStream z x ways.In) drafted.is
      (declared_in drafted.draft x drafted.holds known_in slow way (subst (λ (v : Way). IsOfWay v x.kind) way fits))

  of_out : x.name.way ≡ ways.Out → HasItsStream s x ways.Out
  of_out way =
      subst (λ (z : Script). HasItsStream z x ways.Out) drafted.is
      (declared_out drafted.draft x drafted.holds known_in slow way (subst (λ (v : Way). IsOfWay v x.kind) way fits))

  named : HasItsName x
  named =
      nth_all (λ l. NamesLine l.1) s.lines o.place (o.number, lines.Command (commands.OpenEp x))
      (texts_name_endpoints script s spelled).opened o.here

  of_ctl : x.name.way ≡ ways.Ctl → HasItsStream s x ways.Ctl
  of_ctl way =
      let zero = control_zero x named (subst (λ (v : Way). IsOfWay v x.kind) way fits) in
      let none : IsNoStream (opening_wired s) x.name.addr x.name.num =
      subst (λ (n : ℕ). IsNoStream (opening_wired s) x.name.addr n) (sym zero.number)
      (zero_is_no_stream (opening_wired s) x.name.addr (texts_leave_zero_alone script s spelled)) in
      (ap is_some none.sends, ap is_some none.takes)

  by_way : (way : Way) → x.name.way ≡ way → HasItsStream s x way
  by_way ways.In is = of_in is
  by_way ways.Out is = of_out is
  by_way ways.Ctl is = of_ctl is

pub texts_declare_streams : TextsDeclareStreams
texts_declare_streams script s spelled x o = by_way script s spelled x o x.name.way refl
