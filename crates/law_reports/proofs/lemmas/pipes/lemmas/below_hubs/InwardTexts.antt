-- Each bulk or interrupt IN endpoint that a text opens below a hub of it is the only one of its name, and before the first line nothing
-- of it is on its way.
use Rattle.std.proofs.Common.{◌≡◌, ◌≢◌, ℕ, zero, suc, Bool, true, false, List, [], ◌∷◌, Option, Some, None, refl}
use Rattle.std.proofs.Common.{sym, ap, subst, ◌∙◌, inl, inr}
use Rattle.std.specs.Prelude.{◌==◌, ◌&&◌, not, find, slice_get}
use Rattle.std.specs.List.{AllByRecursion}
use Rattle.std.specs.Option.{option_map_or}
use Rattle.std.proofs.lemmas.Bool.{and_parts, false≢true}
use Rattle.law_common.proofs.Lists.{nth_all}
use Rattle.law_driver.proofs.Common.{in_way}
use Rattle.usb_base.specs.declared.commands.Cmd.TheVariants as commands
use Rattle.usb_base.specs.declared.endpoints.EpDesc.{EpDesc}
use Rattle.usb_base.specs.declared.packets.Dir.TheVariants as Directions
use Rattle.usb_base.specs.declared.packets.EpKind.{EpKind}
use Rattle.usb_base.specs.declared.packets.EpKind.TheVariants as kinds
use Rattle.usb_base.specs.declared.packets.Way.{Way}
use Rattle.usb_base.specs.declared.packets.Way.TheVariants as ways
use Rattle.script_types.specs.declared.devices.EpText.{EpText}
use Rattle.script_types.specs.declared.devices.HubText.{HubText}
use Rattle.script_types.specs.declared.scripts.Line.{Line}
use Rattle.script_types.specs.declared.scripts.Line.TheVariants as lines
use Rattle.script_types.specs.declared.scripts.Script.{Script}
use Rattle.script_world.specs.Draft.{Draft, device_of, script_of}
use Rattle.script_text.specs.Faults.{Spells}
use Rattle.endpoint_script.specs.Device.{opened_part}
use Rattle.endpoint_script.specs.Items.{packets_of}
use Rattle.bus_wire.specs.Bus.{opening_bus, opening_wired}
use Rattle.claims_driver.specs.Scripts.{comes_in}
use Rattle.claims_report.specs.Streams.{has_stream, items_of}
use Rattle.claims_world.specs.BelowStreams.{has_port, has_hub}
use Rattle.drv_table.specs.Words.{is_high}
use Rattle.law_common.proofs.Booleans.{not_high}
use Rattle.law_driver.specs.queued_drivers.Queued.{IsOfWay}
use Rattle.law_devices.specs.Senders.{sender_of_part}
use Rattle.law_devices.specs.declared_controls.Names.{HasItsName, NamesLine}
use Rattle.law_devices.specs.declared_controls.Zero.{AreZeroesAlone}
use Rattle.law_devices.proofs.Drafts.{IsKnownDesc, IsDeclaredDraft}
use Rattle.law_devices.proofs.Senders.{empty_declared, second_declared, line_declares, items}
use Rattle.law_devices.proofs.Texts.{IsScriptOf, spelled_kept}
use Rattle.law_devices.proofs.lemmas.declared_controls.Controls.{texts_name_endpoints, texts_leave_zero_alone}
use Rattle.law_devices.proofs.lemmas.declared_controls.Names.{control_zero}
use Rattle.law_opened.specs.Opened.{IsOpened}
use Rattle.law_opened.proofs.Opened.{declared_by, known, texts_open_once, texts_open_fit}
use Rattle.law_translated.specs.InPipes.{in_opening}
use Rattle.law_below_hubs.specs.HostEvents.{told_key}
use Rattle.law_below_hubs.specs.HostOuts.{its_way as its_way_of}
use Rattle.law_below_hubs.specs.HubsKeys.{IsOfKind}
use Rattle.law_below_hubs.specs.InWork.{sender_of_line}
use Rattle.law_below_hubs.specs.Seated.{sender_at}
use Rattle.law_below_hubs.proofs.HostOpens.{in_opens}
use Rattle.law_below_hubs.proofs.Opening.{opens_without_keys, opens_right}
use Rattle.law_world.specs.steps.receiving_runs.Runs.{KindOfLine}
use Rattle.law_reports.specs.pipes.Piped.{asked_as}
use Rattle.claims_world.specs.BelowStreams.{is_in_below}
use Rattle.law_reports.specs.pipes.below_hubs.Inward.{Inlet, is_inlet, IsInletBy, Unmoved}
use Rattle.law_reports.specs.pipes.below_hubs.InwardLaws.{OpensInlet, inlet_of, takes_in, IsInletOf, HasItsInlet, TextsOpenInlets}
use Rattle.law_reports.proofs.lemmas.pipes.lemmas.below_hubs.BelowSenders.{sender_is, no_zero_in}
use Rattle.law_reports.proofs.lemmas.pipes.lemmas.below_hubs.BelowTexts.{HasItsHub, its_hub}
use Rattle.law_reports.proofs.lemmas.pipes.lemmas.below_hubs.InwardControlled.{in_stream, its_number}

none_true : {A : Type 0} → false ≡ true → A
none_true e = absurd (false≢true e)

-- ---- its hub

pub in_slow : (x : EpDesc) → is_in_below x ≡ true → is_high x.speed ≡ false
in_slow x is =
    not_high (is_high x.speed)
    (sym (and_parts (not (is_high x.speed)) (comes_in x.name.way)
    (and_parts (has_stream x.kind) (not (is_high x.speed) && comes_in x.name.way) is).1).0)

pub claimed_in_way : (x : EpDesc) → is_in_below x ≡ true → x.name.way ≡ ways.In
claimed_in_way x is =
    in_way x.name.way (and_parts (not (is_high x.speed)) (comes_in x.name.way)
    (and_parts (has_stream x.kind) (not (is_high x.speed) && comes_in x.name.way) is).1).1

pub in_hub : (s : Script) (d : EpDesc) → takes_in s d ≡ true → HasItsHub s d
in_hub s d claims = by d.hub refl
  where
    both : (is_in_below d ≡ true) × (has_hub s d.hub d.port ≡ true)
    both = and_parts (is_in_below d) (has_hub s d.hub d.port) claims

    found : (hub : ℕ) (o : Option HubText) → d.hub ≡ Some hub → find (λ (h : HubText). h.addr == hub) s.hubs ≡ o
        → option_map_or (has_port d.port) o false ≡ true → HasItsHub s d
    found hub None is none has = none_true has
    found hub (Some t) is first has = its_hub s d.port hub t first has d is refl (in_slow d both.0)

    by : (o : Option ℕ) → d.hub ≡ o → HasItsHub s d
    by None is = none_true (sym (ap (λ (o : Option ℕ). has_hub s o d.port) is) ∙ both.1)
    by (Some hub) is =
        found hub (find (λ (h : HubText). h.addr == hub) s.hubs) is refl (sym (ap (λ (o : Option ℕ). has_hub s o d.port) is) ∙ both.1)

-- ---- its device

record IsUnsentIn (s : Script) (x : EpDesc) : Type 0 where
  sender : sender_at (opening_wired s) x.name.addr x.name.num ≡ Some (sender_of_line (in_opening (packets_of (items_of s x.name))))
  number : x.name.num ≢ 0

sends_none : (kind : EpKind) (v : Way) (t : EpText) → v ≡ ways.In → has_stream kind ≡ true
    → sender_of_part (opened_part v kind t) ≡ Some (sender_of_line (in_opening (packets_of t.items)))
sends_none kinds.Bulk ways.In t way streams = refl
sends_none kinds.Interrupt ways.In t way streams = refl
sends_none _ _ t way streams = cc

of_draft : (w : Draft) (x : EpDesc) → IsDeclaredDraft w → AreZeroesAlone (opening_bus (script_of w)) → IsKnownDesc w.devices x
    → x.name.way ≡ ways.In → has_stream x.kind ≡ true → IsUnsentIn (script_of w) x
of_draft w x h alone (inl control) way bulk = absurd (other (sym way ∙ control))
  where
    other : ways.In ≡ ways.Ctl → ⊥
    other e = cc
of_draft w x h alone (inr n) way bulk =
    let k = declared_by w.devices n.name x (device_of w.devices n.name.addr) refl n.here in
    subst (λ (d : EpDesc). d.name.way ≡ ways.In → has_stream d.kind ≡ true → IsUnsentIn (script_of w) d) k.desc
    (λ inward kind. record {
      sender = sender_is w h n.name x k inward ∙ sends_none k.text.desc.kind k.text.desc.name.way k.text inward kind
          ∙ ap (λ is. Some (sender_of_line (in_opening (packets_of is)))) (sym (items w h n.name x k inward));
      number = no_zero_in w h n.name x k inward alone;
    }) way bulk

-- ---- a text

module _ (text : List ℕ) (s : Script) (x : EpDesc) (spelled : Spells text s) (is : IsInletOf s x) where
  abbrev v : Inlet
  v = inlet_of s x

  drafted : IsScriptOf IsDeclaredDraft s
  drafted = spelled_kept IsDeclaredDraft empty_declared second_declared line_declares text s spelled

  both : (is_in_below x ≡ true) × (has_hub s x.hub x.port ≡ true)
  both = and_parts (is_in_below x) (has_hub s x.hub x.port) is.claims

  its_way : x.name.way ≡ ways.In
  its_way = claimed_in_way x both.0

  unsent : IsUnsentIn s x
  unsent =
      let zero : AreZeroesAlone (opening_bus s) = texts_leave_zero_alone text s spelled in
      subst (λ (z : Script). IsUnsentIn z x) drafted.is
      (of_draft drafted.draft x drafted.holds (subst (λ (z : Script). AreZeroesAlone (opening_bus z)) (sym drafted.is) zero)
      (known drafted.draft drafted.holds x (subst (λ (z : Script). IsOpened z x) (sym drafted.is) is.opened)) its_way (in_stream x both.0))

  -- one name is that of one endpoint
  inlet_in : (y : EpDesc) → IsOpened s y → y.name.way ≡ ways.In → is_inlet (inlet_of s x) y.name.addr y.name.num ≡ true → y ≡ x
  inlet_in y o way on =
      let n = its_number v y.name.addr y.name.num on in
      texts_open_once text s spelled y x o is.opened
      (ap (λ (a : ℕ). record y.name { addr = a }) (sym n.0)
      ∙ ap (λ (i : ℕ). record y.name { addr = x.name.addr; num = i }) (sym n.1)
      ∙ ap (λ (u : Way). record { addr = x.name.addr; num = x.name.num; way = u }) (way ∙ sym its_way))
      (λ control. in_ctl (sym way ∙ control))
    where
      in_ctl : ways.In ≡ ways.Ctl → ⊥
      in_ctl e = cc

  inlet_ctl : (y : EpDesc) → IsOpened s y → y.name.way ≡ ways.Ctl → is_inlet (inlet_of s x) y.name.addr y.name.num ≡ false
  inlet_ctl y o way = by (is_inlet v y.name.addr y.name.num) refl
    where
      named : HasItsName y
      named =
          nth_all (λ l. NamesLine l.1) s.lines o.place (o.number, lines.Command (commands.OpenEp y))
          (texts_name_endpoints text s spelled).opened o.here

      by : (b : Bool) → is_inlet (inlet_of s x) y.name.addr y.name.num ≡ b → is_inlet (inlet_of s x) y.name.addr y.name.num ≡ false
      by false off = off
      by true on =
          let zero = control_zero y named (subst (λ (u : Way). IsOfWay u y.kind) way (texts_open_fit text s spelled y o)) in
          absurd (unsent.number ((its_number v y.name.addr y.name.num on).1 ∙ zero.number))

  inlet_by : (y : EpDesc) → IsOpened s y → (u : Way) → y.name.way ≡ u → IsInletBy (inlet_of s x) y u
  inlet_by y o ways.In way = inlet_in y o way
  inlet_by y o ways.Out way = tt
  inlet_by y o ways.Ctl way = inlet_ctl y o way

  line_inlet : (l : Line) → ((y : EpDesc) → l ≡ lines.Command (commands.OpenEp y) → IsInletBy (inlet_of s x) y y.name.way)
      → KindOfLine (OpensInlet (inlet_of s x)) l
  line_inlet (lines.Command (commands.OpenEp y)) each = each y refl
  line_inlet (lines.Command (commands.Get name len by)) each = tt
  line_inlet (lines.Command (commands.Put name bytes by)) each = tt
  line_inlet (lines.Command (commands.Control name setup bytes)) each = tt
  line_inlet (lines.Command (commands.Iso name count len seed)) each = tt
  line_inlet (lines.Command (commands.Cancel name)) each = tt
  line_inlet (lines.Command _) each = tt
  line_inlet _ each = tt

  lines_inlet : (ls : List (ℕ × Line))
      → ((p n : ℕ) (y : EpDesc) → slice_get ls p ≡ Some (n, lines.Command (commands.OpenEp y)) → IsInletBy (inlet_of s x) y y.name.way)
      → AllByRecursion (λ l. KindOfLine (OpensInlet (inlet_of s x)) l.1) ls
  lines_inlet [] each = tt
  lines_inlet (l ∷ ls) each = (
    line_inlet l.1 (λ y same. each zero l.0 y (ap (λ (z : Line). Some (l.0, z)) same)),
    lines_inlet ls (λ p. each (suc p)),
  )

  its : HasItsHub s x
  its = in_hub s x is.claims

  pub unmoved : Unmoved (inlet_of s x) (opening_wired s)
  unmoved going timely =
      in_opens v.packets (told_key x.kind Directions.In (asked_as x)) v.hub v.place (opening_wired s) going timely
      (opens_without_keys s (its_way_of x.kind) (told_key x.kind Directions.In (asked_as x)) v.hub v.place its.text its.there its.less)
      (opens_right (IsOfKind (told_key x.kind Directions.In (asked_as x))) s) unsent.sender

  pub inlets_there : HasItsInlet s (inlet_of s x)
  inlets_there = record {
    opens = lines_inlet s.lines (λ p n y here. inlet_by y (record { place = p; number = n; here = here }) y.name.way refl);
    hub = its.at;
    unmoved = unmoved;
  }

pub texts_open_inlets : TextsOpenInlets
texts_open_inlets = inlets_there
