-- Each OUT endpoint with a stream that a text opens below a hub of it is at its spot, and before the first line nothing was sent of it.
use Rattle.std.proofs.Common.{◌≡◌, ◌≢◌, ℕ, zero, suc, ◌<◌, ◌≤◌, ◌-◌, Bool, true, false, List, [], ◌∷◌, length, Option, Some, None}
use Rattle.std.proofs.Common.{refl, sym, ap}
use Rattle.std.proofs.Common.{subst, ◌∙◌, inl, inr, arith}
use Rattle.std.specs.Prelude.{◌==◌, ◌&&◌, not, nat_le, if◌then◌else◌, find, position, slice_get, is_some, unwrap_or}
use Rattle.std.specs.List.{AllByRecursion}
use Rattle.std.specs.Option.{option_map, option_map_or}
use Rattle.std.proofs.lemmas.Bool.{and_parts, and_from, eqb-true, eq-eqb, le-leb, true≢false, false≢true}
use Rattle.std.proofs.lemmas.Bool.Decides.{nat_tests}
use Rattle.std.proofs.lemmas.List.{length-map}
use Rattle.std.proofs.lemmas.Option.{same_Some, slice_get-map}
use Rattle.law_common.proofs.Lists.{nth_all}
use Rattle.usb_base.specs.declared.commands.Cmd.TheVariants as commands
use Rattle.usb_base.specs.declared.endpoints.EpDesc.{EpDesc}
use Rattle.usb_base.specs.declared.packets.EpKind.{EpKind}
use Rattle.usb_base.specs.declared.packets.EpKind.TheVariants as kinds
use Rattle.usb_base.specs.declared.packets.Way.{Way}
use Rattle.usb_base.specs.declared.packets.Way.TheVariants as ways
use Rattle.script_types.specs.declared.devices.EpText.{EpText}
use Rattle.script_types.specs.declared.devices.HubText.{HubText}
use Rattle.script_types.specs.declared.scripts.Line.{Line}
use Rattle.script_types.specs.declared.scripts.Line.TheVariants as lines
use Rattle.script_types.specs.declared.scripts.Script.{Script}
use Rattle.script_world.specs.Draft.{Draft, device_of, script_of}
use Rattle.script_text.specs.Faults.{Spells}
use Rattle.endpoint_script.specs.Device.{opened_part}
use Rattle.hub_keys.specs.declared.key.Key.{Key}
use Rattle.hub_class.specs.HubContent.{HubContent}
use Rattle.hub_class.specs.HubContent as Hubs
use Rattle.multi_tt.specs.Translators.{place_of as served_at}
use Rattle.bus_wire.specs.Bus.{opening_bus, opening_wired}
use Rattle.claims_driver.specs.Scripts.{receives}
use Rattle.claims_report.specs.Streams.{has_stream}
use Rattle.claims_world.specs.BelowStreams.{is_out_below, has_port, has_hub, is_claimed_below}
use Rattle.drv_periodic_table.specs.Periodic.{is_periodic}
use Rattle.drv_table.specs.Words.{is_high}
use Rattle.law_driver.proofs.Common.{out_way}
use Rattle.law_driver.specs.queued_drivers.Queued.{IsOfWay, FitsKind}
use Rattle.law_devices.specs.declared_controls.Names.{HasItsName, NamesLine}
use Rattle.law_devices.specs.declared_controls.Zero.{AreZeroesAlone}
use Rattle.law_devices.specs.scripted_takers.Takers.{taker_of_part}
use Rattle.law_devices.proofs.Drafts.{IsKnownDesc, IsDeclaredDraft}
use Rattle.law_devices.proofs.Lists.{found_passes, found_first, find_map, none_each, IsFirst}
use Rattle.law_devices.proofs.Senders.{empty_declared, second_declared, line_declares}
use Rattle.law_devices.proofs.Texts.{IsScriptOf, spelled_kept}
use Rattle.law_devices.proofs.lemmas.declared_controls.Controls.{texts_name_endpoints, texts_leave_zero_alone}
use Rattle.law_devices.proofs.lemmas.declared_controls.Names.{control_zero}
use Rattle.law_opened.specs.Opened.{IsOpened}
use Rattle.law_opened.proofs.Opened.{declared_by, known, texts_open_once, texts_open_fit}
use Rattle.law_translated.specs.Lift.{Empty}
use Rattle.law_translated.specs.OutPipes.{out_opening}
use Rattle.law_below_hubs.specs.HostOuts.{its_way}
use Rattle.law_below_hubs.specs.HubsKeys.{HubsHave}
use Rattle.law_below_hubs.specs.OutWork.{IsPut, taker_of_line}
use Rattle.law_below_hubs.specs.Opening.{translators_of}
use Rattle.law_below_hubs.specs.Seated.{taker_at}
use Rattle.law_below_hubs.specs.Splits.{IsAtHub}
use Rattle.law_below_hubs.proofs.HostOpens.{out_opens}
use Rattle.law_below_hubs.proofs.Opening.{opens_without_keys, opens_right}
use Rattle.law_world.specs.steps.receiving_runs.Runs.{KindOfLine}
use Rattle.law_reports.specs.pipes.Piped.{asked_as}
use Rattle.law_reports.specs.pipes.below_hubs.Behind.{IsSpot, IsSpotBy, IsOutSpot, stream_kind, its_key}
use Rattle.law_reports.specs.pipes.below_hubs.BehindLaws.{OpensSpot, opens_below, desc_in, desc_below, hub_of, translator_of}
use Rattle.law_reports.specs.pipes.below_hubs.BehindLaws.{place_of, spots_of}
use Rattle.law_reports.specs.pipes.below_hubs.BehindLaws.{OpensSpots, OpensUnsent, TextsOpenSpots}
use Rattle.law_reports.proofs.lemmas.pipes.lemmas.below_hubs.BehindControlled.{claimed_stream}
use Rattle.law_reports.proofs.lemmas.pipes.lemmas.below_hubs.BelowTakers.{taker_is, no_zero}

-- ---- which line opens it

pub record IsFoundBelow (s : Script) (addr ep : ℕ) : Type 0 where
  desc : EpDesc
  is : desc_below s addr ep ≡ Some desc
  opened : IsOpened s desc
  claims : is_claimed_below s desc ≡ true
  address : desc.name.addr ≡ addr
  number : desc.name.num ≡ ep

none_true : {A : Type 0} → false ≡ true → A
none_true e = absurd (false≢true e)

module _ (s : Script) (addr ep : ℕ) where
  abbrev test : ℕ × Line → Bool
  test l = opens_below s addr ep l.1

  of_line : (n : ℕ) (l : Line) → find (λ (k : ℕ × Line). opens_below s addr ep k.1) s.lines ≡ Some (n, l)
      → is_some (desc_in (Some (n, l))) ≡ true → IsFoundBelow s addr ep
  of_line n (lines.Command (commands.OpenEp d)) found on =
      let passes = found_passes test s.lines (n, lines.Command (commands.OpenEp d)) found in
      let first = found_first test s.lines (n, lines.Command (commands.OpenEp d)) found in
      let both = and_parts (is_claimed_below s d) (d.name.addr == addr && d.name.num == ep) passes in
      let name = and_parts (d.name.addr == addr) (d.name.num == ep) both.1 in
      record {
        desc = d;
        is = ap desc_in found;
        opened = record { place = first.place; number = n; here = first.here };
        claims = both.0;
        address = eqb-true d.name.addr addr name.0;
        number = eqb-true d.name.num ep name.1;
      }
  of_line n (lines.Command (commands.Get name len by)) found on = none_true on
  of_line n (lines.Command (commands.Put name bytes by)) found on = none_true on
  of_line n (lines.Command (commands.Control name setup bytes)) found on = none_true on
  of_line n (lines.Command (commands.Iso name count len seed)) found on = none_true on
  of_line n (lines.Command (commands.Cancel name)) found on = none_true on
  of_line n (lines.Command _) found on = none_true on
  of_line n (lines.Order event k) found on = none_true on
  of_line n (lines.Micro k) found on = none_true on
  of_line n (lines.Plug k) found on = none_true on
  of_line n (lines.Unplug k) found on = none_true on

  pub found_below : is_some (desc_below s addr ep) ≡ true → IsFoundBelow s addr ep
  found_below on = by (find test s.lines) refl
    where
      by : (o : Option (ℕ × Line)) → find (λ (k : ℕ × Line). opens_below s addr ep k.1) s.lines ≡ o → IsFoundBelow s addr ep
      by None is = none_true (sym (ap (λ (o : Option (ℕ × Line)). is_some (desc_in o)) is) ∙ on)
      by (Some l) is = of_line l.0 l.1 is (sym (ap (λ (o : Option (ℕ × Line)). is_some (desc_in o)) is) ∙ on)

-- one that is claimed is found
pub opens_found : (s : Script) (x : EpDesc) → IsOpened s x → is_claimed_below s x ≡ true
    → is_some (desc_below s x.name.addr x.name.num) ≡ true
opens_found s x o on = by (find (test s x.name.addr x.name.num) s.lines) refl
  where
    its : opens_below s x.name.addr x.name.num (lines.Command (commands.OpenEp x)) ≡ true
    its = and_from (is_claimed_below s x) (x.name.addr == x.name.addr && x.name.num == x.name.num) on
        (and_from (x.name.addr == x.name.addr) (x.name.num == x.name.num) (eq-eqb x.name.addr x.name.addr refl)
        (eq-eqb x.name.num x.name.num refl))

    of_line_so : (n : ℕ) (l : Line) → opens_below s x.name.addr x.name.num l ≡ true → is_some (desc_in (Some (n, l))) ≡ true
    of_line_so n (lines.Command (commands.OpenEp d)) passes = refl
    of_line_so n (lines.Command (commands.Get name len by)) passes = none_true passes
    of_line_so n (lines.Command (commands.Put name bytes by)) passes = none_true passes
    of_line_so n (lines.Command (commands.Control name setup bytes)) passes = none_true passes
    of_line_so n (lines.Command (commands.Iso name count len seed)) passes = none_true passes
    of_line_so n (lines.Command (commands.Cancel name)) passes = none_true passes
    of_line_so n (lines.Command _) passes = none_true passes
    of_line_so n (lines.Order event k) passes = none_true passes
    of_line_so n (lines.Micro k) passes = none_true passes
    of_line_so n (lines.Plug k) passes = none_true passes
    of_line_so n (lines.Unplug k) passes = none_true passes

    by : (f : Option (ℕ × Line)) → find (λ (k : ℕ × Line). opens_below s x.name.addr x.name.num k.1) s.lines ≡ f
        → is_some (desc_below s x.name.addr x.name.num) ≡ true
    by None is =
        none_true (sym (nth_all (λ (k : ℕ × Line). opens_below s x.name.addr x.name.num k.1 ≡ false) s.lines o.place
        (o.number, lines.Command (commands.OpenEp x))
        (none_each (test s x.name.addr x.name.num) s.lines is) o.here) ∙ its)
    by (Some l) is =
        ap (λ (f : Option (ℕ × Line)). is_some (desc_in f)) is
        ∙ of_line_so l.0 l.1 (found_passes (test s x.name.addr x.name.num) s.lines l is)

-- ---- its hub

le_is : (a b : ℕ) → nat_le a b ≡ true → a ≤ b
le_is a b e = grind (arith, nat_tests)

pub record HasItsHub (s : Script) (d : EpDesc) : Type 0 where
  pub at : IsAtHub (opening_bus s).hubs (asked_as d).hub (asked_as d).port (hub_of s d.hub) (place_of s d.hub d.port)
  pub text : HubText
  pub there : slice_get s.hubs (hub_of s d.hub) ≡ Some text
  pub less : place_of s d.hub d.port < translators_of text

none_hub : (h : HubContent) → ◌≡◌ {A = Option HubContent} None (Some h) → ⊥
none_hub h e = cc

module _ (s : Script) (port hub : ℕ) (t : HubText) (found : find (λ (h : HubText). h.addr == hub) s.hubs ≡ Some t)
    (has : has_port port t ≡ true) where
  abbrev at_address : HubContent → Bool
  at_address h = h.address == hub

  first : IsFirst at_address (opening_bus s).hubs (Hubs.opening t)
  first = found_first at_address (opening_bus s).hubs (Hubs.opening t)
      (find_map at_address Hubs.opening s.hubs ∙ ap (option_map Hubs.opening) found)

  i_is : hub_of s (Some hub) ≡ first.place
  i_is = ap (λ (o : Option ℕ). option_map_or (λ i. i) o 0) first.at

  place_is : place_of s (Some hub) port ≡ translator_of port t
  place_is = ap (λ (o : Option HubText). option_map_or (translator_of port) o 0) found

  ports : (1 ≤ port) × (port ≤ length t.attached)
  ports =
      let both = and_parts (nat_le 1 port) (nat_le port (length t.attached)) has in
      (le_is 1 port both.0, le_is port (length t.attached) both.1)

  served : (b : Bool) → served_at b port ≡ Some (if b then port - 1 else 0)
  served true = ap (λ (c : Bool). if c then Some (port - 1) else None) (le-leb 1 port ports.0)
  served false = refl

  record IsText : Type 0 where
    hub_text : HubText
    there : slice_get s.hubs first.place ≡ Some hub_text
    multi : hub_text.multi ≡ t.multi
    long : length hub_text.attached ≡ length t.attached

  text_at : (o : Option HubText) → slice_get s.hubs first.place ≡ o → IsText
  text_at None is =
      absurd (none_hub (Hubs.opening t)
      (sym (slice_get-map Hubs.opening s.hubs first.place ∙ ap (option_map Hubs.opening) is) ∙ first.here))
  text_at (Some u) is =
      let same : Hubs.opening u ≡ Hubs.opening t =
      same_Some (Hubs.opening u) (Hubs.opening t)
      (sym (slice_get-map Hubs.opening s.hubs first.place ∙ ap (option_map Hubs.opening) is) ∙ first.here) in
      record {
        hub_text = u;
        there = is;
        multi = ap (λ (h : HubContent). h.translators.multi) same;
        long = sym (length-map u.attached _) ∙ ap (λ (h : HubContent). length h.ports) same ∙ length-map t.attached _;
      }

  its : IsText
  its = text_at (slice_get s.hubs first.place) refl

  less_by : (b : Bool) → t.multi ≡ b → (if b then port - 1 else 0) < (if b then length t.attached else 1)
  less_by true is = let low = ports.0 in let high = ports.1 in omega (arith, low, high)
  less_by false is = omega arith

  pub its_hub : (d : EpDesc) → d.hub ≡ Some hub → d.port ≡ port → is_high d.speed ≡ false → HasItsHub s d
  its_hub d is also slow = record {
    at = record {
      found = ap (λ (a : ℕ). position (λ (h : HubContent). h.address == a) (opening_bus s).hubs)
          (ap (λ (b : Bool). if b then 0 else unwrap_or d.hub 0) slow ∙ ap (λ (o : Option ℕ). unwrap_or o 0) is)
          ∙ first.at ∙ ap (λ (i : ℕ). Some i) (sym (ap (hub_of s) is ∙ i_is));
      content = Hubs.opening t;
      there = ap (slice_get (opening_bus s).hubs) (ap (hub_of s) is ∙ i_is) ∙ first.here;
      place_is = ap (λ (b : Bool). served_at t.multi (if b then 0 else d.port)) slow ∙ ap (served_at t.multi) also ∙ served t.multi
          ∙ ap (λ (i : ℕ). Some i) (sym (ap (λ (o : Option ℕ). place_of s o d.port) is ∙ ap (place_of s (Some hub)) also ∙ place_is));
    };
    text = its.hub_text;
    there = ap (slice_get s.hubs) (ap (hub_of s) is ∙ i_is) ∙ its.there;
    less = subst (λ (p : ℕ). p < translators_of its.hub_text)
        (sym (ap (λ (o : Option ℕ). place_of s o d.port) is ∙ ap (place_of s (Some hub)) also ∙ place_is))
        (subst (λ (b : Bool). translator_of port t < (if b then length its.hub_text.attached else 1)) (sym its.multi)
        (subst (λ (n : ℕ). translator_of port t < (if t.multi then n else 1)) (sym its.long) (less_by t.multi refl)));
  }

pub slow_is : (x : EpDesc) → is_out_below x ≡ true → is_high x.speed ≡ false
slow_is x is = by (is_high x.speed) refl
  where
    by : (b : Bool) → is_high x.speed ≡ b → is_high x.speed ≡ false
    by false off = off
    by true on = absurd (bad on)
      where
        bad : is_high x.speed ≡ true → ⊥
        bad high =
            let both = and_parts (has_stream x.kind) (not (is_high x.speed) && not (receives x.name.way)) is in
            let fast = (and_parts (not (is_high x.speed)) (not (receives x.name.way)) both.1).0 in
            true≢false (sym fast ∙ ap not high)

pub claimed_out : (x : EpDesc) → is_out_below x ≡ true → x.name.way ≡ ways.Out
claimed_out x is =
    out_way x.name.way (by (receives x.name.way) refl)
  where
    by : (b : Bool) → receives x.name.way ≡ b → receives x.name.way ≡ false
    by false off = off
    by true on =
        let both = and_parts (has_stream x.kind) (not (is_high x.speed) && not (receives x.name.way)) is in
        let leaves = (and_parts (not (is_high x.speed)) (not (receives x.name.way)) both.1).1 in
        absurd (true≢false (sym leaves ∙ ap not on))

pub hub_there : (s : Script) (d : EpDesc) → is_claimed_below s d ≡ true → HasItsHub s d
hub_there s d claims = by d.hub refl
  where
    both : (is_out_below d ≡ true) × (has_hub s d.hub d.port ≡ true)
    both = and_parts (is_out_below d) (has_hub s d.hub d.port) claims

    found : (hub : ℕ) (o : Option HubText) → d.hub ≡ Some hub → find (λ (h : HubText). h.addr == hub) s.hubs ≡ o
        → option_map_or (has_port d.port) o false ≡ true → HasItsHub s d
    found hub None is none has = none_true has
    found hub (Some t) is first has = its_hub s d.port hub t first has d is refl (slow_is d both.0)

    by : (o : Option ℕ) → d.hub ≡ o → HasItsHub s d
    by None is = none_true (sym (ap (λ (o : Option ℕ). has_hub s o d.port) is) ∙ both.1)
    by (Some hub) is =
        found hub (find (λ (h : HubText). h.addr == hub) s.hubs) is refl (sym (ap (λ (o : Option ℕ). has_hub s o d.port) is) ∙ both.1)

kind_of : (kind : EpKind) → has_stream kind ≡ true → kind ≡ stream_kind (is_periodic kind)
kind_of kinds.Bulk streams = refl
kind_of kinds.Interrupt streams = refl
kind_of kinds.Control streams = absurd (false≢true streams)
kind_of kinds.Iso streams = absurd (false≢true streams)

-- ---- its device

record IsUntakenOut (s : Script) (x : EpDesc) : Type 0 where
  taker : taker_at (opening_wired s) x.name.addr x.name.num ≡ Some (taker_of_line out_opening)
  number : x.name.num ≢ 0

takes_none : (kind : EpKind) (v : Way) (t : EpText) → v ≡ ways.Out → has_stream kind ≡ true
    → taker_of_part (opened_part v kind t) ≡ Some (taker_of_line out_opening)
takes_none kinds.Bulk ways.Out t way streams = refl
takes_none kinds.Interrupt ways.Out t way streams = refl
takes_none _ ways.In t way streams = absurd cc
takes_none _ ways.Ctl t way streams = absurd cc
takes_none kinds.Control ways.Out t way streams = absurd (false≢true streams)
takes_none kinds.Iso ways.Out t way streams = absurd (false≢true streams)

of_draft : (w : Draft) (x : EpDesc) → IsDeclaredDraft w → AreZeroesAlone (opening_bus (script_of w)) → IsKnownDesc w.devices x
    → x.name.way ≡ ways.Out → has_stream x.kind ≡ true → IsUntakenOut (script_of w) x
of_draft w x h alone (inl control) way bulk = absurd (other (sym way ∙ control))
  where
    other : ways.Out ≡ ways.Ctl → ⊥
    other e = cc
of_draft w x h alone (inr n) way bulk =
    let k = declared_by w.devices n.name x (device_of w.devices n.name.addr) refl n.here in
    subst (λ (d : EpDesc). d.name.way ≡ ways.Out → has_stream d.kind ≡ true → IsUntakenOut (script_of w) d) k.desc
    (λ out kind. record {
      taker = taker_is w h n.name x k out ∙ takes_none k.text.desc.kind k.text.desc.name.way k.text out kind;
      number = no_zero w h n.name x k out alone;
    }) way bulk

-- ---- a text

module _ (text : List ℕ) (s : Script) (spelled : Spells text s) where
  drafted : IsScriptOf IsDeclaredDraft s
  drafted = spelled_kept IsDeclaredDraft empty_declared second_declared line_declares text s spelled

  out_of : (x : EpDesc) → IsOpened s x → x.name.way ≡ ways.Out → has_stream x.kind ≡ true → IsUntakenOut s x
  out_of x o way bulk =
      let zero : AreZeroesAlone (opening_bus s) = texts_leave_zero_alone text s spelled in
      subst (λ (z : Script). IsUntakenOut z x) drafted.is
      (of_draft drafted.draft x drafted.holds (subst (λ (z : Script). AreZeroesAlone (opening_bus z)) (sym drafted.is) zero)
      (known drafted.draft drafted.holds x (subst (λ (z : Script). IsOpened z x) (sym drafted.is) o)) way bulk)

  -- one name is that of one endpoint
  same_desc : (x : EpDesc) → IsOpened s x → x.name.way ≡ ways.Out → (f : IsFoundBelow s x.name.addr x.name.num) → f.desc ≡ x
  same_desc x o way f =
      let bulk : is_out_below f.desc ≡ true = (and_parts (is_out_below f.desc) (has_hub s f.desc.hub f.desc.port) f.claims).0 in
      let its : f.desc.name.way ≡ ways.Out = claimed_out f.desc bulk in
      texts_open_once text s spelled f.desc x f.opened o
      (ap (λ (a : ℕ). record f.desc.name { addr = a }) f.address
      ∙ ap (λ (n : ℕ). record f.desc.name { addr = x.name.addr; num = n }) f.number
      ∙ ap (λ (v : Way). record { addr = x.name.addr; num = x.name.num; way = v }) (its ∙ sym way))
      (λ control. out_ctl (sym its ∙ control))
    where
      out_ctl : ways.Out ≡ ways.Ctl → ⊥
      out_ctl e = cc

  spot_out : (x : EpDesc) → IsOpened s x → x.name.way ≡ ways.Out → IsOutSpot (spots_of s) x
  spot_out x o way = record {
    out = λ on.
        let f = found_below s x.name.addr x.name.num on in
        ap is_out_below (sym (same_desc x o way f)) ∙ (and_parts (is_out_below f.desc) (has_hub s f.desc.hub f.desc.port) f.claims).0;
    kind = λ on.
        let f = found_below s x.name.addr x.name.num on in
        let is : desc_below s x.name.addr x.name.num ≡ Some x = f.is ∙ ap (λ (d : EpDesc). Some d) (same_desc x o way f) in
        let out : is_out_below x ≡ true = ap is_out_below (sym (same_desc x o way f))
        ∙ (and_parts (is_out_below f.desc) (has_hub s f.desc.hub f.desc.port) f.claims).0 in
        kind_of x.kind (claimed_stream x out)
        ∙ ap (λ (c : Option EpDesc). stream_kind (option_map_or (λ d. is_periodic d.kind) c false)) (sym is);
    hub = λ on.
        let f = found_below s x.name.addr x.name.num on in
        let is : desc_below s x.name.addr x.name.num ≡ Some x = f.is ∙ ap (λ (d : EpDesc). Some d) (same_desc x o way f) in
        let claims : is_claimed_below s x ≡ true = ap (is_claimed_below s) (sym (same_desc x o way f)) ∙ f.claims in
        subst (λ (c : Option EpDesc). IsAtHub (opening_bus s).hubs (asked_as x).hub (asked_as x).port
        (option_map_or (λ d. hub_of s d.hub) c 0) (option_map_or (λ d. place_of s d.hub d.port) c 0)) (sym is)
        (hub_there s x claims).at;
  }

  spot_ctl : (x : EpDesc) → IsOpened s x → x.name.way ≡ ways.Ctl → (spots_of s).has x.name.addr x.name.num ≡ false
  spot_ctl x o way = by (is_some (desc_below s x.name.addr x.name.num)) refl
    where
      fits : FitsKind x
      fits = texts_open_fit text s spelled x o

      named : HasItsName x
      named =
          nth_all (λ l. NamesLine l.1) s.lines o.place (o.number, lines.Command (commands.OpenEp x))
          (texts_name_endpoints text s spelled).opened o.here

      by : (b : Bool) → is_some (desc_below s x.name.addr x.name.num) ≡ b → is_some (desc_below s x.name.addr x.name.num) ≡ false
      by false is = is
      by true is =
          let f = found_below s x.name.addr x.name.num is in
          let bulk : is_out_below f.desc ≡ true = (and_parts (is_out_below f.desc) (has_hub s f.desc.hub f.desc.port) f.claims).0 in
          let zero = control_zero x named (subst (λ (v : Way). IsOfWay v x.kind) way fits) in
          absurd ((out_of f.desc f.opened (claimed_out f.desc bulk) (claimed_stream f.desc bulk)).number (f.number ∙ zero.number))

  spot_of : (x : EpDesc) → IsOpened s x → (v : Way) → x.name.way ≡ v → IsSpotBy (spots_of s) x v
  spot_of x o ways.In is = tt
  spot_of x o ways.Out is = spot_out x o is
  spot_of x o ways.Ctl is = spot_ctl x o is

  line_spot : (l : Line) → ((y : EpDesc) → l ≡ lines.Command (commands.OpenEp y) → IsSpot (spots_of s) y)
      → KindOfLine (OpensSpot (spots_of s)) l
  line_spot (lines.Command (commands.OpenEp y)) each = each y refl
  line_spot (lines.Command (commands.Get name len by)) each = tt
  line_spot (lines.Command (commands.Put name bytes by)) each = tt
  line_spot (lines.Command (commands.Control name setup bytes)) each = tt
  line_spot (lines.Command (commands.Iso name count len seed)) each = tt
  line_spot (lines.Command (commands.Cancel name)) each = tt
  line_spot (lines.Command _) each = tt
  line_spot _ each = tt

  lines_spot : (ls : List (ℕ × Line))
      → ((p n : ℕ) (y : EpDesc) → slice_get ls p ≡ Some (n, lines.Command (commands.OpenEp y)) → IsSpot (spots_of s) y)
      → AllByRecursion (λ l. KindOfLine (OpensSpot (spots_of s)) l.1) ls
  lines_spot [] each = tt
  lines_spot (l ∷ ls) each = (
    line_spot l.1 (λ y is. each zero l.0 y (ap (λ (z : Line). Some (l.0, z)) is)),
    lines_spot ls (λ p. each (suc p)),
  )

  unsent : OpensUnsent s
  unsent addr ep on =
      let f = found_below s addr ep on in
      let bulk : is_out_below f.desc ≡ true = (and_parts (is_out_below f.desc) (has_hub s f.desc.hub f.desc.port) f.claims).0 in
      let h = hub_there s f.desc f.claims in
      let u = out_of f.desc f.opened (claimed_out f.desc bulk) (claimed_stream f.desc bulk) in
      let taker : taker_at (opening_wired s) addr ep ≡ Some (taker_of_line out_opening) =
      ap (λ (a : ℕ). taker_at (opening_wired s) a ep) (sym f.address) ∙ ap (taker_at (opening_wired s) f.desc.name.addr) (sym f.number)
      ∙ u.taker in
      let key : Key = its_key (spots_of s) addr ep in
      out_opens key ((spots_of s).hub addr ep) ((spots_of s).place addr ep) (opening_wired s)
      (subst (λ (c : Option EpDesc). HubsHave (its_way key.kind) key (option_map_or (λ d. hub_of s d.hub) c 0)
      (option_map_or (λ d. place_of s d.hub d.port) c 0) (opening_bus s).hubs Empty) (sym f.is)
      (opens_without_keys s (its_way key.kind) key (hub_of s f.desc.hub) (place_of s f.desc.hub f.desc.port) h.text h.there h.less))
      (opens_right (IsPut key) s) taker

  pub spots_there : OpensSpots s × OpensUnsent s
  spots_there =
      (lines_spot s.lines (λ p n y here. spot_of y (record { place = p; number = n; here = here }) y.name.way refl), unsent)

pub texts_open_spots : TextsOpenSpots
texts_open_spots text s spelled = spots_there text s spelled
