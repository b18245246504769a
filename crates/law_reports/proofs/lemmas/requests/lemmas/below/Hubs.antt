-- The hub of an endpoint of a script stays where it is, and hears no more than the script's own lines to it.
use Rattle.std.proofs.Common.{◌≡◌, ℕ, Bool, true, false, Option, Some, None, if◌then◌else◌, ap, refl, sym, ◌∙◌}
use Rattle.std.specs.Prelude.{◌==◌, find, unwrap_or}
use Rattle.std.specs.Option.{option_map_or}
use Rattle.std.proofs.lemmas.Bool.{eqb-true, true≢false}
use Rattle.law_common.proofs.Lists.{nth_all}
use Rattle.law_devices.proofs.Places.{position_passes}
use Rattle.usb_base.specs.declared.endpoints.EpDesc.{EpDesc}
use Rattle.script_types.specs.declared.devices.HubText.{HubText}
use Rattle.script_types.specs.declared.scripts.Script.{Script}
use Rattle.hub_class.specs.HubContent.{HubContent}
use Rattle.bus_wire.specs.Bus.{fixed_of}
use Rattle.bus_world.specs.Budgets.{moment}
use Rattle.claims_world.specs.BelowStreams.{has_port, has_hub, heard_clear}
use Rattle.claims_world.specs.Requests.{wired}
use Rattle.law_below_hubs.specs.Splits.{IsAtHub}
use Rattle.law_reports.specs.pipes.Piped.{asked_as}
use Rattle.law_reports.specs.pipes.below_hubs.BehindLaws.{hub_of, place_of}
use Rattle.law_reports.specs.requests.below.Hubs.{IsBehindHub, TextsKeepHubs, TextsSpareHubs}
use Rattle.law_reports.proofs.lemmas.pipes.lemmas.below_hubs.BehindMoments.{texts_are_behind}
use Rattle.law_reports.proofs.lemmas.pipes.lemmas.below_hubs.BelowTexts.{HasItsHub, its_hub}
use Rattle.law_reports.proofs.lemmas.pipes.lemmas.hub_setups.Moments.{lines_spare_hubs}

module _ (s : Script) (x : EpDesc) (is_behind : IsBehindHub s x) where
  found : (hub : ℕ) (o : Option HubText) → x.hub ≡ Some hub → find (λ (h : HubText). h.addr == hub) s.hubs ≡ o
      → option_map_or (has_port x.port) o false ≡ true → HasItsHub s x
  found hub None is none has = absurd (true≢false (sym has))
  found hub (Some t) is first has = its_hub s x.port hub t first has x is refl is_behind.slow

  there : HasItsHub s x
  there = by x.hub refl
    where
      by : (o : Option ℕ) → x.hub ≡ o → HasItsHub s x
      by None is = absurd (true≢false (sym is_behind.has ∙ ap (λ (o : Option ℕ). has_hub s o x.port) is))
      by (Some hub) is =
          found hub (find (λ (h : HubText). h.addr == hub) s.hubs) is refl
          (sym (ap (λ (o : Option ℕ). has_hub s o x.port) is) ∙ is_behind.has)

  -- its queue head names it
  number : Some (asked_as x).hub ≡ x.hub
  number = by x.hub refl
    where
      by : (o : Option ℕ) → x.hub ≡ o → Some (asked_as x).hub ≡ x.hub
      by None is = absurd (true≢false (sym is_behind.has ∙ ap (λ (o : Option ℕ). has_hub s o x.port) is))
      by (Some hub) is =
          ap (λ (i : ℕ). Some i) (ap (λ (b : Bool). if b then 0 else unwrap_or x.hub 0) is_behind.slow
          ∙ ap (λ (o : Option ℕ). unwrap_or o 0) is) ∙ sym is

pub texts_keep_hubs : TextsKeepHubs
texts_keep_hubs text s x spelled is k =
    (texts_are_behind text s spelled k).behind.hubs (asked_as x).hub (asked_as x).port (hub_of s x.hub) (place_of s x.hub x.port)
    (there s x is).at

pub texts_spare_hubs : TextsSpareHubs
texts_spare_hubs text s x spelled is leaves k h here =
    let at : IsAtHub (wired (fixed_of s) (moment s k).world).bus.hubs (asked_as x).hub (asked_as x).port (hub_of s x.hub)
    (place_of s x.hub x.port) =
    texts_keep_hubs text s x spelled is k in
    let address : (h.address == (asked_as x).hub) ≡ true =
    position_passes (λ (c : HubContent). c.address == (asked_as x).hub) (moment s k).world.bus.hubs (hub_of s x.hub) h at.found here in
    nth_all (λ (c : HubContent). Some c.address ≡ x.hub → heard_clear c ≡ false) (moment s k).world.bus.hubs (hub_of s x.hub) h
    (lines_spare_hubs text s x spelled leaves k) here
    (ap (λ (a : ℕ). Some a) (eqb-true h.address (asked_as x).hub address) ∙ number s x is)
