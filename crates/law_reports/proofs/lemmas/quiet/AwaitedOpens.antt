-- Before the first line each bulk or control endpoint that a text opens behind a port of a hub has its hub and its end, and nothing is awaited of it.
use Rattle.std.proofs.Common.{◌≡◌, ℕ, ◌&&◌, ◌==◌, not, true, false, List, Option, Some, None, ap, refl, sym, subst, ◌∙◌}
use Rattle.std.specs.Prelude.{find, is_some}
use Rattle.std.specs.Option.{option_map_or}
use Rattle.std.proofs.lemmas.Bool.{and_parts, and_from, false≢true}
use Rattle.law_common.proofs.Booleans.{not_high}
use Rattle.usb_base.specs.declared.endpoints.EpDesc.{EpDesc}
use Rattle.usb_base.specs.declared.packets.Dir.{Dir}
use Rattle.usb_base.specs.declared.packets.Way.{Way}
use Rattle.usb_base.specs.declared.packets.Way.TheVariants as ways
use Rattle.script_types.specs.declared.devices.HubText.{HubText}
use Rattle.script_types.specs.declared.scripts.Script.{Script}
use Rattle.script_text.specs.Faults.{Spells}
use Rattle.bus_wire.specs.Bus.{opening_wired}
use Rattle.claims_driver.specs.Scripts.{receives, comes_in}
use Rattle.claims_report.specs.Streams.{has_stream}
use Rattle.claims_world.specs.BelowStreams.{is_out_below, has_port, has_hub, is_claimed_below}
use Rattle.drv_table.specs.Words.{is_control, is_high}
use Rattle.law_driver.specs.queued_drivers.Queued.{IsOfWay as KindIsOfWay}
use Rattle.law_opened.specs.Opened.{IsOpened}
use Rattle.law_opened.proofs.Opened.{texts_open_fit}
use Rattle.law_translated.specs.Lift.{Buffered, Empty}
use Rattle.law_below_hubs.specs.Awaited.{HasEnd, its_kind, faces}
use Rattle.law_below_hubs.specs.HostEvents.{told_key}
use Rattle.law_below_hubs.proofs.Opening.{opens_without_keys}
use Rattle.law_reports.specs.pipes.Piped.{asked_as}
use Rattle.law_reports.specs.pipes.below_hubs.BehindLaws.{hub_of, place_of}
use Rattle.claims_world.specs.BelowStreams.{is_in_below}
use Rattle.law_reports.specs.pipes.below_hubs.InwardLaws.{takes_in}
use Rattle.law_reports.proofs.lemmas.pipes.lemmas.below_hubs.BelowTexts.{HasItsHub, its_hub, texts_open_spots, opens_found}
use Rattle.law_reports.proofs.lemmas.pipes.lemmas.below_hubs.InwardTexts.{unmoved}
use Rattle.law_reports.specs.quiet.Awaiting.{is_buffered, is_buffered_below, asking_of}
use Rattle.law_reports.specs.quiet.AwaitingLaws.{OpensAt, HaveHubs, OpensAwaited}
use Rattle.law_reports.proofs.lemmas.quiet.AwaitedControlled.{kind_is}
use Rattle.law_reports.proofs.lemmas.quiet.ControlOpens.{texts_open_slow_controls}

-- its hub
module _ (s : Script) (x : EpDesc) (slow : is_high x.speed ≡ false) (there : has_hub s x.hub x.port ≡ true) where
  found : (hub : ℕ) (o : Option HubText) → x.hub ≡ Some hub → find (λ (h : HubText). h.addr == hub) s.hubs ≡ o
      → option_map_or (has_port x.port) o false ≡ true → HasItsHub s x
  found hub None is none has = absurd (false≢true has)
  found hub (Some t) is first has = its_hub s x.port hub t first has x is refl slow

  hub_at : HasItsHub s x
  hub_at = by x.hub refl
    where
      by : (o : Option ℕ) → x.hub ≡ o → HasItsHub s x
      by None is = absurd (false≢true (ap (λ (o : Option ℕ). has_hub s o x.port) (sym is) ∙ there))
      by (Some hub) is =
          found hub (find (λ (h : HubText). h.addr == hub) s.hubs) is refl (ap (λ (o : Option ℕ). has_hub s o x.port) (sym is) ∙ there)

module _ (text : List ℕ) (s : Script) (spelled : Spells text s) (x : EpDesc) (o : IsOpened s x) (is : is_buffered_below x ≡ true)
    (there : has_hub s x.hub x.port ≡ true) where
  both : (is_buffered x.kind ≡ true) × (not (is_high x.speed) ≡ true)
  both = and_parts (is_buffered x.kind) (not (is_high x.speed)) is

  slow : is_high x.speed ≡ false
  slow = not_high (is_high x.speed) (sym both.1)

  fits : KindIsOfWay x.name.way x.kind
  fits = texts_open_fit text s spelled x o

  abbrev Ends : Way → Type 0
  Ends v = (dir : Dir) → faces (asking_of v) dir
      → HasEnd (is_control (its_kind (asking_of v))) dir (opening_wired s).fixed (opening_wired s).bus.devices x.name.addr x.name.num

  inward : x.name.way ≡ ways.In → Ends ways.In
  inward same dir of =
      let claims : takes_in s x ≡ true = and_from (is_in_below x) (has_hub s x.hub x.port)
      (and_from (has_stream x.kind) (not (is_high x.speed) && comes_in x.name.way)
      (ap has_stream (kind_is x is fits ∙ ap (λ (v : Way). its_kind (asking_of v)) same))
      (and_from (not (is_high x.speed)) (comes_in x.name.way) both.1 (ap comes_in same))) there in
      subst (λ (d : Dir). HasEnd false d (opening_wired s).fixed (opening_wired s).bus.devices x.name.addr x.name.num) (sym of)
      (ap is_some (unmoved text s x spelled (record { claims = claims; opened = o }) true true).sender)

  outward : x.name.way ≡ ways.Out → Ends ways.Out
  outward same dir of =
      let claims : is_claimed_below s x ≡ true = and_from (is_out_below x) (has_hub s x.hub x.port)
      (and_from (has_stream x.kind) (not (is_high x.speed) && not (receives x.name.way))
      (ap has_stream (kind_is x is fits ∙ ap (λ (v : Way). its_kind (asking_of v)) same))
      (and_from (not (is_high x.speed)) (not (receives x.name.way)) both.1 (ap (λ (way : Way). not (receives way)) same))) there in
      subst (λ (d : Dir). HasEnd false d (opening_wired s).fixed (opening_wired s).bus.devices x.name.addr x.name.num) (sym of)
      (ap is_some ((texts_open_spots text s spelled).1 x.name.addr x.name.num (opens_found s x o claims)).taker)

  ends_by : (v : Way) → x.name.way ≡ v → Ends v
  ends_by ways.In same = inward same
  ends_by ways.Out same = outward same
  ends_by ways.Ctl same = λ dir of.
      texts_open_slow_controls text s spelled x o slow (subst (λ (v : Way). KindIsOfWay v x.kind) same fits)

  opens : OpensAt s x
  opens =
      let its = hub_at s x slow there in
      record {
        hub = its.at;
        keys = λ dir of. record {
          slot = Empty;
          has = opens_without_keys s Buffered (told_key (its_kind (asking_of x.name.way)) dir (asked_as x)) (hub_of s x.hub)
              (place_of s x.hub x.port) its.text its.there its.less;
          stands = tt;
          ends = ends_by x.name.way refl dir of;
        };
      }

pub texts_open_awaited : (text : List ℕ) (s : Script) → Spells text s → HaveHubs s → OpensAwaited s
texts_open_awaited text s spelled hubs x o is =
    opens text s spelled x o is
    (hubs x o (not_high (is_high x.speed) (sym (and_parts (is_buffered x.kind) (not (is_high x.speed)) is).1)))
