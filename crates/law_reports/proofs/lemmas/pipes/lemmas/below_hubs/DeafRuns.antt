-- A hub hears no request at any moment of a script that doesn't open its endpoint 0.
use Rattle.std.proofs.Common.{◌≡◌, ℕ, false, List, [], ◌∷◌, map, length, slice_get, Option, Some, Result, Ok, Err, ap, refl}
use Rattle.std.proofs.Common.{sym, subst, ◌∙◌, ⊎_elim}
use Rattle.std.specs.List.{AllByRecursion}
use Rattle.std.specs.Option.{option_map_or}
use Rattle.law_common.proofs.Lists.{push_which}
use Rattle.law_world.proofs.Common.{lines_can}
use Rattle.usb_base.specs.declared.commands.Cmd.{Cmd}
use Rattle.usb_base.specs.declared.endpoints.EpDesc.{EpDesc}
use Rattle.usb_base.specs.declared.reports.OfferError.{OfferError}
use Rattle.script_types.specs.declared.devices.HubText.{HubText}
use Rattle.script_types.specs.declared.scripts.Script.{Script}
use Rattle.script_fits.proofs.Texts.{spelled_fits}
use Rattle.script_text.specs.Faults.{Spells}
use Rattle.hub_class.specs.HubContent.{HubContent}
use Rattle.hub_class.specs.HubContent as Hubs
use Rattle.bus_wire.specs.Bus.{Fixed, fixed_of}
use Rattle.claims_world.specs.BelowStreams.{clears_translator, heard_clear}
use Rattle.drv_table.specs.declared.content.Endpoint.{Endpoint}
use Rattle.drv_table.specs.Accepting.{Offered}
use Rattle.drv_table.specs.Offers.{offered}
use Rattle.law_driver.proofs.lemmas.queued_drivers.CommandReasons.{reason_of}
use Rattle.law_scripts.proofs.lemmas.script_bytes.Texts.{a_text_spells_bytes}
use Rattle.law_world.specs.steps.receiving_runs.Runs.{KindOfLine}
use Rattle.law_world.specs.steps.Streaming.{wired}
use Rattle.law_world.specs.streams.put_laws.TakenLaws.{IsKeptWhile}
use Rattle.law_world.proofs.lemmas.memory.FittingTexts.{texts_open_fitting}
use Rattle.law_world.proofs.lemmas.memory.Texts.{texts_fit}
use Rattle.law_world.proofs.lemmas.memory.Together.{lines_fit}
use Rattle.law_world.proofs.lemmas.streams.lemmas.put_laws.Along.{holds_while}
use Rattle.bus_world.specs.Budgets.{moment}
use Rattle.bus_world.specs.World.{World, name_in, commanded_by}
use Rattle.law_reports.specs.pipes.Declared.{Sides, sides_of}
use Rattle.law_reports.specs.pipes.below_hubs.Behind.{Spots, HasBehind}
use Rattle.law_reports.specs.pipes.below_hubs.BehindLaws.{OpensSpot, spots_of}
use Rattle.law_reports.specs.pipes.below_hubs.DeafLaws.{IsUnheard, NamesNone, OpensNone, UnopenedHubsAreSpared}
use Rattle.law_reports.proofs.lemmas.pipes.Accepted.{EndsThen, one_more, one_anew, ends_then, was_anew}
use Rattle.law_reports.proofs.lemmas.pipes.Across.{WasIn}
use Rattle.law_reports.proofs.lemmas.pipes.DeclaredOpens.{texts_declare}
use Rattle.law_reports.proofs.lemmas.pipes.Driven.{was_end}
use Rattle.law_reports.proofs.lemmas.pipes.Moments.{lines_both}
use Rattle.law_reports.proofs.lemmas.pipes.lemmas.below_hubs.BehindMoments.{CanBeBehind, kinds_both, none_there, new_world_is_behind}
use Rattle.law_reports.proofs.lemmas.pipes.lemmas.below_hubs.BehindMoments.{controller_keeps_behind, driver_keeps_behind}
use Rattle.law_reports.proofs.lemmas.pipes.lemmas.below_hubs.BehindMoments.{command_keeps_behind}
use Rattle.law_reports.proofs.lemmas.pipes.lemmas.below_hubs.BelowTexts.{texts_open_spots}
use Rattle.law_reports.proofs.lemmas.pipes.lemmas.below_hubs.DeafHubs.{controlled_deaf}
use Rattle.law_reports.proofs.lemmas.pipes.lemmas.puts.PaidMoments.{CanBePaid, lines_paid}
use Rattle.law_reports.specs.pipes.below_hubs.BehindLaws.{WorldFindsNoneTold}
use Rattle.law_reports.proofs.lemmas.pipes.lemmas.below_hubs.FreshStarts.{texts_find_none_told}

record HasDeaf (fixed : Fixed) (x : Sides) (o : Spots) (a : ℕ) (puts : ℕ → List ℕ) (w : World) : Type 0 where
  behind : HasBehind fixed x o puts w
  none : NamesNone a w.driver
  hubs : AllByRecursion (IsUnheard a) (wired fixed w).bus.hubs

-- ---- a command

named_then : (a : ℕ) (w : World) (cmd : Cmd) → OpensNone a cmd → NamesNone a w.driver → (line : ℕ) (r : Result Offered OfferError)
    → offered w.driver w.memory cmd ≡ r → NamesNone a (commanded_by w line (name_in cmd) r).driver
named_then a w cmd one none line (Err why) is = none
named_then a w cmd one none line (Ok f) is = by cmd one (ends_then w.driver w.memory f cmd (reason_of w.driver w.memory cmd f is))
  where
    by : (c : Cmd) → OpensNone a c → EndsThen w.driver f.driver c → NamesNone a f.driver
    by c opens_it (one_more y asked added kept newest tells) e z here =
        ⊎_elim (λ (at : slice_get w.driver.endpoints e ≡ Some z). none e z at)
        (λ (own : (e ≡ length w.driver.endpoints) × (z ≡ y)).
        subst (λ (u : Endpoint). u.desc.name.addr ≡ a → u.desc.name.num ≡ 0 → ⊥) (sym own.1) (subst (OpensNone a) asked opens_it))
        (push_which w.driver.endpoints y e z (ap (λ (xs : List Endpoint). slice_get xs e) (sym added) ∙ here))
    by c opens_it (one_anew j y u at added comes kept never tells) e z here =
        let old : WasIn w.driver.endpoints e z =
        was_anew w.driver.endpoints j y u at comes e z (ap (λ (xs : List Endpoint). slice_get xs e) (sym added) ∙ here) in
        subst (λ (d : EpDesc). d.name.addr ≡ a → d.name.num ≡ 0 → ⊥) (sym old.comes.desc) (none e old.endpoint old.here)

-- ---- a run

abbrev CanBeDeaf : Sides → Spots → ℕ → Cmd → Type 0
CanBeDeaf x o a cmd = CanBeBehind x o cmd × OpensNone a cmd

new_deaf : (a : ℕ) (hs : List HubText) → AllByRecursion (IsUnheard a) (map Hubs.opening hs)
new_deaf a [] = tt
new_deaf a (h ∷ hs) = ((λ same. refl), new_deaf a hs)

is_kept : (s : Script) (a : ℕ) → IsKeptWhile (fixed_of s) (CanBeDeaf (sides_of s) (spots_of s) a)
    (λ w. WorldFindsNoneTold (wired (fixed_of s) w) w)
    (λ w puts. HasDeaf (fixed_of s) (sides_of s) (spots_of s) a puts w)
is_kept s a = record {
  driver = λ w puts k. record {
    behind = driver_keeps_behind (fixed_of s) (sides_of s) (spots_of s) puts w k.behind;
    none = λ e z here.
        let v : WasIn w.driver.endpoints e z =
        was_end (fixed_of s) (sides_of s) k.behind.standing k.behind.lines k.behind.heads w k.behind.piped e z here in
        subst (λ (d : EpDesc). d.name.addr ≡ a → d.name.num ≡ 0 → ⊥) (sym v.comes.desc) (k.none e v.endpoint v.here);
    hubs = k.hubs;
  };
  controller = λ w puts finds k. record {
    behind = controller_keeps_behind (fixed_of s) (sides_of s) (spots_of s) puts w finds k.behind;
    none = k.none;
    hubs = controlled_deaf (fixed_of s) (sides_of s) (spots_of s) k.behind.standing k.behind.lines k.behind.heads puts w k.behind.piped
        k.behind.pays k.behind.behind a k.none k.hubs;
  };
  command = λ w line cmd puts can room k. record {
    behind = command_keeps_behind (fixed_of s) (sides_of s) (spots_of s) puts w line cmd can.0.0.0.0 can.0.0.0.1 can.0.1 can.0.0.1 room
        k.behind;
    none = named_then a w cmd can.1 k.none line (offered w.driver w.memory cmd) refl;
    hubs = bus_same w line cmd (offered w.driver w.memory cmd) k.hubs;
  };
}
  where
    bus_same : (w : World) (line : ℕ) (cmd : Cmd) (r : Result Offered OfferError)
        → AllByRecursion (IsUnheard a) (wired (fixed_of s) w).bus.hubs
        → AllByRecursion (IsUnheard a) (wired (fixed_of s) (commanded_by w line (name_in cmd) r)).bus.hubs
    bus_same w line cmd (Ok f) all = all
    bus_same w line cmd (Err why) all = all

deaf_at : (text : List ℕ) (s : Script) (a : ℕ) → Spells text s → AllByRecursion (λ line. KindOfLine (OpensNone a) line.1) s.lines → (k : ℕ)
    → AllByRecursion (IsUnheard a) (moment s k).world.bus.hubs
deaf_at text s a spelled none k =
    let t = texts_open_spots text s spelled in
    let fits = lines_fit s.lines (texts_fit text s spelled) (texts_open_fitting text s spelled) in
    (holds_while (CanBeDeaf (sides_of s) (spots_of s) a) (λ w. WorldFindsNoneTold (wired (fixed_of s) w) w) (λ w puts. HasDeaf
    (fixed_of s) (sides_of s) (spots_of s) a puts w) s
    (spelled_fits text s spelled)
    (kinds_both (CanBeBehind (sides_of s) (spots_of s)) (OpensNone a) s.lines
    (kinds_both (CanBePaid (sides_of s)) (OpensSpot (spots_of s)) s.lines
    (lines_paid (sides_of s) s.lines (lines_both (sides_of s) s.lines (lines_can s.lines fits) (texts_declare text s spelled))
    (a_text_spells_bytes text s spelled).lines) t.0) none)
    (record {
      behind = new_world_is_behind s (spelled_fits text s spelled) (a_text_spells_bytes text s spelled) t.1;
      none = λ e y here. absurd (none_there s e y here);
      hubs = new_deaf a s.hubs;
    }) (is_kept s a) k (λ j low. texts_find_none_told text s spelled j)).hubs

unheard_spared : (x : EpDesc) (hubs : List HubContent) → ((a : ℕ) → x.hub ≡ Some a → AllByRecursion (IsUnheard a) hubs)
    → AllByRecursion (λ (h : HubContent). Some h.address ≡ x.hub → heard_clear h ≡ false) hubs
unheard_spared x [] all = tt
unheard_spared x (h ∷ hs) all = (
  λ at. ap (λ (o : Option (List ℕ)). option_map_or clears_translator o false) ((all h.address (sym at)).0 refl),
  unheard_spared x hs (λ a is. (all a is).1),
)

pub unopened_hubs_are_spared : UnopenedHubsAreSpared
unopened_hubs_are_spared text s x spelled none k =
    unheard_spared x (moment s k).world.bus.hubs (λ a is. deaf_at text s a spelled (none a is) k)
