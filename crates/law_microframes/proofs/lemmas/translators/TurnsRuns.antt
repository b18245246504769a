-- At each moment of the run of a script that a text spells the translators hold what they hold, and it goes on so with the isochronous OUTs
-- below hubs: each of the two is kept by the other. So the parts of an OUT come in turn.
use Rattle.std.proofs.Common.{◌≡◌, ℕ, zero, suc, ◌%◌, List, [], ◌∷◌, refl, ap, sym, subst, ◌∙◌}
use Rattle.usb_base.specs.declared.commands.Cmd.{Cmd}
use Rattle.usb_base.specs.declared.packets.DataPart.TheVariants as parts
use Rattle.script_types.specs.declared.scripts.Event.{Event}
use Rattle.script_types.specs.declared.scripts.Event.TheVariants as events
use Rattle.script_types.specs.declared.scripts.Script.{Script}
use Rattle.script_text.specs.Faults.{Spells}
use Rattle.script_fits.proofs.Texts.{spelled_fits}
use Rattle.law_scripts.proofs.lemmas.script_bytes.Texts.{a_text_spells_bytes}
use Rattle.hub_keys.specs.Keys.{key_of}
use Rattle.hub_keys.specs.declared.key.Key.{Key}
use Rattle.hc_iso.specs.declared.held.IsoTransaction.{IsoTransaction}
use Rattle.hc_iso.specs.Sitd.{sitd_transaction}
use Rattle.tt_pipeline.specs.Work.{asked_part}
use Rattle.hc_core.specs.declared.controller.ControllerRow.{ControllerRow}
use Rattle.hc_core.specs.declared.controller.ControllerRow.TheVariants as rows
use Rattle.bus_wire.specs.Bus.{Fixed, fixed_of}
use Rattle.bus_world.specs.World.{World, controller_parts, controller_row, controller_next, driver_next, next, commanded}
use Rattle.bus_world.specs.Opening.{opening_world}
use Rattle.bus_world.specs.Orders.{Left, Events, Microframes, Answer, Command, Plugs, OrderedWorld, at_place, orders_of, tick, tick_by, tick_at, ticks}
use Rattle.bus_world.specs.Budgets.{moment}
use Rattle.claims_world.specs.Carried.{carried_next, carried_by, carried_in, carried_from, carried}
use Rattle.claims_world.specs.Visits.{visits_next, visits_after, visited}
use Rattle.law_world.proofs.lemmas.memory.Carrying.{both, both_carried}
use Rattle.law_world.proofs.lemmas.memory.FittingTexts.{texts_open_fitting}
use Rattle.law_world.proofs.lemmas.memory.Texts.{texts_fit}
use Rattle.law_translator.specs.Frames.{Frame}
use Rattle.law_translator.proofs.KeepsStuffed.{HoldsStuffed}
use Rattle.law_translator.specs.hub_plans.HubPlans.{AreKeysApart}
use Rattle.claims_world.specs.HubPlans.{placed_below, key_at, plans_now}
use Rattle.law_microframes.specs.plans.Plans.{HubPlansFitIn}
use Rattle.law_microframes.specs.translators.Parts.{EachOf, Lacks, IsEven}
use Rattle.law_microframes.specs.translators.Keeping.{IsOwned, SitdsFollow, PartsAreLacked, WorldKeeps, IsKnown}
use Rattle.claims_world.specs.Gaps.{gaps_next, no_gaps, gaps}
use Rattle.law_microframes.specs.translators.Turns.{pipeline_for, OutsGoOn}
use Rattle.law_microframes.specs.translators.Watching.{StartFollows}
use Rattle.claims_world.specs.Pipelines.{StuffsAtMost}
use Rattle.law_microframes.specs.visits.Began.{began_at, began_by, began}
use Rattle.law_microframes.proofs.lemmas.plans.Apart.{scripts_name_apart}
use Rattle.law_microframes.proofs.lemmas.plans.Keys.{texts_plan_hubs}
use Rattle.law_microframes.proofs.lemmas.visits.ActiveFrames.{scripts_go_on_in_frame}
use Rattle.law_microframes.proofs.lemmas.visits.AheadMoments.{scripts_go_on_to_old, began_is_mixed}
use Rattle.law_microframes.proofs.lemmas.visits.BelongItdMoments.{scripts_keep_itds}
use Rattle.law_microframes.proofs.lemmas.visits.BelongMoments.{scripts_keep_fields}
use Rattle.law_microframes.proofs.lemmas.visits.OneDescriptorMoments.{each_moment_has_one_active}
use Rattle.law_microframes.proofs.lemmas.visits.VisitTexts.{lines_fit}
use Rattle.law_microframes.proofs.lemmas.visits.VisitsKept.{scripts_visit}
use Rattle.law_microframes.proofs.lemmas.time.DataHeads.{scripts_read_data}
use Rattle.law_microframes.proofs.lemmas.time.PaymentOpens.{scripts_have_periodics}
use Rattle.law_microframes.proofs.lemmas.time.SitdMoments.{scripts_keep_sitds}
use Rattle.law_microframes.proofs.lemmas.time.SlotTexts.{texts_fit_slots}
use Rattle.law_microframes.proofs.lemmas.time.SplitMasked.{scripts_keep_allowed}
use Rattle.law_microframes.proofs.lemmas.translators.FrameIndex.{scripts_have_index}
use Rattle.law_microframes.proofs.lemmas.translators.Kept.{Any, stuffed_kept}
use Rattle.law_microframes.proofs.lemmas.translators.SitdFollowing.{sitds_follow}
use Rattle.law_microframes.proofs.lemmas.translators.SitdStarts.{out_ask, out_transaction}
use Rattle.law_microframes.proofs.lemmas.translators.Starting.{moment_apart, moment_known}
use Rattle.law_microframes.proofs.lemmas.translators.StuffTexts.{texts_have_few_stuffed_bits}
use Rattle.law_microframes.proofs.lemmas.translators.Turns.{outs_are_lacked}
use Rattle.law_microframes.proofs.lemmas.translators.TurnsBegin.{begin_keeps_outs}
use Rattle.law_microframes.proofs.lemmas.translators.TurnsCommands.{command_keeps_outs}
use Rattle.law_microframes.proofs.lemmas.translators.TurnsDriven.{driver_keeps_outs}
use Rattle.law_microframes.proofs.lemmas.translators.TurnsEnds.{new_outs_go_on, end_keeps_outs, idle_keeps_outs}
use Rattle.law_microframes.proofs.lemmas.translators.TurnsFirst.{firsts_lack}
use Rattle.law_microframes.proofs.lemmas.translators.TurnsFrame.{FirstsLack, IsSet}
use Rattle.law_microframes.proofs.lemmas.translators.TurnsHeld.{frame_goes_on}
use Rattle.law_microframes.proofs.lemmas.translators.TurnsRing.{ring_goes_on}
use Rattle.law_microframes.proofs.lemmas.translators.Watching.{IsKept}
use Rattle.law_microframes.proofs.lemmas.translators.Worlds.{controller_keeps_up, driver_keeps_up, command_keeps_up, plans_open}

-- what is known at a moment
record IsAtMoment (start w : World) (vs : List ℕ) : Type 0 where
  set : IsSet start w vs
  fit : HubPlansFitIn w.driver
  apart : (hub port f : ℕ) → AreKeysApart (key_at w.driver) (placed_below hub port f w.driver.periodic.plan.placed)
  known : PartsAreLacked w → IsKnown w
  sitds : PartsAreLacked w → SitdsFollow w

-- what is kept
record HoldsBoth (H : Frame → Type 0) (start w : World) (vs : List ℕ) (g : ℕ → ℕ → Key → ℕ) : Type 0 where
  keeps : WorldKeeps H w g
  outs : OutsGoOn start w vs

module _ (most : ℕ) (H : Frame → Type 0) (is : IsKept most Any H) (fixed : Fixed) (few : StuffsAtMost most fixed) where
  module _ (start w : World) (vs : List ℕ) (g : ℕ → ℕ → Key → ℕ) (m : IsAtMoment start w vs) (b : HoldsBoth H start w vs g) where
    lacked : PartsAreLacked w
    lacked = outs_are_lacked start w vs m.set.holds.within.began m.set.names b.outs

    firsts : FirstsLack w
    firsts h on held unset work way first even =
        let out = out_transaction h.sitd way in
        let begins = ap (λ (z : IsoTransaction). asked_part z.ask) (sym out) ∙ first in
        subst (λ (z : IsoTransaction). EachOf Lacks (key_of z.ask) (pipeline_for w.bus.hubs h.sitd.hub h.sitd.port)) (sym out)
        (firsts_lack most H is w g b.keeps (out_ask h.sitd) (sitd_transaction h.sitd).bytes h.sitd.hub h.sitd.port _ refl refl
        (subst (λ (z : IsoTransaction). StartFollows (IsOwned w.driver w.registers.frame_index) (plans_now w.driver w.registers.frame_index)
        (w.registers.frame_index % 8) w.bus.hubs z.ask (sitd_transaction h.sitd).bytes) out (m.sitds lacked h on held unset work))
        begins
        (subst (λ (z : IsoTransaction). EachOf IsEven (key_of z.ask) (pipeline_for w.bus.hubs h.sitd.hub h.sitd.port)) out even))

    controller_outs : (r : ControllerRow) → controller_row w ≡ r
        → OutsGoOn (began_at r w start) (controller_next fixed w) (visits_after r (controller_parts w) vs)
    controller_outs rows.Idle row = idle_keeps_outs fixed start w vs row b.outs
    controller_outs rows.Begin row = begin_keeps_outs fixed start w vs row b.outs
    controller_outs rows.Frame row =
        subst (λ (x : ControllerRow). OutsGoOn start (controller_next fixed w) (visits_after x (controller_parts w) vs)) row
        (frame_goes_on fixed start w vs m.set b.outs firsts row)
    controller_outs rows.Enter row =
        subst (λ (x : ControllerRow). OutsGoOn start (controller_next fixed w) (visits_after x (controller_parts w) vs)) row
        (ring_goes_on fixed start w vs m.set.once.mixed b.outs rows.Enter tt row)
    controller_outs rows.Go row =
        subst (λ (x : ControllerRow). OutsGoOn start (controller_next fixed w) (visits_after x (controller_parts w) vs)) row
        (ring_goes_on fixed start w vs m.set.once.mixed b.outs rows.Go tt row)
    controller_outs rows.End row = end_keeps_outs fixed start w vs m.set.once.mixed row b.outs

    controller_both : HoldsBoth H (began_by fixed w start) (controller_next fixed w) (visits_next fixed w vs) (gaps_next fixed w g)
    controller_both = record {
      keeps = controller_keeps_up most H is fixed few w (m.known lacked) g b.keeps;
      outs = controller_outs (controller_row w) refl;
    }

    driver_both : HubPlansFitIn (driver_next w).driver
        → ((hub port f : ℕ) → AreKeysApart (key_at (driver_next w).driver) (placed_below hub port f (driver_next w).driver.periodic.plan.placed))
        → HoldsBoth H start (driver_next w) vs g
    driver_both fit apart = record {
      keeps = driver_keeps_up most H is fixed few w g (m.known lacked) fit apart b.keeps;
      outs = driver_keeps_outs start w vs m.set.once.mixed m.set.holds.sitds b.outs;
    }

    command_both : (line : ℕ) (cmd : Cmd) → HubPlansFitIn (commanded w line cmd).driver
        → ((hub port f : ℕ) → AreKeysApart (key_at (commanded w line cmd).driver)
        (placed_below hub port f (commanded w line cmd).driver.periodic.plan.placed))
        → HoldsBoth H start (commanded w line cmd) vs g
    command_both line cmd fit apart = record {
      keeps = command_keeps_up most H is fixed few w line cmd g (m.known lacked) fit apart b.keeps;
      outs = command_keeps_outs start w line cmd vs m.set.once.mixed b.outs;
    }

  -- ---- a run

  abbrev Carried : Type 0
  Carried = (World × List ℕ) × (ℕ → ℕ → Key → ℕ)

  abbrev all_next : Fixed → World → (World × List ℕ) × (ℕ → ℕ → Key → ℕ) → (World × List ℕ) × (ℕ → ℕ → Key → ℕ)
  all_next = both (both began_by visits_next) gaps_next

  abbrev Known : World → (World × List ℕ) × (ℕ → ℕ → Key → ℕ) → Type 0
  Known w z = IsAtMoment z.0.0 w z.0.1

  abbrev Both : World → (World × List ℕ) × (ℕ → ℕ → Key → ℕ) → Type 0
  Both w z = HoldsBoth H z.0.0 w z.0.1 z.1

  next_both : (w : World) (event : Event) (z : (World × List ℕ) × (ℕ → ℕ → Key → ℕ)) → Known w z
      → Known (next fixed w event) (carried_next all_next fixed w event z) → Both w z
      → Both (next fixed w event) (carried_next all_next fixed w event z)
  next_both w events.D z known later b = driver_both z.0.0 w z.0.1 z.1 known b later.fit later.apart
  next_both w events.C z known later b = controller_both z.0.0 w z.0.1 z.1 known b

  by_both : (w : World) (order : Left) (rest : List Left) (z : (World × List ℕ) × (ℕ → ℕ → Key → ℕ)) → Known w z
      → Known (tick_by fixed w order rest).world (carried_by all_next fixed w order z) → Both w z
      → Both (tick_by fixed w order rest).world (carried_by all_next fixed w order z)
  by_both w (Events event zero) rest z known later b = b
  by_both w (Events event (suc n)) rest z known later b = next_both w event z known later b
  by_both w (Microframes zero) rest z known later b = b
  by_both w (Microframes (suc n)) rest z known later b = next_both w events.C z known later b
  by_both w (Answer ended n) rest z known later b = next_both w events.D z known later b
  by_both w (Command n cmd) rest z known later b = command_both z.0.0 w z.0.1 z.1 known b n cmd later.fit later.apart
  by_both w (Plugs there port) rest z known later b = b

  in_both : (w : World) (orders : List Left) (z : (World × List ℕ) × (ℕ → ℕ → Key → ℕ)) → Known w z
      → Known (tick_at fixed w orders).world (carried_in all_next fixed w orders z) → Both w z
      → Both (tick_at fixed w orders).world (carried_in all_next fixed w orders z)
  in_both w [] z known later b = b
  in_both w (order ∷ rest) z known later b = by_both w order rest z known later b

  from_both : (p : OrderedWorld) (z : (World × List ℕ) × (ℕ → ℕ → Key → ℕ)) (k : ℕ)
      → ((j : ℕ) → Known (ticks fixed p j).world (carried_from all_next fixed p z j)) → Both p.world z
      → Both (ticks fixed p k).world (carried_from all_next fixed p z k)
  unfolding ticks carried_from
  from_both p z zero knows b = b
  from_both p z (suc k) knows b =
      from_both (tick fixed p) (carried_in all_next fixed p.world p.orders z) k (λ j. knows (suc j))
      (in_both p.world p.orders z (knows 0) (knows 1) b)

-- ---- a script that a text spells

module _ (text : List ℕ) (s : Script) (spelled : Spells text s) where
  set_at : (k : ℕ) → IsSet (began s k) (moment s k).world (visited s k)
  set_at k =
      let fit = spelled_fits text s spelled in
      let bytes = a_text_spells_bytes text s spelled in
      let opens = lines_fit s.lines (texts_fit text s spelled) (texts_open_fitting text s spelled) in
      record {
        holds = record {
          visiting = scripts_visit s fit bytes opens k;
          heads = scripts_keep_fields s fit bytes opens k;
          itds = scripts_keep_itds s fit bytes opens k;
          sitds = scripts_keep_sitds s fit bytes opens (texts_fit_slots text s spelled) k;
          served = (each_moment_has_one_active s fit bytes opens k).one.served;
          periodics = scripts_have_periodics s fit bytes opens k;
          allowed = scripts_keep_allowed s fit k;
          reads = scripts_read_data s fit bytes opens k;
          within = record {
            began = began_is_mixed s fit bytes opens k;
            old = scripts_go_on_to_old s fit bytes opens k;
            in_frame = scripts_go_on_in_frame s fit bytes opens k;
          };
        };
        once = each_moment_has_one_active s fit bytes opens k;
        names = scripts_name_apart s fit k;
        index = scripts_have_index s fit k;
      }

  at_moment : (k : ℕ) → IsAtMoment (began s k) (moment s k).world (visited s k)
  at_moment k = record {
    set = set_at k;
    fit = texts_plan_hubs text s spelled k;
    apart = moment_apart text s spelled k;
    known = λ lacked. moment_known text s spelled k (sitds_follow text s spelled k lacked);
    sitds = sitds_follow text s spelled k;
  }

  abbrev first : (World × List ℕ) × (ℕ → ℕ → Key → ℕ)
  first = ((opening_world s, []), no_gaps)

  all_carried : (k : ℕ) → carried (both (both began_by visits_next) gaps_next) s ((opening_world s, []), no_gaps) k
      ≡ ((began s k, visited s k), gaps s k)
  all_carried k =
      both_carried (both began_by visits_next) gaps_next s (opening_world s, []) no_gaps k
      ∙ ap (λ (z : World × List ℕ). (z, gaps s k)) (both_carried began_by visits_next s (opening_world s) [] k)

  first_fit : HubPlansFitIn (opening_world s).driver
  unfolding ticks
  first_fit = texts_plan_hubs text s spelled 0

  both_hold : (k : ℕ) → HoldsBoth HoldsStuffed (began s k) (moment s k).world (visited s k) (gaps s k)
  both_hold k =
      subst (λ (z : (World × List ℕ) × (ℕ → ℕ → Key → ℕ)). HoldsBoth HoldsStuffed z.0.0 (moment s k).world z.0.1 z.1) (all_carried k)
      (from_both 6 HoldsStuffed stuffed_kept (fixed_of s) (texts_have_few_stuffed_bits text s spelled) (at_place (opening_world s) (orders_of s.lines)) first k
      (λ j. subst (λ (z : (World × List ℕ) × (ℕ → ℕ → Key → ℕ)). IsAtMoment z.0.0 (moment s j).world z.0.1) (sym (all_carried j)) (at_moment j))
      (record { keeps = plans_open 6 HoldsStuffed stuffed_kept s first_fit; outs = new_outs_go_on s }))

  pub texts_lack : (k : ℕ) → PartsAreLacked (moment s k).world
  texts_lack k =
      let set = set_at k in
      outs_are_lacked (began s k) (moment s k).world (visited s k) set.holds.within.began set.names (both_hold k).outs

  pub texts_hold : (k : ℕ) → WorldKeeps HoldsStuffed (moment s k).world (gaps s k)
  texts_hold k = (both_hold k).keeps
