-- So it is at each moment of the run of a script.
use Rattle.std.proofs.Common.{◌≡◌, ℕ, Bool, true, false, List, [], ◌∷◌, Option, Some, None, ap, sym, subst, ◌∙◌, refl}
use Rattle.std.specs.Prelude.{if◌then◌else◌}
use Rattle.law_controller.proofs.Common.{over_not_periodic}
use Rattle.script_types.specs.declared.scripts.Script.{Script}
use Rattle.script_fits.specs.Fits.{IsFit}
use Rattle.law_scripts.specs.byte_answers.Bytes.{IsByteScript}
use Rattle.periodic_walk.specs.declared.state.Hand.{Hand}
use Rattle.periodic_walk.specs.declared.chain.ChainRow.{ChainRow}
use Rattle.hc_core.specs.declared.controller.ControllerRow.{ControllerRow}
use Rattle.hc_core.specs.declared.controller.ControllerRow.TheVariants as rows
use Rattle.hc_core.specs.declared.controller.HcStep.{HcStep}
use Rattle.hc_core.specs.Controller.{Content}
use Rattle.periodic_walk.specs.Chain.{chain_row}
use Rattle.bus_wire.specs.Bus.{Fixed, fixed_of}
use Rattle.bus_world.specs.World.{World, controller_row, controller_parts, kind_next, controller_next}
use Rattle.bus_world.specs.Opening.{opening_world}
use Rattle.bus_world.specs.Budgets.{moment}
use Rattle.bus_world.proofs.Budgeted.{script_admits}
use Rattle.claims_world.specs.Memory.{AreOnce}
use Rattle.law_world.specs.memory.PlacedLaws.{FitsMixed}
use Rattle.claims_world.specs.Visits.{fetched_by, visited_too, visits_at, visits_after, visits_next, visited}
use Rattle.law_microframes.specs.visits.Visited.{IsVisiting}
use Rattle.law_microframes.specs.visits.Belonging.{HeadsHaveFields}
use Rattle.law_microframes.specs.visits.DescriptorFields.{ItdsStand}
use Rattle.law_microframes.specs.visits.InFrames.{AreInTheirFrames}
use Rattle.law_microframes.specs.visits.OneDescriptor.{AreServed}
use Rattle.claims_world.specs.Carried.{carried}
use Rattle.law_microframes.specs.visits.Began.{began_by, began}
use Rattle.law_microframes.proofs.lemmas.visits.ActiveFrames.{scripts_go_on_in_frame}
use Rattle.law_microframes.proofs.lemmas.visits.AheadMoments.{scripts_go_on_to_old, began_is_mixed}
use Rattle.law_microframes.proofs.lemmas.visits.InFramesMoments.{in_their_frames}
use Rattle.law_microframes.proofs.lemmas.visits.VisitsKept.{scripts_visit}
use Rattle.law_microframes.proofs.lemmas.visits.VisitControlling.{controller_keeps_visiting}
use Rattle.law_world.proofs.lemmas.memory.Carrying.{KeepsCarried, carrying, both, both_carried}
use Rattle.law_microframes.proofs.lemmas.visits.BelongMoments.{scripts_keep_fields}
use Rattle.law_microframes.proofs.lemmas.visits.BelongItdMoments.{scripts_keep_itds}
use Rattle.law_microframes.proofs.lemmas.visits.OneDescriptorMoments.{each_moment_has_one_active}
use Rattle.law_microframes.specs.time.DataQueues.{ReadsData}
use Rattle.claims_world.specs.FrameHeads.{AreAllowed}
use Rattle.claims_world.specs.Prices.{cost_of}
use Rattle.claims_world.specs.WithinLoad.{is_again, begun_too, paid_more, payments_at, payments_after, payments_next, payments}
use Rattle.law_microframes.specs.time.Payments.{names_in}
use Rattle.law_microframes.specs.time.SitdFields.{SitdsStand, SlotsFit}
use Rattle.law_microframes.specs.time.PaymentLaws.{HasPeriodics, ArePaid, IsWithin, GoesOnPaying, ScriptsPayWithinLoad}
use Rattle.law_microframes.proofs.lemmas.time.DataHeads.{scripts_read_data}
use Rattle.law_microframes.proofs.lemmas.time.PaymentEvents.{controller_keeps_paying, driver_keeps_paying, command_keeps_paying}
use Rattle.law_microframes.proofs.lemmas.time.PaymentSums.{within_load}
use Rattle.law_microframes.proofs.lemmas.time.PaymentOpens.{scripts_have_periodics}
use Rattle.law_microframes.proofs.lemmas.time.SitdMoments.{scripts_keep_sitds}
use Rattle.law_microframes.proofs.lemmas.time.SplitMasked.{scripts_keep_allowed}

-- ---- payments are those of the visits

more_names : (n : ℕ) (ps : List (ℕ × ℕ)) → names_in (paid_more n ps) ≡ names_in ps
more_names n [] = refl
more_names n (x ∷ ps) = refl

too_names : (o : Option ℕ) (ps : List (ℕ × ℕ)) → names_in (begun_too o ps) ≡ visited_too o (names_in ps)
too_names None ps = refl
too_names (Some a) ps = refl

or_names : (again : Bool) (n : ℕ) (ps : List (ℕ × ℕ)) → names_in (if again then ps else paid_more n ps) ≡ names_in ps
or_names true n ps = refl
or_names false n ps = more_names n ps

at_names : (o : Option Hand) (row : ChainRow) (step : HcStep) (ps : List (ℕ × ℕ))
    → names_in (payments_at o row step ps) ≡ visits_at o row (names_in ps)
at_names None row step ps = too_names (fetched_by row) ps
at_names (Some hand) row step ps = or_names (is_again hand) (cost_of step hand) ps

after_names : (row : ControllerRow) (step : HcStep) (c : Content) (ps : List (ℕ × ℕ))
    → names_in (payments_after row step c ps) ≡ visits_after row c (names_in ps)
after_names rows.Frame step c ps = at_names c.control.frame.hand (chain_row c.memory c.control.frame.cursor) step ps
after_names _ step c ps = refl

pub payments_are_of_visits : (s : Script) (k : ℕ) → names_in (payments s k) ≡ visited s k
payments_are_of_visits s k =
    subst (λ (z : List (ℕ × ℕ) × List ℕ). names_in z.0 ≡ z.1) (both_carried payments_next visits_next s [] [] k)
    (carrying (both payments_next visits_next) (λ w orders z. Unit {0}) (λ w z. names_in z.0 ≡ z.1) s ([], [])
    (record {
      controller = λ w orders z known same.
          after_names (controller_row w) (kind_next w) (controller_parts w) z.0
          ∙ ap (λ (vs : List ℕ). visits_after (controller_row w) (controller_parts w) vs) same;
      driver = λ w orders z known same. same;
      command = λ w n cmd rest z known same. same;
    })
    (λ j. tt) refl k)

-- ---- along a run

-- what holds at a moment
pub record HoldsAt (b w : World) (vs : List ℕ) : Type 0 where
  pub visiting : IsVisiting b w vs
  pub heads : HeadsHaveFields w.driver w.memory
  pub itds : ItdsStand w.driver w.memory
  pub sitds : SitdsStand w.driver w.memory w.control
  pub served : AreServed w.driver w.memory
  pub periodics : HasPeriodics w.driver
  pub allowed : AreAllowed w.driver
  pub reads : ReadsData w
  pub within : IsWithin b w

abbrev pub ArePaidIn : World → World → List (ℕ × ℕ) → Type 0
ArePaidIn b w ps = ArePaid b w.driver w.registers.frame_index w.control ps

going : (b w : World) (ps : List (ℕ × ℕ)) → HoldsAt b w (names_in ps) → ArePaidIn b w ps → GoesOnPaying b w ps
going b w ps h k = record {
  visiting = h.visiting;
  heads = h.heads;
  itds = h.itds;
  sitds = h.sitds;
  served = h.served;
  periodics = h.periodics;
  allowed = h.allowed;
  reads = h.reads;
  within = h.within;
  paid =
      k;
}

module _ (fixed : Fixed) where
  in_frames_then : (b w : World) (vs : List ℕ) → IsVisiting b w vs → AreInTheirFrames (controller_next fixed w) (visits_after (controller_row w) (controller_parts w) vs)
  in_frames_then b w vs h =
      in_their_frames (began_by fixed w b) (controller_next fixed w) (visits_after (controller_row w) (controller_parts w) vs) (controller_keeps_visiting fixed b w vs h)

  keeps_paying : KeepsCarried (both began_by payments_next) fixed (λ w orders z. HoldsAt z.0 w (names_in z.1)) (λ w z. ArePaidIn z.0 w z.1)
  keeps_paying = record {
    controller = λ w orders z h paid. controller_keeps_paying fixed z.0 w z.1 (going z.0 w z.1 h paid) (in_frames_then z.0 w (names_in z.1) h.visiting);
    driver = λ w orders z h paid. driver_keeps_paying z.0 w z.1 (going z.0 w z.1 h paid);
    command = λ w n cmd rest z h paid. command_keeps_paying z.0 w n cmd z.1 (going z.0 w z.1 h paid);
  }

pub pays_within : (s : Script) → ((k : ℕ) → HoldsAt (began s k) (moment s k).world (visited s k)) → (k : ℕ) → ArePaidIn (began s k) (moment s k).world (payments s k)
pays_within s holds k =
    let both_are : (j : ℕ) → carried (both began_by payments_next) s (opening_world s, []) j ≡ (began s j, payments s j) = both_carried began_by payments_next s (opening_world s) [] in
    subst (λ (z : World × List (ℕ × ℕ)). ArePaidIn z.0 (moment s k).world z.1) (both_are k)
    (carrying (both began_by payments_next) (λ w orders z. HoldsAt z.0 w (names_in z.1)) (λ w z. ArePaidIn z.0 w z.1) s (opening_world s, []) (keeps_paying (fixed_of s))
    (λ j.
    subst (λ (z : World × List (ℕ × ℕ)). HoldsAt z.0 (moment s j).world (names_in z.1)) (sym (both_are j))
    (subst (λ (vs : List ℕ). HoldsAt (began s j) (moment s j).world vs) (sym (payments_are_of_visits s j)) (holds j)))
    (record { entries = tt; hand = λ on. absurd (over_not_periodic on) }) k)

pub scripts_are_paid : (s : Script) → IsFit s → IsByteScript s → FitsMixed s → SlotsFit s → (k : ℕ)
    → ArePaidIn (began s k) (moment s k).world (payments s k)
scripts_are_paid s fit bytes opens slots k =
    pays_within s
    (λ j.
    record {
      visiting = scripts_visit s fit bytes opens j;
      heads = scripts_keep_fields s fit bytes opens j;
      itds = scripts_keep_itds s fit bytes opens j;
      sitds = scripts_keep_sitds s fit bytes opens slots j;
      served = (each_moment_has_one_active s fit bytes opens j).one.served;
      periodics = scripts_have_periodics s fit bytes opens j;
      allowed = scripts_keep_allowed s fit j;
      reads = scripts_read_data s fit bytes opens j;
      within = record { began = began_is_mixed s fit bytes opens j; old = scripts_go_on_to_old s fit bytes opens j; in_frame = scripts_go_on_in_frame s fit bytes opens j };
    }) k

pub scripts_pay_within_load : ScriptsPayWithinLoad
scripts_pay_within_load s fit bytes opens slots k =
    let visiting : IsVisiting (began s k) (moment s k).world (visited s k) = scripts_visit s fit bytes opens k in
    within_load (began s k) (moment s k).world (payments s k) (began_is_mixed s fit bytes opens k) (script_admits s fit k).fits
    (subst AreOnce (sym (payments_are_of_visits s k)) visiting.visits.behind.once)
    (scripts_are_paid s fit bytes opens slots k)
