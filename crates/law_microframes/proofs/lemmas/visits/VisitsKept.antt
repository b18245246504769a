-- Each event of the driver and each command goes on with the visits; so in no run is a structure visited twice in a microframe.
use Rattle.drv_table.specs.Rows.{driver_row}
use Rattle.std.proofs.Common.{ℕ, ◌⊎◌, List, [], ⊎_elim, subst, refl}
use Rattle.law_microframes.proofs.Common.{in_list}
use Rattle.script_fits.proofs.Texts.{spelled_fits}
use Rattle.law_scripts.proofs.lemmas.script_bytes.Texts.{a_text_spells_bytes}
use Rattle.bus_wire.specs.Bus.{Fixed, fixed_of}
use Rattle.bus_world.specs.World.{World, driver_parts}
use Rattle.bus_world.specs.Opening.{opening_world}
use Rattle.bus_world.specs.Budgets.{moment}
use Rattle.law_world.specs.memory.Mixed.{Standing}
use Rattle.law_world.proofs.lemmas.memory.CommandKeeping.{command_keeps_mixed}
use Rattle.law_world.proofs.lemmas.memory.Driving.{driver_keeps_mixed}
use Rattle.law_world.proofs.lemmas.memory.Texts.{texts_fit}
use Rattle.law_world.proofs.lemmas.memory.FittingTexts.{texts_open_fitting}
use Rattle.law_microframes.specs.visits.Began.{began_by, began}
use Rattle.claims_world.specs.Visits.{visits_next, visited, frame_in, HasVisited}
use Rattle.law_microframes.specs.visits.Coverage.{TextsVisitEach}
use Rattle.law_microframes.specs.visits.Visited.{IsToCome, IsVisiting}
use Rattle.law_microframes.specs.visits.VisitLaws.{DriverKeepsVisiting, CommandKeepsVisiting, ScriptsVisit, TextsVisitEachOnce}
use Rattle.law_microframes.proofs.lemmas.visits.CommandVisits.{command_leaves_visits}
use Rattle.law_microframes.proofs.lemmas.visits.DriverTogether.{each_row_keeps_visiting}
use Rattle.law_microframes.proofs.lemmas.visits.NoneLeft.{none_to_come}
use Rattle.law_microframes.proofs.lemmas.visits.NoneLeftWorlds.{in_chain_stands}
use Rattle.law_microframes.proofs.lemmas.visits.VisitMeeting.{visits_meet_now}
use Rattle.law_microframes.proofs.lemmas.visits.VisitOpening.{new_is_visiting}
use Rattle.law_microframes.proofs.lemmas.visits.VisitControlling.{controller_keeps_visiting}
use Rattle.law_microframes.proofs.lemmas.visits.VisitMoments.{visits_apart}
use Rattle.law_microframes.proofs.lemmas.visits.VisitTexts.{lines_fit}
use Rattle.law_world.proofs.lemmas.memory.Carrying.{KeepsCarried, carrying, both, both_carried, NextIsOffered, next_is_offered}

pub driver_keeps_visiting : DriverKeepsVisiting
driver_keeps_visiting start w vs k =
    let s : Standing = k.mixed.standing in
    record {
      mixed = driver_keeps_mixed w k.mixed;
      visits = (each_row_keeps_visiting (driver_row (driver_parts w)) s start w vs k.mixed.mixed
          (visits_meet_now s start w vs k.mixed.mixed k.visits) refl).visits;
    }

pub command_keeps_visiting : CommandKeepsVisiting
command_keeps_visiting start w line cmd vs fits room k =
    let s : Standing = k.mixed.standing in
    record {
      mixed = command_keeps_mixed w line cmd fits room k.mixed;
      visits = (command_leaves_visits s start w line cmd vs room k.mixed.mixed (visits_meet_now s start w vs k.mixed.mixed k.visits)).visits;
    }

is_kept : (fixed : Fixed) → KeepsCarried (both began_by visits_next) fixed (λ w orders z. NextIsOffered w orders) (λ w z. IsVisiting z.0 w z.1)
is_kept fixed = record {
  controller = λ w orders z known k. controller_keeps_visiting fixed z.0 w z.1 k;
  driver = λ w orders z known k. driver_keeps_visiting z.0 w z.1 k;
  command = λ w n cmd rest z known k. command_keeps_visiting z.0 w n cmd z.1 known.0 known.1 k;
}

pub scripts_visit : ScriptsVisit
scripts_visit s fit bytes opens k =
    subst (λ (z : World × List ℕ). IsVisiting z.0 (moment s k).world z.1) (both_carried began_by visits_next s (opening_world s) [] k)
    (carrying (both began_by visits_next) (λ w orders z. NextIsOffered w orders) (λ w z. IsVisiting z.0 w z.1) s (opening_world s, []) (is_kept (fixed_of s)) (next_is_offered s fit opens) (new_is_visiting s fit bytes) k)

pub texts_visit_each : TextsVisitEach
texts_visit_each text s spelled k n past led now =
    let w : World = (moment s k).world in
    let h : IsVisiting (began s k) (moment s k).world (visited s k)
    = scripts_visit s (spelled_fits text s spelled) (a_text_spells_bytes text s spelled)
    (lines_fit s.lines (texts_fit text s spelled) (texts_open_fitting text s spelled)) k in
    let f : ℕ = frame_in (moment s k).world.control.frame.index in
    ⊎_elim {C = HasVisited n (visited s k)} (λ (seen : HasVisited n (visited s k)). seen)
    (λ (t : IsToCome (moment s k).world.memory (moment s k).world.control n).
    absurd (none_to_come (moment s k).world.memory (moment s k).world.control n (past t.periodic) t))
    (h.visits.none.each n led
    (in_chain_stands h.mixed.standing (moment s k).world (frame_in (moment s k).world.control.frame.index) n h.mixed.mixed
    (in_list (moment s k).world.control.frame.index) now))

pub texts_visit_each_once : TextsVisitEachOnce
texts_visit_each_once text s spelled k =
    visits_apart (began s k) (moment s k).world (visited s k)
    (scripts_visit s (spelled_fits text s spelled) (a_text_spells_bytes text s spelled) (lines_fit s.lines (texts_fit text s spelled) (texts_open_fitting text s spelled)) k)
