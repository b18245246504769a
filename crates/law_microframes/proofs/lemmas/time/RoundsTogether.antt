-- Each event of the driver and each command goes on with the rounds, and leaves nothing of the world out of place; so in no round of a run is a queue head visited twice.
use Rattle.std.proofs.Common.{[], refl}
use Rattle.drv_table.specs.Rows.{driver_row}
use Rattle.script_fits.proofs.Texts.{spelled_fits}
use Rattle.law_scripts.proofs.lemmas.script_bytes.Texts.{a_text_spells_bytes}
use Rattle.bus_wire.specs.Bus.{Fixed, fixed_of}
use Rattle.bus_world.specs.World.{driver_parts}
use Rattle.bus_world.specs.Budgets.{moment}
use Rattle.law_world.specs.memory.Mixed.{Standing}
use Rattle.law_world.proofs.lemmas.memory.CommandKeeping.{command_keeps_mixed}
use Rattle.law_world.proofs.lemmas.memory.Driving.{driver_keeps_mixed}
use Rattle.law_world.proofs.lemmas.memory.Texts.{texts_fit}
use Rattle.law_world.proofs.lemmas.memory.FittingTexts.{texts_open_fitting}
use Rattle.law_microframes.proofs.lemmas.visits.VisitTexts.{lines_fit}
use Rattle.law_world.proofs.lemmas.memory.Carrying.{KeepsCarried, carrying, NextIsOffered, next_is_offered}
use Rattle.law_microframes.specs.time.Rounds.{round_next, round, IsRounding}
use Rattle.law_microframes.specs.time.RoundLaws.{DriverKeepsRounds, CommandKeepsRounds, ScriptsRoundOnce, TextsRoundOnce}
use Rattle.law_microframes.proofs.lemmas.time.CommandRounds.{command_leaves_rounds}
use Rattle.law_microframes.proofs.lemmas.time.DriverRounds.{each_row_keeps_rounds}
use Rattle.law_microframes.proofs.lemmas.time.RoundOpening.{new_is_rounding}
use Rattle.law_microframes.proofs.lemmas.time.RoundControlling.{controller_keeps_rounds}
use Rattle.law_microframes.proofs.lemmas.time.RoundMoments.{rounds_apart}

pub driver_keeps_rounds : DriverKeepsRounds
driver_keeps_rounds w vs k =
    let s : Standing = k.mixed.standing in
    record {
      mixed = driver_keeps_mixed w k.mixed;
      rounds = each_row_keeps_rounds (driver_row (driver_parts w)) s w vs k.mixed.mixed k.rounds refl;
    }

pub command_keeps_rounds : CommandKeepsRounds
command_keeps_rounds w line cmd vs fits room k =
    let s : Standing = k.mixed.standing in
    record {
      mixed = command_keeps_mixed w line cmd fits room k.mixed;
      rounds = command_leaves_rounds s w line cmd vs room k.mixed.mixed k.rounds;
    }

is_kept : (fixed : Fixed) → KeepsCarried round_next fixed (λ w orders vs. NextIsOffered w orders) IsRounding
is_kept fixed = record {
  controller = λ w orders vs known k. controller_keeps_rounds fixed w vs k;
  driver = λ w orders vs known k. driver_keeps_rounds w vs k;
  command = λ w n cmd rest vs known k. command_keeps_rounds w n cmd vs known.0 known.1 k;
}

pub scripts_round_once : ScriptsRoundOnce
scripts_round_once s fit bytes opens k = carrying round_next (λ w orders vs. NextIsOffered w orders) IsRounding s [] (is_kept (fixed_of s)) (next_is_offered s fit opens) (new_is_rounding s fit bytes) k

pub texts_round_once : TextsRoundOnce
texts_round_once text s spelled k =
    rounds_apart (moment s k).world (round s k)
    (scripts_round_once s (spelled_fits text s spelled) (a_text_spells_bytes text s spelled) (lines_fit s.lines (texts_fit text s spelled) (texts_open_fitting text s spelled)) k)
