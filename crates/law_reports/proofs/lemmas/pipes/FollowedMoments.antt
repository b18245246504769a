-- Each moment of each script has its streams so, with those of the endpoints that left.
use Rattle.law_world.proofs.Common.{lines_can}
use Rattle.script_types.specs.declared.scripts.Script.{Script}
use Rattle.script_fits.proofs.Texts.{spelled_fits}
use Rattle.bus_wire.specs.Bus.{fixed_of}
use Rattle.law_scripts.proofs.lemmas.script_bytes.Texts.{a_text_spells_bytes}
use Rattle.law_world.specs.steps.receiving_runs.Runs.{IsKeptBy}
use Rattle.law_world.proofs.lemmas.steps.lemmas.receiving_runs.Runs.{holds_throughout}
use Rattle.law_world.proofs.lemmas.memory.FittingTexts.{texts_open_fitting}
use Rattle.law_world.proofs.lemmas.memory.Texts.{texts_fit}
use Rattle.law_world.proofs.lemmas.memory.Together.{lines_fit}
use Rattle.law_reports.specs.pipes.Declared.{sides_of}
use Rattle.law_reports.specs.pipes.Piped.{HasPiped, HasFollowed}
use Rattle.law_reports.specs.pipes.FollowedLaws.{NewWorldIsFollowed, ControllerKeepsFollowed, CommandKeepsFollowed, ScriptsAreFollowed}
use Rattle.law_reports.specs.pipes.FollowedLaws.{TextsAreFollowed}
use Rattle.law_reports.proofs.lemmas.pipes.Controlled.{controlled_followed}
use Rattle.law_reports.proofs.lemmas.pipes.DeclaredOpens.{texts_declare}
use Rattle.law_reports.proofs.lemmas.pipes.FollowedCommands.{commanded_followed}
use Rattle.law_reports.proofs.lemmas.pipes.FollowedSteps.{driver_keeps_followed}
use Rattle.law_reports.proofs.lemmas.pipes.Moments.{CanBe, lines_both}
use Rattle.law_reports.proofs.lemmas.pipes.Opening.{new_world_is_piped, none_left}

pub new_world_is_followed : NewWorldIsFollowed
new_world_is_followed s fit bytes =
    let p : HasPiped (fixed_of s) (sides_of s) _ = new_world_is_piped s fit bytes in
    record {
      standing = p.standing;
      lines = p.lines;
      heads = p.heads;
      followed = record { piped = p.piped; left_ins = none_left s p.lines.acc _ _ _; left_outs = none_left s p.lines.acc _ _ _ };
    }

pub controller_keeps_followed : ControllerKeepsFollowed
controller_keeps_followed fixed x w f = record {
  standing = _;
  lines = _;
  heads = f.heads;
  followed = controlled_followed fixed x f.standing f.lines f.heads w f.followed.piped f.followed.left_ins f.followed.left_outs;
}

pub command_keeps_followed : CommandKeepsFollowed
command_keeps_followed fixed x w line cmd fits declares room f = record {
  standing = f.standing;
  lines = f.lines;
  heads = f.heads;
  followed = commanded_followed fixed x f.standing f.lines f.heads w f.followed line cmd fits declares room;
}

is_kept : (s : Script) → IsKeptBy (fixed_of s) (CanBe (sides_of s)) (HasFollowed (fixed_of s) (sides_of s))
is_kept s = record {
  driver = λ w f. driver_keeps_followed (fixed_of s) (sides_of s) w f;
  controller = λ w f. controller_keeps_followed (fixed_of s) (sides_of s) w f;
  command = λ w line cmd can room f. command_keeps_followed (fixed_of s) (sides_of s) w line cmd can.0 can.1 room f;
}

pub scripts_are_followed : ScriptsAreFollowed
scripts_are_followed s fit bytes fits declares k =
    holds_throughout (CanBe (sides_of s)) (HasFollowed (fixed_of s) (sides_of s)) s fit
    (lines_both (sides_of s) s.lines (lines_can s.lines fits) declares) (new_world_is_followed s fit bytes) (is_kept s) k

pub texts_are_followed : TextsAreFollowed
texts_are_followed text s spelled =
    scripts_are_followed s (spelled_fits text s spelled) (a_text_spells_bytes text s spelled)
    (lines_fit s.lines (texts_fit text s spelled) (texts_open_fitting text s spelled)) (texts_declare text s spelled)
