use Rattle.law_reports.proofs.lemmas.pipes.lemmas.below_hubs.BehindMoments.{new_world_is_behind, scripts_are_behind, texts_are_behind}
use Rattle.law_reports.proofs.lemmas.pipes.lemmas.below_hubs.BelowTexts.{texts_open_spots}
use Rattle.law_reports.proofs.pipes.below_hubs.each_moment_has_outs_below.Goals as goal

pub returns : goal.returns
returns c = record { spots = texts_open_spots; opening = new_world_is_behind; scripts = scripts_are_behind; texts = texts_are_behind }
