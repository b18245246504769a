use Rattle.law_microframes.proofs.lemmas.time.SplitMasked.{new_is_allowed, events_keep_allowed, commands_keep_allowed, scripts_keep_allowed}
use Rattle.law_microframes.proofs.time.splits.each_placement_is_allowed.Goals as goal

pub returns : goal.returns
returns c = record { new = new_is_allowed; driver = events_keep_allowed; command = commands_keep_allowed; scripts = scripts_keep_allowed }
