use Rattle.law_world.proofs.lemmas.memory.lemmas.framed_memory.Masking.{new_is_masked, events_keep_masks, commands_keep_masks}
use Rattle.law_world.proofs.memory.framed_memory.lend_laws.placements_have_small_masks.Goals as goal

pub returns : goal.returns
returns c = record { opening = new_is_masked; events = events_keep_masks; commands = commands_keep_masks }
