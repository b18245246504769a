use Rattle.law_world.proofs.lemmas.memory.MicrophoneScript.{its_memory_is_kept}
use Rattle.law_world.proofs.memory.microphone.its_memory_is_kept.Goals as goal

pub returns : goal.returns
returns c = its_memory_is_kept
