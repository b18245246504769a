use Rattle.law_world.proofs.lemmas.memory.MicrophoneScript.{its_moments}
use Rattle.law_world.proofs.memory.microphone.its_moments.Goals as goal

pub returns : goal.returns
returns c = its_moments
