use Rattle.law_world.proofs.lemmas.memory.MicrophoneScript.{microphone_fits, microphone_bytes, fits_mixed}
use Rattle.law_world.proofs.memory.microphone.a_script_with_a_microphone.Goals as goal

pub returns-clause-fits : goal.returns-clause-fits
returns-clause-fits c = microphone_fits

pub returns-clause-bytes : goal.returns-clause-bytes
returns-clause-bytes c = microphone_bytes

pub returns-clause-mixed : goal.returns-clause-mixed
returns-clause-mixed c = fits_mixed
