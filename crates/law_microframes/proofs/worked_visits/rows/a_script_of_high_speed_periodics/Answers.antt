use Rattle.law_microframes.proofs.lemmas.worked_visits.Sampled.{high_sensor, high_microphone}
use Rattle.law_microframes.proofs.worked_visits.rows.a_script_of_high_speed_periodics.Goals as goal

pub returns-clause-interrupt : goal.returns-clause-interrupt
returns-clause-interrupt c = high_sensor

pub returns-clause-isochronous : goal.returns-clause-isochronous
returns-clause-isochronous c = high_microphone
