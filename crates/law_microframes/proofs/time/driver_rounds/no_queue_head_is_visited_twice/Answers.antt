use Rattle.law_microframes.proofs.lemmas.time.RoundsTogether.{scripts_round_once, texts_round_once}
use Rattle.law_microframes.proofs.time.driver_rounds.no_queue_head_is_visited_twice.Goals as goal

pub returns : goal.returns
returns c = record { scripts = scripts_round_once; texts = texts_round_once }
