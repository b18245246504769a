-- Each microframe of the run of a script that a text spells ends, and the run carries out all its lines.
use Rattle.law_world.specs.steps.Streaming.{transacts_by}
use Rattle.law_microframes.specs.time.Ahead.{EachRowLowers}
use Rattle.law_microframes.specs.time.Ends.{ScriptsKeepTime, TextsEndMicroframes, TextsCarryOutAll}
use Rattle.law_microframes.proofs.lemmas.time.ChainFalls.{chain_visits_fall, chain_fetches_begin}
use Rattle.law_microframes.proofs.lemmas.time.FrameLowers.{frame_lowers}
use Rattle.law_microframes.proofs.lemmas.time.RingRows.{go_lowers, enter_lowers}
use Rattle.law_microframes.proofs.lemmas.time.TurnBegins.{each_row_lowers}
use Rattle.law_microframes.proofs.lemmas.time.TurnTimes.{moment_time}
use Rattle.law_microframes.proofs.lemmas.time.TurnMoments.{texts_are_counted}
use Rattle.law_microframes.proofs.lemmas.time.TurnRuns.{microframes_end}
use Rattle.law_microframes.proofs.lemmas.time.TurnOrders.{carries_out_all}

pub rows_lower : EachRowLowers
rows_lower = each_row_lowers frame_lowers enter_lowers go_lowers

pub scripts_keep_time : ScriptsKeepTime
scripts_keep_time s k = moment_time (chain_visits_fall transacts_by) (chain_fetches_begin transacts_by) s k

pub texts_end_microframes : TextsEndMicroframes
texts_end_microframes text s spelled = microframes_end rows_lower s (texts_are_counted text s spelled (scripts_keep_time s))

pub texts_carry_out_all : TextsCarryOutAll
texts_carry_out_all text s spelled = carries_out_all s (texts_end_microframes text s spelled)
