use Rattle.law_world.proofs.lemmas.memory.Untouched.{kept_to_lent_stays_untouched, scripts_leave_what_is_back}
use Rattle.law_world.proofs.memory.releases.what_is_given_back_stays_untouched.Goals as goal

pub returns : goal.returns
returns c = record { law = kept_to_lent_stays_untouched; scripts = scripts_leave_what_is_back }
