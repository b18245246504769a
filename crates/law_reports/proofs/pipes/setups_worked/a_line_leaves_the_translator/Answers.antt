use Rattle.law_reports.proofs.lemmas.pipes.lemmas.hub_setups.Sampled.{hub_opened, buffer_cleared, translator_reset}
use Rattle.law_reports.proofs.pipes.setups_worked.a_line_leaves_the_translator.Goals as goal

pub returns-clause-opened : goal.returns-clause-opened
returns-clause-opened c = hub_opened

pub returns-clause-buffer : goal.returns-clause-buffer
returns-clause-buffer c = buffer_cleared

pub returns-clause-translator : goal.returns-clause-translator
returns-clause-translator c = translator_reset
