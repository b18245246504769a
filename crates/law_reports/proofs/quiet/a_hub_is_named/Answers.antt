use Rattle.law_reports.proofs.lemmas.quiet.HubsSampled.{a_board_has_its_hub, no_hub_breaks_it}
use Rattle.law_reports.proofs.quiet.a_hub_is_named.Goals as goal

pub returns-clause-named : goal.returns-clause-named
returns-clause-named c = a_board_has_its_hub

pub returns-clause-unnamed : goal.returns-clause-unnamed
returns-clause-unnamed c = no_hub_breaks_it
