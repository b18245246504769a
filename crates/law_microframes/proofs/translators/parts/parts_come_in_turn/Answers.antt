use Rattle.law_microframes.specs.translators.Parts.{Lacks, IsEven}
use Rattle.law_microframes.proofs.lemmas.translators.Parts.{completes_lack, completes_even, found_lacks, parts_go_on, other_starts, work_leaves_lacking, work_makes_even}
use Rattle.law_microframes.proofs.translators.parts.parts_come_in_turn.Goals as goal

pub returns-clause-own : goal.returns-clause-own
returns-clause-own c = parts_go_on

pub returns-clause-others : goal.returns-clause-others
returns-clause-others c = other_starts Lacks

pub returns-clause-others_even : goal.returns-clause-others_even
returns-clause-others_even c = other_starts IsEven

pub returns-clause-work : goal.returns-clause-work
returns-clause-work c = work_leaves_lacking

pub returns-clause-even : goal.returns-clause-even
returns-clause-even c = work_makes_even

pub returns-clause-completes : goal.returns-clause-completes
returns-clause-completes c = completes_lack

pub returns-clause-completes_even : goal.returns-clause-completes_even
returns-clause-completes_even c = completes_even

pub returns-clause-found : goal.returns-clause-found
returns-clause-found c = found_lacks
