use Rattle.law_microframes.proofs.lemmas.translators.Turns.{outs_are_lacked}
use Rattle.law_microframes.proofs.lemmas.translators.TurnsNew.{unframed_is_new}
use Rattle.law_microframes.proofs.lemmas.translators.TurnsDriven.{driver_keeps_outs}
use Rattle.law_microframes.proofs.lemmas.translators.TurnsCommands.{command_keeps_outs}
use Rattle.law_microframes.proofs.lemmas.translators.TurnsBegin.{begin_keeps_outs}
use Rattle.law_microframes.proofs.lemmas.translators.TurnsAsks.{other_asks_leave, later_parts_leave}
use Rattle.law_microframes.proofs.lemmas.translators.Parts.{completes_lack, completes_even, other_starts}
use Rattle.law_microframes.specs.translators.Parts.{Lacks, IsEven}
use Rattle.law_microframes.proofs.lemmas.translators.TurnsEnds.{end_keeps_outs, idle_keeps_outs, new_outs_go_on}
use Rattle.law_microframes.proofs.translators.parts.outs_come_in_turn.Goals as goal

pub returns-clause-lacked : goal.returns-clause-lacked
returns-clause-lacked c = outs_are_lacked

pub returns-clause-unframed : goal.returns-clause-unframed
returns-clause-unframed c = unframed_is_new

pub returns-clause-driver : goal.returns-clause-driver
returns-clause-driver c = driver_keeps_outs

pub returns-clause-command : goal.returns-clause-command
returns-clause-command c = command_keeps_outs

pub returns-clause-begin : goal.returns-clause-begin
returns-clause-begin c = begin_keeps_outs

pub returns-clause-asks : goal.returns-clause-asks
returns-clause-asks c = other_asks_leave Lacks (other_starts Lacks) completes_lack

pub returns-clause-asks_even : goal.returns-clause-asks_even
returns-clause-asks_even c = other_asks_leave IsEven (other_starts IsEven) completes_even

pub returns-clause-end : goal.returns-clause-end
returns-clause-end c = end_keeps_outs

pub returns-clause-idle : goal.returns-clause-idle
returns-clause-idle c = idle_keeps_outs

pub returns-clause-new : goal.returns-clause-new
returns-clause-new c = new_outs_go_on

pub returns-clause-later : goal.returns-clause-later
returns-clause-later c = later_parts_leave
