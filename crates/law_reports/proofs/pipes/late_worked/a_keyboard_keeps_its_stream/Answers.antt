use Rattle.law_reports.proofs.lemmas.pipes.lemmas.below_hubs.InwardSampled.{keyboard_is_inlet, disk_isnt, scanner_isnt_opened, keyboard_is_spared}
use Rattle.law_reports.proofs.lemmas.pipes.lemmas.below_hubs.InwardSampled.{keyboard_keeps, silent_is_spared, cleared_isnt}
use Rattle.law_reports.proofs.pipes.late_worked.a_keyboard_keeps_its_stream.Goals as goal

pub returns-clause-inlet : goal.returns-clause-inlet
returns-clause-inlet c = keyboard_is_inlet

pub returns-clause-high : goal.returns-clause-high
returns-clause-high c = disk_isnt

pub returns-clause-unopened : goal.returns-clause-unopened
returns-clause-unopened c = scanner_isnt_opened

pub returns-clause-spared : goal.returns-clause-spared
returns-clause-spared c = keyboard_is_spared

pub returns-clause-stream : goal.returns-clause-stream
returns-clause-stream c = keyboard_keeps

pub returns-clause-silent : goal.returns-clause-silent
returns-clause-silent c = silent_is_spared

pub returns-clause-clears : goal.returns-clause-clears
returns-clause-clears c = cleared_isnt
