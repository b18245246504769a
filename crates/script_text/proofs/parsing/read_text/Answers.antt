use Rattle.script_text.proofs.parsing.read_text.Goals as goal

pub returns-then-is_empty-clause-refused : goal.returns-then-is_empty-clause-refused
returns-then-is_empty-clause-refused c = c.finished.ensures.memory _

pub returns-in-Ok-None-clause-refused : goal.returns-in-Ok-None-clause-refused
returns-in-Ok-None-clause-refused c = c.finished-in-Ok-None.ensures.memory _
