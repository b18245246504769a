use Rattle.app_ends.proofs.Endings.{fault_by, left_by}
use Rattle.app_machine.proofs.Answered.{answer_of_source, reading_leaves}
use Rattle.app_machine.proofs.program.read_and_answer.Goals as goal

pub returns-clause-answer : goal.returns-clause-answer
returns-clause-answer g c = answer_of_source _ _ _ _ _ _ _ c.in-Ok.ensures.input c.as_slice.ensures.value c.answer.ensures.answer

pub returns-clause-left : goal.returns-clause-left
returns-clause-left g c =
    reading_leaves _ _ c.args.form _ c.requires (left_by _ _ _ c.answer.ensures.end.0 c.answer.ensures.end.1 c.in-Ok.ensures.left)

pub returns-clause-read : goal.returns-clause-read
returns-clause-read g c = fault_by _ _ _ c.answer.ensures.end.1 c.in-Ok.ensures.stays
