use Rattle.app_ends.proofs.Endings.{fault_by, left_by}
use Rattle.app_trace_cli.proofs.Answered.{program_of_source}
use Rattle.app_trace_cli.proofs.program.ehci_trace.Goals as goal

pub returns-clause-output : goal.returns-clause-output
returns-clause-output g c = program_of_source _ _ _ _ _ _ _ c.in-Ok.ensures.input c.as_slice.ensures.value c.answer.ensures.end.0 c.answer.ensures.answer

pub returns-clause-left : goal.returns-clause-left
returns-clause-left g c = left_by _ _ _ c.answer.ensures.end.0 c.answer.ensures.end.1 c.in-Ok.ensures.left

pub returns-clause-read : goal.returns-clause-read
returns-clause-read g c = fault_by _ _ _ c.answer.ensures.end.1 c.in-Ok.ensures.stays
