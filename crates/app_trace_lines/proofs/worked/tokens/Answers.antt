use Rattle.std.proofs.Common.{refl}
use Rattle.std.specs.Fmt.{digits}
use Rattle.app_trace_lines.specs.Lines.{part_text, start_text, complete_text, port_text, token_text}
use Rattle.app_trace_lines.proofs.worked.tokens.Goals as goal

pub returns-clause-start : goal.returns-clause-start
unfolding digits part_text start_text complete_text port_text token_text
returns-clause-start c = refl

pub returns-clause-complete : goal.returns-clause-complete
unfolding digits part_text start_text complete_text port_text token_text
returns-clause-complete c = refl

pub returns-clause-plain : goal.returns-clause-plain
unfolding token_text
returns-clause-plain c = refl
