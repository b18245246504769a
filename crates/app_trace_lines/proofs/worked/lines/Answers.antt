use Rattle.std.proofs.Common.{refl}
use Rattle.std.specs.Fmt.{digits}
use Rattle.app_trace_lines.specs.Lines.{entry_line, below_text, moment_text, happening_text, began_text, driver_line, reset_text, name_text, stored_text, word_stored_text, address_text, controller_text, subject_text, at_text, made_text}
use Rattle.app_trace_lines.proofs.worked.lines.Goals as goal

pub returns-clause-began : goal.returns-clause-began
unfolding digits entry_line below_text moment_text happening_text began_text driver_line reset_text name_text stored_text word_stored_text
    address_text controller_text subject_text at_text made_text
returns-clause-began c = refl

pub returns-clause-stored : goal.returns-clause-stored
unfolding digits entry_line below_text moment_text happening_text began_text driver_line reset_text name_text stored_text word_stored_text
    address_text controller_text subject_text at_text made_text
returns-clause-stored c = refl

pub returns-clause-fetched : goal.returns-clause-fetched
unfolding digits entry_line below_text moment_text happening_text began_text driver_line reset_text name_text stored_text word_stored_text
    address_text controller_text subject_text at_text made_text
returns-clause-fetched c = refl

pub returns-clause-reset : goal.returns-clause-reset
unfolding digits entry_line below_text moment_text happening_text began_text driver_line reset_text name_text stored_text word_stored_text
    address_text controller_text subject_text at_text made_text
returns-clause-reset c = refl
