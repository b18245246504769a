use Rattle.std.proofs.Common.{subst, refl}
use Rattle.app_ends.proofs.Endings.{fault_by}
use Rattle.app_forms.specs.Form.{AreWordsOf}
use Rattle.app_forms.specs.declared.form.Form.TheVariants.{Load}
use Rattle.app_machine.proofs.Answered.{program_of_any, program_of_source, leaves_of_source, leaves_all, load_of}
use Rattle.app_machine.proofs.program.ehci_machine.Goals as goal

pub returns-in-None-clause-load : goal.returns-in-None-clause-load
returns-in-None-clause-load g c = λ n input loads. absurd (c.in-None.ensures.none (Load n) loads)

pub returns-in-Some-Load-clause-load : goal.returns-in-Some-Load-clause-load
returns-in-Some-Load-clause-load g c =
    load_of _ c.in-Some-Load.n _ _ _ (subst (AreWordsOf _) c.in-Some-Load.field-0-is c.in-Some-Load.ensures.some) c.load.ensures.load
    c.load.ensures.answer

pub returns-in-Some-Load-clause-output : goal.returns-in-Some-Load-clause-output
returns-in-Some-Load-clause-output g c =
    program_of_any _ _ _ _ _ _ (subst (AreWordsOf _) c.in-Some-Load.field-0-is c.in-Some-Load.ensures.some) c.load.ensures.end.0
    c.load.ensures.answer

pub returns-in-Some-Load-clause-left : goal.returns-in-Some-Load-clause-left
returns-in-Some-Load-clause-left g c =
    leaves_all _ _ _ _ (subst (AreWordsOf _) c.in-Some-Load.field-0-is c.in-Some-Load.ensures.some) c.load.ensures.end.0

pub returns-in-Some-Load-clause-read : goal.returns-in-Some-Load-clause-read
returns-in-Some-Load-clause-read g c = fault_by _ _ _ c.load.ensures.end.1 refl

pub returns-in-Some-clause-output : goal.returns-in-Some-clause-output
returns-in-Some-clause-output g c =
    program_of_source _ _ _ _ _ _ c.in-Some.ensures.some c.read_and_answer.ensures.end c.read_and_answer.ensures.answer

pub returns-in-Some-clause-left : goal.returns-in-Some-clause-left
returns-in-Some-clause-left g c =
    leaves_of_source _ _ _ _ _ c.in-Some.ensures.some c.read_and_answer.ensures.end c.read_and_answer.ensures.left
