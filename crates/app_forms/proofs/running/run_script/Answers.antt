use Rattle.app_forms.proofs.running.run_script.Goals as goal

pub report-requires : goal.report-requires
report-requires g c = record { script = c.args.script.now; spelled = c.requires.spelled; ran = c.in-Ok.ensures }

pub returns-in-Ok-clause-answer : goal.returns-in-Ok-clause-answer
returns-in-Ok-clause-answer g c = c.report.ensures.answer
