use Rattle.app_forms.proofs.loading.load_world.Goals as goal

pub summarize-requires : goal.summarize-requires
summarize-requires g c = record { script = c.args.script.now; spelled = c.requires.spelled; ran = c.in-Ok.ensures }

pub returns-in-Ok-clause-answer : goal.returns-in-Ok-clause-answer
returns-in-Ok-clause-answer g c = c.summarize.ensures.answer
