use Rattle.app_forms.proofs.running.image_script.Goals as goal

pub write_image-requires : goal.write_image-requires
write_image-requires g c = record { script = c.args.script.now; spelled = c.requires.spelled; ran = c.in-Ok.ensures }

pub returns-in-Ok-clause-answer : goal.returns-in-Ok-clause-answer
returns-in-Ok-clause-answer g c = c.write_image.ensures.answer
