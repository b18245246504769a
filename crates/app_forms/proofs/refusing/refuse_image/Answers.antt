use Rattle.app_ends.specs.declared.status.Status.TheVariants as Statuses
use Rattle.image_show.specs.Text.{refusal_line}
use Rattle.app_forms.proofs.Checked.{refused_check}
use Rattle.app_forms.proofs.refusing.refuse_image.Goals as goal

pub returns-in-Err-clause-check : goal.returns-in-Err-clause-check
returns-in-Err-clause-check g c is =
    (Statuses.Refused, refusal_line c.args.refusal, refused_check c.args.input.now c.args.refusal c.requires is, c.in-Err.ensures.err)
