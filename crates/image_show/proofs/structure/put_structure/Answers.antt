use Rattle.std.proofs.Common.{sym, ap}
use Rattle.image_show.specs.Shown.{structure_text}
use Rattle.image_codec.proofs.Paged.{on_same}
use Rattle.image_show.proofs.structure.put_structure.Goals as goal

pub returns-in-Qh-clause-printed : goal.returns-in-Qh-clause-printed
unfolding structure_text
returns-in-Qh-clause-printed g c =
    on_same _ _ _ _ _ _ _ _ _ (sym (ap (structure_text c.args.base c.args.words.now) c.in-Qh.is)) c.put_queue_head.ensures.printed
