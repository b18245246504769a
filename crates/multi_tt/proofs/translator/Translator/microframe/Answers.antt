use Rattle.multi_tt.proofs.Works.{translator_works}
use Rattle.multi_tt.proofs.translator.Translator.microframe.Goals as goal

pub returns : goal.returns
returns g c = rw (← c.self.view_is) (translator_works _ _ _ _ _ _ _ _ _ _ c.microframe-used.ensures.used c.microframe-used.ensures.work c.work.ensures)
