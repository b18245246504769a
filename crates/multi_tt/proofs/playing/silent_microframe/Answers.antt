use Rattle.multi_tt.proofs.Heard.{silent_hub}
use Rattle.multi_tt.proofs.playing.silent_microframe.Goals as goal

pub returns : goal.returns
returns c = silent_hub _ (λ w ask out reply v t. t) _ _ _ _ _ c.microframe.ensures.work c.microframe.ensures.multi
