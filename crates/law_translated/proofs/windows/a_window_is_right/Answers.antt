use Rattle.law_translated.proofs.Settling.{window_kept, window_right}
use Rattle.law_translated.proofs.windows.a_window_is_right.Goals as goal

pub returns : goal.returns
returns c = record { keeps = λ e r. window_kept e r; right = λ e r. window_right e r }
