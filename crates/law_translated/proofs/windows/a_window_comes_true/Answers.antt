use Rattle.law_translated.proofs.WorkedWindows.{window_comes_true, other_size_breaks}
use Rattle.law_translated.proofs.windows.a_window_comes_true.Goals as goal

pub returns : goal.returns
returns c = record { right = window_comes_true; breaks = other_size_breaks }
