use Rattle.law_translated.proofs.Requesting.{keeps_window, window_is_right}
use Rattle.law_translated.proofs.requests.a_request_is_acted_on_once.Goals as goal

pub returns : goal.returns
returns c = record { keeps = keeps_window; right = window_is_right }
