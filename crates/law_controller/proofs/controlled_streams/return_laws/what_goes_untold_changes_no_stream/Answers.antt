use Rattle.law_controller.proofs.lemmas.controlled_streams.Returning.{accounts_are_returned, reported_are_returned}
use Rattle.law_controller.proofs.controlled_streams.return_laws.what_goes_untold_changes_no_stream.Goals as goal

pub returns : goal.returns
returns c = record { accounts = accounts_are_returned; reported = reported_are_returned }
