use Rattle.law_devices.proofs.lemmas.ring_requests.Runs.{run_begins, run_goes_on, run_windows, run_requests, run_counts}
use Rattle.law_devices.proofs.ring_requests.laws.windows_are_those_of_a_run.Goals as goal

pub returns : goal.returns
returns c = record { begins = run_begins; goes_on = run_goes_on; windows = run_windows; requests = run_requests; count = run_counts }
