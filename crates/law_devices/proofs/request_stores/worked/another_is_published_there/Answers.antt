use Rattle.law_devices.proofs.lemmas.request_stores.Asking.{more_lent, second_next, both_laid}
use Rattle.law_devices.proofs.request_stores.worked.another_is_published_there.Goals as goal

pub returns : goal.returns
returns c = record { lend = more_lent; next = second_next; laid = both_laid }
