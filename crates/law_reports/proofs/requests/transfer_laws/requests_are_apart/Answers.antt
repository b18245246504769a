use Rattle.law_reports.proofs.lemmas.requests.Apart.{laid_are_apart, laid_are_others}
use Rattle.law_reports.proofs.requests.transfer_laws.requests_are_apart.Goals as goal

pub returns : goal.returns
returns c = record { own = laid_are_apart; others = laid_are_others }
