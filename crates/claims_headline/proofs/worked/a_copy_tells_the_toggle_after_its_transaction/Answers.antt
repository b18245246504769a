use Rattle.std.proofs.Common.{refl}
use Rattle.claims_headline.proofs.worked.a_copy_tells_the_toggle_after_its_transaction.Goals as goal

pub returns : goal.returns
returns c = record { made = λ q. refl; before = λ q. refl; other = λ q. refl }
