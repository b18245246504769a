use Rattle.std.proofs.Common.{[], ◌∷◌, refl}
use Rattle.law_reports.proofs.pipes.reports_worked.right_beside_a_keyboard.Goals as goal

pub returns-clause-ins : goal.returns-clause-ins
returns-clause-ins c = (record { bytes = ([], refl); once = refl; whole = refl }, tt)

pub returns-clause-taken : goal.returns-clause-taken
returns-clause-taken c = (record { bytes = ([], refl); once = refl; whole = refl }, tt)

pub returns-clause-sent : goal.returns-clause-sent
returns-clause-sent c = (([], refl), tt)

pub returns-clause-all : goal.returns-clause-all
returns-clause-all c = (
  record { bytes = ([], refl); once = refl; whole = refl },
  (record { bytes = (([], refl), ([], refl)); once = refl; whole = refl }, tt),
)

pub returns-clause-unclaimed : goal.returns-clause-unclaimed
returns-clause-unclaimed c = (record { bytes = ([], refl); once = refl; whole = refl }, tt)

pub returns-clause-before : goal.returns-clause-before
returns-clause-before c = (record { bytes = (1 ∷ 2 ∷ [], refl); once = refl; whole = refl }, tt)

pub returns-clause-untaken : goal.returns-clause-untaken
returns-clause-untaken c = (record { bytes = refl; once = refl; whole = refl }, tt)
