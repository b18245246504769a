use Rattle.std.proofs.Common.{[], refl}
use Rattle.law_world.proofs.lemmas.streams.lemmas.sending_worlds.ReportSampling.{eight_nine}
use Rattle.law_world.proofs.streams.sending_worlds.report_worked.a_stalled_request_beside_a_put.Goals as goal

pub returns-clause-only : goal.returns-clause-only
returns-clause-only c = (record { kind = refl; speed = refl }, (record { kind = refl; speed = refl }, (record { kind = refl; speed = refl }, (tt, (tt, (tt, tt))))))

pub returns-clause-sent : goal.returns-clause-sent
returns-clause-sent c = (([], refl), tt)

pub returns-clause-right : goal.returns-clause-right
returns-clause-right c = (record { bytes = ([], refl); once = refl; whole = refl }, (record { bytes = (([], refl), ([], refl)); once = refl; whole = refl }, tt))

pub returns-clause-other : goal.returns-clause-other
returns-clause-other c = λ k. eight_nine k.0.0 k.0.1
