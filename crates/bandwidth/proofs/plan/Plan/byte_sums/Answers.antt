use Rattle.std.proofs.Common.{sym, ◌∙◌}
use Rattle.bandwidth.proofs.Books.{translator_stands}
use Rattle.bandwidth.proofs.plan.Plan.byte_sums.Goals as goal

pub returns-in-None-clause-none : goal.returns-in-None-clause-none
returns-in-None-clause-none c =
    absurd
    (translator_stands _ _ c.args.id c.in_ok-translator.translator c.in-None.ensures.book.placed c.in-None.ensures.book.pool c.in-None.ensures.number
    (sym (rw (← c.self.view_is) at c.translator.ensures) ∙ c.in_ok-translator.was)
    (sym c.in-None.ensures.tables))
