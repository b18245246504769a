use Rattle.std.proofs.Common.{[], Err, sym, ◌∙◌, refl}
use Rattle.std.proofs.lemmas.Result.{IfOk-weaker, IfErr-weaker}
use Rattle.drv_table.specs.declared.content.Sort.TheVariants as sorts
use Rattle.drv_table.specs.Words.{get_stages}
use Rattle.drv_table.specs.Offers.{Asked, takes_get}
use Rattle.ehci_driver.proofs.Offered.{no_such, not_for_it, for_it, takes_it}
use Rattle.ehci_driver.proofs.driver.Driver.offer_get.Goals as goal

pub returns-in_default-clause-refused : goal.returns-in_default-clause-refused
returns-in_default-clause-refused c =
    let a : Asked = record { sort = sorts.Get; stages = get_stages c.args.len c.args.by; most = c.args.len; bytes = [] } in
    no_such c.args.self.now c.args.mem.now c.args.name.now takes_get a c.in_default.ensures.none

pub returns-then-not-can_get-clause-refused : goal.returns-then-not-can_get-clause-refused
returns-then-not-can_get-clause-refused c =
    let a : Asked = record { sort = sorts.Get; stages = get_stages c.args.len c.args.by; most = c.args.len; bytes = [] } in
    not_for_it c.args.self.now c.args.mem.now c.args.name.now takes_get a c.in-Some.e c.in-Some.endpoint c.in-Some.ensures.number c.in-Some.ensures.endpoint
    (sym c.can_get.ensures ∙ c.if-not-can_get.true)

pub returns-in-Some-refusal-clause-refused : goal.returns-in-Some-refusal-clause-refused
returns-in-Some-refusal-clause-refused c =
    let a : Asked = record { sort = sorts.Get; stages = get_stages c.args.len c.args.by; most = c.args.len; bytes = [] } in
    for_it c.args.self.now c.args.mem.now c.args.name.now takes_get a c.in-Some.e c.in-Some.endpoint (Err c.in-Some-refusal.why) c.in-Some.ensures.number c.in-Some.ensures.endpoint
    (sym c.can_get.ensures ∙ c.if-not-can_get.false) (c.in-Some-refusal.ensures.some c.args.self.now c.args.mem.now c.in-Some.e a refl)

pub returns-clause-accepted : goal.returns-clause-accepted
returns-clause-accepted c =
    let a : Asked = record { sort = sorts.Get; stages = get_stages c.args.len c.args.by; most = c.args.len; bytes = [] } in
    IfOk-weaker c.take_at.result _ _
    (λ u this.
    takes_it c.args.self.now c.args.mem.now c.args.name.now takes_get a c.in-Some.e c.in-Some.endpoint _ c.in-Some.ensures.number c.in-Some.ensures.endpoint
    (sym c.can_get.ensures ∙ c.if-not-can_get.false) c.in_default-refusal.ensures.going c.in_default-refusal.ensures.short this) c.take_at.ensures.accepted

pub returns-clause-refused : goal.returns-clause-refused
returns-clause-refused c =
    let a : Asked = record { sort = sorts.Get; stages = get_stages c.args.len c.args.by; most = c.args.len; bytes = [] } in
    IfErr-weaker c.take_at.result _ _
    (λ why this.
    takes_it c.args.self.now c.args.mem.now c.args.name.now takes_get a c.in-Some.e c.in-Some.endpoint (Err why) c.in-Some.ensures.number c.in-Some.ensures.endpoint
    (sym c.can_get.ensures ∙ c.if-not-can_get.false) c.in_default-refusal.ensures.going c.in_default-refusal.ensures.short this) c.take_at.ensures.refused
