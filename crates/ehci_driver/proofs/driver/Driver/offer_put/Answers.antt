use Rattle.std.proofs.Common.{length, Err, sym, ◌∙◌, refl}
use Rattle.std.proofs.lemmas.Result.{IfOk-weaker, IfErr-weaker}
use Rattle.drv_table.specs.declared.content.Sort.TheVariants as sorts
use Rattle.drv_table.specs.Words.{put_stages}
use Rattle.drv_table.specs.Offers.{Asked, takes_put}
use Rattle.ehci_driver.proofs.Offered.{no_such, not_for_it, for_it, takes_it}
use Rattle.ehci_driver.proofs.driver.Driver.offer_put.Goals as goal

pub returns-in_default-clause-refused : goal.returns-in_default-clause-refused
returns-in_default-clause-refused c =
    let a : Asked = record { sort = sorts.Put; stages = put_stages (length c.args.bytes.now) c.args.by; most = length c.args.bytes.now; bytes = c.args.bytes.now } in
    no_such c.args.self.now c.args.mem.now c.args.name.now takes_put a c.in_default.ensures.none

pub returns-then-not-can_put-clause-refused : goal.returns-then-not-can_put-clause-refused
returns-then-not-can_put-clause-refused c =
    let a : Asked = record { sort = sorts.Put; stages = put_stages (length c.args.bytes.now) c.args.by; most = length c.args.bytes.now; bytes = c.args.bytes.now } in
    not_for_it c.args.self.now c.args.mem.now c.args.name.now takes_put a c.in-Some.e c.in-Some.endpoint c.in-Some.ensures.number c.in-Some.ensures.endpoint
    (sym c.can_put.ensures ∙ c.if-not-can_put.true)

pub returns-in-Some-refusal-clause-refused : goal.returns-in-Some-refusal-clause-refused
returns-in-Some-refusal-clause-refused c =
    let a : Asked = record { sort = sorts.Put; stages = put_stages (length c.args.bytes.now) c.args.by; most = length c.args.bytes.now; bytes = c.args.bytes.now } in
    for_it c.args.self.now c.args.mem.now c.args.name.now takes_put a c.in-Some.e c.in-Some.endpoint (Err c.in-Some-refusal.why) c.in-Some.ensures.number c.in-Some.ensures.endpoint
    (sym c.can_put.ensures ∙ c.if-not-can_put.false) (c.in-Some-refusal.ensures.some c.args.self.now c.args.mem.now c.in-Some.e a refl)

pub returns-clause-accepted : goal.returns-clause-accepted
returns-clause-accepted c =
    let a : Asked = record { sort = sorts.Put; stages = put_stages (length c.args.bytes.now) c.args.by; most = length c.args.bytes.now; bytes = c.args.bytes.now } in
    IfOk-weaker c.take_at.result _ _
    (λ u this.
    takes_it c.args.self.now c.args.mem.now c.args.name.now takes_put a c.in-Some.e c.in-Some.endpoint _ c.in-Some.ensures.number c.in-Some.ensures.endpoint
    (sym c.can_put.ensures ∙ c.if-not-can_put.false) c.in_default-refusal.ensures.going c.in_default-refusal.ensures.short this) c.take_at.ensures.accepted

pub returns-clause-refused : goal.returns-clause-refused
returns-clause-refused c =
    let a : Asked = record { sort = sorts.Put; stages = put_stages (length c.args.bytes.now) c.args.by; most = length c.args.bytes.now; bytes = c.args.bytes.now } in
    IfErr-weaker c.take_at.result _ _
    (λ why this.
    takes_it c.args.self.now c.args.mem.now c.args.name.now takes_put a c.in-Some.e c.in-Some.endpoint (Err why) c.in-Some.ensures.number c.in-Some.ensures.endpoint
    (sym c.can_put.ensures ∙ c.if-not-can_put.false) c.in_default-refusal.ensures.going c.in_default-refusal.ensures.short this) c.take_at.ensures.refused
