use Rattle.std.proofs.Common.{List, sym, ap, ◌∙◌, set, set-set}
use Rattle.std.specs.Prelude.{Some, None, Option}
use Rattle.bandwidth.specs.Tables.{HubTables, AreZero}
use Rattle.bandwidth.proofs.Budgets.{own_at}
use Rattle.bandwidth.proofs.Pools.{less_alone, less_some, less_holds, holds_if_as, less_kept, less_freed, less_zero, adds_as, if_at, some_at, at_taken}
use Rattle.bandwidth.proofs.accounts.sub_below.Goals as goal

pub returns-in_default-clause-pool : goal.returns-in_default-clause-pool
returns-in_default-clause-pool c =
    let was = c.requires.was in less_alone _ was.all c.args.placed.now c.args.pool.now (sym c.in_default.ensures) was.less was.pool

pub sub-requires-clause-some : goal.sub-requires-clause-some
sub-requires-clause-some c =
    let was = c.requires.was in
    let own = own_at c.args.want.now c.in-Some.translator c.requires.want.tt (sym c.translator_for.ensures ∙ c.in-Some.is) in
    less_some _ was.all c.args.placed.now c.args.pool.now c.in-Some.translator own c.is_served-served.ensures.number was.less was.pool

pub sub-requires-clause-holds : goal.sub-requires-clause-holds
sub-requires-clause-holds c =
    let was = c.requires.was in
    let own = own_at c.args.want.now c.in-Some.translator c.requires.want.tt (sym c.translator_for.ensures ∙ c.in-Some.is) in
    holds_if_as _ _ _ _ c.args.placement.now _ c.time_in_frame.ensures.time c.byte_times_of.ensures.laid
    (less_holds _ was.all c.args.placed.now c.args.pool.now c.in-Some.translator own c.is_served-served.ensures.number was.less was.pool)

pub returns-then-served-clause-pool : goal.returns-then-served-clause-pool
returns-then-served-clause-pool c =
    let was = c.requires.was in
    let own = own_at c.args.want.now c.in-Some.translator c.requires.want.tt (sym c.translator_for.ensures ∙ c.in-Some.is) in
    let at = c.sub.ensures.takes in
    less_kept _ was.all c.args.placed.now c.args.pool.now c.sub.new.self c.in-Some.translator at.was at.now own
    c.is_served-served.ensures.number was.less was.pool at.had at.cells
    (adds_as _ _ _ _ c.args.placement.now at.now at.was c.time_in_frame.ensures.time c.byte_times_of.ensures.laid at.adds)
    at.hubs
    (sym c.is_served-served.ensures.served ∙ c.if-served.true)

pub give_back-requires-clause-some : goal.give_back-requires-clause-some
give_back-requires-clause-some c =
    let at = c.sub.ensures.takes in
    some_at _ at.now
    (at_taken c.args.pool.now c.sub.new.self c.in-Some.translator _ _ _ c.requires.was.pool.count c.is_served-served.ensures.number at)

pub give_back-requires-clause-zero : goal.give_back-requires-clause-zero
give_back-requires-clause-zero c =
    let was = c.requires.was in
    let own = own_at c.args.want.now c.in-Some.translator c.requires.want.tt (sym c.translator_for.ensures ∙ c.in-Some.is) in
    let at = c.sub.ensures.takes in
    if_at AreZero _ at.now
    (at_taken c.args.pool.now c.sub.new.self c.in-Some.translator _ _ _ was.pool.count c.is_served-served.ensures.number at)
    (less_zero _ was.all c.args.placed.now c.args.pool.now c.in-Some.translator at.was at.now own c.is_served-served.ensures.number
    was.less was.pool at.had at.cells
    (adds_as _ _ _ _ c.args.placement.now at.now at.was c.time_in_frame.ensures.time c.byte_times_of.ensures.laid at.adds)
    (sym c.is_served-served.ensures.served ∙ c.if-served.false))

pub returns-clause-pool : goal.returns-clause-pool
returns-clause-pool c =
    let was = c.requires.was in
    let own = own_at c.args.want.now c.in-Some.translator c.requires.want.tt (sym c.translator_for.ensures ∙ c.in-Some.is) in
    let at = c.sub.ensures.takes in
    less_freed _ was.all c.args.placed.now c.args.pool.now c.give_back.new.self c.in-Some.translator own c.is_served-served.ensures.number
    was.less was.pool
    (c.give_back.ensures.hubs
    ∙ ap (λ (xs : List (Option HubTables)). set xs c.in-Some.translator None) at.hubs
    ∙ set-set c.args.pool.now.hubs c.in-Some.translator (Some at.now) None)
    (sym c.is_served-served.ensures.served ∙ c.if-served.false)
