use Rattle.std.proofs.Common.{◌≡◌, ◌+◌, ℕ, None, Err, rules, refl, ap, sym, ◌∙◌}
use Rattle.std.proofs.lemmas.Result.{IfOk-weaker, IfErr-weaker}
use Rattle.drv_table.specs.IsoOffers.{spans_too_long}
use Rattle.ehci_driver.proofs.Isochronous.{iso_too_long, iso_taken}
use Rattle.ehci_driver.proofs.driver.Driver.offer_iso.Goals as goal

pub returns-then-spans_too_long-clause-refused : goal.returns-then-spans_too_long-clause-refused
returns-then-spans_too_long-clause-refused c =
    let x = c.in-Some.endpoint in
    let kind = sym c.is_isochronous.ensures ∙ c.if-not-is_isochronous.false in
    let going : x.ended ≡ None = search rules in
    let long = ap (λ (w : ℕ). spans_too_long x (c.args.count + w)) (sym c.count_waiting.ensures.count) ∙ sym (c.spans_too_long.ensures x refl) ∙ c.if-spans_too_long.true in
    iso_too_long c.args.self.now c.args.mem.now c.args.name.now c.in-Some.e x c.args.count c.args.len c.args.seed c.in-Some.ensures.number c.in-Some.ensures.endpoint kind going long

pub returns-in-Some-slots_of-clause-accepted : goal.returns-in-Some-slots_of-clause-accepted
returns-in-Some-slots_of-clause-accepted c =
    let x = c.in-Some.endpoint in
    let kind = sym c.is_isochronous.ensures ∙ c.if-not-is_isochronous.false in
    let going : x.ended ≡ None = search rules in
    let short = ap (λ (w : ℕ). spans_too_long x (c.args.count + w)) (sym c.count_waiting.ensures.count) ∙ sym (c.spans_too_long.ensures x refl) ∙ c.if-spans_too_long.false in
    IfOk-weaker c.take_iso.result _ _
    (λ u this.
    iso_taken c.args.self.now c.args.mem.now c.args.name.now c.in-Some.e x c.in-Some-slots_of.slots c.args.count c.args.len c.args.seed _ c.in-Some.ensures.number c.in-Some.ensures.endpoint
    kind going short c.in-Some-slots_of.ensures.some c.in-Some-slots_of.ensures.slots this) c.take_iso.ensures.accepted

pub returns-in-Some-slots_of-clause-refused : goal.returns-in-Some-slots_of-clause-refused
returns-in-Some-slots_of-clause-refused c =
    let x = c.in-Some.endpoint in
    let kind = sym c.is_isochronous.ensures ∙ c.if-not-is_isochronous.false in
    let going : x.ended ≡ None = search rules in
    let short = ap (λ (w : ℕ). spans_too_long x (c.args.count + w)) (sym c.count_waiting.ensures.count) ∙ sym (c.spans_too_long.ensures x refl) ∙ c.if-spans_too_long.false in
    IfErr-weaker c.take_iso.result _ _
    (λ why this.
    iso_taken c.args.self.now c.args.mem.now c.args.name.now c.in-Some.e x c.in-Some-slots_of.slots c.args.count c.args.len c.args.seed (Err why) c.in-Some.ensures.number c.in-Some.ensures.endpoint
    kind going short c.in-Some-slots_of.ensures.some c.in-Some-slots_of.ensures.slots this) c.take_iso.ensures.refused
