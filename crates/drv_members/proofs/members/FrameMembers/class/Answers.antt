use Rattle.std.proofs.Common.{◌≤◌, sym, ap, ◌∙◌, subst, arith}
use Rattle.std.specs.Prelude.{filter, count_by}
use Rattle.drv_members.specs.Ranks.{is_between, is_named, class_low, class_high}
use Rattle.drv_members.specs.Members.{IsKept}
use Rattle.drv_members.proofs.Splits.{count_fewer}
use Rattle.drv_members.proofs.Classes.{class_is}
use Rattle.drv_members.proofs.members.FrameMembers.class.Goals as goal

pub returns-clause-class : goal.returns-clause-class
returns-clause-class c =
    let s = c.args.self.now.schedule in
    let kept : IsKept s = subst (λ m. IsKept m.schedule) c.self.view_is c.self.invariant.0 in
    let qs = c.deref.ensures.value ∙ ap (λ m. m.schedule.queues) c.self.view_is in
    let high = class_high c.args.level c.args.phase in
    c.between.ensures ∙ ap (λ low. filter (is_between low c.highest_of.result) c.deref.result.now) c.lowest_of.ensures
    ∙ ap (λ top. filter (is_between (class_low c.args.level c.args.phase) top) c.deref.result.now) c.highest_of.ensures
    ∙ ap (λ xs. filter (is_between (class_low c.args.level c.args.phase) high) xs) qs
    ∙ sym (class_is s c.args.level c.args.phase c.requires.level c.requires.phase kept)

pub returns-clause-once : goal.returns-clause-once
returns-clause-once c = λ id.
    let s = c.args.self.now.schedule in
    let kept : IsKept s = subst (λ m. IsKept m.schedule) c.self.view_is c.self.invariant.0 in
    let qs = c.deref.ensures.value ∙ ap (λ m. m.schedule.queues) c.self.view_is in
    let of_class = is_between c.lowest_of.result c.highest_of.result in
    let few = count_fewer (is_named id) of_class s.queues in
    let one = kept.named id in
    subst (λ xs. count_by (is_named id) xs ≤ 1) (sym (c.between.ensures ∙ ap (λ xs. filter of_class xs) qs)) (omega (arith, few, one))
