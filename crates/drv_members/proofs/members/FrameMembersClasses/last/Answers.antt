use Rattle.std.proofs.Common.{None, sym, ap, ◌∙◌, subst}
use Rattle.std.specs.Prelude.{filter}
use Rattle.std.specs.List.{last_or}
use Rattle.drv_members.specs.Ranks.{is_between, class_low, class_high}
use Rattle.drv_members.specs.Members.{IsKept}
use Rattle.drv_members.proofs.Classes.{class_is}
use Rattle.drv_members.proofs.members.FrameMembersClasses.last.Goals as goal

pub returns-clause-last : goal.returns-clause-last
returns-clause-last g c =
    let s = c.args.self.now.schedule in
    let kept : IsKept s = subst (λ m. IsKept m.schedule) c.self.view_is c.self.invariant.0 in
    let qs = c.deref.ensures.value ∙ ap (λ m. m.schedule.queues) c.self.view_is in
    let high = class_high c.args.level c.args.phase in
    c.last_between.ensures ∙ ap (λ low. last_or None (filter (is_between low c.highest_of.result) c.deref.result.now)) c.lowest_of.ensures
    ∙ ap (λ top. last_or None (filter (is_between (class_low c.args.level c.args.phase) top) c.deref.result.now)) c.highest_of.ensures
    ∙ ap (λ xs. last_or None (filter (is_between (class_low c.args.level c.args.phase) high) xs)) qs
    ∙ ap (λ xs. last_or None xs) (sym (class_is s c.args.level c.args.phase c.requires.level c.requires.phase kept))
