use Rattle.std.proofs.Common.{leb, None, sym, ap, ◌∙◌, subst}
use Rattle.std.specs.Prelude.{filter}
use Rattle.std.specs.List.{last_or, before_first}
use Rattle.drv_members.specs.Ranks.{rank_of, is_named, class_low}
use Rattle.drv_members.specs.Members.{IsKept, words_ahead}
use Rattle.drv_members.proofs.Keeping.{queue_at}
use Rattle.drv_members.proofs.Around.{ahead_queue}
use Rattle.drv_members.proofs.members.FrameMembers.ahead_in_class.Goals as goal

pub returns-clause-ahead : goal.returns-clause-ahead
returns-clause-ahead g c = λ others.
    let s = c.args.self.now.schedule in
    let q = c.args.queue.now in
    let kept : IsKept s = subst (λ m. IsKept m.schedule) c.self.view_is c.self.invariant.0 in
    let qs = c.deref.ensures.value ∙ ap (λ m. m.schedule.queues) c.self.view_is in
    let found =
    c.last_ahead.ensures ∙ ap (λ low. last_or None (filter (λ x. leb low (rank_of x)) (before_first (is_named q.id) c.deref.result.now))) c.lowest_of.ensures
    ∙ ap (λ xs. last_or None (filter (λ x. leb (class_low c.args.level q.phase) (rank_of x)) (before_first (is_named q.id) xs))) qs in
    ahead_queue s c.args.level q others kept (queue_at s q kept c.requires.linked) c.requires.level c.requires.phase c.requires.queue c.requires.class ∙ ap (λ o. words_ahead o others) (sym found)
