use Rattle.std.proofs.Common.{◌≡◌, true, false, nat_eq, take, drop, sym, ap, ◌∙◌, subst}
use Rattle.std.specs.Prelude.{option_map, filter, not}
use Rattle.std.specs.List.{find}
use Rattle.drv_chains.specs.declared.members.Member.TheVariants.{Once, Each}
use Rattle.drv_chains.specs.Chains.{has_name, id_of, is_active, successor}
use Rattle.drv_members.specs.Ranks.{rank_of, is_queue}
use Rattle.drv_members.specs.Members.{IsKept, IsMember, is_up_to, is_below, with_member, frame_in, frame_of, first_of_both}
use Rattle.drv_members.proofs.Around.{behind_new_queue, behind_new_descriptor}
use Rattle.drv_members.proofs.members.FrameMembers.behind_new.Goals as goal

pub returns-in-Once-clause-behind : goal.returns-in-Once-clause-behind
returns-in-Once-clause-behind g c =
    let s = c.args.self.now.schedule in
    let d = c.in-Once.descriptor in
    let kept : IsKept s = subst (λ m. IsKept m.schedule) c.self.view_is c.self.invariant.0 in
    let new : has_name s d.id ≡ false = subst (λ m. has_name s (id_of m) ≡ false) c.in-Once.is c.requires.new in
    let low : IsMember (Once d) = subst IsMember c.in-Once.is c.requires.member in
    let ds = c.deref.ensures.value ∙ ap (λ m. m.schedule.descriptors) c.self.view_is in
    let back = ap (λ xs. drop c.below-place.result xs) (sym ds) ∙ c.below-place.ensures.back ∙ ap (λ xs. filter (λ x. not (is_below d.frame x)) xs) ds in
    c.in_frame_from.ensures ∙ ap (λ xs. first_of_both (find (λ x. nat_eq (frame_in x) d.frame) (take 1 xs)) (find (is_active d.frame) s.queues)) back
    ∙ sym (behind_new_descriptor s d kept low new)
    ∙ ap (λ m. successor (with_member s m) m (frame_of m)) (sym c.in-Once.is)

pub returns-in-Each-clause-behind : goal.returns-in-Each-clause-behind
returns-in-Each-clause-behind g c =
    let s = c.args.self.now.schedule in
    let q = c.in-Each.queue in
    let kept : IsKept s = subst (λ m. IsKept m.schedule) c.self.view_is c.self.invariant.0 in
    let new : has_name s q.id ≡ false = subst (λ m. has_name s (id_of m) ≡ false) c.in-Each.is c.requires.new in
    let queue : is_queue q ≡ true = subst IsMember c.in-Each.is c.requires.member in
    let qs = c.deref-in-Each.ensures.value ∙ ap (λ m. m.schedule.queues) c.self.view_is in
    let rs = c.deref-in-Each-2.ensures.value ∙ ap (λ m. m.schedule.queues) c.self.view_is in
    let back =
    ap (λ xs. drop c.up_to-place.result xs) (rs ∙ sym qs) ∙ c.up_to-place.ensures.back ∙ ap (λ r. filter (λ x. not (is_up_to r x)) c.deref-in-Each.result.now) c.rank_of_queue.ensures
    ∙ ap (λ xs. filter (λ x. not (is_up_to (rank_of q) x)) xs) qs in
    c.each.ensures ∙ ap (λ o. option_map Each o) (c.first_from.ensures ∙ ap (λ xs. find (is_active q.phase) xs) back)
    ∙ sym (behind_new_queue s q kept queue new)
    ∙ ap (λ m. successor (with_member s m) m (frame_of m)) (sym c.in-Each.is)
