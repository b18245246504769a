use Rattle.std.proofs.Common.{◌≡◌, ◌+◌, true, nat_eq, take, drop, sym, ap, ◌∙◌, subst, refl}
use Rattle.std.specs.Prelude.{option_map}
use Rattle.std.specs.List.{find}
use Rattle.std.proofs.lemmas.Bool.{eq-eqb}
use Rattle.drv_chains.specs.declared.members.Member.TheVariants.{Once, Each}
use Rattle.drv_chains.specs.Chains.{is_active, successor}
use Rattle.drv_members.specs.Ranks.{is_named, is_called, is_queue}
use Rattle.drv_members.specs.Members.{IsKept, IsMember, is_linked, frame_in, frame_of, first_of_both}
use Rattle.drv_members.proofs.Splits.{back_of}
use Rattle.drv_members.proofs.Keeping.{queue_at, descriptor_at}
use Rattle.drv_members.proofs.Around.{behind_queue, behind_descriptor}
use Rattle.drv_members.proofs.members.FrameMembers.behind.Goals as goal

pub returns-in-Once-clause-behind : goal.returns-in-Once-clause-behind
returns-in-Once-clause-behind g c =
    let s = c.args.self.now.schedule in
    let d = c.in-Once.descriptor in
    let kept : IsKept s = subst (λ m. IsKept m.schedule) c.self.view_is c.self.invariant.0 in
    let linked : is_linked s (Once d) ≡ true = subst (λ m. is_linked s m ≡ true) c.in-Once.is c.requires.linked in
    let at = descriptor_at s d kept linked in
    let ds = c.deref.ensures.value ∙ ap (λ m. m.schedule.descriptors) c.self.view_is in
    let back = ap (λ n. drop (n + 1) s.descriptors) c.place_of-place.ensures.place ∙ back_of (is_called d.id) d s.descriptors c.deref.result.now ds at (eq-eqb d.id d.id refl) in
    c.in_frame_from.ensures ∙ ap (λ xs. first_of_both (find (λ x. nat_eq (frame_in x) d.frame) (take 1 xs)) (find (is_active d.frame) s.queues)) back
    ∙ sym (behind_descriptor s d kept at) ∙ ap (λ m. successor s m (frame_of m)) (sym c.in-Once.is)

pub returns-in-Each-clause-behind : goal.returns-in-Each-clause-behind
returns-in-Each-clause-behind g c =
    let s = c.args.self.now.schedule in
    let q = c.in-Each.queue in
    let kept : IsKept s = subst (λ m. IsKept m.schedule) c.self.view_is c.self.invariant.0 in
    let linked : is_linked s (Each q) ≡ true = subst (λ m. is_linked s m ≡ true) c.in-Each.is c.requires.linked in
    let queue : is_queue q ≡ true = subst IsMember c.in-Each.is c.requires.member in
    let at = queue_at s q kept linked in
    let qs = c.deref-in-Each.ensures.value ∙ ap (λ m. m.schedule.queues) c.self.view_is in
    let rs = c.deref-in-Each-2.ensures.value ∙ ap (λ m. m.schedule.queues) c.self.view_is in
    let back = ap (λ n. drop (n + 1) s.queues) c.place_of-place-in-Each.ensures.place ∙ back_of (is_named q.id) q s.queues c.deref-in-Each.result.now qs at (eq-eqb q.id q.id refl) in
    c.each.ensures
    ∙ ap (λ o. option_map Each o) (c.first_from.ensures ∙ ap (λ xs. find (is_active q.phase) (drop (c.place_of-place-in-Each.result + 1) xs)) rs ∙ ap (λ xs. find (is_active q.phase) xs) back)
    ∙ sym (behind_queue s q kept queue at) ∙ ap (λ m. successor s m (frame_of m)) (sym c.in-Each.is)
