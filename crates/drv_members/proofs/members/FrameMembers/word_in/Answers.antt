use Rattle.std.proofs.Common.{nat_eq, None, sym, ap, ◌∙◌}
use Rattle.std.specs.Prelude.{filter}
use Rattle.std.specs.List.{last_or}
use Rattle.drv_chains.specs.Chains.{descriptors_in}
use Rattle.drv_members.specs.Members.{frame_in, word_in_frame}
use Rattle.drv_members.proofs.Around.{last_once}
use Rattle.drv_members.proofs.members.FrameMembers.word_in.Goals as goal

pub returns : goal.returns
returns g c =
    let s = c.args.self.now.schedule in
    let f = c.args.frame in
    let ds = c.deref.ensures.value ∙ ap (λ m. m.schedule.descriptors) c.self.view_is in
    let found = c.last_in.ensures ∙ ap (λ xs. last_or None (filter (λ x. nat_eq (frame_in x) f) xs)) ds in
    c.word_of.ensures ∙ ap (λ o. word_in_frame f o) found ∙ sym (last_once f (descriptors_in s f))
