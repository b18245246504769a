use Rattle.std.proofs.Common.{leb, None, sym, ap, ◌∙◌, subst}
use Rattle.std.specs.Prelude.{filter}
use Rattle.std.specs.List.{last_or, before_first}
use Rattle.drv_members.specs.Ranks.{is_called}
use Rattle.drv_members.specs.Members.{IsKept, frame_in, word_in_frame}
use Rattle.drv_members.proofs.Keeping.{descriptor_at}
use Rattle.drv_members.proofs.Around.{ahead_descriptor}
use Rattle.drv_members.proofs.members.FrameMembers.word_ahead.Goals as goal

pub returns-clause-word : goal.returns-clause-word
returns-clause-word g c =
    let s = c.args.self.now.schedule in
    let d = c.args.descriptor.now in
    let kept : IsKept s = subst (λ m. IsKept m.schedule) c.self.view_is c.self.invariant.0 in
    let ds = c.deref.ensures.value ∙ ap (λ m. m.schedule.descriptors) c.self.view_is in
    let found = c.last_ahead-ahead.ensures ∙ ap (λ xs. last_or None (filter (λ x. leb d.frame (frame_in x)) (before_first (is_called d.id) xs))) ds in
    c.word_of.ensures ∙ ap (λ o. word_in_frame d.frame o) found ∙ sym (ahead_descriptor s d kept (descriptor_at s d kept c.requires.linked))
