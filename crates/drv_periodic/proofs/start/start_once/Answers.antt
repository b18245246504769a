use Rattle.std.proofs.Common.{[], ◌∷◌, map, ap, sym, ◌∙◌}
use Rattle.drv_search.specs.Search.{word_of}
use Rattle.drv_members.proofs.Keeping.{descriptor_at}
use Rattle.drv_periodic.proofs.Words.{descriptor_words}
use Rattle.drv_periodic.proofs.start.start_once.Goals as goal

pub returns-clause-words : goal.returns-clause-words
returns-clause-words g c =
    let s = c.args.members.now.schedule in
    descriptor_words s c.args.descriptor.now c.requires.frame (descriptor_at s c.args.descriptor.now c.word_ahead.ensures.kept c.requires.linked)
    ∙ ap (λ w. w ∷ []) (sym c.word_ahead.ensures.word) ∙ ap (λ ws. c.word_ahead.result ∷ map (word_of s) ws) (sym (c.nothing.ensures.left s))
