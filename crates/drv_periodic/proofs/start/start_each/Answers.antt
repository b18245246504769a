use Rattle.std.proofs.Common.{◌-◌, ◌∷◌, ◌++◌, map, ap, sym, ◌∙◌}
use Rattle.std.specs.Prelude.{option_to_list}
use Rattle.drv_chains.specs.declared.members.Member.TheVariants.{Each}
use Rattle.drv_chains.specs.declared.members.Predecessor.TheVariants.{After}
use Rattle.drv_search.specs.Search.{word_of, words_left, found_below}
use Rattle.drv_members.specs.Members.{words_ahead}
use Rattle.drv_periodic.proofs.Words.{each_words}
use Rattle.drv_periodic.proofs.start.start_each.Goals as goal

pub returns-in-Some-clause-words : goal.returns-in-Some-clause-words
returns-in-Some-clause-words g c =
    let s = c.args.members.now.schedule in
    let level = c.level_of-level.result in
    let q = c.args.queue.now in
    each_words s level q c.ahead_in_class.result c.ahead_in_class.ensures.kept c.level_of-level.ensures.most c.level_of-level.ensures.phase c.level_of-level.ensures.class c.requires.linked c.ahead_in_class.ensures.ahead
    ∙ ap (λ o. words_ahead o (map (word_of s) (found_below s (10 - level) level q.phase))) c.in-Some.is ∙ ap (λ ws. After (Each c.in-Some.before) ∷ map (word_of s) ws) (sym (c.nothing.ensures.left s))

pub returns-in-Some-next-clause-words : goal.returns-in-Some-next-clause-words
returns-in-Some-next-clause-words g c =
    let s = c.args.members.now.schedule in
    let level = c.level_of-level.result in
    let q = c.args.queue.now in
    each_words s level q c.ahead_in_class.result c.ahead_in_class.ensures.kept c.level_of-level.ensures.most c.level_of-level.ensures.phase c.level_of-level.ensures.class c.requires.linked c.ahead_in_class.ensures.ahead
    ∙ ap (λ o. words_ahead o (map (word_of s) (found_below s (10 - level) level q.phase))) c.in_default.is
    ∙ ap (λ ws. map (word_of s) ws) (sym (c.below-search.ensures.left s) ∙ c.next.ensures.left ∙ ap (λ o. option_to_list o ++ words_left s c.next.new.self) c.in-Some-next.is)
    ∙ ap (λ w. w ∷ map (word_of s) (words_left s c.next.new.self)) (sym c.word_found.ensures)
