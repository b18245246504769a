use Rattle.std.proofs.Common.{◌≡◌, [], ◌∷◌, ◌++◌, Some, None, ap, sym, ◌∙◌, subst, arith}
use Rattle.std.specs.Prelude.{option_to_list}
use Rattle.drv_search.specs.Search.{words_left}
use Rattle.drv_periodic.specs.Periodic.{after_store, progress_of, progress_by}
use Rattle.drv_periodic.specs.Tasks.{IsTask, AreTasks, works_of}
use Rattle.drv_periodic.proofs.Steps.{more_left, none_left, made_few, after_more, after_last, progress_more, progress_last, next_is_task}
use Rattle.drv_periodic.proofs.list.PeriodicList.advance_counted.Goals as goal

pub next_task-requires : goal.next_task-requires
next_task-requires g c =
    let s = c.self.inside.members.schedule in
    let t = c.in-Some.task in
    let k : IsTask s t = subst (λ o. AreTasks s o) c.in-Some.is c.self.invariant in
    let few = made_few s t k in
    omega (arith, few)

pub invariant_of-self : goal.invariant_of-self
invariant_of-self g c =
    let s = c.self.inside.members.schedule in
    let t = c.in-Some.task in
    let k : IsTask s t = subst (λ o. AreTasks s o) c.in-Some.is c.self.invariant in
    let e : words_left s t.search ≡ c.in-Some-next.found ∷ words_left s c.next.new.self = c.next.ensures.left ∙ ap (λ o. option_to_list o ++ words_left s c.next.new.self) c.in-Some-next.is in
    subst (λ x. IsTask s x) (sym c.next_task.ensures)
    (next_is_task s t c.in-Some-next.found c.word_found-word.result c.next.new.self k e c.word_found-word.ensures c.next.ensures.valid)

pub returns-in-Some-next-clause-list : goal.returns-in-Some-next-clause-list
returns-in-Some-next-clause-list g c =
    let s = c.self.inside.members.schedule in
    let t = c.in-Some.task in
    let k : IsTask s t = subst (λ o. AreTasks s o) c.in-Some.is c.self.invariant in
    let e : words_left s t.search ≡ c.in-Some-next.found ∷ words_left s c.next.new.self = c.next.ensures.left ∙ ap (λ o. option_to_list o ++ words_left s c.next.new.self) c.in-Some-next.is in
    ap (λ x. record { list = c.self.inside.list; members = c.self.inside.members; work = Some x.work }) c.next_task.ensures
    ∙ after_more c.self.inside.list c.self.inside.members t.work (more_left s t c.in-Some-next.found (words_left s c.next.new.self) k e)
    ∙ ap (λ o. after_store (record { list = c.self.inside.list; members = c.self.inside.members; work = works_of o })) (sym c.in-Some.is) ∙ ap after_store c.self.view_is

pub returns-in-Some-next-clause-progress : goal.returns-in-Some-next-clause-progress
returns-in-Some-next-clause-progress g c =
    let s = c.self.inside.members.schedule in
    let t = c.in-Some.task in
    let k : IsTask s t = subst (λ o. AreTasks s o) c.in-Some.is c.self.invariant in
    let e : words_left s t.search ≡ c.in-Some-next.found ∷ words_left s c.next.new.self = c.next.ensures.left ∙ ap (λ o. option_to_list o ++ words_left s c.next.new.self) c.in-Some-next.is in
    progress_more s t.work (more_left s t c.in-Some-next.found (words_left s c.next.new.self) k e) ∙ ap (λ o. progress_by s (works_of o)) (sym c.in-Some.is) ∙ ap progress_of c.self.view_is

pub returns-in-None-clause-list : goal.returns-in-None-clause-list
returns-in-None-clause-list g c =
    let s = c.self.inside.members.schedule in
    let t = c.in-Some.task in
    let k : IsTask s t = subst (λ o. AreTasks s o) c.in-Some.is c.self.invariant in
    let e : words_left s t.search ≡ [] = c.next.ensures.end c.in-None.is in
    ap (λ m. record { list = c.self.inside.list; members = m; work = None }) c.finish.ensures
    ∙ after_last c.self.inside.list c.self.inside.members t.work (none_left s t k e)
    ∙ ap (λ o. after_store (record { list = c.self.inside.list; members = c.self.inside.members; work = works_of o })) (sym c.in-Some.is) ∙ ap after_store c.self.view_is

pub returns-in-None-clause-progress : goal.returns-in-None-clause-progress
returns-in-None-clause-progress g c =
    let s = c.self.inside.members.schedule in
    let t = c.in-Some.task in
    let k : IsTask s t = subst (λ o. AreTasks s o) c.in-Some.is c.self.invariant in
    let e : words_left s t.search ≡ [] = c.next.ensures.end c.in-None.is in
    progress_last s t.work (none_left s t k e) ∙ ap (λ o. progress_by s (works_of o)) (sym c.in-Some.is) ∙ ap progress_of c.self.view_is
