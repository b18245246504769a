use Rattle.std.proofs.Common.{◌≡◌, sym, ap, subst, ◌∙◌, arith, length, set, length-append, ◌∷◌, [], ◌++◌}
use Rattle.std.proofs.lemmas.List.{length-set}
use Rattle.mem_runs.specs.Book.{Book, holding, Stands, with_run, IsTakenFrom, one_more}
use Rattle.mem_runs.proofs.Changed.{kept_few}
use Rattle.mem_runs.proofs.Standing.{stands_taken, made_book, same_holding}
use Rattle.word_mem.proofs.FreeTail.{run_within}
use Rattle.mem_runs.specs.declared.slots.Slot.TheVariants.{Keeps}
use Rattle.mem_runs.proofs.book.RunBook.take.Goals as goal

pub push_reserved-requires : goal.push_reserved-requires
push_reserved-requires c =
    let h = holding c.args.self.now c.args.mem.now in
    let r = c.in_ok-run.run' in
    let after = stands_taken h c.args.n r c.requires.stands c.in_ok-run.ensures.run in
    omega (arith, after.few, kept_few (set c.args.self.now.slots r.first (Keeps r)), length-set c.args.self.now.slots r.first (Keeps r), length-append c.args.self.now.taken (r.first ∷ []), c.self.invariant, ap (λ (k : Book). length k.slots) c.self.view_is, ap (λ (k : Book). length k.taken) c.self.view_is)

pub put-requires : goal.put-requires
put-requires c =
    let r = c.in_ok-run.run' in
    let inside = run_within c.args.mem.now.states r.first c.args.n c.in_ok-run.ensures.run.1.free_run in
    omega (arith, inside, c.in_ok-run.ensures.run.0, c.requires.at_least, c.requires.stands.sizes, ap (λ (k : Book). length k.slots) c.self.view_is, c.first-first.ensures.first)

pub returns-clause-stands : goal.returns-clause-stands
returns-clause-stands c =
    let h = holding c.args.self.now c.args.mem.now in
    let r = c.in_ok-run.run' in
    let slots : c.self.inside.slots.items ≡ c.args.self.now.slots = ap (λ (k : Book). k.slots) c.self.view_is in
    let before : c.self.inside.taken.items ≡ c.args.self.now.taken = ap (λ (k : Book). k.taken) c.self.view_is in
    let taken : c.push_reserved.new.self.items ≡ c.args.self.now.taken ++ r.first ∷ [] =
    c.push_reserved.ensures.items ∙ ap (λ t. t ++ c.first-first.result ∷ []) before ∙ ap (λ f. c.args.self.now.taken ++ f ∷ []) c.first-first.ensures.first in
    let book : c.put.new.self ≡ (with_run h r).book = c.put.ensures ∙ made_book c.self.inside.slots.items c.args.self.now.slots c.push_reserved.new.self.items (c.args.self.now.taken ++ r.first ∷ []) c.first-first.result r.first (Keeps r) slots taken c.first-first.ensures.first in
    subst Stands (sym (same_holding c.put.new.self (with_run h r).book c.take.new.self (with_run h r).memory book c.in_ok-run.ensures.memory))
    (stands_taken h c.args.n r c.requires.stands c.in_ok-run.ensures.run)

pub returns-clause-from : goal.returns-clause-from
returns-clause-from c =
    λ start from.
    let h = holding c.args.self.now c.args.mem.now in
    let r = c.in_ok-run.run' in
    let slots : c.self.inside.slots.items ≡ c.args.self.now.slots = ap (λ (k : Book). k.slots) c.self.view_is in
    let before : c.self.inside.taken.items ≡ c.args.self.now.taken = ap (λ (k : Book). k.taken) c.self.view_is in
    let taken : c.push_reserved.new.self.items ≡ c.args.self.now.taken ++ r.first ∷ [] =
    c.push_reserved.ensures.items ∙ ap (λ t. t ++ c.first-first.result ∷ []) before ∙ ap (λ f. c.args.self.now.taken ++ f ∷ []) c.first-first.ensures.first in
    let book : c.put.new.self ≡ (with_run h r).book = c.put.ensures ∙ made_book c.self.inside.slots.items c.args.self.now.slots c.push_reserved.new.self.items (c.args.self.now.taken ++ r.first ∷ []) c.first-first.result r.first (Keeps r) slots taken c.first-first.ensures.first in
    subst (λ g. IsTakenFrom start g) (sym (same_holding c.put.new.self (with_run h r).book c.take.new.self (with_run h r).memory book c.in_ok-run.ensures.memory))
    (one_more h c.args.n r from c.requires.stands c.words-words.ensures.shape c.in_ok-run.ensures.run)
