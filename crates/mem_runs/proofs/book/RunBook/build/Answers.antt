use Rattle.std.proofs.Common.{◌≡◌, ◌/◌, ℕ, [], length, replicate, sym, ap, subst, ◌∙◌}
use Rattle.word_mem.specs.Memory.{fresh}
use Rattle.mem_runs.specs.Book.{Book, holding, Stands}
use Rattle.mem_runs.specs.declared.slots.Slot.TheVariants.{Empty}
use Rattle.mem_runs.proofs.NewBook.{stands_new}
use Rattle.mem_runs.proofs.book.RunBook.build.Goals as goal

pub returns-clause-stands : goal.returns-clause-stands
returns-clause-stands c =
    let n = length c.args.mem.now.words in
    let new : ℕ → Book = λ k. record { slots = replicate (k / 8) Empty; taken = [] } in
    let book : c.in_ok-book.book ≡ new n = c.in_ok-book.ensures ∙ ap new c.words-words.ensures.words in
    subst (λ m. Stands (holding c.in_ok-book.book m)) (sym c.requires) (subst (λ k. Stands (holding k (fresh n))) (sym book) (stands_new n))
