use Rattle.std.proofs.Common.{◌≡◌, true, sym, ◌∙◌, arith}
use Rattle.std.proofs.lemmas.Grind.{common_steps}
use Rattle.mem_runs.specs.Book.{holding, Stands, slot_of, has_address}
use Rattle.mem_runs.proofs.Standing.{keeps_all, lends_all, stands_word, kept_not_free, lent_not_free, in_run_from, same_word}
use Rattle.mem_runs.specs.declared.slots.Slot.TheVariants.{Keeps, Lends}
use Rattle.word_mem.specs.declared.blocks.BlockState.TheVariants.{Kept, Lent}
use Rattle.std.proofs.Common.{subst}
use Rattle.mem_runs.proofs.book.RunBook.store.Goals as goal

pub kept_write-requires-clause-kept : goal.kept_write-requires-clause-kept
kept_write-requires-clause-kept c =
    let there : slot_of c.args.self.now.slots c.args.first ≡ Keeps c.in-Some-Keeps.run' = grind (arith, common_steps) in
    keeps_all (holding c.args.self.now c.args.mem.now) c.args.first c.in-Some-Keeps.run' c.requires there

pub shared_write-requires-clause-lent : goal.shared_write-requires-clause-lent
shared_write-requires-clause-lent c =
    let there : slot_of c.args.self.now.slots c.args.first ≡ Lends c.in-Some-Lends.run' = grind (arith, common_steps) in
    lends_all (holding c.args.self.now c.args.mem.now) c.args.first c.in-Some-Lends.run' c.requires there

pub returns-then-is_in-clause-stands : goal.returns-then-is_in-clause-stands
returns-then-is_in-clause-stands c =
    let there : slot_of c.args.self.now.slots c.args.first ≡ Keeps c.in-Some-Keeps.run' = grind (arith, common_steps) in
    let inside : has_address c.in-Some-Keeps.run' c.args.at ≡ true = grind (arith, common_steps) in
    subst (λ m. Stands (holding c.args.self.now m)) (sym (c.kept_write.ensures.memory ∙ same_word c.args.mem.now c.args.at c.args.v))
    (stands_word (holding c.args.self.now c.args.mem.now) c.in-Some-Keeps.run' Kept c.args.at c.args.v c.requires kept_not_free
    (keeps_all (holding c.args.self.now c.args.mem.now) c.args.first c.in-Some-Keeps.run' c.requires there) (in_run_from c.in-Some-Keeps.run' c.args.at inside))

pub returns-then-is_in-2-clause-stands : goal.returns-then-is_in-2-clause-stands
returns-then-is_in-2-clause-stands c =
    let there : slot_of c.args.self.now.slots c.args.first ≡ Lends c.in-Some-Lends.run' = grind (arith, common_steps) in
    let inside : has_address c.in-Some-Lends.run' c.args.at ≡ true = grind (arith, common_steps) in
    subst (λ m. Stands (holding c.args.self.now m)) (sym (c.shared_write.ensures.memory ∙ same_word c.args.mem.now c.args.at c.args.v))
    (stands_word (holding c.args.self.now c.args.mem.now) c.in-Some-Lends.run' Lent c.args.at c.args.v c.requires lent_not_free
    (lends_all (holding c.args.self.now c.args.mem.now) c.args.first c.in-Some-Lends.run' c.requires there) (in_run_from c.in-Some-Lends.run' c.args.at inside))
