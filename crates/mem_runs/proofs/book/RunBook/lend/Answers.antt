use Rattle.std.proofs.Common.{◌≡◌, sym, ap, subst, ◌∙◌, arith, refl, length}
use Rattle.std.proofs.lemmas.Grind.{common_steps}
use Rattle.word_mem.specs.declared.blocks.BlockState.TheVariants.{Lent}
use Rattle.word_mem.specs.Memory.{with_states}
use Rattle.mem_runs.specs.Book.{Book, holding, Stands, slot_of, with_slot}
use Rattle.mem_runs.proofs.Standing.{keeps_all, keeps_within, lends_within, stands_lent, same_holding, lent_keeps, lent_lends, put_changed, put_back}
use Rattle.mem_runs.specs.declared.slots.Slot.TheVariants.{Empty, Keeps, Lends}
use Rattle.std.proofs.lemmas.List.{length-set}
use Rattle.mem_runs.proofs.book.RunBook.lend.Goals as goal

pub lend-run-requires : goal.lend-run-requires
lend-run-requires c =
    let there : slot_of c.args.self.now.slots c.args.first ≡ Keeps c.in-Keeps.run' = grind (arith, common_steps) in
    keeps_all (holding c.args.self.now c.args.mem.now) c.args.first c.in-Keeps.run' c.requires.stands there

pub put-requires : goal.put-requires
put-requires c =
    let there : slot_of c.args.self.now.slots c.args.first ≡ Keeps c.in-Keeps.run' = grind (arith, common_steps) in
    omega (arith, keeps_within c.args.self.now.slots c.args.first c.in-Keeps.run' there, length-set c.args.self.now.slots c.args.first Empty, ap (λ (k : Book). length k.slots) c.withdraw.ensures.book)

pub put-requires-in-Lends : goal.put-requires-in-Lends
put-requires-in-Lends c =
    let there : slot_of c.args.self.now.slots c.args.first ≡ Lends c.in-Lends.run' = grind (arith, common_steps) in
    omega (arith, lends_within c.args.self.now.slots c.args.first c.in-Lends.run' there, length-set c.args.self.now.slots c.args.first Empty, ap (λ (k : Book). length k.slots) c.withdraw.ensures.book)

pub returns-in-Keeps-clause-lent : goal.returns-in-Keeps-clause-lent
returns-in-Keeps-clause-lent c =
    let there : slot_of c.args.self.now.slots c.args.first ≡ Keeps c.in-Keeps.run' = grind (arith, common_steps) in
    let book : c.put.new.self ≡ with_slot (with_slot c.args.self.now c.args.first Empty) c.args.first (Lends c.in-Keeps.run') =
    c.put.ensures ∙ ap (λ k. with_slot k c.args.first (Lends c.lend-run.result)) c.withdraw.ensures.book ∙ ap (λ r. with_slot (with_slot c.args.self.now c.args.first Empty) c.args.first (Lends r)) c.lend-run.ensures.run in
    lent_keeps (holding c.args.self.now c.args.mem.now) c.args.first c.in-Keeps.run' c.put.new.self c.lend-run.new.self there book c.lend-run.ensures.memory

pub returns-in-Keeps-clause-stands : goal.returns-in-Keeps-clause-stands
returns-in-Keeps-clause-stands c =
    let there : slot_of c.args.self.now.slots c.args.first ≡ Keeps c.in-Keeps.run' = grind (arith, common_steps) in
    let book : c.put.new.self ≡ with_slot (with_slot c.args.self.now c.args.first Empty) c.args.first (Lends c.in-Keeps.run') =
    c.put.ensures ∙ ap (λ k. with_slot k c.args.first (Lends c.lend-run.result)) c.withdraw.ensures.book ∙ ap (λ r. with_slot (with_slot c.args.self.now c.args.first Empty) c.args.first (Lends r)) c.lend-run.ensures.run in
    subst Stands (sym (same_holding c.put.new.self (with_slot c.args.self.now c.args.first (Lends c.in-Keeps.run')) c.lend-run.new.self (with_states c.args.mem.now c.in-Keeps.run' Lent) (book ∙ put_changed c.args.self.now c.args.first Empty (Lends c.in-Keeps.run')) c.lend-run.ensures.memory))
    (stands_lent (holding c.args.self.now c.args.mem.now) c.args.first c.in-Keeps.run' c.requires.stands there (omega (arith, c.requires.more)))

pub returns-in-Lends-clause-lent : goal.returns-in-Lends-clause-lent
returns-in-Lends-clause-lent c =
    let there : slot_of c.args.self.now.slots c.args.first ≡ Lends c.in-Lends.run' = grind (arith, common_steps) in
    lent_lends (holding c.args.self.now c.args.mem.now) c.args.first c.in-Lends.run' c.put-in-Lends.new.self there (c.put-in-Lends.ensures ∙ ap (λ k. with_slot k c.args.first (Lends c.in-Lends.run')) c.withdraw.ensures.book)

pub returns-in-Lends-clause-stands : goal.returns-in-Lends-clause-stands
returns-in-Lends-clause-stands c =
    let there : slot_of c.args.self.now.slots c.args.first ≡ Lends c.in-Lends.run' = grind (arith, common_steps) in
    subst Stands (sym (same_holding c.put-in-Lends.new.self c.args.self.now c.args.mem.now c.args.mem.now (c.put-in-Lends.ensures ∙ ap (λ k. with_slot k c.args.first (Lends c.in-Lends.run')) c.withdraw.ensures.book ∙ put_back c.args.self.now c.args.first (Lends c.in-Lends.run') there) refl)) c.requires.stands
