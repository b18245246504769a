use Rattle.std.proofs.Common.{◌≡◌, sym, ap, subst, ◌∙◌, arith, refl, length}
use Rattle.std.proofs.lemmas.Grind.{common_steps}
use Rattle.word_mem.specs.Memory.{released}
use Rattle.mem_runs.specs.Book.{Book, holding, Stands, slot_of, with_slot}
use Rattle.mem_runs.proofs.Standing.{keeps_all, lends_within, stands_dropped, same_holding, dropped_keeps, dropped_lends, put_back}
use Rattle.mem_runs.specs.declared.slots.Slot.TheVariants.{Empty, Keeps, Lends}
use Rattle.std.proofs.lemmas.List.{length-set}
use Rattle.mem_runs.proofs.book.RunBook.drop_taken.Goals as goal

pub release-requires : goal.release-requires
release-requires c =
    let there : slot_of c.args.self.now.slots c.args.first ≡ Keeps c.in-Keeps.run' = grind (arith, common_steps) in
    keeps_all (holding c.args.self.now c.args.mem.now) c.args.first c.in-Keeps.run' c.requires.stands there

pub returns-in-Keeps-clause-dropped : goal.returns-in-Keeps-clause-dropped
returns-in-Keeps-clause-dropped c =
    let there : slot_of c.args.self.now.slots c.args.first ≡ Keeps c.in-Keeps.run' = grind (arith, common_steps) in
    dropped_keeps (holding c.args.self.now c.args.mem.now) c.args.first c.in-Keeps.run' c.withdraw.new.self c.release.new.self there c.withdraw.ensures.book c.release.ensures

pub returns-in-Keeps-clause-stands : goal.returns-in-Keeps-clause-stands
returns-in-Keeps-clause-stands c =
    let there : slot_of c.args.self.now.slots c.args.first ≡ Keeps c.in-Keeps.run' = grind (arith, common_steps) in
    subst Stands (sym (same_holding c.withdraw.new.self (with_slot c.args.self.now c.args.first Empty) c.release.new.self (released c.args.mem.now c.in-Keeps.run') c.withdraw.ensures.book c.release.ensures))
    (stands_dropped (holding c.args.self.now c.args.mem.now) c.args.first c.in-Keeps.run' c.words-words.ensures.shape c.requires.stands there (omega (arith, c.requires.more)))

pub put-requires : goal.put-requires
put-requires c =
    let there : slot_of c.args.self.now.slots c.args.first ≡ Lends c.in-Lends.run' = grind (arith, common_steps) in
    omega (arith, lends_within c.args.self.now.slots c.args.first c.in-Lends.run' there, length-set c.args.self.now.slots c.args.first Empty, ap (λ (k : Book). length k.slots) c.withdraw.ensures.book)

pub returns-in-Lends-clause-dropped : goal.returns-in-Lends-clause-dropped
returns-in-Lends-clause-dropped c =
    let there : slot_of c.args.self.now.slots c.args.first ≡ Lends c.in-Lends.run' = grind (arith, common_steps) in
    dropped_lends (holding c.args.self.now c.args.mem.now) c.args.first c.in-Lends.run' c.put.new.self there (c.put.ensures ∙ ap (λ k. with_slot k c.args.first (Lends c.in-Lends.run')) c.withdraw.ensures.book)

pub returns-in-Lends-clause-stands : goal.returns-in-Lends-clause-stands
returns-in-Lends-clause-stands c =
    let there : slot_of c.args.self.now.slots c.args.first ≡ Lends c.in-Lends.run' = grind (arith, common_steps) in
    subst Stands (sym (same_holding c.put.new.self c.args.self.now c.args.mem.now c.args.mem.now (c.put.ensures ∙ ap (λ k. with_slot k c.args.first (Lends c.in-Lends.run')) c.withdraw.ensures.book ∙ put_back c.args.self.now c.args.first (Lends c.in-Lends.run') there) refl)) c.requires.stands
