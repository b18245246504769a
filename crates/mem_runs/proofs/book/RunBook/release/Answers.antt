use Rattle.word_mem.specs.Runs.{Run}
use Rattle.std.proofs.Common.{ℕ, ◌≡◌, sym, ap, subst, ◌∙◌, arith, refl, length}
use Rattle.std.proofs.lemmas.Grind.{common_steps}
use Rattle.word_mem.specs.declared.blocks.BlockState.TheVariants.{Kept}
use Rattle.word_mem.specs.Memory.{Mem, with_states, released}
use Rattle.mem_runs.specs.Book.{Book, Holding, holding, Stands, slot_of, with_slot}
use Rattle.mem_runs.proofs.Standing.{lends_all, keeps_within, stands_released, same_holding, released_keeps, released_lends, put_back, released_once, within_lent}
use Rattle.mem_runs.specs.declared.slots.Slot.TheVariants.{Empty, Keeps, Lends}
use Rattle.std.proofs.lemmas.List.{length-set}
use Rattle.mem_runs.proofs.book.RunBook.release.Goals as goal

pub unlend-run-requires : goal.unlend-run-requires
unlend-run-requires c =
    let there : slot_of c.args.self.now.slots c.args.first ≡ Lends c.in-Lends.run' = grind (arith, common_steps) in
    lends_all (holding c.args.self.now c.args.mem.now) c.args.first c.in-Lends.run' c.requires there

pub put-requires : goal.put-requires
put-requires c =
    let there : slot_of c.args.self.now.slots c.args.first ≡ Keeps c.in-Keeps.run' = grind (arith, common_steps) in
    omega (arith, keeps_within c.args.self.now.slots c.args.first c.in-Keeps.run' there, length-set c.args.self.now.slots c.args.first Empty, ap (λ (k : Book). length k.slots) c.withdraw.ensures.book)

pub returns-in-Keeps-clause-released : goal.returns-in-Keeps-clause-released
returns-in-Keeps-clause-released c =
    let there : slot_of c.args.self.now.slots c.args.first ≡ Keeps c.in-Keeps.run' = grind (arith, common_steps) in
    released_keeps (holding c.args.self.now c.args.mem.now) c.args.first c.in-Keeps.run' c.put.new.self there (c.put.ensures ∙ ap (λ k. with_slot k c.args.first (Keeps c.in-Keeps.run')) c.withdraw.ensures.book)

pub returns-in-Keeps-clause-stands : goal.returns-in-Keeps-clause-stands
returns-in-Keeps-clause-stands c =
    let there : slot_of c.args.self.now.slots c.args.first ≡ Keeps c.in-Keeps.run' = grind (arith, common_steps) in
    subst Stands (sym (same_holding c.put.new.self c.args.self.now c.args.mem.now c.args.mem.now (c.put.ensures ∙ ap (λ k. with_slot k c.args.first (Keeps c.in-Keeps.run')) c.withdraw.ensures.book ∙ put_back c.args.self.now c.args.first (Keeps c.in-Keeps.run') there) refl)) c.requires

free_again : (h : Holding) (b : ℕ) (r q : Run) (m n : Mem) → Stands h → slot_of h.book.slots b ≡ Lends r → q ≡ r → m ≡ with_states h.memory r Kept → n ≡ released m q → n ≡ released h.memory r
free_again h b r q m n stands there run kept freed =
    freed ∙ ap (λ s. released m s) run ∙ ap (λ s. released s r) kept ∙ released_once h.memory r (within_lent h b r stands there)

pub returns-in-Lends-clause-released : goal.returns-in-Lends-clause-released
returns-in-Lends-clause-released c =
    let there : slot_of c.args.self.now.slots c.args.first ≡ Lends c.in-Lends.run' = grind (arith, common_steps) in
    let h = holding c.args.self.now c.args.mem.now in
    released_lends h c.args.first c.in-Lends.run' c.withdraw.new.self c.release.new.self there c.withdraw.ensures.book
    (free_again h c.args.first c.in-Lends.run' c.unlend-run.result c.unlend-run.new.self c.release.new.self c.requires there c.unlend-run.ensures.run c.unlend-run.ensures.memory c.release.ensures)

pub returns-in-Lends-clause-stands : goal.returns-in-Lends-clause-stands
returns-in-Lends-clause-stands c =
    let there : slot_of c.args.self.now.slots c.args.first ≡ Lends c.in-Lends.run' = grind (arith, common_steps) in
    let h = holding c.args.self.now c.args.mem.now in
    subst Stands (sym (same_holding c.withdraw.new.self (with_slot c.args.self.now c.args.first Empty) c.release.new.self (released c.args.mem.now c.in-Lends.run') c.withdraw.ensures.book
    (free_again h c.args.first c.in-Lends.run' c.unlend-run.result c.unlend-run.new.self c.release.new.self c.requires there c.unlend-run.ensures.run c.unlend-run.ensures.memory c.release.ensures)))
    (stands_released h c.args.first c.in-Lends.run' c.words-words.ensures.shape c.requires there)
