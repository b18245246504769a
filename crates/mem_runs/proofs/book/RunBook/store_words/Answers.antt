use Rattle.std.proofs.Common.{◌≡◌, ◌+◌, ◌*◌, sym, ap, ◌∙◌, ◌<◌, arith, length, get_or, drop, add-one}
use Rattle.mem_runs.specs.Book.{store, store_words}
use Rattle.mem_runs.proofs.Standing.{store_more, store_all}
use Rattle.mem_runs.proofs.book.RunBook.store_words.Goals as goal

pub loop-i-preserved : goal.loop-i-preserved
loop-i-preserved c =
    let k = c.args.self.now in
    let i = c.loop-i.i in
    let words = c.args.words.now in
    let below : i < length words = omega (arith, c.loop-i-test.true) in
    let at : c.args.at + 4 * (i + 1) ≡ c.args.at + 4 * i + 4 = omega arith in
    record {
      stands = c.store.ensures.stands;
      leads =
          ap (λ m. store_words k m c.args.first (c.args.at + 4 * (i + 1)) (drop (i + 1) words)) c.store.ensures.memory
          ∙ ap (λ a. store_words k (store k c.loop-i.mem c.args.first (c.args.at + 4 * i) (get_or words i 0)) c.args.first a (drop (i + 1) words)) at
          ∙ ap (λ j. store_words k (store k c.loop-i.mem c.args.first (c.args.at + 4 * i) (get_or words i 0)) c.args.first (c.args.at + 4 * i + 4) (drop j words)) (add-one i)
          ∙ store_more k c.loop-i.mem c.args.first (c.args.at + 4 * i) words i below
          ∙ c.loop-i.invariant.leads;
    }

pub returns-clause-memory : goal.returns-clause-memory
returns-clause-memory c =
    sym (store_all c.args.self.now c.loop-i.mem c.args.first (c.args.at + 4 * c.loop-i.i) c.args.words.now c.loop-i.i (omega (arith, c.loop-i-test.false))) ∙ c.loop-i.invariant.leads
