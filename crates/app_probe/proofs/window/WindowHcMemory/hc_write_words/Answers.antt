use Rattle.std.proofs.Common.{ℕ, cond, ap, ◌∙◌}
use Rattle.word_mem.specs.Memory.{Mem, reaches, refused}
use Rattle.word_mem.specs.Views.{with_words}
use Rattle.app_probe.specs.Window.{from_base}
use Rattle.app_probe.proofs.Windows.{put_from, by_from}
use Rattle.app_probe.proofs.window.WindowHcMemory.hc_write_words.Goals as goal

pub returns-clause-memory : goal.returns-clause-memory
returns-clause-memory c =
    let b = c.args.self.now.base in
    let m : Mem = c.args.self.now.mem in
    ap (from_base b)
    (c.hc_write_words.ensures.memory
    ∙ ap (λ (p : ℕ). cond (reaches m p) (with_words m p c.args.words.now) (refused m)) c.place-place.ensures.place)
    ∙ put_from b m c.args.at c.args.words.now c.place-place.ensures.window

pub returns-clause-only_lent : goal.returns-clause-only_lent
returns-clause-only_lent c =
    by_from c.args.self.now.base c.args.self.now.mem c.hc_write_words.new.self c.place-place.ensures.window.based c.hc_write_words.ensures.only_lent
