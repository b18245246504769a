use Rattle.std.proofs.Common.{ℕ, cond, length, ap, ◌∙◌}
use Rattle.word_mem.specs.Memory.{Mem, reaches, refused}
use Rattle.word_mem.specs.Views.{words_at}
use Rattle.app_probe.specs.Window.{from_base}
use Rattle.app_probe.proofs.Windows.{words_from, same_from}
use Rattle.app_probe.proofs.window.WindowHcMemory.hc_read_words.Goals as goal

pub returns-clause-words : goal.returns-clause-words
returns-clause-words c =
    let b = c.args.self.now.base in
    let m : Mem = c.args.self.now.mem in
    c.hc_read_words.ensures.words
    ∙ ap (λ (p : ℕ). cond (reaches m p) (words_at m p (length c.args.into.now)) c.args.into.now) c.place-place.ensures.place
    ∙ words_from b m c.args.at (length c.args.into.now) c.args.into.now c.place-place.ensures.window

pub returns-clause-memory : goal.returns-clause-memory
returns-clause-memory c =
    let b = c.args.self.now.base in
    let m : Mem = c.args.self.now.mem in
    ap (from_base b) (c.hc_read_words.ensures.memory ∙ ap (λ (p : ℕ). cond (reaches m p) m (refused m)) c.place-place.ensures.place)
    ∙ same_from b m c.args.at c.place-place.ensures.window
