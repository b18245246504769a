use Rattle.std.proofs.Common.{ℕ, List, ◌≡◌, ◌+◌, ◌*◌, ◌++◌, ◌-◌, length, get_or, take, drop, refl, arith, ap, sym, ◌∙◌}
use Rattle.word_mem.specs.Memory.{Mem}
use Rattle.word_mem.specs.Views.{words_at}
use Rattle.mem_bytes.specs.Bytes.{bytes_at}
use Rattle.mem_bytes.proofs.Reach.{chosen}
use Rattle.mem_bytes.proofs.Loads.{read_none, read_on}
use Rattle.mem_bytes.proofs.WholeBlocks.{word_loaded}
use Rattle.mem_bytes.proofs.blocks.hc_get_block.Goals as goal

pub loop-i-init : goal.loop-i-init
loop-i-init g c = read_none (g.M.HcMemory.mem c.hc_read_words.new.self) c.args.pages.now c.args.k c.args.into.now

pub loop-i-preserved : goal.loop-i-preserved
loop-i-preserved g c =
    let m = g.M.HcMemory.mem c.args.mem.now in
    let now = g.M.HcMemory.mem c.hc_read_words.new.self in
    let pages = c.args.pages.now in
    let k = c.args.k in
    let at = c.args.at in
    let i = c.loop-i.i in
    let same : now ≡ m = c.hc_read_words.ensures.memory ∙ chosen _ _ _ c.if-not-hc_read_words.ensures.read in
    let words : c.hc_read_words.new.into ≡ words_at m at 8 = c.hc_read_words.ensures.words ∙ chosen _ _ _ c.if-not-hc_read_words.ensures.read in
    let word : get_or c.hc_read_words.new.into i 0 ≡ get_or (words_at now at 8) i 0 =
    ap (λ (ws : List ℕ). get_or ws i 0) words ∙ ap (λ (w : Mem). get_or (words_at w at 8) i 0) (sym same) in
    let count : 4 * i + 4 ≡ 4 * (i + 1) = omega arith in
    read_on now now pages k c.args.into.now c.loop-i.into c.put_four.new.into (4 * i) 4 refl (omega arith) c.loop-i.auto.into c.loop-i.invariant
    (c.put_four.ensures ∙ ap (λ (bs : List ℕ). bs ++ drop 4 (take (length c.loop-i.into - 4 * i) (drop (4 * i) c.loop-i.into))) (word_loaded now pages k at i (get_or c.hc_read_words.new.into i 0) c.requires.here c.requires.whole (omega arith) word))
    ∙ ap (λ (n : ℕ). bytes_at now pages k n ++ drop n c.args.into.now) count
