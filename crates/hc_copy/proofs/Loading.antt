-- What was loaded where the controller may touch every byte.
use Rattle.std.proofs.Common.{◌≡◌, ℕ, ◌+◌, ◌<◌, List, length, Bool, true, false, refl, sym, ◌∙◌}
use Rattle.std.proofs.lemmas.Bool.{true≢false}
use Rattle.word_mem.specs.Memory.{Mem, reaches}
use Rattle.mem_bytes.specs.Bytes.{place, bytes_at, all_reached, loaded, AreReached}
use Rattle.mem_bytes.proofs.Reach.{all_reached_no}
use Rattle.mem_bytes.proofs.Loads.{loaded_all}

one_reached : (m : Mem) (pages : List ℕ) (k n i : ℕ) (b : Bool) → i < n → all_reached m pages k n ≡ true → reaches m (place pages (k + i)) ≡ b → reaches m (place pages (k + i)) ≡ true
one_reached m pages k n i true inside all is = is
one_reached m pages k n i false inside all is = absurd (true≢false (sym all ∙ all_reached_no m pages k n i inside is))

pub each_reached : (m : Mem) (pages : List ℕ) (k n : ℕ) → all_reached m pages k n ≡ true → AreReached m pages k n
each_reached m pages k n all = λ i inside. one_reached m pages k n i (reaches m (place pages (k + i))) inside all refl

pub loaded_whole : (m : Mem) (pages : List ℕ) (k : ℕ) (old : List ℕ) → all_reached m pages k (length old) ≡ true → loaded m pages k old ≡ bytes_at m pages k (length old)
loaded_whole m pages k old all = loaded_all m pages k old (each_reached m pages k (length old) all)
