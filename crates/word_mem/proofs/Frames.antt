-- What each change of memory leaves of its words and states.
use Rattle.std.proofs.Common.{cond, List, ◌≡◌, ◌≢◌, ℕ, ◌+◌, ◌-◌, ◌*◌, ◌/◌, ◌%◌, ◌<◌, ◌≤◌, true, Option, Some, None, length, slice_get, arith, ap, sym, ◌∙◌, inl, inr, ⊎_elim, max, refl}
use Rattle.std.proofs.lemmas.Bool.{cases_lt, false≢true}
use Rattle.std.proofs.lemmas.List.{get_or-set_same, get_or-set_other, length-set, length-replicate}
use Rattle.std.proofs.lemmas.Option.{slice_get_within, same_Some, cond_some}
use Rattle.word_mem.specs.Runs.{Run, IsInRun, HasBlock, AreApart}
use Rattle.word_mem.specs.Memory.{Mem, IsShaped, fresh, all_lent, word_at, state_at, reaches, is_lent, AreAll, with_word, with_states, released}
use Rattle.word_mem.specs.Free.{IsTaken}
use Rattle.word_mem.proofs.Filled.{length-filled, get_or-filled_inside, get_or-filled_before, get_or-filled_after, slice_get-filled_inside, slice_get-filled_before, slice_get-filled_after}
use Rattle.word_mem.specs.declared.blocks.BlockState.{BlockState}
use Rattle.word_mem.specs.declared.blocks.BlockState.TheVariants.{Free, Lent}

-- a run of one state lies in memory
pub run_within : (m : Mem) (s : BlockState) (r : Run) → AreAll m s r → 1 ≤ r.blocks → r.first + r.blocks ≤ length m.states
run_within m s r all some =
    let last = slice_get_within m.states (r.first + r.blocks - 1) s (all (r.first + r.blocks - 1) (omega arith) (omega arith)) in
    omega (arith, last)

-- its words lie there too
pub words_within : (m : Mem) (s : BlockState) (r : Run) (at : ℕ) → IsShaped m → AreAll m s r → IsInRun r at → at < 4 * length m.words
words_within m s r at shape all here =
    let inside = run_within m s r all (omega (arith, here.from, here.below)) in
    omega (arith, shape.eight_each, here.below, inside)

-- a word just written
pub word_at-with_word_same : (m : Mem) (at v : ℕ) → at < 4 * length m.words → word_at (with_word m at v) at ≡ v
word_at-with_word_same m at v inside = get_or-set_same m.words (at / 4) v 0 (omega (arith, inside))

-- a word at another address
pub word_at-with_word_other : (m : Mem) (at v other : ℕ) → at % 4 ≡ 0 → other % 4 ≡ 0 → other ≢ at → word_at (with_word m at v) other ≡ word_at m other
word_at-with_word_other m at v other aligned also differs =
    get_or-set_other m.words (at / 4) (other / 4) v 0 (λ same. differs (omega (arith, same)))

-- the words of a released run, and those elsewhere
pub word_at-released_inside : (m : Mem) (r : Run) (at : ℕ) → 8 * (r.first + r.blocks) ≤ length m.words → IsInRun r at → word_at (released m r) at ≡ 0
word_at-released_inside m r at within here =
    get_or-filled_inside m.words (8 * r.first) (8 * r.blocks) 0 (at / 4) 0 (omega (arith, within)) (omega (arith, here.from)) (omega (arith, here.below))

pub word_at-released_before : (m : Mem) (r : Run) (at : ℕ) → 8 * (r.first + r.blocks) ≤ length m.words → at < 32 * r.first → word_at (released m r) at ≡ word_at m at
word_at-released_before m r at within before =
    get_or-filled_before m.words (8 * r.first) (8 * r.blocks) 0 (at / 4) 0 (omega (arith, within)) (omega (arith, before))

pub word_at-released_after : (m : Mem) (r : Run) (at : ℕ) → 8 * (r.first + r.blocks) ≤ length m.words → 32 * (r.first + r.blocks) ≤ at → word_at (released m r) at ≡ word_at m at
word_at-released_after m r at within after =
    get_or-filled_after m.words (8 * r.first) (8 * r.blocks) 0 (at / 4) 0 (omega (arith, within)) (omega (arith, after))

-- the word at an address of a run that shares no block with the released one
pub word_at-released_apart : (m : Mem) (r q : Run) (at : ℕ) → 8 * (r.first + r.blocks) ≤ length m.words → AreApart q r → IsInRun q at → word_at (released m r) at ≡ word_at m at
word_at-released_apart m r q at within apart here =
    ⊎_elim (λ (low : q.first + q.blocks ≤ r.first). word_at-released_before m r at within (omega (arith, here.below, low)))
    (λ (high : r.first + r.blocks ≤ q.first). word_at-released_after m r at within (omega (arith, here.from, high))) apart

-- the states of a run that was changed
pub state_at-with_states_inside : (m : Mem) (r : Run) (s : BlockState) (b : ℕ) → r.first + r.blocks ≤ length m.states → HasBlock r b → state_at (with_states m r s) b ≡ Some s
state_at-with_states_inside m r s b within here = slice_get-filled_inside m.states r.first r.blocks s b within here.from here.below

pub AreAll-with_states : (m : Mem) (r : Run) (s : BlockState) → r.first + r.blocks ≤ length m.states → AreAll (with_states m r s) s r
AreAll-with_states m r s within = λ b from below. slice_get-filled_inside m.states r.first r.blocks s b within from below

-- the states of blocks elsewhere
pub state_at-with_states_before : (m : Mem) (r : Run) (s : BlockState) (b : ℕ) → r.first + r.blocks ≤ length m.states → b < r.first → state_at (with_states m r s) b ≡ state_at m b
state_at-with_states_before m r s b within before = slice_get-filled_before m.states r.first r.blocks s b within before

pub state_at-with_states_after : (m : Mem) (r : Run) (s : BlockState) (b : ℕ) → r.first + r.blocks ≤ length m.states → r.first + r.blocks ≤ b → state_at (with_states m r s) b ≡ state_at m b
state_at-with_states_after m r s b within after = slice_get-filled_after m.states r.first r.blocks s b within after

pub AreAll-with_states_apart : (m : Mem) (r : Run) (s : BlockState) (q : Run) (t : BlockState) → r.first + r.blocks ≤ length m.states → AreApart q r → AreAll m t q → AreAll (with_states m r s) t q
AreAll-with_states_apart m r s q t within apart all =
    λ b from below.
    ⊎_elim (λ (low : q.first + q.blocks ≤ r.first). slice_get-filled_before m.states r.first r.blocks s b within (omega arith) ∙ all b from below)
    (λ (high : r.first + r.blocks ≤ q.first). slice_get-filled_after m.states r.first r.blocks s b within (omega arith) ∙ all b from below) apart

pub AreAll-released_apart : (m : Mem) (r q : Run) (t : BlockState) → r.first + r.blocks ≤ length m.states → AreApart q r → AreAll m t q → AreAll (released m r) t q
AreAll-released_apart m r q t within apart all = AreAll-with_states_apart m r Free q t within apart all

-- runs of two states share no block
runs_meet : (m : Mem) (s t : BlockState) (b : ℕ) → s ≢ t → slice_get m.states b ≡ Some s → slice_get m.states b ≡ Some t → ⊥
runs_meet m s t b differ one other = differ (same_Some s t (sym one ∙ other))

pub runs_apart : (m : Mem) (s t : BlockState) (q r : Run) → s ≢ t → 1 ≤ q.blocks → 1 ≤ r.blocks → AreAll m s q → AreAll m t r → AreApart q r
runs_apart m s t q r differ some also all both =
    ⊎_elim (λ (reach : r.first < q.first + q.blocks).
    ⊎_elim (λ (meet : q.first < r.first + r.blocks). absurd (runs_meet m s t (max q.first r.first) differ (all (max q.first r.first) (omega arith) (omega arith)) (both (max q.first r.first) (omega arith) (omega arith))))
    (λ (high : r.first + r.blocks ≤ q.first). inr high) (cases_lt q.first (r.first + r.blocks)))
    (λ (low : q.first + q.blocks ≤ r.first). inl low) (cases_lt r.first (q.first + q.blocks))

-- a run that memory handed out was Free: it shares no block with a run of another state
pub taken_apart : (m : Mem) (n : ℕ) (r : Run) (s : BlockState) (q : Run) → IsTaken m.states n (Some r) → s ≢ Free → 1 ≤ q.blocks → AreAll m s q → AreApart q r
taken_apart m n r s q taken differ some all =
    runs_apart m s Free q r differ some (omega (arith, taken.0, taken.1.free_run.some)) all (λ b from below. taken.1.free_run.free b from (omega (arith, taken.0)))

-- the controller reaches the words of a Lent run
pub reaches_lent : (m : Mem) (r : Run) (at : ℕ) → AreAll m Lent r → IsInRun r at → reaches m at ≡ true
reaches_lent m r at all here = ap is_lent (all (at / 32) (omega (arith, here.from)) (omega (arith, here.below)))

from_is_lent : (o : Option BlockState) → is_lent o ≡ true → o ≡ Some Lent
from_is_lent (Some Lent) e = refl
from_is_lent _ e = absurd (false≢true e)

-- and no word of a block that isn't Lent
pub lent_if_reached : (m : Mem) (at : ℕ) → reaches m at ≡ true → state_at m (at / 32) ≡ Some Lent
lent_if_reached m at reached = from_is_lent (state_at m (at / 32)) reached

-- a memory just built has its shape
pub shaped_fresh : (n : ℕ) → 1024 ≤ n → n ≤ 262144 → n % 1024 ≡ 0 → IsShaped (fresh n)
shaped_fresh n low high whole =
    let long = length-replicate {A = ℕ} n 0 in
    let many = length-replicate (n / 8) Free in
    record {
      at_least = omega (arith, long);
      at_most = omega (arith, long);
      whole_pages = omega (arith, long);
      eight_each = omega (arith, long, many);
    }

pub shaped_lent : (ws : List ℕ) → 1024 ≤ length ws → length ws ≤ 262144 → length ws % 1024 ≡ 0 → IsShaped (all_lent ws)
shaped_lent ws low high whole =
    let many = length-replicate (length ws / 8) Lent in
    record { at_least = low; at_most = high; whole_pages = whole; eight_each = omega (arith, many) }

-- the shape of memory stays
pub shaped_word : (m : Mem) (at v : ℕ) → IsShaped m → IsShaped (with_word m at v)
shaped_word m at v shape =
    let long = length-set m.words (at / 4) v in
    record {
      at_least = omega (arith, long, shape.at_least);
      at_most = omega (arith, long, shape.at_most);
      whole_pages = omega (arith, long, shape.whole_pages);
      eight_each = omega (arith, long, shape.eight_each);
    }

pub shaped_states : (m : Mem) (r : Run) (s : BlockState) → r.first + r.blocks ≤ length m.states → IsShaped m → IsShaped (with_states m r s)
shaped_states m r s within shape =
    let many = length-filled m.states r.first r.blocks s within in
    record {
      at_least = shape.at_least;
      at_most = shape.at_most;
      whole_pages = shape.whole_pages;
      eight_each = omega (arith, many, shape.eight_each);
    }

pub shaped_released : (m : Mem) (r : Run) → r.first + r.blocks ≤ length m.states → IsShaped m → IsShaped (released m r)
shaped_released m r within shape =
    let many = length-filled m.states r.first r.blocks Free within in
    let long = length-filled m.words (8 * r.first) (8 * r.blocks) 0 (omega (arith, shape.eight_each)) in
    record {
      at_least = omega (arith, long, shape.at_least);
      at_most = omega (arith, long, shape.at_most);
      whole_pages = omega (arith, long, shape.whole_pages);
      eight_each = omega (arith, many, long, shape.eight_each);
    }

-- a read of the controller that gave a word
pub read_some : (m : Mem) (at v : ℕ) → Some v ≡ cond (reaches m at) (Some (word_at m at)) None → (reaches m at ≡ true) × (v ≡ word_at m at)
read_some m at v read =
    let parts = cond_some (reaches m at) (word_at m at) v (sym read) in
    (parts.0, sym parts.1)

-- whatever is written, where the words stay as many
pub shaped_same : (m q : Mem) → length q.words ≡ length m.words → q.states ≡ m.states → IsShaped m → IsShaped q
shaped_same m q long same shape =
    let many = ap length same in
    record {
      at_least = omega (arith, long, shape.at_least);
      at_most = omega (arith, long, shape.at_most);
      whole_pages = omega (arith, long, shape.whole_pages);
      eight_each = omega (arith, long, many, shape.eight_each);
    }
