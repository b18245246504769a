-- A driver that was just built has everything in place.
use Rattle.std.proofs.Common.{◌≡◌, ℕ, zero, suc, ◌+◌, ◌*◌, ◌/◌, ◌%◌, ◌<◌, ◌≤◌, List, [], ◌∷◌, ◌++◌, length, replicate, reverse, set, slice_get, Some, ap, sym, subst, ◌∙◌, ⊎_elim, refl, arith}
use Rattle.std.proofs.lemmas.Bool.{cases_lt}
use Rattle.std.proofs.lemmas.List.{get_or-set_same, get_or-set_other, length-set, set-set, same_lists, length-replicate}
use Rattle.law_driver.proofs.Common.{not_both}
use Rattle.word_mem.specs.Memory.{Mem, filled, fresh, with_word, with_states}
use Rattle.word_mem.specs.Runs.{Run}
use Rattle.word_mem.specs.Free.{IsTaken}
use Rattle.word_mem.specs.Views.{with_words, with_words_in}
use Rattle.word_mem.specs.declared.blocks.BlockState.TheVariants.{Free, Kept, Lent}
use Rattle.word_mem.proofs.Filled.{length-filled, get_or-filled_inside, get_or-filled_before, get_or-filled_after}
use Rattle.word_mem.proofs.Frames.{shaped_fresh, shaped_word, shaped_states, state_at-with_states_inside, state_at-with_states_after}
use Rattle.mem_runs.specs.Book.{Book, Holding, holding, slot_of, with_run, none_taken, lend_slot, lend_runs, lend_taken}
use Rattle.mem_runs.specs.declared.slots.Slot.TheVariants.{Empty, Keeps, Lends}
use Rattle.mem_runs.proofs.Standing.{stands_word, stands_taken, lent_not_free, lends_all}
use Rattle.mem_runs.proofs.NewBook.{stands_new}
use Rattle.qh_qtd.specs.QueueHead.{qh_words}
use Rattle.drv_table.specs.declared.content.Reserve.{Reserve}
use Rattle.drv_table.specs.Words.{head_block, opening_head}
use Rattle.drv_table.specs.Opening.{list_run, head_run, opening_book, opening}
use Rattle.law_driver.proofs.lemmas.run_owners.Opened.{opening_has_owners}
use Rattle.law_driver.proofs.lemmas.lent_runs.Laws.{opening_runs_are_lent}
use Rattle.law_driver.proofs.lemmas.listed_members.Opening.{opening_list_has_its_members}
use Rattle.law_driver.proofs.lemmas.ring_members.Opened.{opening_is_a_ring}
use Rattle.law_driver.proofs.lemmas.listed_queues.Commands.{opening_has_queue_heads}
use Rattle.law_driver.proofs.lemmas.queue_head_words.Opened.{opening_has_fixed_words}
use Rattle.law_driver.specs.in_place.InPlace.{IsGood, IsInPlace}
use Rattle.law_driver.proofs.lemmas.in_place.Good.{lend_good}

-- ---- a run that is taken and lent

filled_again : {X : Type 0} (xs : List X) (first n : ℕ) (x y : X) → first + n ≤ length xs → filled (filled xs first n x) first n y ≡ filled xs first n y
filled_again xs first n x y fits =
    let long = length-filled xs first n x fits in
    let fits2 : first + n ≤ length (filled xs first n x) = omega arith in
    same_lists (filled (filled xs first n x) first n y) (filled xs first n y) (omega (arith, length-filled (filled xs first n x) first n y fits2, length-filled xs first n y fits))
    (λ k d within.
    ⊎_elim (λ (low : k < first).
    get_or-filled_before (filled xs first n x) first n y k d fits2 low ∙ get_or-filled_before xs first n x k d fits low ∙ sym (get_or-filled_before xs first n y k d fits low))
    (λ (from : first ≤ k).
    ⊎_elim (λ (inside : k < first + n). get_or-filled_inside (filled xs first n x) first n y k d fits2 from inside ∙ sym (get_or-filled_inside xs first n y k d fits from inside))
    (λ (high : first + n ≤ k).
    get_or-filled_after (filled xs first n x) first n y k d fits2 high ∙ get_or-filled_after xs first n x k d fits high ∙ sym (get_or-filled_after xs first n y k d fits high)) (cases_lt k (first + n)))
    (cases_lt k first))

abbrev lent_run : Holding → Run → Holding
lent_run h r = record { book = record { slots = set h.book.slots r.first (Lends r); taken = [] }; memory = with_states h.memory r Lent }

lend_one : (h : Holding) (r : Run) → r.first < length h.book.slots → r.first + r.blocks ≤ length h.memory.states → lend_slot (none_taken (with_run h r)) r.first (slot_of (set h.book.slots r.first (Keeps r)) r.first) ≡ lent_run h r
lend_one h r within fits =
    ap (λ s. lend_slot (none_taken (with_run h r)) r.first s) (get_or-set_same h.book.slots r.first (Keeps r) Empty within)
    ∙ ap (λ ss. record { book = record { slots = ss; taken = [] }; memory = with_states (with_states h.memory r Kept) r Lent }) (set-set h.book.slots r.first (Keeps r) (Lends r))
    ∙ ap (λ ss. record { book = record { slots = set h.book.slots r.first (Lends r); taken = [] }; memory = record h.memory { states = ss } }) (filled_again h.memory.states r.first r.blocks Kept Lent fits)

lend_with : (h : Holding) (r : Run) → h.book.taken ≡ [] → r.first < length h.book.slots → r.first + r.blocks ≤ length h.memory.states → lend_taken (with_run h r) ≡ lent_run h r
unfolding lend_runs
lend_with h r none within fits =
    ap (λ ts. lend_runs (none_taken (with_run h r)) (reverse (ts ++ r.first ∷ []))) none ∙ lend_one h r within fits

lent_now : (h : Holding) (r : Run) → h.book.taken ≡ [] → r.first + r.blocks ≤ length h.memory.states → 1 ≤ r.blocks → IsTaken h.memory.states r.blocks (Some r) → IsGood h.book h.memory → IsGood (lent_run h r).book (lent_run h r).memory
lent_now h r none fits some taken good =
    let sizes = good.stands.sizes in
    subst (λ (g : Holding). IsGood g.book g.memory) (lend_with h r none (omega (arith, sizes, fits, some)) fits)
    (lend_good (with_run h r) (record { stands = stands_taken h r.blocks r good.stands taken; shape = shaped_states h.memory r Kept fits good.shape }))

-- ---- words that are written in a lent run

all_written : (k : Book) (b : ℕ) (r : Run) (ws : List ℕ) (m : Mem) (at : ℕ) → slot_of k.slots b ≡ Lends r → 32 * r.first ≤ at → at + 4 * length ws ≤ 32 * (r.first + r.blocks) → IsGood k m → IsGood k (with_words m at ws)
unfolding with_words_in
all_written k b r [] m at there from fits good = good
all_written k b r (v ∷ vs) m at there from fits good =
    all_written k b r vs (with_word m at v) (at + 4) there (omega (arith, from)) (omega (arith, fits))
    (record {
      stands = stands_word (holding k m) r Lent at v good.stands lent_not_free (lends_all (holding k m) b r good.stands there) (record { from = from; below = omega (arith, fits) });
      shape = shaped_word m at v good.shape;
    })

-- ---- the opening

get_free : (n b : ℕ) → b < n → slice_get (replicate n Free) b ≡ Some Free
get_free zero b below = absurd (omega (arith, below))
get_free (suc n) zero below = refl
get_free (suc n) (suc b) below = get_free n b (omega (arith, below))

head_many : length (qh_words opening_head) ≡ 12
unfolding qh_words
head_many = refl

new_book : ℕ → Book
new_book n = record { slots = replicate (n / 8) Empty; taken = [] }

opening_good : (n : ℕ) (room : Reserve) → 2048 ≤ n → n ≤ 262144 → n % 1024 ≡ 0 → IsGood (opening n room).driver.book (opening n room).memory
unfolding new_book
opening_good n room many few whole =
    all_written k head_block head_run (qh_words opening_head) (with_words m 0 (replicate 1024 1)) 4096 (get_or-set_same (set (replicate (n / 8) Empty) 0 (Lends list_run)) head_block (Lends head_run) Empty (omega (arith, long, one_set))) (omega arith)
    (omega (arith, head_many))
    (all_written k 0 list_run (replicate 1024 1) m 0 list_there (omega arith) (let l = length-replicate {A = ℕ} 1024 1 in omega (arith, l)) both)
  where
    h : Holding
    h = holding (new_book n) (fresh n)

    long : length (replicate (n / 8) Empty) ≡ n / 8
    long = length-replicate (n / 8) Empty

    states : length (replicate (n / 8) Free) ≡ n / 8
    states = length-replicate (n / 8) Free

    one_set : length (set (replicate (n / 8) Empty) 0 (Lends list_run)) ≡ length (replicate (n / 8) Empty)
    one_set = length-set (replicate (n / 8) Empty) 0 (Lends list_run)

    first : IsGood h.book h.memory
    first = record { stands = stands_new n; shape = shaped_fresh n (omega (arith, many)) few whole }

    g : Holding
    g = lent_run h list_run

    list : IsGood g.book g.memory
    list =
        lent_now h list_run refl (omega (arith, states, many)) (omega arith)
        (refl, record { free_run = record { some = omega arith; one_page = omega arith; free = λ b low high. get_free (n / 8) b (omega (arith, high, many)) }; lowest = λ other run. omega arith }) first

    m : Mem
    m = with_states g.memory head_run Lent

    k : Book
    k = opening_book (n / 8)

    many_states : length g.memory.states ≡ n / 8
    many_states = length-filled (replicate (n / 8) Free) 0 128 Lent (omega (arith, states, many)) ∙ states

    both : IsGood k m
    both =
        lent_now g head_run refl (omega (arith, many_states, many)) (omega arith) (
          refl,
          record {
            free_run = record {
              some = omega arith;
              one_page = omega arith;
              free = λ b low high.
                  state_at-with_states_after (fresh n) list_run Lent b (omega (arith, states, many)) (omega (arith, low)) ∙ get_free (n / 8) b (omega (arith, high, many));
            };
            lowest = λ other run.
                ⊎_elim
                (λ (low : other < 128).
                absurd (not_both (sym (state_at-with_states_inside (fresh n) list_run Lent other (omega (arith, states, many))
                (record { from = omega arith; below = omega (arith, low) })) ∙ run.free other (omega arith) (omega arith))))
                (λ (high : 128 ≤ other). high) (cases_lt other 128);
          },
        ) list

    list_there : slot_of k.slots 0 ≡ Lends list_run
    list_there =
        get_or-set_other (set (replicate (n / 8) Empty) 0 (Lends list_run)) head_block 0 (Lends head_run) Empty (λ same. absurd (omega (arith, same)))
        ∙ get_or-set_same (replicate (n / 8) Empty) 0 (Lends list_run) Empty (omega (arith, long, many))

pub opening_is_in_place : (n : ℕ) (room : Reserve) → 2048 ≤ n → n ≤ 262144 → n % 1024 ≡ 0 → IsInPlace (opening n room).memory (opening n room).driver
opening_is_in_place n room many few whole =
    let good = opening_good n room many few whole in
    record {
      sound = record {
        stands = good.stands;
        shape = good.shape;
        owners = opening_has_owners n room many;
        listed = opening_list_has_its_members n room;
        ring = opening_is_a_ring n room many;
      };
      lent = opening_runs_are_lent n room;
      queues = opening_has_queue_heads n room;
      fixed = opening_has_fixed_words n room many;
    }
