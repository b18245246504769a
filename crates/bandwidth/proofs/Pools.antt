-- The tables of hubs: one translator at most for each placement has some, and their cells are its sums, also after one placement comes or goes.
use Rattle.std.proofs.Common.{◌≡◌, ◌≢◌, ℕ, ◌+◌, ◌/◌, ◌%◌, ◌<◌, ◌≤◌, Bool, true, false, cond, List, [], ◌∷◌, refl, ap, sym, ◌∙◌, subst, arith, inl, inr, ◌⊎◌, length, length-set, get_or, set, nat_eq, nat_le, ◌*◌, ◌↔◌, eq-eqb, get_or-set_other, get_or-set_same, set-set}
use Rattle.std.specs.Prelude.{zero, suc, ◌||◌, sum_by, is_some, All, Option, Some, None, IfSome, IsSome, slice_index, option_to_list}
use Rattle.std.specs.List.{count_by}
use Rattle.std.proofs.lemmas.Bool.Decides.{nat_tests}
use Rattle.std.proofs.lemmas.List.Sums.{sum_by-set}
use Rattle.std.proofs.lemmas.List.Recursion.{is_count_by}
use borrow.Author.Tests.{eqb-true}
use Rattle.bandwidth.specs.declared.placements.Want.{Want}
use Rattle.bandwidth.specs.declared.placements.Placement.{Placement}
use Rattle.bandwidth.specs.declared.placements.Placed.{Placed}
use Rattle.bandwidth.specs.Sums.{frame_sum, tt_sum, laid_at, time_at, laid_in, time_of, is_active, is_at, translator_of, Fits}
use Rattle.bandwidth.specs.Admission.{joined}
use Rattle.bandwidth.specs.Tables.{HubTables, Pool, Book, AreCells, AreZero, AreHubSums, AreWithin, Adds, Holds, Had, Gives, AddsAt, TakesAt, BelowFits, HubStands, IsPool, IsBook, IsLess, serves, tables_of, tables_or_none, pool_size, frame_share, byte_share}
use Rattle.bandwidth.proofs.Budgets.{frame_joined, bytes_joined, none_at, number_at, same_number, off_of, taken}
use Rattle.bandwidth.specs.Placements.{IsPlace, frame_period}
use Rattle.bandwidth.proofs.Turns.{whole_of, active_of}

or_false : (a : Bool) → (a || false) ≡ a
or_false true = refl
or_false false = refl

or_assoc : (a b c : Bool) → (a || (b || c)) ≡ ((a || b) || c)
or_assoc true b c = refl
or_assoc false b c = refl

left_out : (b : Bool) (x : ℕ) → b ≡ false → cond b x 0 ≡ 0
left_out true x h = cc
left_out false x h = refl

by_test : (b : Bool) (x h : ℕ) → nat_eq x h ≡ b → (x ≡ h) ⊎ (x ≢ h)
by_test true x h e = inl (eqb-true x h e)
by_test false x h e = inr (λ (s : x ≡ h). let t : nat_eq x h ≡ true = eq-eqb x h s in cc)

same_or_not : (x h : ℕ) → (x ≡ h) ⊎ (x ≢ h)
same_or_not x h = by_test (nat_eq x h) x h refl

-- ---- as many hubs as placements

-- how many hubs have tables
unfoldable count_some : List (Option HubTables) → ℕ
count_some [] = 0
count_some (x ∷ xs) = cond (is_some x) (1 + count_some xs) (count_some xs)

count_same : (xs : List (Option HubTables)) → count_some xs ≡ count_by is_some xs
unfolding count_some
count_same xs = is_count_by count_some is_some refl (λ x xs. refl) xs

-- how many of the numbers from a on, one for each of a list, pass
unfoldable along : (ℕ → Bool) → ℕ → List (Option HubTables) → ℕ
along test a [] = 0
along test a (x ∷ xs) = cond (test a) (1 + along test (a + 1) xs) (along test (a + 1) xs)

count_as : (xs : List (Option HubTables)) (test : ℕ → Bool) (a : ℕ) → ((i : ℕ) → i < length xs → is_some (get_or xs i None) ≡ test (a + i)) → count_some xs ≡ along test a xs
unfolding count_some along
count_as [] test a h = refl
count_as (x ∷ xs) test a h =
    let zero_add : a + 0 ≡ a = omega arith in
    let here : is_some x ≡ test a = rw zero_add at (h 0 (omega arith)) in
    let rest =
    count_as xs test (a + 1)
    (λ i k.
    let e : a + suc i ≡ a + 1 + i = omega arith in
    let s : is_some (get_or xs i None) ≡ test (a + suc i) = h (suc i) (omega arith) in rw e at s) in
    rw (here, rest) refl

either_cell : (p q : Bool) (x y z : ℕ) → x ≤ y + z → cond (p || q) (1 + x) x ≤ cond p (1 + y) y + cond q (1 + z) z
either_cell true true x y z h = omega arith
either_cell true false x y z h = omega arith
either_cell false true x y z h = omega arith
either_cell false false x y z h = h

along_either : (p q : ℕ → Bool) (a : ℕ) (xs : List (Option HubTables)) → along (λ h. p h || q h) a xs ≤ along p a xs + along q a xs
unfolding along
along_either p q a [] = omega arith
along_either p q a (x ∷ xs) = either_cell (p a) (q a) _ _ _ (along_either p q (a + 1) xs)

along_none : (a : ℕ) (xs : List (Option HubTables)) → along (λ h. false) a xs ≡ 0
unfolding along
along_none a [] = refl
along_none a (x ∷ xs) = along_none (a + 1) xs

along_past : (x a : ℕ) (xs : List (Option HubTables)) → x < a → along (λ h. nat_eq x h) a xs ≡ 0
unfolding along
along_past x a [] h = refl
along_past x a (y ∷ xs) h =
    let off : nat_eq x a ≡ false = grind (arith, nat_tests) in rw off (along_past x (a + 1) xs (omega arith))

one_cell : (b : Bool) (n : ℕ) → n ≤ 1 → (b ≡ true → n ≡ 0) → cond b (1 + n) n ≤ 1
one_cell true n h k = omega (arith, k refl)
one_cell false n h k = h

along_same : (x a : ℕ) (xs : List (Option HubTables)) → along (λ h. nat_eq x h) a xs ≤ 1
unfolding along
along_same x a [] = omega arith
along_same x a (y ∷ xs) =
    one_cell (nat_eq x a) _ (along_same x (a + 1) xs)
    (λ t. let e : x ≡ a = eqb-true x a t in along_past x (a + 1) xs (omega arith))

cell_more : (p q : Bool) (x y : ℕ) → (p ≡ true → q ≡ true) → x ≤ y → cond p (1 + x) x ≤ cond q (1 + y) y
cell_more true q x y h k = rw (h refl) (omega (arith, k))
cell_more false true x y h k = omega (arith, k)
cell_more false false x y h k = k

along_more : (p q : ℕ → Bool) (a : ℕ) (xs : List (Option HubTables)) → ((n : ℕ) → p n ≡ true → q n ≡ true) → along p a xs ≤ along q a xs
unfolding along
along_more p q a [] h = omega arith
along_more p q a (x ∷ xs) h = cell_more (p a) (q a) _ _ (h a) (along_more p q (a + 1) xs h)

along_one : (o : Option ℕ) (w : Want) (xs : List (Option HubTables)) → translator_of w ≡ o → along (is_at w) 0 xs ≤ 1
along_one None w xs e =
    omega (arith, along_more (is_at w) (λ h. false) 0 xs (λ n t. absurd (none_at w n e t)), along_none 0 xs)
along_one (Some x) w xs e =
    omega (arith, along_more (is_at w) (λ h. nat_eq x h) 0 xs (λ n t. number_at w n x e t), along_same x 0 xs)

serves_count : (placed : List Placed) (xs : List (Option HubTables)) → along (serves placed) 0 xs ≤ length placed
serves_count [] xs = omega (arith, along_none 0 xs)
serves_count (x ∷ ps) xs =
    omega (
      arith,
      along_either (is_at x.want) (serves ps) 0 xs,
      along_one (translator_of x.want) x.want xs refl,
      serves_count ps xs,
    )

stands_some : (placed : List Placed) (number : ℕ) (t : Option HubTables) → HubStands placed number t → is_some t ≡ serves placed number
stands_some placed number None h = sym h
stands_some placed number (Some t) h = sym h.0

few_hubs : (placed : List Placed) (pool : Pool) → IsPool placed pool → count_some pool.hubs ≤ length placed
few_hubs placed pool p =
    let same =
    count_as pool.hubs (serves placed) 0
    (λ i k.
    let e : 0 + i ≡ i = omega arith in
    let s : is_some (get_or pool.hubs i None) ≡ serves placed i =
    stands_some placed i (get_or pool.hubs i None) (p.hubs i (omega (arith, p.count))) in rw e s) in
    omega (arith, same, serves_count placed pool.hubs)

count_step : (b : Bool) (n : ℕ) → cond b (1 + n) n ≤ n + 1
count_step true n = omega arith
count_step false n = omega arith

count_most : (xs : List (Option HubTables)) → count_some xs ≤ length xs
unfolding count_some
count_most [] = omega arith
count_most (x ∷ xs) = omega (arith, count_step (is_some x) (count_some xs), count_most xs)

one_short : (xs : List (Option HubTables)) (i : ℕ) → i < length xs → get_or xs i None ≡ None → count_some xs + 1 ≤ length xs
unfolding count_some
one_short [] i h e = absurd (omega arith)
one_short (x ∷ xs) zero h e =
    let off : is_some x ≡ false = ap is_some e in rw off (omega (arith, count_most xs))
one_short (x ∷ xs) (suc i) h e =
    omega (arith, count_step (is_some x) (count_some xs), one_short xs i (omega arith) e)

-- a translator without tables finds some as long as there is room
pub free_left : (b : Book) (number : ℕ) → IsBook b → length b.placed < b.room → number < 2048 → tables_of b.pool number ≡ None
    → 1 ≤ length b.pool.free
free_left b number book room h none =
    omega (
      arith,
      book.size,
      room,
      few_hubs b.placed b.pool book.pool,
      one_short b.pool.hubs number (omega (arith, book.pool.count)) none,
      book.pool.count,
      count_same b.pool.hubs,
    )

none_some : (xs : List (Option HubTables)) → All (λ (o : Option HubTables). o ≡ None) xs → count_some xs ≡ 0
unfolding count_some
none_some [] all = refl
none_some (x ∷ xs) all =
    let off : is_some x ≡ false = ap is_some (all 0 None (omega arith)) in
    rw off (none_some xs (λ k d l. all (suc k) d (omega arith)))

pub no_hubs : (xs : List (Option HubTables)) → All (λ (o : Option HubTables). o ≡ None) xs → count_by is_some xs ≡ 0
no_hubs xs all = sym (count_same xs) ∙ none_some xs all

-- ---- one entry is written

cell : Option HubTables → ℕ
cell o = cond (is_some o) 1 0

count_set : (xs ys : List (Option HubTables)) (number : ℕ) (v : Option HubTables) → ys ≡ set xs number v → number < length xs
    → count_by is_some ys + cell (get_or xs number None) ≡ count_by is_some xs + cell v
unfolding cell
count_set xs ys number v e inside =
    ap (λ (zs : List (Option HubTables)). count_by is_some zs + cond (is_some (get_or xs number None)) 1 0) e
    ∙ sum_by-set (λ (o : Option HubTables). cond (is_some o) 1 0) xs number v None inside

cell_some : (o : Option HubTables) → is_some o ≡ true → cell o ≡ 1
unfolding cell
cell_some o h = rw h refl

popped : (o : Option HubTables) → cell o ≡ length (option_to_list o)
unfolding cell
popped None = refl
popped (Some t) = refl

-- tables stay where they were
pub size_kept : (old new : Pool) (number : ℕ) (t : HubTables) → length old.hubs ≡ 2048 → number < 2048
    → is_some (tables_of old number) ≡ true → new.hubs ≡ set old.hubs number (Some t) → new.free ≡ old.free → pool_size new ≡ pool_size old
unfolding cell
size_kept old new number t count h some e same =
    omega (
      arith,
      count_set old.hubs new.hubs number (Some t) e (omega (arith, count)),
      cell_some (tables_of old number) some,
      ap length same,
    )

-- the last of the free goes to a translator that had none
pub size_given : (old new : Pool) (number : ℕ) (r : Option HubTables) → length old.hubs ≡ 2048 → number < 2048
    → tables_of old number ≡ None → new.hubs ≡ set old.hubs number r → length new.free + length (option_to_list r) ≡ length old.free
    → pool_size new ≡ pool_size old
size_given old new number r count h none e popped_is =
    omega (
      arith,
      count_set old.hubs new.hubs number r e (omega (arith, count)),
      ap cell none,
      popped None,
      popped r,
      popped_is,
    )

-- a translator's go back to the free
pub size_back : (old new : Pool) (number : ℕ) → length old.hubs ≡ 2048 → number < 2048 → is_some (tables_of old number) ≡ true
    → new.hubs ≡ set old.hubs number None → length new.free ≡ length old.free + 1 → pool_size new ≡ pool_size old
size_back old new number count h some e more =
    omega (
      arith,
      count_set old.hubs new.hubs number None e (omega (arith, count)),
      cell_some (tables_of old number) some,
      popped None,
      more,
    )

-- a translator with tables that were just given
pub added_given : (old mid new : Pool) (number time : ℕ) (laid : ℕ → ℕ) (p : Placement) → length old.hubs ≡ 2048 → number < 2048
    → tables_of old number ≡ None → Gives old mid number → AddsAt mid new number time laid p → AddsAt old new number time laid p
added_given old mid new number time laid p count h none gives adds =
    let at : tables_of mid number ≡ Some gives.given =
    ap (λ (xs : List (Option HubTables)). get_or xs number None) gives.hubs
    ∙ get_or-set_same old.hubs number (Some gives.given) None (omega (arith, count)) in
    let same : gives.given ≡ adds.was = subst (λ (o : Option HubTables). Had o adds.was) at adds.had in
    record {
      was = adds.was;
      now = adds.now;
      had = subst (λ (o : Option HubTables). Had o adds.was) (sym none) (subst AreZero same gives.zero);
      adds = adds.adds;
      hubs =
          adds.hubs
          ∙ ap (λ (xs : List (Option HubTables)). set xs number (Some adds.now)) gives.hubs
          ∙ set-set old.hubs number (Some gives.given) (Some adds.now);
    }

pub at_given : (old mid : Pool) (number : ℕ) → length old.hubs ≡ 2048 → number < 2048 → (g : Gives old mid number)
    → tables_of mid number ≡ Some g.given
at_given old mid number count h g =
    ap (λ (xs : List (Option HubTables)). get_or xs number None) g.hubs
    ∙ get_or-set_same old.hubs number (Some g.given) None (omega (arith, count))

pub zero_within : (t : HubTables) → AreZero t → AreWithin t
zero_within t z = record {
  cells = z.cells;
  frames = λ f k. omega (arith, z.frames f k);
  bytes = λ u k. omega (arith, z.bytes u k);
}

pub if_at : (P : HubTables → Type 0) (o : Option HubTables) (t : HubTables) → o ≡ Some t → P t → IfSome o P
if_at P o t e h = subst (λ (x : Option HubTables). IfSome x P) (sym e) h

pub some_at : (o : Option HubTables) (t : HubTables) → o ≡ Some t → is_some o ≡ true
some_at o t e = ap is_some e

pub gives_by : (old new : Pool) (number : ℕ) (r : Option HubTables) → IsSome r → IfSome r AreZero → new.hubs ≡ set old.hubs number r
    → Gives old new number
gives_by old new number None some zeros e = cc
gives_by old new number (Some t) some zeros e = record { given = t; zero = zeros; hubs = e }

-- the same amounts, written otherwise
pub adds_as : (time other : ℕ) (laid amounts : ℕ → ℕ) (p : Placement) (t u : HubTables) → other ≡ time → ((m : ℕ) → m < 8 → amounts m ≡ laid m) → Adds other amounts p t u → Adds time laid p t u
adds_as time other laid amounts p t u e same adds = record {
  cells = adds.cells;
  frames = λ f k. adds.frames f k ∙ ap (λ n. slice_index t.frames f + cond (is_active p f) n 0) e;
  bytes = λ m k.
      let small : m % 8 < 8 = omega arith in
      adds.bytes m k ∙ ap (λ n. slice_index t.bytes m + cond (is_active p (m / 8)) n 0) (same (m % 8) small);
}

holds_as : (time other : ℕ) (laid amounts : ℕ → ℕ) (p : Placement) (t : HubTables) → other ≡ time → ((m : ℕ) → m < 8 → amounts m ≡ laid m) → Holds time laid p t → Holds other amounts p t
holds_as time other laid amounts p t e same holds = record {
  cells = holds.cells;
  frames = λ f k a. rw e (holds.frames f k a);
  bytes = λ m k a. let small : m % 8 < 8 = omega arith in rw (same (m % 8) small) (holds.bytes m k a);
}

pub holds_if_as : (time other : ℕ) (laid amounts : ℕ → ℕ) (p : Placement) (o : Option HubTables) → other ≡ time → ((m : ℕ) → m < 8 → amounts m ≡ laid m) → IfSome o (Holds time laid p) → IfSome o (Holds other amounts p)
holds_if_as time other laid amounts p None e same h = h
holds_if_as time other laid amounts p (Some t) e same h = holds_as time other laid amounts p t e same h

-- ---- the sums of a translator below which nothing is placed

neither : (a b : Bool) → (a || b) ≡ false → (a ≡ false) × (b ≡ false)
neither true b h = cc
neither false b h = (refl, h)

unserved : (f : Placed → ℕ) (placed : List Placed) (number : ℕ) → serves placed number ≡ false
    → sum_by (λ x. cond (is_at x.want number) (f x) 0) placed ≡ 0
unserved f [] number h = refl
unserved f (x ∷ xs) number h =
    let n = neither (is_at x.want number) (serves xs number) h in rw n.0 (unserved f xs number n.1)

pub no_frames : (placed : List Placed) (number f : ℕ) → serves placed number ≡ false → frame_sum placed (number / 16) (number % 16) f ≡ 0
no_frames placed number f h = unserved (time_at f) placed number h

pub no_bytes : (placed : List Placed) (number u : ℕ) → serves placed number ≡ false → tt_sum placed (number / 16) (number % 16) u ≡ 0
no_bytes placed number u h = unserved (laid_at u) placed number h

-- what a translator has, or an empty table, has its sums
pub sums_or_none : (placed : List Placed) (number : ℕ) (t : Option HubTables) → HubStands placed number t
    → ((f : ℕ) → f < 1024 → slice_index (tables_or_none t).frames f ≡ frame_sum placed (number / 16) (number % 16) f) × ((u : ℕ) → u < 8192 → slice_index (tables_or_none t).bytes u ≡ tt_sum placed (number / 16) (number % 16) u)
sums_or_none placed number None h = (λ f k. sym (no_frames placed number f h), λ u k. sym (no_bytes placed number u h))
sums_or_none placed number (Some t) h = (λ f k. h.1.frames f k, λ u k. h.1.bytes u k)

within_of : (placed : List Placed) (number : ℕ) (t : HubTables) → number < 2048 → Fits placed → AreHubSums placed number t → AreWithin t
within_of placed number t h fit sums = record {
  cells = sums.cells;
  frames = λ f k. omega (arith, sums.frames f k, fit.frames (number / 16) (number % 16) f (omega (arith, h)) (omega arith) k);
  bytes = λ u k. omega (arith, sums.bytes u k, fit.bytes (number / 16) (number % 16) u (omega (arith, h)) (omega arith) k);
}

within_if : (placed : List Placed) (number : ℕ) (t : Option HubTables) → number < 2048 → Fits placed → HubStands placed number t
    → IfSome t AreWithin
within_if placed number None h fit stands = tt
within_if placed number (Some t) h fit stands = within_of placed number t h fit stands.1

pub hub_within : (placed : List Placed) (pool : Pool) (number : ℕ) → number < 2048 → Fits placed → IsPool placed pool
    → IfSome (tables_of pool number) AreWithin
hub_within placed pool number h fit p = within_if placed number (tables_of pool number) h fit (p.hubs number h)

pub within_at : (placed : List Placed) (pool : Pool) (number : ℕ) (t : HubTables) → number < 2048 → Fits placed → IsPool placed pool
    → tables_of pool number ≡ Some t → AreWithin t
within_at placed pool number t h fit p e =
    within_of placed number t h fit (subst (λ (o : Option HubTables). HubStands placed number o) e (p.hubs number h)).1

-- ---- one more

serves_joined : (placed : List Placed) (w : Want) (p : Placement) (number : ℕ)
    → serves (joined placed w p) number ≡ (serves placed number || is_at w number)
serves_joined [] w p number = or_false (is_at w number)
serves_joined (x ∷ xs) w p number =
    ap (λ b. is_at x.want number || b) (serves_joined xs w p number)
    ∙ or_assoc (is_at x.want number) (serves xs number) (is_at w number)

stands_joined : (placed : List Placed) (w : Want) (p : Placement) (number : ℕ) (t : Option HubTables) → is_at w number ≡ false
    → HubStands placed number t → HubStands (joined placed w p) number t
stands_joined placed w p number None off h = serves_joined placed w p number ∙ rw (h, off) refl
stands_joined placed w p number (Some t) off h = (
  serves_joined placed w p number ∙ rw h.0 refl,
  record {
    cells = h.1.cells;
    frames = λ f k. h.1.frames f k ∙ sym (frame_joined placed w p (number / 16) (number % 16) f ∙ rw off (omega arith));
    bytes = λ u k. h.1.bytes u k ∙ sym (bytes_joined placed w p (number / 16) (number % 16) u ∙ rw off (omega arith));
  },
)

had_sums : (placed : List Placed) (number : ℕ) (o : Option HubTables) (t : HubTables) → HubStands placed number o → Had o t
    → AreHubSums placed number t
had_sums placed number None t h zero_t = record {
  cells = zero_t.cells;
  frames = λ f k. zero_t.frames f k ∙ sym (no_frames placed number f h);
  bytes = λ u k. zero_t.bytes u k ∙ sym (no_bytes placed number u h);
}
had_sums placed number (Some s) t h e = subst (λ (x : HubTables). AreHubSums placed number x) e h.1

pub or_true : (a b : Bool) → b ≡ true → (a || b) ≡ true
or_true true b h = refl
or_true false b h = h

own_joined : (placed : List Placed) (w : Want) (p : Placement) (number : ℕ) (t u : HubTables) → is_at w number ≡ true
    → AreHubSums placed number t → Adds (time_of w) (laid_in w p) p t u → HubStands (joined placed w p) number (Some u)
own_joined placed w p number t u own sums adds = (
  serves_joined placed w p number ∙ or_true (serves placed number) _ own,
  record {
    cells = adds.cells;
    frames = λ f k.
        omega (
          arith,
          adds.frames f k,
          sums.frames f k,
          frame_joined placed w p (number / 16) (number % 16) f,
          taken (is_at w number) (frame_share (time_of w) p f) own,
        );
    bytes = λ m k.
        omega (
          arith,
          adds.bytes m k,
          sums.bytes m k,
          bytes_joined placed w p (number / 16) (number % 16) m,
          taken (is_at w number) (byte_share (laid_in w p) p m) own,
        );
  },
)

other_at : (w : Want) (number h : ℕ) → is_at w number ≡ true → h ≢ number → is_at w h ≡ false
other_at w number h own ne = off_of (is_at w h) (λ here. ne (same_number w h number here own))

pub pool_alone : (placed : List Placed) (pool : Pool) (w : Want) (p : Placement) → translator_of w ≡ None → IsPool placed pool
    → IsPool (joined placed w p) pool
pool_alone placed pool w p e is = record {
  count = is.count;
  hubs = λ h k. stands_joined placed w p h (tables_of pool h) (off_of (is_at w h) (none_at w h e)) (is.hubs h k);
}

at_or_off : (P : ℕ → Type 0) (h number : ℕ) → P number → (h ≢ number → P h) → P h
at_or_off P h number here off =
    elim (same_or_not h number) [ inl e ↦ subst P (sym e) here | inr ne ↦ off ne ]

-- what stands where one entry is written
written : (P : ℕ → Option HubTables → Type 0) (xs ys : List (Option HubTables)) (number : ℕ) (v : Option HubTables)
    → ys ≡ set xs number v → number < length xs → P number v → ((h : ℕ) → h ≢ number → P h (get_or xs h None)) → (h : ℕ)
    → P h (get_or ys h None)
written P xs ys number v e inside here off h =
    rw e
    (at_or_off (λ (k : ℕ). P k (get_or (set xs number v) k None)) h number
    (rw (get_or-set_same xs number v None inside) here)
    (λ ne. rw (get_or-set_other xs number h v None ne) (off h ne)))

pub pool_joined : (placed : List Placed) (pool new : Pool) (w : Want) (p : Placement) (number : ℕ) (t u : HubTables)
    → is_at w number ≡ true → number < 2048 → IsPool placed pool → Had (tables_of pool number) t
    → Adds (time_of w) (laid_in w p) p t u → new.hubs ≡ set pool.hubs number (Some u) → IsPool (joined placed w p) new
pool_joined placed pool new w p number t u own h is had adds hubs =
    let sums = had_sums placed number (tables_of pool number) t (is.hubs number h) had in
    let count : length new.hubs ≡ 2048 = ap length hubs ∙ length-set pool.hubs number (Some u) ∙ is.count in
    record {
      count = count;
      hubs =
          written (λ k o. k < 2048 → HubStands (joined placed w p) k o) pool.hubs new.hubs number (Some u) hubs
          (omega (arith, is.count))
          (λ k. own_joined placed w p number t u own sums adds)
          (λ k ne l. stands_joined placed w p k (tables_of pool k) (other_at w number k own ne) (is.hubs k l));
    }

-- ---- one less

stands_less : (x : Placed) (all left : List Placed) (number : ℕ) (t : Option HubTables) → is_at x.want number ≡ false
    → IsLess x all left → HubStands all number t → HubStands left number t
stands_less x all left number None off less h = sym (less.serves number ∙ rw off refl) ∙ h
stands_less x all left number (Some t) off less h = (
  sym (less.serves number ∙ rw off refl) ∙ h.0,
  record {
    cells = h.1.cells;
    frames = λ f k.
        omega (
          arith,
          h.1.frames f k,
          less.sums (λ y. cond (is_at y.want number) (time_at f y) 0),
          left_out (is_at x.want number) (time_at f x) off,
        );
    bytes = λ u k.
        omega (
          arith,
          h.1.bytes u k,
          less.sums (λ y. cond (is_at y.want number) (laid_at u y) 0),
          left_out (is_at x.want number) (laid_at u x) off,
        );
  },
)

own_left : (x : Placed) (all left : List Placed) (number : ℕ) (t u : HubTables) → is_at x.want number ≡ true → IsLess x all left
    → AreHubSums all number t → AreCells u → Adds (time_of x.want) (laid_in x.want x.placement) x.placement u t → AreHubSums left number u
own_left x all left number t u own less sums cells adds =
    record {
      cells = cells;
      frames = λ f k.
          omega (
            arith,
            adds.frames f k,
            sums.frames f k,
            less.sums (λ y. cond (is_at y.want number) (time_at f y) 0),
            taken (is_at x.want number) (time_at f x) own,
          );
      bytes = λ m k.
          omega (
            arith,
            adds.bytes m k,
            sums.bytes m k,
            less.sums (λ y. cond (is_at y.want number) (laid_at m y) 0),
            taken (is_at x.want number) (laid_at m x) own,
          );
    }

pub less_alone : (x : Placed) (all left : List Placed) (pool : Pool) → translator_of x.want ≡ None → IsLess x all left
    → IsPool all pool → IsPool left pool
less_alone x all left pool e less is = record {
  count = is.count;
  hubs = λ h k. stands_less x all left h (tables_of pool h) (off_of (is_at x.want h) (none_at x.want h e)) less (is.hubs h k);
}

-- the translator of what goes has tables, and they hold what it added
pub less_some : (x : Placed) (all left : List Placed) (pool : Pool) (number : ℕ) → is_at x.want number ≡ true → number < 2048
    → IsLess x all left → IsPool all pool → is_some (tables_of pool number) ≡ true
less_some x all left pool number own h less is =
    stands_some all number (tables_of pool number) (is.hubs number h)
    ∙ less.serves number ∙ rw own refl

sums_at : (placed : List Placed) (number : ℕ) (o : Option HubTables) (t : HubTables) → o ≡ Some t → HubStands placed number o
    → AreHubSums placed number t
sums_at placed number o t e h = (subst (λ (x : Option HubTables). HubStands placed number x) e h).1

holds_of : (x : Placed) (all left : List Placed) (number : ℕ) (t : HubTables) → is_at x.want number ≡ true → IsLess x all left
    → AreHubSums all number t → Holds (time_of x.want) (laid_in x.want x.placement) x.placement t
holds_of x all left number t own less sums =
    record {
      cells = sums.cells;
      frames = λ f k a.
          omega (
            arith,
            sums.frames f k,
            less.sums (λ y. cond (is_at y.want number) (time_at f y) 0),
            taken (is_at x.want number) (time_at f x) own,
            taken (is_active x.placement f) (time_of x.want) a,
          );
      bytes = λ m k a.
          omega (
            arith,
            sums.bytes m k,
            less.sums (λ y. cond (is_at y.want number) (laid_at m y) 0),
            taken (is_at x.want number) (laid_at m x) own,
            taken (is_active x.placement (m / 8)) (laid_in x.want x.placement (m % 8)) a,
          );
    }

holds_if : (x : Placed) (all left : List Placed) (number : ℕ) (o : Option HubTables) → is_at x.want number ≡ true → IsLess x all left
    → HubStands all number o → IfSome o (Holds (time_of x.want) (laid_in x.want x.placement) x.placement)
holds_if x all left number None own less h = tt
holds_if x all left number (Some t) own less h = holds_of x all left number t own less h.1

pub less_holds : (x : Placed) (all left : List Placed) (pool : Pool) (number : ℕ) → is_at x.want number ≡ true → number < 2048
    → IsLess x all left → IsPool all pool → IfSome (tables_of pool number) (Holds (time_of x.want) (laid_in x.want x.placement) x.placement)
less_holds x all left pool number own h less is = holds_if x all left number (tables_of pool number) own less (is.hubs number h)

-- what is written for the translator: its sums where something is left below it, else nothing
less_written : (x : Placed) (all left : List Placed) (pool new : Pool) (number : ℕ) (v : Option HubTables)
    → is_at x.want number ≡ true → number < 2048 → IsLess x all left → IsPool all pool → new.hubs ≡ set pool.hubs number v
    → HubStands left number v → IsPool left new
less_written x all left pool new number v own h less is hubs stands =
    let count : length new.hubs ≡ 2048 = ap length hubs ∙ length-set pool.hubs number v ∙ is.count in
    record {
      count = count;
      hubs =
          written (λ k o. k < 2048 → HubStands left k o) pool.hubs new.hubs number v hubs
          (omega (arith, is.count))
          (λ k. stands)
          (λ k ne l. stands_less x all left k (tables_of pool k) (other_at x.want number k own ne) less (is.hubs k l));
    }

pub less_kept : (x : Placed) (all left : List Placed) (pool new : Pool) (number : ℕ) (t u : HubTables) → is_at x.want number ≡ true
    → number < 2048 → IsLess x all left → IsPool all pool → tables_of pool number ≡ Some t → AreCells u
    → Adds (time_of x.want) (laid_in x.want x.placement) x.placement u t → new.hubs ≡ set pool.hubs number (Some u)
    → serves left number ≡ true → IsPool left new
less_kept x all left pool new number t u own h less is had cells adds hubs on =
    let sums = sums_at all number (tables_of pool number) t had (is.hubs number h) in
    less_written x all left pool new number (Some u) own h less is hubs (on, own_left x all left number t u own less sums cells adds)

pub less_freed : (x : Placed) (all left : List Placed) (pool new : Pool) (number : ℕ) → is_at x.want number ≡ true → number < 2048
    → IsLess x all left → IsPool all pool → new.hubs ≡ set pool.hubs number None → serves left number ≡ false → IsPool left new
less_freed x all left pool new number own h less is hubs off =
    less_written x all left pool new number None own h less is hubs off

-- the tables of a translator below which nothing is left are 0
pub less_zero : (x : Placed) (all left : List Placed) (pool : Pool) (number : ℕ) (t u : HubTables) → is_at x.want number ≡ true
    → number < 2048 → IsLess x all left → IsPool all pool → tables_of pool number ≡ Some t → AreCells u
    → Adds (time_of x.want) (laid_in x.want x.placement) x.placement u t → serves left number ≡ false → AreZero u
less_zero x all left pool number t u own h less is had cells adds off =
    let sums = sums_at all number (tables_of pool number) t had (is.hubs number h) in
    let left_sums = own_left x all left number t u own less sums cells adds in
    record {
      cells = cells;
      frames = λ f k. left_sums.frames f k ∙ no_frames left number f off;
      bytes = λ m k. left_sums.bytes m k ∙ no_bytes left number m off;
    }

-- ---- the budgets below a translator

pub at_taken : (old mid : Pool) (number time : ℕ) (laid : ℕ → ℕ) (p : Placement) → length old.hubs ≡ 2048 → number < 2048
    → (g : TakesAt old mid number time laid p) → tables_of mid number ≡ Some g.now
at_taken old mid number time laid p count h g =
    ap (λ (xs : List (Option HubTables)). get_or xs number None) g.hubs
    ∙ get_or-set_same old.hubs number (Some g.now) None (omega (arith, count))

below_to : (time other : ℕ) (laid amounts : ℕ → ℕ) (t : HubTables) (p : Placement) → other ≡ time → ((m : ℕ) → m < 8 → amounts m ≡ laid m) → BelowFits t other amounts p → BelowFits t time laid p
below_to time other laid amounts t p e same fits = record {
  frames = λ f k a. omega (arith, fits.frames f k a, e);
  bytes = λ u k a. let small : u % 8 < 8 = omega arith in omega (arith, fits.bytes u k a, same (u % 8) small);
}

pub below_as : (time other : ℕ) (laid amounts : ℕ → ℕ) (t : HubTables) (p : Placement) → other ≡ time → ((m : ℕ) → m < 8 → amounts m ≡ laid m) → (r : Bool) → (r ≡ true) ↔ BelowFits t other amounts p → (r ≡ true) ↔ BelowFits t time laid p
below_as time other laid amounts t p e same r fits = (
  λ on. below_to time other laid amounts t p e same (fits.0 on),
  λ all. fits.1 (below_to other time amounts laid t p (sym e) (λ m h. sym (same m h)) all),
)

-- where no sum is above 0
pub none_below : (time : ℕ) (laid : ℕ → ℕ) (p : Placement) → IsPlace p → ((m : ℕ) → m < 8 → laid m ≤ 188) → (nat_le time 900000000 ≡ true) ↔ BelowFits (record { frames = []; bytes = [] }) time laid p
none_below time laid p place most = (
  λ on.
      record {
        frames = λ f k a. let le : time ≤ 900000000 = grind (arith, nat_tests) in omega (arith, le);
        bytes = λ u k a. let small : u % 8 < 8 = omega arith in omega (arith, most (u % 8) small);
      },
  λ all.
      let whole = whole_of p.period place.period in
      let phase = place.phase in
      let start : p.phase + 0 * frame_period p.period ≡ p.phase = omega arith in
      let active : is_active p p.phase ≡ true = rw start at (active_of p 0 phase) in
      let got = all.frames p.phase (omega (arith, whole.most, phase)) active in
      let le : time ≤ 900000000 = omega (arith, got) in
      grind (arith, nat_tests),
)
