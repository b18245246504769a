-- The tables of a plan are the sums of its list, before and after one placement comes or goes.
use Rattle.std.proofs.Common.{◌≡◌, ◌≢◌, ℕ, ◌+◌, ◌/◌, ◌%◌, ◌<◌, ◌≤◌, Bool, true, false, cond, List, [], ◌∷◌, refl, ap, sym, ◌∙◌, subst, arith, inl, inr, length, length-append, get_or, nat_eq}
use Rattle.std.specs.Prelude.{zero, suc, ◌||◌, sum_by, replicate, min, All, Option, Some, None, slice_index, filter, not}
use Rattle.std.specs.List.{list_any, position, remove}
use Rattle.std.proofs.lemmas.List.{get_or-replicate, length-replicate}
use Rattle.std.proofs.lemmas.List.Sums.{sum_by-remove}
use Rattle.std.proofs.lemmas.List.Edits.{length-remove}
use Rattle.std.proofs.lemmas.List.Elements.{All-push, All-filter, All-nil}
use Rattle.std.proofs.lemmas.List.Kept.{AllPairs-filter}
use Rattle.std.proofs.lemmas.List.Quantifiers.{all_pairs_push}
use Rattle.bandwidth.specs.declared.placements.Want.{Want}
use Rattle.bandwidth.specs.declared.placements.Placement.{Placement}
use Rattle.bandwidth.specs.declared.placements.Placed.{Placed}
use Rattle.bandwidth.specs.Sums.{cost_at, cost_in, is_active, is_at, translator_of, Fits}
use Rattle.bandwidth.specs.Admission.{translator_in, joined, keeps}
use Rattle.bandwidth.specs.Tables.{Book, Pool, IsBook, IsPool, IsLess, HubTables, AreZero, HubStands, IsPlaced, AreSums, LoadsFit, Tells, serves, tables_of, pool_size, sheet_at}
use Rattle.bandwidth.specs.declared.shapes.Shape.{Shape}
use Rattle.bandwidth.specs.Shapes.{IsShape, IsOf}
use Rattle.bandwidth.proofs.Spans.{shape_costs}
use Rattle.bandwidth.proofs.Budgets.{load_joined, own_at, fits_fewer, fits_none, fits_fact, frames_out, bytes_out, keeps_alone, keeps_all, taken}
use Rattle.bandwidth.proofs.Ids.{none_has, of_id, on_or_off, taken_out}
use Rattle.bandwidth.proofs.Pools.{sums_or_none, no_hubs, or_true}

-- ---- what an admission sees

pub sums_for : (b : Book) (o : Option ℕ) → IsBook b → AreSums (sheet_at b o) o
sums_for b None book = record {
  loads = book.loads;
  frames = λ h f e k l. absurd cc;
  bytes = λ h u e k l. absurd cc;
}
sums_for b (Some number) book = record {
  loads = book.loads;
  frames = λ h f e k l.
      let s : number ≡ h = cc in rw s ((sums_or_none b.placed h (tables_of b.pool h) (book.pool.hubs h k)).0 f l);
  bytes = λ h u e k l.
      let s : number ≡ h = cc in rw s ((sums_or_none b.placed h (tables_of b.pool h) (book.pool.hubs h k)).1 u l);
}

pub loads_small : (b : Book) → IsBook b → (u : ℕ) → u < 8192 → slice_index b.loads u ≤ 1000000000000
loads_small b book u h = omega (arith, book.loads u h, book.fits.loads u h)

-- ---- nothing is placed

pub zero_count : (n : ℕ) (xs : List ℕ) → xs ≡ replicate n 0 → length xs ≡ n
zero_count n xs e = ap length e ∙ length-replicate n 0

pub zero_at : (n : ℕ) (xs : List ℕ) → xs ≡ replicate n 0 → (i : ℕ) → i < n → slice_index xs i ≡ 0
zero_at n xs e i h = ap (λ (ys : List ℕ). slice_index ys i) e ∙ get_or-replicate n i 0 0 h

pub zero_tables : (t : HubTables) → t.frames ≡ replicate 1024 0 → t.bytes ≡ replicate 8192 0 → AreZero t
zero_tables t f b = record {
  cells = record { frames = zero_count 1024 t.frames f; bytes = zero_count 8192 t.bytes b };
  frames = zero_at 1024 t.frames f;
  bytes = zero_at 8192 t.bytes b;
}

pub pool_size_of : (pool : Pool) (n : ℕ) → All (λ (o : Option HubTables). o ≡ None) pool.hubs → length pool.free ≡ n → pool_size pool ≡ n
pool_size_of pool n e f = omega (arith, no_hubs pool.hubs e, f)

pub pool_opening : (pool : Pool) → length pool.hubs ≡ 2048 → All (λ (o : Option HubTables). o ≡ None) pool.hubs → IsPool [] pool
pool_opening pool count none = record {
  count = count;
  hubs = λ number h.
      subst (λ (o : Option HubTables). HubStands [] number o) (sym (none number None (omega (arith, count)))) refl;
}

pub book_opening : (room : ℕ) (table : List ℕ) (pool : Pool) → table ≡ replicate 8192 0 → length pool.hubs ≡ 2048 → All (λ (o : Option HubTables). o ≡ None) pool.hubs → length pool.free ≡ min room 2048 → IsBook (record { room = room; placed = []; loads = table; pool = pool })
book_opening room table pool zeros count none size = record {
  cells = zero_count 8192 table zeros;
  loads = zero_at 8192 table zeros;
  pool = pool_opening pool count none;
  size = pool_size_of pool (min room 2048) none size;
  room = omega arith;
  placed = All-nil IsPlaced;
  fits = fits_none;
  ids = λ i j d h k. absurd (omega arith);
}

-- ---- one more

pub record Comes (b : Book) (w : Want) (p : Placement) (table : List ℕ) (next : Pool) : Type 0 where
  pub cells : length table ≡ 8192
  pub loads : (u : ℕ) → u < 8192 → slice_index table u ≡ slice_index b.loads u + cond (is_active p (u / 8)) (cost_in w p (u % 8)) 0
  pub pool : IsPool (joined b.placed w p) next
  pub size : pool_size next ≡ pool_size b.pool

pub book_joined : (b : Book) (w : Want) (p : Placement) (loads : List ℕ) (pool : Pool) → IsBook b → IsPlaced (record { want = w; placement = p }) → Fits (joined b.placed w p) → length b.placed < b.room → list_any (λ x. nat_eq x.want.id w.id) b.placed ≡ false → Comes b w p loads pool → IsBook (record { room = b.room; placed = joined b.placed w p; loads = loads; pool = pool })
book_joined b w p loads pool book placed fits room fresh comes = record {
  cells = comes.cells;
  loads = λ u h. omega (arith, comes.loads u h, book.loads u h, load_joined b.placed w p u);
  pool = comes.pool;
  size = comes.size ∙ book.size;
  room = omega (arith, length-append b.placed (record { want = w; placement = p } ∷ []), room);
  placed = All-push IsPlaced b.placed (record { want = w; placement = p }) book.placed placed;
  fits = fits;
  ids =
      all_pairs_push (λ x y. x.want.id ≢ y.want.id) b.placed (record { want = w; placement = p }) book.ids
      (none_has b.placed w.id fresh);
}

-- ---- one less

or_swap : (a b c : Bool) → (a || (b || c)) ≡ (b || (a || c))
or_swap true true c = refl
or_swap true false c = refl
or_swap false b c = refl

serves_removed : (placed : List Placed) (i : ℕ) (x : Placed) (number : ℕ) → i < length placed → x ≡ get_or placed i x
    → serves placed number ≡ (is_at x.want number || serves (remove placed i) number)
serves_removed [] i x number h e = absurd (omega arith)
serves_removed (y ∷ ys) zero x number h e = ap (λ (z : Placed). is_at z.want number || serves ys number) (sym e)
serves_removed (y ∷ ys) (suc i) x number h e =
    ap (λ b. is_at y.want number || b) (serves_removed ys i x number (omega arith) e)
    ∙ or_swap (is_at y.want number) (is_at x.want number) (serves (remove ys i) number)

pub less_removed : (placed : List Placed) (i : ℕ) (x : Placed) → i < length placed → x ≡ get_or placed i x → IsLess x placed (remove placed i)
less_removed placed i x inside e = record {
  sums = λ f.
      sym
      (ap (λ (y : Placed). sum_by f (remove placed i) + f y) e ∙ sum_by-remove f placed i x inside);
  serves = λ number. serves_removed placed i x number inside e;
}

abbrev pub left_of : List Placed → ℕ → List Placed
left_of placed id = filter (λ x. not (of_id id x)) placed

pub load_holds : (b : Book) (x : Placed) (left : List Placed) → IsBook b → IsLess x b.placed left → (u : ℕ) → u < 8192 → is_active x.placement (u / 8) ≡ true → cost_in x.want x.placement (u % 8) ≤ slice_index b.loads u
load_holds b x left book less u h active =
    omega (
      arith,
      less.sums (cost_at u),
      book.loads u h,
      taken (is_active x.placement (u / 8)) (cost_in x.want x.placement (u % 8)) active,
    )

pub record Goes (b : Book) (x : Placed) (left : List Placed) (table : List ℕ) (next : Pool) : Type 0 where
  pub cells : length table ≡ 8192
  pub loads : (u : ℕ) → u < 8192 → slice_index b.loads u ≡ slice_index table u + cond (is_active x.placement (u / 8)) (cost_in x.want x.placement (u % 8)) 0
  pub pool : IsPool left next
  pub size : pool_size next ≡ pool_size b.pool

pub book_left : (b : Book) (i id : ℕ) (x : Placed) (loads : List ℕ) (pool : Pool) → IsBook b → i < length b.placed → x ≡ get_or b.placed i x → position (of_id id) b.placed ≡ Some i → Goes b x (remove b.placed i) loads pool → IsBook (record { room = b.room; placed = remove b.placed i; loads = loads; pool = pool })
book_left b i id x loads pool book inside e at goes =
    let less = less_removed b.placed i x inside e in
    let left : remove b.placed i ≡ left_of b.placed id = taken_out b.placed id i book.ids at in
    record {
      cells = goes.cells;
      loads = λ u h. omega (arith, goes.loads u h, book.loads u h, less.sums (cost_at u));
      pool = goes.pool;
      size = goes.size ∙ book.size;
      room = omega (arith, length-remove b.placed i inside, book.room);
      placed = rw left (All-filter (λ x. not (of_id id x)) IsPlaced b.placed book.placed);
      fits = rw left (fits_fewer (λ x. not (of_id id x)) b.placed book.fits);
      ids = rw left (AllPairs-filter (λ x y. x.want.id ≢ y.want.id) (λ x. not (of_id id x)) b.placed book.ids);
    }

-- ---- what a placement has to keep below its translator

sums_below : (b : Book) (number : ℕ) (o : Option ℕ) → o ≡ Some number → IsBook b → AreSums (sheet_at b (Some number)) o
sums_below b number o e book = subst (λ (x : Option ℕ). AreSums (sheet_at b x) o) e (sums_for b o book)

sums_alone : (b : Book) (o : Option ℕ) → o ≡ None → IsBook b → AreSums (sheet_at b None) o
sums_alone b o e book = subst (λ (x : Option ℕ). AreSums (sheet_at b x) o) e (sums_for b o book)

needed_by : (b : Book) (w : Want) (p : Placement) (r : Bool) (o : Option ℕ) → translator_of w ≡ o → w.tt < 16 → IsBook b
    → Tells b w p r → keeps b.placed w p ≡ true → r ≡ true
needed_by b w p r None e few book tells kept = tells.alone e
needed_by b w p r (Some number) e few book tells kept =
    let s = sheet_at b (Some number) in
    let fit = fits_fact (joined b.placed w p) kept in
    let sums = sums_below b number (translator_of w) e book in
    (tells.fits number e).1
    (record {
      frames = frames_out s w p number (tells.small number e) few e sums fit;
      bytes = bytes_out s w p number (tells.small number e) few e sums fit;
    })

pub below_needed : (b : Book) (w : Want) (p : Placement) (r : Bool) → w.tt < 16 → IsBook b → Tells b w p r
    → keeps b.placed w p ≡ true → r ≡ true
below_needed b w p r few book tells kept = needed_by b w p r (translator_of w) refl few book tells kept

enough_by : (b : Book) (w : Want) (p : Placement) (r : Bool) (o : Option ℕ) → translator_of w ≡ o → IsBook b → Tells b w p r
    → LoadsFit b.loads (cost_in w p) p → r ≡ true → keeps b.placed w p ≡ true
enough_by b w p r None e book tells loads on =
    keeps_alone (sheet_at b None) w p e (sums_alone b (translator_of w) e book) book.fits loads
enough_by b w p r (Some number) e book tells loads on =
    let below = (tells.fits number e).0 on in
    keeps_all (sheet_at b (Some number)) w p (sums_below b number (translator_of w) e book) book.fits loads below.frames below.bytes

pub below_enough : (b : Book) (w : Want) (p : Placement) (r : Bool) → IsBook b → Tells b w p r → LoadsFit b.loads (cost_in w p) p → r ≡ true → keeps b.placed w p ≡ true
below_enough b w p r book tells loads on = enough_by b w p r (translator_of w) refl book tells loads on

-- ---- the amounts of a shape are the costs of its placements

pub costs_as : (table next : List ℕ) (w : Want) (x : Shape) (p : Placement) → IsShape w x → IsOf x p → ((u : ℕ) → u < 8192 → slice_index next u ≡ slice_index table u + cond (is_active p (u / 8)) (slice_index x.costs.each (u % 8)) 0) → (u : ℕ) → u < 8192 → slice_index next u ≡ slice_index table u + cond (is_active p (u / 8)) (cost_in w p (u % 8)) 0
costs_as table next w x p shape of sums u h =
    let small : u % 8 < 8 = omega arith in
    sums u h
    ∙ ap (λ n. slice_index table u + cond (is_active p (u / 8)) n 0) (shape_costs w x p shape of (u % 8) small)

pub costs_left : (table next amounts : List ℕ) (w : Want) (p : Placement) → ((m : ℕ) → m < 8 → slice_index amounts m ≡ cost_in w p m) → ((u : ℕ) → u < 8192 → slice_index table u ≡ slice_index next u + cond (is_active p (u / 8)) (slice_index amounts (u % 8)) 0) → (u : ℕ) → u < 8192 → slice_index table u ≡ slice_index next u + cond (is_active p (u / 8)) (cost_in w p (u % 8)) 0
costs_left table next amounts w p same sums u h =
    let small : u % 8 < 8 = omega arith in
    sums u h ∙ ap (λ n. slice_index next u + cond (is_active p (u / 8)) n 0) (same (u % 8) small)

-- ---- the translator of a placement has tables

served_in : (placed : List Placed) (id number : ℕ) → All IsPlaced placed → translator_in placed id ≡ Some number
    → serves placed number ≡ true
served_in [] id number are e = absurd cc
served_in (x ∷ xs) id number are e =
    elim (on_or_off (of_id id x)) [
      | inl t ↦
          let own : translator_of x.want ≡ Some number = rw t at e in
          let first : IsPlaced x = are 0 x (omega arith) in rw (own_at x.want number first.want.tt own) refl
      | inr f ↦
          let rest : translator_in xs id ≡ Some number = rw f at e in
          or_true (is_at x.want number) (serves xs number) (served_in xs id number (λ k d l. are (suc k) d (omega arith)) rest)
    ]

pub translator_stands : (placed : List Placed) (pool : Pool) (id number : ℕ) → All IsPlaced placed → IsPool placed pool
    → number < 2048 → translator_in placed id ≡ Some number → tables_of pool number ≡ None → ⊥
translator_stands placed pool id number are is h e none =
    let on = served_in placed id number are e in
    let off : serves placed number ≡ false = subst (λ (o : Option HubTables). HubStands placed number o) none (is.hubs number h) in cc
