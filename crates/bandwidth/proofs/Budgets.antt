-- The tests of budgets are the facts of budgets, and what one placement more does to them.
use Rattle.std.proofs.Common.{◌≡◌, ℕ, ◌+◌, ◌/◌, ◌%◌, ◌<◌, ◌≤◌, Bool, true, false, cond, List, [], refl, ap, sym, ◌∙◌, arith, nat_le, eq-eqb, lit≤, inl, inr, ◌⊎◌}
use Rattle.std.specs.Prelude.{zero, suc, sum_by, Option, Some, None, if◌then◌else◌, slice_index, max, filter, not, ◌*◌, ◌&&◌, nat_eq, option_map}
use Rattle.std.proofs.lemmas.List.Sums.{sum_by_push}
use Rattle.std.proofs.lemmas.List.Filters.{sum_by-filter_both}
use Rattle.std.proofs.lemmas.Bool.Decides.{nat_tests}
use borrow.Author.Tests.{eqb-true}
use Rattle.bandwidth.specs.declared.placements.Want.{Want}
use Rattle.bandwidth.specs.declared.placements.Placement.{Placement}
use Rattle.bandwidth.specs.declared.placements.Placed.{Placed}
use Rattle.bandwidth.specs.Sums.{load, frame_sum, tt_sum, cost_at, laid_at, time_at, cost_in, laid_in, time_of, is_active, is_hub, is_translator, translator_of, is_at, Fits, fits, each_below}
use Rattle.bandwidth.specs.Placements.{IsWant}
use Rattle.bandwidth.specs.Admission.{joined, keeps, is_own, peak, greatest}
use Rattle.bandwidth.specs.Tables.{CellsWithin, Sheet, AreSums, LoadsFit, FramesFit, BytesFit}
use Rattle.bandwidth.specs.declared.shapes.Shape.{Shape}
use Rattle.bandwidth.specs.Shapes.{IsShape, IsOf}
use Rattle.bandwidth.proofs.Spans.{cost_some, own_of, shape_costs}
use Rattle.bandwidth.proofs.Turns.{both, both_left, both_right, earlier_or_now}

le_test : (a b : ℕ) → a ≤ b → nat_le a b ≡ true
le_test a b h = grind (arith, nat_tests)

le_fact : (a b : ℕ) → nat_le a b ≡ true → a ≤ b
le_fact a b h = grind (arith, nat_tests)

each_true : (n : ℕ) (test : ℕ → Bool) → ((i : ℕ) → i < n → test i ≡ true) → each_below n test ≡ true
unfolding each_below
each_true zero test all = refl
each_true (suc n) test all = both _ _ (each_true n test (λ i h. all i (omega arith))) (all n (omega arith))

each_at : (n : ℕ) (test : ℕ → Bool) → each_below n test ≡ true → (i : ℕ) → i < n → test i ≡ true
unfolding each_below
each_at zero test h i l = absurd (omega arith)
each_at (suc n) test h i l =
    earlier_or_now (test i ≡ true) i n (omega arith)
    (λ k. each_at n test (both_left _ (test n) h) i k)
    (λ (e : i ≡ n). rw e (both_right (each_below n test) (test n) h))

pub fits_test : (placed : List Placed) → Fits placed → fits placed ≡ true
unfolding fits
fits_test placed f =
    both _ _ (each_true 8192 _ (λ u h. le_test _ _ (f.loads u h)))
    (both _ _
    (each_true 128 _ (λ hub h. each_true 16 _ (λ port t. each_true 1024 _ (λ k l. le_test _ _ (f.frames hub port k h t l)))))
    (each_true 128 _ (λ hub h. each_true 16 _ (λ port t. each_true 8192 _ (λ u l. le_test _ _ (f.bytes hub port u h t l))))))

pub fits_fact : (placed : List Placed) → fits placed ≡ true → Fits placed
unfolding fits
fits_fact placed t =
    let loads : each_below 8192 (λ u. nat_le (load placed u) 100000000) ≡ true = both_left _ _ t in
    let below = both_right (each_below 8192 (λ u. nat_le (load placed u) 100000000)) _ t in
    let frames : each_below 128 (λ hub. each_below 16 (λ port. each_below 1024 (λ f. nat_le (frame_sum placed hub port f) 900000000))) ≡ true = both_left _ _ below in
    let bytes =
    both_right (each_below 128 (λ hub. each_below 16 (λ port. each_below 1024 (λ f. nat_le (frame_sum placed hub port f) 900000000)))) _ below in
    record {
      loads = λ u h. le_fact _ _ (each_at 8192 _ loads u h);
      frames = λ hub port f h t l. le_fact _ _ (each_at 1024 _ (each_at 16 _ (each_at 128 _ frames hub h) port t) f l);
      bytes = λ hub port u h t l. le_fact _ _ (each_at 8192 _ (each_at 16 _ (each_at 128 _ bytes hub h) port t) u l);
    }

pub load_joined : (placed : List Placed) (w : Want) (p : Placement) (u : ℕ) → load (joined placed w p) u ≡ load placed u + cost_at u (record { want = w; placement = p })
load_joined placed w p u = sum_by_push (cost_at u) placed (record { want = w; placement = p })

pub frame_joined : (placed : List Placed) (w : Want) (p : Placement) (hub port f : ℕ) → frame_sum (joined placed w p) hub port f ≡ frame_sum placed hub port f + cond (is_translator w hub port) (time_at f (record { want = w; placement = p })) 0
frame_joined placed w p hub port f =
    sum_by_push (λ x. if is_translator x.want hub port then time_at f x else 0) placed (record { want = w; placement = p })

pub bytes_joined : (placed : List Placed) (w : Want) (p : Placement) (hub port u : ℕ) → tt_sum (joined placed w p) hub port u ≡ tt_sum placed hub port u + cond (is_translator w hub port) (laid_at u (record { want = w; placement = p })) 0
bytes_joined placed w p hub port u =
    sum_by_push (λ x. if is_translator x.want hub port then laid_at u x else 0) placed (record { want = w; placement = p })

-- a term that may be left out keeps a bound that stands without it
added : (b : Bool) (x y m : ℕ) → x ≤ m → (b ≡ true → x + y ≤ m) → x + cond b y 0 ≤ m
added true x y m h k = k refl
added false x y m h k = omega arith

dropped : (b : Bool) (x y m : ℕ) → x + cond b y 0 ≤ m → b ≡ true → x + y ≤ m
dropped true x y m h k = h
dropped false x y m h k = cc

-- ---- the translator of an endpoint, by its hub and its number in the hub, and by its number

hub_number : (o : Option ℕ) (own hub port : ℕ) → own ≡ port → is_hub o hub ≡ true
    → option_map (λ h. 16 * h + own) o ≡ Some (16 * hub + port)
hub_number None own hub port same h = cc
hub_number (Some x) own hub port same h =
    let is : x ≡ hub = eqb-true x hub h in
    let all : 16 * x + own ≡ 16 * hub + port = omega (arith, is, same) in ap Some all

pub translator_is : (w : Want) (hub port : ℕ) → is_translator w hub port ≡ true → translator_of w ≡ Some (16 * hub + port)
translator_is w hub port e =
    hub_number w.hub w.tt hub port (eqb-true w.tt port (both_right (is_hub w.hub hub) (nat_eq w.tt port) e))
    (both_left (is_hub w.hub hub) (nat_eq w.tt port) e)

pub number_is : (w : Want) (n : ℕ) → is_at w n ≡ true → translator_of w ≡ Some n
number_is w n e =
    let back : 16 * (n / 16) + n % 16 ≡ n = omega arith in
    translator_is w (n / 16) (n % 16) e ∙ ap Some back

pub none_at : (w : Want) (n : ℕ) → translator_of w ≡ None → is_at w n ≡ true → ⊥
none_at w n e t = let is = number_is w n t in cc

pub number_at : (w : Want) (n x : ℕ) → translator_of w ≡ Some x → is_at w n ≡ true → nat_eq x n ≡ true
number_at w n x e t = let is = number_is w n t in let same : x ≡ n = cc in eq-eqb x n same

pub same_number : (w : Want) (m n : ℕ) → is_at w m ≡ true → is_at w n ≡ true → m ≡ n
same_number w m n a b = let first = number_is w m a in let second = number_is w n b in cc

own_number : (o : Option ℕ) (port n : ℕ) → port < 16 → option_map (λ h. 16 * h + port) o ≡ Some n
    → (is_hub o (n / 16) && nat_eq port (n % 16)) ≡ true
own_number None port n small h = cc
own_number (Some x) port n small h =
    let is : 16 * x + port ≡ n = cc in
    both (nat_eq x (n / 16)) (nat_eq port (n % 16)) (eq-eqb x (n / 16) (omega (arith, is, small)))
    (eq-eqb port (n % 16) (omega (arith, is, small)))

pub own_at : (w : Want) (n : ℕ) → w.tt < 16 → translator_of w ≡ Some n → is_at w n ≡ true
own_at w n small e = own_number w.hub w.tt n small e

pub loads_in : (s : Sheet) (w : Want) (p : Placement) → AreSums s (translator_of w) → Fits s.placed
    → LoadsFit s.loads (cost_in w p) p → (u : ℕ) → u < 8192 → load (joined s.placed w p) u ≤ 100000000
loads_in s w p sums f l u h =
    rw (load_joined s.placed w p u)
    (added (is_active p (u / 8)) _ _ _ (f.loads u h) (λ a. rw (← sums.loads u h) (l u h a)))

pub loads_out : (s : Sheet) (w : Want) (p : Placement) → AreSums s (translator_of w) → Fits (joined s.placed w p)
    → LoadsFit s.loads (cost_in w p) p
loads_out s w p sums f u h a =
    rw (sums.loads u h) (dropped (is_active p (u / 8)) _ _ _ (rw (load_joined s.placed w p u) at (f.loads u h)) a)

-- what the tables of the sheet hold, for the translator of the endpoint
frames_here : (s : Sheet) (w : Want) (hub port f : ℕ) → AreSums s (translator_of w) → is_translator w hub port ≡ true → hub < 128
    → port < 16 → f < 1024 → slice_index s.frames f ≡ frame_sum s.placed hub port f
frames_here s w hub port f sums own h t k =
    let high : (16 * hub + port) / 16 ≡ hub = omega (arith, t) in
    let low : (16 * hub + port) % 16 ≡ port = omega (arith, t) in
    sums.frames (16 * hub + port) f (translator_is w hub port own) (omega (arith, h, t)) k
    ∙ ap (λ n. frame_sum s.placed n ((16 * hub + port) % 16) f) high
    ∙ ap (λ n. frame_sum s.placed hub n f) low

bytes_here : (s : Sheet) (w : Want) (hub port u : ℕ) → AreSums s (translator_of w) → is_translator w hub port ≡ true → hub < 128
    → port < 16 → u < 8192 → slice_index s.bytes u ≡ tt_sum s.placed hub port u
bytes_here s w hub port u sums own h t k =
    let high : (16 * hub + port) / 16 ≡ hub = omega (arith, t) in
    let low : (16 * hub + port) % 16 ≡ port = omega (arith, t) in
    sums.bytes (16 * hub + port) u (translator_is w hub port own) (omega (arith, h, t)) k
    ∙ ap (λ n. tt_sum s.placed n ((16 * hub + port) % 16) u) high
    ∙ ap (λ n. tt_sum s.placed hub n u) low

pub frames_in : (s : Sheet) (w : Want) (p : Placement) → AreSums s (translator_of w) → Fits s.placed
    → FramesFit s.frames (time_of w) p → (hub port f : ℕ) → hub < 128 → port < 16 → f < 1024
    → frame_sum (joined s.placed w p) hub port f ≤ 900000000
frames_in s w p sums fit l hub port f h t k =
    rw (frame_joined s.placed w p hub port f)
    (added (is_translator w hub port) _ _ _ (fit.frames hub port f h t k)
    (λ own.
    added (is_active p f) _ _ _ (fit.frames hub port f h t k)
    (λ a. rw (← frames_here s w hub port f sums own h t k) (l f k a))))

pub frames_out : (s : Sheet) (w : Want) (p : Placement) (n : ℕ) → n < 2048 → w.tt < 16 → translator_of w ≡ Some n
    → AreSums s (translator_of w) → Fits (joined s.placed w p) → FramesFit s.frames (time_of w) p
frames_out s w p n h small e sums fit f k a =
    rw (sums.frames n f e h k)
    (dropped (is_active p f) _ _ _
    (dropped (is_at w n) _ _ _
    (rw (frame_joined s.placed w p (n / 16) (n % 16) f) at (fit.frames (n / 16) (n % 16) f (omega (arith, h)) (omega arith) k))
    (own_at w n small e))
    a)

pub bytes_in : (s : Sheet) (w : Want) (p : Placement) → AreSums s (translator_of w) → Fits s.placed
    → BytesFit s.bytes (laid_in w p) p → (hub port u : ℕ) → hub < 128 → port < 16 → u < 8192 → tt_sum (joined s.placed w p) hub port u ≤ 188
bytes_in s w p sums fit l hub port u h t k =
    rw (bytes_joined s.placed w p hub port u)
    (added (is_translator w hub port) _ _ _ (fit.bytes hub port u h t k)
    (λ own.
    added (is_active p (u / 8)) _ _ _ (fit.bytes hub port u h t k)
    (λ a. rw (← bytes_here s w hub port u sums own h t k) (l u k a))))

pub bytes_out : (s : Sheet) (w : Want) (p : Placement) (n : ℕ) → n < 2048 → w.tt < 16 → translator_of w ≡ Some n
    → AreSums s (translator_of w) → Fits (joined s.placed w p) → BytesFit s.bytes (laid_in w p) p
bytes_out s w p n h small e sums fit u k a =
    rw (sums.bytes n u e h k)
    (dropped (is_active p (u / 8)) _ _ _
    (dropped (is_at w n) _ _ _
    (rw (bytes_joined s.placed w p (n / 16) (n % 16) u) at (fit.bytes (n / 16) (n % 16) u (omega (arith, h)) (omega arith) k))
    (own_at w n small e))
    a)

pub off_of : (b : Bool) → (b ≡ true → ⊥) → b ≡ false
off_of true h = absurd (h refl)
off_of false h = refl

not_its : (w : Want) (hub port : ℕ) → translator_of w ≡ None → is_translator w hub port ≡ false
not_its w hub port e = off_of (is_translator w hub port) (λ t. let is = translator_is w hub port t in cc)

-- without a translator the sums of translators stay
pub alone_frames : (s : Sheet) (w : Want) (p : Placement) → translator_of w ≡ None → Fits s.placed → (hub port f : ℕ) → hub < 128
    → port < 16 → f < 1024 → frame_sum (joined s.placed w p) hub port f ≤ 900000000
alone_frames s w p e fit hub port f h t k =
    rw (frame_joined s.placed w p hub port f, not_its w hub port e) (omega (arith, fit.frames hub port f h t k))

pub alone_bytes : (s : Sheet) (w : Want) (p : Placement) → translator_of w ≡ None → Fits s.placed → (hub port u : ℕ) → hub < 128
    → port < 16 → u < 8192 → tt_sum (joined s.placed w p) hub port u ≤ 188
alone_bytes s w p e fit hub port u h t k =
    rw (bytes_joined s.placed w p hub port u, not_its w hub port e) (omega (arith, fit.bytes hub port u h t k))

-- the answer of the test, by what was found
pub keeps_not_loads : (s : Sheet) (w : Want) (p : Placement) → AreSums s (translator_of w) → (LoadsFit s.loads (cost_in w p) p → ⊥)
    → keeps s.placed w p ≡ false
keeps_not_loads s w p sums wrong = off_of _ (λ t. wrong (loads_out s w p sums (fits_fact _ t)))

pub keeps_not_frames : (s : Sheet) (w : Want) (p : Placement) (n : ℕ) → n < 2048 → w.tt < 16 → translator_of w ≡ Some n
    → AreSums s (translator_of w) → (FramesFit s.frames (time_of w) p → ⊥) → keeps s.placed w p ≡ false
keeps_not_frames s w p n h small e sums wrong = off_of _ (λ t. wrong (frames_out s w p n h small e sums (fits_fact _ t)))

pub keeps_not_bytes : (s : Sheet) (w : Want) (p : Placement) (n : ℕ) → n < 2048 → w.tt < 16 → translator_of w ≡ Some n
    → AreSums s (translator_of w) → (BytesFit s.bytes (laid_in w p) p → ⊥) → keeps s.placed w p ≡ false
keeps_not_bytes s w p n h small e sums wrong = off_of _ (λ t. wrong (bytes_out s w p n h small e sums (fits_fact _ t)))

pub keeps_alone : (s : Sheet) (w : Want) (p : Placement) → translator_of w ≡ None → AreSums s (translator_of w) → Fits s.placed
    → LoadsFit s.loads (cost_in w p) p → keeps s.placed w p ≡ true
keeps_alone s w p e sums fit l =
    fits_test _
    (record {
      loads = loads_in s w p sums fit l;
      frames = alone_frames s w p e fit;
      bytes = alone_bytes s w p e fit;
    })

pub keeps_all : (s : Sheet) (w : Want) (p : Placement) → AreSums s (translator_of w) → Fits s.placed
    → LoadsFit s.loads (cost_in w p) p → FramesFit s.frames (time_of w) p → BytesFit s.bytes (laid_in w p) p → keeps s.placed w p ≡ true
keeps_all s w p sums fit l f b =
    fits_test _
    (record {
      loads = loads_in s w p sums fit l;
      frames = frames_in s w p sums fit f;
      bytes = bytes_in s w p sums fit b;
    })

-- the greatest value is the least bound
pub below_greatest : (n : ℕ) (f : ℕ → ℕ) (i : ℕ) → i < n → f i ≤ greatest n f
unfolding greatest
below_greatest zero f i h = absurd (omega arith)
below_greatest (suc n) f i h =
    earlier_or_now (f i ≤ max (greatest n f) (f n)) i n (omega arith)
    (λ l. omega (arith, below_greatest n f i l))
    (λ (e : i ≡ n). rw e (omega arith))

pub greatest_below : (n : ℕ) (f : ℕ → ℕ) (b : ℕ) → ((i : ℕ) → i < n → f i ≤ b) → greatest n f ≤ b
unfolding greatest
greatest_below zero f b all = omega arith
greatest_below (suc n) f b all =
    omega (arith, greatest_below n f b (λ i h. all i (omega arith)), all n (omega arith))

-- the term of a peak in microframe u
abbrev pub own_sum : List Placed → Want → Placement → ℕ → ℕ
own_sum placed w p u = if is_own p u then load (joined placed w p) u else 0

pub taken : (b : Bool) (x : ℕ) → b ≡ true → cond b x 0 ≡ x
taken true x h = refl
taken false x h = cc

bounded : (b : Bool) (x m : ℕ) → (b ≡ true → x ≤ m) → cond b x 0 ≤ m
bounded true x m h = h refl
bounded false x m h = omega arith

own_cell : (s : Sheet) (w : Want) (p : Placement) → AreSums s (translator_of w) → (u : ℕ) → u < 8192 → is_own p u ≡ true
    → load (joined s.placed w p) u ≡ slice_index s.loads u + cost_in w p (u % 8)
own_cell s w p sums u h own =
    let active : is_active p (u / 8) ≡ true = both_left _ _ own in
    load_joined s.placed w p u
    ∙ omega (arith, sums.loads u h, taken (is_active p (u / 8)) (cost_in w p (u % 8)) active)

-- the placement has a transaction exactly where it costs
own_cost : (w : Want) (p : Placement) (u : ℕ) → IsWant w → is_own p u ≡ true → 1 ≤ cost_in w p (u % 8)
own_cost w p u want own = cost_some w p (u % 8) want (both_right (is_active p (u / 8)) _ own)

cost_own : (w : Want) (p : Placement) (u : ℕ) → is_active p (u / 8) ≡ true → 1 ≤ cost_in w p (u % 8) → is_own p u ≡ true
cost_own w p u active some = both _ _ active (own_of w p (u % 8) some)

pub cells_peak : (s : Sheet) (w : Want) (p : Placement) → AreSums s (translator_of w)
    → CellsWithin s.loads (cost_in w p) p (peak s.placed w p)
unfolding peak
cells_peak s w p sums u h active some =
    let own = cost_own w p u active some in
    omega (
      arith,
      own_cell s w p sums u h own,
      taken (is_own p u) (load (joined s.placed w p) u) own,
      below_greatest 8192 (own_sum s.placed w p) u h,
    )

pub peak_least : (s : Sheet) (w : Want) (p : Placement) (top : ℕ) → IsWant w → AreSums s (translator_of w)
    → CellsWithin s.loads (cost_in w p) p top → peak s.placed w p ≤ top
unfolding peak
peak_least s w p top want sums covers =
    greatest_below 8192 (own_sum s.placed w p) top
    (λ u h.
    bounded (is_own p u) _ _
    (λ own.
    let active : is_active p (u / 8) ≡ true = both_left _ _ own in
    omega (arith, own_cell s w p sums u h own, covers u h active (own_cost w p u want own))))

pub peak_is : (s : Sheet) (w : Want) (p : Placement) (top : ℕ) → IsWant w → AreSums s (translator_of w)
    → CellsWithin s.loads (cost_in w p) p top → ((b : ℕ) → CellsWithin s.loads (cost_in w p) p b → top ≤ b) → top ≡ peak s.placed w p
peak_is s w p top want sums covers least =
    omega (arith, least (peak s.placed w p) (cells_peak s w p sums), peak_least s w p top want sums covers)

or_nothing : (x c b : ℕ) → x ≤ b → (1 ≤ c → x + c ≤ b) → x + c ≤ b
or_nothing x zero b h k = omega arith
or_nothing x (suc c) b h k = k (omega arith)

pub loads_kept : (s : Sheet) (w : Want) (p : Placement) (top : ℕ) → AreSums s (translator_of w) → Fits s.placed → top ≤ 100000000
    → CellsWithin s.loads (cost_in w p) p top → LoadsFit s.loads (cost_in w p) p
loads_kept s w p top sums fit within covers u h active =
    or_nothing (slice_index s.loads u) (cost_in w p (u % 8)) 100000000
    (omega (arith, sums.loads u h, fit.loads u h))
    (λ some. omega (arith, covers u h active some))

pub kept_within : (placed : List Placed) (w : Want) (p : Placement) → keeps placed w p ≡ true → peak placed w p ≤ 100000000
unfolding peak
kept_within placed w p kept =
    let fit = fits_fact (joined placed w p) kept in
    greatest_below 8192 (own_sum placed w p) 100000000 (λ u h. bounded (is_own p u) _ _ (λ own. fit.loads u h))

le_by : (t : Bool) (a b : ℕ) → nat_le a b ≡ t → (a ≤ b) ⊎ (b < a)
le_by true a b e = inl (le_fact a b e)
le_by false a b e = inr (grind (arith, nat_tests))

le_or_lt : (a b : ℕ) → (a ≤ b) ⊎ (b < a)
le_or_lt a b = le_by (nat_le a b) a b refl

not_within : (a b : ℕ) → (a ≤ b → ⊥) → b < a
not_within a b h = elim (le_or_lt a b) [ inl l ↦ absurd (h l) | inr l ↦ l ]

pub passes : (s : Sheet) (w : Want) (p : Placement) (n : ℕ) → AreSums s (translator_of w)
    → (CellsWithin s.loads (cost_in w p) p n → ⊥) → n < peak s.placed w p
passes s w p n sums wrong =
    not_within (peak s.placed w p) n
    (λ l. wrong (λ u h active some. omega (arith, cells_peak s w p sums u h active some, l)))

-- the same in the amounts of a shape
pub cells_in : (loads : List ℕ) (w : Want) (x : Shape) (p : Placement) (n : ℕ) → IsShape w x → IsOf x p → CellsWithin loads (slice_index x.costs.each) p n → CellsWithin loads (cost_in w p) p n
cells_in loads w x p n shape of all u h active some =
    let small : u % 8 < 8 = omega arith in
    let e : slice_index x.costs.each (u % 8) ≡ cost_in w p (u % 8) = shape_costs w x p shape of (u % 8) small in
    let some_amount : 1 ≤ slice_index x.costs.each (u % 8) = omega (arith, e, some) in
    omega (arith, all u h active some_amount, e)

pub cells_out : (loads : List ℕ) (w : Want) (x : Shape) (p : Placement) (n : ℕ) → IsShape w x → IsOf x p → CellsWithin loads (cost_in w p) p n → CellsWithin loads (slice_index x.costs.each) p n
cells_out loads w x p n shape of all u h active some =
    let small : u % 8 < 8 = omega arith in
    let e : slice_index x.costs.each (u % 8) ≡ cost_in w p (u % 8) = shape_costs w x p shape of (u % 8) small in
    let some_cost : 1 ≤ cost_in w p (u % 8) = omega (arith, e, some) in
    omega (arith, all u h active some_cost, e)

-- two tests of one fact agree
pub same_test : (a b : Bool) (P : Type 0) → (a ≡ true → P) → (P → a ≡ true) → (P → b ≡ true) → ((P → ⊥) → b ≡ false) → a ≡ b
same_test true b P gives back right wrong = sym (right (gives refl))
same_test false b P gives back right wrong = sym (wrong (λ p. cc (back p)))

filter_le : {X : Type 0} (p : X → Bool) (f : X → ℕ) (xs : List X) → sum_by f (filter p xs) ≤ sum_by f xs
filter_le p f xs =
    omega (arith, sum_by-filter_both p (λ x. not (p x)) (λ x. refl) f xs)

pub fits_fewer : (p : Placed → Bool) (placed : List Placed) → Fits placed → Fits (filter p placed)
fits_fewer p placed fit = record {
  loads = λ u h. omega (arith, filter_le p (cost_at u) placed, fit.loads u h);
  frames = λ hub port f h t k.
      omega (
        arith,
        filter_le p (λ x. if is_translator x.want hub port then time_at f x else 0) placed,
        fit.frames hub port f h t k,
      );
  bytes = λ hub port u h t k.
      omega (
        arith,
        filter_le p (λ x. if is_translator x.want hub port then laid_at u x else 0) placed,
        fit.bytes hub port u h t k,
      );
}

pub fits_none : Fits []
fits_none = record {
  loads = λ u h. lit≤ tt;
  frames = λ hub t f h s k. lit≤ tt;
  bytes = λ hub t u h s k. lit≤ tt;
}
