-- Where the microframes of a placement lie: those of its masks, those in which byte-times are laid, and how many they span.
use Rattle.std.proofs.Common.{◌≡◌, ℕ, ◌+◌, ◌-◌, ◌*◌, ◌/◌, ◌%◌, ◌<◌, ◌≤◌, Bool, true, false, cond, refl, ap, sym, ◌∙◌, arith, inl, inr, ◌⊎◌, nat_eq, nat_le, nat_lt, List, length, get_or, set, ◌≢◌, get_or-set_other, get_or-set_same}
use Rattle.std.specs.Prelude.{zero, suc, ◌||◌, ◌&&◌, min, if◌then◌else◌, slice_index}
use Rattle.std.proofs.lemmas.Bool.Decides.{nat_tests}
use Rattle.std.proofs.Math.Nat.{mod-eq_of_lt, one-le-mul}
use Rattle.usb_base.specs.declared.packets.Speed.{Speed}
use Rattle.usb_base.specs.declared.packets.Speed.TheVariants.{Full, Low, High}
use Rattle.usb_base.specs.declared.packets.EpKind.{EpKind}
use Rattle.usb_base.specs.declared.packets.EpKind.TheVariants.{Control, Iso, Bulk, Interrupt}
use Rattle.usb_base.specs.declared.packets.Dir.{Dir}
use Rattle.usb_base.specs.declared.packets.Dir.TheVariants.{In, Out}
use Rattle.usb_base.specs.Cost.{bus_time, byte_times}
use Rattle.bandwidth.specs.declared.placements.Want.{Want}
use Rattle.bandwidth.specs.declared.placements.Placement.{Placement}
use Rattle.bandwidth.specs.Placements.{mask, has, first_in, run, every, is_period, most_bytes, IsWant, PlacementRow, high_row, interrupt_row, iso_in_row, iso_out_row, classic_row, is_classic, placement_row, placement_at, frame_period}
use Rattle.bandwidth.specs.Sums.{cost_in, laid_in, price, time_of}
use Rattle.bandwidth.specs.declared.shapes.Amounts.{Amounts}
use Rattle.bandwidth.specs.declared.shapes.Shape.{Shape}
use Rattle.bandwidth.specs.Shapes.{classic_cells, cost_cells, laid_cells, cells, IsAmounts, IsShape, IsOf}
use Rattle.bandwidth.proofs.Microframes.{first_is}
use Rattle.bandwidth.proofs.Turns.{periods_each, earlier_or_now}

-- ---- the microframes of a mask

digit : Bool → ℕ
digit b = cond b 1 0

term : (b : Bool) (p : ℕ) → cond b p 0 ≡ p * digit b
unfolding digit
term true p = omega arith
term false p = omega arith

digit_bound : (b : Bool) → digit b ≤ 1
unfolding digit
digit_bound true = omega arith
digit_bound false = omega arith

digit_test : (b : Bool) (x : ℕ) → x ≡ digit b → nat_eq x 1 ≡ b
unfolding digit
digit_test true x e = rw e refl
digit_test false x e = rw e refl

record Digits (t : ℕ → Bool) (x : ℕ) : Type 0 where
  sum : x ≡ digit (t 0) + (2 * digit (t 1) + (4 * digit (t 2) + (8 * digit (t 3) + (16 * digit (t 4) + (32 * digit (t 5) + (64 * digit (t 6) + 128 * digit (t 7)))))))
  b0 : digit (t 0) ≤ 1
  b1 : digit (t 1) ≤ 1
  b2 : digit (t 2) ≤ 1
  b3 : digit (t 3) ≤ 1
  b4 : digit (t 4) ≤ 1
  b5 : digit (t 5) ≤ 1
  b6 : digit (t 6) ≤ 1
  b7 : digit (t 7) ≤ 1

digits : (t : ℕ → Bool) → Digits t (mask t)
unfolding mask
digits t = record {
  sum =
      omega (
        arith,
        term (t 0) 1,
        term (t 1) 2,
        term (t 2) 4,
        term (t 3) 8,
        term (t 4) 16,
        term (t 5) 32,
        term (t 6) 64,
        term (t 7) 128,
      );
  b0 = digit_bound (t 0);
  b1 = digit_bound (t 1);
  b2 = digit_bound (t 2);
  b3 = digit_bound (t 3);
  b4 = digit_bound (t 4);
  b5 = digit_bound (t 5);
  b6 = digit_bound (t 6);
  b7 = digit_bound (t 7);
}

pub has_mask : (t : ℕ → Bool) (m : ℕ) → m < 8 → has (mask t) m ≡ t m
has_mask t zero h = let d = digits t in digit_test (t 0) (mask t / 1 % 2) (omega (arith, d.sum, d.b0))
has_mask t (suc zero) h = let d = digits t in digit_test (t 1) (mask t / 2 % 2) (omega (arith, d.sum, d.b0, d.b1))
has_mask t (suc (suc zero)) h =
    let d = digits t in digit_test (t 2) (mask t / 4 % 2) (omega (arith, d.sum, d.b0, d.b1, d.b2))
has_mask t (suc (suc (suc zero))) h =
    let d = digits t in digit_test (t 3) (mask t / 8 % 2) (omega (arith, d.sum, d.b0, d.b1, d.b2, d.b3))
has_mask t (suc (suc (suc (suc zero)))) h =
    let d = digits t in digit_test (t 4) (mask t / 16 % 2) (omega (arith, d.sum, d.b0, d.b1, d.b2, d.b3, d.b4))
has_mask t (suc (suc (suc (suc (suc zero))))) h =
    let d = digits t in
    digit_test (t 5) (mask t / 32 % 2) (omega (arith, d.sum, d.b0, d.b1, d.b2, d.b3, d.b4, d.b5))
has_mask t (suc (suc (suc (suc (suc (suc zero)))))) h =
    let d = digits t in
    digit_test (t 6) (mask t / 64 % 2) (omega (arith, d.sum, d.b0, d.b1, d.b2, d.b3, d.b4, d.b5, d.b6))
has_mask t (suc (suc (suc (suc (suc (suc (suc zero))))))) h =
    let d = digits t in
    digit_test (t 7) (mask t / 128 % 2) (omega (arith, d.sum, d.b0, d.b1, d.b2, d.b3, d.b4, d.b5, d.b6, d.b7))
has_mask t (suc (suc (suc (suc (suc (suc (suc (suc m)))))))) h = absurd (omega arith)

has_run : (s n m : ℕ) → m < 8 → has (run s n) m ≡ (nat_le s m && nat_lt m (s + n))
has_run s n m h = has_mask (λ k. nat_le s k && nat_lt k (s + n)) m h

has_every : (period s m : ℕ) → m < 8 → has (every period s) m ≡ nat_eq (m % period) s
has_every period s m h = has_mask (λ k. nat_eq (k % period) s) m h

in_run : (s n m : ℕ) → s ≤ m → m < s + n → (nat_le s m && nat_lt m (s + n)) ≡ true
in_run s n m a b = grind (arith, nat_tests)

off_run : (s n m : ℕ) → (m < s) ⊎ (s + n ≤ m) → (nat_le s m && nat_lt m (s + n)) ≡ false
off_run s n m (inl a) = grind (arith, nat_tests)
off_run s n m (inr a) = grind (arith, nat_tests)

first_run : (s n : ℕ) → s < 8 → 1 ≤ n → first_in (run s n) ≡ s
first_run s n h k =
    sym (first_is (run s n) s h
    (λ m l. let small : m < 8 = omega arith in has_run s n m small ∙ off_run s n m (inl l))
    (has_run s n s h ∙ in_run s n s (omega arith) (omega arith)))

first_every : (period s : ℕ) → s < period → s < 8 → first_in (every period s) ≡ s
first_every period s p h =
    sym (first_is (every period s) s h
    (λ m l.
    let small : m < 8 = omega arith in
    let under : m < period = omega arith in
    has_every period s m small ∙ (let e = mod-eq_of_lt under in rw e (grind (arith, nat_tests))))
    (has_every period s s h ∙ (let e = mod-eq_of_lt p in rw e (grind (arith, nat_tests)))))

has_none : (m : ℕ) → m < 8 → has 0 m ≡ false
has_none (suc (suc (suc (suc (suc (suc (suc (suc m)))))))) h = absurd (omega arith)
has_none _ h = refl

-- ---- the rows of the table of placements

-- what the placement of a row from microframe s on has lies in the n microframes from s on
pub record IsSpan (row : PlacementRow) (n s : ℕ) : Type 0 where
  pub end : s + n ≤ 8
  pub first : first_in (row.smask s) ≡ s
  pub none : (m : ℕ) → m < 8 → (m < s) ⊎ (s + n ≤ m) → (has (row.smask s) m || has (row.cmask s) m) ≡ false

neither_of : (a b : Bool) → a ≡ false → b ≡ false → (a || b) ≡ false
neither_of a b h k = rw h k

wider : (s n t m : ℕ) → n ≤ t → (m < s) ⊎ (s + t ≤ m) → (m < s) ⊎ (s + n ≤ m)
wider s n t m h (inl a) = inl a
wider s n t m h (inr a) = inr (omega arith)

later : (s t n e m : ℕ) → s ≤ t → t + n ≤ s + e → (m < s) ⊎ (s + e ≤ m) → (m < t) ⊎ (t + n ≤ m)
later s t n e m h k (inl a) = inl (omega arith)
later s t n e m h k (inr a) = inr (omega arith)

one_run : (s n m : ℕ) → m < 8 → (m < s) ⊎ (s + n ≤ m) → (has (run s n) m || has 0 m) ≡ false
one_run s n m h out = neither_of _ _ (has_run s n m h ∙ off_run s n m out) (has_none m h)

two_runs : (s a t b e m : ℕ) → m < 8 → a ≤ e → s ≤ t → t + b ≤ s + e → (m < s) ⊎ (s + e ≤ m) → (has (run s a) m || has (run t b) m) ≡ false
two_runs s a t b e m h ae st be out =
    neither_of _ _
    (has_run s a m h ∙ off_run s a m (wider s a e m ae out))
    (has_run t b m h ∙ off_run t b m (later s t b e m st be out))

-- in a short period the last is 8 less the period later
Short : ℕ → Type 0
Short period = (s m : ℕ) → period < 8 → s < period → m < 8 → (m < s) ⊎ (s + (9 - period) ≤ m) → nat_eq (m % period) s ≡ false

short_before : (period s m : ℕ) → s < period → m < s → nat_eq (m % period) s ≡ false
short_before period s m h l = let under : m < period = omega arith in let e = mod-eq_of_lt under in rw e (grind (arith, nat_tests))

short_1 : Short 1
unfolding Short
short_1 s m p h k (inl l) = short_before 1 s m h l
short_1 s m p h k (inr l) = absurd (omega arith)

short_2 : Short 2
unfolding Short
short_2 s m p h k (inl l) = short_before 2 s m h l
short_2 s m p h k (inr l) = grind (arith, nat_tests)

short_4 : Short 4
unfolding Short
short_4 s m p h k (inl l) = short_before 4 s m h l
short_4 s m p h k (inr l) = grind (arith, nat_tests)

long : (period : ℕ) → 8 ≤ period → Short period
unfolding Short
long period h s m p = absurd (omega arith)

all_short : (period : ℕ) → is_period period ≡ true → Short period
all_short period h = periods_each Short short_1 short_2 short_4 long period h

short_span : (period s : ℕ) → is_period period ≡ true → period < 8 → s < period → IsSpan (record { starts = period; smask = λ k. every period k; cmask = λ k. 0 }) (9 - period) s
unfolding Short
short_span period s is h k = record {
  end = omega arith;
  first = first_every period s k (omega arith);
  none = λ m small out.
      neither_of _ _ (has_every period s m small ∙ all_short period is s m h k small out) (has_none m small);
}

one_span : (s : ℕ) → s < 8 → IsSpan (record { starts = 8; smask = λ k. run k 1; cmask = λ k. 0 }) 1 s
one_span s h = record {
  end = omega arith;
  first = first_run s 1 h (omega arith);
  none = λ m small out. one_run s 1 m small out;
}

interrupt_span : (s : ℕ) → s < 4 → IsSpan interrupt_row 5 s
interrupt_span s h = record {
  end = omega arith;
  first = first_run s 1 (omega arith) (omega arith);
  none = λ m small out. two_runs s 1 (s + 2) 3 5 m small (omega arith) (omega arith) (omega arith) out;
}

iso_in_span : (k s : ℕ) → s < 6 - k → IsSpan (iso_in_row k) (k + 3) s
iso_in_span k s h = record {
  end = omega arith;
  first = first_run s 1 (omega arith) (omega arith);
  none = λ m small out.
      two_runs s 1 (s + 2) (k + 1) (k + 3) m small (omega arith) (omega arith) (omega arith) out;
}

iso_out_span : (k s : ℕ) → 1 ≤ k → s < 7 - k → IsSpan (iso_out_row k) k s
iso_out_span k s some h = record {
  end = omega arith;
  first = first_run s k (omega arith) some;
  none = λ m small out. one_run s k m small out;
}

classic_span : (kind : EpKind) (dir : Dir) (bytes s : ℕ) → 1 ≤ bytes → s < (classic_row kind dir bytes).starts → IsSpan (classic_row kind dir bytes) (classic_cells kind dir bytes) s
classic_span Iso In bytes s some h = iso_in_span ((bytes + 9 + 187) / 188) s h
classic_span Iso Out bytes s some h = iso_out_span ((bytes + 187) / 188) s (omega arith) h
classic_span Control In bytes s some h = interrupt_span s h
classic_span Control Out bytes s some h = interrupt_span s h
classic_span Bulk In bytes s some h = interrupt_span s h
classic_span Bulk Out bytes s some h = interrupt_span s h
classic_span Interrupt In bytes s some h = interrupt_span s h
classic_span Interrupt Out bytes s some h = interrupt_span s h

abbrev row_by : Bool → ℕ → PlacementRow
row_by b period =
    if b
    then record { starts = period; smask = λ s. every period s; cmask = λ s. 0 }
    else record { starts = 8; smask = λ s. run s 1; cmask = λ s. 0 }

high_by : (b : Bool) (period s : ℕ) → is_period period ≡ true → nat_lt period 8 ≡ b → s < (row_by b period).starts → IsSpan (row_by b period) (if b then 9 - period else 1) s
high_by true period s is e h = short_span period s is (grind (arith, nat_tests)) h
high_by false period s is e h = one_span s h

high_span : (period s : ℕ) → is_period period ≡ true → s < (high_row period).starts → IsSpan (high_row period) (if nat_lt period 8 then 9 - period else 1) s
high_span period s is h = high_by (nat_lt period 8) period s is refl h

row_span : (speed : Speed) (kind : EpKind) (dir : Dir) (bytes period s : ℕ) → is_period period ≡ true → 1 ≤ bytes → s < (if is_classic speed then classic_row kind dir bytes else high_row period).starts → IsSpan (if is_classic speed then classic_row kind dir bytes else high_row period) (if is_classic speed then classic_cells kind dir bytes else (if nat_lt period 8 then 9 - period else 1)) s
row_span High kind dir bytes period s is some h = high_span period s is h
row_span _ kind dir bytes period s is some h = classic_span kind dir bytes s some h

high_starts : (b : Bool) (period : ℕ) → nat_lt period 8 ≡ b → (row_by b period).starts ≤ 8
high_starts true period e = let l : period < 8 = grind (arith, nat_tests) in omega (arith, l)
high_starts false period e = omega arith

classic_starts : (kind : EpKind) (dir : Dir) (bytes : ℕ) → (classic_row kind dir bytes).starts ≤ 8
classic_starts Iso In bytes = omega arith
classic_starts Iso Out bytes = omega arith
classic_starts Control In bytes = omega arith
classic_starts Control Out bytes = omega arith
classic_starts Bulk In bytes = omega arith
classic_starts Bulk Out bytes = omega arith
classic_starts Interrupt In bytes = omega arith
classic_starts Interrupt Out bytes = omega arith

starts_by : (speed : Speed) (kind : EpKind) (dir : Dir) (bytes period : ℕ) → (if is_classic speed then classic_row kind dir bytes else high_row period).starts ≤ 8
starts_by High kind dir bytes period = high_starts (nat_lt period 8) period refl
starts_by _ kind dir bytes period = classic_starts kind dir bytes

pub few_starts : (w : Want) → (placement_row w).starts ≤ 8
few_starts w = starts_by w.speed w.kind w.dir w.max w.period

pub span_of : (w : Want) → IsWant w → (s : ℕ) → s < (placement_row w).starts → IsSpan (placement_row w) (cost_cells w) s
span_of w want s h = row_span w.speed w.kind w.dir w.max w.period s want.period want.some_bytes h

-- ---- costs and byte-times

cost_by : (a b : Bool) (x y : ℕ) → (a || b) ≡ false → (if a then x else (if b then y else 0)) ≡ 0
cost_by true b x y h = cc
cost_by false true x y h = cc
cost_by false false x y h = refl

pub cost_none : (w : Want) (p : Placement) (m : ℕ) → (has p.smask m || has p.cmask m) ≡ false → cost_in w p m ≡ 0
cost_none w p m h = cost_by (has p.smask m) (has p.cmask m) _ _ h

high_time : (kind : EpKind) (dir : Dir) (n : ℕ) → 1 ≤ bus_time High kind dir n
high_time Iso dir n = omega arith
high_time _ dir n = omega arith

price_some : (w : Want) (n : ℕ) → 1 ≤ w.multi → 1 ≤ price w n
price_some w n h = one-le-mul h (high_time w.kind w.dir n)

cost_least : (a b : Bool) (x y : ℕ) → 1 ≤ x → 1 ≤ y → (a || b) ≡ true → 1 ≤ (if a then x else (if b then y else 0))
cost_least true b x y h k e = h
cost_least false true x y h k e = k
cost_least false false x y h k e = cc

pub cost_some : (w : Want) (p : Placement) (m : ℕ) → IsWant w → (has p.smask m || has p.cmask m) ≡ true → 1 ≤ cost_in w p m
cost_some w p m want own =
    cost_least (has p.smask m) (has p.cmask m) _ _ (price_some w _ want.some_multi) (price_some w _ want.some_multi) own

laid_by : (first m all : ℕ) → (m < first) ⊎ (first + (all + 187) / 188 ≤ m) → (if nat_le first m then min 188 (all - 188 * (m - first)) else 0) ≡ 0
laid_by first m all (inl h) = grind (arith, nat_tests)
laid_by first m all (inr h) =
    let none : all - 188 * (m - first) ≡ 0 = omega arith in rw none (grind (arith, nat_tests))

pub laid_none : (w : Want) (p : Placement) (s m : ℕ) → first_in p.smask ≡ s → (m < s) ⊎ (s + laid_cells w ≤ m) → laid_in w p m ≡ 0
laid_none w p s m e out = rw e (laid_by s m (byte_times w.speed w.kind w.max) out)

laid_end_by : (speed : Speed) (kind : EpKind) (dir : Dir) (bytes period s : ℕ) → bytes ≤ most_bytes speed kind → 1 ≤ bytes → s < (if is_classic speed then classic_row kind dir bytes else high_row period).starts → s + (if is_classic speed then classic_cells kind dir bytes else (if nat_lt period 8 then 9 - period else 1)) ≤ 8 → s + (byte_times speed kind bytes + 187) / 188 ≤ 8
laid_end_by High kind dir bytes period s most some h e = omega arith
laid_end_by Full Iso In bytes period s most some h e = omega arith
laid_end_by Full Iso Out bytes period s most some h e = omega arith
laid_end_by Full Interrupt dir bytes period s most some h e = omega arith
laid_end_by Full Control dir bytes period s most some h e = absurd (omega arith)
laid_end_by Full Bulk dir bytes period s most some h e = absurd (omega arith)
laid_end_by Low Interrupt dir bytes period s most some h e = omega arith
laid_end_by Low Iso dir bytes period s most some h e = absurd (omega arith)
laid_end_by Low Control dir bytes period s most some h e = absurd (omega arith)
laid_end_by Low Bulk dir bytes period s most some h e = absurd (omega arith)

pub laid_end : (w : Want) → IsWant w → (s : ℕ) → s < (placement_row w).starts → s + laid_cells w ≤ 8
laid_end w want s h = laid_end_by w.speed w.kind w.dir w.max w.period s want.bytes want.some_bytes h (span_of w want s h).end

-- ---- the cells of all first microframes, and those of the one that is taken

Few : ℕ → Type 0
Few period = period < 8 → (period + 1) * (9 - period + 0 + 1) ≤ 40

few : (period : ℕ) → is_period period ≡ true → Few period
unfolding Few
few period h =
    periods_each Few (λ l. omega arith) (λ l. omega arith) (λ l. omega arith) (λ p above l. absurd (omega arith)) period h

high_few_by : (b : Bool) (period : ℕ) → is_period period ≡ true → nat_lt period 8 ≡ b → ((row_by b period).starts + 1) * ((if b then 9 - period else 1) + 0 + 1) ≤ 40
unfolding Few
high_few_by true period is e = few period is (grind (arith, nat_tests))
high_few_by false period is e = omega arith

in_few : (k : ℕ) → k ≤ 6 → (6 - k + 1) * (k + 3 + k + 1) ≤ 40
in_few (suc (suc (suc (suc (suc (suc (suc k))))))) h = absurd (omega arith)
in_few _ h = omega arith

out_few : (k j : ℕ) → k ≤ 6 → j ≤ k + 1 → (7 - k + 1) * (k + j + 1) ≤ 40
out_few (suc (suc (suc (suc (suc (suc (suc k))))))) j h l = absurd (omega arith)
out_few _ j h l = omega arith

few_by : (speed : Speed) (kind : EpKind) (dir : Dir) (bytes period : ℕ) → is_period period ≡ true → bytes ≤ most_bytes speed kind → 1 ≤ bytes → ((if is_classic speed then classic_row kind dir bytes else high_row period).starts + 1) * ((if is_classic speed then classic_cells kind dir bytes else (if nat_lt period 8 then 9 - period else 1)) + (byte_times speed kind bytes + 187) / 188 + 1) ≤ 40
few_by High kind dir bytes period is most some = high_few_by (nat_lt period 8) period is refl
few_by Full Iso In bytes period is most some = in_few ((bytes + 9 + 187) / 188) (omega arith)
few_by Full Iso Out bytes period is most some =
    out_few ((bytes + 187) / 188) ((bytes + 9 + 187) / 188) (omega arith) (omega arith)
few_by Full Interrupt dir bytes period is most some =
    let one : (bytes + 13 + 187) / 188 ≤ 1 = omega arith in omega arith
few_by Full Control dir bytes period is most some = absurd (omega arith)
few_by Full Bulk dir bytes period is most some = absurd (omega arith)
few_by Low Interrupt dir bytes period is most some =
    let one : (8 * (bytes + 13) + 187) / 188 ≤ 1 = omega arith in omega arith
few_by Low Iso dir bytes period is most some = absurd (omega arith)
few_by Low Control dir bytes period is most some = absurd (omega arith)
few_by Low Bulk dir bytes period is most some = absurd (omega arith)

pub few_cells : (w : Want) → IsWant w → ((placement_row w).starts + 1) * cells w ≤ 40
few_cells w want = few_by w.speed w.kind w.dir w.max w.period want.period want.bytes want.some_bytes

-- ---- what the placements of one first microframe do

pub costs_none : (w : Want) (s : ℕ) (p : Placement) → IsWant w → s < (placement_row w).starts → p ≡ placement_at w 0 s → (m : ℕ) → m < 8 → (m < s) ⊎ (s + cost_cells w ≤ m) → cost_in w p m ≡ 0
costs_none w s p want h e m small out =
    rw e (cost_none w (placement_at w 0 s) m ((span_of w want s h).none m small out))

pub bytes_none : (w : Want) (s : ℕ) (p : Placement) → IsWant w → s < (placement_row w).starts → p ≡ placement_at w 0 s → (m : ℕ) → (m < s) ⊎ (s + laid_cells w ≤ m) → laid_in w p m ≡ 0
bytes_none w s p want h e m out = rw e (laid_none w (placement_at w 0 s) s m (span_of w want s h).first out)

pub amounts_are : (f : ℕ → ℕ) (a : Amounts) (s n bound : ℕ) → a.from ≡ s → a.to ≡ s + n → s + n ≤ 8 → bound ≤ 1000000000000 → ((m : ℕ) → m < 8 → slice_index a.each m ≡ f m) → ((m : ℕ) → m < 8 → slice_index a.each m ≤ bound) → ((m : ℕ) → m < 8 → (m < s) ⊎ (s + n ≤ m) → f m ≡ 0) → IsAmounts a
amounts_are f a s n bound from to end small is bounds none = record {
  order = omega (arith, from, to);
  end = omega (arith, to, end);
  small = λ m h. omega (arith, bounds m h, small);
  before = λ m l.
      let h : m < 8 = omega (arith, from, end) in
      let out : m < s = omega (arith, from) in is m h ∙ none m h (inl out);
  after = λ m l h. let out : s + n ≤ m = omega (arith, to) in is m h ∙ none m h (inr out);
}

pub record Made (w : Want) (s : ℕ) (p : Placement) (x : Shape) : Type 0 where
  pub at : p ≡ placement_at w 0 s
  pub smask : x.smask ≡ p.smask
  pub cmask : x.cmask ≡ p.cmask
  pub cost_from : x.costs.from ≡ s
  pub cost_to : x.costs.to ≡ s + cost_cells w
  pub costs : (m : ℕ) → m < 8 → slice_index x.costs.each m ≡ cost_in w p m
  pub cost_bound : (m : ℕ) → m < 8 → slice_index x.costs.each m ≤ 63000000
  pub byte_from : x.bytes.from ≡ s
  pub byte_to : x.bytes.to ≡ s + laid_cells w
  pub bytes : (m : ℕ) → m < 8 → slice_index x.bytes.each m ≡ laid_in w p m
  pub byte_bound : (m : ℕ) → m < 8 → slice_index x.bytes.each m ≤ 188
  pub time : x.time ≡ time_of w
  pub time_bound : x.time ≤ 7000000000

pub shape_is : (w : Want) (s : ℕ) (p : Placement) (x : Shape) → IsWant w → s < (placement_row w).starts → Made w s p x → IsShape w x
shape_is w s p x want h made = record {
  first = rw made.cost_from h;
  smask = rw made.cost_from (made.smask ∙ ap (λ (q : Placement). q.smask) made.at);
  cmask = rw made.cost_from (made.cmask ∙ ap (λ (q : Placement). q.cmask) made.at);
  costs = λ m k. rw made.cost_from (made.costs m k ∙ ap (λ (q : Placement). cost_in w q m) made.at);
  cost_amounts =
      amounts_are (cost_in w p) x.costs s (cost_cells w) 63000000 made.cost_from made.cost_to (span_of w want s h).end
      (omega arith) made.costs made.cost_bound (costs_none w s p want h made.at);
  cost_span = omega (arith, made.cost_from, made.cost_to);
  bytes = λ m k. rw made.cost_from (made.bytes m k ∙ ap (λ (q : Placement). laid_in w q m) made.at);
  byte_amounts =
      amounts_are (laid_in w p) x.bytes s (laid_cells w) 188 made.byte_from made.byte_to (laid_end w want s h)
      (omega arith) made.bytes made.byte_bound (λ m k out. bytes_none w s p want h made.at m out);
  laid_span = omega (arith, made.byte_from, made.byte_to);
  time = made.time;
  small = omega (arith, made.time_bound);
}

pub shape_costs : (w : Want) (x : Shape) (p : Placement) → IsShape w x → IsOf x p → (m : ℕ) → m < 8 → slice_index x.costs.each m ≡ cost_in w p m
shape_costs w x p shape of m h = rw (of.smask, of.cmask, shape.smask, shape.cmask) (shape.costs m h)

pub shape_bytes : (w : Want) (x : Shape) (p : Placement) → IsShape w x → IsOf x p → (m : ℕ) → m < 8 → slice_index x.bytes.each m ≡ laid_in w p m
shape_bytes w x p shape of m h = rw (of.smask, shape.smask) (shape.bytes m h)

laid_most : (b : Bool) (x : ℕ) → (if b then min 188 x else 0) ≤ 188
laid_most true x = omega arith
laid_most false x = omega arith

pub laid_bound : (w : Want) (p : Placement) (m : ℕ) → laid_in w p m ≤ 188
laid_bound w p m = laid_most (nat_le (first_in p.smask) m) _

own_by : (b : Bool) → (b ≡ false → ⊥) → b ≡ true
own_by true h = refl
own_by false h = absurd (h refl)

pub own_of : (w : Want) (p : Placement) (m : ℕ) → 1 ≤ cost_in w p m → (has p.smask m || has p.cmask m) ≡ true
own_of w p m h = own_by (has p.smask m || has p.cmask m) (λ off. let z : cost_in w p m ≡ 0 = cost_none w p m off in omega arith)

-- the placement of a shape in a phase
pub placed_is : (w : Want) (x : Shape) (phase : ℕ) → IsShape w x → record { period = w.period; phase = phase; smask = x.smask; cmask = x.cmask } ≡ placement_at w phase x.costs.from
placed_is w x phase shape = rw (shape.smask, shape.cmask) refl

pub placed_of : (w : Want) (x : Shape) (phase : ℕ) → IsWant w → phase < frame_period w.period → IsOf x (record { period = w.period; phase = phase; smask = x.smask; cmask = x.cmask })
placed_of w x phase want h = record { place = record { period = want.period; phase = h }; smask = refl; cmask = refl }

-- one after another, each at its place
pub written_any : {X : Type 0} (P : ℕ → X → Type 0) (xs : List X) (i : ℕ) (v : X) → i < length xs → ((k : ℕ) (d : X) → k < i → P k (get_or xs k d)) → P i v → (k : ℕ) (d : X) → k < i + 1 → P k (get_or (set xs i v) k d)
written_any P xs i v h before here k d t =
    earlier_or_now (P k (get_or (set xs i v) k d)) k i t
    (λ l. let ne : k ≢ i = omega arith in rw (get_or-set_other xs i k v d ne) (before k d l))
    (λ (e : k ≡ i). rw e (rw (get_or-set_same xs i v d h) here))
