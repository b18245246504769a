-- Lines and transfers of endpoints by their names: each accepted transfer has one line, or none yet.
use Rattle.std.proofs.Common.{◌≡◌, ◌≢◌, ℕ, zero, suc, ◌+◌, Bool, true, false, cond, ◌&&◌, ◌||◌, ◌==◌, not, List, [], ◌∷◌, ◌++◌, length, slice_get, Some, ap, sym, subst, ◌∙◌, inl, inr, ⊎_elim, refl, arith}
use Rattle.std.specs.List.{AllByRecursion, list_any}
use Rattle.std.specs.Prelude.{◌⊎◌, count_by}
use Rattle.std.proofs.lemmas.Bool.{cases_eq, false≢true}
use Rattle.std.proofs.lemmas.Bool.Decides.{nat_tests}
use Rattle.std.proofs.lemmas.List.Folds.{list_any-append}
use Rattle.std.proofs.lemmas.List.Sums.{sum_by-append, sum_by-cons}
use Rattle.std.proofs.lemmas.Option.{same_Some, slice_get_within}
use Rattle.law_common.proofs.Booleans.{or_both, both_not, and_none}
use Rattle.law_common.proofs.Lists.{all_both, all_more, still_there}
use Rattle.usb_base.specs.declared.endpoints.EpName.{EpName}
use Rattle.usb_base.specs.declared.reports.Report.{Report}
use Rattle.usb_base.specs.declared.reports.What.TheVariants.{Cancel}
use Rattle.drv_table.specs.declared.content.Transfer.{Transfer}
use Rattle.drv_table.specs.DriverContent.{waits_for}
use Rattle.bus_wire.specs.Fates.{is_same_name}
use Rattle.claims_world.specs.Pending.{is_of_transfer, is_cancel, tells_of, cancels_of}
use Rattle.law_queues.proofs.lemmas.told_endpoints.Names.{same_name_is, name_is_same}

-- ---- counts

counts_join : {X : Type 0} (p : X → Bool) (xs ys : List X) → count_by p (xs ++ ys) ≡ count_by p xs + count_by p ys
counts_join p xs ys = sum_by-append (λ z. cond (p z) 1 0) xs ys

count_all : {X : Type 0} (p : X → Bool) (xs : List X) → AllByRecursion (λ x. p x ≡ true) xs → count_by p xs ≡ length xs
count_all p [] all = refl
count_all p (x ∷ xs) all =
    let sum = sum_by-cons (λ z. cond (p z) 1 0) x xs in
    let one : ◌≡◌ {A = ℕ} (cond (p x) 1 0) 1 = ap (λ (b : Bool). cond b 1 0) all.0 in
    let rest = count_all p xs all.1 in omega (arith, sum, one, rest)

count_none : {X : Type 0} (p : X → Bool) (xs : List X) → AllByRecursion (λ x. p x ≡ false) xs → count_by p xs ≡ 0
count_none p [] all = refl
count_none p (x ∷ xs) all =
    let sum = sum_by-cons (λ z. cond (p z) 1 0) x xs in
    let one : ◌≡◌ {A = ℕ} (cond (p x) 1 0) 0 = ap (λ (b : Bool). cond b 1 0) all.0 in
    let rest = count_none p xs all.1 in omega (arith, sum, one, rest)

count_alike : {X : Type 0} (p q : X → Bool) (xs : List X) → AllByRecursion (λ x. p x ≡ q x) xs → count_by p xs ≡ count_by q xs
count_alike p q [] all = refl
count_alike p q (x ∷ xs) all =
    let a = sum_by-cons (λ z. cond (p z) 1 0) x xs in
    let b = sum_by-cons (λ z. cond (q z) 1 0) x xs in
    let one : ◌≡◌ {A = ℕ} (cond (p x) 1 0) (cond (q x) 1 0) = ap (λ (b : Bool). cond b 1 0) all.0 in
    let rest = count_alike p q xs all.1 in omega (arith, a, b, one, rest)

-- ---- the whole

abbrev pub is_at : ℕ → Transfer → Bool
is_at e y = y.endpoint == e

pub record HasName (names : List EpName) (e : ℕ) : Type 0 where
  pub name : EpName
  pub is : slice_get names e ≡ Some name

pub record IsOne (names : List EpName) (name : EpName) : Type 0 where
  pub number : ℕ
  pub is : slice_get names number ≡ Some name

abbrev pub IsNamed : List EpName → Report → Type 0
IsNamed names l = is_of_transfer l.what ≡ true → IsOne names l.name

pub record IsTallied (names : List EpName) (rs : List Report) (ts : List Transfer) : Type 0 where
  pub apart : (e f : ℕ) (a : EpName) → slice_get names e ≡ Some a → slice_get names f ≡ Some a → e ≡ f
  pub named : AllByRecursion (IsNamed names) rs
  pub within : AllByRecursion (λ (y : Transfer). HasName names y.endpoint) ts
  pub adds : (e : ℕ) (a : EpName) → slice_get names e ≡ Some a → list_any (cancels_of a) rs ≡ false
      → count_by (tells_of a) rs + count_by (waits_for e) ts ≡ count_by (is_at e) ts

-- the same names
pub names_same : (names now : List EpName) (rs : List Report) (ts : List Transfer)
    → ((e : ℕ) → slice_get now e ≡ slice_get names e) → IsTallied names rs ts → IsTallied now rs ts
names_same names now rs ts same k = record {
  apart = λ e f a one two. k.apart e f a (sym (same e) ∙ one) (sym (same f) ∙ two);
  named = all_more (IsNamed names) (IsNamed now) rs
      (λ l was on. let w = was on in record { number = w.number; is = same w.number ∙ w.is }) k.named;
  within = all_more (λ (y : Transfer). HasName names y.endpoint) (λ (y : Transfer). HasName now y.endpoint) ts
      (λ y w. record { name = w.name; is = same y.endpoint ∙ w.is }) k.within;
  adds = λ e a at none. k.adds e a (sym (same e) ∙ at) none;
}

-- ---- a line that tells of no transfer, and of no cancel

pub other_line : (names : List EpName) (rs : List Report) (ts : List Transfer) (l : Report) → is_of_transfer l.what ≡ false
    → is_cancel l.what ≡ false → IsTallied names rs ts → IsTallied names (rs ++ l ∷ []) ts
other_line names rs ts l off uncancelled k = record {
  apart = k.apart;
  named = all_both (IsNamed names) rs (l ∷ []) k.named ((λ on. absurd (false≢true (sym off ∙ on))), tt);
  within = k.within;
  adds = λ e a at none.
      let first = or_both (list_any (cancels_of a) rs) (list_any (cancels_of a) (l ∷ []))
      (sym (list_any-append (cancels_of a) rs (l ∷ [])) ∙ none) in
      let sum = counts_join (tells_of a) rs (l ∷ []) in
      let zero_more = count_none (tells_of a) (l ∷ []) (both_not (is_same_name l.name a) (is_of_transfer l.what) off, tt) in
      let old = k.adds e a at first.0 in
      omega (arith, sum, zero_more, old);
}

-- ---- more transfers, which have no line

pub more_transfers : (names : List EpName) (rs : List Report) (ts more : List Transfer)
    → AllByRecursion (λ (y : Transfer). (y.reported ≡ false) × HasName names y.endpoint) more
    → IsTallied names rs ts → IsTallied names rs (ts ++ more)
more_transfers names rs ts more new k = record {
  apart = k.apart;
  named = k.named;
  within = all_both (λ (y : Transfer). HasName names y.endpoint) ts more k.within
      (all_more (λ (y : Transfer). (y.reported ≡ false) × HasName names y.endpoint) (λ (y : Transfer). HasName names y.endpoint) more
      (λ y w. w.1) new);
  adds = λ e a at none.
      let waiting = counts_join (waits_for e) ts more in
      let all = counts_join (is_at e) ts more in
      let same = count_alike (waits_for e) (is_at e) more
      (all_more (λ (y : Transfer). (y.reported ≡ false) × HasName names y.endpoint) (λ (y : Transfer). waits_for e y ≡ is_at e y) more
      (λ y w. unreported e y w.0) new) in
      let old = k.adds e a at none in
      omega (arith, waiting, all, same, old);
}
  where
    and_true : (b : Bool) → (b && true) ≡ b
    and_true true = refl
    and_true false = refl

    unreported : (e : ℕ) (y : Transfer) → y.reported ≡ false → waits_for e y ≡ is_at e y
    unreported e y off = ap (λ (r : Bool). (y.endpoint == e) && not r) off ∙ and_true (y.endpoint == e)

-- ---- one endpoint more, of another name

at_last : {X : Type 0} (xs : List X) (x : X) (n : ℕ) (z : X) → slice_get (xs ++ x ∷ []) n ≡ Some z
    → (slice_get xs n ≡ Some z) ⊎ ((n ≡ length xs) × (x ≡ z))
at_last [] x zero z is = inr (refl, same_Some x z is)
at_last [] x (suc n) z is = absurd cc
at_last (y ∷ ys) x zero z is = inl is
at_last (y ∷ ys) x (suc n) z is =
    ⊎_elim (λ (was : slice_get ys n ≡ Some z). inl was) (λ (new : (n ≡ length ys) × (x ≡ z)). inr (ap suc new.0, new.1))
    (at_last ys x n z is)

pub one_endpoint : (names : List EpName) (name : EpName) (rs : List Report) (ts : List Transfer)
    → ((e : ℕ) → slice_get names e ≡ Some name → ⊥) → IsTallied names rs ts → IsTallied (names ++ name ∷ []) rs ts
one_endpoint names name rs ts fresh k = record {
  apart = λ e f a one two.
      ⊎_elim (λ (was : slice_get names e ≡ Some a).
      ⊎_elim (λ (too : slice_get names f ≡ Some a). k.apart e f a was too)
      (λ (new : (f ≡ length names) × (name ≡ a)). absurd (fresh e (was ∙ ap Some (sym new.1)))) (at_last names name f a two))
      (λ (new : (e ≡ length names) × (name ≡ a)).
      ⊎_elim (λ (too : slice_get names f ≡ Some a). absurd (fresh f (too ∙ ap Some (sym new.1))))
      (λ (also : (f ≡ length names) × (name ≡ a)). new.0 ∙ sym also.0) (at_last names name f a two)) (at_last names name e a one);
  named = all_more (IsNamed names) (IsNamed (names ++ name ∷ [])) rs
      (λ l was on. let w = was on in record { number = w.number; is = still_there names (name ∷ []) w.number l.name w.is }) k.named;
  within = all_more (λ (y : Transfer). HasName names y.endpoint) (λ (y : Transfer). HasName (names ++ name ∷ []) y.endpoint) ts
      (λ y w. record { name = w.name; is = still_there names (name ∷ []) y.endpoint w.name w.is }) k.within;
  adds = λ e a at none.
      ⊎_elim (λ (was : slice_get names e ≡ Some a). k.adds e a was none)
      (λ (new : (e ≡ length names) × (name ≡ a)).
      let lines = count_none (tells_of a) rs (all_more (IsNamed names) (λ l. tells_of a l ≡ false) rs (untold a new.1) k.named) in
      let waiting = count_none (waits_for e) ts
      (all_more (λ (y : Transfer). HasName names y.endpoint) (λ (y : Transfer). waits_for e y ≡ false) ts
      (λ y w. and_none (y.endpoint == e) (not y.reported) (elsewhere e new.0 y w)) k.within) in
      let all = count_none (is_at e) ts
      (all_more (λ (y : Transfer). HasName names y.endpoint) (λ (y : Transfer). is_at e y ≡ false) ts (elsewhere e new.0) k.within) in
      omega (arith, lines, waiting, all))
      (at_last names name e a at);
}
  where
    elsewhere : (e : ℕ) → e ≡ length names → (y : Transfer) → HasName names y.endpoint → is_at e y ≡ false
    elsewhere e is y w = by (y.endpoint == e) refl
      where
        by : (b : Bool) → (y.endpoint == e) ≡ b → b ≡ false
        by false off = refl
        by true on =
            let less = slice_get_within names y.endpoint w.name w.is in
            let same : y.endpoint ≡ e = grind (arith, nat_tests) in absurd (omega (arith, less, same, is))

    untold : (a : EpName) → name ≡ a → (l : Report) → IsNamed names l → tells_of a l ≡ false
    untold a is l w = by (is_same_name l.name a) (is_of_transfer l.what) refl refl
      where
        by : (b c : Bool) → is_same_name l.name a ≡ b → is_of_transfer l.what ≡ c → (b && c) ≡ false
        by false c off what = refl
        by true false on what = refl
        by true true on what =
            let one = w what in absurd (fresh one.number (one.is ∙ ap Some (same_name_is l.name a on ∙ sym is)))

-- ---- an event of the driver

-- lines of endpoint i were written
pub record Writes (names : List EpName) (i : ℕ) (lines : List Report) (ts us : List Transfer) : Type 0 where
  pub of : AllByRecursion (λ (l : Report). slice_get names i ≡ Some l.name) lines
  pub fewer : ((count_by (waits_for i) us + length lines ≡ count_by (waits_for i) ts)
      × AllByRecursion (λ (l : Report). is_of_transfer l.what ≡ true) lines) ⊎ ((l : Report) × ((lines ≡ l ∷ []) × (l.what ≡ Cancel)))
  pub others : (e : ℕ) → i ≢ e → count_by (waits_for e) us ≡ count_by (waits_for e) ts
  pub ends : (e : ℕ) → count_by (is_at e) us ≡ count_by (is_at e) ts
  pub within : AllByRecursion (λ (y : Transfer). HasName names y.endpoint) us

all_two : {X : Type 0} (R S U : X → Type 0) (xs : List X) → ((x : X) → R x → S x → U x) → AllByRecursion R xs → AllByRecursion S xs
    → AllByRecursion U xs
all_two R S U [] each one two = tt
all_two R S U (x ∷ xs) each one two = (each x one.0 two.0, all_two R S U xs each one.1 two.1)

pub after_lines : (names : List EpName) (rs lines : List Report) (ts us : List Transfer) (i : ℕ) → Writes names i lines ts us
    → IsTallied names rs ts → IsTallied names (rs ++ lines) us
after_lines names rs lines ts us i w k = record {
  apart = k.apart;
  named = all_both (IsNamed names) rs lines k.named
      (all_more (λ (l : Report). slice_get names i ≡ Some l.name) (IsNamed names) lines (λ l is on. record { number = i; is = is }) w.of);
  within = w.within;
  adds = λ e a at none. by_number e a at
      (or_both (list_any (cancels_of a) rs) (list_any (cancels_of a) lines) (sym (list_any-append (cancels_of a) rs lines) ∙ none));
}
  where
    own : (e : ℕ) (a : EpName) → slice_get names e ≡ Some a → list_any (cancels_of a) lines ≡ false → i ≡ e
        → count_by (tells_of a) lines + count_by (waits_for e) us ≡ count_by (waits_for e) ts
    own e a at none same =
        ⊎_elim (λ (each : (count_by (waits_for i) us + length lines ≡ count_by (waits_for i) ts)
        × AllByRecursion (λ (l : Report). is_of_transfer l.what ≡ true) lines).
        let all = count_all (tells_of a) lines
        (all_two (λ (l : Report). slice_get names i ≡ Some l.name) (λ (l : Report). is_of_transfer l.what ≡ true)
        (λ (l : Report). tells_of a l ≡ true) lines (λ l is what. told l is what) w.of each.1) in
        let less : count_by (waits_for e) us + length lines ≡ count_by (waits_for e) ts =
        subst (λ (n : ℕ). count_by (waits_for n) us + length lines ≡ count_by (waits_for n) ts) same each.0 in
        omega (arith, all, less))
        (λ (one : (l : Report) × ((lines ≡ l ∷ []) × (l.what ≡ Cancel))). absurd (cancels one.0 one.1.0 one.1.1))
        w.fewer
      where
        its_name : (l : Report) → slice_get names i ≡ Some l.name → l.name ≡ a
        its_name l is = same_Some l.name a (sym is ∙ ap (slice_get names) same ∙ at)

        told : (l : Report) → slice_get names i ≡ Some l.name → is_of_transfer l.what ≡ true → tells_of a l ≡ true
        told l is what =
            ap (λ (b : Bool). b && is_of_transfer l.what) (ap (λ (n : EpName). is_same_name n a) (its_name l is) ∙ name_is_same a) ∙ what

        cancels : (l : Report) → lines ≡ l ∷ [] → l.what ≡ Cancel → ⊥
        cancels l is what =
            let its : slice_get names i ≡ Some l.name = (subst
            (AllByRecursion (λ (r : Report). slice_get names i ≡ Some r.name)) is w.of).0 in
            let on : cancels_of a l ≡ true =
            ap (λ (b : Bool). b && is_cancel l.what) (ap (λ (n : EpName). is_same_name n a) (its_name l its) ∙ name_is_same a)
            ∙ ap is_cancel what in
            false≢true (sym (sym (ap (λ (b : Bool). b || false) on) ∙ ap (list_any (cancels_of a)) (sym is) ∙ none))

    other : (e : ℕ) (a : EpName) → slice_get names e ≡ Some a → i ≢ e → count_by (tells_of a) lines ≡ 0
    other e a at differs =
        count_none (tells_of a) lines
        (all_more (λ (l : Report). slice_get names i ≡ Some l.name) (λ (l : Report). tells_of a l ≡ false) lines
        (λ l is. by (is_same_name l.name a) (is_of_transfer l.what) l is refl) w.of)
      where
        by : (b c : Bool) (l : Report) → slice_get names i ≡ Some l.name → is_same_name l.name a ≡ b → (b && c) ≡ false
        by false c l is off = refl
        by true c l is on = absurd (differs (k.apart i e a (is ∙ ap Some (same_name_is l.name a on)) at))

    by_number : (e : ℕ) (a : EpName) → slice_get names e ≡ Some a → (list_any (cancels_of a) rs ≡ false) ×
        (list_any (cancels_of a) lines ≡ false)
        → count_by (tells_of a) (rs ++ lines) + count_by (waits_for e) us ≡ count_by (is_at e) us
    by_number e a at none =
        let sum = counts_join (tells_of a) rs lines in
        let old = k.adds e a at none.0 in
        let ends = w.ends e in
        ⊎_elim (λ (same : i ≡ e). let now = own e a at none.1 same in omega (arith, sum, old, ends, now))
        (λ (differs : i ≢ e). let now = other e a at differs in let waiting = w.others e differs in omega
        (arith, sum, old, ends, now, waiting))
        (cases_eq i e)
