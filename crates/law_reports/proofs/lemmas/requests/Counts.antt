-- Acts of windows are counted.
use Rattle.std.proofs.Common.{◌≡◌, ◌≢◌, ℕ, zero, suc, ◌+◌, ◌<◌, ◌≤◌, if◌then◌else◌, min, List, [], ◌∷◌, ◌++◌, length, map, filter, ap, refl, sym, ◌∙◌, ⊎_elim, arith}
use Rattle.std.specs.List.{AllByRecursion}
use Rattle.std.proofs.lemmas.Bool.{cases_eq}
use Rattle.law_common.proofs.Numbers.{kept_number, capped}
use Rattle.claims_report.specs.Acts.{IsOnce}
use Rattle.law_device.specs.Acts.{counted}
use Rattle.claims_report.specs.Requests.{Request, Window, is_some_act, has_acted}
use Rattle.law_devices.specs.ring_requests.Runs.{first_of}
use Rattle.claims_world.specs.Requests.{Windows, window_at}
use Rattle.law_reports.specs.requests.Records.{IsOnceAt}
use Rattle.law_reports.specs.requests.Counts.{counted_all, CountsAreActs}

pub counted_more : (v : Windows) (ts us : List ℕ) (n : ℕ) → counted_all v (ts ++ us) n ≡ counted_all v us (counted_all v ts n)
counted_more v [] us n = refl
counted_more v (t ∷ ts) us n = counted_more v ts us (counted (v.acts t) n)

pub counted_same : (v u : Windows) (ts : List ℕ) (n : ℕ) → AllByRecursion (λ t. u.acts t ≡ v.acts t) ts → counted_all u ts n ≡ counted_all v ts n
counted_same v u [] n all = refl
counted_same v u (t ∷ ts) n all = counted_same v u ts (counted (u.acts t) n) all.1 ∙ ap (λ (xs : List (List ℕ)). counted_all v ts (counted xs n)) all.0

-- nothing is recorded behind the window of request i
pub counted_first : (v : Windows) (number : ℕ → ℕ) (count i n : ℕ) → i < count → ((j : ℕ) → i < j → j < count → v.acts (number j) ≡ [])
    → counted_all v (first_of number count) n ≡ counted (v.acts (number i)) (counted_all v (first_of number i) n)
counted_first v number zero i n few none = absurd (omega (arith, few))
counted_first v number (suc k) i n few none =
    counted_more v (first_of number k) (number k ∷ []) n
    ∙ ⊎_elim {C = counted (v.acts (number k)) (counted_all v (first_of number k) n) ≡ counted (v.acts (number i)) (counted_all v (first_of number i) n)}
    (λ (same : i ≡ k). ap (λ (j : ℕ). counted (v.acts (number j)) (counted_all v (first_of number j) n)) (sym same))
    (λ (differs : i ≢ k).
    ap (λ (xs : List (List ℕ)). counted xs (counted_all v (first_of number k) n)) (none k (omega (arith, few, differs)) (omega arith))
    ∙ counted_first v number k i n (omega (arith, few, differs)) (λ j after less. none j after (omega (arith, less)))) (cases_eq i k)

-- ---- their number

abbrev number_of : List (List ℕ) → ℕ
number_of acts = if is_some_act acts then 1 else 0

filter_counts : (r : Request) (acts : List (List ℕ)) (ws : List Window) → length (filter has_acted (record { request = r; acts = acts } ∷ ws)) ≡ number_of acts + length (filter has_acted ws)
filter_counts r [] ws = omega arith
filter_counts r (a ∷ more) ws = omega arith

once_counts : (setup : List ℕ) (acts : List (List ℕ)) (n : ℕ) → IsOnce setup acts → n ≤ 4294967295 → counted acts n ≡ min (n + number_of acts) 4294967295
once_counts setup acts n o h =
    ⊎_elim {C = counted acts n ≡ min (n + number_of acts) 4294967295} (λ e. ap (λ x. counted x n) e ∙ kept_number n 4294967295 h ∙ ap (λ x. min (n + number_of x) 4294967295) (sym e))
    (λ e. ap (λ x. counted x n) e ∙ ap (λ x. min (n + number_of x) 4294967295) (sym e)) o

below : (n most : ℕ) → min n most ≤ most
below n most = omega arith

acts_counted : (asks : ℕ → Request) (v : Windows) (ts : List ℕ) (n : ℕ) → AllByRecursion (IsOnceAt asks v) ts → n ≤ 4294967295
    → counted_all v ts n ≡ min (n + length (filter has_acted (map (window_at asks v) ts))) 4294967295
acts_counted asks v [] n all h = kept_number n 4294967295 h
acts_counted asks v (t ∷ ts) n all h =
    let k : ℕ = length (filter has_acted (map (window_at asks v) ts)) in
    let m : ℕ = min (n + number_of (v.acts t)) 4294967295 in
    ap (counted_all v ts) (once_counts (asks t).setup (v.acts t) n all.0 h) ∙ acts_counted asks v ts m all.1 (below (n + number_of (v.acts t)) 4294967295) ∙ capped n (number_of (v.acts t)) k 4294967295
    ∙ ap (λ y. min (n + y) 4294967295) (sym (filter_counts (asks t) (v.acts t) (map (window_at asks v) ts)))

pub counts_are_acts : CountsAreActs
counts_are_acts asks v ts all =
    acts_counted asks v ts 0 all (omega arith) ∙ ap (λ (k : ℕ). min k 4294967295) (let same : 0 + length (filter has_acted (map (window_at asks v) ts)) ≡ length (filter has_acted (map (window_at asks v) ts)) = omega arith in same)
