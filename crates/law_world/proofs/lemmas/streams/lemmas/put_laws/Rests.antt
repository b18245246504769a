-- What is still to be sent of an endpoint, and its puts, transfer by transfer.
use Rattle.std.proofs.Common.{◌≡◌, ◌≢◌, ℕ, zero, suc, ◌+◌, ◌<◌, ◌==◌, ◌&&◌, not, Bool, true, false, if◌then◌else◌, List, [], ◌∷◌, ◌++◌, set, length, map, drop, slice_get, Some, ap, refl, sym, ◌∙◌, arith}
use Rattle.std.specs.List.{concat}
use Rattle.std.proofs.lemmas.Bool.{eq-eqb, eqb-true, false≢true}
use Rattle.std.proofs.lemmas.List.{append_assoc, append-nil, length-map, map-append}
use Rattle.std.proofs.lemmas.List.Folds.{concat-append}
use Rattle.std.proofs.lemmas.Option.{same_Some}
use Rattle.law_common.proofs.Lists.{map_set_same, each_here}
use Rattle.claims_base.specs.Prefix.{IsPrefix}
use Rattle.word_mem.specs.Memory.{Mem}
use Rattle.drv_table.specs.declared.content.QtdNote.{QtdNote}
use Rattle.drv_table.specs.declared.content.Transfer.{Transfer}
use Rattle.drv_table.specs.DriverContent.{waits_for}
use Rattle.law_world.specs.streams.put_laws.Held.{held_bytes}
use Rattle.law_world.specs.streams.put_laws.TakenPuts.{puts_from}
use Rattle.law_world.proofs.lemmas.streams.lemmas.put_laws.Mapped.{was_mapped}
use Rattle.law_world.proofs.lemmas.streams.lemmas.put_laws.Stays.{owner_at}
use Rattle.law_world.proofs.lemmas.streams.lemmas.put_laws.Sums.{puts_in, by_owners, puts_join, puts_alike, puts_none, puts_one}
use Rattle.law_world.specs.streams.put_laws.Owed.{rest_from}

-- ---- prefixes

pub prefix_same : (xs ys : List ℕ) → xs ≡ ys → IsPrefix xs ys
prefix_same xs ys is = ([], append-nil xs ∙ is)

pub prefix_to : (xs ys zs : List ℕ) → ys ≡ zs → IsPrefix xs ys → IsPrefix xs zs
prefix_to xs ys zs is (rest, e) = (rest, e ∙ is)

pub prefix_of : (xs ys zs : List ℕ) → xs ≡ ys → IsPrefix ys zs → IsPrefix xs zs
prefix_of xs ys zs is (rest, e) = (rest, ap (λ (us : List ℕ). us ++ rest) is ∙ e)

-- ---- which transfers wait

pub waits_on : (e : ℕ) (y : Transfer) → y.endpoint ≡ e → y.reported ≡ false → waits_for e y ≡ true
waits_on e y own waits = ap (λ (b : Bool). b && not y.reported) (eq-eqb y.endpoint e own) ∙ ap not waits

pub reported_not : (e : ℕ) (y : Transfer) → y.reported ≡ true → waits_for e y ≡ false
reported_not e y told = by (y.endpoint == e) (ap not told)
  where
    by : (b : Bool) → not y.reported ≡ false → (b && not y.reported) ≡ false
    by true is = is
    by false is = refl

-- ---- the rest

abbrev pub one_rest : Mem → List QtdNote → ℕ → Transfer → List ℕ
one_rest m notes e y = if waits_for e y then held_bytes m notes y.place y.left else []

pub one_waits : (m : Mem) (notes : List QtdNote) (e : ℕ) (y : Transfer) → waits_for e y ≡ true → one_rest m notes e y ≡ held_bytes m notes y.place y.left
one_waits m notes e y is = ap (λ (b : Bool). if b then held_bytes m notes y.place y.left else []) is

pub one_none : (m : Mem) (notes : List QtdNote) (e : ℕ) (y : Transfer) → waits_for e y ≡ false → one_rest m notes e y ≡ []
one_none m notes e y is = ap (λ (b : Bool). if b then held_bytes m notes y.place y.left else []) is

one_alike : (m later : Mem) (notes now : List QtdNote) (e : ℕ) (y : Transfer) → (waits_for e y ≡ true → held_bytes later now y.place y.left ≡ held_bytes m notes y.place y.left) → one_rest later now e y ≡ one_rest m notes e y
one_alike m later notes now e y same = by (waits_for e y) refl
  where
    by : (b : Bool) → waits_for e y ≡ b → one_rest later now e y ≡ one_rest m notes e y
    by true is = one_waits later now e y is ∙ same is ∙ sym (one_waits m notes e y is)
    by false is = one_none later now e y is ∙ sym (one_none m notes e y is)

pub rest_alike : (m later : Mem) (notes now : List QtdNote) (e : ℕ) (ts : List Transfer)
    → ((t : ℕ) (y : Transfer) → slice_get ts t ≡ Some y → waits_for e y ≡ true → held_bytes later now y.place y.left ≡ held_bytes m notes y.place y.left) → rest_from later now e ts ≡ rest_from m notes e ts
rest_alike m later notes now e [] same = refl
rest_alike m later notes now e (y ∷ ys) same =
    ap (λ (xs : List ℕ). xs ++ rest_from later now e ys) (one_alike m later notes now e y (same 0 y refl))
    ∙ ap (λ (xs : List ℕ). one_rest m notes e y ++ xs) (rest_alike m later notes now e ys (λ t z here. same (suc t) z here))

pub rest_join : (m : Mem) (notes : List QtdNote) (e : ℕ) (xs ys : List Transfer) → rest_from m notes e (xs ++ ys) ≡ rest_from m notes e xs ++ rest_from m notes e ys
rest_join m notes e [] ys = refl
rest_join m notes e (x ∷ xs) ys =
    ap (λ (zs : List ℕ). one_rest m notes e x ++ zs) (rest_join m notes e xs ys) ∙ sym (append_assoc (one_rest m notes e x) (rest_from m notes e xs) (rest_from m notes e ys))

pub rest_none : (m : Mem) (notes : List QtdNote) (e : ℕ) (ts : List Transfer) → ((t : ℕ) (y : Transfer) → slice_get ts t ≡ Some y → waits_for e y ≡ false) → rest_from m notes e ts ≡ []
rest_none m notes e [] none = refl
rest_none m notes e (y ∷ ys) none =
    ap (λ (xs : List ℕ). xs ++ rest_from m notes e ys) (one_none m notes e y (none 0 y refl)) ∙ rest_none m notes e ys (λ t z here. none (suc t) z here)

-- one of them is changed, and waits neither before nor after
pub rest_set : (m : Mem) (notes : List QtdNote) (e t : ℕ) (ts : List Transfer) (y z : Transfer) → slice_get ts t ≡ Some y → one_rest m notes e z ≡ one_rest m notes e y → rest_from m notes e (set ts t z) ≡ rest_from m notes e ts
rest_set m notes e t [] y z here same = refl
rest_set m notes e zero (w ∷ ts) y z here same = ap (λ (xs : List ℕ). xs ++ rest_from m notes e ts) (same ∙ ap (one_rest m notes e) (sym (same_Some w y here)))
rest_set m notes e (suc t) (w ∷ ts) y z here same = ap (λ (xs : List ℕ). one_rest m notes e w ++ xs) (rest_set m notes e t ts y z here same)

-- none of those before it waits
pub rest_first : (m : Mem) (notes : List QtdNote) (e t : ℕ) (ts : List Transfer) (y : Transfer) → slice_get ts t ≡ Some y → ((u : ℕ) (z : Transfer) → u < t → slice_get ts u ≡ Some z → waits_for e z ≡ false)
    → rest_from m notes e ts ≡ one_rest m notes e y ++ rest_from m notes e (drop (suc t) ts)
rest_first m notes e t [] y here before = absurd cc
rest_first m notes e zero (w ∷ ts) y here before = ap (λ (v : Transfer). one_rest m notes e v ++ rest_from m notes e ts) (same_Some w y here)
rest_first m notes e (suc t) (w ∷ ts) y here before =
    ap (λ (xs : List ℕ). xs ++ rest_from m notes e ts) (one_none m notes e w (before 0 w (omega arith) refl))
    ∙ rest_first m notes e t ts y here (λ u z less at. before (suc u) z (omega (arith, less)) at)

pub dropped_set : {X : Type 0} (t : ℕ) (xs : List X) (z : X) → drop (suc t) (set xs t z) ≡ drop (suc t) xs
dropped_set t [] z = refl
dropped_set zero (x ∷ xs) z = refl
dropped_set (suc t) (x ∷ xs) z = dropped_set t xs z

-- ---- the puts

pub puts_kept : (puts now : ℕ → List ℕ) (e : ℕ) (ts : List Transfer) → ((t : ℕ) → t < length ts → now t ≡ puts t) → puts_from now e 0 ts ≡ puts_from puts e 0 ts
puts_kept puts now e ts same =
    by_owners now e 0 ts ∙ puts_alike puts now e 0 (map owner_at ts) (λ t low high. let long = length-map ts owner_at in same t (omega (arith, high, long))) ∙ sym (by_owners puts e 0 ts)

pub puts_set : (puts : ℕ → List ℕ) (e t : ℕ) (ts : List Transfer) (y z : Transfer) → slice_get ts t ≡ Some y → z.endpoint ≡ y.endpoint → puts_from puts e 0 (set ts t z) ≡ puts_from puts e 0 ts
puts_set puts e t ts y z here same =
    by_owners puts e 0 (set ts t z) ∙ ap (puts_in puts e 0) (map_set_same owner_at ts t y z here same) ∙ sym (by_owners puts e 0 ts)

pub puts_no : (puts : ℕ → List ℕ) (e : ℕ) (ts : List Transfer) → ((t : ℕ) (y : Transfer) → slice_get ts t ≡ Some y → y.endpoint ≢ e) → puts_from puts e 0 ts ≡ []
puts_no puts e ts none =
    by_owners puts e 0 ts
    ∙ puts_none puts e 0 (map owner_at ts)
    (each_here (λ o. o ≢ e) (map owner_at ts) (λ n o here is. let w = was_mapped owner_at ts n o here in none n w.0 w.1 (w.2 ∙ is)))

pub puts_push : (puts : ℕ → List ℕ) (e : ℕ) (ts : List Transfer) (y : Transfer)
    → concat (puts_from puts e 0 (ts ++ y ∷ [])) ≡ concat (puts_from puts e 0 ts) ++ (if y.endpoint == e then puts (length ts) else [])
puts_push puts e ts y =
    ap concat (by_owners puts e 0 (ts ++ y ∷ []) ∙ ap (puts_in puts e 0) (map-append owner_at ts (y ∷ [])) ∙ puts_join puts e 0 (map owner_at ts) (y.endpoint ∷ []))
    ∙ concat-append (puts_in puts e 0 (map owner_at ts)) (puts_in puts e (0 + length (map owner_at ts)) (y.endpoint ∷ []))
    ∙ ap (λ (xs : List (List ℕ)). concat xs ++ concat (puts_in puts e (0 + length (map owner_at ts)) (y.endpoint ∷ []))) (sym (by_owners puts e 0 ts))
    ∙ ap (λ (n : ℕ). concat (puts_from puts e 0 ts) ++ concat (puts_in puts e n (y.endpoint ∷ []))) (let long = length-map ts owner_at in let z : 0 + length (map owner_at ts) ≡ length ts = omega (arith, long) in z)
    ∙ ap (λ (xs : List ℕ). concat (puts_from puts e 0 ts) ++ xs) (last (y.endpoint == e) refl)
  where
    last : (b : Bool) → (y.endpoint == e) ≡ b → concat (puts_in puts e (length ts) (y.endpoint ∷ [])) ≡ (if b then puts (length ts) else [])
    last true is =
        ap (λ (o : ℕ). concat (puts_in puts e (length ts) (o ∷ []))) (eqb-true y.endpoint e is) ∙ ap concat (puts_one puts e (length ts)) ∙ append-nil (puts (length ts))
    last false is = ap concat (puts_none puts e (length ts) (y.endpoint ∷ []) ((λ same. false≢true (sym is ∙ eq-eqb y.endpoint e same)), tt))
