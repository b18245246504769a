-- The placements of a list of endpoints, where one is changed, added or given back.
use Rattle.std.proofs.Common.{◌≡◌, ◌≢◌, ℕ, zero, suc, ◌+◌, ◌<◌, Bool, true, false, List, [], ◌∷◌, ◌++◌, length, slice_get, slice_set, Option, Some, None, refl, ap, sym, subst, ◌∙◌, arith}
use Rattle.std.specs.Prelude.{filter, not, nat_eq}
use Rattle.std.proofs.lemmas.List.{append_assoc, append-nil}
use Rattle.std.proofs.lemmas.List.Elements.{filter-append}
use Rattle.law_common.proofs.Numbers.{not_its, its_own as is_own}
use Rattle.usb_base.specs.declared.endpoints.EpDesc.{EpDesc}
use Rattle.bandwidth.specs.declared.placements.Placement.{Placement}
use Rattle.bandwidth.specs.declared.placements.Placed.{Placed}
use Rattle.drv_periodic_table.specs.Periodic.{want_of}
use Rattle.drv_table.specs.declared.content.Endpoint.{Endpoint}
use Rattle.law_driver.specs.planned_endpoints.Planned.{placed_by, planned}

pub same_at : (n e : ℕ) (xs : List Endpoint) (x y : Endpoint) → slice_get xs e ≡ Some x → y.desc ≡ x.desc → y.placement ≡ x.placement → y.gone ≡ x.gone → planned n (slice_set xs e y) ≡ planned n xs
same_at n e [] x y here a b c = refl
same_at n zero (z ∷ zs) x y here a b c =
    let same : z ≡ x = cc in
    ap (λ ps. ps ++ planned (suc n) zs) (rw (a, b, c) (ap (λ (w : Endpoint). placed_by n w.desc w.gone w.placement) (sym same)))
same_at n (suc e) (z ∷ zs) x y here a b c = ap (λ ps. placed_by n z.desc z.gone z.placement ++ ps) (same_at (suc n) e zs x y here a b c)

pub one_more : (n : ℕ) (xs : List Endpoint) (x : Endpoint) → planned n (xs ++ x ∷ []) ≡ planned n xs ++ placed_by (n + length xs) x.desc x.gone x.placement
one_more n [] x =
    let e : n ≡ n + 0 = omega arith in
    append-nil (placed_by n x.desc x.gone x.placement) ∙ ap (λ k. placed_by k x.desc x.gone x.placement) e
one_more n (z ∷ zs) x =
    let e : suc n + length zs ≡ n + suc (length zs) = omega arith in
    ap (λ ps. placed_by n z.desc z.gone z.placement ++ ps) (one_more (suc n) zs x ∙ ap (λ k. planned (suc n) zs ++ placed_by k x.desc x.gone x.placement) e)
    ∙ sym (append_assoc (placed_by n z.desc z.gone z.placement) (planned (suc n) zs) (placed_by (n + suc (length zs)) x.desc x.gone x.placement))

-- ---- one is given back

abbrev pub other : ℕ → Placed → Bool
other k y = not (nat_eq y.want.id k)

kept_by : (n k : ℕ) (x : EpDesc) (b : Bool) (p : Option Placement) → n ≢ k → filter (other k) (placed_by n x b p) ≡ placed_by n x b p
kept_by n k x true p h = refl
kept_by n k x false None h = refl
kept_by n k x false (Some p) h = rw (not_its n k h) refl

out_by : (n : ℕ) (x : EpDesc) (b : Bool) (p : Option Placement) → filter (other n) (placed_by n x b p) ≡ []
out_by n x true p = refl
out_by n x false None = refl
out_by n x false (Some p) = rw (is_own n) refl

later_kept : (n k : ℕ) (xs : List Endpoint) → k < n → filter (other k) (planned n xs) ≡ planned n xs
later_kept n k [] h = refl
later_kept n k (x ∷ xs) h =
    let apart : n ≢ k = λ e. omega (arith, h, e) in
    filter-append (other k) (placed_by n x.desc x.gone x.placement) (planned (suc n) xs)
    ∙ ap (λ ps. ps ++ filter (other k) (planned (suc n) xs)) (kept_by n k x.desc x.gone x.placement apart)
    ∙ ap (λ ps. placed_by n x.desc x.gone x.placement ++ ps) (later_kept (suc n) k xs (omega (arith, h)))

pub given_back : (n e k : ℕ) (xs : List Endpoint) (x : Endpoint) → k ≡ n + e → slice_get xs e ≡ Some x → planned n (slice_set xs e (record x { gone = true })) ≡ filter (other k) (planned n xs)
given_back n e k [] x at here = refl
given_back n zero k (z ∷ zs) x at here =
    let is : k ≡ n = omega (arith, at) in
    let own : filter (other k) (placed_by n z.desc z.gone z.placement) ≡ [] = subst (λ m. filter (other m) (placed_by n z.desc z.gone z.placement) ≡ []) (sym is) (out_by n z.desc z.gone z.placement) in
    sym
    (filter-append (other k) (placed_by n z.desc z.gone z.placement) (planned (suc n) zs)
    ∙ ap (λ ps. ps ++ filter (other k) (planned (suc n) zs)) own
    ∙ later_kept (suc n) k zs (omega (arith, is)))
given_back n (suc e) k (z ∷ zs) x at here =
    let apart : n ≢ k = λ h. omega (arith, at, h) in
    sym
    (filter-append (other k) (placed_by n z.desc z.gone z.placement) (planned (suc n) zs)
    ∙ ap (λ ps. ps ++ filter (other k) (planned (suc n) zs)) (kept_by n k z.desc z.gone z.placement apart)
    ∙ ap (λ ps. placed_by n z.desc z.gone z.placement ++ ps) (sym (given_back (suc n) e k zs x (omega (arith, at)) here)))

none_by : (n : ℕ) (x : EpDesc) (b : Bool) → placed_by n x b None ≡ []
none_by n x true = refl
none_by n x false = refl

-- an endpoint without a placement is none of the plan's, given back or not
pub unplaced_back : (n e : ℕ) (xs : List Endpoint) (x : Endpoint) → slice_get xs e ≡ Some x → x.placement ≡ None → planned n (slice_set xs e (record x { gone = true })) ≡ planned n xs
unplaced_back n e [] x here none = refl
unplaced_back n zero (z ∷ zs) x here none =
    let same : z ≡ x = cc in
    let alone : z.placement ≡ None = ap (λ (w : Endpoint). w.placement) same ∙ none in
    ap (λ ps. ps ++ planned (suc n) zs) (sym (ap (λ p. placed_by n z.desc z.gone p) alone ∙ none_by n z.desc z.gone))
unplaced_back n (suc e) (z ∷ zs) x here none = ap (λ ps. placed_by n z.desc z.gone z.placement ++ ps) (unplaced_back (suc n) e zs x here none)

-- ---- what the plan has

pub record Has (xs : List Placed) (y : Placed) : Type 0 where
  pub place : ℕ
  pub there : slice_get xs place ≡ Some y

behind : (xs ys : List Placed) (y : Placed) → Has ys y → Has (xs ++ ys) y
behind [] ys y h = h
behind (x ∷ xs) ys y h = let rest = behind xs ys y h in record { place = suc rest.place; there = rest.there }

first_of : (xs : List Placed) (y : Placed) (ys : List Placed) → xs ≡ y ∷ [] → Has (xs ++ ys) y
first_of xs y ys e = subst (λ (zs : List Placed). Has (zs ++ ys) y) (sym e) (record { place = 0; there = refl })

pub has_its_own : (n e k : ℕ) (xs : List Endpoint) (x : Endpoint) (p : Placement) → k ≡ n + e → slice_get xs e ≡ Some x → x.gone ≡ false → x.placement ≡ Some p → Has (planned n xs) (record { want = want_of k x.desc; placement = p })
has_its_own n e k [] x p at here kept is = absurd (cc)
has_its_own n zero k (z ∷ zs) x p at here kept is =
    let same : z ≡ x = cc in
    let num : k ≡ n = omega (arith, at) in
    first_of (placed_by n z.desc z.gone z.placement) _ (planned (suc n) zs)
    (ap (λ (w : Endpoint). placed_by n w.desc w.gone w.placement) same ∙ rw (kept, is, num) refl)
has_its_own n (suc e) k (z ∷ zs) x p at here kept is =
    behind (placed_by n z.desc z.gone z.placement) (planned (suc n) zs) _ (has_its_own (suc n) e k zs x p (omega (arith, at)) here kept is)

-- and nothing else
pub record Comes (n : ℕ) (xs : List Endpoint) (y : Placed) : Type 0 where
  pub number : ℕ
  pub id : y.want.id ≡ n + number
  pub endpoint : Endpoint
  pub here : slice_get xs number ≡ Some endpoint
  pub kept : endpoint.gone ≡ false
  pub placement : endpoint.placement ≡ Some y.placement
  pub want : y.want ≡ want_of y.want.id endpoint.desc

its_own : (n : ℕ) (x : Endpoint) (zs : List Endpoint) (b : Bool) (p : Option Placement) (y : Placed) (i : ℕ) → x.gone ≡ b → x.placement ≡ p → slice_get (placed_by n x.desc b p) i ≡ Some y → Comes n (x ∷ zs) y
its_own n x zs true p y i kept is at = absurd (cc)
its_own n x zs false None y i kept is at = absurd (cc)
its_own n x zs false (Some p) y zero kept is at =
    let same : y ≡ record { want = want_of n x.desc; placement = p } = cc in
    record { number = 0; id = rw same (omega arith); endpoint = x; here = refl; kept = kept; placement = rw same is; want = rw same refl }
its_own n x zs false (Some p) y (suc i) kept is at = absurd (cc)

one_later : (n : ℕ) (x : Endpoint) (xs : List Endpoint) (y : Placed) → Comes (suc n) xs y → Comes n (x ∷ xs) y
one_later n x xs y h = record {
  number = suc h.number;
  id = omega (arith, h.id);
  endpoint = h.endpoint;
  here = h.here;
  kept = h.kept;
  placement = h.placement;
  want = h.want;
}

split_at : (n : ℕ) (x : Endpoint) (zs : List Endpoint) (b : Bool) (p : Option Placement) (y : Placed) (i : ℕ) → x.gone ≡ b → x.placement ≡ p → ((j : ℕ) → slice_get (planned (suc n) zs) j ≡ Some y → Comes (suc n) zs y)
    → slice_get (placed_by n x.desc b p ++ planned (suc n) zs) i ≡ Some y → Comes n (x ∷ zs) y
split_at n x zs true p y i kept is rest at = one_later n x zs y (rest i at)
split_at n x zs false None y i kept is rest at = one_later n x zs y (rest i at)
split_at n x zs false (Some p) y zero kept is rest at = its_own n x zs false (Some p) y 0 kept is at
split_at n x zs false (Some p) y (suc i) kept is rest at = one_later n x zs y (rest i at)

pub comes_of : (n : ℕ) (xs : List Endpoint) (y : Placed) (i : ℕ) → slice_get (planned n xs) i ≡ Some y → Comes n xs y
comes_of n [] y i at = absurd (cc)
comes_of n (x ∷ xs) y i at = split_at n x xs x.gone x.placement y i refl refl (λ j. comes_of (suc n) xs y j) at
