-- What is owed, as one transfer or endpoint changes.
use Rattle.std.proofs.Common.{◌≡◌, ℕ, ◌+◌, ◌≤◌, Bool, true, false, not, ◌&&◌, cond, List, set, get_or, slice_get, Some, sum_by, arith, ap, sym, ◌∙◌, refl}
use Rattle.std.proofs.lemmas.Option.{slice_get_within, same_Some, slice_get-get_or}
use Rattle.std.proofs.lemmas.List.Sums.{sum_by-set}
use Rattle.drv_table.specs.declared.content.Endpoint.{Endpoint}
use Rattle.drv_table.specs.declared.content.Transfer.{Transfer}
use Rattle.ehci_driver.specs.Rooms.{unreported, owed_bytes, owed_cancels, linked}

-- one item of a sum changes
pub counted : {X : Type 0} (f : X → ℕ) (xs : List X) (i : ℕ) (x y : X) → slice_get xs i ≡ Some x → sum_by f (set xs i y) + f x ≡ sum_by f xs + f y
counted f xs i x y there =
    let within = slice_get_within xs i x there in
    let at : get_or xs i x ≡ x = same_Some (get_or xs i x) x (sym (slice_get-get_or xs i x within) ∙ there) in
    ap (λ z. sum_by f (set xs i y) + f z) (sym at) ∙ sum_by-set f xs i y x within

-- a transfer that gets its line
pub told_once : (ts : List Transfer) (t : ℕ) (x : Transfer) → slice_get ts t ≡ Some x → x.reported ≡ false → unreported (set ts t (record x { reported = true })) + 1 ≡ unreported ts
told_once ts t x there fresh =
    let one : ◌≡◌ {A = ℕ} (cond x.reported 0 1) 1 = ap (λ b. cond b 0 1) fresh in
    omega (arith, counted (λ (u : Transfer). cond u.reported 0 1) ts t x (record x { reported = true }) there, one)

pub told_bytes : (ts : List Transfer) (t : ℕ) (x : Transfer) → slice_get ts t ≡ Some x → x.reported ≡ false → owed_bytes (set ts t (record x { reported = true })) + x.most ≡ owed_bytes ts
told_bytes ts t x there fresh =
    let most : cond x.reported 0 x.most ≡ x.most = ap (λ b. cond b 0 x.most) fresh in
    omega (arith, counted (λ (u : Transfer). cond u.reported 0 u.most) ts t x (record x { reported = true }) there, most)

-- a transfer that changes elsewhere
pub kept_lines : (ts : List Transfer) (t : ℕ) (x y : Transfer) → slice_get ts t ≡ Some x → y.reported ≡ x.reported → unreported (set ts t y) ≡ unreported ts
kept_lines ts t x y there same =
    let e : ◌≡◌ {A = ℕ} (cond y.reported 0 1) (cond x.reported 0 1) = ap (λ b. cond b 0 1) same in
    omega (arith, counted (λ (u : Transfer). cond u.reported 0 1) ts t x y there, e)

pub kept_bytes : (ts : List Transfer) (t : ℕ) (x y : Transfer) → slice_get ts t ≡ Some x → y.reported ≡ x.reported → y.most ≡ x.most → owed_bytes (set ts t y) ≡ owed_bytes ts
kept_bytes ts t x y there same most =
    let e : cond y.reported 0 y.most ≡ cond x.reported 0 x.most = ap (λ b. cond b 0 y.most) same ∙ ap (λ m. cond x.reported 0 m) most in
    omega (arith, counted (λ (u : Transfer). cond u.reported 0 u.most) ts t x y there, e)

-- an endpoint that leaves the ring, and one that stays in it
pub left_ring : (xs : List Endpoint) (e : ℕ) (x : Endpoint) → slice_get xs e ≡ Some x → x.linked ≡ true → linked (set xs e (record x { linked = false })) + 1 ≡ linked xs
left_ring xs e x there on =
    let one : ◌≡◌ {A = ℕ} (cond x.linked 1 0) 1 = ap (λ b. cond b 1 0) on in
    omega (arith, counted (λ (u : Endpoint). cond u.linked 1 0) xs e x (record x { linked = false }) there, one)

pub kept_linked : (xs : List Endpoint) (e : ℕ) (x y : Endpoint) → slice_get xs e ≡ Some x → y.linked ≡ x.linked → linked (set xs e y) ≡ linked xs
kept_linked xs e x y there same =
    let f : ◌≡◌ {A = ℕ} (cond y.linked 1 0) (cond x.linked 1 0) = ap (λ b. cond b 1 0) same in
    omega (arith, counted (λ (u : Endpoint). cond u.linked 1 0) xs e x y there, f)

pub kept_cancels : (xs : List Endpoint) (e : ℕ) (x y : Endpoint) → slice_get xs e ≡ Some x → y.cancelled ≡ x.cancelled → y.gone ≡ x.gone → owed_cancels (set xs e y) ≡ owed_cancels xs
kept_cancels xs e x y there same also =
    let f : ◌≡◌ {A = ℕ} (cond (y.cancelled && not y.gone) 1 0) (cond (x.cancelled && not x.gone) 1 0) = ap (λ b. cond (b && not y.gone) 1 0) same ∙ ap (λ b. cond (x.cancelled && not b) 1 0) also in
    omega (arith, counted (λ (u : Endpoint). cond (u.cancelled && not u.gone) 1 0) xs e x y there, f)

-- a cancelled endpoint that is given back
pub gone_cancel : (xs : List Endpoint) (e : ℕ) (x : Endpoint) → slice_get xs e ≡ Some x → x.cancelled ≡ true → x.gone ≡ false → owed_cancels (set xs e (record x { gone = true })) + 1 ≡ owed_cancels xs
gone_cancel xs e x there on here =
    let before : ◌≡◌ {A = ℕ} (cond (x.cancelled && not x.gone) 1 0) 1 = ap (λ b. cond (b && not x.gone) 1 0) on ∙ ap (λ b. cond (true && not b) 1 0) here in
    let after : ◌≡◌ {A = ℕ} (cond (x.cancelled && not true) 1 0) 0 = ap (λ b. cond (b && not true) 1 0) on in
    omega (arith, counted (λ (u : Endpoint). cond (u.cancelled && not u.gone) 1 0) xs e x (record x { gone = true }) there, before, after)

none_gone : (b : Bool) → ◌≡◌ {A = ℕ} (cond (b && not true) 1 0) 0
none_gone true = refl
none_gone false = refl

pub less_cancels : (xs : List Endpoint) (e : ℕ) (x : Endpoint) → slice_get xs e ≡ Some x → owed_cancels (set xs e (record x { gone = true })) ≤ owed_cancels xs
less_cancels xs e x there =
    omega (arith, counted (λ (u : Endpoint). cond (u.cancelled && not u.gone) 1 0) xs e x (record x { gone = true }) there, none_gone x.cancelled)
