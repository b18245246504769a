-- The pieces of a transfer's chain.
use Rattle.std.proofs.Common.{◌≡◌, ◌≢◌, ℕ, zero, suc, ◌+◌, ◌-◌, ◌*◌, ◌/◌, ◌<◌, ◌≤◌, ◌⊎◌, List, [], ◌∷◌, take, slice_index, Option, Some, None, ap, refl, sym, subst, ◌∙◌, ⊎_elim, inl, inr, arith}
use Rattle.std.proofs.lemmas.Bool.{cases_eq}
use Rattle.qh_qtd.specs.declared.qtd.Qtd.{Qtd}
use Rattle.drv_table.specs.declared.content.QtdNote.{QtdNote}
use Rattle.drv_table.specs.declared.content.Sort.{Sort}
use Rattle.claims_driver.specs.Owners.{TransferRuns, NoteRuns, Views, IsPieceOf}
use Rattle.law_structures.specs.lent_structures.Sound.{element_pages, buffer_name}
use Rattle.law_driver.specs.chained_transfers.Chains.{piece_at, NoneFrom}
use Rattle.law_driver_ring.specs.fed_queues.Fed.{IsNotedQtd}

-- ---- by number

pub piece_is : (note : ℕ → NoteRuns) (b n i : ℕ) → i < n → IsPieceOf note b n (piece_at note b i)
piece_is note b zero i below = absurd (omega (arith, below))
piece_is note b (suc n) zero below = inl refl
piece_is note b (suc n) (suc i) below = inr (piece_is note (note b).next n i (omega (arith, below)))

pub record HasNumber (note : ℕ → NoteRuns) (b n c : ℕ) : Type 0 where
  pub number : ℕ
  pub below : number < n
  pub at : c ≡ piece_at note b number

pub number_of : (note : ℕ → NoteRuns) (b n c : ℕ) → IsPieceOf note b n c → HasNumber note b n c
number_of note b zero c is = absurd is
number_of note b (suc n) c (inl same) = record { number = 0; below = omega arith; at = same }
number_of note b (suc n) c (inr is) =
    let k = number_of note (note b).next n c is in
    let less = k.below in
    record { number = suc k.number; below = omega (arith, less); at = k.at }

-- ---- orders

-- what rises from each to the next rises to the end
pub rises_to : (f : ℕ → ℕ) (i k : ℕ) → ((j : ℕ) → i ≤ j → j < i + suc k → f j < f (suc j)) → f i < f (i + suc k)
rises_to f i zero each = let one = each i (omega arith) (omega arith) in subst (λ (m : ℕ). f i < f m) (let e : suc i ≡ i + 1 = omega arith in e) one
rises_to f i (suc k) each =
    let rest = rises_to f i k (λ j from below. each j from (omega (arith, below))) in
    let last = each (i + suc k) (omega arith) (omega arith) in
    let both : f i < f (suc (i + suc k)) = omega (arith, rest, last) in
    subst (λ (m : ℕ). f i < f m) (let e : suc (i + suc k) ≡ i + suc (suc k) = omega arith in e) both

pub rises_below : (f : ℕ → ℕ) (i n : ℕ) → i < n → ((j : ℕ) → i ≤ j → j < n → f j < f (suc j)) → f i < f n
rises_below f i n below each =
    let same : i + suc (n - suc i) ≡ n = omega (arith, below) in
    subst (λ (m : ℕ). f i < f m) same (rises_to f i (n - suc i) (λ j from less. each j from (omega (arith, less, below))))

-- ---- the next transfer of an endpoint

pub record HasNext (v : Views) (e from : ℕ) : Type 0 where
  pub number : ℕ
  pub after : from ≤ number
  pub transfer : TransferRuns
  pub here : v.transfer number ≡ Some transfer
  pub endpoint : transfer.endpoint ≡ e
  pub none : NoneFrom v e from number

none_more : (v : Views) (e from to : ℕ) → NoneFrom v e from to → ((w : TransferRuns) → v.transfer to ≡ Some w → w.endpoint ≢ e) → NoneFrom v e from (suc to)
none_more v e from to none last k w after below here =
    ⊎_elim (λ (same : k ≡ to). last w (ap v.transfer (sym same) ∙ here)) (λ (differs : k ≢ to). none k w after (omega (arith, below, differs)) here) (cases_eq k to)

next_by : (v : Views) (e from to : ℕ) (o : Option TransferRuns) → v.transfer to ≡ o → from ≤ to → NoneFrom v e from to → HasNext v e from ⊎ NoneFrom v e from (suc to)
next_by v e from to None is after none = inr (none_more v e from to none (λ w there. absurd (let bad : None ≡ Some w = sym is ∙ there in cc)))
next_by v e from to (Some z) is after none =
    ⊎_elim (λ (same : z.endpoint ≡ e). inl (record { number = to; after = after; transfer = z; here = is; endpoint = same; none = none }))
    (λ (differs : z.endpoint ≢ e). inr (none_more v e from to none (λ w there same. differs (ap (λ (r : TransferRuns). r.endpoint) (some_same z w (sym is ∙ there)) ∙ same)))) (cases_eq z.endpoint e)
  where
    some_same : (z w : TransferRuns) → Some z ≡ Some w → z ≡ w
    some_same z w same = cc

pub find_next : (v : Views) (e from k : ℕ) → HasNext v e from ⊎ NoneFrom v e from (from + k)
find_next v e from zero = inr (λ j w after below here. absurd (omega (arith, after, below)))
find_next v e from (suc k) = by_rest (find_next v e from k) (next_by v e from (from + k) (v.transfer (from + k)) refl (omega arith))
  where
    by_rest : HasNext v e from ⊎ NoneFrom v e from (from + k) → (NoneFrom v e from (from + k) → HasNext v e from ⊎ NoneFrom v e from (suc (from + k))) → HasNext v e from ⊎ NoneFrom v e from (from + suc k)
    by_rest (inl found) step = inl found
    by_rest (inr none) step =
        ⊎_elim (λ (found : HasNext v e from). inl found) (λ (all : NoneFrom v e from (suc (from + k))). inr (subst (NoneFrom v e from) (let e : suc (from + k) ≡ from + suc k = omega arith in e) all)) (step none)

-- ---- buffers

pub first_taken : (k c : ℕ) (cs xs : List ℕ) → take k xs ≡ c ∷ cs → slice_index xs 0 ≡ c
first_taken zero c cs xs is = absurd (cc)
first_taken (suc k) c cs [] is = absurd (cc)
first_taken (suc k) c cs (x ∷ xs) is = heads x c (take k xs) cs is
  where
    heads : (x c : ℕ) (xs cs : List ℕ) → x ∷ xs ≡ c ∷ cs → x ≡ c
    heads x c xs cs is = cc

-- the buffer of a qTD that was noted so begins where its first run does
pub name_noted : (sort : Sort) (t : Qtd) (note : QtdNote) (end : ℕ) → IsNotedQtd sort t note end → buffer_name t ≡ 32 * slice_index note.buffer 0
name_noted sort t note end is =
    let c = slice_index note.buffer 0 in
    let offset = is.offset in
    let page = is.page0 in
    let small : t.offset / 4096 ≡ 0 = omega (arith, offset) in
    let first : slice_index (element_pages t) (t.offset / 4096) ≡ t.page0 = ap (slice_index (element_pages t)) small in
    omega (arith, first, page, offset, small)
