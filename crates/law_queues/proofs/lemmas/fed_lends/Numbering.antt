-- The numbers of the qTDs of a transfer more.
use Rattle.std.proofs.Common.{◌≡◌, ◌≢◌, ℕ, suc, ◌+◌, ◌*◌, ◌<◌, ◌≤◌, ◌⊎◌, ◌==◌, Bool, true, false, List, [], ◌∷◌, length, if◌then◌else◌, ap, refl, sym, ◌∙◌, ⊎_elim, inl, inr, arith}
use Rattle.std.proofs.lemmas.Bool.{cases_Bool, eq-eqb, eqb-true}
use Rattle.law_queues.proofs.Common.{one_target}
use Rattle.law_common.proofs.Numbers.{other_number}
use Rattle.link_words.specs.declared.kinds.QtdLink.{QtdLink}
use Rattle.link_words.specs.declared.kinds.QtdLink.TheVariants as qtd_links
use Rattle.link_words.specs.Links.{qtd_link_of}
use Rattle.qh_qtd.specs.declared.qtd.Qtd.{Qtd}
use Rattle.drv_table.specs.declared.content.Alternate.{Alternate}
use Rattle.drv_table.specs.declared.content.Alternate.TheVariants as alternates
use Rattle.drv_table.specs.declared.content.QtdNote.{QtdNote}
use Rattle.drv_table.specs.declared.content.Stage.{Stage}
use Rattle.drv_table.specs.Words.{dummy_qtd, alternate_link}
use Rattle.drv_table.specs.Harvests.{note_at}
use Rattle.drv_table.specs.Offers.{is_last}
use Rattle.claims_driver.specs.Owners.{note_in}
use Rattle.law_ring.specs.Order.{AreAfter, IsSorted}
use Rattle.law_driver.specs.chained_transfers.Out.{pieces_from}
use Rattle.law_driver_ring.specs.Written.{AreAllApart, next_blocks, last_block}
use Rattle.law_driver_ring.specs.Pieces.{stage_qtd, IsNewQtd}
use Rattle.law_driver_ring.proofs.Lists.{IsOneOf, each_of}
use Rattle.law_queues.specs.fed_lends.Numbers.{numbered}

-- ---- a name of the chain, or another

pub record IsNumbered (notes : List QtdNote) (dummy : ℕ) (ss : List Stage) (b k : ℕ) (order : ℕ → ℕ) (a : ℕ) : Type 0 where
  pub qtd : Qtd
  pub new : IsNewQtd notes dummy ss b a qtd
  pub from : k ≤ numbered notes ss b k order a

pub numbered_case : (notes : List QtdNote) (dummy : ℕ) (ss : List Stage) (b k : ℕ) (order : ℕ → ℕ) (a : ℕ) → (numbered notes ss b k order a ≡ order a) ⊎ IsNumbered notes dummy ss b k order a
numbered_case notes dummy [] b k order a =
    ⊎_elim
    (λ (same : (a == 32 * b) ≡ true).
    let e : numbered notes [] b k order a ≡ k = ap (λ (t : Bool). if t then k else order a) same in
    inr (record { qtd = dummy_qtd; new = (eqb-true a (32 * b) same, refl); from = omega (arith, e) }))
    (λ (differs : (a == 32 * b) ≡ false). inl (ap (λ (t : Bool). if t then k else order a) differs)) (cases_Bool (a == 32 * b))
numbered_case notes dummy (s ∷ ss) b k order a =
    let next = (note_at notes b).next in
    let later = numbered notes ss next (suc k) order a in
    ⊎_elim
    (λ (same : (a == 32 * b) ≡ true).
    let e : numbered notes (s ∷ ss) b k order a ≡ k = ap (λ (t : Bool). if t then k else later) same in
    inr (record { qtd = stage_qtd notes s b dummy (is_last ss); new = inl (eqb-true a (32 * b) same, refl); from = omega (arith, e) }))
    (λ (differs : (a == 32 * b) ≡ false).
    let e : numbered notes (s ∷ ss) b k order a ≡ later = ap (λ (t : Bool). if t then k else later) differs in
    ⊎_elim (λ (old : later ≡ order a). inl (e ∙ old))
    (λ (new : IsNumbered notes dummy ss next (suc k) order a). inr (record { qtd = new.qtd; new = inr new.new; from = let f = new.from in omega (arith, e, f) }))
    (numbered_case notes dummy ss next (suc k) order a))
    (cases_Bool (a == 32 * b))

-- ---- the chain in its order

abbrev pub AreNumbered : (ℕ → ℕ) → List QtdNote → List Stage → ℕ → ℕ → Type 0
AreNumbered f notes [] b k = f (32 * b) ≡ k
AreNumbered f notes (s ∷ ss) b k = (f (32 * b) ≡ k) × AreNumbered f notes ss (note_at notes b).next (suc k)

numbers_same : (f g : ℕ → ℕ) (notes : List QtdNote) (ss : List Stage) (b k : ℕ) → ((c : ℕ) → IsOneOf c (b ∷ next_blocks notes ss b) → g (32 * c) ≡ f (32 * c)) → AreNumbered f notes ss b k → AreNumbered g notes ss b k
numbers_same f g notes [] b k same are = same b (inl refl) ∙ are
numbers_same f g notes (s ∷ ss) b k same are = (same b (inl refl) ∙ are.0, numbers_same f g notes ss (note_at notes b).next (suc k) (λ c one. same c (inr one)) are.1)

pub numbers_are : (notes : List QtdNote) (ss : List Stage) (b k : ℕ) (order : ℕ → ℕ) → AreAllApart (b ∷ next_blocks notes ss b) → AreNumbered (numbered notes ss b k order) notes ss b k
numbers_are notes [] b k order apart = ap (λ (t : Bool). if t then k else order (32 * b)) (eq-eqb (32 * b) (32 * b) refl)
numbers_are notes (s ∷ ss) b k order apart =
    let next = (note_at notes b).next in
    let later = numbered notes ss next (suc k) order in (
      ap (λ (t : Bool). if t then k else later (32 * b)) (eq-eqb (32 * b) (32 * b) refl),
      numbers_same later (numbered notes (s ∷ ss) b k order) notes ss next (suc k)
          (λ c one. ap (λ (t : Bool). if t then k else later (32 * c)) (other_number (32 * c) (32 * b) (λ same. each_of (λ i. i ≢ b) c (next ∷ next_blocks notes ss next) apart.0 one (omega (arith, same)))))
          (numbers_are notes ss next (suc k) order apart.1),
    )

pub first_number : (f : ℕ → ℕ) (notes : List QtdNote) (ss : List Stage) (b k : ℕ) → AreNumbered f notes ss b k → f (32 * b) ≡ k
first_number f notes [] b k are = are
first_number f notes (s ∷ ss) b k are = are.0

pub last_number : (f : ℕ → ℕ) (notes : List QtdNote) (ss : List Stage) (b k : ℕ) → AreNumbered f notes ss b k → f (32 * last_block notes ss b) ≡ k + length ss
last_number f notes [] b k are = let e : f (32 * b) ≡ k + 0 = omega (arith, are) in e
last_number f notes (s ∷ ss) b k are = let e = last_number f notes ss (note_at notes b).next (suc k) are.1 in omega (arith, e)

pub new_from : (f : ℕ → ℕ) (notes : List QtdNote) (dummy : ℕ) (ss : List Stage) (b k a : ℕ) (u : Qtd) → AreNumbered f notes ss b k → IsNewQtd notes dummy ss b a u → k ≤ f a
new_from f notes dummy [] b k a u are new = let e = ap f new.0 in omega (arith, are, e)
new_from f notes dummy (s ∷ ss) b k a u are (inl new) = let e = ap f new.0 in let g = are.0 in omega (arith, g, e)
new_from f notes dummy (s ∷ ss) b k a u are (inr new) = let e = new_from f notes dummy ss (note_at notes b).next (suc k) a u are.1 new in omega (arith, e)

-- the inactive qTD is the last
pub new_before : (f : ℕ → ℕ) (notes : List QtdNote) (dummy : ℕ) (ss : List Stage) (b k a : ℕ) (u : Qtd) → AreNumbered f notes ss b k → IsNewQtd notes dummy ss b a u → a ≢ 32 * last_block notes ss b → f a < k + length ss
new_before f notes dummy [] b k a u are new differs = absurd (differs new.0)
new_before f notes dummy (s ∷ ss) b k a u are (inl new) differs = let e = ap f new.0 in let g = are.0 in omega (arith, g, e)
new_before f notes dummy (s ∷ ss) b k a u are (inr new) differs = let e = new_before f notes dummy ss (note_at notes b).next (suc k) a u are.1 new differs in omega (arith, e)

-- ---- links lead to later ones

no_end : {X : Type 0} (c : ℕ) → ◌≡◌ {A = QtdLink} qtd_links.End (qtd_links.To c) → X
no_end c same = absurd (cc)

pub next_rises : (f : ℕ → ℕ) (notes : List QtdNote) (dummy : ℕ) (ss : List Stage) (b k a : ℕ) (u : Qtd) (c : ℕ) → AreNumbered f notes ss b k → IsNewQtd notes dummy ss b a u → qtd_link_of u.next ≡ qtd_links.To c → f a < f c
next_rises f notes dummy [] b k a u c are new leads = no_end c (sym (ap (λ (t : Qtd). qtd_link_of t.next) new.1) ∙ leads)
next_rises f notes dummy (s ∷ ss) b k a u c are (inl new) leads =
    let next = (note_at notes b).next in
    let at = one_target (32 * next) c (sym (ap (λ (t : Qtd). qtd_link_of t.next) new.1) ∙ leads) in
    let g = are.0 in
    let h = first_number f notes ss next (suc k) are.1 in
    let e = ap f new.0 in
    let i = ap f at in
    omega (arith, g, h, e, i)
next_rises f notes dummy (s ∷ ss) b k a u c are (inr new) leads = next_rises f notes dummy ss (note_at notes b).next (suc k) a u c are.1 new leads

alternate_target : (a : Alternate) (next dummy c : ℕ) → qtd_link_of (alternate_link a next dummy) ≡ qtd_links.To c → (c ≡ 32 * next) ⊎ (c ≡ 32 * dummy)
alternate_target alternates.Nowhere next dummy c leads = no_end c leads
alternate_target alternates.Dummy next dummy c leads = inr (sym (one_target (32 * dummy) c leads))
alternate_target alternates.Next next dummy c leads = inl (sym (one_target (32 * next) c leads))

pub alternate_rises : (f : ℕ → ℕ) (notes : List QtdNote) (dummy : ℕ) (ss : List Stage) (b k a : ℕ) (u : Qtd) (c : ℕ) → AreNumbered f notes ss b k → last_block notes ss b ≡ dummy → IsNewQtd notes dummy ss b a u → qtd_link_of u.alternate ≡ qtd_links.To c → f a < f c
alternate_rises f notes dummy [] b k a u c are ends new leads = no_end c (sym (ap (λ (t : Qtd). qtd_link_of t.alternate) new.1) ∙ leads)
alternate_rises f notes dummy (s ∷ ss) b k a u c are ends (inl new) leads =
    let next = (note_at notes b).next in
    let g = are.0 in
    let e = ap f new.0 in
    ⊎_elim (λ (at : c ≡ 32 * next). let h = first_number f notes ss next (suc k) are.1 in let i = ap f at in omega (arith, g, h, e, i))
    (λ (at : c ≡ 32 * dummy).
    let h = last_number f notes ss next (suc k) are.1 in
    let i : f c ≡ f (32 * last_block notes ss next) = ap f (at ∙ ap (λ (j : ℕ). 32 * j) (sym ends)) in
    omega (arith, g, h, e, i))
    (alternate_target s.alternate next dummy c (sym (ap (λ (t : Qtd). qtd_link_of t.alternate) new.1) ∙ leads))
alternate_rises f notes dummy (s ∷ ss) b k a u c are ends (inr new) leads = alternate_rises f notes dummy ss (note_at notes b).next (suc k) a u c are.1 ends new leads

-- ---- those that are out

pub all_after : (f : ℕ → ℕ) (notes : List QtdNote) (ss : List Stage) (b k e : ℕ) → AreNumbered f notes ss b k → f e < k → AreAfter f e (pieces_from (note_in notes) b (length ss))
all_after f notes [] b k e are less = tt
all_after f notes (s ∷ ss) b k e are less = (let g = are.0 in omega (arith, g, less), all_after f notes ss (note_at notes b).next (suc k) e are.1 (omega (arith, less)))

pub all_sorted : (f : ℕ → ℕ) (notes : List QtdNote) (ss : List Stage) (b k : ℕ) → AreNumbered f notes ss b k → IsSorted f (pieces_from (note_in notes) b (length ss))
all_sorted f notes [] b k are = tt
all_sorted f notes (s ∷ ss) b k are = (
  all_after f notes ss (note_at notes b).next (suc k) (32 * b) are.1 (let g = are.0 in omega (arith, g)),
  all_sorted f notes ss (note_at notes b).next (suc k) are.1,
)
