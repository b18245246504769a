-- Its links lead to later ones.
use Rattle.std.proofs.Common.{◌≡◌, ◌≢◌, ℕ, zero, suc, ◌*◌, ◌<◌, ◌≤◌, false, List, [], ◌∷◌, ◌++◌, length, slice_get, Option, Some, None, option_map, ap, refl, sym, subst, ◌∙◌, ⊎_elim, arith}
use Rattle.std.proofs.lemmas.Bool.{cases_lt}
use Rattle.law_controller.proofs.Common.{lower_one}
use Rattle.link_words.specs.declared.kinds.QtdLink.TheVariants as qtd_links
use Rattle.link_words.specs.declared.fields.ShortLink.{ShortLink}
use Rattle.link_words.specs.Links.{qtd_link_of, no_qtd}
use Rattle.qh_qtd.specs.declared.qtd.Qtd.{Qtd}
use Rattle.drv_table.specs.declared.content.Endpoint.{Endpoint}
use Rattle.drv_table.specs.declared.content.Sort.{Sort}
use Rattle.drv_table.specs.declared.content.Sort.TheVariants as sorts
use Rattle.drv_table.specs.declared.content.Transfer.{Transfer}
use Rattle.drv_table.specs.DriverContent.{DriverContent}
use Rattle.drv_table.specs.Words.{to_qtd}
use Rattle.claims_driver.specs.Owners.{NoteRuns, TransferRuns, runs_of_endpoint, runs_of_transfer, views_of, note_in}
use Rattle.law_ring.specs.Order.{IsAmong, IsSorted}
use Rattle.law_driver_ring.specs.Published.{partly}
use Rattle.law_controller.specs.controlled_streams.Storing.{LeadsLater}
use Rattle.law_driver.specs.chained_transfers.Chains.{piece_at, AreChained}
use Rattle.law_driver_ring.specs.fed_queues.Fed.{IsAlternate}
use Rattle.law_queues.proofs.lemmas.publish_laws.Outs.{IsSplit}
use Rattle.law_queues.proofs.lemmas.publish_laws.Apart.{newest_only}

-- ---- the qTD so far

no_link : (order : ℕ → ℕ) (e : ℕ) (t : Qtd) → LeadsLater order e t → (b : ℕ) → qtd_links.End ≡ qtd_links.To b → order e < order b
no_link order e t k b leads = absurd cc

pub partly_later : (order : ℕ → ℕ) (e : ℕ) (t : Qtd) (k : ℕ) → LeadsLater order e t → LeadsLater order e (partly t k)
partly_later order e t zero later = record { next = no_link order e t later; alternate = no_link order e t later }
partly_later order e t (suc zero) later = record { next = later.next; alternate = no_link order e t later }
partly_later order e t (suc (suc (suc (suc (suc (suc (suc (suc k)))))))) later = later
partly_later order e t _ later = record { next = later.next; alternate = later.alternate }

-- ---- what stands behind it

pub sorted_after : (order : ℕ → ℕ) (e : ℕ) (before after : List ℕ) → IsSorted order (before ++ e ∷ after) → (a : ℕ) → IsAmong a after → order e < order a
sorted_after order e [] after k a is = lower_one order e a after k.0 is
sorted_after order e (b ∷ bs) after k a is = sorted_after order e bs after k.1 a is

-- the last piece leads to the end of the queue
pub end_is : (d : DriverContent) (t : ℕ) (y : Transfer) (x : Endpoint) → AreChained (views_of d) → suc t ≡ length d.transfers → slice_get d.transfers t ≡ Some y → y.released ≡ false → slice_get d.endpoints y.endpoint ≡ Some x → piece_at (note_in d.notes) y.first y.qtds ≡ x.dummy
end_is d t y x chained last there held here =
    chained.last t (runs_of_transfer y) (runs_of_endpoint x) (ap (option_map runs_of_transfer) there) held (ap (option_map runs_of_endpoint) here) none
  where
    within : (k : ℕ) (z : TransferRuns) (o : Option Transfer) → slice_get d.transfers k ≡ o → suc t ≤ k → option_map runs_of_transfer o ≡ Some z → ⊥
    within k z None is over found = cc
    within k z (Some w) is over found = newest_only d t k w last over is

    none : (u : ℕ) (k : ℕ) (z : TransferRuns) → suc t ≤ k → k < u → (views_of d).transfer k ≡ Some z → z.endpoint ≢ y.endpoint
    none u k z from to found same = within k z (slice_get d.transfers k) refl from found

-- each piece behind it and the end of the queue are later
pub piece_later : (order : ℕ → ℕ) (note : ℕ → NoteRuns) (e b n c : ℕ) (words : List ℕ) (ts : List Transfer) (s : IsSplit note e b n c words ts) (dummy i : ℕ) → IsSorted order (s.before ++ (32 * b) ∷ s.after) → order (32 * b) < order (32 * dummy) → piece_at note b (suc n) ≡ dummy
    → 1 ≤ i → i ≤ suc n → order (32 * b) < order (32 * piece_at note b i)
piece_later order note e b n c words ts s dummy i sorted last ends some most =
    ⊎_elim (λ (below : i < suc n). sorted_after order (32 * b) s.before s.after sorted (32 * piece_at note b i) (s.others i some below))
    (λ (over : suc n ≤ i).
    let is : i ≡ suc n = omega (arith, over, most) in
    subst (λ (j : ℕ). order (32 * b) < order (32 * piece_at note b j)) (sym is) (subst (λ (j : ℕ). order (32 * b) < order (32 * j)) (sym ends) last)) (cases_lt i (suc n))

led : (order : ℕ → ℕ) (e c : ℕ) (l : ShortLink) → l ≡ to_qtd c → order e < order (32 * c) → (b : ℕ) → qtd_link_of l ≡ qtd_links.To b → order e < order b
led order e c l is later b leads = subst (λ (i : ℕ). order e < order i) (same (sym (ap qtd_link_of is) ∙ leads)) later
  where
    same : qtd_links.To (32 * c) ≡ qtd_links.To b → 32 * c ≡ b
    same z = cc

led_nowhere : (order : ℕ → ℕ) (e : ℕ) (l : ShortLink) → l ≡ no_qtd → (b : ℕ) → qtd_link_of l ≡ qtd_links.To b → order e < order b
led_nowhere order e l is b leads = absurd (never (sym (ap qtd_link_of is) ∙ leads))
  where
    never : qtd_links.End ≡ qtd_links.To b → ⊥
    never z = cc

led_by : (order : ℕ → ℕ) (e next end : ℕ) (sort : Sort) (l : ShortLink) → IsAlternate sort l next end → order e < order (32 * next) → order e < order (32 * end) → (b : ℕ) → qtd_link_of l ≡ qtd_links.To b → order e < order b
led_by order e next end sorts.Get l is one other = led order e end l is other
led_by order e next end sorts.Request l is one other = ⊎_elim (λ (none : l ≡ no_qtd). led_nowhere order e l none) (λ (to : l ≡ to_qtd next). led order e next l to one) is
led_by order e next end _ l is one other = led_nowhere order e l is

pub leads_later : (order : ℕ → ℕ) (e next end : ℕ) (sort : Sort) (t : Qtd) → t.next ≡ to_qtd next → IsAlternate sort t.alternate next end → order e < order (32 * next) → order e < order (32 * end) → LeadsLater order e t
leads_later order e next end sort t first second one other = record { next = led order e next t.next first one; alternate = led_by order e next end sort t.alternate second one other }
