-- What views tell, and where links lead.
use Rattle.std.proofs.Common.{◌≡◌, ℕ, ◌*◌, Bool, true, false, if◌then◌else◌, Option, Some, None, option_map, ap, refl, sym, ◌∙◌, ⊎_elim, inl, inr, ◌⊎◌}
use Rattle.std.proofs.lemmas.Option.{same_Some}
use Rattle.law_queues.proofs.Common.{one_target, no_end}
use Rattle.link_words.specs.declared.kinds.QtdLink.{QtdLink}
use Rattle.link_words.specs.declared.kinds.QtdLink.TheVariants as qtd_links
use Rattle.link_words.specs.declared.fields.ShortLink.{ShortLink}
use Rattle.link_words.specs.Links.{qtd_link_of, no_qtd}
use Rattle.drv_table.specs.Words.{to_qtd}
use Rattle.drv_table.specs.declared.content.Command.{Command}
use Rattle.drv_table.specs.declared.content.Sort.{Sort as Sorted}
use Rattle.drv_table.specs.declared.content.Sort.TheVariants as sorts
use Rattle.law_driver.specs.chained_transfers.Out.{unpublished}
use Rattle.law_driver_ring.specs.fed_queues.Fed.{IsAlternate}

-- ---- what views tell

pub mapped : {X Y : Type 0} (f : X → Y) (o : Option X) (y : Y) → option_map f o ≡ Some y → (x : X) × (o ≡ Some x) × (y ≡ f x)
mapped f None y is = absurd (cc)
mapped f (Some x) y is = (x, refl, sym (same_Some (f x) y is))

pub none_yet : (o : Option Command) (made n : ℕ) (b : Bool) → o ≡ None → (if b then unpublished o made n else 0) ≡ 0
none_yet o made n b free = ap (λ (c : Option Command). if b then unpublished c made n else 0) free ∙ either b
  where
    either : (b : Bool) → ◌≡◌ {A = ℕ} (if b then 0 else 0) 0
    either true = refl
    either false = refl

target : QtdLink → ℕ → ℕ
target qtd_links.End a = a
target (qtd_links.To b) a = b

-- an alternate that leads anywhere leads to the end, or where the next does
pub alternate_to : (sort : Sorted) (l : ShortLink) (next end b : ℕ) → IsAlternate sort l next end → qtd_link_of l ≡ qtd_links.To b → (32 * end ≡ b) ⊎ (32 * next ≡ b)
alternate_to sorts.Get l next end b is to = inl (one_target (32 * end) b (sym (ap qtd_link_of is) ∙ to))
alternate_to sorts.Request l next end b is to =
    ⊎_elim (λ (none : l ≡ no_qtd). absurd (no_end b (sym (ap qtd_link_of none) ∙ to))) (λ (on : l ≡ to_qtd next). inr (one_target (32 * next) b (sym (ap qtd_link_of on) ∙ to))) is
alternate_to _ l next end b is to = absurd (no_end b (sym (ap qtd_link_of is) ∙ to))
