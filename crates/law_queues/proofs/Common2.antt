-- Lemmas that several files need.
use Rattle.std.proofs.Common.{ℕ, ◌≡◌, ap, ◌∙◌, [], Option, option_map, Some, refl, List, true, ◌∷◌, ⊎_elim, ◌==◌, subst, Bool, false}
use Rattle.std.proofs.lemmas.Bool.{false≢true, eqb-true, or_cases}
use Rattle.usb_base.specs.declared.endpoints.EpName.{EpName}
use Rattle.bus_wire.specs.Fates.{is_same_name}
use Rattle.qh_qtd.specs.declared.queue_head.Qh.{Qh}
use Rattle.qh_qtd.specs.declared.qtd.Qtd.{Qtd}
use Rattle.hc_copy.specs.Overlay.{moved}
use Rattle.law_structures.specs.lent_structures.Structures.{StructureSets, put, QueueHead, Structures, Element, Structure}
use Rattle.law_structures.specs.lent_structures.WriteBack.{CanBeWritten, Nothing, parts_back, qtd_after}
use Rattle.law_structures.specs.lent_structures.Changes.{relinked}
use Rattle.law_structures.proofs.lemmas.lent_structures.Names.{put_here}
use Rattle.law_structures.proofs.lemmas.lent_structures.WrittenBack.{between_element}
use Rattle.law_ring.specs.Effects.{bytes_in}
use Rattle.law_ring.proofs.Common.{bytes_beside_element}
use Rattle.law_ring.proofs.Keeping.{bytes_beside_head}
use Rattle.law_ring.specs.Front.{LinksWithin}
use Rattle.law_ring.specs.Fewer.{without_those}
use Rattle.law_ring.proofs.Returning.{those_found}
use Rattle.claims_driver.specs.Ring.{IsAmong, first, later}
use Rattle.law_driver.specs.endpoint_lives.Lives.{is_one_of}
use Rattle.law_driver_ring.specs.Inventory.{sort_of, OfElement}

pub silent_bytes : (parts : StructureSets) (n : ℕ) (q c : Qh) (count : ℕ) (t : Qtd) (a : ℕ) → CanBeWritten parts n n q c [] Nothing t
    → bytes_in (parts_back parts n n q c count [] Nothing t n a) ≡ bytes_in (parts n a)
silent_bytes parts n q c count t a can =
    let mid : StructureSets = put parts n n (QueueHead (relinked q (moved c count))) in
    ap (λ (part : Structures). bytes_in (part a)) (put_here mid n c.current (Element (qtd_after (moved c count) t)))
    ∙ bytes_beside_element (mid n) c.current t (qtd_after (moved c count) t) a
    (between_element parts n n q c (moved c count) [] Nothing t can)
    ∙ ap (λ (part : Structures). bytes_in (part a)) (put_here parts n n (QueueHead (relinked q (moved c count))))
    ∙ bytes_beside_head (parts n) n q (relinked q (moved c count)) a can.copy.head

pub element_by : (o : Option Structure) → option_map sort_of o ≡ Some OfElement → (t : Qtd) × (o ≡ Some (Element t))
element_by (Some (Element t)) is = (t, refl)
element_by _ is = absurd (cc)

pub one_among : (e : ℕ) (es : List ℕ) → is_one_of e es ≡ true → IsAmong e es
one_among e [] on = absurd (false≢true on)
one_among e (f ∷ es) on =
    ⊎_elim (λ (same : (e == f) ≡ true). subst (λ (g : ℕ). IsAmong e (g ∷ es)) (eqb-true e f same) (first es))
    (λ (rest : is_one_of e es ≡ true). later f es (one_among e es rest))
    (or_cases (e == f) (is_one_of e es) on)

pub fewer_within : (parts : StructureSets) (n : ℕ) (goes : ℕ → Bool) (order : ℕ → ℕ) (m c : ℕ) → LinksWithin order c (parts m)
    → LinksWithin order c (without_those parts n goes m)
fewer_within parts n goes order m c k = record {
  below = λ a q found on most. k.below a q (those_found parts n goes m a (Element q) found) on most;
  next = λ a b q found on most leads. k.next a b q (those_found parts n goes m a (Element q) found) on most leads;
  alternate = λ a b q found on most leads. k.alternate a b q (those_found parts n goes m a (Element q) found) on most leads;
}

pub not_same : (a b : EpName) (c : Bool) → is_same_name a b ≡ c → (is_same_name a b ≡ true → ⊥) → c ≡ false
not_same a b true is never = absurd (never is)
not_same a b false is never = refl
