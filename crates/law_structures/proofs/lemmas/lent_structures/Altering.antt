-- Which writes alter a part, and that alterations join.
use Rattle.std.proofs.Common.{◌≡◌, ◌≢◌, ℕ, List, length, Option, Some, ap, refl, sym, subst, ◌∙◌, ⊎_elim}
use Rattle.std.proofs.lemmas.Bool.{cases_eq}
use Rattle.std.proofs.lemmas.Option.{same_Some}
use Rattle.law_structures.proofs.Common.{element_is}
use Rattle.qh_qtd.specs.declared.qtd.Qtd.{Qtd}
use Rattle.qh_qtd.specs.declared.queue_head.Qh.{Qh}
use Rattle.qh_qtd.specs.declared.token.Token.{Token}
use Rattle.law_structures.specs.lent_structures.Structures.{Structure, QueueHead, Element, Buffer, Table, Isochronous, SplitIsochronous, Structures, with_structure}
use Rattle.law_structures.proofs.lemmas.lent_structures.Names.{with_here, with_there}
use Rattle.law_structures.specs.lent_structures.Alters.{IsAfter, Alters}

-- ---- kinds of structures

abbrev kind_number : Structure → ℕ
kind_number (QueueHead q) = 0
kind_number (Element t) = 1
kind_number (Buffer pages k bs) = 2
kind_number (Table ws) = 3
kind_number (Isochronous v) = 4
kind_number (SplitIsochronous v) = 5

abbrev as_element : Structure → Qtd → Qtd
as_element (Element t) other = t
as_element s other = other

abbrev as_queue : Structure → Qh → Qh
as_queue (QueueHead q) other = q
as_queue s other = other

pub same_queue : (q r : Qh) → QueueHead q ≡ QueueHead r → q ≡ r
same_queue q r e = ap (λ (s : Structure). as_queue s q) e

pub found_element : (o : Option Structure) (t u : Qtd) → o ≡ Some (Element t) → o ≡ Some (Element u) → t ≡ u
found_element o t u one other = element_is t u (same_Some (Element t) (Element u) (sym one ∙ other))

pub found_queue : (o : Option Structure) (q r : Qh) → o ≡ Some (QueueHead q) → o ≡ Some (QueueHead r) → q ≡ r
found_queue o q r one other = same_queue q r (same_Some (QueueHead q) (QueueHead r) (sym one ∙ other))

-- structures of two kinds don't have one name
pub no_two : (part : Structures) (a b : ℕ) (s t : Structure) → part a ≡ Some s → part b ≡ Some t → (kind_number s ≡ kind_number t → ⊥) → a ≢ b
no_two part a b s t one other differ same = differ (ap kind_number (same_Some s t (sym one ∙ ap part same ∙ other)))

-- ---- nothing is altered

pub is_itself : (t : Qtd) → IsAfter t t
is_itself t = record { token = t.token; is = refl; active = λ on. refl }

pub unaltered : (part : Structures) → Alters part part
unaltered part = record {
  element = λ a t here. record { qtd = t; here = here; after = is_itself t };
  element_before = λ a u here. record { qtd = u; here = here; after = is_itself u };
  buffer = λ a pages k bs here. record { bytes = bs; here = here; size = refl };
  buffer_before = λ a pages k bs here. record { bytes = bs; here = here; size = refl };
}

-- ---- two alterations

is_after_both : (t u v : Qtd) → IsAfter t u → IsAfter u v → IsAfter t v
is_after_both t u v one two = record {
  token = two.token;
  is = two.is ∙ ap (λ (x : Qtd). record x { token = two.token }) one.is;
  active = λ on.
      let same : two.token ≡ one.token = two.active on ∙ ap (λ (x : Qtd). x.token) one.is in
      same ∙ one.active (ap (λ (k : Token). k.active) (sym same) ∙ on);
}

pub altered_both : (part mid now : Structures) → Alters part mid → Alters mid now → Alters part now
altered_both part mid now one two = record {
  element = λ a t here.
      let first = one.element a t here in
      let second = two.element a first.qtd first.here in
      record { qtd = second.qtd; here = second.here; after = is_after_both t first.qtd second.qtd first.after second.after };
  element_before = λ a u here.
      let second = two.element_before a u here in
      let first = one.element_before a second.qtd second.here in
      record { qtd = first.qtd; here = first.here; after = is_after_both first.qtd second.qtd u first.after second.after };
  buffer = λ a pages k bs here.
      let first = one.buffer a pages k bs here in
      let second = two.buffer a pages k first.bytes first.here in
      record { bytes = second.bytes; here = second.here; size = second.size ∙ first.size };
  buffer_before = λ a pages k bs here.
      let second = two.buffer_before a pages k bs here in
      let first = one.buffer_before a pages k second.bytes second.here in
      record { bytes = first.bytes; here = first.here; size = first.size ∙ second.size };
}

-- ---- a structure in the place of one of its kind

-- what is found beside the place is what was there
beside : (part : Structures) (a b : ℕ) (s : Structure) (o : Option Structure) → b ≢ a → with_structure part a s b ≡ o → part b ≡ o
beside part a b s o differs found = sym (with_there part a s b differs) ∙ found

there : (part : Structures) (a b : ℕ) (s t : Structure) → b ≢ a → part b ≡ Some t → with_structure part a s b ≡ Some t
there part a b s t differs here = with_there part a s b differs ∙ here

-- what is found at the place is what was put
found_here : (part : Structures) (a b : ℕ) (s t : Structure) → b ≡ a → with_structure part a s b ≡ Some t → s ≡ t
found_here part a b s t same found = same_Some s t (sym (with_here part a s) ∙ ap (with_structure part a s) (sym same) ∙ found)

-- what another kind put there hides
other_kind : (part : Structures) (a b : ℕ) (s t : Structure) → (kind_number s ≡ kind_number t → ⊥) → with_structure part a s b ≡ Some t → b ≢ a
other_kind part a b s t differ found same = differ (ap kind_number (found_here part a b s t same found))

pub a_queue_head_alters_nothing : (part : Structures) (a : ℕ) (q new : Qh) → part a ≡ Some (QueueHead q)
    → Alters part (with_structure part a (QueueHead new))
a_queue_head_alters_nothing part a q new at = record {
  element = λ b t here. record { qtd = t; here = there part a b (QueueHead new) (Element t) (no_two part b a (Element t) (QueueHead q) here at (λ e. cc)) here; after = is_itself t };
  element_before = λ b u here. record { qtd = u; here = beside part a b (QueueHead new) (Some (Element u)) (other_kind part a b (QueueHead new) (Element u) (λ e. cc) here) here; after = is_itself u };
  buffer = λ b pages k bs here. record { bytes = bs; here = there part a b (QueueHead new) (Buffer pages k bs) (no_two part b a (Buffer pages k bs) (QueueHead q) here at (λ e. cc)) here; size = refl };
  buffer_before = λ b pages k bs here. record { bytes = bs; here = beside part a b (QueueHead new) (Some (Buffer pages k bs)) (other_kind part a b (QueueHead new) (Buffer pages k bs) (λ e. cc) here) here; size = refl };
}

pub a_token_alters_its_qtd : (part : Structures) (a : ℕ) (t u : Qtd) → part a ≡ Some (Element t) → IsAfter t u → Alters part (with_structure part a (Element u))
a_token_alters_its_qtd part a t u at after = record {
  element = λ b v here.
      ⊎_elim (λ (same : b ≡ a). record {
        qtd = u;
        here = ap (with_structure part a (Element u)) same ∙ with_here part a (Element u);
        after = subst (λ (x : Qtd). IsAfter x u) (found_element (part b) t v (ap part same ∙ at) here) after;
      })
      (λ (differs : b ≢ a). record { qtd = v; here = there part a b (Element u) (Element v) differs here; after = is_itself v }) (cases_eq b a);
  element_before = λ b v here.
      ⊎_elim (λ (same : b ≡ a). record {
        qtd = t;
        here = ap part same ∙ at;
        after = subst (λ (x : Qtd). IsAfter t x) (element_is u v (found_here part a b (Element u) (Element v) same here)) after;
      })
      (λ (differs : b ≢ a). record { qtd = v; here = beside part a b (Element u) (Some (Element v)) differs here; after = is_itself v }) (cases_eq b a);
  buffer = λ b pages k bs here. record { bytes = bs; here = there part a b (Element u) (Buffer pages k bs) (no_two part b a (Buffer pages k bs) (Element t) here at (λ e. cc)) here; size = refl };
  buffer_before = λ b pages k bs here. record { bytes = bs; here = beside part a b (Element u) (Some (Buffer pages k bs)) (other_kind part a b (Element u) (Buffer pages k bs) (λ e. cc) here) here; size = refl };
}

-- ---- bytes in the place of as many

-- a buffer's fields
abbrev buffer_pages : Structure → List ℕ → List ℕ
buffer_pages (Buffer pages k bs) other = pages
buffer_pages s other = other

abbrev buffer_start : Structure → ℕ → ℕ
buffer_start (Buffer pages k bs) other = k
buffer_start s other = other

abbrev buffer_bytes : Structure → List ℕ → List ℕ
buffer_bytes (Buffer pages k bs) other = bs
buffer_bytes s other = other

pub record AreSameBuffer (pages : List ℕ) (k : ℕ) (bs : List ℕ) (pages_too : List ℕ) (k_too : ℕ) (bs_too : List ℕ) : Type 0 where
  pub pages_is : pages ≡ pages_too
  pub start_is : k ≡ k_too
  pub bytes_is : bs ≡ bs_too

pub same_buffer : (pages : List ℕ) (k : ℕ) (bs : List ℕ) (pages_too : List ℕ) (k_too : ℕ) (bs_too : List ℕ) → Buffer pages k bs ≡ Buffer pages_too k_too bs_too → AreSameBuffer pages k bs pages_too k_too bs_too
same_buffer pages k bs pages_too k_too bs_too e = record {
  pages_is = ap (λ (s : Structure). buffer_pages s pages) e;
  start_is = ap (λ (s : Structure). buffer_start s k) e;
  bytes_is = ap (λ (s : Structure). buffer_bytes s bs) e;
}

pub found_buffer : (o : Option Structure) (pages : List ℕ) (k : ℕ) (bs : List ℕ) (pages_too : List ℕ) (k_too : ℕ) (bs_too : List ℕ) → o ≡ Some (Buffer pages k bs) → o ≡ Some (Buffer pages_too k_too bs_too) → AreSameBuffer pages k bs pages_too k_too bs_too
found_buffer o pages k bs pages_too k_too bs_too one other = same_buffer pages k bs pages_too k_too bs_too (same_Some (Buffer pages k bs) (Buffer pages_too k_too bs_too) (sym one ∙ other))

pub buffer_put : (part : Structures) (a : ℕ) (pages : List ℕ) (k : ℕ) (bs cs : List ℕ) → part a ≡ Some (Buffer pages k bs) → length cs ≡ length bs → Alters part (with_structure part a (Buffer pages k cs))
buffer_put part a pages k bs cs at size = record {
  element = λ b t here. record { qtd = t; here = there part a b (Buffer pages k cs) (Element t) (no_two part b a (Element t) (Buffer pages k bs) here at (λ e. cc)) here; after = is_itself t };
  element_before = λ b u here. record { qtd = u; here = beside part a b (Buffer pages k cs) (Some (Element u)) (other_kind part a b (Buffer pages k cs) (Element u) (λ e. cc) here) here; after = is_itself u };
  buffer = λ b ps j ds here.
      ⊎_elim (λ (same : b ≡ a).
      let is = found_buffer (part b) pages k bs ps j ds (ap part same ∙ at) here in
      record {
        bytes = cs;
        here = ap (with_structure part a (Buffer pages k cs)) same ∙ with_here part a (Buffer pages k cs) ∙ ap (λ (x : List ℕ). Some (Buffer x k cs)) is.pages_is ∙ ap (λ (x : ℕ). Some (Buffer ps x cs)) is.start_is;
        size = size ∙ ap length is.bytes_is;
      })
      (λ (differs : b ≢ a). record { bytes = ds; here = there part a b (Buffer pages k cs) (Buffer ps j ds) differs here; size = refl }) (cases_eq b a);
  buffer_before = λ b ps j ds here.
      ⊎_elim (λ (same : b ≡ a).
      let is = same_buffer pages k cs ps j ds (found_here part a b (Buffer pages k cs) (Buffer ps j ds) same here) in
      record {
        bytes = bs;
        here = ap part same ∙ at ∙ ap (λ (x : List ℕ). Some (Buffer x k bs)) is.pages_is ∙ ap (λ (x : ℕ). Some (Buffer ps x bs)) is.start_is;
        size = sym size ∙ ap length is.bytes_is;
      })
      (λ (differs : b ≢ a). record { bytes = ds; here = beside part a b (Buffer pages k cs) (Some (Buffer ps j ds)) differs here; size = refl }) (cases_eq b a);
}
