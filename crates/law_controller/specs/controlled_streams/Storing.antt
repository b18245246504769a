-- A qTD that isn't active is stored over, where another one is being published, or its last store makes it active (EHCI 1.0, 3.5 and 4.10.2).
--     LeadsLater order e t      the links of the qTD t at e lead to later ones
--     IsStore order out parts n e old new
--                               the qTD `old` at e isn't active, `new` is stored there, and its place in the order is among those that are out
--     out_with s                those that are out, and it
--     with_out out n now        the same of all queue heads, where n has others out
use Rattle.std.specs.Prelude.{◌≡◌, ℕ, ◌<◌, ◌==◌, false, List, ◌∷◌, ◌++◌, Some, if◌then◌else◌}
use Rattle.link_words.specs.declared.kinds.QtdLink.TheVariants as qtd_links
use Rattle.link_words.specs.Links.{qtd_link_of}
use Rattle.qh_qtd.specs.declared.qtd.Qtd.{Qtd}
use Rattle.law_structures.specs.lent_structures.Structures.{Element, StructureSets, put}
use Rattle.law_ring.specs.Order.{IsSorted}

pub record LeadsLater (order : ℕ → ℕ) (e : ℕ) (t : Qtd) : Type 0 where
  pub next : (b : ℕ) → qtd_link_of t.next ≡ qtd_links.To b → order e < order b
  pub alternate : (b : ℕ) → qtd_link_of t.alternate ≡ qtd_links.To b → order e < order b

pub record IsStore (order : ℕ → ℕ) (out : List ℕ) (parts : StructureSets) (n e : ℕ) (old new : Qtd) : Type 0 where
  pub here : parts n e ≡ Some (Element old)
  pub idle : old.token.active ≡ false
  pub before : List ℕ
  pub after : List ℕ
  pub out_is : out ≡ before ++ after
  pub sorted : IsSorted order (before ++ e ∷ after)
  pub later : LeadsLater order e new

abbrev pub out_with : {order : ℕ → ℕ} {out : List ℕ} {parts : StructureSets} {n e : ℕ} {old new : Qtd} → IsStore order out parts n e old new → List ℕ
out_with {e = e} s = s.before ++ e ∷ s.after

abbrev pub with_out : (ℕ → List ℕ) → ℕ → List ℕ → ℕ → List ℕ
with_out out n now k = if k == n then now else out k

abbrev pub stored_parts : StructureSets → ℕ → ℕ → Qtd → StructureSets
stored_parts parts n e new = put parts n e (Element new)
