-- What holds of all that was visited, and of what is fetched next, holds of all that was visited after an event of the controller (EHCI 1.0, 4.6).
use Rattle.std.proofs.Common.{◌≡◌, ℕ, List, Option, Some, None, refl}
use Rattle.std.specs.List.{AllByRecursion}
use Rattle.periodic_walk.specs.declared.state.Hand.{Hand}
use Rattle.periodic_walk.specs.declared.chain.ChainRow.{ChainRow}
use Rattle.periodic_walk.specs.declared.chain.ChainRow.TheVariants as chains
use Rattle.periodic_walk.specs.Chain.{chain_row}
use Rattle.hc_core.specs.declared.controller.ControllerRow.{ControllerRow}
use Rattle.hc_core.specs.declared.controller.ControllerRow.TheVariants as rows
use Rattle.hc_core.specs.Controller.{Content}
use Rattle.law_microframes.specs.visits.Ranks.{name_of}
use Rattle.claims_world.specs.Visits.{fetched_by, visited_too, visits_at, visits_after}
use Rattle.law_microframes.proofs.lemmas.visits.VisitLinks.{queue_is_read, itd_is_read, sitd_is_read}

module _ (P : ℕ → Type 0) (c : Content) (vs : List ℕ) (all : AllByRecursion P vs) where
  by_chain : (r : ChainRow) → chain_row c.memory c.control.frame.cursor ≡ r → ((a : ℕ) → name_of c.control.frame.cursor ≡ Some a → P a) → AllByRecursion P (visited_too (fetched_by r) vs)
  by_chain (chains.Queue a q) is next = (next a (queue_is_read c.memory c.control.frame.cursor a q is).name, all)
  by_chain (chains.Itd a v) is next = (next a (itd_is_read c.memory c.control.frame.cursor a v is).name, all)
  by_chain (chains.Sitd a v) is next = (next a (sitd_is_read c.memory c.control.frame.cursor a v is).name, all)
  by_chain _ is next = all

  by_hand : (o : Option Hand) → c.control.frame.hand ≡ o → ((a : ℕ) → c.control.frame.hand ≡ None → name_of c.control.frame.cursor ≡ Some a → P a)
      → AllByRecursion P (visits_at o (chain_row c.memory c.control.frame.cursor) vs)
  by_hand None held next = by_chain (chain_row c.memory c.control.frame.cursor) refl (λ a name. next a held name)
  by_hand (Some hand) held next = all

  after : (r : ControllerRow) → (r ≡ rows.Frame → (a : ℕ) → c.control.frame.hand ≡ None → name_of c.control.frame.cursor ≡ Some a → P a) → AllByRecursion P (visits_after r c vs)
  after rows.Begin next = tt
  after rows.Frame next = by_hand c.control.frame.hand refl (next refl)
  after _ next = all

pub all_after : (P : ℕ → Type 0) (r : ControllerRow) (c : Content) (vs : List ℕ) → AllByRecursion P vs
    → (r ≡ rows.Frame → (a : ℕ) → c.control.frame.hand ≡ None → name_of c.control.frame.cursor ≡ Some a → P a) → AllByRecursion P (visits_after r c vs)
all_after P r c vs all next = after P c vs all r next
