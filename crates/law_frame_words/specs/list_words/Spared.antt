-- The words that a frame list needs (EHCI 1.0, 3.1, 3.3.1 and 4.6): each of its elements, and the link of each of its members.
--     IsItsWord p w            w is one of them
--     LeavesList p word now    they are as before
use Rattle.std.specs.Prelude.{◌≡◌, ℕ, ◌<◌, true}
use Rattle.drv_chains.specs.declared.members.Predecessor.{Predecessor}
use Rattle.drv_chains.specs.declared.members.Predecessor.TheVariants.{Element, After}
use Rattle.drv_members.specs.Members.{is_linked}
use Rattle.drv_periodic.specs.Periodic.{Periodic, address_of}

abbrev pub IsItsWord : Periodic → Predecessor → Type 0
IsItsWord p (Element f) = f < 1024
IsItsWord p (After m) = is_linked p.members.schedule m ≡ true

abbrev pub LeavesList : Periodic → (ℕ → ℕ) → (ℕ → ℕ) → Type 0
LeavesList p word now = (w : Predecessor) → IsItsWord p w → now (address_of p.list w) ≡ word (address_of p.list w)
