-- Structures and runs are given back under the walk.
use Rattle.std.proofs.Common.{◌≡◌, ◌≢◌, ℕ, ◌+◌, ◌≤◌, Bool, true, false, ◌==◌, if◌then◌else◌, length, Some, ap, refl, sym, subst, ◌∙◌, ⊎_elim, arith}
use Rattle.std.proofs.lemmas.Bool.{cases_eq}
use Rattle.law_ring.proofs.Common.{those_here, fewer_some}
use Rattle.law_common.proofs.Numbers.{other_number}
use Rattle.word_mem.specs.Runs.{Run, HasBlock}
use Rattle.word_mem.specs.Memory.{Mem, with_states, released}
use Rattle.word_mem.specs.declared.blocks.BlockState.TheVariants.{Kept}
use Rattle.word_mem.proofs.Frames.{AreAll-with_states}
use Rattle.word_mem.proofs.Filled.{length-filled}
use Rattle.mem_runs.proofs.Standing.{released_once}
use Rattle.qh_qtd.specs.declared.queue_head.Qh.{Qh}
use Rattle.async_walk.specs.Rows.{WalkPlace}
use Rattle.law_structures.specs.lent_structures.Structures.{Structure, QueueHead, Structures, StructureSets, Has, Tells}
use Rattle.law_structures.proofs.lemmas.lent_structures.Lending.{got_back_is_told, released_is_told}
use Rattle.law_structures.specs.lent_structures.Sound.{IsMember}
use Rattle.law_ring.specs.Hand.{Hand}
use Rattle.claims_base.specs.Controller.{Base}
use Rattle.law_ring.specs.Ring.{IsRing}
use Rattle.law_ring.proofs.Driving.{other_parts_leave_ring}
use Rattle.law_ring.specs.Fewer.{fewer_structures, without_those, MayGo}
use Rattle.law_ring.proofs.ReleaseGoing.{stays, part_may_lose}

pub those_beside : (parts : StructureSets) (n : ℕ) (goes : ℕ → Bool) (k : ℕ) → k ≢ n → without_those parts n goes k ≡ parts k
those_beside parts n goes k differs = ap (λ (b : Bool). if b then fewer_structures goes (parts k) else parts k) (other_number k n differs)

-- what is still there was there
pub those_found : (parts : StructureSets) (n : ℕ) (goes : ℕ → Bool) (k a : ℕ) (s : Structure) → without_those parts n goes k a ≡ Some s → parts k a ≡ Some s
those_found parts n goes k a s found = by_test (k == n) found
  where
    by_test : (b : Bool) → (if b then fewer_structures goes (parts k) else parts k) a ≡ Some s → parts k a ≡ Some s
    by_test true there = (fewer_some goes (parts k) a s there).1
    by_test false there = there

-- and its name doesn't go
pub those_stay : (parts : StructureSets) (n : ℕ) (goes : ℕ → Bool) (a : ℕ) (s : Structure) → without_those parts n goes n a ≡ Some s → goes a ≡ false
those_stay parts n goes a s found = (fewer_some goes (parts n) a s (ap (λ (part : Structures). part a) (sym (those_here parts n goes)) ∙ found)).0

pub those_else : (parts : StructureSets) (n : ℕ) (goes : ℕ → Bool) (k a : ℕ) → goes a ≡ false → without_those parts n goes k a ≡ parts k a
those_else parts n goes k a off = by_test (k == n)
  where
    by_test : (b : Bool) → (if b then fewer_structures goes (parts k) else parts k) a ≡ parts k a
    by_test true = stays goes (parts k) a off
    by_test false = refl

pub fewer_are_told : (m : Mem) (parts : StructureSets) (n : ℕ) (goes : ℕ → Bool) → Tells m parts → Tells m (without_those parts n goes)
fewer_are_told m parts n goes told = record {
  shape = told.shape;
  each = λ k a s found. told.each k a s (those_found parts n goes k a s found);
  alone = λ k a j c s t b one other has also. told.alone k a j c s t b (those_found parts n goes k a s one) (those_found parts n goes j c t other) has also;
}

-- ---- the ring

kept_heads : (parts : StructureSets) (n : ℕ) (goes : ℕ → Bool) (k : ℕ) → goes n ≡ false → without_those parts n goes k k ≡ parts k k
kept_heads parts n goes k off =
    ⊎_elim (λ (same : k ≡ n). those_else parts n goes k k (ap goes same ∙ off)) (λ (differs : k ≢ n). ap (λ (part : Structures). part k) (those_beside parts n goes k differs)) (cases_eq k n)

pub returns_leave_ring : (base : Base) (member : ℕ → Bool) (parts : StructureSets) (hand : Hand) (p : WalkPlace) (n : ℕ) (goes : ℕ → Bool) (after : Mem) → IsRing base member parts hand p → goes n ≡ false
    → (member n ≡ true → (q : Qh) → parts n n ≡ Some (QueueHead q) → MayGo goes n (parts n) q) → Tells after (without_those parts n goes) → IsRing base member (without_those parts n goes) hand (record p { memory = after })
returns_leave_ring base member parts hand p n goes after ring off may told =
    other_parts_leave_ring base member parts (without_those parts n goes) hand p after ring told
    (λ k on.
    ⊎_elim (λ (same : k ≡ n).
    let mine : member n ≡ true = ap member (sym same) ∙ on in
    let m : IsMember member n (parts n) = ring.members n mine in
    subst (λ (j : ℕ). IsMember member j (without_those parts n goes j)) (sym same)
    (subst (IsMember member n) (sym (those_here parts n goes)) (part_may_lose member n (parts n) goes m (may mine m.queue m.here))))
    (λ (differs : k ≢ n). subst (IsMember member k) (sym (those_beside parts n goes k differs)) (ring.members k on)) (cases_eq k n))
    (λ k q here. kept_heads parts n goes k off ∙ here)

-- ---- a run

pub freed_is_told : (m : Mem) (parts : StructureSets) (r : Run) → Tells m parts → r.first + r.blocks ≤ length m.states
    → ((n a : ℕ) (u : Structure) (b : ℕ) → parts n a ≡ Some u → Has a u b → HasBlock r b → ⊥) → Tells (released m r) parts
freed_is_told m parts r told within apart =
    subst (λ (x : Mem). Tells x parts) (released_once m r within)
    (released_is_told (with_states m r Kept) parts r Kept (got_back_is_told m parts r Kept told within apart)
    (let many = length-filled m.states r.first r.blocks Kept within in omega (arith, many, within)) (λ e. cc) (AreAll-with_states m r Kept within))
