-- Structures of one owner that are given back together, as the qTDs and buffers of a transfer (EHCI 1.0, 4.10).
--     fewer_structures goes part   the part without those that go
--     without_those parts n goes   the same of the owner n
--     MayGo goes n part q          the queue head q at n doesn't work on a qTD that goes and won't go on at one, and nothing that stays leads to one
--                                  or needs a buffer that goes
--     PartMayLose, ReturnsLeaveRing, FewerAreTold, FreedIsTold   the laws
use Rattle.std.specs.Prelude.{◌≡◌, ℕ, ◌+◌, ◌<◌, ◌≤◌, Bool, true, false, ◌==◌, length, Some, None, if◌then◌else◌}
use Rattle.word_mem.specs.Runs.{Run, HasBlock}
use Rattle.word_mem.specs.Memory.{Mem, released}
use Rattle.link_words.specs.declared.kinds.QtdLink.TheVariants as qtd_links
use Rattle.link_words.specs.Links.{qtd_link_of}
use Rattle.qh_qtd.specs.declared.qtd.Qtd.{Qtd}
use Rattle.qh_qtd.specs.declared.queue_head.Qh.{Qh}
use Rattle.hc_copy.specs.Visits.{next_pointer}
use Rattle.async_walk.specs.Rows.{WalkPlace}
use Rattle.law_structures.specs.lent_structures.Structures.{Structure, QueueHead, Element, Structures, StructureSets, Has, Tells}
use Rattle.law_structures.specs.lent_structures.Sound.{buffer_name, IsMember}
use Rattle.law_ring.specs.Hand.{Hand}
use Rattle.claims_base.specs.Controller.{Base}
use Rattle.law_ring.specs.Ring.{IsRing}

abbrev pub fewer_structures : (ℕ → Bool) → Structures → Structures
fewer_structures goes part a = if goes a then None else part a

abbrev pub without_those : StructureSets → ℕ → (ℕ → Bool) → StructureSets
without_those parts n goes k = if k == n then fewer_structures goes (parts k) else parts k

pub record MayGo (goes : ℕ → Bool) (n : ℕ) (part : Structures) (q : Qh) : Type 0 where
  pub head : goes n ≡ false
  pub work : q.token.active ≡ true → goes q.current ≡ false
  pub rest : (a : ℕ) → q.token.halted ≡ false → q.token.active ≡ false → qtd_link_of (next_pointer q) ≡ qtd_links.To a → goes a ≡ false
  pub next : (a b : ℕ) (t : Qtd) → part a ≡ Some (Element t) → goes a ≡ false → qtd_link_of t.next ≡ qtd_links.To b → goes b ≡ false
  pub alternate : (a b : ℕ) (t : Qtd) → part a ≡ Some (Element t) → goes a ≡ false → qtd_link_of t.alternate ≡ qtd_links.To b → goes b ≡ false
  pub buffer : (a : ℕ) (t : Qtd) → part a ≡ Some (Element t) → goes a ≡ false → t.token.active ≡ true → 0 < t.token.total → goes (buffer_name t) ≡ false

-- ---- the laws

abbrev pub PartMayLose : Type 0
PartMayLose = (member : ℕ → Bool) (n : ℕ) (part : Structures) (goes : ℕ → Bool) → (m : IsMember member n part) → MayGo goes n part m.queue
    → IsMember member n (fewer_structures goes part)

-- their blocks may be given back at once
abbrev pub ReturnsLeaveRing : Type 0
ReturnsLeaveRing = (base : Base) (member : ℕ → Bool) (parts : StructureSets) (hand : Hand) (p : WalkPlace) (n : ℕ) (goes : ℕ → Bool) (after : Mem)
    → IsRing base member parts hand p → goes n ≡ false → (member n ≡ true → (q : Qh) → parts n n ≡ Some (QueueHead q) → MayGo goes n (parts n) q)
    → Tells after (without_those parts n goes) → IsRing base member (without_those parts n goes) hand (record p { memory = after })

abbrev pub FewerAreTold : Type 0
FewerAreTold = (m : Mem) (parts : StructureSets) (n : ℕ) (goes : ℕ → Bool) → Tells m parts → Tells m (without_those parts n goes)

-- a Lent run of which no structure that is told has a block
abbrev pub FreedIsTold : Type 0
FreedIsTold = (m : Mem) (parts : StructureSets) (r : Run) → Tells m parts → r.first + r.blocks ≤ length m.states
    → ((n a : ℕ) (u : Structure) (b : ℕ) → parts n a ≡ Some u → Has a u b → HasBlock r b → ⊥) → Tells (released m r) parts
