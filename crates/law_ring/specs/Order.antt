-- The qTDs of one queue head in the order in which they are worked on (EHCI 1.0, 4.10): links lead to later ones only, also after a short packet, so
-- what was moved of all of them is one stream of bytes, and each transaction adds to its end.
--     IsPlaced order place q    the links of the overlay lead to qTDs from this place on, and where it works its qTD is the last before it
--     IsFresh part t            nothing was moved of the qTD t
--     IsOrdered order place n part
--                               links lead to later qTDs, and those from the place on are fresh
--     IsSorted order out        these qTDs stand in their order
--     AllTold hand parts n out xs
--                               the bytes moved of each of them, one after the other
--     Accounts ..               these are the published qTDs, and these the bytes moved of them
--     bytes_of_effect           the bytes that an event moved of the queue head at n
use Rattle.std.specs.Prelude.{◌≡◌, ℕ, ◌+◌, ◌<◌, ◌≤◌, ◌⊎◌, ◌==◌, true, List, [], ◌∷◌, ◌++◌, length, Some, if◌then◌else◌}
use Rattle.usb_base.specs.declared.packets.Ask.{Ask}
use Rattle.usb_base.specs.declared.packets.Reply.{Reply}
use Rattle.link_words.specs.declared.kinds.QtdLink.TheVariants as qtd_links
use Rattle.link_words.specs.Links.{qtd_link_of}
use Rattle.qh_qtd.specs.declared.qtd.Qtd.{Qtd}
use Rattle.qh_qtd.specs.declared.queue_head.Qh.{Qh}
use Rattle.law_structures.specs.lent_structures.Structures.{QueueHead, Element, Structures, StructureSets}
use Rattle.law_ring.specs.Hand.{Hand}
use Rattle.law_ring.specs.Effects.{buffer_of, came_to}
use Rattle.law_ring.specs.Told.{Told}
use Rattle.law_ring.specs.Streams.{moved_bytes, StreamEffect}
use Rattle.law_ring.specs.Streams.StreamEffect.{same, aside, grows}

-- ---- the order

pub record IsPlaced (order : ℕ → ℕ) (place : ℕ) (q : Qh) : Type 0 where
  pub next : (b : ℕ) → qtd_link_of q.next ≡ qtd_links.To b → place ≤ order b
  pub alternate : (b : ℕ) → qtd_link_of q.alternate ≡ qtd_links.To b → place ≤ order b
  pub current : q.token.active ≡ true → order q.current + 1 ≡ place

abbrev pub IsFresh : Structures → Qtd → Type 0
IsFresh part t = t.token.total ≡ length (buffer_of part t)

pub record IsOrdered (order : ℕ → ℕ) (place n : ℕ) (part : Structures) : Type 0 where
  pub next : (a : ℕ) (t : Qtd) (b : ℕ) → part a ≡ Some (Element t) → qtd_link_of t.next ≡ qtd_links.To b → order a < order b
  pub alternate : (a : ℕ) (t : Qtd) (b : ℕ) → part a ≡ Some (Element t) → qtd_link_of t.alternate ≡ qtd_links.To b → order a < order b
  pub queue : (q : Qh) → part n ≡ Some (QueueHead q) → IsPlaced order place q
  pub fresh : (a : ℕ) (t : Qtd) → part a ≡ Some (Element t) → t.token.active ≡ true → place ≤ order a → IsFresh part t

-- ---- the published qTDs

abbrev pub AreAfter : (ℕ → ℕ) → ℕ → List ℕ → Type 0
AreAfter order e [] = Unit {0}
AreAfter order e (b ∷ bs) = (order e < order b) × AreAfter order e bs

abbrev pub IsSorted : (ℕ → ℕ) → List ℕ → Type 0
IsSorted order [] = Unit {0}
IsSorted order (e ∷ es) = AreAfter order e es × IsSorted order es

abbrev pub IsAmong : ℕ → List ℕ → Type 0
IsAmong e [] = ⊥
IsAmong e (b ∷ bs) = (e ≡ b) ⊎ IsAmong e bs

pub data AllTold (hand : Hand) (parts : StructureSets) (n : ℕ) : List ℕ → List ℕ → Type 0 where
  none_out : AllTold hand parts n [] []
  one_out : (e : ℕ) (es x xs : List ℕ) → Told hand parts n e x → AllTold hand parts n es xs → AllTold hand parts n (e ∷ es) (x ++ xs)

pub record Accounts (order : ℕ → ℕ) (place : ℕ) (out : List ℕ) (hand : Hand) (parts : StructureSets) (n : ℕ) (xs : List ℕ) : Type 0 where
  pub ordered : IsOrdered order place n (parts n)
  pub sorted : IsSorted order out
  pub published : (a : ℕ) (t : Qtd) → IsAmong a out → parts n a ≡ Some (Element t) → place ≤ order a → t.token.active ≡ true
  pub complete : (a : ℕ) (t : Qtd) → parts n a ≡ Some (Element t) → t.token.active ≡ true → IsAmong a out
  pub told : AllTold hand parts n out xs

-- ---- an event

abbrev pub bytes_of_effect : {W : Type 0} {Beside : Ask → Type 0} {transacts : W → Ask → List ℕ → Reply → W → Type 0}
    {parts : StructureSets} {hand : Hand} {wire after : W} {now : StructureSets}
    {later : Hand} → ℕ → StreamEffect Beside transacts parts hand wire after now later → List ℕ
bytes_of_effect n (same s quiet) = []
bytes_of_effect n (aside s ask out reply beside made) = []
bytes_of_effect {parts = parts} n (grows m all g) = if m.copy.at == n then moved_bytes m.copy.queue m.sent.element (came_to m)
    (buffer_of (parts m.copy.at) m.sent.element) else []

pub record GoesOnInOrder (order : ℕ → ℕ) (out : List ℕ) (later : Hand) (now : StructureSets) (n : ℕ) (xs more : List ℕ) : Type 0 where
  pub place : ℕ
  pub accounts : Accounts order place out later now n (xs ++ more)
