-- Laws of steps that spare what is told.
use Rattle.std.specs.Prelude.{◌≡◌, ℕ, ◌≤◌, Bool, true, false, List, [], ◌∷◌, ◌++◌, Option, Some}
use Rattle.link_words.specs.declared.fields.LinkBits.{LinkBits}
use Rattle.qh_qtd.specs.declared.qtd.Qtd.{Qtd}
use Rattle.qh_qtd.specs.declared.queue_head.Qh.{Qh}
use Rattle.law_structures.specs.lent_structures.Structures.{QueueHead, Element, StructureSets}
use Rattle.law_ring.specs.Hand.{Hand}
use Rattle.law_ring.specs.Stores.{hand_linked, hand_stale}
use Rattle.law_ring.specs.Told.{Told, HasToggle, Endpoint}
use Rattle.law_ring.specs.Order.{IsOrdered, IsSorted, IsAmong, AllTold, Accounts}
use Rattle.law_ring.specs.Bus.{Sender}
use Rattle.law_ring.specs.Pipes.{IsIn, IsElsewhere, ArePiped}
use Rattle.law_ring.specs.Sparing.{SameHand, SparesHead, SparesElement}

abbrev pub LinkedHandIsSame : Type 0
LinkedHandIsSame = (n : ℕ) (l : LinkBits) (hand : Hand) → SameHand hand (hand_linked n l hand)

abbrev pub StaleHandIsSame : Type 0
StaleHandIsSame = (n : ℕ) (hand : Hand) → SameHand hand (hand_stale n hand)

abbrev pub SparedIsTold : Type 0
SparedIsTold = (hand later : Hand) (parts now : StructureSets) (n e : ℕ) (xs : List ℕ) → SameHand hand later → SparesHead parts now n → SparesElement parts now n e
    → Told hand parts n e xs → Told later now n e xs

abbrev pub SparedHasToggle : Type 0
SparedHasToggle = (hand later : Hand) (parts now : StructureSets) (n : ℕ) (b : Bool) → SameHand hand later → SparesHead parts now n → HasToggle hand parts n b → HasToggle later now n b

-- the walk may then meet others too, which ask none of the streams
abbrev pub PipesAreSpared : {W : Type 0} → (W → ℕ → ℕ → Option Sender) → Type 0
PipesAreSpared {W} sender = (stream : ℕ → ℕ → Bool) (packets : ℕ → ℕ → List (List ℕ)) (member wider streams : ℕ → Bool) (endpoint : ℕ → Endpoint) (acc : ℕ → List (List ℕ))
    (hand later : Hand) (parts now : StructureSets) (wire : W) → SameHand hand later → ((n : ℕ) → streams n ≡ true → SparesHead parts now n)
    → ((n : ℕ) → streams n ≡ true → IsIn (now n)) → ((n : ℕ) → wider n ≡ true → streams n ≡ false → IsElsewhere stream now n (endpoint n))
    → ArePiped stream packets sender member streams endpoint acc parts hand wire → ArePiped stream packets sender wider streams endpoint acc now later wire

-- where the published qTDs are spared, their bytes stay; their order may be told by other numbers
abbrev pub AccountsAreSpared : Type 0
AccountsAreSpared = (order order_now : ℕ → ℕ) (place place_now : ℕ) (out : List ℕ) (hand later : Hand) (parts now : StructureSets) (n : ℕ) (xs : List ℕ) → SameHand hand later
    → SparesHead parts now n → ((e : ℕ) → IsAmong e out → SparesElement parts now n e) → IsOrdered order_now place_now n (now n) → IsSorted order_now out
    → ((a : ℕ) (t : Qtd) → IsAmong a out → now n a ≡ Some (Element t) → place_now ≤ order_now a → t.token.active ≡ true)
    → ((a : ℕ) (t : Qtd) → now n a ≡ Some (Element t) → t.token.active ≡ true → IsAmong a out)
    → Accounts order place out hand parts n xs → Accounts order_now place_now out later now n xs

-- a qTD that is published has no bytes yet
abbrev pub PublishedAddsNothing : Type 0
PublishedAddsNothing = (order : ℕ → ℕ) (place : ℕ) (out : List ℕ) (hand : Hand) (parts : StructureSets) (n e : ℕ) (q : Qh) (t : Qtd) (xs : List ℕ) → IsOrdered order place n (parts n)
    → parts n n ≡ Some (QueueHead q) → parts n e ≡ Some (Element t) → t.token.active ≡ true → place ≤ order e
    → AllTold hand parts n out xs → AllTold hand parts n (out ++ e ∷ []) xs
