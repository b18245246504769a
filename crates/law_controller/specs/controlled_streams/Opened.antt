-- A stream begins, where the walk may meet one more queue head (EHCI 1.0, 4.8.1 and 4.10; USB 2.0, 8.6).
--     with_stream, with_end, with_none     the queue heads with streams, their endpoints, and what was taken, is out or was reported of them, with
--                                          one more
--     IsBeginning part n q                 the queue head q at n is idle, and no qTD of its is active
--     IsOneMore ..                         what the structures and the bus have for it
--     EndsWithOne, PipesWithOne, ReportsWithOne, UnopenedLessOne     the laws
--     EndsWithOther, PipesWithOther, ReportsWithOther, UnopenedWithOther     .. where the one more has no stream
use Rattle.std.specs.Prelude.{◌≡◌, ◌≢◌, ℕ, ◌||◌, ◌==◌, Bool, true, false, List, [], Option, Some, if◌then◌else◌}
use Rattle.link_words.specs.declared.kinds.QtdLink.TheVariants as qtd_links
use Rattle.link_words.specs.Links.{qtd_link_of}
use Rattle.qh_qtd.specs.declared.qtd.Qtd.{Qtd}
use Rattle.qh_qtd.specs.declared.queue_head.Qh.{Qh}
use Rattle.law_structures.specs.lent_structures.Structures.{QueueHead, Element, Structures, StructureSets}
use Rattle.law_ring.specs.Hand.{Hand}
use Rattle.law_ring.specs.Stores.{IsWider}
use Rattle.law_ring.specs.Told.{HasToggle, Endpoint, HasEndpoint}
use Rattle.law_ring.specs.Sparing.{SameHand}
use Rattle.law_ring.specs.Bus.{Sender}
use Rattle.law_ring.specs.Pipes.{AreEndpoints, IsElsewhere, ArePiped}
use Rattle.law_controller.specs.controlled_streams.Reported.{AreReported}
use Rattle.law_controller.specs.controlled_streams.Unopened.{IsUntouched, IsUnopened, AreUnopened}

abbrev pub with_stream : (ℕ → Bool) → ℕ → ℕ → Bool
with_stream streams n k = k == n || streams k

abbrev pub with_end : (ℕ → Endpoint) → ℕ → Endpoint → ℕ → Endpoint
with_end endpoint n x k = if k == n then x else endpoint k

abbrev pub with_none : {A : Type 0} → (ℕ → List A) → ℕ → ℕ → List A
with_none lists n k = if k == n then [] else lists k

-- its one qTD, at the end of its queue, isn't active and leads nowhere
pub record IsBeginning (part : Structures) (n : ℕ) (q : Qh) : Type 0 where
  pub here : part n ≡ Some (QueueHead q)
  pub idle : q.token.active ≡ false
  pub none : (a : ℕ) (t : Qtd) → part a ≡ Some (Element t) → t.token.active ≡ false
  pub ends : (a : ℕ) (t : Qtd) → part a ≡ Some (Element t) → (qtd_link_of t.next ≡ qtd_links.End) × (qtd_link_of t.alternate ≡ qtd_links.End)

-- the structures of the queue heads with streams stay, and the queue head at n has none yet
pub record IsOneMore (streams : ℕ → Bool) (hand later : Hand) (parts now : StructureSets) (n : ℕ) (x : Endpoint) : Type 0 where
  pub hands : SameHand hand later
  pub stay : (k : ℕ) → streams k ≡ true → now k ≡ parts k
  pub new : streams n ≡ false
  pub queue : Qh
  pub begins : IsBeginning (now n) n queue
  pub named : HasEndpoint now n x
  -- a control endpoint's packets have the toggles of their qTDs (3.6)
  pub expects : x.dtc ≡ false → HasToggle later now n false

-- ---- the laws

abbrev pub EndsWithOne : Type 0
EndsWithOne = (stream : ℕ → ℕ → Bool) (member wider streams : ℕ → Bool) (endpoint : ℕ → Endpoint) (n : ℕ) (x : Endpoint) → IsWider member wider → wider n ≡ true
    → stream x.addr x.ep ≡ true → x.speed ≡ 2 → IsUnopened streams endpoint x.addr x.ep → AreEndpoints stream member streams endpoint
    → AreEndpoints stream wider (with_stream streams n) (with_end endpoint n x)

-- the walk meets no other queue head but that one for the first time, or one that asks none of the streams
abbrev pub PipesWithOne : {W : Type 0} → (W → ℕ → ℕ → Option Sender) → Type 0
PipesWithOne {W} sender = (stream : ℕ → ℕ → Bool) (packets : ℕ → ℕ → List (List ℕ)) (member wider streams : ℕ → Bool) (endpoint : ℕ → Endpoint) (acc : ℕ → List (List ℕ))
    (hand later : Hand) (parts now : StructureSets) (wire : W) (n : ℕ) (x : Endpoint) → IsOneMore streams hand later parts now n x → x.dtc ≡ false
    → IsUntouched (packets x.addr x.ep) (sender wire x.addr x.ep)
    → ((k : ℕ) → wider k ≡ true → k ≢ n → streams k ≡ false → IsElsewhere stream now k (endpoint k))
    → ArePiped stream packets sender member streams endpoint acc parts hand wire
    → ArePiped stream packets sender wider (with_stream streams n) (with_end endpoint n x) (with_none acc n) now later wire

abbrev pub ReportsWithOne : Type 0
ReportsWithOne = (streams : ℕ → Bool) (order : ℕ → ℕ → ℕ) (out : ℕ → List ℕ) (hand later : Hand) (parts now : StructureSets) (acc : ℕ → List (List ℕ)) (reported : ℕ → List ℕ)
    (n : ℕ) (x : Endpoint) → IsOneMore streams hand later parts now n x → AreReported streams order out hand parts acc reported
    → AreReported (with_stream streams n) order (with_none out n) later now (with_none acc n) (with_none reported n)

abbrev pub UnopenedLessOne : {W : Type 0} → (W → ℕ → ℕ → Option Sender) → Type 0
UnopenedLessOne {W} sender = (stream : ℕ → ℕ → Bool) (packets : ℕ → ℕ → List (List ℕ)) (streams : ℕ → Bool) (endpoint : ℕ → Endpoint) (wire : W) (n : ℕ) (x : Endpoint) → streams n ≡ false
    → AreUnopened stream packets sender streams endpoint wire → AreUnopened stream packets sender (with_stream streams n) (with_end endpoint n x) wire

-- ---- one more that has no stream, as that of an OUT endpoint

abbrev pub EndsWithOther : Type 0
EndsWithOther = (stream : ℕ → ℕ → Bool) (member wider streams : ℕ → Bool) (endpoint : ℕ → Endpoint) (n : ℕ) (x : Endpoint) → IsWider member wider → streams n ≡ false
    → AreEndpoints stream member streams endpoint → AreEndpoints stream wider streams (with_end endpoint n x)

-- it has no active qTD, so it asks none of the streams
abbrev pub PipesWithOther : {W : Type 0} → (W → ℕ → ℕ → Option Sender) → Type 0
PipesWithOther {W} sender = (stream : ℕ → ℕ → Bool) (packets : ℕ → ℕ → List (List ℕ)) (member wider streams : ℕ → Bool) (endpoint : ℕ → Endpoint) (acc : ℕ → List (List ℕ))
    (hand later : Hand) (parts now : StructureSets) (wire : W) (n : ℕ) (x : Endpoint) → IsOneMore streams hand later parts now n x
    → ((k : ℕ) → wider k ≡ true → k ≢ n → streams k ≡ false → IsElsewhere stream now k (endpoint k))
    → ArePiped stream packets sender member streams endpoint acc parts hand wire
    → ArePiped stream packets sender wider streams (with_end endpoint n x) (with_none acc n) now later wire

abbrev pub ReportsWithOther : Type 0
ReportsWithOther = (streams : ℕ → Bool) (order : ℕ → ℕ → ℕ) (out : ℕ → List ℕ) (hand later : Hand) (parts now : StructureSets) (acc : ℕ → List (List ℕ)) (reported : ℕ → List ℕ)
    (n : ℕ) (x : Endpoint) → IsOneMore streams hand later parts now n x → AreReported streams order out hand parts acc reported
    → AreReported streams order (with_none out n) later now (with_none acc n) (with_none reported n)

abbrev pub UnopenedWithOther : {W : Type 0} → (W → ℕ → ℕ → Option Sender) → Type 0
UnopenedWithOther {W} sender = (stream : ℕ → ℕ → Bool) (packets : ℕ → ℕ → List (List ℕ)) (streams : ℕ → Bool) (endpoint : ℕ → Endpoint) (wire : W) (n : ℕ) (x : Endpoint) → streams n ≡ false
    → AreUnopened stream packets sender streams endpoint wire → AreUnopened stream packets sender streams (with_end endpoint n x) wire
