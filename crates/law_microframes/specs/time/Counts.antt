-- How many structures a microframe's walks visit, and how many transactions its asynchronous part makes (EHCI 1.0, 3, 4.6, 4.8, 4.8.3 and 4.10; USB 2.0, 5.11.3).
--     IsBlockBelow n v         byte address v is that of one of the first n blocks of 32 bytes
--     AreFewerThanBlocks       of these no more than n differ
--     AreFewerThanWords        .. and of blocks that lie wholly in n words, no more than an eighth of these
--     VisitsAreFew s           at each moment the walk of the frames has visited no more structures than that in the microframe
--     RoundsAreFew s           .. and the walk of the ring no more queue heads since it read the head of the ring
--     TextsVisitFew            the law, of each script that a text spells
--     PricesAreAtLeast         each transaction of the ring costs that or more
--     IsPaid t left            it does, and no more than the time that is left
--     IsPaidWhereMade          each event of the walk of the ring that makes a transaction pays it
--     MadeInTurn ps left       transactions of these prices are made one after the other, each with enough time left
--     AreMadeFew               they are no more than the time divided by the least price
use Rattle.std.specs.Prelude.{◌≡◌, ℕ, ◌+◌, ◌-◌, ◌*◌, ◌/◌, ◌%◌, ◌<◌, ◌≤◌, List, [], ◌∷◌, length}
use Rattle.std.specs.List.{AllByRecursion}
use Rattle.script_types.specs.declared.scripts.Script.{Script}
use Rattle.script_text.specs.Faults.{Spells}
use Rattle.qh_qtd.specs.declared.queue_head.Qh.{Qh}
use Rattle.hc_copy.specs.declared.held.Transaction.{Transaction}
use Rattle.async_walk.specs.declared.rows.WalkRow.TheVariants as rows
use Rattle.async_walk.specs.Naks.{planned}
use Rattle.async_walk.specs.Rows.{WalkPlace, event_row}
use Rattle.claims_world.specs.Memory.{AreOnce}
use Rattle.claims_world.specs.Visits.{visited}
use Rattle.law_microframes.specs.time.Rounds.{round}
use Rattle.claims_world.specs.Microframes.{most_blocks, least_price}

-- ---- blocks

pub record IsBlockBelow (n v : ℕ) : Type 0 where
  pub aligned : v % 32 ≡ 0
  pub below : v < 32 * n

abbrev pub AreFewerThanBlocks : Type 0
AreFewerThanBlocks = (n : ℕ) (vs : List ℕ) → AreOnce vs → AllByRecursion (IsBlockBelow n) vs → length vs ≤ n

pub record IsBlockInWords (n v : ℕ) : Type 0 where
  pub aligned : v % 32 ≡ 0
  pub within : v + 32 ≤ 4 * n

abbrev pub AreFewerThanWords : Type 0
AreFewerThanWords = (n : ℕ) (vs : List ℕ) → AreOnce vs → AllByRecursion (IsBlockInWords n) vs → length vs ≤ n / 8

abbrev pub VisitsAreFew : Script → Type 0
VisitsAreFew s = (k : ℕ) → length (visited s k) ≤ most_blocks

abbrev pub RoundsAreFew : Script → Type 0
RoundsAreFew s = (k : ℕ) → length (round s k) ≤ most_blocks

abbrev pub TextsVisitFew : Type 0
TextsVisitFew = (text : List ℕ) (s : Script) → Spells text s → VisitsAreFew s

abbrev pub TextsRoundFew : Type 0
TextsRoundFew = (text : List ℕ) (s : Script) → Spells text s → RoundsAreFew s

-- ---- transactions

abbrev pub PricesAreAtLeast : Type 0
PricesAreAtLeast = (q : Qh) → least_price ≤ (planned q).price.0

pub record IsPaid (t : Transaction) (left : ℕ) : Type 0 where
  pub dear : least_price ≤ t.price.0
  pub enough : t.price.0 ≤ left

abbrev pub IsPaidWhereMade : Type 0
IsPaidWhereMade = (p : WalkPlace) (t : Transaction) → event_row p ≡ rows.Transact t → IsPaid t p.walk.left

abbrev pub MadeInTurn : List ℕ → ℕ → Type 0
MadeInTurn [] left = Unit {0}
MadeInTurn (price ∷ prices) left = (least_price ≤ price) × ((price ≤ left) × MadeInTurn prices (left - price))

abbrev pub AreMadeFew : Type 0
AreMadeFew = (prices : List ℕ) (left : ℕ) → MadeInTurn prices left → length prices ≤ left / least_price
