-- Laws of the stores that are owed, at each moment of a driver beside the controller's walk (EHCI 1.0, 3.6.3, 4.8 and 4.10; USB 2.0, 8.5.3.4).
--     NewDriverOwesNone     a driver that was just built owes none
--     WalkKeepsMends        an event of the controller: it leaves all structures of a queue head that is halted
--     HaltedWordsStay       .. and its words in memory
--     KeepsHalted parts now out later n
--                           where the queue head at n is halted it stays so, whatever its link, and what is out of it is as it was or is published
--     StoreKeepsHalted, LinkKeepsHalted, LendKeepsHalted, ReleaseKeepsHalted
--                           the rows of a driver leave it so: a store of a qTD or of a link, a lend, structures that are given back
--     CommandsKeepMends     an accepted command: a request that is accepted meanwhile begins where the queue goes on
--     is_beside row, RowsKeepMends
--                           a row that is no such store and no harvest
use Rattle.std.specs.Prelude.{◌≡◌, ◌≢◌, ℕ, ◌+◌, ◌*◌, ◌<◌, Bool, true, false, List, Some, Ok}
use Rattle.usb_base.specs.declared.commands.Cmd.{Cmd}
use Rattle.usb_base.specs.declared.packets.Ask.{Ask}
use Rattle.usb_base.specs.declared.packets.Reply.{Reply}
use Rattle.word_mem.specs.Memory.{Mem, word_at}
use Rattle.link_words.specs.declared.fields.LinkBits.{LinkBits}
use Rattle.qh_qtd.specs.declared.qtd.Qtd.{Qtd}
use Rattle.qh_qtd.specs.declared.queue_head.Qh.{Qh}
use Rattle.async_walk.specs.declared.state.WalkStep.{WalkStep}
use Rattle.async_walk.specs.Rows.{WalkPlace}
use Rattle.drv_table.specs.declared.content.Reserve.{Reserve}
use Rattle.drv_table.specs.declared.rows.DriverRow.{DriverRow}
use Rattle.drv_table.specs.declared.rows.DriverRow.TheVariants as rows
use Rattle.drv_table.specs.DriverContent.{DriverContent}
use Rattle.drv_table.specs.Accepting.{Offered}
use Rattle.drv_table.specs.Offers.{offered}
use Rattle.drv_table.specs.Opening.{opening}
use Rattle.drv_table.specs.Parts.{Parts as DriverParts}
use Rattle.drv_table.specs.Rows.{driver_row, after_driver_row}
use Rattle.law_structures.specs.lent_structures.Structures.{Structure, QueueHead, Element, StructureSets, put}
use Rattle.law_ring.specs.Hand.{Hand}
use Rattle.claims_base.specs.Controller.{Base}
use Rattle.law_ring.specs.Ring.{IsInHand, IsRing}
use Rattle.law_ring.specs.Effects.{Effect, Happens}
use Rattle.law_ring.specs.Fewer.{without_those}
use Rattle.law_ring.specs.Front.{SameRest}
use Rattle.law_ring.specs.Halted.{IsKeptOrPublished, IsOutBeside}
use Rattle.law_ring.specs.Order.{IsAmong}
use Rattle.law_ring.specs.Streams.{AreMembers}
use Rattle.law_queues.specs.mended_heads.Owed.{StalledQueue, IsOwed}
use Rattle.law_queues.specs.mended_heads.Waiting.{MendsStand}

abbrev pub NewDriverOwesNone : Type 0
NewDriverOwesNone = (n : ℕ) (room : Reserve) (parts : StructureSets) (out : ℕ → List ℕ) → MendsStand (opening n room).driver parts out

-- ---- the controller

abbrev pub WalkKeepsMends : {W : Type 0} → (W → Ask → List ℕ → Reply → W → Type 0) → Type 0
WalkKeepsMends {W} transacts = (member : ℕ → Bool) (parts : StructureSets) (hand : Hand) (reply : Reply) (wire after : W) (now : StructureSets) (later : Hand) (kind : WalkStep)
    (d : DriverContent) (out : ℕ → List ℕ) → AreMembers member parts → IsInHand member parts reply hand → Effect transacts parts hand wire after now later kind
    → MendsStand d parts out → MendsStand d now out

abbrev pub HaltedWordsStay : {W : Type 0} → (W → Ask → List ℕ → Reply → W → Type 0) → Type 0
HaltedWordsStay {W} transacts = (base : Base) (member : ℕ → Bool) (parts : StructureSets) (hand : Hand) (p new : WalkPlace) (wire after : W) (kind : WalkStep) (n : ℕ) (q : Qh) (i : ℕ)
    → IsRing base member parts hand p → Happens transacts base member parts hand wire after new kind → parts n n ≡ Some (QueueHead q) → q.token.halted ≡ true → i < 12
    → word_at new.memory (n + 4 * i) ≡ word_at p.memory (n + 4 * i)

-- ---- what a row of the driver leaves of a halted queue

pub record HasRest (now : StructureSets) (n : ℕ) (q : Qh) : Type 0 where
  pub queue : Qh
  pub here : now n n ≡ Some (QueueHead queue)
  pub rest : SameRest q queue

pub record KeepsHalted (parts now : StructureSets) (out later : ℕ → List ℕ) (n : ℕ) : Type 0 where
  pub head : (q : Qh) → parts n n ≡ Some (QueueHead q) → q.token.halted ≡ true → HasRest now n q
  pub published : (a : ℕ) (t : Qtd) → IsAmong a (later n) → now n a ≡ Some (Element t) → IsKeptOrPublished (out n) (parts n) a t

-- the qTD `new` is stored at e, of the queue head at k
abbrev pub StoreKeepsHalted : Type 0
StoreKeepsHalted = (parts : StructureSets) (out later : ℕ → List ℕ) (n k e : ℕ) (old new : Qtd) → parts k e ≡ Some (Element old)
    → (n ≡ k → (a : ℕ) → IsAmong a (later n) → IsOutBeside (out n) e new a) → (n ≢ k → (a : ℕ) → IsAmong a (later n) → IsAmong a (out n))
    → KeepsHalted parts (put parts k e (Element new)) out later n

abbrev pub LinkKeepsHalted : Type 0
LinkKeepsHalted = (parts : StructureSets) (out : ℕ → List ℕ) (n k : ℕ) (q : Qh) (l : LinkBits) → parts k k ≡ Some (QueueHead q)
    → KeepsHalted parts (put parts k k (QueueHead (record q { link = l }))) out out n

abbrev pub LendKeepsHalted : Type 0
LendKeepsHalted = (parts now : StructureSets) (out later : ℕ → List ℕ) (n : ℕ) → ((a : ℕ) (s : Structure) → parts n a ≡ Some s → now n a ≡ Some s)
    → ((a : ℕ) (t : Qtd) → IsAmong a (later n) → now n a ≡ Some (Element t) → IsKeptOrPublished (out n) (parts n) a t) → KeepsHalted parts now out later n

-- structures of the queue head at k are given back, but not itself
abbrev pub ReleaseKeepsHalted : Type 0
ReleaseKeepsHalted = (parts : StructureSets) (out later : ℕ → List ℕ) (n k : ℕ) (goes : ℕ → Bool) → (n ≡ k → goes n ≡ false) → ((a : ℕ) → IsAmong a (later n) → IsAmong a (out n))
    → KeepsHalted parts (without_those parts k goes) out later n

-- ---- commands, and rows that are none of these stores and no harvest

abbrev pub CommandsKeepMends : Type 0
CommandsKeepMends = (d : DriverContent) (m : Mem) (cmd : Cmd) (o : Offered) (parts : StructureSets) (out : ℕ → List ℕ) → offered d m cmd ≡ Ok o → MendsStand d parts out
    → MendsStand o.driver parts out

abbrev pub is_beside : DriverRow → Bool
is_beside (rows.Mend w) = false
is_beside (rows.Harvest e t found) = false
is_beside _ = true

abbrev pub RowsKeepMends : Type 0
RowsKeepMends = (p : DriverParts) (parts now : StructureSets) (out later : ℕ → List ℕ) → is_beside (driver_row p) ≡ true
    → ((s : StalledQueue) → IsOwed p.driver s → KeepsHalted parts now out later (32 * s.queue)) → MendsStand p.driver parts out
    → MendsStand (after_driver_row (driver_row p) p).driver now later
