-- The ring of queue heads as its words tell it (EHCI 1.0, 4.8, 4.8.1 and 4.8.2), also between the stores of an open: the head leads to the
-- newest endpoint in the ring, each endpoint to the one before it, and the oldest to the head; one that has left leads to the head, to one
-- in the ring, or to one that left later.
--     AreLinked word b xs     the endpoints xs, the oldest first, each lead to the one before, the first to block b; the head leads to the
--                             last of them
--     IsTarget xs later b     block b is the head, a queue head in the ring, or one of those that left later
--     AreLeaving word xs es   the endpoints es, in the order in which they left, each lead to a target
--     IsRing word d           the links stand for the driver's content
use Rattle.std.specs.List.{AllByRecursion}
use Rattle.std.specs.Prelude.{◌≡◌, ℕ, ◌+◌, suc, ◌*◌, ◌≤◌, ◌⊎◌, Bool, true, false, List, [], ◌++◌, ◌∷◌, take, drop, slice_get}
use Rattle.std.specs.Prelude.{Option, Some, if◌then◌else◌, None}
use Rattle.drv_periodic_table.specs.Periodic.{is_periodic}
use Rattle.drv_table.specs.declared.content.Command.{Command}
use Rattle.drv_table.specs.declared.content.Command.TheVariants as unfinished
use Rattle.drv_table.specs.declared.content.Endpoint.{Endpoint}
use Rattle.drv_table.specs.declared.content.Mend.{Mend}
use Rattle.drv_table.specs.declared.content.Transfer.{Transfer}
use Rattle.drv_table.specs.DriverContent.{DriverContent}
use Rattle.drv_table.specs.Accepting.{newest_of, oldest_of}
use Rattle.drv_table.specs.Words.{head_block, queue_head_link}
use Rattle.claims_driver.specs.Owners.{is_descriptor}
use Rattle.claims_driver.specs.Ring.{IsQueueOf, IsAmong}

abbrev pub step_to : ℕ → Endpoint → ℕ
step_to b x = if x.linked then x.queue else b

abbrev pub LeadsFrom : (ℕ → ℕ) → Bool → ℕ → ℕ → Type 0
LeadsFrom word true q b = word q ≡ queue_head_link b
LeadsFrom word false q b = Unit {0}

abbrev pub AreLinked : (ℕ → ℕ) → ℕ → List Endpoint → Type 0
AreLinked word b [] = word head_block ≡ queue_head_link b
AreLinked word b (x ∷ xs) = LeadsFrom word x.linked x.queue b × AreLinked word (step_to b x) xs

-- ---- those that left

pub data IsTarget (xs : List Endpoint) (es : List ℕ) (b : ℕ) : Type 0 where
  to_head : b ≡ head_block → IsTarget xs es b
  to_member : (e : ℕ) (at : IsQueueOf xs e b) → at.endpoint.linked ≡ true → IsTarget xs es b
  to_later : (e : ℕ) → IsQueueOf xs e b → IsAmong e es → IsTarget xs es b

-- endpoint e has left, before the endpoints es
pub record Leaves (word : ℕ → ℕ) (xs : List Endpoint) (es : List ℕ) (e : ℕ) : Type 0 where
  pub endpoint : Endpoint
  pub here : slice_get xs e ≡ Some endpoint
  pub to : ℕ
  pub link : word endpoint.queue ≡ queue_head_link to
  pub target : IsTarget xs es to

abbrev pub AreLeaving : (ℕ → ℕ) → List Endpoint → List ℕ → Type 0
AreLeaving word xs [] = Unit {0}
AreLeaving word xs (e ∷ es) = Leaves word xs es e × AreLeaving word xs es

-- ---- the unfinished command

-- an open whose queue head isn't stored in the head's link yet: the ring is that of the older endpoints, and the new one leads to the
-- newest of them
pub record IsOpening (word : ℕ → ℕ) (xs : List Endpoint) (queue : ℕ) : Type 0 where
  pub older : List Endpoint
  pub new : Endpoint
  pub all : xs ≡ older ++ new ∷ []
  pub linked : new.linked ≡ true
  pub here : new.queue ≡ queue
  pub ring : AreLinked word head_block older
  pub link : word queue ≡ queue_head_link (newest_of older)

-- a cancel: the endpoint is in the ring, and this store passes it over
pub record IsUnlinking (word : ℕ → ℕ) (xs : List Endpoint) (e b link : ℕ) : Type 0 where
  pub ring : AreLinked word head_block xs
  pub endpoint : Endpoint
  pub here : slice_get xs e ≡ Some endpoint
  pub linked : endpoint.linked ≡ true
  pub cancelled : endpoint.cancelled ≡ true
  pub from : b ≡ oldest_of (drop (suc e) xs)
  pub over : link ≡ queue_head_link (newest_of (take e xs))

-- the qTD that is stored is the first of a transfer
pub record IsPublishing (word : ℕ → ℕ) (xs : List Endpoint) (ts : List Transfer) (b : ℕ) : Type 0 where
  pub ring : AreLinked word head_block xs
  pub number : ℕ
  pub transfer : Transfer
  pub there : slice_get ts number ≡ Some transfer
  pub first : transfer.first ≡ b
  pub released : transfer.released ≡ false
  pub some : 1 ≤ transfer.qtds

-- new descriptors are the last transfers, and none was given back
pub record IsDescribing (word : ℕ → ℕ) (xs : List Endpoint) (ts : List Transfer) (t count : ℕ) : Type 0 where
  pub ring : AreLinked word head_block xs
  pub described :
      (i : ℕ) (y : Transfer) → slice_get (take count (drop t ts)) i ≡ Some y → (is_descriptor y.sort ≡ true) × (y.released ≡ false)

abbrev pub StandsFor : (ℕ → ℕ) → List Endpoint → List Transfer → Option Command → Type 0
StandsFor word xs ts None = AreLinked word head_block xs
StandsFor word xs ts (Some (unfinished.Open queue)) = IsOpening word xs queue
StandsFor word xs ts (Some (unfinished.Publish b words)) = IsPublishing word xs ts b
StandsFor word xs ts (Some (unfinished.Unlink e b link)) = IsUnlinking word xs e b link
StandsFor word xs ts (Some unfinished.Chain) = AreLinked word head_block xs
StandsFor word xs ts (Some (unfinished.Iso e t count)) = IsDescribing word xs ts t count
StandsFor word xs ts (Some (unfinished.Unchain e)) = AreLinked word head_block xs

-- ---- the whole

-- a store that a stalled endpoint is owed is one to words 4 to 6 of a queue head
abbrev pub IsMending : Mend → Type 0
IsMending w = (w.at ≡ 32 * w.queue + 16) ⊎ ((w.at ≡ 32 * w.queue + 20) ⊎ (w.at ≡ 32 * w.queue + 24))

pub record IsRing (word : ℕ → ℕ) (d : DriverContent) : Type 0 where
  pub ring : StandsFor word d.endpoints d.transfers d.command
  pub leaving : AreLeaving word d.endpoints (d.rung ++ d.waiting)
  pub mends : AllByRecursion IsMending d.mends
  -- a bulk or control endpoint that wasn't cancelled is in the ring
  pub kept :
      (e : ℕ) (x : Endpoint) → slice_get d.endpoints e ≡ Some x → is_periodic x.desc.kind ≡ false → x.cancelled ≡ false
      → x.linked ≡ true
