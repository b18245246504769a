-- The stores that stalled control endpoints are owed (EHCI 1.0, 3.6.3 and 4.10.3; USB 2.0, 8.5.3.4). A STALL halts the queue head; the driver then stores words
-- 4, 5 and 6 of it, one at an event, so that its queue goes on. Between these stores come events of the controller, and whole commands.
--     mends_at q b           the three stores of the queue head in block q, whose queue goes on in block b
--     StalledQueue           the block of a queue head, where its queue goes on, and how many of its stores are made
--     left_of s, all_left ss the stores that are still to be made, of one and of all
--     store_due s            the next of them
--     GoesOnAt ts dummy next b
--                            a queue goes on in block b: at its first transfer that isn't harvested, or at the inactive qTD at its end
--     IsOwed d s             a control endpoint of the driver is owed the stores
--     AreApart ss            each is another queue head
use Rattle.std.specs.Prelude.{◌≡◌, ◌≢◌, ℕ, zero, suc, ◌+◌, ◌*◌, ◌<◌, true, false, List, [], ◌∷◌, ◌++◌, drop, slice_get, Option, Some, None}
use Rattle.std.specs.List.{AllByRecursion}
use Rattle.drv_table.specs.declared.content.Endpoint.{Endpoint}
use Rattle.drv_table.specs.declared.content.Transfer.{Transfer}
use Rattle.drv_table.specs.declared.content.Mend.{Mend}
use Rattle.drv_table.specs.DriverContent.{DriverContent}
use Rattle.drv_table.specs.Words.{is_control}
use Rattle.law_driver.specs.endpoint_lives.Lives.{told_end}

-- ---- the stores

-- the link that is followed, no alternate, and a token that is neither active nor halted
abbrev pub mends_at : ℕ → ℕ → List Mend
mends_at q b =
    (record { queue = q; at = 32 * q + 16; value = 32 * b })
    ∷ (record { queue = q; at = 32 * q + 20; value = 1 })
    ∷ (record { queue = q; at = 32 * q + 24; value = 0 })
    ∷ []

pub record StalledQueue : Type 0 where
  pub queue : ℕ
  pub onward : ℕ
  pub made : ℕ

abbrev pub left_of : StalledQueue → List Mend
left_of s = drop s.made (mends_at s.queue s.onward)

abbrev pub all_left : List StalledQueue → List Mend
all_left [] = []
all_left (s ∷ ss) = left_of s ++ all_left ss

abbrev pub store_by : ℕ → ℕ → ℕ → Mend
store_by q b zero = record { queue = q; at = 32 * q + 16; value = 32 * b }
store_by q b (suc zero) = record { queue = q; at = 32 * q + 20; value = 1 }
store_by q b _ = record { queue = q; at = 32 * q + 24; value = 0 }

abbrev pub store_due : StalledQueue → Mend
store_due s = store_by s.queue s.onward s.made

-- ---- whose they are

pub record BeginsAt (ts : List Transfer) (t b : ℕ) : Type 0 where
  pub transfer : Transfer
  pub here : slice_get ts t ≡ Some transfer
  pub first : b ≡ transfer.first

abbrev pub GoesOnAt : List Transfer → ℕ → Option ℕ → ℕ → Type 0
GoesOnAt ts dummy None b = b ≡ dummy
GoesOnAt ts dummy (Some t) b = BeginsAt ts t b

-- it goes on, or was cancelled meanwhile and isn't given back
pub record IsOwed (d : DriverContent) (s : StalledQueue) : Type 0 where
  pub number : ℕ
  pub endpoint : Endpoint
  pub here : slice_get d.endpoints number ≡ Some endpoint
  pub control : is_control endpoint.desc.kind ≡ true
  pub kept : endpoint.gone ≡ false
  pub going : told_end endpoint ≡ None
  pub queue : endpoint.queue ≡ s.queue
  pub onward : GoesOnAt d.transfers endpoint.dummy endpoint.next s.onward
  pub some : s.made < 3

-- ---- all of them

abbrev pub AreApart : List StalledQueue → Type 0
AreApart [] = Unit {0}
AreApart (s ∷ ss) = AllByRecursion (λ r. r.queue ≢ s.queue) ss × AreApart ss
