-- The transfers of an endpoint are harvested in their order, and given back in that order (EHCI 1.0, 4.10).
--     IsAtPlace note y      the transfer's place is one of its qTDs, and so many are left from there on
--     Turn, turn_in ts      what tells of transfers how far they are
--     AreTurnsOf stays ..   they are reported and given back in their order, and each endpoint that goes on has its first unreported one next; those of the
--                           endpoints that stay are given back only when they were reported
--     AreTurns ..           .. those of the endpoints that weren't given back
--     AreReturned ..        an endpoint that was given back has no transfer any more
--     AreInTurn d           all this of the driver's content
use Rattle.std.specs.Prelude.{◌≡◌, ℕ, ◌-◌, ◌<◌, ◌≤◌, ◌⊎◌, Bool, true, false, List, slice_get, Option, Some, None, option_map}
use Rattle.drv_table.specs.declared.content.Endpoint.{Endpoint}
use Rattle.drv_table.specs.declared.content.Transfer.{Transfer}
use Rattle.drv_table.specs.DriverContent.{DriverContent}
use Rattle.drv_table.specs.Releases.{ended_by_cancel}
use Rattle.law_driver.specs.endpoint_lives.Lives.{told_end}
use Rattle.claims_driver.specs.Owners.{NoteRuns, note_in}
use Rattle.law_driver.specs.chained_transfers.Chains.{piece_at}

pub record IsAtPlace (note : ℕ → NoteRuns) (y : Transfer) : Type 0 where
  pub some : 1 ≤ y.left
  pub most : y.left ≤ y.qtds
  pub place : y.place ≡ piece_at note y.first (y.qtds - y.left)

abbrev pub AreAtPlaces : (ℕ → NoteRuns) → List Transfer → Type 0
AreAtPlaces note ts = (t : ℕ) (y : Transfer) → slice_get ts t ≡ Some y → y.released ≡ false → IsAtPlace note y

-- ---- whose turn it is

pub record Turn : Type 0 where
  pub endpoint : ℕ
  pub reported : Bool
  pub released : Bool

abbrev pub turn_of : Transfer → Turn
turn_of y = record { endpoint = y.endpoint; reported = y.reported; released = y.released }

abbrev pub turn_in : List Transfer → ℕ → Option Turn
turn_in ts t = option_map turn_of (slice_get ts t)

-- transfer t stands before number i of the list
pub record StandsBefore (ts : List ℕ) (i t : ℕ) : Type 0 where
  pub at : ℕ
  pub earlier : at < i
  pub here : slice_get ts at ≡ Some t

pub record IsInList (ts : List ℕ) (t : ℕ) : Type 0 where
  pub at : ℕ
  pub here : slice_get ts at ≡ Some t

-- where the endpoint's transfer t is next, the earlier ones are reported, and it isn't
pub record IsNext (turn : ℕ → Option Turn) (e t : ℕ) : Type 0 where
  pub transfer : Turn
  pub here : turn t ≡ Some transfer
  pub endpoint : transfer.endpoint ≡ e
  pub waits : transfer.reported ≡ false
  pub before : (u : ℕ) (z : Turn) → u < t → turn u ≡ Some z → z.endpoint ≡ e → z.reported ≡ true

abbrev pub AreReportedTo : (ℕ → Option Turn) → ℕ → Option ℕ → Type 0
AreReportedTo turn e (Some t) = IsNext turn e t
AreReportedTo turn e None = (u : ℕ) (z : Turn) → turn u ≡ Some z → z.endpoint ≡ e → z.reported ≡ true

-- the endpoint wasn't given back
pub record IsNotGone (ends : ℕ → Option Endpoint) (e : ℕ) : Type 0 where
  pub endpoint : Endpoint
  pub here : ends e ≡ Some endpoint
  pub gone : endpoint.gone ≡ false

pub record AreTurnsOf (stays : ℕ → Type 0) (turn : ℕ → Option Turn) (ends : ℕ → Option Endpoint) (harvested : List ℕ) : Type 0 where
  pub reported : (t u : ℕ) (y z : Turn) → t < u → turn t ≡ Some y → turn u ≡ Some z → z.endpoint ≡ y.endpoint → z.reported ≡ true → y.reported ≡ true
  pub released : (t u : ℕ) (y z : Turn) → t < u → turn t ≡ Some y → turn u ≡ Some z → z.endpoint ≡ y.endpoint → z.released ≡ true → y.released ≡ true
  pub told : (t : ℕ) (y : Turn) → turn t ≡ Some y → stays y.endpoint → y.released ≡ true → y.reported ≡ true
  pub next : (e : ℕ) (x : Endpoint) → ends e ≡ Some x → told_end x ≡ None → AreReportedTo turn e x.next
  -- a reported one is given back, or is to be, where its endpoint goes on as far as its report has it
  pub owed : (t : ℕ) (y : Turn) (x : Endpoint) → turn t ≡ Some y → ends y.endpoint ≡ Some x → told_end x ≡ None → y.reported ≡ true → y.released ≡ false → IsInList harvested t
  -- those that are to be given back stand in their order
  pub order : (i t u : ℕ) (y z : Turn) → slice_get harvested i ≡ Some u → t < u → turn t ≡ Some y → turn u ≡ Some z → z.endpoint ≡ y.endpoint
      → (y.released ≡ true) ⊎ StandsBefore harvested i t

abbrev pub AreTurns : (ℕ → Option Turn) → (ℕ → Option Endpoint) → List ℕ → Type 0
AreTurns turn ends harvested = AreTurnsOf (IsNotGone ends) turn ends harvested

-- an endpoint that was given back has no transfer any more; where its cancel was told, they are all reported
pub record IsReturned (x : Endpoint) (y : Turn) : Type 0 where
  pub released : y.released ≡ true
  pub told : ended_by_cancel x.ended ≡ true → y.reported ≡ true

abbrev pub AreReturned : (ℕ → Option Turn) → (ℕ → Option Endpoint) → Type 0
AreReturned turn ends = (t : ℕ) (y : Turn) (x : Endpoint) → turn t ≡ Some y → ends y.endpoint ≡ Some x → x.gone ≡ true → IsReturned x y

pub record AreInTurn (d : DriverContent) : Type 0 where
  pub places : AreAtPlaces (note_in d.notes) d.transfers
  pub turns : AreTurns (turn_in d.transfers) (slice_get d.endpoints) d.harvested
  pub returned : AreReturned (turn_in d.transfers) (slice_get d.endpoints)
