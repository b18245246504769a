-- What is to be given back (EHCI 1.0, 4.6 and 4.8.2): each transfer and each endpoint once, and none that was given back before.
--     times n ns                         how often n stands in the list
--     transfers_in rs, endpoints_in rs   the transfers, and the endpoints, of what was unlinked from the frame list
--     owes y                             a transfer that was reported and not given back is owed one release
--     leaves_ring x                      an endpoint that left the ring and wasn't given back is owed one release
--     leaves_frames x                    .. and so is a periodic one that left its frames
--     IsOrderly d                        each release is owed, and none stands in the driver's lists more than once
--     HasOwners d                        each of its runs has one owner, and each release is owed once
use Rattle.std.specs.Prelude.{◌≡◌, ℕ, ◌+◌, ◌<◌, ◌≤◌, ◌==◌, true, ◌&&◌, not, false, ◌||◌, List, [], ◌∷◌, length, slice_get, Option, is_some, Some, if◌then◌else◌, None}
use Rattle.drv_periodic_table.specs.declared.content.Removal.{Removal}
use Rattle.drv_periodic_table.specs.declared.content.Removed.{Removed}
use Rattle.drv_periodic_table.specs.declared.content.Removed.TheVariants as removed
use Rattle.drv_periodic_table.specs.Periodic.{is_periodic}
use Rattle.drv_table.specs.declared.content.Command.{Command}
use Rattle.drv_table.specs.declared.content.Command.TheVariants as unfinished
use Rattle.drv_table.specs.declared.content.Endpoint.{Endpoint}
use Rattle.drv_table.specs.declared.content.Transfer.{Transfer}
use Rattle.drv_table.specs.DriverContent.{DriverContent}
use Rattle.drv_table.specs.Kinds.{is_iso}
use Rattle.claims_driver.specs.Owners.{IsOwned, Owner, is_descriptor}

abbrev pub times : ℕ → List ℕ → ℕ
times n [] = 0
times n (k ∷ ks) = (if k == n then 1 else 0) + times n ks

-- ---- what was unlinked from the frame list

abbrev pub transfer_before : Removed → List ℕ → List ℕ
transfer_before (removed.Descriptor t) ns = t ∷ ns
transfer_before (removed.Endpoint e) ns = ns

abbrev pub endpoint_before : Removed → List ℕ → List ℕ
endpoint_before (removed.Descriptor t) ns = ns
endpoint_before (removed.Endpoint e) ns = e ∷ ns

abbrev pub transfers_in : List Removal → List ℕ
transfers_in [] = []
transfers_in (r ∷ rs) = transfer_before r.what (transfers_in rs)

abbrev pub endpoints_in : List Removal → List ℕ
endpoints_in [] = []
endpoints_in (r ∷ rs) = endpoint_before r.what (endpoints_in rs)

-- ---- what is owed

abbrev pub owes : Option Transfer → ℕ
owes None = 0
owes (Some y) = if y.reported && not y.released then 1 else 0

abbrev pub leaves_ring : Option Endpoint → ℕ
leaves_ring None = 0
leaves_ring (Some x) = if x.linked || x.gone || is_periodic x.desc.kind then 0 else 1

abbrev pub leaves_frames : Option Endpoint → ℕ
leaves_frames None = 0
leaves_frames (Some x) = if x.chained || x.gone || not (is_periodic x.desc.kind) then 0 else 1

-- An endpoint out of ring and frames has ended, and one that was given back is out of them. A periodic one, which has a placement, is never in
-- the ring, and no other one is in the frames.
pub record IsSteady (x : Endpoint) : Type 0 where
  pub ended : x.linked ≡ false → x.chained ≡ false → is_some x.ended ≡ true
  pub gone : x.gone ≡ true → (x.linked ≡ false) × (x.chained ≡ false)
  pub ring : x.linked ≡ true → is_periodic x.desc.kind ≡ false
  pub frames : x.chained ≡ true → is_periodic x.desc.kind ≡ true
  pub placed : is_some x.placement ≡ is_periodic x.desc.kind

-- the endpoint that is to leave the ring or its frames
abbrev pub leaver : Option Command → Option ℕ
leaver None = None
leaver (Some (unfinished.Open queue)) = None
leaver (Some (unfinished.Publish b words)) = None
leaver (Some (unfinished.Unlink e b link)) = Some e
leaver (Some unfinished.Chain) = None
leaver (Some (unfinished.Iso e t count)) = None
leaver (Some (unfinished.Unchain e)) = Some e

-- the lists of what is to be given back
pub record Returns : Type 0 where
  pub harvested : List ℕ
  pub unlinks : List ℕ
  pub waiting : List ℕ
  pub rung : List ℕ
  pub cleared : List ℕ
  pub removals : List Removal

pub record AreOrderly (r : Returns) (transfers : List Transfer) (endpoints : List Endpoint) (leaves : Option ℕ) : Type 0 where
  pub harvests : (t : ℕ) → times t r.harvested + times t r.unlinks + times t (transfers_in r.removals) ≤ owes (slice_get transfers t)
  pub leaving : (e : ℕ) → times e r.waiting + times e r.rung + times e r.cleared ≤ leaves_ring (slice_get endpoints e)
  pub removed : (e : ℕ) → times e (endpoints_in r.removals) ≤ leaves_frames (slice_get endpoints e)
  pub steady : (e : ℕ) (x : Endpoint) → slice_get endpoints e ≡ Some x → IsSteady x
  pub within : (t : ℕ) (y : Transfer) → slice_get transfers t ≡ Some y → y.endpoint < length endpoints
  -- the transfers of an isochronous endpoint, and no others, are descriptors
  pub sorts : (t : ℕ) (y : Transfer) (x : Endpoint) → slice_get transfers t ≡ Some y → slice_get endpoints y.endpoint ≡ Some x → is_descriptor y.sort ≡ is_iso x.desc.kind
  -- and only they are unlinked
  pub unlinked : (t : ℕ) (y : Transfer) → 1 ≤ times t r.unlinks + times t (transfers_in r.removals) → slice_get transfers t ≡ Some y → is_descriptor y.sort ≡ true
  -- a transfer that was given back without a report is one of an endpoint that was given back
  pub untold : (t : ℕ) (y : Transfer) → slice_get transfers t ≡ Some y → y.released ≡ true → y.reported ≡ false → (x : Endpoint) → slice_get endpoints y.endpoint ≡ Some x → x.gone ≡ true
  -- an endpoint that is to leave the ring or its frames has ended
  pub leaver : (e : ℕ) (x : Endpoint) → leaves ≡ Some e → slice_get endpoints e ≡ Some x → is_some x.ended ≡ true

abbrev pub returns_of : DriverContent → Returns
returns_of d = record {
  harvested = d.harvested;
  unlinks = d.periodic.unlinks;
  waiting = d.waiting;
  rung = d.rung;
  cleared = d.cleared;
  removals = d.periodic.removals;
}

abbrev pub IsOrderly : DriverContent → Type 0
IsOrderly d = AreOrderly (returns_of d) d.transfers d.endpoints (leaver d.command)

pub record HasOwners (d : DriverContent) : Type 0 where
  pub owner : ℕ → Owner
  pub owned : IsOwned d owner
  pub orderly : IsOrderly d
