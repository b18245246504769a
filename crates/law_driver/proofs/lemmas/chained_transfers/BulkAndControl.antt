-- Bulk and control endpoints of the asynchronous schedule; bulk ones alone.
use Rattle.std.proofs.Common.{◌≡◌, ℕ, false, [], slice_get, Some, ap, ⊎_elim}
use Rattle.law_driver.proofs.Common.{two_kinds}
use Rattle.usb_base.specs.declared.endpoints.EpDesc.{EpDesc}
use Rattle.usb_base.specs.declared.packets.EpKind.{EpKind}
use Rattle.usb_base.specs.declared.packets.EpKind.TheVariants as kinds
use Rattle.usb_base.specs.declared.packets.Way.{Way}
use Rattle.usb_base.specs.declared.packets.Way.TheVariants as ways
use Rattle.drv_periodic_table.specs.Periodic.{is_periodic}
use Rattle.drv_table.specs.declared.content.Endpoint.{Endpoint}
use Rattle.drv_table.specs.DriverContent.{DriverContent}
use Rattle.drv_table.specs.Kinds.{is_iso}
use Rattle.law_driver.specs.chained_transfers.Bulk.{IsDataWay, IsBulk, IsStanding, OnlyBulk}
use Rattle.law_driver.specs.chained_transfers.InTurn.{TakesTurns}
use Rattle.law_driver.specs.AsynchronousScripts.{IsKindOf, IsAsynchronous}
use Rattle.law_driver.specs.chained_transfers.Asynchronous.{StandsAsynchronous, OnlyAsynchronous}
use Rattle.law_driver.specs.chained_transfers.AsynchronousTurns.{AsynchronousTakesTurns}

-- ---- an endpoint

pub not_iso : (x : EpDesc) → IsAsynchronous x → is_iso x.kind ≡ false
not_iso x s = ⊎_elim (λ (b : x.kind ≡ kinds.Bulk). ap is_iso b) (λ (c : x.kind ≡ kinds.Control). ap is_iso c) (two_kinds x.name.way x.kind s.kind)

pub not_periodic : (x : EpDesc) → IsAsynchronous x → is_periodic x.kind ≡ false
not_periodic x s = ⊎_elim (λ (b : x.kind ≡ kinds.Bulk). ap is_periodic b) (λ (c : x.kind ≡ kinds.Control). ap is_periodic c) (two_kinds x.name.way x.kind s.kind)

kind_of_data : (way : Way) (k : EpKind) → IsDataWay way → k ≡ kinds.Bulk → IsKindOf way k
kind_of_data ways.Ctl k one is = absurd one
kind_of_data _ k one is = is

pub bulk_asynchronous : (x : EpDesc) → IsBulk x → IsAsynchronous x
bulk_asynchronous x s = record { kind = kind_of_data x.name.way x.kind s.way s.kind; speed = s.speed }

pub standing : (x : Endpoint) → IsStanding x → StandsAsynchronous x
standing x s = record {
  asynchronous = bulk_asynchronous x.desc s.bulk;
  placement = s.placement;
  chained = s.chained;
  unlinked = s.unlinked;
  ended = s.ended;
  cancel = s.cancel;
  gone = s.gone;
}

-- ---- a driver

pub only_asynchronous : (d : DriverContent) → OnlyBulk d → OnlyAsynchronous d
only_asynchronous d r = record {
  endpoints = λ e x here. standing x (r.endpoints e x here);
  moves = r.moves;
  command = r.command;
  leaver = r.leaver;
  unlinks = r.unlinks;
  removals = r.removals;
}

pub bulk_is_asynchronous : (d : DriverContent) → TakesTurns d → AsynchronousTakesTurns d
bulk_is_asynchronous d old = record { asynchronous = only_asynchronous d old.bulk; chained = old.chained; turns = old.turns }

abbrev pub EachBulk : DriverContent → Type 0
EachBulk d = (e : ℕ) (x : Endpoint) → slice_get d.endpoints e ≡ Some x → IsBulk x.desc

-- .. and back, where all endpoints are bulk ones, and none is owed a store
pub only_bulk : (d : DriverContent) → EachBulk d → d.mends ≡ [] → OnlyAsynchronous d → OnlyBulk d
only_bulk d each none r = record {
  endpoints = λ e x here.
      let s = r.endpoints e x here in
      record { bulk = each e x here; placement = s.placement; chained = s.chained; unlinked = s.unlinked; ended = s.ended; cancel = s.cancel; gone = s.gone };
  moves = r.moves;
  command = r.command;
  leaver = r.leaver;
  mends = none;
  unlinks = r.unlinks;
  removals = r.removals;
}

pub takes_bulk_turns : (d : DriverContent) → EachBulk d → d.mends ≡ [] → AsynchronousTakesTurns d → TakesTurns d
takes_bulk_turns d each none old = record { bulk = only_bulk d each none old.asynchronous; chained = old.chained; turns = old.turns }
