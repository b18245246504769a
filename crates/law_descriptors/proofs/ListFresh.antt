-- A descriptor that waits in its frame wasn't unlinked in this microframe.
use Rattle.std.proofs.Common.{◌≡◌, ℕ, ◌*◌, ◌≤◌, Bool, true, false, not, ◌&&◌, if◌then◌else◌, Option, Some, None, ⊎_elim, ap, refl, sym, subst, ◌∙◌, arith}
use Rattle.std.specs.Prelude.{◌||◌, ◌==◌, slice_get, option_map}
use Rattle.std.proofs.lemmas.Bool.{false≢true, true≢false, eqb-true, and_parts}
use Rattle.std.proofs.lemmas.Option.{same_Some}
use Rattle.law_frame_list.proofs.Common.{same_number as same_transfer, no_descriptor}
use Rattle.law_common.proofs.Numbers.{same_blocks}
use Rattle.law_common.proofs.Booleans.{owed_by}
use Rattle.drv_periodic_table.specs.declared.content.Removal.{Removal}
use Rattle.drv_periodic_table.specs.declared.content.Removed.{Removed}
use Rattle.drv_periodic_table.specs.Periodic.{is_periodic}
use Rattle.drv_table.specs.declared.content.Endpoint.{Endpoint}
use Rattle.drv_table.specs.declared.content.Transfer.{Transfer}
use Rattle.drv_table.specs.declared.content.Command.TheVariants as unfinished
use Rattle.drv_table.specs.DriverContent.{DriverContent, waits_for}
use Rattle.claims_driver.specs.Owners.{Described, is_descriptor, runs_of_transfer, runs_of_endpoint, views_of}
use Rattle.claims_driver.specs.Leaving.{times, transfers_in, endpoints_in, owes, leaves_frames, HasOwners}
use Rattle.law_frames.specs.Met.{Kind}
use Rattle.law_descriptors.specs.Removed.{IsRemovedAt, a_descriptor, a_queue, a_waiting, IsRemovedSince, IsUnchainedNow}
use Rattle.law_descriptors.specs.Recent.{AreRecent}
use Rattle.law_descriptors.specs.ListRows.{WaitingIsFresh}
use Rattle.law_descriptors.proofs.Returning.{frames_owed, transfer_counts, endpoint_counts}

chained_owes : (c g p : Bool) → c ≡ true → ◌≡◌ {A = ℕ} (if c || g || not p then 0 else 1) 0
chained_owes true g p is = refl
chained_owes false g p is = absurd (true≢false (sym is))

module _ (d : DriverContent) (recent : ℕ → Option Kind) (index t : ℕ) (y : Transfer) (x : Endpoint) (has : HasOwners d) (here : slice_get d.transfers t ≡ Some y) (sort : is_descriptor y.sort ≡ true) (untold : y.reported ≡ false) (held : y.released ≡ false) (its : slice_get d.endpoints y.endpoint ≡ Some x) (chained : x.chained ≡ true) (idle : (e : ℕ) → d.command ≡ Some (unfinished.Unchain e) → ⊥) where
  -- the transfer of a descriptor, and who owns its block
  record IsOwnedTransfer (u : ℕ) (z : Transfer) : Type 0 where
    split : Bool
    owned : has.owner z.first ≡ Described split u

  owned_transfer : (u : ℕ) (z : Transfer) → slice_get d.transfers u ≡ Some z → is_descriptor z.sort ≡ true → z.released ≡ false → IsOwnedTransfer u z
  owned_transfer u z there sort held =
      let o = has.owned.each.described u (runs_of_transfer z) (ap (option_map runs_of_transfer) there) sort held in
      record { split = ((views_of d).descriptor z.first).split; owned = o.descriptor.owned }

  record IsOwedTransfer (u : ℕ) (z : Transfer) : Type 0 where
    told : z.reported ≡ true
    owned : IsOwnedTransfer u z

  owed_transfer : (u : ℕ) (z : Transfer) → slice_get d.transfers u ≡ Some z → 1 ≤ times u (transfers_in d.periodic.removals) → IsOwedTransfer u z
  owed_transfer u z there counts =
      let most = has.orderly.harvests u in
      let owes_it : owes (slice_get d.transfers u) ≡ (if z.reported && not z.released then 1 else 0) = ap owes there in
      let owed = owed_by z.reported z.released (omega (arith, counts, most, owes_it)) in
      record { told = owed.0; owned = owned_transfer u z there (has.orderly.unlinked u z (omega (arith, counts)) there) owed.1 }

  mine : IsOwnedTransfer t y
  mine = owned_transfer t y here sort held

  same_number : (u : ℕ) (z : Transfer) → IsOwnedTransfer u z → 32 * y.first ≡ 32 * z.first → u ≡ t
  same_number u z o is = same_transfer o.split mine.split u t (sym o.owned ∙ ap has.owner (sym (same_blocks y.first z.first is)) ∙ mine.owned)

  same_one : (u : ℕ) (z : Transfer) → slice_get d.transfers u ≡ Some z → u ≡ t → z ≡ y
  same_one u z there is = same_Some z y (sym there ∙ ap (slice_get d.transfers) is ∙ here)

  held_waiting : (e u : ℕ) (x : Endpoint) (z : Transfer) → slice_get d.endpoints e ≡ Some x → x.gone ≡ false → slice_get d.transfers u ≡ Some z → z.endpoint ≡ e → z.reported ≡ false → (b : Bool) → z.released ≡ b → z.released ≡ false
  held_waiting e u x z there stays at of off false is = is
  held_waiting e u x z there stays at of off true is =
      absurd (true≢false (sym (has.orderly.untold u z at is off x (ap (slice_get d.endpoints) of ∙ there)) ∙ stays))

  gone_not : (e : ℕ) (x : Endpoint) → slice_get d.endpoints e ≡ Some x → 1 ≤ times e (endpoints_in d.periodic.removals) → x.gone ≡ false
  gone_not e x there counts =
      let most = has.orderly.removed e in
      let owes_it : leaves_frames (slice_get d.endpoints e) ≡ (if x.chained || x.gone || not (is_periodic x.desc.kind) then 0 else 1) = ap leaves_frames there in
      frames_owed x.chained x.gone (is_periodic x.desc.kind) (omega (arith, counts, most, owes_it))

  not_told : (e : ℕ) (z : Transfer) → waits_for e z ≡ true → (z.endpoint ≡ e) × (z.reported ≡ false)
  not_told e z is = let a = and_parts (z.endpoint == e) (not z.reported) is in (eqb-true z.endpoint e a.0, turned z.reported a.1)
    where
      turned : (b : Bool) → not b ≡ true → b ≡ false
      turned true is = absurd (false≢true is)
      turned false is = refl

  -- its endpoint has left no frame
  stays_in : 1 ≤ times y.endpoint (endpoints_in d.periodic.removals) → ⊥
  stays_in counts =
      let most = has.orderly.removed y.endpoint in
      let owes_it : leaves_frames (slice_get d.endpoints y.endpoint) ≡ (if x.chained || x.gone || not (is_periodic x.desc.kind) then 0 else 1) = ap leaves_frames its in
      let none : ◌≡◌ {A = ℕ} (if x.chained || x.gone || not (is_periodic x.desc.kind) then 0 else 1) 0 = chained_owes x.chained x.gone (is_periodic x.desc.kind) chained in
      omega (arith, counts, most, owes_it, none)

  removed_by : (k : ℕ) (r : Removal) (w : Removed) → slice_get d.periodic.removals k ≡ Some r → r.what ≡ w → IsRemovedAt d.endpoints d.transfers (32 * y.first) w → ⊥
  removed_by k r _ there what (a_descriptor u z at n) =
      let owed = owed_transfer u z at (transfer_counts u d.periodic.removals k r there what) in
      let same : u ≡ t = same_number u z owed.owned n in
      true≢false (sym owed.told ∙ ap (λ (v : Transfer). v.reported) (same_one u z at same) ∙ untold)
  removed_by k r _ there what (a_queue e z at queued n) =
      let stays : z.gone ≡ false = gone_not e z at (endpoint_counts e d.periodic.removals k r there what) in
      let o = has.owned.each.queue e (runs_of_endpoint z) (ap (option_map runs_of_endpoint) at) (ap (λ (b : Bool). b || z.gone) queued ∙ stays) in
      no_descriptor e t mine.split (sym o.owned ∙ ap has.owner (sym (same_blocks y.first z.queue n)) ∙ mine.owned)
  removed_by k r _ there what (a_waiting e u w z at iso in_list sorted waits n) =
      let counts = endpoint_counts e d.periodic.removals k r there what in
      let off = not_told e z waits in
      let kept : z.released ≡ false = held_waiting e u w z at (gone_not e w at counts) in_list off.0 off.1 z.released refl in
      let same : u ≡ t = same_number u z (owned_transfer u z in_list sorted kept) n in
      let mine_too : y.endpoint ≡ e = ap (λ (v : Transfer). v.endpoint) (sym (same_one u z in_list same)) ∙ off.0 in
      stays_in (subst (λ (i : ℕ). 1 ≤ times i (endpoints_in d.periodic.removals)) (sym mine_too) counts)

  fresh_by : AreRecent d index recent → (o : Option Kind) → recent (32 * y.first) ≡ o → o ≡ None
  fresh_by are None is = refl
  fresh_by are (Some kind) is =
      absurd (⊎_elim (λ (since : IsRemovedSince d.endpoints d.transfers d.periodic.removals index (32 * y.first)). removed_by since.place since.removal since.removal.what since.here refl since.what)
      (λ (now : IsUnchainedNow d.endpoints d.transfers d.command (32 * y.first)). idle now.endpoint now.command) (are (32 * y.first) kind is))

pub waiting_is_fresh : WaitingIsFresh
waiting_is_fresh d recent index t y x has are here sort untold held its chained idle = fresh_by d recent index t y x has here sort untold held its chained idle are (recent (32 * y.first)) refl
