-- What is recent stays recent through the rows that unlink and give back.
use Rattle.std.proofs.Common.{◌≡◌, ◌≢◌, ℕ, zero, suc, ◌*◌, ◌⊎◌, Bool, true, false, inl, inr, List, [], ◌∷◌, ◌++◌, length, drop, set, Option, Some, if◌then◌else◌, ⊎_elim, ap, refl, sym, subst, ◌∙◌}
use Rattle.std.specs.Prelude.{◌==◌, slice_get, slice_set}
use Rattle.std.proofs.lemmas.Bool.{cases_eq, eqb-true}
use Rattle.std.proofs.lemmas.Option.{same_Some}
use Rattle.law_common.proofs.Lists.{pushed_last, push_there, set_here, set_there}
use Rattle.law_descriptors.proofs.Common.{dropped, let_go}
use Rattle.drv_periodic_table.specs.declared.content.Removal.{Removal}
use Rattle.drv_periodic_table.specs.declared.content.Removed.{Removed}
use Rattle.drv_periodic_table.specs.declared.content.Removed.TheVariants as removed
use Rattle.drv_table.specs.declared.content.Endpoint.{Endpoint}
use Rattle.drv_table.specs.declared.content.Transfer.{Transfer}
use Rattle.drv_table.specs.declared.content.Command.TheVariants as unfinished
use Rattle.drv_table.specs.declared.rows.DriverRow.TheVariants as rows
use Rattle.drv_table.specs.DriverContent.{DriverContent, waits_for}
use Rattle.drv_table.specs.Parts.{Parts}
use Rattle.drv_table.specs.Kinds.{is_iso}
use Rattle.drv_table.specs.Rows.{after_driver_row}
use Rattle.drv_table.specs.Removals.{after_unlink, after_descriptor}
use Rattle.drv_table.specs.Commands.{finished, leave_frames, no_command, removal_of}
use Rattle.law_frames.specs.Met.{Kind}
use Rattle.claims_driver.specs.Unlinked.{IsOpenAt}
use Rattle.law_descriptors.specs.Removed.{IsRemovedAt, a_descriptor, a_queue, a_waiting, IsRemovedSince, IsUnchainedNow}
use Rattle.law_descriptors.specs.Recent.{AreRecent}
use Rattle.law_descriptors.specs.Returned.{IsGivenBack}
use Rattle.law_descriptors.specs.Staying.{also}
use Rattle.law_descriptors.proofs.Returning.{not_open}

-- ---- behind the others

behind_others : (xs : List Endpoint) (ts : List Transfer) (rs : List Removal) (r : Removal) (index n : ℕ) → IsRemovedSince xs ts rs index n → IsRemovedSince xs ts (rs ++ r ∷ []) index n
behind_others xs ts rs r index n s = record { place = s.place; removal = s.removal; here = push_there rs r s.place s.removal s.here; what = s.what; within = s.within }

the_last : (xs : List Endpoint) (ts : List Transfer) (rs : List Removal) (w : Removed) (index n : ℕ) → IsRemovedAt xs ts n w → IsRemovedSince xs ts (rs ++ removal_of w ∷ []) index n
the_last xs ts rs w index n what = record { place = length rs; removal = removal_of w; here = pushed_last rs (removal_of w); what = what; within = tt }

-- ---- a descriptor is unlinked

unlinked_by : (p : Parts) (recent : ℕ → Option Kind) (index t : ℕ) (y : Transfer) (kind : Kind) → slice_get p.driver.transfers t ≡ Some y → AreRecent p.driver index recent
    → (n : ℕ) (other : Kind) (b : Bool) → (n == 32 * y.first) ≡ b → (if b then Some kind else recent n) ≡ Some other
    → IsRemovedSince p.driver.endpoints p.driver.transfers (p.driver.periodic.removals ++ removal_of (removed.Descriptor t) ∷ []) index n ⊎ IsUnchainedNow p.driver.endpoints p.driver.transfers p.driver.command n
unlinked_by p recent index t y kind here are n other true is on =
    inl (the_last p.driver.endpoints p.driver.transfers p.driver.periodic.removals (removed.Descriptor t) index n (a_descriptor t y here (eqb-true n (32 * y.first) is)))
unlinked_by p recent index t y kind here are n other false is on =
    ⊎_elim (λ (since : IsRemovedSince p.driver.endpoints p.driver.transfers p.driver.periodic.removals index n).
    inl (behind_others p.driver.endpoints p.driver.transfers p.driver.periodic.removals (removal_of (removed.Descriptor t)) index n since))
    (λ (now : IsUnchainedNow p.driver.endpoints p.driver.transfers p.driver.command n). inr now) (are n other on)

pub unlink_is_recent : (p : Parts) (recent : ℕ → Option Kind) (index t : ℕ) (y : Transfer) (kind : Kind) → slice_get p.driver.transfers t ≡ Some y → AreRecent p.driver index recent → AreRecent (after_driver_row (rows.Unlink t) p).driver index (also (32 * y.first) kind recent)
unlink_is_recent p recent index t y kind here are =
    subst (λ (o : Option Transfer). AreRecent (after_unlink p t o).driver index (also (32 * y.first) kind recent)) (sym here)
    (λ n other on. unlinked_by p recent index t y kind here are n other (n == 32 * y.first) refl on)

-- ---- a command is finished

out_of_frames : (xs : List Endpoint) (ts : List Transfer) (n e : ℕ) (x : Endpoint) (w : Removed) → slice_get xs e ≡ Some x → IsRemovedAt xs ts n w → IsRemovedAt (set xs e (record x { chained = false })) ts n w
out_of_frames xs ts n e x _ there (a_descriptor t y at is) = a_descriptor t y at is
out_of_frames xs ts n e x _ there (a_queue f z at queued is) =
    ⊎_elim (λ (same : f ≡ e).
    let one : z ≡ x = same_Some z x (sym at ∙ ap (slice_get xs) same ∙ there) in
    subst (λ (i : ℕ). IsRemovedAt (set xs e (record x { chained = false })) ts n (removed.Endpoint i)) (sym same)
    (a_queue e (record x { chained = false }) (set_here xs e x (record x { chained = false }) there) (subst (λ (v : Endpoint). is_iso v.desc.kind ≡ false) one queued) (subst (λ (v : Endpoint). n ≡ 32 * v.queue) one is)))
    (λ (differs : f ≢ e). a_queue f z (set_there xs e f (record x { chained = false }) differs ∙ at) queued is) (cases_eq f e)
out_of_frames xs ts n e x _ there (a_waiting f t z y at iso in_list sort waits is) =
    ⊎_elim (λ (same : f ≡ e).
    let one : z ≡ x = same_Some z x (sym at ∙ ap (slice_get xs) same ∙ there) in
    subst (λ (i : ℕ). IsRemovedAt (set xs e (record x { chained = false })) ts n (removed.Endpoint i)) (sym same)
    (a_waiting e t (record x { chained = false }) y (set_here xs e x (record x { chained = false }) there) (subst (λ (v : Endpoint). is_iso v.desc.kind ≡ true) one iso) in_list sort
    (subst (λ (i : ℕ). waits_for i y ≡ true) same waits) is))
    (λ (differs : f ≢ e). a_waiting f t z y (set_there xs e f (record x { chained = false }) differs ∙ at) iso in_list sort waits is) (cases_eq f e)

same_endpoint : (e f : ℕ) → Some (unfinished.Unchain e) ≡ Some (unfinished.Unchain f) → e ≡ f
same_endpoint e f same = cc

left_frames : (d : DriverContent) (recent : ℕ → Option Kind) (index e : ℕ) (x : Endpoint) → d.command ≡ Some (unfinished.Unchain e) → slice_get d.endpoints e ≡ Some x → AreRecent d index recent → (n : ℕ) (kind : Kind) → recent n ≡ Some kind
    → IsRemovedSince (set d.endpoints e (record x { chained = false })) d.transfers (d.periodic.removals ++ removal_of (removed.Endpoint e) ∷ []) index n
left_frames d recent index e x command there are n kind on =
    let xs : List Endpoint = set d.endpoints e (record x { chained = false }) in
    ⊎_elim (λ (s : IsRemovedSince d.endpoints d.transfers d.periodic.removals index n).
    behind_others xs d.transfers d.periodic.removals (removal_of (removed.Endpoint e)) index n
    (record { place = s.place; removal = s.removal; here = s.here; what = out_of_frames d.endpoints d.transfers n e x s.removal.what there s.what; within = s.within }))
    (λ (now : IsUnchainedNow d.endpoints d.transfers d.command n).
    let same : now.endpoint ≡ e = same_endpoint now.endpoint e (sym now.command ∙ command) in
    the_last xs d.transfers d.periodic.removals (removed.Endpoint e) index n
    (out_of_frames d.endpoints d.transfers n e x (removed.Endpoint e) there (subst (λ (i : ℕ). IsRemovedAt d.endpoints d.transfers n (removed.Endpoint i)) same now.what)))
    (are n kind on)

chained_by : (d : DriverContent) (recent : ℕ → Option Kind) (index e : ℕ) (x : Endpoint) (b : Bool) → b ≡ true → d.command ≡ Some (unfinished.Unchain e) → slice_get d.endpoints e ≡ Some x → AreRecent d index recent
    → AreRecent (if b then
    record (no_command d) {
      endpoints = slice_set (no_command d).endpoints e (record x { chained = false });
      periodic = record (no_command d).periodic { removals = (no_command d).periodic.removals ++ removal_of (removed.Endpoint e) ∷ [] };
    }
    else no_command d) index recent
chained_by d recent index e x true is command there are = λ n kind on. inl (left_frames d recent index e x command there are n kind on)
chained_by d recent index e x false is command there are = cc

pub unchain_is_recent : (d : DriverContent) (recent : ℕ → Option Kind) (index e : ℕ) (x : Endpoint) → d.command ≡ Some (unfinished.Unchain e) → slice_get d.endpoints e ≡ Some x → x.chained ≡ true → AreRecent d index recent → AreRecent (finished d (unfinished.Unchain e)) index recent
unchain_is_recent d recent index e x command there chained are =
    subst (λ (o : Option Endpoint). AreRecent (leave_frames (no_command d) e o) index recent) (sym there) (chained_by d recent index e x x.chained chained command there are)

-- ---- a descriptor is given back

one_less : (p : Parts) (index t n : ℕ) (y : Transfer) (why : IsGivenBack p (removed.Descriptor t)) → slice_get p.driver.transfers t ≡ Some y
    → (k : ℕ) (r : Removal) → slice_get p.driver.periodic.removals k ≡ Some r → IsRemovedAt p.driver.endpoints p.driver.transfers n r.what → IsOpenAt index r.boundary
    → IsRemovedSince p.driver.endpoints (set p.driver.transfers t (record y { released = true })) (drop 1 p.driver.periodic.removals) index n
one_less p index t n y why there zero r here what still =
    absurd (not_open index why.due.removal.boundary why.seen (subst (λ (x : Removal). IsOpenAt index x.boundary) (same_Some r why.due.removal (sym here ∙ why.due.first)) still))
one_less p index t n y why there (suc k) r here what still =
    record { place = k; removal = r; here = dropped p.driver.periodic.removals k r here; what = let_go p.driver.endpoints p.driver.transfers n t y r.what there what; within = still }

pub release_leaves_recent : (p : Parts) (recent : ℕ → Option Kind) (index t : ℕ) (y : Transfer) → IsGivenBack p (removed.Descriptor t) → slice_get p.driver.transfers t ≡ Some y → AreRecent p.driver index recent → AreRecent (after_driver_row (rows.ReleaseRemoved (removed.Descriptor t)) p).driver index recent
release_leaves_recent p recent index t y why there are =
    subst (λ (o : Option Transfer). AreRecent (after_descriptor p t o).driver index recent) (sym there)
    (λ n kind on. ⊎_elim (λ (s : IsRemovedSince p.driver.endpoints p.driver.transfers p.driver.periodic.removals index n).
    inl (one_less p index t n y why there s.place s.removal s.here s.what s.within))
    (λ (now : IsUnchainedNow p.driver.endpoints p.driver.transfers p.driver.command n).
    inr (record { endpoint = now.endpoint; command = now.command; what = let_go p.driver.endpoints p.driver.transfers n t y (removed.Endpoint now.endpoint) there now.what }))
    (are n kind on))
