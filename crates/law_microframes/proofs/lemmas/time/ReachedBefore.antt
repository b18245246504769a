-- Each event of the driver leaves no queue head within reach of the walk of the ring that wasn't.
use Rattle.std.proofs.Common.{◌≡◌, ◌≢◌, ℕ, suc, Bool, true, false, cond, nat_lt, List, [], ◌∷◌, ◌++◌, length, take, drop, set, slice_get, Option, Some, None, ap, sym, subst, ◌∙◌, ⊎_elim, inl, inr, refl}
use Rattle.std.specs.Prelude.{◌⊎◌, is_none}
use Rattle.std.proofs.lemmas.Bool.{cases_eq, true≢false}
use Rattle.std.proofs.lemmas.Option.{same_Some}
use Rattle.law_common.proofs.Lists.{set_here, set_there}
use Rattle.mem_runs.specs.Book.{holding, lend_taken}
use Rattle.drv_table.specs.declared.content.Endpoint.{Endpoint}
use Rattle.drv_table.specs.declared.content.Transfer.{Transfer}
use Rattle.drv_table.specs.declared.content.Command.{Command}
use Rattle.drv_table.specs.declared.content.Command.TheVariants as unfinished
use Rattle.drv_table.specs.declared.rows.DriverRow.{DriverRow}
use Rattle.drv_table.specs.declared.rows.DriverRow.TheVariants as rows
use Rattle.drv_periodic_table.specs.declared.content.Removed.{Removed}
use Rattle.drv_periodic_table.specs.declared.content.Removed.TheVariants as removed
use Rattle.drv_periodic_table.specs.Linking.{begun_next}
use Rattle.drv_table.specs.DriverContent.{DriverContent}
use Rattle.drv_table.specs.Parts.{Parts}
use Rattle.drv_table.specs.Commands.{events_of, links, removes_members, leave_ring, leave_frames, removal_of, no_command, finished, list_after, or_finished, linked_on, advanced_by, advance}
use Rattle.drv_table.specs.FrameChoice.{framed_notes, with_notes, placement_at, framed_by, linked_by}
use Rattle.drv_table.specs.Rows.{after_driver_row}
use Rattle.drv_table.specs.Releases.{after_transfer, after_endpoint, freed_by, cancel_told}
use Rattle.drv_table.specs.Removals.{after_descriptor, after_placed, after_removed, after_unlink}
use Rattle.law_driver.specs.run_owners.Due.{IsDue}
use Rattle.law_driver.proofs.lemmas.run_owners.Released.{cancel_same}
use Rattle.claims_driver.specs.Ring.{IsQueueOf, IsAmong, first, later}
use Rattle.law_driver.proofs.lemmas.ring_members.Leaving.{GoOn, same_go_on}
use Rattle.law_driver.proofs.lemmas.ring_members.Harvests.{endpoint_set, told_stays, harvest_stays}
use Rattle.claims_driver.specs.Walk.{IsReached, at_head, at_member, at_waiting, at_rung, IsBellIn}
use Rattle.law_driver_ring.proofs.lemmas.walk_members.Driving.{Reaches, goes_reach}

-- ---- lists

pub among_either : (f : ℕ) (es fs : List ℕ) → IsAmong f (es ++ fs) → (IsAmong f es) ⊎ (IsAmong f fs)
among_either f [] fs a = inr a
among_either f (e ∷ es) fs (first _) = inl (first es)
among_either f (e ∷ es) fs (later _ _ rest) = ⊎_elim (λ (w : IsAmong f es). inl (later e es w)) (λ (w : IsAmong f fs). inr w) (among_either f es fs rest)

none_among : (f : ℕ) → IsAmong f [] → ⊥
none_among f a = elim a [ ]

one_only : (f e : ℕ) → IsAmong f (e ∷ []) → f ≡ e
one_only f e (first _) = refl
one_only f e (later _ _ rest) = absurd (none_among f rest)

-- ---- endpoints that went on as they do

goes_back : (d e : DriverContent) (rings : Bool) → GoOn e.endpoints d.endpoints → e.waiting ≡ d.waiting → e.rung ≡ d.rung → Reaches e rings d rings
goes_back d e rings on ws rs = goes_reach e d rings on (sym ws) (sym rs)

pub same_back : (d e : DriverContent) (rings : Bool) → e.endpoints ≡ d.endpoints → e.waiting ≡ d.waiting → e.rung ≡ d.rung → Reaches e rings d rings
same_back d e rings xs ws rs =
    goes_back d e rings (λ f y here. record { endpoint = y; here = ap (λ (ys : List Endpoint). slice_get ys f) (sym xs) ∙ here; queue = refl; linked = λ l. l }) ws rs

-- one that left the ring was in it
module _ (xs : List Endpoint) (e : ℕ) (x : Endpoint) (here : slice_get xs e ≡ Some x) where
  abbrev off : Endpoint
  off = record x { linked = false }

  itself : (f b : ℕ) → f ≡ e → (at : IsQueueOf (set xs e (record x { linked = false })) f b) → at.endpoint ≡ record x { linked = false }
  itself f b same at = same_Some at.endpoint off (sym at.here ∙ ap (slice_get (set xs e off)) same ∙ set_here xs e x off here)

  queue_back : (f b : ℕ) → IsQueueOf (set xs e (record x { linked = false })) f b → IsQueueOf xs f b
  queue_back f b at =
      ⊎_elim
      (λ (same : f ≡ e). record { endpoint = x; here = ap (slice_get xs) same ∙ here; queue = ap (λ (z : Endpoint). z.queue) (sym (itself f b same at)) ∙ at.queue })
      (λ (differs : f ≢ e). record { endpoint = at.endpoint; here = sym (set_there xs e f off differs) ∙ at.here; queue = at.queue }) (cases_eq f e)

left_back : (d : DriverContent) (rings : Bool) (e : ℕ) (o : Option Endpoint) → slice_get d.endpoints e ≡ o → Reaches (leave_ring d e o) rings d rings
left_back d rings e None here = λ b r. r
left_back d rings e (Some x) here = λ b. by b x.linked refl
  where
    left : (b : ℕ) → x.linked ≡ true → IsReached (record d { waiting = d.waiting ++ e ∷ []; endpoints = set d.endpoints e (record x { linked = false }) }) rings b → IsReached d rings b
    left b on (at_head h) = at_head h
    left b on (at_member f at l) =
        ⊎_elim (λ (same : f ≡ e). absurd (true≢false (sym l ∙ ap (λ (z : Endpoint). z.linked) (itself d.endpoints e x here f b same at))))
        (λ (differs : f ≢ e).
        at_member f (record { endpoint = at.endpoint; here = sym (set_there d.endpoints e f (record x { linked = false }) differs) ∙ at.here; queue = at.queue }) l) (cases_eq f e)
    left b on (at_waiting f at a) =
        let was : IsQueueOf d.endpoints f b = queue_back d.endpoints e x here f b at in
        ⊎_elim (λ (w : IsAmong f d.waiting). at_waiting f was w)
        (λ (w : IsAmong f (e ∷ [])).
        at_member f was (ap (λ (z : Endpoint). z.linked) (same_Some was.endpoint x (sym was.here ∙ ap (slice_get d.endpoints) (one_only f e w) ∙ here)) ∙ on))
        (among_either f d.waiting (e ∷ []) a)
    left b on (at_rung f at a r) = at_rung f (queue_back d.endpoints e x here f b at) a r

    by : (b : ℕ) (l : Bool) → x.linked ≡ l → IsReached (cond l (record d { waiting = d.waiting ++ e ∷ []; endpoints = set d.endpoints e (record x { linked = false }) }) d) rings b → IsReached d rings b
    by b true on r = left b on r
    by b false on r = r

through : (d e f : DriverContent) (rings : Bool) → Reaches e rings d rings → Reaches f rings e rings → Reaches f rings d rings
through d e f rings one two = λ b r. one b (two b r)

-- one that left its frames
framed_back : (d : DriverContent) (rings : Bool) (e : ℕ) (o : Option Endpoint) → slice_get d.endpoints e ≡ o → Reaches (leave_frames d e o) rings d rings
framed_back d rings e None here = λ b r. r
framed_back d rings e (Some x) here = λ b. by b x.chained
  where
    by : (b : ℕ) (l : Bool)
        → IsReached (cond l (record d { endpoints = set d.endpoints e (record x { chained = false }); periodic = record d.periodic { removals = d.periodic.removals ++ removal_of (removed.Endpoint e) ∷ [] } }) d) rings b
        → IsReached d rings b
    by b true r =
        goes_back d (record d { endpoints = set d.endpoints e (record x { chained = false }); periodic = record d.periodic { removals = d.periodic.removals ++ removal_of (removed.Endpoint e) ∷ [] } }) rings
        (same_go_on (set d.endpoints e (record x { chained = false })) d.endpoints (λ i. sym (endpoint_set d.endpoints e x (record x { chained = false }) here refl i))) refl refl b r
    by b false r = r

done_back : (d : DriverContent) (rings : Bool) (c : Command) → Reaches (finished d c) rings d rings
done_back d rings (unfinished.Unlink e b link) =
    through d (no_command d) (leave_ring (no_command d) e (slice_get d.endpoints e)) rings (same_back d (no_command d) rings refl refl refl)
    (left_back (no_command d) rings e (slice_get d.endpoints e) refl)
done_back d rings (unfinished.Unchain e) =
    through d (no_command d) (leave_frames (no_command d) e (slice_get d.endpoints e)) rings (same_back d (no_command d) rings refl refl refl)
    (framed_back (no_command d) rings e (slice_get d.endpoints e) refl)
done_back d rings _ = same_back d (no_command d) rings refl refl refl

either_back : (d : DriverContent) (rings : Bool) (x y : DriverContent) (b : Bool) → Reaches x rings d rings → Reaches y rings d rings → Reaches (cond b x y) rings d rings
either_back d rings x y true one two = one
either_back d rings x y false one two = two

pub or_done_back : (d : DriverContent) (rings : Bool) (c : Command) → Reaches (or_finished d c) rings d rings
or_done_back d rings c = either_back d rings (finished d c) d (is_none d.periodic.list.work) (done_back d rings c) (λ b r. r)

linked_back : (d : DriverContent) (rings : Bool) (c : Command) → Reaches (linked_on d c) rings d rings
linked_back d rings c =
    let e = record d { made = length (events_of c); periodic = begun_next (removes_members c) (record d.periodic { list = list_after d c }) } in
    through d e (linked_on d c) rings (same_back d e rings refl refl refl) (or_done_back e rings c)

pub advance_back : (d : DriverContent) (rings : Bool) → Reaches (advance d) rings d rings
advance_back d rings = by d.command
  where
    by : (o : Option Command) → Reaches (advanced_by d o) rings d rings
    by None = λ b r. r
    by (Some c) =
        either_back d rings (record d { made = suc d.made }) (cond (links c) (linked_on d c) (finished d c)) (nat_lt (suc d.made) (length (events_of c)))
        (same_back d (record d { made = suc d.made }) rings refl refl refl) (either_back d rings (linked_on d c) (finished d c) (links c) (linked_back d rings c) (done_back d rings c))

noted_back : (d : DriverContent) (rings : Bool) (n : ℕ) (o : Option Command) → Reaches (framed_by d n o) rings d rings
noted_back d rings n (Some (unfinished.Iso e t count)) =
    let f = with_notes d n (take count (drop t d.transfers)) (framed_notes d n e t count (placement_at d e)) in
    through d f (advance f) rings (same_back d f rings refl refl refl) (advance_back f rings)
noted_back d rings n _ = λ b r. r

-- ---- each row

abbrev RowBack : Parts → Parts → Type 0
RowBack p new = Reaches new.driver new.registers.doorbell p.driver p.registers.doorbell

transfer_back : (p : Parts) (t : ℕ) (o : Option Transfer) → RowBack p (after_transfer p t o (freed_by p.driver (holding p.driver.book p.memory) o))
transfer_back p t None = λ b r. r
transfer_back p t (Some x) = same_back p.driver _ p.registers.doorbell refl refl refl

endpoint_back : (p : Parts) (e : ℕ) (o : Option Endpoint) → slice_get p.driver.endpoints e ≡ o → RowBack p (after_endpoint p e o)
endpoint_back p e None here = λ b r. r
endpoint_back p e (Some x) here =
    let d = p.driver in
    let told = cancel_told d p.memory e x in
    let s = told_stays d p.memory e x in
    let there : slice_get told.endpoints e ≡ Some x = ap (λ (xs : List Endpoint). slice_get xs e) (cancel_same d p.memory e x).endpoints ∙ here in
    goes_back d _ p.registers.doorbell
    (same_go_on (set told.endpoints e (record x { gone = true })) d.endpoints (λ i. sym (endpoint_set told.endpoints e x (record x { gone = true }) there refl i ∙ s.endpoints i))) s.waiting s.rung

descriptor_back : (p : Parts) (t : ℕ) (o : Option Transfer) → RowBack p (after_descriptor p t o)
descriptor_back p t None = λ b r. r
descriptor_back p t (Some x) = same_back p.driver _ p.registers.doorbell refl refl refl

placed_back : (p : Parts) (e : ℕ) (o : Option Endpoint) → slice_get p.driver.endpoints e ≡ o → RowBack p (after_placed p e o)
placed_back p e None here = λ b r. r
placed_back p e (Some x) here =
    let d = p.driver in
    let told = cancel_told d p.memory e x in
    let s = told_stays d p.memory e x in
    let there : slice_get told.endpoints e ≡ Some x = ap (λ (xs : List Endpoint). slice_get xs e) (cancel_same d p.memory e x).endpoints ∙ here in
    goes_back d _ p.registers.doorbell
    (same_go_on (set told.endpoints e (record x { gone = true })) d.endpoints (λ i. sym (endpoint_set told.endpoints e x (record x { gone = true }) there refl i ∙ s.endpoints i))) s.waiting s.rung

removed_back : (p : Parts) (what : Removed) → RowBack p (after_removed p what)
removed_back p (removed.Descriptor t) = descriptor_back p t (slice_get p.driver.transfers t)
removed_back p (removed.Endpoint e) = placed_back p e (slice_get p.driver.endpoints e) refl

unlinked_back : (p : Parts) (t : ℕ) (o : Option Transfer) → RowBack p (after_unlink p t o)
unlinked_back p t None = λ b r. r
unlinked_back p t (Some x) = same_back p.driver _ p.registers.doorbell refl refl refl

-- those that are rung had waited, and before that none was
rung_back : (d e : DriverContent) (rings : Bool) → d.rung ≡ [] → e.endpoints ≡ d.endpoints → e.waiting ≡ [] → e.rung ≡ d.rung ++ d.waiting → Reaches e true d rings
rung_back d e rings none xs ws rs = reach
  where
    queue : (f b : ℕ) → IsQueueOf e.endpoints f b → IsQueueOf d.endpoints f b
    queue f b at = subst (λ (ys : List Endpoint). IsQueueOf ys f b) xs at

    reach : (b : ℕ) → IsReached e true b → IsReached d rings b
    reach b (at_head h) = at_head h
    reach b (at_member f at l) = at_member f (record { endpoint = at.endpoint; here = ap (λ (zs : List Endpoint). slice_get zs f) (sym xs) ∙ at.here; queue = at.queue }) l
    reach b (at_waiting f at a) = absurd (none_among f (subst (λ (es : List ℕ). IsAmong f es) ws a))
    reach b (at_rung f at a r) =
        ⊎_elim (λ (w : IsAmong f d.rung). absurd (none_among f (subst (λ (es : List ℕ). IsAmong f es) none w))) (λ (w : IsAmong f d.waiting). at_waiting f (queue f b at) w)
        (among_either f d.rung d.waiting (subst (λ (es : List ℕ). IsAmong f es) rs a))

cleared_back : (d e : DriverContent) (rings : Bool) → e.endpoints ≡ d.endpoints → e.waiting ≡ d.waiting → e.rung ≡ [] → Reaches e rings d rings
cleared_back d e rings xs ws none = reach
  where
    queue : (f b : ℕ) → IsQueueOf e.endpoints f b → IsQueueOf d.endpoints f b
    queue f b at = subst (λ (ys : List Endpoint). IsQueueOf ys f b) xs at

    reach : (b : ℕ) → IsReached e rings b → IsReached d rings b
    reach b (at_head h) = at_head h
    reach b (at_member f at l) = at_member f (record { endpoint = at.endpoint; here = ap (λ (zs : List Endpoint). slice_get zs f) (sym xs) ∙ at.here; queue = at.queue }) l
    reach b (at_waiting f at a) = at_waiting f (queue f b at) (subst (λ (es : List ℕ). IsAmong f es) ws a)
    reach b (at_rung f at a r) = absurd (none_among f (subst (λ (es : List ℕ). IsAmong f es) none a))

pub row_back : (row : DriverRow) (p : Parts) → IsDue p row → IsBellIn p.driver p.registers
    → Reaches (after_driver_row row p).driver (after_driver_row row p).registers.doorbell p.driver p.registers.doorbell
row_back rows.Lend p due bell =
    let d = record p.driver { book = (lend_taken (holding p.driver.book p.memory)).book } in
    through p.driver d (advance d) p.registers.doorbell (same_back p.driver d p.registers.doorbell refl refl refl) (advance_back d p.registers.doorbell)
row_back (rows.Store b at v) p due bell = advance_back p.driver p.registers.doorbell
row_back rows.Frames p due bell = noted_back p.driver p.registers.doorbell p.registers.frame_index p.driver.command
row_back rows.LendDescriptors p due bell =
    let d = record p.driver { book = (lend_taken (holding p.driver.book (linked_by p.driver p.memory p.driver.command))).book } in
    through p.driver d (advance d) p.registers.doorbell (same_back p.driver d p.registers.doorbell refl refl refl) (advance_back d p.registers.doorbell)
row_back (rows.Unlink t) p due bell = unlinked_back p t (slice_get p.driver.transfers t)
row_back (rows.ReleaseRemoved what) p due bell = removed_back p what
row_back (rows.ReleaseTransfer t) p due bell = transfer_back p t (slice_get p.driver.transfers t)
row_back (rows.ReleaseEndpoint e) p due bell = endpoint_back p e (slice_get p.driver.endpoints e) refl
row_back rows.ClearAdvance p due bell = cleared_back p.driver _ p.registers.doorbell refl refl refl
row_back rows.RingBell p due bell = rung_back p.driver _ p.registers.doorbell (bell.quiet due.1).0 refl refl refl
row_back (rows.Harvest e t found) p due bell =
    let s = harvest_stays p.driver p.memory e t found (slice_get p.driver.endpoints e) (slice_get p.driver.transfers t) refl in
    goes_back p.driver _ p.registers.doorbell (same_go_on _ p.driver.endpoints (λ i. sym (s.endpoints i))) s.waiting s.rung
row_back rows.Rest p due bell = λ b r. r
row_back _ p due bell = same_back p.driver _ p.registers.doorbell refl refl refl
