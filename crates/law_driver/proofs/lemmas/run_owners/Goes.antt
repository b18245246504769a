-- The unfinished command goes on: the order of what is to be given back stays, and what leaves is to be given back.
use Rattle.std.proofs.Common.{◌≡◌, ℕ, suc, Bool, true, false, cond, nat_lt, List, [], ◌∷◌, ◌++◌, length, take, drop, set, slice_get, Option, Some, None, ap, sym, subst, ◌∙◌, refl}
use Rattle.std.specs.Prelude.{is_some, is_none}
use Rattle.drv_chains.specs.declared.members.Member.{Member}
use Rattle.drv_periodic_table.specs.declared.content.Removed.TheVariants as removed
use Rattle.drv_periodic_table.specs.Periodic.{PeriodicContent}
use Rattle.drv_periodic_table.specs.Linking.{with_first, begun_next}
use Rattle.drv_table.specs.declared.content.Endpoint.{Endpoint}
use Rattle.drv_table.specs.declared.content.Command.{Command}
use Rattle.drv_table.specs.declared.content.Command.TheVariants as unfinished
use Rattle.drv_table.specs.DriverContent.{DriverContent}
use Rattle.drv_table.specs.Commands.{events_of, links, removes_members, leave_frames, no_command, removal_of, finished, list_after, or_finished, linked_on, advanced_by, advance}
use Rattle.drv_table.specs.FrameChoice.{framed_notes, with_notes, placement_at, framed_by}
use Rattle.drv_periodic_table.specs.declared.content.Removal.{Removal}
use Rattle.claims_driver.specs.Leaving.{leaver, Returns, returns_of, AreOrderly, IsOrderly}
use Rattle.law_driver.proofs.lemmas.run_owners.Leaves.{no_command_orderly, left_frames, leave_orderly, read_orderly}

leave_frames_orderly : (d : DriverContent) (e : ℕ) (o : Option Endpoint) → slice_get d.endpoints e ≡ o → ((x : Endpoint) → o ≡ Some x → is_some x.ended ≡ true) → IsOrderly d → IsOrderly (leave_frames (no_command d) e o)
leave_frames_orderly d e None here ended old = no_command_orderly old
leave_frames_orderly d e (Some x) here ended old = at x.chained refl
  where
    at : (b : Bool) → x.chained ≡ b → IsOrderly (cond b (record (no_command d) { endpoints = set d.endpoints e (record x { chained = false }); periodic = record d.periodic { removals = d.periodic.removals ++ removal_of (removed.Endpoint e) ∷ [] } }) (no_command d))
    at true on = left_frames e x (removal_of (removed.Endpoint e)) refl here on (ended x refl) old
    at false off = no_command_orderly old

done_orderly : (d : DriverContent) (c : Command) → d.command ≡ Some c → IsOrderly d → IsOrderly (finished d c)
done_orderly d (unfinished.Unlink e b link) is old =
    leave_orderly d e (slice_get d.endpoints e) refl (λ x here. old.leaver e x (ap leaver is) here) old
done_orderly d (unfinished.Unchain e) is old =
    leave_frames_orderly d e (slice_get d.endpoints e) refl (λ x here. old.leaver e x (ap leaver is) here) old
done_orderly d _ is old = no_command_orderly old

-- the next member is begun: what is to be given back is told by other things
same_returns : (d : DriverContent) (n : ℕ) (removes : Bool) (q : PeriodicContent) → q.unlinks ≡ d.periodic.unlinks → q.removals ≡ d.periodic.removals → returns_of (record d { made = n; periodic = begun_next removes q }) ≡ returns_of d
same_returns d n removes q unlinks removals = at (is_none q.list.work) q.queued
  where
    kept : returns_of (record d { made = n; periodic = q }) ≡ returns_of d
    kept =
        ap (λ (us : List ℕ). lists us q.removals) unlinks ∙ ap (λ (ms : List Removal). lists d.periodic.unlinks ms) removals
      where
        lists : List ℕ → List Removal → Returns
        lists us ms = record (returns_of d) { unlinks = us; removals = ms }

    at : (b : Bool) (ms : List Member) → returns_of (record d { made = n; periodic = cond b (with_first removes q ms) q }) ≡ returns_of d
    at true [] = kept
    at true (m ∷ ms) = kept
    at false ms = kept

pub begun_orderly : (d : DriverContent) (removes : Bool) (n : ℕ) (q : PeriodicContent) → q.unlinks ≡ d.periodic.unlinks → q.removals ≡ d.periodic.removals → IsOrderly d → IsOrderly (record d { made = n; periodic = begun_next removes q })
begun_orderly d removes n q unlinks removals old =
    subst (λ (r : Returns). AreOrderly r d.transfers d.endpoints (leaver d.command)) (sym (same_returns d n removes q unlinks removals)) old

pub or_done_orderly : (d : DriverContent) (c : Command) → d.command ≡ Some c → IsOrderly d → IsOrderly (or_finished d c)
or_done_orderly d c is old = at (is_none d.periodic.list.work)
  where
    at : (b : Bool) → IsOrderly (cond b (finished d c) d)
    at true = done_orderly d c is old
    at false = old

linked_orderly : (d : DriverContent) (c : Command) → d.command ≡ Some c → IsOrderly d → IsOrderly (linked_on d c)
linked_orderly d c is old =
    or_done_orderly (record d { made = length (events_of c); periodic = begun_next (removes_members c) (record d.periodic { list = list_after d c }) }) c is
    (begun_orderly d (removes_members c) (length (events_of c)) (record d.periodic { list = list_after d c }) refl refl old)

went_on_orderly : (d : DriverContent) (o : Option Command) → d.command ≡ o → IsOrderly d → IsOrderly (advanced_by d o)
went_on_orderly d None is old = old
went_on_orderly d (Some c) is old = at (nat_lt (suc d.made) (length (events_of c))) (links c)
  where
    at : (b l : Bool) → IsOrderly (cond b (record d { made = suc d.made }) (cond l (linked_on d c) (finished d c)))
    at true l = old
    at false true = linked_orderly d c is old
    at false false = done_orderly d c is old

pub advance_orderly : (d : DriverContent) → IsOrderly d → IsOrderly (advance d)
advance_orderly d old = went_on_orderly d d.command refl old

pub framed_orderly : (d : DriverContent) (n : ℕ) (o : Option Command) → IsOrderly d → IsOrderly (framed_by d n o)
framed_orderly d n (Some (unfinished.Iso e t count)) old =
    let f = with_notes d n (take count (drop t d.transfers)) (framed_notes d n e t count (placement_at d e)) in
    advance_orderly f (read_orderly n old)
framed_orderly d n _ old = old
