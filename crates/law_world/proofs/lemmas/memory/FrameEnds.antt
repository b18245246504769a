-- Endpoints where an event of the frames is next: each stays where it is in the ring.
use Rattle.std.proofs.Common.{◌≡◌, ℕ, suc, ◌-◌, Bool, true, false, cond, nat_lt, List, ◌∷◌, [], ◌++◌, length, set, take, drop, slice_get, Option, Some, None, ap, refl, ◌∙◌, inl, inr}
use Rattle.std.specs.Prelude.{is_none}
use Rattle.law_driver.proofs.Common.{iso_frames}
use Rattle.usb_base.specs.declared.endpoints.EndCause.{EndCause}
use Rattle.usb_base.specs.declared.reports.What.TheVariants as lines
use Rattle.word_mem.specs.Memory.{Mem}
use Rattle.mem_runs.specs.Book.{holding}
use Rattle.drv_periodic_table.specs.declared.content.Removed.TheVariants as removed
use Rattle.drv_periodic_table.specs.Periodic.{PeriodicContent}
use Rattle.drv_periodic_table.specs.Linking.{begun_next}
use Rattle.drv_table.specs.declared.content.Endpoint.{Endpoint}
use Rattle.drv_table.specs.declared.content.Transfer.{Transfer}
use Rattle.drv_table.specs.declared.content.Command.{Command}
use Rattle.drv_table.specs.declared.content.Command.TheVariants as unfinished
use Rattle.drv_table.specs.declared.rows.Found.{Found}
use Rattle.drv_table.specs.declared.rows.Found.TheVariants as founds
use Rattle.drv_table.specs.DriverContent.{DriverContent, waits_for, next_after}
use Rattle.drv_table.specs.Harvests.{end_of, is_stall, noted, reported}
use Rattle.drv_table.specs.Kinds.{is_iso}
use Rattle.drv_table.specs.Parts.{Parts}
use Rattle.drv_table.specs.Commands.{events_of, links, removes_members, no_command, leave_frames, removal_of, finished, list_after, advanced_by, advance}
use Rattle.drv_table.specs.FrameChoice.{framed_notes, with_notes, placement_at, framed_by}
use Rattle.drv_table.specs.Releases.{is_told, cancelled_bytes}
use Rattle.drv_table.specs.Removals.{removed_with, free_placed, after_unlink, after_descriptor, after_placed}
use Rattle.drv_table.specs.Harvesting.{told_with, mends_of, served, after_end, harvested_as, after_harvest}
use Rattle.law_driver.proofs.lemmas.chained_transfers.Stalled.{behind_tells}
use Rattle.law_world.specs.memory.framed_memory.Isochronous.{IsFramesCommand}
use Rattle.law_world.proofs.lemmas.memory.FrameNext.{EndsStay, same, one}

-- ---- a command goes on

done_ends : (d : DriverContent) (n : ℕ) (q : PeriodicContent) (c : Command) → IsFramesCommand (Some c) → EndsStay d.endpoints (finished (record d { made = n; periodic = q }) c).endpoints
done_ends d n q (unfinished.Open queue) frames = absurd frames
done_ends d n q (unfinished.Publish b words) frames = absurd frames
done_ends d n q (unfinished.Unlink e b link) frames = absurd frames
done_ends d n q unfinished.Chain frames = absurd frames
done_ends d n q (unfinished.Iso e t count) frames = same refl
done_ends d n q (unfinished.Unchain e) frames = at (slice_get d.endpoints e) refl
  where
    at : (o : Option Endpoint) → slice_get d.endpoints e ≡ o → EndsStay d.endpoints (leave_frames (no_command (record d { made = n; periodic = q })) e o).endpoints
    at None here = same refl
    at (Some x) here = by x.chained
      where
        by : (b : Bool)
            → EndsStay d.endpoints (cond b (record (no_command (record d { made = n; periodic = q })) { endpoints = set d.endpoints e (record x { chained = false }); periodic = record q { removals = q.removals ++ removal_of (removed.Endpoint e) ∷ [] } }) (no_command (record d { made = n; periodic = q }))).endpoints
        by true = one e x (record x { chained = false }) here refl refl refl (inl refl)
        by false = same refl

advanced_ends : (d : DriverContent) (o : Option Command) → IsFramesCommand o → EndsStay d.endpoints (advanced_by d o).endpoints
advanced_ends d None frames = same refl
advanced_ends d (Some c) frames =
    let q = begun_next (removes_members c) (record d.periodic { list = list_after d c }) in
    by q (nat_lt (suc d.made) (length (events_of c))) (links c) (is_none q.list.work)
  where
    by : (q : PeriodicContent) (a b k : Bool) → EndsStay d.endpoints (cond a (record d { made = suc d.made })
        (cond b (cond k (finished (record d { made = length (events_of c); periodic = q }) c) (record d { made = length (events_of c); periodic = q })) (finished d c))).endpoints
    by q true b k = same refl
    by q false true true = done_ends d (length (events_of c)) q c frames
    by q false true false = same refl
    by q false false k = done_ends d d.made d.periodic c frames

pub advance_ends : (d : DriverContent) → IsFramesCommand d.command → EndsStay d.endpoints (advance d).endpoints
advance_ends d frames = advanced_ends d d.command frames

pub framed_ends : (d : DriverContent) (n : ℕ) (o : Option Command) → IsFramesCommand d.command → EndsStay d.endpoints (framed_by d n o).endpoints
framed_ends d n (Some (unfinished.Iso e t count)) frames = advance_ends (with_notes d n (take count (drop t d.transfers)) (framed_notes d n e t count (placement_at d e))) frames
framed_ends d n _ frames = same refl

-- ---- what is unlinked, and what is given back

pub unlink_ends : (p : Parts) (t : ℕ) (o : Option Transfer) → EndsStay p.driver.endpoints (after_unlink p t o).driver.endpoints
unlink_ends p t None = same refl
unlink_ends p t (Some y) = same refl

pub descriptor_ends : (p : Parts) (t : ℕ) (o : Option Transfer) → EndsStay p.driver.endpoints (after_descriptor p t o).driver.endpoints
descriptor_ends p t None = same refl
descriptor_ends p t (Some y) = same refl

pub placed_ends : (p : Parts) (e : ℕ) (x : Endpoint) → slice_get p.driver.endpoints e ≡ Some x → is_iso x.desc.kind ≡ true → EndsStay p.driver.endpoints (after_placed p e (Some x)).driver.endpoints
placed_ends p e x here iso = by (is_told x)
  where
    by : (b : Bool)
        → EndsStay p.driver.endpoints (removed_with (cond b (reported p.driver lines.Cancel x.desc.name (cancelled_bytes p.driver.notes p.memory e x.queue p.driver.transfers)) p.driver) e x (is_told x) (free_placed p.driver e x (holding p.driver.book p.memory)).book).endpoints
    by true = one e x (record x { gone = true }) here refl refl refl (inr (iso_frames x.desc.kind iso))
    by false = one e x (record x { gone = true }) here refl refl refl (inr (iso_frames x.desc.kind iso))

-- ---- what is harvested

end_ends : (d f : DriverContent) (e t : ℕ) (x : Endpoint) (stall : Bool) (o : Option EndCause) → f.endpoints ≡ d.endpoints → slice_get d.endpoints e ≡ Some x
    → EndsStay d.endpoints (after_end f e t x stall o).endpoints
end_ends d f e t x stall (Some cause) ends here =
    one e x (record x { ended = Some cause }) here (ap (λ (xs : List Endpoint). set xs e (record x { ended = Some cause })) ends) refl refl (inl refl)
end_ends d f e t x false None ends here =
    let z : Endpoint = record x { next = next_after f.transfers e t } in
    one e x (record x { next = next_after f.transfers e t }) here (ap (λ (xs : List Endpoint). set xs e z) ends) refl refl (inl refl)
end_ends d f e t x true None ends here =
    let z : Endpoint = record x { next = None } in
    let begun : DriverContent = record f { harvested = f.harvested ++ t ∷ []; endpoints = set f.endpoints e z; mends = f.mends ++ mends_of x } in
    let each = behind_tells begun e x.desc.name (suc t) (length f.transfers - suc t) in
    one e x (record x { next = None }) here (each.endpoints ∙ ap (λ (xs : List Endpoint). set xs e z) ends) refl refl (inl refl)

pub harvest_ends : (d : DriverContent) (m : Mem) (e t : ℕ) (found : Found) (o : Option Endpoint) (q : Option Transfer) → slice_get d.endpoints e ≡ o
    → EndsStay d.endpoints (after_harvest d m e t found o q).endpoints
harvest_ends d m e t found None q here = same refl
harvest_ends d m e t found (Some x) None here = same refl
harvest_ends d m e t found (Some x) (Some y) here = by (waits_for e y)
  where
    at : (f : Found) → EndsStay d.endpoints (harvested_as d m e t x y f).endpoints
    at founds.Active = same refl
    at (founds.Moved n) = same refl
    at (founds.Served errors) = one e x (record x { next = next_after d.transfers e t }) here refl refl refl (inl refl)
    at (founds.Ended n what) = end_ends d (told_with d m t y what x.desc.name (noted d.notes y.place n)) e t x (is_stall what) (end_of x.desc.kind what) refl here

    by : (b : Bool) → EndsStay d.endpoints (cond b (served (harvested_as d m e t x y found) e) d).endpoints
    by true = at found
    by false = same refl
