-- An event of a command's own, and one that begins to link or unlink the next member: whoever may be led to may be still, none is half linked that wasn't, and what was
-- unlinked in this microframe is what it was.
use Rattle.std.proofs.Common.{◌≡◌, ℕ, zero, suc, ◌+◌, ◌≤◌, ◌<◌, Bool, true, false, if◌then◌else◌, List, [], ◌∷◌, length, slice_get, Option, Some, None, ap, refl, sym, subst, ◌∙◌, arith}
use Rattle.std.specs.Prelude.{◌&&◌, nat_lt, is_none}
use Rattle.std.proofs.lemmas.Bool.{true≢false, lt-ltb}
use Rattle.std.proofs.lemmas.Option.{same_Some}
use Rattle.law_world.proofs.Common2.{next_led}
use Rattle.law_descriptors.proofs.Common.{next_removals}
use Rattle.law_common.proofs.Booleans.{either_if}
use Rattle.drv_chains.specs.declared.members.Member.{Member}
use Rattle.drv_members.specs.Members.{IsKept, takes}
use Rattle.drv_periodic.specs.declared.work.Work.{Work}
use Rattle.drv_periodic.specs.Periodic.{Periodic, begun as begun_work, inserting, removing, is_more, members_after, after_work, after_store}
use Rattle.drv_periodic_table.specs.Linking.{may_link, may_unlink, linking, unlinking, begun, with_first, begun_next}
use Rattle.drv_periodic_table.specs.Periodic.{PeriodicContent}
use Rattle.drv_table.specs.declared.content.Command.{Command}
use Rattle.drv_table.specs.declared.content.Command.TheVariants as unfinished
use Rattle.drv_table.specs.declared.content.Endpoint.{Endpoint}
use Rattle.drv_table.specs.declared.content.Transfer.{Transfer}
use Rattle.drv_table.specs.DriverContent.{DriverContent}
use Rattle.drv_table.specs.Commands.{events_of, links, removes_members, leave_ring, leave_frames, no_command, finished, list_after, or_finished, linked_on, advanced_by}
use Rattle.law_frames.specs.Met.{Kind}
use Rattle.claims_driver.specs.Unlinked.{led_in}
use Rattle.law_descriptors.specs.Recent.{AreRecent}
use Rattle.law_world.proofs.lemmas.memory.lemmas.framed_memory.StillStanding.{IsThereStill, set_still, recent_still}
use Rattle.law_microframes.specs.visits.Visited.{NewIsFirst}
use Rattle.law_microframes.proofs.lemmas.visits.NewFirst.{next_first}
use Rattle.law_microframes.proofs.lemmas.visits.DriverGoesOn.{LeavesMembers}

-- ---- the next member begins

-- one that begins has no store yet
no_begun : (x : Work) (m : Member) → Some (begun_work m false) ≡ Some x → 1 ≤ x.made → ⊥
no_begun x m is made = let zero : 0 ≡ x.made = ap (λ (w : Work). w.made) (same_Some (begun_work m false) x is) in omega (arith, zero, made)

no_leaver : (x : Work) (m : Member) → Some (begun_work m true) ≡ Some x → x.removes ≡ false → ⊥
no_leaver x m is adds = true≢false (ap (λ (w : Work). w.removes) (same_Some (begun_work m true) x is) ∙ adds)

pub linking_half : (p : Periodic) (m : Member) (x : Work) → (linking p m).work ≡ Some x → x.removes ≡ false → 1 ≤ x.made → p.work ≡ Some x
linking_half p m x = by (may_link p m)
  where
    by : (b : Bool) → (if b then inserting p m else p).work ≡ Some x → x.removes ≡ false → 1 ≤ x.made → p.work ≡ Some x
    by true is adds made = absurd (no_begun x m is made)
    by false is adds made = is

unlinking_half : (p : Periodic) (m : Member) (x : Work) → (unlinking p m).work ≡ Some x → x.removes ≡ false → 1 ≤ x.made → p.work ≡ Some x
unlinking_half p m x = by (may_unlink p m)
  where
    by : (b : Bool) → (if b then removing p m else p).work ≡ Some x → x.removes ≡ false → 1 ≤ x.made → p.work ≡ Some x
    by true is adds made = absurd (no_leaver x m is adds)
    by false is adds made = is

begun_half : (removes : Bool) (p : Periodic) (m : Member) (x : Work) → (begun removes p m).work ≡ Some x → x.removes ≡ false → 1 ≤ x.made → p.work ≡ Some x
begun_half true p m x is adds made = unlinking_half p m x is adds made
begun_half false p m x is adds made = linking_half p m x is adds made

first_half : (removes : Bool) (q : PeriodicContent) (ms : List Member) (x : Work) → (with_first removes q ms).list.work ≡ Some x → x.removes ≡ false → 1 ≤ x.made → q.list.work ≡ Some x
first_half removes q [] x is adds made = is
first_half removes q (m ∷ ms) x is adds made = begun_half removes q.list m x is adds made

pub next_half : (removes : Bool) (q : PeriodicContent) (x : Work) → (begun_next removes q).list.work ≡ Some x → x.removes ≡ false → 1 ≤ x.made → q.list.work ≡ Some x
next_half removes q x = by (is_none q.list.work)
  where
    by : (b : Bool) → (if b then with_first removes q q.queued else q).list.work ≡ Some x → x.removes ≡ false → 1 ≤ x.made → q.list.work ≡ Some x
    by true is adds made = first_half removes q q.queued x is adds made
    by false is adds made = is

-- what is under way goes on
pub next_kept : (removes : Bool) (q : PeriodicContent) (x : Work) → q.list.work ≡ Some x → (begun_next removes q).list ≡ q.list
next_kept removes q x is = ap (λ (o : Option Work). (if is_none o then with_first removes q q.queued else q).list) is

pub linking_kept : (p : Periodic) (m : Member) (x : Work) → p.work ≡ Some x → (linking p m).work ≡ Some x
linking_kept p m x is = ap (λ (o : Option Work). (if is_none o && takes p.members m then inserting p m else p).work) is ∙ is

-- what is half linked after a store of the list is what was stored for
pub stored_half : (p : Periodic) (w x : Work) → p.work ≡ Some w → (after_store p).work ≡ Some x → x.removes ≡ false → (x.member ≡ w.member) × (w.removes ≡ false)
stored_half p w x under is adds = by (is_more p.members.schedule w) (sym (ap (λ (o : Option Work). (after_work p o).work) under) ∙ is)
  where
    by : (b : Bool) → (if b then record p { work = Some (record w { made = w.made + 1 }) } else record { list = p.list; members = members_after p.members w; work = None }).work ≡ Some x → (x.member ≡ w.member) × (w.removes ≡ false)
    by true is =
        let same : record w { made = w.made + 1 } ≡ x = same_Some (record w { made = w.made + 1 }) x is in
        (sym (ap (λ (y : Work). y.member) same), ap (λ (y : Work). y.removes) same ∙ adds)
    by false is = absurd (cc)

-- ---- a command that is finished leaves the list

ring_list : (d : DriverContent) (e : ℕ) (o : Option Endpoint) → (leave_ring d e o).periodic.list ≡ d.periodic.list
ring_list d e None = refl
ring_list d e (Some x) = either_if (λ (f : DriverContent). f.periodic.list ≡ d.periodic.list) x.linked _ d (λ on. refl) (λ on. refl)

frames_list : (d : DriverContent) (e : ℕ) (o : Option Endpoint) → (leave_frames d e o).periodic.list ≡ d.periodic.list
frames_list d e None = refl
frames_list d e (Some x) = either_if (λ (f : DriverContent). f.periodic.list ≡ d.periodic.list) x.chained _ d (λ on. refl) (λ on. refl)

pub finished_list : (d : DriverContent) (c : Command) → (finished d c).periodic.list ≡ d.periodic.list
finished_list d (unfinished.Unlink e b link) = ring_list (no_command d) e (slice_get d.endpoints e)
finished_list d (unfinished.Unchain e) = frames_list (no_command d) e (slice_get d.endpoints e)
finished_list d _ = refl

pub ended_list : (d : DriverContent) (c : Command) → (or_finished d c).periodic.list ≡ d.periodic.list
ended_list d c = either_if (λ (f : DriverContent). f.periodic.list ≡ d.periodic.list) (is_none d.periodic.list.work) (finished d c) d (λ e. finished_list d c) (λ e. refl)

-- ---- an event of its own

pub same_list : (d new : DriverContent) → new.periodic.list ≡ d.periodic.list → LeavesMembers d new
same_list d new same = record {
  led_same = ap led_in same;
  half = λ x is adds made. sym (ap (λ (p : Periodic). p.work) same) ∙ is;
  under = λ x is. ap (λ (p : Periodic). p.work) same ∙ is;
  first = subst NewIsFirst (sym same);
}

-- of a driver with the list, and the command, of d
module _ (d g : DriverContent) (c : Command) (list : g.periodic.list ≡ d.periodic.list) (below : g.made < length (events_of c)) (kept : IsKept d.periodic.list.members.schedule) where
  abbrev begun_on : DriverContent
  begun_on = record g { made = length (events_of c); periodic = begun_next (removes_members c) (record g.periodic { list = list_after g c }) }

  after_is : list_after g c ≡ d.periodic.list
  after_is = ap (λ (b : Bool). if b then g.periodic.list else after_store g.periodic.list) (lt-ltb g.made (length (events_of c)) below) ∙ list

  kept_then : IsKept (list_after g c).members.schedule
  kept_then = subst (λ (p : Periodic). IsKept p.members.schedule) (sym after_is) kept

  begun_leaves : LeavesMembers d (linked_on g c)
  begun_leaves = record {
    led_same = ap led_in (ended_list begun_on c) ∙ next_led (removes_members c) (record g.periodic { list = list_after g c }) kept_then ∙ ap led_in after_is;
    half = λ x is adds made.
        sym (ap (λ (p : Periodic). p.work) after_is)
        ∙ next_half (removes_members c) (record g.periodic { list = list_after g c }) x (sym (ap (λ (p : Periodic). p.work) (ended_list begun_on c)) ∙ is) adds made;
    under = λ x is.
        (let goes : (list_after g c).work ≡ Some x = ap (λ (p : Periodic). p.work) after_is ∙ is in
        ap (λ (p : Periodic). p.work)
        (ended_list begun_on c ∙ next_kept (removes_members c) (record g.periodic { list = list_after g c }) x goes) ∙ goes);
    first = λ old.
        subst NewIsFirst (sym (ended_list begun_on c)) (next_first (removes_members c) (record g.periodic { list = list_after g c }) (subst NewIsFirst (sym after_is) old));
  }

  pub own_leaves : LeavesMembers d (advanced_by g (Some c))
  own_leaves =
      either_if (λ (f : DriverContent). LeavesMembers d f) (nat_lt (suc g.made) (length (events_of c))) (record g { made = suc g.made }) (if links c then linked_on g c else finished g c)
      (λ more. same_list d (record g { made = suc g.made }) list)
      (λ last. either_if (λ (f : DriverContent). LeavesMembers d f) (links c) (linked_on g c) (finished g c) (λ on. begun_leaves) (λ off. same_list d (finished g c) (finished_list g c ∙ list)))

-- ---- what was unlinked in this microframe

-- what is recent goes by these alone
record SameRemoved (d f : DriverContent) : Type 0 where
  endpoints : (e : ℕ) (x : Endpoint) → slice_get d.endpoints e ≡ Some x → IsThereStill f.endpoints e x
  transfers : f.transfers ≡ d.transfers
  removals : f.periodic.removals ≡ d.periodic.removals

there_itself : (xs : List Endpoint) (e : ℕ) (x : Endpoint) → slice_get xs e ≡ Some x → IsThereStill xs e x
there_itself xs e x here = record { endpoint = x; here = here; desc = refl; queue = refl }

itself : (d f : DriverContent) → f.endpoints ≡ d.endpoints → f.transfers ≡ d.transfers → f.periodic.removals ≡ d.periodic.removals → SameRemoved d f
itself d f ends ts removals = record {
  endpoints = λ e x here. subst (λ (xs : List Endpoint). IsThereStill xs e x) (sym ends) (there_itself d.endpoints e x here);
  transfers = ts;
  removals = removals;
}

ring_removed : (d : DriverContent) (e : ℕ) (o : Option Endpoint) → slice_get d.endpoints e ≡ o → SameRemoved d (leave_ring d e o)
ring_removed d e None here = itself d d refl refl refl
ring_removed d e (Some x) here =
    either_if (λ (f : DriverContent). SameRemoved d f) x.linked _ d
    (λ on. record { endpoints = λ i z there. set_still d.endpoints e x (record x { linked = false }) here refl refl i z there; transfers = refl; removals = refl })
    (λ on. itself d d refl refl refl)

finished_removed : (d : DriverContent) (c : Command) → ((e : ℕ) → c ≡ unfinished.Unchain e → ⊥) → SameRemoved d (finished d c)
finished_removed d (unfinished.Unlink e b link) none =
    let r : SameRemoved (no_command d) (leave_ring (no_command d) e (slice_get d.endpoints e)) = ring_removed (no_command d) e (slice_get d.endpoints e) refl in
    record { endpoints = r.endpoints; transfers = r.transfers; removals = r.removals }
finished_removed d (unfinished.Unchain e) none = absurd (none e refl)
finished_removed d _ none = itself d (no_command d) refl refl refl

module _ (g : DriverContent) (c : Command) (none : (e : ℕ) → c ≡ unfinished.Unchain e → ⊥) where
  abbrev begun_then : DriverContent
  begun_then = record g { made = length (events_of c); periodic = begun_next (removes_members c) (record g.periodic { list = list_after g c }) }

  then_removed : SameRemoved g begun_then
  then_removed = itself g begun_then refl refl (next_removals (removes_members c) (record g.periodic { list = list_after g c }))

  ended_removed : SameRemoved g (finished begun_then c)
  ended_removed =
      let r : SameRemoved begun_then (finished begun_then c) = finished_removed begun_then c none in
      record { endpoints = r.endpoints; transfers = r.transfers; removals = r.removals ∙ then_removed.removals }

  step_removed : SameRemoved g (advanced_by g (Some c))
  step_removed =
      either_if (λ (f : DriverContent). SameRemoved g f) (nat_lt (suc g.made) (length (events_of c))) (record g { made = suc g.made }) (if links c then linked_on g c else finished g c)
      (λ more. itself g (record g { made = suc g.made }) refl refl refl)
      (λ last. either_if (λ (f : DriverContent). SameRemoved g f) (links c) (linked_on g c) (finished g c)
      (λ on. either_if (λ (f : DriverContent). SameRemoved g f) (is_none begun_then.periodic.list.work) (finished begun_then c) begun_then (λ e. ended_removed) (λ e. then_removed))
      (λ off. finished_removed g c none))

  -- the command isn't one that unlinks members
  pub own_recent : (left : ℕ → Option Kind) (index : ℕ) → AreRecent (no_command g) index left → AreRecent (advanced_by g (Some c)) index left
  own_recent left index are =
      recent_still (no_command g) (advanced_by g (Some c)) left index refl step_removed.endpoints
      (λ t y there. ap (λ (ts : List Transfer). slice_get ts t) step_removed.transfers ∙ there) step_removed.removals are
