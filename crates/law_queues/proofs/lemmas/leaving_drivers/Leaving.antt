-- What each step of an endpoint's leave changes.
use Rattle.std.proofs.Common.{◌≡◌, ◌≢◌, ℕ, suc, Bool, true, false, not, ◌||◌, ◌&&◌, cond, nat_lt, List, set, slice_get, Option, Some, None, ap, sym, subst, ◌∙◌, ⊎_elim, inl, inr, refl}
use Rattle.std.specs.Prelude.{◌⊎◌}
use Rattle.std.proofs.lemmas.Bool.{cases_eq, false≢true}
use Rattle.std.proofs.lemmas.Option.{same_Some}
use Rattle.law_common.proofs.Booleans.{either_way, less_met}
use Rattle.law_common.proofs.Lists.{set_here, set_there}
use Rattle.usb_base.specs.declared.endpoints.EndCause.{EndCause}
use Rattle.word_mem.specs.Memory.{Mem}
use Rattle.drv_table.specs.declared.content.Endpoint.{Endpoint}
use Rattle.drv_table.specs.declared.content.Command.{Command}
use Rattle.drv_table.specs.declared.content.Command.TheVariants as unfinished
use Rattle.drv_table.specs.declared.rows.DriverRow.TheVariants as rows
use Rattle.drv_table.specs.DriverContent.{DriverContent}
use Rattle.drv_table.specs.Accepting.{Offered}
use Rattle.drv_table.specs.CancelOffers.{accepted_cancel, first_end}
use Rattle.drv_table.specs.Parts.{Parts}
use Rattle.drv_table.specs.Releases.{ended_by_cancel}
use Rattle.drv_table.specs.Commands.{no_command, leave_ring, advanced_by}
use Rattle.drv_table.specs.Rows.{after_driver_row}
use Rattle.law_driver.specs.endpoint_lives.Lives.{is_one_of, told_end, may_meet}
use Rattle.law_driver.proofs.lemmas.endpoint_lives.Lives.{one_of_joined, one_of_end, one_of_others, none_told, told_uncancelled, told_other, told_alike, linked_met, waiting_met}
use Rattle.law_driver.specs.run_owners.Accepts.{Cancels}
use Rattle.law_driver.specs.chained_transfers.Asynchronous.{StandsAsynchronous}
use Rattle.law_driver.specs.chained_transfers.AsynchronousTurns.{AsynchronousTakesTurns}
use Rattle.law_driver.proofs.lemmas.chained_transfers.Rows.{left}
use Rattle.law_driver.proofs.lemmas.chained_transfers.Staying.{fresh_stands_linked, linked_stands_alive}
use Rattle.law_queues.specs.leaving_drivers.Before.{WasSame, UnlinksAtMost, IsAsBefore, NearSame, NearFewer}

-- ---- one endpoint

pub record IsLike (x z : Endpoint) : Type 0 where
  pub queue : z.queue ≡ x.queue
  pub dummy : z.dummy ≡ x.dummy
  pub desc : z.desc ≡ x.desc
  pub next : z.next ≡ x.next
  pub gone : z.gone ≡ x.gone
  pub ends : told_end z ≡ told_end x

like_back : (x z : Endpoint) → IsLike x z → IsLike z x
like_back x z l = record { queue = sym l.queue; dummy = sym l.dummy; desc = sym l.desc; next = sym l.next; gone = sym l.gone; ends = sym l.ends }

was_like : (d : DriverContent) (i : ℕ) (x z : Endpoint) → slice_get d.endpoints i ≡ Some x → IsLike x z → WasSame d i z
was_like d i x z here l = record { endpoint = x; here = here; queue = l.queue; dummy = l.dummy; desc = l.desc; next = l.next; gone = l.gone; ends = l.ends }

pub was_itself : (d : DriverContent) (i : ℕ) (z : Endpoint) → slice_get d.endpoints i ≡ Some z → WasSame d i z
was_itself d i z here = was_like d i z z here (record { queue = refl; dummy = refl; desc = refl; next = refl; gone = refl; ends = refl })

-- ---- lists in which one is changed

-- number k is the changed one, or stays
pub pair_which : (xs : List Endpoint) (e k : ℕ) (x z a b : Endpoint) → slice_get xs e ≡ Some x → slice_get xs k ≡ Some a → slice_get (set xs e z) k ≡ Some b → ((k ≡ e) × (a ≡ x) × (b ≡ z)) ⊎ ((k ≢ e) × (b ≡ a))
pair_which xs e k x z a b here was now = ⊎_elim
    (λ (own : k ≡ e).
    inl (own, same_Some a x (sym was ∙ ap (slice_get xs) own ∙ here), same_Some b z (sym now ∙ ap (slice_get (set xs e z)) own ∙ set_here xs e x z here)))
    (λ (other : k ≢ e). inr (other, same_Some b a (sym now ∙ set_there xs e k z other ∙ was))) (cases_eq k e)

module _ (d f : DriverContent) (e : ℕ) (x z : Endpoint) (here : slice_get d.endpoints e ≡ Some x) (are : f.endpoints ≡ set d.endpoints e z) (like : IsLike x z) where
  pub set_ends : (i : ℕ) (w : Endpoint) → slice_get f.endpoints i ≡ Some w → WasSame d i w
  set_ends i w now = ⊎_elim
      (λ (own : i ≡ e).
      let is : w ≡ z = same_Some w z (sym now ∙ ap (λ (xs : List Endpoint). slice_get xs i) are ∙ ap (slice_get (set d.endpoints e z)) own ∙ set_here d.endpoints e x z here) in
      subst (λ (r : Endpoint). WasSame d i r) (sym is) (was_like d i x z (ap (slice_get d.endpoints) own ∙ here) like))
      (λ (other : i ≢ e). was_itself d i w (sym (set_there d.endpoints e i z other) ∙ ap (λ (xs : List Endpoint). slice_get xs i) (sym are) ∙ now)) (cases_eq i e)

  pub set_ends_now : (i : ℕ) (w : Endpoint) → slice_get d.endpoints i ≡ Some w → WasSame f i w
  set_ends_now i w was = ⊎_elim
      (λ (own : i ≡ e).
      let is : w ≡ x = same_Some w x (sym was ∙ ap (slice_get d.endpoints) own ∙ here) in
      subst (λ (r : Endpoint). WasSame f i r) (sym is)
      (was_like f i z x (ap (λ (xs : List Endpoint). slice_get xs i) are ∙ ap (slice_get (set d.endpoints e z)) own ∙ set_here d.endpoints e x z here) (like_back x z like)))
      (λ (other : i ≢ e). was_itself f i w (ap (λ (xs : List Endpoint). slice_get xs i) are ∙ set_there d.endpoints e i z other ∙ was)) (cases_eq i e)

-- .. and one that is as near as it was
near_set : (d f : DriverContent) (e : ℕ) (x z : Endpoint) → slice_get d.endpoints e ≡ Some x → f.endpoints ≡ set d.endpoints e z → may_meet f e z ≡ may_meet d e x
    → ((k : ℕ) → k ≢ e → is_one_of k f.waiting ≡ is_one_of k d.waiting) → f.rung ≡ d.rung → NearSame d f
near_set d f e x z here are near others rung k a b was now = ⊎_elim
    (λ (own : (k ≡ e) × (a ≡ x) × (b ≡ z)).
    ap (λ (i : ℕ). may_meet f i b) own.0 ∙ ap (may_meet f e) own.2 ∙ near ∙ ap (may_meet d e) (sym own.1) ∙ ap (λ (i : ℕ). may_meet d i a) (sym own.0))
    (λ (other : (k ≢ e) × (b ≡ a)).
    ap (may_meet f k) other.1 ∙ ap (λ (w : Bool). a.linked || (w || is_one_of k f.rung)) (others k other.0) ∙ ap (λ (r : List ℕ). a.linked || (is_one_of k d.waiting || is_one_of k r)) rung)
    (pair_which d.endpoints e k x z a b here was (ap (λ (xs : List Endpoint). slice_get xs k) (sym are) ∙ now))

-- where no endpoint changes
near_by : (d f : DriverContent) → f.endpoints ≡ d.endpoints → ((k : ℕ) (x : Endpoint) → may_meet f k x ≡ may_meet d k x) → NearSame d f
near_by d f are same k a b was now =
    let is : b ≡ a = same_Some b a (sym now ∙ ap (λ (xs : List Endpoint). slice_get xs k) are ∙ was) in
    ap (may_meet f k) is ∙ same k a

ends_by : (d f : DriverContent) → f.endpoints ≡ d.endpoints → (i : ℕ) (z : Endpoint) → slice_get f.endpoints i ≡ Some z → WasSame d i z
ends_by d f are i z here = was_itself d i z (ap (λ (xs : List Endpoint). slice_get xs i) (sym are) ∙ here)

-- ---- commands

unlinks_by : (d : DriverContent) (o : Option Command) → d.command ≡ o → UnlinksAtMost o → UnlinksAtMost d.command
unlinks_by d o is may = subst UnlinksAtMost (sym is) may

-- ---- a cancel is accepted

-- one that had not ended goes on as far as its report has it, and one that had, has ended as it had
cancelled_end : (x : Endpoint) → StandsAsynchronous x → x.cancelled ≡ false → x.gone ≡ false → told_end (record x { cancelled = true; ended = first_end x.ended }) ≡ told_end x
cancelled_end x s fresh kept = by x.ended refl
  where
    z : Endpoint
    z = record x { cancelled = true; ended = first_end x.ended }

    -- told by these
    told_by : Option EndCause → Bool → Option EndCause
    told_by o gone = cond (ended_by_cancel o && true && not gone) None o

    by : (o : Option EndCause) → x.ended ≡ o → told_end (record x { cancelled = true; ended = first_end x.ended }) ≡ told_end x
    by None is = ap (λ (o : Option EndCause). told_by (first_end o) x.gone) is ∙ ap (told_by (first_end None)) kept ∙ sym (none_told x is)
    by (Some cause) is =
        let off = no_cancel cause (λ on. absurd (false≢true (sym fresh ∙ s.cancel (ap ended_by_cancel is ∙ on)))) in
        told_other z (ap (λ (o : Option EndCause). ended_by_cancel (first_end o)) is ∙ off) ∙ ap first_end is ∙ sym is ∙ sym (told_uncancelled x fresh)
      where
        no_cancel : (c : EndCause) → (ended_by_cancel (Some c) ≡ true → ⊥) → ended_by_cancel (Some c) ≡ false
        no_cancel c never = off (ended_by_cancel (Some c)) refl
          where
            off : (b : Bool) → ended_by_cancel (Some c) ≡ b → ended_by_cancel (Some c) ≡ false
            off true on = absurd (never on)
            off false none = none

pub cancel_is_as_before : (d : DriverContent) (m : Mem) (o : Offered) → AsynchronousTakesTurns d → Cancels d m o → IsAsBefore d o.driver × NearSame d o.driver
cancel_is_as_before d m o turns why = subst (λ (g : Offered). IsAsBefore d g.driver × NearSame d g.driver) (sym why.is) (before, near)
  where
    e : ℕ
    e = why.number

    x : Endpoint
    x = why.endpoint

    z : Endpoint
    z = record why.endpoint { cancelled = true; ended = first_end why.endpoint.ended }

    s : StandsAsynchronous why.endpoint
    s = turns.asynchronous.endpoints why.number why.endpoint why.here

    like : IsLike x z
    like = record {
      queue = refl;
      dummy = refl;
      desc = refl;
      next = refl;
      gone = refl;
      ends = cancelled_end x s why.fresh (linked_stands_alive x s (fresh_stands_linked x s why.fresh));
    }

    before : IsAsBefore d (accepted_cancel d e x)
    before = record {
      book = refl;
      notes = refl;
      transfers = refl;
      harvested = refl;
      reports = refl;
      store = refl;
      idle = unlinks_by d None why.idle tt;
      idle_now = tt;
      ends = set_ends d (accepted_cancel d e x) e x z why.here refl like;
      ends_now = set_ends_now d (accepted_cancel d e x) e x z why.here refl like;
    }

    near : NearSame d (accepted_cancel d e x)
    near = near_set d (accepted_cancel d e x) e x z why.here refl refl (λ k other. refl) refl

-- ---- its store unlinks it

unlinked_either : (P : DriverContent → Type 0) (d : DriverContent) (e : ℕ) (o : Option Endpoint) → slice_get d.endpoints e ≡ o → P (no_command d)
    → ((x : Endpoint) → slice_get d.endpoints e ≡ Some x → x.linked ≡ true → P (left d e x)) → P (leave_ring (no_command d) e o)
unlinked_either P d e None here none gone = none
unlinked_either P d e (Some x) here none gone = by x.linked refl
  where
    by : (b : Bool) → x.linked ≡ b → P (cond b (left d e x) (no_command d))
    by true is = gone x here is
    by false is = none

left_like : (x : Endpoint) → IsLike x (record x { linked = false })
left_like x = record { queue = refl; dummy = refl; desc = refl; next = refl; gone = refl; ends = told_alike x (record x { linked = false }) refl refl refl }

pub advanced_as_before : (d : DriverContent) (e b link : ℕ) → d.command ≡ Some (unfinished.Unlink e b link) → IsAsBefore d (advanced_by d (Some (unfinished.Unlink e b link))) × NearSame d (advanced_by d (Some (unfinished.Unlink e b link)))
advanced_as_before d e b link is = by (nat_lt (suc d.made) 1)
  where
    idle : UnlinksAtMost d.command
    idle = unlinks_by d (Some (unfinished.Unlink e b link)) is tt

    more : IsAsBefore d (record d { made = suc d.made })
    more = record {
      book = refl;
      notes = refl;
      transfers = refl;
      harvested = refl;
      reports = refl;
      store = refl;
      idle = idle;
      idle_now = idle;
      ends = ends_by d (record d { made = suc d.made }) refl;
      ends_now = ends_by (record d { made = suc d.made }) d refl;
    }

    none : IsAsBefore d (no_command d)
    none = record {
      book = refl;
      notes = refl;
      transfers = refl;
      harvested = refl;
      reports = refl;
      store = refl;
      idle = idle;
      idle_now = tt;
      ends = ends_by d (no_command d) refl;
      ends_now = ends_by (no_command d) d refl;
    }

    gone : (x : Endpoint) → slice_get d.endpoints e ≡ Some x → x.linked ≡ true → IsAsBefore d (left d e x) × NearSame d (left d e x)
    gone x here on = (
      record {
        book = refl;
        notes = refl;
        transfers = refl;
        harvested = refl;
        reports = refl;
        store = refl;
        idle = idle;
        idle_now = tt;
        ends = set_ends d (left d e x) e x (record x { linked = false }) here refl (left_like x);
        ends_now = set_ends_now d (left d e x) e x (record x { linked = false }) here refl (left_like x);
      },
      near_set d (left d e x) e x (record x { linked = false }) here refl
          (waiting_met (left d e x) e (record x { linked = false }) (one_of_end e d.waiting) ∙ sym (linked_met d e x on))
          (λ k other. one_of_others k e d.waiting other) refl,
    )

    by : (c : Bool) → IsAsBefore d (cond c (record d { made = suc d.made }) (leave_ring (no_command d) e (slice_get d.endpoints e))) × NearSame d (cond c (record d { made = suc d.made }) (leave_ring (no_command d) e (slice_get d.endpoints e)))
    by true = (more, near_by d (record d { made = suc d.made }) refl (λ k x. refl))
    by false = unlinked_either (λ (f : DriverContent). IsAsBefore d f × NearSame d f) d e (slice_get d.endpoints e) refl (none, near_by d (no_command d) refl (λ k x. refl)) gone

pub unlink_is_as_before : (p : Parts) (e b link c at v : ℕ) → p.driver.command ≡ Some (unfinished.Unlink e b link)
    → IsAsBefore p.driver (after_driver_row (rows.Store c at v) p).driver × NearSame p.driver (after_driver_row (rows.Store c at v) p).driver
unlink_is_as_before p e b link c at v is =
    subst (λ (o : Option Command). IsAsBefore p.driver (advanced_by p.driver o) × NearSame p.driver (advanced_by p.driver o)) (sym is) (advanced_as_before p.driver e b link is)

-- ---- the doorbell

pub bell_is_as_before : (p : Parts) → p.driver.command ≡ None → IsAsBefore p.driver (after_driver_row rows.RingBell p).driver × NearSame p.driver (after_driver_row rows.RingBell p).driver
bell_is_as_before p idle =
    let d = p.driver in
    let f = (after_driver_row rows.RingBell p).driver in
    let none = unlinks_by d None idle tt in (
      record {
        book = refl;
        notes = refl;
        transfers = refl;
        harvested = refl;
        reports = refl;
        store = refl;
        idle = none;
        idle_now = none;
        ends = ends_by d f refl;
        ends_now = ends_by f d refl;
      },
      near_by d f refl (λ k x.
          ap (λ (b : Bool). x.linked || b) (one_of_joined k d.rung d.waiting ∙ either_way (is_one_of k d.rung) (is_one_of k d.waiting))),
    )

pub status_is_as_before : (p : Parts) (heard : Bool) → p.driver.command ≡ None
    → IsAsBefore p.driver (after_driver_row (rows.ReadStatus heard) p).driver × NearSame p.driver (after_driver_row (rows.ReadStatus heard) p).driver
status_is_as_before p heard idle =
    let d = p.driver in
    let f = (after_driver_row (rows.ReadStatus heard) p).driver in
    let none = unlinks_by d None idle tt in (
      record {
        book = refl;
        notes = refl;
        transfers = refl;
        harvested = refl;
        reports = refl;
        store = refl;
        idle = none;
        idle_now = none;
        ends = ends_by d f refl;
        ends_now = ends_by f d refl;
      },
      near_by d f refl (λ k x. refl),
    )

pub frame_is_as_before : (p : Parts) (n : ℕ) → p.driver.command ≡ None
    → IsAsBefore p.driver (after_driver_row (rows.ReadFrame n) p).driver × NearSame p.driver (after_driver_row (rows.ReadFrame n) p).driver
frame_is_as_before p n idle =
    let d = p.driver in
    let f = (after_driver_row (rows.ReadFrame n) p).driver in
    let none = unlinks_by d None idle tt in (
      record {
        book = refl;
        notes = refl;
        transfers = refl;
        harvested = refl;
        reports = refl;
        store = refl;
        idle = none;
        idle_now = none;
        ends = ends_by d f refl;
        ends_now = ends_by f d refl;
      },
      near_by d f refl (λ k x. refl),
    )

-- ---- Async Advance is cleared

pub clear_is_as_before : (p : Parts) → p.driver.command ≡ None → IsAsBefore p.driver (after_driver_row rows.ClearAdvance p).driver × NearFewer p.driver (after_driver_row rows.ClearAdvance p).driver
clear_is_as_before p idle =
    let d = p.driver in
    let f = (after_driver_row rows.ClearAdvance p).driver in
    let none = unlinks_by d None idle tt in (
      record {
        book = refl;
        notes = refl;
        transfers = refl;
        harvested = refl;
        reports = refl;
        store = refl;
        idle = none;
        idle_now = none;
        ends = ends_by d f refl;
        ends_now = ends_by f d refl;
      },
      λ k x z was now on.
          let is : z ≡ x = same_Some z x (sym now ∙ was) in
          less_met x.linked (is_one_of k d.waiting) (is_one_of k d.rung) (ap (may_meet f k) (sym is) ∙ on),
    )
