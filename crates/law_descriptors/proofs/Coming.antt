-- A descriptor that waits in its frame while a command links members is lent, and may be linked next.
use Rattle.std.proofs.Common.{◌≡◌, ℕ, zero, suc, ◌*◌, ◌/◌, ◌≤◌, Bool, true, false, not, List, [], ◌∷◌, length, drop, slice_get, Option, Some, None, option_map, ap, sym, subst, ◌∙◌, refl, arith}
use Rattle.std.specs.List.{list_any}
use Rattle.std.proofs.lemmas.Bool.{false≢true, and_parts}
use Rattle.std.proofs.lemmas.Option.{same_Some}
use Rattle.law_common.proofs.Booleans.{not_on}
use Rattle.mem_runs.specs.Book.{slot_of}
use Rattle.mem_runs.specs.declared.slots.Slot.{Slot}
use Rattle.mem_runs.specs.declared.slots.Slot.TheVariants.{Empty, Keeps, Lends}
use Rattle.drv_table.specs.declared.content.Transfer.{Transfer}
use Rattle.drv_table.specs.declared.content.Command.{Command}
use Rattle.drv_table.specs.declared.content.Command.TheVariants as unfinished
use Rattle.drv_table.specs.DriverContent.{DriverContent}
use Rattle.drv_table.specs.Commands.{events_of, removes_members}
use Rattle.claims_driver.specs.Owners.{Described, HasRun, runs_of_transfer, views_of}
use Rattle.claims_driver.specs.Leaving.{HasOwners}
use Rattle.law_driver.proofs.lemmas.run_owners.Runs.{placed_run}
use Rattle.drv_table.specs.declared.content.Endpoint.{Endpoint}
use Rattle.drv_periodic_table.specs.Periodic.{note_at, descriptor_member}
use Rattle.drv_chains.specs.declared.members.Member.{Member}
use Rattle.drv_chains.specs.Chains.{id_of}
use Rattle.claims_driver.specs.FrameListMembers.{framed_of, is_chained}
use Rattle.law_driver.specs.listed_members.Members.{IsWaitingOf}
use Rattle.law_driver.proofs.lemmas.listed_members.Standing.{IsSeen, seen, descriptor_block}
use Rattle.law_structures.specs.lent_structures.Structures.{StructureSets}
use Rattle.law_frames.specs.Met.{Kind}
use Rattle.law_descriptors.specs.Both.{both}
use Rattle.law_descriptors.specs.Meeting.{kind_of_descriptor, kind_of}
use Rattle.law_descriptors.specs.ListRows.{Comes}
use Rattle.claims_driver.specs.LentRuns.{begins_in, is_lending, still_lends, AreLent}
use Rattle.law_driver_ring.specs.Inventory.{IsLent}
use Rattle.law_descriptors.specs.Coming.{IsWaiting, DescriptorsAreLent, LinkingLendsNothing, WaitingAreLent, WaitingComes, WaitingMembersCome}
use Rattle.law_descriptors.proofs.ListComing.{lent_comes}
use Rattle.law_descriptors.proofs.ListFresh.{waiting_is_fresh}

-- ---- what is lent

slot_lent : (d : DriverContent) (b : ℕ) → AreLent d → d.book.taken ≡ [] → HasRun (slot_of d.book.slots b) → IsLent (slot_of d.book.slots b)
slot_lent d b lent none has = by (slot_of d.book.slots b) refl has
  where
    by : (s : Slot) → slot_of d.book.slots b ≡ s → HasRun s → IsLent s
    by Empty is has = has
    by (Lends r) is has = tt
    by (Keeps r) is has = let k = lent.kept b r is in let e : begins_in b d.book.taken ≡ false = ap (begins_in b) none in absurd (false≢true (sym e ∙ k))

pub descriptors_are_lent : DescriptorsAreLent
descriptors_are_lent d t y has lent done there sort held =
    let here : (views_of d).transfer t ≡ Some (runs_of_transfer y) = ap (option_map runs_of_transfer) there in
    let o = has.owned.each.described t (runs_of_transfer y) here sort held in
    record {
      here = here;
      held = held;
      isochronous = sort;
      lent = slot_lent d y.first lent (lent.lent done) (placed_run y.first (Described ((views_of d).descriptor y.first).split t) o.descriptor);
    }

none_left : {X : Type 0} (f : X → Bool) (n : ℕ) (xs : List X) → length xs ≤ n → list_any f (drop n xs) ≡ false
none_left f n [] late = by n
  where
    by : (n : ℕ) → list_any f (drop n []) ≡ false
    by zero = refl
    by (suc n) = refl
none_left f zero (x ∷ xs) late = absurd (omega (arith, late))
none_left f (suc n) (x ∷ xs) late = none_left f n xs (omega (arith, late))

pub linking_lends_nothing : LinkingLendsNothing
linking_lends_nothing c made late = none_left is_lending made (events_of c) late

-- ---- one that waits

kept_back : (d : DriverContent) (t : ℕ) (y : Transfer) → HasOwners d → IsWaiting d t y → (b : Bool) → y.released ≡ b → y.released ≡ false
kept_back d t y has w false is = is
kept_back d t y has w true is =
    let gone = has.orderly.untold t y w.here is w.unreported w.endpoint w.its in
    absurd (false≢true (sym ((has.orderly.steady y.endpoint w.endpoint w.its).gone gone).1 ∙ w.chained))

waiting_held : (d : DriverContent) (t : ℕ) (y : Transfer) → HasOwners d → IsWaiting d t y → y.released ≡ false
waiting_held d t y has w = kept_back d t y has w y.released refl

pub waiting_are_lent : WaitingAreLent
waiting_are_lent d c t y has lent is late w =
    descriptors_are_lent d t y has lent (ap (λ (o : Option Command). still_lends o d.made) is ∙ linking_lends_nothing c d.made late) w.here w.sort (waiting_held d t y has w)

no_unchain : (d : DriverContent) (c : Command) → d.command ≡ Some c → removes_members c ≡ false → (e : ℕ) → d.command ≡ Some (unfinished.Unchain e) → ⊥
no_unchain d c is keeps e now =
    let same : c ≡ unfinished.Unchain e = same_Some c (unfinished.Unchain e) (sym is ∙ now) in
    false≢true (sym keeps ∙ ap removes_members same)

pub waiting_comes : WaitingComes
waiting_comes base member met recent descs parts hand frame c d index command t y runs described are has lent is links late w =
    lent_comes base member met recent descs parts hand frame c d t (runs_of_transfer y) runs described (waiting_are_lent d command t y has lent is late w)
    (waiting_is_fresh d recent index t y w.endpoint has are w.here w.sort w.unreported (waiting_held d t y has w) w.its w.chained (no_unchain d command is links))

-- ---- a member that waits

pub waiting_of : (d : DriverContent) (e first : ℕ) (m : Member) → (w : IsWaitingOf d e first m) → (s : IsSeen d.endpoints d.transfers w.number w.placed) → IsWaiting d w.number s.transfer
waiting_of d e first m w s =
    let parts = and_parts (not s.transfer.reported) _ (sym s.waits ∙ w.waits) in
    by (slice_get d.endpoints s.transfer.endpoint) refl (not_on s.transfer.reported parts.0) parts.1
  where
    by : (o : Option Endpoint) → slice_get d.endpoints s.transfer.endpoint ≡ o → s.transfer.reported ≡ false → is_chained (option_map framed_of (slice_get d.endpoints s.transfer.endpoint)) ≡ true
        → IsWaiting d w.number s.transfer
    by None is off on = absurd (false≢true (sym (ap (λ (k : Option Endpoint). is_chained (option_map framed_of k)) is) ∙ on))
    by (Some x) is off on =
        record { here = s.there; sort = s.sort; unreported = off; endpoint = x; its = is; chained = sym (ap (λ (k : Option Endpoint). is_chained (option_map framed_of k)) is) ∙ on }

comes_as : (d : DriverContent) (member : ℕ → Bool) (recent : ℕ → Option Kind) (parts : StructureSets) (b : ℕ) → Comes member recent parts (32 * b) (kind_of_descriptor (note_at d.periodic.notes b).split)
    → Comes member recent parts (32 * (id_of (descriptor_member d.periodic.notes b) / 32)) (kind_of d.periodic (descriptor_member d.periodic.notes b))
comes_as d member recent parts b k =
    subst (λ (n : ℕ). Comes member recent parts (32 * n) (kind_of_descriptor (note_at d.periodic.notes n).split)) (sym (descriptor_block d.periodic b)) k

pub waiting_members_come : WaitingMembersCome
waiting_members_come base member met recent descs parts hand frame c d index command e first m runs described are has lent is links late w =
    let s = seen d.endpoints d.transfers w.number w.placed w.here in
    let k = waiting_comes base member met recent descs parts hand frame c d index command w.number s.transfer runs described are has lent is links late (waiting_of d e first m w s) in
    subst (λ (n : Member). Comes member recent (both descs parts) (32 * (id_of n / 32)) (kind_of d.periodic n))
    (ap (descriptor_member d.periodic.notes) (sym s.block) ∙ w.is) (comes_as d member recent (both descs parts) s.transfer.first k)
