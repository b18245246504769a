-- The descriptors that a command has still to link stand in runs of their own, and in frames of their own.
use Rattle.std.proofs.Common.{◌≡◌, ◌≢◌, ℕ, zero, suc, ◌/◌, ◌<◌, ◌≤◌, Bool, true, false, List, [], ◌∷◌, nat_eq, length, Some, inr, ap, refl, sym, subst, ◌∙◌, ⊎_elim, arith}
use Rattle.std.specs.Prelude.{◌||◌, nat_le, nat_lt}
use Rattle.std.specs.List.{AllByRecursion}
use Rattle.std.proofs.lemmas.Bool.{false≢true, eq-eqb, eqb-true}
use Rattle.std.proofs.lemmas.Option.{same_Some, slice_get_within}
use Rattle.law_common.proofs.Numbers.{not_below}
use Rattle.law_common.proofs.Booleans.{named_not, or_neither}
use Rattle.drv_chains.specs.declared.members.Descriptor.{Descriptor}
use Rattle.drv_chains.specs.declared.members.QueueHead.{QueueHead as Queue}
use Rattle.drv_chains.specs.declared.members.Member.{Member}
use Rattle.drv_chains.specs.declared.members.Member.TheVariants.{Once, Each}
use Rattle.drv_chains.specs.Chains.{id_of}
use Rattle.drv_members.specs.Members.{frame_of, is_linked}
use Rattle.drv_periodic_table.specs.Periodic.{note_at, descriptor_name}
use Rattle.drv_table.specs.declared.content.Command.TheVariants as unfinished
use Rattle.drv_table.specs.DriverContent.{DriverContent}
use Rattle.claims_driver.specs.Owners.{Owner, FrameList, QueueHead, Described, IsPlaced}
use Rattle.mem_runs.specs.Book.{slot_of}
use Rattle.claims_driver.specs.Leaving.{HasOwners}
use Rattle.claims_driver.specs.FrameListMembers.{Placed, placed_in, is_among, member_of}
use Rattle.law_driver.specs.listed_members.Members.{is_in_names, AreOnce, IsStanding, IsQueueOf, IsWaitingOf, IsDescribing, IsUnderWay, IsListed}
use Rattle.law_driver.proofs.lemmas.listed_members.Standing.{seen, owns, descriptor_placed, descriptor_block, standing_owner, transfer_of}
use Rattle.law_driver.proofs.lemmas.listed_members.Owned.{queue_owned}
use Rattle.law_driver.proofs.lemmas.listed_members.Describing.{linked_as}
use Rattle.law_frame_list.proofs.lemmas.list_spread.Spreading.{queue_there, standing_there}
use Rattle.claims_driver.specs.DueMembers.{framed_to, IsWaitingFor, HasOneEach}
use Rattle.law_frame_list.proofs.lemmas.list_queued.Leading.{FramesApart, AreOnces}

-- the run of one that waits
pub waiting_owned : (d : DriverContent) (e first : ℕ) (m : Member) → (has : HasOwners d) → (w : IsWaitingOf d e first m) → IsPlaced (slot_of d.book.slots) has.owner (id_of m / 32) (Described (note_at d.periodic.notes w.placed.block).split w.number)
waiting_owned d e first m has w =
    subst (λ b. IsPlaced (slot_of d.book.slots) has.owner b (Described (note_at d.periodic.notes w.placed.block).split w.number))
    (sym (descriptor_block d.periodic w.placed.block) ∙ ap (λ (x : Member). id_of x / 32) w.is) (descriptor_placed d w.number w.placed has w.here (inr w.waits))

number_of : Owner → ℕ
number_of (Described split t) = suc t
number_of _ = 0

-- it isn't linked yet
pub standing_apart : (d : DriverContent) (e first count : ℕ) (m : Member) → d.command ≡ Some (unfinished.Iso e first count) → (has : HasOwners d) → (w : IsWaitingOf d e first m) → is_in_names (id_of m) d.periodic.queued ≡ true
    → (k : Descriptor) → (s : IsStanding d (Once k)) → k.id / 32 ≢ id_of m / 32
standing_apart d e first count m is has w named k s same =
    let o = owns d has in
    let one = standing_owner d (Once k) o s in
    let two = o.descriptors w.number w.placed w.here (inr w.waits) in
    let block : id_of m / 32 ≡ w.placed.block = sym (ap (λ (x : Member). id_of x / 32) w.is) ∙ descriptor_block d.periodic w.placed.block in
    let both = ap (λ b. transfer_of (o.owner b)) (same ∙ block) in
    let number : s.number ≡ w.number = omega (arith, one, two, both) in
    let placed : s.placed ≡ w.placed = same_Some s.placed w.placed (sym s.here ∙ ap (placed_in d.endpoints d.transfers) number ∙ w.here) in
    ⊎_elim
    (λ (on : is_among s.number d.periodic.unlinks ≡ true). false≢true (sym (o.reported w.number w.placed w.here (ap (λ n. is_among n d.periodic.unlinks) (sym number) ∙ on)) ∙ w.waits))
    (λ z.
    named_not (nat_lt s.number first) (nat_le 1 d.made) (is_in_names (id_of (member_of d.periodic s.placed)) d.periodic.queued)
    (ap (λ (p : Placed). is_in_names (id_of (member_of d.periodic p)) d.periodic.queued) placed ∙ ap (λ (x : Member). is_in_names (id_of x) d.periodic.queued) w.is ∙ named)
    (ap (λ n. nat_lt n first) number ∙ not_below w.number first w.later) (sym (linked_as d e first count s.number s.placed is) ∙ z.1)) s.stands

pub queue_apart : (d : DriverContent) (e first : ℕ) (m : Member) → (has : HasOwners d) → (w : IsWaitingOf d e first m) → (q : Queue) → (s : IsQueueOf d q) → q.id / 32 ≢ id_of m / 32
queue_apart d e first m has w q s same =
    let p = waiting_owned d e first m has w in
    let one : QueueHead s.number ≡ Described (note_at d.periodic.notes w.placed.block).split w.number = sym (queue_owned d q has s).owned ∙ ap has.owner same ∙ p.owned in
    cc

pub member_apart : (d : DriverContent) (e first count : ℕ) (m : Member) → d.command ≡ Some (unfinished.Iso e first count) → (has : HasOwners d) → IsListed d → IsWaitingOf d e first m → is_in_names (id_of m) d.periodic.queued ≡ true
    → (x : Member) → is_linked d.periodic.list.members.schedule x ≡ true → id_of x / 32 ≢ id_of m / 32
member_apart d e first count m is has listed w named (Once k) on = standing_apart d e first count m is has w named k (standing_there d k listed on)
member_apart d e first count m is has listed w named (Each q) on = queue_apart d e first m has w q (queue_there d q listed on)

pub list_apart : (d : DriverContent) (e first : ℕ) (m : Member) → HasOwners d → IsWaitingOf d e first m → 0 ≢ id_of m / 32
list_apart d e first m has w same =
    let p = waiting_owned d e first m has w in
    let one : FrameList ≡ Described (note_at d.periodic.notes w.placed.block).split w.number = sym has.owned.each.list.owned ∙ ap has.owner same ∙ p.owned in
    cc

-- ---- frames

pub way_of : (d : DriverContent) (e first count : ℕ) → d.command ≡ Some (unfinished.Iso e first count) → IsListed d → IsDescribing d e first count
way_of d e first count is listed = subst (IsUnderWay d) is listed.way

waits_for_it : (d : DriverContent) (e first count : ℕ) (m : Member) → d.command ≡ Some (unfinished.Iso e first count) → 1 ≤ d.made → (w : IsWaitingOf d e first m) → (k : Descriptor) × ((Once k ≡ m) × IsWaitingFor d k e)
waits_for_it d e first count m is made w =
    let s = seen d.endpoints d.transfers w.number w.placed w.here in
    let within = slice_get_within d.transfers w.number s.transfer s.there in
    let b = w.placed.block in (
      record { id = descriptor_name (note_at d.periodic.notes b) b; frame = (note_at d.periodic.notes b).frame },
      (
        w.is,
        record {
          number = w.number;
          placed = w.placed;
          here = w.here;
          framed = subst (λ (c : _). w.number < framed_to c d.made (length d.transfers)) (sym is) (late d.made made within);
          endpoint = w.endpoint;
          waits = w.waits;
          is = refl;
        },
      ),
    )
  where
    late : (n : ℕ) → 1 ≤ n → w.number < length d.transfers → w.number < framed_to (Some (unfinished.Iso e first count)) n (length d.transfers)
    late zero some within = absurd (omega (arith, some))
    late (suc n) some within = within

frame_apart : (d : DriverContent) (e first count : ℕ) (x : Member) (ys : List Member) → d.command ≡ Some (unfinished.Iso e first count) → 1 ≤ d.made → HasOneEach d → IsWaitingOf d e first x → AllByRecursion (IsWaitingOf d e first) ys
    → is_in_names (id_of x) ys ≡ false → AllByRecursion (λ y. nat_eq (frame_of x) (frame_of y) ≡ false) ys
frame_apart d e first count x [] is made one w all none = tt
frame_apart d e first count x (y ∷ ys) is made one w all none =
    let n = or_neither (nat_eq (id_of y) (id_of x)) (is_in_names (id_of x) ys) none in
    (differ (nat_eq (frame_of x) (frame_of y)) refl n.0, frame_apart d e first count x ys is made one w all.1 n.1)
  where
    differ : (b : Bool) → nat_eq (frame_of x) (frame_of y) ≡ b → nat_eq (id_of y) (id_of x) ≡ false → nat_eq (frame_of x) (frame_of y) ≡ false
    differ false e1 named = e1
    differ true e1 named =
        let k = waits_for_it d e first count x is made w in
        let l = waits_for_it d e first count y is made all.0 in
        let frames : k.0.frame ≡ l.0.frame = ap frame_of k.1.0 ∙ eqb-true (frame_of x) (frame_of y) e1 ∙ sym (ap frame_of l.1.0) in
        let same : k.0 ≡ l.0 = one e k.0 l.0 k.1.1 l.1.1 frames in
        let names : id_of y ≡ id_of x = sym (ap id_of l.1.0) ∙ ap (λ (z : Descriptor). z.id) (sym same) ∙ ap id_of k.1.0 in
        absurd (false≢true (sym named ∙ eq-eqb (id_of y) (id_of x) names))

pub frames_apart : (d : DriverContent) (e first count : ℕ) (ms : List Member) → d.command ≡ Some (unfinished.Iso e first count) → 1 ≤ d.made → HasOneEach d → AllByRecursion (IsWaitingOf d e first) ms → AreOnce ms → FramesApart ms
frames_apart d e first count [] is made one all once = tt
frames_apart d e first count (x ∷ xs) is made one all once = (frame_apart d e first count x xs is made one all.0 all.1 once.0, frames_apart d e first count xs is made one all.1 once.1)

pub are_onces : (d : DriverContent) (e first : ℕ) (ms : List Member) → AllByRecursion (IsWaitingOf d e first) ms → AreOnces ms
are_onces d e first [] all = tt
are_onces d e first (x ∷ xs) all =
    let b = all.0.placed.block in
    ((record { id = descriptor_name (note_at d.periodic.notes b) b; frame = (note_at d.periodic.notes b).frame }, all.0.is), are_onces d e first xs all.1)

-- each of a list is named in it
more_named : (n : ℕ) (y : Member) (xs ms : List Member) → AllByRecursion (λ x. is_in_names (id_of x) ms ≡ true) xs → AllByRecursion (λ x. is_in_names (id_of x) (y ∷ ms) ≡ true) xs
more_named n y [] ms all = tt
more_named n y (x ∷ xs) ms all = (by (nat_eq (id_of y) (id_of x)), more_named n y xs ms all.1)
  where
    by : (b : Bool) → b || is_in_names (id_of x) ms ≡ true
    by true = refl
    by false = all.0

pub named_itself : (ms : List Member) → AllByRecursion (λ x. is_in_names (id_of x) ms ≡ true) ms
named_itself [] = tt
named_itself (x ∷ xs) = (ap (λ b. b || is_in_names (id_of x) xs) (eq-eqb (id_of x) (id_of x) refl), more_named 0 x xs xs (named_itself xs))
