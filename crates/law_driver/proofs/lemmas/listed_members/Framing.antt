-- The frames of new descriptors are chosen: all others keep their members.
use Rattle.std.proofs.Common.{◌≡◌, ◌≢◌, ℕ, zero, suc, ◌/◌, ◌<◌, ◌≤◌, Bool, true, false, not, ◌&&◌, ◌||◌, cond, nat_lt, nat_le, List, [], ◌∷◌, length, take, drop, get_or, set, slice_get, Option, Some, None, ap, sym, subst, ◌∙◌, ⊎_elim, inl, inr, refl, arith}
use Rattle.std.specs.Prelude.{◌⊎◌}
use Rattle.std.specs.List.{AllByRecursion}
use Rattle.std.proofs.lemmas.Bool.{false≢true, cases_lt}
use Rattle.std.proofs.lemmas.Bool.Decides.{nat_tests}
use Rattle.std.proofs.lemmas.List.{get_or-set_other}
use Rattle.std.proofs.lemmas.Option.{same_Some, slice_get_within}
use Rattle.law_common.proofs.Numbers.{is_less}
use Rattle.law_common.proofs.Booleans.{or_none, first_true}
use Rattle.bandwidth.specs.declared.placements.Placement.{Placement}
use Rattle.drv_chains.specs.declared.members.QueueHead.{QueueHead as Queue}
use Rattle.drv_chains.specs.declared.members.Member.{Member}
use Rattle.drv_chains.specs.declared.members.Member.TheVariants.{Once}
use Rattle.drv_chains.specs.Chains.{id_of}
use Rattle.drv_periodic_table.specs.declared.content.DescriptorNote.{DescriptorNote}
use Rattle.drv_periodic_table.specs.Periodic.{no_descriptor, note_at, descriptor_name, descriptor_member}
use Rattle.drv_periodic_table.specs.Frames.{frames_from, first_frame}
use Rattle.drv_table.specs.declared.content.Transfer.{Transfer}
use Rattle.drv_table.specs.declared.content.Command.{Command}
use Rattle.drv_table.specs.declared.content.Command.TheVariants as unfinished
use Rattle.drv_table.specs.DriverContent.{DriverContent}
use Rattle.drv_table.specs.Commands.{linked_on, advanced_by}
use Rattle.drv_table.specs.FrameChoice.{with_frames, last_frame, framed_notes, with_notes, placement_at, framed_by}
use Rattle.law_driver.proofs.lemmas.run_owners.Stays.{same_item}
use Rattle.claims_driver.specs.FrameListMembers.{Placed, placed_in, is_among, member_of}
use Rattle.law_driver.specs.listed_members.Members.{is_in_names, is_linked_by, IsStanding, IsQueueOf, IsWaitingOf, IsDescribing, IsUnderWay, to_come, IsListed}
use Rattle.law_driver.proofs.lemmas.listed_members.Schedules.{same_members}
use Rattle.law_driver.proofs.lemmas.listed_members.Standing.{seen, Owns, transfer_of, descriptor_block}
use Rattle.law_driver.proofs.lemmas.listed_members.Stays.{moved}
use Rattle.law_driver.proofs.lemmas.listed_members.Ranges.{in_range, range_all, range_once, range_few}

-- ---- the notes

frames_elsewhere : (p : Placement) (ts : List Transfer) (f : ℕ) (notes : List DescriptorNote) (c : ℕ) → AllByRecursion (λ (y : Transfer). c ≢ y.first) ts → note_at (with_frames p ts f notes) c ≡ note_at notes c
unfolding with_frames
frames_elsewhere p [] f notes c all = refl
frames_elsewhere p (y ∷ ts) f notes c all =
    frames_elsewhere p ts (frames_from p f 1) (set notes y.first (record (note_at notes y.first) { frame = f })) c all.1
    ∙ get_or-set_other notes y.first c (record (note_at notes y.first) { frame = f }) no_descriptor all.0

set_all : {X : Type 0} (P : X → Type 0) (xs : List X) (i : ℕ) (v d : X) → ((c : ℕ) → P (get_or xs c d)) → P v → (c : ℕ) → P (get_or (set xs i v) c d)
set_all P [] i v d each new c = each c
set_all P (x ∷ xs) zero v d each new zero = new
set_all P (x ∷ xs) zero v d each new (suc c) = each (suc c)
set_all P (x ∷ xs) (suc i) v d each new zero = each 0
set_all P (x ∷ xs) (suc i) v d each new (suc c) = set_all P xs i v d (λ k. each (suc k)) new c

next_small : (p : Placement) (f k : ℕ) → frames_from p f k < 1024
next_small p f k = omega arith

frames_small : (p : Placement) (ts : List Transfer) (f : ℕ) (notes : List DescriptorNote) → ((c : ℕ) → (note_at notes c).frame < 1024) → f < 1024 → (c : ℕ) → (note_at (with_frames p ts f notes) c).frame < 1024
unfolding with_frames
frames_small p [] f notes each small c = each c
frames_small p (y ∷ ts) f notes each small c =
    frames_small p ts (frames_from p f 1) (set notes y.first (record (note_at notes y.first) { frame = f }))
    (set_all (λ (n : DescriptorNote). n.frame < 1024) notes y.first (record (note_at notes y.first) { frame = f }) no_descriptor each small) (next_small p f 1) c

frames_split : (p : Placement) (ts : List Transfer) (f : ℕ) (notes : List DescriptorNote) (c : ℕ) → (note_at (with_frames p ts f notes) c).split ≡ (note_at notes c).split
unfolding with_frames
frames_split p [] f notes c = refl
frames_split p (y ∷ ts) f notes c =
    frames_split p ts (frames_from p f 1) (set notes y.first (record (note_at notes y.first) { frame = f })) c
    ∙ same_item (λ (n : DescriptorNote). n.split) notes y.first (record (note_at notes y.first) { frame = f }) no_descriptor refl c

first_small : (p : Placement) (n : ℕ) (last : Option ℕ) → first_frame p n last < 1024
first_small p n None = omega arith
first_small p n (Some last) = omega arith

record AreFramed (notes now : List DescriptorNote) (ts : List Transfer) : Type 0 where
  elsewhere : (c : ℕ) → AllByRecursion (λ (y : Transfer). c ≢ y.first) ts → note_at now c ≡ note_at notes c
  small : ((c : ℕ) → (note_at notes c).frame < 1024) → (c : ℕ) → (note_at now c).frame < 1024

are_framed : (d : DriverContent) (n e t count : ℕ) (o : Option Placement) → AreFramed d.periodic.notes (framed_notes d n e t count o) (take count (drop t d.transfers))
are_framed d n e t count None = record { elsewhere = λ c all. refl; small = λ each c. each c }
are_framed d n e t count (Some p) = record {
  elsewhere = λ c all. frames_elsewhere p (take count (drop t d.transfers)) (first_frame p n (last_frame d e t)) d.periodic.notes c all;
  small = λ each c. frames_small p (take count (drop t d.transfers)) (first_frame p n (last_frame d e t)) d.periodic.notes each (first_small p n (last_frame d e t)) c;
}

-- ---- the row

pub not_below : (t first : ℕ) → first ≤ t → nat_lt t first ≡ true → ⊥
not_below t first low on = at (nat_lt t first) refl on
  where
    at : (b : Bool) → nat_lt t first ≡ b → b ≡ true → ⊥
    at b is on = grind (arith, nat_tests)

range_blocks : (first count : ℕ) (xs : List Transfer) (c : ℕ) → ((t : ℕ) (y : Transfer) → slice_get xs t ≡ Some y → first ≤ t → c ≢ y.first) → AllByRecursion (λ (y : Transfer). c ≢ y.first) (take count (drop first xs))
range_blocks zero zero xs c each = tt
range_blocks zero (suc count) [] c each = tt
range_blocks zero (suc count) (x ∷ xs) c each = (each 0 x refl (omega arith), range_blocks zero count xs c (λ t y there low. each (suc t) y there (omega arith)))
range_blocks (suc first) zero [] c each = tt
range_blocks (suc first) (suc count) [] c each = tt
range_blocks (suc first) count (x ∷ xs) c each = range_blocks first count xs c (λ t y there low. each (suc t) y there (omega (arith, low)))

pub frames_listed : (d : DriverContent) (n e first count : ℕ) → d.command ≡ Some (unfinished.Iso e first count) → d.made ≡ 0 → Owns d → IsListed d → IsListed (framed_by d n (Some (unfinished.Iso e first count)))
frames_listed d n e first count is none owns old = subst IsListed (sym same) now
  where
    c : Command
    c = unfinished.Iso e first count

    ts : List Transfer
    ts = take count (drop first d.transfers)

    notes : List DescriptorNote
    notes = framed_notes d n e first count (placement_at d e)

    f : DriverContent
    f = with_notes d n ts notes

    g : DriverContent
    g = record f { made = 1 }

    same : framed_by d n (Some c) ≡ g
    same = ap (advanced_by f) is ∙ ap (λ k. cond (nat_lt (suc k) 2) (record f { made = suc k }) (linked_on f c)) none

    framed : AreFramed d.periodic.notes notes ts
    framed = are_framed d n e first count (placement_at d e)

    way : IsDescribing d e first count
    way = subst (λ (k : Option Command). IsUnderWay d k) is old.way

    member : Transfer → Member
    member y = descriptor_member notes y.first

    -- one of the new descriptors
    new : (t : ℕ) (y : Transfer) → slice_get d.transfers t ≡ Some y → first ≤ t → (p : Placed) × ((placed_in d.endpoints d.transfers t ≡ Some p) × ((p.endpoint ≡ e) × (p.waits ≡ true)))
    new t y there low = way.each t low (slice_get_within d.transfers t y there)

    new_owner : (t : ℕ) (y : Transfer) → slice_get d.transfers t ≡ Some y → first ≤ t → transfer_of (owns.owner y.first) ≡ suc t
    new_owner t y there low =
        let p = new t y there low in
        let s = seen d.endpoints d.transfers t p.0 p.1.0 in
        let block : p.0.block ≡ y.first = s.block ∙ ap (λ (z : Transfer). z.first) (same_Some s.transfer y (sym s.there ∙ there)) in
        sym (ap (λ b. transfer_of (owns.owner b)) block) ∙ owns.descriptors t p.0 p.1.0 (inr p.1.1.1)

    -- a descriptor before them keeps its member
    kept : (t : ℕ) (p : Placed) → placed_in d.endpoints d.transfers t ≡ Some p → (is_among t d.periodic.unlinks ≡ true) ⊎ (p.waits ≡ true) → t < first → note_at notes p.block ≡ note_at d.periodic.notes p.block
    kept t p here why low =
        framed.elsewhere p.block
        (range_blocks first count d.transfers p.block
        (λ u y there from same_block.
        let a = owns.descriptors t p here why in
        let b = new_owner u y there from in
        let c = ap (λ k. transfer_of (owns.owner k)) same_block in
        omega (arith, a, b, c, low, from)))

    within : (t : ℕ) (p : Placed) → placed_in d.endpoints d.transfers t ≡ Some p → t < length d.transfers
    within t p here = let s = seen d.endpoints d.transfers t p here in slice_get_within d.transfers t s.transfer s.there

    -- what is to be unlinked is none of them
    unlinks_below : (t : ℕ) (p : Placed) → placed_in d.endpoints d.transfers t ≡ Some p → is_among t d.periodic.unlinks ≡ true → t < first
    unlinks_below t p here on =
        ⊎_elim (λ (low : t < first). low)
        (λ (high : first ≤ t).
        let q = way.each t high (within t p here) in
        let same_p : q.0 ≡ p = same_Some q.0 p (sym q.1.0 ∙ here) in
        absurd (false≢true (sym (owns.reported t p here on) ∙ ap (λ (z : Placed). z.waits) (sym same_p) ∙ q.1.1.1))) (cases_lt t first)

    queues : (q : Queue) → IsQueueOf d q → IsQueueOf g q
    queues q s = record {
      number = s.number;
      framed = s.framed;
      here = s.here;
      chained = s.chained;
      queued = s.queued;
      place = s.place;
      placed = s.placed;
      is = s.is;
      valid = s.valid;
    }

    lower : (t : ℕ) → nat_lt t first ≡ true → t < first
    lower t on = ⊎_elim (λ (low : t < first). low) (λ (high : first ≤ t). absurd (not_below t first high on)) (cases_lt t first)

    linked_is : (t : ℕ) (p : Placed) → is_linked_by d.command d.made d.periodic t p ≡ nat_lt t first || false
    linked_is t p = ap (λ (k : Option Command). is_linked_by k d.made d.periodic t p) is ∙ ap (λ j. is_linked_by (Some c) j d.periodic t p) none

    below_d : (t : ℕ) (p : Placed) → t < first → is_linked_by d.command d.made d.periodic t p ≡ true
    below_d t p low = linked_is t p ∙ first_true (nat_lt t first) false (is_less t first low)

    below_g : (t : ℕ) (p : Placed) → t < first → is_linked_by g.command g.made g.periodic t p ≡ true
    below_g t p low =
        ap (λ (k : Option Command). is_linked_by k 1 g.periodic t p) is
        ∙ first_true (nat_lt t first) (nat_le 1 1 && not (is_in_names (id_of (member_of g.periodic p)) g.periodic.queued))
        (is_less t first low)

    why_of : (e : DriverContent) (m : Member) → (s : IsStanding e m) → (is_among s.number e.periodic.unlinks ≡ true) ⊎ (s.placed.waits ≡ true)
    why_of e m s = ⊎_elim (λ (on : is_among s.number e.periodic.unlinks ≡ true). inl on) (λ w. inr w.0) s.stands

    standing_below : (m : Member) → (s : IsStanding d m) → s.number < first
    standing_below m s =
        ⊎_elim (λ (on : is_among s.number d.periodic.unlinks ≡ true). unlinks_below s.number s.placed s.here on)
        (λ w. lower s.number (or_none (nat_lt s.number first) false refl (sym (linked_is s.number s.placed) ∙ w.1))) s.stands

    -- each of the new ones is queued
    queued_named : (t : ℕ) (p : Placed) → placed_in d.endpoints d.transfers t ≡ Some p → first ≤ t → is_in_names (id_of (member_of g.periodic p)) g.periodic.queued ≡ true
    queued_named t p here high =
        let s = seen d.endpoints d.transfers t p here in
        let small = within t p here in
        subst (λ b. is_in_names (id_of (descriptor_member notes b)) g.periodic.queued ≡ true) (sym s.block)
        (in_range member first count d.transfers t s.transfer s.there high (omega (arith, small, way.all)))

    not_linked : (t : ℕ) (p : Placed) → placed_in d.endpoints d.transfers t ≡ Some p → first ≤ t → is_linked_by g.command g.made g.periodic t p ≡ true → ⊥
    not_linked t p here high on =
        not_below t first high
        (or_none (nat_lt t first) (nat_le 1 1 && not (is_in_names (id_of (member_of g.periodic p)) g.periodic.queued))
        (ap (λ b. nat_le 1 1 && not b) (queued_named t p here high))
        (sym (ap (λ (k : Option Command). is_linked_by k 1 g.periodic t p) is) ∙ on))

    now_below : (m : Member) → (s : IsStanding g m) → s.number < first
    now_below m s =
        ⊎_elim (λ (on : is_among s.number d.periodic.unlinks ≡ true). unlinks_below s.number s.placed s.here on)
        (λ w. ⊎_elim (λ (low : s.number < first). low) (λ (high : first ≤ s.number). absurd (not_linked s.number s.placed s.here high w.1)) (cases_lt s.number first)) s.stands

    same_member : (t : ℕ) (p : Placed) → placed_in d.endpoints d.transfers t ≡ Some p → (is_among t d.periodic.unlinks ≡ true) ⊎ (p.waits ≡ true) → t < first → member_of g.periodic p ≡ member_of d.periodic p
    same_member t p here why low = ap (λ (k : DescriptorNote). let m : Member = Once (record { id = descriptor_name k p.block; frame = k.frame }) in m) (kept t p here why low)

    forth : (m : Member) → IsStanding d m → IsStanding g m
    forth m s =
        let low = standing_below m s in
        moved d g m s s.here (λ on. on) (λ waits on. below_g s.number s.placed low) (same_member s.number s.placed s.here (why_of d m s) low)

    back : (m : Member) → IsStanding g m → IsStanding d m
    back m s =
        let low = now_below m s in
        moved g d m s s.here (λ on. on) (λ waits on. below_d s.number s.placed low) (sym (same_member s.number s.placed s.here (why_of g m s) low))

    waiting : (t : ℕ) (y : Transfer) → slice_get d.transfers t ≡ Some y → first ≤ t → IsWaitingOf g e first (member y)
    waiting t y there low =
        let p = new t y there low in
        let s = seen d.endpoints d.transfers t p.0 p.1.0 in
        let block : p.0.block ≡ y.first = s.block ∙ ap (λ (z : Transfer). z.first) (same_Some s.transfer y (sym s.there ∙ there)) in
        record { number = t; placed = p.0; here = p.1.0; later = low; endpoint = p.1.1.0; waits = p.1.1.1; is = ap (descriptor_member notes) block }

    differ : (t u : ℕ) (y z : Transfer) → slice_get d.transfers t ≡ Some y → slice_get d.transfers u ≡ Some z → first ≤ t → t < u → id_of (member z) ≢ id_of (member y)
    differ t u y z there at low less same =
        let a = new_owner t y there low in
        let b = new_owner u z at (omega (arith, low, less)) in
        let blocks : z.first ≡ y.first = sym (descriptor_block g.periodic z.first) ∙ ap (λ n. n / 32) same ∙ descriptor_block g.periodic y.first in
        let c = ap (λ k. transfer_of (owns.owner k)) blocks in
        omega (arith, a, b, c, less)

    now : IsListed g
    now = record {
      list = record {
        list = old.list.list;
        members = same_members queues forth back old.list.members;
        frames = framed.small old.list.frames;
        many =
            let a = ap (λ (k : Option Command). to_come k d.made d.periodic.queued) is ∙ ap (λ j. to_come (Some c) j d.periodic.queued) none in
            let b = ap (λ (k : Option Command). to_come k 1 g.periodic.queued) is in
            let n = range_few member first count d.transfers in
            omega (arith, a, b, n, old.list.many);
        room = old.list.room;
        kept = old.list.kept;
      };
      way =
          subst (λ (k : Option Command). IsUnderWay g k) (sym is)
          (record {
            links = way.links;
            all = way.all;
            each = way.each;
            members = range_all (IsWaitingOf g e first) member first count d.transfers waiting;
            once = range_once member first count d.transfers differ;
          });
    }
