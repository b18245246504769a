-- New descriptors are linked, one after the other.
use Rattle.std.proofs.Common.{◌≡◌, ◌≢◌, ℕ, suc, ◌/◌, ◌≤◌, Bool, true, false, not, ◌&&◌, ◌||◌, cond, nat_lt, nat_le, List, [], ◌∷◌, length, Option, Some, None, ap, sym, subst, ◌∙◌, ⊎_elim, inl, inr, refl, arith}
use Rattle.std.specs.Prelude.{◌⊎◌, nat_eq, is_none}
use Rattle.std.specs.List.{AllByRecursion}
use Rattle.std.proofs.lemmas.Bool.{false≢true, cases_eq, eq-eqb}
use Rattle.std.proofs.lemmas.Bool.Decides.{nat_tests}
use Rattle.std.proofs.lemmas.Option.{same_Some}
use Rattle.law_common.proofs.Numbers.{is_less, not_below as not_below_is}
use Rattle.law_common.proofs.Booleans.{named_not, first_true, second_true}
use Rattle.law_common.proofs.Lists.{all_more}
use Rattle.law_driver.proofs.Common.{no_work}
use Rattle.drv_chains.specs.declared.members.Descriptor.{Descriptor}
use Rattle.drv_chains.specs.declared.members.QueueHead.{QueueHead as Queue}
use Rattle.drv_chains.specs.declared.members.Member.{Member}
use Rattle.drv_chains.specs.declared.members.Member.TheVariants.{Once}
use Rattle.drv_chains.specs.Chains.{Schedule, id_of, has_name}
use Rattle.drv_members.specs.Members.{Members, has_room, takes}
use Rattle.drv_periodic.specs.declared.work.Work.{Work}
use Rattle.drv_periodic.specs.Periodic.{Periodic, begun, inserting}
use Rattle.drv_periodic_table.specs.Periodic.{PeriodicContent, note_at, descriptor_name}
use Rattle.drv_periodic_table.specs.Linking.{may_link, linking, with_first, begun_next}
use Rattle.drv_table.specs.declared.content.Command.{Command}
use Rattle.drv_table.specs.declared.content.Command.TheVariants as unfinished
use Rattle.drv_table.specs.DriverContent.{DriverContent}
use Rattle.drv_table.specs.Commands.{no_command, list_after, or_finished, linked_on, advanced_by}
use Rattle.claims_driver.specs.FrameListMembers.{Placed, placed_in, is_among, member_of}
use Rattle.law_driver.specs.listed_members.Members.{is_in_names, AreOnce, HasMembers, is_linked_by, IsStanding, IsQueueOf, IsWaitingOf, IsDescribing, IsUnderWay, to_come, IsListed}
use Rattle.law_driver.proofs.lemmas.listed_members.Schedules.{unnamed, name_differs, one_longer, same_members, with_linked}
use Rattle.law_driver.proofs.lemmas.listed_members.Standing.{Owns, transfer_of, descriptor_block, one_number, queue_named_not}
use Rattle.law_driver.proofs.lemmas.listed_members.Stays.{moved}
use Rattle.law_driver.proofs.lemmas.listed_members.Stores.{KeepsMembers, list_kept}
use Rattle.law_driver.proofs.lemmas.listed_members.Unlinks.{below_frames}

-- ---- tests

less_named : (a b x y : Bool) → a || (b && not (x || y)) ≡ true → a || (b && not y) ≡ true
less_named true b x y on = refl
less_named false false x y on = on
less_named false true true y on = absurd (false≢true on)
less_named false true false y on = on

more_named : (a b x y : Bool) → x ≡ false → a || (b && not y) ≡ true → a || (b && not (x || y)) ≡ true
more_named a b true y off on = absurd (false≢true (sym off))
more_named a b false y off on = on

some_made : (n : ℕ) → 1 ≤ n → (nat_le 1 n ≡ true) × (nat_eq n 0 ≡ false)
some_made n some = (first (nat_le 1 n) refl, second (nat_eq n 0) refl)
  where
    first : (b : Bool) → nat_le 1 n ≡ b → b ≡ true
    first true on = refl
    first false off = grind (arith, nat_tests)

    second : (b : Bool) → nat_eq n 0 ≡ b → b ≡ false
    second false off = refl
    second true on = grind (arith, nat_tests)

-- ---- one is linked

-- what a command that links descriptors has made of them
pub linked_as : (d : DriverContent) (e first count : ℕ) (t : ℕ) (p : Placed) → d.command ≡ Some (unfinished.Iso e first count) → is_linked_by d.command d.made d.periodic t p ≡ nat_lt t first || (nat_le 1 d.made && not (is_in_names (id_of (member_of d.periodic p)) d.periodic.queued))
linked_as d e first count t p is = ap (λ (k : Option Command). is_linked_by k d.made d.periodic t p) is

comes_as : (d : DriverContent) (e first count : ℕ) → d.command ≡ Some (unfinished.Iso e first count) → 1 ≤ d.made → to_come d.command d.made d.periodic.queued ≡ length d.periodic.queued
comes_as d e first count is made =
    ap (λ (k : Option Command). to_come k d.made d.periodic.queued) is ∙ ap (λ b. cond b count (length d.periodic.queued)) (some_made d.made made).1

insert_one : (d : DriverContent) (e first count : ℕ) (t : ℕ) (y : Placed) (ms : List Member) → d.command ≡ Some (unfinished.Iso e first count) → 1 ≤ d.made → Owns d → d.periodic.list.work ≡ None → placed_in d.endpoints d.transfers t ≡ Some y → first ≤ t → y.waits ≡ true → d.periodic.queued ≡ member_of d.periodic y ∷ ms → IsListed d
    → IsListed (or_finished (record d { periodic = with_first false d.periodic (member_of d.periodic y ∷ ms) }) (unfinished.Iso e first count))
insert_one d e first count t y ms is made owns none here later waits queued old =
    subst (λ (l : Periodic). IsListed (or_finished (record d { periodic = record q { list = l; queued = ms } }) c)) (sym linked) now
  where
    c : Command
    c = unfinished.Iso e first count

    q : PeriodicContent
    q = d.periodic

    k : Descriptor
    k = record { id = descriptor_name (note_at q.notes y.block) y.block; frame = (note_at q.notes y.block).frame }

    s : Schedule
    s = q.list.members.schedule

    way : IsDescribing d e first count
    way = subst (λ (o : Option Command). IsUnderWay d o) is old.way

    members : AllByRecursion (IsWaitingOf d e first) (Once k ∷ ms)
    members = subst (λ (xs : List Member). AllByRecursion (IsWaitingOf d e first) xs) queued way.members

    once : AreOnce (Once k ∷ ms)
    once = subst AreOnce queued way.once

    -- it doesn't stand there yet
    new_name : (x : Descriptor) → IsStanding d (Once x) → x.id ≡ k.id → ⊥
    new_name x stands same =
        let at = one_number d (Once x) t y owns stands here (inr waits) same in
        let same_placed : stands.placed ≡ y = same_Some stands.placed y (sym stands.here ∙ ap (placed_in d.endpoints d.transfers) at ∙ here) in
        ⊎_elim
        (λ (on : is_among stands.number q.unlinks ≡ true). false≢true (sym (owns.reported t y here (ap (λ n. is_among n q.unlinks) (sym at) ∙ on)) ∙ waits))
        (λ w.
        named_not (nat_lt stands.number first) (nat_le 1 d.made) (is_in_names (id_of (member_of q stands.placed)) q.queued)
        (ap (λ (p : Placed). is_in_names (id_of (member_of q p)) q.queued) same_placed ∙ ap (is_in_names k.id) queued ∙ first_true (nat_eq k.id k.id) (is_in_names k.id ms) (eq-eqb k.id k.id refl))
        (ap (λ n. nat_lt n first) at ∙ not_below_is t first later) (sym (linked_as d e first count stands.number stands.placed is) ∙ w.1)) stands.stands

    free_name : has_name s k.id ≡ false
    free_name =
        unnamed s k.id (all_more (λ (x : Descriptor). IsStanding d (Once x)) (λ (x : Descriptor). x.id ≡ k.id → ⊥) s.descriptors new_name old.list.members.descriptors)
        (all_more (IsQueueOf d) (λ (x : Queue). x.id ≡ k.id → ⊥) s.queues (λ x stands same. queue_named_not d x t y owns stands here waits same) old.list.members.queues)

    long : length q.queued ≡ suc (length ms)
    long = ap (λ (xs : List Member). length xs) queued

    place : has_room q.list.members (Once k) ≡ true
    place =
        let a = comes_as d e first count is made in
        is_less (length s.descriptors) q.list.members.descriptor_room (omega (arith, a, long, old.list.many, old.list.room))

    may : may_link q.list (Once k) ≡ true
    may =
        ap (λ (o : Option Work). is_none o && takes q.list.members (Once k)) none ∙ ap (λ b. b && (not (has_name s k.id) && has_room q.list.members (Once k))) (below_frames k.frame (old.list.frames y.block))
        ∙ ap (λ b. not b && has_room q.list.members (Once k)) free_name ∙ place

    linked : linking q.list (Once k) ≡ inserting q.list (Once k)
    linked = ap (λ b. cond b (inserting q.list (Once k)) q.list) may

    g : DriverContent
    g = record d { periodic = record q { list = inserting q.list (Once k); queued = ms } }

    queues : (x : Queue) → IsQueueOf d x → IsQueueOf g x
    queues x stands = record {
      number = stands.number;
      framed = stands.framed;
      here = stands.here;
      chained = stands.chained;
      queued = stands.queued;
      place = stands.place;
      placed = stands.placed;
      is = stands.is;
      valid = stands.valid;
    }

    queued_is : (p : Placed) → is_in_names (id_of (member_of q p)) q.queued ≡ nat_eq k.id (id_of (member_of q p)) || is_in_names (id_of (member_of q p)) ms
    queued_is p = ap (is_in_names (id_of (member_of q p))) queued

    forth : (m : Member) → IsStanding d m → IsStanding g m
    forth m stands =
        let p = stands.placed in
        let n = stands.number in
        moved d g m stands stands.here (λ on. on)
        (λ wait on.
        linked_as g e first count n p is
        ∙ less_named (nat_lt n first) (nat_le 1 d.made) (nat_eq k.id (id_of (member_of q p))) (is_in_names (id_of (member_of q p)) ms)
        (sym (ap (λ b. nat_lt n first || (nat_le 1 d.made && not b)) (queued_is p)) ∙ sym (linked_as d e first count n p is) ∙ on)) refl

    new : IsStanding g (Once k)
    new = record {
      number = t;
      placed = y;
      here = here;
      stands = inr (
        waits,
        linked_as g e first count t y is
            ∙ second_true (nat_lt t first) (nat_le 1 d.made && not (is_in_names k.id ms))
            (ap (λ b. b && not (is_in_names k.id ms)) (some_made d.made made).0 ∙ ap not once.0),
      );
      is = refl;
    }

    other_name : (n : ℕ) (p : Placed) → placed_in d.endpoints d.transfers n ≡ Some p → (is_among n q.unlinks ≡ true) ⊎ (p.waits ≡ true) → n ≢ t → nat_eq k.id (id_of (member_of q p)) ≡ false
    other_name n p there why differs =
        name_differs k.id (id_of (member_of q p))
        (λ same.
        let a = owns.descriptors n p there why in
        let b = owns.descriptors t y here (inr waits) in
        let blocks : y.block ≡ p.block = sym (descriptor_block q y.block) ∙ ap (λ i. i / 32) same ∙ descriptor_block q p.block in
        let e = ap (λ i. transfer_of (owns.owner i)) blocks in
        differs (omega (arith, a, b, e)))

    back : (m : Member) → IsStanding g m → IsStanding d m ⊎ (m ≡ Once k)
    back m stands =
        let p = stands.placed in
        let n = stands.number in
        ⊎_elim
        (λ (same : n ≡ t).
        let same_placed : p ≡ y = same_Some p y (sym stands.here ∙ ap (placed_in d.endpoints d.transfers) same ∙ here) in
        inr (sym stands.is ∙ ap (member_of q) same_placed))
        (λ (differs : n ≢ t).
        inl (moved g d m stands stands.here (λ on. on)
        (λ wait on.
        linked_as d e first count n p is ∙ ap (λ b. nat_lt n first || (nat_le 1 d.made && not b)) (queued_is p)
        ∙ more_named (nat_lt n first) (nat_le 1 d.made) (nat_eq k.id (id_of (member_of q p))) (is_in_names (id_of (member_of q p)) ms) (other_name n p stands.here (inr wait) differs)
        (sym (linked_as g e first count n p is) ∙ on)) refl)) (cases_eq n t)

    waiting : (m : Member) → IsWaitingOf d e first m → IsWaitingOf g e first m
    waiting m w = record { number = w.number; placed = w.placed; here = w.here; later = w.later; endpoint = w.endpoint; waits = w.waits; is = w.is }

    now : IsListed g
    now = record {
      list = record {
        list = old.list.list;
        members = same_members queues (λ m x. x) (λ m x. x) (with_linked k forth new back old.list.members);
        frames = old.list.frames;
        many =
            let a = comes_as d e first count is made in
            let b = comes_as g e first count is made in
            let n = one_longer s.descriptors k in
            omega (arith, a, b, n, long, old.list.many);
        room = old.list.room;
        kept = old.list.kept;
      };
      way =
          subst (λ (o : Option Command). IsUnderWay g o) (sym is)
          (record {
            links = λ w same. ap (λ (v : Work). v.removes) (sym (same_Some (begun (Once k) false) w same));
            all = way.all;
            each = way.each;
            members = all_more (IsWaitingOf d e first) (IsWaitingOf g e first) ms waiting members.1;
            once = once.1;
          });
    }

-- ---- the next one, or the end

all_linked : (d : DriverContent) (e first count : ℕ) → d.command ≡ Some (unfinished.Iso e first count) → 1 ≤ d.made → d.periodic.list.work ≡ None → d.periodic.queued ≡ [] → IsListed d → IsListed (no_command d)
all_linked d e first count is made none queued old = record {
  list = record {
    list = old.list.list;
    members = same_members queues forth back old.list.members;
    frames = old.list.frames;
    many = omega (arith, old.list.many);
    room = old.list.room;
    kept = old.list.kept;
  };
  way = record { work = none; queued = queued };
}
  where
    q : PeriodicContent
    q = d.periodic

    queues : (x : Queue) → IsQueueOf d x → IsQueueOf (no_command d) x
    queues x stands = record {
      number = stands.number;
      framed = stands.framed;
      here = stands.here;
      chained = stands.chained;
      queued = stands.queued;
      place = stands.place;
      placed = stands.placed;
      is = stands.is;
      valid = stands.valid;
    }

    linked : (n : ℕ) (p : Placed) → is_linked_by d.command d.made q n p ≡ true
    linked n p =
        linked_as d e first count n p is ∙ ap (λ (ms : List Member). nat_lt n first || (nat_le 1 d.made && not (is_in_names (id_of (member_of q p)) ms))) queued
        ∙ second_true (nat_lt n first) (nat_le 1 d.made && true) (ap (λ b. b && true) (some_made d.made made).0)

    forth : (m : Member) → IsStanding d m → IsStanding (no_command d) m
    forth m stands = moved d (no_command d) m stands stands.here (λ on. on) (λ wait on. refl) refl

    back : (m : Member) → IsStanding (no_command d) m → IsStanding d m
    back m stands = moved (no_command d) d m stands stands.here (λ on. on) (λ wait on. linked stands.number stands.placed) refl

begin_one : (d : DriverContent) (e first count : ℕ) → d.command ≡ Some (unfinished.Iso e first count) → 1 ≤ d.made → Owns d → IsListed d → IsListed (or_finished (record d { periodic = begun_next false d.periodic }) (unfinished.Iso e first count))
begin_one d e first count is made owns old = at (is_none d.periodic.list.work) d.periodic.queued refl refl
  where
    c : Command
    c = unfinished.Iso e first count

    q : PeriodicContent
    q = d.periodic

    at : (b : Bool) (ms : List Member) → is_none q.list.work ≡ b → q.queued ≡ ms → IsListed (or_finished (record d { periodic = cond b (with_first false q ms) q }) c)
    at false ms some queued = subst (λ t. IsListed (cond t (no_command d) d)) (sym some) old
    at true [] none queued = subst (λ t. IsListed (cond t (no_command d) d)) (sym none) (all_linked d e first count is made (no_work q.list.work none) queued old)
    at true (m ∷ ms) none queued =
        let way = subst (λ (o : Option Command). IsUnderWay d o) is old.way in
        let w = (subst (λ (xs : List Member). AllByRecursion (IsWaitingOf d e first) xs) queued way.members).0 in
        subst (λ x. IsListed (or_finished (record d { periodic = with_first false q (x ∷ ms) }) c)) w.is
        (insert_one d e first count w.number w.placed ms is made owns (no_work q.list.work none) w.here w.later w.waits (queued ∙ ap (λ x. x ∷ ms) (sym w.is)) old)

-- ---- a store, or the lend before them

pub iso_goes : (d : DriverContent) (e first count : ℕ) → d.command ≡ Some (unfinished.Iso e first count) → 1 ≤ d.made → Owns d → IsListed d → IsListed (advanced_by d (Some (unfinished.Iso e first count)))
iso_goes d e first count is made owns old =
    subst (λ b. IsListed (cond b (record d { made = suc d.made }) (linked_on d c))) (sym past) (begin_one g e first count is (omega arith) owns_g listed)
  where
    c : Command
    c = unfinished.Iso e first count

    q : PeriodicContent
    q = d.periodic

    way : IsDescribing d e first count
    way = subst (λ (o : Option Command). IsUnderWay d o) is old.way

    kept : KeepsMembers q.list (list_after d c)
    kept = list_kept d c way.links

    g : DriverContent
    g = record d { made = 2; periodic = record q { list = list_after d c } }

    past : nat_lt (suc d.made) 2 ≡ false
    past = at (nat_lt (suc d.made) 2) refl
      where
        at : (b : Bool) → nat_lt (suc d.made) 2 ≡ b → b ≡ false
        at false off = refl
        at true on = grind (arith, nat_tests)

    owns_g : Owns g
    owns_g = record { owner = owns.owner; descriptors = owns.descriptors; queues = owns.queues; reported = owns.reported; sorts = owns.sorts }

    queues : (x : Queue) → IsQueueOf d x → IsQueueOf g x
    queues x stands = record {
      number = stands.number;
      framed = stands.framed;
      here = stands.here;
      chained = stands.chained;
      queued = stands.queued;
      place = stands.place;
      placed = stands.placed;
      is = stands.is;
      valid = stands.valid;
    }

    same : (n : ℕ) (p : Placed) → is_linked_by g.command g.made g.periodic n p ≡ is_linked_by d.command d.made q n p
    same n p =
        linked_as g e first count n p is
        ∙ sym (linked_as d e first count n p is ∙ ap (λ b. nat_lt n first || (b && not (is_in_names (id_of (member_of q p)) q.queued))) (some_made d.made made).0)

    forth : (m : Member) → IsStanding d m → IsStanding g m
    forth m stands = moved d g m stands stands.here (λ on. on) (λ wait on. same stands.number stands.placed ∙ on) refl

    back : (m : Member) → IsStanding g m → IsStanding d m
    back m stands = moved g d m stands stands.here (λ on. on) (λ wait on. sym (same stands.number stands.placed) ∙ on) refl

    waiting : (m : Member) → IsWaitingOf d e first m → IsWaitingOf g e first m
    waiting m w = record { number = w.number; placed = w.placed; here = w.here; later = w.later; endpoint = w.endpoint; waits = w.waits; is = w.is }

    listed : IsListed g
    listed = record {
      list = record {
        list = kept.list ∙ old.list.list;
        members = subst (λ (k : Members). HasMembers (IsQueueOf g) (IsStanding g) k.schedule) (sym kept.members) (same_members queues forth back old.list.members);
        frames = old.list.frames;
        many =
            let a = comes_as d e first count is made in
            let b = comes_as g e first count is (omega arith) in
            let n = ap (λ (k : Members). length k.schedule.descriptors) kept.members in
            omega (arith, a, b, n, old.list.many);
        room = let r = ap (λ (k : Members). k.descriptor_room) kept.members in omega (arith, r, old.list.room);
        kept = old.list.kept;
      };
      way =
          subst (λ (o : Option Command). IsUnderWay g o) (sym is)
          (record { links = kept.links; all = way.all; each = way.each; members = all_more (IsWaitingOf d e first) (IsWaitingOf g e first) q.queued waiting way.members; once = way.once });
    }
