-- The stores by which an endpoint leaves its frames.
use Rattle.std.proofs.Common.{◌≡◌, ℕ, suc, ◌+◌, ◌≤◌, ◌==◌, Bool, true, false, not, ◌&&◌, ◌||◌, cond, nat_lt, List, [], ◌∷◌, ◌++◌, length, slice_get, Option, Some, None, ap, sym, subst, ◌∙◌, ⊎_elim, inl, inr, refl, arith}
use Rattle.std.specs.Prelude.{◌⊎◌, nat_eq, is_none}
use Rattle.std.specs.List.{AllByRecursion, list_any}
use Rattle.std.proofs.lemmas.Bool.{false≢true, cases_Bool}
use Rattle.std.proofs.lemmas.Bool.Decides.{nat_tests}
use Rattle.std.proofs.lemmas.Option.{same_Some}
use Rattle.law_common.proofs.Lists.{all_more}
use Rattle.law_common.proofs.Booleans.{first_true}
use Rattle.bandwidth.specs.declared.placements.Placement.{Placement}
use Rattle.drv_chains.specs.declared.members.Descriptor.{Descriptor}
use Rattle.drv_chains.specs.declared.members.QueueHead.{QueueHead as Queue}
use Rattle.drv_chains.specs.declared.members.Member.{Member}
use Rattle.drv_chains.specs.declared.members.Member.TheVariants.{Once, Each}
use Rattle.drv_chains.specs.Chains.{id_of}
use Rattle.drv_members.specs.Ranks.{is_queue}
use Rattle.drv_members.specs.Members.{without_member, with_schedule, is_this, is_member, is_linked}
use Rattle.drv_periodic.specs.declared.work.Work.{Work}
use Rattle.drv_periodic.specs.Periodic.{Periodic, removing, is_more, after_work, after_store}
use Rattle.drv_periodic_table.specs.Periodic.{PeriodicContent, note_at, queue_name, descriptor_name, queue_member}
use Rattle.drv_periodic_table.specs.Linking.{may_unlink, with_first, begun_next}
use Rattle.drv_table.specs.declared.content.Endpoint.{Endpoint}
use Rattle.drv_table.specs.declared.content.Command.{Command}
use Rattle.drv_table.specs.declared.content.Command.TheVariants as unfinished
use Rattle.drv_table.specs.DriverContent.{DriverContent}
use Rattle.drv_table.specs.Commands.{finished, or_finished, linked_on, advanced_by}
use Rattle.claims_driver.specs.FrameListMembers.{Framed, framed_in, Placed, placed_in, is_among, member_of}
use Rattle.law_driver.specs.listed_members.Members.{is_in_names, AreOnce, HasMembers, under_way, is_linked_by, IsStanding, IsQueueOf, IsWaitingOf, IsUnchaining, IsUnderWay, HasList, IsListed}
use Rattle.law_driver.proofs.lemmas.listed_members.Schedules.{any_none, name_differs, no_longer, this_same, same_members, without_unlinked, without_queue}
use Rattle.law_driver.proofs.lemmas.listed_members.Standing.{Owns, one_number}
use Rattle.law_driver.proofs.lemmas.listed_members.Stays.{moved, same_queue}
use Rattle.law_driver.proofs.lemmas.listed_members.Stores.{begun_none}
use Rattle.law_driver.proofs.lemmas.listed_members.Unchaining.{linked_as, none_comes, elsewhere_on, NoneLeft, all_unlinked, removing_listed, no_descriptor, begin_iso}

-- ---- the queue head of an interrupt endpoint

both_false : (a b : Bool) → a && b ≡ false → (a ≡ false) ⊎ (b ≡ false)
both_false true b off = inr off
both_false false b off = inl refl

queue_of : Framed → Placement → Queue
queue_of x p = record { id = queue_name x.queue; period = p.period; phase = p.phase }

-- where it isn't linked, it isn't there
not_linked : (d : DriverContent) (e : ℕ) (x : Framed) (p : Placement) (qs : List Queue) → framed_in d.endpoints e ≡ Some x → x.placement ≡ Some p → is_queue (queue_of x p) && list_any (is_this (queue_of x p)) qs ≡ false → AllByRecursion (IsQueueOf d) qs → NoneLeft d e qs
unfolding queue_of
not_linked d e x p qs at place off all =
    ⊎_elim
    (λ (invalid : is_queue (queue_of x p) ≡ false). all_more (IsQueueOf d) (λ r. (s : IsQueueOf d r) → s.number ≡ e → ⊥) qs (λ r any s same. false≢true (sym invalid ∙ ap is_queue (sym (is r s same)) ∙ s.valid)) all)
    (λ (none : list_any (is_this (queue_of x p)) qs ≡ false).
    all_more (λ r. is_this (queue_of x p) r ≡ false) (λ r. (s : IsQueueOf d r) → s.number ≡ e → ⊥) qs
    (λ r other s same. false≢true (sym other ∙ ap (is_this (queue_of x p)) (is r s same) ∙ this_same (queue_of x p))) (any_none (is_this (queue_of x p)) qs none))
    (both_false (is_queue (queue_of x p)) (list_any (is_this (queue_of x p)) qs) off)
  where
    is : (r : Queue) → (s : IsQueueOf d r) → s.number ≡ e → r ≡ record { id = queue_name x.queue; period = p.period; phase = p.phase }
    is r s same =
        let one : s.framed ≡ x = same_Some s.framed x (sym s.here ∙ ap (framed_in d.endpoints) same ∙ at) in
        let two : s.place ≡ p = same_Some s.place p (sym s.placed ∙ ap (λ (w : Framed). w.placement) one ∙ place) in
        let three : Each r ≡ queue_member x.queue p = s.is ∙ ap (λ (w : Framed). queue_member w.queue s.place) one ∙ ap (queue_member x.queue) two in
        same_each r (record { id = queue_name x.queue; period = p.period; phase = p.phase }) three
      where
        same_each : (a b : Queue) → Each a ≡ Each b → a ≡ b
        same_each a b f = cc

pub begin_queue : (d : DriverContent) (e : ℕ) (z : Endpoint) (x : Framed) (p : Placement) → Owns d → d.command ≡ Some (unfinished.Unchain e) → d.periodic.list.work ≡ None → d.periodic.queued ≡ queue_member x.queue p ∷ [] → slice_get d.endpoints e ≡ Some z → z.cancelled ≡ true → framed_in d.endpoints e ≡ Some x → x.isochronous ≡ false → x.placement ≡ Some p → HasList d
    → IsListed (or_finished (record d { periodic = begun_next true d.periodic }) (unfinished.Unchain e))
unfolding queue_of
begin_queue d e z x p owns is none queued here cancelled at iso place old = subst (λ (r : PeriodicContent). IsListed (or_finished (record d { periodic = r }) c)) (sym begins) (by (may_unlink q.list m) refl)
  where
    c : Command
    c = unfinished.Unchain e

    q : PeriodicContent
    q = d.periodic

    m : Member
    m = queue_member x.queue p

    begins : begun_next true q ≡ record q { list = cond (may_unlink q.list m) (removing q.list m) q.list; queued = [] }
    begins = ap (λ (o : Option Work). cond (is_none o) (with_first true q q.queued) q) none ∙ ap (with_first true q) queued

    g : DriverContent
    g = record d { periodic = record q { queued = [] } }

    linked : (k : DriverContent) → k.command ≡ Some c → (t : ℕ) (y : Placed) → placed_in d.endpoints d.transfers t ≡ Some y → is_linked_by k.command k.made k.periodic t y ≡ true
    linked k command t y there =
        linked_as k e t y command
        ∙ first_true (not (y.endpoint == e)) (is_in_names (id_of (member_of k.periodic y))
        (under_way k.periodic.list.work ++ k.periodic.queued)) (elsewhere_on y.endpoint e (no_descriptor d e x t y owns at iso there))

    list_g : HasList g
    list_g = record {
      list = old.list;
      members = same_members (same_queue d g (λ i w h. h)) (λ r s. moved d g r s s.here (λ on. on) (λ waits on. linked g is s.number s.placed s.here) refl)
          (λ r s. moved g d r s s.here (λ on. on) (λ waits on. linked d is s.number s.placed s.here) refl) old.members;
      frames = old.frames;
      many = let a = none_comes d e is in let b = none_comes g e is in omega (arith, a, b, old.many);
      room = old.room;
      kept = old.kept;
    }

    by : (b : Bool) → may_unlink q.list m ≡ b → IsListed (or_finished (record d { periodic = record q { list = cond b (removing q.list m) q.list; queued = [] } }) c)
    by true on = removing_listed d e z x m [] is none queued here cancelled at (record { descriptors = λ yes. absurd (false≢true (sym iso ∙ yes)); queue = λ off. (p, (place, refl)) }) old
    by false off =
        let unlisted : is_queue (queue_of x p) && list_any (is_this (queue_of x p)) q.list.members.schedule.queues ≡ false = sym (ap (λ (o : Option Work). is_none o && (is_member m && is_linked q.list.members.schedule m)) none) ∙ off in
        let left = not_linked g e x p q.list.members.schedule.queues at place unlisted list_g.members.queues in
        subst (λ (o : Option Work). IsListed (cond (is_none o) (finished g c) g)) (sym none) (all_unlinked g e z is none refl here cancelled left list_g)

-- ---- a store

pub not_before : (n : ℕ) → nat_lt n 0 ≡ false
not_before n = at (nat_lt n 0) refl
  where
    at : (b : Bool) → nat_lt n 0 ≡ b → b ≡ false
    at false off = refl
    at true on = grind (arith, nat_tests)

-- the last store that unlinks it
abbrev pub last_store : DriverContent → Work → Periodic
last_store d w = record { list = d.periodic.list.list; members = with_schedule d.periodic.list.members (without_member d.periodic.list.members.schedule w.member); work = None }

abbrev pub next_made : DriverContent → Work → Periodic
next_made d w = record d.periodic.list { work = Some (record w { made = w.made + 1 }) }

pub store_is : (d : DriverContent) (w : Work) → d.periodic.list.work ≡ Some w → w.removes ≡ true → after_store d.periodic.list ≡ cond (is_more d.periodic.list.members.schedule w) (next_made d w) (last_store d w)
store_is d w begun removes =
    ap (after_work d.periodic.list) begun
    ∙ ap (λ b. cond (is_more d.periodic.list.members.schedule w) (next_made d w) (record { list = d.periodic.list.list; members = cond b (with_schedule d.periodic.list.members (without_member d.periodic.list.members.schedule w.member)) d.periodic.list.members; work = None })) removes

-- one more store is made
more_listed : (d : DriverContent) (e : ℕ) → d.command ≡ Some (unfinished.Unchain e) → (way : IsUnchaining d e) → HasList d → IsListed (or_finished (record d { made = 0; periodic = begun_next true (record d.periodic { list = next_made d way.work }) }) (unfinished.Unchain e))
more_listed d e is way old = record {
  list = record {
    list = old.list;
    members = same_members (same_queue d g (λ i w h. h)) (λ r s. moved d g r s s.here (λ on. on) (λ waits on. same s.number s.placed ∙ on) refl)
        (λ r s. moved g d r s s.here (λ on. on) (λ waits on. sym (same s.number s.placed) ∙ on) refl) old.members;
    frames = old.frames;
    many = let a = none_comes d e is in let b = none_comes g e is in omega (arith, a, b, old.many);
    room = old.room;
    kept = old.kept;
  };
  way =
      subst (λ (o : Option Command). IsUnderWay g o) (sym is)
      (record {
        work = record way.work { made = way.work.made + 1 };
        begun = refl;
        removes = way.removes;
        endpoint = way.endpoint;
        here = way.here;
        cancelled = way.cancelled;
        framed = way.framed;
        at = way.at;
        leaving = record {
          descriptors = λ iso. let l = way.leaving.descriptors iso in (all_more (IsWaitingOf d e 0) (IsWaitingOf g e 0) (way.work.member ∷ q.queued) waiting l.0, l.1);
          queue = way.leaving.queue;
        };
      });
}
  where
    q : PeriodicContent
    q = d.periodic

    g : DriverContent
    g = record d { made = 0; periodic = record q { list = next_made d way.work } }

    waiting : (r : Member) → IsWaitingOf d e 0 r → IsWaitingOf g e 0 r
    waiting r w = record { number = w.number; placed = w.placed; here = w.here; later = w.later; endpoint = w.endpoint; waits = w.waits; is = w.is }

    same : (t : ℕ) (p : Placed) → is_linked_by g.command g.made g.periodic t p ≡ is_linked_by d.command d.made q t p
    same t p =
        linked_as g e t p is
        ∙ sym (linked_as d e t p is ∙ ap (λ (o : Option Work). not (p.endpoint == e) || is_in_names (id_of (member_of q p)) (under_way o ++ q.queued)) way.begun)

-- ---- the last store of one

named_left : (a b x : Bool) → x ≡ false → a || (x || b) ≡ true → a || b ≡ true
named_left true b x off on = refl
named_left false b true off on = absurd (false≢true (sym off))
named_left false b false off on = on

named_more : (a b x : Bool) → a || b ≡ true → a || (x || b) ≡ true
named_more true b x on = refl
named_more false true true on = refl
named_more false true false on = refl
named_more false false x on = absurd (false≢true on)

-- a descriptor
iso_last : (d : DriverContent) (e : ℕ) → Owns d → d.command ≡ Some (unfinished.Unchain e) → (way : IsUnchaining d e) → way.framed.isochronous ≡ true → HasList d → IsListed (or_finished (record d { made = 0; periodic = begun_next true (record d.periodic { list = last_store d way.work }) }) (unfinished.Unchain e))
iso_last d e owns is way iso old = begin_iso g e way.endpoint way.framed q.queued is refl refl way.here way.cancelled way.at iso (all_more (IsWaitingOf d e 0) (IsWaitingOf g e 0) q.queued waiting leaving.0.1) leaving.1.1 list
  where
    q : PeriodicContent
    q = d.periodic

    m : Member
    m = way.work.member

    leaving : AllByRecursion (IsWaitingOf d e 0) (m ∷ q.queued) × AreOnce (m ∷ q.queued)
    leaving = way.leaving.descriptors iso

    w : IsWaitingOf d e 0 m
    w = leaving.0.0

    k : Descriptor
    k = record { id = descriptor_name (note_at q.notes w.placed.block) w.placed.block; frame = (note_at q.notes w.placed.block).frame }

    m_is : Once k ≡ m
    m_is = w.is

    g : DriverContent
    g = record d { made = 0; periodic = record q { list = last_store d way.work } }

    waiting : (r : Member) → IsWaitingOf d e 0 r → IsWaitingOf g e 0 r
    waiting r v = record { number = v.number; placed = v.placed; here = v.here; later = v.later; endpoint = v.endpoint; waits = v.waits; is = v.is }

    linked_d : (t : ℕ) (p : Placed) → is_linked_by d.command d.made q t p ≡ not (p.endpoint == e) || (nat_eq (id_of m) (id_of (member_of q p)) || is_in_names (id_of (member_of q p)) q.queued)
    linked_d t p = linked_as d e t p is ∙ ap (λ (o : Option Work). not (p.endpoint == e) || is_in_names (id_of (member_of q p)) (under_way o ++ q.queued)) way.begun

    linked_g : (t : ℕ) (p : Placed) → is_linked_by g.command g.made g.periodic t p ≡ not (p.endpoint == e) || is_in_names (id_of (member_of q p)) q.queued
    linked_g t p = linked_as g e t p is

    forth : (r : Member) → IsStanding d r → (id_of r ≡ k.id → ⊥) → IsStanding g r
    forth r s differs =
        moved d g r s s.here (λ on. on)
        (λ waits on.
        linked_g s.number s.placed
        ∙ named_left (not (s.placed.endpoint == e)) (is_in_names (id_of (member_of q s.placed)) q.queued) (nat_eq (id_of m) (id_of (member_of q s.placed)))
        (name_differs (id_of m) (id_of (member_of q s.placed)) (λ same. differs (ap id_of (sym s.is) ∙ sym same ∙ ap id_of (sym m_is)))) (sym (linked_d s.number s.placed) ∙ on)) refl

    was : (r : Member) → IsStanding g r → IsStanding d r
    was r s =
        moved g d r s s.here (λ on. on)
        (λ waits on.
        linked_d s.number s.placed
        ∙ named_more (not (s.placed.endpoint == e)) (is_in_names (id_of (member_of q s.placed)) q.queued) (nat_eq (id_of m) (id_of (member_of q s.placed))) (sym (linked_g s.number s.placed) ∙ on)) refl

    gone : (r : Member) → (s : IsStanding g r) → id_of r ≡ k.id → ⊥
    gone r s same =
        let mine : IsStanding d r = was r s in
        let at : s.number ≡ w.number = number r s same in
        let same_placed : s.placed ≡ w.placed = same_Some s.placed w.placed (sym s.here ∙ ap (placed_in d.endpoints d.transfers) at ∙ w.here) in
        ⊎_elim
        (λ (on : is_among s.number q.unlinks ≡ true). false≢true (sym (owns.reported w.number w.placed w.here (ap (λ n. is_among n q.unlinks) (sym at) ∙ on)) ∙ w.waits))
        (λ v.
        let named = ap (λ (p : Placed). is_in_names (id_of (member_of q p)) q.queued) same_placed ∙ ap (λ (n : Member). is_in_names (id_of n) q.queued) m_is ∙ leaving.1.0 in
        let stays = ap (λ (p : Placed). not (p.endpoint == e)) same_placed ∙ ap (λ n. not (n == e)) w.endpoint ∙ ap not (same_test e) in
        false≢true (sym (ap (λ b. b || is_in_names (id_of (member_of q s.placed)) q.queued) stays ∙ named) ∙ sym (linked_g s.number s.placed) ∙ v.1)) s.stands
      where
        same_test : (n : ℕ) → (n == n) ≡ true
        same_test n = grind (arith, nat_tests)

        number : (r : Member) → (s : IsStanding g r) → id_of r ≡ k.id → s.number ≡ w.number
        number r s same = one_number d r w.number w.placed owns (was r s) w.here (inr w.waits) same

    back : (r : Member) → IsStanding g r → IsStanding d r × (id_of r ≡ k.id → ⊥)
    back r s = (was r s, gone r s)

    unlinked : HasMembers (IsQueueOf g) (IsStanding g) (without_member q.list.members.schedule m)
    unlinked = subst (λ (r : Member). HasMembers (IsQueueOf g) (IsStanding g) (without_member q.list.members.schedule r)) m_is (same_members (same_queue d g (λ i x h. h)) (λ r s. s) (λ r s. s) (without_unlinked k forth back old.members))

    fewer : length (without_member q.list.members.schedule m).descriptors ≤ length q.list.members.schedule.descriptors
    fewer = subst (λ (r : Member). length (without_member q.list.members.schedule r).descriptors ≤ length q.list.members.schedule.descriptors) m_is (no_longer k.id q.list.members.schedule.descriptors)

    list : HasList g
    list = record {
      list = old.list;
      members = unlinked;
      frames = old.frames;
      many = let a = none_comes d e is in let b = none_comes g e is in omega (arith, a, b, fewer, old.many);
      room = old.room;
      kept = old.kept;
    }

-- a queue head
queue_last : (d : DriverContent) (e : ℕ) → Owns d → d.command ≡ Some (unfinished.Unchain e) → (way : IsUnchaining d e) → way.framed.isochronous ≡ false → HasList d → IsListed (or_finished (record d { made = 0; periodic = begun_next true (record d.periodic { list = last_store d way.work }) }) (unfinished.Unchain e))
queue_last d e owns is way iso old =
    subst (λ (p : PeriodicContent). IsListed (or_finished (record d { made = 0; periodic = p }) c)) (sym (begun_none true g.periodic none_queued)) (all_unlinked g e way.endpoint is refl none_queued way.here way.cancelled left list)
  where
    c : Command
    c = unfinished.Unchain e

    q : PeriodicContent
    q = d.periodic

    x : Framed
    x = way.framed

    leaving : (p : Placement) × ((x.placement ≡ Some p) × (way.work.member ∷ q.queued ≡ queue_member x.queue p ∷ []))
    leaving = way.leaving.queue iso

    r : Queue
    r = record { id = queue_name x.queue; period = leaving.0.period; phase = leaving.0.phase }

    head_is : way.work.member ≡ Each r
    head_is = let e : way.work.member ∷ q.queued ≡ Each r ∷ [] = leaving.1.1 in cc

    none_queued : q.queued ≡ []
    none_queued = let e : way.work.member ∷ q.queued ≡ Each r ∷ [] = leaving.1.1 in cc

    g : DriverContent
    g = record d { made = 0; periodic = record q { list = last_store d way.work } }

    linked : (k : DriverContent) → k.command ≡ Some c → (t : ℕ) (y : Placed) → placed_in d.endpoints d.transfers t ≡ Some y → is_linked_by k.command k.made k.periodic t y ≡ true
    linked k command t y there =
        linked_as k e t y command
        ∙ first_true (not (y.endpoint == e)) (is_in_names (id_of (member_of k.periodic y))
        (under_way k.periodic.list.work ++ k.periodic.queued))
        (elsewhere_on y.endpoint e (no_descriptor d e x t y owns way.at iso there))

    once : (n : Member) → IsStanding d n → (k : Descriptor) × (n ≡ Once k)
    once n s = (record { id = descriptor_name (note_at q.notes s.placed.block) s.placed.block; frame = (note_at q.notes s.placed.block).frame }, sym s.is)

    unlinked : HasMembers (λ v. IsQueueOf d v × (v.id ≡ r.id → ⊥)) (IsStanding d) (without_member q.list.members.schedule way.work.member)
    unlinked = subst (λ (n : Member). HasMembers (λ v. IsQueueOf d v × (v.id ≡ r.id → ⊥)) (IsStanding d) (without_member q.list.members.schedule n)) (sym head_is) (without_queue r once old.members)

    left : NoneLeft g e (without_member q.list.members.schedule way.work.member).queues
    left =
        all_more (λ v. IsQueueOf d v × (v.id ≡ r.id → ⊥)) (λ v. (s : IsQueueOf g v) → s.number ≡ e → ⊥) (without_member q.list.members.schedule way.work.member).queues
        (λ v both s same.
        let one : s.framed ≡ x = same_Some s.framed x (sym s.here ∙ ap (framed_in d.endpoints) same ∙ way.at) in
        both.1 (ap id_of s.is ∙ ap (λ (y : Framed). queue_name y.queue) one)) unlinked.queues

    fewer : length (without_member q.list.members.schedule way.work.member).descriptors ≡ length q.list.members.schedule.descriptors
    fewer = ap (λ (n : Member). length (without_member q.list.members.schedule n).descriptors) head_is

    list : HasList g
    list = record {
      list = old.list;
      members = same_members (λ v both. same_queue d g (λ i y h. h) v both.0) (λ n s. moved d g n s s.here (λ on. on) (λ waits on. linked g is s.number s.placed s.here) refl)
          (λ n s. moved g d n s s.here (λ on. on) (λ waits on. linked d is s.number s.placed s.here) refl) unlinked;
      frames = old.frames;
      many = let a = none_comes d e is in let b = none_comes g e is in omega (arith, a, b, fewer, old.many);
      room = old.room;
      kept = old.kept;
    }

-- ---- any store

pub unchain_goes : (d : DriverContent) (e : ℕ) → Owns d → d.command ≡ Some (unfinished.Unchain e) → IsListed d → IsListed (advanced_by d (Some (unfinished.Unchain e)))
unchain_goes d e owns is old =
    subst (λ b. IsListed (cond b (record d { made = suc d.made }) (linked_on d c))) (sym (not_before (suc d.made)))
    (subst (λ b. IsListed (goes (cond b d.periodic.list (after_store d.periodic.list)))) (sym (not_before d.made))
    (subst (λ (l : Periodic). IsListed (goes l)) (sym (store_is d way.work way.begun way.removes)) (by (is_more d.periodic.list.members.schedule way.work))))
  where
    c : Command
    c = unfinished.Unchain e

    way : IsUnchaining d e
    way = subst (λ (o : Option Command). IsUnderWay d o) is old.way

    goes : Periodic → DriverContent
    goes l = or_finished (record d { made = 0; periodic = begun_next true (record d.periodic { list = l }) }) c

    by : (b : Bool) → IsListed (goes (cond b (next_made d way.work) (last_store d way.work)))
    by true = more_listed d e is way old.list
    by false =
        ⊎_elim (λ (iso : way.framed.isochronous ≡ true). iso_last d e owns is way iso old.list) (λ (queue : way.framed.isochronous ≡ false). queue_last d e owns is way queue old.list)
        (cases_Bool way.framed.isochronous)
