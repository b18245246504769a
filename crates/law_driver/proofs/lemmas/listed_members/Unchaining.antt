-- An endpoint leaves its frames: its queue head, or each of its descriptors that waits, is unlinked.
use Rattle.std.proofs.Common.{◌≡◌, ◌≢◌, ℕ, ◌==◌, Bool, true, false, not, ◌&&◌, ◌||◌, cond, List, [], ◌∷◌, ◌++◌, set, slice_get, Option, Some, None, option_map, ap, sym, subst, ◌∙◌, ⊎_elim, inl, inr, refl, arith}
use Rattle.std.specs.Prelude.{nat_eq, is_none}
use Rattle.std.specs.List.{AllByRecursion}
use Rattle.std.proofs.lemmas.Bool.{false≢true, eq-eqb}
use Rattle.std.proofs.lemmas.Option.{same_Some}
use Rattle.law_common.proofs.Booleans.{or_none, first_true, second_true}
use Rattle.law_common.proofs.Numbers.{same_number, other_number}
use Rattle.law_common.proofs.Lists.{set_here, set_there, all_more, all_two}
use Rattle.drv_chains.specs.declared.members.Descriptor.{Descriptor}
use Rattle.drv_chains.specs.declared.members.QueueHead.{QueueHead as Queue}
use Rattle.drv_chains.specs.declared.members.Member.{Member}
use Rattle.drv_chains.specs.declared.members.Member.TheVariants.{Once}
use Rattle.drv_chains.specs.Chains.{id_of}
use Rattle.drv_members.specs.Members.{is_member, is_linked}
use Rattle.drv_periodic.specs.declared.work.Work.{Work}
use Rattle.drv_periodic.specs.Periodic.{begun, removing}
use Rattle.drv_periodic_table.specs.Periodic.{PeriodicContent, note_at, descriptor_member, is_periodic}
use Rattle.drv_periodic_table.specs.Linking.{may_unlink, with_first, begun_next}
use Rattle.drv_table.specs.declared.content.Endpoint.{Endpoint}
use Rattle.drv_table.specs.declared.content.Transfer.{Transfer}
use Rattle.drv_table.specs.declared.content.Command.{Command}
use Rattle.drv_table.specs.declared.content.Command.TheVariants as unfinished
use Rattle.drv_table.specs.DriverContent.{DriverContent}
use Rattle.drv_table.specs.Commands.{no_command, removal_of, leave_frames, finished, or_finished}
use Rattle.drv_periodic_table.specs.declared.content.Removed.TheVariants as removed
use Rattle.law_driver.proofs.lemmas.run_owners.Orders.{set_case}
use Rattle.claims_driver.specs.FrameListMembers.{Framed, framed_of, framed_in, is_chained, Placed, placed_in, is_among, member_of}
use Rattle.law_driver.specs.listed_members.Members.{is_in_names, AreOnce, under_way, is_linked_by, IsStanding, IsQueueOf, IsWaitingOf, AreLeaving, IsUnderWay, AreKept, to_come, HasList, IsListed}
use Rattle.law_driver.proofs.lemmas.listed_members.Schedules.{same_members}
use Rattle.law_driver.proofs.lemmas.listed_members.Standing.{seen, Owns}
use Rattle.law_driver.proofs.lemmas.listed_members.Stays.{moved, same_queue}
use Rattle.law_driver.proofs.lemmas.listed_members.Stores.{begun_none}
use Rattle.law_driver.proofs.lemmas.listed_members.Unlinks.{below_frames, placed_here}

-- what the command has left of the descriptors
pub linked_as : (d : DriverContent) (e t : ℕ) (p : Placed) → d.command ≡ Some (unfinished.Unchain e) → is_linked_by d.command d.made d.periodic t p ≡ not (p.endpoint == e) || is_in_names (id_of (member_of d.periodic p)) (under_way d.periodic.list.work ++ d.periodic.queued)
linked_as d e t p is = ap (λ (k : Option Command). is_linked_by k d.made d.periodic t p) is

pub none_comes : (d : DriverContent) (e : ℕ) → d.command ≡ Some (unfinished.Unchain e) → to_come d.command d.made d.periodic.queued ≡ 0
none_comes d e is = ap (λ (k : Option Command). to_come k d.made d.periodic.queued) is

pub elsewhere_test : (n e : ℕ) → not (n == e) ≡ true → n ≢ e
elsewhere_test n e on same = false≢true (sym (ap not (ap (λ m. m == e) same ∙ same_number e)) ∙ on)

pub elsewhere_on : (n e : ℕ) → n ≢ e → not (n == e) ≡ true
elsewhere_on n e differs = ap not (other_number n e differs)

-- no queue head of the endpoint is left
abbrev pub NoneLeft : DriverContent → ℕ → List Queue → Type 0
NoneLeft d e qs = AllByRecursion (λ q. (s : IsQueueOf d q) → s.number ≡ e → ⊥) qs

-- ---- the end

and_none : (a b : Bool) → b ≡ false → a && b ≡ false
and_none true b off = off
and_none false b off = refl

pub all_unlinked : (d : DriverContent) (e : ℕ) (z : Endpoint) → d.command ≡ Some (unfinished.Unchain e) → d.periodic.list.work ≡ None → d.periodic.queued ≡ [] → slice_get d.endpoints e ≡ Some z → z.cancelled ≡ true → NoneLeft d e d.periodic.list.members.schedule.queues → HasList d → IsListed (finished d (unfinished.Unchain e))
all_unlinked d e z is none queued here cancelled left old =
    subst (λ (o : Option Endpoint). IsListed (leave_frames (no_command d) e o)) (sym here) (by z.chained refl)
  where
    q : PeriodicContent
    q = d.periodic

    y : Endpoint
    y = record z { chained = false }

    f : DriverContent
    f = record (no_command d) { endpoints = set d.endpoints e y; periodic = record q { removals = q.removals ++ removal_of (removed.Endpoint e) ∷ [] } }

    names : (p : Placed) → is_in_names (id_of (member_of q p)) (under_way q.list.work ++ q.queued) ≡ false
    names p = ap (λ (o : Option Work). is_in_names (id_of (member_of q p)) (under_way o ++ q.queued)) none ∙ ap (is_in_names (id_of (member_of q p))) queued

    elsewhere : (t : ℕ) (p : Placed) → is_linked_by d.command d.made q t p ≡ true → p.endpoint ≢ e
    elsewhere t p on = elsewhere_test p.endpoint e (or_none (not (p.endpoint == e)) (is_in_names (id_of (member_of q p)) (under_way q.list.work ++ q.queued)) (names p) (sym (linked_as d e t p is) ∙ on))

    linked : (t : ℕ) (p : Placed) → p.endpoint ≢ e → is_linked_by d.command d.made q t p ≡ true
    linked t p differs = linked_as d e t p is ∙ first_true (not (p.endpoint == e)) (is_in_names (id_of (member_of q p)) (under_way q.list.work ++ q.queued)) (elsewhere_on p.endpoint e differs)

    -- where it was out of its frames
    n : DriverContent
    n = no_command d

    out : z.chained ≡ false → (t : ℕ) (p : Placed) → placed_in d.endpoints d.transfers t ≡ Some p → p.waits ≡ true → p.endpoint ≢ e
    out off t p there waits same =
        let s = seen d.endpoints d.transfers t p there in
        let at : s.transfer.endpoint ≡ e = sym s.endpoint ∙ same in
        let no : is_chained (framed_in d.endpoints s.transfer.endpoint) ≡ false =
        ap (λ i. is_chained (framed_in d.endpoints i)) at ∙ ap (λ (o : Option Endpoint). is_chained (option_map framed_of o)) here ∙ off in
        false≢true (sym (s.waits ∙ and_none (not s.transfer.reported) (is_chained (framed_in d.endpoints s.transfer.endpoint)) no) ∙ waits)

    there_already : z.chained ≡ false → IsListed n
    there_already off = record {
      list = record {
        list = old.list;
        members = same_members (same_queue d n (λ i x h. h))
            (λ m s. moved d n m s s.here (λ on. on) (λ waits on. refl) refl)
            (λ m s. moved n d m s s.here (λ on. on) (λ waits on. linked s.number s.placed (out off s.number s.placed s.here waits)) refl) old.members;
        frames = old.frames;
        many = omega (arith, old.many);
        room = old.room;
        kept = old.kept;
      };
      way = record { work = none; queued = queued };
    }

    -- it is out of them now
    framed_there : (i : ℕ) → i ≢ e → framed_in f.endpoints i ≡ framed_in d.endpoints i
    framed_there i differs = ap (option_map framed_of) (set_there d.endpoints e i y differs)

    framed_here : framed_in f.endpoints e ≡ Some (framed_of y)
    framed_here = ap (option_map framed_of) (set_here d.endpoints e z y here)

    queues : (r : Queue) → IsQueueOf d r × ((s : IsQueueOf d r) → s.number ≡ e → ⊥) → IsQueueOf f r
    queues r both =
        let s = both.0 in
        record {
          number = s.number;
          framed = s.framed;
          here = framed_there s.number (both.1 s) ∙ s.here;
          chained = s.chained;
          queued = s.queued;
          place = s.place;
          placed = s.placed;
          is = s.is;
          valid = s.valid;
        }

    of : DriverContent → Transfer → Placed
    of g v = record { endpoint = v.endpoint; block = v.first; waits = not v.reported && is_chained (framed_in g.endpoints v.endpoint) }

    waits_same : (v : Transfer) → v.endpoint ≢ e → (of f v).waits ≡ (of d v).waits
    waits_same v differs = ap (λ o. not v.reported && is_chained o) (framed_there v.endpoint differs)

    waits_no : (v : Transfer) → v.endpoint ≡ e → (of f v).waits ≡ false
    waits_no v at = and_none (not v.reported) (is_chained (framed_in f.endpoints v.endpoint)) (ap (λ i. is_chained (framed_in f.endpoints i)) at ∙ ap is_chained framed_here)

    forth : (m : Member) → IsStanding d m → IsStanding f m
    forth m s =
        let v = seen d.endpoints d.transfers s.number s.placed s.here in
        record {
          number = s.number;
          placed = of f v.transfer;
          here = placed_here f.endpoints d.transfers s.number v.transfer v.there v.sort;
          stands = ⊎_elim (λ (on : is_among s.number q.unlinks ≡ true). inl on)
              (λ w. inr (waits_same v.transfer (λ same. elsewhere s.number s.placed w.1 (v.endpoint ∙ same)) ∙ sym v.waits ∙ w.0, refl)) s.stands;
          is = ap (descriptor_member q.notes) (sym v.block) ∙ s.is;
        }

    back : (m : Member) → IsStanding f m → IsStanding d m
    back m s =
        let v = seen f.endpoints d.transfers s.number s.placed s.here in
        record {
          number = s.number;
          placed = of d v.transfer;
          here = placed_here d.endpoints d.transfers s.number v.transfer v.there v.sort;
          stands = ⊎_elim (λ (on : is_among s.number q.unlinks ≡ true). inl on)
              (λ w.
              let differs : v.transfer.endpoint ≢ e = λ same. false≢true (sym (v.waits ∙ waits_no v.transfer same) ∙ w.0) in
              inr (sym (waits_same v.transfer differs) ∙ sym v.waits ∙ w.0, linked s.number (of d v.transfer) differs)) s.stands;
          is = ap (descriptor_member q.notes) (sym v.block) ∙ s.is;
        }

    kept : AreKept f.endpoints
    kept i x there periodic off =
        set_case (λ j (w : Endpoint). is_periodic w.desc.kind ≡ true → w.cancelled ≡ false → w.chained ≡ true) d.endpoints e i z y x here there
        (λ frames fresh. absurd (false≢true (sym fresh ∙ cancelled))) (λ differs was frames fresh. old.kept i x was frames fresh) periodic off

    left_now : IsListed f
    left_now = record {
      list = record {
        list = old.list;
        members = record {
          queues = all_more (λ r. IsQueueOf d r × ((s : IsQueueOf d r) → s.number ≡ e → ⊥)) (IsQueueOf f) q.list.members.schedule.queues queues (all_two (IsQueueOf d) (λ r. (s : IsQueueOf d r) → s.number ≡ e → ⊥) q.list.members.schedule.queues old.members.queues left);
          descriptors = all_more (λ (k : Descriptor). IsStanding d (Once k)) (λ (k : Descriptor). IsStanding f (Once k)) q.list.members.schedule.descriptors (λ k. forth (Once k)) old.members.descriptors;
          each = λ m s. old.members.each m (back m s);
        };
        frames = old.frames;
        many = omega (arith, old.many);
        room = old.room;
        kept = kept;
      };
      way = record { work = none; queued = queued };
    }

    by : (b : Bool) → z.chained ≡ b → IsListed (cond b f n)
    by true on = left_now
    by false off = there_already off

-- ---- one is begun

-- the next one is under way
pub removing_listed : (d : DriverContent) (e : ℕ) (z : Endpoint) (x : Framed) (m : Member) (ms : List Member) → d.command ≡ Some (unfinished.Unchain e) → d.periodic.list.work ≡ None → d.periodic.queued ≡ m ∷ ms → slice_get d.endpoints e ≡ Some z → z.cancelled ≡ true → framed_in d.endpoints e ≡ Some x → AreLeaving d e x (m ∷ ms) → HasList d
    → IsListed (record d { periodic = record d.periodic { list = removing d.periodic.list m; queued = ms } })
removing_listed d e z x m ms is none queued here cancelled at leaving old = record {
  list = record {
    list = old.list;
    members = same_members (same_queue d g (λ i w h. h)) forth back old.members;
    frames = old.frames;
    many = let a = none_comes d e is in let b = none_comes g e is in omega (arith, a, b, old.many);
    room = old.room;
    kept = old.kept;
  };
  way =
      subst (λ (o : Option Command). IsUnderWay g o) (sym is)
      (record {
        work = begun m true;
        begun = refl;
        removes = refl;
        endpoint = z;
        here = here;
        cancelled = cancelled;
        framed = x;
        at = at;
        leaving = record {
          descriptors = λ iso. let l = leaving.descriptors iso in (all_more (IsWaitingOf d e 0) (IsWaitingOf g e 0) (m ∷ ms) waiting l.0, l.1);
          queue = leaving.queue;
        };
      });
}
  where
    q : PeriodicContent
    q = d.periodic

    g : DriverContent
    g = record d { periodic = record q { list = removing q.list m; queued = ms } }

    waiting : (r : Member) → IsWaitingOf d e 0 r → IsWaitingOf g e 0 r
    waiting r w = record { number = w.number; placed = w.placed; here = w.here; later = w.later; endpoint = w.endpoint; waits = w.waits; is = w.is }

    same : (t : ℕ) (p : Placed) → is_linked_by g.command g.made g.periodic t p ≡ is_linked_by d.command d.made q t p
    same t p =
        linked_as g e t p is
        ∙ sym (linked_as d e t p is ∙ ap (λ (o : Option Work). not (p.endpoint == e) || is_in_names (id_of (member_of q p)) (under_way o ++ q.queued)) none
        ∙ ap (λ (rs : List Member). not (p.endpoint == e) || is_in_names (id_of (member_of q p)) rs) queued)

    forth : (r : Member) → IsStanding d r → IsStanding g r
    forth r s = moved d g r s s.here (λ on. on) (λ waits on. same s.number s.placed ∙ on) refl

    back : (r : Member) → IsStanding g r → IsStanding d r
    back r s = moved g d r s s.here (λ on. on) (λ waits on. sym (same s.number s.placed) ∙ on) refl

-- no descriptor is one of an endpoint with a queue
pub no_descriptor : (d : DriverContent) (e : ℕ) (x : Framed) (t : ℕ) (p : Placed) → Owns d → framed_in d.endpoints e ≡ Some x → x.isochronous ≡ false → placed_in d.endpoints d.transfers t ≡ Some p → p.endpoint ≢ e
no_descriptor d e x t p owns at queued here same = false≢true (sym queued ∙ owns.sorts t p x here (ap (framed_in d.endpoints) same ∙ at))

-- and no queue head is one of an isochronous endpoint
pub iso_none : (d : DriverContent) (e : ℕ) (x : Framed) (qs : List Queue) → framed_in d.endpoints e ≡ Some x → x.isochronous ≡ true → NoneLeft d e qs
iso_none d e x [] at iso = tt
iso_none d e x (r ∷ qs) at iso =
    ((λ s same. false≢true (sym s.queued ∙ ap (λ (w : Framed). w.isochronous) (same_Some s.framed x (sym s.here ∙ ap (framed_in d.endpoints) same ∙ at)) ∙ iso)), iso_none d e x qs at iso)

pub begin_iso : (d : DriverContent) (e : ℕ) (z : Endpoint) (x : Framed) (ms : List Member) → d.command ≡ Some (unfinished.Unchain e) → d.periodic.list.work ≡ None → d.periodic.queued ≡ ms → slice_get d.endpoints e ≡ Some z → z.cancelled ≡ true → framed_in d.endpoints e ≡ Some x → x.isochronous ≡ true → AllByRecursion (IsWaitingOf d e 0) ms → AreOnce ms → HasList d
    → IsListed (or_finished (record d { periodic = begun_next true d.periodic }) (unfinished.Unchain e))
begin_iso d e z x [] is none queued here cancelled at iso members once old =
    subst (λ (q : PeriodicContent). IsListed (or_finished (record d { periodic = q }) (unfinished.Unchain e))) (sym (begun_none true d.periodic queued))
    (subst (λ (o : Option Work). IsListed (cond (is_none o) (finished d (unfinished.Unchain e)) d)) (sym none) (all_unlinked d e z is none queued here cancelled (iso_none d e x d.periodic.list.members.schedule.queues at iso) old))
begin_iso d e z x (m ∷ ms) is none queued here cancelled at iso members once old =
    subst (λ (p : PeriodicContent). IsListed (or_finished (record d { periodic = p }) (unfinished.Unchain e))) (sym begins)
    (removing_listed d e z x m ms is none queued here cancelled at (record { descriptors = λ on. (members, once); queue = λ off. absurd (false≢true (sym off ∙ iso)) }) old)
  where
    q : PeriodicContent
    q = d.periodic

    w : IsWaitingOf d e 0 m
    w = members.0

    stands : IsStanding d m
    stands = record {
      number = w.number;
      placed = w.placed;
      here = w.here;
      stands = inr (
        w.waits,
        linked_as d e w.number w.placed is ∙ ap (λ (o : Option Work). not (w.placed.endpoint == e) || is_in_names (id_of (member_of q w.placed)) (under_way o ++ q.queued)) none
            ∙ ap (λ (rs : List Member). not (w.placed.endpoint == e) || is_in_names (id_of (member_of q w.placed)) rs) queued
            ∙ second_true (not (w.placed.endpoint == e)) (is_in_names (id_of (member_of q w.placed)) (m ∷ ms))
            (first_true (nat_eq (id_of m) (id_of (member_of q w.placed))) (is_in_names (id_of (member_of q w.placed)) ms)
            (eq-eqb (id_of m) (id_of (member_of q w.placed)) (ap id_of (sym w.is)))),
      );
      is = w.is;
    }

    valid : is_member m ≡ true
    valid = subst (λ (r : Member). is_member r ≡ true) w.is (below_frames (note_at q.notes w.placed.block).frame (old.frames w.placed.block))

    may : may_unlink q.list m ≡ true
    may = ap (λ (o : Option Work). is_none o && (is_member m && is_linked q.list.members.schedule m)) none ∙ ap (λ b. b && is_linked q.list.members.schedule m) valid ∙ old.members.each m stands

    begins : begun_next true q ≡ record q { list = removing q.list m; queued = ms }
    begins =
        ap (λ (o : Option Work). cond (is_none o) (with_first true q q.queued) q) none ∙ ap (with_first true q) queued
        ∙ ap (λ b. record q { list = cond b (removing q.list m) q.list; queued = ms }) may
