-- A descriptor is harvested, and then unlinked by one store.
use Rattle.std.proofs.Common.{◌≡◌, ◌≢◌, ℕ, ◌+◌, ◌<◌, ◌≤◌, ◌==◌, Bool, true, false, not, ◌&&◌, ◌||◌, cond, nat_lt, List, [], ◌∷◌, ◌++◌, set, drop, slice_get, Option, Some, None, option_map, ap, sym, subst, ◌∙◌, ⊎_elim, inl, inr, refl, arith}
use Rattle.std.specs.Prelude.{option_and_then, is_none}
use Rattle.std.proofs.lemmas.Bool.{false≢true, cases_eq, or_cases}
use Rattle.std.proofs.lemmas.Bool.Decides.{nat_tests}
use Rattle.std.proofs.lemmas.List.{length-set}
use Rattle.std.proofs.lemmas.List.Folds.{list_any-append}
use Rattle.std.proofs.lemmas.Option.{same_Some}
use Rattle.law_common.proofs.Booleans.{or_true, first_true}
use Rattle.law_driver.proofs.Common.{among_first}
use Rattle.law_common.proofs.Numbers.{same_number, other_number}
use Rattle.law_common.proofs.Lists.{set_here, set_there}
use Rattle.word_mem.specs.Memory.{Mem}
use Rattle.drv_chains.specs.declared.members.Descriptor.{Descriptor}
use Rattle.drv_chains.specs.declared.members.QueueHead.{QueueHead as Queue}
use Rattle.drv_chains.specs.declared.members.Member.{Member}
use Rattle.drv_chains.specs.declared.members.Member.TheVariants.{Once}
use Rattle.drv_chains.specs.Chains.{id_of}
use Rattle.drv_members.specs.Members.{without_member, with_schedule, is_member, is_linked}
use Rattle.drv_periodic.specs.declared.work.Work.{Work}
use Rattle.drv_periodic.specs.Periodic.{Periodic, begun, removing, members_after, after_store}
use Rattle.drv_periodic_table.specs.Periodic.{note_at, descriptor_name, descriptor_member}
use Rattle.drv_periodic_table.specs.Linking.{may_unlink, unlinking}
use Rattle.drv_table.specs.declared.content.Endpoint.{Endpoint}
use Rattle.drv_table.specs.declared.content.Transfer.{Transfer}
use Rattle.drv_table.specs.DriverContent.{DriverContent, next_after}
use Rattle.drv_table.specs.Parts.{Parts}
use Rattle.drv_table.specs.Removals.{after_unlink}
use Rattle.drv_table.specs.Harvesting.{served, descriptor_told}
use Rattle.claims_driver.specs.Owners.{is_descriptor}
use Rattle.claims_driver.specs.Leaving.{times, owes, transfers_in, IsOrderly}
use Rattle.law_driver.proofs.lemmas.run_owners.Released.{same_by_test}
use Rattle.law_driver.proofs.lemmas.run_owners.Orders.{times_first, one_same}
use Rattle.claims_driver.specs.FrameListMembers.{framed_of, framed_in, is_chained, Placed, placed_of, placed_in, is_among}
use Rattle.law_driver.specs.listed_members.Members.{HasMembers, IsStanding, IsQueueOf, IsIdle, IsListed}
use Rattle.law_driver.proofs.lemmas.listed_members.Schedules.{no_longer, same_members, without_unlinked}
use Rattle.law_driver.proofs.lemmas.listed_members.OneWord.{one_word}
use Rattle.law_driver.proofs.lemmas.listed_members.Standing.{seen, Owns, one_number, unlinks_wait_not, times_among}
use Rattle.law_driver.proofs.lemmas.listed_members.Stays.{is_still, still_linked, none_to_come, moved, SameEndpoints, placed_by, endpoint_set}
use Rattle.law_driver.proofs.lemmas.listed_members.Calm.{is_calm, calm_still, calm_idle, idle_calm}

-- ---- lists of numbers

or_last : (a b : Bool) → a || (b || false) ≡ true → b ≡ false → a ≡ true
or_last true b on off = refl
or_last false true on off = absurd (false≢true (sym off))
or_last false false on off = on

among_pushed : (i t : ℕ) (ts : List ℕ) → is_among i ts ≡ true → is_among i (ts ++ t ∷ []) ≡ true
among_pushed i t ts on = list_any-append (λ u. u == i) ts (t ∷ []) ∙ first_true (is_among i ts) ((t == i) || false) on

among_last : (t : ℕ) (ts : List ℕ) → is_among t (ts ++ t ∷ []) ≡ true
among_last t ts = list_any-append (λ u. u == t) ts (t ∷ []) ∙ ap (λ b. is_among t ts || (b || false)) (same_number t) ∙ or_true (is_among t ts)

among_before : (i t : ℕ) (ts : List ℕ) → i ≢ t → is_among i (ts ++ t ∷ []) ≡ true → is_among i ts ≡ true
among_before i t ts differs on = or_last (is_among i ts) (t == i) (sym (list_any-append (λ u. u == i) ts (t ∷ [])) ∙ on) (other_number t i (λ same. differs (sym same)))

among_rest : (i t : ℕ) (ts : List ℕ) → slice_get ts 0 ≡ Some t → i ≢ t → is_among i ts ≡ true → is_among i (drop 1 ts) ≡ true
among_rest i t [] first differs on = absurd (cc)
among_rest i t (u ∷ ts) first differs on =
    let same : u ≡ t = cc in
    ⊎_elim (λ (here : (u == i) ≡ true). absurd (differs (sym (same_by_test u i here) ∙ same))) (λ (rest : is_among i ts ≡ true). rest) (or_cases (u == i) (is_among i ts) on)

among_all : (i : ℕ) (ts : List ℕ) → is_among i (drop 1 ts) ≡ true → is_among i ts ≡ true
among_all i [] on = on
among_all i (u ∷ ts) on = at (u == i)
  where
    at : (b : Bool) → b || is_among i ts ≡ true
    at true = refl
    at false = on

-- ---- the descriptor of a transfer

pub placed_here : (xs : List Endpoint) (ts : List Transfer) (t : ℕ) (y : Transfer) → slice_get ts t ≡ Some y → is_descriptor y.sort ≡ true → placed_in xs ts t ≡ Some (record { endpoint = y.endpoint; block = y.first; waits = not y.reported && is_chained (framed_in xs y.endpoint) })
placed_here xs ts t y there sort =
    ap (option_and_then (placed_of xs)) there ∙ ap (λ b. cond b (Some (record { endpoint = y.endpoint; block = y.first; waits = not y.reported && is_chained (framed_in xs y.endpoint) })) None) sort

pub seen_block : (xs : List Endpoint) (ts : List Transfer) (t : ℕ) (y : Transfer) (p : Placed) → slice_get ts t ≡ Some y → placed_in xs ts t ≡ Some p → p.block ≡ y.first
seen_block xs ts t y p there here = let s = seen xs ts t p here in s.block ∙ ap (λ (z : Transfer). z.first) (same_Some s.transfer y (sym s.there ∙ there))

-- ---- it is harvested

pub told_waits : (xs : List Endpoint) (e : ℕ) (x : Endpoint) (y : Transfer) → slice_get xs e ≡ Some x → x.chained ≡ true → y.endpoint ≡ e → y.reported ≡ false → not y.reported && is_chained (framed_in xs y.endpoint) ≡ true
told_waits xs e x y here on at off =
    ap (λ b. not b && is_chained (framed_in xs y.endpoint)) off ∙ ap (λ n. is_chained (option_map framed_of (slice_get xs n))) at ∙ ap (λ (o : Option Endpoint). is_chained (option_map framed_of o)) here ∙ on

pub told_listed : (d : DriverContent) (m : Mem) (e t : ℕ) (x : Endpoint) (y : Transfer) (errors : ℕ) → slice_get d.endpoints e ≡ Some x → slice_get d.transfers t ≡ Some y → x.chained ≡ true → y.endpoint ≡ e → y.reported ≡ false → is_descriptor y.sort ≡ true → is_calm d.command ≡ true → IsListed d → IsListed (served (descriptor_told d m e t x y errors) e)
told_listed d m e t x y errors here there on at off sort calm old = record {
  list = record {
    list = old.list.list;
    members = same_members queues forth back old.list.members;
    frames = old.list.frames;
    many =
        let c = none_to_come d.command d.made d.periodic.queued still in
        let n = length-set d.transfers t z in
        omega (arith, c, n, old.list.many);
    room = let n = length-set d.transfers t z in omega (arith, n, old.list.room);
    kept = endpoints.kept old.list.kept;
  };
  way = idle_calm f d.command calm (let i = calm_idle d d.command calm old.way in record { work = i.work; queued = i.queued });
}
  where
    f : DriverContent
    f = served (descriptor_told d m e t x y errors) e

    z : Transfer
    z = record y { reported = true }

    still : is_still d.command ≡ true
    still = calm_still d.command calm

    endpoints : SameEndpoints d.endpoints (set d.endpoints e (record x { next = next_after d.transfers e t }))
    endpoints = endpoint_set d.endpoints e x (record x { next = next_after d.transfers e t }) here refl refl (λ off. off)

    queues : (q : Queue) → IsQueueOf d q → IsQueueOf f q
    queues q s = record {
      number = s.number;
      framed = s.framed;
      here = endpoints.framed s.number ∙ s.here;
      chained = s.chained;
      queued = s.queued;
      place = s.place;
      placed = s.placed;
      is = s.is;
      valid = s.valid;
    }

    elsewhere : (i : ℕ) → i ≢ t → placed_in f.endpoints f.transfers i ≡ placed_in d.endpoints d.transfers i
    elsewhere i differs = ap (option_and_then (placed_of f.endpoints)) (set_there d.transfers t i z differs) ∙ placed_by d.endpoints f.endpoints d.transfers endpoints.framed i

    forth : (m : Member) → IsStanding d m → IsStanding f m
    forth m s =
        ⊎_elim
        (λ (same : s.number ≡ t).
        let block = seen_block d.endpoints d.transfers t y s.placed there (ap (placed_in d.endpoints d.transfers) (sym same) ∙ s.here) in
        record {
          number = t;
          placed = record { endpoint = y.endpoint; block = y.first; waits = false };
          here = placed_here f.endpoints f.transfers t z (set_here d.transfers t y z there) sort;
          stands = inl (among_last t d.periodic.unlinks);
          is = ap (descriptor_member d.periodic.notes) (sym block) ∙ s.is;
        })
        (λ (differs : s.number ≢ t).
        moved d f m s (elsewhere s.number differs ∙ s.here) (λ on. among_pushed s.number t d.periodic.unlinks on) (λ waits on. still_linked d.command d.made f.periodic s.number s.placed still) refl) (cases_eq s.number t)

    back : (m : Member) → IsStanding f m → IsStanding d m
    back m s =
        ⊎_elim
        (λ (same : s.number ≡ t).
        let block = seen_block f.endpoints f.transfers t z s.placed (set_here d.transfers t y z there) (ap (placed_in f.endpoints f.transfers) (sym same) ∙ s.here) in
        let waits = told_waits d.endpoints e x y here on at off in
        record {
          number = t;
          placed = record { endpoint = y.endpoint; block = y.first; waits = not y.reported && is_chained (framed_in d.endpoints y.endpoint) };
          here = placed_here d.endpoints d.transfers t y there sort;
          stands = inr (waits, still_linked d.command d.made d.periodic t (record { endpoint = y.endpoint; block = y.first; waits = not y.reported && is_chained (framed_in d.endpoints y.endpoint) }) still);
          is = ap (descriptor_member d.periodic.notes) (sym block) ∙ s.is;
        })
        (λ (differs : s.number ≢ t).
        moved f d m s (sym (elsewhere s.number differs) ∙ s.here) (λ on. among_before s.number t d.periodic.unlinks differs on) (λ waits on. still_linked d.command d.made d.periodic s.number s.placed still) refl) (cases_eq s.number t)

-- ---- it is unlinked

pub below_frames : (n : ℕ) → n < 1024 → nat_lt n 1024 ≡ true
below_frames n small = at (nat_lt n 1024) refl
  where
    at : (b : Bool) → nat_lt n 1024 ≡ b → b ≡ true
    at true on = refl
    at false off = grind (arith, nat_tests)

-- the list without it, where it is linked
pub list_without : (p : Periodic) (k : Descriptor) → p.work ≡ None → is_member (Once k) ≡ true → is_linked p.members.schedule (Once k) ≡ true → after_store (unlinking p (Once k)) ≡ record { list = p.list; members = with_schedule p.members (without_member p.members.schedule (Once k)); work = None }
list_without p k none member linked =
    ap (λ b. after_store (cond b (removing p (Once k)) p)) may ∙ ap (λ b. cond b more less) (one_word p.members.schedule k true)
  where
    w : Work
    w = begun (Once k) true

    more : Periodic
    more = record (removing p (Once k)) { work = Some (record w { made = w.made + 1 }) }

    less : Periodic
    less = record { list = p.list; members = members_after p.members w; work = None }

    may : may_unlink p (Once k) ≡ true
    may =
        ap (λ (o : Option Work). is_none o && (is_member (Once k) && is_linked p.members.schedule (Once k))) none
        ∙ ap (λ b. b && is_linked p.members.schedule (Once k)) member ∙ linked

pub unlinked_listed : (p : Parts) (t : ℕ) (o : Option Transfer) → Owns p.driver → IsOrderly p.driver → slice_get p.driver.transfers t ≡ o → slice_get p.driver.periodic.unlinks 0 ≡ Some t → is_calm p.driver.command ≡ true → IsListed p.driver → IsListed (after_unlink p t o).driver
unlinked_listed p t None owns order there first calm old = old_none
  where
    old_none : IsListed p.driver
    old_none = old
unlinked_listed p t (Some y) owns order there first calm old =
    subst (λ (l : Periodic). IsListed (with_list l)) (sym (list_without d.periodic.list k idle.work (below_frames k.frame (old.list.frames y.first)) linked)) now
  where
    d : DriverContent
    d = p.driver

    k : Descriptor
    k = record { id = descriptor_name (note_at d.periodic.notes y.first) y.first; frame = (note_at d.periodic.notes y.first).frame }

    among : is_among t d.periodic.unlinks ≡ true
    among = among_first t d.periodic.unlinks first

    due : is_descriptor y.sort ≡ true
    due = order.unlinked t y (some_times t d.periodic.unlinks first) there
      where
        some_times : (t : ℕ) (ts : List ℕ) → slice_get ts 0 ≡ Some t → 1 ≤ times t ts + times t (transfers_in d.periodic.removals)
        some_times t ts first = let c = times_first t t ts first in let o = one_same t in omega (arith, c, o)

    one : Placed
    one = record { endpoint = y.endpoint; block = y.first; waits = not y.reported && is_chained (framed_in d.endpoints y.endpoint) }

    here : placed_in d.endpoints d.transfers t ≡ Some one
    here = placed_here d.endpoints d.transfers t y there due

    stands : IsStanding d (Once k)
    stands = record { number = t; placed = one; here = here; stands = inl among; is = refl }

    linked : is_linked d.periodic.list.members.schedule (Once k) ≡ true
    linked = old.list.members.each (Once k) stands

    idle : IsIdle d.periodic
    idle = calm_idle d d.command calm old.way

    with_list : Periodic → DriverContent
    with_list l = record (after_unlink p t (Some y)).driver { periodic = record (after_unlink p t (Some y)).driver.periodic { list = l } }

    without : Periodic
    without = record { list = d.periodic.list.list; members = with_schedule d.periodic.list.members (without_member d.periodic.list.members.schedule (Once k)); work = None }

    f : DriverContent
    f = with_list without

    number_is : (m : Member) → (s : IsStanding d m) → id_of m ≡ k.id → s.number ≡ t
    number_is m s same = one_number d m t one owns s here (inl among) same

    queues : (q : Queue) → IsQueueOf d q → IsQueueOf f q
    queues q s = record {
      number = s.number;
      framed = s.framed;
      here = s.here;
      chained = s.chained;
      queued = s.queued;
      place = s.place;
      placed = s.placed;
      is = s.is;
      valid = s.valid;
    }

    forth : (m : Member) → IsStanding d m → (id_of m ≡ k.id → ⊥) → IsStanding f m
    forth m s differs =
        moved d f m s s.here
        (λ on. among_rest s.number t d.periodic.unlinks first
        (λ same. differs (ap id_of (sym s.is) ∙ ap (λ b. id_of (descriptor_member d.periodic.notes b)) (seen_block d.endpoints d.transfers t y s.placed there (ap (placed_in d.endpoints d.transfers) (sym same) ∙ s.here)))) on)
        (λ waits on. still_linked d.command d.made f.periodic s.number s.placed (calm_still d.command calm)) refl

    was : (m : Member) → IsStanding f m → IsStanding d m
    was m s = moved f d m s s.here (λ on. among_all s.number d.periodic.unlinks on) (λ waits on. still_linked d.command d.made d.periodic s.number s.placed (calm_still d.command calm)) refl

    -- it doesn't stand any more
    gone : (m : Member) → (s : IsStanding f m) → s.number ≡ t → ⊥
    gone m s same =
        let none = times_among t (drop 1 d.periodic.unlinks) (is_among t (drop 1 d.periodic.unlinks)) refl few in
        ⊎_elim
        (λ (on : is_among s.number (drop 1 d.periodic.unlinks) ≡ true). false≢true (sym none ∙ ap (λ n. is_among n (drop 1 d.periodic.unlinks)) (sym same) ∙ on))
        (λ w. false≢true (sym (unlinks_wait_not d t s.placed order (ap (placed_in d.endpoints d.transfers) (sym same) ∙ s.here) among) ∙ w.0)) s.stands
      where
        few : times t (drop 1 d.periodic.unlinks) ≤ 0
        few =
            let c = times_first t t d.periodic.unlinks first in
            let o = one_same t in
            let most : owes (slice_get d.transfers t) ≤ 1 = owes_most (slice_get d.transfers t) in
            omega (arith, c, o, most, order.harvests t)
          where
            owes_most : (o : Option Transfer) → owes o ≤ 1
            owes_most None = omega arith
            owes_most (Some z) = at (z.reported && not z.released)
              where
                at : (b : Bool) → cond b 1 0 ≤ 1
                at true = omega arith
                at false = omega arith

    back : (m : Member) → IsStanding f m → IsStanding d m × (id_of m ≡ k.id → ⊥)
    back m s = (was m s, λ same. gone m s (number_is m (was m s) same))

    members : HasMembers (IsQueueOf f) (IsStanding f) (without_member d.periodic.list.members.schedule (Once k))
    members = same_members queues (λ m s. s) (λ m s. s) (without_unlinked k forth back old.list.members)

    now : IsListed f
    now = record {
      list = record {
        list = old.list.list;
        members = members;
        frames = old.list.frames;
        many =
            let c = none_to_come d.command d.made d.periodic.queued (calm_still d.command calm) in
            let n = no_longer k.id d.periodic.list.members.schedule.descriptors in
            omega (arith, c, n, old.list.many);
        room = old.list.room;
        kept = old.list.kept;
      };
      way = idle_calm f d.command calm (record { work = refl; queued = idle.queued });
    }
