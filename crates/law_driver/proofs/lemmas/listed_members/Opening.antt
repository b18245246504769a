-- Nothing is in the list of a driver that was just built; and accepted commands, but for those of isochronous endpoints.
use Rattle.std.proofs.Common.{◌≡◌, ℕ, zero, suc, ◌-◌, ◌/◌, ◌<◌, Bool, true, false, not, ◌&&◌, cond, List, [], ◌∷◌, ◌++◌, length, take, get_or, replicate, set, slice_get, Option, Some, None, option_map, ap, sym, subst, ◌∙◌, ⊎_elim, refl, arith, length-append}
use Rattle.std.specs.Prelude.{is_none, option_and_then}
use Rattle.std.proofs.lemmas.Bool.{false≢true, and_parts}
use Rattle.std.proofs.lemmas.Option.{same_Some, slice_get_within}
use Rattle.law_common.proofs.Lists.{push_which}
use Rattle.word_mem.specs.Memory.{Mem}
use Rattle.drv_chains.specs.declared.members.QueueHead.{QueueHead as Queue}
use Rattle.drv_chains.specs.declared.members.Member.{Member}
use Rattle.drv_chains.specs.declared.members.Member.TheVariants.{Each}
use Rattle.drv_chains.specs.Chains.{has_name}
use Rattle.drv_members.specs.Ranks.{is_queue}
use Rattle.drv_members.specs.Members.{takes, has_room}
use Rattle.drv_periodic.specs.declared.work.Work.{Work}
use Rattle.drv_periodic.specs.Periodic.{Periodic, begun, inserting}
use Rattle.drv_periodic_table.specs.Periodic.{PeriodicContent, no_descriptor, note_at, queue_name, is_periodic}
use Rattle.drv_periodic_table.specs.Linking.{may_link}
use Rattle.drv_table.specs.declared.content.Endpoint.{Endpoint}
use Rattle.drv_table.specs.declared.content.Transfer.{Transfer}
use Rattle.drv_table.specs.declared.content.Reserve.{Reserve}
use Rattle.drv_table.specs.DriverContent.{DriverContent}
use Rattle.drv_table.specs.Opening.{opening}
use Rattle.drv_table.specs.Accepting.{Offered, new_runs}
use Rattle.drv_table.specs.Offers.{new_endpoint, placed_endpoint, accepted_chain, with_queued, new_transfer}
use Rattle.drv_table.specs.CancelOffers.{first_end}
use Rattle.claims_driver.specs.Owners.{is_descriptor}
use Rattle.claims_driver.specs.Leaving.{IsOrderly}
use Rattle.law_driver.specs.run_owners.Accepts.{Opens, Chains, Places, Transfers, Cancels}
use Rattle.law_driver.proofs.lemmas.run_owners.Ordered.{pushed_below}
use Rattle.claims_driver.specs.FrameListMembers.{Framed, framed_of, framed_in, is_chained, Placed, placed_of, placed_in}
use Rattle.law_driver.specs.listed_members.Members.{HasMembers, IsStanding, IsQueueOf, IsIdle, AreKept, to_come, IsListed}
use Rattle.law_driver.proofs.lemmas.listed_members.Schedules.{same_members, with_queue_linked}
use Rattle.law_driver.proofs.lemmas.listed_members.Stays.{is_still, still_linked, none_to_come, moved, SameEndpoints, SameTables, placed_by, all_transfers, endpoint_set, tables, same_queue}
use Rattle.law_driver.proofs.lemmas.listed_members.Calm.{is_calm, calm_listed, calm_idle}
use Rattle.law_driver.proofs.lemmas.listed_members.Rooms.{KeepsRoom}

pub opening_list_has_its_members : (n : ℕ) (room : Reserve) → IsListed (opening n room).driver
opening_list_has_its_members n room = record {
  list = record {
    list = refl;
    members = record { queues = tt; descriptors = tt; each = λ m s. absurd (none s.number s.placed s.here) };
    frames = λ b. all_small (n / 8) b;
    many = omega arith;
    room = omega arith;
    kept = λ e x here. absurd (cc);
  };
  way = record { work = refl; queued = refl };
}
  where
    none : (t : ℕ) (p : Placed) → placed_in [] [] t ≡ Some p → ⊥
    none t p here = cc

    all_small : (k b : ℕ) → (note_at (replicate k no_descriptor) b).frame < 1024
    all_small zero b = omega arith
    all_small (suc k) zero = omega arith
    all_small (suc k) (suc b) = all_small k b

-- ---- one endpoint more

pub framed_pushed : (xs : List Endpoint) (y : Endpoint) (i : ℕ) → i < length xs → framed_in (xs ++ y ∷ []) i ≡ framed_in xs i
framed_pushed xs y i below = ap (option_map framed_of) (pushed_below xs y i below)

pub framed_within : (xs : List Endpoint) (i : ℕ) (x : Framed) → framed_in xs i ≡ Some x → i < length xs
framed_within xs i x here = at (slice_get xs i) refl here
  where
    at : (o : Option Endpoint) → slice_get xs i ≡ o → option_map framed_of o ≡ Some x → i < length xs
    at None there f = absurd (cc)
    at (Some z) there f = slice_get_within xs i z there

placed_pushed : (xs : List Endpoint) (y : Endpoint) (ts : List Transfer) → ((t : ℕ) (z : Transfer) → slice_get ts t ≡ Some z → z.endpoint < length xs) → (t : ℕ) → placed_in (xs ++ y ∷ []) ts t ≡ placed_in xs ts t
placed_pushed xs y ts within t = at (slice_get ts t) refl
  where
    at : (o : Option Transfer) → slice_get ts t ≡ o → option_and_then (placed_of (xs ++ y ∷ [])) o ≡ option_and_then (placed_of xs) o
    at None there = refl
    at (Some z) there =
        ap (λ (f : Option Framed). cond (is_descriptor z.sort) (Some (record { endpoint = z.endpoint; block = z.first; waits = not z.reported && is_chained f })) None) (framed_pushed xs y z.endpoint (within t z there))

kept_pushed : (xs : List Endpoint) (y : Endpoint) → (is_periodic y.desc.kind ≡ true → y.chained ≡ true) → AreKept xs → AreKept (xs ++ y ∷ [])
kept_pushed xs y new kept i z there periodic off =
    ⊎_elim (λ (w : slice_get xs i ≡ Some z). kept i z w periodic off)
    (λ (w : (i ≡ length xs) × (z ≡ y)). ap (λ (v : Endpoint). v.chained) w.1 ∙ new (ap (λ (v : Endpoint). is_periodic v.desc.kind) (sym w.1) ∙ periodic)) (push_which xs y i z there)

pushed_tables : (d e : DriverContent) (y : Endpoint) → IsOrderly d → e.endpoints ≡ d.endpoints ++ y ∷ [] → e.transfers ≡ d.transfers → e.periodic.list ≡ d.periodic.list → e.periodic.notes ≡ d.periodic.notes → e.periodic.unlinks ≡ d.periodic.unlinks → e.room.transfers ≡ d.room.transfers → (is_periodic y.desc.kind ≡ true → y.chained ≡ true) → SameTables d e
pushed_tables d e y order endpoints transfers list notes unlinks room new = record {
  list = ap (λ (p : Periodic). p.list) list;
  members = ap (λ (p : Periodic). p.members) list;
  notes = notes;
  unlinks = unlinks;
  placed = λ t.
      ap (λ (xs : List Endpoint). placed_in xs e.transfers t) endpoints ∙ ap (λ (ts : List Transfer). placed_in (d.endpoints ++ y ∷ []) ts t) transfers
      ∙ placed_pushed d.endpoints y d.transfers order.within t;
  framed = λ i x here. ap (λ (xs : List Endpoint). framed_in xs i) endpoints ∙ framed_pushed d.endpoints y i (framed_within d.endpoints i x here) ∙ here;
  many = let n = ap (λ (ts : List Transfer). length ts) transfers in omega (arith, n);
  room = let n = ap (λ (ts : List Transfer). length ts) transfers in omega (arith, n, room);
  kept = λ k. subst AreKept (sym endpoints) (kept_pushed d.endpoints y new k);
}

pub open_listed : (d : DriverContent) (m : Mem) (o : Offered) → Opens d m o → IsOrderly d → IsListed d → IsListed o.driver
open_listed d m o why order old =
    subst (λ (f : Offered). IsListed f.driver) (sym why.is)
    (calm_listed d _ (pushed_tables d _ (new_endpoint why.desc _ _) order refl refl refl refl refl refl (λ periodic. absurd (false≢true (sym why.ring ∙ periodic)))) (λ idle. idle) (ap is_calm why.idle) refl old)

pub place_listed : (d : DriverContent) (m : Mem) (o : Offered) → Places d m o → IsOrderly d → IsListed d → IsListed o.driver
place_listed d m o why order old =
    subst (λ (f : Offered). IsListed f.driver) (sym why.is)
    (calm_listed d _ (pushed_tables d _ (placed_endpoint why.desc why.placement 0 0) order refl refl refl refl refl refl (λ periodic. refl)) (λ idle. record { work = idle.work; queued = idle.queued }) (ap is_calm why.idle) (ap is_calm why.idle) old)

-- ---- an interrupt endpoint

pub newest_framed : (xs : List Endpoint) (y : Endpoint) → framed_in (xs ++ y ∷ []) (length xs) ≡ Some (framed_of y)
newest_framed [] y = refl
newest_framed (x ∷ xs) y = newest_framed xs y

pub chain_listed : (d : DriverContent) (m : Mem) (o : Offered) → Chains d m o → IsOrderly d → IsListed d → IsListed o.driver
chain_listed d m o why order old = subst (λ (g : Offered). IsListed g.driver) (sym why.is) (by (may_link q.list (Each r)) refl)
  where
    q : PeriodicContent
    q = d.periodic

    queue : ℕ
    queue = get_or (new_runs d why.holding_after) 0 0

    dummy : ℕ
    dummy = get_or (new_runs d why.holding_after) 1 0

    y : Endpoint
    y = placed_endpoint why.desc why.placement queue dummy

    r : Queue
    r = record { id = queue_name queue; period = why.placement.period; phase = why.placement.phase }

    f : Periodic → DriverContent
    f l = record (accepted_chain d why.desc why.placement why.holding_after queue dummy).driver { periodic = record (accepted_chain d why.desc why.placement why.holding_after queue dummy).driver.periodic { list = l } }

    before : is_still d.command ≡ true
    before = ap is_still why.idle

    idle : IsIdle q
    idle = calm_idle d d.command (ap is_calm why.idle) old.way

    placed : (t : ℕ) → placed_in (d.endpoints ++ y ∷ []) d.transfers t ≡ placed_in d.endpoints d.transfers t
    placed t = placed_pushed d.endpoints y d.transfers order.within t

    queues : (l : Periodic) (x : Queue) → IsQueueOf d x → IsQueueOf (f l) x
    queues l x s = same_queue d (f l) (λ i w here. framed_pushed d.endpoints y i (framed_within d.endpoints i w here) ∙ here) x s

    forth : (l : Periodic) (n : Member) → IsStanding d n → IsStanding (f l) n
    forth l n s = moved d (f l) n s (placed s.number ∙ s.here) (λ on. on) (λ waits on. refl) refl

    back : (l : Periodic) (n : Member) → IsStanding (f l) n → IsStanding d n
    back l n s = moved (f l) d n s (sym (placed s.number) ∙ s.here) (λ on. on) (λ waits on. still_linked d.command d.made q s.number s.placed before) refl

    old_members : (l : Periodic) → HasMembers (IsQueueOf (f l)) (IsStanding (f l)) q.list.members.schedule
    old_members l = same_members (queues l) (forth l) (back l) old.list.members

    kept : AreKept (d.endpoints ++ y ∷ [])
    kept = kept_pushed d.endpoints y (λ periodic. refl) old.list.kept

    none : to_come d.command d.made q.queued ≡ 0
    none = none_to_come d.command d.made q.queued before

    valid : may_link q.list (Each r) ≡ true → is_queue r ≡ true
    valid on =
        let b = and_parts (is_none q.list.work) (takes q.list.members (Each r)) on in
        (and_parts (is_queue r) (not (has_name q.list.members.schedule r.id) && has_room q.list.members (Each r)) b.1).0

    by : (b : Bool) → may_link q.list (Each r) ≡ b → IsListed (f (cond b (inserting q.list (Each r)) q.list))
    by false off =
        let l = q.list in
        record {
          list = record { list = old.list.list; members = old_members l; frames = old.list.frames; many = omega (arith, none, old.list.many); room = old.list.room; kept = kept };
          way = ((λ w is. let no : None ≡ Some w = sym idle.work ∙ is in absurd (cc)), idle.queued);
        }
    by true on =
        let l = inserting q.list (Each r) in
        let new : IsQueueOf (f l) r = record {
          number = length d.endpoints;
          framed = framed_of y;
          here = newest_framed d.endpoints y;
          chained = refl;
          queued = why.queued;
          place = why.placement;
          placed = refl;
          is = refl;
          valid = valid on;
        } in
        record {
          list = record {
            list = old.list.list;
            members = with_queue_linked r new (old_members l);
            frames = old.list.frames;
            many = omega (arith, none, old.list.many);
            room = old.list.room;
            kept = kept;
          };
          way = ((λ w is. ap (λ (v : Work). v.removes) (sym (same_Some (begun (Each r) false) w is))), idle.queued);
        }

-- ---- a transfer with qTDs

plain_pushed : (ts : List Transfer) (z : Transfer) → is_descriptor z.sort ≡ false → (xs : List Endpoint) (t : ℕ) → placed_in xs (ts ++ z ∷ []) t ≡ placed_in xs ts t
plain_pushed [] z plain xs zero = ap (λ b. cond b (Some (record { endpoint = z.endpoint; block = z.first; waits = not z.reported && is_chained (framed_in xs z.endpoint) })) None) plain
plain_pushed [] z plain xs (suc t) = refl
plain_pushed (y ∷ ts) z plain xs zero = refl
plain_pushed (y ∷ ts) z plain xs (suc t) = plain_pushed ts z plain xs t

pub transfer_accepted : (d : DriverContent) (m : Mem) (o : Offered) → Transfers d m o → KeepsRoom d o → IsListed d → IsListed o.driver
transfer_accepted d m o why room old = calm_listed d o.driver same idle (ap is_calm why.idle) calm old
  where
    x : Endpoint
    x = why.endpoint

    dummy : ℕ
    dummy = get_or (take (length why.asked.stages) (new_runs d why.holding_after)) (length why.asked.stages - 1) 0

    y : Endpoint
    y = with_queued x dummy (length d.transfers)

    z : Transfer
    z = new_transfer why.number why.asked x.dummy

    endpoints : SameEndpoints d.endpoints (set d.endpoints why.number y)
    endpoints = endpoint_set d.endpoints why.number x y why.here refl refl (λ off. off)

    same : SameTables d o.driver
    same = record {
      list = ap (λ (f : Offered). f.driver.periodic.list.list) why.is;
      members = ap (λ (f : Offered). f.driver.periodic.list.members) why.is;
      notes = ap (λ (f : Offered). f.driver.periodic.notes) why.is;
      unlinks = ap (λ (f : Offered). f.driver.periodic.unlinks) why.is;
      placed = λ t.
          ap (λ (f : Offered). placed_in f.driver.endpoints f.driver.transfers t) why.is ∙ plain_pushed d.transfers z why.sort (set d.endpoints why.number y) t
          ∙ placed_by d.endpoints (set d.endpoints why.number y) d.transfers endpoints.framed t;
      framed = λ i w here. ap (λ (f : Offered). framed_in f.driver.endpoints i) why.is ∙ endpoints.framed i ∙ here;
      many = let n = ap (λ (f : Offered). length f.driver.transfers) why.is in let k = length-append d.transfers (z ∷ []) in omega (arith, n, k);
      room = room;
      kept = λ k. subst (λ (f : Offered). AreKept f.driver.endpoints) (sym why.is) (endpoints.kept k);
    }

    idle : IsIdle d.periodic → IsIdle o.driver.periodic
    idle i = subst (λ (f : Offered). IsIdle f.driver.periodic) (sym why.is) i

    calm : is_calm o.driver.command ≡ true
    calm = ap (λ (f : Offered). is_calm f.driver.command) why.is

-- ---- a cancel of an endpoint of the ring

pub cancel_listed : (d : DriverContent) (m : Mem) (o : Offered) → Cancels d m o → IsListed d → IsListed o.driver
cancel_listed d m o why old =
    let x = why.endpoint in
    let y : Endpoint = record x { cancelled = true; ended = first_end x.ended } in
    subst (λ (f : Offered). IsListed f.driver) (sym why.is)
    (calm_listed d _ (tables d _ refl refl refl (endpoint_set d.endpoints why.number x y why.here refl refl (λ off. absurd (false≢true (sym off)))) (all_transfers d.transfers) refl) (λ idle. idle) (ap is_calm why.idle) refl old)
