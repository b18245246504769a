-- Where the tables stay, so does the list.
use Rattle.std.proofs.Common.{◌≡◌, ℕ, zero, suc, ◌+◌, ◌<◌, ◌≤◌, Bool, true, false, not, ◌&&◌, cond, List, [], ◌∷◌, length, set, slice_get, Option, Some, None, ap, sym, subst, ◌∙◌, ⊎_elim, inl, inr, refl, arith}
use Rattle.std.specs.Prelude.{option_and_then}
use Rattle.std.proofs.lemmas.Bool.{false≢true}
use Rattle.std.proofs.lemmas.List.{length-set}
use Rattle.drv_chains.specs.declared.members.QueueHead.{QueueHead as Queue}
use Rattle.drv_chains.specs.declared.members.Member.{Member}
use Rattle.drv_members.specs.Members.{Members}
use Rattle.drv_periodic.specs.Periodic.{Periodic}
use Rattle.drv_periodic_table.specs.declared.content.DescriptorNote.{DescriptorNote}
use Rattle.drv_periodic_table.specs.Periodic.{PeriodicContent, note_at, descriptor_member, is_periodic}
use Rattle.drv_table.specs.declared.content.Endpoint.{Endpoint}
use Rattle.drv_table.specs.declared.content.Transfer.{Transfer}
use Rattle.drv_table.specs.declared.content.Command.{Command}
use Rattle.drv_table.specs.declared.content.Command.TheVariants as unfinished
use Rattle.drv_table.specs.DriverContent.{DriverContent}
use Rattle.claims_driver.specs.Owners.{is_descriptor}
use Rattle.law_driver.proofs.lemmas.run_owners.Stays.{same_view}
use Rattle.law_driver.proofs.lemmas.run_owners.Orders.{set_case}
use Rattle.claims_driver.specs.FrameListMembers.{Framed, framed_of, framed_in, is_chained, Placed, placed_of, placed_in, is_among, member_of}
use Rattle.law_driver.specs.listed_members.Members.{HasMembers, is_linked_by, IsStanding, IsQueueOf, to_come, AreKept, HasList}
use Rattle.law_driver.proofs.lemmas.listed_members.Schedules.{same_members}

-- ---- one that stands goes on standing

abbrev pub moved : (d e : DriverContent) (m : Member) → (s : IsStanding d m) → placed_in e.endpoints e.transfers s.number ≡ Some s.placed → (is_among s.number d.periodic.unlinks ≡ true → is_among s.number e.periodic.unlinks ≡ true)
    → (s.placed.waits ≡ true → is_linked_by d.command d.made d.periodic s.number s.placed ≡ true → is_linked_by e.command e.made e.periodic s.number s.placed ≡ true)
    → member_of e.periodic s.placed ≡ member_of d.periodic s.placed → IsStanding e m
moved d e m s here unlinks linked same = record {
  number = s.number;
  placed = s.placed;
  here = here;
  stands = ⊎_elim (λ (on : is_among s.number d.periodic.unlinks ≡ true). inl (unlinks on)) (λ w. inr (w.0, linked w.0 w.1)) s.stands;
  is = same ∙ s.is;
}

-- ---- commands that link and unlink no descriptors

abbrev pub is_still : Option Command → Bool
is_still (Some (unfinished.Iso e first count)) = false
is_still (Some (unfinished.Unchain e)) = false
is_still _ = true

pub still_linked : (c : Option Command) (n : ℕ) (q : PeriodicContent) (t : ℕ) (y : Placed) → is_still c ≡ true → is_linked_by c n q t y ≡ true
still_linked (Some (unfinished.Iso e first count)) n q t y still = absurd (false≢true still)
still_linked (Some (unfinished.Unchain e)) n q t y still = absurd (false≢true still)
still_linked _ n q t y still = refl

pub none_to_come : (c : Option Command) (n : ℕ) (ms : List Member) → is_still c ≡ true → to_come c n ms ≡ 0
none_to_come (Some (unfinished.Iso e first count)) n ms still = absurd (false≢true still)
none_to_come _ n ms still = refl

-- ---- the tables

pub record SameEndpoints (xs ys : List Endpoint) : Type 0 where
  pub framed : (i : ℕ) → framed_in ys i ≡ framed_in xs i
  pub kept : AreKept xs → AreKept ys

pub record SameTransfers (ts us : List Transfer) : Type 0 where
  pub placed : (xs : List Endpoint) (t : ℕ) → placed_in xs us t ≡ placed_in xs ts t
  pub many : length us ≡ length ts

pub record SameTables (d e : DriverContent) : Type 0 where
  pub list : e.periodic.list.list ≡ d.periodic.list.list
  pub members : e.periodic.list.members ≡ d.periodic.list.members
  pub notes : e.periodic.notes ≡ d.periodic.notes
  pub unlinks : e.periodic.unlinks ≡ d.periodic.unlinks
  pub placed : (t : ℕ) → placed_in e.endpoints e.transfers t ≡ placed_in d.endpoints d.transfers t
  pub framed : (i : ℕ) (x : Framed) → framed_in d.endpoints i ≡ Some x → framed_in e.endpoints i ≡ Some x
  pub many : length d.transfers ≤ length e.transfers
  pub room : length e.transfers + e.room.transfers ≤ length d.transfers + d.room.transfers
  pub kept : AreKept d.endpoints → AreKept e.endpoints

pub placed_by : (xs ys : List Endpoint) (ts : List Transfer) → ((i : ℕ) → framed_in ys i ≡ framed_in xs i) → (t : ℕ) → placed_in ys ts t ≡ placed_in xs ts t
placed_by xs ys ts same t = at (slice_get ts t)
  where
    at : (o : Option Transfer) → option_and_then (placed_of ys) o ≡ option_and_then (placed_of xs) o
    at None = refl
    at (Some z) = ap (λ (f : Option Framed). of z f) (same z.endpoint)
      where
        of : Transfer → Option Framed → Option Placed
        of z f = cond (is_descriptor z.sort) (Some (record { endpoint = z.endpoint; block = z.first; waits = not z.reported && is_chained f })) None

pub tables : (d e : DriverContent) → e.periodic.list ≡ d.periodic.list → e.periodic.notes ≡ d.periodic.notes → e.periodic.unlinks ≡ d.periodic.unlinks → SameEndpoints d.endpoints e.endpoints → SameTransfers d.transfers e.transfers → e.room.transfers ≡ d.room.transfers → SameTables d e
tables d e list notes unlinks endpoints transfers room = record {
  list = ap (λ (p : Periodic). p.list) list;
  members = ap (λ (p : Periodic). p.members) list;
  notes = notes;
  unlinks = unlinks;
  placed = λ t. transfers.placed e.endpoints t ∙ placed_by d.endpoints e.endpoints d.transfers endpoints.framed t;
  framed = λ i x here. endpoints.framed i ∙ here;
  many = let n = transfers.many in omega (arith, n);
  room = let n = transfers.many in omega (arith, n, room);
  kept = endpoints.kept;
}

pub all_endpoints : (xs : List Endpoint) → SameEndpoints xs xs
all_endpoints xs = record { framed = λ i. refl; kept = λ k. k }

pub all_transfers : (ts : List Transfer) → SameTransfers ts ts
all_transfers ts = record { placed = λ xs t. refl; many = refl }

pub both_endpoints : (xs ys zs : List Endpoint) → SameEndpoints xs ys → SameEndpoints ys zs → SameEndpoints xs zs
both_endpoints xs ys zs one two = record { framed = λ i. two.framed i ∙ one.framed i; kept = λ k. two.kept (one.kept k) }

pub both_transfers : (ts us vs : List Transfer) → SameTransfers ts us → SameTransfers us vs → SameTransfers ts vs
both_transfers ts us vs one two = record { placed = λ xs t. two.placed xs t ∙ one.placed xs t; many = two.many ∙ one.many }

-- an endpoint of which other things are written
pub endpoint_set : (xs : List Endpoint) (e : ℕ) (x y : Endpoint) → slice_get xs e ≡ Some x → framed_of y ≡ framed_of x → y.desc ≡ x.desc → (y.cancelled ≡ false → x.cancelled ≡ false) → SameEndpoints xs (set xs e y)
endpoint_set xs e x y here same desc fresh = record {
  framed = same_view framed_of xs e x y here same;
  kept = λ kept i z there periodic off.
      set_case (λ j (w : Endpoint). is_periodic w.desc.kind ≡ true → w.cancelled ≡ false → w.chained ≡ true) xs e i x y z here there
      (λ frames none. ap (λ (f : Framed). f.chained) same ∙ kept e x here (sym (ap (λ k. is_periodic k.kind) desc) ∙ frames) (fresh none))
      (λ differs was frames none. kept i z was frames none) periodic off;
}

-- and a transfer
pub transfer_set : (ts : List Transfer) (t : ℕ) (x y : Transfer) → slice_get ts t ≡ Some x → ((zs : List Endpoint) → placed_of zs y ≡ placed_of zs x) → SameTransfers ts (set ts t y)
transfer_set ts t x y here same = record { placed = λ zs i. at zs ts t i here; many = length-set ts t y }
  where
    at : (zs : List Endpoint) (us : List Transfer) (j i : ℕ) → slice_get us j ≡ Some x → placed_in zs (set us j y) i ≡ placed_in zs us i
    at zs [] j i there = refl
    at zs (u ∷ us) zero zero there = let is : u ≡ x = cc in same zs ∙ ap (placed_of zs) (sym is)
    at zs (u ∷ us) zero (suc i) there = refl
    at zs (u ∷ us) (suc j) zero there = refl
    at zs (u ∷ us) (suc j) (suc i) there = at zs us j i there

-- ---- the list stays

pub tables_list : (d e : DriverContent) → SameTables d e → is_still d.command ≡ true → is_still e.command ≡ true → HasList d → HasList e
tables_list d e same before after old = record {
  list = same.list ∙ old.list;
  members = subst (λ (k : Members). HasMembers (IsQueueOf e) (IsStanding e) k.schedule) (sym same.members) (same_members queues forth back old.members);
  frames = λ b. subst (λ (ns : List DescriptorNote). (note_at ns b).frame < 1024) (sym same.notes) (old.frames b);
  many =
      let c = none_to_come d.command d.made d.periodic.queued before in
      let n = none_to_come e.command e.made e.periodic.queued after in
      let m = ap (λ (k : Members). length k.schedule.descriptors) same.members in
      omega (arith, c, n, m, old.many, same.many);
  room = let m = ap (λ (k : Members). k.descriptor_room) same.members in omega (arith, m, old.room, same.room);
  kept = same.kept old.kept;
}
  where
    queues : (q : Queue) → IsQueueOf d q → IsQueueOf e q
    queues q s = record {
      number = s.number;
      framed = s.framed;
      here = same.framed s.number s.framed s.here;
      chained = s.chained;
      queued = s.queued;
      place = s.place;
      placed = s.placed;
      is = s.is;
      valid = s.valid;
    }

    forth : (m : Member) → IsStanding d m → IsStanding e m
    forth m s =
        moved d e m s (same.placed s.number ∙ s.here) (λ on. ap (is_among s.number) same.unlinks ∙ on) (λ waits on. still_linked e.command e.made e.periodic s.number s.placed after)
        (ap (λ (ns : List DescriptorNote). descriptor_member ns s.placed.block) same.notes)

    back : (m : Member) → IsStanding e m → IsStanding d m
    back m s =
        moved e d m s (sym (same.placed s.number) ∙ s.here) (λ on. sym (ap (is_among s.number) same.unlinks) ∙ on) (λ waits on. still_linked d.command d.made d.periodic s.number s.placed before)
        (ap (λ (ns : List DescriptorNote). descriptor_member ns s.placed.block) (sym same.notes))

pub same_queue : (d e : DriverContent) → ((i : ℕ) (x : Framed) → framed_in d.endpoints i ≡ Some x → framed_in e.endpoints i ≡ Some x) → (q : Queue) → IsQueueOf d q → IsQueueOf e q
same_queue d e framed q s = record {
  number = s.number;
  framed = s.framed;
  here = framed s.number s.framed s.here;
  chained = s.chained;
  queued = s.queued;
  place = s.place;
  placed = s.placed;
  is = s.is;
  valid = s.valid;
}
