-- Accepted commands of isochronous endpoints, and the cancel of a periodic one; and so any accepted command.
use Rattle.std.proofs.Common.{◌≡◌, ◌≢◌, ℕ, zero, suc, ◌+◌, ◌-◌, ◌/◌, ◌%◌, ◌<◌, ◌≤◌, ◌==◌, Bool, true, false, not, ◌&&◌, ◌||◌, cond, nat_lt, nat_le, List, [], ◌∷◌, ◌++◌, length, drop, get_or, set, slice_get, Option, Some, None, Ok, option_map, ap, sym, subst, ◌∙◌, ⊎_elim, inl, inr, refl, arith, length-append}
use Rattle.std.specs.Prelude.{◌⊎◌, is_some, option_and_then}
use Rattle.std.specs.List.{AllByRecursion}
use Rattle.std.proofs.lemmas.Bool.{false≢true, and_parts, cases_lt, cases_eq}
use Rattle.std.proofs.lemmas.List.{get_or-set_other, get_or-drop}
use Rattle.std.proofs.lemmas.Option.{slice_get_within}
use Rattle.law_driver.proofs.Common.{last_pushed, not_list}
use Rattle.law_common.proofs.Lists.{drop_first, set_here}
use Rattle.law_common.proofs.Numbers.{same_number, is_less}
use Rattle.law_common.proofs.Booleans.{first_true, second_true, or_none}
use Rattle.usb_base.specs.declared.endpoints.EpDesc.{EpDesc}
use Rattle.usb_base.specs.declared.commands.Cmd.{Cmd}
use Rattle.word_mem.specs.Memory.{Mem}
use Rattle.mem_runs.specs.Book.{Book, Holding, holding, Stands, slot_of}
use Rattle.mem_runs.specs.declared.slots.Slot.{Slot}
use Rattle.mem_runs.specs.declared.slots.Slot.TheVariants.{Empty}
use Rattle.bandwidth.specs.declared.placements.Placement.{Placement}
use Rattle.drv_chains.specs.declared.members.Member.{Member}
use Rattle.drv_chains.specs.declared.members.Member.TheVariants.{Once}
use Rattle.drv_chains.specs.Chains.{id_of}
use Rattle.drv_periodic.specs.declared.work.Work.{Work}
use Rattle.drv_periodic_table.specs.declared.content.DescriptorNote.{DescriptorNote}
use Rattle.drv_periodic_table.specs.Periodic.{PeriodicContent, no_descriptor, note_at, descriptor_name, descriptor_member, queue_member, is_periodic}
use Rattle.drv_periodic_table.specs.Linking.{begun_next}
use Rattle.drv_table.specs.declared.content.Endpoint.{Endpoint}
use Rattle.drv_table.specs.declared.content.Transfer.{Transfer}
use Rattle.drv_table.specs.declared.content.Slots.{Slots}
use Rattle.drv_table.specs.declared.content.Command.{Command}
use Rattle.drv_table.specs.declared.content.Command.TheVariants as unfinished
use Rattle.drv_table.specs.DriverContent.{DriverContent, waits_for}
use Rattle.drv_table.specs.Kinds.{is_iso}
use Rattle.drv_table.specs.Commands.{or_finished}
use Rattle.drv_table.specs.Accepting.{Offered, new_runs, first_waiting}
use Rattle.drv_table.specs.IsoOffers.{Descriptors, total_of, slot_runs, iso_needs, descriptor_note, descriptor_transfer, one_descriptor, all_descriptors, entered_iso}
use Rattle.drv_table.specs.CancelOffers.{first_end, outstanding_members}
use Rattle.drv_table.specs.Offers.{offered, IsOffered}
use Rattle.claims_driver.specs.Owners.{Described, HasRun, is_descriptor}
use Rattle.law_driver.specs.run_owners.Accepts.{Accepts, opens, chains, places, transfers, describes, cancels, unchains, Describes, Unchains}
use Rattle.claims_driver.specs.Leaving.{HasOwners}
use Rattle.law_driver.proofs.lemmas.run_owners.Commands.{each_command_has_its_reason}
use Rattle.law_driver.proofs.lemmas.run_owners.Harvest.{waits_is}
use Rattle.law_driver.proofs.lemmas.run_owners.Ordered.{pushed_below}
use Rattle.law_driver.proofs.lemmas.run_owners.Runs.{placed_run}
use Rattle.law_driver.proofs.lemmas.run_owners.Taking.{AreTaken, runs_taken}
use Rattle.claims_driver.specs.FrameListMembers.{framed_of, framed_in, is_chained, Placed, placed_of, placed_in, is_among, member_of}
use Rattle.law_driver.specs.listed_members.Members.{is_in_names, AreOnce, under_way, is_linked_by, IsStanding, IsWaitingOf, IsIdle, HasList, IsListed}
use Rattle.law_driver.proofs.lemmas.listed_members.Schedules.{same_members}
use Rattle.law_driver.proofs.lemmas.listed_members.Standing.{seen, unlinks_reported, descriptor_placed, Owns, owns, transfer_of, descriptor_block, why_stands}
use Rattle.law_driver.proofs.lemmas.listed_members.Stays.{is_still, still_linked, none_to_come, moved, SameEndpoints, placed_by, endpoint_set, same_queue}
use Rattle.law_driver.proofs.lemmas.listed_members.Calm.{is_calm, calm_idle}
use Rattle.law_driver.proofs.lemmas.listed_members.Ranges.{in_passed, passed_all, passed_once}
use Rattle.law_driver.proofs.lemmas.listed_members.Framing.{not_below}
use Rattle.law_driver.proofs.lemmas.listed_members.Unlinks.{placed_here, told_waits}
use Rattle.law_driver.proofs.lemmas.listed_members.Unchaining.{no_descriptor as none_at_queue, elsewhere_on, begin_iso}
use Rattle.law_driver.proofs.lemmas.listed_members.Leaving.{begin_queue}
use Rattle.law_driver.proofs.lemmas.listed_members.Events.{in_frames}
use Rattle.law_driver.proofs.lemmas.listed_members.Rooms.{KeepsRoom, room_kept, descriptors_many}
use Rattle.law_driver.proofs.lemmas.listed_members.Opening.{open_listed, place_listed, chain_listed, transfer_accepted, cancel_listed}

-- ---- the new descriptors

-- a new descriptor of the endpoint
record IsNew (e : ℕ) (us : List Transfer) (t : ℕ) : Type 0 where
  transfer : Transfer
  there : slice_get us t ≡ Some transfer
  endpoint : transfer.endpoint ≡ e
  sort : is_descriptor transfer.sort ≡ true
  reported : transfer.reported ≡ false

record AreNew (e n : ℕ) (ts us : List Transfer) (notes now : List DescriptorNote) (rs : List ℕ) : Type 0 where
  old : (t : ℕ) → t < length ts → slice_get us t ≡ slice_get ts t
  new : (t : ℕ) → length ts ≤ t → t < length ts + n → IsNew e us t
  elsewhere : (c : ℕ) → ((i : ℕ) → c ≢ get_or rs i 0) → note_at now c ≡ note_at notes c
  small : ((c : ℕ) → (note_at notes c).frame < 1024) → (c : ℕ) → (note_at now c).frame < 1024

set_small : (xs : List DescriptorNote) (i : ℕ) (v : DescriptorNote) → v.frame < 1024 → ((c : ℕ) → (note_at xs c).frame < 1024) → (c : ℕ) → (note_at (set xs i v) c).frame < 1024
set_small [] i v new each c = each c
set_small (x ∷ xs) zero v new each zero = new
set_small (x ∷ xs) zero v new each (suc c) = each (suc c)
set_small (x ∷ xs) (suc i) v new each zero = each 0
set_small (x ∷ xs) (suc i) v new each (suc c) = set_small xs i v new (λ k. each (suc k)) c

are_new : (k : Book) (e : ℕ) (x : EpDesc) (s : Slots) (n seed : ℕ) (rs : List ℕ) (a : Descriptors) → AreNew e n a.transfers (all_descriptors k e x s n seed rs a).transfers a.notes (all_descriptors k e x s n seed rs a).notes rs
unfolding all_descriptors
are_new k e x s zero seed rs a = record {
  old = λ t below. refl;
  new = λ t low high. absurd (omega (arith, low, high));
  elsewhere = λ c other. refl;
  small = λ each c. each c;
}
are_new k e x s (suc n) seed rs a =
    let b = get_or rs 0 0 in
    let z = descriptor_transfer e s b in
    let one = one_descriptor k e x s seed rs a in
    let rest = are_new k e x s n ((seed + total_of s) % 256) (drop (suc (slot_runs s)) rs) one in
    let many = length-append a.transfers (z ∷ []) in
    record {
      old = λ t below. rest.old t (omega (arith, many, below)) ∙ pushed_below a.transfers z t below;
      new = λ t low high.
          ⊎_elim
          (λ (same : t ≡ length a.transfers).
          record {
            transfer = z;
            there = rest.old t (omega (arith, many, same)) ∙ ap (slice_get (a.transfers ++ z ∷ [])) same ∙ last_pushed a.transfers z;
            endpoint = refl;
            sort = refl;
            reported = refl;
          })
          (λ (differs : t ≢ length a.transfers). rest.new t (omega (arith, many, low, differs)) (omega (arith, many, high))) (cases_eq t (length a.transfers));
      elsewhere = λ c other.
          rest.elsewhere c (λ i same. other (suc (slot_runs s) + i) (same ∙ get_or-drop (suc (slot_runs s)) rs i 0))
          ∙ get_or-set_other a.notes b c (descriptor_note s (drop 1 rs)) no_descriptor (other 0);
      small = λ each c. rest.small (set_small a.notes b (descriptor_note s (drop 1 rs)) (omega arith) each) c;
    }

not_empty : (s : Slot) → HasRun s → s ≡ Empty → ⊥
not_empty s run is = subst HasRun is run

-- a run that stands begins in none of the new ones
pub off_new : (h g : Holding) (ns bs : List ℕ) (c : ℕ) → AreTaken h g ns bs → c ≢ 0 → HasRun (slot_of h.book.slots c) → (i : ℕ) → c ≢ get_or bs i 0
off_new h g ns bs c taken some run i same =
    ⊎_elim
    (λ (below : i < length bs). not_empty (slot_of h.book.slots c) run (ap (slot_of h.book.slots) same ∙ taken.fresh i below))
    (λ (past : length bs ≤ i). some (same ∙ none bs i past)) (cases_lt i (length bs))
  where
    none : (xs : List ℕ) (j : ℕ) → length xs ≤ j → get_or xs j 0 ≡ 0
    none [] j past = refl
    none (x ∷ xs) zero past = absurd (omega (arith, past))
    none (x ∷ xs) (suc j) past = none xs j (omega (arith, past))

describe_listed : (d : DriverContent) (m : Mem) (o : Offered) → Stands (holding d.book m) → Describes d m o → HasOwners d → KeepsRoom d o → IsListed d → IsListed o.driver
describe_listed d m o stands why has room old = subst (λ (g : Offered). IsListed g.driver) (sym why.is) (now (subst (KeepsRoom d) why.is room))
  where
    q : PeriodicContent
    q = d.periodic

    x : Endpoint
    x = why.endpoint

    y : Endpoint
    y = record x { next = first_waiting x.next (length d.transfers) }

    e : ℕ
    e = why.number

    first : ℕ
    first = length d.transfers

    c : Command
    c = unfinished.Iso e first why.count

    h : Holding
    h = why.holding_after

    a : Descriptors
    a = record { notes = q.notes; transfers = d.transfers; memory = h.memory }

    all : Descriptors
    all = all_descriptors h.book e x.desc why.slots why.count why.seed (new_runs d h) a

    p : Offered
    p = entered_iso d e x why.count (total_of why.slots) h.book all

    f : DriverContent
    f = p.driver

    news : AreNew e why.count d.transfers all.transfers q.notes all.notes (new_runs d h)
    news = are_new h.book e x.desc why.slots why.count why.seed (new_runs d h) a

    many : length all.transfers ≡ length d.transfers + why.count
    many = descriptors_many h.book e x.desc why.slots why.count why.seed (new_runs d h) a

    endpoints : SameEndpoints d.endpoints (set d.endpoints e y)
    endpoints = endpoint_set d.endpoints e x y why.here refl refl (λ off. off)

    before : is_still d.command ≡ true
    before = ap is_still why.idle

    idle : IsIdle q
    idle = calm_idle d d.command (ap is_calm why.idle) old.way

    own : Owns d
    own = owns d has

    -- runs that stand are none of the new ones
    off : (b : ℕ) → b ≢ 0 → HasRun (slot_of d.book.slots b) → (i : ℕ) → b ≢ get_or (new_runs d h) i 0
    off b some run i =
        let taken = runs_taken (holding d.book m) h (iso_needs why.slots why.count) stands why.runs in
        let new : new_runs d h ≡ taken.blocks = ap (drop (length d.book.taken)) taken.are.taken ∙ drop_first d.book.taken taken.blocks in
        subst (λ (rs : List ℕ). b ≢ get_or rs i 0) (sym new) (off_new (holding d.book m) h (iso_needs why.slots why.count) taken.blocks b taken.are some run i)

    same_note : (t : ℕ) (v : Placed) → placed_in d.endpoints d.transfers t ≡ Some v → (is_among t q.unlinks ≡ true) ⊎ (v.waits ≡ true) → note_at all.notes v.block ≡ note_at q.notes v.block
    same_note t v here why_here =
        let run = descriptor_placed d t v has here why_here in
        news.elsewhere v.block
        (off v.block (λ none. not_list (note_at q.notes v.block).split t (sym has.owned.each.list.owned ∙ sym (ap has.owner none) ∙ run.owned)) (placed_run v.block (Described (note_at q.notes v.block).split t) run))

    same_member : (t : ℕ) (v : Placed) → placed_in d.endpoints d.transfers t ≡ Some v → (is_among t q.unlinks ≡ true) ⊎ (v.waits ≡ true) → member_of f.periodic v ≡ member_of q v
    same_member t v here why_here = ap (λ (k : DescriptorNote). let n : Member = Once (record { id = descriptor_name k v.block; frame = k.frame }) in n) (same_note t v here why_here)

    within : (t : ℕ) (v : Placed) → placed_in d.endpoints d.transfers t ≡ Some v → t < length d.transfers
    within t v here = let s = seen d.endpoints d.transfers t v here in slice_get_within d.transfers t s.transfer s.there

    placed : (t : ℕ) → t < length d.transfers → placed_in f.endpoints f.transfers t ≡ placed_in d.endpoints d.transfers t
    placed t below = ap (option_and_then (placed_of f.endpoints)) (news.old t below) ∙ placed_by d.endpoints f.endpoints d.transfers endpoints.framed t

    forth : (n : Member) → IsStanding d n → IsStanding f n
    forth n s =
        let below = within s.number s.placed s.here in
        moved d f n s (placed s.number below ∙ s.here) (λ on. on)
        (λ waits on. first_true (nat_lt s.number first) (nat_le 1 0 && not
        (is_in_names (id_of (member_of f.periodic s.placed)) f.periodic.queued)) (is_less s.number first below))
        (same_member s.number s.placed s.here (why_stands d n s))

    standing_below : (n : Member) → (s : IsStanding f n) → s.number < length d.transfers
    standing_below n s =
        ⊎_elim
        (λ (on : is_among s.number q.unlinks ≡ true). let r = unlinks_reported d s.number has.orderly on in slice_get_within d.transfers s.number r.transfer r.there)
        (λ w.
        ⊎_elim (λ (low : s.number < length d.transfers). low)
        (λ (high : length d.transfers ≤ s.number).
        absurd (not_below s.number first high (or_none (nat_lt s.number first) (nat_le 1 0 && not (is_in_names (id_of (member_of f.periodic s.placed)) f.periodic.queued)) refl w.1))) (cases_lt s.number (length d.transfers))) s.stands

    back : (n : Member) → IsStanding f n → IsStanding d n
    back n s =
        let below = standing_below n s in
        let here = sym (placed s.number below) ∙ s.here in
        let why_here : (is_among s.number q.unlinks ≡ true) ⊎ (s.placed.waits ≡ true) = ⊎_elim (λ (on : is_among s.number q.unlinks ≡ true). inl on) (λ w. inr w.0) s.stands in
        moved f d n s here (λ on. on) (λ waits on. still_linked d.command d.made q s.number s.placed before) (sym (same_member s.number s.placed here why_here))

    chained : x.chained ≡ true
    chained = in_frames d e x has.orderly why.here why.goes_on why.isochronous

    each : (t : ℕ) → first ≤ t → t < length f.transfers → (v : Placed) × ((placed_in f.endpoints f.transfers t ≡ Some v) × ((v.endpoint ≡ e) × (v.waits ≡ true)))
    each t low high =
        let n = news.new t low (omega (arith, high, many)) in
        let z = n.transfer in (
          record { endpoint = z.endpoint; block = z.first; waits = not z.reported && is_chained (framed_in f.endpoints z.endpoint) },
          (placed_here f.endpoints f.transfers t z n.there n.sort, (n.endpoint, told_waits f.endpoints e y z (set_here d.endpoints e x y why.here) chained n.endpoint n.reported)),
        )

    now : KeepsRoom d p → IsListed f
    now keeps = record {
      list = record {
        list = old.list.list;
        members = same_members (same_queue d f (λ i w here. endpoints.framed i ∙ here)) forth back old.list.members;
        frames = news.small old.list.frames;
        many = let n = none_to_come d.command d.made q.queued before in omega (arith, n, many, old.list.many);
        room = omega (arith, keeps, old.list.room);
        kept = endpoints.kept old.list.kept;
      };
      way = record {
        links = λ w is. let no : None ≡ Some w = sym idle.work ∙ is in absurd (cc);
        all = many;
        each = each;
        members = subst (λ (ms : List Member). AllByRecursion (IsWaitingOf f e first) ms) (sym idle.queued) tt;
        once = subst AreOnce (sym idle.queued) tt;
      };
    }

-- ---- a periodic endpoint is cancelled

unchain_listed : (d : DriverContent) (m : Mem) (o : Offered) → Unchains d m o → HasOwners d → IsListed d → IsListed o.driver
unchain_listed d m o why has old = subst (λ (g : Offered). IsListed g.driver) (sym why.is) (by (is_iso x.desc.kind) refl)
  where
    q : PeriodicContent
    q = d.periodic

    x : Endpoint
    x = why.endpoint

    e : ℕ
    e = why.number

    y : Endpoint
    y = record x { cancelled = true; ended = first_end x.ended }

    -- before its first member is begun
    f : List Member → DriverContent
    f ms = record d {
      endpoints = set d.endpoints e y;
      command = Some (unfinished.Unchain e);
      made = 0;
      room = record d.room { reports = d.room.reports - 1 };
      periodic = record q { queued = ms };
    }

    endpoints : SameEndpoints d.endpoints (set d.endpoints e y)
    endpoints = endpoint_set d.endpoints e x y why.here refl refl (λ off. absurd (false≢true (sym off)))

    before : is_still d.command ≡ true
    before = ap is_still why.idle

    idle : IsIdle q
    idle = calm_idle d d.command (ap is_calm why.idle) old.way

    periodic : is_periodic x.desc.kind ≡ true
    periodic = sym (has.orderly.steady e x why.here).placed ∙ ap (λ (p : Option Placement). is_some p) why.placed

    chained : x.chained ≡ true
    chained = old.list.kept e x why.here periodic why.fresh

    own : Owns d
    own = owns d has

    placed : (t : ℕ) → placed_in (set d.endpoints e y) d.transfers t ≡ placed_in d.endpoints d.transfers t
    placed t = placed_by d.endpoints (set d.endpoints e y) d.transfers endpoints.framed t

    at : framed_in (set d.endpoints e y) e ≡ Some (framed_of y)
    at = ap (option_map framed_of) (set_here d.endpoints e x y why.here)

    at_d : framed_in d.endpoints e ≡ Some (framed_of x)
    at_d = ap (option_map framed_of) why.here

    -- all of its descriptors that wait are still to be unlinked
    list_f : (ms : List Member) → ((t : ℕ) (v : Placed) → placed_in d.endpoints d.transfers t ≡ Some v → v.waits ≡ true → v.endpoint ≡ e → is_in_names (id_of (member_of q v)) ms ≡ true) → HasList (f ms)
    list_f ms named = record {
      list = old.list.list;
      members = same_members (same_queue d (f ms) (λ i w here. endpoints.framed i ∙ here)) forth back old.list.members;
      frames = old.list.frames;
      many = let n = none_to_come d.command d.made q.queued before in omega (arith, n, old.list.many);
      room = old.list.room;
      kept = endpoints.kept old.list.kept;
    }
      where
        linked : (t : ℕ) (v : Placed) → placed_in d.endpoints d.transfers t ≡ Some v → v.waits ≡ true → is_linked_by (f ms).command (f ms).made (f ms).periodic t v ≡ true
        linked t v here waits =
            ap (λ (w : Option Work). not (v.endpoint == e) || is_in_names (id_of (member_of q v)) (under_way w ++ ms)) idle.work
            ∙ ⊎_elim
            (λ (same : v.endpoint ≡ e). second_true (not (v.endpoint == e)) (is_in_names (id_of (member_of q v)) ms) (named t v here waits same))
            (λ (differs : v.endpoint ≢ e). first_true (not (v.endpoint == e)) (is_in_names (id_of (member_of q v)) ms) (elsewhere_on v.endpoint e differs)) (cases_eq v.endpoint e)

        forth : (n : Member) → IsStanding d n → IsStanding (f ms) n
        forth n s = moved d (f ms) n s (placed s.number ∙ s.here) (λ on. on) (λ waits on. linked s.number s.placed s.here waits) refl

        back : (n : Member) → IsStanding (f ms) n → IsStanding d n
        back n s = moved (f ms) d n s (sym (placed s.number) ∙ s.here) (λ on. on) (λ waits on. still_linked d.command d.made q s.number s.placed before) refl

    -- the descriptors of an isochronous endpoint
    member : Transfer → Member
    member z = descriptor_member q.notes z.first

    one_waits : is_iso x.desc.kind ≡ true → (ms : List Member) (t : ℕ) (z : Transfer) → slice_get d.transfers t ≡ Some z → waits_for e z ≡ true → IsWaitingOf (f ms) e 0 (member z)
    one_waits iso ms t z there waits =
        let w = waits_is e z waits in
        let sort = has.orderly.sorts t z x there (ap (slice_get d.endpoints) w.endpoint ∙ why.here) ∙ iso in
        record {
          number = t;
          placed = record { endpoint = z.endpoint; block = z.first; waits = not z.reported && is_chained (framed_in (set d.endpoints e y) z.endpoint) };
          here = placed_here (set d.endpoints e y) d.transfers t z there sort;
          later = omega arith;
          endpoint = w.endpoint;
          waits = told_waits (set d.endpoints e y) e y z (set_here d.endpoints e x y why.here) chained w.endpoint w.reported;
          is = refl;
        }

    they_differ : is_iso x.desc.kind ≡ true → (t u : ℕ) (v z : Transfer) → slice_get d.transfers t ≡ Some v → slice_get d.transfers u ≡ Some z → waits_for e v ≡ true → waits_for e z ≡ true → t < u → id_of (member z) ≢ id_of (member v)
    they_differ iso t u v z there also one two less same =
        let a = one_waits iso [] t v there one in
        let b = one_waits iso [] u z also two in
        let c = own.descriptors t a.placed (sym (placed t) ∙ a.here) (inr a.waits) in
        let k = own.descriptors u b.placed (sym (placed u) ∙ b.here) (inr b.waits) in
        let blocks : z.first ≡ v.first = sym (descriptor_block q z.first) ∙ ap (λ n. n / 32) same ∙ descriptor_block q v.first in
        let g = ap (λ n. transfer_of (own.owner n)) blocks in
        omega (arith, c, k, g, less)

    all_named : is_iso x.desc.kind ≡ true → (t : ℕ) (v : Placed) → placed_in d.endpoints d.transfers t ≡ Some v → v.waits ≡ true → v.endpoint ≡ e → is_in_names (id_of (member_of q v)) (outstanding_members d e) ≡ true
    all_named iso t v here waits same =
        let s = seen d.endpoints d.transfers t v here in
        let z = s.transfer in
        let both = and_parts (not z.reported) (is_chained (framed_in d.endpoints z.endpoint)) (sym s.waits ∙ waits) in
        let passes : waits_for e z ≡ true = ap (λ n. (n == e) && not z.reported) (sym s.endpoint ∙ same) ∙ ap (λ b. b && not z.reported) (same_number e) ∙ both.0 in
        subst (λ b. is_in_names (id_of (descriptor_member q.notes b)) (outstanding_members d e) ≡ true) (sym s.block) (in_passed member (waits_for e) d.transfers t z s.there passes)

    own_f : (ms : List Member) → Owns (f ms)
    own_f ms = record {
      owner = own.owner;
      descriptors = λ t v here why_here. own.descriptors t v (sym (placed t) ∙ here) why_here;
      queues = λ i w here on queued. own.queues i w (sym (endpoints.framed i) ∙ here) on queued;
      reported = λ t v here on. own.reported t v (sym (placed t) ∙ here) on;
      sorts = λ t v w here there. own.sorts t v w (sym (placed t) ∙ here) (sym (endpoints.framed v.endpoint) ∙ there);
    }

    by : (b : Bool) → is_iso x.desc.kind ≡ b → IsListed (or_finished (record (f (cond b (outstanding_members d e) (queue_member x.queue why.placement ∷ []))) { periodic = begun_next true (record q { queued = cond b (outstanding_members d e) (queue_member x.queue why.placement ∷ []) }) }) (unfinished.Unchain e))
    by true iso =
        let ms = outstanding_members d e in
        begin_iso (f ms) e y (framed_of y) ms refl idle.work refl (set_here d.endpoints e x y why.here) refl at iso
        (passed_all (IsWaitingOf (f ms) e 0) member (waits_for e) d.transfers (one_waits iso ms)) (passed_once member (waits_for e) d.transfers (they_differ iso)) (list_f ms (all_named iso))
    by false iso =
        let ms = queue_member x.queue why.placement ∷ [] in
        begin_queue (f ms) e y (framed_of y) why.placement (own_f ms) refl idle.work refl (set_here d.endpoints e x y why.here) refl at iso why.placed
        (list_f ms (λ t v here waits same. absurd (none_at_queue d e (framed_of x) t v own at_d iso here same)))

-- ---- any command

accepted_listed : (d : DriverContent) (m : Mem) (o : Offered) → Stands (holding d.book m) → Accepts d m o → HasOwners d → KeepsRoom d o → IsListed d → IsListed o.driver
accepted_listed d m o stands (opens why) has room old = open_listed d m o why has.orderly old
accepted_listed d m o stands (chains why) has room old = chain_listed d m o why has.orderly old
accepted_listed d m o stands (places why) has room old = place_listed d m o why has.orderly old
accepted_listed d m o stands (transfers why) has room old = transfer_accepted d m o why room old
accepted_listed d m o stands (describes why) has room old = describe_listed d m o stands why has room old
accepted_listed d m o stands (cancels why) has room old = cancel_listed d m o why old
accepted_listed d m o stands (unchains why) has room old = unchain_listed d m o why has old

pub commands_keep_the_list : (d : DriverContent) (m : Mem) (cmd : Cmd) (o : Offered) → Stands (holding d.book m) → HasOwners d → IsOffered d.room cmd → IsListed d → offered d m cmd ≡ Ok o → IsListed o.driver
commands_keep_the_list d m cmd o stands has room old is = accepted_listed d m o stands (each_command_has_its_reason d m cmd o is) has (room_kept d m cmd o room is) old
