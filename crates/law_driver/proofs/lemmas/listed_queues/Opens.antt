-- Opening an endpoint: an interrupt endpoint's queue head is linked, since its name is new, and there is room for it.
use Rattle.std.proofs.Common.{◌≡◌, ◌≢◌, ℕ, zero, suc, ◌+◌, ◌*◌, ◌≤◌, Bool, true, false, not, ◌&&◌, cond, nat_lt, List, [], ◌∷◌, ◌++◌, length, filter, drop, get_or, Option, Some, None, Result, Ok, Err, ap, sym, subst, ◌∙◌, ⊎_elim, inl, inr, refl, arith, length-append}
use Rattle.std.specs.Prelude.{◌⊎◌, nat_eq, is_none}
use Rattle.std.specs.List.{AllByRecursion, list_any}
use Rattle.std.proofs.lemmas.Bool.{false≢true, or_cases, eqb-true}
use Rattle.std.proofs.lemmas.List.Filters.{length-filter_both}
use Rattle.std.proofs.lemmas.Option.{same_Some}
use Rattle.law_driver.proofs.Common.{again_none, blocks_run}
use Rattle.law_common.proofs.Lists.{all_more}
use Rattle.law_common.proofs.Numbers.{is_less}
use Rattle.usb_base.specs.declared.endpoints.EpDesc.{EpDesc}
use Rattle.usb_base.specs.declared.packets.EpKind.{EpKind}
use Rattle.usb_base.specs.declared.packets.EpKind.TheVariants as kinds
use Rattle.usb_base.specs.declared.reports.OfferError.{OfferError}
use Rattle.word_mem.specs.Memory.{Mem}
use Rattle.mem_runs.specs.Book.{Holding, holding, slot_of, Stands}
use Rattle.bandwidth.specs.declared.placements.Want.{Want}
use Rattle.bandwidth.specs.declared.placements.Placement.{Placement}
use Rattle.bandwidth.specs.declared.placements.Refused.{Refused}
use Rattle.bandwidth.specs.declared.placements.Refused.TheVariants as refusals
use Rattle.bandwidth.specs.Placements.{IsWant, IsPlace, periods as asked}
use Rattle.bandwidth.specs.Admission.{Admissions, best, chosen, answer}
use Rattle.bandwidth.proofs.Admits.{best_option}
use Rattle.drv_chains.specs.declared.members.Descriptor.{Descriptor}
use Rattle.drv_chains.specs.declared.members.QueueHead.{QueueHead as Queue}
use Rattle.drv_chains.specs.declared.members.Member.TheVariants.{Once, Each}
use Rattle.drv_chains.specs.Chains.{Schedule, id_of, has_name, is_period, frame_period}
use Rattle.drv_members.specs.Ranks.{rank_of, is_queue}
use Rattle.drv_members.specs.Members.{is_up_to, with_queue, with_member, is_this, has_room, takes}
use Rattle.drv_periodic.specs.declared.work.Work.{Work}
use Rattle.drv_periodic.specs.Periodic.{Periodic, inserting}
use Rattle.drv_periodic_table.specs.Periodic.{note_at, queue_name, is_periodic, want_of}
use Rattle.drv_periodic_table.specs.Linking.{may_link}
use Rattle.drv_table.specs.declared.content.Endpoint.{Endpoint}
use Rattle.drv_table.specs.declared.content.Command.TheVariants as unfinished
use Rattle.drv_table.specs.DriverContent.{DriverContent}
use Rattle.drv_table.specs.Kinds.{is_iso}
use Rattle.drv_table.specs.Accepting.{Offered, new_runs, take_runs}
use Rattle.drv_table.specs.Offers.{new_endpoint, placed_endpoint, accepted_chain, accepted_iso, taken_open, taken_chain, placed_open, planned_open, offered_open, IsOpened}
use Rattle.claims_driver.specs.Owners.{FrameList, QueueHead}
use Rattle.claims_driver.specs.Leaving.{HasOwners}
use Rattle.law_driver.proofs.lemmas.run_owners.Taking.{runs_taken}
use Rattle.claims_driver.specs.FrameListMembers.{Framed, framed_of, framed_in}
use Rattle.law_driver.specs.listed_members.Members.{IsStanding, IsQueueOf, HasList, IsListed}
use Rattle.law_driver.specs.listed_queues.Queues.{queue_of, is_in_queues, HasQueues}
use Rattle.law_driver.proofs.lemmas.listed_members.Schedules.{any_around, any_here, this_same, unnamed}
use Rattle.law_driver.proofs.lemmas.listed_members.Standing.{frames_placed}
use Rattle.law_driver.proofs.lemmas.listed_members.Calm.{is_calm, calm_idle}
use Rattle.law_driver.proofs.lemmas.listed_members.Accepted.{off_new}

-- ---- one endpoint more

framed_back : (xs : List Endpoint) (y : Endpoint) (i : ℕ) (x : Framed) → framed_in (xs ++ y ∷ []) i ≡ Some x → (framed_in xs i ≡ Some x) ⊎ (framed_of y ≡ x)
framed_back [] y zero x here = inr (same_Some (framed_of y) x here)
framed_back [] y (suc i) x here = absurd (cc)
framed_back (z ∷ xs) y zero x here = inl here
framed_back (z ∷ xs) y (suc i) x here = framed_back xs y i x here

record IsLonger (d e : DriverContent) (y : Endpoint) : Type 0 where
  endpoints : e.endpoints ≡ d.endpoints ++ y ∷ []
  room : suc e.room.endpoints ≡ d.room.endpoints
  most : e.periodic.list.members.queue_room ≡ d.periodic.list.members.queue_room
  many : length e.periodic.list.members.schedule.queues ≤ suc (length d.periodic.list.members.schedule.queues)
  old : (x : Framed) (p : Placement) → is_in_queues d.periodic.list.members.schedule x p ≡ true → is_in_queues e.periodic.list.members.schedule x p ≡ true
  new : (p : Placement) → y.chained ≡ true → is_iso y.desc.kind ≡ false → y.placement ≡ Some p → is_in_queues e.periodic.list.members.schedule (framed_of y) p ≡ true
  links : (i : ℕ) → e.command ≡ Some (unfinished.Unchain i) → ⊥

longer_queues : (d e : DriverContent) (y : Endpoint) → IsLonger d e y → HasQueues d → HasQueues e
longer_queues d e y l old = record {
  each = λ i x p here on queued placed.
      ⊎_elim (λ (was : framed_in d.endpoints i ≡ Some x). l.old x p (old.each i x p was on queued placed))
      (λ (is : framed_of y ≡ x).
      subst (λ (w : Framed). is_in_queues e.periodic.list.members.schedule w p ≡ true) is
      (l.new p (ap (λ (w : Framed). w.chained) is ∙ on) (ap (λ (w : Framed). w.isochronous) is ∙ queued) (ap (λ (w : Framed). w.placement) is ∙ placed)))
      (framed_back d.endpoints y i x (sym (ap (λ (xs : List Endpoint). framed_in xs i) l.endpoints) ∙ here));
  many = let n = longer in let k = l.many in omega (arith, n, k, old.many);
  room = let n = longer in let k = l.room in let q = l.most in omega (arith, n, k, q, old.room);
  leaving = λ i is. absurd (l.links i is);
}
  where
    longer : length e.endpoints ≡ suc (length d.endpoints)
    longer = let n = ap (λ (xs : List Endpoint). length xs) l.endpoints in let k = length-append d.endpoints (y ∷ []) in omega (arith, n, k)

-- ---- a placement of the plan

some_period : (p : ℕ) (ps : List ℕ) → AllByRecursion (λ c. is_period c ≡ true) ps → list_any (λ c. nat_eq c p) ps ≡ true → is_period p ≡ true
some_period p [] all on = absurd (false≢true on)
some_period p (c ∷ ps) all on =
    ⊎_elim (λ (same : nat_eq c p ≡ true). ap is_period (sym (eqb-true c p same)) ∙ all.0) (λ (later : list_any (λ c. nat_eq c p) ps ≡ true). some_period p ps all.1 later) (or_cases (nat_eq c p) (list_any (λ c. nat_eq c p) ps) on)

valid_place : (p : Placement) (id : ℕ) → IsPlace p → is_queue (record { id = id; period = p.period; phase = p.phase }) ≡ true
valid_place p id place =
    ap (λ b. b && nat_lt p.phase (frame_period p.period)) (some_period p.period asked (refl, (refl, (refl, (refl, (refl, (refl, (refl, (refl, (refl, (refl, (refl, (refl, (refl, (refl, tt)))))))))))))) place.period)
    ∙ is_less p.phase (frame_period p.period) place.phase

chosen_is : (o : Option Placement) (p : Placement) → chosen o ≡ Ok p → o ≡ Some p
chosen_is None p f = absurd (cc)
chosen_is (Some q) p f = ap Some (same q p f)
  where
    same : (q p : Placement) → ◌≡◌ {A = Result Placement Refused} (Ok q) (Ok p) → q ≡ p
    same q p f = cc

answered_best : (a : Admissions) (w : Want) (p : Placement) (b : Bool) → cond b (chosen (best a.rules a.placed w)) (Err refusals.Room) ≡ Ok p → best a.rules a.placed w ≡ Some p
answered_best a w p true f = chosen_is (best a.rules a.placed w) p f
answered_best a w p false f = absurd (cc)

answered_place : (a : Admissions) (w : Want) (p : Placement) → IsWant w → answer a w ≡ Ok p → IsPlace p
answered_place a w p want f = (best_option a.rules a.placed w p want (answered_best a w p (nat_lt (length a.placed) a.room) f)).place

-- ---- a queue head with a new name

apart_names : (split : Bool) (b n : ℕ) → cond split (32 * b + 4) (32 * b) ≡ 32 * n + 2 → ⊥
apart_names true b n same = omega (arith, same)
apart_names false b n same = omega (arith, same)

name_is_new : (d : DriverContent) (m : Mem) (h : Holding) → Stands (holding d.book m) → take_runs (holding d.book m) (2 ∷ 1 ∷ []) ≡ Ok h → HasOwners d → HasList d → has_name d.periodic.list.members.schedule (queue_name (get_or (new_runs d h) 0 0)) ≡ false
name_is_new d m h stands runs has list =
    unnamed s (queue_name n) (all_more (λ (k : Descriptor). IsStanding d (Once k)) (λ (k : Descriptor). k.id ≡ queue_name n → ⊥) s.descriptors descriptor list.members.descriptors)
    (all_more (IsQueueOf d) (λ (q : Queue). q.id ≡ queue_name n → ⊥) s.queues queue list.members.queues)
  where
    s : Schedule
    s = d.periodic.list.members.schedule

    n : ℕ
    n = get_or (new_runs d h) 0 0

    descriptor : (k : Descriptor) → IsStanding d (Once k) → k.id ≡ queue_name n → ⊥
    descriptor k stands same = apart_names (note_at d.periodic.notes stands.placed.block).split stands.placed.block n (ap id_of stands.is ∙ same)

    drop_first : (xs ys : List ℕ) → drop (length xs) (xs ++ ys) ≡ ys
    drop_first [] ys = refl
    drop_first (x ∷ xs) ys = drop_first xs ys

    queue : (q : Queue) → IsQueueOf d q → q.id ≡ queue_name n → ⊥
    queue q is same =
        let taken = runs_taken (holding d.book m) h (2 ∷ 1 ∷ []) stands runs in
        let new : new_runs d h ≡ taken.blocks = ap (drop (length d.book.taken)) taken.are.taken ∙ drop_first d.book.taken taken.blocks in
        let placed = frames_placed d is.number is.framed has is.here is.chained is.queued in
        let some : is.framed.queue ≢ 0 = λ none. (let f : FrameList ≡ QueueHead is.number = sym has.owned.each.list.owned ∙ sym (ap has.owner none) ∙ placed.owned in absurd (cc)) in
        let name : q.id ≡ queue_name is.framed.queue = ap id_of is.is in
        let block : is.framed.queue ≡ n = omega (arith, name, same) in
        off_new (holding d.book m) h (2 ∷ 1 ∷ []) taken.blocks is.framed.queue taken.are some (blocks_run 2 (slot_of d.book.slots is.framed.queue) placed.run) 0 (block ∙ ap (λ (rs : List ℕ). get_or rs 0 0) new)

longer_by_one : (qs : List Queue) (q : Queue) → length (with_queue qs q) ≡ suc (length qs)
longer_by_one qs q =
    let a = length-append (filter (is_up_to (rank_of q)) qs) (q ∷ filter (λ x. not (is_up_to (rank_of q) x)) qs) in
    let b = length-filter_both (is_up_to (rank_of q)) (λ x. not (is_up_to (rank_of q) x)) (λ x. refl) qs in
    omega (arith, a, b)

-- ---- the paths of an open

ok_is : (p o : Offered) → ◌≡◌ {A = Result Offered OfferError} (Ok p) (Ok o) → p ≡ o
ok_is p o f = cc

open_taken : (d : DriverContent) (x : EpDesc) (o : Offered) (r : Result Holding OfferError) → 1 ≤ d.room.endpoints → HasQueues d → taken_open d x r ≡ Ok o → HasQueues o.driver
open_taken d x o (Err why) some old f = absurd (cc)
open_taken d x o (Ok h) some old f =
    subst (λ (g : Offered). HasQueues g.driver) (ok_is _ o f)
    (longer_queues d _ (new_endpoint x _ _)
    (record {
      endpoints = refl;
      room = omega (arith, some);
      most = refl;
      many = omega arith;
      old = λ w p there. there;
      new = λ p on queued placed. absurd (false≢true on);
      links = λ i is. absurd (cc);
    }) old)

iso_opened : (d : DriverContent) (m : Mem) (x : EpDesc) (p : Placement) (o : Offered) → d.command ≡ None → is_iso x.kind ≡ true → 1 ≤ d.room.endpoints → HasQueues d → ◌≡◌ {A = Result Offered OfferError} (Ok (record { driver = accepted_iso d x p; memory = m })) (Ok o) → HasQueues o.driver
iso_opened d m x p o idle iso some old f =
    subst (λ (g : Offered). HasQueues g.driver) (ok_is _ o f)
    (longer_queues d (accepted_iso d x p) (placed_endpoint x p 0 0)
    (record {
      endpoints = refl;
      room = omega (arith, some);
      most = refl;
      many = omega arith;
      old = λ w q there. there;
      new = λ q on queued placed. absurd (false≢true (sym queued ∙ iso));
      links = λ i is. let no : None ≡ Some (unfinished.Unchain i) = sym idle ∙ is in absurd (cc);
    }) old)

chain_taken : (d : DriverContent) (m : Mem) (x : EpDesc) (p : Placement) (o : Offered) (r : Result Holding OfferError) → d.command ≡ None → Stands (holding d.book m) → HasOwners d → IsListed d → IsPlace p → take_runs (holding d.book m) (2 ∷ 1 ∷ []) ≡ r → 1 ≤ d.room.endpoints → HasQueues d → taken_chain d x p r ≡ Ok o → HasQueues o.driver
chain_taken d m x p o (Err why) idle stands has listed place runs some old f = absurd (cc)
chain_taken d m x p o (Ok h) idle stands has listed place runs some old f =
    subst (λ (g : Offered). HasQueues g.driver) (ok_is _ o f) (subst (λ (l : Periodic). HasQueues (e l)) (sym (ap (λ b. cond b (inserting list (Each r)) list) linked)) (longer_queues d (e (inserting list (Each r))) y longer old))
  where
    list : Periodic
    list = d.periodic.list

    s : Schedule
    s = list.members.schedule

    queue : ℕ
    queue = get_or (new_runs d h) 0 0

    dummy : ℕ
    dummy = get_or (new_runs d h) 1 0

    y : Endpoint
    y = placed_endpoint x p queue dummy

    r : Queue
    r = record { id = queue_name queue; period = p.period; phase = p.phase }

    e : Periodic → DriverContent
    e l = record (accepted_chain d x p h queue dummy).driver { periodic = record (accepted_chain d x p h queue dummy).driver.periodic { list = l } }

    room : nat_lt (length s.queues) list.members.queue_room ≡ true
    room = is_less (length s.queues) list.members.queue_room (omega (arith, some, old.many, old.room))

    linked : may_link list (Each r) ≡ true
    linked =
        ap (λ (o : Option Work). is_none o && takes list.members (Each r)) (calm_idle d d.command (ap is_calm idle) listed.way).work
        ∙ ap (λ b. b && (not (has_name s r.id) && has_room list.members (Each r))) (valid_place p (queue_name queue) place)
        ∙ ap (λ b. not b && has_room list.members (Each r)) (name_is_new d m h stands runs has listed.list) ∙ room

    longer : IsLonger d (e (inserting list (Each r))) y
    longer = record {
      endpoints = refl;
      room = omega (arith, some);
      most = refl;
      many = let n = longer_by_one s.queues r in omega (arith, n);
      old = λ w q there. any_around (is_this (queue_of w q)) (is_up_to (rank_of r)) r s.queues there;
      new = λ q on queued placed.
          subst (λ (v : Placement). is_in_queues (with_member s (Each r)) (framed_of y) v ≡ true) (same_Some p q placed)
          (any_here (is_this r) r (filter (is_up_to (rank_of r)) s.queues) (filter (λ v. not (is_up_to (rank_of r) v)) s.queues) (this_same r));
      links = λ i is. absurd (cc);
    }

placed_queues : (d : DriverContent) (m : Mem) (x : EpDesc) (p : Placement) (o : Offered) (k : EpKind) → x.kind ≡ k → d.command ≡ None → Stands (holding d.book m) → HasOwners d → IsListed d → IsPlace p → 1 ≤ d.room.endpoints → HasQueues d → placed_open d m x p k ≡ Ok o → HasQueues o.driver
placed_queues d m x p o kinds.Iso kind idle stands has listed place some old f = iso_opened d m x p o idle (ap is_iso kind) some old f
placed_queues d m x p o _ kind idle stands has listed place some old f = chain_taken d m x p o (take_runs (holding d.book m) (2 ∷ 1 ∷ [])) idle stands has listed place refl some old f

planned_queues : (d : DriverContent) (m : Mem) (x : EpDesc) (o : Offered) (r : Result Placement Refused) → answer d.periodic.plan (want_of (length d.endpoints) x) ≡ r → IsWant (want_of 0 x) → d.command ≡ None → Stands (holding d.book m) → HasOwners d → IsListed d → 1 ≤ d.room.endpoints → HasQueues d → planned_open d m x r ≡ Ok o → HasQueues o.driver
planned_queues d m x o (Err why) is want idle stands has listed some old f = absurd (cc)
planned_queues d m x o (Ok p) is want idle stands has listed some old f =
    let w : IsWant (want_of (length d.endpoints) x) = record { period = want.period; frames = want.frames; some_bytes = want.some_bytes; bytes = want.bytes; some_multi = want.some_multi; multi = want.multi; hub = want.hub; tt = want.tt } in
    placed_queues d m x p o x.kind refl idle stands has listed (answered_place d.periodic.plan (want_of (length d.endpoints) x) p w is) some old f

new_queues : (d : DriverContent) (m : Mem) (x : EpDesc) (o : Offered) (b : Bool) → is_periodic x.kind ≡ b → IsOpened x → d.command ≡ None → Stands (holding d.book m) → HasOwners d → IsListed d → 1 ≤ d.room.endpoints → HasQueues d
    → cond b (planned_open d m x (answer d.periodic.plan (want_of (length d.endpoints) x))) (taken_open d x (take_runs (holding d.book m) (2 ∷ 1 ∷ []))) ≡ Ok o → HasQueues o.driver
new_queues d m x o true periodic want idle stands has listed some old f = planned_queues d m x o (answer d.periodic.plan (want_of (length d.endpoints) x)) refl (want periodic) idle stands has listed some old f
new_queues d m x o false ring want idle stands has listed some old f = open_taken d x o (take_runs (holding d.book m) (2 ∷ 1 ∷ [])) some old f

pub open_queues : (d : DriverContent) (m : Mem) (x : EpDesc) (o : Offered) (q : Option Endpoint) → IsOpened x → d.command ≡ None → Stands (holding d.book m) → HasOwners d → IsListed d → 1 ≤ d.room.endpoints → HasQueues d → offered_open d m x q ≡ Ok o → HasQueues o.driver
open_queues d m x o (Some z) want idle stands has listed some old f = absurd (again_none d m x o z z.ended refl f)
open_queues d m x o None want idle stands has listed some old f = new_queues d m x o (is_periodic x.kind) refl want idle stands has listed some old f
