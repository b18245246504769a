-- What the queues tell has owners, and releases that are owed once; and its runs are lent but those that a command is to lend.
use Rattle.std.proofs.Common.{◌≡◌, ◌≢◌, ℕ, zero, suc, ◌+◌, ◌≤◌, Bool, true, false, not, ◌||◌, cond, List, [], ◌∷◌, map, slice_get, Option, Some, None, option_map, ap, sym, subst, ◌∙◌, ⊎_elim, refl, arith}
use Rattle.std.specs.Prelude.{is_some}
use Rattle.std.proofs.lemmas.Bool.{cases_Bool, false≢true}
use Rattle.std.proofs.lemmas.Option.{same_Some, slice_get-map}
use Rattle.law_driver.proofs.Common.{kind_in_ring, ring_queue, of_queue, of_none}
use Rattle.law_common.proofs.Numbers.{leaves_none}
use Rattle.law_common.proofs.Booleans.{not_not}
use Rattle.usb_base.specs.declared.packets.Way.{Way}
use Rattle.drv_periodic_table.specs.Periodic.{is_periodic}
use Rattle.drv_table.specs.declared.content.Endpoint.{Endpoint}
use Rattle.drv_table.specs.declared.content.Transfer.{Transfer}
use Rattle.drv_table.specs.declared.content.Command.{Command}
use Rattle.drv_table.specs.declared.content.Command.TheVariants as unfinished
use Rattle.drv_table.specs.DriverContent.{DriverContent}
use Rattle.drv_table.specs.Kinds.{is_iso}
use Rattle.claims_driver.specs.Owners.{Owner, EndpointRuns, TransferRuns, runs_of_endpoint, runs_of_transfer, endpoint_in, transfer_in, is_descriptor, IsPlaced, QueueHead, Dummy, views_of, IsOwned}
use Rattle.claims_driver.specs.Leaving.{times, owes, leaves_ring, IsSteady, leaver, IsOrderly, HasOwners}
use Rattle.law_driver.proofs.lemmas.run_owners.Orders.{none_other}
use Rattle.claims_driver.specs.LentRuns.{still_lends, AreLent}
use Rattle.law_driver.proofs.lemmas.chained_transfers.Ways.{sort_queued}
use Rattle.law_driver.specs.queued_drivers.Queued.{queued_kind, without_queue, with_queue, queued_endpoint, sort_of_queue, queued_transfer, queued_command, queued_made, queued, QueuesTakeTurns}
use Rattle.law_driver.specs.queued_drivers.Rows.{LendsNoDescriptors}
use Rattle.law_driver.proofs.lemmas.queued_drivers.RowLists.{transfer_told, descriptor_told, returned_descriptor, mapped, endpoints_many}

-- ---- what the queues tell has no frames

queued_not_iso : (way : Way) → is_iso (queued_kind way) ≡ false
queued_not_iso way = ring_queue (queued_kind way) (kind_in_ring way)

sort_no_descriptor : (o : Option Endpoint) → is_descriptor (sort_of_queue o) ≡ false
sort_no_descriptor None = refl
sort_no_descriptor (Some x) = sort_queued x.desc.name.way

-- by what an endpoint is
endpoint_either : (P : Endpoint → Type 0) (x : Endpoint) → (is_iso x.desc.kind ≡ true → P (without_queue x)) → (is_iso x.desc.kind ≡ false → P (with_queue x)) → P (queued_endpoint x)
endpoint_either P x none queue = ⊎_elim
    (λ (iso : is_iso x.desc.kind ≡ true). subst P (sym (of_none x iso)) (none iso))
    (λ (off : is_iso x.desc.kind ≡ false). subst P (sym (of_queue x off)) (queue off)) (cases_Bool (is_iso x.desc.kind))

transfer_either : (P : Transfer → Type 0) (xs : List Endpoint) (y : Transfer) → (is_descriptor y.sort ≡ true → P (returned_descriptor xs y)) → (is_descriptor y.sort ≡ false → P y) → P (queued_transfer xs y)
transfer_either P xs y none moves = ⊎_elim
    (λ (is : is_descriptor y.sort ≡ true). subst P (sym (descriptor_told xs y is)) (none is))
    (λ (off : is_descriptor y.sort ≡ false). subst P (sym (transfer_told xs y off)) (moves off)) (cases_Bool (is_descriptor y.sort))

-- ---- the runs

-- an endpoint with runs is told as it is
record WasRun (xs : List Endpoint) (e : ℕ) (x : EndpointRuns) : Type 0 where
  one : EndpointRuns
  here : endpoint_in xs e ≡ Some one
  bare : one.bare ≡ false
  queue : one.queue ≡ x.queue
  dummy : one.dummy ≡ x.dummy

run_of : (xs : List Endpoint) (e : ℕ) (o : Option Endpoint) (x : EndpointRuns) → slice_get xs e ≡ o → option_map runs_of_endpoint (option_map queued_endpoint o) ≡ Some x → x.bare ≡ false → WasRun xs e x
run_of xs e None x here is bare = absurd (cc)
run_of xs e (Some z) x here is bare =
    endpoint_either (λ w. runs_of_endpoint w ≡ x → WasRun xs e x) z
    (λ iso same.
    let b : is_iso (queued_kind z.desc.name.way) || true ≡ false = ap (λ (r : EndpointRuns). r.bare) same ∙ bare in
    absurd (false≢true (sym b ∙ ap (λ (i : Bool). i || true) (queued_not_iso z.desc.name.way))))
    (λ queue same.
    let b : is_iso (queued_kind z.desc.name.way) || z.gone ≡ false = ap (λ (r : EndpointRuns). r.bare) same ∙ bare in
    record {
      one = runs_of_endpoint z;
      here = ap (option_map runs_of_endpoint) here;
      bare = ap (λ (i : Bool). i || z.gone) (queue ∙ sym (queued_not_iso z.desc.name.way)) ∙ b;
      queue = ap (λ (r : EndpointRuns). r.queue) same;
      dummy = ap (λ (r : EndpointRuns). r.dummy) same;
    })
    (same_Some (runs_of_endpoint (queued_endpoint z)) x is)

was_run : (xs : List Endpoint) (e : ℕ) (x : EndpointRuns) → endpoint_in (map queued_endpoint xs) e ≡ Some x → x.bare ≡ false → WasRun xs e x
was_run xs e x here bare = run_of xs e (slice_get xs e) x refl (sym (ap (option_map runs_of_endpoint) (slice_get-map queued_endpoint xs e)) ∙ here) bare

moves_of : (xs : List Endpoint) (ts : List Transfer) (t : ℕ) (o : Option Transfer) (y : TransferRuns) → slice_get ts t ≡ o → option_map runs_of_transfer (option_map (queued_transfer xs) o) ≡ Some y → y.released ≡ false → transfer_in ts t ≡ Some y
moves_of xs ts t None y there is held = absurd (cc)
moves_of xs ts t (Some z) y there is held =
    transfer_either (λ w. runs_of_transfer w ≡ y → transfer_in ts t ≡ Some y) xs z
    (λ off same. let b : true ≡ false = ap (λ (r : TransferRuns). r.released) same ∙ held in absurd (false≢true (sym b)))
    (λ moves same. ap (option_map runs_of_transfer) there ∙ ap (λ (r : TransferRuns). Some r) same)
    (same_Some (runs_of_transfer (queued_transfer xs z)) y is)

was_moving : (xs : List Endpoint) (ts : List Transfer) (t : ℕ) (y : TransferRuns) → transfer_in (map (queued_transfer xs) ts) t ≡ Some y → y.released ≡ false → transfer_in ts t ≡ Some y
was_moving xs ts t y there held = moves_of xs ts t (slice_get ts t) y refl (sym (ap (option_map runs_of_transfer) (slice_get-map (queued_transfer xs) ts t)) ∙ there) held

pub queued_owned : (d : DriverContent) (owner : ℕ → Owner) → IsOwned d owner → IsOwned (queued d) owner
queued_owned d owner old = record {
  each = record {
    list = old.each.list;
    head = old.each.head;
    queue = λ e x here bare. let w = was_run d.endpoints e x here bare in subst (λ b. IsPlaced (views_of d).slot owner b (QueueHead e)) w.queue (old.each.queue e w.one w.here w.bare);
    dummy = λ e x here bare. let w = was_run d.endpoints e x here bare in subst (λ b. IsPlaced (views_of d).slot owner b (Dummy e)) w.dummy (old.each.dummy e w.one w.here w.bare);
    pieces = λ t y there held. old.each.pieces t y (was_moving d.endpoints d.transfers t y there held) held;
    described = λ t y there iso held. old.each.described t y (was_moving d.endpoints d.transfers t y there held) iso held;
  };
  sizes = old.sizes;
  as_many = old.as_many;
}

-- ---- what is owed

none_times : (n : ℕ) (ns : List ℕ) → ((i : ℕ) → slice_get ns i ≢ Some n) → times n ns ≡ 0
none_times n [] none = refl
none_times n (k ∷ ns) none =
    let one = none_other k n (λ same. none 0 (ap (λ (j : ℕ). Some j) same)) in
    let more = none_times n ns (λ i. none (suc i)) in
    omega (arith, one, more)

owed_told : (xs : List Endpoint) (ts : List Transfer) (t n : ℕ) (o : Option Transfer) → slice_get ts t ≡ o → n ≤ owes o → ((y : Transfer) → o ≡ Some y → is_descriptor y.sort ≡ true → n ≡ 0) → n ≤ owes (option_map (queued_transfer xs) o)
owed_told xs ts t n None there few none = few
owed_told xs ts t n (Some y) there few none =
    transfer_either (λ w. n ≤ owes (Some w)) xs y (λ is. let zero_of = none y refl is in omega (arith, zero_of)) (λ moves. few)

ring_either : (P : ℕ → Type 0) (a b c : Bool) → (c ≡ true → P 0) → (c ≡ false → P (cond (a || b || c) 0 1)) → P (cond (a || b || c) 0 1)
ring_either P true b c frames ring = ring_at c frames ring
  where
    ring_at : (k : Bool) → (k ≡ true → P 0) → (k ≡ false → P 0) → P 0
    ring_at true one other = one refl
    ring_at false one other = other refl
ring_either P false true c frames ring = ring_at c frames ring
  where
    ring_at : (k : Bool) → (k ≡ true → P 0) → (k ≡ false → P 0) → P 0
    ring_at true one other = one refl
    ring_at false one other = other refl
ring_either P false false true frames ring = frames refl
ring_either P false false false frames ring = ring refl

leaving_told : (xs : List Endpoint) (n : ℕ) (o : Option Endpoint) → n ≤ leaves_ring o → n ≤ leaves_ring (option_map queued_endpoint o)
leaving_told xs n None few = few
leaving_told xs n (Some x) few = ⊎_elim
    (λ (frames : is_periodic x.desc.kind ≡ true). let none = leaves_none x.linked x.gone (is_periodic x.desc.kind) frames in omega (arith, none, few))
    (λ (ring : is_periodic x.desc.kind ≡ false).
    let same : leaves_ring (Some (queued_endpoint x)) ≡ leaves_ring (Some x) =
    ap (λ (w : Endpoint). leaves_ring (Some w)) (of_queue x (ring_queue x.desc.kind ring))
    ∙ ap (λ (b : Bool). cond (cond b (not x.gone) x.linked || x.gone || is_periodic (queued_kind x.desc.name.way)) 0 1) ring
    ∙ ap (λ (b : Bool). cond (x.linked || x.gone || b) 0 1) (kind_in_ring x.desc.name.way ∙ sym ring) in
    omega (arith, same, few)) (cases_Bool (is_periodic x.desc.kind))

out_of_both : (x : Endpoint) → IsSteady x → x.gone ≡ true → is_some x.ended ≡ true
out_of_both x s gone = let o = s.gone gone in s.ended o.0 o.1

steady_told : (x : Endpoint) → IsSteady x → IsSteady (queued_endpoint x)
steady_told x s = endpoint_either IsSteady x
    (λ iso. record {
      ended = λ linked chained. refl;
      gone = λ gone. (refl, refl);
      ring = λ linked. absurd (false≢true linked);
      frames = λ chained. absurd (false≢true chained);
      placed = sym (kind_in_ring x.desc.name.way);
    })
    (λ queue. ⊎_elim
    (λ (frames : is_periodic x.desc.kind ≡ true).
    subst (λ (b : Bool). IsSteady (record (with_queue x) { linked = cond b (not x.gone) x.linked })) (sym frames) (record {
      ended = λ linked chained. out_of_both x s (not_not x.gone linked);
      gone = λ gone. (ap not gone, refl);
      ring = λ linked. kind_in_ring x.desc.name.way;
      frames = λ chained. absurd (false≢true chained);
      placed = sym (kind_in_ring x.desc.name.way);
    }))
    (λ (ring : is_periodic x.desc.kind ≡ false).
    let out : x.chained ≡ false = ⊎_elim (λ (on : x.chained ≡ true). absurd (false≢true (sym ring ∙ s.frames on))) (λ (off : x.chained ≡ false). off) (cases_Bool x.chained) in
    subst (λ (b : Bool). IsSteady (record (with_queue x) { linked = cond b (not x.gone) x.linked })) (sym ring) (record {
      ended = λ linked chained. s.ended linked out;
      gone = λ gone. ((s.gone gone).0, refl);
      ring = λ linked. kind_in_ring x.desc.name.way;
      frames = λ chained. absurd (false≢true chained);
      placed = sym (kind_in_ring x.desc.name.way);
    })) (cases_Bool (is_periodic x.desc.kind)))

leaver_told : (xs : List Endpoint) (c : Option Command) (e : ℕ) → leaver (queued_command xs c) ≡ Some e → leaver c ≡ Some e
leaver_told xs (Some (unfinished.Unchain k)) e is = absurd (cc)
leaver_told xs _ e is = is

pub queued_orderly : (d : DriverContent) → ((i t : ℕ) (y : Transfer) → slice_get d.harvested i ≡ Some t → slice_get d.transfers t ≡ Some y → is_descriptor y.sort ≡ false) → IsOrderly d → IsOrderly (queued d)
queued_orderly d moving old =
    let xs = d.endpoints in
    let ts = d.transfers in
    record {
      harvests = λ t.
          let h = old.harvests t in
          let m = ap owes (slice_get-map (queued_transfer xs) ts t) in
          let now = owed_told xs ts t (times t d.harvested) (slice_get ts t) refl (omega (arith, h))
          (λ y there is. none_times t d.harvested (λ i at. false≢true (sym (moving i t y at there) ∙ is))) in
          omega (arith, m, now);
      leaving = λ e.
          let m = ap leaves_ring (slice_get-map queued_endpoint xs e) in
          let now = leaving_told xs (times e d.waiting + times e d.rung + times e d.cleared) (slice_get xs e) (old.leaving e) in
          omega (arith, m, now);
      removed = λ e. omega arith;
      steady = λ e z here. let w = mapped queued_endpoint xs e z here in subst IsSteady w.is (steady_told w.one (old.steady e w.one w.here));
      within = λ t y there.
          let w = mapped (queued_transfer xs) ts t y there in
          let at : y.endpoint ≡ w.one.endpoint = ap (λ (r : Transfer). r.endpoint) (sym w.is) ∙ transfer_either (λ r. r.endpoint ≡ w.one.endpoint) xs w.one (λ is. refl) (λ moves. refl) in
          let many = endpoints_many xs in
          let was = old.within t w.one w.here in
          omega (arith, at, many, was);
      sorts = λ t y x there here.
          let w = mapped (queued_transfer xs) ts t y there in
          let k = mapped queued_endpoint xs y.endpoint x here in
          ap (λ (r : Transfer). is_descriptor r.sort) (sym w.is)
          ∙ transfer_either (λ r. is_descriptor r.sort ≡ false) xs w.one (λ is. sort_no_descriptor (slice_get xs w.one.endpoint)) (λ moves. moves)
          ∙ sym (ap (λ (r : Endpoint). is_iso r.desc.kind) (sym k.is) ∙ endpoint_either (λ r. is_iso r.desc.kind ≡ false) k.one (λ iso. queued_not_iso k.one.desc.name.way) (λ queue. queued_not_iso k.one.desc.name.way));
      unlinked = λ t y some there. absurd (omega (arith, some));
      untold = λ t y there back untold x here.
          let w = mapped (queued_transfer xs) ts t y there in
          let k = mapped queued_endpoint xs y.endpoint x here in
          ap (λ (r : Endpoint). r.gone) (sym k.is)
          ∙ endpoint_either (λ r. r.gone ≡ true) k.one (λ iso. refl)
          (λ queue.
          transfer_either (λ r. r ≡ y → k.one.gone ≡ true) xs w.one
          (λ is same. let b : true ≡ false = ap (λ (r : Transfer). r.reported) same ∙ untold in absurd (false≢true (sym b)))
          (λ moves same.
          old.untold t w.one w.here (ap (λ (r : Transfer). r.released) same ∙ back) (ap (λ (r : Transfer). r.reported) same ∙ untold) k.one
          (ap (λ (r : Transfer). slice_get xs r.endpoint) same ∙ k.here)) w.is);
      leaver = λ e x is here.
          let k = mapped queued_endpoint xs e x here in
          ap (λ (r : Endpoint). is_some r.ended) (sym k.is)
          ∙ endpoint_either (λ r. is_some r.ended ≡ true) k.one (λ iso. refl) (λ queue. old.leaver e k.one (leaver_told xs d.command e is) k.here);
    }

pub queued_has_owners : (d : DriverContent) → HasOwners d → QueuesTakeTurns d → HasOwners (queued d)
queued_has_owners d old turns = record { owner = old.owner; owned = queued_owned d old.owner old.owned; orderly = queued_orderly d turns.harvested old.orderly }

-- ---- lent runs

lends_told : (xs : List Endpoint) (c : Option Command) (n : ℕ) → ((e t count : ℕ) → c ≡ Some (unfinished.Iso e t count) → still_lends c n ≡ false) → still_lends (queued_command xs c) (queued_made c n) ≡ false → still_lends c n ≡ false
lends_told xs None n none over = over
lends_told xs (Some (unfinished.Open queue)) n none over = over
lends_told xs (Some (unfinished.Publish b words)) n none over = over
lends_told xs (Some (unfinished.Unlink e b link)) n none over = over
lends_told xs (Some unfinished.Chain) zero none over = over
lends_told xs (Some unfinished.Chain) (suc zero) none over = refl
lends_told xs (Some unfinished.Chain) (suc (suc n)) none over = refl
lends_told xs (Some (unfinished.Iso e t count)) n none over = none e t count refl
lends_told xs (Some (unfinished.Unchain e)) zero none over = refl
lends_told xs (Some (unfinished.Unchain e)) (suc n) none over = refl

pub queued_are_lent : (d : DriverContent) → AreLent d → LendsNoDescriptors d → AreLent (queued d)
queued_are_lent d old none = record { kept = old.kept; lent = λ over. old.lent (lends_told d.endpoints d.command d.made none over) }
