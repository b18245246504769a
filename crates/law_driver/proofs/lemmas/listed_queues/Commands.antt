-- The opening, and each command that is accepted.
use Rattle.std.proofs.Common.{◌≡◌, ℕ, ◌+◌, Bool, true, false, not, ◌||◌, cond, nat_lt, List, [], ◌∷◌, ◌++◌, length, set, slice_get, Option, Some, None, Result, Ok, Err, unwrap_or, option_map, ap, sym, subst, ◌∙◌, refl, arith, length-append}
use Rattle.std.specs.Prelude.{is_some, is_none, count_by}
use Rattle.std.proofs.lemmas.Bool.{false≢true}
use Rattle.std.proofs.lemmas.List.{length-set}
use Rattle.law_common.proofs.Lists.{set_here}
use Rattle.usb_base.specs.declared.endpoints.EndCause.{EndCause}
use Rattle.usb_base.specs.declared.endpoints.EndCause.TheVariants as causes
use Rattle.usb_base.specs.declared.commands.Cmd.{Cmd}
use Rattle.usb_base.specs.declared.commands.Cmd.TheVariants as commands
use Rattle.usb_base.specs.declared.reports.OfferError.{OfferError}
use Rattle.usb_base.specs.declared.reports.OfferError.TheVariants as errors
use Rattle.word_mem.specs.Memory.{Mem}
use Rattle.mem_runs.specs.Book.{Holding, holding, Stands}
use Rattle.bandwidth.specs.declared.placements.Placement.{Placement}
use Rattle.drv_periodic_table.specs.Periodic.{PeriodicContent, is_periodic}
use Rattle.drv_periodic_table.specs.Linking.{begun_next}
use Rattle.drv_table.specs.declared.content.Endpoint.{Endpoint}
use Rattle.drv_table.specs.declared.content.Reserve.{Reserve}
use Rattle.drv_table.specs.declared.content.Slots.{Slots}
use Rattle.drv_table.specs.declared.content.Sort.TheVariants as sorts
use Rattle.drv_table.specs.declared.content.Command.{Command}
use Rattle.drv_table.specs.declared.content.Command.TheVariants as unfinished
use Rattle.drv_table.specs.DriverContent.{DriverContent, waits_for, endpoint_of, endpoint_named}
use Rattle.drv_table.specs.Opening.{opening}
use Rattle.drv_table.specs.Words.{get_stages, put_stages, request_length, request_stages, needs}
use Rattle.drv_table.specs.Kinds.{is_iso}
use Rattle.drv_table.specs.Commands.{leave_frames, no_command, finished, or_finished}
use Rattle.drv_table.specs.Accepting.{Offered, take_runs, first_waiting}
use Rattle.drv_table.specs.Offers.{Asked, with_queued, taken_transfer, open_transfer, found_transfer, takes_get, takes_put, takes_control, offered_next, offered, IsOffered}
use Rattle.drv_table.specs.IsoOffers.{slots_of, iso_needs, taken_iso, spans_too_long, has_slots, open_iso, offered_iso}
use Rattle.drv_table.specs.CancelOffers.{first_end, accepted_cancel, endpoint_members, with_cancel, cancelled_by, offered_cancel}
use Rattle.law_driver.specs.run_owners.Accepts.{Unchains, Accepts, opens, chains, places, transfers, describes, cancels, unchains}
use Rattle.claims_driver.specs.Leaving.{HasOwners}
use Rattle.law_driver.proofs.lemmas.run_owners.Commands.{each_command_has_its_reason}
use Rattle.claims_driver.specs.FrameListMembers.{Framed, framed_of, framed_in, is_chained}
use Rattle.law_driver.specs.listed_members.Members.{IsListed}
use Rattle.law_driver.specs.listed_queues.Queues.{is_in_queues, HasQueues}
use Rattle.law_driver.proofs.lemmas.listed_members.Stays.{SameEndpoints, endpoint_set}
use Rattle.law_driver.proofs.lemmas.listed_queues.Same.{same_queues, same_by}
use Rattle.law_driver.proofs.lemmas.listed_queues.Goes.{KeepsHeads, next_unlinked, done_queues}
use Rattle.law_driver.proofs.lemmas.listed_queues.Opens.{open_queues}

pub opening_has_queue_heads : (n : ℕ) (room : Reserve) → HasQueues (opening n room).driver
opening_has_queue_heads n room = record {
  each = λ e x p here. absurd (none e x here);
  many = omega arith;
  room = omega arith;
  leaving = λ e is. absurd (cc);
}
  where
    none : (e : ℕ) (x : Framed) → framed_in [] e ≡ Some x → ⊥
    none e x here = cc

-- ---- a command that opens nothing leaves as many endpoints as there were

abbrev LeavesMany : DriverContent → Offered → Type 0
LeavesMany d o = length o.driver.endpoints ≡ length d.endpoints

ok_is : (p o : Offered) → ◌≡◌ {A = Result Offered OfferError} (Ok p) (Ok o) → p ≡ o
ok_is p o f = cc

by_ok : (d : DriverContent) (p o : Offered) → LeavesMany d p → ◌≡◌ {A = Result Offered OfferError} (Ok p) (Ok o) → LeavesMany d o
by_ok d p o many f = subst (LeavesMany d) (ok_is p o f) many

transfer_taken : (d : DriverContent) (e : ℕ) (x : Endpoint) (a : Asked) (o : Offered) (r : Result Holding OfferError) → taken_transfer d e x a r ≡ Ok o → LeavesMany d o
transfer_taken d e x a o (Err why) f = absurd (cc)
transfer_taken d e x a o (Ok h) f = by_ok d _ o (length-set d.endpoints e (with_queued x _ (length d.transfers))) f

transfer_opened : (d : DriverContent) (m : Mem) (e : ℕ) (x : Endpoint) (a : Asked) (o : Offered) (c : Option EndCause) → open_transfer d m e x a c ≡ Ok o → LeavesMany d o
transfer_opened d m e x a o (Some cause) f = absurd (cc)
transfer_opened d m e x a o None f = at (nat_lt 20480 a.most) f
  where
    at : (b : Bool) → cond b (Err errors.TooLong) (taken_transfer d e x a (take_runs (holding d.book m) (needs a.stages))) ≡ Ok o → LeavesMany d o
    at true g = absurd (cc)
    at false g = transfer_taken d e x a o (take_runs (holding d.book m) (needs a.stages)) g

transfer_found : (d : DriverContent) (m : Mem) (takes : Endpoint → Bool) (a : Asked) (e : ℕ) (o : Offered) (q : Option Endpoint) → found_transfer d m takes a e q ≡ Ok o → LeavesMany d o
transfer_found d m takes a e o None f = absurd (cc)
transfer_found d m takes a e o (Some x) f = at (takes x) f
  where
    at : (b : Bool) → cond b (open_transfer d m e x a x.ended) (Err errors.NoEndpoint) ≡ Ok o → LeavesMany d o
    at true g = transfer_opened d m e x a o x.ended g
    at false g = absurd (cc)

iso_taken : (d : DriverContent) (e : ℕ) (x : Endpoint) (s : Slots) (n seed : ℕ) (o : Offered) (r : Result Holding OfferError) → taken_iso d e x s n seed r ≡ Ok o → LeavesMany d o
iso_taken d e x s n seed o (Err why) f = absurd (cc)
iso_taken d e x s n seed o (Ok h) f = by_ok d _ o (length-set d.endpoints e (record x { next = first_waiting x.next (length d.transfers) })) f

iso_opened : (d : DriverContent) (m : Mem) (e : ℕ) (x : Endpoint) (s : Slots) (n seed : ℕ) (o : Offered) (c : Option EndCause) → open_iso d m e x s n seed c ≡ Ok o → LeavesMany d o
iso_opened d m e x s n seed o (Some cause) f = absurd (cc)
iso_opened d m e x s n seed o None f = at (spans_too_long x (n + count_by (waits_for e) d.transfers) || not (has_slots x s)) f
  where
    at : (b : Bool) → cond b (Err errors.TooLong) (taken_iso d e x s n seed (take_runs (holding d.book m) (iso_needs s n))) ≡ Ok o → LeavesMany d o
    at true g = absurd (cc)
    at false g = iso_taken d e x s n seed o (take_runs (holding d.book m) (iso_needs s n)) g

iso_found : (d : DriverContent) (m : Mem) (e n len seed : ℕ) (o : Offered) (q : Option Endpoint) → offered_iso d m e n len seed q ≡ Ok o → LeavesMany d o
iso_found d m e n len seed o None f = absurd (cc)
iso_found d m e n len seed o (Some x) f = at (is_iso x.desc.kind) f
  where
    at : (b : Bool) → cond b (open_iso d m e x (slots_of x len) n seed x.ended) (Err errors.NoEndpoint) ≡ Ok o → LeavesMany d o
    at true g = iso_opened d m e x (slots_of x len) n seed o x.ended g
    at false g = absurd (cc)

abbrev AsMany : DriverContent → DriverContent → Type 0
AsMany d e = length e.endpoints ≡ length d.endpoints

either_many : (d x y : DriverContent) (b : Bool) → AsMany d x → AsMany d y → AsMany d (cond b x y)
either_many d x y true one two = one
either_many d x y false one two = two

frames_many : (d : DriverContent) (e : ℕ) (o : Option Endpoint) → AsMany d (leave_frames d e o)
frames_many d e None = refl
frames_many d e (Some x) = either_many d _ d x.chained (length-set d.endpoints e (record x { chained = false })) refl

done_many : (d : DriverContent) (e : ℕ) → AsMany d (or_finished d (unfinished.Unchain e))
done_many d e = either_many d (finished d (unfinished.Unchain e)) d (is_none d.periodic.list.work) (frames_many (no_command d) e (slice_get d.endpoints e)) refl

cancel_many : (d : DriverContent) (e : ℕ) (x : Endpoint) (p : Option Placement) → AsMany d (cancelled_by d e x p)
cancel_many d e x None = length-set d.endpoints e (record x { cancelled = true; ended = first_end x.ended })
cancel_many d e x (Some p) =
    let s = done_many (with_cancel d e x (endpoint_members d e x p)) e in
    let n = length-set d.endpoints e (record x { cancelled = true; ended = first_end x.ended }) in
    s ∙ n

cancel_found : (d : DriverContent) (m : Mem) (e : ℕ) (o : Offered) (q : Option Endpoint) → offered_cancel d m e q ≡ Ok o → LeavesMany d o
cancel_found d m e o None f = absurd (cc)
cancel_found d m e o (Some x) f = at x.cancelled f
  where
    at : (b : Bool) → cond b (Err (errors.Closed causes.Cancel)) (Ok (record { driver = cancelled_by d e x x.placement; memory = m })) ≡ Ok o → LeavesMany d o
    at true g = absurd (cc)
    at false g = by_ok d (record { driver = cancelled_by d e x x.placement; memory = m }) o (cancel_many d e x x.placement) g

-- ---- and keeps the queue heads

one_more : (xs : List Endpoint) (y : Endpoint) (n : ℕ) → n ≡ length (xs ++ y ∷ []) → n ≡ length xs → ⊥
one_more xs y n more same = let k = length-append xs (y ∷ []) in omega (arith, k, more, same)

unchain_queues : (d : DriverContent) (m : Mem) (o : Offered) → Unchains d m o → HasOwners d → IsListed d → HasQueues d → HasQueues o.driver
unchain_queues d m o why has listed old =
    subst (λ (g : Offered). HasQueues g.driver) (sym why.is)
    (done_queues f e y (set_here d.endpoints e x y why.here) now)
  where
    e : ℕ
    e = why.number

    x : Endpoint
    x = why.endpoint

    y : Endpoint
    y = record x { cancelled = true; ended = first_end x.ended }

    q : PeriodicContent
    q = record d.periodic { queued = endpoint_members d e x why.placement }

    f : DriverContent
    f = with_cancel d e x (endpoint_members d e x why.placement)

    endpoints : SameEndpoints d.endpoints (set d.endpoints e y)
    endpoints = endpoint_set d.endpoints e x y why.here refl refl (λ off. absurd (false≢true (sym off)))

    periodic : is_periodic x.desc.kind ≡ true
    periodic = sym (has.orderly.steady e x why.here).placed ∙ ap (λ (p : Option Placement). is_some p) why.placed

    chained : x.chained ≡ true
    chained = listed.list.kept e x why.here periodic why.fresh

    keeps : KeepsHeads q.list (begun_next true q).list
    keeps = next_unlinked q

    now : HasQueues f
    now = record {
      each = λ i w p here on queued placed.
          let was = old.each i w p (sym (endpoints.framed i) ∙ here) on queued placed in
          subst (λ qs. is_in_queues (record d.periodic.list.members.schedule { queues = qs }) w p ≡ true) (sym keeps.queues) was;
      many = let n = length-set d.endpoints e y in let k = ap (λ qs. length qs) keeps.queues in omega (arith, n, k, old.many);
      room = let n = length-set d.endpoints e y in let k = keeps.most in omega (arith, n, k, old.room);
      leaving = λ i is. subst (λ j. is_chained (framed_in (set d.endpoints e y) j) ≡ true) (same_number e i is) (ap is_chained (endpoints.framed e) ∙ ap (λ (z : Option Endpoint). is_chained (option_map framed_of z)) why.here ∙ chained);
    }
      where
        same_number : (a b : ℕ) → ◌≡◌ {A = Option Command} (Some (unfinished.Unchain a)) (Some (unfinished.Unchain b)) → a ≡ b
        same_number a b f = cc

other_queues : (d : DriverContent) (m : Mem) (o : Offered) → Accepts d m o → LeavesMany d o → HasOwners d → IsListed d → HasQueues d → HasQueues o.driver
other_queues d m o (opens why) many has listed old = absurd (one_more d.endpoints _ (length o.driver.endpoints) (ap (λ (g : Offered). length g.driver.endpoints) why.is) many)
other_queues d m o (chains why) many has listed old = absurd (one_more d.endpoints _ (length o.driver.endpoints) (ap (λ (g : Offered). length g.driver.endpoints) why.is) many)
other_queues d m o (places why) many has listed old = absurd (one_more d.endpoints _ (length o.driver.endpoints) (ap (λ (g : Offered). length g.driver.endpoints) why.is) many)
other_queues d m o (transfers why) many has listed old =
    subst (λ (g : Offered). HasQueues g.driver) (sym why.is)
    (same_queues d _ (same_by d _ refl (endpoint_set d.endpoints why.number why.endpoint (with_queued why.endpoint _ (length d.transfers)) why.here refl refl (λ off. off)).framed refl (λ i is. absurd (cc))) old)
other_queues d m o (describes why) many has listed old =
    let x = why.endpoint in
    subst (λ (g : Offered). HasQueues g.driver) (sym why.is)
    (same_queues d _ (same_by d _ refl (endpoint_set d.endpoints why.number x (record x { next = first_waiting x.next (length d.transfers) }) why.here refl refl (λ off. off)).framed refl (λ i is. absurd (cc))) old)
other_queues d m o (cancels why) many has listed old =
    let x = why.endpoint in
    let y : Endpoint = record x { cancelled = true; ended = first_end x.ended } in
    subst (λ (g : Offered). HasQueues g.driver) (sym why.is)
    (same_queues d _ (same_by d (accepted_cancel d why.number x) refl (endpoint_set d.endpoints why.number x y why.here refl refl (λ off. absurd (false≢true (sym off)))).framed refl (λ i is. absurd (cc))) old)
other_queues d m o (unchains why) many has listed old = unchain_queues d m o why has listed old

-- ---- any command

next_queues : (d : DriverContent) (m : Mem) (cmd : Cmd) (o : Offered) → d.command ≡ None → Accepts d m o → Stands (holding d.book m) → HasOwners d → IsOffered d.room cmd → IsListed d → HasQueues d → offered_next d m cmd ≡ Ok o → HasQueues o.driver
next_queues d m (commands.OpenEp x) o idle why stands has room listed old f = open_queues d m x o (endpoint_named d x.name) room.3 idle stands has listed room.0 old f
next_queues d m (commands.Get name len by) o idle why stands has room listed old f =
    other_queues d m o why (transfer_found d m takes_get (record { sort = sorts.Get; stages = get_stages len by; most = len; bytes = [] }) (unwrap_or (endpoint_of d name) 0) o (endpoint_named d name) f) has listed old
next_queues d m (commands.Put name bytes by) o idle why stands has room listed old f =
    other_queues d m o why (transfer_found d m takes_put (record { sort = sorts.Put; stages = put_stages (length bytes) by; most = length bytes; bytes = bytes }) (unwrap_or (endpoint_of d name) 0) o (endpoint_named d name) f) has listed old
next_queues d m (commands.Control name setup bytes) o idle why stands has room listed old f =
    other_queues d m o why (transfer_found d m takes_control (record { sort = sorts.Request; stages = request_stages setup; most = request_length setup; bytes = setup ++ bytes }) (unwrap_or (endpoint_of d name) 0) o (endpoint_named d name) f) has listed old
next_queues d m (commands.Iso name count len seed) o idle why stands has room listed old f =
    other_queues d m o why (iso_found d m (unwrap_or (endpoint_of d name) 0) count len seed o (endpoint_named d name) f) has listed old
next_queues d m (commands.Cancel name) o idle why stands has room listed old f = other_queues d m o why (cancel_found d m (unwrap_or (endpoint_of d name) 0) o (endpoint_named d name) f) has listed old
next_queues d m _ o idle why stands has room listed old f = absurd (cc)

pub accepted_queues : (d : DriverContent) (m : Mem) (cmd : Cmd) (o : Offered) → Stands (holding d.book m) → HasOwners d → IsOffered d.room cmd → IsListed d → HasQueues d → offered d m cmd ≡ Ok o → HasQueues o.driver
accepted_queues d m cmd o stands has room listed old f = at d.command refl f
  where
    at : (c : Option Command) → d.command ≡ c → cond (is_some c) (Err errors.Busy) (offered_next d m cmd) ≡ Ok o → HasQueues o.driver
    at (Some c) is g = absurd (cc)
    at None is g = next_queues d m cmd o is (each_command_has_its_reason d m cmd o f) stands has room listed old g
