-- What is to be given back belongs to endpoints that a walk may meet, after each event and each accepted command.
use Rattle.std.proofs.Common.{◌≡◌, ℕ, zero, suc, ◌<◌, true, false, List, [], ◌∷◌, ◌++◌, length, take, drop, slice_get, Option, Some, None, Ok, ap, sym, subst, ◌∙◌, ⊎_elim, inl, inr, refl, arith}
use Rattle.std.specs.Prelude.{◌⊎◌}
use Rattle.std.proofs.lemmas.Bool.{or_left}
use Rattle.std.proofs.lemmas.Option.{same_Some}
use Rattle.law_common.proofs.Lists.{some_below, drop_one, none_first}
use Rattle.law_queues.proofs.Common.{let_go_harvested, owed_none}
use Rattle.law_driver.proofs.Common.{times_of}
use Rattle.usb_base.specs.declared.commands.Cmd.{Cmd}
use Rattle.usb_base.specs.declared.commands.Cmd.TheVariants as commands
use Rattle.word_mem.specs.Memory.{Mem}
use Rattle.mem_runs.specs.Book.{Holding, holding, lend_taken}
use Rattle.drv_table.specs.declared.content.Reserve.{Reserve}
use Rattle.drv_table.specs.declared.content.Endpoint.{Endpoint}
use Rattle.drv_table.specs.declared.content.Transfer.{Transfer}
use Rattle.drv_table.specs.declared.content.QtdNote.{QtdNote}
use Rattle.drv_table.specs.declared.rows.DriverRow.{DriverRow}
use Rattle.drv_table.specs.declared.rows.DriverRow.TheVariants as rows
use Rattle.drv_table.specs.declared.rows.Found.{Found}
use Rattle.drv_table.specs.DriverContent.{DriverContent}
use Rattle.drv_table.specs.Opening.{opening}
use Rattle.drv_table.specs.Accepting.{Offered, new_runs}
use Rattle.drv_table.specs.Offers.{offered, new_endpoint, accepted_open, accepted_transfer, with_queued, new_transfer, note_stages}
use Rattle.drv_table.specs.Parts.{Parts}
use Rattle.drv_table.specs.Commands.{advance}
use Rattle.drv_table.specs.Releases.{after_transfer, freed_by}
use Rattle.drv_table.specs.Rows.{driver_row, after_driver_row}
use Rattle.law_driver.specs.endpoint_lives.Lives.{is_one_of, may_meet}
use Rattle.law_driver.proofs.lemmas.endpoint_lives.Lives.{one_of_joined, one_of_end, linked_met, waiting_met, rung_met, met_where, IsNear, in_ring, has_left, is_rung, met_alike}
use Rattle.law_driver.specs.run_owners.Due.{IsDue, IsHarvestDue}
use Rattle.claims_driver.specs.Leaving.{IsOrderly, HasOwners}
use Rattle.law_driver.proofs.lemmas.run_owners.Orders.{owed}
use Rattle.law_driver.proofs.lemmas.run_owners.Reasons.{each_event_is_due}
use Rattle.law_driver.specs.run_owners.Accepts.{Opens, Transfers}
use Rattle.law_driver.specs.AsynchronousScripts.{OpensAsynchronous}
use Rattle.law_driver.specs.chained_transfers.Asynchronous.{OnlyAsynchronous, AcceptsAsynchronous}
use Rattle.law_driver.specs.chained_transfers.AsynchronousTurns.{AsynchronousTakesTurns}
use Rattle.law_driver.specs.chained_transfers.Turns.{IsInList}
use Rattle.law_driver.proofs.lemmas.chained_transfers.Accepting.{asynchronous_command_is_accepted}
use Rattle.law_driver.proofs.lemmas.chained_transfers.Rows.{left, advanced_or_left, set_which}
use Rattle.law_driver.proofs.lemmas.chained_transfers.Staying.{stands_linked}
use Rattle.law_queues.specs.leaving_drivers.Before.{IsAsBefore, NearSame}
use Rattle.law_queues.specs.leaving_drivers.Owed.{AreOwedMet, IsClearing}
use Rattle.law_queues.proofs.lemmas.leaving_drivers.Clearing.{clear_finds}
use Rattle.law_queues.proofs.lemmas.leaving_drivers.Leaving.{cancel_is_as_before, bell_is_as_before, status_is_as_before, frame_is_as_before}
use Rattle.law_queues.proofs.lemmas.leaving_drivers.Reading.{IsTransferOf, read_row}
use Rattle.law_queues.proofs.lemmas.leaving_drivers.Never.{IsAsynchronousRow, asynchronous_row}

-- ---- from what they were

pub record WasOf (d : DriverContent) (t : ℕ) (y : Transfer) : Type 0 where
  pub one : Transfer
  pub here : slice_get d.transfers t ≡ Some one
  pub endpoint : y.endpoint ≡ one.endpoint

-- one that is as near as it was, or nearer
pub record WasNear (d f : DriverContent) (i : ℕ) (z : Endpoint) : Type 0 where
  pub one : Endpoint
  pub here : slice_get d.endpoints i ≡ Some one
  pub near : may_meet d i one ≡ true → may_meet f i z ≡ true

record OwesAs (d f : DriverContent) : Type 0 where
  listed : (i t : ℕ) → slice_get f.harvested i ≡ Some t → IsInList d.harvested t
  turns : (t : ℕ) (y : Transfer) → IsInList d.harvested t → slice_get f.transfers t ≡ Some y → WasOf d t y
  nears : (t : ℕ) (y : Transfer) (z : Endpoint) → slice_get d.transfers t ≡ Some y → slice_get f.endpoints y.endpoint ≡ Some z → WasNear d f y.endpoint z

owed_on : (d f : DriverContent) → OwesAs d f → AreOwedMet d → AreOwedMet f
owed_on d f o old i t y x at there here =
    let l = o.listed i t at in
    let w = o.turns t y l there in
    let n = o.nears t w.one x w.here (ap (slice_get f.endpoints) (sym w.endpoint) ∙ here) in
    ap (λ (k : ℕ). may_meet f k x) w.endpoint ∙ n.near (old l.at t w.one n.one l.here w.here n.here)

listed_as : (hs : List ℕ) (i t : ℕ) → slice_get hs i ≡ Some t → IsInList hs t
listed_as hs i t at = record { at = i; here = at }

was_of : (d : DriverContent) (t : ℕ) (y : Transfer) → slice_get d.transfers t ≡ Some y → WasOf d t y
was_of d t y there = record { one = y; here = there; endpoint = refl }

was_near : (d f : DriverContent) (i : ℕ) (z : Endpoint) → slice_get d.endpoints i ≡ Some z → may_meet f i z ≡ may_meet d i z → WasNear d f i z
was_near d f i z here same = record { one = z; here = here; near = λ on. same ∙ on }

-- ---- what is as before

pub owed_before : (d f : DriverContent) → IsAsBefore d f → NearSame d f → AreOwedMet d → AreOwedMet f
owed_before d f b near = owed_on d f (record {
  listed = λ i t at. listed_as d.harvested i t (ap (λ (hs : List ℕ). slice_get hs i) (sym b.harvested) ∙ at);
  turns = λ t y l there. was_of d t y (ap (λ (ts : List Transfer). slice_get ts t) (sym b.transfers) ∙ there);
  nears = λ t y z there here.
      let w = b.ends y.endpoint z here in
      record { one = w.endpoint; here = w.here; near = λ on. near y.endpoint w.endpoint z w.here here ∙ on };
})

-- ---- the command goes on

near_more : (d : DriverContent) (e i : ℕ) (x w : Endpoint) → may_meet d i w ≡ true → may_meet (left d e x) i w ≡ true
near_more d e i x w on = by (met_where d i w on)
  where
    by : IsNear d i w → may_meet (left d e x) i w ≡ true
    by (in_ring l) = linked_met (left d e x) i w l
    by (has_left l) = waiting_met (left d e x) i w (one_of_joined i d.waiting (e ∷ []) ∙ or_left (is_one_of i d.waiting) (is_one_of i (e ∷ [])) l)
    by (is_rung l) = rung_met (left d e x) i w l

left_owed : (d : DriverContent) (e : ℕ) (x : Endpoint) → slice_get d.endpoints e ≡ Some x → AreOwedMet d → AreOwedMet (left d e x)
left_owed d e x here = owed_on d (left d e x) (record {
  listed = λ i t at. listed_as d.harvested i t at;
  turns = λ t y l there. was_of d t y there;
  nears = λ t y z there at. ⊎_elim
      (λ (own : (y.endpoint ≡ e) × (z ≡ record x { linked = false })).
      record {
        one = x;
        here = ap (slice_get d.endpoints) own.0 ∙ here;
        near = λ on. ap (λ (k : ℕ). may_meet (left d e x) k z) own.0 ∙ waiting_met (left d e x) e z (one_of_end e d.waiting);
      })
      (λ (other : slice_get d.endpoints y.endpoint ≡ Some z). record { one = z; here = other; near = near_more d e y.endpoint x z })
      (set_which d.endpoints e y.endpoint x (record x { linked = false }) z here at);
})

pub advanced_owed : (d : DriverContent) → OnlyAsynchronous d → AreOwedMet d → AreOwedMet (advance d)
advanced_owed d r old = advanced_or_left AreOwedMet d d.command r.command old old old (λ e x leaves here. left_owed d e x here old)

-- ---- a transfer is given back

release_owed : (p : Parts) (t : ℕ) (o : Option Transfer) (h : Holding) → slice_get p.driver.transfers t ≡ o → AreOwedMet p.driver → AreOwedMet (after_transfer p t o h).driver
release_owed p t None h there old = old
release_owed p t (Some y) h there old =
    let d = p.driver in
    let f = (after_transfer p t (Some y) h).driver in
    owed_on d f
    (record {
      listed = λ i u at. listed_as d.harvested (suc i) u (drop_one d.harvested i u at);
      turns = λ u z l at. ⊎_elim
          (λ (own : (u ≡ t) × (z ≡ record y { released = true })). record { one = y; here = ap (slice_get d.transfers) own.0 ∙ there; endpoint = ap (λ (r : Transfer). r.endpoint) own.1 })
          (λ (other : slice_get d.transfers u ≡ Some z). was_of d u z other)
          (set_which d.transfers t u y (record y { released = true }) z there at);
      nears = λ u z x at here. was_near d f z.endpoint x here refl;
    })
    old

-- ---- a harvest

harvest_owed : (p : Parts) (e t : ℕ) (found : Found) → IsHarvestDue p e t found → OnlyAsynchronous p.driver → AreOwedMet p.driver → AreOwedMet (after_driver_row (rows.Harvest e t found) p).driver
harvest_owed p e t found due only old i u z w at there here =
    let d = p.driver in
    let f = (after_driver_row (rows.Harvest e t found) p).driver in
    let r = read_row p e t found due only in
    let was = r.keeps.transfers u z there in
    let one = r.keeps.ends z.endpoint w here in
    let near : may_meet f z.endpoint w ≡ may_meet d z.endpoint one.one = met_alike d f z.endpoint one.one w one.kept.linked r.keeps.waiting r.keeps.rung in
    near
    ∙ ⊎_elim
    (λ (l : IsInList d.harvested u).
    ap (λ (k : ℕ). may_meet d k one.one) was.endpoint ∙ old l.at u was.one one.one l.here was.here (ap (slice_get d.endpoints) (sym was.endpoint) ∙ one.here))
    (λ (new : IsTransferOf d e u).
    let is : was.one ≡ new.one = same_Some was.one new.one (sym was.here ∙ new.here) in
    let of_e : z.endpoint ≡ e = was.endpoint ∙ ap (λ (k : Transfer). k.endpoint) is ∙ new.endpoint in
    let same : one.one ≡ due.endpoint = same_Some one.one due.endpoint (sym one.here ∙ ap (slice_get d.endpoints) of_e ∙ due.here) in
    linked_met d z.endpoint one.one (ap (λ (k : Endpoint). k.linked) same ∙ stands_linked due.endpoint (only.endpoints e due.endpoint due.here) due.goes_on))
    (r.leaves.listed i u at)

-- ---- any event

due_owed : (row : DriverRow) (p : Parts) → IsDue p row → IsAsynchronousRow row → (row ≡ rows.ClearAdvance → IsClearing p.driver) → OnlyAsynchronous p.driver → AreOwedMet p.driver → AreOwedMet (after_driver_row row p).driver
due_owed rows.Lend p due is clears only old =
    let d = record p.driver { book = (lend_taken (holding p.driver.book p.memory)).book } in
    advanced_or_left AreOwedMet d d.command only.command old old old (λ e x leaves here. left_owed d e x here old)
due_owed (rows.Store b at v) p due is clears only old = advanced_owed p.driver only old
due_owed (rows.Mend w) p due is clears only old = owed_on p.driver (after_driver_row (rows.Mend w) p).driver (record {
  listed = λ i t at. listed_as p.driver.harvested i t at;
  turns = λ t y l there. was_of p.driver t y there;
  nears = λ t y z there here. was_near p.driver (after_driver_row (rows.Mend w) p).driver y.endpoint z here refl;
}) old
due_owed (rows.ReleaseTransfer t) p due is clears only old =
    release_owed p t (slice_get p.driver.transfers t) (freed_by p.driver (holding p.driver.book p.memory) (slice_get p.driver.transfers t)) refl old
due_owed (rows.ReleaseEndpoint e) p due is clears only old =
    owed_none (after_driver_row (rows.ReleaseEndpoint e) p).driver (let_go_harvested p e (slice_get p.driver.endpoints e) ∙ none_first p.driver.harvested due.none_before)
due_owed rows.ClearAdvance p due is clears only old = owed_none (after_driver_row rows.ClearAdvance p).driver (clears refl).none_harvested
due_owed rows.RingBell p due is clears only old = let b = bell_is_as_before p due.0 in owed_before p.driver (after_driver_row rows.RingBell p).driver b.0 b.1 old
due_owed (rows.ReadStatus heard) p due is clears only old =
    let b = status_is_as_before p heard due.0 in owed_before p.driver (after_driver_row (rows.ReadStatus heard) p).driver b.0 b.1 old
due_owed (rows.ReadFrame n) p due is clears only old =
    let b = frame_is_as_before p n due.0 in owed_before p.driver (after_driver_row (rows.ReadFrame n) p).driver b.0 b.1 old
due_owed (rows.Harvest e t found) p due is clears only old = harvest_owed p e t found due only old
due_owed rows.Rest p due is clears only old = old
due_owed _ p due is clears only old = absurd is

pub events_owe_met : (p : Parts) → AsynchronousTakesTurns p.driver → AreOwedMet p.driver
    → AreOwedMet (after_driver_row (driver_row p) p).driver
events_owe_met p turns old =
    let due = each_event_is_due p in
    due_owed (driver_row p) p due (asynchronous_row p (driver_row p) turns.asynchronous due) (λ is. clear_finds p is) turns.asynchronous old

-- ---- an accepted command

push_which : {X : Type 0} (xs : List X) (x : X) (n : ℕ) (z : X) → slice_get (xs ++ x ∷ []) n ≡ Some z → (slice_get xs n ≡ Some z) ⊎ (n ≡ length xs)
push_which [] x zero z here = inr refl
push_which [] x (suc n) z here = absurd (cc)
push_which (y ∷ ys) x zero z here = inl here
push_which (y ∷ ys) x (suc n) z here = ⊎_elim (λ (was : slice_get ys n ≡ Some z). inl was) (λ (new : n ≡ length ys). inr (ap suc new)) (push_which ys x n z here)

-- what is to be given back is there
listed_there : (d : DriverContent) (t : ℕ) → IsOrderly d → IsInList d.harvested t → t < length d.transfers
listed_there d t order l =
    let o = owed d.transfers t (slice_get d.transfers t) refl (omega (arith, times_of d.harvested l.at t l.here, order.harvests t)) in
    some_below d.transfers t o.transfer o.there

open_owed : (d : DriverContent) (m : Mem) (o : Offered) → IsOrderly d → Opens d m o → AreOwedMet d → AreOwedMet o.driver
open_owed d m o order why old = subst (λ (g : Offered). AreOwedMet g.driver) (sym why.is) (now _ _)
  where
    now : (queue dummy : ℕ) → AreOwedMet (accepted_open d why.desc why.holding_after queue dummy).driver
    now queue dummy =
        let f = (accepted_open d why.desc why.holding_after queue dummy).driver in
        owed_on d f
        (record {
          listed = λ i t at. listed_as d.harvested i t at;
          turns = λ t y l there. was_of d t y there;
          nears = λ t y z there here. ⊎_elim (λ (was : slice_get d.endpoints y.endpoint ≡ Some z). was_near d f y.endpoint z was refl)
              (λ (new : y.endpoint ≡ length d.endpoints). let w = order.within t y there in absurd (omega (arith, w, new)))
              (push_which d.endpoints (new_endpoint why.desc queue dummy) y.endpoint z here);
        })
        old

asked_owed : (d : DriverContent) (m : Mem) (o : Offered) → IsOrderly d → Transfers d m o → AreOwedMet d → AreOwedMet o.driver
asked_owed d m o order why old = subst (λ (g : Offered). AreOwedMet g.driver) (sym why.is) (now _ notes)
  where
    e : ℕ
    e = why.number

    x : Endpoint
    x = why.endpoint

    notes : List QtdNote
    notes =
        let w = why in
        let n = length w.asked.stages in
        note_stages d.notes w.asked.stages w.endpoint.dummy (take n (new_runs d w.holding_after)) (drop n (new_runs d w.holding_after))

    now : (dummy : ℕ) (notes : List QtdNote) → AreOwedMet (accepted_transfer d why.number why.endpoint why.asked why.holding_after dummy notes).driver
    now dummy notes =
        let f = (accepted_transfer d e x why.asked why.holding_after dummy notes).driver in
        let b = with_queued x dummy (length d.transfers) in
        owed_on d f
        (record {
          listed = λ i t at. listed_as d.harvested i t at;
          turns = λ t y l there. ⊎_elim (λ (was : slice_get d.transfers t ≡ Some y). was_of d t y was)
              (λ (new : t ≡ length d.transfers). let w = listed_there d t order l in absurd (omega (arith, w, new)))
              (push_which d.transfers (new_transfer e why.asked x.dummy) t y there);
          nears = λ t y z there here. ⊎_elim
              (λ (own : (y.endpoint ≡ e) × (z ≡ b)).
              record { one = x; here = ap (slice_get d.endpoints) own.0 ∙ why.here; near = λ on. ap (may_meet f y.endpoint) own.1 ∙ on })
              (λ (other : slice_get d.endpoints y.endpoint ≡ Some z). was_near d f y.endpoint z other refl)
              (set_which d.endpoints e y.endpoint x b z why.here here);
        })
        old

owed_as : (d : DriverContent) (m : Mem) (o : Offered) (cmd : Cmd) → IsOrderly d → AcceptsAsynchronous d m o cmd → AsynchronousTakesTurns d → AreOwedMet d → AreOwedMet o.driver
owed_as d m o (commands.OpenEp x) order why turns old = open_owed d m o order why.opens old
owed_as d m o (commands.Get name len by) order why turns old = asked_owed d m o order why.transfers old
owed_as d m o (commands.Put name bytes by) order why turns old = asked_owed d m o order why.transfers old
owed_as d m o (commands.Control name setup bytes) order why turns old = asked_owed d m o order why.transfers old
owed_as d m o (commands.Cancel name) order why turns old = let b = cancel_is_as_before d m o turns why in owed_before d o.driver b.0 b.1 old
owed_as d m o _ order why turns old = absurd why

pub commands_owe_met : (d : DriverContent) (m : Mem) (cmd : Cmd) (o : Offered) → HasOwners d → AsynchronousTakesTurns d → OpensAsynchronous cmd → offered d m cmd ≡ Ok o → AreOwedMet d → AreOwedMet o.driver
commands_owe_met d m cmd o owners turns only is old = owed_as d m o cmd owners.orderly (asynchronous_command_is_accepted d m cmd o turns.asynchronous only is) turns old

pub new_driver_owes_met : (n : ℕ) (room : Reserve) → AreOwedMet (opening n room).driver
new_driver_owes_met n room = owed_none (opening n room).driver refl
