-- What is to be given back, and what is next, stays counted where a token or a descriptor is read.
use Rattle.std.proofs.Common.{◌≡◌, ◌≢◌, ℕ, suc, ◌+◌, ◌<◌, ◌≤◌, true, ◌||◌, List, [], ◌∷◌, ◌++◌, set, slice_get, Option, Some, None, option_map, ap, sym, subst, ◌∙◌, refl, arith}
use Rattle.std.specs.Prelude.{position}
use Rattle.std.proofs.lemmas.Option.{same_Some}
use Rattle.law_resting.proofs.Common.{drop_set}
use Rattle.law_common.proofs.Lists.{set_here, set_there}
use Rattle.usb_base.specs.declared.endpoints.EndCause.{EndCause}
use Rattle.drv_periodic_table.specs.Periodic.{is_periodic}
use Rattle.drv_table.specs.declared.content.Endpoint.{Endpoint}
use Rattle.drv_table.specs.declared.content.Transfer.{Transfer}
use Rattle.drv_table.specs.DriverContent.{waits_for, next_after}
use Rattle.claims_driver.specs.Leaving.{owes, leaves_ring, leaves_frames, Returns}
use Rattle.law_driver.specs.chained_transfers.Turns.{Turn, turn_of, turn_in, AreReportedTo}
use Rattle.law_driver.proofs.lemmas.run_owners.Orders.{times_push, one_same, set_case, same_count}
use Rattle.law_driver.proofs.lemmas.chained_transfers.Harvesting.{turn_at, next_waits}
use Rattle.law_resting.specs.Counted.{IsFirstUntold, IsNextIn, counted, AreCounted}
use Rattle.law_resting.proofs.Counting.{next_beside, same_ring, same_frames, AreMoved, harvested_moved, unlinks_moved}
use Rattle.law_resting.proofs.Gone.{owes_most}

-- ---- the next one behind a transfer

told_turns : (ts : List Transfer) (e : ℕ) (o : Option ℕ) → AreReportedTo (turn_in ts) e o → IsNextIn ts e o
told_turns ts e None told = λ u z there at. told u (turn_of z) (ap (option_map turn_of) there) at
told_turns ts e (Some t) told =
    let y = turn_at ts t told.transfer told.here in
    record {
      transfer = y.0;
      here = y.1;
      endpoint = sym (ap (λ (v : Turn). v.endpoint) y.2) ∙ told.endpoint;
      untold = sym (ap (λ (v : Turn). v.reported) y.2) ∙ told.waits;
      before = λ u z less there at. told.before u (turn_of z) less (ap (option_map turn_of) there) at;
    }

-- where all up to this one have their lines
next_behind : (ts : List Transfer) (e t : ℕ)
    → ((u : ℕ) (z : Transfer) → u ≤ t → slice_get ts u ≡ Some z → z.endpoint ≡ e → z.reported ≡ true) → IsNextIn ts e (next_after ts e t)
next_behind ts e t earlier =
    told_turns ts e (next_after ts e t)
    (next_waits ts e t (λ u z low there at.
    let y = turn_at ts u z there in
    ap (λ (v : Turn). v.reported) y.2 ∙ earlier u y.0 low y.1 (sym (ap (λ (v : Turn). v.endpoint) y.2) ∙ at)))

pub after_told : (ts : List Transfer) (e t : ℕ) (y : Transfer) → next_after (set ts t y) e t ≡ next_after ts e t
after_told ts e t y = ap (λ (us : List Transfer). option_map (λ (i : ℕ). suc t + i) (position (waits_for e) us)) (drop_set ts t y)

-- ---- a line is made

module _ (ts : List Transfer) (e t : ℕ) (y : Transfer) (there : slice_get ts t ≡ Some y) (of_e : y.endpoint ≡ e) where
  abbrev told : List Transfer
  told = set ts t (record y { reported = true })

  -- all up to it have theirs
  pub told_to : ((u : ℕ) (z : Transfer) → u < t → slice_get ts u ≡ Some z → z.endpoint ≡ e → z.reported ≡ true)
      → (u : ℕ) (z : Transfer) → u ≤ t → slice_get (set ts t (record y { reported = true })) u ≡ Some z → z.endpoint ≡ e → z.reported ≡ true
  told_to before u z low at of =
      set_case (λ j (v : Transfer). j ≤ t → v.endpoint ≡ e → v.reported ≡ true) ts t u y (record y { reported = true }) z there at
      (λ low2 of2. refl)
      (λ differs was low2 of2. before u z (omega (arith, differs, low2)) was of2) low of

  pub told_others : (i : ℕ) (o : Option ℕ) → i ≢ e → IsNextIn ts i o → IsNextIn (set ts t (record y { reported = true })) i o
  told_others i o differs old = next_beside ts t y (record y { reported = true }) i o there refl (λ at. differs (sym at ∙ of_e)) old

-- before the first that has no line all have theirs
before_first : (ts : List Transfer) (e t : ℕ) → IsFirstUntold ts e t → (u : ℕ) (z : Transfer) → u < t → slice_get ts u ≡ Some z
    → z.endpoint ≡ e → z.reported ≡ true
before_first ts e t first = first.before

-- what the lists have once one more is to be given back
pub record AreMore (r s : Returns) (t : ℕ) : Type 0 where
  pub moved : AreMoved r s
  pub one : suc (counted r t) ≤ counted s t

pub harvested_more : (r : Returns) (t : ℕ) → AreMore r (record r { harvested = r.harvested ++ t ∷ [] }) t
harvested_more r t = record { moved = harvested_moved r t; one = omega (arith, times_push t t r.harvested, one_same t) }

pub unlinks_more : (r : Returns) (t : ℕ) → AreMore r (record r { unlinks = r.unlinks ++ t ∷ [] }) t
unlinks_more r t = record { moved = unlinks_moved r t; one = omega (arith, times_push t t r.unlinks, one_same t) }

module _ (r : Returns) (ts : List Transfer) (xs : List Endpoint) (l : Option ℕ) (e t : ℕ) (x : Endpoint) (y : Transfer)
    (here : slice_get xs e ≡ Some x) (there : slice_get ts t ≡ Some y)
    (of_e : y.endpoint ≡ e) (first : IsFirstUntold ts e t) (old : AreCounted r ts xs l) where
  abbrev now : List Transfer
  now = set ts t (record y { reported = true })

  -- of another endpoint nothing changes
  others : (o : Endpoint) → (i : ℕ) (z : Endpoint) → slice_get (set xs e o) i ≡ Some z → i ≢ e → slice_get xs i ≡ Some z
  others o i z at differs = sym (set_there xs e i o differs) ∙ at

  module _ (s : Returns) (o : Endpoint) (kind : is_periodic o.desc.kind ≡ is_periodic x.desc.kind) (linked : o.linked ≡ x.linked)
      (chained : o.chained ≡ x.chained) (gone : o.gone ≡ x.gone)
      (cancelled : o.cancelled ≡ x.cancelled) (moved : AreMoved r s) (counts_it : o.ended ≡ None → 1 ≤ counted s t)
      (goes : o.ended ≡ None → x.ended ≡ None)
      (next : o.ended ≡ None → IsNextIn (set ts t (record y { reported = true })) e o.next) where
    pub told_counted : AreCounted s (set ts t (record y { reported = true })) (set xs e o) l
    told_counted = record {
      harvests = λ i v z at place going.
          set_case (λ j (w : Transfer). slice_get (set xs e o) w.endpoint ≡ Some z → owes (Some w) ≤ counted s j) ts t i y
          (record y { reported = true }) v there at
          (λ place2.
          let is_o : z ≡ o = same_Some z o (sym place2 ∙ ap (slice_get (set xs e o)) of_e ∙ set_here xs e x o here) in
          omega (arith, owes_most (record y { reported = true }), counts_it (ap (λ (w : Endpoint). w.ended) (sym is_o) ∙ going)))
          (λ differs was place2.
          set_case (λ j w. j ≡ v.endpoint → w.ended ≡ None → owes (Some v) ≤ counted s i) xs e v.endpoint x o z here place2
          (λ same going2. omega (arith, moved.transfers i, old.harvests i v x was (ap (slice_get xs) (sym same) ∙ here) (goes going2)))
          (λ differs2 was2 same going2. omega (arith, moved.transfers i, old.harvests i v z was was2 going2)) refl going) place;
      leaving = λ i. let same = same_count leaves_ring xs e x o here (same_ring x o kind linked gone) i in omega
          (arith, same, moved.ring i, old.leaving i);
      removed = λ i. let same = same_count leaves_frames xs e x o here (same_frames x o kind chained gone) i in omega
          (arith, same, moved.frames i, old.removed i);
      cancelled = λ i z at over on.
          set_case (λ j w. w.cancelled ≡ true → (w.linked || w.chained) ≡ true → l ≡ Some j) xs e i x o z here at
          (λ over2 on2. old.cancelled e x here (sym cancelled ∙ over2)
          (sym (ap (λ b. b || o.chained) linked ∙ ap (λ b. x.linked || b) chained) ∙ on2))
          (λ differs was. old.cancelled i z was) over on;
      next = λ i z at going.
          set_case (λ j w. w.ended ≡ None → IsNextIn (set ts t (record y { reported = true })) j w.next) xs e i x o z here at
          next
          (λ differs was going2. told_others ts e t y there of_e i z.next differs (old.next i z was going2)) going;
    }

  -- the endpoint goes on with the transfer behind it
  pub goes_counted : (s : Returns) → AreMore r s t → (n : Option ℕ) → n ≡ next_after (set ts t (record y { reported = true })) e t
      → AreCounted s (set ts t (record y { reported = true })) (set xs e (record x { next = n })) l
  goes_counted s more n is =
      told_counted s (record x { next = n }) refl refl refl refl refl more.moved (λ going. omega (arith, more.one)) (λ going. going)
      (λ going. subst (IsNextIn (set ts t (record y { reported = true })) e) (sym is)
      (next_behind (set ts t (record y { reported = true })) e t (told_to ts e t y there of_e first.before)))

  -- the endpoint ends
  pub ends_counted : (cause : EndCause)
      → AreCounted r (set ts t (record y { reported = true })) (set xs e (record x { ended = Some cause })) l
  ends_counted cause =
      told_counted r (record x { ended = Some cause }) refl refl refl refl refl
      (record { transfers = λ i. omega arith; ring = λ i. omega arith; frames = λ i. omega arith })
      (λ going. absurd (some_none going)) (λ going. absurd (some_none going)) (λ going. absurd (some_none going))
    where
      some_none : ◌≡◌ {A = Option EndCause} (Some cause) None → ⊥
      some_none is = cc
