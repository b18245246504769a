-- At a STALL the front goes on to the end of the queue; the fronts of other endpoints stay.
use Rattle.std.proofs.Common.{◌≡◌, ◌≢◌, ℕ, suc, ◌+◌, ◌-◌, ◌*◌, ◌<◌, ◌≤◌, Bool, true, false, ◌||◌, List, ◌∷◌, ◌++◌, length, slice_get, Option, Some, None, option_map, ap, sym, subst, ◌∙◌, ⊎_elim, inr, arith}
use Rattle.std.specs.Prelude.{◌⊎◌, nat_eq}
use Rattle.std.proofs.lemmas.Bool.{cases_eq, true≢false}
use Rattle.std.proofs.lemmas.Option.{same_Some}
use Rattle.law_driver_ring.proofs.Common.{lent_slot}
use Rattle.law_queues.proofs.Common.{after_is, piece_more}
use Rattle.law_driver.proofs.Common.{piece_next}
use Rattle.link_words.specs.declared.kinds.QtdLink.TheVariants as qtd_links
use Rattle.link_words.specs.Links.{qtd_link_of}
use Rattle.qh_qtd.specs.declared.qtd.Qtd.{Qtd}
use Rattle.qh_qtd.specs.declared.queue_head.Qh.{Qh}
use Rattle.mem_runs.specs.Book.{slot_of}
use Rattle.drv_table.specs.declared.content.Endpoint.{Endpoint}
use Rattle.drv_table.specs.declared.content.Transfer.{Transfer}
use Rattle.drv_table.specs.declared.content.Command.{Command}
use Rattle.drv_table.specs.declared.content.Command.TheVariants as unfinished
use Rattle.drv_table.specs.declared.rows.Found.{Found}
use Rattle.drv_table.specs.DriverContent.{DriverContent, waits_for}
use Rattle.drv_table.specs.Words.{dummy_qtd}
use Rattle.drv_table.specs.Harvests.{note_at}
use Rattle.drv_table.specs.Parts.{Parts}
use Rattle.drv_table.specs.Harvesting.{after_harvest}
use Rattle.law_driver.specs.run_owners.Due.{IsHarvestDue}
use Rattle.claims_driver.specs.Leaving.{HasOwners}
use Rattle.claims_driver.specs.Owners.{Dummy, NoteRuns, runs_of_endpoint, note_in}
use Rattle.law_driver.proofs.lemmas.run_owners.Runs.{placed_run}
use Rattle.law_driver.proofs.lemmas.endpoint_lives.Lives.{met_alike}
use Rattle.claims_driver.specs.LentRuns.{AreLent}
use Rattle.law_driver.proofs.lemmas.lent_runs.Laws.{all_are_lent_between_commands}
use Rattle.law_structures.specs.lent_structures.Structures.{QueueHead, Element, Structures, StructureSets}
use Rattle.law_structures.specs.lent_structures.Sound.{IsElement, LeadsOn, IsSoundQueue}
use Rattle.law_structures.proofs.lemmas.lent_structures.Altering.{found_element, found_queue}
use Rattle.law_frames.specs.Met.{IsQueuePart}
use Rattle.law_frames.proofs.Queues.{a_members_part_is_linked}
use Rattle.law_driver_ring.specs.Inventory.{IsLent}
use Rattle.law_ring.specs.Told.{Endpoint as Told}
use Rattle.law_ring.specs.Order.{IsAmong}
use Rattle.law_ring.specs.Front.{HasFront, IsPassed}
use Rattle.law_driver.specs.chained_transfers.AsynchronousTurns.{AsynchronousTakesTurns}
use Rattle.law_driver.specs.chained_transfers.Chains.{piece_at}
use Rattle.law_driver.specs.chained_transfers.Turns.{IsAtPlace}
use Rattle.law_driver.specs.chained_transfers.Out.{passed, out_now}
use Rattle.law_driver.proofs.lemmas.chained_transfers.BulkAndControl.{not_iso}
use Rattle.law_driver.proofs.lemmas.chained_transfers.Chained.{piece_same}
use Rattle.law_driver_ring.specs.fed_queues.Fed.{IsPieceFed, unpublished_of, sized}
use Rattle.law_driver_ring.specs.fed_queues.Places.{IsThere, IsMet, IsLast, AreStillOut}
use Rattle.law_queues.specs.mended_heads.Stalling.{IsStall, HaltsQueue}
use Rattle.law_queues.specs.fed_lends.Commands.{QueuesStand}
use Rattle.law_queues.proofs.lemmas.fed_harvests.Told.{IsOf, WasIn, was_in, in_both}
use Rattle.law_queues.proofs.lemmas.fed_harvests.Harvests.{remains}
use Rattle.law_queues.proofs.lemmas.fed_harvests.Stalls.{Tells, tells, in_turn, each_told, same_out, is_stalled}
use Rattle.law_queues.specs.released_queues.Fronts.{piece_address, end_at, StandsAt, FrontsStand}
use Rattle.law_queues.proofs.lemmas.released_queues.Queues.{none_yet}
use Rattle.law_queues.proofs.lemmas.released_queues.Outs.{out_is}
use Rattle.law_queues.proofs.lemmas.standing_fronts.Lists.{in_out}
use Rattle.law_queues.specs.stalled_fronts.Stalled.{StallMovesFronts, StallKeepsFronts}

-- ---- a transfer that may be reported now

record IsSame (one z : Transfer) : Type 0 where
  endpoint : z.endpoint ≡ one.endpoint
  first : z.first ≡ one.first
  qtds : z.qtds ≡ one.qtds
  left : z.left ≡ one.left
  released : z.released ≡ one.released

is_same : (e : ℕ) (one z : Transfer) → (z ≡ one) ⊎ ((waits_for e one ≡ true) × (z ≡ record one { reported = true })) → IsSame one z
is_same e one z is = ⊎_elim
    (λ (same : z ≡ one).
    record {
      endpoint = ap (λ (r : Transfer). r.endpoint) same;
      first = ap (λ (r : Transfer). r.first) same;
      qtds = ap (λ (r : Transfer). r.qtds) same;
      left = ap (λ (r : Transfer). r.left) same;
      released = ap (λ (r : Transfer). r.released) same;
    })
    (λ (now : (waits_for e one ≡ true) × (z ≡ record one { reported = true })).
    record {
      endpoint = ap (λ (r : Transfer). r.endpoint) now.1;
      first = ap (λ (r : Transfer). r.first) now.1;
      qtds = ap (λ (r : Transfer). r.qtds) now.1;
      left = ap (λ (r : Transfer). r.left) now.1;
      released = ap (λ (r : Transfer). r.released) now.1;
    })
    is

fewer_out : (a h : ℕ) (before behind later was now : List ℕ) → was ≡ before ++ h ∷ behind → now ≡ before ++ later → ((p : ℕ) → IsAmong p later → IsAmong p behind) → IsAmong a now → IsAmong a was
fewer_out a h before behind later was now is is_now fewer among =
    subst (IsAmong a) (sym is) (in_both a before later before (h ∷ behind) (λ own. own) (λ more. inr (fewer a more)) (subst (IsAmong a) is_now among))

module _ (p : Parts) (e t : ℕ) (found : Found) (due : IsHarvestDue p e t found) (owners : HasOwners p.driver) (turns : AsynchronousTakesTurns p.driver) (member streams : ℕ → Bool) (ends : ℕ → Told) (parts : StructureSets) (order : ℕ → ℕ → ℕ) (out : ℕ → List ℕ) (old : QueuesStand p.driver member streams ends parts order out)
    (later : ℕ → List ℕ) (stall : IsStall due.endpoint.desc.kind found) (lent : AreLent p.driver) (still : AreStillOut (after_harvest p.driver p.memory e t found (Some due.endpoint) (Some due.transfer)) later)
    (on : IsQueuePart (32 * due.endpoint.queue) (parts (32 * due.endpoint.queue))) (halts : HaltsQueue (later (32 * due.endpoint.queue)) parts (32 * due.endpoint.queue)) (fronts : FrontsStand p.driver parts order out) where
  abbrev d : DriverContent
  d = p.driver

  abbrev x : Endpoint
  x = due.endpoint

  abbrev f : DriverContent
  f = after_harvest d p.memory e t found (Some x) (Some due.transfer)

  abbrev n : ℕ
  n = 32 * due.endpoint.queue

  abbrev c : ℕ
  c = 32 * due.endpoint.dummy

  abbrev part : Structures
  part = parts (32 * due.endpoint.queue)

  abbrev o : ℕ → ℕ
  o = order (32 * due.endpoint.queue)

  abbrev note : ℕ → NoteRuns
  note = note_in p.driver.notes

  k : Tells p e t found due owners turns member streams ends parts order out old f
  k = tells p e t found due owners turns member streams ends parts order out old stall

  kept : x.gone ≡ false
  kept = remains p e t found due owners turns member streams ends parts order out old

  no_open : (q : ℕ) → d.command ≡ Some (unfinished.Open q) → ⊥
  no_open q is = let none : ◌≡◌ {A = Option Command} None (Some (unfinished.Open q)) = sym due.idle ∙ is in cc

  there_was : (z : Endpoint) → z.gone ≡ false → IsThere d z
  there_was z alive = record { linked = no_open z.queue; kept = alive }

  -- ---- the qTD at the end

  dummy_lent : IsLent (slot_of d.book.slots x.dummy)
  dummy_lent =
      lent_slot (slot_of d.book.slots x.dummy)
      (all_are_lent_between_commands d x.dummy due.idle lent
      (placed_run x.dummy (Dummy e) (owners.owned.each.dummy e (runs_of_endpoint x) (ap (option_map runs_of_endpoint) due.here) (ap (λ (b : Bool). b || x.gone) (not_iso x.desc (turns.asynchronous.endpoints e x due.here).asynchronous) ∙ kept))))

  there : part c ≡ Some (Element dummy_qtd)
  there = old.fed.dummies e x due.here kept dummy_lent

  is_last : IsLast o part c
  is_last = old.last.dummies e x due.here kept dummy_lent

  most : (b : ℕ) → IsElement part b → o b ≤ o c
  most b i =
      ⊎_elim (λ (same : b ≡ c). let s = ap o same in omega (arith, s)) (λ (differs : b ≢ c). let less = is_last b i.qtd i.here differs in omega (arith, less)) (cases_eq b c)

  below : (a : ℕ) (q : Qtd) → part a ≡ Some (Element q) → q.token.active ≡ true → o a < o c
  below a q at active =
      is_last a q at (λ same. true≢false (sym active ∙ ap (λ (r : Qtd). r.token.active) (found_element (part a) q dummy_qtd at (ap part same ∙ there))))

  -- ---- its transfers

  piece : (u i : ℕ) (z : Transfer) → slice_get d.transfers u ≡ Some z → z.released ≡ false → z.endpoint ≡ e → i < z.qtds → IsPieceFed z.sort part (sized z.sort i (note_at d.notes (piece_at note z.first i))) (piece_at note z.first i) (piece_at note z.first z.qtds)
  piece u i z at held same less =
      let none : unpublished_of d u z ≡ 0 = none_yet d.command d.made z.qtds (nat_eq (suc u) (length d.transfers)) due.idle in
      old.fed.pieces u i z x at held (ap (slice_get d.endpoints) same ∙ due.here) (omega (arith, none)) less

  end_there : (u : ℕ) (z : Transfer) → slice_get d.transfers u ≡ Some z → z.released ≡ false → z.endpoint ≡ e → IsElement part (end_at d z)
  end_there u z at held same =
      let place : IsAtPlace note z = turns.turns.places u z at held in
      let some = place.some in
      let more = place.most in
      let i : ℕ = z.qtds - 1 in
      let g = piece u i z at held same (omega (arith, some, more)) in
      let next : qtd_link_of g.qtd.next ≡ qtd_links.To (piece_address d z (suc i)) = ap qtd_link_of g.noted.next ∙ ap (λ (b : ℕ). qtd_links.To (32 * b)) (sym (piece_next note z.first i)) in
      let all : suc i ≡ z.qtds = omega (arith, some, more) in
      subst (λ (j : ℕ). IsElement part (piece_address d z j)) all (subst (LeadsOn part) next (on.elements (piece_address d z i) g.qtd g.here).next)

  address : (u j : ℕ) (z : Transfer) (w : WasIn e d.transfers u z) → piece_address f z j ≡ piece_address d w.one j
  address u j z w =
      ap (λ (b : ℕ). 32 * b) (piece_same note (note_in f.notes) z.first j k.like_d.notes) ∙ ap (λ (b : ℕ). 32 * piece_at note b j) (is_same e w.one z w.is).first

  -- each of its qTDs that no harvest read is out
  is_out : (u j : ℕ) (z : Transfer) → slice_get f.transfers u ≡ Some z → z.released ≡ false → z.endpoint ≡ e → z.qtds - z.left < j → j < z.qtds → IsAmong (piece_address f z j) (out_now f e)
  is_out u j z at held same from less =
      let place : IsAtPlace (note_in f.notes) z = (in_turn p e t found due owners turns member streams ends parts order out old).places u z at held in
      let few = place.most in
      let i : ℕ = z.qtds - z.left in
      let number : ℕ = j - i in
      let sum : i + number ≡ j = omega (arith, from) in
      let told : passed z.reported ≡ 1 = ap passed (each_told p e t found due owners turns member streams ends parts order out old k u z at same) in
      subst (IsAmong (piece_address f z j)) (sym (out_is f e k.like_d.idle_now))
      (in_out (note_in f.notes) e f.transfers u (piece_address f z j) z at
      (record {
        endpoint = same;
        held = held;
        dropped = record {
          number = number;
          from = omega (arith, told, from);
          below = omega (arith, less, from, few);
          at = sym (ap (λ (b : ℕ). 32 * piece_at (note_in f.notes) b number) place.place ∙ ap (λ (b : ℕ). 32 * b) (piece_more (note_in f.notes) z.first i number ∙ ap (piece_at (note_in f.notes) z.first) sum));
        };
      }))

  module _ (z : Endpoint) (at_z : slice_get f.endpoints e ≡ Some z) (meets : IsMet f e z) where
    own_queue : z.queue ≡ x.queue
    own_queue =
        let w = k.like_d.ends e z at_z in
        w.queue ∙ ap (λ (r : Endpoint). r.queue) (same_Some w.endpoint x (sym w.there ∙ due.here))

    later_is : later n ≡ out_now f e
    later_is = ap (λ (q : ℕ). later (32 * q)) (sym own_queue) ∙ still e z at_z meets.there

    was_out : (a : ℕ) → IsAmong a (later n) → IsAmong a (out n)
    was_out a among =
        let s = is_stalled p e t found due owners turns member streams ends parts order out old k in
        subst (IsAmong a) (sym (old.out_are e x due.here (there_was x kept)))
        (fewer_out a (32 * due.transfer.place) s.before s.behind s.later (out_now d e) (out_now f e) s.was s.now s.fewer (subst (IsAmong a) later_is among))

    own_met : IsMet d e x
    own_met =
        let w = k.like_d.ends e z at_z in
        let same : w.endpoint ≡ x = same_Some w.endpoint x (sym w.there ∙ due.here) in
        record { there = there_was x kept; near = sym (met_alike d f e x z (w.linked ∙ ap (λ (r : Endpoint). r.linked) same) k.like_d.waiting k.like_d.rung) ∙ meets.near }

    -- the halted queue head works on none
    rests : (q : Qh) → part n ≡ Some (QueueHead q) → (q.token.active ≡ true → ⊥) × (q.token.halted ≡ false → ⊥)
    rests q at =
        let same : halts.queue ≡ q = found_queue (part n) halts.queue q halts.here at in
        let halted : q.token.halted ≡ true = ap (λ (r : Qh). r.token.halted) (sym same) ∙ halts.halted in
        let sound : IsSoundQueue part q = subst (IsSoundQueue part) (found_queue (part n) on.queue q on.here at) on.sound in
        (λ active. true≢false (sym halted ∙ (sound.work active).goes_on), λ off. true≢false (sym halted ∙ off))

    has : HasFront o (o c) (later n) n part
    has = record {
      queue = λ q at. let r = rests q at in record { work = λ active. absurd (r.0 active); rest = λ b off. absurd (r.1 off) };
      behind = λ a q among at off. absurd (true≢false (sym (halts.published a q among at) ∙ off));
      fresh = λ a q among at active. (fronts e x due.here own_met).has.fresh a q (was_out a among) at active;
      passes = λ a b i q r among also at at_i over. halts.published i r also at_i;
    }

    passed_over : (u j : ℕ) (y : Transfer) → slice_get f.transfers u ≡ Some y → y.released ≡ false → y.endpoint ≡ e → y.qtds - y.left < j → j < y.qtds → IsPassed o (o c) part (piece_address f y j)
    passed_over u j y at held same from less =
        let w = was_in e d.transfers f.transfers u y k.transfers at in
        let s = is_same e w.one y w.is in
        let many = s.qtds in
        let g = piece u j w.one w.here (sym s.released ∙ held) (sym s.endpoint ∙ same) (omega (arith, less, many)) in
        let here : part (piece_address f y j) ≡ Some (Element g.qtd) = ap part (address u j y w) ∙ g.here in
        let active = halts.published (piece_address f y j) g.qtd (subst (IsAmong (piece_address f y j)) (sym later_is) (is_out u j y at held same from less)) here in
        record { qtd = g.qtd; here = here; published = active; before = below (piece_address f y j) g.qtd here active }

    ended : (u : ℕ) (y : Transfer) → slice_get f.transfers u ≡ Some y → y.released ≡ false → y.endpoint ≡ e → o (end_at f y) ≤ o c
    ended u y at held same =
        let w = was_in e d.transfers f.transfers u y k.transfers at in
        let s = is_same e w.one y w.is in
        let is : end_at f y ≡ end_at d w.one = address u y.qtds y w ∙ ap (piece_address d w.one) s.qtds in
        subst (λ (a : ℕ). o a ≤ o c) (sym is) (most (end_at d w.one) (end_there u w.one w.here (sym s.released ∙ held) (sym s.endpoint ∙ same)))

    own_stands : StandsAt f (parts (32 * z.queue)) (order (32 * z.queue)) (later (32 * z.queue)) e z
    own_stands =
        subst (λ (q : ℕ). StandsAt f (parts (32 * q)) (order (32 * q)) (later (32 * q)) e (record z { queue = q })) (sym own_queue)
        (record {
          front = o c;
          has = has;
          ended = λ h u y listed at held same. ended u y at held same;
          passed = λ h u j y listed at held same from less. passed_over u j y at held same from less;
        })

  -- ---- another endpoint

  module _ (i : ℕ) (z : Endpoint) (at_z : slice_get f.endpoints i ≡ Some z) (meets : IsMet f i z) (differs : i ≢ e) where
    b : Endpoint
    b = (k.like_d.ends i z at_z).endpoint

    there_b : slice_get d.endpoints i ≡ Some b
    unfolding b
    there_b = (k.like_d.ends i z at_z).there

    queue_b : z.queue ≡ b.queue
    unfolding b
    queue_b = (k.like_d.ends i z at_z).queue

    kept_b : b.gone ≡ false
    unfolding b
    kept_b = sym (k.like_d.ends i z at_z).gone ∙ meets.there.kept

    met_b : IsMet d i b
    unfolding b
    met_b = record { there = there_was b kept_b; near = sym (met_alike d f i b z (k.like_d.ends i z at_z).linked k.like_d.waiting k.like_d.rung) ∙ meets.near }

    same_later : later (32 * b.queue) ≡ out (32 * b.queue)
    same_later =
        ap (λ (q : ℕ). later (32 * q)) (sym queue_b) ∙ still i z at_z meets.there ∙ same_out p e t found due owners turns member streams ends parts order out old k i differs
        ∙ sym (old.out_are i b there_b (there_was b kept_b))

    listed_was : (h u : ℕ) (y : Transfer) → slice_get f.harvested h ≡ Some u → slice_get f.transfers u ≡ Some y → y.endpoint ≡ i → slice_get d.harvested h ≡ Some u
    listed_was h u y listed at same = ⊎_elim (λ (was : slice_get d.harvested h ≡ Some u). was)
        (λ (new : IsOf e d.transfers u).
        let w = was_in e d.transfers f.transfers u y k.transfers at in
        let one : w.one ≡ new.one = same_Some w.one new.one (sym w.here ∙ new.here) in
        absurd (differs (sym same ∙ (is_same e w.one y w.is).endpoint ∙ ap (λ (r : Transfer). r.endpoint) one ∙ new.of_e)))
        (k.harvested h u listed)

    g : StandsAt d (parts (32 * b.queue)) (order (32 * b.queue)) (out (32 * b.queue)) i b
    g = fronts i b there_b met_b

    other_stands : StandsAt f (parts (32 * z.queue)) (order (32 * z.queue)) (later (32 * z.queue)) i z
    other_stands =
        subst (λ (q : ℕ). StandsAt f (parts (32 * q)) (order (32 * q)) (later (32 * q)) i (record z { queue = q })) (sym queue_b)
        (record {
          front = g.front;
          has = subst (λ (xs : List ℕ). HasFront (order (32 * b.queue)) g.front xs (32 * b.queue) (parts (32 * b.queue))) (sym same_later) g.has;
          ended = λ h u y listed at held same.
              let w = was_in e d.transfers f.transfers u y k.transfers at in
              let s = is_same e w.one y w.is in
              subst (λ (a : ℕ). order (32 * b.queue) a ≤ g.front) (sym (address u y.qtds y w ∙ ap (piece_address d w.one) s.qtds))
              (g.ended h u w.one (listed_was h u y listed at same) w.here (sym s.released ∙ held) (sym s.endpoint ∙ same));
          passed = λ h u j y listed at held same from less.
              let w = was_in e d.transfers f.transfers u y k.transfers at in
              let s = is_same e w.one y w.is in
              let many = s.qtds in
              let few = s.left in
              subst (IsPassed (order (32 * b.queue)) g.front (parts (32 * b.queue))) (sym (address u j y w))
              (g.passed h u j w.one (listed_was h u y listed at same) w.here (sym s.released ∙ held) (sym s.endpoint ∙ same) (omega (arith, from, many, few)) (omega (arith, less, many)));
        })

  pub fronts_then : FrontsStand f parts order later
  fronts_then i z at_z meets =
      ⊎_elim
      (λ (own : i ≡ e).
      subst (λ (j : ℕ). StandsAt f (parts (32 * z.queue)) (order (32 * z.queue)) (later (32 * z.queue)) j z) (sym own)
      (own_stands z (ap (slice_get f.endpoints) (sym own) ∙ at_z) (subst (λ (j : ℕ). IsMet f j z) own meets)))
      (λ (other : i ≢ e). other_stands i z at_z meets other) (cases_eq i e)

pub stall_moves_fronts : StallMovesFronts
stall_moves_fronts p e t found member streams ends parts order out later due stall owners lent turns old still on halts fronts =
    subst (λ (f : DriverContent). FrontsStand f parts order later) (sym (after_is p e t found due))
    (fronts_then p e t found due owners turns member streams ends parts order out old later stall lent (subst (λ (f : DriverContent). AreStillOut f later) (after_is p e t found due) still) on halts fronts)

pub stall_keeps_fronts : StallKeepsFronts
stall_keeps_fronts p e t found member streams ends parts order out later due stall owners lent turns old still on halts fronts =
    let n = 32 * due.endpoint.queue in
    stall_moves_fronts p e t found member streams ends parts order out later due stall owners lent turns old still (a_members_part_is_linked member n (parts n) on).part_is halts fronts
