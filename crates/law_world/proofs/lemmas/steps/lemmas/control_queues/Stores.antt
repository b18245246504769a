-- A store of the first qTD of a transfer leaves what stands of control queues.
use Rattle.std.proofs.Common.{◌≡◌, ◌≢◌, ℕ, suc, ◌-◌, ◌*◌, ◌<◌, ◌≤◌, Bool, true, List, ◌∷◌, ◌++◌, Option, Some, None, ap, refl, sym, subst, ◌∙◌, ⊎_elim, inl, inr, ◌⊎◌, arith}
use Rattle.std.proofs.lemmas.Bool.{cases_eq, cases_lt}
use Rattle.link_words.specs.Links.{qtd_link_of}
use Rattle.qh_qtd.specs.declared.qtd.Qtd.{Qtd}
use Rattle.drv_table.specs.declared.content.Command.{Command}
use Rattle.drv_table.specs.declared.content.Command.TheVariants as unfinished
use Rattle.drv_table.specs.declared.content.Transfer.{Transfer}
use Rattle.drv_table.specs.DriverContent.{DriverContent}
use Rattle.drv_table.specs.Parts.{Parts as DriverParts}
use Rattle.claims_driver.specs.Owners.{NoteRuns, note_in}
use Rattle.law_driver.specs.chained_transfers.Out.{out_of, out_now}
use Rattle.law_structures.specs.lent_structures.Structures.{Element, StructureSets}
use Rattle.law_structures.proofs.lemmas.lent_structures.Names.{put_beside}
use Rattle.law_ring.specs.Front.{LinksRise}
use Rattle.law_ring.specs.Halted.{HaltStops, IsOutBeside}
use Rattle.law_ring.specs.Order.{IsSorted, IsAmong}
use Rattle.law_ring.specs.Told.{Endpoint as Told}
use Rattle.law_ring.proofs.HaltSparing.{store_keeps_halts}
use Rattle.law_driver_ring.specs.Published.{partly}
use Rattle.law_controller.specs.controlled_streams.Storing.{LeadsLater}
use Rattle.law_controller.proofs.lemmas.controlled_streams.Storing.{element_found}
use Rattle.law_controller.proofs.lemmas.controlled_streams.Streams.{out_here, out_beside}
use Rattle.law_driver_ring.specs.fed_queues.Fed.{IsPublished}
use Rattle.law_driver_ring.specs.fed_queues.Places.{IsMet}
use Rattle.law_driver_ring.proofs.lemmas.fed_queues.Places.{stands_met}
use Rattle.law_queues.specs.mended_heads.Owed.{StalledQueue}
use Rattle.law_queues.specs.mended_heads.Standing.{KeepsHalted}
use Rattle.law_queues.proofs.lemmas.mended_heads.Content.{any_one, OwesAlike, alike_same, owed_on}
use Rattle.law_queues.proofs.lemmas.mended_heads.Standing.{stand_on, store_keeps_halted}
use Rattle.law_queues.specs.publish_laws.Stores.{IsAtStore, published_by, parts_then, out_then, next_of}
use Rattle.law_queues.proofs.lemmas.publish_laws.Linked.{partly_later}
use Rattle.law_queues.proofs.lemmas.publish_laws.Storing as storing
use Rattle.law_world.specs.steps.control_queues.Controls.{ControlsStand}
use Rattle.law_world.specs.steps.control_queues.Rows.{StoreKeepsControls}
use Rattle.law_world.proofs.lemmas.steps.lemmas.control_queues.Alike.{ThereAlike, near_there, stand_by}
use Rattle.law_world.proofs.lemmas.steps.lemmas.control_queues.Lists.{among_with, others_differ, part_sorted, one_less}

module _ (p : DriverParts) (member streams : ℕ → Bool) (ends : ℕ → Told) (parts : StructureSets) (order : ℕ → ℕ → ℕ) (out : ℕ → List ℕ) (b : ℕ) (words : List ℕ) (k : IsAtStore p.driver p.memory member streams ends parts order out b words) (c : ControlsStand p.driver parts order out) where
  abbrev d : DriverContent
  d = p.driver

  abbrev g : IsPublished p.driver parts b words
  g = published_by k

  abbrev y : Transfer
  y = (published_by k).transfer

  abbrev n : ℕ
  n = 32 * (published_by k).endpoint.queue

  abbrev i : ℕ
  i = p.driver.made - 1

  abbrev e : ℕ
  e = 32 * b

  abbrev new : Qtd
  new = partly (published_by k).qtd p.driver.made

  abbrev now : StructureSets
  now = parts_then (published_by k)

  abbrev later : ℕ → List ℕ
  later = out_then out (next_of p).driver (published_by k)

  abbrev list : List ℕ
  list = out_now (next_of p).driver (published_by k).transfer.endpoint

  abbrev note : ℕ → NoteRuns
  note = note_in p.driver.notes

  abbrev before : List ℕ
  before = (storing.split p member streams ends parts order out b words k).before

  abbrev behind : List ℕ
  behind = (storing.split p member streams ends parts order out b words k).after

  made_is : d.made ≡ suc i
  made_is = storing.made_is p member streams ends parts order out b words k

  -- ---- the driver's content after it

  some_or_last : (suc i < 8) ⊎ (suc i ≡ 8)
  some_or_last =
      ⊎_elim (λ (low : suc i < 8). inl low) (λ (over : 8 ≤ suc i). inr (let below = storing.below p member streams ends parts order out b words k in omega (arith, over, below))) (cases_lt (suc i) 8)

  one_more : suc i < 8 → (next_of p).driver ≡ record d { made = suc (suc i) }
  one_more low = storing.then_more p member streams ends parts order out b words k low

  finished : suc i ≡ 8 → (next_of p).driver ≡ record d { command = None; made = 0 }
  finished eighth = storing.then_done p member streams ends parts order out b words k eighth

  never_opens : (q : ℕ) → d.command ≡ Some (unfinished.Open q) → ⊥
  never_opens q is = never (sym k.command ∙ is)
    where
      never : ◌≡◌ {A = Option Command} (Some (unfinished.Publish b words)) (Some (unfinished.Open q)) → ⊥
      never same = cc

  alike : ThereAlike d (next_of p).driver
  alike =
      ⊎_elim {C = ThereAlike d (next_of p).driver}
      (λ (low : suc i < 8). subst (ThereAlike d) (sym (one_more low)) (near_there d (record d { made = suc (suc i) }) refl (λ q is. is) (λ j x on. on)))
      (λ (eighth : suc i ≡ 8). subst (ThereAlike d) (sym (finished eighth)) (near_there d (record d { command = None; made = 0 }) refl (λ q is. absurd (never_opens q is)) (λ j x on. on)))
      some_or_last

  owes : OwesAlike any_one d (next_of p).driver
  owes =
      ⊎_elim {C = OwesAlike any_one d (next_of p).driver}
      (λ (low : suc i < 8). subst (OwesAlike any_one d) (sym (one_more low)) (alike_same any_one d (record d { made = suc (suc i) }) refl refl refl))
      (λ (eighth : suc i ≡ 8). subst (OwesAlike any_one d) (sym (finished eighth)) (alike_same any_one d (record d { command = None; made = 0 }) refl refl refl))
      some_or_last

  -- ---- what is out

  sorted : IsSorted (order n) (before ++ e ∷ behind)
  sorted = storing.sorted p member streams ends parts order out b words k

  out_is : out n ≡ before ++ behind
  out_is =
      let met : IsMet d y.endpoint g.endpoint = stands_met d y.endpoint g.endpoint (k.turns.asynchronous.endpoints y.endpoint g.endpoint g.here) g.going (never_opens g.endpoint.queue) in
      k.out_are y.endpoint g.endpoint g.here met.there ∙ ap (λ (o : Option Command). out_of note y.endpoint o d.made d.transfers) k.command
      ∙ ap (λ (j : ℕ). out_of note y.endpoint (Some (unfinished.Publish b words)) j d.transfers) made_is ∙ (storing.split p member streams ends parts order out b words k).out i

  list_more : suc i < 8 → list ≡ before ++ behind
  list_more low =
      ap (λ (f : DriverContent). out_now f y.endpoint) (one_more low) ∙ ap (λ (o : Option Command). out_of note y.endpoint o (suc (suc i)) d.transfers) k.command
      ∙ (storing.split p member streams ends parts order out b words k).out (suc i)

  list_last : suc i ≡ 8 → list ≡ before ++ e ∷ behind
  list_last eighth = ap (λ (f : DriverContent). out_now f y.endpoint) (finished eighth) ∙ (storing.split p member streams ends parts order out b words k).all

  list_sorted : IsSorted (order n) list
  list_sorted =
      ⊎_elim {C = IsSorted (order n) list}
      (λ (low : suc i < 8). subst (IsSorted (order n)) (sym (list_more low)) (part_sorted (order n) (before ++ behind) (before ++ e ∷ behind) (one_less e before behind) sorted))
      (λ (eighth : suc i ≡ 8). subst (IsSorted (order n)) (sym (list_last eighth)) sorted) some_or_last

  was_out : (a : ℕ) → IsAmong a (before ++ behind) → IsOutBeside (out n) e new a
  was_out a among = inl (subst (IsAmong a) (sym out_is) among, others_differ (order n) e a before behind sorted among)

  last_active : suc i ≡ 8 → new.token.active ≡ true
  last_active eighth = ap (λ (j : ℕ). (partly g.qtd j).token.active) (made_is ∙ eighth) ∙ g.active

  beside : (a : ℕ) → IsAmong a list → IsOutBeside (out n) e new a
  beside a among =
      ⊎_elim {C = IsOutBeside (out n) e new a} (λ (low : suc i < 8). was_out a (subst (IsAmong a) (list_more low) among))
      (λ (eighth : suc i ≡ 8).
      ⊎_elim {C = IsOutBeside (out n) e new a} (λ (own : a ≡ e). inr (own, last_active eighth)) (λ (other : IsAmong a (before ++ behind)). was_out a other)
      (among_with a e before behind (subst (IsAmong a) (list_last eighth) among)))
      some_or_last

  -- ---- each queue

  later_leads : LeadsLater (order n) e new
  later_leads = partly_later (order n) e g.qtd d.made (storing.links p member streams ends parts order out b words k)

  -- a link of the qTD that is stored, or one that stood before
  led : (m a : ℕ) (u : Qtd) (t : ℕ) → ((m ≡ n) × (a ≡ e) × (u ≡ new)) ⊎ (parts m a ≡ Some (Element u)) → (u ≡ new → order n e < order n t) → (parts m a ≡ Some (Element u) → order m a < order m t) → order m a < order m t
  led m a u t found own other =
      ⊎_elim {C = order m a < order m t}
      (λ (stored : (m ≡ n) × (a ≡ e) × (u ≡ new)). subst (λ (j : ℕ). order j a < order j t) (sym stored.0) (subst (λ (z : ℕ). order n z < order n t) (sym stored.1) (own stored.2))) other found

  rises : (m : ℕ) → LinksRise (order m) (parts m) → LinksRise (order m) (now m)
  rises m r = record {
    next = λ a u t is leads.
        led m a u t (element_found parts n e (partly g.qtd i) new g.stored m a u is) (λ same. later_leads.next t (ap (λ (z : Qtd). qtd_link_of z.next) (sym same) ∙ leads)) (λ was. r.next a u t was leads);
    alternate = λ a u t is leads.
        led m a u t (element_found parts n e (partly g.qtd i) new g.stored m a u is) (λ same. later_leads.alternate t (ap (λ (z : Qtd). qtd_link_of z.alternate) (sym same) ∙ leads)) (λ was. r.alternate a u t was leads);
  }

  by_queue : (P : ℕ → Type 0) (m : ℕ) → P n → (m ≢ n → P m) → P m
  by_queue P m own other = ⊎_elim {C = P m} (λ (same : m ≡ n). subst P (sym same) own) other (cases_eq m n)

  stays_sorted : (m : ℕ) → IsSorted (order m) (out m) → IsSorted (order m) (later m)
  stays_sorted m =
      by_queue (λ (j : ℕ). IsSorted (order j) (out j) → IsSorted (order j) (later j)) m (λ was. subst (IsSorted (order n)) (sym (out_here out n list)) list_sorted)
      (λ differs was. subst (IsSorted (order m)) (sym (out_beside out n list m differs)) was)

  stops : (m : ℕ) → HaltStops (order m) (out m) m (parts m) → HaltStops (order m) (later m) m (now m)
  stops m =
      by_queue (λ (j : ℕ). HaltStops (order j) (out j) j (parts j) → HaltStops (order j) (later j) j (now j)) m
      (λ was. subst (λ (es : List ℕ). HaltStops (order n) es n (now n)) (sym (out_here out n list)) (store_keeps_halts (order n) (out n) list n e parts new beside was))
      (λ differs was.
      subst (λ (es : List ℕ). HaltStops (order m) es m (now m)) (sym (out_beside out n list m differs)) (subst (HaltStops (order m) (out m) m) (sym (put_beside parts n e (Element new) m differs)) was))

  keeps_halted : (s : StalledQueue) → KeepsHalted parts now out later (32 * s.queue)
  keeps_halted s =
      let m = 32 * s.queue in
      store_keeps_halted parts out later m n e (partly g.qtd i) new g.stored
      (λ same a among. subst (λ (j : ℕ). IsOutBeside (out j) e new a) (sym same) (beside a (subst (IsAmong a) (ap later same ∙ out_here out n list) among)))
      (λ differs a among. subst (IsAmong a) (out_beside out n list m differs) among)

  stands : ControlsStand (next_of p).driver now order later
  stands =
      stand_by d (next_of p).driver parts now order order out later alike (λ j x here there r. rises (32 * x.queue) r) (λ j x here there s. stays_sorted (32 * x.queue) s)
      (λ j x here met s. stops (32 * x.queue) s)
      (stand_on d (next_of p).driver parts now out later owes.mends (λ s owed. owed_on any_one d (next_of p).driver s owes.owed owed tt) (λ s owed. keeps_halted s) c.mends) c

pub store_keeps_controls : StoreKeepsControls
store_keeps_controls p member streams ends parts order out b words k c = stands p member streams ends parts order out b words k c
