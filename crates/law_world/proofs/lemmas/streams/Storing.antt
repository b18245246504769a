-- What a store of a driver that publishes its newest transfer leaves of the driver's content, of what is told of its queues and of its runs.
use Rattle.std.proofs.Common.{◌≡◌, ◌≢◌, ℕ, suc, ◌-◌, ◌*◌, ◌<◌, ◌≤◌, Bool, true, false, if◌then◌else◌, List, slice_get, Option, Some, None, option_map, ap, refl, sym, subst, ◌∙◌, ⊎_elim, inr, arith}
use Rattle.std.proofs.lemmas.Bool.{cases_lt, lt-ltb}
use Rattle.std.proofs.lemmas.Option.{same_Some}
use Rattle.law_queues.proofs.Common.{same_piece}
use Rattle.law_controller.proofs.Common.{same_hand}
use Rattle.law_common.proofs.Numbers.{same_blocks}
use Rattle.word_mem.specs.Memory.{Mem}
use Rattle.qh_qtd.specs.declared.qtd.Qtd.{Qtd}
use Rattle.mem_runs.specs.Book.{slot_of}
use Rattle.drv_table.specs.declared.content.Endpoint.{Endpoint}
use Rattle.drv_table.specs.declared.content.Transfer.{Transfer}
use Rattle.drv_table.specs.declared.content.Command.{Command}
use Rattle.drv_table.specs.declared.content.Command.TheVariants as unfinished
use Rattle.drv_table.specs.DriverContent.{DriverContent}
use Rattle.drv_table.specs.Harvests.{note_at}
use Rattle.drv_table.specs.Parts.{Parts as DriverParts}
use Rattle.claims_driver.specs.Owners.{Element as PieceOf, IsPlaced, runs_of_transfer, views_of}
use Rattle.law_structures.specs.lent_structures.Structures.{StructureSets}
use Rattle.law_ring.specs.Hand.{Hand}
use Rattle.law_ring.specs.Told.{Endpoint as Told}
use Rattle.law_driver_ring.specs.Published.{partly}
use Rattle.law_queues.specs.publish_laws.Publishing.{IsBeingPublished}
use Rattle.law_queues.proofs.lemmas.publish_laws.Rows.{counted, after_is}
use Rattle.law_driver_ring.specs.Extents.{AreInRuns}
use Rattle.law_driver_ring.proofs.Extending.{extents_stay, element_put}
use Rattle.law_controller.proofs.lemmas.controlled_streams.Storing.{spares_head, spares_element}
use Rattle.law_driver.specs.endpoint_lives.Lives.{may_meet}
use Rattle.law_driver_ring.specs.told_harvests.Held.{IsOneFrom}
use Rattle.law_queues.specs.harvest_laws.Holds.{IsNextOf}
use Rattle.law_queues.proofs.lemmas.harvest_laws.Places.{one_sooner, owner_is}
use Rattle.law_queues.specs.harvest_laws.Told.{ToldStands}
use Rattle.law_queues.specs.harvest_laws.ToldLaws.{SparesDone}
use Rattle.law_queues.proofs.lemmas.harvest_laws.Standing.{spared_is_told, alike_is_told}
use Rattle.law_driver_ring.specs.fed_queues.Fed.{IsPublished}
use Rattle.law_driver_ring.specs.fed_queues.Places.{IsThere, IsMet}
use Rattle.law_driver_ring.proofs.lemmas.fed_queues.Places.{stands_met}
use Rattle.law_queues.specs.publish_laws.Stores.{IsAtStore, published_by, parts_then, next_of}
use Rattle.law_queues.proofs.lemmas.publish_laws.Apart.{piece_placed}
use Rattle.law_world.specs.streams.Tails.{IsUnderWay}
use Rattle.law_world.proofs.lemmas.streams.There.{next_waits}

module _ (p : DriverParts) (member streams : ℕ → Bool) (ends : ℕ → Told) (parts : StructureSets) (order : ℕ → ℕ → ℕ) (out : ℕ → List ℕ) (b : ℕ) (words : List ℕ) (k : IsAtStore p.driver p.memory member streams ends parts order out b words) where
  abbrev d : DriverContent
  d = p.driver

  abbrev g : IsPublished d parts b words
  g = published_by k

  abbrev y : Transfer
  y = g.transfer

  abbrev n : ℕ
  n = 32 * g.endpoint.queue

  abbrev i : ℕ
  i = d.made - 1

  abbrev old : Qtd
  old = partly g.qtd i

  abbrev new : Qtd
  new = partly g.qtd d.made

  pub made_is : d.made ≡ suc i
  made_is = let some = k.made in omega (arith, some)

  pub below : i < 8
  below = let few = g.few in omega (arith, few)

  -- ---- the driver's content after it

  abbrev pub one_more : DriverContent
  one_more = record d { made = suc d.made }

  abbrev pub finished : DriverContent
  finished = record d { command = None; made = 0 }

  being : IsBeingPublished d member parts n b g.qtd i
  being = record {
    command = k.command ∙ ap (λ (ws : List ℕ). Some (unfinished.Publish b ws)) g.are;
    made = made_is;
    below = below;
    here = g.stored;
    range = g.range;
    may = λ on. g.may k.made;
  }

  next_is : (next_of p).driver ≡ counted d d.made
  next_is = after_is p member parts n b g.qtd i being ∙ ap (counted d) (sym made_is)

  then_more : d.made < 8 → (next_of p).driver ≡ one_more
  then_more low = next_is ∙ ap (λ (x : Bool). if x then record d { made = suc d.made } else record d { command = None; made = 0 }) (lt-ltb (suc d.made) 9 (omega (arith, low)))

  then_done : d.made ≡ 8 → (next_of p).driver ≡ finished
  then_done eighth = next_is ∙ ap (counted d) eighth

  -- it is the last store, or one of those before it
  pub by_store : (P : DriverContent → Type 0) → (d.made < 8 → P one_more) → (d.made ≡ 8 → P finished) → P (next_of p).driver
  by_store P more done =
      ⊎_elim (λ (low : d.made < 8). subst P (sym (then_more low)) (more low))
      (λ (over : 8 ≤ d.made). let eighth : d.made ≡ 8 = (let few = g.few in omega (arith, few, over)) in subst P (sym (then_done eighth)) (done eighth)) (cases_lt d.made 8)

  publish_not_open : (c : ℕ) → ◌≡◌ {A = Option Command} (Some (unfinished.Publish b words)) (Some (unfinished.Open c)) → ⊥
  publish_not_open c same = cc

  none_not_open : (c : ℕ) → ◌≡◌ {A = Option Command} None (Some (unfinished.Open c)) → ⊥
  none_not_open c same = cc

  never_opens : (c : ℕ) → d.command ≡ Some (unfinished.Open c) → ⊥
  never_opens c same = publish_not_open c (sym k.command ∙ same)

  -- its endpoint goes on
  pub met_now : IsMet d y.endpoint g.endpoint
  met_now = stands_met d y.endpoint g.endpoint (k.turns.asynchronous.endpoints y.endpoint g.endpoint g.here) g.going (never_opens g.endpoint.queue)

  pub there_still : (x : Endpoint) → x.gone ≡ false → IsThere d x
  there_still x kept = record { linked = never_opens x.queue; kept = kept }

  pub met_still : (e : ℕ) (x : Endpoint) → x.gone ≡ false → may_meet d e x ≡ true → IsMet d e x
  met_still e x kept near = record { there = there_still x kept; near = near }

  pub under_way_then : (m : Mem) (now : StructureSets) → IsUnderWay (next_of p).driver m member now (next_of p).driver.command
  under_way_then m now =
      by_store (λ (f : DriverContent). IsUnderWay f m member now f.command)
      (λ low. subst (λ (c : Option Command). IsUnderWay one_more m member now c) (sym k.command) (inr (let one : 1 ≤ suc d.made = omega arith in one))) (λ eighth. tt)

  -- ---- the qTD that is stored is none of those that were read

  pub element : IsPlaced (slot_of d.book.slots) k.sound.owners.owner b (PieceOf g.number)
  element =
      let some : 1 ≤ y.qtds = k.turns.chained.some g.number (runs_of_transfer y) (ap (option_map runs_of_transfer) g.there) g.fresh.1 in
      subst (λ (c : ℕ). IsPlaced (slot_of d.book.slots) k.sound.owners.owner c (PieceOf g.number)) g.place.0 (piece_placed d k.sound.owners g.number 0 y g.there g.fresh.1 some)

  next_held : (e t : ℕ) (x : Endpoint) (z : Transfer) → IsNextOf d e t x z → z.released ≡ false
  next_held e t x z is = (next_waits d e t x z k.turns is).1

  not_read : (e t : ℕ) (x : Endpoint) (z : Transfer) (a : ℕ) → IsNextOf d e t x z → IsOneFrom (note_at d.notes) z.first (z.qtds - z.left) a → a ≢ b
  not_read e t x z a is one same =
      let owners = k.sound.owners in
      let pieces = owners.owned.each.pieces t (runs_of_transfer z) (ap (option_map runs_of_transfer) is.transfer) (next_held e t x z is) in
      let own : owners.owner a ≡ PieceOf t = owner_is (slot_of d.book.slots) owners.owner d.notes t z.first z.qtds a pieces (one_sooner (note_at d.notes) z.first (z.qtds - z.left) z.qtds a (omega arith) one) in
      let number : t ≡ g.number = same_piece t g.number (sym own ∙ ap owners.owner same ∙ element.owned) in
      let transfer : z ≡ y = same_Some z y (sym is.transfer ∙ ap (slice_get d.transfers) number ∙ g.there) in
      let left : z.left ≡ z.qtds = ap (λ (w : Transfer). w.left) transfer ∙ g.place.2 ∙ sym (ap (λ (w : Transfer). w.qtds) transfer) in
      absurd (subst (λ (j : ℕ). IsOneFrom (note_at d.notes) z.first j a) (let none : z.qtds - z.left ≡ 0 = omega (arith, left) in none) one)

  spares_done : SparesDone d parts (parts_then g)
  spares_done = record {
    heads = λ e x here stream. spares_head parts n (32 * b) old new g.stored (32 * x.queue);
    done = λ e t x z a is stream one. spares_element parts n (32 * b) old new g.stored (32 * x.queue) (32 * a) (λ name owner. not_read e t x z a is one (same_blocks a b name));
  }

  pub told_then : (hand : Hand) (reported : ℕ → List ℕ) → ToldStands d hand parts reported → ToldStands (next_of p).driver hand (parts_then g) reported
  told_then hand reported told =
      let spared : ToldStands d hand (parts_then g) reported = spared_is_told d hand hand parts (parts_then g) reported (same_hand hand) spares_done told in
      by_store (λ (f : DriverContent). ToldStands f hand (parts_then g) reported)
      (λ low. alike_is_told d one_more hand (parts_then g) reported (record { reports = refl; store = refl; endpoints = refl; transfers = refl; notes = refl }) (λ x meets. there_still x meets.kept) (λ x is. is) spared)
      (λ eighth.
      alike_is_told d finished hand (parts_then g) reported (record { reports = refl; store = refl; endpoints = refl; transfers = refl; notes = refl }) (λ x meets. there_still x meets.kept) (λ x is. absurd (none_not_open x.queue is)) spared)

  -- ---- runs

  pub runs_then : AreInRuns (views_of d) parts → AreInRuns (views_of (next_of p).driver) (parts_then g)
  runs_then runs =
      let now : AreInRuns (views_of d) (parts_then g) =
      extents_stay (views_of d) (views_of d) parts (parts_then g) (record { slots = λ c j has. has; endpoints = λ e. refl; transfers = λ t. refl; notes = λ c. refl }) (element_put parts n (32 * b) new) runs in
      by_store (λ (f : DriverContent). AreInRuns (views_of f) (parts_then g)) (λ low. now) (λ eighth. now)
