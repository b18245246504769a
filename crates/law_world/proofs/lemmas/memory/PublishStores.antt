-- A store of a driver that publishes its newest transfer, by what is told of its queues alone: no word is of a ring or of frames.
use Rattle.std.proofs.Common.{◌≡◌, ◌≢◌, ℕ, suc, ◌-◌, ◌*◌, ◌<◌, ◌≤◌, Bool, true, false, if◌then◌else◌, List, ◌∷◌, ◌++◌, slice_get, Option, Some, None, option_map, ap, refl, sym, subst, ◌∙◌, ⊎_elim, arith}
use Rattle.std.proofs.lemmas.Bool.{cases_eq, cases_lt, lt-ltb}
use Rattle.std.proofs.lemmas.Option.{same_Some}
use Rattle.law_common.proofs.Numbers.{same_blocks}
use Rattle.law_world.proofs.Common.{none_some}
use Rattle.mem_runs.specs.Book.{slot_of}
use Rattle.drv_table.specs.declared.content.Endpoint.{Endpoint}
use Rattle.drv_table.specs.declared.content.Transfer.{Transfer}
use Rattle.drv_table.specs.declared.content.Command.{Command}
use Rattle.drv_table.specs.declared.content.Command.TheVariants as unfinished
use Rattle.drv_table.specs.DriverContent.{DriverContent}
use Rattle.drv_table.specs.Parts.{Parts as DriverParts}
use Rattle.claims_driver.specs.Leaving.{HasOwners}
use Rattle.claims_driver.specs.Owners.{Dummy, Element as PieceOf, NoteRuns, IsPlaced, runs_of_transfer, note_in}
use Rattle.claims_driver.specs.LentRuns.{AreLent}
use Rattle.law_structures.specs.lent_structures.Structures.{Element, StructureSets}
use Rattle.law_ring.specs.Told.{Endpoint as Told}
use Rattle.law_ring.specs.Order.{IsSorted}
use Rattle.law_driver_ring.specs.Inventory.{IsLent}
use Rattle.law_driver_ring.specs.Published.{partly}
use Rattle.law_queues.specs.publish_laws.Publishing.{IsBeingPublished}
use Rattle.law_queues.proofs.lemmas.publish_laws.Rows.{counted, after_is}
use Rattle.law_controller.specs.controlled_streams.Storing.{LeadsLater, with_out, stored_parts}
use Rattle.law_controller.proofs.lemmas.controlled_streams.Storing.{element_found}
use Rattle.law_controller.proofs.lemmas.controlled_streams.Streams.{out_here, out_beside}
use Rattle.law_driver.specs.chained_transfers.Asynchronous.{StandsAsynchronous}
use Rattle.law_driver.specs.chained_transfers.AsynchronousTurns.{AsynchronousTakesTurns}
use Rattle.law_driver.specs.chained_transfers.Chains.{piece_at}
use Rattle.law_driver.specs.chained_transfers.Out.{out_of, out_now}
use Rattle.law_driver.specs.endpoint_lives.Lives.{may_meet}
use Rattle.law_queues.specs.fed_lends.Commands.{QueuesStand}
use Rattle.law_driver_ring.specs.fed_queues.Fed.{IsPublished}
use Rattle.law_driver_ring.specs.fed_queues.Places.{IsMet, IsLast, AreLast, AreStillOut, IsThere}
use Rattle.law_queues.specs.publish_laws.Stores.{parts_then, out_then, next_of}
use Rattle.law_queues.proofs.lemmas.publish_laws.Outs.{IsNewest, IsSplit, split_out, other_out, same_out}
use Rattle.law_queues.proofs.lemmas.publish_laws.Apart.{dummy_placed, queue_placed, piece_placed, dummy_apart, pieces_apart, queues_same, all_lent}
use Rattle.law_queues.proofs.lemmas.publish_laws.Linked.{sorted_after, end_is, piece_later, leads_later}
use Rattle.law_queues.proofs.lemmas.publish_laws.Feeding.{IsHere, more, done, fed_more, fed_done}
use Rattle.law_driver_ring.proofs.lemmas.fed_queues.Places.{SameQueues, same_ends, stands_met, met_stays, streams_stay}
use Rattle.law_driver.proofs.lemmas.chained_transfers.Staying.{stands_alive}

-- the qTD was lent, and not all of its words are stored
pub record IsStoring (d : DriverContent) (member streams : ℕ → Bool) (ends : ℕ → Told) (parts : StructureSets) (order : ℕ → ℕ → ℕ) (out : ℕ → List ℕ) (b : ℕ) (words : List ℕ) : Type 0 where
  pub command : d.command ≡ Some (unfinished.Publish b words)
  pub made : 1 ≤ d.made
  pub owners : HasOwners d
  pub lent : AreLent d
  pub turns : AsynchronousTakesTurns d
  pub queues : QueuesStand d member streams ends parts order out

abbrev pub published_by : {d : DriverContent} {member streams : ℕ → Bool} {ends : ℕ → Told} {parts : StructureSets} {order : ℕ → ℕ → ℕ} {out : ℕ → List ℕ} {b : ℕ} {words : List ℕ} → IsStoring d member streams ends parts order out b words → IsPublished d parts b words
published_by {b = b} {words = words} k = k.queues.fed.publishes b words k.command

module _ (p : DriverParts) (member streams : ℕ → Bool) (ends : ℕ → Told) (parts : StructureSets) (order : ℕ → ℕ → ℕ) (out : ℕ → List ℕ) (b : ℕ) (words : List ℕ) (k : IsStoring p.driver member streams ends parts order out b words) where
  abbrev d : DriverContent
  d = p.driver

  abbrev g : IsPublished d parts b words
  g = published_by k

  abbrev y : Transfer
  y = g.transfer

  abbrev n : ℕ
  n = 32 * g.endpoint.queue

  abbrev i : ℕ
  i = d.made - 1

  abbrev q : ℕ
  q = y.qtds - 1

  abbrev note : ℕ → NoteRuns
  note = note_in d.notes

  pub made_is : d.made ≡ suc i
  made_is = let some = k.made in omega (arith, some)

  pub below : i < 8
  below = let few = g.few in omega (arith, few)

  abbrev now : StructureSets
  now = stored_parts parts n (32 * b) (partly g.qtd (suc i))

  -- the structures are told by the number of stores
  pub parts_are : (P : StructureSets → Type 0) → P now → P (parts_then g)
  parts_are P is = subst (λ (j : ℕ). P (stored_parts parts n (32 * b) (partly g.qtd j))) (sym made_is) is

  -- ---- its qTDs

  pub some : 1 ≤ y.qtds
  some = k.turns.chained.some g.number (runs_of_transfer y) (ap (option_map runs_of_transfer) g.there) g.fresh.1

  qtds_are : suc q ≡ y.qtds
  qtds_are = let least = some in omega (arith, least)

  is_newest : IsNewest y.endpoint b (suc q) y
  is_newest = record { owner = refl; held = g.fresh.1; waits = g.fresh.0; place = g.place.1; left = g.place.2 ∙ sym qtds_are }

  pub split : IsSplit note y.endpoint b q b words d.transfers
  split = split_out note y.endpoint b q b words d.transfers g.number y g.newest g.there is_newest

  pub sorted : IsSorted (order n) (split.before ++ (32 * b) ∷ split.after)
  sorted = subst (IsSorted (order n)) split.all (k.queues.last.sorted b words g.number y g.endpoint k.command k.made g.newest g.there g.place.0 g.here)

  pub element : IsPlaced (slot_of d.book.slots) k.owners.owner b (PieceOf g.number)
  element = subst (λ (c : ℕ). IsPlaced (slot_of d.book.slots) k.owners.owner c (PieceOf g.number)) g.place.0 (piece_placed d k.owners g.number 0 y g.there g.fresh.1 some)

  dummy_is : (e : ℕ) (x : Endpoint) → slice_get d.endpoints e ≡ Some x → x.gone ≡ false → IsPlaced (slot_of d.book.slots) k.owners.owner x.dummy (Dummy e)
  dummy_is e x here kept = dummy_placed d k.owners e x here (k.turns.asynchronous.endpoints e x here) kept

  dummies_apart : (e : ℕ) (x : Endpoint) → slice_get d.endpoints e ≡ Some x → x.gone ≡ false → x.dummy ≢ b
  dummies_apart e x here kept = dummy_apart x.dummy b e g.number (dummy_is e x here kept) element

  never_later : (c : ℕ) → order n (32 * b) < order n (32 * c) → c ≢ b
  never_later c later same = let e = ap (λ (x : ℕ). order n (32 * x)) same in omega (arith, later, e)

  own_apart : (j : ℕ) → 1 ≤ j → j < suc q → piece_at note b j ≢ b
  own_apart j first low = never_later (piece_at note b j) (sorted_after (order n) (32 * b) split.before split.after sorted (32 * piece_at note b j) (split.others j first low))

  others_apart : (t j : ℕ) (z : Transfer) → slice_get d.transfers t ≡ Some z → z.released ≡ false → j < z.qtds → (t ≡ g.number → 1 ≤ j) → piece_at note z.first j ≢ b
  others_apart t j z there held low first =
      ⊎_elim (λ (same : t ≡ g.number).
      let is : z ≡ y = same_Some z y (sym there ∙ ap (slice_get d.transfers) same ∙ g.there) in
      subst (λ (c : ℕ). piece_at note c j ≢ b) (sym (ap (λ (w : Transfer). w.first) is ∙ g.place.0)) (own_apart j (first same) (let e = ap (λ (w : Transfer). w.qtds) is in let all = qtds_are in omega (arith, low, e, all))))
      (λ (differs : t ≢ g.number). pieces_apart (piece_at note z.first j) b t g.number differs (piece_placed d k.owners t j z there held low) element) (cases_eq t g.number)

  pub here : IsHere d parts b words g i
  here = record { command = k.command; made = made_is; below = below; at = g.stored; dummies = dummies_apart; pieces = others_apart }

  -- its endpoint goes on, so the walk meets it
  standing : StandsAsynchronous g.endpoint
  standing = k.turns.asynchronous.endpoints y.endpoint g.endpoint g.here

  its_alive : g.endpoint.gone ≡ false
  its_alive = stands_alive g.endpoint standing g.going

  -- ---- its links

  pub lent_dummy : IsLent (slot_of d.book.slots g.endpoint.dummy)
  lent_dummy = all_lent d b words i g.endpoint.dummy k.command made_is below k.lent (dummy_is y.endpoint g.endpoint g.here its_alive).run

  before_dummy : order n (32 * b) < order n (32 * g.endpoint.dummy)
  before_dummy =
      k.queues.last.dummies y.endpoint g.endpoint g.here its_alive lent_dummy (32 * b) (partly g.qtd i) g.stored
      (λ same. dummies_apart y.endpoint g.endpoint g.here its_alive (sym (same_blocks b g.endpoint.dummy same)))

  ends_at : piece_at note b (suc q) ≡ g.endpoint.dummy
  ends_at =
      ap (λ (j : ℕ). piece_at note b j) qtds_are ∙ ap (λ (c : ℕ). piece_at note c y.qtds) (sym g.place.0) ∙ end_is d g.number y g.endpoint k.turns.chained g.newest g.there g.fresh.1 g.here

  later_at : (j : ℕ) → 1 ≤ j → j ≤ suc q → order n (32 * b) < order n (32 * piece_at note b j)
  later_at j first most = piece_later (order n) note y.endpoint b q b words d.transfers split g.endpoint.dummy j sorted before_dummy ends_at first most

  pub links : LeadsLater (order n) (32 * b) g.qtd
  links =
      leads_later (order n) (32 * b) (note b).next (piece_at note b y.qtds) y.sort g.qtd g.noted.next g.noted.alternate (later_at 1 (omega arith) (omega arith))
      (subst (λ (j : ℕ). order n (32 * b) < order n (32 * piece_at note b j)) qtds_are (later_at (suc q) (omega arith) (omega arith)))

  -- ---- whom the walk meets

  publish_not_open : (c : ℕ) → ◌≡◌ {A = Option Command} (Some (unfinished.Publish b words)) (Some (unfinished.Open c)) → ⊥
  publish_not_open c same = cc

  pub never_opens : (c : ℕ) → d.command ≡ Some (unfinished.Open c) → ⊥
  never_opens c same = publish_not_open c (sym k.command ∙ same)

  pub met_now : IsMet d y.endpoint g.endpoint
  met_now = stands_met d y.endpoint g.endpoint standing g.going (never_opens g.endpoint.queue)

  pub there_now : (x : Endpoint) → x.gone ≡ false → IsThere d x
  there_now x kept = record { linked = never_opens x.queue; kept = kept }

  queues_more : SameQueues d (more d parts b words g i here k.queues.fed)
  queues_more =
      same_ends d (more d parts b words g i here k.queues.fed) (record { waiting = refl; rung = refl; opens = λ c is. is }) (record { waiting = refl; rung = refl; opens = λ c is. is }) refl

  queues_done : SameQueues d (done d parts b words g i here k.queues.fed)
  queues_done =
      same_ends d (done d parts b words g i here k.queues.fed) (record { waiting = refl; rung = refl; opens = λ c is. absurd (none_some (unfinished.Open c) is) })
      (record { waiting = refl; rung = refl; opens = λ c is. absurd (never_opens c is) }) refl

  -- ---- the order

  is_last : (m a : ℕ) → IsLast (order m) (parts m) a → IsLast (order m) (now m) a
  is_last m a last c u there differs =
      ⊎_elim (λ (put_there : (m ≡ n) × (c ≡ 32 * b) × (u ≡ partly g.qtd (suc i))).
      last c (partly g.qtd i) (ap (λ (l : ℕ). parts l c) put_there.0 ∙ ap (parts n) put_there.1 ∙ g.stored) differs)
      (λ (was : parts m c ≡ Some (Element u)). last c u was differs) (element_found parts n (32 * b) (partly g.qtd i) (partly g.qtd (suc i)) g.stored m c u there)

  none_made : suc (suc i) ≡ 0 → ⊥
  none_made same = omega (arith, same)

  last_more : AreLast (more d parts b words g i here k.queues.fed) now order
  last_more = record {
    dummies = λ e x there kept lent. is_last (32 * x.queue) (32 * x.dummy) (k.queues.last.dummies e x there kept lent);
    taken = λ c ws t z x command made newest there first own. absurd (none_made made);
    sorted = λ c ws t z x command made newest there first own. k.queues.last.sorted c ws t z x command k.made newest there first own;
  }

  last_done : AreLast (done d parts b words g i here k.queues.fed) now order
  last_done = record {
    dummies = λ e x there kept lent. is_last (32 * x.queue) (32 * x.dummy) (k.queues.last.dummies e x there kept lent);
    taken = λ c ws t z x command made newest there first own. absurd (none_some (unfinished.Publish c ws) command);
    sorted = λ c ws t z x command made newest there first own. absurd (none_some (unfinished.Publish c ws) command);
  }

  -- ---- what is out

  pub out_is : (e : ℕ) → out_now d e ≡ out_of note e (Some (unfinished.Publish b words)) (suc i) d.transfers
  out_is e = ap (λ (o : Option Command). out_of note e o d.made d.transfers) k.command ∙ ap (λ (j : ℕ). out_of note e (Some (unfinished.Publish b words)) j d.transfers) made_is

  pub out_more : (e : ℕ) → out_now (more d parts b words g i here k.queues.fed) e ≡ out_now d e
  out_more e = ap (λ (o : Option Command). out_of note e o (suc (suc i)) d.transfers) k.command ∙ same_out note e b words d.transfers (suc i) i ∙ sym (out_is e)

  out_done : (e : ℕ) → y.endpoint ≢ e → out_now (done d parts b words g i here k.queues.fed) e ≡ out_now d e
  out_done e differs = sym (other_out note e b words d.transfers g.number i y g.newest g.there differs) ∙ sym (out_is e)

  same_queue : (e : ℕ) (x : Endpoint) → slice_get d.endpoints e ≡ Some x → x.gone ≡ false → 32 * x.queue ≡ n → e ≡ y.endpoint
  same_queue e x there kept same =
      queues_same x.queue g.endpoint.queue e y.endpoint (same_blocks x.queue g.endpoint.queue same)
      (queue_placed d k.owners e x there (k.turns.asynchronous.endpoints e x there) kept) (queue_placed d k.owners y.endpoint g.endpoint g.here standing its_alive)

  other_end : (e : ℕ) (x : Endpoint) → slice_get d.endpoints e ≡ Some x → 32 * x.queue ≢ n → y.endpoint ≢ e
  other_end e x there differs same = differs (ap (λ (z : Endpoint). 32 * z.queue) (same_Some x g.endpoint (sym there ∙ ap (slice_get d.endpoints) (sym same) ∙ g.here)))

  still_out : (new : DriverContent) → new.endpoints ≡ d.endpoints → ((e : ℕ) → y.endpoint ≢ e → out_now new e ≡ out_now d e) → AreStillOut new (with_out out n (out_now new y.endpoint))
  still_out new ends_same beside e x there met =
      let was : slice_get d.endpoints e ≡ Some x = ap (λ (xs : List Endpoint). slice_get xs e) (sym ends_same) ∙ there in
      ⊎_elim (λ (same : 32 * x.queue ≡ n).
      ap (with_out out n (out_now new y.endpoint)) same ∙ out_here out n (out_now new y.endpoint) ∙ ap (out_now new) (sym (same_queue e x was met.kept same)))
      (λ (differs : 32 * x.queue ≢ n).
      out_beside out n (out_now new y.endpoint) (32 * x.queue) differs ∙ k.queues.out_are e x was (there_now x met.kept) ∙ sym (beside e (other_end e x was differs))) (cases_eq (32 * x.queue) n)

  -- ---- the driver's content after it

  pub being : IsBeingPublished d member parts n b g.qtd i
  being = record {
    command = k.command ∙ ap (λ (ws : List ℕ). Some (unfinished.Publish b ws)) g.are;
    made = made_is;
    below = below;
    here = g.stored;
    range = g.range;
    may = λ on. g.may k.made;
  }

  pub then_more : suc i < 8 → (next_of p).driver ≡ more d parts b words g i here k.queues.fed
  then_more low =
      after_is p member parts n b g.qtd i being ∙ ap (λ (x : Bool). if x then record d { made = suc (suc i) } else record d { command = None; made = 0 }) (lt-ltb (suc (suc i)) 9 (omega (arith, low)))

  pub then_done : suc i ≡ 8 → (next_of p).driver ≡ done d parts b words g i here k.queues.fed
  then_done eighth = after_is p member parts n b g.qtd i being ∙ ap (counted d) eighth

  pub eighth_by : 8 ≤ suc i → suc i ≡ 8
  eighth_by over = let low = below in omega (arith, over, low)

  -- ---- the laws

  stands_more : suc i < 8 → QueuesStand (more d parts b words g i here k.queues.fed) member streams ends now order (with_out out n (out_now (more d parts b words g i here k.queues.fed) y.endpoint))
  stands_more low = record {
    met = met_stays d (more d parts b words g i here k.queues.fed) member queues_more k.queues.met;
    streams_are = streams_stay d (more d parts b words g i here k.queues.fed) streams ends queues_more k.queues.streams_are;
    fed = fed_more d parts b words g i here k.queues.fed low;
    last = last_more;
    out_are = still_out (more d parts b words g i here k.queues.fed) refl (λ e differs. out_more e);
  }

  stands_done : suc i ≡ 8 → QueuesStand (done d parts b words g i here k.queues.fed) member streams ends now order (with_out out n (out_now (done d parts b words g i here k.queues.fed) y.endpoint))
  stands_done eighth = record {
    met = met_stays d (done d parts b words g i here k.queues.fed) member queues_done k.queues.met;
    streams_are = streams_stay d (done d parts b words g i here k.queues.fed) streams ends queues_done k.queues.streams_are;
    fed = fed_done d parts b words g i here k.queues.fed eighth;
    last = last_done;
    out_are = still_out (done d parts b words g i here k.queues.fed) refl out_done;
  }

  pub stands_by : QueuesStand (next_of p).driver member streams ends (parts_then g) order (out_then out (next_of p).driver g)
  stands_by =
      parts_are (λ (ps : StructureSets). QueuesStand (next_of p).driver member streams ends ps order (out_then out (next_of p).driver g))
      (⊎_elim (λ (low : suc i < 8). subst (λ (x : DriverContent). QueuesStand x member streams ends now order (out_then out x g)) (sym (then_more low)) (stands_more low))
      (λ (over : 8 ≤ suc i). subst (λ (x : DriverContent). QueuesStand x member streams ends now order (out_then out x g)) (sym (then_done (eighth_by over))) (stands_done (eighth_by over))) (cases_lt (suc i) 8))

  -- ---- the last store, or one of those before it

  abbrev pub one_more : DriverContent
  one_more = record d { made = suc d.made }

  abbrev pub finished : DriverContent
  finished = record d { command = None; made = 0 }

  next_is : (next_of p).driver ≡ counted d d.made
  next_is = after_is p member parts n b g.qtd i being ∙ ap (counted d) (sym made_is)

  is_more : d.made < 8 → (next_of p).driver ≡ one_more
  is_more low = next_is ∙ ap (λ (x : Bool). if x then record d { made = suc d.made } else record d { command = None; made = 0 }) (lt-ltb (suc d.made) 9 (omega (arith, low)))

  is_done : d.made ≡ 8 → (next_of p).driver ≡ finished
  is_done eighth = next_is ∙ ap (counted d) eighth

  pub by_store : (P : DriverContent → Type 0) → (d.made < 8 → P one_more) → (d.made ≡ 8 → P finished) → P (next_of p).driver
  by_store P low_one last_one =
      ⊎_elim (λ (low : d.made < 8). subst P (sym (is_more low)) (low_one low))
      (λ (over : 8 ≤ d.made). let eighth : d.made ≡ 8 = (let few = g.few in omega (arith, few, over)) in subst P (sym (is_done eighth)) (last_one eighth)) (cases_lt d.made 8)

  pub met_still : (e : ℕ) (x : Endpoint) → x.gone ≡ false → may_meet d e x ≡ true → IsMet d e x
  met_still e x kept near = record { there = there_now x kept; near = near }
