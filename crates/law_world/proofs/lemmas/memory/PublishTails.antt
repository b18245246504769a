-- The tails of queues after a store of the newest transfer's first qTD: the last store publishes it, and the tail of its queue is the inactive one behind it.
use Rattle.std.proofs.Common.{◌≡◌, ◌≢◌, ℕ, suc, ◌-◌, ◌*◌, ◌==◌, ◌<◌, ◌≤◌, Bool, true, false, if◌then◌else◌, List, ◌∷◌, ◌++◌, length, slice_get, Option, Some, None, ap, refl, sym, subst, ◌∙◌, ⊎_elim, arith}
use Rattle.std.proofs.lemmas.Bool.{cases_eq, eq-eqb, true≢false}
use Rattle.std.proofs.lemmas.Option.{same_Some}
use Rattle.law_world.proofs.Common2.{reaches_by}
use Rattle.law_common.proofs.Numbers.{other_number, same_blocks}
use Rattle.law_driver_ring.proofs.Common.{partly_idle}
use Rattle.qh_qtd.specs.declared.qtd.Qtd.{Qtd}
use Rattle.mem_runs.specs.Book.{slot_of}
use Rattle.drv_table.specs.declared.content.Endpoint.{Endpoint}
use Rattle.drv_table.specs.declared.content.Transfer.{Transfer}
use Rattle.drv_table.specs.declared.content.Command.{Command}
use Rattle.drv_table.specs.declared.content.Command.TheVariants as unfinished
use Rattle.drv_table.specs.DriverContent.{DriverContent}
use Rattle.drv_table.specs.Parts.{Parts as DriverParts}
use Rattle.drv_table.specs.Words.{dummy_qtd}
use Rattle.claims_driver.specs.Owners.{NoteRuns, note_in}
use Rattle.law_structures.specs.lent_structures.Structures.{Element, Structures, StructureSets}
use Rattle.law_structures.proofs.lemmas.lent_structures.Names.{put_same, put_beside}
use Rattle.link_words.specs.declared.kinds.QtdLink.{QtdLink}
use Rattle.link_words.specs.declared.kinds.QtdLink.TheVariants as qtd_links
use Rattle.link_words.specs.Links.{qtd_link_of}
use Rattle.law_structures.specs.lent_structures.Sound.{IsElement, LeadsOn}
use Rattle.law_structures.proofs.lemmas.lent_structures.Altering.{found_element}
use Rattle.law_frames.specs.Met.{IsQueuePart}
use Rattle.law_ring.specs.Told.{Endpoint as Told}
use Rattle.law_ring.specs.Order.{IsFresh, IsAmong}
use Rattle.law_ring.specs.Front.{LinksWithin}
use Rattle.law_driver_ring.specs.Inventory.{IsLent}
use Rattle.law_driver_ring.specs.Published.{partly}
use Rattle.law_controller.specs.controlled_streams.Storing.{with_out, stored_parts}
use Rattle.law_controller.proofs.lemmas.controlled_streams.Storing.{out_apart}
use Rattle.law_controller.proofs.lemmas.controlled_streams.Streams.{out_here, out_beside}
use Rattle.law_driver.specs.chained_transfers.Out.{out_of, out_now}
use Rattle.law_driver.specs.endpoint_lives.Lives.{may_meet}
use Rattle.law_queues.specs.fed_lends.Commands.{QueuesStand}
use Rattle.law_driver_ring.specs.fed_queues.Fed.{IsPublished}
use Rattle.law_driver_ring.specs.fed_queues.Places.{IsMet, IsLast}
use Rattle.law_queues.specs.standing_fronts.Reaching.{Reaches}
use Rattle.law_queues.proofs.lemmas.standing_fronts.Reaching.{reaches_idle_store, reaches_last_store}
use Rattle.law_queues.specs.publish_laws.Stores.{parts_then, out_then, next_of}
use Rattle.law_queues.proofs.lemmas.publish_laws.Outs.{IsSplit, same_out}
use Rattle.law_queues.proofs.lemmas.publish_laws.Apart.{queue_placed, queues_same}
use Rattle.law_queues.specs.standing_fronts.Tails.{tail_block, tail_of, TailsStand}
use Rattle.law_world.proofs.lemmas.memory.PublishStores.{IsStoring, published_by, made_is, below, one_more, finished, by_store, met_now, met_still}
use Rattle.law_world.proofs.lemmas.memory.PublishStores as storing

-- the last qTD of a sound part is its tail
sound_tail : (order : ℕ → ℕ) (c n : ℕ) (part : Structures) (t : Qtd) → IsQueuePart n part → part c ≡ Some (Element t) → t.token.active ≡ false → IsLast order part c → LinksWithin order c part
sound_tail order c n part t m here idle_there last = record {
  below = λ a u there on reached. last a u there (not_tail a u there on);
  next = λ a b u there on reached to. reaches b (qtd_link_of u.next) (m.elements a u there).next to;
  alternate = λ a b u there on reached to. reaches b (qtd_link_of u.alternate) (m.elements a u there).alternate to;
}
  where
    not_tail : (a : ℕ) (u : Qtd) → part a ≡ Some (Element u) → u.token.active ≡ true → a ≢ c
    not_tail a u there on same = true≢false (sym on ∙ ap (λ (z : Qtd). z.token.active) (found_element (part a) u t there (ap part same ∙ here)) ∙ idle_there)

    reaches : (b : ℕ) (l : QtdLink) → LeadsOn part l → l ≡ qtd_links.To b → order b ≤ order c
    reaches b l leads is =
        let there : IsElement part b = subst (LeadsOn part) is leads in
        ⊎_elim (λ (same : b ≡ c). let e = ap order same in omega (arith, e)) (λ (differs : b ≢ c). let less = last b there.qtd there.here differs in omega (arith, less)) (cases_eq b c)

module _ (p : DriverParts) (member streams : ℕ → Bool) (ends : ℕ → Told) (parts : StructureSets) (order : ℕ → ℕ → ℕ) (out : ℕ → List ℕ) (b : ℕ) (words : List ℕ) (k : IsStoring p.driver member streams ends parts order out b words) where
  abbrev d : DriverContent
  d = p.driver

  abbrev g : IsPublished d parts b words
  g = published_by k

  abbrev y : Transfer
  y = g.transfer

  abbrev n : ℕ
  n = 32 * g.endpoint.queue

  abbrev i : ℕ
  i = d.made - 1

  abbrev q : ℕ
  q = y.qtds - 1

  abbrev note : ℕ → NoteRuns
  note = note_in d.notes

  abbrev old : Qtd
  old = partly g.qtd i

  abbrev new : Qtd
  new = partly g.qtd d.made

  abbrev more : DriverContent
  more = one_more p member streams ends parts order out b words k

  abbrev done : DriverContent
  done = finished p member streams ends parts order out b words k

  old_idle : old.token.active ≡ false
  old_idle = partly_idle g.qtd i (below p member streams ends parts order out b words k)

  own_met : IsMet d y.endpoint g.endpoint
  own_met = met_now p member streams ends parts order out b words k

  met : (e : ℕ) (x : Endpoint) → x.gone ≡ false → may_meet d e x ≡ true → IsMet d e x
  met e x kept near = met_still p member streams ends parts order out b words k e x kept near

  -- ---- what is out, with the place of the qTD that is stored

  abbrev split : IsSplit note y.endpoint b q b words d.transfers
  split = storing.split p member streams ends parts order out b words k

  out_split : out n ≡ split.before ++ split.after
  out_split = k.queues.out_are y.endpoint g.endpoint g.here own_met.there ∙ storing.out_is p member streams ends parts order out b words k y.endpoint ∙ split.out i

  -- ---- a store before the last one

  out_more : (m : ℕ) → out_then out more g m ≡ out m
  out_more m =
      ⊎_elim (λ (same : m ≡ n).
      ap (with_out out n (out_now more y.endpoint)) same ∙ out_here out n (out_now more y.endpoint) ∙ ap (λ (c : Option Command). out_of note y.endpoint c (suc d.made) d.transfers) k.command
      ∙ same_out note y.endpoint b words d.transfers d.made i ∙ sym (storing.out_is p member streams ends parts order out b words k y.endpoint) ∙ sym (k.queues.out_are y.endpoint g.endpoint g.here own_met.there) ∙ ap out (sym same))
      (λ (differs : m ≢ n). out_beside out n (out_now more y.endpoint) m differs) (cases_eq m n)

  stored_idle : d.made < 8 → (e : ℕ) (x : Endpoint) (a : ℕ) → Reaches d (parts (32 * x.queue)) (order (32 * x.queue)) (out (32 * x.queue)) e x a
      → Reaches d (parts_then g (32 * x.queue)) (order (32 * x.queue)) (out (32 * x.queue)) e x a
  stored_idle low e x a was =
      let m : ℕ = 32 * x.queue in
      ⊎_elim (λ (same : m ≡ n).
      subst (λ (j : ℕ). Reaches d (stored_parts parts j (32 * b) new m) (order m) (out m) e x a) same
      (reaches_idle_store d parts (order m) (out m) e (32 * b) x old new a (ap (λ (j : ℕ). parts j (32 * b)) same ∙ g.stored) old_idle (partly_idle g.qtd d.made low)
      (λ c among. out_apart (order n) (32 * b) split.before split.after (storing.sorted p member streams ends parts order out b words k) c (subst (IsAmong c) (ap out same ∙ out_split) among)) was))
      (λ (differs : m ≢ n). subst (λ (part : Structures). Reaches d part (order m) (out m) e x a) (sym (put_beside parts n (32 * b) (Element new) m differs)) was) (cases_eq m n)

  tails_more : d.made < 8 → TailsStand d parts order out → TailsStand more (parts_then g) order (out_then out more g)
  tails_more low tails e x here meets =
      let m : ℕ = 32 * x.queue in
      subst (λ (xs : List ℕ). Reaches more (parts_then g m) (order m) xs e x (tail_of d e x)) (sym (out_more m))
      (reaches_by d d.command (suc d.made) (parts_then g m) (order m) (out m) e x (tail_of d e x) (stored_idle low e x (tail_of d e x) (tails e x here (met e x meets.there.kept meets.near))))

  -- ---- the last one

  newest_at : slice_get d.transfers (length d.transfers - 1) ≡ Some y
  newest_at = ap (slice_get d.transfers) (let last : length d.transfers - 1 ≡ g.number = (let newest = g.newest in omega (arith, newest)) in last) ∙ g.there

  tail_is : (e : ℕ) (x : Endpoint) → tail_of d e x ≡ 32 * (if y.endpoint == e then b else x.dummy)
  tail_is e x =
      ap (λ (c : Option Command). 32 * tail_block c (slice_get d.transfers (length d.transfers - 1)) e x.dummy) k.command
      ∙ ap (λ (o : Option Transfer). 32 * tail_block (Some (unfinished.Publish b words)) o e x.dummy) newest_at

  pub tail_here : tail_of d y.endpoint g.endpoint ≡ 32 * b
  tail_here = tail_is y.endpoint g.endpoint ∙ ap (λ (t : Bool). 32 * (if t then b else g.endpoint.dummy)) (eq-eqb y.endpoint y.endpoint refl)

  tail_beside : (e : ℕ) (x : Endpoint) → e ≢ y.endpoint → tail_of d e x ≡ 32 * x.dummy
  tail_beside e x differs = tail_is e x ∙ ap (λ (t : Bool). 32 * (if t then b else x.dummy)) (other_number y.endpoint e (λ same. differs (sym same)))

  lent_dummy : IsLent (slot_of d.book.slots g.endpoint.dummy)
  lent_dummy = storing.lent_dummy p member streams ends parts order out b words k

  queue_apart : (e : ℕ) (x : Endpoint) → slice_get d.endpoints e ≡ Some x → x.gone ≡ false → e ≢ y.endpoint → 32 * x.queue ≢ n
  queue_apart e x here kept differs same =
      differs
      (queues_same x.queue g.endpoint.queue e y.endpoint (same_blocks x.queue g.endpoint.queue same) (queue_placed d k.owners e x here (k.turns.asynchronous.endpoints e x here) kept)
      (queue_placed d k.owners y.endpoint g.endpoint g.here (k.turns.asynchronous.endpoints y.endpoint g.endpoint g.here) own_met.there.kept))

  module _ (eighth : d.made ≡ 8) (stands : QueuesStand done member streams ends (parts_then g) order (out_then out done g)) (mem : IsQueuePart n (parts_then g n)) (tails : TailsStand d parts order out) where
    abbrev c : ℕ
    c = 32 * g.endpoint.dummy

    no_further : order n (32 * b) ≤ order n c
    no_further =
        ⊎_elim (λ (same : 32 * b ≡ c). let at = ap (order n) same in omega (arith, at))
        (λ (differs : 32 * b ≢ c). let less = stands.last.dummies y.endpoint g.endpoint g.here own_met.there.kept lent_dummy (32 * b) new (put_same parts n (32 * b) (Element new)) differs in omega (arith, less)) (cases_eq (32 * b) c)

    within_then : LinksWithin (order n) c (parts_then g n)
    within_then =
        sound_tail (order n) c n (parts_then g n) dummy_qtd mem (stands.fed.dummies y.endpoint g.endpoint g.here own_met.there.kept lent_dummy) refl (stands.last.dummies y.endpoint g.endpoint g.here own_met.there.kept lent_dummy)

    fresh_last : IsFresh (parts n) new
    fresh_last = subst (λ (j : ℕ). IsFresh (parts n) (partly g.qtd j)) (sym eighth) (let fresh : IsFresh (parts n) g.qtd = g.total ∙ sym (g.long k.made) in fresh)

    published : Reaches d (parts_then g n) (order n) (split.before ++ (32 * b) ∷ split.after) y.endpoint g.endpoint c
    published =
        reaches_last_store d parts (order n) split.before split.after y.endpoint (32 * b) g.endpoint old new c g.stored old_idle (ap (λ (j : ℕ). (partly g.qtd j).token.active) eighth ∙ g.active) (storing.sorted p member streams ends parts order out b words k) fresh_last
        no_further within_then
        (subst (λ (xs : List ℕ). Reaches d (parts n) (order n) xs y.endpoint g.endpoint (32 * b)) out_split
        (subst (λ (a : ℕ). Reaches d (parts n) (order n) (out n) y.endpoint g.endpoint a) tail_here (tails y.endpoint g.endpoint g.here own_met)))

    own_then : Reaches done (parts_then g n) (order n) (out_then out done g n) y.endpoint g.endpoint c
    own_then =
        subst (λ (xs : List ℕ). Reaches done (parts_then g n) (order n) xs y.endpoint g.endpoint c) (sym (out_here out n (out_now done y.endpoint) ∙ split.all))
        (reaches_by d None 0 (parts_then g n) (order n) (split.before ++ (32 * b) ∷ split.after) y.endpoint g.endpoint c published)

    beside_then : (e : ℕ) (x : Endpoint) → slice_get d.endpoints e ≡ Some x → IsMet d e x → e ≢ y.endpoint
        → Reaches done (parts_then g (32 * x.queue)) (order (32 * x.queue)) (out_then out done g (32 * x.queue)) e x (32 * x.dummy)
    beside_then e x here was differs =
        let m : ℕ = 32 * x.queue in
        let apart : m ≢ n = queue_apart e x here was.there.kept differs in
        subst (λ (xs : List ℕ). Reaches done (parts_then g m) (order m) xs e x (32 * x.dummy)) (sym (out_beside out n (out_now done y.endpoint) m apart))
        (subst (λ (part : Structures). Reaches done part (order m) (out m) e x (32 * x.dummy)) (sym (put_beside parts n (32 * b) (Element new) m apart))
        (reaches_by d None 0 (parts m) (order m) (out m) e x (32 * x.dummy) (subst (λ (a : ℕ). Reaches d (parts m) (order m) (out m) e x a) (tail_beside e x differs) (tails e x here was))))

    tails_done : TailsStand done (parts_then g) order (out_then out done g)
    tails_done e x here meets =
        ⊎_elim (λ (same : e ≡ y.endpoint).
        let is : x ≡ g.endpoint = same_Some x g.endpoint (sym here ∙ ap (slice_get d.endpoints) same ∙ g.here) in
        subst (λ (j : ℕ). Reaches done (parts_then g (32 * x.queue)) (order (32 * x.queue)) (out_then out done g (32 * x.queue)) j x (32 * x.dummy)) (sym same)
        (subst (λ (z : Endpoint). Reaches done (parts_then g (32 * z.queue)) (order (32 * z.queue)) (out_then out done g (32 * z.queue)) y.endpoint z (32 * z.dummy)) (sym is) own_then))
        (λ (differs : e ≢ y.endpoint). beside_then e x here (met e x meets.there.kept meets.near) differs) (cases_eq e y.endpoint)

  pub tails_then : QueuesStand (next_of p).driver member streams ends (parts_then g) order (out_then out (next_of p).driver g) → IsQueuePart n (parts_then g n) → TailsStand d parts order out
      → TailsStand (next_of p).driver (parts_then g) order (out_then out (next_of p).driver g)
  tails_then stands mem tails =
      by_store p member streams ends parts order out b words k
      (λ (f : DriverContent). QueuesStand f member streams ends (parts_then g) order (out_then out f g) → TailsStand f (parts_then g) order (out_then out f g))
      (λ low stands_now. tails_more low tails) (λ eighth stands_now. tails_done eighth stands_now mem tails) stands
