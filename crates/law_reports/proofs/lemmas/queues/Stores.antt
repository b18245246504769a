-- A word of a transfer's first qTD is stored: no queue head has come past it yet, and once it is active its queue goes on there.
use Rattle.std.proofs.Common.{◌≡◌, ◌≢◌, ℕ, ◌-◌, ◌*◌, ◌<◌, ◌≤◌, ◌⊎◌, Bool, true, false, if◌then◌else◌, List, length, slice_get, Option, Some, ap, refl, sym, subst, ◌∙◌, ⊎_elim, inl, inr, arith}
use Rattle.std.proofs.lemmas.Bool.{cases_eq, cases_lt, eq-eqb, false≢true}
use Rattle.std.proofs.lemmas.Option.{same_Some}
use Rattle.law_world.proofs.Common.{no_open, same_block, none_some}
use Rattle.law_ring.proofs.Common.{no_element}
use Rattle.law_driver_ring.proofs.Common.{partly_idle}
use Rattle.link_words.specs.declared.fields.ShortLink.{ShortLink}
use Rattle.qh_qtd.specs.declared.qtd.Qtd.{Qtd}
use Rattle.qh_qtd.specs.declared.queue_head.Qh.{Qh}
use Rattle.drv_table.specs.declared.content.Command.{Command}
use Rattle.drv_table.specs.declared.content.Command.TheVariants as unfinished
use Rattle.drv_table.specs.declared.content.Endpoint.{Endpoint}
use Rattle.drv_table.specs.declared.content.Transfer.{Transfer}
use Rattle.drv_table.specs.DriverContent.{DriverContent}
use Rattle.law_driver.specs.queued_drivers.Queued.{queued, queued_command}
use Rattle.law_driver.proofs.lemmas.queued_drivers.RowOwners.{queued_are_lent}
use Rattle.law_structures.specs.lent_structures.Structures.{QueueHead, Element, Structures, StructureSets}
use Rattle.law_structures.proofs.lemmas.lent_structures.Names.{put_same, put_else, put_beside, put_found}
use Rattle.law_structures.proofs.lemmas.lent_structures.Altering.{found_element}
use Rattle.law_controller.specs.controlled_streams.Storing.{stored_parts}
use Rattle.law_driver_ring.specs.Published.{partly}
use Rattle.law_driver_ring.specs.fed_queues.Fed.{IsPublished}
use Rattle.law_driver_ring.specs.fed_queues.Places.{IsLast, IsMet}
use Rattle.law_driver_ring.proofs.lemmas.fed_queues.Places.{stands_met}
use Rattle.law_queues.specs.publish_laws.Stores.{parts_then}
use Rattle.law_queues.specs.standing_fronts.Tails.{tail_block, tail_of}
use Rattle.bus_world.specs.World.{World}
use Rattle.law_world.specs.memory.Mixed.{Standing, IsMixedAt}
use Rattle.law_world.specs.memory.Steps.{told_parts, IsNextStore}
use Rattle.law_world.proofs.lemmas.memory.HarvestKept.{owners_of}
use Rattle.law_world.proofs.lemmas.memory.PublishStores.{IsStoring, then_more}
use Rattle.law_reports.specs.queues.Onward.{LeadsOnward, place_of, IsSkipped, IsUnpublished, StandsOnward}
use Rattle.law_reports.proofs.lemmas.queues.Passing.{last_fewer}
use Rattle.law_reports.proofs.lemmas.queues.Places.{place_most}
use Rattle.law_reports.proofs.lemmas.queues.Spared.{spared_same, spared_stands}

module _ (s : Standing) (w new : World) (mixed : IsMixedAt s w) (b : ℕ) (words : List ℕ)
    (g : IsPublished (queued w.driver) s.parts b words) (next : IsNextStore s w new b words g) where
  abbrev d : DriverContent
  d = queued w.driver

  abbrev f : DriverContent
  f = queued new.driver

  abbrev n : ℕ
  n = 32 * g.endpoint.queue

  abbrev part : Structures
  part = s.parts (32 * g.endpoint.queue)

  abbrev o : ℕ → ℕ
  o = s.order (32 * g.endpoint.queue)

  abbrev old : Qtd
  old = partly g.qtd ((queued w.driver).made - 1)

  abbrev stored : Qtd
  stored = partly g.qtd (queued w.driver).made

  abbrev now : StructureSets
  now = stored_parts s.parts (32 * g.endpoint.queue) (32 * b) (partly g.qtd (queued w.driver).made)

  met : IsMet (queued w.driver) g.transfer.endpoint g.endpoint
  met = stands_met (queued w.driver) g.transfer.endpoint g.endpoint
      (mixed.turns.turns.asynchronous.endpoints g.transfer.endpoint g.endpoint g.here) g.going
      (λ is. no_open b g.endpoint.queue words (sym next.command ∙ is))

  off : (partly g.qtd ((queued w.driver).made - 1)).token.active ≡ false
  off = partly_idle g.qtd ((queued w.driver).made - 1) (let some = next.made in let few = g.few in omega (arith, some, few))

  newest_is : slice_get (queued w.driver).transfers (length (queued w.driver).transfers - 1) ≡ Some g.transfer
  newest_is =
      ap (slice_get d.transfers) (let last : length d.transfers - 1 ≡ g.number = (let one = g.newest in omega (arith, one)) in last)
      ∙ g.there

  tail_is : tail_of (queued w.driver) g.transfer.endpoint g.endpoint ≡ 32 * b
  tail_is =
      ap (λ (c : Option Command). 32 * tail_block c (slice_get d.transfers (length d.transfers - 1)) g.transfer.endpoint g.endpoint.dummy)
      next.command
      ∙ ap (λ (t : Option Transfer). 32 * tail_block (Some (unfinished.Publish b words)) t g.transfer.endpoint g.endpoint.dummy) newest_is
      ∙ ap (λ (t : Bool). 32 * (if t then b else g.endpoint.dummy)) (eq-eqb g.transfer.endpoint g.transfer.endpoint refl)

  most : (q : Qh) → part n ≡ Some (QueueHead q) → q.token.halted ≡ false → place_of o q ≤ o (32 * b)
  most q here awake =
      subst (λ (c : ℕ). place_of o q ≤ o c) tail_is
      (place_most d part o (s.out n) g.transfer.endpoint g.endpoint (tail_of d g.transfer.endpoint g.endpoint)
      (mixed.queues.tails g.transfer.endpoint g.endpoint g.here met) q here awake)

  -- ---- before the last store

  publish_not_iso : (e t count : ℕ) → w.driver.command ≡ Some (unfinished.Iso e t count) → ⊥
  publish_not_iso e t count iso =
      none_some (unfinished.Publish b words) (sym (ap (queued_command w.driver.endpoints) iso) ∙ next.command)

  storing : IsStoring (queued w.driver) s.near s.streams s.ends s.parts s.order s.out b words
  storing = record {
    command = next.command;
    made = next.made;
    owners = owners_of s w mixed;
    lent = queued_are_lent w.driver mixed.now.framed.place.lent (λ e t count iso. absurd (publish_not_iso e t count iso));
    turns = mixed.turns.turns;
    queues = mixed.queues.queues;
  }

  still_storing : (a : ℕ) → a ≡ 32 * b → (partly g.qtd (queued w.driver).made).token.active ≡ false → IsUnpublished f n a
  still_storing a at quiet =
      let some = next.made in
      let few = g.few in
      ⊎_elim
      (λ (low : d.made < 8).
      let more = then_more (told_parts w) s.near s.streams s.ends s.parts s.order s.out b words storing (omega (arith, low, some)) in
      record {
        block = b;
        words = words;
        command = ap (λ (c : DriverContent). c.command) (next.told ∙ more) ∙ next.command;
        lent = (let made = ap (λ (c : DriverContent). c.made) (next.told ∙ more) in omega (arith, made));
        at = at;
        transfer = g.transfer;
        newest = ap (λ (c : DriverContent). slice_get c.transfers (length c.transfers - 1)) (next.told ∙ more) ∙ newest_is;
        endpoint = g.endpoint;
        here = ap (λ (c : DriverContent). slice_get c.endpoints g.transfer.endpoint) (next.told ∙ more) ∙ g.here;
        its = refl;
      })
      (λ (over : 8 ≤ d.made).
      let eighth : d.made ≡ 8 = omega (arith, few, over) in
      absurd (false≢true (sym quiet ∙ ap (λ (j : ℕ). (partly g.qtd j).token.active) eighth ∙ g.active)))
      (cases_lt d.made 8)

  -- ---- the links

  stored_next : (partly g.qtd (queued w.driver).made).token.active ≡ true → (partly g.qtd (queued w.driver).made).next.t ≡ false
  stored_next on =
      let few = g.few in
      ⊎_elim (λ (low : d.made < 8). absurd (false≢true (sym (partly_idle g.qtd d.made low) ∙ on)))
      (λ (over : 8 ≤ d.made).
      let eighth : d.made ≡ 8 = omega (arith, few, over) in
      ap (λ (j : ℕ). (partly g.qtd j).next.t) eighth ∙ ap (λ (l : ShortLink). l.t) g.noted.next)
      (cases_lt d.made 8)

  -- a queue head stood there
  head_was : (q : Qh) → now n n ≡ Some (QueueHead q) → part n ≡ Some (QueueHead q)
  head_was q here =
      ⊎_elim (λ (is : (n ≡ n) × (n ≡ 32 * b) × (QueueHead q ≡ Element stored)). absurd (no_element q stored is.2))
      (λ (was : part n ≡ Some (QueueHead q)). was) (put_found s.parts n (32 * b) (Element stored) n n (QueueHead q) here)

  -- each other qTD did so
  was_else : (a : ℕ) (u : Qtd) → a ≢ 32 * b → now n a ≡ Some (Element u) → part a ≡ Some (Element u)
  was_else a u differs here = sym (put_else s.parts n (32 * b) (Element stored) a differs) ∙ here

  is_stored : (a : ℕ) (u : Qtd) → a ≡ 32 * b → now n a ≡ Some (Element u) → stored ≡ u
  is_stored a u same here = found_element (now n a) stored u (ap (now n) same ∙ put_same s.parts n (32 * b) (Element stored)) here

  its_links : LeadsOnward n part → LeadsOnward n (now n)
  its_links k = record {
    next = λ a u here on.
        ⊎_elim
        (λ (same : a ≡ 32 * b).
        let one = is_stored a u same here in
        ap (λ (t : Qtd). t.next.t) (sym one) ∙ stored_next (ap (λ (t : Qtd). t.token.active) one ∙ on))
        (λ (differs : a ≢ 32 * b). k.next a u (was_else a u differs here) on) (cases_eq a (32 * b));
    rest = λ q here awake quiet. k.rest q (head_was q here) awake quiet;
  }

  pub stored_links : (m : ℕ) → LeadsOnward m (s.parts m) → LeadsOnward m (parts_then g m)
  stored_links m k =
      ⊎_elim (λ (same : m ≡ n). subst (λ (i : ℕ). LeadsOnward i (now i)) (sym same)
      (its_links (subst (λ (i : ℕ). LeadsOnward i (s.parts i)) same k)))
      (λ (differs : m ≢ n). subst (LeadsOnward m) (sym (put_beside s.parts n (32 * b) (Element stored) m differs)) k) (cases_eq m n)

  -- ---- how far it has come

  were : (a : ℕ) (u : Qtd) → now n a ≡ Some (Element u) → (t : Qtd) × (part a ≡ Some (Element t))
  were a u here =
      ⊎_elim (λ (same : a ≡ 32 * b). (old, ap part same ∙ g.stored))
      (λ (differs : a ≢ 32 * b). (u, was_else a u differs here)) (cases_eq a (32 * b))

  skipped : (q : Qh) (a : ℕ) → part n ≡ Some (QueueHead q) → q.token.halted ≡ false → o a < place_of o q → IsSkipped o part a
      → IsSkipped o (now n) a
  skipped q a here awake before z =
      let bound = most q here awake in
      let from = z.from in
      let differs : z.by ≢ 32 * b = λ same. let e = ap o same in omega (arith, bound, from, before, e) in
      record {
        by = z.by;
        qtd = z.qtd;
        here = put_else s.parts n (32 * b) (Element stored) z.by differs ∙ z.here;
        done = z.done;
        to = z.to;
        leads = z.leads;
        from = z.from;
        past = z.past;
      }

  its_stands : ((q : Qh) → s.parts n n ≡ Some (QueueHead q) → q.token.halted ≡ false → StandsOnward (s.order n) d n (s.parts n) q)
      → (q : Qh) → now n n ≡ Some (QueueHead q) → q.token.halted ≡ false → StandsOnward (s.order n) f n (now n) q
  its_stands stand q here awake =
      let was = head_was q here in
      let k : StandsOnward o d n part q = stand q was awake in
      let bound = most q was awake in
      record {
        active = λ a u there on before.
            let differs : a ≢ 32 * b = λ same. let e = ap o same in omega (arith, bound, before, e) in
            skipped q a was awake before (k.active a u (was_else a u differs there) on before);
        done = λ a u there quiet.
            ⊎_elim
            (λ (same : a ≡ 32 * b).
            inr (inr (still_storing a same (ap (λ (t : Qtd). t.token.active) (is_stored a u same there) ∙ quiet))))
            (λ (differs : a ≢ 32 * b).
            ⊎_elim (λ (before : o a < place_of o q). inl before)
            (λ (rest : IsLast o part a ⊎ IsUnpublished d n a).
            ⊎_elim (λ (last : IsLast o part a). inr (inl (last_fewer o part (now n) a were last)))
            (λ (un : IsUnpublished d n a).
            absurd (differs (un.at ∙ ap (λ (c : ℕ). 32 * c) (same_block un.block b un.words words (sym un.command ∙ next.command))))) rest)
            (k.done a u (was_else a u differs there) quiet)) (cases_eq a (32 * b));
      }

  -- of another queue nothing is stored
  none_else : (m a : ℕ) → m ≢ n → IsUnpublished d m a → IsUnpublished f m a
  none_else m a differs un =
      let transfer : un.transfer ≡ g.transfer = same_Some un.transfer g.transfer (sym un.newest ∙ newest_is) in
      let endpoint : un.endpoint ≡ g.endpoint = same_Some un.endpoint g.endpoint
      (sym un.here ∙ ap (λ (t : Transfer). slice_get d.endpoints t.endpoint) transfer ∙ g.here) in
      absurd (differs (un.its ∙ ap (λ (x : Endpoint). 32 * x.queue) endpoint))

  pub stored_stands : (m : ℕ)
      → ((q : Qh) → s.parts m m ≡ Some (QueueHead q) → q.token.halted ≡ false → StandsOnward (s.order m) (queued w.driver) m (s.parts m) q)
      → (q : Qh) → parts_then g m m ≡ Some (QueueHead q) → q.token.halted ≡ false
      → StandsOnward (s.order m) (queued new.driver) m (parts_then g m) q
  stored_stands m stand =
      ⊎_elim
      (λ (same : m ≡ n).
      subst (λ (i : ℕ). (q : Qh) → now i i ≡ Some (QueueHead q) → q.token.halted ≡ false → StandsOnward (s.order i) f i (now i) q)
      (sym same)
      (its_stands (subst (λ (i : ℕ). (q : Qh) → s.parts i i ≡ Some (QueueHead q) → q.token.halted ≡ false
      → StandsOnward (s.order i) d i (s.parts i) q) same stand)))
      (λ (differs : m ≢ n).
      spared_stands (s.order m) d f m (s.parts m) (now m)
      (spared_same m (s.parts m) (now m) (put_beside s.parts n (32 * b) (Element stored) m differs))
      (λ a un. none_else m a differs un) stand)
      (cases_eq m n)
