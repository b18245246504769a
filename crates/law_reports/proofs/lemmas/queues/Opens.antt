-- An endpoint is opened: its queue head leads to its inactive qTD, and nothing of its queue was left behind.
use Rattle.std.proofs.Common.{◌≡◌, ◌≢◌, ℕ, ◌*◌, Bool, true, false, if◌then◌else◌, List, [], ◌∷◌, Option, Some, None, Result, Ok, ap, refl, sym, subst, ◌∙◌, ⊎_elim, inl, inr, arith}
use Rattle.std.specs.Prelude.{◌⊎◌}
use Rattle.std.proofs.lemmas.Bool.{cases_eq, false≢true}
use Rattle.law_reports.proofs.Common.{none_opens}
use Rattle.law_world.proofs.Common.{member_beside}
use Rattle.law_common.proofs.Numbers.{other_number}
use Rattle.law_structures.proofs.Common.{element_is}
use Rattle.qh_qtd.specs.declared.qtd.Qtd.{Qtd}
use Rattle.qh_qtd.specs.declared.queue_head.Qh.{Qh}
use Rattle.qh_qtd.specs.QueueHead.{qh_words, qh_read, IsQhInRange}
use Rattle.qh_qtd.proofs.QhLaws.{qh_read-words}
use Rattle.hc_copy.specs.Visits.{next_pointer}
use Rattle.word_mem.specs.Views.{words_at}
use Rattle.drv_table.specs.declared.content.Command.{Command}
use Rattle.drv_table.specs.declared.content.Command.TheVariants as unfinished
use Rattle.drv_table.specs.DriverContent.{DriverContent}
use Rattle.drv_table.specs.Words.{queue_head, dummy_qtd}
use Rattle.claims_driver.specs.Owners.{EndpointRuns, runs_of_endpoint}
use Rattle.law_driver.specs.queued_drivers.Queued.{queued, queued_command, queued_made}
use Rattle.law_driver.proofs.lemmas.queued_drivers.RowOwners.{queued_has_owners}
use Rattle.law_structures.specs.lent_structures.Structures.{QueueHead, Element, StructureSets, put}
use Rattle.law_structures.proofs.lemmas.lent_structures.Names.{put_beside, put_found}
use Rattle.law_structures.proofs.lemmas.lent_structures.Altering.{found_element, same_queue}
use Rattle.law_ring.specs.Told.{Endpoint as Told}
use Rattle.law_controller.specs.controlled_streams.Opened.{with_end}
use Rattle.law_driver_ring.specs.LendOpened.{IsOpened}
use Rattle.law_queues.specs.open_laws.Lends.{IsOpenReady}
use Rattle.law_queues.specs.open_laws.Opens.{IsOpenLent, end_then}
use Rattle.law_queues.specs.open_laws.Queues.{IsOpenToLend, IsOpenThere, parts_opened}
use Rattle.bus_world.specs.World.{World}
use Rattle.law_world.specs.memory.framed_memory.Chained.{chained_queue}
use Rattle.law_world.specs.memory.Mixed.{IsChainToLend, IsChainThere, IsUnderWay, Standing, IsMixedAt}
use Rattle.law_world.specs.memory.Steps.{HasOpened}
use Rattle.law_world.proofs.lemmas.memory.lemmas.pipe_steps.Begins.{opening_apart}
use Rattle.law_reports.specs.queues.Onward.{LeadsOnward, StandsOnward}
use Rattle.law_reports.specs.queues.OnwardLaws.{GoOnward}
use Rattle.law_reports.proofs.lemmas.queues.Quiet.{spared_onward}
use Rattle.law_reports.proofs.lemmas.queues.Spared.{IsSpared, spared_same, spared_relinked, spared_links, spared_stands, stores, none_stored}

-- ---- the queue head that was written

same_ok : (X : Type 0) (q r : Qh) → ◌≡◌ {A = Result Qh X} (Ok q) (Ok r) → q ≡ r
same_ok X q r is = cc

same_head : (q r : Qh) → IsQhInRange q → IsQhInRange r → qh_words q ≡ qh_words r → q ≡ r
same_head q r one other same = same_ok _ q r (sym (qh_read-words q one) ∙ ap qh_read same ∙ qh_read-words r other)

first_of : (a b : ℕ) (xs ys : List ℕ) → a ∷ xs ≡ b ∷ ys → a ≡ b
first_of a b xs ys same = cc

module _ (s : Standing) (w : World) (mixed : IsMixedAt s w) (k : IsOpenToLend (queued w.driver) w.memory) where
  abbrev d : DriverContent
  d = w.driver

  -- it is the one whose words stand in memory
  written : (number : ℕ) (x : EndpointRuns) (q : Qh) → IsOpened w.driver w.memory number x q → k.queue ≡ q
  written number x q o =
      let first : k.endpoint.queue ≡ x.queue =
      first_of k.endpoint.queue x.queue (k.endpoint.dummy ∷ []) (x.dummy ∷ []) (sym k.opened.taken ∙ o.taken) in
      same_head k.queue q k.opened.range o.range
      (sym k.opened.queue_words ∙ ap (λ (c : ℕ). words_at w.memory (32 * c) 12) first ∙ o.queue_words)

  none_of : (c : Option Command) → w.driver.command ≡ c → queued_command w.driver.endpoints c ≡ Some (unfinished.Open k.endpoint.queue)
  none_of c is = sym (ap (queued_command d.endpoints) is) ∙ k.command

  made_of : (c : Option Command) → w.driver.command ≡ c → queued_made c w.driver.made ≡ 0
  made_of c is = sym (ap (λ (o : Option Command). queued_made o d.made) is) ∙ k.made

  leads_by : (c : Option Command) → w.driver.command ≡ c → IsUnderWay w.driver w.memory s.member s.recent s.parts c
      → (next_pointer k.queue).t ≡ false
  leads_by (Some (unfinished.Open queue)) is u =
      ⊎_elim
      (λ (r : IsOpenReady w.driver w.memory).
      ap (λ (q : Qh). (next_pointer q).t)
      (written r.number (runs_of_endpoint r.endpoint) (queue_head r.endpoint.desc r.link r.endpoint.dummy) r.opened))
      (λ (l : IsOpenLent w.driver s.member s.parts).
      let none = made_of (Some (unfinished.Open queue)) is in
      let one = l.made in
      absurd (omega (arith, none, one))) u
  leads_by (Some unfinished.Chain) is u =
      ⊎_elim
      (λ (t : IsChainToLend w.driver w.memory).
      ap (λ (q : Qh). (next_pointer q).t)
      (written t.ready.number (runs_of_endpoint t.ready.endpoint)
      (chained_queue t.ready.endpoint t.ready.place t.ready.link) t.ready.opened))
      (λ (t : IsChainThere w.driver s.member s.recent s.parts).
      let none : 1 ≡ 0 = ap (queued_made (Some unfinished.Chain)) (sym t.lent.made) ∙ made_of (Some unfinished.Chain) is in
      absurd (omega (arith, none))) u
  leads_by (Some (unfinished.Publish b words)) is u = absurd (no_such (none_of (Some (unfinished.Publish b words)) is))
    where
      no_such : ◌≡◌ {A = Option Command} (Some (unfinished.Publish b words)) (Some (unfinished.Open k.endpoint.queue)) → ⊥
      no_such same = cc
  leads_by (Some (unfinished.Unlink e b link)) is u = absurd (no_such (none_of (Some (unfinished.Unlink e b link)) is))
    where
      no_such : ◌≡◌ {A = Option Command} (Some (unfinished.Unlink e b link)) (Some (unfinished.Open k.endpoint.queue)) → ⊥
      no_such same = cc
  leads_by (Some (unfinished.Iso e t count)) is u = absurd (none_opens (none_of (Some (unfinished.Iso e t count)) is))
  leads_by (Some (unfinished.Unchain e)) is u = absurd (none_opens (none_of (Some (unfinished.Unchain e)) is))
  leads_by None is u = absurd (none_opens (none_of None is))

  -- ---- its structures are lent

  abbrev n : ℕ
  n = 32 * k.endpoint.queue

  abbrev head : StructureSets
  head = put s.parts (32 * k.endpoint.queue) (32 * k.endpoint.queue) (QueueHead k.queue)

  abbrev now : StructureSets
  now = parts_opened k s.parts

  no_head : (u : Qtd) (q : Qh) → Element u ≡ QueueHead q → ⊥
  no_head u q e = cc

  opened_beside : (m : ℕ) → m ≢ n → now m ≡ s.parts m
  opened_beside m differs =
      put_beside head n (32 * k.endpoint.dummy) (Element dummy_qtd) m differs ∙ put_beside s.parts n n (QueueHead k.queue) m differs

  element_was : (m a : ℕ) (u : Qtd) → now m a ≡ Some (Element u) → (u ≡ dummy_qtd) ⊎ (s.parts m a ≡ Some (Element u))
  element_was m a u here =
      ⊎_elim (λ (is : (m ≡ n) × (a ≡ 32 * k.endpoint.dummy) × (Element u ≡ Element dummy_qtd)). inl (element_is u dummy_qtd is.2))
      (λ (mid : head m a ≡ Some (Element u)).
      ⊎_elim (λ (is : (m ≡ n) × (a ≡ n) × (Element u ≡ QueueHead k.queue)). absurd (no_head u k.queue is.2))
      (λ (was : s.parts m a ≡ Some (Element u)). inr was) (put_found s.parts n n (QueueHead k.queue) m a (Element u) mid))
      (put_found head n (32 * k.endpoint.dummy) (Element dummy_qtd) m a (Element u) here)

  head_was : (m : ℕ) (q : Qh) → now m m ≡ Some (QueueHead q) → (q ≡ k.queue) ⊎ (s.parts m m ≡ Some (QueueHead q))
  head_was m q here =
      ⊎_elim (λ (is : (m ≡ n) × (m ≡ 32 * k.endpoint.dummy) × (QueueHead q ≡ Element dummy_qtd)). absurd (no_head dummy_qtd q (sym is.2)))
      (λ (mid : head m m ≡ Some (QueueHead q)).
      ⊎_elim (λ (is : (m ≡ n) × (m ≡ n) × (QueueHead q ≡ QueueHead k.queue)). inl (same_queue q k.queue is.2))
      (λ (was : s.parts m m ≡ Some (QueueHead q)). inr was) (put_found s.parts n n (QueueHead k.queue) m m (QueueHead q) mid))
      (put_found head n (32 * k.endpoint.dummy) (Element dummy_qtd) m m (QueueHead q) here)

  opened_links : (m : ℕ) → LeadsOnward m (s.parts m) → LeadsOnward m (now m)
  opened_links m old = record {
    next = λ a u here on.
        ⊎_elim (λ (is : u ≡ dummy_qtd). absurd (false≢true (ap (λ (t : Qtd). t.token.active) (sym is) ∙ on)))
        (λ (was : s.parts m a ≡ Some (Element u)). old.next a u was on) (element_was m a u here);
    rest = λ q here off idle.
        ⊎_elim (λ (is : q ≡ k.queue). ap (λ (r : Qh). (next_pointer r).t) is ∙ leads_by w.driver.command refl mixed.under_way)
        (λ (was : s.parts m m ≡ Some (QueueHead q)). old.rest q was off idle) (head_was m q here);
  }

  pub begins_onward : (new : World) (t : Standing) → GoOnward s (queued w.driver) → t.near ≡ s.near → t.ends ≡ s.ends → t.order ≡ s.order
      → t.parts ≡ parts_opened k s.parts → GoOnward t (queued new.driver)
  begins_onward new t g near ends order parts =
      spared_onward s w new mixed g t (λ m on. sym (ap (λ (h : ℕ → Bool). h m) near) ∙ on) ends order
      (λ m other. subst (λ (ps : StructureSets). LeadsOnward m (ps m)) (sym parts) (opened_links m (g.links m other)))
      (λ m on other pipe.
      let differs : m ≢ n = opening_apart (queued w.driver) s.near k.number k.endpoint
      (queued_has_owners w.driver mixed.now.framed.place.sound.owners mixed.turns) mixed.queues.queues.met k.here k.command k.fresh m
      (sym (ap (λ (h : ℕ → Bool). h m) near) ∙ on) in
      spared_same m (s.parts m) (t.parts m) (ap (λ (ps : StructureSets). ps m) parts ∙ opened_beside m differs))
      (λ m a un. absurd (none_stored (queued w.driver) (queued w.driver).command m a refl (ap stores k.command) un))

-- ---- the open is finished

end_beside : (ends : ℕ → Told) (n k : ℕ) (y : Told) → k ≢ n → with_end ends n y k ≡ ends k
end_beside ends n k y differs = ap (λ (b : Bool). if b then y else ends k) (other_number k n differs)

module _ (s t : Standing) (w new : World) (k : IsOpenThere (queued w.driver) s.parts) (o : HasOpened s t k.endpoint)
    (g : GoOnward s (queued w.driver)) where
  abbrev f : DriverContent
  f = queued new.driver

  abbrev m : ℕ
  m = 32 * k.endpoint.queue

  same : (n : ℕ) → IsSpared n (s.parts n) (t.parts n)
  same n = spared_relinked n (s.parts n) (t.parts n) (o.told.parts n)

  -- there is its inactive qTD alone
  alone : (a : ℕ) (u : Qtd) → t.parts m a ≡ Some (Element u) → (a ≡ 32 * k.endpoint.dummy) × (u ≡ dummy_qtd)
  alone a u here =
      let was : s.parts m a ≡ Some (Element u) = (same m).were a u here in
      let at : a ≡ 32 * k.endpoint.dummy = k.part.only a u was in
      (at, found_element (s.parts m a) u dummy_qtd was (ap (s.parts m) at ∙ k.part.dummy))

  new_stands : (order : ℕ → ℕ) (q : Qh) → StandsOnward order f m (t.parts m) q
  new_stands order q = record {
    active = λ a u here on before. absurd (false≢true (ap (λ (r : Qtd). r.token.active) (sym (alone a u here).1) ∙ on));
    done = λ a u here idle. inr (inl (λ b v there differs. absurd (differs ((alone b v there).0 ∙ sym (alone a u here).0))));
  }

  pub opens_onward : GoOnward t (queued new.driver)
  opens_onward = record {
    links = λ n other. spared_links n (s.parts n) (t.parts n) (same n) (g.links n other);
    stand = λ n q on other pipe here off.
        ⊎_elim (λ (is : n ≡ m). subst (λ (i : ℕ). StandsOnward (t.order n) f i (t.parts i) q) (sym is) (new_stands (t.order n) q))
        (λ (differs : n ≢ m).
        let near : s.near n ≡ true = member_beside s.near m n differs (sym (ap (λ (h : ℕ → Bool). h n) o.near) ∙ on) in
        let quiet : (s.ends n).dtc ≡ false = ap (λ (e : Told). e.dtc) (sym (ap (λ (h : ℕ → Told). h n) o.ends
        ∙ end_beside s.ends m n (end_then k.endpoint) differs)) ∙ pipe in
        subst (λ (h : ℕ → ℕ → ℕ). StandsOnward (h n) f n (t.parts n) q) (sym o.order)
        (spared_stands (s.order n) (queued w.driver) f n (s.parts n) (t.parts n) (same n)
        (λ a un. absurd (none_stored (queued w.driver) (queued w.driver).command n a refl (ap stores k.command) un))
        (λ r there awake. g.stand n r near other quiet there awake) q here off)) (cases_eq n m);
  }
