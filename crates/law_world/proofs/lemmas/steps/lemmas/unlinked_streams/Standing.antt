-- The words of the ring tell which queue head leads to that of the endpoint, and where this one leads.
use Rattle.std.proofs.Common.{◌≡◌, ℕ, zero, suc, ◌+◌, ◌*◌, ◌/◌, ◌%◌, ◌==◌, Bool, true, false, cond, List, [], ◌∷◌, drop, take, get_or, slice_get, Some, None, ap, refl, sym, subst, ◌∙◌, ⊎_elim, arith}
use Rattle.std.specs.Result.{result_ok}
use Rattle.law_world.proofs.Common.{oldest_leads}
use Rattle.law_driver_ring.proofs.Common.{unless_is}
use Rattle.law_driver.proofs.Common.{get_drop}
use Rattle.word_mem.specs.Memory.{Mem, word_at}
use Rattle.word_mem.specs.Views.{words_at}
use Rattle.word_mem.proofs.Words.{get_or-words_in}
use Rattle.link_words.specs.Fields.{link_at}
use Rattle.qh_qtd.specs.declared.queue_head.Qh.{Qh}
use Rattle.qh_qtd.specs.QueueHead.{qh_read, qh_at, qh_bad}
use Rattle.mem_queues.specs.Structures.{queue_head_at_address, reaches_queue_head}
use Rattle.mem_runs.specs.Book.{holding, slot_of}
use Rattle.drv_table.specs.declared.content.Endpoint.{Endpoint}
use Rattle.drv_table.specs.declared.content.Command.TheVariants as unfinished
use Rattle.drv_table.specs.DriverContent.{DriverContent}
use Rattle.drv_table.specs.Words.{head_block, to_queue_head, queue_head_link}
use Rattle.drv_table.specs.Accepting.{newest_of, oldest_of}
use Rattle.claims_driver.specs.Owners.{HasRun}
use Rattle.claims_driver.specs.Ring.{link_in}
use Rattle.law_driver.specs.ring_members.Words.{step_to, LeadsFrom, AreLinked, IsUnlinking, StandsFor}
use Rattle.law_driver.specs.in_place.InPlace.{IsSound}
use Rattle.law_driver.proofs.lemmas.ring_members.Links.{LeadsTo, oldest_is}
use Rattle.law_driver.proofs.lemmas.ring_members.Leaving.{link_at as word_from}
use Rattle.law_driver.proofs.lemmas.ring_members.Placed.{can_begin, in_ring_alive, queue_run, head_run_there}
use Rattle.law_structures.specs.lent_structures.Structures.{QueueHead, StructureSets, Tells}
use Rattle.law_structures.proofs.lemmas.lent_structures.Reading.{head_read}
use Rattle.law_structures.specs.lent_structures.Sound.{IsMember}
use Rattle.law_ring.specs.Streams.{AreMembers}
use Rattle.law_world.specs.steps.unlinked_streams.Unlinks.{IsAtUnlink, MeetsRing, UnlinkStands}

-- ---- the link of a queue head by its word

read_is : (ws : List ℕ) (q : Qh) → result_ok (qh_read ws) ≡ Some q → qh_at ws ≡ q
unfolding qh_read
read_is ws q e = unless_is (qh_bad ws) (qh_at ws) q e

there_is : (b : Bool) (ws : List ℕ) (q : Qh) → cond b (result_ok (qh_read ws)) None ≡ Some q → qh_at ws ≡ q
there_is true ws q e = read_is ws q e
there_is false ws q e = absurd (cc)

link_in_words : (ws : List ℕ) → (qh_at ws).link ≡ link_at (get_or ws 0 0)
unfolding qh_at
link_in_words ws = refl

read_link : (m : Mem) (b : ℕ) (q : Qh) → queue_head_at_address m (32 * b) ≡ Some q → q.link ≡ link_at (word_at m (32 * b))
read_link m b q there =
    let same = there_is (reaches_queue_head m (32 * b)) (words_at m (32 * b) 12) q there in
    let at : (32 * b + 4 * 0) / 4 ≡ 32 * b / 4 = omega arith in
    ap (λ (z : Qh). z.link) (sym same) ∙ link_in_words (words_at m (32 * b) 12) ∙ ap link_at (get_or-words_in m.words (32 * b) 12 0 (omega arith) ∙ ap (λ i. get_or m.words i 0) at)

-- the word of a link to a queue head says so
link_told : (b : ℕ) → link_at (queue_head_link b) ≡ to_queue_head b
link_told b =
    let whole : (32 * b + 2) / 32 * 32 ≡ 32 * b = omega arith in
    let kind : (32 * b + 2) / 2 % 4 ≡ 1 = omega arith in
    let last : (32 * b + 2) / 1 % 2 ≡ 0 = omega arith in
    told whole kind last
  where
    told : (32 * b + 2) / 32 * 32 ≡ 32 * b → (32 * b + 2) / 2 % 4 ≡ 1 → (32 * b + 2) / 1 % 2 ≡ 0 → link_at (queue_head_link b) ≡ to_queue_head b
    told whole kind last =
        ap (λ (i : ℕ). record (link_at (queue_head_link b)) { t = i == 1 }) last
        ∙ ap (λ (i : ℕ). record (link_at (queue_head_link b)) { t = false; typ = i }) kind
        ∙ ap (λ (i : ℕ). record (link_at (queue_head_link b)) { t = false; typ = 1; address = i }) whole

told_by : (m : Mem) (parts : StructureSets) (b c : ℕ) (q : Qh) → Tells m parts → parts (32 * b) (32 * b) ≡ Some (QueueHead q) → link_in m b ≡ queue_head_link c → q.link ≡ to_queue_head c
told_by m parts b c q tells here word = read_link m b q (head_read m parts (32 * b) (32 * b) q tells here) ∙ ap link_at word ∙ link_told c

-- ---- what leads to one in the ring

-- the first in the ring, or the head, leads to the block that came before
first_by : (word : ℕ → ℕ) (a : ℕ) (x : Endpoint) (xs : List Endpoint) (on : Bool) → LeadsFrom word on x.queue a → AreLinked word (cond on x.queue a) xs → (AreLinked word a xs → word (oldest_of xs) ≡ queue_head_link a) → word (cond on x.queue (oldest_of xs)) ≡ queue_head_link a
first_by word a x xs true leads linked rest = leads
first_by word a x xs false leads linked rest = rest linked

leads_to : (word : ℕ → ℕ) (a : ℕ) (xs : List Endpoint) (e : ℕ) (x : Endpoint) → slice_get xs e ≡ Some x → x.linked ≡ true → AreLinked word a xs → word (oldest_of (drop (suc e) xs)) ≡ queue_head_link x.queue
leads_to word a [] e x here on linked = absurd (cc)
leads_to word a (y ∷ xs) zero x here on linked =
    let same : y ≡ x = cc in
    subst (λ (z : Endpoint). word (oldest_of xs) ≡ queue_head_link z.queue) same
    (oldest_leads word y.queue xs (subst (λ (t : Bool). AreLinked word (cond t y.queue a) xs) (ap (λ (z : Endpoint). z.linked) same ∙ on)
    linked.1))
leads_to word a (y ∷ xs) (suc e) x here on linked = leads_to word (step_to a y) xs e x here on linked.1

-- ---- the premises

-- a block of the ring: the head, or the queue head of an endpoint in it
pub record IsInRing (d : DriverContent) (member : ℕ → Bool) (b : ℕ) : Type 0 where
  pub run : HasRun (slot_of d.book.slots b)
  pub on : member (32 * b) ≡ true

in_ring : (d : DriverContent) (m : Mem) (member : ℕ → Bool) (e : ℕ) → IsSound m d → MeetsRing d member → IsInRing d member (oldest_of (drop (suc e) d.endpoints))
in_ring d m member e sound meets =
    let b = oldest_of (drop (suc e) d.endpoints) in
    ⊎_elim (λ (head : b ≡ head_block). subst (IsInRing d member) (sym head) (record { run = head_run_there d sound.owners; on = meets.head }))
    (λ (l : LeadsTo (drop (suc e) d.endpoints) b).
    let here : slice_get d.endpoints (suc e + l.number) ≡ Some l.endpoint = sym (get_drop d.endpoints (suc e) l.number) ∙ l.here in
    subst (IsInRing d member) l.queue (record {
      run = queue_run d (suc e + l.number) l.endpoint sound.owners here (in_ring_alive d (suc e + l.number) l.endpoint sound.owners.orderly here l.linked);
      on = meets.each (suc e + l.number) l.endpoint here l.linked;
    })) (oldest_is (drop (suc e) d.endpoints))

module _ (d : DriverContent) (m : Mem) (member : ℕ → Bool) (parts : StructureSets) (e before link : ℕ) (command : d.command ≡ Some (unfinished.Unlink e before link)) (made : d.made ≡ 0) (sound : IsSound m d) (tells : Tells m parts) (meets : MeetsRing d member)
    (members : AreMembers member parts) where
  abbrev word : ℕ → ℕ
  word = link_in m

  unlinking : IsUnlinking word d.endpoints e before link
  unlinking = subst (StandsFor word d.endpoints d.transfers) command sound.ring.ring

  abbrev after : ℕ
  after = newest_of (take e d.endpoints)

  abbrev x : Endpoint
  x = unlinking.endpoint

  from : IsInRing d member before
  from = subst (IsInRing d member) (sym unlinking.from) (in_ring d m member e sound meets)

  found : (b : ℕ) → member (32 * b) ≡ true → IsMember member (32 * b) (parts (32 * b))
  found b on = members (32 * b) on

  abbrev first : IsMember member (32 * before) (parts (32 * before))
  first = found before from.on

  abbrev second : IsMember member (32 * x.queue) (parts (32 * x.queue))
  second = found x.queue (meets.each e x unlinking.here unlinking.linked)

  first_word : word before ≡ queue_head_link x.queue
  first_word = ap word unlinking.from ∙ leads_to word head_block d.endpoints e x unlinking.here unlinking.linked unlinking.ring

  second_word : word x.queue ≡ queue_head_link after
  second_word = word_from word head_block d.endpoints e x unlinking.here unlinking.linked unlinking.ring

  pub stands_at : IsAtUnlink d member parts
  stands_at = record {
    number = e;
    endpoint = x;
    here = unlinking.here;
    linked = unlinking.linked;
    cancelled = unlinking.cancelled;
    before = before;
    after = after;
    command = command ∙ ap (λ (v : ℕ). Some (unfinished.Unlink e before v)) unlinking.over;
    made = made;
    can = can_begin (holding d.book m) before sound.stands from.run;
    met = from.on;
    queue = first.queue;
    head = first.here;
    leads = told_by m parts before x.queue first.queue tells first.here first_word;
    own = second.queue;
    there = second.here;
    onward = told_by m parts x.queue after second.queue tells second.here second_word;
  }

pub unlink_stands : UnlinkStands
unlink_stands d m member parts e before link command made sound tells meets members = stands_at d m member parts e before link command made sound tells meets members
