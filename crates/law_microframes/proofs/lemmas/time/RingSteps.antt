-- The two stores of the ring: where links led down they do so again. The one links a queue head, which led to where the head of the ring did; the other leads past a queue head
-- to where it leads.
use Rattle.std.proofs.Common.{◌≡◌, ◌≢◌, ℕ, zero, suc, ◌*◌, ◌<◌, Bool, true, if◌then◌else◌, List, [], ◌∷◌, length, take, drop, slice_get, Some, ap, sym, subst, ◌∙◌, ⊎_elim, refl, arith}
use Rattle.std.proofs.lemmas.Bool.{cases_eq}
use Rattle.std.proofs.lemmas.Option.{same_Some}
use Rattle.law_world.proofs.Common.{oldest_leads}
use Rattle.law_driver.proofs.Common.{stored_as, newest_get}
use Rattle.word_mem.specs.Memory.{Mem}
use Rattle.link_words.specs.Links.{link_read}
use Rattle.mem_runs.specs.Book.{Holding, holding, store}
use Rattle.drv_table.specs.declared.content.Endpoint.{Endpoint}
use Rattle.drv_table.specs.declared.content.Command.TheVariants as unfinished
use Rattle.drv_table.specs.declared.rows.DriverRow.TheVariants as rows
use Rattle.drv_table.specs.DriverContent.{DriverContent}
use Rattle.drv_table.specs.Words.{head_block, queue_head_link}
use Rattle.drv_table.specs.Accepting.{newest_of, oldest_of}
use Rattle.drv_table.specs.Parts.{Parts}
use Rattle.drv_table.specs.Commands.{events_of, advance}
use Rattle.claims_driver.specs.Ring.{link_in}
use Rattle.law_driver.specs.ring_members.Words.{step_to, AreLinked, IsOpening, IsUnlinking}
use Rattle.law_driver.specs.in_place.InPlace.{IsSound}
use Rattle.law_driver.proofs.lemmas.ring_members.Leaving.{link_at}
use Rattle.law_driver.proofs.lemmas.ring_members.Placed.{in_ring_alive, stored_here, stored_there, queue_off_head}
use Rattle.law_driver.proofs.lemmas.ring_members.Events.{stands_as, open_store, unlink_store}
use Rattle.claims_driver.specs.Walk.{IsReached, at_member}
use Rattle.law_queues.specs.reached_rings.Reaching.{is_reached, ReachedAt}
use Rattle.law_queues.proofs.lemmas.reached_rings.Computing.{reached_is_reached}
use Rattle.law_microframes.specs.visits.Ranks.{name_of, next_of}
use Rattle.law_microframes.specs.time.Heights.{head_at, LinksFall}
use Rattle.law_microframes.proofs.lemmas.time.ReachedBefore.{advance_back}
use Rattle.law_microframes.proofs.lemmas.time.RingWords.{reached_run}
use Rattle.law_microframes.proofs.lemmas.time.LinksFalling.{next_is, next_by, reached_at, reached_on}

-- ---- the ring as its words tell it

pub same_word : (m : Mem) (a b : ℕ) → link_in m a ≡ link_in m b → next_of m (32 * a) ≡ next_of m (32 * b)
same_word m a b same = next_by m (32 * a) a refl ∙ ap (λ (v : ℕ). name_of (link_read v)) same ∙ sym (next_by m (32 * b) b refl)

-- so the one before an endpoint leads to it
pub before_leads : (word : ℕ → ℕ) (b : ℕ) (xs : List Endpoint) (e : ℕ) (x : Endpoint) → slice_get xs e ≡ Some x → x.linked ≡ true → AreLinked word b xs
    → word (oldest_of (drop (suc e) xs)) ≡ queue_head_link x.queue
before_leads word b [] e x here on linked = absurd (cc)
before_leads word b (y ∷ xs) zero x here on linked =
    let same : y ≡ x = same_Some y x here in
    oldest_leads word x.queue xs
    (subst (λ (c : ℕ). AreLinked word c xs) (ap (step_to b) same ∙ ap (λ (t : Bool). if t then x.queue else b) on) linked.1)
before_leads word b (y ∷ xs) (suc e) x here on linked = before_leads word (step_to b y) xs e x here on linked.1

-- ---- a store of a command

module _ (p : Parts) (rings : Bool) (sound : IsSound p.memory p.driver) (height : ℕ → ℕ) (old : LinksFall p.memory p.driver rings height) where
  abbrev d : DriverContent
  d = p.driver

  abbrev h : Holding
  h = holding p.driver.book p.memory

  was : (n : ℕ) → is_reached (advance p.driver) rings n ≡ true → is_reached p.driver rings n ≡ true
  was n on = reached_on (advance d) d rings rings (advance_back d rings) n on

  -- one store, of the link of a queue head that is reached
  module _ (c v to : ℕ) (value : v ≡ queue_head_link to)
      (down : (k : ℕ) → k ≡ 32 * to → is_reached p.driver rings (32 * c) ≡ true → k ≢ head_at → height k < height (32 * c)) where
    abbrev mem : Mem
    mem = store p.driver.book p.memory c (32 * c) v

    falls_by : (n k : ℕ) → is_reached (advance p.driver) rings n ≡ true → next_of (store p.driver.book p.memory c (32 * c) v) n ≡ Some k → k ≢ head_at → height k < height n
    falls_by n k on leads other =
        let on_d : is_reached d rings n ≡ true = was n on in
        let at : ReachedAt d rings n = reached_is_reached d rings n on_d in
        ⊎_elim
        (λ (same : at.block ≡ c).
        let n_is : n ≡ 32 * c = at.at ∙ ap (λ (b : ℕ). 32 * b) same in
        let now : link_in mem c ≡ queue_head_link to
        = stored_here h c v sound.stands sound.shape (reached_run d rings c sound.owners (subst (IsReached d rings) same at.reached)) ∙ value in
        let k_is : k ≡ 32 * to = same_Some k (32 * to) (sym leads ∙ next_is mem n c to n_is now) in
        subst (λ (i : ℕ). height k < height i) (sym n_is) (down k k_is (ap (is_reached d rings) (sym n_is) ∙ on_d) other))
        (λ (differs : at.block ≢ c).
        let stays : link_in mem at.block ≡ link_in p.memory at.block = stored_there d.book p.memory c v at.block differs in
        old.falls n k on_d
        (same_block n at.block at.at (sym stays) ∙ leads) other) (cases_eq at.block c)
      where
        same_block : (n b : ℕ) → n ≡ 32 * b → link_in p.memory b ≡ link_in (store p.driver.book p.memory c (32 * c) v) b
            → next_of p.memory n ≡ next_of (store p.driver.book p.memory c (32 * c) v) n
        same_block n b at same = next_by p.memory n b at ∙ ap (λ (x : ℕ). name_of (link_read x)) same ∙ sym (next_by (store p.driver.book p.memory c (32 * c) v) n b at)

    falls_then : LinksFall (store p.driver.book p.memory c (32 * c) v) (advance p.driver) rings height
    falls_then = record { falls = falls_by; below_head = λ n on other. old.below_head n (was n on) other }

  -- the head leads to a new queue head, which the walk may reach from the open on
  pub open_falls : (q b at v : ℕ) → p.driver.command ≡ Some (unfinished.Open q) → slice_get (events_of (unfinished.Open q)) p.driver.made ≡ Some (rows.Store b at v)
      → LinksFall (store p.driver.book p.memory b at v) (advance p.driver) rings height
  open_falls q b at v is next =
      let s = open_store q d.made b at v next in
      let o : IsOpening (link_in p.memory) d.endpoints q = stands_as (link_in p.memory) d (unfinished.Open q) is sound.ring in
      let new : slice_get d.endpoints (length o.older) ≡ Some o.new = ap (λ (xs : List Endpoint). slice_get xs (length o.older)) o.all ∙ newest_get o.older o.new in
      let reached : IsReached d rings q = at_member (length o.older) (record { endpoint = o.new; here = new; queue = o.here }) o.linked in
      stored_as (λ (m : Mem). LinksFall m (advance d) rings height) d.book p.memory b head_block at (32 * head_block) v (queue_head_link q) s.1.0.0 s.1.0.1 s.1.1
      (falls_then head_block (queue_head_link q) q refl (λ k is_it on other. old.below_head k (reached_at d rings k q is_it reached) other))

  -- the queue head before one that leaves leads past it
  pub unlink_falls : (e f link b at v : ℕ) → p.driver.command ≡ Some (unfinished.Unlink e f link) → slice_get (events_of (unfinished.Unlink e f link)) p.driver.made ≡ Some (rows.Store b at v)
      → LinksFall (store p.driver.book p.memory b at v) (advance p.driver) rings height
  unlink_falls e f link b at v is next =
      let s = unlink_store e f link d.made b at v next in
      let u : IsUnlinking (link_in p.memory) d.endpoints e f link = stands_as (link_in p.memory) d (unfinished.Unlink e f link) is sound.ring in
      let x : Endpoint = u.endpoint in
      let reached : IsReached d rings x.queue = at_member e (record { endpoint = x; here = u.here; queue = refl }) u.linked in
      let to : ℕ = newest_of (take e d.endpoints) in
      let own : next_of p.memory (32 * x.queue) ≡ Some (32 * to) = next_is p.memory (32 * x.queue) x.queue to refl (link_at (link_in p.memory) head_block d.endpoints e x u.here u.linked u.ring) in
      let before : next_of p.memory (32 * f) ≡ Some (32 * x.queue)
      = next_is p.memory (32 * f) f x.queue refl (ap (link_in p.memory) u.from ∙ before_leads (link_in p.memory) head_block d.endpoints e x u.here u.linked u.ring) in
      let off : 32 * x.queue ≢ head_at
      = λ same. queue_off_head d e x sound.owners u.here (in_ring_alive d e x sound.owners.orderly u.here u.linked) (one_block x.queue head_block same) in
      stored_as (λ (m : Mem). LinksFall m (advance d) rings height) d.book p.memory b f at (32 * f) v link s.1.0.0 s.1.0.1 s.1.1
      (falls_then f link to u.over
      (λ k is_it on other.
      let one : height k < height (32 * x.queue) = old.falls (32 * x.queue) k (reached_at d rings (32 * x.queue) x.queue refl reached) (own ∙ ap (λ (i : ℕ). Some i) (sym is_it)) other in
      let two : height (32 * x.queue) < height (32 * f) = old.falls (32 * f) (32 * x.queue) on before off in
      omega (arith, one, two)))
    where
      one_block : (a b : ℕ) → 32 * a ≡ 32 * b → a ≡ b
      one_block a b same = omega (arith, same)
