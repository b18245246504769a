-- An open of an endpoint of the ring is accepted: its queue head, which the walk may reach from then on, gets the height that the head of the ring had, and the head one more. It
-- leads to where the head does, and nothing leads to it yet.
use Rattle.std.proofs.Common.{◌≡◌, ◌≢◌, ℕ, suc, ◌*◌, ◌<◌, Bool, true, false, ◌||◌, nat_eq, if◌then◌else◌, List, [], ◌∷◌, ◌++◌, length, slice_get, Option, Some, None, ap, sym, subst, ◌∙◌, ⊎_elim, inl, inr, refl, arith}
use Rattle.std.specs.Prelude.{◌⊎◌}
use Rattle.std.specs.List.{AllByRecursion}
use Rattle.std.proofs.lemmas.Bool.{cases_eq, eq-eqb, ne_eqb}
use Rattle.std.proofs.lemmas.Option.{same_Some}
use Rattle.law_microframes.proofs.Common.{same_before}
use Rattle.law_ring.proofs.Common.{one_link}
use Rattle.law_common.proofs.Lists.{push_which, some_below}
use Rattle.law_driver.proofs.Common.{ring_queue, pushed as older_get, newest_get, among_later}
use Rattle.law_common.proofs.Numbers.{same_blocks}
use Rattle.word_mem.specs.Memory.{Mem}
use Rattle.link_words.specs.declared.kinds.Link.{Link}
use Rattle.link_words.specs.declared.kinds.Link.TheVariants as links
use Rattle.op_registers.specs.RegisterFile.{RegisterFile}
use Rattle.hc_copy.specs.declared.held.Held.{Held}
use Rattle.async_walk.specs.Walk.{Walk}
use Rattle.async_walk.specs.Rows.{cursor_link}
use Rattle.drv_chains.proofs.Linking.{weaken}
use Rattle.drv_table.specs.declared.content.Endpoint.{Endpoint}
use Rattle.drv_table.specs.declared.content.Command.TheVariants as unfinished
use Rattle.drv_table.specs.DriverContent.{DriverContent}
use Rattle.drv_table.specs.Words.{head_block, queue_head_link}
use Rattle.drv_table.specs.Accepting.{newest_of}
use Rattle.drv_table.specs.Kinds.{is_iso}
use Rattle.claims_driver.specs.Leaving.{HasOwners}
use Rattle.claims_driver.specs.Ring.{link_in, IsQueueOf, IsAmong, first, later}
use Rattle.law_driver.specs.ring_members.Words.{AreLeaving, IsOpening, IsRing}
use Rattle.law_driver.specs.ring_members.Links.{newest_from}
use Rattle.law_driver.proofs.lemmas.ring_members.Links.{LeadsTo, newest_is}
use Rattle.law_driver.proofs.lemmas.ring_members.Placed.{has_queue, in_ring_alive, queue_off_head, queues_apart}
use Rattle.law_driver.proofs.lemmas.ring_members.Events.{stands_as}
use Rattle.claims_driver.specs.Walk.{IsReached, at_head, at_member, at_waiting, at_rung, LeadsOn, IsWalkIn}
use Rattle.law_driver_ring.proofs.lemmas.walk_members.Driving.{Reaches}
use Rattle.law_driver_ring.proofs.lemmas.walk_members.Leading.{WordLeads, reached_leads, among_front}
use Rattle.law_queues.specs.reached_rings.Reaching.{is_reached, ReachedAt}
use Rattle.law_queues.proofs.lemmas.reached_rings.Computing.{reached_is_reached}
use Rattle.law_microframes.specs.visits.Ranks.{next_of}
use Rattle.law_microframes.specs.time.Heights.{head_at, LinksFall, AreFalling}
use Rattle.law_microframes.specs.time.Rounds.{link_from, link_ahead, IsBehind}
use Rattle.law_microframes.proofs.lemmas.time.RingWords.{IsAlive, reached_alive}
use Rattle.law_microframes.proofs.lemmas.time.LinksFalling.{next_is, reached_at, reached_on}

-- ---- one more endpoint

record IsThereAt (xs : List Endpoint) (g : ℕ) : Type 0 where
  endpoint : Endpoint
  here : slice_get xs g ≡ Some endpoint

among_there : (word : ℕ → ℕ) (xs : List Endpoint) (es : List ℕ) (g : ℕ) → AreLeaving word xs es → IsAmong g es → IsThereAt xs g
among_there word xs [] g all a = elim a [ ]
among_there word xs (e ∷ es) g all (first _) = record { endpoint = all.0.endpoint; here = all.0.here }
among_there word xs (e ∷ es) g all (later _ _ rest) = among_there word xs es g all.1 rest

module _ (word : ℕ → ℕ) (d f : DriverContent) (rings : Bool) (y : Endpoint) (leaving : AreLeaving word d.endpoints (d.rung ++ d.waiting)) (ends : f.endpoints ≡ d.endpoints ++ y ∷ [])
    (ws : f.waiting ≡ d.waiting) (rs : f.rung ≡ d.rung) where
  was_there : (g b : ℕ) → IsAmong g (d.rung ++ d.waiting) → IsQueueOf f.endpoints g b → IsQueueOf d.endpoints g b
  was_there g b a at =
      let there : IsThereAt d.endpoints g = among_there word d.endpoints (d.rung ++ d.waiting) g leaving a in
      let now : slice_get f.endpoints g ≡ Some there.endpoint = ap (λ (xs : List Endpoint). slice_get xs g) ends ∙ older_get d.endpoints y g there.endpoint there.here in
      record { endpoint = there.endpoint; here = there.here; queue = ap (λ (z : Endpoint). z.queue) (same_Some there.endpoint at.endpoint (sym now ∙ at.here)) ∙ at.queue }

  pub pushed_back : (b : ℕ) → IsReached f rings b → IsReached d rings b ⊎ ((b ≡ y.queue) × (y.linked ≡ true))
  pushed_back b (at_head h) = inl (at_head h)
  pushed_back b (at_member g at l) =
      ⊎_elim {C = IsReached d rings b ⊎ ((b ≡ y.queue) × (y.linked ≡ true))}
      (λ (old : slice_get d.endpoints g ≡ Some at.endpoint). inl (at_member g (record { endpoint = at.endpoint; here = old; queue = at.queue }) l))
      (λ (new : (g ≡ length d.endpoints) × (at.endpoint ≡ y)). inr (sym at.queue ∙ ap (λ (z : Endpoint). z.queue) new.1, ap (λ (z : Endpoint). z.linked) (sym new.1) ∙ l))
      (push_which d.endpoints y g at.endpoint (ap (λ (xs : List Endpoint). slice_get xs g) (sym ends) ∙ at.here))
  pushed_back b (at_waiting g at a) =
      let w : IsAmong g d.waiting = subst (λ (es : List ℕ). IsAmong g es) ws a in inl (at_waiting g (was_there g b (among_later g d.rung d.waiting w) at) w)
  pushed_back b (at_rung g at a r) =
      let w : IsAmong g d.rung = subst (λ (es : List ℕ). IsAmong g es) rs a in inl (at_rung g (was_there g b (among_front g d.rung d.waiting w) at) w r)

-- ---- where the walk goes on

pub ahead_reached : (d : DriverContent) (r : RegisterFile) (walk : Walk) (k : ℕ) → IsWalkIn d r walk → link_ahead r walk ≡ links.Qh k → is_reached d r.doorbell k ≡ true
ahead_reached d r walk k in_ring leads = by walk.held refl leads
  where
    leads_on : (l : Link) → LeadsOn d r.doorbell l → l ≡ links.Qh k → is_reached d r.doorbell k ≡ true
    leads_on l on is = reached_at d r.doorbell k on.block (one_link k (32 * on.block) (sym is ∙ on.is)) on.reached

    by : (o : Option Held) → walk.held ≡ o → link_from o (cursor_link r walk.cursor) ≡ links.Qh k → is_reached d r.doorbell k ≡ true
    by None none is = leads_on (cursor_link r walk.cursor) in_ring.cursor is
    by (Some h) held is = leads_on (link_from (Some h) (cursor_link r walk.cursor)) (in_ring.copy h held).next is

both_all : {X : Type 0} (P Q R : X → Type 0) → ((x : X) → P x → Q x → R x) → (xs : List X) → AllByRecursion P xs → AllByRecursion Q xs → AllByRecursion R xs
both_all P Q R h [] p q = tt
both_all P Q R h (x ∷ xs) p q = (h x p.0 q.0, both_all P Q R h xs p.1 q.1)

-- ---- the heights then

module _ (m mem : Mem) (d f : DriverContent) (rings : Bool) (y : Endpoint) (owned : HasOwners d) (owners : HasOwners f) (ring : IsRing (link_in m) d) (ring_then : IsRing (link_in mem) f)
    (ends : f.endpoints ≡ d.endpoints ++ y ∷ []) (ws : f.waiting ≡ d.waiting) (rs : f.rung ≡ d.rung) (command : f.command ≡ Some (unfinished.Open y.queue)) (linked : y.linked ≡ true)
    (links_stay : (n : ℕ) → is_reached d rings n ≡ true → next_of mem n ≡ next_of m n) (height : ℕ → ℕ) (old : LinksFall m d rings height) where
  abbrev name : ℕ
  name = 32 * y.queue

  abbrev pub raised : ℕ → ℕ
  raised n = if nat_eq n (32 * y.queue) then height head_at else (if nat_eq n head_at then suc (height head_at) else height n)

  new_here : slice_get f.endpoints (length d.endpoints) ≡ Some y
  new_here = ap (λ (xs : List Endpoint). slice_get xs (length d.endpoints)) ends ∙ newest_get d.endpoints y

  new_alive : is_iso y.desc.kind || y.gone ≡ false
  new_alive = in_ring_alive f (length d.endpoints) y owners.orderly new_here linked

  off_head : y.queue ≢ head_block
  off_head = queue_off_head f (length d.endpoints) y owners new_here new_alive

  fresh : IsReached d rings y.queue → ⊥
  fresh reached =
      ⊎_elim (λ (h : y.queue ≡ head_block). off_head h)
      (λ (a : IsAlive d y.queue).
      queues_apart f a.number (length d.endpoints) a.endpoint y owners
      (ap (λ (xs : List Endpoint). slice_get xs a.number) ends ∙ older_get d.endpoints y a.number a.endpoint a.here)
      (has_queue a.endpoint (ring_queue a.endpoint.desc.kind a.ring) a.alive) new_here new_alive
      (λ same. let low = some_below d.endpoints a.number a.endpoint a.here in omega (arith, low, same)) a.queue)
      (reached_alive d rings y.queue owned.orderly reached)

  other_name : (n : ℕ) → is_reached d rings n ≡ true → n ≢ 32 * y.queue
  other_name n on same =
      let at : ReachedAt d rings n = reached_is_reached d rings n on in
      fresh (subst (IsReached d rings) (same_blocks at.block y.queue (sym at.at ∙ same)) at.reached)

  head_apart : head_at ≢ 32 * y.queue
  head_apart same = off_head (same_blocks y.queue head_block (sym same))

  new_height : (n : ℕ) → n ≡ 32 * y.queue → raised n ≡ height head_at
  new_height n same = ap (λ (b : Bool). if b then height head_at else (if nat_eq n head_at then suc (height head_at) else height n)) (eq-eqb n (32 * y.queue) same)

  head_height : (n : ℕ) → n ≢ 32 * y.queue → n ≡ head_at → raised n ≡ suc (height head_at)
  head_height n differs same =
      ap (λ (b : Bool). if b then height head_at else (if nat_eq n head_at then suc (height head_at) else height n)) (ne_eqb n (32 * y.queue) differs)
      ∙ ap (λ (b : Bool). if b then suc (height head_at) else height n) (eq-eqb n head_at same)

  old_height : (n : ℕ) → n ≢ 32 * y.queue → n ≢ head_at → raised n ≡ height n
  old_height n differs other =
      ap (λ (b : Bool). if b then height head_at else (if nat_eq n head_at then suc (height head_at) else height n)) (ne_eqb n (32 * y.queue) differs)
      ∙ ap (λ (b : Bool). if b then suc (height head_at) else height n) (ne_eqb n head_at other)

  -- those that were lower are so still
  mono : (a b : ℕ) → is_reached d rings a ≡ true → is_reached d rings b ≡ true → height a < height b → raised a < raised b
  mono a b on_a on_b less =
      ⊎_elim
      (λ (top : a ≡ head_at).
      let h_a : height a ≡ height head_at = ap height top in
      ⊎_elim (λ (same : b ≡ head_at). let h_b : height b ≡ height head_at = ap height same in absurd (omega (arith, less, h_a, h_b)))
      (λ (differs : b ≢ head_at). let low : height b < height head_at = old.below_head b on_b differs in absurd (omega (arith, less, h_a, low))) (cases_eq b head_at))
      (λ (not_top : a ≢ head_at).
      let r_a : raised a ≡ height a = old_height a (other_name a on_a) not_top in
      ⊎_elim
      (λ (same : b ≡ head_at).
      let r_b : raised b ≡ suc (height head_at) = head_height b (other_name b on_b) same in
      let h_b : height b ≡ height head_at = ap height same in
      omega (arith, less, r_a, r_b, h_b))
      (λ (differs : b ≢ head_at). let r_b : raised b ≡ height b = old_height b (other_name b on_b) differs in omega (arith, less, r_a, r_b)) (cases_eq b head_at)) (cases_eq a head_at)

  -- ---- links

  leads_reached : (n k : ℕ) → is_reached d rings n ≡ true → next_of m n ≡ Some k → is_reached d rings k ≡ true
  leads_reached n k on leads =
      let at : ReachedAt d rings n = reached_is_reached d rings n on in
      let l : WordLeads d rings (link_in m at.block) = reached_leads (link_in m) d rings at.block ring at.reached in
      reached_at d rings k l.to (same_Some k (32 * l.to) (sym leads ∙ next_is m n at.block l.to at.at l.link)) l.reached

  opening : IsOpening (link_in mem) f.endpoints y.queue
  opening = stands_as (link_in mem) f (unfinished.Open y.queue) command ring_then

  older_is : opening.older ≡ d.endpoints
  older_is = same_before opening.older d.endpoints opening.new y (sym opening.all ∙ ends)

  new_leads : next_of mem (32 * y.queue) ≡ Some (32 * newest_of d.endpoints)
  new_leads = next_is mem (32 * y.queue) y.queue (newest_of d.endpoints) refl (opening.link ∙ ap (λ (xs : List Endpoint). queue_head_link (newest_of xs)) older_is)

  newest_reached : (k : ℕ) → k ≡ 32 * newest_of d.endpoints → k ≢ head_at → is_reached d rings k ≡ true
  newest_reached k is other =
      ⊎_elim (λ (h : newest_from head_block d.endpoints ≡ head_block). absurd (other (is ∙ ap (λ (b : ℕ). 32 * b) h)))
      (λ (l : LeadsTo d.endpoints (newest_from head_block d.endpoints)).
      reached_at d rings k (newest_of d.endpoints) is (at_member l.number (record { endpoint = l.endpoint; here = l.here; queue = l.queue }) l.linked))
      (newest_is head_block d.endpoints)

  before : (b : ℕ) → IsReached f rings b → IsReached d rings b ⊎ ((b ≡ y.queue) × (y.linked ≡ true))
  before b reached = pushed_back (link_in m) d f rings y ring.leaving ends ws rs b reached

  falls_then : (n k : ℕ) → is_reached f rings n ≡ true → next_of mem n ≡ Some k → k ≢ head_at → raised k < raised n
  falls_then n k on leads other =
      let at : ReachedAt f rings n = reached_is_reached f rings n on in
      ⊎_elim
      (λ (was : IsReached d rings at.block).
      let on_d : is_reached d rings n ≡ true = reached_at d rings n at.block at.at was in
      let lead : next_of m n ≡ Some k = sym (links_stay n on_d) ∙ leads in
      mono k n (leads_reached n k on_d lead) on_d (old.falls n k on_d lead other))
      (λ (new : (at.block ≡ y.queue) × (y.linked ≡ true)).
      let n_is : n ≡ 32 * y.queue = at.at ∙ ap (λ (b : ℕ). 32 * b) new.0 in
      let k_is : k ≡ 32 * newest_of d.endpoints = same_Some k (32 * newest_of d.endpoints) (sym leads ∙ ap (next_of mem) n_is ∙ new_leads) in
      let on_k : is_reached d rings k ≡ true = newest_reached k k_is other in
      let low : height k < height head_at = old.below_head k on_k other in
      let r_k : raised k ≡ height k = old_height k (other_name k on_k) other in
      let r_n : raised n ≡ height head_at = new_height n n_is in
      omega (arith, low, r_k, r_n)) (before at.block at.reached)

  below_then : (n : ℕ) → is_reached f rings n ≡ true → n ≢ head_at → raised n < raised head_at
  below_then n on other =
      let at : ReachedAt f rings n = reached_is_reached f rings n on in
      let top : raised head_at ≡ suc (height head_at) = head_height head_at head_apart refl in
      ⊎_elim
      (λ (was : IsReached d rings at.block).
      let on_d : is_reached d rings n ≡ true = reached_at d rings n at.block at.at was in
      let low : height n < height head_at = old.below_head n on_d other in
      let r_n : raised n ≡ height n = old_height n (other_name n on_d) other in
      omega (arith, low, r_n, top))
      (λ (new : (at.block ≡ y.queue) × (y.linked ≡ true)).
      let r_n : raised n ≡ height head_at = new_height n (at.at ∙ ap (λ (b : ℕ). 32 * b) new.0) in
      omega (arith, r_n, top)) (before at.block at.reached)

  pub links_then : LinksFall mem f rings raised
  links_then = record { falls = falls_then; below_head = below_then }

  -- ---- what was visited

  lower_all : (k : ℕ) (vs : List ℕ) → is_reached d rings k ≡ true → AllByRecursion (λ v. is_reached d rings v ≡ true) vs → AllByRecursion (λ v. height k < height v) vs
      → AllByRecursion (λ v. raised k < raised v) vs
  lower_all k vs on all less =
      both_all (λ (v : ℕ). is_reached d rings v ≡ true) (λ (v : ℕ). height k < height v) (λ (v : ℕ). raised k < raised v) (λ v on_v low. mono k v on on_v low) vs all less

  falling_then : (vs : List ℕ) → AllByRecursion (λ v. is_reached d rings v ≡ true) vs → AreFalling height vs → AreFalling raised vs
  falling_then [] all falling = tt
  falling_then (v ∷ vs) all falling = (lower_all v vs all.0 all.1 falling.0, falling_then vs all.1 falling.1)

  pub behind_then : (r : RegisterFile) (walk : Walk) (vs : List ℕ) → rings ≡ r.doorbell → IsWalkIn d r walk → Reaches d rings f rings → IsBehind d height r walk vs → IsBehind f raised r walk vs
  behind_then r walk vs same in_ring on b =
      let all : AllByRecursion (λ (v : ℕ). is_reached d rings v ≡ true) vs = subst (λ (t : Bool). AllByRecursion (λ (v : ℕ). is_reached d t v ≡ true) vs) (sym same) b.reached in
      record {
        falling = falling_then vs all b.falling;
        reached = subst (λ (t : Bool). AllByRecursion (λ (v : ℕ). is_reached f t v ≡ true) vs) same
            (weaken (λ (v : ℕ). is_reached d rings v ≡ true) (λ (v : ℕ). is_reached f rings v ≡ true) (reached_on d f rings rings on) vs all);
        next = λ k leads other.
            lower_all k vs (subst (λ (t : Bool). is_reached d t k ≡ true) (sym same) (ahead_reached d r walk k in_ring leads)) all (b.next k leads other);
        in_hand = b.in_hand;
      }
