-- The links of the ring as one word changes.
use Rattle.std.proofs.Common.{◌≡◌, ◌≢◌, ℕ, zero, suc, ◌+◌, Bool, true, false, cond, List, [], ◌∷◌, ◌++◌, take, drop, set, slice_get, Some, option_map, ap, sym, subst, ◌∙◌, inl, inr, refl, arith}
use Rattle.std.specs.Prelude.{◌⊎◌}
use Rattle.std.proofs.lemmas.Option.{same_Some}
use Rattle.law_driver.proofs.Common.{get_drop}
use Rattle.usb_base.specs.declared.endpoints.EpDesc.{EpDesc}
use Rattle.drv_table.specs.declared.content.Endpoint.{Endpoint}
use Rattle.drv_table.specs.Words.{head_block, queue_head_link}
use Rattle.drv_table.specs.Accepting.{oldest_of}
use Rattle.claims_driver.specs.Ring.{members_from, members, IsChain}
use Rattle.law_driver.specs.ring_members.Words.{step_to, LeadsFrom, AreLinked}
use Rattle.law_driver.specs.ring_members.Links.{newest_from}

-- ---- the words of the ring stay

leads_kept : (word now : ℕ → ℕ) (on : Bool) (q b : ℕ) → (on ≡ true → now q ≡ word q) → LeadsFrom word on q b → LeadsFrom now on q b
leads_kept word now true q b same leads = same refl ∙ leads
leads_kept word now false q b same leads = tt

pub linked_kept : (word now : ℕ → ℕ) (b : ℕ) (xs : List Endpoint) → ((i : ℕ) (x : Endpoint) → slice_get xs i ≡ Some x → x.linked ≡ true → now x.queue ≡ word x.queue) → now head_block ≡ word head_block → AreLinked word b xs → AreLinked now b xs
linked_kept word now b [] each head linked = head ∙ linked
linked_kept word now b (x ∷ xs) each head linked = (
  leads_kept word now x.linked x.queue b (λ on. each 0 x refl on) linked.0,
  linked_kept word now (step_to b x) xs (λ i y there on. each (suc i) y there on) head linked.1,
)

-- ---- queue heads in the ring stand in blocks of their own

pub record AreDistinct (xs : List Endpoint) : Type 0 where
  pub off_head : (i : ℕ) (x : Endpoint) → slice_get xs i ≡ Some x → x.linked ≡ true → x.queue ≢ head_block
  pub apart : (i j : ℕ) (x y : Endpoint) → slice_get xs i ≡ Some x → slice_get xs j ≡ Some y → x.linked ≡ true → y.linked ≡ true → i ≢ j → x.queue ≢ y.queue

pub rest_distinct : (x : Endpoint) (xs : List Endpoint) → AreDistinct (x ∷ xs) → AreDistinct xs
rest_distinct x xs all = record {
  off_head = λ i y there on. all.off_head (suc i) y there on;
  apart = λ i j y z here there on also differ. all.apart (suc i) (suc j) y z here there on also (λ same. differ (next i j same));
}
  where
    next : (i j : ℕ) → suc i ≡ suc j → i ≡ j
    next i j same = omega (arith, same)

-- a block that is neither the head's nor that of an endpoint in the ring doesn't lead to the newest
oldest_step : (q : ℕ) (on : Bool) (b c : ℕ) → (on ≡ true → b ≢ q) → c ≢ q → cond on b c ≢ q
oldest_step q true b c one other = one refl
oldest_step q false b c one other = other

pub oldest_not : (q : ℕ) (xs : List Endpoint) → head_block ≢ q → ((i : ℕ) (x : Endpoint) → slice_get xs i ≡ Some x → x.linked ≡ true → x.queue ≢ q) → oldest_of xs ≢ q
oldest_not q [] head each = head
oldest_not q (x ∷ xs) head each =
    oldest_step q x.linked x.queue (oldest_of xs) (λ on. each 0 x refl on) (oldest_not q xs head (λ i y there on. each (suc i) y there on))

-- ---- an endpoint leaves the ring

-- the first of those in the ring leads elsewhere now
relinked_at : (word now : ℕ → ℕ) (a b : ℕ) (x : Endpoint) (xs : List Endpoint) (on : Bool) → x.linked ≡ on → AreDistinct (x ∷ xs) → LeadsFrom word on x.queue a → AreLinked word (cond on x.queue a) xs → now (cond on x.queue (oldest_of xs)) ≡ queue_head_link b → ((c : ℕ) → c ≢ cond on x.queue (oldest_of xs) → now c ≡ word c) → (AreLinked word a xs → now (oldest_of xs) ≡ queue_head_link b → ((c : ℕ) → c ≢ oldest_of xs → now c ≡ word c) → AreLinked now b xs) → LeadsFrom now on x.queue b × AreLinked now (cond on x.queue b) xs
relinked_at word now a b x xs true on distinct leads linked there others rest = (
  there,
  linked_kept word now x.queue xs (λ i y here also. others y.queue (distinct.apart (suc i) 0 y x here refl also on (λ same. omega (arith, same))))
      (others head_block (λ same. distinct.off_head 0 x refl on (sym same))) linked,
)
relinked_at word now a b x xs false off distinct leads linked there others rest = (tt, rest linked there others)

pub relinked : (word now : ℕ → ℕ) (a b : ℕ) (xs : List Endpoint) → AreDistinct xs → AreLinked word a xs → now (oldest_of xs) ≡ queue_head_link b → ((c : ℕ) → c ≢ oldest_of xs → now c ≡ word c) → AreLinked now b xs
relinked word now a b [] distinct linked there others = there
relinked word now a b (x ∷ xs) distinct linked there others =
    relinked_at word now a b x xs x.linked refl distinct linked.0 linked.1 there others (λ l t o. relinked word now a b xs (rest_distinct x xs distinct) l t o)

passed_at : (word now : ℕ → ℕ) (b : ℕ) (x : Endpoint) (xs : List Endpoint) → x.linked ≡ true → AreDistinct (x ∷ xs) → AreLinked word b (x ∷ xs) → now (oldest_of xs) ≡ queue_head_link b → ((c : ℕ) → c ≢ oldest_of xs → now c ≡ word c) → AreLinked now b (record x { linked = false } ∷ xs)
passed_at word now b x xs on distinct linked there others =
    (tt, relinked word now x.queue b xs (rest_distinct x xs distinct) (subst (λ (t : Bool). AreLinked word (cond t x.queue b) xs) on linked.1) there others)

-- the link over the endpoint e is stored, and all others stay
pub passed : (word now : ℕ → ℕ) (b : ℕ) (xs : List Endpoint) (e : ℕ) (x : Endpoint) → slice_get xs e ≡ Some x → x.linked ≡ true → AreDistinct xs → AreLinked word b xs → now (oldest_of (drop (suc e) xs)) ≡ queue_head_link (newest_from b (take e xs)) → ((c : ℕ) → c ≢ oldest_of (drop (suc e) xs) → now c ≡ word c) → AreLinked now b (set xs e (record x { linked = false }))
passed word now b [] e x here on distinct linked there others = absurd (cc)
passed word now b (y ∷ xs) zero x here on distinct linked there others =
    let same : y ≡ x = cc in
    subst (λ (z : Endpoint). AreLinked now b (record z { linked = false } ∷ xs)) same
    (passed_at word now b y xs (ap (λ (z : Endpoint). z.linked) same ∙ on) distinct linked there others)
passed word now b (y ∷ xs) (suc e) x here on distinct linked there others = (
  leads_kept word now y.linked y.queue b
      (λ also. others y.queue (λ same.
      oldest_not y.queue (drop (suc e) xs) (λ h. distinct.off_head 0 y refl also (sym h))
      (λ i z at on2. distinct.apart (suc (suc e + i)) 0 z y (sym (get_drop xs (suc e) i) ∙ at) refl on2 also (λ k. omega (arith, k))) (sym same)))
      linked.0,
  passed word now (step_to b y) xs e x here on (rest_distinct y xs distinct) linked.1 there others,
)

-- ---- an endpoint joins the ring

-- the newest in the ring leads to the one before, and the head to it
pub joined : (word now : ℕ → ℕ) (b : ℕ) (xs : List Endpoint) (y : Endpoint) → y.linked ≡ true → ((i : ℕ) (x : Endpoint) → slice_get xs i ≡ Some x → x.linked ≡ true → now x.queue ≡ word x.queue) → now y.queue ≡ queue_head_link (newest_from b xs) → now head_block ≡ queue_head_link y.queue → AreLinked word b xs → AreLinked now b (xs ++ y ∷ [])
joined word now b [] y on each link head linked = (
  subst (λ (t : Bool). LeadsFrom now t y.queue b) (sym on) link,
  subst (λ (t : Bool). now head_block ≡ queue_head_link (cond t y.queue b)) (sym on) head,
)
joined word now b (x ∷ xs) y on each link head linked = (
  leads_kept word now x.linked x.queue b (λ also. each 0 x refl also) linked.0,
  joined word now (step_to b x) xs y on (λ i z there also. each (suc i) z there also) link head linked.1,
)

-- ---- endpoints that are in the ring as before

pub record RingOf : Type 0 where
  pub queue : ℕ
  pub linked : Bool
  pub cancelled : Bool
  pub desc : EpDesc

abbrev pub ring_of : Endpoint → RingOf
ring_of x = record { queue = x.queue; linked = x.linked; cancelled = x.cancelled; desc = x.desc }

abbrev pub SameRing : List Endpoint → List Endpoint → Type 0
SameRing xs ys = (i : ℕ) → option_map ring_of (slice_get ys i) ≡ option_map ring_of (slice_get xs i)

pub linked_same : (word : ℕ → ℕ) (b : ℕ) (xs ys : List Endpoint) → SameRing xs ys → AreLinked word b xs → AreLinked word b ys
linked_same word b [] [] same linked = linked
linked_same word b [] (y ∷ ys) same linked = let e = same 0 in absurd (cc)
linked_same word b (x ∷ xs) [] same linked = let e = same 0 in absurd (cc)
linked_same word b (x ∷ xs) (y ∷ ys) same linked =
    let e : ring_of x ≡ ring_of y = same_Some (ring_of x) (ring_of y) (sym (same 0)) in (
      subst (λ (r : RingOf). LeadsFrom word r.linked r.queue b) e linked.0,
      subst (λ (r : RingOf). AreLinked word (cond r.linked r.queue b) ys) e (linked_same word (step_to b x) xs ys (λ i. same (suc i)) linked.1),
    )

-- ---- the ring as it is read

-- a block, and the chain from it to the head
abbrev Begins : (ℕ → ℕ) → ℕ → List ℕ → Type 0
Begins word b [] = b ≡ head_block
Begins word b (c ∷ bs) = (b ≡ c) × IsChain word c bs

begun : (word : ℕ → ℕ) (a b : ℕ) (bs : List ℕ) → word a ≡ queue_head_link b → Begins word b bs → IsChain word a bs
begun word a b [] link begins = link ∙ ap queue_head_link begins
begun word a b (c ∷ bs) link begins = (link ∙ ap queue_head_link begins.0, begins.1)

grown : (word : ℕ → ℕ) (on : Bool) (q b : ℕ) (bs : List ℕ) → LeadsFrom word on q b → Begins word b bs → Begins word (cond on q b) (cond on (q ∷ bs) bs)
grown word true q b bs leads begins = (refl, begun word q b bs leads begins)
grown word false q b bs leads begins = begins

chained : (word : ℕ → ℕ) (b : ℕ) (bs : List ℕ) (xs : List Endpoint) → AreLinked word b xs → Begins word b bs → IsChain word head_block (members_from bs xs)
chained word b bs [] linked begins = begun word head_block b bs linked begins
chained word b bs (x ∷ xs) linked begins =
    chained word (step_to b x) (cond x.linked (x.queue ∷ bs) bs) xs linked.1 (grown word x.linked x.queue b bs linked.0 begins)

pub ring_is_read : (word : ℕ → ℕ) (xs : List Endpoint) → AreLinked word head_block xs → IsChain word head_block (members xs)
ring_is_read word xs linked = chained word head_block [] xs linked refl

-- ---- where a link leads

pub record LeadsTo (xs : List Endpoint) (b : ℕ) : Type 0 where
  pub number : ℕ
  pub endpoint : Endpoint
  pub here : slice_get xs number ≡ Some endpoint
  pub linked : endpoint.linked ≡ true
  pub queue : endpoint.queue ≡ b

newest_at : (b : ℕ) (x : Endpoint) (xs : List Endpoint) (on : Bool) → x.linked ≡ on → (newest_from (cond on x.queue b) xs ≡ cond on x.queue b) ⊎ LeadsTo xs (newest_from (cond on x.queue b) xs) → (newest_from (cond on x.queue b) xs ≡ b) ⊎ LeadsTo (x ∷ xs) (newest_from (cond on x.queue b) xs)
newest_at b x xs true on (inl e) = inr (record { number = 0; endpoint = x; here = refl; linked = on; queue = sym e })
newest_at b x xs false off (inl e) = inl e
newest_at b x xs true on (inr l) = inr (record { number = suc l.number; endpoint = l.endpoint; here = l.here; linked = l.linked; queue = l.queue })
newest_at b x xs false off (inr l) = inr (record { number = suc l.number; endpoint = l.endpoint; here = l.here; linked = l.linked; queue = l.queue })

pub newest_is : (b : ℕ) (xs : List Endpoint) → (newest_from b xs ≡ b) ⊎ LeadsTo xs (newest_from b xs)
newest_is b [] = inl refl
newest_is b (x ∷ xs) = newest_at b x xs x.linked refl (newest_is (step_to b x) xs)

oldest_at : (x : Endpoint) (xs : List Endpoint) (on : Bool) → x.linked ≡ on → (oldest_of xs ≡ head_block) ⊎ LeadsTo xs (oldest_of xs) → (cond on x.queue (oldest_of xs) ≡ head_block) ⊎ LeadsTo (x ∷ xs) (cond on x.queue (oldest_of xs))
oldest_at x xs true on rest = inr (record { number = 0; endpoint = x; here = refl; linked = on; queue = refl })
oldest_at x xs false off (inl e) = inl e
oldest_at x xs false off (inr l) = inr (record { number = suc l.number; endpoint = l.endpoint; here = l.here; linked = l.linked; queue = l.queue })

pub oldest_is : (xs : List Endpoint) → (oldest_of xs ≡ head_block) ⊎ LeadsTo xs (oldest_of xs)
oldest_is [] = inl refl
oldest_is (x ∷ xs) = oldest_at x xs x.linked refl (oldest_is xs)
