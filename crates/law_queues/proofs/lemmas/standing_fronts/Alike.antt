-- Contents that are alike, and stores of an inactive qTD.
use Rattle.std.proofs.Common.{◌≡◌, ◌≢◌, ℕ, ◌*◌, ◌<◌, ◌≤◌, ◌⊎◌, Bool, true, false, if◌then◌else◌, List, [], ◌∷◌, ◌++◌, length, slice_get, Some, ap, refl, sym, subst, ◌∙◌, ⊎_elim, inl, inr, arith}
use Rattle.std.proofs.lemmas.Bool.{cases_eq, true≢false, eq-eqb}
use Rattle.law_common.proofs.Numbers.{other_number}
use Rattle.qh_qtd.specs.declared.qtd.Qtd.{Qtd}
use Rattle.qh_qtd.specs.declared.queue_head.Qh.{Qh}
use Rattle.drv_table.specs.declared.content.Endpoint.{Endpoint}
use Rattle.drv_table.specs.DriverContent.{DriverContent}
use Rattle.law_structures.specs.lent_structures.Structures.{QueueHead, Element, Structures, StructureSets}
use Rattle.law_structures.proofs.lemmas.lent_structures.Names.{put_same, put_else, put_beside, put_found}
use Rattle.law_structures.specs.lent_structures.Sound.{buffer_name}
use Rattle.law_structures.proofs.lemmas.lent_structures.Altering.{found_element}
use Rattle.law_ring.specs.Effects.{bytes_in, buffer_of}
use Rattle.law_ring.specs.Order.{IsFresh, IsSorted, AreAfter, IsAmong}
use Rattle.law_ring.specs.Front.{IsPassed, HasFront}
use Rattle.law_ring.proofs.FrontGoing.{front_is_spared}
use Rattle.law_queues.specs.released_queues.Fronts.{piece_address, StandsAt}
use Rattle.law_controller.specs.controlled_streams.Storing.{stored_parts}
use Rattle.law_queues.specs.standing_fronts.Along.{AlikeKeepFronts, IdleStoreKeepsFronts, LastStoreKeepsFronts}

pub alike_keep_fronts : AlikeKeepFronts
alike_keep_fronts d f parts order out alike stand i x here met =
    let was = alike.ends i x here met in
    let g = stand i was.endpoint was.here was.met in
    subst (λ (q : ℕ). StandsAt f (parts (32 * q)) (order (32 * q)) (out (32 * q)) i (record x { queue = q })) (sym was.queue)
    (record {
      front = g.front;
      has = g.has;
      ended = λ h u y at there held same.
          let old_at : slice_get d.harvested h ≡ Some u = ap (λ (hs : List ℕ). slice_get hs h) (sym alike.harvested) ∙ at in
          let o = alike.owed h u y old_at there held in
          subst (λ (a : ℕ). order (32 * was.endpoint.queue) a ≤ g.front) (sym (o.places y.qtds (omega arith) ∙ ap (piece_address d o.transfer) o.qtds))
          (g.ended h u o.transfer old_at o.here (sym o.released ∙ held) (sym o.endpoint ∙ same));
      passed = λ h u j y at there held same from below.
          let old_at : slice_get d.harvested h ≡ Some u = ap (λ (hs : List ℕ). slice_get hs h) (sym alike.harvested) ∙ at in
          let o = alike.owed h u y old_at there held in
          let qtds = o.qtds in
          let left = o.left in
          subst (IsPassed (order (32 * was.endpoint.queue)) g.front (parts (32 * was.endpoint.queue))) (sym (o.places j (omega (arith, below))))
          (g.passed h u j o.transfer old_at o.here (sym o.released ∙ held) (sym o.endpoint ∙ same) (omega (arith, from, qtds, left)) (omega (arith, below, qtds)));
    })

-- ---- a store

-- one that stands between these isn't among them
after_not : (order : ℕ → ℕ) (e : ℕ) (xs : List ℕ) → AreAfter order e xs → IsAmong e xs → ⊥
after_not order e [] after among = among
after_not order e (b ∷ bs) after (inl same) = let less = after.0 in let i = ap order same in omega (arith, less, i)
after_not order e (b ∷ bs) after (inr among) = after_not order e bs after.1 among

after_of : (order : ℕ → ℕ) (b e : ℕ) (xs ys : List ℕ) → AreAfter order b (xs ++ e ∷ ys) → order b < order e
after_of order b e [] ys after = after.0
after_of order b e (c ∷ xs) ys after = after_of order b e xs ys after.1

between_not : (order : ℕ → ℕ) (e : ℕ) (xs ys : List ℕ) → IsSorted order (xs ++ e ∷ ys) → IsAmong e (xs ++ ys) → ⊥
between_not order e [] ys sorted among = after_not order e ys sorted.0 among
between_not order e (b ∷ xs) ys sorted (inl same) = let less = after_of order b e xs ys sorted.0 in let i = ap order same in omega (arith, less, i)
between_not order e (b ∷ xs) ys sorted (inr among) = between_not order e xs ys sorted.1 among

module _ (parts : StructureSets) (n e : ℕ) (old new : Qtd) (here : parts n e ≡ Some (Element old)) where
  abbrev now : StructureSets
  now = stored_parts parts n e new

  same_bytes : (t : Qtd) → buffer_of (now n) t ≡ buffer_of (parts n) t
  same_bytes t =
      ⊎_elim (λ (same : buffer_name t ≡ e).
      ap bytes_in (ap (now n) same ∙ put_same parts n e (Element new)) ∙ sym (ap bytes_in (ap (parts n) same ∙ here)))
      (λ (differs : buffer_name t ≢ e). ap bytes_in (put_else parts n e (Element new) (buffer_name t) differs)) (cases_eq (buffer_name t) e)

  pub head_before : (q : Qh) → now n n ≡ Some (QueueHead q) → parts n n ≡ Some (QueueHead q)
  head_before q found = ⊎_elim (λ (is : (n ≡ n) × (n ≡ e) × (QueueHead q ≡ Element new)). absurd (no_head q is.2)) (λ (there : parts n n ≡ Some (QueueHead q)). there) (put_found parts n e (Element new) n n (QueueHead q) found)
    where
      no_head : (q : Qh) → QueueHead q ≡ Element new → ⊥
      no_head q bad = cc

  pub element_before : (a : ℕ) (t : Qtd) → a ≢ e → now n a ≡ Some (Element t) → parts n a ≡ Some (Element t)
  element_before a t differs found = sym (put_else parts n e (Element new) a differs) ∙ found

pub stored_at : (d : DriverContent) (parts : StructureSets) (o : ℕ → ℕ) (xs : List ℕ) (i e : ℕ) (x : Endpoint) (old new : Qtd) → parts (32 * x.queue) e ≡ Some (Element old) → old.token.active ≡ false → ((a : ℕ) → IsAmong a xs → a ≢ e)
    → StandsAt d (parts (32 * x.queue)) o xs i x → StandsAt d (stored_parts parts (32 * x.queue) e new (32 * x.queue)) o xs i x
stored_at d parts o xs i e x old new at idle not_out g =
    let m : ℕ = 32 * x.queue in
    record {
      front = g.front;
      has = front_is_spared o g.front xs xs m (parts m) (stored_parts parts m e new m) g.has
          (λ r found. record { queue = r; here = head_before parts m e old new at r found; rest = record { token = refl; current = refl; next = refl; alternate = refl } })
          (λ a t among found. inl (among, element_before parts m e old new at a t (not_out a among) found, ap length (same_bytes parts m e old new at t)));
      ended = g.ended;
      passed = λ h u j y owed there held same from below.
          let k = g.passed h u j y owed there held same from below in
          let differs : piece_address d y j ≢ e = λ is. true≢false (sym k.published ∙ ap (λ (q : Qtd). q.token.active) (found_element (parts m (piece_address d y j)) k.qtd old k.here (ap (parts m) is ∙ at)) ∙ idle) in
          record { qtd = k.qtd; here = put_else parts m e (Element new) (piece_address d y j) differs ∙ k.here; published = k.published; before = k.before };
    }

pub stored_front : (d : DriverContent) (parts : StructureSets) (o : ℕ → ℕ) (xs : List ℕ) (i e : ℕ) (x : Endpoint) (old new : Qtd) (at : parts (32 * x.queue) e ≡ Some (Element old)) (idle : old.token.active ≡ false) (not_out : (a : ℕ) → IsAmong a xs → a ≢ e)
    → (g : StandsAt d (parts (32 * x.queue)) o xs i x) → g.front ≡ (stored_at d parts o xs i e x old new at idle not_out g).front
unfolding stored_at
stored_front d parts o xs i e x old new at idle not_out g = refl

pub idle_store_keeps_fronts : IdleStoreKeepsFronts
idle_store_keeps_fronts d parts order out n e old new s off stand i x here met =
    let m : ℕ = 32 * x.queue in
    let g = stand i x here met in
    ⊎_elim (λ (same : m ≡ n).
    let not_out : (a : ℕ) → IsAmong a (out m) → a ≢ e = λ a among is. between_not (order n) e s.before s.after s.sorted (subst (λ (b : ℕ). IsAmong b (s.before ++ s.after)) is (subst (IsAmong a) (ap out same ∙ s.out_is) among)) in
    subst (λ (j : ℕ). StandsAt d (stored_parts parts j e new m) (order m) (out m) i x) same
    (stored_at d parts (order m) (out m) i e x old new (ap (λ (j : ℕ). parts j e) same ∙ s.here) s.idle not_out g))
    (λ (differs : m ≢ n). subst (λ (part : Structures). StandsAt d part (order m) (out m) i x) (sym (put_beside parts n e (Element new) m differs)) g) (cases_eq m n)

-- ---- the last store

split_among : (e a : ℕ) (xs ys : List ℕ) → IsAmong a (xs ++ e ∷ ys) → (a ≡ e) ⊎ IsAmong a (xs ++ ys)
split_among e a [] ys (inl same) = inl same
split_among e a [] ys (inr among) = inr among
split_among e a (b ∷ xs) ys (inl same) = inr (inl same)
split_among e a (b ∷ xs) ys (inr among) = ⊎_elim (λ (same : a ≡ e). inl same) (λ (rest : IsAmong a (xs ++ ys)). inr (inr rest)) (split_among e a xs ys among)

pub published_at : (d : DriverContent) (parts : StructureSets) (o : ℕ → ℕ) (before after : List ℕ) (i e : ℕ) (x : Endpoint) (old new : Qtd) → parts (32 * x.queue) e ≡ Some (Element old) → old.token.active ≡ false
    → IsSorted o (before ++ e ∷ after) → new.token.active ≡ true → IsFresh (parts (32 * x.queue)) new → (g : StandsAt d (parts (32 * x.queue)) o (before ++ after) i x) → g.front ≤ o e
    → StandsAt d (stored_parts parts (32 * x.queue) e new (32 * x.queue)) o (before ++ e ∷ after) i x
published_at d parts o before after i e x old new at idle sorted on fresh g most =
    let m : ℕ = 32 * x.queue in
    let now : StructureSets = stored_parts parts m e new in
    record {
      front = g.front;
      has = front_is_spared o g.front (before ++ after) (before ++ e ∷ after) m (parts m) (now m) g.has
          (λ r found. record { queue = r; here = head_before parts m e old new at r found; rest = record { token = refl; current = refl; next = refl; alternate = refl } })
          (λ a t among found.
          ⊎_elim (λ (same : a ≡ e).
          let is : new ≡ t = found_element (now m e) new t (put_same parts m e (Element new)) (ap (now m) (sym same) ∙ found) in
          inr (subst (λ (b : ℕ). g.front ≤ o b) (sym same) most, ap (λ (q : Qtd). q.token.active) (sym is) ∙ on, subst (IsFresh (now m)) is (fresh ∙ sym (ap length (same_bytes parts m e old new at new)))))
          (λ (old_one : IsAmong a (before ++ after)).
          let differs : a ≢ e = λ same. between_not o e before after sorted (subst (λ (b : ℕ). IsAmong b (before ++ after)) same old_one) in
          inl (old_one, element_before parts m e old new at a t differs found, ap length (same_bytes parts m e old new at t))) (split_among e a before after among));
      ended = g.ended;
      passed = λ h u j y owed there held same from below.
          let k = g.passed h u j y owed there held same from below in
          let differs : piece_address d y j ≢ e = λ is. true≢false (sym k.published ∙ ap (λ (q : Qtd). q.token.active) (found_element (parts m (piece_address d y j)) k.qtd old k.here (ap (parts m) is ∙ at)) ∙ idle) in
          record { qtd = k.qtd; here = put_else parts m e (Element new) (piece_address d y j) differs ∙ k.here; published = k.published; before = k.before };
    }

pub published_front : (d : DriverContent) (parts : StructureSets) (o : ℕ → ℕ) (before after : List ℕ) (i e : ℕ) (x : Endpoint) (old new : Qtd) (at : parts (32 * x.queue) e ≡ Some (Element old)) (idle : old.token.active ≡ false)
    (sorted : IsSorted o (before ++ e ∷ after)) (on : new.token.active ≡ true) (fresh : IsFresh (parts (32 * x.queue)) new) (g : StandsAt d (parts (32 * x.queue)) o (before ++ after) i x) (most : g.front ≤ o e)
    → g.front ≡ (published_at d parts o before after i e x old new at idle sorted on fresh g most).front
unfolding published_at
published_front d parts o before after i e x old new at idle sorted on fresh g most = refl

same_out : (d : DriverContent) (part : Structures) (o : ℕ → ℕ) (xs ys : List ℕ) (i : ℕ) (x : Endpoint) → xs ≡ ys → (g : StandsAt d part o xs i x) → (h : StandsAt d part o ys i x) × (h.front ≡ g.front)
same_out d part o xs ys i x is g =
    (record { front = g.front; has = subst (λ (zs : List ℕ). HasFront o g.front zs (32 * x.queue) part) is g.has; ended = g.ended; passed = g.passed }, refl)

pub last_store_keeps_fronts : LastStoreKeepsFronts
last_store_keeps_fronts d parts order out n e old new s on fresh stand reached i x here met =
    let m : ℕ = 32 * x.queue in
    let g = stand i x here met in
    ⊎_elim (λ (same : m ≡ n).
    let h = same_out d (parts m) (order m) (out m) (s.before ++ s.after) i x (ap out same ∙ s.out_is) g in
    let few = reached i x here met same in
    let front_is = h.1 in
    let least : h.0.front ≤ order m e = let e_is : order m e ≡ order n e = ap (λ (j : ℕ). order j e) same in omega (arith, few, front_is, e_is) in
    subst (λ (b : Bool). StandsAt d (stored_parts parts n e new m) (order m) (if b then s.before ++ e ∷ s.after else out m) i x) (sym (eq-eqb m n same))
    (subst (λ (j : ℕ). StandsAt d (stored_parts parts j e new m) (order m) (s.before ++ e ∷ s.after) i x) same
    (published_at d parts (order m) s.before s.after i e x old new (ap (λ (j : ℕ). parts j e) same ∙ s.here) s.idle (subst (λ (j : ℕ). IsSorted (order j) (s.before ++ e ∷ s.after)) (sym same) s.sorted) on
    (subst (λ (j : ℕ). IsFresh (parts j) new) (sym same) fresh) h.0 least)))
    (λ (differs : m ≢ n).
    subst (λ (b : Bool). StandsAt d (stored_parts parts n e new m) (order m) (if b then s.before ++ e ∷ s.after else out m) i x) (sym (other_number m n differs))
    (subst (λ (part : Structures). StandsAt d part (order m) (out m) i x) (sym (put_beside parts n e (Element new) m differs)) g)) (cases_eq m n)
