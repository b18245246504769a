-- A frame's chain has its queue heads of one period in the order of opening, and its descriptors the newest first.
use Rattle.std.proofs.Common.{◌≡◌, ℕ, ◌%◌, ◌≤◌, Bool, true, false, List, [], ◌∷◌, ◌++◌, map, cond, nat_eq, leb, ltb, refl, ap, sym, ◌∙◌, arith}
use Rattle.std.specs.Prelude.{filter, not}
use Rattle.std.specs.List.{flat_map}
use Rattle.std.proofs.lemmas.Bool.{false≢true, eqb-true, and_parts, le-leb, ltb-true}
use Rattle.std.proofs.lemmas.List.{append-nil}
use Rattle.std.proofs.lemmas.List.Elements.{filter-append}
use Rattle.drv_chains.proofs.Links.{not_true}
use Rattle.drv_chains.specs.declared.members.Descriptor.{Descriptor}
use Rattle.drv_chains.specs.declared.members.QueueHead.{QueueHead}
use Rattle.drv_chains.specs.declared.members.Member.TheVariants.{Once, Each}
use Rattle.drv_chains.specs.Chains.{of_lists, periods, frame_period, at_place, descriptors_in, queues_in, chain}
use Rattle.drv_members.specs.Ranks.{rank, rank_of}
use Rattle.drv_members.specs.Members.{is_up_to, is_below, with_queue, with_descriptor}

-- those that pass one test all pass another, or none does
passes_on : {X : Type 0} (p t : X → Bool) (x : X) (xs : List X) (b c : Bool) → p x ≡ b → t x ≡ c → (b ≡ true → c ≡ true) → filter p (filter t xs) ≡ filter p xs → filter p (cond c (x ∷ filter t xs) (filter t xs)) ≡ cond b (x ∷ filter p xs) (filter p xs)
passes_on p t x xs true true e k f h = ap (λ b. cond b (x ∷ filter p (filter t xs)) (filter p (filter t xs))) e ∙ ap (λ ys. x ∷ ys) h
passes_on p t x xs false true e k f h = ap (λ b. cond b (x ∷ filter p (filter t xs)) (filter p (filter t xs))) e ∙ h
passes_on p t x xs true false e k f h = absurd (false≢true (f refl))
passes_on p t x xs false false e k f h = h

all_on : {X : Type 0} (p t : X → Bool) (xs : List X) → ((x : X) → p x ≡ true → t x ≡ true) → filter p (filter t xs) ≡ filter p xs
all_on p t [] f = refl
all_on p t (x ∷ xs) f = passes_on p t x xs (p x) (t x) refl refl (λ e. f x e) (all_on p t xs f)

drops_on : {X : Type 0} (p t : X → Bool) (x : X) (xs : List X) (c : Bool) → t x ≡ c → (p x ≡ true → c ≡ false) → filter p (filter t xs) ≡ [] → filter p (cond c (x ∷ filter t xs) (filter t xs)) ≡ []
drops_on p t x xs true k f h = ap (λ b. cond b (x ∷ filter p (filter t xs)) (filter p (filter t xs))) (not_true (p x) (λ e. false≢true (sym (f e)))) ∙ h
drops_on p t x xs false k f h = h

none_on : {X : Type 0} (p t : X → Bool) (xs : List X) → ((x : X) → p x ≡ true → t x ≡ false) → filter p (filter t xs) ≡ []
none_on p t [] f = refl
none_on p t (x ∷ xs) f = drops_on p t x xs (t x) refl (λ e. f x e) (none_on p t xs f)

flat_same : {X Y : Type 0} (f g : X → List Y) (xs : List X) → ((x : X) → f x ≡ g x) → flat_map f xs ≡ flat_map g xs
flat_same f g [] h = refl
flat_same f g (x ∷ xs) h = ap (λ ys. ys ++ flat_map f xs) (h x) ∙ ap (λ ys. g x ++ ys) (flat_same f g xs h)

-- queue heads of one place
rank_at : (p f : ℕ) (q : QueueHead) → at_place p f q ≡ true → rank_of q ≡ rank p f
rank_at p f q h =
    let k = and_parts (nat_eq q.period p) (nat_eq q.phase f) h in
    ap (λ n. rank n q.phase) (eqb-true q.period p k.0) ∙ ap (λ n. rank p n) (eqb-true q.phase f k.1)

up_at : (r p f : ℕ) (c : Bool) → leb (rank p f) r ≡ c → (x : QueueHead) → at_place p f x ≡ true → is_up_to r x ≡ c
up_at r p f c e x h = ap (λ n. leb n r) (rank_at p f x h) ∙ e

not_is : (b c : Bool) → b ≡ c → not b ≡ not c
not_is b c e = ap not e

place_by : (qs : List QueueHead) (q : QueueHead) (p f : ℕ) (c : Bool) → leb (rank p f) (rank_of q) ≡ c → filter (at_place p f) (with_queue qs q) ≡ filter (at_place p f) (qs ++ q ∷ [])
place_by qs q p f true e =
    let t = is_up_to (rank_of q) in
    let low : filter (at_place p f) (filter t qs) ≡ filter (at_place p f) qs = all_on (at_place p f) t qs (up_at (rank_of q) p f true e) in
    let high : filter (at_place p f) (filter (λ x. not (t x)) qs) ≡ [] = none_on (at_place p f) (λ x. not (t x)) qs (λ x h. not_is (t x) true (up_at (rank_of q) p f true e x h)) in
    filter-append (at_place p f) (filter t qs) (q ∷ filter (λ x. not (t x)) qs) ∙ ap (λ ys. ys ++ filter (at_place p f) (q ∷ filter (λ x. not (t x)) qs)) low
    ∙ ap (λ ys. filter (at_place p f) qs ++ cond (at_place p f q) (q ∷ ys) ys) high ∙ sym (filter-append (at_place p f) qs (q ∷ []))
place_by qs q p f false e =
    let t = is_up_to (rank_of q) in
    let low : filter (at_place p f) (filter t qs) ≡ [] = none_on (at_place p f) t qs (up_at (rank_of q) p f false e) in
    let high : filter (at_place p f) (filter (λ x. not (t x)) qs) ≡ filter (at_place p f) qs = all_on (at_place p f) (λ x. not (t x)) qs (λ x h. not_is (t x) false (up_at (rank_of q) p f false e x h)) in
    let other : at_place p f q ≡ false = not_true (at_place p f q) (λ h. let l : rank_of q ≤ rank_of q = omega arith in false≢true (sym (up_at (rank_of q) p f false e q h) ∙ le-leb (rank_of q) (rank_of q) l)) in
    filter-append (at_place p f) (filter t qs) (q ∷ filter (λ x. not (t x)) qs) ∙ ap (λ ys. ys ++ filter (at_place p f) (q ∷ filter (λ x. not (t x)) qs)) low
    ∙ ap (λ b. cond b (q ∷ filter (at_place p f) (filter (λ x. not (t x)) qs)) (filter (at_place p f) (filter (λ x. not (t x)) qs))) other ∙ high
    ∙ sym (filter-append (at_place p f) qs (q ∷ []) ∙ ap (λ b. filter (at_place p f) qs ++ cond b (q ∷ []) []) other ∙ append-nil (filter (at_place p f) qs))

pub opened_last : (ds : List Descriptor) (qs : List QueueHead) (q : QueueHead) (f : ℕ) → chain (of_lists ds (with_queue qs q)) f ≡ chain (of_lists ds (qs ++ q ∷ [])) f
opened_last ds qs q f = ap (λ xs. map Once (descriptors_in (of_lists ds qs) f) ++ map Each xs)
    (flat_same (queues_in (of_lists ds (with_queue qs q)) f) (queues_in (of_lists ds (qs ++ q ∷ [])) f) periods (λ p. place_by qs q p (f % frame_period p) (leb (rank p (f % frame_period p)) (rank_of q)) refl))

-- descriptors of one frame
below_at : (g f : ℕ) (c : Bool) → ltb f g ≡ c → (x : Descriptor) → nat_eq x.frame f ≡ true → is_below g x ≡ c
below_at g f c e x h = ap (λ n. ltb n g) (eqb-true x.frame f h) ∙ e

frame_by : (ds : List Descriptor) (d : Descriptor) (f : ℕ) (c : Bool) → ltb f d.frame ≡ c → filter (λ x. nat_eq x.frame f) (with_descriptor ds d) ≡ filter (λ x. nat_eq x.frame f) (d ∷ ds)
frame_by ds d f true e =
    let p = λ (x : Descriptor). nat_eq x.frame f in
    let t = is_below d.frame in
    let low : filter p (filter t ds) ≡ filter p ds = all_on p t ds (below_at d.frame f true e) in
    let high : filter p (filter (λ x. not (t x)) ds) ≡ [] = none_on p (λ x. not (t x)) ds (λ x h. not_is (t x) true (below_at d.frame f true e x h)) in
    let l = ltb-true f d.frame e in
    let other : p d ≡ false = not_true (p d) (λ h. let k = eqb-true d.frame f h in omega (arith, l, k)) in
    filter-append p (filter t ds) (d ∷ filter (λ x. not (t x)) ds) ∙ ap (λ ys. ys ++ filter p (d ∷ filter (λ x. not (t x)) ds)) low
    ∙ ap (λ b. filter p ds ++ cond b (d ∷ filter p (filter (λ x. not (t x)) ds)) (filter p (filter (λ x. not (t x)) ds))) other ∙ ap (λ ys. filter p ds ++ ys) high ∙ append-nil (filter p ds)
    ∙ sym (ap (λ b. cond b (d ∷ filter p ds) (filter p ds)) other)
frame_by ds d f false e =
    let p = λ (x : Descriptor). nat_eq x.frame f in
    let t = is_below d.frame in
    let low : filter p (filter t ds) ≡ [] = none_on p t ds (below_at d.frame f false e) in
    let high : filter p (filter (λ x. not (t x)) ds) ≡ filter p ds = all_on p (λ x. not (t x)) ds (λ x h. not_is (t x) false (below_at d.frame f false e x h)) in
    filter-append p (filter t ds) (d ∷ filter (λ x. not (t x)) ds) ∙ ap (λ ys. ys ++ filter p (d ∷ filter (λ x. not (t x)) ds)) low ∙ ap (λ ys. cond (p d) (d ∷ ys) ys) high

pub newest_first : (ds : List Descriptor) (d : Descriptor) (qs : List QueueHead) (f : ℕ) → chain (of_lists (with_descriptor ds d) qs) f ≡ chain (of_lists (d ∷ ds) qs) f
newest_first ds d qs f = ap (λ xs. map Once xs ++ map Each (flat_map (queues_in (of_lists ds qs) f) periods)) (frame_by ds d f (ltb f d.frame) refl)
