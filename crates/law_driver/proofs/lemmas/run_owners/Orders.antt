-- The lists of what is to be given back, as one thing changes.
use Rattle.std.proofs.Common.{◌≡◌, ◌≢◌, ℕ, suc, ◌+◌, ◌<◌, ◌≤◌, ◌==◌, Bool, true, false, not, ◌&&◌, ◌||◌, cond, List, [], ◌∷◌, ◌++◌, length, drop, set, slice_get, Option, Some, None, ap, sym, subst, ◌∙◌, ⊎_elim, inl, inr, refl, arith}
use Rattle.std.specs.Prelude.{is_some, ◌⊎◌}
use Rattle.std.proofs.lemmas.Bool.{cases_eq, false≢true}
use Rattle.std.proofs.lemmas.List.{length-set}
use Rattle.std.proofs.lemmas.Option.{same_Some}
use Rattle.law_common.proofs.Booleans.{not_not}
use Rattle.law_common.proofs.Numbers.{same_number, other_number}
use Rattle.law_common.proofs.Lists.{set_here, set_there}
use Rattle.drv_table.specs.declared.content.Endpoint.{Endpoint}
use Rattle.drv_table.specs.declared.content.Transfer.{Transfer}
use Rattle.drv_table.specs.declared.content.Sort.{Sort}
use Rattle.drv_table.specs.Kinds.{is_iso}
use Rattle.bandwidth.specs.declared.placements.Placement.{Placement}
use Rattle.usb_base.specs.declared.endpoints.EpDesc.{EpDesc}
use Rattle.drv_periodic_table.specs.Periodic.{is_periodic, read_again}
use Rattle.drv_periodic_table.specs.declared.content.Removal.{Removal}
use Rattle.drv_periodic_table.specs.declared.content.Removed.{Removed}
use Rattle.drv_periodic_table.specs.declared.content.Removed.TheVariants as removed
use Rattle.claims_driver.specs.Owners.{is_descriptor}
use Rattle.claims_driver.specs.Leaving.{times, transfer_before, endpoint_before, transfers_in, endpoints_in, owes, leaves_ring, leaves_frames, IsSteady, Returns, AreOrderly}

-- ---- how often

pub times_push : (n k : ℕ) (ns : List ℕ) → times n (ns ++ k ∷ []) ≡ times n ns + cond (k == n) 1 0
times_push n k [] = omega arith
times_push n k (m ∷ ns) = omega (arith, times_push n k ns)

pub times_both : (n : ℕ) (xs ys : List ℕ) → times n (xs ++ ys) ≡ times n xs + times n ys
times_both n [] ys = omega arith
times_both n (m ∷ xs) ys = omega (arith, times_both n xs ys)

pub times_first : (n k : ℕ) (ns : List ℕ) → slice_get ns 0 ≡ Some k → times n ns ≡ cond (k == n) 1 0 + times n (drop 1 ns)
times_first n k [] here = absurd (cc)
times_first n k (m ∷ ns) here = let is : m ≡ k = cc in ap (λ j. cond (j == n) 1 0 + times n ns) is

pub one_same : (n : ℕ) → ◌≡◌ {A = ℕ} (cond (n == n) 1 0) 1
one_same n = ap (λ b. cond b 1 0) (same_number n)

pub none_other : (k n : ℕ) → k ≢ n → ◌≡◌ {A = ℕ} (cond (k == n) 1 0) 0
none_other k n differs = ap (λ b. cond b 1 0) (other_number k n differs)

pub none_at_all : (n : ℕ) (ns : List ℕ) → slice_get ns 0 ≡ None → times n ns ≡ 0
none_at_all n [] none = refl
none_at_all n (k ∷ ns) none = absurd (cc)

-- ---- what was unlinked

pub removed_first : (n t : ℕ) (ms : List Removal) (m : Removal) → slice_get ms 0 ≡ Some m → m.what ≡ removed.Descriptor t → times n (transfers_in ms) ≡ cond (t == n) 1 0 + times n (transfers_in (drop 1 ms))
removed_first n t [] m here what = absurd (cc)
removed_first n t (k ∷ ms) m here what =
    let is : k ≡ m = same_Some k m here in
    ap (λ (w : Removed). times n (transfer_before w (transfers_in ms))) (ap (λ (q : Removal). q.what) is ∙ what)

pub endpoints_kept : (t : ℕ) (ms : List Removal) (m : Removal) → slice_get ms 0 ≡ Some m → m.what ≡ removed.Descriptor t → endpoints_in (drop 1 ms) ≡ endpoints_in ms
endpoints_kept t [] m here what = absurd (cc)
endpoints_kept t (k ∷ ms) m here what =
    let is : k ≡ m = same_Some k m here in
    sym (ap (λ (w : Removed). endpoint_before w (endpoints_in ms)) (ap (λ (q : Removal). q.what) is ∙ what))

pub endpoint_first : (n e : ℕ) (ms : List Removal) (m : Removal) → slice_get ms 0 ≡ Some m → m.what ≡ removed.Endpoint e → times n (endpoints_in ms) ≡ cond (e == n) 1 0 + times n (endpoints_in (drop 1 ms))
endpoint_first n e [] m here what = absurd (cc)
endpoint_first n e (k ∷ ms) m here what =
    let is : k ≡ m = same_Some k m here in
    ap (λ (w : Removed). times n (endpoint_before w (endpoints_in ms))) (ap (λ (q : Removal). q.what) is ∙ what)

pub transfers_kept : (e : ℕ) (ms : List Removal) (m : Removal) → slice_get ms 0 ≡ Some m → m.what ≡ removed.Endpoint e → transfers_in (drop 1 ms) ≡ transfers_in ms
transfers_kept e [] m here what = absurd (cc)
transfers_kept e (k ∷ ms) m here what =
    let is : k ≡ m = same_Some k m here in
    sym (ap (λ (w : Removed). transfer_before w (transfers_in ms)) (ap (λ (q : Removal). q.what) is ∙ what))

-- one more was unlinked
pub transfers_push : (n : ℕ) (ms : List Removal) (m : Removal) → times n (transfers_in (ms ++ m ∷ [])) ≡ times n (transfers_in ms) + times n (transfer_before m.what [])
transfers_push n [] m = omega arith
transfers_push n (k ∷ ms) m = one_before n k.what (transfers_in (ms ++ m ∷ [])) (transfers_in ms) (times n (transfer_before m.what [])) (transfers_push n ms m)
  where
    one_before : (n : ℕ) (w : Removed) (xs ys : List ℕ) (k : ℕ) → times n xs ≡ times n ys + k → times n (transfer_before w xs) ≡ times n (transfer_before w ys) + k
    one_before n (removed.Descriptor t) xs ys k same = omega (arith, same)
    one_before n (removed.Endpoint e) xs ys k same = same

pub endpoints_push : (n : ℕ) (ms : List Removal) (m : Removal) → times n (endpoints_in (ms ++ m ∷ [])) ≡ times n (endpoints_in ms) + times n (endpoint_before m.what [])
endpoints_push n [] m = omega arith
endpoints_push n (k ∷ ms) m = one_before n k.what (endpoints_in (ms ++ m ∷ [])) (endpoints_in ms) (times n (endpoint_before m.what [])) (endpoints_push n ms m)
  where
    one_before : (n : ℕ) (w : Removed) (xs ys : List ℕ) (k : ℕ) → times n xs ≡ times n ys + k → times n (endpoint_before w xs) ≡ times n (endpoint_before w ys) + k
    one_before n (removed.Descriptor t) xs ys k same = same
    one_before n (removed.Endpoint e) xs ys k same = omega (arith, same)

-- what was read of the frame index tells nothing of whose it is
pub transfers_read : (n : ℕ) (ms : List Removal) → transfers_in (read_again n ms) ≡ transfers_in ms
transfers_read n [] = refl
transfers_read n (k ∷ ms) = ap (transfer_before k.what) (transfers_read n ms)

pub endpoints_read : (n : ℕ) (ms : List Removal) → endpoints_in (read_again n ms) ≡ endpoints_in ms
endpoints_read n [] = refl
endpoints_read n (k ∷ ms) = ap (endpoint_before k.what) (endpoints_read n ms)

-- ---- what is owed

owed_by : (y : Transfer) (a b : Bool) → 1 ≤ cond (a && not b) 1 0 → (a ≡ true) × (b ≡ false)
owed_by y true false h = (refl, refl)
owed_by y true true h = absurd (omega arith)
owed_by y false b h = absurd (omega arith)

pub record IsOwed (ts : List Transfer) (t : ℕ) : Type 0 where
  pub transfer : Transfer
  pub there : slice_get ts t ≡ Some transfer
  pub reported : transfer.reported ≡ true
  pub released : transfer.released ≡ false

pub owed : (ts : List Transfer) (t : ℕ) (o : Option Transfer) → slice_get ts t ≡ o → 1 ≤ owes o → IsOwed ts t
owed ts t None there h = absurd (omega arith)
owed ts t (Some y) there h =
    let r = owed_by y y.reported y.released h in
    record { transfer = y; there = there; reported = r.0; released = r.1 }

pub record IsLeft (xs : List Endpoint) (e : ℕ) : Type 0 where
  pub endpoint : Endpoint
  pub here : slice_get xs e ≡ Some endpoint
  pub linked : endpoint.linked ≡ false
  pub gone : endpoint.gone ≡ false
  pub ring : is_periodic endpoint.desc.kind ≡ false

left_by : (a b c : Bool) → 1 ≤ cond (a || b || c) 0 1 → ((a ≡ false) × (b ≡ false)) × (c ≡ false)
left_by false false false h = ((refl, refl), refl)
left_by false false true h = absurd (omega arith)
left_by false true c h = absurd (omega arith)
left_by true b c h = absurd (omega arith)

pub has_left : (xs : List Endpoint) (e : ℕ) (o : Option Endpoint) → slice_get xs e ≡ o → 1 ≤ leaves_ring o → IsLeft xs e
has_left xs e None here h = absurd (omega arith)
has_left xs e (Some x) here h =
    let r = left_by x.linked x.gone (is_periodic x.desc.kind) h in
    record { endpoint = x; here = here; linked = r.0.0; gone = r.0.1; ring = r.1 }

-- the same of a periodic endpoint
pub record IsRemoved (xs : List Endpoint) (e : ℕ) : Type 0 where
  pub endpoint : Endpoint
  pub here : slice_get xs e ≡ Some endpoint
  pub chained : endpoint.chained ≡ false
  pub gone : endpoint.gone ≡ false
  pub frames : is_periodic endpoint.desc.kind ≡ true

pub has_removed : (xs : List Endpoint) (e : ℕ) (o : Option Endpoint) → slice_get xs e ≡ o → 1 ≤ leaves_frames o → IsRemoved xs e
has_removed xs e None here h = absurd (omega arith)
has_removed xs e (Some x) here h =
    let r = left_by x.chained x.gone (not (is_periodic x.desc.kind)) h in
    record { endpoint = x; here = here; chained = r.0.0; gone = r.0.1; frames = not_not (is_periodic x.desc.kind) r.1 }

-- nothing is owed of a transfer that isn't reported
pub owes_nothing : (y : Transfer) → y.reported ≡ false → owes (Some y) ≡ 0
owes_nothing y off = ap (λ b. cond (b && not y.released) 1 0) off

pub owes_one : (y : Transfer) → y.reported ≡ true → y.released ≡ false → owes (Some y) ≡ 1
owes_one y on off = ap (λ b. cond (b && not y.released) 1 0) on ∙ ap (λ b. cond (not b) 1 0) off

pub in_ring : (x : Endpoint) → x.linked ≡ true → leaves_ring (Some x) ≡ 0
in_ring x on = ap (λ b. cond (b || x.gone || is_periodic x.desc.kind) 0 1) on

pub out_of_ring : (x : Endpoint) → x.linked ≡ false → x.gone ≡ false → is_periodic x.desc.kind ≡ false → leaves_ring (Some x) ≡ 1
out_of_ring x off here ring =
    ap (λ b. cond (b || x.gone || is_periodic x.desc.kind) 0 1) off ∙ ap (λ b. cond (b || is_periodic x.desc.kind) 0 1) here ∙ ap (λ b. cond b 0 1) ring

pub in_frames : (x : Endpoint) → x.chained ≡ true → leaves_frames (Some x) ≡ 0
in_frames x on = ap (λ b. cond (b || x.gone || not (is_periodic x.desc.kind)) 0 1) on

pub out_of_frames : (x : Endpoint) → x.chained ≡ false → x.gone ≡ false → is_periodic x.desc.kind ≡ true → leaves_frames (Some x) ≡ 1
out_of_frames x off here frames =
    ap (λ b. cond (b || x.gone || not (is_periodic x.desc.kind)) 0 1) off ∙ ap (λ b. cond (b || not (is_periodic x.desc.kind)) 0 1) here ∙ ap (λ b. cond (not b) 0 1) frames

-- ---- one endpoint changes, and is in the ring or gone as before

set_was : {X : Type 0} (xs : List X) (e i : ℕ) (x y z : X) → slice_get xs e ≡ Some x → slice_get (set xs e y) i ≡ Some z → ((i ≡ e) × (z ≡ y)) ⊎ ((i ≢ e) × (slice_get xs i ≡ Some z))
set_was xs e i x y z here there =
    ⊎_elim (λ (same : i ≡ e). inl (same, same_Some z y (sym there ∙ ap (slice_get (set xs e y)) same ∙ set_here xs e x y here)))
    (λ (differs : i ≢ e). inr (differs, sym (set_there xs e i y differs) ∙ there)) (cases_eq i e)

-- at the changed place, and elsewhere
pub set_case : {X : Type 0} (P : ℕ → X → Type 0) (xs : List X) (e i : ℕ) (x y z : X) → slice_get xs e ≡ Some x → slice_get (set xs e y) i ≡ Some z → P e y → (i ≢ e → slice_get xs i ≡ Some z → P i z) → P i z
set_case P xs e i x y z here there at other =
    ⊎_elim (λ (w : (i ≡ e) × (z ≡ y)). subst (λ j. P j z) (sym w.0) (subst (λ v. P e v) (sym w.1) at)) (λ (w : (i ≢ e) × (slice_get xs i ≡ Some z)). other w.0 w.1) (set_was xs e i x y z here there)

-- what an endpoint is, but for how it ended and what it does
pub record IsLike (x y : Endpoint) : Type 0 where
  pub desc : y.desc ≡ x.desc
  pub placement : y.placement ≡ x.placement
  pub linked : y.linked ≡ x.linked
  pub chained : y.chained ≡ x.chained
  pub gone : y.gone ≡ x.gone
  pub ended : is_some x.ended ≡ true → is_some y.ended ≡ true

same_ring : (x y : Endpoint) → IsLike x y → leaves_ring (Some y) ≡ leaves_ring (Some x)
same_ring x y like =
    ap (λ b. cond (b || y.gone || is_periodic y.desc.kind) 0 1) like.linked ∙ ap (λ b. cond (x.linked || b || is_periodic y.desc.kind) 0 1) like.gone
    ∙ ap (λ (k : EpDesc). cond (x.linked || x.gone || is_periodic k.kind) 0 1) like.desc

same_frames : (x y : Endpoint) → IsLike x y → leaves_frames (Some y) ≡ leaves_frames (Some x)
same_frames x y like =
    ap (λ b. cond (b || y.gone || not (is_periodic y.desc.kind)) 0 1) like.chained ∙ ap (λ b. cond (x.chained || b || not (is_periodic y.desc.kind)) 0 1) like.gone
    ∙ ap (λ (k : EpDesc). cond (x.chained || x.gone || not (is_periodic k.kind)) 0 1) like.desc

same_steady : (x y : Endpoint) → IsLike x y → IsSteady x → IsSteady y
same_steady x y like s = record {
  ended = λ off out. like.ended (s.ended (sym like.linked ∙ off) (sym like.chained ∙ out));
  gone = λ on. let g = s.gone (sym like.gone ∙ on) in (like.linked ∙ g.0, like.chained ∙ g.1);
  ring = λ on. ap (λ (k : EpDesc). is_periodic k.kind) like.desc ∙ s.ring (sym like.linked ∙ on);
  frames = λ on. ap (λ (k : EpDesc). is_periodic k.kind) like.desc ∙ s.frames (sym like.chained ∙ on);
  placed = ap (λ (o : Option Placement). is_some o) like.placement ∙ s.placed ∙ sym (ap (λ (k : EpDesc). is_periodic k.kind) like.desc);
}

-- a count by endpoint, where one changes and tells the same
pub same_count : (f : Option Endpoint → ℕ) (xs : List Endpoint) (e : ℕ) (x y : Endpoint) → slice_get xs e ≡ Some x → f (Some y) ≡ f (Some x) → (i : ℕ) → f (slice_get (set xs e y) i) ≡ f (slice_get xs i)
same_count f xs e x y here same i =
    ⊎_elim (λ (at : i ≡ e). ap (λ j. f (slice_get (set xs e y) j)) at ∙ ap f (set_here xs e x y here) ∙ same ∙ ap f (sym here) ∙ ap (λ j. f (slice_get xs j)) (sym at))
    (λ (differs : i ≢ e). ap f (set_there xs e i y differs)) (cases_eq i e)

pub endpoint_changed : {r : Returns} {ts : List Transfer} {xs : List Endpoint} {l : Option ℕ} (e : ℕ) (x y : Endpoint) → slice_get xs e ≡ Some x → IsLike x y → AreOrderly r ts xs l → AreOrderly r ts (set xs e y) l
endpoint_changed {r = r} {ts = ts} {xs = xs} {l = l} e x y here like old = record {
  harvests = old.harvests;
  leaving = λ i. let now = same_count leaves_ring xs e x y here (same_ring x y like) i in omega (arith, now, old.leaving i);
  removed = λ i. let now = same_count leaves_frames xs e x y here (same_frames x y like) i in omega (arith, now, old.removed i);
  steady = λ i z there.
      set_case (λ j v. IsSteady v) xs e i x y z here there
      (same_steady x y like (old.steady e x here))
      (λ differs was. old.steady i z was);
  within = λ t v there. let n = length-set xs e y in omega (arith, n, old.within t v there);
  sorts = λ t v z there at.
      set_case (λ j w. j ≡ v.endpoint → is_descriptor v.sort ≡ is_iso w.desc.kind) xs e v.endpoint x y z here at
      (λ same. old.sorts t v x there (ap (slice_get xs) (sym same) ∙ here) ∙ sym (ap (λ (k : EpDesc). is_iso k.kind) like.desc))
      (λ differs was same. old.sorts t v z there was) refl;
  unlinked = old.unlinked;
  untold = λ t v there on off z at.
      set_case (λ j w. j ≡ v.endpoint → w.gone ≡ true) xs e v.endpoint x y z here at
      (λ same. like.gone ∙ old.untold t v there on off x (ap (slice_get xs) (sym same) ∙ here))
      (λ differs was same. old.untold t v there on off z was) refl;
  leaver = λ i z is there.
      set_case (λ j w. j ≡ i → is_some w.ended ≡ true) xs e i x y z here there
      (λ same. like.ended (old.leaver i x is (ap (slice_get xs) (sym same) ∙ here)))
      (λ differs was same. old.leaver i z is was) refl;
}

-- ---- one transfer changes

-- how often it stands in the lists
abbrev pub counts : Returns → ℕ → ℕ
counts r t = times t r.harvested + times t r.unlinks + times t (transfers_in r.removals)

pub transfer_changed : {r : Returns} {ts : List Transfer} {xs : List Endpoint} {l : Option ℕ} (t : ℕ) (x y : Transfer) → slice_get ts t ≡ Some x → y.endpoint ≡ x.endpoint → y.sort ≡ x.sort → counts r t ≤ owes (Some y) → (y.released ≡ true → y.reported ≡ false → (x.released ≡ true) × (x.reported ≡ false)) → AreOrderly r ts xs l → AreOrderly r (set ts t y) xs l
transfer_changed {r = r} {ts = ts} {xs = xs} t x y here endpoint sort few back old = record {
  harvests = λ i.
      ⊎_elim (λ (same : i ≡ t).
      let now : owes (slice_get (set ts t y) i) ≡ owes (Some y) = ap (λ j. owes (slice_get (set ts t y) j)) same ∙ ap owes (set_here ts t x y here) in
      let count : counts r i ≡ counts r t = ap (counts r) same in
      omega (arith, now, count, few))
      (λ (differs : i ≢ t). let now = ap owes (set_there ts t i y differs) in omega (arith, now, old.harvests i)) (cases_eq i t);
  leaving = old.leaving;
  removed = old.removed;
  steady = old.steady;
  within = λ i z there.
      set_case (λ j (v : Transfer). v.endpoint < length xs) ts t i x y z here there
      (omega (arith, endpoint, old.within t x here))
      (λ differs was. old.within i z was);
  sorts = λ i z w there at.
      set_case (λ j (v : Transfer). slice_get xs v.endpoint ≡ Some w → is_descriptor v.sort ≡ is_iso w.desc.kind) ts t i x y z here there
      (λ at2. ap (λ (k : Sort). is_descriptor k) sort ∙ old.sorts t x w here (ap (slice_get xs) (sym endpoint) ∙ at2))
      (λ differs was at2. old.sorts i z w was at2) at;
  unlinked = λ i z some there.
      set_case (λ j (v : Transfer). j ≡ i → is_descriptor v.sort ≡ true) ts t i x y z here there
      (λ same. ap (λ (k : Sort). is_descriptor k) sort ∙ old.unlinked i x some (ap (slice_get ts) (sym same) ∙ here))
      (λ differs was same. old.unlinked i z some was) refl;
  untold = λ i z there on off w at.
      set_case (λ j (v : Transfer). v.released ≡ true → v.reported ≡ false → slice_get xs v.endpoint ≡ Some w → w.gone ≡ true) ts t i x y z here there
      (λ on2 off2 at2. let b = back on2 off2 in old.untold t x here b.0 b.1 w (ap (slice_get xs) (sym endpoint) ∙ at2))
      (λ differs was on2 off2 at2. old.untold i z was on2 off2 w at2) on off at;
  leaver = old.leaver;
}

-- one more transfer is to be given back
pub one_harvested : {r : Returns} {ts : List Transfer} {xs : List Endpoint} {l : Option ℕ} (t : ℕ) → suc (counts r t) ≤ owes (slice_get ts t) → AreOrderly r ts xs l → AreOrderly (record r { harvested = r.harvested ++ t ∷ [] }) ts xs l
one_harvested {r = r} {ts = ts} t more old = record {
  harvests = λ i.
      ⊎_elim (λ (same : i ≡ t).
      let now : counts r i ≡ counts r t = ap (counts r) same in
      let owed : owes (slice_get ts i) ≡ owes (slice_get ts t) = ap (λ j. owes (slice_get ts j)) same in
      let one : ◌≡◌ {A = ℕ} (cond (t == i) 1 0) 1 = ap (λ j. cond (t == j) 1 0) same ∙ one_same t in
      omega (arith, times_push i t r.harvested, now, owed, one, more))
      (λ (differs : i ≢ t). omega (arith, times_push i t r.harvested, none_other t i (λ same. differs (sym same)), old.harvests i)) (cases_eq i t);
  leaving = old.leaving;
  removed = old.removed;
  steady = old.steady;
  within = old.within;
  sorts = old.sorts;
  unlinked = old.unlinked;
  untold = old.untold;
  leaver = old.leaver;
}

-- .. and is to be unlinked before
pub one_unlinked : {r : Returns} {ts : List Transfer} {xs : List Endpoint} {l : Option ℕ} (t : ℕ) (y : Transfer) → slice_get ts t ≡ Some y → is_descriptor y.sort ≡ true → suc (counts r t) ≤ owes (slice_get ts t) → AreOrderly r ts xs l → AreOrderly (record r { unlinks = r.unlinks ++ t ∷ [] }) ts xs l
one_unlinked {r = r} {ts = ts} t y there sort more old = record {
  harvests = λ i.
      ⊎_elim (λ (same : i ≡ t).
      let now : counts r i ≡ counts r t = ap (counts r) same in
      let owed : owes (slice_get ts i) ≡ owes (slice_get ts t) = ap (λ j. owes (slice_get ts j)) same in
      let one : ◌≡◌ {A = ℕ} (cond (t == i) 1 0) 1 = ap (λ j. cond (t == j) 1 0) same ∙ one_same t in
      omega (arith, times_push i t r.unlinks, now, owed, one, more))
      (λ (differs : i ≢ t). omega (arith, times_push i t r.unlinks, none_other t i (λ same. differs (sym same)), old.harvests i)) (cases_eq i t);
  leaving = old.leaving;
  removed = old.removed;
  steady = old.steady;
  within = old.within;
  sorts = old.sorts;
  unlinked = λ i z some at.
      ⊎_elim (λ (same : i ≡ t). ap (λ (v : Transfer). is_descriptor v.sort) (same_Some z y (sym at ∙ ap (slice_get ts) same ∙ there)) ∙ sort)
      (λ (differs : i ≢ t). old.unlinked i z (omega (arith, times_push i t r.unlinks, none_other t i (λ same. differs (sym same)), some)) at) (cases_eq i t);
  untold = old.untold;
  leaver = old.leaver;
}

-- a transfer whose release is owed, and the one that is owed it is given back
released_now : {r s : Returns} {ts : List Transfer} {xs : List Endpoint} {l : Option ℕ} (t : ℕ) (x : Transfer) → slice_get ts t ≡ Some x → ((i : ℕ) → counts r i ≡ cond (t == i) 1 0 + counts s i) → AreOrderly r ts xs l → AreOrderly s ts xs l → AreOrderly s (set ts t (record x { released = true })) xs l
released_now {r = r} {s = s} {ts = ts} t x here less old now =
    let one = one_same t in
    let was = old.harvests t in
    let few = less t in
    let due = owed ts t (slice_get ts t) refl (omega (arith, few, one, was)) in
    let same : due.transfer ≡ x = same_Some due.transfer x (sym due.there ∙ here) in
    let on : x.reported ≡ true = ap (λ (z : Transfer). z.reported) (sym same) ∙ due.reported in
    let off : x.released ≡ false = ap (λ (z : Transfer). z.released) (sym same) ∙ due.released in
    let most : owes (slice_get ts t) ≡ 1 = ap owes here ∙ owes_one x on off in
    transfer_changed t x (record x { released = true }) here refl refl (omega (arith, few, one, was, most)) (λ r reported. absurd (false≢true (sym reported ∙ on))) now

-- the transfer that was to be given back first was given back
pub transfer_gone : {r : Returns} {ts : List Transfer} {xs : List Endpoint} {l : Option ℕ} (t : ℕ) (x : Transfer) → slice_get ts t ≡ Some x → slice_get r.harvested 0 ≡ Some t → AreOrderly r ts xs l → AreOrderly (record r { harvested = drop 1 r.harvested }) (set ts t (record x { released = true })) xs l
transfer_gone {r = r} t x here first old =
    released_now t x here (λ i. let c = times_first i t r.harvested first in omega (arith, c)) old
    (record {
      harvests = λ i. omega (arith, times_first i t r.harvested first, old.harvests i);
      leaving = old.leaving;
      removed = old.removed;
      steady = old.steady;
      within = old.within;
      sorts = old.sorts;
      unlinked = old.unlinked;
      untold = old.untold;
      leaver = old.leaver;
    })

-- and so was the first descriptor of what was unlinked
pub descriptor_gone : {r : Returns} {ts : List Transfer} {xs : List Endpoint} {l : Option ℕ} (t : ℕ) (x : Transfer) (m : Removal) → slice_get ts t ≡ Some x → slice_get r.removals 0 ≡ Some m → m.what ≡ removed.Descriptor t → AreOrderly r ts xs l → AreOrderly (record r { removals = drop 1 r.removals }) (set ts t (record x { released = true })) xs l
descriptor_gone {r = r} t x m here first what old =
    released_now t x here (λ i. let c = removed_first i t r.removals m first what in omega (arith, c)) old
    (record {
      harvests = λ i. omega (arith, removed_first i t r.removals m first what, old.harvests i);
      leaving = old.leaving;
      removed = λ i. omega (arith, ap (times i) (endpoints_kept t r.removals m first what), old.removed i);
      steady = old.steady;
      within = old.within;
      sorts = old.sorts;
      unlinked = λ i z some at. old.unlinked i z (omega (arith, removed_first i t r.removals m first what, some)) at;
      untold = old.untold;
      leaver = old.leaver;
    })
