-- What is to be given back stays counted where one transfer or one endpoint changes.
use Rattle.std.proofs.Common.{◌≡◌, ◌≢◌, ℕ, ◌+◌, ◌≤◌, true, false, cond, not, ◌||◌, List, [], ◌∷◌, ◌++◌, drop, set, slice_get, Option, Some, None, ap, sym, ◌∙◌, ⊎_elim, refl, arith}
use Rattle.std.proofs.lemmas.Bool.{cases_eq}
use Rattle.std.proofs.lemmas.Option.{same_Some}
use Rattle.law_common.proofs.Lists.{set_here, set_there}
use Rattle.drv_periodic_table.specs.Periodic.{is_periodic, read_again}
use Rattle.drv_periodic_table.specs.declared.content.Removal.{Removal}
use Rattle.drv_periodic_table.specs.declared.content.Removed.TheVariants as removed
use Rattle.drv_table.specs.declared.content.Endpoint.{Endpoint}
use Rattle.drv_table.specs.declared.content.Transfer.{Transfer}
use Rattle.claims_driver.specs.Leaving.{times, transfer_before, endpoints_in, owes, leaves_ring, leaves_frames, Returns}
use Rattle.law_driver.proofs.lemmas.run_owners.Orders.{times_push, times_both, times_first, transfers_push, endpoints_push, transfers_read, endpoints_read, set_case, same_count}
use Rattle.law_resting.specs.Counted.{IsNextIn, counted, AreCounted}

-- ---- the next transfer

-- what a later transfer of the endpoint was: no line of it is taken back
pub record WasOf (ts : List Transfer) (e u : ℕ) (z : Transfer) : Type 0 where
  pub one : Transfer
  pub here : slice_get ts u ≡ Some one
  pub endpoint : one.endpoint ≡ e
  pub told : one.reported ≡ true → z.reported ≡ true

-- .. and what becomes of one that has no line
pub record StaysOf (us : List Transfer) (e u : ℕ) : Type 0 where
  pub one : Transfer
  pub here : slice_get us u ≡ Some one
  pub endpoint : one.endpoint ≡ e
  pub untold : one.reported ≡ false

pub next_on : (ts us : List Transfer) (e : ℕ) (o : Option ℕ)
    → ((u : ℕ) (z : Transfer) → slice_get us u ≡ Some z → z.endpoint ≡ e → WasOf ts e u z)
    → ((u : ℕ) (y : Transfer) → slice_get ts u ≡ Some y → y.endpoint ≡ e → y.reported ≡ false → StaysOf us e u)
    → IsNextIn ts e o → IsNextIn us e o
next_on ts us e None was stays old = λ u z there at. let w = was u z there at in w.told (old u w.one w.here w.endpoint)
next_on ts us e (Some t) was stays old =
    let s = stays t old.transfer old.here old.endpoint old.untold in
    record {
      transfer = s.one;
      here = s.here;
      endpoint = s.endpoint;
      untold = s.untold;
      before = λ u z less there at. let w = was u z there at in w.told (old.before u w.one less w.here w.endpoint);
    }

-- one transfer changes, and keeps its line and its endpoint
pub next_changed : (ts : List Transfer) (t : ℕ) (x y : Transfer) (e : ℕ) (o : Option ℕ) → slice_get ts t ≡ Some x → y.endpoint ≡ x.endpoint
    → y.reported ≡ x.reported
    → IsNextIn ts e o → IsNextIn (set ts t y) e o
next_changed ts t x y e o here endpoint reported old =
    next_on ts (set ts t y) e o
    (λ u z there at.
    set_case (λ j (v : Transfer). v.endpoint ≡ e → WasOf ts e j v) ts t u x y z here there
    (λ at2. record { one = x; here = here; endpoint = sym endpoint ∙ at2; told = λ r. reported ∙ r })
    (λ differs was at2. record { one = z; here = was; endpoint = at2; told = λ r. r }) at)
    (λ u v there at untold.
    ⊎_elim
    (λ (same : u ≡ t).
    let v_is : v ≡ x = same_Some v x (sym there ∙ ap (slice_get ts) same ∙ here) in
    record {
      one = y;
      here = ap (slice_get (set ts t y)) same ∙ set_here ts t x y here;
      endpoint = endpoint ∙ ap (λ (w : Transfer). w.endpoint) (sym v_is) ∙ at;
      untold = reported ∙ ap (λ (w : Transfer). w.reported) (sym v_is) ∙ untold;
    })
    (λ (differs : u ≢ t). record { one = v; here = set_there ts t u y differs ∙ there; endpoint = at; untold = untold }) (cases_eq u t)) old

-- the transfer of another endpoint changes
pub next_beside : (ts : List Transfer) (t : ℕ) (x y : Transfer) (e : ℕ) (o : Option ℕ) → slice_get ts t ≡ Some x → y.endpoint ≡ x.endpoint
    → x.endpoint ≢ e
    → IsNextIn ts e o → IsNextIn (set ts t y) e o
next_beside ts t x y e o here endpoint other old =
    next_on ts (set ts t y) e o
    (λ u z there at.
    set_case (λ j (v : Transfer). v.endpoint ≡ e → WasOf ts e j v) ts t u x y z here there
    (λ at2. absurd (other (sym endpoint ∙ at2)))
    (λ differs was at2. record { one = z; here = was; endpoint = at2; told = λ r. r }) at)
    (λ u v there at untold.
    ⊎_elim
    (λ (same : u ≡ t).
    absurd (other (ap (λ (w : Transfer). w.endpoint) (same_Some x v (sym here ∙ ap (slice_get ts) (sym same) ∙ there)) ∙ at)))
    (λ (differs : u ≢ t). record { one = v; here = set_there ts t u y differs ∙ there; endpoint = at; untold = untold }) (cases_eq u t)) old

-- ---- one endpoint changes

-- as before, but for how it ended and what it does
pub record IsAs (ts : List Transfer) (e : ℕ) (x y : Endpoint) : Type 0 where
  pub kind : is_periodic y.desc.kind ≡ is_periodic x.desc.kind
  pub linked : y.linked ≡ x.linked
  pub chained : y.chained ≡ x.chained
  pub gone : y.gone ≡ x.gone
  pub ended : y.ended ≡ None → x.ended ≡ None
  pub next : y.ended ≡ None → IsNextIn ts e x.next → IsNextIn ts e y.next

pub same_ring : (x y : Endpoint) → is_periodic y.desc.kind ≡ is_periodic x.desc.kind → y.linked ≡ x.linked → y.gone ≡ x.gone
    → leaves_ring (Some y) ≡ leaves_ring (Some x)
same_ring x y kind linked gone =
    ap (λ b. cond (b || y.gone || is_periodic y.desc.kind) 0 1) linked ∙ ap (λ b. cond (x.linked || b || is_periodic y.desc.kind) 0 1) gone
    ∙ ap (λ b. cond (x.linked || x.gone || b) 0 1) kind

pub same_frames : (x y : Endpoint) → is_periodic y.desc.kind ≡ is_periodic x.desc.kind → y.chained ≡ x.chained → y.gone ≡ x.gone
    → leaves_frames (Some y) ≡ leaves_frames (Some x)
same_frames x y kind chained gone =
    ap (λ b. cond (b || y.gone || not (is_periodic y.desc.kind)) 0 1) chained ∙ ap
    (λ b. cond (x.chained || b || not (is_periodic y.desc.kind)) 0 1) gone
    ∙ ap (λ b. cond (x.chained || x.gone || not b) 0 1) kind

pub endpoint_as : {r : Returns} {ts : List Transfer} {xs : List Endpoint} {l : Option ℕ} (e : ℕ) (x y : Endpoint) → slice_get xs e ≡ Some x
    → IsAs ts e x y
    → (y.cancelled ≡ true → (x.linked || x.chained) ≡ true → l ≡ Some e) → AreCounted r ts xs l → AreCounted r ts (set xs e y) l
endpoint_as {r = r} {ts = ts} {xs = xs} {l = l} e x y here like out old = record {
  harvests = λ t v z there at goes.
      set_case (λ j w. j ≡ v.endpoint → w.ended ≡ None → owes (Some v) ≤ counted r t) xs e v.endpoint x y z here at
      (λ same going. old.harvests t v x there (ap (slice_get xs) (sym same) ∙ here) (like.ended going))
      (λ differs was same going. old.harvests t v z there was going) refl goes;
  leaving = λ i. let now = same_count leaves_ring xs e x y here (same_ring x y like.kind like.linked like.gone) i in omega
      (arith, now, old.leaving i);
  removed = λ i. let now = same_count leaves_frames xs e x y here (same_frames x y like.kind like.chained like.gone) i in omega
      (arith, now, old.removed i);
  cancelled = λ i z there over on.
      set_case (λ j w. w.cancelled ≡ true → (w.linked || w.chained) ≡ true → l ≡ Some j) xs e i x y z here there
      (λ over2 on2. out over2 (sym (ap (λ b. b || y.chained) like.linked ∙ ap (λ b. x.linked || b) like.chained) ∙ on2))
      (λ differs was. old.cancelled i z was) over on;
  next = λ i z there goes.
      set_case (λ j w. w.ended ≡ None → IsNextIn ts j w.next) xs e i x y z here there
      (λ going. like.next going (old.next e x here (like.ended going)))
      (λ differs was. old.next i z was) goes;
}

-- ---- one transfer changes, and keeps its line

pub transfer_as : {r : Returns} {ts : List Transfer} {xs : List Endpoint} {l : Option ℕ} (t : ℕ) (x y : Transfer) → slice_get ts t ≡ Some x
    → y.endpoint ≡ x.endpoint → y.reported ≡ x.reported
    → owes (Some y) ≤ owes (Some x) → AreCounted r ts xs l → AreCounted r (set ts t y) xs l
transfer_as {r = r} {ts = ts} {xs = xs} t x y here endpoint reported less old = record {
  harvests = λ i v z there at goes.
      set_case (λ j (w : Transfer). slice_get xs w.endpoint ≡ Some z → owes (Some w) ≤ counted r j) ts t i x y v here there
      (λ at2. omega (arith, less, old.harvests t x z here (ap (slice_get xs) (sym endpoint) ∙ at2) goes))
      (λ differs was at2. old.harvests i v z was at2 goes) at;
  leaving = old.leaving;
  removed = old.removed;
  cancelled = old.cancelled;
  next = λ e z there goes. next_changed ts t x y e z.next here endpoint reported (old.next e z there goes);
}

-- ---- the lists

pub record AreMoved (r s : Returns) : Type 0 where
  pub transfers : (t : ℕ) → counted r t ≤ counted s t
  pub ring : (e : ℕ) → times e r.waiting + times e r.rung + times e r.cleared ≤ times e s.waiting + times e s.rung + times e s.cleared
  pub frames : (e : ℕ) → times e (endpoints_in r.removals) ≤ times e (endpoints_in s.removals)

pub lists_moved : {r s : Returns} {ts : List Transfer} {xs : List Endpoint} {l : Option ℕ} → AreMoved r s → AreCounted r ts xs l
    → AreCounted s ts xs l
lists_moved moved old = record {
  harvests = λ t y x there at goes. omega (arith, moved.transfers t, old.harvests t y x there at goes);
  leaving = λ e. omega (arith, moved.ring e, old.leaving e);
  removed = λ e. omega (arith, moved.frames e, old.removed e);
  cancelled = old.cancelled;
  next = old.next;
}

pub rung_moved : (r : Returns) → AreMoved r (record r { waiting = []; rung = r.rung ++ r.waiting })
rung_moved r = record { transfers = λ t. omega arith; ring = λ e. omega (arith, times_both e r.rung r.waiting); frames = λ e. omega arith }

pub cleared_moved : (r : Returns) → AreMoved r (record r { rung = []; cleared = r.cleared ++ r.rung })
cleared_moved r =
    record { transfers = λ t. omega arith; ring = λ e. omega (arith, times_both e r.cleared r.rung); frames = λ e. omega arith }

pub read_moved : (r : Returns) (n : ℕ) → AreMoved r (record r { removals = read_again n r.removals })
read_moved r n = record {
  transfers = λ t. let same = ap (times t) (transfers_read n r.removals) in omega (arith, same);
  ring = λ e. omega arith;
  frames = λ e. let same = ap (times e) (endpoints_read n r.removals) in omega (arith, same);
}

pub unlinked_moved : (r : Returns) (t : ℕ) (m : Removal) → slice_get r.unlinks 0 ≡ Some t → m.what ≡ removed.Descriptor t
    → AreMoved r (record r { unlinks = drop 1 r.unlinks; removals = r.removals ++ m ∷ [] })
unlinked_moved r t m first what = record {
  transfers = λ i.
      let p = transfers_push i r.removals m in let n = ap (λ w. times i (transfer_before w [])) what in let f = times_first i t r.unlinks
      first in
      omega (arith, p, n, f);
  ring = λ e. omega arith;
  frames = λ e. let p = endpoints_push e r.removals m in omega (arith, p);
}

pub harvested_moved : (r : Returns) (t : ℕ) → AreMoved r (record r { harvested = r.harvested ++ t ∷ [] })
harvested_moved r t =
    record { transfers = λ i. omega (arith, times_push i t r.harvested); ring = λ e. omega arith; frames = λ e. omega arith }

pub unlinks_moved : (r : Returns) (t : ℕ) → AreMoved r (record r { unlinks = r.unlinks ++ t ∷ [] })
unlinks_moved r t = record { transfers = λ i. omega (arith, times_push i t r.unlinks); ring = λ e. omega arith; frames = λ e. omega arith }
