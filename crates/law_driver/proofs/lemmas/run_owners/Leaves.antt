-- An endpoint leaves the ring or its frames, its doorbell is rung and answered or its frames have passed, and it is given back.
use Rattle.std.proofs.Common.{◌≡◌, ◌≢◌, ℕ, ◌+◌, ◌<◌, ◌==◌, Bool, true, false, not, ◌||◌, ◌&&◌, cond, List, [], ◌∷◌, ◌++◌, map, drop, set, slice_get, Option, Some, None, option_map, ap, sym, ◌∙◌, ⊎_elim, inl, inr, refl, arith}
use Rattle.std.specs.Prelude.{is_some, ◌⊎◌, ◌≤◌}
use Rattle.std.proofs.lemmas.Bool.{cases_eq, cases_lt, cases_Bool, false≢true}
use Rattle.std.proofs.lemmas.List.{length-set}
use Rattle.std.proofs.lemmas.Option.{slice_get-map}
use Rattle.law_driver.proofs.Common.{frames_most}
use Rattle.law_common.proofs.Numbers.{leaves_none}
use Rattle.law_driver.proofs.Common.{gone_was, not_in_ring, ring_most}
use Rattle.law_common.proofs.Lists.{set_here, set_there}
use Rattle.drv_periodic_table.specs.Periodic.{is_periodic, read_again}
use Rattle.drv_periodic_table.specs.declared.content.Removal.{Removal}
use Rattle.drv_periodic_table.specs.declared.content.Removed.TheVariants as removed
use Rattle.drv_table.specs.declared.content.Endpoint.{Endpoint}
use Rattle.drv_table.specs.declared.content.Transfer.{Transfer}
use Rattle.drv_table.specs.declared.content.Sort.{Sort}
use Rattle.drv_table.specs.DriverContent.{DriverContent, waits_for}
use Rattle.drv_table.specs.Kinds.{is_iso}
use Rattle.drv_table.specs.Commands.{leave_ring, no_command}
use Rattle.drv_table.specs.Releases.{let_go}
use Rattle.drv_table.specs.Removals.{let_go_waiting}
use Rattle.claims_driver.specs.Owners.{is_descriptor}
use Rattle.claims_driver.specs.Leaving.{times, transfer_before, endpoint_before, transfers_in, endpoints_in, owes, leaves_ring, leaves_frames, IsSteady, Returns, AreOrderly, IsOrderly}
use Rattle.law_driver.proofs.lemmas.run_owners.Released.{same_by_test}
use Rattle.law_driver.proofs.lemmas.run_owners.Orders.{counts, times_push, times_both, times_first, one_same, none_other, none_at_all, transfers_push, endpoints_push, transfers_read, endpoints_read, transfers_kept, endpoint_first, IsLeft, has_left, IsRemoved, has_removed, owes_nothing, in_ring, out_of_ring, in_frames, out_of_frames, set_case, same_count}

-- ---- the command goes on

pub no_command_orderly : {r : Returns} {ts : List Transfer} {xs : List Endpoint} {l : Option ℕ} → AreOrderly r ts xs l → AreOrderly r ts xs None
no_command_orderly old = record {
  harvests = old.harvests;
  leaving = old.leaving;
  removed = old.removed;
  steady = old.steady;
  within = old.within;
  sorts = old.sorts;
  unlinked = old.unlinked;
  untold = old.untold;
  leaver = λ e x is here. absurd (cc);
}

-- what is out of the ring, or out of its frames, wasn't given back
alive : (x : Endpoint) → IsSteady x → ((x.gone ≡ true) → false ≡ true) → x.gone ≡ false
alive x s not = ⊎_elim (λ (g : x.gone ≡ true). absurd (false≢true (not g))) (λ (g : x.gone ≡ false). g) (cases_Bool x.gone)

-- the endpoint was in the ring, and has ended
left_ring : {r : Returns} {ts : List Transfer} {xs : List Endpoint} {l : Option ℕ} (e : ℕ) (x : Endpoint) → slice_get xs e ≡ Some x → x.linked ≡ true → is_some x.ended ≡ true → AreOrderly r ts xs l → AreOrderly (record r { waiting = r.waiting ++ e ∷ [] }) ts (set xs e (record x { linked = false })) None
left_ring {r = r} {ts = ts} {xs = xs} e x here on ended old =
    let y : Endpoint = record x { linked = false } in
    let s = old.steady e x here in
    let here_gone : x.gone ≡ false = alive x s (λ g. sym (s.gone g).0 ∙ on) in
    record {
      harvests = old.harvests;
      leaving = λ i.
          ⊎_elim (λ (same : i ≡ e).
          let was : leaves_ring (slice_get xs i) ≡ 0 = ap (λ j. leaves_ring (slice_get xs j)) same ∙ ap leaves_ring here ∙ in_ring x on in
          let now : leaves_ring (slice_get (set xs e y) i) ≡ 1 = ap (λ j. leaves_ring (slice_get (set xs e y) j)) same ∙ ap leaves_ring (set_here xs e x y here) ∙ out_of_ring y refl here_gone (s.ring on) in
          let one : ◌≡◌ {A = ℕ} (cond (e == i) 1 0) 1 = ap (λ j. cond (e == j) 1 0) same ∙ one_same e in
          omega (arith, times_push i e r.waiting, was, now, one, old.leaving i))
          (λ (differs : i ≢ e).
          let now = ap leaves_ring (set_there xs e i y differs) in
          omega (arith, times_push i e r.waiting, none_other e i (λ same. differs (sym same)), now, old.leaving i)) (cases_eq i e);
      removed = λ i. let now = same_count leaves_frames xs e x y here refl i in omega (arith, now, old.removed i);
      steady = λ i z there.
          set_case (λ j v. IsSteady v) xs e i x y z here there
          (record { ended = λ off out. ended; gone = λ g. (refl, (s.gone g).1); ring = λ f. absurd (false≢true f); frames = s.frames; placed = s.placed })
          (λ differs was. old.steady i z was);
      within = λ t v there. let n = length-set xs e y in omega (arith, n, old.within t v there);
      sorts = λ t v z there at.
          set_case (λ j w. j ≡ v.endpoint → is_descriptor v.sort ≡ is_iso w.desc.kind) xs e v.endpoint x y z here at
          (λ same. old.sorts t v x there (ap (slice_get xs) (sym same) ∙ here))
          (λ differs was same. old.sorts t v z there was) refl;
      unlinked = old.unlinked;
      untold = λ t v there r off z at.
          set_case (λ j w. j ≡ v.endpoint → w.gone ≡ true) xs e v.endpoint x y z here at
          (λ same. old.untold t v there r off x (ap (slice_get xs) (sym same) ∙ here))
          (λ differs was same. old.untold t v there r off z was) refl;
      leaver = λ i z is there. absurd (cc);
    }

-- the endpoint was in its frames, and has ended
pub left_frames : {r : Returns} {ts : List Transfer} {xs : List Endpoint} {l : Option ℕ} (e : ℕ) (x : Endpoint) (m : Removal) → m.what ≡ removed.Endpoint e → slice_get xs e ≡ Some x → x.chained ≡ true → is_some x.ended ≡ true → AreOrderly r ts xs l → AreOrderly (record r { removals = r.removals ++ m ∷ [] }) ts (set xs e (record x { chained = false })) None
left_frames {r = r} {ts = ts} {xs = xs} e x m what here on ended old =
    let y : Endpoint = record x { chained = false } in
    let s = old.steady e x here in
    let here_gone : x.gone ≡ false = alive x s (λ g. sym (s.gone g).1 ∙ on) in
    let no_transfer : (t : ℕ) → times t (transfers_in (r.removals ++ m ∷ [])) ≡ times t (transfers_in r.removals) = λ t. let p = transfers_push t r.removals m in let n = ap (λ w. times t (transfer_before w [])) what in omega (arith, p, n) in
    let one_endpoint : (i : ℕ) → times i (endpoints_in (r.removals ++ m ∷ [])) ≡ times i (endpoints_in r.removals) + cond (e == i) 1 0 = λ i. let p = endpoints_push i r.removals m in let n = ap (λ w. times i (endpoint_before w [])) what in omega (arith, p, n) in
    record {
      harvests = λ t. omega (arith, no_transfer t, old.harvests t);
      leaving = λ i. let now = same_count leaves_ring xs e x y here refl i in omega (arith, now, old.leaving i);
      removed = λ i.
          ⊎_elim (λ (same : i ≡ e).
          let was : leaves_frames (slice_get xs i) ≡ 0 = ap (λ j. leaves_frames (slice_get xs j)) same ∙ ap leaves_frames here ∙ in_frames x on in
          let now : leaves_frames (slice_get (set xs e y) i) ≡ 1 = ap (λ j. leaves_frames (slice_get (set xs e y) j)) same ∙ ap leaves_frames (set_here xs e x y here) ∙ out_of_frames y refl here_gone (s.frames on) in
          let one : ◌≡◌ {A = ℕ} (cond (e == i) 1 0) 1 = ap (λ j. cond (e == j) 1 0) same ∙ one_same e in
          omega (arith, one_endpoint i, was, now, one, old.removed i))
          (λ (differs : i ≢ e).
          let now = ap leaves_frames (set_there xs e i y differs) in
          omega (arith, one_endpoint i, none_other e i (λ same. differs (sym same)), now, old.removed i)) (cases_eq i e);
      steady = λ i z there.
          set_case (λ j v. IsSteady v) xs e i x y z here there
          (record { ended = λ off out. ended; gone = λ g. ((s.gone g).0, refl); ring = s.ring; frames = λ f. absurd (false≢true f); placed = s.placed })
          (λ differs was. old.steady i z was);
      within = λ t v there. let n = length-set xs e y in omega (arith, n, old.within t v there);
      sorts = λ t v z there at.
          set_case (λ j w. j ≡ v.endpoint → is_descriptor v.sort ≡ is_iso w.desc.kind) xs e v.endpoint x y z here at
          (λ same. old.sorts t v x there (ap (slice_get xs) (sym same) ∙ here))
          (λ differs was same. old.sorts t v z there was) refl;
      unlinked = λ t v some there. old.unlinked t v (omega (arith, no_transfer t, some)) there;
      untold = λ t v there r off z at.
          set_case (λ j w. j ≡ v.endpoint → w.gone ≡ true) xs e v.endpoint x y z here at
          (λ same. old.untold t v there r off x (ap (slice_get xs) (sym same) ∙ here))
          (λ differs was same. old.untold t v there r off z was) refl;
      leaver = λ i z is there. absurd (cc);
    }

pub leave_orderly : (d : DriverContent) (e : ℕ) (o : Option Endpoint) → slice_get d.endpoints e ≡ o → ((x : Endpoint) → o ≡ Some x → is_some x.ended ≡ true) → IsOrderly d → IsOrderly (leave_ring (no_command d) e o)
leave_orderly d e None here ended old = no_command_orderly old
leave_orderly d e (Some x) here ended old = at x.linked refl
  where
    at : (b : Bool) → x.linked ≡ b → IsOrderly (cond b (record (no_command d) { waiting = d.waiting ++ e ∷ []; endpoints = set d.endpoints e (record x { linked = false }) }) (no_command d))
    at true on = left_ring e x here on (ended x refl) old
    at false off = no_command_orderly old

-- ---- the doorbell

pub rung_orderly : {r : Returns} {ts : List Transfer} {xs : List Endpoint} {l : Option ℕ} → AreOrderly r ts xs l → AreOrderly (record r { waiting = []; rung = r.rung ++ r.waiting }) ts xs l
rung_orderly {r = r} old = record {
  harvests = old.harvests;
  leaving = λ e. omega (arith, times_both e r.rung r.waiting, old.leaving e);
  removed = old.removed;
  steady = old.steady;
  within = old.within;
  sorts = old.sorts;
  unlinked = old.unlinked;
  untold = old.untold;
  leaver = old.leaver;
}

pub cleared_orderly : {r : Returns} {ts : List Transfer} {xs : List Endpoint} {l : Option ℕ} → AreOrderly r ts xs l → AreOrderly (record r { rung = []; cleared = r.cleared ++ r.rung }) ts xs l
cleared_orderly {r = r} old = record {
  harvests = old.harvests;
  leaving = λ e. omega (arith, times_both e r.cleared r.rung, old.leaving e);
  removed = old.removed;
  steady = old.steady;
  within = old.within;
  sorts = old.sorts;
  unlinked = old.unlinked;
  untold = old.untold;
  leaver = old.leaver;
}

-- ---- the frame index is read

pub read_orderly : {r : Returns} {ts : List Transfer} {xs : List Endpoint} {l : Option ℕ} (n : ℕ) → AreOrderly r ts xs l → AreOrderly (record r { removals = read_again n r.removals }) ts xs l
read_orderly {r = r} n old = record {
  harvests = λ t. let same = ap (times t) (transfers_read n r.removals) in omega (arith, same, old.harvests t);
  leaving = old.leaving;
  removed = λ e. let same = ap (times e) (endpoints_read n r.removals) in omega (arith, same, old.removed e);
  steady = old.steady;
  within = old.within;
  sorts = old.sorts;
  unlinked = λ t y some there. let same = ap (times t) (transfers_read n r.removals) in old.unlinked t y (omega (arith, same, some)) there;
  untold = old.untold;
  leaver = old.leaver;
}

-- ---- a harvested descriptor leaves its frame

pub unlinked_orderly : {r : Returns} {ts : List Transfer} {xs : List Endpoint} {l : Option ℕ} (t : ℕ) (m : Removal) → slice_get r.unlinks 0 ≡ Some t → m.what ≡ removed.Descriptor t → AreOrderly r ts xs l → AreOrderly (record r { unlinks = drop 1 r.unlinks; removals = r.removals ++ m ∷ [] }) ts xs l
unlinked_orderly {r = r} t m first what old =
    let moved : (i : ℕ) → times i (drop 1 r.unlinks) + times i (transfers_in (r.removals ++ m ∷ [])) ≡ times i r.unlinks + times i (transfers_in r.removals) = λ i.
    let p = transfers_push i r.removals m in let n = ap (λ w. times i (transfer_before w [])) what in let f = times_first i t r.unlinks first in omega (arith, p, n, f) in
    record {
      harvests = λ i. omega (arith, moved i, old.harvests i);
      leaving = old.leaving;
      removed = λ i. let p = endpoints_push i r.removals m in let n = ap (λ w. times i (endpoint_before w [])) what in omega (arith, p, n, old.removed i);
      steady = old.steady;
      within = old.within;
      sorts = old.sorts;
      unlinked = λ i y some there. old.unlinked i y (omega (arith, moved i, some)) there;
      untold = old.untold;
      leaver = old.leaver;
    }

-- ---- an endpoint is given back

-- the endpoint that is to be given back first is out of the ring, and wasn't given back
pub first_left : {r : Returns} {ts : List Transfer} {xs : List Endpoint} {l : Option ℕ} (e : ℕ) → slice_get r.cleared 0 ≡ Some e → AreOrderly r ts xs l → IsLeft xs e
first_left {r = r} {xs = xs} e first old =
    let count = times_first e e r.cleared first in
    has_left xs e (slice_get xs e) refl (omega (arith, count, one_same e, old.leaving e))

pub first_removed : {r : Returns} {ts : List Transfer} {xs : List Endpoint} {l : Option ℕ} (e : ℕ) (m : Removal) → slice_get r.removals 0 ≡ Some m → m.what ≡ removed.Endpoint e → AreOrderly r ts xs l → IsRemoved xs e
first_removed {r = r} {xs = xs} e m first what old =
    let count = endpoint_first e e r.removals m first what in
    has_removed xs e (slice_get xs e) refl (omega (arith, count, one_same e, old.removed e))

-- What becomes of a transfer where an endpoint is given back: it is as it was, or is one of the endpoint's, and nothing is owed of it.
pub record HasGone (e : ℕ) (r : Returns) (t : ℕ) (y z : Transfer) : Type 0 where
  pub was : y.endpoint ≡ e
  pub endpoint : z.endpoint ≡ y.endpoint
  pub sort : z.sort ≡ y.sort
  pub none : counts r t ≡ 0

abbrev pub GoesBy : ℕ → Returns → ℕ → Transfer → Transfer → Type 0
GoesBy e r t y z = (z ≡ y) ⊎ HasGone e r t y z

-- the lists once endpoint e is to be given back no more
pub record IsLess (r s : Returns) (e : ℕ) : Type 0 where
  pub same : (t : ℕ) → counts s t ≡ counts r t
  pub unlinked : (t : ℕ) → times t s.unlinks + times t (transfers_in s.removals) ≡ times t r.unlinks + times t (transfers_in r.removals)
  pub leaving : (i : ℕ) → i ≢ e → times i s.waiting + times i s.rung + times i s.cleared ≡ times i r.waiting + times i r.rung + times i r.cleared
  pub removed : (i : ℕ) → i ≢ e → times i (endpoints_in s.removals) ≡ times i (endpoints_in r.removals)
  pub none : times e s.waiting + times e s.rung + times e s.cleared ≡ 0
  pub out : times e (endpoints_in s.removals) ≡ 0

pub endpoint_gone : {r s : Returns} {ts : List Transfer} {xs : List Endpoint} {l : Option ℕ} (e : ℕ) (x : Endpoint) (go : Transfer → Transfer) → slice_get xs e ≡ Some x → x.linked ≡ false → x.chained ≡ false → IsLess r s e → ((t : ℕ) (y : Transfer) → slice_get ts t ≡ Some y → GoesBy e r t y (go y)) → AreOrderly r ts xs l → AreOrderly s (map go ts) (set xs e (record x { gone = true })) l
endpoint_gone {r = r} {s = s} {ts = ts} {xs = xs} {l = l} e x go here off out less goes old =
    let y : Endpoint = record x { gone = true } in
    let st = old.steady e x here in
    record {
      harvests = λ t. owed_now t (slice_get ts t) refl;
      leaving = λ i.
          ⊎_elim (λ (at : i ≡ e). let n = ap (λ j. times j s.waiting + times j s.rung + times j s.cleared) at in omega (arith, n, less.none))
          (λ (differs : i ≢ e). let now = ap leaves_ring (set_there xs e i y differs) in omega (arith, now, less.leaving i differs, old.leaving i)) (cases_eq i e);
      removed = λ i.
          ⊎_elim (λ (at : i ≡ e). let n = ap (λ j. times j (endpoints_in s.removals)) at in omega (arith, n, less.out))
          (λ (differs : i ≢ e). let now = ap leaves_frames (set_there xs e i y differs) in omega (arith, now, less.removed i differs, old.removed i)) (cases_eq i e);
      steady = λ i z there.
          set_case (λ j v. IsSteady v) xs e i x y z here there
          (record { ended = st.ended; gone = λ on. (off, out); ring = st.ring; frames = st.frames; placed = st.placed })
          (λ differs was. old.steady i z was);
      within = λ t z there.
          let n = length-set xs e y in
          let w = was t z there in
          let at : z.endpoint ≡ w.0.endpoint = ap (λ (v : Transfer). v.endpoint) (sym w.2) ∙ same_endpoint t w.0 (goes t w.0 w.1) in
          omega (arith, n, at, old.within t w.0 w.1);
      sorts = λ t z v there at.
          let w = was t z there in
          let place : z.endpoint ≡ w.0.endpoint = ap (λ (u : Transfer). u.endpoint) (sym w.2) ∙ same_endpoint t w.0 (goes t w.0 w.1) in
          let sort : z.sort ≡ w.0.sort = ap (λ (u : Transfer). u.sort) (sym w.2) ∙ same_sort t w.0 (goes t w.0 w.1) in
          ap (λ (k : Sort). is_descriptor k) sort
          ∙ set_case (λ j u. j ≡ z.endpoint → is_descriptor w.0.sort ≡ is_iso u.desc.kind) xs e z.endpoint x y v here at
          (λ same. old.sorts t w.0 x w.1 (ap (slice_get xs) (sym place ∙ sym same) ∙ here))
          (λ differs was same. old.sorts t w.0 v w.1 (ap (slice_get xs) (sym place) ∙ was)) refl;
      unlinked = λ t z some there.
          let w = was t z there in
          ap (λ (k : Sort). is_descriptor k) (ap (λ (u : Transfer). u.sort) (sym w.2) ∙ same_sort t w.0 (goes t w.0 w.1))
          ∙ old.unlinked t w.0 (omega (arith, less.unlinked t, some)) w.1;
      untold = λ t z there back untold v at.
          let w = was t z there in
          set_case (λ j u. j ≡ z.endpoint → u.gone ≡ true) xs e z.endpoint x y v here at
          (λ place. refl)
          (λ differs at2 place.
          ⊎_elim
          (λ (k : go w.0 ≡ w.0).
          let z_is : z ≡ w.0 = sym w.2 ∙ k in
          old.untold t w.0 w.1 (ap (λ (u : Transfer). u.released) (sym z_is) ∙ back) (ap (λ (u : Transfer). u.reported) (sym z_is) ∙ untold) v (ap (λ (u : Transfer). slice_get xs u.endpoint) (sym z_is) ∙ at2))
          (λ (k : HasGone e r t w.0 (go w.0)). absurd (differs (ap (λ (u : Transfer). u.endpoint) (sym w.2) ∙ k.endpoint ∙ k.was)))
          (goes t w.0 w.1)) refl;
      leaver = λ i z is there.
          set_case (λ j u. j ≡ i → is_some u.ended ≡ true) xs e i x y z here there
          (λ place. old.leaver i x is (ap (slice_get xs) (sym place) ∙ here))
          (λ differs was place. old.leaver i z is was) refl;
    }
  where
    was : (t : ℕ) (z : Transfer) → slice_get (map go ts) t ≡ Some z → (y : Transfer) × (slice_get ts t ≡ Some y) × (go y ≡ z)
    was t z there = gone_was go ts t (slice_get ts t) z refl (sym (slice_get-map go ts t) ∙ there)

    same_endpoint : (t : ℕ) (y : Transfer) → GoesBy e r t y (go y) → (go y).endpoint ≡ y.endpoint
    same_endpoint t y g = ⊎_elim (λ (k : go y ≡ y). ap (λ (v : Transfer). v.endpoint) k) (λ (k : HasGone e r t y (go y)). k.endpoint) g

    same_sort : (t : ℕ) (y : Transfer) → GoesBy e r t y (go y) → (go y).sort ≡ y.sort
    same_sort t y g = ⊎_elim (λ (k : go y ≡ y). ap (λ (v : Transfer). v.sort) k) (λ (k : HasGone e r t y (go y)). k.sort) g

    owed_now : (t : ℕ) (o : Option Transfer) → slice_get ts t ≡ o → counts s t ≤ owes (slice_get (map go ts) t)
    owed_now t None there = let n = ap owes there in omega (arith, less.same t, old.harvests t, n)
    owed_now t (Some y) there =
        let now : slice_get (map go ts) t ≡ Some (go y) = slice_get-map go ts t ∙ ap (option_map go) there in
        let n = ap owes now in
        let o = ap owes there in
        ⊎_elim (λ (k : go y ≡ y). let e2 = ap (λ (v : Transfer). owes (Some v)) k in omega (arith, less.same t, old.harvests t, n, o, e2))
        (λ (k : HasGone e r t y (go y)). omega (arith, less.same t, k.none)) (goes t y there)

-- ---- which transfers go with an endpoint

-- with a queue: all of its transfers, none of which is to be given back by itself
let_go_one : (e : ℕ) (told b : Bool) (r : Returns) (t : ℕ) (y z : Transfer) → (y.endpoint == e) ≡ b → cond b (record y { reported = y.reported || told; released = true }) y ≡ z → ((y.endpoint ≡ e) → counts r t ≡ 0) → GoesBy e r t y z
let_go_one e told true r t y z test is none =
    let same = same_by_test y.endpoint e test in
    inr (record { was = same; endpoint = ap (λ (v : Transfer). v.endpoint) (sym is); sort = ap (λ (v : Transfer). v.sort) (sym is); none = none same })
let_go_one e told false r t y z test is none = inl (sym is)

pub let_go_goes : (e : ℕ) (told : Bool) (r : Returns) (t : ℕ) (y : Transfer) → ((y.endpoint ≡ e) → counts r t ≡ 0) → GoesBy e r t y (let_go e told y)
let_go_goes e told r t y none = let_go_one e told (y.endpoint == e) r t y (let_go e told y) refl refl none

-- without one: those that wait, which aren't to be given back either
let_waiting_one : (e : ℕ) (told b : Bool) (r : Returns) (t : ℕ) (y z : Transfer) → waits_for e y ≡ b → cond b (record y { reported = y.reported || told; released = true }) y ≡ z → (y.endpoint ≡ e → y.reported ≡ false → counts r t ≡ 0) → GoesBy e r t y z
let_waiting_one e told true r t y z test is none =
    let both = two (y.endpoint == e) y.reported test in
    let same = same_by_test y.endpoint e both.0 in
    inr (record { was = same; endpoint = ap (λ (v : Transfer). v.endpoint) (sym is); sort = ap (λ (v : Transfer). v.sort) (sym is); none = none same both.1 })
  where
    two : (a b : Bool) → a && not b ≡ true → (a ≡ true) × (b ≡ false)
    two true false w = (refl, refl)
    two true true w = absurd (false≢true w)
    two false b w = absurd (false≢true w)
let_waiting_one e told false r t y z test is none = inl (sym is)

pub let_waiting_goes : {r : Returns} {ts : List Transfer} {xs : List Endpoint} {l : Option ℕ} (e : ℕ) (told : Bool) (t : ℕ) (y : Transfer) → slice_get ts t ≡ Some y → AreOrderly r ts xs l → GoesBy e r t y (let_go_waiting e told y)
let_waiting_goes {r = r} e told t y there old =
    let_waiting_one e told (waits_for e y) r t y (let_go_waiting e told y) refl refl
    (λ same untold. let n = ap owes there ∙ owes_nothing y untold in omega (arith, n, old.harvests t))

-- nothing of an endpoint with a queue is unlinked from the frame list as a descriptor
pub none_of : {r : Returns} {ts : List Transfer} {xs : List Endpoint} {l : Option ℕ} (e : ℕ) (x : Endpoint) → slice_get xs e ≡ Some x → is_iso x.desc.kind ≡ false → slice_get r.harvested 0 ≡ None → AreOrderly r ts xs l → (t : ℕ) (y : Transfer) → slice_get ts t ≡ Some y → y.endpoint ≡ e → counts r t ≡ 0
none_of {r = r} {xs = xs} e x here queued none old t y there at =
    let h = none_at_all t r.harvested none in
    ⊎_elim (λ (few : times t r.unlinks + times t (transfers_in r.removals) < 1). omega (arith, h, few))
    (λ (some : 1 ≤ times t r.unlinks + times t (transfers_in r.removals)).
    absurd (false≢true (sym queued ∙ sym (old.sorts t y x there (ap (slice_get xs) at ∙ here)) ∙ old.unlinked t y some there)))
    (cases_lt (times t r.unlinks + times t (transfers_in r.removals)) 1)

-- ---- which lists stay

one_most : (b : Bool) → ◌≡◌ {A = Bool} b b → cond b 0 1 ≤ 1
one_most true e = omega arith
one_most false e = omega arith

not_in_frames : (x : Endpoint) → is_periodic x.desc.kind ≡ false → leaves_frames (Some x) ≡ 0
not_in_frames x ring = leaves_none x.chained x.gone (not (is_periodic x.desc.kind)) (ap not ring)

pub less_cleared : {r : Returns} {ts : List Transfer} {xs : List Endpoint} {l : Option ℕ} (e : ℕ) (x : Endpoint) → slice_get xs e ≡ Some x → is_periodic x.desc.kind ≡ false → slice_get r.cleared 0 ≡ Some e → AreOrderly r ts xs l → IsLess r (record r { cleared = drop 1 r.cleared }) e
less_cleared {r = r} {xs = xs} e x here ring first old = record {
  same = λ t. refl;
  unlinked = λ t. refl;
  leaving = λ i differs. omega (arith, times_first i e r.cleared first, none_other e i (λ at. differs (sym at)));
  removed = λ i differs. refl;
  none = let most = ring_most (slice_get xs e) in omega (arith, most, times_first e e r.cleared first, one_same e, old.leaving e);
  out = let f = ap leaves_frames here ∙ not_in_frames x ring in omega (arith, f, old.removed e);
}

pub less_removed : {r : Returns} {ts : List Transfer} {xs : List Endpoint} {l : Option ℕ} (e : ℕ) (x : Endpoint) (m : Removal) → slice_get xs e ≡ Some x → is_periodic x.desc.kind ≡ true → slice_get r.removals 0 ≡ Some m → m.what ≡ removed.Endpoint e → AreOrderly r ts xs l → IsLess r (record r { removals = drop 1 r.removals }) e
less_removed {r = r} {xs = xs} e x m here frames first what old = record {
  same = λ t. let k = ap (times t) (transfers_kept e r.removals m first what) in omega (arith, k);
  unlinked = λ t. let k = ap (times t) (transfers_kept e r.removals m first what) in omega (arith, k);
  leaving = λ i differs. refl;
  removed = λ i differs. let f = endpoint_first i e r.removals m first what in omega (arith, f, none_other e i (λ at. differs (sym at)));
  none = let n = ap leaves_ring here ∙ not_in_ring x frames in omega (arith, n, old.leaving e);
  out = let most = frames_most (slice_get xs e) in let f = endpoint_first e e r.removals m first what in omega (arith, most, f, one_same e, old.removed e);
}
