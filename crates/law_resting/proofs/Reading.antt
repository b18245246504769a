-- What is to be given back, and what is next, stays counted at a harvest.
use Rattle.std.proofs.Common.{◌≡◌, ◌≢◌, ℕ, zero, suc, ◌+◌, ◌-◌, ◌<◌, ◌≤◌, Bool, true, false, cond, List, [], ◌∷◌, ◌++◌, length, set, slice_get, Option, Some, None, ap, sym, subst, ◌∙◌, ⊎_elim, refl, arith}
use Rattle.std.proofs.lemmas.Bool.{cases_eq}
use Rattle.std.proofs.lemmas.List.{set-set, length-set}
use Rattle.std.proofs.lemmas.Option.{same_Some, slice_get_within}
use Rattle.law_common.proofs.Lists.{set_here}
use Rattle.law_driver.proofs.Common.{waits_is}
use Rattle.usb_base.specs.declared.endpoints.EndCause.{EndCause}
use Rattle.usb_base.specs.declared.endpoints.EndCause.TheVariants as causes
use Rattle.usb_base.specs.declared.endpoints.EpName.{EpName}
use Rattle.usb_base.specs.declared.reports.What.TheVariants as lines
use Rattle.word_mem.specs.Memory.{Mem}
use Rattle.drv_table.specs.declared.content.Endpoint.{Endpoint}
use Rattle.drv_table.specs.declared.content.Transfer.{Transfer}
use Rattle.drv_table.specs.declared.rows.Found.{Found}
use Rattle.drv_table.specs.declared.rows.Found.TheVariants as founds
use Rattle.drv_table.specs.DriverContent.{DriverContent, waits_for, next_after}
use Rattle.drv_table.specs.Harvests.{note_at, noted, is_stall, end_of, reported}
use Rattle.drv_table.specs.Harvesting.{served, told_with, behind_one, behind, mends_of, stalled, after_end, harvested_as, after_harvest}
use Rattle.claims_driver.specs.Leaving.{leaver, Returns, returns_of}
use Rattle.law_driver.proofs.lemmas.chained_transfers.Harvesting.{waits_not}
use Rattle.law_driver.proofs.lemmas.chained_transfers.Stalled.{behind_tells}
use Rattle.law_resting.specs.Counted.{IsFirstUntold, IsNextIn, AreCounted}
use Rattle.law_resting.proofs.Counting.{endpoint_as, transfer_as}
use Rattle.law_resting.proofs.Harvested.{told_to, goes_counted, ends_counted, harvested_more, unlinks_more, after_told}

-- ---- the requests behind a stalled one

module _ (xs : List Endpoint) (l : Option ℕ) (e : ℕ) (x : Endpoint) (here : slice_get xs e ≡ Some x) (name : EpName) where
  -- the endpoint's transfers before number k have their lines
  record IsStalledTo (k : ℕ) (r : Returns) (ts : List Transfer) : Type 0 where
    next : Option ℕ
    counts : AreCounted r ts (set xs e (record x { next = next })) l
    before : (u : ℕ) (z : Transfer) → u < k → slice_get ts u ≡ Some z → z.endpoint ≡ e → z.reported ≡ true

  abbrev IsStalledIn : ℕ → DriverContent → Type 0
  IsStalledIn k f = IsStalledTo k (returns_of f) f.transfers

  passes : (k : ℕ) (f : DriverContent) → ((y : Transfer) → slice_get f.transfers k ≡ Some y → y.endpoint ≡ e → y.reported ≡ true)
      → IsStalledIn k f → IsStalledIn (suc k) f
  passes k f off old = record {
    next = old.next;
    counts = old.counts;
    before = λ u z less there at.
        ⊎_elim (λ (same : u ≡ k). off z (ap (slice_get f.transfers) (sym same) ∙ there) at)
        (λ (differs : u ≢ k). old.before u z (omega (arith, less, differs)) there at) (cases_eq u k);
  }

  tells : (k : ℕ) (f : DriverContent) (y : Transfer) → slice_get f.transfers k ≡ Some y → waits_for e y ≡ true → IsStalledIn k f
      → IsStalledTo (suc k) (record (returns_of f) { harvested = f.harvested ++ k ∷ [] }) (set f.transfers k (record y { reported = true }))
  tells k f y there on old = record {
    next = next_after (set f.transfers k (record y { reported = true })) e k;
    counts =
        subst (λ (ys : List Endpoint). AreCounted (record (returns_of f) { harvested = f.harvested ++ k ∷ [] })
        (set f.transfers k (record y { reported = true })) ys l)
        (set-set xs e (record x { next = old.next })
        (record x { next = next_after (set f.transfers k (record y { reported = true })) e k }))
        (goes_counted (returns_of f) f.transfers (set xs e (record x { next = old.next })) l e k (record x { next = old.next }) y
        (set_here xs e x (record x { next = old.next }) here) there
        (waits_is e y on).0 (record {
          transfer = y;
          here = there;
          endpoint = (waits_is e y on).0;
          untold = (waits_is e y on).1;
          before =
              old.before;
        }) old.counts
        (record (returns_of f) { harvested = f.harvested ++ k ∷ [] }) (harvested_more (returns_of f) k)
        (next_after (set f.transfers k (record y { reported = true })) e k) refl);
    before = λ u z less at of. told_to f.transfers e k y there (waits_is e y on).0 old.before u z (omega (arith, less)) at of;
  }

  by_waits : (k : ℕ) (f : DriverContent) (y : Transfer) (b : Bool) → slice_get f.transfers k ≡ Some y → waits_for e y ≡ b → IsStalledIn k f
      → IsStalledIn (suc k) (cond b (record (reported f (lines.Halt causes.Stall) name [])
      { transfers = set f.transfers k (record y { reported = true }); harvested = f.harvested ++ k ∷ [] }) f)
  by_waits k f y true there on old = tells k f y there on old
  by_waits k f y false there off old =
      passes k f (λ z at of. waits_not e z (ap (waits_for e) (same_Some z y (sym at ∙ there)) ∙ off) of) old

  none_some : (y : Transfer) → ◌≡◌ {A = Option Transfer} None (Some y) → ⊥
  none_some y is = cc

  one_behind : (k : ℕ) (f : DriverContent) (o : Option Transfer) → slice_get f.transfers k ≡ o → IsStalledIn k f
      → IsStalledIn (suc k) (behind_one f e name k o)
  one_behind k f None there old = passes k f (λ y at of. absurd (none_some y (sym there ∙ at))) old
  one_behind k f (Some y) there old = by_waits k f y (waits_for e y) there refl old

  all_behind : (n k : ℕ) (f : DriverContent) → IsStalledIn k f → IsStalledIn (k + n) (behind f e name k n)
  unfolding behind
  all_behind zero k f old = let sum : k ≡ k + 0 = omega arith in subst (λ (i : ℕ). IsStalledIn i f) sum old
  all_behind (suc n) k f old =
      let sum : suc k + n ≡ k + suc n = omega arith in
      let g = behind_one f e name k (slice_get f.transfers k) in
      subst (λ (i : ℕ). IsStalledIn i (behind g e name (suc k) n)) sum
      (all_behind n (suc k) g (one_behind k f (slice_get f.transfers k) refl old))

  -- .. and then all have
  whole : (k : ℕ) (r : Returns) (ts : List Transfer) → length ts ≤ k → IsStalledTo k r ts
      → AreCounted r ts (set xs e (record x { next = None })) l
  whole k r ts long old =
      subst (λ (ys : List Endpoint). AreCounted r ts ys l) (set-set xs e (record x { next = old.next }) (record x { next = None }))
      (endpoint_as e (record x { next = old.next }) (record x { next = None }) (set_here xs e x (record x { next = old.next }) here)
      (record {
        kind = refl;
        linked = refl;
        chained = refl;
        gone = refl;
        ended = λ going. going;
        next = λ going next u z there at. old.before u z (omega (arith, long, slice_get_within ts u z there)) there at;
      })
      (λ over on. old.counts.cancelled e (record x { next = old.next }) (set_here xs e x (record x { next = old.next }) here) over on)
      old.counts)

-- the list of transfers keeps its length
behind_long : (d : DriverContent) (e : ℕ) (name : EpName) (k n : ℕ) → length (behind d e name k n).transfers ≡ length d.transfers
unfolding behind
behind_long d e name k zero = refl
behind_long d e name k (suc n) =
    behind_long (behind_one d e name k (slice_get d.transfers k)) e name (suc k) n ∙ one_long (slice_get d.transfers k)
  where
    by : (y : Transfer) (b : Bool)
        → length (cond b (record (reported d (lines.Halt causes.Stall) name [])
        { transfers = set d.transfers k (record y { reported = true }); harvested = d.harvested ++ k ∷ [] }) d).transfers ≡ length
        d.transfers
    by y true = length-set d.transfers k (record y { reported = true })
    by y false = refl

    one_long : (o : Option Transfer) → length (behind_one d e name k o).transfers ≡ length d.transfers
    one_long None = refl
    one_long (Some y) = by y (waits_for e y)

-- ---- a harvest

module _ (d : DriverContent) (m : Mem) (e t : ℕ) (x : Endpoint) (y : Transfer) (here : slice_get d.endpoints e ≡ Some x)
    (there : slice_get d.transfers t ≡ Some y)
    (waits : waits_for e y ≡ true) (goes : x.ended ≡ None) (next : x.next ≡ Some t)
    (old : AreCounted (returns_of d) d.transfers d.endpoints (leaver d.command)) where
  first : IsFirstUntold d.transfers e t
  first = subst (IsNextIn d.transfers e) next (old.next e x here goes)

  of_e : y.endpoint ≡ e
  of_e = (waits_is e y waits).0

  abbrev CountsIn : DriverContent → Type 0
  CountsIn f = AreCounted (returns_of f) f.transfers f.endpoints (leaver f.command)

  stalled_counted : (f : DriverContent) → f.endpoints ≡ d.endpoints → f.transfers ≡ set d.transfers t (record y { reported = true })
      → returns_of f ≡ returns_of d → f.command ≡ d.command
      → CountsIn (stalled f e t x)
  stalled_counted f ends transfers returns command =
      let g : DriverContent = record f
      { harvested = f.harvested ++ t ∷ []; endpoints = set f.endpoints e (record x { next = None }); mends = f.mends ++ mends_of x } in
      let n : ℕ = length f.transfers - suc t in
      let tells = behind_tells g e x.desc.name (suc t) n in
      let within = slice_get_within d.transfers t y there in
      let many : length f.transfers ≡ length d.transfers = ap length transfers ∙ length-set d.transfers t (record y { reported = true }) in
      let start : IsStalledTo d.endpoints (leaver d.command) e x here x.desc.name (suc t) (returns_of g) g.transfers =
      record {
        next = next_after (set d.transfers t (record y { reported = true })) e t;
        counts = subst (λ (r : Returns). AreCounted (record r { harvested = r.harvested ++ t ∷ [] }) f.transfers
            (set d.endpoints e (record x { next = next_after (set d.transfers t (record y { reported = true })) e t })) (leaver d.command))
            (sym returns)
            (subst (λ (ts : List Transfer). AreCounted (record (returns_of d) { harvested = d.harvested ++ t ∷ [] }) ts
            (set d.endpoints e (record x { next = next_after (set d.transfers t (record y { reported = true })) e t }))
            (leaver d.command)) (sym transfers)
            (goes_counted (returns_of d) d.transfers d.endpoints (leaver d.command) e t x y here there of_e first old
            (record (returns_of d) { harvested = d.harvested ++ t ∷ [] })
            (harvested_more (returns_of d) t) (next_after (set d.transfers t (record y { reported = true })) e t) refl));
        before = λ u z less at of. told_to d.transfers e t y there of_e first.before u z (omega (arith, less))
            (ap (λ (ts : List Transfer). slice_get ts u) (sym transfers) ∙ at) of;
      } in
      let done = all_behind d.endpoints (leaver d.command) e x here x.desc.name n (suc t) g start in
      let end = behind g e x.desc.name (suc t) n in
      let counts = whole d.endpoints (leaver d.command) e x here x.desc.name (suc t + n) (returns_of end) end.transfers
      (omega (arith, behind_long g e x.desc.name (suc t) n, within, many)) done in
      let ends_are : end.endpoints ≡ set d.endpoints e (record x { next = None }) = tells.endpoints ∙ ap
      (λ (xs : List Endpoint). set xs e (record x { next = None })) ends in
      subst (λ (xs : List Endpoint). AreCounted (returns_of end) end.transfers xs (leaver end.command)) (sym ends_are)
      (subst (λ c. AreCounted (returns_of end) end.transfers (set d.endpoints e (record x { next = None })) (leaver c))
      (sym (tells.command ∙ command)) counts)

  ended_counted : (f : DriverContent) (stall : Bool) (o : Option EndCause) → f.endpoints ≡ d.endpoints
      → f.transfers ≡ set d.transfers t (record y { reported = true }) → returns_of f ≡ returns_of d
      → f.command ≡ d.command → CountsIn (after_end f e t x stall o)
  ended_counted f stall (Some cause) ends transfers returns command =
      subst (λ (r : Returns). AreCounted r f.transfers (set f.endpoints e (record x { ended = Some cause })) (leaver f.command))
      (sym returns)
      (subst (λ c. AreCounted (returns_of d) f.transfers (set f.endpoints e (record x { ended = Some cause })) (leaver c)) (sym command)
      (subst (λ (ts : List Transfer). AreCounted (returns_of d) ts (set f.endpoints e (record x { ended = Some cause })) (leaver d.command))
      (sym transfers)
      (subst (λ (xs : List Endpoint). AreCounted (returns_of d) (set d.transfers t (record y { reported = true }))
      (set xs e (record x { ended = Some cause })) (leaver d.command)) (sym ends)
      (ends_counted (returns_of d) d.transfers d.endpoints (leaver d.command) e t x y here there of_e first old cause))))
  ended_counted f true None ends transfers returns command = stalled_counted f ends transfers returns command
  ended_counted f false None ends transfers returns command =
      subst (λ (r : Returns). AreCounted (record r { harvested = r.harvested ++ t ∷ [] }) f.transfers
      (set f.endpoints e (record x { next = next_after f.transfers e t })) (leaver f.command)) (sym returns)
      (subst (λ c. AreCounted (record (returns_of d) { harvested = d.harvested ++ t ∷ [] }) f.transfers
      (set f.endpoints e (record x { next = next_after f.transfers e t })) (leaver c)) (sym command)
      (subst (λ (ts : List Transfer). AreCounted (record (returns_of d) { harvested = d.harvested ++ t ∷ [] }) ts
      (set f.endpoints e (record x { next = next_after ts e t })) (leaver d.command)) (sym transfers)
      (subst (λ (xs : List Endpoint). AreCounted (record (returns_of d) { harvested = d.harvested ++ t ∷ [] })
      (set d.transfers t (record y { reported = true }))
      (set xs e (record x { next = next_after (set d.transfers t (record y { reported = true })) e t })) (leaver d.command))
      (sym ends)
      (goes_counted (returns_of d) d.transfers d.endpoints (leaver d.command) e t x y here there of_e first old
      (record (returns_of d) { harvested = d.harvested ++ t ∷ [] }) (harvested_more (returns_of d) t)
      (next_after (set d.transfers t (record y { reported = true })) e t) refl))))

  read_counted : (found : Found) → CountsIn (harvested_as d m e t x y found)
  read_counted founds.Active = old
  read_counted (founds.Moved n) =
      transfer_as t y (record y { place = (note_at d.notes y.place).next; left = y.left - 1 }) there refl refl (omega arith) old
  read_counted (founds.Served errors) =
      goes_counted (returns_of d) d.transfers d.endpoints (leaver d.command) e t x y here there of_e first old
      (record (returns_of d) { unlinks = d.periodic.unlinks ++ t ∷ [] }) (unlinks_more (returns_of d) t) (next_after d.transfers e t)
      (sym (after_told d.transfers e t (record y { reported = true })))
  read_counted (founds.Ended n what) =
      ended_counted (told_with d m t y what x.desc.name (noted d.notes y.place n)) (is_stall what) (end_of x.desc.kind what) refl refl refl
      refl

  pub harvest_counted : (found : Found) → CountsIn (after_harvest d m e t found (Some x) (Some y))
  harvest_counted found =
      subst (λ (b : Bool). CountsIn (cond b (served (harvested_as d m e t x y found) e) d)) (sym waits) (read_counted found)
