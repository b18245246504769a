-- A request of a control endpoint is stalled (USB 2.0, 8.5.3.4): it and all that wait behind it are reported and harvested in their order.
use Rattle.std.proofs.Common.{◌≡◌, ◌≢◌, ℕ, zero, suc, ◌+◌, ◌<◌, ◌≤◌, Bool, true, false, cond, List, [], ◌∷◌, ◌++◌, length, set, slice_get, Option, Some, None, option_map, ap, sym, subst, ◌∙◌, ⊎_elim, refl, arith}
use Rattle.std.proofs.lemmas.Bool.{cases_eq, false≢true}
use Rattle.std.proofs.lemmas.Option.{same_Some}
use Rattle.law_common.proofs.Lists.{set_here, set_there}
use Rattle.law_driver.proofs.Common.{waits_is}
use Rattle.usb_base.specs.declared.endpoints.EpName.{EpName}
use Rattle.usb_base.specs.declared.endpoints.EndCause.TheVariants as causes
use Rattle.usb_base.specs.declared.reports.What.TheVariants as lines
use Rattle.drv_table.specs.declared.content.Endpoint.{Endpoint}
use Rattle.drv_table.specs.declared.content.Transfer.{Transfer}
use Rattle.drv_table.specs.DriverContent.{DriverContent, waits_for, next_after}
use Rattle.drv_table.specs.Harvests.{reported}
use Rattle.drv_table.specs.Harvesting.{behind_one, behind}
use Rattle.law_driver.proofs.lemmas.endpoint_lives.Lives.{none_told}
use Rattle.law_driver.specs.chained_transfers.Turns.{Turn, turn_of, turn_in, AreTurnsOf}
use Rattle.law_driver.proofs.lemmas.chained_transfers.Chained.{within_list}
use Rattle.law_driver.proofs.lemmas.chained_transfers.Turning.{IsChangedAt, changed}
use Rattle.law_driver.proofs.lemmas.chained_transfers.Reporting.{harvested_turns}
use Rattle.law_driver.proofs.lemmas.chained_transfers.Harvesting.{waits_not, turn_at, next_waits}

-- ---- transfers of which some are reported now

pub record IsToldOf (ts : List Transfer) (k : ℕ) (z : Transfer) : Type 0 where
  pub one : Transfer
  pub here : slice_get ts k ≡ Some one
  pub is : z ≡ record one { reported = z.reported }
  pub told : one.reported ≡ true → z.reported ≡ true

pub told_same : (ts : List Transfer) (k : ℕ) (z : Transfer) → slice_get ts k ≡ Some z → IsToldOf ts k z
told_same ts k z here = record { one = z; here = here; is = refl; told = λ r. r }

told_now : (ts : List Transfer) (k : ℕ) (y : Transfer) → slice_get ts k ≡ Some y → IsToldOf ts k (record y { reported = true })
told_now ts k y here = record { one = y; here = here; is = refl; told = λ r. refl }

pub told_set : (ts : List Transfer) (t : ℕ) (y : Transfer) → slice_get ts t ≡ Some y → (k : ℕ) (z : Transfer) → slice_get (set ts t (record y { reported = true })) k ≡ Some z → IsToldOf ts k z
told_set ts t y here k z there = ⊎_elim
    (λ (own : k ≡ t).
    let is : record y { reported = true } ≡ z = same_Some _ z (sym (set_here ts t y (record y { reported = true }) here) ∙ ap (slice_get (set ts t (record y { reported = true }))) (sym own) ∙ there) in
    subst (λ (r : Transfer). IsToldOf ts k r) is (told_now ts k y (ap (slice_get ts) own ∙ here)))
    (λ (other : k ≢ t). told_same ts k z (sym (set_there ts t k (record y { reported = true }) other) ∙ there)) (cases_eq k t)

pub told_both : (ts us : List Transfer) (k : ℕ) (z : Transfer) (w : IsToldOf us k z) → IsToldOf ts k w.one → IsToldOf ts k z
told_both ts us k z w v = record {
  one = v.one;
  here = v.here;
  is = w.is ∙ ap (λ (r : Transfer). record r { reported = z.reported }) v.is;
  told = λ r. w.told (v.told r);
}

-- ---- one after the other

behind_goes : (P : ℕ → DriverContent → Type 0) (e : ℕ) (name : EpName) → ((k : ℕ) (f : DriverContent) → P k f → P (suc k) (behind_one f e name k (slice_get f.transfers k))) → (n k : ℕ) (f : DriverContent) → P k f → P (k + n) (behind f e name k n)
unfolding behind
behind_goes P e name step zero k f p = let sum : k ≡ k + 0 = omega arith in subst (λ (i : ℕ). P i f) sum p
behind_goes P e name step (suc n) k f p =
    let sum : suc k + n ≡ k + suc n = omega arith in
    let g = behind_one f e name k (slice_get f.transfers k) in
    subst (λ (i : ℕ). P i (behind g e name (suc k) n)) sum (behind_goes P e name step n (suc k) g (step k f p))

-- the transfer is reported, and is to be given back
abbrev behind_told : DriverContent → EpName → ℕ → Transfer → DriverContent
behind_told d name k y =
    record (reported d (lines.Halt causes.Stall) name []) {
      transfers = set d.transfers k (record y { reported = true });
      harvested = d.harvested ++ k ∷ [];
    }

-- nothing changes but what is reported, and what is to be given back
pub record OnlyTells (d f : DriverContent) : Type 0 where
  pub endpoints : f.endpoints ≡ d.endpoints
  pub transfers : (k : ℕ) (z : Transfer) → slice_get f.transfers k ≡ Some z → IsToldOf d.transfers k z
  pub notes : f.notes ≡ d.notes
  pub command : f.command ≡ d.command
  pub periodic : f.periodic ≡ d.periodic
  pub waiting : f.waiting ≡ d.waiting
  pub rung : f.rung ≡ d.rung
  pub cleared : f.cleared ≡ d.cleared

tells_one : (d f : DriverContent) (e : ℕ) (name : EpName) (k : ℕ) (o : Option Transfer) → slice_get f.transfers k ≡ o → OnlyTells d f → OnlyTells d (behind_one f e name k o)
tells_one d f e name k None there old = old
tells_one d f e name k (Some y) there old = by (waits_for e y)
  where
    by : (b : Bool) → OnlyTells d (cond b (behind_told f name k y) f)
    by true = record {
      endpoints = old.endpoints;
      transfers = λ i z at. let w = told_set f.transfers k y there i z at in told_both d.transfers f.transfers i z w (old.transfers i w.one w.here);
      notes = old.notes;
      command = old.command;
      periodic = old.periodic;
      waiting = old.waiting;
      rung = old.rung;
      cleared = old.cleared;
    }
    by false = old

pub behind_tells : (d : DriverContent) (e : ℕ) (name : EpName) (k n : ℕ) → OnlyTells d (behind d e name k n)
behind_tells d e name k n =
    behind_goes (λ i f. OnlyTells d f) e name (λ i f old. tells_one d f e name i (slice_get f.transfers i) refl old) n k d
    (record { endpoints = refl; transfers = told_same d.transfers; notes = refl; command = refl; periodic = refl; waiting = refl; rung = refl; cleared = refl })

-- ---- turns

module _ (S : ℕ → Type 0) (xs : List Endpoint) (e : ℕ) (x : Endpoint) (here : slice_get xs e ≡ Some x) (goes : x.ended ≡ None) (stays : S e) where
  -- the endpoint's transfers before number k are reported
  pub record IsStalledTo (k : ℕ) (f : DriverContent) : Type 0 where
    pub next : Option ℕ
    pub turns : AreTurnsOf S (turn_in f.transfers) (slice_get (set xs e (record x { next = next }))) f.harvested
    pub before : (u : ℕ) (z : Turn) → u < k → turn_in f.transfers u ≡ Some z → z.endpoint ≡ e → z.reported ≡ true

  -- number k doesn't wait
  passes : (k : ℕ) (f : DriverContent) (o : Option Transfer) → slice_get f.transfers k ≡ o → ((y : Transfer) → o ≡ Some y → waits_for e y ≡ false) → IsStalledTo k f → IsStalledTo (suc k) f
  passes k f o there off p = record {
    next = p.next;
    turns = p.turns;
    before = λ u z less at of_e. ⊎_elim
        (λ (own : u ≡ k).
        let y = turn_at f.transfers u z at in
        let waits = off y.0 (sym there ∙ ap (slice_get f.transfers) (sym own) ∙ y.1) in
        ap (λ (r : Turn). r.reported) y.2 ∙ waits_not e y.0 waits (sym (ap (λ (r : Turn). r.endpoint) y.2) ∙ of_e))
        (λ (other : u ≢ k). p.before u z (omega (arith, less, other)) at of_e) (cases_eq u k);
  }

  -- it waits, and is reported
  tells : (k : ℕ) (f : DriverContent) (name : EpName) (y : Transfer) → slice_get f.transfers k ≡ Some y → waits_for e y ≡ true → IsStalledTo k f → IsStalledTo (suc k) (behind_told f name k y)
  tells k f name y there waits p = record {
    next = next_after told e k;
    turns = harvested_turns S (turn_in f.transfers) (turn_in told) (slice_get (set xs e a)) (slice_get (set xs e b)) f.harvested e k (turn_of y) a b c g (none_told a goes)
        (λ h. next_waits told e k earlier)
        (record { endpoint = w.0; earlier = λ u z less at of_e. p.before u z less at of_e; unreleased = held }) p.turns;
    before = λ u z less at of_e. earlier u z (omega (arith, less)) at of_e;
  }
    where
      w : (y.endpoint ≡ e) × (y.reported ≡ false)
      w = waits_is e y waits

      told : List Transfer
      told = set f.transfers k (record y { reported = true })

      a : Endpoint
      a = record x { next = p.next }

      b : Endpoint
      b = record x { next = next_after (set f.transfers k (record y { reported = true })) e k }

      c : IsChangedAt (turn_in f.transfers) (turn_in told) k (turn_of y) (record (turn_of y) { reported = true })
      c = changed turn_of f.transfers k y (record y { reported = true }) there

      g : IsChangedAt (slice_get (set xs e a)) (slice_get (set xs e b)) e a b
      g = record { was = set_here xs e x a here; here = set_here xs e x b here; there = λ i differs. set_there xs e i b differs ∙ sym (set_there xs e i a differs) }

      earlier : (u : ℕ) (z : Turn) → u ≤ k → turn_in told u ≡ Some z → z.endpoint ≡ e → z.reported ≡ true
      earlier u z low at of_e = ⊎_elim
          (λ (own : u ≡ k). ap (λ (r : Turn). r.reported) (sym (same_Some _ z (sym c.here ∙ ap (turn_in told) (sym own) ∙ at))))
          (λ (other : u ≢ k). p.before u z (omega (arith, low, other)) (sym (c.there u other) ∙ at) of_e) (cases_eq u k)

      held : y.released ≡ false
      held = by y.released refl
        where
          by : (r : Bool) → y.released ≡ r → y.released ≡ false
          by false is = is
          by true is = absurd (false≢true (sym w.1 ∙ p.turns.told k (turn_of y) (ap (option_map turn_of) there) (subst (λ (i : ℕ). S i) (sym w.0) stays) is))

  step : (name : EpName) (k : ℕ) (f : DriverContent) (o : Option Transfer) → slice_get f.transfers k ≡ o → IsStalledTo k f → IsStalledTo (suc k) (behind_one f e name k o)
  step name k f None there p = passes k f None there (λ y is. absurd (cc)) p
  step name k f (Some y) there p = by (waits_for e y) refl
    where
      by : (b : Bool) → waits_for e y ≡ b → IsStalledTo (suc k) (cond b (behind_told f name k y) f)
      by true is = tells k f name y there is p
      by false is = passes k f (Some y) there (λ z same. ap (waits_for e) (sym (same_Some y z same)) ∙ is) p

  -- with none left it has none next
  rests : (v : ℕ → Option Turn) (hs : List ℕ) (o : Option ℕ) → ((u : ℕ) (z : Turn) → v u ≡ Some z → z.endpoint ≡ e → z.reported ≡ true) → AreTurnsOf S v (slice_get (set xs e (record x { next = o }))) hs
      → AreTurnsOf S v (slice_get (set xs e (record x { next = None }))) hs
  rests v hs None all turns = turns
  rests v hs (Some n) all turns =
      let i = turns.next e (record x { next = Some n }) (set_here xs e x (record x { next = Some n }) here) (none_told (record x { next = Some n }) goes) in
      absurd (false≢true (sym i.waits ∙ all n i.transfer i.here i.endpoint))

  pub behind_turns : (d : DriverContent) (name : EpName) (k n : ℕ) → length d.transfers ≤ k + n → IsStalledTo k d
      → AreTurnsOf S (turn_in (behind d e name k n).transfers) (slice_get (set xs e (record x { next = None }))) (behind d e name k n).harvested
  behind_turns d name k n many p =
      let f = behind d e name k n in
      let q = behind_goes IsStalledTo e name (λ i g old. step name i g (slice_get g.transfers i) refl old) n k d p in
      let each = behind_tells d e name k n in
      rests (turn_in f.transfers) f.harvested q.next
      (λ u z there of_e.
      let y = turn_at f.transfers u z there in
      let was = each.transfers u y.0 y.1 in
      let low = within_list turn_of d.transfers u (turn_of was.one) (ap (option_map turn_of) was.here) in
      q.before u z (omega (arith, low, many)) there of_e) q.turns
