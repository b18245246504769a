-- Turns where an endpoint ends or leaves the ring, and where it is given back with all of its transfers.
use Rattle.std.proofs.Common.{◌≡◌, ◌≢◌, ℕ, Bool, true, false, ◌||◌, ◌==◌, cond, List, map, slice_get, Option, Some, None, option_map, ap, sym, subst, ◌∙◌, ⊎_elim, inl, inr, refl}
use Rattle.std.specs.Prelude.{◌⊎◌}
use Rattle.std.proofs.lemmas.Bool.{cases_eq, false≢true}
use Rattle.std.proofs.lemmas.Option.{same_Some, slice_get-map}
use Rattle.law_common.proofs.Booleans.{first_true, second_true}
use Rattle.law_common.proofs.Numbers.{same_number, other_number}
use Rattle.drv_table.specs.declared.content.Endpoint.{Endpoint}
use Rattle.drv_table.specs.declared.content.Transfer.{Transfer}
use Rattle.drv_table.specs.Releases.{ended_by_cancel, let_go}
use Rattle.law_driver.proofs.lemmas.run_owners.Released.{same_by_test}
use Rattle.law_driver.specs.endpoint_lives.Lives.{told_end}
use Rattle.law_driver.proofs.lemmas.endpoint_lives.Lives.{told_gone}
use Rattle.law_driver.specs.chained_transfers.Turns.{Turn, turn_of, turn_in, AreReportedTo, IsNotGone, AreTurnsOf, AreReturned}
use Rattle.law_driver.proofs.lemmas.chained_transfers.Chained.{gone_from}
use Rattle.law_driver.proofs.lemmas.chained_transfers.Turning.{IsChangedAt, which}

-- ---- endpoints end

-- what the endpoint was before: where it goes on now, it went on, with the same transfer next
pub record WasEnd (ends : ℕ → Option Endpoint) (k : ℕ) (z : Endpoint) : Type 0 where
  pub was : Endpoint
  pub there : ends k ≡ Some was
  pub goes : told_end z ≡ None → (told_end was ≡ None) × (z.next ≡ was.next)

pub ends_turns : (S : ℕ → Type 0) (v : ℕ → Option Turn) (ends ends_now : ℕ → Option Endpoint) (hs : List ℕ) → ((k : ℕ) (z : Endpoint) → ends_now k ≡ Some z → WasEnd ends k z) → AreTurnsOf S v ends hs → AreTurnsOf S v ends_now hs
ends_turns S v ends ends_now hs from old = record {
  reported = old.reported;
  released = old.released;
  told = old.told;
  next = λ e x here goes.
      let f = from e x here in
      let g = f.goes goes in
      subst (λ (o : Option ℕ). AreReportedTo v e o) (sym g.1) (old.next e f.was f.there g.0);
  owed = λ t y x here at goes. let f = from y.endpoint x at in old.owed t y f.was here f.there (f.goes goes).0;
  order = old.order;
}

-- one endpoint ends, or goes on with the same transfer
pub changed_end : (ends ends_now : ℕ → Option Endpoint) (e : ℕ) (a b : Endpoint) → IsChangedAt ends ends_now e a b → (told_end b ≡ None → (told_end a ≡ None) × (b.next ≡ a.next)) → (k : ℕ) (z : Endpoint) → ends_now k ≡ Some z → WasEnd ends k z
changed_end ends ends_now e a b c same k z here = ⊎_elim
    (λ (own : (k ≡ e) × (z ≡ b)). subst (λ (r : Endpoint). WasEnd ends k r) (sym own.1) (record { was = a; there = ap ends own.0 ∙ c.was; goes = same }))
    (λ (other : (k ≢ e) × (ends k ≡ Some z)). record { was = z; there = other.1; goes = λ goes. (goes, refl) })
    (which ends ends_now e a b k z c here)

-- no endpoint comes back
pub changed_stays : (ends ends_now : ℕ → Option Endpoint) (e : ℕ) (a b : Endpoint) → IsChangedAt ends ends_now e a b → b.gone ≡ a.gone → (k : ℕ) → IsNotGone ends_now k → IsNotGone ends k
changed_stays ends ends_now e a b c same k stays = ⊎_elim
    (λ (own : (k ≡ e) × (stays.endpoint ≡ b)). record { endpoint = a; here = ap ends own.0 ∙ c.was; gone = sym same ∙ ap (λ (r : Endpoint). r.gone) (sym own.1) ∙ stays.gone })
    (λ (other : (k ≢ e) × (ends k ≡ Some stays.endpoint)). record { endpoint = stays.endpoint; here = other.1; gone = stays.gone })
    (which ends ends_now e a b k stays.endpoint c stays.here)

-- ---- the transfers of endpoints that were given back

-- what the turn was before: it is as much given back and reported
pub record WasTurn (v : ℕ → Option Turn) (k : ℕ) (z : Turn) : Type 0 where
  pub turn : Turn
  pub there : v k ≡ Some turn
  pub endpoint : z.endpoint ≡ turn.endpoint
  pub released : turn.released ≡ true → z.released ≡ true
  pub reported : turn.reported ≡ true → z.reported ≡ true

-- an endpoint that was given back before, too
pub record WasGone (ends : ℕ → Option Endpoint) (k : ℕ) (x : Endpoint) : Type 0 where
  pub one : Endpoint
  pub here : ends k ≡ Some one
  pub gone : one.gone ≡ true
  pub ended : x.ended ≡ one.ended

pub returned_on : (v w : ℕ → Option Turn) (ends ends_now : ℕ → Option Endpoint) → ((k : ℕ) (z : Turn) (x : Endpoint) → w k ≡ Some z → ends_now z.endpoint ≡ Some x → x.gone ≡ true → WasTurn v k z)
    → ((k : ℕ) (x : Endpoint) → ends_now k ≡ Some x → x.gone ≡ true → WasGone ends k x) → AreReturned v ends → AreReturned w ends_now
returned_on v w ends ends_now turns gones old t z x there here gone =
    let y = turns t z x there here gone in
    let g = gones z.endpoint x here gone in
    let r = old t y.turn g.one y.there (ap ends (sym y.endpoint) ∙ g.here) g.gone in
    record { released = y.released r.released; told = λ told. y.reported (r.told (ap ended_by_cancel (sym g.ended) ∙ told)) }

pub same_turn : (v : ℕ → Option Turn) (k : ℕ) (z : Turn) → v k ≡ Some z → WasTurn v k z
same_turn v k z there = record { turn = z; there = there; endpoint = refl; released = λ r. r; reported = λ r. r }

pub same_gone : (ends : ℕ → Option Endpoint) (k : ℕ) (x : Endpoint) → ends k ≡ Some x → x.gone ≡ true → WasGone ends k x
same_gone ends k x here gone = record { one = x; here = here; gone = gone; ended = refl }

pub changed_turn : (v w : ℕ → Option Turn) (t : ℕ) (x y : Turn) → IsChangedAt v w t x y → y.endpoint ≡ x.endpoint → (x.released ≡ true → y.released ≡ true) → (x.reported ≡ true → y.reported ≡ true) → (k : ℕ) (z : Turn) → w k ≡ Some z → WasTurn v k z
changed_turn v w t x y c same released reported k z there = ⊎_elim
    (λ (own : (k ≡ t) × (z ≡ y)). subst (λ (r : Turn). WasTurn v k r) (sym own.1) (record { turn = x; there = ap v own.0 ∙ c.was; endpoint = same; released = released; reported = reported }))
    (λ (other : (k ≢ t) × (v k ≡ Some z)). same_turn v k z other.1) (which v w t x y k z c there)

pub changed_gone : (ends ends_now : ℕ → Option Endpoint) (e : ℕ) (a b : Endpoint) → IsChangedAt ends ends_now e a b → (b.gone ≡ true → (a.gone ≡ true) × (b.ended ≡ a.ended)) → (k : ℕ) (x : Endpoint) → ends_now k ≡ Some x → x.gone ≡ true → WasGone ends k x
changed_gone ends ends_now e a b c same k x here gone = ⊎_elim
    (λ (own : (k ≡ e) × (x ≡ b)).
    let g = same (ap (λ (r : Endpoint). r.gone) (sym own.1) ∙ gone) in
    record { one = a; here = ap ends own.0 ∙ c.was; gone = g.0; ended = ap (λ (r : Endpoint). r.ended) own.1 ∙ g.1 })
    (λ (other : (k ≢ e) × (ends k ≡ Some x)). same_gone ends k x other.1 gone) (which ends ends_now e a b k x c here)

-- ---- an endpoint is given back with its transfers

-- what becomes of a transfer of the endpoint, and that another one stays
pub record WasOf (v : ℕ → Option Turn) (e : ℕ) (told : Bool) (k : ℕ) (z : Turn) : Type 0 where
  pub turn : Turn
  pub there : v k ≡ Some turn
  pub endpoint : z.endpoint ≡ turn.endpoint
  pub other : z.endpoint ≢ e → z ≡ turn
  pub released : z.endpoint ≡ e → z.released ≡ true
  pub reported : z.endpoint ≡ e → z.reported ≡ turn.reported || told

either_true : (a b : Bool) → a || b ≡ true → (a ≡ true) ⊎ (b ≡ true)
either_true true b is = inl refl
either_true false b is = inr is

module _ (v w : ℕ → Option Turn) (ends ends_now : ℕ → Option Endpoint) (hs : List ℕ) (e : ℕ) (a b : Endpoint) (told : Bool) where
  pub record IsGoing : Type 0 where
    pub turns : (k : ℕ) (z : Turn) → w k ≡ Some z → WasOf v e told k z
    pub there : (k : ℕ) (y : Turn) → v k ≡ Some y → y.endpoint ≢ e → w k ≡ Some y
    pub moved : IsChangedAt ends ends_now e a b
    pub ended : b.ended ≢ None
    pub gone : b.gone ≡ true

  -- the endpoint stays, so it is another one
  other_stays : IsGoing → (k : ℕ) → IsNotGone ends_now k → (k ≢ e) × IsNotGone ends k
  other_stays g k stays = ⊎_elim
      (λ (own : (k ≡ e) × (stays.endpoint ≡ b)). absurd (false≢true (sym stays.gone ∙ ap (λ (r : Endpoint). r.gone) own.1 ∙ g.gone)))
      (λ (other : (k ≢ e) × (ends k ≡ Some stays.endpoint)). (other.0, record { endpoint = stays.endpoint; here = other.1; gone = stays.gone }))
      (which ends ends_now e a b k stays.endpoint g.moved stays.here)

  -- the endpoint goes on, so it is another one
  other_goes : IsGoing → (k : ℕ) (x : Endpoint) → ends_now k ≡ Some x → told_end x ≡ None → (k ≢ e) × (ends k ≡ Some x)
  other_goes g k x here goes = ⊎_elim
      (λ (own : (k ≡ e) × (x ≡ b)). absurd (g.ended (sym (told_gone b g.gone) ∙ ap told_end (sym own.1) ∙ goes)))
      (λ (other : (k ≢ e) × (ends k ≡ Some x)). other) (which ends ends_now e a b k x g.moved here)

  -- a transfer of another endpoint stays
  kept : IsGoing → (k : ℕ) (z : Turn) → w k ≡ Some z → z.endpoint ≢ e → v k ≡ Some z
  kept g k z there apart = let y = g.turns k z there in y.there ∙ ap Some (sym (y.other apart))

  still_next : IsGoing → (k : ℕ) (o : Option ℕ) → k ≢ e → AreReportedTo v k o → AreReportedTo w k o
  still_next g k None apart old = λ u z there is. old u z (kept g u z there (λ same. apart (sym is ∙ same))) is
  still_next g k (Some n) apart old = record {
    transfer = old.transfer;
    here = g.there n old.transfer old.here (λ same. apart (sym old.endpoint ∙ same));
    endpoint = old.endpoint;
    waits = old.waits;
    before = λ u z less there is. old.before u z less (kept g u z there (λ same. apart (sym is ∙ same))) is;
  }

  pub gone_turns : IsGoing → AreTurnsOf (IsNotGone ends) v ends hs → AreTurnsOf (IsNotGone ends_now) w ends_now hs
  gone_turns g old = record {
    reported = λ t u y z less there there_u is reported.
        ⊎_elim
        (λ (own : z.endpoint ≡ e).
        let p = g.turns t y there in
        let q = g.turns u z there_u in
        let of_e : y.endpoint ≡ e = sym is ∙ own in
        p.reported of_e
        ∙ ⊎_elim (λ (was : q.turn.reported ≡ true). first_true p.turn.reported told (old.reported t u p.turn q.turn less p.there q.there (sym q.endpoint ∙ is ∙ p.endpoint) was))
        (λ (now : told ≡ true). second_true p.turn.reported told now) (either_true q.turn.reported told (sym (q.reported own) ∙ reported)))
        (λ (other : z.endpoint ≢ e). old.reported t u y z less (kept g t y there (λ same. other (is ∙ same))) (kept g u z there_u other) is reported)
        (cases_eq z.endpoint e);
    released = λ t u y z less there there_u is released.
        ⊎_elim (λ (own : z.endpoint ≡ e). (g.turns t y there).released (sym is ∙ own))
        (λ (other : z.endpoint ≢ e). old.released t u y z less (kept g t y there (λ same. other (is ∙ same))) (kept g u z there_u other) is released)
        (cases_eq z.endpoint e);
    told = λ t y there stays released.
        let o = other_stays g y.endpoint stays in
        old.told t y (kept g t y there o.0) o.1 released;
    next = λ k x here goes. let o = other_goes g k x here goes in still_next g k x.next o.0 (old.next k x o.1 goes);
    owed = λ t y x there here goes reported held.
        let o = other_goes g y.endpoint x here goes in
        old.owed t y x (kept g t y there o.0) o.1 goes reported held;
    order = λ i t u y z here less there there_u is.
        ⊎_elim (λ (own : z.endpoint ≡ e). inl ((g.turns t y there).released (sym is ∙ own)))
        (λ (other : z.endpoint ≢ e). old.order i t u y z here less (kept g t y there (λ same. other (is ∙ same))) (kept g u z there_u other) is)
        (cases_eq z.endpoint e);
  }

  pub gone_returned : IsGoing → (ended_by_cancel b.ended ≡ true → told ≡ true) → AreReturned v ends → AreReturned w ends_now
  gone_returned g cancelled old t z x there here gone = ⊎_elim
      (λ (own : (z.endpoint ≡ e) × (x ≡ b)).
      let y = g.turns t z there in
      record {
        released = y.released own.0;
        told = λ told_now. y.reported own.0 ∙ second_true y.turn.reported told (cancelled (ap (λ (r : Endpoint). ended_by_cancel r.ended) (sym own.1) ∙ told_now));
      })
      (λ (other : (z.endpoint ≢ e) × (ends z.endpoint ≡ Some x)). old t z x (kept g t z there other.0) other.1 gone)
      (which ends ends_now e a b z.endpoint x g.moved here)

-- ---- what that does to a list of transfers

let_go_turn : (v : ℕ → Option Turn) (e : ℕ) (told c : Bool) (k : ℕ) (y : Transfer) → v k ≡ Some (turn_of y) → (c ≡ true → y.endpoint ≡ e) → (c ≡ false → y.endpoint ≢ e)
    → WasOf v e told k (turn_of (cond c (record y { reported = y.reported || told; released = true }) y))
let_go_turn v e told true k y there own other = record { turn = turn_of y; there = there; endpoint = refl; other = λ apart. absurd (apart (own refl)); released = λ of_e. refl; reported = λ of_e. refl }
let_go_turn v e told false k y there own other = record { turn = turn_of y; there = there; endpoint = refl; other = λ apart. refl; released = λ of_e. absurd (other refl of_e); reported = λ of_e. absurd (other refl of_e) }

pub gone_turn : (ts : List Transfer) (e : ℕ) (told : Bool) (k : ℕ) (z : Turn) → turn_in (map (let_go e told) ts) k ≡ Some z → WasOf (turn_in ts) e told k z
gone_turn ts e told k z there = by (slice_get (map (let_go e told) ts) k) refl there
  where
    by : (o : Option Transfer) → slice_get (map (let_go e told) ts) k ≡ o → option_map turn_of o ≡ Some z → WasOf (turn_in ts) e told k z
    by None is f = absurd (cc)
    by (Some u) is f =
        let y = gone_from e told ts k u is in
        subst (λ (r : Turn). WasOf (turn_in ts) e told k r) (ap turn_of y.2 ∙ same_Some (turn_of u) z f)
        (let_go_turn (turn_in ts) e told (y.0.endpoint == e) k y.0 (ap (option_map turn_of) y.1) (λ on. same_by_test y.0.endpoint e on)
        (λ off same. false≢true (sym off ∙ ap (λ (n : ℕ). n == e) same ∙ same_number e)))

pub other_turn : (ts : List Transfer) (e : ℕ) (told : Bool) (k : ℕ) (z : Turn) → turn_in ts k ≡ Some z → z.endpoint ≢ e → turn_in (map (let_go e told) ts) k ≡ Some z
other_turn ts e told k z there apart = by (slice_get ts k) refl there
  where
    by : (o : Option Transfer) → slice_get ts k ≡ o → option_map turn_of o ≡ Some z → turn_in (map (let_go e told) ts) k ≡ Some z
    by None is f = absurd (cc)
    by (Some y) is f =
        let same : turn_of y ≡ z = same_Some (turn_of y) z f in
        let off : (y.endpoint == e) ≡ false = other_number y.endpoint e (λ own. apart (ap (λ (r : Turn). r.endpoint) (sym same) ∙ own)) in
        let stays : let_go e told y ≡ y = ap (λ (c : Bool). cond c (record y { reported = y.reported || told; released = true }) y) off in
        ap (option_map turn_of) (slice_get-map (let_go e told) ts k ∙ ap (option_map (let_go e told)) is) ∙ ap (λ (r : Transfer). Some (turn_of r)) stays ∙ ap Some same
