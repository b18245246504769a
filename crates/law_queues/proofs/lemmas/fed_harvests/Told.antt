-- Transfers of one endpoint that waited are reported; what is out of it then.
use Rattle.std.proofs.Common.{◌≡◌, ◌≢◌, ℕ, zero, suc, ◌+◌, ◌<◌, Bool, true, false, not, ◌&&◌, ◌==◌, cond, List, [], ◌∷◌, ◌++◌, set, drop, slice_get, Option, Some, None, ap, sym, subst, ◌∙◌, ⊎_elim, inl, inr, refl, arith}
use Rattle.std.specs.Prelude.{◌⊎◌}
use Rattle.std.proofs.lemmas.Bool.{cases_eq}
use Rattle.std.proofs.lemmas.Option.{same_Some}
use Rattle.law_queues.proofs.Common.{among_left, among_right, its_endpoint, none_of}
use Rattle.law_common.proofs.Lists.{pushed, set_here, set_there}
use Rattle.law_driver.proofs.Common.{waits_is}
use Rattle.law_ring.proofs.Common.{among_either}
use Rattle.usb_base.specs.declared.endpoints.EpName.{EpName}
use Rattle.usb_base.specs.declared.endpoints.EndCause.TheVariants as causes
use Rattle.usb_base.specs.declared.reports.What.TheVariants as lines
use Rattle.drv_table.specs.declared.content.Transfer.{Transfer}
use Rattle.drv_table.specs.DriverContent.{DriverContent, waits_for}
use Rattle.drv_table.specs.Harvests.{reported}
use Rattle.drv_table.specs.Harvesting.{behind_one, behind}
use Rattle.claims_driver.specs.Owners.{NoteRuns}
use Rattle.law_ring.specs.Order.{IsAmong}
use Rattle.law_driver.specs.chained_transfers.Out.{pieces_from, passed, out_of_transfer}
use Rattle.law_queues.proofs.lemmas.fed_lends.Asked.{both_lists}
use Rattle.law_queues.specs.fed_harvests.Stalls.{out_told}
use Rattle.law_queues.proofs.lemmas.fed_harvests.Lists.{all_of, IsBefore, append_assoc}

-- ---- each is as it was, or waited and is reported now

abbrev pub IsToldIn : ℕ → Option Transfer → Option Transfer → Type 0
IsToldIn e None None = Unit {0}
IsToldIn e None (Some z) = ⊥
IsToldIn e (Some y) None = ⊥
IsToldIn e (Some y) (Some z) = (z ≡ y) ⊎ ((waits_for e y ≡ true) × (z ≡ record y { reported = true }))

abbrev pub AreTold : ℕ → List Transfer → List Transfer → Type 0
AreTold e ts us = (k : ℕ) → IsToldIn e (slice_get ts k) (slice_get us k)

is_same : (e : ℕ) (a : Option Transfer) → IsToldIn e a a
is_same e None = tt
is_same e (Some y) = inl refl

told_same : (e : ℕ) (a b : Option Transfer) → b ≡ a → IsToldIn e a b
told_same e a b same = subst (λ (o : Option Transfer). IsToldIn e a o) (sym same) (is_same e a)

told_at : (e : ℕ) (a b : Option Transfer) (y : Transfer) → a ≡ Some y → b ≡ Some (record y { reported = true }) → waits_for e y ≡ true → IsToldIn e a b
told_at e a b y is now waits =
    subst (λ (o : Option Transfer). IsToldIn e o b) (sym is) (subst (λ (o : Option Transfer). IsToldIn e (Some y) o) (sym now) (inr (waits, refl)))

told_then : (e : ℕ) (a b c : Option Transfer) → IsToldIn e a b → IsToldIn e b c → IsToldIn e a c
told_then e None None None one two = tt
told_then e None None (Some w) one two = absurd two
told_then e None (Some z) c one two = absurd one
told_then e (Some y) None c one two = absurd one
told_then e (Some y) (Some z) None one two = absurd two
told_then e (Some y) (Some z) (Some w) one two =
    ⊎_elim (λ (same : z ≡ y). subst (λ (r : Transfer). IsToldIn e (Some r) (Some w)) same two)
    (λ (told : (waits_for e y ≡ true) × (z ≡ record y { reported = true })).
    inr (told.0, ⊎_elim (λ (same : w ≡ z). same ∙ told.1) (λ (also : (waits_for e z ≡ true) × (w ≡ record z { reported = true })). also.1 ∙ ap (λ (r : Transfer). record r { reported = true }) told.1) two)) one

pub all_told : (e : ℕ) (ts us vs : List Transfer) → AreTold e ts us → AreTold e us vs → AreTold e ts vs
all_told e ts us vs one two k = told_then e (slice_get ts k) (slice_get us k) (slice_get vs k) (one k) (two k)

pub told_set : (e : ℕ) (ts : List Transfer) (t : ℕ) (y : Transfer) → slice_get ts t ≡ Some y → waits_for e y ≡ true → AreTold e ts (set ts t (record y { reported = true }))
told_set e ts t y here waits k =
    let now = set ts t (record y { reported = true }) in
    ⊎_elim (λ (own : k ≡ t). told_at e (slice_get ts k) (slice_get now k) y (ap (slice_get ts) own ∙ here) (ap (slice_get now) own ∙ set_here ts t y (record y { reported = true }) here) waits)
    (λ (other : k ≢ t). told_same e (slice_get ts k) (slice_get now k) (set_there ts t k (record y { reported = true }) other)) (cases_eq k t)

-- what it was
pub record WasIn (e : ℕ) (ts : List Transfer) (k : ℕ) (z : Transfer) : Type 0 where
  pub one : Transfer
  pub here : slice_get ts k ≡ Some one
  pub is : (z ≡ one) ⊎ ((waits_for e one ≡ true) × (z ≡ record one { reported = true }))

pub was_in : (e : ℕ) (ts us : List Transfer) (k : ℕ) (z : Transfer) → AreTold e ts us → slice_get us k ≡ Some z → WasIn e ts k z
was_in e ts us k z told there = by (slice_get ts k) refl (subst (λ (o : Option Transfer). IsToldIn e (slice_get ts k) o) there (told k))
  where
    by : (o : Option Transfer) → slice_get ts k ≡ o → IsToldIn e o (Some z) → WasIn e ts k z
    by None is w = absurd w
    by (Some y) is w = record { one = y; here = is; is = w }

pub record IsOf (e : ℕ) (ts : List Transfer) (u : ℕ) : Type 0 where
  pub one : Transfer
  pub here : slice_get ts u ≡ Some one
  pub of_e : one.endpoint ≡ e

pub was_of : (e : ℕ) (ts us : List Transfer) (u : ℕ) (z : Transfer) → AreTold e ts us → slice_get us u ≡ Some z → z.endpoint ≡ e → IsOf e ts u
was_of e ts us u z told there of_e =
    let w = was_in e ts us u z told there in
    record {
      one = w.one;
      here = w.here;
      of_e = ⊎_elim (λ (same : z ≡ w.one). ap (λ (r : Transfer). r.endpoint) (sym same) ∙ of_e) (λ (now : (waits_for e w.one ≡ true) × (z ≡ record w.one { reported = true })). (waits_is e w.one now.0).0) w.is;
    }

-- ---- one after the other

pub record OnlyTellsOf (e : ℕ) (d f : DriverContent) : Type 0 where
  pub transfers : AreTold e d.transfers f.transfers
  pub endpoints : f.endpoints ≡ d.endpoints
  pub notes : f.notes ≡ d.notes
  pub command : f.command ≡ d.command
  pub made : f.made ≡ d.made
  pub slots : f.book.slots ≡ d.book.slots
  pub waiting : f.waiting ≡ d.waiting
  pub rung : f.rung ≡ d.rung
  pub harvested : (i u : ℕ) → slice_get f.harvested i ≡ Some u → (slice_get d.harvested i ≡ Some u) ⊎ IsOf e d.transfers u

tells_one : (d f : DriverContent) (e : ℕ) (name : EpName) (k : ℕ) (o : Option Transfer) → slice_get f.transfers k ≡ o → OnlyTellsOf e d f → OnlyTellsOf e d (behind_one f e name k o)
tells_one d f e name k None there old = old
tells_one d f e name k (Some y) there old = by (waits_for e y) refl
  where
    by : (b : Bool) → waits_for e y ≡ b
        → OnlyTellsOf e d (cond b (record (reported f (lines.Halt causes.Stall) name []) { transfers = set f.transfers k (record y { reported = true }); harvested = f.harvested ++ k ∷ [] }) f)
    by true waits = record {
      transfers = all_told e d.transfers f.transfers (set f.transfers k (record y { reported = true })) old.transfers (told_set e f.transfers k y there waits);
      endpoints = old.endpoints;
      notes = old.notes;
      command = old.command;
      made = old.made;
      slots = old.slots;
      waiting = old.waiting;
      rung = old.rung;
      harvested = λ i u at.
          ⊎_elim (λ (was : slice_get f.harvested i ≡ Some u). old.harvested i u was)
          (λ (new : u ≡ k). inr (was_of e d.transfers f.transfers u y old.transfers (ap (slice_get f.transfers) new ∙ there) (waits_is e y waits).0)) (pushed f.harvested k i u at);
    }
    by false waits = old

tells_more : (d f : DriverContent) (e : ℕ) (name : EpName) (k n : ℕ) → OnlyTellsOf e d f → OnlyTellsOf e d (behind f e name k n)
unfolding behind
tells_more d f e name k zero old = old
tells_more d f e name k (suc n) old = tells_more d (behind_one f e name k (slice_get f.transfers k)) e name (suc k) n (tells_one d f e name k (slice_get f.transfers k) refl old)

pub behind_tells_of : (d : DriverContent) (e : ℕ) (name : EpName) (k n : ℕ) → OnlyTellsOf e d (behind d e name k n)
behind_tells_of d e name k n =
    tells_more d d e name k n
    (record { transfers = λ i. is_same e (slice_get d.transfers i); endpoints = refl; notes = refl; command = refl; made = refl; slots = refl; waiting = refl; rung = refl; harvested = λ i u at. inl at })

-- ---- what is out

other_same : (note : ℕ → NoteRuns) (e i : ℕ) (y z : Transfer) → i ≢ e → (z ≡ y) ⊎ ((waits_for e y ≡ true) × (z ≡ record y { reported = true })) → out_of_transfer note i 0 z ≡ out_of_transfer note i 0 y
other_same note e i y z differs one =
    ⊎_elim (λ (same : z ≡ y). ap (out_of_transfer note i 0) same)
    (λ (told : (waits_for e y ≡ true) × (z ≡ record y { reported = true })).
    let of_e = its_endpoint e y told.0 in
    none_of note i z (λ is. differs (sym is ∙ ap (λ (r : Transfer). r.endpoint) told.1 ∙ of_e))
    ∙ sym (none_of note i y (λ is. differs (sym is ∙ of_e)))) one

-- of another endpoint the same
pub others_same : (note : ℕ → NoteRuns) (e i : ℕ) (ts us : List Transfer) → i ≢ e → AreTold e ts us → all_of note i us ≡ all_of note i ts
unfolding all_of
others_same note e i [] [] differs told = refl
others_same note e i [] (z ∷ us) differs told = absurd (told 0)
others_same note e i (y ∷ ts) [] differs told = absurd (told 0)
others_same note e i (y ∷ ts) (z ∷ us) differs told =
    both_lists (out_of_transfer note i 0 z) (all_of note i us) (out_of_transfer note i 0 y) (all_of note i ts) (other_same note e i y z differs (told 0)) (others_same note e i ts us differs (λ k. told (suc k)))

-- where it is reported, or of another endpoint
told_is : (note : ℕ → NoteRuns) (e : ℕ) (y : Transfer) → (y.endpoint ≡ e → y.reported ≡ true) → out_of_transfer note e 0 y ≡ out_of_transfer note e 0 (record y { reported = true })
told_is note e y told =
    ⊎_elim (λ (own : y.endpoint ≡ e). ap (λ (b : Bool). out_of_transfer note e 0 (record y { reported = b })) (told own))
    (λ (other : y.endpoint ≢ e). none_of note e y other ∙ sym (none_of note e (record y { reported = true }) other)) (cases_eq y.endpoint e)

own_told : (note : ℕ → NoteRuns) (e : ℕ) (y z : Transfer) → (z.endpoint ≡ e → z.reported ≡ true) → (z ≡ y) ⊎ ((waits_for e y ≡ true) × (z ≡ record y { reported = true }))
    → out_of_transfer note e 0 z ≡ out_of_transfer note e 0 (record y { reported = true })
own_told note e y z told one =
    ⊎_elim (λ (same : z ≡ y). told_is note e z told ∙ ap (λ (r : Transfer). out_of_transfer note e 0 (record r { reported = true })) same)
    (λ (now : (waits_for e y ≡ true) × (z ≡ record y { reported = true })). ap (out_of_transfer note e 0) now.1) one

pub told_out : (note : ℕ → NoteRuns) (e : ℕ) (ts us : List Transfer) → AreTold e ts us → ((k : ℕ) (z : Transfer) → slice_get us k ≡ Some z → z.endpoint ≡ e → z.reported ≡ true) → all_of note e us ≡ out_told note e ts
unfolding all_of
told_out note e [] [] told each = refl
told_out note e [] (z ∷ us) told each = absurd (told 0)
told_out note e (y ∷ ts) [] told each = absurd (told 0)
told_out note e (y ∷ ts) (z ∷ us) told each =
    both_lists (out_of_transfer note e 0 z) (all_of note e us) (out_of_transfer note e 0 (record y { reported = true })) (out_told note e ts)
    (own_told note e y z (each 0 z refl) (told 0)) (told_out note e ts us (λ k. told (suc k)) (λ k w there. each (suc k) w there))

-- ---- fewer are

pub in_both : (p : ℕ) (xs ys us vs : List ℕ) → (IsAmong p xs → IsAmong p us) → (IsAmong p ys → IsAmong p vs) → IsAmong p (xs ++ ys) → IsAmong p (us ++ vs)
in_both p xs ys us vs one two among = ⊎_elim (λ (own : IsAmong p xs). among_left p us vs (one own)) (λ (later : IsAmong p ys). among_right p us vs (two later)) (among_either p xs ys among)

less_one : (p : ℕ) (xs : List ℕ) → IsAmong p (drop 1 xs) → IsAmong p xs
less_one p [] among = among
less_one p (x ∷ xs) among = inr among

less_told : (p : ℕ) (b r : Bool) (xs : List ℕ) → IsAmong p (cond b (drop (0 + passed true) xs) []) → IsAmong p (cond b (drop (0 + passed r) xs) [])
less_told p true true xs among = among
less_told p true false xs among = less_one p xs among
less_told p false r xs among = among

told_among : (note : ℕ → NoteRuns) (e : ℕ) (ts : List Transfer) (p : ℕ) → IsAmong p (out_told note e ts) → IsAmong p (all_of note e ts)
unfolding all_of
told_among note e [] p among = among
told_among note e (y ∷ ts) p among =
    in_both p (out_of_transfer note e 0 (record y { reported = true })) (out_told note e ts) (out_of_transfer note e 0 y) (all_of note e ts)
    (λ own. less_told p (y.endpoint == e && not y.released) y.reported (pieces_from note y.place y.left) own) (λ later. told_among note e ts p later) among

-- ---- before the one that was halted, and behind it

pub record StallSplits (note : ℕ → NoteRuns) (e : ℕ) (ts : List Transfer) (t h : ℕ) : Type 0 where
  pub before : List ℕ
  pub behind : List ℕ
  pub later : List ℕ
  pub was : all_of note e ts ≡ before ++ h ∷ behind
  pub is : out_told note e ts ≡ before ++ later
  pub passed_over : (p : ℕ) → IsAmong p before → IsBefore note e ts t p
  pub fewer : (p : ℕ) → IsAmong p later → IsAmong p behind

pub stall_splits : (note : ℕ → NoteRuns) (e : ℕ) (ts : List Transfer) (t : ℕ) (y : Transfer) (h : ℕ) (r : List ℕ) → slice_get ts t ≡ Some y → out_of_transfer note e 0 y ≡ h ∷ r
    → out_of_transfer note e 0 (record y { reported = true }) ≡ r → ((u : ℕ) (z : Transfer) → u < t → slice_get ts u ≡ Some z → z.endpoint ≡ e → z.reported ≡ true) → StallSplits note e ts t h
unfolding all_of
stall_splits note e [] t y h r here first rest earlier = absurd (cc)
stall_splits note e (w ∷ ts) zero y h r here first rest earlier =
    let same : w ≡ y = same_Some w y here in
    record {
      before = [];
      behind = r ++ all_of note e ts;
      later = r ++ out_told note e ts;
      was = ap (λ (v : Transfer). out_of_transfer note e 0 v ++ all_of note e ts) same ∙ ap (λ xs. xs ++ all_of note e ts) first;
      is = ap (λ (v : Transfer). out_of_transfer note e 0 (record v { reported = true }) ++ out_told note e ts) same ∙ ap (λ xs. xs ++ out_told note e ts) rest;
      passed_over = λ p among. absurd among;
      fewer = λ p among. in_both p r (out_told note e ts) r (all_of note e ts) (λ own. own) (λ later. told_among note e ts p later) among;
    }
stall_splits note e (w ∷ ts) (suc t) y h r here first rest earlier =
    let s = stall_splits note e ts t y h r here first rest (λ u z less there of_e. earlier (suc u) z (omega (arith, less)) there of_e) in
    let a = out_of_transfer note e 0 w in
    record {
      before = a ++ s.before;
      behind = s.behind;
      later = s.later;
      was = ap (λ xs. a ++ xs) s.was ∙ append_assoc a s.before (h ∷ s.behind);
      is = ap (λ xs. xs ++ out_told note e ts) (sym (told_is note e w (earlier 0 w (omega arith) refl))) ∙ ap (λ xs. a ++ xs) s.is ∙ append_assoc a s.before s.later;
      passed_over = λ p among. ⊎_elim (λ (own : IsAmong p a). record { number = 0; transfer = w; earlier = omega arith; here = refl; among = own })
          (λ (later : IsAmong p s.before). let k = s.passed_over p later in let less = k.earlier in record { number = suc k.number; transfer = k.transfer; earlier = omega (arith, less); here = k.here; among = k.among })
          (among_either p a s.before among);
      fewer = s.fewer;
    }
