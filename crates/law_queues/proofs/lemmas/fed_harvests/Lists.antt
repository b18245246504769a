-- The list of what is out, where one of its transfers goes on by one qTD.
use Rattle.std.proofs.Common.{◌≡◌, ℕ, zero, suc, ◌+◌, ◌<◌, not, ◌&&◌, ◌==◌, cond, List, [], ◌∷◌, ◌++◌, set, drop, slice_get, Some, None, ap, sym, ◌∙◌, ⊎_elim, refl, arith}
use Rattle.std.proofs.lemmas.Option.{same_Some}
use Rattle.law_ring.proofs.Common.{among_either}
use Rattle.law_queues.proofs.Common.{pieces_same}
use Rattle.drv_table.specs.declared.content.Transfer.{Transfer}
use Rattle.claims_driver.specs.Owners.{NoteRuns}
use Rattle.law_ring.specs.Order.{IsAmong}
use Rattle.law_driver.specs.chained_transfers.Out.{passed, out_of_transfer, out_of}
use Rattle.law_queues.proofs.lemmas.fed_lends.Asked.{both_lists}

-- where no command is unfinished
unfoldable pub all_of : (ℕ → NoteRuns) → ℕ → List Transfer → List ℕ
all_of note e [] = []
all_of note e (y ∷ ys) = out_of_transfer note e 0 y ++ all_of note e ys

pub all_out : (note : ℕ → NoteRuns) (e made : ℕ) (ts : List Transfer) → out_of note e None made ts ≡ all_of note e ts
unfolding all_of
all_out note e made (y ∷ z ∷ ts) = ap (λ xs. out_of_transfer note e 0 y ++ xs) (all_out note e made (z ∷ ts))
all_out note e made _ = refl

pub all_same : (note other : ℕ → NoteRuns) (e : ℕ) (ts : List Transfer) → ((c : ℕ) → other c ≡ note c) → all_of other e ts ≡ all_of note e ts
unfolding all_of
all_same note other e [] same = refl
all_same note other e (y ∷ ys) same =
    both_lists (out_of_transfer other e 0 y) (all_of other e ys) (out_of_transfer note e 0 y) (all_of note e ys)
    (ap (λ xs. cond (y.endpoint == e && not y.released) (drop (0 + passed y.reported) xs) []) (pieces_same note other y.place y.left same)) (all_same note other e ys same)

pub append_assoc : (xs ys zs : List ℕ) → xs ++ (ys ++ zs) ≡ (xs ++ ys) ++ zs
append_assoc [] ys zs = refl
append_assoc (x ∷ xs) ys zs = ap (λ ws. x ∷ ws) (append_assoc xs ys zs)

-- ---- one of a transfer's is taken out

pub record IsBefore (note : ℕ → NoteRuns) (e : ℕ) (ts : List Transfer) (t p : ℕ) : Type 0 where
  pub number : ℕ
  pub transfer : Transfer
  pub earlier : number < t
  pub here : slice_get ts number ≡ Some transfer
  pub among : IsAmong p (out_of_transfer note e 0 transfer)

pub record Splits (note : ℕ → NoteRuns) (e : ℕ) (ts now : List Transfer) (t h : ℕ) : Type 0 where
  pub before : List ℕ
  pub behind : List ℕ
  pub was : all_of note e ts ≡ before ++ h ∷ behind
  pub is : all_of note e now ≡ before ++ behind
  pub passed_over : (p : ℕ) → IsAmong p before → IsBefore note e ts t p

pub splits : (note : ℕ → NoteRuns) (e : ℕ) (ts : List Transfer) (t : ℕ) (y z : Transfer) (h : ℕ) (r : List ℕ) → slice_get ts t ≡ Some y → out_of_transfer note e 0 y ≡ h ∷ r → out_of_transfer note e 0 z ≡ r → Splits note e ts (set ts t z) t h
unfolding all_of
splits note e [] t y z h r here first rest = absurd (cc)
splits note e (w ∷ ts) zero y z h r here first rest =
    let same : w ≡ y = same_Some w y here in
    record {
      before = [];
      behind = r ++ all_of note e ts;
      was = ap (λ (v : Transfer). out_of_transfer note e 0 v ++ all_of note e ts) same ∙ ap (λ xs. xs ++ all_of note e ts) first;
      is = ap (λ xs. xs ++ all_of note e ts) rest;
      passed_over = λ p among. absurd among;
    }
splits note e (w ∷ ts) (suc t) y z h r here first rest =
    let s = splits note e ts t y z h r here first rest in
    let a = out_of_transfer note e 0 w in
    record {
      before = a ++ s.before;
      behind = s.behind;
      was = ap (λ xs. a ++ xs) s.was ∙ append_assoc a s.before (h ∷ s.behind);
      is = ap (λ xs. a ++ xs) s.is ∙ append_assoc a s.before s.behind;
      passed_over = λ p among. ⊎_elim (λ (own : IsAmong p a). record { number = 0; transfer = w; earlier = omega arith; here = refl; among = own })
          (λ (later : IsAmong p s.before). let k = s.passed_over p later in let less = k.earlier in record { number = suc k.number; transfer = k.transfer; earlier = omega (arith, less); here = k.here; among = k.among })
          (among_either p a s.before among);
    }

-- of another endpoint nothing is
pub all_set : (note : ℕ → NoteRuns) (e : ℕ) (ts : List Transfer) (t : ℕ) (y z : Transfer) → slice_get ts t ≡ Some y → out_of_transfer note e 0 z ≡ out_of_transfer note e 0 y → all_of note e (set ts t z) ≡ all_of note e ts
unfolding all_of
all_set note e [] t y z here same = refl
all_set note e (w ∷ ts) zero y z here same = ap (λ xs. xs ++ all_of note e ts) (same ∙ ap (λ (v : Transfer). out_of_transfer note e 0 v) (sym (same_Some w y here)))
all_set note e (w ∷ ts) (suc t) y z here same = ap (λ xs. out_of_transfer note e 0 w ++ xs) (all_set note e ts t y z here same)
