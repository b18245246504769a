-- Which qTDs are out around a harvest.
use Rattle.std.proofs.Common.{◌≡◌, ◌≢◌, ℕ, zero, suc, ◌+◌, ◌-◌, ◌*◌, ◌==◌, ◌&&◌, not, Bool, true, false, if◌then◌else◌, List, [], ◌∷◌, ◌++◌, drop, slice_get, slice_set, Option, Some, None, ap, refl, sym, ◌∙◌, ⊎_elim, arith}
use Rattle.std.proofs.lemmas.Option.{same_Some}
use Rattle.std.proofs.lemmas.List.{append_assoc}
use Rattle.law_ring.proofs.Common.{among_either}
use Rattle.law_queues.proofs.Common.{none_of, first_out, pieces_same, own_out}
use Rattle.drv_table.specs.declared.content.Transfer.{Transfer}
use Rattle.drv_table.specs.declared.content.Command.{Command}
use Rattle.claims_driver.specs.Owners.{NoteRuns}
use Rattle.law_ring.specs.Order.{IsAmong}
use Rattle.law_driver.specs.chained_transfers.Out.{pieces_from, unpublished, passed, out_of_transfer, if_last, out_of}
use Rattle.law_queues.specs.harvest_laws.Outs.{IsOutEarlier, SplitsOut}

-- ---- what it depends on

pub out_alike : (note now : ℕ → NoteRuns) (e : ℕ) (c : Option Command) (made : ℕ) (ts : List Transfer) → ((b : ℕ) → now b ≡ note b) → out_of now e c made ts ≡ out_of note e c made ts
out_alike note now e c made [] same = refl
out_alike note now e c made (y ∷ ys) same =
    ap (λ (xs : List ℕ). (if y.endpoint == e && not y.released then drop (if_last ys (unpublished c made y.qtds) + passed y.reported) xs else []) ++ out_of now e c made ys) (pieces_same note now y.place y.left same)
    ∙ ap (λ (xs : List ℕ). out_of_transfer note e (if_last ys (unpublished c made y.qtds)) y ++ xs) (out_alike note now e c made ys same)

-- ---- another endpoint

pub out_beside : (note : ℕ → NoteRuns) (e t made : ℕ) (ts : List Transfer) (y z : Transfer) → slice_get ts t ≡ Some y → y.endpoint ≢ e → z.endpoint ≢ e → out_of note e None made (slice_set ts t z) ≡ out_of note e None made ts
out_beside note e t made [] y z here was now = refl
out_beside note e zero made (a ∷ ts) y z here was now =
    first_out note e made z ts ∙ ap (λ (xs : List ℕ). xs ++ out_of note e None made ts) (none_of note e z now)
    ∙ sym (first_out note e made a ts ∙ ap (λ (xs : List ℕ). xs ++ out_of note e None made ts) (none_of note e a (λ is. was (ap (λ (v : Transfer). v.endpoint) (same_Some y a (sym here)) ∙ is))))
out_beside note e (suc t) made (a ∷ ts) y z here was now =
    first_out note e made a (slice_set ts t z) ∙ ap (λ (xs : List ℕ). out_of_transfer note e 0 a ++ xs) (out_beside note e t made ts y z here was now) ∙ sym (first_out note e made a ts)

-- ---- the one that is read

it_is : (note : ℕ → NoteRuns) (e l : ℕ) (y : Transfer) → y.endpoint ≡ e → y.released ≡ false → y.reported ≡ false → y.left ≡ suc l → out_of_transfer note e 0 y ≡ 32 * y.place ∷ pieces_from note (note y.place).next l
it_is note e l y at kept waits left =
    own_out note e y at kept ∙ ap (λ (b : Bool). drop (0 + passed b) (pieces_from note y.place y.left)) waits
    ∙ ap (pieces_from note y.place) left

pub goes_on_out : (note : ℕ → NoteRuns) (e l : ℕ) (y : Transfer) → y.endpoint ≡ e → y.released ≡ false → y.reported ≡ false → y.left ≡ suc l
    → out_of_transfer note e 0 (record y { place = (note y.place).next; left = y.left - 1 }) ≡ pieces_from note (note y.place).next l
goes_on_out note e l y at kept waits left =
    own_out note e (record y { place = (note y.place).next; left = y.left - 1 }) at kept
    ∙ ap (λ (b : Bool). drop (0 + passed b) (pieces_from note (note y.place).next (y.left - 1))) waits
    ∙ ap (pieces_from note (note y.place).next) (let e : y.left - 1 ≡ l = omega (arith, left) in e)

pub ends_out : (note : ℕ → NoteRuns) (e l : ℕ) (y : Transfer) → y.endpoint ≡ e → y.released ≡ false → y.left ≡ suc l → out_of_transfer note e 0 (record y { reported = true }) ≡ pieces_from note (note y.place).next l
ends_out note e l y at kept left = own_out note e (record y { reported = true }) at kept ∙ ap (λ (i : ℕ). drop 1 (pieces_from note y.place i)) left

pub out_splits : (note : ℕ → NoteRuns) (e t made l : ℕ) (ts : List Transfer) (y : Transfer) → slice_get ts t ≡ Some y → y.endpoint ≡ e → y.released ≡ false → y.reported ≡ false → y.left ≡ suc l → SplitsOut note e t made ts y l
out_splits note e t made l [] y here at kept waits left = absurd cc
out_splits note e zero made l (a ∷ ts) y here at kept waits left = record {
  passed = [];
  rest = out_of note e None made ts;
  before = first_out note e made a ts ∙ ap (λ (v : Transfer). out_of_transfer note e 0 v ++ out_of note e None made ts) (same_Some a y here) ∙ ap (λ (xs : List ℕ). xs ++ out_of note e None made ts) (it_is note e l y at kept waits left);
  after = λ z is. first_out note e made z ts ∙ ap (λ (xs : List ℕ). xs ++ out_of note e None made ts) is;
  earlier = λ p among. absurd among;
}
out_splits note e (suc t) made l (a ∷ ts) y here at kept waits left = with_first (out_splits note e t made l ts y here at kept waits left)
  where
    with_first : SplitsOut note e t made ts y l → SplitsOut note e (suc t) made (a ∷ ts) y l
    with_first s = record {
      passed = out_of_transfer note e 0 a ++ s.passed;
      rest = s.rest;
      before = first_out note e made a ts ∙ ap (λ (xs : List ℕ). out_of_transfer note e 0 a ++ xs) s.before
          ∙ sym (append_assoc (out_of_transfer note e 0 a) s.passed (32 * y.place ∷ (pieces_from note (note y.place).next l ++ s.rest)));
      after = λ z is.
          first_out note e made a (slice_set ts t z) ∙ ap (λ (xs : List ℕ). out_of_transfer note e 0 a ++ xs) (s.after z is)
          ∙ sym (append_assoc (out_of_transfer note e 0 a) s.passed (pieces_from note (note y.place).next l ++ s.rest));
      earlier = λ p among.
          ⊎_elim (λ (front : IsAmong p (out_of_transfer note e 0 a)). record { number = 0; earlier = omega arith; transfer = a; here = refl; among = front })
          (λ (back : IsAmong p s.passed).
          let k : IsOutEarlier note e t ts p = s.earlier p back in
          let less = k.earlier in
          record { number = suc k.number; earlier = omega (arith, less); transfer = k.transfer; here = k.here; among = k.among }) (among_either p (out_of_transfer note e 0 a) s.passed among);
    }
