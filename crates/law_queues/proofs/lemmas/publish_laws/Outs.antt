-- The lists of what is out, where the newest transfer is being published.
use Rattle.std.proofs.Common.{◌≡◌, ◌≢◌, ℕ, zero, suc, ◌+◌, ◌*◌, ◌==◌, ◌<◌, ◌≤◌, Bool, true, false, not, ◌&&◌, if◌then◌else◌, List, [], ◌∷◌, ◌++◌, length, drop, slice_get, Some, None, ap, refl, sym, ◌∙◌, inl, inr, arith}
use Rattle.std.proofs.lemmas.Bool.{eq-eqb}
use Rattle.std.proofs.lemmas.List.{append_assoc}
use Rattle.law_queues.proofs.Common.{not_its_out}
use Rattle.drv_table.specs.declared.content.Transfer.{Transfer}
use Rattle.drv_table.specs.declared.content.Command.TheVariants as unfinished
use Rattle.claims_driver.specs.Owners.{NoteRuns}
use Rattle.law_ring.specs.Order.{IsAmong}
use Rattle.law_driver.specs.chained_transfers.Chains.{piece_at}
use Rattle.law_driver.specs.chained_transfers.Out.{pieces_from, passed, out_of_transfer, out_of}

-- ---- one transfer

abbrev part_out : (ℕ → NoteRuns) → ℕ → ℕ → Bool → Bool → ℕ → ℕ → ℕ → List ℕ
part_out note e first released reported owner place left = if owner == e && not released then drop (first + passed reported) (pieces_from note place left) else []

-- of the newest one, whose first qTD stands in block b, n qTDs from there on
pub record IsNewest (e b n : ℕ) (y : Transfer) : Type 0 where
  pub owner : y.endpoint ≡ e
  pub held : y.released ≡ false
  pub waits : y.reported ≡ false
  pub place : y.place ≡ b
  pub left : y.left ≡ n

newest_part : (note : ℕ → NoteRuns) (e b n first : ℕ) (y : Transfer) → IsNewest e b n y → out_of_transfer note e first y ≡ drop (first + 0) (pieces_from note b n)
newest_part note e b n first y k =
    ap (λ (i : ℕ). part_out note e first y.released y.reported i y.place y.left) k.owner
    ∙ ap (λ (x : Bool). if x && not y.released then drop (first + passed y.reported) (pieces_from note y.place y.left) else []) (eq-eqb e e refl)
    ∙ ap (λ (x : Bool). if true && not x then drop (first + passed y.reported) (pieces_from note y.place y.left) else []) k.held
    ∙ ap (λ (x : Bool). drop (first + passed x) (pieces_from note y.place y.left)) k.waits
    ∙ ap (λ (i : ℕ). drop (first + 0) (pieces_from note i y.left)) k.place ∙ ap (λ (i : ℕ). drop (first + 0) (pieces_from note b i)) k.left

-- the pieces are among them
pub piece_among : (note : ℕ → NoteRuns) (b n i : ℕ) (more : List ℕ) → i < n → IsAmong (32 * piece_at note b i) (pieces_from note b n ++ more)
piece_among note b zero i more below = absurd (omega (arith, below))
piece_among note b (suc n) zero more below = inl refl
piece_among note b (suc n) (suc i) more below = inr (piece_among note (note b).next n i more (omega (arith, below)))

-- ---- the list

-- the first piece has its place between those before it and those after it
pub record IsSplit (note : ℕ → NoteRuns) (e b n : ℕ) (c : ℕ) (words : List ℕ) (ts : List Transfer) : Type 0 where
  pub before : List ℕ
  pub after : List ℕ
  pub out : (made : ℕ) → out_of note e (Some (unfinished.Publish c words)) (suc made) ts ≡ before ++ after
  pub all : out_of note e None 0 ts ≡ before ++ (32 * b) ∷ after
  pub others : (i : ℕ) → 1 ≤ i → i < suc n → IsAmong (32 * piece_at note b i) after

later_among : (note : ℕ → NoteRuns) (b n : ℕ) (i : ℕ) → 1 ≤ i → i < suc n → IsAmong (32 * piece_at note b i) (pieces_from note (note b).next n ++ [])
later_among note b n zero some below = absurd (omega (arith, some))
later_among note b n (suc i) some below = piece_among note (note b).next n i [] (omega (arith, below))

pub split_out : (note : ℕ → NoteRuns) (e b n c : ℕ) (words : List ℕ) (ts : List Transfer) (t : ℕ) (y : Transfer) → suc t ≡ length ts → slice_get ts t ≡ Some y → IsNewest e b (suc n) y → IsSplit note e b n c words ts
split_out note e b n c words [] t y last there k = absurd (omega (arith, last))
split_out note e b n c words (z ∷ []) zero y last there k =
    let same : z ≡ y = cc in
    record {
      before = [];
      after = pieces_from note (note b).next n ++ [];
      out = λ made. ap (λ (x : Transfer). out_of_transfer note e 1 x ++ []) same ∙ ap (λ (xs : List ℕ). xs ++ []) (newest_part note e b (suc n) 1 y k);
      all = ap (λ (x : Transfer). out_of_transfer note e 0 x ++ []) same ∙ ap (λ (xs : List ℕ). xs ++ []) (newest_part note e b (suc n) 0 y k);
      others = later_among note b n;
    }
split_out note e b n c words (z ∷ []) (suc t) y last there k = absurd (let l : suc (suc t) ≡ 1 = last in omega (arith, l))
split_out note e b n c words (z ∷ x ∷ xs) zero y last there k = absurd (let l : 1 ≡ suc (suc (length xs)) = last in omega (arith, l))
split_out note e b n c words (z ∷ x ∷ xs) (suc t) y last there k =
    let s : IsSplit note e b n c words (x ∷ xs) = split_out note e b n c words (x ∷ xs) t y (let l : suc (suc t) ≡ suc (suc (length xs)) = last in omega (arith, l)) there k in
    let first : List ℕ = out_of_transfer note e 0 z in
    record {
      before = first ++ s.before;
      after = s.after;
      out = λ made. ap (λ (ys : List ℕ). first ++ ys) (s.out made) ∙ sym (append_assoc first s.before s.after);
      all = ap (λ (ys : List ℕ). first ++ ys) s.all ∙ sym (append_assoc first s.before ((32 * b) ∷ s.after));
      others = s.others;
    }

-- of another endpoint nothing changes
pub other_out : (note : ℕ → NoteRuns) (e c : ℕ) (words : List ℕ) (ts : List Transfer) (t made : ℕ) (y : Transfer) → suc t ≡ length ts → slice_get ts t ≡ Some y → y.endpoint ≢ e
    → out_of note e (Some (unfinished.Publish c words)) (suc made) ts ≡ out_of note e None 0 ts
other_out note e c words [] t made y last there differs = absurd (omega (arith, last))
other_out note e c words (z ∷ []) zero made y last there differs =
    let same : z ≡ y = cc in
    ap (λ (x : Transfer). out_of_transfer note e 1 x ++ []) same ∙ ap (λ (xs : List ℕ). xs ++ []) (not_its_out note e 1 y differs)
    ∙ sym (ap (λ (x : Transfer). out_of_transfer note e 0 x ++ []) same ∙ ap (λ (xs : List ℕ). xs ++ []) (not_its_out note e 0 y differs))
other_out note e c words (z ∷ []) (suc t) made y last there differs = absurd (let l : suc (suc t) ≡ 1 = last in omega (arith, l))
other_out note e c words (z ∷ x ∷ xs) zero made y last there differs = absurd (let l : 1 ≡ suc (suc (length xs)) = last in omega (arith, l))
other_out note e c words (z ∷ x ∷ xs) (suc t) made y last there differs =
    ap (λ (ys : List ℕ). out_of_transfer note e 0 z ++ ys) (other_out note e c words (x ∷ xs) t made y (let l : suc (suc t) ≡ suc (suc (length xs)) = last in omega (arith, l)) there differs)

-- nor by one store more
pub same_out : (note : ℕ → NoteRuns) (e c : ℕ) (words : List ℕ) (ts : List Transfer) (made more : ℕ) → out_of note e (Some (unfinished.Publish c words)) (suc made) ts ≡ out_of note e (Some (unfinished.Publish c words)) (suc more) ts
same_out note e c words (z ∷ x ∷ xs) made more = ap (λ (ys : List ℕ). out_of_transfer note e 0 z ++ ys) (same_out note e c words (x ∷ xs) made more)
same_out note e c words _ made more = refl
