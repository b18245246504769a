-- What is out of the driver's transfers, the newest aside.
use Rattle.std.proofs.Common.{◌≡◌, ℕ, zero, suc, ◌+◌, ◌-◌, ◌*◌, ◌<◌, ◌≤◌, ◌==◌, Bool, true, false, not, ◌&&◌, cond, List, [], ◌∷◌, ◌++◌, length, take, drop, slice_get, Option, Some, None, ap, refl, sym, subst, ◌∙◌, ⊎_elim, inl, inr, arith, append_assoc}
use Rattle.std.proofs.lemmas.Bool.{eq-eqb, eqb-true}
use Rattle.std.proofs.lemmas.List.{append-nil}
use Rattle.std.proofs.lemmas.Option.{same_Some}
use Rattle.law_ring.proofs.Common.{among_either}
use Rattle.law_common.proofs.Booleans.{waits_by}
use Rattle.law_queues.proofs.Common.{if_zero, piece_more}
use Rattle.mem_runs.specs.declared.slots.Slot.{Slot}
use Rattle.drv_table.specs.declared.content.Transfer.{Transfer}
use Rattle.drv_table.specs.declared.content.Command.{Command}
use Rattle.claims_driver.specs.Owners.{Owner, Element, NoteRuns, ArePieces}
use Rattle.law_ring.specs.Order.{IsAmong}
use Rattle.law_driver.specs.chained_transfers.Chains.{piece_at}
use Rattle.law_driver.specs.chained_transfers.Out.{pieces_from, unpublished, out_of_transfer, if_last, out_of}

-- ---- the newest transfer is the last of the list

pub last_apart : (ts : List Transfer) (n : ℕ) (y : Transfer) → suc n ≡ length ts → slice_get ts n ≡ Some y → ts ≡ take n ts ++ y ∷ []
last_apart [] n y many there = absurd (omega (arith, many))
last_apart (z ∷ []) zero y many there = ap (λ (w : Transfer). w ∷ []) (same_Some z y there)
last_apart (z ∷ w ∷ ts) zero y many there = absurd (omega (arith, many))
last_apart (z ∷ ts) (suc n) y many there = ap (λ (ws : List Transfer). z ∷ ws) (last_apart ts n y (omega (arith, many)) there)

followed : (ts : List Transfer) (y : Transfer) (n : ℕ) → if_last (ts ++ y ∷ []) n ≡ 0
followed [] y n = refl
followed (z ∷ ts) y n = refl

pub out_apart : (note : ℕ → NoteRuns) (e : ℕ) (c : Option Command) (made : ℕ) (ts : List Transfer) (y : Transfer) → out_of note e c made (ts ++ y ∷ []) ≡ out_of note e None 0 ts ++ out_of_transfer note e (unpublished c made y.qtds) y
out_apart note e c made [] y = append-nil (out_of_transfer note e (unpublished c made y.qtds) y)
out_apart note e c made (z ∷ ts) y =
    ap (λ (k : ℕ). out_of_transfer note e k z ++ out_of note e c made (ts ++ y ∷ [])) (followed ts y (unpublished c made z.qtds) ∙ sym (if_zero ts))
    ∙ ap (λ (es : List ℕ). out_of_transfer note e (if_last ts 0) z ++ es) (out_apart note e c made ts y)
    ∙ sym (append_assoc (out_of_transfer note e (if_last ts 0) z) (out_of note e None 0 ts) (out_of_transfer note e (unpublished c made y.qtds) y))

-- ---- what is out of it

pub its_out : (note : ℕ → NoteRuns) (e first : ℕ) (y : Transfer) → y.endpoint ≡ e → y.released ≡ false → y.reported ≡ false → out_of_transfer note e first y ≡ drop first (pieces_from note y.place y.left)
its_out note e first y at held waits =
    let all = drop (first + cond y.reported 1 0) (pieces_from note y.place y.left) in
    ap (λ (t : Bool). cond (t && not y.released) all []) (eq-eqb y.endpoint e at) ∙ ap (λ (t : Bool). cond (not t) all []) held
    ∙ ap (λ (t : Bool). drop (first + cond t 1 0) (pieces_from note y.place y.left)) waits
    ∙ ap (λ (k : ℕ). drop k (pieces_from note y.place y.left)) (let z : first + 0 ≡ first = omega arith in z)

-- ---- whose they are

pub record IsOutOf (owner : ℕ → Owner) (most a : ℕ) : Type 0 where
  pub block : ℕ
  pub at : a ≡ 32 * block
  pub transfer : ℕ
  pub below : transfer < most
  pub owned : owner block ≡ Element transfer

pub record IsPieceNumber (note : ℕ → NoteRuns) (b n a : ℕ) : Type 0 where
  pub number : ℕ
  pub below : number < n
  pub at : a ≡ 32 * piece_at note b number

pub among_pieces : (note : ℕ → NoteRuns) (b n a : ℕ) → IsAmong a (pieces_from note b n) → IsPieceNumber note b n a
among_pieces note b zero a among = absurd among
among_pieces note b (suc n) a (inl is) = record { number = 0; below = omega arith; at = is }
among_pieces note b (suc n) a (inr is) = let r = among_pieces note (note b).next n a is in record { number = suc r.number; below = let l = r.below in omega (arith, l); at = r.at }

among_drop : (k : ℕ) (xs : List ℕ) (a : ℕ) → IsAmong a (drop k xs) → IsAmong a xs
among_drop zero xs a among = among
among_drop (suc k) [] a among = among
among_drop (suc k) (x ∷ xs) a among = inr (among_drop k xs a among)

among_cond : (t : Bool) (xs : List ℕ) (a : ℕ) → IsAmong a (cond t xs []) → (t ≡ true) × IsAmong a xs
among_cond true xs a among = (refl, among)
among_cond false xs a among = absurd among

pub piece_owner : (slot : ℕ → Slot) (owner : ℕ → Owner) (note : ℕ → NoteRuns) (t b n i : ℕ) → ArePieces slot owner note t b n → i < n → owner (piece_at note b i) ≡ Element t
piece_owner slot owner note t b zero i pieces below = absurd (omega (arith, below))
piece_owner slot owner note t b (suc n) zero pieces below = pieces.0.element.owned
piece_owner slot owner note t b (suc n) (suc i) pieces below = piece_owner slot owner note t (note b).next n i pieces.1 (omega (arith, below))

-- a transfer whose qTDs have their owners, and whose place is one of them
pub record IsOwnedTransfer (slot : ℕ → Slot) (owner : ℕ → Owner) (note : ℕ → NoteRuns) (t : ℕ) (y : Transfer) : Type 0 where
  pub pieces : ArePieces slot owner note t y.first y.qtds
  pub most : y.left ≤ y.qtds
  pub place : y.place ≡ piece_at note y.first (y.qtds - y.left)

pub out_owner : (slot : ℕ → Slot) (owner : ℕ → Owner) (note : ℕ → NoteRuns) (e : ℕ) (ts : List Transfer) (k a : ℕ) → ((i : ℕ) (y : Transfer) → slice_get ts i ≡ Some y → y.released ≡ false → IsOwnedTransfer slot owner note (k + i) y) → IsAmong a (out_of note e None 0 ts) → IsOutOf owner (k + length ts) a
out_owner slot owner note e [] k a each among = absurd among
out_owner slot owner note e (y ∷ ts) k a each among =
    ⊎_elim
    (λ (mine : IsAmong a (out_of_transfer note e (if_last ts 0) y)).
    let c = among_cond (y.endpoint == e && not y.released) (drop (if_last ts 0 + cond y.reported 1 0) (pieces_from note y.place y.left)) a mine in
    let held = (waits_by (y.endpoint == e) y.released c.0).1 in
    let p = among_pieces note y.place y.left a (among_drop (if_last ts 0 + cond y.reported 1 0) (pieces_from note y.place y.left) a c.1) in
    let o = each 0 y refl held in
    let below = p.below in
    let most = o.most in
    let is : piece_at note y.place p.number ≡ piece_at note y.first ((y.qtds - y.left) + p.number) = ap (λ (b : ℕ). piece_at note b p.number) o.place ∙ piece_more note y.first (y.qtds - y.left) p.number in
    record {
      block = piece_at note y.place p.number;
      at = p.at;
      transfer = k + 0;
      below = omega arith;
      owned = ap owner is ∙ piece_owner slot owner note (k + 0) y.first y.qtds ((y.qtds - y.left) + p.number) o.pieces (omega (arith, below, most));
    })
    (λ (rest : IsAmong a (out_of note e None 0 ts)).
    let r = out_owner slot owner note e ts (suc k) a (λ i z there held. subst (λ (j : ℕ). IsOwnedTransfer slot owner note j z) (let f : k + suc i ≡ suc k + i = omega arith in f) (each (suc i) z there held)) rest in
    record { block = r.block; at = r.at; transfer = r.transfer; below = let b = r.below in omega (arith, b); owned = r.owned })
    (among_either a (out_of_transfer note e (if_last ts 0) y) (out_of note e None 0 ts) among)

-- a qTD of a transfer of this endpoint that wasn't given back
pub record IsQtdOf (note : ℕ → NoteRuns) (e : ℕ) (ts : List Transfer) (a : ℕ) : Type 0 where
  pub number : ℕ
  pub transfer : Transfer
  pub there : slice_get ts number ≡ Some transfer
  pub held : transfer.released ≡ false
  pub owner : transfer.endpoint ≡ e
  pub piece : IsPieceNumber note transfer.place transfer.left a

pub out_qtd : (note : ℕ → NoteRuns) (e : ℕ) (ts : List Transfer) (a : ℕ) → IsAmong a (out_of note e None 0 ts) → IsQtdOf note e ts a
out_qtd note e [] a among = absurd among
out_qtd note e (y ∷ ts) a among =
    ⊎_elim
    (λ (mine : IsAmong a (out_of_transfer note e (if_last ts 0) y)).
    let c = among_cond (y.endpoint == e && not y.released) (drop (if_last ts 0 + cond y.reported 1 0) (pieces_from note y.place y.left)) a mine in
    let both = waits_by (y.endpoint == e) y.released c.0 in
    record {
      number = 0;
      transfer = y;
      there = refl;
      held = both.1;
      owner = eqb-true y.endpoint e both.0;
      piece = among_pieces note y.place y.left a (among_drop (if_last ts 0 + cond y.reported 1 0) (pieces_from note y.place y.left) a c.1);
    })
    (λ (rest : IsAmong a (out_of note e None 0 ts)).
    let r = out_qtd note e ts a rest in
    record { number = suc r.number; transfer = r.transfer; there = r.there; held = r.held; owner = r.owner; piece = r.piece })
    (among_either a (out_of_transfer note e (if_last ts 0) y) (out_of note e None 0 ts) among)
