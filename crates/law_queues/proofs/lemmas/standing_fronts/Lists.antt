-- Which qTDs are out, told by their transfers.
use Rattle.std.proofs.Common.{◌≡◌, ℕ, zero, suc, ◌+◌, ◌*◌, ◌&&◌, not, ◌<◌, ◌≤◌, Bool, if◌then◌else◌, List, [], ◌∷◌, drop, slice_get, Some, ap, refl, sym, subst, ◌∙◌, inl, inr, arith}
use Rattle.std.proofs.lemmas.Bool.{eq-eqb}
use Rattle.law_queues.proofs.Common.{among_left, among_right}
use Rattle.drv_table.specs.declared.content.Transfer.{Transfer}
use Rattle.claims_driver.specs.Owners.{NoteRuns}
use Rattle.law_driver.specs.chained_transfers.Chains.{piece_at}
use Rattle.law_driver.specs.chained_transfers.Out.{pieces_from, passed, out_of_transfer}
use Rattle.law_driver.proofs.lemmas.chained_transfers.Chained.{piece_same}
use Rattle.law_ring.specs.Order.{IsAmong}
use Rattle.law_queues.proofs.lemmas.released_queues.Outs.{out_plain, IsDropped, IsOutOf}

pub dropped_among : (note : ℕ → NoteRuns) (b m l j : ℕ) → m ≤ j → j < l → IsAmong (32 * piece_at note b j) (drop m (pieces_from note b l))
dropped_among note b m zero j from below = absurd (omega (arith, below))
dropped_among note b zero (suc l) zero from below = inl refl
dropped_among note b zero (suc l) (suc j) from below = inr (dropped_among note (note b).next zero l j (omega arith) (omega (arith, below)))
dropped_among note b (suc m) (suc l) zero from below = absurd (omega (arith, from))
dropped_among note b (suc m) (suc l) (suc j) from below = dropped_among note (note b).next m l j (omega (arith, from)) (omega (arith, below))

pub one_out : (note : ℕ → NoteRuns) (e : ℕ) (y : Transfer) (a : ℕ) → IsOutOf note e y a → IsAmong a (out_of_transfer note e 0 y)
one_out note e y a is =
    subst (λ (i : ℕ). IsAmong i (out_of_transfer note e 0 y)) (sym is.dropped.at)
    (subst (λ (b : Bool). IsAmong (32 * piece_at note y.place is.dropped.number) (if b then drop (0 + passed y.reported) (pieces_from note y.place y.left) else []))
    (sym (ap (λ (b : Bool). b && not y.released) (eq-eqb y.endpoint e is.endpoint) ∙ ap not is.held))
    (dropped_among note y.place (0 + passed y.reported) y.left is.dropped.number is.dropped.from is.dropped.below))

pub in_out : (note : ℕ → NoteRuns) (e : ℕ) (ts : List Transfer) (u a : ℕ) (z : Transfer) → slice_get ts u ≡ Some z → IsOutOf note e z a → IsAmong a (out_plain note e ts)
in_out note e [] u a z here is = absurd (cc)
in_out note e (r ∷ rs) zero a z here is = among_left a (out_of_transfer note e 0 r) (out_plain note e rs) (one_out note e r a (subst (λ (i : Transfer). IsOutOf note e i a) (sym (first r z here)) is))
  where
    first : (r z : Transfer) → Some r ≡ Some z → r ≡ z
    first r z same = cc
in_out note e (r ∷ rs) (suc u) a z here is = among_right a (out_of_transfer note e 0 r) (out_plain note e rs) (in_out note e rs u a z here is)

-- where notes lead alike
pub dropped_same : (note other : ℕ → NoteRuns) (b m l a : ℕ) → ((c : ℕ) → other c ≡ note c) → IsDropped other b m l a → IsDropped note b m l a
dropped_same note other b m l a same k = record { number = k.number; from = k.from; below = k.below; at = k.at ∙ ap (λ (c : ℕ). 32 * c) (piece_same note other b k.number same) }
