-- Lemmas that several files need.
use Rattle.std.proofs.Common.{Option, ℕ, List, suc, ◌∷◌, ◌≡◌, None, refl, Some, Bool}
use Rattle.multi_tt.specs.Translators.{Translator, put_if}
use Rattle.law_translated.specs.OutPipes.{Line, IsAhead}

pub later_at : (o : Option Translator) (place : ℕ) (f : Translator → Translator) (t : Translator) (ts : List Translator)
    → put_if o (suc place) f (t ∷ ts) ≡ t ∷ put_if o place f ts
later_at None place f t ts = refl
later_at (Some x) place f t ts = refl

pub ahead_ended : (s : Line) (b : Bool) → IsAhead s → IsAhead (record s { going = b })
ahead_ended s b h = record { next = h.next; later = h.later; rest = h.rest; taken = h.taken }
