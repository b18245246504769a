-- How long the entry of an interrupt endpoint is in the pipeline of its translator: as each microframe of the frame begins it ages, and
-- nothing that the host asks otherwise takes it out (USB 2.0, 11.14 and 11.18 to 11.21).
use Rattle.std.proofs.Common.{◌≡◌, ◌≢◌, ℕ, zero, suc, ◌-◌, ◌≤◌, Bool, true, false, if◌then◌else◌, List, [], ◌∷◌, Some, ap, refl, sym}
use Rattle.std.proofs.Common.{subst, ◌∙◌, arith}
use Rattle.std.proofs.Common.{⊎_elim, inl, inr, ◌⊎◌}
use Rattle.std.specs.List.{find}
use Rattle.std.proofs.lemmas.Bool.{cases_Bool}
use Rattle.std.proofs.lemmas.Option.{same_Some}
use Rattle.usb_base.specs.declared.packets.Ask.{Ask}
use Rattle.usb_base.specs.declared.packets.EpKind.TheVariants.{Interrupt}
use Rattle.usb_base.specs.declared.packets.Reply.{Reply}
use Rattle.hub_keys.specs.Keys.{key_of, is_same_key}
use Rattle.hub_keys.specs.declared.key.Key.{Key}
use Rattle.tt_pipeline.specs.declared.entry.Entry.{Entry}
use Rattle.tt_pipeline.specs.declared.rows.AnswerRow.{AnswerRow}
use Rattle.tt_pipeline.specs.declared.rows.AnswerRow.TheVariants as answers
use Rattle.tt_pipeline.specs.Answers.{answer_row, given_at, given, completed}
use Rattle.tt_pipeline.specs.Starting.{has_key, with_first, started}
use Rattle.tt_pipeline.specs.Work.{answered, is_due, moved}
use Rattle.tt_pipeline.specs.Working.{used_at, turned, turned_all, first_reply, later_replies}
use Rattle.law_translated.proofs.PipelineCalls.{find_here, find_later, other_start}

-- its start-split came so many microframes ago
pub record IsStaged (m : ℕ) (e : Entry) : Type 0 where
  pub kind : e.ask.kind ≡ Interrupt
  pub came : e.came.whole ≡ true
  pub before : 1 ≤ m → e.before.whole ≡ true
  pub heard : 2 ≤ m → e.heard.whole ≡ true

pub record HasStaged (m : ℕ) (k : Key) (es : List Entry) : Type 0 where
  pub entry : Entry
  pub there : find (has_key k) es ≡ Some entry
  pub staged : IsStaged m entry

-- ---- the entry at the key is another

-- each entry becomes one of the same key that is as old
record Keeps (m n : ℕ) (f : Entry → Entry) : Type 0 where
  key : (e : Entry) → (f e).key ≡ e.key
  stage : (e : Entry) → IsStaged m e → IsStaged n (f e)

same_has : (k : Key) (e y : Entry) → y.key ≡ e.key → has_key k y ≡ has_key k e
same_has k e y same = ap (λ (x : Key). is_same_key x k) same

first_staged : (m n : ℕ) (k : Key) (e y : Entry) (es ys : List Entry) → y.key ≡ e.key → (IsStaged m e → IsStaged n y)
    → (HasStaged m k es → HasStaged n k ys) → HasStaged m k (e ∷ es) → HasStaged n k (y ∷ ys)
first_staged m n k e y es ys same one rest h =
    ⊎_elim {C = HasStaged n k (y ∷ ys)}
    (λ (on : has_key k e ≡ true).
    let is : e ≡ h.entry = same_Some e h.entry (sym (find_here k e es on) ∙ h.there) in
    record { entry = y; there = find_here k y ys (same_has k e y same ∙ on); staged = one (subst (IsStaged m) (sym is) h.staged) })
    (λ (off : has_key k e ≡ false).
    let r : HasStaged n k ys =
    rest (record { entry = h.entry; there = sym (find_later k e es off) ∙ h.there; staged = h.staged }) in
    record { entry = r.entry; there = find_later k y ys (same_has k e y same ∙ off) ∙ r.there; staged = r.staged })
    (cases_Bool (has_key k e))

-- ---- a microframe begins

turned_key : (b : Bool) (reply : Reply) (e : Entry) → (answered b reply e).key ≡ e.key
turned_key true reply e = refl
turned_key false reply e = refl

turned_stage : (m : ℕ) (b : Bool) (reply : Reply) (room : ℕ) (e : Entry) → IsStaged m e → IsStaged (suc m) (answered b reply (moved room e))
turned_stage m true reply room e s = record {
  kind = s.kind;
  came = s.came;
  before = λ one. s.came;
  heard = λ two. s.before (omega (arith, two));
}
turned_stage m false reply room e s = record {
  kind = s.kind;
  came = s.came;
  before = λ one. s.came;
  heard = λ two. s.before (omega (arith, two));
}

pub turns_stage : (m : ℕ) (k : Key) (room : ℕ) (replies : List Reply) (es : List Entry) → HasStaged m k es
    → HasStaged (suc m) k (turned_all room replies es)
turns_stage m k room replies [] h = absurd (let none = h.there in cc)
turns_stage m k room replies (e ∷ es) h =
    first_staged m (suc m) k e (turned room (first_reply replies) e) es (turned_all (room - used_at room e) (later_replies replies) es)
    (turned_key (is_due (moved room e)) (first_reply replies) (moved room e))
    (turned_stage m (is_due (moved room e)) (first_reply replies) room e)
    (turns_stage m k (room - used_at room e) (later_replies replies) es) h

-- ---- a complete-split

given_key : (row : AnswerRow) (e : Entry) → (given_at row e).key ≡ e.key
given_key answers.NotYet e = refl
given_key answers.Result e = refl
given_key answers.Unheard e = refl
given_key answers.More e = refl
given_key answers.Last e = refl

given_stage : (m : ℕ) (row : AnswerRow) (e : Entry) → IsStaged m e → IsStaged m (given_at row e)
given_stage m answers.NotYet e s = s
given_stage m answers.Result e s = s
given_stage m answers.Unheard e s = s
given_stage m answers.More e s = record { kind = s.kind; came = s.came; before = s.before; heard = s.heard }
given_stage m answers.Last e s = record { kind = s.kind; came = s.came; before = s.before; heard = s.heard }

completed_by : (m : ℕ) (k a : Key) (e : Entry) (es : List Entry) (b : Bool) → (HasStaged m k es → HasStaged m k (with_first (has_key a) given es))
    → HasStaged m k (e ∷ es) → HasStaged m k (if b then given e ∷ es else e ∷ with_first (has_key a) given es)
completed_by m k a e es true rest h =
    first_staged m m k e (given e) es es (given_key (answer_row e) e) (given_stage m (answer_row e) e) (λ x. x) h
completed_by m k a e es false rest h = first_staged m m k e e es (with_first (has_key a) given es) refl (λ x. x) rest h

pub completes_stage : (m : ℕ) (k a : Key) (es : List Entry) → HasStaged m k es → HasStaged m k (completed a es)
completes_stage m k a [] h = h
completes_stage m k a (e ∷ es) h = completed_by m k a e es (has_key a e) (completes_stage m k a es) h

-- ---- a start-split of another key

pub other_start_stage : (m : ℕ) (k : Key) (ask : Ask) (bytes : List ℕ) (stuff : ℕ) (es : List Entry) → is_same_key (key_of ask) k ≡ false
    → HasStaged m k es → HasStaged m k (started ask bytes stuff es)
other_start_stage m k ask bytes stuff es apart h =
    record { entry = h.entry; there = (other_start k ask bytes stuff es apart).same ∙ h.there; staged = h.staged }
