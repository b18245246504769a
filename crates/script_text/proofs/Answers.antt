-- How the answer to a line leads on.
use Rattle.std.proofs.Common.{◌≡◌, ℕ, ◌+◌, List, [], ◌∷◌, Option, Some, None, refl, ap, sym, ◌∙◌}
use Rattle.std.specs.Option.{option_map_or}
use Rattle.script_forms.specs.declared.causes.TextWhy.{TextWhy}
use Rattle.script_forms.specs.declared.statements.Statement.{Statement}
use Rattle.script_world.specs.Draft.{Draft}
use Rattle.script_world.specs.Rows.{cause_of, after, taken}
use Rattle.script_text.specs.Reading.{answer, said, line_read, lines_read, onward, outcome}

same_answer : (c : Option TextWhy) (w v : Draft) → answer c v ≡ answer c (option_map_or (λ why. w) c v)
same_answer None w v = refl
same_answer (Some why) w v = refl

-- what was taken is what the line says
pub said_is : (w : Draft) (n : ℕ) (s : Statement) (o : Option TextWhy) (v : Draft) → o ≡ cause_of w s → v ≡ taken w n s → said w n s ≡ answer o v
said_is w n s o v e h = same_answer (cause_of w s) w (after w n s) ∙ ap (answer (cause_of w s)) (sym h) ∙ ap (λ c. answer c v) (sym e)

-- a line without a cause, and the lines behind it
pub goes_on : (w v : Draft) (n : ℕ) (line : List ℕ) (lines rest : List (List ℕ)) → lines ≡ line ∷ rest → line_read w n line ≡ answer None v → lines_read w n lines ≡ lines_read v (n + 1) rest
goes_on w v n line lines rest e h = ap (lines_read w n) e ∙ ap (λ r. onward n r (λ u. lines_read u (n + 1) rest)) h

-- a line with a cause
pub ends_in : (w v : Draft) (n : ℕ) (line : List ℕ) (lines rest : List (List ℕ)) (why : TextWhy) → lines ≡ line ∷ rest → line_read w n line ≡ answer (Some why) v → lines_read w n lines ≡ outcome (Some (n, why)) v
ends_in w v n line lines rest why e h = ap (lines_read w n) e ∙ ap (λ r. onward n r (λ u. lines_read u (n + 1) rest)) h

-- the last line
pub all_read : (w v : Draft) (n : ℕ) (line : List ℕ) (lines : List (List ℕ)) → lines ≡ line ∷ [] → line_read w n line ≡ answer None v → lines_read w n lines ≡ outcome None v
all_read w v n line lines e h = ap (lines_read w n) e ∙ ap (λ r. onward n r (λ u. lines_read u (n + 1) [])) h
