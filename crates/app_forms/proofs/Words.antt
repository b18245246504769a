-- Words have one form at most.
use Rattle.std.proofs.Common.{◌≡◌, ℕ, List, [], ◌∷◌, refl, sym, subst, ap, ◌∙◌, arith}
use Rattle.script_forms.proofs.Decimals.{decimal_once}
use Rattle.app_forms.specs.Form.{words_of, AreWordsOf}
use Rattle.app_forms.specs.declared.form.Form.{Form}
use Rattle.app_forms.specs.declared.form.Form.TheVariants.{Run, Image, Check, Dump, Load}

-- the first letter
abbrev letter : List (List ℕ) → ℕ
letter [] = 0
letter ([] ∷ words) = 0
letter ((b ∷ bs) ∷ words) = b

-- the second word
abbrev second : List (List ℕ) → List ℕ
second (a ∷ b ∷ words) = b
second _ = []

same_words : (words : List (List ℕ)) (a b : Form) → AreWordsOf words a → AreWordsOf words b → words_of a ≡ words_of b
same_words words a b p q = sym p.spelled ∙ q.spelled

apart : (a b : Form) → letter (words_of a) ≡ letter (words_of b) → ((m n : ℕ) → a ≡ Load m → b ≡ Load n → m ≡ n) → a ≡ b
apart Run Run e h = refl
apart Image Image e h = refl
apart Check Check e h = refl
apart Dump Dump e h = refl
apart (Load m) (Load n) e h = ap Load (h m n refl refl)
apart Run Image e h = absurd (omega (arith, e))
apart Run Check e h = absurd (omega (arith, e))
apart Run Dump e h = absurd (omega (arith, e))
apart Run (Load n) e h = absurd (omega (arith, e))
apart Image Run e h = absurd (omega (arith, e))
apart Image Check e h = absurd (omega (arith, e))
apart Image Dump e h = absurd (omega (arith, e))
apart Image (Load n) e h = absurd (omega (arith, e))
apart Check Run e h = absurd (omega (arith, e))
apart Check Image e h = absurd (omega (arith, e))
apart Check Dump e h = absurd (omega (arith, e))
apart Check (Load n) e h = absurd (omega (arith, e))
apart Dump Run e h = absurd (omega (arith, e))
apart Dump Image e h = absurd (omega (arith, e))
apart Dump Check e h = absurd (omega (arith, e))
apart Dump (Load n) e h = absurd (omega (arith, e))
apart (Load m) Run e h = absurd (omega (arith, e))
apart (Load m) Image e h = absurd (omega (arith, e))
apart (Load m) Check e h = absurd (omega (arith, e))
apart (Load m) Dump e h = absurd (omega (arith, e))

pub loads_once : (words : List (List ℕ)) (m n : ℕ) → AreWordsOf words (Load m) → AreWordsOf words (Load n) → m ≡ n
loads_once words m n p q = decimal_once m n (omega (arith, p.ranged)) (omega (arith, q.ranged)) (ap second (same_words words (Load m) (Load n) p q))

pub forms_once : (words : List (List ℕ)) (a b : Form) → AreWordsOf words a → AreWordsOf words b → a ≡ b
forms_once words a b p q =
    apart a b (ap letter (same_words words a b p q)) (λ m n e f. loads_once words m n (subst (AreWordsOf words) e p) (subst (AreWordsOf words) f q))
