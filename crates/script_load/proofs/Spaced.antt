-- Lines of words with one space between two of them: how they are read, one after the other.
use Rattle.std.proofs.Common.{◌≡◌, ℕ, suc, zero, ◌+◌, ◌*◌, ◌<◌, ◌≤◌, ◌^◌, Bool, true, false, List, [], ◌∷◌, ◌++◌, length, Option, Some, None, Result, Ok, Err, refl, sym, ap, ◌∙◌, subst, append_assoc, length-append, arith}
use Rattle.std.specs.Prelude.{◌==◌, ◌&&◌, ◌||◌, ◌%◌, ◌/◌, not, nat_le, nat_lt, if◌then◌else◌}
use Rattle.std.specs.Fmt.{decimal}
use Rattle.std.specs.List.{slice_split, onto_first, list_all, list_any, flat_map, range_with_len, AllByRecursion}
use Rattle.std.proofs.lemmas.Bool.{and_parts, and_from, or_from, cond-true, cond-false, leb-true, le-leb, le-ltb, ne_eqb, not_from_true}
use Rattle.std.proofs.lemmas.List.Folds.{list_all-append}
use Rattle.std.proofs.lemmas.Fmt.{decimal_by_steps, length-decimal-le}
use Rattle.script_forms.specs.declared.causes.TextWhy.{TextWhy}
use Rattle.script_forms.specs.declared.table.FirstWord.{FirstWord}
use Rattle.script_forms.specs.declared.table.Form.{Form}
use Rattle.script_forms.specs.declared.statements.Statement.{Statement}
use Rattle.script_forms.specs.Table.{first_in}
use Rattle.script_forms.specs.Fitting.{form_of}
use Rattle.script_forms.specs.Values.{statement_of}
use Rattle.script_world.specs.Draft.{Draft}
use Rattle.script_world.specs.Ranges.{in_range}
use Rattle.script_world.specs.Rows.{cause_of, is_known, is_twice, has_room, is_late, after}
use Rattle.script_text.specs.Reading.{lines_in, words_in, says, may_stand, no_bytes, answer, said, first_read, words_read, line_read, onward, lines_read}

-- ---- words

-- a byte that a word may have
abbrev pub is_inner : ℕ → Bool
is_inner b = nat_le 33 b && nat_le b 126

pub record IsWord (w : List ℕ) : Type 0 where
  pub inner : list_all is_inner w ≡ true
  pub some : no_bytes w ≡ false
  pub short : length w ≤ 16

no_space : (b : ℕ) → is_inner b ≡ true → (b == 32) ≡ false
no_space b e = ne_eqb b 32 (λ is. omega (arith, leb-true 33 b (and_parts (nat_le 33 b) (nat_le b 126) e).0, is))

stands : (b : ℕ) → is_inner b ≡ true → may_stand b ≡ true
stands b e =
    let p = and_parts (nat_le 33 b) (nat_le b 126) e in
    and_from (nat_le 32 b) (nat_le b 126) (le-leb 32 b (omega (arith, leb-true 33 b p.0))) p.1

no_feed : (b : ℕ) → may_stand b ≡ true → (b == 10) ≡ false
no_feed b e = ne_eqb b 10 (λ is. omega (arith, leb-true 32 b (and_parts (nat_le 32 b) (nat_le b 126) e).0, is))

all_stand : (w : List ℕ) → list_all is_inner w ≡ true → list_all may_stand w ≡ true
all_stand [] h = refl
all_stand (b ∷ w) h =
    let p = and_parts (is_inner b) (list_all is_inner w) h in and_from (may_stand b) (list_all may_stand w) (stands b p.0) (all_stand w p.1)

-- the digits of a number are a word
abbrev HasBytes : ℕ → List ℕ → Type 0
HasBytes n w = (list_all is_inner w ≡ true) × (no_bytes w ≡ false)

is_digit : (n : ℕ) → n < 10 → list_all is_inner ((48 + n) ∷ []) ≡ true
is_digit n h =
    and_from (is_inner (48 + n)) true
    (and_from (nat_le 33 (48 + n)) (nat_le (48 + n) 126) (le-leb _ _ (omega arith)) (le-leb _ _ (omega (arith, h)))) refl

not_empty : (xs : List ℕ) (y : ℕ) → no_bytes (xs ++ y ∷ []) ≡ false
not_empty [] y = refl
not_empty (x ∷ xs) y = refl

decimal_bytes : (n : ℕ) → n < 2 ^ 64 → HasBytes n (decimal n)
decimal_bytes n h =
    decimal_by_steps HasBytes (λ m le. (is_digit m le, refl))
    (λ m ds le is. (
      list_all-append is_inner ds ((48 + m % 10) ∷ [])
          ∙ and_from (list_all is_inner ds) _ is.0 (is_digit (m % 10) (omega arith)),
      not_empty ds (48 + m % 10),
    )) n h

pub decimal_is_word : (n : ℕ) → n < 1000000 → IsWord (decimal n)
decimal_is_word n h =
    let p = decimal_bytes n (omega (arith, h)) in
    record { inner = p.0; some = p.1; short = omega (arith, length-decimal-le 6 n (omega arith) (omega (arith, h)) (omega (arith, h))) }

-- ---- a line of words

abbrev pub spaced : List ℕ → List (List ℕ) → List ℕ
spaced w [] = w
spaced w (v ∷ vs) = w ++ 32 ∷ spaced v vs

-- with its line feed
abbrev pub lined : List ℕ → List (List ℕ) → List ℕ
lined w [] = w ++ 10 ∷ []
lined w (v ∷ vs) = w ++ 32 ∷ lined v vs

lined_is : (w : List ℕ) (vs : List (List ℕ)) → lined w vs ≡ spaced w vs ++ 10 ∷ []
lined_is w [] = refl
lined_is w (v ∷ vs) = ap (λ l. w ++ 32 ∷ l) (lined_is v vs) ∙ sym (append_assoc w (32 ∷ spaced v vs) (10 ∷ []))

module _ (p : ℕ → Bool) (mark : ℕ) (is : p mark ≡ true) where
  split_at : (w rest : List ℕ) → list_all (λ b. not (p b)) w ≡ true → slice_split p (w ++ mark ∷ rest) ≡ w ∷ slice_split p rest
  split_at [] rest h = cond-true (p mark) _ _ is
  split_at (b ∷ w) rest h =
      let k = and_parts (not (p b)) (list_all (λ b. not (p b)) w) h in
      cond-false (p b) _ _ (is_not (p b) k.0) ∙ ap (onto_first b) (split_at w rest k.1)
    where
      is_not : (b : Bool) → not b ≡ true → b ≡ false
      is_not false e = refl
      is_not true e = cc

  split_end : (w : List ℕ) → list_all (λ b. not (p b)) w ≡ true → slice_split p w ≡ w ∷ []
  split_end [] h = refl
  split_end (b ∷ w) h =
      let k = and_parts (not (p b)) (list_all (λ b. not (p b)) w) h in
      cond-false (p b) _ _ (is_not (p b) k.0) ∙ ap (onto_first b) (split_end w k.1)
    where
      is_not : (b : Bool) → not b ≡ true → b ≡ false
      is_not false e = refl
      is_not true e = cc

lacks : (p q : ℕ → Bool) (w : List ℕ) → ((b : ℕ) → p b ≡ true → q b ≡ false) → list_all p w ≡ true → list_all (λ b. not (q b)) w ≡ true
lacks p q [] f h = refl
lacks p q (b ∷ w) f h =
    let k = and_parts (p b) (list_all p w) h in
    and_from (not (q b)) (list_all (λ b. not (q b)) w) (ap not (f b k.0)) (lacks p q w f k.1)

pub words_of_spaced : (w : List ℕ) (vs : List (List ℕ)) → IsWord w → AllByRecursion IsWord vs → words_in (spaced w vs) ≡ w ∷ vs
words_of_spaced w [] h k = split_end (λ b. b == 32) 32 refl w (lacks is_inner (λ b. b == 32) w no_space h.inner)
words_of_spaced w (v ∷ vs) h k =
    split_at (λ b. b == 32) 32 refl w (spaced v vs) (lacks is_inner (λ b. b == 32) w no_space h.inner)
    ∙ ap (λ ws. w ∷ ws) (words_of_spaced v vs k.0 k.1)

spaced_stands : (w : List ℕ) (vs : List (List ℕ)) → IsWord w → AllByRecursion IsWord vs → list_all may_stand (spaced w vs) ≡ true
spaced_stands w [] h k = all_stand w h.inner
spaced_stands w (v ∷ vs) h k =
    list_all-append may_stand w (32 ∷ spaced v vs)
    ∙ and_from (list_all may_stand w) (list_all may_stand (32 ∷ spaced v vs)) (all_stand w h.inner)
    (and_from (may_stand 32) (list_all may_stand (spaced v vs)) refl (spaced_stands v vs k.0 k.1))

spaced_short : (w : List ℕ) (vs : List (List ℕ)) → IsWord w → AllByRecursion IsWord vs → length (spaced w vs) ≤ 16 + 17 * length vs
spaced_short w [] h k = omega (arith, h.short)
spaced_short w (v ∷ vs) h k = omega (arith, h.short, spaced_short v vs k.0 k.1, length-append w (32 ∷ spaced v vs))

none_empty : (vs : List (List ℕ)) → AllByRecursion IsWord vs → list_any no_bytes vs ≡ false
none_empty [] k = refl
none_empty (v ∷ vs) k = or_from (no_bytes v) (list_any no_bytes vs) k.0.some (none_empty vs k.1)

pub one_line : (w : List ℕ) (vs : List (List ℕ)) (rest : List ℕ) → IsWord w → AllByRecursion IsWord vs
    → lines_in (lined w vs ++ rest) ≡ spaced w vs ∷ lines_in rest
one_line w vs rest h k =
    ap lines_in (ap (λ l. l ++ rest) (lined_is w vs) ∙ append_assoc (spaced w vs) (10 ∷ []) rest)
    ∙ split_at (λ b. b == 10) 10 refl (spaced w vs) rest (lacks may_stand (λ b. b == 10) (spaced w vs) no_feed (spaced_stands w vs h k))

-- ---- what a line of words says

-- the line has at most eight words, and its first isn't a mark of a line that says nothing
pub record IsPlain (c : List ℕ) (vs : List (List ℕ)) : Type 0 where
  pub first : IsWord c
  pub words : AllByRecursion IsWord vs
  pub few : length vs ≤ 7
  pub says : says (spaced c vs) ≡ true

plain_read : (w : Draft) (n : ℕ) (c : List ℕ) (vs : List (List ℕ)) → 2 ≤ n → IsPlain c vs
    → line_read w n (spaced c vs) ≡ words_read w n (c ∷ vs)
plain_read w n c vs le h =
    cond-false (nat_lt 65535 (length (spaced c vs))) _ _
    (le-ltb 65535 (length (spaced c vs)) (omega (arith, spaced_short c vs h.first h.words, h.few)))
    ∙ cond-false (not (list_all may_stand (spaced c vs))) _ _ (not_from_true _ (spaced_stands c vs h.first h.words))
    ∙ cond-false (n == 1) _ _ (ne_eqb n 1 (λ e. omega (arith, le, e)))
    ∙ cond-true (says (spaced c vs)) _ _ h.says
    ∙ ap (words_read w n) (words_of_spaced c vs h.first h.words)

pub line_says : (w : Draft) (n : ℕ) (c : List ℕ) (vs : List (List ℕ)) (f : FirstWord) (form : Form) → 2 ≤ n → IsPlain c vs
    → first_in w.version c ≡ Some f → is_late w f ≡ false → form_of w.version f vs ≡ Ok form
    → line_read w n (spaced c vs) ≡ said w n (statement_of form vs)
line_says w n c vs f form le h first late fits =
    plain_read w n c vs le h
    ∙ cond-false (list_any no_bytes (c ∷ vs)) _ _ (none_empty (c ∷ vs) (h.first, h.words))
    ∙ ap (first_read w n vs) first
    ∙ cond-false (is_late w f) _ _ late
    ∙ rw fits refl

-- a line that version 1 has
pub line_is : (w : Draft) (n : ℕ) (c : List ℕ) (vs : List (List ℕ)) (f : FirstWord) (form : Form) (s : Statement) → 2 ≤ n → IsPlain c vs
    → w.version ≡ 1
    → first_in 1 c ≡ Some f → is_late w f ≡ false → form_of 1 f vs ≡ Ok form → statement_of form vs ≡ s
    → line_read w n (spaced c vs) ≡ said w n s
line_is w n c vs f form s le h version first late fits value =
    line_says w n c vs f form le h (ap (λ v. first_in v c) version ∙ first) late (ap (λ v. form_of v f vs) version ∙ fits)
    ∙ ap (said w n) value

pub has_no_cause : (w : Draft) (s : Statement) → in_range w s ≡ true → is_known w s ≡ true → is_twice w s ≡ false → has_room w s ≡ true
    → cause_of w s ≡ None
has_no_cause w s a b c d = rw (a, b, c, d) refl

-- ---- lines one after the other

-- The text is at most k lines, from line n on, and they leave a script of which P holds.
pub record Reads (P : Draft → Type 0) (w : Draft) (n k : ℕ) (text : List ℕ) : Type 0 where
  pub draft : Draft
  pub line : ℕ
  pub later : 2 ≤ line
  pub holds : P draft
  pub reads : (rest : List ℕ) → lines_read w n (lines_in (text ++ rest)) ≡ lines_read draft line (lines_in rest)
  pub size : length text ≤ 136 * k

lined_short : (w : List ℕ) (vs : List (List ℕ)) → IsPlain w vs → length (lined w vs) ≤ 136 * 1
lined_short w vs h =
    omega (arith, ap length (lined_is w vs), length-append (spaced w vs) (10 ∷ []), spaced_short w vs h.first h.words, h.few)

pub reads_line : (P : Draft → Type 0) (w v : Draft) (n : ℕ) (c : List ℕ) (vs : List (List ℕ)) (s : Statement) → 2 ≤ n → IsPlain c vs
    → line_read w n (spaced c vs) ≡ said w n s → cause_of w s ≡ None → v ≡ after w n s → P v → Reads P w n 1 (lined c vs)
reads_line P w v n c vs s le h read none is holds = record {
  draft = v;
  line = n + 1;
  later = omega (arith, le);
  holds = holds;
  reads = λ rest.
      ap (lines_read w n) (one_line c vs rest h.first h.words)
      ∙ ap (λ r. onward n r (λ u. lines_read u (n + 1) (lines_in rest))) (read ∙ ap (λ o. answer o (after w n s)) none ∙ ap Ok (sym is));
  size = lined_short c vs h;
}

pub reads_nothing : (P : Draft → Type 0) (w : Draft) (n k : ℕ) → 2 ≤ n → P w → Reads P w n k []
reads_nothing P w n k le holds = record { draft = w; line = n; later = le; holds = holds; reads = λ rest. refl; size = omega arith }

pub reads_both : (P Q : Draft → Type 0) (w : Draft) (n a b k : ℕ) (s t : List ℕ) → k ≡ a + b → Reads P w n a s
    → ((v : Draft) (m : ℕ) → 2 ≤ m → P v → Reads Q v m b t) → Reads Q w n k (s ++ t)
reads_both P Q w n a b k s t e h next =
    let g = next h.draft h.line h.later h.holds in
    record {
      draft = g.draft;
      line = g.line;
      later = g.later;
      holds = g.holds;
      reads = λ rest. ap (λ l. lines_read w n (lines_in l)) (append_assoc s t rest) ∙ h.reads (t ++ rest) ∙ g.reads rest;
      size = omega (arith, length-append s t, h.size, g.size, e);
    }

pub reads_same : (P : Draft → Type 0) (w : Draft) (n k : ℕ) (s t : List ℕ) → s ≡ t → Reads P w n k s → Reads P w n k t
reads_same P w n k s t e h = subst (Reads P w n k) e h

-- pieces from i on, of at most d lines each, of which each leads on
pub reads_pieces : (I : ℕ → Draft → Type 0) (f : ℕ → List ℕ) (most d : ℕ)
    → ((i n : ℕ) (w : Draft) → i < most → 2 ≤ n → I i w → Reads (I (i + 1)) w n d (f i))
    → (m i k n : ℕ) (w : Draft) → i + m ≡ most → k ≡ m * d → 2 ≤ n → I i w → Reads (I most) w n k (flat_map f (range_with_len i m))
reads_pieces I f most d step zero i k n w e few le h =
    reads_nothing (I most) w n k le (subst (λ j. I j w) (omega (arith, e)) h)
reads_pieces I f most d step (suc m) i k n w e few le h =
    reads_both (I (i + 1)) (I most) w n d (m * d) k (f i) (flat_map f (range_with_len (i + 1) m)) (few ∙ suc_times m d)
    (step i n w (omega (arith, e)) le h)
    (λ v j later holds. reads_pieces I f most d step m (i + 1) (m * d) j v (omega (arith, e)) refl later holds)
  where
    suc_times : (m d : ℕ) → suc m * d ≡ d + m * d
    suc_times m d = omega arith
