-- The head of a load script and its devices.
use Rattle.std.proofs.Common.{◌≡◌, ℕ, suc, zero, ◌+◌, ◌-◌, ◌*◌, ◌<◌, ◌≤◌, Bool, true, false, List, [], ◌∷◌, ◌++◌, map, Option, Some, None, Ok, refl, sym, ap, ◌∙◌, subst, inl, inr, arith}
use Rattle.std.specs.Prelude.{◌==◌, ◌&&◌, nat_le, nat_lt, is_none, is_some, codes, if◌then◌else◌}
use Rattle.std.specs.Fmt.{digits, decimal}
use Rattle.std.specs.List.{range_with_len, find, AllByRecursion}
use Rattle.std.specs.Option.{option_and_then}
use Rattle.std.proofs.lemmas.Bool.{cond_both, cases_eq, agree_below_at, eq-eqb, ne_eqb, cond-true, cond-false}
use Rattle.usb_base.specs.declared.packets.Speed.TheVariants as speed
use Rattle.usb_base.specs.declared.endpoints.EpDesc.{EpDesc}
use Rattle.script_forms.specs.declared.causes.TextWhy.{TextWhy}
use Rattle.script_forms.specs.declared.table.FirstWord.{FirstWord}
use Rattle.script_forms.specs.declared.table.FirstWord.TheVariants as F
use Rattle.script_forms.specs.declared.table.Form.{Form}
use Rattle.script_forms.specs.declared.table.Form.TheVariants as form
use Rattle.script_forms.specs.declared.statements.Name.{Name}
use Rattle.script_forms.specs.declared.statements.Below.{Below}
use Rattle.script_forms.specs.declared.statements.Statement.{Statement}
use Rattle.script_forms.specs.declared.statements.Statement.TheVariants as says
use Rattle.script_forms.specs.Syntax.{number_of, hex_of}
use Rattle.script_forms.specs.Table.{first_in}
use Rattle.script_forms.specs.Fitting.{form_of}
use Rattle.script_forms.specs.Values.{statement_of}
use Rattle.script_world.specs.Draft.{Draft, Placed, empty, device_ep, device_of, ep_of}
use Rattle.script_world.specs.Ranges.{within}
use Rattle.script_world.specs.Rows.{cause_of, after, is_late, is_known}
use Rattle.script_text.specs.Reading.{said, line_read, lines_read, lines_in}
use Rattle.script_load.specs.Load.{device_line}
use Rattle.script_load.proofs.Spaced.{IsWord, IsPlain, Reads, spaced, lined, decimal_is_word, line_is, reads_line, reads_same, reads_pieces}
use Rattle.script_load.proofs.Said.{hub_text, hub_number, high_fits, high_value, full_fits, full_value, hub_word, word_dev, word_high, word_full}
use Rattle.script_load.proofs.Drafts.{site, load_name}
use Rattle.script_load.proofs.Declares.{IsDeclaring, IsSite}

-- ---- the head

abbrev pub start : Draft
start = after (after (record empty { words = Some 262144 }) 0 (says.Hub 101 5 false)) 0 (says.Hub 102 5 false)

pub head_read : (rest : List ℕ)
    → lines_read empty 1 (lines_in (codes "ehci 1\nmem 262144\nhub 101 5\nhub 102 5\n" ++ rest)) ≡ lines_read start 5 (lines_in rest)
unfolding form_of number_of hex_of statement_of digits
head_read rest = refl

-- ---- devices

-- at high speed or not; behind hub 101 or 102
abbrev port_of : ℕ → Bool → ℕ
port_of k c = if c then k - 10 else k - 15

abbrev device_said : ℕ → Bool → Bool → Statement
device_said k true c = says.DevHigh k
device_said k false c = says.DevBelow (record { addr = k; speed = speed.Full; hub = hub_number c; port = port_of k c })

abbrev device_words : ℕ → Bool → Bool → List (List ℕ)
device_words k true c = decimal k ∷ codes "high" ∷ []
device_words k false c = decimal k ∷ codes "full" ∷ hub_text c ∷ decimal (port_of k c) ∷ []

abbrev device_form : Bool → Form
device_form true = form.DevHigh
device_form false = form.DevFull

abbrev device_text : ℕ → Bool → Bool → List ℕ
device_text k b c =
    codes "dev " ++ (decimal k ++ ((if b then codes " high" else if c then codes " full 101 " ++ decimal
    (k - 10) else codes " full 102 " ++ decimal (k - 15)) ++ 10 ∷ []))

text_is : (k : ℕ) (b c : Bool) → lined (codes "dev") (device_words k b c) ≡ device_text k b c
text_is k true c = refl
text_is k false true = refl
text_is k false false = refl

module _ (k : ℕ) (from : 1 ≤ k) (to : k ≤ 20) where
  device_plain : (b c : Bool) → IsPlain (codes "dev") (device_words k b c)
  device_plain true c =
      record { first = word_dev; words = (decimal_is_word k (omega (arith, to)), (word_high, tt)); few = omega arith; says = refl }
  device_plain false true =
      record {
        first = word_dev;
        words = (
          decimal_is_word k (omega (arith, to)),
          (word_full, (hub_word true, (decimal_is_word (k - 10) (omega (arith, to)), tt))),
        );
        few = omega arith;
        says = refl;
      }
  device_plain false false =
      record {
        first = word_dev;
        words = (
          decimal_is_word k (omega (arith, to)),
          (word_full, (hub_word false, (decimal_is_word (k - 15) (omega (arith, to)), tt))),
        );
        few = omega arith;
        says = refl;
      }

  device_fits : (b c : Bool) → form_of 1 F.Dev (device_words k b c) ≡ Ok (device_form b)
  device_fits true c = high_fits k (omega (arith, to)) from (omega (arith, to))
  device_fits false true = full_fits k (omega (arith, to)) (k - 10) (omega (arith, to)) true from (omega (arith, to))
  device_fits false false = full_fits k (omega (arith, to)) (k - 15) (omega (arith, to)) false from (omega (arith, to))

  device_value : (b c : Bool) → statement_of (device_form b) (device_words k b c) ≡ device_said k b c
  device_value true c = high_value k (omega (arith, to))
  device_value false true = full_value k (omega (arith, to)) (k - 10) (omega (arith, to)) true
  device_value false false = full_value k (omega (arith, to)) (k - 15) (omega (arith, to)) false

  device_read : (w : Draft) (n : ℕ) (b c : Bool) → 2 ≤ n → w.version ≡ 1 → w.acting ≡ false
      → line_read w n (spaced (codes "dev") (device_words k b c)) ≡ said w n (device_said k b c)
  device_read w n b c le version idle =
      line_is w n (codes "dev") (device_words k b c) F.Dev (device_form b) (device_said k b c) le (device_plain b c) version refl idle
      (device_fits b c) (device_value b c)

-- ---- the devices so far

abbrev device_at : ℕ → Statement
device_at k = device_said k (nat_lt k 11) (nat_lt k 16)

pub placed : ℕ → Draft
placed zero = start
placed (suc k) = after (placed k) 0 (device_at (suc k))

pub placed_first : start ≡ placed 0
unfolding placed
placed_first = refl

record IsIdle (w : Draft) : Type 0 where
  version : w.version ≡ 1
  idle : w.acting ≡ false

stays_idle : (w : Draft) (k : ℕ) (b c : Bool) → IsIdle w → IsIdle (after w 0 (device_said k b c))
stays_idle w k true c h = cond_both (within 1 127 k) _ w IsIdle (λ _. record { version = h.version; idle = h.idle }) (λ _. h)
stays_idle w k false c h =
    let b : Below = record { addr = k; speed = speed.Full; hub = hub_number c; port = port_of k c } in
    cond_both (within 1 127 k && nat_le (hub_number c) 127 && is_known w (says.DevBelow b)) _ w IsIdle
    (λ _. record { version = h.version; idle = h.idle }) (λ _. h)

placed_idle : (k : ℕ) → IsIdle (placed k)
unfolding placed
placed_idle zero = record { version = refl; idle = refl }
placed_idle (suc k) = stays_idle (placed k) (suc k) (nat_lt (suc k) 11) (nat_lt (suc k) 16) (placed_idle k)

none_of : {X : Type 0} (o : Option X) → is_none o ≡ true → o ≡ None
none_of None e = refl
none_of (Some x) e = cc

-- none of the twenty lines has a cause
no_cause : (k : ℕ) → k < 20 → cause_of (placed k) (device_at (suc k)) ≡ None
unfolding placed
no_cause k lt =
    none_of (cause_of (placed k) (device_at (suc k)))
    (agree_below_at (λ j. is_none (cause_of (placed j) (device_at (suc j)))) (λ _. true) 20 k refl lt)

same_after : (w : Draft) (n k : ℕ) (b c : Bool) → after w n (device_said k b c) ≡ after w 0 (device_said k b c)
same_after w n k true c = refl
same_after w n k false c = refl

abbrev IsPlaced : ℕ → Draft → Type 0
IsPlaced k w = w ≡ placed k

next_is : (n k : ℕ) → placed (suc k) ≡ after (placed k) n (device_at (suc k))
unfolding placed
next_is n k = sym (same_after (placed k) n (suc k) (nat_lt (suc k) 11) (nat_lt (suc k) 16))

pub next_device : (k n : ℕ) → k < 20 → 2 ≤ n → Reads (IsPlaced (suc k)) (placed k) n 1 (device_line (suc k))
next_device k n lt le =
    let idle = placed_idle k in
    reads_same (IsPlaced (suc k)) (placed k) n 1 (lined (codes "dev") (device_words (suc k) (nat_lt (suc k) 11) (nat_lt (suc k) 16)))
    (device_line (suc k))
    (text_is (suc k) (nat_lt (suc k) 11) (nat_lt (suc k) 16))
    (reads_line (IsPlaced (suc k)) (placed k) (placed (suc k)) n (codes "dev")
    (device_words (suc k) (nat_lt (suc k) 11) (nat_lt (suc k) 16)) (device_at (suc k)) le
    (device_plain (suc k) (omega arith) (omega (arith, lt)) (nat_lt (suc k) 11) (nat_lt (suc k) 16))
    (device_read (suc k) (omega arith) (omega (arith, lt)) (placed k) n (nat_lt (suc k) 11) (nat_lt (suc k) 16) le idle.version idle.idle)
    (no_cause k lt) (next_is n k) refl)

-- ---- all devices

devices_are : (placed 20).devices ≡ map site (range_with_len 1 20)
unfolding placed
devices_are = refl

no_eps : (m : Name) (i n : ℕ)
    → option_and_then (λ (d : Placed). ep_of d.eps m) (find (λ d. d.addr == m.addr) (map site (range_with_len i n))) ≡ None
no_eps m i zero = refl
no_eps m i (suc n) =
    cond_both (i == m.addr) (Some (site i)) (find (λ (d : Placed). d.addr == m.addr) (map site (range_with_len (i + 1) n)))
    (λ o. option_and_then (λ (d : Placed). ep_of d.eps m) o ≡ None)
    (λ _. refl) (λ _. no_eps m (i + 1) n)

find_site : (a i n : ℕ) → i ≤ a → a < i + n → find (λ (d : Placed). d.addr == a) (map site (range_with_len i n)) ≡ Some (site a)
find_site a i zero from to = absurd (omega (arith, from, to))
find_site a i (suc n) from to =
    elim (cases_eq i a) [
      | inl e ↦ cond-true (i == a) (Some (site i)) _ (eq-eqb i a e) ∙ ap (λ j. Some (site j)) e
      | inr ne ↦ cond-false (i == a) (Some (site i)) _ (ne_eqb i a ne) ∙ find_site a (i + 1) n (omega (arith, from, ne)) (omega (arith, to))
    ]

pub devices_declared : (ds : List ℕ) → IsDeclaring ds 0 (placed 20)
unfolding placed
devices_declared ds = record {
  version = refl;
  idle = refl;
  sites = λ a from to. record {
    device = site a;
    found = ap (λ ps. device_of ps a) devices_are ∙ find_site a 1 20 from (omega (arith, to));
    same = refl;
  };
  done = λ i lt _. absurd (omega (arith, lt));
  free = λ i _ _. ap (λ ps. option_and_then (λ (d : Placed). ep_of d.eps (load_name i)) (device_of ps (load_name i).addr)) devices_are
      ∙ no_eps (load_name i) 1 20;
  few = omega arith;
  commands = refl;
  scripted = refl;
  asked = refl;
  steps = refl;
  microframes = refl;
  lines = refl;
}
