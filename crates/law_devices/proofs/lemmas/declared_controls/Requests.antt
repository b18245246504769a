-- The requests that lines make.
use Rattle.std.proofs.Common.{◌≡◌, ℕ, Bool, true, false, List, [], ◌∷◌, length, Option, Some, None, refl, sym, ap, ◌∙◌, arith}
use Rattle.std.specs.Prelude.{◌==◌, ◌&&◌, if◌then◌else◌, nat_lt, nat_le, replicate, slice_index, unwrap_or}
use Rattle.std.specs.Option.{option_map_or}
use Rattle.std.proofs.lemmas.Bool.{cond_both, and_parts, eqb-true}
use Rattle.dev_control.specs.Stages.{is_read, wanted_of}
use Rattle.script_forms.specs.declared.table.Form.{Form}
use Rattle.script_forms.specs.declared.table.Form.TheVariants as form
use Rattle.script_forms.specs.declared.statements.ControlLine.{ControlLine}
use Rattle.script_forms.specs.declared.statements.Statement.{Statement}
use Rattle.script_forms.specs.declared.statements.Statement.TheVariants as says
use Rattle.script_forms.specs.Values.{bytes_at, eight_of, statement_of}
use Rattle.script_world.specs.Ranges.{out_len, control_ranged}
use Rattle.law_request.specs.Windows.{IsRequest}

-- the bytes of a request are as many as it announces
pub record IsMeasured (setup bytes : List ℕ) : Type 0 where
  pub request : IsRequest (record { setup = setup; bytes = bytes })
  pub read : is_read setup ≡ true → bytes ≡ []

-- ---- eight setup bytes

abbrev pub IsEight : Statement → Type 0
IsEight (says.Mem n) = Unit {0}
IsEight (says.Hub addr ports multi) = Unit {0}
IsEight (says.DevHigh addr) = Unit {0}
IsEight (says.DevBelow b) = Unit {0}
IsEight (says.Ep l) = Unit {0}
IsEight (says.Reply name a) = Unit {0}
IsEight (says.Fate f) = Unit {0}
IsEight (says.Stuff name p) = Unit {0}
IsEight (says.Hold first last) = Unit {0}
IsEight (says.Open name) = Unit {0}
IsEight (says.Cancel name) = Unit {0}
IsEight (says.Clear name) = Unit {0}
IsEight (says.Get l) = Unit {0}
IsEight (says.Put l) = Unit {0}
IsEight (says.Control c) = length c.setup ≡ 8
IsEight (says.Iso l) = Unit {0}
IsEight (says.Order event n) = Unit {0}
IsEight (says.Micro n) = Unit {0}
IsEight says.Unbuilt = Unit {0}

eight : (bytes : List ℕ) → length (eight_of bytes) ≡ 8
eight bytes = cond_both (length bytes == 8) bytes (replicate 8 0) (λ xs. length xs ≡ 8) (λ e. eqb-true (length bytes) 8 e) (λ _. refl)

pub form_eight : (f : Form) (ws : List (List ℕ)) → IsEight (statement_of f ws)
unfolding statement_of
form_eight form.Control ws = eight (bytes_at 1 ws)
form_eight form.ControlData ws = eight (bytes_at 1 ws)
form_eight _ ws = tt

-- ---- the bytes of its data stage

not_below : (a : ℕ) → nat_le 128 a ≡ true → nat_lt a 128 ≡ false
not_below a e = grind arith

below : (a : ℕ) → nat_le 128 a ≡ false → nat_lt a 128 ≡ true
below a e = grind arith

read_len : (setup : List ℕ) → is_read setup ≡ true → out_len setup ≡ 0
read_len setup e = ap (λ (b : Bool). if b then wanted_of setup else 0) (not_below (slice_index setup 0) e)

write_len : (setup : List ℕ) → is_read setup ≡ false → out_len setup ≡ wanted_of setup
write_len setup e = ap (λ (b : Bool). if b then wanted_of setup else 0) (below (slice_index setup 0) e)

some_bytes : (bytes : List ℕ) (n : ℕ) → nat_lt 0 (length bytes) ≡ true → length bytes ≡ n → n ≡ 0 → bytes ≡ []
some_bytes [] n some is none = refl
some_bytes (b ∷ bytes) n some is none = absurd (omega (arith, is, none))

measured : (setup : List ℕ) (bytes : Option (List ℕ)) → length setup ≡ 8 → option_map_or (λ bytes. nat_lt 0 (length bytes) && length bytes == out_len setup) bytes (out_len setup == 0) ≡ true
    → IsMeasured setup (unwrap_or bytes [])
measured setup None long e = record {
  request = record { setup = long; bytes = λ write. sym (sym (write_len setup write) ∙ eqb-true (out_len setup) 0 e) };
  read = λ _. refl;
}
measured setup (Some bytes) long e =
    let a = and_parts (nat_lt 0 (length bytes)) (length bytes == out_len setup) e in
    let same : length bytes ≡ out_len setup = eqb-true (length bytes) (out_len setup) a.1 in
    record {
      request = record { setup = long; bytes = λ write. same ∙ write_len setup write };
      read = λ read. some_bytes bytes (out_len setup) a.0 same (read_len setup read);
    }

pub line_measured : (c : ControlLine) → length c.setup ≡ 8 → control_ranged c ≡ true → IsMeasured c.setup (unwrap_or c.bytes [])
line_measured c long e = measured c.setup c.bytes long e
