-- What a line that fits a form says is bytes.
use Rattle.std.proofs.Common.{◌≡◌, ℕ, zero, suc, List, [], length, Option, Some, None, refl, arith}
use Rattle.std.specs.Prelude.{◌==◌, replicate, unwrap_or}
use Rattle.std.proofs.lemmas.Bool.{cond_both}
use Rattle.script_forms.specs.declared.table.Form.{Form}
use Rattle.script_forms.specs.declared.table.Form.TheVariants as form
use Rattle.script_forms.specs.declared.statements.Answer.{Answer}
use Rattle.script_forms.specs.declared.statements.Answer.TheVariants as answer
use Rattle.script_forms.specs.declared.statements.Content.{Content}
use Rattle.script_forms.specs.declared.statements.Content.TheVariants as content
use Rattle.script_forms.specs.declared.statements.Statement.{Statement}
use Rattle.script_forms.specs.declared.statements.Statement.TheVariants as says
use Rattle.script_forms.specs.Syntax.{hex_of}
use Rattle.script_forms.specs.Values.{word_at, bytes_at, eight_of, statement_of}
use Rattle.law_scripts.specs.script_spelling.Spelling.{AreBytes}
use Rattle.law_scripts.proofs.lemmas.script_spelling.Hexes.{hex_spells}
use Rattle.law_scripts.proofs.lemmas.byte_answers.Lists.{Holds}

abbrev pub IsByteAnswered : Answer → Type 0
IsByteAnswered (answer.Data bytes) = AreBytes bytes
IsByteAnswered (answer.Fill n seed) = Unit {0}
IsByteAnswered (answer.Nak k) = Unit {0}
IsByteAnswered answer.Nyet = Unit {0}
IsByteAnswered answer.Stall = Unit {0}
IsByteAnswered (answer.Request setup bytes) = AreBytes bytes
IsByteAnswered answer.Epoch = Unit {0}

abbrev pub IsByteContent : Content → Type 0
IsByteContent (content.Given bytes) = AreBytes bytes
IsByteContent (content.Fill n seed) = Unit {0}

abbrev pub IsByteStatement : Statement → Type 0
IsByteStatement (says.Mem n) = Unit {0}
IsByteStatement (says.Hub addr ports multi) = Unit {0}
IsByteStatement (says.DevHigh addr) = Unit {0}
IsByteStatement (says.DevBelow b) = Unit {0}
IsByteStatement (says.Ep l) = Unit {0}
IsByteStatement (says.Reply name a) = IsByteAnswered a
IsByteStatement (says.Fate f) = Unit {0}
IsByteStatement (says.Stuff name p) = Unit {0}
IsByteStatement (says.Hold first last) = Unit {0}
IsByteStatement (says.Open name) = Unit {0}
IsByteStatement (says.Cancel name) = Unit {0}
IsByteStatement (says.Clear name) = Unit {0}
IsByteStatement (says.Get l) = Unit {0}
IsByteStatement (says.Put l) = IsByteContent l.content
IsByteStatement (says.Control c) = AreBytes c.setup × Holds AreBytes c.bytes
IsByteStatement (says.Iso l) = Unit {0}
IsByteStatement (says.Order event n) = Unit {0}
IsByteStatement (says.Micro n) = Unit {0}
IsByteStatement says.Unbuilt = Unit {0}

-- bytes that a word spells, or none
read_bytes : (w : List ℕ) (o : Option (List ℕ)) → hex_of w ≡ o → AreBytes (unwrap_or o [])
read_bytes w None e = tt
read_bytes w (Some bytes) e = (hex_spells w bytes e).0

there : (i : ℕ) (ws : List (List ℕ)) → AreBytes (bytes_at i ws)
there i ws = read_bytes (word_at i ws) (hex_of (word_at i ws)) refl

zeros : (n : ℕ) → AreBytes (replicate n 0)
zeros zero = tt
zeros (suc n) = (omega arith, zeros n)

eight : (bytes : List ℕ) → AreBytes bytes → AreBytes (eight_of bytes)
eight bytes h = cond_both (length bytes == 8) bytes (replicate 8 0) AreBytes (λ _. h) (λ _. zeros 8)

pub form_bytes : (f : Form) (ws : List (List ℕ)) → IsByteStatement (statement_of f ws)
unfolding statement_of
form_bytes form.ReplyData ws = there 4 ws
form_bytes form.ReplyRequest ws = there 5 ws
form_bytes form.Put ws = there 3 ws
form_bytes form.PutBy ws = there 3 ws
form_bytes form.Control ws = (eight (bytes_at 1 ws) (there 1 ws), tt)
form_bytes form.ControlData ws = (eight (bytes_at 1 ws) (there 1 ws), there 2 ws)
form_bytes _ ws = tt
