-- The token of a queue element transfer descriptor and of a queue head's overlay (EHCI 1.0, 3.5.3 and 3.6.3).
use Rattle.std.specs.Prelude.{ℕ, List, [], ◌∷◌}
use Rattle.link_words.specs.Layout.{BitRow, Number, Flag, Free, Above, word_of, bits, is_set}
use Rattle.qh_qtd.specs.declared.token.Token.{Token}

abbrev pub token_rows : List (BitRow Token)
token_rows =
    Flag 31 (λ t. t.toggle) ∷
    Number 30 16 (Above 0x5000) (λ t. t.total) ∷
    Flag 15 (λ t. t.ioc) ∷
    Number 14 12 (Above 4) (λ t. t.c_page) ∷
    Number 11 10 Free (λ t. t.cerr) ∷
    Number 9 8 (Above 2) (λ t. t.pid) ∷
    Flag 7 (λ t. t.active) ∷
    Flag 6 (λ t. t.halted) ∷
    Flag 5 (λ t. t.buffer_error) ∷
    Flag 4 (λ t. t.babble) ∷
    Flag 3 (λ t. t.xact_err) ∷
    Flag 2 (λ t. t.missed) ∷
    Flag 1 (λ t. t.split_state) ∷
    Flag 0 (λ t. t.ping) ∷ []

-- the word of a token
unfoldable pub token_word : Token → ℕ
token_word t = word_of token_rows t

-- the fields of a word, reserved values too
unfoldable pub token_at : ℕ → Token
token_at w = record {
  ping = is_set 0 w;
  split_state = is_set 1 w;
  missed = is_set 2 w;
  xact_err = is_set 3 w;
  babble = is_set 4 w;
  buffer_error = is_set 5 w;
  halted = is_set 6 w;
  active = is_set 7 w;
  pid = bits 9 8 w;
  cerr = bits 11 10 w;
  c_page = bits 14 12 w;
  ioc = is_set 15 w;
  total = bits 30 16 w;
  toggle = is_set 31 w;
}
